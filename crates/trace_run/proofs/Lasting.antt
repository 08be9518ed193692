-- A component that is Invalid stays so over the acts of a trace's end, and no work comes to be out.
use Rattle.std.proofs.Common.{◌≡◌, inl, inr, ℕ, Bool, false, List, All, Option, Some, None, is_some, refl, sym, ◌∙◌, ap, subst}
use Rattle.std.specs.Prelude.{option_and_then}
use Rattle.omx_types.specs.declared.handle.Handle.{Handle}
use Rattle.omx_types.specs.declared.state.State.TheVariants.{Invalid}
use Rattle.il_machine.specs.World.{Component, Work, World, component_numbered, number_of}
use Rattle.il_machine.specs.Look.{Look}
use Rattle.il_machine.specs.Acts.{Act, Reply}
use Rattle.il_machine.specs.Run.{Step, Meets}
use Rattle.il_machine.specs.Sound.{Sound}
use Rattle.il_machine.specs.Due.{ClosesTo}
use Rattle.il_machine.specs.Whole.{Kept, Stands}
use Rattle.machine_laws.proofs.Every.{at_place, from_places}
use Rattle.history_laws.proofs.Calm.{Fit, lasting}
use Rattle.history_laws.proofs.Cores.{core, NoneGot, closes_each, outcome_each}
use Rattle.history_laws.proofs.Steps.{step_comes}
use Rattle.history_laws.proofs.Named.{named, is_named, named_there}
use Rattle.history_laws.proofs.HeldOut.{placed_in}
use Rattle.history_laws.proofs.Freed.{none_comes}
use Rattle.history_laws.specs.Works.{has_work_out, takes_work}
use Rattle.machine_laws.proofs.Steps.{sound_step}
use Rattle.trace_run.specs.declared.names.NamedComponent.{NamedComponent}
use Rattle.trace_run.specs.Standing.{IsSeated}
use Rattle.trace_run.specs.Closing.{HaveNoWork, IsEnded}

-- nothing is said of the handle and the client object
abbrev pub Any : Handle → Bool → Type 0
Any h out = Unit {0}

-- the component of the handle is Invalid, and no Invalid one has something pending
abbrev pub AreEnding : Handle → World → Type 0
AreEnding h w = All (λ (c : Component). Fit Any (λ (k : Handle). k ≡ h) (core c)) w.components

pub ending_of : (components : List NamedComponent) (h : Handle) (k : Kept) (w : World) → Stands k w → All (IsSeated components) (k.looks).components → IsEnded h k.looks → AreEnding h w
ending_of components h k w S A E =
    let cs = (k.looks).components in
    let F : Component → Type 0 = λ (c : Component). Fit Any (λ (k : Handle). k ≡ h) (core c) in
    subst (All F) (sym (ap (λ (l : Look). l.components) S.looks)) (from_places F cs (λ i c e.
    (tt, (at_place (IsSeated components) cs i c A e).1, at_place (λ (c : Component). c.handle ≡ h → c.state ≡ Invalid) cs i c E e)))

pub ended_of : (h : Handle) (k : Kept) (w : World) → Stands k w → AreEnding h w → IsEnded h k.looks
ended_of h k w S A =
    let F : Component → Type 0 = λ (c : Component). Fit Any (λ (k : Handle). k ≡ h) (core c) in
    let E : Component → Type 0 = λ (c : Component). c.handle ≡ h → c.state ≡ Invalid in
    subst (All E) (ap (λ (l : Look). l.components) S.looks) (from_places E w.components (λ i c e. (at_place F w.components i c A e).2))

pub ending_step : (h : Handle) (w : World) (a : Act) (r : Reply) (v : World) → Sound w → Meets w a → Step w a r v → NoneGot a r → AreEnding h w → AreEnding h v
ending_step h w a r v S M s n A =
    outcome_each (Fit Any (λ (k : Handle). k ≡ h)) (lasting Any (λ (k : Handle). k ≡ h) (λ k out q. tt)) w a r v S (inl n) (λ k x c work e f g p. p) (inr (λ c p. p)) (step_comes w a r v S M s) A

pub ending_closes : (h : Handle) (w v : World) → ClosesTo w v → AreEnding h w → AreEnding h v
ending_closes h w v C A = closes_each (Fit Any (λ (k : Handle). k ≡ h)) (lasting Any (λ (k : Handle). k ≡ h) (λ k out q. tt)) w v C A

-- ---- no work is out

abbrev pub HaveNone : World → Type 0
HaveNone w = All (λ (c : Component). c.work ≡ None) w.components

none_in : (n : ℕ) (cs : List Component) (o : Option Component) → named n cs ≡ o → All (λ (c : Component). c.work ≡ None) cs → is_some (option_and_then (λ (c : Component). c.work) o) ≡ false
none_in n cs None e A = refl
none_in n cs (Some c) e A = let i = placed_in n cs c e in ap is_some (at_place (λ (d : Component). d.work ≡ None) cs i.0 c A i.1)

no_work : (o : Option Work) → is_some o ≡ false → o ≡ None
no_work None e = refl
no_work (Some work) e = absurd cc

pub none_step : (w : World) (a : Act) (r : Reply) (v : World) → Sound w → Meets w a → Step w a r v → ((n : ℕ) → takes_work n a r ≡ false) → HaveNone w → HaveNone v
none_step w a r v S M h t A =
    let Z = sound_step w v a r M h S in
    from_places (λ (c : Component). c.work ≡ None) v.components (λ i c e.
    let n = number_of c in
    let before : has_work_out n w ≡ false = none_in n w.components (component_numbered n w) (sym (is_named n w)) A in
    let there : component_numbered n v ≡ Some c = is_named n v ∙ named_there 0 v.numbered i v.components c Z.rising e in
    no_work c.work (sym (ap (λ (o : Option Component). is_some (option_and_then (λ (d : Component). d.work) o)) there) ∙ none_comes w a r v n S M h (t n) before))

pub none_there : (k : Kept) (w : World) → Stands k w → HaveNoWork k.looks → HaveNone w
none_there k w S A = subst (All (λ (c : Component). c.work ≡ None)) (sym (ap (λ (l : Look). l.components) S.looks)) A

pub none_here : (k : Kept) (w : World) → Stands k w → HaveNone w → HaveNoWork k.looks
none_here k w S A = subst (All (λ (c : Component). c.work ≡ None)) (ap (λ (l : Look). l.components) S.looks) A
