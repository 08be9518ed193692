-- In a world of an assembly nothing is pending, so its close-out changes nothing.
use Rattle.std.proofs.Common.{◌≡◌, ℕ, ◌+◌, Bool, true, false, not, ◌&&◌, List, [], ◌∷◌, Option, Some, None, is_some, All, slice_get, if◌then◌else◌, refl, ◌∙◌, ap}
use Rattle.std.proofs.lemmas.List.Elements.{All-head, All-tail}
use Rattle.il_machine.specs.declared.answer.Pending.{Pending}
use Rattle.il_machine.specs.declared.port.Mark.{Mark}
use Rattle.il_machine.specs.declared.port.Mode.{Mode}
use Rattle.il_machine.specs.declared.port.Mode.TheVariants.{Steady, Enabling, Disabling}
use Rattle.il_machine.specs.declared.port.Port.{Port}
use Rattle.il_machine.specs.declared.port.PortSetting.{PortSetting}
use Rattle.il_machine.specs.declared.port.PortState.{PortState}
use Rattle.il_machine.specs.Due.{ClosesTo, IsClosed, Thing, due_in, has_due, is_due_to, is_flush_due, is_mark_due, is_mode_due, is_transition_due, things_of}
use Rattle.il_machine.specs.Headers.{Seen, seen, is_home_of, is_owned_by, none_is}
use Rattle.il_machine.specs.Lists.{all_of, first_of_these, holds_at, is_empty}
use Rattle.il_machine.specs.Ports.{IsCalm, IsCalmPort, is_steady}
use Rattle.il_machine.specs.World.{Component, World, number_of, ports_from}
use Rattle.il_machine.proofs.Places.{is_first_place}
use Rattle.machine_laws.proofs.Closing.{closed_closes}
use Rattle.play_build_laws.specs.Assembly.{Assembly}
use Rattle.play_build_laws.specs.Stages.{AreBuilt, Progress}
use Rattle.play_build_laws.proofs.Places.{none_first}

pub skips : {E : Type 0} (b : Bool) (x : E) (rest : Option E) → b ≡ false → rest ≡ None → (if b then Some x else rest) ≡ None
skips true x rest e h = absurd cc
skips false x rest e h = h

mode_of : (m : Mode) → is_steady m ≡ true → m ≡ Steady
mode_of Steady h = refl
mode_of Enabling h = absurd cc
mode_of Disabling h = absurd cc

no_things : (headers : Seen) (c : Component) (number index : ℕ) (ss : List PortSetting) (ps : List PortState) → All IsCalmPort ps → first_of_these (things_of headers c (ports_from number index ss ps)) ≡ None
no_things headers c number index [] ps A = refl
no_things headers c number index (x ∷ ss) [] A = refl
no_things headers c number index (x ∷ ss) (y ∷ ps) A =
    let C = All-head IsCalmPort y ps A in
    let p : Port = record { key = record { component = number; port = index }; setting = x; state = y } in
    let flush : is_flush_due headers c p ≡ false = ap (λ (b : Bool). b && all_of (none_is headers (λ r. is_owned_by p.key r.owner && not (is_home_of p.key r.home)) ∷ is_none_work c ∷ [])) C.quiet in
    let mode : is_mode_due headers c p p.state.mode ≡ false = ap (is_mode_due headers c p) (mode_of y.mode C.steady) in
    let mark : is_mark_due headers p ≡ false = ap (λ (o : Option Mark). is_some o && not (is_empty (headers.unmarked p.key))) C.unmarked in
    skips _ _ _ flush (skips _ _ _ mode (skips _ _ _ mark (no_things headers c number (index + 1) ss ps (All-tail IsCalmPort y ps A))))
  where
    is_none_work : Component → Bool
    is_none_work c = not (is_some c.work)

none_due : (headers : Seen) (a : Component) → a.pending ≡ None → All IsCalmPort a.ports → due_in headers a ≡ None
none_due headers a e A =
    let t : is_transition_due headers a ≡ false = ap (λ (o : Option Pending). holds_at o (λ p. is_due_to headers a p.target)) e in
    skips _ _ _ t (no_things headers a (number_of a) 0 a.settings.ports a.ports A)

-- where every component is calm nothing is due
pub calm_closed : (w : World) → ((i : ℕ) (a : Component) → slice_get w.components i ≡ Some a → IsCalm a) → IsClosed w
calm_closed w h = is_first_place (has_due (seen w.headers)) w.components ∙ none_first (has_due (seen w.headers)) w.components (λ i a e.
    let C = h i a e in
    ap (λ (o : Option Thing). is_some o) (none_due (seen w.headers) a C.resting C.ports))

pub built_closed : (s : Assembly) (p : Progress) (w : World) → AreBuilt s p w.components → IsClosed w
built_closed s p w A = calm_closed w (λ i a e. let B = A.each i a e in record { resting = ap (λ (y : Component). y.pending) B.fresh_else; ports = B.calm })

pub built_closes : (s : Assembly) (p : Progress) (w v : World) → AreBuilt s p w.components → ClosesTo w v → v ≡ w
built_closes s p w v A C = closed_closes w v (built_closed s p w A) C
