-- No work comes to be out but by a claim.
use Rattle.std.proofs.Common.{◌≡◌, ℕ, false, List, All, Option, Some, None, is_some, refl, sym, ◌∙◌, ap}
use Rattle.std.specs.Prelude.{option_and_then}
use Rattle.il_machine.specs.World.{Component, Work, World, component_numbered, number_of}
use Rattle.il_machine.specs.Acts.{Act, Reply}
use Rattle.il_machine.specs.Run.{Step, Meets}
use Rattle.il_machine.specs.Sound.{Sound}
use Rattle.machine_laws.proofs.Every.{at_place, from_places}
use Rattle.machine_laws.proofs.Steps.{sound_step}
use Rattle.history_laws.specs.Works.{has_work_out, takes_work}
use Rattle.history_laws.proofs.Freed.{none_comes}
use Rattle.history_laws.proofs.HeldOut.{placed_in}
use Rattle.history_laws.proofs.Named.{named, is_named, named_there}
use Rattle.play_run.specs.Playing.{HaveNoWork}

none_in : (n : ℕ) (cs : List Component) (o : Option Component) → named n cs ≡ o → All (λ (c : Component). c.work ≡ None) cs → is_some (option_and_then (λ (c : Component). c.work) o) ≡ false
none_in n cs None e A = refl
none_in n cs (Some c) e A = let i = placed_in n cs c e in ap is_some (at_place (λ (d : Component). d.work ≡ None) cs i.0 c A i.1)

pub no_work : (o : Option Work) → is_some o ≡ false → o ≡ None
no_work None e = refl
no_work (Some work) e = absurd cc

pub none_out : (n : ℕ) (w : World) → HaveNoWork w → has_work_out n w ≡ false
none_out n w A = none_in n w.components (component_numbered n w) (sym (is_named n w)) A

-- where no component has one out, none has
pub all_in : (v : World) → Sound v → ((n : ℕ) → has_work_out n v ≡ false) → HaveNoWork v
all_in v Z h = from_places (λ (c : Component). c.work ≡ None) v.components (λ i c e.
    let n = number_of c in
    let there : component_numbered n v ≡ Some c = is_named n v ∙ named_there 0 v.numbered i v.components c Z.rising e in
    no_work c.work (sym (ap (λ (o : Option Component). is_some (option_and_then (λ (d : Component). d.work) o)) there) ∙ h n))

pub still_none : (w : World) (a : Act) (r : Reply) (v : World) → Sound w → Meets w a → Step w a r v → ((n : ℕ) → takes_work n a r ≡ false) → HaveNoWork w → HaveNoWork v
still_none w a r v S M h t A = all_in v (sound_step w v a r M h S) (λ n. none_comes w a r v n S M h (t n) (none_out n w A))
