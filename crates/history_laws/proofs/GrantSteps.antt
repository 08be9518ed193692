-- The acts that give and take units: none of them tells a completion or moves a header.
use Rattle.std.proofs.Common.{◌≡◌, inl, Option, Some, None, refl, ◌∙◌, subst}
use Rattle.omx_types.specs.declared.command.Event.TheVariants as events
use Rattle.omx_types.specs.declared.command.Note.TheVariants.{Told}
use Rattle.omx_types.specs.declared.error.OmxError.TheVariants as errors
use Rattle.il_machine.specs.declared.answer.Granted.{Granted}
use Rattle.il_machine.specs.declared.answer.Granted.TheVariants as grants
use Rattle.il_machine.specs.declared.answer.Preempted.{Preempted}
use Rattle.il_machine.specs.declared.answer.Preempted.TheVariants as losses
use Rattle.il_machine.specs.declared.answer.Why.{Why}
use Rattle.il_machine.specs.World.{Component, World, changed_at, with_component}
use Rattle.il_machine.specs.Look.{look}
use Rattle.il_machine.specs.Due.{lost, ClosesTo}
use Rattle.il_machine.specs.Units.{is_waiter, is_before, first_waiter, victim, granted_units, preempted_units, with_changed, grant_idle, preempt_idle, Grants, Grant, Preempts, Preempt}
use Rattle.il_machine.specs.Acts as acts
use Rattle.il_machine.specs.Effect.{effect}
use Rattle.il_machine.specs.Sound.{Sound}
use Rattle.machine_laws.proofs.Arriving.{losing}
use Rattle.machine_laws.proofs.Granting.{best_among, victim_there, changed_there, preempted_by, on_its_way, marked, ending, told_loss}
use Rattle.history_laws.proofs.Growth.{Grows, grows_not, grows_on, grows_by, none_in, fails}
use Rattle.history_laws.proofs.Quiet.{KeepsState, Nothing as Silent}
use Rattle.history_laws.proofs.StillOut.{still_granted, still_preempted}
use Rattle.history_laws.proofs.Outcome.{Outcome, nothing_by}
use Rattle.history_laws.proofs.ComponentActs.{unmoving, one_changed}
use Rattle.history_laws.proofs.Twice.{IsSame, nothing_twice, closed_twice}

granted_grows : (c : Component) → Grows Silent c (granted_units c)
granted_grows c = grows_on Silent c (on_its_way c) (granted_units c) (grows_not Silent c (on_its_way c) refl refl) (grows_by Silent (Told events.ResourcesAcquired) (on_its_way c) (λ x a. absurd (none_in x a)))

preempted_grows : (c : Component) → Grows Silent c (preempted_units c)
preempted_grows c = preempted_by (Grows Silent c) c
    (λ f. grows_on Silent c (losing c) (lost c) (grows_not Silent c (losing c) refl refl) (fails Silent errors.ResourcesLost (losing c)))
    (λ t g. grows_not Silent c (marked c) refl refl)
    (λ t g. grows_on Silent c (ending c) (told_loss c) (grows_not Silent c (ending c) refl refl) (fails Silent errors.ResourcesPreempted (ending c)))

preempted_keeps : (c : Component) → KeepsState c (preempted_units c)
preempted_keeps c = preempted_by (KeepsState c) c (λ f. inl refl) (λ t g. inl refl) (λ t g. inl refl)

-- who is there, for the effect of the act
found_is : (o : Option Component) (c : Component) (w : World) (change : Component → World) → o ≡ Some c → changed_at o w change ≡ change c
found_is o c w change e = rw e refl

-- ---- grant

granted : (w v : World) (idle : Option Why) (waiter : Option Component) (answer : Granted) → first_waiter w.components ≡ waiter → Sound w → Grants idle waiter w answer v
    → Outcome w (unmoving (effect w acts.Grant (acts.Granted answer))) v
granted w v (Some reason) waiter answer e S G = nothing_by w v (λ a. unmoving (effect w acts.Grant (acts.Granted a))) answer (grants.Idle reason) G.0 refl G.1
granted w v None None answer e S G = absurd G
granted w v None (Some c) answer e S G =
    let A = best_among is_waiter is_before w.components c e in
    let is = changed_there granted_units w A.place c S.rising A.there in
    let after : effect w acts.Grant (acts.Granted answer) ≡ with_component A.place (granted_units c) w = rw G.0 (found_is (first_waiter w.components) c w (λ d. with_changed granted_units d w) e ∙ is) in
    one_changed w v (effect w acts.Grant (acts.Granted answer)) A.place c (granted_units c) after A.there (granted_grows c) (inl refl) (λ o. still_granted c) (subst (λ (x : World). ClosesTo x v) is G.1)

pub grant : (w : World) (answer : Granted) (v : World) → Sound w → Grant w answer v → Outcome w (unmoving (effect w acts.Grant (acts.Granted answer))) v
grant w answer v S G = granted w v (grant_idle (look w)) (first_waiter w.components) answer refl S G

granted_twice : (w v u : World) (idle : Option Why) (waiter : Option Component) (x y : Granted) → Grants idle waiter w x v → Grants idle waiter w y u → IsSame x y v u
granted_twice w v u (Some reason) waiter x y p q = nothing_twice w (grants.Idle reason) x y v u p.0 p.1 q.0 q.1
granted_twice w v u None None x y p q = absurd p
granted_twice w v u None (Some c) x y p q = closed_twice (with_changed granted_units c w) (grants.Granted c.handle) x y v u p.0 p.1 q.0 q.1

pub grant_twice : (w : World) (x y : Granted) (v u : World) → Grant w x v → Grant w y u → IsSame x y v u
grant_twice w x y v u p q = granted_twice w v u (grant_idle (look w)) (first_waiter w.components) x y p q

-- ---- preempt

preempted : (w v : World) (idle : Option Why) (weak : Option Component) (answer : Preempted) → victim w.components ≡ weak → Sound w → Preempts idle weak w answer v
    → Outcome w (unmoving (effect w acts.Preempt (acts.Preempted answer))) v
preempted w v (Some reason) weak answer e S G = nothing_by w v (λ a. unmoving (effect w acts.Preempt (acts.Preempted a))) answer (losses.Idle reason) G.0 refl G.1
preempted w v None None answer e S G = absurd G
preempted w v None (Some c) answer e S G =
    let A = victim_there w c S e in
    let is = changed_there preempted_units w A.place c S.rising A.there in
    let after : effect w acts.Preempt (acts.Preempted answer) ≡ with_component A.place (preempted_units c) w = rw G.0 (found_is (victim w.components) c w (λ d. with_changed preempted_units d w) e ∙ is) in
    one_changed w v (effect w acts.Preempt (acts.Preempted answer)) A.place c (preempted_units c) after A.there (preempted_grows c) (preempted_keeps c) (λ o. still_preempted c) (subst (λ (x : World). ClosesTo x v) is G.1)

pub preempt : (w : World) (answer : Preempted) (v : World) → Sound w → Preempt w answer v → Outcome w (unmoving (effect w acts.Preempt (acts.Preempted answer))) v
preempt w answer v S G = preempted w v (preempt_idle (look w)) (victim w.components) answer refl S G

preempted_twice : (w v u : World) (idle : Option Why) (weak : Option Component) (x y : Preempted) → Preempts idle weak w x v → Preempts idle weak w y u → IsSame x y v u
preempted_twice w v u (Some reason) weak x y p q = nothing_twice w (losses.Idle reason) x y v u p.0 p.1 q.0 q.1
preempted_twice w v u None None x y p q = absurd p
preempted_twice w v u None (Some c) x y p q = closed_twice (with_changed preempted_units c w) (losses.Victim c.handle) x y v u p.0 p.1 q.0 q.1

pub preempt_twice : (w : World) (x y : Preempted) (v u : World) → Preempt w x v → Preempt w y u → IsSame x y v u
preempt_twice w x y v u p q = preempted_twice w v u (preempt_idle (look w)) (victim w.components) x y p q
