-- Units are granted or taken in each world that the graph stands for.
use Rattle.std.proofs.Common.{◌≡◌, Some, None, MatchOption, refl, sym, ◌∙◌, ap}
use Rattle.omx_types.specs.declared.handle.Handle.{Handle}
use Rattle.il_machine.specs.declared.answer.Granted.TheVariants as grants
use Rattle.il_machine.specs.declared.answer.Preempted.TheVariants as losses
use Rattle.il_machine.specs.declared.answer.Progress.{Progress}
use Rattle.il_machine.specs.declared.answer.Why.{Why}
use Rattle.il_machine.specs.World.{Component, World}
use Rattle.il_machine.specs.Look.{Look, look}
use Rattle.il_machine.specs.Due.{ClosesTo}
use Rattle.il_machine.specs.Units.{first_waiter, victim, granted_units, preempted_units, with_changed, grant_idle, preempt_idle, Grant, Preempt}
use Rattle.stock_laws.specs.Bare.{StepsBare}
use Rattle.machine_laws.proofs.Keys.{there_is}
use Rattle.stock_laws.proofs.Answering.{then_closes}
use Rattle.stock_laws.proofs.Following.{as_change, stay}
use Rattle.graph_core.specs.Entries.{Entries, components_of, look_of, kept}

grant_is : (w v : World) (c : Component) (h : Handle) → grant_idle (look w) ≡ None → first_waiter w.components ≡ Some c → h ≡ c.handle → ClosesTo (with_changed granted_units c w) v → Grant w (grants.Granted h) v
grant_is w v c h i f q K = rw (i, f, q) (refl, K)

preempt_is : (w v : World) (c : Component) (h : Handle) → preempt_idle (look w) ≡ None → victim w.components ≡ Some c → h ≡ c.handle → ClosesTo (with_changed preempted_units c w) v → Preempt w (losses.Victim h) v
preempt_is w v c h i f q K = rw (i, f, q) (refl, K)

module _ {C : Type 0} (progress : C → Progress) (g : Entries C) where
  pub no_grant : (reason : Why) → Some reason ≡ grant_idle (look_of g) → StepsBare (kept progress g) (kept progress g) (λ w v. Grant w (grants.Idle reason) v)
  no_grant reason e = stay (kept progress g) (λ w v. Grant w (grants.Idle reason) v) (λ w S. rw (ap grant_idle S.looks ∙ sym e) (refl, refl))

  pub no_victim : (reason : Why) → Some reason ≡ preempt_idle (look_of g) → StepsBare (kept progress g) (kept progress g) (λ w v. Preempt w (losses.Idle reason) v)
  no_victim reason e = stay (kept progress g) (λ w v. Preempt w (losses.Idle reason) v) (λ w S. rw (ap preempt_idle S.looks ∙ sym e) (refl, refl))

  module _ (m k : Entries C) (h : Handle) (closes : StepsBare (kept progress m) (kept progress k) ClosesTo) where
    pub granted : None ≡ grant_idle (look_of g)
        → MatchOption (first_waiter (components_of g.entries)) ⊥ (λ c. (h ≡ c.handle) × StepsBare (kept progress g) (kept progress m) (λ w v. v ≡ with_changed granted_units c w))
        → StepsBare (kept progress g) (kept progress k) (λ w v. Grant w (grants.Granted h) v)
    granted e s =
        let x = there_is (first_waiter (components_of g.entries)) (λ c. (h ≡ c.handle) × StepsBare (kept progress g) (kept progress m) (λ w v. v ≡ with_changed granted_units c w)) s in
        as_change (kept progress g) (kept progress k) (λ w v. ClosesTo (with_changed granted_units x.0 w) v) (λ w v. Grant w (grants.Granted h) v)
        (then_closes (kept progress g) (kept progress m) (kept progress k) (with_changed granted_units x.0) (x.2).1 closes)
        (λ w v S K. grant_is w v x.0 h (ap grant_idle S.looks ∙ sym e) (ap (λ (l : Look). first_waiter l.components) S.looks ∙ x.1) (x.2).0 K)

    pub preempted : None ≡ preempt_idle (look_of g)
        → MatchOption (victim (components_of g.entries)) ⊥ (λ c. (h ≡ c.handle) × StepsBare (kept progress g) (kept progress m) (λ w v. v ≡ with_changed preempted_units c w))
        → StepsBare (kept progress g) (kept progress k) (λ w v. Preempt w (losses.Victim h) v)
    preempted e s =
        let x = there_is (victim (components_of g.entries)) (λ c. (h ≡ c.handle) × StepsBare (kept progress g) (kept progress m) (λ w v. v ≡ with_changed preempted_units c w)) s in
        as_change (kept progress g) (kept progress k) (λ w v. ClosesTo (with_changed preempted_units x.0 w) v) (λ w v. Preempt w (losses.Victim h) v)
        (then_closes (kept progress g) (kept progress m) (kept progress k) (with_changed preempted_units x.0) (x.2).1 closes)
        (λ w v S K. preempt_is w v x.0 h (ap preempt_idle S.looks ∙ sym e) (ap (λ (l : Look). victim l.components) S.looks ∙ x.1) (x.2).0 K)
