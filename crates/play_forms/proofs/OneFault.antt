-- A script that has a plan has no fault, and one that has none has one first fault.
use Rattle.std.proofs.Common.{◌≡◌, ℕ, List, refl, sym, ◌∙◌, ap, subst, arith}
use Rattle.script_lang.specs.declared.play_line.PartLine.{PartLine}
use Rattle.script_lang.specs.declared.play_line.LinkLine.{LinkLine}
use Rattle.play_forms.specs.declared.joint.Joint.{Joint}
use Rattle.play_forms.specs.declared.plan_fault.PlanFault.{PlanFault}
use Rattle.play_forms.specs.declared.plan_fault.PlanFault.TheVariants.{Cycle, OpenPort, PortTwice, TooMany, Units, Wrong, Small, Differ, OutOfMemory}
use Rattle.play_forms.specs.Joints.{joints_of}
use Rattle.play_forms.specs.Plans.{IsPlanOf, IsSameFault, IsShapeFault, IsValid, PlanValue}
use Rattle.play_forms.proofs.OnePlan.{few_not_many, joined_not_twice, linked_not_open, one_cycle, one_many, one_open, one_twice, order_not_cycle}

valid_faultless : (plan : PlanValue) (fault : PlanFault) → IsValid plan → IsShapeFault plan.units plan.parts plan.joints fault → fault ≡ OutOfMemory
valid_faultless plan (PortTwice line) v f = joined_not_twice plan.parts plan.joints line v.joined f
valid_faultless plan (OpenPort line port) v f = linked_not_open plan.parts plan.joints line port v.linked f.1
valid_faultless plan (TooMany line) v f = few_not_many plan.joints line v.few f.2
valid_faultless plan (Cycle line) v f = order_not_cycle plan.parts plan.joints plan.order line v.placed f.3
valid_faultless plan (Units have need) v f = let enough = v.enough in let short = f.6 in absurd (omega arith)
valid_faultless plan (Wrong line) v f = absurd f
valid_faultless plan (Small line) v f = absurd f
valid_faultless plan (Differ line) v f = absurd f
valid_faultless plan OutOfMemory v f = refl

pub planned_faultless : (units : ℕ) (parts : List PartLine) (links : List LinkLine) (plan : PlanValue) (fault : PlanFault) → IsPlanOf units parts links plan
    → IsShapeFault units parts (joints_of parts links) fault → fault ≡ OutOfMemory
planned_faultless units parts links plan fault is f =
    valid_faultless plan fault is.valid
    (subst (λ n. IsShapeFault n plan.parts plan.joints fault) (sym is.units_of)
    (subst (λ ps. IsShapeFault units ps plan.joints fault) (sym is.parts_of)
    (subst (λ js. IsShapeFault units parts js fault) (sym is.joints_of) f)))

pub one_fault : (units : ℕ) (parts : List PartLine) (joints : List Joint) (fault other : PlanFault) → IsShapeFault units parts joints fault → IsShapeFault units parts joints other
    → IsSameFault fault other
one_fault units parts joints OutOfMemory other f g is is' = absurd (is refl)
one_fault units parts joints fault OutOfMemory f g is is' = absurd (is' refl)
one_fault units parts joints (Wrong line) other f g is is' = absurd f
one_fault units parts joints (Small line) other f g is is' = absurd f
one_fault units parts joints (Differ line) other f g is is' = absurd f
one_fault units parts joints fault (Wrong line) f g is is' = absurd g
one_fault units parts joints fault (Small line) f g is is' = absurd g
one_fault units parts joints fault (Differ line) f g is is' = absurd g
one_fault units parts joints (PortTwice line) (PortTwice other) f g is is' = ap PortTwice (one_twice parts joints line other f g)
one_fault units parts joints (PortTwice line) (OpenPort other port) f g is is' = joined_not_twice parts joints line g.0 f
one_fault units parts joints (PortTwice line) (TooMany other) f g is is' = joined_not_twice parts joints line g.0 f
one_fault units parts joints (PortTwice line) (Cycle other) f g is is' = joined_not_twice parts joints line g.0 f
one_fault units parts joints (PortTwice line) (Units have need) f g is is' = joined_not_twice parts joints line g.0 f
one_fault units parts joints (OpenPort line port) (PortTwice other) f g is is' = joined_not_twice parts joints other f.0 g
one_fault units parts joints (OpenPort line port) (OpenPort other_line other) f g is is' =
    let same = one_open parts joints line port other_line other f.1 g.1 in
    ap (λ l. OpenPort l port) same.0 ∙ ap (OpenPort other_line) same.1
one_fault units parts joints (OpenPort line port) (TooMany other) f g is is' = linked_not_open parts joints line port g.1 f.1
one_fault units parts joints (OpenPort line port) (Cycle other) f g is is' = linked_not_open parts joints line port g.1 f.1
one_fault units parts joints (OpenPort line port) (Units have need) f g is is' = linked_not_open parts joints line port g.1 f.1
one_fault units parts joints (TooMany line) (PortTwice other) f g is is' = joined_not_twice parts joints other f.0 g
one_fault units parts joints (TooMany line) (OpenPort other port) f g is is' = linked_not_open parts joints other port f.1 g.1
one_fault units parts joints (TooMany line) (TooMany other) f g is is' = ap TooMany (one_many joints line other f.2 g.2)
one_fault units parts joints (TooMany line) (Cycle other) f g is is' = few_not_many joints line g.2 f.2
one_fault units parts joints (TooMany line) (Units have need) f g is is' = few_not_many joints line g.2 f.2
one_fault units parts joints (Cycle line) (PortTwice other) f g is is' = joined_not_twice parts joints other f.0 g
one_fault units parts joints (Cycle line) (OpenPort other port) f g is is' = linked_not_open parts joints other port f.1 g.1
one_fault units parts joints (Cycle line) (TooMany other) f g is is' = few_not_many joints other f.2 g.2
one_fault units parts joints (Cycle line) (Cycle other) f g is is' = ap Cycle (one_cycle parts joints line other f.3 g.3)
one_fault units parts joints (Cycle line) (Units have need) f g is is' = order_not_cycle parts joints g.3.0 line g.3.1 f.3
one_fault units parts joints (Units have need) (PortTwice other) f g is is' = joined_not_twice parts joints other f.0 g
one_fault units parts joints (Units have need) (OpenPort other port) f g is is' = linked_not_open parts joints other port f.1 g.1
one_fault units parts joints (Units have need) (TooMany other) f g is is' = few_not_many joints other f.2 g.2
one_fault units parts joints (Units have need) (Cycle other) f g is is' = order_not_cycle parts joints f.3.0 other f.3.1 g.3
one_fault units parts joints (Units have need) (Units held needed) f g is is' =
    ap (λ n. Units n need) (f.4 ∙ sym g.4) ∙ ap (Units held) (f.5 ∙ sym g.5)
