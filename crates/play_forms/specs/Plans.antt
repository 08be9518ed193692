-- A plan, and the scripts that have one.
use Rattle.std.specs.Prelude.{◌≡◌, ℕ, ◌<◌, ◌≤◌, List, length, replicate}
use Rattle.script_lang.specs.declared.play_line.PartLine.{PartLine}
use Rattle.script_lang.specs.declared.play_line.LinkLine.{LinkLine}
use Rattle.script_lang.specs.declared.script.Script.{Script}
use Rattle.script_lang.specs.declared.script.Script.TheVariants.{Play, Trace}
use Rattle.wav_form.specs.declared.heads.WavHead.{WavHead}
use Rattle.play_forms.specs.declared.flow.Flow.{Flow}
use Rattle.play_forms.specs.declared.joint.Joint.{Joint}
use Rattle.play_forms.specs.declared.plan_fault.PlanFault.{PlanFault}
use Rattle.play_forms.specs.declared.plan_fault.PlanFault.TheVariants.{Cycle, OpenPort, PortTwice, TooMany, Units, OutOfMemory}
use Rattle.play_forms.specs.Fitting.{AllFit, IsMisfit}
use Rattle.play_forms.specs.Flows.{AreFlows, AreFrames, no_flow}
use Rattle.play_forms.specs.Joints.{AllJoin, AllLinked, IsOpen, IsTooMany, IsTwice, headers_of, joints_of}
use Rattle.play_forms.specs.Parts.{units_needed}
use Rattle.play_forms.specs.Placing.{IsCycle, IsOrder}

-- the units and the components of the script, its links, the order of placing, what goes through each link, and each component's frames
pub record PlanValue : Type 0 where
  pub units : ℕ
  pub parts : List PartLine
  pub joints : List Joint
  pub order : List ℕ
  pub flows : List Flow
  pub frames : List ℕ

-- every port of every component has one link, the headers are few, every component has its place, and the units are enough
pub record IsValid (plan : PlanValue) : Type 0 where
  pub most : length plan.parts ≤ 32
  pub joined : AllJoin plan.parts plan.joints
  pub linked : AllLinked plan.parts plan.joints
  pub few : headers_of plan.joints ≤ 1024
  pub placed : IsOrder plan.joints (length plan.parts) plan.order
  pub enough : units_needed plan.parts ≤ plan.units
  pub flows : length plan.flows ≡ length plan.joints
  pub frames : length plan.frames ≡ length plan.parts

-- the plan of a script, before the heads of its files are known
pub record IsPlanOf (units : ℕ) (parts : List PartLine) (links : List LinkLine) (plan : PlanValue) : Type 0 where
  pub units_of : plan.units ≡ units
  pub parts_of : plan.parts ≡ parts
  pub joints_of : plan.joints ≡ joints_of parts links
  pub valid : IsValid plan
  pub no_flows : plan.flows ≡ replicate (length plan.joints) no_flow
  pub no_frames : plan.frames ≡ replicate (length plan.parts) 0

-- the first fault of a script's shape, in this order: a port that isn't there or is named twice, an open port, too many headers, a
-- cycle, too few units
abbrev pub IsShapeFault : ℕ → List PartLine → List Joint → PlanFault → Type 0
IsShapeFault units parts joints (PortTwice line) = IsTwice parts joints line
IsShapeFault units parts joints (OpenPort line port) = AllJoin parts joints × IsOpen parts joints line port
IsShapeFault units parts joints (TooMany line) = AllJoin parts joints × AllLinked parts joints × IsTooMany joints line
IsShapeFault units parts joints (Cycle line) =
    AllJoin parts joints × AllLinked parts joints × (headers_of joints ≤ 1024) × IsCycle parts joints line
IsShapeFault units parts joints (Units have need) =
    AllJoin parts joints × AllLinked parts joints × (headers_of joints ≤ 1024) × ((order : List ℕ) × IsOrder joints (length parts) order)
    × (have ≡ units) × (need ≡ units_needed parts) × (units < units_needed parts)
-- want of memory
IsShapeFault units parts joints OutOfMemory = Unit {0}
IsShapeFault units parts joints other = ⊥

abbrev pub IsPlanOfScript : Script → PlanValue → Type 0
IsPlanOfScript (Play units parts links) plan = IsPlanOf units parts links plan
IsPlanOfScript (Trace units lines) plan = ⊥

abbrev pub IsFaultOfScript : Script → PlanFault → Type 0
IsFaultOfScript (Play units parts links) fault = IsShapeFault units parts (joints_of parts links) fault
IsFaultOfScript (Trace units lines) fault = ⊥

-- the same plan, with what goes through its links by these heads
pub record IsFitted (plan : PlanValue) (heads : List WavHead) (fitted : PlanValue) : Type 0 where
  pub units : fitted.units ≡ plan.units
  pub parts : fitted.parts ≡ plan.parts
  pub joints : fitted.joints ≡ plan.joints
  pub order : fitted.order ≡ plan.order
  pub flows : AreFlows plan.parts plan.joints heads fitted.flows
  pub frames : AreFrames plan.parts plan.joints heads fitted.flows fitted.frames

-- every link fits the input that it leads into
abbrev pub IsFit : PlanValue → Type 0
IsFit plan = AllFit plan.parts plan.joints plan.flows plan.order

-- the first link that doesn't
abbrev pub IsFitFault : PlanValue → PlanFault → Type 0
IsFitFault plan fault = IsMisfit plan.parts plan.joints plan.order plan.flows fault

-- they are one fault, but for want of memory
abbrev pub IsSameFault : PlanFault → PlanFault → Type 0
IsSameFault fault other = (fault ≡ OutOfMemory → ⊥) → (other ≡ OutOfMemory → ⊥) → fault ≡ other
