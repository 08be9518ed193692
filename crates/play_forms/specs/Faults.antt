-- What a script without a plan is for a play.
use Rattle.omx_types.specs.declared.fault.Fault.{Fault}
use Rattle.omx_types.specs.declared.fault.Fault.TheVariants as Faults
use Rattle.omx_types.specs.declared.fault.ScriptWhy.TheVariants as Whys
use Rattle.play_forms.specs.declared.plan_fault.PlanFault.{PlanFault}
use Rattle.play_forms.specs.declared.plan_fault.PlanFault.TheVariants as Plans

abbrev pub fault_of_plan : PlanFault → Fault
fault_of_plan (Plans.Cycle line) = Faults.Script line Whys.Cycle
fault_of_plan (Plans.OpenPort line port) = Faults.Script line Whys.OpenPort
fault_of_plan (Plans.PortTwice line) = Faults.Script line Whys.PortTwice
fault_of_plan (Plans.TooMany line) = Faults.Script line Whys.TooManyBlocks
fault_of_plan (Plans.Units have need) = Faults.Units have need
fault_of_plan (Plans.Wrong line) = Faults.Script line Whys.Wrong
fault_of_plan (Plans.Small line) = Faults.Script line Whys.Small
fault_of_plan (Plans.Differ line) = Faults.Script line Whys.Differ
fault_of_plan Plans.OutOfMemory = Faults.OutOfMemory
