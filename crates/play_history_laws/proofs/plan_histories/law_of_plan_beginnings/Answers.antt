use Rattle.play_history_laws.proofs.PlanOpening.{plan_begins, plan_faulty, plan_flows}
use Rattle.play_history_laws.proofs.plan_histories.law_of_plan_beginnings.Goals as goal

pub returns : goal.returns
returns c = record { taken = plan_begins; faulty = plan_faulty; flows = plan_flows }
