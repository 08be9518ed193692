use Rattle.play_plan_laws.proofs.Limits.{flows_lawful, in_limits}
use Rattle.play_plan_laws.proofs.plans.law_of_limits.Goals as goal

pub returns : goal.returns
returns c = record {
  limits = λ plan heads V F T S H. in_limits plan heads V F T S H;
  flows = λ plan heads l flow V F T S H e. flows_lawful plan heads V F T S H l flow e;
}
