use Rattle.conductor.proofs.OnePhase.{one_answer}
use Rattle.conductor.proofs.laws.law_of_phases.Goals as goal

pub returns : goal.returns
returns c = record {
  one_phase = λ value next other phase answer conducts conducts'. (one_answer value next other phase answer conducts conducts').phase_is;
  one_value = λ value next other phase answer conducts conducts'. (one_answer value next other phase answer conducts conducts').value_is;
}
