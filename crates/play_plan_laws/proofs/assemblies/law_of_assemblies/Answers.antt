use Rattle.play_plan_laws.proofs.Lawful.{plan_lawful}
use Rattle.play_plan_laws.proofs.Opened.{assembled_opens}
use Rattle.play_plan_laws.proofs.assemblies.law_of_assemblies.Goals as goal

pub returns : goal.returns
returns c = record { lawful = plan_lawful; late = assembled_opens }
