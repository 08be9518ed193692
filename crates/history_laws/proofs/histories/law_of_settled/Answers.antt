use Rattle.history_laws.proofs.SettledLaw.{settled_returns, idle_returns, steps_reach_idle}
use Rattle.history_laws.proofs.DisabledLaw.{disabled_unmade}
use Rattle.history_laws.proofs.Lasting.{disabled_back}
use Rattle.history_laws.proofs.histories.law_of_settled.Goals as goal

pub returns : goal.returns
returns c = record { ports = settled_returns; reaching = idle_returns; idle = steps_reach_idle; disabled = disabled_unmade; back = disabled_back }
