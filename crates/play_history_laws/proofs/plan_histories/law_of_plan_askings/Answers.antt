use Rattle.play_history_laws.proofs.Askings.{changes_asked, ends_heard, ports_heard, sends_asked, settings_heard, states_heard, unasked_is}
use Rattle.play_history_laws.proofs.plan_histories.law_of_plan_askings.Goals as goal

pub returns : goal.returns
returns c = record { unasked = unasked_is; states = states_heard; ports = ports_heard; settings = settings_heard; ends = ends_heard; sends = sends_asked; changes = changes_asked }
