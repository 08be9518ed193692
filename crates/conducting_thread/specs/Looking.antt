-- Looks at the components by calls, of which the last was refused.
use Rattle.std.specs.Prelude.{List}
use Rattle.omx_types.specs.declared.handle.Handle.{Handle}
use Rattle.il_machine.specs.Acts as acts
use Rattle.turnstile.specs.declared.entry.Entry.{Entry}
use Rattle.play_result_laws.specs.Rounds.{IsLostLook}
use Rattle.graph_acts.specs.declared.act.Act.{Act}
use Rattle.graph_acts.specs.declared.act.Reply.{Reply}
use Rattle.graph_acts.specs.Plain.{Sight}
use Rattle.conducting_thread.specs.Asking.{HasAsked}

-- so did the calls end that the pass made more
abbrev pub HasLost : {S K C : Type 0} → Sight S K C → List Handle → List (Entry (Act S K C) (Reply S K C)) → List (Entry (Act S K C) (Reply S K C)) → Type 0
HasLost see handles old new = (steps : List (acts.Act × acts.Reply)) × HasAsked see old steps new × IsLostLook handles steps
