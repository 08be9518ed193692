-- All that is out of a replay's graph goes back.
use Rattle.std.specs.Prelude.{◌≡◌, List, [], ◌∷◌}
use Rattle.il_machine.specs.World.{World}
use Rattle.act_text.specs.declared.act.TextAct.{TextAct}
use Rattle.audit_forms.specs.Audited.{Case}
use Rattle.run_audit.specs.Leading.{IsMade, IsReturn}

-- such acts lead there, one after the other
abbrev pub AreReturned : Case → List TextAct → World → World → Type 0
AreReturned x [] w v = v ≡ w
AreReturned x (said ∷ acts) w v = IsReturn said × ((next : World) × IsMade x said w next × AreReturned x acts next v)

abbrev pub IsSettled : Case → World → World → Type 0
IsSettled x w v = (acts : List TextAct) × AreReturned x acts w v
