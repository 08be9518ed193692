-- The acts of a play but those of notes and works that come back. None of them looks at a client object, at the notes given, or at what
-- went through a file.
use Rattle.std.specs.Prelude.{◌≡◌, false, Err}
use Rattle.il_machine.specs.Acts.{Act, Reply}
use Rattle.il_machine.specs.Acts as acts
use Rattle.il_machine.specs.Commands.{is_at_once}

abbrev pub IsBeside : Act → Type 0
IsBeside (acts.RunCommand h) = Unit {0}
IsBeside (acts.SendCommand h command) = is_at_once command ≡ false
IsBeside (acts.Supply h port) = Unit {0}
IsBeside (acts.Release h port) = Unit {0}
IsBeside (acts.HandOver h port) = Unit {0}
IsBeside (acts.HandBack h port) = Unit {0}
IsBeside (acts.Claim h) = Unit {0}
IsBeside (acts.SetParameter h key value) = Unit {0}
IsBeside (acts.DropTunnel output input) = Unit {0}
IsBeside (acts.SetupTunnel output input) = Unit {0}
IsBeside _ = ⊥

-- a reply for which the place of a fault's note may be why: a command is refused, or nothing is claimed
abbrev pub IsDeclined : Reply → Type 0
IsDeclined (acts.Plain (Err error)) = Unit {0}
IsDeclined (acts.Claimed result) = Unit {0}
IsDeclined _ = ⊥
