-- Causes over several steps.
use Rattle.std.proofs.Common.{◌≡◌, ℕ, ◌≤◌, max}
use Rattle.std.specs.Prelude.{Option, None, Some}
use Rattle.omx_types.specs.declared.fault.PartFault.{PartFault}
use Rattle.outside_io.specs.Moves.{WhereTold}
use Rattle.audio_parts.specs.Causes.{ReadCause}
use Rattle.audio_parts.specs.ObjectLaws.{read_since}

pub read_causes : {F : Type 0} (size : F → ℕ) (ends : F → Option ℕ) (next faults : F → ℕ) (old new : F) (after : Option F) (fault : PartFault)
    → size new ≡ size old → ends new ≡ ends old → next old ≤ next new → WhereTold (ends old) (λ end. next new ≤ max end (next old)) → faults old ≤ faults new
    → ReadCause size ends next faults (Some new) after fault → ReadCause size ends next faults (Some old) after fault
read_causes size ends next faults old new None fault s e l stops r c = c
read_causes size ends next faults old new (Some now) fault s e l stops r c =
    read_since (size old) (ends old) (next old) (next new) (faults old) (faults new) (faults now) fault l stops r (rw (← s, ← e) c)
