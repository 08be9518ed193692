-- An absence that was counted is told.
use Rattle.std.specs.Prelude.{Result}
use Rattle.outside_io.specs.Files.{Outside, TellsAbsences}
use Rattle.omx_types.specs.declared.fault.Fault.{Fault}
use Rattle.omx_types.specs.declared.fault.Fault.TheVariants.{Absent}

-- the outcome tells it, or none was counted
abbrev pub AreAbsencesTold : {T : Type 0} → Outside → Outside → Result T Fault → Type 0
AreAbsencesTold old new outcome = TellsAbsences Absent old new outcome
