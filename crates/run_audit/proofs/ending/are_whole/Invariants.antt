use Rattle.std.proofs.Common.{◌≡◌, ◌<◌, ℕ, Option, Some, slice_get}
use Rattle.audio_parts.specs.declared.part_file.PartFile.{PartFile}
use Rattle.compared_files.specs.Comparing.{ComparingValue}
use Rattle.run_audit.specs.Ending.{GivesAll, IsGiven}
use Rattle.run_audit.proofs.ending.are_whole.Given as goal

abbrev pub invariant-loop-file : goal.invariant-loop-file
invariant-loop-file g l = (place : ℕ) (file : Option (PartFile g.row.S.Denot (ComparingValue g.row.S.Denot))) → place < l.file-index → slice_get l.files place ≡ Some file → IsGiven g.S.Source.told file × GivesAll g.S.Source.told g.S.Source.ends file
