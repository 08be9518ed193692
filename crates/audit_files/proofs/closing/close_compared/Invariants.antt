use Rattle.std.proofs.Common.{◌≡◌, ◌++◌, List, Ok, Option}
use Rattle.std.specs.Vec.{vec_len}
use Rattle.audio_parts.specs.declared.part_file.PartFile.{PartFile}
use Rattle.play_files.specs.Closing.{AreClosed}
use Rattle.play_files.specs.Seen.{files_seen}
use Rattle.audit_files.specs.Compared.{read_seen}
use Rattle.audit_files.proofs.closing.close_compared.Given as goal

abbrev pub invariant-loop-file : goal.invariant-loop-file
invariant-loop-file g l =
    (done : List (Option (PartFile _ _))) × (l.fn.files.items ≡ l.files.items ++ done)
    × AreClosed (files_seen (read_seen g.M.Src.Source) done)
    (g.M.Media.outside l.fn.media) (g.M.Media.outside l.media) (Ok tt)

abbrev pub decreases-loop-file : goal.decreases-loop-file
decreases-loop-file g l = vec_len l.files
