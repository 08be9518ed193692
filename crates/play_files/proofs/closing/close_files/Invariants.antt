use Rattle.std.proofs.Common.{◌≡◌, ◌++◌, List, Option}
use Rattle.std.specs.Vec.{vec_len}
use Rattle.audio_parts.specs.declared.part_file.PartFile.{PartFile}
use Rattle.play_files.specs.Closing.{AreClosed}
use Rattle.play_files.specs.Seen.{file_seen, files_seen}
use Rattle.play_files.proofs.closing.close_files.Given as goal

abbrev pub invariant-loop-file : goal.invariant-loop-file
invariant-loop-file g l =
    (done : List (Option (PartFile _ _))) × (l.fn.files.items ≡ l.files.items ++ done)
    × AreClosed (files_seen (file_seen g.M.Src.Source g.M.Snk.Sink) done)
    (g.M.Media.outside l.fn.media) (g.M.Media.outside l.media) l.closed

abbrev pub decreases-loop-file : goal.decreases-loop-file
decreases-loop-file g l = vec_len l.files
