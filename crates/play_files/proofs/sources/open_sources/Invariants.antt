use Rattle.std.proofs.Common.{◌≤◌, length, take}
use Rattle.std.specs.Vec.{vec_capacity, vec_len}
use Rattle.play_files.specs.Asked.{HasAskedFor, read_names}
use Rattle.play_files.specs.Opening.{AreRead, IsStill}
use Rattle.play_files.specs.Seen.{file_seen}
use Rattle.play_files.proofs.sources.open_sources.Given as goal

abbrev pub invariant-loop-part : goal.invariant-loop-part
invariant-loop-part g l = record {
  heads_room : length l.parts ≤ vec_capacity l.heads;
  files_room : length l.parts ≤ vec_capacity l.files;
  heads_few : vec_len l.heads ≤ l.part-index;
  files_few : vec_len l.files ≤ l.part-index;
  still : IsStill (g.M.Media.outside l.fn.media) (g.M.Media.outside l.media);
  asked : HasAskedFor (g.M.Media.outside l.fn.media) (g.M.Media.outside l.media) (read_names (take l.part-index l.parts));
  read : AreRead (file_seen g.M.Src.Source g.K.Sink) (g.M.Media.outside l.fn.media) l.parts l.part-index l.heads.items l.files.items;
}
