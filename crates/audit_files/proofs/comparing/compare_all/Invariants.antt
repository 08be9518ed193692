use Rattle.std.proofs.Common.{take}
use Rattle.play_files.specs.Asked.{HasAskedFor, written_names}
use Rattle.play_files.specs.Opening.{IsStill}
use Rattle.audit_files.specs.Compared.{HaveCompared}
use Rattle.audit_files.proofs.comparing.compare_all.Given as goal

abbrev pub invariant-loop-place : goal.invariant-loop-place
invariant-loop-place g l = record {
  still : IsStill (g.M.Media.outside l.fn.media) (g.M.Media.outside l.media);
  asked : HasAskedFor (g.M.Media.outside l.fn.media) (g.M.Media.outside l.media) (written_names (take l.place l.parts));
  have : HaveCompared g.M.Src.Source (g.M.Media.outside l.fn.media) l.parts l.planned l.place l.fn.files l.files;
}
