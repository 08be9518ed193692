use Rattle.std.proofs.Common.{◌≡◌, ◌+◌, ◌^◌, ◌<◌, Bool, false, length}
use Rattle.audit_forms.specs.Audited.{Case, Moment}
use Rattle.audit_lines.specs.Lines.{pieces_of}
use Rattle.run_audit.specs.Files.{FilesGoOn}
use Rattle.run_audit.specs.Replaying.{IsReplay}
use Rattle.run_audit.specs.Seeing.{replay_sight}
use Rattle.run_audit.specs.Walking.{IsCome}
use Rattle.run_audit.proofs.replay.Replay.walk.Given as goal

abbrev pub decreases-loop-piece : goal.decreases-loop-piece
decreases-loop-piece g l = length l.rest

-- the lines before the rest pass, and lead to where the replay stands
abbrev pub invariant-loop-piece : goal.invariant-loop-piece
invariant-loop-piece g l = record {
  come : (tells : Bool) (x : Case) (at : Moment) → IsReplay (replay_sight g.C.Client g.S.Source) tells l.initial.self x at
      → (now : Moment) × IsCome x l.initial.number at (pieces_of l.initial.rest) l.number (pieces_of l.rest) now × IsReplay (replay_sight g.C.Client g.S.Source) tells l.self x now;
  files : FilesGoOn (replay_sight g.C.Client g.S.Source) false l.initial.self l.self;
  plan : l.self.plan ≡ l.initial.self.plan;
  handles : l.self.handles ≡ l.initial.self.handles;
  room : l.number + length l.rest < 2 ^ 64;
}
