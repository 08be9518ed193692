use Rattle.std.proofs.Common.{◌≡◌, ◌<◌, ℕ, Bool, true, None, Some, slice_get}
use Rattle.il_machine.specs.World.{World}
use Rattle.audit_forms.specs.Audited.{Case}
use Rattle.run_audit.specs.Files.{FilesGoOn}
use Rattle.run_audit.specs.Leading.{StandsIn}
use Rattle.run_audit.specs.Seeing.{replay_sight}
use Rattle.run_audit.specs.Settling.{IsSettled}
use Rattle.run_audit.proofs.replay.Replay.settle.Given as goal

-- what was out at the places before went back
abbrev pub invariant-loop-place : goal.invariant-loop-place
invariant-loop-place g l = record {
  stands : (tells : Bool) (x : Case) (w : World) → StandsIn (replay_sight g.C.Client g.S.Source) tells l.initial.self x w
      → (v : World) × StandsIn (replay_sight g.C.Client g.S.Source) tells l.self x v × IsSettled x w v;
  works : (k : ℕ) → k < l.place → slice_get l.self.works.items k ≡ Some None;
  clients : (k : ℕ) → k < l.place → slice_get l.self.clients.items k ≡ Some None;
  files : FilesGoOn (replay_sight g.C.Client g.S.Source) true l.initial.self l.self;
  plan : l.self.plan ≡ l.initial.self.plan;
  handles : l.self.handles ≡ l.initial.self.handles;
  order : l.self.order ≡ l.initial.self.order;
}
