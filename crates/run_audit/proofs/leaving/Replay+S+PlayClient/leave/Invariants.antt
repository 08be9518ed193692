use Rattle.std.proofs.Common.{◌≡◌, Bool, true}
use Rattle.il_machine.specs.World.{World}
use Rattle.audit_forms.specs.Audited.{Case, Moment}
use Rattle.run_audit.specs.Ending.{HasCome}
use Rattle.run_audit.specs.Files.{FilesGoOn}
use Rattle.run_audit.specs.Leading.{StandsIn}
use Rattle.run_audit.specs.Opening.{play_sight}
use Rattle.run_audit.specs.Walking.{IsLeft}
use Rattle.run_audit.proofs.Leaves.{AreUp, On}
use Rattle.run_audit.proofs.leaving.Replay+S+PlayClient.leave.Given as goal

-- the tunnels of the links so far are up
abbrev pub invariant-loop-link : goal.invariant-loop-link
invariant-loop-link g l = record {
  stands : (tells : Bool) (x : Case) (now : Moment) (C : HasCome x now) → IsLeft (play_sight g.S.Source) tells l.fn.self x now
      → (v : World) × StandsIn (play_sight g.S.Source) tells l.self x v × On x now C l.self.order v × AreUp x now C l.link l.self.order;
  files : FilesGoOn (play_sight g.S.Source) true l.fn.self l.self;
  plan : l.self.plan ≡ l.fn.self.plan;
}
