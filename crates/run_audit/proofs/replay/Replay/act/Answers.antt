use Rattle.run_audit.proofs.Asking.{quiet_else}
use Rattle.run_audit.proofs.replay.Replay.act.Goals as goal

pub ask-requires : goal.ask-requires
ask-requires g c = record {
  quiet = quiet_else (c.args.said.now).act c.requires.may c.in_default.not-Claim c.in_default.not-Take c.in_default.not-Finish c.in_default.not-End;
  stands = c.requires.stands;
}
