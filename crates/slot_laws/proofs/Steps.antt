-- A step in a world whose handles moved.
use Rattle.std.proofs.Common.{true, false}
use Rattle.il_machine.specs.Acts.{Act, Reply}
use Rattle.il_machine.specs.Acts as acts
use Rattle.il_machine.specs.Run.{Step}
use Rattle.il_machine.specs.World.{World}
use Rattle.slot_laws.specs.Seating.{MakesNone, Seating, moved, moved_act, moved_reply}
use Rattle.slot_laws.proofs.Calling.{attach_goes, config_goes, drop_goes, free_goes, parameter_goes, progress_goes, run_goes, send_goes, set_goes, setup_goes, state_goes, view_goes}
use Rattle.slot_laws.proofs.Flowing.{back_goes, over_goes, release_goes, supply_goes}
use Rattle.slot_laws.proofs.Handing.{allocate_goes, empty_goes, fill_goes, free_goes as unmake_goes, use_goes}
use Rattle.slot_laws.proofs.Telling.{end_goes, take_goes}
use Rattle.slot_laws.proofs.Granting.{grant_goes, preempt_goes}
use Rattle.slot_laws.proofs.Claiming.{claim_goes}
use Rattle.slot_laws.proofs.Finishing.{finish_goes}

pub step_goes : (f : Seating) (w : World) (a : Act) (r : Reply) (v : World) → MakesNone a → Step w a r v → Step (moved f w) (moved_act f a) (moved_reply f r) (moved f v)
step_goes f w (acts.FreeHandle h) (acts.Removed result) v makes s = free_goes f w h result v s
step_goes f w (acts.Attach h file) (acts.Plain result) v makes s = attach_goes f w h file result v s
step_goes f w (acts.GetState h) (acts.Stated result) v makes s = state_goes f w h result v s
step_goes f w (acts.PortView h port) (acts.Viewed result) v makes s = view_goes f w h port result v s
step_goes f w (acts.Progress h) (acts.Progressed result) v makes s = progress_goes f w h result v s
step_goes f w (acts.GetParameter h key) (acts.Parameter result) v makes s = parameter_goes f w h key false result v s
step_goes f w (acts.GetConfig h key) (acts.Parameter result) v makes s = parameter_goes f w h key true result v s
step_goes f w (acts.SetParameter h key value) (acts.Plain result) v makes s = set_goes f w h key value result v s
step_goes f w (acts.SetConfig h key value) (acts.Plain result) v makes s = config_goes f w h key value result v s
step_goes f w (acts.SetupTunnel output input) (acts.Joined result) v makes s = setup_goes f w v output input result s
step_goes f w (acts.DropTunnel output input) (acts.Plain result) v makes s = drop_goes f w v output input result s
step_goes f w (acts.SendCommand h command) (acts.Plain result) v makes s = send_goes f w h command result v s
step_goes f w (acts.RunCommand h) (acts.Acted result) v makes s = run_goes f w h result v s
step_goes f w (acts.AllocateBuffer h port) (acts.Allocated result) v makes s = allocate_goes f w h port result v s
step_goes f w (acts.UseBuffer h port bytes) (acts.Used result) v makes s = use_goes f w h port bytes result v s
step_goes f w (acts.FreeBuffer h port header) (acts.Freed result) v makes s = unmake_goes f w h port header result v s
step_goes f w (acts.EmptyThisBuffer h port header) (acts.Plain result) v makes s = empty_goes f w h port header result v s
step_goes f w (acts.FillThisBuffer h port header) (acts.Plain result) v makes s = fill_goes f w h port header result v s
step_goes f w (acts.TakeNote h) (acts.Took result) v makes s = take_goes f w h result v s
step_goes f w (acts.EndNote h progress) acts.Ended v makes s = end_goes f w h v s
step_goes f w (acts.Supply h port) (acts.Supplied result) v makes s = supply_goes f w h port result v s
step_goes f w (acts.Release h port) (acts.Acted result) v makes s = release_goes f w h port result v s
step_goes f w (acts.HandOver h port) (acts.Acted result) v makes s = over_goes f w h port result v s
step_goes f w (acts.HandBack h port) (acts.Acted result) v makes s = back_goes f w h port result v s
step_goes f w acts.Grant (acts.Granted answer) v makes s = grant_goes f w answer v s
step_goes f w acts.Preempt (acts.Preempted answer) v makes s = preempt_goes f w answer v s
step_goes f w (acts.Claim h) (acts.Claimed result) v makes s = claim_goes f w h result v s
step_goes f w (acts.Finish done) acts.Finished v makes s = finish_goes f w done v s
step_goes f w (acts.GetHandle name) r v makes s = absurd makes
step_goes f w _ _ v makes s = absurd s
