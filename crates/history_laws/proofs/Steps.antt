-- What comes of each step.
use Rattle.std.proofs.Common.{true, false}
use Rattle.il_machine.specs.World.{World}
use Rattle.il_machine.specs.Look.{look}
use Rattle.il_machine.specs.Acts.{Act, Reply}
use Rattle.il_machine.specs.Acts as acts
use Rattle.il_machine.specs.Components.{state_answer, view_answer, progress_answer}
use Rattle.il_machine.specs.Parameters.{parameter_answer}
use Rattle.il_machine.specs.Run.{Step, Meets}
use Rattle.il_machine.specs.Sound.{Sound}
use Rattle.machine_laws.proofs.Steps.{HandsIn, hands_in}
use Rattle.history_laws.proofs.Outcome.{turn, Outcome, looks}
use Rattle.history_laws.proofs.ComponentActs.{get_handle, free_handle, set_parameter, set_config, setup_tunnel, drop_tunnel, send_command, run_command, end_note}
use Rattle.history_laws.proofs.BufferSteps.{allocate_buffer, use_buffer, free_buffer, empty_this_buffer, fill_this_buffer, take_note}
use Rattle.history_laws.proofs.GrantSteps.{grant, preempt}
use Rattle.history_laws.proofs.WorkSteps.{attach, claim, finish}
use Rattle.history_laws.proofs.FlowSteps.{supply, release, hand_over, hand_back}

pub comes_after : (w : World) (a : Act) (r : Reply) (v : World) → Sound w → HandsIn w a → Step w a r v → Outcome w (turn w a r) v
comes_after w (acts.GetHandle name) (acts.Got result) v S M h = get_handle w name result v S h
comes_after w (acts.FreeHandle x) (acts.Removed result) v S M h = free_handle w x result v S h
comes_after w (acts.Attach x file) (acts.Plain result) v S M h = attach w x file result v S h
comes_after w (acts.GetState x) (acts.Stated result) v S M h = looks (state_answer x (look w)) result w v h
comes_after w (acts.PortView x port) (acts.Viewed result) v S M h = looks (view_answer x port (look w)) result w v h
comes_after w (acts.Progress x) (acts.Progressed result) v S M h = looks (progress_answer x w) result w v h
comes_after w (acts.GetParameter x key) (acts.Parameter result) v S M h = looks (parameter_answer x key false (look w)) result w v h
comes_after w (acts.GetConfig x key) (acts.Parameter result) v S M h = looks (parameter_answer x key true (look w)) result w v h
comes_after w (acts.SetParameter x key value) (acts.Plain result) v S M h = set_parameter w x key value result v S h
comes_after w (acts.SetConfig x key value) (acts.Plain result) v S M h = set_config w x key value result v h
comes_after w (acts.SetupTunnel output input) (acts.Joined result) v S M h = setup_tunnel w output input result v S h
comes_after w (acts.DropTunnel output input) (acts.Plain result) v S M h = drop_tunnel w output input result v S h
comes_after w (acts.SendCommand x command) (acts.Plain result) v S M h = send_command w x command result v h
comes_after w (acts.RunCommand x) (acts.Acted result) v S M h = run_command w x result v h
comes_after w (acts.AllocateBuffer x port) (acts.Allocated result) v S M h = allocate_buffer w x port result v h
comes_after w (acts.UseBuffer x port bytes) (acts.Used result) v S M h = use_buffer w x port bytes result v h
comes_after w (acts.FreeBuffer x port header) (acts.Freed result) v S M h = free_buffer w x port header result v S M h
comes_after w (acts.EmptyThisBuffer x port header) (acts.Plain result) v S M h = empty_this_buffer w x port header result v S M h
comes_after w (acts.FillThisBuffer x port header) (acts.Plain result) v S M h = fill_this_buffer w x port header result v S M h
comes_after w (acts.TakeNote x) (acts.Took result) v S M h = take_note w x result v S h
comes_after w (acts.EndNote x progress) acts.Ended v S M h = end_note w x progress v h
comes_after w (acts.Supply x port) (acts.Supplied result) v S M h = supply w x port result v h
comes_after w (acts.Release x port) (acts.Acted result) v S M h = release w x port result v S h
comes_after w (acts.HandOver x port) (acts.Acted result) v S M h = hand_over w x port result v S h
comes_after w (acts.HandBack x port) (acts.Acted result) v S M h = hand_back w x port result v S h
comes_after w (acts.Claim x) (acts.Claimed result) v S M h = claim w x result v S h
comes_after w (acts.Finish done) acts.Finished v S M h = finish w done v S M h
comes_after w acts.Grant (acts.Granted answer) v S M h = grant w answer v S h
comes_after w acts.Preempt (acts.Preempted answer) v S M h = preempt w answer v S h
comes_after w _ _ v S M h = absurd h

pub step_comes : (w : World) (a : Act) (r : Reply) (v : World) → Sound w → Meets w a → Step w a r v → Outcome w (turn w a r) v
step_comes w a r v S M h = comes_after w a r v S (hands_in w a M) h
