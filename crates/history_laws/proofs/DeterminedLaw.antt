-- Two results of one act in one world.
use Rattle.std.proofs.Common.{ℕ, Bool, true, false, List, Option, Result, refl}
use Rattle.omx_types.specs.declared.state.State.{State}
use Rattle.omx_types.specs.declared.handle.Handle.{Handle}
use Rattle.omx_types.specs.declared.handle.PortId.{PortId}
use Rattle.omx_types.specs.declared.command.Command.{Command}
use Rattle.omx_types.specs.declared.error.OmxError.{OmxError}
use Rattle.omx_types.specs.declared.error.CallError.{CallError}
use Rattle.omx_types.specs.declared.param.Param.{Param}
use Rattle.omx_types.specs.declared.param.ParamKey.{ParamKey}
use Rattle.omx_types.specs.declared.param.Supplier.{Supplier}
use Rattle.part_api.specs.declared.attached.Attached.{Attached}
use Rattle.il_machine.specs.declared.answer.Acted.{Acted}
use Rattle.il_machine.specs.declared.answer.Granted.{Granted}
use Rattle.il_machine.specs.declared.answer.Preempted.{Preempted}
use Rattle.il_machine.specs.declared.answer.Progress.{Progress}
use Rattle.il_machine.specs.declared.port.PortView.{PortView}
use Rattle.il_machine.specs.World.{World}
use Rattle.il_machine.specs.Look.{look}
use Rattle.il_machine.specs.Answers.{Looks}
use Rattle.il_machine.specs.Components.{GetHandle, FreeHandle, state_answer, view_answer, progress_answer}
use Rattle.il_machine.specs.Parameters.{SetParameter, SetConfig, parameter_answer}
use Rattle.il_machine.specs.Tunnels.{SetupTunnel, DropTunnel}
use Rattle.il_machine.specs.Commands.{SendCommand, RunCommand}
use Rattle.il_machine.specs.Buffers.{Held, AllocateBuffer, UseBuffer, FreeBuffer, EmptyThisBuffer, FillThisBuffer}
use Rattle.il_machine.specs.Notes.{Took, TakeNote, EndNote}
use Rattle.il_machine.specs.Flow.{Supply, Release, HandOver, HandBack}
use Rattle.il_machine.specs.Units.{Grant, Preempt}
use Rattle.il_machine.specs.Files.{Offered, Attach}
use Rattle.il_machine.specs.Claims.{Claimed, Claim}
use Rattle.il_machine.specs.Stepping.{WorkDone}
use Rattle.il_machine.specs.Finishing.{Finish}
use Rattle.il_machine.specs.Acts.{Act, Reply}
use Rattle.il_machine.specs.Acts as acts
use Rattle.il_machine.specs.Run.{Step}
use Rattle.history_laws.specs.Determined.{AreAlike, Equal}
use Rattle.history_laws.proofs.NewHandles.{alike, get_handle_twice}
use Rattle.history_laws.proofs.Twice.{looks_twice}
use Rattle.history_laws.proofs.GrantSteps.{grant_twice, preempt_twice}
use Rattle.history_laws.proofs.CallsTwice.{free_handle_twice, attach_twice, claim_twice, finish_twice, set_parameter_twice, set_config_twice, setup_tunnel_twice, drop_tunnel_twice, send_command_twice, run_command_twice, end_note_twice, allocate_buffer_twice, use_buffer_twice, free_buffer_twice, empty_this_buffer_twice, fill_this_buffer_twice, take_note_twice, supply_twice, release_twice, hand_over_twice, hand_back_twice}

-- ---- components, parameters, tunnels and commands

get_handle_again : (w : World) (name : List ℕ) (x : Result Handle CallError) (v : World) (s : Reply) (u : World) → GetHandle w name x v → Step w (acts.GetHandle name) s u → AreAlike w (acts.Got x) v s u
get_handle_again w name x v (acts.Got y) u p q = get_handle_twice w name x y v u p q
get_handle_again w name x v _ u p q = absurd q

free_handle_again : (w : World) (h : Handle) (x : Result (Option Attached) OmxError) (v : World) (s : Reply) (u : World) → FreeHandle w h x v → Step w (acts.FreeHandle h) s u → AreAlike w (acts.Removed x) v s u
free_handle_again w h x v (acts.Removed y) u p q = alike (λ r. acts.Removed r) w x y v u (free_handle_twice w h x y v u p q)
free_handle_again w h x v _ u p q = absurd q

attach_again : (w : World) (h : Handle) (file : Offered) (x : Result (Unit {0}) OmxError) (v : World) (s : Reply) (u : World) → Attach w h file x v → Step w (acts.Attach h file) s u → AreAlike w (acts.Plain x) v s u
attach_again w h file x v (acts.Plain y) u p q = alike (λ r. acts.Plain r) w x y v u (attach_twice w h file x y v u p q)
attach_again w h file x v _ u p q = absurd q

set_parameter_again : (w : World) (h : Handle) (key : ParamKey) (value : Param) (x : Result (Unit {0}) OmxError) (v : World) (s : Reply) (u : World) → SetParameter w h key value x v → Step w (acts.SetParameter h key value) s u → AreAlike w (acts.Plain x) v s u
set_parameter_again w h key value x v (acts.Plain y) u p q = alike (λ r. acts.Plain r) w x y v u (set_parameter_twice w h key value x y v u p q)
set_parameter_again w h key value x v _ u p q = absurd q

set_config_again : (w : World) (h : Handle) (key : ParamKey) (value : Param) (x : Result (Unit {0}) OmxError) (v : World) (s : Reply) (u : World) → SetConfig w h key value x v → Step w (acts.SetConfig h key value) s u → AreAlike w (acts.Plain x) v s u
set_config_again w h key value x v (acts.Plain y) u p q = alike (λ r. acts.Plain r) w x y v u (set_config_twice w h key value x y v u p q)
set_config_again w h key value x v _ u p q = absurd q

setup_tunnel_again : (w : World) (output input : PortId) (x : Result Supplier OmxError) (v : World) (s : Reply) (u : World) → SetupTunnel w output input x v → Step w (acts.SetupTunnel output input) s u → AreAlike w (acts.Joined x) v s u
setup_tunnel_again w output input x v (acts.Joined y) u p q = alike (λ r. acts.Joined r) w x y v u (setup_tunnel_twice w output input x y v u p q)
setup_tunnel_again w output input x v _ u p q = absurd q

drop_tunnel_again : (w : World) (output input : PortId) (x : Result (Unit {0}) OmxError) (v : World) (s : Reply) (u : World) → DropTunnel w output input x v → Step w (acts.DropTunnel output input) s u → AreAlike w (acts.Plain x) v s u
drop_tunnel_again w output input x v (acts.Plain y) u p q = alike (λ r. acts.Plain r) w x y v u (drop_tunnel_twice w output input x y v u p q)
drop_tunnel_again w output input x v _ u p q = absurd q

send_command_again : (w : World) (h : Handle) (command : Command) (x : Result (Unit {0}) OmxError) (v : World) (s : Reply) (u : World) → SendCommand w h command x v → Step w (acts.SendCommand h command) s u → AreAlike w (acts.Plain x) v s u
send_command_again w h command x v (acts.Plain y) u p q = alike (λ r. acts.Plain r) w x y v u (send_command_twice w h command x y v u p q)
send_command_again w h command x v _ u p q = absurd q

run_command_again : (w : World) (h : Handle) (x : Result Acted OmxError) (v : World) (s : Reply) (u : World) → RunCommand w h x v → Step w (acts.RunCommand h) s u → AreAlike w (acts.Acted x) v s u
run_command_again w h x v (acts.Acted y) u p q = alike (λ r. acts.Acted r) w x y v u (run_command_twice w h x y v u p q)
run_command_again w h x v _ u p q = absurd q

-- ---- looking

get_state_again : (w : World) (h : Handle) (x : Result State OmxError) (v : World) (s : Reply) (u : World) → Looks (state_answer h (look w)) x w v → Step w (acts.GetState h) s u → AreAlike w (acts.Stated x) v s u
get_state_again w h x v (acts.Stated y) u p q = alike (λ r. acts.Stated r) w x y v u (looks_twice (state_answer h (look w)) x y w v u p q)
get_state_again w h x v _ u p q = absurd q

port_view_again : (w : World) (h : Handle) (port : ℕ) (x : Result PortView OmxError) (v : World) (s : Reply) (u : World) → Looks (view_answer h port (look w)) x w v → Step w (acts.PortView h port) s u → AreAlike w (acts.Viewed x) v s u
port_view_again w h port x v (acts.Viewed y) u p q = alike (λ r. acts.Viewed r) w x y v u (looks_twice (view_answer h port (look w)) x y w v u p q)
port_view_again w h port x v _ u p q = absurd q

progress_again : (w : World) (h : Handle) (x : Result (Option Progress) OmxError) (v : World) (s : Reply) (u : World) → Looks (progress_answer h w) x w v → Step w (acts.Progress h) s u → AreAlike w (acts.Progressed x) v s u
progress_again w h x v (acts.Progressed y) u p q = alike (λ r. acts.Progressed r) w x y v u (looks_twice (progress_answer h w) x y w v u p q)
progress_again w h x v _ u p q = absurd q

get_parameter_again : (w : World) (h : Handle) (key : ParamKey) (x : Result Param OmxError) (v : World) (s : Reply) (u : World) → Looks (parameter_answer h key false (look w)) x w v → Step w (acts.GetParameter h key) s u → AreAlike w (acts.Parameter x) v s u
get_parameter_again w h key x v (acts.Parameter y) u p q = alike (λ r. acts.Parameter r) w x y v u (looks_twice (parameter_answer h key false (look w)) x y w v u p q)
get_parameter_again w h key x v _ u p q = absurd q

get_config_again : (w : World) (h : Handle) (key : ParamKey) (x : Result Param OmxError) (v : World) (s : Reply) (u : World) → Looks (parameter_answer h key true (look w)) x w v → Step w (acts.GetConfig h key) s u → AreAlike w (acts.Parameter x) v s u
get_config_again w h key x v (acts.Parameter y) u p q = alike (λ r. acts.Parameter r) w x y v u (looks_twice (parameter_answer h key true (look w)) x y w v u p q)
get_config_again w h key x v _ u p q = absurd q

-- ---- headers and notes

allocate_buffer_again : (w : World) (h : Handle) (port : ℕ) (x : Result Held CallError) (v : World) (s : Reply) (u : World) → AllocateBuffer w h port x v → Step w (acts.AllocateBuffer h port) s u → AreAlike w (acts.Allocated x) v s u
allocate_buffer_again w h port x v (acts.Allocated y) u p q = alike (λ r. acts.Allocated r) w x y v u (allocate_buffer_twice w h port x y v u p q)
allocate_buffer_again w h port x v _ u p q = absurd q

use_buffer_again : (w : World) (h : Handle) (port : ℕ) (bytes : List ℕ) (x : Result Held OmxError) (v : World) (s : Reply) (u : World) → UseBuffer w h port bytes x v → Step w (acts.UseBuffer h port bytes) s u → AreAlike w (acts.Used x) v s u
use_buffer_again w h port bytes x v (acts.Used y) u p q = alike (λ r. acts.Used r) w x y v u (use_buffer_twice w h port bytes x y v u p q)
use_buffer_again w h port bytes x v _ u p q = absurd q

free_buffer_again : (w : World) (h : Handle) (port header : ℕ) (x : Result Bool OmxError) (v : World) (s : Reply) (u : World) → FreeBuffer w h port header x v → Step w (acts.FreeBuffer h port header) s u → AreAlike w (acts.Freed x) v s u
free_buffer_again w h port header x v (acts.Freed y) u p q = alike (λ r. acts.Freed r) w x y v u (free_buffer_twice w h port header x y v u p q)
free_buffer_again w h port header x v _ u p q = absurd q

empty_this_buffer_again : (w : World) (h : Handle) (port : ℕ) (header : Held) (x : Result (Unit {0}) OmxError) (v : World) (s : Reply) (u : World) → EmptyThisBuffer w h port header x v → Step w (acts.EmptyThisBuffer h port header) s u → AreAlike w (acts.Plain x) v s u
empty_this_buffer_again w h port header x v (acts.Plain y) u p q = alike (λ r. acts.Plain r) w x y v u (empty_this_buffer_twice w h port header x y v u p q)
empty_this_buffer_again w h port header x v _ u p q = absurd q

fill_this_buffer_again : (w : World) (h : Handle) (port : ℕ) (header : Held) (x : Result (Unit {0}) OmxError) (v : World) (s : Reply) (u : World) → FillThisBuffer w h port header x v → Step w (acts.FillThisBuffer h port header) s u → AreAlike w (acts.Plain x) v s u
fill_this_buffer_again w h port header x v (acts.Plain y) u p q = alike (λ r. acts.Plain r) w x y v u (fill_this_buffer_twice w h port header x y v u p q)
fill_this_buffer_again w h port header x v _ u p q = absurd q

take_note_again : (w : World) (h : Handle) (x : Result Took OmxError) (v : World) (s : Reply) (u : World) → TakeNote w h x v → Step w (acts.TakeNote h) s u → AreAlike w (acts.Took x) v s u
take_note_again w h x v (acts.Took y) u p q = alike (λ r. acts.Took r) w x y v u (take_note_twice w h x y v u p q)
take_note_again w h x v _ u p q = absurd q

supply_again : (w : World) (h : Handle) (port : ℕ) (x : Result Acted CallError) (v : World) (s : Reply) (u : World) → Supply w h port x v → Step w (acts.Supply h port) s u → AreAlike w (acts.Supplied x) v s u
supply_again w h port x v (acts.Supplied y) u p q = alike (λ r. acts.Supplied r) w x y v u (supply_twice w h port x y v u p q)
supply_again w h port x v _ u p q = absurd q

release_again : (w : World) (h : Handle) (port : ℕ) (x : Result Acted OmxError) (v : World) (s : Reply) (u : World) → Release w h port x v → Step w (acts.Release h port) s u → AreAlike w (acts.Acted x) v s u
release_again w h port x v (acts.Acted y) u p q = alike (λ r. acts.Acted r) w x y v u (release_twice w h port x y v u p q)
release_again w h port x v _ u p q = absurd q

hand_over_again : (w : World) (h : Handle) (port : ℕ) (x : Result Acted OmxError) (v : World) (s : Reply) (u : World) → HandOver w h port x v → Step w (acts.HandOver h port) s u → AreAlike w (acts.Acted x) v s u
hand_over_again w h port x v (acts.Acted y) u p q = alike (λ r. acts.Acted r) w x y v u (hand_over_twice w h port x y v u p q)
hand_over_again w h port x v _ u p q = absurd q

hand_back_again : (w : World) (h : Handle) (port : ℕ) (x : Result Acted OmxError) (v : World) (s : Reply) (u : World) → HandBack w h port x v → Step w (acts.HandBack h port) s u → AreAlike w (acts.Acted x) v s u
hand_back_again w h port x v (acts.Acted y) u p q = alike (λ r. acts.Acted r) w x y v u (hand_back_twice w h port x y v u p q)
hand_back_again w h port x v _ u p q = absurd q

end_note_again : (w : World) (h : Handle) (progress : Progress) (v : World) (s : Reply) (u : World) → EndNote w h v → Step w (acts.EndNote h progress) s u → AreAlike w acts.Ended v s u
end_note_again w h progress v acts.Ended u p q = Equal refl (end_note_twice w h v u p q)
end_note_again w h progress v _ u p q = absurd q

-- ---- works

claim_again : (w : World) (h : Handle) (x : Result Claimed OmxError) (v : World) (s : Reply) (u : World) → Claim w h x v → Step w (acts.Claim h) s u → AreAlike w (acts.Claimed x) v s u
claim_again w h x v (acts.Claimed y) u p q = alike (λ r. acts.Claimed r) w x y v u (claim_twice w h x y v u p q)
claim_again w h x v _ u p q = absurd q

finish_again : (w : World) (done : WorkDone) (v : World) (s : Reply) (u : World) → Finish w done v → Step w (acts.Finish done) s u → AreAlike w acts.Finished v s u
finish_again w done v acts.Finished u p q = Equal refl (finish_twice w done v u p q)
finish_again w done v _ u p q = absurd q

-- ---- units

grant_again : (w : World) (x : Granted) (v : World) (s : Reply) (u : World) → Grant w x v → Step w acts.Grant s u → AreAlike w (acts.Granted x) v s u
grant_again w x v (acts.Granted y) u p q = alike (λ r. acts.Granted r) w x y v u (grant_twice w x y v u p q)
grant_again w x v _ u p q = absurd q

preempt_again : (w : World) (x : Preempted) (v : World) (s : Reply) (u : World) → Preempt w x v → Step w acts.Preempt s u → AreAlike w (acts.Preempted x) v s u
preempt_again w x v (acts.Preempted y) u p q = alike (λ r. acts.Preempted r) w x y v u (preempt_twice w x y v u p q)
preempt_again w x v _ u p q = absurd q

-- ---- all acts

pub steps_alike : (w : World) (a : Act) (r : Reply) (v : World) (s : Reply) (u : World) → Step w a r v → Step w a s u → AreAlike w r v s u
steps_alike w (acts.GetHandle name) (acts.Got x) v s u p q = get_handle_again w name x v s u p q
steps_alike w (acts.FreeHandle h) (acts.Removed x) v s u p q = free_handle_again w h x v s u p q
steps_alike w (acts.SetParameter h key value) (acts.Plain x) v s u p q = set_parameter_again w h key value x v s u p q
steps_alike w (acts.SetConfig h key value) (acts.Plain x) v s u p q = set_config_again w h key value x v s u p q
steps_alike w (acts.SetupTunnel output input) (acts.Joined x) v s u p q = setup_tunnel_again w output input x v s u p q
steps_alike w (acts.DropTunnel output input) (acts.Plain x) v s u p q = drop_tunnel_again w output input x v s u p q
steps_alike w (acts.SendCommand h command) (acts.Plain x) v s u p q = send_command_again w h command x v s u p q
steps_alike w (acts.RunCommand h) (acts.Acted x) v s u p q = run_command_again w h x v s u p q
steps_alike w (acts.GetState h) (acts.Stated x) v s u p q = get_state_again w h x v s u p q
steps_alike w (acts.PortView h port) (acts.Viewed x) v s u p q = port_view_again w h port x v s u p q
steps_alike w (acts.Progress h) (acts.Progressed x) v s u p q = progress_again w h x v s u p q
steps_alike w (acts.GetParameter h key) (acts.Parameter x) v s u p q = get_parameter_again w h key x v s u p q
steps_alike w (acts.GetConfig h key) (acts.Parameter x) v s u p q = get_config_again w h key x v s u p q
steps_alike w (acts.AllocateBuffer h port) (acts.Allocated x) v s u p q = allocate_buffer_again w h port x v s u p q
steps_alike w (acts.UseBuffer h port bytes) (acts.Used x) v s u p q = use_buffer_again w h port bytes x v s u p q
steps_alike w (acts.FreeBuffer h port header) (acts.Freed x) v s u p q = free_buffer_again w h port header x v s u p q
steps_alike w (acts.EmptyThisBuffer h port header) (acts.Plain x) v s u p q = empty_this_buffer_again w h port header x v s u p q
steps_alike w (acts.FillThisBuffer h port header) (acts.Plain x) v s u p q = fill_this_buffer_again w h port header x v s u p q
steps_alike w (acts.TakeNote h) (acts.Took x) v s u p q = take_note_again w h x v s u p q
steps_alike w (acts.Supply h port) (acts.Supplied x) v s u p q = supply_again w h port x v s u p q
steps_alike w (acts.Release h port) (acts.Acted x) v s u p q = release_again w h port x v s u p q
steps_alike w (acts.HandOver h port) (acts.Acted x) v s u p q = hand_over_again w h port x v s u p q
steps_alike w (acts.HandBack h port) (acts.Acted x) v s u p q = hand_back_again w h port x v s u p q
steps_alike w (acts.EndNote h progress) acts.Ended v s u p q = end_note_again w h progress v s u p q
steps_alike w (acts.Attach h file) (acts.Plain x) v s u p q = attach_again w h file x v s u p q
steps_alike w (acts.Claim h) (acts.Claimed x) v s u p q = claim_again w h x v s u p q
steps_alike w (acts.Finish done) acts.Finished v s u p q = finish_again w done v s u p q
steps_alike w acts.Grant (acts.Granted x) v s u p q = grant_again w x v s u p q
steps_alike w acts.Preempt (acts.Preempted x) v s u p q = preempt_again w x v s u p q
steps_alike w _ _ v s u p q = absurd p
