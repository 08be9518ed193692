-- One step of the machine, and a run of it.
use Rattle.std.specs.Prelude.{◌≡◌, true, false, List, [], ◌∷◌, MatchOption}
use Rattle.il_machine.specs.World.{World, component_numbered}
use Rattle.il_machine.specs.Answers.{Looks, component_named}
use Rattle.il_machine.specs.Acts.{Act, Reply}
use Rattle.il_machine.specs.Acts as acts
use Rattle.il_machine.specs.Look.{look}
use Rattle.il_machine.specs.Components.{GetHandle, FreeHandle, state_answer, view_answer, progress_answer, progress_of}
use Rattle.il_machine.specs.Parameters.{SetParameter, SetConfig, parameter_answer}
use Rattle.il_machine.specs.Tunnels.{SetupTunnel, DropTunnel}
use Rattle.il_machine.specs.Commands.{SendCommand, RunCommand}
use Rattle.il_machine.specs.Buffers.{AllocateBuffer, UseBuffer, FreeBuffer, EmptyThisBuffer, FillThisBuffer, IsWithClient, IsHeldByClient}
use Rattle.il_machine.specs.Notes.{TakeNote, EndNote}
use Rattle.il_machine.specs.Flow.{Supply, Release, HandOver, HandBack}
use Rattle.il_machine.specs.Units.{Grant, Preempt}
use Rattle.il_machine.specs.Files.{Attach}
use Rattle.il_machine.specs.Claims.{Claim}
use Rattle.il_machine.specs.Stepping.{IsDoneOf}
use Rattle.il_machine.specs.Finishing.{Finish}

-- In the world w the act may be answered so, and then leaves v. A call that looks changes nothing of a closed world.
abbrev pub Step : World → Act → Reply → World → Type 0
Step w (acts.GetHandle name) (acts.Got result) v = GetHandle w name result v
Step w (acts.FreeHandle h) (acts.Removed result) v = FreeHandle w h result v
Step w (acts.Attach h file) (acts.Plain result) v = Attach w h file result v
Step w (acts.GetState h) (acts.Stated result) v = Looks (state_answer h (look w)) result w v
Step w (acts.PortView h port) (acts.Viewed result) v = Looks (view_answer h port (look w)) result w v
Step w (acts.Progress h) (acts.Progressed result) v = Looks (progress_answer h w) result w v
Step w (acts.GetParameter h key) (acts.Parameter result) v = Looks (parameter_answer h key false (look w)) result w v
Step w (acts.GetConfig h key) (acts.Parameter result) v = Looks (parameter_answer h key true (look w)) result w v
Step w (acts.SetParameter h key value) (acts.Plain result) v = SetParameter w h key value result v
Step w (acts.SetConfig h key value) (acts.Plain result) v = SetConfig w h key value result v
Step w (acts.SetupTunnel output input) (acts.Joined result) v = SetupTunnel w output input result v
Step w (acts.DropTunnel output input) (acts.Plain result) v = DropTunnel w output input result v
Step w (acts.SendCommand h command) (acts.Plain result) v = SendCommand w h command result v
Step w (acts.RunCommand h) (acts.Acted result) v = RunCommand w h result v
Step w (acts.AllocateBuffer h port) (acts.Allocated result) v = AllocateBuffer w h port result v
Step w (acts.UseBuffer h port bytes) (acts.Used result) v = UseBuffer w h port bytes result v
Step w (acts.FreeBuffer h port header) (acts.Freed result) v = FreeBuffer w h port header result v
Step w (acts.EmptyThisBuffer h port header) (acts.Plain result) v = EmptyThisBuffer w h port header result v
Step w (acts.FillThisBuffer h port header) (acts.Plain result) v = FillThisBuffer w h port header result v
Step w (acts.TakeNote h) (acts.Took result) v = TakeNote w h result v
Step w (acts.EndNote h progress) acts.Ended v = EndNote w h v
Step w (acts.Supply h port) (acts.Supplied result) v = Supply w h port result v
Step w (acts.Release h port) (acts.Acted result) v = Release w h port result v
Step w (acts.HandOver h port) (acts.Acted result) v = HandOver w h port result v
Step w (acts.HandBack h port) (acts.Acted result) v = HandBack w h port result v
Step w acts.Grant (acts.Granted answer) v = Grant w answer v
Step w acts.Preempt (acts.Preempted answer) v = Preempt w answer v
Step w (acts.Claim h) (acts.Claimed result) v = Claim w h result v
Step w (acts.Finish done) acts.Finished v = Finish w done v
-- no other answer is given
Step w _ _ v = ⊥

-- What the caller sees to: a header that is handed in is with the client; the client object that is handed back was out, and has been
-- told all that was given for its component; a work that comes back is out, and was done by one step.
abbrev pub Meets : World → Act → Type 0
Meets w (acts.GetHandle name) = Unit {0}
Meets w (acts.FreeHandle h) = Unit {0}
Meets w (acts.Attach h file) = Unit {0}
Meets w (acts.GetState h) = Unit {0}
Meets w (acts.PortView h port) = Unit {0}
Meets w (acts.Progress h) = Unit {0}
Meets w (acts.GetParameter h key) = Unit {0}
Meets w (acts.GetConfig h key) = Unit {0}
Meets w (acts.SetParameter h key value) = Unit {0}
Meets w (acts.SetConfig h key value) = Unit {0}
Meets w (acts.SetupTunnel output input) = Unit {0}
Meets w (acts.DropTunnel output input) = Unit {0}
Meets w (acts.SendCommand h command) = Unit {0}
Meets w (acts.RunCommand h) = Unit {0}
Meets w (acts.AllocateBuffer h port) = Unit {0}
Meets w (acts.UseBuffer h port bytes) = Unit {0}
Meets w (acts.FreeBuffer h port header) = IsWithClient header (look w)
Meets w (acts.EmptyThisBuffer h port header) = IsHeldByClient header (look w)
Meets w (acts.FillThisBuffer h port header) = IsHeldByClient header (look w)
Meets w (acts.TakeNote h) = Unit {0}
Meets w (acts.EndNote h progress) = MatchOption (component_named h w.components) ⊥ (λ c. (c.client_out ≡ true) × (progress ≡ progress_of c w))
Meets w (acts.Supply h port) = Unit {0}
Meets w (acts.Release h port) = Unit {0}
Meets w (acts.HandOver h port) = Unit {0}
Meets w (acts.HandBack h port) = Unit {0}
Meets w acts.Grant = Unit {0}
Meets w acts.Preempt = Unit {0}
Meets w (acts.Claim h) = Unit {0}
Meets w (acts.Finish done) = MatchOption (component_numbered done.component w) ⊥ (λ c. MatchOption c.work ⊥ (λ work. IsDoneOf w c work done))

-- The acts, each of which meets its condition, are answered so in their order and lead from w to v.
abbrev pub Run : World → List (Act × Reply) → World → Type 0
Run w [] v = v ≡ w
Run w (x ∷ xs) v = (mid : World) × Meets w x.0 × Step w x.0 x.1 mid × Run mid xs v
