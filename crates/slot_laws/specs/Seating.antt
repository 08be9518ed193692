-- A world with another key, and with other slots in all its handles.
use Rattle.std.specs.Prelude.{◌≡◌, ℕ, nat_eq, map, option_map, Result, Ok, Err}
use Rattle.omx_types.specs.declared.handle.Handle.{Handle}
use Rattle.omx_types.specs.declared.handle.PortId.{PortId}
use Rattle.omx_types.specs.declared.command.Command.{Command}
use Rattle.omx_types.specs.declared.command.Command.TheVariants as commands
use Rattle.il_machine.specs.declared.answer.Acted.{Acted}
use Rattle.il_machine.specs.declared.answer.Acted.TheVariants as acted
use Rattle.il_machine.specs.declared.answer.Granted.{Granted}
use Rattle.il_machine.specs.declared.answer.Granted.TheVariants as granted
use Rattle.il_machine.specs.declared.answer.Preempted.{Preempted}
use Rattle.il_machine.specs.declared.answer.Preempted.TheVariants as preempted
use Rattle.il_machine.specs.declared.answer.Why.{Why}
use Rattle.il_machine.specs.declared.answer.Why.TheVariants as why
use Rattle.il_machine.specs.declared.port.Mark.{Mark}
use Rattle.il_machine.specs.declared.port.Port.{Port}
use Rattle.il_machine.specs.declared.port.PortState.{PortState}
use Rattle.il_machine.specs.World.{Component, HeaderRecord, Load, World}
use Rattle.il_machine.specs.Buffers.{Held}
use Rattle.il_machine.specs.Claims.{CarriedHeader, Claimed, ClaimedWork}
use Rattle.il_machine.specs.Notes.{Taken, TakenEvent, TakenEmpty, TakenFilled, Took, TookNote, TookNone, TookBusy}
use Rattle.il_machine.specs.Stepping.{WorkDone}
use Rattle.il_machine.specs.Acts.{Act, Reply}
use Rattle.il_machine.specs.Acts as acts

-- The key, and for each generation which slot stands for which. No two slots become one.
pub record Seating : Type 0 where
  pub key : ℕ
  pub slot : ℕ → ℕ → ℕ
  pub apart : (generation a b : ℕ) → nat_eq (slot generation a) (slot generation b) ≡ nat_eq a b

-- ---- handles, and what has them

abbrev pub moved_handle : Seating → Handle → Handle
moved_handle f h = record { slot = f.slot h.generation h.slot; generation = h.generation }

abbrev pub moved_id : Seating → PortId → PortId
moved_id f p = record { handle = moved_handle f p.handle; index = p.index }

abbrev pub moved_mark : Seating → Mark → Mark
moved_mark f m = record { target = moved_handle f m.target; value = m.value }

abbrev pub moved_command : Seating → Command → Command
moved_command f (commands.StateSet state) = commands.StateSet state
moved_command f (commands.Flush ports) = commands.Flush ports
moved_command f (commands.PortDisable ports) = commands.PortDisable ports
moved_command f (commands.PortEnable ports) = commands.PortEnable ports
moved_command f (commands.MarkBuffer port target value) = commands.MarkBuffer port (moved_handle f target) value

-- ---- a world

abbrev pub moved_state : Seating → PortState → PortState
moved_state f p = record p { waiting_mark = option_map (moved_mark f) p.waiting_mark }

abbrev pub moved_port : Seating → Port → Port
moved_port f p = record p { state = moved_state f p.state }

abbrev pub moved_component : Seating → Component → Component
moved_component f c = record c {
  handle = moved_handle f c.handle;
  commands = map (moved_command f) c.commands;
  ports = map (moved_state f) c.ports;
}

abbrev pub moved_load : Seating → Load → Load
moved_load f load = record load { mark = option_map (moved_mark f) load.mark }

abbrev pub moved_header : Seating → HeaderRecord → HeaderRecord
moved_header f r = record r { load = moved_load f r.load }

abbrev pub moved : Seating → World → World
moved f w = record w {
  key = f.key;
  components = map (moved_component f) w.components;
  headers = map (moved_header f) w.headers;
}

-- ---- answers

abbrev pub mapped : {T U E : Type 0} → (T → U) → Result T E → Result U E
mapped change (Ok x) = Ok (change x)
mapped change (Err error) = Err error

abbrev pub moved_held : Seating → Held → Held
moved_held f header = record header { mark = option_map (moved_mark f) header.mark }

abbrev pub moved_carried : Seating → CarriedHeader → CarriedHeader
moved_carried f x = record x { header = moved_held f x.header }

abbrev pub moved_why : Seating → Why → Why
moved_why f (why.NotAccepting port) = why.NotAccepting (moved_id f port)
moved_why f (why.NotRunning port) = why.NotRunning (moved_id f port)
moved_why f other = other

abbrev pub moved_acted : Seating → Acted → Acted
moved_acted f acted.Did = acted.Did
moved_acted f (acted.Idle reason) = acted.Idle (moved_why f reason)

abbrev pub moved_granted : Seating → Granted → Granted
moved_granted f (granted.Granted h) = granted.Granted (moved_handle f h)
moved_granted f (granted.Idle reason) = granted.Idle (moved_why f reason)

abbrev pub moved_preempted : Seating → Preempted → Preempted
moved_preempted f (preempted.Victim h) = preempted.Victim (moved_handle f h)
moved_preempted f (preempted.Idle reason) = preempted.Idle (moved_why f reason)

abbrev pub moved_claimed : Seating → Claimed → Claimed
moved_claimed f (ClaimedWork work) = ClaimedWork (record work { headers = map (moved_carried f) work.headers })
moved_claimed f other = other

abbrev pub moved_taken : Seating → Taken → Taken
moved_taken f (TakenEvent event) = TakenEvent event
moved_taken f (TakenEmpty header) = TakenEmpty (moved_held f header)
moved_taken f (TakenFilled header) = TakenFilled (moved_held f header)

abbrev pub moved_took : Seating → Took → Took
moved_took f (TookNote taken) = TookNote (moved_taken f taken)
moved_took f TookNone = TookNone
moved_took f TookBusy = TookBusy

abbrev pub moved_done : Seating → WorkDone → WorkDone
moved_done f done = record done { headers = map (moved_carried f) done.headers }

-- ---- acts and their replies

abbrev pub moved_act : Seating → Act → Act
moved_act f (acts.GetHandle name) = acts.GetHandle name
moved_act f (acts.FreeHandle h) = acts.FreeHandle (moved_handle f h)
moved_act f (acts.Attach h file) = acts.Attach (moved_handle f h) file
moved_act f (acts.GetState h) = acts.GetState (moved_handle f h)
moved_act f (acts.PortView h port) = acts.PortView (moved_handle f h) port
moved_act f (acts.Progress h) = acts.Progress (moved_handle f h)
moved_act f (acts.GetParameter h key) = acts.GetParameter (moved_handle f h) key
moved_act f (acts.GetConfig h key) = acts.GetConfig (moved_handle f h) key
moved_act f (acts.SetParameter h key value) = acts.SetParameter (moved_handle f h) key value
moved_act f (acts.SetConfig h key value) = acts.SetConfig (moved_handle f h) key value
moved_act f (acts.SetupTunnel output input) = acts.SetupTunnel (moved_id f output) (moved_id f input)
moved_act f (acts.DropTunnel output input) = acts.DropTunnel (moved_id f output) (moved_id f input)
moved_act f (acts.SendCommand h command) = acts.SendCommand (moved_handle f h) (moved_command f command)
moved_act f (acts.RunCommand h) = acts.RunCommand (moved_handle f h)
moved_act f (acts.AllocateBuffer h port) = acts.AllocateBuffer (moved_handle f h) port
moved_act f (acts.UseBuffer h port bytes) = acts.UseBuffer (moved_handle f h) port bytes
moved_act f (acts.FreeBuffer h port header) = acts.FreeBuffer (moved_handle f h) port header
moved_act f (acts.EmptyThisBuffer h port header) = acts.EmptyThisBuffer (moved_handle f h) port (moved_held f header)
moved_act f (acts.FillThisBuffer h port header) = acts.FillThisBuffer (moved_handle f h) port (moved_held f header)
moved_act f (acts.TakeNote h) = acts.TakeNote (moved_handle f h)
moved_act f (acts.EndNote h progress) = acts.EndNote (moved_handle f h) progress
moved_act f (acts.Supply h port) = acts.Supply (moved_handle f h) port
moved_act f (acts.Release h port) = acts.Release (moved_handle f h) port
moved_act f (acts.HandOver h port) = acts.HandOver (moved_handle f h) port
moved_act f (acts.HandBack h port) = acts.HandBack (moved_handle f h) port
moved_act f acts.Grant = acts.Grant
moved_act f acts.Preempt = acts.Preempt
moved_act f (acts.Claim h) = acts.Claim (moved_handle f h)
moved_act f (acts.Finish done) = acts.Finish (moved_done f done)

abbrev pub moved_reply : Seating → Reply → Reply
moved_reply f (acts.Got result) = acts.Got (mapped (moved_handle f) result)
moved_reply f (acts.Acted result) = acts.Acted (mapped (moved_acted f) result)
moved_reply f (acts.Allocated result) = acts.Allocated (mapped (moved_held f) result)
moved_reply f (acts.Used result) = acts.Used (mapped (moved_held f) result)
moved_reply f (acts.Took result) = acts.Took (mapped (moved_took f) result)
moved_reply f (acts.Supplied result) = acts.Supplied (mapped (moved_acted f) result)
moved_reply f (acts.Granted answer) = acts.Granted (moved_granted f answer)
moved_reply f (acts.Preempted answer) = acts.Preempted (moved_preempted f answer)
moved_reply f (acts.Claimed result) = acts.Claimed (mapped (moved_claimed f) result)
moved_reply f other = other

-- it makes no component
abbrev pub MakesNone : Act → Type 0
MakesNone (acts.GetHandle name) = ⊥
MakesNone other = Unit {0}
