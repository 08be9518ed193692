-- The places for events of a component: how many are used as its notes, commands and ports change.
use Rattle.std.proofs.Common.{◌≡◌, ◌≢◌, ℕ, ◌+◌, ◌≤◌, Bool, true, false, cond, ◌&&◌, nat_eq, List, [], ◌∷◌, ◌++◌, length, sum_by, slice_get, Some, refl, ◌∙◌, ap, append-nil, arith}
use Rattle.std.proofs.lemmas.Bool.{eqb-false}
use Rattle.std.proofs.lemmas.List.Sums.{sum_by_push}
use Rattle.std.proofs.Math.Path.{fun_ext}
use Rattle.omx_types.specs.declared.command.Command.{Command}
use Rattle.omx_types.specs.declared.command.Command.TheVariants as commands
use Rattle.omx_types.specs.declared.command.PortSel.{PortSel}
use Rattle.omx_types.specs.declared.command.PortSel.TheVariants as sels
use Rattle.omx_types.specs.declared.command.Event.{Event}
use Rattle.omx_types.specs.declared.command.Note.{Note}
use Rattle.omx_types.specs.declared.command.Note.TheVariants.{Told, EmptyDone, FillDone}
use Rattle.omx_types.specs.declared.state.State.TheVariants as states
use Rattle.part_api.specs.declared.attached.Attached.{Attached}
use Rattle.il_machine.specs.declared.answer.Pending.{Pending}
use Rattle.il_machine.specs.declared.port.PortSetting.{PortSetting}
use Rattle.il_machine.specs.Settings.{IsWhole}
use Rattle.il_machine.specs.Kinds.{ports_in}
use Rattle.il_machine.specs.States.{is_running}
use Rattle.il_machine.specs.Lists.{holds_at}
use Rattle.il_machine.specs.World.{Component, noted, told}
use Rattle.il_machine.specs.Headers.{weight}
use Rattle.il_machine.specs.Ports.{is_going_to}
use Rattle.il_machine.specs.Room.{is_event, events_in, cost_of, sel_cost, is_by_client, port_reserve, is_losing, work_reserve, used, room}
use Rattle.il_machine.specs.Files.{file_port_format}
use Rattle.il_machine.specs.Census.{note_numbers}
use Rattle.il_machine.specs.Sound.{IsSound, IsLawfulSetting, is_fit, may_have, is_lawful_cause}
use Rattle.machine_laws.specs.Changes.{IsChange}
use Rattle.machine_laws.proofs.Units.{IsAside}

-- ---- the parts of what is used

abbrev pub costs : Component → ℕ
costs c = sum_by (cost_of c) c.commands

abbrev pub asked : Component → ℕ
asked c = weight (holds_at c.pending (λ p. is_by_client p.cause))

abbrev pub places : Component → ℕ
places c = sum_by port_reserve c.ports

abbrev pub loss : Component → ℕ
loss c = weight (is_losing c)

pub used_is : (c : Component) → used c ≡ events_in c.notes + costs c + asked c + places c + work_reserve c.work + loss c
used_is c = omega arith

sel_same : (c d : Component) → length d.ports ≡ length c.ports → (sel : PortSel) → sel_cost d sel ≡ sel_cost c sel
sel_same c d e (sels.One port) = refl
sel_same c d e sels.All = e

pub cost_same : (c d : Component) → length d.ports ≡ length c.ports → (command : Command) → cost_of d command ≡ cost_of c command
cost_same c d e (commands.StateSet target) = refl
cost_same c d e (commands.Flush sel) = sel_same c d e sel
cost_same c d e (commands.PortDisable sel) = sel_same c d e sel
cost_same c d e (commands.PortEnable sel) = sel_same c d e sel
cost_same c d e (commands.MarkBuffer port target value) = refl

-- the cost of a command goes by the number of ports alone
pub costs_same : (c d : Component) (xs : List Command) → length d.ports ≡ length c.ports → sum_by (cost_of d) xs ≡ sum_by (cost_of c) xs
costs_same c d xs e = let f : cost_of d ≡ cost_of c = fun_ext (cost_same c d e) in rw f refl

-- ---- all of a sound component but its room

pub record IsLawful (c : Component) : Type 0 where
  pub whole : IsWhole c.settings
  pub ports : length c.ports ≡ ports_in c.settings.kind
  pub settings : (port : ℕ) (setting : PortSetting) → slice_get c.settings.ports port ≡ Some setting → IsLawfulSetting c.settings port setting
  pub fit : is_fit c ≡ true
  pub file : (file : Attached) → c.file ≡ Some file → may_have c.settings.kind (file_port_format c) file ≡ true
  pub cause : (p : Pending) → c.pending ≡ Some p → is_lawful_cause c p ≡ true
  pub mark : c.loss_mark ≡ true → (is_running c.state && is_going_to states.Idle c) ≡ true
  pub commands : length c.commands ≤ 32

pub lawful_of : (c : Component) → IsSound c → IsLawful c
lawful_of c S = record { whole = S.whole; ports = S.ports; settings = S.settings; fit = S.fit; file = S.file; cause = S.cause; mark = S.mark; commands = S.commands }

pub sound_with : (c : Component) → IsLawful c → used c ≤ 256 → IsSound c
sound_with c L u = record { whole = L.whole; ports = L.ports; settings = L.settings; fit = L.fit; file = L.file; cause = L.cause; mark = L.mark; commands = L.commands; room = u }

-- ---- one note more

weighed : (b : Bool) → cond {A = ℕ} b 1 0 ≡ weight b
weighed true = refl
weighed false = refl

pub numbers_push : (notes : List Note) (note : Note) → note_numbers (notes ++ note ∷ []) ≡ note_numbers notes ++ note_numbers (note ∷ [])
numbers_push [] note = refl
numbers_push (Told event ∷ notes) note = numbers_push notes note
numbers_push (EmptyDone n ∷ notes) note = ap (λ (ns : List ℕ). n ∷ ns) (numbers_push notes note)
numbers_push (FillDone n ∷ notes) note = ap (λ (ns : List ℕ). n ∷ ns) (numbers_push notes note)

pub numbers_told : (event : Event) (notes : List Note) → note_numbers (notes ++ Told event ∷ []) ≡ note_numbers notes
numbers_told event notes = numbers_push notes (Told event) ∙ append-nil (note_numbers notes)

pub used_noted : (note : Note) (c : Component) → used (noted note c) ≡ used c + weight (is_event note)
used_noted note c =
    let e : events_in (c.notes ++ note ∷ []) ≡ events_in c.notes + cond (is_event note) 1 0 = sum_by_push (λ x. cond (is_event x) 1 0) c.notes note in
    let w : cond {A = ℕ} (is_event note) 1 0 ≡ weight (is_event note) = weighed (is_event note) in
    let k : costs (noted note c) ≡ costs c = costs_same c (noted note c) c.commands refl in
    omega arith

pub used_told : (event : Event) (c : Component) → used (told event c) ≡ used c + 1
used_told event c = used_noted (Told event) c

pub lawful_noted : (note : Note) (c : Component) → IsLawful c → IsLawful (noted note c)
lawful_noted note c L = record { whole = L.whole; ports = L.ports; settings = L.settings; fit = L.fit; file = L.file; cause = L.cause; mark = L.mark; commands = L.commands }

pub lawful_told : (event : Event) (c : Component) → IsLawful c → IsLawful (told event c)
lawful_told event c L = lawful_noted (Told event) c L

-- an event is told where there is room
pub sound_told : (event : Event) (c : Component) → IsSound c → nat_eq (room c) 0 ≡ false → IsSound (told event c)
sound_told event c S r =
    let n : room c ≢ 0 = eqb-false (room c) 0 r in
    let u = used_told event c in
    sound_with (told event c) (lawful_told event c (lawful_of c S)) (omega (arith, S.room))

pub change_told : (event : Event) (c : Component) → IsChange c (told event c)
change_told event c = record { handle = refl; ports = refl; links = refl; notes = numbers_told event c.notes }

pub aside_noted : (note : Note) (c : Component) → IsAside c (noted note c)
aside_noted note c = record { keeps = record { kind = refl; weights = refl; count = refl; work = refl }; state = refl; pending = refl; holds = refl; waiting = refl; part = refl; held = λ test h. h }

pub aside_told : (event : Event) (c : Component) → IsAside c (told event c)
aside_told event c = aside_noted (Told event) c
