-- What is done in a play of a graph, and what its client asks for: which acts, in which order, and when. It is the standard's way to bring
-- components up and down, and to change the settings of a tunnel (OpenMAX IL 1.1.2, `OMX_SendCommand`, `OMX_EventPortSettingsChanged`).
use Rattle.std.specs.Prelude.{◌≡◌, ℕ, ◌+◌, ◌<◌, ◌==◌, Bool, true, false, not, ◌&&◌, nat_lt, if◌then◌else◌, List, [], ◌∷◌, ◌++◌, map, filter, flat_map, count_by, take, slice_get, Some, is_some, Ok}
use Rattle.omx_types.specs.declared.command.Command.{Command}
use Rattle.omx_types.specs.declared.command.Command.TheVariants.{StateSet, PortDisable, PortEnable}
use Rattle.omx_types.specs.declared.command.Completion.{Completion}
use Rattle.omx_types.specs.declared.command.Completion.TheVariants.{Disable, Enable}
use Rattle.omx_types.specs.declared.command.PortSel.{PortSel}
use Rattle.omx_types.specs.declared.command.PortSel.TheVariants.{One}
use Rattle.omx_types.specs.declared.handle.Handle.{Handle}
use Rattle.omx_types.specs.declared.state.State.{State}
use Rattle.omx_types.specs.declared.state.State.TheVariants.{Loaded, Idle, Executing}
use Rattle.il_machine.specs.declared.answer.Acted.TheVariants.{Did}
use Rattle.il_machine.specs.declared.answer.Progress.{Progress}
use Rattle.il_machine.specs.Acts.{Act, Reply}
use Rattle.il_machine.specs.Acts as acts
use Rattle.il_machine.specs.Claims.{ClaimedWork}
use Rattle.il_machine.specs.Components.{no_progress}
use Rattle.il_machine.specs.Kinds.{is_late, is_sink}
use Rattle.il_machine.specs.Notes.{TookNote}
use Rattle.history_laws.specs.GivenIn.{given_in}
use Rattle.play_build_laws.specs.Assembly.{Assembly, component_at, kind_at}
use Rattle.play_build_laws.specs.Building.{handle_at, joining_act, setting_act}
use Rattle.play_build_laws.specs.Stages.{id_at}
use Rattle.play_forms.specs.Plans.{PlanValue}
use Rattle.play_plan_laws.specs.Casting.{flow_of}
use Rattle.play_world_laws.specs.Telling.{progress_by}
use Rattle.play_plan_laws.specs.Assemblies.{PlayFiles, assembly_of}

-- the plan's graph, where each link has the format that its files give
abbrev pub tuned : PlanValue → PlayFiles → Assembly
tuned plan files = record (assembly_of plan files) { format = λ l. (flow_of plan l).format }

-- ---- what needs no asking

-- A component carried out a command, did a step of its part, or moved a header of a tunnel; or its client was given a note and came back.
abbrev pub is_unasked : Act → Reply → Bool
is_unasked (acts.RunCommand h) (acts.Acted (Ok Did)) = true
is_unasked (acts.Claim h) (acts.Claimed (Ok (ClaimedWork work))) = true
is_unasked (acts.Finish done) acts.Finished = true
is_unasked (acts.Supply h port) (acts.Supplied (Ok Did)) = true
is_unasked (acts.Release h port) (acts.Acted (Ok Did)) = true
is_unasked (acts.HandOver h port) (acts.Acted (Ok Did)) = true
is_unasked (acts.HandBack h port) (acts.Acted (Ok Did)) = true
is_unasked (acts.TakeNote h) (acts.Took (Ok (TookNote taken))) = true
is_unasked (acts.EndNote h progress) acts.Ended = true
is_unasked _ _ = false

abbrev pub is_asked : Act × Reply → Bool
is_asked step = not (is_unasked step.0 step.1)

abbrev pub asked : List (Act × Reply) → List (Act × Reply)
asked steps = filter is_asked steps

-- ---- what is asked

pub data Asking : Type 0 where
  -- each component is sent this state, in the order of the script
  ToIdle : Asking
  ToExecuting : Asking
  BackToIdle : Asking
  ToLoaded : Asking
  -- both ports of the link are disabled
  Disabling : (link : ℕ) → Asking
  -- its tunnel is dropped, both ports get its format, and the tunnel is set up again
  Retuning : (link : ℕ) → Asking
  -- both ports are enabled
  Enabling : (link : ℕ) → Asking

abbrev pub sending : State → Handle → Act × Reply
sending state h = (acts.SendCommand h (StateSet state), acts.Plain (Ok tt))

abbrev pub port_sending : Assembly → List Handle → (PortSel → Command) → Bool → ℕ → Act × Reply
port_sending s handles command side l = (acts.SendCommand (handle_at s handles side l) (command (One (s.end side l).port)), acts.Plain (Ok tt))

abbrev pub dropping : Assembly → List Handle → ℕ → Act × Reply
dropping s handles l = (acts.DropTunnel (id_at s false l (handle_at s handles false l)) (id_at s true l (handle_at s handles true l)), acts.Plain (Ok tt))

abbrev pub acts_of : Assembly → List Handle → Asking → List (Act × Reply)
acts_of s handles ToIdle = map (sending Idle) handles
acts_of s handles ToExecuting = map (sending Executing) handles
acts_of s handles BackToIdle = map (sending Idle) handles
acts_of s handles ToLoaded = map (sending Loaded) handles
acts_of s handles (Disabling l) = port_sending s handles (λ ports. PortDisable ports) false l ∷ port_sending s handles (λ ports. PortDisable ports) true l ∷ []
acts_of s handles (Retuning l) = dropping s handles l ∷ setting_act s handles false l ∷ setting_act s handles true l ∷ joining_act s handles l ∷ []
acts_of s handles (Enabling l) = port_sending s handles (λ ports. PortEnable ports) false l ∷ port_sending s handles (λ ports. PortEnable ports) true l ∷ []

-- ---- in which order

-- the link of each late source once, in any order
abbrev pub AreLateLinks : Assembly → List ℕ → Type 0
AreLateLinks s links = (l : ℕ) → count_by (λ (k : ℕ). k == l) links ≡ (if nat_lt l s.links && is_late (kind_at s false l) then 1 else 0)

abbrev pub change_of : ℕ → List Asking
change_of l = Disabling l ∷ Retuning l ∷ Enabling l ∷ []

abbrev pub askings : List ℕ → List Asking
askings links = ToIdle ∷ ToExecuting ∷ (flat_map change_of links ++ BackToIdle ∷ ToLoaded ∷ [])

-- ---- when

-- what the component at the place has told its client by these steps; its number is its place
abbrev pub told_by : ℕ → List (Act × Reply) → Progress
told_by place steps = progress_by (given_in place steps) no_progress

-- each component has told this state last
abbrev pub AreAllAt : Assembly → State → List (Act × Reply) → Type 0
AreAllAt s state steps = (place : ℕ) → place < s.components → (told_by place steps).state ≡ Some state

-- both ends of the link have told this completion of their ports last
abbrev pub AreBothDone : Assembly → (ℕ → Completion) → ℕ → List (Act × Reply) → Type 0
AreBothDone s completion l steps = (side : Bool) → (told_by (component_at s side l) steps).port ≡ Some (completion (s.end side l).port)

-- What was asked is done, and was told. Of a retuning nothing is told: it is done when its calls come back.
abbrev pub IsDone : Assembly → Asking → List (Act × Reply) → Type 0
IsDone s ToIdle steps = AreAllAt s Idle steps
IsDone s ToExecuting steps = AreAllAt s Executing steps
IsDone s BackToIdle steps = AreAllAt s Idle steps
IsDone s ToLoaded steps = AreAllAt s Loaded steps
IsDone s (Disabling l) steps = AreBothDone s (λ port. Disable port) l steps
IsDone s (Retuning l) steps = Unit {0}
IsDone s (Enabling l) steps = AreBothDone s (λ port. Enable port) l steps

-- Before a link is changed its source has told that its settings changed. Before all go back, each sink has told the end of its stream.
abbrev pub HasCause : Assembly → Asking → List (Act × Reply) → Type 0
HasCause s (Disabling l) steps = is_some (told_by (component_at s false l) steps).settings ≡ true
HasCause s BackToIdle steps = (place : ℕ) → place < s.components → is_sink (s.kind place) ≡ true → (told_by place steps).eos ≡ true
HasCause s _ steps = Unit {0}

-- Of the askings, one after the other: each begins where the one before it is done and it has its cause.
abbrev pub AreTimely : Assembly → List Handle → List Asking → List (Act × Reply) → Type 0
AreTimely s handles list steps = (k : ℕ) (one next : Asking) (before after : List (Act × Reply)) (step : Act × Reply)
    → slice_get list k ≡ Some one → slice_get list (k + 1) ≡ Some next
    → steps ≡ before ++ step ∷ after → is_asked step ≡ true → asked before ≡ flat_map (acts_of s handles) (take (k + 1) list)
    → IsDone s one before × HasCause s next before

-- The steps are those of a play of the graph, whose components have these handles: whatever needs no asking, and all that is asked, each once,
-- in order and in time.
pub record IsConducted (s : Assembly) (handles : List Handle) (steps : List (Act × Reply)) : Type 0 where
  pub links : List ℕ
  pub late : AreLateLinks s links
  pub whole : asked steps ≡ flat_map (acts_of s handles) (askings links)
  pub timely : AreTimely s handles (askings links) steps
