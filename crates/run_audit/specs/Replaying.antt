-- Where a replay stands: its graph stands for the moment to which the lines so far led, and what is out of the graph is held.
use Rattle.std.specs.Prelude.{◌≡◌, ◌≢◌, ◌≤◌, ℕ, Bool, true, IsTrue, IsFalse, List, [], length, slice_get, take, Option, Some, None, MatchOption, option_and_then}
use Rattle.omx_types.specs.declared.handle.Handle.{Handle}
use Rattle.il_machine.specs.Sound.{Sound}
use Rattle.il_machine.specs.Whole.{Stands}
use Rattle.il_machine.specs.World.{World, stream_of}
use Rattle.history_laws.specs.Works.{has_work_out}
use Rattle.play_forms.specs.Plans.{PlanValue}
use Rattle.play_log.specs.Naming.{AreTelling}
use Rattle.play_log.specs.Scenes.{HaveOwnNames}
use Rattle.audio_parts.specs.declared.part_file.PartFile.{PartFile}
use Rattle.audio_parts.specs.Shown.{ShownPart}
use Rattle.graph_core.specs.Clients.{WasTold}
use Rattle.il_flow.specs.Works.{WorkOf}
use Rattle.il_graph.specs.Shown.{Shown, kept}
use Rattle.compared_files.specs.Comparing.{ComparingValue}
use Rattle.graph_acts.specs.Holding.{IsGone, IsGoneSo}
use Rattle.graph_acts.specs.Objects.{files_in}
use Rattle.graph_acts.specs.Plain.{Sight}
use Rattle.graph_acts.specs.Sinks.{written_to}
use Rattle.graph_acts.specs.Working.{IsWorkIn, out_of}
use Rattle.audit_forms.specs.Audited.{Case, Moment}
use Rattle.audit_forms.specs.Told.{HaveNumbers}
use Rattle.audit_acts.specs.Asking.{scene_in}
use Rattle.run_audit.specs.declared.replay.Replay.{Replay}
use Rattle.run_audit.specs.Clientless.{HasNoClients}

module _ {S K : Type 0} where
  -- The works that are out are held as they were claimed, by the places of their components.
  pub record HoldsWorks (handles : List Handle) (works : List (Option (WorkOf (ShownPart S K)))) (w : World) : Type 0 where
    pub out : (place : ℕ) (work : WorkOf (ShownPart S K)) → slice_get works place ≡ Some (Some work) → (slice_get handles place ≡ Some work.component) × IsWorkIn w (out_of work)
    pub all : (place : ℕ) (h : Handle) → slice_get handles place ≡ Some h → has_work_out h.generation w ≡ true → (work : WorkOf (ShownPart S K)) × (slice_get works place ≡ Some (Some work))

module _ {S K C : Type 0} where
  -- The client object was told all that was given for the component of the handle, and is out.
  abbrev pub IsObjectOf : Sight S K C → Shown S K C → World → Handle → C → Type 0
  IsObjectOf see g w h client = IsGoneSo g (record { handle = h; progress = see.progress client }) × WasTold h (see.progress client) w

  -- So are the client objects that are out, told all that was given.
  pub record HoldsObjects (see : Sight S K C) (handles : List Handle) (clients : List (Option C)) (g : Shown S K C) (w : World) : Type 0 where
    pub out : (place : ℕ) (client : C) → slice_get clients place ≡ Some (Some client) → (h : Handle) × (slice_get handles place ≡ Some h) × IsObjectOf see g w h client
    pub all : (place : ℕ) (h : Handle) → slice_get handles place ≡ Some h → IsGone g h → (client : C) × (slice_get clients place ≡ Some (Some client))

-- what is written to the file is compared with these bytes; where there are none, it is no sink's
abbrev pub IsComparedWith : {S : Type 0} → (S → Option (List ℕ)) → Option (List ℕ) → Option (PartFile S (ComparingValue S)) → Type 0
IsComparedWith told text file = MatchOption (option_and_then written_to file) (text ≡ None) (λ snk. (text ≢ None) × (told snk.src ≡ text))

-- Each sink's file is compared with its bytes, wherever the component's part is.
pub record AreCompared {S C : Type 0} (told : S → Option (List ℕ)) (sinks : ℕ → Option (List ℕ)) (works : List (Option (WorkOf (ShownPart S (ComparingValue S))))) (g : Shown S (ComparingValue S) C) : Type 0 where
  pub inside : (place : ℕ) → slice_get works place ≡ Some None → IsComparedWith told (sinks place) (files_in g place)
  pub outside : (place : ℕ) (work : WorkOf (ShownPart S (ComparingValue S))) → slice_get works place ≡ Some (Some work) → IsComparedWith told (sinks place) (work.part).file

-- what each sink has written is a front of its file
abbrev pub AreFronts : (ℕ → Option (List ℕ)) → World → Type 0
AreFronts sinks w = (place : ℕ) (text : List ℕ) → sinks place ≡ Some text → MatchOption (stream_of place w) ⊥ (λ s. (s.known ≡ Some []) × (take (length s.written) text ≡ s.written))

-- From the case's lines on, the graph stands for the world, and what is out of it is held. The lists go by the components' places.
pub record IsStanding {S C : Type 0} (see : Sight S (ComparingValue S) C) (tells : Bool) (g : Shown S (ComparingValue S) C) (plan : PlanValue) (handles : List Handle)
    (works : List (Option (WorkOf (ShownPart S (ComparingValue S))))) (clients : List (Option C)) (x : Case) (w : World) : Type 0 where
  pub plan_is : x.plan ≡ plan
  pub scene : x.scene ≡ scene_in plan.parts handles
  pub own : HaveOwnNames plan.parts
  pub numbers : HaveNumbers (scene_in plan.parts handles)
  pub many_handles : length handles ≡ length plan.parts
  pub many_works : length works ≡ length plan.parts
  pub many_clients : length clients ≡ length plan.parts
  pub stands : Stands (kept see.progress g) w
  pub sound : Sound w
  pub telling : IsTrue tells → AreTelling w
  pub clientless : HasNoClients w
  pub works_are : HoldsWorks handles works w
  pub objects : HoldsObjects see handles clients g w
  pub sinks : IsTrue tells → AreCompared see.reads.told x.sinks works g
  pub untold : IsFalse tells → (place : ℕ) → x.sinks place ≡ None

-- so it is at the moment, and it was asked and told as much
pub record IsReplay {S C : Type 0} (see : Sight S (ComparingValue S) C) (tells : Bool) (r : Replay S C) (x : Case) (at : Moment) : Type 0 where
  pub standing : IsStanding see tells r.served.graph r.plan r.handles.items r.works.items r.clients.items x at.world
  pub written : AreFronts x.sinks at.world
  pub few : length (r.plan).parts ≤ 32
  pub many_told : length at.told ≡ length (r.plan).parts
  pub told : r.told.items ≡ at.told
  pub order : r.order ≡ at.order
