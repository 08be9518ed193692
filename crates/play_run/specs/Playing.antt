-- The plays that a graph with its conductor stands for.
use Rattle.std.specs.Prelude.{◌≡◌, ℕ, Bool, false, List, [], All, length, slice_get, Some, None, Option}
use Rattle.omx_types.specs.declared.handle.Handle.{Handle}
use Rattle.il_machine.specs.declared.answer.Progress.{Progress}
use Rattle.il_machine.specs.World.{Component, Stream, World, stream_of}
use Rattle.il_machine.specs.Sound.{Sound}
use Rattle.il_machine.specs.Acts as machine
use Rattle.il_machine.specs.Components.{progress_of}
use Rattle.il_machine.specs.Whole.{Always, Stands}
use Rattle.graph_core.specs.Entries.{Entries, client_named}
use Rattle.audio_parts.specs.Objects.{Held}
use Rattle.audio_parts.specs.declared.part_file.PartFile.{PartFile}
use Rattle.il_graph.specs.Shown.{Shown, file_of}
use Rattle.conductor.specs.Hearing.{ConductorValue}
use Rattle.play_forms.specs.Plans.{IsValid, PlanValue}
use Rattle.play_model.specs.Play.{Layout, Play}
use Rattle.play_model.specs.Acts.{Act}
use Rattle.play_loop.specs.Turns.{Turned}
use Rattle.play_world_laws.specs.Cast.{Cast}
use Rattle.play_world_laws.specs.PlayWorlds.{PlayCast}
use Rattle.play_turn_laws.specs.Conducting.{AreCarriedOut}
use Rattle.play_turn_laws.specs.Playing.{AreSent, IsPlayConducted}
use Rattle.play_plan_laws.specs.Assemblies.{PlayFiles, play_cast_of}
use Rattle.play_graph.specs.Graphs.{kept_of}
use Rattle.play_log.specs.Kept.{LogValue}
use Rattle.play_stream_laws.specs.Contents.{PlayContents}
use Rattle.play_stream_laws.specs.Streams.{AreNew}
use Rattle.play_stream_laws.specs.PlayContents.{HasPlayContents}
use Rattle.play_stream_laws.specs.PlayStreams.{HasPlayStreams}
use Rattle.play_run.specs.Asking.{Asks}
use Rattle.play_run.specs.Recording.{IsBeginning, IsRecorded}

-- No port prefers a supplier, so the input supplies each link.
abbrev pub cast : PlanValue → Cast
cast plan = (play_cast_of plan).cast

abbrev pub layout_of : PlanValue → Layout
layout_of plan = (cast plan).layout

-- no component's work is out
abbrev pub HaveNoWork : World → Type 0
HaveNoWork w = All (λ (c : Component). c.work ≡ None) w.components

pub record PlayingValue (S K : Type 0) : Type 0 where
  pub graph : Shown S K Progress
  pub plan : PlanValue
  pub conductor : ConductorValue
  pub log : LogValue

-- The bytes that move are those of the files: from an opening where each sink's file is new, whatever the components give there
-- has its streams in the world.
abbrev pub HasStreamsFrom : PlayCast → World → Play → World → Type 0
HasStreamsFrom x opening p w = (k : PlayContents) → HasPlayContents x k opening → AreNew x.cast opening → HasPlayStreams x k p w

-- what each component's file told when it came is the same
abbrev pub ToldAlike : World → World → Type 0
ToldAlike opening w = (number : ℕ) (t : Stream) → stream_of number w ≡ Some t → (s : Stream) × (stream_of number opening ≡ Some s) × (t.known ≡ s.known)

-- each client object is in
abbrev pub AreClientsIn : {C : Type 0} → Entries C → Type 0
AreClientsIn g = (h : Handle) → client_named h g ≡ Some None → ⊥

module _ {S K : Type 0} where
  -- The graph has a component for each of the plan's, and their client objects are in.
  pub record HasParts (x : PlayingValue S K) : Type 0 where
    pub world : World
    pub stands : Stands (kept_of x.graph) world
    pub sound : Sound world
    pub valid : IsValid x.plan
    pub many : length world.components ≡ length x.plan.parts
    pub clients : AreClientsIn x.graph.core

  -- The graph stands for a world of the play, in which no work and no client object is out. The log has the run to it from where the play
  -- of the plan with these files begins, and so have come the bytes that are on their way.
  pub record IsStanding (x : PlayingValue S K) (p : Play) : Type 0 where
    pub world : World
    pub stands : Stands (kept_of x.graph) world
    -- the link whose change was begun last
    pub recent : ℕ
    pub conducted : IsPlayConducted (play_cast_of x.plan) recent p world x.conductor
    pub valid : IsValid x.plan
    pub works : HaveNoWork world
    pub clients : AreClientsIn x.graph.core
    pub files : PlayFiles
    pub opening : World
    pub begins : IsBeginning x.plan files opening
    -- what is still to be asked of what the conductor has answered
    pub left : List (machine.Act × machine.Reply)
    pub recorded : IsRecorded x.plan.parts opening world x.log (Asks x.plan files opening recent x.conductor left)
    pub streams : HasStreamsFrom (play_cast_of x.plan) opening p world
    pub told : ToldAlike opening world

  -- what holds of what was asked so far
  abbrev pub AsksIn : (x : PlayingValue S K) (p : Play) → IsStanding x p → List (machine.Act × machine.Reply) → Type 0
  AsksIn x p Z steps = Asks x.plan Z.files Z.opening Z.recent x.conductor Z.left steps

  -- between two turns: what the conductor answered is sent and carried out
  pub record IsPlaying (x : PlayingValue S K) (p : Play) : Type 0 where
    pub standing : IsStanding x p
    pub whole : standing.left ≡ []
    pub sent : AreSent (layout_of x.plan) p
    pub carried : AreCarriedOut (cast x.plan) p (x.conductor).lates

  -- From each play that the one stands for the turn leads to one that the other stands for, and that began with the same files.
  abbrev pub TurnsTo : PlayingValue S K → PlayingValue S K → Bool → (Act → Type 0) → Type 0
  TurnsTo x y acted P = (p : Play) (Y : IsPlaying x p)
      → (q : Play) × (Z : IsPlaying y q) × Turned (layout_of x.plan) p q acted P × (Z.standing.files ≡ Y.standing.files)

  -- a file object of a part that hasn't failed
  abbrev pub unfailed : Option (PartFile S K) → Held S K
  unfailed file = record { failed = false; file = file }

  -- each component's file object stays
  abbrev pub FilesStay : (Held S K → Held S K → Type 0) → PlayingValue S K → PlayingValue S K → Type 0
  FilesStay Stays x y = (number : ℕ) → Stays (unfailed (file_of number x.graph)) (unfailed (file_of number y.graph))

  -- The plan and the file objects stay, and from each play that the one stands for acts lead to one that the other stands for, and that began
  -- with the same files.
  pub record LeadsOn (Stays : Held S K → Held S K → Type 0) (x y : PlayingValue S K) : Type 0 where
    pub plan : y.plan ≡ x.plan
    pub objects : FilesStay Stays x y
    pub plays : (p : Play) (Y : IsPlaying x p) → (q : Play) × (Z : IsPlaying y q) × (Z.standing.files ≡ Y.standing.files)

  -- so much was told of the component at the place
  abbrev pub IsProgressAt : Shown S K Progress → ℕ → Progress → Type 0
  IsProgressAt graph place progress = Always (kept_of graph) (λ w. (c : Component) → slice_get w.components place ≡ Some c → progress ≡ progress_of c w)
