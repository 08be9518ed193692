-- What a part that fails leaves, and a log that wants memory.
use Rattle.std.specs.Prelude.{◌≡◌, ℕ, Bool, true, List, Some, ◌<◌, length}
use Rattle.play_run.specs.declared.failure.Failure.{Failure}
use Rattle.play_run.specs.declared.failure.Stop.{Stop}
use Rattle.play_run.specs.declared.failure.Stop.TheVariants as stops
use Rattle.il_machine.specs.World.{World}
use Rattle.il_machine.specs.Acts.{Act, Reply}
use Rattle.il_machine.specs.Run.{Run}
use Rattle.il_machine.specs.Stepping.{WorkDone}
use Rattle.il_machine.specs.Finishing.{Finish}
use Rattle.il_machine.specs.Whole.{Stands}
use Rattle.play_forms.specs.Plans.{IsValid}
use Rattle.play_loop.specs.Turns.{SomePlay}
use Rattle.play_model.specs.Play.{Play}
use Rattle.play_model.specs.Content.{ArePlain}
use Rattle.play_world_laws.specs.PlayWorlds.{IsPlayWorld, PlayCast}
use Rattle.play_plan_laws.specs.Assemblies.{PlayFiles, play_cast_of}
use Rattle.play_stream_laws.specs.Contents.{PlayContents, network_of}
use Rattle.play_stream_laws.specs.Fronts.{AreFronts}
use Rattle.play_stream_laws.specs.Streams.{AreNew}
use Rattle.play_stream_laws.specs.PlayContents.{HasPlayContents}
use Rattle.play_graph.specs.Graphs.{kept_of}
use Rattle.play_graph.specs.Stops.{HaveTunnels}
use Rattle.omx_types.specs.declared.fault.PartFault.{PartFault}
use Rattle.audio_parts.specs.Objects.{Held}
use Rattle.il_graph.specs.Shown.{file_of}
use Rattle.play_course.specs.Failing.{HasFailure}
use Rattle.play_run.specs.Recording.{IsBeginning}
use Rattle.play_run.specs.Closing.{HasBegun}
use Rattle.play_run.specs.Playing.{AreClientsIn, HaveNoWork, IsPlaying, LeadsOn, PlayingValue, ToldAlike, unfailed}

-- From an opening where each sink's file is new, the files of the sinks have taken fronts of their whole texts.
abbrev pub HasFrontsFrom : PlayCast → World → World → Type 0
HasFrontsFrom x opening w = (k : PlayContents) → HasPlayContents x k opening → AreNew x.cast opening
    → (stream : ℕ → List ℕ) → ArePlain (network_of x.cast) k.model stream → AreFronts x.cast k w stream

module _ {S K : Type 0} where
  -- The graph stands for what the step that failed left of a world of the play. Each late source's link has its tunnel. No work and no client
  -- object is out.
  pub record HasFailed (x : PlayingValue S K) (failure : Failure) : Type 0 where
    pub world : World
    pub stands : Stands (kept_of x.graph) world
    pub valid : IsValid x.plan
    pub works : HaveNoWork world
    pub clients : AreClientsIn x.graph.core
    pub play : Play
    pub before : World
    pub recent : ℕ
    pub played : IsPlayWorld (play_cast_of x.plan) recent play before
    pub tunnels : HaveTunnels (play_cast_of x.plan) play
    pub done : WorkDone
    pub there : failure.component < length x.plan.parts
    pub its : done.component ≡ failure.component
    pub failed : done.fault ≡ Some failure.fault
    pub finishes : Finish before done world
    pub files : PlayFiles
    pub opening : World
    pub begins : IsBeginning x.plan files opening
    pub told : ToldAlike opening world
    -- the acts since the opening, of which the last is that step, and no other failed
    pub steps : List (Act × Reply)
    pub runs : Run opening steps world
    pub last : HasFailure steps failure.component failure.fault
    pub alone : (place : ℕ) (why : PartFault) → HasFailure steps place why → (place ≡ failure.component) × (why ≡ failure.fault)
    -- what the sinks' files have taken are fronts of what they were to take
    pub fronts : HasFrontsFrom (play_cast_of x.plan) opening world

  -- so it is, and the play began with the files
  abbrev pub HasFailedWith : PlayingValue S K → Failure → PlayFiles → Type 0
  HasFailedWith x failure given = (F : HasFailed x failure) × (F.files ≡ given)

  -- each component's file object stays, whichever failed
  abbrev pub FilesStayed : (Held S K → Held S K → Type 0) → PlayingValue S K → PlayingValue S K → Type 0
  FilesStayed Stays x y = (number : ℕ) → (failed : Bool) × Stays (unfailed (file_of number x.graph)) (record { failed = failed; file = file_of number y.graph })

  -- the file object of the component that failed shows the fault
  abbrev pub FileShows : (PartFault → Held S K → Held S K → Type 0) → PlayingValue S K → PlayingValue S K → Failure → Type 0
  FileShows Shows x y failure = (failed : Bool) × Shows failure.fault (unfailed (file_of failure.component x.graph)) (record { failed = failed; file = file_of failure.component y.graph })

  -- The plan and the file objects stay, and from each play that the one stands for a step that failed leads to what the other stands for. It
  -- began with the same files.
  pub record FailsOn (Stays : Held S K → Held S K → Type 0) (Shows : PartFault → Held S K → Held S K → Type 0) (x y : PlayingValue S K) (failure : Failure) : Type 0 where
    pub plan : y.plan ≡ x.plan
    pub objects : FilesStayed Stays x y
    pub shows : FileShows Shows x y failure
    pub fails : (p : Play) (Y : IsPlaying x p) → HasFailedWith y failure Y.standing.files

  -- ---- a play that breaks off

  -- Either a step failed, or the log wants memory: then the graph stands for a play still.
  abbrev pub HasBrokenOff : PlayingValue S K → Stop → Type 0
  HasBrokenOff x (stops.Failed failure) = HasFailed x failure
  HasBrokenOff x stops.OutOfMemory = SomePlay (IsPlaying x) × ((x.log).broken ≡ true)

  abbrev pub HasBrokenOffWith : PlayingValue S K → Stop → PlayFiles → Type 0
  HasBrokenOffWith x (stops.Failed failure) given = HasFailedWith x failure given
  HasBrokenOffWith x stops.OutOfMemory given = HasBegun x given

  -- the world that the graph stands for then
  abbrev pub world_then : (x : PlayingValue S K) (stop : Stop) → HasBrokenOff x stop → World
  world_then x (stops.Failed failure) F = F.world
  world_then x stops.OutOfMemory B = B.0.1.standing.world

  -- a fault shows in the file object of its component
  abbrev pub StopShows : (PartFault → Held S K → Held S K → Type 0) → PlayingValue S K → PlayingValue S K → Stop → Type 0
  StopShows Shows x y (stops.Failed failure) = FileShows Shows x y failure
  StopShows Shows x y stops.OutOfMemory = Unit {0}

  -- a turn that ends the play: its step fails, or it leads on and the log wants memory
  abbrev pub BreaksOff : (Held S K → Held S K → Type 0) → (PartFault → Held S K → Held S K → Type 0) → PlayingValue S K → PlayingValue S K → Stop → Type 0
  BreaksOff Stays Shows x y (stops.Failed failure) = FailsOn Stays Shows x y failure
  BreaksOff Stays Shows x y stops.OutOfMemory = LeadsOn Stays x y × ((y.log).broken ≡ true)
