-- How far a state that was begun is sent, and what the conductor sees.
use Rattle.std.specs.Prelude.{◌≡◌, ◌<◌, ◌≤◌, ℕ, true, List, drop, map, slice_get, Option, Some}
use Rattle.omx_types.specs.declared.state.State.{State}
use Rattle.omx_types.specs.declared.state.State.TheVariants.{Loaded}
use Rattle.il_machine.specs.declared.answer.Progress.{Progress}
use Rattle.conductor.specs.Phases.{is_at}
use Rattle.il_graph.specs.Shown.{Shown}
use Rattle.play_model.specs.Numbers.{not_sent}
use Rattle.play_model.specs.Play.{Layout, Play}
use Rattle.play_loop.specs.Turns.{HasRun, SomePlay}
use Rattle.play_world_laws.specs.Standing.{target}
use Rattle.play_turn_laws.specs.Conducting.{AreCarriedOut}
use Rattle.play_result_laws.specs.Asked.{sending}
use Rattle.play_run.specs.Asking.{handles_of}
use Rattle.play_run.specs.Playing.{IsPlaying, IsProgressAt, IsStanding, PlayingValue, cast, layout_of}

-- from that place on it isn't sent yet, and to those before it is
pub record IsSentTo (w : Layout) (p : Play) (place : ℕ) : Type 0 where
  pub later : (c : ℕ) → c < (w.network).components → place ≤ w.place c → p.stage c ≡ not_sent
  pub before : (c : ℕ) → c < (w.network).components → w.place c < place → p.stage c ≡ not_sent → ⊥

module _ {S K : Type 0} where
  -- the graph stands for a play in which the state was begun, and is sent to those before the place
  pub record IsSending (x : PlayingValue S K) (p : Play) (state : State) (place : ℕ) : Type 0 where
    pub standing : IsStanding x p
    pub state_is : state ≡ target p.phase
    pub left : standing.left ≡ drop place (map (sending state) (handles_of standing.opening))
    pub sent : IsSentTo (layout_of x.plan) p place
    pub carried : AreCarriedOut (cast x.plan) p (x.conductor).lates

  abbrev pub CanSend : PlayingValue S K → State → Type 0
  CanSend x state = SomePlay (λ p. IsSending x p state 0)

  -- from each play in which the state was begun and not sent, to one that began with the same files
  abbrev pub SendsTo : PlayingValue S K → PlayingValue S K → State → ℕ → Type 0
  SendsTo old new state place = (p : Play) (Y : IsSending old p state 0)
      → (q : Play) × (Z : IsSending new q state place) × HasRun (layout_of old.plan) p q × (Z.standing.files ≡ Y.standing.files)

  abbrev pub SentOf : PlayingValue S K → PlayingValue S K → State → Type 0
  SentOf old new state = (p : Play) (Y : IsSending old p state 0)
      → (q : Play) × (Z : IsPlaying new q) × HasRun (layout_of old.plan) p q × (Z.standing.files ≡ Y.standing.files)

  -- ---- what is seen

  abbrev pub IsViewAt : Shown S K Progress → List (Option Progress) → ℕ → Type 0
  IsViewAt graph views place = (progress : Progress) × (slice_get views place ≡ Some (Some progress)) × IsProgressAt graph place progress

  abbrev pub AreViews : Shown S K Progress → List (Option Progress) → ℕ → Type 0
  AreViews graph views count = (place : ℕ) → place < count → IsViewAt graph views place

  -- the component has told Loaded last
  abbrev pub IsLoadedAt : Shown S K Progress → ℕ → Type 0
  IsLoadedAt graph place = (progress : Progress) × IsProgressAt graph place progress × (is_at Loaded progress.state ≡ true)
