-- What a showing of states leaves.
use Rattle.std.specs.Prelude.{◌≡◌, ◌≢◌, ℕ, ◌+◌, ◌<◌, ◌≤◌, slice_get, Some}
use Rattle.omx_types.specs.declared.handle.Handle.{Handle}
use Rattle.omx_types.specs.declared.state.State.{State}
use Rattle.il_machine.specs.declared.answer.Progress.{Progress}
use Rattle.il_machine.specs.World.{World}
use Rattle.il_machine.specs.Look.{look}
use Rattle.il_machine.specs.Components.{state_answer}
use Rattle.il_machine.specs.Whole.{Stands}
use Rattle.il_graph.specs.Shown.{kept}
use Rattle.state_words.specs.Shown.{states_of, version_of, after}
use Rattle.board.specs.declared.watched.Watched.{Watched}
use Rattle.board.specs.Watching.{SeenIn, one_more}
use Rattle.board.specs.Histories.{HasVersions, IsTidy, graph_of, known_of, words_of}

module _ {S K C : Type 0} where
  -- of a showing of all changes
  pub record ShowsChanges (progress : C → Progress) (old new : Watched S K C) : Type 0 where
    pub served : new.served ≡ old.served
    pub words : words_of new ≡ words_of old
    pub handles : new.handles.items ≡ old.handles.items
    pub tidy : IsTidy new
    pub seen : (w : World) → Stands (kept progress (graph_of old)) w → SeenIn old.handles.items w (known_of old) (known_of new)
    pub versions : (n : ℕ) → HasVersions (known_of old) n → HasVersions (known_of new) (n + 1)

  -- of a showing of one state
  pub record ShowsNew (i : ℕ) (state : State) (old new : Watched S K C) : Type 0 where
    pub served : new.served ≡ old.served
    pub words : words_of new ≡ words_of old
    pub handles : new.handles.items ≡ old.handles.items
    pub tidy : IsTidy new
    pub shown : known_of new ≡ after (known_of old) i state

  -- of a showing of one component, if its state changed
  pub record ShowsAt (progress : C → Progress) (i : ℕ) (old new : Watched S K C) : Type 0 where
    pub served : new.served ≡ old.served
    pub words : words_of new ≡ words_of old
    pub handles : new.handles.items ≡ old.handles.items
    pub tidy : IsTidy new
    pub here : (w : World) (h : Handle) → Stands (kept progress (graph_of old)) w → slice_get old.handles.items i ≡ Some h → states_of (known_of new) i ≡ one_more (state_answer h (look w)) (states_of (known_of old) i)
    pub others : (k : ℕ) → k ≢ i → states_of (known_of new) k ≡ states_of (known_of old) k
    pub version : version_of (known_of new) i ≤ version_of (known_of old) i + 1

  -- the components before the place are shown, and the others are as they were
  pub record ShowsUpTo (progress : C → Progress) (i : ℕ) (old new : Watched S K C) : Type 0 where
    pub served : new.served ≡ old.served
    pub words : words_of new ≡ words_of old
    pub handles : new.handles.items ≡ old.handles.items
    pub tidy : IsTidy new
    pub done : (k : ℕ) → k < i → (w : World) (h : Handle) → Stands (kept progress (graph_of old)) w → slice_get old.handles.items k ≡ Some h → states_of (known_of new) k ≡ one_more (state_answer h (look w)) (states_of (known_of old) k)
    pub left : (k : ℕ) → i ≤ k → states_of (known_of new) k ≡ states_of (known_of old) k
    pub versions : (k : ℕ) → version_of (known_of new) k ≤ version_of (known_of old) k + 1
