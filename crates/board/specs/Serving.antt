-- The law of what is served: what a pass may ask, the graph can do.
use Rattle.std.specs.Prelude.{◌≡◌, ℕ, ◌==◌, Bool, true, false, List, [], ◌∷◌, map, Option, Some, None, MatchOption}
use mathlib.Core.Path.{◌∙◌, sym, subst, ap}
use Rattle.omx_types.specs.declared.handle.Handle.{Handle}
use Rattle.il_machine.specs.declared.header.Owner.TheVariants as owners
use Rattle.il_machine.specs.Acts as acts
use Rattle.il_machine.specs.Sound.{Sound}
use Rattle.il_machine.specs.World.{World}
use Rattle.machine_laws.proofs.Steps.{sound_step}
use Rattle.il_machine.specs.Look.{Look}
use Rattle.il_machine.specs.Buffers.{AtState}
use Rattle.header_core.specs.BufferHeader.{BufferHeader}
use Rattle.port_stock.specs.Conditions.{IsHeaderOf}
use Rattle.graph_core.specs.Entries.{look_of}
use Rattle.graph_core.specs.Changes.{IsHandedIn}
use Rattle.il_graph.specs.Shown.{Shown}
use Rattle.turnstile.specs.declared.entry.Entry.{Entry}
use Rattle.turnstile.specs.Entries.{own, kept, Due}
use Rattle.audio_parts.specs.Shown.{ShownPart}
use Rattle.il_flow.specs.Works.{DoneOf}
use Rattle.state_words.specs.Shown.{States}
use Rattle.state_words.specs.declared.words.StateWords.{StateWords}
use Rattle.state_words.specs.Tokens.{IsReaderOf}
use Rattle.graph_acts.specs.declared.act.Act.{Act}
use Rattle.graph_acts.specs.declared.act.Act.TheVariants as asks
use Rattle.graph_acts.specs.declared.act.Reply.{Reply}
use Rattle.graph_acts.specs.Plain.{Sight}
use Rattle.graph_acts.specs.Holding.{IsSame, HoldsHeader, HoldsWork, May, Can, CanFinish}
use Rattle.graph_acts.proofs.Comeback.{can_finish}
use Rattle.board.specs.declared.asked.Asked.{Asked}
use Rattle.board.specs.declared.asked.Told.{Told}
use Rattle.board.specs.declared.watched.Watched.{Watched}
use Rattle.board.specs.Asking.{bare, bare_log}
use Rattle.board.specs.Watching.{Shown as ShownOn, start, next}
use Rattle.board.specs.Histories.{HasVersions, HeadersAreHeld, ClientsAreHeld, Legal, StandsAfter, MayAsk, CanServe, graph_of, known_of}

there : {X : Type 0} (o : Option X) (P Q : X → Type 0) → ((x : X) → P x → Q x) → MatchOption o ⊥ P → MatchOption o ⊥ Q
there None P Q f h = h
there (Some x) P Q f h = f x h

-- the condition of the graph's calls doesn't look at what the holder of a header may change
handed_same : (got given : BufferHeader) (l : Look) → IsSame got given → IsHandedIn got l → IsHandedIn given l
handed_same got given l S h = (
  S.key ∙ h.0,
  subst (λ n. AtState n l (λ s. (s.owner ≡ owners.Client) × IsHeaderOf s given)) (sym S.number)
      (there (l.headers.header got.held.number) (λ s. (s.owner ≡ owners.Client) × IsHeaderOf s got) (λ s. (s.owner ≡ owners.Client) × IsHeaderOf s given)
      (λ s x. (x.0, record { size = S.size ∙ x.1.size; memory = S.store ∙ x.1.memory })) h.1),
)

-- each world of a history is sound where its first one is
pub shown_sound : (handles : List Handle) (w : World) (at_first : List States) (xs : List (acts.Act × acts.Reply)) (v : World) (all : List States) → ShownOn handles w at_first xs v all → Sound w → Sound v
shown_sound handles w at_first [] v all start S = S
shown_sound handles w at_first xs v all (next ys mid old a r v' new T m step seen) S = sound_step mid v' a r m step (shown_sound handles w at_first ys mid old T S)

module _ {S K C : Type 0} (see : Sight S K C) (headers : Bool) (first now : Shown S K C) (log : List (Entry (Act S K C) (Reply S K C))) (pass : ℕ) where
  handed : (header : BufferHeader) → HeadersAreHeld first log now → HoldsHeader (own pass log) header → IsHandedIn header (look_of now.core)
  handed header H h = handed_same h.0 header (look_of now.core) h.2 (H.out pass h.0 h.1)

  pub can_ask : (a : Act S K C) → HeadersAreHeld first log now → ClientsAreHeld see first log now
      → ((done : DoneOf (ShownPart S K)) → HoldsWork see (own pass log) done → CanFinish see now done) → May see headers (own pass log) a → Can see now a
  can_ask (asks.GetHandle name client) H O W m = m
  can_ask (asks.FreeBuffer h port header) H O W m = handed header H m
  can_ask (asks.EmptyThisBuffer h port header) H O W m = handed header H m
  can_ask (asks.FillThisBuffer h port header) H O W m = handed header H m
  can_ask (asks.EndNote h client) H O W m = O.out pass (record { handle = h; progress = see.progress client }) m
  can_ask (asks.Finish done) H O W m = W done m
  can_ask _ H O W m = tt

module _ {S K C : Type 0} where
  kept_bare : (b : Bool) (e : Entry (Asked S K C) (Told S K C)) (es : List (Entry (Asked S K C) (Told S K C))) → map bare (kept b e es) ≡ kept b (bare e) (map bare es)
  kept_bare true e es = λ i. bare e ∷ map bare es
  kept_bare false e es = λ i. map bare es

  pub own_bare : (p : ℕ) (log : List (Entry (Asked S K C) (Told S K C))) → bare_log (own p log) ≡ own p (bare_log log)
  own_bare p [] = λ i. []
  own_bare p (e ∷ es) = kept_bare (e.pass == p) e (own p es) ∙ ap (kept (e.pass == p) (bare e)) (own_bare p es)

  -- a work that the pass holds is out in the world that the history leads to
  works_finish : (see : Sight S K C) (first value : Watched S K C) (log : List (Entry (Asked S K C) (Told S K C))) (pass : ℕ) → Legal see first log → StandsAfter see first log value
      → (done : DoneOf (ShownPart S K)) → HoldsWork see (own pass (bare_log log)) done → CanFinish see (graph_of value) done
  works_finish see first value log pass L U done h =
      let A = U.worlds L.one.world L.one.stands in
      let R = A.reaches in
      let sound = shown_sound first.handles.items L.one.world (known_of first) R.acts R.world R.all R.shown L.one.sound in
      can_finish see R.world h.0 done (R.works.out pass h.0 h.1) h.2 (graph_of value) sound A.stands

  pub can_serve : (see : Sight S K C) (headers : Bool) (first value : Watched S K C) (log : List (Entry (Asked S K C) (Told S K C))) (pass : ℕ) (a : Asked S K C) (place : ℕ)
      → Due (Legal see) (StandsAfter see) (MayAsk see headers) first log pass value a place → CanServe see value a place
  can_serve see headers first value log pass a place due = record {
    can = can_ask see headers (graph_of first) (graph_of value) (bare_log log) pass a.act due.stood.headers due.stood.clients (works_finish see first value log pass due.is_legal due.stood) (subst (λ l. May see headers l a.act) (own_bare pass log) due.may_ask.0);
    reader = subst (λ (t : StateWords). IsReaderOf t a.reader) (sym due.stood.words) due.may_ask.1;
    tidy = due.stood.tidy;
    versions = subst (HasVersions (known_of value)) (sym due.at_place) due.stood.versions;
    in_time = due.in_time;
  }
