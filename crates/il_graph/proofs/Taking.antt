-- Notes are taken, and the client object comes back, in each world that the graph stands for.
use Rattle.std.proofs.Common.{◌≡◌, ℕ, true, false, Option, Some, None, slice_get, option_and_then, Result, Ok, MatchOption, IsSomeAnd, refl, sym, ◌∙◌, ap, subst}
use Rattle.omx_types.specs.declared.handle.Handle.{Handle}
use Rattle.omx_types.specs.declared.error.OmxError.{OmxError}
use Rattle.omx_types.specs.declared.command.Note.{Note}
use Rattle.omx_types.specs.declared.command.Note.TheVariants as notes
use Rattle.il_machine.specs.declared.answer.Progress.{Progress}
use Rattle.il_machine.specs.World.{Component, HeaderRecord, World, place_of, with_component}
use Rattle.il_machine.specs.Headers.{find_header}
use Rattle.il_machine.specs.Look.{Look}
use Rattle.il_machine.specs.Due.{ClosesTo}
use Rattle.il_machine.specs.Answers.{plain, Resolving, component_named}
use Rattle.il_machine.specs.Buffers.{Held, held, AtHeader}
use Rattle.il_machine.specs.Components.{progress_of}
use Rattle.il_machine.specs.Notes.{Taken, Took as Answer, TakenEmpty, TakenFilled, TookNote, TakeFrom, TakesHeader, EndNote, with_given, with_client, back_in}
use Rattle.stock_laws.specs.Bare.{StepsBare, StepsBareWhere}
use Rattle.stock_laws.proofs.Answering.{resolved}
use Rattle.header_core.specs.BufferHeader.{BufferHeader, is_clients}
use Rattle.note_queues.specs.declared.taken.Taken.{Taken as Given}
use Rattle.note_queues.specs.declared.taken.Taken.TheVariants.{Told, EmptyDone, FillDone}
use Rattle.note_queues.specs.declared.taken.Call.{Call}
use Rattle.note_queues.specs.declared.taken.Took.{Took}
use Rattle.note_queues.specs.declared.taken.Took.TheVariants as tooks
use Rattle.note_queues.specs.Queues.{taken_of, took_of}
use Rattle.graph_core.specs.Entries.{Entries, look_of, kept, component_at, entry_place}
use Rattle.graph_core.specs.Changes.{OnNoNote, Takes, TakesNote}
use Rattle.graph_core.specs.Clients.{IsOut, WasTold}
use Rattle.graph_core.proofs.Replacing.{entry_place_is}
use Rattle.il_graph.proofs.Calling.{Found}

mapped : {A : Type 0} (P Q : A → Type 0) (o : Option A) → ((x : A) → P x → Q x) → MatchOption o ⊥ P → MatchOption o ⊥ Q
mapped P Q None f m = m
mapped P Q (Some x) f m = f x m

abbrev Answered : Result Answer OmxError → World → World → ℕ → Component → Note → ℕ → (Held → Taken) → HeaderRecord → Type 0
Answered result w v i c note number taken r = (result ≡ Ok (TookNote (taken (held r)))) × ClosesTo (with_client number (with_given i c note w)) v

header_taken : (w x v : World) (i : ℕ) (c : Component) (note : Note) (number : ℕ) (h : Held) (taken : Held → Taken) → AtHeader number w (λ r. held r ≡ h) → x ≡ with_client number (with_given i c note w) → ClosesTo x v
    → TakesHeader w i c note number taken (Ok (TookNote (taken h))) v
header_taken w x v i c note number h taken a e z =
    mapped (λ r. held r ≡ h) (Answered (Ok (TookNote (taken h))) w v i c note number taken) (find_header number w.headers)
    (λ r s. (ap (λ (k : Held). Ok (TookNote (taken k))) (sym s), subst (λ (y : World). ClosesTo y v) e z)) a

-- the header in the note, without its memory
header_there : (w : World) (header : BufferHeader) → AtHeader header.held.number w (λ r. (held r ≡ header.held) × (r.state.client_memory ≡ is_clients header.store)) → AtHeader header.held.number w (λ r. held r ≡ header.held)
header_there w header a = mapped (λ r. (held r ≡ header.held) × (r.state.client_memory ≡ is_clients header.store)) (λ r. held r ≡ header.held) (find_header header.held.number w.headers) (λ r s. s.0) a

note_taken : (w x v : World) (i : ℕ) (c : Component) (taken : Given) → c.client_out ≡ false → TakesNote w i c taken x → ClosesTo x v → TakeFrom w i c c.client_out (slice_get c.notes 0) (Ok (TookNote (taken_of taken))) v
note_taken w x v i c (Told event) o (n, e) z = rw (o, n) (refl, subst (λ (y : World). ClosesTo y v) e z)
note_taken w x v i c (EmptyDone header) o (n, a, e, own) z = rw (o, n) (header_taken w x v i c (notes.EmptyDone header.held.number) header.held.number header.held TakenEmpty (header_there w header a) e z)
note_taken w x v i c (FillDone header) o (n, a, e, own) z = rw (o, n) (header_taken w x v i c (notes.FillDone header.held.number) header.held.number header.held TakenFilled (header_there w header a) e z)

ends_some : (w v : World) (h : Handle) (i : ℕ) (c : Component) → place_of h w.components ≡ Some i → slice_get w.components i ≡ Some c → ClosesTo (with_component i (back_in c) w) v → EndNote w h v
ends_some w v h i c e f z = rw (e, f) z

named_some : (w : World) (h : Handle) (c : Component) (told : Progress) → component_named h w.components ≡ Some c → WasTold h told w → told ≡ progress_of c w
named_some w h c told e q = rw e at q

module _ {C : Type 0} where
  stays_from : (w v : World) (i : ℕ) (c : Component) (took : Took C) → Takes w i c took v → OnNoNote took (TakeFrom w i c c.client_out (slice_get c.notes 0) (Ok (took_of took)) v)
  stays_from w v i c tooks.Busy (o, e) = rw o (refl, e)
  stays_from w v i c tooks.None (o, n, e) = rw (o, n) (refl, e)
  stays_from w v i c (tooks.Call call) t = tt

  module _ (progress : C → Progress) where
    abbrev Taking : Handle → Took C → World → World → Type 0
    Taking h took w v = Resolving plain w h (Ok (took_of took)) v (λ j c. TakeFrom w j c c.client_out (slice_get c.notes 0) (Ok (took_of took)) v)

    abbrev Took_at : ℕ → Took C → Entries C → Entries C → Type 0
    Took_at i took g m = MatchOption (component_at i g) ⊥ (λ c. StepsBare (kept progress g) (kept progress m) (λ w v. Takes w i c took v))

    pub taken_at : (g m k : Entries C) (h : Handle) (i : ℕ) (call : Call C) (F : Found progress g h i) → Took_at i (tooks.Call call) g m
        → StepsBare (kept progress m) (kept progress k) ClosesTo
        → StepsBare (kept progress g) (kept progress k) (Taking h (tooks.Call call))
    taken_at g m k h i call F s closes =
        let took = tooks.Call call in
        let t : StepsBare (kept progress g) (kept progress m) (λ w v. Takes w i F.component took v) = rw F.at at s in
        resolved plain (kept progress g) (kept progress k) h i F.component (Ok (took_of took)) (λ w v j c. TakeFrom w j c c.client_out (slice_get c.notes 0) (Ok (took_of took)) v) F.place F.at
        (λ w S.
        let x = t w S in
        let y = closes x.0 x.1 in
        (y.0, y.1, note_taken w x.0 y.0 i F.component call.taken x.2.0 x.2.1 y.2))

    -- without a note the world stays, and so does all that was due: nothing
    pub none_taken_at : (g m : Entries C) (h : Handle) (i : ℕ) (took : Took C) (F : Found progress g h i) → ((P : Type 0) → OnNoNote took P → P) → Took_at i took g m
        → StepsBare (kept progress g) (kept progress m) (Taking h took)
    none_taken_at g m h i took F none s =
        let t : StepsBare (kept progress g) (kept progress m) (λ w v. Takes w i F.component took v) = rw F.at at s in
        resolved plain (kept progress g) (kept progress m) h i F.component (Ok (took_of took)) (λ w v j c. TakeFrom w j c c.client_out (slice_get c.notes 0) (Ok (took_of took)) v) F.place F.at
        (λ w S.
        let x = t w S in
        (x.0, x.1, none _ (stays_from w x.0 i F.component took x.2)))

    -- ---- the client object comes back

    pub out_named : (g : Entries C) (h : Handle) → IsOut h (look_of g) → None ≡ entry_place h g.entries → ⊥
    out_named g h o e =
        let n : place_of h (look_of g).components ≡ None = entry_place_is h g.entries ∙ sym e in
        let c : component_named h (look_of g).components ≡ None = ap (option_and_then (slice_get (look_of g).components)) n in
        rw c at o

    pub out_at : (g : Entries C) (h : Handle) (i : ℕ) → Found progress g h i → IsOut h (look_of g) → IsSomeAnd (component_at i g) (λ c. c.client_out ≡ true)
    out_at g h i F o =
        let c : component_named h (look_of g).components ≡ component_at i g = ap (option_and_then (slice_get (look_of g).components)) F.place in
        subst (λ (x : Option Component). IsSomeAnd x (λ c. c.client_out ≡ true)) c o

    pub ended_at : (g m k : Entries C) (h : Handle) (i : ℕ) (told : Progress) (F : Found progress g h i)
        → MatchOption (component_at i g) ⊥ (λ c. StepsBareWhere (kept progress g) (kept progress m) (λ w. told ≡ progress_of c w) (λ w v. v ≡ with_component i (back_in c) w))
        → StepsBare (kept progress m) (kept progress k) ClosesTo
        → StepsBareWhere (kept progress g) (kept progress k) (WasTold h told) (λ w v. EndNote w h v)
    ended_at g m k h i told F s closes = λ w S q.
        let t : StepsBareWhere (kept progress g) (kept progress m) (λ w. told ≡ progress_of F.component w) (λ w v. v ≡ with_component i (back_in F.component) w) = rw F.at at s in
        let p : place_of h w.components ≡ Some i = ap (λ (l : Look). place_of h l.components) S.looks ∙ F.place in
        let a : slice_get w.components i ≡ Some F.component = ap (λ (l : Look). slice_get l.components i) S.looks ∙ F.at in
        let n : component_named h w.components ≡ Some F.component = ap (option_and_then (slice_get w.components)) p ∙ a in
        let r : told ≡ progress_of F.component w = named_some w h F.component told n q in
        let x = t w S r in
        let y = closes x.0 x.1 in
        (y.0, y.1, ends_some w y.0 h i F.component p a (subst (λ (z : World). ClosesTo z y.0) x.2 y.2))
