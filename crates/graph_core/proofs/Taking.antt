-- The oldest note of a component is taken, with its client object.
use Rattle.std.proofs.Common.{◌≡◌, ◌≢◌, ◌⊎◌, inl, inr, ℕ, ◌≤◌, true, false, List, [], ◌∷◌, set, map, drop, Option, Some, None, MatchOption, All, slice_get, is_none, refl, sym, ◌∙◌, ap, subst, arith}
use Rattle.std.proofs.lemmas.Bool.Decides.{eqb_tells, nat_tests}
use Rattle.std.proofs.lemmas.List.Elements.{All-nil, All-cons, All-head, All-tail}
use Rattle.omx_types.specs.declared.command.Event.{Event}
use Rattle.omx_types.specs.declared.command.Note.{Note}
use Rattle.omx_types.specs.declared.command.Note.TheVariants as notes
use Rattle.il_machine.specs.declared.answer.Progress.{Progress}
use Rattle.il_machine.specs.declared.header.Owner.TheVariants as owners
use Rattle.il_machine.specs.declared.header.Queue.TheVariants.{Out}
use Rattle.il_machine.specs.World.{Component, HeaderRecord, World, number_of}
use Rattle.il_machine.specs.Headers.{Seen, seen, find_header, changed, given_to, is_notice, is_notice_of, weight}
use Rattle.il_machine.specs.Buffers.{held, AtHeader}
use Rattle.il_machine.specs.Census.{note_numbers, times}
use Rattle.il_machine.specs.Lists.{holds_at}
use Rattle.il_machine.specs.Notes.{first_taken, with_given, with_client}
use Rattle.il_machine.specs.Stock.{header_given}
use Rattle.il_machine.specs.Whole.{Kept, Noticed, IsNoticed}
use Rattle.stock_laws.specs.Bare.{StandsBare, StepsBare}
use Rattle.il_machine.specs.Sound.{Sound}
use Rattle.machine_laws.proofs.Facts as facts
use Rattle.machine_laws.proofs.Facts.{noticed_there}
use Rattle.machine_laws.proofs.Finding.{changed_else}
use Rattle.machine_laws.proofs.Listed.{times_cons, times_self, weight_below}
use Rattle.machine_laws.proofs.Notices.{sound_given, sound_taken, note_emptied, note_filled, IsNoteOf}
use Rattle.machine_laws.proofs.Parts.{parts_of}
use Rattle.stock_laws.proofs.Standing.{give_stands}
use Rattle.stock_laws.proofs.Entries.{held_set, set_same}
use Rattle.stock_laws.proofs.Following.{as_change}
use Rattle.stock_laws.proofs.Lifting.{with_look}
use Rattle.stock_laws.proofs.Lists.{map_set, get_set_same, get_set_other}
use Rattle.stock_laws.proofs.Noting.{lift_given, with_client_out, with_noticed, renoticed}
use Rattle.stock_laws.proofs.Stocking.{lift_taken, with_headers}
use Rattle.header_core.specs.BufferHeader.{BufferHeader, is_clients}
use Rattle.note_queues.specs.declared.taken.Taken.{Taken}
use Rattle.note_queues.specs.declared.taken.Taken.TheVariants.{Told, EmptyDone, FillDone}
use Rattle.note_queues.specs.declared.taken.Call.{Call}
use Rattle.note_queues.specs.declared.taken.Took.{Took}
use Rattle.note_queues.specs.declared.taken.Took.TheVariants as tooks
use Rattle.note_queues.specs.Queues.{Queues, note_of, notes_of, took, took_from, after_taking}
use Rattle.il_component.specs.Entries.{Entry, component_of, noticed_of, held_in}
use Rattle.port_stock.specs.Kept.{StockKept, stocked}
use Rattle.port_stock.specs.Conditions.{IsOut}
use Rattle.graph_core.specs.Standing.{SoundWorld}
use Rattle.graph_core.specs.Changes.{OnNoNote, Takes, TakesNote}
use Rattle.graph_core.specs.Entries.{Entries, components_of, look_of, noticed_in, held_by, progress_at, kept, changed_at, component_at}
use Rattle.graph_core.proofs.Replacing.{there, next_world}
use Rattle.graph_core.proofs.Stepping.{at_world, only, numbered_before, with_stocked, stock_of, stock_steps, made_is, made_of, seen_of, held_there, held_each}

-- ---- the queue

module _ {C : Type 0} where
  -- the note was the oldest, and the client object was in
  pub record WasTaken (q : Queues C) (call : Call C) : Type 0 where
    pub client : q.client ≡ Some call.client
    pub rest : List Taken
    pub notes : q.notes ≡ call.taken ∷ rest

  took_parts : (o : Option C) (ns : List Taken) (call : Call C) → took_from o ns ≡ tooks.Call call → (o ≡ Some call.client) × (rest : List Taken) × (ns ≡ call.taken ∷ rest)
  took_parts None ns call h = absurd cc
  took_parts (Some client) [] call h = absurd cc
  took_parts (Some client) (taken ∷ rest) call h =
      let e : record { client = client; taken = taken } ≡ call = cc in
      (ap (λ (c : Call C). Some c.client) e, rest, ap (λ (c : Call C). c.taken ∷ rest) e)

  pub was_taken : (q : Queues C) (call : Call C) → took q ≡ tooks.Call call → WasTaken q call
  was_taken q call h = let x = took_parts q.client q.notes call h in record { client = x.0; rest = x.1; notes = x.2 }

  abbrev pub left : Entry C → List Taken → Entry C
  left e rest = record e { queues = record e.queues { notes = rest; client = None } }

  pub after_call : (e : Entry C) (call : Call C) (h : took e.queues ≡ tooks.Call call) → record e { queues = after_taking e.queues } ≡ left e (was_taken e.queues call h).rest
  after_call e call h =
      let x = was_taken e.queues call h in
      rw h (ap (λ (ns : List Taken). left e (drop 1 ns)) x.notes)

  pub took_none : (o : Option C) (ns : List Taken) → took_from o ns ≡ tooks.None → (is_none o ≡ false) × (slice_get (map note_of ns) 0 ≡ None)
  took_none None ns h = absurd cc
  took_none (Some client) [] h = (refl, refl)
  took_none (Some client) (taken ∷ rest) h = absurd cc

  pub took_busy : (o : Option C) (ns : List Taken) → took_from o ns ≡ tooks.Busy → is_none o ≡ true
  took_busy None ns h = refl
  took_busy (Some client) [] h = absurd cc
  took_busy (Some client) (taken ∷ rest) h = absurd cc

-- ---- what is kept

module _ {C : Type 0} (progress : C → Progress) (g : Entries C) (i : ℕ) (e : Entry C) (t : Taken) (rest : List Taken) (W : SoundWorld (kept progress g)) (at : slice_get g.entries i ≡ Some e) (was : e.queues.notes ≡ t ∷ rest) where
  abbrev c : Component
  c = component_of e

  abbrev pub after : Entries C
  after = changed_at i (left e rest) g

  first_note : slice_get c.notes 0 ≡ Some (note_of t)
  first_note = ap (λ (ns : List Taken). slice_get (map note_of ns) 0) was

  left_component : component_of (left e rest) ≡ first_taken c
  left_component = ap (λ (ns : List Taken). record (first_taken c) { notes = drop 1 (map note_of ns) }) (sym was)

  kept_left : kept progress after ≡ with_noticed (noticed_in after.entries) (with_client_out i (with_look i (first_taken c) (kept progress g)))
  kept_left =
      let cs : components_of after.entries ≡ set (components_of g.entries) i (first_taken c) = map_set component_of g.entries i (left e rest) ∙ ap (λ (x : Component). set (components_of g.entries) i x) left_component in
      let cl : map (progress_at progress) after.entries ≡ set (map (progress_at progress) g.entries) i None = map_set (progress_at progress) g.entries i (left e rest) in
      λ j. record {
        looks = record (look_of g) { components = cs j };
        clients = cl j;
        loads = (kept progress g).loads;
        noticed = noticed_in after.entries;
        parts = [];
      }

  less : (P : Noticed → Type 0) (u : Taken) → All P (held_in (u ∷ rest)) → All P (held_in rest)
  less P (Told event) A = A
  less P (EmptyDone header) A = All-tail P (noticed_of header) (held_in rest) A
  less P (FillDone header) A = All-tail P (noticed_of header) (held_in rest) A

  held_less : (P : Noticed → Type 0) → All P (held_by e) → All P (held_by (left e rest))
  held_less P A = less P t (subst (λ (ns : List Taken). All P (held_in ns)) was A)

  -- the note is given
  pub steps_given : StepsBare (kept progress g) (kept progress after) (λ w v. v ≡ with_given i c (note_of t) w)
  steps_given = λ w S.
      let k = with_client_out i (with_look i (first_taken c) (kept progress g)) in
      let x = lift_given (kept progress g) i c (note_of t) (there progress g i e at) (only progress g i e W at) (numbered_before progress g i e W at) w S in
      let N : All (IsNoticed x.0) (noticed_in after.entries) = held_set held_by (IsNoticed x.0) g.entries i e (left e rest) at (held_less (IsNoticed x.0)) x.1.noticed in
      (x.0, subst (λ (z : Kept). StandsBare z x.0) (sym kept_left) (renoticed k (noticed_in after.entries) x.0 x.1 N), x.2)

  pub given_worlds : (event : Event) → t ≡ Told event → SoundWorld (kept progress after)
  given_worlds event is = next_world (kept progress g) (kept progress after) (λ w v. v ≡ with_given i c (note_of t) w) W steps_given
      (λ w v S f sound.
      let n : note_of t ≡ notes.Told event = ap note_of is in
      let h : slice_get c.notes 0 ≡ Some (notes.Told event) = first_note ∙ ap Some n in
      subst Sound (sym (f ∙ ap (λ (x : Note). with_given i c x w) n)) (sound_given w i c event sound (at_world progress g i e w S at) h))

  -- ---- a header in the note

  module _ (n : ℕ) (noted : IsNoteOf (note_of t) n) where
    all_numbers : note_numbers c.notes ≡ n ∷ note_numbers (map note_of rest)
    all_numbers = ap (λ (ns : List Taken). note_numbers (map note_of ns)) was ∙ noted.numbers (map note_of rest)

    once_there : 1 ≤ times n (note_numbers c.notes)
    once_there = rw all_numbers (omega (arith, times_self n (note_numbers (map note_of rest))))

    found_header : facts.IsNoticed W.world (number_of c) n
    found_header = noticed_there W.world i c n W.sound (at_world progress g i e W.world W.stands at) once_there

    shown : (stocked g.stock).headers.header n ≡ Some (found_header.header).state
    shown = sym (ap (λ (s : Seen). s.header n) (seen_of progress g W.world W.stands)) ∙ rw found_header.found refl

    out_now : (found_header.header).state.queue ≡ Out
    out_now = found_header.owned.0

    pub is_out : IsOut n (stocked g.stock)
    is_out = rw shown out_now

    none_held : (ns : List Taken) → times n (note_numbers (map note_of ns)) ≡ 0 → All (λ h. h.held.number ≢ n) (held_in ns)
    none_held [] z = All-nil (λ h. h.held.number ≢ n)
    none_held (Told event ∷ ns) z = none_held ns z
    none_held (EmptyDone header ∷ ns) z =
        let m = times_cons n header.held.number (note_numbers (map note_of ns)) in
        let apart : header.held.number ≢ n = λ q. let y = times_self n (note_numbers (map note_of ns)) in let x : times n (n ∷ note_numbers (map note_of ns)) ≡ 0 = rw q at z in absurd (omega arith) in
        All-cons (λ h. h.held.number ≢ n) (noticed_of header) (held_in ns) apart (none_held ns (omega arith))
    none_held (FillDone header ∷ ns) z =
        let m = times_cons n header.held.number (note_numbers (map note_of ns)) in
        let apart : header.held.number ≢ n = λ q. let y = times_self n (note_numbers (map note_of ns)) in let x : times n (n ∷ note_numbers (map note_of ns)) ≡ 0 = rw q at z in absurd (omega arith) in
        All-cons (λ h. h.held.number ≢ n) (noticed_of header) (held_in ns) apart (none_held ns (omega arith))

    rest_none : times n (note_numbers (map note_of rest)) ≡ 0
    rest_none =
        let a = (parts_of W.world W.sound).noted i c (at_world progress g i e W.world W.stands at) n in
        let b = weight_below (holds_at ((seen W.world.headers).header n) (λ s. is_notice_of (number_of c) s.owner)) in
        let d = times_self n (note_numbers (map note_of rest)) in
        let f : times n (note_numbers c.notes) ≡ times n (n ∷ note_numbers (map note_of rest)) = ap (times n) all_numbers in
        omega arith

    other_none : (j : ℕ) (x : Entry C) → slice_get g.entries j ≡ Some x → j ≢ i → times n (note_numbers (notes_of x.queues)) ≡ 0
    other_none j x h d =
        let a = (parts_of W.world W.sound).noted j (component_of x) (at_world progress g j x W.world W.stands h) n in
        let apart : number_of (component_of x) ≢ number_of c = only progress g i e W at j (component_of x) (there progress g j x h) d in
        let f : holds_at ((seen W.world.headers).header n) (λ s. is_notice_of (number_of (component_of x)) s.owner) ≡ false = rw (found_header.found, found_header.owner) (grind (arith, nat_tests)) in
        a ∙ ap weight f

    others : All (λ h. h.held.number ≢ n) (noticed_in after.entries)
    others = held_each held_by (λ h. h.held.number ≢ n) after.entries (λ j x h. elim (eqb_tells j i) [
      | inl q ↦
          let z : Some x ≡ Some (left e rest) = sym h ∙ rw q.1 (get_set_same g.entries i e (left e rest) at) in
          let y : x ≡ left e rest = cc in
          subst (λ (u : Entry C). All (λ h. h.held.number ≢ n) (held_by u)) (sym y) (none_held rest rest_none)
      | inr q ↦ none_held x.queues.notes (other_none j x (sym (get_set_other g.entries i j (left e rest) q.1) ∙ h) q.1)
    ])

    abbrev pub after_header : StockKept → Entries C
    after_header after_stock = with_stocked progress after_stock after

    steps_out : (after_stock : StockKept) → stocked after_stock ≡ header_given n owners.Client (stocked g.stock) → StepsBare (kept progress after) (kept progress (after_header after_stock)) (λ w v. v ≡ with_headers (changed n (given_to owners.Client) w.headers) (stocked g.stock).next w)
    steps_out after_stock now = stock_steps progress after after_stock (header_given n owners.Client (stocked g.stock)) (λ w v. v ≡ with_headers (changed n (given_to owners.Client) w.headers) (stocked g.stock).next w) now
        (lift_taken (kept progress after) (stocked g.stock) (header_given n owners.Client (stocked g.stock)) n (changed n (given_to owners.Client)) (stock_of progress after) refl others
        (λ hs S. give_stands (stocked g.stock) hs n owners.Client (found_header.header).state S shown out_now)
        (λ hs S. λ m d. changed_else (given_to owners.Client) (λ r. refl) n m hs d))

    pub steps_header : (after_stock : StockKept) → stocked after_stock ≡ header_given n owners.Client (stocked g.stock) → StepsBare (kept progress g) (kept progress (after_header after_stock)) (λ w v. v ≡ with_client n (with_given i c (note_of t) w))
    steps_header after_stock now = λ w S.
        let x = steps_given w S in
        let y = steps_out after_stock now x.0 x.1 in
        let to : World → World = λ u. with_headers (changed n (given_to owners.Client) u.headers) (stocked g.stock).next u in
        let m : w.made ≡ (stocked g.stock).next = made_of progress g w S in
        (y.0, y.1, y.2 ∙ (ap to x.2 ∙ made_is progress (with_given i c (note_of t) w) (changed n (given_to owners.Client) w.headers) (stocked g.stock).next m))

    pub header_worlds : (after_stock : StockKept) → stocked after_stock ≡ header_given n owners.Client (stocked g.stock) → SoundWorld (kept progress (after_header after_stock))
    header_worlds after_stock now = next_world (kept progress g) (kept progress (after_header after_stock)) (λ w v. v ≡ with_client n (with_given i c (note_of t) w)) W (steps_header after_stock now)
        (λ w v S f sound. subst Sound (sym f) (sound_taken w i c (note_of t) n sound (at_world progress g i e w S at) first_note noted))

  held_found : (h : Noticed) (o : Option HeaderRecord) → MatchOption o ⊥ (λ r. (held r ≡ h.held) × (is_notice r.state.owner ≡ true) × (r.state.client_memory ≡ h.client_memory)) → MatchOption o ⊥ (λ r. (held r ≡ h.held) × (r.state.client_memory ≡ h.client_memory))
  held_found h None x = x
  held_found h (Some r) x = (x.0, x.2)

  noticed_first : (u : Taken) (header : BufferHeader) → ((u ≡ EmptyDone header) ⊎ (u ≡ FillDone header)) → (P : Noticed → Type 0) → All P (held_in (u ∷ rest)) → P (noticed_of header)
  noticed_first u header k P A = elim k [
    | inl q ↦ All-head P (noticed_of header) (held_in rest) (subst (λ (v : Taken). All P (held_in (v ∷ rest))) q A)
    | inr q ↦ All-head P (noticed_of header) (held_in rest) (subst (λ (v : Taken). All P (held_in (v ∷ rest))) q A)
  ]

  first_noticed : (header : BufferHeader) → ((t ≡ EmptyDone header) ⊎ (t ≡ FillDone header)) → (w : World) → StandsBare (kept progress g) w → IsNoticed w (noticed_of header)
  first_noticed header k w S =
      let A : All (IsNoticed w) (held_by e) = held_there held_by (IsNoticed w) g.entries i e at S.noticed in
      noticed_first t header k (IsNoticed w) (subst (λ (ns : List Taken). All (IsNoticed w) (held_in ns)) was A)

  -- the header in the note is the world's
  pub header_held : (header : BufferHeader) → ((t ≡ EmptyDone header) ⊎ (t ≡ FillDone header)) → (w : World) → StandsBare (kept progress g) w → AtHeader header.held.number w (λ r. (held r ≡ header.held) × (r.state.client_memory ≡ is_clients header.store))
  header_held header k w S = held_found (noticed_of header) (find_header header.held.number w.headers) (first_noticed header k w S).1

  pub note_number : (header : BufferHeader) → ((t ≡ EmptyDone header) ⊎ (t ≡ FillDone header)) → IsNoteOf (note_of t) header.held.number
  note_number header k = elim k [
    | inl q ↦ subst (λ (u : Taken). IsNoteOf (note_of u) header.held.number) (sym q) (note_emptied header.held.number)
    | inr q ↦ subst (λ (u : Taken). IsNoteOf (note_of u) header.held.number) (sym q) (note_filled header.held.number)
  ]

  header_clause : (header : BufferHeader) → ((t ≡ EmptyDone header) ⊎ (t ≡ FillDone header)) → (w v : World) → StandsBare (kept progress g) w → v ≡ with_client header.held.number (with_given i c (note_of t) w) → TakesNote w i c t v
  header_clause header k w v S f =
      let h = header_held header k w S in
      let own : header.key ≡ w.key = (first_noticed header k w S).0 in
      elim k [
        | inl q ↦ rw q (rw q at first_note, h, rw q at f, own)
        | inr q ↦ rw q (rw q at first_note, h, rw q at f, own)
      ]

-- ---- the clause

module _ {C : Type 0} (progress : C → Progress) (g : Entries C) (i : ℕ) (e : Entry C) (W : SoundWorld (kept progress g)) (at : slice_get g.entries i ≡ Some e) where
  abbrev pub Clause : Entries C → Took C → Type 0
  Clause after result = MatchOption (component_at i g) ⊥ (λ c. StepsBare (kept progress g) (kept progress after) (λ w v. Takes w i c result v))

  told_clause : (call : Call C) (rest : List Taken) (event : Event) → e.queues.client ≡ Some call.client → e.queues.notes ≡ call.taken ∷ rest → call.taken ≡ Told event → Clause (changed_at i (left e rest) g) (tooks.Call call)
  told_clause call rest event client was is =
      let out : is_none e.queues.client ≡ false = rw client refl in
      let first : slice_get (map note_of e.queues.notes) 0 ≡ Some (notes.Told event) = rw (was, is) refl in
      let n : note_of call.taken ≡ notes.Told event = ap note_of is in
      rw (there progress g i e at) (as_change (kept progress g) (kept progress (changed_at i (left e rest) g)) (λ w v. v ≡ with_given i (component_of e) (note_of call.taken) w) (λ w v. Takes w i (component_of e) (tooks.Call call) v)
      (steps_given progress g i e call.taken rest W at was)
      (λ w v S f. (out, subst (λ (u : Taken). TakesNote w i (component_of e) u v) (sym is) (first, f ∙ ap (λ (x : Note). with_given i (component_of e) x w) n))))

  header_returns : (call : Call C) (rest : List Taken) (header : BufferHeader) (after_stock : StockKept) → e.queues.client ≡ Some call.client → (was : e.queues.notes ≡ call.taken ∷ rest) → ((call.taken ≡ EmptyDone header) ⊎ (call.taken ≡ FillDone header)) → stocked after_stock ≡ header_given header.held.number owners.Client (stocked g.stock)
      → Clause (with_stocked progress after_stock (changed_at i (left e rest) g)) (tooks.Call call)
  header_returns call rest header after_stock client was k now =
      let out : is_none e.queues.client ≡ false = rw client refl in
      rw (there progress g i e at) (as_change (kept progress g) (kept progress (with_stocked progress after_stock (changed_at i (left e rest) g))) (λ w v. v ≡ with_client header.held.number (with_given i (component_of e) (note_of call.taken) w)) (λ w v. Takes w i (component_of e) (tooks.Call call) v)
      (steps_header progress g i e call.taken rest W at was header.held.number (note_number progress g i e call.taken rest W at was header k) after_stock now)
      (λ w v S f. (out, header_clause progress g i e call.taken rest W at was header k w v S f)))

  -- the queue as it was left, in the code's words
  pub call_returns : (call : Call C) (event : Event) (d : Entry C) → took e.queues ≡ tooks.Call call → d ≡ record e { queues = after_taking e.queues } → call.taken ≡ Told event → Clause (changed_at i d g) (tooks.Call call)
  call_returns call event d h l is =
      let x = was_taken e.queues call h in
      let q : d ≡ left e x.rest = l ∙ after_call e call h in
      subst (λ (y : Entry C). Clause (changed_at i y g) (tooks.Call call)) (sym q) (told_clause call x.rest event x.client x.notes is)

  pub done_returns : (call : Call C) (header : BufferHeader) (d : Entry C) (after_stock : StockKept) → took e.queues ≡ tooks.Call call → d ≡ record e { queues = after_taking e.queues } → ((call.taken ≡ EmptyDone header) ⊎ (call.taken ≡ FillDone header))
      → stocked after_stock ≡ header_given header.held.number owners.Client (stocked g.stock) → Clause (with_stocked progress after_stock (changed_at i d g)) (tooks.Call call)
  done_returns call header d after_stock h l k now =
      let x = was_taken e.queues call h in
      let q : d ≡ left e x.rest = l ∙ after_call e call h in
      subst (λ (y : Entry C). Clause (with_stocked progress after_stock (changed_at i y g)) (tooks.Call call)) (sym q) (header_returns call x.rest header after_stock x.client x.notes k now)

  pub call_worlds : (call : Call C) (event : Event) (d : Entry C) → took e.queues ≡ tooks.Call call → d ≡ record e { queues = after_taking e.queues } → call.taken ≡ Told event → SoundWorld (kept progress (changed_at i d g))
  call_worlds call event d h l is =
      let x = was_taken e.queues call h in
      let q : d ≡ left e x.rest = l ∙ after_call e call h in
      subst (λ (y : Entry C). SoundWorld (kept progress (changed_at i y g))) (sym q) (given_worlds progress g i e call.taken x.rest W at x.notes event is)

  pub done_worlds : (call : Call C) (header : BufferHeader) (d : Entry C) (after_stock : StockKept) → took e.queues ≡ tooks.Call call → d ≡ record e { queues = after_taking e.queues } → ((call.taken ≡ EmptyDone header) ⊎ (call.taken ≡ FillDone header))
      → stocked after_stock ≡ header_given header.held.number owners.Client (stocked g.stock) → SoundWorld (kept progress (with_stocked progress after_stock (changed_at i d g)))
  done_worlds call header d after_stock h l k now =
      let x = was_taken e.queues call h in
      let q : d ≡ left e x.rest = l ∙ after_call e call h in
      subst (λ (y : Entry C). SoundWorld (kept progress (with_stocked progress after_stock (changed_at i y g)))) (sym q)
      (header_worlds progress g i e call.taken x.rest W at x.notes header.held.number (note_number progress g i e call.taken x.rest W at x.notes header k) after_stock now)

  pub done_out : (call : Call C) (header : BufferHeader) → took e.queues ≡ tooks.Call call → ((call.taken ≡ EmptyDone header) ⊎ (call.taken ≡ FillDone header)) → IsOut header.held.number (stocked g.stock)
  done_out call header h k =
      let x = was_taken e.queues call h in
      is_out progress g i e call.taken x.rest W at x.notes header.held.number (note_number progress g i e call.taken x.rest W at x.notes header k)

  -- no note was taken
  stays : (after : Entries C) (r : Took C) → after ≡ g → ((w : World) → Takes w i (component_of e) r w) → Clause after r
  stays after r q h = rw (there progress g i e at) (subst (λ (z : Entries C). StepsBare (kept progress g) (kept progress z) (λ w v. Takes w i (component_of e) r v)) (sym q) (λ w S. (w, S, h w)))

  nothing_left : (r : Took C) (d : Entry C) → took e.queues ≡ r → (r ≡ tooks.None) ⊎ (r ≡ tooks.Busy) → d ≡ record e { queues = after_taking e.queues } → d ≡ e
  nothing_left r d h k l = elim k [
    | inl q ↦ l ∙ rw (h ∙ q) refl
    | inr q ↦ l ∙ rw (h ∙ q) refl
  ]

  pub none_entries : (r : Took C) (d : Entry C) → took e.queues ≡ r → (r ≡ tooks.None) ⊎ (r ≡ tooks.Busy) → d ≡ record e { queues = after_taking e.queues } → set g.entries i d ≡ g.entries
  none_entries r d h k l = ap (λ (x : Entry C). set g.entries i x) (nothing_left r d h k l) ∙ set_same g.entries i e at

  none_changed : (r : Took C) (d : Entry C) → took e.queues ≡ r → (r ≡ tooks.None) ⊎ (r ≡ tooks.Busy) → d ≡ record e { queues = after_taking e.queues } → changed_at i d g ≡ g
  none_changed r d h k l = ap (λ (es : List (Entry C)). record g { entries = es }) (none_entries r d h k l)

  pub none_unchanged : (r : Took C) (d : Entry C) → took e.queues ≡ r → (r ≡ tooks.None) ⊎ (r ≡ tooks.Busy) → d ≡ record e { queues = after_taking e.queues } → OnNoNote r (changed_at i d g ≡ g)
  none_unchanged r d h k l =
      let same = none_changed r d h k l in
      elim k [
        | inl y ↦ rw y same
        | inr y ↦ rw y same
      ]

  pub none_returns : (r : Took C) (d : Entry C) → took e.queues ≡ r → (r ≡ tooks.None) ⊎ (r ≡ tooks.Busy) → d ≡ record e { queues = after_taking e.queues } → Clause (changed_at i d g) r
  none_returns r d h k l =
      stays (changed_at i d g) r (none_changed r d h k l) (λ w. elim k [
        | inl y ↦ let x = took_none e.queues.client e.queues.notes (h ∙ y) in rw y (x.0, x.1, refl)
        | inr y ↦ rw y (took_busy e.queues.client e.queues.notes (h ∙ y), refl)
      ])
