-- The front of todo of a client port is cleared and queued as a note.
use Rattle.std.proofs.Common.{◌≡◌, ℕ, ◌*◌, ◌<◌, Bool, true, false, List, [], ◌∷◌, ◌++◌, set, map, Option, Some, None, MatchOption, All, slice_get, option_map, refl, sym, ◌∙◌, ap, subst}
use Rattle.std.proofs.lemmas.Option.{slice_get-map}
use Rattle.std.proofs.lemmas.List.Elements.{All-push}
use Rattle.std.proofs.lemmas.List.{map-append}
use Rattle.omx_types.specs.declared.command.Note.{Note}
use Rattle.il_machine.specs.declared.answer.Progress.{Progress}
use Rattle.il_machine.specs.declared.port.PortKey.{PortKey}
use Rattle.il_machine.specs.declared.port.Port.{Port}
use Rattle.il_machine.specs.declared.header.HeaderState.{HeaderState}
use Rattle.il_machine.specs.declared.header.Owner.{Owner}
use Rattle.il_machine.specs.declared.header.Owner.TheVariants as owners
use Rattle.il_machine.specs.declared.header.Queue.TheVariants.{Out}
use Rattle.il_machine.specs.Kinds.{ports_in}
use Rattle.il_machine.specs.World.{Component, HeaderRecord, World, number_of, port_of, with_component}
use Rattle.il_machine.specs.World as machine
use Rattle.il_machine.specs.Look.{Look}
use Rattle.il_machine.specs.Headers.{Seen, seen, find_header, changed, cleared, given_to, in_todo, is_notice, load_of}
use Rattle.il_machine.specs.Buffers.{held, load_in}
use Rattle.il_machine.specs.Flow.{done_note, front_noticed, handed_back}
use Rattle.il_machine.specs.Stock.{Stocked, header_given, todo_pulled, todo_front_pulled, state_out}
use Rattle.il_machine.specs.Whole.{Kept, Noticed, IsNoticed}
use Rattle.stock_laws.specs.Bare.{StandsBare, StepsBare}
use Rattle.il_machine.specs.Sound.{Sound}
use Rattle.machine_laws.proofs.Facts.{notes_fewer}
use Rattle.machine_laws.proofs.Finding.{changed_else, changed_same, found_number}
use Rattle.machine_laws.proofs.Listed.{IsIn, todo_in, first_in, todo_owner}
use Rattle.machine_laws.proofs.Lookups.{port_parts}
use Rattle.machine_laws.proofs.Notices.{sound_noticed}
use Rattle.stock_laws.proofs.Leaving.{front_of_todo}
use Rattle.stock_laws.proofs.Composed.{pull_taken, pull_give}
use Rattle.stock_laws.proofs.Entries.{held_set, set_same}
use Rattle.stock_laws.proofs.Lifting.{with_look, lift_component}
use Rattle.stock_laws.proofs.Lists.{map_set}
use Rattle.stock_laws.proofs.Noting.{with_noticed, renoticed}
use Rattle.stock_laws.proofs.Stocking.{with_stock, lift_one, with_headers, stands_for, IsFree}
use Rattle.header_core.specs.BufferHeader.{BufferHeader, is_clients, cleared as emptied_header, empty_held}
use Rattle.note_queues.specs.declared.taken.Taken.{Taken as Queued}
use Rattle.note_queues.specs.declared.taken.Taken.TheVariants.{Told, EmptyDone, FillDone}
use Rattle.note_queues.specs.Queues.{note_of, header_note, header_notes, noted}
use Rattle.il_component.specs.Entries.{Entry, component_of, noticed_of, held_in}
use Rattle.port_stock.specs.Kept.{StockKept, stocked}
use Rattle.port_stock.specs.Conditions.{IsFrom, IsOut, IsOutside, IsHeaderOf}
use Rattle.graph_core.specs.Standing.{SoundWorld}
use Rattle.graph_core.specs.Entries.{Entries, components_of, look_of, noticed_in, held_by, progress_at, kept, changed_at, component_at}
use Rattle.graph_core.proofs.Replacing.{there, next_world}
use Rattle.graph_core.proofs.Stepping.{at_world, with_stocked, stock_of, stock_steps, made_is, made_of, seen_of}

-- ---- lists

pub first_number : (ns : List ℕ) (n : ℕ) → Some n ≡ slice_get ns 0 → (rest : List ℕ) × (ns ≡ n ∷ rest)
first_number [] n h = absurd cc
first_number (m ∷ ns) n h = let e : m ≡ n = cc in (ns, ap (λ (x : ℕ). x ∷ ns) e)

pub no_number : (ns : List ℕ) → None ≡ slice_get ns 0 → ns ≡ []
no_number [] h = refl
no_number (m ∷ ns) h = absurd cc

held_append : (xs ys : List Queued) → held_in (xs ++ ys) ≡ held_in xs ++ held_in ys
held_append [] ys = refl
held_append (Told event ∷ xs) ys = held_append xs ys
held_append (EmptyDone header ∷ xs) ys = ap (λ (hs : List Noticed). noticed_of header ∷ hs) (held_append xs ys)
held_append (FillDone header ∷ xs) ys = ap (λ (hs : List Noticed). noticed_of header ∷ hs) (held_append xs ys)

note_is : (b : Bool) (h : BufferHeader) → note_of (header_note b h) ≡ done_note b h.held.number
note_is true h = refl
note_is false h = refl

held_is : (b : Bool) (h : BufferHeader) → held_in (header_note b h ∷ []) ≡ noticed_of h ∷ []
held_is true h = refl
held_is false h = refl

pub pulled_ports : (key : PortKey) (ns : List ℕ) (s : Stocked) → (todo_front_pulled key ns s).ports ≡ s.ports
pulled_ports key [] s = refl
pulled_ports key (n ∷ ns) s = refl

pulled_key : (key : PortKey) (ns : List ℕ) (s : Stocked) → (todo_front_pulled key ns s).key ≡ s.key
pulled_key key [] s = refl
pulled_key key (n ∷ ns) s = refl

pulled_next : (key : PortKey) (ns : List ℕ) (s : Stocked) → (todo_front_pulled key ns s).next ≡ s.next
pulled_next key [] s = refl
pulled_next key (n ∷ ns) s = refl

outside_out : (o : Option HeaderState) (header : BufferHeader) → MatchOption o ⊥ (λ h. (h.queue ≡ Out) × IsHeaderOf h header) → MatchOption o ⊥ (λ h. h.queue ≡ Out)
outside_out None header x = x
outside_out (Some h) header x = x.0

pub out_of : (s : Stocked) (header : BufferHeader) → IsOutside header s → IsOut header.held.number s
out_of s header x = outside_out (s.headers.header header.held.number) header x.1

pub outside_size : (o : Option HeaderState) (s : HeaderState) (header : BufferHeader) → o ≡ Some s → MatchOption o ⊥ (λ h. (h.queue ≡ Out) × IsHeaderOf h header) → header.held.size ≡ s.size
outside_size None s header e x = absurd x
outside_size (Some h) s header e x = let q : h ≡ s = cc in x.1.size ∙ ap (λ (y : HeaderState). y.size) q

outside_memory : (o : Option HeaderState) (s : HeaderState) (header : BufferHeader) → o ≡ Some s → MatchOption o ⊥ (λ h. (h.queue ≡ Out) × IsHeaderOf h header) → is_clients header.store ≡ s.client_memory
outside_memory None s header e x = absurd x
outside_memory (Some h) s header e x = let q : h ≡ s = cc in x.1.memory ∙ ap (λ (y : HeaderState). y.client_memory) q

module _ {C : Type 0} (progress : C → Progress) (g : Entries C) (i : ℕ) (e : Entry C) (index : ℕ) (p : Port) (W : SoundWorld (kept progress g)) (at : slice_get g.entries i ≡ Some e) (port : port_of (component_of e) index ≡ Some p) (client : p.state.link ≡ None) where
  abbrev c : Component
  c = component_of e

  abbrev s : Stocked
  s = stocked g.stock

  abbrev pub Clause : Entries C → Type 0
  Clause after = MatchOption (component_at i g) ⊥ (λ c. MatchOption (port_of c index) ⊥ (λ p. StepsBare (kept progress g) (kept progress after) (λ w v. v ≡ handed_back i c p None w)))

  clause_from : (after : Entries C) → StepsBare (kept progress g) (kept progress after) (λ w v. v ≡ handed_back i c p None w) → Clause after
  clause_from after f = rw (there progress g i e at, port) f

  -- ---- todo is empty

  pub nothing_returns : (after_stock : StockKept) → stocked after_stock ≡ todo_pulled p.key s → None ≡ slice_get (s.headers.todo p.key) 0 → Clause (with_stocked progress after_stock g)
  nothing_returns after_stock now none =
      let t : s.headers.todo p.key ≡ [] = no_number (s.headers.todo p.key) none in
      let q : stocked after_stock ≡ s = now ∙ ap (λ (ns : List ℕ). todo_front_pulled p.key ns s) t in
      clause_from (with_stocked progress after_stock g) (stock_steps progress g after_stock s (λ w v. v ≡ handed_back i c p None w) q
      (λ w S.
      let z : (seen w.headers).todo p.key ≡ [] = ap (λ (x : Seen). x.todo p.key) (seen_of progress g w S) ∙ t in
      (w, S, sym (ap (λ (ns : List ℕ). front_noticed i c p ns w) z))))

  pub nothing_worlds : (after_stock : StockKept) → stocked after_stock ≡ todo_pulled p.key s → None ≡ slice_get (s.headers.todo p.key) 0 → SoundWorld (kept progress (with_stocked progress after_stock g))
  nothing_worlds after_stock now none =
      let t : s.headers.todo p.key ≡ [] = no_number (s.headers.todo p.key) none in
      let q : stocked after_stock ≡ s = now ∙ ap (λ (ns : List ℕ). todo_front_pulled p.key ns s) t in
      next_world (kept progress g) (kept progress (with_stocked progress after_stock g)) (λ w v. v ≡ w) W (stock_steps progress g after_stock s (λ w v. v ≡ w) q (λ w S. (w, S, refl))) (λ w v S f sound. subst Sound (sym f) sound)

  -- ---- the front of todo

  module _ (header : BufferHeader) (front : Some header.held.number ≡ slice_get (s.headers.todo p.key) 0) (was : IsFrom (in_todo p.key) header s) (outside : IsOutside header (todo_pulled p.key s)) where
    abbrev n : ℕ
    n = header.held.number

    abbrev rest : List ℕ
    rest = (first_number (s.headers.todo p.key) n front).0

    todo_is : s.headers.todo p.key ≡ n ∷ rest
    todo_is = (first_number (s.headers.todo p.key) n front).1

    world_todo : (w : World) → StandsBare (kept progress g) w → (seen w.headers).todo p.key ≡ n ∷ rest
    world_todo w S = ap (λ (x : Seen). x.todo p.key) (seen_of progress g w S) ∙ todo_is

    pub fewer_notes : header_notes e.queues < 32 * ports_in e.settings.kind
    fewer_notes =
        let w = W.world in
        let I : IsIn p.key w.headers n = first_in p.key w.headers ((seen w.headers).todo p.key) rest n (todo_in p.key w.headers W.stands.once) (world_todo w W.stands) in
        notes_fewer w i c W.sound (at_world progress g i e w W.stands at) index p n port client I

    pub out_now : IsOut n (todo_pulled p.key s)
    out_now = out_of (todo_pulled p.key s) header outside

    abbrev owner : Owner
    owner = owners.Notice (number_of c)

    abbrev moved : HeaderRecord → HeaderRecord
    moved r = given_to owner (cleared r)

    abbrev after_pull : Stocked
    after_pull = header_given n owner (todo_pulled p.key s)

    free : IsFree n s
    free =
        let F = front_of_todo s W.world.headers p.key n rest (stands_for s (kept progress g) W.world (stock_of progress g) W.stands) todo_is in
        let o : (F.state).owner ≡ owners.Port p.key = todo_owner p.key F.state F.passes in
        let z : is_notice (F.state).owner ≡ false = rw o refl in
        rw F.is z

    next_is : after_pull.next ≡ s.next
    next_is = pulled_next p.key (s.headers.todo p.key) s

    key_is : after_pull.key ≡ s.key
    key_is = pulled_key p.key (s.headers.todo p.key) s

    steps_stock : StepsBare (kept progress g) (with_stock after_pull (kept progress g)) (λ w v. v ≡ with_headers (changed n moved w.headers) after_pull.next w)
    steps_stock = lift_one (kept progress g) s after_pull n (changed n moved) (stock_of progress g) key_is free
        (λ hs S. pull_give s hs p.key owner n rest S todo_is)
        (λ hs S. λ m d. changed_else moved (λ r. refl) n m hs d)

    abbrev note : Note
    note = done_note p.setting.definition.input n

    abbrev queued : Queued
    queued = header_note p.setting.definition.input (emptied_header header)

    abbrev pub with_note : Entry C
    with_note = record e { queues = noted queued e.queues }

    note_component : component_of with_note ≡ machine.noted note c
    note_component =
        let x : map note_of (e.queues.notes ++ queued ∷ []) ≡ map note_of e.queues.notes ++ note ∷ [] =
        map-append note_of e.queues.notes (queued ∷ []) ∙ ap (λ (y : Note). map note_of e.queues.notes ++ y ∷ []) (note_is p.setting.definition.input (emptied_header header)) in
        ap (λ (ns : List Note). record c { notes = ns }) x

    abbrev pub after : StockKept → Entries C
    after after_stock = with_stocked progress after_stock (changed_at i with_note g)

    abbrev middle : Kept
    middle = with_look i (machine.noted note c) (with_stock after_pull (kept progress g))

    kept_noted : (after_stock : StockKept) → stocked after_stock ≡ after_pull → kept progress (after after_stock) ≡ with_noticed (noticed_in (set g.entries i with_note)) middle
    kept_noted after_stock now =
        let cs : components_of (set g.entries i with_note) ≡ set (components_of g.entries) i (machine.noted note c) = map_set component_of g.entries i with_note ∙ ap (λ (x : Component). set (components_of g.entries) i x) note_component in
        let cl : map (progress_at progress) (set g.entries i with_note) ≡ map (progress_at progress) g.entries =
        map_set (progress_at progress) g.entries i with_note ∙ set_same (map (progress_at progress) g.entries) i (progress_at progress e) (slice_get-map (progress_at progress) g.entries i ∙ ap (option_map (progress_at progress)) at) in
        λ j. record {
          looks = record (look_of g) { key = (now j).key; components = cs j; headers = (now j).headers; made = (now j).next };
          clients = cl j;
          loads = (now j).loads;
          noticed = noticed_in (set g.entries i with_note);
          parts = [];
        }

    -- the header of the note is the world's
    header_noticed : (w v : World) → StandsBare (kept progress g) w → v.key ≡ w.key → v.headers ≡ changed n moved w.headers → IsNoticed v (noticed_of (emptied_header header))
    header_noticed w v S own q =
        let T = pull_taken s w.headers p.key n rest (stands_for s (kept progress g) w (stock_of progress g) S) todo_is in
        let r = T.found.it in
        let f : find_header n v.headers ≡ Some (moved r) = ap (find_header n) q ∙ changed_same moved (λ r. refl) n w.headers r T.found.is in
        let m : r.state.number ≡ n = found_number n w.headers r T.found.is in
        let z : r.state.size ≡ header.held.size = ap (λ (x : HeaderState). x.size) T.found.state ∙ sym (outside_size ((todo_pulled p.key s).headers.header n) (state_out T.state) header T.shown outside.1) in
        let carried : Some r.load ≡ Some (load_in header.held) = ap (option_map load_of) (sym T.found.is) ∙ S.loads n (load_in header.held) was.1 in
        let l : r.load ≡ load_in header.held = cc in
        let h : held (moved r) ≡ empty_held n header.held.size header.held.memory = λ j. record { number = m j; size = z j; content = []; flags = 0; mark = None; memory = (l j).memory } in
        let o : r.state.client_memory ≡ is_clients header.store =
        ap (λ (x : HeaderState). x.client_memory) T.found.state ∙ sym (outside_memory ((todo_pulled p.key s).headers.header n) (state_out T.state) header T.shown outside.1) in
        let k : header.key ≡ v.key = outside.0 ∙ (pulled_key p.key (s.headers.todo p.key) s ∙ sym (own ∙ ap (λ (l : Look). l.key) S.looks)) in
        (k, rw f (h, refl, o))

    steps_noted : (after_stock : StockKept) → stocked after_stock ≡ after_pull → StepsBare (kept progress g) (kept progress (after after_stock)) (λ w v. v ≡ front_noticed i c p (n ∷ rest) w)
    steps_noted after_stock now = λ w S.
        let x = steps_stock w S in
        let y = lift_component (with_stock after_pull (kept progress g)) i c (machine.noted note c) (there progress g i e at) (record { number = refl; kind = refl; file = refl; failed = refl; work = refl }) refl x.0 x.1 in
        let is : y.0 ≡ front_noticed i c p (n ∷ rest) w =
        y.2 ∙ ap (with_component i (machine.noted note c)) (x.2 ∙ (ap (λ (k : ℕ). with_headers (changed n moved w.headers) k w) next_is ∙ made_is progress w (changed n moved w.headers) s.next (made_of progress g w S))) in
        let own : IsNoticed y.0 (noticed_of (emptied_header header)) = header_noticed w y.0 S (ap (λ (u : World). u.key) is) (ap (λ (u : World). u.headers) is) in
        let more : All (IsNoticed y.0) (held_by e) → All (IsNoticed y.0) (held_by with_note) = λ A.
        let q : held_by with_note ≡ held_in e.queues.notes ++ noticed_of (emptied_header header) ∷ [] = held_append e.queues.notes (queued ∷ []) ∙ ap (λ (hs : List Noticed). held_in e.queues.notes ++ hs) (held_is p.setting.definition.input (emptied_header header)) in
        subst (λ (hs : List Noticed). All (IsNoticed y.0) hs) (sym q) (All-push (IsNoticed y.0) (held_in e.queues.notes) (noticed_of (emptied_header header)) A own) in
        let N : All (IsNoticed y.0) (noticed_in (set g.entries i with_note)) = held_set held_by (IsNoticed y.0) g.entries i e with_note at more y.1.noticed in
        (y.0, subst (λ (z : Kept). StandsBare z y.0) (sym (kept_noted after_stock now)) (renoticed middle (noticed_in (set g.entries i with_note)) y.0 y.1 N), is)

    noticed_returns : (after_stock : StockKept) → stocked after_stock ≡ after_pull → Clause (after after_stock)
    noticed_returns after_stock now = clause_from (after after_stock) (λ w S.
        let x = steps_noted after_stock now w S in
        (x.0, x.1, x.2 ∙ sym (ap (λ (ns : List ℕ). front_noticed i c p ns w) (world_todo w S))))

    noticed_worlds : (after_stock : StockKept) → stocked after_stock ≡ after_pull → SoundWorld (kept progress (after after_stock))
    noticed_worlds after_stock now = next_world (kept progress g) (kept progress (after after_stock)) (λ w v. v ≡ front_noticed i c p (n ∷ rest) w) W (steps_noted after_stock now)
        (λ w v S f sound. subst Sound (sym (f ∙ sym (ap (λ (ns : List ℕ). front_noticed i c p ns w) (world_todo w S)))) (sound_noticed w i c index p sound (at_world progress g i e w S at) port client))

    -- the owner in the code's words
    owner_is : (after_stock : StockKept) → stocked after_stock ≡ header_given n (owners.Notice p.key.component) (todo_pulled p.key s) → stocked after_stock ≡ after_pull
    owner_is after_stock now = now ∙ ap (λ (k : PortKey). header_given n (owners.Notice k.component) (todo_pulled p.key s)) (port_parts c index p port).key

    pub given_returns : (d : Entry C) (after_stock : StockKept) → d ≡ with_note → stocked after_stock ≡ header_given n (owners.Notice p.key.component) (todo_pulled p.key s) → Clause (with_stocked progress after_stock (changed_at i d g))
    given_returns d after_stock q now = subst (λ (x : Entry C). Clause (with_stocked progress after_stock (changed_at i x g))) (sym q) (noticed_returns after_stock (owner_is after_stock now))

    pub given_worlds : (d : Entry C) (after_stock : StockKept) → d ≡ with_note → stocked after_stock ≡ header_given n (owners.Notice p.key.component) (todo_pulled p.key s) → SoundWorld (kept progress (with_stocked progress after_stock (changed_at i d g)))
    given_worlds d after_stock q now = subst (λ (x : Entry C). SoundWorld (kept progress (with_stocked progress after_stock (changed_at i x g)))) (sym q) (noticed_worlds after_stock (owner_is after_stock now))
