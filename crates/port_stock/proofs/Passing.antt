-- The front of a port's done goes to another port where it stands. That is as if it were taken out of the one list and put into the other.
use Rattle.std.proofs.Common.{◌≡◌, ℕ, ◌<◌, true, false, not, List, [], ◌∷◌, length, set, position, slice_get, Option, Some, None, IsSome, MatchOption, option_map, refl, sym, ◌∙◌, ap, inl, inr, subst}
use Rattle.std.proofs.lemmas.Bool.Decides.{eqb_tells}
use Rattle.il_machine.specs.declared.port.PortKey.{PortKey}
use Rattle.il_machine.specs.declared.header.Owner.TheVariants as owners
use Rattle.il_machine.specs.declared.header.Queue.TheVariants.{Out}
use Rattle.il_machine.specs.declared.header.Spot.{Spot}
use Rattle.il_machine.specs.declared.header.Spot.TheVariants.{TodoBack}
use Rattle.il_machine.specs.declared.header.HeaderState.{HeaderState}
use Rattle.il_machine.specs.World.{HeaderRecord}
use Rattle.il_machine.specs.Lists.{holds_at, is_empty}
use Rattle.il_machine.specs.Headers.{changed, find_header, in_done, is_for, put_at, spot_queue, state_at, state_of}
use Rattle.il_machine.specs.Buffers.{load_in}
use Rattle.il_machine.specs.Stock.{Stocked, done_front_pulled, done_pulled, pushed, state_out}
use Rattle.header_core.specs.BufferHeader.{BufferHeader}
use Rattle.stock_laws.proofs.Flat.{changed-as, changed-changed, find-changed}
use Rattle.stock_laws.proofs.Leaving.{front_none, front_some}
use Rattle.port_stock.specs.declared.entry.Entry.{Entry}
use Rattle.port_stock.specs.declared.port.Port.{Port}
use Rattle.port_stock.specs.Kept.{is_waiting, stocked}
use Rattle.port_stock.specs.Conditions.{IsFrom, IsHeaderOf, IsMadeFor, IsMadeForOwner, IsOutside}
use Rattle.port_stock.specs.Entries.{AreOf, Each, HasKey, IsKept, IsTakenAt, entry_out, headers_of, put_record, record_of, record_out}
use Rattle.port_stock.specs.Passing.{AreDoneFor, IsPassed}
use Rattle.port_stock.specs.Rings.{HasCounted, IsLawful, Recounts, Replaces, port_at, with_number, without_done}
use Rattle.port_stock.proofs.Places.{At, Each-at, Each-set, at, is_numbered}
use Rattle.port_stock.proofs.Changing.{Leaves, is_kept, is_there, leaves, leaves_keys, leaves_kept, leaves_own, spot_waits, taken_at, to_there, unreached}
use Rattle.port_stock.proofs.Finding.{requeued_after, requeued_before}
use Rattle.port_stock.proofs.Reading.{header_shown, view}
use Rattle.port_stock.proofs.Knowing.{counted_behind, known, known_put}
use Rattle.port_stock.proofs.Turning.{Turns, count_all, done_is, old, push_turns, put_done_room, put_todo_room, send_gives, send_none_turns, send_turns, send_waits}

-- ---- an entry that is moved where it stands

abbrev passed_entry : PortKey → Spot → Entry → Entry
passed_entry key spot e = record { state = state_at key spot e.state; kept = e.kept }

passed_header : (key : PortKey) (spot : Spot) (s : HeaderState) (o : Option BufferHeader) → MatchOption o (Unit {0}) (λ header. (header.held.number ≡ s.number) × IsHeaderOf s header)
    → MatchOption o (Unit {0}) (λ header. (header.held.number ≡ s.number) × IsHeaderOf (state_at key spot s) header)
passed_header key spot s None h = tt
passed_header key spot s (Some header) h = (h.0, record { size = h.1.size; memory = h.1.memory })

passed_is_kept : (key : PortKey) (spot : Spot) (e : Entry) → IsKept e → is_waiting e.state.queue ≡ true → IsKept (passed_entry key spot e)
passed_is_kept key spot e K w = record { there = K.there ∙ (w ∙ spot_waits spot); header = passed_header key spot e.state e.kept K.header }

module _ (es : List Entry) (n k : ℕ) (key : PortKey) (spot : Spot) (e : Entry) (A : At n k es) (same : e ≡ A.it) where
  pub pass_headers : headers_of (set es k (passed_entry key spot e)) ≡ changed n (put_at key spot) (headers_of es)
  pass_headers = ap (λ (x : Entry). headers_of (set es k (passed_entry key spot x))) same ∙ A.stands.changed (passed_entry key spot A.it) (put_at key spot) refl

  pub pass_kept : Each IsKept es → MatchOption (find_header n (headers_of es)) ⊥ (λ r. is_waiting r.state.queue ≡ true) → Each IsKept (set es k (passed_entry key spot e))
  pass_kept E h =
      let w = is_there (λ r. is_waiting r.state.queue ≡ true) (find_header n (headers_of es)) (record_of A.it) A.stands.find h in
      let Q : Entry → Type 0 = λ x. Each IsKept (set es k (passed_entry key spot x)) in
      subst Q (sym same) (Each-set IsKept es k (passed_entry key spot A.it) E (passed_is_kept key spot A.it (Each-at IsKept es k A.it E A.there) w))

  pub pass_keys : (own : ℕ) → AreOf own es → AreOf own (set es k (passed_entry key spot e))
  pass_keys own E =
      let Q : Entry → Type 0 = λ x. AreOf own (set es k (passed_entry key spot x)) in
      subst Q (sym same) (Each-set (HasKey own) es k (passed_entry key spot A.it) E (Each-at (HasKey own) es k A.it E A.there))

-- ---- the front of done, taken out of its list

kept_header : (o : Option BufferHeader) → IsSome o → (header : BufferHeader) × (o ≡ Some header)
kept_header None h = absurd cc
kept_header (Some header) h = (header, refl)

stands_at : (n : ℕ) (es : List Entry) → MatchOption (find_header n (headers_of es)) ⊥ (λ r. is_waiting r.state.queue ≡ true) → (k : ℕ) × At n k es
stands_at n es w = elim (position (is_numbered n) es) as (λ v. position (is_numbered n) es ≡ v → (k : ℕ) × At n k es) [
  | None ↦ λ e. absurd (unreached n es (λ r. is_waiting r.state.queue ≡ true) e w)
  | Some k ↦ λ e. (k, at n k es e)
] refl

-- The entries with the front of done taken out, and that header.
pub record Taken (key : ℕ) (ps qs : List Port) (es : List Entry) (blocks next places : ℕ) (L : IsLawful key ps es blocks next places) (port : PortKey) (n : ℕ) : Type 0 where
  pub vs : List Entry
  pub header : BufferHeader
  pub taken : IsTakenAt n header (headers_of es) (headers_of vs)
  pub turns : Turns key qs vs blocks next places (done_pulled port (stocked (old key ps es blocks next places L)))
  pub was : IsFrom (in_done port) header (stocked (old key ps es blocks next places L))
  pub outside : IsOutside header (stocked (view key qs (headers_of vs) next))

module _ (key : ℕ) (ps : List Port) (es : List Entry) (blocks next places : ℕ) (L : IsLawful key ps es blocks next places) (port : PortKey) (n : ℕ) (front : Some n ≡ slice_get (port_at port ps).done.items 0) (qs : List Port)
    (R : Replaces port (without_done (port_at port ps)) ps qs) where
  pub taken_out : Taken key ps qs es blocks next places L port n
  taken_out =
      let waits = send_waits key ps es blocks next places L port n front in
      let S = stands_at n es waits in
      let k = S.0 in
      let A = S.1 in
      let w = is_there (λ r. is_waiting r.state.queue ≡ true) (find_header n (headers_of es)) (record_of A.it) A.stands.find waits in
      let H = kept_header A.it.kept (is_kept A.it (Each-at IsKept es k A.it L.kept A.there) w) in
      let vs : List Entry = set es k (entry_out A.it) in
      let out : Leaves es vs k A.it H.0 = leaves es vs k A.it H.0 A.there L.kept (to_there (λ (e : Entry). e.kept ≡ Some H.0) (slice_get es k) A.it A.there H.1) (to_there (λ (e : Entry). vs ≡ set es k (entry_out e)) (slice_get es k) A.it A.there refl) in
      let T = taken_at es vs n k H.0 A out in
      let N = send_turns key ps es blocks next places L qs vs places port n H.0 front T (leaves_kept es vs k A.it H.0 L.kept out) (leaves_keys es vs k A.it H.0 out key L.keys) R refl in
      let G = send_gives key ps es blocks next places L qs vs places port n H.0 front T (leaves_own es vs k A.it H.0 A.there out key L.keys) N in
      record { vs = vs; header = H.0; taken = T; turns = N; was = G.was; outside = G.outside }

  done_list : (rest : List ℕ) × ((stocked (old key ps es blocks next places L)).headers.done port ≡ n ∷ rest)
  done_list =
      let F = front_some (port_at port ps).done.items n (sym front) in
      (F.0, sym (done_is key ps es blocks next places L port) ∙ F.1)

  -- the value with the front of done put at the spot of the other port
  abbrev pub passed_value : PortKey → Spot → Stocked
  passed_value to spot = pushed to spot taken_out.header.held.number (load_in taken_out.header.held) (stocked (view key qs (headers_of taken_out.vs) next))

  -- what the contract says of it
  pub pass_is : (to : PortKey) (spot : Spot) (t : Stocked) → t ≡ passed_value to spot → IsPassed port to spot ((stocked (old key ps es blocks next places L)).headers.done port) (stocked (old key ps es blocks next places L)) t
  pass_is to spot t e =
      let s : Stocked = stocked (old key ps es blocks next places L) in
      let header = taken_out.header in
      let load = load_in header.held in
      let carried : s.loads n ≡ Some load = subst (λ (m : ℕ). s.loads m ≡ Some load) taken_out.taken.numbered taken_out.was.1 in
      let is : t ≡ pushed to spot n load (done_pulled port s) = e ∙ (ap (λ (m : ℕ). pushed to spot m load (stocked (view key qs (headers_of taken_out.vs) next))) taken_out.taken.numbered ∙ ap (pushed to spot n load) taken_out.turns.is) in
      subst (λ (ns : List ℕ). IsPassed port to spot ns s t) (sym done_list.1) (load, carried, is)

  pub some_done : true ≡ not (is_empty ((stocked (old key ps es blocks next places L)).headers.done port))
  some_done = sym (ap (λ (ns : List ℕ). not (is_empty ns)) done_list.1)

  module _ (before : HeaderState) (b : option_map state_of (find_header n (headers_of es)) ≡ Some before) where
    abbrev X : Taken key ps qs es blocks next places L port n
    X = taken_out

    -- the header was in done
    was_done : in_done port before ≡ true
    was_done =
        let shown : (stocked (old key ps es blocks next places L)).headers.header n ≡ Some before = sym (header_shown (old key ps es blocks next places L) n) ∙ b in
        let was : holds_at ((stocked (old key ps es blocks next places L)).headers.header n) (in_done port) ≡ true = subst (λ (m : ℕ). holds_at ((stocked (old key ps es blocks next places L)).headers.header m) (in_done port) ≡ true) X.taken.numbered X.was.0 in
        sym (ap (λ (o : Option HeaderState). holds_at o (in_done port)) shown) ∙ was

    pub made_for : (to : PortKey) → AreDoneFor port to (stocked (old key ps es blocks next places L)) → is_for to before ≡ true
    made_for to M = M n before (sym (header_shown (old key ps es blocks next places L) n) ∙ b) was_done

    -- it is as it was, but for its list
    out_at : option_map state_of (find_header n (headers_of X.vs)) ≡ Some (state_out before)
    out_at =
        let K = known n (headers_of es) before b in
        ap (λ (hs : List HeaderRecord). option_map state_of (find_header n hs)) X.taken.after ∙ (ap (option_map state_of) (find-changed n n record_out (headers_of es) K.it K.is refl) ∙ elim (eqb_tells n n) [
          | inl x ↦ rw x.0 (ap (λ (s : HeaderState). Some (state_out s)) K.state)
          | inr x ↦ absurd (x.1 refl)
        ])

    out_at_own : option_map state_of (find_header X.header.held.number (headers_of X.vs)) ≡ Some (state_out before)
    out_at_own = subst (λ (m : ℕ). option_map state_of (find_header m (headers_of X.vs)) ≡ Some (state_out before)) (sym X.taken.numbered) out_at

    module _ (to : PortKey) (M : AreDoneFor port to (stocked (old key ps es blocks next places L))) where
      out_for : IsMadeFor to X.header (stocked (view key qs (headers_of X.vs) next))
      out_for = sym (ap (λ (o : Option HeaderState). holds_at o (is_for to)) (sym out_at_own ∙ header_shown (view key qs (headers_of X.vs) next) X.header.held.number)) ∙ made_for to M

      pub pass_todo_room : length (port_at to qs).todo.items < (port_at to qs).todo.capacity
      pass_todo_room = put_todo_room key qs X.vs blocks next places X.turns.lawful X.header to (state_out before) X.outside out_for out_at_own

      pub pass_done_room : length (port_at to qs).done.items < (port_at to qs).done.capacity
      pass_done_room = put_done_room key qs X.vs blocks next places X.turns.lawful X.header to (state_out before) X.outside out_for out_at_own

      pub pass_counted : (spot : Spot) (rs : List Port) → Replaces to (with_number spot n (port_at to qs)) qs rs → (k : PortKey) → HasCounted (Some before) (port_at k rs)
      pass_counted spot rs W k =
          let H = counted_behind to spot n (Some (state_out before)) qs rs (count_all key qs X.vs blocks next places X.turns.lawful n (state_out before) out_at) W k in
          record { made = H.made; outstanding = H.outstanding; foreign = H.foreign; few_made = H.few_made; few_outstanding = H.few_outstanding; few_foreign = H.few_foreign }

      pub pass_owned : IsMadeForOwner (record before { owner = owners.Port to })
      pass_owned = (known_put to TodoBack before (made_for to M)).2

      put_back : (spot : Spot) → changed n (put_record to spot (load_in X.header.held)) (headers_of X.vs) ≡ changed n (put_at to spot) (headers_of es)
      put_back spot =
          let K = known n (headers_of es) before b in
          let there = is_there (λ r. (r.load ≡ load_in X.header.held) × IsHeaderOf r.state X.header) (find_header n (headers_of es)) K.it K.is X.taken.was in
          let as_it_was : put_record to spot (load_in X.header.held) (record_out K.it) ≡ put_at to spot K.it = ap (λ l. record { state = state_at to spot K.it.state; load = l }) (sym there.0) in
          ap (changed n (put_record to spot (load_in X.header.held))) X.taken.after
          ∙ (changed-changed n record_out (put_record to spot (load_in X.header.held)) (headers_of es) (λ _. refl)
          ∙ changed-as n (λ r. put_record to spot (load_in X.header.held) (record_out r)) (put_at to spot) (headers_of es) K.it K.is as_it_was)

      pub pass_turns : (rs ts : List Port) (vs : List Entry) (room : ℕ) (spot : Spot) → headers_of vs ≡ changed n (put_at to spot) (headers_of es) → Each IsKept vs → AreOf key vs → Replaces to (with_number spot n (port_at to qs)) qs rs
          → Recounts (Some before) (Some (record before { owner = owners.Port to })) rs ts → room ≡ places
          → Turns key ts vs blocks next room (passed_value to spot)
      pass_turns rs ts vs room spot h E K W C r =
          let own : headers_of vs ≡ changed X.header.held.number (put_record to spot (load_in X.header.held)) (headers_of X.vs)
          = subst (λ (m : ℕ). headers_of vs ≡ changed m (put_record to spot (load_in X.header.held)) (headers_of X.vs)) (sym X.taken.numbered) (h ∙ sym (put_back spot)) in
          let at_own : Replaces to (with_number spot X.header.held.number (port_at to qs)) qs rs = subst (λ (m : ℕ). Replaces to (with_number spot m (port_at to qs)) qs rs) (sym X.taken.numbered) W in
          push_turns key qs X.vs blocks next places X.turns.lawful rs ts vs room to spot X.header (state_out before) (state_at to spot (state_out before)) X.outside out_for out_at_own refl own E K at_own
          (requeued_before before (Some (state_at to spot before)) Out rs ts (requeued_after (Some before) (record before { owner = owners.Port to }) (spot_queue spot) rs ts C)) r

-- ---- where done is empty

module _ (key : ℕ) (ps : List Port) (es : List Entry) (blocks next places : ℕ) (L : IsLawful key ps es blocks next places) (port : PortKey) (none : None ≡ slice_get (port_at port ps).done.items 0) where
  nothing_done : (stocked (old key ps es blocks next places L)).headers.done port ≡ []
  nothing_done = sym (done_is key ps es blocks next places L port) ∙ front_none (port_at port ps).done.items (sym none)

  pub none_done : false ≡ not (is_empty ((stocked (old key ps es blocks next places L)).headers.done port))
  none_done = sym (ap (λ (ns : List ℕ). not (is_empty ns)) nothing_done)

  pub none_passed : (to : PortKey) (spot : Spot) (qs : List Port) → Replaces port (without_done (port_at port ps)) ps qs
      → IsPassed port to spot ((stocked (old key ps es blocks next places L)).headers.done port) (stocked (old key ps es blocks next places L)) (stocked (view key qs (headers_of es) next))
  none_passed to spot qs R =
      let s : Stocked = stocked (old key ps es blocks next places L) in
      let t : Stocked = stocked (view key qs (headers_of es) next) in
      let same : t ≡ s = (send_none_turns key ps es blocks next places L qs port none R).is ∙ ap (λ (ns : List ℕ). done_front_pulled port ns s) nothing_done in
      subst (λ (ns : List ℕ). IsPassed port to spot ns s t) (sym nothing_done) same
