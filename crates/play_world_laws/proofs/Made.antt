-- A header that is made or unmade is a change of the link.
use Rattle.std.proofs.Common.{◌≡◌, ◌≢◌, ℕ, ◌+◌, Bool, true, false, List, [], ◌∷◌, ◌++◌, length, map, Option, None, option_map, refl, sym, ◌∙◌, ap, append-nil, length-append, arith}
use Rattle.il_machine.specs.declared.port.PortKey.{PortKey}
use Rattle.il_machine.specs.World.{HeaderRecord}
use Rattle.il_machine.specs.Headers.{Seen, seen, load_at, load_of, find_header, numbers, without, is_state, in_todo, in_done, same_key, Once}
use Rattle.il_machine.specs.Stock.{number_where, todo_pulled, done_pulled, header_unmade}
use Rattle.machine_laws.proofs.Finding.{push_else, without_else, without_same}
use Rattle.stock_laws.proofs.Flat.{numbers-append}
use Rattle.stock_laws.proofs.Keys.{same_key-sym, same_key-refl}
use Rattle.stock_laws.proofs.Composed.{pull_unmade, send_unmade}
use Rattle.play_world_laws.specs.View.{LinkEnds, filled, link_view, is_in}
use Rattle.play_world_laws.proofs.Same.{in_none, stock_of, stands_of, in_append, filled_off, link_same}

-- ---- one more

module _ (x : LinkEnds) (hs : List HeaderRecord) (r : HeaderRecord) (new : find_header r.state.number hs ≡ None) (d : is_in r.state.number x.draining ≡ false) where
  abbrev more : List HeaderRecord
  more = hs ++ r ∷ []

  carried : (m : ℕ) → m ≢ r.state.number → load_at m more ≡ load_at m hs
  carried m e = ap (λ (o : Option HeaderRecord). option_map load_of o) (push_else m hs r (λ q. e (sym q)))

  same_old : (q : HeaderRecord → Bool) → map (filled x.unit more) (numbers q hs) ≡ map (filled x.unit hs) (numbers q hs)
  same_old q = filled_off x.unit hs more r.state.number (numbers q hs) (in_none q r.state.number hs new) carried

  same_held : (q : HeaderRecord → Bool) → map (filled x.unit more) (x.draining ++ numbers q hs) ≡ map (filled x.unit hs) (x.draining ++ numbers q hs)
  same_held q = filled_off x.unit hs more r.state.number (x.draining ++ numbers q hs) (in_append r.state.number x.draining (numbers q hs) d (in_none q r.state.number hs new)) carried

  unlisted : (q : HeaderRecord → Bool) → q r ≡ false → numbers q more ≡ numbers q hs
  unlisted q e = numbers-append q hs r ∙ (ap (λ (b : Bool). numbers q hs ++ number_where b r.state.number) e ∙ append-nil (numbers q hs))

  one_longer : (q : HeaderRecord → Bool) → q r ≡ true → length (numbers q more) ≡ length (numbers q hs) + 1
  one_longer q e = ap length (numbers-append q hs r ∙ ap (λ (b : Bool). numbers q hs ++ number_where b r.state.number) e) ∙ length-append (numbers q hs) (r.state.number ∷ [])

  sent_same : in_done x.output r.state ≡ false → map (filled x.unit more) ((seen more).done x.output) ≡ map (filled x.unit hs) ((seen hs).done x.output)
  sent_same b = ap (map (filled x.unit more)) (unlisted (is_state (in_done x.output)) b) ∙ same_old (is_state (in_done x.output))

  held_same : in_todo x.input r.state ≡ false → map (filled x.unit more) (x.draining ++ (seen more).todo x.input) ≡ map (filled x.unit hs) (x.draining ++ (seen hs).todo x.input)
  held_same c = ap (λ (l : List ℕ). map (filled x.unit more) (x.draining ++ l)) (unlisted (is_state (in_todo x.input)) c) ∙ same_held (is_state (in_todo x.input))

  -- the output supplies: it is made in todo of the output
  pub made_ready : in_todo x.output r.state ≡ true → in_done x.output r.state ≡ false → in_todo x.input r.state ≡ false → in_done x.input r.state ≡ false →
      link_view x more ≡ record (link_view x hs) { ready = (link_view x hs).ready + 1 }
  made_ready a b c e =
      let ready = one_longer (is_state (in_todo x.output)) a in
      link_same (link_view x more) (record (link_view x hs) { ready = (link_view x hs).ready + 1 })
      (omega arith) (sent_same b) (held_same c) (ap length (unlisted (is_state (in_done x.input)) e)) refl refl

  -- the input supplies: it is made in done of the input
  pub made_spent : in_todo x.output r.state ≡ false → in_done x.output r.state ≡ false → in_todo x.input r.state ≡ false → in_done x.input r.state ≡ true →
      link_view x more ≡ record (link_view x hs) { spent = (link_view x hs).spent + 1 }
  made_spent a b c e =
      link_same (link_view x more) (record (link_view x hs) { spent = (link_view x hs).spent + 1 })
      (ap (λ (l : List ℕ). length x.filling + length l) (unlisted (is_state (in_todo x.output)) a))
      (sent_same b) (held_same c) (one_longer (is_state (in_done x.input)) e) refl refl

  -- it is made for other ports
  pub made_beside : in_todo x.output r.state ≡ false → in_done x.output r.state ≡ false → in_todo x.input r.state ≡ false → in_done x.input r.state ≡ false → link_view x more ≡ link_view x hs
  made_beside a b c e =
      link_same (link_view x more) (link_view x hs)
      (ap (λ (l : List ℕ). length x.filling + length l) (unlisted (is_state (in_todo x.output)) a))
      (sent_same b) (held_same c) (ap length (unlisted (is_state (in_done x.input)) e)) refl refl

-- ---- one less

module _ (x : LinkEnds) (hs : List HeaderRecord) (n : ℕ) (o : Once hs) (d : is_in n x.draining ≡ false) where
  abbrev less : List HeaderRecord
  less = without n hs

  left : (m : ℕ) → m ≢ n → load_at m less ≡ load_at m hs
  left m e = ap (λ (q : Option HeaderRecord). option_map load_of q) (without_else n m hs e)

  same_left : (q : HeaderRecord → Bool) → map (filled x.unit less) (numbers q less) ≡ map (filled x.unit hs) (numbers q less)
  same_left q = filled_off x.unit hs less n (numbers q less) (in_none q n less (without_same n hs o)) left

  held_left : (q : HeaderRecord → Bool) → map (filled x.unit less) (x.draining ++ numbers q less) ≡ map (filled x.unit hs) (x.draining ++ numbers q less)
  held_left q = filled_off x.unit hs less n (x.draining ++ numbers q less) (in_append n x.draining (numbers q less) d (in_none q n less (without_same n hs o))) left

  -- a view by its lists
  by_lists : (ready spent : ℕ) (done_pulled held : List ℕ) → length ((seen less).todo x.output) ≡ ready → (seen less).done x.output ≡ done_pulled → (seen less).todo x.input ≡ held → length ((seen less).done x.input) ≡ spent
      → link_view x less ≡ record (link_view x hs) { ready = length x.filling + ready; sent = map (filled x.unit hs) done_pulled; held = map (filled x.unit hs) (x.draining ++ held); spent = spent }
  by_lists ready spent sent_ held a b c e =
      link_same (link_view x less) (record (link_view x hs) { ready = length x.filling + ready; sent = map (filled x.unit hs) sent_; held = map (filled x.unit hs) (x.draining ++ held); spent = spent })
      (ap (λ (k : ℕ). length x.filling + k) a)
      (same_left (is_state (in_done x.output)) ∙ ap (map (filled x.unit hs)) b)
      (held_left (is_state (in_todo x.input)) ∙ ap (λ (l : List ℕ). map (filled x.unit hs) (x.draining ++ l)) c)
      e refl refl

  pulled_from : (key : PortKey) (ns : List ℕ) → (seen hs).todo key ≡ n ∷ ns → seen less ≡ (header_unmade n (todo_pulled key (stock_of hs))).headers
  pulled_from key ns e = (pull_unmade (stock_of hs) hs key n ns (stands_of hs o) e).looks

  sent_from : (key : PortKey) (ns : List ℕ) → (seen hs).done key ≡ n ∷ ns → seen less ≡ (header_unmade n (done_pulled key (stock_of hs))).headers
  sent_from key ns e = (send_unmade (stock_of hs) hs key n ns (stands_of hs o) e).looks

  module _ (a : same_key x.input x.output ≡ false) (ns : List ℕ) where
    -- the output supplies: the front of its todo is unmade, or of its done
    pub unmade_ready : (seen hs).todo x.output ≡ n ∷ ns → link_view x less ≡ record (link_view x hs) { ready = length x.filling + length ns }
    unmade_ready e =
        let L = pulled_from x.output ns e in
        by_lists (length ns) (length ((seen hs).done x.input)) ((seen hs).done x.output) ((seen hs).todo x.input)
        (ap length (ap (λ (s : Seen). s.todo x.output) L ∙ rw (e, same_key-refl x.output) refl))
        (ap (λ (s : Seen). s.done x.output) L ∙ rw e refl)
        (ap (λ (s : Seen). s.todo x.input) L ∙ rw (e, a) refl)
        (ap length (ap (λ (s : Seen). s.done x.input) L ∙ rw e refl))

    pub unmade_sent : (seen hs).done x.output ≡ n ∷ ns → link_view x less ≡ record (link_view x hs) { sent = map (filled x.unit hs) ns }
    unmade_sent e =
        let L = sent_from x.output ns e in
        by_lists (length ((seen hs).todo x.output)) (length ((seen hs).done x.input)) ns ((seen hs).todo x.input)
        (ap length (ap (λ (s : Seen). s.todo x.output) L ∙ rw e refl))
        (ap (λ (s : Seen). s.done x.output) L ∙ rw (e, same_key-refl x.output) refl)
        (ap (λ (s : Seen). s.todo x.input) L ∙ rw e refl)
        (ap length (ap (λ (s : Seen). s.done x.input) L ∙ rw (e, a) refl))

    -- the input supplies: the front of its todo is unmade, or of its done
    pub unmade_held : (seen hs).todo x.input ≡ n ∷ ns → link_view x less ≡ record (link_view x hs) { held = map (filled x.unit hs) (x.draining ++ ns) }
    unmade_held e =
        let L = pulled_from x.input ns e in
        by_lists (length ((seen hs).todo x.output)) (length ((seen hs).done x.input)) ((seen hs).done x.output) ns
        (ap length (ap (λ (s : Seen). s.todo x.output) L ∙ rw (e, same_key-sym x.output x.input, a) refl))
        (ap (λ (s : Seen). s.done x.output) L ∙ rw e refl)
        (ap (λ (s : Seen). s.todo x.input) L ∙ rw (e, same_key-refl x.input) refl)
        (ap length (ap (λ (s : Seen). s.done x.input) L ∙ rw e refl))

    pub unmade_spent : (seen hs).done x.input ≡ n ∷ ns → link_view x less ≡ record (link_view x hs) { spent = length ns }
    unmade_spent e =
        let L = sent_from x.input ns e in
        by_lists (length ((seen hs).todo x.output)) (length ns) ((seen hs).done x.output) ((seen hs).todo x.input)
        (ap length (ap (λ (s : Seen). s.todo x.output) L ∙ rw e refl))
        (ap (λ (s : Seen). s.done x.output) L ∙ rw (e, same_key-sym x.output x.input, a) refl)
        (ap (λ (s : Seen). s.todo x.input) L ∙ rw e refl)
        (ap length (ap (λ (s : Seen). s.done x.input) L ∙ rw (e, same_key-refl x.input) refl))

  -- it was in a list of a port that is no end of this link
  module _ (key : PortKey) (ns : List ℕ) (p : same_key x.output key ≡ false) (q : same_key x.input key ≡ false) where
    beside_by : (seen less).todo x.output ≡ (seen hs).todo x.output → (seen less).done x.output ≡ (seen hs).done x.output → (seen less).todo x.input ≡ (seen hs).todo x.input
        → (seen less).done x.input ≡ (seen hs).done x.input → link_view x less ≡ link_view x hs
    beside_by a b c e = by_lists (length ((seen hs).todo x.output)) (length ((seen hs).done x.input)) ((seen hs).done x.output) ((seen hs).todo x.input) (ap length a) b c (ap length e)

    pub todo_beside : (seen hs).todo key ≡ n ∷ ns → link_view x less ≡ link_view x hs
    todo_beside e =
        let L = pulled_from key ns e in
        beside_by (ap (λ (s : Seen). s.todo x.output) L ∙ rw (e, p) refl) (ap (λ (s : Seen). s.done x.output) L ∙ rw e refl)
        (ap (λ (s : Seen). s.todo x.input) L ∙ rw (e, q) refl) (ap (λ (s : Seen). s.done x.input) L ∙ rw e refl)

    pub done_beside : (seen hs).done key ≡ n ∷ ns → link_view x less ≡ link_view x hs
    done_beside e =
        let L = sent_from key ns e in
        beside_by (ap (λ (s : Seen). s.todo x.output) L ∙ rw e refl) (ap (λ (s : Seen). s.done x.output) L ∙ rw (e, p) refl)
        (ap (λ (s : Seen). s.todo x.input) L ∙ rw e refl) (ap (λ (s : Seen). s.done x.input) L ∙ rw (e, q) refl)
