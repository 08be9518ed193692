-- The headers of a world whose handles moved.
use Rattle.std.proofs.Common.{◌≡◌, ℕ, ◌+◌, Bool, ◌&&◌, cond, List, [], ◌∷◌, Option, Some, None, option_map, refl, ◌∙◌, ap}
use Rattle.std.specs.Prelude.{map}
use Rattle.il_machine.specs.declared.header.HeaderState.{HeaderState}
use Rattle.il_machine.specs.declared.header.Spot.{Spot}
use Rattle.il_machine.specs.declared.header.Spot.TheVariants.{TodoBack, TodoFront, DoneBack}
use Rattle.il_machine.specs.declared.port.PortKey.{PortKey}
use Rattle.il_machine.specs.World.{HeaderRecord}
use Rattle.il_machine.specs.Headers.{seen, at_spot, changed, cleared, cleared_all, count_headers, find_header, has_number, in_done, in_todo, in_unmarked, input_reset, is_state, numbers, output_reset, put, put_all, put_at, put_found, reset, state_of, weight, without}
use Rattle.machine_laws.proofs.Finding.{either}
use Rattle.slot_laws.specs.Seating.{Seating, moved_header, moved_mark}
use Rattle.slot_laws.proofs.Lists.{map_append, none_moved}

module _ (f : Seating) where
  pub find_moved : (number : ℕ) (hs : List HeaderRecord) → find_header number (map (moved_header f) hs) ≡ option_map (moved_header f) (find_header number hs)
  find_moved number [] = refl
  find_moved number (r ∷ rs) = either (has_number number r) (λ t. rw t refl) (λ e. rw e (find_moved number rs))

  numbers_moved : (p q : HeaderRecord → Bool) (hs : List HeaderRecord) → ((r : HeaderRecord) → p (moved_header f r) ≡ q r) → numbers p (map (moved_header f) hs) ≡ numbers q hs
  numbers_moved p q [] same = refl
  numbers_moved p q (r ∷ rs) same =
      let a = same r in
      let b = numbers_moved p q rs same in
      λ j. cond (a j) (r.state.number ∷ b j) (b j)

  count_moved : (test : HeaderState → Bool) (hs : List HeaderRecord) → count_headers test (map (moved_header f) hs) ≡ count_headers test hs
  count_moved test [] = refl
  count_moved test (r ∷ rs) = ap (λ (n : ℕ). weight (test r.state) + n) (count_moved test rs)

  state_moved : (o : Option HeaderRecord) → option_map state_of (option_map (moved_header f) o) ≡ option_map state_of o
  state_moved None = refl
  state_moved (Some r) = refl

  pub unmarked_moved : (key : PortKey) (r : HeaderRecord) → in_unmarked key (moved_header f r) ≡ in_unmarked key r
  unmarked_moved key r = ap (λ (b : Bool). in_todo key r.state && b) (none_moved (moved_mark f) r.load.mark)

  -- what calls see of the headers is the same
  pub seen_moved : (hs : List HeaderRecord) → seen (map (moved_header f) hs) ≡ seen hs
  seen_moved hs = λ j. record {
    todo = λ key. numbers_moved (is_state (in_todo key)) (is_state (in_todo key)) hs (λ r. refl) j;
    done = λ key. numbers_moved (is_state (in_done key)) (is_state (in_done key)) hs (λ r. refl) j;
    unmarked = λ key. numbers_moved (in_unmarked key) (in_unmarked key) hs (unmarked_moved key) j;
    header = λ number. (ap (option_map state_of) (find_moved number hs) ∙ state_moved (find_header number hs)) j;
    count = λ test. count_moved test hs j;
  }

  -- ---- how the list changes

  pub changed_moved : (number : ℕ) (g h : HeaderRecord → HeaderRecord) (hs : List HeaderRecord) → ((r : HeaderRecord) → g (moved_header f r) ≡ moved_header f (h r))
      → changed number g (map (moved_header f) hs) ≡ map (moved_header f) (changed number h hs)
  changed_moved number g h [] same = refl
  changed_moved number g h (r ∷ rs) same =
      let a = same r in
      let b = changed_moved number g h rs same in
      (λ j. cond (has_number number r) (a j ∷ map (moved_header f) rs) (moved_header f r ∷ b j)) ∙ either (has_number number r) (λ t. rw t refl) (λ e. rw e refl)

  pub without_moved : (number : ℕ) (hs : List HeaderRecord) → without number (map (moved_header f) hs) ≡ map (moved_header f) (without number hs)
  without_moved number [] = refl
  without_moved number (r ∷ rs) =
      let b = without_moved number rs in
      (λ j. cond (has_number number r) (map (moved_header f) rs) (moved_header f r ∷ b j)) ∙ either (has_number number r) (λ t. rw t refl) (λ e. rw e refl)

  spot_moved : (spot : Spot) (r : HeaderRecord) (hs : List HeaderRecord) → at_spot spot (moved_header f r) (map (moved_header f) hs) ≡ map (moved_header f) (at_spot spot r hs)
  spot_moved TodoFront r hs = refl
  spot_moved TodoBack r hs = map_append (moved_header f) hs (r ∷ [])
  spot_moved DoneBack r hs = map_append (moved_header f) hs (r ∷ [])

  found_moved : (key : PortKey) (spot : Spot) (number : ℕ) (g h : HeaderRecord → HeaderRecord) (o : Option HeaderRecord) (hs : List HeaderRecord)
      → ((r : HeaderRecord) → g (moved_header f r) ≡ moved_header f (h r))
      → put_found key spot number g (option_map (moved_header f) o) (map (moved_header f) hs) ≡ map (moved_header f) (put_found key spot number h o hs)
  found_moved key spot number g h None hs same = refl
  found_moved key spot number g h (Some r) hs same =
      let a = same r in
      let b = without_moved number hs in
      (λ j. at_spot spot (put_at key spot (a j)) (b j)) ∙ spot_moved spot (put_at key spot (h r)) (without number hs)

  pub put_moved : (key : PortKey) (spot : Spot) (number : ℕ) (g h : HeaderRecord → HeaderRecord) (hs : List HeaderRecord)
      → ((r : HeaderRecord) → g (moved_header f r) ≡ moved_header f (h r))
      → put key spot number g (map (moved_header f) hs) ≡ map (moved_header f) (put key spot number h hs)
  put_moved key spot number g h hs same =
      ap (λ (o : Option HeaderRecord). put_found key spot number g o (map (moved_header f) hs)) (find_moved number hs)
      ∙ found_moved key spot number g h (find_header number hs) hs same

  put_all_moved : (key : PortKey) (spot : Spot) (ns : List ℕ) (hs : List HeaderRecord) → put_all key spot ns (map (moved_header f) hs) ≡ map (moved_header f) (put_all key spot ns hs)
  put_all_moved key spot [] hs = refl
  put_all_moved key spot (n ∷ ns) hs =
      ap (put_all key spot ns) (put_moved key spot n cleared cleared hs (λ r. refl)) ∙ put_all_moved key spot ns (put key spot n cleared hs)

  cleared_all_moved : (ns : List ℕ) (hs : List HeaderRecord) → cleared_all ns (map (moved_header f) hs) ≡ map (moved_header f) (cleared_all ns hs)
  cleared_all_moved [] hs = refl
  cleared_all_moved (n ∷ ns) hs =
      ap (cleared_all ns) (changed_moved n cleared cleared hs (λ r. refl)) ∙ cleared_all_moved ns (changed n cleared hs)

  pub reset_moved : (is_input : Bool) (key : PortKey) (hs : List HeaderRecord) → reset is_input key (map (moved_header f) hs) ≡ map (moved_header f) (reset is_input key hs)
  reset_moved is_input key hs = either is_input (λ t. rw t inputs) (λ e. rw e outputs)
    where
      inputs : input_reset key (map (moved_header f) hs) ≡ map (moved_header f) (input_reset key hs)
      inputs =
          (λ j. put_all key DoneBack ((seen_moved hs j).todo key) (cleared_all ((seen_moved hs j).done key) (map (moved_header f) hs)))
          ∙ (ap (put_all key DoneBack ((seen hs).todo key)) (cleared_all_moved ((seen hs).done key) hs)
          ∙ put_all_moved key DoneBack ((seen hs).todo key) (cleared_all ((seen hs).done key) hs))

      outputs : output_reset key (map (moved_header f) hs) ≡ map (moved_header f) (output_reset key hs)
      outputs =
          (λ j. put_all key TodoBack ((seen_moved hs j).done key) (cleared_all ((seen_moved hs j).todo key) (map (moved_header f) hs)))
          ∙ (ap (put_all key TodoBack ((seen hs).done key)) (cleared_all_moved ((seen hs).todo key) hs)
          ∙ put_all_moved key TodoBack ((seen hs).done key) (cleared_all ((seen hs).todo key) hs))
