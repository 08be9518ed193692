-- The headers of a list are cleared where they stand, and the first header without a mark gets one.
use Rattle.std.proofs.Common.{◌≡◌, ℕ, Bool, true, false, ◌||◌, nat_eq, List, [], ◌∷◌, map, Option, Some, None, option_map, is_none, if◌then◌else◌, refl, sym, ◌∙◌, ap, arith, inl, inr, subst}
use Rattle.std.proofs.lemmas.Bool.Decides.{nat_tests, eqb_tells}
use Rattle.il_machine.specs.declared.port.PortKey.{PortKey}
use Rattle.il_machine.specs.declared.port.Mark.{Mark}
use Rattle.il_machine.specs.declared.header.HeaderState.{HeaderState}
use Rattle.il_machine.specs.World.{HeaderRecord, Load}
use Rattle.il_machine.specs.Headers.{Seen, seen, numbers, find_header, load_at, load_of, changed, cleared, cleared_all, empty_load, unloaded, has_number, Once, count_headers, state_of, is_state, in_todo, in_done, in_unmarked, same_key}
use Rattle.il_machine.specs.Due.{marked, first_marked}
use Rattle.il_machine.specs.Stock.{Stocked, StandsFor, at_key, at_number}
use Rattle.il_machine.proofs.Looking.{same_seen}
use Rattle.stock_laws.specs.Changes.{cleared_where, emptied, todo_cleared, done_cleared, load_marked, front_marked, marked_first}
use Rattle.stock_laws.proofs.Flat.{find_number, numbers-changed, find-changed, once-changed, count-changed}
use Rattle.stock_laws.proofs.Seeing.{carried_at}
use Rattle.stock_laws.proofs.Counts.{Each, each_found}
use Rattle.stock_laws.proofs.Leaving.{fronts, numbers-changed_front, and_both, and_false_right, other_todo, done_not_todo, told_by_key}

-- ---- each header by itself

-- cleared where its number is one of these
abbrev cleared_in : List ℕ → HeaderRecord → HeaderRecord
cleared_in [] r = r
cleared_in (n ∷ ns) r = cleared_in ns (cleared_where (has_number n r) r)

abbrev pub is_in : ℕ → List ℕ → Bool
is_in m [] = false
is_in m (n ∷ ns) = nat_eq m n || is_in m ns

map_none : (n : ℕ) (hs : List HeaderRecord) → find_header n hs ≡ None → map (λ r. cleared_where (has_number n r) r) hs ≡ hs
map_none n [] h = refl
map_none n (x ∷ hs) h = grind (arith, nat_tests, map_none n hs)

one_cleared : (n : ℕ) (hs : List HeaderRecord) → Once hs → changed n cleared hs ≡ map (λ r. cleared_where (has_number n r) r) hs
one_cleared n [] o = refl
one_cleared n (x ∷ hs) o = let gone = o.0 in grind (arith, nat_tests, one_cleared n hs o.1, map_none n hs)

map_map : (f g : HeaderRecord → HeaderRecord) (hs : List HeaderRecord) → map f (map g hs) ≡ map (λ r. f (g r)) hs
map_map f g [] = refl
map_map f g (x ∷ hs) = ap (λ (v : List HeaderRecord). f (g x) ∷ v) (map_map f g hs)

map_same : (hs : List HeaderRecord) → map (λ r. r) hs ≡ hs
map_same [] = refl
map_same (x ∷ hs) = ap (λ (v : List HeaderRecord). x ∷ v) (map_same hs)

all_cleared : (ns : List ℕ) (hs : List HeaderRecord) → Once hs → cleared_all ns hs ≡ map (cleared_in ns) hs
all_cleared [] hs o = sym (map_same hs)
all_cleared (n ∷ ns) hs o =
    all_cleared ns (changed n cleared hs) (once-changed n cleared hs (λ _. refl) o)
    ∙ (ap (map (cleared_in ns)) (one_cleared n hs o) ∙ map_map (cleared_in ns) (λ r. cleared_where (has_number n r) r) hs)

where_state : (b : Bool) (r : HeaderRecord) → (cleared_where b r).state ≡ r.state
where_state true r = refl
where_state false r = refl

in_state : (ns : List ℕ) (r : HeaderRecord) → (cleared_in ns r).state ≡ r.state
in_state [] r = refl
in_state (n ∷ ns) r = in_state ns (cleared_where (has_number n r) r) ∙ where_state (has_number n r) r

cleared_stays : (ns : List ℕ) (r : HeaderRecord) (memory : Option (List ℕ)) → r.load ≡ empty_load memory → (cleared_in ns r).load ≡ empty_load memory
cleared_stays [] r memory e = e
cleared_stays (n ∷ ns) r memory e = cleared_stays ns (cleared_where (has_number n r) r) memory
    (elim (has_number n r) as (λ v. (cleared_where v r).load ≡ empty_load memory) [ true ↦ ap unloaded e | false ↦ e ])

in_load : (ns : List ℕ) (r : HeaderRecord) → is_in r.state.number ns ≡ true → (cleared_in ns r).load ≡ unloaded r.load
in_load [] r h = absurd cc
in_load (n ∷ ns) r h = elim (nat_eq r.state.number n) as (λ v. (v || is_in r.state.number ns) ≡ true → (cleared_in ns (cleared_where v r)).load ≡ unloaded r.load)
    [ true ↦ λ e. cleared_stays ns (cleared r) r.load.memory refl | false ↦ λ e. in_load ns r e ] h

out_same : (ns : List ℕ) (r : HeaderRecord) → is_in r.state.number ns ≡ false → cleared_in ns r ≡ r
out_same [] r h = refl
out_same (n ∷ ns) r h = elim (nat_eq r.state.number n) as (λ v. (v || is_in r.state.number ns) ≡ false → cleared_in ns (cleared_where v r) ≡ r)
    [ true ↦ λ e. absurd cc | false ↦ λ e. out_same ns r e ] h

-- ---- which headers have their numbers in a list

pub is_in_none : (q : HeaderRecord → Bool) (m : ℕ) (hs : List HeaderRecord) → find_header m hs ≡ None → is_in m (numbers q hs) ≡ false
is_in_none q m [] h = refl
is_in_none q m (x ∷ hs) h = grind (arith, nat_tests, is_in_none q m hs)

tells_cons : (q : HeaderRecord → Bool) (x r : HeaderRecord) (ns : List ℕ) → nat_eq r.state.number x.state.number ≡ false → is_in r.state.number (if q x then x.state.number ∷ ns else ns) ≡ is_in r.state.number ns
tells_cons q x r ns h = elim (q x) as (λ v. is_in r.state.number (if v then x.state.number ∷ ns else ns) ≡ is_in r.state.number ns) [ true ↦ rw h refl | false ↦ refl ]

find_differs : (n : ℕ) (x r : HeaderRecord) (hs : List HeaderRecord) → find_header x.state.number hs ≡ None → find_header n hs ≡ Some r → nat_eq r.state.number x.state.number ≡ false
find_differs n x r hs gone e =
    let num : r.state.number ≡ n = find_number n hs r e in
    let same : r.state.number ≡ x.state.number → find_header x.state.number hs ≡ find_header n hs = λ h. ap (λ k. find_header k hs) (sym h ∙ num) in
    grind (arith, nat_tests, same)

head_passes : (q : HeaderRecord → Bool) (x : HeaderRecord) (hs : List HeaderRecord) → find_header x.state.number hs ≡ None → is_in x.state.number (if q x then x.state.number ∷ numbers q hs else numbers q hs) ≡ q x
head_passes q x hs gone = elim (q x) as (λ v. is_in x.state.number (if v then x.state.number ∷ numbers q hs else numbers q hs) ≡ v)
    [ true ↦ grind (arith, nat_tests) | false ↦ is_in_none q x.state.number hs gone ]

-- a header's number is in the list exactly where it passes the test
pub is_in_passes : (q : HeaderRecord → Bool) (n : ℕ) (hs : List HeaderRecord) (r : HeaderRecord) → Once hs → find_header n hs ≡ Some r → is_in r.state.number (numbers q hs) ≡ q r
is_in_passes q n [] r o e = absurd cc
is_in_passes q n (x ∷ hs) r o e = elim (has_number n x) as (λ v. (if v then Some x else find_header n hs) ≡ Some r → is_in r.state.number (if q x then x.state.number ∷ numbers q hs else numbers q hs) ≡ q r) [
  | true ↦ λ f. let same : x ≡ r = cc in rw (← same) (head_passes q x hs o.0)
  | false ↦ λ f. tells_cons q x r (numbers q hs) (find_differs n x r hs o.0 f) ∙ is_in_passes q n hs r o.1 f
] e

found_in : (q : HeaderRecord → Bool) (m : ℕ) (hs : List HeaderRecord) (o : Option HeaderRecord) → find_header m hs ≡ o → is_in m (numbers q hs) ≡ true → (r : HeaderRecord) × (find_header m hs ≡ Some r)
found_in q m hs None e h = let none = is_in_none q m hs e in absurd cc
found_in q m hs (Some r) e h = (r, e)

-- ---- a list whose headers are changed where they stand, each by itself, in what they carry

module _ (f : HeaderRecord → HeaderRecord) (same : (r : HeaderRecord) → (f r).state ≡ r.state) where
  pub numbers-map : (p q : HeaderRecord → Bool) (hs : List HeaderRecord) → Each (λ r. p (f r) ≡ q r) hs → numbers p (map f hs) ≡ numbers q hs
  numbers-map p q [] h = refl
  numbers-map p q (x ∷ hs) h =
      let num : (f x).state.number ≡ x.state.number = ap (λ (y : HeaderState). y.number) (same x) in
      rw (h.0, num, numbers-map p q hs h.1) refl

  pub find-map : (n : ℕ) (hs : List HeaderRecord) → find_header n (map f hs) ≡ option_map f (find_header n hs)
  find-map n [] = refl
  find-map n (x ∷ hs) =
      let num : (f x).state.number ≡ x.state.number = ap (λ (y : HeaderState). y.number) (same x) in
      ap (λ (k : ℕ). if nat_eq k n then Some (f x) else find_header n (map f hs)) num ∙ rw (find-map n hs) (elim (has_number n x) as (λ v. (if v then Some (f x) else option_map f (find_header n hs)) ≡ option_map f (if v then Some x else find_header n hs)) [ true ↦ refl | false ↦ refl ])

  pub count-map : (q : HeaderState → Bool) (hs : List HeaderRecord) → count_headers q (map f hs) ≡ count_headers q hs
  count-map q [] = refl
  count-map q (x ∷ hs) = rw (same x, count-map q hs) refl

  state-map : (o : Option HeaderRecord) → option_map state_of (option_map f o) ≡ option_map state_of o
  state-map None = refl
  state-map (Some r) = ap (λ (y : HeaderState). Some y) (same r)

-- ---- every header of a list is cleared

abbrev unloaded_where : Bool → Option Load → Option Load
unloaded_where b o = if b then option_map unloaded o else o

unloaded_again : (b : Bool) (o : Option Load) → unloaded_where b (option_map unloaded o) ≡ option_map unloaded o
unloaded_again true None = refl
unloaded_again true (Some load) = refl
unloaded_again false o = refl

pub emptied-is : (ns : List ℕ) (f : ℕ → Option Load) (m : ℕ) → emptied ns f m ≡ (if is_in m ns then option_map unloaded (f m) else f m)
emptied-is [] f m = refl
emptied-is (n ∷ ns) f m = emptied-is ns (at_number n (option_map unloaded (f n)) f) m ∙ elim (eqb_tells m n) [
  | inl x ↦ rw x.0 (unloaded_again (is_in m ns) (f n) ∙ ap (λ k. option_map unloaded (f k)) (sym x.1))
  | inr x ↦ rw x.0 refl
]

in_carries : (q : HeaderRecord → Bool) (hs : List HeaderRecord) (m : ℕ) → is_in m (numbers q hs) ≡ true → load_at m (map (cleared_in (numbers q hs)) hs) ≡ option_map unloaded (load_at m hs)
in_carries q hs m h =
    let ns = numbers q hs in
    let F = found_in q m hs (find_header m hs) refl h in
    let num : F.0.state.number ≡ m = find_number m hs F.0 F.1 in
    let inside : is_in F.0.state.number ns ≡ true = rw num h in
    ap (option_map load_of) (find-map (cleared_in ns) (in_state ns) m hs ∙ ap (option_map (cleared_in ns)) F.1) ∙ ap (λ (z : Load). Some z) (in_load ns F.0 inside)
    ∙ ap (λ (z : Option HeaderRecord). option_map unloaded (option_map load_of z)) (sym F.1)

out_by : (ns : List ℕ) (hs : List HeaderRecord) (m : ℕ) (o : Option HeaderRecord) → find_header m hs ≡ o → is_in m ns ≡ false → option_map (cleared_in ns) o ≡ o
out_by ns hs m None e h = refl
out_by ns hs m (Some r) e h =
    let num : r.state.number ≡ m = find_number m hs r e in
    let outside : is_in r.state.number ns ≡ false = rw num h in
    ap (λ (y : HeaderRecord). Some y) (out_same ns r outside)

out_carries_on : (ns : List ℕ) (hs : List HeaderRecord) (m : ℕ) → is_in m ns ≡ false → load_at m (map (cleared_in ns) hs) ≡ load_at m hs
out_carries_on ns hs m h = ap (option_map load_of) (find-map (cleared_in ns) (in_state ns) m hs ∙ out_by ns hs m (find_header m hs) refl h)

unloaded_carries : (o x : Option Load) → ((l : Load) → o ≡ Some l → x ≡ Some l) → (l : Load) → option_map unloaded o ≡ Some l → option_map unloaded x ≡ Some l
unloaded_carries None x k l h = absurd cc
unloaded_carries (Some load) x k l h = ap (option_map unloaded) (k load refl) ∙ h

cleared_carries : (q : HeaderRecord → Bool) (hs : List HeaderRecord) (f : ℕ → Option Load) → ((k : ℕ) (l : Load) → f k ≡ Some l → load_at k hs ≡ Some l)
    → (m : ℕ) (l : Load) → emptied (numbers q hs) f m ≡ Some l → load_at m (map (cleared_in (numbers q hs)) hs) ≡ Some l
cleared_carries q hs f k m l h =
    let ns = numbers q hs in
    elim (is_in m ns) as (λ v. is_in m ns ≡ v → (if v then option_map unloaded (f m) else f m) ≡ Some l → load_at m (map (cleared_in ns) hs) ≡ Some l)
    [ true ↦ λ e g. in_carries q hs m e ∙ unloaded_carries (f m) (load_at m hs) (k m) l g | false ↦ λ e g. out_carries_on ns hs m e ∙ k m l g ] refl (sym (emptied-is ns f m) ∙ h)

cleared_once : (ns : List ℕ) (hs : List HeaderRecord) → Once hs → Once (cleared_all ns hs)
cleared_once [] hs o = o
cleared_once (n ∷ ns) hs o = cleared_once ns (changed n cleared hs) (once-changed n cleared hs (λ _. refl) o)

map_each : (f g : HeaderRecord → HeaderRecord) (hs : List HeaderRecord) → Each (λ r. f r ≡ g r) hs → map f hs ≡ map g hs
map_each f g [] h = refl
map_each f g (x ∷ hs) h = λ i. h.0 i ∷ map_each f g hs h.1 i

-- the whole list of those that pass a test is cleared by clearing each that passes
pub all_cleared_where : (q : HeaderRecord → Bool) (hs : List HeaderRecord) → Once hs → cleared_all (numbers q hs) hs ≡ map (λ r. cleared_where (q r) r) hs
all_cleared_where q hs once =
    let ns = numbers q hs in
    all_cleared ns hs once ∙ map_each (cleared_in ns) (λ r. cleared_where (q r) r) hs (each_found (λ r. cleared_in ns r ≡ cleared_where (q r) r) hs once (λ n r e.
    elim (q r) as (λ v. q r ≡ v → cleared_in ns r ≡ cleared_where v r) [
      | true ↦ λ t. let l = in_load ns r (is_in_passes q n hs r once e ∙ t) in let s = in_state ns r in λ i. record { state = s i; load = l i }
      | false ↦ λ t. out_same ns r (is_in_passes q n hs r once e ∙ t)
    ] refl))

-- those without a mark stay where none of their list is cleared
stays_unmarked : (q : HeaderRecord → Bool) (k : PortKey) (hs : List HeaderRecord) → Once hs → ((r : HeaderRecord) → q r ≡ true → is_state (in_todo k) r ≡ false)
    → numbers (in_unmarked k) (map (cleared_in (numbers q hs)) hs) ≡ numbers (in_unmarked k) hs
stays_unmarked q k hs once apart =
    let ns = numbers q hs in
    numbers-map (cleared_in ns) (in_state ns) (in_unmarked k) (in_unmarked k) hs (each_found (λ r. in_unmarked k (cleared_in ns r) ≡ in_unmarked k r) hs once (λ n r e.
    elim (q r) as (λ v. q r ≡ v → in_unmarked k (cleared_in ns r) ≡ in_unmarked k r) [
      | true ↦ λ t. let none : in_todo k r.state ≡ false = apart r t in rw (in_state ns r, none) refl
      | false ↦ λ t. ap (in_unmarked k) (out_same ns r (is_in_passes q n hs r once e ∙ t))
    ] refl))

-- where the whole of todo is cleared, none of it has a mark
all_unmarked : (key : PortKey) (hs : List HeaderRecord) → Once hs
    → numbers (in_unmarked key) (map (cleared_in (numbers (is_state (in_todo key)) hs)) hs) ≡ numbers (is_state (in_todo key)) hs
all_unmarked key hs once =
    let q = is_state (in_todo key) in
    let ns = numbers q hs in
    numbers-map (cleared_in ns) (in_state ns) (in_unmarked key) q hs (each_found (λ r. in_unmarked key (cleared_in ns r) ≡ q r) hs once (λ n r e.
    elim (q r) as (λ v. q r ≡ v → in_unmarked key (cleared_in ns r) ≡ v) [
      | true ↦ λ t. let l : (cleared_in ns r).load ≡ unloaded r.load = in_load ns r (is_in_passes q n hs r once e ∙ t) in rw (in_state ns r, l, t) refl
      | false ↦ λ t. rw (in_state ns r, t) refl
    ] refl))

pub todo_cleared_seen : (key : PortKey) (hs : List HeaderRecord) → Once hs
    → seen (map (cleared_in (numbers (is_state (in_todo key)) hs)) hs) ≡ record (seen hs) { unmarked = at_key key ((seen hs).todo key) (seen hs).unmarked }
todo_cleared_seen key hs once =
    let ns = numbers (is_state (in_todo key)) hs in
    same_seen _ _ (record {
      todo = λ k. numbers-map (cleared_in ns) (in_state ns) (is_state (in_todo k)) (is_state (in_todo k)) hs (each_found _ hs once (λ n r e. ap (in_todo k) (in_state ns r)));
      done = λ k. numbers-map (cleared_in ns) (in_state ns) (is_state (in_done k)) (is_state (in_done k)) hs (each_found _ hs once (λ n r e. ap (in_done k) (in_state ns r)));
      unmarked = λ k. told_by_key key k ((seen hs).todo key) _ (seen hs).unmarked
          (λ e. rw e (all_unmarked key hs once))
          (λ d. stays_unmarked (is_state (in_todo key)) k hs once (λ r t. other_todo key k r t d));
      header = λ m. ap (option_map state_of) (find-map (cleared_in ns) (in_state ns) m hs) ∙ state-map (cleared_in ns) (in_state ns) (find_header m hs);
      count = λ q. count-map (cleared_in ns) (in_state ns) q hs;
    })

pub done_cleared_seen : (key : PortKey) (hs : List HeaderRecord) → Once hs → seen (map (cleared_in (numbers (is_state (in_done key)) hs)) hs) ≡ seen hs
done_cleared_seen key hs once =
    let ns = numbers (is_state (in_done key)) hs in
    same_seen _ _ (record {
      todo = λ k. numbers-map (cleared_in ns) (in_state ns) (is_state (in_todo k)) (is_state (in_todo k)) hs (each_found _ hs once (λ n r e. ap (in_todo k) (in_state ns r)));
      done = λ k. numbers-map (cleared_in ns) (in_state ns) (is_state (in_done k)) (is_state (in_done k)) hs (each_found _ hs once (λ n r e. ap (in_done k) (in_state ns r)));
      unmarked = λ k. stays_unmarked (is_state (in_done key)) k hs once (λ r t. done_not_todo key k r t);
      header = λ m. ap (option_map state_of) (find-map (cleared_in ns) (in_state ns) m hs) ∙ state-map (cleared_in ns) (in_state ns) (find_header m hs);
      count = λ q. count-map (cleared_in ns) (in_state ns) q hs;
    })

pub clear_todo_stands : (s : Stocked) (hs : List HeaderRecord) (key : PortKey) → StandsFor s hs → StandsFor (todo_cleared key s) (cleared_all (s.headers.todo key) hs)
clear_todo_stands s hs key S =
    let ns = numbers (is_state (in_todo key)) hs in
    let e : ns ≡ s.headers.todo key = ap (λ (v : Seen). v.todo key) S.looks in
    let m : map (cleared_in ns) hs ≡ cleared_all ns hs = sym (all_cleared ns hs S.once) in
    let L : List HeaderRecord → Type 0 = λ v. seen v ≡ record (seen hs) { unmarked = at_key key ((seen hs).todo key) (seen hs).unmarked } in
    let C : List HeaderRecord → Type 0 = λ v. (m : ℕ) (l : Load) → emptied ns s.loads m ≡ Some l → load_at m v ≡ Some l in
    let T : StandsFor (record s { headers = record s.headers { unmarked = at_key key (s.headers.todo key) s.headers.unmarked }; loads = emptied ns s.loads }) (cleared_all ns hs) = record {
      looks = subst L m (todo_cleared_seen key hs S.once) ∙ ap (λ (v : Seen). record v { unmarked = at_key key (v.todo key) v.unmarked }) S.looks;
      loads = subst C m (cleared_carries (is_state (in_todo key)) hs s.loads S.loads);
      once = cleared_once ns hs S.once;
    } in
    let P : List ℕ → Type 0 = λ v. StandsFor (record s { headers = record s.headers { unmarked = at_key key (s.headers.todo key) s.headers.unmarked }; loads = emptied v s.loads }) (cleared_all v hs) in
    subst P e T

pub clear_done_stands : (s : Stocked) (hs : List HeaderRecord) (key : PortKey) → StandsFor s hs → StandsFor (done_cleared key s) (cleared_all (s.headers.done key) hs)
clear_done_stands s hs key S =
    let ns = numbers (is_state (in_done key)) hs in
    let e : ns ≡ s.headers.done key = ap (λ (v : Seen). v.done key) S.looks in
    let m : map (cleared_in ns) hs ≡ cleared_all ns hs = sym (all_cleared ns hs S.once) in
    let L : List HeaderRecord → Type 0 = λ v. seen v ≡ seen hs in
    let C : List HeaderRecord → Type 0 = λ v. (m : ℕ) (l : Load) → emptied ns s.loads m ≡ Some l → load_at m v ≡ Some l in
    let T : StandsFor (record s { loads = emptied ns s.loads }) (cleared_all ns hs) = record {
      looks = subst L m (done_cleared_seen key hs S.once) ∙ S.looks;
      loads = subst C m (cleared_carries (is_state (in_done key)) hs s.loads S.loads);
      once = cleared_once ns hs S.once;
    } in
    let P : List ℕ → Type 0 = λ v. StandsFor (record s { loads = emptied v s.loads }) (cleared_all v hs) in
    subst P e T

-- ---- the first header without a mark gets one

marked_not : (key k : PortKey) (r : HeaderRecord) → in_unmarked key r ≡ true → same_key key k ≡ false → in_todo k r.state ≡ false
marked_not key k r h d = other_todo key k r (and_both (in_todo key r.state) (is_none r.load.mark) h).0 d

marked_seen : (key : PortKey) (mark : Mark) (n : ℕ) (ns : List ℕ) (hs : List HeaderRecord) → Once hs → numbers (in_unmarked key) hs ≡ n ∷ ns
    → seen (changed n (marked (Some mark)) hs) ≡ record (seen hs) { unmarked = at_key key ns (seen hs).unmarked }
marked_seen key mark n ns hs once h =
    let f = marked (Some mark) in
    let F = fronts (in_unmarked key) n ns hs once h in
    let r = F.it in
    same_seen _ _ (record {
      todo = λ k. numbers-changed (is_state (in_todo k)) n f hs r F.is refl refl;
      done = λ k. numbers-changed (is_state (in_done k)) n f hs r F.is refl refl;
      unmarked = λ k. told_by_key key k ns _ (seen hs).unmarked
          (λ e. rw e (numbers-changed_front (in_unmarked key) n ns f hs once h (λ x. and_false_right (in_todo key x.state))))
          (λ d. numbers-changed (in_unmarked k) n f hs r F.is refl (let none = marked_not key k r F.passes d in rw none refl));
      header = λ m. ap (option_map state_of) (find-changed m n f hs r F.is refl) ∙ carried_at m n (f r) r hs F.is refl;
      count = λ q. omega (arith, count-changed q n f hs r F.is);
    })

marked_carries : (n : ℕ) (mark : Mark) (hs : List HeaderRecord) (r : HeaderRecord) (f : ℕ → Option Load) (o : Option Load) → find_header n hs ≡ Some r → f n ≡ o → ((k : ℕ) (l : Load) → f k ≡ Some l → load_at k hs ≡ Some l)
    → (m : ℕ) (l : Load) → at_number n (option_map (load_marked mark) o) f m ≡ Some l → load_at m (changed n (marked (Some mark)) hs) ≡ Some l
marked_carries n mark hs r f None e g k m l h = elim (eqb_tells m n) [
  | inl x ↦ let none : at_number n None f m ≡ None = rw x.0 refl in absurd cc
  | inr x ↦
      let kept : f m ≡ Some l = grind (arith, nat_tests) in
      ap (option_map load_of) (find-changed m n (marked (Some mark)) hs r e refl) ∙ rw x.0 (k m l kept)
]
marked_carries n mark hs r f (Some load) e g k m l h = elim (eqb_tells m n) [
  | inl x ↦
      let now : load_marked mark load ≡ l = grind (arith, nat_tests) in
      let was : Some r.load ≡ Some load = ap (option_map load_of) (sym e) ∙ k n load g in
      let same : r.load ≡ load = cc in
      ap (option_map load_of) (find-changed m n (marked (Some mark)) hs r e refl) ∙ rw x.0 (ap (λ (z : Load). Some (load_marked mark z)) same ∙ ap (λ (z : Load). Some z) now)
  | inr x ↦
      let kept : f m ≡ Some l = grind (arith, nat_tests) in
      ap (option_map load_of) (find-changed m n (marked (Some mark)) hs r e refl) ∙ rw x.0 (k m l kept)
]

mark_front_stands : (s : Stocked) (hs : List HeaderRecord) (key : PortKey) (mark : Mark) (n : ℕ) (ns : List ℕ) → StandsFor s hs → s.headers.unmarked key ≡ n ∷ ns
    → StandsFor (front_marked key mark (n ∷ ns) s) (changed n (marked (Some mark)) hs)
mark_front_stands s hs key mark n ns S e =
    let h : numbers (in_unmarked key) hs ≡ n ∷ ns = ap (λ (v : Seen). v.unmarked key) S.looks ∙ e in
    let F = fronts (in_unmarked key) n ns hs S.once h in
    record {
      looks = marked_seen key mark n ns hs S.once h ∙ ap (λ (v : Seen). record v { unmarked = at_key key ns v.unmarked }) S.looks;
      loads = marked_carries n mark hs F.it s.loads (s.loads n) F.is refl S.loads;
      once = once-changed n (marked (Some mark)) hs (λ _. refl) S.once;
    }

pub mark_stands : (s : Stocked) (hs : List HeaderRecord) (key : PortKey) (mark : Mark) → StandsFor s hs → StandsFor (marked_first key mark s) (first_marked (s.headers.unmarked key) (Some mark) hs)
mark_stands s hs key mark S =
    elim (s.headers.unmarked key) as (λ v. s.headers.unmarked key ≡ v → StandsFor (front_marked key mark v s) (first_marked v (Some mark) hs))
    [ [] ↦ λ e. S | (n ∷ ns) ↦ λ e. mark_front_stands s hs key mark n ns S e ] refl
