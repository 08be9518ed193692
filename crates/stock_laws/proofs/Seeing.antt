-- What is seen of a flat list after a header leaves it, joins it, or is put into a list of a port.
use Rattle.std.proofs.Common.{◌≡◌, ℕ, ◌+◌, ◌-◌, Bool, true, false, ◌&&◌, nat_eq, List, [], ◌∷◌, ◌++◌, Option, Some, None, option_map, is_none, if◌then◌else◌, refl, sym, ◌∙◌, ap, arith, inl, inr, append-nil}
use Rattle.std.proofs.lemmas.Bool.Decides.{nat_tests, eqb_tells}
use Rattle.il_machine.specs.declared.port.PortKey.{PortKey}
use Rattle.il_machine.specs.declared.header.Queue.TheVariants.{Out}
use Rattle.il_machine.specs.declared.header.Spot.{Spot}
use Rattle.il_machine.specs.declared.header.Spot.TheVariants.{TodoBack, TodoFront, DoneBack}
use Rattle.il_machine.specs.declared.header.HeaderState.{HeaderState}
use Rattle.il_machine.specs.World.{HeaderRecord}
use Rattle.il_machine.specs.Headers.{Seen, seen, numbers, find_header, without, changed, has_number, Once, weight, count_headers, state_of, is_state, in_todo, in_done, in_unmarked, same_key, at_spot, put_at, state_at}
use Rattle.il_machine.specs.Stock.{number_where, at_number, with_state, listed, times_passed}
use Rattle.il_machine.proofs.Looking.{same_seen}
use Rattle.stock_laws.proofs.Flat.{numbers-append, numbers-cons, numbers-without, numbers-changed, find-append, find-without_other, find-without_same, find-changed, count-append, count-without, count-changed}
use Rattle.stock_laws.proofs.Keys.{at_key-is}

-- a header that is in no list passes none of the lists' tests
pub out_todo : (key : PortKey) (r : HeaderRecord) → r.state.queue ≡ Out → is_state (in_todo key) r ≡ false
out_todo key r o = rw o refl

pub out_done : (key : PortKey) (r : HeaderRecord) → r.state.queue ≡ Out → is_state (in_done key) r ≡ false
out_done key r o = rw o refl

pub out_unmarked : (key : PortKey) (r : HeaderRecord) → r.state.queue ≡ Out → in_unmarked key r ≡ false
out_unmarked key r o = rw o refl

-- ---- a header of the number leaves

pub without_seen : (n : ℕ) (hs : List HeaderRecord) (r : HeaderRecord) → Once hs → find_header n hs ≡ Some r → r.state.queue ≡ Out → seen (without n hs) ≡ with_state n None (seen hs)
without_seen n hs r once f o = same_seen (seen (without n hs)) (with_state n None (seen hs)) (record {
  todo = λ k. numbers-without (is_state (in_todo k)) n hs r f (out_todo k r o);
  done = λ k. numbers-without (is_state (in_done k)) n hs r f (out_done k r o);
  unmarked = λ k. numbers-without (in_unmarked k) n hs r f (out_unmarked k r o);
  header = λ m. elim (eqb_tells m n) [
    | inl x ↦ rw (x.0, x.1, find-without_same n hs once) refl
    | inr x ↦ rw x.0 (ap (option_map state_of) (find-without_other m n hs x.1))
  ];
  count = λ q. rw f (omega (arith, count-without q n hs r f));
})

-- ---- a header of a new number joins

find_joined : (m n : ℕ) (x : HeaderRecord) (o : Option HeaderRecord) → x.state.number ≡ n → option_map state_of (if has_number m x then Some x else o) ≡ at_number n (Some x.state) (λ k. option_map state_of o) m
find_joined m n x o e = grind (arith, nat_tests)

pub joined_seen : (n : ℕ) (hs : List HeaderRecord) (x : HeaderRecord) → find_header n hs ≡ None → x.state.number ≡ n → x.state.queue ≡ Out → seen (hs ++ x ∷ []) ≡ with_state n (Some x.state) (seen hs)
joined_seen n hs x gone e o =
    let g : find_header x.state.number hs ≡ None = rw e gone in
    same_seen (seen (hs ++ x ∷ [])) (with_state n (Some x.state) (seen hs)) (record {
      todo = λ k. numbers-append (is_state (in_todo k)) hs x ∙ rw (out_todo k x o) (append-nil _);
      done = λ k. numbers-append (is_state (in_done k)) hs x ∙ rw (out_done k x o) (append-nil _);
      unmarked = λ k. numbers-append (in_unmarked k) hs x ∙ rw (out_unmarked k x o) (append-nil _);
      header = λ m. ap (option_map state_of) (find-append m hs x g) ∙ find_joined m n x (find_header m hs) e;
      count = λ q. rw gone (omega (arith, count-append q hs x));
    })

-- ---- a header of a new number joins, in a list of a port

appended : (b : Bool) (ns : List ℕ) (n : ℕ) → ns ++ number_where b n ≡ (if b then ns ++ n ∷ [] else ns)
appended true ns n = refl
appended false ns n = append-nil ns

prepended : (b : Bool) (ns : List ℕ) (n : ℕ) → number_where b n ++ ns ≡ (if b then n ∷ ns else ns)
prepended true ns n = refl
prepended false ns n = refl

appended_if : (b u : Bool) (ns : List ℕ) (n : ℕ) → ns ++ number_where (b && u) n ≡ (if b then ns ++ number_where u n else ns)
appended_if true u ns n = refl
appended_if false u ns n = append-nil ns

prepended_if : (b u : Bool) (ns : List ℕ) (n : ℕ) → number_where (b && u) n ++ ns ≡ (if b then number_where u n ++ ns else ns)
prepended_if true u ns n = refl
prepended_if false u ns n = refl

spot_todo : (spot : Spot) (key k : PortKey) (x : HeaderRecord) (hs : List HeaderRecord) (u : Bool) → numbers (is_state (in_todo k)) (at_spot spot (put_at key spot x) hs) ≡ (listed key spot x.state.number u (seen hs)).todo k
spot_todo TodoBack key k x hs u =
    numbers-append (is_state (in_todo k)) hs (put_at key TodoBack x)
    ∙ (appended (same_key key k) (numbers (is_state (in_todo k)) hs) x.state.number
    ∙ at_key-is key k (λ k. numbers (is_state (in_todo k)) hs ++ x.state.number ∷ []) (λ k. numbers (is_state (in_todo k)) hs))
spot_todo TodoFront key k x hs u =
    numbers-cons (is_state (in_todo k)) (put_at key TodoFront x) hs
    ∙ (prepended (same_key key k) (numbers (is_state (in_todo k)) hs) x.state.number
    ∙ at_key-is key k (λ k. x.state.number ∷ numbers (is_state (in_todo k)) hs) (λ k. numbers (is_state (in_todo k)) hs))
spot_todo DoneBack key k x hs u = numbers-append (is_state (in_todo k)) hs (put_at key DoneBack x) ∙ append-nil _

spot_unmarked : (spot : Spot) (key k : PortKey) (x : HeaderRecord) (hs : List HeaderRecord) → numbers (in_unmarked k) (at_spot spot (put_at key spot x) hs) ≡ (listed key spot x.state.number (is_none x.load.mark) (seen hs)).unmarked k
spot_unmarked TodoBack key k x hs =
    let u = is_none x.load.mark in
    numbers-append (in_unmarked k) hs (put_at key TodoBack x)
    ∙ (appended_if (same_key key k) u (numbers (in_unmarked k) hs) x.state.number
    ∙ at_key-is key k (λ k. numbers (in_unmarked k) hs ++ number_where u x.state.number) (λ k. numbers (in_unmarked k) hs))
spot_unmarked TodoFront key k x hs =
    let u = is_none x.load.mark in
    numbers-cons (in_unmarked k) (put_at key TodoFront x) hs
    ∙ (prepended_if (same_key key k) u (numbers (in_unmarked k) hs) x.state.number
    ∙ at_key-is key k (λ k. number_where u x.state.number ++ numbers (in_unmarked k) hs) (λ k. numbers (in_unmarked k) hs))
spot_unmarked DoneBack key k x hs = numbers-append (in_unmarked k) hs (put_at key DoneBack x) ∙ append-nil _

spot_done : (spot : Spot) (key k : PortKey) (x : HeaderRecord) (hs : List HeaderRecord) (u : Bool) → numbers (is_state (in_done k)) (at_spot spot (put_at key spot x) hs) ≡ (listed key spot x.state.number u (seen hs)).done k
spot_done TodoBack key k x hs u = numbers-append (is_state (in_done k)) hs (put_at key TodoBack x) ∙ append-nil _
spot_done TodoFront key k x hs u = numbers-cons (is_state (in_done k)) (put_at key TodoFront x) hs
spot_done DoneBack key k x hs u =
    numbers-append (is_state (in_done k)) hs (put_at key DoneBack x)
    ∙ (appended (same_key key k) (numbers (is_state (in_done k)) hs) x.state.number
    ∙ at_key-is key k (λ k. numbers (is_state (in_done k)) hs ++ x.state.number ∷ []) (λ k. numbers (is_state (in_done k)) hs))

pub find-at_spot : (spot : Spot) (m : ℕ) (r : HeaderRecord) (hs : List HeaderRecord) → find_header r.state.number hs ≡ None → find_header m (at_spot spot r hs) ≡ (if has_number m r then Some r else find_header m hs)
find-at_spot TodoBack m r hs h = find-append m hs r h
find-at_spot TodoFront m r hs h = refl
find-at_spot DoneBack m r hs h = find-append m hs r h

pub count-at_spot : (spot : Spot) (q : HeaderState → Bool) (r : HeaderRecord) (hs : List HeaderRecord) → count_headers q (at_spot spot r hs) ≡ count_headers q hs + weight (q r.state)
count-at_spot TodoBack q r hs = count-append q hs r
count-at_spot TodoFront q r hs = omega arith
count-at_spot DoneBack q r hs = count-append q hs r

-- what `listed` changes is apart from what `with_state` changes
listed_todo : (key : PortKey) (spot : Spot) (n m : ℕ) (u : Bool) (s : Option HeaderState) (a : Seen) (k : PortKey) → (listed key spot n u (with_state m s a)).todo k ≡ (listed key spot n u a).todo k
listed_todo key TodoBack n m u s a k = refl
listed_todo key TodoFront n m u s a k = refl
listed_todo key DoneBack n m u s a k = refl

listed_done : (key : PortKey) (spot : Spot) (n m : ℕ) (u : Bool) (s : Option HeaderState) (a : Seen) (k : PortKey) → (listed key spot n u (with_state m s a)).done k ≡ (listed key spot n u a).done k
listed_done key TodoBack n m u s a k = refl
listed_done key TodoFront n m u s a k = refl
listed_done key DoneBack n m u s a k = refl

listed_unmarked : (key : PortKey) (spot : Spot) (n m : ℕ) (u : Bool) (s : Option HeaderState) (a : Seen) (k : PortKey) → (listed key spot n u (with_state m s a)).unmarked k ≡ (listed key spot n u a).unmarked k
listed_unmarked key TodoBack n m u s a k = refl
listed_unmarked key TodoFront n m u s a k = refl
listed_unmarked key DoneBack n m u s a k = refl

pub listed_header : (key : PortKey) (spot : Spot) (n : ℕ) (u : Bool) (a : Seen) (m : ℕ) → (listed key spot n u a).header m ≡ a.header m
listed_header key TodoBack n u a m = refl
listed_header key TodoFront n u a m = refl
listed_header key DoneBack n u a m = refl

pub listed_count : (key : PortKey) (spot : Spot) (n : ℕ) (u : Bool) (a : Seen) (q : HeaderState → Bool) → (listed key spot n u a).count q ≡ a.count q
listed_count key TodoBack n u a q = refl
listed_count key TodoFront n u a q = refl
listed_count key DoneBack n u a q = refl

pub listed_seen : (key : PortKey) (spot : Spot) (n : ℕ) (hs : List HeaderRecord) (x : HeaderRecord) → find_header n hs ≡ None → x.state.number ≡ n
    → seen (at_spot spot (put_at key spot x) hs) ≡ listed key spot n (is_none x.load.mark) (with_state n (Some (state_at key spot x.state)) (seen hs))
listed_seen key spot n hs x gone e =
    let y = put_at key spot x in
    let u = is_none x.load.mark in
    let s = Some (state_at key spot x.state) in
    let g : find_header y.state.number hs ≡ None = rw e gone in
    same_seen (seen (at_spot spot y hs)) (listed key spot n u (with_state n s (seen hs))) (record {
      todo = λ k. spot_todo spot key k x hs u ∙ (ap (λ (m : ℕ). (listed key spot m u (seen hs)).todo k) e ∙ sym (listed_todo key spot n n u s (seen hs) k));
      done = λ k. spot_done spot key k x hs u ∙ (ap (λ (m : ℕ). (listed key spot m u (seen hs)).done k) e ∙ sym (listed_done key spot n n u s (seen hs) k));
      unmarked = λ k. spot_unmarked spot key k x hs ∙ (ap (λ (m : ℕ). (listed key spot m u (seen hs)).unmarked k) e ∙ sym (listed_unmarked key spot n n u s (seen hs) k));
      header = λ m. ap (option_map state_of) (find-at_spot spot m y hs g) ∙ (find_joined m n y (find_header m hs) e ∙ sym (listed_header key spot n u (with_state n s (seen hs)) m));
      count = λ q. rw (listed_count, gone) (omega (arith, count-at_spot spot q y hs));
    })

-- ---- a header that is in no list changes

pub state_changed : (m n : ℕ) (x : HeaderRecord) (o : Option HeaderRecord) → option_map state_of (if nat_eq m n then Some x else o) ≡ at_number n (Some x.state) (λ k. option_map state_of o) m
state_changed m n x o = elim (nat_eq m n) as (λ v. option_map state_of (if v then Some x else o) ≡ (if v then Some x.state else option_map state_of o)) [ true ↦ refl | false ↦ refl ]

pub count_changed : (q : HeaderState → Bool) (n : ℕ) (f : HeaderRecord → HeaderRecord) (hs : List HeaderRecord) (r : HeaderRecord) → find_header n hs ≡ Some r
    → count_headers q (changed n f hs) ≡ (count_headers q hs - times_passed q ((seen hs).header n)) + weight (q (f r).state)
count_changed q n f hs r e = rw e (omega (arith, count-changed q n f hs r e, count-without q n hs r e))

pub changed_seen : (n : ℕ) (f : HeaderRecord → HeaderRecord) (hs : List HeaderRecord) (r : HeaderRecord) → Once hs → find_header n hs ≡ Some r → (f r).state.number ≡ r.state.number
    → r.state.queue ≡ Out → (f r).state.queue ≡ Out → seen (changed n f hs) ≡ with_state n (Some (f r).state) (seen hs)
changed_seen n f hs r once e num o p = same_seen (seen (changed n f hs)) (with_state n (Some (f r).state) (seen hs)) (record {
  todo = λ k. numbers-changed (is_state (in_todo k)) n f hs r e num (out_todo k (f r) p ∙ sym (out_todo k r o));
  done = λ k. numbers-changed (is_state (in_done k)) n f hs r e num (out_done k (f r) p ∙ sym (out_done k r o));
  unmarked = λ k. numbers-changed (in_unmarked k) n f hs r e num (out_unmarked k (f r) p ∙ sym (out_unmarked k r o));
  header = λ m. ap (option_map state_of) (find-changed m n f hs r e num) ∙ state_changed m n (f r) (find_header m hs);
  count = λ q. count_changed q n f hs r e;
})

-- ---- what a header carries changes

pub carried_at : (m n : ℕ) (x r : HeaderRecord) (hs : List HeaderRecord) → find_header n hs ≡ Some r → x.state ≡ r.state → option_map state_of (if nat_eq m n then Some x else find_header m hs) ≡ option_map state_of (find_header m hs)
carried_at m n x r hs e s = elim (eqb_tells m n) [
  | inl t ↦ rw t.0 (ap (λ (y : HeaderState). Some y) s ∙ sym (rw t.1 (ap (option_map state_of) e)))
  | inr t ↦ rw t.0 refl
]

pub carried_seen : (n : ℕ) (f : HeaderRecord → HeaderRecord) (hs : List HeaderRecord) (r : HeaderRecord) → find_header n hs ≡ Some r → ((x : HeaderRecord) → (f x).state ≡ x.state)
    → ((k : PortKey) → in_unmarked k (f r) ≡ in_unmarked k r) → seen (changed n f hs) ≡ seen hs
carried_seen n f hs r e s u =
    let num : (f r).state.number ≡ r.state.number = ap (λ (x : HeaderState). x.number) (s r) in
    same_seen (seen (changed n f hs)) (seen hs) (record {
      todo = λ k. numbers-changed (is_state (in_todo k)) n f hs r e num (ap (in_todo k) (s r));
      done = λ k. numbers-changed (is_state (in_done k)) n f hs r e num (ap (in_done k) (s r));
      unmarked = λ k. numbers-changed (in_unmarked k) n f hs r e num (u k);
      header = λ m. ap (option_map state_of) (find-changed m n f hs r e num) ∙ carried_at m n (f r) r hs e (s r);
      count = λ q.
          let same : weight (q (f r).state) ≡ weight (q r.state) = ap (λ (x : HeaderState). weight (q x)) (s r) in
          omega (arith, count-changed q n f hs r e);
    })
