-- Each change of what is kept, and the machine's own change of the flat list, lead to values of which one stands for the other.
use Rattle.std.proofs.Common.{◌≡◌, ◌≢◌, ℕ, List, [], ◌∷◌, ◌++◌, Option, Some, None, option_map, is_none, refl, sym, ◌∙◌, ap, arith, inl, inr}
use Rattle.std.proofs.lemmas.Bool.Decides.{nat_tests, eqb_tells}
use Rattle.il_machine.specs.declared.port.PortKey.{PortKey}
use Rattle.il_machine.specs.declared.header.Owner.{Owner}
use Rattle.il_machine.specs.declared.header.Queue.TheVariants.{Out}
use Rattle.il_machine.specs.declared.header.Spot.{Spot}
use Rattle.il_machine.specs.declared.header.Spot.TheVariants.{TodoBack, TodoFront, DoneBack}
use Rattle.il_machine.specs.declared.header.HeaderState.{HeaderState}
use Rattle.il_machine.specs.World.{HeaderRecord, Load}
use Rattle.il_machine.specs.Headers.{Seen, seen, find_header, load_at, load_of, without, changed, Once, state_of, at_spot, put, put_at, state_at, loaded, given_to, state_given}
use Rattle.il_machine.specs.Stock.{Stocked, StandsFor, no_stock, added, removed, at_number, with_state, listed, pushed, header_given, header_made, header_unmade}
use Rattle.stock_laws.proofs.Flat.{find_number, find-append, find-without_other, find-without_same, find-changed, once-append, once-without, once-changed}
use Rattle.stock_laws.proofs.Keys.{with_state-twice}
use Rattle.stock_laws.proofs.Seeing.{without_seen, joined_seen, changed_seen, listed_seen, find-at_spot, carried_seen, out_unmarked}

-- ---- the header of a number

-- The flat list has the header of the number, with that state.
pub record Found (n : ℕ) (hs : List HeaderRecord) (h : HeaderState) : Type 0 where
  pub it : HeaderRecord
  pub is : find_header n hs ≡ Some it
  pub state : it.state ≡ h

found_by : (n : ℕ) (hs : List HeaderRecord) (h : HeaderState) (o : Option HeaderRecord) → find_header n hs ≡ o → option_map state_of o ≡ Some h → Found n hs h
found_by n hs h None e f = absurd cc
found_by n hs h (Some r) e f = record { it = r; is = e; state = cc }

pub found : (s : Stocked) (hs : List HeaderRecord) (n : ℕ) (h : HeaderState) → StandsFor s hs → s.headers.header n ≡ Some h → Found n hs h
found s hs n h S e = found_by n hs h (find_header n hs) refl (ap (λ (v : Seen). v.header n) S.looks ∙ e)

missing_by : (o : Option HeaderRecord) → option_map state_of o ≡ None → o ≡ None
missing_by None e = refl
missing_by (Some r) e = absurd cc

pub missing : (s : Stocked) (hs : List HeaderRecord) (n : ℕ) → StandsFor s hs → s.headers.header n ≡ None → find_header n hs ≡ None
missing s hs n S e = missing_by (find_header n hs) (ap (λ (v : Seen). v.header n) S.looks ∙ e)

-- ---- what is carried

load_found : (m : ℕ) (hs : List HeaderRecord) (r : HeaderRecord) → find_header m hs ≡ Some r → load_at m hs ≡ Some r.load
load_found m hs r e = ap (option_map load_of) e

-- what is kept at the other numbers is still carried
others_carry : (n m : ℕ) (hs vs : List HeaderRecord) (o : Option Load) (f : ℕ → Option Load) (l : Load) → m ≢ n → find_header m vs ≡ find_header m hs
    → ((k : ℕ) (l : Load) → f k ≡ Some l → load_at k hs ≡ Some l) → at_number n o f m ≡ Some l → load_at m vs ≡ Some l
others_carry n m hs vs o f l d e k h = ap (option_map load_of) e ∙ k m l (grind (arith, nat_tests))

-- ---- a header joins a list of a port

pub once-at_spot : (spot : Spot) (r : HeaderRecord) (hs : List HeaderRecord) → Once hs → find_header r.state.number hs ≡ None → Once (at_spot spot r hs)
once-at_spot TodoBack r hs o h = once-append hs r o h
once-at_spot TodoFront r hs o h = (h, o)
once-at_spot DoneBack r hs o h = once-append hs r o h

pub find_at : (spot : Spot) (n : ℕ) (r : HeaderRecord) (hs : List HeaderRecord) → find_header n hs ≡ None → r.state.number ≡ n → find_header n (at_spot spot r hs) ≡ Some r
find_at spot n r hs gone e =
    let g : find_header r.state.number hs ≡ None = rw e gone in
    find-at_spot spot n r hs g ∙ grind (arith, nat_tests)

pub find_beside : (spot : Spot) (n m : ℕ) (r : HeaderRecord) (hs : List HeaderRecord) → find_header n hs ≡ None → r.state.number ≡ n → m ≢ n → find_header m (at_spot spot r hs) ≡ find_header m hs
find_beside spot n m r hs gone e d =
    let g : find_header r.state.number hs ≡ None = rw e gone in
    find-at_spot spot m r hs g ∙ grind (arith, nat_tests)

put_seen : (hs : List HeaderRecord) (key : PortKey) (spot : Spot) (n : ℕ) (load : Load) (r : HeaderRecord) → Once hs → find_header n hs ≡ Some r → r.state.queue ≡ Out
    → seen (at_spot spot (put_at key spot (loaded load r)) (without n hs)) ≡ listed key spot n (is_none load.mark) (with_state n (option_map (state_at key spot) ((seen hs).header n)) (seen hs))
put_seen hs key spot n load r once f o =
    let u = is_none load.mark in
    let st = Some (state_at key spot r.state) in
    let same : st ≡ option_map (state_at key spot) ((seen hs).header n) = rw f refl in
    listed_seen key spot n (without n hs) (loaded load r) (find-without_same n hs once) (find_number n hs r f)
    ∙ (ap (λ (v : Seen). listed key spot n u (with_state n st v)) (without_seen n hs r once f o)
    ∙ (ap (listed key spot n u) (with_state-twice n st None (seen hs))
    ∙ ap (λ (o : Option HeaderState). listed key spot n u (with_state n o (seen hs))) same))

push_found : (s : Stocked) (hs : List HeaderRecord) (key : PortKey) (spot : Spot) (n : ℕ) (load : Load) (r : HeaderRecord) → StandsFor s hs → find_header n hs ≡ Some r → r.state.queue ≡ Out
    → StandsFor (pushed key spot n load s) (at_spot spot (put_at key spot (loaded load r)) (without n hs))
push_found s hs key spot n load r S f o =
    let y = put_at key spot (loaded load r) in
    let vs = at_spot spot y (without n hs) in
    let gone = find-without_same n hs S.once in
    let num : y.state.number ≡ n = find_number n hs r f in
    let g : find_header y.state.number (without n hs) ≡ None = rw num gone in
    record {
      looks = put_seen hs key spot n load r S.once f o
          ∙ ap (λ (v : Seen). listed key spot n (is_none load.mark) (with_state n (option_map (state_at key spot) (v.header n)) v)) S.looks;
      loads = λ m l e. elim (eqb_tells m n) [
        | inl x ↦
            let same : load ≡ l = grind (arith, nat_tests) in
            rw x.1 (load_found n vs y (find_at spot n y (without n hs) gone num) ∙ ap (λ (z : Load). Some z) same)
        | inr x ↦ others_carry n m hs vs (Some load) s.loads l x.1 (find_beside spot n m y (without n hs) gone num x.1 ∙ find-without_other m n hs x.1) S.loads e
      ];
      once = once-at_spot spot y (without n hs) (once-without n hs S.once) g;
    }

pub push_stands : (s : Stocked) (hs : List HeaderRecord) (key : PortKey) (spot : Spot) (n : ℕ) (load : Load) (h : HeaderState) → StandsFor s hs → s.headers.header n ≡ Some h → h.queue ≡ Out
    → StandsFor (pushed key spot n load s) (put key spot n (loaded load) hs)
push_stands s hs key spot n load h S e o =
    let F = found s hs n h S e in
    let out : F.it.state.queue ≡ Out = ap (λ (x : HeaderState). x.queue) F.state ∙ o in
    rw F.is (push_found s hs key spot n load F.it S F.is out)

-- ---- a header that is in no list

pub give_stands : (s : Stocked) (hs : List HeaderRecord) (n : ℕ) (owner : Owner) (h : HeaderState) → StandsFor s hs → s.headers.header n ≡ Some h → h.queue ≡ Out
    → StandsFor (header_given n owner s) (changed n (given_to owner) hs)
give_stands s hs n owner h S e o =
    let F = found s hs n h S e in
    let r = F.it in
    let out : r.state.queue ≡ Out = ap (λ (x : HeaderState). x.queue) F.state ∙ o in
    let same : Some (state_given owner r.state) ≡ option_map (state_given owner) ((seen hs).header n) = rw F.is refl in
    record {
      looks = changed_seen n (given_to owner) hs r S.once F.is refl out refl
          ∙ (ap (λ (o : Option HeaderState). with_state n o (seen hs)) same
          ∙ ap (λ (v : Seen). with_state n (option_map (state_given owner) (v.header n)) v) S.looks);
      loads = λ m l k. elim (eqb_tells m n) [
        | inl x ↦ ap (option_map load_of) (find-changed m n (given_to owner) hs r F.is refl) ∙ rw x.0 (sym (load_found n hs r F.is) ∙ rw x.1 at (S.loads m l k))
        | inr x ↦ ap (option_map load_of) (find-changed m n (given_to owner) hs r F.is refl) ∙ rw x.0 (S.loads m l k)
      ];
      once = once-changed n (given_to owner) hs (λ _. refl) S.once;
    }

-- what a header carries doesn't matter where it is in no list
pub load_free : (s : Stocked) (hs : List HeaderRecord) (n : ℕ) (load : Load) (h : HeaderState) → StandsFor s hs → s.headers.header n ≡ Some h → h.queue ≡ Out → s.loads n ≡ None
    → StandsFor s (changed n (loaded load) hs)
load_free s hs n load h S e o none =
    let F = found s hs n h S e in
    let out : F.it.state.queue ≡ Out = ap (λ (x : HeaderState). x.queue) F.state ∙ o in
    record {
      looks = carried_seen n (loaded load) hs F.it F.is (λ _. refl) (λ k. out_unmarked k (loaded load F.it) out ∙ sym (out_unmarked k F.it out)) ∙ S.looks;
      loads = λ m l k. elim (eqb_tells m n) [
        | inl x ↦ let unkept : s.loads m ≡ None = rw x.1 none in absurd cc
        | inr x ↦ ap (option_map load_of) (find-changed m n (loaded load) hs F.it F.is refl) ∙ rw x.0 (S.loads m l k)
      ];
      once = once-changed n (loaded load) hs (λ _. refl) S.once;
    }

pub make_stands : (s : Stocked) (hs : List HeaderRecord) (state : HeaderState) (load : Load) → StandsFor s hs → s.headers.header s.next ≡ None → state.number ≡ s.next → state.queue ≡ Out
    → StandsFor (header_made state s) (hs ++ record { state = state; load = load } ∷ [])
make_stands s hs state load S e num o =
    let x : HeaderRecord = record { state = state; load = load } in
    let gone = missing s hs s.next S e in
    let g : find_header state.number hs ≡ None = rw num gone in
    record {
      looks = joined_seen s.next hs x gone num o ∙ ap (λ (v : Seen). with_state s.next (Some state) v) S.looks;
      loads = λ m l k.
          let c = S.loads m l k in
          elim (eqb_tells m s.next) [
            | inl y ↦ let none : load_at m hs ≡ None = rw y.1 (ap (option_map load_of) gone) in absurd cc
            | inr y ↦ ap (option_map load_of) (find-append m hs x g) ∙ grind (arith, nat_tests)
          ];
      once = once-append hs x S.once g;
    }

pub unmake_stands : (s : Stocked) (hs : List HeaderRecord) (n : ℕ) (h : HeaderState) → StandsFor s hs → s.headers.header n ≡ Some h → h.queue ≡ Out
    → StandsFor (header_unmade n s) (without n hs)
unmake_stands s hs n h S e o =
    let F = found s hs n h S e in
    let out : F.it.state.queue ≡ Out = ap (λ (x : HeaderState). x.queue) F.state ∙ o in
    record {
      looks = without_seen n hs F.it S.once F.is out ∙ ap (λ (v : Seen). with_state n None v) S.looks;
      loads = λ m l k. elim (eqb_tells m n) [
        | inl x ↦ let none : at_number n None s.loads m ≡ None = rw x.0 refl in absurd cc
        | inr x ↦ others_carry n m hs (without n hs) None s.loads l x.1 (find-without_other m n hs x.1) S.loads k
      ];
      once = once-without n hs S.once;
    }

pub start_stands : (key : ℕ) → StandsFor (no_stock key) []
start_stands key = record { looks = refl; loads = λ m l k. absurd cc; once = tt }

pub added_stands : (s : Stocked) (hs : List HeaderRecord) (component count : ℕ) → StandsFor s hs → StandsFor (added component count s) hs
added_stands s hs component count S = record { looks = S.looks; loads = S.loads; once = S.once }

pub removed_stands : (s : Stocked) (hs : List HeaderRecord) (component : ℕ) → StandsFor s hs → StandsFor (removed component s) hs
removed_stands s hs component S = record { looks = S.looks; loads = S.loads; once = S.once }
