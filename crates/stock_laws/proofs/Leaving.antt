-- The front of a list of a port: it has its header, and leaves the list.
use Rattle.std.proofs.Common.{◌≡◌, ℕ, Bool, true, false, ◌&&◌, List, [], ◌∷◌, Option, Some, None, option_map, slice_get, refl, sym, ◌∙◌, ap, arith, inl, inr}
use Rattle.std.proofs.lemmas.Bool.Decides.{nat_tests, eqb_tells}
use Rattle.il_machine.specs.declared.port.PortKey.{PortKey}
use Rattle.il_machine.specs.declared.header.Queue.{Queue}
use Rattle.il_machine.specs.declared.header.Queue.TheVariants.{Out, Todo, Done}
use Rattle.il_machine.specs.declared.header.HeaderState.{HeaderState}
use Rattle.il_machine.specs.World.{HeaderRecord, Load}
use Rattle.il_machine.specs.Headers.{Seen, seen, numbers, find_header, load_at, load_of, changed, has_number, Once, state_of, is_state, in_todo, in_done, in_unmarked, is_todo, is_done, is_owned_by, same_key}
use Rattle.il_machine.specs.Stock.{Stocked, StandsFor, at_key, at_number, with_state, without_number, state_out, todo_pulled, todo_front_pulled, done_pulled, done_front_pulled}
use Rattle.stock_laws.specs.Seeing.{Shows}
use Rattle.stock_laws.specs.Changes.{out_of_list, front_out}
use Rattle.stock_laws.proofs.Flat.{numbers-changed, numbers-changed_away, find-changed, once-changed}
use Rattle.stock_laws.proofs.Keys.{key_tells, other_owner, same_key-sym}
use Rattle.il_machine.proofs.Looking.{same_seen}
use Rattle.stock_laws.proofs.Seeing.{count_changed, state_changed}

-- ---- the front has its header

same_find : (m n : ℕ) (hs : List HeaderRecord) → m ≡ n → find_header m hs ≡ find_header n hs
same_find m n hs e = ap (λ k. find_header k hs) e

pub front_step : (n : ℕ) (x : HeaderRecord) (hs : List HeaderRecord) (r : HeaderRecord) → find_header x.state.number hs ≡ None → find_header n hs ≡ Some r → find_header n (x ∷ hs) ≡ Some r
front_step n x hs r o f = grind (arith, nat_tests, same_find x.state.number n hs)

front_other : (n : ℕ) (x : HeaderRecord) (hs : List HeaderRecord) (r : HeaderRecord) → find_header x.state.number hs ≡ None → find_header n hs ≡ Some r → has_number n x ≡ false
front_other n x hs r o f = grind (arith, nat_tests, same_find x.state.number n hs)

-- The number has a header that passes the test.
pub record Fronts (q : HeaderRecord → Bool) (n : ℕ) (hs : List HeaderRecord) : Type 0 where
  pub it : HeaderRecord
  pub is : find_header n hs ≡ Some it
  pub passes : q it ≡ true

pub fronts : (q : HeaderRecord → Bool) (n : ℕ) (ns : List ℕ) (hs : List HeaderRecord) → Once hs → numbers q hs ≡ n ∷ ns → Fronts q n hs
fronts q n ns [] o h = absurd cc
fronts q n ns (x ∷ hs) o h = elim (q x) as (λ v. q x ≡ v → Fronts q n (x ∷ hs)) [
  | true ↦ λ e. record { it = x; is = grind (arith, nat_tests); passes = e }
  | false ↦ λ e.
      let k : numbers q hs ≡ n ∷ ns = grind arith in
      let F = fronts q n ns hs o.1 k in
      record { it = F.it; is = front_step n x hs F.it o.0 F.is; passes = F.passes }
] refl

-- the front leaves the numbers where it stops passing the test
pub numbers-changed_front : (q : HeaderRecord → Bool) (n : ℕ) (ns : List ℕ) (f : HeaderRecord → HeaderRecord) (hs : List HeaderRecord) → Once hs → numbers q hs ≡ n ∷ ns → ((r : HeaderRecord) → q (f r) ≡ false) → numbers q (changed n f hs) ≡ ns
numbers-changed_front q n ns f [] o h k = absurd cc
numbers-changed_front q n ns f (x ∷ hs) o h k = elim (q x) as (λ v. q x ≡ v → numbers q (changed n f (x ∷ hs)) ≡ ns) [
  | true ↦ λ e. grind (arith, nat_tests, k x)
  | false ↦ λ e.
      let j : numbers q hs ≡ n ∷ ns = grind arith in
      let F = fronts q n ns hs o.1 j in
      let d : has_number n x ≡ false = front_other n x hs F.it o.0 F.is in
      grind (arith, nat_tests, numbers-changed_front q n ns f hs o.1 j k)
] refl

pub front_some : (ns : List ℕ) (n : ℕ) → slice_get ns 0 ≡ Some n → (rest : List ℕ) × (ns ≡ n ∷ rest)
front_some [] n e = absurd cc
front_some (m ∷ ns) n e = let same : m ≡ n = cc in (ns, rw same refl)

pub front_none : (ns : List ℕ) → slice_get ns 0 ≡ None → ns ≡ []
front_none [] e = refl
front_none (m ∷ ns) e = absurd cc

-- ---- a header of one list is in no other

pub and_false_right : (b : Bool) → (b && false) ≡ false
and_false_right true = refl
and_false_right false = refl

pub and_both : (a b : Bool) → (a && b) ≡ true → (a ≡ true) × (b ≡ true)
and_both true true e = (refl, refl)
and_both true false e = absurd cc
and_both false b e = absurd cc

queue_tells : (p : Queue) → is_todo p ≡ true → is_done p ≡ false
queue_tells Out e = refl
queue_tells Todo e = refl
queue_tells Done e = absurd cc

done_tells : (p : Queue) → is_done p ≡ true → is_todo p ≡ false
done_tells Out e = refl
done_tells Todo e = absurd cc
done_tells Done e = refl

pub other_todo : (key k : PortKey) (r : HeaderRecord) → is_state (in_todo key) r ≡ true → same_key key k ≡ false → is_state (in_todo k) r ≡ false
other_todo key k r h d =
    let b = and_both (is_todo r.state.queue) (is_owned_by key r.state.owner) h in
    rw (other_owner key k r.state.owner b.1 d) (and_false_right (is_todo r.state.queue))

other_done : (key k : PortKey) (r : HeaderRecord) → is_state (in_done key) r ≡ true → same_key key k ≡ false → is_state (in_done k) r ≡ false
other_done key k r h d =
    let b = and_both (is_done r.state.queue) (is_owned_by key r.state.owner) h in
    rw (other_owner key k r.state.owner b.1 d) (and_false_right (is_done r.state.queue))

pub todo_not_done : (key k : PortKey) (r : HeaderRecord) → is_state (in_todo key) r ≡ true → is_state (in_done k) r ≡ false
todo_not_done key k r h = rw (queue_tells r.state.queue (and_both (is_todo r.state.queue) (is_owned_by key r.state.owner) h).0) refl

pub done_not_todo : (key k : PortKey) (r : HeaderRecord) → is_state (in_done key) r ≡ true → is_state (in_todo k) r ≡ false
done_not_todo key k r h = rw (done_tells r.state.queue (and_both (is_done r.state.queue) (is_owned_by key r.state.owner) h).0) refl

unmarked_in_todo : (k : PortKey) (r : HeaderRecord) → is_state (in_todo k) r ≡ false → in_unmarked k r ≡ false
unmarked_in_todo k r h = rw h refl

-- ---- one value of many, told by the key

pub told_by_key : {A : Type 0} (key k : PortKey) (x y : A) (f : PortKey → A) → (k ≡ key → y ≡ x) → (same_key key k ≡ false → y ≡ f k) → y ≡ at_key key x f k
told_by_key key k x y f h d = rw (same_key-sym k key) (elim (key_tells key k) [ inl t ↦ rw t.0 (h (sym t.1)) | inr t ↦ rw t.0 (d t.0) ])

-- ---- the front of todo leaves it

pub pulled_seen : (hs : List HeaderRecord) (key : PortKey) (n : ℕ) (ns : List ℕ) → Once hs → numbers (is_state (in_todo key)) hs ≡ n ∷ ns
    → seen (changed n out_of_list hs) ≡ with_state n (option_map state_out ((seen hs).header n)) (record (seen hs) {
      todo = at_key key ns (seen hs).todo;
      unmarked = at_key key (without_number n ((seen hs).unmarked key)) (seen hs).unmarked;
    })
pulled_seen hs key n ns once h =
    let F = fronts (is_state (in_todo key)) n ns hs once h in
    let r = F.it in
    let state : Some (state_out r.state) ≡ option_map state_out ((seen hs).header n) = rw F.is refl in
    let away : (k : PortKey) → is_state (in_todo k) (out_of_list r) ≡ false = λ k. refl in
    same_seen _ _ (record {
      todo = λ k. told_by_key key k ns _ (seen hs).todo
          (λ e. rw e (numbers-changed_front (is_state (in_todo key)) n ns out_of_list hs once h (λ _. refl)))
          (λ d. numbers-changed (is_state (in_todo k)) n out_of_list hs r F.is refl (sym (other_todo key k r F.passes d)));
      done = λ k. numbers-changed (is_state (in_done k)) n out_of_list hs r F.is refl (sym (todo_not_done key k r F.passes));
      unmarked = λ k. told_by_key key k (without_number n ((seen hs).unmarked key)) _ (seen hs).unmarked
          (λ e. rw e (numbers-changed_away (in_unmarked key) n out_of_list hs once (λ _. refl)))
          (λ d. numbers-changed (in_unmarked k) n out_of_list hs r F.is refl (sym (unmarked_in_todo k r (other_todo key k r F.passes d))));
      header = λ m. ap (option_map state_of) (find-changed m n out_of_list hs r F.is refl) ∙ (state_changed m n (out_of_list r) (find_header m hs)
          ∙ ap (λ (o : Option HeaderState). at_number n o (seen hs).header m) state);
      count = λ q. count_changed q n out_of_list hs r F.is ∙ rw F.is refl;
    })

out_carries : (n : ℕ) (hs : List HeaderRecord) (r : HeaderRecord) (f : ℕ → Option Load) → find_header n hs ≡ Some r → ((k : ℕ) (l : Load) → f k ≡ Some l → load_at k hs ≡ Some l)
    → (m : ℕ) (l : Load) → at_number n None f m ≡ Some l → load_at m (changed n out_of_list hs) ≡ Some l
out_carries n hs r f e k m l h = elim (eqb_tells m n) [
  | inl x ↦ let none : at_number n None f m ≡ None = rw x.0 refl in absurd cc
  | inr x ↦
      let kept : f m ≡ Some l = grind (arith, nat_tests) in
      ap (option_map load_of) (find-changed m n out_of_list hs r e refl) ∙ rw x.0 (k m l kept)
]

pull_front_stands : (s : Stocked) (hs : List HeaderRecord) (key : PortKey) (n : ℕ) (ns : List ℕ) → StandsFor s hs → s.headers.todo key ≡ n ∷ ns
    → StandsFor (todo_front_pulled key (n ∷ ns) s) (changed n out_of_list hs)
pull_front_stands s hs key n ns S e =
    let h : numbers (is_state (in_todo key)) hs ≡ n ∷ ns = ap (λ (v : Seen). v.todo key) S.looks ∙ e in
    let F = fronts (is_state (in_todo key)) n ns hs S.once h in
    record {
      looks = pulled_seen hs key n ns S.once h
          ∙ ap (λ (v : Seen). with_state n (option_map state_out (v.header n)) (record v {
            todo = at_key key ns v.todo;
            unmarked = at_key key (without_number n (v.unmarked key)) v.unmarked;
          })) S.looks;
      loads = out_carries n hs F.it s.loads F.is S.loads;
      once = once-changed n out_of_list hs (λ _. refl) S.once;
    }

pub pull_stands : (s : Stocked) (hs : List HeaderRecord) (key : PortKey) → StandsFor s hs → StandsFor (todo_pulled key s) (front_out (s.headers.todo key) hs)
pull_stands s hs key S =
    elim (s.headers.todo key) as (λ v. s.headers.todo key ≡ v → StandsFor (todo_front_pulled key v s) (front_out v hs)) [ [] ↦ λ e. S | (n ∷ ns) ↦ λ e. pull_front_stands s hs key n ns S e ] refl

-- ---- the front of done leaves it

pub sent_seen : (hs : List HeaderRecord) (key : PortKey) (n : ℕ) (ns : List ℕ) → Once hs → numbers (is_state (in_done key)) hs ≡ n ∷ ns
    → seen (changed n out_of_list hs) ≡ with_state n (option_map state_out ((seen hs).header n)) (record (seen hs) { done = at_key key ns (seen hs).done })
sent_seen hs key n ns once h =
    let F = fronts (is_state (in_done key)) n ns hs once h in
    let r = F.it in
    let state : Some (state_out r.state) ≡ option_map state_out ((seen hs).header n) = rw F.is refl in
    same_seen _ _ (record {
      todo = λ k. numbers-changed (is_state (in_todo k)) n out_of_list hs r F.is refl (sym (done_not_todo key k r F.passes));
      done = λ k. told_by_key key k ns _ (seen hs).done
          (λ e. rw e (numbers-changed_front (is_state (in_done key)) n ns out_of_list hs once h (λ _. refl)))
          (λ d. numbers-changed (is_state (in_done k)) n out_of_list hs r F.is refl (sym (other_done key k r F.passes d)));
      unmarked = λ k. numbers-changed (in_unmarked k) n out_of_list hs r F.is refl (sym (unmarked_in_todo k r (done_not_todo key k r F.passes)));
      header = λ m. ap (option_map state_of) (find-changed m n out_of_list hs r F.is refl) ∙ (state_changed m n (out_of_list r) (find_header m hs)
          ∙ ap (λ (o : Option HeaderState). at_number n o (seen hs).header m) state);
      count = λ q. count_changed q n out_of_list hs r F.is ∙ rw F.is refl;
    })

send_front_stands : (s : Stocked) (hs : List HeaderRecord) (key : PortKey) (n : ℕ) (ns : List ℕ) → StandsFor s hs → s.headers.done key ≡ n ∷ ns
    → StandsFor (done_front_pulled key (n ∷ ns) s) (changed n out_of_list hs)
send_front_stands s hs key n ns S e =
    let h : numbers (is_state (in_done key)) hs ≡ n ∷ ns = ap (λ (v : Seen). v.done key) S.looks ∙ e in
    let F = fronts (is_state (in_done key)) n ns hs S.once h in
    record {
      looks = sent_seen hs key n ns S.once h
          ∙ ap (λ (v : Seen). with_state n (option_map state_out (v.header n)) (record v { done = at_key key ns v.done })) S.looks;
      loads = out_carries n hs F.it s.loads F.is S.loads;
      once = once-changed n out_of_list hs (λ _. refl) S.once;
    }

pub send_stands : (s : Stocked) (hs : List HeaderRecord) (key : PortKey) → StandsFor s hs → StandsFor (done_pulled key s) (front_out (s.headers.done key) hs)
send_stands s hs key S =
    elim (s.headers.done key) as (λ v. s.headers.done key ≡ v → StandsFor (done_front_pulled key v s) (front_out v hs)) [ [] ↦ λ e. S | (n ∷ ns) ↦ λ e. send_front_stands s hs key n ns S e ] refl

-- ---- what the front is, in what is kept

pub front_of_todo : (s : Stocked) (hs : List HeaderRecord) (key : PortKey) (n : ℕ) (ns : List ℕ) → StandsFor s hs → s.headers.todo key ≡ n ∷ ns → Shows s n (in_todo key)
front_of_todo s hs key n ns S e =
    let F = fronts (is_state (in_todo key)) n ns hs S.once (ap (λ (v : Seen). v.todo key) S.looks ∙ e) in
    record { state = F.it.state; is = sym (ap (λ (v : Seen). v.header n) S.looks) ∙ ap (option_map state_of) F.is; passes = F.passes }

pub front_of_done : (s : Stocked) (hs : List HeaderRecord) (key : PortKey) (n : ℕ) (ns : List ℕ) → StandsFor s hs → s.headers.done key ≡ n ∷ ns → Shows s n (in_done key)
front_of_done s hs key n ns S e =
    let F = fronts (is_state (in_done key)) n ns hs S.once (ap (λ (v : Seen). v.done key) S.looks ∙ e) in
    record { state = F.it.state; is = sym (ap (λ (v : Seen). v.header n) S.looks) ∙ ap (option_map state_of) F.is; passes = F.passes }
