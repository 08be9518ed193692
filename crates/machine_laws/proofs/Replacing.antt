-- One header in place of another of the same number, whether where it stands or in a list of a port.
use Rattle.std.proofs.Common.{◌≡◌, ◌≢◌, ℕ, ◌+◌, Bool, List, [], ◌∷◌, ◌++◌, Some, None, refl, sym, ◌∙◌, subst, arith}
use Rattle.il_machine.specs.declared.header.HeaderState.{HeaderState}
use Rattle.il_machine.specs.declared.header.Spot.{Spot}
use Rattle.il_machine.specs.declared.header.Spot.TheVariants.{TodoBack, TodoFront, DoneBack}
use Rattle.il_machine.specs.declared.port.PortKey.{PortKey}
use Rattle.il_machine.specs.World.{HeaderRecord}
use Rattle.il_machine.specs.Headers.{find_header, count_headers, weight, Once, without, changed, put, put_at, at_spot}
use Rattle.machine_laws.proofs.Finding.{found_number, found_head, found_tail, without_else, without_same, once_without, count_without, push_last, push_else, once_push, count_push, changed_same, changed_else, once_changed, count_changed}

pub record IsReplaced (n : ℕ) (r s : HeaderRecord) (hs ks : List HeaderRecord) : Type 0 where
  pub was : find_header n hs ≡ Some r
  pub here : find_header n ks ≡ Some s
  pub others : (m : ℕ) → m ≢ n → find_header m ks ≡ find_header m hs
  pub once : Once ks
  pub counts : (test : HeaderState → Bool) → count_headers test ks + weight (test r.state) ≡ count_headers test hs + weight (test s.state)

pub replaced_changed : (change : HeaderRecord → HeaderRecord) → ((r : HeaderRecord) → (change r).state.number ≡ r.state.number) → (n : ℕ) (hs : List HeaderRecord) (r : HeaderRecord)
    → Once hs → find_header n hs ≡ Some r → IsReplaced n r (change r) hs (changed n change hs)
replaced_changed change keeps n hs r o h = record {
  was = h;
  here = changed_same change keeps n hs r h;
  others = λ m a. changed_else change keeps n m hs a;
  once = once_changed change keeps n hs o;
  counts = λ test. count_changed change keeps test n hs r h;
}

at_back : (n : ℕ) (hs : List HeaderRecord) (r s : HeaderRecord) → s.state.number ≡ n → Once hs → find_header n hs ≡ Some r → IsReplaced n r s hs (without n hs ++ s ∷ [])
at_back n hs r s e o h =
    let none : find_header s.state.number (without n hs) ≡ None = rw e (without_same n hs o) in
    record {
      was = h;
      here = subst (λ (k : ℕ). find_header k (without n hs ++ s ∷ []) ≡ Some s) e (push_last (without n hs) s none);
      others = λ m a. push_else m (without n hs) s (λ k. a (sym k ∙ e)) ∙ without_else n m hs a;
      once = once_push (without n hs) s (once_without n hs o) none;
      counts = λ test. omega (arith, count_push test (without n hs) s, count_without test n hs r h);
    }

at_front : (n : ℕ) (hs : List HeaderRecord) (r s : HeaderRecord) → s.state.number ≡ n → Once hs → find_header n hs ≡ Some r → IsReplaced n r s hs (s ∷ without n hs)
at_front n hs r s e o h = record {
  was = h;
  here = found_head n s (without n hs) e;
  others = λ m a. found_tail m s (without n hs) (λ k. a (sym k ∙ e)) ∙ without_else n m hs a;
  once = (rw e (without_same n hs o), once_without n hs o);
  counts = λ test. omega (arith, count_without test n hs r h);
}

at_any : (spot : Spot) (n : ℕ) (hs : List HeaderRecord) (r s : HeaderRecord) → s.state.number ≡ n → Once hs → find_header n hs ≡ Some r → IsReplaced n r s hs (at_spot spot s (without n hs))
at_any TodoBack n hs r s e o h = at_back n hs r s e o h
at_any TodoFront n hs r s e o h = at_front n hs r s e o h
at_any DoneBack n hs r s e o h = at_back n hs r s e o h

pub replaced_put : (key : PortKey) (spot : Spot) (change : HeaderRecord → HeaderRecord) → ((r : HeaderRecord) → (change r).state.number ≡ r.state.number) → (n : ℕ) (hs : List HeaderRecord) (r : HeaderRecord)
    → Once hs → find_header n hs ≡ Some r → IsReplaced n r (put_at key spot (change r)) hs (put key spot n change hs)
replaced_put key spot change keeps n hs r o h = rw h (at_any spot n hs r (put_at key spot (change r)) (keeps r ∙ found_number n hs r h) o h)

pub put_nothing : (key : PortKey) (spot : Spot) (change : HeaderRecord → HeaderRecord) (n : ℕ) (hs : List HeaderRecord) → find_header n hs ≡ None → put key spot n change hs ≡ hs
put_nothing key spot change n hs h = rw h refl
