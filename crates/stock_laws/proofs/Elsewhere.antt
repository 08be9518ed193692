-- A change at one header leaves the others as they are.
use Rattle.std.proofs.Common.{◌≡◌, ◌≢◌, ℕ, false, List, [], ◌∷◌, Some, None, refl, ◌∙◌, arith}
use Rattle.std.proofs.lemmas.Bool.Decides.{nat_tests}
use Rattle.il_machine.specs.declared.port.PortKey.{PortKey}
use Rattle.il_machine.specs.declared.header.Spot.{Spot}
use Rattle.il_machine.specs.World.{HeaderRecord}
use Rattle.il_machine.specs.Headers.{find_header, has_number, without, changed, put, put_found, put_at, at_spot, Once}
use Rattle.stock_laws.proofs.Flat.{find_number, find-without_other, find-without_same}
use Rattle.stock_laws.proofs.Seeing.{find-at_spot}
use Rattle.stock_laws.proofs.Stocking.{Elsewhere}

pub KeepsNumber : (HeaderRecord → HeaderRecord) → Type 0
KeepsNumber change = (r : HeaderRecord) → (change r).state.number ≡ r.state.number

other_number : (m n : ℕ) (x : HeaderRecord) → x.state.number ≡ n → m ≢ n → has_number m x ≡ false
other_number m n x e d = grind (arith, nat_tests)

put_other : (key : PortKey) (spot : Spot) (n m : ℕ) (x : HeaderRecord) (hs : List HeaderRecord) → Once hs → x.state.number ≡ n → m ≢ n → find_header m (at_spot spot x (without n hs)) ≡ find_header m hs
put_other key spot n m x hs o e d =
    let gone : find_header x.state.number (without n hs) ≡ None = rw e (find-without_same n hs o) in
    let q : has_number m x ≡ false = other_number m n x e d in
    find-at_spot spot m x (without n hs) gone ∙ rw q (find-without_other m n hs d)

pub put_elsewhere : (key : PortKey) (spot : Spot) (n : ℕ) (change : HeaderRecord → HeaderRecord) (hs : List HeaderRecord) → Once hs → KeepsNumber change → Elsewhere n hs (put key spot n change hs)
unfolding KeepsNumber
put_elsewhere key spot n change hs o k m d =
    elim (find_header n hs) as (λ x. find_header n hs ≡ x → find_header m (put_found key spot n change x hs) ≡ find_header m hs) [
      | None ↦ λ e. refl
      | Some r ↦ λ e. put_other key spot n m (put_at key spot (change r)) hs o (k r ∙ find_number n hs r e) d
    ] refl

pub changed_elsewhere : (n : ℕ) (change : HeaderRecord → HeaderRecord) (hs : List HeaderRecord) → KeepsNumber change → Elsewhere n hs (changed n change hs)
unfolding KeepsNumber
changed_elsewhere n change [] k m d = refl
changed_elsewhere n change (x ∷ hs) k m d = let i = changed_elsewhere n change hs k m d in grind (arith, nat_tests, k x)
