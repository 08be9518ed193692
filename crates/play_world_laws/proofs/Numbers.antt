-- The step of a work that is out: its number of frames is one of the model's, and it is the last step where the model's is.
use Rattle.std.proofs.Common.{◌≡◌, ℕ, zero, suc, ◌+◌, ◌-◌, ◌<◌, ◌≤◌, Bool, true, false, ◌&&◌, nat_eq, nat_le, if◌then◌else◌, List, [], ◌∷◌, slice_get, Some, refl, sym, ◌∙◌, ap, eq-eqb, ne_eqb, leb-true, leb-false, arith}
use Rattle.std.specs.List.{list_all, list_any}
use Rattle.part_api.specs.Terms.{Terms}
use Rattle.il_machine.specs.Lists.{least}
use Rattle.il_machine.specs.Claims.{CarriedHeader}
use Rattle.il_machine.specs.Stepping.{has_ended_by, ended_from}
use Rattle.machine_laws.proofs.Finding.{either}
use Rattle.play_model.specs.Network.{Filled, LinkState}
use Rattle.play_model.specs.Moves.{took, took_front}

-- ---- the least of a list

pub least_low : (ns : List ℕ) (k m : ℕ) → slice_get ns k ≡ Some m → least ns ≤ m
least_low [] k m e = absurd cc
least_low (n ∷ []) zero m e = let s : n ≡ m = cc in omega arith
least_low (n ∷ []) (suc k) m e = absurd cc
least_low (n ∷ u ∷ ns) zero m e = let s : n ≡ m = cc in omega arith
least_low (n ∷ u ∷ ns) (suc k) m e = let i = least_low (u ∷ ns) k m e in omega arith

-- ---- tests of a list

pub some_passes : {X : Type 0} (test : X → Bool) (xs : List X) → list_any test xs ≡ true → (i : ℕ) × (y : X) × (slice_get xs i ≡ Some y) × (test y ≡ true)
some_passes test [] h = absurd cc
some_passes test (y ∷ xs) h = either (test y)
    (λ t. (0, y, refl, t))
    (λ t. let r = some_passes test xs (rw t at h) in (suc r.0, r.1, r.2, r.3))

pub some_fails : {X : Type 0} (test : X → Bool) (xs : List X) → list_all test xs ≡ false → (i : ℕ) × (y : X) × (slice_get xs i ≡ Some y) × (test y ≡ false)
some_fails test [] h = absurd cc
some_fails test (y ∷ xs) h = either (test y)
    (λ t. let r = some_fails test xs (rw t at h) in (suc r.0, r.1, r.2, r.3))
    (λ t. (0, y, refl, t))

-- ---- which inputs have ended

pub ended_at : (t : Terms) (n : ℕ) (hs : List CarriedHeader) (port count i : ℕ) → i < count → slice_get (ended_from t n hs port count) i ≡ Some (has_ended_by t n hs (port + i))
ended_at t n hs port zero i l = absurd (omega arith)
ended_at t n hs port (suc count) zero l = let z : port ≡ port + 0 = omega arith in ap (λ (k : ℕ). Some (has_ended_by t n hs k)) z
ended_at t n hs port (suc count) (suc i) l = let z : port + 1 + i ≡ port + suc i = omega arith in ended_at t n hs (port + 1) count i (omega arith) ∙ ap (λ (k : ℕ). Some (has_ended_by t n hs k)) z

pub took_open : (n : ℕ) (y : LinkState) (h : Filled) (hs : List Filled) → y.closed ≡ false → y.held ≡ h ∷ hs → (took n y).closed ≡ (nat_le h.frames n && h.last)
took_open n y h hs f e =
    let a : (took n y).closed ≡ (took_front n y.held y).closed = ap (λ (z : Bool). (if z then y else took_front n y.held y).closed) f in
    let b : (took_front n y.held y).closed ≡ (took_front n (h ∷ hs) y).closed = ap (λ (q : List Filled). (took_front n q y).closed) e in
    a ∙ (b ∙ either (nat_le h.frames n)
    (λ t. ap (λ (z : Bool). (if z then record y { held = hs; spent = y.spent + 1; taken = y.taken + h.frames; closed = h.last } else record y { held = record h { frames = h.frames - n } ∷ hs; taken = y.taken + n }).closed) t ∙ sym (ap (λ (z : Bool). z && h.last) t))
    (λ t. ap (λ (z : Bool). (if z then record y { held = hs; spent = y.spent + 1; taken = y.taken + h.frames; closed = h.last } else record y { held = record h { frames = h.frames - n } ∷ hs; taken = y.taken + n }).closed) t ∙ (f ∙ sym (ap (λ (z : Bool). z && h.last) t))))

pub took_closed : (n : ℕ) (y : LinkState) → y.closed ≡ true → took n y ≡ y
took_closed n y f = ap (λ (z : Bool). if z then y else took_front n y.held y) f

pub none_left : (k n : ℕ) → nat_eq (k - n) 0 ≡ nat_le k n
none_left k n = either (nat_le k n)
    (λ t. let l = leb-true k n t in eq-eqb (k - n) 0 (omega arith) ∙ sym t)
    (λ f. let l = leb-false k n f in ne_eqb (k - n) 0 (λ z. omega arith) ∙ sym f)
