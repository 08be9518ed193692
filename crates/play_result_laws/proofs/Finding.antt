-- The one of a list that passes a test, and what the link at a port carries.
use Rattle.std.proofs.Common.{◌≡◌, ℕ, zero, suc, ◌==◌, ◌&&◌, Bool, true, if◌then◌else◌, List, [], ◌∷◌, ◌++◌, slice_get, Some, refl, ◌∙◌, ap, eqb-true, eq-eqb, arith}
use Rattle.std.specs.List.{AllByRecursion, position_or_len}
use Rattle.machine_laws.proofs.Accepting.{both_of}
use Rattle.machine_laws.proofs.Finding.{either}
use Rattle.play_forms.specs.declared.joint.Joint.{Joint}
use Rattle.play_forms.specs.Settling.{into, out_of}

pub position_found : {X : Type 0} (test : X → Bool) (xs : List X) (k : ℕ) (x : X) → slice_get xs k ≡ Some x → test x ≡ true
    → ((i : ℕ) (y : X) → slice_get xs i ≡ Some y → test y ≡ true → i ≡ k) → position_or_len test xs ≡ k
position_found test [] k x e t one = absurd cc
position_found test (y ∷ xs) zero x e t one = let s : y ≡ x = cc in let h : test y ≡ true = ap test s ∙ t in rw h refl
position_found test (y ∷ xs) (suc k) x e t one = either (test y)
    (λ h. let z : 0 ≡ suc k = one 0 y refl h in absurd (omega arith))
    (λ h.
    let i = position_found test xs k x e t (λ j z f u. let q : suc j ≡ suc k = one (suc j) z f u in omega arith) in
    rw h (omega arith))

-- the first of the two lists that is at a port
abbrev at_taker : ℕ → ℕ → Joint → Bool
at_taker place input joint = joint.taker == place && joint.input == input

abbrev at_giver : ℕ → ℕ → Joint → Bool
at_giver place output joint = joint.giver == place && joint.output == output

pub into_found : {A : Type 0} (none : A) (joints : List Joint) (values : List A) (place input k : ℕ) (joint : Joint) (value : A) → slice_get joints k ≡ Some joint → slice_get values k ≡ Some value
    → at_taker place input joint ≡ true → ((i : ℕ) (y : Joint) → slice_get joints i ≡ Some y → at_taker place input y ≡ true → i ≡ k) → into none joints values place input ≡ value
into_found none [] values place input k joint value e f t one = absurd cc
into_found none (y ∷ joints) [] place input k joint value e f t one = absurd cc
into_found none (y ∷ joints) (z ∷ values) place input zero joint value e f t one =
    let s : y ≡ joint = cc in
    let v : z ≡ value = cc in
    let h : at_taker place input y ≡ true = ap (at_taker place input) s ∙ t in
    ap (λ (b : Bool). if b then z else into none joints values place input) h ∙ v
into_found none (y ∷ joints) (z ∷ values) place input (suc k) joint value e f t one = either (at_taker place input y)
    (λ h. let q : 0 ≡ suc k = one 0 y refl h in absurd (omega arith))
    (λ h. ap (λ (b : Bool). if b then z else into none joints values place input) h ∙ into_found none joints values place input k joint value e f t (λ j u g r. let q : suc j ≡ suc k = one (suc j) u g r in omega arith))

pub out_found : {A : Type 0} (none : A) (joints : List Joint) (values : List A) (place output k : ℕ) (joint : Joint) (value : A) → slice_get joints k ≡ Some joint → slice_get values k ≡ Some value
    → at_giver place output joint ≡ true → ((i : ℕ) (y : Joint) → slice_get joints i ≡ Some y → at_giver place output y ≡ true → i ≡ k) → out_of none joints values place output ≡ value
out_found none [] values place output k joint value e f t one = absurd cc
out_found none (y ∷ joints) [] place output k joint value e f t one = absurd cc
out_found none (y ∷ joints) (z ∷ values) place output zero joint value e f t one =
    let s : y ≡ joint = cc in
    let v : z ≡ value = cc in
    let h : at_giver place output y ≡ true = ap (at_giver place output) s ∙ t in
    ap (λ (b : Bool). if b then z else out_of none joints values place output) h ∙ v
out_found none (y ∷ joints) (z ∷ values) place output (suc k) joint value e f t one = either (at_giver place output y)
    (λ h. let q : 0 ≡ suc k = one 0 y refl h in absurd (omega arith))
    (λ h. ap (λ (b : Bool). if b then z else out_of none joints values place output) h ∙ out_found none joints values place output k joint value e f t (λ j u g r. let q : suc j ≡ suc k = one (suc j) u g r in omega arith))

pub both_true : (a b c d : ℕ) → a ≡ b → c ≡ d → (a == b && c == d) ≡ true
both_true a b c d e f = let x : (a == b) ≡ true = eq-eqb a b e in let y : (c == d) ≡ true = eq-eqb c d f in rw (x, y) refl

pub both_equal : (a b c d : ℕ) → (a == b && c == d) ≡ true → (a ≡ b) × (c ≡ d)
both_equal a b c d h = let r = both_of (a == b) (c == d) h in (eqb-true a b r.0, eqb-true c d r.1)

-- ---- all of a list

pub all_append : {X : Type 0} (P : X → Type 0) (xs ys : List X) → AllByRecursion P xs → AllByRecursion P ys → AllByRecursion P (xs ++ ys)
all_append P [] ys A B = B
all_append P (x ∷ xs) ys A B = (A.0, all_append P xs ys A.1 B)

pub all_of : {X : Type 0} (P Q : X → Type 0) (xs : List X) → ((x : X) → P x → Q x) → AllByRecursion P xs → AllByRecursion Q xs
all_of P Q [] f A = tt
all_of P Q (x ∷ xs) f A = (f x A.0, all_of P Q xs f A.1)
