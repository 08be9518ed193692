-- Where every component gives in its turn, behind all that it takes from, each link has in the end what its giver gives of them.
use Rattle.std.proofs.Common.{◌≡◌, ℕ, zero, suc, ◌<◌, true, false, not, ◌==◌, ◌&&◌, ◌||◌, cond, List, [], ◌∷◌, ◌++◌, length, Some, refl, sym, ◌∙◌, ap, subst, append_assoc, arith}
use Rattle.std.specs.Prelude.{slice_get}
use Rattle.std.proofs.Math.Path.{fun_ext}
use Rattle.std.proofs.lemmas.Bool.{eqb-true}
use Rattle.std.proofs.lemmas.List.{append-nil}
use Rattle.play_forms.specs.declared.joint.Joint.{Joint}
use Rattle.play_forms.specs.Placing.{IsOrder, can_place, has_place, is_fed}
use Rattle.play_forms.specs.Settling.{AreSettled, given_along, into, with_given}
use Rattle.play_forms.proofs.Places.{Goes, Some_same, and_both, fed_kept, goes_on, has_place_more, not_true, or_cases, other_place}

pub length-with_given : {A : Type 0} (given : ℕ → A) (joints : List Joint) (values : List A) (p : ℕ) → length values ≡ length joints
    → length (with_given given joints values p) ≡ length joints
length-with_given given [] values p e = refl
length-with_given given (joint ∷ joints) [] p e = e
length-with_given given (joint ∷ joints) (value ∷ values) p e = ap suc (length-with_given given joints values p (omega arith))

-- ---- a component's giving leaves what comes into those that take nothing of it

into_same : {A : Type 0} (none : A) (given : ℕ → A) (placed : List ℕ) (p q input : ℕ) → has_place placed p ≡ false
    → (joints : List Joint) (values : List A) → is_fed joints placed q ≡ true
    → into none joints (with_given given joints values p) q input ≡ into none joints values q input
into_same none given placed p q input new [] values fed = refl
into_same none given placed p q input new (joint ∷ joints) [] fed = refl
into_same none given placed p q input new (joint ∷ joints) (value ∷ values) fed =
    let parts = and_both (not (joint.taker == q) || has_place placed joint.giver) (is_fed joints placed q) fed in
    let rest = into_same none given placed p q input new joints values parts.1 in
    or_cases (not (joint.taker == q)) (has_place placed joint.giver) parts.0
    (λ other. let o : (joint.taker == q) ≡ false = not_true (joint.taker == q) other in rw o rest)
    (λ there. let o : (joint.giver == p) ≡ false = other_place placed p joint.giver there new in rw o (ap (cond (joint.taker == q && joint.input == input) value) rest))

into_kept : {A : Type 0} (none : A) (given : ℕ → A) (placed : List ℕ) (p q : ℕ) (joints : List Joint) (values : List A)
    → has_place placed p ≡ false → is_fed joints placed q ≡ true → into none joints (with_given given joints values p) q ≡ into none joints values q
into_kept none given placed p q joints values new fed = fun_ext (λ input. into_same none given placed p q input new joints values fed)

given_at : {A : Type 0} (given : ℕ → A) (p : ℕ) (joints : List Joint) (values : List A) (k : ℕ) (joint : Joint) (value : A)
    → slice_get joints k ≡ Some joint → slice_get values k ≡ Some value
    → slice_get (with_given given joints values p) k ≡ Some (cond (joint.giver == p) (given joint.output) value)
given_at given p [] values k joint value e f = absurd cc
given_at given p (other ∷ joints) [] k joint value e f = absurd cc
given_at given p (other ∷ joints) (old ∷ values) zero joint value e f =
    let same : other ≡ joint = Some_same other joint e in
    let was : old ≡ value = Some_same old value f in
    rw (same, was) refl
given_at given p (other ∷ joints) (old ∷ values) (suc k) joint value e f = given_at given p joints values k joint value e f

has_value : {A : Type 0} (joints : List Joint) (values : List A) (k : ℕ) (joint : Joint) → length values ≡ length joints → slice_get joints k ≡ Some joint
    → (value : A) × (slice_get values k ≡ Some value)
has_value [] values k joint e f = absurd cc
has_value (other ∷ joints) [] k joint e f = absurd (omega arith)
has_value (other ∷ joints) (value ∷ values) zero joint e f = (value, refl)
has_value (other ∷ joints) (value ∷ values) (suc k) joint e f = has_value joints values k joint (omega arith) f

-- ---- how the links stand when these components have given

record Stands {A : Type 0} (rule : ℕ → (ℕ → A) → ℕ → A) (none : A) (joints : List Joint) (placed : List ℕ) (values : List A) : Type 0 where
  many : length values ≡ length joints
  fed : (q : ℕ) → has_place placed q ≡ true → is_fed joints placed q ≡ true
  each : (k : ℕ) (joint : Joint) → slice_get joints k ≡ Some joint → has_place placed joint.giver ≡ true
      → slice_get values k ≡ Some (rule joint.giver (into none joints values joint.giver) joint.output)

given_more : {A : Type 0} (rule : ℕ → (ℕ → A) → ℕ → A) (none : A) (joints : List Joint) (placed : List ℕ) (values : List A) (p : ℕ)
    → can_place joints placed p ≡ true → Stands rule none joints placed values
    → Stands rule none joints (placed ++ (p ∷ [])) (with_given (rule p (into none joints values p)) joints values p)
given_more {A} rule none joints placed values p can s =
    let cans = and_both (not (has_place placed p)) (is_fed joints placed p) can in
    let new : has_place placed p ≡ false = not_true (has_place placed p) cans.0 in
    let given : ℕ → A = rule p (into none joints values p) in
    let after : List A = with_given given joints values p in
    record {
      many = length-with_given given joints values p s.many;
      fed = λ q there. or_cases (has_place placed q) (p == q) (sym (has_place_more placed p q) ∙ there)
          (λ before. fed_kept joints placed p q (s.fed q before))
          (λ same. let e : p ≡ q = eqb-true p q same in fed_kept joints placed p q (subst (λ r. is_fed joints placed r ≡ true) e cans.1));
      each = λ k joint e there.
          let had = has_value joints values k joint s.many e in
          let now : slice_get after k ≡ Some (cond (joint.giver == p) (given joint.output) had.0) = given_at given p joints values k joint had.0 e had.1 in
          or_cases (has_place placed joint.giver) (p == joint.giver) (sym (has_place_more placed p joint.giver) ∙ there)
          (λ before.
          let o : (joint.giver == p) ≡ false = other_place placed p joint.giver before new in
          let kept : slice_get after k ≡ Some had.0 = now ∙ ap (λ b. Some (cond b (given joint.output) had.0)) o in
          kept ∙ sym had.1 ∙ s.each k joint e before
          ∙ ap (λ f. Some (rule joint.giver f joint.output)) (sym (into_kept none given placed p joint.giver joints values new (s.fed joint.giver before))))
          (λ same.
          let e' : p ≡ joint.giver = eqb-true p joint.giver same in
          let o : (joint.giver == p) ≡ true = subst (λ r. (r == p) ≡ true) e' (subst (λ r. (p == r) ≡ true) (sym e') same) in
          let mine : slice_get after k ≡ Some (given joint.output) = now ∙ ap (λ b. Some (cond b (given joint.output) had.0)) o in
          mine ∙ ap (λ f. Some (rule p f joint.output)) (sym (into_kept none given placed p p joints values new cans.1))
          ∙ ap (λ r. Some (rule r (into none joints after r) joint.output)) e');
    }

stands_along : {A : Type 0} (rule : ℕ → (ℕ → A) → ℕ → A) (none : A) (joints : List Joint) (placed places : List ℕ) (values : List A)
    → Goes joints placed places → Stands rule none joints placed values
    → Stands rule none joints (placed ++ places) (given_along rule none joints places values)
stands_along rule none joints placed [] values goes s = subst (λ all. Stands rule none joints all values) (sym (append-nil placed)) s
stands_along rule none joints placed (p ∷ places) values goes s =
    let next = given_more rule none joints placed values p goes.0 s in
    let end = stands_along rule none joints (placed ++ (p ∷ [])) places (with_given (rule p (into none joints values p)) joints values p) goes.1 next in
    subst (λ all. Stands rule none joints all (given_along rule none joints (p ∷ places) values)) (append_assoc placed (p ∷ []) places) end

pub settled : {A : Type 0} (rule : ℕ → (ℕ → A) → ℕ → A) (none : A) (joints : List Joint) (count : ℕ) (order : List ℕ) (values : List A)
    → IsOrder joints count order → ((k : ℕ) (joint : Joint) → slice_get joints k ≡ Some joint → joint.giver < count) → length values ≡ length joints
    → AreSettled rule none joints (given_along rule none joints order values)
settled rule none joints count order values is inside many =
    let opening : Stands rule none joints [] values = record { many = many; fed = λ q e. absurd cc; each = λ k joint e f. absurd cc } in
    let end = stands_along rule none joints [] order values (goes_on joints count [] order order refl is.placed) opening in
    record { many = end.many; each = λ k joint e. end.each k joint e (is.all joint.giver (inside k joint e)) }
