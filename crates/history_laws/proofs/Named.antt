-- The component of a number, as one component is replaced, added or removed.
use Rattle.std.proofs.Common.{◌≡◌, ◌≢◌, ◌⊎◌, inl, inr, ℕ, zero, suc, ◌<◌, ◌≤◌, false, cond, List, [], ◌∷◌, ◌++◌, set, remove, slice_get, Option, Some, None, option_map, option_and_then, refl, sym, ◌∙◌, ap, eqb-true, eq-eqb, ne_eqb, arith}
use Rattle.il_machine.specs.World.{component_numbered, Component, World, number_of, is_numbered}
use Rattle.il_machine.specs.Places.{first_place}
use Rattle.il_machine.specs.Sound.{AreRising}
use Rattle.il_machine.proofs.Places.{is_first_place}
use Rattle.machine_laws.proofs.Finding.{either}
use Rattle.machine_laws.proofs.Lookups.{rises_at}

-- the first component of the number
abbrev pub named : ℕ → List Component → Option Component
named number [] = None
named number (c ∷ cs) = cond (is_numbered number c) (Some c) (named number cs)

one_further : (c : Component) (cs : List Component) (o : Option ℕ) → option_and_then (slice_get (c ∷ cs)) (option_map suc o) ≡ option_and_then (slice_get cs) o
one_further c cs None = refl
one_further c cs (Some i) = refl

placed : (number : ℕ) (cs : List Component) → option_and_then (slice_get cs) (first_place (is_numbered number) cs) ≡ named number cs
placed number [] = refl
placed number (c ∷ cs) = either (is_numbered number c)
    (λ t. rw t refl)
    (λ f. rw f (one_further c cs (first_place (is_numbered number) cs) ∙ placed number cs))

pub is_named : (number : ℕ) (w : World) → component_numbered number w ≡ named number w.components
is_named number w = ap (option_and_then (slice_get w.components)) (is_first_place (is_numbered number) w.components) ∙ placed number w.components

pub named_number : (number : ℕ) (cs : List Component) (c : Component) → named number cs ≡ Some c → number_of c ≡ number
named_number number [] c e = absurd cc
named_number number (x ∷ cs) c e = either (is_numbered number x)
    (λ t. let s : Some x ≡ Some c = rw t at e in let is : x ≡ c = cc in rw (← is) (eqb-true _ _ t))
    (λ f. named_number number cs c (rw f at e))

-- where one component is replaced by one of its number: the component was the replaced one, or is the same as before
pub named_set : (number i : ℕ) (cs : List Component) (c d e : Component) → slice_get cs i ≡ Some c → number_of d ≡ number_of c → named number cs ≡ Some e
    → ((e ≡ c) × (named number (set cs i d) ≡ Some d)) ⊎ (named number (set cs i d) ≡ Some e)
named_set number i [] c d e at n h = absurd cc
named_set number zero (x ∷ cs) c d e at n h =
    let s : x ≡ c = cc in
    let m : number_of d ≡ number_of x = n ∙ sym (ap number_of s) in
    either (is_numbered number x)
    (λ t. let b : Some x ≡ Some e = rw t at h in let is : x ≡ e = cc in inl (sym is ∙ s, rw (m, t) refl))
    (λ f. inr (rw (m, f) (rw f at h)))
named_set number (suc i) (x ∷ cs) c d e at n h = either (is_numbered number x)
    (λ t. inr (rw t (rw t at h)))
    (λ f. rw f (named_set number i cs c d e at n (rw f at h)))

pub named_push : (number : ℕ) (cs : List Component) (d e : Component) → named number cs ≡ Some e → named number (cs ++ d ∷ []) ≡ Some e
named_push number [] d e h = absurd cc
named_push number (x ∷ cs) d e h = either (is_numbered number x)
    (λ t. rw t (rw t at h))
    (λ f. rw f (named_push number cs d e (rw f at h)))

pub named_removed : (number i : ℕ) (cs : List Component) (c : Component) → slice_get cs i ≡ Some c → number_of c ≢ number → named number (remove cs i) ≡ named number cs
named_removed number i [] c at n = absurd cc
named_removed number zero (x ∷ cs) c at n =
    let s : x ≡ c = cc in
    let f : is_numbered number x ≡ false = ne_eqb (number_of x) number (λ k. n (sym (ap number_of s) ∙ k)) in
    rw f refl
named_removed number (suc i) (x ∷ cs) c at n = either (is_numbered number x) (λ t. rw t refl) (λ f. rw f (named_removed number i cs c at n))

-- of a number below all there is none
none_below : (number from next : ℕ) (cs : List Component) → AreRising from cs next → number < from → named number cs ≡ None
none_below number from next [] R l = refl
none_below number from next (x ∷ cs) R l =
    let f : is_numbered number x ≡ false = ne_eqb (number_of x) number (λ k. omega (arith, R.0, k)) in
    rw f (none_below number (suc (number_of x)) next cs R.1 (omega (arith, R.0)))

-- a component that left isn't found any more
pub named_gone : (from next i : ℕ) (cs : List Component) (c : Component) → AreRising from cs next → slice_get cs i ≡ Some c → named (number_of c) (remove cs i) ≡ None
named_gone from next i [] c R at = absurd cc
named_gone from next zero (x ∷ cs) c R at =
    let s : x ≡ c = cc in
    let n : number_of c < suc (number_of x) = rw s (omega arith) in
    none_below (number_of c) (suc (number_of x)) next cs R.1 n
named_gone from next (suc i) (x ∷ cs) c R at =
    let r = rises_at (suc (number_of x)) next i cs c R.1 at in
    let f : is_numbered (number_of c) x ≡ false = ne_eqb (number_of x) (number_of c) (λ k. omega (arith, r.0, k)) in
    rw f (named_gone (suc (number_of x)) next i cs c R.1 at)

-- the component at a place is the one of its number
pub named_there : (from next i : ℕ) (cs : List Component) (c : Component) → AreRising from cs next → slice_get cs i ≡ Some c → named (number_of c) cs ≡ Some c
named_there from next i [] c R at = absurd cc
named_there from next zero (x ∷ cs) c R at = let s : x ≡ c = cc in rw s (rw (eq-eqb (number_of c) (number_of c) refl) refl)
named_there from next (suc i) (x ∷ cs) c R at =
    let r = rises_at (suc (number_of x)) next i cs c R.1 at in
    let f : is_numbered (number_of c) x ≡ false = ne_eqb (number_of x) (number_of c) (λ k. omega (arith, r.0, k)) in
    rw f (named_there (suc (number_of x)) next i cs c R.1 at)

pub none_set : (number i : ℕ) (cs : List Component) (c d : Component) → slice_get cs i ≡ Some c → number_of d ≡ number_of c → named number cs ≡ None → named number (set cs i d) ≡ None
none_set number i [] c d at n h = absurd cc
none_set number zero (x ∷ cs) c d at n h =
    let s : x ≡ c = cc in
    let m : number_of d ≡ number_of x = n ∙ sym (ap number_of s) in
    either (is_numbered number x)
    (λ t. let b : Some x ≡ None = rw t at h in absurd cc)
    (λ f. rw (m, f) (rw f at h))
none_set number (suc i) (x ∷ cs) c d at n h = either (is_numbered number x)
    (λ t. let b : Some x ≡ None = rw t at h in absurd cc)
    (λ f. rw f (none_set number i cs c d at n (rw f at h)))

-- of a number that isn't given yet there is none
pub none_above : (number from next : ℕ) (cs : List Component) → AreRising from cs next → next ≤ number → named number cs ≡ None
none_above number from next [] R l = refl
none_above number from next (x ∷ cs) R l =
    let r = rises_at from next 0 (x ∷ cs) x R refl in
    let f : is_numbered number x ≡ false = ne_eqb (number_of x) number (λ k. omega (arith, r.1, k, l)) in
    rw f (none_above number (suc (number_of x)) next cs R.1 l)
