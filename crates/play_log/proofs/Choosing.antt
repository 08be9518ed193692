-- The lists of several passes, merged by place, are the list of all.
use Rattle.std.proofs.Common.{◌≡◌, ℕ, zero, suc, ◌+◌, ◌<◌, ◌≤◌, ◌==◌, cond, List, [], ◌∷◌, Bool, true, false, All, Option, Some, None, sym, refl, ap, ◌∙◌, subst, arith, eq-eqb, ne_eqb}
use mathlib.Core.Logic.{dite}
use native.Mathlib.Decide.{ℕ_discrete}
use Rattle.std.proofs.lemmas.Bool.{lt-ltb, le-ltb}
use Rattle.std.proofs.lemmas.List.Elements.{All-head, All-tail}
use Rattle.play_log.specs.Choosing.{chosen, lists_by, of_pass, only_if, picked}
use Rattle.play_log.specs.Lines.{LogLine}
use Rattle.play_log.specs.Merged.{merged, merged_all}
use Rattle.play_log.specs.Places.{PlacedLine, line_place}

-- the first line is after the place n
abbrev Above : ℕ → List PlacedLine → Type 0
Above n [] = Unit {0}
Above n (x ∷ xs) = n < x.place

above_case : (o : Option LogLine) (n k : ℕ) (lines : List PlacedLine) → n < k → Above n lines → Above n (picked o k lines)
above_case (Some line) n k lines lt h = lt
above_case None n k lines lt h = h

above : {E : Type 0} (f : E → Option LogLine) (n k : ℕ) (es : List E) → n < k → Above n (chosen f k es)
above f n k [] lt = tt
above f n k (e ∷ es) lt = let more : n < k + 1 = omega (arith, lt) in above_case (f e) n k (chosen f (k + 1) es) lt (above f n (k + 1) es more)

left_first : (x : PlacedLine) (xs ys : List PlacedLine) → Above x.place ys → merged line_place (x ∷ xs) ys ≡ x ∷ merged line_place xs ys
left_first x xs [] h = refl
left_first x xs (y ∷ ys) h = ap (λ b. cond b (x ∷ merged line_place xs (y ∷ ys)) (y ∷ merged line_place (x ∷ xs) ys)) (lt-ltb x.place y.place h)

right_first : (y : PlacedLine) (xs ys : List PlacedLine) → Above y.place xs → merged line_place xs (y ∷ ys) ≡ y ∷ merged line_place xs ys
right_first y [] ys h = refl
right_first y (x ∷ xs) ys h = let le : y.place ≤ x.place = omega (arith, h) in ap (λ b. cond b (x ∷ merged line_place xs (y ∷ ys)) (y ∷ merged line_place (x ∷ xs) ys)) (le-ltb x.place y.place le)

-- at most one of the two is there, and the third is that one
abbrev Apart : Option LogLine → Option LogLine → Option LogLine → Type 0
Apart None b c = b ≡ c
Apart (Some line) b c = (b ≡ None) × (Some line ≡ c)

step_case : (a b c : Option LogLine) (n : ℕ) (xs ys zs : List PlacedLine) → Above n xs → Above n ys → merged line_place xs ys ≡ zs → Apart a b c → merged line_place (picked a n xs) (picked b n ys) ≡ picked c n zs
step_case (Some line) (Some other) c n xs ys zs ax ay m h = let bad = h.0 in absurd cc
step_case (Some line) None c n xs ys zs ax ay m h = left_first (record { place = n; line = line }) xs ys ay ∙ (ap (λ l. record { place = n; line = line } ∷ l) m ∙ ap (λ o. picked o n zs) h.1)
step_case None (Some line) c n xs ys zs ax ay m h = right_first (record { place = n; line = line }) xs ys ax ∙ (ap (λ l. record { place = n; line = line } ∷ l) m ∙ ap (λ o. picked o n zs) h)
step_case None None c n xs ys zs ax ay m h = m ∙ ap (λ o. picked o n zs) h

-- the merge of two choices that have nothing in common is the choice of both
merged_chosen : {E : Type 0} (f g h : E → Option LogLine) (n : ℕ) (es : List E) → ((e : E) → Apart (f e) (g e) (h e)) → merged line_place (chosen f n es) (chosen g n es) ≡ chosen h n es
merged_chosen f g h n [] apart = refl
merged_chosen f g h n (e ∷ es) apart = let lt : n < n + 1 = omega arith in
    step_case (f e) (g e) (h e) n (chosen f (n + 1) es) (chosen g (n + 1) es) (chosen h (n + 1) es) (above f n (n + 1) es lt) (above g n (n + 1) es lt) (merged_chosen f g h (n + 1) es apart) (apart e)

-- ---- the passes from p on, so many

-- the pass k is one of them
is_among : ℕ → ℕ → ℕ → Bool
is_among p zero k = false
is_among p (suc more) k = cond (k == p) true (is_among (p + 1) more k)

before : (p more k : ℕ) → k < p → is_among p more k ≡ false
unfolding is_among
before p zero k lt = refl
before p (suc more) k lt =
    let other : k ≡ p → ⊥ = λ e. omega (arith, e, lt) in
    let later : k < p + 1 = omega (arith, lt) in
    ap (λ b. cond b true (is_among (p + 1) more k)) (ne_eqb k p other) ∙ before (p + 1) more k later

within : (p more k : ℕ) → p ≤ k → k < p + more → is_among p more k ≡ true
unfolding is_among
within p zero k le lt = absurd (omega (arith, le, lt))
within p (suc more) k le lt = dite (ℕ_discrete k p)
    (λ at. ap (λ b. cond b true (is_among (p + 1) more k)) (eq-eqb k p at))
    (λ other. let low : p + 1 ≤ k = omega (arith, le, other) in let high : k < p + 1 + more = omega (arith, lt) in
    ap (λ b. cond b true (is_among (p + 1) more k)) (ne_eqb k p other) ∙ within (p + 1) more k low high)

-- a pass is one of them, or the first, or none
abbrev Three : Bool → Bool → Bool → Option LogLine → Type 0
Three at rest all o = Apart (only_if at o) (only_if rest o) (only_if all o)

case_first : (o : Option LogLine) → Three true false true o
case_first None = refl
case_first (Some line) = (refl, refl)

case_other : (b : Bool) (o : Option LogLine) → Three false b b o
case_other b o = refl

apart_from : (p more k : ℕ) (o : Option LogLine) → Three (k == p) (is_among (p + 1) more k) (is_among p (suc more) k) o
unfolding is_among
apart_from p more k o = dite (ℕ_discrete k p)
    (λ at. let lt : k < p + 1 = omega (arith, at) in
    subst (λ (w : Bool × Bool). Three w.0 w.1 (cond w.0 true w.1) o) (λ i. (sym (eq-eqb k p at) i, sym (before (p + 1) more k lt) i)) (case_first o))
    (λ other. subst (λ (b : Bool). Three b (is_among (p + 1) more k) (cond b true (is_among (p + 1) more k)) o) (sym (ne_eqb k p other)) (case_other (is_among (p + 1) more k) o))

module _ {E : Type 0} (pass : E → ℕ) (says : E → Option LogLine) where
  abbrev among : ℕ → ℕ → E → Option LogLine
  among p more e = only_if (is_among p more (pass e)) (says e)

  none_chosen : (p n : ℕ) (es : List E) → chosen (among p 0) n es ≡ []
  unfolding is_among
  none_chosen p n [] = refl
  none_chosen p n (e ∷ es) = none_chosen p (n + 1) es

  lists_merged : (p more : ℕ) (es : List E) → merged_all line_place (lists_by pass says p more es) ≡ chosen (among p more) 0 es
  lists_merged p zero es = sym (none_chosen p 0 es)
  lists_merged p (suc more) es =
      ap (merged line_place (chosen (of_pass pass says p) 0 es)) (lists_merged (p + 1) more es)
      ∙ merged_chosen (of_pass pass says p) (among (p + 1) more) (among p (suc more)) 0 es (λ e. apart_from p more (pass e) (says e))

  all_among : (passes n : ℕ) (es : List E) → All (λ e. pass e < passes) es → chosen (among 0 passes) n es ≡ chosen says n es
  all_among passes n [] few = refl
  all_among passes n (e ∷ es) few =
      let low : 0 ≤ pass e = omega arith in
      let high : pass e < 0 + passes = omega (arith, All-head (λ (x : E). pass x < passes) e es few) in
      (λ i. picked (only_if (within 0 passes (pass e) low high i) (says e)) n (all_among passes (n + 1) es (All-tail (λ (x : E). pass x < passes) e es few) i))

  -- where each entry is of one of the passes
  pub all_lists : (passes : ℕ) (es : List E) → All (λ e. pass e < passes) es → merged_all line_place (lists_by pass says 0 passes es) ≡ chosen says 0 es
  all_lists passes es few = lists_merged 0 passes es ∙ all_among passes 0 es few
