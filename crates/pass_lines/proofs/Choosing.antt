-- What the lines of a pass are when a history goes on.
use Rattle.std.proofs.Common.{◌≡◌, ℕ, ◌+◌, ◌<◌, ◌==◌, List, [], ◌∷◌, ◌++◌, length, Bool, true, false, All, Option, Some, None, sym, refl, ap, ◌∙◌, arith, append-nil, eq-eqb, length-append}
use mathlib.Core.Logic.{dite}
use native.Mathlib.Decide.{dec_le}
use Rattle.std.proofs.lemmas.List.{nil_from_length}
use Rattle.std.proofs.lemmas.List.Elements.{All-cons, All-nil}
use Rattle.turnstile.specs.declared.entry.Entry.{Entry}
use Rattle.turnstile.specs.Entries.{entry, kept, own}
use Rattle.turnstile.proofs.Basics.{own_append}
use Rattle.play_log.proofs.Choosing.{all_lists}
use Rattle.play_log.specs.Choosing.{chosen, lists_by, of_pass, only_if, picked}
use Rattle.play_log.specs.Lines.{LogLine}
use Rattle.play_log.specs.Merged.{merged_all}
use Rattle.play_log.specs.Places.{PlacedLine, line_place}
use Rattle.pass_lines.specs.Passes.{lines_of, pass_of}

picked_append : (o : Option LogLine) (n : ℕ) (xs ys : List PlacedLine) → picked o n (xs ++ ys) ≡ picked o n xs ++ ys
picked_append None n xs ys = refl
picked_append (Some line) n xs ys = refl

module _ {A R : Type 0} where
  pub chosen_append : (f : Entry A R → Option LogLine) (n : ℕ) (xs ys : List (Entry A R)) → chosen f n (xs ++ ys) ≡ chosen f n xs ++ chosen f (n + length xs) ys
  chosen_append f n [] ys = let z : n ≡ n + 0 = omega arith in ap (λ (k : ℕ). chosen f k ys) z
  chosen_append f n (x ∷ xs) ys = let z : n + 1 + length xs ≡ n + length (x ∷ xs) = omega arith in
      ap (λ l. picked (f x) n l) (chosen_append f (n + 1) xs ys ∙ ap (λ (k : ℕ). chosen f (n + 1) xs ++ chosen f k ys) z) ∙ picked_append (f x) n (chosen f (n + 1) xs) (chosen f (n + length (x ∷ xs)) ys)

  kept_none : (b : Bool) (e : Entry A R) (xs : List (Entry A R)) → kept b e xs ≡ [] → (b ≡ false) × (xs ≡ [])
  kept_none true e xs h = absurd cc
  kept_none false e xs h = (refl, h)

  module _ (says : Entry A R → Option LogLine) (p : ℕ) where
    abbrev Mine : Entry A R → Option LogLine
    Mine e = of_pass pass_of says p e

    -- where no entry of the pass is, none is chosen
    none : (n : ℕ) (es : List (Entry A R)) → own p es ≡ [] → chosen Mine n es ≡ []
    none n [] gone = refl
    none n (e ∷ es) gone =
        let k = kept_none (e.pass == p) e (own p es) gone in
        ap (λ b. picked (only_if b (says e)) n (chosen Mine (n + 1) es)) k.0 ∙ none (n + 1) es k.1

    -- so its lines stay where its entries do
    pub stays : (xs rest : List (Entry A R)) → own p (xs ++ rest) ≡ own p xs → lines_of says p (xs ++ rest) ≡ lines_of says p xs
    stays xs rest same =
        let l = ap length (sym (own_append p xs rest) ∙ same) in
        let k = length-append (own p xs) (own p rest) in
        let gone : own p rest ≡ [] = nil_from_length (own p rest) (omega (arith, l, k)) in
        chosen_append Mine 0 xs rest ∙ (ap (λ l. chosen Mine 0 xs ++ l) (none (0 + length xs) rest gone) ∙ append-nil (chosen Mine 0 xs))

    -- an entry more of the pass
    pub more : (xs : List (Entry A R)) (act : A) (reply : R) → lines_of says p (xs ++ entry p act reply ∷ []) ≡ lines_of says p xs ++ picked (says (entry p act reply)) (length xs) []
    more xs act reply =
        let at : 0 + length xs ≡ length xs = omega arith in
        let test : Mine (entry p act reply) ≡ says (entry p act reply) = ap (λ b. only_if b (says (entry p act reply))) (eq-eqb p p refl) in
        chosen_append Mine 0 xs (entry p act reply ∷ []) ∙ (λ i. chosen Mine 0 xs ++ picked (test i) (at i) [])

-- ---- all passes

module _ {A R : Type 0} where
  kept_some : (b : Bool) (e : Entry A R) (xs : List (Entry A R)) → b ≡ true → kept b e xs ≡ e ∷ xs
  kept_some true e xs h = refl
  kept_some false e xs h = absurd cc

  -- no pass from that number on has an entry
  pub all_below : (passes : ℕ) (es : List (Entry A R)) → ((p : ℕ) → passes < p + 1 → own p es ≡ []) → All (λ e. pass_of e < passes) es
  all_below passes [] gone = All-nil (λ e. pass_of e < passes)
  all_below passes (e ∷ es) gone =
      let low : e.pass < passes = dite (dec_le (e.pass + 1) passes)
      (λ below. omega (arith, below))
      (λ from. let high : passes < e.pass + 1 = omega (arith, from) in
      let none' = gone e.pass high in
      let some' : own e.pass (e ∷ es) ≡ e ∷ own e.pass es = kept_some (e.pass == e.pass) e (own e.pass es) (eq-eqb e.pass e.pass refl) in
      let bad = sym some' ∙ none' in
      absurd cc) in
      All-cons (λ (x : Entry A R). pass_of x < passes) e es low (all_below passes es (λ p h. (kept_none (e.pass == p) e (own p es) (gone p h)).1))

  pub all_merged : (says : Entry A R → Option LogLine) (passes : ℕ) (log : List (Entry A R)) → ((p : ℕ) → passes < p + 1 → own p log ≡ []) → merged_all line_place (lists_by pass_of says 0 passes log) ≡ chosen says 0 log
  all_merged says passes log gone = all_lists pass_of says passes log (all_below passes log gone)
