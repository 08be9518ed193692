-- Acts in a row: where they stand in the history, and which is the last.
use Rattle.std.proofs.Common.{◌≡◌, ℕ, ◌+◌, ◌<◌, ◌≤◌, ◌∙◌, sym, ap, subst, refl, List, [], ◌∷◌, ◌++◌, length, arith, append_assoc, append-nil, length-append}
use Rattle.turnstile.specs.declared.entry.Entry.{Entry}
use Rattle.turnstile.specs.declared.view.View.{View}
use Rattle.turnstile.specs.Entries.{Begins, entry}
use Rattle.turnstile.specs.Rows.{InRow, no_more, one_more}
use Rattle.board.specs.Rows.{entries_of}

none : {X : Type 0} (xs : List X) → length xs ≡ 0 → xs ≡ []
none [] e = refl
none (x ∷ xs) e = absurd (omega arith)

-- a list that begins with another one of its length is that one
begins_all : {X : Type 0} (xs ys : List X) → Begins xs ys → length ys ≡ length xs → ys ≡ xs
begins_all xs ys b long =
    let all = ap length b.1 in
    let parts = length-append xs b.0 in
    sym b.1 ∙ (ap (λ l. xs ++ l) (none b.0 (omega arith)) ∙ append-nil xs)

pub snoc_last : {X : Type 0} (xs ys : List X) (x y : X) → xs ++ x ∷ [] ≡ ys ++ y ∷ [] → x ≡ y
snoc_last [] [] x y e = cc
snoc_last [] (z ∷ zs) x y e = let n = ap length e in let m = length-append zs (y ∷ []) in absurd (omega arith)
snoc_last (z ∷ zs) [] x y e = let n = ap length e in let m = length-append zs (x ∷ []) in absurd (omega arith)
snoc_last (z ∷ zs) (w ∷ ws) x y e = let t : zs ++ x ∷ [] ≡ ws ++ y ∷ [] = cc in snoc_last zs ws x y t

-- what is last of two and more is last behind the first
last_behind : {X : Type 0} (x y : X) (ys before : List X) (t : X) → x ∷ y ∷ ys ≡ before ++ t ∷ [] → (rest : List X) × (y ∷ ys ≡ rest ++ t ∷ [])
last_behind x y ys [] t e = let n = ap length e in absurd (omega arith)
last_behind x y ys (z ∷ zs) t e = let rest : y ∷ ys ≡ zs ++ t ∷ [] = cc in (zs, rest)

module _ {V A R : Type 0} (legal : V → List (Entry A R) → Type 0) (may : V → List (Entry A R) → A → Type 0) (first : V) where
  -- the history ends with a call that had this reply, and is legal
  abbrev pub EndsWith : List (Entry A R) → R → Type 0
  EndsWith seen r = (before : List (Entry A R)) × (p : ℕ) × (a : A) × (seen ≡ before ++ entry p a r ∷ []) × legal first seen

  ends_more : (place : ℕ) (u w : View V A R) (acts : List A) (rs : List R) (r : R) (before : List R) (t : R) → InRow legal may first place u acts rs w → r ∷ rs ≡ before ++ t ∷ [] → EndsWith u.seen r → EndsWith w.seen t
  ends_more _ _ _ _ _ r before t (no_more place u w same) is e =
      let at : r ≡ t = snoc_last [] before r t is in
      (e.0, e.1, e.2, same.1 ∙ (e.3 ∙ ap (λ (s : R). e.0 ++ entry e.1 e.2 s ∷ []) at), subst (λ (l : List (Entry A R)). legal first l) (sym same.1) e.4)
  ends_more _ _ _ _ _ r before t (one_more place u x w act r' acts rs c s row) is e =
      let more = last_behind r r' rs before t is in
      ends_more (place + 1) x w acts rs r' more.0 t row more.1 (c.before, u.number, act, c.is_seen, c.is_legal)

  -- after a row the history ends with the last of its calls
  pub row_ends : (place : ℕ) (v w : View V A R) (acts : List A) (rs before : List R) (t : R) → InRow legal may first place v acts rs w → rs ≡ before ++ t ∷ [] → EndsWith w.seen t
  row_ends _ _ _ _ _ before t (no_more place v w same) is = let n = ap length is in let m = length-append before (t ∷ []) in absurd (omega arith)
  row_ends _ _ _ _ _ before t (one_more place v u w act r acts rs c s row) is = ends_more (place + 1) u w acts rs r before t row is (c.before, v.number, act, c.is_seen, c.is_legal)

  -- ---- where they stand

  behind : (place : ℕ) (u w : View V A R) (acts : List A) (rs : List R) → InRow legal may first place u acts rs w → place ≡ length u.seen → w.seen ≡ u.seen ++ entries_of u.number acts rs
  behind _ _ _ _ _ (no_more place u w same) at = same.1 ∙ sym (append-nil u.seen)
  behind _ _ _ _ _ (one_more place u x w act r acts rs c s row) at =
      let here : c.before ≡ u.seen = begins_all u.seen c.before c.earlier (let there = c.at_place in omega arith) in
      let next : x.seen ≡ u.seen ++ entry u.number act r ∷ [] = c.is_seen ∙ ap (λ (l : List (Entry A R)). l ++ entry u.number act r ∷ []) here in
      let long = ap length next in
      let parts = length-append u.seen (entry u.number act r ∷ []) in
      behind (place + 1) x w acts rs row (omega arith)
      ∙ (ap (λ (l : List (Entry A R)). l ++ entries_of x.number acts rs) next
      ∙ (append_assoc u.seen (entry u.number act r ∷ []) (entries_of x.number acts rs) ∙ ap (λ (n : ℕ). u.seen ++ entry u.number act r ∷ entries_of n acts rs) s.0))

  -- the calls of a row stand together in the history, behind all that had been seen
  pub row_stands : (place : ℕ) (v w : View V A R) (acts : List A) (rs : List R) → InRow legal may first place v acts rs w → 0 < length acts
      → (before : List (Entry A R)) × (place ≡ length before) × Begins v.seen before × (w.seen ≡ before ++ entries_of v.number acts rs)
  row_stands _ _ _ _ _ (no_more place v w same) some = absurd (omega arith)
  row_stands _ _ _ _ _ (one_more place v u w act r acts rs c s row) some =
      let there = c.at_place in
      let long = ap length c.is_seen in
      let parts = length-append c.before (entry v.number act r ∷ []) in (
        c.before,
        c.at_place,
        c.earlier,
        behind (place + 1) u w acts rs row (omega arith)
            ∙ (ap (λ (l : List (Entry A R)). l ++ entries_of u.number acts rs) c.is_seen
            ∙ (append_assoc c.before (entry v.number act r ∷ []) (entries_of u.number acts rs) ∙ ap (λ (n : ℕ). c.before ++ entry v.number act r ∷ entries_of n acts rs) s.0)),
      )

  -- and are the pass's own
  pub row_own : (place : ℕ) (v w : View V A R) (acts : List A) (rs : List R) → InRow legal may first place v acts rs w → w.mine ≡ v.mine ++ entries_of v.number acts rs
  row_own _ _ _ _ _ (no_more place v w same) = same.2 ∙ sym (append-nil v.mine)
  row_own _ _ _ _ _ (one_more place v u w act r acts rs c s row) =
      row_own (place + 1) u w acts rs row
      ∙ (ap (λ (l : List (Entry A R)). l ++ entries_of u.number acts rs) c.added
      ∙ (append_assoc v.mine (entry v.number act r ∷ []) (entries_of u.number acts rs) ∙ ap (λ (n : ℕ). v.mine ++ entry v.number act r ∷ entries_of n acts rs) s.0))

  -- ---- their places

  in_time_more : (place : ℕ) (v w : View V A R) (acts : List A) (rs : List R) → InRow legal may first place v acts rs w → place ≤ 1125899906842624 → place + length rs ≤ 1125899906842624
  in_time_more _ _ _ _ _ (no_more place v w same) early = omega arith
  in_time_more _ _ _ _ _ (one_more place v u w act r acts rs c s row) early = let t = c.in_time in let l = in_time_more (place + 1) u w acts rs row (omega arith) in omega arith

  -- they are below the most
  pub row_in_time : (place : ℕ) (v w : View V A R) (acts : List A) (rs : List R) → InRow legal may first place v acts rs w → 0 < length acts → place + length rs ≤ 1125899906842624
  row_in_time _ _ _ _ _ (no_more place v w same) some = absurd (omega arith)
  row_in_time _ _ _ _ _ (one_more place v u w act r acts rs c s row) some = let t = c.in_time in let l = in_time_more (place + 1) u w acts rs row (omega arith) in omega arith
