-- Acts in a row, one more at a time.
use Rattle.std.proofs.Common.{◌≡◌, ℕ, zero, suc, ◌+◌, ◌<◌, ◌∙◌, sym, ap, subst, refl, Option, Some, None, List, [], ◌∷◌, ◌++◌, length, arith, append_assoc, append-nil, length-append}
use Rattle.turnstile.specs.declared.entry.Entry.{Entry}
use Rattle.turnstile.specs.declared.view.View.{View}
use Rattle.turnstile.specs.Entries.{Begins, entry, own, Met}
use Rattle.turnstile.specs.Turns.{drawn, ticket_after, one_less}
use Rattle.turnstile.specs.Passes.{IsSamePass, Called, HadTurn}
use Rattle.turnstile.specs.Rows.{HasSameCalls, HasTickets, at_rest, InRow, no_more, one_more, CalledFront}
use Rattle.turnstile.proofs.Turning.{called}

module _ {V A R : Type 0} (legal : V → List (Entry A R) → Type 0) (may : V → List (Entry A R) → A → Type 0) (reaches : V → List (Entry A R) → V → Type 0) (first : V) where
  abbrev W : Type 0
  W = View V A R

  pub same_trans : (u v w : W) → HasSameCalls u v → HasSameCalls v w → HasSameCalls u w
  same_trans u v w a b = ((b.0.0 ∙ a.0.0, b.0.1 ∙ a.0.1, b.0.2 ∙ a.0.2), b.1 ∙ a.1, b.2 ∙ a.2)

  -- the call, from a pass with the same calls and to one
  pub called_too : (v v' w w' : W) (act : A) (place : ℕ) (r : R) → v'.ticket ≡ None → HasSameCalls v v' → w'.seen ≡ w.seen → w'.mine ≡ w.mine → Called legal may first v act place r w → Called legal may first v' act place r w'
  called_too v v' w w' act place r none same seen mine c =
      let own_is : v'.mine ++ entry v'.number act r ∷ [] ≡ v.mine ++ entry v.number act r ∷ [] = λ i. same.2 i ++ entry (same.0.0 i) act r ∷ [] in
      let moved : own v'.number w'.seen ≡ own v.number w.seen = λ i. own (same.0.0 i) (seen i) in record {
        had_none = none;
        before = c.before;
        is_seen = seen ∙ (c.is_seen ∙ sym (ap (λ (n : ℕ). c.before ++ entry n act r ∷ []) same.0.0));
        at_place = c.at_place;
        in_time = c.in_time;
        earlier = subst (λ (l : List (Entry A R)). Begins l c.before) (sym same.1) c.earlier;
        is_legal = subst (λ (l : List (Entry A R)). legal first l) (sym seen) c.is_legal;
        met = subst (λ (l : List (Entry A R)). Met (may first) l) (sym seen) c.met;
        added = mine ∙ (c.added ∙ sym own_is);
        mine = moved ∙ (c.mine ∙ sym mine);
      }

  -- the row, from a pass with the same calls
  pub row_from : (place : ℕ) (v v' w : W) (acts : List A) (rs : List R) → v'.ticket ≡ None → HasSameCalls v v' → InRow legal may first place v acts rs w → InRow legal may first place v' acts rs w
  row_from _ _ v' _ _ _ none same (no_more place v w s) = no_more place v' w ((s.0.0 ∙ sym same.0.0, s.0.1 ∙ sym same.0.1, s.0.2 ∙ sym same.0.2), s.1 ∙ sym same.1, s.2 ∙ sym same.2)
  row_from _ _ v' _ _ _ none same (one_more place v u w act r acts rs c s row) = one_more place v' u w act r acts rs (called_too v v' u u act place r none same refl refl c) (s.0 ∙ sym same.0.0, s.1 ∙ sym same.0.1, s.2 ∙ sym same.0.2) row

  -- one more at the end
  pub row_more : (place : ℕ) (v v' u w : W) (acts : List A) (rs : List R) (act : A) (r : R) (at : ℕ) → v'.ticket ≡ None → HasSameCalls v v' → InRow legal may first place v acts rs u → at ≡ place + length acts
      → Called legal may first (at_rest u) act at r w → IsSamePass u w → InRow legal may first place v' (acts ++ act ∷ []) (rs ++ r ∷ []) w
  row_more _ _ v' _ w _ _ act r at none same (no_more place v u s) is c t =
      let here : at ≡ place = omega arith in
      let back : HasSameCalls (at_rest u) v' = ((same.0.0 ∙ sym s.0.0, same.0.1 ∙ sym s.0.1, same.0.2 ∙ sym s.0.2), same.1 ∙ sym s.1, same.2 ∙ sym s.2) in
      one_more place v' w w act r [] [] (subst (λ (p : ℕ). Called legal may first v' act p r w) here (called_too (at_rest u) v' w w act at r none back refl refl c))
      (t.0 ∙ sym back.0.0, t.1 ∙ sym back.0.1, t.2 ∙ sym back.0.2) (no_more (place + 1) w w ((refl, refl, refl), refl, refl))
  row_more _ _ v' _ w _ _ act r at none same (one_more place v u1 u a1 r1 acts rs c1 s1 row) is c t =
      one_more place v' (at_rest u1) w a1 r1 (acts ++ act ∷ []) (rs ++ r ∷ []) (called_too v v' u1 (at_rest u1) a1 place r1 none same refl refl c1)
      (s1.0 ∙ sym same.0.0, s1.1 ∙ sym same.0.1, s1.2 ∙ sym same.0.2)
      (row_more (place + 1) u1 (at_rest u1) u w acts rs act r at refl ((refl, refl, refl), refl, refl) row (omega arith) c t)

  -- the act after those that were called is called too
  pub front_more : (place : ℕ) (v u w : W) (acts rest : List A) (rs rs' : List R) (act : A) (r : R) (at : ℕ) → v.ticket ≡ None → CalledFront legal may first place v acts (act ∷ rest) rs rs' u → at + length (act ∷ rest) ≡ place + length acts → at < 1125899906842624
      → HadTurn legal may first u act at r w → IsSamePass u w → CalledFront legal may first place v acts rest rs (rs' ++ r ∷ []) w
  front_more place v u w acts rest rs rs' act r at none f is early t same =
      let long : length acts ≡ length f.made + length (act ∷ rest) = ap length f.asked ∙ length-append f.made (act ∷ rest) in record {
        made = f.made ++ act ∷ [];
        given = f.given ++ r ∷ [];
        asked = f.asked ∙ sym (append_assoc f.made (act ∷ []) rest);
        told = ap (λ (l : List R). l ++ r ∷ []) f.told ∙ append_assoc rs f.given (r ∷ []);
        row = row_more place v v u w f.made f.given act r at none ((refl, refl, refl), refl, refl) f.row (omega arith)
            (called legal may reaches first (at_rest u) u w w act at r refl ((refl, refl, refl), refl, refl) t early refl refl) same;
      }

  -- none so far
  pub front_none : (place : ℕ) (v w : W) (acts : List A) (rs : List R) → HasSameCalls v w → CalledFront legal may first place v acts acts rs rs w
  front_none place v w acts rs same = record { made = []; given = []; asked = refl; told = sym (append-nil rs); row = no_more place v w same }

  -- those that were called, by a pass with the same calls
  pub front_from : (place : ℕ) (v v' w : W) (acts rest : List A) (rs rs' : List R) → v'.ticket ≡ None → HasSameCalls v v' → CalledFront legal may first place v acts rest rs rs' w → CalledFront legal may first place v' acts rest rs rs' w
  front_from place v v' w acts rest rs rs' none same f = record { made = f.made; given = f.given; asked = f.asked; told = f.told; row = row_from place v v' w f.made f.given none same f.row }

  -- and by one that drew its tickets after them
  pub front_drawn : (place count : ℕ) (v w : W) (m : W × List (ℕ × Option V)) (holds : List (ℕ × Option V)) (acts rest : List A) (rs rs' : List R) → v.ticket ≡ None → m ≡ (drawn v place count, holds)
      → CalledFront legal may first place (at_rest m.0) acts rest rs rs' w → CalledFront legal may first place v acts rest rs rs' w
  front_drawn place count v w m holds acts rest rs rs' none is f =
      front_from place (at_rest (drawn v place count)) v w acts rest rs rs' none ((refl, refl, refl), refl, refl) (subst (λ (z : W × List (ℕ × Option V)). CalledFront legal may first place (at_rest z.0) acts rest rs rs' w) is f)

  empty : {X : Type 0} (xs : List X) → length xs ≡ 0 → xs ≡ []
  empty [] e = refl
  empty (x ∷ xs) e = absurd (omega arith)

  -- no call comes between two that follow each other in a row
  pub none_between : (v u w : W) (act act' : A) (place at : ℕ) (r r' : R) → at ≡ place + 1 → Called legal may first v act place r u → (c : Called legal may first u act' at r' w) → c.before ≡ u.seen
  none_between v u w act act' place at r r' next_to b c =
      let long = ap length c.earlier.1 in
      let parts = length-append u.seen c.earlier.0 in
      let one = ap length b.is_seen in
      let more = length-append b.before (entry v.number act r ∷ []) in
      let here = b.at_place in
      let there = c.at_place in
      sym c.earlier.1 ∙ (ap (λ (l : List (Entry A R)). u.seen ++ l) (empty c.earlier.0 (omega arith)) ∙ append-nil u.seen)

module _ {V A R : Type 0} where
  -- one ticket less
  pub tickets_after : (v w : View V A R) (t n : ℕ) → HasTickets v t (suc n) → w.ticket ≡ ticket_after (Some t) v.more → w.more ≡ one_less v.more → HasTickets w (t + 1) n
  tickets_after v w t zero has ticket more = ticket ∙ ap (λ m. ticket_after (Some t) m) has.1
  tickets_after v w t (suc n) has ticket more = (ticket ∙ ap (λ m. ticket_after (Some t) m) has.1, more ∙ ap one_less has.1)
