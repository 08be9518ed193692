-- What the steps of a turn come to.
use Rattle.std.proofs.Common.{◌≡◌, ◌≢◌, ℕ, ◌<◌, ◌∙◌, sym, ap, subst, Some, None, Option, MatchBool, nat_eq, eq-eqb, ne_eqb, List, [], ◌∷◌, ◌++◌}
use mathlib.Core.Logic.{dite}
use native.Mathlib.Decide.{ℕ_discrete}
use Rattle.turnstile.specs.declared.entry.Entry.{Entry}
use Rattle.turnstile.specs.declared.view.View.{View}
use Rattle.turnstile.specs.Entries.{Begins, entry, own, next, Met}
use Rattle.turnstile.specs.Turns.{entered, left}
use Rattle.turnstile.specs.Passes.{Entered, Served, HadTurn, Called}
use Rattle.turnstile.specs.Rows.{HasSameCalls}
use Rattle.turnstile.proofs.Basics.{some_is, own_mine}

pub by_equal : {P Q : Type 0} (n t : ℕ) → (n ≡ t → P) → (n ≢ t → Q) → MatchBool (nat_eq n t) P Q
by_equal {P} {Q} n t f g = dite (ℕ_discrete n t) (λ e. subst (λ b. MatchBool b P Q) (sym (eq-eqb n t e)) (f e)) (λ ne. subst (λ b. MatchBool b P Q) (sym (ne_eqb n t ne)) (g ne))

module _ {V A R : Type 0} (legal : V → List (Entry A R) → Type 0) (may : V → List (Entry A R) → A → Type 0) (reaches : V → List (Entry A R) → V → Type 0) where
  abbrev M : Type 0
  M = View V A R × List (ℕ × Option V)

  -- the steps of a turn, one after another
  pub had_turn : (first : V) (m m2 m3 m4 : M) (act : A) (place : ℕ) (r : R) → m.0.opening ≡ Some first → Entered legal may reaches act place m m2 → Served legal may reaches act r m2 m3
      → ((a : A) → m3.0.asked ≡ Some a → m4 ≡ (left m3.0 (entry m3.0.number a r), [])) → may first m.0.mine act → HadTurn legal may first m.0 act place r m4.0
  had_turn first m m2 m3 m4 act place r opening e s leaves ok =
      let W : Type 0 = View V A R in let log : List (Entry A R) = e.0 in let x : Entry A R = entry m.0.number act r in let inside : W = entered m.0 log (Some act) in
      let p2 : m2.0 ≡ inside = ap (λ (z : M). z.0) e.2 in
      let p3 : m3.0 ≡ inside = s.same ∙ p2 in
      let p4 : m4.0 ≡ left inside x = ap (λ (z : M). z.0) (leaves act (ap (λ (z : W). z.asked) p3)) ∙ ap (λ (z : W). left z (entry z.number act r)) p3 in
      let first_is : s.first ≡ first = some_is s.first first (sym s.opening ∙ (ap (λ (z : W). z.opening) p2 ∙ opening)) in
      let h = e.4 in
      let h_first : h.first ≡ first = some_is h.first first (sym h.opening ∙ opening) in record {
        before = log;
        is_left = p4;
        at_place = sym e.3;
        earlier = h.seen;
        is_legal = subst (λ (z : V × W). legal z.0 (z.1.seen ++ entry z.1.number act r ∷ [])) (λ i. (first_is i, p2 i)) s.is_legal;
        met = next log x (subst (λ (z : V). Met (may z) log) h_first h.met) (subst (λ (l : List (Entry A R)). may first l act) (sym h.mine) ok);
        mine = own_mine m.0.number act r log ∙ ap (λ (l : List (Entry A R)). l ++ x ∷ []) h.mine;
      }

  -- what the turn was for a pass with no ticket that had made the same calls
  pub called : (first : V) (v u w w' : View V A R) (act : A) (place : ℕ) (r : R) → v.ticket ≡ None → HasSameCalls v u → HadTurn legal may first u act place r w → place < 1125899906842624 → w'.seen ≡ w.seen → w'.mine ≡ w.mine
      → Called legal may first v act place r w'
  called first v u w w' act place r none same t early seen mine =
      let W : Type 0 = View V A R in let L : Type 0 = List (Entry A R) in
      let is_seen : w'.seen ≡ t.before ++ entry v.number act r ∷ [] = seen ∙ (ap (λ (z : W). z.seen) t.is_left ∙ ap (λ (n : ℕ). t.before ++ entry n act r ∷ []) same.0.0) in
      let number : t.before ++ entry u.number act r ∷ [] ≡ w'.seen = ap (λ (n : ℕ). t.before ++ entry n act r ∷ []) same.0.0 ∙ sym is_seen in
      let own_is : u.mine ++ entry u.number act r ∷ [] ≡ v.mine ++ entry v.number act r ∷ [] = λ i. same.2 i ++ entry (same.0.0 i) act r ∷ [] in
      let added : w'.mine ≡ v.mine ++ entry v.number act r ∷ [] = mine ∙ (ap (λ (z : W). z.mine) t.is_left ∙ own_is) in
      let moved : own v.number w'.seen ≡ own u.number (t.before ++ entry u.number act r ∷ []) = λ i. own (sym same.0.0 i) (sym number i) in record {
        had_none = none;
        before = t.before;
        is_seen = is_seen;
        at_place = t.at_place;
        in_time = early;
        earlier = subst (λ (l : L). Begins l t.before) same.1 t.earlier;
        is_legal = subst (λ (l : L). legal first l) number t.is_legal;
        met = subst (λ (l : L). Met (may first) l) number t.met;
        added = added;
        mine = moved ∙ (t.mine ∙ (own_is ∙ sym added));
      }
