-- A call of the purse is a step of its run.
use Rattle.std.proofs.Common.{◌≡◌, ℕ, ◌∙◌, ap, refl, sym, subst, Some, None, Option, List, [], ◌∷◌, ◌++◌}
use Rattle.std.proofs.Common.{◌≤◌, ◌<◌, ◌+◌, length, length-append, arith}
use Rattle.std.proofs.lemmas.Option.{none-some}
use mathlib.Core.Logic.{dite, ⊎_elim}
use native.Mathlib.Decide.{dec_le}
use Rattle.turnstile.specs.Entries.{entry, own, Met}
use Rattle.turnstile_uses.specs.declared.coin.Coin.{Coin}
use Rattle.turnstile_uses.specs.declared.coin.Ask.{Ask}
use Rattle.turnstile_uses.specs.declared.coin.Ask.TheVariants.{Take, Back}
use Rattle.turnstile_uses.specs.declared.coin.Answer.{Answer}
use Rattle.turnstile_uses.specs.declared.coin.Answer.TheVariants.{Got, Thanks}
use Rattle.turnstile_uses.specs.Runs.{E, Run, take, back, held, or_held, after, May}
use Rattle.turnstile_uses.proofs.Holding.{held_snoc, somewhere}

pub takes : (first s found new : Option Coin) (log : List E) (pass : ℕ) (act : Ask) → act ≡ Take → found ≡ s → new ≡ None → Run first log s → Run first (log ++ entry pass act (Got found) ∷ []) new
takes first s found new log pass act a f n r = subst (λ (z : Ask × Option Coin × Option Coin). Run first (log ++ entry pass z.0 (Got z.1) ∷ []) z.2) (λ i. (sym a i, sym f i, sym n i)) (take log pass s r)

pub backs : (first s new : Option Coin) (c : Coin) (log : List E) (pass : ℕ) (act : Ask) → act ≡ Back c → s ≡ None → new ≡ Some c → Run first log s → Run first (log ++ entry pass act Thanks ∷ []) new
backs first s new c log pass act a e n r = subst (λ (z : Ask × Option Coin). Run first (log ++ entry pass z.0 Thanks ∷ []) z.1) (λ i. (sym a i, sym n i)) (back log pass c (subst (Run first log) e r))

or_none : (c : Option Coin) → or_held c None ≡ c
or_none (Some c) = refl
or_none None = refl

pub took : (own new : List E) (pass : ℕ) (r : Answer) (c : Option Coin) → r ≡ Got c → new ≡ own ++ entry pass Take r ∷ [] → held own ≡ None → held new ≡ c
took own new pass r c is e h = ap held e ∙ (held_snoc None own (entry pass Take r) ∙ ((λ i. after (h i) Take (is i)) ∙ or_none c))

pub gave : (own new : List E) (pass : ℕ) (c : Coin) (r : Answer) → new ≡ own ++ entry pass (Back c) r ∷ [] → held new ≡ None
gave own new pass c r e = ap held e ∙ held_snoc None own (entry pass (Back c) r)

-- once no pass holds the coin, it is in the purse
pub whole : (first y : Option Coin) (c : Coin) (log : List E) (splits : ℕ) → first ≡ Some c → Run first log y → Met May log → ((p : ℕ) → p ≤ splits → held (own p log) ≡ None) → ((p : ℕ) → splits < p → own p log ≡ []) → y ≡ Some c
whole first y c log splits is run met each others = ⊎_elim (λ e. e)
    (λ x. dite (dec_le x.0 splits) (λ le. absurd (none-some c (sym (each x.0 le) ∙ x.1))) (λ nle. let lt : splits < x.0 = omega arith in absurd (none-some c (sym (ap held (others x.0 lt)) ∙ x.1)))) (somewhere c first log y is run met)

pub counts : (log : List E) (e : E) (place : ℕ) → place ≡ length log → place + 1 ≡ length (log ++ e ∷ [])
counts log e place is = let l = length-append log (e ∷ []) in omega arith
