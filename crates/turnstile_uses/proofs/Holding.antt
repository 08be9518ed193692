-- Whatever a pass holds is out of the purse, and no two passes hold something.
use Rattle.std.proofs.Common.{◌≡◌, ◌≢◌, ◌⊎◌, ℕ, ◌∙◌, sym, ap, subst, refl, Some, None, Option, List, [], ◌∷◌, ◌++◌}
use Rattle.std.proofs.lemmas.Option.{none-some}
use mathlib.Core.Logic.{dite, inl, inr, ⊎_elim}
use native.Mathlib.Decide.{ℕ_discrete}
use Rattle.turnstile.specs.Entries.{entry, own, Met}
use Rattle.turnstile.proofs.Basics.{own_mine, own_other, met_last}
use Rattle.turnstile_uses.specs.declared.coin.Coin.{Coin}
use Rattle.turnstile_uses.specs.declared.coin.Ask.{Ask}
use Rattle.turnstile_uses.specs.declared.coin.Ask.TheVariants.{Take, Back}
use Rattle.turnstile_uses.specs.declared.coin.Answer.{Answer}
use Rattle.turnstile_uses.specs.declared.coin.Answer.TheVariants.{Got, Thanks}
use Rattle.turnstile_uses.specs.Runs.{E, Run, stop, take, back, after, held_from, held, May}

pub held_snoc : (o : Option Coin) (xs : List E) (e : E) → held_from o (xs ++ e ∷ []) ≡ after (held_from o xs) e.act e.reply
held_snoc o [] e = refl
held_snoc o (x ∷ xs) e = held_snoc (after o x.act x.reply) xs e

-- a coin that a pass holds is out, and no other pass holds one
abbrev Out : List E → Option Coin → Type 0
Out log s = (p : ℕ) (c : Coin) → held (own p log) ≡ Some c → (s ≡ None) × ((q : ℕ) → q ≢ p → held (own q log) ≡ None)

no_hold : (log : List E) (s : Option Coin) → Out log s → s ≢ None → (p : ℕ) → held (own p log) ≡ None
no_hold log s o there p = elim (held (own p log)) as (λ h. held (own p log) ≡ h → h ≡ None) [ None ↦ λ _. refl | Some c ↦ λ e. absurd (there (o p c e).0) ] refl

held_mine : (p : ℕ) (a : Ask) (r : Answer) (log : List E) → held (own p (log ++ entry p a r ∷ [])) ≡ after (held (own p log)) a r
held_mine p a r log = ap held (own_mine p a r log) ∙ held_snoc None (own p log) (entry p a r)

held_other : (p q : ℕ) (a : Ask) (r : Answer) (log : List E) → p ≢ q → held (own q (log ++ entry p a r ∷ [])) ≡ held (own q log)
held_other p q a r log ne = ap held (own_other p q a r log ne)

take_some : (log : List E) (pass : ℕ) (c : Coin) → Out log (Some c) → Out (log ++ entry pass Take (Got (Some c)) ∷ []) None
take_some log pass c o p d h = let nobody : (q : ℕ) → held (own q log) ≡ None = no_hold log (Some c) o (λ e. none-some c (sym e)) in
    dite (ℕ_discrete pass p)
    (λ same. (refl, λ q ne. held_other pass q Take (Got (Some c)) log (λ e. ne (sym e ∙ same)) ∙ nobody q))
    (λ other. absurd (none-some d (sym (nobody p) ∙ (sym (held_other pass p Take (Got (Some c)) log other) ∙ h))))

take_none : (log : List E) (pass : ℕ) → Out log None → Out (log ++ entry pass Take (Got None) ∷ []) None
take_none log pass o p d h =
    let same : (q : ℕ) → held (own q (log ++ entry pass Take (Got None) ∷ [])) ≡ held (own q log) = λ q. dite (ℕ_discrete pass q)
    (λ e. subst (λ (z : ℕ). held (own z (log ++ entry pass Take (Got None) ∷ [])) ≡ held (own z log)) e (held_mine pass Take (Got None) log))
    (λ ne. held_other pass q Take (Got None) log ne) in
    (refl, λ q ne. same q ∙ (o p d (sym (same p) ∙ h)).1 q ne)

back_out : (log : List E) (pass : ℕ) (c : Coin) → Out log None → held (own pass log) ≡ Some c → Out (log ++ entry pass (Back c) Thanks ∷ []) (Some c)
back_out log pass c o has p d h = dite (ℕ_discrete pass p)
    (λ same. absurd (none-some d (sym (subst (λ (z : ℕ). held (own z (log ++ entry pass (Back c) Thanks ∷ [])) ≡ None) same (held_mine pass (Back c) Thanks log)) ∙ h)))
    (λ other. absurd (none-some d (sym ((o pass c has).1 p (λ e. other (sym e))) ∙ (sym (held_other pass p (Back c) Thanks log other) ∙ h))))

taken : (log : List E) (pass : ℕ) (s : Option Coin) → Out log s → Out (log ++ entry pass Take (Got s) ∷ []) None
taken log pass (Some c) o = take_some log pass c o
taken log pass None o = take_none log pass o

pub runs_out : (first : Option Coin) (log : List E) (s : Option Coin) → Run first log s → Met May log → Out log s
runs_out first _ _ stop met = λ p c h. absurd (none-some c h)
runs_out first _ _ (take log pass s r) met = let m = met_last May log (entry pass Take (Got s)) met in taken log pass s (runs_out first log s r m.0)
runs_out first _ _ (back log pass c r) met = let m = met_last May log (entry pass (Back c) Thanks) met in back_out log pass c (runs_out first log None r m.0) m.1

-- only an empty purse takes a coin
abbrev HasRoom : Option Coin → Ask → Type 0
HasRoom s Take = Unit {0}
HasRoom s (Back c) = s ≡ None

pub runs_can : (first : Option Coin) (log : List E) (s : Option Coin) (act : Ask) (pass : ℕ) → Run first log s → Met May log → May (own pass log) act → HasRoom s act
runs_can first log s Take pass run met ok = tt
runs_can first log s (Back c) pass run met ok = (runs_out first log s run met pass c ok).0

-- the coin is in the purse, or some pass holds it
abbrev Somewhere : Coin → List E → Option Coin → Type 0
Somewhere c log s = (s ≡ Some c) ⊎ ((p : ℕ) × (held (own p log) ≡ Some c))

take_there : (c : Coin) (log : List E) (pass : ℕ) (s : Option Coin) → s ≡ Some c → Somewhere c (log ++ entry pass Take (Got s) ∷ []) None
take_there c log pass s e = inr (pass, held_mine pass Take (Got s) log ∙ ap (λ o. after (held (own pass log)) Take (Got o)) e)

take_away : (c : Coin) (log : List E) (pass p : ℕ) (s : Option Coin) → s ≡ None → held (own p log) ≡ Some c → Somewhere c (log ++ entry pass Take (Got s) ∷ []) None
take_away c log pass p s e h = inr (
  p,
  dite (ℕ_discrete pass p)
      (λ same. subst (λ (z : ℕ). held (own z (log ++ entry pass Take (Got s) ∷ [])) ≡ held (own z log)) same (held_mine pass Take (Got s) log ∙ ap (λ o. after (held (own pass log)) Take (Got o)) e) ∙ h)
      (λ other. held_other pass p Take (Got s) log other ∙ h),
)

pub somewhere : (c : Coin) (first : Option Coin) (log : List E) (s : Option Coin) → first ≡ Some c → Run first log s → Met May log → Somewhere c log s
somewhere c first _ _ is stop met = inl is
somewhere c first _ _ is (take log pass s r) met = let m = met_last May log (entry pass Take (Got s)) met in
    ⊎_elim (λ e. take_there c log pass s e) (λ x. take_away c log pass x.0 s (runs_out first log s r m.0 x.0 c x.1).0 x.1) (somewhere c first log s is r m.0)
somewhere c first _ _ is (back log pass d r) met = let m = met_last May log (entry pass (Back d) Thanks) met in
    ⊎_elim (λ e. absurd (none-some c e))
    (λ x. dite (ℕ_discrete x.0 pass)
    (λ same. inl (sym m.1 ∙ (ap (λ (z : ℕ). held (own z log)) (sym same) ∙ x.1)))
    (λ other. absurd (none-some c (sym ((runs_out first log None r m.0 pass d m.1).1 x.0 other) ∙ x.1)))) (somewhere c first log None is r m.0)
