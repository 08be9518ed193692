-- Histories of calls, and what a value that is served in turns has to say of them.
use Rattle.std.specs.Prelude.{◌≡◌, ℕ, ◌==◌, ◌<◌, ◌^◌, List, [], ◌∷◌, ◌++◌, length, Bool, true, false}
use Rattle.turnstile.specs.declared.entry.Entry.{Entry}

-- ys begins with xs
abbrev pub Begins : {X : Type 0} → List X → List X → Type 0
Begins {X} xs ys = (rest : List X) × (xs ++ rest ≡ ys)

module _ {A R : Type 0} where
  abbrev pub entry : ℕ → A → R → Entry A R
  entry p a r = record { pass = p; act = a; reply = r }

  abbrev pub kept : Bool → Entry A R → List (Entry A R) → List (Entry A R)
  kept true e es = e ∷ es
  kept false e es = es

  -- the entries of one pass, in their order
  abbrev pub own : ℕ → List (Entry A R) → List (Entry A R)
  own p [] = []
  own p (e ∷ es) = kept (e.pass == p) e (own p es)

-- each entry's act met `may` of the entries that its pass had before
pub data Met {A R : Type 0} (may : List (Entry A R) → A → Type 0) : List (Entry A R) → Type 0 where
  none : Met may []
  next : (log : List (Entry A R)) (e : Entry A R) → Met may log → may (own e.pass log) e.act → Met may (log ++ e ∷ [])

module _ {V A R : Type 0} (legal : V → List (Entry A R) → Type 0) (reaches : V → List (Entry A R) → V → Type 0) (may : V → List (Entry A R) → A → Type 0) where
  -- the act comes next, from this pass, which may ask it. The value stands for the state after the legal history so far
  pub record Due (first : V) (log : List (Entry A R)) (pass : ℕ) (value : V) (act : A) (place : ℕ) : Type 0 where
    pub is_legal : legal first log
    pub stood : reaches first log value
    pub met : Met (may first) log
    pub at_place : place ≡ length log
    pub in_time : place < 2 ^ 50
    pub may_ask : may first (own pass log) act
