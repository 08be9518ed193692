-- Acts that one pass makes in a row, by tickets that it drew together.
use Rattle.std.specs.Prelude.{◌≡◌, ℕ, zero, suc, ◌+◌, List, [], ◌∷◌, ◌++◌, Some, None}
use Rattle.turnstile.specs.declared.entry.Entry.{Entry}
use Rattle.turnstile.specs.declared.view.View.{View}
use Rattle.turnstile.specs.Entries.{entry}
use Rattle.turnstile.specs.Passes.{IsSamePass, Called}

-- each act of the list may be asked after those before it, whatever these answer
abbrev pub MayInRow : {A R : Type 0} → (List (Entry A R) → A → Type 0) → ℕ → List (Entry A R) → List A → Type 0
MayInRow may pass own [] = Unit {0}
MayInRow {A} {R} may pass own (act ∷ acts) = may own act × ((reply : R) → MayInRow may pass (own ++ entry pass act reply ∷ []) acts)

module _ {V A R : Type 0} where
  -- the same pass, which has made the same calls and seen the same
  abbrev pub HasSameCalls : View V A R → View V A R → Type 0
  HasSameCalls v w = IsSamePass v w × (w.seen ≡ v.seen) × (w.mine ≡ v.mine)

  -- a pass that has made these calls, with no ticket
  abbrev pub at_rest : View V A R → View V A R
  at_rest v = record v { ticket = None }

  -- so many tickets are left, in a row from this one
  abbrev pub HasTickets : View V A R → ℕ → ℕ → Type 0
  HasTickets v t zero = v.ticket ≡ None
  HasTickets v t (suc more) = (v.ticket ≡ Some t) × (v.more ≡ more)

-- Each act was called in a turn of its own and had its reply. The places follow each other from this one, so no other call came between.
pub data InRow {V A R : Type 0} (legal : V → List (Entry A R) → Type 0) (may : V → List (Entry A R) → A → Type 0) (first : V) : ℕ → View V A R → List A → List R → View V A R → Type 0 where
  no_more : (place : ℕ) (v w : View V A R) → HasSameCalls v w → InRow legal may first place v [] [] w
  one_more : (place : ℕ) (v u w : View V A R) (act : A) (reply : R) (acts : List A) (replies : List R) → Called legal may first v act place reply u → IsSamePass v u → InRow legal may first (place + 1) u acts replies w
      → InRow legal may first place v (act ∷ acts) (reply ∷ replies) w

module _ {V A R : Type 0} (legal : V → List (Entry A R) → Type 0) (may : V → List (Entry A R) → A → Type 0) where
  -- those at the front of the list were called in a row, and their replies stand behind the others
  pub record CalledFront (first : V) (place : ℕ) (v : View V A R) (acts acts' : List A) (replies replies' : List R) (w : View V A R) : Type 0 where
    pub made : List A
    pub given : List R
    pub asked : acts ≡ made ++ acts'
    pub told : replies' ≡ replies ++ given
    pub row : InRow legal may first place v made given w
