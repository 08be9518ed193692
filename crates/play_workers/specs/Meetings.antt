-- Passes that the first one of a turnstile meets, and what each of them leaves.
use Rattle.std.specs.Prelude.{◌≡◌, ℕ, ◌+◌, List, [], ◌∷◌, ◌++◌, length, slice_get, Some}
use mathlib.Core.Option.{some}
use lib.ListN.{get_elem?}
use Rattle.turnstile.specs.declared.entry.Entry.{Entry}
use Rattle.turnstile.specs.declared.view.View.{View}
use Rattle.turnstile.specs.Entries.{own}

-- the calls of the passes that were met, in the order of the meetings
abbrev pub listed_calls : {A R : Type 0} → List (ℕ × List (Entry A R)) → List (Entry A R)
listed_calls [] = []
listed_calls (x ∷ xs) = x.1 ++ listed_calls xs

-- those of the first pass, and of all that it has met
abbrev pub calls_of_all : {V A R : Type 0} → View V A R → List (Entry A R)
calls_of_all v = v.mine ++ listed_calls v.joined

-- A pass of that number leaves a page for what it did in a history, and a gate for its calls, which are of a kind.
module _ {A R P G : Type 0} (keeps : ℕ → List (Entry A R) → P → Type 0) (counts : List (Entry A R) → G → Type 0) (AreIts : List (Entry A R) → Type 0) where
  -- it was met as the i-th; before its page is that of the pass that met it
  pub record IsMet (seen : List (Entry A R)) (pages : List P) (gates : List G) (i : ℕ) (x : ℕ × List (Entry A R)) : Type 0 where
    pub number : x.0 ≡ i + 1
    pub its : AreIts x.1
    pub kept : own x.0 seen ≡ x.1
    pub page : (page : P) → slice_get pages (i + 1) ≡ Some page → keeps x.0 seen page
    pub gate : (gate : G) → slice_get gates i ≡ Some gate → counts x.1 gate

  -- these passes were met, and so many not yet
  pub record HasMet {V : Type 0} (v : View V A R) (many : ℕ) (pages : List P) (gates : List G) : Type 0 where
    pub number : v.number ≡ 0
    pub splits : v.splits ≡ length v.joined + many
    pub mine : own 0 v.seen ≡ v.mine
    pub first : (page : P) → slice_get pages 0 ≡ Some page → keeps 0 v.seen page
    pub met : (i : ℕ) (x : ℕ × List (Entry A R)) → get_elem? v.joined i ≡ some x → IsMet v.seen pages gates i x
    pub gate_count : length gates ≡ length v.joined
    pub page_count : length pages ≡ length v.joined + 1
