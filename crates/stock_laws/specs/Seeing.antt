-- What is said of the headers that are kept.
use Rattle.std.specs.Prelude.{◌≡◌, ℕ, Bool, true, Some}
use Rattle.il_machine.specs.declared.header.HeaderState.{HeaderState}
use Rattle.il_machine.specs.Headers.{Seen}
use Rattle.il_machine.specs.Stock.{Stocked}

-- The header of the number is there, and passes the test.
pub record Shows (s : Stocked) (n : ℕ) (test : HeaderState → Bool) : Type 0 where
  pub state : HeaderState
  pub is : s.headers.header n ≡ Some state
  pub passes : test state ≡ true

-- each header that passes the one test passes the other
abbrev pub Implies : Seen → (HeaderState → Bool) → (HeaderState → Bool) → Type 0
Implies v p q = (n : ℕ) (h : HeaderState) → v.header n ≡ Some h → p h ≡ true → q h ≡ true
