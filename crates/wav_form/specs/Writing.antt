-- How a buffer is written piece by piece.
use Rattle.std.specs.Prelude.{◌≡◌, ℕ, ◌+◌, List, ◌++◌, length, take, drop}

-- a front of a buffer was made longer by these bytes, and what lies behind them is as before
pub record Puts (old new : List ℕ) (at stop : ℕ) (bytes : List ℕ) : Type 0 where
  pub stops : stop ≡ at + length bytes
  pub front : take stop new ≡ take at old ++ bytes
  pub rest : drop stop new ≡ drop stop old
