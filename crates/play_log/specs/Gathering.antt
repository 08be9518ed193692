-- Pieces that are gathered before a sink gets them.
use Rattle.std.specs.Prelude.{◌≡◌, ℕ, List, ◌++◌, Option, Result, OnOk}
use Rattle.std.specs.Io.KnownBytes.{append_known}
use Rattle.outside_io.specs.Moves.{AppendsFront}

-- what is held, and how much may be
pub record GatheredValue : Type 0 where
  pub held : List ℕ
  pub size : ℕ

-- Since the sink told the first bytes it was given a front of the text, and the rest of it is held.
pub record IsGathered (first told : Option (List ℕ)) (held text : List ℕ) : Type 0 where
  pub taken : List ℕ
  pub given : told ≡ append_known first taken
  pub all : taken ++ held ≡ text

-- A piece comes behind what was gathered, or the sink took a front of that and of the piece.
pub record Puts {T E : Type 0} (old new : Option (List ℕ)) (held now piece : List ℕ) (result : Result T E) : Type 0 where
  pub more : (first : Option (List ℕ)) (text : List ℕ) → IsGathered first old held text → OnOk result (IsGathered first new now (text ++ piece))
  pub front : (first : Option (List ℕ)) (text : List ℕ) → IsGathered first old held text → AppendsFront first new (text ++ piece)
