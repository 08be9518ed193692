-- Bytes whose front is written anew.
use Rattle.std.specs.Prelude.{ℕ, List, ◌++◌, length, take, drop}

abbrev pub rewritten : List ℕ → List ℕ → List ℕ
rewritten bytes written = take (length bytes) (written ++ drop (length written) bytes)
