-- The names of calls, the oldest first.
use Rattle.std.specs.Prelude.{ℕ, List, [], ◌++◌, map, replicate, Option, Some, None, Box, String, Vec, string_bytes}
use Rattle.std.specs.declared.alloc.Global.{Global}
use Rattle.outside_io.specs.declared.named.Named.{Named, Named', Held-Named-older, None', Some'}

abbrev mutual
  pub names_from : Named → List (List ℕ)
  names_from (Named' name times older) = names_behind older ++ replicate times (string_bytes name)

  pub names_behind : Held-Named-older → List (List ℕ)
  names_behind None' = []
  names_behind (Some' p named) = names_from named

abbrev pub names : Option (Box Named Global) → List (List ℕ)
names None = []
names (Some named) = names_from named.value

abbrev pub name_of : Named → List ℕ
name_of (Named' name times older) = string_bytes name

-- the name of an element
abbrev pub name_in : Box Named Global → List ℕ
name_in named = name_of named.value

abbrev pub kept_names : Vec (String Global) Global → List (List ℕ)
kept_names kept = map string_bytes kept.items
