-- Names of files.
use Rattle.std.specs.Prelude.{ℕ, ◌<◌, ◌≤◌, List, length, All}

-- 1 to 1,024 bytes, none of them 32 or below
pub record IsName (name : List ℕ) : Type 0 where
  pub some : 1 ≤ length name
  pub short : length name ≤ 1024
  pub plain : All (λ byte. 32 < byte) name
