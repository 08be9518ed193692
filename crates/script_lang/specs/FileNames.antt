-- Names of files in a play script.
use Rattle.std.specs.Prelude.{ℕ, ◌≤◌, Bool, nat_lt, List, length, IsTrue, IsUtf8}
use Rattle.std.specs.List.{list_all}

abbrev pub is_visible : ℕ → Bool
is_visible byte = nat_lt 32 byte

-- 1 to 1,024 bytes above 32, of UTF-8
pub record IsFileName (name : List ℕ) : Type 0 where
  pub some : 1 ≤ length name
  pub short : length name ≤ 1024
  pub visible : IsTrue (list_all is_visible name)
  pub text : IsUtf8 name
