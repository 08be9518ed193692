-- What a chain of files holds under a name.
use Rattle.std.specs.Prelude.{ℕ, List, Option, Some, None, Box, if◌then◌else◌, string_bytes, bytes_eq}
use Rattle.std.specs.declared.alloc.Global.{Global}
use Rattle.outside_io.specs.declared.entries.Entry.{Entry, Entry', Held-Entry-older, None', Some'}

-- the content of the first file of that name
abbrev mutual
  pub content_from : Entry → List ℕ → Option (List ℕ)
  content_from (Entry' name bytes older) asked =
      if bytes_eq (string_bytes name) asked then Some bytes.items else content_behind older asked

  pub content_behind : Held-Entry-older → List ℕ → Option (List ℕ)
  content_behind None' asked = None
  content_behind (Some' p entry) asked = content_from entry asked

abbrev pub content : Option (Box Entry Global) → List ℕ → Option (List ℕ)
content None asked = None
content (Some entry) asked = content_from entry.value asked
