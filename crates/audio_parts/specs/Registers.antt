-- What a part's register has in a step.
use Rattle.std.specs.Prelude.{ℕ, Bool, if◌then◌else◌, List, take, replicate}

-- The front of so many bytes. They count as zeros as long as nothing came.
abbrev pub front_of : Bool → ℕ → List ℕ → List ℕ
front_of is_silent count bytes = if is_silent then replicate count 0 else take count bytes
