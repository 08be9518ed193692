-- The names, ports and numbers that words are.
use Rattle.std.specs.Prelude.{ℕ, ◌^◌, nat_lt, ◌==◌, if◌then◌else◌, List, [], ◌∷◌, Option, Some, None}
use Rattle.std.specs.Fmt.{decimal}
use Rattle.std.specs.Str.{bytes_eq}
use Rattle.std.specs.Str.Parse.{digits_value}
use Rattle.line_text.specs.ReadNumbers.{small_number}
use Rattle.act_text.specs.Names.{is_name}
use Rattle.act_text.specs.declared.name.PortName.{PortName}

-- what two values give, where both are there
abbrev pub both : {A B C : Type 0} → Option A → Option B → (A → B → C) → Option C
both None other f = None
both (Some one) None f = None
both (Some one) (Some other) f = Some (f one other)

unfoldable pub name_of : List ℕ → Option (List ℕ)
name_of word = if is_name word then Some word else None

-- what stands before the first dot
abbrev pub before_dot : List ℕ → List ℕ
before_dot [] = []
before_dot (byte ∷ bytes) = if byte == 46 then [] else byte ∷ before_dot bytes

abbrev pub after_dot : List ℕ → List ℕ
after_dot [] = []
after_dot (byte ∷ bytes) = if byte == 46 then bytes else after_dot bytes

abbrev pub port_name : List ℕ → ℕ → PortName
port_name component index = record { component = component; index = index }

unfoldable pub port_of : List ℕ → Option PortName
port_of word = both (name_of (before_dot word)) (small_number (after_dot word)) port_name
