-- The work of a component that is out, by the numbers of its headers.
use Rattle.std.specs.Prelude.{ℕ, ◌+◌, List, [], ◌∷◌, Option, Some, None}
use Rattle.il_machine.specs.World.{Component, Picked, Work}
use Rattle.il_machine.specs.Claims.{must_announce}

abbrev pub picked_at : ℕ → Option ℕ → List Picked → List Picked
picked_at port None rest = rest
picked_at port (Some number) rest = record { port = port; number = number } ∷ rest

-- the headers of these numbers, by rising port from this one on
abbrev pub picked_from : ℕ → List (Option ℕ) → List Picked
picked_from port [] = []
picked_from port (number ∷ numbers) = picked_at port number (picked_from (port + 1) numbers)

-- the component's work with the headers of these numbers
abbrev pub work_with : List (Option ℕ) → Component → Work
work_with numbers c = record { headers = picked_from 0 numbers; gain = c.settings.gain; weights = c.settings.weights; announces = must_announce c }
