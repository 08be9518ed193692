-- The bytes that are on their way in a link of a play's world: what its filled headers carry, in the order of the stream. A header
-- that a work of the input's component has stands as if it were still at the front of the input's todo.
use Rattle.std.specs.Prelude.{ℕ, List, [], ◌∷◌, ◌++◌, Option, Some, None}
use Rattle.il_machine.specs.declared.port.PortKey.{PortKey}
use Rattle.il_machine.specs.World.{HeaderRecord, Load, World}
use Rattle.il_machine.specs.Headers.{seen, load_at}
use Rattle.play_world_laws.specs.Cast.{Cast, output_at, input_at}
use Rattle.play_world_laws.specs.Wiring.{work_in}

abbrev pub content_of : Option Load → List ℕ
content_of None = []
content_of (Some load) = load.content

-- what the headers of these numbers carry, one after another
abbrev pub contents_of : List HeaderRecord → List ℕ → List ℕ
contents_of headers [] = []
contents_of headers (number ∷ numbers) = content_of (load_at number headers) ++ contents_of headers numbers

-- the filled headers of a link, in the order of the stream, where a work has these of its input
abbrev pub numbers_on : (output input : PortKey) (draining : List ℕ) → List HeaderRecord → List ℕ
numbers_on output input draining headers = (draining ++ (seen headers).todo input) ++ (seen headers).done output

abbrev pub bytes_on : (output input : PortKey) (draining : List ℕ) → List HeaderRecord → List ℕ
bytes_on output input draining headers = contents_of headers (numbers_on output input draining headers)

abbrev pub flowing_in : Cast → World → ℕ → List ℕ
flowing_in x w l = bytes_on (output_at x l) (input_at x l) (work_in w.components (input_at x l)) w.headers
