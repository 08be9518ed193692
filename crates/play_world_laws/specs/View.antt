-- A link of a play, as it stands in the flat list of headers of a world. A header that a work has stands as if it were
-- still at the front of its port's todo.
use Rattle.std.specs.Prelude.{◌≡◌, ℕ, ◌+◌, ◌/◌, Bool, false, ◌||◌, nat_eq, List, [], ◌∷◌, ◌++◌, length, map, Option, Some, None, if◌then◌else◌}
use Rattle.il_machine.specs.declared.port.PortKey.{PortKey}
use Rattle.il_machine.specs.World.{HeaderRecord, Load, Picked, Work}
use Rattle.il_machine.specs.Headers.{seen, load_at, same_key}
use Rattle.il_machine.specs.Components.{has_eos}
use Rattle.play_model.specs.Network.{Filled, LinkState}

pub record LinkEnds : Type 0 where
  -- the bytes of a frame
  pub unit : ℕ
  pub output : PortKey
  pub input : PortKey
  -- the headers of each end that a work of its component has
  pub filling : List ℕ
  pub draining : List ℕ
  -- the frames that the input has taken, and whether it has ended: these stand in no list of headers
  pub taken : ℕ
  pub closed : Bool

-- ---- what a work has of a port

abbrev pub picked_at : ℕ → List Picked → List ℕ
picked_at port [] = []
picked_at port (x ∷ xs) = if nat_eq x.port port then x.number ∷ picked_at port xs else picked_at port xs

abbrev pub worked_at : Option Work → ℕ → List ℕ
worked_at None port = []
worked_at (Some work) port = picked_at port work.headers

-- ---- the link

-- what a header carries, in frames of so many bytes
abbrev pub filled_by : ℕ → Load → Filled
filled_by unit load = record { frames = length load.content / unit; last = has_eos load.flags }

abbrev pub filled_of : ℕ → Option Load → Filled
filled_of unit None = record { frames = 0; last = false }
filled_of unit (Some load) = filled_by unit load

abbrev pub filled : ℕ → List HeaderRecord → ℕ → Filled
filled unit headers number = filled_of unit (load_at number headers)

abbrev pub link_view : LinkEnds → List HeaderRecord → LinkState
link_view x headers = record {
  ready = length x.filling + length ((seen headers).todo x.output);
  sent = map (filled x.unit headers) ((seen headers).done x.output);
  held = map (filled x.unit headers) (x.draining ++ (seen headers).todo x.input);
  spent = length ((seen headers).done x.input);
  taken = x.taken;
  closed = x.closed;
}

-- the number is in the list
abbrev pub is_in : ℕ → List ℕ → Bool
is_in m [] = false
is_in m (n ∷ ns) = nat_eq m n || is_in m ns

-- no end of the one link is an end of the other
pub record AreApart (x y : LinkEnds) : Type 0 where
  pub outputs : same_key y.output x.output ≡ false
  pub output_input : same_key y.output x.input ≡ false
  pub input_output : same_key y.input x.output ≡ false
  pub inputs : same_key y.input x.input ≡ false
