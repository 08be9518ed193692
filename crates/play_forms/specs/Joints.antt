-- The links of a play by the places of their components, and which of them can't be.
use Rattle.std.specs.Prelude.{◌≡◌, ℕ, ◌+◌, ◌<◌, ◌≤◌, Bool, true, false, not, ◌==◌, ◌&&◌, ◌||◌, List, take, slice_get, Some, sum_by, map}
use Rattle.std.specs.List.{list_any, position_or_len}
use Rattle.std.specs.Str.{bytes_eq}
use Rattle.part_forms.specs.Kinds.{ports_in}
use Rattle.script_lang.specs.declared.play_line.PartLine.{PartLine}
use Rattle.script_lang.specs.declared.play_line.LinkLine.{LinkLine}
use Rattle.play_forms.specs.declared.joint.Joint.{Joint}
use Rattle.play_forms.specs.Parts.{kind_of, has_input, has_output, passes_at}

-- the place of the component with that name; where none has it, the place behind the last one
abbrev pub place_named : List PartLine → List ℕ → ℕ
place_named parts name = position_or_len (λ part. bytes_eq part.name name) parts

abbrev pub joint_of : List PartLine → LinkLine → Joint
joint_of parts link = record {
  line = link.line;
  giver = place_named parts link.output.component;
  output = link.output.index;
  taker = place_named parts link.input.component;
  input = link.input.index;
  count = link.count;
  size = link.size;
}

abbrev pub joints_of : List PartLine → List LinkLine → List Joint
joints_of parts = map (joint_of parts)

-- it joins an output to an input
abbrev pub is_joint : List PartLine → Joint → Bool
is_joint parts joint =
    passes_at (has_output joint.output) (slice_get parts joint.giver) && passes_at (has_input joint.input) (slice_get parts joint.taker)

-- they name one port
abbrev pub shares_port : Joint → Joint → Bool
shares_port joint other =
    (other.giver == joint.giver && other.output == joint.output) || (other.taker == joint.taker && other.input == joint.input)

-- a link behind these earlier ones names ports that are there, each in its direction, and that none of them names
abbrev pub can_join : List PartLine → List Joint → Joint → Bool
can_join parts earlier joint = is_joint parts joint && not (list_any (shares_port joint) earlier)

abbrev pub AllJoin : List PartLine → List Joint → Type 0
AllJoin parts joints = (k : ℕ) (joint : Joint) → slice_get joints k ≡ Some joint → can_join parts (take k joints) joint ≡ true

-- PortTwice: the first link that can't be
pub record IsTwice (parts : List PartLine) (joints : List Joint) (line : ℕ) : Type 0 where
  pub number : ℕ
  pub joint : Joint
  pub there : slice_get joints number ≡ Some joint
  pub its_line : line ≡ joint.line
  pub clashes : can_join parts (take number joints) joint ≡ false
  pub first : AllJoin parts (take number joints)

-- some link names the port
abbrev pub names_port : ℕ → ℕ → Joint → Bool
names_port place port joint = (joint.giver == place && joint.output == port) || (joint.taker == place && joint.input == port)

abbrev pub is_linked : List Joint → ℕ → ℕ → Bool
is_linked joints place port = list_any (names_port place port) joints

-- every port of the component at the place is linked
abbrev pub IsLinked : List Joint → ℕ → PartLine → Type 0
IsLinked joints place part = (port : ℕ) → port < ports_in (kind_of part.form) → is_linked joints place port ≡ true

abbrev pub AllLinked : List PartLine → List Joint → Type 0
AllLinked parts joints = (place : ℕ) (part : PartLine) → slice_get parts place ≡ Some part → IsLinked joints place part

-- OpenPort: the first component with a port that isn't linked, and the least such port
pub record IsOpen (parts : List PartLine) (joints : List Joint) (line port : ℕ) : Type 0 where
  pub place : ℕ
  pub part : PartLine
  pub there : slice_get parts place ≡ Some part
  pub its_line : line ≡ part.line
  pub its_port : port < ports_in (kind_of part.form)
  pub open_there : is_linked joints place port ≡ false
  pub least : (other : ℕ) → other < port → is_linked joints place other ≡ true
  pub first : AllLinked (take place parts) joints

-- the headers of all links
abbrev pub headers_of : List Joint → ℕ
headers_of = sum_by (λ (joint : Joint). joint.count)

-- TooMany: the first link up to which, with it, there are more than 1,024 headers
pub record IsTooMany (joints : List Joint) (line : ℕ) : Type 0 where
  pub number : ℕ
  pub joint : Joint
  pub there : slice_get joints number ≡ Some joint
  pub its_line : line ≡ joint.line
  pub over : 1024 < headers_of (take (number + 1) joints)
  pub first : headers_of (take number joints) ≤ 1024
