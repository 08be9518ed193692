-- The ports of a play's components, each of which is an end of a link, and the headers that a work has of them.
use Rattle.std.specs.Prelude.{◌≡◌, ◌≢◌, ℕ, ◌<◌, ◌⊎◌, Bool, true, false, List, slice_get, Option, None, Some, option_and_then}
use Rattle.omx_types.specs.Formats.{frame_bytes_of, is_auto}
use Rattle.il_machine.specs.declared.port.PortKey.{PortKey}
use Rattle.il_machine.specs.declared.port.Link.{Link}
use Rattle.il_machine.specs.declared.port.Mode.TheVariants.{Steady}
use Rattle.il_machine.specs.declared.port.Port.{Port}
use Rattle.il_machine.specs.declared.port.PortState.{PortState}
use Rattle.il_machine.specs.World.{Component, port_of}
use Rattle.il_machine.specs.Ports.{is_input_port}
use Rattle.play_model.specs.Play.{Play}
use Rattle.play_world_laws.specs.View.{LinkEnds, worked_at}
use Rattle.play_world_laws.specs.Cast.{Cast, links_of, output_at, input_at, supplier_of}

-- The port of a key, and the headers that the work of its component has of it. Numbers of components are places in the list.
abbrev pub port_in : List Component → PortKey → Option Port
port_in components key = option_and_then (λ c. port_of c key.port) (slice_get components key.component)

abbrev pub work_in : List Component → PortKey → List ℕ
work_in components key = worked_at (option_and_then (λ c. c.work) (slice_get components key.component)) key.port

-- enabled, steady, not flushing, not held, without a waiting mark, and joined
abbrev pub joined_state : Link → PortState
joined_state link = record { enabled = true; mode = Steady; flushing = false; held = false; waiting_mark = None; link = Some link }

abbrev pub link_to : Cast → ℕ → PortKey → Link
link_to x l peer = record { peer = peer; supplier = supplier_of x l }

-- one end of a link
pub record IsEnd (x : Cast) (l : ℕ) (at peer : PortKey) (input : Bool) (p : Port) : Type 0 where
  pub key : p.key ≡ at
  pub state : p.state ≡ joined_state (link_to x l peer)
  pub direction : is_input_port p ≡ input
  pub count : p.setting.definition.count ≡ ((x.layout).network).count l
  pub size : p.setting.definition.size ≡ x.size l
  pub unit : frame_bytes_of p.setting.definition.format ≡ x.unit l
  pub known : is_auto p.setting.definition.format ≡ false

pub record IsWired (x : Cast) (ports : PortKey → Option Port) (l : ℕ) : Type 0 where
  pub output : Port
  pub input : Port
  pub output_there : ports (output_at x l) ≡ Some output
  pub input_there : ports (input_at x l) ≡ Some input
  pub output_end : IsEnd x l (output_at x l) (input_at x l) false output
  pub input_end : IsEnd x l (input_at x l) (output_at x l) true input
  -- a component gives nothing to itself
  pub apart : (output_at x l).component ≢ (input_at x l).component

-- the port is an end of some link
pub record IsSomeEnd (x : Cast) (key : PortKey) : Type 0 where
  pub link : ℕ
  pub below : link < links_of x
  pub end : (key ≡ output_at x link) ⊎ (key ≡ input_at x link)

-- what the link's view needs of the works that are out
abbrev pub ends_of : Cast → (PortKey → List ℕ) → Play → ℕ → LinkEnds
ends_of x works p l = record {
  unit = x.unit l;
  output = output_at x l;
  input = input_at x l;
  filling = works (output_at x l);
  draining = works (input_at x l);
  taken = ((p.flow).link l).taken;
  closed = ((p.flow).link l).closed;
}
