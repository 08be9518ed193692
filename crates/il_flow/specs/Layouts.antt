-- How the ports of a part are laid out.
use Rattle.std.specs.Prelude.{◌≡◌, ℕ, ◌+◌, ◌<◌, ◌≤◌, length, List, Option}
use Rattle.omx_types.specs.Formats.{frame_bytes_of}
use Rattle.part_api.specs.Streams.{Shape}
use Rattle.part_api.specs.Terms.{Terms}
use Rattle.il_machine.specs.Stepping.{format_at}
use Rattle.header_core.specs.BufferHeader.{BufferHeader}
use Rattle.work_landing.specs.Places.{EachFrom}
use Rattle.il_flow.specs.declared.layout.Layout.{Layout}

abbrev pub ports_of : Terms → ℕ
ports_of t = length t.inputs + length t.outputs

-- the numbers are those of ports with these formats
pub record HasLayout (l : Layout) (t : Terms) : Type 0 where
  pub inputs : length t.inputs ≡ l.inputs
  pub input : (port : ℕ) → port < l.inputs → frame_bytes_of (format_at t port) ≡ l.input_frame
  pub output : (port : ℕ) → l.inputs ≤ port → port < ports_of t → frame_bytes_of (format_at t port) ≡ l.output_frame

-- and those of the part
pub record IsLaidOut (l : Layout) (t : Terms) (s : Shape) : Type 0 where
  pub terms : HasLayout l t
  pub inputs : s.inputs ≡ l.inputs
  pub outputs : s.outputs ≡ length t.outputs
  pub input_frame : 1 ≤ l.inputs → s.input_frame ≡ l.input_frame
  pub output_frame : 1 ≤ s.outputs → s.output_frame ≡ l.output_frame
  pub few_in : 1 ≤ l.inputs → s.channels ≤ l.input_frame
  pub few_out : 1 ≤ s.outputs → s.channels ≤ l.output_frame

-- where there is a header, the layout is that of these ports
abbrev pub AreLaid : Layout → Terms → ℕ → List (Option BufferHeader) → Type 0
AreLaid l t port places = EachFrom (λ port h. HasLayout l t) port places
