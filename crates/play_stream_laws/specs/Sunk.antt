-- What the file of a sink has taken once so many frames were written, in however many steps: what one step of them all writes.
use Rattle.std.specs.Prelude.{ℕ, false, List}
use Rattle.omx_types.specs.declared.format.Format.{Format}
use Rattle.part_forms.specs.Sinking.{sink_text}

abbrev pub sunk : Format → ℕ → ℕ → List ℕ → List ℕ
sunk format planned frames bytes = sink_text false format planned planned frames bytes
