-- What must hold of the machine's definitions.
use Rattle.std.specs.Prelude.{◌≡◌, ℕ, Some, None, slice_get}
use Rattle.omx_types.specs.declared.param.Supplier.TheVariants.{Unspecified, Input, Output}
use Rattle.il_machine.specs.World.{Component, World}
use Rattle.il_machine.specs.Headers.{seen}
use Rattle.il_machine.specs.Due.{due_in}
use Rattle.il_machine.specs.Tunnels.{agreed}

-- the preference of the output, then that of the input, then the supplier
pub record NinePairs : Type 0 where
  pub none_none : agreed Unspecified Unspecified ≡ Input
  pub output_none : agreed Output Unspecified ≡ Output
  pub input_none : agreed Input Unspecified ≡ Input
  pub none_input : agreed Unspecified Input ≡ Input
  pub output_input : agreed Output Input ≡ Input
  pub input_input : agreed Input Input ≡ Input
  pub none_output : agreed Unspecified Output ≡ Output
  pub output_output : agreed Output Output ≡ Output
  pub input_output : agreed Input Output ≡ Output

-- no component has anything due
abbrev pub NothingDue : World → Type 0
NothingDue w = (i : ℕ) (c : Component) → slice_get w.components i ≡ Some c → due_in (seen w.headers) c ≡ None
