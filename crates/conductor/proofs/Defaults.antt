-- What stands for a link where a list has none.
use Rattle.std.proofs.Common.{false}
use Rattle.conductor.specs.declared.phase.LateLink.{LateLink}

abbrev pub no_late : LateLink
no_late = record {
  source = 0;
  taker = 0;
  input = 0;
  steps = 0;
  output_disabled = false;
  input_disabled = false;
  output_enabled = false;
  input_enabled = false;
}
