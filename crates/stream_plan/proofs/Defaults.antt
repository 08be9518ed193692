-- What stands for an element where a list has none.
use Rattle.std.proofs.Common.{[]}
use Rattle.script_lang.specs.declared.play_line.PartForm.TheVariants.{Decoder}
use Rattle.script_lang.specs.declared.play_line.PartLine.{PartLine}
use Rattle.play_forms.specs.declared.joint.Joint.{Joint}

abbrev pub no_joint : Joint
no_joint = record { line = 0; giver = 0; output = 0; taker = 0; input = 0; count = 0; size = 0 }

abbrev pub no_part : PartLine
no_part = record { line = 0; name = []; form = Decoder }
