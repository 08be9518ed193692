use Rattle.std.proofs.Common.{◌≡◌, map, take}
use Rattle.script_lang.specs.declared.play_line.PartLine.{PartLine}
use Rattle.conductor.specs.Casting.{is_sink}
use Rattle.conductor.proofs.casting.sinks_of.Given as goal

abbrev pub invariant-loop-part : goal.invariant-loop-part
invariant-loop-part l = l.sinks.items ≡ map (λ (part : PartLine). is_sink part.form) (take l.part-index l.parts)
