use Rattle.std.proofs.Common.{◌≡◌, All, None, option_and_then}
use Rattle.audio_parts.specs.AnyParts.{file_of as part_file}
use Rattle.il_graph.proofs.graph.end_parts.Given as goal

-- no part that is left has a file
abbrev pub invariant-loop-part : goal.invariant-loop-part
invariant-loop-part g l = All (λ p. option_and_then (λ part. part_file part) p ≡ None) l.parts.items

abbrev pub decreases-loop-part : goal.decreases-loop-part
decreases-loop-part g l = goal.left-loop-part g l
