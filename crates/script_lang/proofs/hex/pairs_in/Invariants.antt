use Rattle.std.proofs.Common.{◌≡◌, length, ◌++◌, option_map}
use Rattle.script_lang.specs.Hex.{pairs_of}
use Rattle.script_lang.proofs.hex.pairs_in.Given as goal

abbrev pub invariant-loop-rest : goal.invariant-loop-rest
invariant-loop-rest l = pairs_of l.digits ≡ option_map (λ bytes. l.bytes.items ++ bytes) (pairs_of l.rest)

abbrev pub decreases-loop-rest : goal.decreases-loop-rest
decreases-loop-rest l = length l.rest
