use Rattle.std.proofs.Common.{◌≡◌, ◌∷◌, map, take}
use Rattle.omx_types.specs.Numbers.{state_number}
use Rattle.state_words.proofs.words.opening_words.Given as goal

abbrev pub invariant-loop-state : goal.invariant-loop-state
invariant-loop-state l = l.words.items ≡ 0 ∷ map state_number (take l.state-index l.states)
