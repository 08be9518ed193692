use Rattle.std.proofs.Common.{◌≡◌, ◌++◌, ℕ, length, take, drop}
use Rattle.play_forms.specs.Settling.{with_given}
use Rattle.stream_plan.proofs.flowing.give.Given as goal

abbrev pub invariant-loop-number : goal.invariant-loop-number
invariant-loop-number l = record {
  many : length l.flows ≡ length l.joints;
  given : take l.number l.flows ++ with_given (λ (output : ℕ). l.flow) (drop l.number l.joints) (drop l.number l.flows) l.place ≡ with_given (λ (output : ℕ). l.flow) l.joints l.initial.flows l.place;
}
