use Rattle.std.proofs.Common.{inl, ℕ, ap}
use Rattle.run_audit.specs.declared.replaying.Replayed.TheVariants as comes
use Rattle.run_audit.proofs.replaying.at_end.Goals as goal

pub returns-then-are_whole-clause-decided : goal.returns-then-are_whole-clause-decided
returns-then-are_whole-clause-decided g c = inl (ap (λ (n : ℕ). comes.Yes n) c.saturating_sub.ensures, c.are_whole.ensures.yes c.if-are_whole.true)

pub returns-then-are_whole-clause-gives : goal.returns-then-are_whole-clause-gives
returns-then-are_whole-clause-gives g c = λ acts e. c.are_whole.ensures.gives c.if-are_whole.true
