use Rattle.il_flow.proofs.Free.{free_of}
use Rattle.il_flow.proofs.done.Done.into_parts.Goals as goal

pub returns-then-announces-clause-free : goal.returns-then-announces-clause-free
returns-then-announces-clause-free g c = λ told. rw (← c.self.view_is) (free_of 0 c.self.inside.desk.value.headers (c.self.invariant.none c.if-announces.true))
