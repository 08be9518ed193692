use Rattle.il_flow.proofs.Sameness.{itself}
use Rattle.il_flow.proofs.work.Work.run.Goals as goal

pub returns-then-announces-clause-same : goal.returns-then-announces-clause-same
returns-then-announces-clause-same g c = rw (← c.self.view_is) (itself c.self.inside.desk.value.headers)

pub returns-clause-step : goal.returns-clause-step
returns-clause-step g c = λ silent. rw (← c.self.view_is) (rw c.deref_mut-at.ensures.value at (c.do_step-frames.ensures.step c.self.inside.component.generation))
