use Rattle.act_text.proofs.Spaces.{follow-step}
use Rattle.act_text.proofs.words.follow_spaces.Goals as goal

pub loop-word-preserved : goal.loop-word-preserved
loop-word-preserved c =
    let step = follow-step c.args.words.now c.loop-word.word-index _ c.loop-word-test.true c.args.line.now c.loop-word.rest.now c.in-Some.behind.now c.in-Some.ensures.some c.loop-word.invariant.there c.loop-word.invariant.back in
    record { there = step.0; back = step.1 }
