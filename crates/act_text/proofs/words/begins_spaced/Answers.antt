use Rattle.act_text.proofs.Spaces.{behind-front}
use Rattle.act_text.proofs.words.begins_spaced.Goals as goal

pub returns-in-Some : goal.returns-in-Some
returns-in-Some c =
    let ways = behind-front c.args.line.now c.args.first.now c.in-Some.behind.now _ c.in-Some.ensures.some in
    (λ follows. ways.0 (c.follow_spaces.ensures.0 follows), λ whole. c.follow_spaces.ensures.1 (ways.1 whole))
