use Rattle.std.proofs.Common.{arith}
use Rattle.line_text.proofs.WordSteps.{words_of-rest, words_of-next}
use Rattle.line_text.proofs.words.next_word.Goals as goal

pub returns-then-start-line-clause-words : goal.returns-then-start-line-clause-words
returns-then-start-line-clause-words c = words_of-rest c.args.line.now c.args.from (λ k from within. c.blanks_end-start.ensures.blanks k from (omega arith) within)

pub returns-clause-words : goal.returns-clause-words
returns-clause-words c =
    words_of-next c.args.line.now c.args.from c.blanks_end-start.result c.word_end-end.result
    c.blanks_end-start.ensures.at_or_after
    (λ k from below. c.blanks_end-start.ensures.blanks k from below (omega arith))
    c.word_end-end.ensures.after c.word_end-end.ensures.within c.word_end-end.ensures.inside c.word_end-end.ensures.ends
