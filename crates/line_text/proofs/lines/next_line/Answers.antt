use Rattle.std.proofs.Common.{◌<◌, ◌+◌, ℕ, length, drop, List, [], ◌∷◌, sym, ap, ◌∙◌, arith}
use Rattle.std.proofs.lemmas.Grind.{common_steps}
use Rattle.std.proofs.lemmas.List.{take_all, drop_all}
use Rattle.line_text.specs.Lines.{lines_of, without_return}
use Rattle.line_text.proofs.LineSteps.{lines-step, lines-alone}
use Rattle.line_text.proofs.lines.next_line.Goals as goal

pub returns-then-feed-text-clause-some : goal.returns-then-feed-text-clause-some
returns-then-feed-text-clause-some c =
    let text = c.args.text.now in
    let feed = c.feed_in-feed.result in
    let some : 0 < length text = Prim.grind (arith, common_steps, c.if-is_empty.ensures) in
    let front = c.split_at.ensures.front ∙ take_all feed text (omega arith) in
    let back = c.split_at.ensures.back ∙ drop_all feed text (omega arith) in
    lines-alone text some (λ k below. c.feed_in-feed.ensures.before k (omega arith))
    ∙ ap (λ (line : List ℕ). line ∷ []) (sym front)
    ∙ ap (λ (rest : List ℕ). c.split_at.result.0.now ∷ lines_of rest) (sym back)

pub returns-clause-some : goal.returns-clause-some
returns-clause-some c =
    let text = c.args.text.now in
    let feed = c.feed_in-feed.result in
    let below : feed < length text = omega (arith, c.feed_in-feed.ensures.within) in
    lines-step feed text below c.feed_in-feed.ensures.before (c.feed_in-feed.ensures.feed below)
    ∙ ap (λ (line : List ℕ). without_return line ∷ lines_of (drop (feed + 1) text)) (sym c.split_at.ensures.front)
    ∙ ap (λ (line : List ℕ). line ∷ lines_of (drop (feed + 1) text)) (sym c.without_return.ensures)
    ∙ ap (λ (rest : List ℕ). c.without_return.result.now ∷ lines_of rest) (sym c.split_at-2.ensures.back)
