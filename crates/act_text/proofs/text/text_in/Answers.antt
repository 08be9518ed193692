use Rattle.std.proofs.Common.{◌≡◌, ◌∙◌}
use Rattle.std.proofs.lemmas.Bool.{both_ways}
use Rattle.line_text.specs.Words.{words_of}
use Rattle.line_text.specs.Lists.{texts}
use Rattle.act_text.proofs.TextsAgain.{no-long-text, spaced-text, text-spaced, text-only, some-then}
use Rattle.act_text.proofs.text.text_in.Goals as goal

pub returns-in_default-clause-only : goal.returns-in_default-clause-only
returns-in_default-clause-only c = λ text is line_is. absurd (no-long-text c.args.line.now c.in_default.ensures.none text is line_is)

pub returns-then-is_spaced-clause-some : goal.returns-then-is_spaced-clause-some
returns-then-is_spaced-clause-some c =
    let words = texts c.as_slice-words.result.now in
    some-then c.text_of_words.result _ _ (λ text is. text-spaced c.args.line.now words text (c.is_spaced.ensures.0 c.if-is_spaced.true) is) c.text_of_words.ensures.some

pub returns-then-is_spaced-clause-only : goal.returns-then-is_spaced-clause-only
returns-then-is_spaced-clause-only c =
    text-only c.args.line.now (texts c.as_slice-words.result.now) c.text_of_words.result (c.as_slice-words.ensures ∙ c.in-Some.ensures.some) c.text_of_words.ensures.is

pub returns-else-is_spaced-clause-only : goal.returns-else-is_spaced-clause-only
returns-else-is_spaced-clause-only c = λ text is line_is.
    let held : texts c.as_slice-words.result.now ≡ words_of c.args.line.now = c.as_slice-words.ensures ∙ c.in-Some.ensures.some in
    absurd (both_ways c.is_spaced.result c.if-is_spaced.false (c.is_spaced.ensures.1 (spaced-text c.args.line.now (texts c.as_slice-words.result.now) held text is line_is)))
