use Rattle.std.proofs.Common.{◌≡◌, ◌+◌, ◌^◌, [], Some, None, drop, refl, sym, ap, ◌∙◌, arith}
use Rattle.std.proofs.lemmas.List.{drop_all}
use Rattle.line_text.specs.ReadNumbers.{small_number}
use Rattle.act_text.proofs.Dots.{port_of-parts}
use Rattle.line_text.proofs.Numerals.{number_below-empty}
use Rattle.act_text.proofs.parts.port_in.Goals as goal

pub returns-in_default-clause-is : goal.returns-in_default-clause-is
returns-in_default-clause-is c =
    let dot = c.dot_in-dot.ensures in
    port_of-parts c.dot_in-dot.result c.args.word.now dot.within dot.before dot.dot None (small_number (drop (c.dot_in-dot.result + 1) c.args.word.now)) c.in_default.ensures.is refl

pub returns-then-dot-word-clause-is : goal.returns-then-dot-word-clause-is
returns-then-dot-word-clause-is c =
    let dot = c.dot_in-dot.ensures in
    let rest : drop (c.dot_in-dot.result + 1) c.args.word.now ≡ [] = drop_all (c.dot_in-dot.result + 1) c.args.word.now (omega arith) in
    port_of-parts c.dot_in-dot.result c.args.word.now dot.within dot.before dot.dot (Some c.in-Some.component) None c.in-Some.ensures.is (sym (ap small_number rest ∙ number_below-empty (2 ^ 32)))

pub returns-in_default-small_number_in-clause-is : goal.returns-in_default-small_number_in-clause-is
returns-in_default-small_number_in-clause-is c =
    let dot = c.dot_in-dot.ensures in
    port_of-parts c.dot_in-dot.result c.args.word.now dot.within dot.before dot.dot (Some c.in-Some.component) None c.in-Some.ensures.is (c.in_default-small_number_in.ensures.is ∙ ap small_number c.split_at.ensures.back)

pub returns-clause-is : goal.returns-clause-is
returns-clause-is c =
    let dot = c.dot_in-dot.ensures in
    port_of-parts c.dot_in-dot.result c.args.word.now dot.within dot.before dot.dot (Some c.in-Some.component) (Some c.in-Some-small_number_in.index) c.in-Some.ensures.is (c.in-Some-small_number_in.ensures.is ∙ ap small_number c.split_at.ensures.back)
