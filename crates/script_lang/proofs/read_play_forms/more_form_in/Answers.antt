use Rattle.std.proofs.Common.{◌≡◌, ◌<◌, length, arith}
use Rattle.std.proofs.lemmas.Grind.{common_steps}
use Rattle.script_lang.proofs.PlayFormsAgain.{three-none, long-none}
use Rattle.script_lang.proofs.read_play_forms.more_form_in.Goals as goal

pub returns-then-is_empty-clause-none : goal.returns-then-is_empty-clause-none
returns-then-is_empty-clause-none c =
    let none : length c.args.rest.now ≡ 0 = Prim.grind (arith, common_steps, c.if-is_empty.ensures) in
    three-none c.args.verb.now c.args.one.now c.args.two.now c.args.rest.now c.word_form_in.result none c.word_form_in.ensures.is

pub returns-else-is_empty-clause-none : goal.returns-else-is_empty-clause-none
returns-else-is_empty-clause-none c =
    let some : 0 < length c.args.rest.now = Prim.grind (arith, common_steps, c.if-is_empty.ensures) in
    long-none c.args.verb.now c.args.one.now c.args.two.now c.args.rest.now c.long_form_in.result some c.long_form_in.ensures.is
