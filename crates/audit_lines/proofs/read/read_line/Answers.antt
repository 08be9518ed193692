use Rattle.std.proofs.Common.{◌≡◌, true, false, Ok, Err, sym, ap, ◌∙◌, arith}
use Rattle.act_text.specs.Texts.{act_text}
use Rattle.act_text.specs.declared.text.ActText.{ActText}
use Rattle.play_log.specs.Lines.{is_left_out}
use Rattle.audit_lines.proofs.Spelled.{behind_number, of_parts, same_parts}
use Rattle.audit_lines.proofs.read.read_line.Goals as goal

pub returns-in_default-pass_in-clause-only : goal.returns-in_default-pass_in-clause-only
returns-in_default-pass_in-clause-only c = λ said G.
    let rest = behind_number c.args.number c.args.line.now _ c.in-Some.rest.now said c.put_number-count.ensures.digits c.in-Some.ensures.some G in
    c.in_default-pass_in.ensures.none said.pass (act_text said.said) G.few rest

pub returns-in_default-read_act-clause-only : goal.returns-in_default-read_act-clause-only
returns-in_default-read_act-clause-only c = λ said G.
    let rest = behind_number c.args.number c.args.line.now _ c.in-Some.rest.now said c.put_number-count.ensures.digits c.in-Some.ensures.some G in
    let same = same_parts c.in-Some-pass_in.pass c.in-Some-pass_in.rest.now c.in-Some.rest.now said c.in-Some-pass_in.ensures.some.1 rest in
    let read = c.read_act.ensures.only said.said (G.canonical).said same.1 in
    let clash : Err c.in_default-read_act.field-0 ≡ Ok said.said = sym c.in_default-read_act.is ∙ read in
    absurd cc

pub returns-then-is_left_out-clause-only : goal.returns-then-is_left_out-clause-only
returns-then-is_left_out-clause-only c = λ said G.
    let rest = behind_number c.args.number c.args.line.now _ c.in-Some.rest.now said c.put_number-count.ensures.digits c.in-Some.ensures.some G in
    let same = same_parts c.in-Some-pass_in.pass c.in-Some-pass_in.rest.now c.in-Some.rest.now said c.in-Some-pass_in.ensures.some.1 rest in
    let read = c.read_act.ensures.only said.said (G.canonical).said same.1 in
    let one : Ok c.in-Ok.said ≡ Ok said.said = sym c.in-Ok.is ∙ read in
    let is : c.in-Ok.said ≡ said.said = cc in
    let clash : true ≡ false = sym c.if-is_left_out.true ∙ c.is_left_out.ensures ∙ ap (λ (text : ActText). is_left_out text.reply) is ∙ G.printed in
    absurd cc

pub returns-clause-some : goal.returns-clause-some
returns-clause-some c =
    let E = c.in-Ok.ensures in
    of_parts c.args.number c.args.line.now _ c.in-Some.rest.now c.in-Some-pass_in.rest.now c.in-Some-pass_in.pass _ c.put_number-count.ensures.digits c.in-Some.ensures.some
    c.in-Some-pass_in.ensures.some.0 c.in-Some-pass_in.ensures.some.1 E.some E.text (omega (arith, c.if-line-gt512.false)) (sym c.is_left_out.ensures ∙ c.if-is_left_out.false)

pub returns-clause-only : goal.returns-clause-only
returns-clause-only c = λ said G.
    let rest = behind_number c.args.number c.args.line.now _ c.in-Some.rest.now said c.put_number-count.ensures.digits c.in-Some.ensures.some G in
    let same = same_parts c.in-Some-pass_in.pass c.in-Some-pass_in.rest.now c.in-Some.rest.now said c.in-Some-pass_in.ensures.some.1 rest in
    let read = c.read_act.ensures.only said.said (G.canonical).said same.1 in
    let one : Ok c.in-Ok.said ≡ Ok said.said = sym c.in-Ok.is ∙ read in
    let is : c.in-Ok.said ≡ said.said = cc in
    λ j. record { pass = same.0 j; said = is j }
