use Rattle.std.proofs.Common.{ℕ, Option, refl, sym, ap, ◌∙◌}
use Rattle.act_text.specs.Reading.{name_of}
use Rattle.line_text.specs.Lists.{texts}
use Rattle.script_lang.specs.ReadPlayForms.{weights_of, mixer_with, part_with}
use Rattle.script_lang.specs.declared.play_line.PartForm.{PartForm}
use Rattle.script_lang.proofs.PlayFormsAgain.{mixer-other, part-none, texts-many}
use Rattle.script_lang.proofs.read_play_forms.mixer_in.Goals as goal

pub returns-then-rest-inputs-clause-is : goal.returns-then-rest-inputs-clause-is
returns-then-rest-inputs-clause-is c =
    let rest = texts c.args.rest.now in
    let name = name_of c.args.name.now in
    let other = mixer-other c.in-Some-number_within.inputs rest (weights_of rest) refl (λ e. c.if-rest-inputs.true (sym (texts-many c.args.rest.now) ∙ e)) in
    sym (part-none name)
    ∙ ap (λ (form : Option PartForm). part_with name form) other
    ∙ ap (λ (inputs : Option ℕ). part_with name (mixer_with inputs (weights_of rest))) c.in-Some-number_within.ensures.is
