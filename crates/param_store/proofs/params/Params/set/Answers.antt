use Rattle.std.proofs.Common.{◌≡◌, Bool, true, false, not, ◌||◌, Option, Some, None, refl, sym, ◌∙◌, if◌then◌else◌}
use Rattle.omx_types.specs.declared.error.OmxError.{OmxError}
use Rattle.omx_types.specs.declared.error.OmxError.TheVariants.{BadParameter}
use Rattle.il_machine.specs.Kinds.{is_input}
use Rattle.il_machine.specs.Settings.{get_refusals, value_refusals}
use Rattle.il_machine.proofs.Refusals.{none_of_second}
use Rattle.param_store.proofs.params.Params.set.Goals as goal

good_of : (right good : Bool) (rest : Option OmxError) → (if not right || not good then Some BadParameter else rest) ≡ None → good ≡ true
good_of true true rest h = refl
good_of true false rest h = absurd cc
good_of false good rest h = absurd cc

pub change-requires-clause-good : goal.change-requires-clause-good
change-requires-clause-good c =
    let s = c.args.self.now in
    let input = is_input s.kind c.args.key.port in
    (input, good_of _ _ _ (none_of_second (get_refusals s c.args.key c.args.config) (value_refusals s c.args.key c.args.value c.args.free) (sym c.set_refusal.ensures ∙ c.in_default.is)))
