-- What a component answers where it is asked to go to a state.
use Rattle.std.specs.Prelude.{Option, Some, None, if◌then◌else◌}
use Rattle.omx_types.specs.declared.state.State.{State}
use Rattle.il_machine.specs.States.{same_state, is_lawful}
use Rattle.state_rules.specs.declared.Asked.{Asked}
use Rattle.state_rules.specs.declared.Asked.TheVariants.{Begin, Same, Wrong, Wait}

-- where no transition is pending
abbrev pub asked_at_rest : State → State → Asked
asked_at_rest now target =
    if same_state now target then Same
    else if is_lawful now target then Begin
    else Wrong

abbrev pub asked : State → Option State → State → Asked
asked now (Some awaited) target = Wait awaited
asked now None target = asked_at_rest now target
