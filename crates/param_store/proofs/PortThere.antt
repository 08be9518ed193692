-- A value of a port's index has a port that is there.
use Rattle.std.proofs.Common.{◌≡◌, ◌<◌, Bool, true, false, None, nat_eq, arith}
use Rattle.std.proofs.lemmas.Bool.Decides.{nat_tests}
use Rattle.omx_types.specs.declared.param.ParamKey.{ParamKey}
use Rattle.il_machine.specs.Settings.{Settings, get_refusal}
use Rattle.il_machine.specs.Kinds.{ports_in}

pub port_there : (s : Settings) (key : ParamKey) (config : Bool) → get_refusal s key config ≡ None → nat_eq key.index 1 ≡ true → key.port < ports_in s.kind
port_there s key false h e = grind (arith, nat_tests)
port_there s key true h e = grind (arith, nat_tests)

pub supplier_there : (s : Settings) (key : ParamKey) (config : Bool) → get_refusal s key config ≡ None → nat_eq key.index 2 ≡ true → key.port < ports_in s.kind
supplier_there s key false h e = grind (arith, nat_tests)
supplier_there s key true h e = grind (arith, nat_tests)
