-- What the client of a play asks for, as the lines of its log say it.
use Rattle.std.specs.Prelude.{ℕ, zero, suc, Bool, true, false, List, Option, Some, None}
use Rattle.omx_types.specs.declared.command.PortSel.TheVariants.{One}
use Rattle.omx_types.specs.declared.state.State.{State}
use Rattle.omx_types.specs.declared.state.State.TheVariants.{Loaded, Idle, Executing}
use Rattle.act_text.specs.declared.act.TextAct.{TextAct}
use Rattle.act_text.specs.declared.act.TextAct.TheVariants as lines
use Rattle.audit_order.specs.declared.ends.LinkEnds.{LinkEnds}

-- the acts of components, deliveries and steps need no asking
abbrev pub is_asked : TextAct → Bool
is_asked (lines.Run component) = false
is_asked (lines.Supply port) = false
is_asked (lines.Release port) = false
is_asked (lines.Over port) = false
is_asked (lines.Back port) = false
is_asked (lines.Claim component) = false
is_asked (lines.Finish component) = false
is_asked (lines.Take component) = false
is_asked (lines.End component) = false
is_asked other = true

-- the state that is sent as the first, the second, the third and the fourth
abbrev pub state_sent : ℕ → State
state_sent zero = Loaded
state_sent (suc zero) = Idle
state_sent (suc (suc zero)) = Executing
state_sent (suc (suc (suc zero))) = Idle
state_sent _ = Loaded

-- the eight acts of the change of a late source's link, from 0 on
abbrev pub change_act : LinkEnds → ℕ → TextAct
change_act x zero = lines.SendDisable (x.output).component (One (x.output).index)
change_act x (suc zero) = lines.SendDisable (x.input).component (One (x.input).index)
change_act x (suc (suc zero)) = lines.DropTunnel x.output x.input
change_act x (suc (suc (suc zero))) = lines.SetPort x.output x.format x.count x.size
change_act x (suc (suc (suc (suc zero)))) = lines.SetPort x.input x.format x.count x.size
change_act x (suc (suc (suc (suc (suc zero))))) = lines.Tunnel x.output x.input
change_act x (suc (suc (suc (suc (suc (suc zero)))))) = lines.SendEnable (x.output).component (One (x.output).index)
change_act x _ = lines.SendEnable (x.input).component (One (x.input).index)
