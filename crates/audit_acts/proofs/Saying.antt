-- What a line says of one component is said by the component's act, and of no component by none.
use Rattle.std.proofs.Common.{◌≡◌, inl, inr, ℕ, List, refl}
use Rattle.omx_types.specs.declared.handle.Handle.{Handle}
use Rattle.il_machine.specs.Acts.{Act as Plain}
use Rattle.act_text.specs.declared.act.TextAct.{TextAct}
use Rattle.act_text.specs.declared.act.TextAct.TheVariants as lines
use Rattle.act_text.specs.declared.name.PortName.{PortName}
use Rattle.script_lang.specs.declared.play_line.PartLine.{PartLine}
use Rattle.play_log.specs.Saying.{Of, SaysAct}
use Rattle.play_log.specs.Scenes.{Scene, IsPlayer}
use Rattle.audit_acts.specs.Asking.{IsOfOne, IsSaid, IsUnknown, act_by, component_in}

pub says_one : (s : Scene) (said : TextAct) (place : ℕ) (part : PartLine) (h : Handle) (a : Plain) → IsOfOne said → IsPlayer s place (component_in said) part h → a ≡ act_by part h said → SaysAct s said a
says_one s (lines.SetPort port format count size) place part h a I P e = (place, part, h, P, e)
says_one s (lines.SendState component state) place part h a I P e = (place, part, h, P, e)
says_one s (lines.SendDisable component ports) place part h a I P e = (place, part, h, P, e)
says_one s (lines.SendEnable component ports) place part h a I P e = (place, part, h, P, e)
says_one s (lines.Run component) place part h a I P e = (place, part, h, P, e)
says_one s (lines.Claim component) place part h a I P e = (place, part, h, P, e)
says_one s (lines.Supply port) place part h a I P e = (place, part, h, P, e)
says_one s (lines.Release port) place part h a I P e = (place, part, h, P, e)
says_one s (lines.Over port) place part h a I P e = (place, part, h, P, e)
says_one s (lines.Back port) place part h a I P e = (place, part, h, P, e)
says_one s (lines.Take component) place part h a I P e = (place, part, h, P, e)
says_one s other place part h a I P e = absurd I

none_of : (s : Scene) (name : List ℕ) (Says : PartLine → Handle → Type 0) → IsUnknown s name → Of s name Says → ⊥
none_of s name Says U x = U x.0 x.1 x.2 x.3

pub says_none : (s : Scene) (said : TextAct) (a : Plain) → IsOfOne said → IsUnknown s (component_in said) → SaysAct s said a → ⊥
says_none s (lines.SetPort port format count size) a I U x = none_of s port.component _ U x
says_none s (lines.SendState component state) a I U x = none_of s component _ U x
says_none s (lines.SendDisable component ports) a I U x = none_of s component _ U x
says_none s (lines.SendEnable component ports) a I U x = none_of s component _ U x
says_none s (lines.Run component) a I U x = none_of s component _ U x
says_none s (lines.Claim component) a I U x = none_of s component _ U x
says_none s (lines.Supply port) a I U x = none_of s port.component _ U x
says_none s (lines.Release port) a I U x = none_of s port.component _ U x
says_none s (lines.Over port) a I U x = none_of s port.component _ U x
says_none s (lines.Back port) a I U x = none_of s port.component _ U x
says_none s (lines.Take component) a I U x = none_of s component _ U x
says_none s other a I U x = absurd I

-- what is left of the lines but for those of tunnels
pub of_one : (said : TextAct) → IsSaid said → ((first second : PortName) → said ≡ lines.Tunnel first second → ⊥) → ((first second : PortName) → said ≡ lines.DropTunnel first second → ⊥) → IsOfOne said
of_one said (inl I) n m = I
of_one (lines.Tunnel first second) (inr I) n m = absurd (n first second refl)
of_one (lines.DropTunnel first second) (inr I) n m = absurd (m first second refl)
of_one said (inr I) n m = absurd I
