-- What a line of a log asks of a graph.
use Rattle.std.specs.Prelude.{ℕ, ◌⊎◌, List, []}
use Rattle.omx_types.specs.declared.command.Command.TheVariants.{StateSet, PortDisable, PortEnable}
use Rattle.omx_types.specs.declared.handle.Handle.{Handle}
use Rattle.omx_types.specs.declared.param.Param.TheVariants as params
use Rattle.part_forms.specs.Kinds.{is_input}
use Rattle.il_machine.specs.Acts.{Act as Plain}
use Rattle.il_machine.specs.Acts as acts
use Rattle.act_text.specs.declared.act.TextAct.{TextAct}
use Rattle.act_text.specs.declared.act.TextAct.TheVariants as lines
use Rattle.act_text.specs.declared.reply.TextReply.{TextReply}
use Rattle.act_text.specs.declared.reply.TextReply.TheVariants as texts
use Rattle.script_lang.specs.declared.play_line.PartLine.{PartLine}
use Rattle.play_forms.specs.Parts.{kind_of}
use Rattle.play_log.specs.Saying.{key}
use Rattle.play_log.specs.Scenes.{Scene, IsPlayer}
use Rattle.graph_acts.specs.declared.act.Act.{Act}
use Rattle.graph_acts.specs.declared.act.Act.TheVariants as asks
use Rattle.graph_acts.specs.declared.act.Reply.{Reply}
use Rattle.graph_acts.specs.declared.act.Reply.TheVariants as replies

-- the components of the lines, with the handles in the same order
abbrev pub scene_in : List PartLine → List Handle → Scene
scene_in parts handles = record { parts = parts; handles = handles }

-- no component has the name
abbrev pub IsUnknown : Scene → List ℕ → Type 0
IsUnknown s name = (place : ℕ) (part : PartLine) (h : Handle) → IsPlayer s place name part h → ⊥

-- ---- the acts of a play that say all of themselves: not those by which a work or a client object goes back

-- of one component
abbrev pub IsOfOne : TextAct → Type 0
IsOfOne (lines.SetPort port format count size) = Unit {0}
IsOfOne (lines.SendState component state) = Unit {0}
IsOfOne (lines.SendDisable component ports) = Unit {0}
IsOfOne (lines.SendEnable component ports) = Unit {0}
IsOfOne (lines.Run component) = Unit {0}
IsOfOne (lines.Claim component) = Unit {0}
IsOfOne (lines.Supply port) = Unit {0}
IsOfOne (lines.Release port) = Unit {0}
IsOfOne (lines.Over port) = Unit {0}
IsOfOne (lines.Back port) = Unit {0}
IsOfOne (lines.Take component) = Unit {0}
IsOfOne other = ⊥

-- of the two that a tunnel joins
abbrev pub IsOfTwo : TextAct → Type 0
IsOfTwo (lines.Tunnel first second) = Unit {0}
IsOfTwo (lines.DropTunnel first second) = Unit {0}
IsOfTwo other = ⊥

abbrev pub IsSaid : TextAct → Type 0
IsSaid said = IsOfOne said ⊎ IsOfTwo said

-- the component of the one
abbrev pub component_in : TextAct → List ℕ
component_in (lines.SetPort port format count size) = port.component
component_in (lines.SendState component state) = component
component_in (lines.SendDisable component ports) = component
component_in (lines.SendEnable component ports) = component
component_in (lines.Run component) = component
component_in (lines.Claim component) = component
component_in (lines.Supply port) = port.component
component_in (lines.Release port) = port.component
component_in (lines.Over port) = port.component
component_in (lines.Back port) = port.component
component_in (lines.Take component) = component
component_in other = []

-- the machine's act
abbrev pub act_by : PartLine → Handle → TextAct → Plain
act_by part h (lines.SetPort port format count size) =
    acts.SetParameter h (key 1 port.index)
    (params.Port (record { input = is_input (kind_of part.form) port.index; format = format; count = count; size = size }))
act_by part h (lines.SendState component state) = acts.SendCommand h (StateSet state)
act_by part h (lines.SendDisable component ports) = acts.SendCommand h (PortDisable ports)
act_by part h (lines.SendEnable component ports) = acts.SendCommand h (PortEnable ports)
act_by part h (lines.Run component) = acts.RunCommand h
act_by part h (lines.Claim component) = acts.Claim h
act_by part h (lines.Supply port) = acts.Supply h port.index
act_by part h (lines.Release port) = acts.Release h port.index
act_by part h (lines.Over port) = acts.HandOver h port.index
act_by part h (lines.Back port) = acts.HandBack h port.index
act_by part h (lines.Take component) = acts.TakeNote h
act_by part h other = acts.Grant

-- ---- acts and replies of a graph

module _ {S K C : Type 0} where
  -- a play's, that takes nothing of its caller's
  abbrev pub IsPlain : Act S K C → Type 0
  IsPlain (asks.SetParameter h key value) = Unit {0}
  IsPlain (asks.SetupTunnel output input) = Unit {0}
  IsPlain (asks.DropTunnel output input) = Unit {0}
  IsPlain (asks.SendCommand h command) = Unit {0}
  IsPlain (asks.RunCommand h) = Unit {0}
  IsPlain (asks.TakeNote h) = Unit {0}
  IsPlain (asks.Supply h port) = Unit {0}
  IsPlain (asks.Release h port) = Unit {0}
  IsPlain (asks.HandOver h port) = Unit {0}
  IsPlain (asks.HandBack h port) = Unit {0}
  IsPlain (asks.Claim h) = Unit {0}
  IsPlain other = ⊥

  -- a reply to such an act
  abbrev pub IsPlainReply : Reply S K C → Type 0
  IsPlainReply (replies.SetParameter result) = Unit {0}
  IsPlainReply (replies.SetupTunnel result) = Unit {0}
  IsPlainReply (replies.DropTunnel result) = Unit {0}
  IsPlainReply (replies.SendCommand result) = Unit {0}
  IsPlainReply (replies.RunCommand result) = Unit {0}
  IsPlainReply (replies.TakeNote result) = Unit {0}
  IsPlainReply (replies.Supply result) = Unit {0}
  IsPlainReply (replies.Release result) = Unit {0}
  IsPlainReply (replies.HandOver result) = Unit {0}
  IsPlainReply (replies.HandBack result) = Unit {0}
  IsPlainReply (replies.Claim result) = Unit {0}
  IsPlainReply other = ⊥

-- the text of a reply to an act of a play
abbrev pub IsPlayText : TextReply → Type 0
IsPlayText texts.Done = Unit {0}
IsPlayText (texts.Error error) = Unit {0}
IsPlayText (texts.Supplier input) = Unit {0}
IsPlayText texts.Did = Unit {0}
IsPlayText texts.Work = Unit {0}
IsPlayText (texts.Finished frames) = Unit {0}
IsPlayText (texts.Event event) = Unit {0}
IsPlayText other = ⊥
