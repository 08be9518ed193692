-- What a line says of a request, by the act; and which acts are requests.
use Rattle.std.proofs.Common.{◌≡◌, ℕ, List, [], slice_get, Option, Some, None, refl, sym, ◌∙◌, ap, subst}
use Rattle.omx_types.specs.declared.command.Command.{Command}
use Rattle.omx_types.specs.declared.command.Command.TheVariants.{StateSet, Flush, PortDisable, PortEnable, MarkBuffer}
use Rattle.omx_types.specs.declared.handle.Handle.{Handle}
use Rattle.omx_types.specs.declared.handle.PortId.{PortId}
use Rattle.omx_types.specs.declared.param.Param.{Param}
use Rattle.omx_types.specs.declared.param.Param.TheVariants as params
use Rattle.omx_types.specs.declared.param.ParamKey.{ParamKey}
use Rattle.part_forms.specs.Kinds.{is_input}
use Rattle.il_machine.specs.Acts.{Act}
use Rattle.il_machine.specs.Acts as acts
use Rattle.act_text.specs.declared.act.TextAct.{TextAct}
use Rattle.act_text.specs.declared.act.TextAct.TheVariants as lines
use Rattle.act_text.specs.declared.name.PortName.{PortName}
use Rattle.script_lang.specs.declared.play_line.PartLine.{PartLine}
use Rattle.play_forms.specs.Parts.{kind_of}
use Rattle.play_log.specs.Saying.{Of, SaysAct, key, port_at}
use Rattle.play_log.specs.Scenes.{IsPlayer, Scene}
use Rattle.play_log.proofs.Players.{some_same}
use Rattle.play_history_laws.specs.Requests.{is_request_act}
use Rattle.audit_order.specs.Asked.{is_asked}
use Rattle.audit_order.specs.Ends.{port_named}
use Rattle.audit_forms.specs.Told.{HaveNumbers}

-- ---- the text of a request

abbrev pub name_in : Option PartLine → List ℕ
name_in None = []
name_in (Some part) = part.name

-- the name of the component with that number, which is its place
abbrev pub name_at : List PartLine → ℕ → List ℕ
name_at parts number = name_in (slice_get parts number)

abbrev pub name_of : List PartLine → PortId → PortName
name_of parts port = port_named (name_at parts (port.handle).generation) port.index

abbrev command_said : List ℕ → Command → Option TextAct
command_said name (StateSet state) = Some (lines.SendState name state)
command_said name (PortDisable ports) = Some (lines.SendDisable name ports)
command_said name (PortEnable ports) = Some (lines.SendEnable name ports)
command_said name other = None

abbrev setting_said : List ℕ → ParamKey → Param → Option TextAct
setting_said name at (params.Port d) = Some (lines.SetPort (port_named name at.port) d.format d.count d.size)
setting_said name at other = None

abbrev pub said_by : List PartLine → Act → Option TextAct
said_by parts (acts.SendCommand h command) = command_said (name_at parts h.generation) command
said_by parts (acts.SetParameter h at value) = setting_said (name_at parts h.generation) at value
said_by parts (acts.SetupTunnel output input) = Some (lines.Tunnel (name_of parts output) (name_of parts input))
said_by parts (acts.DropTunnel output input) = Some (lines.DropTunnel (name_of parts output) (name_of parts input))
said_by parts other = None

-- ---- by the act

-- where the act has such a text it is this one; and it is a request exactly where a client asks for it
abbrev pub Fits : List PartLine → TextAct → Act → Type 0
Fits parts t a = ((x : TextAct) → said_by parts a ≡ Some x → t ≡ x) × (is_request_act a ≡ is_asked t)

module _ (s : Scene) (numbers : HaveNumbers s) where
  named : (name : List ℕ) (place : ℕ) (part : PartLine) (h : Handle) → IsPlayer s place name part h → name_at s.parts h.generation ≡ name
  named name place part h P = ap (name_at s.parts) (numbers place h P.handle) ∙ (ap name_in P.line ∙ P.named)

  by_name : (P : Act → Type 0) (name : List ℕ) (a : Act) (f : PartLine → Handle → Act) → ((part : PartLine) (h : Handle) → name_at s.parts h.generation ≡ name → P (f part h)) → Of s name (λ part h. a ≡ f part h) → P a
  by_name P name a f g x = subst P (sym x.4) (g x.1 x.2 (named name x.0 x.1 x.2 x.3))

  by_names : (P : Act → Type 0) (name other : List ℕ) (a : Act) (f : Handle → Handle → Act)
      → ((h k : Handle) → name_at s.parts h.generation ≡ name → name_at s.parts k.generation ≡ other → P (f h k)) → Of s name (λ part h. Of s other (λ part k. a ≡ f h k)) → P a
  by_names P name other a f g x =
      let y = x.4 in
      subst P (sym y.4) (g x.2 y.2 (named name x.0 x.1 x.2 x.3) (named other y.0 y.1 y.2 y.3))

  pub said_so : (t : TextAct) (a : Act) → SaysAct s t a → Fits s.parts t a
  said_so (lines.Free c) a x = by_name (Fits s.parts (lines.Free c)) c a (λ part h. acts.FreeHandle h) (λ part h e. (λ y q. absurd cc, refl)) x
  said_so (lines.State c) a x = by_name (Fits s.parts (lines.State c)) c a (λ part h. acts.GetState h) (λ part h e. (λ y q. absurd cc, refl)) x
  said_so (lines.Port p) a x = by_name (Fits s.parts (lines.Port p)) p.component a (λ part h. acts.PortView h p.index) (λ part h e. (λ y q. absurd cc, refl)) x
  said_so (lines.SetPort p format count size) a x = by_name (Fits s.parts (lines.SetPort p format count size)) p.component a
      (λ part h. acts.SetParameter h (key 1 p.index) (params.Port (record { input = is_input (kind_of part.form) p.index; format = format; count = count; size = size })))
      (λ part h e. (λ y q. ap (λ (name : List ℕ). lines.SetPort (port_named name p.index) format count size) (sym e) ∙ some_same (lines.SetPort (port_named (name_at s.parts h.generation) p.index) format count size) y q, refl)) x
  said_so (lines.SetSupplier p supplier) a x = by_name (Fits s.parts (lines.SetSupplier p supplier)) p.component a (λ part h. acts.SetParameter h (key 2 p.index) (params.Supplier supplier)) (λ part h e. (λ y q. absurd cc, refl)) x
  said_so (lines.SetPriority c n) a x = by_name (Fits s.parts (lines.SetPriority c n)) c a (λ part h. acts.SetParameter h (key 3 0) (params.Priority n)) (λ part h e. (λ y q. absurd cc, refl)) x
  said_so (lines.Gain c n) a x = by_name (Fits s.parts (lines.Gain c n)) c a (λ part h. acts.SetConfig h (key 4 0) (params.Gain n)) (λ part h e. (λ y q. absurd cc, refl)) x
  said_so (lines.Weight p n) a x = by_name (Fits s.parts (lines.Weight p n)) p.component a (λ part h. acts.SetConfig h (key 5 p.index) (params.Weight n)) (λ part h e. (λ y q. absurd cc, refl)) x
  said_so (lines.SendState c state) a x = by_name (Fits s.parts (lines.SendState c state)) c a (λ part h. acts.SendCommand h (StateSet state))
      (λ part h e. (λ y q. ap (λ (name : List ℕ). lines.SendState name state) (sym e) ∙ some_same (lines.SendState (name_at s.parts h.generation) state) y q, refl)) x
  said_so (lines.SendFlush c ports) a x = by_name (Fits s.parts (lines.SendFlush c ports)) c a (λ part h. acts.SendCommand h (Flush ports)) (λ part h e. (λ y q. absurd cc, refl)) x
  said_so (lines.SendDisable c ports) a x = by_name (Fits s.parts (lines.SendDisable c ports)) c a (λ part h. acts.SendCommand h (PortDisable ports))
      (λ part h e. (λ y q. ap (λ (name : List ℕ). lines.SendDisable name ports) (sym e) ∙ some_same (lines.SendDisable (name_at s.parts h.generation) ports) y q, refl)) x
  said_so (lines.SendEnable c ports) a x = by_name (Fits s.parts (lines.SendEnable c ports)) c a (λ part h. acts.SendCommand h (PortEnable ports))
      (λ part h e. (λ y q. ap (λ (name : List ℕ). lines.SendEnable name ports) (sym e) ∙ some_same (lines.SendEnable (name_at s.parts h.generation) ports) y q, refl)) x
  said_so (lines.SendMark c port target value) a x = by_names (Fits s.parts (lines.SendMark c port target value)) c target a (λ h k. acts.SendCommand h (MarkBuffer port k value)) (λ h k e f. (λ y q. absurd cc, refl)) x
  said_so (lines.Run c) a x = by_name (Fits s.parts (lines.Run c)) c a (λ part h. acts.RunCommand h) (λ part h e. (λ y q. absurd cc, refl)) x
  said_so (lines.Claim c) a x = by_name (Fits s.parts (lines.Claim c)) c a (λ part h. acts.Claim h) (λ part h e. (λ y q. absurd cc, refl)) x
  said_so (lines.Finish c) a x = subst (Fits s.parts (lines.Finish c)) (sym (x.4).2) (λ y q. absurd cc, refl)
  said_so (lines.Supply p) a x = by_name (Fits s.parts (lines.Supply p)) p.component a (λ part h. acts.Supply h p.index) (λ part h e. (λ y q. absurd cc, refl)) x
  said_so (lines.Release p) a x = by_name (Fits s.parts (lines.Release p)) p.component a (λ part h. acts.Release h p.index) (λ part h e. (λ y q. absurd cc, refl)) x
  said_so (lines.Over p) a x = by_name (Fits s.parts (lines.Over p)) p.component a (λ part h. acts.HandOver h p.index) (λ part h e. (λ y q. absurd cc, refl)) x
  said_so (lines.Back p) a x = by_name (Fits s.parts (lines.Back p)) p.component a (λ part h. acts.HandBack h p.index) (λ part h e. (λ y q. absurd cc, refl)) x
  said_so (lines.Take c) a x = by_name (Fits s.parts (lines.Take c)) c a (λ part h. acts.TakeNote h) (λ part h e. (λ y q. absurd cc, refl)) x
  said_so (lines.End c) a x = subst (Fits s.parts (lines.End c)) (sym (x.4).1) (λ y q. absurd cc, refl)
  said_so (lines.Tunnel p q) a x = by_names (Fits s.parts (lines.Tunnel p q)) p.component q.component a (λ h k. acts.SetupTunnel (port_at h p.index) (port_at k q.index))
      (λ h k e f. (
        λ y is. (λ j. lines.Tunnel (port_named (sym e j) p.index) (port_named (sym f j) q.index))
            ∙ some_same (lines.Tunnel (port_named (name_at s.parts h.generation) p.index) (port_named (name_at s.parts k.generation) q.index)) y is,
        refl,
      )) x
  said_so (lines.DropTunnel p q) a x = by_names (Fits s.parts (lines.DropTunnel p q)) p.component q.component a (λ h k. acts.DropTunnel (port_at h p.index) (port_at k q.index))
      (λ h k e f. (
        λ y is. (λ j. lines.DropTunnel (port_named (sym e j) p.index) (port_named (sym f j) q.index))
            ∙ some_same (lines.DropTunnel (port_named (name_at s.parts h.generation) p.index) (port_named (name_at s.parts k.generation) q.index)) y is,
        refl,
      )) x
  said_so lines.Grant a x = subst (Fits s.parts lines.Grant) (sym x) (λ y q. absurd cc, refl)
  said_so lines.Preempt a x = subst (Fits s.parts lines.Preempt) (sym x) (λ y q. absurd cc, refl)
