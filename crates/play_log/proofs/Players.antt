-- A line says one act in a world.
use Rattle.std.proofs.Common.{◌≡◌, ℕ, List, Option, Some, sym, ap, ◌∙◌, subst, slice_get}
use Rattle.std.specs.Prelude.{unwrap_or}
use Rattle.omx_types.specs.declared.handle.Handle.{Handle}
use Rattle.omx_types.specs.declared.command.Command.TheVariants.{StateSet, Flush, PortDisable, PortEnable, MarkBuffer}
use Rattle.omx_types.specs.declared.param.Param.TheVariants as params
use Rattle.part_forms.specs.Kinds.{is_input}
use Rattle.il_machine.specs.declared.answer.Progress.{Progress}
use Rattle.il_machine.specs.Stepping.{WorkDone}
use Rattle.il_machine.specs.Acts.{Act, Reply}
use Rattle.il_machine.specs.Acts as acts
use Rattle.act_text.specs.declared.act.TextAct.{TextAct}
use Rattle.act_text.specs.declared.act.TextAct.TheVariants as lines
use Rattle.script_lang.specs.declared.play_line.PartLine.{PartLine}
use Rattle.play_forms.specs.Parts.{kind_of}
use Rattle.play_log.specs.Saying.{Of, SaysAct, key, port_at}
use Rattle.play_log.specs.Scenes.{Scene, HaveOwnNames}

pub some_same : {T : Type 0} (a b : T) → Some a ≡ Some b → a ≡ b
some_same a b e = ap (λ (o : Option _). unwrap_or o a) e

-- what two facts say of one player
pub record Both (P Q : PartLine → Handle → Type 0) : Type 0 where
  pub part : PartLine
  pub handle : Handle
  pub one : P part handle
  pub other : Q part handle

pub one_player : (s : Scene) → HaveOwnNames s.parts → (name : List ℕ) (P Q : PartLine → Handle → Type 0) → Of s name P → Of s name Q → Both P Q
one_player s own name P Q x y =
    let a = x.3 in
    let b = y.3 in
    let place : x.0 ≡ y.0 = own x.0 y.0 x.1 y.1 a.line b.line (a.named ∙ sym b.named) in
    let part : y.1 ≡ x.1 = some_same y.1 x.1 (sym b.line ∙ ap (slice_get s.parts) (sym place) ∙ a.line) in
    let handle : y.2 ≡ x.2 = some_same y.2 x.2 (sym b.handle ∙ ap (slice_get s.handles) (sym place) ∙ a.handle) in
    record {
      part = x.1;
      handle = x.2;
      one = x.4;
      other = subst (λ (p : PartLine). Q p x.2) part (subst (λ (h : Handle). Q y.1 h) handle y.4);
    }

module _ (s : Scene) (own : HaveOwnNames s.parts) where
  alike : (name : List ℕ) (a b : Act) (f : PartLine → Handle → Act) → Of s name (λ part h. a ≡ f part h) → Of s name (λ part h. b ≡ f part h) → a ≡ b
  alike name a b f x y =
      let r = one_player s own name (λ part h. a ≡ f part h) (λ part h. b ≡ f part h) x y in
      r.one ∙ sym r.other

  alike_two : (name other : List ℕ) (a b : Act) (f : Handle → Handle → Act)
      → Of s name (λ part h. Of s other (λ part k. a ≡ f h k)) → Of s name (λ part h. Of s other (λ part k. b ≡ f h k)) → a ≡ b
  alike_two name other a b f x y =
      let r = one_player s own name (λ part h. Of s other (λ part k. a ≡ f h k)) (λ part h. Of s other (λ part k. b ≡ f h k)) x y in
      alike other a b (λ part k. f r.handle k) r.one r.other

  -- a work that comes back and a client object that goes back are said by the world
  pub act_alike : (t : TextAct) (a b : Act) → SaysAct s t a → SaysAct s t b
      → ((h : Handle) (done back : WorkDone) → done.component ≡ h.generation → back.component ≡ h.generation → a ≡ acts.Finish done → b ≡ acts.Finish back → a ≡ b)
      → ((h : Handle) (one other : Progress) → a ≡ acts.EndNote h one → b ≡ acts.EndNote h other → a ≡ b)
      → a ≡ b
  act_alike (lines.Free c) a b x y F E = alike c a b (λ part h. acts.FreeHandle h) x y
  act_alike (lines.State c) a b x y F E = alike c a b (λ part h. acts.GetState h) x y
  act_alike (lines.Port p) a b x y F E = alike p.component a b (λ part h. acts.PortView h p.index) x y
  act_alike (lines.SetPort p format count size) a b x y F E = alike p.component a b (λ part h.
      acts.SetParameter h (key 1 p.index) (params.Port (record { input = is_input (kind_of part.form) p.index; format = format; count = count; size = size }))) x y
  act_alike (lines.SetSupplier p supplier) a b x y F E = alike p.component a b (λ part h. acts.SetParameter h (key 2 p.index) (params.Supplier supplier)) x y
  act_alike (lines.SetPriority c n) a b x y F E = alike c a b (λ part h. acts.SetParameter h (key 3 0) (params.Priority n)) x y
  act_alike (lines.Gain c n) a b x y F E = alike c a b (λ part h. acts.SetConfig h (key 4 0) (params.Gain n)) x y
  act_alike (lines.Weight p n) a b x y F E = alike p.component a b (λ part h. acts.SetConfig h (key 5 p.index) (params.Weight n)) x y
  act_alike (lines.Tunnel p q) a b x y F E = alike_two p.component q.component a b (λ h k. acts.SetupTunnel (port_at h p.index) (port_at k q.index)) x y
  act_alike (lines.DropTunnel p q) a b x y F E = alike_two p.component q.component a b (λ h k. acts.DropTunnel (port_at h p.index) (port_at k q.index)) x y
  act_alike (lines.SendState c state) a b x y F E = alike c a b (λ part h. acts.SendCommand h (StateSet state)) x y
  act_alike (lines.SendFlush c ports) a b x y F E = alike c a b (λ part h. acts.SendCommand h (Flush ports)) x y
  act_alike (lines.SendDisable c ports) a b x y F E = alike c a b (λ part h. acts.SendCommand h (PortDisable ports)) x y
  act_alike (lines.SendEnable c ports) a b x y F E = alike c a b (λ part h. acts.SendCommand h (PortEnable ports)) x y
  act_alike (lines.SendMark c port target value) a b x y F E = alike_two c target a b (λ h k. acts.SendCommand h (MarkBuffer port k value)) x y
  act_alike (lines.Run c) a b x y F E = alike c a b (λ part h. acts.RunCommand h) x y
  act_alike (lines.Claim c) a b x y F E = alike c a b (λ part h. acts.Claim h) x y
  act_alike (lines.Finish c) a b x y F E =
      let r = one_player s own c (λ part h. (done : WorkDone) × (done.component ≡ h.generation) × (a ≡ acts.Finish done)) (λ part h. (done : WorkDone) × (done.component ≡ h.generation) × (b ≡ acts.Finish done)) x y in
      F r.handle (r.one).0 (r.other).0 (r.one).1 (r.other).1 (r.one).2 (r.other).2
  act_alike (lines.Supply p) a b x y F E = alike p.component a b (λ part h. acts.Supply h p.index) x y
  act_alike (lines.Release p) a b x y F E = alike p.component a b (λ part h. acts.Release h p.index) x y
  act_alike (lines.Over p) a b x y F E = alike p.component a b (λ part h. acts.HandOver h p.index) x y
  act_alike (lines.Back p) a b x y F E = alike p.component a b (λ part h. acts.HandBack h p.index) x y
  act_alike (lines.Take c) a b x y F E = alike c a b (λ part h. acts.TakeNote h) x y
  act_alike (lines.End c) a b x y F E =
      let r = one_player s own c (λ part h. (progress : Progress) × (a ≡ acts.EndNote h progress)) (λ part h. (progress : Progress) × (b ≡ acts.EndNote h progress)) x y in
      E r.handle (r.one).0 (r.other).0 (r.one).1 (r.other).1
  act_alike lines.Grant a b x y F E = x ∙ sym y
  act_alike lines.Preempt a b x y F E = x ∙ sym y
