-- An act that a log's line says, made in another world by the handles that the components have there.
use Rattle.std.proofs.Common.{◌≡◌, ◌⊎◌, inl, inr, ℕ, zero, suc, Bool, true, false, List, length, slice_get, Some, Ok, Err, refl, sym, ◌∙◌, ap, subst, arith}
use Rattle.std.proofs.lemmas.Option.{slice_get_within}
use Rattle.omx_types.specs.declared.command.Command.{Command}
use Rattle.omx_types.specs.declared.command.Command.TheVariants.{StateSet, PortDisable, PortEnable}
use Rattle.omx_types.specs.declared.handle.Handle.{Handle}
use Rattle.omx_types.specs.declared.param.Param.{Param}
use Rattle.omx_types.specs.declared.param.Param.TheVariants as params
use Rattle.omx_types.specs.declared.param.ParamKey.{ParamKey}
use Rattle.part_forms.specs.Kinds.{is_input}
use Rattle.il_machine.specs.declared.answer.Acted.TheVariants.{Did, Idle}
use Rattle.il_machine.specs.declared.answer.Progress.{Progress}
use Rattle.il_machine.specs.Acts.{Act, Reply}
use Rattle.il_machine.specs.Acts as acts
use Rattle.il_machine.specs.Notes.{TakenEmpty, TakenEvent, TakenFilled, TookBusy, TookNone, TookNote}
use Rattle.il_machine.specs.Run.{Meets, Step}
use Rattle.il_machine.specs.Stepping.{WorkDone}
use Rattle.il_machine.specs.World.{World}
use Rattle.bare_run_laws.specs.Bare.{IsKnown, IsOwnCommand, IsUnmarked, bare_handle}
use Rattle.bare_run_laws.specs.Runs.{IsPlayAct, bare_act}
use Rattle.act_text.specs.declared.act.TextAct.{TextAct}
use Rattle.act_text.specs.declared.act.TextAct.TheVariants as lines
use Rattle.act_text.specs.declared.reply.TextReply.{TextReply}
use Rattle.script_lang.specs.declared.play_line.PartLine.{PartLine}
use Rattle.play_forms.specs.Parts.{kind_of}
use Rattle.play_world_laws.proofs.Lists.{get_there}
use Rattle.play_log.specs.Naming.{IsUnbroken}
use Rattle.play_log.specs.Saying.{Of, SaysAct, SaysReply, key, port_at}
use Rattle.play_log.specs.Scenes.{IsPlayer, Scene}
use Rattle.play_history_laws.specs.Refused.{IsPartHandle, is_refused}
use Rattle.audit_order.specs.declared.ends.LinkEnds.{LinkEnds}
use Rattle.audit_order.specs.Asked.{change_act, is_asked}
use Rattle.audit_order.specs.Steps.{OrderValue}
use Rattle.audit_forms.specs.Audited.{ComesNext}
use Rattle.audit_forms.specs.Told.{HaveNumbers}
use Rattle.play_forms.specs.Plans.{PlanValue}

-- ---- which acts a play has

abbrev pub is_of_play : TextAct → Bool
is_of_play (lines.SetPort port format count size) = true
is_of_play (lines.Tunnel first second) = true
is_of_play (lines.DropTunnel first second) = true
is_of_play (lines.SendState component state) = true
is_of_play (lines.SendDisable component ports) = true
is_of_play (lines.SendEnable component ports) = true
is_of_play (lines.Run component) = true
is_of_play (lines.Claim component) = true
is_of_play (lines.Finish component) = true
is_of_play (lines.Supply port) = true
is_of_play (lines.Release port) = true
is_of_play (lines.Over port) = true
is_of_play (lines.Back port) = true
is_of_play (lines.Take component) = true
is_of_play (lines.End component) = true
is_of_play other = false

unasked_plays : (t : TextAct) → is_asked t ≡ false → is_of_play t ≡ true
unasked_plays (lines.Run component) e = refl
unasked_plays (lines.Claim component) e = refl
unasked_plays (lines.Finish component) e = refl
unasked_plays (lines.Supply port) e = refl
unasked_plays (lines.Release port) e = refl
unasked_plays (lines.Over port) e = refl
unasked_plays (lines.Back port) e = refl
unasked_plays (lines.Take component) e = refl
unasked_plays (lines.End component) e = refl
unasked_plays _ e = absurd cc

change_plays : (x : LinkEnds) (n : ℕ) → is_of_play (change_act x n) ≡ true
change_plays x zero = refl
change_plays x (suc zero) = refl
change_plays x (suc (suc zero)) = refl
change_plays x (suc (suc (suc zero))) = refl
change_plays x (suc (suc (suc (suc zero)))) = refl
change_plays x (suc (suc (suc (suc (suc zero))))) = refl
change_plays x (suc (suc (suc (suc (suc (suc zero)))))) = refl
change_plays x (suc (suc (suc (suc (suc (suc (suc n))))))) = refl

pub next_plays : (plan : PlanValue) (told : List Progress) (x : OrderValue) (t : TextAct) (y : OrderValue) → ComesNext plan told x t y → is_of_play t ≡ true
next_plays plan told x t y (inl C) = unasked_plays t C.0
next_plays plan told x t y (inr C) = elim C.1 [
  | inl D ↦ ap is_of_play D.is
  | inr B ↦ elim B [
    | inl D ↦ ap is_of_play D.is ∙ change_plays D.ends (D.change).made
    | inr E ↦ elim E [
      | inl D ↦ ap is_of_play (D.may).is ∙ change_plays (D.may).ends 0
      | inr D ↦ ap is_of_play D.is
    ]
  ]
]

-- ---- in two worlds

module _ (parts : List PartLine) (handles others : List Handle) (m n : World) where
  abbrev s : Scene
  s = record { parts = parts; handles = handles }

  abbrev z : Scene
  z = record { parts = parts; handles = others }

  -- the components of both scenes, and what is known of the first world
  pub record AreBeside : Type 0 where
    pub many : length others ≡ length handles
    pub numbers : HaveNumbers s
    pub numbered : HaveNumbers z
    pub known : (place : ℕ) (h : Handle) → slice_get handles place ≡ Some h → IsKnown h m
    pub other_known : (place : ℕ) (h : Handle) → slice_get others place ≡ Some h → IsKnown h n
    pub unrefused : (a : Act) (r : Reply) (u : World) → (h : Handle) → IsPartHandle handles h → (a ≡ acts.RunCommand h) ⊎ (a ≡ acts.TakeNote h) → Step m a r u → is_refused r ≡ false
    pub unmarked : (done : WorkDone) → Meets m (acts.Finish done) → IsUnmarked done.headers

  pub record AreSame (said : TextReply) (r : Reply) (a b : Act) : Type 0 where
    pub same : bare_act b ≡ bare_act a
    pub plays : IsPlayAct m a r
    pub other : IsPlayAct n b r
    pub unbroken : IsUnbroken b
    pub reply : SaysReply z said b r

  abbrev Goes : TextReply → Reply → World → Act → Act → Type 0
  Goes said r u a b = Step m a r u → SaysReply s said a r → Meets m a → IsUnbroken a → AreSame said r a b

  -- the act that the line says there
  pub record CanSay (t : TextAct) (said : TextReply) (r : Reply) (a : Act) : Type 0 where
    pub act : Act
    pub says : SaysAct z t act
    pub are : AreSame said r a act

  module _ (B : AreBeside) where
    -- the handle of the same component
    record IsOther (name : List ℕ) (place : ℕ) (part : PartLine) (h : Handle) : Type 0 where
      handle : Handle
      player : IsPlayer z place name part handle
      same : bare_handle handle ≡ bare_handle h
      known : IsKnown h m
      other_known : IsKnown handle n

    other_of : (name : List ℕ) (place : ℕ) (part : PartLine) (h : Handle) → IsPlayer s place name part h → IsOther name place part h
    other_of name place part h P =
        let b = slice_get_within handles place h P.handle in
        let e = B.many in
        let g = get_there others place (omega (arith, b, e)) in
        let same : (g.0).generation ≡ h.generation = B.numbered place g.0 g.1 ∙ sym (B.numbers place h P.handle) in
        record {
          handle = g.0;
          player = record { line = P.line; named = P.named; handle = g.1 };
          same = λ j. record { slot = 0; generation = same j };
          known = B.known place h P.handle;
          other_known = B.other_known place g.0 g.1;
        }

    -- of one component
    abbrev One : (PartLine → Handle → Act) → TextReply → Reply → World → Type 0
    One f said r u = (part : PartLine) (h g : Handle) → IsPartHandle handles h → IsKnown h m → IsKnown g n → bare_handle g ≡ bare_handle h → Goes said r u (f part h) (f part g)

    by_name : (name : List ℕ) (a : Act) (f : PartLine → Handle → Act) (said : TextReply) (r : Reply) (u : World) → One f said r u → Of s name (λ part h. a ≡ f part h)
        → Step m a r u → SaysReply s said a r → Meets m a → IsUnbroken a → (b : Act) × Of z name (λ part h. b ≡ f part h) × AreSame said r a b
    by_name name a f said r u g x step reply meets unbroken =
        let O = other_of name x.0 x.1 x.2 x.3 in
        let go : Goes said r u a (f x.1 O.handle) = subst (λ (y : Act). Goes said r u y (f x.1 O.handle)) (sym x.4) (g x.1 x.2 O.handle (x.0, (x.3).handle) O.known O.other_known O.same) in
        (f x.1 O.handle, (x.0, x.1, O.handle, O.player, refl), go step reply meets unbroken)

    -- of two
    abbrev Two : (Handle → Handle → Act) → TextReply → Reply → World → Type 0
    Two f said r u = (h i g k : Handle) → IsKnown h m → IsKnown i m → IsKnown g n → IsKnown k n → bare_handle g ≡ bare_handle h → bare_handle k ≡ bare_handle i → Goes said r u (f h i) (f g k)

    by_names : (name other : List ℕ) (a : Act) (f : Handle → Handle → Act) (said : TextReply) (r : Reply) (u : World) → Two f said r u → Of s name (λ part h. Of s other (λ part k. a ≡ f h k))
        → Step m a r u → SaysReply s said a r → Meets m a → IsUnbroken a → (b : Act) × Of z name (λ part h. Of z other (λ part k. b ≡ f h k)) × AreSame said r a b
    by_names name other a f said r u g x step reply meets unbroken =
        let y = x.4 in
        let O = other_of name x.0 x.1 x.2 x.3 in
        let Q = other_of other y.0 y.1 y.2 y.3 in
        let go : Goes said r u a (f O.handle Q.handle) = subst (λ (i : Act). Goes said r u i (f O.handle Q.handle)) (sym y.4) (g x.2 y.2 O.handle Q.handle O.known Q.known O.other_known Q.other_known O.same Q.same) in
        (f O.handle Q.handle, (x.0, x.1, O.handle, O.player, (y.0, y.1, Q.handle, Q.player, refl)), go step reply meets unbroken)

    -- ---- what a client asks for

    send_goes : (command : Command) → IsOwnCommand command → (said : TextReply) (r : Reply) (u : World) → One (λ part h. acts.SendCommand h command) said r u
    send_goes command own said (acts.Plain result) u part h g at k l e step reply meets unbroken =
        record { same = ap (λ (i : Handle). acts.SendCommand i command) e; plays = (k, own); other = (l, own); unbroken = tt; reply = reply }
    send_goes command own said _ u part h g at k l e step reply meets unbroken = absurd step

    set_goes : (at_key : ParamKey) (value : PartLine → Param) (said : TextReply) (r : Reply) (u : World) → One (λ part h. acts.SetParameter h at_key (value part)) said r u
    set_goes at_key value said (acts.Plain result) u part h g at k l e step reply meets unbroken =
        record { same = ap (λ (i : Handle). acts.SetParameter i at_key (value part)) e; plays = k; other = l; unbroken = tt; reply = reply }
    set_goes at_key value said _ u part h g at k l e step reply meets unbroken = absurd step

    tunnel_goes : (p q : ℕ) (said : TextReply) (r : Reply) (u : World) → Two (λ h i. acts.SetupTunnel (port_at h p) (port_at i q)) said r u
    tunnel_goes p q said (acts.Joined result) u h i g k a b c d e f step reply meets unbroken =
        record { same = λ j. acts.SetupTunnel (record { handle = e j; index = p }) (record { handle = f j; index = q }); plays = (a, b); other = (c, d); unbroken = tt; reply = reply }
    tunnel_goes p q said _ u h i g k a b c d e f step reply meets unbroken = absurd step

    drop_goes : (p q : ℕ) (said : TextReply) (r : Reply) (u : World) → Two (λ h i. acts.DropTunnel (port_at h p) (port_at i q)) said r u
    drop_goes p q said (acts.Plain result) u h i g k a b c d e f step reply meets unbroken =
        record { same = λ j. acts.DropTunnel (record { handle = e j; index = p }) (record { handle = f j; index = q }); plays = (a, b); other = (c, d); unbroken = tt; reply = reply }
    drop_goes p q said _ u h i g k a b c d e f step reply meets unbroken = absurd step

    -- ---- what a component does

    run_goes : (said : TextReply) (r : Reply) (u : World) → One (λ part h. acts.RunCommand h) said r u
    run_goes said (acts.Acted (Ok Did)) u part h g at k l e step reply meets unbroken = record { same = ap acts.RunCommand e; plays = k; other = l; unbroken = tt; reply = reply }
    run_goes said (acts.Acted (Ok (Idle why))) u part h g at k l e step reply meets unbroken = absurd cc
    run_goes said (acts.Acted (Err error)) u part h g at k l e step reply meets unbroken =
        let f : true ≡ false = B.unrefused (acts.RunCommand h) (acts.Acted (Err error)) u h at (inl refl) step in absurd cc
    run_goes said _ u part h g at k l e step reply meets unbroken = absurd step

    claim_goes : (said : TextReply) (r : Reply) (u : World) → One (λ part h. acts.Claim h) said r u
    claim_goes said (acts.Claimed result) u part h g at k l e step reply meets unbroken = record { same = ap acts.Claim e; plays = k; other = l; unbroken = tt; reply = reply }
    claim_goes said _ u part h g at k l e step reply meets unbroken = absurd step

    take_goes : (said : TextReply) (r : Reply) (u : World) → One (λ part h. acts.TakeNote h) said r u
    take_goes said (acts.Took (Ok (TookNote (TakenEvent event)))) u part h g at k l e step reply meets unbroken = record { same = ap acts.TakeNote e; plays = k; other = l; unbroken = tt; reply = reply }
    take_goes said (acts.Took (Ok (TookNote (TakenEmpty header)))) u part h g at k l e step reply meets unbroken = absurd cc
    take_goes said (acts.Took (Ok (TookNote (TakenFilled header)))) u part h g at k l e step reply meets unbroken = absurd cc
    take_goes said (acts.Took (Ok TookNone)) u part h g at k l e step reply meets unbroken = absurd cc
    take_goes said (acts.Took (Ok TookBusy)) u part h g at k l e step reply meets unbroken = absurd cc
    take_goes said (acts.Took (Err error)) u part h g at k l e step reply meets unbroken =
        let f : true ≡ false = B.unrefused (acts.TakeNote h) (acts.Took (Err error)) u h at (inr refl) step in absurd cc
    take_goes said _ u part h g at k l e step reply meets unbroken = absurd step

    supply_goes : (port : ℕ) (said : TextReply) (r : Reply) (u : World) → One (λ part h. acts.Supply h port) said r u
    supply_goes port said (acts.Supplied (Ok Did)) u part h g at k l e step reply meets unbroken = record { same = ap (λ (i : Handle). acts.Supply i port) e; plays = k; other = l; unbroken = tt; reply = reply }
    supply_goes port said (acts.Supplied (Ok (Idle why))) u part h g at k l e step reply meets unbroken = absurd cc
    supply_goes port said (acts.Supplied (Err error)) u part h g at k l e step reply meets unbroken = record { same = ap (λ (i : Handle). acts.Supply i port) e; plays = k; other = l; unbroken = tt; reply = reply }
    supply_goes port said _ u part h g at k l e step reply meets unbroken = absurd step

    release_goes : (port : ℕ) (said : TextReply) (r : Reply) (u : World) → One (λ part h. acts.Release h port) said r u
    release_goes port said (acts.Acted (Ok Did)) u part h g at k l e step reply meets unbroken = record { same = ap (λ (i : Handle). acts.Release i port) e; plays = k; other = l; unbroken = tt; reply = reply }
    release_goes port said (acts.Acted (Ok (Idle why))) u part h g at k l e step reply meets unbroken = absurd cc
    release_goes port said (acts.Acted (Err error)) u part h g at k l e step reply meets unbroken = record { same = ap (λ (i : Handle). acts.Release i port) e; plays = k; other = l; unbroken = tt; reply = reply }
    release_goes port said _ u part h g at k l e step reply meets unbroken = absurd step

    over_goes : (port : ℕ) (said : TextReply) (r : Reply) (u : World) → One (λ part h. acts.HandOver h port) said r u
    over_goes port said (acts.Acted (Ok Did)) u part h g at k l e step reply meets unbroken = record { same = ap (λ (i : Handle). acts.HandOver i port) e; plays = k; other = l; unbroken = tt; reply = reply }
    over_goes port said (acts.Acted (Ok (Idle why))) u part h g at k l e step reply meets unbroken = absurd cc
    over_goes port said (acts.Acted (Err error)) u part h g at k l e step reply meets unbroken = record { same = ap (λ (i : Handle). acts.HandOver i port) e; plays = k; other = l; unbroken = tt; reply = reply }
    over_goes port said _ u part h g at k l e step reply meets unbroken = absurd step

    back_goes : (port : ℕ) (said : TextReply) (r : Reply) (u : World) → One (λ part h. acts.HandBack h port) said r u
    back_goes port said (acts.Acted (Ok Did)) u part h g at k l e step reply meets unbroken = record { same = ap (λ (i : Handle). acts.HandBack i port) e; plays = k; other = l; unbroken = tt; reply = reply }
    back_goes port said (acts.Acted (Ok (Idle why))) u part h g at k l e step reply meets unbroken = absurd cc
    back_goes port said (acts.Acted (Err error)) u part h g at k l e step reply meets unbroken = record { same = ap (λ (i : Handle). acts.HandBack i port) e; plays = k; other = l; unbroken = tt; reply = reply }
    back_goes port said _ u part h g at k l e step reply meets unbroken = absurd step

    -- ---- what comes back

    finish_goes : (done : WorkDone) (said : TextReply) (r : Reply) (u : World) → Goes said r u (acts.Finish done) (acts.Finish done)
    finish_goes done said acts.Finished u step reply meets unbroken = record { same = refl; plays = B.unmarked done meets; other = B.unmarked done meets; unbroken = unbroken; reply = reply }
    finish_goes done said _ u step reply meets unbroken = absurd step

    end_goes : (progress : Progress) (said : TextReply) (r : Reply) (u : World) → One (λ part h. acts.EndNote h progress) said r u
    end_goes progress said acts.Ended u part h g at k l e step reply meets unbroken = record { same = ap (λ (i : Handle). acts.EndNote i progress) e; plays = k; other = l; unbroken = tt; reply = reply }
    end_goes progress said _ u part h g at k l e step reply meets unbroken = absurd step

    -- ---- a line

    pub can_say : (t : TextAct) (a : Act) (said : TextReply) (r : Reply) (u : World) → is_of_play t ≡ true → SaysAct s t a → Step m a r u → SaysReply s said a r → Meets m a → IsUnbroken a → CanSay t said r a
    can_say (lines.SetPort p format count size) a said r u is x step reply meets unbroken =
        let y = by_name p.component a (λ part h. acts.SetParameter h (key 1 p.index) (params.Port (record { input = is_input (kind_of part.form) p.index; format = format; count = count; size = size }))) said r u
        (set_goes (key 1 p.index) (λ part. params.Port (record { input = is_input (kind_of part.form) p.index; format = format; count = count; size = size })) said r u) x step reply meets unbroken in
        record { act = y.0; says = y.1; are = y.2 }
    can_say (lines.Tunnel p q) a said r u is x step reply meets unbroken =
        let y = by_names p.component q.component a (λ h i. acts.SetupTunnel (port_at h p.index) (port_at i q.index)) said r u (tunnel_goes p.index q.index said r u) x step reply meets unbroken in
        record { act = y.0; says = y.1; are = y.2 }
    can_say (lines.DropTunnel p q) a said r u is x step reply meets unbroken =
        let y = by_names p.component q.component a (λ h i. acts.DropTunnel (port_at h p.index) (port_at i q.index)) said r u (drop_goes p.index q.index said r u) x step reply meets unbroken in
        record { act = y.0; says = y.1; are = y.2 }
    can_say (lines.SendState c state) a said r u is x step reply meets unbroken =
        let y = by_name c a (λ part h. acts.SendCommand h (StateSet state)) said r u (send_goes (StateSet state) tt said r u) x step reply meets unbroken in
        record { act = y.0; says = y.1; are = y.2 }
    can_say (lines.SendDisable c ports) a said r u is x step reply meets unbroken =
        let y = by_name c a (λ part h. acts.SendCommand h (PortDisable ports)) said r u (send_goes (PortDisable ports) tt said r u) x step reply meets unbroken in
        record { act = y.0; says = y.1; are = y.2 }
    can_say (lines.SendEnable c ports) a said r u is x step reply meets unbroken =
        let y = by_name c a (λ part h. acts.SendCommand h (PortEnable ports)) said r u (send_goes (PortEnable ports) tt said r u) x step reply meets unbroken in
        record { act = y.0; says = y.1; are = y.2 }
    can_say (lines.Run c) a said r u is x step reply meets unbroken =
        let y = by_name c a (λ part h. acts.RunCommand h) said r u (run_goes said r u) x step reply meets unbroken in
        record { act = y.0; says = y.1; are = y.2 }
    can_say (lines.Claim c) a said r u is x step reply meets unbroken =
        let y = by_name c a (λ part h. acts.Claim h) said r u (claim_goes said r u) x step reply meets unbroken in
        record { act = y.0; says = y.1; are = y.2 }
    can_say (lines.Take c) a said r u is x step reply meets unbroken =
        let y = by_name c a (λ part h. acts.TakeNote h) said r u (take_goes said r u) x step reply meets unbroken in
        record { act = y.0; says = y.1; are = y.2 }
    can_say (lines.Supply p) a said r u is x step reply meets unbroken =
        let y = by_name p.component a (λ part h. acts.Supply h p.index) said r u (supply_goes p.index said r u) x step reply meets unbroken in
        record { act = y.0; says = y.1; are = y.2 }
    can_say (lines.Release p) a said r u is x step reply meets unbroken =
        let y = by_name p.component a (λ part h. acts.Release h p.index) said r u (release_goes p.index said r u) x step reply meets unbroken in
        record { act = y.0; says = y.1; are = y.2 }
    can_say (lines.Over p) a said r u is x step reply meets unbroken =
        let y = by_name p.component a (λ part h. acts.HandOver h p.index) said r u (over_goes p.index said r u) x step reply meets unbroken in
        record { act = y.0; says = y.1; are = y.2 }
    can_say (lines.Back p) a said r u is x step reply meets unbroken =
        let y = by_name p.component a (λ part h. acts.HandBack h p.index) said r u (back_goes p.index said r u) x step reply meets unbroken in
        record { act = y.0; says = y.1; are = y.2 }
    can_say (lines.Finish c) a said r u is x step reply meets unbroken =
        let O = other_of c x.0 x.1 x.2 x.3 in
        let d = x.4 in
        let same : (O.handle).generation ≡ (x.2).generation = ap (λ (h : Handle). h.generation) O.same in
        let go : Goes said r u a (acts.Finish d.0) = subst (λ (y : Act). Goes said r u y (acts.Finish d.0)) (sym d.2) (finish_goes d.0 said r u) in
        record { act = acts.Finish d.0; says = (x.0, x.1, O.handle, O.player, (d.0, d.1 ∙ sym same, refl)); are = go step reply meets unbroken }
    can_say (lines.End c) a said r u is x step reply meets unbroken =
        let O = other_of c x.0 x.1 x.2 x.3 in
        let d = x.4 in
        let go : Goes said r u a (acts.EndNote O.handle d.0) = subst (λ (y : Act). Goes said r u y (acts.EndNote O.handle d.0)) (sym d.1)
        (end_goes d.0 said r u x.1 x.2 O.handle (x.0, (x.3).handle) O.known O.other_known O.same) in
        record { act = acts.EndNote O.handle d.0; says = (x.0, x.1, O.handle, O.player, (d.0, refl)); are = go step reply meets unbroken }
    can_say _ a said r u is x step reply meets unbroken = absurd cc
