-- The acts since the opening of a replay are a history of the plan's play, whichever line stops it, and also where all that is out goes back.
use Rattle.std.proofs.Common.{◌≡◌, inl, inr, ℕ, zero, suc, ◌+◌, ◌<◌, true, false, List, [], ◌∷◌, ◌++◌, length, slice_get, Option, Some, refl, sym, ◌∙◌, ap, subst, arith}
use Rattle.std.proofs.lemmas.List.{length-map}
use Rattle.std.proofs.lemmas.Option.{slice_get_within}
use Rattle.omx_types.specs.declared.command.Command.TheVariants.{StateSet}
use Rattle.omx_types.specs.declared.handle.Handle.{Handle}
use Rattle.omx_types.specs.declared.state.State.{State}
use Rattle.part_forms.specs.Kinds.{is_late}
use Rattle.il_machine.specs.declared.answer.Progress.{Progress}
use Rattle.il_machine.specs.Acts.{Act, Reply}
use Rattle.il_machine.specs.Acts as acts
use Rattle.il_machine.specs.Run.{Meets, Step}
use Rattle.il_machine.specs.World.{Component, World}
use Rattle.act_text.specs.declared.act.TextAct.{TextAct}
use Rattle.act_text.specs.declared.act.TextAct.TheVariants as lines
use Rattle.act_text.specs.declared.text.ActText.{ActText}
use Rattle.script_lang.specs.declared.play_line.PartLine.{PartLine}
use Rattle.play_build_laws.specs.Stages.{IsStage, Joining}
use Rattle.play_forms.specs.Parts.{passes_at}
use Rattle.play_forms.specs.Plans.{PlanValue}
use Rattle.play_world_laws.specs.PlayWorlds.{PlayCast}
use Rattle.play_world_laws.proofs.Lists.{get_there}
use Rattle.play_plan_laws.specs.Assemblies.{IsReady, PlayFiles, assembly_of, is_late_link, play_cast_of}
use Rattle.play_plan_laws.proofs.Lawful.{IsLinkAt, link_is as link_there}
use Rattle.play_log.specs.Entries.{Entry, steps_of}
use Rattle.play_log.specs.Lines.{LogLine}
use Rattle.play_log.specs.Naming.{NameAll}
use Rattle.play_log.specs.Saying.{SaysAct}
use Rattle.play_log.specs.Scenes.{HaveOwnNames, IsPlayer, Scene, scene_of}
use Rattle.play_log.proofs.Players.{some_same}
use Rattle.play_history_laws.specs.Order.{Cursor, nothing_asked}
use Rattle.play_history_laws.specs.Faults.{IsAnyAllowed, IsFaultHistory}
use Rattle.play_history_laws.specs.Askings.{IsPlanHistory, read_of}
use Rattle.play_history_laws.proofs.Requested.{history_on, unrequested}
use Rattle.audit_order.specs.declared.ends.LinkEnds.{LinkEnds}
use Rattle.audit_order.specs.declared.order.Change.{Change}
use Rattle.audit_order.specs.Asked.{change_act, is_asked, state_sent}
use Rattle.audit_order.specs.Ends.{link_of}
use Rattle.audit_order.specs.Steps.{Admits, OrderValue, is_changing}
use Rattle.audit_forms.specs.Audited.{Case, ComesNext, Moment, after}
use Rattle.audit_forms.specs.Told.{nothing_told, told_after, told_more}
use Rattle.audit_forms.specs.Whole.{start_at}
use Rattle.audit_forms.proofs.Telling.{all_told}
use Rattle.audit_laws.specs.Admitted.{AdmitsFrom}
use Rattle.audit_laws.proofs.Asking.{asked_so}
use Rattle.audit_laws.proofs.Likeness.{IsLike, IsLikeChange, IsLinkOf, some_left}
use Rattle.audit_laws.proofs.Links.{ends_of, giver, linked, source_link, taker}
use Rattle.audit_laws.proofs.Texts.{Fits, name_in, said_so}
use Rattle.audit_laws.proofs.Told.{AreTold}
use Rattle.audit_laws.proofs.Walking.{IsGone, gone, numbers}
use Rattle.run_audit.specs.Leading.{IsMade, IsReturn, IsSinceMoment}
use Rattle.run_audit.specs.Settling.{AreReturned, IsSettled}
use Rattle.run_audit.specs.Walking.{PassAll}

-- ---- the lines that pass are named, and come next

pub record AreNamed (x : Case) (at last : Moment) : Type 0 where
  pub lines : List LogLine
  pub entries : List Entry
  pub names : NameAll x.scene at.world lines entries last.world
  pub admits : AdmitsFrom x.plan at.told at.order lines last.order
  pub told : last.told ≡ told_after lines (x.plan).parts at.told

pub named_all : (x : Case) (number : ℕ) (at : Moment) (pieces : List (List ℕ)) (last : Moment) → PassAll x number at pieces last → AreNamed x at last
named_all x number at [] last e = record {
  lines = [];
  entries = [];
  names = ap (λ (m : Moment). m.world) e;
  admits = ap (λ (m : Moment). m.order) e;
  told = ap (λ (m : Moment). m.told) e;
}
named_all x number at (piece ∷ pieces) last (other, (next, P, rest)) =
    let then : Moment = after at P.line x P.order P.world in
    let N = named_all x (number + 1) then pieces last (subst (λ (m : Moment). PassAll x (number + 1) m pieces last) P.next_is rest) in
    let A = P.answered in
    record {
      lines = P.line ∷ N.lines;
      entries = record { pass = (P.line).pass; act = (A.entry).act; reply = (A.entry).reply } ∷ N.entries;
      names = (record { says = record { pass = refl; act = A.act; reply = A.reply }; meets = A.meets; unbroken = A.unbroken }, (P.world, A.step, N.names));
      admits = (P.order, P.allowed, N.admits);
      told = N.told;
    }

more_many : (said : ActText) (parts : List PartLine) (told : List Progress) → length told ≡ length parts → length (told_more said parts told) ≡ length parts
more_many said [] [] e = refl
more_many said [] (p ∷ told) e = absurd (omega (arith, e))
more_many said (part ∷ parts) [] e = absurd (omega (arith, e))
more_many said (part ∷ parts) (p ∷ told) e = let r = more_many said parts told (omega (arith, e)) in omega (arith, r)

after_many : (rows : List LogLine) (parts : List PartLine) (told : List Progress) → length told ≡ length parts → length (told_after rows parts told) ≡ length parts
after_many [] parts told e = e
after_many (row ∷ rows) parts told e = after_many rows parts (told_more row.said parts told) (more_many row.said parts told e)

nothing_many : (parts : List PartLine) → length (nothing_told parts) ≡ length parts
nothing_many [] = refl
nothing_many (part ∷ parts) = let r = nothing_many parts in omega (arith, r)

module _ (plan : PlanValue) (files : PlayFiles) (handles : List Handle) (w : World) (ready : IsReady plan files) (stage : IsStage (assembly_of plan files) (Joining (length plan.joints)) handles w) (own : HaveOwnNames plan.parts) where
  abbrev c : PlayCast
  c = play_cast_of plan

  abbrev s : Scene
  s = scene_of plan.parts w

  -- so much was asked on the way to the world
  pub record IsOn (order : OrderValue) (v : World) : Type 0 where
    pub steps : List (Act × Reply)
    pub cursor : Cursor
    pub goes : IsFaultHistory c (nothing_asked c.cast) w steps cursor v
    pub like : IsLike plan order cursor

  pub history : (order : OrderValue) (v : World) (O : IsOn order v) → IsPlanHistory plan files handles w O.steps O.cursor v
  history order v O = record { ready = ready; stage = stage; goes = O.goes }

  says_there : (t : TextAct) (a : Act) → SaysAct s t a → SaysAct (record { parts = plan.parts; handles = handles }) t a
  says_there t a y = subst (λ (hs : List Handle). SaysAct (record { parts = plan.parts; handles = hs }) t a) (stage.built).handles_are y

  more : (order next : OrderValue) (v u : World) (O : IsOn order v) (a : Act) (r : Reply) → Meets v a → Step v a r u → (j : Cursor) → IsAnyAllowed c O.cursor (read_of v) a j → IsLike plan next j → IsOn next u
  more order next v u O a r met step j A L = record {
    steps = O.steps ++ (a, r) ∷ [];
    cursor = j;
    goes = history_on c O.steps (nothing_asked c.cast) w O.cursor v O.goes (a, r) j u met step A;
    like = L;
  }

  -- one act that needs no asking
  pub unasked_on : (order : OrderValue) (v u : World) (t : TextAct) (a : Act) (r : Reply) → IsOn order v → is_asked t ≡ false → SaysAct s t a → Meets v a → Step v a r u → IsOn order u
  unasked_on order v u t a r O f y met step =
      let F : Fits plan.parts t a = said_so s (numbers plan files handles w ready stage own) t a y in
      more order order v u O a r met step O.cursor (inl (unrequested a (F.1 ∙ f), refl)) O.like

  -- one that comes next, by what was told
  pub asked_on : (order next : OrderValue) (v u : World) (t : TextAct) (a : Act) (r : Reply) (O : IsOn order v) (told : List Progress) → AreTold (length plan.parts) told O.steps → Admits plan told order t next
      → SaysAct s t a → Meets v a → Step v a r u → IsOn next u
  asked_on order next v u t a r O told T A y met step =
      let K = asked_so plan files handles w O.steps O.cursor v (history order v O) own told T order O.like t a (says_there t a y) next A in
      more order next v u O a r met step K.next (inr K.asks) K.like

  -- what lines have told is what their acts have
  told_so : (rows : List LogLine) (entries : List Entry) (mid : World) → NameAll s w rows entries mid → AreTold (length plan.parts) (told_after rows plan.parts (nothing_told plan.parts)) (steps_of entries)
  told_so rows entries mid N = record {
    many_are = after_many rows plan.parts (nothing_told plan.parts) (nothing_many plan.parts);
    each = λ place b. (let part = get_there plan.parts place b in all_told s w mid rows entries place part.0 own (numbers plan files handles w ready stage own) N part.1);
  }

  -- ---- an act that comes next is one of components that are there

  handle_there : (place : ℕ) → place < length plan.parts → (h : Handle) × (slice_get s.handles place ≡ Some h)
  handle_there place b =
      let m = (stage.built).many in
      let n = length-map w.components (λ (y : Component). y.handle) in
      get_there s.handles place (omega (arith, b, m, n))

  player_there : (place : ℕ) (part : PartLine) → slice_get plan.parts place ≡ Some part → (h : Handle) × IsPlayer s place part.name part h
  player_there place part e =
      let h = handle_there place (slice_get_within plan.parts place part e) in
      (h.0, record { line = e; named = refl; handle = h.1 })

  pub change_there : (l n : ℕ) → l < length plan.joints → n < 8 → (a : Act) × SaysAct s (change_act (ends_of plan l) n) a
  change_there l n b few = by n few
    where
      K : IsLinkAt plan l
      K = link_there plan files ready l b

      G : (h : Handle) × IsPlayer s (giver plan l) ((K.part false).name) (K.part false) h
      G = player_there (giver plan l) (K.part false) (K.part_there false)

      T : (h : Handle) × IsPlayer s (taker plan l) ((K.part true).name) (K.part true) h
      T = player_there (taker plan l) (K.part true) (K.part_there true)

      output : IsPlayer s (giver plan l) ((ends_of plan l).output).component (K.part false) G.0
      output = record { line = (G.1).line; named = ap name_in (sym (K.part_there false)); handle = (G.1).handle }

      input : IsPlayer s (taker plan l) ((ends_of plan l).input).component (K.part true) T.0
      input = record { line = (T.1).line; named = ap name_in (sym (K.part_there true)); handle = (T.1).handle }

      E : LinkEnds
      E = ends_of plan l

      by : (n : ℕ) → n < 8 → (a : Act) × SaysAct s (change_act E n) a
      by zero f = (_, (giver plan l, K.part false, G.0, output, refl))
      by (suc zero) f = (_, (taker plan l, K.part true, T.0, input, refl))
      by (suc (suc zero)) f = (_, (giver plan l, K.part false, G.0, output, (taker plan l, K.part true, T.0, input, refl)))
      by (suc (suc (suc zero))) f = (_, (giver plan l, K.part false, G.0, output, refl))
      by (suc (suc (suc (suc zero)))) f = (_, (taker plan l, K.part true, T.0, input, refl))
      by (suc (suc (suc (suc (suc zero))))) f = (_, (giver plan l, K.part false, G.0, output, (taker plan l, K.part true, T.0, input, refl)))
      by (suc (suc (suc (suc (suc (suc zero)))))) f = (_, (giver plan l, K.part false, G.0, output, refl))
      by (suc (suc (suc (suc (suc (suc (suc zero))))))) f = (_, (taker plan l, K.part true, T.0, input, refl))
      by (suc (suc (suc (suc (suc (suc (suc (suc n)))))))) f = absurd (omega (arith, f))

  said_as : (t u : TextAct) → t ≡ u → (a : Act) × SaysAct s u a → (a : Act) × SaysAct s t a
  said_as t u e y = (y.0, subst (λ (z : TextAct). SaysAct s z y.0) (sym e) y.1)

  sent_there : (place : ℕ) (part : PartLine) (state : State) → slice_get plan.parts place ≡ Some part → (a : Act) × SaysAct s (lines.SendState part.name state) a
  sent_there place part state e = let P = player_there place part e in (acts.SendCommand P.0 (StateSet state), (place, part, P.0, P.1, refl))

  pub link_so : (x : OrderValue) (k : Cursor) (ch : Change) (I : IsLinkOf plan x k ch) → link_of plan ch.source ≡ Some (ends_of plan I.link)
  link_so x k ch I = ap (link_of plan) (sym I.gives) ∙ linked plan files ready I.link I.below I.late

  pub admitted_there : (told : List Progress) (x : OrderValue) (k : Cursor) (L : IsLike plan x k) (t : TextAct) (y : OrderValue) → Admits plan told x t y → (a : Act) × SaysAct s t a
  admitted_there told x k L t y (inl H) = said_as t _ H.is (sent_there x.sent H.part (state_sent x.sends) H.there)
  admitted_there told x k L t y (inr (inl H)) =
      let I : IsLinkOf plan x k H.change = subst (λ (o : Option Change). IsLikeChange plan x k o) H.last L.change in
      let few = some_left H.change (subst (λ (o : Option Change). is_changing o ≡ true) H.last H.changing) in
      let ends_are : H.ends ≡ ends_of plan I.link = some_same H.ends (ends_of plan I.link) (sym H.link ∙ link_so x k H.change I) in
      said_as t (change_act (ends_of plan I.link) (H.change).made) (H.is ∙ ap (λ (e : LinkEnds). change_act e (H.change).made) ends_are) (change_there I.link (H.change).made I.below few)
  admitted_there told x k L t y (inr (inr (inl H))) =
      let M = H.may in
      let K = source_link plan H.source M.ends M.link in
      let late : is_late_link plan K.link ≡ true = ap (λ (n : ℕ). passes_at is_late (slice_get plan.parts n)) K.gives ∙ M.late in
      let ends_are : M.ends ≡ ends_of plan K.link = some_same M.ends (ends_of plan K.link) (sym M.link ∙ (ap (link_of plan) (sym K.gives) ∙ linked plan files ready K.link K.below late)) in
      said_as t (change_act (ends_of plan K.link) 0) (M.is ∙ ap (λ (e : LinkEnds). change_act e 0) ends_are) (change_there K.link 0 K.below (omega arith))
  admitted_there told x k L t y (inr (inr (inr H))) = said_as t _ H.is (sent_there 0 H.part (state_sent (x.sends + 1)) H.there)

  -- ---- where a replay is

  abbrev pub case : (ℕ → Option (List ℕ)) → Case
  case sinks = record { plan = plan; scene = s; sinks = sinks }

  module _ (sinks : ℕ → Option (List ℕ)) where
    abbrev x : Case
    x = case sinks

    module _ (now : Moment) (N : AreNamed x (start_at plan w) now) where
      pub gone_to : IsGone plan files handles w ready stage own N.lines N.entries now.world now.order
      gone_to = gone plan files handles w ready stage own N.lines N.entries now.world now.order N.names N.admits

      pub on_now : IsOn now.order now.world
      on_now = record { steps = steps_of N.entries; cursor = gone_to.cursor; goes = gone_to.goes; like = gone_to.like }

      pub told_now : AreTold (length plan.parts) now.told (steps_of N.entries)
      told_now = subst (λ (ps : List Progress). AreTold (length plan.parts) ps (steps_of N.entries)) (sym N.told) (told_so N.lines N.entries now.world N.names)

      pub on_since : (order : OrderValue) (v : World) → IsSinceMoment order x now v → IsOn order v
      unfolding on_now
      on_since order v (inl (e, o)) = subst (λ (y : World). IsOn order y) (sym e) (subst (λ (z : OrderValue). IsOn z now.world) (sym o) on_now)
      on_since order v (inr (said, comes, inl M)) = made said M comes
        where
          made : (t : TextAct) → (M : IsMade x t now.world v) → ComesNext plan now.told now.order t order → IsOn order v
          made t M (inl C) = subst (λ (z : OrderValue). IsOn z v) (sym C.1) (unasked_on now.order now.world v t M.act M.reply on_now C.0 M.says M.meets M.step)
          made t M (inr C) = asked_on now.order order now.world v t M.act M.reply on_now now.told told_now C.1 M.says M.meets M.step
      on_since order v (inr (said, comes, inr (e, none))) = subst (λ (y : World). IsOn order y) (sym e) (unsaid comes)
        where
          unsaid : ComesNext plan now.told now.order said order → IsOn order now.world
          unsaid (inl C) = subst (λ (z : OrderValue). IsOn z now.world) (sym C.1) on_now
          unsaid (inr C) = (let y = admitted_there now.told now.order gone_to.cursor gone_to.like said order C.1 in absurd (none y.0 y.1))

    returned_on : (order : OrderValue) (rest : List TextAct) (v u : World) → IsOn order v → AreReturned x rest v u → IsOn order u
    returned_on order [] v u O e = subst (λ (y : World). IsOn order y) (sym e) O
    returned_on order (said ∷ rest) v u O (returns, (next, M, later)) =
        returned_on order rest next u (unasked_on order v next said M.act M.reply O (is_return said returns) M.says M.meets M.step) later
      where
        is_return : (t : TextAct) → IsReturn t → is_asked t ≡ false
        is_return (lines.Finish component) r = refl
        is_return (lines.End component) r = refl
        is_return _ r = absurd r

    pub on_settled : (order : OrderValue) (v u : World) → IsOn order v → IsSettled x v u → IsOn order u
    on_settled order v u O (rest, R) = returned_on order rest v u O R
