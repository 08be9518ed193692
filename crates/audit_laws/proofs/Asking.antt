-- What an order admits is what the cursor of the history asks.
use Rattle.std.proofs.Common.{◌≡◌, inl, inr, ℕ, zero, suc, ◌+◌, ◌<◌, ◌≤◌, Bool, true, false, ◌||◌, nat_eq, List, length, slice_get, Option, Some, None, refl, sym, ◌∙◌, ap, subst, eqb-true, arith}
use Rattle.std.proofs.lemmas.Bool.{and_parts}
use Rattle.std.proofs.lemmas.Option.{slice_get_within}
use Rattle.omx_types.specs.declared.command.Command.TheVariants.{StateSet}
use Rattle.omx_types.specs.declared.command.Completion.TheVariants as completions
use Rattle.omx_types.specs.declared.handle.Handle.{Handle}
use Rattle.omx_types.specs.declared.state.State.{State}
use Rattle.part_forms.specs.Kinds.{is_late}
use Rattle.il_machine.specs.Kinds.{is_sink}
use Rattle.il_machine.specs.declared.answer.Progress.{Progress}
use Rattle.il_machine.specs.Acts.{Act, Reply}
use Rattle.il_machine.specs.Acts as acts
use Rattle.il_machine.specs.World.{World, place_of}
use Rattle.machine_laws.proofs.Finding.{either}
use Rattle.act_text.specs.declared.act.TextAct.{TextAct}
use Rattle.act_text.specs.declared.act.TextAct.TheVariants as lines
use Rattle.script_lang.specs.declared.play_line.PartLine.{PartLine}
use Rattle.conductor.specs.Hearing.{tells_disable, tells_enable}
use Rattle.conductor.specs.Phases.{all_told, has_settings}
use Rattle.play_build_laws.specs.Assembly.{Assembly}
use Rattle.play_forms.specs.Parts.{passes_at}
use Rattle.play_forms.specs.Plans.{PlanValue}
use Rattle.play_world_laws.specs.Cast.{giver_of, taker_of}
use Rattle.play_world_laws.specs.PlayWorlds.{PlayCast}
use Rattle.play_world_laws.specs.Standing.{target}
use Rattle.play_world_laws.proofs.Lists.{get_there}
use Rattle.play_plan_laws.specs.Assemblies.{PlayFiles, is_late_link, kind_in, play_cast_of}
use Rattle.play_log.specs.Saying.{SaysAct}
use Rattle.play_log.specs.Scenes.{HaveOwnNames, Scene}
use Rattle.play_log.proofs.Players.{some_same}
use Rattle.play_result_laws.specs.Asked.{AreAllAt, AreBothDone, BackToIdle, HasCause, tuned}
use Rattle.play_history_laws.specs.Order.{Cursor, EachHasHeard, IsAsked, IsDone, IsDoneBy, IsSending, IsStateTold, one_more}
use Rattle.play_history_laws.specs.Askings.{IsPlanHistory, read_of}
use Rattle.play_history_laws.proofs.Askings.{come, ends_heard, link_is, named, placed, ports_heard, settings_heard, states_heard}
use Rattle.audit_order.specs.declared.ends.LinkEnds.{LinkEnds}
use Rattle.audit_order.specs.declared.order.Change.{Change}
use Rattle.audit_order.specs.Asked.{change_act, state_sent}
use Rattle.audit_order.specs.Ends.{link_of}
use Rattle.audit_order.specs.Steps.{Admits, BeginsChange, BeginsSend, CanGoBack, ChangesOn, IsRested, OrderValue, SendsOn, both_disabled, both_enabled, is_begun, is_changing, is_enabled_by, is_over, last_told}
use Rattle.audit_order.proofs.InTime.{still_sending}
use Rattle.audit_laws.proofs.Likeness.{IsLike, IsLikeChange, IsLinkOf, IsWhole, like_begun, like_more, like_next, like_sent, made_whole, sent_all, some_left}
use Rattle.audit_laws.proofs.Links.{change_said, ends_of, giver, linked, source_link, taker}
use Rattle.audit_laws.proofs.Told.{AreTold, told_disable, told_enable, told_eos, told_settings, told_states}

pub sent_target : (n : ℕ) → state_sent n ≡ target n
sent_target zero = refl
sent_target (suc zero) = refl
sent_target (suc (suc zero)) = refl
sent_target (suc (suc (suc zero))) = refl
sent_target (suc (suc (suc (suc n)))) = refl

pub some_states : (n : ℕ) (told : List Progress) → 1 ≤ n → last_told n told ≡ true → all_told (state_sent n) told ≡ true
some_states n told b t = either (nat_eq n 0)
    (λ e. let z = eqb-true n 0 e in absurd (omega (arith, b, z)))
    (λ f. ap (λ (q : Bool). q || all_told (state_sent n) told) (sym f) ∙ t)

sink_part : (o : Option PartLine) (part : PartLine) → o ≡ Some part → is_sink (kind_in o) ≡ true → passes_at is_sink o ≡ true
sink_part None part e t = absurd cc
sink_part (Some other) part e t = t

module _ (plan : PlanValue) (files : PlayFiles) (handles : List Handle) (w : World) (steps : List (Act × Reply)) (k : Cursor) (v : World) (G : IsPlanHistory plan files handles w steps k v)
    (own : HaveOwnNames plan.parts) (told : List Progress) (T : AreTold (length plan.parts) told steps) (x : OrderValue) (L : IsLike plan x k)
    (t : TextAct) (a : Act) (says : SaysAct (record { parts = plan.parts; handles = handles }) t a) where
  abbrev c : PlayCast
  c = play_cast_of plan

  abbrev s : Assembly
  s = tuned plan files

  abbrev u : World
  u = read_of v

  abbrev scene : Scene
  scene = record { parts = plan.parts; handles = handles }

  -- it is asked, and what is asked then is so by lines, too
  pub record IsAskedSo (y : OrderValue) : Type 0 where
    pub next : Cursor
    pub asks : IsAsked c k u a next
    pub like : IsLike plan y next

  named_now : (i : ℕ) (h : Handle) → slice_get handles i ≡ Some h → place_of h u.components ≡ Some i
  named_now i h e = named plan files handles w steps k v G i h e

  giver_below : (l : ℕ) → l < length plan.joints → giver plan l < length plan.parts
  giver_below l b =
      let K = link_is plan files handles w steps k v G l b in
      let p = placed plan files handles w steps k v G (giver_of c.cast l) K.giver_below in
      subst (λ (n : ℕ). n < length plan.parts) K.giver p

  taker_below : (l : ℕ) → l < length plan.joints → taker plan l < length plan.parts
  taker_below l b =
      let K = link_is plan files handles w steps k v G l b in
      let p = placed plan files handles w steps k v G (taker_of c.cast l) K.taker_below in
      subst (λ (n : ℕ). n < length plan.parts) K.taker p

  -- ---- what was told

  all_at : (state : State) → all_told state told ≡ true → AreAllAt s state steps
  all_at state q place b = told_states (length plan.parts) told steps T state q place b

  both_disabled_at : (l : ℕ) → l < length plan.joints → both_disabled (ends_of plan l) told (giver plan l) ≡ true → AreBothDone s (λ port. completions.Disable port) l steps
  both_disabled_at l b q false =
      told_disable (length plan.parts) told steps T (giver plan l) ((ends_of plan l).output).index (giver_below l b)
      (and_parts (tells_disable ((ends_of plan l).output).index (slice_get told (giver plan l))) (tells_disable ((ends_of plan l).input).index (slice_get told (taker plan l))) q).0
  both_disabled_at l b q true =
      told_disable (length plan.parts) told steps T (taker plan l) ((ends_of plan l).input).index (taker_below l b)
      (and_parts (tells_disable ((ends_of plan l).output).index (slice_get told (giver plan l))) (tells_disable ((ends_of plan l).input).index (slice_get told (taker plan l))) q).1

  both_enabled_at : (l : ℕ) → l < length plan.joints → both_enabled (ends_of plan l) told (giver plan l) ≡ true → AreBothDone s (λ port. completions.Enable port) l steps
  both_enabled_at l b q false =
      told_enable (length plan.parts) told steps T (giver plan l) ((ends_of plan l).output).index (giver_below l b)
      (and_parts (tells_enable ((ends_of plan l).output).index (slice_get told (giver plan l))) (tells_enable ((ends_of plan l).input).index (slice_get told (taker plan l))) q).0
  both_enabled_at l b q true =
      told_enable (length plan.parts) told steps T (taker plan l) ((ends_of plan l).input).index (taker_below l b)
      (and_parts (tells_enable ((ends_of plan l).output).index (slice_get told (giver plan l))) (tells_enable ((ends_of plan l).input).index (slice_get told (taker plan l))) q).1

  -- ---- what was asked last is done

  state_so : (n : ℕ) → (1 ≤ n → EachHasHeard c.cast u (λ number progress. progress.state ≡ Some (target n))) → IsStateTold c.cast u n
  state_so zero H = tt
  state_so (suc n) H = H (omega arith)

  -- the link of the last change has its ends
  link_so : (ch : Change) (I : IsLinkOf plan x k ch) → link_of plan ch.source ≡ Some (ends_of plan I.link)
  link_so ch I = ap (link_of plan) (sym I.gives) ∙ linked plan files G.ready I.link I.below I.late

  done_by : (o : Option Change) → IsLikeChange plan x k o → is_changing o ≡ false → is_over plan told o ≡ true
      → (1 ≤ x.sends → all_told (state_sent x.sends) told ≡ true) → IsDoneBy c.cast k u k.changing
  done_by None e f o A =
      let H : IsStateTold c.cast u x.sends = state_so x.sends (λ b. states_heard plan files handles w steps k v G (target x.sends) (all_at (target x.sends) (subst (λ (z : State). all_told z told ≡ true) (sent_target x.sends) (A b)))) in
      subst (λ (q : Option ℕ). IsDoneBy c.cast k u q) (sym e) (subst (λ (n : ℕ). IsStateTold c.cast u n) (sym L.phase) H)
  done_by (Some ch) I f o A =
      let eight : k.made I.link ≡ 8 = I.made ∙ made_whole ch I.few f in
      let over : both_enabled (ends_of plan I.link) told ch.source ≡ true = subst (λ (q : Option LinkEnds). is_enabled_by told ch.source q ≡ true) (link_so ch I) o in
      let at_link : both_enabled (ends_of plan I.link) told (giver plan I.link) ≡ true = subst (λ (n : ℕ). both_enabled (ends_of plan I.link) told n ≡ true) (sym I.gives) over in
      subst (λ (q : Option ℕ). IsDoneBy c.cast k u q) (sym I.its)
      (eight, ports_heard plan files handles w steps k v G (λ port. completions.Enable port) I.link I.below (both_enabled_at I.link I.below at_link))

  done_so : IsRested plan told x → (1 ≤ x.sends → all_told (state_sent x.sends) told ≡ true) → IsDone c.cast k u
  done_so R A = record { all_sent = sent_all plan x k L R.sent; told = done_by x.change L.change R.changed R.over A }

  -- so the link of the last change is changed whole
  last_whole : (o : Option Change) → IsLikeChange plan x k o → is_changing o ≡ false → (l : ℕ) → k.changing ≡ Some l → k.made l ≡ 8
  last_whole None e f l g = (let z : None ≡ Some l = sym e ∙ g in absurd cc)
  last_whole (Some ch) I f l g =
      let same : I.link ≡ l = some_same I.link l (sym I.its ∙ g) in
      subst (λ (n : ℕ). k.made n ≡ 8) same (I.made ∙ made_whole ch I.few f)

  whole_now : IsRested plan told x → (l : ℕ) → IsWhole k l → k.made l ≡ 8
  whole_now R l (inl e) = e
  whole_now R l (inr e) = last_whole x.change L.change R.changed l e.0

  -- ---- a StateSet

  sending_so : (phase i : ℕ) (part : PartLine) → slice_get plan.parts i ≡ Some part → SaysAct scene (lines.SendState part.name (state_sent phase)) a → IsSending c.cast u phase i a
  sending_so phase i part e y =
      let P = y.3 in
      let at : y.0 ≡ i = own y.0 i y.1 part P.line e P.named in
      let there : slice_get handles i ≡ Some y.2 = ap (slice_get handles) (sym at) ∙ P.handle in
      let b = slice_get_within plan.parts i part e in
      let D = ((come plan files handles w steps k v G).faulty).taken in
      let n = (((D.played).play).cast_is).each i b in
      record {
        component = n.0;
        below = n.1;
        there = n.2;
        handle = y.2;
        named = named_now i y.2 there ∙ ap Some (sym n.2);
        is = y.4 ∙ ap (λ (z : State). acts.SendCommand y.2 (StateSet z)) (sent_target phase);
      }

  goes_on : (y : OrderValue) → SendsOn plan x t y → IsAskedSo y
  goes_on y H =
      let both = still_sending (length plan.parts) x H.sending in
      let q = L.sent both.0 in
      let p = L.phase in
      let S = sending_so x.sends x.sent H.part H.there (subst (λ (z : TextAct). SaysAct scene z a) H.is says) in
      let placed_so : IsSending c.cast u k.phase k.sent a = rw (p, q) S in
      let next : Cursor = record k { sent = k.sent + 1 } in
      record {
        next = next;
        asks = inl (record { begun = (let some = both.0 in omega (arith, p, some)); sends = placed_so; after = refl });
        like = subst (λ (o : OrderValue). IsLike plan o next) (sym H.goes_on) (like_sent plan files G.ready x k L both.0 both.1);
      }

  sinks_at : CanGoBack plan told x.changed → HasCause s BackToIdle steps
  sinks_at C place b q =
      let part = get_there plan.parts place b in
      told_eos (length plan.parts) told steps T place b (C.sinks place b (sink_part (slice_get plan.parts place) part.0 part.1 q))

  begins_send : (y : OrderValue) → BeginsSend plan told x t y → IsAskedSo y
  begins_send y H =
      let p = L.phase in
      let few = H.few in
      let S = sending_so (x.sends + 1) 0 H.part H.there (subst (λ (z : TextAct). SaysAct scene z a) H.is says) in
      let q : k.phase + 1 ≡ x.sends + 1 = omega (arith, p) in
      let placed_so : IsSending c.cast u (k.phase + 1) 0 a = rw q S in
      let next : Cursor = record { phase = k.phase + 1; sent = 1; made = k.made; changing = None } in
      record {
        next = next;
        asks = inr (inl (record {
          more = omega (arith, p, few);
          done = done_so H.rested (λ b. some_states x.sends told b H.last);
          changed = λ two l b e.
              (let C = H.back (sym p ∙ two) in
              whole_now H.rested l (L.begun l b e (C.lates (giver plan l) (giver_below l b) e)));
          ends = λ two. ends_heard plan files handles w steps k v G (sinks_at (H.back (sym p ∙ two)));
          sends = placed_so;
          after = refl;
        }));
        like = subst (λ (o : OrderValue). IsLike plan o next) (sym H.goes_on) (like_next plan files G.ready x k L few (whole_now H.rested));
      }

  -- ---- a change

  changes_on : (y : OrderValue) → ChangesOn plan told x t y → IsAskedSo y
  changes_on y H =
      let ch : Change = H.change in
      let I : IsLinkOf plan x k ch = subst (λ (o : Option Change). IsLikeChange plan x k o) H.last L.change in
      let l : ℕ = I.link in
      let few = some_left ch (subst (λ (o : Option Change). is_changing o ≡ true) H.last H.changing) in
      let ends_are : H.ends ≡ ends_of plan l = some_same H.ends (ends_of plan l) (sym H.link ∙ link_so ch I) in
      let said_so : SaysAct scene (change_act (ends_of plan l) ch.made) a = subst (λ (e : LinkEnds). SaysAct scene (change_act e ch.made) a) ends_are (subst (λ (z : TextAct). SaysAct scene z a) H.is says) in
      let A = change_said plan files G.ready handles u (link_is plan files handles w steps k v G) own a named_now l ch.made I.below few said_so in
      let made = I.made in
      let next : Cursor = one_more l k in
      record {
        next = next;
        asks = inr (inr (inr (record {
          link = l;
          its = I.its;
          more = omega (arith, made, few);
          disabled = λ two. ports_heard plan files handles w steps k v G (λ port. completions.Disable port) l I.below
              (both_disabled_at l I.below (disabled_so ch I H.ends ends_are (H.disabled (sym made ∙ two))));
          its_act = rw made A;
          after = refl;
        })));
        like = subst (λ (o : OrderValue). IsLike plan o next) (sym H.goes_on) (like_more plan files G.ready x k L ch I few);
      }
    where
      disabled_so : (ch : Change) (I : IsLinkOf plan x k ch) (ends : LinkEnds) → ends ≡ ends_of plan I.link → both_disabled ends told ch.source ≡ true → both_disabled (ends_of plan I.link) told (giver plan I.link) ≡ true
      disabled_so ch I ends e d =
          subst (λ (n : ℕ). both_disabled (ends_of plan I.link) told n ≡ true) (sym I.gives) (subst (λ (y : LinkEnds). both_disabled y told ch.source ≡ true) e d)

  begins_change : (y : OrderValue) → BeginsChange plan told x t y → IsAskedSo y
  begins_change y H =
      let M = H.may in
      let K = source_link plan H.source M.ends M.link in
      let l : ℕ = K.link in
      let late : is_late_link plan l ≡ true = ap (λ (n : ℕ). passes_at is_late (slice_get plan.parts n)) K.gives ∙ M.late in
      let ends_are : M.ends ≡ ends_of plan l = some_same M.ends (ends_of plan l) (sym M.link ∙ (ap (link_of plan) (sym K.gives) ∙ linked plan files G.ready l K.below late)) in
      let said_so : SaysAct scene (change_act (ends_of plan l) 0) a = subst (λ (e : LinkEnds). SaysAct scene (change_act e 0) a) ends_are (subst (λ (z : TextAct). SaysAct scene z a) M.is says) in
      let none : k.made l ≡ 0 = L.unbegun l K.below late (ap (λ (n : ℕ). is_begun x.changed n) K.gives ∙ M.unchanged) in
      let next : Cursor = one_more l k in
      let within : H.source < length x.changed = (let size = L.size in let there = M.there in let most = ((G.ready).valid).most in omega (arith, size, there, most)) in
      record {
        next = next;
        asks = inr (inr (inl (record {
          phase = L.phase ∙ H.sends;
          done = done_so H.rested (λ b. subst (λ (n : ℕ). all_told (state_sent n) told ≡ true) (sym H.sends) H.told_so);
          link = l;
          below = K.below;
          late = late;
          unchanged = none;
          announced = settings_heard plan files handles w steps k v G l K.below
              (told_settings (length plan.parts) told steps T (giver plan l) (giver_below l K.below) (ap (λ (n : ℕ). has_settings (slice_get told n)) K.gives ∙ M.cause));
          its_act = change_said plan files G.ready handles u (link_is plan files handles w steps k v G) own a named_now l 0 K.below (omega arith) said_so;
          after = refl;
        })));
        like = subst (λ (o : OrderValue). IsLike plan o next) (sym H.goes_on)
            (like_begun plan files G.ready x k L H.source l K.below late K.gives within none H.sends (sent_all plan x k L (H.rested).sent) (whole_now H.rested));
      }

  pub asked_so : (y : OrderValue) → Admits plan told x t y → IsAskedSo y
  asked_so y H = elim H [
    | inl D ↦ goes_on y D
    | inr B ↦ elim B [
      | inl D ↦ changes_on y D
      | inr E ↦ elim E [
        | inl D ↦ begins_change y D
        | inr D ↦ begins_send y D
      ]
    ]
  ]
