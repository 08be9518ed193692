-- What the cursor of a history asks an order admits.
use Rattle.std.proofs.Common.{◌≡◌, inl, inr, ℕ, zero, suc, ◌+◌, ◌<◌, ◌≤◌, Bool, true, false, ◌||◌, nat_eq, List, length, set, slice_get, Option, Some, None, refl, sym, ◌∙◌, ap, subst, arith}
use Rattle.std.proofs.lemmas.Bool.{cases_lt}
use Rattle.std.proofs.lemmas.Grind.{common_steps}
use Rattle.std.proofs.lemmas.Option.{slice_get_within}
use Rattle.omx_types.specs.declared.command.Completion.TheVariants as completions
use Rattle.omx_types.specs.declared.handle.Handle.{Handle}
use Rattle.omx_types.specs.declared.state.State.{State}
use Rattle.part_forms.specs.Kinds.{is_late}
use Rattle.il_machine.specs.Kinds.{is_sink}
use Rattle.il_machine.specs.declared.answer.Progress.{Progress}
use Rattle.il_machine.specs.Acts.{Act, Reply}
use Rattle.il_machine.specs.World.{World, is_at}
use Rattle.il_machine.proofs.Places.{is_first_place, passes_at as standing_at}
use Rattle.history_laws.proofs.Naming.{handle_is}
use Rattle.machine_laws.proofs.Finding.{either}
use Rattle.act_text.specs.declared.act.TextAct.{TextAct}
use Rattle.act_text.specs.declared.act.TextAct.TheVariants as lines
use Rattle.script_lang.specs.declared.play_line.PartLine.{PartLine}
use Rattle.conductor.specs.Hearing.{tells_disable, tells_enable}
use Rattle.conductor.specs.Phases.{all_told}
use Rattle.play_build_laws.specs.Assembly.{Assembly}
use Rattle.play_forms.specs.Parts.{passes_at}
use Rattle.play_forms.specs.Plans.{PlanValue}
use Rattle.play_world_laws.specs.Cast.{components_of, giver_of, script_place, taker_of}
use Rattle.play_world_laws.specs.PlayWorlds.{IsPlayWorld, PlayCast}
use Rattle.play_world_laws.specs.Standing.{target}
use Rattle.play_world_laws.specs.Telling.{last_told as last_told_at}
use Rattle.play_world_laws.specs.Worlds.{Names}
use Rattle.play_world_laws.proofs.Lists.{get_there}
use Rattle.play_plan_laws.specs.Assemblies.{PlayFiles, is_late_link, kind_in, play_cast_of}
use Rattle.play_log.proofs.Players.{some_same}
use Rattle.play_result_laws.specs.Asked.{AreAllAt, AreBothDone, BackToIdle, Disabling, HasCause, tuned}
use Rattle.read_world_laws.specs.Inside.{inside}
use Rattle.read_world_laws.specs.Mended.{mend}
use Rattle.play_history_laws.specs.Following.{IsTurn}
use Rattle.play_history_laws.specs.Order.{Begins, BothHaveTold, Changes, ChangesOn as ConductsOn, Cursor, EachHasHeard, GoesOn, IsAsked, IsChangeAct, IsDone, IsDoneBy, IsSending, IsStateTold, one_more}
use Rattle.play_history_laws.specs.Askings.{IsPlanHistory, read_of}
use Rattle.play_history_laws.proofs.Answered.{ends_told, ports_told, settings_told, states_told}
use Rattle.play_history_laws.proofs.Askings.{come, link_is, placed}
use Rattle.audit_order.specs.declared.ends.LinkEnds.{LinkEnds}
use Rattle.audit_order.specs.declared.order.Change.{Change}
use Rattle.audit_order.specs.Asked.{change_act, state_sent}
use Rattle.audit_order.specs.Ends.{link_of}
use Rattle.audit_order.specs.Steps.{Admits, CanGoBack, IsRested, OrderValue, both_disabled, both_enabled, is_begun, is_changing, is_enabled_by, is_over, last_told}
use Rattle.audit_order.proofs.Left.{two_true}
use Rattle.audit_order.proofs.Linked.{all_linked}
use Rattle.audit_laws.proofs.Asking.{sent_target}
use Rattle.audit_laws.proofs.Likeness.{IsLike, IsLikeChange, IsLinkOf, IsWhole, left_some, like_begun, like_more, like_next, like_sent, not_sending, whole_made}
use Rattle.audit_laws.proofs.Links.{change_text, ends_of, giver, linked, source_link, taker}
use Rattle.audit_laws.proofs.Texts.{Fits, name_at, name_in, said_by}
use Rattle.audit_laws.proofs.Told.{AreTold, disable_told, enable_told, eos_told, settings_told as settings_in, states_told as states_in}

sink_kind : (o : Option PartLine) → passes_at is_sink o ≡ true → is_sink (kind_in o) ≡ true
sink_kind None t = absurd cc
sink_kind (Some part) t = t

told_states_so : (n : ℕ) (told : List Progress) → (1 ≤ n → all_told (state_sent n) told ≡ true) → last_told n told ≡ true
told_states_so n told A = elim (cases_lt 0 n) [
  | inl b ↦ let t = A (omega (arith, b)) in either (nat_eq n 0) (λ e. ap (λ (q : Bool). q || all_told (state_sent n) told) e) (λ f. ap (λ (q : Bool). q || all_told (state_sent n) told) f ∙ t)
  | inr b ↦ let z : n ≡ 0 = omega (arith, b) in rw z refl
]

module _ (plan : PlanValue) (files : PlayFiles) (handles : List Handle) (w : World) (steps : List (Act × Reply)) (k : Cursor) (v : World) (G : IsPlanHistory plan files handles w steps k v)
    (told : List Progress) (T : AreTold (length plan.parts) told steps) (x : OrderValue) (L : IsLike plan x k) (t : TextAct) (a : Act) (fits : Fits plan.parts t a) (j : Cursor) where
  abbrev c : PlayCast
  c = play_cast_of plan

  abbrev s : Assembly
  s = tuned plan files

  abbrev u : World
  u = read_of v

  -- it is admitted, and what is asked then is so by the cursor, too
  pub record IsAdmittedSo : Type 0 where
    pub order : OrderValue
    pub admits : Admits plan told x t order
    pub like : IsLike plan order j

  giver_below : (l : ℕ) → l < length plan.joints → giver plan l < length plan.parts
  giver_below l b =
      let K = link_is plan files handles w steps k v G l b in
      let p = placed plan files handles w steps k v G (giver_of c.cast l) K.giver_below in
      subst (λ (n : ℕ). n < length plan.parts) K.giver p

  taker_below : (l : ℕ) → l < length plan.joints → taker plan l < length plan.parts
  taker_below l b =
      let K = link_is plan files handles w steps k v G l b in
      let p = placed plan files handles w steps k v G (taker_of c.cast l) K.taker_below in
      subst (λ (n : ℕ). n < length plan.parts) K.taker p

  -- ---- the world of the play

  abbrev world : World
  world = inside (mend (come plan files handles w steps k v G).later v)

  stands : IsPlayWorld c (come plan files handles w steps k v G).recent (come plan files handles w steps k v G).now world
  stands = ((((come plan files handles w steps k v G).faulty).taken).played).play

  -- a handle's number is its component's place
  numbered : (number : ℕ) (h : Handle) → number < components_of c.cast → Names c.cast u number h → h.generation ≡ script_place c.cast number
  numbered number h b e =
      let f = standing_at (is_at h) u.components (script_place c.cast number) (sym (is_first_place (is_at h) u.components) ∙ e) in
      let A = stands.actors number f.0 b f.1 in
      sym (ap (λ (g : Handle). g.generation) (handle_is (f.0).handle h f.2)) ∙ A.number

  -- ---- what was told

  state_heard : (n : ℕ) → 1 ≤ n → IsStateTold c.cast u n → EachHasHeard c.cast u (λ number progress. progress.state ≡ Some (target n))
  state_heard zero b H = absurd (omega (arith, b))
  state_heard (suc n) b H = H

  -- the last state was told, also while links are changed
  last_heard : (o : Option ℕ) → 1 ≤ k.phase → k.changing ≡ o → IsDoneBy c.cast k u o → EachHasHeard c.cast u (λ number progress. progress.state ≡ Some (target k.phase))
  last_heard None b e D number below d at = state_heard k.phase b D number below d at
  last_heard (Some l) b e D number below d at =
      let B = come plan files handles w steps k v G in
      let F = (((B.faulty).taken).played).follows in
      let turn : IsTurn c.cast k B.recent B.now (Some l) = subst (λ (q : Option ℕ). IsTurn c.cast k B.recent B.now q) e F.turn in
      let A = stands.actors number d below at in
      let phase : k.phase ≡ 2 = sym F.phase ∙ turn.0 in
      let told_at : last_told_at (B.now).phase ((B.now).stage number) ≡ Some (target 2) = (λ i. last_told_at (turn.0 i) (turn.5 number below i)) in
      (A.heard_so).state ∙ told_at ∙ ap (λ (n : ℕ). Some (target n)) (sym phase)

  last_told_so : IsDone c.cast k u → 1 ≤ x.sends → all_told (state_sent x.sends) told ≡ true
  last_told_so D b =
      let p = L.phase in
      let H = last_heard k.changing (omega (arith, p, b)) refl D.told in
      let all : AreAllAt s (target k.phase) steps = states_told plan files handles w steps k v G (target k.phase) H in
      let now : all_told (target k.phase) told ≡ true = states_in (length plan.parts) told steps T (target k.phase) all in
      subst (λ (z : State). all_told z told ≡ true) (ap target p ∙ sym (sent_target x.sends)) now

  both_disabled_so : (l : ℕ) → l < length plan.joints → AreBothDone s (λ port. completions.Disable port) l steps → both_disabled (ends_of plan l) told (giver plan l) ≡ true
  both_disabled_so l b D =
      two_true (tells_disable ((ends_of plan l).output).index (slice_get told (giver plan l))) (tells_disable ((ends_of plan l).input).index (slice_get told (taker plan l)))
      (disable_told (length plan.parts) told steps T (giver plan l) ((ends_of plan l).output).index (giver_below l b) (D false))
      (disable_told (length plan.parts) told steps T (taker plan l) ((ends_of plan l).input).index (taker_below l b) (D true))

  both_enabled_so : (l : ℕ) → l < length plan.joints → AreBothDone s (λ port. completions.Enable port) l steps → both_enabled (ends_of plan l) told (giver plan l) ≡ true
  both_enabled_so l b D =
      two_true (tells_enable ((ends_of plan l).output).index (slice_get told (giver plan l))) (tells_enable ((ends_of plan l).input).index (slice_get told (taker plan l)))
      (enable_told (length plan.parts) told steps T (giver plan l) ((ends_of plan l).output).index (giver_below l b) (D false))
      (enable_told (length plan.parts) told steps T (taker plan l) ((ends_of plan l).input).index (taker_below l b) (D true))

  -- ---- what was asked last is done

  link_so : (ch : Change) (I : IsLinkOf plan x k ch) → link_of plan ch.source ≡ Some (ends_of plan I.link)
  link_so ch I = ap (link_of plan) (sym I.gives) ∙ linked plan files G.ready I.link I.below I.late

  eight_of : (l : ℕ) → k.changing ≡ Some l → IsDone c.cast k u → k.made l ≡ 8
  eight_of l e D = (subst (λ (q : Option ℕ). IsDoneBy c.cast k u q) e D.told).0

  changed_so : (o : Option Change) → IsLikeChange plan x k o → IsDone c.cast k u → is_changing o ≡ false
  changed_so None e D = refl
  changed_so (Some ch) I D = whole_made ch (sym I.made ∙ eight_of I.link I.its D)

  over_so : (o : Option Change) → IsLikeChange plan x k o → IsDone c.cast k u → is_over plan told o ≡ true
  over_so None e D = refl
  over_so (Some ch) I D =
      let both = subst (λ (q : Option ℕ). IsDoneBy c.cast k u q) I.its D.told in
      let P = ports_told plan files handles w steps k v G (λ port. completions.Enable port) I.link I.below both.1 in
      let at_link = both_enabled_so I.link I.below P in
      let over : both_enabled (ends_of plan I.link) told ch.source ≡ true = subst (λ (n : ℕ). both_enabled (ends_of plan I.link) told n ≡ true) I.gives at_link in
      subst (λ (q : Option LinkEnds). is_enabled_by told ch.source q ≡ true) (sym (link_so ch I)) over

  rested_so : IsDone c.cast k u → IsRested plan told x
  rested_so D = record { sent = not_sending plan x k L D.all_sent; changed = changed_so x.change L.change D; over = over_so x.change L.change D }

  whole_now : IsDone c.cast k u → (l : ℕ) → IsWhole k l → k.made l ≡ 8
  whole_now D l (inl e) = e
  whole_now D l (inr e) = eight_of l e.0 D

  -- ---- a StateSet

  record IsSentSo (phase i : ℕ) : Type 0 where
    part : PartLine
    there : slice_get plan.parts i ≡ Some part
    is : t ≡ lines.SendState part.name (state_sent phase)

  sent_so : (phase i : ℕ) → IsSending c.cast u phase i a → IsSentSo phase i
  sent_so phase i S =
      let p = placed plan files handles w steps k v G S.component S.below in
      let at : (S.handle).generation ≡ i = numbered S.component S.handle S.below S.named ∙ S.there in
      let q = S.there in
      let part = get_there plan.parts i (omega (arith, p, q)) in
      let text : t ≡ lines.SendState (name_at plan.parts i) (target phase) =
      fits.0 (lines.SendState (name_at plan.parts i) (target phase)) (ap (said_by plan.parts) S.is ∙ ap (λ (n : ℕ). Some (lines.SendState (name_at plan.parts n) (target phase))) at) in
      record {
        part = part.0;
        there = part.1;
        is = text ∙ (λ m. lines.SendState (name_in (part.1 m)) (sym (sent_target phase) m));
      }

  goes_on : GoesOn c.cast k u a j → IsAdmittedSo
  goes_on D =
      let p = L.phase in
      let begun = D.begun in
      let some : 1 ≤ x.sends = omega (arith, p, begun) in
      let q = L.sent some in
      let sends : IsSending c.cast u x.sends x.sent a = subst (λ (n : ℕ). IsSending c.cast u n x.sent a) p (subst (λ (n : ℕ). IsSending c.cast u k.phase n a) q D.sends) in
      let S = sent_so x.sends x.sent sends in
      let b = slice_get_within plan.parts x.sent S.part S.there in
      record {
        order = record x { sent = x.sent + 1 };
        admits = inl (record { sending = grind (arith, common_steps, some, b); part = S.part; there = S.there; is = S.is; goes_on = refl });
        like = subst (λ (i : Cursor). IsLike plan (record x { sent = x.sent + 1 }) i) (sym D.after) (like_sent plan files G.ready x k L some b);
      }

  lates_so : (D : Begins c.cast k u a j) → k.phase ≡ 2 → (place : ℕ) → place < length plan.parts → passes_at is_late (slice_get plan.parts place) ≡ true → is_begun x.changed place ≡ true
  lates_so D two place b late = either (is_begun x.changed place) (λ y. y) (λ f.
      let H = all_linked plan (G.ready).valid place late in
      let K = source_link plan place H.0 H.1 in
      let its : is_late_link plan K.link ≡ true = ap (λ (n : ℕ). passes_at is_late (slice_get plan.parts n)) K.gives ∙ late in
      let none = L.unbegun K.link K.below its (ap (λ (n : ℕ). is_begun x.changed n) K.gives ∙ f) in
      let eight = D.changed two K.link K.below its in
      absurd (omega (arith, none, eight)))

  back_so : (D : Begins c.cast k u a j) → k.phase ≡ 2 → CanGoBack plan told x.changed
  back_so D two =
      let H : HasCause s BackToIdle steps = ends_told plan files handles w steps k v G (D.ends two) in
      record {
        lates = λ place b late. lates_so D two place b late;
        sinks = λ place b q. eos_told (length plan.parts) told steps T place b (H place b (sink_kind (slice_get plan.parts place) q));
      }

  begins : Begins c.cast k u a j → IsAdmittedSo
  begins D =
      let p = L.phase in
      let more = D.more in
      let q : k.phase + 1 ≡ x.sends + 1 = omega (arith, p) in
      let S = sent_so (x.sends + 1) 0 (subst (λ (n : ℕ). IsSending c.cast u n 0 a) q D.sends) in
      let few : x.sends < 4 = omega (arith, p, more) in
      let y : OrderValue = record { sends = x.sends + 1; sent = 1; change = None; changed = x.changed } in
      record {
        order = y;
        admits = inr (inr (inr (record {
          rested = rested_so D.done;
          few = few;
          last = told_states_so x.sends told (last_told_so D.done);
          back = λ two. back_so D (p ∙ two);
          part = S.part;
          there = S.there;
          is = S.is;
          goes_on = refl;
        })));
        like = subst (λ (i : Cursor). IsLike plan y i) (sym D.after) (like_next plan files G.ready x k L few (whole_now D.done));
      }

  -- ---- a change

  change_so : (l n : ℕ) → l < length plan.joints → IsChangeAct c u l n a → t ≡ change_act (ends_of plan l) n
  change_so l n b A = change_text plan files G.ready handles u (link_is plan files handles w steps k v G) t a fits numbered l n b A

  changes : Changes c k u a j → IsAdmittedSo
  changes D =
      let p = L.phase in
      let l : ℕ = D.link in
      let source : ℕ = giver plan l in
      let two : x.sends ≡ 2 = sym p ∙ D.phase in
      let there = giver_below l D.below in
      let size = L.size in
      let most = ((G.ready).valid).most in
      let y : OrderValue = record x { change = Some (record { source = source; made = 1 }); changed = set x.changed source true } in
      let cause : HasCause s (Disabling l) steps = settings_told plan files handles w steps k v G l D.below D.announced in
      record {
        order = y;
        admits = inr (inr (inl (record {
          rested = rested_so D.done;
          sends = two;
          told_so = subst (λ (n : ℕ). all_told (state_sent n) told ≡ true) two (last_told_so D.done (omega (arith, two)));
          source = source;
          may = record {
            there = there;
            late = D.late;
            unchanged = unbegun_so l D.below D.late D.unchanged;
            cause = settings_in (length plan.parts) told steps T source there cause;
            ends = ends_of plan l;
            link = linked plan files G.ready l D.below D.late;
            is = change_so l 0 D.below D.its_act;
          };
          goes_on = refl;
        })));
        like = subst (λ (i : Cursor). IsLike plan y i) (sym D.after)
            (like_begun plan files G.ready x k L source l D.below D.late refl (omega (arith, size, there, most)) D.unchanged two (D.done).all_sent (whole_now D.done));
      }
    where
      unbegun_so : (l : ℕ) → l < length plan.joints → is_late_link plan l ≡ true → k.made l ≡ 0 → is_begun x.changed (giver plan l) ≡ false
      unbegun_so l b late z = either (is_begun x.changed (giver plan l)) (λ y. elim (L.begun l b late y) [
        | inl e ↦ absurd (omega (arith, e, z))
        | inr e ↦ let some = e.1 in absurd (omega (arith, some, z))
      ]) (λ f. f)

  -- of the change that was begun last
  changed_last : (o : Option Change) → x.change ≡ o → IsLikeChange plan x k o → ConductsOn c k u a j → IsAdmittedSo
  changed_last None e C D = (let z : None ≡ Some D.link = sym C ∙ D.its in absurd cc)
  changed_last (Some ch) e I D =
      let l : ℕ = I.link in
      let same : l ≡ D.link = some_same l D.link (sym I.its ∙ D.its) in
      let made : k.made D.link ≡ ch.made = ap k.made (sym same) ∙ I.made in
      let more = D.more in
      let few : ch.made < 8 = omega (arith, made, more) in
      let act : IsChangeAct c u l ch.made a = subst (λ (i : ℕ). IsChangeAct c u i ch.made a) (sym same) (subst (λ (n : ℕ). IsChangeAct c u D.link n a) made D.its_act) in
      let y : OrderValue = record x { change = Some (record { source = ch.source; made = ch.made + 1 }) } in
      record {
        order = y;
        admits = inr (inl (record {
          sent = not_sending plan x k L I.all;
          change = ch;
          last = e;
          changing = ap is_changing e ∙ left_some ch few;
          ends = ends_of plan l;
          link = link_so ch I;
          disabled = λ two. disabled_so ch I D same made two;
          is = change_so l ch.made I.below act;
          goes_on = refl;
        }));
        like = subst (λ (i : Cursor). IsLike plan y i) (sym (D.after ∙ ap (λ (i : ℕ). one_more i k) (sym same))) (like_more plan files G.ready x k L ch I few);
      }
    where
      disabled_so : (ch : Change) (I : IsLinkOf plan x k ch) (D : ConductsOn c k u a j) → I.link ≡ D.link → k.made D.link ≡ ch.made → ch.made ≡ 2 → both_disabled (ends_of plan I.link) told ch.source ≡ true
      disabled_so ch I D same made two =
          let H = subst (λ (i : ℕ). BothHaveTold c.cast u (λ port. completions.Disable port) i) (sym same) (D.disabled (made ∙ two)) in
          let P = ports_told plan files handles w steps k v G (λ port. completions.Disable port) I.link I.below H in
          subst (λ (n : ℕ). both_disabled (ends_of plan I.link) told n ≡ true) I.gives (both_disabled_so I.link I.below P)

  pub admitted_so : IsAsked c k u a j → IsAdmittedSo
  admitted_so A = elim A [
    | inl D ↦ goes_on D
    | inr B ↦ elim B [
      | inl D ↦ begins D
      | inr E ↦ elim E [
        | inl D ↦ changes D
        | inr D ↦ changed_last x.change refl L.change D
      ]
    ]
  ]
