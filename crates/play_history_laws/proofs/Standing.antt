-- What a conductor answers by old views is so, or can be done.
use Rattle.std.proofs.Common.{◌≡◌, ◌⊎◌, inl, inr, ℕ, zero, suc, ◌+◌, ◌<◌, ◌≤◌, true, false, not, ◌==◌, nat_eq, is_some, slice_get, Option, Some, refl, sym, ◌∙◌, ap, subst, eqb-true, arith}
use Rattle.std.proofs.lemmas.Option.{slice_get_within}
use Rattle.omx_types.specs.declared.state.State.{State}
use Rattle.omx_types.specs.declared.state.State.TheVariants as states
use Rattle.il_machine.specs.declared.answer.Progress.{Progress}
use Rattle.il_machine.specs.World.{World}
use Rattle.machine_laws.proofs.Accepting.{both_of, is_not}
use Rattle.machine_laws.proofs.Every.{all_pass}
use Rattle.conductor.specs.declared.phase.ChangeStep.{ChangeStep}
use Rattle.conductor.specs.declared.phase.LateLink.{LateLink}
use Rattle.conductor.specs.declared.phase.Phase.TheVariants as phases
use Rattle.conductor.specs.Hearing.{ConductorValue}
use Rattle.conductor.specs.Phases.{Conducts, IsSendDue, all_at, all_states, all_told, has_failed, has_settings, is_at, is_changed, is_ready, last_told as all_last_told, may_change}
use Rattle.play_model.specs.Acts.{Act, CanAct, acted}
use Rattle.play_model.specs.Changes.{Change, IsChanged}
use Rattle.play_model.specs.Play.{IsUnbroken, Play}
use Rattle.play_model.specs.Reached.{IsOver}
use Rattle.play_model.proofs.Reaching.{ended_from}
use Rattle.play_world_laws.specs.Cast.{components_of, giver_of, links_of, script_place}
use Rattle.play_world_laws.specs.Standing.{target}
use Rattle.play_plan_laws.proofs.Conducting.{next_state, none_of, over_at, state_next, told_stage}
use Rattle.play_world_laws.specs.PlayWorlds.{IsPlayWorld, PlayCast}
use Rattle.play_turn_laws.specs.Conducting.{AreLates, IsChangeOf, IsLateAt, IsLateOf}
use Rattle.play_turn_laws.proofs.ChangeSteps.{KnowsChanges, change_of, unbroken}
use Rattle.play_turn_laws.proofs.Hearing.{giver_within}
use Rattle.play_history_laws.specs.Behind.{IsBehind, IsOld}
use Rattle.play_history_laws.proofs.Behind.{begun_behind}

module _ (x : PlayCast) (recent : ℕ) (p : Play) (w : World) (W : IsPlayWorld x recent p w) (value : ConductorValue) (V : IsOld x.cast recent p value) where
  abbrev L : AreLates x.cast recent p value.lates
  L = (V.conducting).lates

  abbrev sends : value.sends ≡ p.phase
  sends = (V.conducting).sends

  -- ---- the components

  pub told_at : (i : ℕ) (y : Progress) → slice_get value.told i ≡ Some y → (c : ℕ) × (c < components_of x.cast) × (script_place x.cast c ≡ i) × IsBehind x.cast p c y
  told_at i y e =
      let l = slice_get_within value.told i y e in
      let m = (V.conducting).many in
      let k = (W.cast_is).each i (omega arith) in
      let t = V.told k.0 k.1 in
      let s : Some t.0 ≡ Some y = sym t.1 ∙ (ap (slice_get value.told) k.2 ∙ e) in
      let is : t.0 ≡ y = cc in
      (k.0, k.1, k.2, subst (λ (z : Progress). IsBehind x.cast p k.0 z) is t.2)

  pub not_failed : has_failed value.told ≡ false
  not_failed = none_of (λ (y : Progress). is_some y.error) value.told (λ i y e. let k = told_at i y e in ap (λ (o : Option _). is_some o) (k.3).error)

  -- where all are known to have told the state, they have
  all_views : 1 ≤ p.phase → all_told (target p.phase) value.told ≡ true → (c : ℕ) → c < components_of x.cast → (h : Progress) × (slice_get value.told (script_place x.cast c) ≡ Some h) × (B : IsBehind x.cast p c h) × (B.stage ≡ 4)
  all_views l h c d =
      let t = V.told c d in
      let B : IsBehind x.cast p c t.0 = t.2 in
      let one = all_pass (λ (y : Progress). is_at (target p.phase) y.state) value.told (script_place x.cast c) t.0 h t.1 in
      let few = (W.reached).stage c d in
      let u : nat_eq B.stage 4 ≡ true = sym (told_stage p.phase B.stage l (W.reached).phase (omega (arith, B.within))) ∙ (sym (ap (is_at (target p.phase)) B.state) ∙ one) in
      (t.0, t.1, B, eqb-true _ _ u)

  pub all_stages : 1 ≤ p.phase → all_told (target p.phase) value.told ≡ true → (c : ℕ) → c < components_of x.cast → p.stage c ≡ 4
  all_stages l h c d =
      let t = all_views l h c d in
      let B : IsBehind x.cast p c t.0 = t.2 in
      let e = t.3 in
      let few = (W.reached).stage c d in
      omega (arith, B.within)

  last_views : all_last_told value.sends value.told ≡ true → (c : ℕ) → c < components_of x.cast → (h : Progress) × (slice_get value.told (script_place x.cast c) ≡ Some h) × (B : IsBehind x.cast p c h) × ((p.phase ≡ 0) ⊎ (B.stage ≡ 4))
  last_views h = by_phase p.phase refl (ap (λ (k : ℕ). all_last_told k value.told) (sym sends) ∙ h)
    where
      by_phase : (phase : ℕ) → p.phase ≡ phase → all_last_told phase value.told ≡ true → (c : ℕ) → c < components_of x.cast → (h : Progress) × (slice_get value.told (script_place x.cast c) ≡ Some h) × (B : IsBehind x.cast p c h) × ((p.phase ≡ 0) ⊎ (B.stage ≡ 4))
      by_phase zero e h c d = let t = V.told c d in (t.0, t.1, t.2, inl e)
      by_phase (suc k) e h c d =
          let r = (W.reached).phase in
          let s : slice_get all_states k ≡ Some (target (k + 1)) = state_next k (omega arith) in
          let same : k + 1 ≡ p.phase = omega arith in
          let t : all_told (target p.phase) value.told ≡ true = ap (λ (z : ℕ). all_told (target z) value.told) (sym same) ∙ (sym (ap (λ (o : Option State). all_at o value.told) s) ∙ h) in
          let v = all_views (omega arith) t c d in
          (v.0, v.1, v.2, inr v.3)

  last_all : all_last_told value.sends value.told ≡ true → (c : ℕ) → c < components_of x.cast → p.stage c ≡ 4
  last_all h c d =
      let t = last_views h c d in
      let B : IsBehind x.cast p c t.0 = t.2 in
      let few = (W.reached).stage c d in
      elim t.3 [
        | inl z ↦ (W.reached).first z c d
        | inr f ↦ omega (arith, B.within)
      ]

  pub where_may : may_change value ≡ true → (p.phase ≡ 2) × ((c : ℕ) → c < components_of x.cast → p.stage c ≡ 4)
  where_may h =
      let t = both_of (value.sends == 2) (all_told states.Executing value.told) h in
      let two : p.phase ≡ 2 = sym sends ∙ eqb-true _ _ t.0 in
      (two, all_stages (omega arith) (ap (λ (k : ℕ). all_told (target k) value.told) two ∙ t.1))

  -- ---- the links

  module _ (i l : ℕ) (late : LateLink) (e : slice_get value.lates i ≡ Some late) (K : IsLateAt x.cast recent p l late) where
    abbrev k : Change
    k = p.change l

    -- its source's settings were told
    pub ready_is : is_ready value.told late ≡ true → (2 ≤ k.step) × (is_changed late ≡ false)
    ready_is h =
        let O : IsLateOf x.cast l late = K.of_link in
        let b = both_of (has_settings (slice_get value.told late.source)) (not (is_changed late)) h in
        let t = V.told (giver_of x.cast l) (giver_within x.cast l W.cast_is O.below) in
        let B : IsBehind x.cast p (giver_of x.cast l) t.0 = t.2 in
        let s : slice_get value.told late.source ≡ Some t.0 = ap (slice_get value.told) O.source ∙ t.1 in
        let u : is_some (t.0).settings ≡ true = sym (ap has_settings s) ∙ b.0 in
        (B.settings l (record { below = O.below; given_by = refl }) O.late u, is_not (is_changed late) b.1)

  abbrev knows : KnowsChanges x.cast recent p value
  knows = record { conducting = V.conducting; carried = V.carried; running = where_may; ready = ready_is }

  pub old_changes : (next : ConductorValue) (component : ℕ) (step : ChangeStep) → Conducts value (phases.Change component step) next → (l : ℕ) × IsChangeOf x.cast p component step next l
  old_changes next component step C =
      let K = C.1 in
      let l = (L.each K.number K.late (K.due).there).0 in
      (l, subst (λ (y : ConductorValue). IsChangeOf x.cast p component step y l) (sym K.goes_on) (change_of x recent p w W value knows K.number K.late step K.due component K.its_source))

  -- ---- the next state

  -- where all sinks have ended, each late source has given all, so that its link is changed
  all_changed : p.phase ≡ 2 → ((c : ℕ) → c < components_of x.cast → ((x.cast).layout).is_sink c ≡ true → p.told c ≡ true) → IsUnbroken (x.cast).layout p
      → (l : ℕ) → l < links_of x.cast → ((x.cast).layout).is_late l ≡ true → ((p.change l).step ≤ 1) ⊎ IsChanged (p.change l)
  all_changed two T U l b t = elim (U l b t) [
    | inr C ↦ inr C
    | inl m ↦
        let K = (W.reached).changes l b in
        let z = (K.order).output_unsent m in
        let q = (K.quiet t (omega arith)).1 in
        let e = ended_from (x.cast).layout p W.reached two T (components_of x.cast) (giver_of x.cast l) (omega arith) (giver_within x.cast l W.cast_is b) in
        absurd cc
  ]

  pub begin_can : (state : State) → IsSendDue value state → CanAct (x.cast).layout p Act.Begin × (state ≡ target (p.phase + 1))
  begin_can state D =
      let n = next_state p.phase state (ap (slice_get all_states) (sym sends) ∙ D.next) in (
        record {
          more = n.0;
          all = last_all D.last;
          ends = all_ended;
          changes = λ two. all_changed two (all_ended two) (unbroken x recent p w W value knows D.none_half);
        },
        n.1,
      )
    where
      all_ended : p.phase ≡ 2 → (c : ℕ) → c < components_of x.cast → ((x.cast).layout).is_sink c ≡ true → p.told c ≡ true
      all_ended two c d s =
          let t = V.told c d in
          let B : IsBehind x.cast p c t.0 = t.2 in
          B.eos (over_at value.sinks value.told (script_place x.cast c) (((x.cast).layout).is_sink c) t.0 (D.sinks (sends ∙ two)) (((V.conducting).sinks).each c d) t.1 s)

  begun : (state : State) → IsSendDue value state → IsOld x.cast recent (acted (x.cast).layout Act.Begin p) (record value { sends = value.sends + 1 })
  begun state D = record {
    conducting = record {
      sinks = record { many = ((V.conducting).sinks).many; each = ((V.conducting).sinks).each };
      many = (V.conducting).many;
      lates = record {
        each = λ i late e. let r = L.each i late e in let K = r.1 in (r.0, record { of_link = K.of_link; way = K.way; told = K.told; disabled = K.disabled; latest = K.latest });
        some = λ l b t. let r = L.some l b t in let K = r.3 in (r.0, r.1, r.2, record { of_link = K.of_link; way = K.way; told = K.told; disabled = K.disabled; latest = K.latest });
        rising = L.rising;
      };
      sends = ap (λ (k : ℕ). k + 1) sends;
    };
    told = λ c d. let t = last_views D.last c d in (t.0, t.1, begun_behind x.cast (x.cast).layout p c t.0 t.2 t.3);
    carried = V.carried;
  }

  pub old_sends : (next : ConductorValue) (state : State) → Conducts value (phases.Send state) next
      → CanAct (x.cast).layout p Act.Begin × (state ≡ target (p.phase + 1)) × IsOld x.cast recent (acted (x.cast).layout Act.Begin p) next
  old_sends next state C =
      let b = begin_can state C.1 in
      (b.0, b.1, subst (λ (y : ConductorValue). IsOld x.cast recent (acted (x.cast).layout Act.Begin p) y) (sym C.2) (begun state C.1))

  -- ---- the end

  pub old_over : (next : ConductorValue) → Conducts value phases.Over next → IsOver (x.cast).layout p × (next ≡ value)
  old_over next C =
      let t = both_of (value.sends == 4) (all_told states.Loaded value.told) C.1 in
      let four : p.phase ≡ 4 = sym sends ∙ eqb-true _ _ t.0 in
      (record { phase = four; all = all_stages (omega arith) (ap (λ (k : ℕ). all_told (target k) value.told) four ∙ t.1) }, C.2)

  pub old_whole : (next : ConductorValue) → Conducts value phases.Failed next → ⊥
  old_whole next C = let f = not_failed in let t = C.0 in cc
