-- The steps of a change that a conductor answers, by what it knows at the least.
use Rattle.std.proofs.Common.{◌≡◌, ◌≢◌, ◌⊎◌, inl, inr, ℕ, zero, suc, ◌+◌, ◌<◌, ◌≤◌, true, false, slice_get, Some, refl, sym, ◌∙◌, ap, subst, arith}
use Rattle.std.proofs.lemmas.Bool.{cases_eq}
use Rattle.std.specs.Prelude.{slice_set}
use Rattle.il_machine.specs.World.{World}
use Rattle.machine_laws.proofs.Accepting.{both_of}
use Rattle.machine_laws.proofs.Every.{at_set, none_passes, set_else, set_there}
use Rattle.conductor.specs.declared.phase.ChangeStep.{ChangeStep}
use Rattle.conductor.specs.declared.phase.ChangeStep.TheVariants.{Disable, Retune, Enable}
use Rattle.conductor.specs.declared.phase.LateLink.{LateLink}
use Rattle.conductor.specs.Hearing.{ConductorValue}
use Rattle.conductor.specs.Phases.{IsChangeDue, IsStep, has_half, is_changed, is_disabled, is_half, is_ready, may_change, one_step_more}
use Rattle.play_model.specs.Acts.{Act, CanAct}
use Rattle.play_model.specs.Changes.{Change, IsChanged, IsInOrder}
use Rattle.play_model.specs.Play.{IsUnbroken, Play}
use Rattle.play_world_laws.specs.Cast.{Cast, components_of}
use Rattle.play_world_laws.specs.PlayWorlds.{IsPlayWorld, PlayCast}
use Rattle.play_turn_laws.specs.Conducting.{AreCarriedOut, AreLates, IsCarriedOut, IsChangeOf, IsLateAt, IsLateOf, IsPlayConducting, IsUnderWay, step_from, step_to}
use Rattle.play_turn_laws.proofs.Hearing.{both_enabled, of_same, one_link, three_steps}
use Rattle.play_turn_laws.proofs.Keeping.{one_entry, same_source}
use Rattle.play_turn_laws.proofs.Standing.{acts_none, acts_one, acts_three, acts_two, begun_half, half_begun, half_none, none_answered}

-- ---- the steps

-- before a step, and with it answered
way_from : (step : ChangeStep) (steps acts : ℕ) → IsCarriedOut steps acts → acts ≡ step_from step → IsUnderWay (steps + 1) acts
way_from Disable zero acts C e = (omega arith, omega arith)
way_from Retune zero acts C e = absurd (omega arith)
way_from Enable zero acts C e = absurd (omega arith)
way_from Disable (suc zero) acts C e = absurd (omega arith)
way_from Retune (suc zero) acts C e = (omega arith, omega arith)
way_from Enable (suc zero) acts C e = absurd (omega arith)
way_from Disable (suc (suc zero)) acts C e = absurd (omega arith)
way_from Retune (suc (suc zero)) acts C e = absurd (omega arith)
way_from Enable (suc (suc zero)) acts C e = (omega arith, omega arith)
way_from Disable (suc (suc (suc zero))) acts C e = absurd (omega arith)
way_from Retune (suc (suc (suc zero))) acts C e = absurd (omega arith)
way_from Enable (suc (suc (suc zero))) acts C e = absurd (omega arith)
way_from step (suc (suc (suc (suc n)))) acts C e = absurd C

-- and until it is carried out
way_on : (step : ChangeStep) (steps was : ℕ) → IsCarriedOut steps was → was ≡ step_from step → (acts : ℕ) → step_from step ≤ acts → acts ≤ step_to step → IsUnderWay (steps + 1) acts
way_on Disable zero was C e acts l m = (omega arith, omega arith)
way_on Disable (suc zero) was C e acts l m = absurd (omega arith)
way_on Disable (suc (suc zero)) was C e acts l m = absurd (omega arith)
way_on Disable (suc (suc (suc zero))) was C e acts l m = absurd (omega arith)
way_on Retune zero was C e acts l m = absurd (omega arith)
way_on Retune (suc zero) was C e acts l m = (omega arith, omega arith)
way_on Retune (suc (suc zero)) was C e acts l m = absurd (omega arith)
way_on Retune (suc (suc (suc zero))) was C e acts l m = absurd (omega arith)
way_on Enable zero was C e acts l m = absurd (omega arith)
way_on Enable (suc zero) was C e acts l m = absurd (omega arith)
way_on Enable (suc (suc zero)) was C e acts l m = (omega arith, omega arith)
way_on Enable (suc (suc (suc zero))) was C e acts l m = absurd (omega arith)
way_on step (suc (suc (suc (suc n)))) was C e acts l m = absurd C

-- and once it is
out_to : (step : ChangeStep) (steps was acts : ℕ) → IsCarriedOut steps was → was ≡ step_from step → acts ≡ step_to step → IsCarriedOut (steps + 1) acts
out_to Disable zero was acts C e f = f
out_to Retune zero was acts C e f = absurd (omega arith)
out_to Enable zero was acts C e f = absurd (omega arith)
out_to Disable (suc zero) was acts C e f = absurd (omega arith)
out_to Retune (suc zero) was acts C e f = f
out_to Enable (suc zero) was acts C e f = absurd (omega arith)
out_to Disable (suc (suc zero)) was acts C e f = absurd (omega arith)
out_to Retune (suc (suc zero)) was acts C e f = absurd (omega arith)
out_to Enable (suc (suc zero)) was acts C e f = f
out_to Disable (suc (suc (suc zero))) was acts C e f = absurd (omega arith)
out_to Retune (suc (suc (suc zero))) was acts C e f = absurd (omega arith)
out_to Enable (suc (suc (suc zero))) was acts C e f = absurd (omega arith)
out_to step (suc (suc (suc (suc n)))) was acts C e f = absurd C

-- ---- what it knows

-- Each step that it answered is carried out; where it may change links, and where a source is ready, that is so.
pub record KnowsChanges (cast : Cast) (recent : ℕ) (play : Play) (value : ConductorValue) : Type 0 where
  pub conducting : IsPlayConducting cast recent play value
  pub carried : AreCarriedOut cast play value.lates
  pub running : may_change value ≡ true → (play.phase ≡ 2) × ((c : ℕ) → c < components_of cast → play.stage c ≡ 4)
  pub ready : (i l : ℕ) (late : LateLink) → slice_get value.lates i ≡ Some late → IsLateAt cast recent play l late → is_ready value.told late ≡ true → (2 ≤ (play.change l).step) × (is_changed late ≡ false)

module _ (x : PlayCast) (recent : ℕ) (p : Play) (w : World) (W : IsPlayWorld x recent p w) (value : ConductorValue) (V : KnowsChanges x.cast recent p value) where
  abbrev L : AreLates x.cast recent p value.lates
  L = (V.conducting).lates

  -- ---- the links

  module _ (i l : ℕ) (late : LateLink) (e : slice_get value.lates i ≡ Some late) (K : IsLateAt x.cast recent p l late) where
    abbrev k : Change
    k = p.change l

    answered : IsCarriedOut late.steps k.step
    answered = V.carried i l late e K.of_link

    ordered : IsInOrder k
    ordered = ((W.reached).changes l (K.of_link).below).order

    changed_is : is_changed late ≡ true → IsChanged k
    changed_is h =
        let b = both_enabled late h in
        let o = (K.told).output_enabled b.0 in
        let j = (K.told).input_enabled b.1 in
        let m = ordered.outputs in
        let n = ordered.inputs in
        (acts_three late.steps k.step answered (three_steps late h), omega arith, omega arith)

    half_is : is_half late ≡ false → (k.step ≤ 2) ⊎ IsChanged k
    half_is f = elim (half_none late f) [ inl z ↦ inl (acts_none late.steps k.step answered z) | inr c ↦ inr (changed_is c) ]

  pub unbroken : has_half value.lates ≡ false → IsUnbroken (x.cast).layout p
  unbroken h l b t =
      let r = L.some l b t in
      half_is r.0 l r.1 r.2 r.3 (none_passes is_half value.lates r.0 r.1 h r.2)

  -- ---- a step that is answered

  module _ (number : ℕ) (late : LateLink) (step : ChangeStep) (D : IsChangeDue value number late step) where
    abbrev l : ℕ
    l = (L.each number late D.there).0

    K : IsLateAt x.cast recent p l late
    K = (L.each number late D.there).1

    O : IsLateOf x.cast l late
    O = K.of_link

    running : (p.phase ≡ 2) × ((c : ℕ) → c < components_of x.cast → p.stage c ≡ 4)
    running = V.running D.now

    out : IsCarriedOut late.steps (p.change l).step
    out = answered number l late D.there K

    order : IsInOrder (p.change l)
    order = ordered number l late D.there K

    abbrev next : ConductorValue
    next = record value { lates = slice_set value.lates number (one_step_more late) }

    -- the others that aren't known to be changed: none, or this one
    others : (j k : ℕ) (other : LateLink) → slice_get value.lates j ≡ Some other → IsLateAt x.cast recent p k other → 1 ≤ other.steps → is_changed other ≡ false → k ≡ l
    others j k other f M m u = by_step step D.due
      where
        by_step : (step : ChangeStep) → IsStep value.told value.lates number late step → k ≡ l
        by_step Disable S = let h = none_passes is_half value.lates j other S.0 f in let g = begun_half other m u in absurd cc
        by_step Retune S = let b = half_begun late S.0 in M.latest m u ∙ sym (K.latest b.0 b.1)
        by_step Enable S = let b = half_begun late S.0 in M.latest m u ∙ sym (K.latest b.0 b.1)

    pub from : (p.change l).step ≡ step_from step
    from = by_step step D.due
      where
        by_step : (step : ChangeStep) → IsStep value.told value.lates number late step → (p.change l).step ≡ step_from step
        by_step Disable S =
            let r = V.ready number l late D.there K S.1 in
            let m = r.0 in
            elim (half_none late (none_passes is_half value.lates number late S.0 D.there)) [
              | inl z ↦ let n = acts_none late.steps (p.change l).step out z in omega arith
              | inr t ↦ let f = r.1 in absurd cc
            ]
        by_step Retune S = acts_one late.steps (p.change l).step out S.2
        by_step Enable S = acts_two late.steps (p.change l).step out S.2

    can : CanAct (x.cast).layout p (Act.Conduct l)
    can = by_step step D.due from
      where
        by_step : (step : ChangeStep) → IsStep value.told value.lates number late step → (p.change l).step ≡ step_from step → CanAct (x.cast).layout p (Act.Conduct l)
        by_step Disable S e = record {
          below = O.below;
          late = O.late;
          told = omega arith;
          more = omega arith;
          next = λ two. record { phase = running.0; all = running.1; unbroken = unbroken S.0 };
          disabled = λ four. absurd (omega arith);
        }
        by_step Retune S e =
            let b = both_of late.output_disabled late.input_disabled S.3 in
            let o = (K.told).output_disabled b.0 in
            let i = (K.told).input_disabled b.1 in
            let m = order.output_waits (omega arith) in
            let n = order.input_waits (omega arith) in
            record {
              below = O.below;
              late = O.late;
              told = omega arith;
              more = omega arith;
              next = λ two. absurd (omega arith);
              disabled = λ four. (omega arith, omega arith);
            }
        by_step Enable S e = record {
          below = O.below;
          late = O.late;
          told = omega arith;
          more = omega arith;
          next = λ two. absurd (omega arith);
          disabled = λ four. absurd (omega arith);
        }

    -- ---- what is known then

    disabled_more : 2 ≤ late.steps + 1 → is_disabled late ≡ true
    disabled_more m = by_step step D.due from
      where
        by_step : (step : ChangeStep) → IsStep value.told value.lates number late step → (p.change l).step ≡ step_from step → is_disabled late ≡ true
        by_step Disable S e = let z = none_answered late.steps (p.change l).step out (omega arith) in absurd (omega arith)
        by_step Retune S e = S.3
        by_step Enable S e = let z = S.2 in K.disabled (omega arith)

    here : IsLateAt x.cast l p l (one_step_more late)
    here = record {
      of_link = of_same x.cast l late (one_step_more late) refl refl refl O;
      way = way_from step late.steps (p.change l).step out from;
      told = record { output_disabled = (K.told).output_disabled; input_disabled = (K.told).input_disabled; output_enabled = (K.told).output_enabled; input_enabled = (K.told).input_enabled };
      disabled = disabled_more;
      latest = λ m f. refl;
    }

    there : (j k : ℕ) (other : LateLink) → slice_get value.lates j ≡ Some other → IsLateAt x.cast recent p k other → IsLateAt x.cast l p k other
    there j k other f M = record { of_link = M.of_link; way = M.way; told = M.told; disabled = M.disabled; latest = others j k other f M }

    -- each source is the same
    source_at : (i : ℕ) (a : LateLink) → slice_get next.lates i ≡ Some a → (b : LateLink) × (slice_get value.lates i ≡ Some b) × (b.source ≡ a.source)
    source_at i a e = elim (at_set value.lates number i (one_step_more late) a e) [
      | inl h ↦ (late, ap (slice_get value.lates) h.0 ∙ D.there, ap (λ (y : LateLink). y.source) (sym h.1))
      | inr h ↦ (a, h.1, refl)
    ]

    lates_next : AreLates x.cast l p next.lates
    lates_next = record {
      each = λ i other e. elim (at_set value.lates number i (one_step_more late) other e) [
        | inl h ↦ (l, subst (λ (y : LateLink). IsLateAt x.cast l p l y) (sym h.1) here)
        | inr h ↦ let r = L.each i other h.1 in (r.0, there i r.0 other h.1 r.1)
      ];
      some = λ k b t.
          let r = L.some k b t in
          elim (cases_eq r.0 number) [
            | inl e ↦
                let s : Some r.1 ≡ Some late = sym r.2 ∙ (ap (slice_get value.lates) e ∙ D.there) in
                let same : r.1 ≡ late = cc in
                let is : k ≡ l = one_link x.cast k l r.1 late W.cast_is (r.3).of_link O (ap (λ (y : LateLink). y.source) same) in
                (number, one_step_more late, set_there value.lates number late (one_step_more late) D.there, subst (λ (m : ℕ). IsLateAt x.cast l p m (one_step_more late)) (sym is) here)
            | inr n ↦ (r.0, r.1, set_else value.lates number r.0 (one_step_more late) n ∙ r.2, there r.0 k r.1 r.2 r.3)
          ];
      rising = λ i j a b h e f.
          let c = source_at i a e in
          let d = source_at j b f in
          let r = L.rising i j c.0 d.0 h c.1 d.1 in
          let m = c.2 in
          let n = d.2 in
          omega arith;
    }

    carried_next : (q : Play) → (q.change l).step ≡ step_to step → ((k : ℕ) → k ≢ l → (q.change k).step ≡ (p.change k).step) → AreCarriedOut x.cast q next.lates
    carried_next q to same i k other e N = elim (at_set value.lates number i (one_step_more late) other e) [
      | inl h ↦
          let is : k ≡ l = one_link x.cast k l other late W.cast_is N O (ap (λ (y : LateLink). y.source) h.1) in
          let now : IsCarriedOut (late.steps + 1) (q.change k).step = out_to step late.steps (p.change l).step (q.change k).step out from (ap (λ (m : ℕ). (q.change m).step) is ∙ to) in
          subst (λ (y : LateLink). IsCarriedOut y.steps (q.change k).step) (sym h.1) now
      | inr h ↦
          let apart : k ≢ l = λ s. h.0 (one_entry x.cast recent p value.lates L i number other late h.1 D.there (same_source x.cast k l other late N O s)).0 in
          subst (λ (m : ℕ). IsCarriedOut other.steps m) (sym (same k apart)) (V.carried i k other h.1 N)
    ]

    pub change_of : (component : ℕ) → component ≡ late.source → IsChangeOf x.cast p component step next l
    change_of component s = record {
      can = can;
      its_source = s ∙ O.source;
      from = from;
      conducting = record { sinks = record { many = ((V.conducting).sinks).many; each = ((V.conducting).sinks).each }; many = (V.conducting).many; lates = lates_next; sends = (V.conducting).sends };
      number = number;
      known = one_step_more late;
      there = set_there value.lates number late (one_step_more late) D.there;
      of_link = here.of_link;
      way = way_on step late.steps (p.change l).step out from;
      carried = carried_next;
    }
