-- What the components have told, by the phase of the model, and how far the links of late sources are.
use Rattle.std.proofs.Common.{◌≡◌, ◌≢◌, ◌⊎◌, inl, inr, ℕ, zero, suc, ◌+◌, ◌<◌, ◌≤◌, Bool, true, false, not, ◌&&◌, ◌==◌, nat_le, nat_lt, is_some, List, [], ◌∷◌, slice_get, Option, Some, refl, sym, ◌∙◌, ap, subst, eqb-true, eq-eqb, leb-true, le-leb, lt-ltb, ltb-true, arith}
use Rattle.std.proofs.lemmas.Bool.{cases_eq}
use Rattle.std.proofs.lemmas.Option.{slice_get_within}
use Rattle.omx_types.specs.declared.state.State.{State}
use Rattle.omx_types.specs.declared.state.State.TheVariants as states
use Rattle.il_machine.specs.declared.answer.Progress.{Progress}
use Rattle.il_machine.specs.World.{World}
use Rattle.machine_laws.proofs.Accepting.{both_of, is_not}
use Rattle.machine_laws.proofs.Every.{all_pass, none_passes}
use Rattle.machine_laws.proofs.Finding.{either}
use Rattle.conductor.specs.declared.phase.LateLink.{LateLink}
use Rattle.conductor.specs.Hearing.{ConductorValue}
use Rattle.conductor.specs.Phases.{has_failed, has_half, has_settings, is_at, is_changed, is_half, is_ready, NoneBefore, all_told, all_at, all_states, last_told as all_last_told, may_change}
use Rattle.play_model.specs.Changes.{Change, IsChanged, IsInOrder}
use Rattle.play_model.specs.Play.{IsUnbroken, Play}
use Rattle.play_world_laws.specs.Cast.{components_of, giver_of, script_place}
use Rattle.play_world_laws.specs.Standing.{target}
use Rattle.play_world_laws.proofs.Resting.{all_true}
use Rattle.play_plan_laws.proofs.Conducting.{none_of, state_next, told_stage}
use Rattle.play_world_laws.specs.PlayWorlds.{HasHeard, IsPlayWorld, PlayCast}
use Rattle.play_turn_laws.specs.Conducting.{AreLates, HasHeardOf, IsCarriedOut, IsPlayConductor, IsLateOf}
use Rattle.play_turn_laws.proofs.Hearing.{both_enabled, giver_within, three_steps}

-- ---- steps

pub none_answered : (steps acts : ℕ) → IsCarriedOut steps acts → acts ≤ 2 → steps ≡ 0
none_answered zero acts C l = refl
none_answered (suc zero) acts C l = absurd (omega arith)
none_answered (suc (suc zero)) acts C l = absurd (omega arith)
none_answered (suc (suc (suc zero))) acts C l = absurd (omega arith)
none_answered (suc (suc (suc (suc n)))) acts C l = absurd C

all_answered : (steps acts : ℕ) → IsCarriedOut steps acts → acts ≡ 10 → steps ≡ 3
all_answered zero acts C l = absurd (omega arith)
all_answered (suc zero) acts C l = absurd (omega arith)
all_answered (suc (suc zero)) acts C l = absurd (omega arith)
all_answered (suc (suc (suc zero))) acts C l = refl
all_answered (suc (suc (suc (suc n)))) acts C l = absurd C

pub acts_none : (steps acts : ℕ) → IsCarriedOut steps acts → steps ≡ 0 → acts ≤ 2
acts_none zero acts C e = C
acts_none (suc n) acts C e = absurd (omega arith)

pub acts_one : (steps acts : ℕ) → IsCarriedOut steps acts → steps ≡ 1 → acts ≡ 4
acts_one zero acts C e = absurd (omega arith)
acts_one (suc zero) acts C e = C
acts_one (suc (suc n)) acts C e = absurd (omega arith)

pub acts_two : (steps acts : ℕ) → IsCarriedOut steps acts → steps ≡ 2 → acts ≡ 8
acts_two zero acts C e = absurd (omega arith)
acts_two (suc zero) acts C e = absurd (omega arith)
acts_two (suc (suc zero)) acts C e = C
acts_two (suc (suc (suc n))) acts C e = absurd (omega arith)

pub acts_three : (steps acts : ℕ) → IsCarriedOut steps acts → steps ≡ 3 → acts ≡ 10
acts_three zero acts C e = absurd (omega arith)
acts_three (suc zero) acts C e = absurd (omega arith)
acts_three (suc (suc zero)) acts C e = absurd (omega arith)
acts_three (suc (suc (suc zero))) acts C e = C
acts_three (suc (suc (suc (suc n)))) acts C e = absurd (omega arith)

-- ---- a link

pub half_begun : (late : LateLink) → is_half late ≡ true → (1 ≤ late.steps) × (is_changed late ≡ false)
half_begun late h = (let n = ltb-true 0 late.steps (both_of (nat_lt 0 late.steps) (not (is_changed late)) h).0 in omega arith, is_not (is_changed late) (both_of (nat_lt 0 late.steps) (not (is_changed late)) h).1)

pub begun_half : (late : LateLink) → 1 ≤ late.steps → is_changed late ≡ false → is_half late ≡ true
begun_half late l f = let b : nat_lt 0 late.steps ≡ true = lt-ltb 0 late.steps (omega arith) in λ i. b i && not (f i)

none_half : (late : LateLink) → (late.steps ≡ 0) ⊎ (is_changed late ≡ true) → is_half late ≡ false
none_half late (inl z) = rw z refl
none_half late (inr c) = rw c (nothing (nat_lt 0 late.steps))
  where
    nothing : (b : Bool) → (b && false) ≡ false
    nothing true = refl
    nothing false = refl

pub half_none : (late : LateLink) → is_half late ≡ false → (late.steps ≡ 0) ⊎ (is_changed late ≡ true)
half_none late f = elim (cases_eq late.steps 0) [
  | inl z ↦ inl z
  | inr n ↦ either (is_changed late) (λ t. inr t) (λ u. let h = begun_half late (some late.steps n) u in absurd cc)
]
  where
    some : (n : ℕ) → n ≢ 0 → 1 ≤ n
    some zero n = absurd (n refl)
    some (suc k) n = omega arith

-- ---- the first that passes a test, where one does

pub record FirstOf (test : LateLink → Bool) (lates : List LateLink) : Type 0 where
  pub at : ℕ
  pub entry : LateLink
  pub there : slice_get lates at ≡ Some entry
  pub passes : test entry ≡ true
  pub none_before : NoneBefore test lates at

first_here : (test : LateLink → Bool) (late : LateLink) (lates : List LateLink) → test late ≡ true → FirstOf test (late ∷ lates)
first_here test late lates h = record { at = 0; entry = late; there = refl; passes = h; none_before = λ k other b e. absurd (omega arith) }

first_behind : (test : LateLink → Bool) (late : LateLink) (lates : List LateLink) → test late ≡ false → FirstOf test lates → FirstOf test (late ∷ lates)
first_behind test late lates f F = record { at = suc F.at; entry = F.entry; there = F.there; passes = F.passes; none_before = none }
  where
    none : NoneBefore test (late ∷ lates) (suc F.at)
    none zero other b e = let same : late ≡ other = cc in ap test (sym same) ∙ f
    none (suc k) other b e = F.none_before k other (omega arith) e

pub first_of : (test : LateLink → Bool) (lates : List LateLink) (i : ℕ) (late : LateLink) → slice_get lates i ≡ Some late → test late ≡ true → FirstOf test lates
first_of test [] i late e h = absurd cc
first_of test (one ∷ lates) zero late e h = let same : one ≡ late = cc in first_here test one lates (ap test same ∙ h)
first_of test (one ∷ lates) (suc i) late e h = either (test one) (first_here test one lates) (λ f. first_behind test one lates f (first_of test lates i late e h))

module _ (x : PlayCast) (recent : ℕ) (p : Play) (w : World) (W : IsPlayWorld x recent p w) (value : ConductorValue) (V : IsPlayConductor x.cast recent p value) where
  abbrev L : AreLates x.cast recent p value.lates
  L = (V.conducting).lates

  -- ---- the components

  -- what it was told at a place
  pub told_at : (i : ℕ) (y : Progress) → slice_get value.told i ≡ Some y → (c : ℕ) × (c < components_of x.cast) × (script_place x.cast c ≡ i) × HasHeard x.cast recent p c y
  told_at i y e =
      let l = slice_get_within value.told i y e in
      let m = (V.conducting).many in
      let k = (W.cast_is).each i (omega arith) in
      let t = V.told k.0 k.1 in
      let s : Some t.0 ≡ Some y = sym t.1 ∙ (ap (slice_get value.told) k.2 ∙ e) in
      let is : t.0 ≡ y = cc in
      (k.0, k.1, k.2, subst (λ (z : Progress). HasHeard x.cast recent p k.0 z) is t.2)

  pub not_failed : has_failed value.told ≡ false
  not_failed = none_of (λ (y : Progress). is_some y.error) value.told (λ i y e. let k = told_at i y e in ap (λ (o : Option _). is_some o) (k.3).error)

  pub all_stages : 1 ≤ p.phase → all_told (target p.phase) value.told ≡ true → (c : ℕ) → c < components_of x.cast → p.stage c ≡ 4
  all_stages l h c d =
      let t = V.told c d in
      let one = all_pass (λ (y : Progress). is_at (target p.phase) y.state) value.told (script_place x.cast c) t.0 h t.1 in
      eqb-true _ _ (sym (told_stage p.phase (p.stage c) l (W.reached).phase ((W.reached).stage c d)) ∙ (sym (ap (is_at (target p.phase)) (t.2).state) ∙ one))

  pub stages_all : 1 ≤ p.phase → ((c : ℕ) → c < components_of x.cast → p.stage c ≡ 4) → all_told (target p.phase) value.told ≡ true
  stages_all l h = all_true (λ (y : Progress). is_at (target p.phase) y.state) value.told (λ i y e.
      let k = told_at i y e in
      ap (is_at (target p.phase)) (k.3).state ∙ (told_stage p.phase (p.stage k.0) l (W.reached).phase ((W.reached).stage k.0 k.1) ∙ eq-eqb (p.stage k.0) 4 (h k.0 k.1)))

  pub last_all : all_last_told value.sends value.told ≡ true → (c : ℕ) → c < components_of x.cast → p.stage c ≡ 4
  last_all h = by_phase p.phase refl (ap (λ (k : ℕ). all_last_told k value.told) (sym (V.conducting).sends) ∙ h)
    where
      by_phase : (phase : ℕ) → p.phase ≡ phase → all_last_told phase value.told ≡ true → (c : ℕ) → c < components_of x.cast → p.stage c ≡ 4
      by_phase zero e h = (W.reached).first e
      by_phase (suc k) e h =
          let r = (W.reached).phase in
          let s : slice_get all_states k ≡ Some (target (k + 1)) = state_next k (omega arith) in
          let same : k + 1 ≡ p.phase = omega arith in
          let t : all_told (target p.phase) value.told ≡ true = ap (λ (z : ℕ). all_told (target z) value.told) (sym same) ∙ (sym (ap (λ (o : Option State). all_at o value.told) s) ∙ h) in
          all_stages (omega arith) t

  pub all_last : ((c : ℕ) → c < components_of x.cast → p.stage c ≡ 4) → all_last_told value.sends value.told ≡ true
  all_last h = ap (λ (k : ℕ). all_last_told k value.told) (V.conducting).sends ∙ by_phase p.phase refl
    where
      by_phase : (phase : ℕ) → p.phase ≡ phase → all_last_told phase value.told ≡ true
      by_phase zero e = refl
      by_phase (suc k) e =
          let r = (W.reached).phase in
          let s : slice_get all_states k ≡ Some (target (k + 1)) = state_next k (omega arith) in
          let same : k + 1 ≡ p.phase = omega arith in
          ap (λ (o : Option State). all_at o value.told) s ∙ (ap (λ (z : ℕ). all_told (target z) value.told) same ∙ stages_all (omega arith) h)

  -- a change may be begun, or go on, while all are Executing
  pub may_where : p.phase ≡ 2 → ((c : ℕ) → c < components_of x.cast → p.stage c ≡ 4) → may_change value ≡ true
  may_where two h =
      let a : (value.sends == 2) ≡ true = eq-eqb value.sends 2 ((V.conducting).sends ∙ two) in
      let b : all_told states.Executing value.told ≡ true = sym (ap (λ (k : ℕ). all_told (target k) value.told) two) ∙ stages_all (omega arith) h in
      λ i. a i && b i

  pub where_may : may_change value ≡ true → (p.phase ≡ 2) × ((c : ℕ) → c < components_of x.cast → p.stage c ≡ 4)
  where_may h =
      let t = both_of (value.sends == 2) (all_told states.Executing value.told) h in
      let two : p.phase ≡ 2 = sym (V.conducting).sends ∙ eqb-true _ _ t.0 in
      (two, all_stages (omega arith) (ap (λ (k : ℕ). all_told (target k) value.told) two ∙ t.1))

  -- ---- the links

  module _ (i l : ℕ) (late : LateLink) (e : slice_get value.lates i ≡ Some late) (O : IsLateOf x.cast l late) where
    abbrev k : Change
    k = p.change l

    pub flags : HasHeardOf k late
    flags = V.heard i l late e O

    pub answered : IsCarriedOut late.steps k.step
    answered = V.carried i l late e O

    pub ordered : IsInOrder k
    ordered = ((W.reached).changes l O.below).order

    pub changed_is : is_changed late ≡ true → IsChanged k
    changed_is h =
        let b = both_enabled late h in
        let o = leb-true 8 k.output (sym flags.output_enabled ∙ b.0) in
        let j = leb-true 8 k.input (sym flags.input_enabled ∙ b.1) in
        let m = ordered.outputs in
        let n = ordered.inputs in
        (acts_three late.steps k.step answered (three_steps late h), omega arith, omega arith)

    pub is_changed_so : IsChanged k → is_changed late ≡ true
    is_changed_so C =
        let s : (late.steps == 3) ≡ true = eq-eqb late.steps 3 (all_answered late.steps k.step answered C.0) in
        let o : late.output_enabled ≡ true = flags.output_enabled ∙ ap (nat_le 8) C.1 in
        let j : late.input_enabled ≡ true = flags.input_enabled ∙ ap (nat_le 8) C.2 in
        rw (s, o, j) refl

    pub half_is : is_half late ≡ false → (k.step ≤ 2) ⊎ IsChanged k
    half_is f = elim (half_none late f) [ inl z ↦ inl (acts_none late.steps k.step answered z) | inr c ↦ inr (changed_is c) ]

    pub is_half_so : (k.step ≤ 2) ⊎ IsChanged k → is_half late ≡ false
    is_half_so (inl m) = none_half late (inl (none_answered late.steps k.step answered m))
    is_half_so (inr C) = none_half late (inr (is_changed_so C))

    -- its source's settings are heard
    pub settings_are : has_settings (slice_get value.told late.source) ≡ nat_le 2 k.step
    settings_are =
        let t = V.told (giver_of x.cast l) (giver_within x.cast l W.cast_is O.below) in
        let s : slice_get value.told late.source ≡ Some t.0 = ap (slice_get value.told) O.source ∙ t.1 in
        ap has_settings s ∙ (t.2).settings l (record { below = O.below; given_by = refl }) O.late

    pub ready_is : is_ready value.told late ≡ true → (2 ≤ k.step) × (is_changed late ≡ false)
    ready_is h =
        let b = both_of (has_settings (slice_get value.told late.source)) (not (is_changed late)) h in
        (leb-true 2 k.step (sym settings_are ∙ b.0), is_not (is_changed late) b.1)

    pub is_ready_so : 2 ≤ k.step → is_changed late ≡ false → is_ready value.told late ≡ true
    is_ready_so m f =
        let s : has_settings (slice_get value.told late.source) ≡ true = settings_are ∙ le-leb 2 k.step m in
        λ j. s j && not (f j)

    pub unchanged_so : k.step ≤ 2 → is_changed late ≡ false
    unchanged_so m = either (is_changed late) (λ t. let c = changed_is t in let z = c.0 in absurd (omega arith)) (λ f. f)

  -- ---- all links

  pub unbroken : has_half value.lates ≡ false → IsUnbroken (x.cast).layout p
  unbroken h l b t =
      let r = L.some l b t in
      half_is r.0 l r.1 r.2 (r.3).of_link (none_passes is_half value.lates r.0 r.1 h r.2)

  pub none_half_so : IsUnbroken (x.cast).layout p → has_half value.lates ≡ false
  none_half_so U = none_of is_half value.lates (λ i late e.
      let r = L.each i late e in
      let O = (r.1).of_link in
      is_half_so i r.0 late e O (U r.0 O.below O.late))
