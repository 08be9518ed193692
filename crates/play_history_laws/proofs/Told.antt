-- What the clients have heard says how far the play is.
use Rattle.std.proofs.Common.{◌≡◌, ◌⊎◌, inl, inr, ℕ, zero, suc, ◌<◌, ◌≤◌, Bool, true, false, Option, Some, None, is_some, refl, sym, ◌∙◌, ap, subst, leb-true, arith}
use Rattle.std.proofs.lemmas.Bool.{cases_eq}
use Rattle.omx_types.specs.declared.command.Completion.TheVariants as completions
use Rattle.il_machine.specs.declared.answer.Progress.{Progress}
use Rattle.il_machine.specs.World.{World}
use Rattle.play_model.specs.Acts.{Act, CanAct}
use Rattle.play_model.specs.Changes.{IsChanged, IsInOrder, port_at}
use Rattle.play_model.specs.Play.{Play, component_at}
use Rattle.play_world_laws.specs.Cast.{components_of, giver_of, links_of}
use Rattle.play_world_laws.specs.Standing.{target}
use Rattle.play_world_laws.specs.Telling.{heard, last_told}
use Rattle.play_world_laws.specs.PlayWorlds.{HasHeard, IsPlayWorld, PlayCast, port_number}
use Rattle.play_world_laws.proofs.ChangeEnds.{actor_there, end_inside}
use Rattle.play_history_laws.specs.Following.{Follows, IsTurn}
use Rattle.play_history_laws.specs.Order.{BothHaveTold, Cursor, EachHasHeard, HasHeardOf, IsDone, IsDoneBy, IsStateTold}

-- ---- the state that was told last

told_four : (n s : ℕ) → n ≤ 3 → s ≤ 4 → last_told (suc n) s ≡ Some (target (suc n)) → s ≡ 4
told_four zero zero a b e = absurd cc
told_four zero (suc zero) a b e = absurd cc
told_four zero (suc (suc zero)) a b e = absurd cc
told_four zero (suc (suc (suc zero))) a b e = absurd cc
told_four (suc zero) zero a b e = absurd cc
told_four (suc zero) (suc zero) a b e = absurd cc
told_four (suc zero) (suc (suc zero)) a b e = absurd cc
told_four (suc zero) (suc (suc (suc zero))) a b e = absurd cc
told_four (suc (suc zero)) zero a b e = absurd cc
told_four (suc (suc zero)) (suc zero) a b e = absurd cc
told_four (suc (suc zero)) (suc (suc zero)) a b e = absurd cc
told_four (suc (suc zero)) (suc (suc (suc zero))) a b e = absurd cc
told_four (suc (suc (suc zero))) zero a b e = absurd cc
told_four (suc (suc (suc zero))) (suc zero) a b e = absurd cc
told_four (suc (suc (suc zero))) (suc (suc zero)) a b e = absurd cc
told_four (suc (suc (suc zero))) (suc (suc (suc zero))) a b e = absurd cc
told_four (suc (suc (suc (suc n)))) s a b e = absurd (omega (arith, a))
told_four n (suc (suc (suc (suc zero)))) a b e = refl
told_four n (suc (suc (suc (suc (suc s))))) a b e = absurd (omega (arith, b))

-- ---- in a world

module _ (x : PlayCast) (recent : ℕ) (p : Play) (w : World) (W : IsPlayWorld x recent p w) where
  -- of a component: what its client has heard
  pub record IsHeard (c : ℕ) (P : Progress → Type 0) : Type 0 where
    pub progress : Progress
    pub holds : P progress
    pub so : HasHeard x.cast recent p c progress

  pub hears : (c : ℕ) (P : Progress → Type 0) → c < components_of x.cast → HasHeardOf x.cast w c P → IsHeard c P
  hears c P b h =
      let t = actor_there x recent p w c W b in
      record { progress = heard w t.0; holds = h t.0 t.1; so = (t.2).heard_so }

  -- both ends have told that the enable is done
  enabled_end : (l : ℕ) → l < links_of x.cast → ((x.cast).layout).is_late l ≡ true → BothHaveTold x.cast w (λ port. completions.Enable port) l → (o : Bool) → 8 ≤ port_at o (p.change l)
  enabled_end l b t T o =
      let H = hears (component_at (x.cast).layout o l) (λ h. h.port ≡ Some (completions.Enable (port_number x.cast o l))) (end_inside x recent p w W o l b) (T o) in
      ((H.so).past o l b refl t).1 H.holds

  disabled_end : (l : ℕ) → l < links_of x.cast → ((x.cast).layout).is_late l ≡ true → BothHaveTold x.cast w (λ port. completions.Disable port) l → (o : Bool) → 4 ≤ port_at o (p.change l)
  disabled_end l b t T o =
      let H = hears (component_at (x.cast).layout o l) (λ h. h.port ≡ Some (completions.Disable (port_number x.cast o l))) (end_inside x recent p w W o l b) (T o) in
      ((H.so).past o l b refl t).0 H.holds

  ordered : (l : ℕ) → l < links_of x.cast → IsInOrder (p.change l)
  ordered l b = ((W.reached).changes l b).order

  pub all_enabled : (l : ℕ) → l < links_of x.cast → ((x.cast).layout).is_late l ≡ true → (p.change l).step ≡ 10 → BothHaveTold x.cast w (λ port. completions.Enable port) l → IsChanged (p.change l)
  all_enabled l b t e T =
      let O = ordered l b in
      let a = enabled_end l b t T true in
      let c = enabled_end l b t T false in
      let d = O.outputs in
      let f = O.inputs in
      (e, omega (arith, a, d), omega (arith, c, f))

  pub both_disabled : (l : ℕ) → l < links_of x.cast → ((x.cast).layout).is_late l ≡ true → (p.change l).step ≤ 8 → BothHaveTold x.cast w (λ port. completions.Disable port) l → ((p.change l).output ≡ 4) × ((p.change l).input ≡ 4)
  both_disabled l b t e T =
      let O = ordered l b in
      let a = disabled_end l b t T true in
      let c = disabled_end l b t T false in
      let d = O.output_waits e in
      let f = O.input_waits (omega (arith, e)) in
      (omega (arith, a, d), omega (arith, c, f))

  -- what was told of the settings
  pub announced_two : (l : ℕ) → l < links_of x.cast → ((x.cast).layout).is_late l ≡ true → HasHeardOf x.cast w (giver_of x.cast l) (λ h. is_some h.settings ≡ true) → 2 ≤ (p.change l).step
  announced_two l b t h =
      let H = hears (giver_of x.cast l) (λ h. is_some h.settings ≡ true) (end_inside x recent p w W true l b) h in
      leb-true 2 (p.change l).step (sym ((H.so).settings l (record { below = b; given_by = refl }) t) ∙ H.holds)

  module _ (k : Cursor) (F : Follows x.cast k recent p) where
    -- ---- what was asked last is done

    state_told : (n : ℕ) → k.phase ≡ n → n ≤ 4 → IsStateTold x.cast w n → (c : ℕ) → c < components_of x.cast → p.stage c ≡ 4
    state_told zero e m T c b = (W.reached).first (F.phase ∙ e) c b
    state_told (suc n) e m T c b =
        let H = hears c (λ h. h.state ≡ Some (target (suc n))) b (T c b) in
        let s : last_told (suc n) (p.stage c) ≡ Some (target (suc n)) = ap (λ (i : ℕ). last_told i (p.stage c)) (sym (F.phase ∙ e)) ∙ (sym (H.so).state ∙ H.holds) in
        told_four n (p.stage c) (omega (arith, m)) ((W.reached).stage c b) s

    all_told_by : (o : Option ℕ) → k.phase < 4 → IsDoneBy x.cast k w o → IsTurn x.cast k recent p o → (c : ℕ) → c < components_of x.cast → p.stage c ≡ 4
    all_told_by None m D T = state_told k.phase refl (omega (arith, m)) D
    all_told_by (Some l) m D T = T.5

    pub all_told : k.phase < 4 → IsDone x.cast k w → (c : ℕ) → c < components_of x.cast → p.stage c ≡ 4
    all_told m D = all_told_by k.changing m D.told F.turn

    -- each link is as it was, or is changed
    links_done_by : (o : Option ℕ) → IsDoneBy x.cast k w o → IsTurn x.cast k recent p o → (l : ℕ) → l < links_of x.cast → ((x.cast).layout).is_late l ≡ true → (k.made l ≡ 0) ⊎ IsChanged (p.change l)
    links_done_by None D T l b t = T l b t
    links_done_by (Some j) D T l b t = elim (cases_eq l j) [
      | inl e ↦
          let made : k.made l ≡ 8 = ap k.made e ∙ D.0 in
          let s = F.some l b t (omega (arith, made)) in
          inr (all_enabled l b t (omega (arith, s, made)) (subst (λ (i : ℕ). BothHaveTold x.cast w (λ port. completions.Enable port) i) (sym e) D.1))
      | inr n ↦ T.6 l b t n
    ]

    pub links_done : IsDone x.cast k w → (l : ℕ) → l < links_of x.cast → ((x.cast).layout).is_late l ≡ true → (k.made l ≡ 0) ⊎ IsChanged (p.change l)
    links_done D = links_done_by k.changing D.told F.turn

    -- ---- what the model can then

    pub can_begin : k.phase < 4 → IsDone x.cast k w → (k.phase ≡ 2 → (l : ℕ) → l < links_of x.cast → ((x.cast).layout).is_late l ≡ true → k.made l ≡ 8)
        → (k.phase ≡ 2 → EachHasHeard x.cast w (λ c h. ((x.cast).layout).is_sink c ≡ true → h.eos ≡ true)) → CanAct (x.cast).layout p Act.Begin
    can_begin m D made ends = record {
      more = (let e = F.phase in omega (arith, e, m));
      all = all_told m D;
      ends = λ e c b s.
          let H = hears c (λ h. ((x.cast).layout).is_sink c ≡ true → h.eos ≡ true) b (ends (sym F.phase ∙ e) c b) in
          sym (H.so).eos ∙ H.holds s;
      changes = λ e l b t. elim (links_done D l b t) [
        | inl z ↦ let y = made (sym F.phase ∙ e) l b t in absurd (omega (arith, z, y))
        | inr C ↦ inr C
      ];
    }

    pub can_change : (l : ℕ) → k.phase ≡ 2 → IsDone x.cast k w → l < links_of x.cast → ((x.cast).layout).is_late l ≡ true → k.made l ≡ 0 → HasHeardOf x.cast w (giver_of x.cast l) (λ h. is_some h.settings ≡ true)
        → CanAct (x.cast).layout p (Act.Conduct l) × ((p.change l).step ≡ 2)
    can_change l two D b t none told =
        let more = announced_two l b t told in
        let few = F.few l b t none in (
          record {
            below = b;
            late = t;
            told = more;
            more = omega (arith, few);
            next = λ e. record {
              phase = F.phase ∙ two;
              all = all_told (omega (arith, two)) D;
              unbroken = λ j c u. elim (links_done D j c u) [ inl z ↦ inl (F.few j c u z) | inr C ↦ inr C ];
            };
            disabled = λ e. absurd (omega (arith, few, e));
          },
          omega (arith, more, few),
        )

    pub can_change_on : (l : ℕ) → l < links_of x.cast → ((x.cast).layout).is_late l ≡ true → 1 ≤ k.made l → k.made l < 8 → (k.made l ≡ 2 → BothHaveTold x.cast w (λ port. completions.Disable port) l) → CanAct (x.cast).layout p (Act.Conduct l)
    can_change_on l b t one more told =
        let s = F.some l b t one in
        record {
          below = b;
          late = t;
          told = omega (arith, s);
          more = omega (arith, s, more);
          next = λ e. absurd (omega (arith, s, e, one));
          disabled = λ e. both_disabled l b t (omega (arith, e)) (told (omega (arith, s, e)));
        }
