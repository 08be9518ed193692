-- The states that a conductor sends, and its end, by the model's phases.
use Rattle.std.proofs.Common.{◌≡◌, ◌⊎◌, inl, inr, ℕ, zero, suc, ◌+◌, ◌<◌, ◌≤◌, Bool, true, false, ◌&&◌, ◌==◌, slice_get, Some, refl, sym, ◌∙◌, ap, subst, eqb-true, eq-eqb, arith}
use Rattle.std.proofs.lemmas.Bool.{cases_eq}
use Rattle.std.specs.List.{list_any}
use Rattle.omx_types.specs.declared.state.State.{State}
use Rattle.omx_types.specs.declared.state.State.TheVariants as states
use Rattle.il_machine.specs.World.{World}
use Rattle.machine_laws.proofs.Accepting.{both_of}
use Rattle.machine_laws.proofs.Every.{none_passes}
use Rattle.machine_laws.proofs.Finding.{either}
use Rattle.conductor.specs.declared.phase.Phase.TheVariants as phases
use Rattle.conductor.specs.Hearing.{ConductorValue}
use Rattle.conductor.specs.Phases.{Conducts, IsSendDue, all_states, all_told, is_over, is_ready, may_change}
use Rattle.play_model.specs.Acts.{Act, CanAct, acted}
use Rattle.play_model.specs.Changes.{IsChanged}
use Rattle.play_model.specs.Play.{IsUnbroken, Play}
use Rattle.play_model.specs.Reached.{IsOver}
use Rattle.play_world_laws.specs.Cast.{links_of, script_place}
use Rattle.play_world_laws.specs.Standing.{target}
use Rattle.play_plan_laws.proofs.Conducting.{at_over, next_state, none_of, over_at, state_next}
use Rattle.play_world_laws.specs.PlayWorlds.{IsPlayWorld, PlayCast}
use Rattle.play_turn_laws.specs.Conducting.{AreLates, IsPlayConducting, IsPlayConductor}
use Rattle.play_turn_laws.proofs.Standing.{all_last, all_stages, is_changed_so, is_ready_so, last_all, may_where, none_half_so, not_failed, ready_is, stages_all, told_at, unbroken, unchanged_so, where_may}

module _ (x : PlayCast) (recent : ℕ) (p : Play) (w : World) (W : IsPlayWorld x recent p w) (value : ConductorValue) (V : IsPlayConductor x.cast recent p value) where
  abbrev L : AreLates x.cast recent p value.lates
  L = (V.conducting).lates

  abbrev sends : value.sends ≡ p.phase
  sends = (V.conducting).sends

  -- ---- the next state

  -- no late source whose link isn't changed has told its settings
  untold_or_changed : IsUnbroken (x.cast).layout p → list_any (is_ready value.told) value.lates ≡ false → (l : ℕ) → l < links_of x.cast → ((x.cast).layout).is_late l ≡ true → ((p.change l).step ≤ 1) ⊎ IsChanged (p.change l)
  untold_or_changed U h l b t =
      let r = L.some l b t in
      elim (U l b t) [
        | inr C ↦ inr C
        | inl m ↦ elim (cases_eq (p.change l).step 2) [
          | inr n ↦ inl (below (p.change l).step m n)
          | inl s ↦
              let f = unchanged_so x recent p w W value V r.0 l r.1 r.2 (r.3).of_link m in
              let g = is_ready_so x recent p w W value V r.0 l r.1 r.2 (r.3).of_link (omega arith) f in
              let z = none_passes (is_ready value.told) value.lates r.0 r.1 h r.2 in
              absurd cc
        ]
      ]
    where
      below : (n : ℕ) → n ≤ 2 → (n ≡ 2 → ⊥) → n ≤ 1
      below n l f = elim (two n l) [ inl m ↦ m | inr e ↦ absurd (f e) ]
        where
          two : (n : ℕ) → n ≤ 2 → (n ≤ 1) ⊎ (n ≡ 2)
          two zero l = inl (omega arith)
          two (suc zero) l = inl (omega arith)
          two (suc (suc k)) l = inr (omega arith)

  pub begin_can : (state : State) → IsSendDue value state → CanAct (x.cast).layout p Act.Begin × (state ≡ target (p.phase + 1))
  begin_can state D =
      let n = next_state p.phase state (ap (slice_get all_states) (sym sends) ∙ D.next) in
      let all = last_all x recent p w W value V D.last in (
        record {
          more = n.0;
          all = all;
          ends = λ two c d s. let t = V.told c d in let u = over_at value.sinks value.told (script_place x.cast c) (((x.cast).layout).is_sink c) t.0 (D.sinks (sends ∙ two)) (((V.conducting).sinks).each c d) t.1 s in sym (t.2).eos ∙ u;
          changes = λ two. untold_or_changed (unbroken x recent p w W value V D.none_half)
              (ap (λ (b : Bool). b && list_any (is_ready value.told) value.lates) (sym (may_where x recent p w W value V two all)) ∙ D.none_next);
        },
        n.1,
      )

  -- outside of Executing no link is half changed
  unbroken_in : CanAct (x.cast).layout p Act.Begin → IsUnbroken (x.cast).layout p
  unbroken_in C l b t =
      let K = (W.reached).changes l b in
      elim (cases_eq p.phase 2) [
        | inl e ↦ elim (C.changes e l b t) [ inl m ↦ inl (omega arith) | inr d ↦ inr d ]
        | inr n ↦ elim (sides p.phase n) [ inl m ↦ inl (let z = K.early m in omega arith) | inr m ↦ inr (K.over m t) ]
      ]
    where
      sides : (n : ℕ) → (n ≡ 2 → ⊥) → (n ≤ 1) ⊎ (3 ≤ n)
      sides zero f = inl (omega arith)
      sides (suc zero) f = inl (omega arith)
      sides (suc (suc zero)) f = absurd (f refl)
      sides (suc (suc (suc k))) f = inr (omega arith)

  none_ready : CanAct (x.cast).layout p Act.Begin → (may_change value && list_any (is_ready value.told) value.lates) ≡ false
  none_ready C = either (may_change value)
      (λ t.
      let two = (where_may x recent p w W value V t).0 in
      let n = none_of (is_ready value.told) value.lates (λ i late e.
      let r = L.each i late e in
      let O = (r.1).of_link in
      either (is_ready value.told late)
      (λ u.
      let g = ready_is x recent p w W value V i r.0 late e O u in
      elim (C.changes two r.0 O.below O.late) [
        | inl m ↦ let two_told = g.0 in absurd (omega arith)
        | inr d ↦ let c = is_changed_so x recent p w W value V i r.0 late e O d in let f = g.1 in absurd cc
      ])
      (λ u. u)) in
      λ i. t i && n i)
      (λ f. ap (λ (b : Bool). b && list_any (is_ready value.told) value.lates) f)

  pub can_begin : CanAct (x.cast).layout p Act.Begin → IsSendDue value (target (p.phase + 1))
  can_begin C = record {
    next = ap (slice_get all_states) sends ∙ state_next p.phase C.more;
    last = all_last x recent p w W value V C.all;
    none_half = none_half_so x recent p w W value V (unbroken_in C);
    none_next = none_ready C;
    sinks = λ two. at_over value.sinks value.told (λ i s y e f u.
        let k = told_at x recent p w W value V i y f in
        let same : Some s ≡ Some (((x.cast).layout).is_sink k.0) = sym e ∙ (ap (slice_get value.sinks) (sym k.2) ∙ ((V.conducting).sinks).each k.0 k.1) in
        let is : s ≡ ((x.cast).layout).is_sink k.0 = cc in
        (k.3).eos ∙ C.ends (sym sends ∙ two) k.0 k.1 (sym is ∙ u));
  }

  begun : IsPlayConducting x.cast recent (acted (x.cast).layout Act.Begin p) (record value { sends = value.sends + 1 })
  begun = record {
    sinks = record { many = ((V.conducting).sinks).many; each = ((V.conducting).sinks).each };
    many = (V.conducting).many;
    lates = record {
      each = λ i late e. let r = L.each i late e in let K = r.1 in (r.0, record { of_link = K.of_link; way = K.way; told = K.told; disabled = K.disabled; latest = K.latest });
      some = λ l b t. let r = L.some l b t in let K = r.3 in (r.0, r.1, r.2, record { of_link = K.of_link; way = K.way; told = K.told; disabled = K.disabled; latest = K.latest });
      rising = L.rising;
    };
    sends = ap (λ (k : ℕ). k + 1) sends;
  }

  pub conductor_sends : (next : ConductorValue) (state : State) → Conducts value (phases.Send state) next
      → CanAct (x.cast).layout p Act.Begin × (state ≡ target (p.phase + 1)) × IsPlayConducting x.cast recent (acted (x.cast).layout Act.Begin p) next
  conductor_sends next state C =
      let b = begin_can state C.1 in
      (b.0, b.1, subst (λ (y : ConductorValue). IsPlayConducting x.cast recent (acted (x.cast).layout Act.Begin p) y) (sym C.2) begun)

  pub conductor_begins : CanAct (x.cast).layout p Act.Begin → Conducts value (phases.Send (target (p.phase + 1))) (record value { sends = value.sends + 1 })
  conductor_begins C = (not_failed x recent p w W value V, can_begin C, refl)

  -- ---- the end

  over_is : is_over value ≡ true → IsOver (x.cast).layout p
  over_is h =
      let t = both_of (value.sends == 4) (all_told states.Loaded value.told) h in
      let four : p.phase ≡ 4 = sym sends ∙ eqb-true _ _ t.0 in
      record { phase = four; all = all_stages x recent p w W value V (omega arith) (ap (λ (k : ℕ). all_told (target k) value.told) four ∙ t.1) }

  pub is_over_so : IsOver (x.cast).layout p → is_over value ≡ true
  is_over_so O =
      let a : (value.sends == 4) ≡ true = eq-eqb value.sends 4 (sends ∙ O.phase) in
      let four = O.phase in
      let b : all_told states.Loaded value.told ≡ true = sym (ap (λ (k : ℕ). all_told (target k) value.told) four) ∙ stages_all x recent p w W value V (omega arith) O.all in
      λ i. a i && b i

  pub conductor_over : (next : ConductorValue) → Conducts value phases.Over next → IsOver (x.cast).layout p × (next ≡ value)
  conductor_over next C = (over_is C.1, C.2)

  pub conductor_ends : IsOver (x.cast).layout p → Conducts value phases.Over value
  conductor_ends O = (not_failed x recent p w W value V, is_over_so O, refl)

  pub conductor_whole : (next : ConductorValue) → Conducts value phases.Failed next → ⊥
  conductor_whole next C = let f = not_failed x recent p w W value V in let t = C.0 in cc
