-- The steps of a change that a conductor answers, by the model's acts of it.
use Rattle.std.proofs.Common.{◌≡◌, inl, inr, ℕ, zero, suc, ◌+◌, ◌<◌, ◌≤◌, true, false, ◌&&◌, nat_le, slice_get, Some, refl, sym, ◌∙◌, ap, subst, arith}
use Rattle.std.specs.Prelude.{slice_set}
use Rattle.il_machine.specs.World.{World}
use Rattle.machine_laws.proofs.Finding.{either}
use Rattle.conductor.specs.declared.phase.ChangeStep.{ChangeStep}
use Rattle.conductor.specs.declared.phase.ChangeStep.TheVariants.{Disable, Retune, Enable}
use Rattle.conductor.specs.declared.phase.LateLink.{LateLink}
use Rattle.conductor.specs.declared.phase.Phase.TheVariants as phases
use Rattle.conductor.specs.Hearing.{ConductorValue}
use Rattle.conductor.specs.Phases.{Conducts, IsChangeDue, IsStep, NoneBefore, is_changed, is_half, is_ready, may_change, one_step_more}
use Rattle.play_model.specs.Acts.{Act, CanAct}
use Rattle.play_model.specs.Changes.{Change, IsHalfChanged, IsInOrder}
use Rattle.play_model.specs.Play.{Play}
use Rattle.play_model.specs.Reached.{IsOver}
use Rattle.play_world_laws.specs.Cast.{giver_of, links_of, script_place}
use Rattle.play_world_laws.specs.Standing.{target}
use Rattle.play_plan_laws.proofs.Links.{two_ways}
use Rattle.play_world_laws.specs.PlayWorlds.{IsPlayWorld, PlayCast}
use Rattle.play_turn_laws.specs.Conducting.{AreLates, IsCarriedOut, IsChangeOf, IsFirstTold, IsLateAt, IsPlayConductor, IsLateOf, step_from}
use Rattle.play_turn_laws.proofs.ChangeSteps.{KnowsChanges, change_of, from}
use Rattle.play_turn_laws.proofs.Hearing.{one_link}
use Rattle.play_turn_laws.proofs.Keeping.{one_entry, same_source}
use Rattle.play_turn_laws.proofs.Sending.{can_begin, is_over_so}
use Rattle.play_turn_laws.proofs.Standing.{answered, begun_half, changed_is, FirstOf, first_of, flags, half_begun, is_ready_so, may_where, none_half_so, not_failed, ordered, ready_is, unchanged_so, where_may}

module _ (x : PlayCast) (recent : ℕ) (p : Play) (w : World) (W : IsPlayWorld x recent p w) (value : ConductorValue) (V : IsPlayConductor x.cast recent p value) where
  abbrev L : AreLates x.cast recent p value.lates
  L = (V.conducting).lates

  abbrev knows : KnowsChanges x.cast recent p value
  knows = record {
    conducting = V.conducting;
    carried = V.carried;
    running = where_may x recent p w W value V;
    ready = λ i l late e K. ready_is x recent p w W value V i l late e K.of_link;
  }

  -- ---- a step that is answered

  module _ (number : ℕ) (late : LateLink) (step : ChangeStep) (D : IsChangeDue value number late step) where
    abbrev l : ℕ
    l = (L.each number late D.there).0

    O : IsLateOf x.cast l late
    O = ((L.each number late D.there).1).of_link

    from_step : (p.change l).step ≡ step_from step
    from_step = from x recent p w W value knows number late step D

    -- of those that are ready it is the first
    first : NoneBefore (is_ready value.told) value.lates number → (k : ℕ) → k < links_of x.cast → ((x.cast).layout).is_late k ≡ true → (p.change k).step ≡ 2 → script_place x.cast (giver_of x.cast l) ≤ script_place x.cast (giver_of x.cast k)
    first N k b t two =
        let r = L.some k b t in
        let M = (r.3).of_link in
        let ready = is_ready_so x recent p w W value V r.0 k r.1 r.2 M (omega arith) (unchanged_so x recent p w W value V r.0 k r.1 r.2 M (omega arith)) in
        let mine = O.source in
        let its = M.source in
        elim (two_ways r.0 number) [
          | inl h ↦ let f = N r.0 r.1 h r.2 in absurd cc
          | inr h ↦ elim h [
            | inl e ↦
                let s : Some r.1 ≡ Some late = sym r.2 ∙ (ap (slice_get value.lates) e ∙ D.there) in
                let same : r.1 ≡ late = cc in
                let m : (r.1).source ≡ late.source = ap (λ (y : LateLink). y.source) same in
                omega arith
            | inr g ↦ let m = L.rising number r.0 late r.1 g D.there r.2 in omega arith
          ]
        ]

    first_told : IsFirstTold x.cast p l
    first_told two = by_step step D.due from_step
      where
        by_step : (step : ChangeStep) → IsStep value.told value.lates number late step → (p.change l).step ≡ step_from step
            → (k : ℕ) → k < links_of x.cast → ((x.cast).layout).is_late k ≡ true → (p.change k).step ≡ 2 → script_place x.cast (giver_of x.cast l) ≤ script_place x.cast (giver_of x.cast k)
        by_step Disable S e = first S.2
        by_step Retune S e = absurd (omega (arith, e, two))
        by_step Enable S e = absurd (omega (arith, e, two))

  pub conductor_changes : (next : ConductorValue) (component : ℕ) (step : ChangeStep) → Conducts value (phases.Change component step) next → (l : ℕ) × IsChangeOf x.cast p component step next l × IsFirstTold x.cast p l
  conductor_changes next component step C =
      let K = C.1 in
      let l = (L.each K.number K.late (K.due).there).0 in
      (l, subst (λ (y : ConductorValue). IsChangeOf x.cast p component step y l) (sym K.goes_on) (change_of x recent p w W value knows K.number K.late step K.due component K.its_source), first_told K.number K.late step K.due)

  -- ---- an act that can be made

  module _ (l : ℕ) (C : CanAct (x.cast).layout p (Act.Conduct l)) where
    abbrev number : ℕ
    number = (L.some l C.below C.late).0

    abbrev late : LateLink
    late = (L.some l C.below C.late).1

    entry : slice_get value.lates number ≡ Some late
    entry = (L.some l C.below C.late).2

    M : IsLateAt x.cast recent p l late
    M = (L.some l C.below C.late).3

    abbrev k : Change
    k = p.change l

    inorder : IsInOrder k
    inorder = ordered x recent p w W value V number l late entry M.of_link

    known : IsCarriedOut late.steps k.step
    known = answered x recent p w W value V number l late entry M.of_link

    -- no other link is half changed, so none before it
    none_before : 1 ≤ late.steps → is_changed late ≡ false → NoneBefore is_half value.lates number
    none_before m f j other h e = either (is_half other)
        (λ t.
        let r = L.each j other e in
        let b = half_begun other t in
        let same : r.0 ≡ l = (r.1).latest b.0 b.1 ∙ sym (M.latest m f) in
        let g = (one_entry x.cast recent p value.lates L j number other late e entry (same_source x.cast r.0 l other late (r.1).of_link M.of_link same)).0 in
        absurd (omega arith))
        (λ u. u)

    unchanged : k.step < 10 → is_changed late ≡ false
    unchanged m = either (is_changed late) (λ t. let c = changed_is x recent p w W value V number l late entry M.of_link t in let z = c.0 in absurd (omega arith)) (λ u. u)

    may_half : IsHalfChanged k → may_change value ≡ true
    may_half h = let r = ((W.reached).changes l C.below).half h in may_where x recent p w W value V r.0 r.1

    ready : k.step ≡ 2 → is_ready value.told late ≡ true
    ready two = is_ready_so x recent p w W value V number l late entry M.of_link (omega arith) (unchanged (omega arith))

    first_ready : k.step ≡ 2 → FirstOf (is_ready value.told) value.lates
    first_ready two = first_of (is_ready value.told) value.lates number late entry (ready two)

    begins : (two : k.step ≡ 2) → IsChangeDue value (first_ready two).at (first_ready two).entry Disable
    begins two =
        let N = C.next two in
        let F = first_ready two in
        record {
          there = F.there;
          now = may_where x recent p w W value V N.phase N.all;
          due = (none_half_so x recent p w W value V N.unbroken, F.passes, F.none_before);
        }

    -- where none that has told comes before it, it is this one
    begins_here : (two : k.step ≡ 2) → IsFirstTold x.cast p l → (L.each (first_ready two).at (first_ready two).entry (begins two).there).0 ≡ l
    begins_here two H =
        let F = first_ready two in
        let r = L.each F.at F.entry (begins two).there in
        let O = (r.1).of_link in
        let its = O.source in
        let mine = (M.of_link).source in
        let e = from_step F.at F.entry Disable (begins two) in
        let most = H two r.0 O.below O.late e in
        elim (two_ways F.at number) [
          | inl h ↦ let low = L.rising F.at number F.entry late h F.there entry in absurd (omega arith)
          | inr h ↦ elim h [
            | inl same ↦
                let s : Some F.entry ≡ Some late = sym F.there ∙ (ap (slice_get value.lates) same ∙ entry) in
                let is : F.entry ≡ late = cc in
                one_link x.cast r.0 l F.entry late W.cast_is O M.of_link (ap (λ (y : LateLink). y.source) is)
            | inr g ↦ let n = F.none_before number late g entry in let t = ready two in absurd cc
          ]
        ]

    goes_here : (there : slice_get value.lates number ≡ Some late) → (L.each number late there).0 ≡ l
    goes_here there = let r = L.each number late there in one_link x.cast r.0 l late late W.cast_is (r.1).of_link M.of_link refl

    retunes : k.step ≡ 4 → late.steps ≡ 1 → IsChangeDue value number late Retune
    retunes four one =
        let F = flags x recent p w W value V number l late entry M.of_link in
        let D = C.disabled four in
        let o : late.output_disabled ≡ true = F.output_disabled ∙ ap (nat_le 4) D.0 in
        let i : late.input_disabled ≡ true = F.input_disabled ∙ ap (nat_le 4) D.1 in
        let u = unchanged (omega arith) in
        let d = D.0 in
        record {
          there = entry;
          now = may_half (omega arith, inl (omega arith));
          due = (begun_half late (omega arith) u, none_before (omega arith) u, one, (λ j. o j && i j));
        }

    enables : k.step ≡ 8 → late.steps ≡ 2 → IsChangeDue value number late Enable
    enables eight two =
        let u = unchanged (omega arith) in
        let n = inorder.output_waits (omega arith) in
        record {
          there = entry;
          now = may_half (omega arith, inl (omega arith));
          due = (begun_half late (omega arith) u, none_before (omega arith) u, two);
        }

    pub due_change : (i : ℕ) × (other : LateLink) × (step : ChangeStep) × (D : IsChangeDue value i other step) × (IsFirstTold x.cast p l → (L.each i other D.there).0 ≡ l)
    due_change = by_steps late.steps refl known
      where
        by_steps : (n : ℕ) → late.steps ≡ n → IsCarriedOut n k.step → (i : ℕ) × (other : LateLink) × (step : ChangeStep) × (D : IsChangeDue value i other step) × (IsFirstTold x.cast p l → (L.each i other D.there).0 ≡ l)
        by_steps zero e D = let m = C.told in let two : k.step ≡ 2 = omega arith in ((first_ready two).at, (first_ready two).entry, Disable, begins two, begins_here two)
        by_steps (suc zero) e D = (number, late, Retune, retunes D e, (λ H. goes_here (retunes D e).there))
        by_steps (suc (suc zero)) e D = (number, late, Enable, enables D e, (λ H. goes_here (enables D e).there))
        by_steps (suc (suc (suc zero))) e D = let m = C.more in absurd (omega arith)
        by_steps (suc (suc (suc (suc n)))) e D = absurd D

    pub conductor_goes_on : (k : ℕ) × (IsFirstTold x.cast p l → k ≡ l) × (step : ChangeStep) × (next : ConductorValue) × ((p.change k).step ≡ step_from step) × Conducts value (phases.Change (script_place x.cast (giver_of x.cast k)) step) next
    conductor_goes_on =
        let d = due_change in
        let r = L.each d.0 d.1 (d.3).there in
        let next : ConductorValue = record value { lates = slice_set value.lates d.0 (one_step_more d.1) } in (
          r.0,
          d.4,
          d.2,
          next,
          from_step d.0 d.1 d.2 d.3,
          (not_failed x recent p w W value V, record { number = d.0; late = d.1; due = d.3; its_source = sym ((r.1).of_link).source; goes_on = refl }),
        )

  pub conductor_waits : (next : ConductorValue) → Conducts value phases.Wait next
      → (CanAct (x.cast).layout p Act.Begin → ⊥) × ((l : ℕ) → CanAct (x.cast).layout p (Act.Conduct l) → ⊥) × (IsOver (x.cast).layout p → ⊥) × (next ≡ value)
  conductor_waits next C = (
    (λ B. (C.1).no_send (target (p.phase + 1)) (can_begin x recent p w W value V B)),
    (λ l A. let d = due_change l A in (C.1).no_change d.0 d.1 d.2 d.3),
    (λ O. let f = (C.1).not_over in let t = is_over_so x recent p w W value V O in cc),
    C.2,
  )
