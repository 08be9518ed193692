-- What the one who conducts has asked by then: all, once that one says that all is over.
use Rattle.std.proofs.Common.{◌≡◌, inl, inr, ℕ, ◌<◌, ◌≤◌, Bool, true, false, List, [], ◌∷◌, ◌++◌, length, refl, sym, ◌∙◌, ap, subst, eq-eqb, eqb-true, ltb-true, arith}
use Rattle.std.specs.Prelude.{cond, flat_map, if◌then◌else◌, nat_lt, sum_by, ◌==◌, ◌&&◌, ◌+◌}
use Rattle.std.proofs.lemmas.List.Sums.{sum_by-cons}
use Rattle.std.proofs.lemmas.Bool.{cases_lt}
use Rattle.omx_types.specs.declared.handle.Handle.{Handle}
use Rattle.omx_types.specs.declared.state.State.TheVariants.{Loaded}
use Rattle.il_machine.specs.Acts.{Act, Reply}
use Rattle.il_machine.specs.World.{World}
use Rattle.machine_laws.proofs.Finding.{either}
use Rattle.conductor.specs.declared.phase.Phase.TheVariants.{Over}
use Rattle.conductor.specs.Hearing.{ConductorValue}
use Rattle.conductor.specs.Phases.{Conducts, all_told}
use Rattle.il_machine.specs.Kinds.{is_late}
use Rattle.play_build_laws.specs.Assembly.{kind_at}
use Rattle.play_forms.specs.Plans.{PlanValue}
use Rattle.play_log.specs.Entries.{Entry, steps_of}
use Rattle.play_plan_laws.specs.Assemblies.{PlayFiles}
use Rattle.play_result_laws.specs.Asked.{AreLateLinks, acts_of, askings, tuned}
use Rattle.play_history_laws.specs.Order.{Cursor}
use Rattle.play_history_laws.specs.Askings.{IsPlanHistory}
use Rattle.play_result_laws.specs.Passes.{own_steps}
use Rattle.play_history_laws.specs.Requests.{AreRequested, IsOrdered, requests}
use Rattle.play_history_laws.proofs.Askings.{link_is, many}
use Rattle.play_history_laws.proofs.Ordered.{history_ordered}
use Rattle.play_result_laws.specs.Rounds.{IsConducting}
use Rattle.play_history_laws.proofs.Rounds.{conducted_requests}
use Rattle.play_history_laws.specs.Worked.{IsWorked, conducts}

nothing_left : (xs ys : List (Act × Reply)) → xs ++ ys ≡ [] → ys ≡ []
nothing_left [] ys e = e
nothing_left (x ∷ xs) ys e = absurd cc

sends_are : (value : ConductorValue) → (value.sends == 4 && all_told Loaded value.told) ≡ true → value.sends ≡ 4
sends_are value t = either (value.sends == 4)
    (λ e. eqb-true value.sends 4 e)
    (λ f. let z : false ≡ true = ap (λ (b : Bool). b && all_told Loaded value.told) (sym f) ∙ t in absurd cc)

module _ (plan : PlanValue) (files : PlayFiles) (handles : List Handle) (w : World) (entries : List Entry) (v : World) (W : IsWorked plan files handles w entries v)
    (value : ConductorValue) (C : IsConducting plan files handles (own_steps conducts entries) value) where
  abbrev steps : List (Act × Reply)
  steps = steps_of entries

  abbrev pub Asks : Type 0
  Asks = (cursor : Cursor) × IsPlanHistory plan files handles w steps cursor v × (1 ≤ length plan.parts → cursor.phase ≡ value.sends) × (length plan.parts ≤ cursor.sent)

  pub asks : Asks
  asks = conducted_requests plan files handles w W.ready W.stage conducts entries v W.alone W.runs value C

  pub history : IsPlanHistory plan files handles w steps asks.0 v
  history = asks.1

  pub ordered : IsOrdered plan files handles steps asks.0
  ordered = history_ordered plan files handles w steps asks.0 v history

  -- ---- a play without components

  module _ (empty : length plan.parts ≡ 0) where
    no_handles : handles ≡ []
    no_handles = by handles (let m = many plan files handles w steps asks.0 v history in omega (arith, m, empty))
      where
        by : (hs : List Handle) → length hs ≡ 0 → hs ≡ []
        by [] e = refl
        by (h ∷ hs) e = absurd (omega (arith, e))

    no_link : (l : ℕ) → l < length plan.joints → ⊥
    no_link l b = let g = (link_is plan files handles w steps asks.0 v history l b).giver_below in omega (arith, g, empty)

    no_changes : (links : List ℕ) → AreLateLinks (tuned plan files) links → links ≡ []
    no_changes [] L = refl
    no_changes (l ∷ links) L =
        let none : nat_lt l (length plan.joints) ≡ false = either (nat_lt l (length plan.joints)) (λ t. absurd (no_link l (ltb-true l (length plan.joints) t))) (λ f. f) in
        let n = L l ∙ ap (λ (b : Bool). if b && is_late (kind_at (tuned plan files) false l) then 1 else 0) none in
        let some = sum_by-cons (λ (k : ℕ). cond (k == l) 1 0) l links ∙ ap (λ (b : Bool). cond b 1 0 + sum_by (λ (k : ℕ). cond (k == l) 1 0) links) (eq-eqb l l refl) in
        absurd (omega (arith, n, some))

    none_asked : (links : List ℕ) → links ≡ [] → flat_map (acts_of (tuned plan files) handles) (askings links) ≡ []
    none_asked links e = ap (λ (ls : List ℕ). flat_map (acts_of (tuned plan files) handles) (askings ls)) e ∙ ap (λ (hs : List Handle). flat_map (acts_of (tuned plan files) hs) (askings [])) no_handles

    none_left : ordered.left ≡ []
    none_left = nothing_left (requests steps) ordered.left ((ordered.are).made ∙ none_asked ordered.links (no_changes ordered.links (ordered.are).late))

  -- ---- once all is over

  module _ (next : ConductorValue) (O : Conducts value Over next) where
    left_none : ordered.left ≡ []
    left_none = elim (cases_lt (length plan.parts) 1) [
      | inl b ↦ none_left (omega (arith, b))
      | inr b ↦ ordered.whole (asks.2 b ∙ sends_are value O.1) asks.3
    ]

    pub requested : AreRequested (tuned plan files) handles ordered.links [] steps
    requested = subst (λ (left : List (Act × Reply)). AreRequested (tuned plan files) handles ordered.links left steps) left_none ordered.are
