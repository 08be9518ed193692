-- A script has one plan, and a valid plan is fitted to heads in one way.
use Rattle.std.proofs.Common.{◌≡◌, ℕ, zero, suc, ◌<◌, ◌≤◌, Bool, true, false, not, ◌==◌, ◌&&◌, ◌||◌, cond, List, [], ◌∷◌, ◌++◌, length, Option, Some, refl, sym, ◌∙◌, ap, subst, append_assoc, arith}
use Rattle.std.specs.Prelude.{slice_get, replicate}
use Rattle.std.proofs.Math.Path.{fun_ext}
use Rattle.std.proofs.lemmas.Bool.{eqb-true}
use Rattle.std.proofs.lemmas.List.{append-nil}
use Rattle.script_lang.specs.declared.play_line.PartLine.{PartLine}
use Rattle.script_lang.specs.declared.play_line.LinkLine.{LinkLine}
use Rattle.wav_form.specs.declared.heads.WavHead.{WavHead}
use Rattle.play_forms.specs.declared.flow.Flow.{Flow}
use Rattle.play_forms.specs.declared.joint.Joint.{Joint}
use Rattle.play_forms.specs.Flows.{AreFlows, AreFrames, flow_at, flow_rule, no_flow}
use Rattle.play_forms.specs.Placing.{IsOrder, can_place, has_place, is_fed}
use Rattle.play_forms.specs.Plans.{IsFitted, IsPlanOf, IsValid, PlanValue}
use Rattle.play_forms.specs.Settling.{AreSettled, into}
use Rattle.play_forms.proofs.OnePlan.{has_element, one_order}
use Rattle.play_forms.proofs.Places.{Goes, Some_same, and_both, goes_on, has_place_more, not_true, or_cases}
use Rattle.play_forms.proofs.Plainly.{givers_within}

-- ---- lists by place

same_by_place : {A : Type 0} (xs ys : List A) → length xs ≡ length ys → ((k : ℕ) → k < length xs → slice_get xs k ≡ slice_get ys k) → xs ≡ ys
same_by_place [] [] many each = refl
same_by_place [] (y ∷ ys) many each = absurd (omega arith)
same_by_place (x ∷ xs) [] many each = absurd (omega arith)
same_by_place (x ∷ xs) (y ∷ ys) many each =
    let first : x ≡ y = Some_same x y (each zero (omega arith)) in
    let rest : xs ≡ ys = same_by_place xs ys (omega arith) (λ k below. each (suc k) (omega arith)) in
    ap (λ z. z ∷ xs) first ∙ ap (λ zs. y ∷ zs) rest

-- ---- two settled lists have one value for each link

-- they do, for the links that these components give
abbrev AreAlike : {A : Type 0} → List Joint → List A → List A → List ℕ → Type 0
AreAlike joints us vs placed = (k : ℕ) (joint : Joint) → slice_get joints k ≡ Some joint → has_place placed joint.giver ≡ true → slice_get us k ≡ slice_get vs k

-- what comes into a component that takes of these alone
into_alike : {A : Type 0} (none : A) (placed : List ℕ) (p input : ℕ) (joints : List Joint) (us vs : List A) → length us ≡ length joints → length vs ≡ length joints
    → is_fed joints placed p ≡ true → AreAlike joints us vs placed → into none joints us p input ≡ into none joints vs p input
into_alike none placed p input [] us vs many many' fed alike = refl
into_alike none placed p input (joint ∷ joints) [] vs many many' fed alike = absurd (omega arith)
into_alike none placed p input (joint ∷ joints) (u ∷ us) [] many many' fed alike = absurd (omega arith)
into_alike none placed p input (joint ∷ joints) (u ∷ us) (v ∷ vs) many many' fed alike =
    let parts = and_both (not (joint.taker == p) || has_place placed joint.giver) (is_fed joints placed p) fed in
    let rest = into_alike none placed p input joints us vs (omega arith) (omega arith) parts.1 (λ k other e there. alike (suc k) other e there) in
    or_cases (not (joint.taker == p)) (has_place placed joint.giver) parts.0
    (λ other. let o : (joint.taker == p) ≡ false = not_true (joint.taker == p) other in rw o rest)
    (λ there.
    let same : u ≡ v = Some_same u v (alike zero joint refl there) in
    ap (λ x. cond (joint.taker == p && joint.input == input) x (into none joints us p input)) same ∙ ap (cond (joint.taker == p && joint.input == input) v) rest)

module _ {A : Type 0} (rule : ℕ → (ℕ → A) → ℕ → A) (none : A) (joints : List Joint) (us vs : List A) (U : AreSettled rule none joints us) (V : AreSettled rule none joints vs) where
  -- one component more
  alike_more : (placed : List ℕ) (p : ℕ) → is_fed joints placed p ≡ true → AreAlike joints us vs placed → AreAlike joints us vs (placed ++ (p ∷ []))
  alike_more placed p fed alike k joint e there =
      or_cases (has_place placed joint.giver) (p == joint.giver) (sym (has_place_more placed p joint.giver) ∙ there)
      (λ before. alike k joint e before)
      (λ same.
      let own : p ≡ joint.giver = eqb-true p joint.giver same in
      let incoming : into none joints us joint.giver ≡ into none joints vs joint.giver =
      fun_ext (λ input. into_alike none placed joint.giver input joints us vs U.many V.many (subst (λ q. is_fed joints placed q ≡ true) own fed) alike) in
      U.each k joint e ∙ ap (λ f. Some (rule joint.giver f joint.output)) incoming ∙ sym (V.each k joint e))

  alike_along : (placed places : List ℕ) → Goes joints placed places → AreAlike joints us vs placed → AreAlike joints us vs (placed ++ places)
  alike_along placed [] goes alike = subst (AreAlike joints us vs) (sym (append-nil placed)) alike
  alike_along placed (p ∷ places) goes alike =
      let cans = and_both (not (has_place placed p)) (is_fed joints placed p) goes.0 in
      subst (AreAlike joints us vs) (append_assoc placed (p ∷ []) places) (alike_along (placed ++ (p ∷ [])) places goes.1 (alike_more placed p cans.1 alike))

  one_settled : (count : ℕ) (order : List ℕ) → IsOrder joints count order → ((k : ℕ) (joint : Joint) → slice_get joints k ≡ Some joint → joint.giver < count) → us ≡ vs
  one_settled count order is inside =
      let alike : AreAlike joints us vs order = alike_along [] order (goes_on joints count [] order order refl is.placed) (λ k joint e there. absurd cc) in
      same_by_place us vs (U.many ∙ sym V.many)
      (λ k below.
      let j = has_element joints k (subst (λ n. k < n) U.many below) in
      alike k j.0 j.1 (is.all (j.0).giver (inside k j.0 j.1)))

-- ---- and each component its frames

one_frames : (parts : List PartLine) (joints : List Joint) (heads : List WavHead) (flows : List Flow) (xs ys : List ℕ) → AreFrames parts joints heads flows xs → AreFrames parts joints heads flows ys
    → xs ≡ ys
one_frames parts joints heads flows xs ys X Y =
    same_by_place xs ys (X.many ∙ sym Y.many)
    (λ place below. let part = has_element parts place (subst (λ n. place < n) X.many below) in X.each place part.0 part.1 ∙ sym (Y.each place part.0 part.1))

-- ---- plans

same_plan : (a b : PlanValue) → a.units ≡ b.units → a.parts ≡ b.parts → a.joints ≡ b.joints → a.order ≡ b.order → a.flows ≡ b.flows → a.frames ≡ b.frames → a ≡ b
same_plan a b units parts joints order flows frames = λ i. record { units = units i; parts = parts i; joints = joints i; order = order i; flows = flows i; frames = frames i }

pub one_fitted : (plan : PlanValue) (heads : List WavHead) (one other : PlanValue) → IsValid plan → IsFitted plan heads one → IsFitted plan heads other → one ≡ other
one_fitted plan heads one other valid F G =
    let flows : one.flows ≡ other.flows =
    one_settled (flow_rule plan.parts heads) no_flow plan.joints one.flows other.flows F.flows G.flows (length plan.parts) plan.order valid.placed (givers_within plan.parts plan.joints valid.joined) in
    let frames : one.frames ≡ other.frames =
    one_frames plan.parts plan.joints heads other.flows one.frames other.frames (subst (λ fs. AreFrames plan.parts plan.joints heads fs one.frames) flows F.frames) G.frames in
    same_plan one other (F.units ∙ sym G.units) (F.parts ∙ sym G.parts) (F.joints ∙ sym G.joints) (F.order ∙ sym G.order) flows frames

pub one_plan : (units : ℕ) (parts : List PartLine) (links : List LinkLine) (plan other : PlanValue) → IsPlanOf units parts links plan → IsPlanOf units parts links other → plan ≡ other
one_plan units parts links plan other P Q =
    let parts' : plan.parts ≡ other.parts = P.parts_of ∙ sym Q.parts_of in
    let joints : plan.joints ≡ other.joints = P.joints_of ∙ sym Q.joints_of in
    let placed : IsOrder other.joints (length other.parts) plan.order =
    subst (λ js. IsOrder js (length other.parts) plan.order) joints (subst (λ (ps : List PartLine). IsOrder plan.joints (length ps) plan.order) parts' (P.valid).placed) in
    same_plan plan other (P.units_of ∙ sym Q.units_of) parts' joints (one_order other.joints (length other.parts) plan.order other.order placed (Q.valid).placed)
    (P.no_flows ∙ ap (λ (js : List Joint). replicate (length js) no_flow) joints ∙ sym Q.no_flows)
    (P.no_frames ∙ ap (λ (ps : List PartLine). replicate (length ps) 0) parts' ∙ sym Q.no_frames)
