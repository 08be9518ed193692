-- What fits has no cause not to, and in a valid plan the first link that doesn't fit has one cause.
use Rattle.std.proofs.Common.{◌≡◌, inl, inr, ℕ, zero, suc, ◌<◌, Bool, true, false, not, ◌==◌, ◌&&◌, List, [], ◌∷◌, take, Some, sym, ◌∙◌, ap, subst, arith}
use Rattle.std.specs.Prelude.{slice_get}
use Rattle.std.specs.List.{list_any}
use Rattle.std.proofs.lemmas.Bool.{eq-eqb}
use Rattle.omx_types.specs.declared.format.Format.{Format}
use Rattle.omx_types.specs.declared.kind.Kind.{Kind}
use Rattle.part_forms.specs.Kinds.{is_input_format}
use Rattle.script_lang.specs.declared.play_line.PartLine.{PartLine}
use Rattle.play_forms.specs.declared.flow.Flow.{Flow}
use Rattle.play_forms.specs.declared.joint.Joint.{Joint}
use Rattle.play_forms.specs.declared.plan_fault.PlanFault.{PlanFault}
use Rattle.play_forms.specs.declared.plan_fault.PlanFault.TheVariants.{Cycle, OpenPort, PortTwice, TooMany, Units, Wrong, Small, Differ, OutOfMemory}
use Rattle.play_forms.specs.Fitting.{Fits, InputFits, IsCause, IsMisfit, format_into}
use Rattle.play_forms.specs.Joints.{AllJoin, is_joint, shares_port}
use Rattle.play_forms.specs.Parts.{kind_of}
use Rattle.play_forms.specs.Plans.{IsFit, IsFitFault, IsValid, PlanValue}
use Rattle.play_forms.proofs.OnePlan.{apart_or_one, in_front}
use Rattle.play_forms.proofs.Places.{Some_same, and_both, and_of, both, not_true, or_left, or_right}

fits_no_cause : {P : Type 0} (kind : Kind) (joint : Joint) (format first : Format) (fault : PlanFault) → Fits kind joint format first → IsCause kind joint format first fault → P
fits_no_cause kind joint format first (Wrong line) fits cause = both (is_input_format kind format) fits.taken cause.1
fits_no_cause kind joint format first (Small line) fits cause = let holds = fits.holds_one in let small = cause.2 in absurd (omega arith)
fits_no_cause kind joint format first (Differ line) fits cause = absurd (cause.3 fits.same)
fits_no_cause kind joint format first (PortTwice line) fits cause = absurd cause
fits_no_cause kind joint format first (OpenPort line port) fits cause = absurd cause
fits_no_cause kind joint format first (TooMany line) fits cause = absurd cause
fits_no_cause kind joint format first (Cycle line) fits cause = absurd cause
fits_no_cause kind joint format first (Units have need) fits cause = absurd cause
fits_no_cause kind joint format first OutOfMemory fits cause = absurd cause

input_no_misfit : {P : Type 0} (parts : List PartLine) (joints : List Joint) (order : List ℕ) (flows : List Flow) (fault : PlanFault) (misfit : IsMisfit parts joints order flows fault)
    → InputFits joints flows misfit.place (kind_of misfit.part.form) misfit.input → P
input_no_misfit parts joints order flows fault misfit fits =
    fits_no_cause _ misfit.joint _ _ fault (fits misfit.number misfit.joint misfit.link misfit.taker misfit.taken_at) misfit.cause

pub fit_faultless : (plan : PlanValue) (fault : PlanFault) → IsFit plan → IsFitFault plan fault → ⊥
fit_faultless plan fault fit misfit =
    input_no_misfit plan.parts plan.joints plan.order plan.flows fault misfit (fit misfit.turn misfit.place misfit.part misfit.its_turn misfit.there misfit.input misfit.its_input)

-- ---- one link leads into an input

any_at : {A : Type 0} (test : A → Bool) (xs : List A) (k : ℕ) (x : A) → slice_get xs k ≡ Some x → test x ≡ true → list_any test xs ≡ true
any_at test [] k x e passes = absurd cc
any_at test (y ∷ xs) zero x e passes = let same : y ≡ x = Some_same y x e in or_left (test y) (list_any test xs) (subst (λ z. test z ≡ true) (sym same) passes)
any_at test (y ∷ xs) (suc k) x e passes = or_right (test y) (list_any test xs) (any_at test xs k x e passes)

input_twice : {P : Type 0} (parts : List PartLine) (joints : List Joint) (n m : ℕ) (one two : Joint) → AllJoin parts joints → slice_get joints n ≡ Some one → slice_get joints m ≡ Some two
    → one.taker ≡ two.taker → one.input ≡ two.input → n < m → P
input_twice parts joints n m one two all there there' at at_input less =
    let can = and_both (is_joint parts two) (not (list_any (shares_port two) (take m joints))) (all m two there') in
    let free : list_any (shares_port two) (take m joints) ≡ false = not_true (list_any (shares_port two) (take m joints)) can.1 in
    let taken : (one.taker == two.taker && one.input == two.input) ≡ true =
    and_of (one.taker == two.taker) (one.input == two.input) (eq-eqb one.taker two.taker at) (eq-eqb one.input two.input at_input) in
    let shared : shares_port two one ≡ true = or_right (one.giver == two.giver && one.output == two.output) (one.taker == two.taker && one.input == two.input) taken in
    both (list_any (shares_port two) (take m joints)) (any_at (shares_port two) (take m joints) n one (in_front joints m n one less there) shared) free

one_link : (parts : List PartLine) (joints : List Joint) (n m : ℕ) (one two : Joint) → AllJoin parts joints → slice_get joints n ≡ Some one → slice_get joints m ≡ Some two
    → one.taker ≡ two.taker → one.input ≡ two.input → one ≡ two
one_link parts joints n m one two all there there' at at_input =
    elim (apart_or_one n m) [
      | inl less ↦ input_twice parts joints n m one two all there there' at at_input less
      | inr rest ↦ elim rest [
        | inl same ↦ Some_same one two (sym there ∙ ap (slice_get joints) same ∙ there')
        | inr more ↦ input_twice parts joints m n two one all there' there (sym at) (sym at_input) more
      ]
    ]

-- ---- one cause

one_cause : (kind : Kind) (joint : Joint) (format first : Format) (fault other : PlanFault) → IsCause kind joint format first fault → IsCause kind joint format first other → fault ≡ other
one_cause kind joint format first (PortTwice line) other one two = absurd one
one_cause kind joint format first (OpenPort line port) other one two = absurd one
one_cause kind joint format first (TooMany line) other one two = absurd one
one_cause kind joint format first (Cycle line) other one two = absurd one
one_cause kind joint format first (Units have need) other one two = absurd one
one_cause kind joint format first OutOfMemory other one two = absurd one
one_cause kind joint format first fault (PortTwice line) one two = absurd two
one_cause kind joint format first fault (OpenPort line port) one two = absurd two
one_cause kind joint format first fault (TooMany line) one two = absurd two
one_cause kind joint format first fault (Cycle line) one two = absurd two
one_cause kind joint format first fault (Units have need) one two = absurd two
one_cause kind joint format first fault OutOfMemory one two = absurd two
one_cause kind joint format first (Wrong line) (Wrong other) one two = ap Wrong (one.0 ∙ sym two.0)
one_cause kind joint format first (Wrong line) (Small other) one two = both (is_input_format kind format) two.1 one.1
one_cause kind joint format first (Wrong line) (Differ other) one two = both (is_input_format kind format) two.1 one.1
one_cause kind joint format first (Small line) (Wrong other) one two = both (is_input_format kind format) one.1 two.1
one_cause kind joint format first (Small line) (Small other) one two = ap Small (one.0 ∙ sym two.0)
one_cause kind joint format first (Small line) (Differ other) one two = let less = one.2 in let enough = two.2 in absurd (omega arith)
one_cause kind joint format first (Differ line) (Wrong other) one two = both (is_input_format kind format) one.1 two.1
one_cause kind joint format first (Differ line) (Small other) one two = let enough = one.2 in let less = two.2 in absurd (omega arith)
one_cause kind joint format first (Differ line) (Differ other) one two = ap Differ (one.0 ∙ sym two.0)

-- ---- one first link that doesn't fit

misfit_before : {P : Type 0} (plan : PlanValue) (fault other : PlanFault) (one : IsFitFault plan fault) (two : IsFitFault plan other) → one.turn < two.turn → P
misfit_before plan fault other one two less =
    input_no_misfit plan.parts plan.joints plan.order plan.flows fault one
    (two.before one.turn one.place one.part (in_front plan.order two.turn one.turn one.place less one.its_turn) one.there one.input one.its_input)

input_before : {P : Type 0} (plan : PlanValue) (fault other : PlanFault) (one : IsFitFault plan fault) (two : IsFitFault plan other) → one.place ≡ two.place → one.part ≡ two.part
    → one.input < two.input → P
input_before plan fault other one two place part less =
    let fits : InputFits plan.joints plan.flows two.place (kind_of two.part.form) one.input = two.first one.input less in
    let at : InputFits plan.joints plan.flows one.place (kind_of two.part.form) one.input =
    subst (λ p. InputFits plan.joints plan.flows p (kind_of two.part.form) one.input) (sym place) fits in
    input_no_misfit plan.parts plan.joints plan.order plan.flows fault one
    (subst (λ (p : PartLine). InputFits plan.joints plan.flows one.place (kind_of p.form) one.input) (sym part) at)

same_input : (plan : PlanValue) (fault other : PlanFault) (one : IsFitFault plan fault) (two : IsFitFault plan other) → IsValid plan → one.place ≡ two.place → one.part ≡ two.part
    → one.input ≡ two.input → fault ≡ other
same_input plan fault other one two valid place part input =
    let joint : one.joint ≡ two.joint =
    one_link plan.parts plan.joints one.number two.number one.joint two.joint valid.joined one.link two.link (one.taker ∙ place ∙ sym two.taker) (one.taken_at ∙ input ∙ sym two.taken_at) in
    let at_part : IsCause (kind_of two.part.form) one.joint (format_into plan.joints plan.flows one.place one.input) (format_into plan.joints plan.flows one.place 0) fault =
    subst (λ (p : PartLine). IsCause (kind_of p.form) one.joint (format_into plan.joints plan.flows one.place one.input) (format_into plan.joints plan.flows one.place 0) fault) part one.cause in
    let at_joint : IsCause (kind_of two.part.form) two.joint (format_into plan.joints plan.flows one.place one.input) (format_into plan.joints plan.flows one.place 0) fault =
    subst (λ j. IsCause (kind_of two.part.form) j (format_into plan.joints plan.flows one.place one.input) (format_into plan.joints plan.flows one.place 0) fault) joint at_part in
    let at_input : IsCause (kind_of two.part.form) two.joint (format_into plan.joints plan.flows one.place two.input) (format_into plan.joints plan.flows one.place 0) fault =
    subst (λ i. IsCause (kind_of two.part.form) two.joint (format_into plan.joints plan.flows one.place i) (format_into plan.joints plan.flows one.place 0) fault) input at_joint in
    let at_place : IsCause (kind_of two.part.form) two.joint (format_into plan.joints plan.flows two.place two.input) (format_into plan.joints plan.flows two.place 0) fault =
    subst (λ p. IsCause (kind_of two.part.form) two.joint (format_into plan.joints plan.flows p two.input) (format_into plan.joints plan.flows p 0) fault) place at_input in
    one_cause (kind_of two.part.form) two.joint (format_into plan.joints plan.flows two.place two.input) (format_into plan.joints plan.flows two.place 0) fault other at_place two.cause

same_turn : (plan : PlanValue) (fault other : PlanFault) (one : IsFitFault plan fault) (two : IsFitFault plan other) → IsValid plan → one.turn ≡ two.turn → fault ≡ other
same_turn plan fault other one two valid turn =
    let place : one.place ≡ two.place = Some_same one.place two.place (sym one.its_turn ∙ ap (slice_get plan.order) turn ∙ two.its_turn) in
    let part : one.part ≡ two.part = Some_same one.part two.part (sym one.there ∙ ap (slice_get plan.parts) place ∙ two.there) in
    elim (apart_or_one one.input two.input) [
      | inl less ↦ input_before plan fault other one two place part less
      | inr rest ↦ elim rest [
        | inl same ↦ same_input plan fault other one two valid place part same
        | inr more ↦ input_before plan other fault two one (sym place) (sym part) more
      ]
    ]

pub one_misfit : (plan : PlanValue) (fault other : PlanFault) → IsValid plan → IsFitFault plan fault → IsFitFault plan other → fault ≡ other
one_misfit plan fault other valid one two =
    elim (apart_or_one one.turn two.turn) [
      | inl less ↦ misfit_before plan fault other one two less
      | inr rest ↦ elim rest [
        | inl same ↦ same_turn plan fault other one two valid same
        | inr more ↦ misfit_before plan other fault two one more
      ]
    ]
