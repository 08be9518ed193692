-- An act leads one way: of two values that admit it one is the other, since no two components have one name.
use Rattle.std.proofs.Common.{◌≡◌, ◌⊎◌, inl, inr, ℕ, ◌+◌, Bool, true, false, ◌==◌, List, [], ◌∷◌, slice_get, slice_set, Option, Some, None, find, refl, sym, ◌∙◌, ap, subst}
use Rattle.std.proofs.lemmas.Bool.{eqb-true}
use Rattle.std.proofs.lemmas.List.Folds.{find_at}
use Rattle.il_machine.specs.declared.answer.Progress.{Progress}
use Rattle.act_text.specs.declared.act.TextAct.{TextAct}
use Rattle.act_text.specs.declared.act.TextAct.TheVariants as lines
use Rattle.script_lang.specs.declared.play_line.PartLine.{PartLine}
use Rattle.play_forms.proofs.Places.{Some_same, either}
use Rattle.play_forms.specs.declared.flow.Flow.{Flow}
use Rattle.play_forms.specs.declared.joint.Joint.{Joint}
use Rattle.play_forms.specs.Plans.{PlanValue}
use Rattle.play_log.specs.Scenes.{HaveOwnNames}
use Rattle.audit_order.specs.declared.ends.LinkEnds.{LinkEnds}
use Rattle.audit_order.specs.declared.order.Change.{Change}
use Rattle.audit_order.specs.Ends.{ends_by, gives, link_at, link_of, position_from}
use Rattle.audit_order.specs.Steps.{Admits, BeginsChange, BeginsSend, ChangesOn, MayChange, OrderValue}

-- ---- the name at the output of a link

found_passes : (test : Joint → Bool) (xs : List Joint) (x : Joint) → find test xs ≡ Some x → test x ≡ true
found_passes test [] x e = absurd cc
found_passes test (y ∷ ys) x e = either (test y)
    (λ t. let s : Some y ≡ Some x = rw t at e in subst (λ (z : Joint). test z ≡ true) (Some_same y x s) t)
    (λ f. let s : find test ys ≡ Some x = rw f at e in found_passes test ys x s)

-- the component at the place, which the link names at its output
record IsNamed (parts : List PartLine) (source : ℕ) (ends : LinkEnds) : Type 0 where
  part : PartLine
  there : slice_get parts source ≡ Some part
  named : (ends.output).component ≡ part.name

ends_named : (parts : List PartLine) (source : ℕ) (joint : Joint) (flow : Flow) (giver taker : Option PartLine) (ends : LinkEnds) → slice_get parts source ≡ giver
    → ends_by giver taker joint flow ≡ Some ends → IsNamed parts source ends
ends_named parts source joint flow (Some giver) (Some taker) ends at e =
    record { part = giver; there = at; named = sym (ap (λ (x : LinkEnds). (x.output).component) (Some_same _ ends e)) }
ends_named parts source joint flow (Some giver) None ends at e = absurd cc
ends_named parts source joint flow None taker ends at e = absurd cc

joint_named : (parts : List PartLine) (source : ℕ) (joint : Option Joint) (flow : Option Flow) (ends : LinkEnds) → ((j : Joint) → joint ≡ Some j → j.giver ≡ source)
    → link_at parts joint flow ≡ Some ends → IsNamed parts source ends
joint_named parts source (Some joint) (Some flow) ends own e =
    ends_named parts source joint flow (slice_get parts joint.giver) (slice_get parts joint.taker) ends (ap (slice_get parts) (sym (own joint refl))) e
joint_named parts source (Some joint) None ends own e = absurd cc
joint_named parts source None flow ends own e = absurd cc

link_named : (plan : PlanValue) (source : ℕ) (ends : LinkEnds) → link_of plan source ≡ Some ends → IsNamed plan.parts source ends
link_named plan source ends e =
    joint_named plan.parts source (slice_get plan.joints (position_from plan source)) (slice_get plan.flows (position_from plan source)) ends
    (λ j at. eqb-true j.giver source (found_passes (gives source) plan.joints j (find_at (gives source) plan.joints ∙ at))) e

abbrev disables : TextAct → List ℕ
disables (lines.SendDisable component ports) = component
disables _ = []

source_one : (plan : PlanValue) (told : List Progress) (changed : List Bool) (source other : ℕ) (act : TextAct) → HaveOwnNames plan.parts
    → MayChange plan told changed source act → MayChange plan told changed other act → other ≡ source
source_one plan told changed source other act own M N =
    let one = link_named plan source M.ends M.link in
    let two = link_named plan other N.ends N.link in
    let name : (M.ends.output).component ≡ (N.ends.output).component = ap disables (sym M.is ∙ N.is) in
    own other source two.part one.part two.there one.there (sym two.named ∙ sym name ∙ one.named)

-- ---- one way

pub both_ways : (b : Bool) → b ≡ true → b ≡ false → ⊥
both_ways b t f = let e : true ≡ false = sym t ∙ f in cc

change_one : (plan : PlanValue) (told : List Progress) (x : OrderValue) (act : TextAct) (y z : OrderValue) → ChangesOn plan told x act y → ChangesOn plan told x act z → z ≡ y
change_one plan told x act y z H K =
    let same : K.change ≡ H.change = Some_same K.change H.change (sym K.last ∙ H.last) in
    K.goes_on ∙ ap (λ (c : Change). record x { change = Some (record { source = c.source; made = c.made + 1 }) }) same ∙ sym H.goes_on

begin_one : (plan : PlanValue) (told : List Progress) (x : OrderValue) (act : TextAct) (y z : OrderValue) → HaveOwnNames plan.parts
    → BeginsChange plan told x act y → BeginsChange plan told x act z → z ≡ y
begin_one plan told x act y z own H K =
    let same : K.source ≡ H.source = source_one plan told x.changed H.source K.source act own H.may K.may in
    K.goes_on ∙ ap (λ (s : ℕ). record x { change = Some (record { source = s; made = 1 }); changed = slice_set x.changed s true }) same ∙ sym H.goes_on

abbrev is_sent_state : TextAct → Bool
is_sent_state (lines.SendState component state) = true
is_sent_state _ = false

begin_apart : (plan : PlanValue) (told : List Progress) (x : OrderValue) (act : TextAct) (y z : OrderValue) → BeginsChange plan told x act y → BeginsSend plan told x act z → ⊥
begin_apart plan told x act y z H K =
    let e : false ≡ true = ap is_sent_state (sym H.may.is ∙ K.is) in cc

pub admits_one : (plan : PlanValue) (told : List Progress) (x : OrderValue) (act : TextAct) (y z : OrderValue) → HaveOwnNames plan.parts
    → Admits plan told x act y → Admits plan told x act z → z ≡ y
admits_one plan told x act y z own (inl H) (inl K) = K.goes_on ∙ sym H.goes_on
admits_one plan told x act y z own (inl H) (inr (inl K)) = absurd (both_ways _ H.sending K.sent)
admits_one plan told x act y z own (inl H) (inr (inr (inl K))) = absurd (both_ways _ H.sending K.rested.sent)
admits_one plan told x act y z own (inl H) (inr (inr (inr K))) = absurd (both_ways _ H.sending K.rested.sent)
admits_one plan told x act y z own (inr (inl H)) (inl K) = absurd (both_ways _ K.sending H.sent)
admits_one plan told x act y z own (inr (inl H)) (inr (inl K)) = change_one plan told x act y z H K
admits_one plan told x act y z own (inr (inl H)) (inr (inr (inl K))) = absurd (both_ways _ H.changing K.rested.changed)
admits_one plan told x act y z own (inr (inl H)) (inr (inr (inr K))) = absurd (both_ways _ H.changing K.rested.changed)
admits_one plan told x act y z own (inr (inr (inl H))) (inl K) = absurd (both_ways _ K.sending H.rested.sent)
admits_one plan told x act y z own (inr (inr (inl H))) (inr (inl K)) = absurd (both_ways _ K.changing H.rested.changed)
admits_one plan told x act y z own (inr (inr (inl H))) (inr (inr (inl K))) = begin_one plan told x act y z own H K
admits_one plan told x act y z own (inr (inr (inl H))) (inr (inr (inr K))) = absurd (begin_apart plan told x act y z H K)
admits_one plan told x act y z own (inr (inr (inr H))) (inl K) = absurd (both_ways _ K.sending H.rested.sent)
admits_one plan told x act y z own (inr (inr (inr H))) (inr (inl K)) = absurd (both_ways _ K.changing H.rested.changed)
admits_one plan told x act y z own (inr (inr (inr H))) (inr (inr (inl K))) = absurd (begin_apart plan told x act z y K H)
admits_one plan told x act y z own (inr (inr (inr H))) (inr (inr (inr K))) = K.goes_on ∙ sym H.goes_on
