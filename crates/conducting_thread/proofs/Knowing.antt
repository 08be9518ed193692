-- The one who conducts knows its plan at first, and whatever it hears and answers.
use Rattle.std.proofs.Common.{◌≡◌, ℕ, suc, ◌<◌, Bool, true, ◌==◌, List, [], ◌∷◌, length, All, find, get_or, slice_get, Option, Some, None, refl, sym, ◌∙◌, ap, subst, arith}
use Rattle.std.proofs.lemmas.Bool.{eqb-true}
use Rattle.std.proofs.lemmas.List.{length-replicate}
use Rattle.std.proofs.lemmas.List.Elements.{All-append, All-cons, All-get_or, All-map, All-nil, All-set}
use Rattle.std.proofs.lemmas.Option.{get_or_from_slice_get, slice_get_within}
use Rattle.il_machine.specs.declared.answer.Progress.{Progress}
use Rattle.il_machine.specs.Components.{no_progress}
use Rattle.script_lang.specs.declared.play_line.PartForm.{PartForm}
use Rattle.script_lang.specs.declared.play_line.PartForm.TheVariants as forms
use Rattle.script_lang.specs.declared.play_line.PartLine.{PartLine}
use Rattle.conductor.specs.declared.phase.ChangeStep.{ChangeStep}
use Rattle.conductor.specs.declared.phase.LateLink.{LateLink}
use Rattle.conductor.specs.declared.phase.Phase.{Phase}
use Rattle.conductor.specs.declared.phase.Phase.TheVariants as phases
use Rattle.conductor.specs.Casting.{cast_of, late_link, late_links, link_from}
use Rattle.conductor.specs.Hearing.{ConductorValue, heard, heard_late, heard_views}
use Rattle.conductor.specs.Phases.{Conducts, IsChange, one_step_more}
use Rattle.play_forms.specs.declared.joint.Joint.{Joint}
use Rattle.play_forms.specs.Plans.{PlanValue}
use Rattle.play_forms.proofs.Places.{Some_same, either}
use Rattle.play_plan_laws.specs.Casting.{no_joint}
use Rattle.conducting_thread.specs.Knowing.{GivesInto, IsOfPlan, KnowsPlan}

-- ---- what is found first

record IsFound (test : Joint → Bool) (joints : List Joint) (joint : Joint) : Type 0 where
  place : ℕ
  below : place < length joints
  there : get_or joints place no_joint ≡ joint
  passes : test joint ≡ true

found : (test : Joint → Bool) (joints : List Joint) (joint : Joint) → find test joints ≡ Some joint → IsFound test joints joint
found test [] joint e = absurd cc
found test (one ∷ joints) joint e = either (test one)
    (λ t. let s : Some one ≡ Some joint = rw t at e in
    let is = Some_same one joint s in
    record { place = 0; below = omega arith; there = is; passes = subst (λ (z : Joint). test z ≡ true) is t })
    (λ f. let s : find test joints ≡ Some joint = rw f at e in
    let F = found test joints joint s in
    record { place = suc F.place; below = let b = F.below in omega arith; there = F.there; passes = F.passes })

-- ---- at first

module _ (plan : PlanValue) where
  abbrev Gives : LateLink → Type 0
  Gives late = GivesInto plan late.source

  one_gives : (place : ℕ) (form : PartForm) (o : Option Joint) → link_from plan.joints place ≡ o → All Gives (late_link form place o)
  one_gives place (forms.Late file) (Some joint) e =
      let F = found (λ (j : Joint). j.giver == place) plan.joints joint e in
      All-cons Gives _ [] (F.place, F.below, ap (λ (j : Joint). j.giver) F.there ∙ eqb-true joint.giver place F.passes) (All-nil Gives)
  one_gives place (forms.Late file) None e = All-nil Gives
  one_gives place _ o e = All-nil Gives

  all_give : (place : ℕ) (parts : List PartLine) → All Gives (late_links plan.joints place parts)
  all_give place [] = All-nil Gives
  all_give place (part ∷ parts) = All-append Gives (late_link part.form place (link_from plan.joints place)) (late_links plan.joints (suc place) parts) (one_gives place part.form (link_from plan.joints place) refl) (all_give (suc place) parts)

  pub knows_first : KnowsPlan plan (cast_of plan)
  knows_first = record { many = length-replicate (length plan.parts) no_progress; links = all_give 0 plan.parts }

  -- ---- what is heard

  many_heard : (told : List Progress) (views : List (Option Progress)) → length views ≡ length told → length (heard_views told views) ≡ length told
  many_heard [] views e = refl
  many_heard (old ∷ olds) [] e = e
  many_heard (old ∷ olds) (view ∷ views) e = let r = many_heard olds views (omega arith) in omega arith

  pub knows_heard : (value : ConductorValue) (views : List (Option Progress)) → length views ≡ length value.told → KnowsPlan plan value → KnowsPlan plan (heard value views)
  knows_heard value views e k = record {
    many = many_heard value.told views e ∙ k.many;
    links = All-map Gives (heard_late (heard_views value.told views)) value.lates k.links;
  }

  -- ---- what is answered

  late_gives : (lates : List LateLink) (number : ℕ) (late : LateLink) → slice_get lates number ≡ Some late → All Gives lates → Gives late
  late_gives lates number late e all = subst Gives (get_or_from_slice_get lates number late late e) (All-get_or Gives lates number late (slice_get_within lates number late e) all)

  pub change_of_plan : (value : ConductorValue) (component : ℕ) (step : ChangeStep) (next : ConductorValue) → IsChange value component step next → KnowsPlan plan value → KnowsPlan plan next × GivesInto plan component
  change_of_plan value component step next C k =
      let gives = late_gives value.lates C.number C.late (C.due).there k.links in (
        subst (KnowsPlan plan) (sym C.goes_on) (record { many = k.many; links = All-set Gives value.lates C.number (one_step_more C.late) gives k.links }),
        subst (GivesInto plan) (sym C.its_source) gives,
      )

  pub knows_next : (value : ConductorValue) (phase : Phase) (next : ConductorValue) → Conducts value phase next → KnowsPlan plan value → KnowsPlan plan next × IsOfPlan plan phase
  knows_next value (phases.Send state) next C k = (subst (KnowsPlan plan) (sym C.2) (record { many = k.many; links = k.links }), tt)
  knows_next value (phases.Change component step) next C k = change_of_plan value component step next C.1 k
  knows_next value phases.Wait next C k = (subst (KnowsPlan plan) (sym C.2) k, tt)
  knows_next value phases.Over next C k = (subst (KnowsPlan plan) (sym C.2) k, tt)
  knows_next value phases.Failed next C k = (subst (KnowsPlan plan) (sym C.1) k, tt)
