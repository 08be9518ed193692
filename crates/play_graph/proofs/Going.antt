-- From stage to stage, over several calls.
use Rattle.std.proofs.Common.{◌≡◌, ℕ, ◌+◌, false, length, slice_get, Result, Ok, Err, subst}
use Rattle.std.specs.Prelude.{OnErr}
use Rattle.il_machine.specs.declared.answer.Progress.{Progress}
use Rattle.il_graph.specs.Shown.{Shown}
use Rattle.play_forms.specs.Plans.{PlanValue}
use Rattle.play_build_laws.specs.Stages.{IsStage, Stage, Making, Factoring, Setting, Filing, Joining}
use Rattle.play_build_laws.proofs.Stages.{all_factored, all_filed, all_made, all_set, one_factored}
use Rattle.play_plan_laws.specs.Assemblies.{PlayFiles, assembly_of, factors_in}
use Rattle.play_graph.specs.Making.{GoesOn, IsAt, SomeAt}
use Rattle.play_graph.proofs.Building.{turns}

pub on_err : {T E : Type 0} (r : Result T E) (P : Type 0) → P → OnErr r P
on_err (Ok x) P p = tt
on_err (Err e) P p = p

module _ {S K : Type 0} (plan : PlanValue) where
  pub some_on : (from to : Stage) (g k : Shown S K Progress) → SomeAt plan from g → GoesOn plan from to g k → SomeAt plan to k
  some_on from to g k (files, A) goes = (files, goes files A)

  pub goes_then : (from mid to : Stage) (g k m : Shown S K Progress) → GoesOn plan from mid g k → GoesOn plan mid to k m → GoesOn plan from to g m
  goes_then from mid to g k m a b = λ files A. b files (a files A)

  -- on to the next kind of act
  pub on_factors : (files : PlayFiles) (g k : Shown S K Progress) → IsAt plan files (Making 0) g → GoesOn plan (Making 0) (Making (length plan.parts)) g k → IsAt plan files (Factoring 0 0) k
  on_factors files g k A goes = turns plan (Making (length plan.parts)) (Factoring 0 0) k (λ f handles w W. all_made (assembly_of plan f) handles w W) files (goes files A)

  pub on_ends : (files : PlayFiles) (g k : Shown S K Progress) → IsAt plan files (Factoring 0 0) g → GoesOn plan (Factoring 0 0) (Factoring (length plan.parts) 0) g k → IsAt plan files (Setting 0 false) k
  on_ends files g k A goes = turns plan (Factoring (length plan.parts) 0) (Setting 0 false) k (λ f handles w W. all_factored (assembly_of plan f) handles w W) files (goes files A)

  pub on_files : (files : PlayFiles) (g k : Shown S K Progress) → IsAt plan files (Setting 0 false) g → GoesOn plan (Setting 0 false) (Setting (length plan.joints) false) g k → IsAt plan files (Filing 0) k
  on_files files g k A goes = turns plan (Setting (length plan.joints) false) (Filing 0) k (λ f handles w W. all_set (assembly_of plan f) handles w W) files (goes files A)

  pub on_tunnels : (files : PlayFiles) (k : Shown S K Progress) → IsAt plan files (Filing (length plan.parts)) k → IsAt plan files (Joining 0) k
  on_tunnels files k A = turns plan (Filing (length plan.parts)) (Joining 0) k (λ f handles w W. all_filed (assembly_of plan f) handles w W) files A

  -- all factors of the component are set
  pub factored_on : (place n : ℕ) (g k : Shown S K Progress) → n ≡ length (factors_in (slice_get plan.parts place)) → GoesOn plan (Factoring place 0) (Factoring place n) g k → GoesOn plan (Factoring place 0) (Factoring (place + 1) 0) g k
  factored_on place n g k e goes = λ files A.
      turns plan (Factoring place n) (Factoring (place + 1) 0) k (λ f handles w W. one_factored (assembly_of plan f) handles w place (subst (λ (m : ℕ). IsStage (assembly_of plan f) (Factoring place m) handles w) e W)) files (goes files A)
