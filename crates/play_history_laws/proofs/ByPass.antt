-- Who asked and who worked, by the passes of the entries that a log prints.
use Rattle.std.proofs.Common.{◌≡◌, ◌⊎◌, inl, inr, ℕ, zero, suc, ◌≤◌, Bool, true, false, not, All, List, [], ◌∷◌, ◌++◌, map, refl, sym, ◌∙◌, ap, subst, arith}
use Rattle.std.specs.Prelude.{Option, cond, filter}
use Rattle.std.proofs.lemmas.List.Elements.{All-cons, All-head, All-nil, All-tail, All-append}
use Rattle.omx_types.specs.declared.handle.Handle.{Handle}
use Rattle.il_machine.specs.declared.answer.Progress.{Progress}
use Rattle.il_machine.specs.Acts.{Act, Reply}
use Rattle.il_machine.specs.Run.{Run, Step}
use Rattle.il_machine.specs.World.{World}
use Rattle.machine_laws.proofs.Finding.{either}
use Rattle.conductor.specs.declared.phase.Phase.{Phase}
use Rattle.conductor.specs.declared.phase.Phase.TheVariants as phases
use Rattle.conductor.specs.Hearing.{ConductorValue}
use Rattle.play_forms.specs.Plans.{PlanValue}
use Rattle.play_log.specs.Entries.{Entry, is_unprinted, printed, step_of, steps_of}
use Rattle.play_plan_laws.specs.Assemblies.{PlayFiles}
use Rattle.play_result_laws.specs.Asked.{acts_of, is_unasked, sending, tuned}
use Rattle.play_result_laws.specs.Passes.{own_steps}
use Rattle.play_history_laws.specs.Passes.{AreUnrefused, RequestAlone}
use Rattle.play_history_laws.specs.Refused.{is_refused}
use Rattle.play_history_laws.specs.Requests.{is_request}
use Rattle.play_history_laws.proofs.Conducted.{AreAll, all_acts, all_sent, unasked_no}
use Rattle.play_history_laws.proofs.Printed.{did}
use Rattle.play_result_laws.specs.Rounds.{AreMade, IsConducting, asking_by, begins, looks, round}
use Rattle.play_history_laws.specs.Worked.{IsByPass, conducts}

-- a look, or a request
abbrev IsByChief : Act × Reply → Type 0
IsByChief step = (is_unprinted step.1 ≡ true) ⊎ (is_request step ≡ true)

all_looks : (handles : List Handle) (views : List (Option Progress)) → All IsByChief (looks handles views)
all_looks [] views = All-nil IsByChief
all_looks (handle ∷ handles) [] = All-nil IsByChief
all_looks (handle ∷ handles) (view ∷ views) = All-cons IsByChief (_, _) (looks handles views) (inl refl) (all_looks handles views)

all_requests : (xs : List (Act × Reply)) → AreAll xs → All IsByChief xs
all_requests [] A = All-nil IsByChief
all_requests (x ∷ xs) A = All-cons IsByChief x xs (inr A.0) (all_requests xs A.2)

module _ (plan : PlanValue) (files : PlayFiles) (handles : List Handle) where
  all_made : (phase : Phase) (made : List (Act × Reply)) → AreMade plan files handles phase made → All IsByChief made
  all_made (phases.Send state) made M = subst (λ (ys : List (Act × Reply)). All IsByChief ys) (sym M) (all_requests (map (sending state) handles) (all_sent (tuned plan files) handles state handles))
  all_made (phases.Change component step) made (l, b, at, M) =
      subst (λ (ys : List (Act × Reply)). All IsByChief ys) (sym M) (all_requests (acts_of (tuned plan files) handles (asking_by step l)) (all_acts (tuned plan files) handles (asking_by step l)))
  all_made phases.Wait made M = subst (λ (ys : List (Act × Reply)). All IsByChief ys) (sym M) (All-nil IsByChief)
  all_made phases.Over made M = subst (λ (ys : List (Act × Reply)). All IsByChief ys) (sym M) (All-nil IsByChief)
  all_made phases.Failed made M = subst (λ (ys : List (Act × Reply)). All IsByChief ys) (sym M) (All-nil IsByChief)

  pub all_conducted : (own : List (Act × Reply)) (value : ConductorValue) → IsConducting plan files handles own value → All IsByChief own
  all_conducted _ _ begins = All-nil IsByChief
  all_conducted _ _ (round before known views phase next made d m C M) =
      All-append IsByChief (before ++ looks handles views) made (All-append IsByChief before (looks handles views) (all_conducted before known d) (all_looks handles views)) (all_made phase made M)

-- ---- the entries

not_zero : (n : ℕ) → conducts n ≡ false → 1 ≤ n
not_zero zero f = absurd cc
not_zero (suc n) f = omega arith

is_zero : (n : ℕ) → conducts n ≡ true → n ≡ 0
is_zero zero t = refl
is_zero (suc n) t = absurd cc

module _ (entry : Entry) (w v : World) (step : Step w entry.act entry.reply v) (printed_it : is_unprinted entry.reply ≡ false)
    (accepted : is_request (step_of entry) ≡ false → is_refused entry.reply ≡ false)
    (alone : conducts entry.pass ≡ false → is_request (step_of entry) ≡ false) (own : conducts entry.pass ≡ true → IsByChief (step_of entry)) where
  by_pass : IsByPass entry
  by_pass = (
    λ t. either (conducts entry.pass) (λ c. is_zero entry.pass c)
        (λ f.
        let n = alone f in
        let u = did w v entry.act entry.reply step printed_it (accepted n) n in
        let z : false ≡ true = ap (λ (b : Bool). not b) (sym u) ∙ t in
        absurd cc),
    λ f. either (conducts entry.pass)
        (λ c. elim (own c) [
          | inl u ↦ (let z : true ≡ false = sym u ∙ printed_it in absurd cc)
          | inr t ↦
              let u : is_unasked entry.act entry.reply ≡ true = either (is_unasked entry.act entry.reply) (λ y. y) (λ y. let z : true ≡ false = ap (λ (b : Bool). not b) (sym y) ∙ f in absurd cc) in
              let z : true ≡ false = sym t ∙ unasked_no entry.act entry.reply u in
              absurd cc
        ])
        (λ n. not_zero entry.pass n),
  )

abbrev IsAccepted : Entry → Type 0
IsAccepted entry = is_request (step_of entry) ≡ false → is_refused entry.reply ≡ false

pub all_by_pass : (entries : List Entry) (w v : World) → Run w (steps_of entries) v → AreUnrefused entries → RequestAlone conducts entries → All IsByChief (own_steps conducts entries) → All IsByPass (printed entries)
all_by_pass [] w v R U N O = All-nil IsByPass
all_by_pass (e ∷ entries) w v (mid, met, step, rest) U N O =
    let others : List Entry = filter (λ (y : Entry). conducts y.pass) entries in
    let mine : conducts e.pass ≡ true → All IsByChief (step_of e ∷ own_steps conducts entries) = λ c. subst (λ (b : Bool). All IsByChief (map (λ (y : Entry). step_of y) (cond b (e ∷ others) others))) c O in
    let left : All IsByChief (own_steps conducts entries) = either (conducts e.pass)
    (λ c. All-tail IsByChief (step_of e) (own_steps conducts entries) (mine c))
    (λ f. subst (λ (b : Bool). All IsByChief (map (λ (y : Entry). step_of y) (cond b (e ∷ others) others))) f O) in
    let A = all_by_pass entries mid v rest (All-tail IsAccepted e entries U) (λ place y f o. N (suc place) y f o) left in
    either (is_unprinted e.reply)
    (λ u. subst (λ (b : Bool). All IsByPass (cond (not b) (e ∷ printed entries) (printed entries))) (sym u) A)
    (λ f.
    subst (λ (b : Bool). All IsByPass (cond (not b) (e ∷ printed entries) (printed entries))) (sym f)
    (All-cons IsByPass e (printed entries) (by_pass e w mid step f (All-head IsAccepted e entries U) (λ n. N 0 e refl n) (λ c. All-head IsByChief (step_of e) (own_steps conducts entries) (mine c))) A))
