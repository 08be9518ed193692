-- What is known by old views stays so as the play goes on.
use Rattle.std.proofs.Common.{◌≡◌, ◌≢◌, inl, inr, ℕ, zero, suc, ◌<◌, ◌≤◌, true, false, List, slice_get, Option, Some, None, sym, ◌∙◌, ap, subst, arith}
use Rattle.std.specs.Prelude.{MatchOption}
use Rattle.std.proofs.lemmas.Bool.{cases_eq, cases_lt}
use Rattle.il_machine.specs.declared.answer.Progress.{Progress}
use Rattle.conductor.specs.declared.phase.ChangeStep.{ChangeStep}
use Rattle.conductor.specs.declared.phase.LateLink.{LateLink}
use Rattle.conductor.specs.declared.phase.Phase.TheVariants as phases
use Rattle.conductor.specs.Hearing.{ConductorValue}
use Rattle.conductor.specs.Phases.{Conducts}
use Rattle.play_model.specs.Acts.{with_change}
use Rattle.play_model.specs.Changes.{Change}
use Rattle.play_model.specs.Play.{Play}
use Rattle.play_world_laws.specs.Cast.{Cast, components_of, script_place}
use Rattle.play_world_laws.proofs.Around.{change_else, change_here}
use Rattle.play_turn_laws.specs.Conducting.{AreCarriedOut, IsCarriedOut, IsChangeOf, IsLateAt, IsPlayConducting, IsPlayConductor, IsToldBy, IsUnderWay, step_to}
use Rattle.play_history_laws.specs.Following.{IsLater, IsLeft}
use Rattle.play_history_laws.specs.Behind.{AreOldViews, IsBehind, IsOld}
use Rattle.play_history_laws.proofs.Behind.{behind_on, heard_behind}

-- ---- a step that is carried out

out_left : (n : ℕ) (k j : Change) → IsLeft k j → IsCarriedOut n k.step → IsCarriedOut n j.step
out_left n k j F O = elim (cases_lt k.step 3) [
  | inl b ↦ few n b O
  | inr b ↦ subst (λ (s : ℕ). IsCarriedOut n s) (sym (F.more b)) O
]
  where
    few : (n : ℕ) → k.step < 3 → IsCarriedOut n k.step → IsCarriedOut n j.step
    few zero b O = F.few O
    few (suc zero) b O = absurd (omega (arith, b, O))
    few (suc (suc zero)) b O = absurd (omega (arith, b, O))
    few (suc (suc (suc zero))) b O = absurd (omega (arith, b, O))
    few (suc (suc (suc (suc n)))) b O = absurd O

out_way : (n acts : ℕ) → IsCarriedOut n acts → IsUnderWay n acts
out_way zero acts O = O
out_way (suc zero) acts O = (omega (arith, O), omega (arith, O))
out_way (suc (suc zero)) acts O = (omega (arith, O), omega (arith, O))
out_way (suc (suc (suc zero))) acts O = (omega (arith, O), omega (arith, O))
out_way (suc (suc (suc (suc n)))) acts O = absurd O

-- ---- the links

module _ (x : Cast) (recent : ℕ) (p q : Play) (L : IsLater p q) where
  told_on : (l : ℕ) (late : LateLink) → IsToldBy (p.change l) late → IsToldBy (q.change l) late
  told_on l late T =
      let o : (p.change l).output ≤ (q.change l).output = L.ports true l in
      let i : (p.change l).input ≤ (q.change l).input = L.ports false l in
      record {
        output_disabled = λ t. let m = T.output_disabled t in omega (arith, o, m);
        input_disabled = λ t. let m = T.input_disabled t in omega (arith, i, m);
        output_enabled = λ t. let m = T.output_enabled t in omega (arith, o, m);
        input_enabled = λ t. let m = T.input_enabled t in omega (arith, i, m);
      }

  late_on : (l : ℕ) (late : LateLink) → IsLateAt x recent p l late → IsCarriedOut late.steps (q.change l).step → IsLateAt x recent q l late
  late_on l late K O = record { of_link = K.of_link; way = out_way late.steps (q.change l).step O; told = told_on l late K.told; disabled = K.disabled; latest = K.latest }

  -- it conducts and has heard as before
  old_on : (value : ConductorValue) → IsPlayConducting x recent p value
      → ((c : ℕ) → c < components_of x → (h : Progress) × (slice_get value.told (script_place x c) ≡ Some h) × IsBehind x p c h) → AreCarriedOut x q value.lates → IsOld x recent q value
  old_on value C T O = record {
    conducting = record {
      sinks = C.sinks;
      many = C.many;
      lates = record {
        each = λ i late e. let k = (C.lates).each i late e in let K = k.1 in (k.0, late_on k.0 late K (O i k.0 late e K.of_link));
        some = λ l b t. let k = (C.lates).some l b t in let K = k.3 in (k.0, k.1, k.2, late_on l k.1 K (O k.0 l k.1 k.2 K.of_link));
        rising = (C.lates).rising;
      };
      sends = C.sends ∙ sym L.phase;
    };
    told = λ c b. let t = T c b in (t.0, t.1, behind_on x p q c t.0 L t.2);
    carried = O;
  }

-- no act of a change was made
pub old_stays : (x : Cast) (recent : ℕ) (p q : Play) (value : ConductorValue) → IsLater p q → ((l : ℕ) → IsLeft (p.change l) (q.change l)) → IsOld x recent p value → IsOld x recent q value
old_stays x recent p q value L F V = old_on x recent p q L value V.conducting V.told (λ i l late e N. out_left late.steps (p.change l) (q.change l) (F l) (V.carried i l late e N))

-- a step that was answered is carried out
pub old_changed : (x : Cast) (recent : ℕ) (p q : Play) (value next : ConductorValue) (component : ℕ) (step : ChangeStep) (l : ℕ)
    → IsOld x recent p value → Conducts value (phases.Change component step) next → IsChangeOf x p component step next l
    → IsLater p q → ((k : ℕ) → k ≢ l → IsLeft (p.change k) (q.change k)) → (q.change l).step ≡ step_to step → IsOld x l q next
old_changed x recent p q value next component step l V C D L F to =
    let same = (C.1).goes_on in
    old_on x l p q L next D.conducting (λ c b. let t = V.told c b in (t.0, ap (λ (y : ConductorValue). slice_get y.told (script_place x c)) same ∙ t.1, t.2)) carried
  where
    done : Play
    done = with_change l (λ (k : Change). record k { step = step_to step }) p

    done_here : (done.change l).step ≡ step_to step
    done_here = ap (λ (k : Change). k.step) (change_here l (λ (k : Change). record k { step = step_to step }) p)

    done_else : (k : ℕ) → k ≢ l → done.change k ≡ p.change k
    done_else k n = change_else l (λ (k : Change). record k { step = step_to step }) p k n

    carried : AreCarriedOut x q next.lates
    carried i k late e N =
        let O = D.carried done done_here (λ m n. ap (λ (z : Change). z.step) (done_else m n)) i k late e N in
        elim (cases_eq k l) [
          | inl is ↦
              let now : (q.change k).step ≡ (done.change k).step = subst (λ (m : ℕ). (q.change m).step ≡ (done.change m).step) (sym is) (to ∙ sym done_here) in
              subst (λ (s : ℕ). IsCarriedOut late.steps s) (sym now) O
          | inr n ↦ out_left late.steps (p.change k) (q.change k) (F k n) (subst (λ (z : Change). IsCarriedOut late.steps z.step) (done_else k n) O)
        ]

-- ---- views

-- views that were read stay views
pub views_on : (x : Cast) (p q : Play) (views : List (Option Progress)) → IsLater p q → AreOldViews x p views → AreOldViews x q views
views_on x p q views T V = record { each = λ c b. let v = V.each c b in (v.0, v.1, on c v.0 v.2) }
  where
    on : (c : ℕ) (view : Option Progress) → MatchOption view (Unit {0}) (IsBehind x p c) → MatchOption view (Unit {0}) (IsBehind x q c)
    on c None M = M
    on c (Some h) M = behind_on x p q c h T M

-- a conductor that has heard all is one of them
pub heard_old : (x : Cast) (recent : ℕ) (p : Play) (value : ConductorValue) → IsPlayConductor x recent p value → IsOld x recent p value
heard_old x recent p value V = record {
  conducting = V.conducting;
  told = λ c b. let t = V.told c b in (t.0, t.1, heard_behind x recent p c t.0 t.2);
  carried = V.carried;
}
