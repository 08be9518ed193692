-- The acts that an order admits one after the other are those of the list, in time, and the other way round.
use Rattle.std.proofs.Common.{◌≡◌, ◌⊎◌, inl, inr, ℕ, zero, suc, ◌+◌, ◌<◌, ◌≤◌, Bool, true, false, not, ◌==◌, ◌&&◌, nat_eq, nat_lt, if◌then◌else◌, List, [], ◌∷◌, ◌++◌, length, drop, slice_get, Option, Some, None, refl, sym, ap, subst, ◌∙◌, arith}
use Rattle.std.specs.Prelude.{◌↔◌, count_by, replicate}
use Rattle.std.proofs.lemmas.Bool.{eqb-true}
use Rattle.std.proofs.lemmas.Grind.{common_steps}
use Rattle.omx_types.specs.declared.state.State.TheVariants.{Idle}
use Rattle.part_forms.specs.Kinds.{is_late}
use Rattle.il_machine.specs.declared.answer.Progress.{Progress}
use Rattle.script_lang.specs.declared.play_line.PartLine.{PartLine}
use Rattle.conductor.specs.Phases.{all_told}
use Rattle.play_forms.proofs.Places.{either}
use Rattle.play_forms.specs.Parts.{passes_at}
use Rattle.play_forms.specs.Plans.{IsValid, PlanValue}
use Rattle.audit_order.specs.declared.order.Change.{Change}
use Rattle.audit_order.specs.Ends.{link_of}
use Rattle.audit_order.specs.Steps.{Admits, IsComplete, OrderValue, is_begun, is_sending, nothing_asked}
use Rattle.audit_order.specs.Wanted.{AdmitsAll, AreInTime, AreLateSources, Asking, HaveLinks, Wanted, always, change_by, from_changes, may_change, may_go_back, sends_of, wanted}
use Rattle.audit_order.proofs.Left.{AreLeft, IsLawful, count_first, drop_past, late_there, left_by, left_first, left_of, nothing_lawful, one_if, rest_changes}
use Rattle.audit_order.proofs.InTime.{next_of, sent_all}
use Rattle.audit_order.proofs.Admitted.{goes_on}
use Rattle.audit_order.proofs.Linked.{all_linked}

-- ---- the late sources that are left, in the order of the script

module _ (plan : PlanValue) (changed : List Bool) where
  abbrev is_left : ℕ → Bool
  is_left p = passes_at is_late (slice_get plan.parts p) && not (is_begun changed p)

  abbrev picked : ℕ → List ℕ
  picked zero = []
  picked (suc n) = if is_left n then n ∷ picked n else picked n

  abbrev counts : ℕ → List ℕ → ℕ
  counts p sources = count_by (λ (k : ℕ). k == p) sources

  other_counts : (q p : ℕ) (sources : List ℕ) → nat_eq p q ≡ false → counts p (q ∷ sources) ≡ counts p sources
  other_counts q p sources apart = count_first q p sources ∙ ap (λ (b : Bool). count_by (λ (k : ℕ). k == p) sources + one_if b) apart ∙ omega arith

  apart : (p q : ℕ) → (p ≡ q → ⊥) → nat_eq p q ≡ false
  apart p q other = either (nat_eq p q) (λ t. absurd (other (eqb-true p q t))) (λ f. f)

  none_above : (n p : ℕ) → n ≤ p → counts p (picked n) ≡ 0
  none_above zero p above = refl
  none_above (suc n) p above = either (is_left n)
      (λ t. rw t (other_counts n p (picked n) (apart p n (λ e. omega (arith, above, e))) ∙ none_above n p (omega (arith, above))))
      (λ f. rw f (none_above n p (omega (arith, above))))

  same_counts : (p : ℕ) (sources : List ℕ) → counts p (p ∷ sources) ≡ counts p sources + 1
  same_counts p sources =
      let same : nat_eq p p ≡ true = grind (arith, common_steps) in
      count_first p p sources ∙ ap (λ (b : Bool). count_by (λ (k : ℕ). k == p) sources + one_if b) same

  one_at : (p : ℕ) → counts p (picked (suc p)) ≡ one_if (is_left p)
  one_at p = either (is_left p)
      (λ t. rw t (same_counts p (picked p) ∙ ap (λ (n : ℕ). n + 1) (none_above p p (omega arith))))
      (λ f. rw f (none_above p p (omega arith)))

  more_at : (n p : ℕ) → p < n → counts p (picked (suc n)) ≡ counts p (picked n)
  more_at n p below = either (is_left n)
      (λ t. rw t (other_counts n p (picked n) (apart p n (λ e. omega (arith, below, e)))))
      (λ f. rw f refl)

  once_below : (n p : ℕ) → p < n → counts p (picked n) ≡ one_if (is_left p)
  once_below zero p below = absurd (omega (arith, below))
  once_below (suc n) p below = either (nat_eq p n)
      (λ t. let e : p ≡ n = eqb-true p n t in subst (λ (k : ℕ). counts p (picked (suc k)) ≡ one_if (is_left p)) e (one_at p))
      (λ f. let less : p < n = grind (arith, common_steps, below, f) in more_at n p less ∙ once_below n p less)

  no_late : (p : ℕ) → length plan.parts ≤ p → one_if (is_left p) ≡ 0
  no_late p above = either (passes_at is_late (slice_get plan.parts p))
      (λ t. let below = late_there plan p t in absurd (omega (arith, below, above)))
      (λ f. rw f refl)

  some_left : AreLeft plan changed (picked (length plan.parts))
  some_left p = either (nat_lt p (length plan.parts))
      (λ t. once_below (length plan.parts) p (grind (arith, common_steps, t)))
      (λ f. let above : length plan.parts ≤ p = grind (arith, common_steps, f) in none_above (length plan.parts) p above ∙ sym (no_late p above))

-- ---- from the order to the list

record IsInTime (plan : PlanValue) (x : OrderValue) (askings : List Asking) (y : OrderValue) : Type 0 where
  sources : List ℕ
  left : AreLeft plan x.changed sources
  last : List ℕ
  last_left : AreLeft plan y.changed last
  in_time : AreInTime (left_of plan x sources) askings (left_of plan y last)
  lawful : IsLawful plan y

all_in_time : (plan : PlanValue) (askings : List Asking) (x y : OrderValue) → IsLawful plan x → AdmitsAll plan x askings y → IsInTime plan x askings y
all_in_time plan [] x y W e = record {
  sources = picked plan x.changed (length plan.parts);
  left = some_left plan x.changed;
  last = picked plan x.changed (length plan.parts);
  last_left = subst (λ (v : OrderValue). AreLeft plan v.changed (picked plan x.changed (length plan.parts))) (sym e) (some_left plan x.changed);
  in_time = ap (λ (v : OrderValue). left_of plan v (picked plan x.changed (length plan.parts))) e;
  lawful = subst (IsLawful plan) (sym e) W;
}
all_in_time plan (asking ∷ askings) x y W (mid, A, rest) =
    let lawful = (next_of plan asking.told asking.act x mid (picked plan mid.changed (length plan.parts)) W A (some_left plan mid.changed)).lawful in
    let I = all_in_time plan askings mid y lawful rest in
    let N = next_of plan asking.told asking.act x mid I.sources W A I.left in
    record {
      sources = N.before;
      left = N.left;
      last = I.last;
      last_left = I.last_left;
      in_time = subst (λ (l : List Wanted). AreInTime l (asking ∷ askings) (left_of plan y I.last)) (sym N.is) (refl, N.told_so, I.in_time);
      lawful = I.lawful;
    }

-- ---- from the list to the order

record IsAdmitted (plan : PlanValue) (x : OrderValue) (askings : List Asking) (rest : List Wanted) : Type 0 where
  y : OrderValue
  last : List ℕ
  admits : AdmitsAll plan x askings y
  left : AreLeft plan y.changed last
  is : rest ≡ left_of plan y last
  lawful : IsLawful plan y

all_admitted : (plan : PlanValue) (askings : List Asking) (x : OrderValue) (sources : List ℕ) (list rest : List Wanted) → IsLawful plan x → HaveLinks plan → AreLeft plan x.changed sources
    → left_of plan x sources ≡ list → AreInTime list askings rest → IsAdmitted plan x askings rest
all_admitted plan [] x sources list rest W links L e is = record { y = x; last = sources; admits = refl; left = L; is = is ∙ sym e; lawful = W }
all_admitted plan (asking ∷ askings) x sources [] rest W links L e is = absurd is
all_admitted plan (asking ∷ askings) x sources (next ∷ list) rest W links L e (act, may, more) =
    let G = goes_on plan asking.told x sources next list W links L e may in
    let A : Admits plan asking.told x asking.act G.y = subst (λ a. Admits plan asking.told x a G.y) (sym act) G.admits in
    let N = next_of plan asking.told asking.act x G.y G.sources W A G.left in
    let I = all_admitted plan askings G.y G.sources list rest N.lawful links G.left G.is more in
    record { y = I.y; last = I.last; admits = (G.y, A, I.admits); left = I.left; is = I.is; lawful = I.lawful }

-- ---- where nothing is left

front_none : {A : Type 0} (xs ys : List A) → xs ++ ys ≡ [] → xs ≡ []
front_none [] ys e = refl
front_none (x ∷ xs) ys e = absurd cc

back_none : {A : Type 0} (xs ys : List A) → xs ++ ys ≡ [] → ys ≡ []
back_none [] ys e = e
back_none (x ∷ xs) ys e = absurd cc

sends_none : (n : ℕ) (may : List Progress → Bool) (parts : List PartLine) → sends_of n may parts ≡ [] → length parts ≡ 0
sends_none n may [] e = refl
sends_none n may (part ∷ parts) e = absurd cc

drop_none : (parts : List PartLine) (k : ℕ) → drop k parts ≡ [] → length parts ≤ k
drop_none [] k e = omega arith
drop_none (part ∷ parts) zero e = absurd cc
drop_none (part ∷ parts) (suc k) e = let l = drop_none parts k e in omega (arith, l)

sends_all : (n : ℕ) (parts : List PartLine) → sends_of n always parts ≡ [] → parts ≡ []
sends_all n [] e = refl
sends_all n (part ∷ parts) e = absurd cc

changes_none : (plan : PlanValue) (before : Option ℕ) (sources : List ℕ) → from_changes plan before sources ≡ [] → length plan.parts ≡ 0
changes_none plan before [] e = sends_none 4 (all_told Idle) plan.parts (back_none (sends_of 3 (may_go_back plan before) plan.parts) _ e)
changes_none plan before (source ∷ sources) e =
    changes_none plan (Some source) sources (back_none (change_by (may_change plan before source) source (link_of plan source)) _ e)

rest_changes_none : (plan : PlanValue) (o : Option Change) (sources : List ℕ) → rest_changes plan o sources ≡ [] → length plan.parts ≡ 0
rest_changes_none plan None sources e = changes_none plan None sources e
rest_changes_none plan (Some change) sources e =
    changes_none plan (Some change.source) sources (back_none (drop change.made (change_by always change.source (link_of plan change.source))) _ e)

complete_by : (plan : PlanValue) (n : ℕ) (y : OrderValue) (last : List ℕ) → y.sends ≡ n → n ≤ 4 → left_by plan n y.sent y.change last ≡ [] → IsComplete plan y
complete_by plan zero y last is few e = inr (sends_none 1 always plan.parts (front_none _ _ e))
complete_by plan (suc zero) y last is few e = inr (sends_none 2 (all_told Idle) plan.parts (front_none _ _ (back_none (sends_of 1 always (drop y.sent plan.parts)) _ e)))
complete_by plan (suc (suc zero)) y last is few e = inr (rest_changes_none plan y.change last (back_none (sends_of 2 always (drop y.sent plan.parts)) _ e))
complete_by plan (suc (suc (suc zero))) y last is few e = inr (sends_none 4 (all_told Idle) plan.parts (back_none (sends_of 3 always (drop y.sent plan.parts)) _ e))
complete_by plan (suc (suc (suc (suc zero)))) y last is few e =
    let all = drop_none plan.parts y.sent (sends_all 4 (drop y.sent plan.parts) e) in
    inl (is, not_sending (length plan.parts) y all)
  where
    not_sending : (n : ℕ) (x : OrderValue) → n ≤ x.sent → is_sending n x ≡ false
    not_sending n x l = either (is_sending n x) (λ t. absurd (grind (arith, common_steps, t, l))) (λ f. f)
complete_by plan (suc (suc (suc (suc (suc n))))) y last is few e = absurd (omega (arith, few))

no_parts : (parts : List PartLine) → length parts ≡ 0 → parts ≡ []
no_parts [] e = refl
no_parts (x ∷ parts) e = absurd (omega (arith, e))

left_complete : (plan : PlanValue) (y : OrderValue) (last : List ℕ) → IsLawful plan y → AreLeft plan y.changed last → IsComplete plan y → left_of plan y last ≡ []
left_complete plan y last W L (inl done) =
    let all = sent_all (length plan.parts) y done.1 (omega (arith, done.0)) in
    (λ j. left_by plan (done.0 j) y.sent y.change last) ∙ ap (sends_of 4 always) (drop_past plan.parts y.sent all)
left_complete plan y last W L (inr none) =
    let zero_sends : y.sends ≡ 0 = zero_of y.sends (λ some. let l = W.some some in omega (arith, l, none)) in
    let nil = no_parts plan.parts none in
    (λ j. left_by plan (zero_sends j) y.sent y.change last) ∙ no_wanted last L nil
  where
    zero_of : (n : ℕ) → (1 ≤ n → ⊥) → n ≡ 0
    zero_of zero some = refl
    zero_of (suc n) some = absurd (some (omega arith))

    no_wanted : (sources : List ℕ) → AreLeft plan y.changed sources → plan.parts ≡ [] → wanted plan sources ≡ []
    no_wanted [] l nil = λ j. sends_of 1 always (nil j) ++ (sends_of 2 (all_told Idle) (nil j) ++ (sends_of 3 (may_go_back plan None) (nil j) ++ sends_of 4 (all_told Idle) (nil j)))
    no_wanted (q ∷ sources) l nil =
        let below = late_there plan q (left_first plan y.changed q sources l).0 in
        let few : length plan.parts ≡ 0 = ap length nil in
        absurd (omega (arith, below, few))

complete_left : (plan : PlanValue) (y : OrderValue) (last : List ℕ) → IsLawful plan y → AreLeft plan y.changed last → IsComplete plan y ↔ (left_of plan y last ≡ [])
complete_left plan y last W L = (left_complete plan y last W L, λ e. complete_by plan y.sends y last refl W.few e)

-- ---- from the beginning

late_all : (late : Bool) → one_if (late && true) ≡ one_if late
late_all true = refl
late_all false = refl

none_begun : (n p : ℕ) → is_begun (replicate n false) p ≡ false
none_begun zero p = refl
none_begun (suc n) zero = refl
none_begun (suc n) (suc p) = none_begun n p

late_left : (plan : PlanValue) (p : ℕ) → one_if (passes_at is_late (slice_get plan.parts p) && not (is_begun nothing_asked.changed p)) ≡ one_if (passes_at is_late (slice_get plan.parts p))
late_left plan p =
    ap (λ (b : Bool). one_if (passes_at is_late (slice_get plan.parts p) && not b)) (none_begun 32 p) ∙ late_all (passes_at is_late (slice_get plan.parts p))

pub in_time : (plan : PlanValue) (askings : List Asking) (x : OrderValue) → IsValid plan → AdmitsAll plan nothing_asked askings x
    → (sources : List ℕ) × (rest : List Wanted) × AreLateSources plan sources × AreInTime (wanted plan sources) askings rest × (IsComplete plan x ↔ (rest ≡ []))
in_time plan askings x V A =
    let I = all_in_time plan askings nothing_asked x (nothing_lawful plan V.most) A in
    (I.sources, left_of plan x I.last, (λ p. I.left p ∙ late_left plan p), I.in_time, complete_left plan x I.last I.lawful I.last_left)

pub admitted : (plan : PlanValue) (sources : List ℕ) (askings : List Asking) (rest : List Wanted) → IsValid plan → AreLateSources plan sources → AreInTime (wanted plan sources) askings rest
    → (x : OrderValue) × AdmitsAll plan nothing_asked askings x × (IsComplete plan x ↔ (rest ≡ []))
admitted plan sources askings rest V late is =
    let L : AreLeft plan nothing_asked.changed sources = λ p. late p ∙ sym (late_left plan p) in
    let I = all_admitted plan askings nothing_asked sources (wanted plan sources) rest (nothing_lawful plan V.most) (all_linked plan V) L refl is in
    (I.y, I.admits, subst (λ (l : List Wanted). IsComplete plan I.y ↔ (l ≡ [])) (sym I.is) (complete_left plan I.y I.last I.lawful I.left))
