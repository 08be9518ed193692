-- What an order admits is the next of the list, and in time.
use Rattle.std.proofs.Common.{◌≡◌, ◌⊎◌, inl, inr, ℕ, zero, suc, ◌+◌, ◌<◌, ◌≤◌, Bool, true, false, ◌&&◌, List, [], ◌∷◌, ◌++◌, length, drop, set, slice_get, Option, Some, None, refl, sym, ap, subst, ◌∙◌, arith, length-set}
use Rattle.std.proofs.lemmas.Bool.{and_parts}
use Rattle.std.proofs.lemmas.Grind.{common_steps}
use Rattle.omx_types.specs.declared.state.State.TheVariants.{Idle, Executing}
use Rattle.part_forms.specs.Kinds.{is_late}
use Rattle.il_machine.specs.declared.answer.Progress.{Progress}
use Rattle.act_text.specs.declared.act.TextAct.{TextAct}
use Rattle.script_lang.specs.declared.play_line.PartLine.{PartLine}
use Rattle.conductor.specs.Phases.{all_told, has_settings}
use Rattle.play_forms.proofs.Places.{Some_same, either}
use Rattle.play_forms.specs.Parts.{passes_at}
use Rattle.play_forms.specs.Plans.{PlanValue}
use Rattle.audit_order.specs.declared.ends.LinkEnds.{LinkEnds}
use Rattle.audit_order.specs.declared.order.Change.{Change}
use Rattle.audit_order.specs.Asked.{change_act}
use Rattle.audit_order.specs.Ends.{link_of}
use Rattle.audit_order.specs.Steps.{Admits, AreLatesChanged, BeginsChange, BeginsSend, CanGoBack, ChangesOn, IsRested, MayChange, OrderValue, SendsOn, both_disabled, is_changing, is_over, is_sending, last_told}
use Rattle.audit_order.specs.Wanted.{Wanted, always, change_by, change_of, from_changes, is_changed, may_change, may_go_back, send_to, sends_of, sinks_over, want, wanted}
use Rattle.audit_order.proofs.Left.{AreLeft, IsChange, IsLawful, before_of, change_left, drop_past, each_over, left_by, left_more, left_of, may_make, none_left_over, over_changed, rest_changes, rest_none, send_left, sends_first, two_true}

pub sent_all : (n : ℕ) (x : OrderValue) → is_sending n x ≡ false → 1 ≤ x.sends → n ≤ x.sent
sent_all n x e some = grind (arith, common_steps, e, some)

pub still_sending : (n : ℕ) (x : OrderValue) → is_sending n x ≡ true → (1 ≤ x.sends) × (x.sent < n)
still_sending n x e =
    let some : 1 ≤ x.sends = grind (arith, common_steps, e) in
    let less : x.sent < n = grind (arith, common_steps, e) in
    (some, less)

some_there : {A : Type 0} (xs : List A) (x : A) → slice_get xs 0 ≡ Some x → 1 ≤ length xs
some_there [] x e = absurd cc
some_there (y ∷ xs) x e = omega arith

-- Where the act led to this order, and so much is left there, it was the next of what was left before, and in time.
pub record IsNextOf (plan : PlanValue) (told : List Progress) (act : TextAct) (x y : OrderValue) (sources : List ℕ) : Type 0 where
  pub before : List ℕ
  pub left : AreLeft plan x.changed before
  pub may : List Progress → Bool
  pub is : left_of plan x before ≡ want may act ∷ left_of plan y sources
  pub told_so : may told ≡ true
  pub lawful : IsLawful plan y

-- ---- a state is sent on

sends_next : (plan : PlanValue) (told : List Progress) (act : TextAct) (x y : OrderValue) (sources : List ℕ) → IsLawful plan x → SendsOn plan x act y → AreLeft plan y.changed sources
    → IsNextOf plan told act x y sources
sends_next plan told act x y sources W H L =
    let both = still_sending (length plan.parts) x H.sending in
    let next : OrderValue = record x { sent = x.sent + 1 } in
    let one = send_left plan x.sends x.sent x.change sources H.part both.0 W.few H.there in
    record {
      before = sources;
      left = subst (λ (v : OrderValue). AreLeft plan v.changed sources) H.goes_on L;
      may = always;
      is = one ∙ (λ j. want always (sym H.is j) ∷ left_of plan (sym H.goes_on j) sources);
      told_so = refl;
      lawful = subst (IsLawful plan) (sym H.goes_on) (record {
        most = W.most;
        size = W.size;
        few = W.few;
        some = W.some;
        changes = λ change is. let c = W.changes change is in absurd (omega (arith, both.1, c.sent));
        late = W.late;
      });
    }

-- ---- a change goes on

two_disabled : (ends : LinkEnds) (source made : ℕ) (told : List Progress) → (made ≡ 2 → both_disabled ends told source ≡ true) → may_make ends source made told ≡ true
two_disabled ends source zero told all = refl
two_disabled ends source (suc zero) told all = refl
two_disabled ends source (suc (suc zero)) told all = all refl
two_disabled ends source (suc (suc (suc made))) told all = refl

pub small_made : (change : Change) → is_changing (Some change) ≡ true → change.made < 8
small_made change e = grind (arith, common_steps, e)

-- a change of which no more is left of what was sent before
pub left_two : (plan : PlanValue) (x : OrderValue) (sources : List ℕ) → x.sends ≡ 2 → length plan.parts ≤ x.sent → left_of plan x sources ≡ rest_changes plan x.change sources
left_two plan x sources two all =
    (λ j. left_by plan (two j) x.sent x.change sources)
    ∙ ap (λ (ps : List PartLine). sends_of 2 always ps ++ rest_changes plan x.change sources) (drop_past plan.parts x.sent all)

changes_next : (plan : PlanValue) (told : List Progress) (act : TextAct) (x y : OrderValue) (sources : List ℕ) → IsLawful plan x → ChangesOn plan told x act y → AreLeft plan y.changed sources
    → IsNextOf plan told act x y sources
changes_next plan told act x y sources W H L =
    let c : Change = H.change in
    let K = W.changes c H.last in
    let small = small_made c (subst (λ (o : Option Change). is_changing o ≡ true) H.last H.changing) in
    let more : Change = record { source = c.source; made = c.made + 1 } in
    let next : OrderValue = record x { change = Some more } in
    let tail : List Wanted = from_changes plan (Some c.source) sources in
    let one : drop c.made (change_by always c.source (link_of plan c.source)) ≡ want (may_make H.ends c.source c.made) (change_act H.ends c.made) ∷ drop (c.made + 1) (change_by always c.source (link_of plan c.source)) =
    rw H.link (change_left H.ends c.source c.made K.begun small) in
    let was : left_of plan x sources ≡ drop c.made (change_by always c.source (link_of plan c.source)) ++ tail =
    left_two plan x sources K.sends K.sent ∙ ap (λ (o : Option Change). rest_changes plan o sources) H.last in
    let now : left_of plan next sources ≡ drop (c.made + 1) (change_by always c.source (link_of plan c.source)) ++ tail = left_two plan next sources K.sends K.sent in
    record {
      before = sources;
      left = subst (λ (v : OrderValue). AreLeft plan v.changed sources) H.goes_on L;
      may = may_make H.ends c.source c.made;
      is = was ∙ ap (λ (l : List Wanted). l ++ tail) one
          ∙ (λ j. want (may_make H.ends c.source c.made) (sym H.is j) ∷ (sym now ∙ ap (λ (v : OrderValue). left_of plan v sources) (sym H.goes_on)) j);
      told_so = two_disabled H.ends c.source c.made told H.disabled;
      lawful = subst (IsLawful plan) (sym H.goes_on) (record {
        most = W.most;
        size = W.size;
        few = W.few;
        some = W.some;
        changes = λ change is.
            let same : more ≡ change = Some_same more change is in
            subst (IsChange plan next) same (record { sends = K.sends; sent = K.sent; begun = omega arith; few = omega (arith, small); late = K.late });
        late = W.late;
      });
    }

-- ---- a change begins

pub few_made : (plan : PlanValue) (x : OrderValue) → IsLawful plan x → (change : Change) → x.change ≡ Some change → change.made ≤ 8
few_made plan x W change is = (W.changes change is).few

begun_next : (plan : PlanValue) (told : List Progress) (act : TextAct) (x y : OrderValue) (sources : List ℕ) → IsLawful plan x → BeginsChange plan told x act y → AreLeft plan y.changed sources
    → IsNextOf plan told act x y sources
begun_next plan told act x y sources W H L =
    let q = H.source in
    let M = H.may in
    let ends : LinkEnds = M.ends in
    let first : Change = record { source = q; made = 1 } in
    let next : OrderValue = record x { change = Some first; changed = set x.changed q true } in
    let all = sent_all (length plan.parts) x H.rested.sent (omega (arith, H.sends)) in
    let may = may_change plan (before_of x.change) q in
    let tail : List Wanted = from_changes plan (Some q) sources in
    let was : left_of plan x (q ∷ sources) ≡ change_by may q (link_of plan q) ++ tail =
    left_two plan x (q ∷ sources) H.sends all ∙ rest_none plan x.change (q ∷ sources) (few_made plan x W) H.rested.changed in
    let now : left_of plan next sources ≡ drop 1 (change_by always q (link_of plan q)) ++ tail = left_two plan next sources H.sends all in
    let one : change_by may q (link_of plan q) ≡ want may (change_act ends 0) ∷ drop 1 (change_by always q (link_of plan q)) = rw M.link refl in
    record {
      before = q ∷ sources;
      left = left_more plan x.changed q sources (omega (arith, M.there, W.most, W.size)) M.late M.unchanged (subst (λ (v : OrderValue). AreLeft plan v.changed sources) H.goes_on L);
      may = may;
      is = was ∙ ap (λ (l : List Wanted). l ++ tail) one
          ∙ (λ j. want may (sym M.is j) ∷ (sym now ∙ ap (λ (v : OrderValue). left_of plan v sources) (sym H.goes_on)) j);
      told_so = two_true (is_changed plan (before_of x.change) told) (all_told Executing told && has_settings (slice_get told q))
          (over_changed plan told x.change ∙ H.rested.over) (two_true (all_told Executing told) (has_settings (slice_get told q)) H.told_so M.cause);
      lawful = subst (IsLawful plan) (sym H.goes_on) (record {
        most = W.most;
        size = length-set x.changed q true ∙ W.size;
        few = W.few;
        some = W.some;
        changes = λ change is.
            let same : first ≡ change = Some_same first change is in
            subst (IsChange plan next) same (record { sends = H.sends; sent = all; begun = omega arith; few = omega arith; late = M.late });
        late = λ many. absurd (omega (arith, many, H.sends));
      });
    }

-- ---- a state begins to be sent

-- so much is left where the state of that number was sent to the first component
record Begins (plan : PlanValue) (told : List Progress) (x : OrderValue) (part : PartLine) (sources : List ℕ) : Type 0 where
  before : List ℕ
  left : AreLeft plan x.changed before
  may : List Progress → Bool
  is : left_of plan x before ≡ want may (send_to (x.sends + 1) part) ∷ left_by plan (x.sends + 1) 1 None sources
  told_so : may told ≡ true

begins_at : (plan : PlanValue) (told : List Progress) (x : OrderValue) (part : PartLine) (sources : List ℕ) (n : ℕ) → x.sends ≡ n → IsLawful plan x → IsRested plan told x → n < 4
    → last_told n told ≡ true → (n ≡ 2 → CanGoBack plan told x.changed) → slice_get plan.parts 0 ≡ Some part → AreLeft plan x.changed sources → Begins plan told x part sources
begins_at plan told x part sources zero n W R few last back there L = record {
  before = sources;
  left = L;
  may = always;
  is = (λ j. left_by plan (n j) x.sent x.change sources)
      ∙ ap (λ (l : List Wanted). l ++ (sends_of 2 (all_told Idle) plan.parts ++ from_changes plan None sources)) (sends_first 1 always plan.parts part there)
      ∙ (λ j. want always (send_to ((sym n) j + 1) part) ∷ left_by plan ((sym n) j + 1) 1 None sources);
  told_so = refl;
}
begins_at plan told x part sources (suc zero) n W R few last back there L =
    let all = sent_all (length plan.parts) x R.sent (omega (arith, n)) in
    record {
      before = sources;
      left = L;
      may = all_told Idle;
      is = (λ j. left_by plan (n j) x.sent x.change sources)
          ∙ ap (λ (ps : List PartLine). sends_of 1 always ps ++ (sends_of 2 (all_told Idle) plan.parts ++ from_changes plan None sources)) (drop_past plan.parts x.sent all)
          ∙ ap (λ (l : List Wanted). l ++ from_changes plan None sources) (sends_first 2 (all_told Idle) plan.parts part there)
          ∙ (λ j. want (all_told Idle) (send_to ((sym n) j + 1) part) ∷ left_by plan ((sym n) j + 1) 1 None sources);
      told_so = last;
    }
begins_at plan told x part sources (suc (suc zero)) n W R few last back there L =
    let all = sent_all (length plan.parts) x R.sent (omega (arith, n)) in
    let can = back refl in
    let may = may_go_back plan (before_of x.change) in
    record {
      before = [];
      left = none_left_over plan x.changed can.lates;
      may = may;
      is = left_two plan x [] n all ∙ rest_none plan x.change [] (few_made plan x W) R.changed
          ∙ ap (λ (l : List Wanted). l ++ sends_of 4 (all_told Idle) plan.parts) (sends_first 3 may plan.parts part there)
          ∙ (λ j. want may (send_to ((sym n) j + 1) part) ∷ left_by plan ((sym n) j + 1) 1 None sources);
      told_so = two_true (is_changed plan (before_of x.change) told) (all_told Executing told && sinks_over plan.parts told)
          (over_changed plan told x.change ∙ R.over) (two_true (all_told Executing told) (sinks_over plan.parts told) last (each_over plan.parts told can.sinks));
    }
begins_at plan told x part sources (suc (suc (suc zero))) n W R few last back there L =
    let all = sent_all (length plan.parts) x R.sent (omega (arith, n)) in
    record {
      before = sources;
      left = L;
      may = all_told Idle;
      is = (λ j. left_by plan (n j) x.sent x.change sources)
          ∙ ap (λ (ps : List PartLine). sends_of 3 always ps ++ sends_of 4 (all_told Idle) plan.parts) (drop_past plan.parts x.sent all)
          ∙ sends_first 4 (all_told Idle) plan.parts part there
          ∙ (λ j. want (all_told Idle) (send_to ((sym n) j + 1) part) ∷ left_by plan ((sym n) j + 1) 1 None sources);
      told_so = last;
    }
begins_at plan told x part sources (suc (suc (suc (suc n)))) e W R few last back there L = absurd (omega (arith, few))

late_kept : {P : Type 0} (n : ℕ) → 3 ≤ n + 1 → (n ≡ 2 → P) → (3 ≤ n → P) → P
late_kept zero h two three = absurd (omega (arith, h))
late_kept (suc zero) h two three = absurd (omega (arith, h))
late_kept (suc (suc zero)) h two three = two refl
late_kept (suc (suc (suc n))) h two three = three (omega arith)

send_next : (plan : PlanValue) (told : List Progress) (act : TextAct) (x y : OrderValue) (sources : List ℕ) → IsLawful plan x → BeginsSend plan told x act y → AreLeft plan y.changed sources
    → IsNextOf plan told act x y sources
send_next plan told act x y sources W H L =
    let next : OrderValue = record { sends = x.sends + 1; sent = 1; change = None; changed = x.changed } in
    let B = begins_at plan told x H.part sources x.sends refl W H.rested H.few H.last H.back H.there (subst (λ (v : OrderValue). AreLeft plan v.changed sources) H.goes_on L) in
    record {
      before = B.before;
      left = B.left;
      may = B.may;
      is = B.is ∙ (λ j. want B.may (sym H.is j) ∷ left_of plan (sym H.goes_on j) sources);
      told_so = B.told_so;
      lawful = subst (IsLawful plan) (sym H.goes_on) (record {
        most = W.most;
        size = W.size;
        few = omega (arith, H.few);
        some = λ some. some_there plan.parts H.part H.there;
        changes = λ change is. absurd cc;
        late = λ many. late_kept x.sends many (λ two. (H.back two).lates) (λ three. W.late three);
      });
    }

pub next_of : (plan : PlanValue) (told : List Progress) (act : TextAct) (x y : OrderValue) (sources : List ℕ) → IsLawful plan x → Admits plan told x act y → AreLeft plan y.changed sources
    → IsNextOf plan told act x y sources
next_of plan told act x y sources W (inl H) L = sends_next plan told act x y sources W H L
next_of plan told act x y sources W (inr (inl H)) L = changes_next plan told act x y sources W H L
next_of plan told act x y sources W (inr (inr (inl H))) L = begun_next plan told act x y sources W H L
next_of plan told act x y sources W (inr (inr (inr H))) L = send_next plan told act x y sources W H L
