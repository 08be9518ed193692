-- The next of the list is admitted, where it stands in time.
use Rattle.std.proofs.Common.{◌≡◌, ◌⊎◌, inl, inr, ℕ, zero, suc, ◌+◌, ◌<◌, ◌≤◌, Bool, true, false, ◌==◌, ◌&&◌, if◌then◌else◌, List, [], ◌∷◌, ◌++◌, length, drop, set, slice_get, Option, Some, None, refl, sym, ap, subst, ◌∙◌, arith}
use Rattle.std.proofs.lemmas.Bool.{and_parts}
use Rattle.omx_types.specs.declared.state.State.TheVariants.{Idle, Executing}
use Rattle.part_forms.specs.Kinds.{is_late}
use Rattle.il_machine.specs.declared.answer.Progress.{Progress}
use Rattle.act_text.specs.declared.act.TextAct.{TextAct}
use Rattle.script_lang.specs.declared.play_line.PartLine.{PartLine}
use Rattle.conductor.specs.Phases.{all_told, has_settings}
use Rattle.play_forms.proofs.Places.{either}
use Rattle.play_forms.specs.Parts.{passes_at}
use Rattle.play_forms.specs.Plans.{PlanValue}
use Rattle.audit_order.specs.declared.ends.LinkEnds.{LinkEnds}
use Rattle.audit_order.specs.declared.order.Change.{Change}
use Rattle.audit_order.specs.Asked.{change_act}
use Rattle.audit_order.specs.Ends.{link_of}
use Rattle.audit_order.specs.Steps.{Admits, CanGoBack, OrderValue, is_changing, is_over, is_sending, last_told}
use Rattle.audit_order.specs.Wanted.{HaveLinks, Wanted, always, change_by, from_changes, is_changed, may_change, may_go_back, send_to, sends_of, sinks_over, want}
use Rattle.audit_order.proofs.Left.{AreLeft, IsLawful, before_of, change_left, drop_past, late_there, left_by, left_first, left_less, left_none, left_of, may_make, over_changed, over_each, rest_changes, rest_none, send_left, sends_first}
use Rattle.audit_order.proofs.InTime.{few_made, left_two, sent_all, small_made, still_sending}

-- The act is admitted, and leads to an order where this is left.
pub record GoesOn (plan : PlanValue) (told : List Progress) (x : OrderValue) (next : Wanted) (rest : List Wanted) : Type 0 where
  pub y : OrderValue
  pub sources : List ℕ
  pub admits : Admits plan told x next.act y
  pub left : AreLeft plan y.changed sources
  pub is : left_of plan y sources ≡ rest

pub there_at : {A : Type 0} (xs : List A) (k : ℕ) → k < length xs → (x : A) × (slice_get xs k ≡ Some x)
there_at [] k l = absurd (omega (arith, l))
there_at (x ∷ xs) zero l = (x, refl)
there_at (x ∷ xs) (suc k) l = there_at xs k (omega (arith, l))

head_is : (w next : Wanted) (list rest : List Wanted) → w ∷ list ≡ next ∷ rest → w ≡ next
head_is w next list rest e = cc

tail_is : (w next : Wanted) (list rest : List Wanted) → w ∷ list ≡ next ∷ rest → list ≡ rest
tail_is w next list rest e = cc

module _ (plan : PlanValue) (told : List Progress) (x : OrderValue) (sources : List ℕ) (next : Wanted) (rest : List Wanted) (W : IsLawful plan x) (L : AreLeft plan x.changed sources)
    (is : left_of plan x sources ≡ next ∷ rest) (may : next.may told ≡ true) where
  -- a state is sent on
  goes_sending : is_sending (length plan.parts) x ≡ true → GoesOn plan told x next rest
  goes_sending sending =
      let both = still_sending (length plan.parts) x sending in
      let part = there_at plan.parts x.sent both.1 in
      let y : OrderValue = record x { sent = x.sent + 1 } in
      let one = sym (send_left plan x.sends x.sent x.change sources part.0 both.0 W.few part.1) ∙ is in
      let act = ap (λ (w : Wanted). w.act) (head_is _ next (left_of plan y sources) rest one) in
      record {
        y = y;
        sources = sources;
        admits = inl (record { sending = sending; part = part.0; there = part.1; is = sym act; goes_on = refl });
        left = L;
        is = tail_is _ next _ rest one;
      }

  -- a change goes on
  goes_changing : HaveLinks plan → is_sending (length plan.parts) x ≡ false → (c : Change) → x.change ≡ Some c → is_changing x.change ≡ true → GoesOn plan told x next rest
  goes_changing links sent c last changing =
      let K = W.changes c last in
      let link = links c.source K.late in
      let ends : LinkEnds = link.0 in
      let small = small_made c (subst (λ (o : Option Change). is_changing o ≡ true) last changing) in
      let y : OrderValue = record x { change = Some (record { source = c.source; made = c.made + 1 }) } in
      let tail : List Wanted = from_changes plan (Some c.source) sources in
      let one : drop c.made (change_by always c.source (link_of plan c.source)) ≡ want (may_make ends c.source c.made) (change_act ends c.made) ∷ drop (c.made + 1) (change_by always c.source (link_of plan c.source)) =
      rw link.1 (change_left ends c.source c.made K.begun small) in
      let was : left_of plan x sources ≡ drop c.made (change_by always c.source (link_of plan c.source)) ++ tail =
      left_two plan x sources K.sends K.sent ∙ ap (λ (o : Option Change). rest_changes plan o sources) last in
      let now : left_of plan y sources ≡ drop (c.made + 1) (change_by always c.source (link_of plan c.source)) ++ tail = left_two plan y sources K.sends K.sent in
      let both = sym (was ∙ ap (λ (l : List Wanted). l ++ tail) one) ∙ is in
      let head = head_is _ next _ rest both in
      let enough : may_make ends c.source c.made told ≡ true = ap (λ (w : Wanted). w.may told) head ∙ may in
      record {
        y = y;
        sources = sources;
        admits = inr (inl (record {
          sent = sent;
          change = c;
          last = last;
          changing = changing;
          ends = ends;
          link = link.1;
          disabled = λ two. subst (λ (k : ℕ). may_make ends c.source k told ≡ true) two enough;
          is = sym (ap (λ (w : Wanted). w.act) head);
          goes_on = refl;
        }));
        left = L;
        is = now ∙ tail_is _ next _ rest both;
      }

  -- the first state is sent
  goes_first : (parts : List PartLine) → plan.parts ≡ parts → is_sending (length plan.parts) x ≡ false → is_changing x.change ≡ false → x.sends ≡ 0 → GoesOn plan told x next rest
  goes_first [] none sent over unsent =
      let left : left_of plan x sources ≡ from_changes plan None sources =
      (λ j. left_by plan (unsent j) x.sent x.change sources)
      ∙ (λ j. sends_of 1 always (none j) ++ (sends_of 2 (all_told Idle) (none j) ++ from_changes plan None sources)) in
      absurd (nothing_wanted sources (λ q late. let below = late_there plan q late in let few : length plan.parts ≡ 0 = ap length none in omega (arith, below, few)) L (sym left ∙ is))
    where
      nothing_wanted : (qs : List ℕ) → ((q : ℕ) → passes_at is_late (slice_get plan.parts q) ≡ true → ⊥) → AreLeft plan x.changed qs → from_changes plan None qs ≡ next ∷ rest → ⊥
      nothing_wanted [] never l e =
          let f : from_changes plan None [] ≡ [] = λ j. sends_of 3 (may_go_back plan None) (none j) ++ sends_of 4 (all_told Idle) (none j) in
          let g : [] ≡ next ∷ rest = sym f ∙ e in
          cc
      nothing_wanted (q ∷ qs) never l e = never q (left_first plan x.changed q qs l).0
  goes_first (part ∷ parts) some sent over unsent =
      let there : slice_get plan.parts 0 ≡ Some part = ap (λ (ps : List PartLine). slice_get ps 0) some in
      let y : OrderValue = record { sends = x.sends + 1; sent = 1; change = None; changed = x.changed } in
      let behind : List Wanted = sends_of 2 (all_told Idle) plan.parts ++ from_changes plan None sources in
      let one : want always (send_to 1 part) ∷ (sends_of 1 always (drop 1 plan.parts) ++ behind) ≡ next ∷ rest =
      sym ((λ j. left_by plan (unsent j) x.sent x.change sources) ∙ ap (λ (l : List Wanted). l ++ behind) (sends_first 1 always plan.parts part there)) ∙ is in
      record {
        y = y;
        sources = sources;
        admits = inr (inr (inr (record {
          rested = record { sent = sent; changed = over; over = no_change x.change refl };
          few = omega (arith, unsent);
          last = ap (λ (n : ℕ). last_told n told) unsent;
          back = λ two. absurd (omega (arith, two, unsent));
          part = part;
          there = there;
          is = sym (ap (λ (w : Wanted). w.act) (head_is _ next _ rest one)) ∙ (λ j. send_to ((sym unsent) j + 1) part);
          goes_on = refl;
        })));
        left = L;
        is = (λ j. left_by plan (unsent j + 1) 1 None sources) ∙ tail_is _ next _ rest one;
      }
    where
      no_change : (o : Option Change) → x.change ≡ o → is_over plan told x.change ≡ true
      no_change None e = ap (is_over plan told) e
      no_change (Some c) e = let K = W.changes c e in absurd (omega (arith, K.sends, unsent))

  -- the next state is sent, where what was before is over
  goes_send : (n : ℕ) → x.sends ≡ n → 1 ≤ n → n < 4 → is_sending (length plan.parts) x ≡ false → is_changing x.change ≡ false → is_over plan told x.change ≡ true → last_told n told ≡ true
      → (n ≡ 2 → CanGoBack plan told x.changed) → (enough : List Progress → Bool) (behind : List Wanted)
      → ((part : PartLine) → left_by plan (n + 1) 1 None sources ≡ sends_of (n + 1) always (drop 1 plan.parts) ++ behind)
      → sends_of (n + 1) enough plan.parts ++ behind ≡ next ∷ rest → GoesOn plan told x next rest
  goes_send n e some few sent still over last back enough behind now both =
      let first = there_at plan.parts 0 (let l = W.some (omega (arith, e, some)) in omega (arith, l)) in
      let part : PartLine = first.0 in
      let y : OrderValue = record { sends = x.sends + 1; sent = 1; change = None; changed = x.changed } in
      let one : want enough (send_to (n + 1) part) ∷ (sends_of (n + 1) always (drop 1 plan.parts) ++ behind) ≡ next ∷ rest =
      sym (ap (λ (l : List Wanted). l ++ behind) (sends_first (n + 1) enough plan.parts part first.1)) ∙ both in
      record {
        y = y;
        sources = sources;
        admits = inr (inr (inr (record {
          rested = record { sent = sent; changed = still; over = over };
          few = omega (arith, e, few);
          last = ap (λ (k : ℕ). last_told k told) e ∙ last;
          back = λ two. back (sym e ∙ two);
          part = part;
          there = first.1;
          is = sym (ap (λ (w : Wanted). w.act) (head_is _ next _ rest one)) ∙ (λ j. send_to ((sym e) j + 1) part);
          goes_on = refl;
        })));
        left = L;
        is = (λ j. left_by plan (e j + 1) 1 None sources) ∙ now part ∙ tail_is _ next _ rest one;
      }

  no_change_at : (n : ℕ) → x.sends ≡ n → (n ≡ 2 → ⊥) → (o : Option Change) → x.change ≡ o → is_over plan told x.change ≡ true
  no_change_at n e other None is_none = ap (is_over plan told) is_none
  no_change_at n e other (Some c) is_some = let K = W.changes c is_some in absurd (other (sym e ∙ K.sends))

-- the head of what is wanted asks for enough
may_of : (may : List Progress → Bool) (act : TextAct) (list : List Wanted) (next : Wanted) (rest : List Wanted) (told : List Progress) → want may act ∷ list ≡ next ∷ rest → next.may told ≡ true → may told ≡ true
may_of may act list next rest told e enough = ap (λ (w : Wanted). w.may told) (head_is (want may act) next list rest e) ∙ enough

may_send : (n : ℕ) (may : List Progress → Bool) (parts : List PartLine) (behind : List Wanted) (next : Wanted) (rest : List Wanted) (told : List Progress) → 1 ≤ length parts
    → sends_of n may parts ++ behind ≡ next ∷ rest → next.may told ≡ true → may told ≡ true
may_send n may [] behind next rest told some e enough = absurd (omega (arith, some))
may_send n may (part ∷ parts) behind next rest told some e enough = may_of may (send_to n part) (sends_of n always parts ++ behind) next rest told e enough

goes_back : (plan : PlanValue) (told : List Progress) (x : OrderValue) (sources : List ℕ) (next : Wanted) (rest : List Wanted) → IsLawful plan x → AreLeft plan x.changed sources
    → left_of plan x sources ≡ next ∷ rest → next.may told ≡ true → HaveLinks plan → x.sends ≡ 2 → is_sending (length plan.parts) x ≡ false → is_changing x.change ≡ false → GoesOn plan told x next rest
goes_back plan told x [] next rest W L is may links two sent still =
    let all = sent_all (length plan.parts) x sent (omega (arith, two)) in
    let behind : List Wanted = sends_of 4 (all_told Idle) plan.parts in
    let both : sends_of 3 (may_go_back plan (before_of x.change)) plan.parts ++ behind ≡ next ∷ rest =
    sym (left_two plan x [] two all ∙ rest_none plan x.change [] (few_made plan x W) still) ∙ is in
    let some = W.some (omega (arith, two)) in
    let enough = may_send 3 (may_go_back plan (before_of x.change)) plan.parts behind next rest told some both may in
    let over = and_parts (is_changed plan (before_of x.change) told) (all_told Executing told && sinks_over plan.parts told) enough in
    let more = and_parts (all_told Executing told) (sinks_over plan.parts told) over.1 in
    goes_send plan told x [] next rest W L is may 2 two (omega arith) (omega arith) sent still (sym (over_changed plan told x.change) ∙ over.0) more.0
    (λ e. record { lates = left_none plan x.changed L; sinks = over_each plan.parts told more.1 }) (may_go_back plan (before_of x.change)) behind (λ part. refl) both
goes_back plan told x (q ∷ sources) next rest W L is may links two sent still =
    let all = sent_all (length plan.parts) x sent (omega (arith, two)) in
    let late = left_first plan x.changed q sources L in
    let link = links q late.0 in
    let ends : LinkEnds = link.0 in
    let may_begin = may_change plan (before_of x.change) q in
    let tail : List Wanted = from_changes plan (Some q) sources in
    let one : change_by may_begin q (link_of plan q) ≡ want may_begin (change_act ends 0) ∷ drop 1 (change_by always q (link_of plan q)) = rw link.1 refl in
    let both = sym (left_two plan x (q ∷ sources) two all ∙ rest_none plan x.change (q ∷ sources) (few_made plan x W) still ∙ ap (λ (l : List Wanted). l ++ tail) one) ∙ is in
    let enough = may_of may_begin (change_act ends 0) _ next rest told both may in
    let over = and_parts (is_changed plan (before_of x.change) told) (all_told Executing told && has_settings (slice_get told q)) enough in
    let more = and_parts (all_told Executing told) (has_settings (slice_get told q)) over.1 in
    let y : OrderValue = record x { change = Some (record { source = q; made = 1 }); changed = set x.changed q true } in
    record {
      y = y;
      sources = sources;
      admits = inr (inr (inl (record {
        rested = record { sent = sent; changed = still; over = sym (over_changed plan told x.change) ∙ over.0 };
        sends = two;
        told_so = more.0;
        source = q;
        may = record {
          there = late_there plan q late.0;
          late = late.0;
          unchanged = late.1;
          cause = more.1;
          ends = ends;
          link = link.1;
          is = sym (ap (λ (w : Wanted). w.act) (head_is _ next _ rest both));
        };
        goes_on = refl;
      })));
      left = left_less plan x.changed q sources (let below = late_there plan q late.0 in omega (arith, below, W.most, W.size)) L;
      is = left_two plan y sources two all ∙ tail_is _ next _ rest both;
    }

goes_rested : (plan : PlanValue) (told : List Progress) (x : OrderValue) (sources : List ℕ) (next : Wanted) (rest : List Wanted) (n : ℕ) → x.sends ≡ n → IsLawful plan x → AreLeft plan x.changed sources
    → left_of plan x sources ≡ next ∷ rest → next.may told ≡ true → HaveLinks plan → is_sending (length plan.parts) x ≡ false → is_changing x.change ≡ false → GoesOn plan told x next rest
goes_rested plan told x sources next rest zero e W L is may links sent still = goes_first plan told x sources next rest W L is may plan.parts refl sent still e
goes_rested plan told x sources next rest (suc zero) e W L is may links sent still =
    let all = sent_all (length plan.parts) x sent (omega (arith, e)) in
    let behind : List Wanted = from_changes plan None sources in
    let both : sends_of 2 (all_told Idle) plan.parts ++ behind ≡ next ∷ rest =
    sym ((λ j. left_by plan (e j) x.sent x.change sources) ∙ ap (λ (ps : List PartLine). sends_of 1 always ps ++ (sends_of 2 (all_told Idle) plan.parts ++ behind)) (drop_past plan.parts x.sent all)) ∙ is in
    let enough = may_send 2 (all_told Idle) plan.parts behind next rest told (W.some (omega (arith, e))) both may in
    goes_send plan told x sources next rest W L is may 1 e (omega arith) (omega arith) sent still
    (no_change_at plan told x sources next rest W L is may 1 e (λ two. absurd (omega (arith, two))) x.change refl) enough (λ two. absurd (omega (arith, two))) (all_told Idle) behind (λ part. refl) both
goes_rested plan told x sources next rest (suc (suc zero)) e W L is may links sent still = goes_back plan told x sources next rest W L is may links e sent still
goes_rested plan told x sources next rest (suc (suc (suc zero))) e W L is may links sent still =
    let all = sent_all (length plan.parts) x sent (omega (arith, e)) in
    let both : sends_of 4 (all_told Idle) plan.parts ++ [] ≡ next ∷ rest =
    append_none (sends_of 4 (all_told Idle) plan.parts)
    ∙ sym ((λ j. left_by plan (e j) x.sent x.change sources) ∙ ap (λ (ps : List PartLine). sends_of 3 always ps ++ sends_of 4 (all_told Idle) plan.parts) (drop_past plan.parts x.sent all)) ∙ is in
    let enough = may_send 4 (all_told Idle) plan.parts [] next rest told (W.some (omega (arith, e))) both may in
    goes_send plan told x sources next rest W L is may 3 e (omega arith) (omega arith) sent still
    (no_change_at plan told x sources next rest W L is may 3 e (λ two. absurd (omega (arith, two))) x.change refl) enough (λ two. absurd (omega (arith, two))) (all_told Idle) [] (λ part. sym (append_none (sends_of 4 always (drop 1 plan.parts)))) both
  where
    append_none : (l : List Wanted) → l ++ [] ≡ l
    append_none [] = refl
    append_none (w ∷ l) = ap (λ (r : List Wanted). w ∷ r) (append_none l)
goes_rested plan told x sources next rest (suc (suc (suc (suc n)))) e W L is may links sent still =
    let four : x.sends ≡ 4 = let few = W.few in omega (arith, few, e) in
    let all = sent_all (length plan.parts) x sent (omega (arith, four)) in
    let none : left_of plan x sources ≡ [] = (λ j. left_by plan (four j) x.sent x.change sources) ∙ ap (sends_of 4 always) (drop_past plan.parts x.sent all) in
    let clash : [] ≡ next ∷ rest = sym none ∙ is in
    absurd cc

pub goes_on : (plan : PlanValue) (told : List Progress) (x : OrderValue) (sources : List ℕ) (next : Wanted) (rest : List Wanted) → IsLawful plan x → HaveLinks plan → AreLeft plan x.changed sources
    → left_of plan x sources ≡ next ∷ rest → next.may told ≡ true → GoesOn plan told x next rest
goes_on plan told x sources next rest W links L is may = either (is_sending (length plan.parts) x)
    (λ t. goes_sending plan told x sources next rest W L is may t)
    (λ sent. either (is_changing x.change)
    (λ t. some_change x.change refl t sent)
    (λ still. goes_rested plan told x sources next rest x.sends refl W L is may links sent still))
  where
    some_change : (o : Option Change) → x.change ≡ o → is_changing x.change ≡ true → is_sending (length plan.parts) x ≡ false → GoesOn plan told x next rest
    some_change None e t sent = let f : false ≡ true = sym (ap is_changing e) ∙ t in absurd cc
    some_change (Some c) e t sent = goes_changing plan told x sources next rest W L is may links sent c e t
