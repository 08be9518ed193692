-- How much was asked, by lines and by the cursor of a history.
use Rattle.std.proofs.Common.{◌≡◌, ◌≢◌, ◌⊎◌, inl, inr, ℕ, zero, suc, ◌+◌, ◌<◌, ◌≤◌, Bool, true, false, ◌||◌, nat_eq, List, [], ◌∷◌, length, set, replicate, Option, Some, None, refl, sym, ◌∙◌, ap, eq-eqb, eqb-true, length-set, arith}
use Rattle.std.proofs.lemmas.Bool.{cases_eq, cases_lt}
use Rattle.std.proofs.lemmas.Grind.{common_steps}
use Rattle.machine_laws.proofs.Finding.{either}
use Rattle.play_forms.specs.Plans.{PlanValue}
use Rattle.play_log.proofs.Players.{some_same}
use Rattle.play_plan_laws.specs.Assemblies.{IsReady, PlayFiles, is_late_link, play_cast_of}
use Rattle.play_history_laws.specs.Order.{Cursor, nothing_asked, one_more}
use Rattle.play_history_laws.proofs.Keeping.{at_one}
use Rattle.audit_order.specs.declared.order.Change.{Change}
use Rattle.audit_order.specs.Steps.{OrderValue, is_begun, is_changing, is_sending, nothing_asked as nothing_sent}
use Rattle.audit_laws.proofs.Links.{giver, one_link}

-- the change that was begun last is that of the link
pub record IsLinkOf (plan : PlanValue) (x : OrderValue) (k : Cursor) (change : Change) : Type 0 where
  pub link : ℕ
  pub below : link < length plan.joints
  pub late : is_late_link plan link ≡ true
  pub gives : giver plan link ≡ change.source
  pub its : k.changing ≡ Some link
  pub made : k.made link ≡ change.made
  pub some : 1 ≤ change.made
  pub few : change.made ≤ 8
  pub two : x.sends ≡ 2
  pub all : length plan.parts ≤ k.sent

abbrev pub IsLikeChange : PlanValue → OrderValue → Cursor → Option Change → Type 0
IsLikeChange plan x k None = k.changing ≡ None
IsLikeChange plan x k (Some change) = IsLinkOf plan x k change

-- the change of the link is whole, or is the last one
abbrev pub IsWhole : Cursor → ℕ → Type 0
IsWhole k l = (k.made l ≡ 8) ⊎ ((k.changing ≡ Some l) × (1 ≤ k.made l))

pub record IsLike (plan : PlanValue) (x : OrderValue) (k : Cursor) : Type 0 where
  pub phase : k.phase ≡ x.sends
  pub few : x.sends ≤ 4
  pub size : length x.changed ≡ 32
  pub none : x.sends ≡ 0 → length plan.parts ≤ k.sent
  pub sent : 1 ≤ x.sends → k.sent ≡ x.sent
  pub change : IsLikeChange plan x k x.change
  pub unbegun : (l : ℕ) → l < length plan.joints → is_late_link plan l ≡ true → is_begun x.changed (giver plan l) ≡ false → k.made l ≡ 0
  pub begun : (l : ℕ) → l < length plan.joints → is_late_link plan l ≡ true → is_begun x.changed (giver plan l) ≡ true → IsWhole k l

none_begun : (n place : ℕ) → is_begun (replicate n false) place ≡ false
none_begun zero place = refl
none_begun (suc n) zero = refl
none_begun (suc n) (suc place) = none_begun n place

pub like_nothing : (plan : PlanValue) → IsLike plan nothing_sent (nothing_asked (play_cast_of plan).cast)
like_nothing plan = record {
  phase = refl;
  few = omega arith;
  size = refl;
  none = λ z. omega arith;
  sent = λ b. absurd (omega (arith, b));
  change = refl;
  unbegun = λ l b t f. refl;
  begun = λ l b t f. (let g : true ≡ false = sym f ∙ none_begun 32 (giver plan l) in absurd cc);
}

-- ---- what was begun

both_suc : (p q : ℕ) → nat_eq (suc p) (suc q) ≡ nat_eq p q
both_suc p q = either (nat_eq p q)
    (λ t. let yes : nat_eq (suc p) (suc q) ≡ true = grind (arith, common_steps, t) in yes ∙ sym t)
    (λ f. let no : nat_eq (suc p) (suc q) ≡ false = grind (arith, common_steps, f) in no ∙ sym f)

pub begun_one : (changed : List Bool) (q p : ℕ) → q < length changed → is_begun (set changed q true) p ≡ (nat_eq p q || is_begun changed p)
begun_one [] q p within = absurd (omega (arith, within))
begun_one (b ∷ changed) zero zero within = refl
begun_one (b ∷ changed) zero (suc p) within = let f : nat_eq (suc p) 0 ≡ false = grind (arith, common_steps) in rw f refl
begun_one (b ∷ changed) (suc q) zero within = let f : nat_eq 0 (suc q) ≡ false = grind (arith, common_steps) in rw f refl
begun_one (b ∷ changed) (suc q) (suc p) within =
    begun_one changed q p (omega (arith, within)) ∙ ap (λ (same : Bool). same || is_begun changed p) (sym (both_suc p q))

-- ---- whether a state is being sent

pub sent_all : (plan : PlanValue) (x : OrderValue) (k : Cursor) → IsLike plan x k → is_sending (length plan.parts) x ≡ false → length plan.parts ≤ k.sent
sent_all plan x k L f = elim (cases_lt 0 x.sends) [
  | inl some ↦ let q = L.sent (omega (arith, some)) in let m : length plan.parts ≤ x.sent = grind (arith, common_steps, f, some) in omega (arith, q, m)
  | inr none ↦ L.none (omega (arith, none))
]

pub not_sending : (plan : PlanValue) (x : OrderValue) (k : Cursor) → IsLike plan x k → length plan.parts ≤ k.sent → is_sending (length plan.parts) x ≡ false
not_sending plan x k L b = elim (cases_lt 0 x.sends) [
  | inl some ↦ let q = L.sent (omega (arith, some)) in let m : length plan.parts ≤ x.sent = omega (arith, q, b) in grind (arith, common_steps, m)
  | inr none ↦ grind (arith, common_steps, none)
]

-- ---- whether a change is made whole

pub made_whole : (c : Change) → c.made ≤ 8 → is_changing (Some c) ≡ false → c.made ≡ 8
made_whole c few f = grind (arith, common_steps, few, f)

pub whole_made : (c : Change) → c.made ≡ 8 → is_changing (Some c) ≡ false
whole_made c e = rw e refl

pub some_left : (c : Change) → is_changing (Some c) ≡ true → c.made < 8
some_left c t = grind (arith, common_steps, t)

pub left_some : (c : Change) → c.made < 8 → is_changing (Some c) ≡ true
left_some c b = grind (arith, common_steps, b)

-- ---- what goes on by one act

either_begun : (p q : Bool) → (p || q) ≡ true → p ≡ false → q ≡ true
either_begun p q e f = ap (λ (b : Bool). b || q) (sym f) ∙ e

neither_begun : (p q : Bool) → (p || q) ≡ false → (p ≡ false) × (q ≡ false)
neither_begun true q e = absurd cc
neither_begun false q e = (refl, e)

module _ (plan : PlanValue) (files : PlayFiles) (ready : IsReady plan files) (x : OrderValue) (k : Cursor) (L : IsLike plan x k) where
  -- nothing was changed while a state is sent
  not_changing : (o : Option Change) (y : OrderValue) (j : Cursor) → x.sent < length plan.parts → 1 ≤ x.sends → j.changing ≡ k.changing → IsLikeChange plan x k o → IsLikeChange plan y j o
  not_changing None y j b some e C = e ∙ C
  not_changing (Some ch) y j b some e C = let m = C.all in let q = L.sent some in absurd (omega (arith, m, q, b))

  pub like_sent : 1 ≤ x.sends → x.sent < length plan.parts → IsLike plan (record x { sent = x.sent + 1 }) (record k { sent = k.sent + 1 })
  like_sent some b =
      let q = L.sent some in
      record {
        phase = L.phase;
        few = L.few;
        size = L.size;
        none = λ e. absurd (omega (arith, e, some));
        sent = λ _. omega (arith, q);
        change = not_changing x.change (record x { sent = x.sent + 1 }) (record k { sent = k.sent + 1 }) b some refl L.change;
        unbegun = L.unbegun;
        begun = L.begun;
      }

  pub like_next : x.sends < 4 → ((l : ℕ) → IsWhole k l → k.made l ≡ 8)
      → IsLike plan (record { sends = x.sends + 1; sent = 1; change = None; changed = x.changed }) (record { phase = k.phase + 1; sent = 1; made = k.made; changing = None })
  like_next few whole =
      let p = L.phase in
      record {
        phase = omega (arith, p);
        few = omega (arith, few);
        size = L.size;
        none = λ e. absurd (omega (arith, e));
        sent = λ _. refl;
        change = refl;
        unbegun = L.unbegun;
        begun = λ l b e f. inl (whole l (L.begun l b e f));
      }

  made_now : (l n : ℕ) → k.made l ≡ n → (one_more l k).made l ≡ n + 1
  made_now l n e = at_one (λ (i : ℕ). i ≡ n + 1) l l (k.made l + 1) (k.made l) (λ _. omega (arith, e)) (λ d. absurd (d refl))

  made_else : (l m : ℕ) → m ≢ l → (one_more l k).made m ≡ k.made m
  made_else l m d = at_one (λ (i : ℕ). i ≡ k.made m) m l (k.made m + 1) (k.made m) (λ e. absurd (d e)) (λ _. refl)

  -- another link than the last that was begun is changed whole
  others : (l m : ℕ) → k.changing ≡ Some l → m ≢ l → IsWhole k m → k.made m ≡ 8
  others l m its d (inl e) = e
  others l m its d (inr e) = absurd (d (sym (some_same l m (sym its ∙ e.0))))

  pub like_more : (ch : Change) (I : IsLinkOf plan x k ch) → ch.made < 8 → IsLike plan (record x { change = Some (record { source = ch.source; made = ch.made + 1 }) }) (one_more I.link k)
  like_more ch I few =
      let l : ℕ = I.link in
      let now = made_now l ch.made I.made in
      let some = I.some in
      record {
        phase = L.phase;
        few = L.few;
        size = L.size;
        none = L.none;
        sent = L.sent;
        change = record { link = l; below = I.below; late = I.late; gives = I.gives; its = refl; made = now; some = omega arith; few = omega (arith, few); two = I.two; all = I.all };
        unbegun = λ m b e f. elim (cases_eq m l) [
          | inl q ↦ (let z = L.unbegun m b e f in let at : k.made m ≡ ch.made = ap k.made q ∙ I.made in absurd (omega (arith, z, at, some)))
          | inr d ↦ made_else l m d ∙ L.unbegun m b e f
        ];
        begun = λ m b e f. elim (cases_eq m l) [
          | inl q ↦ inr (ap (λ (i : ℕ). Some i) (sym q), (let n : (one_more l k).made m ≡ ch.made + 1 = ap (one_more l k).made q ∙ now in omega (arith, n)))
          | inr d ↦ inl (made_else l m d ∙ others l m I.its d (L.begun m b e f))
        ];
      }

  pub like_begun : (source l : ℕ) → l < length plan.joints → is_late_link plan l ≡ true → giver plan l ≡ source → source < length x.changed → k.made l ≡ 0 → x.sends ≡ 2 → length plan.parts ≤ k.sent
      → ((m : ℕ) → IsWhole k m → k.made m ≡ 8) → IsLike plan (record x { change = Some (record { source = source; made = 1 }); changed = set x.changed source true }) (one_more l k)
  like_begun source l below late gives within none two all whole =
      let now = made_now l 0 none in
      record {
        phase = L.phase;
        few = L.few;
        size = length-set x.changed source true ∙ L.size;
        none = L.none;
        sent = L.sent;
        change = record { link = l; below = below; late = late; gives = gives; its = refl; made = now; some = omega arith; few = omega arith; two = two; all = all };
        unbegun = λ m b e f. none_yet m b e f;
        begun = λ m b e f. some_now m b e f;
      }
    where
      none_yet : (m : ℕ) → m < length plan.joints → is_late_link plan m ≡ true → is_begun (set x.changed source true) (giver plan m) ≡ false → (one_more l k).made m ≡ 0
      none_yet m b e f =
          let both = neither_begun (nat_eq (giver plan m) source) (is_begun x.changed (giver plan m)) (sym (begun_one x.changed source (giver plan m) within) ∙ f) in
          let d : m ≢ l = λ q. (let yes = eq-eqb (giver plan m) source (ap (giver plan) q ∙ gives) in let clash : true ≡ false = sym yes ∙ both.0 in cc) in
          made_else l m d ∙ L.unbegun m b e both.1

      some_now : (m : ℕ) → m < length plan.joints → is_late_link plan m ≡ true → is_begun (set x.changed source true) (giver plan m) ≡ true → IsWhole (one_more l k) m
      some_now m b e f = elim (cases_eq m l) [
        | inl q ↦ inr (ap (λ (i : ℕ). Some i) (sym q), (let n : (one_more l k).made m ≡ 1 = ap (one_more l k).made q ∙ made_now l 0 none in omega (arith, n)))
        | inr d ↦
            let other : nat_eq (giver plan m) source ≡ false = either (nat_eq (giver plan m) source)
            (λ g. absurd (d (one_link plan files ready m l b below late (eqb-true (giver plan m) source g ∙ sym gives)))) (λ g. g) in
            let so = either_begun (nat_eq (giver plan m) source) (is_begun x.changed (giver plan m)) (sym (begun_one x.changed source (giver plan m) within) ∙ f) other in
            inl (made_else l m d ∙ whole m (L.begun m b e so))
      ]
