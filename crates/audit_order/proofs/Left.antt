-- What is left of the list where an order stands.
use Rattle.std.proofs.Common.{◌≡◌, ℕ, zero, suc, ◌+◌, ◌<◌, ◌≤◌, Bool, true, false, not, ◌&&◌, ◌||◌, ◌==◌, nat_eq, if◌then◌else◌, List, [], ◌∷◌, ◌++◌, length, drop, set, slice_get, Option, Some, None, refl, sym, ap, subst, ◌∙◌, add-one, arith, get_or}
use Rattle.std.specs.Prelude.{count_by}
use Rattle.std.proofs.lemmas.Bool.{and_parts, eqb-true}
use Rattle.std.proofs.lemmas.Grind.{common_steps}
use Rattle.omx_types.specs.declared.state.State.TheVariants.{Idle, Executing}
use Rattle.part_forms.specs.Kinds.{is_late}
use Rattle.il_machine.specs.Kinds.{is_sink}
use Rattle.il_machine.specs.declared.answer.Progress.{Progress}
use Rattle.script_lang.specs.declared.play_line.PartLine.{PartLine}
use Rattle.conductor.specs.Phases.{all_told}
use Rattle.play_forms.proofs.Places.{Some_same, either}
use Rattle.play_forms.specs.Parts.{kind_of, passes_at}
use Rattle.play_forms.specs.Plans.{PlanValue}
use Rattle.audit_order.specs.declared.ends.LinkEnds.{LinkEnds}
use Rattle.audit_order.specs.declared.order.Change.{Change}
use Rattle.audit_order.specs.Asked.{change_act}
use Rattle.audit_order.specs.Ends.{link_of}
use Rattle.audit_order.specs.Steps.{AreLatesChanged, IsOverAt, OrderValue, both_disabled, has_eos, is_changing, is_begun, is_over, is_sending, nothing_asked}
use Rattle.audit_order.specs.Wanted.{AreLateSources, Wanted, always, change_by, change_of, from_changes, is_changed, send_to, sends_of, sinks_over, want, wanted}

-- ---- what is left

abbrev pub rest_changes : PlanValue → Option Change → List ℕ → List Wanted
rest_changes plan None sources = from_changes plan None sources
rest_changes plan (Some change) sources = drop change.made (change_by always change.source (link_of plan change.source)) ++ from_changes plan (Some change.source) sources

abbrev pub left_by : PlanValue → ℕ → ℕ → Option Change → List ℕ → List Wanted
left_by plan zero sent change sources = wanted plan sources
left_by plan (suc zero) sent change sources = sends_of 1 always (drop sent plan.parts) ++ (sends_of 2 (all_told Idle) plan.parts ++ from_changes plan None sources)
left_by plan (suc (suc zero)) sent change sources = sends_of 2 always (drop sent plan.parts) ++ rest_changes plan change sources
left_by plan (suc (suc (suc zero))) sent change sources = sends_of 3 always (drop sent plan.parts) ++ sends_of 4 (all_told Idle) plan.parts
left_by plan _ sent change sources = sends_of 4 always (drop sent plan.parts)

abbrev pub left_of : PlanValue → OrderValue → List ℕ → List Wanted
left_of plan x sources = left_by plan x.sends x.sent x.change sources

-- the late sources whose change wasn't begun, each once
abbrev pub one_if : Bool → ℕ
one_if test = if test then 1 else 0

abbrev pub AreLeft : PlanValue → List Bool → List ℕ → Type 0
AreLeft plan changed sources = (place : ℕ) → count_by (λ (k : ℕ). k == place) sources ≡ one_if (passes_at is_late (slice_get plan.parts place) && not (is_begun changed place))

-- a change is of a late source, once all were sent Executing
pub record IsChange (plan : PlanValue) (x : OrderValue) (change : Change) : Type 0 where
  pub sends : x.sends ≡ 2
  pub sent : length plan.parts ≤ x.sent
  pub begun : 1 ≤ change.made
  pub few : change.made ≤ 8
  pub late : passes_at is_late (slice_get plan.parts change.source) ≡ true

pub record IsLawful (plan : PlanValue) (x : OrderValue) : Type 0 where
  pub most : length plan.parts ≤ 32
  pub size : length x.changed ≡ 32
  pub few : x.sends ≤ 4
  pub some : 1 ≤ x.sends → 1 ≤ length plan.parts
  pub changes : (change : Change) → x.change ≡ Some change → IsChange plan x change
  pub late : 3 ≤ x.sends → AreLatesChanged plan x.changed

pub nothing_lawful : (plan : PlanValue) → length plan.parts ≤ 32 → IsLawful plan nothing_asked
nothing_lawful plan most = record {
  most = most;
  size = refl;
  few = omega arith;
  some = λ some. absurd (omega (arith, some));
  changes = λ change is. absurd cc;
  late = λ many. absurd (omega (arith, many));
}

-- ---- lists

drop_suc : {A : Type 0} (xs : List A) (k : ℕ) (x : A) → slice_get xs k ≡ Some x → drop k xs ≡ x ∷ drop (suc k) xs
drop_suc [] k x e = absurd cc
drop_suc (y ∷ ys) zero x e = ap (λ z. z ∷ ys) (Some_same y x e)
drop_suc (y ∷ ys) (suc k) x e = drop_suc ys k x e

pub drop_at : {A : Type 0} (xs : List A) (k : ℕ) (x : A) → slice_get xs k ≡ Some x → drop k xs ≡ x ∷ drop (k + 1) xs
drop_at xs k x e = rw add-one (drop_suc xs k x e)

pub drop_past : {A : Type 0} (xs : List A) (k : ℕ) → length xs ≤ k → drop k xs ≡ []
drop_past [] zero l = refl
drop_past [] (suc k) l = refl
drop_past (x ∷ xs) zero l = absurd (omega (arith, l))
drop_past (x ∷ xs) (suc k) l = drop_past xs k (omega (arith, l))

pub sends_first : (n : ℕ) (may : List Progress → Bool) (parts : List PartLine) (part : PartLine) → slice_get parts 0 ≡ Some part
    → sends_of n may parts ≡ want may (send_to n part) ∷ sends_of n always (drop 1 parts)
sends_first n may [] part e = absurd cc
sends_first n may (p ∷ parts) part e = ap (λ (q : PartLine). want may (send_to n q) ∷ sends_of n always parts) (Some_same p part e)

pub send_left : (plan : PlanValue) (n sent : ℕ) (change : Option Change) (sources : List ℕ) (part : PartLine) → 1 ≤ n → n ≤ 4 → slice_get plan.parts sent ≡ Some part
    → left_by plan n sent change sources ≡ want always (send_to n part) ∷ left_by plan n (sent + 1) change sources
send_left plan zero sent change sources part some few there = absurd (omega (arith, some))
send_left plan (suc zero) sent change sources part some few there =
    ap (λ (ps : List PartLine). sends_of 1 always ps ++ (sends_of 2 (all_told Idle) plan.parts ++ from_changes plan None sources)) (drop_at plan.parts sent part there)
send_left plan (suc (suc zero)) sent change sources part some few there =
    ap (λ (ps : List PartLine). sends_of 2 always ps ++ rest_changes plan change sources) (drop_at plan.parts sent part there)
send_left plan (suc (suc (suc zero))) sent change sources part some few there =
    ap (λ (ps : List PartLine). sends_of 3 always ps ++ sends_of 4 (all_told Idle) plan.parts) (drop_at plan.parts sent part there)
send_left plan (suc (suc (suc (suc zero)))) sent change sources part some few there =
    ap (λ (ps : List PartLine). sends_of 4 always ps) (drop_at plan.parts sent part there)
send_left plan (suc (suc (suc (suc (suc n))))) sent change sources part some few there = absurd (omega (arith, few))

-- ---- a change

abbrev pub may_make : LinkEnds → ℕ → ℕ → List Progress → Bool
may_make x source (suc (suc zero)) told = both_disabled x told source
may_make x source _ told = true

pub change_left : (x : LinkEnds) (source made : ℕ) → 1 ≤ made → made < 8
    → drop made (change_of always source x) ≡ want (may_make x source made) (change_act x made) ∷ drop (made + 1) (change_of always source x)
change_left x source zero begun few = absurd (omega (arith, begun))
change_left x source (suc zero) begun few = refl
change_left x source (suc (suc zero)) begun few = refl
change_left x source (suc (suc (suc zero))) begun few = refl
change_left x source (suc (suc (suc (suc zero)))) begun few = refl
change_left x source (suc (suc (suc (suc (suc zero))))) begun few = refl
change_left x source (suc (suc (suc (suc (suc (suc zero)))))) begun few = refl
change_left x source (suc (suc (suc (suc (suc (suc (suc zero))))))) begun few = refl
change_left x source (suc (suc (suc (suc (suc (suc (suc (suc n)))))))) begun few = absurd (omega (arith, few))

-- the source whose link was changed last
abbrev pub before_of : Option Change → Option ℕ
before_of None = None
before_of (Some change) = Some change.source

none_left : (source : ℕ) (o : Option LinkEnds) → drop 8 (change_by always source o) ≡ []
none_left source None = refl
none_left source (Some x) = refl

pub rest_none : (plan : PlanValue) (o : Option Change) (sources : List ℕ) → ((change : Change) → o ≡ Some change → change.made ≤ 8) → is_changing o ≡ false
    → rest_changes plan o sources ≡ from_changes plan (before_of o) sources
rest_none plan None sources few over = refl
rest_none plan (Some change) sources few over =
    let most = few change refl in
    let e : change.made ≡ 8 = grind (arith, most, over) in
    ap (λ (k : ℕ). drop k (change_by always change.source (link_of plan change.source)) ++ from_changes plan (Some change.source) sources) e
    ∙ ap (λ (l : List Wanted). l ++ from_changes plan (Some change.source) sources) (none_left change.source (link_of plan change.source))

pub over_changed : (plan : PlanValue) (told : List Progress) (o : Option Change) → is_changed plan (before_of o) told ≡ is_over plan told o
over_changed plan told None = refl
over_changed plan told (Some change) = refl

-- ---- the late sources

late_below : (parts : List PartLine) (p : ℕ) → passes_at is_late (slice_get parts p) ≡ true → p < length parts
late_below [] p e = absurd cc
late_below (x ∷ parts) zero e = omega arith
late_below (x ∷ parts) (suc p) e = let l = late_below parts p e in omega (arith, l)

pub late_there : (plan : PlanValue) (p : ℕ) → passes_at is_late (slice_get plan.parts p) ≡ true → p < length plan.parts
late_there plan p e = late_below plan.parts p e

both_suc : (p q : ℕ) → nat_eq (suc p) (suc q) ≡ nat_eq p q
both_suc p q = either (nat_eq p q)
    (λ t. let yes : nat_eq (suc p) (suc q) ≡ true = grind (arith, common_steps, t) in yes ∙ sym t)
    (λ f. let no : nat_eq (suc p) (suc q) ≡ false = grind (arith, common_steps, f) in no ∙ sym f)

-- the place is begun too
begun_get : (changed : List Bool) (q p : ℕ) → q < length changed → is_begun (set changed q true) p ≡ (nat_eq p q || is_begun changed p)
begun_get [] q p within = absurd (omega (arith, within))
begun_get (b ∷ changed) zero zero within = refl
begun_get (b ∷ changed) zero (suc p) within = let f : nat_eq (suc p) 0 ≡ false = grind (arith, common_steps) in rw f refl
begun_get (b ∷ changed) (suc q) zero within = let f : nat_eq 0 (suc q) ≡ false = grind (arith, common_steps) in rw f refl
begun_get (b ∷ changed) (suc q) (suc p) within =
    begun_get changed q p (omega (arith, within)) ∙ ap (λ (same : Bool). same || is_begun changed p) (sym (both_suc p q))

-- one more to come
one_more : (late changed same : Bool) (n : ℕ) → n ≡ one_if (late && not (same || changed)) → (same ≡ true → (late ≡ true) × (changed ≡ false))
    → n + one_if same ≡ one_if (late && not changed)
one_more true false true n e own = omega (arith, e)
one_more true true true n e own = let f : true ≡ false = (own refl).1 in absurd cc
one_more false changed true n e own = let f : false ≡ true = (own refl).0 in absurd cc
one_more late changed false n e own = omega (arith, e)

-- one less
one_less : (late changed same : Bool) (n : ℕ) → n + one_if same ≡ one_if (late && not changed) → n ≡ one_if (late && not (same || changed))
one_less true false true n e = omega (arith, e)
one_less true true true n e = absurd (omega (arith, e))
one_less false changed true n e = absurd (omega (arith, e))
one_less late changed false n e = omega (arith, e)

pub count_first : (q p : ℕ) (sources : List ℕ) → count_by (λ (k : ℕ). k == p) (q ∷ sources) ≡ count_by (λ (k : ℕ). k == p) sources + one_if (nat_eq p q)
count_first q p sources =
    let same : (q == p) ≡ nat_eq p q = grind (arith, common_steps) in
    either (nat_eq p q) (λ t. grind (arith, common_steps, same, t)) (λ f. grind (arith, common_steps, same, f))

pub left_more : (plan : PlanValue) (changed : List Bool) (q : ℕ) (sources : List ℕ) → q < length changed → passes_at is_late (slice_get plan.parts q) ≡ true → is_begun changed q ≡ false
    → AreLeft plan (set changed q true) sources → AreLeft plan changed (q ∷ sources)
left_more plan changed q sources within late free L = λ p.
    let now : count_by (λ (k : ℕ). k == p) sources ≡ one_if (passes_at is_late (slice_get plan.parts p) && not (nat_eq p q || is_begun changed p)) =
    L p ∙ ap (λ (b : Bool). one_if (passes_at is_late (slice_get plan.parts p) && not b)) (begun_get changed q p within) in
    count_first q p sources
    ∙ one_more (passes_at is_late (slice_get plan.parts p)) (is_begun changed p) (nat_eq p q) _ now
    (λ same. let e : p ≡ q = eqb-true p q same in
    (ap (λ (k : ℕ). passes_at is_late (slice_get plan.parts k)) e ∙ late, ap (is_begun changed) e ∙ free))

pub left_less : (plan : PlanValue) (changed : List Bool) (q : ℕ) (sources : List ℕ) → q < length changed → AreLeft plan changed (q ∷ sources) → AreLeft plan (set changed q true) sources
left_less plan changed q sources within L = λ p.
    one_less (passes_at is_late (slice_get plan.parts p)) (is_begun changed p) (nat_eq p q) _ (sym (count_first q p sources) ∙ L p)
    ∙ ap (λ (b : Bool). one_if (passes_at is_late (slice_get plan.parts p) && not b)) (sym (begun_get changed q p within))

first_late : (late changed : Bool) (n : ℕ) → n + 1 ≡ one_if (late && not changed) → (late ≡ true) × (changed ≡ false)
first_late true false n e = (refl, refl)
first_late true true n e = absurd (omega (arith, e))
first_late false changed n e = absurd (omega (arith, e))

pub left_first : (plan : PlanValue) (changed : List Bool) (q : ℕ) (sources : List ℕ) → AreLeft plan changed (q ∷ sources)
    → (passes_at is_late (slice_get plan.parts q) ≡ true) × (is_begun changed q ≡ false)
left_first plan changed q sources L =
    let same : nat_eq q q ≡ true = grind (arith, common_steps) in
    let one : count_by (λ (k : ℕ). k == q) (q ∷ sources) ≡ count_by (λ (k : ℕ). k == q) sources + 1 = count_first q q sources ∙ ap (λ (b : Bool). count_by (λ (k : ℕ). k == q) sources + one_if b) same in
    first_late (passes_at is_late (slice_get plan.parts q)) (is_begun changed q) _ (sym one ∙ L q)

none_late : (late changed : Bool) → one_if (late && not changed) ≡ 0 → late ≡ true → changed ≡ true
none_late true true e t = refl
none_late true false e t = absurd (omega (arith, e))
none_late false changed e t = absurd cc

pub left_none : (plan : PlanValue) (changed : List Bool) → AreLeft plan changed [] → AreLatesChanged plan changed
left_none plan changed L = λ place below late. none_late (passes_at is_late (slice_get plan.parts place)) (is_begun changed place) (sym (L place)) late

all_changed : (late changed : Bool) → (late ≡ true → changed ≡ true) → one_if (late && not changed) ≡ 0
all_changed true true all = refl
all_changed true false all = let f : false ≡ true = all refl in absurd cc
all_changed false changed all = refl

pub none_left_over : (plan : PlanValue) (changed : List Bool) → AreLatesChanged plan changed → AreLeft plan changed []
none_left_over plan changed all = λ p. sym (all_changed (passes_at is_late (slice_get plan.parts p)) (is_begun changed p) (λ late. all p (late_there plan p late) late))

-- ---- the sinks

sink_over : (sink eos : Bool) → (not sink || eos) ≡ true → sink ≡ true → eos ≡ true
sink_over true eos e t = e
sink_over false eos e t = absurd cc

over_sink : (sink eos : Bool) → (sink ≡ true → eos ≡ true) → (not sink || eos) ≡ true
over_sink true eos all = all refl
over_sink false eos all = refl

no_sink : (sink : Bool) → not sink ≡ true → sink ≡ true → ⊥
no_sink true e t = cc
no_sink false e t = cc

not_sink : (sink : Bool) → (sink ≡ true → ⊥) → not sink ≡ true
not_sink true none = absurd (none refl)
not_sink false none = refl

abbrev AllOver : List PartLine → List Progress → Type 0
AllOver parts told = (place : ℕ) → place < length parts → passes_at is_sink (slice_get parts place) ≡ true → has_eos (slice_get told place) ≡ true

first_over : (part : PartLine) (parts : List PartLine) (told : List Progress) → (is_sink (kind_of part.form) ≡ true → has_eos (slice_get told 0) ≡ true) → AllOver parts (drop 1 told)
    → AllOver (part ∷ parts) told
first_over part parts told first all zero below sink = first sink
first_over part parts [] first all (suc place) below sink = all place (omega (arith, below)) sink
first_over part parts (progress ∷ told) first all (suc place) below sink = all place (omega (arith, below)) sink

pub over_each : (parts : List PartLine) (told : List Progress) → sinks_over parts told ≡ true → AllOver parts told
over_each [] told e = λ place below sink. absurd (omega (arith, below))
over_each (part ∷ parts) [] e =
    let both = and_parts (not (is_sink (kind_of part.form))) (sinks_over parts []) e in
    first_over part parts [] (λ sink. absurd (no_sink (is_sink (kind_of part.form)) both.0 sink)) (over_each parts [] both.1)
over_each (part ∷ parts) (progress ∷ told) e =
    let both = and_parts (not (is_sink (kind_of part.form)) || progress.eos) (sinks_over parts told) e in
    first_over part parts (progress ∷ told) (λ sink. sink_over (is_sink (kind_of part.form)) progress.eos both.0 sink) (over_each parts told both.1)

pub two_true : (a b : Bool) → a ≡ true → b ≡ true → (a && b) ≡ true
two_true a b s t = rw (s, t) refl

pub each_over : (parts : List PartLine) (told : List Progress) → AllOver parts told → sinks_over parts told ≡ true
each_over [] told all = refl
each_over (part ∷ parts) [] all =
    two_true (not (is_sink (kind_of part.form))) (sinks_over parts [])
    (not_sink (is_sink (kind_of part.form)) (λ sink. let f : false ≡ true = all 0 (omega arith) sink in cc))
    (each_over parts [] (λ place below sink. all (suc place) (omega (arith, below)) sink))
each_over (part ∷ parts) (progress ∷ told) all =
    two_true (not (is_sink (kind_of part.form)) || progress.eos) (sinks_over parts told)
    (over_sink (is_sink (kind_of part.form)) progress.eos (λ sink. all 0 (omega arith) sink))
    (each_over parts told (λ place below sink. all (suc place) (omega (arith, below)) sink))
