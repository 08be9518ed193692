-- What the conductor of a plan knows before its play: of each late source's link nothing was told or answered.
use Rattle.std.proofs.Common.{◌≡◌, ◌⊎◌, inl, inr, ℕ, zero, suc, ◌+◌, ◌<◌, Bool, true, ◌==◌, nat_le, nat_lt, if◌then◌else◌, List, [], ◌∷◌, ◌++◌, find, length, map, replicate, slice_get, Option, Some, None, refl, sym, ◌∙◌, ap, subst, eqb-true, eq-eqb, ltb-true, arith}
use Rattle.std.proofs.lemmas.Option.{slice_get_within}
use Rattle.machine_laws.proofs.Accepting.{both_of}
use Rattle.machine_laws.proofs.Finding.{either}
use Rattle.part_forms.specs.Kinds.{is_late}
use Rattle.script_lang.specs.declared.play_line.PartForm.{PartForm}
use Rattle.script_lang.specs.declared.play_line.PartForm.TheVariants as forms
use Rattle.script_lang.specs.declared.play_line.PartLine.{PartLine}
use Rattle.play_forms.specs.declared.joint.Joint.{Joint}
use Rattle.play_forms.specs.Parts.{has_output, kind_of, passes_at}
use Rattle.play_forms.specs.Plans.{IsValid, PlanValue}
use Rattle.conductor.specs.declared.phase.LateLink.{LateLink}
use Rattle.conductor.specs.Casting.{is_sink as is_sink_form, late_link, late_links, link_from, unchanged}
use Rattle.conductor.specs.Casting as conductors
use Rattle.il_machine.specs.Components.{no_progress}
use Rattle.il_machine.specs.Kinds.{is_sink}
use Rattle.play_plan_laws.specs.Conducting.{HasSinks}
use Rattle.play_model.specs.Play.{Play}
use Rattle.play_world_laws.specs.Cast.{Cast, links_of, script_place}
use Rattle.play_world_laws.proofs.Lists.{get_there}
use Rattle.play_plan_laws.specs.Casting.{IsCastOf, cast_of}
use Rattle.play_plan_laws.proofs.Casts.{plan_has_cast}
use Rattle.play_plan_laws.proofs.Links.{one_output, ports_of_joint, there}
use Rattle.play_turn_laws.specs.Conducting.{AreCarriedOut, AreLates, IsCarriedOut, IsLateAt, IsPlayConducting}

-- ---- the entries of a part

-- a late source with the link that it gives into
pub record IsEntry (joints : List Joint) (place : ℕ) (part : PartLine) (late : LateLink) : Type 0 where
  pub joint : Joint
  pub is_late : is_late (kind_of part.form) ≡ true
  pub found : link_from joints place ≡ Some joint
  pub is : late ≡ unchanged place joint

entry_of : (joints : List Joint) (place : ℕ) (form : PartForm) (o : Option Joint) (i : ℕ) (late : LateLink) → slice_get (late_link form place o) i ≡ Some late
    → (i ≡ 0) × (is_late (kind_of form) ≡ true) × (joint : Joint) × (o ≡ Some joint) × (late ≡ unchanged place joint)
entry_of joints place (forms.Late file) (Some joint) zero late e = (refl, refl, joint, refl, cc)
entry_of joints place (forms.Late file) (Some joint) (suc i) late e = absurd cc
entry_of joints place (forms.Late file) None i late e = absurd cc
entry_of joints place (forms.Source file) o i late e = absurd cc
entry_of joints place forms.Decoder o i late e = absurd cc
entry_of joints place forms.Alaw o i late e = absurd cc
entry_of joints place forms.Mulaw o i late e = absurd cc
entry_of joints place (forms.Gain gain) o i late e = absurd cc
entry_of joints place (forms.Mixer weights) o i late e = absurd cc
entry_of joints place (forms.Splitter outputs) o i late e = absurd cc
entry_of joints place (forms.Sink file) o i late e = absurd cc

of_entry : (place : ℕ) (form : PartForm) (joint : Joint) → is_late (kind_of form) ≡ true → late_link form place (Some joint) ≡ unchanged place joint ∷ []
of_entry place (forms.Late file) joint e = refl
of_entry place (forms.Source file) joint e = absurd cc
of_entry place forms.Decoder joint e = absurd cc
of_entry place forms.Alaw joint e = absurd cc
of_entry place forms.Mulaw joint e = absurd cc
of_entry place (forms.Gain gain) joint e = absurd cc
of_entry place (forms.Mixer weights) joint e = absurd cc
of_entry place (forms.Splitter outputs) joint e = absurd cc
of_entry place (forms.Sink file) joint e = absurd cc

-- ---- the entries of all parts

module _ {X : Type 0} where
  -- an element of two lists is in the first, or so far in the second
  split_at : (xs ys : List X) (i : ℕ) (y : X) → slice_get (xs ++ ys) i ≡ Some y → (slice_get xs i ≡ Some y) ⊎ ((j : ℕ) × (i ≡ length xs + j) × (slice_get ys j ≡ Some y))
  split_at [] ys i y e = inr (i, omega arith, e)
  split_at (x ∷ xs) ys zero y e = inl e
  split_at (x ∷ xs) ys (suc i) y e = elim (split_at xs ys i y e) [ inl h ↦ inl h | inr h ↦ let n = h.1 in inr (h.0, omega arith, h.2) ]

  behind : (xs ys : List X) (j k : ℕ) (y : X) → k ≡ length xs + j → slice_get ys j ≡ Some y → slice_get (xs ++ ys) k ≡ Some y
  behind [] ys j k y n e = let m : k ≡ j = omega arith in ap (slice_get ys) m ∙ e
  behind (x ∷ xs) ys j zero y n e = absurd (omega arith)
  behind (x ∷ xs) ys j (suc k) y n e = behind xs ys j k y (omega arith) e

  before : (xs ys : List X) (i : ℕ) (y : X) → slice_get xs i ≡ Some y → slice_get (xs ++ ys) i ≡ Some y
  before [] ys i y e = absurd cc
  before (x ∷ xs) ys zero y e = e
  before (x ∷ xs) ys (suc i) y e = before xs ys i y e

module _ (joints : List Joint) where
  -- which part an entry is of
  pub entry_at : (from : ℕ) (parts : List PartLine) (i : ℕ) (late : LateLink) → slice_get (late_links joints from parts) i ≡ Some late → (k : ℕ) × (part : PartLine) × (slice_get parts k ≡ Some part) × IsEntry joints (from + k) part late
  entry_at from [] i late e = absurd cc
  entry_at from (part ∷ parts) i late e = elim (split_at (late_link part.form from (link_from joints from)) (late_links joints (suc from) parts) i late e) [
    | inl h ↦
        let r = entry_of joints from part.form (link_from joints from) i late h in
        let here : from ≡ from + 0 = omega arith in
        (0, part, refl, subst (λ (place : ℕ). IsEntry joints place part late) here (record { joint = r.2; is_late = r.1; found = r.3; is = r.4 }))
    | inr h ↦
        let r = entry_at (suc from) parts h.0 late h.2 in
        let here : suc from + r.0 ≡ from + suc r.0 = omega arith in
        (suc r.0, r.1, r.2, subst (λ (place : ℕ). IsEntry joints place r.1 late) here r.3)
  ]

  -- each late source with a link has one
  pub at_entry : (from : ℕ) (parts : List PartLine) (k : ℕ) (part : PartLine) (joint : Joint) → slice_get parts k ≡ Some part → is_late (kind_of part.form) ≡ true → link_from joints (from + k) ≡ Some joint
      → (i : ℕ) × (slice_get (late_links joints from parts) i ≡ Some (unchanged (from + k) joint))
  at_entry from [] k part joint e t f = absurd cc
  at_entry from (other ∷ parts) zero part joint e t f =
      let s : other ≡ part = cc in
      let here : from + 0 ≡ from = omega arith in
      let mine : late_link other.form from (link_from joints from) ≡ unchanged from joint ∷ [] =
      ap (λ (o : Option Joint). late_link other.form from o) (ap (link_from joints) (sym here) ∙ f) ∙ of_entry from other.form joint (ap (λ (y : PartLine). is_late (kind_of y.form)) s ∙ t) in
      (0, before (late_link other.form from (link_from joints from)) (late_links joints (suc from) parts) 0 (unchanged (from + 0) joint) (ap (λ (l : List LateLink). slice_get l 0) mine ∙ ap (λ (n : ℕ). Some (unchanged n joint)) (sym here)))
  at_entry from (other ∷ parts) (suc k) part joint e t f =
      let here : suc from + k ≡ from + suc k = omega arith in
      let r = at_entry (suc from) parts k part joint e t (ap (link_from joints) here ∙ f) in
      (length (late_link other.form from (link_from joints from)) + r.0, behind (late_link other.form from (link_from joints from)) (late_links joints (suc from) parts) r.0 _ (unchanged (from + suc k) joint) refl (r.1 ∙ ap (λ (n : ℕ). Some (unchanged n joint)) here))

  -- their sources rise
  pub sources_rise : (from : ℕ) (parts : List PartLine) (i j : ℕ) (a b : LateLink) → i < j → slice_get (late_links joints from parts) i ≡ Some a → slice_get (late_links joints from parts) j ≡ Some b → a.source < b.source
  sources_rise from [] i j a b l e f = absurd cc
  sources_rise from (part ∷ parts) i j a b l e f = elim (split_at front rest i a e) [
    | inl h ↦
        let r = entry_of joints from part.form (link_from joints from) i a h in
        let s : a.source ≡ from = ap (λ (y : LateLink). y.source) r.4 in
        elim (split_at front rest j b f) [
          | inl g ↦ let t = entry_of joints from part.form (link_from joints from) j b g in let m = r.0 in let n = t.0 in absurd (omega arith)
          | inr g ↦ let t = entry_at (suc from) parts g.0 b g.2 in let u : b.source ≡ suc from + t.0 = ap (λ (y : LateLink). y.source) (t.3).is in omega arith
        ]
    | inr h ↦ elim (split_at front rest j b f) [
      | inl g ↦ let t = slice_get_within front j b g in let m = h.1 in absurd (omega arith)
      | inr g ↦ let m = h.1 in let n = g.1 in sources_rise (suc from) parts h.0 g.0 a b (omega arith) h.2 g.2
    ]
  ]
    where
      front : List LateLink
      front = late_link part.form from (link_from joints from)

      rest : List LateLink
      rest = late_links joints (suc from) parts

-- ---- lists

same_sink : (form : PartForm) → is_sink_form form ≡ is_sink (kind_of form)
same_sink (forms.Source file) = refl
same_sink (forms.Late file) = refl
same_sink forms.Decoder = refl
same_sink forms.Alaw = refl
same_sink forms.Mulaw = refl
same_sink (forms.Gain gain) = refl
same_sink (forms.Mixer weights) = refl
same_sink (forms.Splitter outputs) = refl
same_sink (forms.Sink file) = refl

sink_at : (parts : List PartLine) (place : ℕ) → place < length parts → slice_get (map (λ (part : PartLine). is_sink_form part.form) parts) place ≡ Some (passes_at is_sink (slice_get parts place))
sink_at [] place b = absurd (omega arith)
sink_at (part ∷ parts) zero b = ap Some (same_sink part.form)
sink_at (part ∷ parts) (suc place) b = sink_at parts place (omega arith)

map_many : (parts : List PartLine) → length (map (λ (part : PartLine). is_sink_form part.form) parts) ≡ length parts
map_many [] = refl
map_many (part ∷ parts) = ap suc (map_many parts)

replicate_many : (n : ℕ) → length (replicate n no_progress) ≡ n
replicate_many zero = refl
replicate_many (suc n) = ap suc (replicate_many n)

-- ---- the link of a late source

found_at : (test : Joint → Bool) (joints : List Joint) (joint : Joint) → find test joints ≡ Some joint → (k : ℕ) × (slice_get joints k ≡ Some joint) × (test joint ≡ true)
found_at test [] joint e = absurd cc
found_at test (y ∷ joints) joint e = either (test y)
    (λ t. let s : Some y ≡ Some joint = sym (ap (λ (b : Bool). if b then Some y else find test joints) t) ∙ e in let is : y ≡ joint = cc in (0, s, sym (ap test is) ∙ t))
    (λ t. let r = found_at test joints joint (sym (ap (λ (b : Bool). if b then Some y else find test joints) t) ∙ e) in (suc r.0, r.1, r.2))

some_found : (test : Joint → Bool) (joints : List Joint) (k : ℕ) (joint : Joint) → slice_get joints k ≡ Some joint → test joint ≡ true → (other : Joint) × (find test joints ≡ Some other)
some_found test [] k joint e t = absurd cc
some_found test (y ∷ joints) zero joint e t = let s : y ≡ joint = cc in (y, ap (λ (b : Bool). if b then Some y else find test joints) (ap test s ∙ t))
some_found test (y ∷ joints) (suc k) joint e t = either (test y)
    (λ u. (y, ap (λ (b : Bool). if b then Some y else find test joints) u))
    (λ u. let r = some_found test joints k joint e t in (r.0, ap (λ (b : Bool). if b then Some y else find test joints) u ∙ r.1))

-- its one port is an output
late_output : (form : PartForm) (output : ℕ) → is_late (kind_of form) ≡ true → has_output output (kind_of form) ≡ true → output ≡ 0
late_output (forms.Late file) output e h = let b = ltb-true output 1 (both_of (nat_le 0 output) (nat_lt output 1) h).1 in omega arith
late_output (forms.Source file) output e h = absurd cc
late_output forms.Decoder output e h = absurd cc
late_output forms.Alaw output e h = absurd cc
late_output forms.Mulaw output e h = absurd cc
late_output (forms.Gain gain) output e h = absurd cc
late_output (forms.Mixer weights) output e h = absurd cc
late_output (forms.Splitter outputs) output e h = absurd cc
late_output (forms.Sink file) output e h = absurd cc

module _ (plan : PlanValue) (by_output : ℕ → Bool) (recent : ℕ) (p : Play) (V : IsValid plan) (new : (l : ℕ) → (p.change l).step ≡ 0) where
  abbrev x : Cast
  x = cast_of by_output plan

  C : IsCastOf plan x
  C = plan_has_cast plan by_output V

  -- the output of a late source's link
  output_is : (l place : ℕ) (joint : Joint) (part : PartLine) → slice_get plan.joints l ≡ Some joint → joint.giver ≡ place → slice_get plan.parts place ≡ Some part → is_late (kind_of part.form) ≡ true → joint.output ≡ 0
  output_is l place joint part e g f t =
      let q = there plan.parts (has_output joint.output) joint.giver (slice_get plan.parts joint.giver) refl (ports_of_joint plan V l joint e).0 in
      let s : Some q.0 ≡ Some part = sym q.1 ∙ (ap (slice_get plan.parts) g ∙ f) in
      let is : q.0 ≡ part = cc in
      late_output part.form joint.output t (ap (λ (y : PartLine). has_output joint.output (kind_of y.form)) (sym is) ∙ q.2)

  late_at : (l place : ℕ) (joint : Joint) (part : PartLine) → slice_get plan.joints l ≡ Some joint → joint.giver ≡ place → slice_get plan.parts place ≡ Some part → is_late (kind_of part.form) ≡ true → IsLateAt x recent p l (unchanged place joint)
  late_at l place joint part e g f t =
      let w = slice_get_within plan.joints l joint e in
      let m = V.flows in
      let flow = get_there plan.flows l (omega arith) in
      let J = C.joints l joint flow.0 e flow.1 in
      let n = new l in
      record {
        of_link = record {
          below = w;
          late = J.late ∙ (ap (λ (k : ℕ). passes_at is_late (slice_get plan.parts k)) g ∙ (ap (passes_at is_late) f ∙ t));
          source = sym g ∙ sym J.giver;
          taker = sym J.taker;
          input = sym J.input;
          first = J.output ∙ output_is l place joint part e g f t;
        };
        way = omega arith;
        told = record { output_disabled = λ h. absurd cc; input_disabled = λ h. absurd cc; output_enabled = λ h. absurd cc; input_enabled = λ h. absurd cc };
        disabled = λ h. absurd (omega arith);
        latest = λ h u. absurd (omega arith);
      }

  -- a late source's link is the one that is found
  found_is : (l : ℕ) → l < links_of x → (x.layout).is_late l ≡ true → (joint : Joint) × (part : PartLine) × (slice_get plan.joints l ≡ Some joint) × (slice_get plan.parts joint.giver ≡ Some part) × (is_late (kind_of part.form) ≡ true)
      × (link_from plan.joints joint.giver ≡ Some joint)
  found_is l b t =
      let j = get_there plan.joints l b in
      let joint : Joint = j.0 in
      let m = V.flows in
      let flow = get_there plan.flows l (omega arith) in
      let J = C.joints l joint flow.0 j.1 flow.1 in
      let q = there plan.parts is_late joint.giver (slice_get plan.parts joint.giver) refl (sym J.late ∙ t) in
      let r = some_found (λ (other : Joint). other.giver == joint.giver) plan.joints l joint j.1 (eq-eqb joint.giver joint.giver refl) in
      let k = found_at (λ (other : Joint). other.giver == joint.giver) plan.joints r.0 r.1 in
      let same : (r.0).giver ≡ joint.giver = eqb-true _ _ k.2 in
      let one = one_output plan V k.0 l joint r.0 k.1 j.1 same (output_is k.0 joint.giver r.0 q.0 k.1 same q.1 q.2 ∙ sym (output_is l joint.giver joint q.0 j.1 refl q.1 q.2)) in
      let is : Some r.0 ≡ Some joint = sym k.1 ∙ (ap (slice_get plan.joints) one ∙ j.1) in
      (joint, q.0, j.1, q.1, q.2, r.1 ∙ is)

  lates_begin : AreLates x recent p (late_links plan.joints 0 plan.parts)
  lates_begin = record {
    each = λ i late e.
        let r = entry_at plan.joints 0 plan.parts i late e in
        let from : 0 + r.0 ≡ r.0 = omega arith in
        let E = subst (λ (place : ℕ). IsEntry plan.joints place r.1 late) from r.3 in
        let k = found_at (λ (other : Joint). other.giver == r.0) plan.joints E.joint E.found in
        (k.0, subst (λ (y : LateLink). IsLateAt x recent p k.0 y) (sym E.is) (late_at k.0 r.0 E.joint r.1 k.1 (eqb-true _ _ k.2) r.2 E.is_late));
    some = λ l b t.
        let r = found_is l b t in
        let from : 0 + (r.0).giver ≡ (r.0).giver = omega arith in
        let i = at_entry plan.joints 0 plan.parts (r.0).giver r.1 r.0 r.3 r.4 (ap (link_from plan.joints) from ∙ r.5) in
        (i.0, unchanged (r.0).giver r.0, i.1 ∙ ap (λ (place : ℕ). Some (unchanged place r.0)) from, late_at l (r.0).giver r.0 r.1 r.2 refl r.3 r.4);
    rising = sources_rise plan.joints 0 plan.parts;
  }

  -- ---- its sinks

  has_sinks : HasSinks x (conductors.cast_of plan)
  has_sinks = record {
    many = map_many plan.parts;
    each = λ c b.
        let N = (V.placed).placed c (script_place x c) (C.placed c b) in
        sink_at plan.parts (script_place x c) N.there;
  }

  carried_begin : AreCarriedOut x p (late_links plan.joints 0 plan.parts)
  carried_begin i l late e N =
      let r = entry_at plan.joints 0 plan.parts i late e in
      let n = new l in
      let none : 0 ≡ late.steps = ap (λ (y : LateLink). y.steps) (sym (r.3).is) in
      subst (λ (m : ℕ). IsCarriedOut m (p.change l).step) none (omega arith)

pub plan_begins : (plan : PlanValue) (by_output : ℕ → Bool) (recent : ℕ) (p : Play) → IsValid plan → p.phase ≡ 0 → ((l : ℕ) → (p.change l).step ≡ 0)
    → IsPlayConducting (cast_of by_output plan) recent p (conductors.cast_of plan) × AreCarriedOut (cast_of by_output plan) p (conductors.cast_of plan).lates
plan_begins plan by_output recent p V e new = (
  record {
    sinks = has_sinks plan by_output recent p V new;
    many = replicate_many (length plan.parts);
    lates = lates_begin plan by_output recent p V new;
    sends = sym e;
  },
  carried_begin plan by_output recent p V new,
)
