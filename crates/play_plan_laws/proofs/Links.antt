-- Facts of the links of a valid plan: their ends, the order of placing, and that each fits the input that it leads into.
use Rattle.std.proofs.Common.{◌≡◌, ◌⊎◌, inl, inr, ℕ, zero, suc, ◌+◌, ◌*◌, ◌/◌, ◌<◌, ◌≤◌, Bool, true, false, not, ◌&&◌, ◌||◌, ◌==◌, nat_le, if◌then◌else◌, List, [], ◌∷◌, length, take, slice_get, Option, Some, None, refl, sym, ◌∙◌, ap, subst, eqb-true, eq-eqb, ltb-true, leb-true, arith}
use Rattle.std.proofs.lemmas.Bool.{cases_eq}
use Rattle.std.proofs.lemmas.Option.{slice_get_within}
use Rattle.std.proofs.lemmas.List.Sums.{sum_by-cons}
use Rattle.std.proofs.Math.Nat.{lt-div-mul-add, zero-mul}
use Rattle.std.specs.List.{list_any}
use Rattle.omx_types.specs.declared.kind.Kind.{Kind}
use Rattle.omx_types.specs.declared.kind.Kind.TheVariants as kinds
use Rattle.omx_types.specs.Formats.{frame_bytes_of}
use Rattle.part_forms.specs.Kinds.{IsSized, inputs_of, outputs_of, ports_in, is_source}
use Rattle.il_machine.specs.Kinds.{is_sink}
use Rattle.script_lang.specs.declared.play_line.PartLine.{PartLine}
use Rattle.machine_laws.proofs.Every.{all_pass, none_passes}
use Rattle.machine_laws.proofs.Finding.{either}
use Rattle.machine_laws.proofs.Accepting.{both_of, is_not}
use Rattle.play_model.specs.Progress.{sum_to}
use Rattle.play_forms.specs.declared.flow.Flow.{Flow}
use Rattle.play_forms.specs.declared.joint.Joint.{Joint}
use Rattle.play_forms.specs.Fitting.{Fits, format_into}
use Rattle.play_forms.specs.Flows.{most_frames, no_flow}
use Rattle.play_forms.specs.Joints.{AllJoin, headers_of, is_joint, names_port, shares_port}
use Rattle.play_forms.specs.Parts.{kind_of, has_input, has_output, passes_at}
use Rattle.play_forms.specs.Placing.{IsOrder, has_place, is_fed}
use Rattle.play_forms.specs.Plans.{PlanValue, IsFit, IsValid}
use Rattle.play_forms.specs.Settling.{into}
use Rattle.stream_plan.proofs.Lefts.{new_place}
use Rattle.stream_plan.proofs.Lists.{slice_get_front, slice_get_take}
use Rattle.play_world_laws.proofs.Numbers.{some_passes}
use Rattle.play_world_laws.proofs.Told.{any_there}
use Rattle.play_plan_laws.proofs.Turns.{few_turns}

-- ---- kinds

pub fed_kind : (k : Kind) (input : ℕ) → has_input input k ≡ true → is_source k ≡ false
fed_kind kinds.Source input h = absurd (omega (arith, ltb-true input 0 h))
fed_kind kinds.Late input h = absurd (omega (arith, ltb-true input 0 h))
fed_kind kinds.Decoder input h = refl
fed_kind kinds.Alaw input h = refl
fed_kind kinds.Mulaw input h = refl
fed_kind kinds.Gain input h = refl
fed_kind (kinds.Mixer n) input h = refl
fed_kind (kinds.Splitter n) input h = refl
fed_kind kinds.Sink input h = refl

pub some_input : (k : Kind) → IsSized k → is_source k ≡ false → 1 ≤ inputs_of k
some_input kinds.Source s h = absurd cc
some_input kinds.Late s h = absurd cc
some_input kinds.Decoder s h = omega arith
some_input kinds.Alaw s h = omega arith
some_input kinds.Mulaw s h = omega arith
some_input kinds.Gain s h = omega arith
some_input (kinds.Mixer n) s h = omega (arith, s.0)
some_input (kinds.Splitter n) s h = omega arith
some_input kinds.Sink s h = omega arith

pub some_output : (k : Kind) → IsSized k → is_sink k ≡ false → 1 ≤ outputs_of k
some_output kinds.Source s h = omega arith
some_output kinds.Late s h = omega arith
some_output kinds.Decoder s h = omega arith
some_output kinds.Alaw s h = omega arith
some_output kinds.Mulaw s h = omega arith
some_output kinds.Gain s h = omega arith
some_output (kinds.Mixer n) s h = omega arith
some_output (kinds.Splitter n) s h = omega (arith, s.0)
some_output kinds.Sink s h = absurd cc

-- ---- lists

pub two_ways : (i j : ℕ) → (i < j) ⊎ ((i ≡ j) ⊎ (j < i))
two_ways zero zero = inr (inl refl)
two_ways zero (suc j) = inl (omega arith)
two_ways (suc i) zero = inr (inr (omega arith))
two_ways (suc i) (suc j) = elim (two_ways i j) [ inl h ↦ inl (omega arith) | inr h ↦ inr (elim h [ inl k ↦ inl (ap suc k) | inr k ↦ inr (omega arith) ]) ]

pub or_cases : (a b : Bool) → (a || b) ≡ true → (a ≡ true) ⊎ (b ≡ true)
or_cases true b h = inl refl
or_cases false b h = inr h

pub or_right : (a b : Bool) → b ≡ true → (a || b) ≡ true
or_right true b h = refl
or_right false b h = h

pub there : (parts : List PartLine) (test : Kind → Bool) (place : ℕ) (o : Option PartLine) → slice_get parts place ≡ o → passes_at test o ≡ true → (part : PartLine) × (slice_get parts place ≡ Some part) × (test (kind_of part.form) ≡ true)
there parts test place None e h = absurd cc
there parts test place (Some part) e h = (part, e, h)

-- a taker is a component
pub takers_within : (parts : List PartLine) (joints : List Joint) → AllJoin parts joints → (k : ℕ) (joint : Joint) → slice_get joints k ≡ Some joint → joint.taker < length parts
takers_within parts joints all k joint e =
    let can = both_of (is_joint parts joint) (not (list_any (shares_port joint) (take k joints))) (all k joint e) in
    let ends = both_of (passes_at (has_output joint.output) (slice_get parts joint.giver)) (passes_at (has_input joint.input) (slice_get parts joint.taker)) can.0 in
    let p = there parts (has_input joint.input) joint.taker (slice_get parts joint.taker) refl ends.1 in
    slice_get_within parts joint.taker p.0 p.1

pub sum_is : (n : ℕ) (f : ℕ → ℕ) (joints : List Joint) → n ≡ length joints → ((l : ℕ) (joint : Joint) → slice_get joints l ≡ Some joint → f l ≡ joint.count) → sum_to n f ≡ headers_of joints
sum_is n f joints e h = ap (λ (k : ℕ). sum_to k f) e ∙ by_list f joints h
  where
    shifted : (n : ℕ) (f : ℕ → ℕ) → sum_to (suc n) f ≡ f 0 + sum_to n (λ l. f (suc l))
    shifted zero f = omega arith
    shifted (suc n) f = let i = shifted n f in omega arith

    by_list : (f : ℕ → ℕ) (joints : List Joint) → ((l : ℕ) (joint : Joint) → slice_get joints l ≡ Some joint → f l ≡ joint.count) → sum_to (length joints) f ≡ headers_of joints
    by_list f [] h = refl
    by_list f (joint ∷ joints) h =
        let a = shifted (length joints) f in
        let b = h 0 joint refl in
        let c = by_list (λ l. f (suc l)) joints (λ l j e. h (suc l) j e) in
        let d = sum_by-cons (λ (j : Joint). j.count) joint joints in
        omega arith

-- what comes in at the input of a link is what the link has
pub into_is : (joints : List Joint) (values : List Flow) (k : ℕ) (joint : Joint) (value : Flow) (place input : ℕ) → slice_get joints k ≡ Some joint → slice_get values k ≡ Some value → joint.taker ≡ place → joint.input ≡ input
    → ((i : ℕ) (other : Joint) → i < k → slice_get joints i ≡ Some other → (other.taker == place && other.input == input) ≡ false) → into no_flow joints values place input ≡ value
into_is [] values k joint value place input e f t u h = absurd cc
into_is (other ∷ joints) [] k joint value place input e f t u h = absurd cc
into_is (other ∷ joints) (old ∷ values) zero joint value place input e f t u h =
    let j : other ≡ joint = cc in
    let v : old ≡ value = cc in
    let a : (other.taker == place) ≡ true = eq-eqb other.taker place (ap (λ (y : Joint). y.taker) j ∙ t) in
    let b : (other.input == input) ≡ true = eq-eqb other.input input (ap (λ (y : Joint). y.input) j ∙ u) in
    (λ i. if a i && b i then old else into no_flow joints values place input) ∙ v
into_is (other ∷ joints) (old ∷ values) (suc k) joint value place input e f t u h =
    let no : (other.taker == place && other.input == input) ≡ false = h 0 other (omega arith) refl in
    ap (λ (q : Bool). if q then old else into no_flow joints values place input) no ∙ into_is joints values k joint value place input e f t u (λ i y l d. h (suc i) y (omega arith) d)

pub most_low : (n : ℕ) (f : ℕ → Flow) (i : ℕ) → i < n → (f i).frames ≤ most_frames n f
most_low zero f i l = absurd (omega arith)
most_low (suc n) f i l = elim (two_ways i n) [
  | inl h ↦ let k = most_low n f i h in omega arith
  | inr h ↦ elim h [ inl e ↦ let k : (f i).frames ≡ (f n).frames = ap (λ (j : ℕ). (f j).frames) e in omega arith | inr e ↦ absurd (omega arith) ]
]

pub most_is : (n : ℕ) (f : ℕ → Flow) → 1 ≤ n → (i : ℕ) × (i < n) × ((f i).frames ≡ most_frames n f)
most_is zero f l = absurd (omega arith)
most_is (suc zero) f l = (0, omega arith, omega arith)
most_is (suc (suc n)) f l =
    let r = most_is (suc n) f (omega arith) in
    elim (two_ways (most_frames (suc n) f) (f (suc n)).frames) [
      | inl h ↦ (suc n, omega arith, omega arith)
      | inr h ↦ let k = r.1 in let v = r.2 in (r.0, omega arith, elim h [ inl e ↦ omega arith | inr e ↦ omega arith ])
    ]

pub div_some : (a b : ℕ) → 1 ≤ b → b ≤ a → 1 ≤ a / b
div_some a b p l = elim (cases_eq (a / b) 0) [
  | inr n ↦ omega arith
  | inl z ↦
      let none : a / b * b ≡ 0 = ap (λ (q : ℕ). q * b) z ∙ zero-mul b in
      let k : a < a / b * b + b = lt-div-mul-add (let q : 0 < b = omega arith in q) in
      absurd (omega arith)
]

-- ---- the order of placing

module _ (joints : List Joint) (count : ℕ) (order : List ℕ) (O : IsOrder joints count order) where
  -- one place has one turn
  pub one_turn : (c d place : ℕ) → slice_get order c ≡ Some place → slice_get order d ≡ Some place → c ≡ d
  one_turn c d place e f = elim (two_ways c d) [
    | inl h ↦ absurd (before c d place h e f)
    | inr h ↦ elim h [ inl k ↦ k | inr k ↦ absurd (before d c place k f e) ]
  ]
    where
      before : (c d place : ℕ) → c < d → slice_get order c ≡ Some place → slice_get order d ≡ Some place → ⊥
      before c d place l e f =
          let new = new_place joints count (take d order) place (O.placed d place f) in
          let old : has_place (take d order) place ≡ true = any_there (λ (other : ℕ). other == place) (take d order) c place (slice_get_front order d c place l e) (eq-eqb place place refl) in
          cc

  pub turn_of : (place : ℕ) → place < count → (c : ℕ) × (c < count) × (slice_get order c ≡ Some place)
  turn_of place l =
      let r = some_passes (λ (other : ℕ). other == place) order (O.all place l) in
      let same : r.1 ≡ place = eqb-true _ _ r.3 in
      let there2 : slice_get order r.0 ≡ Some place = r.2 ∙ ap (λ (k : ℕ). Some k) same in
      let w = slice_get_within order r.0 place there2 in
      let few = few_turns joints count order O in
      (r.0, omega arith, there2)

  -- what a component takes comes from one with an earlier turn
  pub fed_before : (d l : ℕ) (joint : Joint) → slice_get joints l ≡ Some joint → slice_get order d ≡ Some joint.taker → (c : ℕ) × (c < d) × (slice_get order c ≡ Some joint.giver)
  fed_before d l joint e f =
      let N = O.placed d joint.taker f in
      let fed = (both_of (not (has_place (take d order) joint.taker)) (is_fed joints (take d order) joint.taker) N.can).1 in
      let one = all_pass (λ (j : Joint). not (j.taker == joint.taker) || has_place (take d order) j.giver) joints l joint fed e in
      let here : has_place (take d order) joint.giver ≡ true = sym (ap (λ (q : Bool). not q || has_place (take d order) joint.giver) (eq-eqb joint.taker joint.taker refl)) ∙ one in
      let r = some_passes (λ (other : ℕ). other == joint.giver) (take d order) here in
      let same : r.1 ≡ joint.giver = eqb-true _ _ r.3 in
      let t = slice_get_take order d r.0 r.1 r.2 in
      (r.0, t.0, t.1 ∙ ap (λ (k : ℕ). Some k) same)

-- ---- the links

module _ (plan : PlanValue) (V : IsValid plan) where
  pub ports_of_joint : (l : ℕ) (joint : Joint) → slice_get plan.joints l ≡ Some joint → (passes_at (has_output joint.output) (slice_get plan.parts joint.giver) ≡ true) × (passes_at (has_input joint.input) (slice_get plan.parts joint.taker) ≡ true)
  ports_of_joint l joint e =
      let can = both_of (is_joint plan.parts joint) (not (list_any (shares_port joint) (take l plan.joints))) (V.joined l joint e) in
      both_of (passes_at (has_output joint.output) (slice_get plan.parts joint.giver)) (passes_at (has_input joint.input) (slice_get plan.parts joint.taker)) can.0

  -- two links share no port
  pub apart_before : (k l : ℕ) (joint other : Joint) → k < l → slice_get plan.joints k ≡ Some other → slice_get plan.joints l ≡ Some joint → shares_port joint other ≡ false
  apart_before k l joint other d e f =
      let can = both_of (is_joint plan.parts joint) (not (list_any (shares_port joint) (take l plan.joints))) (V.joined l joint f) in
      none_passes (shares_port joint) (take l plan.joints) k other (is_not _ can.1) (slice_get_front plan.joints l k other d e)

  pub one_output : (k l : ℕ) (joint other : Joint) → slice_get plan.joints k ≡ Some other → slice_get plan.joints l ≡ Some joint → other.giver ≡ joint.giver → other.output ≡ joint.output → k ≡ l
  one_output k l joint other e f g o = elim (two_ways k l) [
    | inl h ↦ absurd (clash k l joint other h e f g o)
    | inr h ↦ elim h [ inl q ↦ q | inr q ↦ absurd (clash l k other joint q f e (sym g) (sym o)) ]
  ]
    where
      clash : (k l : ℕ) (joint other : Joint) → k < l → slice_get plan.joints k ≡ Some other → slice_get plan.joints l ≡ Some joint → other.giver ≡ joint.giver → other.output ≡ joint.output → ⊥
      clash k l joint other d e f g o =
          let no_share = apart_before k l joint other d e f in
          let a : (other.giver == joint.giver) ≡ true = eq-eqb other.giver joint.giver g in
          let b : (other.output == joint.output) ≡ true = eq-eqb other.output joint.output o in
          let t : shares_port joint other ≡ true = λ i. (a i && b i) || (other.taker == joint.taker && other.input == joint.input) in
          cc

  pub one_input : (k l : ℕ) (joint other : Joint) → slice_get plan.joints k ≡ Some other → slice_get plan.joints l ≡ Some joint → other.taker ≡ joint.taker → other.input ≡ joint.input → k ≡ l
  one_input k l joint other e f g o = elim (two_ways k l) [
    | inl h ↦ absurd (clash k l joint other h e f g o)
    | inr h ↦ elim h [ inl q ↦ q | inr q ↦ absurd (clash l k other joint q f e (sym g) (sym o)) ]
  ]
    where
      clash : (k l : ℕ) (joint other : Joint) → k < l → slice_get plan.joints k ≡ Some other → slice_get plan.joints l ≡ Some joint → other.taker ≡ joint.taker → other.input ≡ joint.input → ⊥
      clash k l joint other d e f g o =
          let no_share = apart_before k l joint other d e f in
          let a : (other.taker == joint.taker) ≡ true = eq-eqb other.taker joint.taker g in
          let b : (other.input == joint.input) ≡ true = eq-eqb other.input joint.input o in
          let t : shares_port joint other ≡ true = or_right (other.giver == joint.giver && other.output == joint.output) _ (λ i. a i && b i) in
          cc

  -- no output is an input
  pub no_both : (k l : ℕ) (joint other : Joint) → slice_get plan.joints k ≡ Some other → slice_get plan.joints l ≡ Some joint → other.giver ≡ joint.taker → other.output ≡ joint.input → ⊥
  no_both k l joint other e f g o =
      let a = there plan.parts (has_output other.output) other.giver (slice_get plan.parts other.giver) refl (ports_of_joint k other e).0 in
      let b = there plan.parts (has_input joint.input) joint.taker (slice_get plan.parts joint.taker) refl (ports_of_joint l joint f).1 in
      let s : Some a.0 ≡ Some b.0 = sym a.1 ∙ (ap (slice_get plan.parts) g ∙ b.1) in
      let is : a.0 ≡ b.0 = cc in
      let same : inputs_of (kind_of (a.0).form) ≡ inputs_of (kind_of (b.0).form) = ap (λ (p : PartLine). inputs_of (kind_of p.form)) is in
      let low = ltb-true joint.input (inputs_of (kind_of (b.0).form)) b.2 in
      let high = leb-true (inputs_of (kind_of (a.0).form)) other.output (both_of (nat_le (inputs_of (kind_of (a.0).form)) other.output) _ a.2).0 in
      omega arith

  -- what comes in at the input of a link
  pub incoming_is : (l : ℕ) (joint : Joint) (flow : Flow) → slice_get plan.joints l ≡ Some joint → slice_get plan.flows l ≡ Some flow → into no_flow plan.joints plan.flows joint.taker joint.input ≡ flow
  incoming_is l joint flow e f = into_is plan.joints plan.flows l joint flow joint.taker joint.input e f refl refl (λ i other d g.
      either (other.taker == joint.taker && other.input == joint.input)
      (λ t.
      let k = both_of (other.taker == joint.taker) (other.input == joint.input) t in
      let same = one_input i l joint other g e (eqb-true _ _ k.0) (eqb-true _ _ k.1) in
      absurd (omega arith))
      (λ t. t))

  -- a link fits the input that it leads into
  pub fits_at : IsFit plan → (l : ℕ) (joint : Joint) (flow : Flow) → slice_get plan.joints l ≡ Some joint → slice_get plan.flows l ≡ Some flow
      → (part : PartLine) × (slice_get plan.parts joint.taker ≡ Some part) × Fits (kind_of part.form) joint flow.format (format_into plan.joints plan.flows joint.taker 0)
  fits_at T l joint flow e f =
      let q = there plan.parts (has_input joint.input) joint.taker (slice_get plan.parts joint.taker) refl (ports_of_joint l joint e).1 in
      let d = slice_get_within plan.parts joint.taker q.0 q.1 in
      let t = turn_of plan.joints (length plan.parts) plan.order V.placed joint.taker d in
      let low = ltb-true joint.input (inputs_of (kind_of (q.0).form)) q.2 in
      let h = T t.0 joint.taker q.0 t.2 q.1 joint.input low l joint e refl refl in
      let is : into no_flow plan.joints plan.flows joint.taker joint.input ≡ flow = incoming_is l joint flow e f in
      (q.0, q.1, subst (λ (y : Flow). Fits (kind_of (q.0).form) joint y.format (format_into plan.joints plan.flows joint.taker 0)) is h)

  pub fits_joint : IsFit plan → (l : ℕ) (joint : Joint) (flow : Flow) → slice_get plan.joints l ≡ Some joint → slice_get plan.flows l ≡ Some flow → frame_bytes_of flow.format ≤ joint.size
  fits_joint T l joint flow e f = (fits_at T l joint flow e f).2.holds_one

  -- the link at a port
  pub input_linked : (place : ℕ) (part : PartLine) (input : ℕ) → slice_get plan.parts place ≡ Some part → input < inputs_of (kind_of part.form)
      → (l : ℕ) × (joint : Joint) × (slice_get plan.joints l ≡ Some joint) × (joint.taker ≡ place) × (joint.input ≡ input)
  input_linked place part input e low =
      let named = V.linked place part e input (omega arith) in
      let r = some_passes (names_port place input) plan.joints named in
      elim (or_cases ((r.1).giver == place && (r.1).output == input) ((r.1).taker == place && (r.1).input == input) r.3) [
        | inl h ↦
            let k = both_of ((r.1).giver == place) ((r.1).output == input) h in
            let q = there plan.parts (has_output (r.1).output) (r.1).giver (slice_get plan.parts (r.1).giver) refl (ports_of_joint r.0 r.1 r.2).0 in
            let port : (r.1).output ≡ input = eqb-true _ _ k.1 in
            let same : Some q.0 ≡ Some part = sym q.1 ∙ (ap (slice_get plan.parts) (eqb-true _ _ k.0) ∙ e) in
            let one : q.0 ≡ part = cc in
            let many : inputs_of (kind_of (q.0).form) ≡ inputs_of (kind_of part.form) = ap (λ (y : PartLine). inputs_of (kind_of y.form)) one in
            let high = leb-true (inputs_of (kind_of (q.0).form)) (r.1).output (both_of (nat_le (inputs_of (kind_of (q.0).form)) (r.1).output) _ q.2).0 in
            absurd (omega arith)
        | inr h ↦ let k = both_of ((r.1).taker == place) ((r.1).input == input) h in (r.0, r.1, r.2, eqb-true _ _ k.0, eqb-true _ _ k.1)
      ]

  pub output_linked : (place : ℕ) (part : PartLine) (output : ℕ) → slice_get plan.parts place ≡ Some part → inputs_of (kind_of part.form) ≤ output → output < ports_in (kind_of part.form)
      → (l : ℕ) × (joint : Joint) × (slice_get plan.joints l ≡ Some joint) × (joint.giver ≡ place) × (joint.output ≡ output)
  output_linked place part output e high low =
      let named = V.linked place part e output low in
      let r = some_passes (names_port place output) plan.joints named in
      elim (or_cases ((r.1).giver == place && (r.1).output == output) ((r.1).taker == place && (r.1).input == output) r.3) [
        | inl h ↦ let k = both_of ((r.1).giver == place) ((r.1).output == output) h in (r.0, r.1, r.2, eqb-true _ _ k.0, eqb-true _ _ k.1)
        | inr h ↦
            let k = both_of ((r.1).taker == place) ((r.1).input == output) h in
            let q = there plan.parts (has_input (r.1).input) (r.1).taker (slice_get plan.parts (r.1).taker) refl (ports_of_joint r.0 r.1 r.2).1 in
            let port : (r.1).input ≡ output = eqb-true _ _ k.1 in
            let same : Some q.0 ≡ Some part = sym q.1 ∙ (ap (slice_get plan.parts) (eqb-true _ _ k.0) ∙ e) in
            let one : q.0 ≡ part = cc in
            let many : inputs_of (kind_of (q.0).form) ≡ inputs_of (kind_of part.form) = ap (λ (y : PartLine). inputs_of (kind_of y.form)) one in
            let below = ltb-true (r.1).input (inputs_of (kind_of (q.0).form)) q.2 in
            absurd (omega arith)
      ]
