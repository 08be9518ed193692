-- A plan fits, or it has a fault of fitting.
use Rattle.std.proofs.Common.{◌≡◌, ◌⊎◌, inl, inr, ℕ, zero, suc, ◌<◌, ◌==◌, List, [], ◌∷◌, take, slice_get, Option, Some, None, refl, sym, ◌∙◌, subst, arith}
use Rattle.std.proofs.lemmas.Bool.{cases_lt, eqb-true, eq-eqb}
use Rattle.omx_types.specs.Formats.{frame_bytes_of}
use Rattle.omx_types.specs.declared.format.Format.{Format}
use Rattle.omx_types.specs.declared.format.Format.TheVariants.{Pcm, Alaw, Mulaw, Auto}
use Rattle.omx_types.specs.declared.kind.Kind.{Kind}
use Rattle.part_forms.specs.Kinds.{inputs_of, is_input_format}
use Rattle.script_lang.specs.declared.play_line.PartLine.{PartLine}
use Rattle.play_forms.specs.declared.flow.Flow.{Flow}
use Rattle.play_forms.specs.declared.joint.Joint.{Joint}
use Rattle.play_forms.specs.declared.plan_fault.PlanFault.{PlanFault}
use Rattle.play_forms.specs.declared.plan_fault.PlanFault.TheVariants.{Wrong, Small, Differ}
use Rattle.play_forms.specs.Fitting.{AllFit, ComponentFits, Fits, InputFits, IsCause, IsMisfit, format_into}
use Rattle.play_forms.specs.Parts.{kind_of}
use Rattle.play_forms.specs.Plans.{IsFit, IsFitFault, PlanValue}
use Rattle.play_forms.proofs.Places.{Some_same, both, either}

-- ---- the first that isn't so

first_and_rest : {A : Type 0} (P : A → Type 0) (x : A) (xs : List A) → P x → ((k : ℕ) (y : A) → slice_get xs k ≡ Some y → P y) → (k : ℕ) (y : A) → slice_get (x ∷ xs) k ≡ Some y → P y
first_and_rest P x xs p rest zero y there = subst P (Some_same x y there) p
first_and_rest P x xs p rest (suc k) y there = rest k y there

record IsFirst {A : Type 0} (P Q : A → Type 0) (xs : List A) : Type 0 where
  place : ℕ
  item : A
  there : slice_get xs place ≡ Some item
  is : Q item
  before : (k : ℕ) (y : A) → slice_get (take place xs) k ≡ Some y → P y

all_or_first : {A : Type 0} (P Q : A → Type 0) → ((x : A) → P x ⊎ Q x) → (xs : List A) → ((k : ℕ) (y : A) → slice_get xs k ≡ Some y → P y) ⊎ IsFirst P Q xs
all_or_first P Q test [] = inl (λ k y there. absurd cc)
all_or_first P Q test (x ∷ xs) =
    elim (test x) [
      | inr q ↦ inr (record { place = zero; item = x; there = refl; is = q; before = λ k y there. absurd cc })
      | inl p ↦ elim (all_or_first P Q test xs) [
        | inl all ↦ inl (first_and_rest P x xs p all)
        | inr F ↦ inr (record { place = suc F.place; item = F.item; there = F.there; is = F.is; before = first_and_rest P x (take F.place xs) p F.before })
      ]
    ]

below_or_first : (P Q : ℕ → Type 0) → ((k : ℕ) → P k ⊎ Q k) → (n : ℕ) → ((k : ℕ) → k < n → P k) ⊎ ((k : ℕ) × (k < n) × Q k × ((j : ℕ) → j < k → P j))
below_or_first P Q test zero = inl (λ k low. absurd (omega (arith, low)))
below_or_first P Q test (suc n) =
    elim (below_or_first P Q test n) [
      | inr (k, low, q, before) ↦ inr (k, omega (arith, low), q, before)
      | inl all ↦ elim (test n) [
        | inr q ↦ inr (n, omega arith, q, all)
        | inl p ↦ inl (λ k low. elim (cases_lt k n) [
          | inl lt ↦ all k lt
          | inr ge ↦ (let e : n ≡ k = omega (arith, low, ge) in subst P e p)
        ])
      ]
    ]

-- ---- one link

nat_or : (a b : ℕ) → (a ≡ b) ⊎ (a ≡ b → ⊥)
nat_or a b = either (a == b) (λ t. inl (eqb-true a b t)) (λ f. inr (λ e. both (a == b) (eq-eqb a b e) f))

pair_or : (make : ℕ → ℕ → Format) → ((r n s m : ℕ) → make r n ≡ make s m → (r ≡ s) × (n ≡ m)) → (r n s m : ℕ) → (make r n ≡ make s m) ⊎ (make r n ≡ make s m → ⊥)
pair_or make parts r n s m =
    elim (nat_or r s) [
      | inr other ↦ inr (λ e. other ((parts r n s m e).0))
      | inl rate ↦ elim (nat_or n m) [
        | inr other ↦ inr (λ e. other ((parts r n s m e).1))
        | inl channels ↦ inl (λ i. make (rate i) (channels i))
      ]
    ]

format_or : (f g : Format) → (f ≡ g) ⊎ (f ≡ g → ⊥)
format_or (Pcm r n) (Pcm s m) = pair_or Pcm (λ a b c d e. (cc, cc)) r n s m
format_or (Alaw r n) (Alaw s m) = pair_or Alaw (λ a b c d e. (cc, cc)) r n s m
format_or (Mulaw r n) (Mulaw s m) = pair_or Mulaw (λ a b c d e. (cc, cc)) r n s m
format_or Auto Auto = inl refl
format_or (Pcm r n) (Alaw s m) = inr (λ e. cc)
format_or (Pcm r n) (Mulaw s m) = inr (λ e. cc)
format_or (Pcm r n) Auto = inr (λ e. cc)
format_or (Alaw r n) (Pcm s m) = inr (λ e. cc)
format_or (Alaw r n) (Mulaw s m) = inr (λ e. cc)
format_or (Alaw r n) Auto = inr (λ e. cc)
format_or (Mulaw r n) (Pcm s m) = inr (λ e. cc)
format_or (Mulaw r n) (Alaw s m) = inr (λ e. cc)
format_or (Mulaw r n) Auto = inr (λ e. cc)
format_or Auto (Pcm s m) = inr (λ e. cc)
format_or Auto (Alaw s m) = inr (λ e. cc)
format_or Auto (Mulaw s m) = inr (λ e. cc)

fits_or_cause : (kind : Kind) (joint : Joint) (format first : Format) → Fits kind joint format first ⊎ ((fault : PlanFault) × IsCause kind joint format first fault)
fits_or_cause kind joint format first =
    either (is_input_format kind format)
    (λ taken. elim (cases_lt joint.size (frame_bytes_of format)) [
      | inl small ↦ inr (Small joint.line, (refl, taken, small))
      | inr holds ↦ elim (format_or format first) [
        | inl same ↦ inl (record { taken = taken; holds_one = holds; same = same })
        | inr other ↦ inr (Differ joint.line, (refl, taken, holds, other))
      ]
    ])
    (λ other. inr (Wrong joint.line, (refl, other)))

-- ---- the links into one component, and into all

module _ (parts : List PartLine) (joints : List Joint) (flows : List Flow) where
  -- a link into the input that doesn't fit
  record IsUnfitLink (place : ℕ) (kind : Kind) (input : ℕ) : Type 0 where
    number : ℕ
    joint : Joint
    link : slice_get joints number ≡ Some joint
    taker : joint.taker ≡ place
    taken_at : joint.input ≡ input
    fault : PlanFault
    cause : IsCause kind joint (format_into joints flows place input) (format_into joints flows place 0) fault

  input_or : (place : ℕ) (kind : Kind) (input : ℕ) → InputFits joints flows place kind input ⊎ IsUnfitLink place kind input
  input_or place kind input =
      let format = format_into joints flows place input in
      let first = format_into joints flows place 0 in
      elim (all_or_first (λ (joint : Joint). joint.taker ≡ place → joint.input ≡ input → Fits kind joint format first)
      (λ (joint : Joint). (joint.taker ≡ place) × (joint.input ≡ input) × (fault : PlanFault) × IsCause kind joint format first fault)
      (λ joint. elim (nat_or joint.taker place) [
        | inr other ↦ inl (λ at at_input. absurd (other at))
        | inl at ↦ elim (nat_or joint.input input) [
          | inr other ↦ inl (λ at at_input. absurd (other at_input))
          | inl at_input ↦ elim (fits_or_cause kind joint format first) [
            | inl fits ↦ inl (λ _ _. fits)
            | inr (fault, cause) ↦ inr (at, at_input, fault, cause)
          ]
        ]
      ])
      joints) [
        | inl all ↦ inl (λ k joint there. all k joint there)
        | inr F ↦ (let (at, at_input, fault, cause) = F.is in inr (record { number = F.place; joint = F.item; link = F.there; taker = at; taken_at = at_input; fault = fault; cause = cause }))
      ]

  -- the first input of a component that isn't fed right
  record IsUnfitPart (place : ℕ) : Type 0 where
    part : PartLine
    there : slice_get parts place ≡ Some part
    input : ℕ
    its_input : input < inputs_of (kind_of part.form)
    unfit : IsUnfitLink place (kind_of part.form) input
    first : (other : ℕ) → other < input → InputFits joints flows place (kind_of part.form) other

  abbrev PlaceFits : ℕ → Type 0
  PlaceFits place = (part : PartLine) → slice_get parts place ≡ Some part → ComponentFits joints flows place part

  part_or : (place : ℕ) (found : Option PartLine) → slice_get parts place ≡ found → PlaceFits place ⊎ IsUnfitPart place
  part_or place None e = inl (λ part there. (let z : ◌≡◌ {A = Option PartLine} None (Some part) = sym e ∙ there in absurd cc))
  part_or place (Some part) e =
      let kind = kind_of part.form in
      elim (below_or_first (InputFits joints flows place kind) (IsUnfitLink place kind) (input_or place kind) (inputs_of kind)) [
        | inl all ↦ inl (λ other there. subst (ComponentFits joints flows place) (Some_same part other (sym e ∙ there)) (λ input low. all input low))
        | inr (input, low, unfit, first) ↦ inr (record { part = part; there = e; input = input; its_input = low; unfit = unfit; first = first })
      ]

  all_or_misfit : (order : List ℕ) → AllFit parts joints flows order ⊎ ((fault : PlanFault) × IsMisfit parts joints order flows fault)
  all_or_misfit order =
      elim (all_or_first PlaceFits IsUnfitPart (λ place. part_or place (slice_get parts place) refl) order) [
        | inl all ↦ inl (λ k place part turn there. all k place turn part there)
        | inr F ↦
            let U = F.is in
            let L = U.unfit in
            inr (
              L.fault,
              record {
                turn = F.place;
                place = F.item;
                its_turn = F.there;
                part = U.part;
                there = U.there;
                input = U.input;
                its_input = U.its_input;
                number = L.number;
                joint = L.joint;
                link = L.link;
                taker = L.taker;
                taken_at = L.taken_at;
                cause = L.cause;
                before = λ k place part turn there. F.before k place turn part there;
                first = U.first;
              },
            )
      ]

pub fit_or_fault : (plan : PlanValue) → IsFit plan ⊎ ((fault : PlanFault) × IsFitFault plan fault)
fit_or_fault plan = all_or_misfit plan.parts plan.joints plan.flows plan.order
