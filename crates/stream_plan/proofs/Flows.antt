-- What a link gives, step by step over the links.
use Rattle.std.proofs.Common.{◌≡◌, ℕ, zero, suc, ◌+◌, ◌<◌, ◌==◌, ◌&&◌, true, false, cond, List, [], ◌∷◌, ◌++◌, length, take, drop, get_or, add-one, Option, Some, refl, sym, ◌∙◌, ap, arith}
use Rattle.std.specs.Prelude.{slice_get}
use Rattle.std.proofs.lemmas.Bool.{eqb-true, eq-eqb}
use Rattle.std.proofs.Math.ListN.{set}
use Rattle.omx_types.specs.declared.kind.Kind.{Kind}
use Rattle.omx_types.specs.declared.kind.Kind.TheVariants.{Source, Decoder, Alaw, Mulaw, Gain, Mixer, Splitter, Sink, Late}
use Rattle.part_forms.specs.Kinds.{inputs_of, is_source}
use Rattle.wav_form.specs.declared.heads.WavHead.{WavHead}
use Rattle.play_forms.specs.declared.flow.Flow.{Flow}
use Rattle.play_forms.specs.declared.joint.Joint.{Joint}
use Rattle.play_forms.specs.Flows.{flow_by, flow_of_head, given_format, most_frames}
use Rattle.play_forms.specs.Settling.{into, with_given}
use Rattle.play_forms.proofs.Places.{and_both, either}
use Rattle.stream_plan.proofs.Lists.{there_at}

pub flow_of_source : (kind : Kind) (head : Option WavHead) (incoming : ℕ → Flow) → is_source kind ≡ true → flow_by kind head incoming ≡ flow_of_head head
flow_of_source Source head incoming e = refl
flow_of_source Late head incoming e = refl
flow_of_source Decoder head incoming e = absurd cc
flow_of_source Alaw head incoming e = absurd cc
flow_of_source Mulaw head incoming e = absurd cc
flow_of_source Gain head incoming e = absurd cc
flow_of_source (Mixer n) head incoming e = absurd cc
flow_of_source (Splitter n) head incoming e = absurd cc
flow_of_source Sink head incoming e = absurd cc

pub flow_of_other : (kind : Kind) (head : Option WavHead) (incoming : ℕ → Flow) → is_source kind ≡ false
    → flow_by kind head incoming ≡ record { format = given_format kind (incoming 0).format; frames = most_frames (inputs_of kind) incoming }
flow_of_other Source head incoming e = absurd cc
flow_of_other Late head incoming e = absurd cc
flow_of_other Decoder head incoming e = refl
flow_of_other Alaw head incoming e = refl
flow_of_other Mulaw head incoming e = refl
flow_of_other Gain head incoming e = refl
flow_of_other (Mixer n) head incoming e = refl
flow_of_other (Splitter n) head incoming e = refl
flow_of_other Sink head incoming e = refl

-- the link at a number, and those behind it
pub into_at : {A : Type 0} (none : A) (joints : List Joint) (values : List A) (k place input : ℕ) (joint : Joint) (value : A)
    → slice_get joints k ≡ Some joint → slice_get values k ≡ Some value
    → into none (drop k joints) (drop k values) place input
    ≡ cond (joint.taker == place && joint.input == input) value (into none (drop (suc k) joints) (drop (suc k) values) place input)
into_at none [] values k place input joint value e f = absurd cc
into_at none (other ∷ joints) [] k place input joint value e f = absurd cc
into_at none (other ∷ joints) (old ∷ values) zero place input joint value e f =
    let j : other ≡ joint = cc in let v : old ≡ value = cc in rw (j, v) refl
into_at none (other ∷ joints) (old ∷ values) (suc k) place input joint value e f = into_at none joints values k place input joint value e f

misses : (joint : Joint) (place input : ℕ) → (joint.taker ≡ place → joint.input ≡ input → ⊥) → (joint.taker == place && joint.input == input) ≡ false
misses joint place input apart =
    either (joint.taker == place && joint.input == input)
    (λ hit. let h = and_both (joint.taker == place) (joint.input == input) hit in absurd (apart (eqb-true joint.taker place h.0) (eqb-true joint.input input h.1)))
    (λ f. f)

-- a link that doesn't lead there is passed over
pub into_past : {A : Type 0} (none : A) (joints : List Joint) (values : List A) (k place input : ℕ) (d : Joint) (dv : A) → k < length joints → length values ≡ length joints
    → ((get_or joints k d).taker ≡ place → (get_or joints k d).input ≡ input → ⊥)
    → into none (drop (k + 1) joints) (drop (k + 1) values) place input ≡ into none (drop k joints) (drop k values) place input
into_past none joints values k place input d dv inside many apart =
    let joint = get_or joints k d in
    let value = get_or values k dv in
    let at = into_at none joints values k place input joint value (there_at joints k d inside) (there_at values k dv (omega arith)) in
    let m = misses joint place input apart in
    rw add-one (sym (at ∙ ap (λ b. cond b value (into none (drop (suc k) joints) (drop (suc k) values) place input)) m))

give_hit : {A : Type 0} (given : ℕ → A) (joints : List Joint) (values : List A) (k place : ℕ) (joint : Joint) → slice_get joints k ≡ Some joint → k < length values
    → (joint.giver == place) ≡ true
    → take (suc k) (set values k (given joint.output)) ++ with_given given (drop (suc k) joints) (drop (suc k) (set values k (given joint.output))) place
    ≡ take k values ++ with_given given (drop k joints) (drop k values) place
give_hit given [] values k place joint e inside hit = absurd cc
give_hit given (other ∷ joints) [] k place joint e inside hit = absurd (omega arith)
give_hit given (other ∷ joints) (value ∷ values) zero place joint e inside hit =
    let j : other ≡ joint = cc in rw (j, hit) refl
give_hit given (other ∷ joints) (value ∷ values) (suc k) place joint e inside hit =
    ap (λ rest. value ∷ rest) (give_hit given joints values k place joint e (omega arith) hit)

give_miss : {A : Type 0} (given : ℕ → A) (joints : List Joint) (values : List A) (k place : ℕ) (joint : Joint) → slice_get joints k ≡ Some joint → k < length values
    → (joint.giver == place) ≡ false
    → take (suc k) values ++ with_given given (drop (suc k) joints) (drop (suc k) values) place ≡ take k values ++ with_given given (drop k joints) (drop k values) place
give_miss given [] values k place joint e inside miss = absurd cc
give_miss given (other ∷ joints) [] k place joint e inside miss = absurd (omega arith)
give_miss given (other ∷ joints) (value ∷ values) zero place joint e inside miss =
    let j : other ≡ joint = cc in rw (j, miss) refl
give_miss given (other ∷ joints) (value ∷ values) (suc k) place joint e inside miss =
    ap (λ rest. value ∷ rest) (give_miss given joints values k place joint e (omega arith) miss)

pub give_here : {A : Type 0} (given : ℕ → A) (joints : List Joint) (values : List A) (k place : ℕ) (d : Joint) → k < length joints → length values ≡ length joints
    → (get_or joints k d).giver ≡ place
    → take (k + 1) (set values k (given (get_or joints k d).output)) ++ with_given given (drop (k + 1) joints) (drop (k + 1) (set values k (given (get_or joints k d).output))) place
    ≡ take k values ++ with_given given (drop k joints) (drop k values) place
give_here given joints values k place d inside many hit =
    rw add-one (give_hit given joints values k place (get_or joints k d) (there_at joints k d inside) (omega arith) (eq-eqb (get_or joints k d).giver place hit))

pub give_past : {A : Type 0} (given : ℕ → A) (joints : List Joint) (values : List A) (k place : ℕ) (d : Joint) → k < length joints → length values ≡ length joints
    → ((get_or joints k d).giver ≡ place → ⊥)
    → take (k + 1) values ++ with_given given (drop (k + 1) joints) (drop (k + 1) values) place ≡ take k values ++ with_given given (drop k joints) (drop k values) place
give_past given joints values k place d inside many apart =
    let miss : ((get_or joints k d).giver == place) ≡ false =
    either ((get_or joints k d).giver == place) (λ hit. absurd (apart (eqb-true (get_or joints k d).giver place hit))) (λ f. f) in
    rw add-one (give_miss given joints values k place (get_or joints k d) (there_at joints k d inside) (omega arith) miss)
