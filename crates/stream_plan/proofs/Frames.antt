-- The frames of one component more, and what comes of one component's turn.
use Rattle.std.proofs.Common.{◌≡◌, ℕ, suc, ◌+◌, ◌<◌, ◌==◌, List, ◌∷◌, length, drop, get_or, add-one, Some, sym, ◌∙◌, ap, subst, arith}
use Rattle.std.specs.Prelude.{slice_get}
use Rattle.std.proofs.Math.ListN.{set}
use Rattle.std.proofs.lemmas.Bool.{eqb-true, eq-eqb}
use Rattle.std.proofs.lemmas.List.{length-set}
use Rattle.std.proofs.Math.Seq.{drop-cons}
use Rattle.script_lang.specs.declared.play_line.PartLine.{PartLine}
use Rattle.wav_form.specs.declared.heads.WavHead.{WavHead}
use Rattle.play_forms.specs.declared.flow.Flow.{Flow}
use Rattle.play_forms.specs.declared.joint.Joint.{Joint}
use Rattle.play_forms.specs.Flows.{AreFrames, flow_at, flow_rule, no_flow}
use Rattle.play_forms.specs.Settling.{given_along, into, with_given}
use Rattle.play_forms.proofs.Places.{both, either}
use Rattle.std.proofs.lemmas.Option.{slice_get_within}
use Rattle.stream_plan.proofs.Lists.{set_at, set_other}

-- the frames of so many components
pub record AreSoFar (parts : List PartLine) (joints : List Joint) (heads : List WavHead) (flows : List Flow) (n : ℕ) (frames : List ℕ) : Type 0 where
  pub many : length frames ≡ length parts
  pub each : (k : ℕ) (part : PartLine) → k < n → slice_get parts k ≡ Some part → slice_get frames k ≡ Some (flow_at parts heads (Some part) k (into no_flow joints flows k)).frames

pub frames_more : (parts : List PartLine) (joints : List Joint) (heads : List WavHead) (flows : List Flow) (n : ℕ) (frames : List ℕ) (flow : Flow)
    → AreSoFar parts joints heads flows n frames → n < length parts → flow ≡ flow_at parts heads (slice_get parts n) n (into no_flow joints flows n)
    → AreSoFar parts joints heads flows (n + 1) (set frames n flow.frames)
frames_more parts joints heads flows n frames flow before inside is =
    record {
      many = length-set frames n flow.frames ∙ before.many;
      each = λ k part below e. either (k == n)
          (λ same.
          let at : k ≡ n = eqb-true k n same in
          let e' : slice_get parts n ≡ Some part = subst (λ i. slice_get parts i ≡ Some part) at e in
          let many = before.many in
          let here : slice_get (set frames n flow.frames) n ≡ Some (flow_at parts heads (Some part) n (into no_flow joints flows n)).frames =
          set_at frames n flow.frames (omega arith) ∙ ap (λ (f : Flow). Some f.frames) is
          ∙ ap (λ p. Some (flow_at parts heads p n (into no_flow joints flows n)).frames) e' in
          subst (λ i. slice_get (set frames n flow.frames) i ≡ Some (flow_at parts heads (Some part) i (into no_flow joints flows i)).frames) (sym at) here)
          (λ apart.
          let ne : k ≡ n → ⊥ = λ at. both (k == n) (eq-eqb k n at) apart in
          set_other frames n k flow.frames ne ∙ before.each k part (omega arith) e);
    }

pub frames_all : (parts : List PartLine) (joints : List Joint) (heads : List WavHead) (flows : List Flow) (n : ℕ) (frames : List ℕ)
    → AreSoFar parts joints heads flows n frames → n ≡ length parts → AreFrames parts joints heads flows frames
frames_all parts joints heads flows n frames all end =
    record { many = all.many; each = λ place part e. let inside = slice_get_within parts place part e in all.each place part (omega arith) e }

-- after the turn of one component the rest is given along
pub turn_given : (parts : List PartLine) (joints : List Joint) (heads : List WavHead) (order : List ℕ) (k : ℕ) (flows after whole : List Flow) → k < length order
    → after ≡ with_given (flow_rule parts heads (get_or order k 0) (into no_flow joints flows (get_or order k 0))) joints flows (get_or order k 0)
    → given_along (flow_rule parts heads) no_flow joints (drop k order) flows ≡ whole
    → given_along (flow_rule parts heads) no_flow joints (drop (k + 1) order) after ≡ whole
turn_given parts joints heads order k flows after whole inside is before =
    let cons : drop k order ≡ get_or order k 0 ∷ drop (suc k) order = drop-cons order k 0 inside in
    rw add-one (ap (given_along (flow_rule parts heads) no_flow joints (drop (suc k) order)) is
    ∙ sym (ap (λ places. given_along (flow_rule parts heads) no_flow joints places flows) cons) ∙ before)
