-- The text of a call, by its answer.
use Rattle.std.proofs.Common.{◌≡◌, List, [], ◌++◌, ℕ, refl, ap, ◌∙◌}
use Rattle.std.specs.Prelude.{Option, Some, None, Result}
use Rattle.std.proofs.Math.Seq.{take-append_seam}
use Rattle.clock_core.specs.Clock.{State, answer_of_call, answer_unless, notes_of, notes_of_call, notes_unless, refusal_of}
use Rattle.clock_core.specs.Printed.{call_text, due_lines, line_text, refusal_in}
use Rattle.clock_core.specs.Running.{notes_in}
use Rattle.clock_core.specs.declared.act.ClockRefusal.{ClockRefusal}
use Rattle.clock_core.specs.declared.act.Fulfilled.{Fulfilled}
use Rattle.clock_core.specs.declared.act.TimedAct.{TimedAct}

pub refusal_in-answer : (refusal : Option ClockRefusal) (notes : List Fulfilled) → refusal_in (answer_unless refusal notes) ≡ refusal
refusal_in-answer None notes = refl
refusal_in-answer (Some refusal) notes = refl

pub notes_in-answer : (refusal : Option ClockRefusal) (notes rest : List Fulfilled) → notes_in (answer_unless refusal notes) (notes_unless refusal notes ++ rest) ≡ notes_unless refusal notes
notes_in-answer None notes rest = take-append_seam notes rest
notes_in-answer (Some refusal) notes rest = refl

-- the line with the answer, and then the notes
pub call_text-is : (number : ℕ) (state : State) (words : List (List ℕ)) (call : TimedAct) (answer : Result ℕ ClockRefusal) (out rest noted : List Fulfilled) (empty line whole : List ℕ) →
    answer ≡ answer_of_call state call.wall call.act → out ≡ notes_of_call state call.wall call.act ++ rest → empty ≡ [] → line ≡ empty ++ line_text number words (refusal_in answer) →
    noted ≡ notes_in answer out → whole ≡ line ++ due_lines noted → whole ≡ call_text number state words call
call_text-is number state words call answer out rest noted empty line whole answered written none lined noting all =
    all ∙ (ap (λ (front : List ℕ). front ++ due_lines noted) first ∙ ap (λ (notes : List Fulfilled). line_text number words (refusal_of state call.wall call.act) ++ due_lines notes) second)
  where
    first : line ≡ line_text number words (refusal_of state call.wall call.act)
    first =
        lined ∙ (ap (λ (front : List ℕ). front ++ line_text number words (refusal_in answer)) none
        ∙ ap (line_text number words) (ap refusal_in answered ∙ refusal_in-answer (refusal_of state call.wall call.act) (notes_of state call.wall call.act)))

    second : noted ≡ notes_of_call state call.wall call.act
    second =
        noting ∙ (ap (λ (notes : List Fulfilled). notes_in answer notes) written
        ∙ (ap (λ (given : Result ℕ ClockRefusal). notes_in given (notes_of_call state call.wall call.act ++ rest)) answered
        ∙ notes_in-answer (refusal_of state call.wall call.act) (notes_of state call.wall call.act) rest))
