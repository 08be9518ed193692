-- Two requests that are outstanding together, at a moment and from an act on; and what a call adds to a list of calls.
use Rattle.std.proofs.Common.{◌≡◌, ℕ, zero, suc, ◌-◌, List, [], ◌∷◌, ◌++◌, refl, sym, ap, ◌∙◌, append_assoc, arith}
use Rattle.std.specs.Prelude.{◌==◌, ◌||◌, Bool, Option, Some, None, Result}
use Rattle.std.specs.List.{All}
use Rattle.std.proofs.lemmas.List.{append-nil}
use Rattle.std.proofs.lemmas.List.Elements.{All-append, All-cons, All-nil, filter-append}
use Rattle.clock_core.specs.Calls.{GoesOn, IsByMedia, IsFulfilledFirstFromAct, IsLawful, and_then, moments_along, moments_of, moments_of_call, moments_of_calls, moments_passing, moments_unless, notes_along, notes_of_calls, reached, state_after_calls}
use Rattle.clock_core.specs.Clock.{State, after_call, answer_of_call, before_last_notes, fulfilled, next_moment, notes_now, notes_of, notes_of_call, opening, pace_of, refusal_of, state_after}
use Rattle.clock_core.specs.Running.{notes_in}
use Rattle.clock_core.specs.declared.act.ClockAct.{ClockAct}
use Rattle.clock_core.specs.declared.act.ClockRefusal.{ClockRefusal}
use Rattle.clock_core.specs.declared.act.Fulfilled.{Fulfilled}
use Rattle.clock_core.specs.declared.act.Request.{Request}
use Rattle.clock_core.specs.declared.act.TimedAct.{TimedAct}
use Rattle.clock_core.proofs.CallLaws.{IsTidy, along-moments, along-noted, both-leave, due_notes, fulfilled-first, fulfilled-once, has-no_notes, notes_from, notes_from-two, now-left, now-noted, reached-lesser, tidy-acted, tidy-call, tidy-calls, tidy-filter}
use Rattle.clock_core.proofs.CallTexts.{notes_in-answer}
use Rattle.clock_core.proofs.Picking.{either-both, noted, with_ids}

-- ---- at a moment

pub by-media : (moment : State) → IsTidy moment.requests → IsByMedia moment
by-media moment tidy one two first second less = (
  reached-lesser (pace_of moment.motion moment.scale) moment.wall one.media two.media (omega (arith, less)),
  now-noted (λ (x : ℕ). (x == one.id) || (x == two.id)) moment
      ∙ (ap (due_notes moment) (either-both one two moment.requests tidy.distinct tidy.ordered first second less)
      ∙ (sym (append-nil (due_notes moment (one ∷ two ∷ [])))
      ∙ notes_from-two one two (moment ∷ []) (omega (arith, less)))),
)

pub passing-by_media : (n : ℕ) (state : State) → IsTidy state.requests → All IsByMedia (moments_passing n state)
passing-by_media zero state tidy = All-nil IsByMedia
passing-by_media (suc n) state tidy =
    All-cons IsByMedia (next_moment state) (moments_passing n (fulfilled (next_moment state))) (by-media (next_moment state) tidy)
    (passing-by_media n (fulfilled (next_moment state)) (tidy-filter _ state.requests tidy))

pub call-by_media : (state : State) (wall : ℕ) (act : ClockAct) (refusal : Option ClockRefusal) → refusal_of state wall act ≡ refusal → IsTidy state.requests →
    All IsByMedia (moments_unless refusal (moments_of state wall act))
call-by_media state wall act None is tidy =
    All-append IsByMedia (moments_passing (wall - state.wall) state) (before_last_notes state wall act ∷ [])
    (passing-by_media (wall - state.wall) state tidy)
    (All-cons IsByMedia (before_last_notes state wall act) [] (by-media (before_last_notes state wall act) (tidy-acted state wall act is tidy)) (All-nil IsByMedia))
call-by_media state wall act (Some refusal) is tidy = All-nil IsByMedia

pub calls-by_media : (calls : List TimedAct) (state : State) → IsTidy state.requests → All IsByMedia (moments_of_calls state calls)
calls-by_media [] state tidy = All-nil IsByMedia
calls-by_media (call ∷ calls) state tidy =
    All-append IsByMedia (moments_of_call state call.wall call.act) (moments_of_calls (after_call state call.wall call.act) calls)
    (call-by_media state call.wall call.act (refusal_of state call.wall call.act) refl tidy)
    (calls-by_media calls (after_call state call.wall call.act) (tidy-call state call.wall call.act (refusal_of state call.wall call.act) refl tidy))

opening-tidy : IsTidy opening.requests
opening-tidy = record { ordered = tt; distinct = tt }

pub along-by_media : (calls : List TimedAct) (more : ℕ) → All IsByMedia (moments_along opening calls more)
along-by_media calls more =
    All-append IsByMedia (moments_of_calls opening calls) (moments_passing more (state_after_calls opening calls))
    (calls-by_media calls opening opening-tidy) (passing-by_media more (state_after_calls opening calls) (tidy-calls calls opening opening-tidy))

-- ---- from an act on

pub fulfilled-first_from_act : (before : List TimedAct) (wall : ℕ) (act : ClockAct) (one two : Request) → IsFulfilledFirstFromAct (reached before) wall act one two
fulfilled-first_from_act before wall act one two accepted first second less calls more others_one others_two =
    filter-append (λ (note : Fulfilled). p note.id) (notes_now acted) (notes_along after calls more)
    ∙ (ap (λ (notes : List Fulfilled). notes ++ noted p (notes_along after calls more)) (now-noted p acted)
    ∙ (ap (λ (notes : List Fulfilled). due_notes acted (with_ids p acted.requests) ++ notes)
    (along-noted p calls more after (both-leave one.id two.id calls after others_one others_two) ∙ ap (notes_from (moments_along after calls more)) (now-left p acted))
    ∙ (ap (notes_from (acted ∷ moments_along after calls more)) (either-both one two acted.requests tidy.distinct tidy.ordered first second less)
    ∙ notes_from-two one two (acted ∷ moments_along after calls more) (omega (arith, less)))))
  where
    p : ℕ → Bool
    p = λ (x : ℕ). (x == one.id) || (x == two.id)

    acted : State
    acted = before_last_notes (reached before) wall act

    after : State
    after = state_after (reached before) wall act

    tidy : IsTidy acted.requests
    tidy = tidy-acted (reached before) wall act accepted (tidy-calls before opening opening-tidy)

pub is-lawful : (calls : List TimedAct) → IsLawful calls
is-lawful calls = record {
  moments = λ more. along-moments calls more opening;
  by_media = along-by_media calls;
  once = fulfilled-once (reached calls);
  unasked = has-no_notes (reached calls);
  lesser_first = fulfilled-first calls;
  lesser_first_from_act = fulfilled-first_from_act calls;
}

-- ---- what a call adds

pub state_after-push : (calls : List TimedAct) (call : TimedAct) (state : State) →
    state_after_calls state (calls ++ call ∷ []) ≡ after_call (state_after_calls state calls) call.wall call.act
state_after-push [] call state = refl
state_after-push (first ∷ calls) call state = state_after-push calls call (after_call state first.wall first.act)

pub notes-push : (calls : List TimedAct) (call : TimedAct) (state : State) →
    notes_of_calls state (calls ++ call ∷ []) ≡ notes_of_calls state calls ++ notes_of_call (state_after_calls state calls) call.wall call.act
notes-push [] call state = append-nil (notes_of_call state call.wall call.act)
notes-push (first ∷ calls) call state =
    ap (λ (notes : List Fulfilled). notes_of_call state first.wall first.act ++ notes) (notes-push calls call (after_call state first.wall first.act))
    ∙ sym (append_assoc (notes_of_call state first.wall first.act) (notes_of_calls (after_call state first.wall first.act) calls)
    (notes_of_call (state_after_calls (after_call state first.wall first.act) calls) call.wall call.act))

pub goes-on : (before : List TimedAct) (wall : ℕ) (act : ClockAct) (old new : State) (answer : Result ℕ ClockRefusal) (out rest : List Fulfilled) →
    answer ≡ answer_of_call old wall act → new ≡ after_call old wall act → out ≡ notes_of_call old wall act ++ rest → old ≡ reached before →
    GoesOn before wall act new (notes_in answer out)
goes-on before wall act old new answer out rest answered changed written is = record {
  state = changed ∙ (ap (λ (s : State). after_call s wall act) is ∙ sym (state_after-push before call opening));
  told =
      notes-push before call opening
      ∙ ap (λ (notes : List Fulfilled). notes_of_calls opening before ++ notes) (sym (noted_in ∙ ap (λ (s : State). notes_of_call s wall act) is));
  lawful = is-lawful (and_then before wall act);
}
  where
    call : TimedAct
    call = record { wall = wall; act = act }

    noted_in : notes_in answer out ≡ notes_of_call old wall act
    noted_in =
        ap (λ (notes : List Fulfilled). notes_in answer notes) written
        ∙ (ap (λ (given : Result ℕ ClockRefusal). notes_in given (notes_of_call old wall act ++ rest)) answered
        ∙ notes_in-answer (refusal_of old wall act) (notes_of old wall act) rest)
