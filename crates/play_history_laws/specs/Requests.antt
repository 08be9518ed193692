-- What a client asks for among the steps of a play, by its acts alone: what nobody need ask for may be refused, or find nothing to do. The
-- requests are a front of the list of all that is asked, each asking in time.
use Rattle.std.specs.Prelude.{◌≡◌, ℕ, ◌+◌, ◌≤◌, Bool, true, false, List, [], ◌∷◌, ◌++◌, filter, flat_map, length, slice_get, take, Some}
use Rattle.omx_types.specs.declared.handle.Handle.{Handle}
use Rattle.il_machine.specs.Acts.{Act, Reply}
use Rattle.il_machine.specs.Acts as acts
use Rattle.play_model.specs.Numbers.{to_loaded}
use Rattle.play_build_laws.specs.Assembly.{Assembly}
use Rattle.play_forms.specs.Plans.{PlanValue}
use Rattle.play_plan_laws.specs.Assemblies.{PlayFiles}
use Rattle.play_result_laws.specs.Asked.{AreLateLinks, Asking, HasCause, IsDone, acts_of, askings, tuned}
use Rattle.play_history_laws.specs.Order.{Cursor}

-- all acts but those of components and deliveries, and a look at what a component has told
abbrev pub is_request_act : Act → Bool
is_request_act (acts.RunCommand handle) = false
is_request_act (acts.Claim handle) = false
is_request_act (acts.Finish done) = false
is_request_act (acts.Supply handle port) = false
is_request_act (acts.Release handle port) = false
is_request_act (acts.HandOver handle port) = false
is_request_act (acts.HandBack handle port) = false
is_request_act (acts.TakeNote handle) = false
is_request_act (acts.EndNote handle progress) = false
is_request_act (acts.Progress handle) = false
is_request_act _ = true

abbrev pub is_request : Act × Reply → Bool
is_request step = is_request_act step.0

abbrev pub requests : List (Act × Reply) → List (Act × Reply)
requests steps = filter is_request steps

-- Of the askings, one after the other: each begins where the one before it is done and it has its cause.
abbrev pub AreInTime : Assembly → List Handle → List Asking → List (Act × Reply) → Type 0
AreInTime s handles list steps = (number : ℕ) (one next : Asking) (before after : List (Act × Reply)) (step : Act × Reply)
    → slice_get list number ≡ Some one → slice_get list (number + 1) ≡ Some next
    → steps ≡ before ++ step ∷ after → is_request step ≡ true → requests before ≡ flat_map (acts_of s handles) (take (number + 1) list)
    → IsDone s one before × HasCause s next before

-- All that is asked was requested but what is left, in order and in time; the late sources' links are changed in this order.
pub record AreRequested (s : Assembly) (handles : List Handle) (links : List ℕ) (left steps : List (Act × Reply)) : Type 0 where
  pub late : AreLateLinks s links
  pub made : requests steps ++ left ≡ flat_map (acts_of s handles) (askings links)
  pub timely : AreInTime s handles (askings links) steps

-- So much was asked by the cursor of a history: the late sources' links are changed in some order, and nothing is left where the last
-- StateSet was sent to all.
pub record IsOrdered (plan : PlanValue) (files : PlayFiles) (handles : List Handle) (steps : List (Act × Reply)) (cursor : Cursor) : Type 0 where
  pub links : List ℕ
  pub left : List (Act × Reply)
  pub are : AreRequested (tuned plan files) handles links left steps
  pub whole : cursor.phase ≡ to_loaded → length plan.parts ≤ cursor.sent → left ≡ []
