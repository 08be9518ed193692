-- Components are made, freed and looked at.
use Rattle.std.specs.Prelude.{◌≡◌, ℕ, ◌+◌, ◌%◌, Bool, true, false, not, ◌||◌, nat_eq, nat_lt, nat_le, List, [], ◌∷◌, ◌++◌, length, filter, remove, slice_get, Option, Some, None, is_some, is_none, option_map, Result, Ok, Err, MatchOption, if◌then◌else◌}
use Rattle.std.specs.List.{list_any}
use Rattle.omx_types.specs.declared.state.State.{State}
use Rattle.omx_types.specs.declared.handle.Handle.{Handle}
use Rattle.omx_types.specs.declared.kind.Kind.{Kind}
use Rattle.omx_types.specs.declared.error.OmxError.{OmxError}
use Rattle.omx_types.specs.declared.error.OmxError.TheVariants as errors
use Rattle.omx_types.specs.declared.error.CallError.{CallError}
use Rattle.omx_types.specs.declared.command.Event.{Event}
use Rattle.omx_types.specs.declared.command.Event.TheVariants as events
use Rattle.omx_types.specs.declared.command.Completion.{Completion}
use Rattle.omx_types.specs.declared.command.Completion.TheVariants as completions
use Rattle.omx_types.specs.declared.command.Note.{Note}
use Rattle.omx_types.specs.declared.command.Note.TheVariants.{Told, EmptyDone, FillDone}
use Rattle.part_api.specs.declared.attached.Attached.{Attached}
use Rattle.il_machine.specs.declared.answer.Progress.{Progress}
use Rattle.il_machine.specs.declared.port.PortView.{PortView}
use Rattle.il_machine.specs.declared.port.Port.{Port}
use Rattle.il_machine.specs.States.{is_invalid, is_loaded}
use Rattle.il_machine.specs.Lists.{any_of, first_of_these}
use Rattle.il_machine.specs.Kinds.{kind_of}
use Rattle.il_machine.specs.World.{Component, World, Given, number_of, fresh, fresh_stream, is_stream_of, ports_of, port_of}
use Rattle.il_machine.specs.Headers.{Seen, is_for}
use Rattle.il_machine.specs.Look.{Look, look}
use Rattle.il_machine.specs.Ports.{is_joined, has_no_header}
use Rattle.il_machine.specs.Due.{ClosesTo, each_port}
use Rattle.il_machine.specs.Answers.{plain, Resolving, Answers, AnswersOrMemory, component_named, looked}

-- ---- get_handle

abbrev pub is_bad_name : List ℕ → Bool
is_bad_name name = nat_eq (length name) 0 || nat_lt 127 (length name)

abbrev pub name_refusals : List ℕ → List (Bool × OmxError)
name_refusals name =
    (is_bad_name name, errors.InvalidComponentName)
    ∷ (is_none (kind_of name), errors.ComponentNotFound)
    ∷ []

-- 32 components live, or no number is left
abbrev pub is_full : Look → Bool
is_full l = nat_le 32 (length l.components) || nat_eq l.numbered 18446744073709551615

abbrev pub get_handle_refusal : Look → List ℕ → Option OmxError
get_handle_refusal l name = first_of_these (name_refusals name ++ (is_full l, errors.InsufficientResources) ∷ [])

-- no component has the slot
abbrev pub is_vacant : ℕ → List Component → Bool
is_vacant slot components = not (list_any (λ c. nat_eq c.handle.slot slot) components)

abbrev pub with_new_component : Handle → Kind → World → World
with_new_component h kind w = record w {
  components = w.components ++ fresh h kind ∷ [];
  streams = w.streams ++ fresh_stream w.numbered ∷ [];
  numbered = w.numbered + 1;
}

-- The handle has the next number and any vacant slot.
abbrev pub GetHandle : World → List ℕ → Result Handle CallError → World → Type 0
GetHandle w name result v = AnswersOrMemory (get_handle_refusal (look w) name) result w v (λ h.
    (h.generation ≡ w.numbered) × (is_vacant h.slot w.components ≡ true)
    × MatchOption (kind_of name) ⊥ (λ kind. ClosesTo (with_new_component h kind w) v))

-- ---- free_handle

abbrev pub free_refusal : Seen → Component → Option OmxError
free_refusal headers c = first_of_these
    ((
      any_of
          (not (is_loaded c.state || is_invalid c.state)
          ∷ is_some c.pending
          ∷ not (each_port c (has_no_header headers))
          ∷ list_any is_joined (ports_of c)
          ∷ is_some c.work
          ∷ c.client_out
          ∷ []),
      errors.IncorrectStateOperation,
    )
    ∷ [])

abbrev pub is_given_to : ℕ → Given → Bool
is_given_to number g = nat_eq g.component number

-- the component's record leaves, with its commands, notes and file
abbrev pub without_component : ℕ → Component → World → World
without_component i c w = record w {
  components = remove w.components i;
  given = filter (λ g. not (is_given_to (number_of c) g)) w.given;
  streams = filter (λ s. not (is_stream_of (number_of c) s)) w.streams;
}

-- It answers for which frames the component's file came.
abbrev pub FreeHandle : World → Handle → Result (Option Attached) OmxError → World → Type 0
FreeHandle w h result v = Resolving plain w h result v (λ i c.
    Answers (free_refusal (look w).headers c) result w v (λ file. (file ≡ c.file) × ClosesTo (without_component i c w) v))

-- ---- looking

abbrev pub state_answer : Handle → Look → Result State OmxError
state_answer h l = looked (component_named h l.components) (λ c. Ok c.state)

abbrev pub view_of : Seen → Port → PortView
view_of headers p = record {
  input = p.setting.definition.input;
  enabled = p.state.enabled;
  mode = p.state.mode;
  flushing = p.state.flushing;
  made = headers.count (is_for p.key);
  count = p.setting.definition.count;
}

abbrev pub viewed : Seen → Option Port → Result PortView OmxError
viewed headers None = Err errors.BadPortIndex
viewed headers (Some p) = Ok (view_of headers p)

abbrev pub view_answer : Handle → ℕ → Look → Result PortView OmxError
view_answer h port l = looked (component_named h l.components) (λ c. viewed l.headers (port_of c port))

-- the handle of the component at the place, in the order of their numbers
abbrev pub handle_at : ℕ → Look → Option Handle
handle_at place l = option_map (λ c. c.handle) (slice_get l.components place)

-- ---- progress

abbrev pub no_progress : Progress
no_progress = record { state = None; eos = false; error = None; settings = None; port = None }

abbrev pub first_error : Option OmxError → OmxError → Option OmxError
first_error None error = Some error
first_error (Some earlier) error = Some earlier

-- the flag of a stream's end is the lowest bit
abbrev pub has_eos : ℕ → Bool
has_eos flags = nat_eq (flags % 2) 1

-- the disable or enable that was done last
abbrev pub port_done : Completion → Progress → Progress
port_done completion p = record p { port = Some completion }

-- the last state reached, whether a stream's end was told, the first error, the port whose settings changed last, and the last disable
-- or enable
abbrev pub moved_by : Event → Progress → Progress
moved_by (events.CmdComplete (completions.State s)) p = record p { state = Some s }
moved_by (events.CmdComplete (completions.Flush port)) p = p
moved_by (events.CmdComplete (completions.Disable port)) p = port_done (completions.Disable port) p
moved_by (events.CmdComplete (completions.Enable port)) p = port_done (completions.Enable port) p
moved_by (events.CmdComplete (completions.Mark port)) p = p
moved_by (events.Error error) p = record p { error = first_error p.error error }
moved_by (events.Mark value) p = p
moved_by (events.PortSettingsChanged port) p = record p { settings = Some port }
moved_by (events.BufferFlag port flags) p = record p { eos = p.eos || has_eos flags }
moved_by events.ResourcesAcquired p = p

abbrev pub noted_by : Note → Progress → Progress
noted_by (Told event) p = moved_by event p
noted_by (EmptyDone number) p = p
noted_by (FillDone number) p = p

abbrev pub progress_after : List Given → Progress → Progress
progress_after [] p = p
progress_after (g ∷ given) p = progress_after given (noted_by g.note p)

-- the progress of all events that were given to the component's client
abbrev pub progress_of : Component → World → Progress
progress_of c w = progress_after (filter (is_given_to (number_of c)) w.given) no_progress

-- nothing where the client object is out
abbrev pub progress_answer : Handle → World → Result (Option Progress) OmxError
progress_answer h w = looked (component_named h w.components) (λ c. Ok (if c.client_out then None else Some (progress_of c w)))
