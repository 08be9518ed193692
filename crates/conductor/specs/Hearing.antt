-- What a conductor knows: what each component has told, how far the links of the late sources have come, and how many states were sent.
use Rattle.std.specs.Prelude.{ℕ, Bool, false, ◌==◌, ◌||◌, List, [], ◌∷◌, map, slice_get, Option, Some, None}
use Rattle.il_machine.specs.declared.answer.Progress.{Progress}
use Rattle.omx_types.specs.declared.command.Completion.{Completion}
use Rattle.omx_types.specs.declared.command.Completion.TheVariants.{Disable, Enable}
use Rattle.conductor.specs.declared.phase.LateLink.{LateLink}

pub record ConductorValue : Type 0 where
  -- which components are sinks, and the progress that each has told, in script order
  pub sinks : List Bool
  pub told : List Progress
  -- the links of the late sources, in script order of these
  pub lates : List LateLink
  pub sends : ℕ

-- a view that is None tells nothing new
abbrev pub heard_view : Progress → Option Progress → Progress
heard_view old None = old
heard_view old (Some view) = view

abbrev pub heard_views : List Progress → List (Option Progress) → List Progress
heard_views (old ∷ olds) (view ∷ views) = heard_view old view ∷ heard_views olds views
heard_views _ _ = []

abbrev pub is_disable : ℕ → Option Completion → Bool
is_disable port (Some (Disable other)) = other == port
is_disable port other = false

abbrev pub is_enable : ℕ → Option Completion → Bool
is_enable port (Some (Enable other)) = other == port
is_enable port other = false

-- the component has told that its port was disabled, or enabled
abbrev pub tells_disable : ℕ → Option Progress → Bool
tells_disable port None = false
tells_disable port (Some progress) = is_disable port progress.port

abbrev pub tells_enable : ℕ → Option Progress → Bool
tells_enable port None = false
tells_enable port (Some progress) = is_enable port progress.port

-- a progress has the last completion alone, so what an end has told once is kept; a late source has one port, its output 0
abbrev pub heard_late : List Progress → LateLink → LateLink
heard_late told late = record {
  source = late.source;
  taker = late.taker;
  input = late.input;
  steps = late.steps;
  output_disabled = late.output_disabled || tells_disable 0 (slice_get told late.source);
  input_disabled = late.input_disabled || tells_disable late.input (slice_get told late.taker);
  output_enabled = late.output_enabled || tells_enable 0 (slice_get told late.source);
  input_enabled = late.input_enabled || tells_enable late.input (slice_get told late.taker);
}

abbrev pub heard_lates : List Progress → List LateLink → List LateLink
heard_lates told = map (heard_late told)

abbrev pub heard : ConductorValue → List (Option Progress) → ConductorValue
heard value views =
    let told = heard_views value.told views in
    record { sinks = value.sinks; told = told; lates = heard_lates told value.lates; sends = value.sends }
