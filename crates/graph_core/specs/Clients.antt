-- Which component has which client object, as a graph changes.
use Rattle.std.specs.Prelude.{◌≡◌, true, false, Option, Some, None, IsSome, IsSomeAnd, MatchOption}
use Rattle.omx_types.specs.declared.handle.Handle.{Handle}
use Rattle.omx_types.specs.declared.command.Completion.{Completion}
use Rattle.omx_types.specs.declared.command.Completion.TheVariants as completions
use Rattle.il_machine.specs.declared.answer.Progress.{Progress}
use Rattle.il_machine.specs.World.{World, same_handle}
use Rattle.il_machine.specs.Look.{Look}
use Rattle.il_machine.specs.Answers.{component_named}
use Rattle.il_machine.specs.Components.{progress_of}
use Rattle.note_queues.specs.declared.taken.Took.{Took}
use Rattle.note_queues.specs.declared.taken.Took.TheVariants as tooks
use Rattle.graph_core.specs.Entries.{Entries, client_named, client_of}

-- each component is there as before, with its client object in or out as before
abbrev pub KeepsAllClients : {C : Type 0} → Entries C → Entries C → Type 0
KeepsAllClients old new = (k : Handle) → client_named k new ≡ client_named k old

-- the same of each component but that of the handle
abbrev pub KeepsClients : {C : Type 0} → Handle → Entries C → Entries C → Type 0
KeepsClients h old new = (k : Handle) → same_handle k h ≡ false → client_named k new ≡ client_named k old

-- With a note the component's client object goes out. Without one it stays in, and where it was out, it stays out.
abbrev pub TakesClient : {C : Type 0} → Handle → Entries C → Took C → Entries C → Type 0
TakesClient h old (tooks.Call call) new = (client_of h old ≡ Some call.client) × (client_named h new ≡ Some None)
TakesClient h old tooks.None new = IsSome (client_of h old) × (client_named h new ≡ client_named h old)
TakesClient h old tooks.Busy new = (client_named h old ≡ Some None) × (client_named h new ≡ Some None)

-- the client object of the component is out
abbrev pub IsOut : Handle → Look → Type 0
IsOut h l = IsSomeAnd (component_named h l.components) (λ c. c.client_out ≡ true)

-- the progress is that of all events that were given for the component
abbrev pub WasTold : Handle → Progress → World → Type 0
WasTold h told w = MatchOption (component_named h w.components) ⊥ (λ c. told ≡ progress_of c w)

-- each client object that is in has the progress of all events that were given for its component
abbrev pub AreTold : {C : Type 0} → (C → Progress) → Entries C → World → Type 0
AreTold {C} progress g w = (h : Handle) (client : C) → client_of h g ≡ Some client → WasTold h (progress client) w

-- What a progress says of ports is the completion of a disable or an enable, as it is of each that events come to.
abbrev pub IsPortDone : Option Completion → Type 0
IsPortDone None = Unit {0}
IsPortDone (Some (completions.Disable port)) = Unit {0}
IsPortDone (Some (completions.Enable port)) = Unit {0}
IsPortDone (Some (completions.State state)) = ⊥
IsPortDone (Some (completions.Flush port)) = ⊥
IsPortDone (Some (completions.Mark port)) = ⊥
