-- What a progress says of ports is the completion of a disable or an enable.
use Rattle.std.proofs.Common.{◌≡◌, List, [], ◌∷◌, Option, Some, None, MatchOption, sym, subst}
use Rattle.std.specs.Prelude.{filter}
use Rattle.omx_types.specs.declared.handle.Handle.{Handle}
use Rattle.omx_types.specs.declared.command.Completion.TheVariants as completions
use Rattle.omx_types.specs.declared.command.Event.{Event}
use Rattle.omx_types.specs.declared.command.Event.TheVariants as events
use Rattle.omx_types.specs.declared.command.Note.{Note}
use Rattle.omx_types.specs.declared.command.Note.TheVariants.{Told, EmptyDone, FillDone}
use Rattle.il_machine.specs.declared.answer.Progress.{Progress}
use Rattle.il_machine.specs.World.{Component, Given, World, number_of}
use Rattle.il_machine.specs.Answers.{component_named}
use Rattle.il_machine.specs.Components.{is_given_to, moved_by, noted_by, no_progress, progress_after, progress_of}
use Rattle.stock_laws.specs.Bare.{AlwaysBare}
use Rattle.note_queues.specs.declared.taken.Took.{Took}
use Rattle.note_queues.specs.declared.taken.Took.TheVariants as tooks
use Rattle.graph_core.specs.Clients.{AreTold, IsPortDone, TakesClient, WasTold}
use Rattle.graph_core.specs.Entries.{Entries, kept}
use Rattle.graph_core.specs.Standing.{SoundWorld}
use Rattle.il_graph.specs.Stood.{IsTookDone}

pub done_moved : (event : Event) (p : Progress) → IsPortDone p.port → IsPortDone (moved_by event p).port
done_moved (events.CmdComplete (completions.State s)) p d = d
done_moved (events.CmdComplete (completions.Flush port)) p d = d
done_moved (events.CmdComplete (completions.Disable port)) p d = tt
done_moved (events.CmdComplete (completions.Enable port)) p d = tt
done_moved (events.CmdComplete (completions.Mark port)) p d = d
done_moved (events.Error error) p d = d
done_moved (events.Mark value) p d = d
done_moved (events.PortSettingsChanged port) p d = d
done_moved (events.BufferFlag port flags) p d = d
done_moved events.ResourcesAcquired p d = d

pub done_noted : (note : Note) (p : Progress) → IsPortDone p.port → IsPortDone (noted_by note p).port
done_noted (Told event) p d = done_moved event p d
done_noted (EmptyDone number) p d = d
done_noted (FillDone number) p d = d

done_after : (gs : List Given) (p : Progress) → IsPortDone p.port → IsPortDone (progress_after gs p).port
done_after [] p d = d
done_after (g ∷ gs) p d = done_after gs (noted_by g.note p) (done_noted g.note p d)

done_in : (told : Progress) (w : World) (o : Option Component) → MatchOption o ⊥ (λ c. told ≡ progress_of c w) → IsPortDone told.port
done_in told w None m = absurd m
done_in told w (Some c) m = subst (λ (p : Progress). IsPortDone p.port) (sym m) (done_after (filter (is_given_to (number_of c)) w.given) no_progress tt)

-- a client object that goes out was told no other
pub done_taken : {C : Type 0} (progress : C → Progress) (g k : Entries C) (h : Handle) (took : Took C) → SoundWorld (kept progress g) → AlwaysBare (kept progress g) (AreTold progress g) → TakesClient h g took k → IsTookDone progress took
done_taken progress g k h (tooks.Call call) W told t =
    let w = W.world in
    let was : WasTold h (progress call.client) w = told w W.stands h call.client t.0 in
    done_in (progress call.client) w (component_named h w.components) was
done_taken progress g k h tooks.None W told t = tt
done_taken progress g k h tooks.Busy W told t = tt
