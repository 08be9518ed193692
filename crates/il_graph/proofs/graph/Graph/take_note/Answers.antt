use Rattle.std.proofs.Common.{◌≡◌, Ok, Err, slice_get, refl}
use Rattle.graph_core.specs.Entries.{kept}
use Rattle.omx_types.specs.declared.error.OmxError.TheVariants as errors
use Rattle.il_machine.specs.Notes.{Took, TakeFrom}
use Rattle.il_machine.specs.Acts as acts
use Rattle.note_queues.specs.Queues.{took_of}
use Rattle.note_queues.specs.declared.taken.Took.TheVariants as tooks
use Rattle.il_graph.proofs.Calling.{Found, found, not_found}
use Rattle.il_graph.proofs.Taking.{taken_at, none_taken_at}
use Rattle.il_graph.proofs.Clients.{client_taken, others_kept}
use Rattle.il_graph.proofs.PortsDone.{done_taken}
use Rattle.il_graph.proofs.HandedIn.{stays_over, stays_same, took_out}
use Rattle.il_graph.proofs.Whole.{whole_over, files_over, is_whole_over}
use Rattle.il_machine.specs.Run.{Step}
use Rattle.stock_laws.specs.Bare.{StepsBare}
use Rattle.il_graph.proofs.graph.Graph.take_note.Given.{Over}
use Rattle.il_graph.proofs.graph.Graph.take_note.Goals.{After-close_out}
use Rattle.il_graph.proofs.graph.Graph.take_note.Goals as goal

pub returns-in_default-clause-step : goal.returns-in_default-clause-step
returns-in_default-clause-step g c = rw (← c.self.view_is) (whole_over g.C.Client.progress _ c.self.inside.core (acts.TakeNote c.args.h) (acts.Took _) tt c.self.invariant.1 (λ w B. tt) (not_found g.C.Client.progress Took c.self.inside.core c.args.h
    (λ w v i k. TakeFrom w i k k.client_out (slice_get k.notes 0) (Err errors.InvalidComponent) v) c.in_default.ensures.place))

pub returns-in_default-clause-held : goal.returns-in_default-clause-held
returns-in_default-clause-held g c = rw (← c.self.view_is) (stays_same g.C.Client.progress c.self.inside.core)

-- the core's step
stepped : (g : Over) (c : After-close_out g) → StepsBare (kept g.C.Client.progress c.self.inside.core) (kept g.C.Client.progress c.close_out.new.self) (λ w v. Step w (acts.TakeNote c.args.h) (acts.Took (Ok (took_of (tooks.Call c.in-Call.call)))) v)
stepped g c =
    let p = g.C.Client.progress in
    let G = c.self.inside.core in
    let F : Found p G c.args.h c.in-Some.place = found p G c.args.h c.in-Some.place c.in-Some.ensures.place c.in-Some.ensures.within in
    taken_at p G c.take_note.new.self c.close_out.new.self c.args.h c.in-Some.place c.in-Call.call F (rw c.in-Call.is at c.take_note.ensures.change) c.close_out.ensures.closes

pub returns-in-Call : goal.returns-in-Call
returns-in-Call g c =
    let p = g.C.Client.progress in
    let G = c.self.inside.core in
    let F : Found p G c.args.h c.in-Some.place = found p G c.args.h c.in-Some.place c.in-Some.ensures.place c.in-Some.ensures.within in
    let T = stepped g (goal.at.returns-in-Call g c).After-close_out in
    let m = c.take_note.new.self in let k = c.close_out.new.self in let took = tooks.Call c.in-Call.call in
    let client = client_taken p G m k c.args.h c.in-Some.place F c.close_out.ensures.clients took (rw c.in-Call.is at c.take_note.ensures.client) in
    record {
      step = rw (← c.self.view_is) (whole_over p _ k (acts.TakeNote c.args.h) (acts.Took _) tt c.self.invariant.1 (λ w B. tt) T);
      client = rw (← c.self.view_is) client;
      done = done_taken p G k c.args.h took c.law_of_worlds.ensures.one c.law_of_worlds.ensures.told client;
      clients = rw (← c.self.view_is) (others_kept p G m k c.args.h c.in-Some.place F c.close_out.ensures.clients c.take_note.ensures.clients);
      files = rw (← c.self.view_is) (files_over p _ k (acts.TakeNote c.args.h) (acts.Took _) tt c.self.invariant.1 (λ w B. tt) T);
      held = rw (← c.self.view_is) (stays_over p G k (acts.TakeNote c.args.h) (acts.Took (Ok (took_of took))) refl (λ w. tt) c.law_of_worlds.ensures.one T);
      handed = rw (← c.self.view_is) (took_out p G m k c.args.h c.in-Some.place took F (rw c.in-Call.is at c.take_note.ensures.change) c.law_of_worlds.ensures.one T);
      unchanged = tt;
      idle = tt;
    }

pub returns-in-None : goal.returns-in-None
returns-in-None g c =
    let p = g.C.Client.progress in
    let G = c.self.inside.core in
    let F : Found p G c.args.h c.in-Some.place = found p G c.args.h c.in-Some.place c.in-Some.ensures.place c.in-Some.ensures.within in
    let same : c.take_note.new.self ≡ G = rw c.in-None.is at c.take_note.ensures.unchanged in
    record {
      step = rw (← c.self.view_is) (whole_over p _ c.take_note.new.self (acts.TakeNote c.args.h) (acts.Took _) tt c.self.invariant.1 (λ w B. tt) (none_taken_at p G c.take_note.new.self c.args.h c.in-Some.place tooks.None F (λ P x. x) (rw c.in-None.is at c.take_note.ensures.change)));
      client = rw (← c.self.view_is) (client_taken p G c.take_note.new.self c.take_note.new.self c.args.h c.in-Some.place F (λ k. refl) tooks.None (rw c.in-None.is at c.take_note.ensures.client));
      done = tt;
      clients = rw (← c.self.view_is, same) (λ k a. refl);
      files = rw (← c.self.view_is, same) (λ n. refl);
      held = rw (← c.self.view_is, same) (λ header H. H);
      handed = rw (← c.self.view_is, same) (λ number H. H);
      unchanged = tt;
      idle = rw (← c.self.view_is, same) refl;
    }

pub returns-in-Busy : goal.returns-in-Busy
returns-in-Busy g c =
    let p = g.C.Client.progress in
    let G = c.self.inside.core in
    let F : Found p G c.args.h c.in-Some.place = found p G c.args.h c.in-Some.place c.in-Some.ensures.place c.in-Some.ensures.within in
    let same : c.take_note.new.self ≡ G = rw c.in-Busy.is at c.take_note.ensures.unchanged in
    record {
      step = rw (← c.self.view_is) (whole_over p _ c.take_note.new.self (acts.TakeNote c.args.h) (acts.Took _) tt c.self.invariant.1 (λ w B. tt) (none_taken_at p G c.take_note.new.self c.args.h c.in-Some.place tooks.Busy F (λ P x. x) (rw c.in-Busy.is at c.take_note.ensures.change)));
      client = rw (← c.self.view_is) (client_taken p G c.take_note.new.self c.take_note.new.self c.args.h c.in-Some.place F (λ k. refl) tooks.Busy (rw c.in-Busy.is at c.take_note.ensures.client));
      done = tt;
      clients = rw (← c.self.view_is, same) (λ k a. refl);
      files = rw (← c.self.view_is, same) (λ n. refl);
      held = rw (← c.self.view_is, same) (λ header H. H);
      handed = rw (← c.self.view_is, same) (λ number H. H);
      unchanged = tt;
      idle = rw (← c.self.view_is, same) refl;
    }

pub invariant_of-self : goal.invariant_of-self
invariant_of-self g c =
    let p = g.C.Client.progress in
    (c.self.invariant.0, is_whole_over p _ c.close_out.new.self (acts.TakeNote c.args.h) (acts.Took _) tt c.self.invariant.1 (λ w B. tt) (stepped g (goal.at.invariant_of-self g c).After-close_out) c.close_out.ensures.settled)
