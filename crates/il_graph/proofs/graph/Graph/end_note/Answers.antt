use Rattle.std.proofs.Common.{◌≡◌, true, Some}
use Rattle.graph_core.specs.Entries.{component_at}
use Rattle.il_graph.proofs.Calling.{Found, found, and_at}
use Rattle.il_graph.proofs.Taking.{out_named, out_at, ended_at}
use Rattle.il_graph.proofs.Clients.{client_is, others_kept}
use Rattle.il_graph.proofs.HandedIn.{closes_over}
use Rattle.il_machine.specs.Acts as acts
use Rattle.graph_core.specs.Clients.{WasTold}
use Rattle.il_graph.proofs.Whole.{whole_where, files_where, is_whole_where}
use Rattle.il_graph.proofs.Ending.{told_world, told_stands, was_told}
use Rattle.il_graph.proofs.graph.Graph.end_note.Goals as goal

pub unreachable-requires : goal.unreachable-requires
unreachable-requires g c = out_named g.C.Client.progress c.self.inside.core c.args.h (rw (← c.self.view_is) at c.requires.out) c.in_default.ensures.place

pub put_client-requires-clause-out : goal.put_client-requires-clause-out
put_client-requires-clause-out g c =
    let p = g.C.Client.progress in
    let G = c.self.inside.core in
    let F : Found p G c.args.h c.in-Some.place = found p G c.args.h c.in-Some.place c.in-Some.ensures.place c.in-Some.ensures.within in
    out_at p G c.args.h c.in-Some.place F (rw (← c.self.view_is) at c.requires.out)

pub returns-clause-step : goal.returns-clause-step
returns-clause-step g c =
    let p = g.C.Client.progress in
    let G = c.self.inside.core in
    let F : Found p G c.args.h c.in-Some.place = found p G c.args.h c.in-Some.place c.in-Some.ensures.place c.in-Some.ensures.within in
    rw (← c.self.view_is) (whole_where p _ c.close_out.new.self (acts.EndNote c.args.h (p c.args.client)) acts.Ended tt c.self.invariant.1 (λ w. tt) (WasTold c.args.h (p c.args.client)) (ended_at p G c.put_client.new.self c.close_out.new.self c.args.h c.in-Some.place (p c.args.client) F c.put_client.ensures.change c.close_out.ensures.closes))

pub returns-clause-client : goal.returns-clause-client
returns-clause-client g c =
    let p = g.C.Client.progress in
    let G = c.self.inside.core in
    let F : Found p G c.args.h c.in-Some.place = found p G c.args.h c.in-Some.place c.in-Some.ensures.place c.in-Some.ensures.within in
    client_is p G c.put_client.new.self c.close_out.new.self c.args.h c.in-Some.place F c.close_out.ensures.clients (Some c.args.client) c.put_client.ensures.client

pub returns-clause-clients : goal.returns-clause-clients
returns-clause-clients g c =
    let p = g.C.Client.progress in
    let G = c.self.inside.core in
    let F : Found p G c.args.h c.in-Some.place = found p G c.args.h c.in-Some.place c.in-Some.ensures.place c.in-Some.ensures.within in
    rw (← c.self.view_is) (others_kept p G c.put_client.new.self c.close_out.new.self c.args.h c.in-Some.place F c.close_out.ensures.clients c.put_client.ensures.clients)

pub returns-clause-held : goal.returns-clause-held
returns-clause-held g c =
    rw (← c.self.view_is) (closes_over g.C.Client.progress c.self.inside.core c.put_client.new.self c.close_out.new.self c.put_client.ensures.stock c.law_of_worlds.ensures.one c.close_out.ensures.closes)

pub invariant_of-self : goal.invariant_of-self
invariant_of-self g c =
    let p = g.C.Client.progress in
    let G = c.self.inside.core in
    let F : Found p G c.args.h c.in-Some.place = found p G c.args.h c.in-Some.place c.in-Some.ensures.place c.in-Some.ensures.within in
    let out = out_at p G c.args.h c.in-Some.place F (rw (← c.self.view_is) at c.requires.out) in
    let is_out : F.component.client_out ≡ true = and_at (λ k. k.client_out ≡ true) (component_at c.in-Some.place G) F.component F.at out in
    let T = ended_at p G c.put_client.new.self c.close_out.new.self c.args.h c.in-Some.place (p c.args.client) F c.put_client.ensures.change c.close_out.ensures.closes in (
      c.self.invariant.0,
      is_whole_where p _ c.close_out.new.self (acts.EndNote c.args.h (p c.args.client)) acts.Ended tt c.self.invariant.1 (λ w. tt) (WasTold c.args.h (p c.args.client)) T
          (told_world p _ c.args.h c.in-Some.place F.component (p c.args.client) c.self.invariant.1 F.place F.at is_out c.requires.told)
          (told_stands p _ c.args.h c.in-Some.place F.component (p c.args.client) c.self.invariant.1 F.place F.at is_out c.requires.told)
          (was_told p _ c.args.h c.in-Some.place F.component (p c.args.client) c.self.invariant.1 F.place F.at is_out c.requires.told) c.close_out.ensures.settled,
    )

pub returns-clause-files : goal.returns-clause-files
returns-clause-files g c =
    let p = g.C.Client.progress in
    let G = c.self.inside.core in
    let F : Found p G c.args.h c.in-Some.place = found p G c.args.h c.in-Some.place c.in-Some.ensures.place c.in-Some.ensures.within in
    let out = out_at p G c.args.h c.in-Some.place F (rw (← c.self.view_is) at c.requires.out) in
    let is_out : F.component.client_out ≡ true = and_at (λ k. k.client_out ≡ true) (component_at c.in-Some.place G) F.component F.at out in
    let T = ended_at p G c.put_client.new.self c.close_out.new.self c.args.h c.in-Some.place (p c.args.client) F c.put_client.ensures.change c.close_out.ensures.closes in
    rw (← c.self.view_is) (files_where p _ c.close_out.new.self (acts.EndNote c.args.h (p c.args.client)) acts.Ended tt c.self.invariant.1 (λ w. tt) (WasTold c.args.h (p c.args.client)) T
    (told_world p _ c.args.h c.in-Some.place F.component (p c.args.client) c.self.invariant.1 F.place F.at is_out c.requires.told)
    (told_stands p _ c.args.h c.in-Some.place F.component (p c.args.client) c.self.invariant.1 F.place F.at is_out c.requires.told)
    (was_told p _ c.args.h c.in-Some.place F.component (p c.args.client) c.self.invariant.1 F.place F.at is_out c.requires.told))
