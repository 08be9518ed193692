use Rattle.std.proofs.Common.{sym, subst, refl}
use Rattle.audio_parts.specs.Shown.{shown_by}
use Rattle.il_flow.specs.Works.{seen_done}
use Rattle.il_graph.specs.Finishing.{Returns}
use Rattle.il_graph.proofs.Back.{seen_as}
use Rattle.graph_acts.specs.declared.act.Act.TheVariants as asks
use Rattle.graph_acts.specs.declared.act.Reply.TheVariants as replies
use Rattle.graph_acts.specs.Hiding.{shown_done}
use Rattle.graph_acts.specs.Holding.{CanFinish}
use Rattle.graph_acts.specs.Moving.{Moved}
use Rattle.graph_acts.specs.Plain.{sight_of}
use Rattle.graph_acts.proofs.Acts.{headers_stay, clients_stay}
use Rattle.graph_acts.proofs.Lasting.{works_back}
use Rattle.graph_acts.proofs.ObjectActs.{finished_objects}
use Rattle.graph_acts.proofs.served.Served.finish.Goals as goal

pub finish-requires-clause-comes : goal.finish-requires-clause-comes
finish-requires-clause-comes g c =
    let part = c.law_of_parts.ensures in
    let done = c.into_done.result in
    let see = sight_of g.C.Client g.S.Source g.K.Sink in
    let f = shown_by g.S.Source.told g.K.Sink.told g.K.Sink.name in
    let seen = seen_as (f done.part) _ _ _ _ (sym (part.left done.part)) (sym (part.rest done.part)) (sym (part.kept done.part)) (sym (part.writing done.part)) in
    let can : CanFinish see c.args.self.now.graph (shown_done f done) = subst (CanFinish see c.args.self.now.graph) c.into_done.ensures c.requires in
    let x = can.comes in (x.0, x.1, (x.2.0, subst (Returns x.0 (seen_done x.1 done)) (sym seen) x.2.1))

pub finish-requires-clause-its : goal.finish-requires-clause-its
finish-requires-clause-its g c =
    let done = c.into_done.result in
    let see = sight_of g.C.Client g.S.Source g.K.Sink in
    let f = shown_by g.S.Source.told g.K.Sink.told g.K.Sink.name in
    let can : CanFinish see c.args.self.now.graph (shown_done f done) = subst (CanFinish see c.args.self.now.graph) c.into_done.ensures c.requires in
    rw (c.law_of_parts.ensures.terms done.part, c.law_of_parts.ensures.failed done.part) can.its

pub finish-requires-clause-handed : goal.finish-requires-clause-handed
finish-requires-clause-handed g c =
    let done = c.into_done.result in
    let see = sight_of g.C.Client g.S.Source g.K.Sink in
    let f = shown_by g.S.Source.told g.K.Sink.told g.K.Sink.name in
    let can : CanFinish see c.args.self.now.graph (shown_done f done) = subst (CanFinish see c.args.self.now.graph) c.into_done.ensures c.requires in
    can.handed

pub returns : goal.returns
returns g c =
    let e = c.finish.ensures in
    let part = c.law_of_parts.ensures in
    let done = c.into_done.result in
    let old = c.args.self.now.graph in
    let new = c.finish.new.self in
    let see = sight_of g.C.Client g.S.Source g.K.Sink in
    let f = shown_by g.S.Source.told g.K.Sink.told g.K.Sink.name in
    let seen = seen_as (f done.part) _ _ _ _ (sym (part.left done.part)) (sym (part.rest done.part)) (sym (part.kept done.part)) (sym (part.writing done.part)) in
    let moved : Moved see (asks.Finish (shown_done f done)) replies.Finish old new = record {
      step = λ w s u k m. e.step u.took w s (subst (Returns w (seen_done u.took done)) (sym seen) (m, k));
      replied = tt;
      sized = tt;
      headers = headers_stay old new e.held;
      clients = clients_stay old new e.clients;
      objects = finished_objects f (λ it. refl) done replies.Finish old new e.file e.files e.clients;
      leaves = λ x gone w s u. (refl, refl);
      told = λ u. tt;
      works = λ w v S o n u so m k. works_back w v (seen_done u.took (shown_done f done)) S m k;
    } in
    subst (λ d. Moved see (asks.Finish d) replies.Finish old new) (sym c.into_done.ensures) moved
