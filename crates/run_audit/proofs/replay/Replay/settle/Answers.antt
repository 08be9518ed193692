use Rattle.std.proofs.Common.{None, slice_set, ◌∙◌, sym, ap}
use Rattle.run_audit.specs.Seeing.{replay_sight}
use Rattle.run_audit.proofs.Files.{files_join}
use Rattle.run_audit.proofs.Settled.{cleared_more, part_place, settled_then}
use Rattle.run_audit.proofs.replay.Replay.settle.Goals as goal

pub settle_work-requires : goal.settle_work-requires
settle_work-requires g c =
    let y = c.loop-place.invariant.stands c.requires.0 c.requires.1 c.requires.2 c.requires.3 in
    record {
      there = (part_place (replay_sight g.C.Client g.S.Source) c.loop-place.self c.requires.0 c.requires.1 y.0 y.1 c.parts-place-end.result.now (c.parts-place-end.ensures ∙ sym (ap (λ p. p.parts) c.loop-place.invariant.plan)) c.loop-place.place c.loop-place-test.true).0;
      stands = (c.requires.0, c.requires.1, y.0, y.1);
    }

pub settle_client-requires : goal.settle_client-requires
settle_client-requires g c =
    let y = c.loop-place.invariant.stands c.requires.0 c.requires.1 c.requires.2 c.requires.3 in
    let z = c.settle_work.ensures.stands c.requires.0 c.requires.1 y.0 y.1 in
    let plan = c.settle_work.ensures.plan ∙ c.loop-place.invariant.plan in
    record {
      there = (part_place (replay_sight g.C.Client g.S.Source) c.settle_work.new.self c.requires.0 c.requires.1 z.0 z.1 c.parts-place-end.result.now (c.parts-place-end.ensures ∙ sym (ap (λ p. p.parts) plan)) c.loop-place.place c.loop-place-test.true).1;
      stands = (c.requires.0, c.requires.1, z.0, z.1);
    }

pub loop-place-preserved : goal.loop-place-preserved
loop-place-preserved g c =
    let see = (replay_sight g.C.Client g.S.Source) in
    let first = c.args.self.now in
    let old = c.loop-place.self in
    let mid = c.settle_work.new.self in
    let new = c.settle_client.new.self in
    let y = c.loop-place.invariant.stands c.requires.0 c.requires.1 c.requires.2 c.requires.3 in
    let z = c.settle_work.ensures.stands c.requires.0 c.requires.1 y.0 y.1 in
    let within = part_place see old c.requires.0 c.requires.1 y.0 y.1 c.parts-place-end.result.now (c.parts-place-end.ensures ∙ sym (ap (λ p. p.parts) c.loop-place.invariant.plan)) c.loop-place.place c.loop-place-test.true in
    record {
      stands = λ tells x w I. (
          let a = c.loop-place.invariant.stands tells x w I in
          let b = c.settle_work.ensures.stands tells x a.0 a.1 in
          let d = c.settle_client.ensures.stands tells x b.0 b.1 in
          (d.0, d.1, settled_then x w a.0 d.0 a.2 (settled_then x a.0 b.0 d.0 b.2 d.2)));
      works = cleared_more old.works.items new.works.items c.loop-place.place (ap (λ v. v.items) c.settle_client.ensures.works ∙ c.settle_work.ensures.works) within.0 c.loop-place.invariant.works;
      clients = cleared_more old.clients.items new.clients.items c.loop-place.place (c.settle_client.ensures.clients ∙ ap (λ v. slice_set v.items c.loop-place.place None) c.settle_work.ensures.clients) within.1 c.loop-place.invariant.clients;
      files = files_join see first old new c.loop-place.invariant.files (files_join see old mid new c.settle_work.ensures.files c.settle_client.ensures.files);
      plan = c.settle_client.ensures.plan ∙ (c.settle_work.ensures.plan ∙ c.loop-place.invariant.plan);
      handles = c.settle_client.ensures.handles ∙ (c.settle_work.ensures.handles ∙ c.loop-place.invariant.handles);
      order = c.settle_client.ensures.order ∙ (c.settle_work.ensures.order ∙ c.loop-place.invariant.order);
    }
