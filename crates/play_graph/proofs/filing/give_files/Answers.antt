use Rattle.std.proofs.Common.{◌≡◌, ◌<◌, ℕ, length, length-set, ◌∙◌, subst, arith}
use Rattle.il_graph.specs.Shown.{offered}
use Rattle.play_build_laws.specs.Stages.{Filing}
use Rattle.play_graph.specs.Making.{IsAt}
use Rattle.play_graph.proofs.Offering.{come_more, gone_more, offered_at, still_more}
use Rattle.play_graph.proofs.filing.give_files.Goals as goal

pub give_file-requires-clause-stands : goal.give_file-requires-clause-stands
give_file-requires-clause-stands g c =
    let i = c.loop-place.invariant in
    let s = c.requires.stands in
    let count = c.count-place-end.ensures in
    let many = i.many in
    let all = c.requires.many in
    let b : c.loop-place.place < length c.loop-place.files = omega arith in
    (s.0, i.goes s.0 s.1 s.2, offered_at c.args.plan.now s.0 (offered g.S.Source.offset g.S.Source.size g.S.Source.told g.K.Sink.told) c.args.files.now c.loop-place.files c.loop-place.place c.index-files-place.result c.take-file.result s.2 b (i.still c.loop-place.place (omega arith)) c.take-file.ensures.value)

pub loop-place-preserved : goal.loop-place-preserved
loop-place-preserved g c =
    let i = c.loop-place.invariant in
    let count = c.count-place-end.ensures in
    let many = i.many in
    let all = c.requires.many in
    let b : c.loop-place.place < length c.loop-place.files = omega arith in
    record {
      goes = λ given A O. c.give_file.ensures.goes given (i.goes given A O) (offered_at c.args.plan.now given (offered g.S.Source.offset g.S.Source.size g.S.Source.told g.K.Sink.told) c.args.files.now c.loop-place.files c.loop-place.place c.index-files-place.result c.take-file.result O b (i.still c.loop-place.place (omega arith)) c.take-file.ensures.value);
      many = length-set c.loop-place.files c.loop-place.place c.take-file.new.self ∙ i.many;
      gone = gone_more c.loop-place.files c.loop-place.place c.take-file.new.self c.take-file.ensures.after b i.gone;
      came = come_more c.args.files.now c.loop-place.files c.loop-place.place c.index-files-place.result c.take-file.result c.loop-place.graph c.give_file.new.graph b (i.still c.loop-place.place (omega arith)) c.take-file.ensures.value c.give_file.ensures.file c.give_file.ensures.files i.came;
      still = still_more c.args.files.now c.loop-place.files c.loop-place.place c.take-file.new.self i.still;
    }

pub returns-clause-goes : goal.returns-clause-goes
returns-clause-goes g c = λ given A O.
    let count = c.count-place-end.ensures in
    let e : c.loop-place.place ≡ length c.args.plan.now.parts = omega arith in
    subst (λ (n : ℕ). IsAt c.args.plan.now given (Filing n) c.loop-place.graph) e (c.loop-place.invariant.goes given A O)

pub returns-clause-came : goal.returns-clause-came
returns-clause-came g c = λ place file b e.
    let count = c.count-place-end.ensures in
    c.loop-place.invariant.came place file (omega (arith, b)) e
