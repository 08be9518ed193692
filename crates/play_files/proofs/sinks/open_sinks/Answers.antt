use Rattle.std.proofs.Common.{◌≡◌, ℕ, ◌<◌, Some, length, slice_get, refl, subst, arith}
use Rattle.std.proofs.lemmas.Option.{slice_get_read}
use Rattle.std.proofs.lemmas.Result.{err_from_is_err_and}
use Rattle.script_lang.specs.declared.play_line.PartLine.{PartLine}
use Rattle.play_result_laws.specs.Files.{written_by}
use Rattle.play_files.specs.Opening.{HaveSinks}
use Rattle.play_files.specs.Seen.{file_seen}
use Rattle.play_files.proofs.Asking.{asked_all, asked_more, asked_same}
use Rattle.play_files.proofs.Fronts.{sink_refused_sooner, sink_sooner, still_then}
use Rattle.play_files.proofs.Writing.{other_more, sink_more}
use Rattle.play_files.proofs.sinks.open_sinks.Goals as goal
use Rattle.play_files.proofs.sinks.open_sinks.Goals.{in-Some+in_ok-snk, in_default}

pub loop-place-preserved : goal.loop-place-preserved
loop-place-preserved g c =
    let i = c.loop-place.invariant in
    let seen = file_seen g.M.Src.Source g.M.Snk.Sink in
    let old = g.M.Media.outside c.args.media.now in
    let mid = g.M.Media.outside c.loop-place.media in
    let parts = c.args.parts.now in
    let planned = c.args.planned.now in
    let count = c.loop-place.place in
    let there : slice_get parts count ≡ Some c.index-parts-place.result = slice_get_read parts _ count c.index-parts-place.result refl c.loop-place-test.true c.index-parts-place.is in
    let within : count < length c.loop-place.files = (let a = c.loop-place.auto.files in let b = c.requires.many in let d = c.loop-place-test.true in omega arith) in
    elim c.match-written_name.branch [
      | in-Some+in_ok-snk w ↦ rw (w.media-is, w.files-is) (record {
        still = still_then old mid _ i.still w.in_ok-snk.ensures.still;
        asked = asked_more (λ (part : PartLine). written_by part.form) old mid _ parts count c.index-parts-place.result w.in-Some.name.now (w.in_ok-snk.ensures.still).goes_on there w.in-Some.ensures.some i.asked (w.in_ok-snk.ensures.asked (λ n. cc));
        have = rw w.put_file.ensures (sink_more seen old parts planned count c.args.files.now c.loop-place.files i.have c.index-parts-place.result there w.in-Some.name.now _ _ _ w.in-Some.ensures.some
            (sink_sooner old mid i.still w.in-Some.name.now _ w.in_ok-snk.ensures.opened) refl refl within);
      })
      | in_default w ↦ rw (w.media-is, w.files-is) (record {
        still = i.still;
        asked = asked_same (λ (part : PartLine). written_by part.form) old mid parts count c.index-parts-place.result there (rw w.in_default.is at c.written_name.ensures.none) i.asked;
        have = other_more seen old parts planned count c.args.files.now c.loop-place.files i.have c.index-parts-place.result there (rw w.in_default.is at c.written_name.ensures.none);
      })
    ]

pub returns-clause-opened : goal.returns-clause-opened
returns-clause-opened g c =
    let ends : c.loop-place.place ≡ length c.args.parts.now = (let a = c.loop-place-test.false in let b = c.loop-place.auto.place-end in omega arith) in
    subst (λ (n : ℕ). HaveSinks (file_seen g.M.Src.Source g.M.Snk.Sink)
    (g.M.Media.outside c.args.media.now) c.args.parts.now c.args.planned.now n c.args.files.now c.loop-place.files) ends c.loop-place.invariant.have

pub returns-clause-asked : goal.returns-clause-asked
returns-clause-asked g c =
    asked_all (λ (part : PartLine). written_by part.form) (g.M.Media.outside c.args.media.now) (g.M.Media.outside c.loop-place.media) c.args.parts.now c.loop-place.place (let a = c.loop-place-test.false in omega arith) c.loop-place.invariant.asked

pub returns-in_err-snk-clause-met : goal.returns-in_err-snk-clause-met
returns-in_err-snk-clause-met g c =
    let i = c.loop-place.invariant in
    let old = g.M.Media.outside c.args.media.now in
    let mid = g.M.Media.outside c.loop-place.media in
    let parts = c.args.parts.now in
    let count = c.loop-place.place in
    let there : slice_get parts count ≡ Some c.index-parts-place.result = slice_get_read parts _ count c.index-parts-place.result refl c.loop-place-test.true c.index-parts-place.is in
    let refused = c.in_err-snk.ensures.refused in
    let p = err_from_is_err_and c.from_residual.result c.from_residual.ensures.1 in
    rw (p.1, p.2) (
      count,
      record {
        part = c.index-parts-place.result;
        there = there;
        name = c.in-Some.name.now;
        writes = c.in-Some.ensures.some;
        refused = sink_refused_sooner old mid i.still (c.index-parts-place.result).line c.in-Some.name.now _ c.in_err-snk.field-0.0 refused;
      },
      i.have,
      λ n. asked_more (λ (part : PartLine). written_by part.form) old mid _ parts count c.index-parts-place.result c.in-Some.name.now refused.goes_on there c.in-Some.ensures.some i.asked (c.in_err-snk.ensures.asked (λ same. n (cc))),
    )
