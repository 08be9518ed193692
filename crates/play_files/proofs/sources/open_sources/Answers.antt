use Rattle.std.proofs.Common.{◌≡◌, Some, slice_get, refl, arith}
use Rattle.std.proofs.lemmas.Option.{slice_get_read}
use Rattle.std.proofs.lemmas.Result.{err_from_is_err_and}
use Rattle.script_lang.specs.declared.play_line.PartLine.{PartLine}
use Rattle.play_result_laws.specs.Files.{read_by}
use Rattle.play_files.specs.Seen.{file_seen}
use Rattle.play_files.proofs.Asking.{asked_more, asked_same}
use Rattle.play_files.proofs.Fronts.{source_refused_sooner, source_sooner, still_then}
use Rattle.play_files.proofs.Reading.{file_more, none_more}
use Rattle.play_files.proofs.sources.open_sources.Goals as goal
use Rattle.play_files.proofs.sources.open_sources.Goals.{in-None, in-Some+in_ok-src-in-Some}

pub loop-part-preserved : goal.loop-part-preserved
loop-part-preserved g c =
    let i = c.loop-part.invariant in
    let seen = file_seen g.M.Src.Source g.K.Sink in
    let old = g.M.Media.outside c.args.media.now in
    let parts = c.args.parts.now in
    let count = c.loop-part.part-index in
    let there : slice_get parts count ≡ Some c.part-item.result = slice_get_read parts _ count c.part-item.result refl c.loop-part-test.true c.part-item.is in
    elim c.match-read_name.branch [
      | in-None w ↦ rw (w.media-is, w.heads-is, w.files-is) (record {
        heads_room = i.heads_room;
        files_room = (let x = i.files_room in let y = w.put_last.ensures.capacity in omega arith);
        heads_few = (let x = i.heads_few in omega arith);
        files_few = (let x = i.files_few in let y = w.put_last.ensures.len in omega arith);
        still = i.still;
        asked = asked_same (λ (part : PartLine). read_by part.form) old (g.M.Media.outside c.loop-part.media) parts count c.part-item.result there w.in-None.ensures.none i.asked;
        read = rw w.put_last.ensures.items (none_more seen old parts count c.loop-part.heads.items c.loop-part.files.items i.read c.part-item.result there w.in-None.ensures.none);
      })
      | in-Some+in_ok-src-in-Some w ↦ rw (w.media-is, w.heads-is, w.files-is) (record {
        heads_room = (let x = i.heads_room in let y = w.put_last-in-Some-2.ensures.capacity in omega arith);
        files_room = (let x = i.files_room in let y = w.put_last-in-Some.ensures.capacity in omega arith);
        heads_few = (let x = i.heads_few in let y = w.put_last-in-Some-2.ensures.len in omega arith);
        files_few = (let x = i.files_few in let y = w.put_last-in-Some.ensures.len in omega arith);
        still = still_then old _ _ i.still w.in_ok-src-in-Some.ensures.still;
        asked = asked_more (λ (part : PartLine). read_by part.form) old (g.M.Media.outside c.loop-part.media) _ parts count c.part-item.result w.in-Some.name.now (w.in_ok-src-in-Some.ensures.still).goes_on there w.in-Some.ensures.some i.asked (w.in_ok-src-in-Some.ensures.asked (λ n. cc));
        read = rw (w.put_last-in-Some.ensures.items, w.put_last-in-Some-2.ensures.items) (file_more seen old parts count c.loop-part.heads.items c.loop-part.files.items i.read c.part-item.result there w.in-Some.name.now w.in_ok-src-in-Some.head _ _ w.in-Some.ensures.some (source_sooner old (g.M.Media.outside c.loop-part.media) i.still w.in-Some.name.now w.in_ok-src-in-Some.head _ w.in_ok-src-in-Some.ensures.opened) refl);
      })
    ]

pub returns-in_err-src-in-Some-clause-met : goal.returns-in_err-src-in-Some-clause-met
returns-in_err-src-in-Some-clause-met g c =
    let i = c.loop-part.invariant in
    let old = g.M.Media.outside c.args.media.now in
    let mid = g.M.Media.outside c.loop-part.media in
    let parts = c.args.parts.now in
    let count = c.loop-part.part-index in
    let there : slice_get parts count ≡ Some c.part-item.result = slice_get_read parts _ count c.part-item.result refl c.loop-part-test.true c.part-item.is in
    let refused = c.in_err-src-in-Some.ensures.refused in
    let p = err_from_is_err_and c.from_residual.result c.from_residual.ensures.1 in
    rw (p.1, p.2) (
      count,
      record {
        part = c.part-item.result;
        there = there;
        name = c.in-Some.name.now;
        reads = c.in-Some.ensures.some;
        refused = source_refused_sooner old mid i.still (c.part-item.result).line c.in-Some.name.now _ c.in_err-src-in-Some.field-0.0 refused;
        asked = λ n. asked_more (λ (part : PartLine). read_by part.form) old mid _ parts count c.part-item.result c.in-Some.name.now refused.goes_on there c.in-Some.ensures.some i.asked (c.in_err-src-in-Some.ensures.asked (λ same. n (cc)));
      },
      i.read,
    )
