use Rattle.std.proofs.Common.{◌≡◌, ℕ, List, Some, Result, IfErr, IsTrue, sym, subst, ◌∙◌}
use Rattle.std.proofs.lemmas.Result.{err_from_is_err_and}
use Rattle.outside_io.proofs.Closed.{told_value}
use Rattle.rtp_parts.specs.Answers.{StoppedPacking}
use Rattle.omx_types.specs.declared.fault.Fault.{Fault}
use Rattle.omxrun.specs.Packets.{PacksTo}
use Rattle.omxrun.specs.declared.done.Done.{Done}
use Rattle.omxrun.proofs.Moves.{IsCounted, IsShut, IsShutAlone, RanAlone, pack-alone, shut-alone, shut-stand, pack-moved, pack-stopped, read-failed, write-rose, closed-of}
use Rattle.omxrun.proofs.Turns.{IsMoved, HasMoveReason, turned-outcome, unopened-outcome}
use Rattle.omxrun.proofs.packets.pack_file.Goals as goal

pub returns-in_err-opened-clause-outcome : goal.returns-in_err-opened-clause-outcome
returns-in_err-opened-clause-outcome g c =
    let p = err_from_is_err_and c.from_residual.result c.from_residual.ensures.1 in
    rw (p.1, p.2) (unopened-outcome PacksTo StoppedPacking c.args.input.now c.args.output.now (g.M.Media.outside c.args.media.now) (g.M.Media.outside c.open_both.new.media) c.in_err-opened.field-0.0 c.open_both.ensures.files c.in_err-opened.ensures.reason c.in_err-opened.ensures.alone c.in_err-opened.ensures.unabsent)

pub returns-clause-outcome : goal.returns-clause-outcome
returns-clause-outcome g c =
    let old = g.M.Media.outside c.args.media.now in
    let mid = g.M.Media.outside c.open_both.new.media in
    let new = g.M.Media.outside c.close_both.new.media in
    let told = g.M.Snk.Sink.told c.pack-packed.new.snk in
    let counted : IsCounted c.args.input.now old new _ _ _ _ _ _ _ = record {
      told_is = c.in_ok-opened.ensures.told;
      ends_are = c.in_ok-opened.ensures.ends;
      there = c.in_ok-opened.ensures.there;
      sized = c.in_ok-opened.ensures.size;
      read = read-failed c.args.input.now (g.M.Src.Source.name c.pack-packed.new.src) old mid new _ _ c.in_ok-opened.ensures.unread c.open_both.ensures.goes_on c.close_both.ensures.reads
          (λ tells. c.pack-packed.ensures.keeps_source.name ∙ c.in_ok-opened.ensures.source_name tells) c.in_ok-opened.ensures.none_failed c.close_both.ensures.names;
      write = write-rose old.write_faults mid.write_faults new.write_faults _ _ c.in_ok-opened.ensures.unwritten c.open_both.ensures.goes_on.write_faults c.close_both.ensures.writes;
    } in
    let moved : IsTrue old.tells → (bytes : List ℕ) × (old.file c.args.input.now ≡ Some bytes) × IsMoved PacksTo bytes c.packed_outcome.result told = λ tells.
    let held = told_value (old.file c.args.input.now) (c.in_ok-opened.ensures.there tells) in
    let there = c.in_ok-opened.ensures.told ∙ held.1 in
    let head = c.one_answer.ensures.some held.0 in (
      held.0,
      held.1,
      subst (λ (r : Result Done Fault). IsMoved PacksTo held.0 r told) (sym c.packed_outcome.ensures)
          (pack-moved held.0 _ told c.pack-packed.result head.0 head.1 (c.in_ok-opened.ensures.begun tells) (c.pack-packed.ensures.answer held.0 there head.0 head.1) (c.pack-packed.ensures.file held.0 there head.0 head.1) (c.pack-packed.ensures.front held.0 there head.0 head.1)),
    ) in
    let stopped = subst (λ (r : Result Done Fault). IfErr r (HasMoveReason StoppedPacking c.args.input.now old new)) (sym c.packed_outcome.ensures)
    (pack-stopped c.args.input.now old new _ _ _ _ _ _ _ c.pack-packed.result counted c.pack-packed.ensures.read c.pack-packed.ensures.write c.pack-packed.ensures.short c.pack-packed.ensures.too_large) in
    let shut : IsShut (g.M.Snk.Sink.name c.pack-packed.new.snk) mid new c.packed_outcome.result c.close_both.result told = record {
      others = c.close_both.ensures.others;
      done = c.close_both.ensures.done;
      front = c.close_both.ensures.front;
      fault = c.close_both.ensures.fault;
    } in
    let alone : RanAlone c.packed_outcome.result (g.M.Src.Source.faults c.pack-packed.new.src) (g.M.Snk.Sink.faults c.pack-packed.new.snk) = subst (λ (r : Result Done Fault). RanAlone r (g.M.Src.Source.faults c.pack-packed.new.src) (g.M.Snk.Sink.faults c.pack-packed.new.snk)) (sym c.packed_outcome.ensures)
    (pack-alone _ _ _ _ c.pack-packed.result c.in_ok-opened.ensures.unread c.in_ok-opened.ensures.unwritten c.pack-packed.ensures.stand c.pack-packed.ensures.write_alone c.pack-packed.ensures.read_stays c.pack-packed.ensures.short_alone) in
    let shut_alone : IsShutAlone mid new c.packed_outcome.result c.close_both.result (g.M.Src.Source.faults c.pack-packed.new.src) (g.M.Snk.Sink.faults c.pack-packed.new.snk) = record {
      closing = c.close_both.ensures.closing;
      unread = c.close_both.ensures.unread;
      unwritten = c.close_both.ensures.unwritten;
      closed = c.close_both.ensures.closed;
    } in
    turned-outcome PacksTo StoppedPacking c.args.input.now c.args.output.now old new c.packed_outcome.result c.close_both.result told
    (closed-of PacksTo StoppedPacking (g.M.Snk.Sink.name c.pack-packed.new.snk) c.args.input.now c.args.output.now old mid new c.packed_outcome.result c.close_both.result told c.open_both.ensures.files c.open_both.ensures.goes_on c.in_ok-opened.ensures.unabsent c.close_both.ensures.absences
    (λ tells. c.pack-packed.ensures.keeps_sink.name ∙ c.in_ok-opened.ensures.name tells) shut moved stopped (shut-alone old mid new c.packed_outcome.result c.close_both.result (g.M.Src.Source.faults c.pack-packed.new.src) (g.M.Snk.Sink.faults c.pack-packed.new.snk) c.in_ok-opened.ensures.stand alone shut_alone)
    (shut-stand (g.M.Snk.Sink.name c.pack-packed.new.snk) old mid new c.packed_outcome.result c.close_both.result told (g.M.Src.Source.faults c.pack-packed.new.src) (g.M.Snk.Sink.faults c.pack-packed.new.snk) c.in_ok-opened.ensures.stand alone shut shut_alone))
