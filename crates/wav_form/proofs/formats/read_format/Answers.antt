use Rattle.std.proofs.Common.{◌∙◌, ◌+◌, ◌≤◌, length, sym, arith}
use Rattle.std.proofs.lemmas.Result.{err_from_is_err_and}
use Rattle.wav_form.specs.Search.{view}
use Rattle.wav_form.proofs.FormatChunk.{format_in-fields, UnlessStopped-is}
use Rattle.wav_form.proofs.ChunkSearch.{IfShort-gave}
use Rattle.wav_form.proofs.formats.read_format.Goals as goal

pub returns-clause-answer : goal.returns-clause-answer
returns-clause-answer g c = λ x is.
    let fields = c.in_ok-fill_from.ensures.bytes x is in
    let within : c.args.chunk.now.content + c.args.chunk.now.size ≤ length x = omega (arith, c.if-chunk-size.false, c.size.ensures.value, c.size.ensures.told x is, c.from-size.ensures) in
    let long : 16 ≤ c.args.chunk.now.size = omega (arith, c.if-size-lt-FIELDS.false, c.from-size.ensures) in
    UnlessStopped-is _ _ (c.format_of.ensures.answer ∙ sym (format_in-fields x _ (view c.args.chunk.now) long within fields))

pub returns-in_err-fill_from-clause-short : goal.returns-in_err-fill_from-clause-short
returns-in_err-fill_from-clause-short g c =
    let p = err_from_is_err_and c.from_residual.result c.from_residual.ensures.1 in
    rw (p.1, p.2) (IfShort-gave _ _ _ _ c.in_err-fill_from.field-0.0 c.in_err-fill_from.ensures.stop)
