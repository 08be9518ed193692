use Rattle.std.proofs.Common.{◌∙◌, sym}
use Rattle.std.proofs.lemmas.Result.{err_from_is_err_and}
use Rattle.wav_form.specs.Search.{view}
use Rattle.wav_form.proofs.FormatChunk.{format_after-fault, none_left}
use Rattle.wav_form.proofs.formats.known_format.Goals as goal

pub returns-in_err-read_format-clause-answer : goal.returns-in_err-read_format-clause-answer
returns-in_err-read_format-clause-answer g c = λ x is.
    let p = err_from_is_err_and c.from_residual.result c.from_residual.ensures.1 in
    rw (p.1, p.2) (format_after-fault x c.args.known (view c.args.chunk.now) c.in_err-read_format.field-0.0 (none_left c.args.known (sym c.is_some.ensures ∙ c.if-is_some.false)) (sym c.is_format.ensures ∙ c.if-not-is_format.false) (c.in_err-read_format.ensures.answer x is))
