use Rattle.std.proofs.Common.{ap, max, ◌∙◌}
use Rattle.il_flow.proofs.Laying.{laid_out}
use Rattle.il_flow.proofs.running.layout_of.Goals as goal

pub returns : goal.returns
returns g c =
    let t = g.P.Part.terms c.args.part.now in
    laid_out t (g.P.Part.shape c.args.part.now) _ c.requires.lawful (c.frames_by_format.ensures t c.requires.lawful (c.is_by_terms.ensures.ready c.requires.fits).ports) c.is_by_terms.ensures.shape
    c.inputs.ensures (c.max.ensures ∙ ap (λ n. max n 1) c.input_frame.ensures) (c.max-2.ensures ∙ ap (λ n. max n 1) c.output_frame.ensures)
