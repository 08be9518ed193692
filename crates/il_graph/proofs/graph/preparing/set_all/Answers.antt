use Rattle.std.proofs.Common.{◌≡◌, length, take, sym, ◌∙◌, ap, arith}
use Rattle.omx_types.specs.declared.kind.Kind.{Kind}
use Rattle.omx_types.specs.declared.kind.Kind.TheVariants as kinds
use Rattle.il_machine.specs.Parts.{factors_by}
use Rattle.il_machine.specs.Settings.{weights_in}
use Rattle.audio_parts.specs.Shown.{ShownPart, shown_by, terms_by}
use Rattle.il_graph.proofs.Prepared.{only_formats}
use Rattle.il_graph.proofs.graph.preparing.set_all.Goals as goal

pub set_formats-requires-clause-few : goal.set_formats-requires-clause-few
set_formats-requires-clause-few g c =
    let n : length c.settings.result.now ≡ length c.args.component.now.settings.ports = ap length c.settings.ensures in
    let m = c.requires.few in
    omega (arith, n, m)

pub set_factor-requires-clause-input : goal.set_factor-requires-clause-input
set_factor-requires-clause-input g c =
    let q = shown_by g.S.Source.told g.K.Sink.told g.K.Sink.name c.args.part.now in
    let s = c.args.component.now.settings in
    let e : length (terms_by c.set_formats.new.part).factors ≡ length q.terms.factors = ap (λ (x : ShownPart (g.row.S.Denot) (g.row.K.Denot)). length x.terms.factors) c.set_formats.ensures ∙ ap length (only_formats 0 c.settings.result.now q).factors in
    let k : s.kind ≡ kinds.Gain = sym c.kind.ensures.kind ∙ c.in-Gain.is in
    let n : length (factors_by s.kind s.gain s.weights) ≡ 1 = ap (λ (x : Kind). length (factors_by x s.gain s.weights)) k in
    let m = c.requires.factors in
    omega (arith, e, n, m)

pub set_factors-requires-clause-there : goal.set_factors-requires-clause-there
set_factors-requires-clause-there g c =
    let q = shown_by g.S.Source.told g.K.Sink.told g.K.Sink.name c.args.part.now in
    let s = c.args.component.now.settings in
    let e : length (terms_by c.set_formats.new.part).factors ≡ length q.terms.factors = ap (λ (x : ShownPart (g.row.S.Denot) (g.row.K.Denot)). length x.terms.factors) c.set_formats.ensures ∙ ap length (only_formats 0 c.settings.result.now q).factors in
    let k : s.kind ≡ kinds.Mixer c.in-Mixer.inputs = sym c.kind.ensures.kind ∙ c.in-Mixer.is in
    let n : length (factors_by s.kind s.gain s.weights) ≡ length s.weights = ap (λ (x : Kind). length (factors_by x s.gain s.weights)) k in
    let w : take c.in-Mixer.inputs c.weights.result ≡ s.weights = ap (λ (x : Kind). take (weights_in x) c.weights.result) (sym k) ∙ c.weights.ensures.weights in
    let l : length (take c.in-Mixer.inputs c.weights.result) ≡ length s.weights = ap length w in
    let m = c.requires.factors in
    omega (arith, e, n, l, m)
