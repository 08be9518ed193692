use Rattle.std.proofs.Common.{◌≡◌, List, length, inl, inr, subst, sym, ◌∙◌}
use Rattle.std.proofs.lemmas.Result.{err_from_is_err_and}
use Rattle.script_lang.specs.declared.play_line.PartLine.{PartLine}
use Rattle.wav_form.specs.declared.heads.WavHead.{WavHead}
use Rattle.play_forms.specs.Plans.{IsFitted}
use Rattle.play_files.specs.Asked.{HasAskedFor, read_names}
use Rattle.play_files.specs.Opening.{AreRead, IsSourceMet}
use Rattle.play_files.specs.Seen.{file_seen}
use Rattle.play_files.proofs.fitting.fit_to_sources.Goals as goal

pub returns-in_err-open_sources-clause-stopped : goal.returns-in_err-open_sources-clause-stopped
returns-in_err-open_sources-clause-stopped g c =
    let seen = file_seen g.M.Src.Source g.K.Sink in
    let old = g.M.Media.outside c.args.media.now in
    let met = c.in_err-open_sources.ensures.met in
    let p = err_from_is_err_and c.from_residual.result c.from_residual.ensures.1 in
    rw (p.1, p.2) (inl (record {
      place = met.0;
      met = subst (λ (ps : List PartLine). IsSourceMet old (g.M.Media.outside c.open_sources.new.media) ps met.0 c.in_err-open_sources.field-0.0) c.parts.ensures met.1;
      read = subst (λ (ps : List PartLine). AreRead seen old ps met.0 c.open_sources.new.heads.items c.open_sources.new.files.items) c.parts.ensures met.2;
    }))

pub returns-in_err-fit-clause-stopped : goal.returns-in_err-fit-clause-stopped
returns-in_err-fit-clause-stopped g c =
    let seen = file_seen g.M.Src.Source g.K.Sink in
    let old = g.M.Media.outside c.args.media.now in
    let new = g.M.Media.outside c.open_sources.new.media in
    let sources = c.in_ok-open_sources.ensures in
    let p = err_from_is_err_and c.from_residual-in_err-fit.result c.from_residual-in_err-fit.ensures.1 in
    rw (p.1) (inr (record {
      fitted = subst (λ (hs : List WavHead). IsFitted c.args.plan.now hs c.fit.new.self) c.as_slice.ensures.value c.fit.ensures.fitted;
      why = c.in_err-fit.field-0.0;
      is = c.in_err-fit.ensures.misfit;
      told = p.2;
      still = sources.still;
      read = subst (λ (ps : List PartLine). AreRead seen old ps (length ps) c.open_sources.new.heads.items c.open_sources.new.files.items) c.parts.ensures sources.read;
      asked = subst (λ (ps : List PartLine). HasAskedFor old new (read_names ps)) c.parts.ensures sources.asked;
    }))

pub returns-clause-fit : goal.returns-clause-fit
returns-clause-fit g c =
    let seen = file_seen g.M.Src.Source g.K.Sink in
    let old = g.M.Media.outside c.args.media.now in
    let new = g.M.Media.outside c.open_sources.new.media in
    let sources = c.in_ok-open_sources.ensures in
    let fitted = subst (λ (hs : List WavHead). IsFitted c.args.plan.now hs c.fit.new.self) c.as_slice.ensures.value c.fit.ensures.fitted in
    let same : c.parts.result.now ≡ c.fit.new.self.parts = c.parts.ensures ∙ sym fitted.parts in
    record {
      fitted = fitted;
      valid = c.fit.ensures.valid;
      fit = c.in_ok-fit.ensures.fits;
      still = sources.still;
      read = subst (λ (ps : List PartLine). AreRead seen old ps (length ps) c.open_sources.new.heads.items c.open_sources.new.files.items) same sources.read;
      asked = subst (λ (ps : List PartLine). HasAskedFor old new (read_names ps)) same sources.asked;
    }
