use Rattle.std.proofs.Common.{◌≡◌, ℕ, ◌+◌, List, Option, length, take, slice_get, inl, inr, ap, subst, sym, ◌∙◌}
use Rattle.std.specs.Vec.{vec_len, with_items}
use Rattle.std.proofs.lemmas.List.{with_items_is}
use Rattle.std.proofs.lemmas.Result.{err_from_is_err_and}
use Rattle.audio_parts.specs.declared.part_file.PartFile.{PartFile}
use Rattle.script_lang.specs.declared.play_line.PartLine.{PartLine}
use Rattle.play_files.specs.Asked.{HasAskedFor, read_names, written_names}
use Rattle.play_files.specs.Opening.{AreOpen, AreRead, HaveSinks, IsSinkMet}
use Rattle.play_files.specs.Seen.{file_seen}
use Rattle.play_files.proofs.Asking.{asked_then}
use Rattle.play_files.proofs.Fronts.{sink_refused_sooner, still_then}
use Rattle.play_files.proofs.Openings.{open_of, sinks_free}
use Rattle.play_files.proofs.Results.{err_then, ok_three}
use Rattle.play_files.proofs.opening.open_planned.Goals as goal

pub returns-in_err-fit_to_sources-clause-stopped : goal.returns-in_err-fit_to_sources-clause-stopped
returns-in_err-fit_to_sources-clause-stopped g c =
    let p = err_from_is_err_and c.from_residual.result c.from_residual.ensures.1 in
    rw (p.1, p.2) (inl c.in_err-fit_to_sources.ensures.stopped)

pub open_sinks-requires-clause-free : goal.open_sinks-requires-clause-free
open_sinks-requires-clause-free g c =
    let seen = file_seen g.M.Src.Source g.M.Snk.Sink in
    let old = g.M.Media.outside c.args.media.now in
    let F = c.in_ok-fit_to_sources.ensures.fit in
    let read = subst (λ (ps : List PartLine). AreRead seen old ps (length ps) c.fit_to_sources.new.heads.items c.fit_to_sources.new.files.items) (sym c.parts.ensures) F.read in
    λ _ _ place part name e w. ap (λ (fs : List (Option (PartFile _ _))). slice_get fs place) c.as_mut_slice.ensures.value ∙ sinks_free seen old c.parts.result.now c.fit_to_sources.new.heads.items c.fit_to_sources.new.files.items read place part name e w

pub returns-clause-whole : goal.returns-clause-whole
returns-clause-whole g c =
    let seen = file_seen g.M.Src.Source g.M.Snk.Sink in
    let old = g.M.Media.outside c.args.media.now in
    let mid = g.M.Media.outside c.fit_to_sources.new.media in
    let new = g.M.Media.outside c.open_sinks.new.media in
    let heads = c.fit_to_sources.new.heads.items in
    let before = c.fit_to_sources.new.files.items in
    let plan = c.fit_to_sources.new.plan in
    let F = c.in_ok-fit_to_sources.ensures.fit in
    let size : length c.open_sinks.new.files ≡ vec_len c.fit_to_sources.new.files = c.open_sinks.auto.files ∙ c.as_mut_slice.ensures.len in
    let kept : (with_items c.fit_to_sources.new.files c.open_sinks.new.files).items ≡ c.open_sinks.new.files = with_items_is c.fit_to_sources.new.files c.open_sinks.new.files size in
    ok_three c.open_sinks.result _ _ _ _ c.open_sinks.ensures.still c.open_sinks.ensures.opened c.open_sinks.ensures.asked (λ still opened asked.
    (let have = subst (λ (all : List (Option (PartFile _ _))). HaveSinks seen mid plan.parts plan.frames (length plan.parts) all c.open_sinks.new.files) c.as_mut_slice.ensures.value
    (subst (λ (planned : List ℕ). HaveSinks seen mid plan.parts planned (length plan.parts) c.as_mut_slice.result.now c.open_sinks.new.files) c.frames.ensures
    (subst (λ (ps : List PartLine). HaveSinks seen mid ps c.frames.result.now (length ps) c.as_mut_slice.result.now c.open_sinks.new.files) c.parts.ensures opened)) in
    record {
      fitted = F.fitted;
      valid = F.valid;
      fit = F.fit;
      still = still_then old mid new F.still still;
      opened = subst (λ (after : List (Option (PartFile _ _))). AreOpen seen old plan.parts plan.frames (length plan.parts) heads after) (sym kept)
          (open_of seen old mid plan.parts plan.frames (length plan.parts) heads before c.open_sinks.new.files F.still F.read have);
      asked = asked_then old mid new (read_names plan.parts) (written_names plan.parts) F.asked
          (subst (λ (ps : List PartLine). HasAskedFor mid new (written_names ps)) c.parts.ensures asked);
    }))

pub returns-clause-stopped : goal.returns-clause-stopped
returns-clause-stopped g c =
    let seen = file_seen g.M.Src.Source g.M.Snk.Sink in
    let old = g.M.Media.outside c.args.media.now in
    let mid = g.M.Media.outside c.fit_to_sources.new.media in
    let new = g.M.Media.outside c.open_sinks.new.media in
    let heads = c.fit_to_sources.new.heads.items in
    let before = c.fit_to_sources.new.files.items in
    let plan = c.fit_to_sources.new.plan in
    let F = c.in_ok-fit_to_sources.ensures.fit in
    let size : length c.open_sinks.new.files ≡ vec_len c.fit_to_sources.new.files = c.open_sinks.auto.files ∙ c.as_mut_slice.ensures.len in
    let kept : (with_items c.fit_to_sources.new.files c.open_sinks.new.files).items ≡ c.open_sinks.new.files = with_items_is c.fit_to_sources.new.files c.open_sinks.new.files size in
    err_then c.open_sinks.result _ _ c.open_sinks.ensures.met (λ fault met.
    (let have = subst (λ (all : List (Option (PartFile _ _))). HaveSinks seen mid plan.parts plan.frames met.0 all c.open_sinks.new.files) c.as_mut_slice.ensures.value
    (subst (λ (planned : List ℕ). HaveSinks seen mid plan.parts planned met.0 c.as_mut_slice.result.now c.open_sinks.new.files) c.frames.ensures
    (subst (λ (ps : List PartLine). HaveSinks seen mid ps c.frames.result.now met.0 c.as_mut_slice.result.now c.open_sinks.new.files) c.parts.ensures met.2)) in
    let sink = subst (λ (ps : List PartLine). IsSinkMet mid new ps met.0 fault) c.parts.ensures met.1 in
    inr (record {
      fitted = F.fitted;
      fit = F.fit;
      place = met.0;
      met = record { part = sink.part; there = sink.there; name = sink.name; writes = sink.writes; refused = sink_refused_sooner old mid F.still (sink.part).line sink.name new fault sink.refused };
      opened = subst (λ (after : List (Option (PartFile _ _))). AreOpen seen old plan.parts plan.frames met.0 heads after) (sym kept)
          (open_of seen old mid plan.parts plan.frames met.0 heads before c.open_sinks.new.files F.still F.read have);
      asked = λ n. asked_then old mid new (read_names plan.parts) (written_names (take (met.0 + 1) plan.parts)) F.asked
          (subst (λ (ps : List PartLine). HasAskedFor mid new (written_names (take (met.0 + 1) ps))) c.parts.ensures (met.3 n));
    })))
