use Rattle.std.proofs.Common.{ap, sym, subst, refl, ◌∙◌}
use Rattle.part_forms.specs.Kinds.{is_source}
use Rattle.part_forms.specs.Sinking.{writes_of}
use Rattle.il_flow.specs.Layouts.{ports_of}
use Rattle.il_flow.specs.Places.{AreSame, AreWithin, carried_from}
use Rattle.il_flow.specs.Steps.{came_in, over_by, shown}
use Rattle.part_api.specs.Streams.{with_file}
use Rattle.il_flow.proofs.Laid.{all_laid}
use Rattle.il_flow.proofs.Sameness.{all_same, itself, still_within}
use Rattle.il_flow.proofs.Stepped.{IsBegun, comes_back, comes_broken}
use Rattle.il_flow.proofs.running.do_step.Goals as goal

pub returns-in-Some-clause-same : goal.returns-in-Some-clause-same
returns-in-Some-clause-same g c = subst (AreSame c.args.places.now) (sym c.in-Some.ensures.untouched) (itself c.args.places.now)

pub returns-in-Some-clause-step : goal.returns-in-Some-clause-step
returns-in-Some-clause-step g c =
    let t = g.P.Part.terms c.args.part.now in
    let sh = g.P.Part.shape c.args.part.now in
    let p = shown (g.P.Part.left c.args.part.now) (g.P.Part.rest c.args.part.now) (g.P.Part.kept c.args.part.now) (g.P.Part.writing c.args.part.now) in
    let p' = shown (g.P.Part.left c.step_part.new.part) (g.P.Part.rest c.step_part.new.part) (g.P.Part.kept c.step_part.new.part) (g.P.Part.writing c.step_part.new.part) in
    let ready = c.is_by_terms.ensures.ready c.requires.fits in
    let begins : IsBegun t sh c.layout_of-layout.result p c.frames_left-left.result = record {
      lawful = c.requires.lawful;
      fits = record { unfailed = refl; ports = ready.ports; file = ready.file };
      shape = c.is_by_terms.ensures.shape;
      laid = c.layout_of-layout.ensures;
      writing = c.is_by_terms.ensures.writing;
      some = c.frames_left-left.ensures.some;
      left_is = c.frames_left-left.ensures.value;
    } in
    let broken = c.in-Some.ensures.broken in
    let came = came_in t sh c.frames_for-frames.result c.args.places.now in
    comes_broken t sh c.layout_of-layout.result p p' c.frames_left-left.result c.frames_for-frames.result c.in-Some.fault (g.P.Part.writes broken.0 came) c.args.places.now c.step_part.new.places
    begins c.frames_for-frames.ensures.value (c.is_by_terms.ensures.faults c.step_part.new.part c.in-Some.fault c.in-Some.ensures.cause) c.in-Some.ensures.untouched broken.2
    (c.is_by_terms.ensures.writes broken.0 came ∙ ap (λ o. writes_of o (came.input 0)) broken.1)

pub returns-in-None-clause-within : goal.returns-in-None-clause-within
returns-in-None-clause-within g c =
    subst (AreWithin (ports_of (g.P.Part.terms c.args.part.now)) 0) (sym c.in-None.ensures.done.2.headers) (still_within _ (ports_of (g.P.Part.terms c.args.part.now)) 0 c.args.places.now c.requires.within)

pub returns-in-None-clause-same : goal.returns-in-None-clause-same
returns-in-None-clause-same g c =
    subst (AreSame c.args.places.now) (sym c.in-None.ensures.done.2.headers)
    (all_same (g.P.Part.terms c.args.part.now) (g.P.Part.shape c.args.part.now) c.frames_for-frames.result
    (with_file c.in-None.ensures.done.2.piece (came_in (g.P.Part.terms c.args.part.now) (g.P.Part.shape c.args.part.now) c.frames_for-frames.result c.args.places.now))
    c.is_over-over.result 0 c.args.places.now)

pub returns-in-None-clause-step : goal.returns-in-None-clause-step
returns-in-None-clause-step g c =
    let t = g.P.Part.terms c.args.part.now in
    let sh = g.P.Part.shape c.args.part.now in
    let p = shown (g.P.Part.left c.args.part.now) (g.P.Part.rest c.args.part.now) (g.P.Part.kept c.args.part.now) (g.P.Part.writing c.args.part.now) in
    let p' = shown (g.P.Part.left c.step_part.new.part) (g.P.Part.rest c.step_part.new.part) (g.P.Part.kept c.step_part.new.part) (g.P.Part.writing c.step_part.new.part) in
    let ready = c.is_by_terms.ensures.ready c.requires.fits in
    let begins : IsBegun t sh c.layout_of-layout.result p c.frames_left-left.result = record {
      lawful = c.requires.lawful;
      fits = record { unfailed = refl; ports = ready.ports; file = ready.file };
      shape = c.is_by_terms.ensures.shape;
      laid = c.layout_of-layout.ensures;
      writing = c.is_by_terms.ensures.writing;
      some = c.frames_left-left.ensures.some;
      left_is = c.frames_left-left.ensures.value;
    } in
    let did = c.in-None.ensures.done in
    let came = came_in t sh c.frames_for-frames.result c.args.places.now in
    comes_back t sh c.layout_of-layout.result p p' c.frames_left-left.result c.frames_for-frames.result c.is_over-over.result (g.P.Part.writes did.0 came) (g.P.Part.carries c.step_part.new.part) c.args.places.now c.step_part.new.places
    begins c.frames_for-frames.ensures.value
    (c.is_over-over.ensures t (all_laid c.layout_of-layout.result t 0 c.args.places.now c.layout_of-layout.ensures.terms) ∙ ap (λ n. over_by c.frames_left-left.result t n (carried_from 0 c.args.places.now)) c.from.ensures)
    did.2
    (λ incoming source carried. c.is_by_terms-in-None.ensures.reads incoming (ap (λ x. is_source x.kind) c.in-None.ensures.terms ∙ source) carried ∙ ap (λ z. z.output) c.in-None.ensures.sizes)
    (c.is_by_terms.ensures.writes did.0 came ∙ ap (λ o. writes_of o (came.input 0)) did.1)
