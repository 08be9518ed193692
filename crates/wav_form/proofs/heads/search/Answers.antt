use Rattle.std.proofs.Common.{rules, ◌∙◌, ◌+◌, ◌<◌, ◌≤◌, ℕ, length, None, Result, Err, Option, false, inl, ◌⊎◌, sym, subst, arith, codes}
use Rattle.std.proofs.lemmas.Result.{err_from_is_err_and}
use Rattle.omx_types.specs.declared.fault.WavFault.{WavFault}
use Rattle.wav_form.specs.declared.heads.WavHead.{WavHead}
use Rattle.wav_form.specs.Chunks.{AreChunks, end_of}
use Rattle.wav_form.specs.Search.{AnswersAs, answer_after, view}
use Rattle.outside_io.specs.Stops.{GaveNothing}
use Rattle.wav_form.specs.Passing.{IsPassedOver}
use Rattle.wav_form.specs.Stops.{IfShort}
use Rattle.outside_io.proofs.Asked.{asks-none, asks-then}
use Rattle.wav_form.proofs.AskedFor.{first_named-other, asks_before, asks_behind, asks_found}
use Rattle.wav_form.proofs.ChunkSearch.{StartsFrom, start_behind, answer_after-goes_on, answer_after-samples, answer_after-end, AnswersAs-samples, AnswersAs-end, AnswersAs-stop, Reached, Reached-behind, IfShort-gave, IfShort-reached, passed_behind, passed_from-known, answer_after-faults}
use Rattle.wav_form.proofs.heads.search.Goals as goal

pub returns-in_err-chunk-clause-answer : goal.returns-in_err-chunk-clause-answer
returns-in_err-chunk-clause-answer g c = λ x is chunks are.
    let p = err_from_is_err_and c.from_residual.result c.from_residual.ensures.1 in
    let (rest, left, same, passes, samples_are) = c.loop-offset.invariant.rest x is chunks are in
    let from = subst (StartsFrom (c.loop-offset.offset + 8)) (sym same) (start_behind x c.loop-offset.known c.loop-offset.offset rest left) in
    rw (p.1, p.2) (AnswersAs-stop _ _ c.loop-offset.offset (c.loop-offset.offset + 8) c.in_err-chunk.field-0.0 (answer_after x None chunks) c.in_err-chunk.ensures.stop from)

pub returns-in_err-chunk-clause-short : goal.returns-in_err-chunk-clause-short
returns-in_err-chunk-clause-short g c =
    let p = err_from_is_err_and c.from_residual.result c.from_residual.ensures.1 in
    let f = c.in_err-chunk.field-0.0 in
    let offset = c.loop-offset.offset in
    let gave = IfShort-gave _ _ offset (offset + 8) f c.in_err-chunk.ensures.stop in
    rw (p.1, p.2) (IfShort-reached _ _ _ offset f c.loop-offset.invariant.reached
    (subst (λ (n : ℕ). IfShort f (GaveNothing n (g.S.Source.ends c.args.src.now) offset)) c.loop-offset.invariant.size
    (subst (λ (e : Option ℕ). IfShort f (GaveNothing (g.S.Source.size c.loop-offset.src) e offset)) c.loop-offset.invariant.ends gave)))

pub returns-in_err-known-clause-short : goal.returns-in_err-known-clause-short
returns-in_err-known-clause-short g c =
    let p = err_from_is_err_and c.from_residual-in_err-known.result c.from_residual-in_err-known.ensures.1 in
    let f = c.in_err-known.field-0.0 in
    let content = c.in_ok-chunk.chunk.content in
    let size = c.in_ok-chunk.ensures.keeps_source.size ∙ c.loop-offset.invariant.size in
    let ends = c.in_ok-chunk.ensures.keeps_source.ends ∙ c.loop-offset.invariant.ends in
    let reached : Reached (g.S.Source.told c.args.src.now) (g.S.Source.ends c.args.src.now) content =
    λ end is bytes _ chunks _. inl (omega (arith, c.in_ok-chunk.ensures.content, c.in_ok-chunk.ensures.reached end (c.loop-offset.invariant.ends ∙ is))) in
    rw (p.1, p.2) (IfShort-reached _ _ _ content f reached
    (subst (λ (n : ℕ). IfShort f (GaveNothing n (g.S.Source.ends c.args.src.now) content)) size
    (subst (λ (e : Option ℕ). IfShort f (GaveNothing (g.S.Source.size c.read_chunk.new.src) e content)) ends c.in_err-known.ensures.short)))

pub returns-then-is_samples-clause-answer : goal.returns-then-is_samples-clause-answer
returns-then-is_samples-clause-answer g c = λ x is chunks are.
    let (rest, left, same, passes, samples_are) = c.loop-offset.invariant.rest x is chunks are in
    let room : c.loop-offset.offset + 8 ≤ length x = omega (arith, c.requires.whole x is) in
    let chunk = c.in_ok-chunk.ensures.chunk x (c.loop-offset.invariant.told ∙ is) in
    let result = c.head_of.ensures.answer x (c.requires.whole x is) in
    subst (λ (r : Result WavHead WavFault). AnswersAs r (answer_after x None chunks)) (sym result)
    (AnswersAs-samples x c.loop-offset.known (view c.in_ok-chunk.chunk) (answer_after x None chunks)
    (same ∙ answer_after-samples x c.loop-offset.known c.loop-offset.offset (view c.in_ok-chunk.chunk) rest left room chunk (sym c.is_samples.ensures ∙ c.if-is_samples.true)))

pub returns-in_err-known-clause-answer : goal.returns-in_err-known-clause-answer
returns-in_err-known-clause-answer g c = λ x is chunks are.
    let p = err_from_is_err_and c.from_residual-in_err-known.result c.from_residual-in_err-known.ensures.1 in
    let (rest, left, same, passes, samples_are) = c.loop-offset.invariant.rest x is chunks are in
    let room : c.loop-offset.offset + 8 ≤ length x = omega (arith, c.requires.whole x is) in
    let chunk = c.in_ok-chunk.ensures.chunk x (c.loop-offset.invariant.told ∙ is) in
    rw (p.1, p.2) (subst (AnswersAs (Err c.in_err-known.field-0.0)) (sym same)
    (answer_after-faults x c.loop-offset.known c.loop-offset.offset (view c.in_ok-chunk.chunk) rest c.in_err-known.field-0.0 left room chunk (sym c.is_samples.ensures ∙ c.if-is_samples.false) (c.in_err-known.ensures.answer x (c.in_ok-chunk.ensures.keeps_source.told ∙ c.loop-offset.invariant.told ∙ is)) c.in_err-known.ensures.inside))

pub loop-offset-preserved : goal.loop-offset-preserved
loop-offset-preserved g c = record {
  small = omega (arith, c.end-offset.ensures.near, c.in_ok-chunk.ensures.content);
  known = search rules;
  told = search rules;
  src_name = search rules;
  ends = search rules;
  size = search rules;
  faults = search rules;
  far = omega (arith, c.end-offset.ensures.value, c.in_ok-chunk.ensures.content, c.loop-offset.invariant.far);
  asks =
      let read = asks-then _ _ _ c.loop-offset.offset (c.loop-offset.offset + 8) c.end-offset.result c.loop-offset.invariant.asks c.in_ok-chunk.ensures.asks (omega (arith, c.end-offset.ensures.value, c.in_ok-chunk.ensures.content)) (omega (arith, c.end-offset.ensures.value, c.in_ok-chunk.ensures.content)) in
      asks-then _ _ _ c.end-offset.result (end_of (view c.in_ok-chunk.chunk)) c.end-offset.result read c.in_ok-known.ensures.asks (omega arith) (omega (arith, c.end-offset.ensures.value));
  rest = λ x is chunks are.
      let (rest, left, same, passes, samples_are) = c.loop-offset.invariant.rest x is chunks are in
      let room : c.loop-offset.offset + 8 ≤ length x = omega (arith, c.requires.whole x is) in
      let chunk = c.in_ok-chunk.ensures.chunk x (c.loop-offset.invariant.told ∙ is) in
      let next = answer_after-goes_on x c.loop-offset.known c.in_ok-known.known c.loop-offset.offset (view c.in_ok-chunk.chunk) rest left room chunk (sym c.is_samples.ensures ∙ c.if-is_samples.false) (c.in_ok-known.ensures.answer x (c.in_ok-chunk.ensures.keeps_source.told ∙ c.loop-offset.invariant.told ∙ is)) in (
        next.0,
        subst (λ (n : ℕ). AreChunks x n next.0) (sym c.end-offset.ensures.value) next.1,
        same ∙ next.2,
        λ p n passed. passes p n (passed_behind c.loop-offset.known c.in_ok-known.known (view c.in_ok-chunk.chunk) rest next.0 p n next.3 (sym c.is_samples.ensures ∙ c.if-is_samples.false) c.in_ok-known.ensures.known passed),
        samples_are ∙ first_named-other (codes "data") (view c.in_ok-chunk.chunk) rest next.0 next.3 (sym c.is_samples.ensures ∙ c.if-is_samples.false),
      );
  reached = λ end ends x is chunks are.
      let (rest, left, same, passes, samples_are) = c.loop-offset.invariant.rest x is chunks are in
      let room : c.loop-offset.offset + 8 ≤ length x = omega (arith, c.requires.whole x is) in
      let chunk = c.in_ok-chunk.ensures.chunk x (c.loop-offset.invariant.told ∙ is) in
      let content : c.in_ok-chunk.chunk.content ≤ end = omega (arith, c.in_ok-chunk.ensures.content, c.in_ok-chunk.ensures.reached end (c.loop-offset.invariant.ends ∙ ends)) in
      let fields = c.in_ok-known.ensures.reached end (c.in_ok-chunk.ensures.keeps_source.ends ∙ c.loop-offset.invariant.ends ∙ ends) in
      subst (λ (n : ℕ). (n ≤ end) ⊎ IsPassedOver false chunks end n) (sym c.end-offset.ensures.value)
      (Reached-behind x c.loop-offset.known c.loop-offset.offset end (view c.in_ok-chunk.chunk) chunks rest left room chunk (sym c.is_samples.ensures ∙ c.if-is_samples.false) passes
      (passed_from-known c.loop-offset.known (view c.in_ok-chunk.chunk) end content fields));
}

pub returns-clause-answer : goal.returns-clause-answer
returns-clause-answer g c = λ x is chunks are.
    let (rest, left, same, passes, samples_are) = c.loop-offset.invariant.rest x is chunks are in
    let short : length x < c.loop-offset.offset + 8 = omega (arith, c.requires.whole x is) in
    subst (λ (f : WavFault). AnswersAs (Err f) (answer_after x None chunks)) (sym c.fault_at_end.ensures)
    (AnswersAs-end c.loop-offset.known (answer_after x None chunks) (same ∙ answer_after-end x c.loop-offset.known c.loop-offset.offset rest left short))

-- ---- how far the source was asked

pub returns-in_err-chunk-clause-asks_no_samples : goal.returns-in_err-chunk-clause-asks_no_samples
returns-in_err-chunk-clause-asks_no_samples g c = λ x is chunks samples are found.
    let (rest, left, same, passes, samples_are) = c.loop-offset.invariant.rest x is chunks are in
    asks_before x c.loop-offset.offset chunks rest samples _ _ _ left samples_are found c.loop-offset.invariant.asks c.read_chunk.ensures.asks

pub returns-then-is_samples-clause-asks_no_samples : goal.returns-then-is_samples-clause-asks_no_samples
returns-then-is_samples-clause-asks_no_samples g c = λ x is chunks samples are found.
    let (rest, left, same, passes, samples_are) = c.loop-offset.invariant.rest x is chunks are in
    asks_before x c.loop-offset.offset chunks rest samples _ _ _ left samples_are found c.loop-offset.invariant.asks c.in_ok-chunk.ensures.asks

pub returns-in_err-known-clause-asks_no_samples : goal.returns-in_err-known-clause-asks_no_samples
returns-in_err-known-clause-asks_no_samples g c = λ x is chunks samples are found.
    let (rest, left, same, passes, samples_are) = c.loop-offset.invariant.rest x is chunks are in
    let room : c.loop-offset.offset + 8 ≤ length x = omega (arith, c.requires.whole x is) in
    let chunk = c.in_ok-chunk.ensures.chunk x (c.loop-offset.invariant.told ∙ is) in
    asks_behind x c.loop-offset.offset chunks rest (view c.in_ok-chunk.chunk) samples _ _ _ _ left samples_are found room chunk (sym c.is_samples.ensures ∙ c.if-is_samples.false)
    c.loop-offset.invariant.asks c.in_ok-chunk.ensures.asks c.known_format.ensures.asks

pub returns-clause-asks_no_samples : goal.returns-clause-asks_no_samples
returns-clause-asks_no_samples g c = λ x is chunks samples are found.
    let (rest, left, same, passes, samples_are) = c.loop-offset.invariant.rest x is chunks are in
    asks_before x c.loop-offset.offset chunks rest samples _ _ _ left samples_are found c.loop-offset.invariant.asks (asks-none _ _)

pub returns-then-is_samples-clause-asks : goal.returns-then-is_samples-clause-asks
returns-then-is_samples-clause-asks g c =
    asks_found _ _ _ c.loop-offset.offset c.in_ok-chunk.chunk.content c.head_of.result c.loop-offset.invariant.asks c.in_ok-chunk.ensures.asks c.in_ok-chunk.ensures.content c.head_of.ensures.start
