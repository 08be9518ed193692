use Rattle.std.proofs.Common.{◌≡◌, ℕ, length, arith, List, Option, Some, true, refl, slice_get, sym, ◌∙◌, ap}
use Rattle.std.specs.Option.{is_some}
use Rattle.std.proofs.lemmas.Option.{slice_get_read}
use Rattle.script_lang.specs.declared.play_line.PartLine.{PartLine}
use Rattle.play_result_laws.specs.Files.{written_by}
use Rattle.play_course.proofs.summary.summary_of.Goals as goal

some_of : (o : Option (List ℕ)) → is_some o ≡ true → (name : List ℕ) × (o ≡ Some name)
some_of (Some name) e = (name, refl)
some_of Option.None e = absurd cc

pub line_of-requires-clause-sink : goal.line_of-requires-clause-sink
line_of-requires-clause-sink c =
    let there : slice_get c.parts.result.now c.loop-place.place ≡ Some c.index-parts-place.result = slice_get_read c.parts.result.now _ c.loop-place.place c.index-parts-place.result refl (let a = ap length c.parts.ensures in let b = ap length c.parts-place-end.ensures in let t = c.loop-place-test.true in omega arith) c.index-parts-place.is in
    let n = some_of (written_by c.index-parts-place.result.form) (ap (λ (p : PartLine). is_some (written_by p.form)) c.index-parts-place.is ∙ (sym c.is_sink.ensures ∙ c.if-is_sink.true)) in
    (n.0, (c.index-parts-place.result, ap (λ (ps : List PartLine). slice_get ps c.loop-place.place) (sym c.parts.ensures) ∙ there, n.1))
