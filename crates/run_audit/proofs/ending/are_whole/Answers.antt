use Rattle.std.proofs.Common.{◌≡◌, ℕ, Option, Some, slice_get, inl, inr, refl, sym, ◌∙◌, ap, subst, arith}
use Rattle.std.proofs.lemmas.Bool.{cases_lt}
use Rattle.std.proofs.lemmas.Option.{slice_get_read, slice_get_within}
use Rattle.audio_parts.specs.declared.part_file.PartFile.{PartFile}
use Rattle.audio_parts.specs.declared.part_file.PartFile.TheVariants as files
use Rattle.compared_files.specs.Comparing.{ComparingValue}
use Rattle.run_audit.specs.Ending.{GivesAll, IsGiven}
use Rattle.run_audit.proofs.Came.{ungiven_at}
use Rattle.run_audit.proofs.ending.are_whole.Goals as goal

pub returns-then-not-is_given-clause-no : goal.returns-then-not-is_given-clause-no
returns-then-not-is_given-clause-no g c = λ e.
    ungiven_at g.S.Source.told c.args.files.now c.loop-file.file-index c.file-item.result
    (slice_get_read c.args.files.now _ c.loop-file.file-index c.file-item.result refl c.loop-file-test.true c.file-item.is) (c.if-not-is_given.ensures.no refl)

pub returns-clause-yes : goal.returns-clause-yes
returns-clause-yes g c = λ e place snk C.
    (let b = slice_get_within c.args.files.now place (Some (files.To snk C.0)) C.1 in
    let f = c.loop-file-test.false in
    (c.loop-file.invariant place (Some (files.To snk C.0)) (omega (arith, b, f)) C.1).0)

pub returns-clause-gives : goal.returns-clause-gives
returns-clause-gives g c = λ e place file there.
    (let b = slice_get_within c.args.files.now place file there in
    let f = c.loop-file-test.false in
    (c.loop-file.invariant place file (omega (arith, b, f)) there).1)

pub loop-file-preserved : goal.loop-file-preserved
loop-file-preserved g c = λ place file low there.
    elim (cases_lt place c.loop-file.file-index) [
      | inl lt ↦ c.loop-file.invariant place file lt there
      | inr le ↦
          let at : place ≡ c.loop-file.file-index = omega (arith, low, le) in
          let here = slice_get_read c.args.files.now _ c.loop-file.file-index c.file-item.result refl c.loop-file-test.true c.file-item.is in
          let e : Some c.file-item.result ≡ Some file = sym here ∙ (ap (λ (k : ℕ). slice_get c.args.files.now k) (sym at) ∙ there) in
          let same : c.file-item.result ≡ file = cc in
          subst (λ (f : Option (PartFile g.row.S.Denot (ComparingValue g.row.S.Denot))). IsGiven g.S.Source.told f × GivesAll g.S.Source.told g.S.Source.ends f) same
          (c.if-not-is_given.ensures.yes refl, c.if-not-is_given.ensures.gives refl)
    ]
