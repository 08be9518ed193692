use Rattle.std.proofs.Common.{◌≡◌, ◌∙◌, ap, sym, true, false}
use Rattle.outside_io.specs.Fails.{next_fails, refuses, fails_of}
use Rattle.outside_io.specs.MemoryFiles.{memory_plans}
use Rattle.outside_io.specs.declared.fails.FailKind.TheVariants.{AbsentSink}
use Rattle.outside_io.proofs.Failures.{refuses-next}
use Rattle.outside_io.proofs.memory_media.MemoryMediaMedia.sink.Goals as goal

pub returns-then-absent-clause-absent_name : goal.returns-then-absent-clause-absent_name
returns-then-absent-clause-absent_name c = λ is.
    let e : refuses (fails_of (memory_plans c.args.self.now)) c.args.name.now ≡ true = refuses-next c.args.name.now (memory_plans c.args.self.now) (ap (next_fails AbsentSink c.args.name.now) (sym c.deref_mut.ensures.value) ∙ sym c.call-absent.ensures.failing ∙ c.if-absent.true) in
    e

pub returns-then-absent-clause-absences : goal.returns-then-absent-clause-absences
returns-then-absent-clause-absences c = λ is.
    let e : refuses (fails_of (memory_plans c.args.self.now)) c.args.name.now ≡ true = refuses-next c.args.name.now (memory_plans c.args.self.now) (ap (next_fails AbsentSink c.args.name.now) (sym c.deref_mut.ensures.value) ∙ sym c.call-absent.ensures.failing ∙ c.if-absent.true) in
    let k : true ≡ false = sym e ∙ is in cc
