use Rattle.std.proofs.Common.{None, ap, refl, sym, ◌∙◌, is_some}
use Rattle.machine_laws.proofs.Finding.{either}
use Rattle.audio_parts.specs.AnyParts.{read_of, written_of}
use Rattle.trace_run.proofs.Backs.{no_fault}
use Rattle.trace_run.proofs.works.run.Goals as goal

pub returns-clause-run : goal.returns-clause-run
returns-clause-run c =
    rw (← c.held.view_is) (record {
      component = c.run.ensures.component;
      announces = c.run.ensures.announces;
      headers = c.run.ensures.same;
      terms = c.run.ensures.terms;
      so_failed = λ e. either c.held.inside.work.announces
          (λ a. rw (c.run.ensures.unstepped a) (e ∙ sym (ap is_some (c.run.ensures.announced a).1)))
          (λ n. c.run.ensures.failed n);
      stepped = c.run.ensures.step;
      told = c.run.ensures.announced;
      still = λ a. rw (c.run.ensures.unstepped a) refl;
    })

pub returns-clause-whole : goal.returns-clause-whole
returns-clause-whole c =
    let work = c.held.inside.work in
    let d = c.run.result in
    no_fault (λ it. 0) (λ it. None) (λ it. it.next) (λ it. 0) (λ it. 0) (read_of work.part) (read_of d.part) (written_of work.part) (written_of d.part) d.fault c.run.ensures.cause
