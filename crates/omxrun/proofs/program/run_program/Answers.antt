use Rattle.std.proofs.Common.{◌≡◌, ◌⊎◌, inl, inr, List, Err, drop, map, string_bytes, refl, subst, ◌∙◌}
use Rattle.std.specs.Vec.Iter.{into_iter_items}
use Rattle.omx_types.specs.declared.fault.Fault.{Fault}
use Rattle.omx_types.specs.declared.fault.Fault.TheVariants.{OutOfMemory, Usage}
use Rattle.omxrun.specs.Ended.{IsAnswered}
use Rattle.omxrun.specs.Reports.{IsReported}
use Rattle.omxrun.proofs.Endings.{if-err, if-ok}
use Rattle.omxrun.proofs.program.run_program.Goals as goal

pub returns-in-Ok-clause-ended : goal.returns-in-Ok-clause-ended
returns-in-Ok-clause-ended g c = if-ok c.args.words (λ words. c.in-Ok.words.items ≡ drop 1 (into_iter_items words)) _ c.in-Ok.ensures.behind (λ words are. (
  c.run_words.result,
  c.ended.ensures,
  inl (subst (λ (x : List _). IsAnswered (map string_bytes x) (g.M.Media.outside c.args.media.now) (g.M.Media.outside c.run_words.new.media) (g.O.Sink.told c.args.out.now) (g.O.Sink.told c.run_words.new.out) (g.O.Sink.faults c.args.out.now) (g.O.Sink.faults c.run_words.new.out) c.run_words.result)
      (c.deref.ensures.value ∙ are) (record { usage = c.run_words.ensures.usage; run = c.run_words.ensures.run })),
))

pub returns-in-Ok-clause-unread : goal.returns-in-Ok-clause-unread
returns-in-Ok-clause-unread g c = if-err c.args.words (λ error. ⊥) _ c.in-Ok.ensures.none (λ error no. absurd no)

pub returns-in-Err-clause-ended : goal.returns-in-Err-clause-ended
returns-in-Err-clause-ended g c = if-ok c.args.words (λ words. c.in-Err.fault ≡ OutOfMemory) _ c.in-Err.ensures.memory (λ words is. (
  c.report.result,
  c.ended-in-Err.ensures,
  inr (refl, subst (λ (fault : Fault). IsReported (Err fault) (g.O.Sink.told c.args.out.now) (g.O.Sink.told c.report.new.out) (g.O.Sink.faults c.args.out.now) (g.O.Sink.faults c.report.new.out) c.report.result) is c.report.ensures.reported),
))

pub returns-in-Err-clause-unread : goal.returns-in-Err-clause-unread
returns-in-Err-clause-unread g c = if-err c.args.words (λ error. (c.in-Err.fault ≡ Usage) ⊎ (c.in-Err.fault ≡ OutOfMemory)) _ c.in-Err.ensures.unread (λ error is. (
  c.report.result,
  c.ended-in-Err.ensures,
  elim is [
    | inl usage ↦ inl (refl, subst (λ (fault : Fault). IsReported (Err fault) (g.O.Sink.told c.args.out.now) (g.O.Sink.told c.report.new.out) (g.O.Sink.faults c.args.out.now) (g.O.Sink.faults c.report.new.out) c.report.result) usage c.report.ensures.reported)
    | inr memory ↦ inr (refl, subst (λ (fault : Fault). IsReported (Err fault) (g.O.Sink.told c.args.out.now) (g.O.Sink.told c.report.new.out) (g.O.Sink.faults c.args.out.now) (g.O.Sink.faults c.report.new.out) c.report.result) memory c.report.ensures.reported)
  ],
))
