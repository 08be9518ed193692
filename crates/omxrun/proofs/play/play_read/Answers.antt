use Rattle.std.proofs.Common.{ℕ, List, length, map, Ok, Err, refl, ◌∙◌, ap, subst, arith}
use Rattle.std.proofs.lemmas.List.{length-map}
use Rattle.omx_types.specs.declared.fault.Status.TheVariants as Statuses
use Rattle.script_lang.specs.declared.play_line.PartLine.{PartLine}
use Rattle.play_result_laws.specs.Summaries.{summary_text}
use Rattle.play_course.specs.Settling.{parts_of}
use Rattle.play_course.specs.Sums.{line_value}
use Rattle.omxrun.specs.Reports.{IsPrinted}
use Rattle.omxrun.proofs.Absences.{undone-told}
use Rattle.omxrun.proofs.Outcomes.{sinks-few}
use Rattle.omxrun.proofs.play.play_read.Goals as goal

pub text_of_play-text-requires : goal.text_of_play-text-requires
text_of_play-text-requires g c =
    let few = sinks-few c.args.script.now c.args.log.now (g.M.Media.outside c.args.media.now) (g.M.Media.outside c.play_by.new.media) c.in-Ok.summary c.in-Ok.ensures.done in
    let long = ap length c.sinks.ensures in
    let same = length-map c.sinks.result.now line_value in
    omega (arith, few, long, same)

pub returns-in-Ok-clause-played : goal.returns-in-Ok-clause-played
returns-in-Ok-clause-played g c =
    let script = c.args.script.now in
    let summary = c.in-Ok.summary in
    let S = c.in-Ok.ensures.stand in
    let text_is = c.text_of_play-text.ensures ∙ ap (λ (ps : List PartLine). summary_text ps (map line_value c.sinks.result.now)) c.parts_of.ensures ∙ ap (summary_text (parts_of script)) c.sinks.ensures in (
      Ok (summary_text (parts_of script) summary),
      record { done = (summary, c.in-Ok.ensures.done, refl); unabsent = c.in-Ok.ensures.absences; stand = record { reads = S.reads; writes = S.writes }; undone = tt },
      subst (λ (text : List ℕ). IsPrinted Statuses.Ok text (g.O.Sink.told c.args.out.now) (g.O.Sink.told c.print.new.out) (g.O.Sink.faults c.args.out.now) (g.O.Sink.faults c.print.new.out) c.print.result) text_is c.print.ensures.printed,
    )

pub returns-in-Err-clause-played : goal.returns-in-Err-clause-played
returns-in-Err-clause-played g c =
    let told = undone-told c.args.script.now c.args.log.now (g.M.Media.outside c.args.media.now) (g.M.Media.outside c.play_by.new.media) c.in-Err.undone c.in-Err.ensures.undone in
    (Err c.in-Err.undone, record { done = tt; unabsent = told; stand = tt; undone = c.in-Err.ensures.undone }, c.report.ensures.reported)
