use Rattle.std.proofs.Common.{inl, inr, refl, Err}
use Rattle.outside_io.specs.Files.{CountsStand}
use Rattle.omxrun.specs.Texts.{fault_line}
use Rattle.omxrun.proofs.Absences.{none-counted}
use Rattle.omxrun.proofs.Causes.{on_ok}
use Rattle.omxrun.proofs.trace.trace_file.Goals as goal

pub returns-in-Err-clause-traced : goal.returns-in-Err-clause-traced
returns-in-Err-clause-traced g c =
    (Err c.in-Err.fault, fault_line c.in-Err.fault, record { kept = c.script_in.ensures.kept; unabsent = c.in-Err.ensures.unabsent; is = inr (c.in-Err.fault, c.in-Err.ensures.reason, refl, refl); stand = tt }, c.report.ensures.reported)

pub returns-in-Ok-clause-traced : goal.returns-in-Ok-clause-traced
returns-in-Ok-clause-traced g c =
    let (outcome, text, traces, printed) = c.trace_script.ensures.traced in
    let stand = on_ok outcome (CountsStand (g.M.Media.outside c.args.media.now) (g.M.Media.outside c.script_in.new.media)) c.in-Ok.ensures.stand in
    let unabsent = none-counted (g.M.Media.outside c.args.media.now) (g.M.Media.outside c.script_in.new.media) outcome c.in-Ok.ensures.unabsent in
    (outcome, text, record { kept = c.script_in.ensures.kept; unabsent = unabsent; is = inl (c.in-Ok.script, c.in-Ok.ensures.script, traces, c.trace_script.ensures.one); stand = stand }, printed)
