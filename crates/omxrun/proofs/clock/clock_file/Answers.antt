use Rattle.std.proofs.Common.{ℕ, List, Err, refl, subst, sym}
use Rattle.omx_types.specs.declared.fault.Fault.{Fault}
use Rattle.omxrun.specs.Clocked.{HasClockReason}
use Rattle.omxrun.specs.Texts.{fault_line}
use Rattle.omxrun.proofs.Absences.{script-told}
use Rattle.omxrun.proofs.Clocks.{HasRunTo, clocked-of, unread-clock}
use Rattle.omxrun.proofs.clock.clock_file.Goals as goal

pub returns-in-Ok-clause-clocked : goal.returns-in-Ok-clause-clocked
returns-in-Ok-clause-clocked g c =
    clocked-of c.args.name.now c.in-Ok.bytes.items (g.M.Media.outside c.args.media.now) (g.M.Media.outside c.read_whole.new.media) (g.O.Sink.told c.args.out.now) (g.O.Sink.told c.clock_script.new.out) (g.O.Sink.faults c.args.out.now) (g.O.Sink.faults c.clock_script.new.out) c.clock_script.result
    c.in-Ok.ensures.bytes c.read_whole.ensures.files (record { reads = c.in-Ok.ensures.read_stays (λ same. cc); writes = c.read_whole.ensures.write_faults }) (c.in-Ok.ensures.absences_stay (λ same. cc))
    (subst (λ (bytes : List ℕ). HasRunTo bytes (g.O.Sink.told c.args.out.now) (g.O.Sink.told c.clock_script.new.out) (g.O.Sink.faults c.args.out.now) (g.O.Sink.faults c.clock_script.new.out) c.clock_script.result) c.deref.ensures.value c.clock_script.ensures.clocked)

pub returns-in-Err-clause-clocked : goal.returns-in-Err-clause-clocked
returns-in-Err-clause-clocked g c =
    let old = g.M.Media.outside c.args.media.now in
    let new = g.M.Media.outside c.read_whole.new.media in
    let reason = subst (λ (fault : Fault). HasClockReason c.args.name.now old new fault) (sym c.unread_fault.ensures)
    (unread-clock c.args.name.now old new c.in-Err.unread c.in-Err.ensures.reason c.in-Err.ensures.there
    (λ other. c.in-Err.ensures.read_stays (λ same. other (cc))) c.read_whole.ensures.write_faults) in
    let told = script-told old new c.in-Err.unread c.unread_fault.result c.unread_fault.ensures (λ other. c.in-Err.ensures.absences_stay (λ same. other (cc))) in
    (Err c.unread_fault.result, fault_line c.unread_fault.result, record { kept = c.read_whole.ensures.files; unabsent = told; is = (reason, refl); stand = tt }, c.report.ensures.reported)
