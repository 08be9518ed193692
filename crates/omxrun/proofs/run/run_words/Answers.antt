use Rattle.std.proofs.Common.{map, string_bytes, refl}
use Rattle.play_files.proofs.Closings.{same}
use Rattle.omxrun.specs.Commands.{HasRun}
use Rattle.omxrun.specs.Words.{AreWordsOf, Asked, to_trace, to_play, to_make, to_clock, to_pack, to_unpack, to_audit, asked_by}
use Rattle.omxrun.proofs.AuditAsked.{asked_audit}
use Rattle.omxrun.proofs.AuditCut.{cut_audit}
use Rattle.omxrun.proofs.AuditEnds.{complete_audit, decided, left_by_play}
use Rattle.omxrun.proofs.Clocks.{complete_clock, unclocked}
use Rattle.omxrun.proofs.Commands.{run-asked}
use Rattle.omxrun.proofs.Makes.{complete_make}
use Rattle.omxrun.proofs.PlayEnds.{complete, faulty, misfitted, unplanned, unread}
use Rattle.omxrun.proofs.TurnEnds.{complete_pack, complete_unpack}
use Rattle.omxrun.proofs.Traces.{complete_trace, untraced}
use Rattle.omxrun.proofs.run.run_words.Goals as goal

-- words that are none of the forms
pub returns-in-None : goal.returns-in-None
returns-in-None g c =
    let never : (asked : Asked) → AreWordsOf (map string_bytes c.args.words.now) asked → ⊥ = c.in-None.ensures.none in
    record {
      goes_on = same (g.M.Media.outside c.args.media.now);
      later = c.report.ensures.later;
      stopped = c.report.ensures.stopped;
      usage = λ none. (refl, c.report.ensures.reported);
      run = λ asked words. absurd (never asked words);
      trace = λ script words. absurd (never (to_trace script) words);
      play = λ script workers log words. absurd (never (to_play script workers log) words);
      make = λ seed frames folder words. absurd (never (to_make seed frames folder) words);
      clock = λ script words. absurd (never (to_clock script) words);
      pack = λ input output words. absurd (never (to_pack input output) words);
      unpack = λ input output words. absurd (never (to_unpack input output) words);
      audit = λ script log words. absurd (never (to_audit script log) words);
      untraced = λ script line why words none has. absurd (never (to_trace script) words);
      complete_trace = λ script words none can. absurd (never (to_trace script) words);
      unread = λ script workers log line why words none has. absurd (never (to_play script workers log) words);
      unplanned = λ script workers log why words none has. absurd (never (to_play script workers log) words);
      faulty = λ script workers log line fault words none has. absurd (never (to_play script workers log) words);
      misfitted = λ script workers log why words none has. absurd (never (to_play script workers log) words);
      complete = λ script workers log words none can. absurd (never (to_play script workers log) words);
      complete_make = λ seed frames folder words none can. absurd (never (to_make seed frames folder) words);
      unclocked = λ script line why words none has. absurd (never (to_clock script) words);
      complete_clock = λ script words none can. absurd (never (to_clock script) words);
      complete_pack = λ input output answer words none can. absurd (never (to_pack input output) words);
      complete_unpack = λ input output answer words none can. absurd (never (to_unpack input output) words);
      complete_audit = λ script log words none can. absurd (never (to_audit script log) words);
      decided = λ script log verdict words none can is. absurd (never (to_audit script log) words);
      left_by_play = λ script log words none can left. absurd (never (to_audit script log) words);
      asked_audit = λ script log fault words none asks. absurd (never (to_audit script log) words);
      cut_audit = λ script log acts words none cut yes. absurd (never (to_audit script log) words);
    }

-- a command
pub returns-in-Some : goal.returns-in-Some
returns-in-Some g c =
    let old = g.M.Media.outside c.args.media.now in
    let new = g.M.Media.outside c.run_command.new.media in
    let told = g.O.Sink.told c.args.out.now in
    let told_new = g.O.Sink.told c.run_command.new.out in
    let before = g.O.Sink.faults c.args.out.now in
    let now = g.O.Sink.faults c.run_command.new.out in
    let status = c.run_command.result in
    let ran : (asked : Asked) → AreWordsOf (map string_bytes c.args.words.now) asked → HasRun asked old new told told_new before now status =
    λ asked words. run-asked (map string_bytes c.args.words.now) asked old new told told_new before now status (asked_by c.in-Some.command) c.in-Some.ensures.some c.run_command.ensures.run words in
    let one_play = c.one_play.ensures.same in
    let one_answer = c.one_answer.ensures.same in
    let plans = c.law_of_plans.ensures in
    record {
      goes_on = c.run_command.ensures.goes_on;
      later = c.run_command.ensures.later;
      stopped = c.run_command.ensures.stopped;
      usage = λ none. absurd (none (asked_by c.in-Some.command) c.in-Some.ensures.some);
      run = ran;
      trace = λ script words. ran (to_trace script) words;
      play = λ script workers log words. ran (to_play script workers log) words;
      make = λ seed frames folder words. ran (to_make seed frames folder) words;
      clock = λ script words. ran (to_clock script) words;
      pack = λ input output words. ran (to_pack input output) words;
      unpack = λ input output words. ran (to_unpack input output) words;
      audit = λ script log words. ran (to_audit script log) words;
      untraced = λ script line why words none has. untraced script old new told told_new before now line why status c.one_outcome.ensures.same (ran (to_trace script) words) none has;
      complete_trace = λ script words none can. complete_trace script old new told told_new before now status c.one_outcome.ensures.same (ran (to_trace script) words) none can;
      unread = λ script workers log line why words none has.
          (let (outcome, played, is) = ran (to_play script workers log) words in
          unread one_play script log old new before now told told_new line why outcome status played is none has);
      unplanned = λ script workers log why words none has.
          (let (outcome, played, is) = ran (to_play script workers log) words in
          unplanned one_play plans.planned plans.first script log old new before now told told_new why outcome status played is none has);
      faulty = λ script workers log line fault words none has.
          (let (outcome, played, is) = ran (to_play script workers log) words in
          faulty one_play one_answer plans.planned script log old new before now told told_new line fault outcome status played is none has);
      misfitted = λ script workers log why words none has.
          (let (outcome, played, is) = ran (to_play script workers log) words in
          misfitted one_play one_answer plans.planned plans.fit plans.misfit script log old new before now told told_new why outcome status played is none has);
      complete = λ script workers log words none can.
          (let (outcome, played, is) = ran (to_play script workers log) words in
          complete one_play one_answer plans.planned script log old new before now told told_new outcome status played is none can);
      complete_make = λ seed frames folder words none can.
          (let (outcome, made, is) = ran (to_make seed frames folder) words in
          complete_make seed frames folder old new before now told told_new outcome status made is none can);
      unclocked = λ script line why words none has. unclocked script old new told told_new before now line why status (ran (to_clock script) words) none has;
      complete_clock = λ script words none can. complete_clock script old new told told_new before now status (ran (to_clock script) words) none can;
      complete_pack = λ input output answer words none can. complete_pack input output old new told told_new before now answer status one_answer (ran (to_pack input output) words) none can;
      complete_unpack = λ input output answer words none can. complete_unpack input output old new told told_new before now answer status (ran (to_unpack input output) words) none can;
      complete_audit = λ script log words none can.
          (let (outcome, audited, is) = ran (to_audit script log) words in
          complete_audit one_play one_answer plans.planned script log old new before now none can told told_new status outcome audited is);
      decided = λ script log verdict words none can one.
          (let (outcome, audited, is) = ran (to_audit script log) words in
          decided one_play one_answer plans.planned script log old new before now none can told told_new status (c.law_of_verdicts.ensures.one script log old) verdict one outcome audited is);
      left_by_play = λ script log words none can left.
          (let (outcome, audited, is) = ran (to_audit script log) words in
          left_by_play one_play one_answer plans.planned script log old new before now none can told told_new status left outcome audited is);
      asked_audit = λ script log fault words none asks.
          (let (outcome, audited, is) = ran (to_audit script log) words in
          asked_audit one_play script log old new before now none fault asks told told_new status outcome audited is);
      cut_audit = λ script log acts words none cut yes.
          (let (outcome, audited, is) = ran (to_audit script log) words in
          cut_audit one_play script log old new before now none cut acts yes (c.law_of_verdicts.ensures.one script log old) told told_new status outcome audited is);
    }
