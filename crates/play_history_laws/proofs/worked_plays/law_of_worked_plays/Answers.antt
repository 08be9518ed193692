use Rattle.play_history_laws.proofs.RequestedEnds.{played_out}
use Rattle.play_history_laws.proofs.Files.{requested_none, requested_whole}
use Rattle.play_history_laws.proofs.Printed.{printed_conducted}
use Rattle.play_history_laws.proofs.Rounds.{conducted_over}
use Rattle.play_history_laws.specs.Worked.{conducts}
use Rattle.play_history_laws.proofs.AllAsked.{history, asks, ordered, requested}
use Rattle.play_history_laws.proofs.WorkUnrefused.{none_refused}
use Rattle.play_history_laws.proofs.worked_plays.law_of_worked_plays.Goals as goal
use Rattle.play_log.specs.Entries.{steps_of}
use Rattle.std.proofs.Common.{[], refl}

pub returns : goal.returns
returns c = record {
  over = λ plan files handles w entries v W value C next O I.
      let links = (ordered plan files handles w entries v W value C).links in
      let A = requested plan files handles w entries v W value C next O in
      played_out plan files W.ready handles w W.stage links (steps_of entries) A v W.runs (conducted_over plan files handles w W.ready W.stage conducts entries v W.alone W.runs value C next O) I;
  conducted = λ plan files handles w entries v W value C next O.
      let links = (ordered plan files handles w entries v W value C).links in
      let A = requested plan files handles w entries v W value C next O in (
        printed_conducted _ handles links entries w v A W.runs (none_refused plan files handles w entries v W (asks plan files handles w entries v W value C).0 (history plan files handles w entries v W value C).goes),
        requested_none plan files W.ready handles w W.stage links [] (steps_of entries) A v W.runs refl,
      );
  files = λ plan files handles w entries v W value C next O samples F.
      requested_whole plan files W.ready handles w W.stage (ordered plan files handles w entries v W value C).links [] (steps_of entries) (requested plan files handles w entries v W value C next O) v W.runs samples F refl;
}
