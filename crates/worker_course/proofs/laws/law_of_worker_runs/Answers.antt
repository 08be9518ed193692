use Rattle.play_run.proofs.ThreadFiles.{are_offered}
use Rattle.worker_course.proofs.Broken.{broken_off, done, same, unwritten}
use Rattle.worker_course.proofs.Led.{can_end, can_stop, does_fit, placed}
use Rattle.worker_course.proofs.Premises.{BoardLaws, FileLaws, WorldLaws}
use Rattle.worker_course.proofs.laws.law_of_worker_runs.Goals as goal

pub returns : goal.returns
returns g c =
    let reads = g.S.Source in
    let writes = g.K.Sink in
    let counts = g.G.Gate.counts in
    let world_laws : WorldLaws = record { fronts = c.law_of_left_plays.ensures.fronts; stands = c.law_of_left_plays.ensures.stands; few = c.law_of_stops.ensures.few; links = c.law_of_stops.ensures.links; stops = c.law_of_stops.ensures.stops } in
    let laws : BoardLaws g.S.Source g.K.Sink = record {
      plays = c.law_of_board_plays.ensures.plays;
      conducted = c.law_of_board_plays.ensures.conducted;
      halted = c.law_of_board_plays.ensures.halted;
      idle = c.law_of_board_plays.ensures.idle;
      ended = c.law_of_board_logs.ensures.ended;
      stayed = c.law_of_board_files.ensures.stayed;
      shows = c.law_of_board_files.ensures.shows;
      steady = c.law_of_board_files.ensures.steady;
      failures = c.law_of_board_failures.ensures.failures;
      tells = c.law_of_board_failures.ensures.tells;
      place = c.law_of_board_failures.ensures.place;
    } in
    let file_laws : FileLaws g.S.Source g.K.Sink = record {
      same = c.law_of_left_files.ensures.same;
      whole = c.law_of_left_files.ensures.whole;
      failed = c.law_of_left_files.ensures.failed;
      left = c.law_of_left_files.ensures.left;
      cause = c.law_of_left_files.ensures.cause;
    } in
    record {
      fits = λ plan workers before ran H. does_fit reads writes counts plan workers before ran H world_laws laws H.made.can.files H.made.can.ready (are_offered reads writes plan H.made.can.files before H.made.can.are);
      placed = λ plan workers before ran H. placed reads writes counts plan workers before ran H world_laws laws H.made.can.files H.made.can.ready (are_offered reads writes plan H.made.can.files before H.made.can.are);
      ends = λ plan workers before ran H e. can_end reads writes counts plan workers before ran H world_laws laws H.made.can.files H.made.can.ready (are_offered reads writes plan H.made.can.files before H.made.can.are) e;
      stops = λ plan workers before ran H. can_stop reads writes counts plan workers before ran H world_laws laws H.made.can.files H.made.can.ready (are_offered reads writes plan H.made.can.files before H.made.can.are);
      left = λ plan workers before after ran H written many are. (
        same reads writes counts plan workers before ran H world_laws laws file_laws written after many are,
        broken_off reads writes counts plan workers before ran H world_laws laws file_laws written after many are,
        unwritten reads writes counts plan workers before ran H world_laws laws file_laws written after many are,
      );
      done = λ plan workers before after ran H written many are ended pages text is.
          done reads writes counts plan workers before ran H world_laws laws file_laws written after many are
          (record { whole = c.law_of_board_logs.ensures.whole; gates = c.law_of_board_gates.ensures; files = c.law_of_worked_plays.ensures.files })
          ended pages text is;
    }
