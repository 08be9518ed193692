-- A worker's pass is met.
use Rattle.std.proofs.Common.{◌≡◌, ℕ, ◌+◌, ◌<◌, List, [], ◌∷◌, ◌++◌, length, Option, None, sym, ap, subst, ◌∙◌, arith, length-append, slice_index_or, remove}
use Rattle.std.proofs.lemmas.List.{map-append}
use Rattle.play_log.specs.Places.{PassLogValue}
use Rattle.turnstile.specs.declared.entry.Entry.{Entry}
use Rattle.turnstile.specs.Entries.{own}
use Rattle.turnstile.specs.Passes.{Joined}
use Rattle.graph_acts.specs.Plain.{Sight}
use Rattle.board.specs.declared.asked.Asked.{Asked}
use Rattle.board.specs.declared.asked.Told.{Told}
use Rattle.board.specs.declared.boards.Board.{Board}
use Rattle.board.specs.declared.pass.BoardPass.{BoardPass}
use Rattle.board.specs.declared.watched.Watched.{Watched}
use Rattle.board.specs.Asking.{bare, bare_log}
use Rattle.board.specs.Boards.{IsOf, pass_view}
use Rattle.work_signs.specs.declared.seat.Seat.{Seat}
use Rattle.play_worker.specs.declared.failure.Failure.{Failure}
use Rattle.play_worker.specs.declared.worker.Worker.{Worker}
use Rattle.play_worker.specs.Failing.{TellsWorst, worse}
use Rattle.play_worker.specs.Workers.{IsWorker}
use Rattle.play_forms.specs.Plans.{PlanValue}
use Rattle.conducting_thread.specs.declared.conducting.ConductingPass.{ConductingPass}
use Rattle.conducting_thread.specs.Passes.{IsConductingPass}
use Rattle.play_workers.specs.declared.hand.Hand.{Hand}
use Rattle.play_workers.specs.declared.hand.Hand.TheVariants.{Works}
use Rattle.play_workers.specs.Hands.{AreWorkers}
use Rattle.play_workers.specs.Meetings.{listed_calls}
use Rattle.play_workers.specs.Wholes.{AreWorks, Gathers, HasCounted, IsPageOf}
use Rattle.play_workers.proofs.Ending.{pages_stay}
use Rattle.play_workers.proofs.Failures.{tells_both}
use Rattle.play_workers.proofs.Gathering.{begins, listed_more, meets}
use Rattle.play_workers.proofs.Threads.{IsWorkerAt, workers_first}

module _ {S K C G : Type 0} (counts : G → Option (ℕ → ℕ)) (see : Sight S K C) (b : Board S K C) (seats : List Seat) where
  -- the first of those that are left is a worker, whose pass is of the board
  pub first_left : (root : BoardPass S K C) (hands : List (Hand S K C G)) (h : Hand S K C G) (w : Worker S K C G) (pages : List PassLogValue) (gates : List G) (worst : Option Failure)
      → Gathers counts see b seats root hands pages gates worst → 0 < length hands → h ≡ slice_index_or hands 0 h → h ≡ Works w → IsWorker counts see b seats w × ((w.book).number ≡ length (pass_view root).joined + 1)
  first_left root hands h w pages gates worst g lt first is = subst (IsWorkerAt counts see b seats (length (pass_view root).joined + 1)) is (workers_first counts see b seats (length (pass_view root).joined + 1) hands h lt first g.workers).0

  pub gathers_on : (legal : Watched S K C → List (Entry (Asked S K C) (Told S K C)) → Type 0) (may : Watched S K C → List (Entry (Asked S K C) (Told S K C)) → Asked S K C → Type 0) (first : Watched S K C)
      (root root' : BoardPass S K C) (hands : List (Hand S K C G)) (h : Hand S K C G) (w : Worker S K C G) (pages : List PassLogValue) (gates : List G) (worst : Option Failure)
      → Gathers counts see b seats root hands pages gates worst → 0 < length hands → h ≡ slice_index_or hands 0 h → h ≡ Works w
      → IsOf b root' → (pass_view root').number ≡ 0 → (pass_view root').splits ≡ (pass_view root).splits → (pass_view root').mine ≡ (pass_view root).mine
      → (pass_view root').joined ≡ (pass_view root).joined ++ ((pass_view (w.book).pass).number, (pass_view (w.book).pass).mine) ∷ []
      → Joined legal may first (pass_view root) (pass_view (w.book).pass) (pass_view root')
      → Gathers counts see b seats root' (remove hands 0) (pages ++ (w.book).log ∷ []) (gates ++ w.gate ∷ []) (worse worst w.worst)
  gathers_on legal may first root root' hands h w pages gates worst g lt at is pass number splits mine listed j =
      let v = pass_view root in let u = pass_view root' in let x = pass_view (w.book).pass in
      let n : ℕ = length v.joined + 1 in
      let f = workers_first counts see b seats n hands h lt at g.workers in
      let own' = first_left root hands h w pages gates worst g lt at is in
      let book = own'.0.book in
      let len : length u.joined ≡ length v.joined + 1 = ap length listed ∙ length-append v.joined ((x.number, x.mine) ∷ []) in
      let next : n + 1 ≡ length u.joined + 1 = omega (arith, len) in record {
        pass = pass;
        met = meets (IsPageOf seats) (HasCounted counts) (AreWorks seats) (pages_stay seats) legal may first v x u (length hands) (length (remove hands 0)) pages (w.book).log gates w.gate g.met (sym f.2)
            number splits mine listed j (book.number ∙ own'.1) (ap (λ (z : ℕ). own z x.seen) book.number ∙ book.mine) (book.acts, own'.0.unasked)
            (subst (λ (z : ℕ). IsPageOf seats z x.seen (w.book).log) (sym book.number) book.lines) own'.0.counted;
        workers = subst (λ (z : ℕ). AreWorkers counts see b seats z (remove hands 0)) next f.1;
        told =
            let both = tells_both (bare_log (listed_calls v.joined)) (bare_log x.mine) worst w.worst g.told own'.0.worst in
            subst (λ l. TellsWorst (bare_log l) (worse worst w.worst)) (sym (ap listed_calls listed ∙ listed_more v.joined x.number x.mine))
            (subst (λ l. TellsWorst l (worse worst w.worst)) (sym (map-append bare (listed_calls v.joined) x.mine)) both);
      }

  -- none is met yet, and the page of the one who conducted is the first
  pub begun : (plan : PlanValue) (p : ConductingPass S K C) (hands : List (Hand S K C G)) → IsConductingPass see b plan seats p → (pass_view (p.book).pass).splits + 1 ≡ 1 + length hands → (pass_view (p.book).pass).joined ≡ []
      → AreWorkers counts see b seats 1 hands → Gathers counts see b seats (p.book).pass hands ((p.book).log ∷ []) [] None
  begun plan p hands is splits joined workers =
      let v = pass_view (p.book).pass in
      let book = is.book in
      let none' : length v.joined ≡ 0 = ap length joined in
      let one : 1 ≡ length v.joined + 1 = omega (arith, none') in
      let zero' : (p.book).number ≡ 0 = is.number in record {
        pass = book.pass;
        met = begins (IsPageOf seats) (HasCounted counts) (AreWorks seats) v (length hands) (p.book).log (book.number ∙ zero') (omega (arith, splits)) joined
            (ap (λ (z : ℕ). own z v.seen) (sym zero') ∙ book.mine) (subst (λ (z : ℕ). IsPageOf seats z v.seen (p.book).log) zero' book.lines);
        workers = subst (λ (z : ℕ). AreWorkers counts see b seats z hands) one workers;
        told = subst (λ l. TellsWorst (bare_log (listed_calls l)) None) (sym joined) (λ f h. h);
      }
