-- The threads of a play, before and behind their run.
use Rattle.std.proofs.Common.{◌≡◌, ℕ, suc, ◌+◌, ◌<◌, List, [], ◌∷◌, ◌++◌, length, All, Option, sym, ap, subst, ◌∙◌, arith, slice_index_or, remove}
use Rattle.std.proofs.lemmas.List.Elements.{All-cons, All-head, All-nil, All-tail}
use Rattle.play_forms.specs.Plans.{PlanValue}
use Rattle.graph_acts.specs.Plain.{Sight}
use Rattle.board.specs.declared.boards.Board.{Board}
use Rattle.board.specs.Boards.{pass_view}
use Rattle.work_signs.specs.declared.seat.Seat.{Seat}
use Rattle.play_worker.specs.declared.worker.Worker.{Worker}
use Rattle.play_worker.specs.Workers.{IsWorker}
use Rattle.conducting_thread.specs.declared.conducting.ConductingPass.{ConductingPass}
use Rattle.conducting_thread.specs.Passes.{IsConductingPass}
use Rattle.play_workers.specs.declared.hand.Hand.{Hand}
use Rattle.play_workers.specs.declared.hand.Hand.TheVariants.{Conducts, Works}
use Rattle.play_workers.specs.Hands.{AreThreads, AreWorkers, CanStart, IsConductor, IsHand, StaysHand}

module _ {S K C G : Type 0} (counts : G → Option (ℕ → ℕ)) (see : Sight S K C) (b : Board S K C) (seats : List Seat) where
  -- a worker with its number
  abbrev pub IsWorkerAt : ℕ → Hand S K C G → Type 0
  IsWorkerAt n (Works w) = IsWorker counts see b seats w × ((w.book).number ≡ n)
  IsWorkerAt n (Conducts c) = ⊥

  pub workers_snoc : (n : ℕ) (hands : List (Hand S K C G)) (w : Worker S K C G) → AreWorkers counts see b seats n hands → IsWorker counts see b seats w → (w.book).number ≡ n + length hands → AreWorkers counts see b seats n (hands ++ Works w ∷ [])
  workers_snoc n [] w had is number = (is, number ∙ omega arith, tt)
  workers_snoc n (Works x ∷ xs) w had is number = let z : (w.book).number ≡ n + 1 + length xs = number ∙ omega arith in (had.0, had.1, workers_snoc (n + 1) xs w had.2 is z)
  workers_snoc n (Conducts c ∷ xs) w had is number = absurd had

  pub workers_first : (n : ℕ) (hands : List (Hand S K C G)) (h : Hand S K C G) → 0 < length hands → h ≡ slice_index_or hands 0 h → AreWorkers counts see b seats n hands
      → IsWorkerAt n h × AreWorkers counts see b seats (n + 1) (remove hands 0) × (length (remove hands 0) + 1 ≡ length hands)
  workers_first n [] h lt is had = absurd (omega (arith, lt))
  workers_first n (Works x ∷ xs) h lt is had = (subst (IsWorkerAt n) (sym is) (had.0, had.1), had.2, omega arith)
  workers_first n (Conducts c ∷ xs) h lt is had = absurd had

  -- workers can start at once
  pub workers_start : (n : ℕ) (hands : List (Hand S K C G)) → AreWorkers counts see b seats n hands → All CanStart hands
  workers_start n [] had = All-nil CanStart
  workers_start n (Works w ∷ hands) had = All-cons CanStart (Works w) hands tt (workers_start (n + 1) hands had.2)
  workers_start n (Conducts c ∷ hands) had = absurd had

module _ {S K C G : Type 0} (counts : G → Option (ℕ → ℕ)) (see : Sight S K C) (b : Board S K C) (plan : PlanValue) (seats : List Seat) where
  -- the one who conducts, behind the workers below that number
  abbrev pub IsLast : ℕ → Hand S K C G → Type 0
  IsLast n (Works w) = ⊥
  IsLast n (Conducts c) = IsConductingPass see b plan seats c × ((pass_view (c.book).pass).splits + 1 ≡ n) × ((pass_view (c.book).pass).joined ≡ [])

  pub threads_snoc : (n : ℕ) (hands : List (Hand S K C G)) (c : ConductingPass S K C) → AreWorkers counts see b seats n hands → IsLast (n + length hands) (Conducts c) → AreThreads counts see b plan seats n (hands ++ Conducts c ∷ [])
  threads_snoc n [] c had last = (last.0, last.1 ∙ omega arith, last.2)
  threads_snoc n (Works x ∷ xs) c had last = let z : n + length (Works x ∷ xs) ≡ n + 1 + length xs = omega arith in (had.0, had.1, threads_snoc (n + 1) xs c had.2 (last.0, last.1 ∙ z, last.2))
  threads_snoc n (Conducts d ∷ xs) c had last = absurd had

  pub threads_hands : (n : ℕ) (hands : List (Hand S K C G)) → AreThreads counts see b plan seats n hands → All (IsHand counts see b plan seats) hands
  threads_hands n [] had = absurd had
  threads_hands n (Works w ∷ hands) had = All-cons (IsHand counts see b plan seats) (Works w) hands had.0 (threads_hands (n + 1) hands had.2)
  threads_hands n (Conducts c ∷ []) had = All-cons (IsHand counts see b plan seats) (Conducts c) [] had.0 (All-nil (IsHand counts see b plan seats))
  threads_hands n (Conducts c ∷ h ∷ hands) had = absurd had

  -- each has run, and stayed what it was
  pub threads_run : (n : ℕ) (hands ran : List (Hand S K C G)) → AreThreads counts see b plan seats n hands → length ran ≡ length hands → All (IsHand counts see b plan seats) ran
      → ((k : ℕ) (d : Hand S K C G) → k < length hands → StaysHand (slice_index_or hands k d) (slice_index_or ran k d)) → AreThreads counts see b plan seats n ran
  threads_run n [] ran had len all stay = absurd had
  threads_run n (Works w ∷ hands) [] had len all stay = absurd (omega (arith, len))
  threads_run n (Works w ∷ hands) (Works v ∷ ran) had len all stay = (
    All-head (IsHand counts see b plan seats) (Works v) ran all,
    stay 0 (Works v) (omega arith) ∙ had.1,
    threads_run (n + 1) hands ran had.2 (omega (arith, len)) (All-tail (IsHand counts see b plan seats) (Works v) ran all)
        (λ k d lt. let up : suc k < length (Works w ∷ hands) = omega (arith, lt) in stay (suc k) d up),
  )
  threads_run n (Works w ∷ hands) (Conducts d ∷ ran) had len all stay = absurd (stay 0 (Conducts d) (omega arith))
  threads_run n (Conducts c ∷ []) [] had len all stay = absurd (omega (arith, len))
  threads_run n (Conducts c ∷ []) (Works v ∷ ran) had len all stay = absurd (stay 0 (Works v) (omega arith))
  threads_run n (Conducts c ∷ []) (Conducts d ∷ []) had len all stay =
      let same = stay 0 (Conducts d) (omega arith) in (
        All-head (IsHand counts see b plan seats) (Conducts d) [] all,
        ap (λ (z : ℕ). z + 1) same.1 ∙ had.1,
        same.2 ∙ had.2,
      )
  threads_run n (Conducts c ∷ []) (Conducts d ∷ r ∷ ran) had len all stay = absurd (omega (arith, len))
  threads_run n (Conducts c ∷ h ∷ hands) ran had len all stay = absurd had

  pub threads_pop : (n : ℕ) (rest : List (Hand S K C G)) (last : Hand S K C G) → AreThreads counts see b plan seats n (rest ++ last ∷ []) → AreWorkers counts see b seats n rest × IsLast (n + length rest) last
  threads_pop n [] (Works w) had = absurd had.2
  threads_pop n [] (Conducts c) had = (tt, (had.0, had.1 ∙ omega arith, had.2))
  threads_pop n (Works w ∷ rest) last had =
      let r = threads_pop (n + 1) rest last had.2 in
      let z : n + 1 + length rest ≡ n + length (Works w ∷ rest) = omega arith in
      ((had.0, had.1, r.0), subst (λ (m : ℕ). IsLast m last) z r.1)
  threads_pop n (Conducts c ∷ []) last had = absurd had
  threads_pop n (Conducts c ∷ r ∷ rest) last had = absurd had

  pub last_conducts : (n : ℕ) (h : Hand S K C G) → IsLast n h → IsConductor h
  last_conducts n (Works w) last = last
  last_conducts n (Conducts c) last = tt

-- what holds of each holds of the last
pub all_last : {X : Type 0} (P : X → Type 0) (rest : List X) (last : X) → All P (rest ++ last ∷ []) → P last
all_last P [] last all = All-head P last [] all
all_last P (x ∷ rest) last all = all_last P rest last (All-tail P x (rest ++ last ∷ []) all)
