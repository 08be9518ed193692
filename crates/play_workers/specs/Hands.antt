-- What holds of the threads of a play.
use Rattle.std.specs.Prelude.{◌≡◌, ℕ, ◌+◌, false, List, [], ◌∷◌, Option}
use Rattle.turnstile.specs.Passes.{IsSamePass}
use Rattle.play_forms.specs.Plans.{PlanValue}
use Rattle.graph_acts.specs.Plain.{Sight}
use Rattle.board.specs.declared.boards.Board.{Board}
use Rattle.board.specs.Boards.{pass_view}
use Rattle.work_signs.specs.declared.seat.Seat.{Seat}
use Rattle.play_worker.specs.Workers.{IsWorker}
use Rattle.conducting_thread.specs.Passes.{IsAtEnd, IsConductingPass}
use Rattle.play_workers.specs.declared.hand.Hand.{Hand}
use Rattle.play_workers.specs.declared.hand.Hand.TheVariants.{Conducts, Works}

module _ {S K C G : Type 0} where
  abbrev pub IsWorks : Hand S K C G → Type 0
  IsWorks (Works w) = Unit {0}
  IsWorks (Conducts c) = ⊥

  abbrev pub IsConductor : Hand S K C G → Type 0
  IsConductor (Works w) = ⊥
  IsConductor (Conducts c) = Unit {0}

  -- what holds of it before it runs, and then again
  abbrev pub IsHand : (G → Option (ℕ → ℕ)) → Sight S K C → Board S K C → PlanValue → List Seat → Hand S K C G → Type 0
  IsHand counts see b plan seats (Works w) = IsWorker counts see b seats w
  IsHand counts see b plan seats (Conducts c) = IsConductingPass see b plan seats c

  -- one who conducts was refused nothing, and the play isn't over
  abbrev pub CanStart : Hand S K C G → Type 0
  CanStart (Works w) = Unit {0}
  CanStart (Conducts c) = (c.refused ≡ false) × (c.ended ≡ false)

  -- one who conducts stopped at the play's end, or since it was told to
  abbrev pub HasStopped : Hand S K C G → Type 0
  HasStopped (Works w) = Unit {0}
  HasStopped (Conducts c) = c.stopped ≡ false → IsAtEnd c.ended c.refused c.conductor

  -- a worker stays one, with its number, and who conducts goes on with the same pass
  abbrev pub StaysHand : Hand S K C G → Hand S K C G → Type 0
  StaysHand (Works w) (Works v) = (v.book).number ≡ (w.book).number
  StaysHand (Conducts c) (Conducts d) = IsSamePass (pass_view (c.book).pass) (pass_view (d.book).pass)
  StaysHand (Works w) (Conducts d) = ⊥
  StaysHand (Conducts c) (Works v) = ⊥

  -- they are workers, with this number and those behind it
  abbrev pub AreWorkers : (G → Option (ℕ → ℕ)) → Sight S K C → Board S K C → List Seat → ℕ → List (Hand S K C G) → Type 0
  AreWorkers counts see b seats n [] = Unit {0}
  AreWorkers counts see b seats n (Works w ∷ hands) = IsWorker counts see b seats w × ((w.book).number ≡ n) × AreWorkers counts see b seats (n + 1) hands
  AreWorkers counts see b seats n (Conducts c ∷ hands) = ⊥

module _ {S K C G : Type 0} where
  -- they are workers, with this number and those behind it; and the last is the one who conducts, from whose pass each of theirs was split
  -- off, and which has met none
  abbrev pub AreThreads : (G → Option (ℕ → ℕ)) → Sight S K C → Board S K C → PlanValue → List Seat → ℕ → List (Hand S K C G) → Type 0
  AreThreads counts see b plan seats n [] = ⊥
  AreThreads counts see b plan seats n (Works w ∷ hands) = IsWorker counts see b seats w × ((w.book).number ≡ n) × AreThreads counts see b plan seats (n + 1) hands
  AreThreads counts see b plan seats n (Conducts c ∷ []) = IsConductingPass see b plan seats c × ((pass_view (c.book).pass).splits + 1 ≡ n) × ((pass_view (c.book).pass).joined ≡ [])
  AreThreads counts see b plan seats n (Conducts c ∷ h ∷ hands) = ⊥
