-- The pass that conducts a play.
use Rattle.std.specs.Prelude.{◌≡◌, ◌⊎◌, Bool, true, false, List}
use Rattle.omx_types.specs.declared.handle.Handle.{Handle}
use Rattle.il_machine.specs.Acts as acts
use Rattle.turnstile.specs.declared.entry.Entry.{Entry}
use Rattle.conductor.specs.declared.phase.Phase.{Phase}
use Rattle.conductor.specs.declared.phase.Phase.TheVariants.{Change, Failed, Over, Send, Wait}
use Rattle.conductor.specs.Hearing.{ConductorValue}
use Rattle.conductor.specs.Phases.{Conducts}
use Rattle.play_forms.specs.Plans.{PlanValue}
use Rattle.play_plan_laws.specs.Assemblies.{PlayFiles}
use Rattle.play_result_laws.specs.Rounds.{IsConducting, IsHalted}
use Rattle.graph_acts.specs.declared.act.Act.{Act}
use Rattle.graph_acts.specs.declared.act.Reply.{Reply}
use Rattle.graph_acts.specs.Holding.{Clear}
use Rattle.graph_acts.specs.Plain.{Sight}
use Rattle.board.specs.declared.boards.Board.{Board}
use Rattle.board.specs.Asking.{ArePlain}
use Rattle.board.specs.Boards.{own_calls}
use Rattle.work_signs.specs.declared.seat.Seat.{Seat}
use Rattle.pass_book.specs.Books.{IsBook}
use Rattle.conducting_thread.specs.declared.conducting.ConductingPass.{ConductingPass}
use Rattle.conducting_thread.specs.declared.conducting.Round.{Round}
use Rattle.conducting_thread.specs.declared.conducting.Round.TheVariants.{Asks, Ends, Waits}
use Rattle.conducting_thread.specs.Asking.{AreStepless}
use Rattle.conducting_thread.specs.Knowing.{KnowsPlan}
use Rattle.work_signs.specs.Seats.{handles_of}

-- the play is over
abbrev pub is_end : Phase → Bool
is_end Over = true
is_end other = false

abbrev pub round_of : Phase → Round
round_of (Send state) = Asks
round_of (Change component step) = Asks
round_of Wait = Waits
round_of Over = Ends
round_of Failed = Ends

-- why nothing more is asked: the play is over, an act was answered otherwise than those of a play are, or a component has told an error
abbrev pub IsAtEnd : Bool → Bool → ConductorValue → Type 0
IsAtEnd ended refused value = (ended ≡ true) ⊎ ((refused ≡ true) ⊎ Conducts value Failed value)

module _ {S K C : Type 0} where
  -- By whatever acts and replies of the machine its calls stand for it has come to know so much, of the plan with any files: its acts look at
  -- none.
  abbrev pub HasConducted : Sight S K C → PlanValue → List Handle → List (Entry (Act S K C) (Reply S K C)) → ConductorValue → Type 0
  HasConducted see plan handles own value = (files : PlayFiles) (xs : List (acts.Act × acts.Reply)) → ArePlain see own xs → IsConducting plan files handles xs value

  abbrev pub HasHalted : Sight S K C → PlanValue → List Handle → List (Entry (Act S K C) (Reply S K C)) → Type 0
  HasHalted see plan handles own = (files : PlayFiles) (xs : List (acts.Act × acts.Reply)) → ArePlain see own xs → IsHalted plan files handles xs

  -- between two rounds it holds nothing, and has conducted the play so far; or it was refused an act
  pub record IsConductingPass (see : Sight S K C) (b : Board S K C) (plan : PlanValue) (seats : List Seat) (p : ConductingPass S K C) : Type 0 where
    pub book : IsBook b seats p.book
    pub number : p.book.number ≡ 0
    pub holds : Clear see (own_calls p.book.pass)
    pub stepless : AreStepless (own_calls p.book.pass)
    pub knows : KnowsPlan plan p.conductor
    pub conducting : p.refused ≡ false → HasConducted see plan (handles_of seats) (own_calls p.book.pass) p.conductor
    pub refused : p.refused ≡ true → HasHalted see plan (handles_of seats) (own_calls p.book.pass)
    pub ended : p.ended ≡ true → (p.refused ≡ false) × Conducts p.conductor Over p.conductor

  -- a round can follow, unless nothing is asked any more
  abbrev pub GoesOnAfter : Round → ConductingPass S K C → Type 0
  GoesOnAfter Ends p = IsAtEnd p.ended p.refused p.conductor
  GoesOnAfter other p = (p.refused ≡ false) × (p.ended ≡ false)
