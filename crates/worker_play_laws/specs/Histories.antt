-- What the closed history of a board is for the play of a plan, where pass 0 conducts and the others work.
use Rattle.std.specs.Prelude.{◌≡◌, ℕ, ◌<◌, ◌≤◌, false, All, List, []}
use Rattle.omx_types.specs.declared.handle.Handle.{Handle}
use Rattle.il_machine.specs.Acts as acts
use Rattle.il_machine.specs.Whole.{Stands}
use Rattle.il_machine.specs.World.{World}
use Rattle.il_graph.specs.Shown.{Shown, kept}
use Rattle.turnstile.specs.declared.entry.Entry.{Entry}
use Rattle.turnstile.specs.Entries.{own}
use Rattle.graph_acts.specs.declared.act.Act.{Act}
use Rattle.graph_acts.specs.declared.act.Reply.{Reply}
use Rattle.graph_acts.specs.Plain.{Sight, Unsaid, plain_act}
use Rattle.board.specs.declared.asked.Asked.{Asked}
use Rattle.board.specs.declared.asked.Told.{Told}
use Rattle.board.specs.Asking.{ArePlain}
use Rattle.worker_play_laws.specs.Entries.{entries_of}
use Rattle.work_signs.specs.declared.seat.Seat.{Seat}
use Rattle.pass_book.specs.Seats.{IsOfPlay}
use Rattle.play_forms.specs.Plans.{PlanValue}
use Rattle.play_plan_laws.specs.Assemblies.{PlayFiles}
use Rattle.play_history_laws.specs.Requests.{is_request_act}
use Rattle.play_history_laws.specs.Worked.{IsWorked}

module _ {S K C : Type 0} where
  -- as the machine has it the act is none of those that only a client asks for
  abbrev pub RequestsNothing : Sight S K C → Act S K C → Type 0
  RequestsNothing see act = (u : Unsaid) → is_request_act (plain_act see u act) ≡ false

  -- The acts are those of a play, at its components. Only pass 0 requests something, and there are so many others.
  pub record IsPlayedBy (see : Sight S K C) (seats : List Seat) (workers : ℕ) (log : List (Entry (Asked S K C) (Told S K C))) : Type 0 where
    pub acts : All (λ e. IsOfPlay seats e.act.act) log
    pub alone : (p : ℕ) → 0 < p → All (λ e. RequestsNothing see e.act.act) (own p log)
    pub few : (p : ℕ) → workers < p → own p log ≡ []

  -- From the assembled graph of the plan, which stood for `world`, the acts lead to a world that the graph then stands for.
  pub record IsBoardPlay (see : Sight S K C) (plan : PlanValue) (files : PlayFiles) (handles : List Handle) (workers : ℕ) (world : World) (log : List (Entry (Act S K C) (Reply S K C))) (now : Shown S K C) : Type 0 where
    pub steps : List (acts.Act × acts.Reply)
    pub after : World
    pub plain : ArePlain see log steps
    pub worked : IsWorked plan files handles world (entries_of log steps) after
    pub few : All (λ entry. entry.pass ≤ workers) (entries_of log steps)
    pub stands : Stands (kept see.progress now) after
