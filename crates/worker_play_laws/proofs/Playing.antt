-- The closed history of a board of a plan's assembled graph is a play of the plan.
use Rattle.std.proofs.Common.{◌≡◌, ℕ, zero, suc, ◌<◌, ◌≤◌, ◌==◌, Bool, false, All, List, length, slice_get, Some, None, sym, ◌∙◌, ap, subst, arith}
use Rattle.omx_types.specs.declared.handle.Handle.{Handle}
use Rattle.il_machine.specs.Acts.{Act, Reply}
use Rattle.il_machine.specs.Look.{Look}
use Rattle.il_machine.specs.Run.{Run}
use Rattle.il_machine.specs.Whole.{Stands}
use Rattle.il_machine.specs.World.{Component, World}
use Rattle.il_graph.specs.Shown.{Shown, kept}
use Rattle.machine_laws.proofs.Every.{at_place, from_places}
use Rattle.turnstile.specs.declared.entry.Entry.{Entry}
use Rattle.turnstile.specs.declared.view.View.{View}
use Rattle.turnstile.specs.Entries.{own}
use Rattle.graph_acts.specs.declared.act.Act.{Act as BoardAct}
use Rattle.graph_acts.specs.declared.act.Reply.{Reply as BoardReply}
use Rattle.graph_acts.specs.Plain.{Sight}
use Rattle.board.specs.declared.asked.Asked.{Asked}
use Rattle.board.specs.declared.asked.Told.{Told}
use Rattle.board.specs.declared.watched.Watched.{Watched}
use Rattle.board.specs.Asking.{ArePlain, bare_log}
use Rattle.board.specs.Boards.{Closed, HasAllBack}
use Rattle.board.specs.Histories.{graph_of}
use Rattle.board.specs.Serving.{own_bare}
use Rattle.worker_play_laws.proofs.Zipped.{all_few, same_own, same_steps}
use Rattle.worker_play_laws.specs.Entries.{entries_of}
use Rattle.work_signs.specs.declared.seat.Seat.{Seat}
use Rattle.work_signs.specs.Seats.{AreSeatsOf}
use Rattle.pass_book.specs.Seats.{IsOfPlay}
use Rattle.play_build_laws.specs.Stages.{IsStage, Joining}
use Rattle.play_forms.specs.Plans.{PlanValue}
use Rattle.play_graph.specs.Stops.{HasNoneOut}
use Rattle.play_log.specs.Entries.{Entry as LogEntry, step_of}
use Rattle.play_plan_laws.specs.Assemblies.{IsReady, PlayFiles, assembly_of}
use Rattle.play_result_laws.specs.Passes.{own_steps}
use Rattle.play_history_laws.specs.Refused.{IsAtPart}
use Rattle.play_history_laws.specs.Requests.{is_request, is_request_act}
use Rattle.play_history_laws.specs.Worked.{conducts}
use Rattle.worker_play_laws.specs.Histories.{IsBoardPlay, IsPlayedBy, RequestsNothing}
use Rattle.worker_play_laws.proofs.Acting.{at_part}
use Rattle.worker_play_laws.proofs.Entering.{conducting_steps, entry_at, own_at}

above_none : (pass : ℕ) → conducts pass ≡ false → 0 < pass
above_none zero e = absurd cc
above_none (suc pass) e = omega arith

module _ {S K C : Type 0} (see : Sight S K C) where
  module _ (plan : PlanValue) (handles : List Handle) (seats : List Seat) (workers : ℕ) (log : List (Entry (Asked S K C) (Told S K C))) (steps : List (Act × Reply))
      (are : AreSeatsOf plan.parts handles seats) (plain : ArePlain see (bare_log log) steps) (played : IsPlayedBy see seats workers log) where
    abbrev entries : List LogEntry
    entries = entries_of (bare_log log) steps

    -- none but pass 0 requests something
    alone : (place : ℕ) (entry : LogEntry) → slice_get entries place ≡ Some entry → conducts entry.pass ≡ false → is_request (step_of entry) ≡ false
    alone place entry at other =
        let x = entry_at see log steps plain place entry at in
        let u = (x.plain_step).0 in
        let pass : entry.pass ≡ (x.e).pass = ap (λ (y : LogEntry). y.pass) x.is in
        let none = own_at (λ (y : Entry (Asked S K C) (Told S K C)). RequestsNothing see y.act.act) log place x.e (played.alone (x.e).pass (above_none (x.e).pass (sym (ap conducts pass) ∙ other))) x.there u in
        ap (λ (y : LogEntry). is_request_act y.act) x.is ∙ (ap (λ (y : Act × Reply). is_request_act y.0) (x.plain_step).1 ∙ none)

    -- each act is at a component of the plan
    parts : All (λ (entry : LogEntry). IsAtPart plan handles entry.act) entries
    parts = from_places (λ (entry : LogEntry). IsAtPart plan handles entry.act) entries (λ place entry at.
        let x = entry_at see log steps plain place entry at in
        let u = (x.plain_step).0 in
        let of_play = at_place (λ (y : Entry (Asked S K C) (Told S K C)). IsOfPlay seats y.act.act) log place x.e played.acts x.there in
        subst (λ (y : LogEntry). IsAtPart plan handles y.act) (sym x.is)
        (subst (λ (y : Act × Reply). IsAtPart plan handles y.0) (sym (x.plain_step).1) (at_part plan handles seats are see u (x.e).act.act of_play)))

    few : All (λ (entry : LogEntry). entry.pass ≤ workers) entries
    few = all_few see (bare_log log) steps plain workers (λ p above. sym (own_bare p log) ∙ ap bare_log (played.few p above))

    pub is_play : (files : PlayFiles) (world after : World) (now : Shown S K C) → IsReady plan files → IsStage (assembly_of plan files) (Joining (length plan.joints)) handles world → Run world steps after
        → Stands (kept see.progress now) after → IsBoardPlay see plan files handles workers world (bare_log log) now
    is_play files world after now ready stage run stands = record {
      steps = steps;
      after = after;
      plain = plain;
      worked = record {
        ready = ready;
        stage = stage;
        runs = subst (λ (xs : List (Act × Reply)). Run world xs after) (sym (same_steps see (bare_log log) steps plain)) run;
        alone = alone;
        parts = parts;
      };
      few = few;
      stands = stands;
    }

  pub closed_play : (plan : PlanValue) (files : PlayFiles) (handles : List Handle) (seats : List Seat) (workers : ℕ) (headers : Bool) (world : World) (watched : Watched S K C)
      (root : View (Watched S K C) (Asked S K C) (Told S K C)) (now : Shown S K C) → IsReady plan files → IsStage (assembly_of plan files) (Joining (length plan.joints)) handles world
      → Stands (kept see.progress (graph_of watched)) world → AreSeatsOf plan.parts handles seats → (closed : Closed see headers watched root now) → IsPlayedBy see seats workers closed.log
      → IsBoardPlay see plan files handles workers world (bare_log closed.log) now
  closed_play plan files handles seats workers headers world watched root now ready stage stands are closed played =
      let x = closed.stood world stands in
      is_play plan handles seats workers closed.log x.1 are x.2 played files world x.0 now ready stage x.3 x.4

  -- ---- who conducts

  module _ (plan : PlanValue) (files : PlayFiles) (handles : List Handle) (workers : ℕ) (world : World) (log : List (Entry (Asked S K C) (Told S K C))) (now : Shown S K C)
      (play : IsBoardPlay see plan files handles workers world (bare_log log) now) where
    abbrev own_entries : List (Act × Reply)
    own_entries = own_steps conducts (entries_of (bare_log log) play.steps)

    -- what holds of whatever its own calls stand for holds of its acts in the play
    pub by_own : (P : List (Act × Reply) → Type 0) → ((steps : List (Act × Reply)) → ArePlain see (bare_log (own 0 log)) steps → P steps) → P own_entries
    by_own P h =
        let mine = same_own see (bare_log log) play.steps play.plain 0 in
        subst P (conducting_steps (entries_of (bare_log log) play.steps))
        (h (own_steps (λ (pass : ℕ). pass == 0) (entries_of (bare_log log) play.steps))
        (subst (λ (l : List (Entry (BoardAct S K C) (BoardReply S K C))). ArePlain see l (own_steps (λ (pass : ℕ). pass == 0) (entries_of (bare_log log) play.steps))) (sym (own_bare 0 log)) mine))

  -- ---- where all came back

  pub none_out : (plan : PlanValue) (files : PlayFiles) (handles : List Handle) (workers : ℕ) (world : World) (log : List (Entry (BoardAct S K C) (BoardReply S K C))) (now : Shown S K C)
      → (play : IsBoardPlay see plan files handles workers world log now) → HasAllBack now → HasNoneOut play.after
  none_out plan files handles workers world log now play back = record {
    works = subst (λ (cs : List Component). All (λ (c : Component). c.work ≡ None) cs) (sym (ap (λ (l : Look). l.components) (play.stands).looks)) back.works;
    clients = subst (λ (cs : List Component). All (λ (c : Component). c.client_out ≡ false) cs) (sym (ap (λ (l : Look). l.components) (play.stands).looks)) back.clients;
  }
