-- The laws on which the player by workers stands, as they are passed on.
use Rattle.std.proofs.Common.{◌≡◌, ℕ, ◌+◌, ◌<◌, ◌≤◌, Bool, true, false, All, List, length, Option, Some}
use Rattle.omx_types.specs.declared.fault.PartFault.{PartFault}
use Rattle.omx_types.specs.declared.handle.Handle.{Handle}
use Rattle.outside_io.specs.declared.sink.Sink.{Ghosts as SinkGhosts}
use Rattle.outside_io.specs.declared.source.Source.{Ghosts as SourceGhosts}
use Rattle.audio_parts.specs.declared.part_file.PartFile.{PartFile}
use Rattle.il_machine.specs.Acts.{Act as MachineAct, Reply as MachineReply}
use Rattle.il_machine.specs.declared.answer.Progress.{Progress}
use Rattle.il_machine.specs.Run.{Run}
use Rattle.il_machine.specs.Sound.{Sound}
use Rattle.il_machine.specs.Whole.{Stands}
use Rattle.il_machine.specs.World.{Stream, World}
use Rattle.il_graph.specs.Shown.{Shown}
use Rattle.turnstile.specs.declared.entry.Entry.{Entry}
use Rattle.turnstile.specs.declared.view.View.{View}
use Rattle.turnstile.specs.Entries.{Met, own}
use Rattle.graph_acts.specs.declared.act.Act.{Act}
use Rattle.graph_acts.specs.declared.act.Reply.{Reply}
use Rattle.graph_acts.specs.Objects.{HasObjects}
use Rattle.board.specs.declared.asked.Asked.{Asked}
use Rattle.board.specs.declared.asked.Told.{Told}
use Rattle.board.specs.declared.watched.Watched.{Watched}
use Rattle.board.specs.Asking.{ArePlain, bare_log}
use Rattle.board.specs.Boards.{Closed, HasAllBack}
use Rattle.board.specs.Histories.{Legal, MayAsk, graph_of}
use Rattle.worker_play_laws.specs.Entries.{entries_of}
use Rattle.work_signs.specs.declared.seat.Seat.{Seat}
use Rattle.work_signs.specs.Seats.{AreSeatsOf}
use Rattle.pass_book.specs.Seats.{IsOfPlay, names_of}
use Rattle.conductor.specs.declared.phase.Phase.TheVariants.{Over}
use Rattle.conductor.specs.Hearing.{ConductorValue}
use Rattle.conductor.specs.Phases.{Conducts}
use Rattle.play_build_laws.specs.Dismantling.{AreLinks}
use Rattle.play_build_laws.specs.Stages.{IsStage, Joining}
use Rattle.play_forms.specs.Plain.{sink_text}
use Rattle.play_forms.specs.Plans.{IsValid, PlanValue}
use Rattle.play_model.specs.Play.{Play}
use Rattle.play_world_laws.specs.Cast.{links_of}
use Rattle.play_world_laws.specs.Changing.{is_joined_at}
use Rattle.play_world_laws.specs.PlayWorlds.{IsPlayWorld}
use Rattle.play_log.specs.Entries.{Entry as LogEntry}
use Rattle.play_log.specs.Scenes.{HaveOwnNames}
use Rattle.play_plan_laws.specs.Assemblies.{IsReady, PlayFiles, assembly_of, play_cast_of}
use Rattle.play_plan_laws.specs.Endings.{IsPlayedOut, ends_of}
use Rattle.play_result_laws.specs.Files.{AreSamples, IsWriter}
use Rattle.play_result_laws.specs.Gates.{GatesTellLog}
use Rattle.play_result_laws.specs.Passes.{own_steps}
use Rattle.play_result_laws.specs.Results.{IsPlayLog}
use Rattle.play_result_laws.specs.Rounds.{IsConducting, IsHalted}
use Rattle.play_result_laws.specs.Texts.{HasWrittenFront}
use Rattle.play_result_laws.specs.Worlds.{HasWritten}
use Rattle.read_world_laws.specs.Inside.{inside}
use Rattle.read_world_laws.specs.Mended.{mend}
use Rattle.play_history_laws.specs.Worked.{IsWorked, conducts}
use Rattle.play_course.specs.declared.player.RunFault.{RunFault}
use Rattle.play_course.specs.Failing.{HasFailure, LeavesWorld, TellsFirst, fault_at}
use Rattle.play_course.specs.Players.{IsFailed, IsPlayedWhole}
use Rattle.play_course.specs.Running.{AreSameFiles, IsRunCause}
use Rattle.play_graph.specs.Graphs.{kept_of}
use Rattle.play_graph.specs.Stops.{HaveTunnels, HasNoneOut, HasStopped}
use Rattle.play_run.specs.Playing.{HaveNoWork}
use Rattle.play_worker.specs.declared.failure.Failure.{Failure}
use Rattle.play_worker.specs.Failing.{HasFailed, TellsWorst}
use Rattle.worker_play_laws.specs.Files.{HaveStayed, ShowsSince, is_steady}
use Rattle.worker_play_laws.specs.Leaving.{IsLeftWith}
use Rattle.worker_play_laws.specs.Histories.{IsBoardPlay, IsPlayedBy}
use Rattle.worker_play_laws.specs.Lines.{GatesCount, HaveLogLines, merged_text}
use Rattle.worker_course.specs.Sights.{all_seen, play_sight}

-- of worlds alone
pub record WorldLaws : Type 0 where
  pub fronts : (plan : PlanValue) (files : PlayFiles) (handles : List Handle) (world : World) (entries : List LogEntry) (after : World) → IsWorked plan files handles world entries after
      → (value : ConductorValue) → IsConducting plan files handles (own_steps conducts entries) value → (samples : List (List ℕ)) → AreSamples plan files samples
      → (place : ℕ) (name : List ℕ) → IsWriter plan.parts place name → HasWrittenFront after place (sink_text plan samples place)
  pub stands : (plan : PlanValue) (files : PlayFiles) (handles : List Handle) (world : World) (entries : List LogEntry) (after : World) → IsWorked plan files handles world entries after
      → (value : ConductorValue) → IsConducting plan files handles (own_steps conducts entries) value
      → (recent : ℕ) × (now : Play) × (streams : List Stream) × Sound after × IsPlayWorld (play_cast_of plan) recent now (inside (mend streams after))
      × ((link : ℕ) → link < links_of (play_cast_of plan).cast → (((play_cast_of plan).cast).layout).is_late link ≡ true → is_joined_at (now.change link).step ≡ true)
  pub few : (plan : PlanValue) (recent : ℕ) (play : Play) (world : World) → IsValid plan → IsPlayWorld (play_cast_of plan) recent play world → length plan.joints ≤ 1024
  pub links : (plan : PlanValue) (recent : ℕ) (play : Play) (world : World) → IsValid plan → IsPlayWorld (play_cast_of plan) recent play world → AreLinks (ends_of plan) (length plan.joints)
  pub stops : (plan : PlanValue) (recent : ℕ) (play : Play) (streams : List Stream) (world : World) → IsValid plan → Sound world
      → IsPlayWorld (play_cast_of plan) recent play (inside (mend streams world)) → HaveTunnels (play_cast_of plan) play → HasNoneOut world → HasStopped plan 0 world

-- of the history of a board
pub record BoardLaws {S K : Type 0} (reads : SourceGhosts S) (writes : SinkGhosts K) : Type 0 where
  pub plays : (plan : PlanValue) (files : PlayFiles) (handles : List Handle) (seats : List Seat) (workers : ℕ) (headers : Bool) (world : World)
      (watched : Watched S K Progress) (root : View (Watched S K Progress) (Asked S K Progress) (Told S K Progress)) (now : Shown S K Progress)
      → IsReady plan files → IsStage (assembly_of plan files) (Joining (length plan.joints)) handles world → Stands (kept_of (graph_of watched)) world
      → AreSeatsOf plan.parts handles seats → (closed : Closed (play_sight reads writes) headers watched root now) → IsPlayedBy (play_sight reads writes) seats workers closed.log
      → IsBoardPlay (play_sight reads writes) plan files handles workers world (bare_log closed.log) now
  pub conducted : (plan : PlanValue) (files : PlayFiles) (handles : List Handle) (workers : ℕ) (world : World) (log : List (Entry (Asked S K Progress) (Told S K Progress))) (now : Shown S K Progress)
      → (play : IsBoardPlay (play_sight reads writes) plan files handles workers world (bare_log log) now) → (value : ConductorValue)
      → ((steps : List (MachineAct × MachineReply)) → ArePlain (play_sight reads writes) (bare_log (own 0 log)) steps → IsConducting plan files handles steps value)
      → IsConducting plan files handles (own_steps conducts (entries_of (bare_log log) play.steps)) value
  pub halted : (plan : PlanValue) (files : PlayFiles) (handles : List Handle) (workers : ℕ) (world : World) (log : List (Entry (Asked S K Progress) (Told S K Progress))) (now : Shown S K Progress)
      → IsBoardPlay (play_sight reads writes) plan files handles workers world (bare_log log) now
      → ((steps : List (MachineAct × MachineReply)) → ArePlain (play_sight reads writes) (bare_log (own 0 log)) steps → IsHalted plan files handles steps) → ⊥
  pub idle : (plan : PlanValue) (files : PlayFiles) (handles : List Handle) (workers : ℕ) (world : World) (log : List (Entry (Act S K Progress) (Reply S K Progress))) (now : Shown S K Progress)
      → (play : IsBoardPlay (play_sight reads writes) plan files handles workers world log now) → HasAllBack now → HasNoneOut play.after
  pub ended : (plan : PlanValue) (files : PlayFiles) (handles : List Handle) (workers : ℕ) (world : World) (log : List (Entry (Asked S K Progress) (Told S K Progress))) (now : Shown S K Progress)
      → (play : IsBoardPlay (play_sight reads writes) plan files handles workers world (bare_log log) now)
      → (value : ConductorValue) → IsConducting plan files handles (own_steps conducts (entries_of (bare_log log) play.steps)) value
      → (next : ConductorValue) → Conducts value Over next → HasAllBack now → IsPlayedOut plan play.after
  pub stayed : (seats : List Seat) (watched : Watched S K Progress) (first now : Shown S K Progress) (log : List (Entry (Asked S K Progress) (Told S K Progress)))
      (steps : List (MachineAct × MachineReply)) (world after : World)
      → Legal (play_sight reads writes) watched log → graph_of watched ≡ first → HasObjects (graph_of watched) (bare_log log) now
      → All (λ e. IsOfPlay seats e.act.act) log → ArePlain (play_sight reads writes) (bare_log log) steps → Sound world → Run world steps after → HaveNoWork world → HaveNoWork after
      → HaveStayed reads writes first now
  pub shows : (seats : List Seat) (watched : Watched S K Progress) (first now : Shown S K Progress) (log : List (Entry (Asked S K Progress) (Told S K Progress)))
      (steps : List (MachineAct × MachineReply)) (world after : World)
      → Legal (play_sight reads writes) watched log → graph_of watched ≡ first → HasObjects (graph_of watched) (bare_log log) now
      → All (λ e. IsOfPlay seats e.act.act) log → ArePlain (play_sight reads writes) (bare_log log) steps → Sound world → Run world steps after → HaveNoWork world → HaveNoWork after
      → (place : ℕ) (fault : PartFault) → HasFailure steps place fault → ShowsSince reads writes first now place fault
  pub steady : (seats : List Seat) (log : List (Entry (Asked S K Progress) (Told S K Progress))) (steps : List (MachineAct × MachineReply))
      → All (λ e. IsOfPlay seats e.act.act) log → ArePlain (play_sight reads writes) (bare_log log) steps → All (λ step. is_steady step.0 ≡ true) steps
  pub failures : (log : List (Entry (Act S K Progress) (Reply S K Progress))) (steps : List (MachineAct × MachineReply)) → ArePlain (play_sight reads writes) log steps
      → (failure : Failure) → HasFailed log failure → HasFailure steps (failure.component).generation failure.fault
  pub tells : (log : List (Entry (Act S K Progress) (Reply S K Progress))) (steps : List (MachineAct × MachineReply)) → ArePlain (play_sight reads writes) log steps
      → (failure : Failure) → TellsWorst log (Some failure) → TellsFirst steps (fault_at (failure.component).generation failure.fault)
  pub place : (seats : List Seat) (log : List (Entry (Asked S K Progress) (Told S K Progress))) (steps : List (MachineAct × MachineReply))
      → All (λ e. IsOfPlay seats e.act.act) log → ArePlain (play_sight reads writes) (bare_log log) steps → (place : ℕ) (fault : PartFault) → HasFailure steps place fault → place < length seats

-- of its log
pub record LogLaws {S K : Type 0} (G : Type 0) (reads : SourceGhosts S) (writes : SinkGhosts K) : Type 0 where
  pub whole : (plan : PlanValue) (files : PlayFiles) (handles : List Handle) (seats : List Seat) (workers : ℕ) (world : World) (watched : Watched S K Progress)
      (log : List (Entry (Asked S K Progress) (Told S K Progress))) (now : Shown S K Progress)
      → (play : IsBoardPlay (play_sight reads writes) plan files handles workers world (bare_log log) now)
      → AreSeatsOf plan.parts handles seats → Stands (kept_of (graph_of watched)) world → false ≡ false
      → Legal (play_sight reads writes) watched log → Met (MayAsk (play_sight reads writes) false watched) log → IsPlayedBy (play_sight reads writes) seats workers log → HaveLogLines (names_of seats) log
      → (value : ConductorValue) → IsConducting plan files handles (own_steps conducts (entries_of (bare_log log) play.steps)) value
      → (next : ConductorValue) → Conducts value Over next → 1 ≤ workers → IsPlayLog workers plan files (merged_text (names_of seats) (workers + 1) log) play.after
  pub gates : (plan : PlanValue) (files : PlayFiles) (handles : List Handle) (seats : List Seat) (workers : ℕ) (world : World) (watched : Watched S K Progress)
      (log : List (Entry (Asked S K Progress) (Told S K Progress))) (now : Shown S K Progress)
      → (play : IsBoardPlay (play_sight reads writes) plan files handles workers world (bare_log log) now)
      → AreSeatsOf plan.parts handles seats → Stands (kept_of (graph_of watched)) world → false ≡ false
      → Legal (play_sight reads writes) watched log → Met (MayAsk (play_sight reads writes) false watched) log → IsPlayedBy (play_sight reads writes) seats workers log → HaveLogLines (names_of seats) log
      → (value : ConductorValue) → IsConducting plan files handles (own_steps conducts (entries_of (bare_log log) play.steps)) value
      → (next : ConductorValue) → Conducts value Over next
      → HaveOwnNames plan.parts → (counts : G → Option (ℕ → ℕ)) (gates : List G) → GatesCount counts 1 gates log
      → GatesTellLog counts gates plan.parts (merged_text (names_of seats) (workers + 1) log)
  pub files : (plan : PlanValue) (files : PlayFiles) (handles : List Handle) (world : World) (entries : List LogEntry) (after : World) → IsWorked plan files handles world entries after
      → (value : ConductorValue) → IsConducting plan files handles (own_steps conducts entries) value → (next : ConductorValue) → Conducts value Over next
      → (samples : List (List ℕ)) → AreSamples plan files samples → (place : ℕ) (name : List ℕ) → IsWriter plan.parts place name → HasWritten after place (sink_text plan samples place)

-- of its files
pub record FileLaws {S K : Type 0} (reads : SourceGhosts S) (writes : SinkGhosts K) : Type 0 where
  pub same : (plan : PlanValue) (given : PlayFiles) (first now : Shown S K Progress) (entries back : List (Option (PartFile S K))) (steps : List (MachineAct × MachineReply)) (world : World)
      → IsLeftWith reads writes plan given first now entries back steps world → AreSameFiles (all_seen reads writes entries) (all_seen reads writes back)
  pub whole : (plan : PlanValue) (given : PlayFiles) (first now : Shown S K Progress) (entries back : List (Option (PartFile S K))) (steps : List (MachineAct × MachineReply)) (world : World)
      → IsLeftWith reads writes plan given first now entries back steps world → (workers : ℕ) (text : List ℕ) → IsPlayLog workers plan given text world → IsPlayedOut plan world
      → ((samples : List (List ℕ)) → AreSamples plan given samples → (place : ℕ) (name : List ℕ) → IsWriter plan.parts place name → HasWritten world place (sink_text plan samples place))
      → IsPlayedWhole workers plan given (all_seen reads writes entries) (all_seen reads writes back) text
  pub failed : (plan : PlanValue) (given : PlayFiles) (first now : Shown S K Progress) (entries back : List (Option (PartFile S K))) (steps : List (MachineAct × MachineReply)) (world : World)
      → IsLeftWith reads writes plan given first now entries back steps world
      → ((samples : List (List ℕ)) → AreSamples plan given samples → (place : ℕ) (name : List ℕ) → IsWriter plan.parts place name → HasWrittenFront world place (sink_text plan samples place))
      → IsFailed plan given (all_seen reads writes entries) (all_seen reads writes back)
  pub left : (plan : PlanValue) (given : PlayFiles) (first now : Shown S K Progress) (entries back : List (Option (PartFile S K))) (steps : List (MachineAct × MachineReply)) (world : World)
      → IsLeftWith reads writes plan given first now entries back steps world
      → ((place : ℕ) (why : PartFault) → HasFailure steps place why → ShowsSince reads writes first now place why)
      → (fault : RunFault) → TellsFirst steps fault → LeavesWorld plan given (all_seen reads writes entries) (all_seen reads writes back) fault
  pub cause : (plan : PlanValue) (given : PlayFiles) (first now : Shown S K Progress) (entries back : List (Option (PartFile S K))) (steps : List (MachineAct × MachineReply)) (world : World)
      → IsLeftWith reads writes plan given first now entries back steps world
      → ((place : ℕ) (why : PartFault) → HasFailure steps place why → ShowsSince reads writes first now place why)
      → (fault : RunFault) → TellsFirst steps fault → IsRunCause (all_seen reads writes entries) (all_seen reads writes back) fault
