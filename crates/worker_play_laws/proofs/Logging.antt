-- The lines of all passes, merged, are the log of the play.
use Rattle.std.proofs.Common.{◌≡◌, ℕ, zero, suc, ◌+◌, ◌≤◌, Bool, false, not, All, List, [], length, map, Some, None, option_map, refl, sym, ◌∙◌, ap, subst, arith}
use Rattle.std.proofs.lemmas.List.Elements.{All-filter}
use Rattle.omx_types.specs.declared.handle.Handle.{Handle}
use Rattle.il_machine.specs.Acts.{Act, Reply}
use Rattle.il_machine.specs.Headers.{find_header, state_of}
use Rattle.il_machine.specs.Look.{Look}
use Rattle.il_machine.specs.Run.{Run}
use Rattle.il_machine.specs.Whole.{Stands}
use Rattle.il_machine.specs.World.{HeaderRecord, World}
use Rattle.il_graph.specs.Shown.{Shown, kept}
use Rattle.machine_laws.proofs.Every.{at_place, from_places}
use Rattle.turnstile.specs.declared.entry.Entry.{Entry}
use Rattle.turnstile.specs.Entries.{Met}
use Rattle.graph_acts.specs.declared.act.Act.{Act as BoardAct}
use Rattle.graph_acts.specs.declared.act.Act.TheVariants as asks
use Rattle.graph_acts.specs.Plain.{Sight, Unsaid, plain_act}
use Rattle.board.specs.declared.asked.Asked.{Asked}
use Rattle.board.specs.declared.asked.Told.{Told}
use Rattle.board.specs.declared.watched.Watched.{Watched}
use Rattle.board.specs.Asking.{bare_log}
use Rattle.board.specs.Histories.{Legal, MayAsk, graph_of}
use Rattle.board.specs.Notes.{GiveNoHeaders, HasNoClientHeaders}
use Rattle.board.proofs.Eventing.{notes_of_events}
use Rattle.worker_play_laws.proofs.Zipped.{same_steps}
use Rattle.worker_play_laws.specs.Entries.{entries_of}
use Rattle.work_signs.specs.declared.seat.Seat.{Seat}
use Rattle.work_signs.specs.Seats.{AreSeatsOf}
use Rattle.pass_book.specs.Saying.{line_of}
use Rattle.pass_book.specs.Seats.{IsOfPlay, names_of}
use Rattle.pass_lines.specs.Passes.{pass_of}
use Rattle.pass_lines.proofs.Choosing.{all_merged}
use Rattle.conductor.specs.declared.phase.Phase.TheVariants.{Over}
use Rattle.conductor.specs.Hearing.{ConductorValue}
use Rattle.conductor.specs.Phases.{Conducts}
use Rattle.play_forms.specs.Plans.{PlanValue}
use Rattle.play_log.specs.Choosing.{chosen, lists_by}
use Rattle.play_log.specs.Entries.{Entry as LogEntry, is_unprinted, printed, steps_of}
use Rattle.play_log.specs.Logged.{AllSay, AreLinesOf, IsLogged}
use Rattle.play_log.specs.Merged.{merged_all}
use Rattle.play_log.specs.Naming.{IsNaming, IsUnbroken}
use Rattle.play_log.specs.Places.{PlacedLine, line_place}
use Rattle.play_log.specs.Scenes.{Scene, scene_of}
use Rattle.play_log.proofs.Names.{logged_names}
use Rattle.play_plan_laws.specs.Assemblies.{PlayFiles}
use Rattle.play_result_laws.specs.Asked.{IsConducted, tuned}
use Rattle.play_result_laws.specs.Passes.{IsPassOf, own_steps}
use Rattle.play_result_laws.specs.Results.{IsPlayLog}
use Rattle.play_result_laws.specs.Rounds.{IsConducting}
use Rattle.play_history_laws.specs.Faults.{NoneFailed}
use Rattle.play_history_laws.proofs.PlanOpening.{plan_faulty}
use Rattle.play_history_laws.specs.Worked.{IsByPass, IsWorked, conducts}
use Rattle.play_history_laws.proofs.AllAsked.{asks, history}
use Rattle.worker_play_laws.specs.Histories.{IsBoardPlay, IsPlayedBy}
use Rattle.worker_play_laws.specs.Lines.{HaveLogLines, merged_text}
use Rattle.worker_play_laws.proofs.Entering.{entry_at}
use Rattle.worker_play_laws.proofs.Lining.{are_lines, line_in, printed_again}
use Rattle.worker_play_laws.proofs.Played.{by_pass, conducted_so, unrefused}
use Rattle.worker_play_laws.proofs.Saying.{are_lined}
use Rattle.worker_play_laws.proofs.PlanSeats.{many_seats, seats_in}
use Rattle.worker_play_laws.proofs.Unbroken.{IsBelow, all_unbroken, none_failed}

-- a graph that was just assembled has no header
no_headers : {S K C : Type 0} (see : Sight S K C) (g : Shown S K C) (w : World) → Stands (kept see.progress g) w → w.headers ≡ [] → HasNoClientHeaders g
no_headers see g w stands none number s e =
    let had : option_map state_of (find_header number w.headers) ≡ Some s = ap (λ (l : Look). l.headers.header number) stands.looks ∙ e in
    let not_there : option_map state_of (find_header number w.headers) ≡ None = ap (λ (hs : List HeaderRecord). option_map state_of (find_header number hs)) none in
    let z : None ≡ Some s = sym not_there ∙ had in
    absurd cc

-- by its pass, of so many
pass_of_few : (workers : ℕ) (entry : LogEntry) → 1 ≤ workers → IsByPass entry → entry.pass ≤ workers → IsPassOf workers entry
pass_of_few zero entry l B few = absurd (omega (arith, l))
pass_of_few (suc more) entry l B few = (B.0, λ other. (B.1 other, few))

module _ {S K C : Type 0} (see : Sight S K C) (plan : PlanValue) (files : PlayFiles) (handles : List Handle) (seats : List Seat) (workers : ℕ) (world : World) (watched : Watched S K C)
    (log : List (Entry (Asked S K C) (Told S K C))) (now : Shown S K C) (play : IsBoardPlay see plan files handles workers world (bare_log log) now)
    (are : AreSeatsOf plan.parts handles seats) (stood : Stands (kept see.progress (graph_of watched)) world) (headers : Bool) (none : headers ≡ false) (legal : Legal see watched log) (met : Met (MayAsk see headers watched) log)
    (played : IsPlayedBy see seats workers log) (canonical : HaveLogLines (names_of seats) log) (value : ConductorValue)
    (conducting : IsConducting plan files handles (own_steps conducts (entries_of (bare_log log) play.steps)) value) where
  abbrev entries : List LogEntry
  entries = entries_of (bare_log log) play.steps

  abbrev names : ℕ → List ℕ
  names = names_of seats

  abbrev scene : Scene
  scene = scene_of plan.parts world

  abbrev W : IsWorked plan files handles world entries play.after
  W = play.worked

  abbrev text : List ℕ
  text = merged_text names (workers + 1) log

  run : Run world play.steps play.after
  run = subst (λ (xs : List (Act × Reply)). Run world xs play.after) (same_steps see (bare_log log) play.steps play.plain) W.runs

  events : GiveNoHeaders (bare_log log)
  events = notes_of_events see headers watched (graph_of watched) log play.steps world play.after none (no_headers see (graph_of watched) world stood ((W.stage).built).headers) stood (W.stage).sound play.plain run legal.replies met

  lines : AreLinesOf scene entries (map line_in (chosen (line_of names) 0 log))
  lines = are_lines scene (line_of names) 0 log entries
      (are_lined see scene seats (seats_in plan files handles seats world are W.stage) log play.steps play.plain played.acts legal.replies canonical events (unrefused plan files handles world entries play.after W value conducting))

  merged_is : merged_all line_place (lists_by pass_of (line_of names) 0 (workers + 1) log) ≡ chosen (line_of names) 0 log
  merged_is = all_merged (line_of names) (workers + 1) log (λ p b. played.few p (omega (arith, b)))

  pub is_logged : IsLogged (scene_of plan.parts world) (entries_of (bare_log log) play.steps) (merged_text (names_of seats) (workers + 1) log)
  is_logged = record {
    lines = map line_in (merged_all line_place (lists_by pass_of (line_of names) 0 (workers + 1) log));
    of_history = subst (λ (ls : List PlacedLine). AreLinesOf scene entries (map line_in ls)) (sym merged_is) lines;
    whole = refl;
  }

  -- ---- a play that is over

  module _ (next : ConductorValue) (over : Conducts value Over next) where
    conducted : IsConducted (tuned plan files) handles (steps_of (printed entries)) × NoneFailed play.after
    conducted = conducted_so plan files handles world entries play.after W value conducting next over

    below : All (λ (entry : LogEntry). IsBelow (length plan.parts) entry.act) entries
    below = from_places (λ (entry : LogEntry). IsBelow (length plan.parts) entry.act) entries (λ place entry at.
        let x = entry_at see log play.steps play.plain place entry at in
        let u = (x.plain_step).0 in
        let of_play = at_place (λ (y : Entry (Asked S K C) (Told S K C)). IsOfPlay seats y.act.act) log place x.e played.acts x.there in
        subst (λ (y : LogEntry). IsBelow (length plan.parts) y.act) (sym x.is)
        (subst (λ (y : Act × Reply). IsBelow (length plan.parts) y.0) (sym (x.plain_step).1) (is_below u (x.e).act.act of_play)))
      where
        is_below : (u : Unsaid) (act : BoardAct S K C) → IsOfPlay seats act → IsBelow (length plan.parts) (plain_act see u act)
        is_below u (asks.Finish done) is = let m = many_seats plan.parts handles seats are in omega (arith, m, is)
        is_below u _ is = tt

    unbroken : All (λ (entry : LogEntry). IsUnbroken entry.act) entries
    unbroken =
        let A = asks plan files handles world entries play.after W value conducting in
        all_unbroken (length plan.parts) play.after
        (none_failed plan files handles world (steps_of entries) A.0 play.after (history plan files handles world entries play.after W value conducting) conducted.1)
        entries world (W.stage).sound W.runs below

    pub naming : IsNaming (scene_of plan.parts world) world (merged_text (names_of seats) (workers + 1) log) (printed (entries_of (bare_log log) play.steps)) play.after
    naming = logged_names scene world play.after entries text (W.stage).sound (plan_faulty plan files handles world W.stage 0 W.ready).closed W.runs unbroken is_logged

    made : 1 ≤ workers → All (IsPassOf workers) (printed entries)
    made l = from_places (IsPassOf workers) (printed entries) (λ place entry at.
        pass_of_few workers entry l
        (at_place IsByPass (printed entries) place entry (by_pass plan files handles world entries play.after W value conducting) at)
        (at_place (λ (y : LogEntry). y.pass ≤ workers) (printed entries) place entry (All-filter (λ (y : LogEntry). not (is_unprinted y.reply)) (λ (y : LogEntry). y.pass ≤ workers) entries play.few) at))

    pub play_log : 1 ≤ workers → IsPlayLog workers plan files (merged_text (names_of seats) (workers + 1) log) play.after
    play_log l =
        let L = is_logged in
        record {
          opening = world;
          entries = printed entries;
          opens = (handles, W.stage);
          logged = record {
            lines = L.lines;
            of_history = record {
              canonical = (L.of_history).canonical;
              say = subst (AllSay scene L.lines) (sym (printed_again entries)) (L.of_history).say;
            };
            whole = L.whole;
          };
          names = naming;
          made = made l;
          conducted = subst (λ (hs : List Handle). IsConducted (tuned plan files) hs (steps_of (printed entries))) (sym ((W.stage).built).handles_are) conducted.0;
        }
