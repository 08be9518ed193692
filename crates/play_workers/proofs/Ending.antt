-- What was played, once every pass was met and the board is closed.
use Rattle.std.proofs.Common.{◌≡◌, ℕ, ◌+◌, ◌<◌, Bool, false, List, [], ◌∷◌, ◌++◌, length, All, Option, Some, None, slice_get, inl, inr, sym, ap, subst, ◌∙◌, arith}
use Rattle.std.proofs.lemmas.List.{map-append}
use Rattle.std.proofs.lemmas.List.Elements.{All-append, All-head, All-nil, All-tail}
use mathlib.Core.Logic.{dite}
use native.Mathlib.Decide.{dec_le}
use Rattle.play_log.specs.Places.{IsKeptAt, PassLogValue}
use Rattle.pass_lines.specs.Passes.{lines_of}
use Rattle.pass_lines.proofs.Choosing.{stays}
use Rattle.il_graph.specs.Shown as graphs
use Rattle.turnstile.specs.declared.entry.Entry.{Entry}
use Rattle.turnstile.specs.Entries.{own}
use Rattle.conductor.specs.Hearing.{ConductorValue}
use Rattle.conductor.specs.Phases.{Conducts}
use Rattle.conductor.specs.declared.phase.Phase.TheVariants.{Over}
use Rattle.play_forms.specs.Plans.{PlanValue}
use Rattle.graph_acts.specs.declared.act.Act.{Act}
use Rattle.graph_acts.specs.declared.act.Act.TheVariants as asks
use Rattle.graph_acts.specs.declared.act.Reply.{Reply}
use Rattle.graph_acts.specs.Plain.{Sight}
use Rattle.board.specs.declared.boards.Board.{Board}
use Rattle.board.specs.declared.pass.BoardPass.{BoardPass}
use Rattle.board.specs.declared.watched.Watched.{Watched}
use Rattle.board.specs.Asking.{bare, bare_log}
use Rattle.board.specs.Boards.{Closed, own_calls, pass_view}
use Rattle.board.specs.Histories.{graph_of}
use Rattle.work_signs.specs.declared.seat.Seat.{Seat}
use Rattle.pass_book.specs.Saying.{line_of}
use Rattle.pass_book.specs.Books.{IsPlayCall}
use Rattle.pass_book.specs.Seats.{names_of}
use Rattle.play_worker.specs.declared.failure.Failure.{Failure}
use Rattle.play_worker.specs.Failing.{TellsWorst, failure_in}
use Rattle.play_worker.specs.Requests.{is_request_plain}
use Rattle.conducting_thread.specs.declared.conducting.ConductingPass.{ConductingPass}
use Rattle.conducting_thread.specs.Asking.{IsStepless}
use Rattle.conducting_thread.specs.Passes.{HasConducted, HasHalted, IsAtEnd, IsConductingPass}
use Rattle.work_signs.specs.Seats.{handles_of}
use Rattle.play_workers.specs.declared.ran.Ran.{Ran}
use Rattle.play_workers.specs.Meetings.{calls_of_all, listed_calls}
use Rattle.play_workers.specs.Wholes.{AreWorks, Gathers, HasCounted, IsPageOf, Leaves, Played}
use Rattle.play_workers.proofs.Failures.{tells_both, tells_same}
use Rattle.play_workers.proofs.Gathering.{KeepsOn, all_calls, all_listed, calls_all, gate_of, its, page_of}

-- a page stays that of its pass where the pass's entries stay
pub pages_stay : {S K C : Type 0} (seats : List Seat) → KeepsOn (IsPageOf {S = S} {K = K} {C = C} seats)
pages_stay {S} {K} {C} seats p old new page begins same had = λ whole.
    let says = line_of {S = S} {K = K} {C = C} (names_of seats) in
    let grown : own p (old ++ begins.0) ≡ own p old = ap (own p) begins.1 ∙ same in
    let lines = ap (λ l. lines_of says p l) (sym begins.1) ∙ stays says p old begins.0 grown in
    subst (λ l. IsKeptAt l page) (sym lines) (had whole)

module _ {S K C G : Type 0} (counts : G → Option (ℕ → ℕ)) (see : Sight S K C) (headers : Bool) (b : Board S K C) (seats : List Seat) (first : Watched S K C) (root : BoardPass S K C) (pages : List PassLogValue) (gates : List G) (worst : Option Failure) (now : graphs.Shown S K C)
    (g : Gathers {S = S} {K = K} {C = C} {G = G} counts see b seats root [] pages gates worst) (closed : Closed see headers first (pass_view root) now) where
  pub workers_acts : All (IsPlayCall seats) (pass_view root).mine → All (IsPlayCall seats) closed.log
  workers_acts mine = all_calls (IsPageOf seats) (HasCounted counts) (AreWorks seats) (pass_view root) pages gates closed.log g.met closed.mine closed.joined closed.all closed.no_other (IsPlayCall seats)
      (All-append (IsPlayCall seats) (pass_view root).mine (listed_calls (pass_view root).joined) mine
      (all_listed (IsPlayCall seats) (pass_view root).joined (λ i x at. (g.met.met i x at).its.0)))

  pub workers_alone : (p : ℕ) → 0 < p → All (λ e. is_request_plain e.act.act ≡ false) (own p closed.log)
  workers_alone p pos = dite (dec_le p (pass_view root).splits)
      (λ low. (its (IsPageOf seats) (HasCounted counts) (AreWorks seats) (pass_view root) pages gates closed.log g.met closed.seen closed.mine closed.joined closed.all closed.no_other p pos low).1)
      (λ high. let over : (pass_view root).splits < p = omega (arith, high) in subst (All (λ e. is_request_plain e.act.act ≡ false)) (sym (closed.no_other p over)) (All-nil (λ e. is_request_plain e.act.act ≡ false)))

  abbrev pub played : (workers : ℕ) (opened : graphs.Shown S K C) → graph_of first ≡ opened → workers ≡ length gates → All (IsPlayCall seats) (pass_view root).mine → Played see headers seats workers opened now
  played workers opened opening many mine = record {
    first = first;
    opening = opening;
    root = pass_view root;
    closed = closed;
    acts = workers_acts mine;
    alone = workers_alone;
    few = λ p lt. closed.no_other p (let s = g.met.splits in let c = g.met.gate_count in omega (arith, lt, many, s, c));
  }

  pub pages_left : (p : ℕ) (page : PassLogValue) → slice_get pages p ≡ Some page → IsPageOf seats p closed.log page
  pages_left = page_of (IsPageOf seats) (HasCounted counts) (AreWorks seats) (pass_view root) pages gates closed.log g.met closed.seen closed.mine closed.joined closed.all closed.no_other (pages_stay seats)

  pub gates_left : (i : ℕ) (gate : G) → slice_get gates i ≡ Some gate → HasCounted counts (own (i + 1) closed.log) gate
  gates_left = gate_of (IsPageOf seats) (HasCounted counts) (AreWorks seats) (pass_view root) pages gates closed.log g.met closed.seen closed.mine closed.joined closed.all closed.no_other

  pub worst_left : TellsWorst (bare_log (pass_view root).mine) None → TellsWorst (bare_log closed.log) worst
  worst_left none' =
      let v = pass_view root in
      let both = tells_both (bare_log v.mine) (bare_log (listed_calls v.joined)) None worst none' g.told in
      let all : TellsWorst (bare_log (calls_of_all v)) worst = subst (λ l. TellsWorst l worst) (sym (map-append bare v.mine (listed_calls v.joined))) both in
      tells_same closed.log (calls_of_all v) worst
      (all_calls (IsPageOf seats) (HasCounted counts) (AreWorks seats) v pages gates closed.log g.met closed.mine closed.joined closed.all closed.no_other)
      (calls_all (IsPageOf seats) (HasCounted counts) (AreWorks seats) v pages gates closed.log g.met closed.mine closed.joined closed.all closed.no_other)
      all

-- ---- the one who conducted

module _ {S K C : Type 0} where
  -- a call by which no work comes back is no step that failed
  stepless_one : (act : Act S K C) (f : Failure) → IsStepless act → failure_in act ≡ Some f → ⊥
  stepless_one (asks.Finish done) f is e = is
  stepless_one _ f is e = absurd cc

  pub stepless : (calls : List (Entry (Act S K C) (Reply S K C))) → All (λ e. IsStepless e.act) calls → TellsWorst calls None
  stepless [] all f h = h
  stepless (e ∷ es) all f h = elim h [
    | inl i ↦ stepless_one e.act f (All-head (λ x. IsStepless x.act) e es all) i
    | inr m ↦ stepless es (All-tail (λ x. IsStepless x.act) e es all) f m
  ]

pub root_acts : {S K C : Type 0} (see : Sight S K C) (b : Board S K C) (plan : PlanValue) (seats : List Seat) (root : BoardPass S K C) (p : ConductingPass S K C) → IsConductingPass see b plan seats p → (pass_view root).mine ≡ (pass_view (p.book).pass).mine
    → All (IsPlayCall seats) (pass_view root).mine
root_acts see b plan seats root p is same = subst (All (IsPlayCall seats)) (sym same) is.book.acts

module _ {S K C G : Type 0} (counts : G → Option (ℕ → ℕ)) (see : Sight S K C) (headers : Bool) (b : Board S K C) (plan : PlanValue) (seats : List Seat) (first : Watched S K C) (root : BoardPass S K C) (worst : Option Failure)
    (p : ConductingPass S K C) (is : IsConductingPass see b plan seats p) (same : (pass_view root).mine ≡ (pass_view (p.book).pass).mine) (ran : Ran S K C G)
    (g : Gathers {S = S} {K = K} {C = C} {G = G} counts see b seats root [] ran.pages.items ran.gates.items worst) (closed : Closed see headers first (pass_view root) ran.graph) where
  pub leaves : ran.conductor ≡ p.conductor → ran.ended ≡ p.ended → ran.refused ≡ p.refused → ran.stopped ≡ p.stopped → (p.stopped ≡ false → IsAtEnd p.ended p.refused p.conductor) → ran.worst ≡ worst → Leaves counts see plan seats closed.log ran
  leaves conductor ended refused stopped stops worst' =
      let calls : bare_log (own 0 closed.log) ≡ own_calls (p.book).pass = ap bare_log (closed.mine ∙ same) in record {
        conducted = λ no. subst (λ (z : List (Entry (Act S K C) (Reply S K C)) × ConductorValue). HasConducted see plan (handles_of seats) z.0 z.1) (λ i. (sym calls i, sym conductor i)) (is.conducting (sym refused ∙ no));
        refused = λ yes. subst (HasHalted see plan (handles_of seats)) (sym calls) (is.refused (sym refused ∙ yes));
        ended = λ over. let e = is.ended (sym ended ∙ over) in (refused ∙ e.0, subst (λ (z : ConductorValue). Conducts z Over z) (sym conductor) e.1);
        stopped = λ no. subst (λ (z : Bool × Bool × ConductorValue). IsAtEnd z.0 z.1 z.2) (λ i. (sym ended i, sym refused i, sym conductor i)) (stops (sym stopped ∙ no));
        pages = pages_left counts see headers b seats first root ran.pages.items ran.gates.items worst ran.graph g closed;
        gates = gates_left counts see headers b seats first root ran.pages.items ran.gates.items worst ran.graph g closed;
        worst = subst (TellsWorst (bare_log closed.log)) (sym worst')
            (worst_left counts see headers b seats first root ran.pages.items ran.gates.items worst ran.graph g closed (subst (λ l. TellsWorst (bare_log l) None) (sym same) (stepless (own_calls (p.book).pass) is.stepless)));
      }
