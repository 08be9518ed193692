-- What a board's clauses say of it and of its passes.
use Rattle.std.specs.Prelude.{◌≡◌, ℕ, nat_eq, ◌≤◌, ◌<◌, Bool, false, List, All, [], None}
use mathlib.Core.Option.{some}
use lib.ListN.{get_elem?}
use Rattle.il_machine.specs.declared.answer.Progress.{Progress}
use Rattle.il_machine.specs.Acts as acts
use Rattle.il_machine.specs.Buffers.{IsWithClient}
use Rattle.il_machine.specs.World.{World, same_handle}
use Rattle.il_machine.specs.Whole.{Stands}
use Rattle.il_machine.specs.Run.{Run}
use Rattle.header_core.specs.BufferHeader.{BufferHeader}
use Rattle.graph_core.specs.Entries.{look_of}
use Rattle.il_graph.specs.Shown as graphs
use Rattle.turnstile.specs.declared.entry.Entry.{Entry}
use Rattle.turnstile.specs.declared.view.View.{View}
use Rattle.turnstile.specs.Entries.{Begins, own, Met}
use Rattle.turnstile.specs.Passes.{opening_of, view, IsPassOf, Called}
use Rattle.state_words.specs.Shown.{States, Within}
use Rattle.state_words.specs.Tokens.{IsReaderOf, known}
use Rattle.state_words.specs.declared.words.Reader.{Reader}
use Rattle.held_things.specs.Held.{after}
use Rattle.graph_acts.specs.declared.act.Act.{Act}
use Rattle.graph_acts.specs.declared.act.Reply.{Reply}
use Rattle.graph_acts.specs.Objects.{HasObjects}
use Rattle.graph_acts.specs.Plain.{Sight}
use Rattle.graph_acts.specs.Holding.{OutClient, headers_held, clients_held, works_held, header_number, client_handle, taken_in, header_given, client_gone, client_out, work_gone, work_come}
use Rattle.graph_acts.specs.Working.{OutWork, work_number}
use Rattle.board.specs.declared.asked.Asked.{Asked}
use Rattle.board.specs.declared.asked.Told.{Told}
use Rattle.board.specs.declared.watched.Watched.{Watched}
use Rattle.board.specs.declared.boards.Board.{Board}
use Rattle.board.specs.declared.pass.BoardPass.{BoardPass}
use Rattle.board.specs.Asking.{ArePlain, bare_log}
use Rattle.board.specs.Histories.{Legal, Reaches, MayAsk, IsClear, graph_of, words_of}

module _ {S K C : Type 0} where
  -- no header is with the client, and no client object and no work is out
  pub record HasAllBack (g : graphs.Shown S K C) : Type 0 where
    pub headers : (number : ℕ) → ¬ (IsWithClient number (look_of g.core))
    pub clients : All (λ c. c.client_out ≡ false) (look_of g.core).components
    pub works : All (λ c. c.work ≡ None) (look_of g.core).components

  abbrev pub HasNoFiles : graphs.Shown S K C → Type 0
  HasNoFiles g = All (λ c. c.file ≡ None) (look_of g.core).components

module _ {S K C : Type 0} where
  -- what the board was made of
  abbrev pub first_of : Board S K C → Watched S K C
  first_of b = opening_of b.turns

  abbrev pub first_graph : Board S K C → graphs.Shown S K C
  first_graph b = graph_of (opening_of b.turns)

  abbrev pub pass_view : BoardPass S K C → View (Watched S K C) (Asked S K C) (Told S K C)
  pass_view p = view p.turn

  abbrev pub own_calls : BoardPass S K C → List (Entry (Act S K C) (Reply S K C))
  own_calls p = bare_log (view p.turn).mine

  -- of each component the states that the pass has seen
  abbrev pub seen_states : BoardPass S K C → List States
  seen_states p = known p.reader

  -- what the pass holds
  abbrev pub headers : BoardPass S K C → List BufferHeader
  headers p = headers_held (own_calls p)

  abbrev pub clients : (C → Progress) → BoardPass S K C → List OutClient
  clients progress p = clients_held progress (own_calls p)

  abbrev pub works : BoardPass S K C → List (OutWork S K)
  works p = works_held (own_calls p)

  pub record IsOf (b : Board S K C) (p : BoardPass S K C) : Type 0 where
    pub turn : IsPassOf b.turns p.turn
    pub reader : IsReaderOf (words_of (opening_of b.turns)) p.reader

  -- what the pass held, without what the act took in, and with what the reply gave
  abbrev pub headers_after : Act S K C → Reply S K C → List BufferHeader → List BufferHeader
  headers_after a r held = after header_number nat_eq taken_in header_given held a r

  abbrev pub clients_after : (C → Progress) → Act S K C → Reply S K C → List OutClient → List OutClient
  clients_after progress a r held = after client_handle same_handle client_gone (client_out progress) held a r

  abbrev pub works_after : Act S K C → Reply S K C → List (OutWork S K) → List (OutWork S K)
  works_after a r held = after work_number nat_eq work_gone work_come held a r

  -- The turnstile's `Called` of the act and its reply, whichever readers went with them.
  pub record IsCalled (see : Sight S K C) (headers : Bool) (first : Watched S K C) (v : View (Watched S K C) (Asked S K C) (Told S K C)) (act : Act S K C) (place : ℕ) (reply : Reply S K C) (w : View (Watched S K C) (Asked S K C) (Told S K C)) : Type 0 where
    pub given : Reader
    pub back : Reader
    pub called : Called (Legal see) (MayAsk see headers) first v (record { act = act; reader = given }) place (record { reply = reply; reader = back }) w

  -- Of each component, all states that were shown along the history that the pass has seen are known to it: the last version and state, and
  -- what it had seen of lower versions is of that list.
  abbrev pub HasSeen : Sight S K C → Board S K C → BoardPass S K C → Type 0
  HasSeen see b p = (w : World) → Stands (graphs.kept see.progress (first_graph b)) w → (R : Reaches see (first_of b) w (pass_view p).seen) × Within R.all (seen_states p)

  -- The graph stands for the world after a legal history, which begins with all that the root had seen and has the calls of every pass that
  -- was met, and of no other.
  pub record Closed (see : Sight S K C) (headers : Bool) (first : Watched S K C) (v : View (Watched S K C) (Asked S K C) (Told S K C)) (g : graphs.Shown S K C) : Type 0 where
    pub log : List (Entry (Asked S K C) (Told S K C))
    pub is_legal : Legal see first log
    pub met : Met (MayAsk see headers first) log
    pub stood : (w : World) → Stands (graphs.kept see.progress (graph_of first)) w → (u : World) × (xs : List (acts.Act × acts.Reply)) × ArePlain see (bare_log log) xs × Run w xs u × Stands (graphs.kept see.progress g) u
    -- its client objects and its files are those that were put in last
    pub objects : HasObjects (graph_of first) (bare_log log) g
    pub seen : Begins v.seen log
    pub mine : own 0 log ≡ v.mine
    pub joined : (i : ℕ) (x : ℕ × List (Entry (Asked S K C) (Told S K C))) → get_elem? v.joined i ≡ some x → own x.0 log ≡ x.1
    pub each : (p : ℕ) → p ≤ v.splits → IsClear see (own p log)
    pub all : (p : ℕ) → 0 < p → p ≤ v.splits → (i : ℕ) × (get_elem? v.joined i ≡ some (p, own p log))
    pub no_other : (p : ℕ) → v.splits < p → own p log ≡ []
