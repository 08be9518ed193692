-- A history of turns from the value of the board's making, and the value that stands after it.
use Rattle.std.specs.Prelude.{◌≡◌, ℕ, ◌≤◌, ◌<◌, ◌^◌, Bool, true, List, length, map, None, MatchOption}
use Rattle.std.specs.Arc.{arc_value}
use Rattle.omx_types.specs.declared.state.State.TheVariants.{Invalid}
use Rattle.il_machine.specs.Acts as acts
use Rattle.il_machine.specs.World.{World}
use Rattle.il_machine.specs.Buffers.{IsWithClient}
use Rattle.il_machine.specs.Whole.{Stands}
use Rattle.graph_core.specs.Entries.{look_of}
use Rattle.graph_core.specs.Changes.{IsHandedIn}
use Rattle.graph_core.specs.Clients.{WasTold}
use Rattle.il_graph.specs.Shown as graphs
use Rattle.turnstile.specs.declared.entry.Entry.{Entry}
use Rattle.turnstile.specs.Entries.{own}
use Rattle.state_words.specs.Shown.{States, Within, last_or, version_of}
use Rattle.state_words.specs.Tokens.{IsShowerOf, IsReaderOf, known, known_by}
use Rattle.state_words.specs.declared.words.StateWords.{StateWords}
use Rattle.held_things.specs.Held.{Has, AreHeld}
use Rattle.history_laws.specs.Works.{has_work_out}
use Rattle.history_laws.specs.Objects.{IsObjectOut}
use Rattle.graph_acts.specs.declared.act.Act.{Act}
use Rattle.graph_acts.specs.declared.act.Reply.{Reply}
use Rattle.graph_acts.specs.Plain.{Sight}
use Rattle.audio_parts.specs.Shown.{held_in}
use Rattle.graph_acts.specs.Objects.{AreGivenFrom, HasObjects, none_seen, parts_by}
use Rattle.graph_acts.specs.Replying.{AreReplies}
use Rattle.graph_acts.specs.Holding.{OutClient, header_number, client_handle, headers_held, clients_held, works_held, IsGone, IsGoneSo, May, Clear, Can}
use Rattle.graph_acts.specs.Working.{IsWorkIn, OutWork, work_number}
use Rattle.board.specs.declared.asked.Asked.{Asked}
use Rattle.board.specs.declared.asked.Told.{Told}
use Rattle.board.specs.declared.watched.Watched.{Watched}
use Rattle.board.specs.Asking.{ArePlain, bare_log, last_told}
use Rattle.board.specs.Busy.{AreBusyWhereOut}
use Rattle.board.specs.Watching.{Shown}

-- no more versions than places
abbrev pub HasVersions : List States → ℕ → Type 0
HasVersions all place = (i : ℕ) → version_of all i ≤ place

module _ {S K C : Type 0} where
  abbrev pub words_of : Watched S K C → StateWords
  words_of v = arc_value v.words

  abbrev pub graph_of : Watched S K C → graphs.Shown S K C
  graph_of v = v.served.graph

  abbrev pub known_of : Watched S K C → List States
  known_of v = known_by v.shower

  -- the shower is that of the words, each component has a word, and its last state is kept beside
  pub record IsTidy (v : Watched S K C) : Type 0 where
    pub shower : IsShowerOf (words_of v) v.shower
    pub few : length v.handles.items ≤ 32
    pub count : length (known_of v) ≡ length v.handles.items
    pub states : v.states.items ≡ map (last_or Invalid) (known_of v)

module _ {S K C : Type 0} where
  abbrev pub HeadersAreHeld : graphs.Shown S K C → List (Entry (Act S K C) (Reply S K C)) → graphs.Shown S K C → Type 0
  HeadersAreHeld first log now = AreHeld header_number (λ p. headers_held (own p log)) (λ h. IsHandedIn h (look_of now.core)) (λ n. IsWithClient n (look_of now.core)) (λ n. IsWithClient n (look_of first.core))

  abbrev pub ClientsAreHeld : Sight S K C → graphs.Shown S K C → List (Entry (Act S K C) (Reply S K C)) → graphs.Shown S K C → Type 0
  ClientsAreHeld see first log now = AreHeld client_handle (λ p. clients_held see.progress (own p log)) (IsGoneSo now) (IsGone now) (IsGone first)

  -- the same of works, in the worlds at first and now
  abbrev pub WorksAreHeld : World → List (Entry (Act S K C) (Reply S K C)) → World → Type 0
  WorksAreHeld first log now = AreHeld work_number (λ p. works_held (own p log)) (IsWorkIn now) (λ n. has_work_out n now ≡ true) (λ n. has_work_out n first ≡ true)

  -- of each work that a pass holds the part was last seen so
  abbrev pub PartsAreHeld : List (Entry (Act S K C) (Reply S K C)) → Type 0
  PartsAreHeld log = (p : ℕ) (x : OutWork S K) → Has (works_held (own p log)) x → held_in x.part ≡ parts_by none_seen log (work_number x)

  -- Where the history leads from w: the states of each component on the way, all of which the reader knows that came back last. There each
  -- client object that a pass holds is out, and was told all that was given for its component; and the works that are out are with passes.
  pub record Reaches (see : Sight S K C) (first : Watched S K C) (w : World) (log : List (Entry (Asked S K C) (Told S K C))) : Type 0 where
    pub world : World
    pub acts : List (acts.Act × acts.Reply)
    pub plain : ArePlain see (bare_log log) acts
    pub all : List States
    pub shown : Shown first.handles.items w (known_of first) acts world all
    pub reader : MatchOption (last_told None log) (Unit {0}) (λ r. Within all (known r))
    pub objects : (p : ℕ) (x : OutClient) → Has (clients_held see.progress (own p (bare_log log))) x → IsObjectOut x.handle world × WasTold x.handle x.progress world
    pub works : WorksAreHeld w (bare_log log) world

  -- From each world that the first graph stands for, the acts and replies are a run of the machine; and each reply is of its act's kind.
  -- There is such a world.
  pub record Legal (see : Sight S K C) (first : Watched S K C) (log : List (Entry (Asked S K C) (Told S K C))) : Type 0 where
    pub one : graphs.SoundWhole (graphs.kept see.progress (graph_of first))
    pub replies : AreReplies (bare_log log)
    pub worlds : (w : World) → Stands (graphs.kept see.progress (graph_of first)) w → Reaches see first w log
    -- while a client object is with a pass, a note of its component is answered Busy
    pub busy : AreBusyWhereOut see (bare_log log)
    -- a client object that is out is with one pass
    pub apart : (p q : ℕ) (x y : OutClient) → Has (clients_held see.progress (own p (bare_log log))) x → Has (clients_held see.progress (own q (bare_log log))) y → x.handle ≡ y.handle → p ≡ q
    -- Each client object and each file that a reply gives is the one that was put in last. A work comes back with the file with which it was
    -- claimed, read or written further, and a fault shows in that.
    pub objects : AreGivenFrom see (graph_of first) (bare_log log)
    -- the reader that came back last is one of the words
    pub reader : MatchOption (last_told None log) (Unit {0}) (IsReaderOf (words_of first))

  -- the graph stands for the world that the history leads to, and the shower knows just the states on the way
  pub record Arrives (see : Sight S K C) (first : Watched S K C) (w : World) (log : List (Entry (Asked S K C) (Told S K C))) (v : Watched S K C) : Type 0 where
    pub reaches : Reaches see first w log
    pub stands : Stands (graphs.kept see.progress (graph_of v)) reaches.world
    pub states : reaches.all ≡ known_of v

  pub record StandsAfter (see : Sight S K C) (first : Watched S K C) (log : List (Entry (Asked S K C) (Told S K C))) (v : Watched S K C) : Type 0 where
    pub worlds : (w : World) → Stands (graphs.kept see.progress (graph_of first)) w → Arrives see first w log v
    pub headers : HeadersAreHeld (graph_of first) (bare_log log) (graph_of v)
    pub clients : ClientsAreHeld see (graph_of first) (bare_log log) (graph_of v)
    pub objects : HasObjects (graph_of first) (bare_log log) (graph_of v)
    pub parts : PartsAreHeld (bare_log log)
    pub words : words_of v ≡ words_of first
    pub handles : v.handles.items ≡ first.handles.items
    pub tidy : IsTidy v
    pub versions : HasVersions (known_of v) (length log)

  abbrev pub MayAsk : Sight S K C → Bool → Watched S K C → List (Entry (Asked S K C) (Told S K C)) → Asked S K C → Type 0
  MayAsk see headers first own a = May see headers (bare_log own) a.act × IsReaderOf (words_of first) a.reader

  abbrev pub IsClear : Sight S K C → List (Entry (Asked S K C) (Told S K C)) → Type 0
  IsClear see own = Clear see (bare_log own)

  pub record CanServe (see : Sight S K C) (v : Watched S K C) (a : Asked S K C) (place : ℕ) : Type 0 where
    pub can : Can see (graph_of v) a.act
    pub reader : IsReaderOf (words_of v) a.reader
    pub tidy : IsTidy v
    pub versions : HasVersions (known_of v) place
    pub in_time : place < 2 ^ 50
