-- The moves of headers: they are read from each act, its reply and the lists before it.
use Rattle.std.specs.Prelude.{◌≡◌, ℕ, ◌+◌, ◌≤◌, Bool, true, false, not, ◌&&◌, nat_eq, List, [], ◌∷◌, ◌++◌, filter, map, Option, Some, None, option_and_then, Ok}
use Rattle.omx_types.specs.declared.handle.Handle.{Handle}
use Rattle.il_machine.specs.declared.answer.Acted.TheVariants.{Did}
use Rattle.il_machine.specs.declared.port.PortKey.{PortKey}
use Rattle.il_machine.specs.declared.port.Link.{Link}
use Rattle.il_machine.specs.declared.port.Port.{Port}
use Rattle.il_machine.specs.declared.header.Home.{Home}
use Rattle.il_machine.specs.declared.header.Home.TheVariants as homes
use Rattle.il_machine.specs.declared.header.Owner.{Owner}
use Rattle.il_machine.specs.declared.header.Owner.TheVariants as owners
use Rattle.il_machine.specs.World.{Component, Stream, World, component_numbered, port_of, stream_of}
use Rattle.il_machine.specs.declared.header.HeaderState.{HeaderState}
use Rattle.il_machine.specs.Headers.{seen, is_home_owner, weight}
use Rattle.il_machine.specs.Look.{look}
use Rattle.il_machine.specs.Answers.{component_named}
use Rattle.il_machine.specs.Notes.{TakenEmpty, TakenFilled, TookNote}
use Rattle.il_machine.specs.Flow.{in_port}
use Rattle.il_machine.specs.Claims.{CarriedHeader, ClaimedWork}
use Rattle.il_machine.specs.Stepping.{WorkDone}
use Rattle.il_machine.specs.Finishing.{Landing, Again, Onward, Noted, landing, key_at}
use Rattle.il_machine.specs.Acts.{Act, Reply}
use Rattle.il_machine.specs.Acts as acts
use Rattle.il_machine.specs.Run.{Step, Meets}

-- where a move begins or ends: nowhere, for a header that isn't made, or with an owner
pub data Stop : Type 0 where
  Unmade : Stop
  With : (owner : Owner) → Stop

pub record Move : Type 0 where
  pub header : ℕ
  pub from : Stop
  pub to : Stop

-- ---- the moves of one step

abbrev pub key_of : Handle → ℕ → PortKey
key_of h port = record { component = h.generation; port = port }

abbrev pub port_named : Handle → ℕ → World → Option Port
port_named h port w = option_and_then (λ c. port_of c port) (component_named h w.components)

-- the move of the first number of the list
abbrev pub front_move : Stop → Stop → List ℕ → List Move
front_move from to [] = []
front_move from to (number ∷ rest) = record { header = number; from = from; to = to } ∷ []

abbrev pub port_stop : PortKey → Stop
port_stop key = With (owners.Port key)

abbrev pub client_stop : Stop
client_stop = With owners.Client

abbrev pub release_moves : World → Option Port → List Move
release_moves w None = []
release_moves w (Some p) = front_move (port_stop p.key) Unmade (in_port (seen w.headers) p)

abbrev pub over : World → Port → Option Link → List Move
over w p None = []
over w p (Some link) = front_move (port_stop p.key) (port_stop link.peer) ((seen w.headers).done p.key)

abbrev pub over_moves : World → Option Port → List Move
over_moves w None = []
over_moves w (Some p) = over w p p.state.link

-- in a tunnel the front of done, or of todo where done is empty, goes to the supplier; on a client port that of todo to a note
abbrev pub back : World → Port → Option Link → List Move
back w p None = front_move (port_stop p.key) (With (owners.Notice p.key.component)) ((seen w.headers).todo p.key)
back w p (Some link) = front_move (port_stop p.key) (port_stop link.peer) ((seen w.headers).done p.key ++ (seen w.headers).todo p.key)

abbrev pub back_moves : World → Option Port → List Move
back_moves w None = []
back_moves w (Some p) = back w p p.state.link

abbrev pub moved : ℕ → Stop → Stop → List Move
moved number from to = record { header = number; from = from; to = to } ∷ []

-- a header of a claimed work goes from its port to the work of the component of the number
abbrev pub claimed_move : ℕ → CarriedHeader → Move
claimed_move number x = record { header = x.header.number; from = port_stop (record { component = number; port = x.port }); to = With (owners.Work number) }

-- the owner of a header that lands
abbrev pub landed_owner : Landing → Component → CarriedHeader → Owner
landed_owner Noted c x = owners.Notice c.handle.generation
landed_owner Again c x = owners.Port (key_at c x)
landed_owner Onward c x = owners.Port (key_at c x)

abbrev pub finished_move : Component → Stream → WorkDone → CarriedHeader → Move
finished_move c s done x = record {
  header = x.header.number;
  from = With (owners.Work c.handle.generation);
  to = With (landed_owner (landing c s done x) c x);
}

abbrev pub finished_moves : Option Component → Option Stream → WorkDone → List Move
finished_moves (Some c) (Some s) done = map (finished_move c s done) done.headers
finished_moves _ _ done = []

abbrev pub moves : World → Act → Reply → List Move
moves w (acts.AllocateBuffer h port) (acts.Allocated (Ok header)) = moved header.number Unmade client_stop
moves w (acts.UseBuffer h port bytes) (acts.Used (Ok header)) = moved header.number Unmade client_stop
moves w (acts.FreeBuffer h port header) (acts.Freed (Ok memory)) = moved header client_stop Unmade
moves w (acts.EmptyThisBuffer h port header) (acts.Plain (Ok done)) = moved header.number client_stop (port_stop (key_of h port))
moves w (acts.FillThisBuffer h port header) (acts.Plain (Ok done)) = moved header.number client_stop (port_stop (key_of h port))
moves w (acts.TakeNote h) (acts.Took (Ok (TookNote (TakenEmpty header)))) = moved header.number (With (owners.Notice h.generation)) client_stop
moves w (acts.TakeNote h) (acts.Took (Ok (TookNote (TakenFilled header)))) = moved header.number (With (owners.Notice h.generation)) client_stop
moves w (acts.Supply h port) (acts.Supplied (Ok Did)) = moved w.made Unmade (port_stop (key_of h port))
moves w (acts.Release h port) (acts.Acted (Ok Did)) = release_moves w (port_named h port w)
moves w (acts.HandOver h port) (acts.Acted (Ok Did)) = over_moves w (port_named h port w)
moves w (acts.HandBack h port) (acts.Acted (Ok Did)) = back_moves w (port_named h port w)
moves w (acts.Claim h) (acts.Claimed (Ok (ClaimedWork work))) = map (claimed_move work.component) work.headers
moves w (acts.Finish done) acts.Finished = finished_moves (component_numbered done.component w) (stream_of done.component w) done
moves w _ _ = []

-- The acts, each of which meets its condition, are answered so and lead from w to v by these moves.
abbrev pub RunMoves : World → List (Act × Reply) → List Move → World → Type 0
RunMoves w [] ms v = (v ≡ w) × (ms ≡ [])
RunMoves w (x ∷ xs) ms v = (mid : World) × (rest : List Move) × Meets w x.0 × Step w x.0 x.1 mid × RunMoves mid xs rest v × (ms ≡ moves w x.0 x.1 ++ rest)

-- ---- trails

abbrev pub is_of : ℕ → Move → Bool
is_of header m = nat_eq m.header header

-- the header's own moves, in their order
abbrev pub trail : ℕ → List Move → List Move
trail header ms = filter (is_of header) ms

abbrev pub home_stop : Home → Stop
home_stop homes.Client = With owners.Client
home_stop (homes.Port key) = With (owners.Port key)

-- Each move starts where the one before ended. A move to unmade is the last, and starts at home.
abbrev pub Follows : Home → Stop → List Move → Type 0
Follows home at [] = Unit {0}
Follows home at (m ∷ ms) = (m.from ≡ at) × (m.to ≡ Unmade → (at ≡ home_stop home) × (ms ≡ [])) × Follows home m.to ms

-- The first move is made to home.
abbrev pub IsLegalFor : Home → List Move → Type 0
IsLegalFor home [] = Unit {0}
IsLegalFor home (m ∷ ms) = (m.from ≡ Unmade) × (m.to ≡ home_stop home) × Follows home m.to ms

-- the end of the last move
abbrev pub owner_after : Stop → List Move → Stop
owner_after at [] = at
owner_after at (m ∷ ms) = owner_after m.to ms

-- ---- hand-overs and their returns

-- A notice is read as home. A work is read as the one port of its component that the header was made for.
abbrev pub is_home_stop : Home → Stop → Bool
is_home_stop home Unmade = false
is_home_stop home (With (owners.Notice component)) = true
is_home_stop (homes.Port key) (With (owners.Work component)) = nat_eq key.component component
is_home_stop home (With owner) = is_home_owner home owner

abbrev pub is_made : Stop → Bool
is_made Unmade = false
is_made (With owner) = true

-- a move from home to another place
abbrev pub is_hand_over : Home → Move → Bool
is_hand_over home m = is_home_stop home m.from && is_made m.to && not (is_home_stop home m.to)

-- a move from another place to home
abbrev pub is_return : Home → Move → Bool
is_return home m = is_made m.from && not (is_home_stop home m.from) && is_home_stop home m.to

abbrev pub hand_overs : Home → List Move → ℕ
hand_overs home [] = 0
hand_overs home (m ∷ ms) = weight (is_hand_over home m) + hand_overs home ms

abbrev pub returns : Home → List Move → ℕ
returns home [] = 0
returns home (m ∷ ms) = weight (is_return home m) + returns home ms

-- ---- what the trails say of the world that they lead to

-- its owner isn't read as home
abbrev pub is_handed_over : HeaderState → Bool
is_handed_over s = not (is_home_stop s.home (With s.owner))

-- The trail of a made header is legal for its home, ends with its owner, and has at most one return of each hand-over: as many of both
-- where it is at home, in a notice or in the work of its home's component, else one return less.
pub record IsTrailOf (s : HeaderState) (ms : List Move) : Type 0 where
  pub legal : IsLegalFor s.home ms
  pub ends : owner_after Unmade ms ≡ With s.owner
  pub returned : returns s.home ms + weight (is_handed_over s) ≡ hand_overs s.home ms

-- The trail of a number without a header is legal for some home, it is empty or ends unmade, and it has as many returns as hand-overs.
pub record IsTrailOfNone (ms : List Move) : Type 0 where
  pub home : Home
  pub legal : IsLegalFor home ms
  pub ends : owner_after Unmade ms ≡ Unmade
  pub returned : returns home ms ≡ hand_overs home ms

abbrev pub HasTrail : Option HeaderState → List Move → Type 0
HasTrail None ms = IsTrailOfNone ms
HasTrail (Some s) ms = IsTrailOf s ms

-- the trails of all headers, by number; a number that no header was given yet has none
pub record HaveTrails (w : World) (ms : List Move) : Type 0 where
  pub each : (number : ℕ) → HasTrail ((look w).headers.header number) (trail number ms)
  pub none_yet : (number : ℕ) → w.made ≤ number → trail number ms ≡ []
