-- The acts of a component on one of its ports: supply, release, hand_over, hand_back.
use Rattle.std.specs.Prelude.{◌≡◌, ℕ, ◌+◌, Bool, true, false, not, ◌&&◌, ◌||◌, List, [], ◌∷◌, ◌++◌, slice_get, Option, Some, None, option_and_then, option_map, Result, Err, MatchOption, if◌then◌else◌}
use Rattle.omx_types.specs.declared.handle.Handle.{Handle}
use Rattle.omx_types.specs.declared.command.Note.{Note}
use Rattle.omx_types.specs.declared.command.Note.TheVariants.{EmptyDone, FillDone}
use Rattle.omx_types.specs.declared.error.OmxError.{OmxError}
use Rattle.omx_types.specs.declared.error.OmxError.TheVariants as errors
use Rattle.omx_types.specs.declared.error.CallError.{CallError}
use Rattle.omx_types.specs.declared.error.CallError.TheVariants.{Omx}
use Rattle.il_machine.specs.declared.answer.Acted.{Acted}
use Rattle.il_machine.specs.declared.answer.Why.{Why}
use Rattle.il_machine.specs.declared.answer.Why.TheVariants as why
use Rattle.il_machine.specs.declared.port.PortKey.{PortKey}
use Rattle.il_machine.specs.declared.port.Link.{Link}
use Rattle.il_machine.specs.declared.port.Port.{Port}
use Rattle.il_machine.specs.declared.header.Home.TheVariants as homes
use Rattle.il_machine.specs.declared.header.Owner.TheVariants as owners
use Rattle.il_machine.specs.declared.header.Queue.{Queue}
use Rattle.il_machine.specs.declared.header.Queue.TheVariants.{Todo, Done}
use Rattle.il_machine.specs.declared.header.Spot.{Spot}
use Rattle.il_machine.specs.declared.header.Spot.TheVariants.{TodoBack, DoneBack}
use Rattle.il_machine.specs.States.{is_executing}
use Rattle.il_machine.specs.Lists.{first_of_these, is_empty}
use Rattle.il_machine.specs.World.{Component, HeaderRecord, World, place_numbered, number_of, with_component, port_of, noted}
use Rattle.il_machine.specs.declared.header.HeaderState.{HeaderState}
use Rattle.il_machine.specs.Headers.{Seen, seen, changed, put, cleared, unchanged, given_to, empty_load, spot_queue}
use Rattle.il_machine.specs.Look.{Look, look}
use Rattle.il_machine.specs.Ports.{accepting, returning, leaving, is_open, is_at_rest, is_supplier, is_input_port, id_of}
use Rattle.il_machine.specs.Buffers.{has_no_block, has_no_number, is_taking, without_header}
use Rattle.il_machine.specs.Answers.{plain, Resolving, Acts}

-- the other end of a tunnel: the component's place, the component, the port
pub record End : Type 0 where
  pub place : ℕ
  pub component : Component
  pub port : Port

abbrev pub end_at : ℕ → ℕ → Component → Option End
end_at index i c = option_map (λ p. record { place = i; component = c; port = p }) (port_of c index)

abbrev pub end_in : List Component → ℕ → ℕ → Option End
end_in components index i = option_and_then (end_at index i) (slice_get components i)

abbrev pub end_of : List Component → PortKey → Option End
end_of components key = option_and_then (end_in components key.port) (place_numbered key.component components)

abbrev pub other_end : List Component → Port → Option End
other_end components p = option_and_then (λ link. end_of components link.peer) p.state.link

-- the tests that look at the other end
abbrev pub at_end : {E : Type 0} → Option End → (End → List (Bool × E)) → List (Bool × E)
at_end None tests = []
at_end (Some end) tests = tests end

-- Each act answers InvalidComponent, and BadPortIndex where the component has no such port.
abbrev pub OnPort : {T E : Type 0} → (OmxError → E) → World → Handle → ℕ → Result T E → World → (ℕ → Component → Port → Type 0) → Type 0
OnPort refuse w h port result v Then = Resolving refuse w h result v (λ i c.
    MatchOption (port_of c port) ((result ≡ Err (refuse errors.BadPortIndex)) × (v ≡ w)) (λ p. Then i c p))

-- ---- supply

abbrev pub supply_idle : Look → Component → Port → Option Why
supply_idle l c p = first_of_these
    ((not (is_supplier p), why.NotSupplier)
    ∷ (not (accepting l.headers c p), why.NotAccepting (id_of c p))
    ∷ at_end (other_end l.components p) (λ e. (not (accepting l.headers e.component e.port), why.NotAccepting (id_of e.component e.port)) ∷ [])
    ++ (has_no_block l.headers, why.NoBlock)
    ∷ (has_no_number l, why.NoNumber)
    ∷ [])

-- where the end that supplies a tunnel keeps a header that isn't used: of an output it waits to be filled, of an input to be sent
abbrev pub supplied_spot : Bool → Spot
supplied_spot is_input = if is_input then DoneBack else TodoBack

abbrev pub tunnel_header : ℕ → Port → PortKey → HeaderState
tunnel_header number p peer = record {
  number = number;
  port = p.key;
  peer = Some peer;
  home = homes.Port p.key;
  owner = owners.Port p.key;
  queue = spot_queue (supplied_spot (is_input_port p));
  size = p.setting.definition.size;
  client_memory = false;
}

abbrev pub supplied_by : ℕ → Port → Option Link → List HeaderRecord
supplied_by number p None = []
supplied_by number p (Some link) = record { state = tunnel_header number p link.peer; load = empty_load None } ∷ []

-- One header is made for both ports of the tunnel.
abbrev pub with_supplied : Port → World → World
with_supplied p w = record w { headers = w.headers ++ supplied_by w.made p p.state.link; made = w.made + 1 }

abbrev pub Supply : World → Handle → ℕ → Result Acted CallError → World → Type 0
Supply w h port result v = OnPort Omx w h port result v (λ i c p. Acts (supply_idle (look w) c p) result w (with_supplied p w) v)

-- ---- release

-- the headers in the port, those of todo before those of done
abbrev pub in_port : Seen → Port → List ℕ
in_port headers p = headers.todo p.key ++ headers.done p.key

abbrev pub release_idle : Look → Component → Port → Option Why
release_idle l c p = first_of_these
    ((not (is_supplier p), why.NotSupplier)
    ∷ (not (leaving c p), why.NotLeaving)
    ∷ (is_empty (in_port l.headers p), why.NoHeader)
    ∷ [])

abbrev pub front_unmade : List ℕ → World → World
front_unmade [] w = w
front_unmade (number ∷ rest) w = without_header number w

-- The front header is unmade.
abbrev pub Release : World → Handle → ℕ → Result Acted OmxError → World → Type 0
Release w h port result v = OnPort plain w h port result v (λ i c p.
    Acts (release_idle (look w) c p) result w (front_unmade (in_port (seen w.headers) p) w) v)

-- ---- hand_over

-- the giver sends: its port is open, and it is Executing with nothing pending
abbrev pub is_giving : Component → Port → Bool
is_giving c p = is_open p && is_executing c.state && is_at_rest c

abbrev pub over_idle : Look → Component → Port → Option Why
over_idle l c p = first_of_these
    ((not (is_supplier p), why.NotSupplier)
    ∷ (not (is_giving c p), why.NotRunning (id_of c p))
    ∷ at_end (other_end l.components p) (λ e. (not (is_taking e.component e.port), why.NotRunning (id_of e.component e.port)) ∷ [])
    ++ (is_empty (l.headers.done p.key), why.NoHeader)
    ∷ [])

abbrev pub front_put : PortKey → Spot → (HeaderRecord → HeaderRecord) → List ℕ → World → World
front_put key spot change [] w = w
front_put key spot change (number ∷ rest) w = record w { headers = put key spot number change w.headers }

abbrev pub at_link : Option Link → (PortKey → World → World) → World → World
at_link None change w = w
at_link (Some link) change w = change link.peer w

abbrev pub at_peer : Port → (PortKey → World → World) → World → World
at_peer p change w = at_link p.state.link change w

-- The front of done goes to the back of the peer's todo.
abbrev pub handed_over : Port → World → World
handed_over p w = at_peer p (λ peer. front_put peer TodoBack unchanged ((seen w.headers).done p.key)) w

abbrev pub HandOver : World → Handle → ℕ → Result Acted OmxError → World → Type 0
HandOver w h port result v = OnPort plain w h port result v (λ i c p. Acts (over_idle (look w) c p) result w (handed_over p w) v)

-- ---- hand_back

abbrev pub back_idle : Look → Component → Port → Option Why
back_idle l c p = first_of_these
    ((is_supplier p, why.IsSupplier)
    ∷ (not (returning c p) && not (is_executing c.state), why.NotRunning (id_of c p))
    ∷ (is_empty (l.headers.done p.key) && (not (returning c p) || is_empty (l.headers.todo p.key)), why.NoHeader)
    ∷ [])

-- In a tunnel: the front of done, or, where done is empty, the front of todo, cleared. The supplier is the other end.
abbrev pub returned : PortKey → Bool → List ℕ → List ℕ → World → World
returned supplier is_input (number ∷ rest) todo w = front_put supplier TodoBack unchanged (number ∷ rest) w
returned supplier is_input [] todo w = front_put supplier (supplied_spot (not is_input)) cleared todo w

abbrev pub done_note : Bool → ℕ → Note
done_note is_input number = if is_input then EmptyDone number else FillDone number

-- on a client port: the front of todo is cleared and queued as a note
abbrev pub front_noticed : ℕ → Component → Port → List ℕ → World → World
front_noticed i c p [] w = w
front_noticed i c p (number ∷ rest) w =
    record (with_component i (noted (done_note (is_input_port p) number) c) w)
    { headers = changed number (λ r. given_to (owners.Notice (number_of c)) (cleared r)) w.headers }

abbrev pub handed_back : ℕ → Component → Port → Option Link → World → World
handed_back i c p (Some link) w = returned link.peer (is_input_port p) ((seen w.headers).done p.key) ((seen w.headers).todo p.key) w
handed_back i c p None w = front_noticed i c p ((seen w.headers).todo p.key) w

abbrev pub HandBack : World → Handle → ℕ → Result Acted OmxError → World → Type 0
HandBack w h port result v = OnPort plain w h port result v (λ i c p. Acts (back_idle (look w) c p) result w (handed_back i c p p.state.link w) v)
