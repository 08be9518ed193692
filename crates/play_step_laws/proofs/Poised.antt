-- A component of a play whose ports all rest, and what is around it: what a claim and a step of it need to know of the world.
use Rattle.std.specs.Prelude.{◌≡◌, ◌≢◌, ℕ, ◌*◌, ◌<◌, ◌≤◌, Bool, true, false, slice_get, Some, None, MatchOption}
use Rattle.omx_types.specs.Formats.{frame_bytes_of}
use Rattle.il_machine.specs.declared.port.Port.{Port}
use Rattle.il_machine.specs.Claims.{must_announce}
use Rattle.il_machine.specs.Headers.{find_header}
use Rattle.il_machine.specs.Kinds.{is_sink, is_source}
use Rattle.il_machine.specs.Parts.{file_format, frames_of}
use Rattle.il_machine.specs.Ports.{is_at_rest}
use Rattle.il_machine.specs.Room.{used}
use Rattle.il_machine.specs.Settings.{fits}
use Rattle.il_machine.specs.Sound.{Sound}
use Rattle.il_machine.specs.States.{is_executing}
use Rattle.il_machine.specs.World.{Component, HeaderRecord, World, number_of, port_of, stream_of}
use Rattle.machine_laws.proofs.Parts.{ports_in_list}
use Rattle.play_model.specs.Network.{IsOutput}
use Rattle.play_model.specs.Play.{HasPorts, IsRunning, Play}
use Rattle.play_model.specs.Reached.{IsReached}
use Rattle.play_world_laws.specs.Tunnel.{IsTunnel}
use Rattle.play_world_laws.specs.View.{link_view}
use Rattle.play_world_laws.specs.Cast.{Cast, IsCast, components_of, input_at, links_of, output_at, script_place, supplier_of, taker_of}
use Rattle.play_world_laws.specs.Wiring.{ends_of, work_in}
use Rattle.play_world_laws.specs.Worlds.{HasLink, IsPart}
use Rattle.play_world_laws.proofs.Wanted.{HasPort, IsLinkAt, IsPlayPort}

-- the component that takes out of a link
pub record HasTaker (x : Cast) (w : World) (l : ℕ) : Type 0 where
  pub component : Component
  pub there : slice_get w.components (script_place x (taker_of x l)) ≡ Some component
  pub number : number_of component ≡ script_place x (taker_of x l)

pub record IsPoised (x : Cast) (p : Play) (w : World) (c : ℕ) (a : Component) : Type 0 where
  pub cast : IsCast x
  pub reached : IsReached x.layout p
  pub sound : Sound w
  pub below : c < components_of x
  pub there : slice_get w.components (script_place x c) ≡ Some a
  pub number : number_of a ≡ script_place x c
  pub fit : fits a.settings ≡ true
  pub source : is_source a.settings.kind ≡ ((x.layout).network).is_source c
  pub sink : is_sink a.settings.kind ≡ (x.layout).is_sink c
  pub file : is_source a.settings.kind ≡ true → frames_of a.file ≡ ((x.layout).network).frames c
  -- the frames of a source's file are those of its link
  pub file_unit : is_source a.settings.kind ≡ true → (l : ℕ) → IsOutput (x.layout).network c l → (n : ℕ) → n ≤ frames_of a.file → n * frame_bytes_of (file_format a.file) ≡ n * x.unit l
  pub silent : must_announce a ≡ false
  pub part : IsPart x p c a.part
  pub done : MatchOption (stream_of (number_of a) w) ⊥ (λ s. s.frames ≡ (p.flow).done c)
  pub runs : IsRunning p c → (is_executing a.state ≡ true) × (is_at_rest a ≡ true)
  pub runs_back : is_executing a.state ≡ true → is_at_rest a ≡ true → IsRunning p c
  -- little is queued at it
  pub few : p.phase ≡ 2 → IsRunning p c → a.work ≡ None → used a ≤ 4
  -- its ports
  pub rests : HasPorts x.layout p c
  pub its : (input : Bool) (l : ℕ) → IsLinkAt input (x.layout).network c l → HasPort x l input a
  pub ports : (i : ℕ) (q : Port) → port_of a i ≡ Some q → IsPlayPort x c q
  pub tunnel : (input : Bool) (l : ℕ) → IsLinkAt input (x.layout).network c l → IsTunnel (ports_in_list w.components) (output_at x l) (input_at x l) (supplier_of x l)
  -- the links
  pub apart : (l : ℕ) → l < links_of x → (output_at x l).component ≢ (input_at x l).component
  pub taker : (l : ℕ) → l < links_of x → HasTaker x w l
  pub viewed : (l : ℕ) → l < links_of x → (p.flow).link l ≡ link_view (ends_of x (work_in w.components) p l) w.headers
  pub headers : (n : ℕ) (r : HeaderRecord) → find_header n w.headers ≡ Some r → HasLink x r
