-- The world in which a play begins: its components were made and set, its files came, its tunnels are set up, and nothing more. Both ports
-- of a late source's link have their formats open.
use Rattle.std.specs.Prelude.{◌≡◌, ℕ, ◌<◌, ◌≤◌, true, false, [], length, slice_get, sum_by, Some, MatchOption}
use Rattle.omx_types.specs.Formats.{frame_bytes_of, is_auto}
use Rattle.il_machine.specs.declared.port.Port.{Port}
use Rattle.il_machine.specs.Kinds.{is_late, is_sink, is_source}
use Rattle.il_machine.specs.Parameters.{overflows}
use Rattle.il_machine.specs.Parts.{file_format, frames_of}
use Rattle.il_machine.specs.Sound.{Sound}
use Rattle.il_machine.specs.Units.{need_of}
use Rattle.il_machine.specs.World.{Component, World, fresh, number_of, port_of, stream_of}
use Rattle.play_model.specs.Network.{IsInput, IsOutput}
use Rattle.play_model.specs.Numbers.{unbegun, state_told, not_announced, untouched}
use Rattle.play_model.specs.Play.{Play}
use Rattle.play_world_laws.specs.Cast.{IsCast, components_of, links_of, script_place}
use Rattle.play_world_laws.specs.Wiring.{IsSomeEnd, port_in}
use Rattle.play_world_laws.specs.PlayWorlds.{IsSetFor, IsWiredAt, PlayCast}

-- nothing was begun, made or done
abbrev pub opening : Play
opening = record {
  phase = unbegun;
  stage = λ c. state_told;
  told = λ c. false;
  flow = record {
    done = λ c. 0;
    ended = λ c. false;
    link = λ l. record { ready = 0; sent = []; held = []; spent = 0; taken = 0; closed = false };
  };
  change = λ l. record { step = not_announced; output = untouched; input = untouched };
}

-- a component as it was made, but for its settings, its file and its tunnels
pub record IsSetUpAt (x : PlayCast) (w : World) (c : ℕ) (a : Component) : Type 0 where
  pub number : number_of a ≡ script_place x.cast c
  pub fresh_else : a ≡ record (fresh a.handle a.settings.kind) { settings = a.settings; file = a.file; ports = a.ports }
  pub set_for : IsSetFor x c a.settings
  pub roomy : (l : ℕ) → IsInput ((x.cast).layout).network c l → ((x.cast).layout).is_late l ≡ true → overflows a.file (x.format l) ≡ false
  pub source : is_source a.settings.kind ≡ (((x.cast).layout).network).is_source c
  pub sink : is_sink a.settings.kind ≡ ((x.cast).layout).is_sink c
  pub late : (l : ℕ) → IsOutput ((x.cast).layout).network c l → is_late a.settings.kind ≡ ((x.cast).layout).is_late l
  pub late_format : (l : ℕ) → IsOutput ((x.cast).layout).network c l → ((x.cast).layout).is_late l ≡ true → file_format a.file ≡ x.format l
  pub file : is_source a.settings.kind ≡ true → frames_of a.file ≡ (((x.cast).layout).network).frames c
  pub stream : MatchOption (stream_of (number_of a) w) ⊥ (λ s. s.frames ≡ 0)

pub record IsOpeningWorld (x : PlayCast) (w : World) : Type 0 where
  pub cast_is : IsCast x.cast
  pub formats : (l : ℕ) → l < links_of x.cast → ((x.cast).layout).is_late l ≡ true → (frame_bytes_of (x.format l) ≡ (x.cast).unit l) × (is_auto (x.format l) ≡ false)
  pub sound : Sound w
  pub many : length w.components ≡ components_of x.cast
  pub components : (c : ℕ) (a : Component) → c < components_of x.cast → slice_get w.components (script_place x.cast c) ≡ Some a → IsSetUpAt x w c a
  pub wired : (l : ℕ) → l < links_of x.cast → IsWiredAt x opening (port_in w.components) l
  pub ends : (i port : ℕ) (a : Component) (q : Port) → slice_get w.components i ≡ Some a → port_of a port ≡ Some q → IsSomeEnd x.cast q.key
  pub headers : w.headers ≡ []
  pub made : w.made ≡ 0
  pub given : w.given ≡ []
  pub units : sum_by need_of w.components ≤ w.units
