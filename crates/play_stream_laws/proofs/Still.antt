-- A component is still there, with its number and the stream of its file.
use Rattle.std.proofs.Common.{◌≡◌, ℕ, slice_get, Some}
use Rattle.il_machine.specs.World.{Component, Stream, World, number_of, stream_of}
use Rattle.play_world_laws.specs.Cast.{Cast, script_place}

-- the component of that turn, and its stream
pub record IsStillThere (x : Cast) (v : World) (c : ℕ) : Type 0 where
  pub component : Component
  pub there : slice_get v.components (script_place x c) ≡ Some component
  pub number : number_of component ≡ script_place x c
  pub stream : Stream
  pub found : stream_of (number_of component) v ≡ Some stream
