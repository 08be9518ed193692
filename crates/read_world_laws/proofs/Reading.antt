-- A world read otherwise in what few acts look at: which client objects are out, which notes are queued and were given, whether a part has
-- ended or failed, and what went through the files.
use Rattle.std.proofs.Common.{◌≡◌, ◌≤◌, Bool, false, ◌||◌, List, [], ◌∷◌, ◌++◌, map}
use Rattle.omx_types.specs.declared.command.Note.{Note}
use Rattle.il_machine.specs.Due.{restarted}
use Rattle.il_machine.specs.Room.{events_in}
use Rattle.il_machine.specs.World.{Component, Given, PartState, Stream, World}
use Rattle.read_world_laws.specs.Mended.{is_fault}

pub record Reading : Type 0 where
  pub out : Bool → Bool
  pub notes : List Note → List Note
  pub given : List Given → List Given
  -- of a part
  pub ended : PartState → Bool
  pub failed : PartState → Bool

abbrev pub read_part : Reading → PartState → PartState
read_part reading part = record part { ended = reading.ended part; failed = reading.failed part }

abbrev pub read_component : Reading → Component → Component
read_component reading c = record c { part = read_part reading c.part; notes = reading.notes c.notes; client_out = reading.out c.client_out }

abbrev pub read : Reading → (List Stream → List Stream) → World → World
read reading streams w = record w { components = map (read_component reading) w.components; given = reading.given w.given; streams = streams w.streams }

-- It leaves out notes that tell a fault, at most, and reads a part so that it goes on as it went.
pub record IsFair (reading : Reading) : Type 0 where
  pub none : reading.notes [] ≡ []
  pub append : (xs ys : List Note) → reading.notes (xs ++ ys) ≡ reading.notes xs ++ reading.notes ys
  pub keeps : (note : Note) → is_fault note ≡ false → reading.notes (note ∷ []) ≡ note ∷ []
  pub fewer : (notes : List Note) → events_in (reading.notes notes) ≤ events_in notes
  pub restarts : (c : Component) → restarted (read_component reading c) ≡ read_part reading (restarted c)
  pub free : (part : PartState) → part.ended ≡ false → part.failed ≡ false → ((read_part reading part).ended || (read_part reading part).failed) ≡ false
