-- A step that failed, as nothing: its component stands as before the claim, without its fault; its headers are where they landed.
use Rattle.std.specs.Prelude.{◌≡◌, ℕ, ◌<◌, ◌∷◌, [], None, Some}
use Rattle.omx_types.specs.declared.command.Event.TheVariants as events
use Rattle.omx_types.specs.declared.command.Note.TheVariants.{Told}
use Rattle.omx_types.specs.declared.fault.PartFault.{PartFault}
use Rattle.il_machine.specs.Finishing.{error_of, finished, notes_after, with_landed}
use Rattle.il_machine.specs.Stepping.{WorkDone}
use Rattle.il_machine.specs.World.{Component, Stream, World, number_of, stream_of, with_component}
use Rattle.play_model.specs.Play.{Play}
use Rattle.play_stream_laws.specs.Flowing.{flowing_in}
use Rattle.play_world_laws.specs.Cast.{links_of}
use Rattle.play_world_laws.specs.PlayWorlds.{IsPlayWorld, PlayCast}

-- without its work
abbrev pub let_go : Component → Component
let_go component = record component { work = None }

-- the world that it leaves, with the component as before, and nothing gone through its file
abbrev pub undone_in : ℕ → Component → WorkDone → Stream → World → World
undone_in place component done stream world = record (with_component place (let_go component) (with_landed place component done stream world)) { streams = world.streams }

-- It tells the fault alone. In the world that it leaves so the play is where it was, and the bytes on their way are those that were.
pub record IsUndone (cast : PlayCast) (recent : ℕ) (now : Play) (place : ℕ) (component : Component) (done : WorkDone) (fault : PartFault) (world : World) : Type 0 where
  pub stream : Stream
  pub found : stream_of (number_of component) world ≡ Some stream
  pub effect : finished place component done world ≡ with_landed place component done stream world
  pub tells : notes_after component stream done ≡ Told (events.Error (error_of fault)) ∷ []
  pub play : IsPlayWorld cast recent now (undone_in place component done stream world)
  pub bytes : (link : ℕ) → link < links_of cast.cast → flowing_in cast.cast (undone_in place component done stream world) link ≡ flowing_in cast.cast world link
