-- A world with all client objects in: a note that was taken stands there as one that was told.
use Rattle.std.specs.Prelude.{map, false}
use Rattle.il_machine.specs.World.{Component, World}

abbrev pub taken_in : Component → Component
taken_in component = record component { client_out = false }

abbrev pub inside : World → World
inside world = record world { components = map taken_in world.components }
