-- A world without what no act of a play looks at.
use Rattle.std.specs.Prelude.{◌≡◌, ℕ, List, [], ◌∷◌, map, slice_get, None, Some}
use Rattle.omx_types.specs.declared.handle.Handle.{Handle}
use Rattle.omx_types.specs.declared.handle.PortId.{PortId}
use Rattle.omx_types.specs.declared.command.Command.{Command}
use Rattle.omx_types.specs.declared.command.Command.TheVariants.{StateSet, PortDisable, PortEnable}
use Rattle.il_machine.specs.Claims.{CarriedHeader}
use Rattle.il_machine.specs.World.{Component, World, number_of}

abbrev pub bare_handle : Handle → Handle
bare_handle h = record { slot = 0; generation = h.generation }

abbrev pub bare_id : PortId → PortId
bare_id p = record { handle = bare_handle p.handle; index = p.index }

abbrev pub bare_component : Component → Component
bare_component c = record c { handle = bare_handle c.handle }

abbrev pub bare : World → World
bare w = record w { key = 0; components = map bare_component w.components }

-- whoever has the handle's number has the handle
abbrev pub IsKnown : Handle → World → Type 0
IsKnown h w = (k : ℕ) (c : Component) → slice_get w.components k ≡ Some c → number_of c ≡ h.generation → c.handle ≡ h

-- a command that names no other component
abbrev pub IsOwnCommand : Command → Type 0
IsOwnCommand (StateSet state) = Unit {0}
IsOwnCommand (PortDisable ports) = Unit {0}
IsOwnCommand (PortEnable ports) = Unit {0}
IsOwnCommand other = ⊥

-- each component is the one of its number
abbrev pub IsApart : World → Type 0
IsApart w = (j : ℕ) (d : Component) → slice_get w.components j ≡ Some d → IsKnown d.handle w

-- no header that a work carries has a mark
abbrev pub IsUnmarked : List CarriedHeader → Type 0
IsUnmarked [] = Unit {0}
IsUnmarked (x ∷ xs) = (x.header.mark ≡ None) × IsUnmarked xs

-- It was done so, and led to a world whose bare form is this one.
pub record Returns (Does : World → Type 0) (u : World) : Type 0 where
  pub v : World
  pub does : Does v
  pub is : bare v ≡ u
