-- What the names of a log stand for.
use Rattle.std.specs.Prelude.{◌≡◌, ℕ, List, map, slice_get, Some}
use Rattle.omx_types.specs.declared.handle.Handle.{Handle}
use Rattle.il_machine.specs.World.{World}
use Rattle.script_lang.specs.declared.play_line.PartLine.{PartLine}

-- the components of a play's script, by its lines, and their handles in the same order
pub record Scene : Type 0 where
  pub parts : List PartLine
  pub handles : List Handle

-- a component's number is the place of its line
abbrev pub scene_of : List PartLine → World → Scene
scene_of parts w = record { parts = parts; handles = map (λ c. c.handle) w.components }

-- the component at the place has that name, line and handle
pub record IsPlayer (s : Scene) (place : ℕ) (name : List ℕ) (part : PartLine) (h : Handle) : Type 0 where
  pub line : slice_get s.parts place ≡ Some part
  pub named : part.name ≡ name
  pub handle : slice_get s.handles place ≡ Some h

-- no two components have one name
abbrev pub HaveOwnNames : List PartLine → Type 0
HaveOwnNames parts = (i j : ℕ) (a b : PartLine) → slice_get parts i ≡ Some a → slice_get parts j ≡ Some b → a.name ≡ b.name → i ≡ j
