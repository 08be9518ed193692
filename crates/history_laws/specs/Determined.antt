-- How two results of one act in one world may differ: one of them wants memory, or two new handles have different slots.
use Rattle.std.specs.Prelude.{◌≡◌, ℕ, map, Ok, Err, if◌then◌else◌}
use Rattle.omx_types.specs.declared.handle.Handle.{Handle}
use Rattle.omx_types.specs.declared.error.CallError.TheVariants.{OutOfMemory}
use Rattle.il_machine.specs.World.{Component, World, is_at}
use Rattle.il_machine.specs.Acts.{Reply}
use Rattle.il_machine.specs.Acts as acts

abbrev pub WantsMemory : Reply → Type 0
WantsMemory (acts.Got (Err OutOfMemory)) = Unit {0}
WantsMemory _ = ⊥

-- the component, with the slot if the handle is its own
abbrev pub reseated : Handle → ℕ → Component → Component
reseated h slot c = record c { handle = record { slot = if is_at h c then slot else c.handle.slot; generation = c.handle.generation } }

-- the world, but that the component of the handle has the slot
abbrev pub with_slot : Handle → ℕ → World → World
with_slot h slot w = record w { components = map (reseated h slot) w.components }

-- Both got a handle, of one generation, and the worlds are equal but for its slot.
pub record GotAlike (r s : Reply) (u v : World) : Type 0 where
  pub first : Handle
  pub second : Handle
  pub one : r ≡ acts.Got (Ok first)
  pub other : s ≡ acts.Got (Ok second)
  pub generation : second.generation ≡ first.generation
  pub worlds : v ≡ with_slot first second.slot u

-- In the world w one act was answered by r and led to u, or was answered by s and led to v.
pub data AreAlike (w : World) (r : Reply) (u : World) (s : Reply) (v : World) : Type 0 where
  Equal : s ≡ r → v ≡ u → AreAlike w r u s v
  FirstWants : WantsMemory r → u ≡ w → AreAlike w r u s v
  SecondWants : WantsMemory s → v ≡ w → AreAlike w r u s v
  GotBoth : GotAlike r s u v → AreAlike w r u s v
