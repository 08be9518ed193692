-- The steps of a run, and what was due in them.
use Rattle.std.specs.Prelude.{◌≡◌, ℕ, List, ◌∷◌, ◌++◌, Contains}
use Rattle.omx_types.specs.declared.command.Completion.{Completion}
use Rattle.omx_types.specs.declared.command.Note.{Note}
use Rattle.il_machine.specs.World.{World}
use Rattle.il_machine.specs.Acts.{Act, Reply}
use Rattle.il_machine.specs.Run.{Step, Meets, Run}
use Rattle.il_machine.specs.Effect.{effect}
use Rattle.il_machine.specs.Queued.{queued_for, completions_in, WasDue}

-- A refused act, one that answers Idle or wants memory, has no effect and leaves the world as it was.
abbrev pub IsUnchanged : (w effected v : World) → Type 0
IsUnchanged w effected v = (effected ≡ w) × (v ≡ w)

-- one step of the run from w by xs to v
pub record IsStepOf (w : World) (xs : List (Act × Reply)) (v : World) : Type 0 where
  pub earlier : List (Act × Reply)
  pub act : Act
  pub reply : Reply
  pub later : List (Act × Reply)
  pub before : World
  pub after : World
  pub parts : xs ≡ earlier ++ (act, reply) ∷ later
  pub reached : Run w earlier before
  pub meets : Meets before act
  pub step : Step before act reply after
  pub goes_on : Run after later v

-- The completion was due in the close-out of one of the steps.
abbrev pub WasDueIn : World → List (Act × Reply) → World → ℕ → Completion → Type 0
WasDueIn w xs v number x = (s : IsStepOf w xs v) × WasDue (effect s.before s.act s.reply) s.after number x

-- What is queued for a component grows at its end, and each completion among what is new was due in the close-out of one of the steps.
pub record RunQueues (w : World) (xs : List (Act × Reply)) (v : World) (number : ℕ) : Type 0 where
  pub added : List Note
  pub grows : queued_for number v ≡ queued_for number w ++ added
  pub due : (x : Completion) → Contains (completions_in added) x → WasDueIn w xs v number x
