-- The notes that were given for a component: which act adds one, and which removes all.
use Rattle.std.specs.Prelude.{◌≡◌, ◌<◌, ℕ, Bool, false, nat_eq, All, Option, Some, None, Ok, if◌then◌else◌}
use Rattle.omx_types.specs.declared.command.Note.{Note}
use Rattle.omx_types.specs.declared.command.Note.TheVariants.{Told, EmptyDone, FillDone}
use Rattle.il_machine.specs.World.{World}
use Rattle.il_machine.specs.Notes.{Taken, TakenEvent, TakenEmpty, TakenFilled, TookNote}
use Rattle.il_machine.specs.Acts.{Act, Reply}
use Rattle.il_machine.specs.Acts as acts

-- each note was given for a component that was numbered, as `Stands` of il_machine has it
abbrev pub IsGivenToNumbered : World → Type 0
IsGivenToNumbered w = All (λ g. g.component < w.numbered) w.given

-- the note that was told; that of a header has its number
abbrev pub note_of : Taken → Note
note_of (TakenEvent event) = Told event
note_of (TakenEmpty header) = EmptyDone header.number
note_of (TakenFilled header) = FillDone header.number

-- the note that the act gave for the component of the number
abbrev pub note_for : ℕ → Act → Reply → Option Note
note_for number (acts.TakeNote h) (acts.Took (Ok (TookNote taken))) = if nat_eq h.generation number then Some (note_of taken) else None
note_for number _ _ = None

-- the act freed the component of the number; one that was refused freed none
abbrev pub is_freed_by : ℕ → Act → Reply → Bool
is_freed_by number (acts.FreeHandle h) (acts.Removed (Ok file)) = nat_eq h.generation number
is_freed_by number _ _ = false

-- the act gave no note for the component of the number, and didn't free it
abbrev pub LeavesNotes : ℕ → Act → Reply → Type 0
LeavesNotes number a r = (note_for number a r ≡ None) × (is_freed_by number a r ≡ false)
