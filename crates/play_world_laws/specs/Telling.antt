-- What a component of a play tells, and what the conductor has heard of it. A note that is out stands as if it were still
-- queued: it was heard once its client object is given back.
use Rattle.std.specs.Prelude.{ℕ, zero, suc, Bool, true, false, List, [], ◌∷◌, ◌++◌, Option, Some, None}
use Rattle.omx_types.specs.declared.state.State.{State}
use Rattle.omx_types.specs.declared.command.Completion.TheVariants as completions
use Rattle.omx_types.specs.declared.command.Event.TheVariants.{CmdComplete}
use Rattle.omx_types.specs.declared.command.Note.{Note}
use Rattle.omx_types.specs.declared.command.Note.TheVariants.{Told}
use Rattle.il_machine.specs.declared.answer.Progress.{Progress}
use Rattle.il_machine.specs.Queued.{notes_given}
use Rattle.il_machine.specs.World.{Component, World, number_of}
use Rattle.il_machine.specs.Components.{no_progress, noted_by}
use Rattle.play_world_laws.specs.Standing.{target}

-- the last of the notes, and those before it
abbrev pub last_note : List Note → List Note
last_note [] = []
last_note (n ∷ []) = n ∷ []
last_note (n ∷ m ∷ notes) = last_note (m ∷ notes)

abbrev pub earlier_notes : List Note → List Note
earlier_notes [] = []
earlier_notes (n ∷ []) = []
earlier_notes (n ∷ m ∷ notes) = n ∷ earlier_notes (m ∷ notes)

-- the note that is out, and those that were heard, of the notes that were given
abbrev pub out_of : Bool → List Note → List Note
out_of true notes = last_note notes
out_of false notes = []

abbrev pub heard_of : Bool → List Note → List Note
heard_of true notes = earlier_notes notes
heard_of false notes = notes

-- the notes that weren't heard yet, that which is out in front
abbrev pub unheard : World → Component → List Note
unheard w c = out_of c.client_out (notes_given (number_of c) w) ++ c.notes

abbrev pub progress_by : List Note → Progress → Progress
progress_by [] p = p
progress_by (n ∷ notes) p = progress_by notes (noted_by n p)

-- the progress of the notes that were heard
abbrev pub heard : World → Component → Progress
heard w c = progress_by (heard_of c.client_out (notes_given (number_of c) w)) no_progress

-- ---- by phase and stage

-- the state is reached, and its completion not told
abbrev pub state_note : ℕ → ℕ → List Note
state_note phase (suc (suc (suc zero))) = Told (CmdComplete (completions.State (target phase))) ∷ []
state_note phase _ = []

-- the last state that was told
abbrev pub told_of : ℕ → Option State
told_of zero = None
told_of (suc phase) = Some (target (suc phase))

abbrev pub last_told : ℕ → ℕ → Option State
last_told zero stage = None
last_told (suc phase) zero = told_of phase
last_told (suc phase) (suc zero) = told_of phase
last_told (suc phase) (suc (suc zero)) = told_of phase
last_told (suc phase) (suc (suc (suc zero))) = told_of phase
last_told (suc phase) _ = told_of (suc phase)
