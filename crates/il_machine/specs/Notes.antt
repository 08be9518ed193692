-- Notes are given to the client, one at a time, with the client object.
use Rattle.std.specs.Prelude.{◌≡◌, ℕ, Bool, true, false, [], ◌∷◌, ◌++◌, drop, slice_get, Option, Some, None, Result, Ok, MatchOption}
use Rattle.omx_types.specs.declared.handle.Handle.{Handle}
use Rattle.omx_types.specs.declared.error.OmxError.{OmxError}
use Rattle.omx_types.specs.declared.command.Event.{Event}
use Rattle.omx_types.specs.declared.command.Note.{Note}
use Rattle.omx_types.specs.declared.command.Note.TheVariants as notes
use Rattle.il_machine.specs.declared.header.Owner.TheVariants as owners
use Rattle.il_machine.specs.World.{Component, World, number_of, place_of, with_component}
use Rattle.il_machine.specs.Headers.{given_to, changed}
use Rattle.il_machine.specs.Buffers.{Held, held, AtHeader}
use Rattle.il_machine.specs.Due.{ClosesTo}
use Rattle.il_machine.specs.Answers.{plain, Resolving}

-- what a note tells; a header in it is with the client from then on
pub data Taken : Type 0 where
  TakenEvent : (event : Event) → Taken
  TakenEmpty : (header : Held) → Taken
  TakenFilled : (header : Held) → Taken

-- the oldest note, no note, or the client object is out
pub data Took : Type 0 where
  TookNote : (taken : Taken) → Took
  TookNone : Took
  TookBusy : Took

abbrev pub first_taken : Component → Component
first_taken c = record c { notes = drop 1 c.notes; client_out = true }

-- the oldest note goes from queued to given, and the client object is out
abbrev pub with_given : ℕ → Component → Note → World → World
with_given i c note w = record (with_component i (first_taken c) w) { given = w.given ++ record { component = number_of c; note = note } ∷ [] }

abbrev pub with_client : ℕ → World → World
with_client number w = record w { headers = changed number (given_to owners.Client) w.headers }

-- the note with what it takes along
abbrev pub TakesHeader : World → ℕ → Component → Note → ℕ → (Held → Taken) → Result Took OmxError → World → Type 0
TakesHeader w i c note number taken result v = AtHeader number w (λ r.
    (result ≡ Ok (TookNote (taken (held r)))) × ClosesTo (with_client number (with_given i c note w)) v)

abbrev pub TakeFrom : World → ℕ → Component → Bool → Option Note → Result Took OmxError → World → Type 0
TakeFrom w i c true oldest result v = (result ≡ Ok TookBusy) × (v ≡ w)
TakeFrom w i c false None result v = (result ≡ Ok TookNone) × (v ≡ w)
TakeFrom w i c false (Some (notes.Told event)) result v =
    (result ≡ Ok (TookNote (TakenEvent event))) × ClosesTo (with_given i c (notes.Told event) w) v
TakeFrom w i c false (Some (notes.EmptyDone number)) result v = TakesHeader w i c (notes.EmptyDone number) number TakenEmpty result v
TakeFrom w i c false (Some (notes.FillDone number)) result v = TakesHeader w i c (notes.FillDone number) number TakenFilled result v

abbrev pub TakeNote : World → Handle → Result Took OmxError → World → Type 0
TakeNote w h result v = Resolving plain w h result v (λ i c. TakeFrom w i c c.client_out (slice_get c.notes 0) result v)

-- ---- end_note

abbrev pub back_in : Component → Component
back_in c = record c { client_out = false }

-- The client object is in again. The handle names a component whose client object is out, by condition.
abbrev pub EndNote : World → Handle → World → Type 0
EndNote w h v = MatchOption (place_of h w.components) ⊥ (λ i. MatchOption (slice_get w.components i) ⊥ (λ c.
    ClosesTo (with_component i (back_in c) w) v))
