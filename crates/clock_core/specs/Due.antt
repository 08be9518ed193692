-- The requests that are due at a moment, and their notes.
use Rattle.std.specs.Prelude.{◌≡◌, ℕ, ◌≤◌, ◌<◌, max, not, ◌⊎◌, List, [], ◌∷◌, map, filter, drop, Option, Some, None}
use Rattle.clock_core.specs.Clock.{is_due_at}
use Rattle.clock_core.specs.Pace.{first_at}
use Rattle.clock_core.specs.declared.act.Fulfilled.{Fulfilled}
use Rattle.clock_core.specs.declared.act.Request.{Request}
use Rattle.clock_core.specs.declared.pace.Pace.{Pace}

-- none of the requests has a lesser media time
abbrev pub AllFrom : ℕ → List Request → Type 0
AllFrom media [] = Unit {0}
AllFrom media (request ∷ requests) = (media ≤ request.media) × AllFrom media requests

-- by rising media time
abbrev pub AreInOrder : List Request → Type 0
AreInOrder [] = Unit {0}
AreInOrder (request ∷ requests) = AllFrom request.media requests × AreInOrder requests

-- the front request is due, or none is
abbrev pub FrontIs : ℕ → List Request → Option Request → Type 0
FrontIs reached requests None = (requests ≡ []) ⊎ ((first : Request) × (rest : List Request) × (requests ≡ first ∷ rest) × (reached < first.media))
FrontIs reached requests (Some first) = (requests ≡ first ∷ drop 1 requests) × (first.media ≤ reached)

abbrev pub first_of : Option Pace → ℕ → ℕ
first_of None media = 0
first_of (Some pace) media = first_at pace media

-- the note of a request, at the first moment from one on
abbrev pub note_from : Option Pace → ℕ → Request → Fulfilled
note_from pace earliest request = record { id = request.id; wall = max (first_of pace request.media) earliest }

abbrev pub due_until : Option Pace → ℕ → List Request → List Request
due_until pace wall = filter (is_due_at pace wall)

abbrev pub left_after : Option Pace → ℕ → List Request → List Request
left_after pace wall = filter (λ (request : Request). not (is_due_at pace wall request))

abbrev pub notes_until : Option Pace → ℕ → ℕ → List Request → List Fulfilled
notes_until pace earliest wall requests = map (note_from pace earliest) (due_until pace wall requests)
