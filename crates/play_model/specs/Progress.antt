-- Which component goes on next, what is left to be done, and where all is done.
use Rattle.std.specs.Prelude.{[], ◌≡◌, ℕ, zero, suc, ◌+◌, ◌-◌, ◌*◌, ◌<◌, ◌≤◌, ◌⊎◌, true, false, if◌then◌else◌, length}
use Rattle.play_model.specs.Network.{Network, IsInput, IsOutput, Flow, queue}
use Rattle.play_model.specs.Moves.{CanClaim, CanForward, CanBack}

-- Of the components that haven't ended those with the fewest frames done, of them the first in the order of placing.
pub record IsFirst (net : Network) (s : Flow) (c : ℕ) : Type 0 where
  pub inside : c < net.components
  pub going : s.ended c ≡ false
  pub fewest : (k : ℕ) → k < net.components → s.ended k ≡ false → (s.done c < s.done k) ⊎ ((s.done c ≡ s.done k) × (c ≤ k))

abbrev pub IsLinkOf : Network → ℕ → ℕ → Type 0
IsLinkOf net c l = IsInput net c l ⊎ IsOutput net c l

-- its claim, or a header that goes on or comes back on one of its links
abbrev pub IsEnabled : Network → Flow → ℕ → Type 0
IsEnabled net s c = CanClaim net s c ⊎ ((l : ℕ) × IsLinkOf net c l × (CanForward net s l ⊎ CanBack net s l))

abbrev pub AllEnded : Network → Flow → Type 0
AllEnded net s = (c : ℕ) → c < net.components → s.ended c ≡ true

abbrev pub sum_to : ℕ → (ℕ → ℕ) → ℕ
sum_to zero f = 0
sum_to (suc k) f = sum_to k f + f k

-- the frames that a component hasn't done yet, and one where it hasn't ended
abbrev pub left_of : Network → Flow → ℕ → ℕ
left_of net s c = (net.frames c - s.done c) + (if s.ended c then 0 else 1)

abbrev pub work_left : Network → Flow → ℕ
work_left net s = sum_to net.components (left_of net s)

-- the headers in the two lists done of a link
abbrev pub waiting_of : Flow → ℕ → ℕ
waiting_of s l = length (s.link l).sent + (s.link l).spent

abbrev pub waiting : Network → Flow → ℕ
waiting net s = sum_to net.links (waiting_of s)

abbrev pub all_headers : Network → ℕ
all_headers net = sum_to net.links net.count

-- the two numbers as one, since no more headers wait than there are
abbrev pub moves_left : Network → Flow → ℕ
moves_left net s = work_left net s * (all_headers net + 1) + waiting net s

-- t comes before s: less work is left, or as much and fewer headers wait
abbrev pub IsLess : Network → Flow → Flow → Type 0
IsLess net t s = (work_left net t < work_left net s) ⊎ ((work_left net t ≡ work_left net s) × (waiting net t < waiting net s))

-- every component has done its frames, and no header carries any
pub record IsComplete (net : Network) (s : Flow) : Type 0 where
  pub done : (c : ℕ) → c < net.components → s.done c ≡ net.frames c
  pub empty : (l : ℕ) → l < net.links → queue (s.link l) ≡ []
