-- The number of frames of a step, as the rule of parts has it: the least of the frames in each claimed header that isn't
-- ending, of those that fit each output, and for a source of those left in its file; none where a part that is no source
-- has claimed ending headers alone.
use Rattle.std.specs.Prelude.{ℕ, zero, suc, ◌-◌, min, Bool, false, not, ◌&&◌, ◌||◌, nat_eq, if◌then◌else◌, List, [], ◌∷◌, Option, Some, None}
use Rattle.play_model.specs.Network.{Network, Filled, Flow}

-- it has the end of the stream and no frames
abbrev pub is_ending : Filled → Bool
is_ending h = nat_eq h.frames 0 && h.last

-- the front header isn't ending
abbrev pub is_going : List Filled → Bool
is_going [] = false
is_going (h ∷ hs) = not (is_ending h)

-- the frames in the front header, where it isn't ending
abbrev pub front_limit : List Filled → Option ℕ
front_limit [] = None
front_limit (h ∷ hs) = if is_ending h then None else Some h.frames

-- what a link at one of the component's ports allows
abbrev pub limit_of : Network → Flow → ℕ → ℕ → Option ℕ
limit_of net s c l =
    if nat_eq (net.taker l) c then (if (s.link l).closed then None else front_limit (s.link l).held)
    else (if nat_eq (net.giver l) c then Some (net.fits l) else None)

abbrev pub lesser : Option ℕ → Option ℕ → Option ℕ
lesser None b = b
lesser (Some a) None = Some a
lesser (Some a) (Some b) = Some (min a b)

abbrev pub least_below : (ℕ → Option ℕ) → ℕ → Option ℕ
least_below f zero = None
least_below f (suc k) = lesser (least_below f k) (f k)

-- a header that isn't ending would be claimed
abbrev pub goes_at : Network → Flow → ℕ → ℕ → Bool
goes_at net s c l = nat_eq (net.taker l) c && (not (s.link l).closed && is_going (s.link l).held)

abbrev pub any_below : (ℕ → Bool) → ℕ → Bool
any_below p zero = false
any_below p (suc k) = any_below p k || p k

abbrev pub at_most : ℕ → Option ℕ → ℕ
at_most a None = a
at_most a (Some b) = min a b

abbrev pub or_none : Option ℕ → ℕ
or_none None = 0
or_none (Some a) = a

abbrev pub step_frames : Network → Flow → ℕ → ℕ
step_frames net s c =
    if net.is_source c then at_most (net.frames c - s.done c) (least_below (limit_of net s c) net.links)
    else (if any_below (goes_at net s c) net.links then or_none (least_below (limit_of net s c) net.links) else 0)
