-- The account of a link, and what is kept of components beside it. It speaks of filled headers alone, so making, unmaking
-- and moving a clear one keeps it.
use Rattle.std.specs.Prelude.{◌≡◌, ℕ, ◌+◌, ◌<◌, ◌≤◌, ◌⊎◌, Bool, true, false, List, [], ◌∷◌}
use Rattle.play_model.specs.Network.{Network, IsInput, IsOutput, Filled, Flow, queue, frames_in, headers_of}

-- Of the filled headers of a link whose input hasn't ended, the last one has the end of the stream exactly where the
-- giver has ended, and no other has it.
abbrev pub EndsWith : Bool → List Filled → Type 0
EndsWith over [] = over ≡ false
EndsWith over (h ∷ []) = h.last ≡ over
EndsWith over (h ∷ k ∷ rest) = (h.last ≡ false) × EndsWith over (k ∷ rest)

-- a header that is on its way has frames, or the end of the stream, or both
abbrev pub IsFilled : Filled → Type 0
IsFilled h = (0 < h.frames) ⊎ (h.last ≡ true)

abbrev pub AreFilled : List Filled → Type 0
AreFilled [] = Unit {0}
AreFilled (h ∷ hs) = IsFilled h × AreFilled hs

-- The account of one link, over what it speaks of: the frames that the giver has done and whether it has ended, the
-- frames that the taker has done, those that the input has taken and whether it has ended, and the filled headers in
-- their order.
pub record Account (given : ℕ) (over : Bool) (reached taken : ℕ) (closed : Bool) (filled : List Filled) : Type 0 where
  -- what was given is what was taken and what is on its way
  pub balance : given ≡ taken + frames_in filled
  -- an input that hasn't ended has taken what its component has done, and never more
  pub level : closed ≡ false → taken ≡ reached
  pub behind : taken ≤ reached
  -- the end of the stream stands in the last header on its way, once the giver has ended
  pub ends : closed ≡ false → EndsWith over filled
  -- an input that has ended has nothing on its way to it, and its giver has ended
  pub after : closed ≡ true → (filled ≡ []) × (over ≡ true)
  -- no clear header is on its way
  pub carries : AreFilled filled

abbrev pub HasAccount : Network → Flow → ℕ → Type 0
HasAccount net s l =
    let x = s.link l in
    Account (s.done (net.giver l)) (s.ended (net.giver l)) (s.done (net.taker l)) x.taken x.closed (queue x)

-- A source is within its file, and has ended only at the file's end. Another component has ended exactly where all its
-- inputs have, and has done as many frames as one of them has taken.
pub record IsKept (net : Network) (s : Flow) (c : ℕ) : Type 0 where
  pub source : net.is_source c ≡ true → (s.done c ≤ net.frames c) × (s.ended c ≡ true → s.done c ≡ net.frames c)
  pub over : net.is_source c ≡ false → s.ended c ≡ true → (l : ℕ) → IsInput net c l → (s.link l).closed ≡ true
  pub going : net.is_source c ≡ false → s.ended c ≡ false → (l : ℕ) × IsInput net c l × ((s.link l).closed ≡ false)
  pub longest : net.is_source c ≡ false → (l : ℕ) × IsInput net c l × ((s.link l).taken ≡ s.done c)

pub record IsSound (net : Network) (s : Flow) : Type 0 where
  pub links : (l : ℕ) → l < net.links → HasAccount net s l
  pub components : (c : ℕ) → c < net.components → IsKept net s c

-- as many headers are made for each link as its count
abbrev pub IsFull : Network → Flow → Type 0
IsFull net s = (l : ℕ) → l < net.links → headers_of (s.link l) ≡ net.count l

-- as many headers are made for each link that the component gives into
abbrev pub HasFullOutputs : Network → Flow → ℕ → Type 0
HasFullOutputs net s c = (l : ℕ) → IsOutput net c l → headers_of (s.link l) ≡ net.count l

-- nothing was done yet: each header that is made is clear
pub record IsOpening (net : Network) (s : Flow) : Type 0 where
  pub done : (c : ℕ) → s.done c ≡ 0
  pub going : (c : ℕ) → s.ended c ≡ false
  pub empty : (l : ℕ) → queue (s.link l) ≡ []
  pub taken : (l : ℕ) → (s.link l).taken ≡ 0
  pub open_ : (l : ℕ) → (s.link l).closed ≡ false
