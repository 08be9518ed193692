-- What changes a flow: a step of a component, a filled header that goes on, a clear one that comes back. The two ends of
-- a link differ in who supplies the headers, and so in whether a header that goes on is handed over or handed back; here
-- it goes on.
use Rattle.std.specs.Prelude.{◌≡◌, ℕ, ◌+◌, ◌-◌, ◌<◌, ◌≤◌, ◌⊎◌, Bool, true, false, nat_eq, nat_le, if◌then◌else◌, List, [], ◌∷◌, ◌++◌}
use Rattle.play_model.specs.Network.{Network, IsInput, IsOutput, Filled, LinkState, Flow}

-- ---- one link

-- the front of done of the output goes to the back of todo of the input: by hand_over where the output supplies, else by
-- hand_back
abbrev pub sent_on : List Filled → LinkState → LinkState
sent_on [] x = x
sent_on (h ∷ rest) x = record x { sent = rest; held = x.held ++ h ∷ [] }

-- the front of done of the input goes to the back of todo of the output: by hand_back where the output supplies, else by
-- hand_over
abbrev pub sent_back : LinkState → LinkState
sent_back x = record x { spent = x.spent - 1; ready = x.ready + 1 }

-- A step takes n frames out of the front header. One that has no frames left is spent, and with the end of the stream its
-- input has ended.
abbrev pub took_front : ℕ → List Filled → LinkState → LinkState
took_front n [] x = x
took_front n (h ∷ rest) x =
    if nat_le h.frames n
    then record x { held = rest; spent = x.spent + 1; taken = x.taken + h.frames; closed = h.last }
    else record x { held = record h { frames = h.frames - n } ∷ rest; taken = x.taken + n }

abbrev pub took : ℕ → LinkState → LinkState
took n x = if x.closed then x else took_front n x.held x

-- A step puts n frames into a clear header, with the end of the stream or not.
abbrev pub gave : ℕ → Bool → LinkState → LinkState
gave n last x = record x { ready = x.ready - 1; sent = x.sent ++ record { frames = n; last = last } ∷ [] }

-- ---- the flow

-- one link is changed, all else stays
abbrev pub with_link : ℕ → (LinkState → LinkState) → Flow → Flow
with_link l change s = record s { link = λ k. if nat_eq k l then change (s.link k) else s.link k }

-- a component has done n frames: it took them out of each input that hasn't ended, and gave them into each output
abbrev pub stepped : Network → ℕ → ℕ → Bool → Flow → Flow
stepped net c n last s = record {
  done = λ k. if nat_eq k c then s.done k + n else s.done k;
  ended = λ k. if nat_eq k c then last else s.ended k;
  link = λ l. if nat_eq (net.taker l) c then took n (s.link l) else (if nat_eq (net.giver l) c then gave n last (s.link l) else s.link l);
}

-- the header has the end of the stream and no frames
abbrev pub IsEnding : Filled → Type 0
IsEnding h = (h.frames ≡ 0) × (h.last ≡ true)

-- the front of what is held passes
abbrev pub IsFront : (Filled → Type 0) → List Filled → Type 0
IsFront P [] = ⊥
IsFront P (h ∷ rest) = P h

-- an input that hasn't ended
pub record IsOpen (net : Network) (s : Flow) (c l : ℕ) : Type 0 where
  pub input : IsInput net c l
  pub open_ : (s.link l).closed ≡ false

-- The component may claim: it hasn't ended, each of its inputs that hasn't ended has a header, and each output has one.
pub record CanClaim (net : Network) (s : Flow) (c : ℕ) : Type 0 where
  pub inside : c < net.components
  pub going : s.ended c ≡ false
  pub inputs : (l : ℕ) → IsOpen net s c l → IsFront (λ h. Unit {0}) (s.link l).held
  pub outputs : (l : ℕ) → IsOutput net c l → 0 < (s.link l).ready

-- How many frames a step does: no more than are in a claimed header that isn't ending, than fit an output, or than the
-- source has left. It is none only where the source has none left, or each claimed input is ending.
pub record HasNumber (net : Network) (s : Flow) (c n : ℕ) : Type 0 where
  pub inputs : (l : ℕ) → IsOpen net s c l → IsFront (λ h. (n ≤ h.frames) ⊎ IsEnding h) (s.link l).held
  pub outputs : (l : ℕ) → IsOutput net c l → n ≤ net.fits l
  pub source : net.is_source c ≡ true → (s.done c + n ≤ net.frames c) × ((0 < n) ⊎ (s.done c ≡ net.frames c))
  pub other : net.is_source c ≡ false →
      ((0 < n) × ((l : ℕ) × IsOpen net s c l × IsFront (λ h. n ≤ h.frames) (s.link l).held))
      ⊎ ((n ≡ 0) × ((l : ℕ) → IsOpen net s c l → IsFront IsEnding (s.link l).held))

-- It is the last step where the source has none left, or all inputs have then ended.
pub record IsLastStep (net : Network) (s : Flow) (c n : ℕ) (last : Bool) : Type 0 where
  pub source : net.is_source c ≡ true → last ≡ nat_eq (s.done c + n) (net.frames c)
  pub all : net.is_source c ≡ false → last ≡ true → (l : ℕ) → IsInput net c l → (took n (s.link l)).closed ≡ true
  pub some : net.is_source c ≡ false → last ≡ false → (l : ℕ) × IsInput net c l × ((took n (s.link l)).closed ≡ false)

pub data Move : Type 0 where
  -- a claim and its finish, with the frames done
  Step : ℕ → ℕ → Bool → Move
  Forward : ℕ → Move
  Back : ℕ → Move

-- a filled header waits in done of the output, a clear one in done of the input
abbrev pub CanForward : Network → Flow → ℕ → Type 0
CanForward net s l = (l < net.links) × IsFront (λ h. Unit {0}) (s.link l).sent

abbrev pub CanBack : Network → Flow → ℕ → Type 0
CanBack net s l = (l < net.links) × (0 < (s.link l).spent)

abbrev pub Can : Network → Flow → Move → Type 0
Can net s (Step c n last) = CanClaim net s c × HasNumber net s c n × IsLastStep net s c n last
Can net s (Forward l) = CanForward net s l
Can net s (Back l) = CanBack net s l

abbrev pub moved : Network → Move → Flow → Flow
moved net (Step c n last) s = stepped net c n last s
moved net (Forward l) s = with_link l (λ x. sent_on x.sent x) s
moved net (Back l) s = with_link l sent_back s

-- a list of moves, each one enabled
abbrev pub CanAll : Network → Flow → List Move → Type 0
CanAll net s [] = Unit {0}
CanAll net s (m ∷ ms) = Can net s m × CanAll net (moved net m s) ms

abbrev pub all_moved : Network → List Move → Flow → Flow
all_moved net [] s = s
all_moved net (m ∷ ms) s = all_moved net ms (moved net m s)
