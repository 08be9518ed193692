-- A network of components joined by links, and the state of what flows through it. A header of a link is in one of four
-- lists, the two of each of its ends. A clear one counts only by where it is, a filled one by its frames and whether it
-- has the end of the stream. A header that a work of its component has stands as if it were still at the front of its
-- list todo: so a claim changes nothing here, and a finish is the whole step.
use Rattle.std.specs.Prelude.{◌≡◌, ℕ, ◌+◌, ◌<◌, ◌≤◌, Bool, false, List, [], ◌∷◌, ◌++◌, length}

-- Components are named by their place in the order of placing, in which a giver stands before its taker; links by their
-- place in the list of links. Numbers beyond `components` and `links` stand for nothing.
pub record Network : Type 0 where
  pub components : ℕ
  pub links : ℕ
  -- the component that gives into the link, and the one that takes out of it
  pub giver : ℕ → ℕ
  pub taker : ℕ → ℕ
  -- how many headers the link has, and how many frames fit one
  pub count : ℕ → ℕ
  pub fits : ℕ → ℕ
  pub is_source : ℕ → Bool
  -- the frames that a component does in all
  pub frames : ℕ → ℕ

-- a link that the component takes out of
pub record IsInput (n : Network) (c l : ℕ) : Type 0 where
  pub below : l < n.links
  pub taken_by : n.taker l ≡ c

-- a link that the component gives into
pub record IsOutput (n : Network) (c l : ℕ) : Type 0 where
  pub below : l < n.links
  pub given_by : n.giver l ≡ c

pub record IsNetwork (n : Network) : Type 0 where
  -- a giver is placed before its taker, and both are components of the network
  pub order : (l : ℕ) → l < n.links → n.giver l < n.taker l
  pub inside : (l : ℕ) → l < n.links → n.taker l < n.components
  -- a link has a header, and a frame fits it
  pub count : (l : ℕ) → l < n.links → 0 < n.count l
  pub fits : (l : ℕ) → l < n.links → 0 < n.fits l
  -- a source takes out of no link
  pub unfed : (l : ℕ) → l < n.links → n.is_source (n.taker l) ≡ false
  -- a component that is no source has an input, and does as many frames as its longest
  pub frames : (l : ℕ) → l < n.links → n.frames (n.giver l) ≤ n.frames (n.taker l)
  pub longest : (c : ℕ) → c < n.components → n.is_source c ≡ false → (l : ℕ) × IsInput n c l × (n.frames (n.giver l) ≡ n.frames c)

-- a header that carries frames, or the end of the stream, or both
pub record Filled : Type 0 where
  pub frames : ℕ
  pub last : Bool

pub record LinkState : Type 0 where
  -- clear, in todo of the output (the first one perhaps in a work of its component)
  pub ready : ℕ
  -- filled, in done of the output
  pub sent : List Filled
  -- filled, in todo of the input (the first one perhaps in a work of its component)
  pub held : List Filled
  -- clear, in done of the input
  pub spent : ℕ
  -- the frames that the input has taken
  pub taken : ℕ
  -- the input has ended
  pub closed : Bool

pub record Flow : Type 0 where
  -- the frames that a component has done
  pub done : ℕ → ℕ
  pub ended : ℕ → Bool
  pub link : ℕ → LinkState

-- the filled headers of a link, in the order of the stream
abbrev pub queue : LinkState → List Filled
queue x = x.held ++ x.sent

abbrev pub frames_in : List Filled → ℕ
frames_in [] = 0
frames_in (h ∷ hs) = h.frames + frames_in hs

-- the headers that are made for the link
abbrev pub headers_of : LinkState → ℕ
headers_of x = x.ready + length (queue x) + x.spent
