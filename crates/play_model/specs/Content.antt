-- The content of what flows: of each link the bytes that its input has taken, and those that are on their way in its
-- headers, in order. A step takes from the front of what is on its way to an input, and appends to what is on its way
-- from an output; headers that are handed on change neither.
use Rattle.std.specs.Prelude.{◌≡◌, ℕ, ◌-◌, ◌*◌, ◌<◌, true, false, nat_eq, nat_lt, nat_le, if◌then◌else◌, List, [], ◌∷◌, ◌++◌, length, take, drop, replicate}
use Rattle.play_model.specs.Network.{Network, IsInput, Filled, LinkState, Flow, queue, frames_in}
use Rattle.play_model.specs.Moves.{Move, moved}
use Rattle.play_model.specs.Moves.Move.{Step, Forward, Back}

-- ---- parts

-- what comes into a part: at each input, and from its file
pub record Incoming : Type 0 where
  pub input : ℕ → List ℕ
  pub file : List ℕ

-- a part, as far as its plain function goes
pub record Part : Type 0 where
  pub inputs : ℕ
  -- the bytes of a frame of an input, and of an output
  pub input_frame : ℕ
  pub output_frame : ℕ
  -- the plain function: what each output gets of whole streams
  pub plain : Incoming → ℕ → List ℕ

-- the one after the other
abbrev pub joined : Incoming → Incoming → Incoming
joined first second = record { input = λ i. first.input i ++ second.input i; file = first.file ++ second.file }

-- so many frames at each input, or of the file
pub record HasFrames (p : Part) (frames : ℕ) (x : Incoming) : Type 0 where
  pub input : (i : ℕ) → i < p.inputs → length (x.input i) ≡ frames * p.input_frame
  -- a part without inputs reads a file
  pub file : p.inputs ≡ 0 → length x.file ≡ frames * p.output_frame

-- The plain function of two stretches, one after the other, is that of the first and then that of the second; so many
-- frames in give so many frames out.
pub record IsPart (p : Part) : Type 0 where
  pub joins : (frames more : ℕ) (first second : Incoming) → HasFrames p frames first → HasFrames p more second → (output : ℕ) →
      p.plain (joined first second) output ≡ p.plain first output ++ p.plain second output
  pub sized : (frames : ℕ) (x : Incoming) → HasFrames p frames x → (output : ℕ) → length (p.plain x output) ≡ frames * p.output_frame

-- ---- what a network's components are

-- the parts of a network, the files of its sources, and which link is at which port
pub record Contents : Type 0 where
  pub part : ℕ → Part
  pub file : ℕ → List ℕ
  -- the number of a link's output at its giver, and the link at a taker's input
  pub output : ℕ → ℕ
  pub input : ℕ → ℕ → ℕ
  -- the bytes of a frame of a link
  pub unit : ℕ → ℕ

pub record AreContents (net : Network) (p : Contents) : Type 0 where
  pub parts : (c : ℕ) → IsPart (p.part c)
  pub inputs : (c i : ℕ) → i < (p.part c).inputs → IsInput net c (p.input c i) × (p.unit (p.input c i) ≡ (p.part c).input_frame)
  pub outputs : (l : ℕ) → l < net.links → p.unit l ≡ (p.part (net.giver l)).output_frame
  pub sources : (c : ℕ) → net.is_source c ≡ true → ((p.part c).inputs ≡ 0) × (length (p.file c) ≡ net.frames c * (p.part c).output_frame)
  pub others : (c : ℕ) → net.is_source c ≡ false → 0 < (p.part c).inputs

-- ---- the bytes of a link

pub record Streams : Type 0 where
  pub taken : ℕ → List ℕ
  pub flowing : ℕ → List ℕ

-- zeros behind it, up to that many bytes
abbrev pub padded : ℕ → List ℕ → List ℕ
padded size bytes = bytes ++ replicate (size - length bytes) 0

-- the frames that a step takes of the front header
abbrev pub front_taken : ℕ → List Filled → ℕ
front_taken n [] = 0
front_taken n (h ∷ rest) = if nat_le h.frames n then h.frames else n

-- the frames that a step of n frames takes of an input
abbrev pub frames_taken : ℕ → LinkState → ℕ
frames_taken n x = if x.closed then 0 else front_taken n x.held

-- what came into a component so far, shorter inputs with zeros behind them
abbrev pub came : Network → Contents → Flow → Streams → ℕ → Incoming
came net p s st c = record {
  input = λ i. if nat_lt i (p.part c).inputs then padded (s.done c * (p.part c).input_frame) (st.taken (p.input c i)) else [];
  file = if net.is_source c then take (s.done c * (p.part c).output_frame) (p.file c) else [];
}

-- what comes into a component in a step of n frames
abbrev pub piece : Network → Contents → Flow → Streams → ℕ → ℕ → Incoming
piece net p s st c n = record {
  input = λ i. if nat_lt i (p.part c).inputs
      then padded (n * (p.part c).input_frame) (take (frames_taken n (s.link (p.input c i)) * p.unit (p.input c i)) (st.flowing (p.input c i))) else [];
  file = if net.is_source c then take (n * (p.part c).output_frame) (drop (s.done c * (p.part c).output_frame) (p.file c)) else [];
}

-- the bytes after a move from s
abbrev pub streamed : Network → Contents → Flow → Move → Streams → Streams
streamed net p s (Step c n last) st = record {
  taken = λ l. if nat_eq (net.taker l) c then st.taken l ++ take (frames_taken n (s.link l) * p.unit l) (st.flowing l) else st.taken l;
  flowing = λ l. if nat_eq (net.taker l) c then drop (frames_taken n (s.link l) * p.unit l) (st.flowing l)
      else (if nat_eq (net.giver l) c then st.flowing l ++ (p.part c).plain (piece net p s st c n) (p.output l) else st.flowing l);
}
streamed net p s (Forward l) st = st
streamed net p s (Back l) st = st

abbrev pub all_streamed : Network → Contents → Flow → List Move → Streams → Streams
all_streamed net p s [] st = st
all_streamed net p s (m ∷ ms) st = all_streamed net p (moved net m s) ms (streamed net p s m st)

-- What an input has taken, followed by what is on its way, is what the giver's plain function gives of what came into it.
pub record IsStream (net : Network) (p : Contents) (s : Flow) (st : Streams) (l : ℕ) : Type 0 where
  pub given : st.taken l ++ st.flowing l ≡ (p.part (net.giver l)).plain (came net p s st (net.giver l)) (p.output l)
  pub taken : length (st.taken l) ≡ (s.link l).taken * p.unit l
  pub flowing : length (st.flowing l) ≡ frames_in (queue (s.link l)) * p.unit l

abbrev pub AreStreams : Network → Contents → Flow → Streams → Type 0
AreStreams net p s st = (l : ℕ) → l < net.links → IsStream net p s st l

-- ---- the plain function of the whole

-- what comes into a component in all, of the links' whole streams
abbrev pub whole : Network → Contents → (ℕ → List ℕ) → ℕ → Incoming
whole net p stream c = record {
  input = λ i. if nat_lt i (p.part c).inputs then padded (net.frames c * (p.part c).input_frame) (stream (p.input c i)) else [];
  file = if net.is_source c then p.file c else [];
}

-- the stream of each link is what the plain function of its giver gives of the streams that come into it
abbrev pub ArePlain : Network → Contents → (ℕ → List ℕ) → Type 0
ArePlain net p stream = (l : ℕ) → l < net.links → stream l ≡ (p.part (net.giver l)).plain (whole net p stream (net.giver l)) (p.output l)

-- nothing was taken, and nothing is on its way
pub record AreEmpty (st : Streams) : Type 0 where
  pub taken : (l : ℕ) → st.taken l ≡ []
  pub flowing : (l : ℕ) → st.flowing l ≡ []

-- a front of a list, behind which so many bytes are left
pub record IsFrontOf (front all : List ℕ) (left : ℕ) : Type 0 where
  pub rest : List ℕ
  pub is : front ++ rest ≡ all
  pub size : length rest ≡ left
