-- What comes into a part, and what a part is. Frames are seen as their bytes: the bytes of a piece say its samples.
use Rattle.std.specs.Prelude.{◌≡◌, ℕ, ◌*◌, ◌<◌, ◌==◌, if◌then◌else◌, List, [], ◌++◌, length, replicate}

pub record Incoming : Type 0 where
  -- the frames of each input, by its number
  pub input : ℕ → List ℕ
  -- those that the part reads of its file
  pub file : List ℕ

-- what a part is, while its settings stay
pub record Shape : Type 0 where
  pub inputs : ℕ
  pub outputs : ℕ
  -- the samples of a frame
  pub channels : ℕ
  -- the bytes of a frame of an input, and of an output
  pub input_frame : ℕ
  pub output_frame : ℕ
  -- the plain function: what each output gets of whole streams
  pub plain : Incoming → ℕ → List ℕ

-- the frames of one step, and the bytes of each input's and each output's piece
pub record Sizes : Type 0 where
  pub frames : ℕ
  pub input : ℕ
  pub output : ℕ

abbrev pub sizes_of : Shape → ℕ → Sizes
sizes_of shape frames = record { frames = frames; input = frames * shape.input_frame; output = frames * shape.output_frame }

-- as long as nothing came, everything is zeros
abbrev pub silence : Sizes → Incoming
silence sizes = record { input = λ input. replicate sizes.input 0; file = replicate sizes.output 0 }

-- an input gave this piece
abbrev pub with_input : ℕ → List ℕ → Incoming → Incoming
with_input input piece incoming =
    record { input = λ other. if other == input then piece else incoming.input other; file = incoming.file }

-- the file gave this piece
abbrev pub with_file : List ℕ → Incoming → Incoming
with_file piece incoming = record { input = incoming.input; file = piece }

-- one after the other, in each stream
abbrev pub joined : Incoming → Incoming → Incoming
joined first second =
    record { input = λ input. first.input input ++ second.input input; file = first.file ++ second.file }

abbrev pub nothing : Incoming
nothing = record { input = λ input. []; file = [] }

-- all inputs have this many frames
pub record HasFrames (shape : Shape) (frames : ℕ) (incoming : Incoming) : Type 0 where
  pub input : (input : ℕ) → input < shape.inputs → length (incoming.input input) ≡ frames * shape.input_frame
