-- What a sink's steps write, one after another: the text of a whole file.
use Rattle.std.specs.Prelude.{◌≡◌, ℕ, ◌+◌, ◌*◌, false, nat_le, if◌then◌else◌, List, [], ◌∷◌, ◌++◌, length, take, Option}
use Rattle.std.specs.Io.KnownBytes.{append_known}
use Rattle.omx_types.specs.declared.format.Format.{Format}
use Rattle.omx_types.specs.Formats.{frame_bytes_of}
use Rattle.part_forms.specs.Writing.{head_of, pad_of}
use Rattle.part_api.specs.Terms.{Writing, begun, written}
use Rattle.part_forms.specs.Sinking.{writes_of}

-- the frames of one step
pub record Piece : Type 0 where
  pub frames : ℕ
  pub bytes : List ℕ

-- they are whole frames of the format
abbrev pub IsOfWholeFrames : Format → Piece → Type 0
IsOfWholeFrames format piece = length piece.bytes ≡ piece.frames * frame_bytes_of format

-- neither the head nor a frame is written
pub record IsUnwritten (w : Writing) : Type 0 where
  pub head : w.headed ≡ false
  pub frames : w.left ≡ w.planned

-- a step with this piece, begun before and written after, gave its file this text
pub record Wrote (before : Option Writing) (piece : Piece) (text : List ℕ) (after : Option Writing) : Type 0 where
  pub text_is : text ≡ writes_of (begun piece.frames before) piece.bytes
  pub after_is : after ≡ written (begun piece.frames before)

-- steps with these pieces gave their texts, which are joined
abbrev pub WroteAll : Option Writing → List Piece → List ℕ → Option Writing → Type 0
WroteAll before [] text after = (text ≡ []) × (after ≡ before)
WroteAll before (piece ∷ pieces) text after =
    (between : Option Writing) × (first : List ℕ) × (rest : List ℕ) × (text ≡ first ++ rest) × Wrote before piece first between × WroteAll between pieces rest after

-- steps with these pieces left a file that had the first bytes with the second ones
abbrev pub KeptAll : Option Writing → Option (List ℕ) → List Piece → Option Writing → Option (List ℕ) → Type 0
KeptAll before old [] after new = (after ≡ before) × (new ≡ old)
KeptAll before old (piece ∷ pieces) after new =
    (between : Option Writing) × (kept : Option (List ℕ)) × (kept ≡ append_known old (writes_of (begun piece.frames before) piece.bytes))
    × (between ≡ written (begun piece.frames before)) × KeptAll between kept pieces after new

abbrev pub frames_in : List Piece → ℕ
frames_in [] = 0
frames_in (piece ∷ pieces) = piece.frames + frames_in pieces

abbrev pub bytes_in : List Piece → List ℕ
bytes_in [] = []
bytes_in (piece ∷ pieces) = piece.bytes ++ bytes_in pieces

-- the frames up to the planned number, and behind the last planned one a zero byte where their bytes are odd
abbrev pub planned_of : Format → ℕ → List Piece → List ℕ
planned_of format planned pieces =
    take (planned * frame_bytes_of format) (bytes_in pieces)
    ++ (if nat_le planned (frames_in pieces) then pad_of (planned * frame_bytes_of format) else [])

-- the first step writes the head
abbrev pub text_of : Format → ℕ → List Piece → List ℕ
text_of format planned [] = []
text_of format planned (piece ∷ pieces) = head_of format planned ++ planned_of format planned (piece ∷ pieces)
