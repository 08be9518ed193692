-- What a source's steps read, one after another: the frames of its file.
use Rattle.std.specs.Prelude.{◌≡◌, ℕ, ◌-◌, ◌*◌, ◌≤◌, List, [], ◌∷◌, Option}
use Rattle.omx_types.specs.declared.format.Format.{Format}
use Rattle.omx_types.specs.Formats.{frame_bytes_of}
use Rattle.part_api.specs.Steps.{ComesFirst}
use Rattle.part_forms.specs.Files.{rest_of}
use Rattle.audio_parts.specs.WholeFiles.{Piece}

-- what a file still gives: its bytes, where they are told, and how many frames
pub record Remaining : Type 0 where
  pub rest : Option (List ℕ)
  pub left : ℕ

-- a file of so many frames, from an offset on
abbrev pub unread : Option (List ℕ) → ℕ → Format → ℕ → Remaining
unread told offset format frames = record { rest = rest_of told offset (frames * frame_bytes_of format); left = frames }

-- a step read this piece
pub record ReadPiece (before : Remaining) (piece : Piece) (after : Remaining) : Type 0 where
  pub enough : piece.frames ≤ before.left
  pub first : ComesFirst piece.bytes before.rest after.rest
  pub fewer : after.left ≡ before.left - piece.frames

-- steps read these pieces
abbrev pub ReadAll : Remaining → List Piece → Remaining → Type 0
ReadAll before [] after = after ≡ before
ReadAll before (piece ∷ pieces) after = (between : Remaining) × ReadPiece before piece between × ReadAll between pieces after
