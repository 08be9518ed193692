-- What a source's steps read, one after another, and what a sink's file kept of its steps.
use Rattle.std.proofs.Common.{◌≡◌, ℕ, ◌+◌, ◌*◌, ◌≤◌, List, [], ◌∷◌, ◌++◌, length, take, drop, refl, sym, ap, subst, ◌∙◌, arith, append_assoc, length-append}
use Rattle.std.proofs.lemmas.List.{append-nil, length-take}
use Rattle.std.specs.Prelude.{Option, Some}
use Rattle.std.specs.Io.KnownBytes.{append_known}
use Rattle.std.specs.List.{AllByRecursion}
use Rattle.omx_types.specs.declared.format.Format.{Format}
use Rattle.omx_types.specs.Formats.{IsWithinLimits, frame_bytes_of}
use Rattle.outside_io.specs.Moves.{WhereTold}
use Rattle.outside_io.proofs.Known.{append_known-nil, append_known-twice}
use Rattle.part_api.specs.Steps.{ComesFirst}
use Rattle.part_api.specs.Terms.{Writing, begun}
use Rattle.part_forms.specs.Files.{rest_of}
use Rattle.part_forms.specs.Sinking.{writes_of}
use Rattle.part_forms.specs.Writing.{written as file_of}
use Rattle.audio_parts.specs.WholeFiles.{IsUnwritten, IsOfWholeFrames, KeptAll, Piece, WroteAll, bytes_in, frames_in}
use Rattle.audio_parts.specs.WholeReads.{ReadAll, Remaining, unread}
use Rattle.audio_parts.proofs.WholeFiles.{bytes_are, whole_file}

-- the pieces come first, and the rest stays
pub read_joined : (before after : Remaining) (pieces : List Piece) → ReadAll before pieces after
    → WhereTold before.rest (λ all. (rest : List ℕ) × (after.rest ≡ Some rest) × (all ≡ bytes_in pieces ++ rest))
read_joined before after [] done all is = (all, ap (λ (r : Remaining). r.rest) done ∙ is, refl)
read_joined before after (piece ∷ pieces) (between, read, later) all is =
    let first : ComesFirst piece.bytes (Some all) between.rest = subst (λ (o : Option (List ℕ)). ComesFirst piece.bytes o between.rest) is read.first in
    let more = read_joined between after pieces later first.0 first.1 in
    (more.0, more.1, first.2 ∙ ap (λ l. piece.bytes ++ l) more.2 ∙ sym (append_assoc piece.bytes (bytes_in pieces) more.0))

frames_read : (before after : Remaining) (pieces : List Piece) → ReadAll before pieces after → before.left ≡ frames_in pieces + after.left
frames_read before after [] done = let same : after.left ≡ before.left = ap (λ (r : Remaining). r.left) done in omega arith
frames_read before after (piece ∷ pieces) (between, read, later) =
    let more = frames_read between after pieces later in
    let enough = read.enough in
    let fewer = read.fewer in
    omega arith

nothing_long : (bytes : List ℕ) → length bytes ≡ 0 → bytes ≡ []
nothing_long [] e = refl
nothing_long (byte ∷ bytes) e = absurd (omega arith)

-- a file that no frames are left of was read whole
pub read_whole : (told : Option (List ℕ)) (offset frames : ℕ) (format : Format) (pieces : List Piece) (after : Remaining) → AllByRecursion (IsOfWholeFrames format) pieces
    → ReadAll (unread told offset format frames) pieces after → after.left ≡ 0 → WhereTold told (λ bytes. bytes_in pieces ≡ take (frames * frame_bytes_of format) (drop offset bytes))
read_whole told offset frames format pieces after whole read over bytes is =
    let size = frames * frame_bytes_of format in
    let joined = read_joined (unread told offset format frames) after pieces read (take size (drop offset bytes)) (ap (λ (o : Option (List ℕ)). rest_of o offset size) is) in
    let count : frames ≡ frames_in pieces = frames_read (unread told offset format frames) after pieces read ∙ (let e : frames_in pieces + after.left ≡ frames_in pieces = omega (arith, over) in e) in
    let long : length (bytes_in pieces) ≡ size = bytes_are format pieces whole ∙ ap (λ n. n * frame_bytes_of format) (sym count) in
    let most : length (take size (drop offset bytes)) ≤ size = omega (arith, length-take size (drop offset bytes)) in
    let none : length joined.0 ≡ 0 = omega (arith, long, most, ap length joined.2, length-append (bytes_in pieces) joined.0) in
    sym (joined.2 ∙ ap (λ l. bytes_in pieces ++ l) (nothing_long joined.0 none) ∙ append-nil (bytes_in pieces))

-- ---- what a sink's file kept

kept_texts : (before after : Option Writing) (old new : Option (List ℕ)) (pieces : List Piece) → KeptAll before old pieces after new
    → (text : List ℕ) × WroteAll before pieces text after × (new ≡ append_known old text)
kept_texts before after old new [] (same, kept) = ([], (refl, same), kept ∙ sym (append_known-nil old))
kept_texts before after old new (piece ∷ pieces) (between, middle, kept, wrote, later) =
    let text = writes_of (begun piece.frames before) piece.bytes in
    let more = kept_texts between after middle new pieces later in (
      text ++ more.0,
      (between, text, more.0, refl, record { text_is = refl; after_is = wrote }, more.1),
      more.2 ∙ ap (λ (o : Option (List ℕ)). append_known o more.0) kept ∙ append_known-twice old text more.0,
    )

pub kept_whole : (before : Writing) (after : Option Writing) (old new : Option (List ℕ)) (pieces : List Piece) → IsUnwritten before → AllByRecursion (IsOfWholeFrames before.format) pieces
    → KeptAll (Some before) old pieces after new → IsWithinLimits before.format → 1 ≤ length pieces → before.planned ≤ frames_in pieces
    → new ≡ append_known old (file_of before.format (take (before.planned * frame_bytes_of before.format) (bytes_in pieces)))
kept_whole before after old new pieces fresh whole kept limits some enough =
    let texts = kept_texts (Some before) after old new pieces kept in
    texts.2 ∙ ap (append_known old) (whole_file before after pieces texts.0 fresh whole texts.1 limits some enough)
