-- What a sink's steps write, one after another.
use Rattle.std.proofs.Common.{◌≡◌, ◌≤◌, ◌<◌, ℕ, zero, suc, ◌+◌, ◌-◌, ◌*◌, ◌/◌, ◌⊎◌, inl, inr, min, List, [], ◌∷◌, ◌++◌, length, take, Bool, true, false, ◌&&◌, if◌then◌else◌, refl, ap, sym, subst, ◌∙◌, arith, append_assoc, length-append}
use Rattle.std.proofs.lemmas.Bool.{and_left, and_right, le-leb, lt-leb, cases_lt}
use Rattle.std.proofs.lemmas.Bool.Decides.{nat_tests}
use Rattle.std.proofs.lemmas.List.{append-nil, take_all, take-append-le, length-take-le}
use Rattle.std.proofs.Math.Nat.{mul-le-mul_right, mul-div_cancel}
use Rattle.std.proofs.Math.Seq.{take-append-add}
use Rattle.std.specs.Prelude.{Option, Some, nat_le}
use Rattle.std.specs.List.{AllByRecursion}
use Rattle.omx_types.specs.declared.format.Format.{Format}
use Rattle.omx_types.specs.declared.format.Format.TheVariants.{Pcm, Alaw, Mulaw, Auto}
use Rattle.omx_types.specs.Formats.{frame_bytes_of, IsWithinLimits}
use Rattle.part_forms.specs.Writing.{head_of, pad_of, written as file_of}
use Rattle.part_api.specs.Terms.{Writing}
use Rattle.part_forms.specs.Sinking.{head_due, pad_due, is_last_among, sink_text}
use Rattle.audio_parts.specs.WholeFiles.{Piece, IsOfWholeFrames, IsUnwritten, WroteAll, frames_in, bytes_in, planned_of, text_of}
use Rattle.audio_parts.proofs.Sinking.{headed_due, fresh_due, not_last}

-- what is still to be written of these pieces behind the head
abbrev body_of : Format → ℕ → ℕ → ℕ → List ℕ → List ℕ
body_of format planned left frames bytes =
    take (left * frame_bytes_of format) bytes ++ pad_due (is_last_among left frames) format planned

-- ---- whether the last planned frame is among some

none_left : (left frames : ℕ) → left ≡ 0 → is_last_among left frames ≡ false
none_left left frames e = and_left (nat_le 1 left) (nat_le left frames) (lt-leb 1 left (omega (arith, e)))

more_left : (left frames : ℕ) → frames < left → is_last_among left frames ≡ false
more_left left frames h = and_right (nat_le 1 left) (nat_le left frames) (lt-leb left frames h)

among_first : (left frames more : ℕ) → left ≤ frames → is_last_among left frames ≡ is_last_among left (frames + more)
among_first left frames more h =
    let further : left ≤ frames + more = omega (arith, h) in
    ap (λ b. nat_le 1 left && b) (le-leb left frames h ∙ sym (le-leb left (frames + more) further))

among_rest : (left frames more : ℕ) → frames < left → is_last_among (left - frames) more ≡ is_last_among left (frames + more)
among_rest left frames more h =
    let some : 1 ≤ left - frames = omega (arith, h) in
    let all : 1 ≤ left = omega (arith, h) in
    let same : nat_le (left - frames) more ≡ nat_le left (frames + more) = grind (arith, nat_tests) in
    ap (λ b. b && nat_le (left - frames) more) (le-leb 1 (left - frames) some)
    ∙ same
    ∙ ap (λ b. b && nat_le left (frames + more)) (sym (le-leb 1 left all))

-- ---- one piece and those behind it

no_pad : (left frames : ℕ) (format : Format) (planned : ℕ) → is_last_among left frames ≡ false → pad_due (is_last_among left frames) format planned ≡ []
no_pad left frames format planned e = sym (not_last (is_last_among left frames) format planned e)

nothing_left : (format : Format) (planned left more : ℕ) (rest : List ℕ) → left ≡ 0 → body_of format planned left more rest ≡ []
nothing_left format planned left more rest e =
    ap (λ n. take (n * frame_bytes_of format) rest ++ pad_due (is_last_among left more) format planned) e
    ∙ ap (λ n. take n rest ++ pad_due (is_last_among left more) format planned) (let z : 0 * frame_bytes_of format ≡ 0 = omega arith in z)
    ∙ no_pad left more format planned (none_left left more e)

abbrev front_of : Format → ℕ → ℕ → ℕ → List ℕ → List ℕ
front_of format planned left frames bytes =
    take (min frames left * frame_bytes_of format) bytes ++ pad_due (is_last_among left frames) format planned

parts_are : (frames rest bytes : ℕ) → frames * bytes + rest * bytes ≡ (frames + rest) * bytes
parts_are frames rest bytes = grind arith

cut_is : (left frames bytes : ℕ) → frames < left → frames * bytes + (left - frames) * bytes ≡ left * bytes
cut_is left frames bytes h =
    let all : frames + (left - frames) ≡ left = omega (arith, h) in
    parts_are frames (left - frames) bytes ∙ ap (λ n. n * bytes) all

joined_bodies : (format : Format) (planned left frames more : ℕ) (bytes rest : List ℕ) → length bytes ≡ frames * frame_bytes_of format → (frames < left) ⊎ (left ≤ frames)
    → front_of format planned left frames bytes ++ body_of format planned (left - frames) more rest ≡ body_of format planned left (frames + more) (bytes ++ rest)
joined_bodies format planned left frames more bytes rest long (inl h) =
    let fb = frame_bytes_of format in
    let pad = pad_due (is_last_among left frames) format planned in
    let last = pad_due (is_last_among (left - frames) more) format planned in
    let back = body_of format planned (left - frames) more rest in
    let least : min frames left ≡ frames = omega (arith, h) in
    let no_more : length bytes ≤ frames * fb = omega (arith, long) in
    ap (λ n. (take (n * fb) bytes ++ pad) ++ back) least
    ∙ ap (λ l. (l ++ pad) ++ back) (take_all (frames * fb) bytes no_more)
    ∙ ap (λ l. (bytes ++ l) ++ back) (no_pad left frames format planned (more_left left frames h))
    ∙ ap (λ l. l ++ back) (append-nil bytes)
    ∙ sym (append_assoc bytes (take ((left - frames) * fb) rest) last)
    ∙ ap (λ l. l ++ last) (sym (take-append-add bytes rest ((left - frames) * fb)))
    ∙ ap (λ n. take n (bytes ++ rest) ++ last) (ap (λ n. n + (left - frames) * fb) long ∙ cut_is left frames fb h)
    ∙ ap (λ b. take (left * fb) (bytes ++ rest) ++ pad_due b format planned) (among_rest left frames more h)
joined_bodies format planned left frames more bytes rest long (inr h) =
    let fb = frame_bytes_of format in
    let pad = pad_due (is_last_among left frames) format planned in
    let least : min frames left ≡ left = omega (arith, h) in
    let none : left - frames ≡ 0 = omega (arith, h) in
    let within : left * fb ≤ length bytes = subst (λ n. left * fb ≤ n) (sym long) (mul-le-mul_right fb h) in
    ap (λ l. front_of format planned left frames bytes ++ l) (nothing_left format planned (left - frames) more rest none)
    ∙ append-nil (front_of format planned left frames bytes)
    ∙ ap (λ n. take (n * fb) bytes ++ pad) least
    ∙ ap (λ l. l ++ pad) (sym (take-append-le (left * fb) bytes rest within))
    ∙ ap (λ b. take (left * fb) (bytes ++ rest) ++ pad_due b format planned) (among_first left frames more h)

-- ---- the steps

abbrev body_in : Writing → List Piece → List ℕ
body_in w pieces = body_of w.format w.planned w.left (frames_in pieces) (bytes_in pieces)

-- after a step of so many frames
abbrev next : Writing → ℕ → Writing
next w frames = record { name = w.name; format = w.format; planned = w.planned; headed = true; left = w.left - frames; frames = frames; due = false }

one_more : (w : Writing) (piece : Piece) (pieces : List Piece) (text first rest : List ℕ) → text ≡ first ++ rest → first ≡ sink_text w.headed w.format w.planned w.left piece.frames piece.bytes
    → IsOfWholeFrames w.format piece → rest ≡ body_in (next w piece.frames) pieces
    → text ≡ head_due w.headed w.format w.planned ++ body_in w (piece ∷ pieces)
one_more w piece pieces text first rest cut f whole r =
    let head = head_due w.headed w.format w.planned in
    let front = front_of w.format w.planned w.left piece.frames piece.bytes in
    cut
    ∙ ap (λ l. l ++ rest) f
    ∙ append_assoc head front rest
    ∙ ap (λ l. head ++ (front ++ l)) r
    ∙ ap (λ l. head ++ l) (joined_bodies w.format w.planned w.left piece.frames (frames_in pieces) piece.bytes (bytes_in pieces) whole (cases_lt piece.frames w.left))

none_among : (left : ℕ) → (0 < left) ⊎ (left ≤ 0) → is_last_among left 0 ≡ false
none_among left (inl h) = more_left left 0 h
none_among left (inr h) = none_left left 0 (omega (arith, h))

no_steps : (format : Format) (planned left : ℕ) → body_of format planned left 0 [] ≡ []
no_steps format planned left =
    ap (λ l. l ++ pad_due (is_last_among left 0) format planned) (take_all (left * frame_bytes_of format) [] (let z : 0 ≤ left * frame_bytes_of format = omega arith in z))
    ∙ no_pad left 0 format planned (none_among left (cases_lt 0 left))

-- behind the head
continued : (w : Writing) (pieces : List Piece) (text : List ℕ) (after : Option Writing) → w.headed ≡ true → AllByRecursion (IsOfWholeFrames w.format) pieces → WroteAll (Some w) pieces text after
    → text ≡ body_in w pieces
continued w [] text after e whole all = all.0 ∙ sym (no_steps w.format w.planned w.left)
continued w (piece ∷ pieces) text after e whole (between, first, rest, cut, wrote, later) =
    one_more w piece pieces text first rest cut wrote.text_is whole.0
    (continued (next w piece.frames) pieces rest after refl whole.1 (subst (λ o. WroteAll o pieces rest after) wrote.after_is later))
    ∙ ap (λ l. l ++ body_in w (piece ∷ pieces)) (sym (headed_due w.headed w.format w.planned e))

-- ---- the whole text

no_odd : (format : Format) (b : Bool) → (if b then pad_of (0 * frame_bytes_of format) else []) ≡ []
no_odd format true = ap pad_of (let z : 0 * frame_bytes_of format ≡ 0 = omega arith in z)
no_odd format false = refl

last_planned : (format : Format) (planned frames : ℕ) → pad_due (is_last_among planned frames) format planned ≡ (if nat_le planned frames then pad_of (planned * frame_bytes_of format) else [])
unfolding pad_due
last_planned format zero frames = sym (no_odd format (nat_le 0 frames))
last_planned format (suc n) frames =
    ap (λ b. if b && nat_le (suc n) frames then pad_of (suc n * frame_bytes_of format) else []) (le-leb 1 (suc n) (let some : 1 ≤ suc n = omega arith in some))

from_first : (w : Writing) (piece : Piece) (pieces : List Piece) (text : List ℕ) (after : Option Writing) → IsUnwritten w → AllByRecursion (IsOfWholeFrames w.format) (piece ∷ pieces)
    → WroteAll (Some w) (piece ∷ pieces) text after → text ≡ text_of w.format w.planned (piece ∷ pieces)
from_first w piece pieces text after new whole (between, first, rest, cut, wrote, later) =
    let all = piece ∷ pieces in
    one_more w piece pieces text first rest cut wrote.text_is whole.0
    (continued (next w piece.frames) pieces rest after refl whole.1 (subst (λ o. WroteAll o pieces rest after) wrote.after_is later))
    ∙ ap (λ l. l ++ body_in w all) (sym (fresh_due w.headed w.format w.planned new.head))
    ∙ ap (λ n. head_of w.format w.planned ++ body_of w.format w.planned n (frames_in all) (bytes_in all)) new.frames
    ∙ ap (λ l. head_of w.format w.planned ++ (take (w.planned * frame_bytes_of w.format) (bytes_in all) ++ l)) (last_planned w.format w.planned (frames_in all))

pub texts_are : (w : Writing) (after : Option Writing) (pieces : List Piece) (text : List ℕ) → IsUnwritten w → AllByRecursion (IsOfWholeFrames w.format) pieces
    → WroteAll (Some w) pieces text after → text ≡ text_of w.format w.planned pieces
texts_are w after [] text new whole all = all.0
texts_are w after (piece ∷ pieces) text new whole all = from_first w piece pieces text after new whole all

-- ---- the file of the samples

some_bytes : (format : Format) → IsWithinLimits format → 0 < frame_bytes_of format
some_bytes (Pcm rate channels) h = omega (arith, h.some_channel)
some_bytes (Alaw rate channels) h = omega (arith, h.some_channel)
some_bytes (Mulaw rate channels) h = omega (arith, h.some_channel)
some_bytes Auto h = omega arith

pub bytes_are : (format : Format) (pieces : List Piece) → AllByRecursion (IsOfWholeFrames format) pieces → length (bytes_in pieces) ≡ frames_in pieces * frame_bytes_of format
bytes_are format [] h = omega arith
bytes_are format (piece ∷ pieces) h =
    length-append piece.bytes (bytes_in pieces)
    ∙ ap (λ n. n + length (bytes_in pieces)) h.0
    ∙ ap (λ n. piece.frames * frame_bytes_of format + n) (bytes_are format pieces h.1)
    ∙ parts_are piece.frames (frames_in pieces) (frame_bytes_of format)

file_is : (format : Format) (planned : ℕ) (pieces : List Piece) → IsWithinLimits format → AllByRecursion (IsOfWholeFrames format) pieces → planned ≤ frames_in pieces
    → head_of format planned ++ planned_of format planned pieces ≡ file_of format (take (planned * frame_bytes_of format) (bytes_in pieces))
file_is format planned pieces limits whole enough =
    let fb = frame_bytes_of format in
    let samples = take (planned * fb) (bytes_in pieces) in
    let within : planned * fb ≤ length (bytes_in pieces) = subst (λ n. planned * fb ≤ n) (sym (bytes_are format pieces whole)) (mul-le-mul_right fb enough) in
    let long : length samples ≡ planned * fb = length-take-le (planned * fb) (bytes_in pieces) within in
    ap (λ b. head_of format planned ++ (samples ++ (if b then pad_of (planned * fb) else []))) (le-leb planned (frames_in pieces) enough)
    ∙ sym (append_assoc (head_of format planned) samples (pad_of (planned * fb)))
    ∙ ap (λ n. head_of format n ++ samples ++ pad_of (planned * fb)) (sym (ap (λ n. n / fb) long ∙ mul-div_cancel planned (some_bytes format limits)))
    ∙ ap (λ n. head_of format (length samples / fb) ++ samples ++ pad_of n) (sym long)

pub whole_file : (w : Writing) (after : Option Writing) (pieces : List Piece) (text : List ℕ) → IsUnwritten w → AllByRecursion (IsOfWholeFrames w.format) pieces
    → WroteAll (Some w) pieces text after → IsWithinLimits w.format → 1 ≤ length pieces → w.planned ≤ frames_in pieces
    → text ≡ file_of w.format (take (w.planned * frame_bytes_of w.format) (bytes_in pieces))
whole_file w after [] text new whole all limits some enough = absurd (omega (arith, some))
whole_file w after (piece ∷ pieces) text new whole all limits some enough =
    from_first w piece pieces text after new whole all ∙ file_is w.format w.planned (piece ∷ pieces) limits whole enough
