-- What a sink's file has taken, from step to step.
use Rattle.std.proofs.Common.{◌≡◌, ◌≤◌, ℕ, ◌+◌, ◌-◌, ◌*◌, true, false, List, [], ◌∷◌, ◌++◌, length, take, if◌then◌else◌, Some, refl, sym, ◌∙◌, ap, append-nil, append_assoc, length-append, add-mul, arith}
use Rattle.std.specs.Prelude.{Option, nat_le}
use Rattle.omx_types.specs.declared.format.Format.{Format}
use Rattle.omx_types.specs.Formats.{IsWithinLimits, frame_bytes_of}
use Rattle.part_api.specs.Terms.{Writing}
use Rattle.part_forms.specs.Sinking.{fresh, head_due, sink_text}
use Rattle.part_forms.specs.Writing.{head_of, pad_of, written}
use Rattle.std.proofs.lemmas.List.{take_all}
use Rattle.audio_parts.specs.WholeFiles.{Piece, WroteAll, text_of}
use Rattle.audio_parts.proofs.WholeFiles.{texts_are, whole_file}
use Rattle.il_machine.specs.Lists.{is_empty}
use Rattle.play_stream_laws.specs.Sunk.{sunk}

pub some_sunk : (format : Format) (planned frames : ℕ) (bytes : List ℕ) → is_empty (sunk format planned frames bytes) ≡ false
unfolding head_due
some_sunk format planned frames bytes = refl

abbrev piece : ℕ → List ℕ → Piece
piece frames bytes = record { frames = frames; bytes = bytes }

-- ---- one step, and two

one_wrote : (format : Format) (planned frames : ℕ) (bytes : List ℕ) → (after : Option Writing) × WroteAll (Some (fresh [] format planned)) (piece frames bytes ∷ []) (sunk format planned frames bytes) after
one_wrote format planned frames bytes =
    (_, (_, sunk format planned frames bytes, [], sym (append-nil (sunk format planned frames bytes)), record { text_is = refl; after_is = refl }, (refl, refl)))

two_wrote : (format : Format) (planned frames more : ℕ) (bytes rest : List ℕ)
    → (after : Option Writing) × WroteAll (Some (fresh [] format planned)) (piece frames bytes ∷ piece more rest ∷ []) (sunk format planned frames bytes ++ sink_text true format planned (planned - frames) more rest) after
two_wrote format planned frames more bytes rest =
    let second : List ℕ = sink_text true format planned (planned - frames) more rest in
    (_, (_, sunk format planned frames bytes, second, refl, record { text_is = refl; after_is = refl }, (_, second, [], sym (append-nil second), record { text_is = refl; after_is = refl }, (refl, refl))))

one_is : (format : Format) (planned frames : ℕ) (bytes : List ℕ) → length bytes ≡ frames * frame_bytes_of format → sunk format planned frames bytes ≡ text_of format planned (piece frames bytes ∷ [])
one_is format planned frames bytes h =
    let w = one_wrote format planned frames bytes in
    texts_are (fresh [] format planned) w.0 (piece frames bytes ∷ []) (sunk format planned frames bytes) (record { head = refl; frames = refl }) (h, tt) w.1

-- behind the head
abbrev body : Format → ℕ → ℕ → List ℕ → List ℕ
body format planned frames bytes = head_of format planned ++ (take (planned * frame_bytes_of format) bytes ++ (if nat_le planned frames then pad_of (planned * frame_bytes_of format) else []))

pub sunk_joined : (format : Format) (planned frames more : ℕ) (bytes rest : List ℕ) → length bytes ≡ frames * frame_bytes_of format → length rest ≡ more * frame_bytes_of format
    → sunk format planned frames bytes ++ sink_text true format planned (planned - frames) more rest ≡ sunk format planned (frames + more) (bytes ++ rest)
sunk_joined format planned frames more bytes rest h k =
    let w = two_wrote format planned frames more bytes rest in
    let two = texts_are (fresh [] format planned) w.0 (piece frames bytes ∷ piece more rest ∷ []) (sunk format planned frames bytes ++ sink_text true format planned (planned - frames) more rest)
    (record { head = refl; frames = refl }) (h, (k, tt)) w.1 in
    let long : length (bytes ++ rest) ≡ (frames + more) * frame_bytes_of format = length-append bytes rest ∙ (λ i. h i + k i) ∙ sym (add-mul frames more (frame_bytes_of format)) in
    let all : bytes ++ (rest ++ []) ≡ (bytes ++ rest) ++ [] = sym (append_assoc bytes rest []) in
    let count : frames + (more + 0) ≡ (frames + more) + 0 = omega arith in
    two ∙ ((λ i. body format planned (count i) (all i)) ∙ sym (one_is format planned (frames + more) (bytes ++ rest) long))

pub sunk_whole : (format : Format) (planned : ℕ) (bytes : List ℕ) → IsWithinLimits format → length bytes ≡ planned * frame_bytes_of format → sunk format planned planned bytes ≡ written format bytes
sunk_whole format planned bytes limits h =
    let w = one_wrote format planned planned bytes in
    let all : take (planned * frame_bytes_of format) (bytes ++ []) ≡ bytes =
    ap (take (planned * frame_bytes_of format)) (append-nil bytes) ∙ take_all (planned * frame_bytes_of format) bytes (let n : length bytes ≤ planned * frame_bytes_of format = omega (arith, h) in n) in
    whole_file (fresh [] format planned) w.0 (piece planned bytes ∷ []) (sunk format planned planned bytes) (record { head = refl; frames = refl }) (h, tt) w.1 limits (omega arith) (omega arith)
    ∙ ap (written format) all
