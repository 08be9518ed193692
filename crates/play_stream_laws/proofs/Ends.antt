-- What a sink's file has taken is a front of what it takes in the end.
use Rattle.std.proofs.Common.{◌≡◌, ℕ, ◌+◌, ◌-◌, ◌*◌, ◌≤◌, Bool, true, false, List, [], ◌++◌, length, take, Option, Some, None, refl, sym, ◌∙◌, ap, subst, append-nil, length-append, add-mul, arith}
use Rattle.std.proofs.Math.Seq.{take-append_seam}
use Rattle.omx_types.specs.declared.format.Format.{Format}
use Rattle.omx_types.specs.Formats.{frame_bytes_of}
use Rattle.part_api.specs.declared.attached.Attached.{Attached}
use Rattle.part_api.specs.declared.attached.Attached.TheVariants.{From, To}
use Rattle.part_forms.specs.Sinking.{sink_text}
use Rattle.il_machine.specs.Settings.{same_bool}
use Rattle.il_machine.specs.Stepping.{IsFrontOf}
use Rattle.play_stream_laws.specs.Sunk.{sunk}
use Rattle.play_stream_laws.proofs.Sinks.{sunk_joined}
use Rattle.play_stream_laws.specs.Streams.{sunk_by}

-- ---- lists that begin with one another

abbrev pub Begins : List ℕ → List ℕ → Type 0
Begins front all = (rest : List ℕ) × (front ++ rest ≡ all)

pub front_of : (front all : List ℕ) → Begins front all → IsFrontOf all front
front_of front all B =
    let long = length-append front B.0 in
    let n : length front ≤ length (front ++ B.0) = omega arith in
    (length front, subst (λ (z : List ℕ). length front ≤ length z) B.1 n, sym (take-append_seam front B.0) ∙ ap (take (length front)) B.1)

pub begins_all : (xs ys : List ℕ) → xs ≡ ys → Begins xs ys
begins_all xs ys e = ([], append-nil xs ∙ e)

-- what a file has taken of a front is a front of what it takes of all
pub sunk_begins : (file : Option Attached) (format : Format) (frames all : ℕ) (bytes rest : List ℕ) → frames ≤ all → length bytes ≡ frames * frame_bytes_of format → length (bytes ++ rest) ≡ all * frame_bytes_of format
    → Begins (sunk_by file format frames bytes) (sunk_by file format all (bytes ++ rest))
sunk_begins None format frames all bytes rest l h k = ([], refl)
sunk_begins (Some (From read many)) format frames all bytes rest l h k = ([], refl)
sunk_begins (Some (To planned)) format frames all bytes rest l h k =
    let more : ℕ = all - frames in
    let sum : frames + more ≡ all = omega arith in
    let split : all * frame_bytes_of format ≡ frames * frame_bytes_of format + more * frame_bytes_of format = ap (λ (j : ℕ). j * frame_bytes_of format) (sym sum) ∙ add-mul frames more (frame_bytes_of format) in
    let long : length rest ≡ more * frame_bytes_of format = let n = length-append bytes rest in omega arith in
    (sink_text true format planned (planned - frames) more rest, sunk_joined format planned frames more bytes rest h long ∙ ap (λ (j : ℕ). sunk format planned j (bytes ++ rest)) sum)

-- ---- the direction of a port

pub same_direction : (b c : Bool) → same_bool b c ≡ true → b ≡ c
same_direction true c h = sym h
same_direction false true h = absurd cc
same_direction false false h = refl
