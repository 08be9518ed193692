-- What a sink's file takes, piece by piece.
use Rattle.std.proofs.Common.{◌≡◌, ◌≤◌, ◌+◌, ◌*◌, ◌%◌, ◌==◌, ℕ, List, [], ◌∷◌, ◌++◌, take, ap, sym, ◌∙◌, arith, Bool, true, false, if◌then◌else◌, length, length-append}
use Rattle.std.proofs.lemmas.List.{take-append-le}
use Rattle.std.proofs.Math.Seq.{take-append-add}
use Rattle.std.specs.Prelude.{Option}
use Rattle.std.specs.Io.KnownBytes.{append_known}
use Rattle.omx_types.specs.declared.format.Format.{Format}
use Rattle.omx_types.specs.Formats.{frame_bytes_of}
use Rattle.outside_io.proofs.Known.{append_known-twice}
use Rattle.outside_io.specs.Moves.{AppendsFront}
use Rattle.part_forms.specs.Writing.{head_of, pad_of}
use Rattle.part_forms.specs.Sinking.{head_due, pad_due}

pub headed_due : (is_headed : Bool) (format : Format) (planned : ℕ) → is_headed ≡ true → [] ≡ head_due is_headed format planned
unfolding head_due
headed_due is_headed format planned e = sym (ap (λ b. if b then [] else head_of format planned) e)

pub fresh_due : (is_headed : Bool) (format : Format) (planned : ℕ) → is_headed ≡ false → head_of format planned ≡ head_due is_headed format planned
unfolding head_due
fresh_due is_headed format planned e = sym (ap (λ b. if b then [] else head_of format planned) e)

pub not_last : (is_last : Bool) (format : Format) (planned : ℕ) → is_last ≡ false → [] ≡ pad_due is_last format planned
unfolding pad_due
not_last is_last format planned e = sym (ap (λ b. if b then pad_of (planned * frame_bytes_of format) else []) e)

pub pad_is : (is_last : Bool) (format : Format) (planned odd : ℕ) → is_last ≡ true → odd ≡ planned * frame_bytes_of format % 2
    → (if odd == 1 then 0 ∷ [] else []) ≡ pad_due is_last format planned
unfolding pad_due
pad_is is_last format planned odd e o =
    ap (λ n. if n == 1 then 0 ∷ [] else []) o ∙ sym (ap (λ b. if b then pad_of (planned * frame_bytes_of format) else []) e)

-- a front of a front part
pub front_longer : (old new : Option (List ℕ)) (a b : List ℕ) → AppendsFront old new a → AppendsFront old new (a ++ b)
front_longer old new a b (k, small, is) =
    (k, (let h : k ≤ length (a ++ b) = omega (arith, small, length-append a b) in h), is ∙ ap (append_known old) (sym (take-append-le k a b small)))

-- a whole part, and then a front of the next
pub front_after : (old mid new : Option (List ℕ)) (a b : List ℕ) → mid ≡ append_known old a → AppendsFront mid new b → AppendsFront old new (a ++ b)
front_after old mid new a b whole (k, small, is) = (
  length a + k,
  (let h : length a + k ≤ length (a ++ b) = omega (arith, small, length-append a b) in h),
  is ∙ ap (λ t. append_known t (take k b)) whole ∙ append_known-twice old a (take k b) ∙ ap (append_known old) (sym (take-append-add a b k)),
)
