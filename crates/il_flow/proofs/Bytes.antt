-- Bytes of whole frames.
use Rattle.std.proofs.Common.{◌≡◌, ℕ, ◌*◌, ◌/◌, ◌<◌, ◌≤◌, min, List, length, drop, ap, ◌∙◌, arith}
use Rattle.std.proofs.Math.Nat.{div-mul-le_self, mul-le-mul_right}
use Rattle.std.proofs.lemmas.Nat.{le-div}
use Rattle.std.proofs.lemmas.List.{drop_min}

pub whole_frames : (frames frame bytes : ℕ) → frames ≤ bytes / frame → frames * frame ≤ bytes
whole_frames frames frame bytes h = let a = mul-le-mul_right frame h in let b = div-mul-le_self bytes frame in omega arith

pub fewer : (frames frame bytes : ℕ) → 1 ≤ frame → bytes / frame < frames → bytes ≤ frames * frame
fewer frames frame bytes some h = let f : frames * frame ≤ bytes → frames ≤ bytes / frame = le-div frames bytes frame (omega (arith, some)) in grind (arith, f, h)

pub drop_within : (count most : ℕ) (bytes : List ℕ) → length bytes ≤ most → drop (min count (min (length bytes) most)) bytes ≡ drop count bytes
drop_within count most bytes h = let e : min (length bytes) most ≡ length bytes = omega arith in ap (λ n. drop (min count n) bytes) e ∙ drop_min count bytes
