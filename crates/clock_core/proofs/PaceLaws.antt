-- A pace that goes on: its media time never falls, and the moment by division is the first one.
use Rattle.std.proofs.Common.{◌≡◌, ℕ, zero, suc, ◌+◌, ◌-◌, ◌*◌, ◌/◌, ◌%◌, ◌<◌, ◌≤◌, inl, inr, refl, sym, ap, ◌∙◌, arith}
use Rattle.std.specs.Prelude.{min, Bool, true, false, nat_le, if◌then◌else◌}
use Rattle.std.specs.Int.{div_ceil}
use Rattle.std.proofs.Math.Nat.{le-div_iff_mul-le, add-mul-div_left, add-mul-mod_self_left, lt_of_mul-lt-mul_right, mul-le-mul_right, div-add-mod}
use Rattle.std.proofs.lemmas.Grind.{div_ceil_times, common_steps}
use Rattle.std.proofs.lemmas.Bool.{cases_lt}
use Rattle.clock_core.specs.Pace.{media_at, first_at, IsFirst}
use Rattle.clock_core.specs.declared.pace.Pace.{Pace}

-- a quotient isn't below a number exactly where the product isn't
pub le-div : (x y : ℕ) → x * 65536 ≤ y → x ≤ y / 65536
le-div x y h = (le-div_iff_mul-le {k = 65536} {x = x} {y = y} (omega arith)).1 h

pub div-le : (x y : ℕ) → x ≤ y / 65536 → x * 65536 ≤ y
div-le x y h = (le-div_iff_mul-le {k = 65536} {x = x} {y = y} (omega arith)).0 h

pub div-mono : (x y : ℕ) → x ≤ y → x / 65536 ≤ y / 65536
div-mono x y h = le-div (x / 65536) y (omega arith)

pub media_at-mono : (pace : Pace) (early late : ℕ) → early ≤ late → media_at pace early ≤ media_at pace late
media_at-mono pace early late h =
    let elapsed : early - pace.since ≤ late - pace.since = omega arith in
    let products : (early - pace.since) * pace.scale ≤ (late - pace.since) * pace.scale = mul-le-mul_right pace.scale elapsed in
    let quotients : (early - pace.since) * pace.scale / 65536 ≤ (late - pace.since) * pace.scale / 65536 = div-mono _ _ products in
    omega arith

-- the runs and the rest of the moments
pub media-split : (elapsed scale : ℕ) → elapsed / 65536 * scale + elapsed % 65536 * scale / 65536 ≡ elapsed * scale / 65536
media-split elapsed scale =
    let parts : elapsed ≡ 65536 * (elapsed / 65536) + elapsed % 65536 = sym (div-add-mod elapsed 65536) in
    let whole : elapsed % 65536 * scale + 65536 * (elapsed / 65536 * scale) ≡ elapsed * scale =
    sym (ap (λ (x : ℕ). x * scale) parts ∙ spread (elapsed / 65536) (elapsed % 65536) scale) in
    let joined : (elapsed % 65536 * scale + 65536 * (elapsed / 65536 * scale)) / 65536 ≡ elapsed % 65536 * scale / 65536 + elapsed / 65536 * scale =
    add-mul-div_left (elapsed % 65536 * scale) (elapsed / 65536 * scale) {y = 65536} (omega arith) in
    let same : (elapsed % 65536 * scale + 65536 * (elapsed / 65536 * scale)) / 65536 ≡ elapsed * scale / 65536 = ap (λ (x : ℕ). x / 65536) whole in
    omega arith
  where
    spread : (a b s : ℕ) → (65536 * a + b) * s ≡ b * s + 65536 * (a * s)
    spread a b s = omega arith

-- a product isn't zero
pub positive : (left moments scale : ℕ) → 0 < left → left * 65536 ≤ moments * scale → 0 < scale
positive left moments zero some h = absurd (omega arith)
positive left moments (suc scale) some h = omega arith

-- the moment is not behind one at which the media time is reached
pub first_at-le : (pace : Pace) (media wall : ℕ) → pace.since ≤ wall → media ≤ media_at pace wall → first_at pace media ≤ wall
first_at-le pace media wall from reached = elim (nat_le media pace.media) as (λ early. (nat_le media pace.media ≡ early) → (if early then pace.since else pace.since + div_ceil ((media - pace.media) * 65536) pace.scale) ≤ wall) [
  | true ↦ λ _. from
  | false ↦ λ late. later (gt-of late)
] refl
  where
    gt-of : nat_le media pace.media ≡ false → pace.media < media
    gt-of h = grind (arith, common_steps)

    later : pace.media < media → pace.since + div_ceil ((media - pace.media) * 65536) pace.scale ≤ wall
    later late =
        let left : media - pace.media ≤ (wall - pace.since) * pace.scale / 65536 = omega arith in
        let product : (media - pace.media) * 65536 ≤ (wall - pace.since) * pace.scale = div-le _ _ left in
        let some : 0 < pace.scale = positive (media - pace.media) (wall - pace.since) pace.scale (omega arith) product in
        let bound : div_ceil ((media - pace.media) * 65536) pace.scale * pace.scale < (media - pace.media) * 65536 + pace.scale = (div_ceil_times ((media - pace.media) * 65536) pace.scale some).1 in
        let below : div_ceil ((media - pace.media) * 65536) pace.scale * pace.scale < (wall - pace.since + 1) * pace.scale = omega arith in
        let least : div_ceil ((media - pace.media) * 65536) pace.scale < wall - pace.since + 1 = lt_of_mul-lt-mul_right pace.scale below in
        omega arith

-- what is reached at all is reached at that moment
pub first_at-reaches : (pace : Pace) (media wall : ℕ) → pace.since ≤ wall → media ≤ media_at pace wall → media ≤ media_at pace (first_at pace media)
first_at-reaches pace media wall from reached = elim (nat_le media pace.media) as (λ early. (nat_le media pace.media ≡ early) → media ≤ media_at pace (if early then pace.since else pace.since + div_ceil ((media - pace.media) * 65536) pace.scale)) [
  | true ↦ λ early. le-trans-add _ (le-of early)
  | false ↦ λ late. later (gt-of late)
] refl
  where
    gt-of : nat_le media pace.media ≡ false → pace.media < media
    gt-of h = grind (arith, common_steps)

    le-of : nat_le media pace.media ≡ true → media ≤ pace.media
    le-of h = grind (arith, common_steps)

    le-trans-add : (x : ℕ) → media ≤ pace.media → media ≤ pace.media + x
    le-trans-add x h = omega arith

    later : pace.media < media → media ≤ media_at pace (pace.since + div_ceil ((media - pace.media) * 65536) pace.scale)
    later late =
        let left : media - pace.media ≤ (wall - pace.since) * pace.scale / 65536 = omega arith in
        let product : (media - pace.media) * 65536 ≤ (wall - pace.since) * pace.scale = div-le _ _ left in
        let some : 0 < pace.scale = positive (media - pace.media) (wall - pace.since) pace.scale (omega arith) product in
        let bound : (media - pace.media) * 65536 ≤ div_ceil ((media - pace.media) * 65536) pace.scale * pace.scale = (div_ceil_times ((media - pace.media) * 65536) pace.scale some).0 in
        let quotient : media - pace.media ≤ div_ceil ((media - pace.media) * 65536) pace.scale * pace.scale / 65536 = le-div _ _ bound in
        let moments : pace.since + div_ceil ((media - pace.media) * 65536) pace.scale - pace.since ≡ div_ceil ((media - pace.media) * 65536) pace.scale = omega arith in
        let same : (pace.since + div_ceil ((media - pace.media) * 65536) pace.scale - pace.since) * pace.scale / 65536 ≡ div_ceil ((media - pace.media) * 65536) pace.scale * pace.scale / 65536 = ap (λ (x : ℕ). x * pace.scale / 65536) moments in
        omega (arith, quotient, same)

pub first_at-from : (pace : Pace) (media : ℕ) → pace.since ≤ first_at pace media
first_at-from pace media = grind (arith, common_steps)

-- by the runs of whole scales and the rest
pub first-split : (left scale : ℕ) → 0 < scale → left / scale * 65536 + div_ceil (left % scale * 65536) scale ≡ div_ceil (left * 65536) scale
first-split left scale some =
    let parts : left ≡ scale * (left / scale) + left % scale = sym (div-add-mod left scale) in
    let whole : left % scale * 65536 + scale * (left / scale * 65536) ≡ left * 65536 =
    sym (ap (λ (x : ℕ). x * 65536) parts ∙ spread (left / scale) (left % scale) scale) in
    let quotients : (left % scale * 65536 + scale * (left / scale * 65536)) / scale ≡ left % scale * 65536 / scale + left / scale * 65536 =
    add-mul-div_left (left % scale * 65536) (left / scale * 65536) {y = scale} some in
    let rests : (left % scale * 65536 + scale * (left / scale * 65536)) % scale ≡ left % scale * 65536 % scale =
    add-mul-mod_self_left (left % scale * 65536) scale (left / scale * 65536) in
    let quotient : left * 65536 / scale ≡ left % scale * 65536 / scale + left / scale * 65536 = sym (ap (λ (x : ℕ). x / scale) whole) ∙ quotients in
    let rest : left * 65536 % scale ≡ left % scale * 65536 % scale = sym (ap (λ (x : ℕ). x % scale) whole) ∙ rests in
    cc-split (left * 65536 / scale) (left * 65536 % scale) (left % scale * 65536 / scale) (left % scale * 65536 % scale) (left / scale * 65536) quotient rest
  where
    spread : (a b s : ℕ) → (s * a + b) * 65536 ≡ b * 65536 + s * (a * 65536)
    spread a b s = omega arith

    cc-split : (q r q' r' x : ℕ) → q ≡ q' + x → r ≡ r' → x + (q' + min 1 r') ≡ q + min 1 r
    cc-split q r q' r' x same rest = omega (arith, ap (λ (n : ℕ). min 1 n) rest)

-- the moment by division is the first one
pub first_at-IsFirst : (pace : Pace) (media wall : ℕ) → pace.since ≤ wall → media ≤ media_at pace wall → IsFirst pace media (first_at pace media)
first_at-IsFirst pace media wall from reached = record {
  from = first_at-from pace media;
  reached = first_at-reaches pace media wall from reached;
  before = λ early below since. below-first early below since;
}
  where
    contradict : (x y : ℕ) → x ≤ y → y < x → ⊥
    contradict x y h k = omega arith

    below-first : (early : ℕ) → early < first_at pace media → pace.since ≤ early → media_at pace early < media
    below-first early below since = elim (cases_lt (media_at pace early) media) [
      | inl less ↦ less
      | inr reached ↦ absurd (contradict _ _ (first_at-le pace media early since reached) below)
    ]

-- a media time ahead
pub first_at-ahead : (pace : Pace) (media : ℕ) → pace.media < media → first_at pace media ≡ pace.since + div_ceil ((media - pace.media) * 65536) pace.scale
first_at-ahead pace media ahead =
    let late : nat_le media pace.media ≡ false = late-of in
    ap (λ (early : Bool). if early then pace.since else pace.since + div_ceil ((media - pace.media) * 65536) pace.scale) late
  where
    late-of : nat_le media pace.media ≡ false
    late-of = grind (arith, common_steps)

-- that moment by the runs of whole scales and the rest
pub first_at-runs : (pace : Pace) (media wall : ℕ) → pace.since ≤ wall → media ≤ media_at pace wall → pace.media < media →
    pace.since + (media - pace.media) / pace.scale * 65536 + div_ceil ((media - pace.media) % pace.scale * 65536) pace.scale ≡ first_at pace media
first_at-runs pace media wall from reached ahead =
    let left : media - pace.media ≤ (wall - pace.since) * pace.scale / 65536 = omega arith in
    let product : (media - pace.media) * 65536 ≤ (wall - pace.since) * pace.scale = div-le _ _ left in
    let some : 0 < pace.scale = positive (media - pace.media) (wall - pace.since) pace.scale (omega arith) product in
    let runs = first-split (media - pace.media) pace.scale some in
    let moment = first_at-ahead pace media ahead in
    omega (arith, runs, moment)
