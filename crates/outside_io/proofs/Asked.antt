-- How far a source was asked for bytes, over several reads.
use Rattle.std.proofs.Common.{◌≡◌, ℕ, ◌≤◌, max, Option, ap, ◌∙◌, arith}
use Rattle.outside_io.specs.Asking.{asked_up_to, AsksWithin}

pub asks-none : (asked : Option ℕ) (end : ℕ) → AsksWithin asked asked end
asks-none asked end = λ most is. (most, is, omega arith)

-- one more read
pub asks-more : (old mid new : Option ℕ) (end to : ℕ) → AsksWithin old mid end → new ≡ asked_up_to mid to → to ≤ end → AsksWithin old new end
asks-more old mid new end to within more le = λ most is.
    let (now, told, below) = within most is in
    (max now to, more ∙ ap (λ (asked : Option ℕ). asked_up_to asked to) told, omega arith)

-- one move, and then another that goes further
pub asks-then : (old mid new : Option ℕ) (one other end : ℕ) → AsksWithin old mid one → AsksWithin mid new other → one ≤ end → other ≤ end → AsksWithin old new end
asks-then old mid new one other end first second le also = λ most is.
    let (now, told, below) = first most is in
    let (last, tells, within) = second now told in
    (last, tells, omega arith)
