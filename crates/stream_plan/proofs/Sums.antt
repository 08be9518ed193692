-- Sums of headers so far.
use Rattle.std.proofs.Common.{◌≡◌, ℕ, ◌+◌, ◌<◌, ◌≤◌, List, length, take, get_or, refl, arith}
use Rattle.std.proofs.lemmas.List.Sums.{sum_by_more}
use Rattle.play_forms.specs.declared.joint.Joint.{Joint}
use Rattle.play_forms.specs.Joints.{IsTooMany, headers_of}
use Rattle.stream_plan.proofs.Lists.{there_at}

pub too_many_at : (joints : List Joint) (k : ℕ) (d : Joint) → k < length joints → headers_of (take k joints) ≤ 1024
    → 1024 < headers_of (take k joints) + (get_or joints k d).count → IsTooMany joints (get_or joints k d).line
too_many_at joints k d inside few over =
    let more : headers_of (take (k + 1) joints) ≡ headers_of (take k joints) + (get_or joints k d).count = sum_by_more (λ (joint : Joint). joint.count) joints k d inside in
    record {
      number = k;
      joint = get_or joints k d;
      there = there_at joints k d inside;
      its_line = refl;
      over = omega arith;
      first = few;
    }
