-- How many acts a play has at most.
use Rattle.std.proofs.Common.{◌+◌, ◌*◌, ◌<◌, ◌≤◌, ℕ, zero, suc, arith}
use Rattle.std.proofs.Math.Nat.{mul-le-mul}
use Rattle.machine_laws.proofs.Finding.{either}
use Rattle.play_model.specs.Network.{Network}
use Rattle.play_model.specs.Progress.{all_headers, sum_to, work_left}
use Rattle.play_model.specs.Play.{Layout}
use Rattle.play_model.specs.Reached.{acts_left, all_frames, changes_left, hands_left, hands_of, makings_left, script_left, ways_left}
use Rattle.play_forms.specs.Plans.{PlanValue}
use Rattle.play_world_laws.specs.Openings.{opening}
use Rattle.play_run.specs.Playing.{layout_of}

pub sum_least : (n : ℕ) (f : ℕ → ℕ) → ((k : ℕ) → k < n → 0 < f k) → n ≤ sum_to n f
sum_least zero f h = omega arith
sum_least (suc n) f h = let a = sum_least n f (λ k b. h k (omega arith)) in let b = h n (omega arith) in omega arith

sum_ways : (n : ℕ) (f : ℕ → ℕ) → ((j : ℕ) → j < n → f j ≤ 21) → sum_to n f ≤ 21 * n
sum_ways zero f h = omega arith
sum_ways (suc n) f h = let a = sum_ways n f (λ j b. h j (omega arith)) in let b = h n (omega arith) in omega arith

sum_changes : (n : ℕ) (f : ℕ → ℕ) → ((j : ℕ) → j < n → f j ≤ 26) → sum_to n f ≤ 26 * n
sum_changes zero f h = omega arith
sum_changes (suc n) f h = let a = sum_changes n f (λ j b. h j (omega arith)) in let b = h n (omega arith) in omega arith

sum_words : (n : ℕ) (f : ℕ → ℕ) → ((j : ℕ) → j < n → f j ≤ 18446744073709551616) → sum_to n f ≤ 18446744073709551616 * n
sum_words zero f h = omega arith
sum_words (suc n) f h = let a = sum_words n f (λ j b. h j (omega arith)) in let b = h n (omega arith) in omega arith

sum_makings : (n : ℕ) (f g : ℕ → ℕ) → ((j : ℕ) → j < n → f j ≤ 4 * g j) → sum_to n f ≤ 4 * sum_to n g
sum_makings zero f g h = omega arith
sum_makings (suc n) f g h = let a = sum_makings n f g (λ j b. h j (omega arith)) in let b = h n (omega arith) in omega arith

sum_none : (n : ℕ) (f : ℕ → ℕ) → ((j : ℕ) → j < n → f j ≤ 0) → sum_to n f ≤ 0
sum_none zero f h = omega arith
sum_none (suc n) f h = let a = sum_none n f (λ j b. h j (omega arith)) in let b = h n (omega arith) in omega arith

product : (s f w h : ℕ) → s ≤ 31396 → f ≤ 590295810358705651712 → w ≤ 590295810358705651712 → h ≤ 1024 → (s * (f + 1) + w) * (2 * h + 1) ≤ (31396 * 590295810358705651713 + 590295810358705651712) * 2049
product s f w h a b c d =
    let p : s * (f + 1) ≤ 31396 * 590295810358705651713 = mul-le-mul {n₁ = s} {m₁ = f + 1} {n₂ = 31396} {m₂ = 590295810358705651713} a (omega arith) in
    let q : s * (f + 1) + w ≤ 31396 * 590295810358705651713 + 590295810358705651712 = omega arith in
    let r : 2 * h + 1 ≤ 2049 = omega arith in
    mul-le-mul {n₁ = s * (f + 1) + w} {m₁ = 2 * h + 1} {n₂ = 31396 * 590295810358705651713 + 590295810358705651712} {m₂ = 2049} q r

module _ (plan : PlanValue) where
  abbrev w : Layout
  w = layout_of plan

  abbrev net : Network
  net = w.network

  ways_few : (c : ℕ) → ways_left w opening c ≤ 21
  ways_few c = either (w.is_sink c) (λ t. rw t (omega arith)) (λ f. rw f (omega arith))

  makings_few : (l : ℕ) → makings_left w opening l ≤ 4 * net.count l
  makings_few l = either (w.is_late l) (λ t. rw t (omega arith)) (λ f. rw f (omega arith))

  changes_few : (l : ℕ) → changes_left w opening l ≤ 26
  changes_few l = either (w.is_late l) (λ t. rw t (omega arith)) (λ f. rw f (omega arith))

  pub few_acts : net.components ≤ 32 → all_headers net ≤ 1024 → ((l : ℕ) → l < net.links → 0 < net.count l) → ((c : ℕ) → c < net.components → net.frames c < 18446744073709551616) → acts_left w opening < 340282366920938463463374607431768211455
  few_acts few headers some frames =
      let n = sum_least net.links net.count some in
      let a = sum_ways net.components (ways_left w opening) (λ c b. ways_few c) in
      let m = sum_makings net.links (makings_left w opening) net.count (λ l b. makings_few l) in
      let k = sum_changes net.links (changes_left w opening) (λ l b. changes_few l) in
      let s : script_left w opening ≤ 31396 = omega arith in
      let f : all_frames net ≤ 18446744073709551616 * net.components = sum_words net.components (λ c. net.frames c + 1) (λ c b. let x = frames c b in omega arith) in
      let g : work_left net opening.flow ≤ 18446744073709551616 * net.components = sum_words net.components _ (λ c b. let x = frames c b in omega arith) in
      let h : hands_left w opening ≤ 0 = sum_none net.links (hands_of w opening) (λ l b. omega arith) in
      let p = product (script_left w opening) (all_frames net) (work_left net opening.flow) (all_headers net) s (omega arith) (omega arith) headers in
      omega arith
