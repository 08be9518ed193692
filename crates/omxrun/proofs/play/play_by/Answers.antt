use Rattle.std.proofs.Common.{◌≡◌, ℕ, zero, suc, ◌≤◌, ◌==◌, false, length, sym, ◌∙◌, arith}
use Rattle.std.specs.Vec.{vec_len}
use Rattle.omxrun.proofs.play.play_by.Goals as goal

some_of : (n m : ℕ) → n ≡ m → (n == 0) ≡ false → 1 ≤ m
some_of zero m e f = absurd cc
some_of (suc n) m e f = omega (arith, e)

pub play_workers-requires-clause-few : goal.play_workers-requires-clause-few
play_workers-requires-clause-few g c = λ κs within.
    let n : vec_len c.args.gates ≡ length c.args.gates.items = omega (arith, c.args.gates.ok.0) in
    (some_of (vec_len c.args.gates) (length c.args.gates.items) n (sym c.is_empty.ensures ∙ c.if-is_empty.false), c.requires.few)
