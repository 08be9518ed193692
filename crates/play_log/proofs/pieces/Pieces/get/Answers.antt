use Rattle.std.proofs.Common.{◌≡◌, ◌<◌, ◌≤◌, ◌/◌, ◌%◌, ◌*◌, ◌+◌, ◌-◌, ℕ, length, slice_get, sym, ap, ◌∙◌, arith, rules}
use Rattle.play_log.proofs.Piecing.{in_piece, in_last}
use Rattle.play_log.proofs.pieces.Pieces.get.Goals as goal

pub returns-then-piece-len : goal.returns-then-piece-len
returns-then-piece-len g c =
    let n : ℕ = c.args.index in
    let q : ℕ = n / 8192 in
    let r : ℕ = n % 8192 in
    let parts : n ≡ q * 8192 + r = omega arith in
    let low : r < 8192 = omega arith in
    let within : q < length c.self.inside.full.items = search rules in
    c.get_copied.ensures
    ∙ (ap (λ xs. slice_get xs r) (c.as_slice.ensures.value ∙ ap (λ v. v.items) c.index.ensures)
    ∙ (sym (in_piece c.self.inside.full.items c.self.inside.last.items q r c.index.result.now c.self.invariant.0 within low)
    ∙ ((λ i. slice_get (c.self.view_is i) (sym parts i)))))

pub returns-else-piece-len : goal.returns-else-piece-len
returns-else-piece-len g c =
    let n : ℕ = c.args.index in
    let r : ℕ = n - c.len-else-piece-len.result * 8192 in
    let many : c.len-else-piece-len.result ≡ length c.self.inside.full.items = search rules in
    let past : length c.self.inside.full.items ≤ n / 8192 = search rules in
    let there : n ≡ length c.self.inside.full.items * 8192 + r = omega (arith, many, past) in
    c.get_copied-else-piece-len.ensures
    ∙ (ap (λ xs. slice_get xs r) c.as_slice-else-piece-len.ensures.value
    ∙ (sym (in_last c.self.inside.full.items c.self.inside.last.items n r c.self.invariant.0 there)
    ∙ ap (λ xs. slice_get xs n) c.self.view_is))
