use Rattle.std.proofs.Common.{◌≡◌, replicate, vec_len, vec_capacity}
use Rattle.block_region.proofs.memory.house_zeros.Given as goal

abbrev pub invariant-loop : goal.invariant-loop
invariant-loop l = (l.bytes.items ≡ replicate l.counter 0) × (vec_len l.bytes ≡ l.counter) × (vec_capacity l.bytes ≡ l.len) × (l.bytes.ptr ≡ l.fn.ptr)
