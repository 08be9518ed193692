use Rattle.std.proofs.Common.{◌≡◌, ◌++◌, ◌+◌, take, length}
use Rattle.clock_core.proofs.text.put.Given as goal

abbrev pub invariant-loop-byte : goal.invariant-loop-byte
invariant-loop-byte l = record {
  so_far : l.text.items ≡ l.initial.text.items ++ take l.byte-index l.bytes;
  count : length l.text.items ≡ length l.initial.text.items + l.byte-index;
}
