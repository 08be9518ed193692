use Rattle.std.proofs.Common.{◌≡◌, ◌++◌, drop}
use Rattle.line_text.specs.Numbers.{hex_of}
use Rattle.trace_run.proofs.printing.put_digits.Given as goal

abbrev pub invariant-loop-byte : goal.invariant-loop-byte
invariant-loop-byte l = l.out.items ++ hex_of (drop l.byte-index l.bytes) ≡ l.fn.out.items ++ hex_of l.bytes
