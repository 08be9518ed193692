use Rattle.std.proofs.Common.{◌≡◌, ◌*◌, take, drop}
use Rattle.line_text.specs.Numbers.{hex_of}
use Rattle.line_text.proofs.hex.put_hex.Given as goal

abbrev pub invariant-loop-i : goal.invariant-loop-i
invariant-loop-i l = record {
  written : take (2 * l.i) l.buf ≡ hex_of (take l.i l.bytes);
  rest : drop (2 * l.i) l.buf ≡ drop (2 * l.i) l.initial.buf;
}
