use Rattle.std.proofs.Common.{◌≡◌, ◌^◌, ◌<◌, ◌≤◌, ◌++◌, drop, length}
use Rattle.std.specs.Fmt.{decimal}
use Rattle.line_text.proofs.numbers.put_digits.Given as goal

abbrev pub invariant-loop-rest : goal.invariant-loop-rest
invariant-loop-rest l = record {
  some : 1 ≤ l.start;
  within : l.start ≤ 20;
  room : length l.buf ≡ 20;
  fits : l.rest < 10 ^ l.start;
  digits : decimal l.rest ++ drop l.start l.buf ≡ decimal l.n;
}

abbrev pub decreases-loop-rest : goal.decreases-loop-rest
decreases-loop-rest l = l.rest
