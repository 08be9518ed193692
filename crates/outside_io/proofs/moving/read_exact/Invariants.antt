use Rattle.std.proofs.Common.{◌≡◌, ◌+◌, ◌-◌, ◌≤◌, max, take, drop, length}
use Rattle.outside_io.specs.Asking.{AsksWithin}
use Rattle.outside_io.specs.Moves.{WhereTold}
use Rattle.outside_io.proofs.moving.read_exact.Given as goal

abbrev pub invariant-loop-done : goal.invariant-loop-done
invariant-loop-done g l = record {
  within : l.done ≤ length l.buf;
  offset : g.S.Source.offset l.source ≡ g.S.Source.offset l.initial.source + l.done;
  told : g.S.Source.told l.source ≡ g.S.Source.told l.initial.source;
  name : g.S.Source.name l.source ≡ g.S.Source.name l.initial.source;
  ends : g.S.Source.ends l.source ≡ g.S.Source.ends l.initial.source;
  size : g.S.Source.size l.source ≡ g.S.Source.size l.initial.source;
  read : g.S.Source.faults l.source ≡ g.S.Source.faults l.initial.source;
  asks : AsksWithin (g.S.Source.asked l.initial.source) (g.S.Source.asked l.source) (g.S.Source.offset l.initial.source + length l.initial.buf);
  within_end : WhereTold (g.S.Source.ends l.initial.source) (λ end. g.S.Source.offset l.source ≤ max end (g.S.Source.offset l.initial.source));
  filled : WhereTold (g.S.Source.told l.initial.source) (λ bytes.
      take l.done l.buf ≡ take l.done (drop (g.S.Source.offset l.initial.source) bytes));
}

abbrev pub decreases-loop-done : goal.decreases-loop-done
decreases-loop-done g l = length l.buf - l.done
