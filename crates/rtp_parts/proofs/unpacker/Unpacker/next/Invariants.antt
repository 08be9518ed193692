use Rattle.std.proofs.Common.{◌≡◌, ◌+◌, ◌-◌, ◌≤◌, ◌^◌, length, drop}
use Rattle.outside_io.specs.Moves.{WhereTold}
use Rattle.rtp_parts.specs.Steps.{course_left, room_left, steps_left}
use Rattle.rtp_parts.proofs.unpacker.Unpacker.next.Given as goal

abbrev pub invariant-loop-held : goal.invariant-loop-held
invariant-loop-held g l = record {
  left : WhereTold (g.S.Source.told l.initial.src) (λ bytes.
      course_left l.initial.self (drop (g.S.Source.offset l.initial.src) bytes) ≡ course_left l.self (drop (g.S.Source.offset l.src) bytes));
  last : l.self.end ≡ l.initial.self.end;
  few : l.self.packets + room_left l.self (g.S.Source.size l.initial.src - g.S.Source.offset l.src) ≤ 2 ^ 27;
  steps : steps_left l.self (g.S.Source.size l.initial.src - g.S.Source.offset l.src) ≤ steps_left l.initial.self (g.S.Source.size l.initial.src - g.S.Source.offset l.initial.src);
  room : length l.buffer ≡ 65535;
  reached : WhereTold (g.S.Source.ends l.initial.src) (λ end. g.S.Source.offset l.src ≤ end);
  told : g.S.Source.told l.src ≡ g.S.Source.told l.initial.src;
  src_name : g.S.Source.name l.src ≡ g.S.Source.name l.initial.src;
  ends : g.S.Source.ends l.src ≡ g.S.Source.ends l.initial.src;
  size : g.S.Source.size l.src ≡ g.S.Source.size l.initial.src;
  stays : g.S.Source.faults l.src ≡ g.S.Source.faults l.initial.src;
}

abbrev pub decreases-loop-held : goal.decreases-loop-held
decreases-loop-held g l = steps_left l.self (g.S.Source.size l.src - g.S.Source.offset l.src)
