use Rattle.std.proofs.Common.{◌≡◌, ℕ, ◌+◌, ◌-◌, ◌≤◌, ◌^◌, length, drop}
use Rattle.outside_io.specs.Moves.{WhereTold}
use Rattle.rtp_parts.specs.Steps.{course_left, codes_left, counts_in, whole_course, whole_codes, room_left, steps_left}
use Rattle.rtp_parts.specs.Unpacking.{most_codes}
use Rattle.rtp_parts.proofs.unpacking.survey.Given as goal

abbrev pub invariant-pieces : goal.invariant-pieces
invariant-pieces g l = record {
  counts : WhereTold (g.S.Source.told l.initial.src) (λ bytes.
      counts_in (whole_course (drop (g.S.Source.offset l.initial.src) bytes)) ≡ counts_in (course_left l.unpacker (drop (g.S.Source.offset l.src) bytes)));
  codes : WhereTold (g.S.Source.told l.initial.src) (λ bytes. (silence : ℕ) →
      length (whole_codes silence (drop (g.S.Source.offset l.initial.src) bytes)) ≡ l.frames + length (codes_left silence l.unpacker (drop (g.S.Source.offset l.src) bytes)));
  most : l.frames ≤ most_codes;
  few : l.unpacker.packets + room_left l.unpacker (g.S.Source.size l.initial.src - g.S.Source.offset l.src) ≤ 2 ^ 27;
  room : length l.buffer ≡ 65535;
  reached : WhereTold (g.S.Source.ends l.initial.src) (λ end. g.S.Source.offset l.src ≤ end);
  told : g.S.Source.told l.src ≡ g.S.Source.told l.initial.src;
  src_name : g.S.Source.name l.src ≡ g.S.Source.name l.initial.src;
  ends : g.S.Source.ends l.src ≡ g.S.Source.ends l.initial.src;
  size : g.S.Source.size l.src ≡ g.S.Source.size l.initial.src;
  stays : g.S.Source.faults l.src ≡ g.S.Source.faults l.initial.src;
}

abbrev pub decreases-pieces : goal.decreases-pieces
decreases-pieces g l = steps_left l.unpacker (g.S.Source.size l.src - g.S.Source.offset l.src)
