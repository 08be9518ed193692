use Rattle.std.proofs.Common.{◌≡◌, take, drop}
use Rattle.conductor.specs.Hearing.{heard_lates}
use Rattle.conductor.proofs.hearing.hear_lates.Given as goal

abbrev pub invariant-loop-late : goal.invariant-loop-late
invariant-loop-late l = record {
  front : take l.late-index l.lates ≡ heard_lates l.told (take l.late-index l.initial.lates);
  rest : drop l.late-index l.lates ≡ drop l.late-index l.initial.lates;
}
