use Rattle.play_uses.proofs.Equal.{at_any}
use Rattle.play_uses.proofs.gates.MeetingGate.new.Goals as goal

pub returns : goal.returns
returns c place = at_any 32 place 0
