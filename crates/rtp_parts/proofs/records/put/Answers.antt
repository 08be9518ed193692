use Rattle.std.proofs.Common.{arith}
use Rattle.wav_form.proofs.Putting.{Puts-piece}
use Rattle.rtp_parts.proofs.records.put.Goals as goal

pub returns : goal.returns
returns c = Puts-piece c.args.out.now c.copy_from_slice.new.self c.args.bytes.now c.args.at (omega arith) c.copy_from_slice.ensures.after
