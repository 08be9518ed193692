use Rattle.load_gen.proofs.Generated.{wav-whole, wav-front, wav-front_head}
use Rattle.load_gen.proofs.samples.write_wav.Goals as goal

pub returns-clause-whole : goal.returns-clause-whole
returns-clause-whole g c = wav-whole c.write_samples.result _ _ _ _ c.args.x c.args.frames c.head_bytes-len.ensures.written c.in_ok-write_all.ensures.whole c.write_samples.ensures.whole

pub returns-clause-front : goal.returns-clause-front
returns-clause-front g c = wav-front _ _ _ _ c.args.x c.args.frames c.head_bytes-len.ensures.written c.in_ok-write_all.ensures.whole c.write_samples.ensures.front

pub returns-in_err-write_all-clause-front : goal.returns-in_err-write_all-clause-front
returns-in_err-write_all-clause-front g c = wav-front_head _ _ _ c.args.x c.args.frames c.head_bytes-len.ensures.written c.write_all.ensures.front
