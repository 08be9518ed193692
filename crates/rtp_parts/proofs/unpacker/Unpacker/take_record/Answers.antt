use Rattle.std.proofs.Common.{ap, subst, refl, ◌∙◌, drop}
use Rattle.rtp_parts.specs.Steps.{course_of, with_records, RecordAt}
use Rattle.rtp_parts.proofs.RecordRead.{left-ends, left-goes}
use Rattle.rtp_parts.proofs.unpacker.Unpacker.take_record.Goals as goal

pub returns-in-End-clause-left : goal.returns-in-End-clause-left
returns-in-End-clause-left g c = λ x is.
    left-ends c.args.self.now _ _ _ c.requires.going refl
    (ap (with_records (course_of c.args.self.now)) (subst (RecordAt c.read_record.new.buffer (drop (g.S.Source.offset c.args.src.now) x) (drop (g.S.Source.offset c.read_record.new.src) x)) c.in-End.is (c.in_ok-read_record.ensures.record x is)))

pub returns-in-Cut-clause-left : goal.returns-in-Cut-clause-left
returns-in-Cut-clause-left g c = λ x is.
    left-ends c.args.self.now _ _ _ c.requires.going refl
    (ap (with_records (course_of c.args.self.now)) (subst (RecordAt c.read_record.new.buffer (drop (g.S.Source.offset c.args.src.now) x) (drop (g.S.Source.offset c.read_record.new.src) x)) c.in-Cut.is (c.in_ok-read_record.ensures.record x is)))

pub returns-in-Ok-clause-left : goal.returns-in-Ok-clause-left
returns-in-Ok-clause-left g c = λ x is.
    left-goes c.args.self.now c.take_packet.new.self _ _ _ c.requires.going (c.in-Ok.ensures.ended ∙ c.requires.going)
    (subst (RecordAt c.read_record.new.buffer (drop (g.S.Source.offset c.args.src.now) x) (drop (g.S.Source.offset c.read_record.new.src) x)) c.in-Whole.is (c.in_ok-read_record.ensures.record x is))
    c.in-Ok.ensures.taken
