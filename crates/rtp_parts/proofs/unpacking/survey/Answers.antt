use Rattle.std.proofs.Common.{rules, ◌≡◌, ℕ, ◌+◌, ◌-◌, ◌≤◌, ◌^◌, length, drop, sym, ap, subst, ◌∙◌, arith}
use Rattle.rtp_parts.specs.Steps.{course_of, counts_in, room_left, survey_of}
use Rattle.rtp_parts.proofs.CodesSent.{given_some, given_none}
use Rattle.rtp_parts.proofs.CourseLeft.{start-course, start-codes}
use Rattle.rtp_parts.proofs.Survey.{length-given, survey_long, survey_whole}
use Rattle.rtp_parts.proofs.UnpackAnswers.{unless_stopped, survey_ends}
use Rattle.rtp_parts.proofs.unpacking.survey.Goals as goal

pub pieces-init : goal.pieces-init
pieces-init g c =
    let u = c.new-unpacker.result in
    let made = c.new-unpacker.ensures in
    record {
      counts = λ bytes is. sym (ap counts_in (start-course u (drop (g.S.Source.offset c.args.src.now) bytes) made.course made.going));
      codes = λ bytes is silence. omega (arith, ap length (start-codes silence u (drop (g.S.Source.offset c.args.src.now) bytes) made.course made.going made.first));
      most = omega arith;
      few = search rules;
      room = search rules;
      reached = c.requires.reached;
      told = search rules;
      src_name = search rules;
      ends = search rules;
      size = search rules;
      stays = search rules;
    }

pub pieces-preserved : goal.pieces-preserved
pieces-preserved g c =
    let piece = c.in-Some.piece in
    record {
      counts = λ bytes is. c.pieces.invariant.counts bytes is ∙ given_some _ piece _ c.in-Some.is (c.in_ok-piece.ensures.counts bytes (c.pieces.invariant.told ∙ is));
      codes = λ bytes is silence.
          let long = length-given piece.silence silence _ piece.payload.items _ (given_some _ piece _ c.in-Some.is (c.in_ok-piece.ensures.given bytes (c.pieces.invariant.told ∙ is)) silence) in
          omega (arith, c.pieces.invariant.codes bytes is silence, long, c.from.ensures, c.len.ensures, piece.payload.ok.0);
      most = omega (arith, c.if-frames-gt-MOST_CODES.false);
      few = subst (λ (n : ℕ). c.next.new.self.packets + room_left c.next.new.self (n - g.S.Source.offset c.next.new.src) ≤ 2 ^ 27) c.pieces.invariant.size c.in_ok-piece.ensures.few;
      room = search rules;
      reached = λ end is. c.in_ok-piece.ensures.reached end (c.pieces.invariant.ends ∙ is);
      told = c.in_ok-piece.ensures.keeps_source.told ∙ c.pieces.invariant.told;
      src_name = c.in_ok-piece.ensures.keeps_source.name ∙ c.pieces.invariant.src_name;
      ends = c.in_ok-piece.ensures.keeps_source.ends ∙ c.pieces.invariant.ends;
      size = c.in_ok-piece.ensures.keeps_source.size ∙ c.pieces.invariant.size;
      stays = c.in_ok-piece.ensures.stays ∙ c.pieces.invariant.stays;
    }

pub returns-then-frames-gt-MOST_CODES-clause-answer : goal.returns-then-frames-gt-MOST_CODES-clause-answer
returns-then-frames-gt-MOST_CODES-clause-answer g c = λ bytes is.
    let piece = c.in-Some.piece in
    let long = length-given piece.silence 0 _ piece.payload.items _ (given_some _ piece _ c.in-Some.is (c.in_ok-piece.ensures.given bytes (c.pieces.invariant.told ∙ is)) 0) in
    survey_long (drop (g.S.Source.offset c.args.src.now) bytes)
    (omega (arith, c.pieces.invariant.codes bytes is 0, long, c.from.ensures, c.len.ensures, piece.payload.ok.0, c.if-frames-gt-MOST_CODES.true))

pub returns-then-frames-gt-MOST_CODES-clause-cause : goal.returns-then-frames-gt-MOST_CODES-clause-cause
returns-then-frames-gt-MOST_CODES-clause-cause g c = c.in_ok-piece.ensures.stays ∙ c.pieces.invariant.stays

pub returns-in-None-clause-cause : goal.returns-in-None-clause-cause
returns-in-None-clause-cause g c =
    survey_ends (g.S.Source.size c.args.src.now) (g.S.Source.ends c.args.src.now) (g.S.Source.faults c.args.src.now) (g.S.Source.faults c.next.new.src) c.next.new.self.stream (counts_in (course_of c.next.new.self)) c.pieces.frames c.found.result c.found.ensures (c.in_ok-piece.ensures.stays ∙ c.pieces.invariant.stays)

pub returns-in-None-clause-answer : goal.returns-in-None-clause-answer
returns-in-None-clause-answer g c = λ bytes is.
    let rest = drop (g.S.Source.offset c.args.src.now) bytes in
    let told = c.pieces.invariant.told ∙ is in
    let none = ap length (given_none _ _ c.in-None.is (c.in_ok-piece.ensures.none bytes told) 0) in
    unless_stopped c.found.result (λ r. r ≡ survey_of rest)
    (survey_whole rest c.next.new.self c.pieces.frames c.found.result c.found.ensures
    (c.pieces.invariant.counts bytes is ∙ given_none _ _ c.in-None.is (c.in_ok-piece.ensures.all bytes told))
    (omega (arith, c.pieces.invariant.codes bytes is 0, none)))
