use Rattle.std.proofs.Common.{rules, ℕ, ◌+◌, ◌-◌, ◌≤◌, ◌^◌, ◌++◌, [], replicate, drop, sym, subst, ◌∙◌}
use Rattle.outside_io.proofs.Known.{append_known-nil}
use Rattle.rtp_parts.specs.Packets.{silence_of}
use Rattle.rtp_parts.specs.Steps.{room_left}
use Rattle.rtp_parts.proofs.CodesSent.{given_some, given_none, sent_on, sent_piece, sent_part, sent_all}
use Rattle.rtp_parts.proofs.CourseLeft.{start-codes}
use Rattle.rtp_parts.proofs.unpacking.write_codes.Goals as goal

pub pieces-init : goal.pieces-init
pieces-init g c =
    let u = c.new-unpacker.result in
    let made = c.new-unpacker.ensures in
    record {
      sent = λ bytes is. ([], sym (start-codes (silence_of c.args.companding) u (drop (g.S.Source.offset c.args.src.now) bytes) made.course made.going made.first), sym (append_known-nil (g.K.Sink.told c.args.snk.now)));
      few = search rules;
      room = search rules;
      reached = c.requires.reached;
      told = search rules;
      src_name = search rules;
      ends = search rules;
      size = search rules;
      read = search rules;
      name = search rules;
      write = search rules;
    }

pub pieces-preserved : goal.pieces-preserved
pieces-preserved g c =
    let piece = c.in-Some.piece in
    let silence = silence_of c.args.companding in
    record {
      sent = λ bytes is.
          let before = c.pieces.invariant.sent bytes is in
          let front = replicate piece.silence silence ++ piece.payload.items in
          let sent = sent_on _ _ _ _ before.0 _ front _ (before.1, before.2) (given_some _ piece _ c.in-Some.is (c.in_ok-piece.ensures.given bytes (c.pieces.invariant.told ∙ is)) silence) c.in-Ok.ensures.whole in
          (before.0 ++ front, sent.0, sent.1);
      few = subst (λ (n : ℕ). c.next.new.self.packets + room_left c.next.new.self (n - g.S.Source.offset c.next.new.src) ≤ 2 ^ 27) c.pieces.invariant.size c.in_ok-piece.ensures.few;
      room = search rules;
      reached = λ end is. c.in_ok-piece.ensures.reached end (c.pieces.invariant.ends ∙ is);
      told = c.in_ok-piece.ensures.keeps_source.told ∙ c.pieces.invariant.told;
      src_name = c.in_ok-piece.ensures.keeps_source.name ∙ c.pieces.invariant.src_name;
      ends = c.in_ok-piece.ensures.keeps_source.ends ∙ c.pieces.invariant.ends;
      size = c.in_ok-piece.ensures.keeps_source.size ∙ c.pieces.invariant.size;
      read = c.in_ok-piece.ensures.stays ∙ c.pieces.invariant.read;
      name = search rules;
      write = search rules;
    }

pub returns-in-Err-clause-front : goal.returns-in-Err-clause-front
returns-in-Err-clause-front g c = λ bytes is.
    let piece = c.in-Some.piece in
    let silence = silence_of c.args.companding in
    let before = c.pieces.invariant.sent bytes is in
    sent_piece _ _ _ _ before.0 _ (replicate piece.silence silence ++ piece.payload.items) _ (before.1, before.2)
    (given_some _ piece _ c.in-Some.is (c.in_ok-piece.ensures.given bytes (c.pieces.invariant.told ∙ is)) silence) c.write_piece.ensures.front

pub returns-in-None-clause-whole : goal.returns-in-None-clause-whole
returns-in-None-clause-whole g c = λ bytes is.
    let before = c.pieces.invariant.sent bytes is in
    sent_all _ _ _ before.0 _ (before.1, before.2)
    (given_none _ _ c.in-None.is (c.in_ok-piece.ensures.none bytes (c.pieces.invariant.told ∙ is)) (silence_of c.args.companding))

pub returns-in-None-clause-front : goal.returns-in-None-clause-front
returns-in-None-clause-front g c = λ bytes is.
    let before = c.pieces.invariant.sent bytes is in
    sent_part _ _ _ before.0 _ (before.1, before.2)

pub returns-in_err-piece-clause-front : goal.returns-in_err-piece-clause-front
returns-in_err-piece-clause-front g c = λ bytes is.
    let before = c.pieces.invariant.sent bytes is in
    sent_part _ _ _ before.0 _ (before.1, before.2)
