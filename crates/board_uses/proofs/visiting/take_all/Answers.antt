use Rattle.board_uses.proofs.visiting.take_all.Goals as goal

pub returns-clause-of : goal.returns-clause-of
returns-clause-of g c = λ b all.
    c.take_reply-6.ensures.of b (c.take_reply-5.ensures.of b (c.take_reply-4.ensures.of b (c.take_reply-3.ensures.of b (c.take_reply-2.ensures.of b (c.take_reply.ensures.of b all)))))
