use Rattle.act_text.proofs.TextsAgain.{text-parts, ok-then}
use Rattle.act_text.proofs.text.put_text.Goals as goal

pub returns-clause-ok : goal.returns-clause-ok
returns-clause-ok c =
    ok-then c.put_reply_words.result _ _
    (text-parts c.args.out.now.items c.put_act_words.new.out.items c.put_equals.new.out.items c.put_reply_words.new.out.items c.args.act.now c.in_ok-put_act_words.ensures.ok c.in_ok-put_equals.ensures.ok)
    c.put_reply_words.ensures.ok
