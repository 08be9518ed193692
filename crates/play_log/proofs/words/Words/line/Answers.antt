use Rattle.std.proofs.Common.{◌∙◌, ap, sym}
use Rattle.act_text.specs.declared.reply.TextReply.{TextReply}
use Rattle.play_log.specs.Places.{rest_text}
use Rattle.std.proofs.lemmas.Option.{slice_get_within}
use Rattle.play_log.proofs.Spelling.{finished_so, said_so}
use Rattle.play_log.proofs.words.Words.line.Goals as goal

pub returns-in_ok-words-in-Finished-clause-said : goal.returns-in_ok-words-in-Finished-clause-said
returns-in_ok-words-in-Finished-clause-said c =
    finished_so c.number_of.new.self c.in_ok-words-in-Finished.words c.args.pass c.in-Finished.frames c.args.act.now.act c.in_ok-words-in-Finished.ensures.there
    ∙ ap (λ (reply : TextReply). rest_text (record { pass = c.args.pass; said = record { act = c.args.act.now.act; reply = reply } })) (sym c.in-Finished.is)

pub returns-in_ok-words-in-Finished-clause-there : goal.returns-in_ok-words-in-Finished-clause-there
returns-in_ok-words-in-Finished-clause-there c = slice_get_within _ _ _ c.in_ok-words-in-Finished.ensures.there

pub returns-in_ok-words-in_default : goal.returns-in_ok-words-in_default
returns-in_ok-words-in_default c = record {
  said = said_so c.number_of-in_default.new.self c.in_ok-words-in_default.words c.args.pass c.args.act.now c.in_ok-words-in_default.ensures.there;
  there = slice_get_within _ _ _ c.in_ok-words-in_default.ensures.there;
  stay = c.in_ok-words-in_default.ensures.stay;
}
