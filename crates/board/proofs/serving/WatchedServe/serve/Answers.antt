use Rattle.std.proofs.Common.{subst}
use Rattle.state_words.specs.Tokens.{IsReaderOf, IsShowerOf}
use Rattle.state_words.specs.declared.words.StateWords.{StateWords}
use Rattle.graph_acts.specs.Plain.{sight_of}
use Rattle.board.proofs.Serves.{finish}
use Rattle.board.proofs.serving.WatchedServe.serve.Goals as goal

pub returns : goal.returns
returns g c = λ first log pass due.
    let see = sight_of g.C.Client g.S.Source g.K.Sink in
    let l = c.law_of_worlds.ensures in
    let n = c.law_of_worlds-2.ensures in
    let t = c.share.ensures in
    finish see g.C.Client.HEADERS first c.args.self.now log pass c.args.asked c.args.place c.answer-reply.new.self c.show_changes.new.self c.share.new.from c.share.new.to c.answer-reply.result due
    (record { sound = l.sound; out = l.out }) (record { sound = n.sound; out = n.out }) c.answer-reply.ensures c.show_changes.ensures
    (subst (λ (w : StateWords). IsShowerOf w c.share.new.from) c.deref.ensures t.tokens.0)
    (subst (λ (w : StateWords). IsReaderOf w c.share.new.to) c.deref.ensures t.tokens.1)
    t.tokens.2
    t.known.0
