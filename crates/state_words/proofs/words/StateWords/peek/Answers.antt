use Rattle.std.proofs.Common.{arith, ap, subst, ◌∙◌, ◌≡◌, ◌+◌, ◌-◌, ◌<◌, length}
use Rattle.state_words.specs.Shown.{States, states_of, word_of}
use Rattle.state_words.proofs.Showing.{tells}
use Rattle.state_words.proofs.words.StateWords.peek.Goals as goal

pub returns-clause-last : goal.returns-clause-last
returns-clause-last c = let r = c.requires in let same = c.look-word.ensures.same in let n = r.0.5 in let m = same.5 in let k = r.1 in
    let q : c.args.index + 1 - 1 ≡ c.args.index = omega arith in
    let f = c.look-word.ensures.found (omega arith) (omega arith) in
    let is = ap (states_of c.look-word.new.seat.me.0.seen) q in
    tells _ c.args.index c.look-word.result _ (subst (λ (z : States). 0 < length z) is f.1) (f.0 ∙ ap word_of is) c.state_of.ensures
