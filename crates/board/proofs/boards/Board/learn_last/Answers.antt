use Rattle.std.proofs.Common.{◌∙◌, sym, subst}
use Rattle.state_words.specs.Shown.{Within}
use Rattle.state_words.specs.Tokens.{known}
use Rattle.board.proofs.Chain.{snoc_last}
use Rattle.board.proofs.boards.Board.learn_last.Goals as goal

pub returns-clause-learned : goal.returns-clause-learned
returns-clause-learned g c = λ before t is.
    let after = known c.learn.new.to in
    let at = snoc_last c.pop_back.new.self.items before _ t (sym c.in-Some.ensures.items ∙ is) in
    subst (λ s. Within (known s.reader) after) at (subst (λ l. Within l after) c.split-seen.ensures.3 c.learn.ensures.known.1)
