use Rattle.std.proofs.Common.{refl, subst}
use Rattle.state_words.specs.Tokens.{IsShowerOf}
use Rattle.state_words.specs.declared.words.StateWords.{StateWords}
use Rattle.board.proofs.Showings.{tidy_new}
use Rattle.board.proofs.watched.Watched.show_new.Goals as goal

pub returns : goal.returns
returns g c = record {
  served = refl;
  words = refl;
  handles = refl;
  tidy = tidy_new c.args.self.now c.args.i c.args.state c.show.new.by c.requires.tidy (subst (λ (w : StateWords). IsShowerOf w c.show.new.by) c.deref.ensures c.show.ensures.shower) c.show.ensures.shown;
  shown = c.show.ensures.shown;
}
