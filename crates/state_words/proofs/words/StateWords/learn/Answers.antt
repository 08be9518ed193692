use Rattle.std.proofs.Common.{ap, subst, ◌∙◌, arith}
use Rattle.state_words.specs.Shown.{Within}
use Rattle.state_words.proofs.Showing.{joins}
use Rattle.state_words.proofs.words.StateWords.learn.Goals as goal

pub join_seat-requires : goal.join_seat-requires
join_seat-requires c = let t = c.requires.0 in let f = c.requires.1 in let is = c.into_seat-seat.ensures in let n = t.5 in
    (t.0, ap (λ s. s.table_id) is ∙ f.0, ap (λ s. s.me.1) is ∙ f.1, omega arith, joins _ _ _ _)

pub returns-clause-known : goal.returns-clause-known
returns-clause-known c = let joined = c.join_seat.ensures.2 in let knows = c.look.ensures.known in (
  subst (λ z. Within z c.look.new.seat.me.0.seen) (ap (λ m. m.0.seen) joined) knows.0,
  subst (λ z. Within z c.look.new.seat.me.0.seen) (ap (λ m. m.0.also) joined ∙ ap (λ s. s.me.0.seen) c.into_seat-seat.ensures) knows.1,
)
