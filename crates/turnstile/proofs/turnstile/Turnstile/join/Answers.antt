use Rattle.std.proofs.Common.{subst, sym, arith, ap, ◌∙◌}
use Rattle.turnstile.specs.Turns.{placed}
use Rattle.turnstile.proofs.Basics.{none_waits}
use Rattle.turnstile.proofs.Joining.{joins}
use Rattle.turnstile.proofs.Keeps.{learns}
use Rattle.turnstile.proofs.turnstile.Turnstile.join.Goals as goal

pub join_seat-requires : goal.join_seat-requires
join_seat-requires g c = let r = c.requires.root in let p = c.requires.pass in let w = c.args.self.now.sized.0 in let is = c.into_seat-seat.ensures in (
  r.0.0,
  ap (λ s. s.table_id) is ∙ p.0.0,
  ap (λ s. s.me.1) is ∙ p.0.1,
  rw w (omega arith),
  joins _ _ _ _ _ _ _ _ _ r.0.2.0 r.0.2.1 r.1 (ap (λ s. s.me.0.spent) is ∙ p.0.2.1) (ap (λ s. s.me.0.inside) is ∙ p.0.2.2) (ap (λ s. placed s.me.0.ticket s.me.0.more) is ∙ none_waits _ _ _ p.0.4) (subst (λ s. g.V.Serve.clear s.me.0.mine) (sym is) p.1),
)

pub load-requires : goal.load-requires
load-requires g c = let r = c.requires.root in let w = c.args.self.now.sized.0 in let is = ap (λ m. m.0) c.join_seat.ensures.2 in (
  c.join_seat.ensures.0 ∙ r.0.0,
  rw w (omega arith),
  learns _ _ _ _ _ _ _ _ (ap (λ v. v.stage) is ∙ r.0.2.0) (ap (λ v. v.spent) is ∙ r.0.2.1) (ap (λ v. v.inside) is ∙ r.0.2.2),
)
