use Rattle.std.proofs.Common.{◌<◌, ap, ◌∙◌, not, nat_eq, subst, ℕ}
use Rattle.port_stock.specs.Blocks.{key_of}
use Rattle.port_stock.specs.Entries.{headers_of}
use Rattle.port_stock.proofs.Reading.{next_shown, view}
use Rattle.port_stock.proofs.stock.Stock.numbers_left.Goals as goal

pub returns-clause-left : goal.returns-clause-left
returns-clause-left c = rw (← c.self.view_is) (c.is_given.ensures.left ∙ ap (λ n. not (nat_eq n 18446744073709551615)) (next_shown (view (key_of c.self.inside.region) c.self.inside.ports.items (headers_of c.self.inside.entries.items) c.self.inside.next)))

pub returns-clause-below : goal.returns-clause-below
returns-clause-below c =
    rw (← c.self.view_is) (λ t. subst (λ (n : ℕ). n < 18446744073709551615) (next_shown (view (key_of c.self.inside.region) c.self.inside.ports.items (headers_of c.self.inside.entries.items) c.self.inside.next)) (c.is_given.ensures.below t))
