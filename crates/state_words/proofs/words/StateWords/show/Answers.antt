use Rattle.std.proofs.Common.{arith, ap, ◌∙◌, ◌+◌}
use Rattle.state_words.proofs.Showing.{low, next_of, next_now, shows, stored, long_after, one_higher}
use Rattle.state_words.proofs.words.StateWords.show.Goals as goal

pub overflow_add-next : goal.overflow_add-next
overflow_add-next c = let r = c.requires.shower in let n = next_of _ _ _ _ _ c.args.state r.0.5 r.1 (c.look-word.ensures.shower r.0.3) c.look-word.ensures.found c.requires.room in
    let s = n.short in omega arith

pub overflow_add-next-2 : goal.overflow_add-next-2
overflow_add-next-2 c = let r = c.requires.shower in let n = next_of _ _ _ _ _ c.args.state r.0.5 r.1 (c.look-word.ensures.shower r.0.3) c.look-word.ensures.found c.requires.room in
    let s = n.short in let is = c.from.ensures ∙ c.number.ensures in let k = low c.args.state in omega arith

pub store-requires : goal.store-requires
store-requires c = let r = c.requires.shower in let same = c.look-word.ensures.shower r.0.3 in let n = next_of _ _ _ _ _ c.args.state r.0.5 r.1 same c.look-word.ensures.found c.requires.room in
    let k = c.look-word.ensures.same in let f = r.1 in let long = r.0.5 in let keeps = k.5 in (
      k.0 ∙ r.0.0,
      omega arith,
      shows _ _ (c.args.index + 1) _ _ c.args.state (k.1 ∙ r.0.3) (omega arith) (omega arith) (next_now _ _ _ _ _ _ n same (c.from.ensures ∙ c.number.ensures)),
    )

pub returns-clause-shower : goal.returns-clause-shower
returns-clause-shower c = let r = c.requires.shower in let same = c.look-word.ensures.shower r.0.3 in let n = next_of _ _ _ _ _ c.args.state r.0.5 r.1 same c.look-word.ensures.found c.requires.room in
    let k = c.look-word.ensures.same in let e = stored _ c.args.index _ _ c.args.state c.look-word.new.seat.me c.store.new.seat.me n same (c.from.ensures ∙ c.number.ensures) c.store.ensures.2 in (
      c.store.ensures.0 ∙ (k.0 ∙ r.0.0),
      ap (λ m. m.1) e ∙ (k.3 ∙ r.0.1),
      ap (λ m. m.0.also) e,
      ap (λ m. m.0.shows) e ∙ (k.1 ∙ r.0.3),
      ap (λ m. m.0.spent) e ∙ k.2,
      long_after _ _ _ c.args.state c.look-word.new.seat.me c.store.new.seat.me r.0.5 e,
    )

pub returns-clause-shown : goal.returns-clause-shown
returns-clause-shown c = let r = c.requires.shower in let same = c.look-word.ensures.shower r.0.3 in let n = next_of _ _ _ _ _ c.args.state r.0.5 r.1 same c.look-word.ensures.found c.requires.room in
    ap (λ m. m.0.seen) (stored _ c.args.index _ _ c.args.state c.look-word.new.seat.me c.store.new.seat.me n same (c.from.ensures ∙ c.number.ensures) c.store.ensures.2)

pub returns-clause-version : goal.returns-clause-version
returns-clause-version c = let r = c.requires.shower in let same = c.look-word.ensures.shower r.0.3 in let n = next_of _ _ _ _ _ c.args.state r.0.5 r.1 same c.look-word.ensures.found c.requires.room in
    one_higher _ _ _ _ c.args.state n (ap (λ m. m.0.seen) (stored _ c.args.index _ _ c.args.state c.look-word.new.seat.me c.store.new.seat.me n same (c.from.ensures ∙ c.number.ensures) c.store.ensures.2))
