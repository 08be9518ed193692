use Rattle.std.proofs.Common.{rules, ◌≡◌, ◌+◌, ◌<◌, [], ◌∷◌, ◌++◌, All, length, ap, sym, subst, ◌∙◌, arith, length-append}
use Rattle.std.proofs.lemmas.List.Elements.{All-push}
use Rattle.play_workers.specs.Rooms.{IsNewKit}
use Rattle.play_workers.proofs.kit.make_all.Goals as goal

pub loop-alloc-preserved : goal.loop-alloc-preserved
loop-alloc-preserved g c =
    let i = c.loop-alloc.invariant in
    let old = c.loop-alloc.kits.items in
    let items : c.push_reserved.new.self.items ≡ old ++ c.in-Some.kit ∷ [] = c.push_reserved.ensures.items in
    let len : length c.push_reserved.new.self.items ≡ length old + 1 = ap length items ∙ length-append old (c.in-Some.kit ∷ []) in
    let lt : length old < c.args.count = search rules in
    let room = c.push_reserved.ensures.capacity in
    let had = i.2 in (
      subst (All IsNewKit) (sym items) (All-push IsNewKit old c.in-Some.kit i.0 c.in-Some.ensures),
      omega (arith, len, lt),
      omega (arith, room, had),
    )
