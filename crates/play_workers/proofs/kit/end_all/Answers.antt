use Rattle.std.proofs.Common.{IfSome, subst}
use Rattle.std.proofs.lemmas.List.Elements.{All-pop}
use Rattle.play_workers.specs.Rooms.{IsNewKit}
use Rattle.play_workers.proofs.kit.end_all.Goals as goal

pub end-requires : goal.end-requires
end-requires g c = subst (λ o. IfSome o IsNewKit) c.in-Some.is (All-pop IsNewKit c.loop-kit.kits.items c.pop.new.self.items c.pop.result c.pop.ensures.items c.loop-kit.invariant).1

pub loop-kit-preserved : goal.loop-kit-preserved
loop-kit-preserved g c = (All-pop IsNewKit c.loop-kit.kits.items c.pop.new.self.items c.pop.result c.pop.ensures.items c.loop-kit.invariant).0
