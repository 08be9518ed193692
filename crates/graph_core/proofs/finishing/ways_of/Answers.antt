use Rattle.std.proofs.Common.{◌≡◌, ◌<◌, length, Some, sym, ◌∙◌, arith, length-set}
use Rattle.il_machine.specs.World.{port_of}
use Rattle.machine_laws.proofs.Facts.{port_limits}
use Rattle.il_component.specs.Entries.{component_of}
use Rattle.port_rules.proofs.Refusing.{frame_some}
use Rattle.graph_core.proofs.Ways.{way_is, ways_more}
use Rattle.graph_core.proofs.finishing.ways_of.Goals as goal

pub way_of-requires-clause-some : goal.way_of-requires-clause-some
way_of-requires-clause-some g c = frame_some (component_of c.args.component.now) c.loop-index.index c.in-Some.port c.requires.sound (sym c.port.ensures ∙ c.in-Some.is)

pub way_of-requires-clause-few : goal.way_of-requires-clause-few
way_of-requires-clause-few g c =
    let D = port_limits (component_of c.args.component.now) c.loop-index.index c.in-Some.port c.requires.sound (sym c.port.ensures ∙ c.in-Some.is) in
    omega (arith, D.frame, D.most_size)

pub loop-index-preserved : goal.loop-index-preserved
loop-index-preserved g c =
    let k = component_of c.args.component.now in
    let here : port_of k c.loop-index.index ≡ Some c.in-Some.port = sym c.port.ensures ∙ c.in-Some.is in
    let all = c.loop-index.invariant.all in
    let few = c.ports-index-end.ensures.few in
    let l : c.loop-index.index < length c.loop-index.ways = omega arith in
    record {
      ways = ways_more k c.loop-index.ways c.loop-index.index c.way_of.result c.loop-index.invariant.ways
          (way_is k c.loop-index.index c.in-Some.port c.way_of.result c.requires.sound here c.way_of.ensures.input c.way_of.ensures.frame c.way_of.ensures.joined c.way_of.ensures.returning) l;
      all = length-set c.loop-index.ways c.loop-index.index c.way_of.result ∙ all;
    }
