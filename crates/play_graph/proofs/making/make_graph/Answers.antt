use Rattle.std.proofs.Common.{length, ◌∙◌, ap}
use Rattle.il_machine.specs.Whole.{no_kept}
use Rattle.play_graph.proofs.Building.{starts}
use Rattle.play_graph.proofs.Going.{on_ends, on_factors, on_files, on_tunnels}
use Rattle.il_graph.specs.Shown.{offered}
use Rattle.play_graph.proofs.Filed.{files_of, still_come}
use Rattle.play_graph.proofs.Standing.{few_links}
use Rattle.play_graph.proofs.making.make_graph.Goals as goal

pub make_components-requires-clause-stands : goal.make_components-requires-clause-stands
make_components-requires-clause-stands g c = let C = c.requires in (C.files, starts c.args.plan.now _ c.in_ok-graph.graph (c.in_ok-graph.ensures ∙ ap (no_kept _) c.units.ensures) C.files C.ready)

pub set_factors-requires-clause-stands : goal.set_factors-requires-clause-stands
set_factors-requires-clause-stands g c =
    let C = c.requires in
    let plan = c.args.plan.now in
    let zero = starts plan _ c.in_ok-graph.graph (c.in_ok-graph.ensures ∙ ap (no_kept _) c.units.ensures) C.files C.ready in
    (C.files, on_factors plan C.files c.in_ok-graph.graph c.make_components.new.graph zero c.in-Ok.ensures.made)

pub set_ends-requires-clause-few : goal.set_ends-requires-clause-few
set_ends-requires-clause-few g c = few_links c.args.plan.now c.requires.files c.requires.ready

pub set_ends-requires-clause-stands : goal.set_ends-requires-clause-stands
set_ends-requires-clause-stands g c =
    let C = c.requires in
    let plan = c.args.plan.now in
    let zero = starts plan _ c.in_ok-graph.graph (c.in_ok-graph.ensures ∙ ap (no_kept _) c.units.ensures) C.files C.ready in
    let one = on_factors plan C.files c.in_ok-graph.graph c.make_components.new.graph zero c.in-Ok.ensures.made in
    (C.files, on_ends plan C.files c.make_components.new.graph c.set_factors.new.graph one c.set_factors.ensures)

pub give_files-requires-clause-stands : goal.give_files-requires-clause-stands
give_files-requires-clause-stands g c =
    let C = c.requires in
    let plan = c.args.plan.now in
    let zero = starts plan _ c.in_ok-graph.graph (c.in_ok-graph.ensures ∙ ap (no_kept _) c.units.ensures) C.files C.ready in
    let one = on_factors plan C.files c.in_ok-graph.graph c.make_components.new.graph zero c.in-Ok.ensures.made in
    let two = on_ends plan C.files c.make_components.new.graph c.set_factors.new.graph one c.set_factors.ensures in
    (C.files, on_files plan C.files c.set_factors.new.graph c.set_ends.new.graph two c.set_ends.ensures, C.offered)

pub join_all-requires-clause-few : goal.join_all-requires-clause-few
join_all-requires-clause-few g c = few_links c.args.plan.now c.requires.files c.requires.ready

pub join_all-requires-clause-stands : goal.join_all-requires-clause-stands
join_all-requires-clause-stands g c =
    let C = c.requires in
    let plan = c.args.plan.now in
    let zero = starts plan _ c.in_ok-graph.graph (c.in_ok-graph.ensures ∙ ap (no_kept _) c.units.ensures) C.files C.ready in
    let one = on_factors plan C.files c.in_ok-graph.graph c.make_components.new.graph zero c.in-Ok.ensures.made in
    let two = on_ends plan C.files c.make_components.new.graph c.set_factors.new.graph one c.set_factors.ensures in
    let three = on_files plan C.files c.set_factors.new.graph c.set_ends.new.graph two c.set_ends.ensures in
    (C.files, on_tunnels plan C.files c.give_files.new.graph (c.give_files.ensures.goes C.files three C.offered))

pub returns-clause-made : goal.returns-clause-made
returns-clause-made g c = λ files R O.
    let plan = c.args.plan.now in
    let zero = starts plan _ c.in_ok-graph.graph (c.in_ok-graph.ensures ∙ ap (no_kept _) c.units.ensures) files R in
    let one = on_factors plan files c.in_ok-graph.graph c.make_components.new.graph zero c.in-Ok.ensures.made in
    let two = on_ends plan files c.make_components.new.graph c.set_factors.new.graph one c.set_factors.ensures in
    let three = on_files plan files c.set_factors.new.graph c.set_ends.new.graph two c.set_ends.ensures in
    c.join_all.ensures.goes files (on_tunnels plan files c.give_files.new.graph (c.give_files.ensures.goes files three O))

pub returns-clause-files : goal.returns-clause-files
returns-clause-files g c =
    let C = c.requires in
    let plan = c.args.plan.now in
    let zero = starts plan _ c.in_ok-graph.graph (c.in_ok-graph.ensures ∙ ap (no_kept _) c.units.ensures) C.files C.ready in
    let one = on_factors plan C.files c.in_ok-graph.graph c.make_components.new.graph zero c.in-Ok.ensures.made in
    let two = on_ends plan C.files c.make_components.new.graph c.set_factors.new.graph one c.set_factors.ensures in
    let three = on_files plan C.files c.set_factors.new.graph c.set_ends.new.graph two c.set_ends.ensures in
    let made = c.join_all.ensures.goes C.files (on_tunnels plan C.files c.give_files.new.graph (c.give_files.ensures.goes C.files three C.offered)) in
    files_of plan C.files (offered g.S.Source.offset g.S.Source.size g.S.Source.told g.K.Sink.told) c.args.files.now c.join_all.new.graph made C.offered C.many c.law_of_worlds.ensures.files
    (still_come (length plan.parts) c.args.files.now c.give_files.new.graph c.join_all.new.graph c.join_all.ensures.files c.give_files.ensures.came)
