use Rattle.std.proofs.Common.{option_map, sym, ◌∙◌, ap}
use Rattle.il_graph.specs.Shown.{offered}
use Rattle.play_graph.proofs.Building.{none_on}
use Rattle.play_graph.proofs.filing.give_file.Goals as goal

pub returns-in-None-clause-goes : goal.returns-in-None-clause-goes
returns-in-None-clause-goes g c = λ files A O. none_on c.args.plan.now c.args.graph.now c.args.place files (ap (option_map (offered g.S.Source.offset g.S.Source.size g.S.Source.told g.K.Sink.told)) (sym c.in-None.is) ∙ O) A
