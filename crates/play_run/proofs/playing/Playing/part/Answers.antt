use Rattle.std.proofs.Common.{◌∙◌, ap}
use Rattle.il_graph.specs.Shown.{file_of}
use Rattle.conductor.specs.declared.phase.ChangeStep.TheVariants.{Retune}
use Rattle.play_run.specs.Playing.{PlayingValue}
use Rattle.play_run.proofs.Acting.{tunnel_drops}
use Rattle.play_run.proofs.Onward.{changing_parts, changing_there}
use Rattle.play_run.proofs.playing.Playing.part.Goals as goal

pub port-output-requires-clause-there : goal.port-output-requires-clause-there
port-output-requires-clause-there g c = changing_there c.args.self.now c.args.link Retune 0 c.requires

pub port-output-requires-clause-parts : goal.port-output-requires-clause-parts
port-output-requires-clause-parts g c = changing_parts c.args.self.now c.args.link Retune 0 c.requires

pub returns-clause-files : goal.returns-clause-files
returns-clause-files g c = λ number. c.drop_tunnel.ensures.files number ∙ ap (λ (z : PlayingValue g.row.S.Denot g.row.K.Denot). file_of number z.graph) c.self.view_is

pub returns-clause-changed : goal.returns-clause-changed
returns-clause-changed g c =
    let output = c.port-output in
    let input = c.port-input in
    let first = c.port_name-first in
    let second = c.port_name-second in
    tunnel_drops _ c.args.self.now c.self.view_is c.drop_tunnel.new.self c.log_act.new.log c.args.link c.drop_tunnel.ensures.clients output.result input.result first.result second.result c.dropped.result
    (record {
      giver = output.ensures.handle;
      taker = input.ensures.handle;
      output_port = output.ensures.index;
      input_port = input.ensures.index;
      first_named = first.ensures.component;
      second_named = second.ensures.component;
      first_port = first.ensures.index;
      second_port = second.ensures.index;
    })
    c.log_act.ensures c.drop_tunnel.result c.dropped.ensures c.drop_tunnel.ensures.step c.law_of_changed_streams.ensures.dropped
