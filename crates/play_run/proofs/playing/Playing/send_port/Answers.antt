use Rattle.std.proofs.Common.{◌∙◌, ap}
use Rattle.il_graph.specs.Shown.{file_of}
use Rattle.play_run.specs.Changing.{sending, sent_as}
use Rattle.play_run.specs.Playing.{PlayingValue}
use Rattle.play_run.proofs.Acting.{port_sends}
use Rattle.play_run.proofs.Onward.{changing_parts, changing_there}
use Rattle.play_run.proofs.playing.Playing.send_port.Goals as goal

pub port-port-requires-clause-there : goal.port-port-requires-clause-there
port-port-requires-clause-there g c = changing_there c.args.self.now c.args.link (sending c.args.disables) (sent_as c.args.end) c.requires

pub port-port-requires-clause-parts : goal.port-port-requires-clause-parts
port-port-requires-clause-parts g c = changing_parts c.args.self.now c.args.link (sending c.args.disables) (sent_as c.args.end) c.requires

pub returns-clause-files : goal.returns-clause-files
returns-clause-files g c = λ number. c.send_command.ensures.files number ∙ ap (λ (z : PlayingValue g.row.S.Denot g.row.K.Denot). file_of number z.graph) c.self.view_is

pub returns-clause-changed : goal.returns-clause-changed
returns-clause-changed g c =
    let port = c.port-port in
    let name = c.port_name-name in
    port_sends _ c.args.self.now c.self.view_is c.send_command.new.self c.log_act.new.log c.args.link c.send_command.ensures.clients c.args.end c.args.disables port.result.handle port.result.index c.port_command.result c.send_command.result name.result c.port_sent.result
    port.ensures.handle port.ensures.index c.port_command.ensures name.ensures.component name.ensures.index c.port_sent.ensures c.log_act.ensures c.send_command.ensures.step c.law_of_changed_streams.ensures.sent
