use Rattle.std.proofs.Common.{Ok, Err, Bool, ap, refl}
use Rattle.act_text.specs.declared.reply.TextReply.TheVariants as texts
use Rattle.il_machine.specs.Acts as acts
use Rattle.std.specs.Prelude.{Some}
use Rattle.std.proofs.Common.{sym}
use Rattle.trace_run.specs.Replying.{Plain}
use Rattle.trace_run.specs.Standing.{graph_kept}
use Rattle.trace_run.proofs.Replying.{replied}
use Rattle.trace_run.proofs.acts.tunnels.tunnel.Goals as goal

pub returns-in-Ok : goal.returns-in-Ok
returns-in-Ok c components = replied components (acts.SetupTunnel c.args.output c.args.input) (acts.Joined (Ok c.in-Ok.supplier)) (texts.Supplier c.is_input_end.result) (graph_kept c.args.graph.now) (graph_kept c.setup_tunnel.new.self)
    (λ headers. ap (λ (b : Bool). Some (Plain (texts.Supplier b))) (sym c.is_input_end.ensures)) c.in-Ok.ensures.step

pub returns-in-Err : goal.returns-in-Err
returns-in-Err c components = replied components (acts.SetupTunnel c.args.output c.args.input) (acts.Joined (Err c.in-Err.error)) (texts.Error c.in-Err.error) (graph_kept c.args.graph.now) (graph_kept c.setup_tunnel.new.self) (λ headers. refl) c.in-Err.ensures.step
