use Rattle.std.proofs.Common.{false, true, ℕ, Ok, refl, sym, ◌∙◌, ap, subst}
use Rattle.il_machine.specs.declared.answer.Acted.TheVariants.{Did}
use Rattle.il_machine.specs.Acts as acts
use Rattle.play_log.specs.Said.{SaysOf}
use Rattle.il_graph.specs.Shown.{file_of}
use Rattle.play_run.specs.Playing.{PlayingValue}
use Rattle.play_plan_laws.specs.Assemblies.{play_cast_of}
use Rattle.play_run.proofs.Answering.{has_parts}
use Rattle.play_graph.proofs.Standing.{takers_there}
use Rattle.play_run.proofs.Recording.{still_there}
use Rattle.play_run.proofs.Linking.{supply_turns}
use Rattle.play_run.proofs.playing.Playing.supply.Goals as goal

pub handle-h-requires-clause-there : goal.handle-h-requires-clause-there
handle-h-requires-clause-there g c = takers_there c.args.self.now.plan c.args.link c.joint-joint.result c.requires.plays.1.standing.valid c.requires.there c.joint-joint.ensures

pub handle-h-requires-clause-parts : goal.handle-h-requires-clause-parts
handle-h-requires-clause-parts g c = has_parts c.args.self.now c.requires.plays

pub port_at-port-requires : goal.port_at-port-requires
port_at-port-requires g c =
    still_there _ c.args.self.now c.self.view_is c.joint-joint.result.taker (takers_there c.args.self.now.plan c.args.link c.joint-joint.result c.requires.plays.1.standing.valid c.requires.there c.joint-joint.ensures)

pub returns-then-not-did-clause-turned : goal.returns-then-not-did-clause-turned
returns-then-not-did-clause-turned g c =
    let call = c.supply.ensures in
    supply_turns _ c.args.self.now c.self.view_is c.supply.new.self _ c.args.link c.joint-joint.result c.handle-h.result c.supply.result false c.requires.there c.joint-joint.ensures c.handle-h.ensures
    call.clients (λ recent p w v W b N s k later q H V e. c.law_of_link_streams.ensures.supplied (play_cast_of c.self.inside.plan) k recent later p q w v c.args.link c.handle-h.result c.supply.result W H V e b N s) call.step call.unchanged call.idle (sym c.if-not-did.true ∙ c.did.ensures) (λ f. refl) (λ t. absurd cc)

pub returns-clause-turned : goal.returns-clause-turned
returns-clause-turned g c =
    let call = c.supply.ensures in
    let port = c.port_at-port in
    let says = subst (λ (i : ℕ). SaysOf port.result.component c.supplied.result (λ k. acts.Supply k i) (acts.Supplied (Ok Did))) port.ensures.index c.supplied.ensures in
    supply_turns _ c.args.self.now c.self.view_is c.supply.new.self c.log_act.new.log c.args.link c.joint-joint.result c.handle-h.result c.supply.result true c.requires.there c.joint-joint.ensures c.handle-h.ensures
    call.clients (λ recent p w v W b N s k later q H V e. c.law_of_link_streams.ensures.supplied (play_cast_of c.self.inside.plan) k recent later p q w v c.args.link c.handle-h.result c.supply.result W H V e b N s) call.step call.unchanged call.idle (sym c.if-not-did.false ∙ c.did.ensures) (λ f. absurd cc)
    (λ t. record { name = port.result.component; said = c.supplied.result; named = port.ensures.component; says = says; told = c.log_act.ensures })

pub returns-clause-files : goal.returns-clause-files
returns-clause-files g c = λ number. c.supply.ensures.files number ∙ ap (λ (z : PlayingValue g.row.S.Denot g.row.K.Denot). file_of number z.graph) c.self.view_is
