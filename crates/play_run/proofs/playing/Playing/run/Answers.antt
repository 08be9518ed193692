use Rattle.std.proofs.Common.{false, true, refl, sym, ◌∙◌}
use Rattle.play_plan_laws.specs.Assemblies.{play_cast_of}
use Rattle.play_run.proofs.Answering.{has_parts}
use Rattle.play_run.proofs.Recording.{still_there}
use Rattle.play_run.proofs.Commanding.{place_there, run_turns, turn_there}
use Rattle.play_run.proofs.playing.Playing.run.Goals as goal

pub place-place-requires : goal.place-place-requires
place-place-requires g c = turn_there c.args.self.now c.args.component c.requires.plays c.requires.there

pub handle-h-requires-clause-there : goal.handle-h-requires-clause-there
handle-h-requires-clause-there g c = place_there c.args.self.now c.args.component c.place-place.result c.requires.plays c.requires.there c.place-place.ensures

pub handle-h-requires-clause-parts : goal.handle-h-requires-clause-parts
handle-h-requires-clause-parts g c = has_parts c.args.self.now c.requires.plays

pub name_at-requires : goal.name_at-requires
name_at-requires g c =
    still_there _ c.args.self.now c.self.view_is c.place-place.result (place_there c.args.self.now c.args.component c.place-place.result c.requires.plays c.requires.there c.place-place.ensures)

pub returns-then-not-did-clause-turned : goal.returns-then-not-did-clause-turned
returns-then-not-did-clause-turned g c =
    let call = c.run_command.ensures in
    run_turns _ c.args.self.now c.self.view_is c.run_command.new.self _ c.args.component c.place-place.result c.handle-h.result c.run_command.result false c.requires.there c.place-place.ensures c.handle-h.ensures
    call.clients (λ recent p w v W b N s k later q H V e. c.law_of_component_streams.ensures.ran (play_cast_of c.self.inside.plan) k recent later p q w v c.args.component c.handle-h.result c.run_command.result W H V e b N s) call.step call.unchanged call.idle (sym c.if-not-did.true ∙ c.did.ensures) (λ f. refl) (λ t. absurd cc)

pub returns-clause-turned : goal.returns-clause-turned
returns-clause-turned g c =
    let call = c.run_command.ensures in
    run_turns _ c.args.self.now c.self.view_is c.run_command.new.self c.log_act.new.log c.args.component c.place-place.result c.handle-h.result c.run_command.result true c.requires.there c.place-place.ensures c.handle-h.ensures
    call.clients (λ recent p w v W b N s k later q H V e. c.law_of_component_streams.ensures.ran (play_cast_of c.self.inside.plan) k recent later p q w v c.args.component c.handle-h.result c.run_command.result W H V e b N s) call.step call.unchanged call.idle (sym c.if-not-did.false ∙ c.did.ensures) (λ f. absurd cc)
    (λ t. record { name = c.name_at.result; said = c.ran.result; named = c.name_at.ensures; says = c.ran.ensures; told = c.log_act.ensures })
