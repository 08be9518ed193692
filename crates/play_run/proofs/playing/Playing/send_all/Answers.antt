use Rattle.std.proofs.Common.{◌≡◌, ◌<◌, length, refl, ◌∙◌, ap, subst, ℕ, arith}
use Rattle.il_graph.specs.Shown.{file_of}
use Rattle.play_run.specs.Playing.{PlayingValue}
use Rattle.play_run.specs.Sending.{SendsTo}
use Rattle.play_run.proofs.Stages.{send_begins, sends_all, sends_next, still_parts}
use Rattle.play_run.proofs.playing.Playing.send_all.Goals as goal

pub loop-place-init : goal.loop-place-init
loop-place-init g c = record { plan = refl; files = λ number. refl; sent = send_begins c.args.self.now c.args.state }

pub handle-h-requires-clause-parts : goal.handle-h-requires-clause-parts
handle-h-requires-clause-parts g c = still_parts c.args.self.now c.loop-place.self c.args.state c.loop-place.place c.requires c.loop-place.invariant.sent

pub loop-place-preserved : goal.loop-place-preserved
loop-place-preserved g c =
    let count = c.count-place-end.ensures.count in
    let below : c.loop-place.place < length c.args.self.now.plan.parts = omega arith in
    record {
      plan = ap (λ (z : PlayingValue _ _). z.plan) c.self.view_is ∙ c.loop-place.invariant.plan;
      files = λ number. c.send_command.ensures.files number ∙ (ap (λ (z : PlayingValue g.row.S.Denot g.row.K.Denot). file_of number z.graph) c.self.view_is ∙ c.loop-place.invariant.files number);
      sent = sends_next _ c.loop-place.self c.args.self.now c.self.view_is c.send_command.new.self c.log_act.new.log c.args.state c.loop-place.place c.handle-h.result c.send_command.result c.loop-place.invariant.plan below c.handle-h.ensures
          (record { name = c.name_at.result; said = c.sent.result; named = c.name_at.ensures; says = c.sent.ensures; told = c.log_act.ensures })
          c.send_command.ensures.clients c.send_command.ensures.step c.law_of_component_streams.ensures.sent c.loop-place.invariant.sent;
    }

pub returns-clause-sent : goal.returns-clause-sent
returns-clause-sent g c =
    let count = c.count-place-end.ensures.count in
    let e : c.loop-place.place ≡ length c.args.self.now.plan.parts = omega arith in
    sends_all c.args.self.now c.loop-place.self c.loop-place.invariant.plan c.args.state (subst (λ (n : ℕ). SendsTo c.args.self.now c.loop-place.self c.args.state n) e c.loop-place.invariant.sent)

pub returns-clause-files : goal.returns-clause-files
returns-clause-files g c = c.loop-place.invariant.files
