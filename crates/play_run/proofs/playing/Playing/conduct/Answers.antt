use Rattle.std.proofs.Common.{subst, arith}
use Rattle.il_machine.specs.Due.{IsClosed}
use Rattle.il_machine.specs.Whole.{Always}
use Rattle.play_graph.specs.Graphs.{kept_of}
use Rattle.play_run.specs.Playing.{PlayingValue}
use Rattle.play_run.proofs.Answering.{has_parts}
use Rattle.play_run.proofs.Conducting.{change_answer, may_change, may_send, no_failure, over_answer, send_answer, told_many, wait_answer}
use Rattle.play_run.proofs.playing.Playing.conduct.Goals as goal

pub look-views-requires : goal.look-views-requires
look-views-requires g c = has_parts c.args.self.now c.requires

pub count-count-requires : goal.count-count-requires
count-count-requires g c = has_parts c.args.self.now c.requires

pub hear-requires-clause-many : goal.hear-requires-clause-many
hear-requires-clause-many g c = told_many _ c.args.self.now c.self.view_is c.count-count.result c.count-count.ensures.count c.requires

pub send_all-requires : goal.send_all-requires
send_all-requires g c =
    let few = c.count-count.ensures.few in
    let many = c.look-views.ensures.many in
    may_send _ c.args.self.now c.self.view_is c.look-views.result c.count-count.result c.count-count.ensures.count (omega arith) c.look-views.ensures.views c.hear.new.conductor c.requires c.in-Send.state (rw c.in-Send.is at c.hear.ensures) c.law_of_begun_streams.ensures.begun

pub change-requires : goal.change-requires
change-requires g c =
    let few = c.count-count.ensures.few in
    let many = c.look-views.ensures.many in
    may_change _ c.args.self.now c.self.view_is c.look-views.result c.count-count.result c.count-count.ensures.count (omega arith) c.look-views.ensures.views c.hear.new.conductor c.requires c.in-Change.component c.in-Change.step (rw c.in-Change.is at c.hear.ensures)

pub unreachable-requires : goal.unreachable-requires
unreachable-requires g c =
    let few = c.count-count.ensures.few in
    let many = c.look-views.ensures.many in
    no_failure _ c.args.self.now c.self.view_is c.look-views.result c.count-count.result c.count-count.ensures.count (omega arith) c.look-views.ensures.views c.hear.new.conductor c.requires (rw c.in-Failed.is at c.hear.ensures)

pub returns-in-Send-clause-turned : goal.returns-in-Send-clause-turned
returns-in-Send-clause-turned g c =
    let few = c.count-count.ensures.few in
    let many = c.look-views.ensures.many in
    send_answer _ c.args.self.now c.self.view_is c.look-views.result c.count-count.result c.count-count.ensures.count (omega arith) c.look-views.ensures.views c.hear.new.conductor c.in-Send.state (rw c.in-Send.is at c.hear.ensures) c.law_of_begun_streams.ensures.begun c.send_all.new.self c.send_all.ensures.plan c.send_all.ensures.sent
    (subst (λ (z : PlayingValue _ _). Always (kept_of z.graph) IsClosed) c.self-in-Send.view_is c.law_of_worlds.ensures.closed)

pub returns-in-Change-clause-turned : goal.returns-in-Change-clause-turned
returns-in-Change-clause-turned g c =
    let few = c.count-count.ensures.few in
    let many = c.look-views.ensures.many in
    change_answer _ c.args.self.now c.self.view_is c.look-views.result c.count-count.result c.count-count.ensures.count (omega arith) c.look-views.ensures.views c.hear.new.conductor c.in-Change.component c.in-Change.step (rw c.in-Change.is at c.hear.ensures) c.change.new.self c.change.ensures.changed

pub returns-in-Wait-clause-turned : goal.returns-in-Wait-clause-turned
returns-in-Wait-clause-turned g c =
    let few = c.count-count.ensures.few in
    let many = c.look-views.ensures.many in
    wait_answer _ c.args.self.now c.self.view_is c.look-views.result c.count-count.result c.count-count.ensures.count (omega arith) c.look-views.ensures.views c.hear.new.conductor (rw c.in-Wait.is at c.hear.ensures)

pub returns-in-Over-clause-turned : goal.returns-in-Over-clause-turned
returns-in-Over-clause-turned g c =
    let few = c.count-count.ensures.few in
    let many = c.look-views.ensures.many in
    over_answer _ c.args.self.now c.self.view_is c.look-views.result c.count-count.result c.count-count.ensures.count (omega arith) c.look-views.ensures.views c.hear.new.conductor (rw c.in-Over.is at c.hear.ensures)
