use Rattle.std.proofs.Common.{◌≡◌, length, take, rules, arith}
use Rattle.std.proofs.lemmas.Grind.{common_steps}
use Rattle.conductor.specs.Hearing.{heard}
use Rattle.conductor.specs.Phases.{Conducts}
use Rattle.conducting_thread.proofs.Knowing.{knows_heard, knows_next}
use Rattle.conducting_thread.proofs.conducting.hear.Goals as goal

pub returns-clause-knows : goal.returns-clause-knows
returns-clause-knows c = λ plan k.
    let many : length (take c.args.count c.args.views.now) ≡ length c.args.conductor.now.told = first_of (search rules, grind (arith, common_steps)) in
    let conducts : Conducts (heard c.args.conductor.now (take c.args.count c.args.views.now)) c.next.result c.next.new.self = first_of (search rules, grind (arith, common_steps)) in
    knows_next plan (heard c.args.conductor.now (take c.args.count c.args.views.now)) c.next.result c.next.new.self conducts (knows_heard plan c.args.conductor.now (take c.args.count c.args.views.now) many k)
