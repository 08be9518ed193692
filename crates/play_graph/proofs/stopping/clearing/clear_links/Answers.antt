use Rattle.std.proofs.Common.{ℕ, ◌+◌, ◌∙◌, refl}
use Rattle.play_build_laws.specs.Halting.{KeepsFiles}
use Rattle.play_graph.specs.Stops.{HasBrought, HasCleared}
use Rattle.play_graph.proofs.Joining.{files_same, files_then, stands_then, steps_none, steps_then}
use Rattle.play_graph.proofs.stopping.clearing.clear_links.Goals as goal

pub bring_back-requires-clause-stands : goal.bring_back-requires-clause-stands
bring_back-requires-clause-stands g c = stands_then KeepsFiles (HasCleared c.args.plan.now 0) (HasCleared c.args.plan.now c.loop-link.link) c.args.graph.now c.loop-link.graph c.requires.stands c.loop-link.invariant.steps

pub unmake-requires-clause-stands : goal.unmake-requires-clause-stands
unmake-requires-clause-stands g c =
    stands_then KeepsFiles (HasCleared c.args.plan.now c.loop-link.link) (HasBrought c.args.plan.now c.loop-link.link) c.loop-link.graph c.bring_back.new.graph
    (stands_then KeepsFiles (HasCleared c.args.plan.now 0) (HasCleared c.args.plan.now c.loop-link.link) c.args.graph.now c.loop-link.graph c.requires.stands c.loop-link.invariant.steps) c.bring_back.ensures.steps

pub loop-link-init : goal.loop-link-init
loop-link-init g c = record { steps = steps_none KeepsFiles (HasCleared c.args.plan.now 0) files_same c.args.graph.now; files = λ number. refl }

pub loop-link-preserved : goal.loop-link-preserved
loop-link-preserved g c =
    let link : ℕ = c.loop-link.link in
    record {
      steps = steps_then KeepsFiles (HasCleared c.args.plan.now 0) (HasCleared c.args.plan.now link) (HasCleared c.args.plan.now (link + 1)) files_then c.args.graph.now c.loop-link.graph c.unmake.new.graph c.loop-link.invariant.steps
          (steps_then KeepsFiles (HasCleared c.args.plan.now link) (HasBrought c.args.plan.now link) (HasCleared c.args.plan.now (link + 1)) files_then c.loop-link.graph c.bring_back.new.graph c.unmake.new.graph c.bring_back.ensures.steps c.unmake.ensures.steps);
      files = λ number. c.unmake.ensures.files number ∙ (c.bring_back.ensures.files number ∙ c.loop-link.invariant.files number);
    }
