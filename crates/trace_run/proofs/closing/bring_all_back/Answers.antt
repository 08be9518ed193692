use Rattle.std.proofs.Common.{◌≡◌, List, ◌++◌, ◌∷◌, [], length, refl, subst, arith}
use Rattle.machine_laws.proofs.Every.{push_last_there}
use Rattle.trace_run.specs.Standing.{graph_kept}
use Rattle.held_work_laws.specs.Works.{HeldWork}
use Rattle.trace_run.specs.Works.{HasDeskMoment, kept_with}
use Rattle.trace_run.proofs.HeldLines.{last_back, out_somewhere}
use Rattle.trace_run.proofs.closing.bring_all_back.Goals as goal

pub bring_back-requires : goal.bring_back-requires
bring_back-requires c =
    let front = c.pop.new.self.items in
    let graph = graph_kept c.loop-work.graph in
    let components = c.requires.0 in
    let slots = c.requires.1 in
    let S = c.loop-work.invariant components slots c.requires.2 in
    let T = subst (λ (ws : List HeldWork). HasDeskMoment (kept_with graph components slots ws)) c.in-Some.ensures.items S in
    out_somewhere (kept_with graph components slots (front ++ c.in-Some.work ∷ [])) (length front) c.in-Some.work T (push_last_there front c.in-Some.work)

pub loop-work-preserved : goal.loop-work-preserved
loop-work-preserved c components slots S =
    let front = c.pop.new.self.items in
    let graph = graph_kept c.loop-work.graph in
    let T = subst (λ (ws : List HeldWork). HasDeskMoment (kept_with graph components slots ws)) c.in-Some.ensures.items (c.loop-work.invariant components slots S) in
    last_back (record { graph = graph; components = components; slots = slots }) (graph_kept c.bring_back.new.graph) front c.in-Some.work c.bring_back.result c.bring_back.ensures T

none_of : {A : Type 0} (xs : List A) → length xs ≡ 0 → xs ≡ []
none_of [] e = refl
none_of (x ∷ xs) e = absurd (omega arith)

pub returns : goal.returns
returns c components slots S =
    let works = c.loop-work.rest.items in
    let none : length works ≡ 0 = omega (arith, c.loop-work.rest.ok.0, c.in_default.ensures.cases.0) in
    subst (λ (ws : List HeldWork). HasDeskMoment (kept_with (graph_kept c.loop-work.graph) components slots ws)) (none_of works none) (c.loop-work.invariant components slots S)
