use Rattle.std.proofs.Common.{◌≡◌, ℕ, ◌+◌, ◌-◌, List, length, length-set, slice_get, Option, ◌∙◌, ap, subst, arith}
use Rattle.audio_parts.specs.declared.part_file.PartFile.{PartFile}
use Rattle.il_machine.specs.Whole.{StepsWhere}
use Rattle.machine_laws.proofs.Every.{set_else}
use Rattle.play_build_laws.specs.Dismantling.{IsUnjoined}
use Rattle.play_graph.specs.Graphs.{kept_of}
use Rattle.play_graph.proofs.Apart.{IsFreed, all_freed, came_next, freed_down}
use Rattle.play_graph.proofs.freeing.free_all.Goals as goal

pub loop-left-preserved : goal.loop-left-preserved
loop-left-preserved g c =
    let i = c.loop-left.invariant in
    let place : ℕ = c.loop-left.left - 1 in
    let next : c.loop-left.left ≡ place + 1 = omega arith in
    let few = i.few in
    record {
      few = omega arith;
      many = ap (λ (fs : List (Option (PartFile _ _))). length fs) c.put.ensures ∙ (length-set c.loop-left.files place c.free-file.result ∙ i.many);
      gone = λ k b. ap (λ (fs : List (Option (PartFile _ _))). slice_get fs k) c.put.ensures ∙ (set_else c.loop-left.files place k c.free-file.result (λ q. omega (arith, b, q)) ∙ i.gone k (omega (arith, b)));
      kept = λ k b. c.free-file.ensures.files k (λ q. omega (arith, b, q)) ∙ i.kept k (omega (arith, b));
      came = λ k l b. came_next c.args.graph.now place k next c.loop-left.files c.put.new.files c.free-file.result c.put.ensures (i.gone place (omega arith)) (c.free-file.ensures.file ∙ i.kept place (omega arith)) (λ more. i.came k more b) l;
      steps = freed_down (length c.args.plan.now.parts) c.loop-left.left place next c.args.graph.now c.loop-left.graph c.free-file.new.graph c.loop-left.files c.put.new.files c.free-file.result c.put.ensures (i.gone place (omega arith)) i.steps c.free-file.ensures.steps;
    }

pub returns-clause-steps : goal.returns-clause-steps
returns-clause-steps g c =
    let e : c.loop-left.left ≡ 0 = omega arith in
    all_freed (length c.args.plan.now.parts) c.args.graph.now c.loop-left.graph c.loop-left.files
    (subst (λ (n : ℕ). StepsWhere (kept_of c.args.graph.now) (kept_of c.loop-left.graph) (IsUnjoined (length c.args.plan.now.parts)) (λ w v. IsFreed (length c.args.plan.now.parts) n w v c.loop-left.files)) e c.loop-left.invariant.steps)

pub returns-clause-files : goal.returns-clause-files
returns-clause-files g c = λ place b. c.loop-left.invariant.came place (omega arith) b
