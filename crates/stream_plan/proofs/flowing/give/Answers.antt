use Rattle.std.proofs.Common.{◌≡◌, ℕ, ◌+◌, ◌++◌, List, length, take, drop, sym, ◌∙◌, ap, subst}
use Rattle.std.proofs.lemmas.List.{length-set}
use Rattle.play_forms.specs.declared.flow.Flow.{Flow}
use Rattle.play_forms.specs.Settling.{with_given}
use Rattle.stream_plan.proofs.Defaults.{no_joint}
use Rattle.stream_plan.proofs.Flows.{give_here, give_past}
use Rattle.stream_plan.proofs.flowing.give.Goals as goal
use Rattle.stream_plan.proofs.flowing.give.Goals.{then-joints-number, else-joints-number}

pub loop-number-preserved : goal.loop-number-preserved
loop-number-preserved c =
    let joints = c.args.joints.now in
    let flows = c.loop-number.flows in
    let k = c.loop-number.number in
    let place = c.args.place in
    let given : ℕ → Flow = λ output. c.args.flow in
    let P : List Flow → Type 0 = λ after. take (k + 1) after ++ with_given given (drop (k + 1) joints) (drop (k + 1) after) place ≡ with_given given joints c.args.flows.now place in
    elim c.if-joints-number.branch [
      | then-joints-number w ↦ record {
        many = ap length w.flows-is ∙ length-set flows k c.args.flow ∙ c.loop-number.invariant.many;
        given = subst P (sym w.flows-is) (give_here given joints flows k place no_joint c.loop-number-test.true c.loop-number.invariant.many w.if-joints-number.true ∙ c.loop-number.invariant.given);
      }
      | else-joints-number w ↦ record {
        many = ap length w.flows-is ∙ c.loop-number.invariant.many;
        given = subst P (sym w.flows-is) (give_past given joints flows k place no_joint c.loop-number-test.true c.loop-number.invariant.many w.if-joints-number.false ∙ c.loop-number.invariant.given);
      }
    ]
