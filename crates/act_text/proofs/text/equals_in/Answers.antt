use Rattle.std.proofs.Common.{ℕ, List, [], length, sym, arith}
use Rattle.std.specs.Borrow.{Bor}
use Rattle.act_text.proofs.TextsAgain.{equals-place, equals-between}
use Rattle.act_text.proofs.text.equals_in.Goals as goal

no_word : Bor (List ℕ)
no_word = record { ref_ptr = (0, 0); now = [] }

pub returns-then-is_equals-clause-before : goal.returns-then-is_equals-clause-before
returns-then-is_equals-clause-before c =
    (equals-place c.loop-place.place c.args.words.now _ (omega arith) (λ k below. c.loop-place.invariant k _ below) (λ _. sym c.if-is_equals.ensures)).0

pub returns-then-is_equals-clause-after : goal.returns-then-is_equals-clause-after
returns-then-is_equals-clause-after c =
    (equals-place c.loop-place.place c.args.words.now _ (omega arith) (λ k below. c.loop-place.invariant k _ below) (λ _. sym c.if-is_equals.ensures)).1

pub returns-then-is_equals-clause-equals : goal.returns-then-is_equals-clause-equals
returns-then-is_equals-clause-equals c = λ within. equals-between c.loop-place.place c.args.words.now _ within (sym c.if-is_equals.ensures)

pub returns-clause-before : goal.returns-clause-before
returns-clause-before c =
    let n = length c.args.words.now in
    (equals-place n c.args.words.now no_word (omega arith) (λ k below. c.loop-place.invariant k no_word (omega arith)) (λ below. absurd (omega arith))).0

pub returns-clause-after : goal.returns-clause-after
returns-clause-after c =
    let n = length c.args.words.now in
    (equals-place n c.args.words.now no_word (omega arith) (λ k below. c.loop-place.invariant k no_word (omega arith)) (λ below. absurd (omega arith))).1
