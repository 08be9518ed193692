use Rattle.std.proofs.Common.{◌≡◌, take, length, ap, ◌∙◌}
use Rattle.std.proofs.Math.Seq.{take-append_seam}
use Rattle.std.proofs.lemmas.Bool.{both_ways}
use Rattle.std.proofs.lemmas.Slice.Eq.{bytes_eq-Decides}
use Rattle.act_text.proofs.words.after.Goals as goal

pub returns-else-eq-clause-none : goal.returns-else-eq-clause-none
returns-else-eq-clause-none c = λ rest spelled.
    let front : take (length c.args.word.now) c.args.line.now ≡ c.args.word.now = ap (take (length c.args.word.now)) spelled ∙ take-append_seam c.args.word.now rest in
    both_ways c.eq.result c.if-eq.false (c.eq.ensures ∙ (bytes_eq-Decides _ _).1 (c.split_at.ensures.front ∙ front))
