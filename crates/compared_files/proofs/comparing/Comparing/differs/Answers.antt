use Rattle.std.proofs.Common.{◌≡◌, ◌≤◌, ◌==◌, Bool, true, false, not, ℕ, List, [], length, Some, subst, sym, ap, ◌∙◌, arith}
use Rattle.std.proofs.lemmas.Grind.{common_steps}
use Rattle.compared_files.specs.Comparing.{ComparingValue, IsFrontless, given_by}
use Rattle.compared_files.proofs.Fronts.{frontless, some_bytes}
use Rattle.compared_files.proofs.comparing.Comparing.differs.Goals as goal

pub returns-clause-differs : goal.returns-clause-differs
returns-clause-differs g c = λ yes known is.
    let some = some_bytes c.self.inside.other.items (grind (arith, common_steps, yes, c.is_empty.ensures)) in
    subst (λ v. g.S.Source.told v.src ≡ Some known → IsFrontless known (given_by known v)) c.self.view_is
    (λ same.
    let within : c.self.inside.place ≤ length known = let s = c.size-size.ensures.told known same in subst (λ n. c.self.inside.place ≤ n) s c.self.invariant.within in
    frontless c.self.inside.place known c.self.inside.other.items within (c.self.invariant.differed some known same))
    is
