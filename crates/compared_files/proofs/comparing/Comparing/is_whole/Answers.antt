use Rattle.std.proofs.Common.{◌≡◌, ◌≤◌, ℕ, List, [], length, Some, subst, sym, ◌∙◌, arith}
use Rattle.std.proofs.lemmas.Grind.{common_steps}
use Rattle.compared_files.specs.Comparing.{ComparingValue, given_by}
use Rattle.compared_files.proofs.Fronts.{not_whole, some_bytes}
use Rattle.compared_files.proofs.comparing.Comparing.is_whole.Goals as goal

pub returns-else-is_empty-clause-other : goal.returns-else-is_empty-clause-other
returns-else-is_empty-clause-other g c = λ no known is.
    let some = some_bytes c.self.inside.other.items (grind (arith, common_steps, c.if-is_empty.false, c.is_empty.ensures)) in
    subst (λ v. g.S.Source.told v.src ≡ Some known → given_by known v ≡ known → ⊥) c.self.view_is
    (λ same.
    let within : c.self.inside.place ≤ length known = let s = c.size-size.ensures.told known same in subst (λ n. c.self.inside.place ≤ n) s c.self.invariant.within in
    not_whole c.self.inside.place known c.self.inside.other.items within (c.self.invariant.differed some known same))
    is
