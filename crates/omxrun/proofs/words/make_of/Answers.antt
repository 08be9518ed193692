use Rattle.std.proofs.Common.{ℕ, List, [], ◌∷◌, codes, sym, subst, rules}
use Rattle.std.specs.Fmt.{decimal}
use Rattle.omxrun.specs.Words.{AreNoForm, IsMake}
use Rattle.omxrun.proofs.Forms.{no_make}
use Rattle.omxrun.proofs.words.make_of.Goals as goal

pub returns-else-is_make-clause-none : goal.returns-else-is_make-clause-none
returns-else-is_make-clause-none c =
    let none : IsMake c.in-Some-Some.seed c.in-Some-Some.frames c.args.folder.now → ⊥ = λ is. search (rules, c.if-is_make.ensures.1 is) in
    subst (λ (word : List ℕ). AreNoForm (codes "make" ∷ word ∷ c.args.frames.now ∷ c.args.folder.now ∷ [])) (sym c.in-Some-Some.ensures.some)
    (subst (λ (word : List ℕ). AreNoForm (codes "make" ∷ decimal c.in-Some-Some.seed ∷ word ∷ c.args.folder.now ∷ [])) (sym c.in-Some-Some.ensures'.some) (no_make _ _ _ c.in-Some-Some.ensures.fits c.in-Some-Some.ensures'.fits none))
