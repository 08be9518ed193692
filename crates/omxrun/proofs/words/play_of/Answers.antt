use Rattle.std.proofs.Common.{◌<◌, ◌^◌, ℕ, List, [], ◌∷◌, codes, sym, subst, arith, rules}
use Rattle.omxrun.specs.Words.{AreNoForm, IsPlay}
use Rattle.omxrun.proofs.Forms.{no_play}
use Rattle.omxrun.proofs.words.play_of.Goals as goal

pub returns-else-is_play-clause-none : goal.returns-else-is_play-clause-none
returns-else-is_play-clause-none c =
    let fits : c.in-Some.workers < 2 ^ 64 = omega arith in
    let none : IsPlay c.args.script.now c.in-Some.workers c.args.log.now → ⊥ = λ is. search (rules, c.if-is_play.ensures.1 is) in
    subst (λ (word : List ℕ). AreNoForm (codes "play" ∷ c.args.script.now ∷ word ∷ c.args.log.now ∷ [])) (sym c.in-Some.ensures.some) (no_play _ _ _ fits none)
