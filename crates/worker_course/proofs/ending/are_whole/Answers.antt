use Rattle.std.proofs.Common.{◌≡◌, ◌+◌, ◌++◌, ◌∷◌, [], true, false, ℕ, List, All, take, sym, ap, ◌∙◌, subst, arith, rules}
use Rattle.std.proofs.lemmas.List.{take_more}
use Rattle.std.proofs.lemmas.List.Elements.{All-push}
use Rattle.play_log.specs.Places.{PassLogValue}
use Rattle.worker_course.proofs.ending.are_whole.Goals as goal

pub loop-page-preserved : goal.loop-page-preserved
loop-page-preserved c =
    let i : ℕ = c.loop-page.page-index in
    let pages : List PassLogValue = c.args.pages.now in
    let page : PassLogValue = c.page-item.result in
    let next : take (i + 1) pages ≡ take i pages ++ page ∷ [] = take_more pages i page c.loop-page-test.true ∙ ap (λ (x : PassLogValue). take i pages ++ x ∷ []) (sym c.page-item.is) in
    let sound : page.broken ≡ false = search rules in
    record {
      within = omega arith;
      whole = subst (All (λ (x : PassLogValue). x.broken ≡ false)) (sym next) (All-push (λ (x : PassLogValue). x.broken ≡ false) (take i pages) page c.loop-page.invariant.whole sound);
    }
