use Rattle.std.proofs.Common.{◌≡◌, ◌+◌, ◌++◌, ◌∷◌, [], false, ℕ, List, All, length, take, sym, ap, ◌∙◌, subst, arith, rules}
use Rattle.std.proofs.lemmas.List.{map-append, take_all, take_more}
use Rattle.std.proofs.lemmas.List.Elements.{All-push}
use Rattle.play_log.specs.Places.{PassLogValue, lists_of, text_place}
use Rattle.play_log.proofs.Merging.{all_length, total, total_more}
use Rattle.play_log.proofs.pages.count_all.Goals as goal

pub loop-log-preserved : goal.loop-log-preserved
loop-log-preserved c =
    let i : ℕ = c.loop-log.log-index in
    let logs : List PassLogValue = c.args.logs.now in
    let log : PassLogValue = c.log-item.result in
    let next : take (i + 1) logs ≡ take i logs ++ log ∷ [] = take_more logs i log c.loop-log-test.true ∙ ap (λ (x : PassLogValue). take i logs ++ x ∷ []) (sym c.log-item.is) in
    let lists : lists_of (take (i + 1) logs) ≡ lists_of (take i logs) ++ log.lines ∷ [] = ap lists_of next ∙ map-append (λ (x : PassLogValue). x.lines) (take i logs) (log ∷ []) in
    let all = ap total lists ∙ total_more (lists_of (take i logs)) log.lines in
    let more : c.in-Some.more ≡ c.loop-log.count + length log.lines = search rules in
    let had = c.loop-log.invariant.count in
    let sound : log.broken ≡ false = search rules in
    record {
      within = omega arith;
      count = omega (arith, more, had, all);
      whole = subst (All (λ (x : PassLogValue). x.broken ≡ false)) (sym next) (All-push (λ (x : PassLogValue). x.broken ≡ false) (take i logs) log c.loop-log.invariant.whole sound);
    }

pub returns-clause-count : goal.returns-clause-count
returns-clause-count c =
    let logs : List PassLogValue = c.args.logs.now in
    c.loop-log.invariant.count ∙ (ap (λ (ls : List PassLogValue). total (lists_of ls)) (take_all c.loop-log.log-index logs c.loop-log-test.false) ∙ sym (all_length text_place (lists_of logs)))
