use Rattle.std.proofs.Common.{◌≡◌, ◌<◌, ℕ, List, [], Some, length, slice_get, slice_index_or, ap, ◌∙◌, subst, arith}
use Rattle.std.specs.Result.{is_ok}
use Rattle.play_log.specs.Merged.{IsLeader, Leads}
use Rattle.play_log.specs.Places.{PassLogValue, PlacedText, lists_of, text_place}
use Rattle.play_log.proofs.Gathering.{puts_err, puts_ok}
use Rattle.play_log.proofs.Merging.{mapped_get, mapped_length}
use Rattle.play_log.proofs.Placing.{first_text}
use Rattle.play_log.proofs.pages.put_first.Goals as goal

pub returns-in_err-at-clause-puts : goal.returns-in_err-at-clause-puts
returns-in_err-at-clause-puts g c t more h =
    let at : List ℕ = c.args.at.now in
    let lists : List (List PlacedText) = lists_of c.args.logs.now in
    let L : Leads text_place at lists 0 c.in-Some.page c.in-Some.field-0-1 = subst (IsLeader text_place at lists 0) c.in-Some.is c.first.ensures in
    let low : c.in-Some.page < length c.args.logs.now = omega (arith, L.within, mapped_length (λ (log : PassLogValue). log.lines) c.args.logs.now) in
    let list : (c.index-logs-page.result).lines ≡ slice_index_or lists c.in-Some.page [] = mapped_get (λ (log : PassLogValue). log.lines) c.args.logs.now c.in-Some.page c.index-logs-page.result [] low c.index-logs-page.is in
    let there : slice_get (c.index-logs-page.result).lines (slice_index_or at c.in-Some.page 0) ≡ Some t = ap (λ (xs : List PlacedText). slice_get xs (slice_index_or at c.in-Some.page 0)) list ∙ first_text at lists c.in-Some.page c.in-Some.field-0-1 L t more h in
    puts_err _ _ c.args.held.now.held _ _ c.put_at.result c.from_residual.result c.from_residual.ensures.0 (c.put_at.ensures.puts t there)

pub returns-clause-puts : goal.returns-clause-puts
returns-clause-puts g c t more h =
    let at : List ℕ = c.args.at.now in
    let lists : List (List PlacedText) = lists_of c.args.logs.now in
    let L : Leads text_place at lists 0 c.in-Some.page c.in-Some.field-0-1 = subst (IsLeader text_place at lists 0) c.in-Some.is c.first.ensures in
    let low : c.in-Some.page < length c.args.logs.now = omega (arith, L.within, mapped_length (λ (log : PassLogValue). log.lines) c.args.logs.now) in
    let list : (c.index-logs-page.result).lines ≡ slice_index_or lists c.in-Some.page [] = mapped_get (λ (log : PassLogValue). log.lines) c.args.logs.now c.in-Some.page c.index-logs-page.result [] low c.index-logs-page.is in
    let there : slice_get (c.index-logs-page.result).lines (slice_index_or at c.in-Some.page 0) ≡ Some t = ap (λ (xs : List PlacedText). slice_get xs (slice_index_or at c.in-Some.page 0)) list ∙ first_text at lists c.in-Some.page c.in-Some.field-0-1 L t more h in
    puts_ok _ _ c.args.held.now.held _ _ c.put_at.result tt (ap is_ok c.in_ok-at.was) (c.put_at.ensures.puts t there)
