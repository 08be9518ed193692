use Rattle.std.proofs.Common.{◌≡◌, ◌<◌, ◌≤◌, ◌+◌, [], ℕ, List, None, Some, length, slice_get, slice_index_or, subst, sym, ap, ◌∙◌, arith}
use Rattle.play_log.specs.Merged.{IsLeader, Leads}
use Rattle.play_log.specs.Places.{PassLogValue, PlacedText, lists_of, text_place}
use Rattle.play_log.proofs.Merging.{leader_kept, mapped_get, mapped_length, placed_none, placed_some, some_before, some_behind, some_none}
use Rattle.play_log.proofs.pages.nearer.Goals as goal

pub returns-in-None : goal.returns-in-None
returns-in-None c =
    let i : ℕ = c.args.page in
    let at : List ℕ = c.args.at.now in
    let lists : List (List PlacedText) = lists_of c.args.logs.now in
    let few : i < length at = omega (arith, c.told-at, c.requires.few, c.requires.within) in
    let within : i < length lists = omega (arith, c.requires.within, mapped_length (λ (log : PassLogValue). log.lines) c.args.logs.now) in
    let list : (c.index-logs-page.result).lines ≡ slice_index_or lists i [] = mapped_get (λ (log : PassLogValue). log.lines) c.args.logs.now i c.index-logs-page.result [] c.requires.within c.index-logs-page.is in
    let head : slice_get (c.index-logs-page.result).lines (slice_index_or at i 0) ≡ None = placed_none text_place _ (sym c.in-None.is ∙ c.place_at.ensures) in
    leader_kept text_place at lists i few within c.args.best (ap (λ xs. slice_get xs (slice_index_or at i 0)) (sym list) ∙ head) c.requires.best

pub returns-then-place-least : goal.returns-then-place-least
returns-then-place-least c =
    let i : ℕ = c.args.page in
    let at : List ℕ = c.args.at.now in
    let lists : List (List PlacedText) = lists_of c.args.logs.now in
    let few : i < length at = omega (arith, c.told-at, c.requires.few, c.requires.within) in
    let within : i < length lists = omega (arith, c.requires.within, mapped_length (λ (log : PassLogValue). log.lines) c.args.logs.now) in
    let list : (c.index-logs-page.result).lines ≡ slice_index_or lists i [] = mapped_get (λ (log : PassLogValue). log.lines) c.args.logs.now i c.index-logs-page.result [] c.requires.within c.index-logs-page.is in
    let x = placed_some text_place _ c.in-Some.place (sym c.in-Some.is ∙ c.place_at.ensures) in
    let head : slice_get (slice_index_or lists i []) (slice_index_or at i 0) ≡ Some x.0 = ap (λ xs. slice_get xs (slice_index_or at i 0)) (sym list) ∙ x.1 in
    let best : Leads text_place at lists (i + 1) c.in-Some-best.other c.in-Some-best.least = subst (IsLeader text_place at lists (i + 1)) c.in-Some-best.is c.requires.best in
    let before : (x.0).place < c.in-Some-best.least = omega (arith, x.2, c.if-place-least.true) in
    subst (Leads text_place at lists i i) x.2 (some_before text_place at lists i c.in-Some-best.other c.in-Some-best.least x.0 few within head best before)

pub returns-else-place-least : goal.returns-else-place-least
returns-else-place-least c =
    let i : ℕ = c.args.page in
    let at : List ℕ = c.args.at.now in
    let lists : List (List PlacedText) = lists_of c.args.logs.now in
    let few : i < length at = omega (arith, c.told-at, c.requires.few, c.requires.within) in
    let within : i < length lists = omega (arith, c.requires.within, mapped_length (λ (log : PassLogValue). log.lines) c.args.logs.now) in
    let list : (c.index-logs-page.result).lines ≡ slice_index_or lists i [] = mapped_get (λ (log : PassLogValue). log.lines) c.args.logs.now i c.index-logs-page.result [] c.requires.within c.index-logs-page.is in
    let x = placed_some text_place _ c.in-Some.place (sym c.in-Some.is ∙ c.place_at.ensures) in
    let head : slice_get (slice_index_or lists i []) (slice_index_or at i 0) ≡ Some x.0 = ap (λ xs. slice_get xs (slice_index_or at i 0)) (sym list) ∙ x.1 in
    let best : Leads text_place at lists (i + 1) c.in-Some-best.other c.in-Some-best.least = subst (IsLeader text_place at lists (i + 1)) c.in-Some-best.is c.requires.best in
    let behind : c.in-Some-best.least ≤ (x.0).place = omega (arith, x.2, c.if-place-least.false) in
    some_behind text_place at lists i c.in-Some-best.other c.in-Some-best.least x.0 few within head best behind

pub returns-in-None-best : goal.returns-in-None-best
returns-in-None-best c =
    let i : ℕ = c.args.page in
    let at : List ℕ = c.args.at.now in
    let lists : List (List PlacedText) = lists_of c.args.logs.now in
    let few : i < length at = omega (arith, c.told-at, c.requires.few, c.requires.within) in
    let within : i < length lists = omega (arith, c.requires.within, mapped_length (λ (log : PassLogValue). log.lines) c.args.logs.now) in
    let list : (c.index-logs-page.result).lines ≡ slice_index_or lists i [] = mapped_get (λ (log : PassLogValue). log.lines) c.args.logs.now i c.index-logs-page.result [] c.requires.within c.index-logs-page.is in
    let x = placed_some text_place _ c.in-Some.place (sym c.in-Some.is ∙ c.place_at.ensures) in
    let head : slice_get (slice_index_or lists i []) (slice_index_or at i 0) ≡ Some x.0 = ap (λ xs. slice_get xs (slice_index_or at i 0)) (sym list) ∙ x.1 in
    let nothing = subst (IsLeader text_place at lists (i + 1)) c.in-None-best.is c.requires.best in
    subst (Leads text_place at lists i i) x.2 (some_none text_place at lists i x.0 few within head nothing)
