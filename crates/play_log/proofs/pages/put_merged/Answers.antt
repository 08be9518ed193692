use Rattle.std.proofs.Common.{◌≡◌, ◌≤◌, ◌<◌, ◌+◌, ℕ, List, [], ◌∷◌, take, drop, length, refl, ap, ◌∙◌, subst, arith, rules, Ok}
use Rattle.std.specs.Prelude.{slice_index_or}
use Rattle.std.specs.Result.{is_ok}
use Rattle.std.proofs.lemmas.List.{take_all}
use Rattle.play_log.specs.Gathering.{Puts}
use Rattle.play_log.specs.Merged.{left_of, merged_all}
use Rattle.play_log.specs.Places.{PassLogValue, PlacedText, lists_of, numbered_from, text_place}
use Rattle.play_log.proofs.Gathering.{puts_failed, puts_none, puts_ok, puts_then}
use Rattle.play_log.proofs.Merging.{drop_at, mapped_length}
use Rattle.play_log.proofs.Placing.{left_zeros, numbered_left, numbered_next}
use Rattle.play_log.proofs.pages.put_merged.Goals as goal

pub loop-number-init : goal.loop-number-init
loop-number-init g c = record {
  left = ap (merged_all text_place) (left_zeros 9 (lists_of c.args.logs.now) (omega (arith, c.requires.few, mapped_length (λ (log : PassLogValue). log.lines) c.args.logs.now)));
  puts = puts_none _ c.args.held.now.held tt;
  keeps = record { name = refl; later = omega arith };
  faults = refl;
}

nothing : PlacedText
nothing = record { place = 0; rest = [] }

pub returns-in_err-put_first-clause-puts : goal.returns-in_err-put_first-clause-puts
returns-in_err-put_first-clause-puts g c =
    let i : ℕ = c.loop-number.number in
    let all : List PlacedText = merged_all text_place (lists_of c.args.logs.now) in
    let b : i < length all = omega (arith, c.loop-number-test.true, c.requires.count) in
    let h : merged_all text_place (left_of c.loop-number.at (lists_of c.args.logs.now)) ≡ slice_index_or all i nothing ∷ drop (i + 1) all = c.loop-number.invariant.left ∙ drop_at all i nothing b in
    puts_failed _ _ c.args.held.now.held _ (numbered_from 1 (take (i + 1) all)) _ _ c.put_first.result c.from_residual.result c.from_residual.ensures.0
    (puts_then _ _ _ c.args.held.now.held _ _ (numbered_from 1 (take i all)) _ _ _ c.put_first.result refl c.loop-number.invariant.puts (c.put_first.ensures.puts (slice_index_or all i nothing) (drop (i + 1) all) h) (numbered_next i all nothing b))
    (numbered_left (i + 1) all)

pub loop-number-preserved : goal.loop-number-preserved
loop-number-preserved g c =
    let i : ℕ = c.loop-number.number in
    let all : List PlacedText = merged_all text_place (lists_of c.args.logs.now) in
    let b : i < length all = omega (arith, c.loop-number-test.true, c.requires.count) in
    let h : merged_all text_place (left_of c.loop-number.at (lists_of c.args.logs.now)) ≡ slice_index_or all i nothing ∷ drop (i + 1) all = c.loop-number.invariant.left ∙ drop_at all i nothing b in
    record {
      left = c.in_ok-put_first.ensures.left (slice_index_or all i nothing) (drop (i + 1) all) h;
      puts = puts_ok _ _ c.args.held.now.held _ _ c.put_first.result tt (ap is_ok c.in_ok-put_first.was)
          (puts_then _ _ _ c.args.held.now.held _ _ (numbered_from 1 (take i all)) _ _ _ c.put_first.result refl c.loop-number.invariant.puts (c.put_first.ensures.puts (slice_index_or all i nothing) (drop (i + 1) all) h) (numbered_next i all nothing b));
      keeps = record { name = c.put_first.ensures.keeps_sink.name ∙ c.loop-number.invariant.keeps.name; later = omega (arith, c.put_first.ensures.keeps_sink.later, c.loop-number.invariant.keeps.later) };
      faults = search rules;
    }

pub returns-clause-puts : goal.returns-clause-puts
returns-clause-puts g c =
    let all : List PlacedText = merged_all text_place (lists_of c.args.logs.now) in
    let end : length all ≤ c.loop-number.number = omega (arith, c.loop-number-test.false, c.requires.count) in
    puts_ok _ _ c.args.held.now.held _ _ _ tt refl
    (subst (λ (ts : List PlacedText). Puts {T = Unit {0}} {E = Unit {0}} (g.K.Sink.told c.args.sink.now) (g.K.Sink.told c.loop-number.sink) c.args.held.now.held c.loop-number.held.held (numbered_from 1 ts) (Ok tt))
    (take_all c.loop-number.number all end) c.loop-number.invariant.puts)
