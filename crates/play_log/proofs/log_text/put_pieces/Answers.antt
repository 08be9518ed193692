use Rattle.std.proofs.Common.{◌≡◌, ◌<◌, ◌+◌, ◌++◌, List, length-append, slice_index_or, Vec, Global, take, length, refl, ap, sym, ◌∙◌, subst, arith, rules, Ok}
use Rattle.std.specs.List.{flat_map}
use Rattle.std.specs.Result.{is_ok}
use Rattle.std.proofs.lemmas.List.{take_all}
use Rattle.play_log.specs.Gathering.{Puts}
use Rattle.play_log.specs.Spelled.{AreThere, spelled_from}
use Rattle.play_log.specs.declared.line.Line.{Line}
use Rattle.play_log.proofs.Gathering.{puts_failed, puts_none, puts_ok, puts_then}
use Rattle.play_log.proofs.Spelling.{piece_few, piece_spelled, piece_there, pieces_next, pieces_spelled}
use Rattle.play_log.proofs.log_text.put_pieces.Goals as goal

pub loop-piece-init : goal.loop-piece-init
loop-piece-init g c = record {
  within = omega arith;
  number = refl;
  puts = puts_none _ c.args.held.now.held tt;
  keeps = record { name = refl; later = omega arith };
  faults = refl;
}

pub put_lines-requires-clause-there : goal.put_lines-requires-clause-there
put_lines-requires-clause-there g c =
    let i = c.loop-piece.piece-index in
    let item : Vec Line Global → List Line = λ piece. piece.items in
    let lines : c.as_slice.result.now ≡ item (slice_index_or c.args.pieces.now i c.piece-item.result) = c.as_slice.ensures.value ∙ ap item c.piece-item.is in
    subst (AreThere c.args.words.now) (sym lines) (piece_there c.args.words.now item c.args.pieces.now i c.piece-item.result c.loop-piece-test.true c.requires.there)

pub put_lines-requires-clause-few : goal.put_lines-requires-clause-few
put_lines-requires-clause-few g c =
    let i = c.loop-piece.piece-index in
    let item : Vec Line Global → List Line = λ piece. piece.items in
    let lines : c.as_slice.result.now ≡ item (slice_index_or c.args.pieces.now i c.piece-item.result) = c.as_slice.ensures.value ∙ ap item c.piece-item.is in
    let few = piece_few item c.args.pieces.now i c.piece-item.result c.loop-piece-test.true in
    let many = ap length lines in
    let most : c.args.most < 18446744073709551616 = c.ranges.most.fits in
    omega (arith, few, many, most, c.requires.few, c.loop-piece.invariant.number)

pub returns-in_err-number-clause-puts : goal.returns-in_err-number-clause-puts
returns-in_err-number-clause-puts g c =
    let i = c.loop-piece.piece-index in
    let item : Vec Line Global → List Line = λ piece. piece.items in
    let lines : c.as_slice.result.now ≡ item (slice_index_or c.args.pieces.now i c.piece-item.result) = c.as_slice.ensures.value ∙ ap item c.piece-item.is in
    let spelled = ap (λ (xs : List Line). spelled_from c.args.words.now 1 (flat_map item (take i c.args.pieces.now)) ++ spelled_from c.args.words.now (c.loop-piece.number + 1) xs) lines in
    puts_failed _ _ c.args.held.now.held _ (spelled_from c.args.words.now 1 (flat_map item (take (i + 1) c.args.pieces.now))) _ _ c.put_lines.result c.from_residual.result c.from_residual.ensures.0
    (puts_then _ _ _ c.args.held.now.held _ _ (spelled_from c.args.words.now 1 (flat_map item (take i c.args.pieces.now))) _ _ _ c.put_lines.result refl c.loop-piece.invariant.puts c.put_lines.ensures.puts
    (spelled ∙ piece_spelled c.args.words.now item c.args.pieces.now i c.loop-piece.number c.piece-item.result c.loop-piece-test.true c.loop-piece.invariant.number))
    (pieces_spelled c.args.words.now item c.args.pieces.now (i + 1))

pub loop-piece-preserved : goal.loop-piece-preserved
loop-piece-preserved g c =
    let i = c.loop-piece.piece-index in
    let item : Vec Line Global → List Line = λ piece. piece.items in
    let lines : c.as_slice.result.now ≡ item (slice_index_or c.args.pieces.now i c.piece-item.result) = c.as_slice.ensures.value ∙ ap item c.piece-item.is in
    let next = pieces_next item c.args.pieces.now i c.piece-item.result c.loop-piece-test.true in
    let many = ap length lines in
    let total = ap length next in
    let both = length-append (flat_map item (take i c.args.pieces.now)) (item (slice_index_or c.args.pieces.now i c.piece-item.result)) in
    let spelled = ap (λ (xs : List Line). spelled_from c.args.words.now 1 (flat_map item (take i c.args.pieces.now)) ++ spelled_from c.args.words.now (c.loop-piece.number + 1) xs) lines in
    record {
      within = omega arith;
      number = omega (arith, many, total, both, c.in_ok-number.ensures.number, c.loop-piece.invariant.number);
      puts = puts_ok _ _ c.args.held.now.held _ _ c.put_lines.result tt (ap is_ok c.in_ok-number.was)
          (puts_then _ _ _ c.args.held.now.held _ _ (spelled_from c.args.words.now 1 (flat_map item (take i c.args.pieces.now))) _ _ _ c.put_lines.result refl c.loop-piece.invariant.puts c.put_lines.ensures.puts
          (spelled ∙ piece_spelled c.args.words.now item c.args.pieces.now i c.loop-piece.number c.piece-item.result c.loop-piece-test.true c.loop-piece.invariant.number));
      keeps = record { name = c.put_lines.ensures.keeps_sink.name ∙ c.loop-piece.invariant.keeps.name; later = omega (arith, c.put_lines.ensures.keeps_sink.later, c.loop-piece.invariant.keeps.later) };
      faults = search rules;
    }

pub returns-clause-puts : goal.returns-clause-puts
returns-clause-puts g c =
    let item : Vec Line Global → List Line = λ piece. piece.items in
    puts_ok _ _ c.args.held.now.held _ _ _ c.loop-piece.number refl
    (subst (λ pieces. Puts {T = Unit {0}} {E = Unit {0}} (g.K.Sink.told c.args.sink.now) (g.K.Sink.told c.loop-piece.sink) c.args.held.now.held c.loop-piece.held.held (spelled_from c.args.words.now 1 (flat_map item pieces)) (Ok tt))
    (take_all c.loop-piece.piece-index c.args.pieces.now c.loop-piece-test.false) c.loop-piece.invariant.puts)
