use Rattle.std.proofs.Common.{◌≡◌, ◌+◌, Some, length, map, slice_get, sym, ap, ◌∙◌, subst, arith}
use Rattle.std.specs.Result.{is_ok}
use Rattle.play_log.specs.Gathering.{Puts}
use Rattle.play_log.specs.Places.{PassLogValue, PlacedText, numbered, placed_spelled}
use Rattle.play_log.proofs.Gathering.{puts_err, puts_ok}
use Rattle.play_log.proofs.Merging.{mapped_length}
use Rattle.play_log.proofs.Placing.{text_at}
use Rattle.play_log.proofs.Players.{some_same}
use Rattle.play_log.proofs.pass_log.PassLog.put_at.Goals as goal

pub returns-in_err-put_line-clause-puts : goal.returns-in_err-put_line-clause-puts
returns-in_err-put_line-clause-puts g c t e =
    let words = c.self.inside.words in
    let there : slice_get c.args.self.now.lines c.args.at ≡ Some (placed_spelled words c.in-Some.placed) =
    ap (λ (v : PassLogValue). slice_get v.lines c.args.at) (sym c.self.view_is) ∙ text_at words c.self.inside.lines c.args.at (Some c.in-Some.placed) (sym c.in-Some.is ∙ c.get.ensures) in
    let same : placed_spelled words c.in-Some.placed ≡ t = some_same (placed_spelled words c.in-Some.placed) t (sym there ∙ e) in
    subst (λ (x : PlacedText). Puts (g.K.Sink.told c.args.sink.now) (g.K.Sink.told c.put_line.new.sink) c.args.held.now.held c.put_line.new.held.held (numbered c.args.number x) c.from_residual.result) same
    (puts_err _ _ c.args.held.now.held _ _ c.put_line.result c.from_residual.result c.from_residual.ensures.0 c.put_line.ensures.puts)

pub overflow_add-result : goal.overflow_add-result
overflow_add-result g c =
    let many = mapped_length (placed_spelled c.self.inside.words) c.self.inside.lines in
    let seen : length c.args.self.now.lines ≡ length (map (placed_spelled c.self.inside.words) c.self.inside.lines) = ap (λ (v : PassLogValue). length v.lines) (sym c.self.view_is) in
    let within = c.requires.within in
    let count = c.self.invariant.0 in
    omega (arith, many, seen, within, count)

pub returns-clause-puts : goal.returns-clause-puts
returns-clause-puts g c t e =
    let words = c.self.inside.words in
    let there : slice_get c.args.self.now.lines c.args.at ≡ Some (placed_spelled words c.in-Some.placed) =
    ap (λ (v : PassLogValue). slice_get v.lines c.args.at) (sym c.self.view_is) ∙ text_at words c.self.inside.lines c.args.at (Some c.in-Some.placed) (sym c.in-Some.is ∙ c.get.ensures) in
    let same : placed_spelled words c.in-Some.placed ≡ t = some_same (placed_spelled words c.in-Some.placed) t (sym there ∙ e) in
    puts_ok _ _ c.args.held.now.held _ _ c.put_line.result (c.args.at + 1) (ap is_ok c.in_ok-put_line.was)
    (subst (λ (x : PlacedText). Puts (g.K.Sink.told c.args.sink.now) (g.K.Sink.told c.put_line.new.sink) c.args.held.now.held c.put_line.new.held.held (numbered c.args.number x) c.put_line.result) same c.put_line.ensures.puts)
