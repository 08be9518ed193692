use Rattle.std.proofs.Common.{◌+◌, ◌++◌, ℕ, List, Vec, Global, length, ap, sym, ◌∙◌, append_assoc}
use Rattle.std.specs.Prelude.{codes}
use Rattle.std.specs.List.{flat_map}
use Rattle.std.specs.Result.{is_ok}
use Rattle.play_log.specs.Spelled.{spelled_from}
use Rattle.play_log.specs.declared.line.Line.{Line}
use Rattle.play_log.proofs.Gathering.{puts_failed, puts_then}
use Rattle.play_log.proofs.Spelling.{last_lines, part_last, parts_spelled}
use Rattle.play_log.proofs.listing.Listing.put.Goals as goal

pub returns-in_err-before-clause-puts : goal.returns-in_err-before-clause-puts
returns-in_err-before-clause-puts g c =
    let words = c.self.inside.words in
    let full : List Line = flat_map (λ (piece : Vec Line Global). piece.items) c.parts.result.0.now in
    let last : List Line = c.parts.result.1.now in
    puts_failed _ _ c.args.held.now.held _ (spelled_from words 1 full) (spelled_from words (1 + length full) last ++ codes "end\n") _ c.put_pieces.result c.from_residual.result c.from_residual.ensures.0 c.put_pieces.ensures.puts
    (sym (append_assoc (spelled_from words 1 full) (spelled_from words (1 + length full) last) (codes "end\n")) ∙ (ap (λ (t : List ℕ). t ++ codes "end\n") (parts_spelled words full last c.self.inside.lines c.parts.ensures) ∙ c.self.view_is))

pub put_lines-requires-clause-there : goal.put_lines-requires-clause-there
put_lines-requires-clause-there g c =
    part_last c.self.inside.words (flat_map (λ (piece : Vec Line Global). piece.items) c.parts.result.0.now) c.parts.result.1.now c.self.inside.lines c.parts.ensures c.self.invariant.1

pub returns-in_err-put_lines-clause-puts : goal.returns-in_err-put_lines-clause-puts
returns-in_err-put_lines-clause-puts g c =
    let words = c.self.inside.words in
    let full : List Line = flat_map (λ (piece : Vec Line Global). piece.items) c.parts.result.0.now in
    let last : List Line = c.parts.result.1.now in
    puts_failed _ _ c.args.held.now.held _ (spelled_from words 1 c.self.inside.lines) (codes "end\n") _ c.put_lines.result c.from_residual-in_err-put_lines.result c.from_residual-in_err-put_lines.ensures.0
    (puts_then _ _ _ c.args.held.now.held _ _ (spelled_from words 1 full) _ _ c.put_pieces.result c.put_lines.result (ap is_ok c.in_ok-before.was) c.put_pieces.ensures.puts c.put_lines.ensures.puts
    (last_lines words full last c.in_ok-before.before c.in_ok-before.ensures.number ∙ parts_spelled words full last c.self.inside.lines c.parts.ensures))
    c.self.view_is

pub returns-clause-puts : goal.returns-clause-puts
returns-clause-puts g c =
    let words = c.self.inside.words in
    let full : List Line = flat_map (λ (piece : Vec Line Global). piece.items) c.parts.result.0.now in
    let last : List Line = c.parts.result.1.now in
    puts_then _ _ _ c.args.held.now.held _ _ (spelled_from words 1 c.self.inside.lines) (codes "end\n") _ c.put_lines.result c.put.result (ap is_ok c.in_ok-put_lines.was)
    (puts_then _ _ _ c.args.held.now.held _ _ (spelled_from words 1 full) _ _ c.put_pieces.result c.put_lines.result (ap is_ok c.in_ok-before.was) c.put_pieces.ensures.puts c.put_lines.ensures.puts
    (last_lines words full last c.in_ok-before.before c.in_ok-before.ensures.number ∙ parts_spelled words full last c.self.inside.lines c.parts.ensures))
    c.put.ensures.puts c.self.view_is
