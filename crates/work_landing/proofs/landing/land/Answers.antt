use Rattle.std.proofs.Common.{◌≡◌, true, not, ◌&&◌, ◌||◌, sym, ◌∙◌}
use Rattle.work_landing.proofs.Telling.{gets_header}
use Rattle.work_landing.proofs.landing.land.Goals as goal

pub returns-then-is_noted-clause-notes : goal.returns-then-is_noted-clause-notes
returns-then-is_noted-clause-notes g c =
    let b = c.args.back in
    let t : (not b.joined && (b.finished || b.returning)) ≡ true = sym c.is_noted.ensures ∙ c.if-is_noted.true in
    rw t (gets_header c.args.component.now c.put_header.new.self b.input c.args.header c.put_header.ensures)
