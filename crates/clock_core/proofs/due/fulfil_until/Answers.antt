use Rattle.std.proofs.Common.{◌++◌, List, length, take, sym, ap, ◌∙◌, append-nil, arith}
use Rattle.std.specs.Prelude.{None, map}
use Rattle.clock_core.specs.Due.{note_from}
use Rattle.clock_core.specs.declared.act.Request.{Request}
use Rattle.clock_core.proofs.DueLaws.{due-stands, left-stands}
use Rattle.clock_core.proofs.due.fulfil_until.Goals as goal

pub returns-in-None-clause-left : goal.returns-in-None-clause-left
returns-in-None-clause-left c = rw c.in-None.is (sym (left-stands c.args.until c.args.requests.now.items))

pub returns-in-None-clause-count : goal.returns-in-None-clause-count
returns-in-None-clause-count c = rw c.in-None.is (omega (arith, ap length (due-stands c.args.until c.args.requests.now.items)))

pub returns-in-None-clause-notes : goal.returns-in-None-clause-notes
returns-in-None-clause-notes c =
    rw c.in-None.is
    (sym (ap (λ (xs : List Request). take c.args.start c.args.out.now ++ map (note_from None c.args.earliest) xs) (due-stands c.args.until c.args.requests.now.items)
    ∙ append-nil (take c.args.start c.args.out.now)))
