use Rattle.std.proofs.Common.{Some, sym, subst}
use Rattle.il_machine.specs.Due.{first_marked}
use Rattle.il_machine.specs.Stock.{Stocked}
use Rattle.port_stock.specs.Kept.{stocked}
use Rattle.flush_mark.specs.Leading.{Leads}
use Rattle.flush_mark.proofs.Marks.{mark_leads}
use Rattle.flush_mark.proofs.marking.attach_mark.Goals as goal

pub returns-clause-leads : goal.returns-clause-leads
returns-clause-leads c =
    let s = stocked c.args.stock.now in
    let change = first_marked (s.headers.unmarked c.args.port) (Some c.args.mark) in
    subst (λ (t : Stocked). Leads change s t) (sym c.mark_first.ensures.stock) (mark_leads s c.args.port c.args.mark)
