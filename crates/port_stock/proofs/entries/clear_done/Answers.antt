use Rattle.std.proofs.Common.{◌≡◌, List, map, sym, ◌∙◌, ap, subst, take, drop, ◌++◌, length}
use Rattle.il_machine.specs.Headers.{in_done}
use Rattle.port_stock.specs.declared.entry.Entry.{Entry}
use Rattle.port_stock.specs.Entries.{Each, IsKept, KeepsKeys, entry_cleared, headers_of}
use Rattle.port_stock.proofs.Looking.{each_cleared, headers_cleared, keys_cleared, rewritten}
use Rattle.port_stock.proofs.entries.clear_done.Goals as goal

now : (c : goal.After-entries-1) → take c.args.entries.now.len (c.clear_done_entries.new.entries ++ drop (length c.clear_done_entries.new.entries) c.args.entries.now.items) ≡ map (λ e. entry_cleared (in_done c.args.key e.state) e) c.args.entries.now.items
now c = rewritten (in_done c.args.key) _ _ _ c.args.entries.now.ok.0 (rw c.deref_mut.ensures.value at c.clear_done_entries.ensures)

pub returns-clause-headers : goal.returns-clause-headers
returns-clause-headers c = ap headers_of (now c) ∙ headers_cleared (in_done c.args.key) c.args.entries.now.items

pub returns-clause-kept : goal.returns-clause-kept
returns-clause-kept c =
    let P : List Entry → Type 0 = Each IsKept in
    subst P (sym (now c)) (each_cleared (in_done c.args.key) c.args.entries.now.items c.requires)

pub returns-clause-keys : goal.returns-clause-keys
returns-clause-keys c = subst (KeepsKeys c.args.entries.now.items) (sym (now c)) (keys_cleared (in_done c.args.key) c.args.entries.now.items)
