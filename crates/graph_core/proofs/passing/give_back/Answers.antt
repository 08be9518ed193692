use Rattle.std.proofs.Common.{◌≡◌, ℕ, true, [], refl, sym, ◌∙◌, ap, subst, not}
use Rattle.il_machine.specs.declared.header.Spot.{Spot}
use Rattle.il_machine.specs.Lists.{holds_at}
use Rattle.il_machine.specs.Headers.{seen, is_for, unloaded}
use Rattle.il_machine.specs.Ports.{is_input_port}
use Rattle.il_machine.specs.Stock.{Stocked, pushed}
use Rattle.il_machine.specs.Buffers.{load_in}
use Rattle.il_machine.specs.Flow.{returned, supplied_spot}
use Rattle.header_core.specs.BufferHeader.{BufferHeader}
use Rattle.port_stock.specs.Kept.{stocked}
use Rattle.graph_core.specs.Moving.{AreShared, Moves}
use Rattle.graph_core.proofs.Moving.{none_sent, sent_back, shared_done, pulled_for_supplier, unused_back, none_back}
use Rattle.graph_core.proofs.passing.give_back.Goals as goal

pub pass_done-requires-clause-made_for : goal.pass_done-requires-clause-made_for
pass_done-requires-clause-made_for c = shared_done (stocked c.args.stock.now) c.args.port.key c.args.supplier c.requires.shared

pub returns-then-pass_done : goal.returns-then-pass_done
returns-then-pass_done c =
    sent_back (stocked c.args.stock.now) (stocked c.pass_done.new.self) c.args.port.key c.args.supplier (is_input_port c.args.port) _ refl (sym c.if-pass_done.true ∙ c.pass_done.ensures.some) c.pass_done.ensures.stock

pub returns-in_default : goal.returns-in_default
returns-in_default c =
    let s = stocked c.args.stock.now in
    let t = stocked c.pass_done.new.self in
    let key = c.args.port.key in
    let none = none_sent s t key c.args.supplier _ refl (sym c.if-pass_done.false ∙ c.pass_done.ensures.some) c.pass_done.ensures.stock in
    let N : t.headers.done key ≡ [] = subst (λ (x : Stocked). x.headers.done key ≡ []) (sym none.1) none.0 in
    subst (λ (x : Stocked). Moves (λ w. returned c.args.supplier (is_input_port c.args.port) ((seen w.headers).done key) ((seen w.headers).todo key) w) x (stocked c.pull_todo.new.self)) none.1
    (none_back t key c.args.supplier (is_input_port c.args.port) N (stocked c.pull_todo.new.self) c.pull_todo.ensures.stock c.in_default.ensures.front)

pub push_header-requires-clause-made_for : goal.push_header-requires-clause-made_for
push_header-requires-clause-made_for c =
    let s = stocked c.args.stock.now in
    let t = stocked c.pass_done.new.self in
    let key = c.args.port.key in
    let h = c.in-Some.header in
    let none = none_sent s t key c.args.supplier _ refl (sym c.if-pass_done.false ∙ c.pass_done.ensures.some) c.pass_done.ensures.stock in
    let B : AreShared key c.args.supplier t = subst (λ (x : Stocked). AreShared key c.args.supplier x) (sym none.1) c.requires.shared in
    let N : t.headers.done key ≡ [] = subst (λ (x : Stocked). x.headers.done key ≡ []) (sym none.1) none.0 in
    let n = ap (λ (x : BufferHeader). x.held.number) c.clear.ensures in
    subst (λ (k : ℕ). holds_at ((stocked c.pull_todo.new.self).headers.header k) (is_for c.args.supplier) ≡ true) (sym n)
    (subst (λ (x : Stocked). holds_at (x.headers.header h.held.number) (is_for c.args.supplier) ≡ true) (sym c.pull_todo.ensures.stock)
    (pulled_for_supplier t key c.args.supplier (is_input_port c.args.port) N B h c.in-Some.ensures.front c.in-Some.ensures.was))

pub returns : goal.returns
returns c =
    let s = stocked c.args.stock.now in
    let t = stocked c.pass_done.new.self in
    let key = c.args.port.key in
    let h = c.in-Some.header in
    let spot = supplied_spot (not (is_input_port c.args.port)) in
    let none = none_sent s t key c.args.supplier _ refl (sym c.if-pass_done.false ∙ c.pass_done.ensures.some) c.pass_done.ensures.stock in
    let B : AreShared key c.args.supplier t = subst (λ (x : Stocked). AreShared key c.args.supplier x) (sym none.1) c.requires.shared in
    let N : t.headers.done key ≡ [] = subst (λ (x : Stocked). x.headers.done key ≡ []) (sym none.1) none.0 in
    let p : stocked c.push_header.new.self ≡ pushed c.args.supplier spot h.held.number (unloaded (load_in h.held)) (stocked c.pull_todo.new.self) = c.push_header.ensures
    ∙ (ap (λ (x : Spot). pushed c.args.supplier x c.clear.new.self.held.number (load_in c.clear.new.self.held) (stocked c.pull_todo.new.self)) c.supplied_spot.ensures
    ∙ ap (λ (x : BufferHeader). pushed c.args.supplier spot x.held.number (load_in x.held) (stocked c.pull_todo.new.self)) c.clear.ensures) in
    subst (λ (x : Stocked). Moves (λ w. returned c.args.supplier (is_input_port c.args.port) ((seen w.headers).done key) ((seen w.headers).todo key) w) x (stocked c.push_header.new.self)) none.1
    (unused_back t key c.args.supplier (is_input_port c.args.port) N B h c.in-Some.ensures.front c.in-Some.ensures.was (stocked c.push_header.new.self)
    (p ∙ ap (pushed c.args.supplier spot h.held.number (unloaded (load_in h.held))) c.pull_todo.ensures.stock))
