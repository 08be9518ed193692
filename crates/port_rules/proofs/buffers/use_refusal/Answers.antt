use Rattle.std.proofs.Common.{◌≡◌, Bool, true, false, not, Some, refl, sym, ◌∙◌, ap}
use Rattle.il_machine.specs.States.{is_invalid}
use Rattle.il_machine.specs.World.{port_of}
use Rattle.port_stock.specs.Kept.{stocked}
use Rattle.il_component.specs.Entries.{component_of}
use Rattle.port_rules.specs.Looking.{look_of_stock}
use Rattle.port_rules.proofs.Walking.{port_kept}
use Rattle.port_rules.proofs.Refusing.{numberless, use_at}
use Rattle.port_rules.proofs.buffers.use_refusal.Goals as goal

pub is_accepting-requires : goal.is_accepting-requires
is_accepting-requires g c =
    let here : port_of (component_of c.args.component.now) c.args.index ≡ Some c.in-Some.port = sym c.port.ensures ∙ c.in-Some.is in
    port_kept (component_of c.args.component.now) (stocked c.args.stock.now) c.args.index c.in-Some.port c.requires here

pub returns-then-is_bad_memory : goal.returns-then-is_bad_memory
returns-then-is_bad_memory g c =
    let k = component_of c.args.component.now in
    let here : port_of k c.args.index ≡ Some c.in-Some.port = sym c.port.ensures ∙ c.in-Some.is in
    let iv : is_invalid k.state ≡ false = sym c.is_invalid.ensures ∙ c.if-is_invalid.false in
    sym (use_at (look_of_stock (stocked c.args.stock.now)) k (port_of k c.args.index) c.args.bytes c.in-Some.port true _ _ iv here (sym c.is_bad_memory.ensures ∙ c.if-is_bad_memory.true) refl refl)

pub returns-then-not-is_accepting : goal.returns-then-not-is_accepting
returns-then-not-is_accepting g c =
    let k = component_of c.args.component.now in
    let here : port_of k c.args.index ≡ Some c.in-Some.port = sym c.port.ensures ∙ c.in-Some.is in
    let iv : is_invalid k.state ≡ false = sym c.is_invalid.ensures ∙ c.if-is_invalid.false in
    sym (use_at (look_of_stock (stocked c.args.stock.now)) k (port_of k c.args.index) c.args.bytes c.in-Some.port false false _ iv here (sym c.is_bad_memory.ensures ∙ c.if-is_bad_memory.false) (sym c.is_accepting.ensures ∙ c.if-not-is_accepting.true) refl)

pub returns-then-not-numbers_left : goal.returns-then-not-numbers_left
returns-then-not-numbers_left g c =
    let k = component_of c.args.component.now in
    let here : port_of k c.args.index ≡ Some c.in-Some.port = sym c.port.ensures ∙ c.in-Some.is in
    let iv : is_invalid k.state ≡ false = sym c.is_invalid.ensures ∙ c.if-is_invalid.false in
    sym (use_at (look_of_stock (stocked c.args.stock.now)) k (port_of k c.args.index) c.args.bytes c.in-Some.port false true true iv here (sym c.is_bad_memory.ensures ∙ c.if-is_bad_memory.false) (sym c.is_accepting.ensures ∙ c.if-not-is_accepting.false) (numberless (look_of_stock (stocked c.args.stock.now)) _ c.numbers_left.ensures.left ∙ ap (λ (b : Bool). not b) c.if-not-numbers_left.true))

pub returns-else-not-numbers_left : goal.returns-else-not-numbers_left
returns-else-not-numbers_left g c =
    let k = component_of c.args.component.now in
    let here : port_of k c.args.index ≡ Some c.in-Some.port = sym c.port.ensures ∙ c.in-Some.is in
    let iv : is_invalid k.state ≡ false = sym c.is_invalid.ensures ∙ c.if-is_invalid.false in
    sym (use_at (look_of_stock (stocked c.args.stock.now)) k (port_of k c.args.index) c.args.bytes c.in-Some.port false true false iv here (sym c.is_bad_memory.ensures ∙ c.if-is_bad_memory.false) (sym c.is_accepting.ensures ∙ c.if-not-is_accepting.false) (numberless (look_of_stock (stocked c.args.stock.now)) _ c.numbers_left.ensures.left ∙ ap (λ (b : Bool). not b) c.if-not-numbers_left.false))
