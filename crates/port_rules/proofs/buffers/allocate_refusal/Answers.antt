use Rattle.std.proofs.Common.{◌≡◌, true, false, Some, refl, sym, ◌∙◌}
use Rattle.il_machine.specs.States.{is_invalid}
use Rattle.il_machine.specs.World.{port_of}
use Rattle.port_stock.specs.Kept.{stocked}
use Rattle.il_component.specs.Entries.{component_of}
use Rattle.port_rules.specs.Looking.{look_of_stock}
use Rattle.port_rules.proofs.Walking.{port_kept}
use Rattle.port_rules.proofs.Refusing.{allocate_at}
use Rattle.port_rules.proofs.buffers.allocate_refusal.Goals as goal

pub is_accepting-requires : goal.is_accepting-requires
is_accepting-requires g c =
    let here : port_of (component_of c.args.component.now) c.args.index ≡ Some c.in-Some.port = sym c.port.ensures ∙ c.in-Some.is in
    port_kept (component_of c.args.component.now) (stocked c.args.stock.now) c.args.index c.in-Some.port c.requires here

pub returns-then-is_joined : goal.returns-then-is_joined
returns-then-is_joined g c =
    let k = component_of c.args.component.now in
    let here : port_of k c.args.index ≡ Some c.in-Some.port = sym c.port.ensures ∙ c.in-Some.is in
    let iv : is_invalid k.state ≡ false = sym c.is_invalid.ensures ∙ c.if-is_invalid.false in
    sym (allocate_at (look_of_stock (stocked c.args.stock.now)) k (port_of k c.args.index) c.in-Some.port true _ _ iv here (sym c.is_joined.ensures ∙ c.if-is_joined.true) refl refl)

pub returns-then-not-is_accepting : goal.returns-then-not-is_accepting
returns-then-not-is_accepting g c =
    let k = component_of c.args.component.now in
    let here : port_of k c.args.index ≡ Some c.in-Some.port = sym c.port.ensures ∙ c.in-Some.is in
    let iv : is_invalid k.state ≡ false = sym c.is_invalid.ensures ∙ c.if-is_invalid.false in
    sym (allocate_at (look_of_stock (stocked c.args.stock.now)) k (port_of k c.args.index) c.in-Some.port false false _ iv here (sym c.is_joined.ensures ∙ c.if-is_joined.false) (sym c.is_accepting.ensures ∙ c.if-not-is_accepting.true) refl)

pub returns-then-lacks_block : goal.returns-then-lacks_block
returns-then-lacks_block g c =
    let k = component_of c.args.component.now in
    let here : port_of k c.args.index ≡ Some c.in-Some.port = sym c.port.ensures ∙ c.in-Some.is in
    let iv : is_invalid k.state ≡ false = sym c.is_invalid.ensures ∙ c.if-is_invalid.false in
    sym (allocate_at (look_of_stock (stocked c.args.stock.now)) k (port_of k c.args.index) c.in-Some.port false true true iv here (sym c.is_joined.ensures ∙ c.if-is_joined.false) (sym c.is_accepting.ensures ∙ c.if-not-is_accepting.false) (sym c.lacks_block.ensures ∙ c.if-lacks_block.true))

pub returns-else-lacks_block : goal.returns-else-lacks_block
returns-else-lacks_block g c =
    let k = component_of c.args.component.now in
    let here : port_of k c.args.index ≡ Some c.in-Some.port = sym c.port.ensures ∙ c.in-Some.is in
    let iv : is_invalid k.state ≡ false = sym c.is_invalid.ensures ∙ c.if-is_invalid.false in
    sym (allocate_at (look_of_stock (stocked c.args.stock.now)) k (port_of k c.args.index) c.in-Some.port false true false iv here (sym c.is_joined.ensures ∙ c.if-is_joined.false) (sym c.is_accepting.ensures ∙ c.if-not-is_accepting.false) (sym c.lacks_block.ensures ∙ c.if-lacks_block.false))
