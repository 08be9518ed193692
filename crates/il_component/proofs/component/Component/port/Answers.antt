use Rattle.std.proofs.Common.{◌≡◌, ◌<◌, ◌≤◌, length, slice_get, Some, refl, sym, ◌∙◌, ap, arith}
use Rattle.std.proofs.lemmas.Option.{slice_get-get_or}
use Rattle.il_machine.specs.Kinds.{is_input}
use Rattle.il_machine.specs.Settings.{default_setting}
use Rattle.il_machine.specs.World.{number_of}
use Rattle.il_machine.proofs.Joined.{port_there, port_past}
use Rattle.il_component.specs.Entries.{component_of}
use Rattle.il_component.proofs.component.Component.port.Goals as goal

pub returns-then-index-ports : goal.returns-then-index-ports
returns-then-index-ports g c =
    let k = component_of c.args.self.now in
    let few = c.ports.ensures.settings in
    let i = c.self.inside in
    let past : length i.params.ports ≤ c.args.index = omega arith in
    let a : length k.settings.ports ≡ length k.ports = rw (← c.self.view_is) (c.self.invariant.0.whole.ports ∙ sym c.self.invariant.0.ports) in
    let b : length k.settings.ports ≤ c.args.index = rw (← c.self.view_is) past in
    sym (port_past k c.args.index a b)

pub returns : goal.returns
returns g c =
    let k = component_of c.args.self.now in
    let i = c.self.inside in
    let few = c.ports.ensures.settings in
    let all : length i.params.ports ≡ length i.ports.items = c.self.invariant.0.whole.ports ∙ sym c.self.invariant.0.ports in
    let b : c.args.index < length i.params.ports = omega arith in
    let d : c.args.index < length i.ports.items = omega arith in
    let s : slice_get i.params.ports c.args.index ≡ Some c.setting.result = rw c.setting.ensures (slice_get-get_or i.params.ports c.args.index (default_setting i.params.kind (is_input i.params.kind c.args.index)) b) in
    let p : slice_get i.ports.items c.args.index ≡ Some c.index.result.now = slice_get-get_or i.ports.items c.args.index c.index.result.now d ∙ ap Some (sym c.index.ensures) in
    let x : slice_get k.settings.ports c.args.index ≡ Some c.setting.result = rw (← c.self.view_is) s in
    let y : slice_get k.ports c.args.index ≡ Some c.index.result.now = rw (← c.self.view_is) p in
    let n : i.handle.generation ≡ number_of k = rw (← c.self.view_is) refl in
    rw n (sym (port_there k c.args.index c.setting.result c.index.result.now x y))
