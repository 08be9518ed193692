use Rattle.std.proofs.Common.{◌≡◌, None, sym, ◌∙◌, ap, subst}
use Rattle.il_machine.specs.World.{Component}
use Rattle.il_machine.specs.Settings.{Settings, set_refusal, changed_by}
use Rattle.il_component.specs.Entries.{component_of}
use Rattle.il_component.specs.PortChanges.{let_go_by}
use Rattle.il_component.proofs.Named.{settings_stay, value_after}
use Rattle.il_component.proofs.component.Component.set_value.Goals as goal

pub put_value-requires : goal.put_value-requires
put_value-requires g c =
    let k = component_of c.args.self.now in
    let s : c.let_go.new.self.settings ≡ k.settings = ap (λ (x : Component). x.settings) c.let_go.ensures.component ∙ settings_stay c.args.key k in
    subst (λ (x : Settings). set_refusal x c.args.key c.args.config c.args.value c.is_free-free.result ≡ None) (sym s) (rw c.is_free-free.ensures c.requires)

pub returns-clause-component : goal.returns-clause-component
returns-clause-component g c =
    let k = component_of c.args.self.now in
    let put = λ (s : Settings). changed_by c.args.key.port c.args.value s in
    c.put_value.ensures.component
    ∙ (ap (λ (x : Component). record x { settings = put x.settings }) c.let_go.ensures.component
    ∙ (ap (λ (s : Settings). record (let_go_by c.args.key k) { settings = put s }) (settings_stay c.args.key k) ∙ value_after c.args.key c.args.value k))
