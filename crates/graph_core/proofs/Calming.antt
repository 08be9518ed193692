-- A calm component stays calm through each change that makes nothing pending.
use Rattle.std.proofs.Common.{◌≡◌, ℕ, ◌++◌, ◌∷◌, Bool, true, false, List, [], All, map, set, replicate, Option, Some, None, if◌then◌else◌, refl, sym, ◌∙◌, ap, subst, nat_eq}
use Rattle.std.proofs.lemmas.List.Elements.{All-nil, All-cons, All-set, All-replicate}
use Rattle.omx_types.specs.declared.command.Command.{Command}
use Rattle.omx_types.specs.declared.command.Event.TheVariants as events
use Rattle.omx_types.specs.declared.command.Note.TheVariants as notes
use Rattle.omx_types.specs.declared.error.OmxError.TheVariants as errors
use Rattle.omx_types.specs.declared.handle.Handle.{Handle}
use Rattle.omx_types.specs.declared.kind.Kind.{Kind}
use Rattle.omx_types.specs.declared.param.Supplier.{Supplier}
use Rattle.omx_types.specs.declared.param.Param.{Param}
use Rattle.omx_types.specs.declared.param.ParamKey.{ParamKey}
use Rattle.il_machine.specs.declared.port.Port.{Port}
use Rattle.il_machine.specs.declared.port.PortState.{PortState}
use Rattle.il_machine.specs.World.{Component, fresh, fresh_port, port_of, with_port, told}
use Rattle.il_machine.specs.Kinds.{ports_in}
use Rattle.il_machine.specs.Tunnels.{joined_to, parted}
use Rattle.il_machine.specs.Ports.{IsCalmPort, IsCalm}
use Rattle.il_machine.specs.Settings.{changed_by, same_format}
use Rattle.il_machine.specs.Commands.{calmed, invalidated, is_at_once, sent}
use Rattle.il_machine.specs.Parameters.{unheld_at, with_value}
use Rattle.il_machine.specs.Finishing.{announced, announced_at}
use Rattle.il_machine.specs.Parts.{file_format}
use Rattle.machine_laws.proofs.Every.{at_place}
use Rattle.machine_laws.proofs.Lookups.{port_parts}

pub calm_same : (c d : Component) → d.ports ≡ c.ports → d.pending ≡ c.pending → IsCalm c → IsCalm d
calm_same c d ports pending rests = record { resting = pending ∙ rests.resting; ports = subst (λ (ps : List PortState). All IsCalmPort ps) (sym ports) rests.ports }

pub calm_as : (c d k : Component) → d ≡ k → (IsCalm c → IsCalm k) → IsCalm c → IsCalm d
calm_as c d k is keeps rests = subst IsCalm (sym is) (keeps rests)

-- ---- one port

-- the state of a port of the component changes, which stays calm
pub calm_port : (c : Component) (index k : ℕ) (p : Port) (q : PortState) → port_of c index ≡ Some p → (IsCalmPort p.state → IsCalmPort q) → IsCalm c → IsCalm (with_port k q c)
calm_port c index k p q here keeps rests =
    let calm : IsCalmPort p.state = at_place IsCalmPort c.ports index p.state rests.ports (port_parts c index p here).state in
    record { resting = rests.resting; ports = All-set IsCalmPort c.ports k q (keeps calm) rests.ports }

-- ---- StateSet(Invalid)

rests_all : (ps : List PortState) → All IsCalmPort (map calmed ps)
rests_all [] = All-nil IsCalmPort
rests_all (p ∷ ps) = All-cons IsCalmPort (calmed p) (map calmed ps) (record { steady = refl; quiet = refl; unmarked = refl }) (rests_all ps)

sent_by : (b : Bool) (command : Command) (c : Component) → IsCalm c → IsCalm (if b then told (events.Error errors.InvalidState) (invalidated c) else record c { commands = c.commands ++ command ∷ [] })
sent_by true command c rests = record { resting = refl; ports = rests_all c.ports }
sent_by false command c rests = record { resting = rests.resting; ports = rests.ports }

pub calm_sent : (command : Command) (c : Component) → IsCalm c → IsCalm (sent command c)
calm_sent command c = sent_by (is_at_once command) command c

-- ---- a value is set

unheld_calm : (c d : Component) (index : ℕ) (o : Option Port) → port_of c index ≡ o → d.ports ≡ c.ports → d.pending ≡ c.pending → IsCalm c → IsCalm (unheld_at o d)
unheld_calm c d index None here ports pending rests = calm_same c d ports pending rests
unheld_calm c d index (Some p) here ports pending rests =
    let changed : IsCalm (with_port p.key.port (record p.state { held = false }) c) =
    calm_port c index p.key.port p (record p.state { held = false }) here (λ calm. record { steady = calm.steady; quiet = calm.quiet; unmarked = calm.unmarked }) rests in
    calm_same (with_port p.key.port (record p.state { held = false }) c) (unheld_at (Some p) d) (ap (λ (ps : List PortState). set ps p.key.port (record p.state { held = false })) ports) pending changed

value_by : (b : Bool) (c d : Component) (index : ℕ) → d.ports ≡ c.ports → d.pending ≡ c.pending → IsCalm c → IsCalm (if b then unheld_at (port_of c index) d else d)
value_by true c d index ports pending rests = unheld_calm c d index (port_of c index) refl ports pending rests
value_by false c d index ports pending rests = calm_same c d ports pending rests

pub calm_value : (key : ParamKey) (value : Param) (c : Component) → IsCalm c → IsCalm (with_value key value c)
calm_value key value c rests = value_by (nat_eq key.index 1) c (record c { settings = changed_by key.port value c.settings }) key.port refl refl rests

-- ---- a work that only told something comes back

announced_by : (b : Bool) (c : Component) (p : Port) → port_of c 0 ≡ Some p → IsCalm c
    → IsCalm (if b then record c { work = None } else record (with_port p.key.port (record p.state { held = true }) (record c { work = None })) { notes = c.notes ++ notes.Told (events.PortSettingsChanged p.key.port) ∷ [] })
announced_by true c p here rests = record { resting = rests.resting; ports = rests.ports }
announced_by false c p here rests =
    let changed = calm_port c 0 p.key.port p (record p.state { held = true }) here (λ calm. record { steady = calm.steady; quiet = calm.quiet; unmarked = calm.unmarked }) rests in
    record { resting = changed.resting; ports = changed.ports }

announced_calm : (c : Component) (o : Option Port) → port_of c 0 ≡ o → IsCalm c → IsCalm (announced_at o (record c { work = None }))
announced_calm c None here rests = record { resting = rests.resting; ports = rests.ports }
announced_calm c (Some p) here rests = announced_by (same_format p.setting.definition.format (file_format c.file)) c p here rests

pub calm_announced : (c : Component) → IsCalm c → IsCalm (announced c)
calm_announced c rests = announced_calm c (port_of c 0) refl rests

-- ---- tunnels

pub calm_parted : (c : Component) (index : ℕ) (p : Port) → port_of c index ≡ Some p → IsCalm c → IsCalm (parted p c)
calm_parted c index p here rests = calm_port c index p.key.port p (record p.state { link = None }) here (λ calm. record { steady = calm.steady; quiet = calm.quiet; unmarked = calm.unmarked }) rests

pub calm_joined : (c : Component) (index : ℕ) (p q : Port) (supplier : Supplier) → port_of c index ≡ Some p → IsCalm c → IsCalm (joined_to q supplier p c)
calm_joined c index p q supplier here rests =
    let joined : PortState = record p.state { link = Some (record { peer = q.key; supplier = supplier }) } in
    let changed = calm_port c index p.key.port p joined here (λ calm. record { steady = calm.steady; quiet = calm.quiet; unmarked = calm.unmarked }) rests in
    record { resting = changed.resting; ports = changed.ports }

-- ---- a component that was just made

fresh_calm : (n : ℕ) → All IsCalmPort (replicate n fresh_port)
fresh_calm n = All-replicate IsCalmPort n fresh_port (record { steady = refl; quiet = refl; unmarked = refl })

pub calm_made : (h : Handle) (kind : Kind) (c : Component) → c ≡ fresh h kind → IsCalm c
calm_made h kind c is = subst IsCalm (sym is) (record { resting = refl; ports = fresh_calm (ports_in kind) })
