-- The changes of a component that leave its part, its file and its work as they are.
use Rattle.std.proofs.Common.{◌≡◌, Bool, true, false, List, [], ◌∷◌, ◌++◌, length, length-set, Option, Some, None, nat_eq, refl, sym, subst, if◌then◌else◌}
use Rattle.omx_types.specs.declared.command.Command.{Command}
use Rattle.omx_types.specs.declared.command.Command.TheVariants as commands
use Rattle.omx_types.specs.declared.error.OmxError.{OmxError}
use Rattle.omx_types.specs.declared.error.OmxError.TheVariants as errors
use Rattle.omx_types.specs.declared.command.Event.TheVariants.{Error}
use Rattle.omx_types.specs.declared.param.Param.{Param}
use Rattle.omx_types.specs.declared.param.ParamKey.{ParamKey}
use Rattle.omx_types.specs.declared.state.State.{State}
use Rattle.il_machine.specs.declared.port.Port.{Port}
use Rattle.il_machine.specs.World.{Component, port_of, told}
use Rattle.il_machine.specs.Look.{Look}
use Rattle.il_machine.specs.Settings.{changed_by}
use Rattle.il_machine.specs.Parameters.{with_value, unheld_at}
use Rattle.il_machine.specs.Buffers.{unpopulated, is_unpopulating}
use Rattle.il_machine.specs.Commands.{sent, invalidated, is_at_once, begun, state_fault, carried_out, run_front}
use Rattle.param_store.proofs.GetAfterSet.{same_kind}
use Rattle.stock_laws.specs.Parts.{KeepsPart}

pub part_none : (c : Component) → KeepsPart c c
part_none c = record { number = refl; kind = refl; file = refl; failed = refl; work = refl }

part_either : (b : Bool) (c d e : Component) → KeepsPart c d → KeepsPart c e → KeepsPart c (if b then d else e)
part_either true c d e D E = D
part_either false c d e D E = E

-- what the component becomes is the same one
pub part_as : (c d e : Component) → d ≡ e → KeepsPart c e → KeepsPart c d
part_as c d e q K = subst (KeepsPart c) (sym q) K

pub part_sent : (command : Command) (c : Component) → KeepsPart c (sent command c)
part_sent command c = part_either (is_at_once command) c (told (Error errors.InvalidState) (invalidated c)) (record c { commands = c.commands ++ command ∷ [] })
    (record { number = refl; kind = refl; file = refl; failed = refl; work = refl }) (record { number = refl; kind = refl; file = refl; failed = refl; work = refl })

part_begun : (fault : Option OmxError) (target : State) (c d : Component) → KeepsPart c d → KeepsPart c (begun fault target d)
part_begun None target c d K = record { number = K.number; kind = K.kind; file = K.file; failed = K.failed; work = K.work }
part_begun (Some error) target c d K = record { number = K.number; kind = K.kind; file = K.file; failed = K.failed; work = K.work }

part_carried : (l : Look) (command : Command) (c d : Component) → KeepsPart c d → KeepsPart c (carried_out l command d)
part_carried l (commands.StateSet target) c d K = part_begun (state_fault l d target) target c d K
part_carried l (commands.Flush sel) c d K = record { number = K.number; kind = K.kind; file = K.file; failed = K.failed; work = K.work }
part_carried l (commands.PortDisable sel) c d K = record { number = K.number; kind = K.kind; file = K.file; failed = K.failed; work = K.work }
part_carried l (commands.PortEnable sel) c d K = record { number = K.number; kind = K.kind; file = K.file; failed = K.failed; work = K.work }
part_carried l (commands.MarkBuffer port target value) c d K = record { number = K.number; kind = K.kind; file = K.file; failed = K.failed; work = K.work }

pub part_run : (l : Look) (xs : List Command) (c : Component) → KeepsPart c (run_front l xs c)
part_run l [] c = part_none c
part_run l (command ∷ rest) c = part_carried l command c (record c { commands = rest }) (record { number = refl; kind = refl; file = refl; failed = refl; work = refl })

part_unheld : (o : Option Port) (c d : Component) → KeepsPart c d → KeepsPart c (unheld_at o d)
part_unheld None c d K = K
part_unheld (Some p) c d K = record { number = K.number; kind = K.kind; file = K.file; failed = K.failed; work = K.work }

pub part_value : (key : ParamKey) (value : Param) (c : Component) → KeepsPart c (with_value key value c)
part_value key value c =
    let d : Component = record c { settings = changed_by key.port value c.settings } in
    let K : KeepsPart c d = record { number = refl; kind = same_kind key.port value c.settings; file = refl; failed = refl; work = refl } in
    part_either (nat_eq key.index 1) c (unheld_at (port_of c key.port) d) d (part_unheld (port_of c key.port) c d K) K

pub part_unpopulated : (p : Port) (c : Component) → KeepsPart c (unpopulated p c)
part_unpopulated p c = part_either (is_unpopulating c p) c (told (Error errors.PortUnpopulated) c) c (record { number = refl; kind = refl; file = refl; failed = refl; work = refl }) (part_none c)

handle_unheld : (o : Option Port) (c : Component) → (unheld_at o c).handle ≡ c.handle
handle_unheld None c = refl
handle_unheld (Some p) c = refl

ports_unheld : (o : Option Port) (c : Component) → length (unheld_at o c).ports ≡ length c.ports
ports_unheld None c = refl
ports_unheld (Some p) c = length-set c.ports p.key.port _

either_is : {A : Type 0} (f : Component → A) (b : Bool) (x : A) (d e : Component) → f d ≡ x → f e ≡ x → f (if b then d else e) ≡ x
either_is f true x d e p q = p
either_is f false x d e p q = q

pub handle_value : (key : ParamKey) (value : Param) (c : Component) → (with_value key value c).handle ≡ c.handle
handle_value key value c =
    let d : Component = record c { settings = changed_by key.port value c.settings } in
    either_is (λ (x : Component). x.handle) (nat_eq key.index 1) c.handle (unheld_at (port_of c key.port) d) d (handle_unheld (port_of c key.port) d) refl

pub ports_value : (key : ParamKey) (value : Param) (c : Component) → length (with_value key value c).ports ≡ length c.ports
ports_value key value c =
    let d : Component = record c { settings = changed_by key.port value c.settings } in
    either_is (λ (x : Component). length x.ports) (nat_eq key.index 1) (length c.ports) (unheld_at (port_of c key.port) d) d (ports_unheld (port_of c key.port) d) refl

pending_unheld : (o : Option Port) (c : Component) → (unheld_at o c).pending ≡ c.pending
pending_unheld None c = refl
pending_unheld (Some p) c = refl

pub pending_value : (key : ParamKey) (value : Param) (c : Component) → (with_value key value c).pending ≡ c.pending
pending_value key value c =
    let d : Component = record c { settings = changed_by key.port value c.settings } in
    either_is (λ (x : Component). x.pending) (nat_eq key.index 1) c.pending (unheld_at (port_of c key.port) d) d (pending_unheld (port_of c key.port) d) refl
