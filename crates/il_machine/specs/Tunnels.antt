-- Two ports are joined by a tunnel, and parted.
use Rattle.std.specs.Prelude.{◌≡◌, ℕ, Bool, not, ◌&&◌, ◌||◌, [], ◌∷◌, max, Option, Some, None, Result, MatchOption}
use Rattle.omx_types.specs.declared.handle.PortId.{PortId}
use Rattle.omx_types.specs.declared.error.OmxError.{OmxError}
use Rattle.omx_types.specs.declared.error.OmxError.TheVariants as errors
use Rattle.omx_types.specs.declared.param.Supplier.{Supplier}
use Rattle.omx_types.specs.declared.param.Supplier.TheVariants.{Unspecified, Input, Output}
use Rattle.il_machine.specs.declared.port.Port.{Port}
use Rattle.il_machine.specs.declared.port.PortSetting.{PortSetting}
use Rattle.il_machine.specs.States.{is_invalid}
use Rattle.il_machine.specs.Lists.{first_of_these, holds_at}
use Rattle.il_machine.specs.Settings.{same_format, with_setting}
use Rattle.il_machine.specs.World.{Component, World, same_handle, with_component, with_port, port_of}
use Rattle.il_machine.specs.Headers.{Seen, same_key}
use Rattle.il_machine.specs.Look.{look}
use Rattle.il_machine.specs.Ports.{is_input_port, has_no_header}
use Rattle.il_machine.specs.Parameters.{is_fixed}
use Rattle.il_machine.specs.Due.{ClosesTo}
use Rattle.il_machine.specs.Answers.{plain, Resolving, Answers}

-- the supplier by the preferences of output and input: nine pairs
abbrev pub agreed : Supplier → Supplier → Supplier
agreed Unspecified Input = Input
agreed Input Input = Input
agreed Output Input = Input
agreed Unspecified Output = Output
agreed Input Output = Output
agreed Output Output = Output
agreed Output Unspecified = Output
agreed Input Unspecified = Input
agreed Unspecified Unspecified = Input

-- there are both ports, and the test holds of them
abbrev pub holds_of_both : Option Port → Option Port → (Port → Port → Bool) → Bool
holds_of_both p q test = holds_at p (λ a. holds_at q (λ b. test a b))

-- the first is an output, and the second an input
abbrev pub are_output_and_input : Port → Port → Bool
are_output_and_input p q = not (is_input_port p) && is_input_port q

-- ---- setup_tunnel

abbrev pub setup_refusal : Seen → Component → Component → Option Port → Option Port → Option OmxError
setup_refusal headers c d p q = first_of_these
    ((is_invalid c.state || is_invalid d.state, errors.InvalidState)
    ∷ (not (holds_of_both p q are_output_and_input), errors.BadPortIndex)
    ∷ (same_handle c.handle d.handle, errors.BadParameter)
    ∷ (holds_at p (is_fixed headers c) || holds_at q (is_fixed headers d), errors.IncorrectStateOperation)
    ∷ (not (holds_of_both p q (λ a b. same_format a.setting.definition.format b.setting.definition.format)), errors.PortsNotCompatible)
    ∷ [])

-- the port's setting with the greater count and the greater size of the two
abbrev pub widened : Port → Port → PortSetting
widened p q = record p.setting {
  definition = record p.setting.definition {
    count = max p.setting.definition.count q.setting.definition.count;
    size = max p.setting.definition.size q.setting.definition.size;
  };
}

-- the component with its port p joined to q
abbrev pub joined_to : Port → Supplier → Port → Component → Component
joined_to q supplier p c =
    with_port p.key.port (record p.state { link = Some (record { peer = q.key; supplier = supplier }) })
    (record c { settings = with_setting p.key.port (widened p q) c.settings })

abbrev pub both_joined : Supplier → ℕ → Component → Port → ℕ → Component → Port → World → World
both_joined supplier i c p j d q w = with_component j (joined_to p supplier q d) (with_component i (joined_to q supplier p c) w)

abbrev pub agreed_of : Port → Port → Supplier
agreed_of p q = agreed p.setting.supplier q.setting.supplier

abbrev pub BothPorts : Option Port → Option Port → (Port → Port → Type 0) → Type 0
BothPorts p q Then = MatchOption p ⊥ (λ a. MatchOption q ⊥ (λ b. Then a b))

abbrev pub SetupTunnel : World → PortId → PortId → Result Supplier OmxError → World → Type 0
SetupTunnel w output input result v = Resolving plain w output.handle result v (λ i c. Resolving plain w input.handle result v (λ j d.
    let p = port_of c output.index in
    let q = port_of d input.index in
    Answers (setup_refusal (look w).headers c d p q) result w v (λ supplier. BothPorts p q (λ a b.
    (supplier ≡ agreed_of a b) × ClosesTo (both_joined supplier i c a j d b w) v))))

-- ---- drop_tunnel

-- the other end of p's tunnel is q
abbrev pub is_joined_with : Port → Port → Bool
is_joined_with p q = holds_at p.state.link (λ link. same_key link.peer q.key)

abbrev pub drop_refusal : Seen → Option Port → Option Port → Option OmxError
drop_refusal headers p q = first_of_these
    ((not (holds_of_both p q are_output_and_input), errors.BadPortIndex)
    ∷ (not (holds_of_both p q is_joined_with), errors.BadParameter)
    ∷ (not (holds_at p (has_no_header headers)) || not (holds_at q (has_no_header headers)), errors.IncorrectStateOperation)
    ∷ [])

abbrev pub parted : Port → Component → Component
parted p c = with_port p.key.port (record p.state { link = None }) c

abbrev pub both_parted : ℕ → Component → Port → ℕ → Component → Port → World → World
both_parted i c p j d q w = with_component j (parted q d) (with_component i (parted p c) w)

abbrev pub DropTunnel : World → PortId → PortId → Result (Unit {0}) OmxError → World → Type 0
DropTunnel w output input result v = Resolving plain w output.handle result v (λ i c. Resolving plain w input.handle result v (λ j d.
    let p = port_of c output.index in
    let q = port_of d input.index in
    Answers (drop_refusal (look w).headers p q) result w v (λ _. BothPorts p q (λ a b.
    ClosesTo (both_parted i c a j d b w) v))))
