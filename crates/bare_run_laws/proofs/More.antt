-- More acts in a bare world: a command is run, a parameter is set, a tunnel is parted and joined again.
use Rattle.std.proofs.Common.{◌≡◌, ℕ, ◌+◌, ◌-◌, Bool, not, ◌&&◌, ◌||◌, nat_eq, nat_lt, List, [], ◌∷◌, slice_get, Option, Some, None, refl, sym, ◌∙◌, ap, subst}
use Rattle.std.specs.List.{fold}
use Rattle.std.specs.Prelude.{filter, map, Result, Ok}
use Rattle.omx_types.specs.declared.handle.Handle.{Handle}
use Rattle.omx_types.specs.declared.handle.PortId.{PortId}
use Rattle.omx_types.specs.declared.command.Command.{Command}
use Rattle.omx_types.specs.declared.command.Command.TheVariants.{StateSet, PortDisable, PortEnable, Flush, MarkBuffer}
use Rattle.omx_types.specs.declared.state.State.{State}
use Rattle.omx_types.specs.declared.state.State.TheVariants as states
use Rattle.omx_types.specs.declared.error.OmxError.{OmxError}
use Rattle.omx_types.specs.declared.error.OmxError.TheVariants as errors
use Rattle.omx_types.specs.declared.param.Param.{Param}
use Rattle.omx_types.specs.declared.param.ParamKey.{ParamKey}
use Rattle.omx_types.specs.declared.param.Supplier.{Supplier}
use Rattle.il_machine.specs.declared.answer.Acted.TheVariants.{Did}
use Rattle.il_machine.specs.declared.port.Port.{Port}
use Rattle.il_machine.specs.Answers.{Acts, Answers, AnswersAs, Resolving, plain}
use Rattle.il_machine.specs.Commands.{RunCommand, begun, carried_out, has_no_wait, run_front, run_idle, state_fault}
use Rattle.il_machine.specs.Due.{ClosesTo}
use Rattle.il_machine.specs.Headers.{Seen}
use Rattle.il_machine.specs.Lists.{first_of_these, holds_at}
use Rattle.il_machine.specs.Look.{Look, look}
use Rattle.il_machine.specs.Parameters.{SetParameter, is_fixed, set_parameter_refusal, unheld_at, with_value}
use Rattle.il_machine.specs.Settings.{changed_by, fits, same_format}
use Rattle.il_machine.specs.States.{is_invalid, is_lawful, is_loaded, same_state}
use Rattle.il_machine.specs.Tunnels.{BothPorts, DropTunnel, SetupTunnel, agreed_of, are_output_and_input, both_joined, both_parted, drop_refusal, holds_of_both, joined_to, parted, setup_refusal}
use Rattle.il_machine.specs.Units.{is_holder, need_of, units_held, units_of}
use Rattle.il_machine.specs.World.{Component, World, port_of, with_component}
use Rattle.machine_laws.proofs.Finding.{either}
use Rattle.bare_run_laws.specs.Bare.{IsApart, IsKnown, bare, bare_component, bare_handle, bare_id}
use Rattle.bare_run_laws.proofs.Acts.{acts_same, answers_same, put_bare}
use Rattle.bare_run_laws.proofs.Closings.{bare_closes}
use Rattle.bare_run_laws.proofs.Places.{resolving_same, same_at}

-- ---- run_command

units_from : (n : ℕ) (cs : List Component) → fold (λ a x. a + need_of x) n (filter is_holder (map bare_component cs)) ≡ fold (λ a x. a + need_of x) n (filter is_holder cs)
units_from n [] = refl
units_from n (c ∷ cs) = either c.holds (λ t. rw t (units_from (n + need_of c) cs)) (λ f. rw f (units_from n cs))

units_same : (cs : List Component) → units_held (map bare_component cs) ≡ units_held cs
units_same cs = units_from 0 cs

-- the fault with so many units held
abbrev fault_with : Look → Component → State → ℕ → Option OmxError
fault_with l c target held = first_of_these
    ((same_state c.state target, errors.SameState)
    ∷ (not (is_lawful c.state target), errors.IncorrectStateTransition)
    ∷ (is_loaded c.state && not (fits c.settings), errors.UnsupportedSetting)
    ∷ (is_loaded c.state && same_state target states.Idle && nat_lt (l.units - held) (units_of c.settings.kind), errors.InsufficientResources)
    ∷ (same_state target states.WaitForResources && has_no_wait l, errors.InsufficientResources)
    ∷ [])

fault_same : (w : World) (c : Component) (target : State) → state_fault (look (bare w)) (bare_component c) target ≡ state_fault (look w) c target
fault_same w c target = ap (λ (held : ℕ). fault_with (look w) c target held) (units_same w.components)

begun_same : (o : Option OmxError) (target : State) (c : Component) → begun o target (bare_component c) ≡ bare_component (begun o target c)
begun_same (Some e) target c = refl
begun_same None target c = refl

carried_same : (w : World) (command : Command) (c : Component) → carried_out (look (bare w)) command (bare_component c) ≡ bare_component (carried_out (look w) command c)
carried_same w (StateSet target) c = ap (λ (o : Option OmxError). begun o target (bare_component c)) (fault_same w c target) ∙ begun_same (state_fault (look w) c target) target c
carried_same w (Flush sel) c = refl
carried_same w (PortDisable sel) c = refl
carried_same w (PortEnable sel) c = refl
carried_same w (MarkBuffer port target value) c = refl

pub front_same : (w : World) (commands : List Command) (c : Component) → run_front (look (bare w)) commands (bare_component c) ≡ bare_component (run_front (look w) commands c)
front_same w [] c = refl
front_same w (command ∷ rest) c = carried_same w command (record c { commands = rest })

pub idle_same : (commands : List Command) (c : Component) → run_idle (bare_component c) commands ≡ run_idle c commands
idle_same [] c = refl
idle_same (StateSet target ∷ rest) c = refl
idle_same (Flush sel ∷ rest) c = refl
idle_same (PortDisable sel ∷ rest) c = refl
idle_same (PortEnable sel ∷ rest) c = refl
idle_same (MarkBuffer port target value ∷ rest) c = refl

pub run_bare : (w : World) (h : Handle) (v : World) → IsKnown h w → RunCommand w h (Ok Did) v → RunCommand (bare w) (bare_handle h) (Ok Did) (bare v)
run_bare w h v known R = resolving_same w v h (Ok Did)
    (λ i c. Acts (run_idle c c.commands) (Ok Did) w (with_component i (run_front (look w) c.commands c) w) v)
    (λ i c. Acts (run_idle c c.commands) (Ok Did) (bare w) (with_component i (run_front (look (bare w)) c.commands c) (bare w)) (bare v))
    known
    (λ i c there A. acts_same OmxError (run_idle c c.commands) (run_idle (bare_component c) c.commands) w
    (with_component i (run_front (look w) c.commands c) w)
    (with_component i (run_front (look (bare w)) c.commands (bare_component c)) (bare w)) v
    (λ e. idle_same c.commands c ∙ e)
    (put_bare i (run_front (look (bare w)) c.commands (bare_component c)) (run_front (look w) c.commands c) w (front_same w c.commands c)) A)
    R

-- ---- set_parameter

unheld_same : (o : Option Port) (d : Component) → unheld_at o (bare_component d) ≡ bare_component (unheld_at o d)
unheld_same None d = refl
unheld_same (Some p) d = refl

pub value_same : (key : ParamKey) (value : Param) (c : Component) → with_value key value (bare_component c) ≡ bare_component (with_value key value c)
value_same key value c = either (nat_eq key.index 1)
    (λ t. rw t (unheld_same (port_of c key.port) (record c { settings = changed_by key.port value c.settings })))
    (λ f. rw f refl)

pub set_bare : (w : World) (h : Handle) (key : ParamKey) (value : Param) (result : Result (Unit {0}) OmxError) (v : World) → IsKnown h w
    → SetParameter w h key value result v → SetParameter (bare w) (bare_handle h) key value result (bare v)
set_bare w h key value result v known S = resolving_same w v h result
    (λ i c. Answers (set_parameter_refusal (look w).headers c key value) result w v (λ _. ClosesTo (with_component i (with_value key value c) w) v))
    (λ i c. Answers (set_parameter_refusal (look (bare w)).headers c key value) result (bare w) (bare v) (λ _. ClosesTo (with_component i (with_value key value c) (bare w)) (bare v)))
    known
    (λ i c there A. answers_same (set_parameter_refusal (look w).headers c key value) result w v _ _
    (λ x C. subst (λ (u : World). ClosesTo u (bare v)) (sym (put_bare i (with_value key value (bare_component c)) (with_value key value c) w (value_same key value c))) (bare_closes (with_component i (with_value key value c) w) v C)) A)
    S

-- ---- tunnels

both_there : (p q : Option Port) (Then Else : Port → Port → Type 0) → ((a b : Port) → Then a b → Else a b) → BothPorts p q Then → BothPorts p q Else
both_there None q Then Else goes h = h
both_there (Some a) None Then Else goes h = h
both_there (Some a) (Some b) Then Else goes h = goes a b h

pub parted_same : (i : ℕ) (c : Component) (p : Port) (j : ℕ) (d : Component) (q : Port) (w : World)
    → both_parted i (bare_component c) p j (bare_component d) q (bare w) ≡ bare (both_parted i c p j d q w)
parted_same i c p j d q w =
    ap (λ (u : World). with_component j (parted q (bare_component d)) u) (put_bare i (parted p (bare_component c)) (parted p c) w refl)
    ∙ put_bare j (parted q (bare_component d)) (parted q d) (with_component i (parted p c) w) refl

pub drop_bare : (w : World) (output input : PortId) (result : Result (Unit {0}) OmxError) (v : World) → IsKnown output.handle w → IsKnown input.handle w
    → DropTunnel w output input result v → DropTunnel (bare w) (bare_id output) (bare_id input) result (bare v)
drop_bare w output input result v known other D = resolving_same w v output.handle result
    (λ i c. Resolving plain w input.handle result v (λ j d. Answers (drop_refusal (look w).headers (port_of c output.index) (port_of d input.index)) result w v
    (λ _. BothPorts (port_of c output.index) (port_of d input.index) (λ a b. ClosesTo (both_parted i c a j d b w) v))))
    (λ i c. Resolving plain (bare w) (bare_handle input.handle) result (bare v) (λ j d. Answers (drop_refusal (look (bare w)).headers (port_of c output.index) (port_of d input.index)) result (bare w) (bare v)
    (λ _. BothPorts (port_of c output.index) (port_of d input.index) (λ a b. ClosesTo (both_parted i c a j d b (bare w)) (bare v)))))
    known
    (λ i c there R. resolving_same w v input.handle result
    (λ j d. Answers (drop_refusal (look w).headers (port_of c output.index) (port_of d input.index)) result w v
    (λ _. BothPorts (port_of c output.index) (port_of d input.index) (λ a b. ClosesTo (both_parted i c a j d b w) v)))
    (λ j d. Answers (drop_refusal (look (bare w)).headers (port_of c output.index) (port_of d input.index)) result (bare w) (bare v)
    (λ _. BothPorts (port_of c output.index) (port_of d input.index) (λ a b. ClosesTo (both_parted i (bare_component c) a j d b (bare w)) (bare v))))
    other
    (λ j d at A. answers_same (drop_refusal (look w).headers (port_of c output.index) (port_of d input.index)) result w v _ _
    (λ x B. both_there (port_of c output.index) (port_of d input.index)
    (λ a b. ClosesTo (both_parted i c a j d b w) v)
    (λ a b. ClosesTo (both_parted i (bare_component c) a j (bare_component d) b (bare w)) (bare v))
    (λ a b C. subst (λ (u : World). ClosesTo u (bare v)) (sym (parted_same i c a j d b w)) (bare_closes (both_parted i c a j d b w) v C)) B) A)
    R)
    D

-- the refusal, where it was seen whether both handles are the same
abbrev setup_list : Seen → Component → Component → Option Port → Option Port → Bool → List (Bool × OmxError)
setup_list headers c d p q same =
    (is_invalid c.state || is_invalid d.state, errors.InvalidState)
    ∷ (not (holds_of_both p q are_output_and_input), errors.BadPortIndex)
    ∷ (same, errors.BadParameter)
    ∷ (holds_at p (is_fixed headers c) || holds_at q (is_fixed headers d), errors.IncorrectStateOperation)
    ∷ (not (holds_of_both p q (λ a b. same_format a.setting.definition.format b.setting.definition.format)), errors.PortsNotCompatible)
    ∷ []

pub setup_same : (w : World) (c d : Component) (p q : Option Port) → IsKnown d.handle w → (i : ℕ) → slice_get w.components i ≡ Some c
    → setup_refusal (look (bare w)).headers (bare_component c) (bare_component d) p q ≡ setup_refusal (look w).headers c d p q
setup_same w c d p q known i there = ap (λ (b : Bool). first_of_these (setup_list (look w).headers c d p q b)) (same_at d.handle c (known i c there))

pub joined_same : (supplier : Supplier) (i : ℕ) (c : Component) (p : Port) (j : ℕ) (d : Component) (q : Port) (w : World)
    → both_joined supplier i (bare_component c) p j (bare_component d) q (bare w) ≡ bare (both_joined supplier i c p j d q w)
joined_same supplier i c p j d q w =
    ap (λ (u : World). with_component j (joined_to p supplier q (bare_component d)) u) (put_bare i (joined_to q supplier p (bare_component c)) (joined_to q supplier p c) w refl)
    ∙ put_bare j (joined_to p supplier q (bare_component d)) (joined_to p supplier q d) (with_component i (joined_to q supplier p c) w) refl

pub setup_bare : (w : World) (output input : PortId) (result : Result Supplier OmxError) (v : World) → IsApart w → IsKnown output.handle w → IsKnown input.handle w
    → SetupTunnel w output input result v → SetupTunnel (bare w) (bare_id output) (bare_id input) result (bare v)
setup_bare w output input result v apart known other S = resolving_same w v output.handle result
    (λ i c. Resolving plain w input.handle result v (λ j d. Answers (setup_refusal (look w).headers c d (port_of c output.index) (port_of d input.index)) result w v
    (λ supplier. BothPorts (port_of c output.index) (port_of d input.index) (λ a b. (supplier ≡ agreed_of a b) × ClosesTo (both_joined supplier i c a j d b w) v))))
    (λ i c. Resolving plain (bare w) (bare_handle input.handle) result (bare v) (λ j d. Answers (setup_refusal (look (bare w)).headers c d (port_of c output.index) (port_of d input.index)) result (bare w) (bare v)
    (λ supplier. BothPorts (port_of c output.index) (port_of d input.index) (λ a b. (supplier ≡ agreed_of a b) × ClosesTo (both_joined supplier i c a j d b (bare w)) (bare v)))))
    known
    (λ i c there R. resolving_same w v input.handle result
    (λ j d. Answers (setup_refusal (look w).headers c d (port_of c output.index) (port_of d input.index)) result w v
    (λ supplier. BothPorts (port_of c output.index) (port_of d input.index) (λ a b. (supplier ≡ agreed_of a b) × ClosesTo (both_joined supplier i c a j d b w) v)))
    (λ j d. Answers (setup_refusal (look (bare w)).headers (bare_component c) d (port_of c output.index) (port_of d input.index)) result (bare w) (bare v)
    (λ supplier. BothPorts (port_of c output.index) (port_of d input.index) (λ a b. (supplier ≡ agreed_of a b) × ClosesTo (both_joined supplier i (bare_component c) a j d b (bare w)) (bare v))))
    other
    (λ j d at A. subst (λ (o : Option OmxError). AnswersAs plain o result (bare w) (bare v)
    (λ supplier. BothPorts (port_of c output.index) (port_of d input.index) (λ a b. (supplier ≡ agreed_of a b) × ClosesTo (both_joined supplier i (bare_component c) a j (bare_component d) b (bare w)) (bare v))))
    (sym (setup_same w c d (port_of c output.index) (port_of d input.index) (apart j d at) i there))
    (answers_same (setup_refusal (look w).headers c d (port_of c output.index) (port_of d input.index)) result w v _ _
    (λ supplier B. both_there (port_of c output.index) (port_of d input.index)
    (λ a b. (supplier ≡ agreed_of a b) × ClosesTo (both_joined supplier i c a j d b w) v)
    (λ a b. (supplier ≡ agreed_of a b) × ClosesTo (both_joined supplier i (bare_component c) a j (bare_component d) b (bare w)) (bare v))
    (λ a b C. (C.0, subst (λ (u : World). ClosesTo u (bare v)) (sym (joined_same supplier i c a j d b w)) (bare_closes (both_joined supplier i c a j d b w) v C.1))) B) A))
    R)
    S
