-- What a client asks for, in a world whose handles moved.
use Rattle.std.proofs.Common.{◌≡◌, ℕ, zero, suc, Bool, true, false, not, ◌||◌, cond, if◌then◌else◌, nat_eq, nat_le, replicate, is_some, List, [], ◌∷◌, ◌++◌, Option, Some, None, option_map, refl, sym, ◌∙◌, ap, subst}
use Rattle.std.specs.Prelude.{map, MatchOption, Result, Ok, Err}
use Rattle.omx_types.specs.declared.handle.Handle.{Handle}
use Rattle.omx_types.specs.declared.handle.PortId.{PortId}
use Rattle.omx_types.specs.declared.state.State.{State}
use Rattle.omx_types.specs.declared.command.Command.{Command}
use Rattle.omx_types.specs.declared.error.OmxError.{OmxError}
use Rattle.omx_types.specs.declared.error.CallError.{CallError}
use Rattle.omx_types.specs.declared.kind.Kind.{Kind}
use Rattle.omx_types.specs.declared.error.OmxError.TheVariants as errors
use Rattle.omx_types.specs.declared.param.Param.{Param}
use Rattle.omx_types.specs.declared.param.Param.TheVariants as params
use Rattle.omx_types.specs.declared.param.ParamKey.{ParamKey}
use Rattle.omx_types.specs.declared.param.Supplier.{Supplier}
use Rattle.part_api.specs.declared.attached.Attached.{Attached}
use Rattle.il_machine.specs.declared.answer.Acted.{Acted}
use Rattle.il_machine.specs.declared.answer.Progress.{Progress}
use Rattle.il_machine.specs.declared.port.Port.{Port}
use Rattle.il_machine.specs.declared.port.PortState.{PortState}
use Rattle.il_machine.specs.declared.port.PortView.{PortView}
use Rattle.il_machine.specs.Answers.{Acts, Answers, AnswersOrMemory, Looks, Resolving, looked, plain}
use Rattle.il_machine.specs.Commands.{RunCommand, SendCommand, run_front, run_idle, send_refusal, sent}
use Rattle.il_machine.specs.Components.{FreeHandle, GetHandle, free_refusal, get_handle_refusal, is_vacant, name_refusals, progress_answer, progress_of, state_answer, view_answer, viewed, with_new_component, without_component}
use Rattle.il_machine.specs.Files.{Attach, Offered, attach_refusal, attached, stream_with, with_file}
use Rattle.il_machine.specs.Kinds.{kind_of, ports_in}
use Rattle.il_machine.specs.Due.{ClosesTo}
use Rattle.il_machine.specs.Headers.{Seen, seen}
use Rattle.il_machine.specs.Lists.{any_of, first_of_these}
use Rattle.il_machine.specs.Look.{look}
use Rattle.il_machine.specs.Parameters.{SetConfig, SetParameter, is_fixed, is_format_fixed, is_format_free, get_parameter_refusal, is_settable, is_wrong_time, parameter_answer, set_config_refusal, set_parameter_refusal, unheld_at, with_value}
use Rattle.il_machine.specs.Ports.{has_no_header, is_joined}
use Rattle.il_machine.specs.Settings.{changed_by, refused_or, same_format, set_refusals, value_of, with_setting}
use Rattle.il_machine.specs.States.{is_invalid, is_loaded}
use Rattle.il_machine.specs.Tunnels.{BothPorts, DropTunnel, SetupTunnel, agreed_of, are_output_and_input, both_joined, both_parted, drop_refusal, holds_of_both, is_joined_with, joined_to, parted, setup_refusal, widened}
use Rattle.il_machine.specs.World.{Component, World, fresh, fresh_port, number_of, port_of, with_component, with_stream}
use Rattle.machine_laws.proofs.Finding.{either}
use Rattle.slot_laws.specs.Seating.{Seating, mapped, moved, moved_acted, moved_command, moved_component, moved_handle, moved_id, moved_port, moved_state}
use Rattle.slot_laws.proofs.Lists.{holds_moved, map_append, map_length, map_remove}
use Rattle.slot_laws.proofs.Ports.{all_ports, any_ports, at_port_moved, port_moved, port_put}
use Rattle.slot_laws.proofs.Headers.{seen_moved}
use Rattle.slot_laws.proofs.Closings.{component_put}
use Rattle.slot_laws.proofs.Naming.{acts_moved, answers_moved, by_map, closes_from, looks_moved, named_moved, resolving_moved, same_moved, stays}
use Rattle.slot_laws.proofs.Rooms.{front_moved, idle_moved, send_refused, sent_moved}

module _ (f : Seating) where
  -- ---- a call that is refused, or changes its component

  pub changes_moved : (w v : World) (h k : Handle) (r : Result (Unit {0}) OmxError) (refusal other : Component → Option OmxError) (change also : Component → Component)
      → k ≡ moved_handle f h → ((c : Component) → other (moved_component f c) ≡ refusal c) → ((c : Component) → also (moved_component f c) ≡ moved_component f (change c))
      → Resolving plain w h r v (λ i c. Answers (refusal c) r w v (λ _. ClosesTo (with_component i (change c) w) v))
      → Resolving plain (moved f w) k r (moved f v) (λ i c. Answers (other c) r (moved f w) (moved f v) (λ _. ClosesTo (with_component i (also c) (moved f w)) (moved f v)))
  changes_moved w v h k r refusal other change also is refused goes R =
      subst (λ (x : Handle). Resolving plain (moved f w) x r (moved f v) (λ i c. Answers (other c) r (moved f w) (moved f v) (λ _. ClosesTo (with_component i (also c) (moved f w)) (moved f v)))) (sym is)
      (resolving_moved f plain (λ x. x) w v r r (stays r) h
      (λ i c. Answers (refusal c) r w v (λ _. ClosesTo (with_component i (change c) w) v))
      (λ i c. Answers (other c) r (moved f w) (moved f v) (λ _. ClosesTo (with_component i (also c) (moved f w)) (moved f v)))
      (λ i c A. answers_moved f plain (λ x. x) w v r r (stays r) (other (moved_component f c)) (refusal c)
      (λ _. ClosesTo (with_component i (change c) w) v) (λ _. ClosesTo (with_component i (also (moved_component f c)) (moved f w)) (moved f v)) (refused c)
      (λ x C. closes_from f (with_component i (also (moved_component f c)) (moved f w)) (with_component i (change c) w) v (component_put f i (also (moved_component f c)) (change c) w (goes c)) C) A) R)

  -- ---- commands

  pub send_goes : (w : World) (h : Handle) (command : Command) (r : Result (Unit {0}) OmxError) (v : World)
      → SendCommand w h command r v → SendCommand (moved f w) (moved_handle f h) (moved_command f command) r (moved f v)
  send_goes w h command r v S = changes_moved w v h (moved_handle f h) r (λ c. send_refusal (look w) c command) (λ c. send_refusal (look (moved f w)) c (moved_command f command))
      (sent command) (sent (moved_command f command)) refl (λ c. send_refused f w c command) (sent_moved f command) S

  pub run_goes : (w : World) (h : Handle) (r : Result Acted OmxError) (v : World) → RunCommand w h r v → RunCommand (moved f w) (moved_handle f h) (mapped (moved_acted f) r) (moved f v)
  run_goes w h r v R = resolving_moved f plain (moved_acted f) w v r (mapped (moved_acted f) r) (by_map (moved_acted f) r) h
      (λ i c. Acts (run_idle c c.commands) r w (with_component i (run_front (look w) c.commands c) w) v)
      (λ i c. Acts (run_idle c c.commands) (mapped (moved_acted f) r) (moved f w) (with_component i (run_front (look (moved f w)) c.commands c) (moved f w)) (moved f v))
      (λ i c A. acts_moved f w (with_component i (run_front (look w) c.commands c) w)
      (with_component i (run_front (look (moved f w)) (moved_component f c).commands (moved_component f c)) (moved f w)) v r (mapped (moved_acted f) r) (by_map (moved_acted f) r)
      (run_idle (moved_component f c) (moved_component f c).commands) (run_idle c c.commands) (idle_moved f c c.commands)
      (component_put f i (run_front (look (moved f w)) (moved_component f c).commands (moved_component f c)) (run_front (look w) c.commands c) w (front_moved f w c.commands c)) A) R

  -- ---- parameters

  format_free : (c : Component) (port : ℕ) (value : Param) → is_format_free (moved_component f c) port value ≡ is_format_free c port value
  format_free c port (params.Port d) = at_port_moved f c port (λ p. not (is_format_fixed (moved_component f c) p d)) (λ p. not (is_format_fixed c p d)) (λ p. refl)
  format_free c port (params.Supplier supplier) = refl
  format_free c port (params.Priority priority) = refl
  format_free c port (params.Gain gain) = refl
  format_free c port (params.Weight weight) = refl

  wrong_time : (headers : Seen) (c : Component) (key : ParamKey) → is_wrong_time headers (moved_component f c) key ≡ is_wrong_time headers c key
  wrong_time headers c key =
      let a = at_port_moved f c key.port (is_fixed headers (moved_component f c)) (is_fixed headers c) (λ p. refl) in
      λ j. cond (nat_eq key.index 3) (not (is_settable c)) (a j)

  set_refused : (w : World) (key : ParamKey) (value : Param) (c : Component) → set_parameter_refusal (look (moved f w)).headers (moved_component f c) key value ≡ set_parameter_refusal (look w).headers c key value
  set_refused w key value c =
      let a = format_free c key.port value in
      let b = wrong_time (seen w.headers) c key in
      ap (λ (s : Seen). set_parameter_refusal s (moved_component f c) key value) (seen_moved f w.headers)
      ∙ (λ j. first_of_these
      ((is_invalid c.state, errors.InvalidState)
      ∷ set_refusals c.settings key false value (a j)
      ++ (b j, errors.IncorrectStateOperation) ∷ []))

  unheld_moved : (o : Option Port) (d : Component) → unheld_at (option_map (moved_port f) o) (moved_component f d) ≡ moved_component f (unheld_at o d)
  unheld_moved None d = refl
  unheld_moved (Some p) d = let s : PortState = record p.state { held = false } in port_put f p.key.port (moved_state f s) s d refl

  value_moved : (key : ParamKey) (value : Param) (c : Component) → with_value key value (moved_component f c) ≡ moved_component f (with_value key value c)
  value_moved key value c =
      let d : Component = record c { settings = changed_by key.port value c.settings } in
      let a = ap (λ (o : Option Port). unheld_at o (moved_component f d)) (port_moved f c key.port) ∙ unheld_moved (port_of c key.port) d in
      (λ j. cond (nat_eq key.index 1) (a j) (moved_component f d)) ∙ either (nat_eq key.index 1) (λ t. rw t refl) (λ e. rw e refl)

  pub set_goes : (w : World) (h : Handle) (key : ParamKey) (value : Param) (r : Result (Unit {0}) OmxError) (v : World)
      → SetParameter w h key value r v → SetParameter (moved f w) (moved_handle f h) key value r (moved f v)
  set_goes w h key value r v S = changes_moved w v h (moved_handle f h) r (λ c. set_parameter_refusal (look w).headers c key value) (λ c. set_parameter_refusal (look (moved f w)).headers c key value)
      (with_value key value) (with_value key value) refl (set_refused w key value) (value_moved key value) S

  pub config_goes : (w : World) (h : Handle) (key : ParamKey) (value : Param) (r : Result (Unit {0}) OmxError) (v : World)
      → SetConfig w h key value r v → SetConfig (moved f w) (moved_handle f h) key value r (moved f v)
  config_goes w h key value r v S = changes_moved w v h (moved_handle f h) r (λ c. set_config_refusal c key value) (λ c. set_config_refusal c key value)
      (with_value key value) (with_value key value) refl (λ c. refl) (value_moved key value) S

  -- ---- looking

  pub state_goes : (w : World) (h : Handle) (r : Result State OmxError) (v : World) → Looks (state_answer h (look w)) r w v → Looks (state_answer (moved_handle f h) (look (moved f w))) r (moved f w) (moved f v)
  state_goes w h r v L = looks_moved f (state_answer (moved_handle f h) (look (moved f w))) (state_answer h (look w)) r w v
      (ap (λ (o : Option Component). looked {T = State} o (λ c. Ok c.state)) (named_moved f h w.components) ∙ go _) L
    where
      go : (o : Option Component) → looked {T = State} (option_map (moved_component f) o) (λ c. Ok c.state) ≡ looked {T = State} o (λ c. Ok c.state)
      go None = refl
      go (Some c) = refl

  viewed_moved : (headers : Seen) (o : Option Port) → viewed headers (option_map (moved_port f) o) ≡ viewed headers o
  viewed_moved headers None = refl
  viewed_moved headers (Some p) = refl

  pub view_moved : (w : World) (h : Handle) (port : ℕ) → view_answer (moved_handle f h) port (look (moved f w)) ≡ view_answer h port (look w)
  view_moved w h port = (λ j. looked {T = PortView} (named_moved f h w.components j) (λ c. viewed (seen_moved f w.headers j) (port_of c port))) ∙ go _
    where
      go : (o : Option Component) → looked {T = PortView} (option_map (moved_component f) o) (λ c. viewed (seen w.headers) (port_of c port)) ≡ looked {T = PortView} o (λ c. viewed (seen w.headers) (port_of c port))
      go None = refl
      go (Some c) = ap (viewed (seen w.headers)) (port_moved f c port) ∙ viewed_moved (seen w.headers) (port_of c port)

  pub view_goes : (w : World) (h : Handle) (port : ℕ) (r : Result PortView OmxError) (v : World)
      → Looks (view_answer h port (look w)) r w v → Looks (view_answer (moved_handle f h) port (look (moved f w))) r (moved f w) (moved f v)
  view_goes w h port r v L = looks_moved f (view_answer (moved_handle f h) port (look (moved f w))) (view_answer h port (look w)) r w v (view_moved w h port) L

  pub progress_goes : (w : World) (h : Handle) (r : Result (Option Progress) OmxError) (v : World)
      → Looks (progress_answer h w) r w v → Looks (progress_answer (moved_handle f h) (moved f w)) r (moved f w) (moved f v)
  progress_goes w h r v L = looks_moved f (progress_answer (moved_handle f h) (moved f w)) (progress_answer h w) r w v
      (ap (λ (o : Option Component). looked {T = Option Progress} o (λ c. Ok (if c.client_out then None else Some (progress_of c w)))) (named_moved f h w.components) ∙ go _) L
    where
      go : (o : Option Component) → looked {T = Option Progress} (option_map (moved_component f) o) (λ c. Ok (if c.client_out then None else Some (progress_of c w))) ≡ looked {T = Option Progress} o (λ c. Ok (if c.client_out then None else Some (progress_of c w)))
      go None = refl
      go (Some c) = refl

  pub parameter_goes : (w : World) (h : Handle) (key : ParamKey) (config : Bool) (r : Result Param OmxError) (v : World)
      → Looks (parameter_answer h key config (look w)) r w v → Looks (parameter_answer (moved_handle f h) key config (look (moved f w))) r (moved f w) (moved f v)
  parameter_goes w h key config r v L = looks_moved f (parameter_answer (moved_handle f h) key config (look (moved f w))) (parameter_answer h key config (look w)) r w v
      (ap (λ (o : Option Component). looked {T = Param} o (λ c. refused_or (get_parameter_refusal c key config) (value_of c.settings key))) (named_moved f h w.components) ∙ go _) L
    where
      go : (o : Option Component) → looked {T = Param} (option_map (moved_component f) o) (λ c. refused_or (get_parameter_refusal c key config) (value_of c.settings key)) ≡ looked {T = Param} o (λ c. refused_or (get_parameter_refusal c key config) (value_of c.settings key))
      go None = refl
      go (Some c) = refl

  -- ---- a component is made, and gets its file

  pub full_moved : (w : World) (name : List ℕ) → get_handle_refusal (look (moved f w)) name ≡ get_handle_refusal (look w) name
  full_moved w name =
      let a = map_length (moved_component f) w.components in
      λ j. first_of_these (name_refusals name ++ (nat_le 32 (a j) || nat_eq w.numbered 18446744073709551615, errors.InsufficientResources) ∷ [])

  pub new_moved : (h : Handle) (kind : Kind) (w : World) → with_new_component (moved_handle f h) kind (moved f w) ≡ moved f (with_new_component h kind w)
  new_moved h kind w =
      let a = map_append (moved_component f) w.components (fresh h kind ∷ []) in
      let b = fresh_moved h kind in
      (λ j. record (with_new_component (moved_handle f h) kind (moved f w)) { components = map (moved_component f) w.components ++ b j ∷ [] })
      ∙ (λ j. record (moved f (with_new_component h kind w)) { components = a j })
    where
      ports : (n : ℕ) → map (moved_state f) (replicate n fresh_port) ≡ replicate n fresh_port
      ports zero = refl
      ports (suc n) = ap (λ (l : List PortState). fresh_port ∷ l) (ports n)

      fresh_moved : (h : Handle) (kind : Kind) → fresh (moved_handle f h) kind ≡ moved_component f (fresh h kind)
      fresh_moved h kind = let a = sym (ports (ports_in kind)) in λ j. record (fresh (moved_handle f h) kind) { ports = a j }

  -- the new handle's slot has to be vacant there too
  pub get_goes : (w : World) (name : List ℕ) (h : Handle) (v : World) → is_vacant (moved_handle f h).slot (moved f w).components ≡ true
      → GetHandle w name (Ok h) v → GetHandle (moved f w) name (Ok (moved_handle f h)) (moved f v)
  get_goes w name h v vacant G =
      subst (λ (o : Option OmxError). AnswersOrMemory o (Ok (moved_handle f h)) (moved f w) (moved f v) (λ k.
      (k.generation ≡ w.numbered) × (is_vacant k.slot (moved f w).components ≡ true) × MatchOption (kind_of name) ⊥ (λ kind. ClosesTo (with_new_component k kind (moved f w)) (moved f v))))
      (sym (full_moved w name)) (go (get_handle_refusal (look w) name) G)
    where
      kinds : (o : Option Kind) → MatchOption o ⊥ (λ kind. ClosesTo (with_new_component h kind w) v) → MatchOption o ⊥ (λ kind. ClosesTo (with_new_component (moved_handle f h) kind (moved f w)) (moved f v))
      kinds None m = m
      kinds (Some kind) m = closes_from f (with_new_component (moved_handle f h) kind (moved f w)) (with_new_component h kind w) v (new_moved h kind w) m

      go : (o : Option OmxError) → AnswersOrMemory o (Ok h) w v (λ k. (k.generation ≡ w.numbered) × (is_vacant k.slot w.components ≡ true) × MatchOption (kind_of name) ⊥ (λ kind. ClosesTo (with_new_component k kind w) v))
          → AnswersOrMemory o (Ok (moved_handle f h)) (moved f w) (moved f v) (λ k.
          (k.generation ≡ w.numbered) × (is_vacant k.slot (moved f w).components ≡ true) × MatchOption (kind_of name) ⊥ (λ kind. ClosesTo (with_new_component k kind (moved f w)) (moved f v)))
      go None m = (m.0, vacant, kinds (kind_of name) m.2)
      go (Some error) m = let no = m.0 in absurd cc

  pub get_refused : (w : World) (name : List ℕ) (error : CallError) (v : World) → GetHandle w name (Err error) v → GetHandle (moved f w) name (Err error) (moved f v)
  get_refused w name error v G =
      subst (λ (o : Option OmxError). AnswersOrMemory o (Err error) (moved f w) (moved f v) (λ k.
      (k.generation ≡ w.numbered) × (is_vacant k.slot (moved f w).components ≡ true) × MatchOption (kind_of name) ⊥ (λ kind. ClosesTo (with_new_component k kind (moved f w)) (moved f v))))
      (sym (full_moved w name)) (go (get_handle_refusal (look w) name) G)
    where
      go : (o : Option OmxError) → AnswersOrMemory o (Err error) w v (λ k. (k.generation ≡ w.numbered) × (is_vacant k.slot w.components ≡ true) × MatchOption (kind_of name) ⊥ (λ kind. ClosesTo (with_new_component k kind w) v))
          → AnswersOrMemory o (Err error) (moved f w) (moved f v) (λ k.
          (k.generation ≡ w.numbered) × (is_vacant k.slot (moved f w).components ≡ true) × MatchOption (kind_of name) ⊥ (λ kind. ClosesTo (with_new_component k kind (moved f w)) (moved f v)))
      go None m = (m.0, ap (moved f) m.1)
      go (Some e) m = (m.0, ap (moved f) m.1)

  pub attach_goes : (w : World) (h : Handle) (file : Offered) (r : Result (Unit {0}) OmxError) (v : World) → Attach w h file r v → Attach (moved f w) (moved_handle f h) file r (moved f v)
  attach_goes w h file r v R = resolving_moved f plain (λ x. x) w v r r (stays r) h
      (λ i c. Answers (attach_refusal c file) r w v (λ _. ClosesTo (with_file i c file w) v))
      (λ i c. Answers (attach_refusal c file) r (moved f w) (moved f v) (λ _. ClosesTo (with_file i c file (moved f w)) (moved f v)))
      (λ i c A. answers_moved f plain (λ x. x) w v r r (stays r) (attach_refusal (moved_component f c) file) (attach_refusal c file)
      (λ _. ClosesTo (with_file i c file w) v) (λ _. ClosesTo (with_file i (moved_component f c) file (moved f w)) (moved f v)) refl
      (λ x C. closes_from f (with_file i (moved_component f c) file (moved f w)) (with_file i c file w) v (filed i c) C) A) R
    where
      filed : (i : ℕ) (c : Component) → with_file i (moved_component f c) file (moved f w) ≡ moved f (with_file i c file w)
      filed i c =
          let a = component_put f i (record (moved_component f c) { file = Some (attached file) }) (record c { file = Some (attached file) }) w refl in
          λ j. with_stream (number_of c) (stream_with file) (a j)

  -- ---- a component is freed

  free_refused : (headers : Seen) (c : Component) → free_refusal headers (moved_component f c) ≡ free_refusal headers c
  free_refused headers c =
      let a = all_ports f c (has_no_header headers) (has_no_header headers) (λ p. refl) in
      let b = any_ports f c is_joined is_joined (λ p. refl) in
      λ j. first_of_these ((any_of (not (is_loaded c.state || is_invalid c.state) ∷ is_some c.pending ∷ not (a j) ∷ b j ∷ is_some c.work ∷ c.client_out ∷ []), errors.IncorrectStateOperation) ∷ [])

  removed_moved : (i : ℕ) (c : Component) (w : World) → without_component i (moved_component f c) (moved f w) ≡ moved f (without_component i c w)
  removed_moved i c w = let a = map_remove (moved_component f) w.components i in λ j. record (moved f (without_component i c w)) { components = a j }

  pub free_goes : (w : World) (h : Handle) (r : Result (Option Attached) OmxError) (v : World) → FreeHandle w h r v → FreeHandle (moved f w) (moved_handle f h) r (moved f v)
  free_goes w h r v R = resolving_moved f plain (λ x. x) w v r r (stays r) h
      (λ i c. Answers (free_refusal (look w).headers c) r w v (λ file. (file ≡ c.file) × ClosesTo (without_component i c w) v))
      (λ i c. Answers (free_refusal (look (moved f w)).headers c) r (moved f w) (moved f v) (λ file. (file ≡ c.file) × ClosesTo (without_component i c (moved f w)) (moved f v)))
      (λ i c A. answers_moved f plain (λ x. x) w v r r (stays r) (free_refusal (look (moved f w)).headers (moved_component f c)) (free_refusal (look w).headers c)
      (λ file. (file ≡ c.file) × ClosesTo (without_component i c w) v) (λ file. (file ≡ c.file) × ClosesTo (without_component i (moved_component f c) (moved f w)) (moved f v))
      (ap (λ (s : Seen). free_refusal s (moved_component f c)) (seen_moved f w.headers) ∙ free_refused (seen w.headers) c)
      (λ x C. (C.0, closes_from f (without_component i (moved_component f c) (moved f w)) (without_component i c w) v (removed_moved i c w) C.1)) A) R

  -- ---- tunnels

  of_both : (o u : Option Port) (t s : Port → Port → Bool) → ((a b : Port) → t (moved_port f a) (moved_port f b) ≡ s a b)
      → holds_of_both (option_map (moved_port f) o) (option_map (moved_port f) u) t ≡ holds_of_both o u s
  of_both None u t s same = refl
  of_both (Some a) None t s same = refl
  of_both (Some a) (Some b) t s same = same a b

  both_there : (o u : Option Port) (Then Else : Port → Port → Type 0) → ((a b : Port) → Then a b → Else (moved_port f a) (moved_port f b))
      → BothPorts o u Then → BothPorts (option_map (moved_port f) o) (option_map (moved_port f) u) Else
  both_there None u Then Else goes h = h
  both_there (Some a) None Then Else goes h = h
  both_there (Some a) (Some b) Then Else goes h = goes a b h

  module _ (w v : World) (output input : PortId) where
    setup_refused : (c d : Component)
        → setup_refusal (look (moved f w)).headers (moved_component f c) (moved_component f d) (port_of (moved_component f c) output.index) (port_of (moved_component f d) input.index)
        ≡ setup_refusal (look w).headers c d (port_of c output.index) (port_of d input.index)
    setup_refused c d =
        let p = port_of c output.index in
        let q = port_of d input.index in
        let a = of_both p q are_output_and_input are_output_and_input (λ x y. refl) in
        let b = same_moved f c.handle d.handle in
        let e = holds_moved (moved_port f) (is_fixed (seen w.headers) (moved_component f c)) (is_fixed (seen w.headers) c) p (λ x. refl) in
        let g = holds_moved (moved_port f) (is_fixed (seen w.headers) (moved_component f d)) (is_fixed (seen w.headers) d) q (λ x. refl) in
        let k = of_both p q (λ x y. same_format x.setting.definition.format y.setting.definition.format) (λ x y. same_format x.setting.definition.format y.setting.definition.format) (λ x y. refl) in
        (λ j. setup_refusal (seen_moved f w.headers j) (moved_component f c) (moved_component f d) (port_moved f c output.index j) (port_moved f d input.index j))
        ∙ (λ j. first_of_these
        ((is_invalid c.state || is_invalid d.state, errors.InvalidState)
        ∷ (not (a j), errors.BadPortIndex)
        ∷ (b j, errors.BadParameter)
        ∷ (e j || g j, errors.IncorrectStateOperation)
        ∷ (not (k j), errors.PortsNotCompatible)
        ∷ []))

    joined_moved : (supplier : Supplier) (p q : Port) (c : Component) → joined_to (moved_port f q) supplier (moved_port f p) (moved_component f c) ≡ moved_component f (joined_to q supplier p c)
    joined_moved supplier p q c =
        let s : PortState = record p.state { link = Some (record { peer = q.key; supplier = supplier }) } in
        port_put f p.key.port (moved_state f s) s (record c { settings = with_setting p.key.port (widened p q) c.settings }) refl

    both_joined_moved : (supplier : Supplier) (i : ℕ) (c : Component) (p : Port) (j : ℕ) (d : Component) (q : Port)
        → both_joined supplier i (moved_component f c) (moved_port f p) j (moved_component f d) (moved_port f q) (moved f w) ≡ moved f (both_joined supplier i c p j d q w)
    both_joined_moved supplier i c p j d q =
        ap (λ (u : World). with_component j (joined_to (moved_port f p) supplier (moved_port f q) (moved_component f d)) u)
        (component_put f i (joined_to (moved_port f q) supplier (moved_port f p) (moved_component f c)) (joined_to q supplier p c) w (joined_moved supplier p q c))
        ∙ component_put f j (joined_to (moved_port f p) supplier (moved_port f q) (moved_component f d)) (joined_to p supplier q d) (with_component i (joined_to q supplier p c) w) (joined_moved supplier q p d)

    pub setup_goes : (r : Result Supplier OmxError) → SetupTunnel w output input r v → SetupTunnel (moved f w) (moved_id f output) (moved_id f input) r (moved f v)
    setup_goes r S = resolving_moved f plain (λ x. x) w v r r (stays r) output.handle _ _
        (λ i c R. resolving_moved f plain (λ x. x) w v r r (stays r) input.handle
        (λ j d. Answers (setup_refusal (look w).headers c d (port_of c output.index) (port_of d input.index)) r w v (λ supplier. BothPorts (port_of c output.index) (port_of d input.index) (λ a b.
        (supplier ≡ agreed_of a b) × ClosesTo (both_joined supplier i c a j d b w) v)))
        (λ j d. Answers (setup_refusal (look (moved f w)).headers (moved_component f c) d (port_of (moved_component f c) output.index) (port_of d input.index)) r (moved f w) (moved f v)
        (λ supplier. BothPorts (port_of (moved_component f c) output.index) (port_of d input.index) (λ a b.
        (supplier ≡ agreed_of a b) × ClosesTo (both_joined supplier i (moved_component f c) a j d b (moved f w)) (moved f v))))
        (λ j d A. answers_moved f plain (λ x. x) w v r r (stays r) _ _ _ _ (setup_refused c d)
        (λ supplier B. subst (λ (o : Option Port). BothPorts o (port_of (moved_component f d) input.index) (λ a b. (supplier ≡ agreed_of a b) × ClosesTo (both_joined supplier i (moved_component f c) a j (moved_component f d) b (moved f w)) (moved f v)))
        (sym (port_moved f c output.index))
        (subst (λ (o : Option Port). BothPorts (option_map (moved_port f) (port_of c output.index)) o (λ a b. (supplier ≡ agreed_of a b) × ClosesTo (both_joined supplier i (moved_component f c) a j (moved_component f d) b (moved f w)) (moved f v)))
        (sym (port_moved f d input.index))
        (both_there (port_of c output.index) (port_of d input.index) _ _
        (λ a b h. (h.0, closes_from f _ (both_joined supplier i c a j d b w) v (both_joined_moved supplier i c a j d b) h.1)) B))) A) R) S

    drop_refused : (c d : Component)
        → drop_refusal (look (moved f w)).headers (port_of (moved_component f c) output.index) (port_of (moved_component f d) input.index)
        ≡ drop_refusal (look w).headers (port_of c output.index) (port_of d input.index)
    drop_refused c d =
        let p = port_of c output.index in
        let q = port_of d input.index in
        let a = of_both p q are_output_and_input are_output_and_input (λ x y. refl) in
        let b = of_both p q is_joined_with is_joined_with (λ x y. refl) in
        let e = holds_moved (moved_port f) (has_no_header (seen w.headers)) (has_no_header (seen w.headers)) p (λ x. refl) in
        let g = holds_moved (moved_port f) (has_no_header (seen w.headers)) (has_no_header (seen w.headers)) q (λ x. refl) in
        (λ j. drop_refusal (seen_moved f w.headers j) (port_moved f c output.index j) (port_moved f d input.index j))
        ∙ (λ j. first_of_these
        ((not (a j), errors.BadPortIndex)
        ∷ (not (b j), errors.BadParameter)
        ∷ (not (e j) || not (g j), errors.IncorrectStateOperation)
        ∷ []))

    parted_moved : (p : Port) (c : Component) → parted (moved_port f p) (moved_component f c) ≡ moved_component f (parted p c)
    parted_moved p c = let s : PortState = record p.state { link = None } in port_put f p.key.port (moved_state f s) s c refl

    both_parted_moved : (i : ℕ) (c : Component) (p : Port) (j : ℕ) (d : Component) (q : Port)
        → both_parted i (moved_component f c) (moved_port f p) j (moved_component f d) (moved_port f q) (moved f w) ≡ moved f (both_parted i c p j d q w)
    both_parted_moved i c p j d q =
        ap (λ (u : World). with_component j (parted (moved_port f q) (moved_component f d)) u)
        (component_put f i (parted (moved_port f p) (moved_component f c)) (parted p c) w (parted_moved p c))
        ∙ component_put f j (parted (moved_port f q) (moved_component f d)) (parted q d) (with_component i (parted p c) w) (parted_moved q d)

    pub drop_goes : (r : Result (Unit {0}) OmxError) → DropTunnel w output input r v → DropTunnel (moved f w) (moved_id f output) (moved_id f input) r (moved f v)
    drop_goes r S = resolving_moved f plain (λ x. x) w v r r (stays r) output.handle _ _
        (λ i c R. resolving_moved f plain (λ x. x) w v r r (stays r) input.handle
        (λ j d. Answers (drop_refusal (look w).headers (port_of c output.index) (port_of d input.index)) r w v (λ _. BothPorts (port_of c output.index) (port_of d input.index) (λ a b.
        ClosesTo (both_parted i c a j d b w) v)))
        (λ j d. Answers (drop_refusal (look (moved f w)).headers (port_of (moved_component f c) output.index) (port_of d input.index)) r (moved f w) (moved f v)
        (λ _. BothPorts (port_of (moved_component f c) output.index) (port_of d input.index) (λ a b.
        ClosesTo (both_parted i (moved_component f c) a j d b (moved f w)) (moved f v))))
        (λ j d A. answers_moved f plain (λ x. x) w v r r (stays r) _ _ _ _ (drop_refused c d)
        (λ x B. subst (λ (o : Option Port). BothPorts o (port_of (moved_component f d) input.index) (λ a b. ClosesTo (both_parted i (moved_component f c) a j (moved_component f d) b (moved f w)) (moved f v)))
        (sym (port_moved f c output.index))
        (subst (λ (o : Option Port). BothPorts (option_map (moved_port f) (port_of c output.index)) o (λ a b. ClosesTo (both_parted i (moved_component f c) a j (moved_component f d) b (moved f w)) (moved f v)))
        (sym (port_moved f d input.index))
        (both_there (port_of c output.index) (port_of d input.index) _ _
        (λ a b h. closes_from f _ (both_parted i c a j d b w) v (both_parted_moved i c a j d b) h) B))) A) R) S
