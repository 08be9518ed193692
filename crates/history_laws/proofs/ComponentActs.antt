-- The acts on components, parameters, tunnels and commands: none of them tells a completion or moves a header.
use Rattle.std.proofs.Common.{◌≡◌, inl, inr, ℕ, true, false, not, ◌||◌, nat_eq, List, [], ◌∷◌, ◌++◌, set, slice_get, Option, Some, None, is_some, Result, MatchOption, refl, sym, ◌∙◌, ap}
use Rattle.std.specs.List.{list_any}
use Rattle.std.proofs.lemmas.Bool.{cases_eq}
use Rattle.omx_types.specs.declared.state.State.{State}
use Rattle.omx_types.specs.declared.state.State.TheVariants.{Invalid, Loaded, Idle, Executing, Pause, WaitForResources}
use Rattle.omx_types.specs.declared.handle.Handle.{Handle}
use Rattle.omx_types.specs.declared.handle.PortId.{PortId}
use Rattle.omx_types.specs.declared.command.Command.{Command}
use Rattle.omx_types.specs.declared.command.Command.TheVariants as commands
use Rattle.omx_types.specs.declared.command.Event.TheVariants.{Error}
use Rattle.omx_types.specs.declared.error.OmxError.{OmxError}
use Rattle.omx_types.specs.declared.error.OmxError.TheVariants as errors
use Rattle.omx_types.specs.declared.error.CallError.{CallError}
use Rattle.omx_types.specs.declared.param.Param.{Param}
use Rattle.omx_types.specs.declared.param.ParamKey.{ParamKey}
use Rattle.omx_types.specs.declared.param.Supplier.{Supplier}
use Rattle.part_api.specs.declared.attached.Attached.{Attached}
use Rattle.il_machine.specs.declared.answer.Acted.{Acted}
use Rattle.il_machine.specs.States.{is_loaded, is_invalid, is_running}
use Rattle.il_machine.specs.World.{changed_at, Component, Work, World, number_of, place_of, fresh, with_component, ports_of, port_of, told}
use Rattle.il_machine.specs.Headers.{Seen}
use Rattle.il_machine.specs.Ports.{is_joined, has_no_header}
use Rattle.il_machine.specs.Look.{Look, look}
use Rattle.il_machine.specs.Due.{each_port, ClosesTo}
use Rattle.il_machine.specs.Answers.{plain}
use Rattle.il_machine.specs.Kinds.{kind_of}
use Rattle.il_machine.specs.Components.{GetHandle, FreeHandle, get_handle_refusal, free_refusal, is_vacant, with_new_component, without_component}
use Rattle.il_machine.specs.Parameters.{is_settable, SetParameter, SetConfig, set_parameter_refusal, set_config_refusal, unheld_at, with_value}
use Rattle.il_machine.specs.Settings.{changed_by}
use Rattle.il_machine.specs.Tunnels.{SetupTunnel, DropTunnel, setup_refusal, drop_refusal, BothPorts, agreed_of, both_joined, both_parted, joined_to, parted}
use Rattle.il_machine.specs.Commands.{SendCommand, RunCommand, send_refusal, sent, is_at_once, invalidated, run_idle, run_front, carried_out, begun, state_fault}
use Rattle.il_machine.specs.Notes.{EndNote, back_in}
use Rattle.il_machine.specs.declared.answer.Progress.{Progress}
use Rattle.il_machine.specs.declared.port.Port.{Port}
use Rattle.il_machine.specs.Acts as acts
use Rattle.il_machine.specs.Effect.{at_named, at_both, effect}
use Rattle.il_machine.specs.Sound.{Sound}
use Rattle.machine_laws.proofs.Finding.{either}
use Rattle.machine_laws.proofs.Keys.{there_is}
use Rattle.machine_laws.proofs.Every.{set_there, set_else}
use Rattle.machine_laws.proofs.Accepting.{passed, not_either}
use Rattle.machine_laws.proofs.Change.{out_there}
use Rattle.history_laws.proofs.Growth.{Grows, grows_not, grows_on, fails}
use Rattle.history_laws.proofs.Quiet.{Quiet, KeepsState, SameState, Nothing as Silent, quiet_as, quiet_set, quiet_on, set_named}
use Rattle.history_laws.proofs.Births.{silent_set, silent_twice, silent_push, silent_removed}
use Rattle.history_laws.proofs.Carried.{Carried, Still}
use Rattle.history_laws.proofs.Out.{IsStillOut, works_set, works_twice, works_pushed, works_removed}
use Rattle.history_laws.proofs.StillOut.{still_set, still_configured, still_joined, still_parted, still_sent, still_run, still_back}
use Rattle.history_laws.proofs.Outcome.{Turn, Outcome, done, answers, answers_or_memory, acts as acts_come, resolving}

-- no header is moved
abbrev pub unmoving : World → Turn
unmoving after = record { moves = []; back = None; after = after }

-- what is there, for the effect of an act
found_is : {T : Type 0} (o : Option T) (x : T) (w : World) (change : T → World) → o ≡ Some x → changed_at o w change ≡ change x
found_is o x w change e = rw e refl

-- what the handle names, for the effect of an act
pub named_is : (w : World) (h : Handle) (i : ℕ) (c : Component) (change : ℕ → Component → World) → place_of h w.components ≡ Some i → slice_get w.components i ≡ Some c → at_named h w change ≡ change i c
named_is w h i c change p t = rw (p, t) refl

still : (w v : World) → v.headers ≡ w.headers → v.made ≡ w.made → Carried w [] v
still w v h m = Still (record { headers = h; made = m; moves = refl })

-- one component gives way to another, and the close-out follows
pub one_changed : (w v after : World) (i : ℕ) (c d : Component) → after ≡ with_component i d w → slice_get w.components i ≡ Some c → Grows Silent c d → KeepsState c d → (is_some c.work ≡ true → IsStillOut c d) → ClosesTo (with_component i d w) v → Outcome w (unmoving after) v
one_changed w v after i c d is at G k K C = done w v (unmoving after) (with_component i d w) is C (record {
  silent = silent_set i w (with_component i d w) c d at refl refl refl G k;
  carried = still w (with_component i d w) refl refl;
  works = works_set None i w (with_component i d w) c d at refl refl G.number K;
})

-- ---- handles

pub get_handle : (w : World) (name : List ℕ) (result : Result Handle CallError) (v : World) → Sound w → GetHandle w name result v → Outcome w (unmoving (effect w (acts.GetHandle name) (acts.Got result))) v
get_handle w name result v S a = answers_or_memory (get_handle_refusal (look w) name) result w v (λ r. unmoving (effect w (acts.GetHandle name) (acts.Got r)))
    (λ h. (h.generation ≡ w.numbered) × (is_vacant h.slot w.components ≡ true) × MatchOption (kind_of name) ⊥ (λ kind. ClosesTo (with_new_component h kind w) v))
    (λ e. refl) a
    (λ n h e x.
    let k = there_is (kind_of name) (λ kind. ClosesTo (with_new_component h kind w) v) x.2 in
    let mid = with_new_component h k.0 w in
    let is : changed_at (kind_of name) w (λ kind. with_new_component h kind w) ≡ mid = found_is (kind_of name) k.0 w (λ kind. with_new_component h kind w) k.1 in
    done w v _ mid is k.2 (record { silent = silent_push w mid (fresh h k.0) refl refl refl x.0 refl; carried = still w mid refl refl; works = works_pushed w mid (fresh h k.0) S.rising refl refl }))

-- a component that is freed has no work out
freed_without : (headers : Seen) (c : Component) → free_refusal headers c ≡ None → is_some c.work ≡ false
freed_without headers c h =
    let a = (passed (not (is_loaded c.state || is_invalid c.state) || (is_some c.pending || (not (each_port c (has_no_header headers)) || (list_any is_joined (ports_of c) || (is_some c.work || (c.client_out || false)))))) _ _ h).0 in
    let b = not_either (not (is_loaded c.state || is_invalid c.state)) _ a in
    let d = not_either (is_some c.pending) _ b.1 in
    let e = not_either (not (each_port c (has_no_header headers))) _ d.1 in
    let f = not_either (list_any is_joined (ports_of c)) _ e.1 in
    (not_either (is_some c.work) _ f.1).0

pub free_handle : (w : World) (h : Handle) (result : Result (Option Attached) OmxError) (v : World) → Sound w → FreeHandle w h result v → Outcome w (unmoving (effect w (acts.FreeHandle h) (acts.Removed result))) v
free_handle w h result v S a = let ms : Result (Option Attached) OmxError → Turn = λ r. unmoving (effect w (acts.FreeHandle h) (acts.Removed r)) in resolving plain w h result v _ a ms (λ e. refl) (λ i c named b.
    answers (free_refusal (look w).headers c) result w v ms (λ x. (x ≡ c.file) × ClosesTo (without_component i c w) v) (λ e. refl) b (λ n x e C.
    let mid = without_component i c w in
    done w v _ mid (named_is w h i c (λ i c. without_component i c w) named.place named.there) C.1 (record { silent = silent_removed i w mid c S.rising named.there refl refl refl; carried = still w mid refl refl; works = works_removed i w mid c S.rising named.there (freed_without (look w).headers c n) refl refl })))

-- ---- parameters

record IsSeated (c d : Component) : Type 0 where
  number : number_of d ≡ number_of c
  notes : d.notes ≡ c.notes
  state : d.state ≡ c.state

unheld_kept : (o : Option Port) (c : Component) → IsSeated c (unheld_at o c)
unheld_kept None c = record { number = refl; notes = refl; state = refl }
unheld_kept (Some p) c = record { number = refl; notes = refl; state = refl }

value_kept : (key : ParamKey) (value : Param) (c : Component) → IsSeated c (with_value key value c)
value_kept key value c = either (nat_eq key.index 1)
    (λ t. let K = unheld_kept (port_of c key.port) (record c { settings = changed_by key.port value c.settings }) in rw t (record { number = K.number; notes = K.notes; state = K.state }))
    (λ f. rw f (record { number = refl; notes = refl; state = refl }))

-- one with its work out runs or is Invalid
pub unsettable : (w : World) (i : ℕ) (c : Component) → Sound w → slice_get w.components i ≡ Some c → is_some c.work ≡ true → is_settable c ≡ false
unsettable w i c S t o = by_work c.work refl o
  where
    by_state : (s : State) → (is_running s || is_invalid s) ≡ true → is_loaded s ≡ false
    by_state Invalid h = refl
    by_state Loaded h = absurd cc
    by_state Idle h = refl
    by_state Executing h = refl
    by_state Pause h = refl
    by_state WaitForResources h = refl

    by_work : (x : Option Work) → c.work ≡ x → is_some x ≡ true → is_settable c ≡ false
    by_work None e h = absurd cc
    by_work (Some work) e h = rw (by_state c.state (out_there w i c S t work e)) refl

pub set_parameter : (w : World) (h : Handle) (key : ParamKey) (value : Param) (result : Result (Unit {0}) OmxError) (v : World) → Sound w → SetParameter w h key value result v → Outcome w (unmoving (effect w (acts.SetParameter h key value) (acts.Plain result))) v
set_parameter w h key value result v S a = let ms : Result (Unit {0}) OmxError → Turn = λ r. unmoving (effect w (acts.SetParameter h key value) (acts.Plain r)) in resolving plain w h result v _ a ms (λ e. refl) (λ i c named b.
    answers (set_parameter_refusal (look w).headers c key value) result w v ms (λ x. ClosesTo (with_component i (with_value key value c) w) v) (λ e. refl) b
    (λ n x e C. one_changed w v _ i c (with_value key value c) (named_is w h i c (λ i c. with_component i (with_value key value c) w) named.place named.there) named.there (grows_not Silent c (with_value key value c) (value_kept key value c).number (value_kept key value c).notes) (inl (value_kept key value c).state) (λ o. still_set (look w).headers c key value n (unsettable w i c S named.there o)) C))

pub set_config : (w : World) (h : Handle) (key : ParamKey) (value : Param) (result : Result (Unit {0}) OmxError) (v : World) → SetConfig w h key value result v → Outcome w (unmoving (effect w (acts.SetConfig h key value) (acts.Plain result))) v
set_config w h key value result v a = let ms : Result (Unit {0}) OmxError → Turn = λ r. unmoving (effect w (acts.SetConfig h key value) (acts.Plain r)) in resolving plain w h result v _ a ms (λ e. refl) (λ i c named b.
    answers (set_config_refusal c key value) result w v ms (λ x. ClosesTo (with_component i (with_value key value c) w) v) (λ e. refl) b
    (λ n x e C. one_changed w v _ i c (with_value key value c) (named_is w h i c (λ i c. with_component i (with_value key value c) w) named.place named.there) named.there (grows_not Silent c (with_value key value c) (value_kept key value c).number (value_kept key value c).notes) (inl (value_kept key value c).state) (λ o. still_configured c key value n) C))

-- ---- tunnels

-- the second component, where the first gave way already: it may be the same one
record IsOther (cs : List Component) (j : ℕ) (d : Component) : Type 0 where
  component : Component
  there : slice_get cs j ≡ Some component
  number : number_of component ≡ number_of d
  notes : component.notes ≡ d.notes
  state : component.state ≡ d.state

other_there : (i j : ℕ) (cs : List Component) (c c' d : Component) → slice_get cs i ≡ Some c → slice_get cs j ≡ Some d → number_of c' ≡ number_of c → c'.notes ≡ c.notes → c'.state ≡ c.state → IsOther (set cs i c') j d
other_there i j cs c c' d at bt n o s = elim (cases_eq j i) [
  | inl e ↦
      let both : Some c ≡ Some d = sym at ∙ (rw (← e) bt) in
      let is : c ≡ d = cc in
      record {
        component = c';
        there = rw e (set_there cs i c c' at);
        number = n ∙ ap number_of is;
        notes = o ∙ ap (λ (x : Component). x.notes) is;
        state = s ∙ ap (λ (x : Component). x.state) is;
      }
  | inr a ↦ record { component = d; there = set_else cs i j c' a ∙ bt; number = refl; notes = refl; state = refl }
]

-- both components give way to others that differ in settings and links alone
both_changed : (w v : World) (i j : ℕ) (c d c' d' : Component) → slice_get w.components i ≡ Some c → slice_get w.components j ≡ Some d
    → number_of c' ≡ number_of c → c'.notes ≡ c.notes → c'.state ≡ c.state → number_of d' ≡ number_of d → d'.notes ≡ d.notes → d'.state ≡ d.state
    → Sound w → IsStillOut c c' → IsStillOut d d' → ClosesTo (with_component j d' (with_component i c' w)) v → (after : World) → after ≡ with_component j d' (with_component i c' w) → Outcome w (unmoving after) v
both_changed w v i j c d c' d' at bt n1 o1 s1 n2 o2 s2 S A B C after is =
    let m = with_component i c' w in
    let mid = with_component j d' m in
    let first : Quiet SameState w m = quiet_set SameState i w m c c' (λ x. refl) at refl refl (grows_not Silent c c' n1 o1) s1 in
    let other = other_there i j w.components c c' d at bt n1 o1 s1 in
    let second : Quiet SameState m mid =
    quiet_set SameState j m mid other.component d' (λ x. refl) other.there refl refl (grows_not Silent other.component d' (n2 ∙ sym other.number) (o2 ∙ sym other.notes)) (s2 ∙ sym other.state) in
    let both : Quiet KeepsState w mid = quiet_as SameState KeepsState w mid (λ x y e. inl e) (quiet_on w m mid (set_named i w.components c c' at n1) first second) in
    done w v (unmoving after) mid is C (record {
      silent = silent_twice i j w mid c c' other.component d' both at n1 other.there (n2 ∙ sym other.number) refl refl refl;
      carried = still w mid refl refl;
      works = works_twice i j w mid c c' d d' S.rising at bt n1 n2 refl refl A B;
    })

-- the two ports that handles and indices name
both_named : (w : World) (g h : Handle) (i j : ℕ) (c d : Component) (m n : ℕ) (p q : Port) (change : ℕ → Component → Port → ℕ → Component → Port → World)
    → place_of g w.components ≡ Some i → slice_get w.components i ≡ Some c → place_of h w.components ≡ Some j → slice_get w.components j ≡ Some d → port_of c m ≡ Some p → port_of d n ≡ Some q
    → at_named g w (λ i c. at_named h w (λ j d. at_both (port_of c m) (port_of d n) w (λ p q. change i c p j d q))) ≡ change i c p j d q
both_named w g h i j c d m n p q change a b x y e f =
    named_is w g i c (λ i c. at_named h w (λ j d. at_both (port_of c m) (port_of d n) w (λ p q. change i c p j d q))) a b
    ∙ (named_is w h j d (λ j d. at_both (port_of c m) (port_of d n) w (λ p q. change i c p j d q)) x y ∙ (rw (e, f) refl))

pub setup_tunnel : (w : World) (output input : PortId) (result : Result Supplier OmxError) (v : World) → Sound w → SetupTunnel w output input result v → Outcome w (unmoving (effect w (acts.SetupTunnel output input) (acts.Joined result))) v
setup_tunnel w output input result v S a =
    let ms : Result Supplier OmxError → Turn = λ r. unmoving (effect w (acts.SetupTunnel output input) (acts.Joined r)) in
    resolving plain w output.handle result v _ a ms (λ e. refl) (λ i c first b.
    resolving plain w input.handle result v _ b ms (λ e. refl) (λ j d second x.
    answers (setup_refusal (look w).headers c d (port_of c output.index) (port_of d input.index)) result w v ms
    (λ supplier. BothPorts (port_of c output.index) (port_of d input.index) (λ p q. (supplier ≡ agreed_of p q) × ClosesTo (both_joined supplier i c p j d q w) v)) (λ e. refl) x
    (λ n supplier e y.
    let p = there_is (port_of c output.index) _ y in
    let q = there_is (port_of d input.index) _ p.2 in
    both_changed w v i j c d (joined_to q.0 supplier p.0 c) (joined_to p.0 supplier q.0 d) first.there second.there refl refl refl refl refl refl S (still_joined q.0 supplier output.index p.0 c p.1) (still_joined p.0 supplier input.index q.0 d q.1) (q.2).1 _
    (both_named w output.handle input.handle i j c d output.index input.index p.0 q.0 (λ i c p j d q. both_joined supplier i c p j d q w) first.place first.there second.place second.there p.1 q.1))))

pub drop_tunnel : (w : World) (output input : PortId) (result : Result (Unit {0}) OmxError) (v : World) → Sound w → DropTunnel w output input result v → Outcome w (unmoving (effect w (acts.DropTunnel output input) (acts.Plain result))) v
drop_tunnel w output input result v S a =
    let ms : Result (Unit {0}) OmxError → Turn = λ r. unmoving (effect w (acts.DropTunnel output input) (acts.Plain r)) in
    resolving plain w output.handle result v _ a ms (λ e. refl) (λ i c first b.
    resolving plain w input.handle result v _ b ms (λ e. refl) (λ j d second x.
    answers (drop_refusal (look w).headers (port_of c output.index) (port_of d input.index)) result w v ms
    (λ _. BothPorts (port_of c output.index) (port_of d input.index) (λ p q. ClosesTo (both_parted i c p j d q w) v)) (λ e. refl) x
    (λ n _ e y.
    let p = there_is (port_of c output.index) _ y in
    let q = there_is (port_of d input.index) _ p.2 in
    both_changed w v i j c d (parted p.0 c) (parted q.0 d) first.there second.there refl refl refl refl refl refl S (still_parted output.index p.0 c p.1) (still_parted input.index q.0 d q.1) q.2 _
    (both_named w output.handle input.handle i j c d output.index input.index p.0 q.0 (λ i c p j d q. both_parted i c p j d q w) first.place first.there second.place second.there p.1 q.1))))

-- ---- commands

sent_grows : (command : Command) (c : Component) → Grows Silent c (sent command c)
sent_grows command c = either (is_at_once command)
    (λ t. rw t (grows_on Silent c (invalidated c) (told (Error errors.InvalidState) (invalidated c)) (grows_not Silent c (invalidated c) refl refl) (fails Silent errors.InvalidState (invalidated c))))
    (λ f. rw f (grows_not Silent c (record c { commands = c.commands ++ command ∷ [] }) refl refl))

sent_keeps : (command : Command) (c : Component) → KeepsState c (sent command c)
sent_keeps command c = either (is_at_once command) (λ t. rw t (inr (refl, refl))) (λ f. rw f (inl refl))

pub send_command : (w : World) (h : Handle) (command : Command) (result : Result (Unit {0}) OmxError) (v : World) → SendCommand w h command result v → Outcome w (unmoving (effect w (acts.SendCommand h command) (acts.Plain result))) v
send_command w h command result v a = let ms : Result (Unit {0}) OmxError → Turn = λ r. unmoving (effect w (acts.SendCommand h command) (acts.Plain r)) in resolving plain w h result v _ a ms (λ e. refl) (λ i c named b.
    answers (send_refusal (look w) c command) result w v ms (λ x. ClosesTo (with_component i (sent command c) w) v) (λ e. refl) b
    (λ n x e C. one_changed w v _ i c (sent command c) (named_is w h i c (λ i c. with_component i (sent command c) w) named.place named.there) named.there (sent_grows command c) (sent_keeps command c) (λ o. still_sent command c) C))

begun_grows : (fault : Option OmxError) (target : State) (c : Component) → Grows Silent c (begun fault target c)
begun_grows (Some error) target c = fails Silent error c
begun_grows None target c = grows_not Silent c (begun None target c) refl refl

begun_keeps : (fault : Option OmxError) (target : State) (c : Component) → (begun fault target c).state ≡ c.state
begun_keeps (Some error) target c = refl
begun_keeps None target c = refl

carried_grows : (l : Look) (command : Command) (c : Component) → Grows Silent c (carried_out l command c)
carried_grows l (commands.StateSet target) c = begun_grows (state_fault l c target) target c
carried_grows l (commands.Flush sel) c = grows_not Silent c _ refl refl
carried_grows l (commands.PortDisable sel) c = grows_not Silent c _ refl refl
carried_grows l (commands.PortEnable sel) c = grows_not Silent c _ refl refl
carried_grows l (commands.MarkBuffer port target value) c = grows_not Silent c _ refl refl

carried_keeps : (l : Look) (command : Command) (c : Component) → (carried_out l command c).state ≡ c.state
carried_keeps l (commands.StateSet target) c = begun_keeps (state_fault l c target) target c
carried_keeps l (commands.Flush sel) c = refl
carried_keeps l (commands.PortDisable sel) c = refl
carried_keeps l (commands.PortEnable sel) c = refl
carried_keeps l (commands.MarkBuffer port target value) c = refl

front_grows : (l : Look) (cs : List Command) (c : Component) → Grows Silent c (run_front l cs c)
front_grows l [] c = grows_not Silent c c refl refl
front_grows l (command ∷ rest) c =
    let d : Component = record c { commands = rest } in
    grows_on Silent c d (carried_out l command d) (grows_not Silent c d refl refl) (carried_grows l command d)

front_keeps : (l : Look) (cs : List Command) (c : Component) → (run_front l cs c).state ≡ c.state
front_keeps l [] c = refl
front_keeps l (command ∷ rest) c = carried_keeps l command (record c { commands = rest })

pub run_command : (w : World) (h : Handle) (result : Result Acted OmxError) (v : World) → RunCommand w h result v → Outcome w (unmoving (effect w (acts.RunCommand h) (acts.Acted result))) v
run_command w h result v a = let ms : Result Acted OmxError → Turn = λ r. unmoving (effect w (acts.RunCommand h) (acts.Acted r)) in resolving plain w h result v _ a ms (λ e. refl) (λ i c named b.
    acts_come (run_idle c c.commands) result w (with_component i (run_front (look w) c.commands c) w) v ms (λ y. refl) b
    (λ n C. one_changed w v _ i c (run_front (look w) c.commands c) (named_is w h i c (λ i c. with_component i (run_front (look w) c.commands c) w) named.place named.there) named.there (front_grows (look w) c.commands c) (inl (front_keeps (look w) c.commands c)) (λ o. still_run (look w) c.commands c) C))

-- ---- the client object comes back

pub end_note : (w : World) (h : Handle) (progress : Progress) (v : World) → EndNote w h v → Outcome w (unmoving (effect w (acts.EndNote h progress) acts.Ended)) v
end_note w h progress v a =
    let i = there_is (place_of h w.components) _ a in
    let c = there_is (slice_get w.components i.0) _ i.2 in
    one_changed w v _ i.0 c.0 (back_in c.0) (named_is w h i.0 c.0 (λ i c. with_component i (back_in c) w) i.1 c.1) c.1 (grows_not Silent c.0 (back_in c.0) refl refl) (inl refl) (λ o. still_back c.0) c.2
