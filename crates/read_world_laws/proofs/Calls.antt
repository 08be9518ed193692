-- What a call does it does without the faults, too; where it does nothing, that is nothing.
use Rattle.std.proofs.Common.{◌≡◌, ◌⊎◌, inl, inr, ℕ, ◌+◌, ◌-◌, ◌≤◌, Bool, true, false, not, ◌&&◌, ◌||◌, nat_eq, nat_le, nat_lt, if◌then◌else◌, List, [], ◌∷◌, ◌++◌, length, map, slice_get, sum_by, is_some, is_none, lt-ltb, ltb-true, arith, Option, Some, None, MatchOption, Result, Ok, Err, refl, sym, ◌∙◌, ap, subst}
use Rattle.std.specs.Prelude.{filter}
use Rattle.std.proofs.lemmas.List.Sums.{sum_by-cons}
use Rattle.omx_types.specs.declared.command.Command.{Command}
use Rattle.omx_types.specs.declared.command.Command.TheVariants as commands
use Rattle.omx_types.specs.declared.command.Event.TheVariants.{Error}
use Rattle.omx_types.specs.declared.command.Note.TheVariants.{Told}
use Rattle.omx_types.specs.declared.command.PortSel.{PortSel}
use Rattle.omx_types.specs.declared.command.PortSel.TheVariants as sels
use Rattle.omx_types.specs.declared.error.OmxError.{OmxError}
use Rattle.omx_types.specs.declared.error.OmxError.TheVariants as errors
use Rattle.omx_types.specs.declared.handle.Handle.{Handle}
use Rattle.omx_types.specs.declared.state.State.{State}
use Rattle.omx_types.specs.declared.state.State.TheVariants as states
use Rattle.il_machine.specs.declared.answer.Acted.{Acted}
use Rattle.il_machine.specs.declared.answer.Why.{Why}
use Rattle.il_machine.specs.declared.port.Port.{Port}
use Rattle.il_machine.specs.Answers.{Acts, Answers, Resolving, plain}
use Rattle.il_machine.specs.Claims.{Claim, Claimed, ClaimedBusy, ClaimedEnded, ClaimedEvents, ClaimedNotRunning, Claims, claim_idle, data_test, held_test, is_claimable, is_output_port, reserve_for, room_test, wanted, with_work, work_of}
use Rattle.il_machine.specs.Commands.{RunCommand, SendCommand, begun, has_no_wait, invalidated, is_at_once, lacks_command_room, lacks_port, lacks_selected, lacks_target, run_front, run_idle, send_refusal, sent, state_fault}
use Rattle.il_machine.specs.Due.{ClosesTo}
use Rattle.il_machine.specs.Flow.{OnPort, Release, front_unmade, in_port, release_idle}
use Rattle.il_machine.specs.Headers.{seen}
use Rattle.il_machine.specs.Lists.{first_of_these}
use Rattle.il_machine.specs.Look.{Look, look}
use Rattle.il_machine.specs.Ports.{is_input_port}
use Rattle.il_machine.specs.Room.{cost_of, room, sel_cost, used}
use Rattle.il_machine.specs.Settings.{fits}
use Rattle.il_machine.specs.States.{is_invalid, is_lawful, is_loaded, same_state}
use Rattle.machine_laws.proofs.Rooms.{costs_same}
use Rattle.il_machine.specs.Units.{free_units, is_holder, need_of, units_held, units_of}
use Rattle.il_machine.specs.World.{Component, World, is_at, place_of, port_of, ports_of, with_component, Stream}
use Rattle.machine_laws.proofs.Finding.{either}
use Rattle.machine_laws.proofs.Keys.{there_is}
use Rattle.read_world_laws.specs.Mended.{is_fault}
use Rattle.read_world_laws.proofs.Closing.{closes_in, get_in, position_in, set_in, told_in, with_in}
use Rattle.read_world_laws.proofs.Reading.{IsFair, Reading, read, read_component, read_part}

-- ---- what a handle names, by what is found there

pub named : {T E : Type 0} (refuse : OmxError → E) (w : World) (h : Handle) (result : Result T E) (v : World) (Then : ℕ → Component → Type 0) → Resolving refuse w h result v Then
    → ((result ≡ Err (refuse errors.InvalidComponent)) × (v ≡ w)) ⊎ ((i : ℕ) × (c : Component) × (place_of h w.components ≡ Some i) × (slice_get w.components i ≡ Some c) × Then i c)
named refuse w h result v Then s = by (place_of h w.components) refl s
  where
    by : (o : Option ℕ) → place_of h w.components ≡ o → MatchOption o ((result ≡ Err (refuse errors.InvalidComponent)) × (v ≡ w)) (λ i. MatchOption (slice_get w.components i) ⊥ (Then i))
        → ((result ≡ Err (refuse errors.InvalidComponent)) × (v ≡ w)) ⊎ ((i : ℕ) × (c : Component) × (place_of h w.components ≡ Some i) × (slice_get w.components i ≡ Some c) × Then i c)
    by None e r = inl r
    by (Some i) e r = let z = there_is (slice_get w.components i) (Then i) r in inr (i, z.0, e, z.1, z.2)

-- ---- what is told of a StateSet that fails is no step's fault

abbrev AreTellable : List (Bool × OmxError) → Type 0
AreTellable [] = Unit {0}
AreTellable (x ∷ xs) = (is_fault (Told (Error x.1)) ≡ false) × AreTellable xs

first_tells : (xs : List (Bool × OmxError)) → AreTellable xs → (e : OmxError) → first_of_these xs ≡ Some e → is_fault (Told (Error e)) ≡ false
first_tells [] A e h = absurd cc
first_tells (x ∷ xs) A e h = either x.0
    (λ t.
    let s : Some x.1 ≡ Some e = sym (ap (λ (q : Bool). if q then Some x.1 else first_of_these xs) t) ∙ h in
    let is : x.1 ≡ e = cc in
    subst (λ (z : OmxError). is_fault (Told (Error z)) ≡ false) is A.0)
    (λ t. first_tells xs A.1 e (sym (ap (λ (q : Bool). if q then Some x.1 else first_of_these xs) t) ∙ h))

pub fault_tells : (l : Look) (c : Component) (target : State) (e : OmxError) → state_fault l c target ≡ Some e → is_fault (Told (Error e)) ≡ false
fault_tells l c target e h =
    let tests : List (Bool × OmxError) =
    (same_state c.state target, errors.SameState)
    ∷ (not (is_lawful c.state target), errors.IncorrectStateTransition)
    ∷ (is_loaded c.state && not (fits c.settings), errors.UnsupportedSetting)
    ∷ (is_loaded c.state && same_state target states.Idle && nat_lt (free_units l) (units_of c.settings.kind), errors.InsufficientResources)
    ∷ (same_state target states.WaitForResources && has_no_wait l, errors.InsufficientResources)
    ∷ [] in
    let A : AreTellable tests = (refl, (refl, (refl, (refl, (refl, tt))))) in
    first_tells tests A e h

module _ (reading : Reading) (fair : IsFair reading) (streams : List Stream → List Stream) where
  abbrev twin : Component → Component
  twin c = read_component reading c

  abbrev mirror : World → World
  mirror w = read reading streams w

  -- ---- what a handle names

  pub place_in : (h : Handle) (cs : List Component) → place_of h (map twin cs) ≡ place_of h cs
  place_in h cs = position_in reading fair streams (is_at h) (λ c. refl) cs

  pub resolves_in : {T E : Type 0} (refuse : OmxError → E) (w : World) (h : Handle) (result : Result T E) (v : World) (Then To : ℕ → Component → Type 0)
      → ((i : ℕ) (c : Component) → slice_get w.components i ≡ Some c → Then i c → To i (twin c)) → Resolving refuse w h result v Then → Resolving refuse (mirror w) h result (mirror v) To
  resolves_in refuse w h result v Then To f s = by (place_of h w.components) refl s
    where
      by : (o : Option ℕ) → place_of h w.components ≡ o → MatchOption o ((result ≡ Err (refuse errors.InvalidComponent)) × (v ≡ w)) (λ i. MatchOption (slice_get w.components i) ⊥ (Then i)) → Resolving refuse (mirror w) h result (mirror v) To
      by None e r = rw (place_in h w.components ∙ e) (r.0, ap mirror r.1)
      by (Some i) e r = let z = there_is (slice_get w.components i) (Then i) r in rw (place_in h w.components ∙ e, get_in reading fair streams w.components i z.0 z.1) (f i z.0 z.1 z.2)

  pub acts_in : {E : Type 0} (o : Option Why) (result : Result Acted E) (w u v : World) → Acts o result w u v → Acts o result (mirror w) (mirror u) (mirror v)
  acts_in None result w u v h = (h.0, closes_in reading fair streams u v h.1)
  acts_in (Some why) result w u v h = (h.0, ap mirror h.1)

  -- by equal answers and equal worlds
  pub acts_as : {E : Type 0} (o q : Option Why) (result : Result Acted E) (w u x v : World) → q ≡ o → x ≡ mirror u → Acts o result w u v → Acts q result (mirror w) x (mirror v)
  acts_as o q result w u x v e f h =
      subst (λ (y : Option Why). Acts y result (mirror w) x (mirror v)) (sym e) (subst (λ (y : World). Acts o result (mirror w) y (mirror v)) (sym f) (acts_in o result w u v h))

  pub answers_in : {T : Type 0} (o q : Option OmxError) (result : Result T OmxError) (w v : World) (A B : T → Type 0) → q ≡ o → ((y : T) → A y → B y) → Answers o result w v A → Answers q result (mirror w) (mirror v) B
  answers_in {T = T} o q result w v A B e f h = subst (λ (y : Option OmxError). Answers y result (mirror w) (mirror v) B) (sym e) (by o result h)
    where
      by : (o : Option OmxError) (result : Result T OmxError) → Answers o result w v A → Answers o result (mirror w) (mirror v) B
      by (Some error) r h = (h.0, ap mirror h.1)
      by None (Ok y) h = f y h
      by None (Err y) h = h

  pub on_port_in : {T E : Type 0} (refuse : OmxError → E) (w : World) (h : Handle) (port : ℕ) (result : Result T E) (v : World) (Then To : ℕ → Component → Port → Type 0)
      → ((i : ℕ) (c : Component) (p : Port) → slice_get w.components i ≡ Some c → Then i c p → To i (twin c) p) → OnPort refuse w h port result v Then → OnPort refuse (mirror w) h port result (mirror v) To
  on_port_in refuse w h port result v Then To f s = resolves_in refuse w h result v
      (λ i c. MatchOption (port_of c port) ((result ≡ Err (refuse errors.BadPortIndex)) × (v ≡ w)) (Then i c))
      (λ i c. MatchOption (port_of c port) ((result ≡ Err (refuse errors.BadPortIndex)) × (mirror v ≡ mirror w)) (To i c))
      (λ i c e r. by i c e (port_of c port) r) s
    where
      by : (i : ℕ) (c : Component) → slice_get w.components i ≡ Some c → (o : Option Port) → MatchOption o ((result ≡ Err (refuse errors.BadPortIndex)) × (v ≡ w)) (Then i c) → MatchOption o ((result ≡ Err (refuse errors.BadPortIndex)) × (mirror v ≡ mirror w)) (To i (twin c))
      by i c e None r = (r.0, ap mirror r.1)
      by i c e (Some p) r = f i c p e r

  -- ---- commands

  held_if : (b : Bool) (c d : Component) (xs ys : List Component) → need_of c ≡ need_of d → sum_by need_of xs ≡ sum_by need_of ys → sum_by need_of (if b then c ∷ xs else xs) ≡ sum_by need_of (if b then d ∷ ys else ys)
  held_if true c d xs ys e r = sum_by-cons need_of c xs ∙ ((λ i. e i + r i) ∙ sym (sum_by-cons need_of d ys))
  held_if false c d xs ys e r = r

  held_in : (cs : List Component) → units_held (map twin cs) ≡ units_held cs
  held_in [] = refl
  held_in (c ∷ cs) = held_if c.holds (twin c) c (filter is_holder (map twin cs)) (filter is_holder cs) refl (held_in cs)

  free_in : (w : World) → free_units (look (mirror w)) ≡ free_units (look w)
  free_in w = ap (λ (n : ℕ). w.units - n) (held_in w.components)

  run_idle_in : (c : Component) (cs : List Command) → run_idle (twin c) cs ≡ run_idle c cs
  run_idle_in c [] = refl
  run_idle_in c (commands.StateSet target ∷ cs) = refl
  run_idle_in c (commands.Flush sel ∷ cs) = refl
  run_idle_in c (commands.PortDisable sel ∷ cs) = refl
  run_idle_in c (commands.PortEnable sel ∷ cs) = refl
  run_idle_in c (commands.MarkBuffer port target value ∷ cs) = refl

  begun_in : (o : Option OmxError) → ((e : OmxError) → o ≡ Some e → is_fault (Told (Error e)) ≡ false) → (c : Component) (target : State) → begun o target (twin c) ≡ twin (begun o target c)
  begun_in None h c target = refl
  begun_in (Some error) h c target = told_in reading fair streams (Error error) (h error refl) c

  front_in : (w : World) (c : Component) (cs : List Command) → run_front (look (mirror w)) cs (twin c) ≡ twin (run_front (look w) cs c)
  front_in w c [] = refl
  front_in w c (commands.StateSet target ∷ cs) =
      let d : Component = record c { commands = cs } in
      let f : state_fault (look (mirror w)) (twin d) target ≡ state_fault (look w) d target = let n = free_in w in rw n refl in
      ap (λ (o : Option OmxError). begun o target (twin d)) f ∙ begun_in (state_fault (look w) d target) (fault_tells (look w) d target) d target
  front_in w c (commands.Flush sel ∷ cs) = refl
  front_in w c (commands.PortDisable sel ∷ cs) = refl
  front_in w c (commands.PortEnable sel ∷ cs) = refl
  front_in w c (commands.MarkBuffer port target value ∷ cs) = refl

  pub runs_in : (w : World) (h : Handle) (result : Result Acted OmxError) (v : World) → RunCommand w h result v → RunCommand (mirror w) h result (mirror v)
  runs_in w h result v s = resolves_in plain w h result v
      (λ i c. Acts (run_idle c c.commands) result w (with_component i (run_front (look w) c.commands c) w) v)
      (λ i c. Acts (run_idle c c.commands) result (mirror w) (with_component i (run_front (look (mirror w)) c.commands c) (mirror w)) (mirror v))
      (λ i c e r.
      acts_as (run_idle c c.commands) (run_idle (twin c) c.commands) result w (with_component i (run_front (look w) c.commands c) w)
      (with_component i (run_front (look (mirror w)) c.commands (twin c)) (mirror w)) v (run_idle_in c c.commands)
      (ap (λ (d : Component). with_component i d (mirror w)) (front_in w c c.commands) ∙ with_in reading fair streams i (run_front (look w) c.commands c) w) r) s

  -- ---- room

  used_less : (c : Component) → used (twin c) ≤ used c
  used_less c =
      let k = costs_same c (twin c) c.commands refl in
      let e = fair.fewer c.notes in
      omega (arith, k)

  room_more : (c : Component) → room c ≤ room (twin c)
  room_more c = let u = used_less c in omega arith

  still_room : (c : Component) (n : ℕ) → nat_lt (room c) n ≡ false → nat_lt (room (twin c)) n ≡ false
  still_room c n h = either (nat_lt (room (twin c)) n)
      (λ t.
      let l = ltb-true (room (twin c)) n t in
      let m = room_more c in
      let q : nat_lt (room c) n ≡ true = lt-ltb (room c) n (omega arith) in
      absurd cc)
      (λ f. f)

  -- ---- what none of some tests finds

  none_here : {E : Type 0} (x : Bool × E) (xs : List (Bool × E)) → first_of_these (x ∷ xs) ≡ None → (x.0 ≡ false) × (first_of_these xs ≡ None)
  none_here x xs h = either x.0
      (λ t. let s : Some x.1 ≡ None = sym (ap (λ (q : Bool). if q then Some x.1 else first_of_these xs) t) ∙ h in absurd cc)
      (λ t. (t, sym (ap (λ (q : Bool). if q then Some x.1 else first_of_these xs) t) ∙ h))

  here_none : {E : Type 0} (x : Bool × E) (xs : List (Bool × E)) → x.0 ≡ false → first_of_these xs ≡ None → first_of_these (x ∷ xs) ≡ None
  here_none x xs f h = ap (λ (q : Bool). if q then Some x.1 else first_of_these xs) f ∙ h

  none_both : {E : Type 0} (xs ys : List (Bool × E)) → first_of_these (xs ++ ys) ≡ None → (first_of_these xs ≡ None) × (first_of_these ys ≡ None)
  none_both [] ys h = (refl, h)
  none_both (x ∷ xs) ys h =
      let a = none_here x (xs ++ ys) h in
      let b = none_both xs ys a.1 in
      (here_none x xs a.0 b.0, b.1)

  both_none : {E : Type 0} (xs ys : List (Bool × E)) → first_of_these xs ≡ None → first_of_these ys ≡ None → first_of_these (xs ++ ys) ≡ None
  both_none [] ys g h = h
  both_none (x ∷ xs) ys g h = let a = none_here x xs g in here_none x (xs ++ ys) a.0 (both_none xs ys a.1 h)

  none_or : (a b : Bool) → (a || b) ≡ false → (a ≡ false) × (b ≡ false)
  none_or true b h = absurd cc
  none_or false b h = (refl, h)

  or_none : (a b : Bool) → a ≡ false → b ≡ false → (a || b) ≡ false
  or_none a b f g = λ i. f i || g i

  -- ---- by what is found there

  pub named_in : {T E : Type 0} (refuse : OmxError → E) (w : World) (h : Handle) (result : Result T E) (v : World) (To : ℕ → Component → Type 0) (i : ℕ) (c : Component) → place_of h w.components ≡ Some i → slice_get w.components i ≡ Some c
      → To i (twin c) → Resolving refuse (mirror w) h result (mirror v) To
  named_in refuse w h result v To i c e g t = rw (place_in h w.components ∙ e, get_in reading fair streams w.components i c g) t

  -- ---- a command is queued

  module _ (w : World) (c : Component) where
    port_lacks : (command : Command) → lacks_port (twin c) command ≡ lacks_port c command
    port_lacks (commands.StateSet target) = refl
    port_lacks (commands.Flush sel) = sel_lacks sel
      where
        sel_lacks : (sel : PortSel) → lacks_selected (twin c) sel ≡ lacks_selected c sel
        sel_lacks (sels.One port) = refl
        sel_lacks sels.All = refl
    port_lacks (commands.PortDisable sel) = sel_lacks sel
      where
        sel_lacks : (sel : PortSel) → lacks_selected (twin c) sel ≡ lacks_selected c sel
        sel_lacks (sels.One port) = refl
        sel_lacks sels.All = refl
    port_lacks (commands.PortEnable sel) = sel_lacks sel
      where
        sel_lacks : (sel : PortSel) → lacks_selected (twin c) sel ≡ lacks_selected c sel
        sel_lacks (sels.One port) = refl
        sel_lacks sels.All = refl
    port_lacks (commands.MarkBuffer port target value) = refl

    target_lacks : (command : Command) → lacks_target (look (mirror w)) command ≡ lacks_target (look w) command
    target_lacks (commands.StateSet target) = refl
    target_lacks (commands.Flush sel) = refl
    target_lacks (commands.PortDisable sel) = refl
    target_lacks (commands.PortEnable sel) = refl
    target_lacks (commands.MarkBuffer port target value) = ap (λ (o : Option ℕ). is_none o) (place_in target w.components)

    sel_in : (sel : PortSel) → sel_cost (twin c) sel ≡ sel_cost c sel
    sel_in (sels.One port) = refl
    sel_in sels.All = refl

    cost_in : (command : Command) → cost_of (twin c) command ≡ cost_of c command
    cost_in (commands.StateSet target) = refl
    cost_in (commands.Flush sel) = sel_in sel
    cost_in (commands.PortDisable sel) = sel_in sel
    cost_in (commands.PortEnable sel) = sel_in sel
    cost_in (commands.MarkBuffer port target value) = refl

    room_lacks : (command : Command) → is_at_once command ≡ false → lacks_command_room c command ≡ false → lacks_command_room (twin c) command ≡ false
    room_lacks command o h =
        let was : (nat_le 32 (length c.commands) || nat_lt (room c) (cost_of c command)) ≡ false = sym (ap (λ (q : Bool). if q then nat_eq (room (invalidated c)) 0 else (nat_le 32 (length c.commands) || nat_lt (room c) (cost_of c command))) o) ∙ h in
        let t = none_or (nat_le 32 (length c.commands)) (nat_lt (room c) (cost_of c command)) was in
        let r : nat_lt (room (twin c)) (cost_of (twin c) command) ≡ false = ap (nat_lt (room (twin c))) (cost_in command) ∙ still_room c (cost_of c command) t.1 in
        ap (λ (q : Bool). if q then nat_eq (room (invalidated (twin c))) 0 else (nat_le 32 (length c.commands) || nat_lt (room (twin c)) (cost_of (twin c) command))) o
        ∙ or_none (nat_le 32 (length c.commands)) (nat_lt (room (twin c)) (cost_of (twin c) command)) t.0 r

    abbrev one_test : Bool → List (Bool × OmxError)
    one_test q = (q, errors.InsufficientResources) ∷ []

    abbrev two_tests : Bool → Bool → List (Bool × OmxError)
    two_tests q r = (q, errors.BadParameter) ∷ one_test r

    abbrev three_tests : Bool → Bool → Bool → List (Bool × OmxError)
    three_tests q r t = (q, errors.BadPortIndex) ∷ two_tests r t

    pub takes_in : (command : Command) → is_at_once command ≡ false → send_refusal (look w) c command ≡ None → send_refusal (look (mirror w)) (twin c) command ≡ None
    takes_in command o h =
        let p0 : Bool = lacks_port c command in
        let t0 : Bool = lacks_target (look w) command in
        let r0 : Bool = lacks_command_room c command in
        let a = none_here (is_invalid c.state, errors.InvalidState) (three_tests p0 t0 r0) h in
        let b = none_here (p0, errors.BadPortIndex) (two_tests t0 r0) a.1 in
        let d = none_here (t0, errors.BadParameter) (one_test r0) b.1 in
        let e = none_here (r0, errors.InsufficientResources) [] d.1 in
        let p1 : Bool = lacks_port (twin c) command in
        let t1 : Bool = lacks_target (look (mirror w)) command in
        let r1 : Bool = lacks_command_room (twin c) command in
        here_none (is_invalid c.state, errors.InvalidState) (three_tests p1 t1 r1) a.0
        (here_none (p1, errors.BadPortIndex) (two_tests t1 r1) (port_lacks command ∙ b.0)
        (here_none (t1, errors.BadParameter) (one_test r1) (target_lacks command ∙ d.0)
        (here_none (r1, errors.InsufficientResources) [] (room_lacks command o e.0) refl)))

    -- the other way round, where there is room
    pub takes_back : (command : Command) → is_at_once command ≡ false → nat_lt (room c) (cost_of c command) ≡ false → send_refusal (look (mirror w)) (twin c) command ≡ None → send_refusal (look w) c command ≡ None
    takes_back command o roomy h =
        let p0 : Bool = lacks_port c command in
        let t0 : Bool = lacks_target (look w) command in
        let r0 : Bool = lacks_command_room c command in
        let p1 : Bool = lacks_port (twin c) command in
        let t1 : Bool = lacks_target (look (mirror w)) command in
        let r1 : Bool = lacks_command_room (twin c) command in
        let a = none_here (is_invalid c.state, errors.InvalidState) (three_tests p1 t1 r1) h in
        let b = none_here (p1, errors.BadPortIndex) (two_tests t1 r1) a.1 in
        let d = none_here (t1, errors.BadParameter) (one_test r1) b.1 in
        let e = none_here (r1, errors.InsufficientResources) [] d.1 in
        let was : (nat_le 32 (length c.commands) || nat_lt (room (twin c)) (cost_of (twin c) command)) ≡ false =
        sym (ap (λ (q : Bool). if q then nat_eq (room (invalidated (twin c))) 0 else (nat_le 32 (length c.commands) || nat_lt (room (twin c)) (cost_of (twin c) command))) o) ∙ e.0 in
        let few = (none_or (nat_le 32 (length c.commands)) (nat_lt (room (twin c)) (cost_of (twin c) command)) was).0 in
        let fits : lacks_command_room c command ≡ false =
        ap (λ (q : Bool). if q then nat_eq (room (invalidated c)) 0 else (nat_le 32 (length c.commands) || nat_lt (room c) (cost_of c command))) o
        ∙ or_none (nat_le 32 (length c.commands)) (nat_lt (room c) (cost_of c command)) few roomy in
        here_none (is_invalid c.state, errors.InvalidState) (three_tests p0 t0 r0) a.0
        (here_none (p0, errors.BadPortIndex) (two_tests t0 r0) (sym (port_lacks command) ∙ b.0)
        (here_none (t0, errors.BadParameter) (one_test r0) (sym (target_lacks command) ∙ d.0)
        (here_none (r0, errors.InsufficientResources) [] fits refl)))

  sent_in : (command : Command) → is_at_once command ≡ false → (c : Component) → sent command (twin c) ≡ twin (sent command c)
  sent_in command o c = rw o refl

  -- where it is refused the world stays
  pub sends_in : (w : World) (h : Handle) (command : Command) (result : Result (Unit {0}) OmxError) (v : World) → is_at_once command ≡ false → SendCommand w h command result v → SendCommand (mirror w) h command result (mirror v) ⊎ ((v ≡ w) × (error : OmxError) × (result ≡ Err error))
  sends_in w h command result v o s = elim (named plain w h result v (λ i c. Answers (send_refusal (look w) c command) result w v (λ _. ClosesTo (with_component i (sent command c) w) v)) s) [
    | inl e ↦ inr (e.1, errors.InvalidComponent, e.0)
    | inr (i, c, e, g, t) ↦ by i c e g (send_refusal (look w) c command) refl t
  ]
    where
      To : ℕ → Component → Type 0
      To i d = Answers (send_refusal (look (mirror w)) d command) result (mirror w) (mirror v) (λ _. ClosesTo (with_component i (sent command d) (mirror w)) (mirror v))

      ok : (i : ℕ) (c : Component) (r : Result (Unit {0}) OmxError) → Answers None r w v (λ _. ClosesTo (with_component i (sent command c) w) v) → Answers None r (mirror w) (mirror v) (λ _. ClosesTo (with_component i (sent command (twin c)) (mirror w)) (mirror v))
      ok i c (Ok y) C = subst (λ (u : World). ClosesTo u (mirror v)) (sym (ap (λ (d : Component). with_component i d (mirror w)) (sent_in command o c) ∙ with_in reading fair streams i (sent command c) w)) (closes_in reading fair streams (with_component i (sent command c) w) v C)
      ok i c (Err y) C = C

      by : (i : ℕ) (c : Component) → place_of h w.components ≡ Some i → slice_get w.components i ≡ Some c → (q : Option OmxError) → send_refusal (look w) c command ≡ q → Answers q result w v (λ _. ClosesTo (with_component i (sent command c) w) v)
          → SendCommand (mirror w) h command result (mirror v) ⊎ ((v ≡ w) × (error : OmxError) × (result ≡ Err error))
      by i c e g (Some error) f t = inr (t.1, error, t.0)
      by i c e g None f t =
          let n = takes_in w c command o f in
          inl (named_in plain w h result v To i c e g (subst (λ (q : Option OmxError). Answers q result (mirror w) (mirror v) (λ _. ClosesTo (with_component i (sent command (twin c)) (mirror w)) (mirror v))) (sym n) (ok i c result t)))

  -- ---- a header is unmade

  unmade_in : (ns : List ℕ) (w : World) → front_unmade ns (mirror w) ≡ mirror (front_unmade ns w)
  unmade_in [] w = refl
  unmade_in (n ∷ ns) w = refl

  pub releases_in : (w : World) (h : Handle) (port : ℕ) (result : Result Acted OmxError) (v : World) → Release w h port result v → Release (mirror w) h port result (mirror v)
  releases_in w h port result v s = on_port_in plain w h port result v
      (λ i c p. Acts (release_idle (look w) c p) result w (front_unmade (in_port (seen w.headers) p) w) v)
      (λ i c p. Acts (release_idle (look (mirror w)) c p) result (mirror w) (front_unmade (in_port (seen w.headers) p) (mirror w)) (mirror v))
      (λ i c p e r. acts_as (release_idle (look w) c p) (release_idle (look (mirror w)) (twin c) p) result w (front_unmade (in_port (seen w.headers) p) w) (front_unmade (in_port (seen w.headers) p) (mirror w)) v refl (unmade_in (in_port (seen w.headers) p) w) r) s

  -- ---- a work goes out

  -- the tests from each on, by the room and whether the part has ended
  module _ (w : World) (c : Component) where
    abbrev tests_room : ℕ → List (Bool × Claimed)
    tests_room n = (nat_lt n (reserve_for (wanted c)), ClaimedEvents n (reserve_for (wanted c))) ∷ []

    abbrev room_tests : List (Bool × Claimed)
    room_tests = map (room_test (seen w.headers)) (filter is_output_port (wanted c))

    abbrev data_tests : List (Bool × Claimed)
    data_tests = map (data_test (seen w.headers)) (filter is_input_port (wanted c))

    abbrev held_tests : List (Bool × Claimed)
    held_tests = map (held_test c) (ports_of c)

    abbrev from_ended : ℕ → Bool → List (Bool × Claimed)
    from_ended n q = (q, ClaimedEnded) ∷ held_tests ++ data_tests ++ room_tests ++ tests_room n

    abbrev from_running : ℕ → Bool → List (Bool × Claimed)
    from_running n q = (not (is_claimable c), ClaimedNotRunning) ∷ from_ended n q

    claim_free : claim_idle (look w) c ≡ None → claim_idle (look (mirror w)) (twin c) ≡ None
    claim_free h =
        let e0 : Bool = c.part.ended || c.part.failed in
        let a = none_here (is_some c.work, ClaimedBusy) (from_running (room c) e0) h in
        let b = none_here (not (is_claimable c), ClaimedNotRunning) (from_ended (room c) e0) a.1 in
        let d = none_here (e0, ClaimedEnded) (held_tests ++ data_tests ++ room_tests ++ tests_room (room c)) b.1 in
        let k = none_or c.part.ended c.part.failed d.0 in
        let e = none_both (held_tests ++ data_tests ++ room_tests) (tests_room (room c)) d.1 in
        let m = none_here (nat_lt (room c) (reserve_for (wanted c)), ClaimedEvents (room c) (reserve_for (wanted c))) [] e.1 in
        let e1 : Bool = (read_part reading c.part).ended || (read_part reading c.part).failed in
        let whole : e1 ≡ false = fair.free c.part k.0 k.1 in
        let r : ℕ = room (twin c) in
        let last : first_of_these (tests_room r) ≡ None = here_none (nat_lt r (reserve_for (wanted c)), ClaimedEvents r (reserve_for (wanted c))) [] (still_room c (reserve_for (wanted c)) m.0) refl in
        let ports : first_of_these (held_tests ++ data_tests ++ room_tests ++ tests_room r) ≡ None = both_none (held_tests ++ data_tests ++ room_tests) (tests_room r) e.0 last in
        here_none (is_some c.work, ClaimedBusy) (from_running r e1) a.0
        (here_none (not (is_claimable c), ClaimedNotRunning) (from_ended r e1) b.0
        (here_none (e1, ClaimedEnded) (held_tests ++ data_tests ++ room_tests ++ tests_room r) whole ports))

  -- where none goes out the world stays
  pub claims_in : (w : World) (h : Handle) (result : Result Claimed OmxError) (v : World) → Claim w h result v → Claim (mirror w) h result (mirror v) ⊎ (v ≡ w)
  claims_in w h result v s = elim (named plain w h result v (λ i c. Claims (claim_idle (look w) c) i c w result v) s) [
    | inl e ↦ inr e.1
    | inr (i, c, e, g, t) ↦ by i c e g (claim_idle (look w) c) refl t
  ]
    where
      by : (i : ℕ) (c : Component) → place_of h w.components ≡ Some i → slice_get w.components i ≡ Some c → (q : Option Claimed) → claim_idle (look w) c ≡ q → Claims q i c w result v → Claim (mirror w) h result (mirror v) ⊎ (v ≡ w)
      by i c e g (Some idle) f t = inr t.1
      by i c e g None f t =
          let n = claim_free w c f in
          let work = work_of (seen w.headers) c in
          let same : with_work i (twin c) work (mirror w) ≡ mirror (with_work i c work w) = λ j. record (with_work i (twin c) work (mirror w)) { components = set_in reading fair streams w.components i (record c { work = Some work }) j } in
          let C : Claims None i (twin c) (mirror w) result (mirror v) = (t.0, subst (λ (u : World). ClosesTo u (mirror v)) (sym same) (closes_in reading fair streams (with_work i c work w) v t.1)) in
          inl (named_in plain w h result v (λ k d. Claims (claim_idle (look (mirror w)) d) k d (mirror w) result (mirror v)) i c e g (subst (λ (q : Option Claimed). Claims q i (twin c) (mirror w) result (mirror v)) (sym n) C))

  -- ---- where the answers are the same

  claimed_in : (o : Option Claimed) (i : ℕ) (c : Component) (w : World) (result : Result Claimed OmxError) (v : World) → Claims o i c w result v → Claims o i (twin c) (mirror w) result (mirror v)
  claimed_in (Some idle) i c w result v h = (h.0, ap mirror h.1)
  claimed_in None i c w result v h =
      let work = work_of (seen w.headers) c in
      let same : with_work i (twin c) work (mirror w) ≡ mirror (with_work i c work w) = λ j. record (with_work i (twin c) work (mirror w)) { components = set_in reading fair streams w.components i (record c { work = Some work }) j } in
      (h.0, subst (λ (u : World). ClosesTo u (mirror v)) (sym same) (closes_in reading fair streams (with_work i c work w) v h.1))

  pub claims_as : ((w : World) (c : Component) → claim_idle (look (mirror w)) (twin c) ≡ claim_idle (look w) c) → (w : World) (h : Handle) (result : Result Claimed OmxError) (v : World) → Claim w h result v → Claim (mirror w) h result (mirror v)
  claims_as same w h result v s = resolves_in plain w h result v (λ i c. Claims (claim_idle (look w) c) i c w result v) (λ i c. Claims (claim_idle (look (mirror w)) c) i c (mirror w) result (mirror v))
      (λ i c e r. subst (λ (o : Option Claimed). Claims o i (twin c) (mirror w) result (mirror v)) (sym (same w c)) (claimed_in (claim_idle (look w) c) i c w result v r)) s

  pub sends_as : ((w : World) (c : Component) (command : Command) → send_refusal (look (mirror w)) (twin c) command ≡ send_refusal (look w) c command) → (w : World) (h : Handle) (command : Command) (result : Result (Unit {0}) OmxError) (v : World)
      → is_at_once command ≡ false → SendCommand w h command result v → SendCommand (mirror w) h command result (mirror v)
  sends_as same w h command result v o s = resolves_in plain w h result v
      (λ i c. Answers (send_refusal (look w) c command) result w v (λ _. ClosesTo (with_component i (sent command c) w) v))
      (λ i c. Answers (send_refusal (look (mirror w)) c command) result (mirror w) (mirror v) (λ _. ClosesTo (with_component i (sent command c) (mirror w)) (mirror v)))
      (λ i c e r.
      answers_in (send_refusal (look w) c command) (send_refusal (look (mirror w)) (twin c) command) result w v (λ _. ClosesTo (with_component i (sent command c) w) v) (λ _. ClosesTo (with_component i (sent command (twin c)) (mirror w)) (mirror v)) (same w c command)
      (λ y C. subst (λ (u : World). ClosesTo u (mirror v)) (sym (ap (λ (d : Component). with_component i d (mirror w)) (sent_in command o c) ∙ with_in reading fair streams i (sent command c) w)) (closes_in reading fair streams (with_component i (sent command c) w) v C)) r) s
