-- Units, waiting and works as a component arrives, begins a transition, or becomes Invalid.
use Rattle.std.proofs.Common.{◌≡◌, inl, inr, ℕ, ◌+◌, ◌≤◌, Bool, true, false, not, ◌&&◌, ◌||◌, List, [], ◌∷◌, map, length, Option, Some, None, is_none, refl, sym, ◌∙◌, arith}
use Rattle.std.proofs.lemmas.List.{length-map}
use Rattle.std.proofs.lemmas.List.Elements.{All-map, All-nil, All-cons}
use Rattle.omx_types.specs.declared.state.State.{State}
use Rattle.omx_types.specs.declared.state.State.TheVariants.{Invalid, Loaded, Idle, Executing, Pause, WaitForResources}
use Rattle.omx_types.specs.declared.command.Event.TheVariants.{CmdComplete, Error}
use Rattle.omx_types.specs.declared.command.Completion.TheVariants as completions
use Rattle.omx_types.specs.declared.error.OmxError.TheVariants as errors
use Rattle.il_machine.specs.declared.answer.Pending.{Pending}
use Rattle.il_machine.specs.declared.answer.Cause.TheVariants as causes
use Rattle.il_machine.specs.declared.port.PortState.{PortState}
use Rattle.il_machine.specs.States.{same_state, is_lawful, is_down, is_up, is_running, is_invalid}
use Rattle.il_machine.specs.Lists.{all_of}
use Rattle.il_machine.specs.Kinds.{is_late}
use Rattle.il_machine.specs.World.{Component, PartState, Work}
use Rattle.il_machine.specs.Headers.{Seen}
use Rattle.il_machine.specs.Ports.{settled}
use Rattle.il_machine.specs.Room.{is_by_client}
use Rattle.il_machine.specs.Due.{each_port, is_due_to, reached, completed, completed_for, restarted, with_part, unheld, all_given_back, lost, lost_by, arrived, arrived_at, waits_after}
use Rattle.il_machine.specs.Commands.{calmed, invalidated}
use Rattle.il_machine.specs.Units.{need_of}
use Rattle.il_machine.specs.Sound.{IsUnitSound, may_work, needs_units}
use Rattle.machine_laws.proofs.Finding.{either}
use Rattle.machine_laws.proofs.Keys.{none_or_some}
use Rattle.machine_laws.proofs.Accepting.{both_of}
use Rattle.machine_laws.proofs.Works.{keeps_twice}
use Rattle.machine_laws.proofs.Units.{IsAside, IsFair, AreHeldIf, held_fewer, held_if, if_held, units_aside, aside_none}
use Rattle.machine_laws.proofs.Rooms.{aside_told}

-- ---- the transitions that may be pending

abbrev pub way_by : State → State → Bool → Bool → Bool
way_by s t by_loss resting =
    is_lawful s t || (same_state s Loaded && same_state t Loaded && by_loss) || (same_state s WaitForResources && same_state t Idle && resting)

-- none to WaitForResources begins where units are wanted
none_waits : (s : State) (l r : Bool) → way_by s WaitForResources l r ≡ true → is_up s ≡ false
none_waits Invalid l r h = refl
none_waits Loaded l r h = refl
none_waits Idle l r h = absurd cc
none_waits Executing l r h = absurd cc
none_waits Pause l r h = absurd cc
none_waits WaitForResources l r h = refl

-- one that waits goes to Loaded alone
waiter_leaves : (t : State) (l : Bool) → way_by WaitForResources t l false ≡ true → t ≡ Loaded
waiter_leaves Invalid l h = absurd cc
waiter_leaves Loaded l h = refl
waiter_leaves Idle l h = absurd cc
waiter_leaves Executing l h = absurd cc
waiter_leaves Pause l h = absurd cc
waiter_leaves WaitForResources l h = absurd cc

-- from a state in which a work may be out, to one that is up
works_on : (s t : State) (l r : Bool) → way_by s t l r ≡ true → (is_running s || is_invalid s) ≡ true → is_up t ≡ true
works_on Invalid Invalid l r h m = absurd cc
works_on Invalid Loaded l r h m = absurd cc
works_on Invalid Idle l r h m = refl
works_on Invalid Executing l r h m = refl
works_on Invalid Pause l r h m = refl
works_on Invalid WaitForResources l r h m = absurd cc
works_on Loaded t l r h m = absurd cc
works_on Idle t l r h m = absurd cc
works_on WaitForResources t l r h m = absurd cc
works_on Executing Invalid l r h m = absurd cc
works_on Executing Loaded l r h m = absurd cc
works_on Executing Idle l r h m = refl
works_on Executing Executing l r h m = refl
works_on Executing Pause l r h m = refl
works_on Executing WaitForResources l r h m = absurd cc
works_on Pause Invalid l r h m = absurd cc
works_on Pause Loaded l r h m = absurd cc
works_on Pause Idle l r h m = refl
works_on Pause Executing l r h m = refl
works_on Pause Pause l r h m = refl
works_on Pause WaitForResources l r h m = absurd cc

down_is : (s : State) → is_down s ≡ true → (is_running s || is_invalid s) ≡ false
down_is Invalid h = absurd cc
down_is Loaded h = refl
down_is Idle h = refl
down_is Executing h = absurd cc
down_is Pause h = absurd cc
down_is WaitForResources h = refl

not_waiting_up : (t : State) → is_up t ≡ true → same_state t WaitForResources ≡ false
not_waiting_up Invalid h = absurd cc
not_waiting_up Loaded h = absurd cc
not_waiting_up Idle h = refl
not_waiting_up Executing h = refl
not_waiting_up Pause h = refl
not_waiting_up WaitForResources h = absurd cc

-- a state that is up is reached from another one, or it is Idle
came_up : (s t : State) (l r : Bool) → way_by s t l r ≡ true → is_up t ≡ true → (is_up s || same_state t Idle) ≡ true
came_up Invalid Invalid l r h u = absurd cc
came_up Invalid Loaded l r h u = absurd cc
came_up Invalid Idle l r h u = refl
came_up Invalid Executing l r h u = absurd cc
came_up Invalid Pause l r h u = absurd cc
came_up Invalid WaitForResources l r h u = absurd cc
came_up Loaded Invalid l r h u = absurd cc
came_up Loaded Loaded l r h u = absurd cc
came_up Loaded Idle l r h u = refl
came_up Loaded Executing l r h u = absurd cc
came_up Loaded Pause l r h u = absurd cc
came_up Loaded WaitForResources l r h u = absurd cc
came_up Idle t l r h u = refl
came_up Executing t l r h u = refl
came_up Pause t l r h u = refl
came_up WaitForResources Invalid l r h u = absurd cc
came_up WaitForResources Loaded l r h u = absurd cc
came_up WaitForResources Idle l r h u = refl
came_up WaitForResources Executing l r h u = absurd cc
came_up WaitForResources Pause l r h u = absurd cc
came_up WaitForResources WaitForResources l r h u = absurd cc

-- so it needs its units already
comes_up : (waits : ℕ) (p : Pending) (c : Component) → IsUnitSound waits c → c.pending ≡ Some p → is_up p.target ≡ true → needs_units c ≡ true
comes_up waits p c U e u = rw e (came_up c.state p.target (not (is_by_client p.cause)) (is_none c.waiting) (U.way p e) u)

-- one that goes to another state than Loaded doesn't wait
rests : (waits : ℕ) (p : Pending) (c : Component) → IsUnitSound waits c → c.pending ≡ Some p → is_up p.target ≡ true → c.waiting ≡ None
rests waits p c U e u = elim (none_or_some c.waiting) [
  | inl z ↦ z
  | inr n ↦
      let b = U.numbered n.0 n.1 in
      let w : way_by WaitForResources p.target (not (is_by_client p.cause)) false ≡ true = rw (b.1, n.1) at (U.way p e) in
      let t = waiter_leaves p.target (not (is_by_client p.cause)) w in
      let x : is_up Loaded ≡ true = rw t at u in
      absurd cc
]

-- ---- what follows a fair change

pub fair_then_aside : (spare waits after : ℕ) (c d e : Component) → IsFair spare waits after c d → IsAside d e → IsFair spare waits after c e
fair_then_aside spare waits after c d e F A = record {
  keeps = keeps_twice c d e F.keeps A.keeps;
  stays = λ work w. rw A.state (F.stays work w);
  taken = rw (A.holds, (A.keeps).kind) F.taken;
  waiting = λ n w. F.waiting n (sym A.waiting ∙ w);
  units = units_aside after d e A F.units;
}

pub aside_then_fair : (spare waits after : ℕ) (c d e : Component) → IsAside c d → IsFair spare waits after d e → IsFair spare waits after c e
aside_then_fair spare waits after c d e A F = record {
  keeps = keeps_twice c d e A.keeps F.keeps;
  stays = λ work w. F.stays work ((A.keeps).work ∙ w);
  taken = rw (← A.holds, ← (A.keeps).kind) F.taken;
  waiting = λ n w. elim (F.waiting n w) [ inl s ↦ inl (sym A.waiting ∙ s) | inr s ↦ inr s ];
  units = F.units;
}

-- an Idle component that loses its units is on its way to Loaded
fair_then_lost : (waits after : ℕ) (c d : Component) → IsFair 0 waits after c d → d.state ≡ Idle → IsFair 0 waits after c (lost d)
fair_then_lost waits after c d F s =
    let U = F.units in
    let e : Component = record d { loss_mark = false; pending = Some (record { target = Loaded; cause = causes.Loss }) } in
    fair_then_aside 0 waits after c e (lost d) (record {
      keeps = keeps_twice c d e F.keeps (record { kind = refl; weights = refl; count = refl; work = refl });
      stays = F.stays;
      taken = F.taken;
      waiting = F.waiting;
      units = record {
        holds = λ h. U.holds (rw s refl);
        gives = λ h. rw s refl;
        waiting = λ h. let x : (same_state d.state WaitForResources && false) ≡ true = h in let y : false ≡ true = rw s at x in absurd cc;
        numbered = U.numbered;
        way = λ q w. let a : Pending = record { target = Loaded; cause = causes.Loss } in let z : a ≡ q = cc in rw (← z, s) refl;
        held = U.held;
        inputs = U.inputs;
      };
    }) (aside_told (Error errors.ResourcesLost) e)

aside_for : (p : Pending) (c : Component) → IsAside c (completed_for p c)
aside_for p c = either (is_by_client p.cause) (λ b. rw b (aside_told (CmdComplete (completions.State p.target)) c)) (λ b. rw b (aside_none c))

fair_then_lost_by : (waits after : ℕ) (p : Pending) (c d : Component) → IsFair 0 waits after c d → d.state ≡ Idle → IsFair 0 waits after c (lost_by p d)
fair_then_lost_by waits after p c d F s = either (d.loss_mark || not (is_by_client p.cause)) (λ b. rw b (fair_then_lost waits after c d F s)) (λ b. rw b F)

-- ---- a state is reached

fair_up : (waits : ℕ) (p : Pending) (c : Component) (part : PartState) → length part.ended_inputs ≡ length c.part.ended_inputs → IsUnitSound waits c → c.pending ≡ Some p → is_up p.target ≡ true
    → ((work : Work) → c.work ≡ Some work → is_running p.target ≡ true) → IsFair 0 waits waits c (with_part part (reached p c))
fair_up waits p c part l U e u m =
    let z = rests waits p c U e u in
    record {
      keeps = record { kind = refl; weights = refl; count = refl; work = refl };
      stays = λ work w. rw (m work w) refl;
      taken = held_fewer c (with_part part (reached p c)) refl (λ h. h);
      waiting = λ n w. inl w;
      units = record {
        holds = λ h. U.holds (comes_up waits p c U e u);
        gives = λ h. rw u refl;
        waiting = λ h. let f = not_waiting_up p.target u in let x : false ≡ true = rw f at h in absurd cc;
        numbered = λ n w. absurd cc;
        way = λ q w. absurd cc;
        held = U.held;
        inputs = l ∙ U.inputs;
      };
    }

unheld_ports : (test : Bool) (ps : List PortState) → AreHeldIf test (map unheld ps)
unheld_ports test [] = All-nil (λ p. p.held ≡ true → test ≡ true)
unheld_ports test (p ∷ ps) = All-cons (λ q. q.held ≡ true → test ≡ true) (unheld p) (map unheld ps) (λ h. absurd cc) (unheld_ports test ps)

no_work : (waits : ℕ) (p : Pending) (c : Component) → IsUnitSound waits c → c.pending ≡ Some p → is_up p.target ≡ false → may_work c ≡ true → ⊥
no_work waits p c U e d m = let u = works_on c.state p.target (not (is_by_client p.cause)) (is_none c.waiting) (U.way p e) m in cc

fair_down : (waits : ℕ) (p : Pending) (c : Component) → IsUnitSound waits c → c.pending ≡ Some p → p.target ≡ Loaded → ((work : Work) → c.work ≡ Some work → may_work c ≡ true)
    → IsFair 0 waits waits c (all_given_back (reached p c))
fair_down waits p c U e t m = record {
  keeps = record { kind = refl; weights = refl; count = length-map c.ports unheld; work = refl };
  stays = λ work w. absurd (no_work waits p c U e (rw t refl) (m work w));
  taken = omega arith;
  waiting = λ n w. absurd cc;
  units = record {
    holds = λ h. let x : false ≡ true = rw t at h in absurd cc;
    gives = λ h. absurd cc;
    waiting = λ h. let x : false ≡ true = rw t at h in absurd cc;
    numbered = λ n w. absurd cc;
    way = λ q w. absurd cc;
    held = if_held (is_late c.settings.kind) (map unheld c.ports) (unheld_ports (is_late c.settings.kind) c.ports);
    inputs = U.inputs;
  };
}

abbrev with_waiting : Option ℕ → Component → Component
with_waiting o c = record c { waiting = o }

fair_waits : (waits : ℕ) (p : Pending) (c : Component) → IsUnitSound waits c → c.pending ≡ Some p → p.target ≡ WaitForResources → ((work : Work) → c.work ≡ Some work → may_work c ≡ true)
    → IsFair 0 waits (waits + 1) c (with_waiting (Some waits) (reached p c))
fair_waits waits p c U e t m = record {
  keeps = record { kind = refl; weights = refl; count = refl; work = refl };
  stays = λ work w. absurd (no_work waits p c U e (rw t refl) (m work w));
  taken = held_fewer c (with_waiting (Some waits) (reached p c)) refl (λ h. h);
  waiting = λ n w. inr cc;
  units = record {
    holds = λ h. let x : false ≡ true = rw t at h in absurd cc;
    gives = λ h.
        let w : way_by c.state WaitForResources (not (is_by_client p.cause)) (is_none c.waiting) ≡ true = rw t at (U.way p e) in
        let u = none_waits c.state (not (is_by_client p.cause)) (is_none c.waiting) w in
        let g : false ≡ true = rw (e, t, u) at (U.gives h) in
        absurd cc;
    waiting = λ h. refl;
    numbered = λ n w. let s : waits ≡ n = cc in (omega arith, t);
    way = λ q w. absurd cc;
    held = U.held;
    inputs = U.inputs;
  };
}

-- Where Idle is due for a component that isn't down, its work isn't out.
idle_due : (headers : Seen) (c : Component) → is_down c.state ≡ false → is_due_to headers c Idle ≡ true → is_none c.work ≡ true
idle_due headers c d h =
    let a : all_of (each_port c (settled headers) ∷ is_none c.work ∷ []) ≡ true = rw d at h in
    (both_of (is_none c.work) true (both_of (each_port c (settled headers)) _ a).1).0

none_out : (c : Component) (work : Work) → is_none c.work ≡ true → c.work ≡ Some work → ⊥
none_out c work n e = let x : false ≡ true = rw e at n in cc

fair_at : (headers : Seen) (t : State) (waits : ℕ) (p : Pending) (c : Component) → IsUnitSound waits c → c.pending ≡ Some p → p.target ≡ t → is_due_to headers c t ≡ true
    → ((work : Work) → c.work ≡ Some work → may_work c ≡ true) → IsFair 0 waits (waits_after t waits) c (arrived_at waits t p c)
fair_at headers Idle waits p c U e t h m = either (is_down c.state)
    (λ d. rw d (fair_then_aside 0 waits waits c (reached p c) (completed Idle (reached p c))
    (fair_up waits p c c.part refl U e (rw t refl) (λ work w. let x = m work w in let y = down_is c.state d in absurd cc))
    (aside_told (CmdComplete (completions.State Idle)) (reached p c))))
    (λ d.
    let r : Component = with_part (restarted c) (reached p c) in
    let n = idle_due headers c d h in
    let F = fair_up waits p c (restarted c) (length-map c.part.ended_inputs (λ ended. false)) U e (rw t refl) (λ work w. absurd (none_out c work n w)) in
    rw d (fair_then_lost_by waits waits p c (completed_for p r) (fair_then_aside 0 waits waits c r (completed_for p r) F (aside_for p r)) ((aside_for p r).state ∙ t)))
fair_at headers Loaded waits p c U e t h m =
    let r : Component = all_given_back (reached p c) in
    fair_then_aside 0 waits waits c r (completed_for p r) (fair_down waits p c U e t m) (aside_for p r)
fair_at headers Executing waits p c U e t h m =
    fair_then_aside 0 waits waits c (reached p c) (completed Executing (reached p c)) (fair_up waits p c c.part refl U e (rw t refl) (λ work w. rw t refl)) (aside_told (CmdComplete (completions.State Executing)) (reached p c))
fair_at headers Pause waits p c U e t h m =
    fair_then_aside 0 waits waits c (reached p c) (completed Pause (reached p c)) (fair_up waits p c c.part refl U e (rw t refl) (λ work w. rw t refl)) (aside_told (CmdComplete (completions.State Pause)) (reached p c))
fair_at headers WaitForResources waits p c U e t h m =
    let r : Component = with_waiting (Some waits) (reached p c) in
    fair_then_aside 0 waits (waits + 1) c r (completed WaitForResources r) (fair_waits waits p c U e t m) (aside_told (CmdComplete (completions.State WaitForResources)) r)
fair_at headers Invalid waits p c U e t h m = absurd cc

-- the transition that is due
pub fair_arrived : (headers : Seen) (waits : ℕ) (p : Pending) (c : Component) → IsUnitSound waits c → c.pending ≡ Some p → is_due_to headers c p.target ≡ true
    → ((work : Work) → c.work ≡ Some work → may_work c ≡ true) → IsFair 0 waits (waits_after p.target waits) c (arrived waits p c)
fair_arrived headers waits p c U e h m = fair_at headers p.target waits p c U e refl h m

pub waits_later : (t : State) (waits : ℕ) → waits ≤ waits_after t waits
waits_later Invalid waits = omega arith
waits_later Loaded waits = omega arith
waits_later Idle waits = omega arith
waits_later Executing waits = omega arith
waits_later Pause waits = omega arith
waits_later WaitForResources waits = omega arith

-- ---- a transition is begun

-- one that goes to Idle has its units, or its units are spare
pub fair_begun : (spare waits : ℕ) (p : Pending) (c : Component) → IsUnitSound waits c → c.pending ≡ None → is_lawful c.state p.target ≡ true
    → (c.holds ≡ false → same_state p.target Idle ≡ true → need_of c ≤ spare) → ((work : Work) → c.work ≡ Some work → may_work c ≡ true)
    → IsFair spare waits waits c (record c { pending = Some p; holds = c.holds || same_state p.target Idle })
fair_begun spare waits p c U e l n m = record {
  keeps = record { kind = refl; weights = refl; count = refl; work = refl };
  stays = m;
  taken = either c.holds
      (λ t. rw t (omega arith))
      (λ f. either (same_state p.target Idle) (λ t. rw (f, t) (omega (arith, n f t))) (λ g. rw (f, g) (omega arith)));
  waiting = λ n w. inl w;
  units = record {
    holds = λ h. either (is_up c.state)
        (λ t. let x : c.holds ≡ true = U.holds (rw t refl) in rw x refl)
        (λ f. let x : same_state p.target Idle ≡ true = rw f at h in rw x (with_true c.holds));
    gives = λ h. either c.holds
        (λ t. let g : (is_up c.state || false || false) ≡ true = rw e at (U.gives t) in up_already (is_up c.state) _ _ g)
        (λ f. let x : same_state p.target Idle ≡ true = rw f at h in rw x (goes_there (is_up c.state) (same_state p.target Loaded)));
    waiting = λ h. let x : (same_state c.state WaitForResources && false) ≡ true = h in absurd (never (same_state c.state WaitForResources) x);
    numbered = U.numbered;
    way = λ q w. let z : p ≡ q = cc in rw (← z, l) refl;
    held = U.held;
    inputs = U.inputs;
  };
}
  where
    with_true : (b : Bool) → (b || true) ≡ true
    with_true true = refl
    with_true false = refl

    goes_there : (b l : Bool) → ((b || true) || l) ≡ true
    goes_there true l = refl
    goes_there false l = refl

    up_already : (b x y : Bool) → (b || false || false) ≡ true → (b || x || y) ≡ true
    up_already true x y h = refl
    up_already false x y h = absurd cc

    never : (b : Bool) → (b && false) ≡ true → ⊥
    never true h = cc
    never false h = cc

-- ---- StateSet(Invalid)

rested_held : (test : Bool) (ps : List PortState) → AreHeldIf test ps → AreHeldIf test (map calmed ps)
rested_held test ps A = All-map (λ q. q.held ≡ true → test ≡ true) calmed ps A

pub fair_invalidated : (waits : ℕ) (c : Component) → IsUnitSound waits c → IsFair 0 waits waits c (invalidated c)
fair_invalidated waits c U = record {
  keeps = record { kind = refl; weights = refl; count = length-map c.ports calmed; work = refl };
  stays = λ work w. refl;
  taken = omega arith;
  waiting = λ n w. absurd cc;
  units = record {
    holds = λ h. absurd cc;
    gives = λ h. absurd cc;
    waiting = λ h. absurd cc;
    numbered = λ n w. absurd cc;
    way = λ q w. absurd cc;
    held = if_held (is_late c.settings.kind) (map calmed c.ports) (rested_held (is_late c.settings.kind) c.ports (held_if waits c U));
    inputs = U.inputs;
  };
}
