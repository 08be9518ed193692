-- What happens to a component when a thing of it happens: what is told, and how its state and its pending transition change.
use Rattle.std.proofs.Common.{◌≡◌, ◌⊎◌, inl, inr, ℕ, Bool, true, false, not, ◌||◌, List, [], ◌∷◌, Option, Some, None, refl, subst}
use Rattle.omx_types.specs.declared.state.State.{State}
use Rattle.omx_types.specs.declared.state.State.TheVariants.{Invalid, Loaded, Idle, Executing, Pause, WaitForResources}
use Rattle.omx_types.specs.declared.command.Completion.{Completion}
use Rattle.omx_types.specs.declared.command.Completion.TheVariants as completions
use Rattle.omx_types.specs.declared.error.OmxError.TheVariants as errors
use Rattle.il_machine.specs.declared.answer.Pending.{Pending}
use Rattle.il_machine.specs.declared.answer.Cause.TheVariants as causes
use Rattle.il_machine.specs.declared.port.Mode.{Mode}
use Rattle.il_machine.specs.declared.port.Mode.TheVariants.{Steady, Disabling, Enabling}
use Rattle.il_machine.specs.declared.port.Port.{Port}
use Rattle.il_machine.specs.States.{is_down}
use Rattle.il_machine.specs.Lists.{first_of_these, holds_at}
use Rattle.il_machine.specs.World.{Component, number_of, ports_of, port_of}
use Rattle.il_machine.specs.Headers.{Seen}
use Rattle.il_machine.specs.Room.{is_by_client}
use Rattle.il_machine.specs.Due.{Thing, Transition, Flush, PortMode, WaitingMark, is_transition_due, is_due_to, is_flush_due, is_mode_due, is_mark_due, things_of, due_in, reached, completed, completed_for, restarted, with_part, all_given_back, lost, lost_by, arrived_at, arrived, mode_completion, all_told}
use Rattle.il_machine.specs.Queued.{Tells, WasIn}
use Rattle.machine_laws.proofs.Finding.{either}
use Rattle.history_laws.proofs.Growth.{Grows, grows_not, grows_on, fails, Says, says_not, says, says_after, says_on}

-- ---- which thing is due

things_never : (headers : Seen) (c : Component) (ps : List Port) → first_of_these (things_of headers c ps) ≡ Some Transition → ⊥
things_never headers c [] e = cc
things_never headers c (p ∷ ps) e =
    let i = things_never headers c ps in
    either (is_flush_due headers c p)
    (λ t. let s : Some (Flush p.key.port) ≡ Some Transition = rw t at e in let is : Flush p.key.port ≡ Transition = cc in cc)
    (λ f. either (is_mode_due headers c p p.state.mode)
    (λ t. let s : Some (PortMode p.key.port) ≡ Some Transition = rw (f, t) at e in let is : PortMode p.key.port ≡ Transition = cc in cc)
    (λ g. either (is_mark_due headers p)
    (λ t. let s : Some (WaitingMark p.key.port) ≡ Some Transition = rw (f, g, t) at e in let is : WaitingMark p.key.port ≡ Transition = cc in cc)
    (λ k. i (rw (f, g, k) at e))))

pub transition_due : (headers : Seen) (c : Component) → due_in headers c ≡ Some Transition → is_transition_due headers c ≡ true
transition_due headers c e = either (is_transition_due headers c) (λ t. t) (λ f. absurd (things_never headers c (ports_of c) (rw f at e)))

holds_some : (o : Option Pending) (test : Pending → Bool) → holds_at o test ≡ true → (p : Pending) × (o ≡ Some p) × (test p ≡ true)
holds_some None test h = absurd cc
holds_some (Some p) test h = (p, refl, h)

-- the transition that is due
pub target_due : (headers : Seen) (c : Component) → due_in headers c ≡ Some Transition → (p : Pending) × (c.pending ≡ Some p) × (is_due_to headers c p.target ≡ true)
target_due headers c e = holds_some c.pending (λ p. is_due_to headers c p.target) (transition_due headers c e)

-- ---- what a transition tells

ends : (c : Component) (p : Pending) → c.pending ≡ Some p → Tells c Transition (completions.State p.target)
ends c p e = rw e refl

completed_grows : (c : Component) (p : Pending) (d : Component) → c.pending ≡ Some p → Says (Tells c Transition) d (completed_for p d)
completed_grows c p d e = either (is_by_client p.cause)
    (λ t. rw t (says (Tells c Transition) (completions.State p.target) d (ends c p e)))
    (λ f. rw f (says_not (Tells c Transition) d d refl refl))

lost_grows : (T : Completion → Type 0) (p : Pending) (d : Component) → Grows T d (lost_by p d)
lost_grows T p d = either (d.loss_mark || not (is_by_client p.cause))
    (λ t. rw t (
    let e : Component = record d { loss_mark = false; pending = Some (record { target = Loaded; cause = causes.Loss }) } in
    grows_on T d e (lost d) (grows_not T d e refl refl) (fails T errors.ResourcesLost e)))
    (λ f. rw f (grows_not T d d refl refl))

-- the component r has the number and the notes of c
told_target : (target : State) (c r : Component) (p : Pending) → number_of r ≡ number_of c → r.notes ≡ c.notes → c.pending ≡ Some p → p.target ≡ target → Says (Tells c Transition) c (completed target r)
told_target target c r p n k e t =
    says_after (Tells c Transition) c r (completed target r) n k
    (says (Tells c Transition) (completions.State target) r (subst (λ (s : State). Tells c Transition (completions.State s)) t (ends c p e)))

told_client : (c r : Component) (p : Pending) → number_of r ≡ number_of c → r.notes ≡ c.notes → c.pending ≡ Some p → Says (Tells c Transition) c (completed_for p r)
told_client c r p n k e = says_after (Tells c Transition) c r (completed_for p r) n k (completed_grows c p r e)

arrived_grows : (number : ℕ) (target : State) (c : Component) (p : Pending) → c.pending ≡ Some p → p.target ≡ target → Says (Tells c Transition) c (arrived_at number target p c)
arrived_grows number Idle c p e t = either (is_down c.state)
    (λ d. rw d (told_target Idle c (reached p c) p refl refl e t))
    (λ u. rw u (
    let r : Component = with_part (restarted c) (reached p c) in
    let m = completed_for p r in
    says_on (Tells c Transition) c m (lost_by p m) (told_client c r p refl refl e) (lost_grows (λ x. ⊥) p m)))
arrived_grows number Loaded c p e t = told_client c (all_given_back (reached p c)) p refl refl e
arrived_grows number Executing c p e t = told_target Executing c (reached p c) p refl refl e t
arrived_grows number Pause c p e t = told_target Pause c (reached p c) p refl refl e t
arrived_grows number WaitForResources c p e t = told_target WaitForResources c (record (reached p c) { waiting = Some number }) p refl refl e t
arrived_grows number Invalid c p e t = told_target Invalid c (reached p c) p refl refl e t

pub arrival_grows : (number : ℕ) (c : Component) (p : Pending) → c.pending ≡ Some p → Says (Tells c Transition) c (arrived number p c)
arrival_grows number c p e = arrived_grows number p.target c p e refl

-- ---- what a port's mode tells

pub mode_grows : (c : Component) (port : ℕ) (p : Port) (d : Component) (mode : Mode) → port_of c port ≡ Some p → p.state.mode ≡ mode → Says (Tells c (PortMode port)) d (all_told (mode_completion mode port) d)
mode_grows c port p d Steady e m = says_not (Tells c (PortMode port)) d d refl refl
mode_grows c port p d Enabling e m =
    let there : WasIn Enabling (port_of c port) = rw e m in
    says (Tells c (PortMode port)) (completions.Enable port) d (refl, there)
mode_grows c port p d Disabling e m =
    let there : WasIn Disabling (port_of c port) = rw e m in
    says (Tells c (PortMode port)) (completions.Disable port) d (refl, there)

-- ---- how the state changes

-- a transition leaves nothing pending, or Loaded by loss
abbrev pub IsAfter : Option Pending → Type 0
IsAfter pending = (pending ≡ None) ⊎ (pending ≡ Some (record { target = Loaded; cause = causes.Loss }))

abbrev pub Passes : Component → Thing → Component → Type 0
Passes c Transition d = (p : Pending) × (c.pending ≡ Some p) × (d.state ≡ p.target) × IsAfter d.pending
Passes c (Flush port) d = (d.state ≡ c.state) × (d.pending ≡ c.pending)
Passes c (PortMode port) d = (d.state ≡ c.state) × (d.pending ≡ c.pending)
Passes c (WaitingMark port) d = (d.state ≡ c.state) × (d.pending ≡ c.pending)

-- the component is in the state, with what may then be pending
abbrev Rests : State → Component → Type 0
Rests state d = (d.state ≡ state) × IsAfter d.pending

client_rests : (p : Pending) (d : Component) (state : State) → Rests state d → Rests state (completed_for p d)
client_rests p d state h = either (is_by_client p.cause) (λ t. rw t h) (λ f. rw f h)

lost_rests : (p : Pending) (d : Component) (state : State) → Rests state d → Rests state (lost_by p d)
lost_rests p d state h = either (d.loss_mark || not (is_by_client p.cause)) (λ t. rw t (h.0, inr refl)) (λ f. rw f h)

arrived_rests : (number : ℕ) (target : State) (c : Component) (p : Pending) → Rests p.target (arrived_at number target p c)
arrived_rests number Idle c p = either (is_down c.state)
    (λ d. rw d (refl, inl refl))
    (λ u.
    let r : Component = with_part (restarted c) (reached p c) in
    rw u (lost_rests p (completed_for p r) p.target (client_rests p r p.target (refl, inl refl))))
arrived_rests number Loaded c p = client_rests p (all_given_back (reached p c)) p.target (refl, inl refl)
arrived_rests number Executing c p = (refl, inl refl)
arrived_rests number Pause c p = (refl, inl refl)
arrived_rests number WaitForResources c p = (refl, inl refl)
arrived_rests number Invalid c p = (refl, inl refl)

pub arrival_passes : (number : ℕ) (c : Component) (p : Pending) → c.pending ≡ Some p → Passes c Transition (arrived number p c)
arrival_passes number c p e = let r = arrived_rests number p.target c p in (p, e, r.0, r.1)

pub mode_passes : (mode : Mode) (port : ℕ) (d : Component) → ((all_told (mode_completion mode port) d).state ≡ d.state) × ((all_told (mode_completion mode port) d).pending ≡ d.pending)
mode_passes Steady port d = (refl, refl)
mode_passes Enabling port d = (refl, refl)
mode_passes Disabling port d = (refl, refl)
