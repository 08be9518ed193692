-- An Invalid component has nothing pending, and stays Invalid.
use Rattle.std.proofs.Common.{◌≡◌, ℕ, Bool, true, false, not, ◌||◌, List, [], ◌∷◌, Option, Some, None, refl, sym, ◌∙◌, ap}
use Rattle.std.specs.Prelude.{is_some}
use Rattle.omx_types.specs.declared.state.State.{State}
use Rattle.omx_types.specs.declared.state.State.TheVariants.{Invalid, Loaded, Idle, Executing, Pause, WaitForResources}
use Rattle.omx_types.specs.declared.handle.Handle.{Handle}
use Rattle.omx_types.specs.declared.command.Command.{Command}
use Rattle.omx_types.specs.declared.command.Command.TheVariants as commands
use Rattle.omx_types.specs.declared.error.OmxError.{OmxError}
use Rattle.il_machine.specs.declared.answer.Pending.{Pending}
use Rattle.il_machine.specs.States.{is_down, same_state}
use Rattle.il_machine.specs.Room.{is_by_client}
use Rattle.il_machine.specs.World.{Component}
use Rattle.il_machine.specs.Look.{Look}
use Rattle.il_machine.specs.Ports.{is_at_rest}
use Rattle.il_machine.specs.Due.{reached, completed_for, restarted, with_part, all_given_back, lost_by, arrived_at}
use Rattle.il_machine.specs.Commands.{begun, state_fault, carried_out, run_front}
use Rattle.machine_laws.proofs.Finding.{either}
use Rattle.machine_laws.proofs.Accepting.{both_of}
use Rattle.machine_laws.proofs.Granting.{waits_there, preempted_by}
use Rattle.history_laws.proofs.Cores.{Core, core, IsLasting}

-- a transition happened, or a command was begun: the handle and the client object are as they were
pub record KeepsSeat (c d : Component) : Type 0 where
  pub handle : d.handle ≡ c.handle
  pub out : d.client_out ≡ c.client_out
  pub calm : d.state ≡ Invalid → d.pending ≡ None

not_invalid : (s : State) → s ≡ Idle → s ≡ Invalid → ⊥
not_invalid s e f = let k : Idle ≡ Invalid = sym e ∙ f in absurd cc

client_state : (p : Pending) (r : Component) → (completed_for p r).state ≡ r.state
client_state p r = either (is_by_client p.cause) (λ t. rw t refl) (λ f. rw f refl)

loss_keeps : (p : Pending) (c d : Component) → d.state ≡ Idle → KeepsSeat c d → KeepsSeat c (lost_by p d)
loss_keeps p c d e K = either (d.loss_mark || not (is_by_client p.cause))
    (λ t. rw t (record { handle = K.handle; out = K.out; calm = λ i. absurd (not_invalid d.state e i) }))
    (λ f. rw f K)

-- the transition reached what it went to, and a part of the record that is none of this changed
reached_keeps : (p : Pending) (c r : Component) → r.handle ≡ c.handle → r.client_out ≡ c.client_out → r.pending ≡ None → KeepsSeat c (completed_for p r)
reached_keeps p c r h o n = either (is_by_client p.cause)
    (λ t. rw t (record { handle = h; out = o; calm = λ e. n }))
    (λ f. rw f (record { handle = h; out = o; calm = λ e. n }))

pub arrived_keeps : (number : ℕ) (target : State) (p : Pending) (c : Component) → p.target ≡ target → KeepsSeat c (arrived_at number target p c)
arrived_keeps number Idle p c e = either (is_down c.state)
    (λ t. rw t (record { handle = refl; out = refl; calm = λ i. refl }))
    (λ f.
    let r : Component = with_part (restarted c) (reached p c) in
    rw f (loss_keeps p c (completed_for p r) (client_state p r ∙ e) (reached_keeps p c r refl refl refl)))
arrived_keeps number Loaded p c e = reached_keeps p c (all_given_back (reached p c)) refl refl refl
arrived_keeps number Invalid p c e = record { handle = refl; out = refl; calm = λ i. refl }
arrived_keeps number Executing p c e = record { handle = refl; out = refl; calm = λ i. refl }
arrived_keeps number Pause p c e = record { handle = refl; out = refl; calm = λ i. refl }
arrived_keeps number WaitForResources p c e = record { handle = refl; out = refl; calm = λ i. refl }

-- ---- commands

pub record KeepsState (c d : Component) : Type 0 where
  pub handle : d.handle ≡ c.handle
  pub out : d.client_out ≡ c.client_out
  pub state : d.state ≡ c.state
  pub pending : c.state ≡ Invalid → d.pending ≡ c.pending

fault_there : (l : Look) (c : Component) (target : State) → c.state ≡ Invalid → is_some (state_fault l c target) ≡ true
fault_there l c target e = rw e (either (same_state Invalid target) (λ t. rw t refl) (λ f. rw f refl))

begun_keeps : (l : Look) (c : Component) (target : State) (o : Option OmxError) → state_fault l c target ≡ o → KeepsState c (begun o target c)
begun_keeps l c target (Some error) e = record { handle = refl; out = refl; state = refl; pending = λ i. refl }
begun_keeps l c target None e = record {
  handle = refl;
  out = refl;
  state = refl;
  pending = λ i. let k : false ≡ true = sym (ap is_some e) ∙ fault_there l c target i in absurd cc;
}

carried_keeps : (l : Look) (command : Command) (c : Component) → KeepsState c (carried_out l command c)
carried_keeps l (commands.StateSet target) c = begun_keeps l c target (state_fault l c target) refl
carried_keeps l (commands.Flush sel) c = record { handle = refl; out = refl; state = refl; pending = λ i. refl }
carried_keeps l (commands.PortDisable sel) c = record { handle = refl; out = refl; state = refl; pending = λ i. refl }
carried_keeps l (commands.PortEnable sel) c = record { handle = refl; out = refl; state = refl; pending = λ i. refl }
carried_keeps l (commands.MarkBuffer port target value) c = record { handle = refl; out = refl; state = refl; pending = λ i. refl }

pub front_keeps : (l : Look) (cs : List Command) (c : Component) → KeepsState c (run_front l cs c)
front_keeps l [] c = record { handle = refl; out = refl; state = refl; pending = λ i. refl }
front_keeps l (command ∷ rest) c =
    let K = carried_keeps l command (record c { commands = rest }) in
    record { handle = K.handle; out = K.out; state = K.state; pending = K.pending }

-- ---- what lasts

-- Q of the handle and of whether the client object is out; an Invalid component has nothing pending; one whose handle has D is Invalid
abbrev pub Fit : (Handle → Bool → Type 0) → (Handle → Type 0) → Core → Type 0
Fit Q D k = Q k.handle k.out × (k.state ≡ Invalid → k.pending ≡ None) × (D k.handle → k.state ≡ Invalid)

module _ (Q : Handle → Bool → Type 0) (D : Handle → Type 0) (back : (h : Handle) (out : Bool) → Q h out → Q h false) where
  pub lasting : IsLasting (Fit Q D)
  lasting = record {
    arrives = λ number p c e k.
        let K = arrived_keeps number p.target p c refl in (
          (rw (K.handle, K.out) k.0),
          K.calm,
          λ d. let x : None ≡ Some p = sym (k.1 (k.2 (rw K.handle at d))) ∙ e in absurd cc,
        );
    runs = λ l cs c k.
        let K = front_keeps l cs c in (
          (rw (K.handle, K.out) k.0),
          λ i. let s : c.state ≡ Invalid = sym K.state ∙ i in K.pending s ∙ k.1 s,
          λ d. K.state ∙ k.2 (rw K.handle at d),
        );
    drops = λ c k. (k.0, (λ i. refl), (λ d. refl));
    ends = λ c k. (back c.handle c.client_out k.0, k.1, k.2);
    grants = λ c h k.
        let s = waits_there c.state (both_of (same_state c.state WaitForResources) (is_at_rest c) h).0 in (
          k.0,
          (λ i. let x : WaitForResources ≡ Invalid = sym s ∙ i in absurd cc),
          k.2,
        );
    loses = λ c h k.
        let no : c.state ≡ Invalid → ⊥ = λ i. let x : true ≡ false = rw i at h in absurd cc in
        preempted_by (λ d. Fit Q D (core d)) c
        (λ f. (k.0, (λ i. absurd (no i)), k.2))
        (λ t g. (k.0, (λ i. absurd (no i)), k.2))
        (λ t g. (k.0, (λ i. absurd (no i)), k.2));
    returns = λ c k. k;
  }
