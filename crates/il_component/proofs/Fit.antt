-- A component's record asks of its queue the places that the machine says are taken or reserved.
use Rattle.std.proofs.Common.{◌≡◌, ◌≤◌, ℕ, suc, ◌+◌, Bool, List, [], ◌∷◌, ◌++◌, length, map, sum_by, All, Option, None, refl, sym, ◌∙◌, ap, cond, ◌-◌, arith}
use Rattle.std.proofs.lemmas.List.Sums.{sum_by-cons, sum_by_push}
use Rattle.omx_types.specs.declared.state.State.{State}
use Rattle.omx_types.specs.declared.command.Command.{Command}
use Rattle.omx_types.specs.declared.command.Command.TheVariants as commands
use Rattle.omx_types.specs.declared.command.PortSel.{PortSel}
use Rattle.omx_types.specs.declared.command.PortSel.TheVariants as sels
use Rattle.omx_types.specs.declared.command.Event.{Event}
use Rattle.omx_types.specs.declared.command.Note.TheVariants as machine
use Rattle.il_machine.specs.declared.answer.Pending.{Pending}
use Rattle.il_machine.specs.declared.port.PortState.{PortState}
use Rattle.il_machine.specs.World.{Component, Work, told}
use Rattle.il_machine.specs.Room.{sel_cost, cost_of, used, room, events_in, is_event, port_reserve, work_reserve}
use Rattle.note_queues.specs.declared.taken.QueuedCommand.{QueuedCommand}
use Rattle.note_queues.specs.declared.taken.Taken.{Taken}
use Rattle.note_queues.specs.declared.taken.Taken.TheVariants.{Told, EmptyDone, FillDone}
use Rattle.note_queues.specs.Queues.{Queues, command_of, notes_of, costs, holding}
use Rattle.note_queues.specs.Queues as queues
use Rattle.il_component.specs.Places.{reserve_of}
use Rattle.il_component.specs.Entries.{Entry, component_of, HasCost, IsFit, noticed_of, held_in}

-- ---- the costs of commands

same_sel : (c d : Component) → length c.ports ≡ length d.ports → (sel : PortSel) → sel_cost c sel ≡ sel_cost d sel
same_sel c d e (sels.One port) = refl
same_sel c d e sels.All = e

-- what a command reserves is told by the number of ports
pub same_cost : (c d : Component) → length c.ports ≡ length d.ports → (command : Command) → cost_of c command ≡ cost_of d command
same_cost c d e (commands.StateSet target) = refl
same_cost c d e (commands.Flush sel) = same_sel c d e sel
same_cost c d e (commands.PortDisable sel) = same_sel c d e sel
same_cost c d e (commands.PortEnable sel) = same_sel c d e sel
same_cost c d e (commands.MarkBuffer port target value) = refl

pub same_costs : (c d : Component) → length c.ports ≡ length d.ports → (cs : List Command) → sum_by (cost_of c) cs ≡ sum_by (cost_of d) cs
same_costs c d e [] = refl
same_costs c d e (command ∷ cs) = omega (arith, sum_by-cons (cost_of c) command cs, sum_by-cons (cost_of d) command cs, same_cost c d e command, same_costs c d e cs)

pub kept_costs : (c d : Component) (qs : List QueuedCommand) → length c.ports ≡ length d.ports → All (HasCost c) qs → All (HasCost d) qs
kept_costs c d qs e costs = λ k x b. costs k x b ∙ same_cost c d e _

queued_costs : (c : Component) (qs : List QueuedCommand) → All (HasCost c) qs → sum_by (cost_of c) (map command_of qs) ≡ sum_by queues.cost_of qs
queued_costs c [] costs = refl
queued_costs c (q ∷ qs) costs =
    let here : q.cost ≡ cost_of c q.command = costs 0 q (omega arith) in
    let later : All (HasCost c) qs = λ k x b. costs (suc k) x (omega arith) in
    omega (arith, sum_by-cons (cost_of c) q.command (map command_of qs), sum_by-cons queues.cost_of q qs, here, queued_costs c qs later)

-- ---- one more event

pub used-told : (event : Event) (c : Component) → used (told event c) ≡ used c + 1
used-told event c = omega (arith, sum_by_push (λ n. cond (is_event n) 1 0) c.notes (machine.Told event), same_costs (told event c) c refl c.commands)

pub roomy : (c d : Component) (n : ℕ) → c ≡ d → used d + n ≤ 256 → n ≤ room c
roomy c d n e b = rw e (omega (arith, b))

pub held_in-told : (ts : List Taken) (event : Event) → held_in (ts ++ Told event ∷ []) ≡ held_in ts
held_in-told [] event = refl
held_in-told (Told x ∷ ts) event = held_in-told ts event
held_in-told (EmptyDone header ∷ ts) event = ap (λ hs. noticed_of header ∷ hs) (held_in-told ts event)
held_in-told (FillDone header ∷ ts) event = ap (λ hs. noticed_of header ∷ hs) (held_in-told ts event)

-- ---- records that fit

module _ {C : Type 0} where
  -- the places of the machine's component are those of its events, its commands and its record
  pub used-entry : (e : Entry C) → All (HasCost (component_of e)) e.queues.commands → used (component_of e) ≡ events_in (notes_of e.queues) + costs e.queues + reserve_of e.pending e.loss_mark e.ports e.work
  used-entry e costs = omega (arith, queued_costs (component_of e) e.queues.commands costs)

  -- of an entry that fits they are those of its queue
  pub used-fit : (e : Entry C) → IsFit e → used (component_of e) ≡ queues.used e.queues
  used-fit e fit = used-entry e fit.costs ∙ ap (λ places. events_in (notes_of e.queues) + costs e.queues + places) (sym fit.reserve)

  pub room-fit : (e : Entry C) → IsFit e → room (component_of e) ≡ queues.room e.queues
  room-fit e fit = ap (λ n. 256 - n) (used-fit e fit)

  -- what the queue holds, once the record asks for other places
  abbrev pub resettled : State → Option Pending → Bool → List PortState → Entry C → Entry C
  resettled state pending loss_mark ports e = record e {
    state = state;
    pending = pending;
    loss_mark = loss_mark;
    ports = ports;
    queues = holding (reserve_of pending loss_mark ports e.work) e.queues;
  }

  pub fit-resettled : (e : Entry C) → IsFit e → (state : State) (pending : Option Pending) (loss_mark : Bool) (ports : List PortState) → length ports ≡ length e.ports → IsFit (resettled state pending loss_mark ports e)
  fit-resettled e fit state pending loss_mark ports same = record {
    whole = fit.whole;
    ports = same ∙ fit.ports;
    queue_ports = fit.queue_ports;
    reserve = refl;
    costs = kept_costs (component_of e) (component_of (resettled state pending loss_mark ports e)) e.queues.commands (sym same) fit.costs;
  }

  pub used-resettled : (e : Entry C) → IsFit e → (state : State) (pending : Option Pending) (loss_mark : Bool) (ports : List PortState) → length ports ≡ length e.ports
      → used (component_of (resettled state pending loss_mark ports e)) ≡ events_in (notes_of e.queues) + costs e.queues + reserve_of pending loss_mark ports e.work
  used-resettled e fit state pending loss_mark ports same =
      used-entry (resettled state pending loss_mark ports e) (kept_costs (component_of e) (component_of (resettled state pending loss_mark ports e)) e.queues.commands (sym same) fit.costs)

  -- with another work out, or none
  pub used-reworked : (e : Entry C) → IsFit e → (work : Option Work) → used (component_of (record e { work = work })) ≡ events_in (notes_of e.queues) + costs e.queues + reserve_of e.pending e.loss_mark e.ports work
  used-reworked e fit work = used-entry (record e { work = work }) (kept_costs (component_of e) (component_of (record e { work = work })) e.queues.commands refl fit.costs)

  -- without one no more is reserved
  pub used-workless : (e : Entry C) → IsFit e → used (component_of (record e { work = None })) + work_reserve e.work ≡ used (component_of e)
  used-workless e fit = omega (arith, used-reworked e fit None, used-entry e fit.costs)

  -- with other commands and notes
  pub fit-requeued : (e : Entry C) → IsFit e → (q : Queues C) → q.ports ≡ e.queues.ports → q.reserve ≡ e.queues.reserve → All (HasCost (component_of e)) q.commands → IsFit (record e { queues = q })
  fit-requeued e fit q ports places costs = record {
    whole = fit.whole;
    ports = fit.ports;
    queue_ports = ports ∙ fit.queue_ports;
    reserve = places ∙ fit.reserve;
    costs = kept_costs (component_of e) (component_of (record e { queues = q })) q.commands refl costs;
  }

  -- with other settings of the ports' states and of what reserves no place
  pub fit_again : (e d : Entry C) → IsFit e → d.settings ≡ e.settings → length d.ports ≡ length e.ports → sum_by port_reserve d.ports ≡ sum_by port_reserve e.ports → d.queues ≡ e.queues
      → d.pending ≡ e.pending → d.loss_mark ≡ e.loss_mark → d.work ≡ e.work → IsFit d
  fit_again e d F s l p q a b w = record {
    whole = rw s F.whole;
    ports = rw s (l ∙ F.ports);
    queue_ports = rw (q, s) F.queue_ports;
    reserve = rw (q, p, a, b, w) F.reserve;
    costs = rw q (kept_costs (component_of e) (component_of d) e.queues.commands (sym l) F.costs);
  }
