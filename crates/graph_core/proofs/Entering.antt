-- What a graph is after one of its components took a command, carried one out, gained its units or lost them, or got a value.
use Rattle.std.proofs.Common.{◌≡◌, ℕ, ◌+◌, ◌≤◌, Bool, List, length, set, Some, None, slice_get, refl, sym, ◌∙◌, ap, subst}
use Rattle.omx_types.specs.declared.command.Command.{Command}
use Rattle.omx_types.specs.declared.param.Param.{Param}
use Rattle.omx_types.specs.declared.param.ParamKey.{ParamKey}
use Rattle.omx_types.specs.declared.state.State.TheVariants.{WaitForResources}
use Rattle.il_machine.specs.declared.answer.Progress.{Progress}
use Rattle.il_machine.specs.Commands.{sent, send_refusal, run_idle, run_front}
use Rattle.il_machine.specs.Due.{first_due}
use Rattle.il_machine.specs.Headers.{weight}
use Rattle.il_machine.specs.Look.{Look, look}
use Rattle.il_machine.specs.Parameters.{with_value}
use Rattle.il_machine.specs.Ports.{is_going_to}
use Rattle.il_machine.specs.Sound.{Sound, IsSound}
use Rattle.il_machine.specs.Units.{need_of, free_units, granted_units, preempted_units}
use Rattle.il_machine.specs.World.{Component, with_component}
use Rattle.machine_laws.proofs.Change.{out_there}
use Rattle.machine_laws.proofs.Granting.{sound_granted, change_granted, fair_granted, sound_preempted, change_preempted, fair_preempted}
use Rattle.machine_laws.proofs.Running.{sound_run, change_run, fair_run}
use Rattle.machine_laws.proofs.Sending.{sound_sent, change_sent, fair_sent}
use Rattle.machine_laws.proofs.Units.{IsFair, fair_more, resources_of}
use Rattle.registry.specs.Handles.{Handles}
use Rattle.port_stock.specs.Kept.{StockKept}
use Rattle.il_component.specs.Entries.{Entry, component_of, KeepsNotices}
use Rattle.graph_core.specs.Entries.{Entries, look_of}
use Rattle.graph_core.specs.Making.{value_refusal}
use Rattle.graph_core.specs.Standing.{IsGraph}
use Rattle.graph_core.proofs.Granting.{MayGain, MayLose, part_granted, few_granted, part_preempted, few_preempted, units_there}
use Rattle.graph_core.proofs.Replacing.{there, component_sound, graph_changed}
use Rattle.graph_core.proofs.RunNumbers.{few_sent, run_few}
use Rattle.graph_core.proofs.SameParts.{part_as, part_sent, part_run, part_value, handle_value, ports_value, pending_value}
use Rattle.graph_core.proofs.Setting.{sound_value}
use Rattle.graph_core.proofs.Stepping.{at_world}
use Rattle.graph_core.proofs.Swapping.{graph_swapped}
use Rattle.graph_core.proofs.Waiters.{waiters_set}

module _ {C : Type 0} (progress : C → Progress) (es : List (Entry C)) (registry : Handles ℕ) (stock : StockKept) (units waits capacity i : ℕ) (e d : Entry C)
    (G : IsGraph progress es registry stock units waits capacity) (at : slice_get es i ≡ Some e) (N : KeepsNotices e d) where
  abbrev whole : Entries C
  whole = record { entries = es; stock = stock; units = units; waits = waits; numbered = registry.given }

  sound_there : IsSound (component_of e)
  sound_there = component_sound progress whole i (component_of e) G.worlds (there progress whole i e at)

  -- no more components are on their way to wait than before
  few_then : (change : Component → Component) → component_of d ≡ change (component_of e) → waits + weight (is_going_to WaitForResources (change (component_of e))) ≤ waits + weight (is_going_to WaitForResources (component_of e))
      → waits + weight (is_going_to WaitForResources (component_of d)) ≤ waits + weight (is_going_to WaitForResources (component_of e))
  few_then change q few = subst (λ (x : Component). waits + weight (is_going_to WaitForResources x) ≤ waits + weight (is_going_to WaitForResources (component_of e))) (sym q) few

  pub sent_graph : (command : Command) → component_of d ≡ sent command (component_of e) → send_refusal (look_of whole) (component_of e) command ≡ None → IsGraph progress (set es i d) registry stock units waits capacity
  sent_graph command q r =
      graph_changed progress es registry stock units waits capacity i e d G at N (part_as (component_of e) (component_of d) (sent command (component_of e)) q (part_sent command (component_of e)))
      (rw q (change_sent command (component_of e))) (rw q (sound_sent (look_of whole) command (component_of e) sound_there r))
      (λ w s sound.
      let t : slice_get w.components i ≡ Some (component_of e) = at_world progress whole i e w s at in
      subst (IsFair (free_units (look w)) w.waits w.waits (component_of e)) (sym q)
      (fair_more (free_units (look w)) w.waits w.waits (component_of e) (sent command (component_of e)) (fair_sent w.waits command (component_of e) ((resources_of w sound).each i (component_of e) t) (out_there w i (component_of e) sound t))))
      (waiters_set es i e d waits waits at (few_then (sent command) q (few_sent waits command (component_of e))) G.numbers)

  pub run_graph : component_of d ≡ run_front (look_of whole) (component_of e).commands (component_of e) → run_idle (component_of e) (component_of e).commands ≡ None → first_due (look_of whole) ≡ None
      → IsGraph progress (set es i d) registry stock units waits capacity
  run_graph q r closed =
      graph_changed progress es registry stock units waits capacity i e d G at N
      (part_as (component_of e) (component_of d) (run_front (look_of whole) (component_of e).commands (component_of e)) q (part_run (look_of whole) (component_of e).commands (component_of e)))
      (rw q (change_run (look_of whole) (component_of e))) (rw q (sound_run (look_of whole) (component_of e) sound_there r))
      (λ w s sound.
      let t : slice_get w.components i ≡ Some (component_of e) = at_world progress whole i e w s at in
      subst (λ (l : Look). IsFair (free_units l) w.waits w.waits (component_of e) (component_of d)) (sym s.looks)
      (subst (IsFair (free_units (look_of whole)) w.waits w.waits (component_of e)) (sym q)
      (fair_run (look_of whole) w.waits (component_of e) ((resources_of w sound).each i (component_of e) t) (out_there w i (component_of e) sound t) r)))
      (run_few (look_of whole) whole i e d at closed refl q G.numbers)

  pub granted_graph : component_of d ≡ granted_units (component_of e) → MayGain (look_of whole) (component_of e) → IsGraph progress (set es i d) registry stock units waits capacity
  granted_graph q M =
      graph_changed progress es registry stock units waits capacity i e d G at N (part_as (component_of e) (component_of d) (granted_units (component_of e)) q (part_granted (component_of e)))
      (rw q (change_granted (component_of e))) (rw q (sound_granted (component_of e) sound_there M.waits M.room))
      (λ w s sound.
      let t : slice_get w.components i ≡ Some (component_of e) = at_world progress whole i e w s at in
      subst (IsFair (free_units (look w)) w.waits w.waits (component_of e)) (sym q)
      (fair_granted (free_units (look w)) w.waits (component_of e) ((resources_of w sound).each i (component_of e) t) M.waits (subst (λ (l : Look). need_of (component_of e) ≤ free_units l) (sym s.looks) M.need) (out_there w i (component_of e) sound t)))
      (waiters_set es i e d waits waits at (few_then granted_units q (few_granted waits (component_of e))) G.numbers)

  pub preempted_graph : component_of d ≡ preempted_units (component_of e) → MayLose (component_of e) → IsGraph progress (set es i d) registry stock units waits capacity
  preempted_graph q M =
      graph_changed progress es registry stock units waits capacity i e d G at N (part_as (component_of e) (component_of d) (preempted_units (component_of e)) q (part_preempted (component_of e)))
      (rw q (change_preempted (component_of e))) (rw q (sound_preempted (G.worlds).world.waits (component_of e) sound_there (units_there progress whole i e G.worlds at) M.victim M.room))
      (λ w s sound.
      let t : slice_get w.components i ≡ Some (component_of e) = at_world progress whole i e w s at in
      subst (IsFair (free_units (look w)) w.waits w.waits (component_of e)) (sym q)
      (fair_more (free_units (look w)) w.waits w.waits (component_of e) (preempted_units (component_of e)) (fair_preempted w.waits (component_of e) ((resources_of w sound).each i (component_of e) t) M.victim (out_there w i (component_of e) sound t))))
      (waiters_set es i e d waits waits at (few_then preempted_units q (few_preempted waits (component_of e))) G.numbers)

  pub value_graph : (key : ParamKey) (config : Bool) (value : Param) → component_of d ≡ with_value key value (component_of e) → value_refusal config (look_of whole).headers (component_of e) key value ≡ None
      → IsGraph progress (set es i d) registry stock units waits capacity
  value_graph key config value q r =
      graph_swapped progress es registry stock units waits capacity i e d G at N
      (record {
        handle = ap (λ (x : Component). x.handle) q ∙ handle_value key value (component_of e);
        ports = ap (λ (x : Component). length x.ports) q ∙ ports_value key value (component_of e);
        pending = ap (λ (x : Component). x.pending) q ∙ pending_value key value (component_of e);
        part = part_as (component_of e) (component_of d) (with_value key value (component_of e)) q (part_value key value (component_of e));
      })
      (λ w l S.
      let t : slice_get w.components i ≡ Some (component_of e) = ap (λ (x : Look). slice_get x.components i) l ∙ there progress whole i e at in
      let ok : value_refusal config (look w).headers (component_of e) key value ≡ None = subst (λ (x : Look). value_refusal config x.headers (component_of e) key value ≡ None) (sym l) r in
      subst (λ (x : Component). Sound (with_component i x w)) (sym q) (sound_value config w i (component_of e) key value S t ok))
