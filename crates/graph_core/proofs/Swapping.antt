-- A component of a graph is replaced by one of the same handle with as many ports, so that each sound world stays sound.
use Rattle.std.proofs.Common.{◌≡◌, ◌≢◌, inl, inr, ℕ, ◌<◌, ◌≤◌, List, length, set, Some, slice_get, sym, ◌∙◌, ap, subst, length-set}
use Rattle.std.proofs.lemmas.Bool.Decides.{eqb_tells}
use Rattle.omx_types.specs.declared.handle.Handle.{Handle}
use Rattle.il_machine.specs.declared.answer.Progress.{Progress}
use Rattle.il_machine.specs.World.{World, number_of, with_component}
use Rattle.il_machine.specs.Look.{look}
use Rattle.il_machine.specs.Stock.{Stocked}
use Rattle.il_machine.specs.Sound.{Sound}
use Rattle.registry.specs.Handles.{Handles}
use Rattle.port_stock.specs.Kept.{StockKept, stocked}
use Rattle.port_stock.specs.Conditions.{IsPort}
use Rattle.stock_laws.specs.Parts.{KeepsPart}
use Rattle.stock_laws.proofs.Lists.{get_set_same, get_set_other}
use Rattle.il_component.specs.Entries.{Entry, component_of, KeepsNotices}
use Rattle.graph_core.specs.Standing.{HasPorts, IsGraph}
use Rattle.graph_core.specs.Entries.{Entries, look_of, kept, changed_at}
use Rattle.graph_core.proofs.Registering.{set_sound}
use Rattle.graph_core.proofs.Waiters.{waiters_set, few_alike}
use Rattle.graph_core.proofs.Replacing.{next_world, steps_changed}

module _ {C : Type 0} where
  -- the same handle, as many ports, and the same part
  pub record IsAlike (e d : Entry C) : Type 0 where
    pub handle : d.handle ≡ e.handle
    pub ports : length d.ports ≡ length e.ports
    pub pending : d.pending ≡ e.pending
    pub part : KeepsPart (component_of e) (component_of d)

  pub ports_swapped : (es : List (Entry C)) (s : Stocked) (numbered i : ℕ) (e d : Entry C) → HasPorts es s numbered → slice_get es i ≡ Some e → IsAlike e d → HasPorts (set es i d) s numbered
  ports_swapped es s numbered i e d P at A = record {
    there = λ j x h port b.
        let same : j ≡ i → IsPort (record { component = number_of (component_of x); port = port }) s = λ q.
        let z : Some x ≡ Some d = sym h ∙ rw q (get_set_same es i e d at) in
        let y : x ≡ d = cc in
        let m : number_of (component_of x) ≡ number_of (component_of e) = ap (λ (z : Entry C). z.handle.generation) y ∙ ap (λ (h : Handle). h.generation) A.handle in
        let b' : port < length (component_of e).ports = subst (λ (n : ℕ). port < n) (ap (λ (z : Entry C). length z.ports) y ∙ A.ports) b in
        subst (λ (n : ℕ). IsPort (record { component = n; port = port }) s) (sym m) (P.there i e at port b') in
        let other : j ≢ i → IsPort (record { component = number_of (component_of x); port = port }) s = λ q. P.there j x (sym (get_set_other es i j d q) ∙ h) port b in
        elim (eqb_tells j i) [ inl q ↦ same q.1 | inr q ↦ other q.1 ];
    below = P.below;
  }

  module _ (progress : C → Progress) (es : List (Entry C)) (registry : Handles ℕ) (stock : StockKept) (units waits : ℕ) where
    whole : Entries C
    whole = record { entries = es; stock = stock; units = units; waits = waits; numbered = registry.given }

    pub graph_swapped : (capacity i : ℕ) (e d : Entry C) → IsGraph progress es registry stock units waits capacity → slice_get es i ≡ Some e → KeepsNotices e d → IsAlike e d
        → ((w : World) → look w ≡ look_of (record { entries = es; stock = stock; units = units; waits = waits; numbered = registry.given }) → Sound w → Sound (with_component i (component_of d) w))
        → IsGraph progress (set es i d) registry stock units waits capacity
    unfolding whole
    graph_swapped capacity i e d G at N A keeps = record {
      registered = set_sound es registry i e d G.registered at A.handle;
      roomy = G.roomy;
      few = subst (λ (n : ℕ). n ≤ 32) (sym (length-set es i d)) G.few;
      ports = ports_swapped es (stocked stock) registry.given i e d G.ports at A;
      numbers = waiters_set es i e d waits waits at (few_alike waits e d A.pending) G.numbers;
      worlds = next_world (kept progress whole) (kept progress (changed_at i d whole)) (λ w v. v ≡ with_component i (component_of d) w) G.worlds
          (steps_changed progress whole i e d at N A.part)
          (λ w v s f sound. subst Sound (sym f) (keeps w s.looks sound));
    }
