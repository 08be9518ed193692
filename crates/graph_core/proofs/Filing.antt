-- A file comes to a component of a graph.
use Rattle.std.proofs.Common.{◌≡◌, ℕ, ◌≤◌, List, set, Option, Some, None, slice_get, refl, sym, ◌∙◌, ap, subst, length-set}
use Rattle.part_api.specs.declared.attached.Attached.{Attached}
use Rattle.part_api.specs.declared.attached.Attached.TheVariants.{From, To}
use Rattle.il_machine.specs.declared.answer.Progress.{Progress}
use Rattle.il_machine.specs.World.{Component}
use Rattle.il_machine.specs.Look.{Look}
use Rattle.il_machine.specs.Files.{Offered, attached, attach_refusal, with_file}
use Rattle.il_machine.specs.Sound.{Sound}
use Rattle.il_machine.specs.Whole.{Kept}
use Rattle.machine_laws.proofs.Attaching.{sound_attached}
use Rattle.machine_laws.specs.Changes.{IsChange}
use Rattle.registry.specs.Handles.{Handles}
use Rattle.port_stock.specs.Kept.{StockKept, stocked}
use Rattle.stock_laws.specs.Bare.{StepsBare}
use Rattle.stock_laws.proofs.Lifting.{with_look}
use Rattle.stock_laws.proofs.Filing.{lift_filed}
use Rattle.il_component.specs.Entries.{Entry, component_of, KeepsNotices}
use Rattle.il_component.specs.Files.{offered}
use Rattle.graph_core.specs.Standing.{IsGraph}
use Rattle.graph_core.specs.Entries.{Entries, kept, changed_at}
use Rattle.graph_core.proofs.Registering.{set_sound}
use Rattle.graph_core.proofs.Waiters.{waiters_set, few_alike}
use Rattle.graph_core.proofs.Replacing.{there, next_world, kept_changed, ports_changed}

-- what is told of a file doesn't matter
pub attached_is : (file : Attached) (there : ℕ) (known : Option (List ℕ)) → attached (offered file there known) ≡ file
attached_is (From format frames) there known = refl
attached_is (To frames) there known = refl

-- the component with the file
abbrev pub filed : Attached → Component → Component
filed file c = record c { file = Some file }

change_filed : (file : Attached) (c : Component) → IsChange c (filed file c)
change_filed file c = record { handle = refl; ports = refl; links = refl; notes = refl }

module _ {C : Type 0} (progress : C → Progress) where
  pub steps_filed : (g : Entries C) (i : ℕ) (e d : Entry C) (file : Offered) → slice_get g.entries i ≡ Some e → KeepsNotices e d → component_of d ≡ filed (attached file) (component_of e)
      → StepsBare (kept progress g) (kept progress (changed_at i d g)) (λ w v. v ≡ with_file i (component_of e) file w)
  steps_filed g i e d file at N is =
      subst (λ (k : Kept). StepsBare (kept progress g) k (λ w v. v ≡ with_file i (component_of e) file w))
      (sym (kept_changed progress g i e d at N ∙ ap (λ (c : Component). with_look i c (kept progress g)) is))
      (lift_filed (kept progress g) i (component_of e) file (there progress g i e at))

  pub graph_filed : (es : List (Entry C)) (registry : Handles ℕ) (stock : StockKept) (units waits capacity i : ℕ) (e d : Entry C) (file : Offered) → IsGraph progress es registry stock units waits capacity → slice_get es i ≡ Some e → KeepsNotices e d
      → component_of d ≡ filed (attached file) (component_of e) → attach_refusal (component_of e) file ≡ None → IsGraph progress (set es i d) registry stock units waits capacity
  graph_filed es registry stock units waits capacity i e d file G at N is ok =
      let g : Entries C = record { entries = es; stock = stock; units = units; waits = waits; numbered = registry.given } in
      let X : IsChange (component_of e) (component_of d) = subst (IsChange (component_of e)) (sym is) (change_filed (attached file) (component_of e)) in
      record {
        registered = set_sound es registry i e d G.registered at X.handle;
        roomy = G.roomy;
        few = subst (λ (n : ℕ). n ≤ 32) (sym (length-set es i d)) G.few;
        ports = ports_changed progress es (stocked stock) registry.given i e d G.ports at X;
        numbers = waiters_set es i e d waits waits at (few_alike waits e d (ap (λ (c : Component). c.pending) is)) G.numbers;
        worlds = next_world (kept progress g) (kept progress (changed_at i d g)) (λ w v. v ≡ with_file i (component_of e) file w) G.worlds (steps_filed g i e d file at N is)
            (λ w v s f sound.
            let t : slice_get w.components i ≡ Some (component_of e) = ap (λ (l : Look). slice_get l.components i) s.looks ∙ there progress g i e at in
            subst Sound (sym f) (sound_attached w i (component_of e) file sound t ok));
      }
