-- One component of a graph is replaced: what is kept then, and the worlds that it stands for.
use Rattle.std.proofs.Common.{◌≡◌, ◌≢◌, inl, inr, MatchOption, IsSomeAnd, ℕ, ◌+◌, Bool, ◌<◌, ◌≤◌, List, [], ◌∷◌, length, set, map, Option, Some, option_map, slice_get, is_none, refl, sym, ◌∙◌, ap, subst, length-set}
use Rattle.std.proofs.lemmas.Option.{slice_get-map, slice_get_within, get_or_from_slice_get}
use Rattle.std.proofs.lemmas.List.{length-map}
use Rattle.std.proofs.lemmas.Bool.Decides.{eqb_tells}
use Rattle.omx_types.specs.declared.handle.Handle.{Handle}
use Rattle.il_machine.specs.Stock.{Stocked}
use Rattle.machine_laws.specs.Changes.{IsChange, link_of}
use Rattle.machine_laws.proofs.Change.{sound_taking_units}
use Rattle.machine_laws.proofs.Units.{IsFair}
use Rattle.port_stock.specs.Kept.{StockKept, stocked}
use Rattle.port_stock.specs.Conditions.{IsPort}
use Rattle.registry.specs.Handles.{Handles}
use Rattle.stock_laws.proofs.Following.{as_change}
use Rattle.il_machine.specs.declared.answer.Progress.{Progress}
use Rattle.il_machine.specs.World.{Component, World, number_of, with_component, place_of, is_at}
use Rattle.il_machine.specs.Places.{first_place}
use Rattle.il_machine.proofs.Places.{is_first_place}
use Rattle.il_machine.specs.Look.{Look, look}
use Rattle.il_machine.specs.Units.{free_units}
use Rattle.il_machine.specs.Whole.{Kept}
use Rattle.stock_laws.specs.Bare.{StandsBare, StepsBare}
use Rattle.il_machine.specs.Sound.{Sound, IsSound}
use Rattle.stock_laws.proofs.Lists.{map_set, get_set_same, get_set_other}
use Rattle.stock_laws.proofs.Entries.{set_same, held_same}
use Rattle.stock_laws.specs.Parts.{KeepsPart}
use Rattle.stock_laws.proofs.Lifting.{with_look, lift_component}
use Rattle.il_component.specs.Entries.{Entry, component_of, KeepsNotices}
use Rattle.graph_core.specs.Standing.{SoundWorld, HasPorts, IsGraph}
use Rattle.graph_core.proofs.Registering.{set_sound, some_within}
use Rattle.graph_core.specs.Entries.{Entries, components_of, look_of, waiters, noticed_in, held_by, progress_at, kept, changed_at, component_at, entry_place, is_entry_at}

module _ {C : Type 0} (progress : C → Progress) where
  progress_kept : (e d : Entry C) → KeepsNotices e d → progress_at progress d ≡ progress_at progress e
  progress_kept e d N = ap (λ (x : Option C). option_map progress x) N.client

  pub kept_changed : (g : Entries C) (i : ℕ) (e d : Entry C) → slice_get g.entries i ≡ Some e → KeepsNotices e d → kept progress (changed_at i d g) ≡ with_look i (component_of d) (kept progress g)
  kept_changed g i e d at N =
      let cs : components_of (set g.entries i d) ≡ set (components_of g.entries) i (component_of d) = map_set component_of g.entries i d in
      let there : slice_get (map (progress_at progress) g.entries) i ≡ Some (progress_at progress e) = slice_get-map (progress_at progress) g.entries i ∙ ap (option_map (progress_at progress)) at in
      let cl : map (progress_at progress) (set g.entries i d) ≡ map (progress_at progress) g.entries =
      map_set (progress_at progress) g.entries i d ∙ (ap (λ (x : Option Progress). set (map (progress_at progress) g.entries) i x) (progress_kept e d N) ∙ set_same (map (progress_at progress) g.entries) i (progress_at progress e) there) in
      let ns : noticed_in (set g.entries i d) ≡ noticed_in g.entries = held_same held_by g.entries i e d at N.headers in
      λ j. record {
        looks = record (look_of g) { components = cs j };
        clients = cl j;
        loads = (kept progress g).loads;
        noticed = ns j;
        parts = [];
      }

  pub there : (g : Entries C) (i : ℕ) (e : Entry C) → slice_get g.entries i ≡ Some e → component_at i g ≡ Some (component_of e)
  there g i e at = slice_get-map component_of g.entries i ∙ ap (option_map component_of) at

  -- the component of the place becomes d's, in each world
  pub steps_changed : (g : Entries C) (i : ℕ) (e d : Entry C) → slice_get g.entries i ≡ Some e → KeepsNotices e d → KeepsPart (component_of e) (component_of d)
      → StepsBare (kept progress g) (kept progress (changed_at i d g)) (λ w v. v ≡ with_component i (component_of d) w)
  steps_changed g i e d at N K =
      subst (λ (k : Kept). StepsBare (kept progress g) k (λ w v. v ≡ with_component i (component_of d) w)) (sym (kept_changed g i e d at N))
      (lift_component (kept progress g) i (component_of e) (component_of d) (there g i e at) K (ap (λ (x : Option C). is_none x) N.client))

-- what a step leaves stands for a sound world, if the step keeps a world sound
pub next_world : (a b : Kept) (F : World → World → Type 0) → SoundWorld a → StepsBare a b F → ((w v : World) → StandsBare a w → F w v → Sound w → Sound v) → SoundWorld b
next_world a b F S f keeps = let x = f S.world S.stands in record { world = x.0; stands = x.1; sound = keeps S.world x.0 S.stands x.2 S.sound }

-- ---- what is true of a graph stays when one of its components changes

module _ {C : Type 0} (progress : C → Progress) where
  pub within : (g : Entries C) (i : ℕ) (P : Component → Type 0) → IsSomeAnd (component_at i g) P → i < length g.entries
  within g i P h = subst (λ (n : ℕ). i < n) (length-map g.entries component_of) (some_within (components_of g.entries) i P h)

  -- the component of the place, in the sound world that the graph stands for
  pub component_sound : (g : Entries C) (i : ℕ) (c : Component) → SoundWorld (kept progress g) → component_at i g ≡ Some c → IsSound c
  component_sound g i c W at =
      let cs : W.world.components ≡ components_of g.entries = ap (λ (l : Look). l.components) W.stands.looks in
      let h : slice_get W.world.components i ≡ Some c = ap (λ (xs : List Component). slice_get xs i) cs ∙ at in
      let b = slice_get_within W.world.components i c h in
      subst IsSound (get_or_from_slice_get W.world.components i c c h) (W.sound.components i c b)

  pub changed_worlds : (g : Entries C) (i : ℕ) (e d : Entry C) → SoundWorld (kept progress g) → slice_get g.entries i ≡ Some e → KeepsNotices e d → KeepsPart (component_of e) (component_of d) → IsChange (component_of e) (component_of d) → IsSound (component_of d)
      → ((w : World) → StandsBare (kept progress g) w → Sound w → IsFair (free_units (look w)) w.waits w.waits (component_of e) (component_of d)) → SoundWorld (kept progress (changed_at i d g))
  changed_worlds g i e d W at N K X S F = next_world (kept progress g) (kept progress (changed_at i d g)) (λ w v. v ≡ with_component i (component_of d) w) W
      (steps_changed progress g i e d at N K)
      (λ w v s f sound.
      let h : slice_get w.components i ≡ Some (component_of e) = ap (λ (l : Look). slice_get l.components i) s.looks ∙ there progress g i e at in
      subst Sound (sym f) (sound_taking_units w i (component_of e) (component_of d) sound h X S (F w s sound)))

  pub ports_changed : (es : List (Entry C)) (s : Stocked) (numbered i : ℕ) (e d : Entry C) → HasPorts es s numbered → slice_get es i ≡ Some e → IsChange (component_of e) (component_of d) → HasPorts (set es i d) s numbered
  ports_changed es s numbered i e d P at X = record {
    there = λ j x h port b.
        let l : length (component_of d).ports ≡ length (component_of e).ports = sym (length-map (component_of d).ports link_of) ∙ (ap length X.links ∙ length-map (component_of e).ports link_of) in
        let same : j ≡ i → IsPort (record { component = number_of (component_of x); port = port }) s = λ q.
        let z : Some x ≡ Some d = sym h ∙ rw q (get_set_same es i e d at) in
        let y : x ≡ d = cc in
        let m : number_of (component_of x) ≡ number_of (component_of e) = ap (λ (z : Entry C). number_of (component_of z)) y ∙ ap (λ (h : Handle). h.generation) X.handle in
        let b' : port < length (component_of e).ports = subst (λ (n : ℕ). port < n) (ap (λ (z : Entry C). length (component_of z).ports) y ∙ l) b in
        subst (λ (n : ℕ). IsPort (record { component = n; port = port }) s) (sym m) (P.there i e at port b') in
        let other : j ≢ i → IsPort (record { component = number_of (component_of x); port = port }) s = λ q. P.there j x (sym (get_set_other es i j d q) ∙ h) port b in
        elim (eqb_tells j i) [ inl q ↦ same q.1 | inr q ↦ other q.1 ];
    below = P.below;
  }

  pub graph_changed : (es : List (Entry C)) (registry : Handles ℕ) (stock : StockKept) (units waits capacity i : ℕ) (e d : Entry C) → IsGraph progress es registry stock units waits capacity → slice_get es i ≡ Some e → KeepsNotices e d → KeepsPart (component_of e) (component_of d) → IsChange (component_of e) (component_of d) → IsSound (component_of d)
      → ((w : World) → StandsBare (kept progress (record { entries = es; stock = stock; units = units; waits = waits; numbered = registry.given })) w → Sound w → IsFair (free_units (look w)) w.waits w.waits (component_of e) (component_of d))
      → waits + waiters (set es i d) ≤ 18446744073709551615
      → IsGraph progress (set es i d) registry stock units waits capacity
  graph_changed es registry stock units waits capacity i e d G at N K X S F few = record {
    registered = set_sound es registry i e d G.registered at X.handle;
    roomy = G.roomy;
    few = subst (λ (n : ℕ). n ≤ 32) (sym (length-set es i d)) G.few;
    ports = ports_changed es (stocked stock) registry.given i e d G.ports at X;
    numbers = few;
    worlds = changed_worlds (record { entries = es; stock = stock; units = units; waits = waits; numbered = registry.given }) i e d G.worlds at N K X S F;
  }

  -- the clause of a change of one component
  pub returns_changed : (g : Entries C) (i : ℕ) (e d : Entry C) (F : World → Component → Component) → slice_get g.entries i ≡ Some e → KeepsNotices e d → KeepsPart (component_of e) (component_of d)
      → ((w : World) → StandsBare (kept progress g) w → component_of d ≡ F w (component_of e))
      → MatchOption (component_at i g) ⊥ (λ c. StepsBare (kept progress g) (kept progress (changed_at i d g)) (λ w v. v ≡ with_component i (F w c) w))
  returns_changed g i e d F at N K f =
      rw (there progress g i e at) (as_change (kept progress g) (kept progress (changed_at i d g)) (λ w v. v ≡ with_component i (component_of d) w) (λ w v. v ≡ with_component i (F w (component_of e)) w)
      (steps_changed progress g i e d at N K) (λ w v s h. h ∙ ap (λ (c : Component). with_component i c w) (f w s)))

-- ---- the machine finds the component that a handle names at the same place

pub first_mapped : {X Y : Type 0} (f : X → Y) (p : Y → Bool) (xs : List X) → first_place p (map f xs) ≡ first_place (λ x. p (f x)) xs
first_mapped f p [] = refl
first_mapped f p (x ∷ xs) = rw (first_mapped f p xs) refl

pub entry_place_is : {C : Type 0} (h : Handle) (es : List (Entry C)) → place_of h (components_of es) ≡ entry_place h es
entry_place_is h es = is_first_place (is_at h) (components_of es) ∙ (first_mapped component_of (is_at h) es ∙ sym (is_first_place (is_entry_at h) es))
