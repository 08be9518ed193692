-- A component or the stock of a graph changes: what is true of the graph then.
use Rattle.std.proofs.Common.{◌≡◌, ◌≢◌, inl, inr, ℕ, zero, suc, ◌<◌, ◌≤◌, List, [], ◌∷◌, ◌++◌, length, set, Some, All, slice_get, refl, sym, ◌∙◌, ap, subst, length-set}
use Rattle.std.proofs.lemmas.Option.{slice_get_within}
use Rattle.std.proofs.lemmas.Bool.Decides.{eqb_tells}
use Rattle.std.proofs.lemmas.List.Elements.{All-append, All-nil, All-cons, All-head, All-tail}
use Rattle.omx_types.specs.declared.handle.Handle.{Handle}
use Rattle.il_machine.specs.declared.answer.Progress.{Progress}
use Rattle.il_machine.specs.declared.port.PortKey.{PortKey}
use Rattle.il_machine.specs.declared.port.PortState.{PortState}
use Rattle.il_machine.specs.declared.port.Port.{Port}
use Rattle.il_machine.specs.World.{Component, HeaderRecord, World, number_of, port_of}
use Rattle.il_machine.specs.Headers.{seen}
use Rattle.il_machine.specs.Look.{Look}
use Rattle.il_machine.specs.Stock.{Stocked}
use Rattle.il_machine.specs.Whole.{Noticed}
use Rattle.stock_laws.specs.Bare.{StandsBare, StepsBare}
use Rattle.machine_laws.proofs.Lookups.{rises_at, port_parts}
use Rattle.machine_laws.proofs.Pairs.{apart_numbers}
use Rattle.machine_laws.proofs.Parts.{parts_of}
use Rattle.stock_laws.specs.Entries.{all_held}
use Rattle.stock_laws.proofs.Lists.{get_set_same, get_set_other}
use Rattle.stock_laws.proofs.Noting.{IsOnly}
use Rattle.stock_laws.proofs.Stocking.{with_stock, IsStock, with_headers}
use Rattle.il_component.specs.Entries.{Entry, component_of}
use Rattle.port_stock.specs.Kept.{StockKept, stocked}
use Rattle.port_stock.specs.Conditions.{IsPort}
use Rattle.registry.specs.Handles.{Handles}
use Rattle.graph_core.specs.Standing.{SoundWorld, HasPorts, IsGraph}
use Rattle.graph_core.specs.Entries.{Entries, components_of, kept}
use Rattle.graph_core.proofs.Registering.{set_sound}
use Rattle.graph_core.proofs.Waiters.{waiters_set, few_alike}
use Rattle.graph_core.proofs.Replacing.{there}

-- ---- lists of headers in notes

module _ {X : Type 0} (P : X → Type 0) where
  pub all_left : (xs ys : List X) → All P (xs ++ ys) → All P xs
  all_left [] ys h = All-nil P
  all_left (x ∷ xs) ys h = All-cons P x xs (All-head P x (xs ++ ys) h) (all_left xs ys (All-tail P x (xs ++ ys) h))

  pub all_right : (xs ys : List X) → All P (xs ++ ys) → All P ys
  all_right [] ys h = h
  all_right (x ∷ xs) ys h = all_right xs ys (All-tail P x (xs ++ ys) h)

module _ {E : Type 0} (held : E → List Noticed) (P : Noticed → Type 0) where
  pub held_there : (es : List E) (i : ℕ) (e : E) → slice_get es i ≡ Some e → All P (all_held held es) → All P (held e)
  held_there [] i e at A = absurd cc
  held_there (a ∷ es) zero e at A = let q : a ≡ e = cc in subst (λ (x : E). All P (held x)) q (all_left P (held a) (all_held held es) A)
  held_there (a ∷ es) (suc i) e at A = held_there es i e at (all_right P (held a) (all_held held es) A)

  pub held_each : (es : List E) → ((j : ℕ) (x : E) → slice_get es j ≡ Some x → All P (held x)) → All P (all_held held es)
  held_each [] h = All-nil P
  held_each (a ∷ es) h = All-append P (held a) (all_held held es) (h 0 a refl) (held_each es (λ j x at. h (suc j) x at))

-- ---- the worlds of a graph

module _ {C : Type 0} (progress : C → Progress) where
  pub at_world : (g : Entries C) (i : ℕ) (e : Entry C) (w : World) → StandsBare (kept progress g) w → slice_get g.entries i ≡ Some e → slice_get w.components i ≡ Some (component_of e)
  at_world g i e w S at = ap (λ (l : Look). slice_get l.components i) S.looks ∙ there progress g i e at

  -- no other component has the number
  pub only : (g : Entries C) (i : ℕ) (e : Entry C) → SoundWorld (kept progress g) → slice_get g.entries i ≡ Some e → IsOnly i (component_of e) (components_of g.entries)
  only g i e W at = λ j d h apart.
      let P = parts_of W.world W.sound in
      let cs : W.world.components ≡ components_of g.entries = ap (λ (l : Look). l.components) W.stands.looks in
      let here : slice_get W.world.components j ≡ Some d = ap (λ (xs : List Component). slice_get xs j) cs ∙ h in
      apart_numbers W.world.numbered j i W.world.components d (component_of e) P.rising here (at_world g i e W.world W.stands at) apart

  pub numbered_before : (g : Entries C) (i : ℕ) (e : Entry C) → SoundWorld (kept progress g) → slice_get g.entries i ≡ Some e → number_of (component_of e) < g.numbered
  numbered_before g i e W at =
      let n : W.world.numbered ≡ g.numbered = ap (λ (l : Look). l.numbered) W.stands.looks in
      subst (λ (m : ℕ). number_of (component_of e) < m) n (rises_at 0 W.world.numbered i W.world.components (component_of e) W.sound.rising (at_world g i e W.world W.stands at)).1

  -- ---- the stock

  abbrev pub with_stocked : StockKept → Entries C → Entries C
  with_stocked s g = record g { stock = s }

  pub stock_of : (g : Entries C) → IsStock (stocked g.stock) (kept progress g)
  stock_of g = record { headers = refl; made = refl; loads = refl }

  pub stock_steps : (g : Entries C) (s : StockKept) (t : Stocked) (F : World → World → Type 0) → stocked s ≡ t → StepsBare (kept progress g) (with_stock t (kept progress g)) F → StepsBare (kept progress g) (kept progress (with_stocked s g)) F
  stock_steps g s t F e f = subst (λ (x : Stocked). StepsBare (kept progress g) (with_stock x (kept progress g)) F) (sym e) f

  pub made_is : (w : World) (hs : List HeaderRecord) (m : ℕ) → w.made ≡ m → with_headers hs m w ≡ record w { headers = hs }
  made_is w hs m e = ap (λ (k : ℕ). with_headers hs k w) (sym e)

  pub made_of : (g : Entries C) (w : World) → StandsBare (kept progress g) w → w.made ≡ (stocked g.stock).next
  made_of g w S = ap (λ (l : Look). l.made) S.looks

  pub same_made : (g : Entries C) (w : World) (hs : List HeaderRecord) → StandsBare (kept progress g) w → with_headers hs (stocked g.stock).next w ≡ record w { headers = hs }
  same_made g w hs S = made_is w hs (stocked g.stock).next (made_of g w S)

  pub seen_of : (g : Entries C) (w : World) → StandsBare (kept progress g) w → seen w.headers ≡ (stocked g.stock).headers
  seen_of g w S = ap (λ (l : Look). l.headers) S.looks

  -- ---- what is true of a graph

  ports_set : (es : List (Entry C)) (s : Stocked) (numbered i : ℕ) (e d : Entry C) → HasPorts es s numbered → slice_get es i ≡ Some e → d.handle ≡ e.handle → d.ports ≡ e.ports → HasPorts (set es i d) s numbered
  ports_set es s numbered i e d P at m l = record {
    there = λ j x h port b.
        let same : j ≡ i → IsPort (record { component = number_of (component_of x); port = port }) s = λ q.
        let z : Some x ≡ Some d = sym h ∙ rw q (get_set_same es i e d at) in
        let y : x ≡ d = cc in
        let n : number_of (component_of x) ≡ number_of (component_of e) = ap (λ (v : Entry C). number_of (component_of v)) y ∙ ap (λ (h : Handle). h.generation) m in
        let b' : port < length e.ports = subst (λ (ps : List PortState). port < length ps) (ap (λ (v : Entry C). v.ports) y ∙ l) b in
        subst (λ (k : ℕ). IsPort (record { component = k; port = port }) s) (sym n) (P.there i e at port b') in
        let other : j ≢ i → IsPort (record { component = number_of (component_of x); port = port }) s = λ q. P.there j x (sym (get_set_other es i j d q) ∙ h) port b in
        elim (eqb_tells j i) [ inl q ↦ same q.1 | inr q ↦ other q.1 ];
    below = P.below;
  }

  ports_same : (es : List (Entry C)) (s t : Stocked) (numbered : ℕ) → HasPorts es s numbered → t.ports ≡ s.ports → HasPorts es t numbered
  ports_same es s t numbered P q = record {
    there = λ i e at port b. rw q (P.there i e at port b);
    below = rw q P.below;
  }

  abbrev pub graph_of : List (Entry C) → StockKept → ℕ → ℕ → ℕ → Entries C
  graph_of es stock units waits numbered = record { entries = es; stock = stock; units = units; waits = waits; numbered = numbered }

  -- the entry of a place and the stock change, but for handles and ports
  pub graph_with : (es : List (Entry C)) (registry : Handles ℕ) (stock after : StockKept) (units waits capacity i : ℕ) (e d : Entry C) → IsGraph progress es registry stock units waits capacity → slice_get es i ≡ Some e → d.handle ≡ e.handle → d.ports ≡ e.ports → d.pending ≡ e.pending
      → (stocked after).ports ≡ (stocked stock).ports → SoundWorld (kept progress (graph_of (set es i d) after units waits registry.given))
      → IsGraph progress (set es i d) registry after units waits capacity
  graph_with es registry stock after units waits capacity i e d G at m l m' q W = record {
    registered = set_sound es registry i e d G.registered at m;
    roomy = G.roomy;
    few = subst (λ (n : ℕ). n ≤ 32) (sym (length-set es i d)) G.few;
    ports = ports_set es (stocked after) registry.given i e d (ports_same es (stocked stock) (stocked after) registry.given G.ports q) at m l;
    numbers = waiters_set es i e d waits waits at (few_alike waits e d m') G.numbers;
    worlds = W;
  }

  -- the stock alone changes, but for its ports
  pub graph_stocked : (es : List (Entry C)) (registry : Handles ℕ) (stock after : StockKept) (units waits capacity : ℕ) → IsGraph progress es registry stock units waits capacity
      → (stocked after).ports ≡ (stocked stock).ports → SoundWorld (kept progress (graph_of es after units waits registry.given))
      → IsGraph progress es registry after units waits capacity
  graph_stocked es registry stock after units waits capacity G q W = record {
    registered = G.registered;
    roomy = G.roomy;
    few = G.few;
    ports = ports_same es (stocked stock) (stocked after) registry.given G.ports q;
    numbers = G.numbers;
    worlds = W;
  }

  -- a port of a component is one of the stock's
  pub port_kept : (es : List (Entry C)) (s : Stocked) (numbered i index : ℕ) (e : Entry C) (p : Port) → HasPorts es s numbered → slice_get es i ≡ Some e → port_of (component_of e) index ≡ Some p → IsPort p.key s
  port_kept es s numbered i index e p P at h =
      let parts = port_parts (component_of e) index p h in
      subst (λ (k : PortKey). IsPort k s) (sym parts.key) (P.there i e at index (slice_get_within e.ports index p.state parts.state))
