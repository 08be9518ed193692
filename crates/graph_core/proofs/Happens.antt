-- The first due thing of a graph happens.
use Rattle.std.proofs.Common.{◌≡◌, inl, inr, ℕ, zero, suc, ◌+◌, ◌<◌, ◌≤◌, Bool, true, false, is_none, List, [], ◌∷◌, length, set, map, position, slice_get, get_or, Option, Some, None, All, option_map, refl, sym, ◌∙◌, ap, subst, arith, length-set}
use Rattle.std.proofs.lemmas.Bool.Decides.{eqb_tells}
use Rattle.std.proofs.lemmas.Option.{slice_get_within, get_or_from_slice_get}
use Rattle.std.proofs.lemmas.List.Sums.{get_or-le-sum_by}
use Rattle.omx_types.specs.declared.state.State.TheVariants.{WaitForResources}
use Rattle.il_machine.specs.Ports.{is_going_to}
use Rattle.il_machine.specs.declared.answer.Progress.{Progress}
use Rattle.il_machine.specs.declared.port.PortKey.{PortKey}
use Rattle.il_machine.specs.declared.header.Owner.TheVariants as owners
use Rattle.il_machine.specs.declared.header.HeaderState.{HeaderState}
use Rattle.il_machine.specs.Places.{first_place}
use Rattle.il_machine.proofs.Places.{is_first_place}
use Rattle.il_machine.specs.World.{HeaderRecord, World, number_of, with_component}
use Rattle.il_machine.specs.Look.{Look}
use Rattle.il_machine.specs.Headers.{Seen, find_header, is_for, is_owned_by, state_of, weight}
use Rattle.il_machine.specs.Stock.{Stocked}
use Rattle.il_machine.specs.Whole.{Kept}
use Rattle.stock_laws.specs.Bare.{StepsBare}
use Rattle.il_machine.specs.Sound.{Sound, IsOwnedSo}
use Rattle.il_machine.specs.Due.{Thing, due_in, has_due, first_due, happened, Happens}
use Rattle.machine_laws.proofs.Keys.{there_is}
use Rattle.machine_laws.proofs.Listed.{owned_is}
use Rattle.machine_laws.proofs.Parts.{parts_of}
use Rattle.machine_laws.proofs.Facts.{ports_number}
use Rattle.machine_laws.proofs.Happening.{sound_happened}
use Rattle.machine_laws.specs.Pending.{pending_in}
use Rattle.machine_laws.proofs.Ending.{happens_fewer}
use Rattle.stock_laws.proofs.Lifting.{with_look, lift_component}
use Rattle.stock_laws.proofs.Stocking.{IsStock, with_stock, with_headers, lift_stock, stands_for}
use Rattle.stock_laws.proofs.Following.{as_change}
use Rattle.il_component.specs.Entries.{Entry, component_of}
use Rattle.il_component.specs.Entries as component
use Rattle.registry.specs.Handles.{Handles}
use Rattle.port_stock.specs.Kept.{StockKept, stocked}
use Rattle.port_stock.specs.Conditions.{AreMadeForOwners, has_key}
use Rattle.graph_core.specs.Entries.{Entries, components_of, look_of, kept, waits_next}
use Rattle.graph_core.specs.Standing.{SoundWorld, HasPorts, IsGraph}
use Rattle.port_rules.specs.Tests.{HasAllPorts}
use Rattle.port_rules.specs.Happened.{Happened, IsInOrder}
use Rattle.graph_core.proofs.Waiters.{waiters_set}
use Rattle.graph_core.proofs.Registering.{set_sound}
use Rattle.graph_core.proofs.Replacing.{there, component_sound, kept_changed, ports_changed, next_world}

-- ---- the first that passes a test

module _ {X : Type 0} where
  pub first_is : (test : X → Bool) (xs : List X) (i : ℕ) (x : X) → ((k : ℕ) (y : X) → k < i → slice_get xs k ≡ Some y → test y ≡ false) → slice_get xs i ≡ Some x → test x ≡ true → first_place test xs ≡ Some i
  first_is test [] i x f e t = absurd cc
  first_is test (y ∷ ys) zero x f e t = let q : y ≡ x = cc in let b : test y ≡ true = ap test q ∙ t in rw b refl
  first_is test (y ∷ ys) (suc i) x f e t =
      let b : test y ≡ false = f 0 y (omega arith) refl in
      let r = first_is test ys i x (λ k z l s. f (suc k) z (omega arith) s) e t in
      rw (b, r) refl

  pub none_is : (test : X → Bool) (xs : List X) → ((k : ℕ) (y : X) → k < length xs → slice_get xs k ≡ Some y → test y ≡ false) → first_place test xs ≡ None
  none_is test [] f = refl
  none_is test (y ∷ ys) f =
      let b : test y ≡ false = f 0 y (omega arith) refl in
      let r = none_is test ys (λ k z l s. f (suc k) z (omega arith) s) in
      rw (b, r) refl

first_mapped : {X Y : Type 0} (f : X → Y) (p : Y → Bool) (xs : List X) → first_place p (map f xs) ≡ first_place (λ x. p (f x)) xs
first_mapped f p [] = refl
first_mapped f p (x ∷ xs) = rw (first_mapped f p xs) refl

-- the components before the place have nothing due
abbrev pub NoneBefore : {C : Type 0} → Seen → List (Entry C) → ℕ → Type 0
NoneBefore {C} headers es i = (k : ℕ) (e : Entry C) → k < i → slice_get es k ≡ Some e → has_due headers (component_of e) ≡ false

module _ {C : Type 0} (headers : Seen) (es : List (Entry C)) where
  place_is : position (has_due headers) (components_of es) ≡ first_place (λ (e : Entry C). has_due headers (component_of e)) es
  place_is = is_first_place (has_due headers) (components_of es) ∙ first_mapped component_of (has_due headers) es

  pub first_found : (i : ℕ) (e : Entry C) → NoneBefore headers es i → slice_get es i ≡ Some e → has_due headers (component_of e) ≡ true → Some i ≡ position (has_due headers) (components_of es)
  first_found i e f at d = sym (place_is ∙ first_is (λ (x : Entry C). has_due headers (component_of x)) es i e f at d)

  pub first_none : NoneBefore headers es (length es) → None ≡ position (has_due headers) (components_of es)
  first_none f = sym (place_is ∙ none_is (λ (x : Entry C). has_due headers (component_of x)) es f)

  pub none_more : (i : ℕ) (e : Entry C) → NoneBefore headers es i → slice_get es i ≡ Some e → has_due headers (component_of e) ≡ false → NoneBefore headers es (i + 1)
  none_more i e f at d k x l s = elim (eqb_tells k i) [
    | inl q ↦
        let m : Some x ≡ Some e = sym s ∙ (ap (slice_get es) q.1 ∙ at) in
        let y : e ≡ x = cc in
        subst (λ (z : Entry C). has_due headers (component_of z) ≡ false) y d
    | inr q ↦ f k x (let n = q.1 in omega arith) s
  ]

-- ---- what is true of a graph's components

header_found : (o : Option HeaderRecord) (h : HeaderState) → option_map state_of o ≡ Some h → (r : HeaderRecord) × (o ≡ Some r) × (r.state ≡ h)
header_found None h e = absurd cc
header_found (Some r) h e = let q : r.state ≡ h = cc in (r, refl, q)

module _ {C : Type 0} (progress : C → Progress) where
  pub own_there : (g : Entries C) → SoundWorld (kept progress g) → AreMadeForOwners (stocked g.stock)
  own_there g W n h e key o =
      let w = W.world in
      let P = parts_of w W.sound in
      let s : option_map state_of (find_header n w.headers) ≡ Some h = ap (λ (l : Look). l.headers.header n) W.stands.looks ∙ e in
      let x = header_found (find_header n w.headers) h s in
      let O : IsOwnedSo x.0.state x.0.state.owner = (P.tied.placed n x.0 x.1).owner in
      let q : x.0.state.owner ≡ owners.Port key = owned_is key x.0.state.owner (subst (λ (v : HeaderState). is_owned_by key v.owner ≡ true) (sym x.2) o) in
      let I : IsOwnedSo x.0.state (owners.Port key) = subst (IsOwnedSo x.0.state) q O in
      subst (λ (v : HeaderState). is_for key v ≡ true) x.2 I.0

  pub ports_there : (g : Entries C) (registry : Handles ℕ) (capacity i : ℕ) (e : Entry C) → IsGraph progress g.entries registry g.stock g.units g.waits capacity → registry.given ≡ g.numbered → slice_get g.entries i ≡ Some e → HasAllPorts (component_of e) (stocked g.stock)
  ports_there g registry capacity i e G n at = record {
    many = ports_number (component_of e) (component_sound progress (record g { numbered = registry.given }) i (component_of e) G.worlds (there progress g i e at));
    ports = G.ports.there i e at;
  }

  -- ---- what is kept afterwards

  abbrev pub after : Entries C → ℕ → Entry C → StockKept → ℕ → Entries C
  after g i d st waits = record g { entries = set g.entries i d; stock = st; waits = waits }

  -- so many waits were numbered
  abbrev with_waits : ℕ → Kept → Kept
  with_waits waits k = record k { looks = record k.looks { waits = waits } }

  lift_waits : (k : Kept) (waits : ℕ) → StepsBare k (with_waits waits k) (λ w v. v ≡ record w { waits = waits })
  lift_waits k waits = λ w S. (
    record w { waits = waits },
    record {
      looks = ap (λ (l : Look). record l { waits = waits }) S.looks;
      loads = S.loads;
      noticed = S.noticed;
      progress = S.progress;
      streams = S.streams;
      once = S.once;
      given = S.given;
    },
    refl,
  )

  kept_after : (g : Entries C) (i : ℕ) (e d : Entry C) (st : StockKept) (waits : ℕ) → slice_get g.entries i ≡ Some e → component.KeepsNotices e d → kept progress (after g i d st waits) ≡ with_waits waits (with_look i (component_of d) (with_stock (stocked st) (kept progress g)))
  kept_after g i e d st waits at N = ap (with_waits waits) (kept_changed progress (record g { stock = st }) i e d at N)

  pub steps_after : (g : Entries C) (i : ℕ) (e d : Entry C) (st : StockKept) (thing : Thing) (then : ℕ) → slice_get g.entries i ≡ Some e → component.KeepsNotices e d → Happened thing (component_of e) (component_of d) (stocked g.stock) (stocked st) g.waits then
      → StepsBare (kept progress g) (kept progress (after g i d st then)) (λ w v. v ≡ happened i (component_of e) thing w)
  steps_after g i e d st thing then at N H =
      let k = kept progress g in
      let s = stocked g.stock in
      let t = stocked st in
      let f : World → List HeaderRecord = λ w. H.change w.headers in
      let I : IsStock s k = record { headers = refl; made = refl; loads = refl } in
      let a = with_stock t k in
      let b = with_look i (component_of d) a in
      let A : StepsBare k a (λ w v. v ≡ with_headers (f w) t.next w) = lift_stock k t f H.stock.key
      (λ w S. H.stock.stands w.headers (stands_for s k w I S))
      (λ w S. λ j h b. let x = there_is (find_header _ w.headers) _ (S.noticed j h b).1 in H.notices w.headers _ x.0 S.once x.1 x.2.1) in
      let B : StepsBare a b (λ w v. v ≡ with_component i (component_of d) w) = lift_component a i (component_of e) (component_of d) (there progress g i e at)
      H.part (ap (λ (x : Option C). is_none x) N.client) in
      let E : StepsBare k (with_waits then b) (λ w v. v ≡ happened i (component_of e) thing w) = λ w S.
      let x = A w S in
      let y = B x.0 x.1 in
      let z = lift_waits b then y.0 y.1 in
      let m : t.next ≡ w.made = H.stock.next ∙ sym (ap (λ (l : Look). l.made) S.looks) in
      let n : w.waits ≡ g.waits = ap (λ (l : Look). l.waits) S.looks in
      (z.0, z.1, z.2 ∙ (ap (λ (u : World). record u { waits = then }) (y.2 ∙ (ap (with_component i (component_of d)) x.2 ∙ ap (λ (n : ℕ). with_component i (component_of d) (with_headers (f w) n w)) m)) ∙ sym (H.after i w n))) in
      subst (λ (x : Kept). StepsBare k x (λ w v. v ≡ happened i (component_of e) thing w)) (sym (kept_after g i e d st then at N)) E

  ports_same : (es : List (Entry C)) (s t : Stocked) (numbered : ℕ) → HasPorts es s numbered → t.ports ≡ s.ports → HasPorts es t numbered
  ports_same es s t numbered P q = record {
    there = λ i e at port b. subst (λ (ks : List PortKey). has_key (record { component = number_of (component_of e); port = port }) ks ≡ true) (sym q) (P.there i e at port b);
    below = subst (λ (ks : List PortKey). All (λ key. key.component < numbered) ks) (sym q) P.below;
  }

  pub graph_after : (es : List (Entry C)) (registry : Handles ℕ) (stock st : StockKept) (units waits capacity i : ℕ) (e d : Entry C) (thing : Thing) (then : ℕ) → IsGraph progress es registry stock units waits capacity → slice_get es i ≡ Some e → component.KeepsNotices e d
      → Happened thing (component_of e) (component_of d) (stocked stock) (stocked st) waits then → due_in (stocked stock).headers (component_of e) ≡ Some thing → IsGraph progress (set es i d) registry st units then capacity
  graph_after es registry stock st units waits capacity i e d thing then G at N H due =
      let g : Entries C = record { entries = es; stock = stock; units = units; waits = waits; numbered = registry.given } in
      record {
        registered = set_sound es registry i e d G.registered at H.component.handle;
        roomy = G.roomy;
        few = subst (λ (n : ℕ). n ≤ 32) (sym (length-set es i d)) G.few;
        ports = ports_same (set es i d) (stocked stock) (stocked st) registry.given (ports_changed progress es (stocked stock) registry.given i e d G.ports at H.component) H.stock.ports;
        numbers = waiters_set es i e d waits then at H.numbers G.numbers;
        worlds = next_world (kept progress g) (kept progress (after g i d st then)) (λ w v. v ≡ happened i (component_of e) thing w) G.worlds (steps_after g i e d st thing then at N H)
            (λ w v S f sound. subst Sound (sym f) (sound_happened w i (component_of e) thing sound (ap (λ (l : Look). slice_get l.components i) S.looks ∙ there progress g i e at)
            (ap (λ (l : Look). due_in l.headers (component_of e)) S.looks ∙ due)));
      }

  pub happens_after : (g : Entries C) (i : ℕ) (e d : Entry C) (st : StockKept) (thing : Thing) (then : ℕ) → slice_get g.entries i ≡ Some e → component.KeepsNotices e d → Happened thing (component_of e) (component_of d) (stocked g.stock) (stocked st) g.waits then
      → first_due (look_of g) ≡ Some i → due_in (stocked g.stock).headers (component_of e) ≡ Some thing → StepsBare (kept progress g) (kept progress (after g i d st then)) Happens
  happens_after g i e d st thing then at N H first due = as_change (kept progress g) (kept progress (after g i d st then)) (λ w v. v ≡ happened i (component_of e) thing w) Happens (steps_after g i e d st thing then at N H)
      (λ w v S f. record {
        place = i;
        component = component_of e;
        thing = thing;
        first = ap first_due S.looks ∙ first;
        there = ap (λ (l : Look). slice_get l.components i) S.looks ∙ there progress g i e at;
        due = ap (λ (l : Look). due_in l.headers (component_of e)) S.looks ∙ due;
        after = f;
      })

  pub fewer_after : (g h : Entries C) → SoundWorld (kept progress g) → StepsBare (kept progress g) (kept progress h) Happens → pending_in (components_of h.entries) < pending_in (components_of g.entries)
  fewer_after g h W F =
      let x = F W.world W.stands in
      let l = happens_fewer W.world x.0 x.2 in
      let a : W.world.components ≡ components_of g.entries = ap (λ (l : Look). l.components) W.stands.looks in
      let b : x.0.components ≡ components_of h.entries = ap (λ (l : Look). l.components) x.1.looks in
      rw (← a, ← b) l

  pub in_order_there : (es : List (Entry C)) (registry : Handles ℕ) (stock : StockKept) (units waits capacity i : ℕ) (e : Entry C) → IsGraph progress es registry stock units waits capacity → slice_get es i ≡ Some e → IsInOrder (component_of e) (stocked stock)
  in_order_there es registry stock units waits capacity i e G at =
      let g : Entries C = record { entries = es; stock = stock; units = units; waits = waits; numbered = registry.given } in
      record {
        sound = component_sound progress g i (component_of e) G.worlds (there progress g i e at);
        ports = ports_there g registry capacity i e G refl at;
      }

  -- a component that is on its way to wait gets a number
  pub number_left : (es : List (Entry C)) (registry : Handles ℕ) (stock : StockKept) (units waits capacity i : ℕ) (e : Entry C) → IsGraph progress es registry stock units waits capacity → slice_get es i ≡ Some e
      → is_going_to WaitForResources (component_of e) ≡ true → waits < 18446744073709551615
  number_left es registry stock units waits capacity i e G at t =
      let b = get_or-le-sum_by waits_next es i e (slice_get_within es i e at) in
      let f = G.numbers in
      let g : waits_next (get_or es i e) ≡ waits_next e = ap waits_next (get_or_from_slice_get es i e e at) in
      let o : waits_next e ≡ 1 = ap weight t in
      omega arith
