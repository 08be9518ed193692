-- A component is added to a graph: what is kept then, and what stays true of it.
use Rattle.std.proofs.Common.{◌≡◌, inl, inr, ℕ, zero, suc, ◌+◌, ◌<◌, ◌≤◌, true, false, not, ◌||◌, nat_eq, List, [], ◌∷◌, ◌++◌, length, map, filter, Option, Some, None, slice_get, option_map, All, get_or, append-nil, refl, sym, ◌∙◌, ap, subst, arith}
use Rattle.std.proofs.lemmas.Bool.Decides.{nat_tests}
use Rattle.std.proofs.lemmas.List.Elements.{All-append, filter-append}
use Rattle.std.proofs.lemmas.List.{map-append, length-map, length-replicate}
use Rattle.std.specs.List.{list_any}
use Rattle.omx_types.specs.declared.handle.Handle.{Handle}
use Rattle.omx_types.specs.declared.kind.Kind.{Kind}
use Rattle.il_machine.specs.declared.answer.Progress.{Progress}
use Rattle.il_machine.specs.declared.port.PortKey.{PortKey}
use Rattle.il_machine.specs.declared.port.Port.{Port}
use Rattle.il_machine.specs.Kinds.{ports_in}
use Rattle.il_machine.specs.Settings.{IsSized}
use Rattle.il_machine.specs.World.{Component, World, number_of, fresh, fresh_port}
use Rattle.il_machine.specs.Look.{Look}
use Rattle.il_machine.specs.Headers.{Seen, seen, is_for, count_headers, same_key}
use Rattle.il_machine.specs.Stock.{Stocked, added, removed, keys_from}
use Rattle.il_machine.specs.Components.{no_progress, is_vacant, with_new_component}
use Rattle.il_machine.specs.Whole.{Kept}
use Rattle.stock_laws.specs.Bare.{StepsBare}
use Rattle.il_machine.specs.Sound.{Sound, port_at}
use Rattle.machine_laws.proofs.Coming.{sound_new}
use Rattle.machine_laws.proofs.Every.{from_places}
use Rattle.machine_laws.proofs.Keys.{key_is}
use Rattle.machine_laws.proofs.Lookups.{rises_at, has_port}
use Rattle.machine_laws.proofs.Parts.{parts_of, ports_in_list}
use Rattle.machine_laws.proofs.PortChanges.{none_for}
use Rattle.stock_laws.proofs.Lists.{get_last}
use Rattle.stock_laws.proofs.Entries.{held_added}
use Rattle.stock_laws.proofs.Making.{with_component_made, lift_made}
use Rattle.note_queues.specs.declared.taken.Taken.{Taken}
use Rattle.note_queues.specs.Queues.{note_of}
use Rattle.registry.specs.Handles.{Handles, entry_at, resolved}
use Rattle.port_stock.specs.Kept.{StockKept, stocked}
use Rattle.port_stock.specs.Conditions.{IsWithoutPorts, IsUnmade, has_key}
use Rattle.il_component.specs.Entries.{Entry, component_of, held_in}
use Rattle.graph_core.specs.Registered.{Registered}
use Rattle.graph_core.specs.Standing.{HasPorts, IsGraph, SoundWorld}
use Rattle.graph_core.specs.Entries.{Entries, components_of, held_by, noticed_in, progress_at, kept}
use Rattle.graph_core.proofs.Renumbered.{sound_there}
use Rattle.graph_core.proofs.Replacing.{next_world}

-- ---- lists of ports

pub has_append : (key : PortKey) (xs ys : List PortKey) → has_key key (xs ++ ys) ≡ (has_key key xs || has_key key ys)
has_append key [] ys = refl
has_append key (x ∷ xs) ys = let i = has_append key xs ys in grind (arith, nat_tests)

pub has_left : (key : PortKey) (xs ys : List PortKey) → has_key key xs ≡ true → has_key key (xs ++ ys) ≡ true
has_left key xs ys h = has_append key xs ys ∙ rw h refl

has_right : (key : PortKey) (xs ys : List PortKey) → has_key key ys ≡ true → has_key key (xs ++ ys) ≡ true
has_right key xs ys h = has_append key xs ys ∙ rw h (grind arith)

-- what holds of each listed port holds of one that is listed
pub all_has : (P : PortKey → Type 0) (key : PortKey) (xs : List PortKey) → All P xs → has_key key xs ≡ true → P key
all_has P key [] A h = absurd cc
all_has P key (x ∷ xs) A h = elim (same_key key x) as (λ b. same_key key x ≡ b → (b || has_key key xs) ≡ true → P key) [
  | true ↦ λ e f. subst P (sym (key_is key x e)) (A 0 x (omega arith))
  | false ↦ λ e f. all_has P key xs (λ k d b. A (suc k) d (omega arith)) f
] refl h

keys_has : (component index count port : ℕ) → index ≤ port → port < index + count → has_key (record { component = component; port = port }) (keys_from component index count) ≡ true
keys_has component index zero port a b = absurd (omega arith)
keys_has component index (suc count) port a b = elim (nat_eq port index) as (λ v. nat_eq port index ≡ v → has_key (record { component = component; port = port }) (keys_from component index (suc count)) ≡ true) [
  | true ↦ λ e. grind (arith, nat_tests)
  | false ↦ λ e.
      let i = keys_has component (index + 1) count port (grind (arith, nat_tests)) (omega arith) in
      grind (arith, nat_tests)
] refl

keys_number : (component index count : ℕ) → All (λ key. key.component ≡ component) (keys_from component index count)
keys_number component index zero = λ k d b. absurd (omega arith)
keys_number component index (suc count) = λ k. elim k as (λ k. (d : PortKey) → k < length (keys_from component index (suc count)) → (get_or (keys_from component index (suc count)) k d).component ≡ component)
    [ zero ↦ λ d b. refl | suc k ↦ λ d b. keys_number component (index + 1) count k d (omega arith) ]

pub all_more : {X : Type 0} (P Q : X → Type 0) (xs : List X) → ((x : X) → P x → Q x) → All P xs → All Q xs
all_more P Q xs f A = λ k d b. f _ (A k d b)

none_left : (number : ℕ) (xs : List PortKey) → All (λ k. k.component < number) xs → filter (λ k. not (nat_eq k.component number)) xs ≡ xs
none_left number [] A = refl
none_left number (x ∷ xs) A =
    let a = A 0 x (omega arith) in
    let i = none_left number xs (λ k d b. A (suc k) d (omega arith)) in
    grind (arith, nat_tests)

all_left : (number : ℕ) (xs : List PortKey) → All (λ k. k.component ≡ number) xs → filter (λ k. not (nat_eq k.component number)) xs ≡ []
all_left number [] A = refl
all_left number (x ∷ xs) A =
    let a = A 0 x (omega arith) in
    let i = all_left number xs (λ k d b. A (suc k) d (omega arith)) in
    grind (arith, nat_tests)

-- ---- the stock

-- the ports of a component that wasn't numbered are added, and taken away
pub restored : (s : Stocked) (number count : ℕ) → All (λ key. key.component < number) s.ports → removed number (added number count s) ≡ s
restored s number count A =
    ap (λ (ks : List PortKey). record s { ports = ks })
    (filter-append (λ k. not (nat_eq k.component number)) s.ports (keys_from number 0 count)
    ∙ (rw (none_left number s.ports A, all_left number (keys_from number 0 count) (keys_number number 0 count)) (append-nil s.ports)))

-- a component that isn't numbered has no ports
pub without_ports : (s : Stocked) (numbered : ℕ) → All (λ key. key.component < numbered) s.ports → IsWithoutPorts numbered s
without_ports s numbered A key h e = let b = all_has (λ key. key.component < numbered) key s.ports A h in omega arith

no_port : (w : World) (key : PortKey) → Sound w → key.component ≡ w.numbered → (o : Option Port) → port_at key w.components ≡ o → port_at key w.components ≡ None
no_port w key S e None h = h
no_port w key S e (Some p) h =
    let x = has_port key w.components p h in
    let b = rises_at 0 w.numbered x.place w.components x.component S.rising x.there in
    let n = x.number in
    absurd (omega (arith, b.1, n, e))

-- no header is made for a port that isn't there
pub none_made : (w : World) (key : PortKey) → Sound w → port_at key w.components ≡ None → count_headers (is_for key) w.headers ≡ 0
none_made w key S e = let P = parts_of w S in none_for (ports_in_list w.components) w.headers key P.tied P.once e

module _ {C : Type 0} (progress : C → Progress) where
  pub unnumbered_unmade : (g : Entries C) (number : ℕ) (s : Stocked) → SoundWorld (kept progress g) → number ≡ g.numbered → s.headers ≡ (stocked g.stock).headers → IsUnmade number s
  unnumbered_unmade g number s W n h key p e =
      let m : W.world.numbered ≡ g.numbered = ap (λ (l : Look). l.numbered) W.stands.looks in
      let z = none_made W.world key W.sound (no_port W.world key W.sound (e ∙ (n ∙ sym m)) (port_at key W.world.components) refl) in
      let hs : seen W.world.headers ≡ (stocked g.stock).headers = ap (λ (l : Look). l.headers) W.stands.looks in
      ap (λ (x : Seen). x.count (is_for key)) (h ∙ sym hs) ∙ z

  -- another stock with the same value
  pub kept_restocked : (es : List (Entry C)) (s t : StockKept) (units waits numbered : ℕ) → stocked t ≡ stocked s → kept progress (record { entries = es; stock = t; units = units; waits = waits; numbered = numbered }) ≡ kept progress (record { entries = es; stock = s; units = units; waits = waits; numbered = numbered })
  kept_restocked es s t units waits numbered q =
      ap (λ (x : Stocked). record {
        looks = record { key = x.key; components = components_of es; headers = x.headers; units = units; waits = waits; numbered = numbered; made = x.next };
        clients = map (progress_at progress) es;
        loads = x.loads;
        noticed = noticed_in es;
        parts = [];
      }) q

  pub graph_restocked : (es : List (Entry C)) (registry : Handles ℕ) (s t : StockKept) (units waits capacity : ℕ) → stocked t ≡ stocked s → IsGraph progress es registry s units waits capacity → IsGraph progress es registry t units waits capacity
  graph_restocked es registry s t units waits capacity q G = record {
    registered = G.registered;
    roomy = G.roomy;
    few = G.few;
    ports = subst (λ (x : Stocked). HasPorts es x registry.given) (sym q) G.ports;
    numbers = G.numbers;
    worlds = subst SoundWorld (sym (kept_restocked es s t units waits registry.given q)) G.worlds;
  }

-- ---- what is kept

pub no_notes_held : (ts : List Taken) → map note_of ts ≡ [] → held_in ts ≡ []
no_notes_held [] e = refl
no_notes_held (t ∷ ts) e = absurd cc

-- each component has a number below the next one
pub numbers_below : {C : Type 0} (progress : C → Progress) (g : Entries C) → SoundWorld (kept progress g) → All (λ c. number_of c < g.numbered) (components_of g.entries)
numbers_below progress g W =
    let cs : W.world.components ≡ components_of g.entries = ap (λ (l : Look). l.components) W.stands.looks in
    let m : W.world.numbered ≡ g.numbered = ap (λ (l : Look). l.numbered) W.stands.looks in
    subst (λ (n : ℕ). All (λ c. number_of c < n) (components_of g.entries)) m (subst (λ (xs : List Component). All (λ c. number_of c < W.world.numbered) xs) cs
    (from_places (λ c. number_of c < W.world.numbered) W.world.components (λ i c e. (rises_at 0 W.world.numbered i W.world.components c W.sound.rising e).1)))

-- the entry is of a component that was just made, with a client object that was told nothing
pub record IsNew {C : Type 0} (progress : C → Progress) (h : Handle) (kind : Kind) (e : Entry C) : Type 0 where
  pub component : component_of e ≡ fresh h kind
  pub told : option_map progress e.queues.client ≡ Some no_progress

module _ {C : Type 0} (progress : C → Progress) (h : Handle) (kind : Kind) (e : Entry C) (N : IsNew progress h kind e) where
  kept_added : (es : List (Entry C)) (s t : StockKept) (units waits numbered : ℕ) (stock : Stocked) → stocked t ≡ stock → stock.key ≡ (stocked s).key → stock.headers ≡ (stocked s).headers → stock.loads ≡ (stocked s).loads → stock.next ≡ (stocked s).next
      → kept progress (record { entries = es ++ e ∷ []; stock = t; units = units; waits = waits; numbered = numbered + 1 })
      ≡ with_component_made (fresh h kind) (kept progress (record { entries = es; stock = s; units = units; waits = waits; numbered = numbered }))
  kept_added es s t units waits numbered stock q ks hs ls ns =
      let cs : components_of (es ++ e ∷ []) ≡ components_of es ++ fresh h kind ∷ [] = map-append component_of es (e ∷ []) ∙ ap (λ (x : Component). components_of es ++ x ∷ []) N.component in
      let cl : map (progress_at progress) (es ++ e ∷ []) ≡ map (progress_at progress) es ++ Some no_progress ∷ [] = map-append (progress_at progress) es (e ∷ []) ∙ ap (λ (x : Option Progress). map (progress_at progress) es ++ x ∷ []) N.told in
      let hd : held_by e ≡ [] = no_notes_held e.queues.notes (ap (λ (x : Component). x.notes) N.component) in
      let nt : noticed_in (es ++ e ∷ []) ≡ noticed_in es = held_added held_by es e hd in
      let K : (stocked t).key ≡ (stocked s).key = ap (λ (x : Stocked). x.key) q ∙ ks in
      let H : (stocked t).headers ≡ (stocked s).headers = ap (λ (x : Stocked). x.headers) q ∙ hs in
      let L : (stocked t).loads ≡ (stocked s).loads = ap (λ (x : Stocked). x.loads) q ∙ ls in
      let M : (stocked t).next ≡ (stocked s).next = ap (λ (x : Stocked). x.next) q ∙ ns in
      λ j. record {
        looks = record { key = K j; components = cs j; headers = H j; units = units; waits = waits; numbered = numbered + 1; made = M j };
        clients = cl j;
        loads = L j;
        noticed = nt j;
        parts = [];
      }

  pub steps_added : (es : List (Entry C)) (s t : StockKept) (units waits numbered count : ℕ) → stocked t ≡ added numbered count (stocked s) → h.generation ≡ numbered → All (λ d. number_of d < numbered) (components_of es)
      → StepsBare (kept progress (record { entries = es; stock = s; units = units; waits = waits; numbered = numbered })) (kept progress (record { entries = es ++ e ∷ []; stock = t; units = units; waits = waits; numbered = numbered + 1 })) (λ w v. v ≡ with_new_component h kind w)
  steps_added es s t units waits numbered count q n below =
      let k = kept progress (record { entries = es; stock = s; units = units; waits = waits; numbered = numbered }) in
      subst (λ (x : Kept). StepsBare k x (λ w v. v ≡ with_new_component h kind w)) (sym (kept_added es s t units waits numbered (added numbered count (stocked s)) q refl refl refl refl))
      (lift_made k (fresh h kind) n (length-map es (progress_at progress) ∙ sym (length-map es component_of)) below)

  pub worlds_added : (es : List (Entry C)) (s t : StockKept) (units waits numbered count : ℕ) → IsSized kind → stocked t ≡ added numbered count (stocked s) → h.generation ≡ numbered
      → SoundWorld (kept progress (record { entries = es; stock = s; units = units; waits = waits; numbered = numbered })) → SoundWorld (kept progress (record { entries = es ++ e ∷ []; stock = t; units = units; waits = waits; numbered = numbered + 1 }))
  worlds_added es s t units waits numbered count sized q n W =
      next_world (kept progress (record { entries = es; stock = s; units = units; waits = waits; numbered = numbered })) (kept progress (record { entries = es ++ e ∷ []; stock = t; units = units; waits = waits; numbered = numbered + 1 })) (λ w v. v ≡ with_new_component h kind w)
      W (steps_added es s t units waits numbered count q n (numbers_below progress (record { entries = es; stock = s; units = units; waits = waits; numbered = numbered }) W))
      (λ w v S f sound. subst Sound (sym f) (sound_new w h kind sound (n ∙ sym (ap (λ (l : Look). l.numbered) S.looks)) sized))

  pub ports_added : (es : List (Entry C)) (s t : Stocked) (numbered : ℕ) → t ≡ added numbered (ports_in kind) s → h.generation ≡ numbered → HasPorts es s numbered → HasPorts (es ++ e ∷ []) t (numbered + 1)
  ports_added es s t numbered q n P = subst (λ (x : Stocked). HasPorts (es ++ e ∷ []) x (numbered + 1)) (sym q) (record {
    there = λ i x at port b. elim (get_last es i e x at) [
      | inl a ↦ has_left (record { component = number_of (component_of x); port = port }) s.ports (keys_from numbered 0 (ports_in kind)) (P.there i x a port b)
      | inr a ↦
          let m : number_of (component_of x) ≡ numbered = ap (λ (y : Entry C). number_of (component_of y)) a.1 ∙ (ap number_of N.component ∙ n) in
          let l : length (component_of x).ports ≡ ports_in kind = ap (λ (y : Entry C). length (component_of y).ports) a.1 ∙ (ap (λ (y : Component). length y.ports) N.component ∙ length-replicate (ports_in kind) fresh_port) in
          subst (λ (y : ℕ). has_key (record { component = y; port = port }) (s.ports ++ keys_from numbered 0 (ports_in kind)) ≡ true) (sym m)
          (has_right (record { component = numbered; port = port }) s.ports (keys_from numbered 0 (ports_in kind)) (keys_has numbered 0 (ports_in kind) port (omega arith) (omega (arith, b, l))))
    ];
    below = All-append (λ key. key.component < numbered + 1) s.ports (keys_from numbered 0 (ports_in kind))
        (all_more (λ key. key.component < numbered) (λ key. key.component < numbered + 1) s.ports (λ key b. omega (arith, b)) P.below)
        (all_more (λ key. key.component ≡ numbered) (λ key. key.component < numbered + 1) (keys_from numbered 0 (ports_in kind)) (λ key b. omega (arith, b)) (keys_number numbered 0 (ports_in kind)));
  })

-- ---- the slot was vacant

other_slot : {C : Type 0} (es : List (Entry C)) (r : Handles ℕ) (slot i : ℕ) (e : Entry C) → Registered es r → entry_at r slot ≡ None → slice_get es i ≡ Some e → nat_eq e.handle.slot slot ≡ false
other_slot es r slot i e R v at = elim (nat_eq e.handle.slot slot) as (λ b. nat_eq e.handle.slot slot ≡ b → b ≡ false) [
  | true ↦ λ q.
      let s : e.handle.slot ≡ slot = grind (arith, nat_tests) in
      let a : resolved r e.handle ≡ Some i = sound_there es r i e R at in
      let z : resolved r e.handle ≡ None = rw (s, v) refl in
      absurd cc
  | false ↦ λ q. refl
] refl

none_any : {C : Type 0} (slot : ℕ) (es : List (Entry C)) → ((i : ℕ) (e : Entry C) → slice_get es i ≡ Some e → nat_eq e.handle.slot slot ≡ false) → list_any (λ c. nat_eq c.handle.slot slot) (components_of es) ≡ false
none_any slot [] f = refl
none_any slot (e ∷ es) f = rw (f 0 e refl) (none_any slot es (λ i d at. f (suc i) d at))

pub vacant_slot : {C : Type 0} (es : List (Entry C)) (r : Handles ℕ) (slot : ℕ) → Registered es r → entry_at r slot ≡ None → is_vacant slot (components_of es) ≡ true
vacant_slot es r slot R v = ap not (none_any slot es (λ i e at. other_slot es r slot i e R v at))
