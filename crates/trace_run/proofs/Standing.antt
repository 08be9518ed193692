-- After one act of a moment that is stood for, the next one is.
use Rattle.std.proofs.Common.{◌≡◌, ◌≢◌, ◌⊎◌, inl, inr, ℕ, ◌+◌, ◌<◌, ◌≤◌, Bool, true, false, List, [], ◌∷◌, ◌++◌, set, length, position, slice_get, Option, Some, None, option_map, refl, sym, ◌∙◌, ap, eq-eqb, arith}
use Rattle.std.specs.Prelude.{find, is_some, IsSome}
use Rattle.std.proofs.lemmas.Bool.{cases_eq}
use Rattle.il_machine.specs.declared.header.Home.TheVariants as homes
use Rattle.il_machine.specs.declared.header.HeaderState.{HeaderState}
use Rattle.il_machine.specs.World.{World}
use Rattle.il_machine.specs.Look.{Look, look}
use Rattle.il_machine.specs.Acts.{Act, Reply}
use Rattle.il_machine.specs.Run.{Step, Meets, Run}
use Rattle.il_machine.specs.Sound.{Sound}
use Rattle.il_machine.specs.Due.{first_due, IsClosed}
use Rattle.history_laws.proofs.ClosedLaw.{step_closed}
use Rattle.il_machine.specs.Whole.{Kept, Stands}
use Rattle.il_machine.specs.Places.{first_place}
use Rattle.il_machine.proofs.Places.{is_first_place, push_Some, push_None, place_set}
use Rattle.machine_laws.proofs.Finding.{either}
use Rattle.machine_laws.proofs.Keys.{none_or_some, there_is, is_there}
use Rattle.machine_laws.proofs.Steps.{sound_step}
use Rattle.history_laws.proofs.Homes.{found_state}
use Rattle.header_core.specs.BufferHeader.{BufferHeader}
use Rattle.trace_run.specs.declared.names.NamedComponent.{NamedComponent}
use Rattle.trace_run.specs.declared.slots.Slot.{Slot}
use Rattle.trace_run.specs.Naming.{Moment, has_number}
use Rattle.trace_run.specs.Standing.{Parts, names_in, slot_numbered, holding, Hands, AreNamed, HaveSlots, IsAtRest, CanEnd, IsMoment}
use Rattle.history_laws.proofs.MadeFor.{made_grows}
use Rattle.trace_run.proofs.Made.{IsHome, made_by, made_step}
use Rattle.history_laws.proofs.Cores.{NoneGot, NoneTaken}
use Rattle.history_laws.proofs.Numbered.{numbered_step}
use Rattle.history_laws.specs.ClientHeaders.{IsClients, taken_in}
use Rattle.history_laws.proofs.ClientHeaders.{steps_clients}
use Rattle.history_laws.proofs.KeyLaw.{steps_key}
use Rattle.graph_core.specs.Changes.{IsHandedIn}
use Rattle.port_stock.specs.Conditions.{IsHeaderOf}
use Rattle.trace_run.proofs.SlotLists.{Keeps, KeepsOthers, hands_kept}
use Rattle.trace_run.proofs.Ends.{ends_kept}

-- ---- slots of the client's headers

is_home : (n : ℕ) (v : World) (s : HeaderState) → (look v).headers.header n ≡ Some s → s.home ≡ homes.Client → IsHome n v.headers
is_home n v s e h = let x = found_state n v s e in (x.0, x.1, ap (λ (t : HeaderState). t.home) x.2 ∙ h)

slot_of : (slots : List Slot) (w : World) (n : ℕ) → HaveSlots slots (look w) → IsHome n w.headers → IsSome (position (slot_numbered n) slots)
slot_of slots w n K (r, f, h) = K n r.state (rw f refl) h

pub known_home : (slots : List Slot) (w : World) (n : ℕ) → HaveSlots slots (look w) → IsHome n w.headers → IsSome (position (slot_numbered n) slots)
known_home slots w n K H = slot_of slots w n K H

-- the act made no header for the client
pub known_kept : (slots : List Slot) (w : World) (a : Act) (r : Reply) (v : World) → Sound w → Meets w a → Step w a r v → made_by a r ≡ None → HaveSlots slots (look w) → HaveSlots slots (look v)
known_kept slots w a r v S M h none K n s e home = elim (made_step n w a r v S M h (is_home n v s e home)) [
  | inl H ↦ slot_of slots w n K H
  | inr m ↦ let x : Some n ≡ None = sym m ∙ none in absurd cc
]

found_more : (p : Slot → Bool) (slots : List Slot) (s : Slot) → (IsSome (position p slots) ⊎ (p s ≡ true)) → IsSome (position p (slots ++ s ∷ []))
found_more p slots s h = elim (none_or_some (first_place p slots)) [
  | inr x ↦ let e : position p (slots ++ s ∷ []) ≡ Some x.0 = is_first_place p (slots ++ s ∷ []) ∙ push_Some p slots s x.0 x.1 in rw e refl
  | inl none ↦ elim h [
    | inl there ↦ let a : is_some (position p slots) ≡ false = ap is_some (is_first_place p slots ∙ none) in let b : false ≡ true = sym a ∙ there in absurd cc
    | inr t ↦
        let e : position p (slots ++ s ∷ []) ≡ Some (length slots) = is_first_place p (slots ++ s ∷ []) ∙ (push_None p slots s none ∙ (rw t refl)) in
        rw e refl
  ]
]

-- the act made the header of the slot that is new
pub known_push : (slots : List Slot) (s : Slot) (w : World) (a : Act) (r : Reply) (v : World) → Sound w → Meets w a → Step w a r v → made_by a r ≡ Some s.number → HaveSlots slots (look w) → HaveSlots (slots ++ s ∷ []) (look v)
known_push slots s w a r v S M h made K n t e home = elim (made_step n w a r v S M h (is_home n v t e home)) [
  | inl H ↦ found_more (slot_numbered n) slots s (inl (slot_of slots w n K H))
  | inr m ↦
      let x : Some n ≡ Some s.number = sym m ∙ made in
      let y : n ≡ s.number = cc in
      found_more (slot_numbered n) slots s (inr (eq-eqb s.number n (sym y)))
]

pub known_set : (slots : List Slot) (l : Look) (i : ℕ) (s : Slot) (hand : Option BufferHeader) → slice_get slots i ≡ Some s → HaveSlots slots l → HaveSlots (set slots i (holding hand s)) l
known_set slots l i s hand at K n t e home =
    let p = slot_numbered n in
    let x : position p (set slots i (holding hand s)) ≡ position p slots =
    is_first_place p (set slots i (holding hand s)) ∙ (place_set p slots i s (holding hand s) at refl ∙ sym (is_first_place p slots)) in
    rw x (K n t e home)

-- ---- names of components

pub named_kept : (components : List NamedComponent) (w : World) (a : Act) (r : Reply) (v : World) → Sound w → Meets w a → Step w a r v → NoneGot a r → AreNamed components w.numbered → AreNamed components v.numbered
named_kept components w a r v S M h n N = rw (numbered_step w a r v S M h n) N

find_more : (p : NamedComponent → Bool) (xs : List NamedComponent) (y : NamedComponent) → (is_some (option_map (λ (e : NamedComponent). e.name) (find p xs)) ≡ true) ⊎ (p y ≡ true)
    → is_some (option_map (λ (e : NamedComponent). e.name) (find p (xs ++ y ∷ []))) ≡ true
find_more p [] y (inl h) = absurd cc
find_more p [] y (inr t) = rw t refl
find_more p (x ∷ xs) y h = either (p x)
    (λ t. rw t refl)
    (λ f. rw f (find_more p xs y (rw f at h)))

pub named_push : (components : List NamedComponent) (entry : NamedComponent) (numbered : ℕ) → entry.handle.generation ≡ numbered → AreNamed components numbered → AreNamed (components ++ entry ∷ []) (numbered + 1)
named_push components entry numbered e N k l = elim (cases_eq k numbered) [
  | inl is ↦ find_more (has_number k) components entry (inr (eq-eqb entry.handle.generation k (e ∙ sym is)))
  | inr a ↦ let m : k < numbered = omega (arith, l, a) in find_more (has_number k) components entry (inl (N k m))
]

-- ---- a moment

pub made_of : (k : Kept) (w : World) → Stands k w → (k.looks).made ≡ w.made
made_of k w S = sym (ap (λ (l : Look). l.made) S.looks)

pub looks_grow : (k m : Kept) (w : World) (a : Act) (r : Reply) (v : World) → Stands k w → Stands m v → Sound w → Meets w a → Step w a r v → (k.looks).made ≤ (m.looks).made
looks_grow k m w a r v A B S M h =
    let x = made_of k w A in
    let y = made_of m v B in
    let z = made_grows w a r v S M h in
    omega (arith, x, y, z)

pub world_rests : (k : Kept) (w : World) → Stands k w → IsAtRest k → IsClosed w
world_rests k w S R = ap first_due S.looks ∙ R

pub rests_after : (k m : Kept) (w : World) (a : Act) (r : Reply) (v : World) → Stands k w → Stands m v → Step w a r v → IsAtRest k → IsAtRest m
rests_after k m w a r v A B h R = sym (ap first_due B.looks) ∙ step_closed w a r v (world_rests k w A R) h

-- ---- headers in hand

handed_there : (k : Kept) (w : World) (header : BufferHeader) → Stands k w → IsHandedIn header k.looks → (s : HeaderState) × IsClients (look w) header.held.number s × IsHeaderOf s header
handed_there k w header S h =
    let x = there_is ((k.looks).headers.header header.held.number) _ h.1 in
    (x.0, (ap (λ (l : Look). l.headers.header header.held.number) S.looks ∙ x.1, x.2.0), x.2.1)

handed_here : (k : Kept) (w : World) (header : BufferHeader) (s : HeaderState) → Stands k w → header.key ≡ w.key → IsClients (look w) header.held.number s → IsHeaderOf s header → IsHandedIn header k.looks
handed_here k w header s S own c h =
    (own ∙ ap (λ (l : Look). l.key) S.looks, is_there ((k.looks).headers.header header.held.number) _ s (sym (ap (λ (l : Look). l.headers.header header.held.number) S.looks) ∙ c.0) (c.1, h))

-- the act took in no header of that number
pub handed_after : (k m : Kept) (w : World) (a : Act) (r : Reply) (v : World) (header : BufferHeader) → Stands k w → Stands m v → Sound w → Meets w a → Step w a r v → taken_in a r ≢ Some header.held.number → IsHandedIn header k.looks → IsHandedIn header m.looks
handed_after k m w a r v header A B S M h n t =
    let x = handed_there k w header A t in
    let own : header.key ≡ v.key = t.0 ∙ sym (steps_key w a r v S M h ∙ ap (λ (l : Look). l.key) A.looks) in
    handed_here m v header x.0 B own (steps_clients w a r v header.held.number x.0 S M h x.1 n) x.2

pub keeps_all : (k m : Kept) (w : World) (a : Act) (r : Reply) (v : World) → Stands k w → Stands m v → Sound w → Meets w a → Step w a r v → taken_in a r ≡ None → Keeps k.looks m.looks
keeps_all k m w a r v A B S M h none header t =
    handed_after k m w a r v header A B S M h (λ e. let x : None ≡ Some header.held.number = sym none ∙ e in cc) t

pub keeps_others : (k m : Kept) (w : World) (a : Act) (r : Reply) (v : World) (given : BufferHeader) → Stands k w → Stands m v → Sound w → Meets w a → Step w a r v → taken_in a r ≡ Some given.held.number → KeepsOthers given k.looks m.looks
keeps_others k m w a r v given A B S M h taken header apart t =
    handed_after k m w a r v header A B S M h (λ e. let x : Some given.held.number ≡ Some header.held.number = sym taken ∙ e in let y : given.held.number ≡ header.held.number = cc in apart (sym y)) t

-- what is stood for, but for what the end of a trace needs
pub record Between (kept : Parts) (at : Moment) : Type 0 where
  pub world : Stands kept.graph at.world
  pub rests : IsAtRest kept.graph
  pub names : at.names ≡ names_in kept.components kept.slots
  pub sound : Sound at.world
  pub named : AreNamed kept.components at.world.numbered
  pub known : HaveSlots kept.slots (look at.world)
  pub hands : Hands kept.slots kept.graph.looks

pub between_of : (kept : Parts) (at : Moment) → IsMoment kept at → Between kept at
between_of kept at S = record { world = S.world; rests = S.rests; names = S.names; sound = S.sound; named = S.named; known = S.known; hands = S.hands }

pub stood_with : (kept : Parts) (at : Moment) → Between kept at → CanEnd kept → IsMoment kept at
stood_with kept at S E = record { world = S.world; rests = S.rests; names = S.names; sound = S.sound; named = S.named; known = S.known; hands = S.hands; ends = E }

-- the names stay, and nothing was made or taken in
pub between_after : (old : Parts) (at : Moment) (graph : Kept) (a : Act) (r : Reply) (v : World) → Between old at → Meets at.world a → Step at.world a r v → Stands graph v → NoneGot a r → made_by a r ≡ None → taken_in a r ≡ None
    → Between (record old { graph = graph }) (record at { world = v })
between_after old at graph a r v S M h B n m t =
    let w = at.world in
    record {
      world = B;
      rests = rests_after old.graph graph w a r v S.world B h S.rests;
      names = S.names;
      sound = sound_step w v a r M h S.sound;
      named = named_kept old.components w a r v S.sound M h n S.named;
      known = known_kept old.slots w a r v S.sound M h m S.known;
      hands = hands_kept old.slots (old.graph).looks graph.looks (keeps_all old.graph graph w a r v S.world B S.sound M h t) (looks_grow old.graph graph w a r v S.world B S.sound M h) S.hands;
    }

-- nor was a note taken
pub stood_after : (old : Parts) (at : Moment) (graph : Kept) (a : Act) (r : Reply) (v : World) → IsMoment old at → Meets at.world a → Step at.world a r v → Stands graph v → NoneGot a r → made_by a r ≡ None → taken_in a r ≡ None → NoneTaken a r
    → IsMoment (record old { graph = graph }) (record at { world = v })
stood_after old at graph a r v S M h B n m t q =
    stood_with (record old { graph = graph }) (record at { world = v }) (between_after old at graph a r v (between_of old at S) M h B n m t)
    (ends_kept old graph at.world a r v S.world B S.sound M h n q S.ends m S.hands)

-- one act is a run
pub run_of_one : (w : World) (a : Act) (r : Reply) (v : World) → Meets w a → Step w a r v → Run w ((a, r) ∷ []) v
run_of_one w a r v M h = (v, M, h, refl)
