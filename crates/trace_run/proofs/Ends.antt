-- What the end of a trace needs is kept by each line.
use Rattle.std.proofs.Common.{◌≡◌, ◌≢◌, inl, inr, ℕ, ◌+◌, ◌<◌, Bool, true, false, List, [], ◌∷◌, ◌++◌, set, slice_get, Option, Some, None, All, Ok, refl, sym, ◌∙◌, ap, subst, arith}
use Rattle.std.specs.Prelude.{IsSomeAnd}
use Rattle.omx_types.specs.declared.handle.Handle.{Handle}
use Rattle.omx_types.specs.declared.kind.Kind.{Kind}
use Rattle.il_machine.specs.declared.header.HeaderState.{HeaderState}
use Rattle.il_machine.specs.World.{Component, World, fresh}
use Rattle.il_machine.specs.Headers.{is_for}
use Rattle.il_machine.specs.Look.{Look, look}
use Rattle.il_machine.specs.Buffers.{IsWithClient}
use Rattle.il_machine.specs.Components.{with_new_component}
use Rattle.il_machine.specs.Due.{ClosesTo}
use Rattle.il_machine.specs.Notes.{TookNote}
use Rattle.il_machine.specs.Acts.{Act, Reply}
use Rattle.il_machine.specs.Acts as acts
use Rattle.il_machine.specs.Run.{Step, Meets}
use Rattle.il_machine.specs.Sound.{Sound}
use Rattle.il_machine.specs.Trails.{key_of}
use Rattle.il_machine.specs.Whole.{Kept, Stands}
use Rattle.machine_laws.proofs.Every.{at_place, from_places, at_set, at_push, push_there, push_last_there}
use Rattle.machine_laws.proofs.Keys.{there_is, is_there}
use Rattle.history_laws.specs.ClientHeaders.{IsClients, taken_in, number_out}
use Rattle.history_laws.proofs.Calm.{Fit, lasting}
use Rattle.history_laws.proofs.ComingHeaders.{steps_come, steps_taken}
use Rattle.history_laws.proofs.Cores.{core, NoneGot, NoneTaken, closes_each, outcome_each}
use Rattle.history_laws.proofs.MadeFor.{made_for_step}
use Rattle.history_laws.proofs.Steps.{step_comes}
use Rattle.header_core.specs.BufferHeader.{BufferHeader}
use Rattle.trace_run.specs.declared.names.NamedComponent.{NamedComponent}
use Rattle.trace_run.specs.declared.slots.Slot.{Slot}
use Rattle.trace_run.specs.Standing.{Parts, holding, Hands, IsNamed, IsSeated, HaveOwnNumbers, IsOfPort, AreOfPorts, CanEnd}
use Rattle.trace_run.proofs.Made.{made_by}
use Rattle.history_laws.proofs.Numbered.{numbered_step}
use Rattle.trace_run.proofs.SlotLists.{rising_below, rising_apart}

-- ---- components

-- no component has to be Invalid
abbrev pub Nobody : Handle → Type 0
Nobody h = ⊥

module _ (components : List NamedComponent) where
  -- the client object is in, and a line was given the handle
  abbrev pub IsIn : Handle → Bool → Type 0
  IsIn h out = (out ≡ false) × IsNamed components h

  pub fit_of : (cs : List Component) → All (IsSeated components) cs → All (λ (c : Component). Fit IsIn Nobody (core c)) cs
  fit_of cs A = from_places (λ (c : Component). Fit IsIn Nobody (core c)) cs (λ i c e. let k = at_place (IsSeated components) cs i c A e in (k.0, k.1, λ d. absurd d))

  pub seated_of : (cs : List Component) → All (λ (c : Component). Fit IsIn Nobody (core c)) cs → All (IsSeated components) cs
  seated_of cs A = from_places (IsSeated components) cs (λ i c e. let k = at_place (λ (c : Component). Fit IsIn Nobody (core c)) cs i c A e in (k.0, k.1))

  pub seated_closes : (w v : World) → ClosesTo w v → All (IsSeated components) w.components → All (IsSeated components) v.components
  seated_closes w v C A = seated_of v.components (closes_each (Fit IsIn Nobody) (lasting IsIn Nobody (λ h out q. (refl, q.1))) w v C (fit_of w.components A))

  pub seated_step : (w : World) (a : Act) (r : Reply) (v : World) → Sound w → Meets w a → Step w a r v → NoneGot a r → NoneTaken a r → All (IsSeated components) w.components → All (IsSeated components) v.components
  seated_step w a r v S M h n t A =
      seated_of v.components (outcome_each (Fit IsIn Nobody) (lasting IsIn Nobody (λ k out q. (refl, q.1))) w a r v S (inl n) (λ k x c work e f g p. p) (inl t) (step_comes w a r v S M h) (fit_of w.components A))

pub some_and : {A : Type 0} (o : Option A) (P : A → Type 0) (x : A) → o ≡ Some x → P x → IsSomeAnd o P
some_and o P x e p = rw e p

pub and_some : {A : Type 0} (o : Option A) (P : A → Type 0) → IsSomeAnd o P → (x : A) × (o ≡ Some x) × P x
and_some None P h = absurd h
and_some (Some x) P h = (x, refl, h)

pub named_more : (components : List NamedComponent) (entry : NamedComponent) (h : Handle) → IsNamed components h → IsNamed (components ++ entry ∷ []) h
named_more components entry h (place, n) =
    let x = and_some (slice_get components place) (λ e. e.handle ≡ h) n in
    (place, some_and (slice_get (components ++ entry ∷ []) place) (λ e. e.handle ≡ h) x.0 (push_there components place entry x.0 x.1) x.2)

-- a component was made, of the handle of the new entry
pub seated_new : (components : List NamedComponent) (entry : NamedComponent) (kind : Kind) (w v : World) → ClosesTo (with_new_component entry.handle kind w) v → All (IsSeated components) w.components → All (IsSeated (components ++ entry ∷ [])) v.components
seated_new components entry kind w v C A =
    let more = components ++ entry ∷ [] in
    let last = some_and (slice_get more _) (λ e. e.handle ≡ entry.handle) entry (push_last_there components entry) refl in
    seated_closes more (with_new_component entry.handle kind w) v C (from_places (IsSeated more) (w.components ++ fresh entry.handle kind ∷ []) (λ i c e. elim (at_push w.components i (fresh entry.handle kind) c e) [
      | inl old ↦ let k = at_place (IsSeated components) w.components i c A old in ((k.0.0, named_more components entry c.handle k.0.1), k.1)
      | inr new ↦ subst (IsSeated more) (sym new) ((refl, (_, last)), λ x. refl)
    ]))

pub apart_push : (components : List NamedComponent) (entry : NamedComponent) (numbered : ℕ) → entry.handle.generation ≡ numbered → HaveOwnNumbers components numbered → HaveOwnNumbers (components ++ entry ∷ []) (numbered + 1)
apart_push components entry numbered g A = record {
  below = λ i e at. elim (at_push components i entry e at) [
    | inl old ↦ let l = A.below i e old in omega (arith, l)
    | inr new ↦ let n : e.handle.generation ≡ numbered = ap (λ (x : NamedComponent). x.handle.generation) new ∙ g in omega (arith, n)
  ];
  one = λ i j a b e f same. elim (at_push components i entry a e) [
    | inl old ↦ elim (at_push components j entry b f) [
      | inl older ↦ A.one i j a b old older same
      | inr new ↦
          let l = A.below i a old in
          let n : b.handle.generation ≡ numbered = ap (λ (x : NamedComponent). x.handle.generation) new ∙ g in
          absurd (omega (arith, l, n, same))
    ]
    | inr new ↦ elim (at_push components j entry b f) [
      | inl old ↦
          let l = A.below j b old in
          let n : a.handle.generation ≡ numbered = ap (λ (x : NamedComponent). x.handle.generation) new ∙ g in
          absurd (omega (arith, l, n, same))
      | inr newer ↦ ap (λ (x : NamedComponent). x.handle) (new ∙ sym newer)
    ]
  ];
}

-- ---- slots

clients_of : (number : ℕ) (k : Kept) (w : World) → Stands k w → IsWithClient number k.looks → (s : HeaderState) × IsClients (look w) number s
clients_of number k w S H =
    let x = there_is ((k.looks).headers.header number) _ H in
    (x.0, (ap (λ (l : Look). l.headers.header number) S.looks ∙ x.1, x.2))

with_client : (number : ℕ) (k : Kept) (w : World) (s : HeaderState) → Stands k w → IsClients (look w) number s → IsWithClient number k.looks
with_client number k w s S c = is_there ((k.looks).headers.header number) _ s (sym (ap (λ (l : Look). l.headers.header number) S.looks) ∙ c.0) c.1

-- over one act
module _ (k m : Kept) (w : World) (a : Act) (r : Reply) (v : World) (A : Stands k w) (B : Stands m v) (S : Sound w) (M : Meets w a) (h : Step w a r v) where
  pub none_comes : (number : ℕ) → number_out a r ≢ Some number → IsWithClient number m.looks → IsWithClient number k.looks
  none_comes number n H =
      let s = clients_of number m v B H in
      with_client number k w s.0 A (steps_come w a r v number s.0 S M h s.1 n)

  pub taken_away : (number : ℕ) → taken_in a r ≡ Some number → ¬ (IsWithClient number m.looks)
  taken_away number t H = let s = clients_of number m v B H in steps_taken w a r v number s.0 S M h t s.1

  module _ (components : List NamedComponent) where
    -- the slot of a header that was made before
    still_for : (slot : Slot) → slot.number < (k.looks).made → IsOfPort components k.looks slot → (s : HeaderState) → (m.looks).headers.header slot.number ≡ Some s → is_for (key_of slot.port.handle slot.port.index) s ≡ true
    still_for slot b P s e =
        let made : w.made ≡ (k.looks).made = ap (λ (l : Look). l.made) A.looks in
        let W = made_for_step w a r v slot.number s S M h (λ i. omega (arith, made, b, i)) (ap (λ (l : Look). l.headers.header slot.number) B.looks ∙ e) in
        W.same (key_of slot.port.handle slot.port.index) ∙ P.made_for W.was (sym (ap (λ (l : Look). l.headers.header slot.number) A.looks) ∙ W.there)

    pub port_kept : (slot : Slot) → slot.number < (k.looks).made → number_out a r ≢ Some slot.number → IsOfPort components k.looks slot → IsOfPort components m.looks slot
    port_kept slot b n P = record {
      named = P.named;
      made_for = still_for slot b P;
      away = λ none H. P.away none (none_comes slot.number n H);
    }

    -- a header is in its hand
    pub port_holding : (slot : Slot) (header : BufferHeader) → slot.number < (k.looks).made → IsOfPort components k.looks slot → IsOfPort components m.looks (holding (Some header) slot)
    port_holding slot header b P = record {
      named = P.named;
      made_for = still_for slot b P;
      away = λ e. absurd cc;
    }

    -- its header was taken in
    port_emptied : (slot : Slot) → slot.number < (k.looks).made → taken_in a r ≡ Some slot.number → IsOfPort components k.looks slot → IsOfPort components m.looks (holding None slot)
    port_emptied slot b t P = record {
      named = P.named;
      made_for = still_for slot b P;
      away = λ none. taken_away slot.number t;
    }

    module _ (slots : List Slot) (H : Hands slots k.looks) (P : AreOfPorts components k.looks slots) where
      below : (place : ℕ) (slot : Slot) → slice_get slots place ≡ Some slot → slot.number < (k.looks).made
      below place slot at = rising_below 0 (k.looks).made place slots slot H.rising at

      pub ports_kept : number_out a r ≡ None → AreOfPorts components m.looks slots
      ports_kept none place slot at = port_kept slot (below place slot at) (λ e. let x : None ≡ Some slot.number = sym none ∙ e in cc) (P place slot at)

      pub ports_emptied : (i : ℕ) (s : Slot) (number : ℕ) → slice_get slots i ≡ Some s → number ≡ s.number → taken_in a r ≡ Some number → number_out a r ≡ None → AreOfPorts components m.looks (set slots i (holding None s))
      ports_emptied i s number there n t none place slot at = elim (at_set slots i place (holding None s) slot at) [
        | inl x ↦ rw x.1 (port_emptied s (below i s there) (t ∙ ap Some n) (P i s there))
        | inr x ↦ ports_kept none place slot x.1
      ]

      pub ports_holding : (i : ℕ) (s : Slot) (header : BufferHeader) → slice_get slots i ≡ Some s → number_out a r ≡ None → AreOfPorts components m.looks (set slots i (holding (Some header) s))
      ports_holding i s header there none place slot at = elim (at_set slots i place (holding (Some header) s) slot at) [
        | inl x ↦ rw x.1 (port_holding s header (below i s there) (P i s there))
        | inr x ↦ ports_kept none place slot x.1
      ]

      -- the header that the act gives comes into the hand of its slot
      pub ports_given : (i : ℕ) (s : Slot) (header : BufferHeader) → slice_get slots i ≡ Some s → number_out a r ≡ Some s.number → AreOfPorts components m.looks (set slots i (holding (Some header) s))
      ports_given i s header there given place slot at = elim (at_set slots i place (holding (Some header) s) slot at) [
        | inl x ↦ rw x.1 (port_holding s header (below i s there) (P i s there))
        | inr x ↦ port_kept slot (below place slot x.1) (λ e.
            let q : Some s.number ≡ Some slot.number = sym given ∙ e in
            let is : s.number ≡ slot.number = cc in
            rising_apart 0 (k.looks).made i place slots s slot H.rising there x.1 x.0 (sym is)) (P place slot x.1)
      ]

      pub ports_push : (s : Slot) → number_out a r ≡ Some s.number → s.number ≡ (k.looks).made → IsOfPort components m.looks s → AreOfPorts components m.looks (slots ++ s ∷ [])
      ports_push s given n new place slot at = elim (at_push slots place s slot at) [
        | inl old ↦ let b = below place slot old in port_kept slot b (λ e.
            let q : Some s.number ≡ Some slot.number = sym given ∙ e in
            let is : s.number ≡ slot.number = cc in
            omega (arith, b, n, is)) (P place slot old)
        | inr x ↦ subst (IsOfPort components m.looks) (sym x) new
      ]

-- the names are more
pub ports_named : (components : List NamedComponent) (entry : NamedComponent) (l : Look) (slots : List Slot) → AreOfPorts components l slots → AreOfPorts (components ++ entry ∷ []) l slots
ports_named components entry l slots P place slot at =
    let x = P place slot at in
    record { named = named_more components entry slot.port.handle x.named; made_for = x.made_for; away = x.away }

-- ---- all of it

-- an act that makes nothing and gives nothing
pub none_out : (a : Act) (r : Reply) → made_by a r ≡ None → NoneTaken a r → number_out a r ≡ None
none_out (acts.AllocateBuffer h port) (acts.Allocated (Ok header)) m t = absurd cc
none_out (acts.UseBuffer h port bytes) (acts.Used (Ok header)) m t = absurd cc
none_out (acts.TakeNote h) (acts.Took (Ok (TookNote taken))) m t = absurd t
none_out _ _ m t = refl

pub seated_there : (components : List NamedComponent) (k : Kept) (w : World) → Stands k w → All (IsSeated components) (k.looks).components → All (IsSeated components) w.components
seated_there components k w S A = subst (All (IsSeated components)) (sym (ap (λ (l : Look). l.components) S.looks)) A

pub seated_here : (components : List NamedComponent) (k : Kept) (w : World) → Stands k w → All (IsSeated components) w.components → All (IsSeated components) (k.looks).components
seated_here components k w S A = subst (All (IsSeated components)) (ap (λ (l : Look). l.components) S.looks) A

pub apart_here : (components : List NamedComponent) (k m : Kept) (w v : World) → Stands k w → Stands m v → v.numbered ≡ w.numbered → HaveOwnNumbers components (k.looks).numbered → HaveOwnNumbers components (m.looks).numbered
apart_here components k m w v A B n P =
    subst (HaveOwnNumbers components) (sym (ap (λ (l : Look). l.numbered) A.looks) ∙ (sym n ∙ ap (λ (l : Look). l.numbered) B.looks)) P

module _ (old : Parts) (graph : Kept) (w : World) (a : Act) (r : Reply) (v : World) (A : Stands old.graph w) (B : Stands graph v) (S : Sound w) (M : Meets w a) (h : Step w a r v) (n : NoneGot a r) (t : NoneTaken a r) (E : CanEnd old) where
  -- with other slots
  pub ends_with : (slots : List Slot) → AreOfPorts old.components graph.looks slots → CanEnd (record { graph = graph; components = old.components; slots = slots })
  ends_with slots P = record {
    seated = seated_here old.components graph v B (seated_step old.components w a r v S M h n t (seated_there old.components old.graph w A E.seated));
    apart = apart_here old.components old.graph graph w v A B (numbered_step w a r v S M h n) E.apart;
    slots = P;
  }

  pub ends_kept : made_by a r ≡ None → Hands old.slots (old.graph).looks → CanEnd (record old { graph = graph })
  ends_kept m H = ends_with old.slots (ports_kept old.graph graph w a r v A B S M h old.components old.slots H E.slots (none_out a r m t))
