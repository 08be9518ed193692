-- At the end each component is Invalid, so that each header in hand can be freed; then the client has none.
use Rattle.std.proofs.Common.{◌≡◌, ◌≢◌, inl, inr, ℕ, ◌+◌, ◌<◌, ◌≤◌, Bool, true, false, ◌&&◌, ◌||◌, List, [], ◌∷◌, ◌++◌, length, position, slice_get, get_or, Option, Some, None, All, MatchOption, Result, Ok, Err, refl, sym, ◌∙◌, ap, subst, arith}
use Rattle.std.proofs.lemmas.Bool.{cases_eq, cases_lt}
use Rattle.std.proofs.lemmas.Option.{get_or_from_slice_get, slice_get_within}
use Rattle.std.specs.Prelude.{IsSome, IfSome, option_and_then, option_map}
use Rattle.omx_types.specs.declared.handle.Handle.{Handle}
use Rattle.omx_types.specs.declared.error.OmxError.{OmxError}
use Rattle.omx_types.specs.declared.error.OmxError.TheVariants as errors
use Rattle.omx_types.specs.declared.state.State.TheVariants.{Invalid}
use Rattle.il_machine.specs.declared.header.Home.TheVariants as homes
use Rattle.il_machine.specs.declared.header.HeaderState.{HeaderState}
use Rattle.il_machine.specs.declared.header.Owner.{Owner}
use Rattle.il_machine.specs.declared.header.Owner.TheVariants as owners
use Rattle.il_machine.specs.declared.port.Port.{Port}
use Rattle.il_machine.specs.declared.port.PortKey.{PortKey}
use Rattle.il_machine.specs.World.{Component, World, number_of, place_of, port_of, with_component}
use Rattle.il_machine.specs.Headers.{is_for, is_key, same_key}
use Rattle.il_machine.specs.Look.{Look, look}
use Rattle.il_machine.specs.Answers.{component_named, Answers}
use Rattle.il_machine.specs.Buffers.{AtState, AtPort, IsWithClient, FreeBuffer, free_buffer_refusal, is_unpopulating, unpopulated, without_header}
use Rattle.il_machine.specs.Due.{ClosesTo}
use Rattle.il_machine.specs.Acts.{Act, Reply}
use Rattle.il_machine.specs.Acts as acts
use Rattle.il_machine.specs.Sound.{Sound, IsMadeFor, IsOwnedSo, home_for, port_at}
use Rattle.il_machine.specs.Trails.{key_of}
use Rattle.il_machine.specs.Whole.{Kept, Stands, Steps}
use Rattle.il_machine.proofs.Places.{is_first_place, passes_at}
use Rattle.machine_laws.proofs.Every.{at_place, from_places, push_there, push_last_there, at_push}
use Rattle.machine_laws.proofs.Keys.{key_is, there_is, is_there, at_there}
use Rattle.machine_laws.proofs.Lookups.{has_port, port_parts}
use Rattle.machine_laws.proofs.Steps.{sound_step}
use Rattle.history_laws.proofs.Calm.{Fit, lasting}
use Rattle.history_laws.proofs.Cores.{core, outcome_each}
use Rattle.history_laws.proofs.Homes.{found_state, set_in}
use Rattle.history_laws.proofs.Steps.{step_comes}
use Rattle.header_core.specs.BufferHeader.{BufferHeader}
use Rattle.graph_core.specs.Changes.{IsHandedIn}
use Rattle.graph_core.specs.Ending.{IsAllIn}
use Rattle.audio_parts.specs.AnyParts.{attached_of}
use Rattle.audio_parts.specs.declared.part_file.PartFile.{PartFile}
use Rattle.audio_parts.specs.declared.part_file.PartFile.TheVariants as files
use Rattle.il_graph.specs.NoFiles.{NoFile}
use Rattle.il_graph.specs.Shown.{HaveTheirFiles, file_at, look_of}
use Rattle.trace_run.specs.declared.names.NamedComponent.{NamedComponent}
use Rattle.trace_run.specs.declared.slots.Slot.{Slot}
use Rattle.trace_run.specs.Standing.{GraphShown, Parts, slot_numbered, AreRising, Hands, IsNamed, IsSeated, IsOfPort, HasMoment}
use Rattle.trace_run.specs.Closing.{HaveNoWork, IsEnded, StayEnded, IsFreeable, IsFreed, IsInHand, CanFree, IsOver}
use Rattle.trace_run.proofs.Ends.{and_some, some_and, none_comes, taken_away, port_kept, seated_there, ends_with}
use Rattle.trace_run.proofs.Handed.{when_some}
use Rattle.trace_run.proofs.Invalidating.{named_there}
use Rattle.trace_run.proofs.Lasting.{Any, none_step, none_there, none_here}
use Rattle.trace_run.proofs.SlotLists.{rising_more, rising_below, rising_front}
use Rattle.trace_run.proofs.Standing.{keeps_others, looks_grow}
use Rattle.trace_run.proofs.Taking.{same_number}

-- ---- a header that is with the client, in a sound world

record IsHome (w : World) (s : HeaderState) : Type 0 where
  peer : s.peer ≡ None
  home : s.home ≡ homes.Client
  port : MatchOption (port_at s.port w.components) ⊥ (IsMadeFor s.peer)

home_of : (w : World) (number : ℕ) (s : HeaderState) → Sound w → (look w).headers.header number ≡ Some s → s.owner ≡ owners.Client → IsHome w s
home_of w number s S e o =
    let x = found_state number w s e in
    let I = set_in w number x.0 S x.1 in
    let own : IsOwnedSo x.0.state owners.Client = subst (λ (y : Owner). IsOwnedSo x.0.state y) (ap (λ (y : HeaderState). y.owner) x.2 ∙ o) I.owner in
    subst (λ (y : HeaderState). IsHome w y) x.2 (record { peer = own.1; home = I.home ∙ ap (home_for x.0.state.port) own.1; port = I.port })

only : (b c : Bool) → c ≡ false → b || c ≡ true → b ≡ true
only true c e f = refl
only false true e f = absurd cc
only false false e f = f

-- made for the port, and for no other
own_port : (key : PortKey) (s : HeaderState) → s.peer ≡ None → is_for key s ≡ true → s.port ≡ key
own_port key s p f = key_is s.port key (only (same_key s.port key) (is_key key s.peer) (ap (is_key key) p) f)

-- ---- freeing isn't refused

not_up : (b c : Bool) → (b && false) && c ≡ false
not_up true c = refl
not_up false c = refl

unrefused : (c : Component) (p : Port) (s : HeaderState) → c.state ≡ Invalid → is_for p.key s ≡ true → free_buffer_refusal c (Some p) s ≡ None
unrefused c p s i f =
    let n : is_unpopulating c p ≡ false = rw i (not_up p.state.enabled _) in
    rw (f, n) refl

module _ (graph : Kept) (slots : List Slot) (C : CanFree graph slots) where
  abbrev w : World
  w = C.world

  seated_in : All (IsSeated C.components) w.components
  seated_in = seated_there C.components graph w C.stands C.ends.seated

  invalid_in : All (λ (c : Component). c.state ≡ Invalid) w.components
  invalid_in = subst (All (λ (c : Component). c.state ≡ Invalid)) (sym (ap (λ (l : Look). l.components) C.stands.looks)) C.invalid

  -- the two handles were given to lines, and have one number
  one_handle : (g h : Handle) → IsNamed C.components g → IsNamed C.components h → g.generation ≡ h.generation → g ≡ h
  one_handle g h (i, a) (j, b) e =
      let x = and_some (slice_get C.components i) _ a in
      let y = and_some (slice_get C.components j) _ b in
      sym x.2 ∙ (C.ends.apart.one i j x.0 y.0 x.1 y.1 (ap (λ (z : Handle). z.generation) x.2 ∙ (e ∙ sym (ap (λ (z : Handle). z.generation) y.2))) ∙ y.2)

  freeable_of : (slot : Slot) (header : BufferHeader) → header.held.number ≡ slot.number → IsHandedIn header graph.looks → IsOfPort C.components graph.looks slot
      → MatchOption (component_named slot.port.handle (graph.looks).components) ⊥ (λ c. AtState header.held.number graph.looks (λ s. free_buffer_refusal c (port_of c slot.port.index) s ≡ None))
  freeable_of slot header n H P =
      let l = graph.looks in
      let looks = C.stands.looks in
      let x = there_is (l.headers.header header.held.number) _ H.1 in
      let s = x.0 in
      let known : (look w).headers.header header.held.number ≡ Some s = ap (λ (y : Look). y.headers.header header.held.number) looks ∙ x.1 in
      let key = key_of slot.port.handle slot.port.index in
      let home = home_of w header.held.number s C.sound known x.2.0 in
      let made = P.made_for s (ap l.headers.header (sym n) ∙ x.1) in
      let is : s.port ≡ key = own_port key s home.peer made in
      let p = there_is (port_at s.port w.components) _ home.port in
      let h = has_port s.port w.components p.0 p.1 in
      let c = h.component in
      let number : number_of c ≡ slot.port.handle.generation = h.number ∙ ap (λ (k : PortKey). k.component) is in
      let seat = at_place (IsSeated C.components) w.components h.place c seated_in h.there in
      let handle : c.handle ≡ slot.port.handle = one_handle c.handle slot.port.handle seat.0.1 P.named number in
      let named : component_named slot.port.handle w.components ≡ Some c = named_there w h.place c slot.port.handle C.sound h.there handle in
      let port : port_of c slot.port.index ≡ Some p.0 = ap (λ (k : PortKey). port_of c k.port) (sym is) ∙ h.port in
      let own : (p.0).key ≡ key = (port_parts c slot.port.index p.0 port).key ∙ ap (λ (m : ℕ). record { component = m; port = slot.port.index }) number in
      let invalid = at_place (λ (d : Component). d.state ≡ Invalid) w.components h.place c invalid_in h.there in
      let none : free_buffer_refusal c (port_of c slot.port.index) s ≡ None = ap (λ (o : Option Port). free_buffer_refusal c o s) port ∙ unrefused c p.0 s invalid (ap (λ (k : PortKey). is_for k s) own ∙ made) in
      is_there (component_named slot.port.handle l.components) _ c (sym (ap (λ (y : Look). component_named slot.port.handle y.components) looks) ∙ named)
      (is_there (l.headers.header header.held.number) _ s x.1 none)

  freeable_hand : (slot : Slot) (o : Option BufferHeader) → IfSome o (λ header. (header.held.number ≡ slot.number) × IsHandedIn header graph.looks) → IsOfPort C.components graph.looks slot
      → IfSome o (λ header. IsHandedIn header graph.looks × MatchOption (component_named slot.port.handle (graph.looks).components) ⊥ (λ c. AtState header.held.number graph.looks (λ s. free_buffer_refusal c (port_of c slot.port.index) s ≡ None)))
  freeable_hand slot None H P = tt
  freeable_hand slot (Some header) H P = (H.1, freeable_of slot header H.0 H.1 P)

pub freeable : (graph : Kept) (front slots : List Slot) (slot : Slot) → slots ≡ front ++ slot ∷ [] → CanFree graph slots → IsFreeable slot graph.looks
freeable graph front slots slot e C =
    let at : slice_get slots (length front) ≡ Some slot = ap (λ (l : List Slot). slice_get l (length front)) e ∙ push_last_there front slot in
    freeable_hand graph slots C slot slot.hand (C.hands.each (length front) slot at) (C.ends.slots (length front) slot at)

-- ---- one slot less

rising_under : (front : List Slot) (slot : Slot) (next : ℕ) → AreRising 0 (front ++ slot ∷ []) next → slot.number ≤ next
rising_under front slot next R = let b = rising_below 0 next (length front) (front ++ slot ∷ []) slot R (push_last_there front slot) in omega (arith, b)

hand_of : (P : BufferHeader → Type 0) (o : Option BufferHeader) (header : BufferHeader) → o ≡ Some header → IfSome o P → P header
hand_of P None header e h = absurd cc
hand_of P (Some x) header e h = let is : x ≡ header = cc in subst P is h

others_kept : (l m : Look) (number n : ℕ) (o : Option BufferHeader) → n ≢ number → ((header : BufferHeader) → header.held.number ≢ number → IsHandedIn header l → IsHandedIn header m)
    → IfSome o (λ header. (header.held.number ≡ n) × IsHandedIn header l) → IfSome o (λ header. (header.held.number ≡ n) × IsHandedIn header m)
others_kept l m number n None a K h = tt
others_kept l m number n (Some header) a K h = (h.0, K header (λ e. a (sym h.0 ∙ e)) h.1)

hands_front : (front : List Slot) (slot : Slot) (l : Look) → Hands (front ++ slot ∷ []) l → Hands front l
hands_front front slot l H = record {
  rising = rising_more 0 slot.number l.made front (rising_front 0 l.made front slot H.rising) (rising_under front slot l.made H.rising);
  each = λ i s at. H.each i s (push_there front i slot s at);
}

-- in the hand of another slot
in_front : (front : List Slot) (slot : Slot) (number : ℕ) → IsInHand number (front ++ slot ∷ []) → ¬ ((slot.number ≡ number) × IsSome slot.hand) → IsInHand number front
in_front front slot number (place, h) n =
    let x = and_some (slice_get (front ++ slot ∷ []) place) _ h in
    elim (at_push front place slot x.0 x.1) [
      | inl old ↦ (place, some_and (slice_get front place) _ x.0 old x.2)
      | inr new ↦ absurd (n (subst (λ (s : Slot). (s.number ≡ number) × IsSome s.hand) new x.2))
    ]

-- the header of the last slot was freed
module _ (old new : Kept) (front : List Slot) (slot : Slot) (C : CanFree old (front ++ slot ∷ [])) where
  no_hand : new ≡ old → slot.hand ≡ None → CanFree new front
  no_hand e none = subst (λ (k : Kept). CanFree k front) (sym e) (record {
    components = C.components;
    world = C.world;
    stands = C.stands;
    sound = C.sound;
    hands = hands_front front slot old.looks C.hands;
    ends = record { seated = C.ends.seated; apart = C.ends.apart; slots = λ i s at. C.ends.slots i s (push_there front i slot s at) };
    invalid = C.invalid;
    works = C.works;
    all = λ number H. in_front front slot number (C.all number H) (λ h. let some : IsSome {T = BufferHeader} None = subst (λ (o : Option BufferHeader). IsSome o) none h.1 in cc);
  })

  module _ (header : BufferHeader) (hand : slot.hand ≡ Some header) (memory : Bool) (v : World) (B : Stands new v)
      (step : FreeBuffer C.world slot.port.handle slot.port.index header.held.number (Ok memory) v) where
    abbrev a : Act
    a = acts.FreeBuffer slot.port.handle slot.port.index header.held.number

    abbrev r : Reply
    r = acts.Freed (Ok memory)

    abbrev before : Parts
    before = record { graph = old; components = C.components; slots = front }

    its_hand : (header.held.number ≡ slot.number) × IsHandedIn header old.looks
    its_hand = hand_of (λ h. (h.held.number ≡ slot.number) × IsHandedIn h old.looks) slot.hand header hand (C.hands.each (length front) slot (push_last_there front slot))

    meets : IsWithClient header.held.number (look C.world)
    meets =
        let handed : IsHandedIn header old.looks = its_hand.1 in
        let x = there_is ((old.looks).headers.header header.held.number) _ handed.1 in
        is_there ((look C.world).headers.header header.held.number) _ x.0 (ap (λ (l : Look). l.headers.header header.held.number) C.stands.looks ∙ x.1) x.2.0

    fronts : Hands front old.looks
    fronts = hands_front front slot old.looks C.hands

    rising_apart_last : (i : ℕ) (s : Slot) → slice_get front i ≡ Some s → s.number ≢ header.held.number
    rising_apart_last i s at e =
        let b = rising_below 0 slot.number i front s (rising_front 0 (old.looks).made front slot C.hands.rising) at in
        let n = its_hand.0 in
        omega (arith, b, n, e)

    freed_hands : Hands front new.looks
    freed_hands = record {
      rising = rising_more 0 (old.looks).made (new.looks).made front fronts.rising (looks_grow old new C.world a r v C.stands B C.sound meets step);
      each = λ i s at. others_kept old.looks new.looks header.held.number s.number s.hand (rising_apart_last i s at) (keeps_others old new C.world a r v header C.stands B C.sound meets step refl) (fronts.each i s at);
    }

    freed_invalid : All (λ (c : Component). c.state ≡ Invalid) (new.looks).components
    freed_invalid =
        let Everyone : Handle → Type 0 = λ (h : Handle). Unit {0} in
        let F : Component → Type 0 = λ (c : Component). Fit Any Everyone (core c) in
        let w = C.world in
        let start : All F w.components = from_places F w.components (λ i c e.
        (tt, (at_place (IsSeated C.components) w.components i c (seated_in old (front ++ slot ∷ []) C) e).1, λ d. at_place (λ (c : Component). c.state ≡ Invalid) w.components i c (invalid_in old (front ++ slot ∷ []) C) e)) in
        let after = outcome_each (Fit Any Everyone) (lasting Any Everyone (λ k out q. tt)) w a r v C.sound (inl tt) (λ k x c work e f g p. p) (inl tt) (step_comes w a r v C.sound meets step) start in
        subst (All (λ (c : Component). c.state ≡ Invalid)) (ap (λ (l : Look). l.components) B.looks) (from_places (λ (c : Component). c.state ≡ Invalid) v.components (λ i c e. (at_place F v.components i c after e).2 tt))

    freed_one : CanFree new front
    freed_one = record {
      components = C.components;
      world = v;
      stands = B;
      sound = sound_step C.world v a r meets step C.sound;
      hands = freed_hands;
      ends = ends_with before new C.world a r v C.stands B C.sound meets step tt tt
          (record { seated = C.ends.seated; apart = C.ends.apart; slots = λ i s at. C.ends.slots i s (push_there front i slot s at) })
          front (λ i s at. port_kept old new C.world a r v C.stands B C.sound meets step C.components s
          (rising_below 0 (old.looks).made i front s fronts.rising at) (λ e. absurd cc) (C.ends.slots i s (push_there front i slot s at)));
      invalid = freed_invalid;
      works = none_here new v B (none_step C.world a r v C.sound meets step (λ n. refl) (none_there old C.world C.stands C.works));
      all = λ number H. in_front front slot number (C.all number (none_comes old new C.world a r v C.stands B C.sound meets step number (λ e. absurd cc) H)) (λ h.
          taken_away old new C.world a r v C.stands B C.sound meets step number (ap Some (its_hand.0 ∙ h.0)) H);
    }

  freed_by : (o : Option BufferHeader) → slot.hand ≡ o → MatchOption o (new ≡ old) (λ header. (memory : Bool) × Steps old new (λ w v. FreeBuffer w slot.port.handle slot.port.index header.held.number (Ok memory) v)) → CanFree new front
  freed_by None hand F = no_hand F hand
  freed_by (Some header) hand (memory, F) = let x = F C.world C.stands in freed_one header hand memory x.0 x.1 x.2

  pub freed_last : IsFreed slot old new → CanFree new front
  freed_last F = freed_by slot.hand refl F

-- ---- at the end no header is left

pub all_over : (graph : Kept) → CanFree graph [] → IsOver graph.looks
all_over graph C = record {
  works = C.works;
  headers = λ number H. let x = C.all number H in x.1;
  clients = from_places (λ (c : Component). c.client_out ≡ false) (graph.looks).components (λ i c e. (at_place (IsSeated C.components) (graph.looks).components i c C.ends.seated e).0.0);
}

-- ---- at the beginning

some_there : {A : Type 0} (o : Option A) → IsSome o → (x : A) × (o ≡ Some x)
some_there None h = absurd cc
some_there (Some x) h = (x, refl)

module _ (kept : Parts) (S : HasMoment kept) (E : (i : ℕ) (entry : NamedComponent) → slice_get kept.components i ≡ Some entry → IsEnded entry.handle (kept.graph).looks) (N : HaveNoWork (kept.graph).looks) where
  abbrev at_world : World
  at_world = S.at.world

  all_invalid : All (λ (c : Component). c.state ≡ Invalid) (kept.graph).looks.components
  all_invalid =
      let cs = (kept.graph).looks.components in
      from_places (λ (c : Component). c.state ≡ Invalid) cs (λ i c e.
      let seat = at_place (IsSeated kept.components) cs i c S.stood.ends.seated e in
      let x = and_some (slice_get kept.components seat.0.1.0) _ seat.0.1.1 in
      at_place (λ (d : Component). d.handle ≡ (x.0).handle → d.state ≡ Invalid) cs i c (E seat.0.1.0 x.0 x.1) e (sym x.2))

  hand_there : (number place : ℕ) (slot : Slot) (o : Option BufferHeader) → slot.hand ≡ o → slice_get kept.slots place ≡ Some slot → slot.number ≡ number → IsWithClient number (kept.graph).looks → IsSome o
  hand_there number place slot (Some header) e at n H = refl
  hand_there number place slot None e at n H = absurd ((S.stood.ends.slots place slot at).away e (subst (λ (k : ℕ). IsWithClient k (kept.graph).looks) (sym n) H))

  all_in_hand : (number : ℕ) → IsWithClient number (kept.graph).looks → IsInHand number kept.slots
  all_in_hand number H =
      let l = (kept.graph).looks in
      let x = there_is (l.headers.header number) _ H in
      let known : (look at_world).headers.header number ≡ Some x.0 = ap (λ (y : Look). y.headers.header number) S.stood.world.looks ∙ x.1 in
      let home = home_of at_world number x.0 S.stood.sound known x.2 in
      let p = some_there (position (slot_numbered number) kept.slots) (S.stood.known number x.0 known home.home) in
      let y = passes_at (slot_numbered number) kept.slots p.0 (sym (is_first_place (slot_numbered number) kept.slots) ∙ p.1) in
      let n = same_number kept.slots number p.0 y.0 p.1 y.1 in
      (p.0, some_and (slice_get kept.slots p.0) _ y.0 y.1 (n, hand_there number p.0 y.0 (y.0).hand refl y.1 n H))

  pub can_free : CanFree kept.graph kept.slots
  can_free = record {
    components = kept.components;
    world = at_world;
    stands = S.stood.world;
    sound = S.stood.sound;
    hands = S.stood.hands;
    ends = S.stood.ends;
    invalid = all_invalid;
    works = N;
    all = all_in_hand;
  }

-- ---- it isn't refused

module _ (old new : Kept) (slot : Slot) (header : BufferHeader) (hand : slot.hand ≡ Some header) where
  abbrev IsOpen : Component → Type 0
  IsOpen c = AtState header.held.number old.looks (λ s. free_buffer_refusal c (port_of c slot.port.index) s ≡ None)

  freeable_at : IsFreeable slot old.looks → IsHandedIn header old.looks × MatchOption (component_named slot.port.handle (old.looks).components) ⊥ IsOpen
  freeable_at F = hand_of (λ h. IsHandedIn h old.looks × MatchOption (component_named slot.port.handle (old.looks).components) ⊥ (λ c. AtState h.held.number old.looks (λ s. free_buffer_refusal c (port_of c slot.port.index) s ≡ None))) slot.hand header hand F

  pub handed_slot : IsFreeable slot old.looks → IsHandedIn header old.looks
  handed_slot F = (freeable_at F).0

  pub freed_so : (memory : Bool) → Steps old new (λ w v. FreeBuffer w slot.port.handle slot.port.index header.held.number (Ok memory) v) → IsFreed slot old new
  freed_so memory F = when_some slot.hand (new ≡ old) _ header hand (memory, F)

  module _ (F : IsFreeable slot old.looks) (w : World) (S : Stands old w) (error : OmxError) (v : World) where
    looks : look w ≡ old.looks
    looks = S.looks

    refused_not : (c : Component) (s : HeaderState) → component_named slot.port.handle w.components ≡ Some c → (look w).headers.header header.held.number ≡ Some s → free_buffer_refusal c (port_of c slot.port.index) s ≡ None
    refused_not c s n e =
        let named : component_named slot.port.handle (old.looks).components ≡ Some c = sym (ap (λ (l : Look). component_named slot.port.handle l.components) looks) ∙ n in
        let known : (old.looks).headers.header header.held.number ≡ Some s = sym (ap (λ (l : Look). l.headers.header header.held.number) looks) ∙ e in
        at_there ((old.looks).headers.header header.held.number) _ s known (at_there (component_named slot.port.handle (old.looks).components) IsOpen c named (freeable_at F).1)

    none_accepted : (o : Option OmxError) (P : Bool → Type 0) → o ≡ None → Answers o (Err error) w v P → ⊥
    none_accepted None P e a = a
    none_accepted (Some x) P e a = cc

    at_place_named : (o : Option ℕ) → place_of slot.port.handle w.components ≡ o
        → MatchOption o (Path (Result Bool OmxError) (Err error) (Err errors.InvalidComponent) × (v ≡ w)) (λ i. MatchOption (slice_get w.components i) ⊥ (λ c. AtState header.held.number (look w) (λ s.
        Answers (free_buffer_refusal c (port_of c slot.port.index) s) (Err error) w v (λ is_clients. AtPort (port_of c slot.port.index) (λ p. (is_clients ≡ s.client_memory) × ClosesTo (without_header header.held.number (with_component i (unpopulated p c) w)) v)))))
        → ⊥
    at_place_named None p a =
        let gone : component_named slot.port.handle w.components ≡ None = ap (option_and_then (slice_get w.components)) p in
        let named : component_named slot.port.handle (old.looks).components ≡ None = sym (ap (λ (l : Look). component_named slot.port.handle l.components) looks) ∙ gone in
        let x = there_is (component_named slot.port.handle (old.looks).components) IsOpen (freeable_at F).1 in
        let e : None ≡ Some x.0 = sym named ∙ x.1 in
        cc
    at_place_named (Some i) p a =
        let x = there_is (slice_get w.components i) _ a in
        let y = there_is ((look w).headers.header header.held.number) _ x.2 in
        let named : component_named slot.port.handle w.components ≡ Some x.0 = ap (option_and_then (slice_get w.components)) p ∙ x.1 in
        none_accepted (free_buffer_refusal x.0 (port_of x.0 slot.port.index) y.0) _ (refused_not x.0 y.0 named y.1) y.2

    pub freed_always : FreeBuffer w slot.port.handle slot.port.index header.held.number (Err error) v → ⊥
    freed_always a = at_place_named (place_of slot.port.handle w.components) refl a

-- ---- one component after the other

module _ (components : List NamedComponent) (l m : Look) (n : ℕ) where
  abbrev AreEnded : Look → ℕ → Type 0
  AreEnded k count = (i : ℕ) (entry : NamedComponent) → i < count → slice_get components i ≡ Some entry → IsEnded entry.handle k

  pub ended_more : (last : NamedComponent) → last ≡ get_or components n last → AreEnded l n → StayEnded l m → IsEnded last.handle m → AreEnded m (n + 1)
  ended_more last is E stay ended i entry below at = elim (cases_eq i n) [
    | inl e ↦
        let there : slice_get components n ≡ Some entry = ap (slice_get components) (sym e) ∙ at in
        let same : last ≡ entry = is ∙ get_or_from_slice_get components n entry last there in
        subst (λ (x : NamedComponent). IsEnded x.handle m) same ended
    | inr a ↦ stay.ended entry.handle (E i entry (omega (arith, below, a)) at)
  ]

pub ended_all : (components : List NamedComponent) (l : Look) (n : ℕ) → length components ≤ n → ((i : ℕ) (entry : NamedComponent) → i < n → slice_get components i ≡ Some entry → IsEnded entry.handle l)
    → (i : ℕ) (entry : NamedComponent) → slice_get components i ≡ Some entry → IsEnded entry.handle l
ended_all components l n b E i entry at = elim (cases_lt i n) [
  | inl k ↦ E i entry k at
  | inr k ↦ let w = slice_get_within components i entry at in absurd (omega (arith, w, k, b))
]

-- there is no file that a graph of a trace could have
pub no_file : (o : Option (PartFile NoFile NoFile)) → o ≡ None
no_file None = refl
no_file (Some (files.From src format frames)) = absurd (elim src.of [ ])
no_file (Some (files.To snk frames)) = absurd (elim snk.of [ ])

-- nothing of the graph is out, then, and no component has a file
pub all_in : (g : GraphShown) → IsOver (look_of g) → HaveTheirFiles g → IsAllIn (look_of g)
all_in g O F = record {
  headers = O.headers;
  clients = O.clients;
  works = O.works;
  files = from_places (λ (c : Component). c.file ≡ None) (look_of g).components (λ i c at.
      sym (F i c at (at_place (λ (x : Component). x.work ≡ None) (look_of g).components i c O.works at)) ∙ ap (option_map attached_of) (no_file (file_at g i)));
}
