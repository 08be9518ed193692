-- Lines whose act makes a component or a header, and those whose act is refused.
use Rattle.std.proofs.Common.{◌≡◌, ℕ, ◌+◌, ◌≤◌, Bool, true, false, List, [], ◌∷◌, ◌++◌, map, length, slice_get, Option, Some, None, Result, Ok, Err, MatchOption, nat_eq, ◌||◌, le-ltb, eq-eqb, replicate, refl, sym, ◌∙◌, ap, subst, arith}
use Rattle.omx_types.specs.declared.error.CallError.{CallError}
use Rattle.omx_types.specs.declared.error.CallError.TheVariants.{Omx}
use Rattle.omx_types.specs.declared.error.OmxError.{OmxError}
use Rattle.omx_types.specs.declared.error.OmxError.TheVariants as errors
use Rattle.omx_types.specs.declared.handle.Handle.{Handle}
use Rattle.omx_types.specs.declared.handle.PortId.{PortId}
use Rattle.il_machine.specs.declared.port.Port.{Port}
use Rattle.il_machine.specs.declared.port.PortKey.{PortKey}
use Rattle.il_machine.specs.declared.header.HeaderState.{HeaderState}
use Rattle.il_machine.specs.Headers.{empty_load, is_for, same_key}
use Rattle.il_machine.specs.Sound.{Sound}
use Rattle.il_machine.specs.Trails.{key_of}
use Rattle.il_machine.proofs.Places.{is_first_place, passes_at}
use Rattle.machine_laws.proofs.Every.{at_place as at_place_of}
use Rattle.machine_laws.proofs.Lookups.{port_parts}
use Rattle.history_laws.proofs.GivenHeaders.{made_clients}
use Rattle.il_machine.specs.Look.{Look, look}
use Rattle.il_machine.specs.World.{Component, World, place_of, port_of, is_at}
use Rattle.il_machine.specs.Answers.{plain, Resolving, AnswersAs, AnswersOrMemory}
use Rattle.il_machine.specs.Buffers.{Held, held_of, AllocateBuffer, UseBuffer, allocate_refusal, use_refusal, client_header, with_header as header_made}
use Rattle.il_machine.specs.Components.{GetHandle, get_handle_refusal, is_bad_name}
use Rattle.il_machine.specs.Kinds.{kind_of}
use Rattle.il_machine.specs.Due.{ClosesTo}
use Rattle.il_machine.specs.Acts.{Act, Reply}
use Rattle.il_machine.specs.Acts as acts
use Rattle.il_machine.specs.Run.{Step, Meets}
use Rattle.il_machine.specs.Whole.{Kept, Stands, Steps}
use Rattle.machine_laws.proofs.Keys.{there_is}
use Rattle.machine_laws.proofs.Steps.{sound_step}
use Rattle.history_laws.specs.ClientHeaders.{taken_in, number_out}
use Rattle.history_laws.proofs.Closing.{times_made}
use Rattle.header_core.specs.BufferHeader.{BufferHeader}
use Rattle.graph_core.specs.Changes.{IsHandedIn}
use Rattle.act_text.specs.declared.name.PortName.{PortName}
use Rattle.act_text.specs.declared.reply.TextReply.TheVariants as texts
use Rattle.script_lang.specs.declared.form.TraceForm.{TraceForm}
use Rattle.script_lang.specs.declared.form.TraceForm.TheVariants as forms
use Rattle.trace_run.specs.declared.names.NamedComponent.{NamedComponent}
use Rattle.trace_run.specs.declared.slots.Slot.{Slot}
use Rattle.trace_run.specs.Naming.{Moment, Names, NamedHeader, handle_in, handle_of, port_in, with_component, with_header}
use Rattle.trace_run.specs.Replying.{LineReply, Plain}
use Rattle.trace_run.specs.Lines.{Entry, Line, Answered}
use Rattle.trace_run.specs.Standing.{Parts, as_header, names_in, AreNamed, IsNamed, IsSeated, HaveOwnNumbers, IsMoment, Leads}
use Rattle.trace_run.proofs.Seats.{handle_is}
use Rattle.trace_run.proofs.Ends.{seated_there, seated_here, seated_new, apart_push, ports_kept, ports_named, ports_push, ends_with}
use Rattle.trace_run.proofs.Made.{made_by}
use Rattle.history_laws.proofs.Cores.{NoneGot, NoneTaken}
use Rattle.trace_run.proofs.Numbered.{numbered_get}
use Rattle.trace_run.proofs.SlotLists.{hands_kept, hands_push}
use Rattle.trace_run.proofs.Standing.{keeps_all, known_kept, known_push, looks_grow, made_of, named_kept, named_push, rests_after, run_of_one, stood_after}

-- ---- an act that makes nothing and takes nothing in

abbrev pub LeadsOn : Moment → Parts → TraceForm → LineReply → Type 0
LeadsOn at new form reply = (next : Moment) × IsMoment new next × Answered at form reply next

pub answered_so : (old : Parts) (graph : Kept) (form : TraceForm) (a : Act) (r : Reply) (reply : LineReply) → ((w : World) → Stands old.graph w → Meets w a) → NoneGot a r → made_by a r ≡ None → taken_in a r ≡ None → NoneTaken a r
    → ((at : Moment) → IsMoment old at → Line at form ((a, r) ∷ []) reply at.names) → Steps old.graph graph (λ w v. Step w a r v) → Leads old (record old { graph = graph }) form reply
answered_so old graph form a r reply M n m t q l h at S =
    let x = h at.world S.world in
    let meets = M at.world S.world in (
      record at { world = x.0 },
      stood_after old at graph a r x.0 S meets x.2 x.1 n m t q,
      record { entries = (a, r) ∷ []; says = l at S; run = run_of_one at.world a r x.0 meets x.2 },
    )

-- ---- a component

named_refused : {T : Type 0} (o : Option OmxError) (error : OmxError) (w : World) (Accepted : T → Type 0) → o ≡ Some error → AnswersOrMemory o (Err (Omx error)) w w Accepted
named_refused o error w Accepted e = rw e (refl, refl)

pub kind_refused : (w : World) (kind : List ℕ) → is_bad_name kind ≡ false → kind_of kind ≡ None → GetHandle w kind (Err (Omx errors.ComponentNotFound)) w
kind_refused w kind b n =
    let e : get_handle_refusal (look w) kind ≡ Some errors.ComponentNotFound = rw (b, n) refl in
    named_refused (get_handle_refusal (look w) kind) errors.ComponentNotFound w _ e

pub good_name : (kind : List ℕ) → nat_eq (length kind) 0 ≡ false → length kind ≤ 127 → is_bad_name kind ≡ false
good_name kind e l = rw (e, le-ltb 127 (length kind) l) refl

pub not_got : (old : Parts) (graph : Kept) (components : List NamedComponent) (name kind : List ℕ) (error : OmxError) → components ≡ old.components → Steps old.graph graph (λ w v. GetHandle w kind (Err (Omx error)) v)
    → Leads old (record { graph = graph; components = components; slots = old.slots }) (forms.Get name kind) (Plain (texts.Error error))
not_got old graph components name kind error e h =
    subst (λ (cs : List NamedComponent). Leads old (record { graph = graph; components = cs; slots = old.slots }) (forms.Get name kind) (Plain (texts.Error error))) (sym e)
    (answered_so old graph (forms.Get name kind) (acts.GetHandle kind) (acts.Got (Err (Omx error))) (Plain (texts.Error error)) (λ w S. tt) tt refl refl tt (λ at S. (Err (Omx error), record { one = refl; says = refl }, refl)) h)

got_named : (old : Parts) (graph : Kept) (name kind : List ℕ) (h : Handle) → Steps old.graph graph (λ w v. GetHandle w kind (Ok h) v)
    → Leads old (record { graph = graph; components = old.components ++ record { name = name; handle = h } ∷ []; slots = old.slots }) (forms.Get name kind) (Plain texts.Done)
got_named old graph name kind h steps at S =
    let w = at.world in
    let a = acts.GetHandle kind in
    let result : Result Handle CallError = Ok h in
    let r = acts.Got result in
    let x = steps w S.world in
    let v = x.0 in
    let N = numbered_get w kind h v x.2 in
    let entry : NamedComponent = record { name = name; handle = h } in (
      record { world = v; names = with_component name result at.names },
      record {
        world = x.1;
        rests = rests_after old.graph graph w a r v S.world x.1 x.2 S.rests;
        names = ap (with_component name result) S.names;
        sound = sound_step w v a r tt x.2 S.sound;
        named = subst (λ (n : ℕ). AreNamed (old.components ++ entry ∷ []) n) (sym N.next) (named_push old.components entry w.numbered N.number S.named);
        known = known_kept old.slots w a r v S.sound tt x.2 refl S.known;
        hands = hands_kept old.slots (old.graph).looks graph.looks (keeps_all old.graph graph w a r v S.world x.1 S.sound tt x.2 refl) (looks_grow old.graph graph w a r v S.world x.1 S.sound tt x.2) S.hands;
        ends = record {
          seated = seated_here (old.components ++ entry ∷ []) graph v x.1 (seated_new old.components entry N.kind w v N.closes (seated_there old.components old.graph w S.world S.ends.seated));
          apart = subst (HaveOwnNumbers (old.components ++ entry ∷ [])) (sym N.next ∙ ap (λ (l : Look). l.numbered) x.1.looks)
              (apart_push old.components entry w.numbered N.number (subst (HaveOwnNumbers old.components) (sym (ap (λ (l : Look). l.numbered) S.world.looks)) S.ends.apart));
          slots = ports_named old.components entry graph.looks old.slots (ports_kept old.graph graph w a r v S.world x.1 S.sound tt x.2 old.components old.slots S.hands S.ends.slots refl);
        };
      },
      record { entries = (a, r) ∷ []; says = (result, record { one = refl; says = refl }, refl); run = run_of_one w a r v tt x.2 },
    )

pub got : (old : Parts) (graph : Kept) (components : List NamedComponent) (name kind : List ℕ) (h : Handle) → components ≡ old.components ++ record { name = name; handle = h } ∷ [] → Steps old.graph graph (λ w v. GetHandle w kind (Ok h) v)
    → Leads old (record { graph = graph; components = components; slots = old.slots }) (forms.Get name kind) (Plain texts.Done)
got old graph components name kind h e steps =
    subst (λ (cs : List NamedComponent). Leads old (record { graph = graph; components = cs; slots = old.slots }) (forms.Get name kind) (Plain texts.Done)) (sym e) (got_named old graph name kind h steps)

-- ---- a header

for_itself : (key : PortKey) → (same_key key key || false) ≡ true
for_itself key =
    let c : nat_eq key.component key.component ≡ true = eq-eqb key.component key.component refl in
    let n : nat_eq key.port key.port ≡ true = eq-eqb key.port key.port refl in
    rw (c, n) refl

-- the header has the next number, and was made for the port
record IsNext (w : World) (h : Handle) (port : ℕ) (header : Held) (v : World) : Type 0 where
  number : header.number ≡ w.made
  next : v.made ≡ w.made + 1
  place : ℕ
  component : Component
  there : slice_get w.components place ≡ Some component
  named : component.handle ≡ h
  state : HeaderState
  known : (look v).headers.header header.number ≡ Some state
  made_for : is_for (key_of h port) state ≡ true

module _ {T E : Type 0} (refuse : OmxError → E) (w v : World) (h : Handle) (x : T) where
  -- the component that the handle names
  record Resolved (Then : ℕ → Component → Type 0) : Type 0 where
    place : ℕ
    component : Component
    there : slice_get w.components place ≡ Some component
    named : component.handle ≡ h
    then : Then place component

  at_place : (o : Option ℕ) (Then : ℕ → Component → Type 0) → place_of h w.components ≡ o → MatchOption o ((Ok x ≡ Err (refuse errors.InvalidComponent)) × (v ≡ w)) (λ i. MatchOption (slice_get w.components i) ⊥ (λ c. Then i c)) → Resolved Then
  at_place None Then p a = let e = a.0 in absurd cc
  at_place (Some i) Then p a =
      let c = there_is (slice_get w.components i) (λ c. Then i c) a in
      let y = passes_at (is_at h) w.components i (sym (is_first_place (is_at h) w.components) ∙ p) in
      let s : Some y.0 ≡ Some c.0 = sym y.1 ∙ c.1 in
      let is : y.0 ≡ c.0 = cc in
      record { place = i; component = c.0; there = c.1; named = ap (λ (k : Component). k.handle) (sym is) ∙ handle_is (y.0).handle h y.2; then = c.2 }

  resolved : (Then : ℕ → Component → Type 0) → Resolving refuse w h (Ok x) v Then → Resolved Then
  resolved Then a = at_place (place_of h w.components) Then refl a

accepted : {T E : Type 0} (refuse : OmxError → E) (o : Option OmxError) (x : T) (w v : World) (Accepted : T → Type 0) → AnswersAs refuse o (Ok x) w v Accepted → Accepted x
accepted refuse (Some error) x w v Accepted a = let e = a.0 in absurd cc
accepted refuse None x w v Accepted a = a

module _ (w v : World) (h : Handle) (port : ℕ) (header : Held) (S : Sound w) (Z : Sound v) where
  next_of : (i : ℕ) (c : Component) (p : Port) (client_memory : Bool) (memory : Option (List ℕ)) → slice_get w.components i ≡ Some c → c.handle ≡ h → port_of c port ≡ Some p → header ≡ held_of (client_header w.made p client_memory) (empty_load memory) → ClosesTo (header_made (client_header w.made p client_memory) memory w) v → IsNext w h port header v
  next_of i c p client_memory memory at is here e C =
      let k : p.key ≡ key_of h port = (port_parts c port p here).key ∙ ap (λ (n : ℕ). record { component = n; port = port }) (ap (λ (x : Handle). x.generation) is) in
      record {
        number = ap (λ (x : Held). x.number) e;
        next = times_made C.steps (header_made (client_header w.made p client_memory) memory w) v C.by_steps;
        place = i;
        component = c;
        there = at;
        named = is;
        state = client_header w.made p client_memory;
        known = (made_clients w v p client_memory memory header S Z e C).0;
        made_for = ap (λ (x : PortKey). is_for (key_of h port) (client_header w.made (record p { key = x }) client_memory)) k ∙ for_itself (key_of h port);
      }

  allocated_next : AllocateBuffer w h port (Ok header) v → IsNext w h port header v
  allocated_next a =
      let x = resolved Omx w v h header _ a in
      let y = accepted Omx (allocate_refusal (look w) x.component (port_of x.component port)) header w v _ x.then in
      let p = there_is (port_of x.component port) _ y in
      next_of x.place x.component p.0 false None x.there x.named p.1 p.2.0 p.2.1

  used_next : (bytes : List ℕ) → UseBuffer w h port bytes (Ok header) v → IsNext w h port header v
  used_next bytes a =
      let x = resolved plain w v h header _ a in
      let y = accepted plain (use_refusal (look w) x.component (port_of x.component port) (length bytes)) header w v _ x.then in
      let p = there_is (port_of x.component port) _ y in
      next_of x.place x.component p.0 true (Some bytes) x.there x.named p.1 p.2.0 p.2.1

abbrev slot_of : List ℕ → PortId → BufferHeader → Slot
slot_of name port header = record { name = name; number = header.held.number; port = port; hand = Some header }

headers_push : (slots : List Slot) (s : Slot) → map as_header slots ++ as_header s ∷ [] ≡ map as_header (slots ++ s ∷ [])
headers_push [] s = refl
headers_push (x ∷ xs) s = ap (λ (hs : List NamedHeader). as_header x ∷ hs) (headers_push xs s)

-- the act made the header, which is in the hand of a new slot
module _ (old : Parts) (graph : Kept) (form : TraceForm) (a : Act) (r : Reply) (name : List ℕ) (port : PortId) (header : BufferHeader) where
  made_so : IsHandedIn header graph.looks → ((w : World) → Meets w a) → NoneGot a r → made_by a r ≡ Some header.held.number → taken_in a r ≡ None → NoneTaken a r → number_out a r ≡ Some header.held.number
      → ((w v : World) → Sound w → Sound v → Step w a r v → IsNext w port.handle port.index header.held v) → ((at : Moment) → IsMoment old at → Line at form ((a, r) ∷ []) (Plain texts.Done) (with_header {E = OmxError} name (Ok header.held) at.names))
      → Steps old.graph graph (λ w v. Step w a r v) → Leads old (record { graph = graph; components = old.components; slots = old.slots ++ slot_of name port header ∷ [] }) form (Plain texts.Done)
  made_so handed M n m t q out number l steps at S =
      let w = at.world in
      let x = steps w S.world in
      let v = x.0 in
      let meets = M w in
      let sound = sound_step w v a r meets x.2 S.sound in
      let N = number w v S.sound sound x.2 in
      let s = slot_of name port header in
      let before = made_of old.graph w S.world in
      let after = made_of graph v x.1 in
      let numbered = N.number in
      let next = N.next in
      let names = with_header {E = OmxError} name (Ok header.held) in (
        record { world = v; names = names at.names },
        record {
          world = x.1;
          rests = rests_after old.graph graph w a r v S.world x.1 x.2 S.rests;
          names = ap names S.names ∙ ap (λ (hs : List NamedHeader). record { components = old.components; headers = hs }) (headers_push old.slots s);
          sound = sound;
          named = named_kept old.components w a r v S.sound meets x.2 n S.named;
          known = known_push old.slots s w a r v S.sound meets x.2 m S.known;
          hands = hands_push old.slots (old.graph).looks graph.looks s (keeps_all old.graph graph w a r v S.world x.1 S.sound meets x.2 t) (omega (arith, before, numbered)) (omega (arith, after, numbered, next)) (refl, handed) S.hands;
          ends = ends_with old graph w a r v S.world x.1 S.sound meets x.2 n q S.ends (old.slots ++ s ∷ [])
              (ports_push old.graph graph w a r v S.world x.1 S.sound meets x.2 old.components old.slots S.hands S.ends.slots s out (numbered ∙ sym before) (record {
                named = subst (IsNamed old.components) N.named (at_place_of (IsSeated old.components) w.components N.place N.component (seated_there old.components old.graph w S.world S.ends.seated) N.there).0.1;
                made_for = λ z e.
                    let k : Some N.state ≡ Some z = sym N.known ∙ (ap (λ (y : Look). y.headers.header header.held.number) x.1.looks ∙ e) in
                    let is : N.state ≡ z = cc in
                    ap (is_for (key_of port.handle port.index)) (sym is) ∙ N.made_for;
                away = λ e. absurd cc;
              }));
        },
        record { entries = (a, r) ∷ []; says = l at S; run = run_of_one w a r v meets x.2 },
      )

-- what is said of the names of the moment, by the names that are kept
pub by_names : (old : Parts) (at : Moment) (entries : Names → List Entry) → IsMoment old at → entries (names_in old.components old.slots) ≡ entries at.names
by_names old at entries S = ap entries (sym S.names)

-- more slots, by what they are
pub with_slots : (old : Parts) (graph : Kept) (form : TraceForm) (reply : LineReply) (slots more : List Slot) → more ≡ slots → Leads old (record { graph = graph; components = old.components; slots = slots }) form reply
    → Leads old (record { graph = graph; components = old.components; slots = more }) form reply
with_slots old graph form reply slots more e h = subst (λ (ss : List Slot). Leads old (record { graph = graph; components = old.components; slots = ss }) form reply) (sym e) h

pub more_slots : (old reserved now : List Slot) (s t : Slot) → now ≡ reserved ++ s ∷ [] → reserved ≡ old → s ≡ t → now ≡ old ++ t ∷ []
more_slots old reserved now s t e f g = e ∙ (ap (λ (l : List Slot). l ++ s ∷ []) f ∙ ap (λ (x : Slot). old ++ x ∷ []) g)

module _ (old : Parts) (graph : Kept) (name : List ℕ) (port : PortName) (id : PortId) (is : id ≡ port_in old.components port) where
  pub allocated : (slots : List Slot) (header : BufferHeader) → slots ≡ old.slots ++ slot_of name id header ∷ [] → IsHandedIn header graph.looks → Steps old.graph graph (λ w v. AllocateBuffer w id.handle id.index (Ok header.held) v)
      → Leads old (record { graph = graph; components = old.components; slots = slots }) (forms.Alloc name port) (Plain texts.Done)
  allocated slots header e handed steps =
      let h = handle_in old.components port.component in
      let act : Names → Act = λ names. acts.AllocateBuffer (handle_of names port.component) port.index in
      let r = acts.Allocated (Ok header.held) in
      with_slots old graph (forms.Alloc name port) (Plain texts.Done) (old.slots ++ slot_of name id header ∷ []) slots e
      (made_so old graph (forms.Alloc name port) (acts.AllocateBuffer h port.index) r name id header handed (λ w. tt) tt refl refl tt refl (λ w v S Z s. subst (λ (k : PortId). IsNext w k.handle k.index header.held v) (sym is) (allocated_next w v h port.index header.held S Z s))
      (λ at S. (Ok header.held, record { one = by_names old at (λ names. (act names, r) ∷ []) S; says = refl }, refl))
      (subst (λ (k : PortId). Steps old.graph graph (λ w v. AllocateBuffer w k.handle k.index (Ok header.held) v)) is steps))

  pub not_allocated : (slots : List Slot) (error said : OmxError) (cause : CallError) → said ≡ error → cause ≡ Omx error → slots ≡ old.slots → Steps old.graph graph (λ w v. AllocateBuffer w id.handle id.index (Err cause) v)
      → Leads old (record { graph = graph; components = old.components; slots = slots }) (forms.Alloc name port) (Plain (texts.Error said))
  not_allocated slots error said cause d f e steps =
      let h = handle_in old.components port.component in
      let act : Names → Act = λ names. acts.AllocateBuffer (handle_of names port.component) port.index in
      let r = acts.Allocated (Err (Omx error)) in
      subst (λ (x : OmxError). Leads old (record { graph = graph; components = old.components; slots = slots }) (forms.Alloc name port) (Plain (texts.Error x))) (sym d)
      (with_slots old graph (forms.Alloc name port) (Plain (texts.Error error)) old.slots slots e
      (answered_so old graph (forms.Alloc name port) (acts.AllocateBuffer h port.index) r (Plain (texts.Error error)) (λ w S. tt) tt refl refl tt
      (λ at S. (Err (Omx error), record { one = by_names old at (λ names. (act names, r) ∷ []) S; says = refl }, refl))
      (subst (λ (k : PortId). Steps old.graph graph (λ w v. AllocateBuffer w k.handle k.index (Err (Omx error)) v)) is (subst (λ (x : CallError). Steps old.graph graph (λ w v. AllocateBuffer w id.handle id.index (Err x) v)) f steps))))

  pub used : (slots : List Slot) (header : BufferHeader) (size : ℕ) (bytes : List ℕ) → bytes ≡ replicate size 0 → slots ≡ old.slots ++ slot_of name id header ∷ [] → IsHandedIn header graph.looks
      → Steps old.graph graph (λ w v. UseBuffer w id.handle id.index bytes (Ok header.held) v) → Leads old (record { graph = graph; components = old.components; slots = slots }) (forms.UseBuf name port size) (Plain texts.Done)
  used slots header size bytes zeros e handed steps =
      let h = handle_in old.components port.component in
      let act : Names → Act = λ names. acts.UseBuffer (handle_of names port.component) port.index (replicate size 0) in
      let r = acts.Used (Ok header.held) in
      with_slots old graph (forms.UseBuf name port size) (Plain texts.Done) (old.slots ++ slot_of name id header ∷ []) slots e
      (made_so old graph (forms.UseBuf name port size) (acts.UseBuffer h port.index (replicate size 0)) r name id header handed (λ w. tt) tt refl refl tt refl (λ w v S Z s. subst (λ (k : PortId). IsNext w k.handle k.index header.held v) (sym is) (used_next w v h port.index header.held S Z (replicate size 0) s))
      (λ at S. (Ok header.held, record { one = by_names old at (λ names. (act names, r) ∷ []) S; says = refl }, refl))
      (subst (λ (b : List ℕ). Steps old.graph graph (λ w v. UseBuffer w h port.index b (Ok header.held) v)) zeros
      (subst (λ (k : PortId). Steps old.graph graph (λ w v. UseBuffer w k.handle k.index bytes (Ok header.held) v)) is steps)))

  pub not_used : (slots : List Slot) (error : OmxError) (size : ℕ) (bytes : List ℕ) → bytes ≡ replicate size 0 → slots ≡ old.slots → Steps old.graph graph (λ w v. UseBuffer w id.handle id.index bytes (Err error) v)
      → Leads old (record { graph = graph; components = old.components; slots = slots }) (forms.UseBuf name port size) (Plain (texts.Error error))
  not_used slots error size bytes zeros e steps =
      let h = handle_in old.components port.component in
      let act : Names → Act = λ names. acts.UseBuffer (handle_of names port.component) port.index (replicate size 0) in
      let r = acts.Used (Err error) in
      with_slots old graph (forms.UseBuf name port size) (Plain (texts.Error error)) old.slots slots e
      (answered_so old graph (forms.UseBuf name port size) (acts.UseBuffer h port.index (replicate size 0)) r (Plain (texts.Error error)) (λ w S. tt) tt refl refl tt
      (λ at S. (Err error, record { one = by_names old at (λ names. (act names, r) ∷ []) S; says = refl }, refl))
      (subst (λ (b : List ℕ). Steps old.graph graph (λ w v. UseBuffer w h port.index b (Err error) v)) zeros
      (subst (λ (k : PortId). Steps old.graph graph (λ w v. UseBuffer w k.handle k.index bytes (Err error) v)) is steps)))
