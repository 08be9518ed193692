-- A component's work comes back, in each world that a graph stands for.
use Rattle.std.proofs.Common.{◌≡◌, ◌≢◌, inl, inr, ℕ, ◌+◌, ◌*◌, ◌≤◌, ◌<◌, Bool, true, false, List, [], ◌∷◌, ◌++◌, length, map, set, slice_get, All, MatchOption, IsSomeAnd, Option, Some, None, option_map, if◌then◌else◌, refl, sym, ◌∙◌, ap, subst, arith}
use Rattle.std.proofs.lemmas.Bool.Decides.{eqb_tells}
use Rattle.std.proofs.lemmas.Option.{slice_get-map}
use Rattle.std.proofs.lemmas.List.Elements.{All-append}
use Rattle.il_machine.specs.declared.answer.Progress.{Progress}
use Rattle.il_machine.specs.declared.header.Queue.TheVariants.{Out}
use Rattle.il_machine.specs.Census.{note_numbers, times}
use Rattle.il_machine.specs.Claims.{CarriedHeader}
use Rattle.il_machine.specs.Components.{progress_of}
use Rattle.il_machine.specs.Finishing.{all_landed as machine_landed, announced, finished, finished_by, gone_through, notes_after, stepped_back, with_landed}
use Rattle.il_machine.specs.Headers.{seen, find_header, is_notice, state_of, weight}
use Rattle.il_machine.specs.Kinds.{ports_in}
use Rattle.il_machine.specs.Look.{Look, look}
use Rattle.il_machine.specs.Parts.{terms_of}
use Rattle.il_machine.specs.Buffers.{held}
use Rattle.il_machine.specs.Sound.{IsPickedFor, Sound}
use Rattle.il_machine.specs.Stepping.{WorkDone, IsDoneBy, IsDoneOf}
use Rattle.il_machine.specs.Stock.{Stocked, StandsFor}
use Rattle.il_machine.specs.Whole.{HasProgress, IsNoticed, Noticed}
use Rattle.il_machine.specs.World.{Component, HeaderRecord, Picked, Stream, Work, World, changed_at as world_changed, number_of, stream_of, with_component}
use Rattle.machine_laws.proofs.Every.{at_place}
use Rattle.machine_laws.proofs.Facts.{notes_fit}
use Rattle.machine_laws.proofs.Finishing.{sound_finished}
use Rattle.machine_laws.proofs.Keys.{there_is}
use Rattle.machine_laws.proofs.Landing.{AreMade, AreOf, done_of, length_of, made_of, numbers_of}
use Rattle.machine_laws.proofs.Listed.{weight_below}
use Rattle.machine_laws.proofs.Parts.{parts_of}
use Rattle.machine_laws.proofs.Units.{resources_of}
use Rattle.machine_laws.proofs.Works.{picked_worked, worked_at}
use Rattle.stock_laws.specs.Bare.{StandsBare, StepsBareWhere}
use Rattle.stock_laws.proofs.Entries.{held_set, set_same}
use Rattle.stock_laws.proofs.Lifting.{progress_number}
use Rattle.stock_laws.proofs.Lists.{get_set_same, get_set_other, map_set}
use Rattle.stock_laws.proofs.Views.{sound_world}
use Rattle.stock_laws.proofs.Stocking.{stands_for}
use Rattle.stock_laws.proofs.Works.{streams_kept}
use Rattle.header_core.specs.BufferHeader.{BufferHeader}
use Rattle.il_component.specs.Entries.{Entry, component_of, held_in}
use Rattle.port_stock.specs.Conditions.{IsHeaderOf, IsOutside, IsPort}
use Rattle.port_stock.specs.Kept.{StockKept, kept_load, stocked}
use Rattle.work_landing.specs.declared.step.Step.{Step}
use Rattle.work_landing.specs.Landed.{AreHomeless, AreWithin, IsLeft, all_landed, all_notices, done_by}
use Rattle.work_landing.specs.Places.{HaveOwnHeaders, EachFrom, carried_from}
use Rattle.work_landing.proofs.Standing.{landed_stays, stands_landed}
use Rattle.graph_core.specs.Entries.{Entries, changed_at, component_at, components_of, held_by, kept, look_of, noticed_in, progress_at}
use Rattle.graph_core.specs.Finishing.{AreHandedBack, ComesBack}
use Rattle.graph_core.specs.Standing.{SoundWorld}
use Rattle.graph_core.proofs.Landed.{AreOf as AreListed, all_told, landed_else}
use Rattle.graph_core.proofs.Replacing.{there}
use Rattle.graph_core.proofs.Returned.{Worked, apart_from, homeless_from, listed_from, others_from, within_from}
use Rattle.graph_core.proofs.Stepping.{at_world, seen_of, stock_of, with_stocked}
use Rattle.graph_core.proofs.Ways.{inputs_there}

-- ---- what the condition says

-- the work comes back in the world
pub record Comes (w : World) (c : Component) (places : List (Option BufferHeader)) (step : Step) (took : List ℕ) : Type 0 where
  pub work : Work
  pub is : c.work ≡ Some work
  pub steps : work.announces ≡ false
  pub comes : IsDoneOf w c work (done_by (number_of c) places step took)
  pub stream : Stream
  pub flows : stream_of (number_of c) w ≡ Some stream
  pub left : IsLeft c stream (done_by (number_of c) places step took) step

comes_by : (w : World) (c : Component) (places : List (Option BufferHeader)) (step : Step) (took : List ℕ) (o : Option Work) → c.work ≡ o
    → MatchOption o ⊥ (λ work. (work.announces ≡ false) × IsDoneOf w c work (done_by (number_of c) places step took)
    × ((s : Stream) → stream_of (number_of c) w ≡ Some s → IsLeft c s (done_by (number_of c) places step took) step)) → Comes w c places step took
comes_by w c places step took None e h = absurd h
comes_by w c places step took (Some work) e h =
    let d : WorkDone = done_by (number_of c) places step took in
    let x : IsDoneBy false w c work d = subst (λ (b : Bool). IsDoneBy b w c work d) h.0 h.1 in
    let s = there_is (stream_of (number_of c) w) _ x in
    record { work = work; is = e; steps = h.0; comes = h.1; stream = s.0; flows = s.1; left = h.2 s.0 s.1 }

pub comes_of : (w : World) (c : Component) (places : List (Option BufferHeader)) (step : Step) (took : List ℕ) → ComesBack w c places step took → Comes w c places step took
comes_of w c places step took B = comes_by w c places step took c.work refl B

-- what the work's end makes of the world
pub finished_is : (i : ℕ) (c : Component) (done : WorkDone) (w : World) (work : Work) (s : Stream) → c.work ≡ Some work → work.announces ≡ false → stream_of (number_of c) w ≡ Some s → finished i c done w ≡ with_landed i c done s w
finished_is i c done w work s e f g =
    ap (λ (o : Option Work). finished_by i c done o w) e
    ∙ (ap (λ (b : Bool). if b then with_component i (announced c) w else world_changed (stream_of (number_of c) w) w (λ x. with_landed i c done x w)) f
    ∙ ap (λ (o : Option Stream). world_changed o w (λ x. with_landed i c done x w)) g)

-- ---- a header that is out is kept without what it carries

out_unkept : (o : Option HeaderRecord) (h : BufferHeader) → MatchOption (option_map state_of o) ⊥ (λ s. (s.queue ≡ Out) × IsHeaderOf s h) → kept_load o ≡ None
out_unkept None h m = refl
out_unkept (Some r) h m = rw m.0 refl

one_unkept : (k : StockKept) (h : BufferHeader) → IsOutside h (stocked k) → (stocked k).loads h.held.number ≡ None
unfolding stocked
one_unkept k h o = out_unkept (find_header h.held.number k.headers) h o.1

unkept_from : (k : StockKept) (component port : ℕ) (places : List (Option BufferHeader)) → AreHomeless component port places (stocked k) → EachFrom (λ port h. (stocked k).loads h.held.number ≡ None) port places
unkept_from k component port [] H = tt
unkept_from k component port (None ∷ places) H = (tt, unkept_from k component (port + 1) places H.1)
unkept_from k component port (Some h ∷ places) H = (one_unkept k h H.0.1, unkept_from k component (port + 1) places H.1)

-- ---- the world before

module _ {C : Type 0} (progress : C → Progress) (g : Entries C) (i : ℕ) (e : Entry C) (places : List (Option BufferHeader)) (step : Step) (W : SoundWorld (kept progress g)) (at : slice_get g.entries i ≡ Some e)
    (ports : (q : ℕ) → q < length (component_of e).ports → IsPort (record { component = number_of (component_of e); port = q }) (stocked g.stock)) (handed : AreHandedBack places (look_of g)) where
  abbrev c : Component
  c = component_of e

  abbrev k : ℕ
  k = number_of c

  abbrev done : List ℕ → WorkDone
  done took = done_by k places step took

  module _ (w : World) (S : StandsBare (kept progress g) w) (took : List ℕ) (K : Comes w c places step took) where
    sound : Sound w
    sound = sound_world (kept progress g) W.world w W.stands W.sound S

    here : slice_get w.components i ≡ Some c
    here = at_world progress g i e w S at

    looks : (stocked g.stock).headers ≡ seen w.headers
    looks = sym (seen_of progress g w S)

    own : (stocked g.stock).key ≡ w.key
    own = sym (ap (λ (l : Look). l.key) S.looks)

    picked : (j : ℕ) (p : Picked) → slice_get K.work.headers j ≡ Some p → IsPickedFor (seen w.headers) k p
    picked j p f = at_place (IsPickedFor (seen w.headers) k) K.work.headers j p (((parts_of w sound).works).made i c K.work here K.is) f

    abbrev these : List CarriedHeader
    these = carried_from 0 places

    are : AreOf K.work.headers these
    are = done_of w c K.work (done took) K.comes K.steps picked

    worked : Worked k w.headers K.work.headers
    worked = picked_worked w.components w.headers (parts_of w sound).works i c K.work here K.is

    made : AreMade k w.headers these
    made = made_of w.headers k K.work.headers these are picked

    pub apart : HaveOwnHeaders places
    apart = apart_from 0 places (λ m.
        let n : map (λ p. p.number) K.work.headers ≡ map (λ x. x.header.number) these = numbers_of K.work.headers these are in
        let a : times m (map (λ p. p.number) K.work.headers) ≡ weight (worked_at k m w.headers) = rw K.is at (((parts_of w sound).works).claimed i c here m) in
        let b = weight_below (worked_at k m w.headers) in
        let d : times m (map (λ x. x.header.number) these) ≡ times m (map (λ p. p.number) K.work.headers) = ap (times m) (sym n) in
        omega (arith, a, b, d))

    listed : AreListed w.key w.headers 0 places
    listed = listed_from k w.key w.headers (stocked g.stock) looks own 0 places K.work.headers are worked handed

    pub many : length K.work.headers ≡ length these
    many = sym (length_of K.work.headers these are)

    pub has_work : IsSomeAnd c.work (λ work. length work.headers ≡ length (carried_from 0 places))
    has_work = subst (λ (o : Option Work). IsSomeAnd o (λ work. length work.headers ≡ length (carried_from 0 places))) (sym K.is) many

    pub within : AreWithin (length c.ports) 0 places
    within = within_from K.work.headers 0 (length c.ports) 0 places are ((parts_of w sound).lawful i c K.work here K.is).rising

    pub homeless : AreHomeless k 0 places (stocked g.stock)
    homeless = homeless_from k w.key w.headers (stocked g.stock) looks own (length c.ports) 0 places K.work.headers ports (λ n r f. ((parts_of w sound).tied.placed n r f).owner) are worked made within handed

    pub ended_there : length c.part.ended_inputs ≡ length (terms_of c).inputs
    ended_there = ((resources_of w sound).each i c here).inputs ∙ sym (inputs_there c ((parts_of w sound).components i c here))

    abbrev later : World
    later = with_landed i c (done took) K.stream w

    sound_then : Sound later
    sound_then = subst Sound (finished_is i c (done took) w K.work K.stream K.is K.steps K.flows) (sound_finished w i c K.work (done took) sound here K.is K.comes)

    pub notes_bound : length (note_numbers (c.notes ++ notes_after c K.stream (done took))) ≤ 32 * ports_in c.settings.kind
    notes_bound = notes_fit later i (stepped_back c K.stream (done took)) sound_then (get_set_same w.components i c (stepped_back c K.stream (done took)) here)

  -- ---- the world after

  module _ (d : Entry C) (after : StockKept) (comp : (s : Stream) (took : List ℕ) → IsLeft c s (done took) step → component_of d ≡ stepped_back c s (done took)) (client : d.queues.client ≡ e.queues.client)
      (notices : (s : Stream) (took : List ℕ) → IsLeft c s (done took) step → held_in d.queues.notes ≡ held_in e.queues.notes ++ all_notices c s (done took) 0 places)
      (stock : (s : Stream) (took : List ℕ) → IsLeft c s (done took) step → stocked after ≡ all_landed c s (done took) (carried_from 0 places) (stocked g.stock)) where
    abbrev pub ended : Entries C
    ended = with_stocked progress after (changed_at i d g)

    module _ (w : World) (S : StandsBare (kept progress g) w) (took : List ℕ) (K : Comes w c places step took) where
      abbrev s : Stream
      s = K.stream

      abbrev back : Component
      back = stepped_back c s (done took)

      abbrev v : World
      v = with_landed i c (done took) s w

      at_w : slice_get w.components i ≡ Some c
      at_w = here w S took K

      abbrev landed : List HeaderRecord
      landed = machine_landed c s (done took) (carried_from 0 places) w.headers

      stands : StandsFor (stocked after) landed
      stands =
          let T = stands_landed c s (done took) places (stocked g.stock) w.headers (stands_for (stocked g.stock) (kept progress g) w (stock_of progress g) S) (homeless w S took K)
          (unkept_from g.stock k 0 places (homeless w S took K)) (apart w S took K) in
          subst (λ (t : Stocked). StandsFor t landed) (sym (stock s took K.left)) T

      -- ---- what calls look at

      key_is : (stocked after).key ≡ (stocked g.stock).key
      key_is = ap (λ (t : Stocked). t.key) (stock s took K.left) ∙ (landed_stays c s (done took) (carried_from 0 places) (stocked g.stock)).key

      next_is : (stocked after).next ≡ (stocked g.stock).next
      next_is = ap (λ (t : Stocked). t.next) (stock s took K.left) ∙ (landed_stays c s (done took) (carried_from 0 places) (stocked g.stock)).next

      ports_are : (stocked after).ports ≡ (stocked g.stock).ports
      ports_are = ap (λ (t : Stocked). t.ports) (stock s took K.left) ∙ (landed_stays c s (done took) (carried_from 0 places) (stocked g.stock)).ports

      components_are : set w.components i back ≡ components_of (set g.entries i d)
      components_are =
          ap (λ (cs : List Component). set cs i back) (ap (λ (l : Look). l.components) S.looks)
          ∙ (ap (set (components_of g.entries) i) (sym (comp s took K.left)) ∙ sym (map_set component_of g.entries i d))

      looks_are : look v ≡ look_of ended
      looks_are =
          let n : w.made ≡ (stocked after).next = ap (λ (l : Look). l.made) S.looks ∙ sym next_is in
          let m : w.key ≡ (stocked after).key = ap (λ (l : Look). l.key) S.looks ∙ sym key_is in
          λ j. record {
            key = m j;
            components = components_are j;
            headers = stands.looks j;
            units = (S.looks j).units;
            numbered = (S.looks j).numbered;
            made = n j;
            waits = (S.looks j).waits;
          }

      -- ---- the headers in notes

      still_noticed : (h : Noticed) → IsNoticed w h → IsNoticed v h
      still_noticed h N =
          let r = there_is (find_header h.held.number w.headers) _ N.1 in
          let others : EachFrom _ 0 places = others_from k h.held.number w.headers r.0 0 places K.work.headers r.1 r.2.1 (are w S took K) (worked w S took K) in
          let same : find_header h.held.number landed ≡ find_header h.held.number w.headers = landed_else c s (done took) w.key 0 places w.headers h.held.number 0 S.once (listed w S took K) (apart w S took K) others in
          (N.0, subst (λ (o : Option HeaderRecord). MatchOption o ⊥ (λ x. (held x ≡ h.held) × (is_notice x.state.owner ≡ true) × (x.state.client_memory ≡ h.client_memory))) (sym same) N.1)

      noticed_are : All (IsNoticed v) (noticed_in (set g.entries i d))
      noticed_are =
          let told : All (IsNoticed v) (all_notices c s (done took) 0 places) = all_told c s (done took) w.key 0 places w.headers S.once (listed w S took K) (apart w S took K) in
          let more : All (IsNoticed v) (held_by e) → All (IsNoticed v) (held_by d) = λ A.
          subst (λ (hs : List Noticed). All (IsNoticed v) hs) (sym (notices s took K.left)) (All-append (IsNoticed v) (held_by e) (all_notices c s (done took) 0 places) A told) in
          held_set held_by (IsNoticed v) g.entries i e d at more (λ j x b. still_noticed _ (S.noticed j x b))

      -- ---- the client objects

      clients_are : map (progress_at progress) (set g.entries i d) ≡ map (progress_at progress) g.entries
      clients_are =
          let there : slice_get (map (progress_at progress) g.entries) i ≡ Some (progress_at progress e) = slice_get-map (progress_at progress) g.entries i ∙ ap (option_map (progress_at progress)) at in
          let same : progress_at progress d ≡ progress_at progress e = ap (λ (x : Option C). option_map progress x) client in
          map_set (progress_at progress) g.entries i d
          ∙ (ap (λ (x : Option Progress). set (map (progress_at progress) g.entries) i x) same ∙ set_same (map (progress_at progress) g.entries) i (progress_at progress e) there)

      progress_are : HasProgress (map (progress_at progress) g.entries) v
      progress_are = λ j x h out.
          let clients = map (progress_at progress) g.entries in
          let same : j ≡ i → slice_get clients j ≡ Some (Some (progress_of x v)) = λ q.
          let f : Some x ≡ Some back = sym h ∙ rw q (get_set_same w.components i c back at_w) in
          let r : x ≡ back = cc in
          let p = S.progress i c at_w (ap (λ (y : Component). y.client_out) (sym r) ∙ out) in
          let n : number_of x ≡ number_of c = ap number_of r in
          rw q (p ∙ ap (λ (y : Progress). Some (Some y)) (sym (progress_number x c w n))) in
          let other : j ≢ i → slice_get clients j ≡ Some (Some (progress_of x v)) = λ q. S.progress j x (sym (get_set_other w.components i j back q) ∙ h) out in
          elim (eqb_tells j i) [ inl q ↦ same q.1 | inr q ↦ other q.1 ]

      numbers_are : map number_of (set w.components i back) ≡ map number_of w.components
      numbers_are = map_set number_of w.components i back ∙ set_same (map number_of w.components) i (number_of c) (slice_get-map number_of w.components i ∙ ap (option_map number_of) at_w)

      pub stands_then : StandsBare (kept progress ended) v
      stands_then = record {
        looks = looks_are;
        loads = stands.loads;
        noticed = noticed_are;
        progress = subst (λ (cs : List (Option Progress)). HasProgress cs v) (sym clients_are) progress_are;
        streams = streams_kept k (gone_through (done took)) w.streams (λ x. refl) ∙ (S.streams ∙ sym numbers_are);
        once = stands.once;
        given = S.given;
      }

    -- ---- all worlds

    pub finished_steps : (took : List ℕ) → StepsBareWhere (kept progress g) (kept progress ended) (λ w. ComesBack w c places step took) (λ w v. v ≡ finished i c (done took) w)
    finished_steps took = λ w S B.
        let K = comes_of w c places step took B in
        (with_landed i c (done took) K.stream w, stands_then w S took K, sym (finished_is i c (done took) w K.work K.stream K.is K.steps K.flows))

    pub finished_returns : (took : List ℕ) → MatchOption (component_at i g) ⊥ (λ c. StepsBareWhere (kept progress g) (kept progress ended) (λ w. ComesBack w c places step took) (λ w v. v ≡ finished i c (done_by (number_of c) places step took) w))
    finished_returns took = rw (there progress g i e at) (finished_steps took)

    pub finished_worlds : (u : World) (took : List ℕ) → StandsBare (kept progress g) u → ComesBack u c places step took → SoundWorld (kept progress ended)
    finished_worlds u took S B =
        let K = comes_of u c places step took B in
        record { world = with_landed i c (done took) K.stream u; stands = stands_then u S took K; sound = sound_then u S took K }

    pub finished_ports : (u : World) (took : List ℕ) → StandsBare (kept progress g) u → ComesBack u c places step took → (stocked after).ports ≡ (stocked g.stock).ports
    finished_ports u took S B = ports_are u S took (comes_of u c places step took B)

    -- what the component comes to
    pub comes_to : (u : World) (took : List ℕ) → StandsBare (kept progress g) u → (B : ComesBack u c places step took) → component_of d ≡ stepped_back c (comes_of u c places step took B).stream (done took)
    comes_to u took S B = comp (comes_of u c places step took B).stream took (comes_of u c places step took B).left
