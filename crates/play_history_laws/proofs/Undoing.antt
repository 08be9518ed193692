-- A step that failed leaves the play where it was, once its component is seen without the fault.
use Rattle.std.proofs.Common.{◌≡◌, inl, inr, ℕ, ◌<◌, ◌≤◌, Bool, false, if◌then◌else◌, List, [], ◌∷◌, ◌++◌, set, slice_get, option_and_then, Option, Some, None, refl, sym, ◌∙◌, ap, subst, append-nil, arith}
use Rattle.std.proofs.lemmas.List.{length-set}
use Rattle.omx_types.specs.declared.command.Event.TheVariants as events
use Rattle.omx_types.specs.declared.command.Note.{Note}
use Rattle.omx_types.specs.declared.command.Note.TheVariants.{Told}
use Rattle.omx_types.specs.declared.fault.PartFault.{PartFault}
use Rattle.il_machine.specs.declared.port.PortKey.{PortKey}
use Rattle.il_machine.specs.Census.{note_numbers}
use Rattle.il_machine.specs.Claims.{carried, terms_in}
use Rattle.il_machine.specs.Finishing.{announced, error_of, finished, finished_by, gone_through, notes_after, stepped_back, with_landed}
use Rattle.il_machine.specs.Room.{used}
use Rattle.il_machine.specs.Sound.{IsSound, IsUnitSound, Sound}
use Rattle.il_machine.specs.Stepping.{IsDoneBy, IsDoneOf, IsStep, IsStepBy, WorkDone}
use Rattle.il_machine.specs.Units.{need_of}
use Rattle.il_machine.specs.World.{Component, Stream, Work, World, changed_at, number_of, port_of, stream_of, with_component}
use Rattle.machine_laws.proofs.Attaching.{streams_same}
use Rattle.machine_laws.proofs.Change.{sound_component}
use Rattle.machine_laws.proofs.Every.{at_set, set_there}
use Rattle.machine_laws.proofs.Finishing.{sound_finished}
use Rattle.machine_laws.proofs.Keys.{there_is}
use Rattle.machine_laws.proofs.Landing.{numbers_append}
use Rattle.machine_laws.proofs.Parts.{parts_of, sound_from}
use Rattle.machine_laws.proofs.Rooms.{costs, costs_same, sound_with}
use Rattle.machine_laws.proofs.Units.{held_fewer, resources_of}
use Rattle.machine_laws.proofs.Values.{set_twice}
use Rattle.play_model.specs.Play.{Play}
use Rattle.play_world_laws.specs.Cast.{components_of, input_at, links_of, output_at, script_place}
use Rattle.play_world_laws.specs.Wiring.{port_in}
use Rattle.play_world_laws.specs.Worlds.{IsWork}
use Rattle.play_stream_laws.specs.Flowing.{flowing_in}
use Rattle.play_world_laws.proofs.Lists.{got_set, sum_same}
use Rattle.play_world_laws.specs.PlayWorlds.{IsActorAt, IsPlayWorld, PlayCast, end_of_link}
use Rattle.play_world_laws.proofs.Around.{wired_moves}
use Rattle.play_step_laws.proofs.Finishing.{is_stepping}
use Rattle.play_step_laws.proofs.Poised.{IsPoised}
use Rattle.play_step_laws.proofs.Poising.{poised}
use Rattle.play_history_laws.specs.Undone.{IsUndone, let_go, undone_in}
use Rattle.play_history_laws.proofs.Flowing.{undone_flow}
use Rattle.play_history_laws.proofs.Landing.{back_viewed, links_land, states_land, tells}

module _ (x : PlayCast) (recent : ℕ) (p : Play) (w : World) (W : IsPlayWorld x recent p w) (c : ℕ) (b : c < components_of x.cast) (a : Component) (e : slice_get w.components (script_place x.cast c) ≡ Some a)
    (work : Work) (f : a.work ≡ Some work) (J : IsWork x.cast p c a work) (U : IsPoised x.cast p w c a) (s : Stream) (g : stream_of (number_of a) w ≡ Some s) (fault : PartFault) (m : ℕ) (text : List ℕ) where
  abbrev A : IsActorAt x recent p w c a
  A = W.actors c a b e

  abbrev i : ℕ
  i = script_place x.cast c

  abbrev its : WorkDone
  its = record { component = m; frames = 0; fault = Some fault; headers = carried w.headers work.headers; took = text }

  abbrev d : Component
  d = stepped_back a s its

  abbrev effect : World
  effect = with_landed i a its s w

  abbrev v : World
  v = record effect { components = set w.components i (let_go a); streams = w.streams }

  pub just_says : notes_after a s its ≡ Told (events.Error (error_of fault)) ∷ []
  just_says = tells x.cast p w c a U work f J s g fault m text

  -- ---- it is sound

  sound_v : Sound effect → Sound v
  sound_v S =
      let P = parts_of w W.sound in
      let I : IsSound a = P.components i a e in
      let V : IsUnitSound w.waits a = (resources_of w W.sound).each i a e in
      let k : costs (let_go a) ≡ costs a = costs_same a (let_go a) a.commands refl in
      let u : used (let_go a) ≤ used a = rw f (omega (arith, k)) in
      let R : Sound (with_component i (let_go a) effect) = sound_component effect i d (let_go a) S (set_there w.components i a d e)
      (record {
        handle = refl;
        ports = refl;
        links = refl;
        notes = sym (ap (λ (l : List Note). note_numbers (a.notes ++ l)) just_says ∙ (numbers_append a.notes (Told (events.Error (error_of fault)) ∷ []) ∙ append-nil (note_numbers a.notes)));
      })
      (sound_with (let_go a) (record { whole = I.whole; ports = I.ports; settings = I.settings; fit = I.fit; file = I.file; cause = I.cause; mark = I.mark; commands = I.commands }) (omega (arith, I.room, u)))
      (record {
        keeps = record { kind = refl; weights = refl; count = refl; work = refl };
        stays = λ y h. absurd cc;
        taken = held_fewer d (let_go a) refl (λ h. h);
        waiting = λ n h. inl h;
        units = record { holds = V.holds; gives = V.gives; waiting = V.waiting; numbered = V.numbered; way = V.way; held = V.held; inputs = V.inputs };
      }) in
      let T : Sound (record effect { components = set w.components i (let_go a) }) = subst (λ (cs : List Component). Sound (record effect { components = cs })) (set_twice i w.components d (let_go a)) R in
      let Q = resources_of (record effect { components = set w.components i (let_go a) }) T in
      sound_from v (parts_of (record effect { components = set w.components i (let_go a) }) T)
      (record { each = Q.each; enough = Q.enough; apart = Q.apart; streams = sym (streams_same (number_of a) (gone_through its) w.streams (λ u. refl)) ∙ Q.streams })

  -- ---- the components

  its_actor : IsActorAt x recent p v c (let_go a)
  its_actor =
      let B = A.heard_so in
      record {
        number = A.number;
        stands = ap (λ (z : Component). record z { work = None }) A.stands;
        set_for = A.set_for;
        roomy = A.roomy;
        source = A.source;
        sink = A.sink;
        late = A.late;
        late_format = A.late_format;
        file = A.file;
        notes = A.notes;
        heard_so = record { state = B.state; eos = B.eos; error = B.error; settings = B.settings; port = B.port; past = B.past; nothing = B.nothing };
        out = A.out;
        part = A.part;
        done = A.done;
        work = λ u h. let z : None ≡ Some u = h in absurd cc;
        running = A.running;
        over = A.over;
        unsteady = A.unsteady;
      }

  actor_beside : (k : ℕ) (y : Component) → IsActorAt x recent p w k y → IsActorAt x recent p v k y
  actor_beside k y B =
      let H = B.heard_so in
      record {
        number = B.number;
        stands = B.stands;
        set_for = B.set_for;
        roomy = B.roomy;
        source = B.source;
        sink = B.sink;
        late = B.late;
        late_format = B.late_format;
        file = B.file;
        notes = B.notes;
        heard_so = record { state = H.state; eos = H.eos; error = H.error; settings = H.settings; port = H.port; past = H.past; nothing = H.nothing };
        out = B.out;
        part = B.part;
        done = B.done;
        work = B.work;
        running = B.running;
        over = B.over;
        unsteady = B.unsteady;
      }

  all_actors : (k : ℕ) (y : Component) → k < components_of x.cast → slice_get v.components (script_place x.cast k) ≡ Some y → IsActorAt x recent p v k y
  all_actors k y h u = elim (at_set w.components i (script_place x.cast k) (let_go a) y u) [
    | inl z ↦
        let same : c ≡ k = (W.cast_is).apart c k b h (sym z.0) in
        subst (λ (j : ℕ). IsActorAt x recent p v j y) same (subst (λ (r : Component). IsActorAt x recent p v c r) (sym z.1) its_actor)
    | inr z ↦ actor_beside k y (W.actors k y h z.1)
  ]

  ports_stay : (key : PortKey) → port_in v.components key ≡ port_in w.components key
  ports_stay key = got_set (λ (o : Option Component). option_and_then (λ y. port_of y key.port) o) w.components i key.component a (let_go a) e refl

  plays : Sound v → IsPlayWorld x recent p v
  plays S = record {
    cast_is = W.cast_is;
    formats = W.formats;
    reached = W.reached;
    sound = S;
    many = length-set w.components i (let_go a) ∙ W.many;
    actors = all_actors;
    half = W.half;
    wired = λ k h. wired_moves x p p (port_in w.components) (port_in v.components) k refl (ports_stay (output_at x.cast k)) (ports_stay (input_at x.cast k)) (W.wired k h);
    ends = λ j port y r u h. elim (at_set w.components i j (let_go a) y u) [
      | inl z ↦ W.ends i port a r e (subst (λ (k : Component). port_of k port ≡ Some r) z.1 h)
      | inr z ↦ W.ends j port y r z.1 h
    ];
    viewed = back_viewed x.cast p w c a U work f J s g fault m text;
    headers = links_land x.cast p w c a U work f J s g fault m text;
    tunnelled = λ k r o l u h g2 z.
        let was = states_land x.cast p w c a U work f J s g fault m text k r u in
        W.tunnelled k was.0 o l was.1 h g2 (sym (was.2 (end_of_link x.cast o l)) ∙ z);
    units = let z = sum_same need_of w.components i a (let_go a) e refl in let u = W.units in omega arith;
    numbers = W.numbers;
  }

  pub undone_is : Sound effect → IsPlayWorld x recent p (undone_in i a its s w)
  undone_is S = subst (λ (cs : List Component). IsPlayWorld x recent p (record v { components = cs })) (sym (set_twice i w.components d (let_go a))) (plays (sound_v S))

  pub undone_bytes : (l : ℕ) → l < links_of x.cast → flowing_in x.cast (undone_in i a its s w) l ≡ flowing_in x.cast w l
  undone_bytes l h = ap (λ (cs : List Component). flowing_in x.cast (record v { components = cs }) l) (set_twice i w.components d (let_go a)) ∙ (undone_flow x recent p w W c a U work f J s g fault m text).bytes l h

-- ---- the call

finished_is : (i : ℕ) (a : Component) (its : WorkDone) (w : World) (work : Work) (s : Stream) → a.work ≡ Some work → work.announces ≡ false → stream_of (number_of a) w ≡ Some s → finished i a its w ≡ with_landed i a its s w
finished_is i a its w work s f h g =
    ap (λ (o : Option Work). finished_by i a its o w) f
    ∙ (ap (λ (z : Bool). if z then with_component i (announced a) w else changed_at (stream_of (number_of a) w) w (λ u. with_landed i a its u w)) h
    ∙ ap (λ (o : Option Stream). changed_at o w (λ u. with_landed i a its u w)) g)

pub failed_is : (x : PlayCast) (recent : ℕ) (p : Play) (w : World) (c : ℕ) (a : Component) (work : Work) (its : WorkDone) (fault : PartFault) → IsPlayWorld x recent p w → c < components_of x.cast → slice_get w.components (script_place x.cast c) ≡ Some a → a.work ≡ Some work
    → work.announces ≡ false → its.component ≡ script_place x.cast c → IsDoneOf w a work its → its.fault ≡ Some fault → IsUndone x recent p (script_place x.cast c) a its fault w
failed_is x recent p w c a work its fault W b e f says k D o =
    let A = W.actors c a b e in
    let T = is_stepping x p c a work (A.work work f) says in
    let J = T.step in
    let U = poised x recent p w W c b a e A T.ports in
    let i : ℕ = script_place x.cast c in
    let B : IsDoneBy false w a work its = subst (λ (z : Bool). IsDoneBy z w a work its) says D in
    let r = there_is (stream_of its.component w) (λ z. IsStep (terms_in a work) z (carried w.headers work.headers) its) B in
    let s : Stream = r.0 in
    let Q : IsStepBy (Some fault) (terms_in a work) s (carried w.headers work.headers) its = subst (λ (z : Option PartFault). IsStepBy z (terms_in a work) s (carried w.headers work.headers) its) o r.2 in
    let frames = Q.1 in
    let headers = Q.2 in
    let g : stream_of (number_of a) w ≡ Some s = ap (λ (j : ℕ). stream_of j w) (A.number ∙ sym k) ∙ r.1 in
    let whole : WorkDone = record { component = its.component; frames = 0; fault = Some fault; headers = carried w.headers work.headers; took = its.took } in
    let same : its ≡ whole = λ j. record { component = its.component; frames = frames j; fault = o j; headers = headers j; took = its.took } in
    let is : finished i a its w ≡ with_landed i a whole s w = ap (λ (z : WorkDone). finished i a z w) same ∙ finished_is i a whole w work s f says g in
    let S = subst Sound is (sound_finished w i a work its W.sound e f D) in
    record {
      stream = s;
      found = g;
      effect = finished_is i a its w work s f says g;
      tells = ap (notes_after a s) same ∙ just_says x recent p w W c b a e work f J U s g fault its.component its.took;
      play = subst (λ (z : WorkDone). IsPlayWorld x recent p (undone_in i a z s w)) (sym same) (undone_is x recent p w W c b a e work f J U s g fault its.component its.took S);
      bytes = λ l h. ap (λ (z : WorkDone). flowing_in x.cast (undone_in i a z s w) l) same ∙ undone_bytes x recent p w W c b a e work f J U s g fault its.component its.took l h;
    }
