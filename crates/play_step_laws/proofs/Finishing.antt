-- A component's work comes back in a play: the model's step.
use Rattle.std.proofs.Common.{◌≡◌, ◌≢◌, inl, inr, ℕ, ◌+◌, ◌<◌, Bool, true, false, not, ◌&&◌, ◌||◌, nat_eq, if◌then◌else◌, List, ◌++◌, map, slice_get, option_and_then, Option, Some, None, MatchOption, refl, sym, ◌∙◌, ap, subst, eq-eqb, ne_eqb, append-nil, append_assoc, arith}
use Rattle.std.proofs.lemmas.List.{length-set}
use Rattle.omx_types.specs.declared.command.Note.{Note}
use Rattle.omx_types.specs.declared.fault.PartFault.{PartFault}
use Rattle.part_api.specs.Terms.{Terms}
use Rattle.il_machine.specs.declared.port.PortKey.{PortKey}
use Rattle.il_machine.specs.Claims.{CarriedHeader, carried, terms_in}
use Rattle.il_machine.specs.Due.{ClosesTo}
use Rattle.il_machine.specs.Finishing.{Finish, announced, end_note, finished, finished_by, gone_through, stepped_back, with_landed}
use Rattle.il_machine.specs.Queued.{notes_given}
use Rattle.il_machine.specs.Sound.{Sound}
use Rattle.il_machine.specs.Stepping.{Gives, IsDoneBy, IsDoneOf, IsStep, IsStepBy, WorkDone, incoming, inputs_ended, is_over, step_frames, stepped}
use Rattle.il_machine.specs.Units.{need_of}
use Rattle.il_machine.specs.World.{Component, Stream, Work, World, changed_at, number_of, place_numbered, port_of, stream_of, with_component}
use Rattle.machine_laws.proofs.Every.{at_set}
use Rattle.machine_laws.proofs.Finding.{either}
use Rattle.machine_laws.proofs.Finishing.{sound_finished}
use Rattle.machine_laws.proofs.Keys.{at_there, there_is}
use Rattle.play_model.specs.Moves.{gave, took}
use Rattle.play_model.specs.Network.{IsInput, LinkState}
use Rattle.play_model.specs.Acts.{Act, CanAct, acted}
use Rattle.play_model.specs.Changes.{port_at}
use Rattle.play_model.specs.Play.{HasPorts, Play, component_at}
use Rattle.play_model.proofs.Full.{move_headers}
use Rattle.play_model.specs.Moves.{Move}
use Rattle.play_model.proofs.Handing.{act_reaches}
use Rattle.play_world_laws.specs.Cast.{components_of, giver_of, input_at, links_of, output_at, script_place, taker_of}
use Rattle.play_world_laws.specs.Telling.{out_of, state_note, unheard}
use Rattle.play_world_laws.specs.Wiring.{port_in}
use Rattle.play_world_laws.specs.Worlds.{IsWork, ends_untold}
use Rattle.play_world_laws.proofs.Ends.{place_there}
use Rattle.play_world_laws.proofs.Lists.{got_set, sum_same}
use Rattle.play_world_laws.proofs.Told.{stream_else, stream_gone}
use Rattle.play_world_laws.specs.PlayWorlds.{IsActorAt, IsPlayWorld, IsWorkAt, PlayCast, end_of_link, left_to_make, port_notes, settings_notes}
use Rattle.play_world_laws.specs.Leading.{PlayLeadsTo}
use Rattle.play_world_laws.proofs.Around.{sum_fewer, wired_moves}
use Rattle.play_world_laws.proofs.PassedHeaders.{left_keeps}
use Rattle.play_step_laws.proofs.Landings.{done}
use Rattle.play_step_laws.proofs.Numbers.{step_acts}
use Rattle.play_step_laws.proofs.Outgoing.{ends_is}
use Rattle.play_step_laws.proofs.Poised.{IsPoised}
use Rattle.play_step_laws.proofs.Poising.{poised}
use Rattle.play_step_laws.proofs.Steps.{links_land, next, states_land, step_viewed}
use Rattle.play_step_laws.proofs.Told.{ended_next, notes_are}
use Rattle.play_step_laws.proofs.Worked.{before_end, out_steps}

no_end : (sink ended told : Bool) → ended ≡ false → (sink && ended && not told) ≡ false
no_end true ended told h = rw h refl
no_end false ended told h = refl

now_end : (sink ended told : Bool) → told ≡ false → (sink && ended && not told) ≡ (sink && ended)
now_end true true told h = rw h refl
now_end true false told h = refl
now_end false ended told h = refl

-- a work that doesn't announce is a step, while the ports rest
pub record IsStepping (x : PlayCast) (p : Play) (c : ℕ) (a : Component) (work : Work) : Type 0 where
  pub ports : HasPorts (x.cast).layout p c
  pub step : IsWork x.cast p c a work

pub is_stepping : (x : PlayCast) (p : Play) (c : ℕ) (a : Component) (work : Work) → IsWorkAt x.cast p c a work → work.announces ≡ false → IsStepping x p c a work
is_stepping x p c a work K says = elim K.which [
  | inl h ↦ record { ports = h.1; step = record { phase = K.phase; stage = K.stage; going = K.going; steps = h.0; gain = K.gain; weights = K.weights; ports = h.2 } }
  | inr N ↦ let z : true ≡ false = sym N.announces ∙ says in absurd cc
]

module _ (x : PlayCast) (recent : ℕ) (p : Play) (w : World) (W : IsPlayWorld x recent p w) (c : ℕ) (b : c < components_of x.cast) (a : Component) (e : slice_get w.components (script_place x.cast c) ≡ Some a) (H : HasPorts (x.cast).layout p c) (work : Work) (f : a.work ≡ Some work) (J : IsWork x.cast p c a work)
    (s : Stream) (g : stream_of (number_of a) w ≡ Some s) (piece : List ℕ) (G : Gives (terms_in a work) s (step_frames (terms_in a work) s (carried w.headers work.headers)) piece) (m : ℕ) (text : List ℕ) where
  abbrev A : IsActorAt x recent p w c a
  A = W.actors c a b e

  abbrev pub U : IsPoised x.cast p w c a
  U = poised x recent p w W c b a e A H

  abbrev i : ℕ
  i = script_place x.cast c

  abbrev t : Terms
  t = terms_in a work

  abbrev zs : List CarriedHeader
  zs = carried w.headers work.headers

  abbrev n : ℕ
  n = step_frames t s zs

  abbrev ends : Bool
  ends = is_over t s n (inputs_ended t n zs)

  abbrev its : WorkDone
  its = done x.cast p w c a U work f J s g piece G m text

  abbrev q : Play
  q = next x.cast p w c a U work f J s g piece G m text

  abbrev d : Component
  d = stepped_back a s its

  abbrev v : World
  v = with_landed i a its s w

  can : CanAct (x.cast).layout p (Act.Step c n ends)
  can = step_acts x.cast p w c a U work f J s g

  untold : p.told c ≡ false
  untold = either (p.told c) (λ o. let z = (W.reached).told c b o in let u = J.going in absurd cc) (λ o. o)

  ended_now : (q.flow).ended c ≡ ends
  ended_now = ap (λ (z : Bool). if z then ends else (p.flow).ended c) (eq-eqb c c refl)

  -- what it tells comes behind all that was queued
  notes_now : unheard v d ≡ state_note p.phase (p.stage c) ++ (settings_notes x.cast q c ++ (port_notes x.cast q c ++ end_note (ends_untold x.cast q c)))
  notes_now =
      let out : List Note = out_of a.client_out (notes_given (number_of a) w) in
      let first : List Note = state_note p.phase (p.stage c) in
      let second : List Note = settings_notes x.cast p c in
      let third : List Note = port_notes x.cast p c in
      let sink : Bool = ((x.cast).layout).is_sink c in
      let tells = notes_are x.cast p w c a U work f J s g piece G m text in
      let none : ends_untold x.cast p c ≡ false = no_end sink ((p.flow).ended c) (p.told c) J.going in
      let was : out ++ a.notes ≡ first ++ (second ++ third) = A.notes ∙ (λ j. first ++ (second ++ (third ++ end_note (none j)))) ∙ (λ j. first ++ (second ++ append-nil third j)) in
      let now : ends_untold x.cast q c ≡ (sink && ends) = now_end sink ((q.flow).ended c) (p.told c) untold ∙ ap (λ (z : Bool). sink && z) ended_now in
      let last : List Note = end_note (sink && ends) in
      ap (λ (l : List Note). out ++ (a.notes ++ l)) tells
      ∙ (sym (append_assoc out a.notes last) ∙ (ap (λ (l : List Note). l ++ last) was
      ∙ (append_assoc first (second ++ third) last ∙ (ap (λ (l : List Note). first ++ l) (append_assoc second third last)
      ∙ (λ j. first ++ (second ++ (third ++ end_note (sym now j))))))))

  input_next : (k : ℕ) → IsInput ((x.cast).layout).network c k → (q.flow).link k ≡ took n ((p.flow).link k)
  input_next k I = ap (λ (z : Bool). if z then took n ((p.flow).link k) else (if nat_eq (giver_of x.cast k) c then gave n ends ((p.flow).link k) else (p.flow).link k)) (eq-eqb (taker_of x.cast k) c I.taken_by)

  finish_actor : IsActorAt x recent q v c d
  finish_actor =
      let B = A.heard_so in
      record {
        number = A.number;
        stands = ap (λ (z : Component). record z { work = None; part = d.part; notes = d.notes }) A.stands;
        set_for = A.set_for;
        roomy = A.roomy;
        source = A.source;
        sink = A.sink;
        late = A.late;
        late_format = A.late_format;
        file = A.file;
        notes = notes_now;
        heard_so = record { state = B.state; eos = B.eos; error = B.error; settings = B.settings; port = B.port; past = B.past; nothing = B.nothing };
        out = A.out;
        part = record {
          whole = (A.part).whole;
          ended = λ R.
              let was : a.part.ended ≡ false = (A.part).ended (before_end x.cast p w c a U work f J) ∙ J.going in
              let over = ends_is x.cast p w c a U work f J s g piece G m text in
              (λ j. was j || over j) ∙ sym ended_now;
          inputs = λ R l I. ended_next x.cast p w c a U work f J s g piece G m text l I ∙ sym (ap (λ (y : LinkState). y.closed) (input_next l I));
        };
        done =
            let z = stream_gone w v (number_of a) (gone_through its) s (λ u. refl) refl g in
            let was = at_there (stream_of (number_of a) w) (λ u. u.frames ≡ (p.flow).done c) s g A.done in
            let now : (q.flow).done c ≡ (p.flow).done c + n = ap (λ (u : Bool). if u then (p.flow).done c + n else (p.flow).done c) (eq-eqb c c refl) in
            subst (λ (o : Option Stream). MatchOption o ⊥ (λ u. u.frames ≡ (q.flow).done c)) (sym z) (ap (λ (u : ℕ). u + n) was ∙ sym now);
        work = λ u h. let z : None ≡ Some u = h in absurd cc;
        running = λ h l. let z = J.stage in absurd (omega arith);
        over = λ l h. let z = J.phase in absurd (omega arith);
        unsteady = λ o l h g t r. absurd (steady o l h g t r);
      }
    where
      steady : (o : Bool) (l : ℕ) → l < links_of x.cast → component_at (x.cast).layout o l ≡ c → ((x.cast).layout).is_late l ≡ true → port_at o (p.change l) < 7 → ⊥
      steady true l h g t r = let z = H.outputs l (record { below = h; given_by = g }) t in omega arith
      steady false l h g t r = let z = H.inputs l (record { below = h; taken_by = g }) t in omega arith

  -- ---- the components beside it

  ended_else : (k : ℕ) → k ≢ c → (q.flow).ended k ≡ (p.flow).ended k
  ended_else k o = ap (λ (z : Bool). if z then ends else (p.flow).ended k) (ne_eqb k c o)

  done_else : (k : ℕ) → k ≢ c → (q.flow).done k ≡ (p.flow).done k
  done_else k o = ap (λ (z : Bool). if z then (p.flow).done k + n else (p.flow).done k) (ne_eqb k c o)

  closed_else : (k l : ℕ) → k ≢ c → IsInput ((x.cast).layout).network k l → ((q.flow).link l).closed ≡ ((p.flow).link l).closed
  closed_else k l o I =
      let not_taker : nat_eq (taker_of x.cast l) c ≡ false = ne_eqb (taker_of x.cast l) c (λ z. o (sym I.taken_by ∙ z)) in
      ap (λ (z : Bool). (if z then took n ((p.flow).link l) else (if nat_eq (giver_of x.cast l) c then gave n ends ((p.flow).link l) else (p.flow).link l)).closed) not_taker
      ∙ either (nat_eq (giver_of x.cast l) c)
      (λ u. ap (λ (z : Bool). (if z then gave n ends ((p.flow).link l) else (p.flow).link l).closed) u)
      (λ u. ap (λ (z : Bool). (if z then gave n ends ((p.flow).link l) else (p.flow).link l).closed) u)

  work_beside : (k : ℕ) (y : Component) (u : Work) → k ≢ c → IsWorkAt x.cast p k y u → IsWorkAt x.cast q k y u
  work_beside k y u o K = record {
    phase = K.phase;
    stage = K.stage;
    going = ended_else k o ∙ K.going;
    gain = K.gain;
    weights = K.weights;
    which = elim K.which [
      | inl h ↦ inl (h.0, record { outputs = (h.1).outputs; inputs = (h.1).inputs }, h.2)
      | inr N ↦ inr (record { link = N.link; output = N.output; late = N.late; unannounced = N.unannounced; none = N.none; announces = N.announces })
    ];
  }

  actor_beside : (k : ℕ) (y : Component) → k ≢ c → stream_of (number_of y) v ≡ stream_of (number_of y) w → IsActorAt x recent p w k y → IsActorAt x recent q v k y
  actor_beside k y o z B =
      let H0 = B.heard_so in
      let same = ended_else k o in
      record {
        number = B.number;
        stands = B.stands;
        set_for = B.set_for;
        roomy = B.roomy;
        source = B.source;
        sink = B.sink;
        late = B.late;
        late_format = B.late_format;
        file = B.file;
        notes = B.notes ∙ (λ j. state_note p.phase (p.stage k) ++ (settings_notes x.cast p k ++ (port_notes x.cast p k ++ end_note (((x.cast).layout).is_sink k && sym same j && not (p.told k)))));
        heard_so = record { state = H0.state; eos = H0.eos; error = H0.error; settings = H0.settings; port = H0.port; past = H0.past; nothing = H0.nothing };
        out = B.out;
        part = record { whole = (B.part).whole; ended = λ R. (B.part).ended R ∙ sym same; inputs = λ R l I. (B.part).inputs R l I ∙ sym (closed_else k l o I) };
        done = subst (λ (r : Option Stream). MatchOption r ⊥ (λ u. u.frames ≡ (q.flow).done k)) (sym z) (subst (λ (r : ℕ). MatchOption (stream_of (number_of y) w) ⊥ (λ u. u.frames ≡ r)) (sym (done_else k o)) B.done);
        work = λ u h. work_beside k y u o (B.work u h);
        running = λ h l. same ∙ B.running h l;
        over = B.over;
        unsteady = λ o2 l h g2 t2 r. same ∙ B.unsteady o2 l h g2 t2 r;
      }

  finish_actors : (k : ℕ) (y : Component) → k < components_of x.cast → slice_get v.components (script_place x.cast k) ≡ Some y → IsActorAt x recent q v k y
  finish_actors k y h u = elim (at_set w.components i (script_place x.cast k) d y u) [
    | inl z ↦
        let same : c ≡ k = (W.cast_is).apart c k b h (sym z.0) in
        subst (λ (j : ℕ). IsActorAt x recent q v j y) same (subst (λ (r : Component). IsActorAt x recent q v c r) (sym z.1) finish_actor)
    | inr z ↦
        let B = W.actors k y h z.1 in
        let o : k ≢ c = λ same. z.0 (ap (λ (j : ℕ). script_place x.cast j) same) in
        let away : number_of y ≢ number_of a = λ r. z.0 (sym B.number ∙ (r ∙ A.number)) in
        actor_beside k y o (stream_else w v (number_of a) (number_of y) (gone_through its) (λ r. refl) refl away) B
  ]

  -- ---- the world

  ports_stay : (key : PortKey) → port_in v.components key ≡ port_in w.components key
  ports_stay key = got_set (λ (o : Option Component). option_and_then (λ y. port_of y key.port) o) w.components i key.component a d e refl

  pub finish_plays : Sound v → IsPlayWorld x recent q v
  finish_plays S = record {
    cast_is = W.cast_is;
    formats = W.formats;
    reached = act_reaches (x.cast).layout p (Act.Step c n ends) W.reached can;
    sound = S;
    many = length-set w.components i d ∙ W.many;
    actors = finish_actors;
    half = W.half;
    wired = λ k h. wired_moves x p q (port_in w.components) (port_in v.components) k refl (ports_stay (output_at x.cast k)) (ports_stay (input_at x.cast k)) (W.wired k h);
    ends = λ j port y r u h. elim (at_set w.components i j d y u) [
      | inl z ↦ W.ends i port a r e (subst (λ (k : Component). port_of k port ≡ Some r) z.1 h)
      | inr z ↦ W.ends j port y r z.1 h
    ];
    viewed = step_viewed x.cast p w c a U work f J s g piece G m text;
    headers = links_land x.cast p w c a U work f J s g piece G m text;
    tunnelled = λ k r o l u h g2 z.
        let was = states_land x.cast p w c a U work f J s g piece G m text k r u in
        W.tunnelled k was.0 o l was.1 h g2 (sym (was.2 (end_of_link x.cast o l)) ∙ z);
    units = let z = sum_same need_of w.components i a d e refl in let u = W.units in omega arith;
    numbers =
        let z = sum_fewer (links_of x.cast) (left_to_make x.cast q) (left_to_make x.cast p) (λ l h. left_keeps x p q l refl refl (move_headers ((x.cast).layout).network p.flow (Move.Step c n ends) can.1 l h)) in
        let u = W.numbers in
        omega arith;
  }

-- ---- the call

finished_is : (i : ℕ) (a : Component) (its : WorkDone) (w : World) (work : Work) (s : Stream) → a.work ≡ Some work → work.announces ≡ false → stream_of (number_of a) w ≡ Some s → finished i a its w ≡ with_landed i a its s w
finished_is i a its w work s f h g =
    ap (λ (o : Option Work). finished_by i a its o w) f
    ∙ (ap (λ (z : Bool). if z then with_component i (announced a) w else changed_at (stream_of (number_of a) w) w (λ u. with_landed i a its u w)) h
    ∙ ap (λ (o : Option Stream). changed_at o w (λ u. with_landed i a its u w)) g)

-- the step of the work, as the machine has it
record IsItsStep (x : PlayCast) (w : World) (c : ℕ) (a : Component) (work : Work) (its : WorkDone) : Type 0 where
  stream : Stream
  found : stream_of (number_of a) w ≡ Some stream
  piece : List ℕ
  gives : Gives (terms_in a work) stream (step_frames (terms_in a work) stream (carried w.headers work.headers)) piece
  frames : its.frames ≡ step_frames (terms_in a work) stream (carried w.headers work.headers)
  headers : its.headers ≡ map (stepped (terms_in a work) (step_frames (terms_in a work) stream (carried w.headers work.headers))
      (incoming (terms_in a work) (step_frames (terms_in a work) stream (carried w.headers work.headers)) (carried w.headers work.headers) piece)
      (is_over (terms_in a work) stream (step_frames (terms_in a work) stream (carried w.headers work.headers)) (inputs_ended (terms_in a work) (step_frames (terms_in a work) stream (carried w.headers work.headers)) (carried w.headers work.headers))))
      (carried w.headers work.headers)

its_step : (x : PlayCast) (w : World) (c : ℕ) (a : Component) (work : Work) (its : WorkDone) → work.announces ≡ false → number_of a ≡ script_place x.cast c → its.component ≡ script_place x.cast c → IsDoneOf w a work its → its.fault ≡ None → IsItsStep x w c a work its
its_step x w c a work its h number k D o =
    let B : IsDoneBy false w a work its = subst (λ (z : Bool). IsDoneBy z w a work its) h D in
    let r = there_is (stream_of its.component w) (λ s. IsStep (terms_in a work) s (carried w.headers work.headers) its) B in
    let S : IsStepBy None (terms_in a work) r.0 (carried w.headers work.headers) its = subst (λ (z : Option PartFault). IsStepBy z (terms_in a work) r.0 (carried w.headers work.headers) its) o r.2 in
    record {
      stream = r.0;
      found = ap (λ (j : ℕ). stream_of j w) (number ∙ sym k) ∙ r.1;
      piece = S.0;
      gives = S.1;
      frames = S.2;
      headers = S.3;
    }

pub finish_leads : (x : PlayCast) (recent : ℕ) (p : Play) (w : World) (c : ℕ) (a : Component) (work : Work) (its : WorkDone) (v : World) → IsPlayWorld x recent p w → c < components_of x.cast → slice_get w.components (script_place x.cast c) ≡ Some a → a.work ≡ Some work → work.announces ≡ false
    → its.component ≡ script_place x.cast c → IsDoneOf w a work its → its.fault ≡ None → Finish w its v
    → (last : Bool) × CanAct (x.cast).layout p (Act.Step c its.frames last) × PlayLeadsTo x recent (acted (x.cast).layout (Act.Step c its.frames last) p) v
finish_leads x recent p w c a work its v W b e f says k D o F =
    let A = W.actors c a b e in
    let T = is_stepping x p c a work (A.work work f) says in
    let H = T.ports in
    let J = T.step in
    let U = poised x recent p w W c b a e A H in
    let Q = its_step x w c a work its says A.number k D o in
    let s : Stream = Q.stream in
    let t : Terms = terms_in a work in
    let zs : List CarriedHeader = carried w.headers work.headers in
    let n : ℕ = step_frames t s zs in
    let ends : Bool = is_over t s n (inputs_ended t n zs) in
    let whole : WorkDone = done x.cast p w c a U work f J s Q.found Q.piece Q.gives its.component its.took in
    let frames = Q.frames in
    let headers = Q.headers in
    let same : its ≡ whole = λ j. record { component = its.component; frames = frames j; fault = o j; headers = headers j; took = its.took } in
    let is : finished (script_place x.cast c) a its w ≡ with_landed (script_place x.cast c) a whole s w =
    ap (λ (z : WorkDone). finished (script_place x.cast c) a z w) same ∙ finished_is (script_place x.cast c) a whole w work s f says Q.found in
    let S = subst Sound is (sound_finished w (script_place x.cast c) a work its W.sound e f D) in
    let P = finish_plays x recent p w W c b a e H work f J s Q.found Q.piece Q.gives its.component its.took S in
    let place : place_numbered its.component w.components ≡ Some (script_place x.cast c) = place_there w.numbered (script_place x.cast c) its.component w.components a (W.sound).rising e (A.number ∙ sym k) in
    let F1 = at_there (place_numbered its.component w.components) (λ j. MatchOption (slice_get w.components j) ⊥ (λ y. ClosesTo (finished j y its w) v)) (script_place x.cast c) place F in
    let closes = at_there (slice_get w.components (script_place x.cast c)) (λ y. ClosesTo (finished (script_place x.cast c) y its w) v) a e F1 in (
      ends,
      subst (λ (j : ℕ). CanAct (x.cast).layout p (Act.Step c j ends)) (sym frames) (step_acts x.cast p w c a U work f J s Q.found),
      record {
        effect = with_landed (script_place x.cast c) a whole s w;
        play = subst (λ (j : ℕ). IsPlayWorld x recent (acted (x.cast).layout (Act.Step c j ends) p) (with_landed (script_place x.cast c) a whole s w)) (sym frames) P;
        closes = subst (λ (y : World). ClosesTo y v) is closes;
      },
    )

pub finish_can : (x : PlayCast) (recent : ℕ) (p : Play) (w : World) (c : ℕ) (a : Component) (work : Work) → IsPlayWorld x recent p w → c < components_of x.cast → slice_get w.components (script_place x.cast c) ≡ Some a → a.work ≡ Some work → work.announces ≡ false
    → (n : ℕ) × (last : Bool) × CanAct (x.cast).layout p (Act.Step c n last)
finish_can x recent p w c a work W b e f says =
    let A = W.actors c a b e in
    let T = is_stepping x p c a work (A.work work f) says in
    out_steps x.cast p w c a (poised x recent p w W c b a e A T.ports) work f T.step
