-- A work comes back without a fault: the streams of the world are the model's after its step, and a sink's file took what the step writes.
use Rattle.std.proofs.Common.{[], ◌≡◌, ◌≢◌, inl, inr, ℕ, ◌+◌, ◌*◌, ◌<◌, ◌≤◌, Bool, true, false, nat_eq, if◌then◌else◌, List, ◌++◌, length, drop, take, slice_get, Option, Some, None, MatchOption, refl, sym, ◌∙◌, ap, subst, eq-eqb, ne_eqb, arith}
use Rattle.std.proofs.lemmas.Bool.{cases_eq}
use Rattle.omx_types.specs.declared.fault.PartFault.{PartFault}
use Rattle.part_api.specs.Terms.{Terms}
use Rattle.il_machine.specs.Due.{ClosesTo}
use Rattle.il_machine.specs.Kinds.{is_source}
use Rattle.il_machine.specs.Parts.{terms_of}
use Rattle.il_machine.specs.World.{Component, Stream, Work, World, number_of, place_numbered, stream_of}
use Rattle.il_machine.specs.Claims.{CarriedHeader, carried, terms_in}
use Rattle.il_machine.specs.Stepping.{WorkDone, inputs_ended, is_over, step_frames, text_of, Gives, IsDoneBy, IsDoneOf, IsStep, IsStepBy}
use Rattle.il_machine.specs.Finishing.{Finish, finished, gone_through, stepped_back, with_landed}
use Rattle.il_machine.specs.Sound.{Sound}
use Rattle.machine_laws.proofs.Every.{at_set}
use Rattle.machine_laws.proofs.Finding.{either}
use Rattle.machine_laws.proofs.Finishing.{sound_finished}
use Rattle.machine_laws.proofs.Keys.{at_there, there_is}
use Rattle.play_model.specs.Network.{IsOutput, Network}
use Rattle.play_model.specs.Moves.{Move, moved}
use Rattle.play_model.specs.Content.{AreStreams, IsStream, Streams, frames_taken, streamed, piece as model_piece}
use Rattle.play_model.proofs.Streams.{move_streams}
use Rattle.play_model.specs.Play.{Play}
use Rattle.play_model.specs.Acts.{Act, acted}
use Rattle.play_world_laws.specs.Cast.{components_of, giver_of, links_of, script_place, taker_of}
use Rattle.play_world_laws.specs.Worlds.{IsWork}
use Rattle.play_world_laws.proofs.Ends.{place_there}
use Rattle.play_world_laws.proofs.Told.{stream_gone, stream_else}
use Rattle.play_stream_laws.specs.Flowing.{flowing_in}
use Rattle.play_stream_laws.specs.Contents.{PlayContents, Tells, network_of}
use Rattle.play_stream_laws.specs.Streams.{HasSunk, sunk_of}
use Rattle.play_stream_laws.proofs.Bounded.{step_bounded}
use Rattle.play_stream_laws.proofs.Closing.{closes_keep}
use Rattle.play_stream_laws.proofs.Stepping.{IsBack, finished_is}
use Rattle.play_world_laws.specs.PlayWorlds.{IsPlayWorld, PlayCast}
use Rattle.play_step_laws.proofs.Finishing.{finish_plays, is_stepping}
use Rattle.play_step_laws.proofs.Landings.{done}
use Rattle.play_step_laws.proofs.Numbers.{step_acts}
use Rattle.play_step_laws.proofs.Poised.{IsPoised}
use Rattle.play_step_laws.proofs.Poising.{poised}
use Rattle.play_stream_laws.specs.PlayContents.{HasPlayContents, IsSetAs}
use Rattle.play_stream_laws.specs.PlayStreams.{HasPlayStreams}
use Rattle.play_stream_laws.proofs.Beginning.{net_is, sound_is}
use Rattle.play_stream_laws.proofs.PlayClosing.{calm_world, closes_calm}
use Rattle.play_stream_laws.proofs.PlayKeeping.{contents_kept, stays, streams_kept}
use Rattle.play_stream_laws.proofs.PlayLinks.{flow_long}
use Rattle.play_stream_laws.proofs.Announcing.{announced_streams}
use Rattle.play_stream_laws.proofs.Landing.{flow_in, flow_out, flow_off}
use Rattle.play_stream_laws.proofs.Made.{made_is}
use Rattle.play_stream_laws.proofs.Planned.{planned_is}
use Rattle.play_stream_laws.proofs.PlaySinking.{written_next}

module _ (x : PlayCast) (recent : ℕ) (p : Play) (w : World) (W : IsPlayWorld x recent p w) (c : ℕ) (a : Component) (U : IsPoised x.cast p w c a) (work : Work) (f : a.work ≡ Some work) (J : IsWork x.cast p c a work)
    (s : Stream) (g : stream_of (number_of a) w ≡ Some s) (piece : List ℕ) (G : Gives (terms_in a work) s (step_frames (terms_in a work) s (carried w.headers work.headers)) piece) (m : ℕ) (text : List ℕ)
    (written : text ≡ text_of (terms_in a work) s (step_frames (terms_in a work) s (carried w.headers work.headers)) (carried w.headers work.headers)) (k : PlayContents) (H : HasPlayStreams x k p w) where
  abbrev i : ℕ
  i = script_place x.cast c

  abbrev t : Terms
  t = terms_in a work

  abbrev zs : List CarriedHeader
  zs = carried w.headers work.headers

  abbrev n : ℕ
  n = step_frames t s zs

  abbrev ends : Bool
  ends = is_over t s n (inputs_ended t n zs)

  abbrev its : WorkDone
  its = done x.cast p w c a U work f J s g piece G m text

  abbrev v : World
  v = with_landed i a its s w

  abbrev q : Play
  q = acted (x.cast).layout (Act.Step c n ends) p

  abbrev net : Network
  net = network_of x.cast

  abbrev st : Streams
  st = record { taken = H.taken; flowing = flowing_in x.cast w }

  abbrev after : Streams
  after = streamed net k.model p.flow (Move.Step c n ends) st

  C : HasPlayContents x k w
  C = H.contents

  early : p.phase ≤ 2
  early = let z = J.phase in omega arith

  -- ---- the bytes on their way

  unit_is : (l : ℕ) → l < links_of x.cast → (k.model).unit l ≡ (x.cast).unit l
  unit_is l d = C.units l d

  flows : (l : ℕ) → l < links_of x.cast → flowing_in x.cast v l ≡ after.flowing l
  flows l d = elim (cases_eq (taker_of x.cast l) c) [
    | inl o ↦
        let u = unit_is l d in
        flow_in x recent p w W c a U work f J s g piece G m text l (record { below = d; taken_by = o })
        ∙ ((λ τ. drop (frames_taken n ((p.flow).link l) * sym u τ) (flowing_in x.cast w l))
        ∙ sym (ap (λ (z : Bool). if z then drop (frames_taken n ((p.flow).link l) * (k.model).unit l) (flowing_in x.cast w l) else (if nat_eq (giver_of x.cast l) c then flowing_in x.cast w l ++ ((k.model).part c).plain (model_piece net k.model p.flow st c n) ((k.model).output l) else flowing_in x.cast w l)) (eq-eqb (taker_of x.cast l) c o)))
    | inr o ↦ elim (cases_eq (giver_of x.cast l) c) [
      | inl r ↦
          let O : IsOutput ((x.cast).layout).network c l = record { below = d; given_by = r } in
          flow_out x recent p w W c a U work f J s g piece G m text l o O
          ∙ (ap (λ (z : List ℕ). flowing_in x.cast w l ++ z) (made_is x p w c a U work f J s g k C piece G H.taken l O)
          ∙ sym (else_ l o ∙ ap (λ (z : Bool). if z then flowing_in x.cast w l ++ ((k.model).part c).plain (model_piece net k.model p.flow st c n) ((k.model).output l) else flowing_in x.cast w l) (eq-eqb (giver_of x.cast l) c r)))
      | inr r ↦
          flow_off x recent p w W c a U work f J s g piece G m text l d o r
          ∙ sym (else_ l o ∙ ap (λ (z : Bool). if z then flowing_in x.cast w l ++ ((k.model).part c).plain (model_piece net k.model p.flow st c n) ((k.model).output l) else flowing_in x.cast w l) (ne_eqb (giver_of x.cast l) c r))
    ]
  ]
    where
      else_ : (l : ℕ) → taker_of x.cast l ≢ c → after.flowing l ≡ (if nat_eq (giver_of x.cast l) c then flowing_in x.cast w l ++ ((k.model).part c).plain (model_piece net k.model p.flow st c n) ((k.model).output l) else flowing_in x.cast w l)
      else_ l o = ap (λ (z : Bool). if z then drop (frames_taken n ((p.flow).link l) * (k.model).unit l) (flowing_in x.cast w l) else (if nat_eq (giver_of x.cast l) c then flowing_in x.cast w l ++ ((k.model).part c).plain (model_piece net k.model p.flow st c n) ((k.model).output l) else flowing_in x.cast w l)) (ne_eqb (taker_of x.cast l) c o)

  streams_after : AreStreams net k.model (moved net (Move.Step c n ends) p.flow) after
  streams_after =
      let can = step_acts x.cast p w c a U work f J s g in
      move_streams net k.model p.flow st (Move.Step c n ends) (net_is x k recent p w W) C.lawful (sound_is x k recent p w W early) (step_bounded ((x.cast).layout).network p.flow c n ends can.1) (H.flowing early)

  flowing_after : AreStreams net k.model q.flow (record { taken = after.taken; flowing = flowing_in x.cast v })
  flowing_after l d =
      let S : IsStream net k.model (moved net (Move.Step c n ends) p.flow) after l = streams_after l d in
      let F = flows l d in
      record { given = ap (λ (z : List ℕ). after.taken l ++ z) F ∙ S.given; taken = S.taken; flowing = ap length F ∙ S.flowing }

  -- ---- a component, and its stream

  record Was (j : ℕ) (y : Component) : Type 0 where
    component : Component
    there : slice_get w.components (script_place x.cast j) ≡ Some component
    terms : terms_of y ≡ terms_of component
    number : number_of y ≡ number_of component

  was : (j : ℕ) (y : Component) → slice_get v.components (script_place x.cast j) ≡ Some y → Was j y
  was j y h = elim (at_set w.components i (script_place x.cast j) (stepped_back a s its) y h) [
    | inl z ↦ record { component = a; there = ap (slice_get w.components) z.0 ∙ U.there; terms = ap terms_of z.1; number = ap number_of z.1 }
    | inr z ↦ record { component = y; there = z.1; terms = refl; number = refl }
  ]

  gone : stream_of (number_of a) v ≡ Some (gone_through its s)
  gone = stream_gone w v (number_of a) (gone_through its) s (λ u. refl) refl g

  beside : (j : ℕ) (y : Component) (Z : Was j y) → j < components_of x.cast → j ≢ c → stream_of (number_of y) v ≡ stream_of (number_of Z.component) w
  beside j y Z d o =
      let B = W.actors j Z.component d Z.there in
      let away : number_of Z.component ≢ number_of a = λ r. o ((W.cast_is).apart j c d U.below (sym B.number ∙ (r ∙ U.number))) in
      ap (λ (z : ℕ). stream_of z v) Z.number ∙ stream_else w v (number_of a) (number_of Z.component) (gone_through its) (λ u. refl) refl away

  contents_after : HasPlayContents x k v
  contents_after = record {
    lawful = C.lawful;
    terms = λ j y d h. let Z = was j y h in subst (λ (z : Terms). IsSetAs z (k.terms j)) (sym Z.terms) (C.terms j Z.component d Z.there);
    late_output = C.late_output;
    late_input = C.late_input;
    parts = C.parts;
    files = λ j y d h src.
        let Z = was j y h in
        let source : is_source (Z.component).settings.kind ≡ true = ap (λ (z : Terms). is_source z.kind) (sym Z.terms) ∙ src in
        let F = C.files j Z.component d Z.there source in
        elim (cases_eq j c) [
          | inl o ↦
              let same : Z.component ≡ a = let z : Some Z.component ≡ Some a = sym Z.there ∙ (ap (λ (u : ℕ). slice_get w.components (script_place x.cast u)) o ∙ U.there) in cc in
              let now : stream_of (number_of y) v ≡ Some (gone_through its s) = ap (λ (z : ℕ). stream_of z v) (Z.number ∙ ap number_of same) ∙ gone in
              let known : Tells s.known ((k.model).file j) = at_there (stream_of (number_of a) w) (λ z. Tells z.known ((k.model).file j)) s g (subst (λ (z : Component). MatchOption (stream_of (number_of z) w) ⊥ (λ u. Tells u.known ((k.model).file j))) same F) in
              subst (λ (o : Option Stream). MatchOption o ⊥ (λ z. Tells z.known ((k.model).file j))) (sym now) known
          | inr o ↦ subst (λ (o : Option Stream). MatchOption o ⊥ (λ z. Tells z.known ((k.model).file j))) (sym (beside j y Z d o)) F
        ];
    outputs = C.outputs;
    inputs = C.inputs;
    units = C.units;
  }

  -- ---- the sinks

  taken_in : (l : ℕ) → l < links_of x.cast → taker_of x.cast l ≡ c → after.taken l ≡ H.taken l ++ take (frames_taken n ((p.flow).link l) * (x.cast).unit l) (flowing_in x.cast w l)
  taken_in l d o =
      let u = unit_is l d in
      ap (λ (z : Bool). if z then H.taken l ++ take (frames_taken n ((p.flow).link l) * (k.model).unit l) (flowing_in x.cast w l) else H.taken l) (eq-eqb (taker_of x.cast l) c o)
      ∙ (λ τ. H.taken l ++ take (frames_taken n ((p.flow).link l) * u τ) (flowing_in x.cast w l))

  taken_else : (l : ℕ) → taker_of x.cast l ≢ c → after.taken l ≡ H.taken l
  taken_else l o = ap (λ (z : Bool). if z then H.taken l ++ take (frames_taken n ((p.flow).link l) * (k.model).unit l) (flowing_in x.cast w l) else H.taken l) (ne_eqb (taker_of x.cast l) c o)

  sinks_after : (l : ℕ) (y : Component) (z : Stream) → l < links_of x.cast → ((x.cast).layout).is_sink (taker_of x.cast l) ≡ true → slice_get v.components (script_place x.cast (taker_of x.cast l)) ≡ Some y → stream_of (number_of y) v ≡ Some z
      → HasSunk (k.terms (taker_of x.cast l)) z ((q.flow).ended (taker_of x.cast l)) (after.taken l)
  sinks_after l y z d sink h j =
      let r : ℕ = taker_of x.cast l in
      let Z = was r y h in
      let inside = (((W.cast_is).layout).network).inside l d in
      elim (cases_eq r c) [
        | inl o ↦
            let at : slice_get w.components (script_place x.cast r) ≡ Some a = ap (λ (u : ℕ). slice_get w.components (script_place x.cast u)) o ∙ U.there in
            let same : Z.component ≡ a = let q : Some Z.component ≡ Some a = sym Z.there ∙ at in cc in
            let now : stream_of (number_of y) v ≡ Some (gone_through its s) = ap (λ (u : ℕ). stream_of u v) (Z.number ∙ ap number_of same) ∙ gone in
            let is : gone_through its s ≡ z = let q : Some (gone_through its s) ≡ Some z = sym now ∙ j in cc in
            let S = H.flowing early l d in
            let long : length (H.taken l) ≡ ((p.flow).link l).taken * (x.cast).unit l = S.taken ∙ ap (λ (u : ℕ). ((p.flow).link l).taken * u) (unit_is l d) in
            let set : t ≡ k.terms c = planned_is x p w c a U work f J k C in
            let K : HasSunk (k.terms c) s ((p.flow).ended c) (H.taken l) = subst (λ (u : ℕ). HasSunk (k.terms u) s ((p.flow).ended u) (H.taken l)) o (H.sinks l a s d sink at g) in
            let N = written_next x.cast p w c a U work f J s g l (record { below = d; taken_by = o }) (subst (λ (u : ℕ). ((x.cast).layout).is_sink u ≡ true) o sink) (flow_long x recent p w W l d) (H.taken l) long text written (subst (λ (u : Terms). HasSunk u s ((p.flow).ended c) (H.taken l)) (sym set) K) in
            let all : s.written ++ text ≡ sunk_of (k.terms r) (s.frames + n) (after.taken l) =
            N ∙ ((λ τ. sunk_of (set τ) (s.frames + n) (sym (taken_in l d o) τ)) ∙ ap (λ (u : ℕ). sunk_of (k.terms u) (s.frames + n) (after.taken l)) (sym o)) in
            subst (λ (u : Stream). HasSunk (k.terms r) u ((q.flow).ended r) (after.taken l)) is (inl all)
        | inr o ↦
            let old = H.sinks l Z.component z d sink Z.there (sym (beside r y Z inside o) ∙ j) in
            let ended : (q.flow).ended r ≡ (p.flow).ended r = ap (λ (u : Bool). if u then ends else (p.flow).ended r) (ne_eqb r c o) in
            let taken = taken_else l o in
            subst (λ (u : Bool). HasSunk (k.terms r) z u (after.taken l)) (sym ended) (subst (λ (u : List ℕ). HasSunk (k.terms r) z ((p.flow).ended r) u) (sym taken) old)
      ]

  new_after : (l : ℕ) (y : Component) (z : Stream) → l < links_of x.cast → ((x.cast).layout).is_sink (taker_of x.cast l) ≡ true → slice_get v.components (script_place x.cast (taker_of x.cast l)) ≡ Some y → stream_of (number_of y) v ≡ Some z → z.known ≡ Some []
  new_after l y z d sink h j =
      let r : ℕ = taker_of x.cast l in
      let Z = was r y h in
      elim (cases_eq r c) [
        | inl o ↦
            let at : slice_get w.components (script_place x.cast r) ≡ Some a = ap (λ (u : ℕ). slice_get w.components (script_place x.cast u)) o ∙ U.there in
            let same : Z.component ≡ a = let q : Some Z.component ≡ Some a = sym Z.there ∙ at in cc in
            let now : stream_of (number_of y) v ≡ Some (gone_through its s) = ap (λ (u : ℕ). stream_of u v) (Z.number ∙ ap number_of same) ∙ gone in
            let is : gone_through its s ≡ z = let q : Some (gone_through its s) ≡ Some z = sym now ∙ j in cc in
            ap (λ (u : Stream). u.known) (sym is) ∙ H.new l a s d sink at g
        | inr o ↦ H.new l Z.component z d sink Z.there (sym (beside r y Z ((((W.cast_is).layout).network).inside l d) o) ∙ j)
      ]

  pub step_streams : HasPlayStreams x k q v
  step_streams = record {
    contents = contents_after;
    taken = after.taken;
    flowing = λ l. flowing_after;
    whole = λ l. let z = early in absurd (omega arith);
    done = λ l. let z = early in absurd (omega arith);
    new = new_after;
    sinks = sinks_after;
  }

-- ---- the call

-- what a work that does a step comes back as, and what it leaves before the close-out
pub comes_back : (x : PlayCast) (recent : ℕ) (p : Play) (w v : World) (c : ℕ) (a : Component) (work : Work) (its : WorkDone) → IsPlayWorld x recent p w → c < components_of x.cast → slice_get w.components (script_place x.cast c) ≡ Some a → a.work ≡ Some work → work.announces ≡ false
    → its.component ≡ script_place x.cast c → IsDoneOf w a work its → Finish w its v → IsBack x.cast w v c a work its
comes_back x recent p w v c a work its W b e f says k D F =
    let A = W.actors c a b e in
    let B : IsDoneBy false w a work its = subst (λ (z : Bool). IsDoneBy z w a work its) says D in
    let r = there_is (stream_of its.component w) (λ s. IsStep (terms_in a work) s (carried w.headers work.headers) its) B in
    let found : stream_of (number_of a) w ≡ Some r.0 = ap (λ (j : ℕ). stream_of j w) (A.number ∙ sym k) ∙ r.1 in
    let is = finished_is (script_place x.cast c) a its w work r.0 f says found in
    let place : place_numbered its.component w.components ≡ Some (script_place x.cast c) = place_there w.numbered (script_place x.cast c) its.component w.components a (W.sound).rising e (A.number ∙ sym k) in
    let F1 = at_there (place_numbered its.component w.components) (λ j. MatchOption (slice_get w.components j) ⊥ (λ y. ClosesTo (finished j y its w) v)) (script_place x.cast c) place F in
    let closes = at_there (slice_get w.components (script_place x.cast c)) (λ y. ClosesTo (finished (script_place x.cast c) y its w) v) a e F1 in
    record {
      stream = r.0;
      found = found;
      step = r.2;
      sound = subst Sound is (sound_finished w (script_place x.cast c) a work its W.sound e f D);
      closes = subst (λ (y : World). ClosesTo y v) is closes;
    }

stepped_streams : (x : PlayCast) (k : PlayContents) (recent later : ℕ) (p q : Play) (w v : World) (c : ℕ) (a : Component) (work : Work) (its : WorkDone) → IsPlayWorld x recent p w → HasPlayStreams x k p w → IsPlayWorld x later q v → q.phase ≡ p.phase → c < components_of x.cast
    → slice_get w.components (script_place x.cast c) ≡ Some a → a.work ≡ Some work → its.component ≡ script_place x.cast c → IsDoneOf w a work its → its.fault ≡ None → Finish w its v → work.announces ≡ false → HasPlayStreams x k q v
stepped_streams x k recent later p q w v c a work its W H V same b e f h D o F says =
    let A = W.actors c a b e in
    let T = is_stepping x p c a work (A.work work f) says in
    let J = T.step in
    let U = poised x recent p w W c b a e A T.ports in
    let B = comes_back x recent p w v c a work its W b e f says h D F in
    let s : Stream = B.stream in
    let t : Terms = terms_in a work in
    let zs : List CarriedHeader = carried w.headers work.headers in
    let n : ℕ = step_frames t s zs in
    let ends : Bool = is_over t s n (inputs_ended t n zs) in
    let S : IsStepBy None t s zs its = subst (λ (z : Option PartFault). IsStepBy z t s zs its) o B.step in
    let whole : WorkDone = done x.cast p w c a U work f J s B.found S.0 S.1 its.component its.took in
    let frames = S.2 in
    let headers = S.3 in
    let is : its ≡ whole = λ j. record { component = its.component; frames = frames j; fault = o j; headers = headers j; took = its.took } in
    let u : World = with_landed (script_place x.cast c) a whole s w in
    let r : Play = acted (x.cast).layout (Act.Step c n ends) p in
    let sound : Sound u = subst (λ (z : WorkDone). Sound (with_landed (script_place x.cast c) a z s w)) is B.sound in
    let closes : ClosesTo u v = subst (λ (z : WorkDone). ClosesTo (with_landed (script_place x.cast c) a z s w) v) is B.closes in
    let P : IsPlayWorld x recent r u = finish_plays x recent p w W c b a e T.ports work f J s B.found S.0 S.1 its.component its.took sound in
    let N : HasPlayStreams x k r u = step_streams x recent p w W c a U work f J s B.found S.0 S.1 its.component its.took S.4 k H in
    let K = closes_keep u v closes in
    streams_kept x k recent later r q u v P V same (stays u v K) (λ two. closes_calm x.cast u v (calm_world x recent r u P two) closes) (contents_kept x k u v K N.contents) N

pub finish_streams : (x : PlayCast) (k : PlayContents) (recent later : ℕ) (p q : Play) (w v : World) (c : ℕ) (a : Component) (work : Work) (its : WorkDone) → IsPlayWorld x recent p w → HasPlayStreams x k p w → IsPlayWorld x later q v → q.phase ≡ p.phase → c < components_of x.cast
    → slice_get w.components (script_place x.cast c) ≡ Some a → a.work ≡ Some work → its.component ≡ script_place x.cast c → IsDoneOf w a work its → its.fault ≡ None → Finish w its v → HasPlayStreams x k q v
finish_streams x k recent later p q w v c a work its W H V same b e f h D o F = either work.announces
    (λ says. announced_streams x k recent later p q w v c a work its W H V same b e f says h F)
    (λ says. stepped_streams x k recent later p q w v c a work its W H V same b e f h D o F says)
