-- The streams of a world with late sources after an act that moves no bytes: whichever play the world is read as.
use Rattle.std.proofs.Common.{◌≡◌, inl, inr, ℕ, ◌*◌, ◌/◌, ◌<◌, ◌≤◌, Bool, true, nat_eq, nat_le, List, ◌++◌, length, find, slice_get, Option, None, Some, option_map, MatchOption, refl, sym, ◌∙◌, ap, subst, eqb-true, arith}
use Rattle.std.proofs.lemmas.Bool.{eqb-false, leb-true, leb-false}
use Rattle.std.proofs.Math.Nat.{mul-div_cancel, zero-mul}
use Rattle.part_api.specs.Terms.{Terms}
use Rattle.il_machine.specs.Kinds.{is_source}
use Rattle.il_machine.specs.World.{Component, PartState, Stream, World, is_stream_of, number_of, stream_of}
use Rattle.machine_laws.proofs.Finding.{either}
use Rattle.machine_laws.proofs.Keys.{at_there, there_is}
use Rattle.play_model.specs.Network.{Filled, frames_in, queue}
use Rattle.play_model.specs.Content.{Incoming, Streams, AreStreams, IsStream, came}
use Rattle.play_model.specs.Play.{Play}
use Rattle.play_world_laws.specs.Cast.{components_of, links_of, script_place, giver_of, taker_of}
use Rattle.play_world_laws.specs.Worlds.{IsBeforeRest}
use Rattle.play_stream_laws.specs.Flowing.{flowing_in}
use Rattle.play_stream_laws.specs.Contents.{PlayContents, Tells, network_of}
use Rattle.play_stream_laws.specs.Streams.{HasSunk}
use Rattle.play_stream_laws.proofs.Keeping.{Keeps, KeepsFlow, mapped_there, no_bytes, part_in, seat}
use Rattle.play_world_laws.specs.PlayWorlds.{IsPlayWorld, PlayCast}
use Rattle.play_world_laws.proofs.ChangeEnds.{actor_there}
use Rattle.play_stream_laws.specs.PlayContents.{HasPlayContents, IsSetAs}
use Rattle.play_stream_laws.specs.PlayStreams.{HasPlayStreams}
use Rattle.play_stream_laws.proofs.PlayLinks.{flow_long}

-- what went through the files stays, and the components' numbers
pub record Stays (w v : World) : Type 0 where
  pub streams : v.streams ≡ w.streams
  pub numbers : (i : ℕ) → option_map number_of (slice_get v.components i) ≡ option_map number_of (slice_get w.components i)

pub stays : (w v : World) → Keeps w v → Stays w v
stays w v K = record {
  streams = K.streams;
  numbers = λ i. numbers_by (slice_get v.components i) (slice_get w.components i) (K.seats i);
}
  where
    second : (o : Option Component) → option_map (λ (z : Terms × ℕ). z.1) (option_map seat o) ≡ option_map number_of o
    second None = refl
    second (Some a) = refl

    numbers_by : (o q : Option Component) → option_map seat o ≡ option_map seat q → option_map number_of o ≡ option_map number_of q
    numbers_by o q e = sym (second o) ∙ (ap (option_map (λ (z : Terms × ℕ). z.1)) e ∙ second q)

pub stays_twice : (w u v : World) → Stays w u → Stays u v → Stays w v
stays_twice w u v K L = record { streams = L.streams ∙ K.streams; numbers = λ i. L.numbers i ∙ K.numbers i }

-- what the components are set to stays as the contents say
pub contents_kept : (x : PlayCast) (k : PlayContents) (w v : World) → Keeps w v → HasPlayContents x k w → HasPlayContents x k v
contents_kept x k w v K C = record {
  lawful = C.lawful;
  terms = λ c b l e. let r = was c b e in subst (λ (t : Terms). IsSetAs t (k.terms c)) (sym (ap (λ (z : Terms × ℕ). z.0) r.2)) (C.terms c r.0 l r.1);
  late_output = C.late_output;
  late_input = C.late_input;
  parts = C.parts;
  files = λ c b l e s.
      let r = was c b e in
      let source : is_source (r.0).settings.kind ≡ true = ap (λ (z : Terms × ℕ). is_source (z.0).kind) (sym r.2) ∙ s in
      let streams = K.streams in
      let stream : stream_of (number_of b) v ≡ stream_of (number_of r.0) w = λ i. find (is_stream_of ((r.2 i).1)) (streams i) in
      subst (λ (o : Option Stream). MatchOption o ⊥ (λ z. Tells z.known ((k.model).file c))) (sym stream) (C.files c r.0 l r.1 source);
  outputs = C.outputs;
  inputs = C.inputs;
  units = C.units;
}
  where
    was : (c : ℕ) (b : Component) → slice_get v.components (script_place x.cast c) ≡ Some b → (a : Component) × (slice_get w.components (script_place x.cast c) ≡ Some a) × (seat b ≡ seat a)
    was c b e = mapped_there seat (slice_get v.components (script_place x.cast c)) (slice_get w.components (script_place x.cast c)) b (K.seats (script_place x.cast c)) e

module _ (x : PlayCast) (k : PlayContents) (recent later : ℕ) (p q : Play) (w v : World) (W : IsPlayWorld x recent p w) (V : IsPlayWorld x later q v) (same : q.phase ≡ p.phase) (K : Stays w v) (F : p.phase ≡ 2 → KeepsFlow x.cast w v) (C : HasPlayContents x k v) (H : HasPlayStreams x k p w) where
  -- a component as it was
  record Was (c : ℕ) (b : Component) : Type 0 where
    component : Component
    there : slice_get w.components (script_place x.cast c) ≡ Some component
    stream : stream_of (number_of b) v ≡ stream_of (number_of component) w

  was : (c : ℕ) (b : Component) → slice_get v.components (script_place x.cast c) ≡ Some b → Was c b
  was c b e =
      let r = mapped_there number_of (slice_get v.components (script_place x.cast c)) (slice_get w.components (script_place x.cast c)) b (K.numbers (script_place x.cast c)) e in
      let number = r.2 in
      let streams = K.streams in
      record { component = r.0; there = r.1; stream = λ i. find (is_stream_of (number i)) (streams i) }

  done_same : (c : ℕ) → c < components_of x.cast → (q.flow).done c ≡ (p.flow).done c
  done_same c l =
      let g = actor_there x later q v c V l in
      let b : Component = g.0 in
      let R = was c b g.1 in
      let A = W.actors c R.component l R.there in
      let s = there_is (stream_of (number_of b) v) (λ z. z.frames ≡ (q.flow).done c) (g.2).done in
      let t = at_there (stream_of (number_of R.component) w) (λ z. z.frames ≡ (p.flow).done c) s.0 (sym R.stream ∙ s.1) A.done in
      sym s.2 ∙ t

  early : nat_le p.phase 2 ≡ true → p.phase ≤ 2
  early t = leb-true p.phase 2 t

  ended_same : p.phase ≤ 2 → (c : ℕ) → c < components_of x.cast → (q.flow).ended c ≡ (p.flow).ended c
  ended_same e c l = either (nat_eq p.phase 2)
      (λ t.
      let two : p.phase ≡ 2 = eqb-true _ _ t in
      let g = actor_there x later q v c V l in
      let b : Component = g.0 in
      let r = mapped_there part_in (slice_get v.components (script_place x.cast c)) (slice_get w.components (script_place x.cast c)) b ((F two).parts (script_place x.cast c)) g.1 in
      let A = W.actors c r.0 l r.1 in
      let P : IsBeforeRest p c = ((λ h. absurd (omega arith)), omega arith) in
      let Q : IsBeforeRest q c = ((λ h. absurd (omega arith)), omega arith) in
      sym (((g.2).part).ended Q) ∙ (ap (λ (z : PartState). z.ended) r.2 ∙ (A.part).ended P))
      (λ t.
      let n = eqb-false _ _ t in
      let low : q.phase ≤ 1 = omega arith in
      let O = (W.reached).opening (omega arith) in
      let N = (V.reached).opening low in
      N.going c ∙ sym (O.going c))

  flowing_same : p.phase ≤ 2 → (l : ℕ) → l < links_of x.cast → flowing_in x.cast v l ≡ flowing_in x.cast w l
  flowing_same e l d = either (nat_eq p.phase 2)
      (λ t. (F (eqb-true _ _ t)).bytes l d)
      (λ t.
      let n = eqb-false _ _ t in
      let low : q.phase ≤ 1 = omega arith in
      let O = (W.reached).opening (omega arith) in
      let N = (V.reached).opening low in
      let a : length (flowing_in x.cast w l) ≡ 0 = flow_long x recent p w W l d ∙ ap (λ (h : List Filled). frames_in h * (x.cast).unit l) (O.empty l) ∙ zero-mul ((x.cast).unit l) in
      let b : length (flowing_in x.cast v l) ≡ 0 = flow_long x later q v V l d ∙ ap (λ (h : List Filled). frames_in h * (x.cast).unit l) (N.empty l) ∙ zero-mul ((x.cast).unit l) in
      no_bytes (flowing_in x.cast v l) b ∙ sym (no_bytes (flowing_in x.cast w l) a))

  frames_same : p.phase ≤ 2 → (l : ℕ) → l < links_of x.cast → frames_in (queue ((q.flow).link l)) ≡ frames_in (queue ((p.flow).link l))
  frames_same e l d =
      let u = (W.cast_is).units l d in
      let now = flow_long x later q v V l d in
      let old = flow_long x recent p w W l d in
      let both : frames_in (queue ((q.flow).link l)) * (x.cast).unit l ≡ frames_in (queue ((p.flow).link l)) * (x.cast).unit l = sym now ∙ (ap length (flowing_same e l d) ∙ old) in
      sym (mul-div_cancel (frames_in (queue ((q.flow).link l))) u) ∙ (ap (λ (z : ℕ). z / (x.cast).unit l) both ∙ mul-div_cancel (frames_in (queue ((p.flow).link l))) u)

  giver_below : (l : ℕ) → l < links_of x.cast → giver_of x.cast l < components_of x.cast
  giver_below l d = let N = ((W.cast_is).layout).network in let o = N.order l d in let i = N.inside l d in omega arith

  taken_same : p.phase ≤ 2 → (l : ℕ) → l < links_of x.cast → ((q.flow).link l).taken ≡ ((p.flow).link l).taken
  taken_same e l d =
      let a = (((W.reached).sound e).links l d).balance in
      let b = (((V.reached).sound (omega arith)).links l d).balance in
      let c = done_same (giver_of x.cast l) (giver_below l d) in
      let f = frames_same e l d in
      omega arith

  abbrev before : Streams
  before = record { taken = H.taken; flowing = flowing_in x.cast w }

  abbrev after : Streams
  after = record { taken = H.taken; flowing = flowing_in x.cast v }

  came_same : (c : ℕ) → c < components_of x.cast → came (network_of x.cast) k.model q.flow after c ≡ came (network_of x.cast) k.model p.flow before c
  came_same c l =
      let d = done_same c l in
      λ i. came (network_of x.cast) k.model (record p.flow { done = λ j. d i }) before c

  streams_same : p.phase ≤ 2 → AreStreams (network_of x.cast) k.model q.flow after
  streams_same e l d =
      let S : IsStream (network_of x.cast) k.model p.flow before l = H.flowing e l d in
      let g : ℕ = giver_of x.cast l in
      let f = flowing_same e l d in
      let n = frames_same e l d in
      record {
        given = ap (λ (z : List ℕ). H.taken l ++ z) f ∙ (S.given ∙ ap (λ (z : Incoming). ((k.model).part g).plain z ((k.model).output l)) (sym (came_same g (giver_below l d))));
        taken = S.taken ∙ ap (λ (z : ℕ). z * (k.model).unit l) (sym (taken_same e l d));
        flowing = ap length f ∙ (S.flowing ∙ ap (λ (z : ℕ). z * (k.model).unit l) (sym n));
      }

  pub streams_kept : HasPlayStreams x k q v
  streams_kept = record {
    contents = C;
    taken = H.taken;
    flowing = λ e. streams_same (omega arith);
    whole = λ e. H.whole (omega arith);
    done = λ e c l. done_same c l ∙ H.done (omega arith) c l;
    new = λ l b s d sink e f. let R = was (taker_of x.cast l) b e in H.new l R.component s d sink R.there (sym R.stream ∙ f);
    sinks = λ l b s d sink e f.
        let c : ℕ = taker_of x.cast l in
        let R = was c b e in
        let old : HasSunk (k.terms c) s ((p.flow).ended c) (H.taken l) = H.sinks l R.component s d sink R.there (sym R.stream ∙ f) in
        let inside = (((W.cast_is).layout).network).inside l d in
        either (nat_le p.phase 2)
        (λ t. subst (λ (o : Bool). HasSunk (k.terms c) s o (H.taken l)) (sym (ended_same (early t) c inside)) old)
        (λ t. elim old [
          | inl z ↦ inl z
          | inr z ↦ let late = leb-false p.phase 2 t in let o = (W.reached).ended (omega arith) c inside in let r = z.2 in absurd cc
        ]);
  }
