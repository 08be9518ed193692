-- After a work came back in a play the components are still there, with their numbers and the streams of their files.
use Rattle.std.proofs.Common.{◌≡◌, inl, inr, ℕ, ◌<◌, nat_eq, [], find, slice_get, Option, Some, option_map, MatchOption, refl, sym, ◌∙◌, ap, subst, eqb-true, arith, Result}
use Rattle.std.proofs.lemmas.Bool.{eqb-false}
use Rattle.std.proofs.lemmas.Option.{slice_get_within}
use Rattle.omx_types.specs.declared.error.OmxError.{OmxError}
use Rattle.omx_types.specs.declared.handle.Handle.{Handle}
use Rattle.part_api.specs.Terms.{Terms}
use Rattle.il_machine.specs.Answers.{plain}
use Rattle.il_machine.specs.Claims.{Claim, Claimed, Claims, claim_idle, with_work, work_of}
use Rattle.il_machine.specs.Due.{ClosesTo}
use Rattle.il_machine.specs.Finishing.{Finish, finished, finished_by, gone_through, stepped_back, with_landed}
use Rattle.il_machine.specs.Headers.{seen}
use Rattle.il_machine.specs.Look.{look}
use Rattle.il_machine.specs.Stepping.{WorkDone}
use Rattle.il_machine.specs.World.{Component, Stream, Work, World, is_stream_of, number_of, place_numbered, stream_of}
use Rattle.machine_laws.proofs.Finding.{either}
use Rattle.machine_laws.proofs.Keys.{none_or_some, there_is}
use Rattle.play_model.specs.Play.{Play}
use Rattle.play_world_laws.specs.Cast.{Cast, components_of, script_place, taker_of}
use Rattle.play_world_laws.specs.Worlds.{Names}
use Rattle.play_world_laws.proofs.Claims.{claims_none, claims_some}
use Rattle.play_world_laws.proofs.Lists.{got_set, resolved}
use Rattle.play_world_laws.proofs.Told.{stream_else, stream_gone}
use Rattle.play_stream_laws.specs.Streams.{EachSink}
use Rattle.play_stream_laws.proofs.Closing.{closes_keep, keeps_twice}
use Rattle.play_stream_laws.proofs.Keeping.{Keeps, mapped_there, seat}
use Rattle.play_stream_laws.proofs.Stepping.{finished_is}
use Rattle.play_stream_laws.proofs.Still.{IsStillThere}
use Rattle.play_world_laws.specs.PlayWorlds.{IsPlayWorld, PlayCast}
use Rattle.play_world_laws.proofs.ChangeEnds.{actor_there}
use Rattle.play_stream_laws.proofs.Announcing.{announced_is, announced_keeps}

pub still_there : (x : PlayCast) (recent : ℕ) (p : Play) (w : World) (c : ℕ) → IsPlayWorld x recent p w → c < components_of x.cast → IsStillThere x.cast w c
still_there x recent p w c W l =
    let g = actor_there x recent p w c W l in
    let s = there_is (stream_of (number_of g.0) w) (λ z. z.frames ≡ (p.flow).done c) (g.2).done in
    record { component = g.0; there = g.1; number = (g.2).number; stream = s.0; found = s.1 }

kept_there : (x : Cast) (u v : World) (c : ℕ) → Keeps u v → IsStillThere x u c → IsStillThere x v c
kept_there x u v c K T =
    let m = mapped_there seat (slice_get u.components (script_place x c)) (slice_get v.components (script_place x c)) T.component (sym (K.seats (script_place x c))) T.there in
    let number : number_of m.0 ≡ number_of T.component = ap (λ (z : Terms × ℕ). z.1) (sym m.2) in
    let streams = K.streams in
    record { component = m.0; there = m.1; number = number ∙ T.number; stream = T.stream; found = (λ i. find (is_stream_of (number i)) (streams i)) ∙ T.found }

landed_there : (x : Cast) (w : World) (place : ℕ) (a : Component) (its : WorkDone) (s : Stream) (c : ℕ) → slice_get w.components place ≡ Some a → stream_of (number_of a) w ≡ Some s → IsStillThere x w c → IsStillThere x (with_landed place a its s w) c
landed_there x w place a its s c e f T =
    let u : World = with_landed place a its s w in
    let was : option_map seat (slice_get u.components (script_place x c)) ≡ option_map seat (slice_get w.components (script_place x c)) = got_set (option_map seat) w.components place (script_place x c) a (stepped_back a s its) e refl in
    let m = mapped_there seat (slice_get w.components (script_place x c)) (slice_get u.components (script_place x c)) T.component (sym was) T.there in
    let number : number_of m.0 ≡ number_of T.component = ap (λ (z : Terms × ℕ). z.1) (sym m.2) in
    let found : (z : Stream) × (stream_of (number_of T.component) u ≡ Some z) = either (nat_eq (number_of T.component) (number_of a))
    (λ t. (gone_through its s, ap (λ (n : ℕ). stream_of n u) (eqb-true (number_of T.component) (number_of a) t) ∙ stream_gone w u (number_of a) (gone_through its) s (λ i. refl) refl f))
    (λ t. (T.stream, stream_else w u (number_of a) (number_of T.component) (gone_through its) (λ i. refl) refl (eqb-false (number_of T.component) (number_of a) t) ∙ T.found))
    in
    record { component = m.0; there = m.1; number = number ∙ T.number; stream = found.0; found = ap (λ (n : ℕ). stream_of n u) number ∙ found.1 }

-- ---- what they were

-- the component with the stream, which told the same
record IsOld (w : World) (place : ℕ) (z : Stream) : Type 0 where
  component : Component
  there : slice_get w.components place ≡ Some component
  stream : Stream
  found : stream_of (number_of component) w ≡ Some stream
  known : z.known ≡ stream.known

kept_old : (u v : World) (place : ℕ) (b : Component) (z : Stream) → Keeps u v → slice_get v.components place ≡ Some b → stream_of (number_of b) v ≡ Some z → IsOld u place z
kept_old u v place b z K e f =
    let m = mapped_there seat (slice_get v.components place) (slice_get u.components place) b (K.seats place) e in
    let number : number_of b ≡ number_of m.0 = ap (λ (y : Terms × ℕ). y.1) m.2 in
    let streams = K.streams in
    record { component = m.0; there = m.1; stream = z; found = sym (λ i. find (is_stream_of (number i)) (streams i)) ∙ f; known = refl }

landed_old : (w : World) (i : ℕ) (a : Component) (its : WorkDone) (s : Stream) (place : ℕ) (b : Component) (z : Stream) → slice_get w.components i ≡ Some a → stream_of (number_of a) w ≡ Some s
    → slice_get (with_landed i a its s w).components place ≡ Some b → stream_of (number_of b) (with_landed i a its s w) ≡ Some z → IsOld w place z
landed_old w i a its s place b z e f g h =
    let u : World = with_landed i a its s w in
    let was : option_map seat (slice_get u.components place) ≡ option_map seat (slice_get w.components place) = got_set (option_map seat) w.components i place a (stepped_back a s its) e refl in
    let m = mapped_there seat (slice_get u.components place) (slice_get w.components place) b was g in
    let number : number_of b ≡ number_of m.0 = ap (λ (y : Terms × ℕ). y.1) m.2 in
    let now : stream_of (number_of m.0) u ≡ Some z = ap (λ (n : ℕ). stream_of n u) (sym number) ∙ h in
    either (nat_eq (number_of m.0) (number_of a))
    (λ t.
    let own = eqb-true (number_of m.0) (number_of a) t in
    let q : Some (gone_through its s) ≡ Some z = sym (ap (λ (n : ℕ). stream_of n u) own ∙ stream_gone w u (number_of a) (gone_through its) s (λ j. refl) refl f) ∙ now in
    let is : gone_through its s ≡ z = cc in
    record { component = m.0; there = m.1; stream = s; found = ap (λ (n : ℕ). stream_of n w) own ∙ f; known = ap (λ (y : Stream). y.known) (sym is) })
    (λ t.
    let else_ = stream_else w u (number_of a) (number_of m.0) (gone_through its) (λ j. refl) refl (eqb-false (number_of m.0) (number_of a) t) in
    record { component = m.0; there = m.1; stream = z; found = sym else_ ∙ now; known = refl })

-- ---- the call

-- what it leaves: what went through the files, or before the close-out the world with the work landed
data Leaves (w v : World) (its : WorkDone) : Type 0 where
  Kept : Keeps w v → Leaves w v its
  Landed : (place : ℕ) (a : Component) (s : Stream) → slice_get w.components place ≡ Some a → stream_of (number_of a) w ≡ Some s → ClosesTo (with_landed place a its s w) v → Leaves w v its

leaves : (x : PlayCast) (recent : ℕ) (p : Play) (w v : World) (its : WorkDone) → IsPlayWorld x recent p w → Finish w its v → Leaves w v its
leaves x recent p w v its W G =
    let i = there_is (place_numbered its.component w.components) (λ j. MatchOption (slice_get w.components j) ⊥ (λ y. ClosesTo (finished j y its w) v)) G in
    let a = there_is (slice_get w.components i.0) (λ y. ClosesTo (finished i.0 y its w) v) i.2 in
    let m = W.many in
    let inside = slice_get_within w.components i.0 a.0 a.1 in
    let t = (W.cast_is).each i.0 (omega arith) in
    let e : slice_get w.components (script_place x.cast t.0) ≡ Some a.0 = ap (slice_get w.components) t.2 ∙ a.1 in
    let A = W.actors t.0 a.0 t.1 e in
    elim (none_or_some (a.0).work) [
      | inl none ↦ Kept (closes_keep w v (subst (λ (u : World). ClosesTo u v) (ap (λ (o : Option Work). finished_by i.0 a.0 its o w) none) a.2))
      | inr some ↦ either (some.0).announces
          (λ says.
          let is = announced_is i.0 a.0 its w some.0 some.1 says in
          Kept (keeps_twice w _ v (announced_keeps w i.0 a.0 a.1) (closes_keep _ v (subst (λ (u : World). ClosesTo u v) is a.2))))
          (λ says.
          let s = there_is (stream_of (number_of a.0) w) (λ z. z.frames ≡ (p.flow).done t.0) A.done in
          let is = finished_is i.0 a.0 its w some.0 s.0 some.1 says s.1 in
          Landed i.0 a.0 s.0 a.1 s.1 (subst (λ (u : World). ClosesTo u v) is a.2))
    ]

pub finish_there : (x : PlayCast) (recent : ℕ) (p : Play) (w v : World) (its : WorkDone) → IsPlayWorld x recent p w → Finish w its v → (c : ℕ) → c < components_of x.cast → IsStillThere x.cast v c
finish_there x recent p w v its W G c l = elim (leaves x recent p w v its W G) [
  | Kept K ↦ kept_there x.cast w v c K (still_there x recent p w c W l)
  | Landed place a s e f C ↦ let u : World = with_landed place a its s w in kept_there x.cast u v c (closes_keep u v C) (landed_there x.cast w place a its s c e f (still_there x recent p w c W l))
]

finish_old : (x : PlayCast) (recent : ℕ) (p : Play) (w v : World) (its : WorkDone) (place : ℕ) (b : Component) (z : Stream) → IsPlayWorld x recent p w → Finish w its v → slice_get v.components place ≡ Some b → stream_of (number_of b) v ≡ Some z → IsOld w place z
finish_old x recent p w v its place b z W G e f = elim (leaves x recent p w v its W G) [
  | Kept K ↦ kept_old w v place b z K e f
  | Landed i a s g h C ↦
      let u : World = with_landed i a its s w in
      let O = kept_old u v place b z (closes_keep u v C) e f in
      let P = landed_old w i a its s place O.component O.stream g h O.there O.found in
      record { component = P.component; there = P.there; stream = P.stream; found = P.found; known = O.known ∙ P.known }
]

-- what the files of the sinks told stays
pub finish_new : (x : PlayCast) (recent : ℕ) (p : Play) (w v : World) (its : WorkDone) → IsPlayWorld x recent p w → EachSink x.cast w (λ l a s. s.known ≡ Some []) → Finish w its v → EachSink x.cast v (λ l a s. s.known ≡ Some [])
finish_new x recent p w v its W N G l b z d sink e f =
    let O = finish_old x recent p w v its (script_place x.cast (taker_of x.cast l)) b z W G e f in
    O.known ∙ N l O.component O.stream d sink O.there O.found

-- ---- what each file told

-- by the number of its component
pub finish_told : (x : PlayCast) (recent : ℕ) (p : Play) (w v : World) (its : WorkDone) → IsPlayWorld x recent p w → Finish w its v → (n : ℕ) (t : Stream) → stream_of n v ≡ Some t → (s : Stream) × (stream_of n w ≡ Some s) × (t.known ≡ s.known)
finish_told x recent p w v its W G n t e = elim (leaves x recent p w v its W G) [
  | Kept K ↦ let streams = K.streams in (t, sym (λ i. find (is_stream_of n) (streams i)) ∙ e, refl)
  | Landed i a s g f C ↦
      let u : World = with_landed i a its s w in
      let streams = (closes_keep u v C).streams in
      let now : stream_of n u ≡ Some t = sym (λ j. find (is_stream_of n) (streams j)) ∙ e in
      either (nat_eq n (number_of a))
      (λ q.
      let own = eqb-true n (number_of a) q in
      let z : Some (gone_through its s) ≡ Some t = sym (ap (λ (m : ℕ). stream_of m u) own ∙ stream_gone w u (number_of a) (gone_through its) s (λ j. refl) refl f) ∙ now in
      let is : gone_through its s ≡ t = cc in
      (s, ap (λ (m : ℕ). stream_of m w) own ∙ f, ap (λ (y : Stream). y.known) (sym is)))
      (λ q. (t, sym (stream_else w u (number_of a) n (gone_through its) (λ j. refl) refl (eqb-false n (number_of a) q)) ∙ now, refl))
]

pub claim_stays : (x : PlayCast) (recent : ℕ) (p : Play) (w v : World) (c : ℕ) (h : Handle) (result : Result Claimed OmxError) → IsPlayWorld x recent p w → c < components_of x.cast → Names x.cast w c h → Claim w h result v → v.streams ≡ w.streams
claim_stays x recent p w v c h result W b N s =
    let g = actor_there x recent p w c W b in
    let a : Component = g.0 in
    let i : ℕ = script_place x.cast c in
    let r : Claims (claim_idle (look w) a) i a w result v = resolved plain w h result v (λ j y. Claims (claim_idle (look w) y) j y w result v) i a N g.1 s in
    elim (none_or_some (claim_idle (look w) a)) [
      | inr z ↦ ap (λ (y : World). y.streams) (claims_some (claim_idle (look w) a) z.0 i a w result v z.1 r).1
      | inl n ↦ (closes_keep (with_work i a (work_of (seen w.headers) a) w) v (claims_none (claim_idle (look w) a) i a w result v n r).1).streams
    ]
