-- A step that fails leaves a front of each sink's text in a play, too.
use Rattle.std.proofs.Common.{◌≡◌, ◌≢◌, inl, inr, ℕ, ◌+◌, ◌*◌, ◌<◌, ◌≤◌, Bool, true, false, if◌then◌else◌, List, ◌++◌, drop, length, take, find, slice_get, Option, Some, None, refl, sym, ◌∙◌, ap, subst, append_assoc, length-append, add-mul, eq-eqb, arith}
use Rattle.std.proofs.lemmas.List.{take-append-drop}
use Rattle.omx_types.specs.declared.fault.PartFault.{PartFault}
use Rattle.omx_types.specs.Formats.{frame_bytes_of}
use Rattle.part_api.specs.Terms.{Terms}
use Rattle.il_machine.specs.Claims.{CarriedHeader, carried, terms_in}
use Rattle.il_machine.specs.Due.{ClosesTo}
use Rattle.il_machine.specs.Finishing.{Finish, gone_through, stepped_back, with_landed}
use Rattle.il_machine.specs.Stepping.{WorkDone, format_at, step_frames, text_of, IsAnnounced, IsDoneBy, IsDoneOf, IsFrontOf, IsStepBy}
use Rattle.il_machine.specs.World.{Component, Stream, Work, World, is_stream_of, number_of, stream_of}
use Rattle.machine_laws.proofs.Every.{at_set}
use Rattle.machine_laws.proofs.Finding.{either}
use Rattle.machine_laws.proofs.Keys.{at_there}
use Rattle.play_model.specs.Network.{IsInput}
use Rattle.play_model.specs.Content.{ArePlain, frames_taken}
use Rattle.play_model.proofs.Measure.{within}
use Rattle.play_model.specs.Play.{Play}
use Rattle.play_model.specs.Acts.{Act, acted}
use Rattle.play_model.proofs.Handing.{act_reaches}
use Rattle.play_world_laws.specs.Cast.{components_of, links_of, script_place, taker_of}
use Rattle.play_world_laws.specs.Worlds.{IsWork}
use Rattle.play_world_laws.proofs.Told.{stream_gone, stream_else}
use Rattle.play_stream_laws.specs.Flowing.{flowing_in}
use Rattle.play_stream_laws.specs.Contents.{PlayContents, network_of}
use Rattle.play_stream_laws.specs.Fronts.{AreFronts, whole_text}
use Rattle.play_stream_laws.specs.Streams.{EachSink, HasSunk, sunk_of}
use Rattle.play_stream_laws.proofs.Closing.{closes_keep}
use Rattle.play_stream_laws.proofs.Ends.{Begins, front_of, sunk_begins}
use Rattle.play_stream_laws.proofs.Keeping.{Keeps, mapped_there, seat}
use Rattle.play_stream_laws.proofs.Stepping.{IsBack}
use Rattle.play_world_laws.specs.PlayWorlds.{IsActorAt, IsPlayWorld, PlayCast}
use Rattle.play_step_laws.proofs.Finishing.{IsStepping, is_stepping}
use Rattle.play_step_laws.proofs.Numbers.{step_acts}
use Rattle.play_step_laws.proofs.Poised.{IsPoised}
use Rattle.play_step_laws.proofs.Poising.{poised}
use Rattle.play_stream_laws.specs.PlayStreams.{HasPlayStreams}
use Rattle.play_stream_laws.proofs.PlayLinks.{flow_long}
use Rattle.play_stream_laws.proofs.StepComing.{given}
use Rattle.play_stream_laws.proofs.PlayEnds.{F, stream_long, taken_begins, written_begins}
use Rattle.play_stream_laws.proofs.Planned.{planned_is}
use Rattle.play_stream_laws.proofs.PlaySinking.{part_long, taken_long, unit_is, written_next}
use Rattle.play_stream_laws.proofs.PlayStepping.{comes_back}

-- a front of what comes next, behind what was taken
goes_on : (written took text all : List ℕ) → IsFrontOf text took → Begins (written ++ text) all → Begins (written ++ took) all
goes_on written took text all T B =
    let rest : List ℕ = drop T.0 text in
    let whole : took ++ rest ≡ text = ap (λ (z : List ℕ). z ++ rest) T.2 ∙ take-append-drop T.0 text in
    (rest ++ B.0, append_assoc written took (rest ++ B.0) ∙ (ap (λ (z : List ℕ). written ++ z) (sym (append_assoc took rest B.0) ∙ ap (λ (z : List ℕ). z ++ B.0) whole) ∙ (sym (append_assoc written text B.0) ∙ B.1)))

-- what is on its way, cut in two
cut_in : (taken flowing rest all : List ℕ) (n : ℕ) → taken ++ (flowing ++ rest) ≡ all → (taken ++ take n flowing) ++ (drop n flowing ++ rest) ≡ all
cut_in taken flowing rest all n e =
    append_assoc taken (take n flowing) (drop n flowing ++ rest)
    ∙ (ap (λ (z : List ℕ). taken ++ z) (sym (append_assoc (take n flowing) (drop n flowing) rest) ∙ ap (λ (z : List ℕ). z ++ rest) (take-append-drop n flowing)) ∙ e)

module _ (x : PlayCast) (k : PlayContents) (recent : ℕ) (p : Play) (w : World) (W : IsPlayWorld x recent p w) (H : HasPlayStreams x k p w) (stream : ℕ → List ℕ) (Q : ArePlain (network_of x.cast) k.model stream) (c : ℕ) (a : Component) (work : Work) (b : c < components_of x.cast)
    (e : slice_get w.components (script_place x.cast c) ≡ Some a) (f : a.work ≡ Some work) (says : work.announces ≡ false) (s : Stream) (g : stream_of (number_of a) w ≡ Some s) where
  abbrev t : Terms
  t = terms_in a work

  abbrev zs : List CarriedHeader
  zs = carried w.headers work.headers

  abbrev n : ℕ
  n = step_frames t s zs

  A : IsActorAt x recent p w c a
  A = W.actors c a b e

  T : IsStepping x p c a work
  T = is_stepping x p c a work (A.work work f) says

  J : IsWork x.cast p c a work
  J = T.step

  U : IsPoised x.cast p w c a
  U = poised x recent p w W c b a e A T.ports

  early : p.phase ≤ 2
  early = let z = J.phase in omega arith

  -- it is set as the contents say
  set : t ≡ k.terms c
  set = planned_is x p w c a U work f J k H.contents

  -- the step stays within the frames of its component
  few : s.frames + n ≤ (((x.cast).layout).network).frames c
  few =
      let can = step_acts x.cast p w c a U work f J s g in
      let q : Play = acted (x.cast).layout (Act.Step c n _) p in
      let R = act_reaches (x.cast).layout p (Act.Step c n _) W.reached can in
      let low = within ((x.cast).layout).network q.flow ((W.cast_is).layout).network (R.sound early) c b in
      let now : (q.flow).done c ≡ (p.flow).done c + n = ap (λ (z : Bool). if z then (p.flow).done c + n else (p.flow).done c) (eq-eqb c c refl) in
      let done = at_there (stream_of (number_of a) w) (λ z. z.frames ≡ (p.flow).done c) s g A.done in
      omega arith

  -- with the whole step the sink's file would have a front of its text
  step_begins : (l : ℕ) → l < links_of x.cast → taker_of x.cast l ≡ c → ((x.cast).layout).is_sink c ≡ true → Begins (s.written ++ text_of t s n zs) (sunk_of t ((((x.cast).layout).network).frames c) (stream l))
  step_begins l d o sink =
      let I : IsInput ((x.cast).layout).network c l = record { below = d; taken_by = o } in
      let there : slice_get w.components (script_place x.cast (taker_of x.cast l)) ≡ Some a = ap (λ (z : ℕ). slice_get w.components (script_place x.cast z)) o ∙ e in
      let sink_there : ((x.cast).layout).is_sink (taker_of x.cast l) ≡ true = ap ((x.cast).layout).is_sink o ∙ sink in
      let its : t ≡ k.terms (taker_of x.cast l) = set ∙ ap k.terms (sym o) in
      let S = H.flowing early l d in
      let long_flow = flow_long x recent p w W l d in
      let long = S.taken ∙ ap (λ (z : ℕ). ((p.flow).link l).taken * z) ((H.contents).units l d) in
      let K : HasSunk t s ((p.flow).ended c) (H.taken l) = subst (λ (z : Terms). HasSunk z s ((p.flow).ended c) (H.taken l)) (sym its) (subst (λ (z : ℕ). HasSunk (k.terms (taker_of x.cast l)) s ((p.flow).ended z) (H.taken l)) o (H.sinks l a s d sink_there there g)) in
      let N = written_next x.cast p w c a U work f J s g l I sink long_flow (H.taken l) long (text_of t s n zs) refl K in
      let part : List ℕ = given x.cast p w c a U work f J s g l I in
      let cut : ℕ = frames_taken n ((p.flow).link l) * (x.cast).unit l in
      let M = F x recent p w W l d a there k H stream Q sink_there early in
      let rest : List ℕ = drop cut (flowing_in x.cast w l) ++ M.rest in
      let bytes : List ℕ = H.taken l ++ part in
      let all : bytes ++ rest ≡ stream l = cut_in (H.taken l) (flowing_in x.cast w l) M.rest (stream l) cut (taken_begins x recent p w W l d a there k H stream Q sink_there early) in
      let unit : ℕ = frame_bytes_of (format_at t 0) in
      let size : length bytes ≡ (s.frames + n) * unit =
      length-append (H.taken l) part
      ∙ ((λ i. taken_long x.cast p w c a U work f J s g l I sink long_flow (H.taken l) long (text_of t s n zs) refl i + (part_long x.cast p w c a U work f J s g l I sink long_flow ∙ ap (λ (z : ℕ). n * z) (sym (sink_unit_at l d o sink))) i)
      ∙ sym (add-mul s.frames n unit)) in
      let whole : length (bytes ++ rest) ≡ (((x.cast).layout).network).frames c * unit =
      ap length all ∙ (stream_long x recent p w W l d a there k H stream Q sink_there early ∙ (λ i. (((x.cast).layout).network).frames (o i) * frame_bytes_of (format_at (sym its i) 0))) in
      let B = sunk_begins a.file (format_at t 0) (s.frames + n) ((((x.cast).layout).network).frames c) bytes rest few size whole in
      (B.0, ap (λ (z : List ℕ). z ++ B.0) N ∙ (B.1 ∙ ap (sunk_of t ((((x.cast).layout).network).frames c)) all))
    where
      sink_unit_at : (l : ℕ) (d : l < links_of x.cast) (o : taker_of x.cast l ≡ c) → ((x.cast).layout).is_sink c ≡ true → frame_bytes_of (format_at t 0) ≡ (x.cast).unit l
      sink_unit_at l d o sink = unit_is x.cast p w c a U work f J s g l (record { below = d; taken_by = o }) sink (flow_long x recent p w W l d)

  -- ---- the world that it leaves

  module _ (its : WorkDone) (front : IsFrontOf (text_of t s n zs) its.took) (v : World) (C : ClosesTo (with_landed (script_place x.cast c) a its s w) v) where
    abbrev u : World
    u = with_landed (script_place x.cast c) a its s w

    kept : Keeps u v
    kept = closes_keep u v C

    fails_begin : EachSink x.cast v (λ l y z. Begins z.written (whole_text x.cast k l (stream l)))
    fails_begin l y z d sink h j =
        let r : ℕ = taker_of x.cast l in
        let inside = (((W.cast_is).layout).network).inside l d in
        let m = mapped_there seat (slice_get v.components (script_place x.cast r)) (slice_get u.components (script_place x.cast r)) y (kept.seats (script_place x.cast r)) h in
        let number : number_of y ≡ number_of m.0 = ap (λ (q : Terms × ℕ). q.1) m.2 in
        let streams = kept.streams in
        let was : stream_of (number_of m.0) u ≡ Some z = sym (λ i. find (is_stream_of (number i)) (streams i)) ∙ j in
        elim (at_set w.components (script_place x.cast c) (script_place x.cast r) (stepped_back a s its) m.0 m.1) [
          | inl q ↦
              let same : r ≡ c = (W.cast_is).apart r c inside b q.0 in
              let own : stream_of (number_of m.0) u ≡ Some (gone_through its s) = ap (λ (i : Component). stream_of (number_of i) u) q.1 ∙ stream_gone w u (number_of a) (gone_through its) s (λ i. refl) refl g in
              let is : gone_through its s ≡ z = let o : Some (gone_through its s) ≡ Some z = sym own ∙ was in cc in
              let B = goes_on s.written its.took (text_of t s n zs) _ front (step_begins l d same (subst (λ (i : ℕ). ((x.cast).layout).is_sink i ≡ true) same sink)) in
              let its_terms : t ≡ k.terms r = set ∙ ap k.terms (sym same) in
              let all : sunk_of t ((((x.cast).layout).network).frames c) (stream l) ≡ whole_text x.cast k l (stream l) = λ i. sunk_of (its_terms i) ((((x.cast).layout).network).frames (sym same i)) (stream l) in
              subst (λ (i : Stream). Begins i.written (whole_text x.cast k l (stream l))) is (B.0, B.1 ∙ all)
          | inr q ↦
              let B = W.actors r m.0 inside q.1 in
              let away : number_of m.0 ≢ number_of a = λ o. q.0 (sym B.number ∙ (o ∙ A.number)) in
              let before : stream_of (number_of m.0) w ≡ Some z = sym (stream_else w u (number_of a) (number_of m.0) (gone_through its) (λ i. refl) refl away) ∙ was in
              written_begins x k recent p w W H stream Q l m.0 z d sink q.1 before
        ]

-- ---- the call

-- an announcement doesn't fail
fails_working : (w : World) (a : Component) (work : Work) (its : WorkDone) (fault : PartFault) → IsDoneOf w a work its → its.fault ≡ Some fault → work.announces ≡ false
fails_working w a work its fault D o = either work.announces
    (λ t. let N : IsAnnounced its = subst (λ (z : Bool). IsDoneBy z w a work its) t D in let z : None ≡ Some fault = sym N.1 ∙ o in absurd cc)
    (λ t. t)

pub failed_fronts : (x : PlayCast) (k : PlayContents) (recent : ℕ) (p : Play) (w v : World) (c : ℕ) (a : Component) (work : Work) (its : WorkDone) (fault : PartFault) (stream : ℕ → List ℕ) → IsPlayWorld x recent p w → HasPlayStreams x k p w → ArePlain (network_of x.cast) k.model stream → c < components_of x.cast
    → slice_get w.components (script_place x.cast c) ≡ Some a → a.work ≡ Some work → its.component ≡ script_place x.cast c → IsDoneOf w a work its → its.fault ≡ Some fault → Finish w its v → AreFronts x.cast k v stream
failed_fronts x k recent p w v c a work its fault stream W H Q b e f h D o G = λ l y z d sink i j.
    let says = fails_working w a work its fault D o in
    let B : IsBack x.cast w v c a work its = comes_back x recent p w v c a work its W b e f says h D G in
    let S : IsStepBy (Some fault) (terms_in a work) B.stream (carried w.headers work.headers) its = subst (λ (q : Option PartFault). IsStepBy q (terms_in a work) B.stream (carried w.headers work.headers) its) o B.step in
    front_of z.written (whole_text x.cast k l (stream l)) (fails_begin x k recent p w W H stream Q c a work b e f says B.stream B.found its S.3 v B.closes l y z d sink i j)
