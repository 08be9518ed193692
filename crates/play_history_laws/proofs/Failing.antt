-- A step that fails: read without its fault the play is where it was, the bytes on their way are those that were, and the file took a front.
use Rattle.std.proofs.Common.{◌≡◌, ◌≢◌, ◌⊎◌, inl, inr, ℕ, ◌<◌, Bool, true, false, not, ◌&&◌, List, [], ◌∷◌, ◌++◌, map, set, slice_get, Option, Some, None, refl, sym, ◌∙◌, ap, subst, arith}
use Rattle.std.proofs.lemmas.List.Sums.{count_by-le-length}
use Rattle.omx_types.specs.declared.command.Event.TheVariants.{Error}
use Rattle.omx_types.specs.declared.command.Note.TheVariants.{Told}
use Rattle.omx_types.specs.declared.fault.PartFault.{PartFault}
use Rattle.part_api.specs.Terms.{Terms}
use Rattle.il_machine.specs.Acts as acts
use Rattle.il_machine.specs.Due.{ClosesTo}
use Rattle.il_machine.specs.Finishing.{Finish, all_landed, end_note, error_of, fault_note, finished, finished_by, gone_through, notes_after, part_by, stepped_back, tells_end, with_landed}
use Rattle.il_machine.specs.Run.{Meets}
use Rattle.il_machine.specs.Stepping.{IsDoneBy, IsDoneOf, IsFrontOf, WorkDone}
use Rattle.il_machine.specs.World.{Component, Stream, Work, World, number_of, place_numbered, stream_of}
use Rattle.machine_laws.proofs.Ending.{closes_somewhere}
use Rattle.machine_laws.proofs.Every.{at_set, set_there}
use Rattle.machine_laws.proofs.Finding.{either}
use Rattle.machine_laws.proofs.Steps.{sound_step}
use Rattle.machine_laws.proofs.Values.{set_twice}
use Rattle.history_laws.proofs.ClosedLaw.{step_closed}
use Rattle.history_laws.proofs.WorkSteps.{IsBackOf, back_of, stepped_is}
use Rattle.play_model.specs.Content.{ArePlain}
use Rattle.play_model.specs.Play.{Play}
use Rattle.play_world_laws.specs.Cast.{links_of, script_place, taker_of}
use Rattle.play_world_laws.specs.Worlds.{IsBeforeRest}
use Rattle.play_world_laws.proofs.Told.{stream_else, stream_gone}
use Rattle.play_stream_laws.specs.Contents.{PlayContents, network_of}
use Rattle.play_stream_laws.specs.Fronts.{whole_text}
use Rattle.play_stream_laws.proofs.Closing.{closes_keep, one_keeps, parts_kept}
use Rattle.play_stream_laws.proofs.Keeping.{mapped_there, seat}
use Rattle.play_world_laws.specs.PlayWorlds.{PlayCast}
use Rattle.play_stream_laws.proofs.Failing.{failed_fronts}
use Rattle.play_stream_laws.specs.PlayStreams.{HasPlayStreams}
use Rattle.play_stream_laws.proofs.Acts.{act_closes}
use Rattle.play_stream_laws.proofs.PlayClosing.{calm_same, calm_world, one_calm}
use Rattle.play_history_laws.specs.Undone.{IsUndone, let_go, undone_in}
use Rattle.play_history_laws.proofs.Undoing.{failed_is}
use Rattle.read_world_laws.specs.Inside.{inside, taken_in}
use Rattle.read_world_laws.specs.Mended.{gone_on, is_fault, mend, mended}
use Rattle.read_world_laws.proofs.Faults.{faults_append, faults_in, one_if, step_faults}
use Rattle.read_world_laws.proofs.Inside as ins
use Rattle.read_world_laws.proofs.Mended as mns
use Rattle.play_history_laws.specs.Following.{IsPlayed}
use Rattle.play_history_laws.specs.Order.{Cursor}
use Rattle.play_history_laws.proofs.Following.{follows_on}
use Rattle.play_history_laws.proofs.Moving.{idles}
use Rattle.play_history_laws.proofs.Onward.{goes_nowhere}
use Rattle.play_history_laws.specs.Faults.{AreFailedFronts, AreNoted, HasFaulted, HasFaultStreams, IsFaulty}
use Rattle.play_history_laws.proofs.Held.{held_on, whole_back}
use Rattle.play_history_laws.proofs.StreamsKept.{AreInPlace, AreSame, IsSeated, front_gone, in_place, read_there, seated}
use Rattle.play_history_laws.proofs.Noted.{none_noted}
use Rattle.play_history_laws.proofs.Staying.{closes_stay}

ended_of : (e f : Bool) → (e && not f) ≡ false → f ≡ false → e ≡ false
ended_of true true h z = absurd cc
ended_of true false h z = absurd cc
ended_of false f h z = refl

-- ---- the world that it leaves, read so

module _ (ss : List Stream) (w : World) (i : ℕ) (c : Component) (done : WorkDone) (fault : PartFault) (f : done.fault ≡ Some fault) (stream : Stream) (ended : c.part.ended ≡ false)
    (tells : notes_after (taken_in (mended c)) stream done ≡ Told (Error (error_of fault)) ∷ []) where
  abbrev its : Component
  its = taken_in (mended c)

  abbrev d : Component
  d = stepped_back c stream done

  tells_so : notes_after c stream done ≡ Told (Error (error_of fault)) ∷ []
  tells_so =
      let a = ins.notes_in (mended c) stream done done.headers in
      let b = mns.notes_in ss c stream done done.headers in
      let same : notes_after its stream done ≡ notes_after c stream done = (λ j. ((a ∙ b) j ++ end_note (tells_end c done)) ++ fault_note done.fault) in
      sym same ∙ tells

  back_is : mended d ≡ record (mended c) { work = None }
  back_is =
      let part = ap (part_by c stream done) f in
      let notes = tells_so in
      mns.broken_in fault c d ended (λ j. record c { work = None; part = part j; notes = c.notes ++ notes j })

  pub read_so : inside (mend ss (with_landed i c done stream w)) ≡ undone_in i its done stream (inside (mend ss w))
  read_so =
      let u : World = inside (mend ss w) in
      let cs : List Component = w.components in
      let a = sym (mns.set_in ss cs i d) in
      let b = sym (ins.set_in (map mended cs) i (mended d)) in
      let e : taken_in (mended d) ≡ let_go its = ap taken_in back_is in
      let g = sym (set_twice i u.components (stepped_back its stream done) (let_go its)) in
      let components : map taken_in (map mended (set cs i d)) ≡ set (set u.components i (stepped_back its stream done)) i (let_go its) =
      ap (map taken_in) a ∙ (b ∙ (ap (set u.components i) e ∙ g)) in
      let headers : all_landed c stream done done.headers w.headers ≡ all_landed its stream done done.headers w.headers =
      sym (ins.all_landed_in (mended c) stream done done.headers w.headers ∙ mns.all_landed_in ss c stream done done.headers w.headers) in
      λ j. record (undone_in i its done stream u) { components = components j; headers = headers j }

-- ---- the step

module _ (x : PlayCast) (k : Cursor) (recent : ℕ) (p : Play) (ss : List Stream) (w : World) (D : IsFaulty x k recent p ss w) (done : WorkDone) (fault : PartFault) (f : done.fault ≡ Some fault) (v : World) (m : Meets w (acts.Finish done)) (s : Finish w done v) where
  abbrev u : World
  u = inside (mend ss w)

  abbrev P : IsPlayed x k recent p u
  P = (D.taken).played

  back : (i : ℕ) × (c : Component) × (work : Work) × IsBackOf w done i c work × ClosesTo (finished i c done w) v
  back = back_of w done v m s

  abbrev i : ℕ
  i = back.0

  abbrev c : Component
  c = back.1

  abbrev work : Work
  work = back.2

  B : IsBackOf w done i c work
  B = back.3

  abbrev a : Component
  a = taken_in (mended c)

  whole : c.part.failed ≡ false
  whole = whole_back w done i c work B D.held

  S : IsSeated x ss w i c
  S = seated x k recent p ss w P i c B.there

  says : work.announces ≡ false
  says = either work.announces
      (λ t.
      let G : IsDoneBy true w c work done = subst (λ (q : Bool). IsDoneBy q w c work done) t B.meets in
      let z : Some fault ≡ None = sym f ∙ G.1 in
      absurd cc)
      (λ t. t)

  -- its stream is said as it is
  alike : stream_of done.component (mend ss w) ≡ stream_of done.component w
  alike = subst (λ (n : ℕ). stream_of n (mend ss w) ≡ stream_of n w) B.number (D.same i c B.there whole)

  done_so : IsDoneOf u a work done
  done_so = ins.done_in work.announces (mend ss w) (mended c) work done (mns.done_in ss work.announces w c work done alike B.meets)

  number : done.component ≡ script_place x.cast S.number
  number = sym B.number ∙ ((P.play).actors S.number a S.below S.there).number

  N : IsUndone x recent p i a done fault u
  N = subst (λ (j : ℕ). IsUndone x recent p j a done fault u) S.place (failed_is x recent p u S.number a work done fault P.play S.below S.there B.out says number done_so f)

  ended : c.part.ended ≡ false
  ended =
      let A = (P.play).actors S.number a S.below S.there in
      let K = A.work work B.out in
      let two = K.phase in
      let rest : IsBeforeRest p S.number = ((λ t. absurd (omega arith)), omega arith) in
      ended_of c.part.ended c.part.failed ((A.part).ended rest ∙ K.going) whole

  found : stream_of (number_of c) w ≡ Some N.stream
  found = sym (D.same i c B.there whole) ∙ N.found

  abbrev effect : World
  effect = with_landed i c done N.stream w

  closes : ClosesTo effect v
  closes =
      let is : finished i c done w ≡ effect = ap (λ (o : Option Work). finished_by i c done o w) B.out ∙ stepped_is w done i c work N.stream says found in
      subst (λ (y : World). ClosesTo y v) is back.4

  abbrev undone : World
  undone = undone_in i a done N.stream u

  read_closes : ClosesTo undone (inside (mend ss v))
  read_closes =
      let V : ClosesTo (inside (mend ss effect)) (inside (mend ss v)) = ins.closes_in (mend ss effect) (mend ss v) (mns.closes_in ss effect v closes) in
      subst (λ (y : World). ClosesTo y (inside (mend ss v))) (read_so ss w i c done fault f N.stream ended N.tells) V

  played : IsPlayed x k recent p (inside (mend ss v))
  played =
      let M = idles x recent p u (inside (mend ss v)) P.play P.waiting P.closed (record { effect = undone; play = N.play; closes = read_closes }) in
      record { play = M.play; waiting = M.waiting; closed = M.closed; follows = follows_on x.cast k recent p p M.keeps P.follows }

  -- ---- the components and the streams of the world that it leaves

  there_before : AreInPlace w
  there_before = in_place x k recent p ss w P

  there_after : AreInPlace v
  there_after = in_place x k recent p ss v played

  went : v.streams ≡ gone_on w.streams i done
  went = (closes_stay effect v closes).streams ∙ ap (λ (n : ℕ). gone_on w.streams n done) (there_before i c B.there)

  -- its part has failed, and of the others those that had
  others : (j : ℕ) (d : Component) → slice_get v.components j ≡ Some d → ((j ≡ i) × (d.part.failed ≡ true)) ⊎ ((j ≢ i) × (b : Component) × (slice_get w.components j ≡ Some b) × (d.part.failed ≡ b.part.failed))
  others j d e =
      let K = (closes_stay effect v closes).failed j d e in
      elim (at_set w.components i j (stepped_back c N.stream done) K.0 K.1) [
        | inl z ↦ inl (z.0, K.2 ∙ (ap (λ (y : Component). y.part.failed) z.1 ∙ ap (λ (o : Option PartFault). (part_by c N.stream done o).failed) f))
        | inr z ↦ inr (z.0, K.0, z.1, K.2)
      ]

  -- its fault is the only one of it
  noted_after : AreNoted v
  noted_after j d e =
      let K = (closes_stay effect v closes).failed j d e in
      let m = K.3 in
      elim (at_set w.components i j (stepped_back c N.stream done) K.0 K.1) [
        | inl z ↦
            let a = ap (λ (y : Component). faults_in y.notes) z.1 in
            let b = faults_append c.notes (notes_after c N.stream done) in
            let s = step_faults c N.stream done (fault_note done.fault) in
            let o : faults_in (fault_note done.fault) ≡ faults_in (fault_note (Some fault)) = ap (λ (y : Option PartFault). faults_in (fault_note y)) f in
            let one = count_by-le-length is_fault (fault_note (Some fault)) in
            let none = none_noted w D.noted i c B.there whole in
            let g : d.part.failed ≡ true = K.2 ∙ (ap (λ (y : Component). y.part.failed) z.1 ∙ ap (λ (y : Option PartFault). (part_by c N.stream done y).failed) f) in
            let h : one_if d.part.failed ≡ 1 = ap one_if g in
            omega (arith, m, a, b, s, o, one, none, h)
        | inr z ↦
            let n = D.noted j K.0 z.1 in
            let h : one_if d.part.failed ≡ one_if (K.0).part.failed = ap one_if K.2 in
            omega (arith, m, n, h)
      ]

  away_from : (j : ℕ) (b : Component) → j ≢ i → slice_get w.components j ≡ Some b → number_of b ≢ i
  away_from j b n h t = n (sym (there_before j b h) ∙ t)

  same_after : AreSame ss v
  same_after j d e g = elim (others j d e) [
    | inl z ↦ let y = z.1 in absurd cc
    | inr (n, b, h, q) ↦
        let numbers : number_of d ≡ number_of b = there_after j d e ∙ sym (there_before j b h) in
        let else_ = stream_else w v i (number_of b) (gone_through done) (λ r. refl) went (away_from j b n h) in
        ap (λ (z : ℕ). stream_of z (mend ss w)) numbers ∙ (D.same j b h (sym q ∙ g) ∙ (sym else_ ∙ ap (λ (z : ℕ). stream_of z v) (sym numbers)))
  ]

  -- ---- the bytes on their way

  there : slice_get u.components i ≡ Some a
  there = read_there ss w i c B.there

  undone_components : undone.components ≡ set u.components i (let_go a)
  undone_components = set_twice i u.components (stepped_back a N.stream done) (let_go a)

  flows : (contents : PlayContents) → HasPlayStreams x contents p u → HasPlayStreams x contents p (inside (mend ss v))
  flows contents H = act_closes x contents recent recent p p u (inside (mend ss v)) P.play H played.play refl undone (one_keeps u undone i a (let_go a) there undone_components refl refl)
      (λ two.
      let all = calm_world x recent p u P.play two in (
        record { bytes = N.bytes; parts = parts_kept u undone i a (let_go a) there undone_components refl },
        one_calm u undone i (let_go a) undone_components (calm_same a (let_go a) refl refl (all i a there)) all,
      )) read_closes

  -- ---- what its file took

  -- the world in which it comes back, read with its fault
  abbrev failed : World
  failed = finished i a done u

  after : (z : World) × ClosesTo failed z
  after = closes_somewhere failed

  comes_back : Finish u done after.0
  comes_back =
      let place : place_numbered done.component u.components ≡ Some i = ins.numbered_in done.component (mend ss w).components ∙ (mns.numbered_in ss done.component w.components ∙ B.place) in
      rw (place, there) after.1

  failed_there : slice_get failed.components i ≡ Some (stepped_back a N.stream done)
  failed_there = ap (λ (z : World). slice_get z.components i) N.effect ∙ set_there u.components i a (stepped_back a N.stream done) there

  own : (contents : PlayContents) (stream : ℕ → List ℕ) → ArePlain (network_of x.cast) contents.model stream → HasPlayStreams x contents p u → (l : ℕ) → l < links_of x.cast → ((x.cast).layout).is_sink (taker_of x.cast l) ≡ true
      → script_place x.cast (taker_of x.cast l) ≡ i → IsFrontOf (whole_text x.cast contents l (stream l)) (gone_through done N.stream).written
  own contents stream Q H l b sink e =
      let K = closes_keep failed after.0 after.1 in
      let y = mapped_there seat (slice_get failed.components i) (slice_get (after.0).components i) (stepped_back a N.stream done) (sym (K.seats i)) failed_there in
      let numbers : number_of a ≡ number_of y.0 = ap (λ (z : Terms × ℕ). z.1) y.2 in
      let streams : (after.0).streams ≡ gone_on u.streams (number_of a) done = K.streams ∙ ap (λ (z : World). z.streams) N.effect in
      let its = stream_gone u after.0 (number_of a) (gone_through done) N.stream (λ r. refl) streams N.found in
      failed_fronts x contents recent p u after.0 S.number a work done fault stream P.play H Q S.below S.there B.out number done_so f comes_back
      l y.0 (gone_through done N.stream) b sink (ap (slice_get (after.0).components) e ∙ y.1) (ap (λ (z : ℕ). stream_of z after.0) (sym numbers) ∙ its)

  fronts : (contents : PlayContents) (stream : ℕ → List ℕ) → ArePlain (network_of x.cast) contents.model stream → HasFaultStreams x contents stream p ss w → AreFailedFronts x.cast contents v stream
  fronts contents stream Q H l d t b sink e g z = elim (others (script_place x.cast (taker_of x.cast l)) d e) [
    | inl y ↦
        let its : stream_of i v ≡ Some (gone_through done N.stream) = stream_gone w v i (gone_through done) N.stream (λ r. refl) went (ap (λ (n : ℕ). stream_of n w) (sym (there_before i c B.there)) ∙ found) in
        let place : number_of d ≡ i = there_after (script_place x.cast (taker_of x.cast l)) d e ∙ y.0 in
        let same : Some (gone_through done N.stream) ≡ Some t = sym its ∙ (ap (λ (n : ℕ). stream_of n v) (sym place) ∙ g) in
        let is : gone_through done N.stream ≡ t = cc in
        subst (λ (o : Stream). IsFrontOf (whole_text x.cast contents l (stream l)) o.written) is (own contents stream Q H.flows l b sink y.0)
    | inr (n, c, h, q) ↦
        let numbers : number_of d ≡ number_of c = there_after (script_place x.cast (taker_of x.cast l)) d e ∙ sym (there_before (script_place x.cast (taker_of x.cast l)) c h) in
        H.fronts l c t b sink h (front_gone i done w v went c d t numbers (away_from (script_place x.cast (taker_of x.cast l)) c n h) g) (sym q ∙ z)
  ]

  pub fails : HasFaulted x k recent p k ss w v
  fails =
      let Z = step_closed w (acts.Finish done) acts.Finished v D.closed s in
      record {
        recent = recent;
        now = p;
        later = ss;
        faulty = record {
          taken = record { played = played; closed = mns.closed_in ss v Z };
          closed = Z;
          sound = sound_step w v (acts.Finish done) acts.Finished m s D.sound;
          held = held_on w v (acts.Finish done) acts.Finished D.sound m s D.held;
          noted = noted_after;
          same = same_after;
        };
        goes = goes_nowhere (x.cast).layout k recent p;
        leads = λ contents stream Q H. record { flows = flows contents H.flows; fronts = fronts contents stream Q H };
      }
