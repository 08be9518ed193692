-- Each act of a history in which steps may fail leads from a world of the play to one, read without its faults.
use Rattle.std.proofs.Common.{◌≡◌, ◌≢◌, ◌⊎◌, inl, inr, ℕ, Bool, true, false, List, [], ◌∷◌, All, slice_get, Option, Some, None, Result, refl, sym, ◌∙◌, ap, subst}
use Rattle.std.proofs.lemmas.List.Elements.{All-head, All-tail}
use Rattle.omx_types.specs.declared.command.Note.{Note}
use Rattle.omx_types.specs.declared.command.Note.TheVariants.{EmptyDone, FillDone, Told}
use Rattle.omx_types.specs.declared.error.OmxError.{OmxError}
use Rattle.omx_types.specs.declared.handle.Handle.{Handle}
use Rattle.il_machine.specs.declared.answer.Progress.{Progress}
use Rattle.il_machine.specs.Acts.{Act, Reply}
use Rattle.il_machine.specs.Acts as acts
use Rattle.il_machine.specs.Answers.{plain}
use Rattle.il_machine.specs.Components.{progress_answer}
use Rattle.il_machine.specs.Due.{IsClosed}
use Rattle.il_machine.specs.Finishing.{Finish}
use Rattle.il_machine.specs.Notes.{EndNote, TakeFrom, TakeNote, Took, with_given}
use Rattle.il_machine.specs.Run.{Meets, Run, Step}
use Rattle.il_machine.specs.Stepping.{WorkDone}
use Rattle.il_machine.specs.World.{Component, Stream, World, number_of, place_of, stream_of}
use Rattle.machine_laws.proofs.Closing.{closed_closes}
use Rattle.machine_laws.proofs.Finding.{either}
use Rattle.machine_laws.proofs.Pairs.{set_same}
use Rattle.machine_laws.proofs.Steps.{sound_step}
use Rattle.history_laws.proofs.ClosedLaw.{step_closed}
use Rattle.history_laws.proofs.WorkSteps.{back_of}
use Rattle.play_model.specs.Play.{Play}
use Rattle.play_world_laws.specs.Cast.{script_place, taker_of}
use Rattle.play_world_laws.specs.PlayWorlds.{PlayCast}
use Rattle.play_stream_laws.specs.PlayStreams.{HasPlayStreams}
use Rattle.read_world_laws.specs.Beside.{IsBeside}
use Rattle.read_world_laws.specs.Inside.{inside, taken_in}
use Rattle.read_world_laws.specs.Mended.{gone_on, is_fault, mend, mended}
use Rattle.read_world_laws.proofs.Calls.{named}
use Rattle.read_world_laws.proofs.Inside as ins
use Rattle.read_world_laws.proofs.Mended as mns
use Rattle.read_world_laws.proofs.Steps.{beside_meets}
use Rattle.play_history_laws.specs.Following.{HasTaken, IsPlayed}
use Rattle.play_history_laws.specs.Histories.{IsUnasked}
use Rattle.play_history_laws.specs.Order.{Cursor, IsAsked}
use Rattle.play_history_laws.proofs.Onward.{goes_nowhere, goes_through}
use Rattle.play_history_laws.proofs.Taken.{asked_beside, one_taken}
use Rattle.play_history_laws.proofs.Unasked.{looked_stays}
use Rattle.play_history_laws.specs.Faults.{HasFaulted, IsAnyAllowed, IsFailedStep, IsFaultHistory, IsFaulty}
use Rattle.play_history_laws.proofs.Accepting.{accepts, not_declined}
use Rattle.play_history_laws.proofs.FaultAsking.{asked_so}
use Rattle.play_history_laws.proofs.Failing.{fails}
use Rattle.play_history_laws.proofs.Held.{held_on, whole_back}
use Rattle.play_history_laws.proofs.Noted.{noted_on}
use Rattle.play_history_laws.proofs.StreamsKept.{AreInPlace, front_gone, fronts_stay, in_place, read_there, same_gone, same_stay}
use Rattle.play_history_laws.proofs.Staying.{PartsStay, beside_stay, ends_stay, finishes_keep, takes_stay}

module _ (x : PlayCast) (k : Cursor) (recent : ℕ) (p : Play) (ss : List Stream) (w : World) (D : IsFaulty x k recent p ss w) where
  abbrev u : World
  u = inside (mend ss w)

  abbrev P : IsPlayed x k recent p u
  P = (D.taken).played

  there_before : AreInPlace w
  there_before = in_place x k recent p ss w P

  -- ---- the streams are said as before

  goes : (a : Act) (r : Reply) (v : World) (j : Cursor) → Meets w a → Step w a r v → PartsStay w v → HasTaken x k recent p j (mend ss w) (mend ss v) → HasFaulted x k recent p j ss w v
  goes a r v j m s K T =
      let there = in_place x j T.recent T.now ss v (T.taken).played in
      record {
        recent = T.recent;
        now = T.now;
        later = ss;
        faulty = record {
          taken = T.taken;
          closed = step_closed w a r v D.closed s;
          sound = sound_step w v a r m s D.sound;
          held = held_on w v a r D.sound m s D.held;
          noted = noted_on w v K.failed D.noted;
          same = same_stay w v there_before there ss K D.same;
        };
        goes = T.goes;
        leads = λ contents stream Q H. record { flows = T.streams contents H.flows; fronts = fronts_stay w v there_before there x.cast contents stream K H.fronts };
      }

  stays : (v : World) → v ≡ w → HasFaulted x k recent p k ss w v
  stays v e = subst (λ (z : World). HasFaulted x k recent p k ss w z) (sym e) (record { recent = recent; now = p; later = ss; faulty = D; goes = goes_nowhere (x.cast).layout k recent p; leads = λ contents stream Q H. H })

  -- read so it is the same world
  same_read : (a : Act) (r : Reply) (v : World) → Meets w a → Step w a r v → PartsStay w v → IsClosed (mend ss v) → inside (mend ss v) ≡ u → HasFaulted x k recent p k ss w v
  same_read a r v m s K Z e = goes a r v k m s K (record {
    recent = recent;
    now = p;
    taken = record { played = subst (λ (z : World). IsPlayed x k recent p z) (sym e) P; closed = Z };
    goes = goes_nowhere (x.cast).layout k recent p;
    streams = λ contents H. subst (λ (z : World). HasPlayStreams x contents p z) (sym e) H;
  })

  beside : (a : Act) (r : Reply) (v : World) → IsBeside a → IsUnasked a → Meets w a → Step w a r v → HasFaulted x k recent p k ss w v
  beside a r v B O m s = elim (mns.step_in ss w a r v B s) [
    | inl t ↦ goes a r v k m s (beside_stay w a r v B s) (one_taken x k recent p (mend ss w) D.taken a r (mend ss v) k (beside_meets w (mend ss w) a B m) t (inl (O, refl)))
    | inr e ↦ stays v e.0
  ]

  -- ---- notes

  -- one that tells a fault is nothing
  told_fault : (h : Handle) (i : ℕ) (c : Component) → place_of h w.components ≡ Some i → slice_get w.components i ≡ Some c → (note : Note) → c.client_out ≡ false → slice_get c.notes 0 ≡ Some note → is_fault note ≡ true
      → (result : Result Took OmxError) (v : World) → TakeFrom w i c false (Some note) result v → inside (mend ss v) ≡ u
  told_fault h i c n g (EmptyDone number) o f b result v t = absurd cc
  told_fault h i c n g (FillDone number) o f b result v t = absurd cc
  told_fault h i c n g (Told event) o f b result v t =
      let after : World = with_given i c (Told event) w in
      let is : v ≡ after = closed_closes after v (ins.after_closed w i c event g h n o f D.closed) t.1 in
      let a : Component = record (mended c) { client_out = true } in
      let z = set_same u.components i (taken_in (mended c)) (read_there ss w i c g) in
      ap (λ (y : World). inside (mend ss y)) is ∙ (ap inside (mns.fault_given ss w i c (Told event) g f b) ∙ (sym (ins.with_in i a (mend ss w)) ∙ (λ j. record u { components = z j })))

  takes : (h : Handle) (result : Result Took OmxError) (v : World) → TakeNote w h result v → HasFaulted x k recent p k ss w v
  takes h result v s = elim (named plain w h result v (λ i c. TakeFrom w i c c.client_out (slice_get c.notes 0) result v) s) [
    | inl e ↦ stays v e.1
    | inr (i, c, n, g, t) ↦ by i c n g c.client_out (slice_get c.notes 0) refl refl t
  ]
    where
      K : PartsStay w v
      K = takes_stay w h result v s

      by : (i : ℕ) (c : Component) → place_of h w.components ≡ Some i → slice_get w.components i ≡ Some c → (out : Bool) (first : Option Note) → c.client_out ≡ out → slice_get c.notes 0 ≡ first → TakeFrom w i c out first result v → HasFaulted x k recent p k ss w v
      by i c n g true first o f t = stays v t.1
      by i c n g false None o f t = stays v t.1
      by i c n g false (Some note) o f t = either (is_fault note)
          (λ b. same_read (acts.TakeNote h) (acts.Took result) v tt s K (mns.closed_in ss v (step_closed w (acts.TakeNote h) (acts.Took result) v D.closed s)) (told_fault h i c n g note o f b result v t))
          (λ b. goes (acts.TakeNote h) (acts.Took result) v k tt s K (one_taken x k recent p (mend ss w) D.taken (acts.TakeNote h) (acts.Took result) (mend ss v) k tt (mns.takes_so ss w i c note g f h result v n o b t) (inl (tt, refl))))

  ends : (h : Handle) (progress : Progress) (v : World) → Meets w (acts.EndNote h progress) → EndNote w h v → HasFaulted x k recent p k ss w v
  ends h progress v m s =
      let B = ins.back_in_same (mend ss w) h (mend ss v) (D.taken).closed (mns.ends_in ss w h v s) in
      same_read (acts.EndNote h progress) acts.Ended v m s (ends_stay w h v s) B.1 B.0

  -- ---- a work comes back without a fault

  finishes : (done : WorkDone) → done.fault ≡ None → (v : World) → Meets w (acts.Finish done) → Finish w done v → HasFaulted x k recent p k ss w v
  finishes done f v m s =
      let b = back_of w done v m s in
      let B = b.3 in
      let whole = whole_back w done b.0 b.1 b.2 B D.held in
      let alike = D.same b.0 b.1 B.there whole in
      let meets = mns.meets_in ss w done (subst (λ (n : ℕ). stream_of n (mend ss w) ≡ stream_of n w) B.number alike) m in
      elim (mns.finishes_in ss w done v b.0 b.1 B.place B.there whole alike f s) [
        | inl t ↦ goes (acts.Finish done) acts.Finished v k m s (record { streams = t.1; failed = finishes_keep w done v f m s })
            (one_taken x k recent p (mend ss w) D.taken (acts.Finish done) acts.Finished (mend ss v) k meets t.0 (inl (f, refl)))
        | inr t ↦ went b.0 b.1 B.there whole (one_taken x k recent p (mend ss w) D.taken (acts.Finish done) acts.Finished (mend (gone_on ss (number_of b.1) done) v) k meets t.0 (inl (f, refl))) t.1
      ]
    where
      went : (i : ℕ) (c : Component) → slice_get w.components i ≡ Some c → c.part.failed ≡ false → HasTaken x k recent p k (mend ss w) (mend (gone_on ss (number_of c) done) v) → v.streams ≡ gone_on w.streams (number_of c) done → HasFaulted x k recent p k ss w v
      went i c g z T e =
          let n : ℕ = number_of c in
          let there = in_place x k T.recent T.now (gone_on ss n done) v (T.taken).played in
          let K = finishes_keep w done v f m s in
          record {
            recent = T.recent;
            now = T.now;
            later = gone_on ss n done;
            faulty = record {
              taken = T.taken;
              closed = step_closed w (acts.Finish done) acts.Finished v D.closed s;
              sound = sound_step w v (acts.Finish done) acts.Finished m s D.sound;
              held = held_on w v (acts.Finish done) acts.Finished D.sound m s D.held;
              noted = noted_on w v K D.noted;
              same = same_gone n done w v there_before there e K ss D.same;
            };
            goes = T.goes;
            leads = λ contents stream Q H. record {
              flows = T.streams contents H.flows;
              fronts = λ l d t b sink h q r.
                  let j : ℕ = script_place x.cast (taker_of x.cast l) in
                  let was = K j d h in
                  let a : Component = was.0 in
                  let numbers : number_of d ≡ number_of a = there j d h ∙ sym (there_before j a was.1) in
                  let other = another i j c a g was.1 z (sym was.2 ∙ r) in
                  (H.fronts) l a t b sink was.1 (front_gone n done w v e a d t numbers other q) (sym was.2 ∙ r);
            };
          }
        where
          another : (i j : ℕ) (c a : Component) → slice_get w.components i ≡ Some c → slice_get w.components j ≡ Some a → c.part.failed ≡ false → a.part.failed ≡ true → number_of a ≢ number_of c
          another i j c a g h z r e =
              let is : j ≡ i = sym (there_before j a h) ∙ (e ∙ there_before i c g) in
              let same : Some a ≡ Some c = sym h ∙ (ap (slice_get w.components) is ∙ g) in
              let it : a ≡ c = cc in
              let y : true ≡ false = sym r ∙ (ap (λ (y : Component). y.part.failed) it ∙ z) in
              absurd cc

  -- ---- all

  unasked : (a : Act) (r : Reply) (v : World) → IsUnasked a → Meets w a → Step w a r v → HasFaulted x k recent p k ss w v
  unasked (acts.RunCommand h) r v O m s = beside (acts.RunCommand h) r v tt tt m s
  unasked (acts.Claim h) r v O m s = beside (acts.Claim h) r v tt tt m s
  unasked (acts.Finish done) acts.Finished v O m s = finishes done O v m s
  unasked (acts.Supply h port) r v O m s = beside (acts.Supply h port) r v tt tt m s
  unasked (acts.Release h port) r v O m s = beside (acts.Release h port) r v tt tt m s
  unasked (acts.HandOver h port) r v O m s = beside (acts.HandOver h port) r v tt tt m s
  unasked (acts.HandBack h port) r v O m s = beside (acts.HandBack h port) r v tt tt m s
  unasked (acts.TakeNote h) (acts.Took result) v O m s = takes h result v s
  unasked (acts.EndNote h progress) acts.Ended v O m s = ends h progress v m s
  unasked (acts.Progress h) (acts.Progressed result) v O m s = stays v (looked_stays (progress_answer h w) w v D.closed s.1)
  unasked (acts.GetHandle name) r v O m s = absurd O
  unasked (acts.FreeHandle h) r v O m s = absurd O
  unasked (acts.Attach h file) r v O m s = absurd O
  unasked (acts.GetState h) r v O m s = absurd O
  unasked (acts.PortView h port) r v O m s = absurd O
  unasked (acts.GetParameter h key) r v O m s = absurd O
  unasked (acts.GetConfig h key) r v O m s = absurd O
  unasked (acts.SetParameter h key value) r v O m s = absurd O
  unasked (acts.SetConfig h key value) r v O m s = absurd O
  unasked (acts.SetupTunnel output input) r v O m s = absurd O
  unasked (acts.DropTunnel output input) r v O m s = absurd O
  unasked (acts.SendCommand h command) r v O m s = absurd O
  unasked (acts.AllocateBuffer h port) r v O m s = absurd O
  unasked (acts.UseBuffer h port bytes) r v O m s = absurd O
  unasked (acts.FreeBuffer h port header) r v O m s = absurd O
  unasked (acts.EmptyThisBuffer h port header) r v O m s = absurd O
  unasked (acts.FillThisBuffer h port header) r v O m s = absurd O
  unasked acts.Grant r v O m s = absurd O
  unasked acts.Preempt r v O m s = absurd O
  unasked _ _ v O m s = absurd s

  failed : (a : Act) (r : Reply) (v : World) → IsFailedStep a → Meets w a → Step w a r v → HasFaulted x k recent p k ss w v
  failed (acts.Finish done) acts.Finished v O m s = fails x k recent p ss w D done O.0 O.1 v m s
  failed (acts.Finish done) _ v O m s = absurd s
  failed _ r v O m s = absurd O

  asks : (a : Act) (r : Reply) (v : World) (j : Cursor) → Meets w a → Step w a r v → IsAsked x k (inside (mend w.streams w)) a j → HasFaulted x k recent p j ss w v
  asks a r v j m s A =
      let B = asked_beside x k (inside (mend w.streams w)) a j A in
      elim (mns.step_in ss w a r v B s) [
        | inl t ↦ goes a r v j m s (beside_stay w a r v B s) (one_taken x k recent p (mend ss w) D.taken a r (mend ss v) j (beside_meets w (mend ss w) a B m) t (inr (asked_so x (inside (mend w.streams w)) ss k a j A)))
        | inr e ↦ absurd (not_declined r (accepts x k recent p ss w D a r v j s (asked_so x (inside (mend w.streams w)) ss k a j A)) e.1)
      ]

  same_asked : (v : World) (j : Cursor) → HasFaulted x k recent p k ss w v → j ≡ k → HasFaulted x k recent p j ss w v
  same_asked v j H e = subst (λ (i : Cursor). HasFaulted x k recent p i ss w v) (sym e) H

  pub one_faulty : (a : Act) (r : Reply) (v : World) (j : Cursor) → Meets w a → Step w a r v → IsAnyAllowed x k (inside (mend w.streams w)) a j → HasFaulted x k recent p j ss w v
  one_faulty a r v j m s A = elim A [
    | inl O ↦ elim O.0 [
      | inl U ↦ same_asked v j (unasked a r v U m s) O.1
      | inr F ↦ same_asked v j (failed a r v F m s) O.1
    ]
    | inr B ↦ asks a r v j m s B
  ]

-- ---- a history

pub all_faulty : (x : PlayCast) (steps : List (Act × Reply)) (k : Cursor) (recent : ℕ) (p : Play) (ss : List Stream) (w : World) (j : Cursor) (v : World) → IsFaulty x k recent p ss w → IsFaultHistory x k w steps j v → HasFaulted x k recent p j ss w v
all_faulty x [] k recent p ss w j v D (e, f) =
    subst (λ (i : Cursor). HasFaulted x k recent p i ss w v) (sym e) (subst (λ (z : World). HasFaulted x k recent p k ss w z) (sym f) (record { recent = recent; now = p; later = ss; faulty = D; goes = goes_nowhere (x.cast).layout k recent p; leads = λ contents stream Q H. H }))
all_faulty x (step ∷ steps) k recent p ss w j v D (i, mid, m, s, A, rest) =
    let B = one_faulty x k recent p ss w D step.0 step.1 mid i m s A in
    let C = all_faulty x steps i B.recent B.now B.later mid j v B.faulty rest in
    record {
      recent = C.recent;
      now = C.now;
      later = C.later;
      faulty = C.faulty;
      goes = goes_through (x.cast).layout k recent p i B.recent B.now j C.recent C.now B.goes C.goes;
      leads = λ contents stream Q H. C.leads contents stream Q (B.leads contents stream Q H);
    }

-- steps that nobody need ask for
abbrev IsAlone : Act × Reply → Type 0
IsAlone step = IsUnasked step.0 ⊎ IsFailedStep step.0

pub unasked_run : (x : PlayCast) (steps : List (Act × Reply)) (k : Cursor) (w v : World) → Run w steps v → All (λ step. IsUnasked step.0 ⊎ IsFailedStep step.0) steps → IsFaultHistory x k w steps k v
unasked_run x [] k w v e A = (refl, e)
unasked_run x (step ∷ steps) k w v (mid, m, s, R) A = (k, mid, m, s, inl (All-head IsAlone step steps A, refl), unasked_run x steps k mid v R (All-tail IsAlone step steps A))
