-- Each act of a history in which a note counts as told once it is taken leads from a world of a play to one, read with its client objects in.
use Rattle.std.proofs.Common.{◌≡◌, inl, inr, ℕ, zero, suc, ◌+◌, Bool, true, false, List, [], ◌∷◌, map, slice_get, Option, Some, None, option_and_then, Result, Ok, refl, sym, ◌∙◌, ap, subst}
use Rattle.omx_types.specs.declared.command.Command.TheVariants.{StateSet}
use Rattle.omx_types.specs.declared.command.Event.{Event}
use Rattle.omx_types.specs.declared.command.Note.{Note}
use Rattle.omx_types.specs.declared.command.Note.TheVariants as notes
use Rattle.omx_types.specs.declared.error.OmxError.{OmxError}
use Rattle.omx_types.specs.declared.handle.Handle.{Handle}
use Rattle.il_machine.specs.Acts.{Act, Reply}
use Rattle.il_machine.specs.Acts as acts
use Rattle.il_machine.specs.Answers.{component_named, plain}
use Rattle.il_machine.specs.Commands.{is_at_once}
use Rattle.il_machine.specs.Components.{progress_answer, progress_of}
use Rattle.il_machine.specs.Due.{ClosesTo, IsClosed}
use Rattle.il_machine.specs.Notes.{TakeFrom, TakeNote, TakenEvent, Took, TookNote, first_taken, with_given}
use Rattle.il_machine.specs.Room.{is_event}
use Rattle.il_machine.specs.Run.{Meets, Step}
use Rattle.il_machine.specs.World.{Component, World, is_at, place_of}
use Rattle.il_machine.proofs.Places.{is_first_place, passes_at}
use Rattle.machine_laws.proofs.Closing.{closed_closes}
use Rattle.machine_laws.proofs.Keys.{is_there, none_or_some}
use Rattle.history_laws.proofs.ClosedLaw.{step_closed}
use Rattle.play_model.specs.Play.{Play}
use Rattle.play_world_laws.specs.Cast.{script_place}
use Rattle.play_world_laws.specs.Openings.{opening}
use Rattle.play_world_laws.specs.Standing.{target}
use Rattle.play_world_laws.proofs.Lists.{resolved}
use Rattle.play_world_laws.specs.PlayWorlds.{IsPlayWorld, PlayCast}
use Rattle.play_world_laws.specs.Waiting.{IsWaiting}
use Rattle.play_world_laws.proofs.StageNotes.{an_event}
use Rattle.read_world_laws.specs.Beside.{IsBeside}
use Rattle.read_world_laws.specs.Inside.{inside, taken_in}
use Rattle.read_world_laws.proofs.Inside.{after_closed, back_in_same, between, ends_so, finishes_in, get_in, meets_in, named_between, place_in, step_in, takes_so, there_between}
use Rattle.read_world_laws.proofs.Steps.{beside_meets}
use Rattle.play_history_laws.specs.Histories.{IsAllowed, IsPlayHistory, IsUnasked}
use Rattle.play_history_laws.specs.Order.{Cursor, IsAsked, IsChangeAct, nothing_asked}
use Rattle.play_history_laws.specs.Following.{GoesTo, HasTaken, IsPlayed, IsTaken}
use Rattle.play_history_laws.proofs.Histories.{begins_played, one_act}
use Rattle.play_history_laws.proofs.Onward.{goes_nowhere, goes_through}
use Rattle.play_history_laws.proofs.Replies.{unnamed}
use Rattle.play_history_laws.proofs.Unasked.{looked_stays, named_at}
use Rattle.play_history_laws.proofs.Coming.{HasCome}

-- ---- what is asked is none of notes and works that come back

target_waits : (n : ℕ) → is_at_once (StateSet (target n)) ≡ false
target_waits zero = refl
target_waits (suc zero) = refl
target_waits (suc (suc zero)) = refl
target_waits (suc (suc (suc zero))) = refl
target_waits (suc (suc (suc (suc n)))) = refl

change_beside : (x : PlayCast) (w : World) (l n : ℕ) (a : Act) → IsChangeAct x w l n a → IsBeside a
change_beside x w l zero a (h, N, is) = subst IsBeside (sym is) refl
change_beside x w l (suc zero) a (h, N, is) = subst IsBeside (sym is) refl
change_beside x w l (suc (suc zero)) a (g, h, M, N, is) = subst IsBeside (sym is) tt
change_beside x w l (suc (suc (suc zero))) a (h, N, is) = subst IsBeside (sym is) tt
change_beside x w l (suc (suc (suc (suc zero)))) a (h, N, is) = subst IsBeside (sym is) tt
change_beside x w l (suc (suc (suc (suc (suc zero))))) a (g, h, M, N, is) = subst IsBeside (sym is) tt
change_beside x w l (suc (suc (suc (suc (suc (suc zero)))))) a (h, N, is) = subst IsBeside (sym is) refl
change_beside x w l (suc (suc (suc (suc (suc (suc (suc zero))))))) a (h, N, is) = subst IsBeside (sym is) refl
change_beside x w l (suc (suc (suc (suc (suc (suc (suc (suc n)))))))) a z = absurd z

pub asked_beside : (x : PlayCast) (k : Cursor) (w : World) (a : Act) (j : Cursor) → IsAsked x k w a j → IsBeside a
asked_beside x k w a j A = elim A [
  | inl G ↦ subst IsBeside (sym (G.sends).is) (target_waits k.phase)
  | inr B ↦ elim B [
    | inl G ↦ subst IsBeside (sym (G.sends).is) (target_waits (k.phase + 1))
    | inr E ↦ elim E [
      | inl G ↦ change_beside x w G.link 0 a G.its_act
      | inr G ↦ change_beside x w G.link (k.made G.link) a G.its_act
    ]
  ]
]

pub component_there : (w : World) (h : Handle) (i : ℕ) → place_of h w.components ≡ Some i → (c : Component) × (slice_get w.components i ≡ Some c)
component_there w h i e = let z = passes_at (is_at h) w.components i (sym (is_first_place (is_at h) w.components) ∙ e) in (z.0, z.1)

-- ---- one act

module _ (x : PlayCast) (k : Cursor) (recent : ℕ) (p : Play) (w : World) (D : IsTaken x k recent p w) where
  came_in : (v : World) (j : Cursor) → IsClosed v → HasCome x k recent p j (inside w) (inside v) → HasTaken x k recent p j w v
  came_in v j Z H = record { recent = H.recent; now = H.now; taken = record { played = H.played; closed = Z }; goes = H.goes; streams = H.streams }

  nowhere : GoesTo (x.cast).layout k recent p k recent p
  nowhere = goes_nowhere (x.cast).layout k recent p

  -- read so the world stays
  stays_in : (v : World) → IsClosed v → inside v ≡ inside w → HasTaken x k recent p k w v
  stays_in v Z e = came_in v k Z (subst (λ (u : World). HasCome x k recent p k (inside w) u) (sym e) (record { recent = recent; now = p; played = D.played; goes = nowhere; streams = λ c H. H }))

  stays_so : (v : World) → v ≡ w → HasTaken x k recent p k w v
  stays_so v e = stays_in v (subst IsClosed (sym e) D.closed) (ap inside e)

  beside : (a : Act) (r : Reply) (v : World) (j : Cursor) → IsBeside a → Meets w a → Step w a r v → IsAllowed x k (inside w) a j → HasTaken x k recent p j w v
  beside a r v j B m s A = came_in v j (step_closed w a r v D.closed s) (one_act x k recent p (inside w) a r (inside v) j D.played (beside_meets w (inside w) a B m) (step_in w a r v B s) A)

  -- ---- a note is taken

  module _ (h : Handle) (i : ℕ) (n : place_of h w.components ≡ Some i) (c : Component) (e : slice_get w.components i ≡ Some c) where
    -- an event: it is taken, and its client object comes back
    event_taken : (event : Event) → c.client_out ≡ false → slice_get c.notes 0 ≡ Some (notes.Told event) → (v : World) → ClosesTo (with_given i c (notes.Told event) w) v → HasTaken x k recent p k w v
    event_taken event o f v C =
        let u : World = with_given i c (notes.Told event) w in
        let U = after_closed w i c event e h n o f D.closed in
        let is : v ≡ u = closed_closes u v U C in
        let mid : World = between w i c event e h n o f D.closed in
        let d : Component = first_taken (taken_in c) in
        let A = one_act x k recent p (inside w) (acts.TakeNote h) (acts.Took (Ok (TookNote (TakenEvent event)))) mid k D.played tt (takes_so w i c event e h n o f D.closed) (inl (tt, refl)) in
        let named : component_named h mid.components ≡ Some d = ap (option_and_then (slice_get mid.components)) (named_between w i c event e h n o f D.closed) ∙ there_between w i c event e h n o f D.closed in
        let m : Meets mid (acts.EndNote h (progress_of d mid)) = is_there (component_named h mid.components) (λ y. (y.client_out ≡ true) × (progress_of d mid ≡ progress_of y mid)) d named (refl, refl) in
        let B = one_act x k A.recent A.now mid (acts.EndNote h (progress_of d mid)) acts.Ended (inside u) k A.played m (ends_so w i c event e h n o f D.closed) (inl (tt, refl)) in
        subst (λ (y : World). HasTaken x k recent p k w y) (sym is) (record {
          recent = B.recent;
          now = B.now;
          taken = record { played = B.played; closed = U };
          goes = goes_through (x.cast).layout k recent p k A.recent A.now k B.recent B.now A.goes B.goes;
          streams = λ y H. B.streams y (A.streams y H);
        })

    takes : (result : Result Took OmxError) (v : World) → TakeFrom w i c c.client_out (slice_get c.notes 0) result v → HasTaken x k recent p k w v
    takes result v s = by c.client_out (slice_get c.notes 0) refl refl s
      where
        no_header : (note : Note) → c.client_out ≡ false → slice_get c.notes 0 ≡ Some note → is_event note ≡ true
        no_header note o f =
            let I = named_at x recent p (inside w) h i (D.played).play (place_in h w.components ∙ n) in
            let at : slice_get (inside w).components (script_place x.cast I.component) ≡ Some (taken_in c) =
            subst (λ (y : ℕ). slice_get (inside w).components y ≡ Some (taken_in c)) (let q : Some i ≡ Some (script_place x.cast I.component) = sym (place_in h w.components ∙ n) ∙ I.named in cc) (get_in w.components i c e) in
            an_event x recent p (inside w) (D.played).play I.component I.below (taken_in c) at (((D.played).play).actors I.component (taken_in c) I.below at) note refl f

        by : (out : Bool) (first : Option Note) → c.client_out ≡ out → slice_get c.notes 0 ≡ first → TakeFrom w i c out first result v → HasTaken x k recent p k w v
        by true first o f r = stays_so v r.1
        by false None o f r = stays_so v r.1
        by false (Some (notes.Told event)) o f r = event_taken event o f v r.1
        by false (Some (notes.EmptyDone number)) o f r = let z : false ≡ true = no_header (notes.EmptyDone number) o f in absurd cc
        by false (Some (notes.FillDone number)) o f r = let z : false ≡ true = no_header (notes.FillDone number) o f in absurd cc

  takes_note : (h : Handle) (result : Result Took OmxError) (v : World) → TakeNote w h result v → HasTaken x k recent p k w v
  takes_note h result v s = elim (none_or_some (place_of h w.components)) [
    | inl e ↦ stays_so v (unnamed (place_of h w.components) _ e s).1
    | inr z ↦
        let r = component_there w h z.0 z.1 in
        takes h z.0 z.1 r.0 r.1 result v (resolved plain w h result v (λ i c. TakeFrom w i c c.client_out (slice_get c.notes 0) result v) z.0 r.0 z.1 r.1 s)
  ]

  -- ---- all

  unasked_in : (a : Act) (r : Reply) (v : World) → IsUnasked a → Meets w a → Step w a r v → HasTaken x k recent p k w v
  unasked_in (acts.RunCommand h) r v O m s = beside (acts.RunCommand h) r v k tt m s (inl (O, refl))
  unasked_in (acts.Claim h) r v O m s = beside (acts.Claim h) r v k tt m s (inl (O, refl))
  unasked_in (acts.Finish done) acts.Finished v O m s =
      came_in v k (step_closed w (acts.Finish done) acts.Finished v D.closed s) (one_act x k recent p (inside w) (acts.Finish done) acts.Finished (inside v) k D.played (meets_in w done m) (finishes_in w done v s) (inl (O, refl)))
  unasked_in (acts.Supply h port) r v O m s = beside (acts.Supply h port) r v k tt m s (inl (O, refl))
  unasked_in (acts.Release h port) r v O m s = beside (acts.Release h port) r v k tt m s (inl (O, refl))
  unasked_in (acts.HandOver h port) r v O m s = beside (acts.HandOver h port) r v k tt m s (inl (O, refl))
  unasked_in (acts.HandBack h port) r v O m s = beside (acts.HandBack h port) r v k tt m s (inl (O, refl))
  unasked_in (acts.TakeNote h) (acts.Took result) v O m s = takes_note h result v s
  unasked_in (acts.EndNote h progress) acts.Ended v O m s = let B = back_in_same w h v D.closed s in stays_in v B.1 B.0
  unasked_in (acts.Progress h) (acts.Progressed result) v O m s = stays_so v (looked_stays (progress_answer h w) w v D.closed s.1)
  unasked_in (acts.GetHandle name) r v O m s = absurd O
  unasked_in (acts.FreeHandle h) r v O m s = absurd O
  unasked_in (acts.Attach h file) r v O m s = absurd O
  unasked_in (acts.GetState h) r v O m s = absurd O
  unasked_in (acts.PortView h port) r v O m s = absurd O
  unasked_in (acts.GetParameter h key) r v O m s = absurd O
  unasked_in (acts.GetConfig h key) r v O m s = absurd O
  unasked_in (acts.SetParameter h key value) r v O m s = absurd O
  unasked_in (acts.SetConfig h key value) r v O m s = absurd O
  unasked_in (acts.SetupTunnel output input) r v O m s = absurd O
  unasked_in (acts.DropTunnel output input) r v O m s = absurd O
  unasked_in (acts.SendCommand h command) r v O m s = absurd O
  unasked_in (acts.AllocateBuffer h port) r v O m s = absurd O
  unasked_in (acts.UseBuffer h port bytes) r v O m s = absurd O
  unasked_in (acts.FreeBuffer h port header) r v O m s = absurd O
  unasked_in (acts.EmptyThisBuffer h port header) r v O m s = absurd O
  unasked_in (acts.FillThisBuffer h port header) r v O m s = absurd O
  unasked_in acts.Grant r v O m s = absurd O
  unasked_in acts.Preempt r v O m s = absurd O
  unasked_in _ _ v O m s = absurd s

  pub one_taken : (a : Act) (r : Reply) (v : World) (j : Cursor) → Meets w a → Step w a r v → IsAllowed x k (inside w) a j → HasTaken x k recent p j w v
  one_taken a r v j m s A = elim A [
    | inl O ↦ subst (λ (i : Cursor). HasTaken x k recent p i w v) (sym O.1) (unasked_in a r v O.0 m s)
    | inr B ↦ beside a r v j (asked_beside x k (inside w) a j B) m s (inr B)
  ]

-- ---- a history

pub all_taken : (x : PlayCast) (steps : List (Act × Reply)) (k : Cursor) (recent : ℕ) (p : Play) (w : World) (j : Cursor) (v : World) → IsTaken x k recent p w → IsPlayHistory x k w steps j v → HasTaken x k recent p j w v
all_taken x [] k recent p w j v D (e, f) =
    subst (λ (i : Cursor). HasTaken x k recent p i w v) (sym e) (subst (λ (u : World). HasTaken x k recent p k w u) (sym f) (record { recent = recent; now = p; taken = D; goes = goes_nowhere (x.cast).layout k recent p; streams = λ c H. H }))
all_taken x (step ∷ steps) k recent p w j v D (i, mid, m, s, A, rest) =
    let B = one_taken x k recent p w D step.0 step.1 mid i m s A in
    let C = all_taken x steps i B.recent B.now mid j v B.taken rest in
    record {
      recent = C.recent;
      now = C.now;
      taken = C.taken;
      goes = goes_through (x.cast).layout k recent p i B.recent B.now j C.recent C.now B.goes C.goes;
      streams = λ c H. C.streams c (B.streams c H);
    }

-- ---- where nothing was asked

all_in : (cs : List Component) → ((i : ℕ) (c : Component) → slice_get cs i ≡ Some c → c.client_out ≡ false) → map taken_in cs ≡ cs
all_in [] h = refl
all_in (c ∷ cs) h =
    let o = h 0 c refl in
    let r = all_in cs (λ i d e. h (suc i) d e) in
    λ i. record c { client_out = sym o i } ∷ r i

pub inside_same : (w : World) → ((i : ℕ) (c : Component) → slice_get w.components i ≡ Some c → c.client_out ≡ false) → inside w ≡ w
inside_same w h = let cs = all_in w.components h in λ i. record w { components = cs i }

pub begins_taken : (x : PlayCast) (recent : ℕ) (w : World) → IsPlayWorld x recent opening w → IsWaiting (x.cast).layout opening → IsClosed w → ((i : ℕ) (c : Component) → slice_get w.components i ≡ Some c → c.client_out ≡ false)
    → IsTaken x (nothing_asked x.cast) recent opening w
begins_taken x recent w W N Z h =
    record { played = subst (λ (u : World). IsPlayed x (nothing_asked x.cast) recent opening u) (sym (inside_same w h)) (begins_played x recent w W N Z); closed = Z }
