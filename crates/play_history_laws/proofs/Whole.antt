-- From the second Idle on no part has failed.
use Rattle.std.proofs.Common.{◌≡◌, ◌⊎◌, inl, inr, ℕ, ◌+◌, ◌≤◌, Bool, true, false, not, ◌&&◌, nat_le, List, [], ◌∷◌, refl, sym, ◌∙◌, ap, subst, leb-true, leb-false, arith}
use Rattle.il_machine.specs.Acts.{Act, Reply}
use Rattle.il_machine.specs.Acts as acts
use Rattle.il_machine.specs.Components.{progress_answer}
use Rattle.il_machine.specs.Run.{Meets, Step}
use Rattle.il_machine.specs.World.{Stream, World}
use Rattle.machine_laws.proofs.Finding.{either}
use Rattle.history_laws.proofs.WorkSteps.{back_of}
use Rattle.play_model.specs.Play.{Play}
use Rattle.play_model.proofs.Reaching.{ended_from}
use Rattle.play_world_laws.specs.Cast.{components_of}
use Rattle.play_world_laws.specs.Worlds.{IsBeforeRest}
use Rattle.play_world_laws.specs.PlayWorlds.{PlayCast}
use Rattle.read_world_laws.specs.Inside.{inside, taken_in}
use Rattle.read_world_laws.specs.Mended.{mend, mended}
use Rattle.play_history_laws.specs.Following.{IsPlayed}
use Rattle.play_history_laws.specs.Histories.{IsUnasked}
use Rattle.play_history_laws.specs.Order.{Begins, Cursor, IsAsked}
use Rattle.play_history_laws.proofs.Told.{can_begin}
use Rattle.play_history_laws.proofs.Taken.{asked_beside}
use Rattle.play_history_laws.proofs.Unasked.{looked_stays}
use Rattle.play_history_laws.specs.Faults.{IsAnyAllowed, IsFailedStep, IsFaultHistory, IsFaulty, NoneFailed}
use Rattle.play_history_laws.proofs.FaultAsking.{asked_so}
use Rattle.play_history_laws.proofs.StreamsKept.{seated}
use Rattle.play_history_laws.proofs.Staying.{KeepsFailed, beside_stay, ends_stay, stay_same, takes_stay}
use Rattle.play_history_laws.proofs.Faulty.{one_faulty}
use Rattle.il_machine.specs.Stepping.{WorkDone}

none_on : (w v : World) → KeepsFailed w v → NoneFailed w → NoneFailed v
none_on w v K N i d e = let k = K i d e in k.2 ∙ N i k.0 k.1

not_failed : (e f : Bool) → (e && not f) ≡ true → f ≡ false
not_failed true true h = absurd cc
not_failed true false h = refl
not_failed false f h = absurd cc

module _ (x : PlayCast) (k : Cursor) (recent : ℕ) (p : Play) (ss : List Stream) (w : World) (D : IsFaulty x k recent p ss w) where
  abbrev u : World
  u = inside (mend ss w)

  abbrev P : IsPlayed x k recent p u
  P = (D.taken).played

  -- where the second Idle begins all have ended
  none_begun : (a : Act) (j : Cursor) → Begins x.cast k u a j → k.phase ≡ 2 → NoneFailed w
  none_begun a j G e i c g =
      let B = can_begin x recent p u P.play k P.follows G.more G.done G.changed G.ends in
      let two : p.phase ≡ 2 = (P.follows).phase ∙ e in
      let s = seated x k recent p ss w P i c g in
      let A = (P.play).actors s.number (taken_in (mended c)) s.below s.there in
      let rest : IsBeforeRest p s.number = ((λ t. absurd (omega arith)), omega arith) in
      let over = ended_from (x.cast).layout p (P.play).reached two (B.ends two) (components_of x.cast) s.number (omega arith) s.below in
      not_failed c.part.ended c.part.failed ((A.part).ended rest ∙ over)

  -- from then on no work is out
  none_back : (done : WorkDone) (v : World) → 3 ≤ k.phase → Meets w (acts.Finish done) → Step w (acts.Finish done) acts.Finished v → ⊥
  none_back done v l m s =
      let b = back_of w done v m s in
      let t = seated x k recent p ss w P b.0 b.1 (b.3).there in
      let A = (P.play).actors t.number (taken_in (mended b.1)) t.below t.there in
      let K = A.work b.2 (b.3).out in
      let two = K.phase in
      let same = (P.follows).phase in
      omega arith

  unasked_whole : (a : Act) (r : Reply) (v : World) → 3 ≤ k.phase → IsUnasked a → Meets w a → Step w a r v → KeepsFailed w v
  unasked_whole (acts.RunCommand h) r v l O m s = (beside_stay w (acts.RunCommand h) r v tt s).failed
  unasked_whole (acts.Claim h) r v l O m s = (beside_stay w (acts.Claim h) r v tt s).failed
  unasked_whole (acts.Finish done) acts.Finished v l O m s = absurd (none_back done v l m s)
  unasked_whole (acts.Supply h port) r v l O m s = (beside_stay w (acts.Supply h port) r v tt s).failed
  unasked_whole (acts.Release h port) r v l O m s = (beside_stay w (acts.Release h port) r v tt s).failed
  unasked_whole (acts.HandOver h port) r v l O m s = (beside_stay w (acts.HandOver h port) r v tt s).failed
  unasked_whole (acts.HandBack h port) r v l O m s = (beside_stay w (acts.HandBack h port) r v tt s).failed
  unasked_whole (acts.TakeNote h) (acts.Took result) v l O m s = (takes_stay w h result v s).failed
  unasked_whole (acts.EndNote h progress) acts.Ended v l O m s = (ends_stay w h v s).failed
  unasked_whole (acts.Progress h) (acts.Progressed result) v l O m s = (let e = looked_stays (progress_answer h w) w v D.closed s.1 in (stay_same w v (ap (λ (z : World). z.streams) e) (ap (λ (z : World). z.components) e)).failed)
  unasked_whole (acts.GetHandle name) r v l O m s = absurd O
  unasked_whole (acts.FreeHandle h) r v l O m s = absurd O
  unasked_whole (acts.Attach h file) r v l O m s = absurd O
  unasked_whole (acts.GetState h) r v l O m s = absurd O
  unasked_whole (acts.PortView h port) r v l O m s = absurd O
  unasked_whole (acts.GetParameter h key) r v l O m s = absurd O
  unasked_whole (acts.GetConfig h key) r v l O m s = absurd O
  unasked_whole (acts.SetParameter h key value) r v l O m s = absurd O
  unasked_whole (acts.SetConfig h key value) r v l O m s = absurd O
  unasked_whole (acts.SetupTunnel output input) r v l O m s = absurd O
  unasked_whole (acts.DropTunnel output input) r v l O m s = absurd O
  unasked_whole (acts.SendCommand h command) r v l O m s = absurd O
  unasked_whole (acts.AllocateBuffer h port) r v l O m s = absurd O
  unasked_whole (acts.UseBuffer h port bytes) r v l O m s = absurd O
  unasked_whole (acts.FreeBuffer h port header) r v l O m s = absurd O
  unasked_whole (acts.EmptyThisBuffer h port header) r v l O m s = absurd O
  unasked_whole (acts.FillThisBuffer h port header) r v l O m s = absurd O
  unasked_whole acts.Grant r v l O m s = absurd O
  unasked_whole acts.Preempt r v l O m s = absurd O
  unasked_whole _ _ v l O m s = absurd s

  asked_whole : (a : Act) (j : Cursor) → IsAsked x k u a j → (3 ≤ k.phase → NoneFailed w) → 3 ≤ j.phase → NoneFailed w
  asked_whole a j A N l = elim A [
    | inl G ↦ N (let e : j.phase ≡ k.phase = ap (λ (z : Cursor). z.phase) G.after in omega arith)
    | inr R ↦ elim R [
      | inl G ↦ elim (ways k.phase (let e : j.phase ≡ k.phase + 1 = ap (λ (z : Cursor). z.phase) G.after in omega arith)) [
        | inl m ↦ N m
        | inr two ↦ none_begun a j G two
      ]
      | inr Q ↦ elim Q [
        | inl G ↦ N (let e : j.phase ≡ k.phase = ap (λ (z : Cursor). z.phase) G.after in omega arith)
        | inr G ↦ N (let e : j.phase ≡ k.phase = ap (λ (z : Cursor). z.phase) G.after in omega arith)
      ]
    ]
  ]
    where
      ways : (n : ℕ) → 2 ≤ n → (3 ≤ n) ⊎ (n ≡ 2)
      ways n l = either (nat_le 3 n) (λ t. inl (leb-true 3 n t)) (λ f. let m = leb-false 3 n f in inr (omega arith))

  failed_whole : (a : Act) (r : Reply) (v : World) → 3 ≤ k.phase → IsFailedStep a → Meets w a → Step w a r v → ⊥
  failed_whole (acts.Finish done) acts.Finished v l O m s = none_back done v l m s
  failed_whole (acts.Finish done) _ v l O m s = absurd s
  failed_whole _ r v l O m s = absurd O

  -- it stays so over each act
  pub whole_on : (a : Act) (r : Reply) (v : World) (j : Cursor) → Meets w a → Step w a r v → IsAnyAllowed x k (inside (mend w.streams w)) a j → (3 ≤ k.phase → NoneFailed w) → 3 ≤ j.phase → NoneFailed v
  whole_on a r v j m s A N l = elim A [
    | inl O ↦
        let e : j.phase ≡ k.phase = ap (λ (z : Cursor). z.phase) O.1 in
        let n : 3 ≤ k.phase = omega arith in
        elim O.0 [
          | inl U ↦ none_on w v (unasked_whole a r v n U m s) (N n)
          | inr F ↦ absurd (failed_whole a r v n F m s)
        ]
    | inr B ↦ none_on w v (beside_stay w a r v (asked_beside x k (inside (mend w.streams w)) a j B) s).failed (asked_whole a j (asked_so x (inside (mend w.streams w)) ss k a j B) N l)
  ]

-- and so over each history
pub all_whole : (x : PlayCast) (steps : List (Act × Reply)) (k : Cursor) (recent : ℕ) (p : Play) (ss : List Stream) (w : World) (j : Cursor) (v : World) → IsFaulty x k recent p ss w → IsFaultHistory x k w steps j v → (3 ≤ k.phase → NoneFailed w) → 3 ≤ j.phase → NoneFailed v
all_whole x [] k recent p ss w j v D (e, f) N l = subst NoneFailed (sym f) (N (let s : j.phase ≡ k.phase = ap (λ (z : Cursor). z.phase) e in omega arith))
all_whole x (step ∷ steps) k recent p ss w j v D (i, mid, m, s, A, rest) N l =
    let B = one_faulty x k recent p ss w D step.0 step.1 mid i m s A in
    all_whole x steps i B.recent B.now B.later mid j v B.faulty rest (λ n. whole_on x k recent p ss w D step.0 step.1 mid i m s A N n) l
