-- Steps whose requests are a front of all that is asked, in time, are a history of the play.
use Rattle.std.proofs.Common.{◌≡◌, ◌⊎◌, inl, inr, ℕ, ◌≤◌, false, List, [], ◌∷◌, ◌++◌, length, Option, Some, None, refl, sym, ◌∙◌, ap, subst, append-nil, append_assoc, arith}
use Rattle.std.specs.Prelude.{flat_map}
use Rattle.omx_types.specs.declared.handle.Handle.{Handle}
use Rattle.omx_types.specs.declared.fault.PartFault.{PartFault}
use Rattle.il_machine.specs.Acts.{Act, Reply}
use Rattle.il_machine.specs.Acts as acts
use Rattle.il_machine.specs.Run.{Meets, Run, Step}
use Rattle.il_machine.specs.World.{World}
use Rattle.machine_laws.proofs.Finding.{either}
use Rattle.play_build_laws.specs.Stages.{IsStage, Joining}
use Rattle.play_forms.specs.Plans.{PlanValue}
use Rattle.play_world_laws.specs.PlayWorlds.{PlayCast}
use Rattle.play_plan_laws.specs.Assemblies.{IsReady, PlayFiles, assembly_of, play_cast_of}
use Rattle.play_result_laws.specs.Asked.{Asking, acts_of, askings, tuned}
use Rattle.play_history_laws.specs.Histories.{IsUnasked}
use Rattle.play_history_laws.specs.Order.{Cursor, nothing_asked}
use Rattle.play_history_laws.specs.Faults.{IsAnyAllowed, IsFailedStep, IsFaultHistory}
use Rattle.play_history_laws.specs.Askings.{IsPlanHistory, read_of}
use Rattle.play_history_laws.specs.Requests.{AreRequested, is_request, is_request_act, requests}
use Rattle.play_history_laws.proofs.Askings.{many}
use Rattle.play_result_laws.proofs.ListFronts.{kept_at, kept_not}
use Rattle.play_history_laws.proofs.Places as places
use Rattle.play_history_laws.proofs.RequestWalk.{asked_next}

-- what is no request needs no asking
pub unrequested : (a : Act) → is_request_act a ≡ false → IsUnasked a ⊎ IsFailedStep a
unrequested (acts.RunCommand h) t = inl tt
unrequested (acts.Claim h) t = inl tt
unrequested (acts.Finish done) t = by done.fault refl
  where
    by : (o : Option PartFault) → done.fault ≡ o → (done.fault ≡ None) ⊎ ((fault : PartFault) × (done.fault ≡ Some fault))
    by None e = inl e
    by (Some fault) e = inr (fault, e)
unrequested (acts.Supply h port) t = inl tt
unrequested (acts.Release h port) t = inl tt
unrequested (acts.HandOver h port) t = inl tt
unrequested (acts.HandBack h port) t = inl tt
unrequested (acts.TakeNote h) t = inl tt
unrequested (acts.EndNote h progress) t = inl tt
unrequested (acts.Progress h) t = inl tt
unrequested _ t = absurd cc

-- a history goes on by one act
pub history_on : (x : PlayCast) (steps : List (Act × Reply)) (k : Cursor) (w : World) (j : Cursor) (v : World) → IsFaultHistory x k w steps j v
    → (step : Act × Reply) (i : Cursor) (u : World) → Meets v step.0 → Step v step.0 step.1 u → IsAnyAllowed x j (read_of v) step.0 i → IsFaultHistory x k w (steps ++ step ∷ []) i u
history_on x [] k w j v (e, f) step i u m s A = (
  i,
  u,
  subst (λ (y : World). Meets y step.0) f m,
  subst (λ (y : World). Step y step.0 step.1 u) f s,
  subst (λ (c : Cursor). IsAnyAllowed x c (read_of w) step.0 i) e (subst (λ (y : World). IsAnyAllowed x j (read_of y) step.0 i) f A),
  (refl, refl),
)
history_on x (one ∷ steps) k w j v (b, mid, m0, s0, A0, rest) step i u m s A = (b, mid, m0, s0, A0, history_on x steps b mid j v rest step i u m s A)

module _ (plan : PlanValue) (files : PlayFiles) (handles : List Handle) (w : World) (ready : IsReady plan files) (stage : IsStage (assembly_of plan files) (Joining (length plan.joints)) handles w)
    (links : List ℕ) (left steps : List (Act × Reply)) (R : AreRequested (tuned plan files) handles links left steps) (v : World) where
  abbrev x : PlayCast
  x = play_cast_of plan

  abbrev all : List Asking → List (Act × Reply)
  all list = flat_map (acts_of (tuned plan files) handles) list

  -- how far the history leads
  record IsGone (before : List (Act × Reply)) (mid : World) : Type 0 where
    cursor : Cursor
    goes : IsFaultHistory x (nothing_asked x.cast) w before cursor mid
    place : places.IsPlace plan files handles links before cursor

  one_on : (before after : List (Act × Reply)) (step : Act × Reply) (mid u : World) → steps ≡ before ++ step ∷ after → Meets mid step.0 → Step mid step.0 step.1 u → IsGone before mid → IsGone (before ++ step ∷ []) u
  one_on before after step mid u e m s G = either (is_request step)
      (λ t.
      let more : List (Act × Reply) = requests after ++ left in
      let made : requests before ++ step ∷ more ≡ all (askings links) =
      sym (append_assoc (requests before) (step ∷ requests after) left)
      ∙ (ap (λ (ys : List (Act × Reply)). ys ++ left) (sym (ap requests e ∙ kept_at is_request before after step t)) ∙ R.made) in
      let N = asked_next plan files handles links R.late steps before after more step R.timely e t made w G.cursor mid (record { ready = ready; stage = stage; goes = G.goes }) G.place in
      record { cursor = N.next; goes = history_on x before (nothing_asked x.cast) w G.cursor mid G.goes step N.next u m s (inr N.asks); place = N.place })
      (λ t.
      let same = kept_not is_request before step t in
      record {
        cursor = G.cursor;
        goes = history_on x before (nothing_asked x.cast) w G.cursor mid G.goes step G.cursor u m s (inl (unrequested step.0 t, refl));
        place = places.stays plan files handles links before (before ++ step ∷ []) G.cursor same G.place;
      })

  on : (before after : List (Act × Reply)) (mid : World) → steps ≡ before ++ after → Run mid after v → IsGone before mid → IsGone steps v
  on before [] mid e r G =
      let same : before ≡ steps = sym (append-nil before) ∙ sym e in
      subst (λ (y : World). IsGone steps y) (sym r) (subst (λ (ys : List (Act × Reply)). IsGone ys mid) same G)
  on before (step ∷ after) mid e (u, m, s, rest) G =
      on (before ++ step ∷ []) after u (e ∙ sym (append_assoc before (step ∷ []) after)) rest (one_on before after step mid u e m s G)

  gone : Run w steps v → IsGone steps v
  gone r = on [] steps w refl r (record { cursor = nothing_asked x.cast; goes = (refl, refl); place = inl (refl, refl) })

  pub requested_history : Run w steps v → (cursor : Cursor) × IsPlanHistory plan files handles w steps cursor v × (left ≡ [] → 1 ≤ length plan.parts → cursor.phase ≡ 4)
  requested_history r =
      let G = gone r in
      let H : IsPlanHistory plan files handles w steps G.cursor v = record { ready = ready; stage = stage; goes = G.goes } in
      let m = many plan files handles w steps G.cursor v H in
      (G.cursor, H, λ none some. places.all_made plan files handles links (omega (arith, m, some)) steps G.cursor G.place (ap (λ (ys : List (Act × Reply)). requests steps ++ ys) (sym none) ∙ R.made))
