-- What the conductor of a play knows between two of its rounds: no more than is so, or that a step has failed.
use Rattle.std.proofs.Common.{◌≡◌, ◌⊎◌, inl, inr, ℕ, zero, suc, ◌<◌, ◌≤◌, true, false, List, length, slice_get, Some, is_some, refl, sym, ◌∙◌, ap, subst, arith}
use Rattle.std.specs.Prelude.{replicate}
use Rattle.std.proofs.lemmas.Bool.{cases_lt}
use Rattle.omx_types.specs.declared.handle.Handle.{Handle}
use Rattle.il_machine.specs.declared.answer.Progress.{Progress}
use Rattle.il_machine.specs.Components.{no_progress}
use Rattle.il_machine.specs.World.{World}
use Rattle.conductor.specs.Casting as conductors
use Rattle.conductor.specs.Hearing.{ConductorValue}
use Rattle.play_build_laws.specs.Stages.{IsStage, Joining}
use Rattle.play_forms.specs.Plans.{PlanValue}
use Rattle.play_model.specs.Changes.{Change}
use Rattle.play_model.specs.Play.{Play}
use Rattle.play_world_laws.specs.Cast.{links_of, script_place}
use Rattle.play_world_laws.specs.Changing.{is_joined_at}
use Rattle.play_world_laws.specs.Openings.{opening}
use Rattle.play_world_laws.specs.PlayWorlds.{IsPlayWorld, PlayCast}
use Rattle.play_plan_laws.specs.Assemblies.{IsReady, PlayFiles, assembly_of, play_cast_of}
use Rattle.play_turn_laws.specs.Conducting.{IsCarriedOut}
use Rattle.play_turn_laws.proofs.Casting.{plan_begins}
use Rattle.read_world_laws.specs.Inside.{inside}
use Rattle.read_world_laws.specs.Mended.{mend}
use Rattle.play_history_laws.specs.Following.{GoesTo, IsLeft}
use Rattle.play_history_laws.specs.Order.{Cursor, nothing_asked}
use Rattle.play_history_laws.specs.Behind.{IsOld}
use Rattle.play_history_laws.proofs.ViewsKept.{old_stays}
use Rattle.play_history_laws.proofs.PlanOpening.{plan_faulty}
use Rattle.play_history_laws.proofs.Looking.{IsBroken}
use Rattle.play_history_laws.proofs.PassWalk.{IsOn}

-- ---- tunnels

joined_few : (n : ℕ) → n ≤ 2 → is_joined_at n ≡ true
joined_few zero b = refl
joined_few (suc zero) b = refl
joined_few (suc (suc zero)) b = refl
joined_few (suc (suc (suc n))) b = absurd (omega (arith, b))

joined_left : (k j : Change) → IsLeft k j → is_joined_at k.step ≡ true → is_joined_at j.step ≡ true
joined_left k j F t = elim (cases_lt k.step 3) [
  | inl b ↦ joined_few j.step (F.few (omega (arith, b)))
  | inr m ↦ ap is_joined_at (F.more m) ∙ t
]

joined_out : (steps acts : ℕ) → IsCarriedOut steps acts → is_joined_at acts ≡ true
joined_out zero acts O = joined_few acts O
joined_out (suc zero) acts O = ap is_joined_at O
joined_out (suc (suc zero)) acts O = ap is_joined_at O
joined_out (suc (suc (suc zero))) acts O = ap is_joined_at O
joined_out (suc (suc (suc (suc n)))) acts O = absurd O

abbrev pub AreJoined : PlayCast → Play → Type 0
AreJoined x p = (l : ℕ) → l < links_of x.cast → ((x.cast).layout).is_late l ≡ true → is_joined_at (p.change l).step ≡ true

-- each step that it answered is carried out
pub joined_old : (x : PlayCast) (r : ℕ) (p : Play) (value : ConductorValue) → IsOld x.cast r p value → AreJoined x p
joined_old x r p value V l b t =
    let s = ((V.conducting).lates).some l b t in
    joined_out (s.1).steps (p.change l).step (V.carried s.0 l s.1 s.2 (s.3).of_link)

-- ---- what it knows

replicated : (n i : ℕ) (h : Progress) → i < n → slice_get (replicate n h) i ≡ Some h
replicated zero i h b = absurd (omega (arith, b))
replicated (suc n) zero h b = refl
replicated (suc n) (suc i) h b = replicated n i h (omega (arith, b))

-- it was told an error, which its component has told for good
pub record HasFailed (plan : PlanValue) (value : ConductorValue) (p : Play) (v : World) : Type 0 where
  pub place : ℕ
  pub below : place < length plan.parts
  pub progress : Progress
  pub there : slice_get value.told place ≡ Some progress
  pub error : is_some progress.error ≡ true
  pub broken : IsBroken place v
  pub tunnels : AreJoined (play_cast_of plan) p

pub record Holds (plan : PlanValue) (value : ConductorValue) (k : Cursor) (r : ℕ) (p : Play) (v : World) : Type 0 where
  pub sent : length plan.parts ≤ k.sent
  pub phase : k.phase ≡ value.sends
  pub knows : IsOld (play_cast_of plan).cast r p value ⊎ HasFailed plan value p v

-- where nothing is asked it knows no less
pub old_on : (x : PlayCast) (k : Cursor) (r : ℕ) (p : Play) (s : ℕ) (q : Play) (value : ConductorValue) → GoesTo (x.cast).layout k r p k s q → IsOld x.cast r p value → IsOld x.cast s q value
old_on x k r p s q value G V =
    subst (λ (n : ℕ). IsOld x.cast n q value) (sym (G.latest (λ l. refl))) (old_stays x.cast r p q value (G.later refl) (λ l. G.left l refl) V)

pub joined_on : (x : PlayCast) (k : Cursor) (r : ℕ) (p : Play) (s : ℕ) (q : Play) → GoesTo (x.cast).layout k r p k s q → AreJoined x p → AreJoined x q
joined_on x k r p s q G J l b t = joined_left (p.change l) (q.change l) (G.left l refl) (J l b t)

module _ (plan : PlanValue) where
  abbrev x : PlayCast
  x = play_cast_of plan

  abbrev pub failed_on : (value : ConductorValue) (k : Cursor) (r : ℕ) (p : Play) (v : World) (s : ℕ) (q : Play) (u : World) → IsOn x k r p v k s q u → HasFailed plan value p v → HasFailed plan value q u
  failed_on value k r p v s q u O T = record {
    place = T.place;
    below = T.below;
    progress = T.progress;
    there = T.there;
    error = T.error;
    broken = O.broken T.place T.broken;
    tunnels = joined_on x k r p s q O.goes T.tunnels;
  }

  pub holds_on : (value : ConductorValue) (k : Cursor) (r : ℕ) (p : Play) (v : World) (s : ℕ) (q : Play) (u : World) → IsOn x k r p v k s q u → Holds plan value k r p v → Holds plan value k s q u
  holds_on value k r p v s q u O H = record {
    sent = H.sent;
    phase = H.phase;
    knows = elim H.knows [
      | inl V ↦ inl (old_on x k r p s q value O.goes V)
      | inr T ↦ inr (failed_on value k r p v s q u O T)
    ];
  }

-- before its first round
pub holds_first : (plan : PlanValue) (files : PlayFiles) (handles : List Handle) (w : World) → IsReady plan files → IsStage (assembly_of plan files) (Joining (length plan.joints)) handles w
    → Holds plan (conductors.cast_of plan) (nothing_asked (play_cast_of plan).cast) 0 opening w
holds_first plan files handles w R S =
    let D = plan_begins plan (λ l. false) 0 opening R.valid refl (λ l. refl) in
    let W : IsPlayWorld (play_cast_of plan) 0 opening (inside (mend w.streams w)) = (((plan_faulty plan files handles w S 0 R).taken).played).play in
    record {
      sent = omega arith;
      phase = refl;
      knows = inl (record {
        conducting = D.0;
        told = λ c b. (
          no_progress,
          replicated (length plan.parts) (script_place (play_cast_of plan).cast c) no_progress ((W.cast_is).placed c b),
          record {
            stage = 0;
            within = omega arith;
            state = refl;
            eos = λ t. absurd cc;
            error = refl;
            settings = λ l O t s. absurd cc;
            past = λ o l m e t. ((λ f. absurd cc), (λ f. absurd cc));
          },
        );
        carried = D.1;
      });
    }
