-- A play is over exactly where the fourth state was begun and each component has told Loaded last.
use Rattle.std.proofs.Common.{◌≡◌, ◌≢◌, ◌<◌, ℕ, true, false, nat_eq, length, sym, ◌∙◌, ap, subst, eqb-true, eq-eqb, arith}
use Rattle.omx_types.specs.declared.state.State.TheVariants.{Loaded}
use Rattle.il_machine.specs.declared.answer.Progress.{Progress}
use Rattle.conductor.specs.Phases.{is_at}
use Rattle.play_model.specs.Play.{Play}
use Rattle.play_model.specs.Reached.{IsOver}
use Rattle.play_world_laws.specs.Cast.{components_of, script_place}
use Rattle.play_world_laws.specs.Telling.{heard, last_told}
use Rattle.play_world_laws.proofs.ChangeEnds.{actor_there}
use Rattle.play_plan_laws.proofs.Conducting.{told_stage}
use Rattle.play_plan_laws.specs.Assemblies.{play_cast_of}
use Rattle.play_run.specs.Playing.{IsPlaying, IsProgressAt, IsStanding, PlayingValue, cast, layout_of}
use Rattle.play_run.specs.Sending.{IsLoadedAt}
use Rattle.play_run.proofs.Hearing.{client_there, heard_is}

module _ {S K : Type 0} where
  -- what the component of that turn has told is that of its stage
  loaded_is : (x : PlayingValue S K) (p : Play) (Z : IsStanding x p) (c : ℕ) → c < components_of (cast x.plan) → p.phase ≡ 4 → (progress : Progress) → IsProgressAt x.graph (script_place (cast x.plan) c) progress → is_at Loaded progress.state ≡ nat_eq (p.stage c) 4
  loaded_is x p Z c b four progress P =
      let W = (Z.conducted).play in
      let w = Z.world in
      let a = actor_there (play_cast_of x.plan) Z.recent p w c W b in
      let told : progress ≡ heard w a.0 = P w Z.stands a.0 a.1 ∙ sym (heard_is w a.0 (client_there x p Z c b a.0 a.1)) in
      let state : progress.state ≡ last_told 4 (p.stage c) = ap (λ (q : Progress). q.state) told ∙ (((a.2).heard_so).state ∙ ap (λ (k : ℕ). last_told k (p.stage c)) four) in
      ap (is_at Loaded) state ∙ told_stage 4 (p.stage c) (omega arith) (omega arith) ((W.reached).stage c b)

  pub all_loaded : (x : PlayingValue S K) → (x.conductor).sends ≡ 4 → ((place : ℕ) → place < length x.plan.parts → IsLoadedAt x.graph place) → (p : Play) → IsPlaying x p → IsOver (layout_of x.plan) p
  all_loaded x four loaded p Y =
      let Z = Y.standing in
      let phase : p.phase ≡ 4 = sym ((Z.conducted).conducting).sends ∙ four in
      record {
        phase = phase;
        all = λ c b.
            let L = loaded (script_place (cast x.plan) c) (((Z.conducted).play).cast_is.placed c b) in
            eqb-true (p.stage c) 4 (sym (loaded_is x p Z c b phase L.0 L.1) ∙ L.2);
      }

  pub too_early : (x : PlayingValue S K) → (x.conductor).sends ≢ 4 → (p : Play) → IsPlaying x p → IsOver (layout_of x.plan) p → ⊥
  too_early x early p Y over = early (((Y.standing).conducted).conducting.sends ∙ over.phase)

  pub one_unloaded : (x : PlayingValue S K) (place : ℕ) (progress : Progress) → place < length x.plan.parts → IsProgressAt x.graph place progress → is_at Loaded progress.state ≡ false → (p : Play) → IsPlaying x p → IsOver (layout_of x.plan) p → ⊥
  one_unloaded x place progress b P f p Y over =
      let Z = Y.standing in
      let k = ((Z.conducted).play).cast_is.each place b in
      let is = loaded_is x p Z k.0 k.1 over.phase progress (subst (λ (n : ℕ). IsProgressAt x.graph n progress) (sym k.2) P) in
      let t : nat_eq (p.stage k.0) 4 ≡ true = eq-eqb (p.stage k.0) 4 (over.all k.0 k.1) in
      absurd cc
