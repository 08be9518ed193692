-- A component runs the StateSet that is queued at it.
use Rattle.std.proofs.Common.{◌≡◌, ◌≢◌, inl, inr, ℕ, ◌<◌, ◌≤◌, true, false, cond, ◌++◌, slice_get, Some, None, Result, Ok, refl, sym, ◌∙◌, ap, subst, arith}
use Rattle.std.proofs.lemmas.Bool.{cases_eq}
use Rattle.omx_types.specs.declared.error.OmxError.{OmxError}
use Rattle.omx_types.specs.declared.handle.Handle.{Handle}
use Rattle.il_machine.specs.declared.answer.Acted.{Acted}
use Rattle.il_machine.specs.declared.answer.Acted.TheVariants as acted_as
use Rattle.il_machine.specs.Answers.{Acts, plain}
use Rattle.il_machine.specs.Commands.{RunCommand, run_front, run_idle}
use Rattle.il_machine.specs.Finishing.{end_note}
use Rattle.il_machine.specs.Look.{look}
use Rattle.il_machine.specs.Sound.{Sound}
use Rattle.il_machine.specs.Units.{free_units, need_of, units_of}
use Rattle.il_machine.specs.World.{Component, World, with_component}
use Rattle.machine_laws.proofs.Change.{out_there, sound_taking_units}
use Rattle.machine_laws.proofs.Keys.{none_or_some}
use Rattle.machine_laws.proofs.Parts.{parts_of}
use Rattle.machine_laws.proofs.Running.{change_run, fair_run, sound_run}
use Rattle.machine_laws.proofs.Units.{held_by, held_is, resources_of}
use Rattle.play_model.specs.Acts.{Act, CanAct, acted}
use Rattle.play_model.specs.Play.{Play}
use Rattle.play_model.proofs.Handing.{act_reaches}
use Rattle.play_world_laws.specs.Cast.{components_of, script_place}
use Rattle.play_world_laws.specs.Standing.{commands_at, standing}
use Rattle.play_world_laws.specs.Telling.{heard, state_note}
use Rattle.play_world_laws.specs.Worlds.{Names, ends_untold}
use Rattle.play_world_laws.proofs.Lists.{resolved, sum_spare}
use Rattle.play_world_laws.proofs.Runs.{did}
use Rattle.play_world_laws.proofs.Sends.{stage_else, stage_here}
use Rattle.play_world_laws.proofs.Stages.{ran, run_goes, run_is, run_stands, run_told}
use Rattle.play_world_laws.specs.PlayWorlds.{IsActorAt, IsPlayWorld, PlayCast, port_commands, port_notes, settings_notes}
use Rattle.play_world_laws.specs.Leading.{PlayLeadsTo}
use Rattle.play_world_laws.proofs.ChangeEnds.{actor_there}
use Rattle.play_world_laws.proofs.Kept.{IsGoingOn, actor_goes_on, kept}
use Rattle.play_world_laws.proofs.Calm.{appended, no_commands, stands_so}
use Rattle.play_world_laws.proofs.StageSends.{heard_on}

held_below : (c : Component) → held_by c ≤ need_of c
held_below c = elim c.holds as (λ b. cond b (need_of c) 0 ≤ need_of c) [ true ↦ omega arith | false ↦ omega arith ]

module _ (x : PlayCast) (recent : ℕ) (p : Play) (w : World) (W : IsPlayWorld x recent p w) (c : ℕ) (l : c < components_of x.cast) (z : p.stage c ≡ 1) (a : Component) (e : slice_get w.components (script_place x.cast c) ≡ Some a) where
  abbrev i : ℕ
  i = script_place x.cast c

  A : IsActorAt x recent p w c a
  A = W.actors c a l e

  early : p.stage c ≢ 4
  early h = omega arith

  stood : a ≡ standing p.phase 1 a
  stood = subst (λ (k : ℕ). a ≡ standing p.phase k a) z (stands_so x recent p w W c l a e A early)

  no_work : a.work ≡ None
  no_work = elim (none_or_some a.work) [
    | inl n ↦ n
    | inr k ↦ let K = A.work k.0 k.1 in let s = K.stage in absurd (omega arith)
  ]

  pub goes : run_idle a a.commands ≡ None
  goes = run_goes p.phase a stood

  begun_phase : 1 ≤ p.phase
  begun_phase = elim (cases_eq p.phase 0) [
    | inl n ↦ let f = (W.reached).first n c l in absurd (omega (arith, f, z))
    | inr n ↦ omega arith
  ]

  -- on the first way to Idle it holds no units yet, so there are enough for it
  enough : p.phase ≡ 1 → units_of a.settings.kind ≤ free_units (look w)
  enough one =
      let h : a.holds ≡ false = ap (λ (y : Component). y.holds) stood ∙ rw one refl in
      let n : held_by a ≡ 0 = rw h refl in
      let s = sum_spare held_by need_of w.components i a e n held_below in
      let k = held_is w.components in
      let u = W.units in
      omega arith

  pub is_ran : run_front (look w) a.commands a ≡ ran p.phase a
  is_ran = run_is (look w) p.phase a stood begun_phase (W.reached).phase (A.set_for).fit enough

  abbrev b : Component
  b = ran p.phase a

  abbrev q : Play
  q = acted (x.cast).layout (Act.Run c) p

  two : q.stage c ≡ 2
  two = stage_here p c 2

  abbrev v : World
  v = with_component i b w

  sound : Sound v
  sound = subst (λ (y : Component). Sound (with_component i y w)) is_ran
      (sound_taking_units w i a (run_front (look w) a.commands a) W.sound e (change_run (look w) a) (sound_run (look w) a ((parts_of w W.sound).components i a e) goes)
      (fair_run (look w) w.waits a ((resources_of w W.sound).each i a e) (out_there w i a W.sound e) goes))

  going : IsGoingOn x recent p q.stage p.told w v c a b
  going =
      let cs = no_commands x recent p w W c l a e A early in
      let there : b ≡ standing p.phase 2 b = run_stands p.phase a stood in
      record {
        handle = refl;
        settings = refl;
        file = refl;
        part = refl;
        keeps_told = λ h. h;
        stands = there ∙ (λ t. record (standing p.phase (sym two t) b) { commands = (appended (commands_at p.phase 2) (port_commands x.cast p c) cs ∙ ap (λ (k : ℕ). commands_at p.phase k ++ port_commands x.cast p c) (sym two)) t });
        notes = A.notes ∙ (λ t. state_note p.phase (z t) ++ (settings_notes x.cast p c ++ (port_notes x.cast p c ++ end_note (ends_untold x.cast p c)))) ∙ (λ t. state_note p.phase (sym two t) ++ (settings_notes x.cast p c ++ (port_notes x.cast p c ++ end_note (ends_untold x.cast p c))));
        heard_so = heard_on x recent p q.stage c (heard w a) (rw (two, z) (run_told p.phase)) A.heard_so;
        out = A.out;
        work = λ work f. let n : None ≡ Some work = sym no_work ∙ f in absurd cc;
        before = λ B. ((λ h. omega (arith, z)), B.1);
        ran = λ h. omega (arith, z);
      }

  pub run_plays : IsPlayWorld x recent q v
  run_plays = kept x recent p q.stage p.told w v c a b W (record {
    inside = l;
    there = e;
    components = refl;
    headers = refl;
    made = refl;
    units = refl;
    streams = refl;
    given = λ n f. refl;
    handle = refl;
    settings = refl;
    ports = refl;
    works = λ port. refl;
    stage_else = λ k n. stage_else p c k 2 n;
    told_else = λ k n. refl;
  }) (act_reaches (x.cast).layout p (Act.Run c) W.reached (l, z)) sound (actor_goes_on x recent p q.stage p.told w v c a b refl going A)

pub run_leads : (x : PlayCast) (recent : ℕ) (p : Play) (w : World) (c : ℕ) (h : Handle) (result : Result Acted OmxError) (v : World) → IsPlayWorld x recent p w → CanAct (x.cast).layout p (Act.Run c) → Names x.cast w c h → RunCommand w h result v
    → (result ≡ Ok acted_as.Did) × PlayLeadsTo x recent (acted (x.cast).layout (Act.Run c) p) v
run_leads x recent p w c h result v W C N s =
    let i : ℕ = script_place x.cast c in
    let a = actor_there x recent p w c W C.0 in
    let u : World = with_component i (run_front (look w) (a.0).commands a.0) w in
    let r = resolved plain w h result v (λ i d. Acts (run_idle d d.commands) result w (with_component i (run_front (look w) d.commands d) w) v) i a.0 N a.1 s in
    let t = did (run_idle a.0 (a.0).commands) result w u v (goes x recent p w W c C.0 C.1 a.0 a.1) r in
    (t.0, record { effect = u; play = subst (λ (y : Component). IsPlayWorld x recent (acted (x.cast).layout (Act.Run c) p) (with_component i y w)) (sym (is_ran x recent p w W c C.0 C.1 a.0 a.1)) (run_plays x recent p w W c C.0 C.1 a.0 a.1); closes = t.1 })
