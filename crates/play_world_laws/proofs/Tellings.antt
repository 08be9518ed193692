-- The client object is given back once the completion of the StateSet was heard.
use Rattle.std.proofs.Common.{◌≡◌, inl, inr, ℕ, ◌<◌, ◌≤◌, true, false, [], ◌∷◌, ◌++◌, slice_get, Some, refl, sym, ◌∙◌, ap, subst, arith}
use Rattle.std.proofs.lemmas.Bool.{cases_eq}
use Rattle.omx_types.specs.declared.command.Completion.TheVariants as completions
use Rattle.omx_types.specs.declared.command.Event.TheVariants.{CmdComplete}
use Rattle.omx_types.specs.declared.command.Note.{Note}
use Rattle.omx_types.specs.declared.command.Note.TheVariants as notes
use Rattle.omx_types.specs.declared.handle.Handle.{Handle}
use Rattle.il_machine.specs.declared.answer.Progress.{Progress}
use Rattle.il_machine.specs.Components.{noted_by}
use Rattle.il_machine.specs.Finishing.{end_note}
use Rattle.il_machine.specs.Notes.{EndNote, back_in}
use Rattle.il_machine.specs.Queued.{notes_given}
use Rattle.il_machine.specs.World.{Component, World, number_of, with_component}
use Rattle.machine_laws.proofs.Notices.{sound_ended}
use Rattle.play_model.specs.Acts.{Act, CanAct, acted}
use Rattle.play_model.specs.Play.{Play}
use Rattle.play_model.proofs.Handing.{act_reaches}
use Rattle.play_world_laws.specs.Cast.{components_of, script_place}
use Rattle.play_world_laws.specs.Standing.{commands_at, standing, target}
use Rattle.play_world_laws.specs.Telling.{heard, last_note, last_told, state_note}
use Rattle.play_world_laws.specs.Worlds.{Names, ends_untold}
use Rattle.play_world_laws.proofs.Notes.{ended_at, heard_back}
use Rattle.play_world_laws.proofs.Sends.{stage_else, stage_here}
use Rattle.play_world_laws.proofs.Stages.{tell_stands, told_now}
use Rattle.play_world_laws.specs.PlayWorlds.{HasHeard, IsActorAt, IsPlayWorld, PlayCast, port_commands, port_notes, settings_notes}
use Rattle.play_world_laws.specs.Leading.{PlayLeadsTo}
use Rattle.play_world_laws.proofs.Kept.{IsGoingOn, actor_goes_on, kept}
use Rattle.play_world_laws.proofs.Telling.{front}

-- ---- the completion of the StateSet is told

module _ (x : PlayCast) (recent : ℕ) (p : Play) (w : World) (W : IsPlayWorld x recent p w) (c : ℕ) (l : c < components_of x.cast) (z : p.stage c ≡ 3) (a : Component) (e : slice_get w.components (script_place x.cast c) ≡ Some a) (A : IsActorAt x recent p w c a)
    (o : a.client_out ≡ true) (n : Note) (last : last_note (notes_given (number_of a) w) ≡ n ∷ []) where
  abbrev q : Play
  q = acted (x.cast).layout (Act.Tell c) p

  abbrev b : Component
  b = back_in a

  abbrev v : World
  v = with_component (script_place x.cast c) b w

  four : q.stage c ≡ 4
  four = stage_here p c 4

  begun_phase : 1 ≤ p.phase
  begun_phase = elim (cases_eq p.phase 0) [
    | inl s ↦ let f = (W.reached).first s c l in absurd (omega (arith, f, z))
    | inr s ↦ omega arith
  ]

  split : n ∷ a.notes ≡ notes.Told (CmdComplete (completions.State (target p.phase))) ∷ (settings_notes x.cast p c ++ (port_notes x.cast p c ++ end_note (ends_untold x.cast p c)))
  split = front x recent p w c a A o n last ∙ (λ t. state_note p.phase (z t) ++ (settings_notes x.cast p c ++ (port_notes x.cast p c ++ end_note (ends_untold x.cast p c))))

  tell_heard : HasHeard x.cast recent q c (heard v b)
  tell_heard =
      let is : n ≡ notes.Told (CmdComplete (completions.State (target p.phase))) = let s = split in cc in
      let h : heard v b ≡ record (heard w a) { state = Some (target p.phase) } = heard_back w (script_place x.cast c) a n o last ∙ ap (λ (m : Note). noted_by m (heard w a)) is in
      let H = A.heard_so in
      subst (λ (u : Progress). HasHeard x.cast recent q c u) (sym h) (record {
        state = sym (ap (last_told p.phase) four ∙ told_now p.phase begun_phase);
        eos = H.eos;
        error = H.error;
        settings = H.settings;
        port = H.port;
        past = H.past;
        nothing = H.nothing;
      })

  going : IsGoingOn x recent p q.stage p.told w v c a b
  going =
      let rest : a.notes ≡ settings_notes x.cast p c ++ (port_notes x.cast p c ++ end_note (ends_untold x.cast p c)) = let s = split in cc in
      let cs : b ≡ record (standing p.phase 3 b) { commands = commands_at p.phase 3 ++ port_commands x.cast p c } =
      ap (λ (u : Component). record u { client_out = false }) A.stands ∙ (λ t. record (standing p.phase (z t) b) { commands = commands_at p.phase (z t) ++ port_commands x.cast p c })
      in
      record {
        handle = refl;
        settings = refl;
        file = refl;
        part = refl;
        keeps_told = λ h. h;
        stands = cs ∙ (ap (λ (u : Component). record u { commands = port_commands x.cast p c }) (sym (tell_stands p.phase b)) ∙ (λ t. record (standing p.phase (sym four t) b) { commands = commands_at p.phase (sym four t) ++ port_commands x.cast p c }));
        notes = rest ∙ (λ t. state_note p.phase (sym four t) ++ (settings_notes x.cast p c ++ (port_notes x.cast p c ++ end_note (ends_untold x.cast p c))));
        heard_so = tell_heard;
        out = λ t. let f : false ≡ true = t in absurd cc;
        work = λ work f.
            let K = A.work work f in
            record {
              phase = K.phase;
              stage = omega (arith, four);
              going = K.going;
              gain = K.gain;
              weights = K.weights;
              which = elim K.which [
                | inl h ↦ inl (h.0, record { outputs = (h.1).outputs; inputs = (h.1).inputs }, h.2)
                | inr N ↦ inr (record { link = N.link; output = N.output; late = N.late; unannounced = N.unannounced; none = N.none; announces = N.announces })
              ];
            };
        before = λ B. ((λ h. let r = B.0 h in absurd (omega (arith, four, r))), B.1);
        ran = λ h. absurd (omega (arith, four, h));
      }

  pub tell_plays : IsPlayWorld x recent q v
  tell_plays = kept x recent p q.stage p.told w v c a b W (record {
    inside = l;
    there = e;
    components = refl;
    headers = refl;
    made = refl;
    units = refl;
    streams = refl;
    given = λ m f. refl;
    handle = refl;
    settings = refl;
    ports = refl;
    works = λ port. refl;
    stage_else = λ k m. stage_else p c k 4 m;
    told_else = λ k m. refl;
  }) (act_reaches (x.cast).layout p (Act.Tell c) W.reached (l, z)) (sound_ended w (script_place x.cast c) a W.sound e) (actor_goes_on x recent p q.stage p.told w v c a b refl going A)

pub tell_leads : (x : PlayCast) (recent : ℕ) (p : Play) (w : World) (c : ℕ) (h : Handle) (v : World) (a : Component) → IsPlayWorld x recent p w → c < components_of x.cast → Names x.cast w c h → slice_get w.components (script_place x.cast c) ≡ Some a → a.client_out ≡ true
    → EndNote w h v → p.stage c ≡ 3 → CanAct (x.cast).layout p (Act.Tell c) × PlayLeadsTo x recent (acted (x.cast).layout (Act.Tell c) p) v
tell_leads x recent p w c h v a W l N e o s z =
    let A = W.actors c a l e in
    let n = A.out o in
    ((l, z), record { effect = with_component (script_place x.cast c) (back_in a) w; play = tell_plays x recent p w W c l z a e A o n.0 n.1; closes = ended_at w h v (script_place x.cast c) a N e s })
