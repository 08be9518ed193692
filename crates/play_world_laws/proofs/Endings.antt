-- The client object of a sink is given back once the end of its stream was heard.
use Rattle.std.proofs.Common.{◌≡◌, inl, inr, ℕ, zero, suc, ◌<◌, Bool, true, false, [], ◌∷◌, ◌++◌, slice_get, Some, refl, sym, ◌∙◌, ap, subst, eq-eqb}
use Rattle.omx_types.specs.declared.command.Event.TheVariants.{BufferFlag}
use Rattle.omx_types.specs.declared.command.Note.{Note}
use Rattle.omx_types.specs.declared.command.Note.TheVariants as notes
use Rattle.omx_types.specs.declared.handle.Handle.{Handle}
use Rattle.il_machine.specs.declared.answer.Progress.{Progress}
use Rattle.il_machine.specs.Components.{noted_by}
use Rattle.il_machine.specs.Finishing.{end_note}
use Rattle.il_machine.specs.Kinds.{is_late}
use Rattle.il_machine.specs.Notes.{EndNote, back_in}
use Rattle.il_machine.specs.Queued.{notes_given}
use Rattle.il_machine.specs.World.{Component, World, number_of, with_component}
use Rattle.machine_laws.proofs.Notices.{sound_ended}
use Rattle.play_model.specs.Acts.{Act, CanAct, acted}
use Rattle.play_model.specs.Changes.{HasCompletion}
use Rattle.play_model.specs.Play.{Play, component_at}
use Rattle.play_model.proofs.Handing.{act_reaches}
use Rattle.play_world_laws.specs.Cast.{links_of, script_place}
use Rattle.play_world_laws.specs.Telling.{heard, last_note}
use Rattle.play_world_laws.specs.Worlds.{Names, ends_untold}
use Rattle.play_world_laws.proofs.Notes.{ended_at, heard_back, no_state_note, told_else}
use Rattle.play_world_laws.specs.Changing.{notes_of_port}
use Rattle.play_world_laws.specs.PlayWorlds.{HasHeard, IsActorAt, IsPlayWorld, PlayCast, notes_of_end, port_notes, port_number, settings_notes, settings_of_end}
use Rattle.play_world_laws.proofs.Early.{sink_not_late}
use Rattle.play_world_laws.specs.Leading.{PlayLeadsTo}
use Rattle.play_world_laws.proofs.Kept.{IsGoingOn, actor_goes_on, kept}
use Rattle.play_world_laws.proofs.QueuedLists.{links_none}
use Rattle.play_world_laws.proofs.Telling.{front}

-- ---- the end of the stream is told

module _ (x : PlayCast) (recent : ℕ) (p : Play) (w : World) (W : IsPlayWorld x recent p w) (c : ℕ) (C : CanAct (x.cast).layout p (Act.TellEnd c)) (a : Component) (e : slice_get w.components (script_place x.cast c) ≡ Some a) (A : IsActorAt x recent p w c a)
    (o : a.client_out ≡ true) (n : Note) (last : last_note (notes_given (number_of a) w) ≡ n ∷ []) where
  abbrev q : Play
  q = acted (x.cast).layout (Act.TellEnd c) p

  abbrev b : Component
  b = back_in a

  abbrev v : World
  v = with_component (script_place x.cast c) b w

  -- a sink announces nothing, and nothing of its ports is queued
  no_settings : settings_notes x.cast p c ≡ []
  no_settings = links_none (x.cast).layout (settings_of_end x.cast p) c (links_of x.cast) each
    where
      each : (s : Bool) (j : ℕ) → j < links_of x.cast → ((x.cast).layout).is_late j ≡ true → component_at (x.cast).layout s j ≡ c → settings_of_end x.cast p s j ≡ []
      each true j d t g =
          let f : is_late a.settings.kind ≡ false = sink_not_late a.settings.kind (A.sink ∙ C.2) in
          let u : true ≡ false = sym (A.late j (record { below = d; given_by = g }) ∙ t) ∙ f in
          absurd cc
      each false j d t g = refl

  none_noted : (m port : ℕ) → (HasCompletion m → ⊥) → notes_of_port m port ≡ []
  none_noted zero port h = refl
  none_noted (suc zero) port h = refl
  none_noted (suc (suc zero)) port h = refl
  none_noted (suc (suc (suc zero))) port h = absurd (h (inl refl))
  none_noted (suc (suc (suc (suc zero)))) port h = refl
  none_noted (suc (suc (suc (suc (suc zero))))) port h = refl
  none_noted (suc (suc (suc (suc (suc (suc zero)))))) port h = refl
  none_noted (suc (suc (suc (suc (suc (suc (suc zero))))))) port h = absurd (h (inr refl))
  none_noted (suc (suc (suc (suc (suc (suc (suc (suc m)))))))) port h = refl

  no_ports : port_notes x.cast p c ≡ []
  no_ports = links_none (x.cast).layout (notes_of_end x.cast p) c (links_of x.cast) each
    where
      each : (s : Bool) (j : ℕ) → j < links_of x.cast → ((x.cast).layout).is_late j ≡ true → component_at (x.cast).layout s j ≡ c → notes_of_end x.cast p s j ≡ []
      each true j d t g = none_noted (p.change j).output (port_number x.cast true j) ((C.5).outputs j (record { below = d; given_by = g }) t)
      each false j d t g = none_noted (p.change j).input (port_number x.cast false j) ((C.5).inputs j (record { below = d; taken_by = g }) t)

  untold : ends_untold x.cast p c ≡ true
  untold = let a1 = C.2 in let a2 = C.3 in let a3 = C.4 in rw (a1, a2, a3) refl

  split : n ∷ a.notes ≡ notes.Told (BufferFlag 0 1) ∷ []
  split =
      let s0 = no_state_note p.phase (p.stage c) C.1 in
      let s1 = no_settings in
      let s2 = no_ports in
      let s3 = untold in
      front x recent p w c a A o n last ∙ (λ t. s0 t ++ (s1 t ++ (s2 t ++ end_note (s3 t))))

  told_here : q.told c ≡ true
  told_here = rw (eq-eqb c c refl) refl

  end_heard : HasHeard x.cast recent q c (heard v b)
  end_heard =
      let is : n ≡ notes.Told (BufferFlag 0 1) = let s = split in cc in
      let h : heard v b ≡ noted_by (notes.Told (BufferFlag 0 1)) (heard w a) = heard_back w (script_place x.cast c) a n o last ∙ ap (λ (m : Note). noted_by m (heard w a)) is in
      let H = A.heard_so in
      let f = H.eos ∙ C.3 in
      subst (λ (u : Progress). HasHeard x.cast recent q c u) (sym h) (record {
        state = H.state;
        eos = rw f (sym told_here);
        error = H.error;
        settings = H.settings;
        port = H.port;
        past = H.past;
        nothing = H.nothing;
      })

  going : IsGoingOn x recent p p.stage q.told w v c a b
  going =
      let rest : a.notes ≡ [] = let s = split in cc in
      let s0 = no_state_note p.phase (p.stage c) C.1 in
      let s1 = no_settings in
      let s2 = no_ports in
      let s3 : ends_untold x.cast q c ≡ false = let t = told_here in let a1 = C.2 in let a3 = C.4 in rw (t, a1, a3) refl in
      record {
        handle = refl;
        settings = refl;
        file = refl;
        part = refl;
        keeps_told = λ t. told_here;
        stands = ap (λ (u : Component). record u { client_out = false }) A.stands;
        notes = rest ∙ sym (λ t. s0 t ++ (s1 t ++ (s2 t ++ end_note (s3 t))));
        heard_so = end_heard;
        out = λ t. let f : false ≡ true = t in absurd cc;
        work = λ work f. let K = A.work work f in let g : true ≡ false = sym C.4 ∙ K.going in absurd cc;
        before = λ B. B;
        ran = λ h. h;
      }

  pub end_plays : IsPlayWorld x recent q v
  end_plays = kept x recent p p.stage q.told w v c a b W (record {
    inside = C.0;
    there = e;
    components = refl;
    headers = refl;
    made = refl;
    units = refl;
    streams = refl;
    given = λ m f. refl;
    handle = refl;
    settings = refl;
    ports = refl;
    works = λ port. refl;
    stage_else = λ k m. refl;
    told_else = λ k m. told_else p c k m;
  }) (act_reaches (x.cast).layout p (Act.TellEnd c) W.reached C) (sound_ended w (script_place x.cast c) a W.sound e) (actor_goes_on x recent p p.stage q.told w v c a b refl going A)

pub tell_end_leads : (x : PlayCast) (recent : ℕ) (p : Play) (w : World) (c : ℕ) (h : Handle) (v : World) (a : Component) → IsPlayWorld x recent p w → CanAct (x.cast).layout p (Act.TellEnd c) → Names x.cast w c h → slice_get w.components (script_place x.cast c) ≡ Some a
    → a.client_out ≡ true → EndNote w h v → PlayLeadsTo x recent (acted (x.cast).layout (Act.TellEnd c) p) v
tell_end_leads x recent p w c h v a W C N e o s =
    let A = W.actors c a C.0 e in
    let n = A.out o in
    record { effect = with_component (script_place x.cast c) (back_in a) w; play = end_plays x recent p w W c C a e A o n.0 n.1; closes = ended_at w h v (script_place x.cast c) a N e s }
