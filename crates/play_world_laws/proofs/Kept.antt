-- A world of a play in which one component gave way to another with the same ports, and no link was changed.
use Rattle.std.proofs.Common.{◌≡◌, ◌≢◌, inl, inr, ℕ, ◌<◌, ◌≤◌, Bool, true, List, [], ◌∷◌, ◌++◌, find, length, set, slice_get, sum_by, Option, Some, option_and_then, MatchOption, refl, sym, ◌∙◌, ap, subst, arith}
use Rattle.std.proofs.lemmas.List.{length-set}
use Rattle.omx_types.specs.declared.command.Note.{Note}
use Rattle.il_machine.specs.declared.answer.Progress.{Progress}
use Rattle.il_machine.specs.declared.port.Port.{Port}
use Rattle.il_machine.specs.declared.port.PortKey.{PortKey}
use Rattle.il_machine.specs.Components.{no_progress}
use Rattle.il_machine.specs.Finishing.{end_note}
use Rattle.il_machine.specs.Headers.{find_header}
use Rattle.il_machine.specs.Kinds.{is_late, is_sink, is_source}
use Rattle.il_machine.specs.Parameters.{overflows}
use Rattle.il_machine.specs.Parts.{file_format, frames_of}
use Rattle.il_machine.specs.Queued.{notes_given}
use Rattle.il_machine.specs.Settings.{Settings}
use Rattle.il_machine.specs.Sound.{Sound}
use Rattle.il_machine.specs.Units.{need_of, units_of}
use Rattle.il_machine.specs.World.{Component, HeaderRecord, PartState, Stream, Work, World, is_stream_of, number_of, port_of, ports_from, stream_of}
use Rattle.machine_laws.proofs.Every.{at_set}
use Rattle.play_model.specs.Play.{Play}
use Rattle.play_model.specs.Reached.{IsReached}
use Rattle.play_world_laws.specs.View.{LinkEnds, link_view, worked_at}
use Rattle.play_world_laws.specs.Cast.{components_of, script_place, output_at, input_at}
use Rattle.play_world_laws.specs.Standing.{commands_at, standing}
use Rattle.play_world_laws.specs.Telling.{heard, heard_of, last_note, last_told, out_of, progress_by, state_note, unheard}
use Rattle.play_world_laws.specs.Wiring.{IsSomeEnd, ends_of, port_in, work_in}
use Rattle.play_world_laws.specs.Worlds.{IsBeforeRest, IsPart, ends_untold}
use Rattle.play_world_laws.proofs.Lists.{got_set, sum_same}
use Rattle.play_world_laws.specs.PlayWorlds.{HasHeard, IsActorAt, IsPlayWorld, IsSetFor, IsWorkAt, PlayCast, port_commands, port_notes, settings_notes}
use Rattle.play_world_laws.proofs.Around.{wired_moves}

module _ (x : PlayCast) (recent : ℕ) (p : Play) (stage : ℕ → ℕ) (told : ℕ → Bool) where
  abbrev q : Play
  q = record p { stage = stage; told = told }

  -- ---- a component that stays where it is

  module _ (d : ℕ) (same : stage d ≡ p.stage d) (also : told d ≡ p.told d) where
    rest_same : IsBeforeRest q d → IsBeforeRest p d
    rest_same B = ((λ e. subst (λ (k : ℕ). k ≤ 2) same (B.0 e)), B.1)

    heard_same : (h : Progress) → HasHeard x.cast recent p d h → HasHeard x.cast recent q d h
    heard_same h H = record {
      state = H.state ∙ ap (last_told p.phase) (sym same);
      eos = H.eos ∙ sym also;
      error = H.error;
      settings = H.settings;
      port = H.port;
      past = H.past;
      nothing = H.nothing;
    }

    work_same : (a : Component) (work : Work) → IsWorkAt x.cast p d a work → IsWorkAt x.cast q d a work
    work_same a work K = record {
      phase = K.phase;
      stage = subst (λ (k : ℕ). 3 ≤ k) (sym same) K.stage;
      going = K.going;
      gain = K.gain;
      weights = K.weights;
      which = elim K.which [
        | inl h ↦ inl (h.0, record { outputs = (h.1).outputs; inputs = (h.1).inputs }, h.2)
        | inr A ↦ inr (record { link = A.link; output = A.output; late = A.late; unannounced = A.unannounced; none = A.none; announces = A.announces })
      ];
    }

    pub actor_kept : (w v : World) (a : Component) → notes_given (number_of a) v ≡ notes_given (number_of a) w → stream_of (number_of a) v ≡ stream_of (number_of a) w → IsActorAt x recent p w d a → IsActorAt x recent q v d a
    actor_kept w v a n s A = record {
      number = A.number;
      stands = A.stands ∙ ap (λ (k : ℕ). record (standing p.phase k a) { commands = commands_at p.phase k ++ port_commands x.cast p d }) (sym same);
      set_for = A.set_for;
      roomy = A.roomy;
      source = A.source;
      sink = A.sink;
      late = A.late;
      late_format = A.late_format;
      file = A.file;
      notes = ap (λ (y : List Note). out_of a.client_out y ++ a.notes) n
          ∙ (A.notes ∙ (λ i. state_note p.phase (sym same i) ++ (settings_notes x.cast p d ++ (port_notes x.cast p d ++ end_note (ends_untold x.cast (record p { told = λ _. sym also i }) d)))));
      heard_so = subst (λ (h : Progress). HasHeard x.cast recent q d h) (sym (ap (λ (y : List Note). progress_by (heard_of a.client_out y) no_progress) n)) (heard_same (heard w a) A.heard_so);
      out = λ e. let o = A.out e in (o.0, ap last_note n ∙ o.1);
      part = record { whole = (A.part).whole; ended = λ B. (A.part).ended (rest_same B); inputs = λ B. (A.part).inputs (rest_same B) };
      done = subst (λ (o : Option Stream). MatchOption o ⊥ (λ z. z.frames ≡ (p.flow).done d)) (sym s) A.done;
      work = λ work e. work_same a work (A.work work e);
      running = λ e l. A.running e (subst (λ (k : ℕ). k ≤ 2) same l);
      over = λ l e. also ∙ A.over l e;
      unsteady = A.unsteady;
    }

  -- ---- the component that goes on, with its part and its ports

  pub record IsGoingOn (w v : World) (c : ℕ) (a b : Component) : Type 0 where
    pub handle : b.handle ≡ a.handle
    pub settings : b.settings ≡ a.settings
    pub file : b.file ≡ a.file
    pub part : b.part ≡ a.part
    pub keeps_told : p.told c ≡ true → told c ≡ true
    pub stands : b ≡ record (standing p.phase (stage c) b) { commands = commands_at p.phase (stage c) ++ port_commands x.cast p c }
    pub notes : unheard v b ≡ state_note p.phase (stage c) ++ (settings_notes x.cast p c ++ (port_notes x.cast p c ++ end_note (ends_untold x.cast q c)))
    pub heard_so : HasHeard x.cast recent q c (heard v b)
    pub out : b.client_out ≡ true → (note : Note) × (last_note (notes_given (number_of b) v) ≡ note ∷ [])
    pub work : (work : Work) → b.work ≡ Some work → IsWorkAt x.cast q c b work
    pub before : IsBeforeRest q c → IsBeforeRest p c
    pub ran : stage c ≤ 2 → p.stage c ≤ 2

  pub actor_goes_on : (w v : World) (c : ℕ) (a b : Component) → v.streams ≡ w.streams → IsGoingOn w v c a b → IsActorAt x recent p w c a → IsActorAt x recent q v c b
  actor_goes_on w v c a b s G A =
      let n : number_of b ≡ number_of a = ap (λ h. h.generation) G.handle in
      let settings = G.settings in
      record {
        number = n ∙ A.number;
        stands = G.stands;
        set_for = subst (λ (z : Settings). IsSetFor x c z) (sym settings) A.set_for;
        roomy = λ l I t. ap (λ f. overflows f (x.format l)) G.file ∙ A.roomy l I t;
        source = ap (λ (z : Settings). is_source z.kind) settings ∙ A.source;
        sink = ap (λ (z : Settings). is_sink z.kind) settings ∙ A.sink;
        late = λ j O. ap (λ (z : Settings). is_late z.kind) settings ∙ A.late j O;
        late_format = λ j O t. ap file_format G.file ∙ A.late_format j O t;
        file = λ t. ap frames_of G.file ∙ A.file (sym (ap (λ (z : Settings). is_source z.kind) settings) ∙ t);
        notes = G.notes;
        heard_so = G.heard_so;
        out = G.out;
        part = subst (λ (z : PartState). IsPart x.cast q c z) (sym G.part) (record { whole = (A.part).whole; ended = λ B. (A.part).ended (G.before B); inputs = λ B. (A.part).inputs (G.before B) });
        done = subst (λ (m : ℕ). MatchOption (stream_of m v) ⊥ (λ z. z.frames ≡ (p.flow).done c)) (sym n)
            (subst (λ (o : List Stream). MatchOption (find (is_stream_of (number_of a)) o) ⊥ (λ z. z.frames ≡ (p.flow).done c)) (sym s) A.done);
        work = G.work;
        running = λ e l. A.running e (G.ran l);
        over = λ l e. G.keeps_told (A.over l e);
        unsteady = A.unsteady;
      }

  -- ---- the world

  -- the component c, which was a and is b
  pub record IsKept (w v : World) (c : ℕ) (a b : Component) : Type 0 where
    pub inside : c < components_of x.cast
    pub there : slice_get w.components (script_place x.cast c) ≡ Some a
    pub components : v.components ≡ set w.components (script_place x.cast c) b
    pub headers : v.headers ≡ w.headers
    pub made : v.made ≡ w.made
    pub units : v.units ≡ w.units
    pub streams : v.streams ≡ w.streams
    pub given : (number : ℕ) → number ≢ script_place x.cast c → notes_given number v ≡ notes_given number w
    pub handle : b.handle ≡ a.handle
    pub settings : b.settings ≡ a.settings
    pub ports : b.ports ≡ a.ports
    pub works : (port : ℕ) → worked_at b.work port ≡ worked_at a.work port
    pub stage_else : (d : ℕ) → d ≢ c → stage d ≡ p.stage d
    pub told_else : (d : ℕ) → d ≢ c → told d ≡ p.told d

  module _ (w v : World) (c : ℕ) (a b : Component) (W : IsPlayWorld x recent p w) (K : IsKept w v c a b) where
    abbrev i : ℕ
    i = script_place x.cast c

    ports_kept : (port : ℕ) → port_of b port ≡ port_of a port
    ports_kept port = λ t. slice_get (ports_from ((K.handle t).generation) 0 (K.settings t).ports (K.ports t)) port

    ports_stay : (key : PortKey) → port_in v.components key ≡ port_in w.components key
    ports_stay key = ap (λ (cs : List Component). port_in cs key) K.components
        ∙ got_set (λ (r : Option Component). option_and_then (λ u. port_of u key.port) r) w.components i key.component a b K.there (ports_kept key.port)

    works_stay : (key : PortKey) → work_in v.components key ≡ work_in w.components key
    works_stay key = ap (λ (cs : List Component). work_in cs key) K.components
        ∙ got_set (λ (r : Option Component). worked_at (option_and_then (λ u. u.work) r) key.port) w.components i key.component a b K.there (K.works key.port)

    kept_actors : IsActorAt x recent q v c b → (d : ℕ) (r : Component) → d < components_of x.cast → slice_get v.components (script_place x.cast d) ≡ Some r → IsActorAt x recent q v d r
    kept_actors B d r m e = elim (at_set w.components i (script_place x.cast d) b r (subst (λ (cs : List Component). slice_get cs (script_place x.cast d) ≡ Some r) K.components e)) [
      | inl s ↦
          let same : c ≡ d = (W.cast_is).apart c d K.inside m (sym s.0) in
          subst (λ (j : ℕ). IsActorAt x recent q v j r) same (subst (λ (u : Component). IsActorAt x recent q v c u) (sym s.1) B)
      | inr s ↦
          let A = W.actors d r m s.1 in
          let n : d ≢ c = λ f. s.0 (ap (λ (j : ℕ). script_place x.cast j) f) in
          actor_kept d (K.stage_else d n) (K.told_else d n) w v r (K.given (number_of r) (λ f. s.0 (sym A.number ∙ f))) (ap (find (is_stream_of (number_of r))) K.streams) A
    ]

    kept_ends : (j port : ℕ) (d : Component) (r : Port) → slice_get v.components j ≡ Some d → port_of d port ≡ Some r → IsSomeEnd x.cast r.key
    kept_ends j port d r e f = elim (at_set w.components i j b d (subst (λ (cs : List Component). slice_get cs j ≡ Some d) K.components e)) [
      | inl s ↦ W.ends i port a r K.there (sym (ports_kept port) ∙ subst (λ (u : Component). port_of u port ≡ Some r) s.1 f)
      | inr s ↦ W.ends j port d r s.1 f
    ]

    pub kept : IsReached (x.cast).layout q → Sound v → IsActorAt x recent q v c b → IsPlayWorld x recent q v
    kept R S B = record {
      cast_is = W.cast_is;
      formats = W.formats;
      reached = R;
      sound = S;
      many = ap length K.components ∙ (length-set w.components i b ∙ W.many);
      actors = kept_actors B;
      half = W.half;
      wired = λ l h. wired_moves x p q (port_in w.components) (port_in v.components) l refl (ports_stay (output_at x.cast l)) (ports_stay (input_at x.cast l)) (W.wired l h);
      ends = kept_ends;
      viewed = λ l h.
          let f = works_stay (output_at x.cast l) in
          let d = works_stay (input_at x.cast l) in
          let hs = K.headers in
          let y : LinkEnds = ends_of x.cast (work_in w.components) p l in
          W.viewed l h ∙ sym (λ t. link_view (record y { filling = f t; draining = d t }) (hs t));
      headers = λ n r f. W.headers n r (subst (λ (hs : List HeaderRecord). find_header n hs ≡ Some r) K.headers f);
      tunnelled = λ n r s l f. W.tunnelled n r s l (subst (λ (hs : List HeaderRecord). find_header n hs ≡ Some r) K.headers f);
      units =
          let s : sum_by need_of v.components ≡ sum_by need_of w.components = ap (sum_by need_of) K.components ∙ sum_same need_of w.components i a b K.there (ap (λ (z : Settings). units_of z.kind) K.settings) in
          let u = W.units in
          let e = K.units in
          omega arith;
      numbers = let m = K.made in let u = W.numbers in omega arith;
    }
