-- The disable or the enable of a port of a link that is being changed ends.
use Rattle.std.proofs.Common.{◌≡◌, ◌≢◌, inl, inr, ℕ, ◌+◌, ◌<◌, ◌≤◌, Bool, true, false, not, nat_le, List, [], ◌∷◌, ◌++◌, slice_get, Some, None, refl, sym, ◌∙◌, ap, subst, append_assoc, arith}
use Rattle.omx_types.specs.declared.command.Completion.{Completion}
use Rattle.omx_types.specs.declared.command.Completion.TheVariants as completions
use Rattle.omx_types.specs.declared.command.Event.TheVariants.{CmdComplete}
use Rattle.omx_types.specs.declared.command.Note.{Note}
use Rattle.omx_types.specs.declared.command.Note.TheVariants.{Told}
use Rattle.il_machine.specs.declared.port.Link.{Link}
use Rattle.il_machine.specs.declared.port.Mode.TheVariants.{Steady}
use Rattle.il_machine.specs.declared.port.Port.{Port}
use Rattle.il_machine.specs.declared.port.PortKey.{PortKey}
use Rattle.il_machine.specs.declared.port.PortState.{PortState}
use Rattle.il_machine.specs.Due.{all_told, mode_completion, mode_happened}
use Rattle.il_machine.specs.Finishing.{end_note}
use Rattle.il_machine.specs.Ports.{is_steady}
use Rattle.il_machine.specs.Queued.{notes_given}
use Rattle.il_machine.specs.Sound.{Sound}
use Rattle.il_machine.specs.World.{Component, World, number_of, with_component, with_port}
use Rattle.machine_laws.proofs.Finding.{either}
use Rattle.machine_laws.proofs.Happening.{sound_mode}
use Rattle.play_model.specs.Acts.{Act, CanAct, acted}
use Rattle.play_model.specs.Changes.{Change, IsHalfChanged, IsPortDue, port_at, port_on}
use Rattle.play_model.specs.Play.{Play, component_at, made}
use Rattle.play_model.proofs.Handing.{act_reaches}
use Rattle.play_world_laws.specs.Cast.{components_of, links_of, script_place}
use Rattle.play_world_laws.specs.Standing.{commands_at, standing}
use Rattle.play_world_laws.specs.Telling.{heard, out_of, state_note, unheard}
use Rattle.play_world_laws.specs.Wiring.{link_to}
use Rattle.play_world_laws.specs.Worlds.{ends_untold}
use Rattle.play_world_laws.proofs.Notes.{no_state_note}
use Rattle.play_world_laws.specs.Changing.{commands_of_port, is_joined_at, is_set_at, mode_at, notes_of_port, state_by, told_of_port}
use Rattle.play_world_laws.specs.PlayWorlds.{IsActorAt, IsPlayWorld, PlayCast, announced_note, end_of_link, port_notes, port_number, settings_notes}
use Rattle.play_world_laws.proofs.Ports.{disabled_state, enabled_state, other_state}
use Rattle.play_world_laws.proofs.Announced.{left_same}
use Rattle.play_world_laws.proofs.Around.{change_here, end_stated}
use Rattle.play_world_laws.proofs.ChangeEnds.{HasEnd, end_inside, end_there, ends_apart}
use Rattle.play_world_laws.proofs.One.{IsTurned, IsTurnedAt, actor_turned, turned}
use Rattle.play_world_laws.proofs.ChangedPorts.{port_else, port_here}
use Rattle.play_world_laws.proofs.Turning.{all_told as all_up, alone_half, commands_turned, half_of, half_stays, heard_turned, no_work_at, notes_after, notes_here, port_next, port_other, rises_turned, settings_at, settings_here, settings_turned, step_stays}

-- ---- the port before and after

pub record IsArrival (o : Bool) (k : Change) : Type 0 where
  pub completion : ℕ → Completion
  pub tells : (j : ℕ) → mode_completion (mode_at (port_at o k)) j ≡ CmdComplete (completion j) ∷ []
  pub none : (j : ℕ) → notes_of_port (port_at o k) j ≡ []
  pub queued : (j : ℕ) → notes_of_port (port_at o (port_on o k)) j ≡ Told (CmdComplete (completion j)) ∷ []
  pub commands : (j : ℕ) → commands_of_port (port_at o (port_on o k)) j ≡ commands_of_port (port_at o k) j
  pub told : (j : ℕ) → told_of_port (port_at o (port_on o k)) j ≡ told_of_port (port_at o k) j
  pub state : (link : Link) → record (state_by o k link) { mode = Steady } ≡ state_by o (port_on o k) link
  pub changing : (link : Link) → is_steady (state_by o k link).mode ≡ false
  pub some : 1 ≤ port_at o k
  pub unsteady : port_at o k < 7

after_port : {B : Type 0} (f : ℕ → B) (o : Bool) (k : Change) (n : ℕ) → port_at o k ≡ n → f (port_at o (port_on o k)) ≡ f (n + 1)
after_port f o k n e = ap f (port_next o k) ∙ ap (λ m. f (m + 1)) e

arrival_by : (o : Bool) (k : Change) (made_ count : ℕ) → IsPortDue made_ count (port_at o k) → IsArrival o k
arrival_by o k made_ count (inl d) =
    let e = d.0 in
    record {
      completion = λ j. completions.Disable j;
      tells = λ j. ap (λ m. mode_completion (mode_at m) j) e;
      none = λ j. ap (λ m. notes_of_port m j) e;
      queued = λ j. after_port (λ m. notes_of_port m j) o k 2 e;
      commands = λ j. after_port (λ m. commands_of_port m j) o k 2 e ∙ sym (ap (λ m. commands_of_port m j) e);
      told = λ j. after_port (λ m. told_of_port m j) o k 2 e ∙ sym (ap (λ m. told_of_port m j) e);
      state = λ link. disabled_state k link o e;
      changing = λ link. ap (λ m. is_steady (mode_at m)) e;
      some = omega arith;
      unsteady = omega arith;
    }
arrival_by o k made_ count (inr d) =
    let e = d.0 in
    record {
      completion = λ j. completions.Enable j;
      tells = λ j. ap (λ m. mode_completion (mode_at m) j) e;
      none = λ j. ap (λ m. notes_of_port m j) e;
      queued = λ j. after_port (λ m. notes_of_port m j) o k 6 e;
      commands = λ j. after_port (λ m. commands_of_port m j) o k 6 e ∙ sym (ap (λ m. commands_of_port m j) e);
      told = λ j. after_port (λ m. told_of_port m j) o k 6 e ∙ sym (ap (λ m. told_of_port m j) e);
      state = λ link. enabled_state k link o e;
      changing = λ link. ap (λ m. is_steady (mode_at m)) e;
      some = omega arith;
      unsteady = omega arith;
    }

-- ---- it happens

module _ (x : PlayCast) (recent : ℕ) (p : Play) (w : World) (W : IsPlayWorld x recent p w) (l : ℕ) (o : Bool) (C : CanAct (x.cast).layout p (Act.HappenPort l o)) (a : Component)
    (e : slice_get w.components (script_place x.cast (component_at (x.cast).layout o l)) ≡ Some a) where
  abbrev c : ℕ
  c = component_at (x.cast).layout o l

  abbrev q : Play
  q = acted (x.cast).layout (Act.HappenPort l o) p

  abbrev k : Change
  k = p.change l

  abbrev port : ℕ
  port = port_number x.cast o l

  abbrev i : ℕ
  i = script_place x.cast c

  inside : c < components_of x.cast
  inside = end_inside x recent p w W o l C.0

  A : IsActorAt x recent p w c a
  A = W.actors c a inside e

  abbrev pub E : HasEnd x p l o a
  E = end_there x recent p w W o l c a C.0 refl e

  abbrev pub y : Port
  y = E.port

  pub S : IsArrival o k
  S = arrival_by o k (made p l) ((((x.cast).layout).network).count l) C.2

  half : IsHalfChanged k
  half = half_of k ((W.reached).changes l C.0).order o S.some (let m = S.unsteady in omega arith)

  alone : (j : ℕ) → j < links_of x.cast → ((x.cast).layout).is_late j ≡ true → IsHalfChanged (p.change j) → j ≡ l
  alone = alone_half x recent p w W l C.0 C.1 half

  apart : component_at (x.cast).layout (not o) l ≢ c
  apart = ends_apart x recent p w W o l C.0

  four : p.stage c ≡ 4
  four = (all_up x recent p w W l C.0 C.1 half).1 c inside

  free : a.work ≡ None
  free = no_work_at x recent p w W l C.0 C.1 c o refl a e A S.unsteady (let s = half.0 in omega arith)

  abbrev pub now : PortState
  now = record y.state { mode = Steady }

  abbrev pub note : Note
  note = Told (CmdComplete (S.completion port))

  abbrev pub b : Component
  b = record (with_port port now a) { notes = a.notes ++ note ∷ [] }

  abbrev pub v : World
  v = with_component i b w

  key_port : y.key.port ≡ port
  key_port = ap (λ (z : PortKey). z.port) (E.end).key ∙ port_of_end o
    where
      port_of_end : (s : Bool) → (end_of_link x.cast s l).port ≡ port_number x.cast s l
      port_of_end true = refl
      port_of_end false = refl

  mode_is : mode_completion y.state.mode y.key.port ≡ CmdComplete (S.completion port) ∷ []
  mode_is = ap (λ (s : PortState). mode_completion s.mode y.key.port) (E.end).state ∙ (ap (mode_completion (mode_at (port_at o k))) key_port ∙ S.tells port)

  pub happened_is : mode_happened i a y w ≡ v
  happened_is =
      let d = mode_is in
      let f = key_port in
      (λ t. with_component i (all_told (d t) (with_port (f t) now a)) w)

  pub sound : Sound v
  sound = subst Sound happened_is (sound_mode w i a port y W.sound e E.there (ap (λ (s : PortState). is_steady s.mode) (E.end).state ∙ S.changing (link_to x.cast l (end_of_link x.cast (not o) l))))

  no_state : state_note p.phase (p.stage c) ≡ []
  no_state = no_state_note p.phase (p.stage c) (let s = four in omega arith)

  no_settings : settings_notes x.cast p c ≡ []
  no_settings = settings_here x recent p w W l C.0 C.1 c o refl a e A (let s = half.0 in omega arith)

  settings_stay : settings_notes x.cast q c ≡ settings_notes x.cast p c
  settings_stay = settings_turned x recent recent p l (port_on o) c o refl apart (same o)
    where
      same : (s : Bool) → settings_at x.cast s l (port_on o k) ≡ settings_at x.cast s l k
      same true = ap (λ (m : ℕ). announced_note m ((x.cast).output_port l)) (step_stays o k)
      same false = refl

  -- it hasn't ended, so nothing of that is queued
  no_end : ends_untold x.cast p c ≡ false
  no_end =
      let f : (p.flow).ended c ≡ false = A.unsteady o l C.0 refl C.1 S.unsteady in
      either (((x.cast).layout).is_sink c) (λ t. rw (t, f) refl) (λ t. rw t refl)

  notes_now : unheard v b ≡ state_note p.phase (p.stage c) ++ (settings_notes x.cast q c ++ (port_notes x.cast q c ++ end_note (ends_untold x.cast p c)))
  notes_now =
      let out : List Note = out_of a.client_out (notes_given (number_of a) w) in
      let s0 = no_state in
      let s1 = no_settings in
      let s2 = notes_here x recent p w W l C.0 C.1 c o refl a e A alone ∙ S.none port in
      let s3 = no_end in
      let t1 = settings_stay ∙ no_settings in
      let t2 = notes_after x recent p w W l C.0 C.1 c o refl a e A alone (port_on o) ∙ S.queued port in
      let was : out ++ a.notes ≡ [] ++ ([] ++ ([] ++ end_note false)) = A.notes ∙ (λ t. s0 t ++ (s1 t ++ (s2 t ++ end_note (s3 t)))) in
      let more : out ++ (a.notes ++ note ∷ []) ≡ note ∷ [] = sym (append_assoc out a.notes (note ∷ [])) ∙ ap (λ (ns : List Note). ns ++ note ∷ []) was in
      more ∙ sym (λ t. s0 t ++ (t1 t ++ (t2 t ++ end_note (s3 t))))

  happen_turn : IsTurned x recent recent p l (port_on o) w v c a b
  happen_turn =
      let cs = commands_turned x recent recent p l (port_on o) c o refl apart (S.commands port) in
      record {
        handle = refl;
        kind = refl;
        set_for = A.set_for;
        rises = rises_turned x recent recent p l (port_on o) c o refl apart (let m = port_next o k in omega arith);
        file = refl;
        part = refl;
        stands = ap (λ (z : Component). record (record z { ports = b.ports }) { notes = a.notes ++ note ∷ [] }) A.stands ∙ (λ j. record (standing p.phase (p.stage c) b) { commands = commands_at p.phase (p.stage c) ++ sym cs j });
        notes = notes_now;
        heard_so = heard_turned x recent recent p l (port_on o) c o refl apart (inl refl) (let m = port_next o k in omega arith) (S.told port) (λ _. ap (nat_le 2) (step_stays o k)) (heard w a) A.heard_so;
        out = A.out;
        work = λ work f. let z : None ≡ Some work = sym free ∙ f in absurd cc;
      }

  happen_at_end : IsTurnedAt x recent recent p l (port_on o) w v o c a b y (record y { state = now })
  happen_at_end =
      let link = link_to x.cast l (end_of_link x.cast (not o) l) in
      record {
        below = C.0;
        late = C.1;
        inside = inside;
        at = refl;
        there = e;
        components = refl;
        headers = refl;
        made = refl;
        units = refl;
        streams = refl;
        given = λ m g. refl;
        kind = refl;
        works = λ j. refl;
        others = λ j m. port_else a j port now m;
        port = port_here a port now y E.there;
        before = E.there;
        end = end_stated x p q l o (end_of_link x.cast o l) (end_of_link x.cast (not o) l) y now
            (ap (λ (s : PortState). record s { mode = Steady }) (E.end).state ∙ (S.state link ∙ sym (ap (λ (z : Change). state_by o z link) (change_here l (port_on o) p))))
            (ap (λ (z : Change). is_set_at o z.step) (change_here l (port_on o) p) ∙ ap (is_set_at o) (step_stays o k)) E.end;
        preference = refl;
        quiet = record { port = port_other o k; told = λ t. (let s = half.0 in omega arith, let s = half.0 in let m = step_stays o k in omega arith) };
        state = other_state k (link_to x.cast l (end_of_link x.cast o l)) o;
        set = ap (is_set_at (not o)) (step_stays o k);
        fewer = left_same x p q l refl refl (ap (λ (z : Change). nat_le z.step 4) (change_here l (port_on o) p) ∙ ap (λ (m : ℕ). nat_le m 4) (step_stays o k));
        joined = λ h. ap is_joined_at (step_stays o k) ∙ h;
        half = half_stays x recent p w W l C.0 C.1 half (port_on o);
      }

  pub happen_plays : IsPlayWorld x recent q v
  happen_plays = turned x recent recent p l (port_on o) w v o c a b y (record y { state = now }) W happen_at_end (inl refl) (act_reaches (x.cast).layout p (Act.HappenPort l o) W.reached C) sound
      (actor_turned x recent recent p l (port_on o) w v c a b refl happen_turn A)
