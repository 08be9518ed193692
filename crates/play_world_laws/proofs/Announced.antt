-- The work of a late source that announces comes back: its port is held, and that its settings changed is queued.
use Rattle.std.proofs.Common.{◌≡◌, inl, inr, ℕ, ◌+◌, ◌<◌, ◌≤◌, Bool, true, false, nat_le, if◌then◌else◌, is_some, List, [], ◌∷◌, ◌++◌, slice_get, Option, Some, None, MatchOption, refl, sym, ◌∙◌, ap, subst, append_assoc, arith}
use Rattle.std.proofs.lemmas.Bool.{cases_eq}
use Rattle.omx_types.specs.declared.command.Event.TheVariants.{PortSettingsChanged}
use Rattle.omx_types.specs.declared.command.Note.{Note}
use Rattle.omx_types.specs.declared.command.Note.TheVariants.{Told}
use Rattle.il_machine.specs.declared.answer.Progress.{Progress}
use Rattle.il_machine.specs.declared.port.Link.{Link}
use Rattle.il_machine.specs.declared.port.Port.{Port}
use Rattle.il_machine.specs.declared.port.PortKey.{PortKey}
use Rattle.il_machine.specs.declared.port.PortState.{PortState}
use Rattle.il_machine.specs.Due.{ClosesTo}
use Rattle.il_machine.specs.Finishing.{Finish, announced, announced_at, end_note, finished, finished_by, with_landed}
use Rattle.il_machine.specs.Queued.{notes_given}
use Rattle.il_machine.specs.Sound.{Sound}
use Rattle.il_machine.specs.Stepping.{IsDoneOf, WorkDone}
use Rattle.il_machine.specs.World.{Component, Work, World, changed_at, number_of, place_numbered, port_of, stream_of, with_component, with_port}
use Rattle.machine_laws.proofs.Finishing.{sound_finished}
use Rattle.machine_laws.proofs.Keys.{at_there}
use Rattle.play_model.specs.Acts.{Act, CanAct, acted}
use Rattle.play_model.specs.Changes.{Change, IsHalfChanged, port_at, told_on}
use Rattle.play_model.specs.Play.{Play}
use Rattle.play_model.proofs.Handing.{act_reaches}
use Rattle.play_world_laws.specs.View.{picked_at, worked_at}
use Rattle.play_world_laws.specs.Cast.{components_of, giver_of, input_at, links_of, output_at, script_place}
use Rattle.play_world_laws.specs.Standing.{commands_at, standing}
use Rattle.play_world_laws.specs.Telling.{heard, out_of, state_note, unheard}
use Rattle.play_world_laws.specs.Wiring.{link_to}
use Rattle.play_world_laws.specs.Worlds.{ends_untold}
use Rattle.play_world_laws.proofs.Ends.{place_there}
use Rattle.play_world_laws.specs.Changing.{IsPast, at_links, is_joined_at, is_set_at, state_by, told_of_port}
use Rattle.play_world_laws.specs.PlayWorlds.{HasHeard, IsActorAt, IsPlayWorld, PlayCast, announced_note, commands_of_end, left_to_make, notes_of_end, port_commands, port_notes, port_number, settings_notes, settings_of_end}
use Rattle.play_world_laws.proofs.Ports.{announced_state}
use Rattle.play_world_laws.specs.Leading.{PlayLeadsTo}
use Rattle.play_world_laws.proofs.Around.{change_else, change_here, end_stated, ports_told}
use Rattle.play_world_laws.proofs.Announcing.{its, its_end, no_commands, no_port_notes, no_settings, off_file, untold, untouched}
use Rattle.play_world_laws.proofs.ChangeEnds.{HasEnd, end_inside, ends_apart, first_port, one_end, source_lists}
use Rattle.play_world_laws.proofs.One.{IsTurned, IsTurnedAt, actor_turned, turned}
use Rattle.play_world_laws.proofs.ChangedPorts.{port_else, port_here}
use Rattle.play_world_laws.proofs.Turning.{rises_turned}

-- ---- what the announcement is for the input's end, and for the headers that are to be made

input_state : (k : Change) (link : Link) → k.step ≡ 0 → state_by false (told_on k) link ≡ state_by false k link
input_state k link e = ap (λ n. state_by false (told_on (record k { step = n })) link) e ∙ sym (ap (λ n. state_by false (record k { step = n }) link) e)

pub left_same : (x : PlayCast) (p q : Play) (l : ℕ) → q.phase ≡ p.phase → q.flow ≡ p.flow → nat_le (q.change l).step 4 ≡ nat_le (p.change l).step 4 → left_to_make x.cast q l ≤ left_to_make x.cast p l
left_same x p q l e f h =
    let s : left_to_make x.cast q l ≡ left_to_make x.cast p l = rw (e, f, h) refl in
    omega arith

module _ (x : PlayCast) (recent : ℕ) (p : Play) (w : World) (W : IsPlayWorld x recent p w) (l : ℕ) (C : CanAct (x.cast).layout p (Act.Announce l)) (a : Component) (e : slice_get w.components (script_place x.cast (giver_of x.cast l)) ≡ Some a)
    (work : Work) (f : a.work ≡ Some work) (says : work.announces ≡ true) (none : work.headers ≡ []) where
  abbrev c : ℕ
  c = giver_of x.cast l

  abbrev q : Play
  q = acted (x.cast).layout (Act.Announce l) p

  abbrev k : Change
  k = p.change l

  A : IsActorAt x recent p w c a
  A = its x recent p w W l C.0 C.1 a e C.3

  abbrev E : HasEnd x p l true a
  E = its_end x recent p w W l C.0 C.1 a e C.3

  abbrev y : Port
  y = E.port

  abbrev now : PortState
  now = record y.state { held = true }

  abbrev note : Note
  note = Told (PortSettingsChanged y.key.port)

  abbrev free : Component
  free = record a { work = None }

  abbrev b : Component
  b = record (with_port y.key.port now free) { notes = a.notes ++ note ∷ [] }

  first : y.key.port ≡ (x.cast).output_port l
  first = ap (λ (z : PortKey). z.port) (E.end).key

  pub announced_is : announced a ≡ b
  announced_is =
      let z : port_of free 0 ≡ Some y = ap (port_of a) (sym (first_port x recent p w W l C.0 C.1 c refl a e A)) ∙ E.there in
      let n = off_file x recent p w W l C.0 C.1 a e C.3 in
      ap (λ (o : Option Port). announced_at o free) z ∙ rw n refl

  pub finished_is : (done : WorkDone) → finished (script_place x.cast c) a done w ≡ with_component (script_place x.cast c) b w
  finished_is done =
      let i : ℕ = script_place x.cast c in
      ap (λ (r : Option Work). finished_by i a done r w) f
      ∙ (ap (λ (t : Bool). if t then with_component i (announced a) w else changed_at (stream_of (number_of a) w) w (λ s. with_landed i a done s w)) says ∙ ap (λ (z : Component). with_component i z w) announced_is)

  -- ---- the change

  pub told_here : q.change l ≡ told_on k
  told_here = change_here l told_on p

  step_now : (q.change l).step ≡ 1
  step_now = ap (λ (z : Change). z.step) told_here ∙ (let s = C.3 in omega arith)

  half_now : (j : ℕ) → j < links_of x.cast → ((x.cast).layout).is_late j ≡ true → IsHalfChanged (q.change j) → j ≡ recent
  half_now j m t h = elim (cases_eq j l) [
    | inl s ↦
        let g : 3 ≤ (q.change l).step = subst (λ (i : ℕ). 3 ≤ (q.change i).step) s h.0 in
        absurd (omega (arith, step_now))
    | inr n ↦ W.half j m t (subst (λ (z : Change). IsHalfChanged z) (change_else l told_on p j n) h)
  ]

  own : {B : Type 0} (P : Bool → ℕ → List B) → at_links (x.cast).layout P c (links_of x.cast) ≡ P true l
  own P = source_lists x recent p w W l C.0 C.1 c refl a e A P

  commands_now : port_commands x.cast q c ≡ []
  commands_now =
      let z : (q.change l).output ≡ 0 = ap (λ (r : Change). r.output) told_here ∙ untouched x recent p w W l C.0 C.1 a e C.3 in
      own (commands_of_end x.cast q) ∙ rw z refl

  port_notes_now : port_notes x.cast q c ≡ []
  port_notes_now =
      let z : (q.change l).output ≡ 0 = ap (λ (r : Change). r.output) told_here ∙ untouched x recent p w W l C.0 C.1 a e C.3 in
      own (notes_of_end x.cast q) ∙ rw z refl

  settings_now : settings_notes x.cast q c ≡ note ∷ []
  settings_now = own (settings_of_end x.cast q) ∙ (ap (λ (n : ℕ). announced_note n ((x.cast).output_port l)) step_now ∙ ap (λ (n : ℕ). Told (PortSettingsChanged n) ∷ []) (sym first))

  -- ---- the component

  heard_now : (h : Progress) → HasHeard x.cast recent p c h → HasHeard x.cast recent q c h
  heard_now h H = record {
    state = H.state;
    eos = H.eos;
    error = H.error;
    settings = λ j O t.
        let s : j ≡ l = (one_end x recent p w W l C.0 C.1 c refl a e A true j O.below O.given_by).0 in
        let was : is_some h.settings ≡ nat_le 2 (p.change l).step = subst (λ (i : ℕ). is_some h.settings ≡ nat_le 2 (p.change i).step) s (H.settings j O t) in
        let z = C.3 in
        let n = step_now in
        subst (λ (i : ℕ). is_some h.settings ≡ nat_le 2 (q.change i).step) (sym s) (was ∙ (ap (nat_le 2) z ∙ sym (ap (nat_le 2) n)));
    port = λ s d g t u.
        let r = one_end x recent p w W l C.0 C.1 c refl a e A s recent d g in
        let z : (q.change l).output ≡ 0 = ap (λ (r : Change). r.output) told_here ∙ untouched x recent p w W l C.0 C.1 a e C.3 in
        let v : is_some (told_of_port (port_at true (q.change l)) (port_number x.cast true l)) ≡ true =
        subst (λ (i : Bool). is_some (told_of_port (port_at i (q.change l)) (port_number x.cast i l)) ≡ true) r.1 (subst (λ (i : ℕ). is_some (told_of_port (port_at s (q.change i)) (port_number x.cast s i)) ≡ true) r.0 u) in
        let o : false ≡ true = sym (ap (λ (n : ℕ). is_some (told_of_port n (port_number x.cast true l))) z) ∙ v in
        absurd cc;
    past = λ s j d g t.
        let r = H.past s j d g t in
        subst (λ (z : ℕ). IsPast z (port_number x.cast s j) h.port) (sym (ports_told l p s j)) r;
    nothing = H.nothing;
  }

  abbrev v : World
  v = with_component (script_place x.cast c) b w

  notes_now : unheard v b ≡ state_note p.phase (p.stage c) ++ (settings_notes x.cast q c ++ (port_notes x.cast q c ++ end_note (ends_untold x.cast p c)))
  notes_now =
      let out : List Note = out_of a.client_out (notes_given (number_of a) w) in
      let s0 = no_settings x recent p w W l C.0 C.1 a e C.3 in
      let n0 = no_port_notes x recent p w W l C.0 C.1 a e C.3 in
      let u = untold x recent p w W l C.0 C.1 a e C.3 in
      let s1 = settings_now in
      let n1 = port_notes_now in
      let was : out ++ a.notes ≡ state_note p.phase (p.stage c) ++ ([] ++ ([] ++ end_note false)) = A.notes ∙ (λ i. state_note p.phase (p.stage c) ++ (s0 i ++ (n0 i ++ end_note (u i)))) in
      let more : out ++ (a.notes ++ note ∷ []) ≡ (state_note p.phase (p.stage c) ++ []) ++ note ∷ [] = sym (append_assoc out a.notes (note ∷ [])) ∙ ap (λ (ns : List Note). ns ++ note ∷ []) was in
      let is : (state_note p.phase (p.stage c) ++ []) ++ note ∷ [] ≡ state_note p.phase (p.stage c) ++ note ∷ [] = append_assoc (state_note p.phase (p.stage c)) [] (note ∷ []) in
      more ∙ (is ∙ sym (λ i. state_note p.phase (p.stage c) ++ (s1 i ++ (n1 i ++ end_note (u i)))))

  pub announce_turned : IsTurned x recent recent p l told_on w v c a b
  announce_turned =
      let cs0 = no_commands x recent p w W l C.0 C.1 a e C.3 in
      let cs1 = commands_now in
      record {
        handle = refl;
        kind = refl;
        set_for = A.set_for;
        rises = rises_turned x recent recent p l told_on c true refl (ends_apart x recent p w W true l C.0) (omega arith);
        file = refl;
        part = refl;
        stands = ap (λ (z : Component). record (with_port y.key.port now (record z { work = None; ports = a.ports })) { notes = a.notes ++ note ∷ [] }) A.stands
            ∙ (λ i. record (standing p.phase (p.stage c) b) { commands = commands_at p.phase (p.stage c) ++ (cs0 ∙ sym cs1) i });
        notes = notes_now;
        heard_so = heard_now (heard w a) A.heard_so;
        out = A.out;
        work = λ u g. let z : None ≡ Some u = g in absurd cc;
      }

  pub announce_at : IsTurnedAt x recent recent p l told_on w v true c a b y (record y { state = now })
  announce_at = record {
    below = C.0;
    late = C.1;
    inside = end_inside x recent p w W true l C.0;
    at = refl;
    there = e;
    components = refl;
    headers = refl;
    made = refl;
    units = refl;
    streams = refl;
    given = λ n g. refl;
    kind = refl;
    works = λ port. sym (ap (λ (o : Option Work). worked_at o port) f ∙ ap (λ ns. picked_at port ns) none);
    others = λ i n. port_else free i y.key.port now (λ g. n (g ∙ first));
    port = subst (λ (j : ℕ). port_of (with_port j now free) ((x.cast).output_port l) ≡ Some (record y { state = now })) (sym first) (port_here free ((x.cast).output_port l) now y E.there);
    before = E.there;
    end = end_stated x p q l true (output_at x.cast l) (input_at x.cast l) y now
        (ap (λ (s : PortState). record s { held = true }) (E.end).state ∙ (announced_state k (link_to x.cast l (input_at x.cast l)) C.3 ∙ sym (ap (λ (z : Change). state_by true z (link_to x.cast l (input_at x.cast l))) told_here)))
        (ap (is_set_at true) step_now ∙ sym (ap (is_set_at true) C.3)) E.end;
    preference = refl;
    quiet = record { port = refl; told = λ t. absurd cc };
    state = input_state k (link_to x.cast l (output_at x.cast l)) C.3;
    set = ap (λ (m : ℕ). is_set_at false (m + 1)) C.3 ∙ sym (ap (is_set_at false) C.3);
    fewer = left_same x p q l refl refl (ap (λ (m : ℕ). nat_le m 4) step_now ∙ sym (ap (λ (m : ℕ). nat_le m 4) C.3));
    joined = λ h. ap (λ (m : ℕ). is_joined_at (m + 1)) C.3;
    half = half_now;
  }

  pub announce_plays : Sound v → IsPlayWorld x recent q v
  announce_plays S = turned x recent recent p l told_on w v true c a b y (record y { state = now }) W announce_at (inl refl) (act_reaches (x.cast).layout p (Act.Announce l) W.reached C) S
      (actor_turned x recent recent p l told_on w v c a b refl announce_turned A)

-- ---- the call

pub announce_can : (x : PlayCast) (recent : ℕ) (p : Play) (w : World) (c : ℕ) (a : Component) (work : Work) → IsPlayWorld x recent p w → c < components_of x.cast → slice_get w.components (script_place x.cast c) ≡ Some a → a.work ≡ Some work
    → work.announces ≡ true → (l : ℕ) × (giver_of x.cast l ≡ c) × CanAct (x.cast).layout p (Act.Announce l) × (work.headers ≡ [])
announce_can x recent p w c a work W b e f says =
    let K = (W.actors c a b e).work work f in
    elim K.which [
      | inl h ↦ let z : true ≡ false = sym says ∙ h.0 in absurd cc
      | inr N ↦ (N.link, (N.output).given_by, ((N.output).below, N.late, inl (K.phase, subst (λ (j : ℕ). 3 ≤ p.stage j) (sym (N.output).given_by) K.stage), N.unannounced), N.none)
    ]

announce_back : (x : PlayCast) (recent : ℕ) (p : Play) (w : World) (l : ℕ) (a : Component) (work : Work) (done : WorkDone) (v : World) → IsPlayWorld x recent p w → (C : CanAct (x.cast).layout p (Act.Announce l))
    → slice_get w.components (script_place x.cast (giver_of x.cast l)) ≡ Some a → a.work ≡ Some work → work.announces ≡ true → work.headers ≡ [] → done.component ≡ script_place x.cast (giver_of x.cast l) → IsDoneOf w a work done → Finish w done v
    → PlayLeadsTo x recent (acted (x.cast).layout (Act.Announce l) p) v
announce_back x recent p w l a work done v W C e f says none k D F =
    let i : ℕ = script_place x.cast (giver_of x.cast l) in
    let A = its x recent p w W l C.0 C.1 a e C.3 in
    let is = finished_is x recent p w W l C a e work f says none done in
    let place : place_numbered done.component w.components ≡ Some i = place_there w.numbered i done.component w.components a (W.sound).rising e (A.number ∙ sym k) in
    let F1 = at_there (place_numbered done.component w.components) (λ j. MatchOption (slice_get w.components j) ⊥ (λ y. ClosesTo (finished j y done w) v)) i place F in
    let closes = at_there (slice_get w.components i) (λ y. ClosesTo (finished i y done w) v) a e F1 in
    record {
      effect = finished i a done w;
      play = subst (λ (y : World). IsPlayWorld x recent (acted (x.cast).layout (Act.Announce l) p) y) (sym is) (announce_plays x recent p w W l C a e work f says none (subst Sound is (sound_finished w i a work done W.sound e f D)));
      closes = closes;
    }

pub announce_finished : (x : PlayCast) (recent : ℕ) (p : Play) (w : World) (c : ℕ) (a : Component) (work : Work) (done : WorkDone) (v : World) → IsPlayWorld x recent p w → c < components_of x.cast → slice_get w.components (script_place x.cast c) ≡ Some a
    → a.work ≡ Some work → work.announces ≡ true → done.component ≡ script_place x.cast c → IsDoneOf w a work done → Finish w done v
    → (l : ℕ) × (giver_of x.cast l ≡ c) × CanAct (x.cast).layout p (Act.Announce l) × PlayLeadsTo x recent (acted (x.cast).layout (Act.Announce l) p) v
announce_finished x recent p w c a work done v W b e f says k D F =
    let N = announce_can x recent p w c a work W b e f says in
    let l : ℕ = N.0 in
    let same = N.1 in
    (l, same, N.2, announce_back x recent p w l a work done v W N.2 (ap (λ (j : ℕ). slice_get w.components (script_place x.cast j)) same ∙ e) f says N.3 (k ∙ ap (λ (j : ℕ). script_place x.cast j) (sym same)) D F)
