-- A note of a change is told: that the settings changed, or the end of a disable or an enable.
use Rattle.std.proofs.Common.{◌≡◌, ◌≢◌, inl, inr, ℕ, ◌<◌, ◌≤◌, Bool, true, false, nat_le, is_some, List, [], ◌∷◌, ◌++◌, slice_get, Some, None, refl, sym, ◌∙◌, ap, subst, arith}
use Rattle.std.proofs.lemmas.Bool.{cases_eq}
use Rattle.omx_types.specs.declared.command.Event.TheVariants.{PortSettingsChanged}
use Rattle.omx_types.specs.declared.command.Note.{Note}
use Rattle.omx_types.specs.declared.command.Note.TheVariants.{Told}
use Rattle.omx_types.specs.declared.handle.Handle.{Handle}
use Rattle.il_machine.specs.declared.answer.Progress.{Progress}
use Rattle.il_machine.specs.declared.port.Port.{Port}
use Rattle.il_machine.specs.declared.port.Link.{Link}
use Rattle.il_machine.specs.Components.{noted_by}
use Rattle.il_machine.specs.Finishing.{end_note}
use Rattle.il_machine.specs.Notes.{EndNote, back_in}
use Rattle.il_machine.specs.Queued.{notes_given}
use Rattle.il_machine.specs.World.{Component, World, number_of, with_component}
use Rattle.machine_laws.proofs.Notices.{sound_ended}
use Rattle.play_model.specs.Acts.{Act, CanAct, acted}
use Rattle.play_model.specs.Changes.{Change, IsHalfChanged, port_at, told_on}
use Rattle.play_model.specs.Play.{Play, component_at}
use Rattle.play_model.proofs.Handing.{act_reaches}
use Rattle.play_world_laws.specs.Cast.{giver_of, input_at, links_of, output_at, script_place}
use Rattle.play_world_laws.specs.Standing.{commands_at, standing}
use Rattle.play_world_laws.specs.Telling.{heard, last_note, out_of, state_note}
use Rattle.play_world_laws.specs.Wiring.{link_to}
use Rattle.play_world_laws.specs.Worlds.{Names, ends_untold}
use Rattle.play_world_laws.proofs.Notes.{ended_at, heard_back, no_state_note}
use Rattle.play_world_laws.specs.Changing.{IsPast, is_joined_at, is_set_at, notes_of_port, state_by, told_of_port}
use Rattle.play_world_laws.specs.PlayWorlds.{HasHeard, IsActorAt, IsPlayWorld, PlayCast, announced_note, notes_of_end, port_notes, port_number, settings_notes, settings_of_end}
use Rattle.play_world_laws.specs.Leading.{PlayLeadsTo}
use Rattle.play_world_laws.proofs.Announced.{left_same}
use Rattle.play_world_laws.proofs.Around.{change_else, change_here, end_moves, ports_told}
use Rattle.play_world_laws.proofs.ChangeEnds.{HasEnd, end_inside, end_there, ends_apart, no_sink, one_end, source_lists}
use Rattle.play_world_laws.proofs.One.{IsTurned, IsTurnedAt, actor_turned, turned}
use Rattle.play_world_laws.proofs.Turning.{commands_turned, no_work_at, notes_turned, rises_turned}

-- ---- the note that is out, in front of those in the queue

module _ (x : PlayCast) (recent : ℕ) (p : Play) (w : World) (c : ℕ) (a : Component) (A : IsActorAt x recent p w c a) (o : a.client_out ≡ true) where
  pub front : (n : Note) → last_note (notes_given (number_of a) w) ≡ n ∷ [] → n ∷ a.notes ≡ state_note p.phase (p.stage c) ++ (settings_notes x.cast p c ++ (port_notes x.cast p c ++ end_note (ends_untold x.cast p c)))
  front n e = sym (ap (λ (g : List Note). g ++ a.notes) e) ∙ (sym (ap (λ (b : Bool). out_of b (notes_given (number_of a) w) ++ a.notes) o) ∙ A.notes)

-- ---- the settings

module _ (x : PlayCast) (recent : ℕ) (p : Play) (w : World) (W : IsPlayWorld x recent p w) (l : ℕ) (C : CanAct (x.cast).layout p (Act.TellSettings l)) (a : Component) (e : slice_get w.components (script_place x.cast (giver_of x.cast l)) ≡ Some a)
    (o : a.client_out ≡ true) (n : Note) (last : last_note (notes_given (number_of a) w) ≡ n ∷ []) where
  abbrev c : ℕ
  c = giver_of x.cast l

  abbrev q : Play
  q = acted (x.cast).layout (Act.TellSettings l) p

  abbrev k : Change
  k = p.change l

  abbrev b : Component
  b = back_in a

  abbrev v : World
  v = with_component (script_place x.cast c) b w

  A : IsActorAt x recent p w c a
  A = W.actors c a (end_inside x recent p w W true l C.0) e

  abbrev E : HasEnd x p l true a
  E = end_there x recent p w W true l c a C.0 refl e

  abbrev y : Port
  y = E.port

  apart : component_at (x.cast).layout false l ≢ c
  apart = ends_apart x recent p w W true l C.0

  untouched : k.output ≡ 0
  untouched = (((W.reached).changes l C.0).order).output_unsent (let s = C.3 in omega arith)

  two : (told_on k).step ≡ 2
  two = let s = C.3 in omega arith

  settings_now : settings_notes x.cast p c ≡ Told (PortSettingsChanged ((x.cast).output_port l)) ∷ []
  settings_now = source_lists x recent p w W l C.0 C.1 c refl a e A (settings_of_end x.cast p) ∙ ap (λ (m : ℕ). announced_note m ((x.cast).output_port l)) C.3

  settings_then : settings_notes x.cast q c ≡ []
  settings_then = source_lists x recent p w W l C.0 C.1 c refl a e A (settings_of_end x.cast q)
      ∙ (ap (λ (z : Change). announced_note z.step ((x.cast).output_port l)) (change_here l told_on p) ∙ ap (λ (m : ℕ). announced_note m ((x.cast).output_port l)) two)

  notes_now : port_notes x.cast p c ≡ []
  notes_now = source_lists x recent p w W l C.0 C.1 c refl a e A (notes_of_end x.cast p) ∙ ap (λ (m : ℕ). notes_of_port m ((x.cast).output_port l)) untouched

  untold : ends_untold x.cast p c ≡ false
  untold =
      let s : ((x.cast).layout).is_sink c ≡ false = sym A.sink ∙ no_sink x recent p w W l C.0 C.1 c refl a e A in
      rw s refl

  split : n ∷ a.notes ≡ Told (PortSettingsChanged ((x.cast).output_port l)) ∷ []
  split =
      let s0 = no_state_note p.phase (p.stage c) C.2 in
      let s1 = settings_now in
      let s2 = notes_now in
      let s3 = untold in
      front x recent p w c a A o n last ∙ (λ i. s0 i ++ (s1 i ++ (s2 i ++ end_note (s3 i))))

  heard_now : HasHeard x.cast recent q c (heard v b)
  heard_now =
      let is : n ≡ Told (PortSettingsChanged ((x.cast).output_port l)) = let s = split in cc in
      let h : heard v b ≡ record (heard w a) { settings = Some ((x.cast).output_port l) } = heard_back w (script_place x.cast c) a n o last ∙ ap (λ (m : Note). noted_by m (heard w a)) is in
      let H = A.heard_so in
      let ended = no_state_note p.phase (p.stage c) C.2 in
      subst (λ (z : Progress). HasHeard x.cast recent q c z) (sym h) (record {
        state = H.state;
        eos = H.eos;
        error = H.error;
        settings = λ j O t.
            let s : j ≡ l = (one_end x recent p w W l C.0 C.1 c refl a e A true j O.below O.given_by).0 in
            let z : nat_le 2 (q.change l).step ≡ true = ap (λ (r : Change). nat_le 2 r.step) (change_here l told_on p) ∙ ap (nat_le 2) two in
            sym (subst (λ (i : ℕ). nat_le 2 (q.change i).step ≡ true) (sym s) z);
        port = λ s d g t u.
            let r = one_end x recent p w W l C.0 C.1 c refl a e A s recent d g in
            let z : (q.change l).output ≡ 0 = ap (λ (r : Change). r.output) (change_here l told_on p) ∙ untouched in
            let m : is_some (told_of_port (port_at true (q.change l)) (port_number x.cast true l)) ≡ true =
            subst (λ (i : Bool). is_some (told_of_port (port_at i (q.change l)) (port_number x.cast i l)) ≡ true) r.1 (subst (λ (i : ℕ). is_some (told_of_port (port_at s (q.change i)) (port_number x.cast s i)) ≡ true) r.0 u) in
            let f : false ≡ true = sym (ap (λ (i : ℕ). is_some (told_of_port i (port_number x.cast true l))) z) ∙ m in
            absurd cc;
        past = λ s j d g t.
            let r = H.past s j d g t in
            subst (λ (z : ℕ). IsPast z (port_number x.cast s j) (heard w a).port) (sym (ports_told l p s j)) r;
        nothing = λ none. let f : true ≡ false = sym C.1 ∙ none l (inr (record { below = C.0; given_by = refl })) in absurd cc;
      })

  half_now : (j : ℕ) → j < links_of x.cast → ((x.cast).layout).is_late j ≡ true → IsHalfChanged (q.change j) → j ≡ recent
  half_now j m t h = elim (cases_eq j l) [
    | inl s ↦
        let g : 3 ≤ (told_on k).step = subst (λ (z : Change). 3 ≤ z.step) (change_here l told_on p) (subst (λ (i : ℕ). 3 ≤ (q.change i).step) s h.0) in
        absurd (omega (arith, two))
    | inr d ↦ W.half j m t (subst (λ (z : Change). IsHalfChanged z) (change_else l told_on p j d) h)
  ]

  other_state : (link : Link) (s : Bool) → state_by s (told_on k) link ≡ state_by s k link
  other_state link true = ap (λ m. state_by true (told_on (record k { step = m })) link) C.3 ∙ sym (ap (λ m. state_by true (record k { step = m }) link) C.3)
  other_state link false = ap (λ m. state_by false (told_on (record k { step = m })) link) C.3 ∙ sym (ap (λ m. state_by false (record k { step = m }) link) C.3)

  settings_turn : IsTurned x recent recent p l told_on w v c a b
  settings_turn =
      let cs = commands_turned x recent recent p l told_on c true refl apart refl in
      let ns = notes_turned x recent recent p l told_on c true refl apart refl in
      let rest : a.notes ≡ [] = let s = split in cc in
      let s0 = no_state_note p.phase (p.stage c) C.2 in
      let s1 = settings_then in
      let s2 = notes_now in
      let s3 = untold in
      record {
        handle = refl;
        kind = refl;
        set_for = A.set_for;
        rises = rises_turned x recent recent p l told_on c true refl apart (omega arith);
        file = refl;
        part = refl;
        stands = ap (λ (z : Component). record z { client_out = false }) A.stands ∙ (λ i. record (standing p.phase (p.stage c) b) { commands = commands_at p.phase (p.stage c) ++ sym cs i });
        notes = rest ∙ sym (λ i. s0 i ++ (s1 i ++ ((ns ∙ s2) i ++ end_note (s3 i))));
        heard_so = heard_now;
        out = λ t. let f : false ≡ true = t in absurd cc;
        work = λ work f.
            let none = no_work_at x recent p w W l C.0 C.1 c true refl a e A (let z = untouched in omega arith) (let s = C.3 in omega arith) in
            let z : None ≡ Some work = sym none ∙ f in
            absurd cc;
      }

  settings_at_end : IsTurnedAt x recent recent p l told_on w v true c a b y y
  settings_at_end = record {
    below = C.0;
    late = C.1;
    inside = end_inside x recent p w W true l C.0;
    at = refl;
    there = e;
    components = refl;
    headers = refl;
    made = refl;
    units = refl;
    streams = refl;
    given = λ m g. refl;
    kind = refl;
    works = λ port. refl;
    others = λ i m. refl;
    port = E.there;
    before = E.there;
    end = end_moves x p q l true (output_at x.cast l) (input_at x.cast l) y (ap (λ (z : Change). state_by true z (link_to x.cast l (input_at x.cast l))) (change_here l told_on p) ∙ other_state (link_to x.cast l (input_at x.cast l)) true)
        (ap (λ (z : Change). is_set_at true z.step) (change_here l told_on p) ∙ (ap (is_set_at true) two ∙ sym (ap (is_set_at true) C.3))) E.end;
    preference = refl;
    quiet = record { port = refl; told = λ t. absurd cc };
    state = other_state (link_to x.cast l (output_at x.cast l)) false;
    set = ap (is_set_at false) two ∙ sym (ap (is_set_at false) C.3);
    fewer = left_same x p q l refl refl (ap (λ (z : Change). nat_le z.step 4) (change_here l told_on p) ∙ (ap (λ (m : ℕ). nat_le m 4) two ∙ sym (ap (λ (m : ℕ). nat_le m 4) C.3)));
    joined = λ h. ap is_joined_at two;
    half = half_now;
  }

  pub settings_told : IsPlayWorld x recent q v
  settings_told = turned x recent recent p l told_on w v true c a b y y W settings_at_end (inl refl) (act_reaches (x.cast).layout p (Act.TellSettings l) W.reached C) (sound_ended w (script_place x.cast c) a W.sound e)
      (actor_turned x recent recent p l told_on w v c a b refl settings_turn A)

pub settings_lead : (x : PlayCast) (recent : ℕ) (p : Play) (w : World) (l : ℕ) (h : Handle) (v : World) (a : Component) → IsPlayWorld x recent p w → CanAct (x.cast).layout p (Act.TellSettings l) → Names x.cast w (giver_of x.cast l) h
    → slice_get w.components (script_place x.cast (giver_of x.cast l)) ≡ Some a → a.client_out ≡ true → EndNote w h v → PlayLeadsTo x recent (acted (x.cast).layout (Act.TellSettings l) p) v
settings_lead x recent p w l h v a W C N e o s =
    let A = W.actors (giver_of x.cast l) a (end_inside x recent p w W true l C.0) e in
    let n = A.out o in
    record { effect = with_component (script_place x.cast (giver_of x.cast l)) (back_in a) w; play = settings_told x recent p w W l C a e o n.0 n.1; closes = ended_at w h v (script_place x.cast (giver_of x.cast l)) a N e s }

-- ---- the end of a disable or an enable
