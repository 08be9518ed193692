-- The end of a disable or an enable is told.
use Rattle.std.proofs.Common.{◌≡◌, ◌≢◌, inl, inr, ℕ, ◌+◌, ◌<◌, ◌≤◌, Bool, true, false, not, nat_le, [], ◌∷◌, ◌++◌, slice_get, Option, Some, refl, sym, ◌∙◌, ap, subst, arith}
use Rattle.std.proofs.lemmas.Bool.{cases_eq}
use Rattle.omx_types.specs.declared.command.Completion.{Completion}
use Rattle.omx_types.specs.declared.command.Completion.TheVariants as completions
use Rattle.omx_types.specs.declared.command.Event.TheVariants.{CmdComplete}
use Rattle.omx_types.specs.declared.command.Note.{Note}
use Rattle.omx_types.specs.declared.command.Note.TheVariants.{Told}
use Rattle.omx_types.specs.declared.handle.Handle.{Handle}
use Rattle.il_machine.specs.declared.answer.Progress.{Progress}
use Rattle.il_machine.specs.declared.port.Port.{Port}
use Rattle.il_machine.specs.Components.{noted_by}
use Rattle.il_machine.specs.Finishing.{end_note}
use Rattle.il_machine.specs.Notes.{EndNote, back_in}
use Rattle.il_machine.specs.Queued.{notes_given}
use Rattle.il_machine.specs.World.{Component, World, number_of, with_component}
use Rattle.machine_laws.proofs.Notices.{sound_ended}
use Rattle.play_model.specs.Acts.{Act, CanAct, acted}
use Rattle.play_model.specs.Changes.{Change, HasCompletion, IsHalfChanged, IsInOrder, port_at, port_on}
use Rattle.play_model.specs.Play.{Play, component_at}
use Rattle.play_model.proofs.Handing.{act_reaches}
use Rattle.play_model.specs.Progress.{IsLinkOf}
use Rattle.play_world_laws.specs.Cast.{links_of, script_place}
use Rattle.play_world_laws.specs.Standing.{commands_at, standing}
use Rattle.play_world_laws.specs.Telling.{heard, last_note, state_note}
use Rattle.play_world_laws.specs.Wiring.{link_to}
use Rattle.play_world_laws.specs.Worlds.{Names, ends_untold}
use Rattle.play_world_laws.proofs.Notes.{ended_at, heard_back, no_state_note}
use Rattle.play_world_laws.specs.Changing.{IsPast, commands_of_port, is_joined_at, is_set_at, notes_of_port, state_by, told_of_port}
use Rattle.play_world_laws.specs.PlayWorlds.{HasHeard, IsActorAt, IsPlayWorld, PlayCast, announced_note, end_of_link, port_number, settings_notes}
use Rattle.play_world_laws.proofs.Ports.{other_state, told_state}
use Rattle.play_world_laws.specs.Leading.{PlayLeadsTo}
use Rattle.play_world_laws.proofs.Announced.{left_same}
use Rattle.play_world_laws.proofs.Around.{change_else, change_here, end_moves, ends_differ}
use Rattle.play_world_laws.proofs.ChangeEnds.{HasEnd, end_inside, end_there, ends_apart}
use Rattle.play_world_laws.proofs.One.{IsTurned, IsTurnedAt, actor_turned, turned}
use Rattle.play_world_laws.proofs.Telling.{front}
use Rattle.play_world_laws.proofs.Turning.{all_told, alone_half, commands_turned, half_of, half_stays, is_recent, notes_after, notes_here, port_next, port_other, ports_turned, settings_at, settings_here, settings_turned, step_stays, which, rises_turned}

-- which port a disable or an enable is told of
abbrev pub told_number : Option Completion → ℕ
told_number (Some (completions.Disable m)) = m
told_number (Some (completions.Enable m)) = m
told_number _ = 0

-- what is queued, and told once that is heard
pub record IsCompletion (n port : ℕ) : Type 0 where
  pub completion : Completion
  pub queued : notes_of_port n port ≡ Told (CmdComplete completion) ∷ []
  pub told : told_of_port (n + 1) port ≡ Some completion
  pub named : told_number (Some completion) ≡ port
  pub past : IsPast (n + 1) port (Some completion)
  pub heard_as : (h : Progress) → noted_by (Told (CmdComplete completion)) h ≡ record h { port = Some completion }
  pub quiet : notes_of_port (n + 1) port ≡ []
  pub commanded : commands_of_port (n + 1) port ≡ commands_of_port n port

pub completion_is : (n port : ℕ) → HasCompletion n → IsCompletion n port
completion_is n port (inl e) = subst (λ (m : ℕ). IsCompletion m port) (sym e) (record { completion = completions.Disable port; queued = refl; told = refl; named = refl; past = (λ f. omega arith, λ f. cc); heard_as = λ h. refl; quiet = refl; commanded = refl })
completion_is n port (inr e) = subst (λ (m : ℕ). IsCompletion m port) (sym e) (record { completion = completions.Enable port; queued = refl; told = refl; named = refl; past = (λ f. omega arith, λ f. omega arith); heard_as = λ h. refl; quiet = refl; commanded = refl })

completing : (n : ℕ) → HasCompletion n → (1 ≤ n) × (n < 8)
completing n (inl e) = (omega arith, omega arith)
completing n (inr e) = (omega arith, omega arith)

module _ (x : PlayCast) (recent : ℕ) (p : Play) (w : World) (W : IsPlayWorld x recent p w) (l : ℕ) (o : Bool) (C : CanAct (x.cast).layout p (Act.TellPort l o)) (a : Component)
    (e : slice_get w.components (script_place x.cast (component_at (x.cast).layout o l)) ≡ Some a) (out : a.client_out ≡ true) (n : Note) (last : last_note (notes_given (number_of a) w) ≡ n ∷ []) where
  abbrev c : ℕ
  c = component_at (x.cast).layout o l

  abbrev q : Play
  q = acted (x.cast).layout (Act.TellPort l o) p

  abbrev k : Change
  k = p.change l

  abbrev port : ℕ
  port = port_number x.cast o l

  abbrev b : Component
  b = back_in a

  abbrev v : World
  v = with_component (script_place x.cast c) b w

  A : IsActorAt x recent p w c a
  A = W.actors c a (end_inside x recent p w W o l C.0) e

  abbrev E : HasEnd x p l o a
  E = end_there x recent p w W o l c a C.0 refl e

  abbrev y : Port
  y = E.port

  ordered : IsInOrder k
  ordered = ((W.reached).changes l C.0).order

  half : IsHalfChanged k
  half = let m = completing (port_at o k) C.2 in half_of k ordered o m.0 m.1

  alone : (j : ℕ) → j < links_of x.cast → ((x.cast).layout).is_late j ≡ true → IsHalfChanged (p.change j) → j ≡ l
  alone = alone_half x recent p w W l C.0 C.1 half

  apart : component_at (x.cast).layout (not o) l ≢ c
  apart = ends_apart x recent p w W o l C.0

  D : IsCompletion (port_at o k) port
  D = completion_is (port_at o k) port C.2

  here : port_at o (port_on o k) ≡ port_at o k + 1
  here = port_next o k

  no_state : state_note p.phase (p.stage c) ≡ []
  no_state = no_state_note p.phase (p.stage c) (let s = (all_told x recent p w W l C.0 C.1 half).1 c (end_inside x recent p w W o l C.0) in omega arith)

  no_settings : settings_notes x.cast p c ≡ []
  no_settings = settings_here x recent p w W l C.0 C.1 c o refl a e A (let s = half.0 in omega arith)

  settings_stay : settings_notes x.cast q c ≡ settings_notes x.cast p c
  settings_stay = settings_turned x recent recent p l (port_on o) c o refl apart (same o)
    where
      same : (s : Bool) → settings_at x.cast s l (port_on o k) ≡ settings_at x.cast s l k
      same true = ap (λ (m : ℕ). announced_note m ((x.cast).output_port l)) (step_stays o k)
      same false = refl

  split : n ∷ a.notes ≡ Told (CmdComplete D.completion) ∷ end_note (ends_untold x.cast p c)
  split =
      let s0 = no_state in
      let s1 = no_settings in
      let s2 = notes_here x recent p w W l C.0 C.1 c o refl a e A alone ∙ D.queued in
      front x recent p w c a A out n last ∙ (λ i. s0 i ++ (s1 i ++ (s2 i ++ end_note (ends_untold x.cast p c))))

  told_now : told_of_port (port_at o (q.change l)) port ≡ Some D.completion
  told_now = ap (λ (z : Change). told_of_port (port_at o z) port) (change_here l (port_on o) p) ∙ (ap (λ (m : ℕ). told_of_port m port) here ∙ D.told)

  step_same : (j : ℕ) → (q.change j).step ≡ (p.change j).step
  step_same j = elim (cases_eq j l) [
    | inl s ↦ subst (λ (i : ℕ). (q.change i).step ≡ (p.change i).step) (sym s) (ap (λ (z : Change). z.step) (change_here l (port_on o) p) ∙ step_stays o k)
    | inr d ↦ ap (λ (z : Change). z.step) (change_else l (port_on o) p j d)
  ]

  its_link : (s : Bool) → o ≡ s → IsLinkOf ((x.cast).layout).network c l
  its_link true s = inr (record { below = C.0; given_by = subst (λ (v : Bool). component_at (x.cast).layout v l ≡ c) s refl })
  its_link false s = inl (record { below = C.0; taken_by = subst (λ (v : Bool). component_at (x.cast).layout v l ≡ c) s refl })

  -- no other port of the component has this number
  apart_number : (s : Bool) (j : ℕ) → j < links_of x.cast → j ≢ l → component_at (x.cast).layout s j ≡ c → port_number x.cast s j ≢ port
  apart_number s j d m g f = ends_differ x.cast W.cast_is s o j l d C.0 m (key_is s j ∙ ((λ i. record { component = script_place x.cast (g i); port = f i }) ∙ sym (key_is o l)))
    where
      key_is : (s : Bool) (j : ℕ) → end_of_link x.cast s j ≡ record { component = script_place x.cast (component_at (x.cast).layout s j); port = port_number x.cast s j }
      key_is true j = refl
      key_is false j = refl

  past_now : (s : Bool) (j : ℕ) → j < links_of x.cast → component_at (x.cast).layout s j ≡ c → ((x.cast).layout).is_late j ≡ true → IsPast (port_at s (q.change j)) (port_number x.cast s j) (Some D.completion)
  past_now s j d g t = elim (which x recent recent p l (port_on o) c o refl apart s j g) [
    | inl z ↦
        let f : IsPast (port_at o (q.change l)) (port_number x.cast o l) (Some D.completion) = subst (λ (m : ℕ). IsPast m port (Some D.completion)) (sym (ap (port_at o) (change_here l (port_on o) p) ∙ here)) D.past in
        let r : IsPast (port_at s (q.change l)) (port_number x.cast s l) (Some D.completion) = subst (λ (i : Bool). IsPast (port_at i (q.change l)) (port_number x.cast i l) (Some D.completion)) (sym z.1) f in
        subst (λ (i : ℕ). IsPast (port_at s (q.change i)) (port_number x.cast s i) (Some D.completion)) (sym z.0) r
    | inr n ↦
        let m = apart_number s j d n g in
        let r = D.named in
        (λ f. absurd (m (ap (told_number) (sym f) ∙ r)), λ f. absurd (m (ap (told_number) (sym f) ∙ r)))
  ]

  heard_now : HasHeard x.cast recent q c (heard v b)
  heard_now =
      let is : n ≡ Told (CmdComplete D.completion) = let s = split in cc in
      let h : heard v b ≡ record (heard w a) { port = Some D.completion } = heard_back w (script_place x.cast c) a n out last ∙ (ap (λ (m : Note). noted_by m (heard w a)) is ∙ D.heard_as (heard w a)) in
      let H = A.heard_so in
      subst (λ (z : Progress). HasHeard x.cast recent q c z) (sym h) (record {
        state = H.state;
        eos = H.eos;
        error = H.error;
        settings = λ j O t. H.settings j O t ∙ sym (ap (nat_le 2) (step_same j));
        port = λ s d g t u.
            let r : recent ≡ l = sym (is_recent x recent p w W l C.0 C.1 half) in
            elim (which x recent recent p l (port_on o) c o refl apart s recent g) [
              | inl z ↦
                  let f : told_of_port (port_at s (q.change l)) (port_number x.cast s l) ≡ Some D.completion = subst (λ (i : Bool). told_of_port (port_at i (q.change l)) (port_number x.cast i l) ≡ Some D.completion) (sym z.1) told_now in
                  sym (subst (λ (i : ℕ). told_of_port (port_at s (q.change i)) (port_number x.cast s i) ≡ Some D.completion) (sym r) f)
              | inr z ↦ absurd (z r)
            ];
        past = past_now;
        nothing = λ none. let f : true ≡ false = sym C.1 ∙ none l (its_link o refl) in absurd cc;
      })

  complete_turn : IsTurned x recent recent p l (port_on o) w v c a b
  complete_turn =
      let cs = commands_turned x recent recent p l (port_on o) c o refl apart (ap (λ (m : ℕ). commands_of_port m port) here ∙ D.commanded) in
      let rest : a.notes ≡ end_note (ends_untold x.cast p c) = let s = split in cc in
      let s0 = no_state in
      let s1 = settings_stay ∙ no_settings in
      let s2 = notes_after x recent p w W l C.0 C.1 c o refl a e A alone (port_on o) ∙ (ap (λ (m : ℕ). notes_of_port m port) here ∙ D.quiet) in
      record {
        handle = refl;
        kind = refl;
        set_for = A.set_for;
        rises = rises_turned x recent recent p l (port_on o) c o refl apart (let m = here in omega arith);
        file = refl;
        part = refl;
        stands = ap (λ (z : Component). record z { client_out = false }) A.stands ∙ (λ i. record (standing p.phase (p.stage c) b) { commands = commands_at p.phase (p.stage c) ++ sym cs i });
        notes = rest ∙ sym (λ i. s0 i ++ (s1 i ++ (s2 i ++ end_note (ends_untold x.cast p c))));
        heard_so = heard_now;
        out = λ t. let f : false ≡ true = t in absurd cc;
        work = λ work f.
            let K = A.work work f in
            record {
              phase = K.phase;
              stage = K.stage;
              going = K.going;
              gain = K.gain;
              weights = K.weights;
              which = elim K.which [
                | inl h ↦ inl (h.0, ports_turned x recent recent p l (port_on o) c o refl apart (let m = here in omega arith) h.1, h.2)
                | inr N ↦ inr (record { link = N.link; output = N.output; late = N.late; unannounced = step_same N.link ∙ N.unannounced; none = N.none; announces = N.announces })
              ];
            };
      }

  complete_at_end : IsTurnedAt x recent recent p l (port_on o) w v o c a b y y
  complete_at_end =
      let link = link_to x.cast l (end_of_link x.cast (not o) l) in
      record {
        below = C.0;
        late = C.1;
        inside = end_inside x recent p w W o l C.0;
        at = refl;
        there = e;
        components = refl;
        headers = refl;
        made = refl;
        units = refl;
        streams = refl;
        given = λ m g. refl;
        kind = refl;
        works = λ i. refl;
        others = λ i m. refl;
        port = E.there;
        before = E.there;
        end = end_moves x p q l o (end_of_link x.cast o l) (end_of_link x.cast (not o) l) y (ap (λ (z : Change). state_by o z link) (change_here l (port_on o) p) ∙ told_state k link o C.2)
            (ap (is_set_at o) (step_same l)) E.end;
        preference = refl;
        quiet = record { port = port_other o k; told = λ t. (let s = half.0 in omega arith, let s = half.0 in let m = step_stays o k in omega arith) };
        state = other_state k (link_to x.cast l (end_of_link x.cast o l)) o;
        set = ap (is_set_at (not o)) (step_stays o k);
        fewer = left_same x p q l refl refl (ap (λ (m : ℕ). nat_le m 4) (step_same l));
        joined = λ h. ap is_joined_at (step_stays o k) ∙ h;
        half = half_stays x recent p w W l C.0 C.1 half (port_on o);
      }

  pub completion_told : IsPlayWorld x recent q v
  completion_told = turned x recent recent p l (port_on o) w v o c a b y y W complete_at_end (inl refl) (act_reaches (x.cast).layout p (Act.TellPort l o) W.reached C) (sound_ended w (script_place x.cast c) a W.sound e)
      (actor_turned x recent recent p l (port_on o) w v c a b refl complete_turn A)

pub completion_leads : (x : PlayCast) (recent : ℕ) (p : Play) (w : World) (l : ℕ) (o : Bool) (h : Handle) (v : World) (a : Component) → IsPlayWorld x recent p w → CanAct (x.cast).layout p (Act.TellPort l o) → Names x.cast w (component_at (x.cast).layout o l) h
    → slice_get w.components (script_place x.cast (component_at (x.cast).layout o l)) ≡ Some a → a.client_out ≡ true → EndNote w h v → PlayLeadsTo x recent (acted (x.cast).layout (Act.TellPort l o) p) v
completion_leads x recent p w l o h v a W C N e out s =
    let i : ℕ = script_place x.cast (component_at (x.cast).layout o l) in
    let A = W.actors (component_at (x.cast).layout o l) a (end_inside x recent p w W o l C.0) e in
    let n = A.out out in
    record { effect = with_component i (back_in a) w; play = completion_told x recent p w W l o C a e out n.0 n.1; closes = ended_at w h v i a N e s }
