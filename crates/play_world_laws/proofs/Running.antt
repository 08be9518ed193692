-- A component runs the disable or enable that is queued at it.
use Rattle.std.proofs.Common.{◌≡◌, ◌≢◌, ◌⊎◌, inl, inr, ℕ, zero, suc, ◌+◌, ◌<◌, ◌≤◌, Bool, true, false, not, nat_le, List, [], ◌∷◌, ◌++◌, slice_get, Some, None, Result, Ok, refl, sym, ◌∙◌, ap, subst, eqb-true, arith}
use Rattle.std.proofs.lemmas.Bool.{cases_eq}
use Rattle.omx_types.specs.declared.command.Command.{Command}
use Rattle.omx_types.specs.declared.command.PortSel.{PortSel}
use Rattle.omx_types.specs.declared.command.PortSel.TheVariants.{One}
use Rattle.omx_types.specs.declared.error.OmxError.{OmxError}
use Rattle.omx_types.specs.declared.handle.Handle.{Handle}
use Rattle.il_machine.specs.declared.answer.Acted.{Acted}
use Rattle.il_machine.specs.declared.answer.Acted.TheVariants as acted_as
use Rattle.il_machine.specs.declared.port.Link.{Link}
use Rattle.il_machine.specs.declared.port.Port.{Port}
use Rattle.il_machine.specs.declared.port.PortKey.{PortKey}
use Rattle.il_machine.specs.declared.port.PortState.{PortState}
use Rattle.il_machine.specs.Answers.{Acts, plain}
use Rattle.il_machine.specs.Commands.{RunCommand, busy_port, carried_out, disabling, enabling, is_changing, is_selected, run_front, run_idle, run_reason, with_selected}
use Rattle.il_machine.specs.Finishing.{end_note}
use Rattle.il_machine.specs.Look.{look}
use Rattle.il_machine.specs.Sound.{Sound}
use Rattle.il_machine.specs.World.{Component, World, port_of, ports_of, with_component, with_port}
use Rattle.machine_laws.proofs.Change.{out_there, sound_taking_units}
use Rattle.machine_laws.proofs.Finding.{either}
use Rattle.machine_laws.proofs.Lookups.{port_parts}
use Rattle.machine_laws.proofs.Parts.{parts_of}
use Rattle.machine_laws.proofs.Running.{change_run, fair_run, sound_run}
use Rattle.machine_laws.proofs.Units.{resources_of}
use Rattle.play_model.specs.Acts.{Act, CanAct, acted}
use Rattle.play_model.specs.Changes.{Change, HasCommand, IsHalfChanged, port_at, port_on}
use Rattle.play_model.specs.Play.{Play, component_at}
use Rattle.play_model.proofs.Handing.{act_reaches}
use Rattle.play_world_laws.specs.Cast.{components_of, links_of, script_place}
use Rattle.play_world_laws.specs.Standing.{commands_at, standing}
use Rattle.play_world_laws.specs.Telling.{heard, state_note}
use Rattle.play_world_laws.specs.Wiring.{link_to}
use Rattle.play_world_laws.specs.Worlds.{Names, ends_untold}
use Rattle.play_world_laws.proofs.Lists.{resolved}
use Rattle.play_world_laws.proofs.Runs.{did, did_none}
use Rattle.play_world_laws.specs.Changing.{commands_of_port, is_joined_at, is_set_at, notes_of_port, state_by, told_of_port}
use Rattle.play_world_laws.specs.PlayWorlds.{IsActorAt, IsPlayWorld, PlayCast, announced_note, commands_of_end, end_of_link, port_commands, port_number, settings_notes}
use Rattle.play_world_laws.proofs.Ports.{disabling_state, enabling_state, other_state}
use Rattle.play_world_laws.specs.Conducting.{port_command}
use Rattle.play_world_laws.specs.Leading.{PlayLeadsTo}
use Rattle.play_world_laws.proofs.Announced.{left_same}
use Rattle.play_world_laws.proofs.Around.{change_here, end_stated}
use Rattle.play_world_laws.proofs.ChangeEnds.{HasEnd, actor_there, end_inside, end_there, ends_apart}
use Rattle.play_world_laws.proofs.QueuedLists.{links_some}
use Rattle.play_world_laws.proofs.One.{IsTurned, IsTurnedAt, actor_turned, turned}
use Rattle.play_world_laws.proofs.ChangedPorts.{port_else, port_here, selected_one}
use Rattle.play_world_laws.proofs.Standing.{commands_are, late_commands_are}
use Rattle.play_world_laws.proofs.Turning.{all_told, alone_half, commands_after, commands_here, half_of, half_stays, heard_turned, no_work_at, notes_turned, port_next, port_other, settings_at, settings_turned, step_stays, rises_turned}

abbrev changes_port : Bool → PortState → PortState
changes_port true s = disabling s
changes_port false s = enabling s

-- ---- the port before and after

pub record IsCarried (o disables : Bool) (k : Change) : Type 0 where
  pub queued : (j : ℕ) → commands_of_port (port_at o k) j ≡ port_command disables j ∷ []
  pub done : (j : ℕ) → commands_of_port (port_at o (port_on o k)) j ≡ []
  pub notes : (j : ℕ) → notes_of_port (port_at o (port_on o k)) j ≡ notes_of_port (port_at o k) j
  pub told : (j : ℕ) → told_of_port (port_at o (port_on o k)) j ≡ told_of_port (port_at o k) j
  pub steady : (link : Link) → is_changing (state_by o k link) ≡ false
  pub state : (link : Link) → changes_port disables (state_by o k link) ≡ state_by o (port_on o k) link
  pub some : 1 ≤ port_at o k
  pub unsteady : port_at o k < 7

after_port : {B : Type 0} (f : ℕ → B) (o : Bool) (k : Change) (n : ℕ) → port_at o k ≡ n → f (port_at o (port_on o k)) ≡ f (n + 1)
after_port f o k n e = ap f (port_next o k) ∙ ap (λ m. f (m + 1)) e

carried_by : (o : Bool) (k : Change) → HasCommand (port_at o k) → (disables : Bool) × IsCarried o disables k
carried_by o k (inl e) = (
  true,
  record {
    queued = λ j. ap (λ m. commands_of_port m j) e;
    done = λ j. after_port (λ m. commands_of_port m j) o k 1 e;
    notes = λ j. after_port (λ m. notes_of_port m j) o k 1 e ∙ sym (ap (λ m. notes_of_port m j) e);
    told = λ j. after_port (λ m. told_of_port m j) o k 1 e ∙ sym (ap (λ m. told_of_port m j) e);
    steady = λ link. rw e refl;
    state = λ link. disabling_state k link o e;
    some = omega arith;
    unsteady = omega arith;
  },
)
carried_by o k (inr e) = (
  false,
  record {
    queued = λ j. ap (λ m. commands_of_port m j) e;
    done = λ j. after_port (λ m. commands_of_port m j) o k 5 e;
    notes = λ j. after_port (λ m. notes_of_port m j) o k 5 e ∙ sym (ap (λ m. notes_of_port m j) e);
    told = λ j. after_port (λ m. told_of_port m j) o k 5 e ∙ sym (ap (λ m. told_of_port m j) e);
    steady = λ link. rw e refl;
    state = λ link. enabling_state k link o e;
    some = omega arith;
    unsteady = omega arith;
  },
)

not_busy : (sel : PortSel) (test : PortState → Bool) (ps : List Port) → ((i : ℕ) (y : Port) → slice_get ps i ≡ Some y → is_selected sel y.key.port ≡ true → test y.state ≡ false) → busy_port sel test ps ≡ None
not_busy sel test [] h = refl
not_busy sel test (y ∷ ps) h =
    let i = not_busy sel test ps (λ i z e. h (suc i) z e) in
    either (is_selected sel y.key.port)
    (λ t. let f = h 0 y refl t in rw (t, f) i)
    (λ t. rw t i)

-- ---- the command that runs

module _ (x : PlayCast) (recent : ℕ) (p : Play) (w : World) (W : IsPlayWorld x recent p w) (l : ℕ) (o : Bool) (C : CanAct (x.cast).layout p (Act.RunPort l o)) (a : Component)
    (e : slice_get w.components (script_place x.cast (component_at (x.cast).layout o l)) ≡ Some a) where
  abbrev c : ℕ
  c = component_at (x.cast).layout o l

  abbrev q : Play
  q = acted (x.cast).layout (Act.RunPort l o) p

  abbrev k : Change
  k = p.change l

  abbrev port : ℕ
  port = port_number x.cast o l

  abbrev i : ℕ
  i = script_place x.cast c

  inside : c < components_of x.cast
  inside = end_inside x recent p w W o l C.0

  A : IsActorAt x recent p w c a
  A = W.actors c a inside e

  abbrev E : HasEnd x p l o a
  E = end_there x recent p w W o l c a C.0 refl e

  abbrev y : Port
  y = E.port

  pub S : (disables : Bool) × IsCarried o disables k
  S = carried_by o k C.2

  abbrev d : Bool
  d = S.0

  half : IsHalfChanged k
  half = half_of k ((W.reached).changes l C.0).order o (S.1).some (let m = (S.1).unsteady in omega arith)

  alone : (j : ℕ) → j < links_of x.cast → ((x.cast).layout).is_late j ≡ true → IsHalfChanged (p.change j) → j ≡ l
  alone = alone_half x recent p w W l C.0 C.1 half

  apart : component_at (x.cast).layout (not o) l ≢ c
  apart = ends_apart x recent p w W o l C.0

  four : p.stage c ≡ 4
  four = (all_told x recent p w W l C.0 C.1 half).1 c inside

  pub queued : a.commands ≡ port_command d port ∷ []
  queued = late_commands_are x recent p w c a A (let s = four in omega arith) ∙ (commands_here x recent p w W l C.0 C.1 c o refl a e A alone ∙ (S.1).queued port)

  free : a.work ≡ None
  free = no_work_at x recent p w W l C.0 C.1 c o refl a e A (S.1).unsteady (let s = half.0 in omega arith)

  idle_by : (r : Bool) → r ≡ d → busy_port (One port) is_changing (ports_of a) ≡ None → run_reason a (port_command r port) ≡ None
  idle_by true z h = h
  idle_by false z h = h

  none_busy : busy_port (One port) is_changing (ports_of a) ≡ None
  none_busy = not_busy (One port) is_changing (ports_of a) (λ j z f t.
      let n : j ≡ port = sym (ap (λ (u : PortKey). u.port) (port_parts a j z f).key) ∙ eqb-true _ _ t in
      let same : Some z ≡ Some y = sym f ∙ (ap (port_of a) n ∙ E.there) in
      let is : z ≡ y = cc in
      ap (λ (u : Port). is_changing u.state) is ∙ (ap is_changing (E.end).state ∙ (S.1).steady (link_to x.cast l (end_of_link x.cast (not o) l))))

  pub goes : run_idle a a.commands ≡ None
  goes = ap (run_idle a) queued ∙ idle_by d refl none_busy

  abbrev calm : Component
  calm = record a { commands = [] }

  abbrev pub b : Component
  b = with_port port (changes_port d y.state) calm

  ran_by : (r : Bool) → carried_out (look w) (port_command r port) calm ≡ with_selected (One port) (changes_port r) calm
  ran_by true = refl
  ran_by false = refl

  pub ran_is : run_front (look w) a.commands a ≡ b
  ran_is = ap (λ (cs : List Command). run_front (look w) cs a) queued ∙ (ran_by d ∙ selected_one calm port (changes_port d) y E.there)

  abbrev v : World
  v = with_component i b w

  sound : Sound v
  sound = subst (λ (z : Component). Sound (with_component i z w)) ran_is
      (sound_taking_units w i a (run_front (look w) a.commands a) W.sound e (change_run (look w) a) (sound_run (look w) a ((parts_of w W.sound).components i a e) goes)
      (fair_run (look w) w.waits a ((resources_of w W.sound).each i a e) (out_there w i a W.sound e) goes))

  settings_stay : settings_notes x.cast q c ≡ settings_notes x.cast p c
  settings_stay = settings_turned x recent recent p l (port_on o) c o refl apart (same o)
    where
      same : (s : Bool) → settings_at x.cast s l (port_on o k) ≡ settings_at x.cast s l k
      same true = ap (λ (m : ℕ). announced_note m ((x.cast).output_port l)) (step_stays o k)
      same false = refl

  run_turn : IsTurned x recent recent p l (port_on o) w v c a b
  run_turn =
      let cs = commands_after x recent p w W l C.0 C.1 c o refl a e A alone (port_on o) ∙ (S.1).done port in
      let ns = notes_turned x recent recent p l (port_on o) c o refl apart ((S.1).notes port) in
      let ss = settings_stay in
      let late : commands_at p.phase (p.stage c) ≡ [] = ap (commands_at p.phase) four in
      record {
        handle = refl;
        kind = refl;
        set_for = A.set_for;
        rises = rises_turned x recent recent p l (port_on o) c o refl apart (let m = port_next o k in omega arith);
        file = refl;
        part = refl;
        stands = ap (λ (z : Component). record (record z { commands = [] }) { ports = b.ports }) A.stands ∙ (λ j. record (standing p.phase (p.stage c) b) { commands = sym late j ++ sym cs j });
        notes = A.notes ∙ (λ j. state_note p.phase (p.stage c) ++ (sym ss j ++ (sym ns j ++ end_note (ends_untold x.cast p c))));
        heard_so = heard_turned x recent recent p l (port_on o) c o refl apart (inl refl) (let m = port_next o k in omega arith) ((S.1).told port) (λ _. ap (nat_le 2) (step_stays o k)) (heard w a) A.heard_so;
        out = A.out;
        work = λ work f. let z : None ≡ Some work = sym free ∙ f in absurd cc;
      }

  run_at_end : IsTurnedAt x recent recent p l (port_on o) w v o c a b y (record y { state = changes_port d y.state })
  run_at_end =
      let link = link_to x.cast l (end_of_link x.cast (not o) l) in
      record {
        below = C.0;
        late = C.1;
        inside = inside;
        at = refl;
        there = e;
        components = refl;
        headers = refl;
        made = refl;
        units = refl;
        streams = refl;
        given = λ m g. refl;
        kind = refl;
        works = λ j. refl;
        others = λ j m. port_else calm j port (changes_port d y.state) m;
        port = port_here calm port (changes_port d y.state) y E.there;
        before = E.there;
        end = end_stated x p q l o (end_of_link x.cast o l) (end_of_link x.cast (not o) l) y (changes_port d y.state)
            (ap (changes_port d) (E.end).state ∙ ((S.1).state link ∙ sym (ap (λ (z : Change). state_by o z link) (change_here l (port_on o) p))))
            (ap (λ (z : Change). is_set_at o z.step) (change_here l (port_on o) p) ∙ ap (is_set_at o) (step_stays o k)) E.end;
        preference = refl;
        quiet = record { port = port_other o k; told = λ t. (let s = half.0 in omega arith, let s = half.0 in let m = step_stays o k in omega arith) };
        state = other_state k (link_to x.cast l (end_of_link x.cast o l)) o;
        set = ap (is_set_at (not o)) (step_stays o k);
        fewer = left_same x p q l refl refl (ap (λ (z : Change). nat_le z.step 4) (change_here l (port_on o) p) ∙ ap (λ (m : ℕ). nat_le m 4) (step_stays o k));
        joined = λ h. ap is_joined_at (step_stays o k) ∙ h;
        half = half_stays x recent p w W l C.0 C.1 half (port_on o);
      }

  pub run_plays : IsPlayWorld x recent q v
  run_plays = turned x recent recent p l (port_on o) w v o c a b y (record y { state = changes_port d y.state }) W run_at_end (inl refl) (act_reaches (x.cast).layout p (Act.RunPort l o) W.reached C) sound
      (actor_turned x recent recent p l (port_on o) w v c a b refl run_turn A)

-- ---- the call

run_acts : (x : PlayCast) (w : World) (c : ℕ) (h : Handle) (result : Result Acted OmxError) (v : World) (a : Component) → slice_get w.components (script_place x.cast c) ≡ Some a → Names x.cast w c h → RunCommand w h result v
    → Acts (run_idle a a.commands) result w (with_component (script_place x.cast c) (run_front (look w) a.commands a) w) v
run_acts x w c h result v a e N s = resolved plain w h result v (λ i d. Acts (run_idle d d.commands) result w (with_component i (run_front (look w) d.commands d) w) v) (script_place x.cast c) a N e s

pub run_port_leads : (x : PlayCast) (recent : ℕ) (p : Play) (w : World) (l : ℕ) (o : Bool) (h : Handle) (result : Result Acted OmxError) (v : World) → IsPlayWorld x recent p w → CanAct (x.cast).layout p (Act.RunPort l o)
    → Names x.cast w (component_at (x.cast).layout o l) h → RunCommand w h result v → (result ≡ Ok acted_as.Did) × PlayLeadsTo x recent (acted (x.cast).layout (Act.RunPort l o) p) v
run_port_leads x recent p w l o h result v W C N s =
    let c : ℕ = component_at (x.cast).layout o l in
    let i : ℕ = script_place x.cast c in
    let a = actor_there x recent p w c W (end_inside x recent p w W o l C.0) in
    let u : World = with_component i (run_front (look w) (a.0).commands a.0) w in
    let t = did (run_idle a.0 (a.0).commands) result w u v (goes x recent p w W l o C a.0 a.1) (run_acts x w c h result v a.0 a.1 N s) in (
      t.0,
      record {
        effect = u;
        play = subst (λ (z : Component). IsPlayWorld x recent (acted (x.cast).layout (Act.RunPort l o) p) (with_component i z w)) (sym (ran_is x recent p w W l o C a.0 a.1)) (run_plays x recent p w W l o C a.0 a.1);
        closes = t.1;
      },
    )

-- what runs is the StateSet, or a disable or an enable of a link
some_command : (n port : ℕ) (d : Command) (ds : List Command) → commands_of_port n port ≡ d ∷ ds → HasCommand n
some_command zero port d ds h = absurd cc
some_command (suc zero) port d ds h = inl refl
some_command (suc (suc zero)) port d ds h = absurd cc
some_command (suc (suc (suc zero))) port d ds h = absurd cc
some_command (suc (suc (suc (suc zero)))) port d ds h = absurd cc
some_command (suc (suc (suc (suc (suc zero))))) port d ds h = inr refl
some_command (suc (suc (suc (suc (suc (suc n)))))) port d ds h = absurd cc

no_state_command : (phase stage : ℕ) → stage ≢ 1 → commands_at phase stage ≡ []
no_state_command phase zero n = refl
no_state_command phase (suc zero) n = absurd (n refl)
no_state_command phase (suc (suc k)) n = refl

none_runs : (a : Component) (cs : List Command) → run_idle a cs ≡ None → (d : Command) × (ds : List Command) × (cs ≡ d ∷ ds)
none_runs a [] h = absurd cc
none_runs a (d ∷ ds) h = (d, ds, refl)

pub run_port_can : (x : PlayCast) (recent : ℕ) (p : Play) (w : World) (c : ℕ) (h : Handle) (result : Result Acted OmxError) (v : World) → IsPlayWorld x recent p w → c < components_of x.cast → Names x.cast w c h → RunCommand w h result v
    → result ≡ Ok acted_as.Did → CanAct (x.cast).layout p (Act.Run c) ⊎ ((l : ℕ) × (o : Bool) × (component_at (x.cast).layout o l ≡ c) × CanAct (x.cast).layout p (Act.RunPort l o))
run_port_can x recent p w c h result v W b N s r = elim (cases_eq (p.stage c) 1) [
  | inl z ↦ inl (b, z)
  | inr n ↦
      let a = actor_there x recent p w c W b in
      let u : World = with_component (script_place x.cast c) (run_front (look w) (a.0).commands a.0) w in
      let none = did_none (run_idle a.0 (a.0).commands) result w u v (run_acts x w c h result v a.0 a.1 N s) r in
      let f = none_runs a.0 (a.0).commands none in
      let only : (a.0).commands ≡ port_commands x.cast p c = commands_are x recent p w c a.0 a.2 ∙ ap (λ (cs : List Command). cs ++ port_commands x.cast p c) (no_state_command p.phase (p.stage c) n) in
      let H = links_some (x.cast).layout (commands_of_end x.cast p) c (links_of x.cast) f.0 f.1 (sym only ∙ f.2) in
      inr (H.link, H.side, H.of_link, (H.below, H.late, some_command (port_at H.side (p.change H.link)) (port_number x.cast H.side H.link) H.one H.more H.queued))
]
