-- The conductor sends a disable or an enable to an end of a link.
use Rattle.std.proofs.Common.{◌≡◌, ◌≢◌, inl, inr, ℕ, zero, suc, ◌<◌, ◌≤◌, Bool, true, false, not, nat_le, nat_lt, List, [], ◌∷◌, ◌++◌, length, length-append, slice_get, Option, Some, None, Result, Ok, Err, refl, sym, ◌∙◌, ap, subst, le-leb, le-ltb, arith}
use Rattle.std.proofs.lemmas.Bool.{cases_eq}
use Rattle.std.proofs.lemmas.List.Sums.{count_by-le-length}
use Rattle.omx_types.specs.declared.command.Command.{Command}
use Rattle.omx_types.specs.declared.error.OmxError.{OmxError}
use Rattle.omx_types.specs.declared.handle.Handle.{Handle}
use Rattle.il_machine.specs.declared.port.Link.{Link}
use Rattle.il_machine.specs.declared.port.Port.{Port}
use Rattle.il_machine.specs.Answers.{Answers, plain}
use Rattle.il_machine.specs.Commands.{SendCommand, send_refusal, sent}
use Rattle.il_machine.specs.Due.{ClosesTo}
use Rattle.il_machine.specs.Finishing.{end_note}
use Rattle.il_machine.specs.Look.{look}
use Rattle.il_machine.specs.Queued.{notes_given}
use Rattle.il_machine.specs.Room.{events_in, is_event, port_reserve, room}
use Rattle.il_machine.specs.Sound.{Sound}
use Rattle.il_machine.specs.States.{is_invalid}
use Rattle.il_machine.specs.World.{Component, World, number_of, with_component}
use Rattle.machine_laws.proofs.Change.{out_there, sound_component}
use Rattle.machine_laws.proofs.Parts.{parts_of}
use Rattle.machine_laws.proofs.Sending.{change_sent, fair_sent, sound_sent}
use Rattle.machine_laws.proofs.Units.{resources_of}
use Rattle.play_model.specs.Acts.{Act, CanAct, acted}
use Rattle.play_model.specs.Changes.{Change, IsHalfChanged, IsInOrder, conducted, port_at}
use Rattle.play_model.specs.Play.{Play, component_at}
use Rattle.play_model.proofs.Handing.{act_reaches}
use Rattle.play_world_laws.specs.Cast.{components_of, links_of, script_place}
use Rattle.play_world_laws.specs.Standing.{commands_at, pending_at, standing, state_at}
use Rattle.play_world_laws.specs.Telling.{heard, out_of, state_note}
use Rattle.play_world_laws.specs.Wiring.{link_to}
use Rattle.play_world_laws.specs.Worlds.{Names, ends_untold}
use Rattle.play_world_laws.proofs.Lists.{resolved}
use Rattle.play_world_laws.proofs.Rooms.{end_notes, state_notes, used_at_rest}
use Rattle.play_world_laws.specs.Changing.{commands_of_port, is_joined_at, is_set_at, notes_of_port, state_by, told_of_port}
use Rattle.play_world_laws.specs.PlayWorlds.{IsActorAt, IsPlayWorld, PlayCast, announced_note, end_of_link, port_commands, port_notes, port_number, settings_notes}
use Rattle.play_world_laws.specs.Conducting.{IsSendAt, port_command}
use Rattle.play_world_laws.specs.Leading.{PlayLeadsTo}
use Rattle.play_world_laws.proofs.Announced.{left_same}
use Rattle.play_world_laws.proofs.Around.{IsLatest, change_else, change_here, end_moves}
use Rattle.play_world_laws.proofs.ChangeEnds.{HasEnd, actor_there, end_inside, end_there, ends_apart}
use Rattle.play_world_laws.proofs.One.{IsTurned, IsTurnedAt, actor_turned, turned}
use Rattle.play_world_laws.proofs.Standing.{late_commands_are, no_loss, pending_is, state_is}
use Rattle.play_world_laws.proofs.Turning.{all_told, alone_half, calm_ports, commands_after, commands_here, heard_turned, is_recent, no_work_at, notes_after, notes_here, settings_at, settings_here, settings_turned, rises_turned}

-- ---- what a change is that goes on by a command to this end

pub record IsSending (o disables : Bool) (k : Change) : Type 0 where
  pub none_queued : (j : ℕ) → commands_of_port (port_at o k) j ≡ []
  pub queued : (j : ℕ) → commands_of_port (port_at o (conducted k)) j ≡ port_command disables j ∷ []
  pub none_noted : (j : ℕ) → notes_of_port (port_at o k) j ≡ []
  pub quiet : (j : ℕ) → notes_of_port (port_at o (conducted k)) j ≡ []
  pub told : (j : ℕ) → told_of_port (port_at o (conducted k)) j ≡ told_of_port (port_at o k) j
  pub states : (s : Bool) (link : Link) → state_by s (conducted k) link ≡ state_by s k link
  pub sets : (s : Bool) → is_set_at s (conducted k).step ≡ is_set_at s k.step
  pub others : port_at (not o) (conducted k) ≡ port_at (not o) k
  pub unsteady : port_at o k < 7
  pub rises : port_at o k ≤ port_at o (conducted k)
  pub calm : (link : Link) → port_reserve (state_by o k link) ≡ 0
  pub two : (2 ≤ k.step) × (2 ≤ (conducted k).step)
  pub before_drop : nat_le (conducted k).step 4 ≡ nat_le k.step 4
  pub joined : is_joined_at (conducted k).step ≡ is_joined_at k.step

abbrev first_sent : ℕ → Change
first_sent input = record { step = 2; output = 0; input = input }

abbrev second_sent : ℕ → Change
second_sent output = record { step = 3; output = output; input = 0 }

abbrev third_sent : ℕ → Change
third_sent input = record { step = 8; output = 4; input = input }

abbrev fourth_sent : ℕ → Change
fourth_sent output = record { step = 9; output = output; input = 4 }

by_side : (P : Bool → Type 0) → P true → P false → (s : Bool) → P s
by_side P a b true = a
by_side P a b false = b

sends_first : (input : ℕ) → IsSending true true (first_sent input)
sends_first input = record {
  none_queued = λ j. refl;
  queued = λ j. refl;
  none_noted = λ j. refl;
  quiet = λ j. refl;
  told = λ j. refl;
  states = by_side (λ s. (link : Link) → state_by s (conducted (first_sent input)) link ≡ state_by s (first_sent input) link) (λ link. refl) (λ link. refl);
  sets = by_side (λ s. is_set_at s (conducted (first_sent input)).step ≡ is_set_at s (first_sent input).step) refl refl;
  others = refl;
  unsteady = omega arith;
  rises = omega arith;
  calm = λ link. refl;
  two = (omega arith, omega arith);
  before_drop = refl;
  joined = refl;
}

sends_second : (output : ℕ) → IsSending false true (second_sent output)
sends_second output = record {
  none_queued = λ j. refl;
  queued = λ j. refl;
  none_noted = λ j. refl;
  quiet = λ j. refl;
  told = λ j. refl;
  states = by_side (λ s. (link : Link) → state_by s (conducted (second_sent output)) link ≡ state_by s (second_sent output) link) (λ link. refl) (λ link. refl);
  sets = by_side (λ s. is_set_at s (conducted (second_sent output)).step ≡ is_set_at s (second_sent output).step) refl refl;
  others = refl;
  unsteady = omega arith;
  rises = omega arith;
  calm = λ link. refl;
  two = (omega arith, omega arith);
  before_drop = refl;
  joined = refl;
}

sends_third : (input : ℕ) → IsSending true false (third_sent input)
sends_third input = record {
  none_queued = λ j. refl;
  queued = λ j. refl;
  none_noted = λ j. refl;
  quiet = λ j. refl;
  told = λ j. refl;
  states = by_side (λ s. (link : Link) → state_by s (conducted (third_sent input)) link ≡ state_by s (third_sent input) link) (λ link. refl) (λ link. refl);
  sets = by_side (λ s. is_set_at s (conducted (third_sent input)).step ≡ is_set_at s (third_sent input).step) refl refl;
  others = refl;
  unsteady = omega arith;
  rises = omega arith;
  calm = λ link. refl;
  two = (omega arith, omega arith);
  before_drop = refl;
  joined = refl;
}

sends_fourth : (output : ℕ) → IsSending false false (fourth_sent output)
sends_fourth output = record {
  none_queued = λ j. refl;
  queued = λ j. refl;
  none_noted = λ j. refl;
  quiet = λ j. refl;
  told = λ j. refl;
  states = by_side (λ s. (link : Link) → state_by s (conducted (fourth_sent output)) link ≡ state_by s (fourth_sent output) link) (λ link. refl) (λ link. refl);
  sets = by_side (λ s. is_set_at s (conducted (fourth_sent output)).step ≡ is_set_at s (fourth_sent output).step) refl refl;
  others = refl;
  unsteady = omega arith;
  rises = omega arith;
  calm = λ link. refl;
  two = (omega arith, omega arith);
  before_drop = refl;
  joined = refl;
}

sending_is : (o disables : Bool) (k : Change) → IsInOrder k → IsSendAt o disables k.step → IsSending o disables k
sending_is true true k O e =
    let f : k.output ≡ 0 = O.output_unsent (omega arith) in
    let is : k ≡ first_sent k.input = λ i. record { step = e i; output = f i; input = k.input } in
    subst (λ (z : Change). IsSending true true z) (sym is) (sends_first k.input)
sending_is false true k O e =
    let f : k.input ≡ 0 = O.input_unsent (omega arith) in
    let is : k ≡ second_sent k.output = λ i. record { step = e i; output = k.output; input = f i } in
    subst (λ (z : Change). IsSending false true z) (sym is) (sends_second k.output)
sending_is true false k O e =
    let f : k.output ≡ 4 = (let a = O.told (omega arith) in let b = O.output_waits (omega arith) in let c = a.0 in omega arith) in
    let is : k ≡ third_sent k.input = λ i. record { step = e i; output = f i; input = k.input } in
    subst (λ (z : Change). IsSending true false z) (sym is) (sends_third k.input)
sending_is false false k O e =
    let f : k.input ≡ 4 = (let a = O.told (omega arith) in let b = O.input_waits (omega arith) in let c = a.1 in omega arith) in
    let is : k ≡ fourth_sent k.output = λ i. record { step = e i; output = k.output; input = f i } in
    subst (λ (z : Change). IsSending false false z) (sym is) (sends_fourth k.output)

-- ---- the change that goes on is the only one that is half done

pub record IsTurnOf (x : PlayCast) (recent : ℕ) (p : Play) (l : ℕ) : Type 0 where
  pub up : (p.phase ≡ 2) × ((c : ℕ) → c < components_of x.cast → p.stage c ≡ 4)
  pub alone : (j : ℕ) → j < links_of x.cast → ((x.cast).layout).is_late j ≡ true → IsHalfChanged (p.change j) → j ≡ l
  pub latest : IsLatest recent l l (p.change l)

pub turn_of : (x : PlayCast) (recent : ℕ) (p : Play) (w : World) (l : ℕ) → IsPlayWorld x recent p w → CanAct (x.cast).layout p (Act.Conduct l) → IsTurnOf x recent p l
turn_of x recent p w l W C = elim (cases_eq (p.change l).step 2) [
  | inl e ↦
      let N = C.next e in
      let O = ((W.reached).changes l C.below).order in
      record {
        up = (N.phase, N.all);
        alone = λ j b t h. absurd (elim (N.unbroken j b t) [
          | inl s ↦ let g = h.0 in omega arith
          | inr d ↦ elim h.1 [ inl g ↦ let f = d.1 in omega arith | inr g ↦ let f = d.2 in omega arith ]
        ]);
        latest = inr (refl, O.output_unsent (omega arith), O.input_unsent (omega arith));
      }
  | inr n ↦
      let O = ((W.reached).changes l C.below).order in
      let m = C.told in
      let f = C.more in
      let h : IsHalfChanged (p.change l) = half (p.change l) O (omega arith) (omega arith) in
      record {
        up = all_told x recent p w W l C.below C.late h;
        alone = alone_half x recent p w W l C.below C.late h;
        latest = inl (is_recent x recent p w W l C.below C.late h);
      }
]
  where
    half : (k : Change) → IsInOrder k → 3 ≤ k.step → k.step ≤ 9 → IsHalfChanged k
    half k O a b = (a, inr (let z = O.input_waits (omega arith) in omega arith))

-- ---- what is sent to the end

module _ (x : PlayCast) (recent : ℕ) (p : Play) (w : World) (W : IsPlayWorld x recent p w) (l : ℕ) (C : CanAct (x.cast).layout p (Act.Conduct l)) (o disables : Bool) (is : IsSendAt o disables (p.change l).step) (a : Component)
    (e : slice_get w.components (script_place x.cast (component_at (x.cast).layout o l)) ≡ Some a) where
  abbrev c : ℕ
  c = component_at (x.cast).layout o l

  abbrev q : Play
  q = acted (x.cast).layout (Act.Conduct l) p

  abbrev k : Change
  k = p.change l

  abbrev port : ℕ
  port = port_number x.cast o l

  abbrev command : Command
  command = port_command disables port

  abbrev b : Component
  b = record a { commands = a.commands ++ command ∷ [] }

  abbrev v : World
  v = with_component (script_place x.cast c) b w

  inside : c < components_of x.cast
  inside = end_inside x recent p w W o l C.below

  A : IsActorAt x recent p w c a
  A = W.actors c a inside e

  abbrev E : HasEnd x p l o a
  E = end_there x recent p w W o l c a C.below refl e

  abbrev y : Port
  y = E.port

  T : IsTurnOf x recent p l
  T = turn_of x recent p w l W C

  S : IsSending o disables k
  S = sending_is o disables k ((W.reached).changes l C.below).order is

  apart : component_at (x.cast).layout (not o) l ≢ c
  apart = ends_apart x recent p w W o l C.below

  four : p.stage c ≡ 4
  four = (T.up).1 c inside

  no_commands : port_commands x.cast p c ≡ []
  no_commands = commands_here x recent p w W l C.below C.late c o refl a e A T.alone ∙ S.none_queued port

  nothing_queued : a.commands ≡ []
  nothing_queued = late_commands_are x recent p w c a A (let s = four in omega arith) ∙ no_commands

  no_settings : settings_notes x.cast p c ≡ []
  no_settings = settings_here x recent p w W l C.below C.late c o refl a e A (S.two).0

  no_notes : port_notes x.cast p c ≡ []
  no_notes = notes_here x recent p w W l C.below C.late c o refl a e A T.alone ∙ S.none_noted port

  free : a.work ≡ None
  free = no_work_at x recent p w W l C.below C.late c o refl a e A S.unsteady (let t = (S.two).0 in omega arith)

  -- ---- it is accepted

  few_events : events_in a.notes ≤ 2
  few_events =
      let s = no_settings in
      let n = no_notes in
      let all : out_of a.client_out (notes_given (number_of a) w) ++ a.notes ≡ state_note p.phase (p.stage c) ++ ([] ++ ([] ++ end_note (ends_untold x.cast p c))) = A.notes ∙ (λ i. state_note p.phase (p.stage c) ++ (s i ++ (n i ++ end_note (ends_untold x.cast p c)))) in
      let m = ap length all in
      let f = length-append (out_of a.client_out (notes_given (number_of a) w)) a.notes in
      let g = length-append (state_note p.phase (p.stage c)) (end_note (ends_untold x.cast p c)) in
      let u = state_notes p.phase (p.stage c) in
      let t = end_notes (ends_untold x.cast p c) in
      let r = count_by-le-length is_event a.notes in
      omega arith

  there_is_room : 1 ≤ room a
  there_is_room =
      let pending : a.pending ≡ None = pending_is x recent p w c a A ∙ ap (pending_at p.phase) four in
      let calm = calm_ports x recent p w W l C.below C.late c o refl a e A T.alone S.calm inside in
      let u = used_at_rest a nothing_queued pending (no_loss x recent p w c a A) free calm in
      let f = few_events in
      omega arith

  valid : is_invalid a.state ≡ false
  valid =
      let two = (T.up).0 in
      let s : a.state ≡ state_at 2 4 = state_is x recent p w c a A ∙ (λ i. state_at (two i) (four i)) in
      ap is_invalid s

  refusal_of : (d : Bool) → d ≡ disables → send_refusal (look w) a (port_command d port) ≡ None
  refusal_of true z =
      let n = nothing_queued in
      let many : nat_le 32 (length a.commands) ≡ false = ap (λ (cs : List Command). nat_le 32 (length cs)) n in
      let r : nat_lt (room a) 1 ≡ false = le-ltb (room a) 1 there_is_room in
      rw (valid, E.there, many, r) refl
  refusal_of false z =
      let n = nothing_queued in
      let many : nat_le 32 (length a.commands) ≡ false = ap (λ (cs : List Command). nat_le 32 (length cs)) n in
      let r : nat_lt (room a) 1 ≡ false = le-ltb (room a) 1 there_is_room in
      rw (valid, E.there, many, r) refl

  pub accepted : send_refusal (look w) a command ≡ None
  accepted = refusal_of disables refl

  pub sent_is : sent command a ≡ b
  sent_is = queued_by disables
    where
      queued_by : (d : Bool) → sent (port_command d port) a ≡ record a { commands = a.commands ++ port_command d port ∷ [] }
      queued_by true = refl
      queued_by false = refl

  sound : Sound v
  sound = subst (λ (z : Component). Sound (with_component (script_place x.cast c) z w)) sent_is
      (sound_component w (script_place x.cast c) a (sent command a) W.sound e (change_sent command a) (sound_sent (look w) command a ((parts_of w W.sound).components (script_place x.cast c) a e) accepted)
      (fair_sent w.waits command a ((resources_of w W.sound).each (script_place x.cast c) a e) (out_there w (script_place x.cast c) a W.sound e)))

  -- ---- the world

  settings_stay : settings_notes x.cast q c ≡ settings_notes x.cast p c
  settings_stay = settings_turned x recent l p l conducted c o refl apart (same o)
    where
      none : (n m : ℕ) → 2 ≤ n → announced_note n m ≡ []
      none zero m d = absurd (omega arith)
      none (suc zero) m d = absurd (omega arith)
      none (suc (suc n)) m d = refl

      same : (s : Bool) → settings_at x.cast s l (conducted k) ≡ settings_at x.cast s l k
      same true = none (conducted k).step ((x.cast).output_port l) (S.two).1 ∙ sym (none k.step ((x.cast).output_port l) (S.two).0)
      same false = refl

  send_turn : IsTurned x recent l p l conducted w v c a b
  send_turn =
      let cs1 = commands_after x recent p w W l C.below C.late c o refl a e A T.alone conducted ∙ S.queued port in
      let cs0 = nothing_queued in
      let ns : port_notes x.cast q c ≡ port_notes x.cast p c = (notes_after x recent p w W l C.below C.late c o refl a e A T.alone conducted ∙ S.quiet port) ∙ sym no_notes in
      let ss = settings_stay in
      let late : commands_at p.phase (p.stage c) ≡ [] = ap (commands_at p.phase) four in
      let two : o ≡ true → nat_le 2 (conducted k).step ≡ nat_le 2 k.step = λ _. le-leb 2 (conducted k).step (S.two).1 ∙ sym (le-leb 2 k.step (S.two).0) in
      record {
        handle = refl;
        kind = refl;
        set_for = A.set_for;
        rises = rises_turned x recent l p l conducted c o refl apart S.rises;
        file = refl;
        part = refl;
        stands = ap (λ (z : Component). record z { commands = a.commands ++ command ∷ [] }) A.stands
            ∙ (λ i. record (standing p.phase (p.stage c) b) { commands = (ap (λ (cs : List Command). cs ++ command ∷ []) cs0 ∙ ((λ j. sym late j ++ sym cs1 j))) i });
        notes = A.notes ∙ (λ i. state_note p.phase (p.stage c) ++ (sym ss i ++ (sym ns i ++ end_note (ends_untold x.cast p c))));
        heard_so = heard_turned x recent l p l conducted c o refl apart T.latest S.rises (S.told port) two (heard w a) A.heard_so;
        out = A.out;
        work = λ work f. let z : None ≡ Some work = sym free ∙ f in absurd cc;
      }

  send_at_end : IsTurnedAt x recent l p l conducted w v o c a b y y
  send_at_end =
      let link = link_to x.cast l (end_of_link x.cast (not o) l) in
      record {
        below = C.below;
        late = C.late;
        inside = inside;
        at = refl;
        there = e;
        components = refl;
        headers = refl;
        made = refl;
        units = refl;
        streams = refl;
        given = λ m g. refl;
        kind = refl;
        works = λ i. refl;
        others = λ i m. refl;
        port = E.there;
        before = E.there;
        end = end_moves x p q l o (end_of_link x.cast o l) (end_of_link x.cast (not o) l) y (ap (λ (z : Change). state_by o z link) (change_here l conducted p) ∙ S.states o link)
            (ap (λ (z : Change). is_set_at o z.step) (change_here l conducted p) ∙ S.sets o) E.end;
        preference = refl;
        quiet = record { port = S.others; told = λ t. S.two };
        state = S.states (not o) (link_to x.cast l (end_of_link x.cast o l));
        set = S.sets (not o);
        fewer = left_same x p q l refl refl (ap (λ (z : Change). nat_le z.step 4) (change_here l conducted p) ∙ S.before_drop);
        joined = λ h. S.joined ∙ h;
        half = λ j d t h. elim (cases_eq j l) [
          | inl s ↦ s
          | inr n ↦ T.alone j d t (subst (λ (z : Change). IsHalfChanged z) (change_else l conducted p j n) h)
        ];
      }

  pub send_plays : IsPlayWorld x l q v
  send_plays = turned x recent l p l conducted w v o c a b y y W send_at_end T.latest (act_reaches (x.cast).layout p (Act.Conduct l) W.reached C) sound
      (actor_turned x recent l p l conducted w v c a b refl send_turn A)

taken : (r : Option OmxError) (result : Result (Unit {0}) OmxError) (w u v : World) → r ≡ None → Answers r result w v (λ _. ClosesTo u v) → (result ≡ Ok tt) × ClosesTo u v
taken None (Ok y) w u v n h = (refl, h)
taken None (Err y) w u v n h = absurd h
taken (Some y) result w u v n h = absurd cc

pub send_leads : (x : PlayCast) (recent : ℕ) (p : Play) (w : World) (l : ℕ) (o disables : Bool) (h : Handle) (result : Result (Unit {0}) OmxError) (v : World) → IsPlayWorld x recent p w → CanAct (x.cast).layout p (Act.Conduct l)
    → IsSendAt o disables (p.change l).step → Names x.cast w (component_at (x.cast).layout o l) h → SendCommand w h (port_command disables (port_number x.cast o l)) result v
    → (result ≡ Ok tt) × PlayLeadsTo x l (acted (x.cast).layout (Act.Conduct l) p) v
send_leads x recent p w l o disables h result v W C is N s =
    let c : ℕ = component_at (x.cast).layout o l in
    let i : ℕ = script_place x.cast c in
    let command : Command = port_command disables (port_number x.cast o l) in
    let a = actor_there x recent p w c W (end_inside x recent p w W o l C.below) in
    let u : World = with_component i (sent command a.0) w in
    let r = resolved plain w h result v (λ i d. Answers (send_refusal (look w) d command) result w v (λ _. ClosesTo (with_component i (sent command d) w) v)) i a.0 N a.1 s in
    let t = taken (send_refusal (look w) a.0 command) result w u v (accepted x recent p w W l C o disables is a.0 a.1) r in (
      t.0,
      record {
        effect = u;
        play = subst (λ (z : Component). IsPlayWorld x l (acted (x.cast).layout (Act.Conduct l) p) (with_component i z w)) (sym (sent_is x recent p w W l C o disables is a.0 a.1)) (send_plays x recent p w W l C o disables is a.0 a.1);
        closes = t.1;
      },
    )
