-- The conductor's StateSet is sent to a component.
use Rattle.std.proofs.Common.{◌≡◌, ◌≢◌, inl, inr, ℕ, ◌<◌, ◌≤◌, false, nat_le, nat_lt, [], ◌++◌, length, slice_get, Option, Some, None, Result, Ok, Err, refl, sym, ◌∙◌, ap, subst, le-ltb, arith}
use Rattle.omx_types.specs.declared.command.Command.{Command}
use Rattle.omx_types.specs.declared.command.Command.TheVariants.{StateSet}
use Rattle.omx_types.specs.declared.error.OmxError.{OmxError}
use Rattle.omx_types.specs.declared.handle.Handle.{Handle}
use Rattle.il_machine.specs.declared.answer.Progress.{Progress}
use Rattle.il_machine.specs.Answers.{Answers, plain}
use Rattle.il_machine.specs.Commands.{SendCommand, lacks_command_room, send_refusal, sent}
use Rattle.il_machine.specs.Due.{ClosesTo}
use Rattle.il_machine.specs.Finishing.{end_note}
use Rattle.il_machine.specs.Look.{look}
use Rattle.il_machine.specs.Room.{room}
use Rattle.il_machine.specs.Sound.{Sound}
use Rattle.il_machine.specs.States.{is_invalid}
use Rattle.il_machine.specs.World.{Component, World, with_component}
use Rattle.machine_laws.proofs.Change.{out_there, sound_component}
use Rattle.machine_laws.proofs.Keys.{none_or_some}
use Rattle.machine_laws.proofs.Parts.{parts_of}
use Rattle.machine_laws.proofs.Sending.{change_sent, fair_sent, sound_sent}
use Rattle.machine_laws.proofs.Units.{resources_of}
use Rattle.play_model.specs.Acts.{Act, CanAct, acted}
use Rattle.play_model.specs.Play.{Play}
use Rattle.play_model.proofs.Handing.{act_reaches}
use Rattle.play_world_laws.specs.Cast.{components_of, script_place}
use Rattle.play_world_laws.specs.Standing.{before, commands_at, standing, target}
use Rattle.play_world_laws.specs.Telling.{heard, last_told, state_note}
use Rattle.play_world_laws.specs.Worlds.{Names, ends_untold}
use Rattle.play_world_laws.proofs.Lists.{resolved}
use Rattle.play_world_laws.proofs.Rooms.{used_at_rest}
use Rattle.play_world_laws.proofs.Sends.{never_invalid, stage_else, stage_here}
use Rattle.play_world_laws.proofs.Stages.{not_at_once, queued, send_stands, send_told, sent_is}
use Rattle.play_world_laws.specs.PlayWorlds.{HasHeard, IsActorAt, IsPlayWorld, PlayCast, port_commands, port_notes, settings_notes}
use Rattle.play_world_laws.specs.Leading.{PlayLeadsTo}
use Rattle.play_world_laws.proofs.ChangeEnds.{actor_there}
use Rattle.play_world_laws.proofs.Kept.{IsGoingOn, actor_goes_on, kept}
use Rattle.play_world_laws.proofs.Calm.{appended, calm, few_events, no_commands, stands_so}

-- what was heard of a component stays while it has told nothing more
pub heard_on : (x : PlayCast) (recent : ℕ) (p : Play) (stage : ℕ → ℕ) (c : ℕ) (h : Progress) → last_told p.phase (stage c) ≡ last_told p.phase (p.stage c) → HasHeard x.cast recent p c h → HasHeard x.cast recent (record p { stage = stage }) c h
heard_on x recent p stage c h e H = record { state = H.state ∙ sym e; eos = H.eos; error = H.error; settings = H.settings; port = H.port; past = H.past; nothing = H.nothing }

module _ (x : PlayCast) (recent : ℕ) (p : Play) (w : World) (W : IsPlayWorld x recent p w) (c : ℕ) (l : c < components_of x.cast) (z : p.stage c ≡ 0) (a : Component) (e : slice_get w.components (script_place x.cast c) ≡ Some a) where
  abbrev i : ℕ
  i = script_place x.cast c

  A : IsActorAt x recent p w c a
  A = W.actors c a l e

  early : p.stage c ≢ 4
  early h = omega arith

  stood : a ≡ standing p.phase 0 a
  stood = subst (λ (k : ℕ). a ≡ standing p.phase k a) z (stands_so x recent p w W c l a e A early)

  no_work : a.work ≡ None
  no_work = elim (none_or_some a.work) [
    | inl n ↦ n
    | inr k ↦ let K = A.work k.0 k.1 in let s = K.stage in absurd (omega arith)
  ]

  there_is_room : 1 ≤ room a
  there_is_room =
      let s = stood in
      let u = used_at_rest a (ap (λ (y : Component). y.commands) s) (ap (λ (y : Component). y.pending) s) (ap (λ (y : Component). y.loss_mark) s) no_work (calm x recent p w W c l a e A early) in
      let f = few_events x recent p w W c l a e A early in
      omega arith

  pub accepted : send_refusal (look w) a (StateSet (target p.phase)) ≡ None
  accepted =
      let s : a.state ≡ before p.phase = ap (λ (y : Component). y.state) stood in
      let v : is_invalid a.state ≡ false = ap is_invalid s ∙ never_invalid p.phase in
      let n : a.commands ≡ [] = ap (λ (y : Component). y.commands) stood in
      let r : nat_lt (room a) 1 ≡ false = le-ltb (room a) 1 there_is_room in
      let m : nat_le 32 (length a.commands) ≡ false = rw n refl in
      let lacks : lacks_command_room a (StateSet (target p.phase)) ≡ false = rw (not_at_once p.phase, m, r) refl in
      rw (v, lacks) refl

  abbrev b : Component
  b = queued (StateSet (target p.phase)) a

  abbrev q : Play
  q = acted (x.cast).layout (Act.Send c) p

  one : q.stage c ≡ 1
  one = stage_here p c 1

  abbrev v : World
  v = with_component i b w

  sound : Sound v
  sound = subst (λ (y : Component). Sound (with_component i y w)) (sent_is p.phase a)
      (sound_component w i a (sent (StateSet (target p.phase)) a) W.sound e (change_sent (StateSet (target p.phase)) a) (sound_sent (look w) (StateSet (target p.phase)) a ((parts_of w W.sound).components i a e) accepted)
      (fair_sent w.waits (StateSet (target p.phase)) a ((resources_of w W.sound).each i a e) (out_there w i a W.sound e)))

  going : IsGoingOn x recent p q.stage p.told w v c a b
  going =
      let cs = no_commands x recent p w W c l a e A early in
      let there : b ≡ standing p.phase 1 b = send_stands p.phase a stood in
      record {
        handle = refl;
        settings = refl;
        file = refl;
        part = refl;
        keeps_told = λ h. h;
        stands = there ∙ (λ t. record (standing p.phase (sym one t) b) { commands = (appended (commands_at p.phase 1) (port_commands x.cast p c) cs ∙ ap (λ (k : ℕ). commands_at p.phase k ++ port_commands x.cast p c) (sym one)) t });
        notes = A.notes ∙ (λ t. state_note p.phase (z t) ++ (settings_notes x.cast p c ++ (port_notes x.cast p c ++ end_note (ends_untold x.cast p c)))) ∙ (λ t. state_note p.phase (sym one t) ++ (settings_notes x.cast p c ++ (port_notes x.cast p c ++ end_note (ends_untold x.cast p c))));
        heard_so = heard_on x recent p q.stage c (heard w a) (rw (one, z) (send_told p.phase)) A.heard_so;
        out = A.out;
        work = λ work f. let n : None ≡ Some work = sym no_work ∙ f in absurd cc;
        before = λ B. ((λ h. omega (arith, z)), B.1);
        ran = λ h. omega (arith, z);
      }

  pub send_plays : IsPlayWorld x recent q v
  send_plays = kept x recent p q.stage p.told w v c a b W (record {
    inside = l;
    there = e;
    components = refl;
    headers = refl;
    made = refl;
    units = refl;
    streams = refl;
    given = λ n f. refl;
    handle = refl;
    settings = refl;
    ports = refl;
    works = λ port. refl;
    stage_else = λ k n. stage_else p c k 1 n;
    told_else = λ k n. refl;
  }) (act_reaches (x.cast).layout p (Act.Send c) W.reached (l, z)) sound (actor_goes_on x recent p q.stage p.told w v c a b refl going A)

taken : (r : Option OmxError) (result : Result (Unit {0}) OmxError) (w u v : World) → r ≡ None → Answers r result w v (λ _. ClosesTo u v) → (result ≡ Ok tt) × ClosesTo u v
taken None (Ok y) w u v n h = (refl, h)
taken None (Err y) w u v n h = absurd h
taken (Some y) result w u v n h = absurd cc

pub send_leads : (x : PlayCast) (recent : ℕ) (p : Play) (w : World) (c : ℕ) (h : Handle) (result : Result (Unit {0}) OmxError) (v : World) → IsPlayWorld x recent p w → CanAct (x.cast).layout p (Act.Send c) → Names x.cast w c h → SendCommand w h (StateSet (target p.phase)) result v
    → (result ≡ Ok tt) × PlayLeadsTo x recent (acted (x.cast).layout (Act.Send c) p) v
send_leads x recent p w c h result v W C N s =
    let i : ℕ = script_place x.cast c in
    let command : Command = StateSet (target p.phase) in
    let a = actor_there x recent p w c W C.0 in
    let u : World = with_component i (sent command a.0) w in
    let r = resolved plain w h result v (λ i d. Answers (send_refusal (look w) d command) result w v (λ _. ClosesTo (with_component i (sent command d) w) v)) i a.0 N a.1 s in
    let t = taken (send_refusal (look w) a.0 command) result w u v (accepted x recent p w W c C.0 C.1 a.0 a.1) r in
    (t.0, record { effect = u; play = subst (λ (y : Component). IsPlayWorld x recent (acted (x.cast).layout (Act.Send c) p) (with_component i y w)) (sym (sent_is p.phase a.0)) (send_plays x recent p w W c C.0 C.1 a.0 a.1); closes = t.1 })
