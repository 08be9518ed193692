-- A late source that must announce is claimed: its work has no header.
use Rattle.std.proofs.Common.{◌≡◌, inl, inr, ℕ, zero, suc, ◌<◌, ◌≤◌, Bool, true, false, not, ◌||◌, nat_lt, if◌then◌else◌, is_some, List, [], ◌∷◌, ◌++◌, filter, length, length-append, map, slice_get, sum_by, Some, None, Result, Ok, refl, sym, ◌∙◌, ap, subst, le-ltb, arith}
use Rattle.std.specs.List.{list_any}
use Rattle.std.proofs.lemmas.List.Sums.{count_by-le-length}
use Rattle.omx_types.specs.declared.error.OmxError.{OmxError}
use Rattle.omx_types.specs.declared.format.Format.{Format}
use Rattle.omx_types.specs.declared.format.Format.TheVariants as formats
use Rattle.omx_types.specs.declared.handle.Handle.{Handle}
use Rattle.omx_types.specs.Formats.{is_auto}
use Rattle.il_machine.specs.declared.port.Port.{Port}
use Rattle.il_machine.specs.declared.port.PortState.{PortState}
use Rattle.il_machine.specs.Answers.{plain}
use Rattle.il_machine.specs.Claims.{Claim, Claimed, ClaimedBusy, ClaimedEnded, ClaimedEvents, ClaimedNotRunning, ClaimedWork, Claims, WorkSeen, claim_idle, data_test, gives_header, held_test, is_claimable, is_output_port, is_unannounced, must_announce, picked, reserve_for, room_test, seen_work, wanted, with_work, work_of}
use Rattle.il_machine.specs.Due.{each_port}
use Rattle.il_machine.specs.Finishing.{end_note}
use Rattle.il_machine.specs.Headers.{seen}
use Rattle.il_machine.specs.Lists.{first_of_these}
use Rattle.il_machine.specs.Look.{look}
use Rattle.il_machine.specs.Parts.{file_format}
use Rattle.il_machine.specs.Ports.{is_input_port, is_open}
use Rattle.il_machine.specs.Queued.{notes_given}
use Rattle.il_machine.specs.Room.{events_in, is_event, port_reserve, room}
use Rattle.il_machine.specs.Settings.{same_format}
use Rattle.il_machine.specs.Sound.{Sound}
use Rattle.il_machine.specs.World.{Component, Work, World, number_of, port_of, ports_of, with_component}
use Rattle.machine_laws.proofs.Claiming.{sound_claimed}
use Rattle.machine_laws.proofs.Finding.{either}
use Rattle.play_model.specs.Acts.{Act, CanAct}
use Rattle.play_model.specs.Play.{IsRunning, Play}
use Rattle.play_world_laws.specs.Cast.{giver_of, links_of, script_place}
use Rattle.play_world_laws.specs.Telling.{out_of, state_note}
use Rattle.play_world_laws.specs.Worlds.{Names, ends_untold}
use Rattle.play_world_laws.proofs.Claimable.{at_rest_none, first_append, first_map, passes}
use Rattle.play_world_laws.proofs.Claims.{claims_none}
use Rattle.play_world_laws.proofs.Lists.{resolved, sum_none}
use Rattle.play_world_laws.proofs.Resting.{all_true}
use Rattle.play_world_laws.proofs.Rooms.{port_of_state, state_notes, used_at_rest}
use Rattle.play_world_laws.specs.Changing.{at_links}
use Rattle.play_world_laws.specs.PlayWorlds.{IsActorAt, IsPlayWorld, IsWorkAt, PlayCast, commands_of_end, notes_of_end, port_commands, port_notes, settings_notes, settings_of_end}
use Rattle.play_world_laws.specs.Leading.{PlayLeadsTo}
use Rattle.play_world_laws.proofs.ChangeEnds.{HasEnd, end_inside, end_there, first_port, gives_late, no_sink, one_port, source_lists}
use Rattle.play_world_laws.proofs.Kept.{IsGoingOn, actor_goes_on, kept}
use Rattle.play_world_laws.proofs.Standing.{late_commands_are, no_loss, runs}

pub any_there : {X : Type 0} (test : X → Bool) (xs : List X) (i : ℕ) (y : X) → slice_get xs i ≡ Some y → test y ≡ true → list_any test xs ≡ true
any_there test [] i y e t = absurd cc
any_there test (z ∷ xs) zero y e t = let s : z ≡ y = cc in let u : test z ≡ true = ap test s ∙ t in rw u refl
any_there test (z ∷ xs) (suc i) y e t = either (test z) (λ u. rw u refl) (λ u. rw u (any_there test xs i y e t))

auto_apart : (f g : Format) → is_auto f ≡ true → is_auto g ≡ false → same_format f g ≡ false
auto_apart formats.Auto (formats.Pcm r c) a b = refl
auto_apart formats.Auto (formats.Alaw r c) a b = refl
auto_apart formats.Auto (formats.Mulaw r c) a b = refl
auto_apart formats.Auto formats.Auto a b = absurd cc
auto_apart (formats.Pcm r c) g a b = absurd cc
auto_apart (formats.Alaw r c) g a b = absurd cc
auto_apart (formats.Mulaw r c) g a b = absurd cc

-- ---- a late source whose settings aren't announced

module _ (x : PlayCast) (recent : ℕ) (p : Play) (w : World) (W : IsPlayWorld x recent p w) (l : ℕ) (b : l < links_of x.cast) (t : ((x.cast).layout).is_late l ≡ true) (a : Component)
    (e : slice_get w.components (script_place x.cast (giver_of x.cast l)) ≡ Some a) (first : (p.change l).step ≡ 0) where
  abbrev c : ℕ
  c = giver_of x.cast l

  pub its : IsActorAt x recent p w c a
  its = W.actors c a (end_inside x recent p w W true l b) e

  abbrev pub its_end : HasEnd x p l true a
  its_end = end_there x recent p w W true l c a b refl e

  abbrev q : Port
  q = its_end.port

  pub untouched : (p.change l).output ≡ 0
  untouched = (((W.reached).changes l b).order).output_unsent (omega (arith, first))

  pub is_free : q.state.held ≡ false
  is_free = ap (λ (s : PortState). s.held) (its_end.end).state ∙ rw first refl

  pub is_unset : is_auto q.setting.definition.format ≡ true
  is_unset = (its_end.end).known ∙ rw (t, first) refl

  pub off_file : same_format q.setting.definition.format (file_format a.file) ≡ false
  off_file =
      let f : file_format a.file ≡ x.format l = its.late_format l (record { below = b; given_by = refl }) t in
      ap (same_format q.setting.definition.format) f ∙ auto_apart q.setting.definition.format (x.format l) is_unset (W.formats l b t).1

  pub must : must_announce a ≡ true
  must =
      let late = gives_late x recent p w W l b t c refl a e its in
      any_there (is_unannounced a) (ports_of a) ((x.cast).output_port l) q its_end.there (rw (late, is_free, off_file) refl)

  -- ---- its notes and its room

  pub untold : ends_untold x.cast p c ≡ false
  untold =
      let n : ((x.cast).layout).is_sink c ≡ false = sym its.sink ∙ no_sink x recent p w W l b t c refl a e its in
      rw n refl

  abbrev own : {B : Type 0} (P : Bool → ℕ → List B) → at_links (x.cast).layout P c (links_of x.cast) ≡ P true l
  own P = source_lists x recent p w W l b t c refl a e its P

  pub no_commands : port_commands x.cast p c ≡ []
  no_commands = own (commands_of_end x.cast p) ∙ rw untouched refl

  pub no_port_notes : port_notes x.cast p c ≡ []
  no_port_notes = own (notes_of_end x.cast p) ∙ rw untouched refl

  pub no_settings : settings_notes x.cast p c ≡ []
  no_settings = own (settings_of_end x.cast p) ∙ rw first refl

  few_events : events_in a.notes ≤ 1
  few_events =
      let d = no_settings in
      let n = no_port_notes in
      let u = untold in
      let all : out_of a.client_out (notes_given (number_of a) w) ++ a.notes ≡ state_note p.phase (p.stage c) ++ ([] ++ ([] ++ end_note false)) = its.notes ∙ (λ i. state_note p.phase (p.stage c) ++ (d i ++ (n i ++ end_note (u i)))) in
      let m = ap length all in
      let f = length-append (out_of a.client_out (notes_given (number_of a) w)) a.notes in
      let g = length-append (state_note p.phase (p.stage c)) (([] ++ ([] ++ end_note false))) in
      let s = state_notes p.phase (p.stage c) in
      let v = count_by-le-length is_event a.notes in
      omega arith

  -- its one port is open, and reserves nothing
  each_state : (k : ℕ) (s : PortState) → slice_get a.ports k ≡ Some s → s ≡ q.state
  each_state k s f =
      let r = port_of_state w (script_place x.cast c) k a s W.sound e f in
      let z : k ≡ (x.cast).output_port l = one_port x recent p w W l b t c refl a e its k r.0 r.1 ∙ sym (first_port x recent p w W l b t c refl a e its) in
      let same : Some r.0 ≡ Some q = sym r.1 ∙ (ap (port_of a) z ∙ its_end.there) in
      let is : r.0 ≡ q = cc in
      sym r.2 ∙ ap (λ (y : Port). y.state) is

  calm : sum_by port_reserve a.ports ≡ 0
  calm = sum_none port_reserve a.ports (λ k s f. ap port_reserve (each_state k s f ∙ (its_end.end).state) ∙ rw untouched refl)

  each_port_is : (k : ℕ) (y : Port) → port_of a k ≡ Some y → y ≡ q
  each_port_is k y f =
      let z : k ≡ (x.cast).output_port l = one_port x recent p w W l b t c refl a e its k y f ∙ sym (first_port x recent p w W l b t c refl a e its) in
      let same : Some y ≡ Some q = sym f ∙ (ap (port_of a) z ∙ its_end.there) in
      cc

  all_open : each_port a is_open ≡ true
  all_open = all_true is_open (ports_of a) (λ k y f. ap is_open (each_port_is k y f) ∙ rw ((its_end.end).state, untouched) refl)

  -- ---- it may be claimed

  module _ (R : IsRunning p c) (free : a.work ≡ None) where
    pub is_up : (p.phase ≡ 2) × (3 ≤ p.stage c)
    is_up = elim R [ inl h ↦ h | inr h ↦ let s = ((W.reached).changes l b).over (omega (arith, h.0)) t in absurd (omega (arith, s.0, first)) ]

    goes_on : (p.flow).ended c ≡ false
    goes_on = let n = untouched in (((W.reached).changes l b).quiet t (omega arith)).1

    room_there : 2 ≤ room a
    room_there =
        let r = runs x recent p w c a its R in
        let cs : a.commands ≡ [] = late_commands_are x recent p w c a its is_up.1 ∙ no_commands in
        let u = used_at_rest a cs (at_rest_none a r.1) (no_loss x recent p w c a its) free calm in
        let f = few_events in
        omega arith

    pub claim_goes : claim_idle (look w) a ≡ None
    claim_goes =
        let r = runs x recent p w c a its R in
        let able : is_claimable a ≡ true = rw (r.0, r.1, all_open) refl in
        let two = is_up.0 in
        let ended : a.part.ended ≡ false = (its.part).ended ((λ h. absurd (omega arith)), omega arith) ∙ goes_on in
        let going : (a.part.ended || a.part.failed) ≡ false = rw (ended, (its.part).whole) refl in
        let none : wanted a ≡ [] = rw must refl in
        let held = first_map (held_test a) (ports_of a) (λ i y f. rw must refl) in
        let input : first_of_these (map (data_test (seen w.headers)) (filter is_input_port (wanted a))) ≡ None = rw none refl in
        let space : first_of_these (map (room_test (seen w.headers)) (filter is_output_port (wanted a))) ≡ None = rw none refl in
        let need : reserve_for (wanted a) ≡ 2 = rw none refl in
        let few : nat_lt (room a) (reserve_for (wanted a)) ≡ false = le-ltb (room a) (reserve_for (wanted a)) (let m = room_there in omega arith) in
        let helds : List (Bool × Claimed) = map (held_test a) (ports_of a) in
        let inputs : List (Bool × Claimed) = map (data_test (seen w.headers)) (filter is_input_port (wanted a)) in
        let outputs : List (Bool × Claimed) = map (room_test (seen w.headers)) (filter is_output_port (wanted a)) in
        let last : List (Bool × Claimed) = (nat_lt (room a) (reserve_for (wanted a)), ClaimedEvents (room a) (reserve_for (wanted a))) ∷ [] in
        let end : first_of_these last ≡ None = rw few refl in
        let tail = first_append (helds ++ inputs ++ outputs) last (first_append (helds ++ inputs) outputs (first_append helds inputs held input) space) end in
        passes (is_some a.work) ClaimedBusy _ (ap is_some free) (passes (not (is_claimable a)) ClaimedNotRunning _ (ap not able) (passes (a.part.ended || a.part.failed) ClaimedEnded _ going tail))

    -- ---- the world with its work

    abbrev pub announcing : Work
    announcing = record { headers = []; gain = a.settings.gain; weights = a.settings.weights; announces = true }

    abbrev d : Component
    d = record a { work = Some announcing }

    abbrev i : ℕ
    i = script_place x.cast c

    work_is : work_of (seen w.headers) a ≡ announcing
    work_is = let m = must in λ j. record { headers = picked (seen w.headers) (if m j then [] else filter (gives_header a) (ports_of a)); gain = a.settings.gain; weights = a.settings.weights; announces = m j }

    pub claimed_is : with_work i a (work_of (seen w.headers) a) w ≡ with_component i d w
    claimed_is = ap (λ (z : Work). with_work i a z w) work_is

    sound : Sound (with_component i d w)
    sound = subst Sound claimed_is (sound_claimed w i a W.sound e claim_goes)

    its_work : (u : Work) → Some announcing ≡ Some u → IsWorkAt x.cast p c d u
    its_work u f =
        let s : announcing ≡ u = cc in
        subst (λ (z : Work). IsWorkAt x.cast p c d z) s (record {
          phase = is_up.0;
          stage = is_up.1;
          going = goes_on;
          gain = refl;
          weights = refl;
          which = inr (record { link = l; output = record { below = b; given_by = refl }; late = t; unannounced = first; none = refl; announces = refl });
        })

    claim_going : IsGoingOn x recent p p.stage p.told w (with_component i d w) c a d
    claim_going = record {
      handle = refl;
      settings = refl;
      file = refl;
      part = refl;
      keeps_told = λ h. h;
      stands = ap (λ (z : Component). record z { work = Some announcing }) its.stands;
      notes = its.notes;
      heard_so = its.heard_so;
      out = its.out;
      work = its_work;
      before = λ B. B;
      ran = λ h. h;
    }

    pub claim_plays : IsPlayWorld x recent p (with_component i d w)
    claim_plays = kept x recent p p.stage p.told w (with_component i d w) c a d W (record {
      inside = end_inside x recent p w W true l b;
      there = e;
      components = refl;
      headers = refl;
      made = refl;
      units = refl;
      streams = refl;
      given = λ n f. refl;
      handle = refl;
      settings = refl;
      ports = refl;
      works = λ port. rw free refl;
      stage_else = λ k n. refl;
      told_else = λ k n. refl;
    }) W.reached sound (actor_goes_on x recent p p.stage p.told w (with_component i d w) c a d refl claim_going its)

pub announce_claimed : (x : PlayCast) (recent : ℕ) (p : Play) (w : World) (l : ℕ) (h : Handle) (result : Result Claimed OmxError) (v : World) (a : Component) → IsPlayWorld x recent p w → CanAct (x.cast).layout p (Act.Announce l)
    → Names x.cast w (giver_of x.cast l) h → slice_get w.components (script_place x.cast (giver_of x.cast l)) ≡ Some a → a.work ≡ None → Claim w h result v
    → (work : WorkSeen) × (result ≡ Ok (ClaimedWork work)) × (work.announces ≡ true) × PlayLeadsTo x recent p v
announce_claimed x recent p w l h result v a W C N e free K =
    let i : ℕ = script_place x.cast (giver_of x.cast l) in
    let idle = claim_goes x recent p w W l C.0 C.1 a e C.3 C.2 free in
    let r = claims_none (claim_idle (look w) a) i a w result v idle (resolved plain w h result v (λ i c. Claims (claim_idle (look w) c) i c w result v) i a N e K) in (
      seen_work a (work_of (seen w.headers) a) w.headers,
      r.0,
      must x recent p w W l C.0 C.1 a e C.3,
      record { effect = with_work i a (work_of (seen w.headers) a) w; play = subst (λ (y : World). IsPlayWorld x recent p y) (sym (claimed_is x recent p w W l C.0 C.1 a e C.3 C.2 free)) (claim_plays x recent p w W l C.0 C.1 a e C.3 C.2 free); closes = r.1 },
    )
