-- The tunnel of a link that is being changed is dropped.
use Rattle.std.proofs.Common.{◌≡◌, inl, inr, ℕ, ◌+◌, ◌≤◌, Bool, true, false, nat_le, if◌then◌else◌, List, [], ◌∷◌, slice_get, Option, Some, None, Result, Ok, Err, refl, sym, ◌∙◌, ap, subst, arith}
use Rattle.std.proofs.lemmas.Bool.{cases_eq}
use Rattle.omx_types.specs.declared.error.OmxError.{OmxError}
use Rattle.omx_types.specs.declared.handle.Handle.{Handle}
use Rattle.il_machine.specs.declared.header.HeaderState.{HeaderState}
use Rattle.il_machine.specs.declared.port.Link.{Link}
use Rattle.il_machine.specs.declared.port.Port.{Port}
use Rattle.il_machine.specs.declared.port.PortKey.{PortKey}
use Rattle.il_machine.specs.declared.port.PortState.{PortState}
use Rattle.il_machine.specs.Answers.{Answers, Resolving, plain}
use Rattle.il_machine.specs.Due.{ClosesTo}
use Rattle.il_machine.specs.Headers.{count_headers, find_header, is_for, same_key, seen, weight}
use Rattle.il_machine.specs.Lists.{holds_at}
use Rattle.il_machine.specs.Look.{look}
use Rattle.il_machine.specs.Ports.{has_no_header}
use Rattle.il_machine.specs.Sound.{Sound}
use Rattle.il_machine.specs.Tunnels.{BothPorts, DropTunnel, agreed, are_output_and_input, both_parted, drop_refusal, is_joined_with}
use Rattle.il_machine.specs.World.{Component, HeaderRecord, World, port_of, with_component, with_port}
use Rattle.machine_laws.proofs.Finding.{either, found_head, found_tail}
use Rattle.machine_laws.proofs.Keys.{key_same}
use Rattle.machine_laws.proofs.Tunnels.{sound_parted}
use Rattle.play_model.specs.Acts.{Act, CanAct, acted}
use Rattle.play_model.specs.Changes.{Change, conducted}
use Rattle.play_model.specs.Play.{Play}
use Rattle.play_model.proofs.Handing.{act_reaches}
use Rattle.play_world_laws.specs.Cast.{giver_of, input_at, output_at, script_place, taker_of}
use Rattle.play_world_laws.specs.Wiring.{link_to}
use Rattle.play_world_laws.specs.Worlds.{Names}
use Rattle.play_world_laws.proofs.Arrivals.{unmade_by}
use Rattle.play_world_laws.proofs.Lists.{resolved}
use Rattle.play_world_laws.specs.Changing.{is_joined_at, is_set_at, state_by}
use Rattle.play_world_laws.specs.PlayWorlds.{IsEndAt, IsPlayWorld, PlayCast, end_of_link, left_to_make}
use Rattle.play_world_laws.proofs.Ports.{dropped_state}
use Rattle.play_world_laws.specs.Leading.{PlayLeadsTo}
use Rattle.play_world_laws.proofs.Around.{change_here, end_stated}
use Rattle.play_world_laws.proofs.Both.{AreTurned, both_turned}
use Rattle.play_world_laws.proofs.ChangeCounts.{made_at_end}
use Rattle.play_world_laws.proofs.ChangeEnds.{HasEnd, actor_there, end_inside, end_there}
use Rattle.play_world_laws.proofs.One.{actor_turned}
use Rattle.play_world_laws.proofs.ChangedPorts.{port_else, port_here}
use Rattle.play_world_laws.proofs.Retuning.{IsRetuning, later_half, none_made, retuned_turn, turn}

-- a header that is found isn't one of none
pub none_counted : (test : HeaderState → Bool) (hs : List HeaderRecord) (n : ℕ) (r : HeaderRecord) → count_headers test hs ≡ 0 → find_header n hs ≡ Some r → test r.state ≡ true → ⊥
none_counted test [] n r c f t = cc
none_counted test (z ∷ hs) n r c f t = elim (cases_eq z.state.number n) [
  | inl e ↦
      let s : Some z ≡ Some r = sym (found_head n z hs e) ∙ f in
      let is : z ≡ r = cc in
      let w : weight (test z.state) ≡ 1 = ap (λ (u : HeaderRecord). weight (test u.state)) is ∙ ap weight t in
      omega arith
  | inr d ↦ none_counted test hs n r (omega arith) (sym (found_tail n z hs d) ∙ f) t
]

pub less_made : (x : PlayCast) (p q : Play) (l : ℕ) → q.phase ≡ p.phase → q.flow ≡ p.flow → nat_le (p.change l).step 4 ≡ true → nat_le (q.change l).step 4 ≡ false → left_to_make x.cast q l ≤ left_to_make x.cast p l
less_made x p q l e f a b =
    let count : ℕ = (((x.cast).layout).network).count l in
    either (((x.cast).layout).is_late l)
    (λ t. either (nat_le p.phase 3) (λ u. rw (t, a, b, e, u) (omega arith)) (λ u. rw (t, a, b, e, u) (omega arith)))
    (λ t. let s : left_to_make x.cast q l ≡ left_to_make x.cast p l = rw (t, e, f) refl in omega arith)

module _ (x : PlayCast) (recent : ℕ) (p : Play) (w : World) (W : IsPlayWorld x recent p w) (l : ℕ) (C : CanAct (x.cast).layout p (Act.Conduct l)) (four : (p.change l).step ≡ 4) (a d : Component)
    (e : slice_get w.components (script_place x.cast (giver_of x.cast l)) ≡ Some a) (f : slice_get w.components (script_place x.cast (taker_of x.cast l)) ≡ Some d) where
  abbrev k : Change
  k = p.change l

  abbrev q : Play
  q = acted (x.cast).layout (Act.Conduct l) p

  retuning : IsRetuning k.step
  retuning = (omega arith, omega arith)

  abbrev E : HasEnd x p l true a
  E = end_there x recent p w W true l (giver_of x.cast l) a C.below refl e

  abbrev F : HasEnd x p l false d
  F = end_there x recent p w W false l (taker_of x.cast l) d C.below refl f

  abbrev y : Port
  y = E.port

  abbrev z : Port
  z = F.port

  joined_now : is_joined_at k.step ≡ true
  joined_now = ap is_joined_at four

  none_at : (o : Bool) → (seen w.headers).count (is_for (end_of_link x.cast o l)) ≡ 0
  none_at o = made_at_end x recent p w W l C.below joined_now o ∙ none_made x recent p w W l C retuning

  link_there : y.state.link ≡ Some (link_to x.cast l (input_at x.cast l))
  link_there = ap (λ (s : PortState). s.link) (E.end).state ∙ ap (λ (t : Bool). if t then Some (link_to x.cast l (input_at x.cast l)) else None) joined_now

  pub drop_accepted : drop_refusal (look w).headers (port_of a ((x.cast).output_port l)) (port_of d ((x.cast).input_port l)) ≡ None
  drop_accepted =
      let sides : are_output_and_input y z ≡ true = (let i = (E.end).direction in let j = (F.end).direction in rw (i, j) refl) in
      let with : is_joined_with y z ≡ true = ap (λ (o : Option Link). holds_at o (λ link. same_key link.peer z.key)) link_there ∙ (ap (same_key (input_at x.cast l)) (F.end).key ∙ key_same (input_at x.cast l)) in
      let o : has_no_header (seen w.headers) y ≡ true = unmade_by (seen w.headers) y (output_at x.cast l) 0 (E.end).key (none_at true) in
      let i : has_no_header (seen w.headers) z ≡ true = unmade_by (seen w.headers) z (input_at x.cast l) 0 (F.end).key (none_at false) in
      rw (E.there, F.there, sides, with, o, i) refl

  abbrev parted_state : PortState → PortState
  parted_state s = record s { link = None }

  abbrev b : Component
  b = with_port ((x.cast).output_port l) (parted_state y.state) a

  abbrev c : Component
  c = with_port ((x.cast).input_port l) (parted_state z.state) d

  pub parted_is : both_parted (script_place x.cast (giver_of x.cast l)) a y (script_place x.cast (taker_of x.cast l)) d z w ≡ with_component (script_place x.cast (taker_of x.cast l)) c (with_component (script_place x.cast (giver_of x.cast l)) b w)
  parted_is =
      let m : y.key.port ≡ (x.cast).output_port l = ap (λ (u : PortKey). u.port) (E.end).key in
      let n : z.key.port ≡ (x.cast).input_port l = ap (λ (u : PortKey). u.port) (F.end).key in
      λ t. with_component (script_place x.cast (taker_of x.cast l)) (with_port (n t) (parted_state z.state) d) (with_component (script_place x.cast (giver_of x.cast l)) (with_port (m t) (parted_state y.state) a) w)

  abbrev v : World
  v = with_component (script_place x.cast (taker_of x.cast l)) c (with_component (script_place x.cast (giver_of x.cast l)) b w)

  sound : Sound v
  sound = subst Sound parted_is (sound_parted w (script_place x.cast (giver_of x.cast l)) a ((x.cast).output_port l) y (script_place x.cast (taker_of x.cast l)) d ((x.cast).input_port l) z W.sound e E.there f F.there drop_accepted)

  step_now : (q.change l).step ≡ 5
  step_now = ap (λ (u : Change). u.step) (change_here l conducted p) ∙ ap (λ (m : ℕ). m + 1) four

  end_now : (o : Bool) (u : Port) (at peer : PortKey) → IsEndAt x p l o at peer u → IsEndAt x q l o at peer (record u { state = parted_state u.state })
  end_now o u at peer U = end_stated x p q l o at peer u (parted_state u.state)
      (ap parted_state U.state ∙ (dropped_state k (link_to x.cast l peer) o four ∙ sym (ap (λ (r : Change). state_by o r (link_to x.cast l peer)) (change_here l conducted p))))
      (ap (is_set_at o) step_now ∙ (unset o ∙ sym (ap (is_set_at o) four))) U
    where
      unset : (s : Bool) → is_set_at s 5 ≡ is_set_at s 4
      unset true = refl
      unset false = refl

  drop_turned : AreTurned x recent l p l conducted w a b d c (record y { state = parted_state y.state }) (record z { state = parted_state z.state })
  drop_turned =
      let D = W.wired l C.below in
      let o : Some D.output ≡ Some y = sym D.output_there ∙ (let g = e in rw g E.there) in
      let i : Some D.input ≡ Some z = sym D.input_there ∙ (let g = f in rw g F.there) in
      let output : D.output ≡ y = cc in
      let input : D.input ≡ z = cc in
      record {
        below = C.below;
        giver_inside = end_inside x recent p w W true l C.below;
        taker_inside = end_inside x recent p w W false l C.below;
        there = e;
        input_there = f;
        kind = refl;
        input_kind = refl;
        works = λ port. refl;
        input_works = λ port. refl;
        others = λ n m. port_else a n ((x.cast).output_port l) (parted_state y.state) m;
        input_others = λ n m. port_else d n ((x.cast).input_port l) (parted_state z.state) m;
        port = port_here a ((x.cast).output_port l) (parted_state y.state) y E.there;
        input_port = port_here d ((x.cast).input_port l) (parted_state z.state) z F.there;
        end = end_now true y (output_at x.cast l) (input_at x.cast l) E.end;
        input_end = end_now false z (input_at x.cast l) (output_at x.cast l) F.end;
        preferences = (λ t. agreed (sym output t).setting.supplier (sym input t).setting.supplier) ∙ D.supplied C.late;
        fewer = less_made x p q l refl refl (ap (λ (m : ℕ). nat_le m 4) four) (ap (λ (m : ℕ). nat_le m 4) step_now);
        joined = λ n r s g h t. absurd (none_counted (is_for (end_of_link x.cast s l)) w.headers n r (none_at s) g h);
        half = later_half x recent p w W l C retuning;
      }

  pub drop_plays : IsPlayWorld x l q v
  drop_plays =
      let A = retuned_turn x recent p w W l C retuning true a e v refl a.settings b.ports refl (W.actors (giver_of x.cast l) a (end_inside x recent p w W true l C.below) e).set_for in
      let D = retuned_turn x recent p w W l C retuning false d f v refl d.settings c.ports refl (W.actors (taker_of x.cast l) d (end_inside x recent p w W false l C.below) f).set_for in
      both_turned x recent l p l conducted w a b d c (record y { state = parted_state y.state }) (record z { state = parted_state z.state }) W drop_turned (turn x recent p w W l C retuning).latest
      (act_reaches (x.cast).layout p (Act.Conduct l) W.reached C) sound
      (actor_turned x recent l p l conducted w v (giver_of x.cast l) a b refl A (W.actors (giver_of x.cast l) a (end_inside x recent p w W true l C.below) e))
      (actor_turned x recent l p l conducted w v (taker_of x.cast l) d c refl D (W.actors (taker_of x.cast l) d (end_inside x recent p w W false l C.below) f))

-- ---- the call

parted_so : (r : Option OmxError) (result : Result (Unit {0}) OmxError) (w v : World) (o i : Option Port) (y z : Port) (u : Port → Port → World) → r ≡ None → o ≡ Some y → i ≡ Some z
    → Answers r result w v (λ _. BothPorts o i (λ a b. ClosesTo (u a b) v)) → (result ≡ Ok tt) × ClosesTo (u y z) v
parted_so None (Ok t) w v o i y z u n e f h = (refl, rw (e, f) at h)
parted_so None (Err t) w v o i y z u n e f h = absurd h
parted_so (Some t) result w v o i y z u n e f h = absurd cc

pub drop_leads : (x : PlayCast) (recent : ℕ) (p : Play) (w : World) (l : ℕ) (g h : Handle) (result : Result (Unit {0}) OmxError) (v : World) → IsPlayWorld x recent p w → CanAct (x.cast).layout p (Act.Conduct l) → (p.change l).step ≡ 4
    → Names x.cast w (giver_of x.cast l) g → Names x.cast w (taker_of x.cast l) h
    → DropTunnel w (record { handle = g; index = (x.cast).output_port l }) (record { handle = h; index = (x.cast).input_port l }) result v
    → (result ≡ Ok tt) × PlayLeadsTo x l (acted (x.cast).layout (Act.Conduct l) p) v
drop_leads x recent p w l g h result v W C four N M s =
    let i : ℕ = script_place x.cast (giver_of x.cast l) in
    let j : ℕ = script_place x.cast (taker_of x.cast l) in
    let a = actor_there x recent p w (giver_of x.cast l) W (end_inside x recent p w W true l C.below) in
    let d = actor_there x recent p w (taker_of x.cast l) W (end_inside x recent p w W false l C.below) in
    let E = end_there x recent p w W true l (giver_of x.cast l) a.0 C.below refl a.1 in
    let F = end_there x recent p w W false l (taker_of x.cast l) d.0 C.below refl d.1 in
    let Then : ℕ → Component → ℕ → Component → Type 0 =
    λ i c j d. Answers (drop_refusal (look w).headers (port_of c ((x.cast).output_port l)) (port_of d ((x.cast).input_port l))) result w v
    (λ _. BothPorts (port_of c ((x.cast).output_port l)) (port_of d ((x.cast).input_port l)) (λ a b. ClosesTo (both_parted i c a j d b w) v)) in
    let r1 = resolved plain w g result v (λ i c. Resolving plain w h result v (λ j d. Then i c j d)) i a.0 N a.1 s in
    let r2 = resolved plain w h result v (λ j d. Then i a.0 j d) j d.0 M d.1 r1 in
    let t = parted_so (drop_refusal (look w).headers (port_of a.0 ((x.cast).output_port l)) (port_of d.0 ((x.cast).input_port l))) result w v (port_of a.0 ((x.cast).output_port l)) (port_of d.0 ((x.cast).input_port l)) E.port F.port
    (λ a1 b1. both_parted i a.0 a1 j d.0 b1 w) (drop_accepted x recent p w W l C four a.0 d.0 a.1 d.1) E.there F.there r2 in (
      t.0,
      record {
        effect = both_parted i a.0 E.port j d.0 F.port w;
        play = subst (λ (u : World). IsPlayWorld x l (acted (x.cast).layout (Act.Conduct l) p) u) (sym (parted_is x recent p w W l C four a.0 d.0 a.1 d.1)) (drop_plays x recent p w W l C four a.0 d.0 a.1 d.1);
        closes = t.1;
      },
    )
