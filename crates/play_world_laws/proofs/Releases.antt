-- release: the front of todo, else of done, of the end that supplies the link.
use Rattle.std.proofs.Common.{◌≡◌, ◌≢◌, ◌⊎◌, inl, inr, ℕ, suc, ◌+◌, ◌-◌, ◌<◌, ◌≤◌, Bool, true, false, not, ◌||◌, nat_le, List, [], ◌∷◌, ◌++◌, length, length-append, map, Some, None, Result, Ok, refl, sym, ◌∙◌, ap, subst, le-leb, arith}
use Rattle.std.proofs.lemmas.Bool.{cases_eq}
use Rattle.omx_types.specs.declared.error.OmxError.{OmxError}
use Rattle.omx_types.specs.declared.handle.Handle.{Handle}
use Rattle.omx_types.specs.declared.state.State.TheVariants as states
use Rattle.il_machine.specs.declared.answer.Acted.{Acted}
use Rattle.il_machine.specs.declared.answer.Acted.TheVariants as acted_as
use Rattle.il_machine.specs.declared.answer.Why.TheVariants as why
use Rattle.il_machine.specs.declared.port.Port.{Port}
use Rattle.il_machine.specs.declared.port.PortKey.{PortKey}
use Rattle.il_machine.specs.declared.port.PortState.{PortState}
use Rattle.il_machine.specs.Answers.{Acts, plain}
use Rattle.il_machine.specs.Flow.{Release, front_unmade, in_port, release_idle}
use Rattle.il_machine.specs.Headers.{find_header, same_key, seen, without}
use Rattle.il_machine.specs.Lists.{holds_at, is_empty}
use Rattle.il_machine.specs.Look.{look}
use Rattle.il_machine.specs.Ports.{is_disabling, is_going_to, is_supplier, leaving}
use Rattle.il_machine.specs.Sound.{Sound}
use Rattle.il_machine.specs.States.{is_invalid, same_state}
use Rattle.il_machine.specs.World.{Component, HeaderRecord, World, port_of}
use Rattle.machine_laws.proofs.Accepting.{not_not, passed}
use Rattle.machine_laws.proofs.Finding.{either, without_else, without_same}
use Rattle.machine_laws.proofs.Flowing.{sound_released}
use Rattle.machine_laws.proofs.Listed.{done_in, first_in, todo_in}
use Rattle.play_model.specs.Network.{LinkState, headers_of}
use Rattle.play_model.specs.Acts.{Act, CanAct, acted, released}
use Rattle.play_model.specs.Changes.{IsDisabling, port_at}
use Rattle.play_model.specs.Play.{HasHome, Play, component_at, supplier}
use Rattle.play_model.proofs.Handing.{act_reaches}
use Rattle.play_world_laws.specs.View.{LinkEnds, filled, is_in, link_view}
use Rattle.play_world_laws.proofs.Counts.{keys_apart}
use Rattle.play_world_laws.proofs.Made.{done_beside, todo_beside, unmade_held, unmade_ready, unmade_sent, unmade_spent}
use Rattle.play_world_laws.proofs.Same.{length_map, link_same}
use Rattle.play_world_laws.specs.Cast.{home_at, home_by, input_at, links_of, output_at, script_place}
use Rattle.play_world_laws.specs.Standing.{pending_at}
use Rattle.play_world_laws.specs.Wiring.{ends_of, work_in}
use Rattle.play_world_laws.specs.Worlds.{Names}
use Rattle.play_world_laws.proofs.Flowing.{key_not, not_worked}
use Rattle.play_world_laws.proofs.Lists.{resolved_port}
use Rattle.play_world_laws.proofs.Passing.{changed_else}
use Rattle.play_world_laws.proofs.Releasing.{at_leaving, held_less, home_by_length, in_home, leaves_at, length_by_home, no_empty, ready_less, released_closed, sent_less, some_length, spent_less, three_false}
use Rattle.play_world_laws.proofs.Runs.{did, did_none}
use Rattle.play_world_laws.specs.Changing.{mode_at}
use Rattle.play_world_laws.specs.PlayWorlds.{IsPlayWorld, PlayCast, end_of_link, left_to_make, port_number}
use Rattle.play_world_laws.specs.Leading.{PlayLeadsTo}
use Rattle.play_world_laws.proofs.Around.{sum_fewer}
use Rattle.play_world_laws.proofs.PortDue.{early_port}
use Rattle.play_world_laws.proofs.ChangeEnds.{end_inside}
use Rattle.play_world_laws.proofs.Standing.{pending_is, state_is}
use Rattle.play_world_laws.proofs.Turning.{all_told, half_of}
use Rattle.play_world_laws.proofs.Backs.{disabling_at, state_valid}
use Rattle.play_world_laws.proofs.Linking.{link_changed}
use Rattle.play_world_laws.proofs.PassedHeaders.{left_keeps}
use Rattle.play_world_laws.proofs.RestingLinks.{IsResting, low, none_draining, none_filling}
use Rattle.play_world_laws.proofs.Sides.{IsSide, home_is, home_supplies, joined_made, side, supplier_is, supplies}

-- why the supplier unmakes: its component leaves, or its port is disabling
abbrev Leaves : PlayCast → Play → ℕ → Type 0
Leaves x p l = (p.phase ≡ 4) ⊎ ((((x.cast).layout).is_late l ≡ true) × IsDisabling (port_at (((x.cast).layout).by_output l) (p.change l)))

module _ (x : PlayCast) (recent : ℕ) (p : Play) (w : World) (W : IsPlayWorld x recent p w) (l : ℕ) (b : l < links_of x.cast) (L : Leaves x p l) where
  abbrev by : Bool
  by = ((x.cast).layout).by_output l

  abbrev works : PortKey → List ℕ
  works = work_in w.components

  abbrev y0 : LinkEnds
  y0 = ends_of x.cast works p l

  resting : IsResting x p l by
  resting = elim L [ inl four ↦ inl (λ e. omega arith) | inr d ↦ inr d ]

  no_fill : works (output_at x.cast l) ≡ []
  no_fill = none_filling x recent p w W l b by resting

  no_drain : works (input_at x.cast l) ≡ []
  no_drain = none_draining x recent p w W l b by resting

  apart : same_key (input_at x.cast l) (output_at x.cast l) ≡ false
  apart = let D = W.wired l b in keys_apart (input_at x.cast l) (output_at x.cast l) (λ e. D.apart (sym e))

  undrained : (n : ℕ) → is_in n y0.draining ≡ false
  undrained n = ap (is_in n) no_drain

  unfilled : length y0.filling ≡ 0
  unfilled = ap length no_fill

  -- the front of todo, else of done
  todo_by : (s : Bool) (n : ℕ) (ns : List ℕ) → (seen w.headers).todo (home_by s (output_at x.cast l) (input_at x.cast l)) ≡ n ∷ ns → link_view y0 (without n w.headers) ≡ released s (link_view y0 w.headers)
  todo_by true n ns e =
      let h = unmade_ready y0 w.headers n (W.sound).once (undrained n) apart ns e in
      let u = unfilled in
      let many : length ((seen w.headers).todo (output_at x.cast l)) ≡ suc (length ns) = ap length e in
      let k : (link_view y0 w.headers).ready ≡ suc (length y0.filling + length ns) = omega arith in
      h ∙ sym (ready_less (link_view y0 w.headers).ready (link_view y0 w.headers).sent (link_view y0 w.headers) (length y0.filling + length ns) k)
  todo_by false n ns e =
      let h = unmade_held y0 w.headers n (W.sound).once (undrained n) apart ns e in
      let d = no_drain in
      let f = filled ((x.cast).unit l) w.headers in
      let k : (link_view y0 w.headers).held ≡ filled ((x.cast).unit l) w.headers n ∷ map (filled ((x.cast).unit l) w.headers) (y0.draining ++ ns) = rw (d, e) refl in
      h ∙ sym (held_less (link_view y0 w.headers).held (link_view y0 w.headers) (filled ((x.cast).unit l) w.headers n) (map (filled ((x.cast).unit l) w.headers) (y0.draining ++ ns)) k)

  done_by : (s : Bool) (n : ℕ) (ns : List ℕ) → (seen w.headers).todo (home_by s (output_at x.cast l) (input_at x.cast l)) ≡ [] → (seen w.headers).done (home_by s (output_at x.cast l) (input_at x.cast l)) ≡ n ∷ ns
      → link_view y0 (without n w.headers) ≡ released s (link_view y0 w.headers)
  done_by true n ns z e =
      let h = unmade_sent y0 w.headers n (W.sound).once (undrained n) apart ns e in
      let u = unfilled in
      let none : length ((seen w.headers).todo (output_at x.cast l)) ≡ 0 = ap length z in
      let k : (link_view y0 w.headers).ready ≡ 0 = omega arith in
      h ∙ sym (sent_less (link_view y0 w.headers).ready (link_view y0 w.headers).sent (link_view y0 w.headers) (filled ((x.cast).unit l) w.headers n) (map (filled ((x.cast).unit l) w.headers) ns) k (ap (map (filled ((x.cast).unit l) w.headers)) e))
  done_by false n ns z e =
      let h = unmade_spent y0 w.headers n (W.sound).once (undrained n) apart ns e in
      let d = no_drain in
      let many : length ((seen w.headers).done (input_at x.cast l)) ≡ suc (length ns) = ap length e in
      let k : (link_view y0 w.headers).held ≡ [] = rw (d, z) refl in
      h ∙ (link_same (record (link_view y0 w.headers) { spent = length ns }) (record (link_view y0 w.headers) { spent = (link_view y0 w.headers).spent - 1 }) refl refl refl (omega arith) refl refl
      ∙ sym (spent_less (link_view y0 w.headers).held (link_view y0 w.headers) k))

  home_beside : (s : Bool) (k : ℕ) → k < links_of x.cast → k ≢ l → (same_key (output_at x.cast k) (home_by s (output_at x.cast l) (input_at x.cast l)) ≡ false) × (same_key (input_at x.cast k) (home_by s (output_at x.cast l) (input_at x.cast l)) ≡ false)
  home_beside true k h d = (key_not (output_at x.cast k) (output_at x.cast l) (λ e. d ((W.cast_is).outputs k l h b e)), key_not (input_at x.cast k) (output_at x.cast l) (λ e. (W.cast_is).beside l k b h (sym e)))
  home_beside false k h d = (key_not (output_at x.cast k) (input_at x.cast l) ((W.cast_is).beside k l h b), key_not (input_at x.cast k) (input_at x.cast l) (λ e. d ((W.cast_is).inputs k l h b e)))

  there_before : (n m : ℕ) (r : HeaderRecord) → find_header m (without n w.headers) ≡ Some r → find_header m w.headers ≡ Some r
  there_before n m r f = elim (cases_eq m n) [
    | inl e ↦
        let z : find_header m (without n w.headers) ≡ None = subst (λ (k : ℕ). find_header k (without n w.headers) ≡ None) (sym e) (without_same n w.headers (W.sound).once) in
        absurd cc
    | inr d ↦ sym (without_else n m w.headers d) ∙ f
  ]

  abbrev q : Play
  q = acted (x.cast).layout (Act.Release l) p

  -- no more headers are to be made
  left_less : (k : ℕ) → k < links_of x.cast → left_to_make x.cast q k ≤ left_to_make x.cast p k
  left_less k h = elim (cases_eq k l) [
    | inr d ↦ left_keeps x p q k refl refl (ap headers_of (changed_else (released by) l p.flow k d))
    | inl e ↦ elim L [
      | inl four ↦ at_last k four
      | inr d ↦ subst (λ (j : ℕ). left_to_make x.cast q j ≤ left_to_make x.cast p j) (sym e) (early d.0 (low x recent p w W l b by by d.0 d.1).2 (two d.0 d.1))
    ]
  ]
    where
      at_last : (k : ℕ) → p.phase ≡ 4 → left_to_make x.cast q k ≤ left_to_make x.cast p k
      at_last k f = either (((x.cast).layout).is_late k) (λ t. either (nat_le (p.change k).step 4) (λ u. rw (t, u, f) (omega arith)) (λ u. rw (t, u, f) (omega arith))) (λ t. rw (t, f) (omega arith))

      two : ((x.cast).layout).is_late l ≡ true → IsDisabling (port_at by (p.change l)) → p.phase ≡ 2
      two t d = (all_told x recent p w W l b t (half_of (p.change l) ((W.reached).changes l b).order by (omega arith) (omega arith))).0

      early : ((x.cast).layout).is_late l ≡ true → (p.change l).step ≤ 4 → p.phase ≡ 2 → left_to_make x.cast q l ≤ left_to_make x.cast p l
      early t s f = rw (t, le-leb (p.change l).step 4 s, f) (omega arith)

  release_plays : (n : ℕ) → link_view y0 (without n w.headers) ≡ released by (link_view y0 w.headers)
      → ((k : ℕ) → k < links_of x.cast → k ≢ l → link_view (ends_of x.cast works p k) (without n w.headers) ≡ link_view (ends_of x.cast works p k) w.headers)
      → CanAct (x.cast).layout p (Act.Release l) → Sound (record w { headers = without n w.headers }) → IsPlayWorld x recent q (record w { headers = without n w.headers })
  release_plays n here beside C S =
      let k = released_closed by ((p.flow).link l) in
      let s = sum_fewer (links_of x.cast) (left_to_make x.cast q) (left_to_make x.cast p) left_less in
      let u = W.numbers in
      link_changed x recent p w W l b (released by) (without n w.headers) w.made k.0 k.1 here beside (λ m r f. W.headers m r (there_before n m r f)) (λ m r s j f. W.tunnelled m r s j (there_before n m r f)) (omega arith)
      (act_reaches (x.cast).layout p (Act.Release l) W.reached C) S

  unmade_by : (todo done : List ℕ) → (seen w.headers).todo (home_at x.cast l) ≡ todo → (seen w.headers).done (home_at x.cast l) ≡ done → 0 < length (todo ++ done) → CanAct (x.cast).layout p (Act.Release l) → Sound (front_unmade (todo ++ done) w)
      → IsPlayWorld x recent q (front_unmade (todo ++ done) w)
  unmade_by [] [] e f z C S = absurd (omega arith)
  unmade_by [] (n ∷ ns) e f z C S =
      let I = first_in (home_at x.cast l) w.headers ((seen w.headers).done (home_at x.cast l)) ns n (done_in (home_at x.cast l) w.headers (W.sound).once) f in
      release_plays n (done_by by n ns e f)
      (λ k h d. let a = home_beside by k h d in done_beside (ends_of x.cast works p k) w.headers n (W.sound).once (not_worked w n I.header (home_at x.cast l) (input_at x.cast k) W.sound I.found I.owner) (home_at x.cast l) ns a.0 a.1 f) C S
  unmade_by (n ∷ ns) done e f z C S =
      let I = first_in (home_at x.cast l) w.headers ((seen w.headers).todo (home_at x.cast l)) ns n (todo_in (home_at x.cast l) w.headers (W.sound).once) e in
      release_plays n (todo_by by n ns e)
      (λ k h d. let a = home_beside by k h d in todo_beside (ends_of x.cast works p k) w.headers n (W.sound).once (not_worked w n I.header (home_at x.cast l) (input_at x.cast k) W.sound I.found I.owner) (home_at x.cast l) ns a.0 a.1 e) C S

  -- ---- the headers at home

  abbrev todos : PortKey → List ℕ
  todos = λ k. (seen w.headers).todo k

  abbrev dones : PortKey → List ℕ
  dones = λ k. (seen w.headers).done k

  pub record AreLengths : Type 0 where
    pub ready : ((p.flow).link l).ready ≡ length (todos (output_at x.cast l))
    pub sent : length ((p.flow).link l).sent ≡ length (dones (output_at x.cast l))
    pub held : length ((p.flow).link l).held ≡ length (todos (input_at x.cast l))
    pub spent : ((p.flow).link l).spent ≡ length (dones (input_at x.cast l))

  lengths : AreLengths
  lengths =
      let V = W.viewed l b in
      let o = no_fill in
      let i = no_drain in
      let f = filled ((x.cast).unit l) w.headers in
      record {
        ready = ap (λ (y : LinkState). y.ready) V ∙ rw o (omega arith);
        sent = ap (λ (y : LinkState). length y.sent) V ∙ length_map f (dones (output_at x.cast l));
        held = ap (λ (y : LinkState). length y.held) V ∙ rw i (length_map f (todos (input_at x.cast l)));
        spent = ap (λ (y : LinkState). y.spent) V;
      }

  pub some_home : HasHome by ((p.flow).link l) → 0 < length (todos (home_at x.cast l) ++ dones (home_at x.cast l))
  some_home H = let L = lengths in home_by_length by ((p.flow).link l) todos dones (output_at x.cast l) (input_at x.cast l) L.ready L.sent L.held L.spent H

  pub home_some : 0 < length (todos (home_at x.cast l) ++ dones (home_at x.cast l)) → HasHome by ((p.flow).link l)
  home_some H = let L = lengths in length_by_home by ((p.flow).link l) todos dones (output_at x.cast l) (input_at x.cast l) L.ready L.sent L.held L.spent H

-- ---- the call

home_made : (s : Bool) (y : LinkState) → HasHome s y → 0 < headers_of y
home_made true y H = let a = length-append y.held y.sent in omega (arith, H, a)
home_made false y H = let a = length-append y.held y.sent in omega (arith, H, a)

last_true : (d i g : Bool) → g ≡ true → (d || i || g) ≡ true
last_true true i g e = refl
last_true false true g e = refl
last_true false false g e = e

first_true : (d i g : Bool) → d ≡ true → (d || i || g) ≡ true
first_true true i g e = refl
first_true false i g e = absurd cc

which_true : (d i g : Bool) → i ≡ false → (d || i || g) ≡ true → (d ≡ true) ⊎ (g ≡ true)
which_true true i g e h = inl refl
which_true false true g e h = absurd cc
which_true false false g e h = inr h

module _ (x : PlayCast) (recent : ℕ) (p : Play) (w : World) (W : IsPlayWorld x recent p w) (l : ℕ) (b : l < links_of x.cast) where
  abbrev o : Bool
  o = ((x.cast).layout).by_output l

  abbrev pub home : IsSide x recent p w l o
  home = side x recent p w W l o b

  abbrev a : Component
  a = home.component

  abbrev y : Port
  y = (home.its).port

  abbrev c : ℕ
  c = component_at (x.cast).layout o l

  late_disabling : IsDisabling (port_at o (p.change l)) → ((x.cast).layout).is_late l ≡ true
  late_disabling d = either (((x.cast).layout).is_late l) (λ t. t) (λ f. let z = early_port x recent p w W l o b f in absurd (omega arith))

  key_is : y.key ≡ home_at x.cast l
  key_is = ((home.its).end).key ∙ sym (home_is x.cast l)

  going_is : is_going_to states.Loaded a ≡ holds_at (pending_at p.phase (p.stage c)) (λ z. same_state z.target states.Loaded)
  going_is = ap (λ r. holds_at r (λ z. same_state z.target states.Loaded)) (pending_is x recent p w c a home.actor)

  mode_is : is_disabling y.state.mode ≡ is_disabling (mode_at (port_at o (p.change l)))
  mode_is = ap (λ (s : PortState). is_disabling s.mode) ((home.its).end).state

  valid : is_invalid a.state ≡ false
  valid = ap is_invalid (state_is x recent p w c a home.actor) ∙ state_valid p.phase (p.stage c)

  pub leaves_so : (C : CanAct (x.cast).layout p (Act.Release l)) → Leaves x p l
  leaves_so C = elim C.1 [ inl R ↦ inl R.0 | inr d ↦ inr (late_disabling d, d) ]

  its_leaving : (C : CanAct (x.cast).layout p (Act.Release l)) → leaving a y ≡ true
  its_leaving C = elim C.1 [
    | inl R ↦
        let two : p.stage c ≡ 2 = ap p.stage (sym (supplier_is (x.cast).layout l)) ∙ R.1 in
        last_true (is_disabling y.state.mode) (is_invalid a.state) (is_going_to states.Loaded a) (going_is ∙ at_leaving p.phase (p.stage c) R.0 two)
    | inr d ↦ first_true (is_disabling y.state.mode) (is_invalid a.state) (is_going_to states.Loaded a) (mode_is ∙ ap (λ n. is_disabling (mode_at n)) d)
  ]

  pub release_goes : (C : CanAct (x.cast).layout p (Act.Release l)) → release_idle (look w) a y ≡ None
  release_goes C =
      let z = some_home x recent p w W l b (leaves_so C) C.2 in
      let is = in_home w y (home_at x.cast l) key_is in
      let e : is_empty (in_port (seen w.headers) y) ≡ false = ap is_empty is ∙ some_length _ z in
      let j = joined_made x recent p w l W b (home_made o ((p.flow).link l) C.2) in
      let s : is_supplier y ≡ true = supplies x recent p w W l j o y (end_of_link x.cast o l) (end_of_link x.cast (not o) l) (home.its).end ∙ (home_supplies x.cast l (end_of_link x.cast (not o) l)).0 in
      three_false (not (is_supplier y)) (not (leaving a y)) (is_empty (in_port (seen w.headers) y)) why.NotSupplier why.NotLeaving why.NoHeader (ap not s) (ap not (its_leaving C)) e

  pub released_world : (C : CanAct (x.cast).layout p (Act.Release l)) → IsPlayWorld x recent (acted (x.cast).layout (Act.Release l) p) (front_unmade (in_port (seen w.headers) y) w)
  released_world C =
      let L = leaves_so C in
      let is = in_home w y (home_at x.cast l) key_is in
      let U : Sound (front_unmade ((seen w.headers).todo (home_at x.cast l) ++ (seen w.headers).done (home_at x.cast l)) w) = subst (λ (ns : List ℕ). Sound (front_unmade ns w)) is (sound_released w y W.sound) in
      subst (λ (ns : List ℕ). IsPlayWorld x recent (acted (x.cast).layout (Act.Release l) p) (front_unmade ns w)) (sym is)
      (unmade_by x recent p w W l b L ((seen w.headers).todo (home_at x.cast l)) ((seen w.headers).done (home_at x.cast l)) refl refl (some_home x recent p w W l b L C.2) C U)

  pub release_passes : release_idle (look w) a y ≡ None → CanAct (x.cast).layout p (Act.Release l)
  release_passes n =
      let a1 = passed (not (is_supplier y)) _ _ n in
      let a2 = passed (not (leaving a y)) _ _ a1.1 in
      let a3 = passed (is_empty (in_port (seen w.headers) y)) _ _ a2.1 in
      let some = no_empty _ (sym (ap is_empty (in_home w y (home_at x.cast l) key_is)) ∙ a3.0) in
      elim (which_true (is_disabling y.state.mode) (is_invalid a.state) (is_going_to states.Loaded a) valid (not_not (leaving a y) a2.0)) [
        | inl d ↦
            let two : IsDisabling (port_at o (p.change l)) = disabling_at (port_at o (p.change l)) (sym mode_is ∙ d) in
            (b, inr two, home_some x recent p w W l b (inr (late_disabling two, two)) some)
        | inr g ↦
            let t = leaves_at p.phase (p.stage c) (W.reached).phase (sym going_is ∙ g) in
            elim t.1 [
              | inl z ↦ let f = (W.reached).first z c (end_inside x recent p w W o l b) in absurd (omega (arith, t.0, f))
              | inr four ↦ (b, inl (four, ap p.stage (supplier_is (x.cast).layout l) ∙ t.0), home_some x recent p w W l b (inl four) some)
            ]
      ]

release_acts : (x : PlayCast) (recent : ℕ) (p : Play) (w : World) (l : ℕ) (h : Handle) (result : Result Acted OmxError) (v : World) (W : IsPlayWorld x recent p w) (b : l < links_of x.cast) → Names x.cast w (supplier (x.cast).layout l) h → Release w h (home_at x.cast l).port result v
    → Acts (release_idle (look w) (home x recent p w W l b).component ((home x recent p w W l b).its).port) result w (front_unmade (in_port (seen w.headers) ((home x recent p w W l b).its).port) w) v
release_acts x recent p w l h result v W b N s =
    let by : Bool = ((x.cast).layout).by_output l in
    let A = home x recent p w W l b in
    let M : Names x.cast w (component_at (x.cast).layout by l) h = subst (λ (c : ℕ). Names x.cast w c h) (supplier_is (x.cast).layout l) N in
    let port : (home_at x.cast l).port ≡ port_number x.cast by l = ap (λ (k : PortKey). k.port) (home_is x.cast l) ∙ its_port by in
    let there : port_of A.component (home_at x.cast l).port ≡ Some (A.its).port = ap (port_of A.component) port ∙ (A.its).there in
    resolved_port plain w h (home_at x.cast l).port result v (λ i c q. Acts (release_idle (look w) c q) result w (front_unmade (in_port (seen w.headers) q) w) v) (script_place x.cast (component_at (x.cast).layout by l)) A.component (A.its).port M A.there there s
  where
    its_port : (s : Bool) → (end_of_link x.cast s l).port ≡ port_number x.cast s l
    its_port true = refl
    its_port false = refl

pub release_leads : (x : PlayCast) (recent : ℕ) (p : Play) (w : World) (l : ℕ) (h : Handle) (result : Result Acted OmxError) (v : World) → IsPlayWorld x recent p w → CanAct (x.cast).layout p (Act.Release l)
    → Names x.cast w (supplier (x.cast).layout l) h → Release w h (home_at x.cast l).port result v → (result ≡ Ok acted_as.Did) × PlayLeadsTo x recent (acted (x.cast).layout (Act.Release l) p) v
release_leads x recent p w l h result v W C N s =
    let b = C.0 in
    let A = home x recent p w W l b in
    let t = did (release_idle (look w) A.component (A.its).port) result w (front_unmade (in_port (seen w.headers) (A.its).port) w) v (release_goes x recent p w W l b C) (release_acts x recent p w l h result v W b N s) in
    (t.0, record { effect = front_unmade (in_port (seen w.headers) (A.its).port) w; play = released_world x recent p w W l b C; closes = t.1 })

pub release_can : (x : PlayCast) (recent : ℕ) (p : Play) (w : World) (l : ℕ) (h : Handle) (result : Result Acted OmxError) (v : World) → IsPlayWorld x recent p w → l < links_of x.cast → Names x.cast w (supplier (x.cast).layout l) h
    → Release w h (home_at x.cast l).port result v → result ≡ Ok acted_as.Did → CanAct (x.cast).layout p (Act.Release l)
release_can x recent p w l h result v W b N s d =
    let A = home x recent p w W l b in
    release_passes x recent p w W l b (did_none (release_idle (look w) A.component (A.its).port) result w (front_unmade (in_port (seen w.headers) (A.its).port) w) v (release_acts x recent p w l h result v W b N s) d)
