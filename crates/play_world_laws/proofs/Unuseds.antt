-- hand_back of a header that was not used: on the way to Idle, or while its port is disabling.
use Rattle.std.proofs.Common.{◌≡◌, ◌≢◌, ◌⊎◌, inl, inr, ℕ, suc, ◌+◌, ◌<◌, Bool, true, false, not, ◌&&◌, ◌||◌, List, [], ◌∷◌, length, map, Some, None, Result, Ok, refl, sym, ◌∙◌, ap, subst, arith}
use Rattle.std.proofs.lemmas.Bool.{cases_eq}
use Rattle.omx_types.specs.declared.error.OmxError.{OmxError}
use Rattle.omx_types.specs.declared.handle.Handle.{Handle}
use Rattle.omx_types.specs.declared.state.State.TheVariants as states
use Rattle.il_machine.specs.declared.answer.Acted.{Acted}
use Rattle.il_machine.specs.declared.answer.Acted.TheVariants as acted_as
use Rattle.il_machine.specs.declared.answer.Why.TheVariants as why
use Rattle.il_machine.specs.declared.header.Spot.{Spot}
use Rattle.il_machine.specs.declared.port.Port.{Port}
use Rattle.il_machine.specs.declared.port.PortKey.{PortKey}
use Rattle.il_machine.specs.declared.port.PortState.{PortState}
use Rattle.il_machine.specs.Answers.{Acts, plain}
use Rattle.il_machine.specs.Flow.{HandBack, back_idle, handed_back, supplied_spot}
use Rattle.il_machine.specs.Headers.{cleared, put, same_key, seen}
use Rattle.il_machine.specs.Lists.{holds_at, is_empty}
use Rattle.il_machine.specs.Look.{look}
use Rattle.il_machine.specs.Ports.{id_of, is_disabling, is_going_to, is_input_port, is_supplied_by, is_supplier, returning}
use Rattle.il_machine.specs.Sound.{Sound}
use Rattle.il_machine.specs.States.{is_executing, is_invalid, is_running, same_state}
use Rattle.il_machine.specs.World.{Component, World, port_of}
use Rattle.machine_laws.proofs.Accepting.{both_of, passed}
use Rattle.machine_laws.proofs.Finding.{either}
use Rattle.machine_laws.proofs.Flowing.{sound_returned}
use Rattle.machine_laws.proofs.Listed.{IsIn, first_in, todo_in}
use Rattle.play_model.specs.Moves.{IsFront}
use Rattle.play_model.specs.Network.{LinkState, headers_of}
use Rattle.play_model.specs.Acts.{Act, CanAct, acted, given_unused}
use Rattle.play_model.specs.Changes.{IsDisabling, port_at}
use Rattle.play_model.specs.Play.{HasUnused, IsReturning, Play, component_at, made, other_component}
use Rattle.play_model.proofs.Handing.{act_reaches, unused_headers}
use Rattle.play_world_laws.specs.View.{LinkEnds, filled, is_in, link_view}
use Rattle.play_world_laws.proofs.Counts.{keys_apart}
use Rattle.play_world_laws.proofs.Same.{link_same}
use Rattle.play_world_laws.proofs.Unused.{from_input, from_output, input_beside, output_beside}
use Rattle.play_world_laws.specs.Cast.{away_at, home_at, home_by, input_at, links_of, output_at, script_place}
use Rattle.play_world_laws.specs.Standing.{pending_at, state_at}
use Rattle.play_world_laws.specs.Wiring.{ends_of, link_to, work_in}
use Rattle.play_world_laws.specs.Worlds.{Names}
use Rattle.play_world_laws.proofs.Flowing.{links_apart, not_worked, put_links}
use Rattle.play_world_laws.proofs.Handing.{not_empty}
use Rattle.play_world_laws.proofs.Leftovers.{IsLeft, at_going, both_left, by_left, cleared_link, going_at, is_nil, left_by, unused_closed, unused_none, unused_taken}
use Rattle.play_world_laws.proofs.Lists.{resolved_port}
use Rattle.play_world_laws.proofs.Passing.{changed_else, changed_here}
use Rattle.play_world_laws.proofs.Runs.{did, did_none}
use Rattle.play_world_laws.proofs.Terms.{early_stage, executes_back, state_running}
use Rattle.play_world_laws.specs.Changing.{is_joined_at, mode_at}
use Rattle.play_world_laws.specs.PlayWorlds.{IsPlayWorld, PlayCast, end_of_link, left_to_make, port_number}
use Rattle.play_world_laws.specs.Leading.{PlayLeadsTo}
use Rattle.play_world_laws.proofs.Around.{sum_fewer}
use Rattle.play_world_laws.proofs.PortDue.{early_port}
use Rattle.play_world_laws.proofs.Standing.{pending_is, state_is}
use Rattle.play_world_laws.proofs.Backs.{disabling_at, state_valid}
use Rattle.play_world_laws.proofs.Linking.{link_changed}
use Rattle.play_world_laws.proofs.PassedHeaders.{left_keeps, put_tunnelled}
use Rattle.play_world_laws.proofs.RestingLinks.{IsResting, none_draining, none_filling}
use Rattle.play_world_laws.proofs.Sides.{IsSide, away_is, home_is, home_supplies, joined_made, link_of, other_is, side, supplies}

-- a link with a header that was not used has a header
unused_made : (by : Bool) (y : LinkState) → HasUnused by y → 0 < headers_of y
unused_made true y U = front y.held U.1
  where
    front : (q : List _) → IsFront (λ h. Unit {0}) q → 0 < headers_of (record y { held = q })
    front [] h = absurd h
    front (h ∷ q) t = omega arith
unused_made false y U = omega (arith, U.1)

either_true : (f d i g : Bool) → (d ≡ true) ⊎ (g ≡ true) → (f || d || i || g) ≡ true
either_true true d i g h = refl
either_true false true i g h = refl
either_true false false true g h = refl
either_true false false false g (inl e) = absurd cc
either_true false false false g (inr e) = e

which_true : (f d i g : Bool) → f ≡ false → i ≡ false → (f || d || i || g) ≡ true → (d ≡ true) ⊎ (g ≡ true)
which_true true d i g e k h = absurd cc
which_true false true i g e k h = inl refl
which_true false false true g e k h = absurd cc
which_true false false false g e k h = inr h

double : (s : Bool) → not (not s) ≡ s
double true = refl
double false = refl

module _ (x : PlayCast) (recent : ℕ) (p : Play) (w : World) (W : IsPlayWorld x recent p w) (l : ℕ) (b : l < links_of x.cast) (L : IsResting x p l (not (((x.cast).layout).by_output l))) where
  abbrev by : Bool
  by = ((x.cast).layout).by_output l

  abbrev works : PortKey → List ℕ
  works = work_in w.components

  no_fill : works (output_at x.cast l) ≡ []
  no_fill = none_filling x recent p w W l b (not by) L

  no_drain : works (input_at x.cast l) ≡ []
  no_drain = none_draining x recent p w W l b (not by) L

  apart : same_key (input_at x.cast l) (output_at x.cast l) ≡ false
  apart = let D = W.wired l b in keys_apart (input_at x.cast l) (output_at x.cast l) (λ e. D.apart (sym e))

  undrained : (n : ℕ) → is_in n (ends_of x.cast works p l).draining ≡ false
  undrained n = ap (is_in n) no_drain

  viewed_by : (s : Bool) (n : ℕ) (ns : List ℕ) → (seen w.headers).todo (home_by s (input_at x.cast l) (output_at x.cast l)) ≡ n ∷ ns
      → link_view (ends_of x.cast works p l) (put (home_by s (output_at x.cast l) (input_at x.cast l)) (supplied_spot (not s)) n cleared w.headers) ≡ given_unused s (link_view (ends_of x.cast works p l) w.headers)
  viewed_by true n ns e =
      let y : LinkEnds = ends_of x.cast works p l in
      let d = no_drain in
      let h = from_input y w.headers n ns (W.sound).once apart (undrained n) e in
      h ∙ rw (d, e) refl
  viewed_by false n ns e =
      let y : LinkEnds = ends_of x.cast works p l in
      let h = from_output y w.headers n ns (W.sound).once apart (undrained n) e in
      let many : length ((seen w.headers).todo (output_at x.cast l)) ≡ suc (length ns) = ap length e in
      h ∙ link_same (record (link_view y w.headers) { ready = length y.filling + length ns; spent = (link_view y w.headers).spent + 1 }) (given_unused false (link_view y w.headers)) (omega arith) refl refl refl refl refl

  -- a header of a list todo is in no work
  unworked : (key : PortKey) (n : ℕ) (ns : List ℕ) → (seen w.headers).todo key ≡ n ∷ ns → (k : ℕ) → is_in n (ends_of x.cast works p k).draining ≡ false
  unworked key n ns e k = let I = first_in key w.headers ((seen w.headers).todo key) ns n (todo_in key w.headers (W.sound).once) e in not_worked w n I.header key (input_at x.cast k) W.sound I.found I.owner

  beside_by : (s : Bool) (n : ℕ) (ns : List ℕ) → (seen w.headers).todo (home_by s (input_at x.cast l) (output_at x.cast l)) ≡ n ∷ ns → (k : ℕ) → k < links_of x.cast → k ≢ l
      → link_view (ends_of x.cast works p k) (put (home_by s (output_at x.cast l) (input_at x.cast l)) (supplied_spot (not s)) n cleared w.headers) ≡ link_view (ends_of x.cast works p k) w.headers
  beside_by true n ns e k h d = input_beside (ends_of x.cast works p l) (ends_of x.cast works p k) w.headers n ns (W.sound).once (links_apart x.cast works p l k W.cast_is b h d) (unworked (input_at x.cast l) n ns e k) e
  beside_by false n ns e k h d = output_beside (ends_of x.cast works p l) (ends_of x.cast works p k) w.headers n ns (W.sound).once (links_apart x.cast works p l k W.cast_is b h d) (unworked (output_at x.cast l) n ns e k) e

  abbrev q : Play
  q = acted (x.cast).layout (Act.HandUnused l) p

  pub unused_plays : (n : ℕ) (ns : List ℕ) → (seen w.headers).todo (away_at x.cast l) ≡ n ∷ ns → CanAct (x.cast).layout p (Act.HandUnused l) → Sound (record w { headers = put (home_at x.cast l) (supplied_spot (not by)) n cleared w.headers })
      → IsPlayWorld x recent q (record w { headers = put (home_at x.cast l) (supplied_spot (not by)) n cleared w.headers })
  unused_plays n ns e C S =
      let o = (W.sound).once in
      let to : PortKey = home_at x.cast l in
      let spot : Spot = supplied_spot (not by) in
      let I : IsIn (away_at x.cast l) w.headers n = first_in (away_at x.cast l) w.headers ((seen w.headers).todo (away_at x.cast l)) ns n (todo_in (away_at x.cast l) w.headers o) e in
      let left = sum_fewer (links_of x.cast) (left_to_make x.cast q) (left_to_make x.cast p) (λ k h. left_keeps x p q k refl refl (many k)) in
      let u = W.numbers in
      link_changed x recent p w W l b (given_unused by) (put to spot n cleared w.headers) w.made (unused_closed by ((p.flow).link l)) (unused_taken by ((p.flow).link l)) (viewed_by by n ns e) (beside_by by n ns e)
      (put_links x.cast to spot cleared n I.header w.headers (λ y. refl) o I.found (cleared_link x.cast to spot I.header (W.headers n I.header I.found)) W.headers)
      (put_tunnelled x recent p w W to spot cleared n I.header (λ y. refl) (λ y at. refl) I.found)
      (omega arith) (act_reaches (x.cast).layout p (Act.HandUnused l) W.reached C) S
    where
      many : (k : ℕ) → made q k ≡ made p k
      many k = elim (cases_eq k l) [
        | inl s ↦ subst (λ (j : ℕ). made q j ≡ made p j) (sym s) (ap headers_of (changed_here (given_unused by) l p.flow) ∙ unused_headers by ((p.flow).link l) C.2)
        | inr d ↦ ap headers_of (changed_else (given_unused by) l p.flow k d)
      ]

  -- ---- the lists of the other end

  pub left : HasUnused by ((p.flow).link l) → IsLeft (λ k. (seen w.headers).todo k) (λ k. (seen w.headers).done k) (away_at x.cast l)
  left U =
      let V = W.viewed l b in
      let o = no_fill in
      let i = no_drain in
      let r : ((p.flow).link l).ready ≡ length ((seen w.headers).todo (output_at x.cast l)) = ap (λ (y : LinkState). y.ready) V ∙ rw o (omega arith) in
      let h : ((p.flow).link l).held ≡ map (filled ((x.cast).unit l) w.headers) ((seen w.headers).todo (input_at x.cast l)) = ap (λ (y : LinkState). y.held) V ∙ rw i refl in
      left_by by ((p.flow).link l) (filled ((x.cast).unit l) w.headers) (filled ((x.cast).unit l) w.headers) (λ k. (seen w.headers).todo k) (λ k. (seen w.headers).done k) (output_at x.cast l) (input_at x.cast l) r (ap (λ (y : LinkState). y.sent) V) h
      (ap (λ (y : LinkState). y.spent) V) U

  pub unleft : IsLeft (λ k. (seen w.headers).todo k) (λ k. (seen w.headers).done k) (away_at x.cast l) → HasUnused by ((p.flow).link l)
  unleft H =
      let V = W.viewed l b in
      let o = no_fill in
      let i = no_drain in
      let r : ((p.flow).link l).ready ≡ length ((seen w.headers).todo (output_at x.cast l)) = ap (λ (y : LinkState). y.ready) V ∙ rw o (omega arith) in
      let h : ((p.flow).link l).held ≡ map (filled ((x.cast).unit l) w.headers) ((seen w.headers).todo (input_at x.cast l)) = ap (λ (y : LinkState). y.held) V ∙ rw i refl in
      by_left by ((p.flow).link l) (filled ((x.cast).unit l) w.headers) (filled ((x.cast).unit l) w.headers) (λ k. (seen w.headers).todo k) (λ k. (seen w.headers).done k) (output_at x.cast l) (input_at x.cast l) r (ap (λ (y : LinkState). y.sent) V) h
      (ap (λ (y : LinkState). y.spent) V) H

-- ---- the call

module _ (x : PlayCast) (recent : ℕ) (p : Play) (w : World) (W : IsPlayWorld x recent p w) (l : ℕ) (b : l < links_of x.cast) where
  abbrev o : Bool
  o = ((x.cast).layout).by_output l

  abbrev pub away : IsSide x recent p w l (not o)
  away = side x recent p w W l (not o) b

  abbrev a : Component
  a = away.component

  abbrev y : Port
  y = (away.its).port

  abbrev c : ℕ
  c = component_at (x.cast).layout (not o) l

  abbrev peer : PortKey
  peer = end_of_link x.cast (not (not o)) l

  late_disabling : IsDisabling (port_at (not o) (p.change l)) → ((x.cast).layout).is_late l ≡ true
  late_disabling d = either (((x.cast).layout).is_late l) (λ t. t) (λ f. let z = early_port x recent p w W l (not o) b f in absurd (omega arith))

  key_is : y.key ≡ away_at x.cast l
  key_is = ((away.its).end).key ∙ sym (away_is x.cast l)

  going_is : is_going_to states.Idle a ≡ holds_at (pending_at p.phase (p.stage c)) (λ z. same_state z.target states.Idle)
  going_is = ap (λ r. holds_at r (λ z. same_state z.target states.Idle)) (pending_is x recent p w c a away.actor)

  runs_is : is_running a.state ≡ is_executing (state_at p.phase (p.stage c))
  runs_is = ap is_running (state_is x recent p w c a away.actor) ∙ state_running p.phase (p.stage c)

  mode_is : is_disabling y.state.mode ≡ is_disabling (mode_at (port_at (not o) (p.change l)))
  mode_is = ap (λ (s : PortState). is_disabling s.mode) ((away.its).end).state

  calm : y.state.flushing ≡ false
  calm = ap (λ (s : PortState). s.flushing) ((away.its).end).state

  valid : is_invalid a.state ≡ false
  valid = ap is_invalid (state_is x recent p w c a away.actor) ∙ state_valid p.phase (p.stage c)

  -- why the end gives the header back
  abbrev GivesBack : Type 0
  GivesBack = IsReturning p c ⊎ IsDisabling (port_at (not o) (p.change l))

  pub rests : GivesBack → IsResting x p l (not o)
  rests (inl R) = inl (λ e. omega (arith, e, R.0))
  rests (inr d) = inr (late_disabling d, d)

  its_return : GivesBack → returning a y ≡ true
  its_return (inl R) =
      let r : is_running a.state ≡ true = runs_is ∙ early_stage p.phase (p.stage c) R.0 (omega (arith, R.1)) in
      let g : is_going_to states.Idle a ≡ true = going_is ∙ at_going p.phase (p.stage c) R.0 R.1 in
      either_true y.state.flushing (is_disabling y.state.mode) (is_invalid a.state) (is_running a.state && is_going_to states.Idle a) (inr (both r g))
    where
      both : {r g : Bool} → r ≡ true → g ≡ true → (r && g) ≡ true
      both e f = rw (e, f) refl
  its_return (inr d) = either_true y.state.flushing (is_disabling y.state.mode) (is_invalid a.state) (is_running a.state && is_going_to states.Idle a) (inl (mode_is ∙ ap (λ n. is_disabling (mode_at n)) d))

  pub return_gives : returning a y ≡ true → GivesBack
  return_gives h = elim (which_true y.state.flushing (is_disabling y.state.mode) (is_invalid a.state) (is_running a.state && is_going_to states.Idle a) calm valid h) [
    | inl d ↦ inr (disabling_at (port_at (not o) (p.change l)) (sym mode_is ∙ d))
    | inr k ↦
        let t = both_of (is_running a.state) (is_going_to states.Idle a) k in
        let s = going_at p.phase (p.stage c) (sym going_is ∙ t.1) in
        elim (executes_back p.phase (p.stage c) (sym runs_is ∙ t.0)) [
          | inl z ↦ absurd (omega (arith, s, z.1))
          | inr z ↦ inl (z.0, s)
        ]
  ]

  pub gives_so : CanAct (x.cast).layout p (Act.HandUnused l) → GivesBack
  gives_so C = elim C.1 [ inl R ↦ inl (subst (λ (k : ℕ). IsReturning p k) (other_is (x.cast).layout l) R) | inr d ↦ inr d ]

  so_gives : GivesBack → IsReturning p (other_component (x.cast).layout l) ⊎ IsDisabling (port_at (not o) (p.change l))
  so_gives (inl R) = inl (subst (λ (k : ℕ). IsReturning p k) (sym (other_is (x.cast).layout l)) R)
  so_gives (inr d) = inr d

  back_key : end_of_link x.cast (not (not o)) l ≡ home_at x.cast l
  back_key = ap (λ (s : Bool). end_of_link x.cast s l) (double o) ∙ sym (home_is x.cast l)

  module _ (C : CanAct (x.cast).layout p (Act.HandUnused l)) where
    abbrev H : IsLeft (λ k. (seen w.headers).todo k) (λ k. (seen w.headers).done k) (away_at x.cast l)
    H = left x recent p w W l b (rests (gives_so C)) C.2

    joined : is_joined_at (p.change l).step ≡ true
    joined = joined_made x recent p w l W b (unused_made o ((p.flow).link l) C.2)

    link_there : y.state.link ≡ Some (link_to x.cast l (home_at x.cast l))
    link_there = link_of x recent p w W l joined (not o) y (end_of_link x.cast (not o) l) peer (away.its).end ∙ ap (λ (k : PortKey). Some (link_to x.cast l k)) back_key

    pub unused_goes : back_idle (look w) a y ≡ None
    unused_goes =
        let s : is_supplier y ≡ false =
        supplies x recent p w W l joined (not o) y (end_of_link x.cast (not o) l) peer (away.its).end ∙ (ap (λ (z : Bool). is_supplied_by z (link_to x.cast l peer)) (double o) ∙ (home_supplies x.cast l peer).1) in
        let k : is_empty ((seen w.headers).todo y.key) ≡ false = ap (λ (z : PortKey). is_empty ((seen w.headers).todo z)) key_is ∙ ap is_empty H.some in
        unused_none (is_supplier y) (returning a y) (is_executing a.state) (is_empty ((seen w.headers).done y.key)) (is_empty ((seen w.headers).todo y.key)) why.IsSupplier (why.NotRunning (id_of a y)) why.NoHeader s (its_return (gives_so C)) k

    abbrev pub to : World
    to = record w { headers = put (home_at x.cast l) (supplied_spot (not o)) H.number cleared w.headers }

    pub unused_is : (i : ℕ) → handed_back i a y y.state.link w ≡ to
    unused_is i =
        let s = link_there in
        let n : (seen w.headers).done y.key ≡ [] = ap (λ (z : PortKey). (seen w.headers).done z) key_is ∙ H.none in
        let t : (seen w.headers).todo y.key ≡ H.number ∷ H.rest = ap (λ (z : PortKey). (seen w.headers).todo z) key_is ∙ H.some in
        let d : is_input_port y ≡ o = ((away.its).end).direction ∙ double o in
        rw (s, n, t, d) refl

    pub unused_world : IsPlayWorld x recent (acted (x.cast).layout (Act.HandUnused l) p) to
    unused_world =
        let i : ℕ = script_place x.cast c in
        let T = sound_returned w i a (port_number x.cast (not o) l) y (link_to x.cast l (home_at x.cast l)) W.sound away.there (away.its).there link_there in
        let U : Sound (handed_back i a y y.state.link w) = rw link_there T in
        unused_plays x recent p w W l b (rests (gives_so C)) H.number H.rest H.some C (subst Sound (unused_is i) U)

  -- where the list done is empty
  pub unused_passes : is_empty ((seen w.headers).done (away_at x.cast l)) ≡ true → back_idle (look w) a y ≡ None → CanAct (x.cast).layout p (Act.HandUnused l)
  unused_passes f n =
      let e : is_empty ((seen w.headers).done y.key) ≡ true = ap (λ (z : PortKey). is_empty ((seen w.headers).done z)) key_is ∙ f in
      let a1 = passed (is_supplier y) _ _ n in
      let a2 = passed (not (returning a y) && not (is_executing a.state)) _ _ a1.1 in
      let a3 = passed (is_empty ((seen w.headers).done y.key) && (not (returning a y) || is_empty ((seen w.headers).todo y.key))) _ _ a2.1 in
      let g = both_left (is_empty ((seen w.headers).done y.key)) (returning a y) (is_empty ((seen w.headers).todo y.key)) e a3.0 in
      let R = return_gives g.0 in
      let k = not_empty ((seen w.headers).todo y.key) g.1 in (
        b,
        so_gives R,
        unleft x recent p w W l b (rests R) (record {
          none = is_nil ((seen w.headers).done (away_at x.cast l)) f;
          number = k.0;
          rest = k.1;
          some = ap (λ (z : PortKey). (seen w.headers).todo z) (sym key_is) ∙ k.2;
        }),
      )

unused_acts : (x : PlayCast) (recent : ℕ) (p : Play) (w : World) (l : ℕ) (h : Handle) (result : Result Acted OmxError) (v : World) (W : IsPlayWorld x recent p w) (b : l < links_of x.cast) → Names x.cast w (other_component (x.cast).layout l) h
    → HandBack w h (away_at x.cast l).port result v
    → Acts (back_idle (look w) (away x recent p w W l b).component ((away x recent p w W l b).its).port) result w
    (handed_back (script_place x.cast (component_at (x.cast).layout (not (((x.cast).layout).by_output l)) l)) (away x recent p w W l b).component ((away x recent p w W l b).its).port ((away x recent p w W l b).its).port.state.link w) v
unused_acts x recent p w l h result v W b N s =
    let by : Bool = ((x.cast).layout).by_output l in
    let A = away x recent p w W l b in
    let M : Names x.cast w (component_at (x.cast).layout (not by) l) h = subst (λ (c : ℕ). Names x.cast w c h) (other_is (x.cast).layout l) N in
    let port : (away_at x.cast l).port ≡ port_number x.cast (not by) l = ap (λ (k : PortKey). k.port) (away_is x.cast l) ∙ its_port (not by) in
    let there : port_of A.component (away_at x.cast l).port ≡ Some (A.its).port = ap (port_of A.component) port ∙ (A.its).there in
    resolved_port plain w h (away_at x.cast l).port result v (λ i c q. Acts (back_idle (look w) c q) result w (handed_back i c q q.state.link w) v) (script_place x.cast (component_at (x.cast).layout (not by) l)) A.component (A.its).port M A.there there s
  where
    its_port : (s : Bool) → (end_of_link x.cast s l).port ≡ port_number x.cast s l
    its_port true = refl
    its_port false = refl

pub unused_leads : (x : PlayCast) (recent : ℕ) (p : Play) (w : World) (l : ℕ) (h : Handle) (result : Result Acted OmxError) (v : World) → IsPlayWorld x recent p w → CanAct (x.cast).layout p (Act.HandUnused l)
    → Names x.cast w (other_component (x.cast).layout l) h → HandBack w h (away_at x.cast l).port result v → (result ≡ Ok acted_as.Did) × PlayLeadsTo x recent (acted (x.cast).layout (Act.HandUnused l) p) v
unused_leads x recent p w l h result v W C N s =
    let b = C.0 in
    let A = away x recent p w W l b in
    let i : ℕ = script_place x.cast (component_at (x.cast).layout (not (((x.cast).layout).by_output l)) l) in
    let t = did (back_idle (look w) A.component (A.its).port) result w (handed_back i A.component (A.its).port (A.its).port.state.link w) v (unused_goes x recent p w W l b C) (unused_acts x recent p w l h result v W b N s) in
    (t.0, record { effect = handed_back i A.component (A.its).port (A.its).port.state.link w; play = subst (λ (u : World). IsPlayWorld x recent (acted (x.cast).layout (Act.HandUnused l) p) u) (sym (unused_is x recent p w W l b C i)) (unused_world x recent p w W l b C); closes = t.1 })

pub unused_can : (x : PlayCast) (recent : ℕ) (p : Play) (w : World) (l : ℕ) (h : Handle) (result : Result Acted OmxError) (v : World) → IsPlayWorld x recent p w → l < links_of x.cast → Names x.cast w (other_component (x.cast).layout l) h
    → HandBack w h (away_at x.cast l).port result v → result ≡ Ok acted_as.Did → is_empty ((seen w.headers).done (away_at x.cast l)) ≡ true → CanAct (x.cast).layout p (Act.HandUnused l)
unused_can x recent p w l h result v W b N s d f =
    let A = away x recent p w W l b in
    let i : ℕ = script_place x.cast (component_at (x.cast).layout (not (((x.cast).layout).by_output l)) l) in
    unused_passes x recent p w W l b f (did_none (back_idle (look w) A.component (A.its).port) result w (handed_back i A.component (A.its).port (A.its).port.state.link w) v (unused_acts x recent p w l h result v W b N s) d)
