-- Where a component of a play may claim: the machine's tests, and the model's.
use Rattle.std.proofs.Common.{◌≡◌, inl, inr, ℕ, ◌+◌, ◌<◌, ◌≤◌, Bool, true, false, not, ◌&&◌, ◌||◌, nat_lt, List, [], ◌∷◌, ◌++◌, length, filter, map, slice_get, Some, None, is_some, refl, sym, ◌∙◌, ap, subst, le-ltb, arith}
use Rattle.omx_types.specs.declared.kind.Kind.{Kind}
use Rattle.omx_types.specs.declared.kind.Kind.TheVariants as kinds
use Rattle.il_machine.specs.declared.port.PortKey.{PortKey}
use Rattle.il_machine.specs.declared.port.Port.{Port}
use Rattle.il_machine.specs.declared.port.PortSetting.{PortSetting}
use Rattle.il_machine.specs.declared.port.PortState.{PortState}
use Rattle.il_machine.specs.Kinds.{ports_in}
use Rattle.part_forms.specs.Kinds.{IsSized}
use Rattle.il_machine.specs.Lists.{first_of_these, is_empty}
use Rattle.il_machine.specs.World.{Component, World, ports_from, ports_of}
use Rattle.il_machine.specs.Headers.{seen}
use Rattle.il_machine.specs.Look.{look}
use Rattle.il_machine.specs.Ports.{is_input_port, is_open}
use Rattle.il_machine.specs.Room.{room}
use Rattle.il_machine.specs.Due.{each_port}
use Rattle.il_machine.specs.Claims.{Claimed, ClaimedBusy, ClaimedNotRunning, ClaimedEnded, ClaimedEvents, has_ended, wanted, is_output_port, is_claimable, held_test, data_test, room_test, reserve_for, claim_idle}
use Rattle.machine_laws.proofs.Accepting.{not_either}
use Rattle.machine_laws.proofs.Claiming.{IsClaimable}
use Rattle.machine_laws.proofs.Finding.{either}
use Rattle.machine_laws.proofs.Parts.{parts_of}
use Rattle.play_model.specs.Network.{Filled, LinkState, IsInput, IsOutput}
use Rattle.play_model.specs.Moves.{IsFront, CanClaim}
use Rattle.play_model.proofs.Claims.{claim_steps}
use Rattle.play_model.specs.Play.{Play, IsRunning}
use Rattle.play_model.specs.Acts.{Act, CanAct}
use Rattle.play_world_laws.specs.View.{filled, worked_at}
use Rattle.play_world_laws.specs.Cast.{Cast, script_place, output_at, input_at}
use Rattle.play_world_laws.specs.Wiring.{work_in}
use Rattle.play_world_laws.specs.Worlds.{IsBeforeRest}
use Rattle.play_world_laws.proofs.Resting.{all_true}
use Rattle.play_world_laws.proofs.Wanted.{filter_in, filter_from, end_at, IsLinkAt, end_place}
use Rattle.play_step_laws.proofs.Wanted.{wanted_at, wanted_from}
use Rattle.play_world_laws.proofs.Claimable.{first_append, first_map, map_first, passes}
use Rattle.play_step_laws.proofs.Poised.{IsPoised}

no_front : {A : Type 0} (f : A → Filled) (xs : List A) → IsFront (λ h. Unit {0}) (map f xs) → is_empty xs ≡ false
no_front f [] h = absurd h
no_front f (x ∷ xs) h = refl

some_front : {A : Type 0} (f : A → Filled) (xs : List A) → is_empty xs ≡ false → IsFront (λ h. Unit {0}) (map f xs)
some_front f [] h = absurd cc
some_front f (x ∷ xs) h = tt

some_length : {A : Type 0} (xs : List A) → 0 < length xs → is_empty xs ≡ false
some_length [] h = absurd (omega arith)
some_length (x ∷ xs) h = refl

length_some : {A : Type 0} (xs : List A) → is_empty xs ≡ false → 0 < length xs
length_some [] h = absurd cc
length_some (x ∷ xs) h = omega arith

filter_fewer : {X : Type 0} (test : X → Bool) (xs : List X) → length (filter test xs) ≤ length xs
filter_fewer test [] = omega arith
filter_fewer test (x ∷ xs) = let i = filter_fewer test xs in either (test x) (λ t. rw t (omega arith)) (λ f. rw f (omega arith))

ports_few : (number index : ℕ) (ss : List PortSetting) (ps : List PortState) → length (ports_from number index ss ps) ≤ length ps
ports_few number index [] ps = omega arith
ports_few number index (s ∷ ss) [] = omega arith
ports_few number index (s ∷ ss) (p ∷ ps) = let i = ports_few number (index + 1) ss ps in omega arith

few_ports : (kind : Kind) → IsSized kind → ports_in kind ≤ 9
few_ports kinds.Source h = omega arith
few_ports kinds.Decoder h = omega arith
few_ports kinds.Alaw h = omega arith
few_ports kinds.Mulaw h = omega arith
few_ports kinds.Gain h = omega arith
few_ports (kinds.Mixer n) h = omega (arith, h.1)
few_ports (kinds.Splitter n) h = omega (arith, h.1)
few_ports kinds.Sink h = omega arith
few_ports kinds.Late h = omega arith

-- ---- a component of a play

module _ (x : Cast) (p : Play) (w : World) (c : ℕ) (a : Component) (U : IsPoised x p w c a) where
  pub before_rest : IsRunning p c → IsBeforeRest p c
  before_rest (inl h) = ((λ t. absurd (omega (arith, h.0))), omega (arith, h.0))
  before_rest (inr h) = ((λ t. omega (arith, h.1)), omega (arith, h.0))

  -- what its work has of a port
  pub own_works : (key : PortKey) → key.component ≡ script_place x c → work_in w.components key ≡ worked_at a.work key.port
  own_works key n = let e = U.there in rw (n, e) refl

  all_open : each_port a is_open ≡ true
  all_open = all_true is_open (ports_of a) (λ i q f. let P = U.ports i q f in rw (P.end).state refl)

  none_held : first_of_these (map (held_test a) (ports_of a)) ≡ None
  none_held = first_map (held_test a) (ports_of a) (λ i q f.
      let P = U.ports i q f in
      let s : q.state.held ≡ false = ap (λ (z : PortState). z.held) (P.end).state in
      rw (U.silent, s, (P.end).known) refl)

  module _ (free : a.work ≡ None) where
    held_is : (l : ℕ) → IsInput (x.layout).network c l → ((p.flow).link l).held ≡ map (filled (x.unit l) w.headers) ((seen w.headers).todo (input_at x l))
    held_is l I =
        let d : work_in w.components (input_at x l) ≡ [] = own_works (input_at x l) (end_place true x c l I) ∙ rw free refl in
        ap (λ (y : LinkState). y.held) (U.viewed l I.below) ∙ ap (λ (ns : List ℕ). map (filled (x.unit l) w.headers) (ns ++ (seen w.headers).todo (input_at x l))) d

    ready_is : (l : ℕ) → IsOutput (x.layout).network c l → ((p.flow).link l).ready ≡ length ((seen w.headers).todo (output_at x l))
    ready_is l O =
        let d : work_in w.components (output_at x l) ≡ [] = own_works (output_at x l) (end_place false x c l O) ∙ rw free refl in
        let r = ap (λ (y : LinkState). y.ready) (U.viewed l O.below) in
        let n : length (work_in w.components (output_at x l)) ≡ 0 = ap length d in
        omega arith

    -- ---- where the model can claim the machine can

    pub filled_by : (input : Bool) (l : ℕ) (q : Port) → CanClaim (x.layout).network p.flow c → IsLinkAt input (x.layout).network c l → q.key ≡ end_at input x l → (input && ((p.flow).link l).closed) ≡ false
        → is_empty ((seen w.headers).todo q.key) ≡ false
    filled_by true l q C I k f =
        let h : IsFront (λ h. Unit {0}) ((p.flow).link l).held = C.inputs l (record { input = I; open_ = f }) in
        let g = no_front (filled (x.unit l) w.headers) ((seen w.headers).todo (input_at x l)) (subst (λ (hs : List Filled). IsFront (λ h. Unit {0}) hs) (held_is l I) h) in
        ap (λ (z : PortKey). is_empty ((seen w.headers).todo z)) k ∙ g
    filled_by false l q C O k f =
        let r = C.outputs l O in
        let s = ready_is l O in
        let g = some_length ((seen w.headers).todo (output_at x l)) (omega arith) in
        ap (λ (z : PortKey). is_empty ((seen w.headers).todo z)) k ∙ g

    room_enough : IsRunning p c → p.phase ≡ 2 → reserve_for (wanted a) ≤ room a
    room_enough R two =
        let r = U.runs R in
        let f = U.few two R free in
        let S = (parts_of w U.sound).components (script_place x c) a U.there in
        let n = few_ports a.settings.kind (S.whole).sized in
        let m = S.ports in
        let k = ports_few a.handle.generation 0 a.settings.ports a.ports in
        let g = filter_fewer (λ q. not (is_input_port q && has_ended a q.key.port)) (ports_of a) in
        let d : length (wanted a) ≤ length (ports_of a) = rw (U.silent) g in
        omega arith

    pub claim_goes : IsRunning p c → p.phase ≡ 2 → CanClaim (x.layout).network p.flow c → claim_idle (look w) a ≡ None
    claim_goes R two C =
        let B = before_rest R in
        let r = U.runs R in
        let able : is_claimable a ≡ true = rw (r.0, r.1, all_open) refl in
        let going : (a.part.ended || a.part.failed) ≡ false = let g = (U.part).ended B ∙ C.going in rw (g, (U.part).whole) refl in
        let test : (j : ℕ) (q : Port) → slice_get (wanted a) j ≡ Some q → is_empty ((seen w.headers).todo q.key) ≡ false =
        λ j q f. let V = wanted_from x p w c a U j q B f in filled_by (V.0).input (V.0).link q C (V.0).of_link ((V.0).end).key V.1 in
        let input = first_map (data_test (seen w.headers)) (filter is_input_port (wanted a)) (λ j q f. let k = filter_from is_input_port (wanted a) j q f in test k.1 q k.2) in
        let space = first_map (room_test (seen w.headers)) (filter is_output_port (wanted a)) (λ j q f. let k = filter_from is_output_port (wanted a) j q f in test k.1 q k.2) in
        let few : nat_lt (room a) (reserve_for (wanted a)) ≡ false = le-ltb (room a) (reserve_for (wanted a)) (room_enough R two) in
        let held : List (Bool × Claimed) = map (held_test a) (ports_of a) in
        let inputs : List (Bool × Claimed) = map (data_test (seen w.headers)) (filter is_input_port (wanted a)) in
        let outputs : List (Bool × Claimed) = map (room_test (seen w.headers)) (filter is_output_port (wanted a)) in
        let last : List (Bool × Claimed) = (nat_lt (room a) (reserve_for (wanted a)), ClaimedEvents (room a) (reserve_for (wanted a))) ∷ [] in
        let end : first_of_these last ≡ None = rw few refl in
        let tail = first_append (held ++ inputs ++ outputs) last (first_append (held ++ inputs) outputs (first_append held inputs none_held input) space) end in
        passes (is_some a.work) ClaimedBusy _ (ap is_some free) (passes (not (is_claimable a)) ClaimedNotRunning _ (ap not able) (passes (a.part.ended || a.part.failed) ClaimedEnded _ going tail))

    -- ---- and where the machine can the model can

    pub claim_can : IsClaimable (look w) a → IsRunning p c × (p.phase ≡ 2) × CanClaim (x.layout).network p.flow c
    claim_can I =
        let R = U.runs_back I.runs I.rests in
        let B = before_rest R in
        let part = not_either a.part.ended a.part.failed I.goes in
        let going : (p.flow).ended c ≡ false = sym ((U.part).ended B) ∙ part.0 in
        let two : p.phase ≡ 2 = elim R [
          | inl h ↦ h.0
          | inr h ↦ let t = (U.reached).ended (omega (arith, h.0)) c U.below in absurd cc
        ] in (
          R,
          two,
          record {
            inside = U.below;
            going = going;
            inputs = λ l O.
                let V = wanted_at x p w c a U true l B O.input O.open_ in
                let H = V.0 in
                let k = filter_in is_input_port (wanted a) V.1 H.port V.2 (H.end).direction in
                let t = map_first (data_test (seen w.headers)) (filter is_input_port (wanted a)) k.0 H.port I.filled k.1 in
                let g : is_empty ((seen w.headers).todo (input_at x l)) ≡ false = ap (λ (z : PortKey). is_empty ((seen w.headers).todo z)) (sym (H.end).key) ∙ t in
                subst (λ (hs : List Filled). IsFront (λ h. Unit {0}) hs) (sym (held_is l O.input)) (some_front (filled (x.unit l) w.headers) _ g);
            outputs = λ l O.
                let V = wanted_at x p w c a U false l B O refl in
                let H = V.0 in
                let k = filter_in is_output_port (wanted a) V.1 H.port V.2 (ap not (H.end).direction) in
                let t = map_first (room_test (seen w.headers)) (filter is_output_port (wanted a)) k.0 H.port I.space k.1 in
                let g : is_empty ((seen w.headers).todo (output_at x l)) ≡ false = ap (λ (z : PortKey). is_empty ((seen w.headers).todo z)) (sym (H.end).key) ∙ t in
                let n = length_some ((seen w.headers).todo (output_at x l)) g in
                let r = ready_is l O in
                omega arith;
          },
        )

  -- a step that may be claimed can be made
  pub step_can : IsRunning p c → p.phase ≡ 2 → CanClaim (x.layout).network p.flow c → (n : ℕ) × (last : Bool) × CanAct x.layout p (Act.Step c n last)
  step_can R two C =
      let s = claim_steps (x.layout).network p.flow c ((U.reached).layout).network ((U.reached).sound (omega arith)) C in
      (s.0, s.1, (R, s.2, U.rests))
