-- Each header of a work as it lands in a play: which inputs have ended by then, and what an output got.
use Rattle.std.proofs.Common.{◌≡◌, inl, inr, ℕ, zero, suc, ◌+◌, ◌-◌, ◌*◌, ◌/◌, ◌<◌, Bool, true, false, not, ◌&&◌, ◌||◌, nat_eq, nat_lt, nat_le, if◌then◌else◌, List, [], ◌∷◌, length, map, slice_get, Option, Some, None, option_map, is_some, refl, sym, ◌∙◌, ap, lt-ltb, eq-eqb, arith}
use Rattle.std.proofs.lemmas.Bool.{cases_eq}
use Rattle.std.proofs.lemmas.Option.{slice_get-map}
use Rattle.std.proofs.Math.Nat.{mul-div_cancel}
use Rattle.part_api.specs.Streams.{Incoming}
use Rattle.part_api.specs.Terms.{Terms}
use Rattle.il_machine.specs.declared.port.Port.{Port}
use Rattle.il_machine.specs.declared.port.PortState.{PortState}
use Rattle.il_machine.specs.Lists.{holds_at}
use Rattle.il_machine.specs.World.{Component, HeaderRecord, Picked, Stream, Work, World, number_of, port_of, stream_of}
use Rattle.il_machine.specs.Headers.{unloaded}
use Rattle.il_machine.specs.Components.{has_eos}
use Rattle.omx_types.specs.declared.state.State.{State}
use Rattle.omx_types.specs.declared.state.State.TheVariants as states
use Rattle.il_machine.specs.declared.answer.Pending.{Pending}
use Rattle.il_machine.specs.States.{is_executing, is_invalid, same_state, is_running as is_running_state}
use Rattle.il_machine.specs.Kinds.{is_source}
use Rattle.il_machine.specs.Ports.{is_joined, is_disabling, is_going_to, returning}
use Rattle.il_machine.specs.Buffers.{held, load_in}
use Rattle.il_machine.specs.Claims.{CarriedHeader, carried, terms_in}
use Rattle.il_machine.specs.Stepping.{WorkDone, bytes_at, is_in, frames_in, is_drained, is_last, is_for_port, has_ended_by, ended_from, inputs_ended, is_over, incoming, made_at, emptied, filled, eos_flags, stepped, step_frames, Gives}
use Rattle.il_machine.specs.Finishing.{ends_by, is_an_input, is_finished, is_returning, mark_on, mark_after, load_after}
use Rattle.machine_laws.proofs.Finding.{either}
use Rattle.play_model.specs.Network.{Filled, LinkState, IsInput}
use Rattle.play_model.specs.Moves.{IsFront, IsEnding, IsOpen, took}
use Rattle.play_model.specs.Play.{Play}
use Rattle.play_world_laws.specs.View.{filled_by}
use Rattle.play_world_laws.specs.Cast.{Cast}
use Rattle.play_world_laws.specs.Wiring.{joined_state, link_to}
use Rattle.play_world_laws.proofs.Wanted.{end_at, link_below}
use Rattle.play_world_laws.proofs.Picks.{IsPick}
use Rattle.play_world_laws.proofs.Worked.{IsHeaderOf, seen_as}
use Rattle.play_step_laws.proofs.Worked.{is_running}
use Rattle.play_world_laws.proofs.Numbers.{took_open, took_closed}
use Rattle.play_step_laws.proofs.Numbers.{its_place, has_number, some_open, source_goes, source_over, taken_at, side_is}
use Rattle.play_step_laws.proofs.Pieces.{made_long}
use Rattle.play_world_laws.proofs.Landings.{mark_none, eos_is, list_all_alike}
use Rattle.play_step_laws.proofs.Landings.{done, last_after_in}
use Rattle.play_world_laws.proofs.Claimable.{at_rest_none}
use Rattle.play_step_laws.proofs.Poised.{IsPoised}
use Rattle.play_world_laws.specs.Worlds.{IsWork}

pub executing_valid : (s : State) → is_executing s ≡ true → is_invalid s ≡ false
executing_valid states.Invalid h = absurd cc
executing_valid states.Loaded h = absurd cc
executing_valid states.Idle h = absurd cc
executing_valid states.Executing h = refl
executing_valid states.Pause h = absurd cc
executing_valid states.WaitForResources h = absurd cc

and_false : (q : Bool) → (q && false) ≡ false
and_false true = refl
and_false false = refl

ended_alike : (t : Terms) (n m : ℕ) (ys zs : List CarriedHeader) → ((port : ℕ) → has_ended_by t m ys port ≡ has_ended_by t n zs port) → (port count : ℕ) → ended_from t m ys port count ≡ ended_from t n zs port count
ended_alike t n m ys zs h port zero = refl
ended_alike t n m ys zs h port (suc count) = let a = h port in let b = ended_alike t n m ys zs h (port + 1) count in λ i. a i ∷ b i

-- ---- its port is joined, and isn't returning

module _ (x : Cast) (p : Play) (w : World) (c : ℕ) (a : Component) (U : IsPoised x p w c a) (work : Work) (f : a.work ≡ Some work) (J : IsWork x p c a work) (j l : ℕ) (y : Picked) (input : Bool) (P : IsPick x p c work.headers j y l input) where
  port_is : (q : Port) × (port_of a y.port ≡ Some q) × (q.state ≡ joined_state (link_to x l (end_at (not input) x l)))
  port_is =
      let H = U.its input l P.of_link in
      (H.port, ap (port_of a) P.port ∙ H.there, (H.end).state)

  pub tunnelled : holds_at (port_of a y.port) is_joined ≡ true
  tunnelled =
      let q = port_is in
      ap (λ (o : Option Port). holds_at o is_joined) q.1 ∙ ap (λ (z : PortState). is_some z.link) q.2

  pub stays_put : holds_at (port_of a y.port) (returning a) ≡ false
  stays_put =
      let q = port_is in
      let r = U.runs (is_running x p w c a U work f J) in
      let valid = executing_valid a.state r.0 in
      let going : is_going_to states.Idle a ≡ false = ap (λ (o : Option Pending). holds_at o (λ z. same_state z.target states.Idle)) (at_rest_none a r.1) in
      let state = q.2 in
      ap (λ (o : Option Port). holds_at o (returning a)) q.1
      ∙ ((λ i. (state i).flushing || is_disabling (state i).mode || valid i || (is_running_state a.state && going i)) ∙ and_false (is_running_state a.state))

module _ (x : Cast) (p : Play) (w : World) (c : ℕ) (a : Component) (U : IsPoised x p w c a) (work : Work) (f : a.work ≡ Some work) (J : IsWork x p c a work)
    (s : Stream) (g : stream_of (number_of a) w ≡ Some s) (piece : List ℕ) (G : Gives (terms_in a work) s (step_frames (terms_in a work) s (carried w.headers work.headers)) piece) (m : ℕ) (text : List ℕ) where
  abbrev t : Terms
  t = terms_in a work

  abbrev xs : List Picked
  xs = work.headers

  abbrev zs : List CarriedHeader
  zs = carried w.headers xs

  abbrev n : ℕ
  n = step_frames t s zs

  abbrev ends : Bool
  ends = is_over t s n (inputs_ended t n zs)

  abbrev came : Incoming
  came = incoming t n zs piece

  abbrev step : CarriedHeader → CarriedHeader
  step z = stepped t n came ends z

  abbrev its : WorkDone
  its = done x p w c a U work f J s g piece G m text

  -- ---- which inputs have ended

  last_by : (input : Bool) (j l : ℕ) (y : Picked) (r : HeaderRecord) → IsPick x p c xs j y l input → IsHeaderOf x w c (number_of a) y l r → is_last t 0 (step (seen_as y r)) ≡ is_last t n (seen_as y r)
  last_by true j l y r P H = last_after_in x p w c a U work f J s g piece G m text j l y r P H
  last_by false j l y r P H =
      let side = side_is x p w c a U work f J s g j l y false r P in
      let now : is_last t 0 (step (seen_as y r)) ≡ false = λ i. (side i && nat_eq (frames_in t (step (seen_as y r)) - 0) 0) && has_eos (step (seen_as y r)).header.flags in
      let was : is_last t n (seen_as y r) ≡ false = λ i. (side i && nat_eq (frames_in t (seen_as y r) - n) 0) && has_eos r.load.flags in
      now ∙ sym was

  pub last_after : (j : ℕ) (z : CarriedHeader) → slice_get zs j ≡ Some z → is_last t 0 (step z) ≡ is_last t n z
  last_after j z h =
      let T = taken_at x p w c a U work f J s g j z h in
      ap (λ (u : CarriedHeader). is_last t 0 (step u)) T.is ∙ (last_by T.input j T.link T.pick T.header T.picked T.of_link ∙ ap (is_last t n) (sym T.is))

  pub inputs_after : inputs_ended t 0 its.headers ≡ inputs_ended t n zs
  inputs_after = ended_alike t n 0 its.headers zs (λ port.
      list_all_alike (λ u. not (is_for_port port u) || is_last t 0 u) (λ u. not (is_for_port port u) || is_last t n u) step zs (λ i z h. let d = last_after i z h in ap (λ (q : Bool). not (nat_eq z.port port) || q) d))
      0 (length t.inputs)

  pub ends_is : ends_by a s its ≡ ends
  ends_is = ap (λ (bs : List Bool). is_over t s n bs) inputs_after

  -- a step of no frames is the last one
  pub none_ends : n ≡ 0 → ends ≡ true
  none_ends z = either (is_source a.settings.kind)
      (λ q.
      let net = sym U.source ∙ q in
      let d = (source_goes x p w c a U work f J s g net).1 in
      elim d [
        | inl u ↦ absurd (omega arith)
        | inr u ↦ source_over x p w c a U work f J s g net ∙ eq-eqb ((p.flow).done c + n) (((x.layout).network).frames c) (omega arith)
      ])
      (λ q. either ends (λ o. o) (λ o.
      let r = some_open x p w c a U work f J s g q o in
      let N = (has_number x p w c a U work f J s g).other (sym U.source ∙ q) in
      elim N [
        | inl u ↦ let k = u.0 in absurd (omega arith)
        | inr u ↦ absurd (closed_none r.0 r.1 r.2 z u.1)
      ]))
    where
      front_ends : (y : LinkState) → y.closed ≡ false → IsFront IsEnding y.held → (took 0 y).closed ≡ true
      front_ends y o F = at_front y y.held refl o F
        where
          at_front : (y : LinkState) (hs : List Filled) → y.held ≡ hs → y.closed ≡ false → IsFront IsEnding hs → (took 0 y).closed ≡ true
          at_front y [] h o F = absurd F
          at_front y (k ∷ hs) h o F = took_open 0 y k hs o h ∙ (ap (λ (q : ℕ). nat_le q 0 && k.last) F.0 ∙ F.1)

      closed_none : (l : ℕ) → IsInput (x.layout).network c l → (took n ((p.flow).link l)).closed ≡ false → n ≡ 0 → ((k : ℕ) → IsOpen (x.layout).network p.flow c k → IsFront IsEnding ((p.flow).link k).held) → ⊥
      closed_none l I h z F = either ((p.flow).link l).closed
          (λ o. let q : true ≡ false = sym (ap (λ (u : LinkState). u.closed) (took_closed n ((p.flow).link l) o) ∙ o) ∙ h in cc)
          (λ o.
          let q = front_ends ((p.flow).link l) o (F l (record { input = I; open_ = o })) in
          let v : true ≡ false = sym q ∙ (ap (λ (u : ℕ). (took u ((p.flow).link l)).closed) (sym z) ∙ h) in
          cc)

  -- ---- an output's header

  pub unmarked_by : (j : ℕ) (z : CarriedHeader) → slice_get zs j ≡ Some z → (step z).header.mark ≡ None
  unmarked_by j z h =
      let T = taken_at x p w c a U work f J s g j z h in
      let none = ((T.of_link).whole).unmarked in
      ap (λ (u : CarriedHeader). (step u).header.mark) T.is ∙ either (is_in t (seen_as T.pick T.header))
      (λ q. ap (λ (u : Bool). (if u then emptied (bytes_at t (T.pick).port n) (held T.header) else filled (made_at t came (T.pick).port) (eos_flags ends) (held T.header)).mark) q ∙ none)
      (λ q. ap (λ (u : Bool). (if u then emptied (bytes_at t (T.pick).port n) (held T.header) else filled (made_at t came (T.pick).port) (eos_flags ends) (held T.header)).mark) q ∙ none)

  stepped_from : (j : ℕ) (y : CarriedHeader) → slice_get (map step zs) j ≡ Some y → (z : CarriedHeader) × (slice_get zs j ≡ Some z) × (y ≡ step z)
  stepped_from j y h = by_some (slice_get zs j) refl (sym (slice_get-map step zs j) ∙ h)
    where
      by_some : (o : Option CarriedHeader) → slice_get zs j ≡ o → option_map step o ≡ Some y → (z : CarriedHeader) × (slice_get zs j ≡ Some z) × (y ≡ step z)
      by_some None k q = absurd cc
      by_some (Some z) k q = let is : step z ≡ y = cc in (z, k, sym is)

  pub no_mark_on : mark_on a s its ≡ None
  no_mark_on = mark_none a s its its.headers (λ j y h. let r = stepped_from j y h in ap (λ (u : CarriedHeader). u.header.mark) r.2 ∙ unmarked_by j r.0 r.1)

  module _ (j l : ℕ) (y : Picked) (r : HeaderRecord) (P : IsPick x p c xs j y l false) (H : IsHeaderOf x w c (number_of a) y l r) where
    out_side : is_in t (seen_as y r) ≡ false
    out_side = side_is x p w c a U work f J s g j l y false r P

    abbrev got : List ℕ
    got = made_at t came y.port

    pub step_out : step (seen_as y r) ≡ record { port = y.port; header = filled got (eos_flags ends) (held r) }
    step_out = ap (λ (q : Bool). record { port = y.port; header = if q then emptied (bytes_at t y.port n) (held r) else filled got (eos_flags ends) (held r) }) out_side

    pub finished_out : is_finished a s its (step (seen_as y r)) ≡ true
    finished_out =
        let outside : is_an_input a (step (seen_as y r)) ≡ false = out_side in
        ap (λ (q : Bool). if q then is_drained t 0 (step (seen_as y r)) else (nat_lt 0 n || ends_by a s its)) outside
        ∙ (ap (λ (q : Bool). nat_lt 0 n || q) ends_is ∙ elim (cases_eq n 0) [
          | inl z ↦ ap (λ (q : Bool). nat_lt 0 n || q) (none_ends z) ∙ or_true (nat_lt 0 n)
          | inr z ↦ ap (λ (q : Bool). q || ends) (lt-ltb 0 n (omega arith))
        ])
      where
        or_true : (q : Bool) → (q || true) ≡ true
        or_true true = refl
        or_true false = refl

    pub load_out : load_after a s its (step (seen_as y r)) ≡ record (load_in (filled got (eos_flags ends) (held r))) { mark = None }
    load_out =
        let z : CarriedHeader = step (seen_as y r) in
        let back : is_returning a z ≡ false = stays_put x p w c a U work f J j l y false P in
        let outside : is_an_input a z ≡ false = out_side in
        let fin = finished_out in
        let own : z.header.mark ≡ None = unmarked_by j (seen_as y r) (its_place x p w c a U work f J s g j l y false r P H.found) in
        let on = no_mark_on in
        (λ i. if (back i || (if outside i then is_finished a s its z else false)) then unloaded (load_in z.header) else if fin i then record (load_in z.header) { mark = mark_after a (own i) (on i) } else load_in z.header)
        ∙ ap (λ (k : CarriedHeader). record (load_in k.header) { mark = None }) step_out

    long : length got ≡ n * x.unit l
    long = made_long x p w c a U work f J s g piece G y.port l P.of_link

    units : 0 < x.unit l
    units = (U.cast).units l (link_below false (x.layout).network c l P.of_link)

    many : length got / x.unit l ≡ n
    many = ap (λ (u : ℕ). u / x.unit l) long ∙ mul-div_cancel n units

    pub filled_out : filled_by (x.unit l) (record (load_in (filled got (eos_flags ends) (held r))) { mark = None }) ≡ record { frames = n; last = ends }
    filled_out = let q = eos_is ends in λ i. record { frames = many i; last = q i }

    pub whole_out : length got / x.unit l * x.unit l ≡ length got
    whole_out = ap (λ (u : ℕ). u * x.unit l) many ∙ sym long
