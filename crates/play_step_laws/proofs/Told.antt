-- What a component of a play tells after a step: the end of a sink's stream, and nothing else; and its stream and its inputs then.
use Rattle.std.proofs.Common.{◌≡◌, inl, inr, ℕ, suc, ◌+◌, ◌<◌, Bool, true, false, not, ◌&&◌, ◌||◌, nat_lt, if◌then◌else◌, List, [], ◌∷◌, ◌++◌, get_or, length, map, slice_get, Some, None, refl, sym, ◌∙◌, ap, eq-eqb, ne_eqb, ltb-true, append-nil, arith}
use Rattle.std.proofs.lemmas.Bool.{cases_eq}
use Rattle.std.proofs.lemmas.Option.{get_or_from_slice_get}
use Rattle.std.specs.List.{list_all, list_any}
use Rattle.omx_types.specs.declared.kind.Kind.{Kind}
use Rattle.omx_types.specs.declared.kind.Kind.TheVariants as kinds
use Rattle.part_api.specs.Terms.{Terms}
use Rattle.il_machine.specs.Kinds.{inputs_of, is_sink, is_source}
use Rattle.il_machine.specs.Lists.{holds_at}
use Rattle.il_machine.specs.Ports.{is_joined, returning}
use Rattle.il_machine.specs.Headers.{find_header}
use Rattle.il_machine.specs.World.{Component, HeaderRecord, Picked, Stream, Work, World, number_of, port_of, stream_of}
use Rattle.il_machine.specs.Parts.{terms_of}
use Rattle.il_machine.specs.Claims.{CarriedHeader, carried, terms_in}
use Rattle.il_machine.specs.Stepping.{WorkDone, inputs_ended, is_for_port, has_ended_by, is_last, is_over, step_frames, stepped, incoming, Gives}
use Rattle.il_machine.specs.Finishing.{Again, Onward, Noted, landing, landing_note, is_finished, is_returning, is_tunnelled, tells_mark, mark_note, notes_of_header, notes_of_headers, notes_after, tells_end, end_note}
use Rattle.machine_laws.proofs.Every.{all_pass}
use Rattle.machine_laws.proofs.Finding.{either}
use Rattle.play_model.specs.Network.{Network, IsInput, LinkState}
use Rattle.play_model.specs.Moves.{took}
use Rattle.play_model.specs.Account.{IsSound}
use Rattle.play_model.specs.Play.{Play}
use Rattle.play_world_laws.specs.Cast.{Cast, links_of, input_at}
use Rattle.play_world_laws.proofs.Resting.{all_true}
use Rattle.play_world_laws.proofs.Wanted.{end_at, link_below, end_place}
use Rattle.play_world_laws.proofs.Picks.{IsPick, key_is_end, picks_differ}
use Rattle.play_world_laws.proofs.Worked.{IsHeaderOf, seen_as}
use Rattle.play_step_laws.proofs.Worked.{work_rises, header_of, inputs_many, direction_is}
use Rattle.play_world_laws.proofs.Numbers.{took_closed, some_passes, ended_at}
use Rattle.play_step_laws.proofs.Numbers.{its_place, taken_at, open_pick, closed_after, all_closed, some_open, last_out}
use Rattle.play_step_laws.proofs.Landings.{done}
use Rattle.play_step_laws.proofs.Outgoing.{tunnelled, stays_put, last_after, inputs_after, unmarked_by}
use Rattle.play_world_laws.proofs.Steps.{map_from}
use Rattle.play_world_laws.proofs.Told.{any_there}
use Rattle.play_step_laws.proofs.Poised.{IsPoised}
use Rattle.play_world_laws.specs.Worlds.{IsWork}

any_alike : {X Y : Type 0} (p : Y → Bool) (q : X → Bool) (h : X → Y) (xs : List X) → ((i : ℕ) (y : X) → slice_get xs i ≡ Some y → p (h y) ≡ q y) → list_any p (map h xs) ≡ list_any q xs
any_alike p q h [] f = refl
any_alike p q h (y ∷ xs) f =
    let a = f 0 y refl in
    let b = any_alike p q h xs (λ i z e. f (suc i) z e) in
    λ i. a i || b i

sink_kind : (k : Kind) → is_sink k ≡ true → (is_source k ≡ false) × (inputs_of k ≡ 1)
sink_kind kinds.Source h = absurd cc
sink_kind kinds.Late h = absurd cc
sink_kind kinds.Decoder h = absurd cc
sink_kind kinds.Alaw h = absurd cc
sink_kind kinds.Mulaw h = absurd cc
sink_kind kinds.Gain h = absurd cc
sink_kind (kinds.Mixer n) h = absurd cc
sink_kind (kinds.Splitter n) h = absurd cc
sink_kind kinds.Sink h = (refl, refl)

-- ---- notes of headers

quiet_header : (a : Component) (s : Stream) (done : WorkDone) (y : CarriedHeader) → y.header.mark ≡ None → is_tunnelled a y ≡ true → is_returning a y ≡ false → notes_of_header a s done y ≡ []
quiet_header a s done y k t r =
    let mark : (if tells_mark a s done y then mark_note y.header.mark else []) ≡ [] = either (tells_mark a s done y)
    (λ o. ap (λ (q : Bool). if q then mark_note y.header.mark else []) o ∙ ap mark_note k)
    (λ o. ap (λ (q : Bool). if q then mark_note y.header.mark else []) o) in
    let land : landing_note (landing a s done y) a y ≡ [] = either (is_finished a s done y)
    (λ o. λ i. landing_note (if not (t i) && (o i || r i) then Noted else if o i && not (r i) then Onward else Again) a y)
    (λ o. λ i. landing_note (if not (t i) && (o i || r i) then Noted else if o i && not (r i) then Onward else Again) a y) in
    λ i. mark i ++ land i

pub quiet_headers : (a : Component) (s : Stream) (its : WorkDone) (ys : List CarriedHeader) → ((j : ℕ) (y : CarriedHeader) → slice_get ys j ≡ Some y → (y.header.mark ≡ None) × (is_tunnelled a y ≡ true) × (is_returning a y ≡ false)) → notes_of_headers a s its ys ≡ []
quiet_headers a s its [] h = refl
quiet_headers a s its (y ∷ ys) h =
    let k = h 0 y refl in
    let one = quiet_header a s its y k.0 k.1 k.2 in
    let rest = quiet_headers a s its ys (λ j u e. h (suc j) u e) in
    λ i. one i ++ rest i

module _ (x : Cast) (p : Play) (w : World) (c : ℕ) (a : Component) (U : IsPoised x p w c a) (work : Work) (f : a.work ≡ Some work) (J : IsWork x p c a work)
    (s : Stream) (g : stream_of (number_of a) w ≡ Some s) (piece : List ℕ) (G : Gives (terms_in a work) s (step_frames (terms_in a work) s (carried w.headers work.headers)) piece) (m : ℕ) (text : List ℕ) where
  abbrev net : Network
  net = (x.layout).network

  abbrev t : Terms
  t = terms_in a work

  abbrev xs : List Picked
  xs = work.headers

  abbrev zs : List CarriedHeader
  zs = carried w.headers xs

  abbrev n : ℕ
  n = step_frames t s zs

  abbrev ends : Bool
  ends = is_over t s n (inputs_ended t n zs)

  abbrev step : CarriedHeader → CarriedHeader
  step z = stepped t n (incoming t n zs piece) ends z

  abbrev its : WorkDone
  its = done x p w c a U work f J s g piece G m text

  -- ---- the inputs

  -- the header of the input's link is the one that tells whether it has ended
  one_ended : (j l : ℕ) (y : Picked) (r : HeaderRecord) → IsPick x p c xs j y l true → find_header y.number w.headers ≡ Some r → has_ended_by t n zs y.port ≡ is_last t n (seen_as y r)
  one_ended j l y r P h =
      let there = its_place x p w c a U work f J s g j l y true r P h in
      let test : CarriedHeader → Bool = λ u. not (is_for_port y.port u) || is_last t n u in
      let own : test (seen_as y r) ≡ is_last t n (seen_as y r) = ap (λ (q : Bool). not q || is_last t n (seen_as y r)) (eq-eqb y.port y.port refl) in
      either (is_last t n (seen_as y r))
      (λ o. all_true test zs (λ k z q. elim (cases_eq k j) [
        | inl d ↦
            let u : Some z ≡ Some (seen_as y r) = sym q ∙ (ap (slice_get zs) d ∙ there) in
            let is : z ≡ seen_as y r = cc in
            ap test is ∙ (own ∙ o)
        | inr d ↦
            let T = taken_at x p w c a U work f J s g k z q in
            let other = picks_differ 0 (length a.ports) xs k j T.pick y (work_rises x p w c a U work f J) d (T.picked).there P.there in
            let away : is_for_port y.port z ≡ false = ap (is_for_port y.port) T.is ∙ ne_eqb (T.pick).port y.port other in
            ap (λ (v : Bool). not v || is_last t n z) away
      ]) ∙ sym o)
      (λ o. either (list_all test zs)
      (λ u. let v : true ≡ false = sym (all_pass test zs j (seen_as y r) u there) ∙ (own ∙ o) in absurd cc)
      (λ u. u) ∙ sym o)

  none_ended : (l : ℕ) → IsInput net c l → ((p.flow).link l).closed ≡ true → has_ended_by t n zs (x.input_port l) ≡ true
  none_ended l I h = all_true (λ u. not (is_for_port (x.input_port l) u) || is_last t n u) zs (λ k z q. elim (cases_eq z.port (x.input_port l)) [
    | inr d ↦ ap (λ (v : Bool). not v || is_last t n z) (ne_eqb z.port (x.input_port l) d)
    | inl d ↦
        let T = taken_at x p w c a U work f J s g k z q in
        let place = end_place true x c l I in
        let port : (T.pick).port ≡ x.input_port l = sym (ap (λ (u : CarriedHeader). u.port) T.is) ∙ d in
        let key : end_at T.input x T.link ≡ input_at x l = sym (key_is_end x p U.cast c xs k T.link T.pick T.input T.picked) ∙ (λ i. record { component = sym place i; port = port i }) in
        absurd (closed_not T.input T.link l I h key (link_below T.input net c T.link (T.picked).of_link) (T.picked).open_)
  ])
    where
      closed_not : (input : Bool) (k l : ℕ) → IsInput net c l → ((p.flow).link l).closed ≡ true → end_at input x k ≡ input_at x l → k < links_of x → (input && ((p.flow).link k).closed) ≡ false → ⊥
      closed_not true k l I h key d o =
          let same = (U.cast).inputs k l d I.below key in
          let v : ((p.flow).link k).closed ≡ true = ap (λ (u : ℕ). ((p.flow).link u).closed) same ∙ h in
          let u : true ≡ false = sym v ∙ o in
          cc
      closed_not false k l I h key d o = (U.cast).beside k l d I.below key

  pub ended_next : (l : ℕ) → IsInput net c l → get_or (inputs_ended (terms_of a) 0 its.headers) (x.input_port l) false ≡ (took n ((p.flow).link l)).closed
  ended_next l I =
      let H = U.its true l I in
      let inside : nat_lt (x.input_port l) (inputs_of a.settings.kind) ≡ true = sym (direction_is x p w c a U work f J (x.input_port l) H.port H.there) ∙ (H.end).direction in
      let many = inputs_many x p w c a U work f J in
      let low = ltb-true (x.input_port l) (inputs_of a.settings.kind) inside in
      let at = ended_at t n zs 0 (length t.inputs) (x.input_port l) (omega arith) in
      let got = get_or_from_slice_get (inputs_ended t n zs) (x.input_port l) (has_ended_by t n zs (0 + x.input_port l)) false at in
      let zero_port : 0 + x.input_port l ≡ x.input_port l = omega arith in
      let after = inputs_after x p w c a U work f J s g piece G m text in
      ap (λ (bs : List Bool). get_or bs (x.input_port l) false) after ∙ (got ∙ (ap (has_ended_by t n zs) zero_port ∙ either ((p.flow).link l).closed
      (λ o. none_ended l I o ∙ sym (ap (λ (y : LinkState). y.closed) (took_closed n ((p.flow).link l) o) ∙ o))
      (λ o.
      let k = open_pick x p w c a U work f J s g l (record { input = I; open_ = o }) in
      let h = header_of x p w c a U work f J k.0 l k.1 true k.2 in
      ap (has_ended_by t n zs) (sym (k.2).port) ∙ (one_ended k.0 l k.1 h.0 k.2 (h.1).found ∙ sym (closed_after x p w c a U work f J s g k.0 l k.1 h.0 k.2 h.1)))))

  -- ---- the end of a sink's stream

  one_input : (k l : ℕ) → inputs_of a.settings.kind ≡ 1 → IsInput net c k → IsInput net c l → k ≡ l
  one_input k l one I K =
      let port : (j : ℕ) → IsInput net c j → x.input_port j ≡ 0 = λ j K.
      let H = U.its true j K in
      let low = ltb-true (x.input_port j) (inputs_of a.settings.kind) (sym (direction_is x p w c a U work f J (x.input_port j) H.port H.there) ∙ (H.end).direction) in
      omega arith in
      let u = end_place true x c k I ∙ sym (end_place true x c l K) in
      let v = port k I ∙ sym (port l K) in
      (U.cast).inputs k l I.below K.below (λ i. record { component = u i; port = v i })

  sink_ends : is_sink a.settings.kind ≡ true → list_any (is_last t n) zs ≡ ends
  sink_ends q =
      let K = sink_kind a.settings.kind q in
      let kept : IsSound net p.flow = let z = J.phase in (U.reached).sound (omega arith) in
      either ends
      (λ o.
      let r = (kept.components c U.below).going (sym U.source ∙ K.0) J.going in
      let k = open_pick x p w c a U work f J s g r.0 (record { input = r.1; open_ = r.2 }) in
      let h = header_of x p w c a U work f J k.0 r.0 k.1 true k.2 in
      let last = sym (closed_after x p w c a U work f J s g k.0 r.0 k.1 h.0 k.2 h.1) ∙ all_closed x p w c a U work f J s g K.0 o r.0 r.1 in
      any_there (is_last t n) zs k.0 (seen_as k.1 h.0) (its_place x p w c a U work f J s g k.0 r.0 k.1 true h.0 k.2 (h.1).found) last ∙ sym o)
      (λ o. either (list_any (is_last t n) zs)
      (λ u.
      let r = some_passes (is_last t n) zs u in
      let T = taken_at x p w c a U work f J s g r.0 r.1 r.2 in
      let last : is_last t n (seen_as T.pick T.header) ≡ true = ap (is_last t n) (sym T.is) ∙ r.3 in
      absurd (open_still T.input r.0 T.link T.pick T.header T.picked T.of_link last K.0 K.1 o))
      (λ u. u) ∙ sym o)
    where
      open_still : (input : Bool) (j l : ℕ) (y : Picked) (r : HeaderRecord) → IsPick x p c xs j y l input → IsHeaderOf x w c (number_of a) y l r → is_last t n (seen_as y r) ≡ true → is_source a.settings.kind ≡ false → inputs_of a.settings.kind ≡ 1 → ends ≡ false → ⊥
      open_still false j l y r P H h k one o = let u : false ≡ true = sym (last_out x p w c a U work f J s g n j l y r P) ∙ h in cc
      open_still true j l y r P H h k one o =
          let d = some_open x p w c a U work f J s g k o in
          let same = one_input d.0 l one d.1 P.of_link in
          let now : (took n ((p.flow).link l)).closed ≡ false = ap (λ (u : ℕ). (took n ((p.flow).link u)).closed) (sym same) ∙ d.2 in
          let u : true ≡ false = sym h ∙ (sym (closed_after x p w c a U work f J s g j l y r P H) ∙ now) in
          cc

  pub tells_is : tells_end a its ≡ ((x.layout).is_sink c && ends)
  tells_is = either (is_sink a.settings.kind)
      (λ q.
      let any = any_alike (is_last t 0) (is_last t n) step zs (λ i z h. last_after x p w c a U work f J s g piece G m text i z h) ∙ sink_ends q in
      (λ i. (q i && true) && any i) ∙ sym (ap (λ (u : Bool). u && ends) (sym U.sink ∙ q)))
      (λ q. ap (λ (u : Bool). (u && true) && list_any (is_last (terms_of a) 0) its.headers) q ∙ sym (ap (λ (u : Bool). u && ends) (sym U.sink ∙ q)))

  pub notes_are : notes_after a s its ≡ end_note ((x.layout).is_sink c && ends)
  notes_are =
      let quiet = quiet_headers a s its its.headers (λ j y h.
      let z = map_from step zs j y h in
      let T = taken_at x p w c a U work f J s g j z.0 z.1 in
      let port : y.port ≡ (T.pick).port = ap (λ (k : CarriedHeader). k.port) z.2 ∙ ap (λ (k : CarriedHeader). k.port) T.is in (
        ap (λ (k : CarriedHeader). k.header.mark) z.2 ∙ unmarked_by x p w c a U work f J s g piece G m text j z.0 z.1,
        ap (λ (k : ℕ). holds_at (port_of a k) is_joined) port ∙ tunnelled x p w c a U work f J j T.link T.pick T.input T.picked,
        ap (λ (k : ℕ). holds_at (port_of a k) (returning a)) port ∙ stays_put x p w c a U work f J j T.link T.pick T.input T.picked,
      )) in
      (λ i. quiet i ++ end_note (tells_is i) ++ []) ∙ append-nil (end_note ((x.layout).is_sink c && ends))
