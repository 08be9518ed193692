-- The step of a work that is out: its number of frames is one of the model's, and it is the last step where the model's is.
use Rattle.std.proofs.Common.{◌≡◌, ◌≢◌, ◌⊎◌, inl, inr, ℕ, zero, suc, ◌+◌, ◌-◌, ◌/◌, ◌<◌, ◌≤◌, Bool, true, false, not, ◌&&◌, ◌||◌, nat_eq, nat_le, if◌then◌else◌, List, [], ◌∷◌, ◌++◌, filter, length, slice_get, Option, Some, None, option_map, refl, sym, ◌∙◌, ap, subst, eq-eqb, ne_eqb, eqb-true, ltb-true, lt-ltb, leb-true, leb-false, arith}
use Rattle.std.proofs.lemmas.Bool.{cases_eq, eqb-false}
use Rattle.std.proofs.lemmas.Option.{slice_get-map, slice_get_within}
use Rattle.std.specs.List.{list_all}
use Rattle.part_api.specs.Terms.{Terms}
use Rattle.il_machine.specs.Kinds.{is_source}
use Rattle.il_machine.specs.Lists.{least}
use Rattle.il_machine.specs.World.{Component, HeaderRecord, Picked, Stream, Work, World, number_of, stream_of}
use Rattle.il_machine.specs.Headers.{find_header}
use Rattle.il_machine.specs.Components.{has_eos}
use Rattle.il_machine.specs.Parts.{frames_left}
use Rattle.il_machine.specs.Claims.{CarriedHeader, carried, terms_in}
use Rattle.il_machine.specs.Stepping.{is_in, frames_in, frames_for, frames_at, is_last, all_frames_at, has_input, step_frames, is_for_port, has_ended_by, ended_from, inputs_ended, is_over}
use Rattle.machine_laws.proofs.Every.{all_pass, none_passes}
use Rattle.machine_laws.proofs.Finding.{either}
use Rattle.machine_laws.proofs.Accepting.{both_of, is_not, not_not, not_either}
use Rattle.machine_laws.proofs.Keys.{at_there}
use Rattle.play_model.specs.Network.{Network, IsInput, Filled, LinkState, queue}
use Rattle.play_model.specs.Moves.{IsFront, IsEnding, IsOpen, HasNumber, took}
use Rattle.play_model.specs.Account.{AreFilled, IsSound}
use Rattle.play_model.specs.Play.{Play}
use Rattle.play_model.specs.Acts.{Act, CanAct}
use Rattle.play_world_laws.specs.View.{filled_by}
use Rattle.play_world_laws.specs.Cast.{Cast}
use Rattle.play_world_laws.proofs.Wanted.{filter_in, filter_from, link_below}
use Rattle.play_world_laws.proofs.Picks.{IsPick}
use Rattle.play_step_laws.proofs.Picks.{pick_link, link_pick}
use Rattle.play_world_laws.proofs.Worked.{seen_as, carried_at, carried_from, IsHeaderOf}
use Rattle.play_step_laws.proofs.Worked.{before_end, is_running, header_at, header_of, front_held, out_can, unit_at, side_at}
use Rattle.play_world_laws.proofs.Numbers.{ended_at, least_low, none_left, some_fails, some_passes, took_closed, took_open}
use Rattle.play_step_laws.proofs.Poised.{IsPoised}
use Rattle.play_world_laws.specs.Worlds.{IsWork}

least_some : (ns : List ℕ) → 0 < length ns → ((k m : ℕ) → slice_get ns k ≡ Some m → 0 < m) → 0 < least ns
least_some [] l h = absurd (omega arith)
least_some (n ∷ []) l h = h 0 n refl
least_some (n ∷ u ∷ ns) l h = let i = least_some (u ∷ ns) (omega arith) (λ k m e. h (suc k) m e) in let j = h 0 n refl in omega arith

ended_within : (t : Terms) (n : ℕ) (hs : List CarriedHeader) (port count i : ℕ) (y : Bool) → slice_get (ended_from t n hs port count) i ≡ Some y → i < count
ended_within t n hs port zero i y e = absurd cc
ended_within t n hs port (suc count) zero y e = omega arith
ended_within t n hs port (suc count) (suc i) y e = let k = ended_within t n hs (port + 1) count i y e in omega arith

-- ---- the headers of the step

module _ (x : Cast) (p : Play) (w : World) (c : ℕ) (a : Component) (U : IsPoised x p w c a) (work : Work) (f : a.work ≡ Some work) (J : IsWork x p c a work)
    (s : Stream) (g : stream_of (number_of a) w ≡ Some s) where
  abbrev net : Network
  net = (x.layout).network

  abbrev xs : List Picked
  xs = work.headers

  abbrev t : Terms
  t = terms_in a work

  abbrev zs : List CarriedHeader
  zs = carried w.headers xs

  abbrev n : ℕ
  n = step_frames t s zs

  all_found : (j : ℕ) (y : Picked) → slice_get xs j ≡ Some y → (r : HeaderRecord) × (find_header y.number w.headers ≡ Some r)
  all_found j y h = let r = header_at x p w c a U work f J j y h in (r.0, r.1)

  -- the header of a link among them
  pub its_place : (j l : ℕ) (y : Picked) (input : Bool) (r : HeaderRecord) → IsPick x p c xs j y l input → find_header y.number w.headers ≡ Some r → slice_get zs j ≡ Some (seen_as y r)
  its_place j l y input r P h = carried_at w.headers xs all_found j y r P.there h

  pub record IsTaken (j : ℕ) (z : CarriedHeader) : Type 0 where
    pub link : ℕ
    pub input : Bool
    pub pick : Picked
    pub header : HeaderRecord
    pub picked : IsPick x p c xs j pick link input
    pub of_link : IsHeaderOf x w c (number_of a) pick link header
    pub is : z ≡ seen_as pick header

  pub taken_at : (j : ℕ) (z : CarriedHeader) → slice_get zs j ≡ Some z → IsTaken j z
  taken_at j z h =
      let k = carried_from w.headers xs all_found j z h in
      let P = pick_link x p w c a U (before_end x p w c a U work f J) xs J.ports j k.0 k.2 in
      let H = header_of x p w c a U work f J j P.0 k.0 P.1 P.2 in
      let q : Some H.0 ≡ Some k.1 = sym (H.1).found ∙ k.3 in
      let is : H.0 ≡ k.1 = cc in
      record { link = P.0; input = P.1; pick = k.0; header = H.0; picked = P.2; of_link = H.1; is = k.4 ∙ ap (seen_as k.0) (sym is) }

  module _ (j l : ℕ) (y : Picked) (input : Bool) (r : HeaderRecord) (P : IsPick x p c xs j y l input) where
    pub side_is : is_in t (seen_as y r) ≡ input
    side_is = side_at x p w c a U work f J j l y input P

    pub frames_is : frames_in t (seen_as y r) ≡ (filled_by (x.unit l) r.load).frames
    frames_is = ap (λ (u : ℕ). length r.load.content / u) (unit_at x p w c a U work f J j l y input P)

    pub room_is : IsHeaderOf x w c (number_of a) y l r → frames_for t (seen_as y r) ≡ net.fits l
    room_is H =
        ap (λ (u : ℕ). r.state.size / u) (unit_at x p w c a U work f J j l y input P)
        ∙ (ap (λ (u : ℕ). u / x.unit l) (H.whole).size ∙ sym ((U.cast).fits l (link_below input net c l P.of_link)))

  pub last_in : (k j l : ℕ) (y : Picked) (r : HeaderRecord) → IsPick x p c xs j y l true → is_last t k (seen_as y r) ≡ (nat_le (filled_by (x.unit l) r.load).frames k && (filled_by (x.unit l) r.load).last)
  last_in k j l y r P =
      let side = side_is j l y true r P in
      let frames = frames_is j l y true r P in
      (λ i. (side i && nat_eq (frames i - k) 0) && has_eos r.load.flags) ∙ ap (λ (q : Bool). q && has_eos r.load.flags) (none_left (filled_by (x.unit l) r.load).frames k)

  pub last_out : (k j l : ℕ) (y : Picked) (r : HeaderRecord) → IsPick x p c xs j y l false → is_last t k (seen_as y r) ≡ false
  last_out k j l y r P =
      let side = side_is j l y false r P in
      λ i. (side i && nat_eq (frames_in t (seen_as y r) - k) 0) && has_eos r.load.flags

  pub offers_in : (j l : ℕ) (y : Picked) (r : HeaderRecord) → IsPick x p c xs j y l true → frames_at t (seen_as y r) ≡ (filled_by (x.unit l) r.load).frames
  offers_in j l y r P = ap (λ (q : Bool). if q then frames_in t (seen_as y r) else frames_for t (seen_as y r)) (side_is j l y true r P) ∙ frames_is j l y true r P

  pub offers_out : (j l : ℕ) (y : Picked) (r : HeaderRecord) → IsPick x p c xs j y l false → IsHeaderOf x w c (number_of a) y l r → frames_at t (seen_as y r) ≡ net.fits l
  offers_out j l y r P H = ap (λ (q : Bool). if q then frames_in t (seen_as y r) else frames_for t (seen_as y r)) (side_is j l y false r P) ∙ room_is j l y false r P H

  -- ---- the frames that they offer

  kept : IsSound net p.flow
  kept = let q = J.phase in (U.reached).sound (omega arith)

  pub offered : (j : ℕ) (z : CarriedHeader) → slice_get zs j ≡ Some z → is_last t 0 z ≡ false → (k : ℕ) × (slice_get (all_frames_at t zs) k ≡ Some (frames_at t z))
  offered j z h d =
      let r = filter_in (λ u. not (is_last t 0 u)) zs j z h (ap not d) in
      (r.0, slice_get-map (frames_at t) (filter (λ u. not (is_last t 0 u)) zs) r.0 ∙ ap (option_map (frames_at t)) r.1)

  offered_by : (k m : ℕ) → slice_get (all_frames_at t zs) k ≡ Some m → (j : ℕ) × (z : CarriedHeader) × (slice_get zs j ≡ Some z) × (is_last t 0 z ≡ false) × (m ≡ frames_at t z)
  offered_by k m h =
      let us : List CarriedHeader = filter (λ u. not (is_last t 0 u)) zs in
      let q : option_map (frames_at t) (slice_get us k) ≡ Some m = sym (slice_get-map (frames_at t) us k) ∙ h in
      from_some (slice_get us k) refl q
    where
      from_some : (o : Option CarriedHeader) → slice_get (filter (λ u. not (is_last t 0 u)) zs) k ≡ o → option_map (frames_at t) o ≡ Some m → (j : ℕ) × (z : CarriedHeader) × (slice_get zs j ≡ Some z) × (is_last t 0 z ≡ false) × (m ≡ frames_at t z)
      from_some None h q = absurd cc
      from_some (Some z) h q =
          let r = filter_from (λ u. not (is_last t 0 u)) zs k z h in
          let is : frames_at t z ≡ m = cc in
          (r.1, z, r.2, is_not _ r.0, sym is)

  some_offered : (k m : ℕ) → slice_get (all_frames_at t zs) k ≡ Some m → 0 < m
  some_offered k m h =
      let r = offered_by k m h in
      let T = taken_at r.0 r.1 r.2 in
      let d : is_last t 0 (seen_as T.pick T.header) ≡ false = ap (is_last t 0) (sym T.is) ∙ r.3 in
      let v : m ≡ frames_at t (seen_as T.pick T.header) = r.4 ∙ ap (frames_at t) T.is in
      by_side T.input r.0 T.link T.pick T.header T.picked T.of_link d v
    where
      by_side : (input : Bool) (j l : ℕ) (y : Picked) (r : HeaderRecord) → IsPick x p c xs j y l input → IsHeaderOf x w c (number_of a) y l r → is_last t 0 (seen_as y r) ≡ false → m ≡ frames_at t (seen_as y r) → 0 < m
      by_side false j l y r P H d v =
          let q = offers_out j l y r P H in
          let u = (((U.cast).layout).network).fits l (link_below false net c l P.of_link) in
          omega arith
      by_side true j l y r P H d v =
          let q = offers_in j l y r P in
          let h : Filled = filled_by (x.unit l) r.load in
          let F : AreFilled (queue ((p.flow).link l)) = (kept.links l (link_below true net c l P.of_link)).carries in
          let G = subst (λ (hs : List Filled). AreFilled (hs ++ ((p.flow).link l).sent)) (front_held x p w c a U work f J j l y r P H.found) F in
          let z : (nat_le h.frames 0 && h.last) ≡ false = sym (last_in 0 j l y r P) ∙ d in
          elim G.0 [
            | inl u ↦ omega arith
            | inr u ↦
                let no : nat_le h.frames 0 ≡ false = either (nat_le h.frames 0) (λ o. let v : true ≡ false = sym (ap (λ (q : Bool). q && h.last) o ∙ u) ∙ z in absurd cc) (λ o. o) in
                let k = leb-false h.frames 0 no in
                omega arith
          ]

  pub number_low : (k m : ℕ) → slice_get (all_frames_at t zs) k ≡ Some m → n ≤ m
  number_low k m h = either (is_source a.settings.kind)
      (λ q. subst (λ (u : Bool). (if u then least (frames_left t s ∷ all_frames_at t zs) else if has_input t zs then least (all_frames_at t zs) else 0) ≤ m) (sym q) (least_low (frames_left t s ∷ all_frames_at t zs) (suc k) m h))
      (λ q. subst (λ (u : Bool). (if u then least (frames_left t s ∷ all_frames_at t zs) else if has_input t zs then least (all_frames_at t zs) else 0) ≤ m) (sym q) (either (has_input t zs)
      (λ o. subst (λ (u : Bool). (if u then least (all_frames_at t zs) else 0) ≤ m) (sym o) (least_low (all_frames_at t zs) k m h))
      (λ o. subst (λ (u : Bool). (if u then least (all_frames_at t zs) else 0) ≤ m) (sym o) (omega arith))))

  -- ---- the number

  left_is : net.is_source c ≡ true → frames_left t s ≡ net.frames c - (p.flow).done c
  left_is q =
      let file = U.file (U.source ∙ q) in
      let done = at_there (stream_of (number_of a) w) (λ z. z.frames ≡ (p.flow).done c) s g U.done in
      λ i. file i - done i

  pub source_number : is_source a.settings.kind ≡ true → n ≡ least (frames_left t s ∷ all_frames_at t zs)
  source_number q = ap (λ (u : Bool). if u then least (frames_left t s ∷ all_frames_at t zs) else if has_input t zs then least (all_frames_at t zs) else 0) q

  other_number : is_source a.settings.kind ≡ false → n ≡ (if has_input t zs then least (all_frames_at t zs) else 0)
  other_number q = ap (λ (u : Bool). if u then least (frames_left t s ∷ all_frames_at t zs) else if has_input t zs then least (all_frames_at t zs) else 0) q

  -- a header of an open input: its frames, or the end
  input_offers : (j l : ℕ) (y : Picked) (r : HeaderRecord) → IsPick x p c xs j y l true → IsHeaderOf x w c (number_of a) y l r
      → (n ≤ (filled_by (x.unit l) r.load).frames) ⊎ IsEnding (filled_by (x.unit l) r.load)
  input_offers j l y r P H =
      let h : Filled = filled_by (x.unit l) r.load in
      either (is_last t 0 (seen_as y r))
      (λ o.
      let k = both_of (nat_le h.frames 0) h.last (sym (last_in 0 j l y r P) ∙ o) in
      let m = leb-true h.frames 0 k.0 in
      inr (omega arith, k.1))
      (λ o.
      let k = offered j (seen_as y r) (its_place j l y true r P H.found) o in
      let m = number_low k.0 (frames_at t (seen_as y r)) k.1 in
      let v = offers_in j l y r P in
      inl (omega arith))

  given_in : (Q : Filled → Type 0) (j l : ℕ) (y : Picked) (r : HeaderRecord) → IsPick x p c xs j y l true → IsHeaderOf x w c (number_of a) y l r → Q (filled_by (x.unit l) r.load) → IsFront Q ((p.flow).link l).held
  given_in Q j l y r P H q = subst (λ (hs : List Filled). IsFront Q hs) (sym (front_held x p w c a U work f J j l y r P H.found)) q

  pub open_pick : (l : ℕ) → IsOpen net p.flow c l → (j : ℕ) × (y : Picked) × IsPick x p c xs j y l true
  open_pick l O = link_pick x p w c a U (before_end x p w c a U work f J) xs J.ports true l O.input O.open_

  as_input : (j : ℕ) (z : CarriedHeader) (T : IsTaken j z) → is_in t z ≡ true → IsPick x p c xs j T.pick T.link true
  as_input j z T h =
      let i : T.input ≡ true = sym (side_is j T.link T.pick T.input T.header T.picked) ∙ (ap (is_in t) (sym T.is) ∙ h) in
      subst (λ (q : Bool). IsPick x p c xs j T.pick T.link q) i T.picked

  pub source_goes : net.is_source c ≡ true → ((p.flow).done c + n ≤ net.frames c) × ((0 < n) ⊎ ((p.flow).done c ≡ net.frames c))
  source_goes q =
      let K = (kept.components c U.below).source q in
      let d = K.0 in
      let m = source_number (U.source ∙ q) in
      let v = left_is q in
      let low = least_low (frames_left t s ∷ all_frames_at t zs) 0 (frames_left t s) refl in (
        omega arith,
        elim (cases_eq (frames_left t s) 0) [
          | inl z ↦ inr (omega arith)
          | inr z ↦
              let some = least_some (frames_left t s ∷ all_frames_at t zs) (omega arith) (λ k u h. each k u z h) in
              inl (omega arith)
        ],
      )
    where
      each : (k u : ℕ) → frames_left t s ≢ 0 → slice_get (frames_left t s ∷ all_frames_at t zs) k ≡ Some u → 0 < u
      each zero u z h = let i : frames_left t s ≡ u = cc in omega arith
      each (suc k) u z h = some_offered k u h

  other_goes : net.is_source c ≡ false
      → ((0 < n) × ((l : ℕ) × IsOpen net p.flow c l × IsFront (λ h. n ≤ h.frames) ((p.flow).link l).held)) ⊎ ((n ≡ 0) × ((l : ℕ) → IsOpen net p.flow c l → IsFront IsEnding ((p.flow).link l).held))
  other_goes q =
      let m = other_number (U.source ∙ q) in
      either (has_input t zs)
      (λ o.
      let k = some_passes (λ u. is_in t u && not (is_last t 0 u)) zs o in
      let T = taken_at k.0 k.1 k.2 in
      let i = both_of (is_in t k.1) (not (is_last t 0 k.1)) k.3 in
      let P = as_input k.0 k.1 T i.0 in
      let r = offered k.0 k.1 k.2 (is_not _ i.1) in
      let low = number_low r.0 (frames_at t k.1) r.1 in
      let v : frames_at t k.1 ≡ (filled_by (x.unit T.link) (T.header).load).frames = ap (frames_at t) T.is ∙ offers_in k.0 T.link T.pick T.header P in
      let here = slice_get_within (all_frames_at t zs) r.0 (frames_at t k.1) r.1 in
      let some = least_some (all_frames_at t zs) (omega arith) some_offered in
      let is : n ≡ least (all_frames_at t zs) = m ∙ ap (λ (u : Bool). if u then least (all_frames_at t zs) else 0) o in
      inl (omega arith, (T.link, record { input = P.of_link; open_ = P.open_ }, given_in (λ h. n ≤ h.frames) k.0 T.link T.pick T.header P T.of_link (omega arith))))
      (λ o. inr (
        m ∙ ap (λ (u : Bool). if u then least (all_frames_at t zs) else 0) o,
        λ l O.
            let k = open_pick l O in
            let H = header_of x p w c a U work f J k.0 l k.1 true k.2 in
            let h : Filled = filled_by (x.unit l) (H.0).load in
            let z : (is_in t (seen_as k.1 H.0) && not (is_last t 0 (seen_as k.1 H.0))) ≡ false = none_passes (λ u. is_in t u && not (is_last t 0 u)) zs k.0 (seen_as k.1 H.0) o (its_place k.0 l k.1 true H.0 k.2 (H.1).found) in
            let side = side_is k.0 l k.1 true H.0 k.2 in
            let d : not (is_last t 0 (seen_as k.1 H.0)) ≡ false = sym (ap (λ (u : Bool). u && not (is_last t 0 (seen_as k.1 H.0))) side) ∙ z in
            let y = both_of (nat_le h.frames 0) h.last (sym (last_in 0 k.0 l k.1 H.0 k.2) ∙ not_not _ d) in
            let few = leb-true h.frames 0 y.0 in
            given_in IsEnding k.0 l k.1 H.0 k.2 H.1 (omega arith, y.1),
      ))

  pub has_number : HasNumber net p.flow c n
  has_number = record {
    inputs = λ l O.
        let k = open_pick l O in
        let H = header_of x p w c a U work f J k.0 l k.1 true k.2 in
        given_in (λ h. (n ≤ h.frames) ⊎ IsEnding h) k.0 l k.1 H.0 k.2 H.1 (input_offers k.0 l k.1 H.0 k.2 H.1);
    outputs = λ l O.
        let k = link_pick x p w c a U (before_end x p w c a U work f J) xs J.ports false l O refl in
        let H = header_of x p w c a U work f J k.0 l k.1 false k.2 in
        let r = offered k.0 (seen_as k.1 H.0) (its_place k.0 l k.1 false H.0 k.2 (H.1).found) (last_out 0 k.0 l k.1 H.0 k.2) in
        let low = number_low r.0 (frames_at t (seen_as k.1 H.0)) r.1 in
        let v = offers_out k.0 l k.1 H.0 k.2 H.1 in
        omega arith;
    source = source_goes;
    other = other_goes;
  }

  -- ---- the last step

  abbrev pub over : Bool
  over = is_over t s n (inputs_ended t n zs)

  -- an input's link after the step
  pub closed_after : (j l : ℕ) (y : Picked) (r : HeaderRecord) → IsPick x p c xs j y l true → IsHeaderOf x w c (number_of a) y l r → (took n ((p.flow).link l)).closed ≡ is_last t n (seen_as y r)
  closed_after j l y r P H = took_open n ((p.flow).link l) (filled_by (x.unit l) r.load) _ P.open_ (front_held x p w c a U work f J j l y r P H.found) ∙ sym (last_in n j l y r P)

  pub all_closed : is_source a.settings.kind ≡ false → over ≡ true → (l : ℕ) → IsInput net c l → (took n ((p.flow).link l)).closed ≡ true
  all_closed q h l I = either ((p.flow).link l).closed
      (λ o. ap (λ (z : LinkState). z.closed) (took_closed n ((p.flow).link l) o) ∙ o)
      (λ o.
      let k = open_pick l (record { input = I; open_ = o }) in
      let H = header_of x p w c a U work f J k.0 l k.1 true k.2 in
      let all : list_all (λ u. u) (inputs_ended t n zs) ≡ true = sym (ap (λ (u : Bool). if u then nat_eq (frames_left t s - n) 0 else list_all (λ u. u) (inputs_ended t n zs)) q) ∙ h in
      let low = ltb-true (k.1).port (length t.inputs) (side_is k.0 l k.1 true H.0 k.2) in
      let m = all_pass (λ (u : Bool). u) (inputs_ended t n zs) (k.1).port (has_ended_by t n zs (0 + (k.1).port)) all (ended_at t n zs 0 (length t.inputs) (k.1).port low) in
      let zero_port : 0 + (k.1).port ≡ (k.1).port = omega arith in
      let m2 : has_ended_by t n zs (k.1).port ≡ true = ap (has_ended_by t n zs) (sym zero_port) ∙ m in
      let d = all_pass (λ u. not (is_for_port (k.1).port u) || is_last t n u) zs k.0 (seen_as k.1 H.0) m2 (its_place k.0 l k.1 true H.0 k.2 (H.1).found) in
      let last : is_last t n (seen_as k.1 H.0) ≡ true = sym (ap (λ (u : Bool). not u || is_last t n (seen_as k.1 H.0)) (eq-eqb (k.1).port (k.1).port refl)) ∙ d in
      closed_after k.0 l k.1 H.0 k.2 H.1 ∙ last)

  pub some_open : is_source a.settings.kind ≡ false → over ≡ false → (l : ℕ) × IsInput net c l × ((took n ((p.flow).link l)).closed ≡ false)
  some_open q h =
      let all : list_all (λ u. u) (inputs_ended t n zs) ≡ false = sym (ap (λ (u : Bool). if u then nat_eq (frames_left t s - n) 0 else list_all (λ u. u) (inputs_ended t n zs)) q) ∙ h in
      let k = some_fails (λ (u : Bool). u) (inputs_ended t n zs) all in
      let low = ended_within t n zs 0 (length t.inputs) k.0 k.1 k.2 in
      let same : Some k.1 ≡ Some (has_ended_by t n zs (0 + k.0)) = sym k.2 ∙ ended_at t n zs 0 (length t.inputs) k.0 low in
      let is : k.1 ≡ has_ended_by t n zs (0 + k.0) = cc in
      let m = some_fails (λ u. not (is_for_port (0 + k.0) u) || is_last t n u) zs (sym is ∙ k.3) in
      let d = not_either (not (is_for_port (0 + k.0) m.1)) (is_last t n m.1) m.3 in
      let port : (m.1).port ≡ 0 + k.0 = eqb-true _ _ (not_not _ d.0) in
      let T = taken_at m.0 m.1 m.2 in
      let side : is_in t m.1 ≡ true = lt-ltb (m.1).port (length t.inputs) (omega arith) in
      let P = as_input m.0 m.1 T side in
      (T.link, P.of_link, closed_after m.0 T.link T.pick T.header P T.of_link ∙ (ap (is_last t n) (sym T.is) ∙ d.1))

  pub source_over : net.is_source c ≡ true → over ≡ nat_eq ((p.flow).done c + n) (net.frames c)
  source_over q =
      let v = left_is q in
      let d = (source_goes q).0 in
      let m : over ≡ nat_eq (frames_left t s - n) 0 = ap (λ (u : Bool). if u then nat_eq (frames_left t s - n) 0 else list_all (λ u. u) (inputs_ended t n zs)) (U.source ∙ q) in
      m ∙ either (nat_eq ((p.flow).done c + n) (net.frames c))
      (λ o. let z = eqb-true _ _ o in eq-eqb (frames_left t s - n) 0 (omega arith) ∙ sym o)
      (λ o. let z = eqb-false _ _ o in ne_eqb (frames_left t s - n) 0 (λ y. z (omega arith)) ∙ sym o)

  pub step_acts : CanAct x.layout p (Act.Step c n over)
  step_acts = (
    is_running x p w c a U work f J,
    (
      out_can x p w c a U work f J,
      has_number,
      record {
        source = source_over;
        all = λ q. all_closed (U.source ∙ q);
        some = λ q. some_open (U.source ∙ q);
      },
    ),
    U.rests,
  )
