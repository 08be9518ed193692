-- What comes into a step of a component of a play is what the model has: of each input the frames of the step from the
-- front of the bytes on their way, zeros where it has ended or ends.
use Rattle.std.proofs.Common.{◌≡◌, ◌⊎◌, inl, inr, ℕ, ◌*◌, ◌≤◌, Bool, true, false, ◌&&◌, nat_le, if◌then◌else◌, List, [], ◌++◌, find, length, take, replicate, slice_get, Option, Some, None, option_map, sym, ◌∙◌, ap, subst, eqb-true, eq-eqb, le-leb, leb-true, arith}
use Rattle.std.proofs.lemmas.Bool.{cases_eq}
use Rattle.std.proofs.lemmas.List.{take-append-le, length-take-le}
use Rattle.std.proofs.Math.Nat.{mul-le-mul_right, zero-mul}
use Rattle.omx_types.specs.Formats.{frame_bytes_of}
use Rattle.part_api.specs.Terms.{Terms}
use Rattle.il_machine.specs.World.{Component, HeaderRecord, Picked, Stream, Work, World, number_of, stream_of}
use Rattle.il_machine.specs.Headers.{load_at, load_of, seen}
use Rattle.il_machine.specs.Claims.{CarriedHeader, carried, terms_in}
use Rattle.il_machine.specs.Stepping.{bytes_at, format_at, front_of, input_piece, is_for_port, is_last, step_frames, zeros_at}
use Rattle.machine_laws.proofs.Accepting.{both_of}
use Rattle.machine_laws.proofs.Finding.{either}
use Rattle.play_model.specs.Network.{Filled, IsInput}
use Rattle.play_model.specs.Moves.{IsEnding, IsFront}
use Rattle.play_model.specs.Content.{frames_taken, front_taken, padded}
use Rattle.play_model.specs.Play.{Play}
use Rattle.play_world_laws.specs.View.{filled_by}
use Rattle.play_world_laws.specs.Cast.{Cast, input_at, output_at}
use Rattle.play_world_laws.specs.Worlds.{IsWork}
use Rattle.play_world_laws.proofs.Picks.{IsPick, picks_differ}
use Rattle.play_world_laws.proofs.Worked.{IsHeaderOf, seen_as}
use Rattle.play_stream_laws.specs.Flowing.{content_of, contents_of, flowing_in}
use Rattle.play_stream_laws.proofs.Coming.{closed_pick, find_none, find_one, padded_none, padded_whole}
use Rattle.play_step_laws.proofs.Numbers.{has_number, its_place, last_in, taken_at}
use Rattle.play_step_laws.proofs.Picks.{link_pick}
use Rattle.play_step_laws.proofs.Poised.{IsPoised}
use Rattle.play_step_laws.proofs.Worked.{before_end, format_is, front_held, header_of, own_picked, work_rises}

module _ (x : Cast) (p : Play) (w : World) (c : ℕ) (a : Component) (U : IsPoised x p w c a) (work : Work) (f : a.work ≡ Some work) (J : IsWork x p c a work)
    (s : Stream) (g : stream_of (number_of a) w ≡ Some s) where
  abbrev t : Terms
  t = terms_in a work

  abbrev xs : List Picked
  xs = work.headers

  abbrev zs : List CarriedHeader
  zs = carried w.headers xs

  abbrev n : ℕ
  n = step_frames t s zs

  -- ---- an input

  module _ (l : ℕ) (I : IsInput (x.layout).network c l) where
    abbrev i : ℕ
    i = x.input_port l

    abbrev u : ℕ
    u = x.unit l

    unit_is : frame_bytes_of (format_at t i) ≡ u
    unit_is = let H = U.its true l I in ap frame_bytes_of (format_is x p w c a U work f J i H.port H.there) ∙ (H.end).unit

    zeros_are : zeros_at t i n ≡ replicate (n * u) 0
    zeros_are = ap (λ (j : ℕ). replicate {A = ℕ} (n * j) 0) unit_is

    -- the bytes that the step takes
    abbrev pub given : List ℕ
    given = take (frames_taken n ((p.flow).link l) * u) (flowing_in x w l)

    closed_is : ((p.flow).link l).closed ≡ true → input_piece t n zs i ≡ padded (n * u) given
    closed_is o =
        let none : find (is_for_port i) zs ≡ None = find_none (is_for_port i) zs (λ j z h q.
        let T = taken_at x p w c a U work f J s g j z h in
        closed_pick x p U.cast c xs l I o j T.link T.pick T.input T.picked (ap (λ (y : CarriedHeader). y.port) (sym T.is) ∙ eqb-true _ _ q)) in
        let nil : given ≡ [] = ap (λ (z : Bool). take ((if z then 0 else front_taken n ((p.flow).link l).held) * u) (flowing_in x w l)) o ∙ ap (λ (z : ℕ). take z (flowing_in x w l)) (zero-mul u) in
        ap (front_of t i n) none ∙ (zeros_are ∙ sym (ap (padded (n * u)) nil ∙ padded_none (n * u)))

    -- ---- one that gives a header

    module _ (j : ℕ) (y : Picked) (r : HeaderRecord) (P : IsPick x p c xs j y l true) (H : IsHeaderOf x w c (number_of a) y l r) where
      abbrev h : Filled
      h = filled_by u r.load

      found : find (is_for_port i) zs ≡ Some (seen_as y r)
      found = find_one (is_for_port i) zs j (seen_as y r) (its_place x p w c a U work f J s g j l y true r P H.found) (eq-eqb y.port i P.port) (λ k z q o. elim (cases_eq k j) [
        | inl d ↦ let v : Some z ≡ Some (seen_as y r) = sym q ∙ (ap (slice_get zs) d ∙ its_place x p w c a U work f J s g j l y true r P H.found) in cc
        | inr d ↦
            let T = taken_at x p w c a U work f J s g k z q in
            absurd (picks_differ 0 (length a.ports) xs k j T.pick y (work_rises x p w c a U work f J) d (T.picked).there P.there (ap (λ (v : CarriedHeader). v.port) (sym T.is) ∙ (eqb-true _ _ o ∙ sym P.port)))
      ])

      -- what is on its way begins with what the header carries
      pub front_bytes : (rest : List ℕ) × (flowing_in x w l ≡ r.load.content ++ rest)
      front_bytes =
          let rest : List ℕ = contents_of w.headers ((seen w.headers).todo (input_at x l) ++ (seen w.headers).done (output_at x l)) in
          let own = own_picked x p w c a U work f J j l y true P in
          let content : content_of (load_at y.number w.headers) ≡ r.load.content = ap (λ (q : Option HeaderRecord). content_of (option_map load_of q)) H.found in
          (rest, ap (λ (ds : List ℕ). contents_of w.headers ((ds ++ (seen w.headers).todo (input_at x l)) ++ (seen w.headers).done (output_at x l))) own ∙ ap (λ (q : List ℕ). q ++ rest) content)

      whole : h.frames * u ≡ length r.load.content
      whole = (H.whole).frames

      taken_is : frames_taken n ((p.flow).link l) ≡ (if nat_le h.frames n then h.frames else n)
      taken_is =
          ap (λ (z : Bool). if z then 0 else front_taken n ((p.flow).link l).held) P.open_
          ∙ ap (λ (q : List Filled). front_taken n q) (front_held x p w c a U work f J j l y r P H.found)

      offered_is : (n ≤ h.frames) ⊎ IsEnding h
      offered_is =
          let N = (has_number x p w c a U work f J s g).inputs l (record { input = I; open_ = P.open_ }) in
          subst (λ (q : List Filled). IsFront (λ (z : Filled). (n ≤ z.frames) ⊎ IsEnding z) q) (front_held x p w c a U work f J j l y r P H.found) N

      ending_is : is_last t 0 (seen_as y r) ≡ true → input_piece t n zs i ≡ padded (n * u) given
      ending_is o =
          let k = both_of (nat_le h.frames 0) h.last (sym (last_in x p w c a U work f J s g 0 j l y r P) ∙ o) in
          let zero_frames : h.frames ≡ 0 = let m = leb-true h.frames 0 k.0 in omega arith in
          let few : nat_le h.frames n ≡ true = le-leb h.frames n (omega arith) in
          let nil : given ≡ [] = ap (λ (z : ℕ). take (z * u) (flowing_in x w l)) (taken_is ∙ (ap (λ (z : Bool). if z then h.frames else n) few ∙ zero_frames)) ∙ ap (λ (z : ℕ). take z (flowing_in x w l)) (zero-mul u) in
          ap (front_of t i n) found ∙ (ap (λ (z : Bool). if z then zeros_at t i n else take (bytes_at t i n) r.load.content) o ∙ (zeros_are ∙ sym (ap (padded (n * u)) nil ∙ padded_none (n * u))))

      going_takes : is_last t 0 (seen_as y r) ≡ false → (n ≤ h.frames) × (frames_taken n ((p.flow).link l) ≡ n)
      going_takes o = elim offered_is [
        | inl m ↦ (
          m,
          taken_is ∙ either (nat_le h.frames n)
              (λ q. let v = leb-true h.frames n q in ap (λ (z : Bool). if z then h.frames else n) q ∙ omega arith)
              (λ q. ap (λ (z : Bool). if z then h.frames else n) q),
        )
        | inr E ↦
            let low : nat_le h.frames 0 ≡ true = let v = E.0 in le-leb h.frames 0 (omega arith) in
            let z : true ≡ false = sym (last_in x p w c a U work f J s g 0 j l y r P ∙ ((λ i. low i && h.last) ∙ E.1)) ∙ o in
            absurd cc
      ]

      going_is : is_last t 0 (seen_as y r) ≡ false → input_piece t n zs i ≡ padded (n * u) given
      going_is o =
          let k = going_takes o in
          let m : n * u ≤ length r.load.content = let v = mul-le-mul_right u k.0 in let z = whole in omega arith in
          let front = front_bytes in
          let cut : given ≡ take (n * u) r.load.content =
          ap (λ (z : ℕ). take (z * u) (flowing_in x w l)) k.1 ∙ (ap (take (n * u)) front.1 ∙ take-append-le (n * u) r.load.content front.0 m) in
          let long : length (take (n * u) r.load.content) ≡ n * u = length-take-le (n * u) r.load.content m in
          ap (front_of t i n) found
          ∙ (ap (λ (z : Bool). if z then zeros_at t i n else take (bytes_at t i n) r.load.content) o
          ∙ (ap (λ (z : ℕ). take (n * z) r.load.content) unit_is
          ∙ sym (ap (padded (n * u)) cut ∙ padded_whole (n * u) (take (n * u) r.load.content) long)))

    pub input_is : input_piece t n zs i ≡ padded (n * u) given
    input_is = either ((p.flow).link l).closed closed_is (λ o.
        let k = link_pick x p w c a U (before_end x p w c a U work f J) xs J.ports true l I o in
        let H = header_of x p w c a U work f J k.0 l k.1 true k.2 in
        either (is_last t 0 (seen_as k.1 H.0)) (ending_is k.0 k.1 H.0 k.2 H.1) (going_is k.0 k.1 H.0 k.2 H.1))
