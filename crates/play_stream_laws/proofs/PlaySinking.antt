-- What a sink's file takes in a step of a play, behind what it has taken.
use Rattle.std.proofs.Common.{◌≡◌, inl, inr, ℕ, ◌+◌, ◌*◌, ◌≤◌, Bool, true, false, List, [], ◌++◌, length, take, if◌then◌else◌, Some, sym, ◌∙◌, ap, subst, ltb-true, arith}
use Rattle.std.proofs.Math.Nat.{mul-le-mul_right, zero-mul}
use Rattle.std.proofs.lemmas.List.{length-take-le}
use Rattle.omx_types.specs.Formats.{frame_bytes_of}
use Rattle.part_api.specs.Terms.{Terms}
use Rattle.il_machine.specs.Kinds.{inputs_of, is_sink}
use Rattle.il_machine.specs.World.{Component, Stream, Work, World, number_of, stream_of}
use Rattle.il_machine.specs.Claims.{CarriedHeader, carried, terms_in}
use Rattle.il_machine.specs.Stepping.{format_at, input_piece, step_frames, text_by, text_of}
use Rattle.machine_laws.proofs.Keys.{at_there}
use Rattle.play_model.specs.Network.{IsInput, Filled, LinkState, frames_in, queue}
use Rattle.play_model.specs.Moves.{IsFront}
use Rattle.play_model.specs.Account.{IsSound}
use Rattle.play_model.specs.Content.{frames_taken, front_taken}
use Rattle.play_model.specs.Play.{Play}
use Rattle.play_world_laws.specs.Cast.{Cast}
use Rattle.play_world_laws.specs.Worlds.{IsWork}
use Rattle.play_world_laws.proofs.Wanted.{end_place}
use Rattle.play_stream_laws.specs.Flowing.{flowing_in}
use Rattle.play_stream_laws.specs.Streams.{HasSunk, sunk_of}
use Rattle.play_stream_laws.proofs.Coming.{padded_whole}
use Rattle.play_stream_laws.proofs.Keeping.{no_bytes}
use Rattle.play_stream_laws.proofs.Sinking.{front_all, front_none, sink_kind, text_begins, text_joins}
use Rattle.play_step_laws.proofs.Numbers.{has_number}
use Rattle.play_step_laws.proofs.Poised.{IsPoised}
use Rattle.play_step_laws.proofs.Worked.{direction_is, format_is}
use Rattle.play_stream_laws.proofs.StepComing.{given, input_is}

module _ (x : Cast) (p : Play) (w : World) (c : ℕ) (a : Component) (U : IsPoised x p w c a) (work : Work) (f : a.work ≡ Some work) (J : IsWork x p c a work)
    (s : Stream) (g : stream_of (number_of a) w ≡ Some s) (l : ℕ) (I : IsInput (x.layout).network c l) (sink : (x.layout).is_sink c ≡ true) (long : length (flowing_in x w l) ≡ frames_in (queue ((p.flow).link l)) * x.unit l) where
  abbrev t : Terms
  t = terms_in a work

  abbrev zs : List CarriedHeader
  zs = carried w.headers work.headers

  abbrev n : ℕ
  n = step_frames t s zs

  abbrev u : ℕ
  u = x.unit l

  is_sink_kind : is_sink a.settings.kind ≡ true
  is_sink_kind = U.sink ∙ sink

  kept : IsSound (x.layout).network p.flow
  kept = let q = J.phase in (U.reached).sound (omega arith)

  port_zero : (k : ℕ) → IsInput (x.layout).network c k → x.input_port k ≡ 0
  port_zero k K =
      let H = U.its true k K in
      let one = (sink_kind a.settings.kind is_sink_kind).1 in
      let low = ltb-true (x.input_port k) (inputs_of a.settings.kind) (sym (direction_is x p w c a U work f J (x.input_port k) H.port H.there) ∙ (H.end).direction) in
      omega arith

  one_input : (k : ℕ) → IsInput (x.layout).network c k → k ≡ l
  one_input k K =
      let o = end_place true x c k K ∙ sym (end_place true x c l I) in
      let v = port_zero k K ∙ sym (port_zero l I) in
      (U.cast).inputs k l K.below I.below (λ i. record { component = o i; port = v i })

  pub still_open : ((p.flow).link l).closed ≡ false
  still_open =
      let r = (kept.components c U.below).going (sym U.source ∙ (sink_kind a.settings.kind is_sink_kind).0) J.going in
      ap (λ (j : ℕ). ((p.flow).link j).closed) (sym (one_input r.0 r.1)) ∙ r.2

  pub unit_is : frame_bytes_of (format_at t 0) ≡ u
  unit_is =
      let H = U.its true l I in
      ap (λ (i : ℕ). frame_bytes_of (format_at t i)) (sym (port_zero l I)) ∙ (ap frame_bytes_of (format_is x p w c a U work f J (x.input_port l) H.port H.there) ∙ (H.end).unit)

  -- as many frames as the step has
  takes_all : (frames_taken n ((p.flow).link l) ≡ n) × (n * u ≤ length (flowing_in x w l))
  takes_all =
      let y : LinkState = (p.flow).link l in
      let open_ : frames_taken n y ≡ front_taken n y.held = ap (λ (z : Bool). if z then 0 else front_taken n y.held) still_open in
      elim ((has_number x p w c a U work f J s g).other (sym U.source ∙ (sink_kind a.settings.kind is_sink_kind).0)) [
        | inl r ↦
            let q = r.1 in
            let same = one_input q.0 (q.1).input in
            let F = front_all n y.held y.sent (subst (λ (j : ℕ). IsFront (λ (h : Filled). n ≤ h.frames) ((p.flow).link j).held) same q.2) in
            let m = mul-le-mul_right u F.1 in
            (open_ ∙ F.0, omega arith)
        | inr r ↦
            let z = r.0 in
            let none : n * u ≡ 0 = ap (λ (j : ℕ). j * u) z ∙ zero-mul u in
            (open_ ∙ front_none n y.held z (r.1 l (record { input = I; open_ = still_open })), omega arith)
      ]

  abbrev part : List ℕ
  part = given x p w c a U work f J s g l I

  pub part_long : length part ≡ n * u
  part_long = ap (λ (j : ℕ). length (take (j * u) (flowing_in x w l))) takes_all.0 ∙ length-take-le (n * u) (flowing_in x w l) takes_all.1

  piece_is : input_piece t n zs 0 ≡ part
  piece_is = ap (input_piece t n zs) (sym (port_zero l I)) ∙ (input_is x p w c a U work f J s g l I ∙ padded_whole (n * u) part part_long)

  -- what the file has then taken
  module _ (taken : List ℕ) (took : length taken ≡ ((p.flow).link l).taken * u) (text : List ℕ) (is : text ≡ text_of t s n zs) where
    pub taken_long : length taken ≡ s.frames * frame_bytes_of (format_at t 0)
    taken_long =
        let done : s.frames ≡ (p.flow).done c = at_there (stream_of (number_of a) w) (λ z. z.frames ≡ (p.flow).done c) s g U.done in
        let level : ((p.flow).link l).taken ≡ (p.flow).done c = (kept.links l I.below).level still_open ∙ ap (λ (j : ℕ). (p.flow).done j) I.taken_by in
        took ∙ (λ i. (level ∙ sym done) i * sym unit_is i)

    text_is : text ≡ text_by a.file (format_at t 0) s n part
    text_is = is ∙ (ap (λ (z : Bool). if z then text_by a.file (format_at t 0) s n (input_piece t n zs 0) else []) is_sink_kind ∙ ap (text_by a.file (format_at t 0) s n) piece_is)

    pub written_next : HasSunk t s ((p.flow).ended c) taken → s.written ++ text ≡ sunk_of t (s.frames + n) (taken ++ part)
    written_next K =
        let piece_long : length part ≡ n * frame_bytes_of (format_at t 0) = part_long ∙ ap (λ (j : ℕ). n * j) (sym unit_is) in
        ap (λ (z : List ℕ). s.written ++ z) text_is ∙ elim K [
          | inl h ↦ text_joins a.file (format_at t 0) s n taken part taken_long piece_long h
          | inr h ↦
              let nil : taken ≡ [] = no_bytes taken (taken_long ∙ (ap (λ (j : ℕ). j * frame_bytes_of (format_at t 0)) h.1 ∙ zero-mul (frame_bytes_of (format_at t 0)))) in
              text_begins a.file (format_at t 0) s n part h.0 h.1 ∙ ap (λ (z : List ℕ). sunk_of t (s.frames + n) (z ++ part)) (sym nil)
        ]
