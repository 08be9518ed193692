-- What comes into a step of a play, and what it gives: whole frames.
use Rattle.std.proofs.Common.{◌≡◌, ℕ, ◌-◌, ◌*◌, ◌<◌, ◌≤◌, Bool, true, false, nat_lt, if◌then◌else◌, List, ◌∷◌, find, length, take, Option, Some, None, refl, sym, ◌∙◌, ap, subst, eqb-true, lt-ltb, arith, MatchBool, []}
use Rattle.std.proofs.Math.Nat.{div-mul-le_self, mul-le-mul_right}
use Rattle.std.proofs.lemmas.List.{length-replicate, length-take-le}
use Rattle.omx_types.specs.Formats.{frame_bytes_of}
use Rattle.part_api.specs.Streams.{Shape, HasFrames}
use Rattle.part_api.specs.Terms.{Terms}
use Rattle.part_forms.specs.Shapes.{shape_of}
use Rattle.audio_parts.specs.Shapes.{HasFramesOf}
use Rattle.play_step_laws.proofs.Sizes.{sized}
use Rattle.il_machine.specs.Kinds.{is_source}
use Rattle.il_machine.specs.Parts.{file_format, frames_left, bytes_given}
use Rattle.il_machine.specs.World.{Component, Stream, Work, World, number_of, stream_of}
use Rattle.il_machine.specs.Claims.{CarriedHeader, carried, terms_in}
use Rattle.il_machine.specs.Stepping.{format_at, bytes_at, is_last, frames_in, frames_for, frames_at, all_frames_at, step_frames, front_of, is_for_port, incoming, zeros_at, made_at, IsTold, Gives}
use Rattle.machine_laws.proofs.Finding.{either}
use Rattle.machine_laws.proofs.Parts.{parts_of}
use Rattle.play_model.specs.Play.{Play}
use Rattle.play_world_laws.specs.Cast.{Cast, script_place}
use Rattle.play_world_laws.proofs.Wanted.{IsLinkAt}
use Rattle.play_world_laws.proofs.Numbers.{least_low}
use Rattle.play_step_laws.proofs.Numbers.{offered, number_low, source_number}
use Rattle.play_world_laws.proofs.Lengths.{found_at}
use Rattle.play_step_laws.proofs.Lengths.{lawful, frames_of_ports, output_unit, input_frames}
use Rattle.play_step_laws.proofs.Poised.{IsPoised}
use Rattle.play_world_laws.specs.Worlds.{IsWork}

-- ---- what comes into a step, and what it gives

told_long : (known : Option (List ℕ)) (place count : ℕ) (piece : List ℕ) → IsTold known place count piece → length piece ≡ count
told_long None place count piece T = T
told_long (Some all) place count piece T = T.0

module _ (x : Cast) (p : Play) (w : World) (c : ℕ) (a : Component) (U : IsPoised x p w c a) (work : Work) (f : a.work ≡ Some work) (J : IsWork x p c a work)
    (s : Stream) (g : stream_of (number_of a) w ≡ Some s) where
  abbrev t : Terms
  t = terms_in a work

  abbrev zs : List CarriedHeader
  zs = carried w.headers work.headers

  abbrev n : ℕ
  n = step_frames t s zs

  abbrev shape : Shape
  shape = shape_of t

  ports : HasFramesOf t.inputs t.outputs shape
  ports = frames_of_ports x p w c a U work f J

  zeros_long : (i : ℕ) → i < length t.inputs → length (zeros_at t i n) ≡ n * shape.input_frame
  zeros_long i l = length-replicate (bytes_at t i n) 0 ∙ ap (λ (k : ℕ). n * k) (input_frames x p w c a U work f J i l)

  found_long : (i : ℕ) → i < length t.inputs → (o : Option CarriedHeader) → find (is_for_port i) zs ≡ o → length (front_of t i n o) ≡ n * shape.input_frame
  found_long i l None h = zeros_long i l
  found_long i l (Some z) h = either (is_last t 0 z)
      (λ d. ap (λ (q : Bool). length (if q then zeros_at t i n else take (bytes_at t i n) z.header.content)) d ∙ zeros_long i l)
      (λ d.
      let r = found_at (is_for_port i) zs z h in
      let port : z.port ≡ i = eqb-true _ _ r.2 in
      let k = offered x p w c a U work f J s g r.0 z r.1 d in
      let low = number_low x p w c a U work f J s g k.0 (frames_at t z) k.1 in
      let inside : nat_lt z.port (length t.inputs) ≡ true = lt-ltb z.port (length t.inputs) (omega arith) in
      let v : frames_at t z ≡ frames_in t z = ap (λ (q : Bool). if q then frames_in t z else frames_for t z) inside in
      let fb : ℕ = frame_bytes_of (format_at t z.port) in
      let small = div-mul-le_self (length z.header.content) fb in
      let most = mul-le-mul_right fb (let m : n ≤ frames_in t z = omega arith in m) in
      let same : bytes_at t i n ≡ n * fb = ap (λ (q : ℕ). n * frame_bytes_of (format_at t q)) (sym port) in
      ap (λ (q : Bool). length (if q then zeros_at t i n else take (bytes_at t i n) z.header.content)) d
      ∙ (length-take-le (bytes_at t i n) z.header.content (omega arith) ∙ ap (λ (q : ℕ). n * q) (input_frames x p w c a U work f J i l)))

  module _ (piece : List ℕ) (G : Gives t s n piece) where
    file_long : (l : ℕ) → IsLinkAt false (x.layout).network c l → is_source a.settings.kind ≡ true → length piece ≡ n * shape.output_frame
    file_long l I q =
        let T : IsTold s.known (bytes_given t s) (n * frame_bytes_of (file_format a.file)) piece = subst (λ (u : Bool). MatchBool u (IsTold s.known (bytes_given t s) (n * frame_bytes_of (file_format a.file)) piece) (piece ≡ [])) q G in
        let m = source_number x p w c a U work f J s g q in
        let low = least_low (frames_left t s ∷ all_frames_at t zs) 0 (frames_left t s) refl in
        told_long s.known (bytes_given t s) (n * frame_bytes_of (file_format a.file)) piece T ∙ (U.file_unit q l I n (omega arith) ∙ ap (λ (u : ℕ). n * u) (sym (output_unit x p w c a U work f J l I)))

    -- whole frames in, and as many out
    pub made_long : (port l : ℕ) → IsLinkAt false (x.layout).network c l → length (made_at t (incoming t n zs piece) port) ≡ n * x.unit l
    made_long port l I =
        let S = (parts_of w U.sound).components (script_place x c) a U.there in
        let H : HasFrames shape n (incoming t n zs piece) = record { input = λ i d. found_long i (let k = ports.input_count in omega arith) (find (is_for_port i) zs) refl } in
        sized t n (incoming t n zs piece) (port - length t.inputs) (S.whole).sized (lawful x p w c a U work f J) H (file_long l I)
        ∙ ap (λ (u : ℕ). n * u) (output_unit x p w c a U work f J l I)
