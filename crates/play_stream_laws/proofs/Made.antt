-- What the part of a component of a play makes in a step is what the model's plain function gives of what comes in.
use Rattle.std.proofs.Common.{◌≡◌, ℕ, ◌+◌, ◌-◌, ◌*◌, ◌<◌, ◌≤◌, Bool, true, if◌then◌else◌, List, [], ◌++◌, length, drop, take, Option, Some, None, MatchBool, sym, ◌∙◌, ap, subst, add-mul, lt-ltb, arith}
use Rattle.std.proofs.lemmas.List.{drop-append-le, take-append-le, length-drop}
use Rattle.std.proofs.Math.Nat.{mul-le-mul_right}
use Rattle.omx_types.specs.Formats.{frame_bytes_of}
use Rattle.part_api.specs.Streams.{Incoming, Shape}
use Rattle.part_api.specs.Terms.{Terms}
use Rattle.part_forms.specs.Shapes.{shape_of}
use Rattle.audio_parts.specs.Shapes.{HasFramesOf}
use Rattle.il_machine.specs.Kinds.{is_source}
use Rattle.il_machine.specs.Parts.{bytes_given, file_format}
use Rattle.il_machine.specs.World.{Component, Stream, Work, World, number_of, stream_of}
use Rattle.il_machine.specs.Claims.{CarriedHeader, carried, terms_in}
use Rattle.il_machine.specs.Stepping.{incoming, made_at, step_frames, Gives, IsTold}
use Rattle.machine_laws.proofs.Keys.{at_there}
use Rattle.play_model.specs.Network.{IsInput, IsOutput}
use Rattle.play_model.specs.Content.{Part, Streams, frames_taken, padded, piece as model_piece}
use Rattle.play_model.specs.Play.{Play}
use Rattle.play_world_laws.specs.Worlds.{IsWork}
use Rattle.play_stream_laws.specs.Parts.{part_of}
use Rattle.audio_parts.proofs.Plain.{plain_same}
use Rattle.play_stream_laws.specs.Flowing.{flowing_in}
use Rattle.play_stream_laws.specs.Contents.{PlayContents, Tells, network_of}
use Rattle.play_stream_laws.proofs.Bounded.{input_out, source_below}
use Rattle.play_world_laws.specs.PlayWorlds.{PlayCast}
use Rattle.play_step_laws.proofs.Lengths.{frames_of_ports, output_unit}
use Rattle.play_step_laws.proofs.Numbers.{source_goes}
use Rattle.play_step_laws.proofs.Poised.{IsPoised}
use Rattle.play_stream_laws.specs.PlayContents.{HasPlayContents}
use Rattle.play_stream_laws.proofs.StepComing.{input_is}
use Rattle.play_stream_laws.proofs.Planned.{planned_is}

-- what a file gives that tells its bytes
told_piece : (known : Option (List ℕ)) (place count : ℕ) (piece file : List ℕ) → IsTold known place count piece → Tells known file → place + count ≤ length file → piece ≡ take count (drop place file)
told_piece None place count piece file T F l = absurd F
told_piece (Some all) place count piece file T F l =
    let cut : drop place all ≡ drop place file ++ F.0 = ap (drop place) F.1 ∙ drop-append-le place file F.0 (omega arith) in
    let long = length-drop place file in
    T.1 ∙ (ap (take count) cut ∙ take-append-le count (drop place file) F.0 (omega arith))

module _ (x : PlayCast) (p : Play) (w : World) (c : ℕ) (a : Component) (U : IsPoised x.cast p w c a) (work : Work) (f : a.work ≡ Some work) (J : IsWork x.cast p c a work)
    (s : Stream) (g : stream_of (number_of a) w ≡ Some s) (k : PlayContents) (C : HasPlayContents x k w) (piece : List ℕ) (G : Gives (terms_in a work) s (step_frames (terms_in a work) s (carried w.headers work.headers)) piece) where
  abbrev t : Terms
  t = terms_in a work

  abbrev zs : List CarriedHeader
  zs = carried w.headers work.headers

  abbrev n : ℕ
  n = step_frames t s zs

  abbrev shape : Shape
  shape = shape_of t

  ports : HasFramesOf t.inputs t.outputs shape
  ports = frames_of_ports x.cast p w c a U work f J

  abbrev of : ℕ
  of = ((k.model).part c).output_frame

  part_is : (k.model).part c ≡ part_of t
  part_is = C.parts c U.below ∙ sym (ap part_of (planned_is x p w c a U work f J k C))

  of_is : shape.output_frame ≡ of
  of_is = sym (ap (λ (z : Part). z.output_frame) part_is)

  file_is : (l : ℕ) → IsOutput ((x.cast).layout).network c l → is_source a.settings.kind ≡ true → piece ≡ take (n * of) (drop ((p.flow).done c * of) ((k.model).file c))
  file_is l O q =
      let T : IsTold s.known (bytes_given t s) (n * frame_bytes_of (file_format a.file)) piece = subst (λ (z : Bool). MatchBool z (IsTold s.known (bytes_given t s) (n * frame_bytes_of (file_format a.file)) piece) (piece ≡ [])) q G in
      let F : Tells s.known ((k.model).file c) = at_there (stream_of (number_of a) w) (λ z. Tells z.known ((k.model).file c)) s g (C.files c a U.below U.there q) in
      let done : s.frames ≡ (p.flow).done c = at_there (stream_of (number_of a) w) (λ z. z.frames ≡ (p.flow).done c) s g U.done in
      let net : (((x.cast).layout).network).is_source c ≡ true = sym U.source ∙ q in
      let few = (source_goes x.cast p w c a U work f J s g net).0 in
      let frames = U.file q in
      let long = ((C.lawful).sources c (source_below ((x.cast).layout).network c U.below ∙ net)).1 in
      let unit : (x.cast).unit l ≡ of = sym (output_unit x.cast p w c a U work f J l O) ∙ of_is in
      let place : bytes_given t s ≡ (p.flow).done c * of = U.file_unit q l O s.frames (omega arith) ∙ (λ i. done i * unit i) in
      let count : n * frame_bytes_of (file_format a.file) ≡ n * of = U.file_unit q l O n (omega arith) ∙ ap (λ (z : ℕ). n * z) unit in
      let room : ((p.flow).done c + n) * of ≤ (((x.cast).layout).network).frames c * of = mul-le-mul_right of few in
      let sum = add-mul ((p.flow).done c) n of in
      told_piece s.known ((p.flow).done c * of) (n * of) piece ((k.model).file c) (subst (λ (z : ℕ). IsTold s.known z (n * of) piece) place (subst (λ (z : ℕ). IsTold s.known (bytes_given t s) z piece) count T)) F (omega arith)

  abbrev st : (ℕ → List ℕ) → Streams
  st taken = record { taken = taken; flowing = flowing_in x.cast w }

  -- what an output gets
  pub made_is : (taken : ℕ → List ℕ) (l : ℕ) → IsOutput ((x.cast).layout).network c l → made_at t (incoming t n zs piece) ((x.cast).output_port l) ≡ ((k.model).part c).plain (model_piece (network_of x.cast) k.model p.flow (st taken) c n) ((k.model).output l)
  made_is taken l O =
      let P = model_piece (network_of x.cast) k.model p.flow (st taken) c n in
      let part = part_is in
      let D = (C.lawful).inputs c in
      let inputs : ((k.model).part c).inputs ≡ shape.inputs = ap (λ z. z.inputs) part in
      let output : (x.cast).output_port l - length t.inputs ≡ (k.model).output l =
      sym (C.outputs l O.below ∙ ((λ i. (x.cast).output_port l - ((k.model).part (O.given_by i)).inputs) ∙ (let m = inputs ∙ sym ports.input_count in ap (λ (z : ℕ). (x.cast).output_port l - z) m))) in
      let came : Incoming = record { input = P.input; file = P.file } in
      plain_same t (incoming t n zs piece) came ((x.cast).output_port l - length t.inputs)
      (λ i d.
      let low : i < ((k.model).part c).inputs = omega arith in
      let I = D i low in
      let j : ℕ = (k.model).input c i in
      let K : IsInput ((x.cast).layout).network c j = input_out ((x.cast).layout).network c j I.0 in
      let port = C.inputs c i low in
      let unit : (x.cast).unit j ≡ ((k.model).part c).input_frame = sym (C.units j K.below) ∙ I.1 in
      let same = sym (C.units j K.below) in
      let here = lt-ltb i ((k.model).part c).inputs low in
      ap (λ (z : ℕ). (incoming t n zs piece).input z) (sym port)
      ∙ (input_is x.cast p w c a U work f J s g j K
      ∙ ((λ τ. padded (n * unit τ) (take (frames_taken n ((p.flow).link j) * same τ) (flowing_in x.cast w j)))
      ∙ sym (ap (λ (z : Bool). if z then padded (n * ((k.model).part c).input_frame) (take (frames_taken n ((p.flow).link j) * (k.model).unit j) (flowing_in x.cast w j)) else []) here))))
      (λ q.
      let source = source_below ((x.cast).layout).network c U.below ∙ (sym U.source ∙ q) in
      file_is l O q ∙ sym (ap (λ (z : Bool). if z then take (n * of) (drop ((p.flow).done c * of) ((k.model).file c)) else []) source))
      ∙ (ap ((shape_of t).plain came) output ∙ sym (ap (λ z. z.plain P ((k.model).output l)) part))
