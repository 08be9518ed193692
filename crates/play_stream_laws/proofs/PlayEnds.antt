-- In a play with late sources the file of each sink has taken a front of its text of the plain functions; once the second Idle is begun,
-- all of it.
use Rattle.std.proofs.Common.{◌≡◌, inl, inr, ℕ, ◌+◌, ◌-◌, ◌*◌, ◌<◌, ◌≤◌, true, false, not, nat_le, nat_lt, List, ◌++◌, length, get_or, slice_get, Some, option_map, refl, sym, ◌∙◌, ap, append_assoc, length-append, add-mul, ltb-true, leb-true, leb-false, arith}
use Rattle.std.proofs.lemmas.List.{length-map, length-take-le, take-append-drop}
use Rattle.std.proofs.lemmas.Option.{get_or_from_slice_get, slice_get-map}
use Rattle.omx_types.specs.declared.format.Format.{Format}
use Rattle.omx_types.specs.declared.format.Format.TheVariants.{Auto}
use Rattle.omx_types.specs.Formats.{frame_bytes_of, is_auto}
use Rattle.il_machine.specs.declared.port.Port.{Port}
use Rattle.il_machine.specs.declared.port.PortSetting.{PortSetting}
use Rattle.il_machine.specs.Kinds.{inputs_of, is_input}
use Rattle.il_machine.specs.Parts.{terms_of}
use Rattle.il_machine.specs.Ports.{is_input_port}
use Rattle.il_machine.specs.Settings.{formats_of}
use Rattle.il_machine.specs.Stepping.{format_at}
use Rattle.il_machine.specs.World.{Component, World, number_of, port_of, stream_of}
use Rattle.machine_laws.proofs.Finding.{either}
use Rattle.machine_laws.proofs.Keys.{at_there}
use Rattle.machine_laws.proofs.Lookups.{port_parts}
use Rattle.machine_laws.proofs.Parts.{parts_of}
use Rattle.machine_laws.proofs.Tunnels.{definition_parts}
use Rattle.play_model.specs.Network.{IsInput, frames_in, queue}
use Rattle.play_model.specs.Account.{IsSound}
use Rattle.play_model.specs.Content.{ArePlain, IsFrontOf as IsModelFront, IsStream, Streams}
use Rattle.play_model.proofs.Fronts.{fronts}
use Rattle.play_model.proofs.Measure.{within}
use Rattle.play_model.specs.Play.{Play}
use Rattle.play_world_laws.specs.Cast.{components_of, giver_of, links_of, script_place, taker_of}
use Rattle.play_world_laws.proofs.Wanted.{end_place}
use Rattle.play_stream_laws.specs.Flowing.{flowing_in}
use Rattle.play_stream_laws.specs.Contents.{PlayContents, network_of}
use Rattle.play_stream_laws.specs.Streams.{EachSink, sunk_of}
use Rattle.play_stream_laws.specs.Fronts.{AreFronts, AreWritten, whole_text}
use Rattle.play_stream_laws.proofs.Ends.{Begins, begins_all, front_of, same_direction, sunk_begins}
use Rattle.play_stream_laws.proofs.Sinking.{sink_kind}
use Rattle.play_world_laws.specs.Changing.{is_set}
use Rattle.play_world_laws.specs.PlayWorlds.{IsActorAt, IsPlayWorld, PlayCast}
use Rattle.play_world_laws.proofs.ChangeEnds.{HasEnd, end_there}
use Rattle.play_stream_laws.specs.PlayContents.{HasPlayContents}
use Rattle.play_stream_laws.specs.PlayStreams.{HasPlayStreams}
use Rattle.play_stream_laws.proofs.Beginning.{net_is, sound_is}
use Rattle.play_stream_laws.proofs.Planned.{input_planned}

-- ---- a sink

module _ (x : PlayCast) (recent : ℕ) (p : Play) (w : World) (W : IsPlayWorld x recent p w) (l : ℕ) (d : l < links_of x.cast) (a : Component) (e : slice_get w.components (script_place x.cast (taker_of x.cast l)) ≡ Some a) where
  abbrev c : ℕ
  c = taker_of x.cast l

  inside : c < components_of x.cast
  inside = (((W.cast_is).layout).network).inside l d

  A : IsActorAt x recent p w c a
  A = W.actors c a inside e

  own : IsInput ((x.cast).layout).network c l
  own = record { below = d; taken_by = refl }

  its : (k : ℕ) → IsInput ((x.cast).layout).network c k → HasEnd x p k false a
  its k K = end_there x recent p w W false k c a K.below K.taken_by e

  direction_is : (i : ℕ) (q : Port) → port_of a i ≡ Some q → is_input_port q ≡ nat_lt i (inputs_of a.settings.kind)
  direction_is i q g =
      let S = (parts_of w W.sound).components (script_place x.cast c) a e in
      let L = S.settings i q.setting (port_parts a i q g).setting in
      same_direction q.setting.definition.input (is_input a.settings.kind i) (definition_parts (is_input a.settings.kind i) q.setting.definition L.0).direction

  format_is : (i : ℕ) (q : Port) → port_of a i ≡ Some q → format_at (terms_of a) i ≡ q.setting.definition.format
  format_is i q g =
      let fs : List Format = formats_of a.settings.ports in
      let s : slice_get fs i ≡ Some q.setting.definition.format = slice_get-map (λ (z : PortSetting). z.definition.format) a.settings.ports i ∙ ap (option_map (λ (z : PortSetting). z.definition.format)) (port_parts a i q g).setting in
      ap (λ (m : List Format). get_or m i Auto) (take-append-drop (inputs_of a.settings.kind) fs) ∙ get_or_from_slice_get fs i q.setting.definition.format Auto s

  inputs_many : length (terms_of a).inputs ≡ inputs_of a.settings.kind
  inputs_many =
      let S = (parts_of w W.sound).components (script_place x.cast c) a e in
      let n = length-map a.settings.ports (λ (z : PortSetting). z.definition.format) in
      let m = (S.whole).ports in
      length-take-le (inputs_of a.settings.kind) (formats_of a.settings.ports) (omega arith)

  module _ (sink : ((x.cast).layout).is_sink c ≡ true) where
    port_low : (k : ℕ) → IsInput ((x.cast).layout).network c k → (x.cast).input_port k < inputs_of a.settings.kind
    port_low k K =
        let H = its k K in
        ltb-true ((x.cast).input_port k) (inputs_of a.settings.kind) (sym (direction_is ((x.cast).input_port k) H.port H.there) ∙ (H.end).direction)

    port_zero : (k : ℕ) → IsInput ((x.cast).layout).network c k → (x.cast).input_port k ≡ 0
    port_zero k K =
        let one = (sink_kind a.settings.kind (A.sink ∙ sink)).1 in
        let low = port_low k K in
        omega arith

    only_input : (k : ℕ) → IsInput ((x.cast).layout).network c k → k ≡ l
    only_input k K =
        let o = end_place true x.cast c k K ∙ sym (end_place true x.cast c l own) in
        let v = port_zero k K ∙ sym (port_zero l own) in
        (W.cast_is).inputs k l K.below d (λ i. record { component = o i; port = v i })

    -- the format of its link, also before it is set
    pub sink_unit : (k : PlayContents) → HasPlayContents x k w → frame_bytes_of (format_at (k.terms c) 0) ≡ (x.cast).unit l
    sink_unit k C =
        let at : format_at (k.terms c) 0 ≡ format_at (k.terms c) ((x.cast).input_port l) = ap (format_at (k.terms c)) (sym (port_zero l own)) in
        either (((x.cast).layout).is_late l)
        (λ t. ap frame_bytes_of (at ∙ C.late_input l d t) ∙ (W.formats l d t).0)
        (λ t.
        let H = its l own in
        let set : is_set (x.cast).layout p false l ≡ true = rw t refl in
        let format = format_is ((x.cast).input_port l) H.port H.there in
        let known : is_auto (format_at (terms_of a) ((x.cast).input_port l)) ≡ false = ap is_auto format ∙ ((H.end).known ∙ ap not set) in
        let low = port_low l own in
        let many = inputs_many in
        let same = input_planned (terms_of a) (k.terms c) (C.terms c a inside e) ((x.cast).input_port l) (omega arith) known in
        ap frame_bytes_of (at ∙ (same ∙ format)) ∙ (H.end).unit set)

    -- it does as many frames as its link's giver
    pub sink_frames : (((x.cast).layout).network).frames (giver_of x.cast l) ≡ (((x.cast).layout).network).frames c
    sink_frames =
        let N = ((W.cast_is).layout).network in
        let r = N.longest c inside (N.unfed l d) in
        ap (λ (j : ℕ). (((x.cast).layout).network).frames (giver_of x.cast j)) (sym (only_input r.0 r.1)) ∙ r.2

    -- and has done those that its input has taken
    sink_taken : p.phase ≤ 2 → ((p.flow).link l).taken ≡ (p.flow).done c
    sink_taken early =
        let r = (((W.reached).sound early).components c inside).longest (((W.cast_is).layout).network.unfed l d) in
        ap (λ (j : ℕ). ((p.flow).link j).taken) (sym (only_input r.0 r.1)) ∙ r.2

  module _ (k : PlayContents) (H : HasPlayStreams x k p w) (stream : ℕ → List ℕ) (Q : ArePlain (network_of x.cast) k.model stream) (sink : ((x.cast).layout).is_sink c ≡ true) (early : p.phase ≤ 2) where
    abbrev st : Streams
    st = record { taken = H.taken; flowing = flowing_in x.cast w }

    pub F : IsModelFront (H.taken l ++ flowing_in x.cast w l) (stream l) (((((x.cast).layout).network).frames (giver_of x.cast l) - (p.flow).done (giver_of x.cast l)) * (k.model).unit l)
    F = fronts (network_of x.cast) k.model p.flow st stream (net_is x k recent p w W) (H.contents).lawful (sound_is x k recent p w W early) (H.flowing early) Q l d

    pub taken_begins : H.taken l ++ (flowing_in x.cast w l ++ F.rest) ≡ stream l
    taken_begins = sym (append_assoc (H.taken l) (flowing_in x.cast w l) F.rest) ∙ F.is

    pub taken_long : length (H.taken l) ≡ (p.flow).done c * frame_bytes_of (format_at (k.terms c) 0)
    taken_long =
        let S : IsStream (network_of x.cast) k.model p.flow st l = H.flowing early l d in
        let u = (H.contents).units l d in
        let b = sink_unit sink k H.contents in
        let t = sink_taken sink early in
        S.taken ∙ (λ i. t i * (u ∙ sym b) i)

    pub stream_long : length (stream l) ≡ (((x.cast).layout).network).frames c * frame_bytes_of (format_at (k.terms c) 0)
    stream_long =
        let S : IsStream (network_of x.cast) k.model p.flow st l = H.flowing early l d in
        let N = ((x.cast).layout).network in
        let sound : IsSound N p.flow = (W.reached).sound early in
        let u = (H.contents).units l d in
        let g : ℕ = giver_of x.cast l in
        let order = (((W.cast_is).layout).network).order l d in
        let few = within N p.flow ((W.cast_is).layout).network sound g (omega arith) in
        let balance = (sound.links l d).balance in
        let y = (p.flow).link l in
        let one = length-append (H.taken l ++ flowing_in x.cast w l) F.rest in
        let two = length-append (H.taken l) (flowing_in x.cast w l) in
        let all : (y.taken + frames_in (queue y)) + (N.frames g - (p.flow).done g) ≡ N.frames g = omega arith in
        let sum : length (stream l) ≡ ((y.taken + frames_in (queue y)) + (N.frames g - (p.flow).done g)) * (k.model).unit l =
        ap length (sym F.is) ∙ (one ∙ ((λ i. (two ∙ ((λ j. S.taken j + S.flowing j) ∙ sym (add-mul y.taken (frames_in (queue y)) ((k.model).unit l)))) i + F.size i) ∙ sym (add-mul (y.taken + frames_in (queue y)) (N.frames g - (p.flow).done g) ((k.model).unit l)))) in
        let b = sink_unit sink k H.contents in
        let m = sink_frames sink in
        sum ∙ (ap (λ (j : ℕ). j * (k.model).unit l) all ∙ (λ i. m i * (u ∙ sym b) i))

-- ---- all sinks

module _ (x : PlayCast) (k : PlayContents) (recent : ℕ) (p : Play) (w : World) (W : IsPlayWorld x recent p w) (H : HasPlayStreams x k p w) (stream : ℕ → List ℕ) (Q : ArePlain (network_of x.cast) k.model stream) where
  pub written_whole : 3 ≤ p.phase → AreWritten x.cast k w stream
  written_whole late l a s d sink e g =
      let c : ℕ = taker_of x.cast l in
      let I = (((W.cast_is).layout).network).inside l d in
      let A = W.actors c a I e in
      let done = at_there (stream_of (number_of a) w) (λ z. z.frames ≡ (p.flow).done c) s g A.done in
      let all = done ∙ H.done late c I in
      let whole = H.whole late stream Q l d in
      elim (H.sinks l a s d sink e g) [
        | inl h ↦ h ∙ (λ i. sunk_of (k.terms c) (all i) (whole i))
        | inr h ↦ let o = (W.reached).ended late c I in let r = h.2 in absurd cc
      ]

  pub written_begins : EachSink x.cast w (λ l a s. Begins s.written (whole_text x.cast k l (stream l)))
  written_begins l a s d sink e g = either (nat_le p.phase 2)
      (λ t.
      let early = leb-true p.phase 2 t in
      let c : ℕ = taker_of x.cast l in
      let I = (((W.cast_is).layout).network).inside l d in
      let A = W.actors c a I e in
      let done = at_there (stream_of (number_of a) w) (λ z. z.frames ≡ (p.flow).done c) s g A.done in
      let is = taken_begins x recent p w W l d a e k H stream Q sink early in
      let few = within ((x.cast).layout).network p.flow ((W.cast_is).layout).network ((W.reached).sound early) c I in
      elim (H.sinks l a s d sink e g) [
        | inl h ↦
            let B = sunk_begins (k.terms c).file (format_at (k.terms c) 0) s.frames ((((x.cast).layout).network).frames c) (H.taken l) _ (omega arith)
            (taken_long x recent p w W l d a e k H stream Q sink early ∙ ap (λ (j : ℕ). j * frame_bytes_of (format_at (k.terms c) 0)) (sym done))
            (ap length is ∙ stream_long x recent p w W l d a e k H stream Q sink early) in
            (B.0, ap (λ (z : List ℕ). z ++ B.0) h ∙ (B.1 ∙ ap (sunk_of (k.terms c) ((((x.cast).layout).network).frames c)) is))
        | inr h ↦ (whole_text x.cast k l (stream l), ap (λ (z : List ℕ). z ++ whole_text x.cast k l (stream l)) h.0)
      ])
      (λ t. let late = leb-false p.phase 2 t in begins_all s.written (whole_text x.cast k l (stream l)) (written_whole (omega arith) l a s d sink e g))

  pub written_fronts : AreFronts x.cast k w stream
  written_fronts l a s d sink e g = front_of s.written (whole_text x.cast k l (stream l)) (written_begins l a s d sink e g)
