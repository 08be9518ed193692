-- A file comes to a component; and what went through a component changes.
use Rattle.std.proofs.Common.{◌≡◌, ℕ, true, false, not, ◌||◌, is_some, Option, None, List, [], ◌∷◌, map, cond, slice_get, Some, refl, ◌∙◌, arith}
use Rattle.omx_types.specs.declared.kind.Kind.{Kind}
use Rattle.omx_types.specs.declared.kind.Kind.TheVariants as kinds
use Rattle.omx_types.specs.declared.format.Format.{Format}
use Rattle.il_machine.specs.World.{Component, Stream, World, number_of, is_stream_of, with_component, with_stream}
use Rattle.il_machine.specs.States.{is_invalid}
use Rattle.il_machine.specs.Kinds.{is_source, is_sink}
use Rattle.il_machine.specs.Parameters.{is_too_large}
use Rattle.il_machine.specs.Files.{Offered, OfferedFrom, OfferedTo, is_for_kind, is_wrong_format, is_bad_file, file_port_format, attach_refusal, attached, stream_with, with_file}
use Rattle.il_machine.specs.Sound.{Sound, IsSound, may_have}
use Rattle.machine_laws.proofs.Finding.{either}
use Rattle.machine_laws.proofs.Units.{Resources, IsAside, resources_of}
use Rattle.machine_laws.proofs.Parts.{parts_of, sound_from}
use Rattle.machine_laws.proofs.Change.{sound_component, aside_there}
use Rattle.machine_laws.proofs.Accepting.{passed, not_either, not_not}
use Rattle.machine_laws.proofs.Rooms.{costs, costs_same, sound_with}

-- ---- streams

-- the stream of one component is changed, and stays its own
pub streams_same : (k : ℕ) (change : Stream → Stream) (ss : List Stream) → ((s : Stream) → (change s).component ≡ s.component)
    → map (λ s. s.component) (map (λ s. cond (is_stream_of k s) (change s) s) ss) ≡ map (λ s. s.component) ss
streams_same k change [] h = refl
streams_same k change (s ∷ ss) h =
    let i = streams_same k change ss h in
    either (is_stream_of k s) (λ t. let c = h s in rw t cc) (λ f. rw f cc)

pub resources_streamed : (cs : List Component) (ss : List Stream) (waits units k : ℕ) (change : Stream → Stream) → ((s : Stream) → (change s).component ≡ s.component) → Resources cs ss waits units
    → Resources cs (map (λ s. cond (is_stream_of k s) (change s) s) ss) waits units
resources_streamed cs ss waits units k change h R = record { each = R.each; enough = R.enough; apart = R.apart; streams = streams_same k change ss h ∙ R.streams }

pub sound_streamed : (w : World) (k : ℕ) (change : Stream → Stream) → ((s : Stream) → (change s).component ≡ s.component) → Sound w → Sound (with_stream k change w)
sound_streamed w k change h S = sound_from (with_stream k change w) (parts_of w S) (resources_streamed w.components w.streams w.waits w.units k change h (resources_of w S))

-- ---- a file comes

source_has : (kind : Kind) (format : Format) (frames there : ℕ) (known : Option (List ℕ)) → is_for_kind kind (OfferedFrom format frames there known) ≡ true → is_source kind ≡ true
source_has kinds.Source format frames there known h = refl
source_has kinds.Late format frames there known h = refl
source_has kinds.Sink format frames there known h = absurd cc
source_has kinds.Decoder format frames there known h = absurd cc
source_has kinds.Alaw format frames there known h = absurd cc
source_has kinds.Mulaw format frames there known h = absurd cc
source_has kinds.Gain format frames there known h = absurd cc
source_has (kinds.Mixer n) format frames there known h = absurd cc
source_has (kinds.Splitter n) format frames there known h = absurd cc

sink_has : (kind : Kind) (frames : ℕ) (known : Option (List ℕ)) → is_for_kind kind (OfferedTo frames known) ≡ true → is_sink kind ≡ true
sink_has kinds.Sink frames known h = refl
sink_has kinds.Source frames known h = absurd cc
sink_has kinds.Late frames known h = absurd cc
sink_has kinds.Decoder frames known h = absurd cc
sink_has kinds.Alaw frames known h = absurd cc
sink_has kinds.Mulaw frames known h = absurd cc
sink_has kinds.Gain frames known h = absurd cc
sink_has (kinds.Mixer n) frames known h = absurd cc
sink_has (kinds.Splitter n) frames known h = absurd cc

-- a file that isn't refused is one that the kind may have
may_come : (kind : Kind) (port : Format) (file : Offered) → is_for_kind kind file ≡ true → is_bad_file kind port file ≡ false → may_have kind port (attached file) ≡ true
may_come kind port (OfferedFrom format frames there known) h b =
    let x = not_either (is_wrong_format kind port format) _ b in
    let y = not_either (is_too_large frames format) _ x.1 in
    rw (source_has kind format frames there known h, x.0, y.0) refl
may_come kind port (OfferedTo frames known) h b = rw (sink_has kind frames known h, b) refl

file_passes : (c : Component) (file : Offered) → attach_refusal c file ≡ None → may_have c.settings.kind (file_port_format c) (attached file) ≡ true
file_passes c file h =
    let kind = c.settings.kind in
    let a = passed (is_invalid c.state) _ _ h in
    let b = passed (not (is_for_kind kind file) || (is_some c.file || (is_bad_file kind (file_port_format c) file || false))) _ _ a.1 in
    let d = not_either (not (is_for_kind kind file)) _ b.0 in
    let e = not_either (is_some c.file) _ d.1 in
    let f = not_either (is_bad_file kind (file_port_format c) file) _ e.1 in
    may_come kind (file_port_format c) file (not_not (is_for_kind kind file) d.0) f.0

sound_filed : (c : Component) (file : Offered) → IsSound c → attach_refusal c file ≡ None → IsSound (record c { file = Some (attached file) })
sound_filed c file S h =
    let d : Component = record c { file = Some (attached file) } in
    let k : costs d ≡ costs c = costs_same c d c.commands refl in
    sound_with d (record { whole = S.whole; ports = S.ports; settings = S.settings; fit = S.fit; file = λ x e. let s : attached file ≡ x = cc in rw (← s) (file_passes c file h); cause = S.cause; mark = S.mark; commands = S.commands }) (omega (arith, S.room))

pub aside_filed : (c : Component) (file : Offered) → IsAside c (record c { file = Some (attached file) })
aside_filed c file = record { keeps = record { kind = refl; weights = refl; count = refl; work = refl }; state = refl; pending = refl; holds = refl; waiting = refl; part = refl; held = λ test h. h }

pub sound_attached : (w : World) (i : ℕ) (c : Component) (file : Offered) → Sound w → slice_get w.components i ≡ Some c → attach_refusal c file ≡ None → Sound (with_file i c file w)
sound_attached w i c file S t h =
    let d : Component = record c { file = Some (attached file) } in
    sound_streamed (with_component i d w) (number_of c) (stream_with file) (λ s. refl)
    (sound_component w i c d S t (record { handle = refl; ports = refl; links = refl; notes = refl }) (sound_filed c file ((parts_of w S).components i c t) h) (aside_there w i c d S t (aside_filed c file)))
