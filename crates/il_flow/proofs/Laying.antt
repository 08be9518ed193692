-- The layout of a part whose formats fit.
use Rattle.std.proofs.Common.{◌≡◌, ℕ, suc, zero, ◌-◌, ◌<◌, ◌≤◌, max, true, false, List, [], ◌∷◌, length, ap, sym, subst, ◌∙◌, arith}
use Rattle.std.specs.List.{AllByRecursion}
use Rattle.std.proofs.Math.ListN.{get_or, get_or-append}
use Rattle.std.proofs.Math.Seq.{get_or-append_right}
use Rattle.omx_types.specs.declared.format.Format.{Format}
use Rattle.omx_types.specs.declared.format.Format.TheVariants.{Pcm, Alaw, Mulaw, Auto}
use Rattle.omx_types.specs.Formats.{IsWithinLimits, channels_of, frame_bytes_of}
use Rattle.part_api.specs.Streams.{Shape}
use Rattle.part_api.specs.Terms.{Terms}
use Rattle.part_forms.specs.Shapes.{shape_of}
use Rattle.audio_parts.specs.Kinds.{MayBe}
use Rattle.audio_parts.specs.Shapes.{HasFramesOf, IsFrame, IsLawful}
use Rattle.il_flow.specs.declared.layout.Layout.{Layout}
use Rattle.il_flow.specs.Layouts.{IsLaidOut}

pub all_at : {A : Type 0} (P : A → Type 0) (xs : List A) (i : ℕ) (d : A) → AllByRecursion P xs → i < length xs → P (get_or xs i d)
all_at P [] i d h l = absurd (omega (arith, l))
all_at P (x ∷ xs) zero d h l = h.0
all_at P (x ∷ xs) (suc i) d h l = all_at P xs i d h.1 (omega (arith, l))

channels_within : (format : Format) → channels_of format ≤ frame_bytes_of format
channels_within (Pcm rate channels) = omega arith
channels_within (Alaw rate channels) = omega arith
channels_within (Mulaw rate channels) = omega arith
channels_within Auto = omega arith

some_frame : (format : Format) → IsWithinLimits format → 1 ≤ frame_bytes_of format
some_frame format h = let a = channels_within format in let b = h.some_channel in omega arith

-- of ports that have frames of so many bytes
pub record AreFrames (channels bytes : ℕ) (formats : List Format) : Type 0 where
  pub each : (port : ℕ) → port < length formats → frame_bytes_of (get_or formats port Auto) ≡ bytes
  pub some : 1 ≤ length formats → 1 ≤ bytes
  pub few : 1 ≤ length formats → channels ≤ bytes

frames_of : (P : Format → Type 0) (channels bytes : ℕ) (formats : List Format) → ((format : Format) → P format → IsWithinLimits format) → AllByRecursion P formats
    → AllByRecursion (IsFrame channels bytes) formats → AreFrames channels bytes formats
frames_of P channels bytes formats f may frames = record {
  each = λ port l. (all_at (IsFrame channels bytes) formats port Auto frames l).size;
  some = λ l. let frame = all_at (IsFrame channels bytes) formats 0 Auto frames (omega (arith, l)) in
      let limits = f (get_or formats 0 Auto) (all_at P formats 0 Auto may (omega (arith, l))) in
      let a = some_frame (get_or formats 0 Auto) limits in let b = frame.size in omega (arith, a, b);
  few = λ l. let frame = all_at (IsFrame channels bytes) formats 0 Auto frames (omega (arith, l)) in
      let a = channels_within (get_or formats 0 Auto) in let b = frame.size in let e = frame.samples in omega (arith, a, b, e);
}

by_max : (bytes most : ℕ) → most ≡ max bytes 1 → 1 ≤ bytes → bytes ≡ most
by_max bytes most e h = omega arith

laid : (t : Terms) (s : Shape) (l : Layout) → HasFramesOf t.inputs t.outputs s → AreFrames s.channels s.input_frame t.inputs → AreFrames s.channels s.output_frame t.outputs
    → l.inputs ≡ s.inputs → l.input_frame ≡ max s.input_frame 1 → l.output_frame ≡ max s.output_frame 1 → IsLaidOut l t s
laid t s l h i o n ei eo =
    let count = h.input_count in let outputs = h.output_count in
    record {
      terms = record {
        inputs = count ∙ sym n;
        input = λ port b.
            let b' : port < length t.inputs = omega (arith, b, n, count) in
            ap frame_bytes_of (get_or-append t.inputs t.outputs Auto port b') ∙ i.each port b' ∙ by_max s.input_frame l.input_frame ei (i.some (omega (arith, b')));
        output = λ port lower upper.
            let b : length t.inputs ≤ port = omega (arith, lower, n, count) in
            let b' : port - length t.inputs < length t.outputs = omega (arith, b, upper) in
            ap frame_bytes_of (get_or-append_right t.inputs t.outputs port Auto b) ∙ o.each (port - length t.inputs) b' ∙ by_max s.output_frame l.output_frame eo (o.some (omega (arith, b')));
      };
      inputs = sym n;
      outputs = sym outputs;
      input_frame = λ some. by_max s.input_frame l.input_frame ei (i.some (omega (arith, some, n, count)));
      output_frame = λ some. by_max s.output_frame l.output_frame eo (o.some (omega (arith, some, outputs)));
      few_in = λ some. let few = i.few (omega (arith, some, n, count)) in omega (arith, few, ei);
      few_out = λ some. let few = o.few (omega (arith, some, outputs)) in omega (arith, few, eo);
    }

pub laid_out : (t : Terms) (s : Shape) (l : Layout) → IsLawful t → HasFramesOf t.inputs t.outputs (shape_of t) → s ≡ shape_of t
    → l.inputs ≡ s.inputs → l.input_frame ≡ max s.input_frame 1 → l.output_frame ≡ max s.output_frame 1 → IsLaidOut l t s
laid_out t s l lawful frames e =
    let h : HasFramesOf t.inputs t.outputs s = subst (HasFramesOf t.inputs t.outputs) (sym e) frames in
    laid t s l h (frames_of (MayBe t.kind true) s.channels s.input_frame t.inputs (λ format m. m.limits) lawful.inputs h.input)
    (frames_of (MayBe t.kind false) s.channels s.output_frame t.outputs (λ format m. m.limits) lawful.outputs h.output)
