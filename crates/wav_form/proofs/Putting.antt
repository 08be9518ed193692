-- Bytes that are put one after the other.
use Rattle.std.proofs.Common.{◌≡◌, ℕ, ◌+◌, ◌-◌, ◌*◌, ◌≤◌, List, ◌++◌, length, take, drop, refl, sym, ap, ◌∙◌, subst, codes, true, false, arith, length-append}
use Rattle.std.proofs.lemmas.List.{append_assoc, drop-drop}
use Rattle.std.proofs.lemmas.Slice.{take-put_mid, drop-put_mid}
use borrow.Rule.Slice.PartMut.{put_mid}
use Rattle.byteorder.specs.Endian.{little_bytes}
use Rattle.omx_types.specs.declared.format.Format.{Format}
use Rattle.omx_types.specs.Formats.{rate_of, channels_of, frame_bytes_of}
use Rattle.omx_types.specs.Formats.{is_pcm}
use Rattle.part_forms.specs.Writing.{tag_of, bits_of, fields_of, format_chunk}
use Rattle.wav_form.specs.Writing.{Puts}

pub Puts-piece : (old piece bytes : List ℕ) (at : ℕ) → at + length bytes ≤ length old → piece ≡ bytes → Puts old (put_mid at (at + length bytes - at) old piece) at (at + length bytes) bytes
Puts-piece old piece bytes at room is =
    let long : length piece ≡ length bytes = ap length is in
    record {
      stops = refl;
      front = take-put_mid at (at + length bytes - at) old piece (at + length bytes) (omega arith) (omega arith) ∙ ap (λ (p : List ℕ). take at old ++ p) is;
      rest = drop-put_mid at (at + length bytes - at) old piece (at + length bytes) (omega arith) (omega arith) (omega arith);
    }

infixl 20 ◌then◌
pub ◌then◌ : {a b c xs ys : List ℕ} {at mid stop : ℕ} → Puts a b at mid xs → Puts b c mid stop ys → Puts a c at stop (xs ++ ys)
◌then◌ {a} {b} {c} {xs} {ys} {at} {mid} {stop} one more = record {
  stops = omega (arith, one.stops, more.stops, length-append xs ys);
  front = more.front ∙ ap (λ (front : List ℕ). front ++ ys) one.front ∙ append_assoc (take at a) xs ys;
  rest = more.rest ∙ ap (λ (k : ℕ). drop k b) more.stops ∙ sym (drop-drop (length ys) mid b) ∙ ap (drop (length ys)) one.rest ∙ drop-drop (length ys) mid a ∙ ap (λ (k : ℕ). drop k a) (sym more.stops);
}

-- the fields of a format chunk, by their values
pub fields_put : {old new : List ℕ} {at stop : ℕ} (format : Format) (tag channels rate speed frame bits : ℕ) → tag ≡ tag_of format → channels ≡ channels_of format → rate ≡ rate_of format → speed ≡ rate_of format * frame_bytes_of format → frame ≡ frame_bytes_of format → bits ≡ bits_of format → Puts old new at stop (little_bytes 2 tag ++ little_bytes 2 channels ++ little_bytes 4 rate ++ little_bytes 4 speed ++ little_bytes 2 frame ++ little_bytes 2 bits) → Puts old new at stop (fields_of format)
fields_put {old} {new} {at} {stop} format tag channels rate speed frame bits is_tag is_channels is_rate is_speed is_frame is_bits put =
    let same : little_bytes 2 tag ++ little_bytes 2 channels ++ little_bytes 4 rate ++ little_bytes 4 speed ++ little_bytes 2 frame ++ little_bytes 2 bits ≡ fields_of format =
    rw (is_tag, is_channels, is_rate, is_speed, is_frame, is_bits) refl in
    subst (Puts old new at stop) same put

pub format_chunk-pcm : (format : Format) → is_pcm format ≡ true → codes "fmt " ++ little_bytes 4 16 ++ fields_of format ≡ format_chunk format
format_chunk-pcm format pcm = rw pcm refl

pub format_chunk-law : (format : Format) → is_pcm format ≡ false → codes "fmt " ++ little_bytes 4 18 ++ fields_of format ++ little_bytes 2 0 ≡ format_chunk format
format_chunk-law format law = rw law refl
