-- Packets that are put one after another are those of all samples.
use Rattle.std.proofs.Common.{◌≡◌, ℕ, zero, suc, ◌+◌, ◌-◌, ◌*◌, ◌/◌, ◌%◌, ◌<◌, ◌≤◌, min, List, [], ◌∷◌, ◌++◌, length, take, drop, map, refl, sym, ap, subst, ◌∙◌, arith, length-append, length-drop, Option, Some, ◌⊎◌, inl, inr}
use Rattle.std.proofs.lemmas.Bool.{cases_lt}
use Rattle.std.proofs.lemmas.List.{append_assoc, append-nil, drop-drop, drop-take, take-take, take_all, length-take}
use Rattle.std.proofs.lemmas.List.FromFn.{map-range_with_len_more}
use Rattle.std.specs.List.{range_with_len}
use Rattle.std.specs.Io.KnownBytes.{append_known}
use Rattle.std.proofs.lemmas.List.{take-append-le}
use Rattle.std.proofs.Math.Seq.{take-append-add}
use Rattle.outside_io.specs.Moves.{AppendsFront}
use Rattle.outside_io.proofs.Known.{append_known-twice}
use Rattle.wav_form.specs.Writing.{Puts}
use Rattle.byteorder.specs.Endian.{big_bytes}
use Rattle.omx_types.specs.declared.format.Format.{Format}
use Rattle.omx_types.specs.declared.format.Format.TheVariants.{Pcm, Alaw as AlawAt, Mulaw as MulawAt, Auto}
use Rattle.omx_types.specs.Formats.{frame_bytes_of}
use Rattle.g711_law.specs.declared.companding.Companding.{Companding}
use Rattle.rtp_parts.specs.Packets.{header, type_of_companding, companding_of_format}
use Rattle.rtp_parts.specs.Packing.{records_text, packet_at, texts_of, packet_count, packed, magic}

pub records_text-append : (xs ys : List (List ℕ)) → records_text (xs ++ ys) ≡ records_text xs ++ records_text ys
records_text-append [] ys = refl
records_text-append (p ∷ xs) ys =
    ap (λ (t : List ℕ). big_bytes 2 (length p) ++ p ++ t) (records_text-append xs ys)
    ∙ sym (append_assoc (big_bytes 2 (length p) ++ p) (records_text xs) (records_text ys))

-- one packet more
pub texts_more : (companding : Companding) (all : List ℕ) (first k : ℕ) → texts_of companding all first (k + 1) ≡ texts_of companding all first k ++ (big_bytes 2 (length (packet_at companding all (first + k))) ++ packet_at companding all (first + k))
texts_more companding all first k =
    let p = packet_at companding all (first + k) in
    ap records_text (map-range_with_len_more (packet_at companding all) first k (first + k) refl)
    ∙ records_text-append (map (packet_at companding all) (range_with_len first k)) (p ∷ [])
    ∙ ap (λ (t : List ℕ). texts_of companding all first k ++ t) (append-nil (big_bytes 2 (length p) ++ p))

pub texts_add : (companding : Companding) (all : List ℕ) (first n m : ℕ) → texts_of companding all first (n + m) ≡ texts_of companding all first n ++ texts_of companding all (first + n) m
texts_add companding all first zero m =
    ap (λ (q : ℕ). texts_of companding all first q) (let e : 0 + m ≡ m = omega arith in e)
    ∙ ap (λ (q : ℕ). texts_of companding all q m) (let e : first ≡ first + 0 = omega arith in e)
texts_add companding all first (suc n) m =
    let p = packet_at companding all first in
    ap (λ (q : ℕ). texts_of companding all first q) (let e : suc n + m ≡ suc (n + m) = omega arith in e)
    ∙ ap (λ (t : List ℕ). big_bytes 2 (length p) ++ p ++ t) (texts_add companding all (first + 1) n m)
    ∙ ap (λ (q : ℕ). big_bytes 2 (length p) ++ p ++ (texts_of companding all (first + 1) n ++ texts_of companding all q m)) (let e : first + 1 + n ≡ first + suc n = omega arith in e)
    ∙ sym (append_assoc (big_bytes 2 (length p) ++ p) (texts_of companding all (first + 1) n) (texts_of companding all (first + suc n) m))

pub record_length : (companding : Companding) (a b c n : ℕ) (piece : List ℕ) → length (big_bytes 2 n ++ (header companding a b c ++ piece)) ≡ length piece + 14
record_length companding a b c n piece = omega arith

pub packet_length : (companding : Companding) (a b c : ℕ) (piece : List ℕ) → length (header companding a b c ++ piece) ≡ length piece + 12
packet_length companding a b c piece = omega arith

-- the next piece of a slice is 160 samples, or those that are left
pub slice_piece : (s : List ℕ) (k from to : ℕ) → from ≡ 160 * k → to ≡ min (length s) (from + 160) → take (to - from) (drop from s) ≡ take 160 (drop (160 * k) s)
slice_piece s k from to starts ends =
    ap (λ (n : ℕ). take (to - from) (drop n s)) starts
    ∙ elim (cases_lt (length s) (160 * k + 160)) [
      | inl lt ↦
          take_all (to - from) (drop (160 * k) s) (omega (arith, length-drop (160 * k) s))
          ∙ sym (take_all 160 (drop (160 * k) s) (omega (arith, length-drop (160 * k) s)))
      | inr le ↦ ap (λ (n : ℕ). take n (drop (160 * k) s)) (let e : to - from ≡ 160 = omega arith in e)
    ]

-- a piece of a part of all samples is a piece of all samples
pub part_piece : (all part : List ℕ) (first k count : ℕ) → part ≡ take (160 * count) (drop (160 * first) all) → k < count → take 160 (drop (160 * k) part) ≡ take 160 (drop (160 * (first + k)) all)
part_piece all part first k count is below =
    let rest = drop (160 * first) all in
    let more = 160 * (count - k) in
    ap (λ (t : List ℕ). take 160 (drop (160 * k) t)) (is ∙ ap (λ (n : ℕ). take n rest) (let e : 160 * count ≡ 160 * k + more = omega arith in e))
    ∙ ap (take 160) (drop-take (160 * k) more rest)
    ∙ take-take 160 more (drop (160 * k) rest) (omega arith)
    ∙ ap (take 160) (drop-drop (160 * k) (160 * first) all ∙ ap (λ (n : ℕ). drop n all) (let e : 160 * first + 160 * k ≡ 160 * (first + k) = omega arith in e))

pub records_more : (companding : Companding) (all samples out new piece : List ℕ) (first k number at stop from to count : ℕ) → samples ≡ take (160 * count) (drop (160 * first) all) → k < count → number ≡ first + k → from ≡ 160 * k → to ≡ min (length samples) (from + 160) → take at out ≡ texts_of companding all first k → take stop new ≡ take at out ++ (big_bytes 2 (length (header companding (number % 65536) (160 * number) 1 ++ take (to - from) (drop from samples))) ++ (header companding (number % 65536) (160 * number) 1 ++ take (to - from) (drop from samples))) → take stop new ≡ texts_of companding all first (k + 1)
records_more companding all samples out new piece first k number at stop from to count part below numbered starts ends so_far put =
    let is : take (to - from) (drop from samples) ≡ take 160 (drop (160 * number) all) =
    slice_piece samples k from to starts ends ∙ part_piece all samples first k count part below
    ∙ ap (λ (n : ℕ). take 160 (drop (160 * n) all)) (sym numbered) in
    put
    ∙ ap (λ (t : List ℕ). take at out ++ (big_bytes 2 (length (header companding (number % 65536) (160 * number) 1 ++ t)) ++ (header companding (number % 65536) (160 * number) 1 ++ t))) is
    ∙ ap (λ (n : ℕ). take at out ++ (big_bytes 2 (length (packet_at companding all n)) ++ packet_at companding all n)) numbered
    ∙ ap (λ (t : List ℕ). t ++ (big_bytes 2 (length (packet_at companding all (first + k))) ++ packet_at companding all (first + k))) so_far
    ∙ sym (texts_more companding all first k)

-- a piece of the frames that are left, which is cut into whole packets or is all of them
pub frames_part : (bytes : List ℕ) (start frames done count : ℕ) → 160 * (done / 160) ≡ done → done ≤ frames → count ≤ frames - done → (160 * packet_count count ≡ count) ⊎ (count ≡ frames - done) → take count (drop (start + done) bytes) ≡ take (160 * packet_count count) (drop (160 * (done / 160)) (take frames (drop start bytes)))
frames_part bytes start frames done count whole below within which =
    let left = frames - done in
    let rest = drop (start + done) bytes in
    let dropped : drop (160 * (done / 160)) (take frames (drop start bytes)) ≡ take left rest =
    ap (λ (n : ℕ). drop n (take frames (drop start bytes))) whole
    ∙ ap (λ (n : ℕ). drop done (take n (drop start bytes))) (let e : frames ≡ done + left = omega arith in e)
    ∙ drop-take done left (drop start bytes) ∙ ap (take left) (drop-drop done start bytes) in
    elim which [
      | inl cut ↦
          sym (take-take count left rest within) ∙ ap (λ (n : ℕ). take n (take left rest)) (sym cut)
          ∙ ap (take (160 * packet_count count)) (sym dropped)
      | inr all ↦
          ap (λ (n : ℕ). take n rest) all
          ∙ sym (take_all (160 * packet_count count) (take left rest) (omega (arith, length-take left rest, all)))
          ∙ ap (take (160 * packet_count count)) (sym dropped)
    ]

-- a RTP format has one byte a frame
pub frame_byte : (format : Format) (companding : Companding) → companding_of_format format ≡ Some companding → frame_bytes_of format ≡ 1
frame_byte (Pcm rate channels) companding h = cc
frame_byte (AlawAt rate channels) companding h = grind arith
frame_byte (MulawAt rate channels) companding h = grind arith
frame_byte Auto companding h = cc

pub packed_is : (companding : Companding) (samples : List ℕ) → packed companding samples ≡ magic ++ texts_of companding samples 0 (packet_count (length samples))
unfolding packed
packed_is companding samples = refl

-- the fields of a record, by their values
pub record_put : {old new : List ℕ} {at stop : ℕ} (companding : Companding) (number type len : ℕ) (piece : List ℕ) → type ≡ type_of_companding companding → len ≡ length piece + 12 → Puts old new at stop (big_bytes 2 len ++ ((128 ∷ type ∷ []) ++ big_bytes 2 (number % 65536) ++ big_bytes 4 (160 * number) ++ big_bytes 4 1 ++ piece)) → Puts old new at stop (big_bytes 2 (length (header companding (number % 65536) (160 * number) 1 ++ piece)) ++ (header companding (number % 65536) (160 * number) 1 ++ piece))
record_put {old} {new} {at} {stop} companding number type len piece is_type is_len put =
    let long : len ≡ length (header companding (number % 65536) (160 * number) 1 ++ piece) = is_len ∙ sym (packet_length companding (number % 65536) (160 * number) 1 piece) in
    let rest : ℕ → List ℕ = λ t. (128 ∷ t ∷ []) ++ big_bytes 2 (number % 65536) ++ big_bytes 4 (160 * number) ++ big_bytes 4 1 ++ piece in
    subst (Puts old new at stop) (ap (λ (n : ℕ). big_bytes 2 n ++ rest type) long ∙ ap (λ (t : ℕ). big_bytes 2 (length (header companding (number % 65536) (160 * number) 1 ++ piece)) ++ rest t) is_type) put

-- a front of a text is a front of a longer one
pub front-first : (known new : Option (List ℕ)) (a b : List ℕ) → AppendsFront known new a → AppendsFront known new (a ++ b)
front-first known new a b (k, small, taken) =
    (k, omega (arith, small, length-append a b), taken ∙ ap (append_known known) (sym (take-append-le k a b small)))

-- a front of what follows a text
pub front-then : (known mid new : Option (List ℕ)) (a b : List ℕ) → mid ≡ append_known known a → AppendsFront mid new b → AppendsFront known new (a ++ b)
front-then known mid new a b is (k, small, taken) = (
  length a + k,
  omega (arith, small, length-append a b),
  taken ∙ ap (λ (m : Option (List ℕ)). append_known m (take k b)) is ∙ append_known-twice known a (take k b) ∙ ap (append_known known) (sym (take-append-add a b k)),
)

-- all of it was added
pub front-whole : (known new : Option (List ℕ)) (a : List ℕ) → new ≡ append_known known a → AppendsFront known new a
front-whole known new a is = (length a, omega arith, is ∙ ap (append_known known) (sym (take_all (length a) a (omega arith))))

texts_split : (companding : Companding) (all : List ℕ) (done count : ℕ) → 160 * (done / 160) ≡ done → texts_of companding all 0 (packet_count (done + count)) ≡ texts_of companding all 0 (packet_count done) ++ texts_of companding all (done / 160) (packet_count count)
texts_split companding all done count whole =
    ap (texts_of companding all 0) (let e : packet_count (done + count) ≡ done / 160 + packet_count count = omega (arith, whole) in e)
    ∙ texts_add companding all 0 (done / 160) (packet_count count)
    ∙ ap (λ (n : ℕ). texts_of companding all 0 n ++ texts_of companding all (0 + done / 160) (packet_count count)) (let e : done / 160 ≡ packet_count done = omega (arith, whole) in e)
    ∙ ap (λ (n : ℕ). texts_of companding all 0 (packet_count done) ++ texts_of companding all n (packet_count count)) (let e : 0 + done / 160 ≡ done / 160 = omega arith in e)

pub sent_more : (companding : Companding) (all : List ℕ) (known mid new : Option (List ℕ)) (done count : ℕ) → 160 * (done / 160) ≡ done → mid ≡ append_known known (texts_of companding all 0 (packet_count done)) → new ≡ append_known mid (texts_of companding all (done / 160) (packet_count count)) → new ≡ append_known known (texts_of companding all 0 (packet_count (done + count)))
sent_more companding all known mid new done count whole is taken =
    taken ∙ ap (λ (m : Option (List ℕ)). append_known m (texts_of companding all (done / 160) (packet_count count))) is
    ∙ append_known-twice known (texts_of companding all 0 (packet_count done)) (texts_of companding all (done / 160) (packet_count count))
    ∙ ap (append_known known) (sym (texts_split companding all done count whole))

-- a front of the packets of some frames is one of those of more frames
pub fewer_frames : (companding : Companding) (all : List ℕ) (known new : Option (List ℕ)) (some frames : ℕ) → some ≤ frames → AppendsFront known new (texts_of companding all 0 (packet_count some)) → AppendsFront known new (texts_of companding all 0 (packet_count frames))
fewer_frames companding all known new some frames le front =
    let rest = packet_count frames - packet_count some in
    let whole : packet_count frames ≡ packet_count some + rest = omega (arith, le) in
    subst (AppendsFront known new) (sym (ap (texts_of companding all 0) whole ∙ texts_add companding all 0 (packet_count some) rest))
    (front-first known new (texts_of companding all 0 (packet_count some)) (texts_of companding all (0 + packet_count some) rest) front)

pub sent_front : (companding : Companding) (all : List ℕ) (known mid new : Option (List ℕ)) (frames done count : ℕ) → 160 * (done / 160) ≡ done → done + count ≤ frames → mid ≡ append_known known (texts_of companding all 0 (packet_count done)) → AppendsFront mid new (texts_of companding all (done / 160) (packet_count count)) → AppendsFront known new (texts_of companding all 0 (packet_count frames))
sent_front companding all known mid new frames done count whole within is front =
    fewer_frames companding all known new (done + count) frames within
    (subst (AppendsFront known new) (sym (texts_split companding all done count whole))
    (front-then known mid new (texts_of companding all 0 (packet_count done)) (texts_of companding all (done / 160) (packet_count count)) is front))

-- where frames are left behind a piece, it was one of 20,480
pub cut_again : (done frames count : ℕ) → 160 * (done / 160) ≡ done → count ≡ min (frames - done) 20480 → done + count < frames → 160 * ((done + count) / 160) ≡ done + count
cut_again done frames count whole is more = omega (arith, whole, is, more)

pub whole_or_all : (done frames count : ℕ) → count ≡ min (frames - done) 20480 → (160 * packet_count count ≡ count) ⊎ (count ≡ frames - done)
whole_or_all done frames count is =
    elim (cases_lt (frames - done) 20480) [
      | inl lt ↦ inr (omega (arith, is))
      | inr le ↦ inl (let e : count ≡ 20480 = omega (arith, is) in ap (λ (n : ℕ). 160 * packet_count n) e ∙ sym e)
    ]

-- the samples of a piece, read at their place, by the length of the slice that they fill
pub part_read : (bytes : List ℕ) (start frames done count place len : ℕ) → 160 * (done / 160) ≡ done → done < frames → count ≡ min (frames - done) 20480 → place ≡ start + done → len ≡ count → take len (drop place bytes) ≡ take (160 * packet_count len) (drop (160 * (done / 160)) (take frames (drop start bytes)))
part_read bytes start frames done count place len whole below is at long =
    ap (λ (n : ℕ). take n (drop place bytes)) long ∙ ap (λ (n : ℕ). take count (drop n bytes)) at
    ∙ frames_part bytes start frames done count whole (omega arith) (omega (arith, is)) (whole_or_all done frames count is)
    ∙ ap (λ (n : ℕ). take (160 * packet_count n) (drop (160 * (done / 160)) (take frames (drop start bytes)))) (sym long)
