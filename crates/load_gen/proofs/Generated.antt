-- Samples that are made in pieces.
use Rattle.std.proofs.Common.{◌≡◌, ℕ, zero, suc, ◌+◌, ◌-◌, ◌*◌, ◌/◌, ◌%◌, ◌^◌, ◌<◌, ◌≤◌, List, [], ◌∷◌, ◌++◌, length, take, drop, set, Option, Result, Ok, Err, OnOk, refl, sym, ap, ◌∙◌, subst, arith, length-append}
use Rattle.std.proofs.lemmas.List.{append_assoc, append-nil, length-set, take_more_set, take_all, take-append-le, take_at, length-take, length-drop}
use Rattle.std.proofs.Math.Seq.{take-append-add}
use Rattle.std.specs.Io.KnownBytes.{append_known}
use Rattle.byteorder.specs.Endian.{little_bytes}
use Rattle.outside_io.specs.Moves.{AppendsFront}
use Rattle.outside_io.proofs.Known.{append_known-twice}
use Rattle.part_forms.specs.Writing.{head_of}
use Rattle.load_gen.specs.Samples.{next, after, samples, format, wav_from}

pub length-samples : (frames x : ℕ) → length (samples frames x) ≡ 2 * frames
length-samples zero x = refl
length-samples (suc frames) x = (let rest = length-samples frames (next x) in omega arith)

pub after-add : (n m x : ℕ) → after (n + m) x ≡ after m (after n x)
after-add zero m x = ap (λ (k : ℕ). after k x) (let e : 0 + m ≡ m = omega arith in e)
after-add (suc n) m x = ap (λ (k : ℕ). after k x) (let e : suc n + m ≡ suc (n + m) = omega arith in e) ∙ after-add n m (next x)

pub samples-add : (n m x : ℕ) → samples (n + m) x ≡ samples n x ++ samples m (after n x)
samples-add zero m x = ap (λ (k : ℕ). samples k x) (let e : 0 + m ≡ m = omega arith in e)
samples-add (suc n) m x =
    ap (λ (k : ℕ). samples k x) (let e : suc n + m ≡ suc (n + m) = omega arith in e)
    ∙ ap (λ (rest : List ℕ). little_bytes 2 (next x / 2 ^ 48) ++ rest) (samples-add n m (next x))

-- one more
pub after_more : (n x : ℕ) → after (n + 1) x ≡ next (after n x)
after_more n x = after-add n 1 x

pub samples_more : (n x : ℕ) → samples (n + 1) x ≡ samples n x ++ little_bytes 2 (next (after n x) / 2 ^ 48)
samples_more n x = samples-add n 1 x

-- two more bytes at the front of a buffer
pub take-two : (buf : List ℕ) (i x y : ℕ) → 2 * i + 1 < length buf → take (2 * (i + 1)) (set (set buf (2 * i) x) (2 * i + 1) y) ≡ take (2 * i) buf ++ x ∷ y ∷ []
take-two buf i x y within =
    let even : 2 * (i + 1) ≡ 2 * i + 1 + 1 = omega arith in
    let room : 2 * i + 1 < length (set buf (2 * i) x) = omega (arith, length-set buf (2 * i) x) in
    let first : 2 * i < length buf = omega arith in
    ap (λ (k : ℕ). take k (set (set buf (2 * i) x) (2 * i + 1) y)) even
    ∙ take_more_set (set buf (2 * i) x) (2 * i + 1) y room
    ∙ ap (λ (front : List ℕ). front ++ y ∷ []) (take_more_set buf (2 * i) x first)
    ∙ append_assoc (take (2 * i) buf) (x ∷ []) (y ∷ [])

pub filled-more : (buf : List ℕ) (i x number low high : ℕ) → 2 * i + 1 < length buf → take (2 * i) buf ≡ samples i x → number ≡ next (after i x) → low ∷ high ∷ [] ≡ little_bytes 2 (number / 2 ^ 48) → take (2 * (i + 1)) (set (set buf (2 * i) low) (2 * i + 1) high) ≡ samples (i + 1) x
filled-more buf i x number low high within filled moved bytes =
    take-two buf i low high within
    ∙ ap (λ (front : List ℕ). front ++ low ∷ high ∷ []) filled
    ∙ ap (λ (pair : List ℕ). samples i x ++ pair) (bytes ∙ ap (λ (n : ℕ). little_bytes 2 (n / 2 ^ 48)) moved)
    ∙ sym (samples_more i x)

pub filled_all : (buf : List ℕ) (i x : ℕ) → length buf ≤ 2 * i → take (2 * i) buf ≡ samples i x → buf ≡ samples i x
filled_all buf i x all is = sym (take_all (2 * i) buf all) ∙ is

-- a piece was written behind those before it
pub written-more : (known mid new : Option (List ℕ)) (done count x : ℕ) → mid ≡ append_known known (samples done x) → new ≡ append_known mid (samples count (after done x)) → new ≡ append_known known (samples (done + count) x)
written-more known mid new done count x is taken =
    taken ∙ ap (λ (m : Option (List ℕ)). append_known m (samples count (after done x))) is
    ∙ append_known-twice known (samples done x) (samples count (after done x))
    ∙ ap (append_known known) (sym (samples-add done count x))

-- a front of a piece was written
pub written-front : (known mid new : Option (List ℕ)) (frames done count x : ℕ) → done + count ≤ frames → mid ≡ append_known known (samples done x) → AppendsFront mid new (samples count (after done x)) → AppendsFront known new (samples frames x)
written-front known mid new frames done count x within is (k, small, taken) =
    let rest = frames - (done + count) in
    let split : frames ≡ done + (count + rest) = omega arith in
    let piece = samples count (after done x) in
    let more = samples rest (after count (after done x)) in
    let whole : samples frames x ≡ samples done x ++ (piece ++ more) =
    ap (λ (n : ℕ). samples n x) split ∙ samples-add done (count + rest) x ∙ ap (λ (t : List ℕ). samples done x ++ t) (samples-add count rest (after done x)) in
    let front : take (length (samples done x) + k) (samples frames x) ≡ samples done x ++ take k piece =
    ap (take (length (samples done x) + k)) whole ∙ take-append-add (samples done x) (piece ++ more) k ∙ ap (λ (t : List ℕ). samples done x ++ t) (take-append-le k piece more small) in
    let fits : length (samples done x) + k ≤ length (samples frames x) =
    omega (arith, length-samples done x, length-samples frames x, small, length-samples count (after done x)) in (
      length (samples done x) + k,
      fits,
      taken ∙ ap (λ (m : Option (List ℕ)). append_known m (take k piece)) is ∙ append_known-twice known (samples done x) (take k piece) ∙ ap (append_known known) (sym front),
    )

-- a front of a text is a front of a longer one
pub front-first : (known new : Option (List ℕ)) (a b : List ℕ) → AppendsFront known new a → AppendsFront known new (a ++ b)
front-first known new a b (k, small, taken) =
    (k, omega (arith, small, length-append a b), taken ∙ ap (append_known known) (sym (take-append-le k a b small)))

-- a front of what follows a text
pub front-then : (known mid new : Option (List ℕ)) (a b : List ℕ) → mid ≡ append_known known a → AppendsFront mid new b → AppendsFront known new (a ++ b)
front-then known mid new a b is (k, small, taken) = (
  length a + k,
  omega (arith, small, length-append a b),
  taken ∙ ap (λ (m : Option (List ℕ)). append_known m (take k b)) is ∙ append_known-twice known a (take k b) ∙ ap (append_known known) (sym (take-append-add a b k)),
)

-- the file is its head and its samples, which need no pad byte
pub wav_from-is : (x frames : ℕ) → wav_from x frames ≡ head_of format frames ++ samples frames x
unfolding wav_from
wav_from-is x frames =
    let long = length-samples frames x in
    let half : length (samples frames x) / 2 ≡ frames = omega (arith, long) in
    let even : length (samples frames x) % 2 ≡ 0 = omega (arith, long) in
    rw (half, even) (append-nil (head_of format frames ++ samples frames x))

pub wav-whole : {E : Type 0} (result : Result (Unit {0}) E) (known mid new : Option (List ℕ)) (head : List ℕ) (x frames : ℕ) → head ≡ head_of format frames → mid ≡ append_known known head → OnOk result (new ≡ append_known mid (samples frames x)) → OnOk result (new ≡ append_known known (wav_from x frames))
wav-whole (Err e) known mid new head x frames is first then = tt
wav-whole (Ok _) known mid new head x frames is first then =
    then ∙ ap (λ (m : Option (List ℕ)). append_known m (samples frames x)) (first ∙ ap (append_known known) is)
    ∙ append_known-twice known (head_of format frames) (samples frames x) ∙ ap (append_known known) (sym (wav_from-is x frames))

pub wav-front : (known mid new : Option (List ℕ)) (head : List ℕ) (x frames : ℕ) → head ≡ head_of format frames → mid ≡ append_known known head → AppendsFront mid new (samples frames x) → AppendsFront known new (wav_from x frames)
wav-front known mid new head x frames is first then =
    subst (AppendsFront known new) (sym (wav_from-is x frames)) (front-then known mid new (head_of format frames) (samples frames x) (first ∙ ap (append_known known) is) then)

pub wav-front_head : (known new : Option (List ℕ)) (head : List ℕ) (x frames : ℕ) → head ≡ head_of format frames → AppendsFront known new head → AppendsFront known new (wav_from x frames)
wav-front_head known new head x frames is front =
    subst (AppendsFront known new) (sym (wav_from-is x frames)) (front-first known new (head_of format frames) (samples frames x) (subst (AppendsFront known new) is front))

-- a piece of a buffer that was filled
pub piece_filled : (piece filled : List ℕ) (count number : ℕ) → length piece ≡ 8192 → count ≤ 4096 → filled ≡ samples (length (take (2 * count) piece) / 2) number → take (2 * count) (filled ++ drop (2 * count) piece) ≡ samples count number
piece_filled piece filled count number room few is =
    let half : length (take (2 * count) piece) / 2 ≡ count = omega (arith, length-take (2 * count) piece) in
    let all : filled ≡ samples count number = is ∙ ap (λ (n : ℕ). samples n number) half in
    take_at filled (drop (2 * count) piece) (2 * count) (ap length all ∙ length-samples count number) ∙ all

pub piece_after : (piece : List ℕ) (count number result : ℕ) → length piece ≡ 8192 → count ≤ 4096 → result ≡ after (length (take (2 * count) piece) / 2) number → result ≡ after count number
piece_after piece count number result room few is =
    is ∙ ap (λ (n : ℕ). after n number) (let half : length (take (2 * count) piece) / 2 ≡ count = omega (arith, length-take (2 * count) piece) in half)

pub piece_kept : (piece filled : List ℕ) (count number : ℕ) → length piece ≡ 8192 → count ≤ 4096 → filled ≡ samples (length (take (2 * count) piece) / 2) number → length (filled ++ drop (2 * count) piece) ≡ 8192
piece_kept piece filled count number room few is =
    let half : length (take (2 * count) piece) / 2 ≡ count = omega (arith, length-take (2 * count) piece) in
    let long : length filled ≡ 2 * count = ap length (is ∙ ap (λ (n : ℕ). samples n number) half) ∙ length-samples count number in
    omega (arith, length-append filled (drop (2 * count) piece), length-drop (2 * count) piece, long)

-- nothing is left
pub written_all : (known new : Option (List ℕ)) (frames left x : ℕ) → left ≤ 0 → new ≡ append_known known (samples (frames - left) x) → AppendsFront known new (samples frames x)
written_all known new frames left x none is =
    let all : frames - left ≡ frames = omega arith in (
      length (samples frames x),
      omega arith,
      is ∙ ap (λ (n : ℕ). append_known known (samples n x)) all ∙ ap (append_known known) (sym (take_all (length (samples frames x)) (samples frames x) (omega arith))),
    )
