-- A WAV file, written as its head, its codes and its padding.
use Rattle.std.proofs.Common.{◌≡◌, ℕ, ◌%◌, ◌==◌, if◌then◌else◌, true, false, Bool, List, [], ◌∷◌, ◌++◌, length, Option, sym, ap, subst, ◌∙◌, arith}
use Rattle.std.proofs.lemmas.List.{append-nil}
use Rattle.std.specs.Io.KnownBytes.{append_known}
use Rattle.outside_io.specs.Moves.{AppendsFront}
use Rattle.outside_io.proofs.Known.{append_known-twice}
use Rattle.omx_types.specs.declared.format.Format.{Format}
use Rattle.part_forms.specs.Writing.{written, head_of, pad_of}
use Rattle.g711_law.specs.declared.companding.Companding.{Companding}
use Rattle.rtp_parts.specs.Packets.{format_of_companding}
use Rattle.rtp_parts.proofs.PackedTexts.{front-first, front-then, front-whole}
use Rattle.rtp_parts.proofs.Survey.{written_is}

head_for : (companding : Companding) (frames : ℕ) (codes : List ℕ) → frames ≡ length codes → head_of (format_of_companding companding) frames ≡ head_of (format_of_companding companding) (length codes)
head_for companding frames codes is = ap (head_of (format_of_companding companding)) is

pub wav-front_head : (known new : Option (List ℕ)) (companding : Companding) (frames : ℕ) (codes : List ℕ) → frames ≡ length codes → AppendsFront known new (head_of (format_of_companding companding) frames) → AppendsFront known new (written (format_of_companding companding) codes)
wav-front_head known new companding frames codes is front =
    let head = head_of (format_of_companding companding) (length codes) in
    subst (AppendsFront known new) (sym (written_is companding codes))
    (front-first known new (head ++ codes) (pad_of (length codes)) (front-first known new head codes (subst (AppendsFront known new) (head_for companding frames codes is) front)))

pub wav-front_codes : (known mid new : Option (List ℕ)) (companding : Companding) (frames : ℕ) (codes : List ℕ) → frames ≡ length codes → mid ≡ append_known known (head_of (format_of_companding companding) frames) → AppendsFront mid new codes → AppendsFront known new (written (format_of_companding companding) codes)
wav-front_codes known mid new companding frames codes is sent front =
    let head = head_of (format_of_companding companding) (length codes) in
    subst (AppendsFront known new) (sym (written_is companding codes))
    (front-first known new (head ++ codes) (pad_of (length codes)) (front-then known mid new head codes (sent ∙ ap (append_known known) (head_for companding frames codes is)) front))

codes_sent : (known mid end : Option (List ℕ)) (companding : Companding) (frames : ℕ) (codes : List ℕ) → frames ≡ length codes → mid ≡ append_known known (head_of (format_of_companding companding) frames) → end ≡ append_known mid codes → end ≡ append_known known (head_of (format_of_companding companding) (length codes) ++ codes)
codes_sent known mid end companding frames codes is sent more =
    more ∙ ap (λ (m : Option (List ℕ)). append_known m codes) (sent ∙ ap (append_known known) (head_for companding frames codes is))
    ∙ append_known-twice known (head_of (format_of_companding companding) (length codes)) codes

pad_odd : (size : ℕ) → size % 2 ≡ 1 → pad_of size ≡ 0 ∷ []
pad_odd size odd = ap (λ (t : Bool). if t then 0 ∷ [] else []) (let e : (size % 2 == 1) ≡ true = grind (arith, odd) in e)

pad_even : (size : ℕ) → (size % 2 ≡ 1 → ⊥) → pad_of size ≡ []
pad_even size even = ap (λ (t : Bool). if t then 0 ∷ [] else []) (let e : (size % 2 == 1) ≡ false = grind (arith, even) in e)

pub wav-front_pad : (known mid end new : Option (List ℕ)) (companding : Companding) (frames : ℕ) (codes : List ℕ) → frames ≡ length codes → frames % 2 ≡ 1 → mid ≡ append_known known (head_of (format_of_companding companding) frames) → end ≡ append_known mid codes → AppendsFront end new (0 ∷ []) → AppendsFront known new (written (format_of_companding companding) codes)
wav-front_pad known mid end new companding frames codes is odd sent more front =
    subst (AppendsFront known new) (sym (written_is companding codes))
    (front-then known end new (head_of (format_of_companding companding) (length codes) ++ codes) (pad_of (length codes)) (codes_sent known mid end companding frames codes is sent more)
    (subst (AppendsFront end new) (sym (pad_odd (length codes) (ap (λ (n : ℕ). n % 2) (sym is) ∙ odd))) front))

pub wav-whole_pad : (known mid end new : Option (List ℕ)) (companding : Companding) (frames : ℕ) (codes : List ℕ) → frames ≡ length codes → frames % 2 ≡ 1 → mid ≡ append_known known (head_of (format_of_companding companding) frames) → end ≡ append_known mid codes → new ≡ append_known end (0 ∷ []) → new ≡ append_known known (written (format_of_companding companding) codes)
wav-whole_pad known mid end new companding frames codes is odd sent more last =
    let both = head_of (format_of_companding companding) (length codes) ++ codes in
    last ∙ ap (append_known end) (sym (pad_odd (length codes) (ap (λ (n : ℕ). n % 2) (sym is) ∙ odd)))
    ∙ ap (λ (m : Option (List ℕ)). append_known m (pad_of (length codes))) (codes_sent known mid end companding frames codes is sent more)
    ∙ append_known-twice known both (pad_of (length codes)) ∙ ap (append_known known) (sym (written_is companding codes))

pub wav-whole_even : (known mid end : Option (List ℕ)) (companding : Companding) (frames : ℕ) (codes : List ℕ) → frames ≡ length codes → (frames % 2 ≡ 1 → ⊥) → mid ≡ append_known known (head_of (format_of_companding companding) frames) → end ≡ append_known mid codes → end ≡ append_known known (written (format_of_companding companding) codes)
wav-whole_even known mid end companding frames codes is even sent more =
    let both = head_of (format_of_companding companding) (length codes) ++ codes in
    codes_sent known mid end companding frames codes is sent more
    ∙ ap (append_known known) (sym (append-nil both) ∙ ap (λ (p : List ℕ). both ++ p) (sym (pad_even (length codes) (λ odd. even (ap (λ (n : ℕ). n % 2) is ∙ odd)))) ∙ sym (written_is companding codes))

pub wav-front_even : (known mid end : Option (List ℕ)) (companding : Companding) (frames : ℕ) (codes : List ℕ) → frames ≡ length codes → (frames % 2 ≡ 1 → ⊥) → mid ≡ append_known known (head_of (format_of_companding companding) frames) → end ≡ append_known mid codes → AppendsFront known end (written (format_of_companding companding) codes)
wav-front_even known mid end companding frames codes is even sent more =
    front-whole known end (written (format_of_companding companding) codes) (wav-whole_even known mid end companding frames codes is even sent more)

-- the head that was put, by the format of the companding
pub head_put : (companding : Companding) (frames : ℕ) (format : Format) (head : List ℕ) → format ≡ format_of_companding companding → head ≡ head_of format frames → head ≡ head_of (format_of_companding companding) frames
head_put companding frames format head is put = put ∙ ap (λ (f : Format). head_of f frames) is
