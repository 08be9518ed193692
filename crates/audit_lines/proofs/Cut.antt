-- The text of a log is cut into the texts of its lines.
use Rattle.std.proofs.Common.{◌≡◌, ◌⊎◌, inl, inr, ℕ, suc, ◌+◌, ◌^◌, ◌<◌, ◌≤◌, ◌==◌, Bool, true, false, List, [], ◌∷◌, ◌++◌, length, All, codes, refl, sym, ap, subst, ◌∙◌, arith, append_assoc, length-append}
use Rattle.std.specs.Fmt.{decimal}
use Rattle.std.proofs.lemmas.List.{append_cancel_right}
use Rattle.std.proofs.lemmas.List.Elements.{All-head, All-tail}
use Rattle.act_text.specs.Texts.{act_text}
use Rattle.play_log.specs.Lines.{LogLine, IsLogLine, HasLines, line_text, lines_from, log_text}
use Rattle.play_log.proofs.Parting.{Lacks, lacks_both}
use Rattle.play_log.proofs.TextLines.{digits_lack, text_lacks, space_lacks}
use Rattle.audit_lines.specs.Lines.{begun, pieces_of, text_of_line, texts_from, with_byte}

either : {P : Type 0} (b : Bool) → (b ≡ true → P) → (b ≡ false → P) → P
either true holds fails = holds refl
either false holds fails = fails refl

-- ---- a line without its line feed

line_lacks : (number : ℕ) (line : LogLine) → number < 2 ^ 64 → IsLogLine line → Lacks 10 (text_of_line number line)
line_lacks number line fits is =
    lacks_both 10 (decimal number) (32 ∷ (decimal line.pass ++ (32 ∷ act_text line.said))) (digits_lack 10 number fits (omega arith))
    (lacks_both 10 (32 ∷ []) (decimal line.pass ++ (32 ∷ act_text line.said)) space_lacks
    (lacks_both 10 (decimal line.pass) (32 ∷ act_text line.said) (digits_lack 10 line.pass (omega (arith, is.pass)) (omega arith))
    (lacks_both 10 (32 ∷ []) (act_text line.said) space_lacks (text_lacks line.said is.said))))

fed : (a b c : List ℕ) → a ++ (32 ∷ []) ++ b ++ (32 ∷ []) ++ c ++ (10 ∷ []) ≡ (a ++ (32 ∷ (b ++ (32 ∷ c)))) ++ (10 ∷ [])
fed a b c =
    let space : List ℕ = 32 ∷ [] in
    ap (λ (front : List ℕ). front ++ (10 ∷ []))
    (append_assoc (a ++ space ++ b) space c
    ∙ append_assoc (a ++ space) b (32 ∷ c)
    ∙ append_assoc a space (b ++ (32 ∷ c)))

line_fed : (number : ℕ) (line : LogLine) → line_text number line ≡ text_of_line number line ++ (10 ∷ [])
line_fed number line = fed (decimal number) (decimal line.pass) (act_text line.said)

-- ---- from the text to its pieces

no_feed : (b : ℕ) → (b ≡ 10 → ⊥) → (b == 10) ≡ false
no_feed b other = either (b == 10) (λ t. absurd (other (Prim.grind (arith, t)))) (λ f. f)

piece_first : (piece rest : List ℕ) → Lacks 10 piece → pieces_of (piece ++ (10 ∷ rest)) ≡ piece ∷ pieces_of rest
piece_first [] rest lacks = refl
piece_first (byte ∷ bytes) rest lacks =
    let other = no_feed byte (lacks 0 (omega arith)) in
    let step = piece_first bytes rest (λ k below. lacks (suc k) (omega arith)) in
    rw (other, step) refl

cut_from : (number : ℕ) (lines : List LogLine) (end : List ℕ) → number + length (lines_from number lines ++ end) ≤ 2 ^ 64 → All IsLogLine lines
    → pieces_of (lines_from number lines ++ end) ≡ texts_from number lines ++ pieces_of end
cut_from number [] end fits all = refl
cut_from number (line ∷ lines) end fits all =
    let is = All-head IsLogLine line lines all in
    let piece : List ℕ = text_of_line number line in
    let rest : List ℕ = lines_from (number + 1) lines ++ end in
    let split : lines_from number (line ∷ lines) ++ end ≡ piece ++ (10 ∷ rest) =
    append_assoc (line_text number line) (lines_from (number + 1) lines) end
    ∙ ap (λ (l : List ℕ). l ++ rest) (line_fed number line) ∙ append_assoc piece (10 ∷ []) rest in
    let many : length (lines_from number (line ∷ lines) ++ end) ≡ length piece + length (10 ∷ rest) = ap length split ∙ length-append piece (10 ∷ rest) in
    let first = piece_first piece rest (line_lacks number line (omega (arith, fits, many)) is) in
    let more = cut_from (number + 1) lines end (omega (arith, fits, many)) (All-tail IsLogLine line lines all) in
    ap pieces_of split ∙ first ∙ ap (λ (l : List (List ℕ)). piece ∷ l) more

end_cut : pieces_of (codes "end\n") ≡ codes "end" ∷ []
end_cut = refl

bare_end_cut : pieces_of (codes "end") ≡ codes "end" ∷ []
bare_end_cut = refl

cut_by : (text : List ℕ) (lines : List LogLine) → length text < 2 ^ 64 → All IsLogLine lines → (text ≡ log_text lines) ⊎ (text ≡ lines_from 1 lines ++ codes "end")
    → pieces_of text ≡ texts_from 1 lines ++ codes "end" ∷ []
cut_by text lines fits all (inl e) =
    let long : length text ≡ length (lines_from 1 lines) + 4 = ap length e ∙ length-append (lines_from 1 lines) (codes "end\n") in
    ap pieces_of e ∙ cut_from 1 lines (codes "end\n") (omega (arith, fits, long, length-append (lines_from 1 lines) (codes "end\n"))) all
cut_by text lines fits all (inr e) =
    let long : length text ≡ length (lines_from 1 lines) + 3 = ap length e ∙ length-append (lines_from 1 lines) (codes "end") in
    ap pieces_of e ∙ cut_from 1 lines (codes "end") (omega (arith, fits, long, length-append (lines_from 1 lines) (codes "end"))) all

pub log_cut : (text : List ℕ) (lines : List LogLine) → length text < 2 ^ 64 → HasLines text lines → pieces_of text ≡ texts_from 1 lines ++ codes "end" ∷ []
log_cut text lines fits has = cut_by text lines fits has.canonical has.whole

-- ---- from the pieces to their text

abbrev joined : List (List ℕ) → List ℕ
joined [] = []
joined (piece ∷ pieces) = piece ++ (10 ∷ joined pieces)

-- with its last line feed, which the text may lack
abbrev IsJoined : List ℕ → List (List ℕ) → Type 0
IsJoined text pieces = (text ≡ joined pieces) ⊎ (text ++ (10 ∷ []) ≡ joined pieces)

byte_joined : (byte : ℕ) (bytes : List ℕ) (pieces : List (List ℕ)) → (bytes ≡ [] → pieces ≡ []) → (pieces ≡ [] → bytes ≡ []) → IsJoined bytes pieces → IsJoined (byte ∷ bytes) (begun byte pieces)
byte_joined byte bytes [] some none is = let e : bytes ≡ [] = none refl in inr (ap (λ (l : List ℕ). byte ∷ (l ++ (10 ∷ []))) e)
byte_joined byte bytes (piece ∷ pieces) some none (inl is) = inl (ap (λ (l : List ℕ). byte ∷ l) is)
byte_joined byte bytes (piece ∷ pieces) some none (inr is) = inr (ap (λ (l : List ℕ). byte ∷ l) is)

begun_some : (byte : ℕ) (pieces : List (List ℕ)) → begun byte pieces ≡ [] → ⊥
begun_some byte [] e = absurd cc
begun_some byte (piece ∷ pieces) e = absurd cc

with_some : (byte : ℕ) (pieces : List (List ℕ)) → with_byte byte pieces ≡ [] → ⊥
with_some byte pieces e = either (byte == 10)
    (λ t. let f : [] ∷ pieces ≡ [] = rw t at e in absurd cc)
    (λ f. let g : begun byte pieces ≡ [] = rw f at e in begun_some byte pieces g)

none_of : (text : List ℕ) → pieces_of text ≡ [] → text ≡ []
none_of [] e = refl
none_of (byte ∷ bytes) e = absurd (with_some byte (pieces_of bytes) e)

no_pieces : (text : List ℕ) → text ≡ [] → pieces_of text ≡ []
no_pieces text e = ap pieces_of e

feed_joined : (byte : ℕ) (bytes : List ℕ) (pieces : List (List ℕ)) → byte ≡ 10 → IsJoined bytes pieces → IsJoined (byte ∷ bytes) ([] ∷ pieces)
feed_joined byte bytes pieces e (inl is) = inl (λ i. e i ∷ is i)
feed_joined byte bytes pieces e (inr is) = inr (λ i. e i ∷ is i)

all_joined : (text : List ℕ) → IsJoined text (pieces_of text)
all_joined [] = inl refl
all_joined (byte ∷ bytes) = either (byte == 10)
    (λ t. let is : byte ≡ 10 = Prim.grind (arith, t) in rw t (feed_joined byte bytes (pieces_of bytes) is (all_joined bytes)))
    (λ f. rw f (byte_joined byte bytes (pieces_of bytes) (no_pieces bytes) (none_of bytes) (all_joined bytes)))

texts_joined : (number : ℕ) (lines : List LogLine) (end : List ℕ) → joined (texts_from number lines ++ end ∷ []) ≡ lines_from number lines ++ (end ++ (10 ∷ []))
texts_joined number [] end = refl
texts_joined number (line ∷ lines) end =
    let piece : List ℕ = text_of_line number line in
    let rest : List ℕ = lines_from (number + 1) lines in
    let last : List ℕ = end ++ (10 ∷ []) in
    ap (λ (l : List ℕ). piece ++ (10 ∷ l)) (texts_joined (number + 1) lines end)
    ∙ sym (append_assoc (line_text number line) rest last ∙ (ap (λ (l : List ℕ). l ++ (rest ++ last)) (line_fed number line) ∙ append_assoc piece (10 ∷ []) (rest ++ last)))

pub log_whole : (text : List ℕ) (lines : List LogLine) → All IsLogLine lines → pieces_of text ≡ texts_from 1 lines ++ codes "end" ∷ [] → HasLines text lines
log_whole text lines all e = record { canonical = all; whole = go (subst (IsJoined text) e (all_joined text)) }
  where
    go : IsJoined text (texts_from 1 lines ++ codes "end" ∷ []) → (text ≡ log_text lines) ⊎ (text ≡ lines_from 1 lines ++ codes "end")
    go (inl is) = inl (is ∙ texts_joined 1 lines (codes "end"))
    go (inr is) = inr (append_cancel_right text (lines_from 1 lines ++ codes "end") (10 ∷ []) (is ∙ texts_joined 1 lines (codes "end") ∙ sym (append_assoc (lines_from 1 lines) (codes "end") (10 ∷ []))))
