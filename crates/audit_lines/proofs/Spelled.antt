-- A line and its parts.
use Rattle.std.proofs.Common.{◌≡◌, ℕ, ◌+◌, ◌≤◌, false, List, [], ◌∷◌, ◌++◌, length, refl, sym, ap, ◌∙◌, arith}
use Rattle.std.specs.Fmt.{decimal}
use Rattle.std.proofs.lemmas.List.{append_cancel_left}
use Rattle.std.proofs.lemmas.Fmt.{decimal_digit}
use Rattle.act_text.specs.Texts.{act_text, IsActText}
use Rattle.act_text.specs.declared.text.ActText.{ActText}
use Rattle.play_log.specs.Lines.{LogLine, is_left_out}
use Rattle.play_log.proofs.TextLines.{texts_same}
use Rattle.audit_lines.specs.Lines.{IsOfPlay}

spelled : (number : ℕ) (line : List ℕ) (said : LogLine) → IsOfPlay number line said → line ≡ decimal number ++ (32 ∷ (48 + said.pass) ∷ 32 ∷ act_text said.said)
spelled number line said G =
    let digit : decimal said.pass ≡ (48 + said.pass) ∷ [] = decimal_digit said.pass (omega (arith, G.few)) in
    G.whole ∙ ap (λ (d : List ℕ). decimal number ++ (32 ∷ (d ++ (32 ∷ act_text said.said)))) digit

-- what stands behind the number
pub behind_number : (number : ℕ) (line digits rest : List ℕ) (said : LogLine) → digits ≡ decimal number → line ≡ digits ++ rest → IsOfPlay number line said
    → rest ≡ 32 ∷ (48 + said.pass) ∷ 32 ∷ act_text said.said
behind_number number line digits rest said is parts G =
    let tail : List ℕ = 32 ∷ (48 + said.pass) ∷ 32 ∷ act_text said.said in
    append_cancel_left digits rest tail (sym parts ∙ spelled number line said G ∙ ap (λ (d : List ℕ). d ++ tail) (sym is))

-- the line of its parts
pub of_parts : (number : ℕ) (line digits rest text : List ℕ) (pass : ℕ) (said : ActText) → digits ≡ decimal number → line ≡ digits ++ rest → pass ≤ 8
    → rest ≡ 32 ∷ (48 + pass) ∷ 32 ∷ text → text ≡ act_text said → IsActText said → length line ≤ 512 → is_left_out said.reply ≡ false
    → IsOfPlay number line (record { pass = pass; said = said })
of_parts number line digits rest text pass said is parts few e t I short printed =
    let digit : decimal pass ≡ (48 + pass) ∷ [] = decimal_digit pass (omega (arith, few)) in
    record {
      whole = parts ∙ ap (λ (d : List ℕ). d ++ rest) is ∙ ap (λ (r : List ℕ). decimal number ++ r) (e ∙ ap (λ (r : List ℕ). 32 ∷ (48 + pass) ∷ 32 ∷ r) t)
          ∙ ap (λ (d : List ℕ). decimal number ++ (32 ∷ (d ++ (32 ∷ act_text said)))) (sym digit);
      canonical = record { pass = omega (arith, few); said = I };
      short = short;
      few = few;
      printed = printed;
    }

-- the pass and the text are what follows says
pub same_parts : (pass : ℕ) (text : List ℕ) (rest : List ℕ) (said : LogLine) → rest ≡ 32 ∷ (48 + pass) ∷ 32 ∷ text → rest ≡ 32 ∷ (48 + said.pass) ∷ 32 ∷ act_text said.said
    → (pass ≡ said.pass) × (text ≡ act_text said.said)
same_parts pass text rest said e f =
    let g : 32 ∷ (48 + pass) ∷ 32 ∷ text ≡ 32 ∷ (48 + said.pass) ∷ 32 ∷ act_text said.said = sym e ∙ f in
    let h : 48 + pass ≡ 48 + said.pass = cc in
    let t : text ≡ act_text said.said = cc in
    (omega (arith, h), t)

-- a text says one line
pub one_line : (number : ℕ) (text : List ℕ) (line other : LogLine) → IsOfPlay number text line → IsOfPlay number text other → other ≡ line
one_line number text line other G H =
    let rest : List ℕ = 32 ∷ (48 + line.pass) ∷ 32 ∷ act_text line.said in
    let behind = behind_number number text (decimal number) rest other refl (spelled number text line G) H in
    let same = same_parts line.pass (act_text line.said) rest other refl behind in
    let pass : other.pass ≡ line.pass = sym same.0 in
    let said : other.said ≡ line.said = sym (texts_same line.said other.said (G.canonical).said (H.canonical).said same.1) in
    λ j. record { pass = pass j; said = said j }
