-- Lines that come to one thing each come to one outcome.
use Rattle.std.proofs.Common.{◌≡◌, inl, inr, ℕ, ◌+◌, ◌<◌, ◌≤◌, List, [], ◌∷◌, sym, ◌∙◌, subst, arith, Result, Ok, Err}
use Rattle.line_text.specs.Lines.{lines_of}
use Rattle.script_lang.specs.LineByLine.{GoOn, ComeTo, Begin, AreRead, IsBehind}
use Rattle.script_lang.specs.declared.script.ScriptFault.{ScriptFault}

-- a line comes to one thing
abbrev pub ComesOnce : {B : Type 0} → (B → ℕ → List ℕ → Result B ScriptFault → Type 0) → Type 0
ComesOnce {B} Comes = (before : B) (number : ℕ) (line : List ℕ) (one other : Result B ScriptFault) → Comes before number line one → Comes before number line other → one ≡ other

go-once : {B : Type 0} (First Second : B → Type 0) (step one other : Result B ScriptFault)
    → ((next : B) → First next → Second next → one ≡ other) → GoOn First step one → GoOn Second step other → one ≡ other
go-once First Second (Ok next) one other later a b = later next a b
go-once First Second (Err fault) one other later a b = a ∙ sym b

come-once : {B : Type 0} (Comes : B → ℕ → List ℕ → Result B ScriptFault → Type 0) → ComesOnce Comes
    → (lines : List (List ℕ)) (before : B) (number : ℕ) (one other : Result B ScriptFault) → ComeTo Comes before number lines one → ComeTo Comes before number lines other → one ≡ other
come-once Comes once [] before number one other a b = a ∙ sym b
come-once {B} Comes once (line ∷ lines) before number one other (step, comes, a) (again, comes', b) =
    go-once (λ next. ComeTo Comes next (number + 1) lines one) (λ next. ComeTo Comes next (number + 1) lines other) step one other
    (λ next. come-once Comes once lines next (number + 1) one other) a
    (subst (λ (s : Result B ScriptFault). GoOn (λ next. ComeTo Comes next (number + 1) lines other) s other) (once before number line again step comes' comes) b)

begin-once : {B : Type 0} (Comes : B → ℕ → List ℕ → Result B ScriptFault → Type 0) → ComesOnce Comes → (nothing : B) (command : List ℕ)
    → (lines : List (List ℕ)) (one other : Result B ScriptFault) → Begin Comes nothing command lines one → Begin Comes nothing command lines other → one ≡ other
begin-once Comes once nothing command [] one other a b = a ∙ sym b
begin-once Comes once nothing command (line ∷ lines) one other (inl (_, a)) (inl (_, b)) = a ∙ sym b
begin-once Comes once nothing command (line ∷ lines) one other (inl (never, _)) (inr (inl (text, _, _))) = absurd (never text)
begin-once Comes once nothing command (line ∷ lines) one other (inl (never, _)) (inr (inr (text, _, _))) = absurd (never text)
begin-once Comes once nothing command (line ∷ lines) one other (inr (inl (text, _, _))) (inl (never, _)) = absurd (never text)
begin-once Comes once nothing command (line ∷ lines) one other (inr (inr (text, _, _))) (inl (never, _)) = absurd (never text)
begin-once Comes once nothing command (line ∷ lines) one other (inr (inl (_, _, a))) (inr (inl (_, _, b))) = a ∙ sym b
begin-once Comes once nothing command (line ∷ lines) one other (inr (inl (_, not, _))) (inr (inr (_, first, _))) = absurd (not first)
begin-once Comes once nothing command (line ∷ lines) one other (inr (inr (_, first, _))) (inr (inl (_, not, _))) = absurd (not first)
begin-once Comes once nothing command (line ∷ lines) one other (inr (inr (_, _, a))) (inr (inr (_, _, b))) = come-once Comes once lines nothing 2 one other a b

short-long : {length : ℕ} → 65536 < length → length ≤ 65536 → ⊥
short-long long short = omega arith

pub read-once : {B : Type 0} (Comes : B → ℕ → List ℕ → Result B ScriptFault → Type 0) → ComesOnce Comes → (nothing : B) (command : List ℕ)
    → (text : List ℕ) (one other : Result B ScriptFault) → AreRead Comes nothing command text one → AreRead Comes nothing command text other → one ≡ other
read-once Comes once nothing command text one other (inl (_, a)) (inl (_, b)) = a ∙ sym b
read-once Comes once nothing command text one other (inl (long, _)) (inr (short, _)) = absurd (short-long long short)
read-once Comes once nothing command text one other (inr (short, _)) (inl (long, _)) = absurd (short-long long short)
read-once Comes once nothing command text one other (inr (_, a)) (inr (_, b)) = begin-once Comes once nothing command (lines_of text) one other a b

-- the command's first line, and what the lines behind it come to
pub read-behind : {B : Type 0} (Comes : B → ℕ → List ℕ → Result B ScriptFault → Type 0) (nothing : B) (command text rest : List ℕ) (outcome : Result B ScriptFault)
    → IsBehind command text rest → ComeTo Comes nothing 2 (lines_of rest) outcome → AreRead Comes nothing command text outcome
read-behind Comes nothing command text rest outcome behind come =
    inr (behind.short, subst (λ (lines : List (List ℕ)). Begin Comes nothing command lines outcome) (sym behind.lines) (inr (inr (behind.readable, behind.words, come))))
