-- What a line more tells, by the places of the components.
use Rattle.std.proofs.Common.{◌≡◌, ◌<◌, ℕ, zero, suc, List, [], ◌∷◌, length, slice_get, Some, refl, ap, arith}
use Rattle.omx_types.specs.declared.command.Event.{Event}
use Rattle.il_machine.specs.declared.answer.Progress.{Progress}
use Rattle.act_text.specs.declared.act.TextAct.{TextAct}
use Rattle.act_text.specs.declared.act.TextAct.TheVariants as lines
use Rattle.act_text.specs.declared.reply.TextReply.{TextReply}
use Rattle.act_text.specs.declared.reply.TextReply.TheVariants as texts
use Rattle.act_text.specs.declared.text.ActText.{ActText}
use Rattle.script_lang.specs.declared.play_line.PartLine.{PartLine}
use Rattle.audit_forms.specs.Told.{heard_line, told_more}

-- a line by which nothing is heard
pub same_told : (said : ActText) (parts : List PartLine) (told : List Progress) → ((part : PartLine) (p : Progress) → heard_line said part p ≡ p) → length told ≡ length parts → told_more said parts told ≡ told
same_told said [] [] k e = refl
same_told said [] (p ∷ told) k e = absurd (omega (arith, e))
same_told said (part ∷ parts) [] k e = absurd (omega (arith, e))
same_told said (part ∷ parts) (p ∷ told) k e = let r = same_told said parts told k (omega (arith, e)) in let h = k part p in rw (h, r) refl

pub more_long : (said : ActText) (parts : List PartLine) (told : List Progress) → length told ≡ length parts → length (told_more said parts told) ≡ length parts
more_long said [] told e = refl
more_long said (part ∷ parts) [] e = absurd (omega (arith, e))
more_long said (part ∷ parts) (p ∷ told) e = ap suc (more_long said parts told (omega (arith, e)))

pub more_at : (said : ActText) (parts : List PartLine) (told : List Progress) (k : ℕ) (part : PartLine) (p : Progress) → slice_get parts k ≡ Some part → slice_get told k ≡ Some p → slice_get (told_more said parts told) k ≡ Some (heard_line said part p)
more_at said [] told k part p e f = absurd cc
more_at said (x ∷ parts) [] k part p e f = absurd cc
more_at said (x ∷ parts) (y ∷ told) zero part p e f = let a : x ≡ part = cc in let b : y ≡ p = cc in (λ i. Some (heard_line said (a i) (b i)))
more_at said (x ∷ parts) (y ∷ told) (suc k) part p e f = more_at said parts told k part p e f

pub same_lists : {X : Type 0} (xs ys : List X) → length xs ≡ length ys → ((k : ℕ) → k < length xs → slice_get xs k ≡ slice_get ys k) → xs ≡ ys
same_lists [] [] n h = refl
same_lists [] (y ∷ ys) n h = absurd (omega (arith, n))
same_lists (x ∷ xs) [] n h = absurd (omega (arith, n))
same_lists (x ∷ xs) (y ∷ ys) n h =
    let first : Some x ≡ Some y = h 0 (omega arith) in
    let a : x ≡ y = cc in
    let b : xs ≡ ys = same_lists xs ys (omega (arith, n)) (λ k l. h (suc k) (omega (arith, l))) in
    λ i. a i ∷ b i

-- no event is taken by the line
abbrev pub TakesNone : ActText → Type 0
TakesNone said = (component : List ℕ) (event : Event) → said ≡ record { act = lines.Take component; reply = texts.Event event } → ⊥

heard_none : (act : TextAct) (reply : TextReply) → TakesNone (record { act = act; reply = reply }) → (part : PartLine) (p : Progress) → heard_line (record { act = act; reply = reply }) part p ≡ p
heard_none (lines.Take component) (texts.Event event) n part p = absurd (n component event refl)
heard_none act reply n part p = refl

pub untold : (said : ActText) (parts : List PartLine) (told : List Progress) → TakesNone said → length told ≡ length parts → told_more said parts told ≡ told
untold said parts told n e = same_told said parts told (heard_none said.act said.reply n) e

pub there_at : {X : Type 0} (xs : List X) (k : ℕ) → k < length xs → (x : X) × (slice_get xs k ≡ Some x)
there_at [] k l = absurd (omega arith)
there_at (x ∷ xs) zero l = (x, refl)
there_at (x ∷ xs) (suc k) l = there_at xs k (omega arith)
