use Rattle.std.proofs.Common.{◌≡◌, ℕ, List, Some, ap, sym, refl, length, ◌<◌, ◌∙◌, slice_get}
use Rattle.std.proofs.lemmas.Bool.{ltb-true}
use Rattle.std.proofs.lemmas.Option.{slice_get_read}
use Rattle.act_text.specs.Texts.{act_text}
use Rattle.act_text.specs.declared.text.ActText.{ActText}
use Rattle.play_log.specs.declared.words.Made.{Made}
use Rattle.play_log.proofs.Spelling.{made_there}
use Rattle.play_log.proofs.words.Words.known_at.Goals as goal

pub returns-then-is_same : goal.returns-then-is_same
returns-then-is_same c =
    let look = c.in-Some.ensures.lookup in
    let within : c.in_ok-number.number < length c.deref.result.now = ltb-true c.in_ok-number.number (length c.deref.result.now) (sym look.0) in
    let found : slice_get c.deref.result.now c.in_ok-number.number ≡ Some c.in-Some.made.now = slice_get_read c.deref.result.now (length c.deref.result.now) c.in_ok-number.number c.in-Some.made.now refl within look.1 in
    let there : slice_get c.self.inside.made.items c.in_ok-number.number ≡ Some c.in-Some.made.now = ap (λ (made : List Made). slice_get made c.in_ok-number.number) (sym c.deref.ensures.value) ∙ found in
    ap (λ (words : List (List ℕ)). slice_get words c.in_ok-number.number) (sym c.self.view_is)
    ∙ (made_there c.self.inside.made.items c.in_ok-number.number c.in-Some.made.now c.self.invariant there ∙ ap (λ (act : ActText). Some (act_text act)) (c.is_same.ensures c.if-is_same.true))
