-- What a run gives to the client of a component.
use Rattle.std.proofs.Common.{◌≡◌, ℕ, false, List, [], ◌∷◌, ◌++◌, Option, Some, None, All, refl, sym, ◌∙◌, ap, append_assoc}
use Rattle.std.proofs.lemmas.List.{append-nil}
use Rattle.std.proofs.lemmas.List.Elements.{All-head, All-tail}
use Rattle.omx_types.specs.declared.command.Note.{Note}
use Rattle.il_machine.specs.World.{World, component_numbered}
use Rattle.il_machine.specs.Acts.{Act, Reply}
use Rattle.il_machine.specs.Run.{Step, Meets, Run}
use Rattle.il_machine.specs.Sound.{Sound}
use Rattle.il_machine.specs.Queued.{notes_given, notes_of, queued_for}
use Rattle.machine_laws.proofs.Steps.{sound_step}
use Rattle.history_laws.specs.Given.{note_for, is_freed_by}
use Rattle.history_laws.proofs.GivenNotes.{steps_stay, steps_add}
use Rattle.history_laws.specs.GivenIn.{note_list, given_in}

step_given : (w v : World) (a : Act) (r : Reply) (number : ℕ) (o : Option Note) → Sound w → Meets w a → Step w a r v → is_freed_by number a r ≡ false → note_for number a r ≡ o
    → notes_given number v ≡ notes_given number w ++ note_list o
step_given w v a r number None S M h f e = steps_stay w a r v number S M h (e, f) ∙ sym (append-nil (notes_given number w))
step_given w v a r number (Some note) S M h f e = steps_add w a r v number note S M h e

pub run_given : (w v : World) (xs : List (Act × Reply)) (number : ℕ) → Sound w → Run w xs v → All (λ x. is_freed_by number x.0 x.1 ≡ false) xs → notes_given number v ≡ notes_given number w ++ given_in number xs
run_given w v [] number S e A = ap (notes_given number) e ∙ sym (append-nil (notes_given number w))
run_given w v (x ∷ xs) number S h A =
    let o = note_for number x.0 x.1 in
    let first = step_given w h.0 x.0 x.1 number o S h.1 h.2 (All-head (λ (x : Act × Reply). is_freed_by number x.0 x.1 ≡ false) x xs A) refl in
    let rest = run_given h.0 v xs number (sound_step w h.0 x.0 x.1 h.1 h.2 S) h.3 (All-tail (λ (x : Act × Reply). is_freed_by number x.0 x.1 ≡ false) x xs A) in
    rest ∙ (ap (λ (l : List Note). l ++ given_in number xs) first ∙ append_assoc (notes_given number w) (note_list o) (given_in number xs))

pub run_front : (w v : World) (xs : List (Act × Reply)) (number : ℕ) → Sound w → Run w xs v → All (λ x. is_freed_by number x.0 x.1 ≡ false) xs
    → queued_for number v ≡ (notes_given number w ++ given_in number xs) ++ notes_of (component_numbered number v)
run_front w v xs number S h A = ap (λ (l : List Note). l ++ notes_of (component_numbered number v)) (run_given w v xs number S h A)
