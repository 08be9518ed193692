-- The lists with which a replay begins.
use Rattle.std.proofs.Common.{◌≡◌, ℕ, suc, List, [], ◌∷◌, length, map, replicate, slice_get, Some, option_map, refl, sym, arith}
use Rattle.omx_types.specs.declared.handle.Handle.{Handle}
use Rattle.il_machine.specs.Components.{no_progress}
use Rattle.il_machine.specs.World.{Component}
use Rattle.script_lang.specs.declared.play_line.PartLine.{PartLine}
use Rattle.play_log.proofs.Players.{some_same}
use Rattle.audit_forms.specs.Told.{nothing_told}

pub untold : (parts : List PartLine) → replicate (length parts) no_progress ≡ nothing_told parts
untold [] = refl
untold (part ∷ parts) = (let r = untold parts in λ j. no_progress ∷ r j)

pub same_handles : (hs : List Handle) (cs : List Component) → length hs ≡ length cs → ((place : ℕ) (h : Handle) → slice_get hs place ≡ Some h → option_map (λ (c : Component). c.handle) (slice_get cs place) ≡ Some h) → hs ≡ map (λ (c : Component). c.handle) cs
same_handles [] [] e each = refl
same_handles [] (c ∷ cs) e each = absurd (omega (arith, e))
same_handles (h ∷ hs) [] e each = absurd (omega (arith, e))
same_handles (h ∷ hs) (c ∷ cs) e each =
    (let q : h ≡ c.handle = some_same h c.handle (sym (each 0 h refl)) in
    let r = same_handles hs cs (omega (arith, e)) (λ place k f. each (suc place) k f) in
    λ j. q j ∷ r j)
