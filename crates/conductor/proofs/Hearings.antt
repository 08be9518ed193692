-- One view, one link, one sink more.
use Rattle.std.proofs.Common.{◌≡◌, ℕ, zero, suc, ◌+◌, ◌<◌, ◌||◌, not, Bool, true, List, [], ◌∷◌, ◌++◌, length, take, drop, map, get_or, add-one, Option, Some, None, refl, sym, ◌∙◌, ap, arith}
use Rattle.std.specs.Prelude.{slice_get}
use Rattle.std.proofs.Math.ListN.{set}
use Rattle.il_machine.specs.declared.answer.Progress.{Progress}
use Rattle.conductor.specs.Hearing.{heard_views}
use Rattle.conductor.specs.Phases.{sinks_over}
use Rattle.play_forms.proofs.Places.{Some_same}
use Rattle.stream_plan.proofs.Lists.{there_at}

view_heard : (told : List Progress) (views : List (Option Progress)) (k : ℕ) (view : Progress) → slice_get views k ≡ Some (Some view) → k < length told
    → take (suc k) (set told k view) ++ heard_views (drop (suc k) (set told k view)) (drop (suc k) views) ≡ take k told ++ heard_views (drop k told) (drop k views)
view_heard told [] k view e inside = absurd cc
view_heard [] (other ∷ views) k view e inside = absurd (omega arith)
view_heard (old ∷ told) (other ∷ views) zero view e inside = let same : other ≡ Some view = Some_same other (Some view) e in rw same refl
view_heard (old ∷ told) (other ∷ views) (suc k) view e inside = ap (λ rest. old ∷ rest) (view_heard told views k view e (omega arith))

none_heard : (told : List Progress) (views : List (Option Progress)) (k : ℕ) → slice_get views k ≡ Some None → k < length told
    → take (suc k) told ++ heard_views (drop (suc k) told) (drop (suc k) views) ≡ take k told ++ heard_views (drop k told) (drop k views)
none_heard told [] k e inside = absurd cc
none_heard [] (other ∷ views) k e inside = absurd (omega arith)
none_heard (old ∷ told) (other ∷ views) zero e inside = let same : other ≡ None = Some_same other None e in rw same refl
none_heard (old ∷ told) (other ∷ views) (suc k) e inside = ap (λ rest. old ∷ rest) (none_heard told views k e (omega arith))

pub view_more : (told : List Progress) (views : List (Option Progress)) (k : ℕ) (view : Progress) → slice_get views k ≡ Some (Some view) → k < length told
    → take (k + 1) (set told k view) ++ heard_views (drop (k + 1) (set told k view)) (drop (k + 1) views) ≡ take k told ++ heard_views (drop k told) (drop k views)
view_more told views k view e inside = rw add-one (view_heard told views k view e inside)

pub none_more : (told : List Progress) (views : List (Option Progress)) (k : ℕ) → slice_get views k ≡ Some None → k < length told
    → take (k + 1) told ++ heard_views (drop (k + 1) told) (drop (k + 1) views) ≡ take k told ++ heard_views (drop k told) (drop k views)
none_more told views k e inside = rw add-one (none_heard told views k e inside)

-- ---- a list that is mapped in place

mapped_suc : {A : Type 0} (f : A → A) (before now : List A) (k : ℕ) (x : A) → slice_get now k ≡ Some x → take k now ≡ map f (take k before) → drop k now ≡ drop k before
    → (take (suc k) (set now k (f x)) ≡ map f (take (suc k) before)) × (drop (suc k) (set now k (f x)) ≡ drop (suc k) before)
mapped_suc f before [] k x e front rest = absurd cc
mapped_suc f [] (y ∷ now) zero x e front rest = absurd cc
mapped_suc f (z ∷ before) (y ∷ now) zero x e front rest =
    let first : y ≡ x = Some_same y x e in
    let same : y ≡ z = cc in
    let x_is : x ≡ z = sym first ∙ same in
    let tail : now ≡ before = cc in
    (rw x_is refl, tail)
mapped_suc f [] (y ∷ now) (suc k) x e front rest = absurd cc
mapped_suc f (z ∷ before) (y ∷ now) (suc k) x e front rest =
    let first : y ≡ f z = cc in
    let others : take k now ≡ map f (take k before) = cc in
    let h = mapped_suc f before now k x e others rest in
    (rw first (ap (λ r. f z ∷ r) h.0), h.1)

pub mapped_front : {A : Type 0} (f : A → A) (before now : List A) (k : ℕ) (x : A) → slice_get now k ≡ Some x → take k now ≡ map f (take k before) → drop k now ≡ drop k before
    → take (k + 1) (set now k (f x)) ≡ map f (take (k + 1) before)
mapped_front f before now k x e front rest = rw add-one (mapped_suc f before now k x e front rest).0

pub mapped_rest : {A : Type 0} (f : A → A) (before now : List A) (k : ℕ) (x : A) → slice_get now k ≡ Some x → take k now ≡ map f (take k before) → drop k now ≡ drop k before
    → drop (k + 1) (set now k (f x)) ≡ drop (k + 1) before
mapped_rest f before now k x e front rest = rw add-one (mapped_suc f before now k x e front rest).1

-- ---- the sinks so far

over_suc : (sinks : List Bool) (told : List Progress) (k : ℕ) (sink : Bool) (progress : Progress) → slice_get sinks k ≡ Some sink → slice_get told k ≡ Some progress
    → (not sink || progress.eos) ≡ true → sinks_over (drop (suc k) sinks) (drop (suc k) told) ≡ sinks_over (drop k sinks) (drop k told)
over_suc [] told k sink progress e f over = absurd cc
over_suc (s ∷ sinks) [] k sink progress e f over = absurd cc
over_suc (s ∷ sinks) (p ∷ told) zero sink progress e f over =
    let s_is : s ≡ sink = Some_same s sink e in let p_is : p ≡ progress = Some_same p progress f in rw (s_is, p_is, over) refl
over_suc (s ∷ sinks) (p ∷ told) (suc k) sink progress e f over = over_suc sinks told k sink progress e f over

pub over_more : (sinks : List Bool) (told : List Progress) (k : ℕ) (ds : Bool) (dp : Progress) → k < length sinks → length told ≡ length sinks
    → (not (get_or sinks k ds) || (get_or told k dp).eos) ≡ true → sinks_over (drop (k + 1) sinks) (drop (k + 1) told) ≡ sinks_over (drop k sinks) (drop k told)
over_more sinks told k ds dp inside many over =
    rw add-one (over_suc sinks told k (get_or sinks k ds) (get_or told k dp) (there_at sinks k ds inside) (there_at told k dp (omega arith)) over)
