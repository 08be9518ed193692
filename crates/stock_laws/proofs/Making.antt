-- Components are made and freed, in each world.
use Rattle.std.proofs.Common.{◌≡◌, ◌≢◌, inl, inr, ℕ, suc, ◌+◌, ◌<◌, Bool, not, nat_lt, List, [], ◌∷◌, ◌++◌, length, Option, Some, All, slice_get, remove, filter, refl, sym, ◌∙◌, ap, subst, arith, if◌then◌else◌}
use Rattle.std.proofs.lemmas.Bool.Decides.{nat_tests}
use Rattle.std.proofs.lemmas.List.Elements.{All-filter}
use Rattle.il_machine.specs.declared.answer.Progress.{Progress}
use Rattle.il_machine.specs.World.{Component, Given, World, number_of}
use Rattle.il_machine.specs.Look.{Look}
use Rattle.il_machine.specs.Components.{progress_of, progress_after, is_given_to, no_progress, without_component}
use Rattle.il_machine.specs.Whole.{Kept, Noticed, HasProgress, IsNoticed}
use Rattle.stock_laws.specs.Bare.{StepsBare}
use Rattle.stock_laws.proofs.Lists.{get_last, get_before_last, get_at_last, get_removed}
use Rattle.stock_laws.proofs.Noting.{IsOnly}
use Rattle.stock_laws.proofs.Streams.{with_made, moved_other, streams_made, streams_removed}

none_given : (n : ℕ) (gs : List Given) → All (λ g. g.component < n) gs → filter (is_given_to n) gs ≡ []
none_given n [] h = refl
none_given n (g ∷ gs) h =
    let first = h 0 g (omega arith) in
    let i = none_given n gs (λ k d b. h (suc k) d (omega arith)) in
    grind (arith, nat_tests)

fresh_progress : (c : Component) (w : World) (n : ℕ) → number_of c ≡ n → All (λ g. g.component < n) w.given → progress_of c w ≡ no_progress
fresh_progress c w n e h = ap (λ (m : ℕ). progress_after (filter (is_given_to m) w.given) no_progress) e ∙ ap (λ (gs : List Given). progress_after gs no_progress) (none_given n w.given h)

-- what is kept, with one component more
abbrev pub with_component_made : Component → Kept → Kept
with_component_made c k = record k { looks = record k.looks { components = k.looks.components ++ c ∷ []; numbered = k.looks.numbered + 1 }; clients = k.clients ++ Some no_progress ∷ [] }

made_progress : (clients : List (Option Progress)) (w : World) (c : Component) → number_of c ≡ w.numbered → length clients ≡ length w.components → All (λ g. g.component < w.numbered) w.given → HasProgress clients w
    → HasProgress (clients ++ Some no_progress ∷ []) (with_made c w)
made_progress clients w c n l G P = λ j d h out. elim (get_last w.components j c d h) [
  | inl e ↦ get_before_last clients j (Some no_progress) (Some (progress_of d w)) (P j d e out)
  | inr e ↦
      let z : progress_of d w ≡ no_progress = rw e.1 (fresh_progress c w w.numbered n G) in
      rw (e.0, ← l, z) (get_at_last clients (Some no_progress))
]

pub lift_made : (k : Kept) (c : Component) → number_of c ≡ k.looks.numbered → length k.clients ≡ length k.looks.components → All (λ d. number_of d < k.looks.numbered) k.looks.components
    → StepsBare k (with_component_made c k) (λ w v. v ≡ with_made c w)
lift_made k c n l below = λ w S.
    let cs : w.components ≡ k.looks.components = ap (λ (x : Look). x.components) S.looks in
    let m : w.numbered ≡ k.looks.numbered = ap (λ (x : Look). x.numbered) S.looks in (
      with_made c w,
      record {
        looks = ap (λ (x : Look). record x { components = x.components ++ c ∷ []; numbered = x.numbered + 1 }) S.looks;
        loads = S.loads;
        noticed = S.noticed;
        progress = made_progress k.clients w c (n ∙ sym m) (rw cs l) S.given S.progress;
        streams = streams_made w c (n ∙ sym m) S.streams;
        once = S.once;
        given = λ i d b. let h = S.given i d b in omega arith;
      },
      refl,
    )

-- what is kept, without the component of the place
abbrev pub with_removed : ℕ → List Noticed → Kept → Kept
with_removed i noticed k = record k { looks = record k.looks { components = remove k.looks.components i }; clients = remove k.clients i; noticed = noticed }

others_given : (n m : ℕ) (gs : List Given) → n ≢ m → filter (is_given_to n) (filter (λ g. not (is_given_to m g)) gs) ≡ filter (is_given_to n) gs
others_given n m [] d = refl
others_given n m (g ∷ gs) d = let i = others_given n m gs d in grind (arith, nat_tests)

removed_progress : (clients : List (Option Progress)) (w : World) (i : ℕ) (c : Component) → IsOnly i c w.components → HasProgress clients w → HasProgress (remove clients i) (without_component i c w)
removed_progress clients w i c only P = λ j d h out.
    let m = if nat_lt j i then j else suc j in
    let here : slice_get w.components m ≡ Some d = sym (get_removed w.components i j) ∙ h in
    let p = P m d here out in
    let n = only m d here (moved_other i j) in
    get_removed clients i j ∙ (p ∙ ap (λ (gs : List Given). Some (Some (progress_after gs no_progress))) (sym (others_given (number_of d) (number_of c) w.given n)))

less_given : (n : ℕ) (test : Given → Bool) (gs : List Given) → All (λ g. g.component < n) gs → All (λ g. g.component < n) (filter test gs)
less_given n test gs h = All-filter test (λ g. g.component < n) gs h

pub lift_removed : (k : Kept) (i : ℕ) (c : Component) (noticed : List Noticed) → slice_get k.looks.components i ≡ Some c → IsOnly i c k.looks.components → ((P : Noticed → Type 0) → All P k.noticed → All P noticed)
    → StepsBare k (with_removed i noticed k) (λ w v. v ≡ without_component i c w)
lift_removed k i c noticed at only less = λ w S.
    let cs : w.components ≡ k.looks.components = ap (λ (x : Look). x.components) S.looks in (
      without_component i c w,
      record {
        looks = ap (λ (x : Look). record x { components = remove x.components i }) S.looks;
        loads = S.loads;
        noticed = less (IsNoticed w) S.noticed;
        progress = removed_progress k.clients w i c (subst (IsOnly i c) (sym cs) only) S.progress;
        streams = streams_removed w i c (rw cs at) (subst (IsOnly i c) (sym cs) only) S.streams;
        once = S.once;
        given = less_given w.numbered (λ g. not (is_given_to (number_of c) g)) w.given S.given;
      },
      refl,
    )
