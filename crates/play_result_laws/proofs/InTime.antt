-- What is asked stays in time as the steps go on, whichever steps count for asked.
use Rattle.std.proofs.Common.{◌≡◌, ◌⊎◌, inl, inr, ℕ, zero, suc, ◌+◌, ◌<◌, ◌≤◌, Bool, true, false, List, [], ◌∷◌, ◌++◌, take, length, slice_get, Some, sym, ◌∙◌, ap, subst, append-nil, length-append, arith}
use Rattle.std.specs.Prelude.{filter, flat_map, get_or}
use Rattle.std.proofs.lemmas.Bool.{cases_lt}
use Rattle.std.proofs.lemmas.List.{length-map, take-append-le, take_all}
use Rattle.std.proofs.lemmas.List.Concat.{flat_map-append}
use Rattle.std.proofs.lemmas.List.Folds.{length-flat_map-take}
use Rattle.std.proofs.lemmas.Option.{slice_get_within}
use Rattle.omx_types.specs.declared.handle.Handle.{Handle}
use Rattle.omx_types.specs.declared.state.State.TheVariants.{Loaded, Idle, Executing}
use Rattle.il_machine.specs.Acts.{Act, Reply}
use Rattle.play_build_laws.specs.Assembly.{Assembly}
use Rattle.play_build_laws.proofs.Places.{pushed_at}
use Rattle.play_result_laws.specs.Asked.{Asking, BackToIdle, Disabling, Enabling, HasCause, IsDone, Retuning, ToExecuting, ToIdle, ToLoaded, acts_of, sending}
use Rattle.play_result_laws.proofs.ListFronts.{cut_before, cut_last, kept_at, last_at}

-- Of the askings, one after the other: each begins where the one before it is done and it has its cause.
abbrev pub AreTimelyBy : (Act × Reply → Bool) → Assembly → List Handle → List Asking → List (Act × Reply) → Type 0
AreTimelyBy p s handles list steps = (k : ℕ) (one next : Asking) (before after : List (Act × Reply)) (step : Act × Reply) → slice_get list k ≡ Some one → slice_get list (k + 1) ≡ Some next
    → steps ≡ before ++ step ∷ after → p step ≡ true → filter p before ≡ flat_map (acts_of s handles) (take (k + 1) list) → IsDone s one before × HasCause s next before

-- an act that is asked after these steps begins an asking in time, if it begins one
abbrev pub IsNowBy : (Act × Reply → Bool) → Assembly → List Handle → List Asking → List (Act × Reply) → Type 0
IsNowBy p s handles list steps = (k : ℕ) (one next : Asking) → slice_get list k ≡ Some one → slice_get list (k + 1) ≡ Some next
    → filter p steps ≡ flat_map (acts_of s handles) (take (k + 1) list) → IsDone s one steps × HasCause s next steps

module _ (s : Assembly) (handles : List Handle) where
  abbrev pub all : List Asking → List (Act × Reply)
  all list = flat_map (acts_of s handles) list

  pub all_more : (list : List Asking) (next : Asking) → all (list ++ next ∷ []) ≡ all list ++ acts_of s handles next
  all_more list next = flat_map-append (acts_of s handles) list (next ∷ []) ∙ ap (λ (ys : List (Act × Reply)). all list ++ ys) (append-nil (acts_of s handles next))

  -- where there is a component, something is asked each time
  some_asked : 1 ≤ length handles → (x : Asking) → 1 ≤ length (acts_of s handles x)
  some_asked n ToIdle = let m = length-map handles (sending Idle) in omega arith
  some_asked n ToExecuting = let m = length-map handles (sending Executing) in omega arith
  some_asked n BackToIdle = let m = length-map handles (sending Idle) in omega arith
  some_asked n ToLoaded = let m = length-map handles (sending Loaded) in omega arith
  some_asked n (Disabling l) = omega arith
  some_asked n (Retuning l) = omega arith
  some_asked n (Enabling l) = omega arith

  module _ (p : Act × Reply → Bool) where
    -- ---- one step more

    pub timely_unasked : (list : List Asking) (xs : List (Act × Reply)) (x : Act × Reply) → p x ≡ false → AreTimelyBy p s handles list xs → AreTimelyBy p s handles list (xs ++ x ∷ [])
    timely_unasked list xs x u T = λ k one next before after step a b e t h. elim (cut_last xs before after x step e) [
      | inl c ↦ let z : true ≡ false = sym t ∙ (ap p c.1 ∙ u) in absurd cc
      | inr c ↦ T k one next before c.0 step a b c.1 t h
    ]

    pub timely_asked : (list : List Asking) (xs : List (Act × Reply)) (x : Act × Reply) → IsNowBy p s handles list xs → AreTimelyBy p s handles list xs → AreTimelyBy p s handles list (xs ++ x ∷ [])
    timely_asked list xs x D T = λ k one next before after step a b e t h. elim (cut_last xs before after x step e) [
      | inl c ↦ subst (λ (ys : List (Act × Reply)). IsDone s one ys × HasCause s next ys) (sym c.0) (D k one next a b (ap (filter p) (sym c.0) ∙ h))
      | inr c ↦ T k one next before c.0 step a b c.1 t h
    ]

    -- ---- more askings

    -- what was asked before an act that is asked is less than all of it
    fewer : (list : List Asking) (left xs before after : List (Act × Reply)) (step : Act × Reply) → filter p xs ++ left ≡ all list → xs ≡ before ++ step ∷ after → p step ≡ true → suc (length (filter p before)) ≤ length (all list)
    fewer list left xs before after step made e t =
        let split : all list ≡ (filter p before ++ step ∷ filter p after) ++ left = sym made ∙ ap (λ (ys : List (Act × Reply)). ys ++ left) (ap (filter p) e ∙ kept_at p before after step t) in
        let n = ap length split in
        let m = length-append (filter p before ++ step ∷ filter p after) left in
        let o = length-append (filter p before) (step ∷ filter p after) in
        omega (arith, n, m, o)

    taken_more : (ls ms : List Asking) (n : ℕ) → length ls ≤ n → length (all ls) ≤ length (all (take n (ls ++ ms)))
    taken_more [] ms n b = omega arith
    taken_more (l ∷ ls) ms zero b = absurd (omega arith)
    taken_more (l ∷ ls) ms (suc n) b =
        let r = taken_more ls ms n (omega arith) in
        let c = length-append (acts_of s handles l) (all ls) in
        let d = length-append (acts_of s handles l) (all (take n (ls ++ ms))) in
        omega (arith, r, c, d)

    -- further askings change nothing of what was asked
    pub timely_beyond : (list more : List Asking) (left xs : List (Act × Reply)) → filter p xs ++ left ≡ all list → AreTimelyBy p s handles list xs → AreTimelyBy p s handles (list ++ more) xs
    timely_beyond list more left xs made T = λ k one next before after step a b e t h. by k one next before after step a b e t h (cases_lt (k + 1) (length list))
      where
        by : (k : ℕ) (one next : Asking) (before after : List (Act × Reply)) (step : Act × Reply) → slice_get (list ++ more) k ≡ Some one → slice_get (list ++ more) (k + 1) ≡ Some next → xs ≡ before ++ step ∷ after → p step ≡ true
            → filter p before ≡ all (take (k + 1) (list ++ more)) → ((k + 1 < length list) ⊎ (length list ≤ k + 1)) → IsDone s one before × HasCause s next before
        by k one next before after step a b e t h (inl c) =
            T k one next before after step (cut_before list more k one a (omega (arith, c))) (cut_before list more (k + 1) next b c) e t (h ∙ ap all (take-append-le (k + 1) list more (omega (arith, c))))
        by k one next before after step a b e t h (inr c) =
            let few = fewer list left xs before after step made e t in
            let long = taken_more list more (k + 1) c in
            let z = ap length h in
            absurd (omega (arith, few, long, z))

    -- ---- one asking more

    module _ (list : List Asking) (next : Asking) (xs : List (Act × Reply)) where
      abbrev more : List Asking
      more = list ++ next ∷ []

      -- a place below the last one
      earlier : (k : ℕ) → k + 1 ≤ length list → take (k + 1) more ≡ take (k + 1) list
      earlier k b = take-append-le (k + 1) list (next ∷ []) b

      -- its first act is in time where what was asked before is done and it has its cause
      pub first_in_time : 1 ≤ length handles → filter p xs ≡ all list → ((one : Asking) (front : List Asking) → list ≡ front ++ one ∷ [] → IsDone s one xs × HasCause s next xs) → IsNowBy p s handles more xs
      first_in_time n whole D = λ k one nx a b h. elim (pushed_at list (k + 1) next nx b) [
        | inl f ↦
            let inside = slice_get_within list (k + 1) nx f in
            let short = length-flat_map-take (acts_of s handles) list (k + 1) next inside in
            let some = some_asked n (get_or list (k + 1) next) in
            let same = ap length (sym whole ∙ (h ∙ ap all (earlier k (omega (arith, inside))))) in
            absurd (omega (arith, short, some, same))
        | inr f ↦ elim (pushed_at list k next one a) [
          | inr g ↦ let q = f.0 in let r = g.0 in absurd (omega (arith, q, r))
          | inl g ↦
              let q = f.0 in
              let last = last_at list k one g (omega (arith, q)) in
              subst (λ (y : Asking). IsDone s one xs × HasCause s y xs) (sym f.1) (D one last.0 last.1)
        ]
      ]

      -- each further one needs no time of its own
      pub rest_in_time : length (all list) + 1 ≤ length (filter p xs) → IsNowBy p s handles more xs
      rest_in_time n = λ k one nx a b h. elim (pushed_at list (k + 1) next nx b) [
        | inl f ↦
            let inside = slice_get_within list (k + 1) nx f in
            let short = length-flat_map-take (acts_of s handles) list (k + 1) next inside in
            let same = ap length (h ∙ ap all (earlier k (omega (arith, inside)))) in
            absurd (omega (arith, n, short, same))
        | inr f ↦
            let q = f.0 in
            let same = ap length (h ∙ ap all (earlier k (omega (arith, q)) ∙ take_all (k + 1) list (omega (arith, q)))) in
            absurd (omega (arith, n, same))
      ]
