-- The acts of an assembly, one behind the other, lead to its last stage.
use Rattle.std.proofs.Common.{◌≡◌, inl, inr, ℕ, zero, suc, ◌+◌, ◌<◌, ◌≤◌, Bool, true, false, List, [], ◌∷◌, ◌++◌, append_assoc, length, slice_get, Option, Some, None, Ok, Err, refl, sym, ◌∙◌, ap, subst, arith}
use Rattle.std.proofs.lemmas.Option.{slice_get-get_or}
use Rattle.omx_types.specs.declared.handle.Handle.{Handle}
use Rattle.omx_types.specs.declared.error.CallError.TheVariants.{OutOfMemory}
use Rattle.omx_types.specs.declared.param.Supplier.TheVariants.{Input}
use Rattle.il_machine.specs.Acts.{Act, Reply}
use Rattle.il_machine.specs.Files.{Offered}
use Rattle.il_machine.specs.Run.{Run}
use Rattle.il_machine.specs.World.{World, no_world}
use Rattle.play_build_laws.specs.Assembly.{Assembly, IsLawful, component_at}
use Rattle.play_build_laws.specs.Building.{building, factorings, factorings_of, filing_of, filings, handle_at, joinings, makings, no_handle, settings_of}
use Rattle.play_build_laws.specs.Stages.{Factoring, Filing, IsStage, Joining, Making, Setting}
use Rattle.play_build_laws.proofs.Stages.{all_factored, all_filed, all_made, all_set, begins, factors, files, joins, makes, none_filed, one_factored, sets_input, sets_output}

-- the first part of a run, and the rest
split : (w : World) (xs ys : List (Act × Reply)) (v : World) → Run w (xs ++ ys) v → (mid : World) × Run w xs mid × Run mid ys v
split w [] ys v r = (w, refl, r)
split w (x ∷ xs) ys v (mid, meets, step, rest) = let s = split mid xs ys v rest in (s.0, (mid, meets, step, s.1), s.2)

append_nil : {A : Type 0} (xs : List A) → xs ++ [] ≡ xs
append_nil [] = refl
append_nil {A} (x ∷ xs) = ap (λ (ys : List A). x ∷ ys) (append_nil xs)

module _ (s : Assembly) (L : IsLawful s) where
  all_makings : (place : ℕ) (before hs : List Handle) (w v : World) → place + length hs ≤ s.components → IsStage s (Making place) before w → Run w (makings s place hs) v → IsStage s (Making (place + length hs)) (before ++ hs) v
  all_makings place before [] w v b W r =
      let e : place ≡ place + 0 = omega arith in
      let n : before ++ [] ≡ before = append_nil before in
      subst (IsStage s (Making (place + 0)) (before ++ [])) (sym r) (subst (λ (k : ℕ). IsStage s (Making k) (before ++ []) w) e (subst (λ (hs : List Handle). IsStage s (Making place) hs w) (sym n) W))
  all_makings place before (h ∷ hs) w v b W (mid, meets, step, rest) = elim (makes s L before w mid place (Ok h) W (omega arith) step) [
    | inr x ↦ let z : Ok h ≡ Err OutOfMemory = x.0 in absurd cc
    | inl x ↦
        let is : x.0 ≡ h = cc in
        let next : IsStage s (Making (place + 1)) (before ++ h ∷ []) mid = subst (λ (g : Handle). IsStage s (Making (place + 1)) (before ++ g ∷ []) mid) is x.2 in
        let last = all_makings (place + 1) (before ++ h ∷ []) hs mid v (omega arith) next rest in
        let n : place + 1 + length hs ≡ place + suc (length hs) = omega arith in
        subst (λ (k : ℕ). IsStage s (Making k) (before ++ h ∷ hs) v) n (subst (λ (gs : List Handle). IsStage s (Making (place + 1 + length hs)) gs v) (append_assoc before (h ∷ []) hs) last)
  ]

  module _ (handles : List Handle) where
    all_of_one : (c i : ℕ) (h : Handle) (fs : List ℕ) (w v : World) → c < s.components → slice_get handles c ≡ Some h → ((k factor : ℕ) → slice_get fs k ≡ Some factor → slice_get (s.factors c) (i + k) ≡ Some factor)
        → IsStage s (Factoring c i) handles w → Run w (factorings_of (s.kind c) h i fs) v → IsStage s (Factoring c (i + length fs)) handles v
    all_of_one c i h [] w v b e f W r =
        let n : i ≡ i + 0 = omega arith in
        subst (IsStage s (Factoring c (i + 0)) handles) (sym r) (subst (λ (k : ℕ). IsStage s (Factoring c k) handles w) n W)
    all_of_one c i h (factor ∷ fs) w v b e f W (mid, meets, step, rest) =
        let z : i + 0 ≡ i = omega arith in
        let one : slice_get (s.factors c) i ≡ Some factor = ap (slice_get (s.factors c)) (sym z) ∙ f 0 factor refl in
        let next = factors s L handles w mid c i factor h (Ok tt) W b e one step in
        let last = all_of_one c (i + 1) h fs mid v b e (λ k x g. let q : i + 1 + k ≡ i + suc k = omega arith in ap (slice_get (s.factors c)) q ∙ f (suc k) x g) next.1 rest in
        let n : i + 1 + length fs ≡ i + suc (length fs) = omega arith in
        subst (λ (k : ℕ). IsStage s (Factoring c k) handles v) n last

    all_factorings : (place : ℕ) (hs : List Handle) (w v : World) → place + length hs ≡ s.components → ((k : ℕ) (h : Handle) → slice_get hs k ≡ Some h → slice_get handles (place + k) ≡ Some h)
        → IsStage s (Factoring place 0) handles w → Run w (factorings s place hs) v → IsStage s (Factoring s.components 0) handles v
    all_factorings place [] w v b f W r =
        let n : place ≡ s.components = omega arith in
        subst (IsStage s (Factoring s.components 0) handles) (sym r) (subst (λ (k : ℕ). IsStage s (Factoring k 0) handles w) n W)
    all_factorings place (h ∷ hs) w v b f W r =
        let z : place + 0 ≡ place = omega arith in
        let e : slice_get handles place ≡ Some h = ap (slice_get handles) (sym z) ∙ f 0 h refl in
        let p = split w (factorings_of (s.kind place) h 0 (s.factors place)) (factorings s (place + 1) hs) v r in
        let one = all_of_one place 0 h (s.factors place) w p.0 (omega arith) e (λ k x g. let q : k ≡ 0 + k = omega arith in ap (slice_get (s.factors place)) (sym q) ∙ g) W p.1 in
        let n : 0 + length (s.factors place) ≡ length (s.factors place) = omega arith in
        let next = one_factored s handles p.0 place (subst (λ (k : ℕ). IsStage s (Factoring place k) handles p.0) n one) in
        all_factorings (place + 1) hs p.0 v (omega arith) (λ k x g. let q : place + 1 + k ≡ place + suc k = omega arith in ap (slice_get handles) q ∙ f (suc k) x g) next p.2

    module _ (M : length handles ≡ s.components) where
      handle_there : (side : Bool) (l : ℕ) → l < s.links → slice_get handles (component_at s side l) ≡ Some (handle_at s handles side l)
      handle_there side l b = let t = (L.ends side l b).there in slice_get-get_or handles (component_at s side l) no_handle (omega arith)

      all_settings : (l n : ℕ) (w v : World) → l + n ≡ s.links → IsStage s (Setting l false) handles w → Run w (settings_of s handles l n) v → IsStage s (Setting s.links false) handles v
      all_settings l zero w v b W r =
          let n : l ≡ s.links = omega arith in
          subst (IsStage s (Setting s.links false) handles) (sym r) (subst (λ (k : ℕ). IsStage s (Setting k false) handles w) n W)
      all_settings l (suc n) w v b W (mid, meets, step, (mid2, meets2, step2, rest)) =
          let d : l < s.links = omega arith in
          let one = sets_output s L handles w mid l (handle_at s handles false l) (Ok tt) W d (handle_there false l d) step in
          let two = sets_input s L handles mid mid2 l (handle_at s handles true l) (Ok tt) one.1 d (handle_there true l d) step2 in
          all_settings (l + 1) n mid2 v (omega arith) two.1 rest

      all_joinings : (l n : ℕ) (w v : World) → l + n ≡ s.links → IsStage s (Joining l) handles w → Run w (joinings s handles l n) v → IsStage s (Joining s.links) handles v
      all_joinings l zero w v b W r =
          let n : l ≡ s.links = omega arith in
          subst (IsStage s (Joining s.links) handles) (sym r) (subst (λ (k : ℕ). IsStage s (Joining k) handles w) n W)
      all_joinings l (suc n) w v b W (mid, meets, step, rest) =
          let d : l < s.links = omega arith in
          let one = joins s L handles w mid l (handle_at s handles false l) (handle_at s handles true l) (Ok Input) W d (handle_there false l d) (handle_there true l d) step in
          all_joinings (l + 1) n mid v (omega arith) one.1 rest

    one_filing : (place : ℕ) (h : Handle) (o : Option Offered) (w v : World) → s.file place ≡ o → place < s.components → slice_get handles place ≡ Some h → IsStage s (Filing place) handles w → Run w (filing_of h o) v
        → IsStage s (Filing (place + 1)) handles v
    one_filing place h None w v f b e W r = subst (IsStage s (Filing (place + 1)) handles) (sym r) (none_filed s handles w place f W)
    one_filing place h (Some file) w v f b e W (mid, meets, step, rest) = subst (IsStage s (Filing (place + 1)) handles) (sym rest) (files s L handles w mid place h file (Ok tt) W b e f step).1

    all_filings : (place : ℕ) (hs : List Handle) (w v : World) → place + length hs ≡ s.components → ((k : ℕ) (h : Handle) → slice_get hs k ≡ Some h → slice_get handles (place + k) ≡ Some h)
        → IsStage s (Filing place) handles w → Run w (filings s place hs) v → IsStage s (Filing s.components) handles v
    all_filings place [] w v b f W r =
        let n : place ≡ s.components = omega arith in
        subst (IsStage s (Filing s.components) handles) (sym r) (subst (λ (k : ℕ). IsStage s (Filing k) handles w) n W)
    all_filings place (h ∷ hs) w v b f W r =
        let z : place + 0 ≡ place = omega arith in
        let e : slice_get handles place ≡ Some h = ap (slice_get handles) (sym z) ∙ f 0 h refl in
        let p = split w (filing_of h (s.file place)) (filings s (place + 1) hs) v r in
        let one = one_filing place h (s.file place) w p.0 refl (omega arith) e W p.1 in
        all_filings (place + 1) hs p.0 v (omega arith) (λ k x g. let q : place + 1 + k ≡ place + suc k = omega arith in ap (slice_get handles) q ∙ f (suc k) x g) one p.2

pub built_so : (s : Assembly) (key : ℕ) (handles : List Handle) (v : World) → IsLawful s → length handles ≡ s.components → Run (no_world key s.units) (building s handles) v → IsStage s (Joining s.links) handles v
built_so s key handles v L M r =
    let start : World = no_world key s.units in
    let four = split start (makings s 0 handles ++ factorings s 0 handles ++ settings_of s handles 0 s.links ++ filings s 0 handles) (joinings s handles 0 s.links) v r in
    let three = split start (makings s 0 handles ++ factorings s 0 handles ++ settings_of s handles 0 s.links) (filings s 0 handles) four.0 four.1 in
    let two = split start (makings s 0 handles ++ factorings s 0 handles) (settings_of s handles 0 s.links) three.0 three.1 in
    let one = split start (makings s 0 handles) (factorings s 0 handles) two.0 two.1 in
    let whole : 0 + length handles ≡ s.components = omega arith in
    let each : (k : ℕ) (h : Handle) → slice_get handles k ≡ Some h → slice_get handles (0 + k) ≡ Some h = λ k h e. let q : k ≡ 0 + k = omega arith in ap (slice_get handles) (sym q) ∙ e in
    let made = all_makings s L 0 [] handles start one.0 (omega arith) (begins s key) one.1 in
    let A = all_made s handles one.0 (subst (λ (k : ℕ). IsStage s (Making k) handles one.0) whole made) in
    let B = all_factored s handles two.0 (all_factorings s L handles 0 handles one.0 two.0 whole each A one.2) in
    let n : 0 + s.links ≡ s.links = omega arith in
    let C = all_set s handles three.0 (all_settings s L handles M 0 s.links two.0 three.0 n B two.2) in
    let D = all_filed s handles four.0 (all_filings s L handles 0 handles three.0 four.0 whole each C three.2) in
    all_joinings s L handles M 0 s.links four.0 v n D four.2
