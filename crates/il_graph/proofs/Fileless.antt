-- A graph of which nothing is out, and in which no component has a file: no part has one.
use Rattle.std.proofs.Common.{◌≡◌, ℕ, ◌<◌, List, length, map, Option, Some, None, option_map, option_and_then, slice_get, refl, sym, ◌∙◌, ap, arith}
use Rattle.std.proofs.lemmas.Option.{slice_get-map, slice_get_within}
use Rattle.il_machine.specs.declared.answer.Progress.{Progress}
use Rattle.il_machine.specs.World.{Component}
use Rattle.machine_laws.proofs.Every.{at_place}
use Rattle.graph_core.specs.Ending.{IsAllIn}
use Rattle.graph_core.specs.Entries.{components_of}
use Rattle.audio_parts.specs.AnyParts.{attached_of}
use Rattle.audio_parts.specs.Shown.{ShownPart}
use Rattle.il_graph.specs.Shown.{Shown, IsWhole, look_of}
use Rattle.il_graph.proofs.Calling.{there_is}

same_file : {S K P : Type 0} (f : P → ShownPart S K) (o : Option P) → option_and_then (λ (p : ShownPart S K). p.file) (option_map f o) ≡ option_and_then (λ p. (f p).file) o
same_file f None = refl
same_file f (Some p) = refl

none_mapped : {A B : Type 0} (f : A → B) (o : Option A) → option_map f o ≡ None → o ≡ None
none_mapped f None e = refl
none_mapped f (Some x) e = absurd cc

some_same : {A : Type 0} (x y : A) (o : Option A) → o ≡ Some x → o ≡ Some y → x ≡ y
some_same x y o e f = cc

module _ {S K C : Type 0} (progress : C → Progress) (g : Shown S K C) (I : IsWhole progress g) (A : IsAllIn (look_of g)) where
  no_file : (k : ℕ) (o : Option (ShownPart S K)) → k < length g.parts → slice_get g.parts k ≡ Some o → option_and_then (λ (p : ShownPart S K). p.file) o ≡ None
  no_file k o b here =
      let cs = components_of g.core.entries in
      let m : k < length cs = let n = I.count in omega (arith, n, b) in
      let x = there_is cs k m in
      let work = at_place (λ (c : Component). c.work ≡ None) cs k x.0 A.works x.1 in
      let file = at_place (λ (c : Component). c.file ≡ None) cs k x.0 A.files x.1 in
      let p = I.parts.there k x.0 x.1 work in
      let same : o ≡ Some p.0 = some_same o (Some p.0) (slice_get g.parts k) here p.1 in
      ap (option_and_then (λ (p : ShownPart S K). p.file)) same ∙ none_mapped attached_of (p.0).file ((p.2).file ∙ file)

-- of each part
pub fileless : {S K C P : Type 0} (progress : C → Progress) (f : P → ShownPart S K) (g : Shown S K C) (items : List (Option P)) → g.parts ≡ map (option_map f) items → IsWhole progress g → IsAllIn (look_of g)
    → (k : ℕ) (o : Option P) → slice_get items k ≡ Some o → option_and_then (λ p. (f p).file) o ≡ None
fileless {S = S} {K = K} progress f g items e I A k o at =
    let here : slice_get g.parts k ≡ Some (option_map f o) = ap (λ (xs : List (Option (ShownPart S K))). slice_get xs k) e ∙ (slice_get-map (option_map f) items k ∙ ap (option_map (option_map f)) at) in
    sym (same_file f o) ∙ no_file progress g I A k (option_map f o) (slice_get_within g.parts k (option_map f o) here) here
