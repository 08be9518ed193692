-- The files that were asked for, one after another.
use Rattle.std.proofs.Common.{◌≡◌, ℕ, zero, suc, ◌+◌, ◌≤◌, List, [], ◌∷◌, ◌++◌, length, take, slice_get, Option, Some, None, refl, sym, ap, ◌∙◌, append-nil, append_assoc}
use Rattle.std.specs.List.{cons_option, filter_map}
use Rattle.std.proofs.lemmas.List.{take_all, take_more}
use Rattle.std.proofs.lemmas.List.Elements.{filter_map-append}
use Rattle.std.proofs.lemmas.Option.{get_or_from_slice_get, slice_get_within}
use Rattle.outside_io.specs.Files.{GoesOn, Outside, with_name, with_names}
use Rattle.script_lang.specs.declared.play_line.PartLine.{PartLine}
use Rattle.play_files.specs.Asked.{HasAskedFor}
use Rattle.play_files.proofs.Lists.{consed_at}

pub names_twice : (one other : List (List ℕ)) (names : Option (List (List ℕ))) → with_names other (with_names one names) ≡ with_names (one ++ other) names
names_twice one other None = refl
names_twice one other (Some names) = ap Some (append_assoc names one other)

-- these names, and then those
pub asked_then : (old mid new : Outside) (one other : List (List ℕ)) → HasAskedFor old mid one → HasAskedFor mid new other → HasAskedFor old new (one ++ other)
asked_then old mid new one other a b = b ∙ ap (with_names other) a ∙ names_twice one other old.openings

-- which file a component has
module _ (file : PartLine → Option (List ℕ)) where
  part_more : (parts : List PartLine) (i : ℕ) (part : PartLine) → slice_get parts i ≡ Some part → filter_map file (take (i + 1) parts) ≡ filter_map file (take i parts) ++ filter_map file (part ∷ [])
  part_more parts i part there =
      ap (filter_map file) (take_more parts i part (slice_get_within parts i part there) ∙ ap (λ (p : PartLine). take i parts ++ p ∷ []) (get_or_from_slice_get parts i part part there))
      ∙ filter_map-append file (take i parts) (part ∷ [])

  one_name : (part : PartLine) (name : List ℕ) → file part ≡ Some name → filter_map file (part ∷ []) ≡ name ∷ []
  one_name part name is = ap (λ (held : Option (List ℕ)). cons_option held []) is

  no_name : (part : PartLine) → file part ≡ None → filter_map file (part ∷ []) ≡ []
  no_name part is = ap (λ (held : Option (List ℕ)). cons_option held []) is

  -- one more component, with a file
  pub asked_more : (old mid new : Outside) (parts : List PartLine) (i : ℕ) (part : PartLine) (name : List ℕ) → GoesOn mid new → slice_get parts i ≡ Some part → file part ≡ Some name
      → HasAskedFor old mid (filter_map file (take i parts)) → new.openings ≡ with_name name 1 mid.openings → HasAskedFor old new (filter_map file (take (i + 1) parts))
  asked_more old mid new parts i part name on there is before now =
      asked_then old mid new (filter_map file (take i parts)) (name ∷ []) before now
      ∙ ap (λ (names : List (List ℕ)). with_names names old.openings) (sym (part_more parts i part there ∙ ap (λ (names : List (List ℕ)). filter_map file (take i parts) ++ names) (one_name part name is)))

  -- one without
  pub asked_same : (old mid : Outside) (parts : List PartLine) (i : ℕ) (part : PartLine) → slice_get parts i ≡ Some part → file part ≡ None
      → HasAskedFor old mid (filter_map file (take i parts)) → HasAskedFor old mid (filter_map file (take (i + 1) parts))
  asked_same old mid parts i part there is before =
      before ∙ ap (λ (names : List (List ℕ)). with_names names old.openings)
      (sym (part_more parts i part there ∙ ap (λ (names : List (List ℕ)). filter_map file (take i parts) ++ names) (no_name part is) ∙ append-nil (filter_map file (take i parts))))

  -- all of them
  pub asked_all : (old mid : Outside) (parts : List PartLine) (i : ℕ) → length parts ≤ i → HasAskedFor old mid (filter_map file (take i parts)) → HasAskedFor old mid (filter_map file parts)
  asked_all old mid parts i over before = before ∙ ap (λ (ps : List PartLine). with_names (filter_map file ps) old.openings) (take_all i parts over)

  -- the file of a component is among them
  pub name_among : (parts : List PartLine) (place : ℕ) (part : PartLine) (name : List ℕ) → slice_get parts place ≡ Some part → file part ≡ Some name → (k : ℕ) × (slice_get (filter_map file parts) k ≡ Some name)
  name_among [] place part name there is = absurd cc
  name_among (first ∷ parts) zero part name there is =
      let same : first ≡ part = cc in
      (0, ap (λ (held : Option (List ℕ)). slice_get (cons_option held (filter_map file parts)) 0) (ap file same ∙ is))
  name_among (first ∷ parts) (suc place) part name there is =
      let later = name_among parts place part name there is in
      consed_at (file first) (filter_map file parts) later.0 name later.1
