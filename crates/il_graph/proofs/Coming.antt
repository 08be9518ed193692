-- A component comes to a graph with its part.
use Rattle.std.proofs.Common.{◌≡◌, inl, inr, ℕ, suc, ◌<◌, true, false, List, [], ◌∷◌, ◌++◌, length, Option, Some, None, is_some, All, option_map, option_and_then, slice_get, Ok, refl, sym, ◌∙◌, ap, subst, ne_eqb, arith}
use Rattle.std.proofs.lemmas.List.{length-map, length-append, map-append}
use Rattle.omx_types.specs.declared.handle.Handle.{Handle}
use Rattle.omx_types.specs.declared.kind.Kind.{Kind}
use Rattle.il_machine.specs.declared.answer.Progress.{Progress}
use Rattle.il_machine.specs.Kinds.{kind_of}
use Rattle.il_machine.specs.World.{Component, World, number_of, is_numbered, place_numbered, fresh, fresh_stream}
use Rattle.il_machine.specs.Places.{first_place}
use Rattle.il_machine.proofs.Places.{is_first_place}
use Rattle.il_machine.specs.Look.{Look}
use Rattle.il_machine.specs.Components.{with_new_component}
use Rattle.il_machine.specs.Due.{first_due}
use Rattle.il_machine.specs.Parts.{terms_of}
use Rattle.il_machine.specs.Acts as acts
use Rattle.il_machine.specs.Run.{Step}
use Rattle.il_machine.specs.Whole.{PartSeen, HasDone, HasParts, Stands, Steps}
use Rattle.machine_laws.proofs.Every.{from_places}
use Rattle.machine_laws.proofs.Lookups.{rises_at}
use Rattle.stock_laws.specs.Bare.{StandsBare, StepsBare}
use Rattle.stock_laws.proofs.Lists.{get_last, get_before_last, get_at_last}
use Rattle.stock_laws.proofs.Streams.{parts_made}
use Rattle.audio_parts.specs.declared.part_file.PartFile.{PartFile}
use Rattle.graph_core.specs.Entries.{Entries, components_of, look_of}
use Rattle.graph_core.specs.Entries as core
use Rattle.audio_parts.specs.Shown.{ShownPart}
use Rattle.il_graph.specs.Shown.{Shown, IsWhole, IsPartOf, ArePartsOf, KeepsFiles, seen_parts, file_of, kept, seen_of}
use Rattle.il_graph.proofs.PartsStay.{PartsStay, after_effect}
use Rattle.il_graph.proofs.Whole.{places_alike, bare, sound_in, changed_whole, changed_alike, changed_is_whole}
use Rattle.il_graph.proofs.Places.{told_come, told_new}

no_number : (n : ℕ) (cs : List Component) → All (λ c. number_of c < n) cs → first_place (is_numbered n) cs ≡ None
no_number n [] A = refl
no_number n (c ∷ cs) A =
    let b = A 0 c (omega arith) in
    let t : is_numbered n c ≡ false = ne_eqb (number_of c) n (λ e. absurd (omega (arith, b, e))) in
    rw (t, no_number n cs (λ k d q. A (suc k) d (omega arith))) refl

parts_come : {S K : Type 0} (cs : List Component) (parts : List (Option (ShownPart S K))) (d : Component) (p : ShownPart S K) → length parts ≡ length cs → IsPartOf d p → d.work ≡ None → ArePartsOf cs parts → ArePartsOf (cs ++ d ∷ []) (parts ++ Some p ∷ [])
parts_come cs parts d p l D none P = record {
  there = λ j x t out. elim (get_last cs j d x t) [
    | inl q ↦ let z = P.there j x q out in (z.0, get_before_last parts j (Some p) (Some z.0) z.1, z.2)
    | inr q ↦ (p, rw (q.0, ← l) (get_at_last parts (Some p)), subst (λ (y : Component). IsPartOf y p) (sym q.1) D)
  ];
  away = λ j x t out. elim (get_last cs j d x t) [
    | inl q ↦ get_before_last parts j (Some p) None (P.away j x q out)
    | inr q ↦ let a : true ≡ false = sym out ∙ ap is_some (ap (λ (y : Component). y.work) q.1 ∙ none) in absurd cc
  ];
}

-- a component has come, behind all others, and its part p
pub record HasCome {S K C : Type 0} (progress : C → Progress) (g : Shown S K C) (k : Entries C) (name : List ℕ) (h : Handle) (p : ShownPart S K) : Type 0 where
  pub step : Steps (kept progress g) (kept progress (record { core = k; parts = g.parts ++ Some p ∷ [] })) (λ w v. Step w (acts.GetHandle name) (acts.Got (Ok h)) v)
  pub whole : first_due (look_of k) ≡ None → IsWhole progress (record { core = k; parts = g.parts ++ Some p ∷ [] })
  pub own : p.file ≡ None → file_of h.generation (record { core = k; parts = g.parts ++ Some p ∷ [] }) ≡ None
  pub others : KeepsFiles h.generation g (record { core = k; parts = g.parts ++ Some p ∷ [] })

module _ {S K C : Type 0} (progress : C → Progress) (g : Shown S K C) (k : Entries C) (name : List ℕ) (h : Handle) (kind : Kind) (I : IsWhole progress g)
    (named : kind_of name ≡ Some kind) (number : h.generation ≡ (look_of g.core).numbered)
    (T : StepsBare (core.kept progress g.core) (core.kept progress k) (λ w v. Step w (acts.GetHandle name) (acts.Got (Ok h)) v))
    (p : ShownPart S K) (done : (n : ℕ) → HasDone (terms_of (fresh h kind)) false (fresh_stream n) (seen_of p)) (tied : IsPartOf (fresh h kind) p) where
  same : (w : World) → StandsBare (core.kept progress g.core) w → w.components ≡ components_of g.core.entries
  same w B = ap (λ (y : Look). y.components) B.looks

  below : (w : World) → StandsBare (core.kept progress g.core) w → All (λ c. number_of c < w.numbered) w.components
  below w B = from_places (λ c. number_of c < w.numbered) w.components (λ i c e. (rises_at 0 w.numbered i w.components c (sound_in progress g I w B).rising e).1)

  stay : (w : World) (B : StandsBare (core.kept progress g.core) w) → PartsStay (with_new_component h kind w) (T w B).0
  stay w B = rw named at (after_effect w (sound_in progress g I w B) (acts.GetHandle name) (acts.Got (Ok h)) (T w B).0 tt (T w B).2)

  there : (w : World) → StandsBare (core.kept progress g.core) w → (with_new_component h kind w).components ≡ components_of g.core.entries ++ fresh h kind ∷ []
  there w B = ap (λ (xs : List Component). xs ++ fresh h kind ∷ []) (same w B)

  parts : (w : World) → Stands (kept progress g) w → HasParts (seen_parts (g.parts ++ Some p ∷ [])) (with_new_component h kind w)
  parts w s =
      let B = bare progress g w s in
      let n : number_of (fresh h kind) ≡ w.numbered = number ∙ sym (ap (λ (l : Look). l.numbered) B.looks) in
      subst (λ (ps : List (Option PartSeen)). HasParts ps (with_new_component h kind w)) (sym (map-append (option_map seen_of) g.parts (Some p ∷ [])))
      (parts_made (seen_parts g.parts) w (fresh h kind) (seen_of p) n (done w.numbered) (length-map g.parts (option_map seen_of) ∙ (I.count ∙ ap length (sym (same w B)))) (below w B) s.streams s.parts)

  made_whole : Steps (kept progress g) (kept progress (record { core = k; parts = g.parts ++ Some p ∷ [] })) (λ w v. Step w (acts.GetHandle name) (acts.Got (Ok h)) v)
  made_whole = changed_whole progress g k (acts.GetHandle name) (acts.Got (Ok h)) I (λ w B. tt) T (with_new_component h kind) (components_of g.core.entries ++ fresh h kind ∷ []) (g.parts ++ Some p ∷ []) stay there parts

  made_is_whole : first_due (look_of k) ≡ None → IsWhole progress (record { core = k; parts = g.parts ++ Some p ∷ [] })
  made_is_whole closed = changed_is_whole progress g k (acts.GetHandle name) (acts.Got (Ok h)) I (λ w B. tt) T (with_new_component h kind) (components_of g.core.entries ++ fresh h kind ∷ []) (g.parts ++ Some p ∷ []) stay there parts
      closed
      (let a = length-append g.parts (Some p ∷ []) in let b = length-append (components_of g.core.entries) (fresh h kind ∷ []) in let c = I.count in omega (arith, a, b, c))
      (parts_come (components_of g.core.entries) g.parts (fresh h kind) p I.count tied refl I.parts)

  placed : (n : ℕ) → place_numbered n (components_of k.entries) ≡ first_place (is_numbered n) (components_of g.core.entries ++ fresh h kind ∷ [])
  placed n =
      let alike = changed_alike progress g k (acts.GetHandle name) (acts.Got (Ok h)) I (λ w B. tt) T (with_new_component h kind) (components_of g.core.entries ++ fresh h kind ∷ []) (g.parts ++ Some p ∷ []) stay there parts in
      places_alike n (components_of k.entries) (components_of g.core.entries ++ fresh h kind ∷ []) alike ∙ is_first_place (is_numbered n) (components_of g.core.entries ++ fresh h kind ∷ [])

  -- the files of the others
  made_files : KeepsFiles h.generation g (record { core = k; parts = g.parts ++ Some p ∷ [] })
  made_files n apart =
      let f : Option (ShownPart S K) → Option (PartFile S K) = option_and_then (λ (x : ShownPart S K). x.file) in
      ap (option_and_then (λ j. option_and_then f (slice_get (g.parts ++ Some p ∷ []) j))) (placed n)
      ∙ (told_come f n (components_of g.core.entries) g.parts (fresh h kind) (Some p) I.count (λ e. apart (sym e))
      ∙ sym (ap (option_and_then (λ j. option_and_then f (slice_get g.parts j))) (is_first_place (is_numbered n) (components_of g.core.entries))))

  made_own : p.file ≡ None → file_of h.generation (record { core = k; parts = g.parts ++ Some p ∷ [] }) ≡ None
  made_own none =
      let f : Option (ShownPart S K) → Option (PartFile S K) = option_and_then (λ (x : ShownPart S K). x.file) in
      let w = I.worlds.world in
      let B = bare progress g w I.worlds.stands in
      let few : All (λ c. number_of c < h.generation) (components_of g.core.entries) = subst (λ (n : ℕ). All (λ c. number_of c < n) (components_of g.core.entries)) (ap (λ (l : Look). l.numbered) B.looks ∙ sym number)
      (subst (λ (cs : List Component). All (λ c. number_of c < w.numbered) cs) (same w B) (below w B)) in
      ap (option_and_then (λ j. option_and_then f (slice_get (g.parts ++ Some p ∷ []) j))) (placed h.generation)
      ∙ (told_new f h.generation (components_of g.core.entries) g.parts (fresh h kind) (Some p) I.count refl (no_number h.generation (components_of g.core.entries) few) ∙ none)

  pub has_come : HasCome progress g k name h p
  has_come = record { step = made_whole; whole = made_is_whole; own = made_own; others = made_files }
