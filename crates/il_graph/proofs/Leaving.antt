-- A component leaves a graph with its part.
use Rattle.std.proofs.Common.{◌≡◌, ℕ, suc, nat_lt, List, remove, Option, Some, None, option_map, option_and_then, slice_get, Ok, if◌then◌else◌, refl, sym, ◌∙◌, ap, subst}
use Rattle.omx_types.specs.declared.handle.Handle.{Handle}
use Rattle.part_api.specs.declared.attached.Attached.{Attached}
use Rattle.il_machine.specs.declared.answer.Progress.{Progress}
use Rattle.il_machine.specs.World.{Component, World, number_of, place_of, place_numbered, is_numbered}
use Rattle.il_machine.proofs.Places.{is_first_place}
use Rattle.il_machine.specs.Look.{Look}
use Rattle.il_machine.specs.Components.{without_component}
use Rattle.il_machine.specs.Due.{first_due}
use Rattle.il_machine.specs.Acts as acts
use Rattle.il_machine.specs.Effect.{at_named}
use Rattle.il_machine.specs.Run.{Step}
use Rattle.il_machine.specs.Whole.{PartSeen, HasParts, Stands, Steps}
use Rattle.machine_laws.proofs.Pairs.{apart_numbers}
use Rattle.machine_laws.proofs.Granting.{placed_there}
use Rattle.stock_laws.specs.Bare.{StandsBare, StepsBare}
use Rattle.stock_laws.proofs.Lists.{map_remove, get_removed}
use Rattle.stock_laws.proofs.Streams.{parts_removed}
use Rattle.graph_core.specs.Entries.{Entries, components_of, look_of}
use Rattle.graph_core.specs.Entries as core
use Rattle.audio_parts.specs.Shown.{ShownPart}
use Rattle.il_graph.specs.Shown.{Shown, IsWhole, ArePartsOf, KeepsFiles, seen_parts, file_at, file_of, kept, seen_of}
use Rattle.il_graph.proofs.PartsStay.{PartsStay, after_effect}
use Rattle.il_graph.proofs.Whole.{places_alike, bare, sound_in, changed_whole, changed_alike, changed_is_whole}
use Rattle.il_graph.proofs.Places.{told_left, removed_alike}

-- what comes of an act on the component that a handle names
pub at_named_is : (h : Handle) (w : World) (change : ℕ → Component → World) (i : ℕ) (c : Component) → place_of h w.components ≡ Some i → slice_get w.components i ≡ Some c → at_named h w change ≡ change i c
at_named_is h w change i c p at = rw (p, at) refl

parts_left : {S K : Type 0} (cs : List Component) (parts : List (Option (ShownPart S K))) (i : ℕ) → ArePartsOf cs parts → ArePartsOf (remove cs i) (remove parts i)
parts_left cs parts i P = record {
  there = λ j d at out.
      let m = if nat_lt j i then j else suc j in
      let z = P.there m d (sym (get_removed cs i j) ∙ at) out in
      (z.0, get_removed parts i j ∙ z.1, z.2);
  away = λ j d at out. let m = if nat_lt j i then j else suc j in get_removed parts i j ∙ P.away m d (sym (get_removed cs i j) ∙ at) out;
}

-- the component at the place has left, and its part q
pub record HasLeft {S K C : Type 0} (progress : C → Progress) (g : Shown S K C) (k : Entries C) (h : Handle) (i : ℕ) (file : Option Attached) (q : Option (ShownPart S K)) : Type 0 where
  pub step : Steps (kept progress g) (kept progress (record { core = k; parts = remove g.parts i })) (λ w v. Step w (acts.FreeHandle h) (acts.Removed (Ok file)) v)
  pub whole : first_due (look_of k) ≡ None → IsWhole progress (record { core = k; parts = remove g.parts i })
  pub own : file_of h.generation g ≡ option_and_then (λ (p : ShownPart S K). p.file) q
  pub others : KeepsFiles h.generation g (record { core = k; parts = remove g.parts i })

module _ {S K C : Type 0} (progress : C → Progress) (g : Shown S K C) (k : Entries C) (h : Handle) (i : ℕ) (c : Component) (file : Option Attached) (I : IsWhole progress g)
    (place : place_of h (components_of g.core.entries) ≡ Some i) (at : slice_get (components_of g.core.entries) i ≡ Some c)
    (T : StepsBare (core.kept progress g.core) (core.kept progress k) (λ w v. Step w (acts.FreeHandle h) (acts.Removed (Ok file)) v)) where
  same : (w : World) → StandsBare (core.kept progress g.core) w → w.components ≡ components_of g.core.entries
  same w B = ap (λ (y : Look). y.components) B.looks

  stay : (w : World) (B : StandsBare (core.kept progress g.core) w) → PartsStay (without_component i c w) (T w B).0
  stay w B = subst (λ (u : World). PartsStay u (T w B).0)
      (at_named_is h w (λ i c. without_component i c w) i c (ap (place_of h) (same w B) ∙ place) (ap (λ (xs : List Component). slice_get xs i) (same w B) ∙ at))
      (after_effect w (sound_in progress g I w B) (acts.FreeHandle h) (acts.Removed (Ok file)) (T w B).0 tt (T w B).2)

  there : (w : World) → StandsBare (core.kept progress g.core) w → (without_component i c w).components ≡ remove (components_of g.core.entries) i
  there w B = ap (λ (xs : List Component). remove xs i) (same w B)

  parts : (w : World) → Stands (kept progress g) w → HasParts (seen_parts (remove g.parts i)) (without_component i c w)
  parts w s =
      let B = bare progress g w s in
      let own : slice_get w.components i ≡ Some c = ap (λ (xs : List Component). slice_get xs i) (same w B) ∙ at in
      subst (λ (ps : List (Option PartSeen)). HasParts ps (without_component i c w)) (sym (map_remove (option_map seen_of) g.parts i))
      (parts_removed (seen_parts g.parts) w i c (λ j d t a. apart_numbers w.numbered j i w.components d c (sound_in progress g I w B).rising t own a) s.parts)

  left_whole : Steps (kept progress g) (kept progress (record { core = k; parts = remove g.parts i })) (λ w v. Step w (acts.FreeHandle h) (acts.Removed (Ok file)) v)
  left_whole = changed_whole progress g k (acts.FreeHandle h) (acts.Removed (Ok file)) I (λ w B. tt) T (without_component i c) (remove (components_of g.core.entries) i) (remove g.parts i) stay there parts

  left_is_whole : first_due (look_of k) ≡ None → IsWhole progress (record { core = k; parts = remove g.parts i })
  left_is_whole closed = changed_is_whole progress g k (acts.FreeHandle h) (acts.Removed (Ok file)) I (λ w B. tt) T (without_component i c) (remove (components_of g.core.entries) i) (remove g.parts i) stay there parts
      closed (removed_alike g.parts (components_of g.core.entries) i I.count) (parts_left (components_of g.core.entries) g.parts i I.parts)

  -- the files of the others
  left_files : number_of c ≡ h.generation → KeepsFiles h.generation g (record { core = k; parts = remove g.parts i })
  left_files own n apart =
      let alike = changed_alike progress g k (acts.FreeHandle h) (acts.Removed (Ok file)) I (λ w B. tt) T (without_component i c) (remove (components_of g.core.entries) i) (remove g.parts i) stay there parts in
      let f : Option (ShownPart S K) → Option _ = option_and_then (λ (p : ShownPart S K). p.file) in
      ap (option_and_then (λ j. option_and_then f (slice_get (remove g.parts i) j))) (places_alike n (components_of k.entries) (remove (components_of g.core.entries) i) alike ∙ is_first_place (is_numbered n) (remove (components_of g.core.entries) i))
      ∙ (told_left f n i (components_of g.core.entries) g.parts c at (λ e. apart (sym e ∙ own))
      ∙ sym (ap (option_and_then (λ j. option_and_then f (slice_get g.parts j))) (is_first_place (is_numbered n) (components_of g.core.entries))))

  -- its own file
  own_file : number_of c ≡ h.generation → (p : Option (ShownPart S K)) → slice_get g.parts i ≡ Some p → file_of h.generation g ≡ option_and_then (λ (q : ShownPart S K). q.file) p
  own_file own p here =
      let w = I.worlds.world in
      let B = bare progress g w I.worlds.stands in
      let t : slice_get w.components i ≡ Some c = ap (λ (xs : List Component). slice_get xs i) (same w B) ∙ at in
      let q : place_numbered h.generation (components_of g.core.entries) ≡ Some i = ap (λ (n : ℕ). place_numbered n (components_of g.core.entries)) (sym own)
      ∙ (ap (place_numbered (number_of c)) (sym (same w B)) ∙ placed_there w.numbered i w.components c I.worlds.sound.rising t) in
      ap (option_and_then (file_at g)) q ∙ ap (option_and_then (option_and_then (λ (q : ShownPart S K). q.file))) here

  pub has_left : number_of c ≡ h.generation → (q : Option (ShownPart S K)) → slice_get g.parts i ≡ Some q → HasLeft progress g k h i file q
  has_left own q here = record { step = left_whole; whole = left_is_whole; own = own_file own q here; others = left_files own }
