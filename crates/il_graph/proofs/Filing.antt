-- A file comes to a component's part.
use Rattle.std.proofs.Common.{◌≡◌, inl, inr, ℕ, ◌-◌, true, false, nat_eq, List, drop, map, set, Option, Some, None, is_some, option_map, option_and_then, slice_get, Ok, refl, sym, ◌∙◌, ap, subst, eqb-true, length-set}
use Rattle.std.proofs.lemmas.Bool.Decides.{eqb_tells}
use Rattle.std.proofs.lemmas.Option.{slice_get-map}
use Rattle.omx_types.specs.declared.handle.Handle.{Handle}
use Rattle.il_machine.specs.declared.answer.Progress.{Progress}
use Rattle.il_machine.specs.World.{Component, Stream, World, number_of, place_of, place_numbered, is_numbered}
use Rattle.il_machine.specs.Places.{first_place}
use Rattle.il_machine.proofs.Places.{is_first_place, passes_at}
use Rattle.il_machine.specs.Look.{Look}
use Rattle.il_machine.specs.Due.{first_due}
use Rattle.part_api.specs.declared.attached.Attached.{Attached}
use Rattle.part_api.specs.Terms.{Terms}
use Rattle.il_component.specs.Files.{offered as file_offered}
use Rattle.audio_parts.specs.AnyParts.{OnFrom, attached_of}
use Rattle.audio_parts.specs.Kinds.{with_file as with_part_file}
use Rattle.audio_parts.specs.Shapes.{IsLawful}
use Rattle.audio_parts.specs.declared.part_file.PartFile.TheVariants as files
use Rattle.il_graph.specs.Filed.{IsFiled}
use Rattle.il_machine.specs.Files.{Offered, OfferedFrom, attached, stream_with, with_file}
use Rattle.il_machine.specs.Parts.{terms_of}
use Rattle.il_machine.specs.Acts as acts
use Rattle.il_machine.specs.Run.{Step}
use Rattle.il_machine.specs.Whole.{PartSeen, HasDone, HasParts, Stands, Steps}
use Rattle.machine_laws.proofs.Pairs.{apart_numbers}
use Rattle.machine_laws.proofs.Granting.{placed_there}
use Rattle.stock_laws.specs.Bare.{StandsBare, StepsBare}
use Rattle.stock_laws.proofs.Lists.{map_set, get_set_same, get_set_other}
use Rattle.stock_laws.proofs.Entries.{set_same}
use Rattle.stock_laws.proofs.Works.{parts_attached}
use Rattle.audio_parts.specs.declared.part_file.PartFile.{PartFile}
use Rattle.graph_core.specs.Entries.{Entries, components_of, look_of}
use Rattle.graph_core.specs.Entries as core
use Rattle.graph_core.proofs.Replacing.{first_mapped}
use Rattle.audio_parts.specs.Shown.{ShownPart}
use Rattle.il_graph.specs.Shown.{Shown, IsWhole, IsPartOf, ArePartsOf, KeepsFiles, seen_parts, file_of, kept, offered, seen_of}
use Rattle.il_graph.proofs.PartsStay.{PartsStay, after_effect}
use Rattle.il_graph.proofs.Whole.{places_alike, bare, sound_in, changed_whole, changed_alike, changed_is_whole}
use Rattle.il_graph.proofs.Places.{told_set}
use Rattle.il_graph.proofs.Leaving.{at_named_is}

-- ---- the file as the core is offered it

abbrev pub told_of : {S K : Type 0} → (S → ℕ) → (S → Option (List ℕ)) → (K → Option (List ℕ)) → PartFile S K → Option (List ℕ)
told_of place told kept (files.From src format frames) = option_map (drop (place src)) (told src)
told_of place told kept (files.To snk frames) = kept snk

offered_is : {S K : Type 0} (place size : S → ℕ) (told : S → Option (List ℕ)) (kept : K → Option (List ℕ)) (file : PartFile S K) (there : ℕ) → OnFrom file (λ src format frames. there ≡ size src - place src)
    → file_offered (attached_of file) there (told_of place told kept file) ≡ offered place size told kept file
offered_is place size told kept (files.From src format frames) there e = ap (λ (n : ℕ). OfferedFrom format frames n (option_map (drop (place src)) (told src))) e
offered_is place size told kept (files.To snk frames) there e = refl

pub offered_so : {S K : Type 0} (place size : S → ℕ) (told : S → Option (List ℕ)) (kept : K → Option (List ℕ)) (file : PartFile S K) (a : Attached) (there : ℕ) → a ≡ attached_of file → OnFrom file (λ src format frames. there ≡ size src - place src)
    → file_offered a there (told_of place told kept file) ≡ offered place size told kept file
offered_so place size told kept file a there e f = ap (λ (x : Attached). file_offered x there (told_of place told kept file)) e ∙ offered_is place size told kept file there f

pub attached_same : {S K : Type 0} (place size : S → ℕ) (told : S → Option (List ℕ)) (kept : K → Option (List ℕ)) (file : PartFile S K) → attached (offered place size told kept file) ≡ attached_of file
attached_same place size told kept (files.From src format frames) = refl
attached_same place size told kept (files.To snk frames) = refl

-- with it the part is the component's
pub filed_tied : {S K : Type 0} (c : Component) (o : Offered) (file : PartFile S K) (p q : ShownPart S K) → attached o ≡ attached_of file → IsPartOf c p → IsFiled file o p q → IsPartOf (record c { file = Some (attached o) }) q
filed_tied c o file p q e T R =
    let t : q.terms ≡ with_part_file p.terms (Some (attached_of file)) = R.terms in
    let L = T.lawful in
    record {
      kind = ap (λ (x : Terms). x.kind) t ∙ T.kind;
      lawful = subst IsLawful (sym t) (record { inputs = L.inputs; outputs = L.outputs; input_count = L.input_count; output_count = L.output_count; factor_count = L.factor_count });
      file = ap (option_map attached_of) R.file_is ∙ ap (λ (x : Attached). Some x) (sym e);
      attached = ap (λ (x : Terms). x.file) t ∙ ap (λ (x : Attached). Some x) (sym e);
      failed = R.failed ∙ T.failed;
    }

-- the part at the place is another
pub parts_set : {S K : Type 0} (cs : List Component) (parts : List (Option (ShownPart S K))) (i : ℕ) (c d : Component) (q : Option (ShownPart S K)) (p : ShownPart S K) → slice_get cs i ≡ Some c → slice_get parts i ≡ Some q → IsPartOf d p → d.work ≡ None
    → ArePartsOf cs parts → ArePartsOf (set cs i d) (set parts i (Some p))
parts_set {S = S} {K = K} cs parts i c d q p at here D none P = record { there = there; away = away }
  where
    same : (j : ℕ) (x : Component) → slice_get (set cs i d) j ≡ Some x → j ≡ i → x ≡ d
    same j x t e = let z : Some x ≡ Some d = sym t ∙ rw e (get_set_same cs i c d at) in cc

    there : (j : ℕ) (x : Component) → slice_get (set cs i d) j ≡ Some x → x.work ≡ None → (y : ShownPart S K) × (slice_get (set parts i (Some p)) j ≡ Some (Some y)) × IsPartOf x y
    there j x t out = elim (eqb_tells j i) [
      | inl e ↦ (p, rw e.1 (get_set_same parts i q (Some p) here), subst (λ (y : Component). IsPartOf y p) (sym (same j x t e.1)) D)
      | inr e ↦ let z = P.there j x (sym (get_set_other cs i j d e.1) ∙ t) out in (z.0, get_set_other parts i j (Some p) e.1 ∙ z.1, z.2)
    ]

    away : (j : ℕ) (x : Component) → slice_get (set cs i d) j ≡ Some x → is_some x.work ≡ true → slice_get (set parts i (Some p)) j ≡ Some None
    away j x t works = elim (eqb_tells j i) [
      | inl e ↦ let a : true ≡ false = sym works ∙ ap is_some (ap (λ (y : Component). y.work) (same j x t e.1) ∙ none) in absurd cc
      | inr e ↦ get_set_other parts i j (Some p) e.1 ∙ P.away j x (sym (get_set_other cs i j d e.1) ∙ t) works
    ]

-- the number stands where it stood, as a component gives way to another of its number
pub placed_set : (n : ℕ) (cs : List Component) (i : ℕ) (c d : Component) → slice_get cs i ≡ Some c → number_of d ≡ number_of c → place_numbered n (set cs i d) ≡ place_numbered n cs
placed_set n cs i c d at e =
    is_first_place (is_numbered n) (set cs i d)
    ∙ (sym (first_mapped number_of (λ m. nat_eq m n) (set cs i d))
    ∙ (ap (first_place (λ m. nat_eq m n)) (map_set number_of cs i d ∙ rw e (set_same (map number_of cs) i (number_of c) (slice_get-map number_of cs i ∙ ap (option_map number_of) at)))
    ∙ (first_mapped number_of (λ m. nat_eq m n) cs ∙ sym (is_first_place (is_numbered n) cs))))

-- the component at the number's place has the number
pub number_placed : (n : ℕ) (cs : List Component) (i : ℕ) (c : Component) → place_numbered n cs ≡ Some i → slice_get cs i ≡ Some c → number_of c ≡ n
number_placed n cs i c e at =
    let x = passes_at (is_numbered n) cs i (sym (is_first_place (is_numbered n) cs) ∙ e) in
    let z : Some x.0 ≡ Some c = sym x.1 ∙ at in
    let q : x.0 ≡ c = cc in
    ap number_of (sym q) ∙ eqb-true _ _ x.2

-- the file has come to the part at the place, which is p with it
pub record IsFiledIn {S K C : Type 0} (progress : C → Progress) (g : Shown S K C) (k : Entries C) (h : Handle) (i : ℕ) (file : Offered) (p : ShownPart S K) : Type 0 where
  pub step : Steps (kept progress g) (kept progress (record { core = k; parts = set g.parts i (Some p) })) (λ w v. Step w (acts.Attach h file) (acts.Plain (Ok tt)) v)
  pub whole : first_due (look_of k) ≡ None → IsWhole progress (record { core = k; parts = set g.parts i (Some p) })
  pub own : file_of h.generation (record { core = k; parts = set g.parts i (Some p) }) ≡ p.file
  pub others : KeepsFiles h.generation g (record { core = k; parts = set g.parts i (Some p) })

module _ {S K C : Type 0} (progress : C → Progress) (g : Shown S K C) (k : Entries C) (h : Handle) (i : ℕ) (c : Component) (file : Offered) (I : IsWhole progress g)
    (place : place_of h (components_of g.core.entries) ≡ Some i) (at : slice_get (components_of g.core.entries) i ≡ Some c)
    (T : StepsBare (core.kept progress g.core) (core.kept progress k) (λ w v. Step w (acts.Attach h file) (acts.Plain (Ok tt)) v))
    (q : Option (ShownPart S K)) (p : ShownPart S K) (here : slice_get g.parts i ≡ Some q)
    (done : (s : Stream) → HasDone (terms_of (record c { file = Some (attached file) })) c.part.failed (stream_with file s) (seen_of p)) (tied : IsPartOf (record c { file = Some (attached file) }) p) where
  same : (w : World) → StandsBare (core.kept progress g.core) w → w.components ≡ components_of g.core.entries
  same w B = ap (λ (y : Look). y.components) B.looks

  stay : (w : World) (B : StandsBare (core.kept progress g.core) w) → PartsStay (with_file i c file w) (T w B).0
  stay w B = subst (λ (u : World). PartsStay u (T w B).0)
      (at_named_is h w (λ i c. with_file i c file w) i c (ap (place_of h) (same w B) ∙ place) (ap (λ (xs : List Component). slice_get xs i) (same w B) ∙ at))
      (after_effect w (sound_in progress g I w B) (acts.Attach h file) (acts.Plain (Ok tt)) (T w B).0 tt (T w B).2)

  there : (w : World) → StandsBare (core.kept progress g.core) w → (with_file i c file w).components ≡ set (components_of g.core.entries) i (record c { file = Some (attached file) })
  there w B = ap (λ (xs : List Component). set xs i (record c { file = Some (attached file) })) (same w B)

  parts : (w : World) → Stands (kept progress g) w → HasParts (seen_parts (set g.parts i (Some p))) (with_file i c file w)
  parts w s =
      let B = bare progress g w s in
      let own : slice_get w.components i ≡ Some c = ap (λ (xs : List Component). slice_get xs i) (same w B) ∙ at in
      subst (λ (ps : List (Option PartSeen)). HasParts ps (with_file i c file w)) (sym (map_set (option_map seen_of) g.parts i (Some p)))
      (parts_attached (seen_parts g.parts) w i c file (option_map seen_of q) (seen_of p) own (λ j d t a. apart_numbers w.numbered j i w.components d c (sound_in progress g I w B).rising t own a)
      (slice_get-map (option_map seen_of) g.parts i ∙ ap (option_map (option_map seen_of)) here) (λ x st. done x) s.parts)

  filed_whole : Steps (kept progress g) (kept progress (record { core = k; parts = set g.parts i (Some p) })) (λ w v. Step w (acts.Attach h file) (acts.Plain (Ok tt)) v)
  filed_whole = changed_whole progress g k (acts.Attach h file) (acts.Plain (Ok tt)) I (λ w B. tt) T (with_file i c file) (set (components_of g.core.entries) i (record c { file = Some (attached file) })) (set g.parts i (Some p)) stay there parts

  filed_is_whole : c.work ≡ None → first_due (look_of k) ≡ None → IsWhole progress (record { core = k; parts = set g.parts i (Some p) })
  filed_is_whole free closed = changed_is_whole progress g k (acts.Attach h file) (acts.Plain (Ok tt)) I (λ w B. tt) T (with_file i c file) (set (components_of g.core.entries) i (record c { file = Some (attached file) })) (set g.parts i (Some p)) stay there parts
      closed (length-set g.parts i (Some p) ∙ (I.count ∙ sym (length-set (components_of g.core.entries) i (record c { file = Some (attached file) }))))
      (parts_set (components_of g.core.entries) g.parts i c (record c { file = Some (attached file) }) q p at here tied free I.parts)

  -- the numbers stand where they stood
  numbers : (n : ℕ) → place_numbered n (components_of k.entries) ≡ place_numbered n (components_of g.core.entries)
  numbers n =
      let w = I.worlds.world in
      let B = bare progress g w I.worlds.stands in
      let d : Component = record c { file = Some (attached file) } in
      let alike = changed_alike progress g k (acts.Attach h file) (acts.Plain (Ok tt)) I (λ w B. tt) T (with_file i c file) (set (components_of g.core.entries) i d) (set g.parts i (Some p)) stay there parts in
      places_alike n (components_of k.entries) (set (components_of g.core.entries) i d) alike ∙ placed_set n (components_of g.core.entries) i c d at refl

  filed_own : number_of c ≡ h.generation → file_of h.generation (record { core = k; parts = set g.parts i (Some p) }) ≡ p.file
  filed_own own =
      let w = I.worlds.world in
      let B = bare progress g w I.worlds.stands in
      let t : slice_get w.components i ≡ Some c = ap (λ (xs : List Component). slice_get xs i) (same w B) ∙ at in
      let z : place_numbered h.generation (components_of g.core.entries) ≡ Some i = ap (λ (n : ℕ). place_numbered n (components_of g.core.entries)) (sym own)
      ∙ (ap (place_numbered (number_of c)) (sym (same w B)) ∙ placed_there w.numbered i w.components c I.worlds.sound.rising t) in
      ap (option_and_then (λ j. option_and_then (option_and_then (λ (x : ShownPart S K). x.file)) (slice_get (set g.parts i (Some p)) j))) (numbers h.generation ∙ z)
      ∙ ap (option_and_then (option_and_then (λ (x : ShownPart S K). x.file))) (get_set_same g.parts i q (Some p) here)

  filed_others : number_of c ≡ h.generation → KeepsFiles h.generation g (record { core = k; parts = set g.parts i (Some p) })
  filed_others own n apart =
      let f : Option (ShownPart S K) → Option (PartFile S K) = option_and_then (λ (x : ShownPart S K). x.file) in
      ap (option_and_then (λ j. option_and_then f (slice_get (set g.parts i (Some p)) j))) (numbers n)
      ∙ told_set f g.parts i (Some p) (place_numbered n (components_of g.core.entries)) (λ e. apart (sym (number_placed n (components_of g.core.entries) i c e at) ∙ own))

  pub filed : c.work ≡ None → number_of c ≡ h.generation → IsFiledIn progress g k h i file p
  filed free own = record { step = filed_whole; whole = filed_is_whole free; own = filed_own own; others = filed_others own }
