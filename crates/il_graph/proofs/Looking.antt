-- Calls that look: the component that a handle names, in each world that the graph stands for.
use Rattle.std.proofs.Common.{◌≡◌, ◌≤◌, ℕ, length, subst, false, List, Option, Some, None, is_none, Ok, Err, slice_get, option_map, option_and_then, map, if◌then◌else◌, refl, sym, ◌∙◌, ap}
use Rattle.std.proofs.lemmas.Option.{slice_get-map}
use Rattle.std.proofs.lemmas.List.{length-map}
use Rattle.omx_types.specs.declared.handle.Handle.{Handle}
use Rattle.omx_types.specs.declared.error.OmxError.TheVariants as errors
use Rattle.il_machine.specs.declared.answer.Progress.{Progress}
use Rattle.il_machine.specs.World.{World}
use Rattle.il_machine.specs.Look.{Look, look}
use Rattle.il_machine.specs.Components.{progress_of, progress_answer}
use Rattle.il_machine.specs.Answers.{component_named}
use Rattle.stock_laws.specs.Bare.{StandsBare, AlwaysBare}
use Rattle.il_component.specs.Entries.{Entry, component_of}
use Rattle.graph_core.specs.Entries.{Entries, components_of, look_of, kept, progress_at, entry_place, entry_named}
use Rattle.graph_core.proofs.Replacing.{entry_place_is}

module _ {C : Type 0} (progress : C → Progress) where
  named_by : (es : List (Entry C)) (o : Option ℕ) → option_and_then (slice_get (components_of es)) o ≡ option_map component_of (option_and_then (slice_get es) o)
  named_by es None = refl
  named_by es (Some i) = slice_get-map component_of es i

  pub named_is : (g : Entries C) (h : Handle) → component_named h (components_of g.entries) ≡ option_map component_of (entry_named h g)
  named_is g h = ap (option_and_then (slice_get (components_of g.entries))) (entry_place_is h g.entries) ∙ named_by g.entries (entry_place h g.entries)

  -- what is told by what is kept is told so in each world
  pub alike : {R : Type 0} (g : Entries C) (answer : Look → R) (r : R) → r ≡ answer (look_of g) → AlwaysBare (kept progress g) (λ w. r ≡ answer (look w))
  alike g answer r e = λ w S. e ∙ sym (ap answer S.looks)

  pub named : (g : Entries C) (h : Handle) (o : Option (Entry C)) → o ≡ entry_named h g → component_named h (look_of g).components ≡ option_map component_of o
  named g h o e = named_is g h ∙ ap (option_map component_of) (sym e)

  -- a graph's components are those of each world that it stands for
  pub few_of : (g : Entries C) (w : World) → StandsBare (kept progress g) w → length g.entries ≤ 32 → length w.components ≤ 32
  few_of g w S few = subst (λ (n : ℕ). n ≤ 32) (sym (ap (λ (l : Look). length l.components) S.looks ∙ length-map g.entries component_of)) few

  -- ---- what the client object of a component was told

  place_split : (es : List (Entry C)) (o : Option ℕ) (e : Entry C) → Some e ≡ option_and_then (slice_get es) o → (i : ℕ) × (slice_get es i ≡ Some e)
  place_split es None e s = absurd cc
  place_split es (Some i) e s = (i, sym s)

  told_so_far : (client : Option C) (p : Progress) → (is_none client ≡ false → Some (option_map progress client) ≡ Some (Some p)) → (if is_none client then None else Some p) ≡ option_map progress client
  told_so_far None p h = refl
  told_so_far (Some x) p h = let s : Some (progress x) ≡ Some p = let r = h refl in cc in sym s

  entry_told : (g : Entries C) (w : World) (i : ℕ) (e : Entry C) → StandsBare (kept progress g) w → slice_get g.entries i ≡ Some e
      → (if is_none e.queues.client then None else Some (progress_of (component_of e) w)) ≡ option_map progress e.queues.client
  entry_told g w i e S at =
      let there : slice_get w.components i ≡ Some (component_of e) = ap (λ (l : Look). slice_get l.components i) S.looks ∙ (slice_get-map component_of g.entries i ∙ ap (option_map component_of) at) in
      let client : slice_get (map (progress_at progress) g.entries) i ≡ Some (progress_at progress e) = slice_get-map (progress_at progress) g.entries i ∙ ap (option_map (progress_at progress)) at in
      told_so_far e.queues.client (progress_of (component_of e) w) (λ (o : is_none e.queues.client ≡ false). sym client ∙ S.progress i (component_of e) there o)

  pub progress_seen : (g : Entries C) (h : Handle) (w : World) (e : Entry C) (r : Option Progress) → StandsBare (kept progress g) w → Some e ≡ entry_named h g → r ≡ option_map progress e.queues.client → Ok r ≡ progress_answer h w
  progress_seen g h w e r S n q =
      let x = place_split g.entries (entry_place h g.entries) e n in
      let c : component_named h w.components ≡ Some (component_of e) = ap (λ (l : Look). component_named h l.components) S.looks ∙ named g h (Some e) n in
      rw c (ap Ok (q ∙ sym (entry_told g w x.0 e S x.1)))

  pub no_progress_seen : (g : Entries C) (h : Handle) (w : World) → StandsBare (kept progress g) w → None ≡ entry_named h g → Err errors.InvalidComponent ≡ progress_answer h w
  no_progress_seen g h w S n =
      let c : component_named h w.components ≡ None = ap (λ (l : Look). component_named h l.components) S.looks ∙ named g h None n in
      rw c refl
