-- Notes are taken, and client objects handed back, in a world whose handles moved.
use Rattle.std.proofs.Common.{◌≡◌, ℕ, Bool, true, false, [], ◌∷◌, ◌++◌, slice_get, Option, Some, None, option_map, refl, sym, ◌∙◌, ap, subst}
use Rattle.std.specs.Prelude.{MatchOption, Result, Ok}
use Rattle.omx_types.specs.declared.handle.Handle.{Handle}
use Rattle.omx_types.specs.declared.command.Note.{Note}
use Rattle.omx_types.specs.declared.command.Note.TheVariants as notes
use Rattle.omx_types.specs.declared.error.OmxError.{OmxError}
use Rattle.il_machine.specs.declared.header.Owner.TheVariants as owners
use Rattle.il_machine.specs.Answers.{plain}
use Rattle.il_machine.specs.Buffers.{Held, held}
use Rattle.il_machine.specs.Due.{ClosesTo}
use Rattle.il_machine.specs.Headers.{find_header, given_to}
use Rattle.il_machine.specs.Notes.{EndNote, TakeFrom, TakeNote, Taken, TakenEmpty, TakenEvent, TakenFilled, TakesHeader, Took, TookBusy, TookNone, TookNote, back_in, first_taken, with_client, with_given}
use Rattle.il_machine.specs.World.{Component, HeaderRecord, World, number_of, place_of, with_component}
use Rattle.slot_laws.specs.Seating.{Seating, mapped, moved, moved_component, moved_handle, moved_held, moved_header, moved_taken, moved_took}
use Rattle.slot_laws.proofs.Headers.{changed_moved, find_moved}
use Rattle.slot_laws.proofs.Closings.{component_put}
use Rattle.slot_laws.proofs.Naming.{Carries, by_map, closes_from, place_moved, place_there, resolving_moved}

module _ (f : Seating) where
  given_moved : (i : ℕ) (c : Component) (note : Note) (w : World) → with_given i (moved_component f c) note (moved f w) ≡ moved f (with_given i c note w)
  given_moved i c note w =
      let a = component_put f i (first_taken (moved_component f c)) (first_taken c) w refl in
      λ j. record (a j) { given = w.given ++ record { component = number_of c; note = note } ∷ [] }

  client_moved : (number : ℕ) (w : World) → with_client number (moved f w) ≡ moved f (with_client number w)
  client_moved number w = let a = changed_moved f number (given_to owners.Client) (given_to owners.Client) w.headers (λ r. refl) in λ j. record (moved f w) { headers = a j }

  module _ (w v : World) (i : ℕ) (c : Component) (r : Result Took OmxError) (s : Result Took OmxError) (carries : Carries (moved_took f) r s) where
    header_taken : (note : Note) (number : ℕ) (taken : Held → Taken) → ((x : Held) → moved_taken f (taken x) ≡ taken (moved_held f x))
        → TakesHeader w i c note number taken r v → TakesHeader (moved f w) i (moved_component f c) note number taken s (moved f v)
    header_taken note number taken same h =
        subst (λ (o : Option HeaderRecord). MatchOption o ⊥ (λ x. (s ≡ Ok (TookNote (taken (held x)))) × ClosesTo (with_client number (with_given i (moved_component f c) note (moved f w))) (moved f v)))
        (sym (find_moved f number w.headers)) (go (find_header number w.headers) h)
      where
        world : with_client number (with_given i (moved_component f c) note (moved f w)) ≡ moved f (with_client number (with_given i c note w))
        world = ap (with_client number) (given_moved i c note w) ∙ client_moved number (with_given i c note w)

        go : (o : Option HeaderRecord) → MatchOption o ⊥ (λ x. (r ≡ Ok (TookNote (taken (held x)))) × ClosesTo (with_client number (with_given i c note w)) v)
            → MatchOption (option_map (moved_header f) o) ⊥ (λ x. (s ≡ Ok (TookNote (taken (held x)))) × ClosesTo (with_client number (with_given i (moved_component f c) note (moved f w))) (moved f v))
        go None h = h
        go (Some x) h = (
          carries.ok (TookNote (taken (held x))) h.0 ∙ ap (λ (y : Taken). Ok (TookNote y)) (same (held x)),
          closes_from f (with_client number (with_given i (moved_component f c) note (moved f w))) (with_client number (with_given i c note w)) v world h.1,
        )

    taken_from : (out : Bool) (o : Option Note) → TakeFrom w i c out o r v → TakeFrom (moved f w) i (moved_component f c) out o s (moved f v)
    taken_from true o h = (carries.ok TookBusy h.0, ap (moved f) h.1)
    taken_from false None h = (carries.ok TookNone h.0, ap (moved f) h.1)
    taken_from false (Some (notes.Told event)) h =
        (carries.ok (TookNote (TakenEvent event)) h.0, closes_from f (with_given i (moved_component f c) (notes.Told event) (moved f w)) (with_given i c (notes.Told event) w) v (given_moved i c (notes.Told event) w) h.1)
    taken_from false (Some (notes.EmptyDone number)) h = header_taken (notes.EmptyDone number) number TakenEmpty (λ x. refl) h
    taken_from false (Some (notes.FillDone number)) h = header_taken (notes.FillDone number) number TakenFilled (λ x. refl) h

  pub take_goes : (w : World) (h : Handle) (r : Result Took OmxError) (v : World) → TakeNote w h r v → TakeNote (moved f w) (moved_handle f h) (mapped (moved_took f) r) (moved f v)
  take_goes w h r v R = resolving_moved f plain (moved_took f) w v r (mapped (moved_took f) r) (by_map (moved_took f) r) h
      (λ i c. TakeFrom w i c c.client_out (slice_get c.notes 0) r v)
      (λ i c. TakeFrom (moved f w) i c c.client_out (slice_get c.notes 0) (mapped (moved_took f) r) (moved f v))
      (λ i c A. taken_from w v i c r (mapped (moved_took f) r) (by_map (moved_took f) r) c.client_out (slice_get c.notes 0) A) R

  pub end_goes : (w : World) (h : Handle) (v : World) → EndNote w h v → EndNote (moved f w) (moved_handle f h) (moved f v)
  end_goes w h v E =
      subst (λ (o : Option ℕ). MatchOption o ⊥ (λ i. MatchOption (slice_get (moved f w).components i) ⊥ (λ c. ClosesTo (with_component i (back_in c) (moved f w)) (moved f v))))
      (sym (place_moved f h w.components))
      (place_there f (place_of h w.components) w (λ i c. ClosesTo (with_component i (back_in c) w) v) (λ i c. ClosesTo (with_component i (back_in c) (moved f w)) (moved f v)) ⊥ ⊥ (λ no. no)
      (λ i c e C. closes_from f (with_component i (back_in (moved_component f c)) (moved f w)) (with_component i (back_in c) w) v (component_put f i (back_in (moved_component f c)) (back_in c) w refl) C) E)
