-- A note is taken in a bare world, and the client object handed back.
use Rattle.std.proofs.Common.{◌≡◌, ℕ, Bool, true, false, slice_get, Option, Some, None, refl, sym, subst}
use Rattle.std.proofs.lemmas.Option.{slice_get-map}
use Rattle.std.specs.Prelude.{MatchOption, Result, Ok}
use Rattle.omx_types.specs.declared.handle.Handle.{Handle}
use Rattle.omx_types.specs.declared.command.Event.{Event}
use Rattle.omx_types.specs.declared.command.Note.{Note}
use Rattle.omx_types.specs.declared.command.Note.TheVariants.{EmptyDone, FillDone, Told}
use Rattle.omx_types.specs.declared.error.OmxError.{OmxError}
use Rattle.il_machine.specs.Due.{ClosesTo}
use Rattle.il_machine.specs.Headers.{find_header}
use Rattle.il_machine.specs.Notes.{EndNote, TakeFrom, TakeNote, TakenEvent, Took, TookNote, back_in, first_taken, with_given}
use Rattle.il_machine.specs.World.{Component, HeaderRecord, World, place_of, with_component}
use Rattle.bare_run_laws.specs.Bare.{IsKnown, bare, bare_component, bare_handle}
use Rattle.bare_run_laws.proofs.Acts.{put_bare}
use Rattle.bare_run_laws.proofs.Closings.{bare_closes, map_set}
use Rattle.bare_run_laws.proofs.Places.{place_same, resolving_same, there_same}

-- ---- a note is taken

abbrev pub is_told : Event → Result Took OmxError
is_told event = Ok (TookNote (TakenEvent event))

pub given_same : (i : ℕ) (c : Component) (note : Note) (w : World) → with_given i (bare_component c) note (bare w) ≡ bare (with_given i c note w)
given_same i c note w =
    let a = map_set bare_component w.components i (first_taken c) in
    λ j. record (with_given i (bare_component c) note (bare w)) { components = a j }

-- no header is told so
pub no_header : (o : Option HeaderRecord) (Then : HeaderRecord → Type 0) → ((r : HeaderRecord) → Then r → ⊥) → MatchOption o ⊥ Then → ⊥
no_header None Then never t = t
no_header (Some r) Then never t = never r t

takes_same : (w : World) (i : ℕ) (c : Component) (event : Event) (v : World) (out : Bool) (o : Option Note) → TakeFrom w i c out o (is_told event) v → TakeFrom (bare w) i (bare_component c) out o (is_told event) (bare v)
takes_same w i c event v true o t = absurd (let e = t.0 in cc)
takes_same w i c event v false None t = absurd (let e = t.0 in cc)
takes_same w i c event v false (Some (Told e)) t =
    (t.0, subst (λ (u : World). ClosesTo u (bare v)) (sym (given_same i c (Told e) w)) (bare_closes (with_given i c (Told e) w) v t.1))
takes_same w i c event v false (Some (EmptyDone n)) t = absurd (no_header (find_header n w.headers) _ (λ r a. let e = a.0 in cc) t)
takes_same w i c event v false (Some (FillDone n)) t = absurd (no_header (find_header n w.headers) _ (λ r a. let e = a.0 in cc) t)

pub take_bare : (w : World) (h : Handle) (event : Event) (v : World) → IsKnown h w → TakeNote w h (is_told event) v → TakeNote (bare w) (bare_handle h) (is_told event) (bare v)
take_bare w h event v known T = resolving_same w v h (is_told event)
    (λ i c. TakeFrom w i c c.client_out (slice_get c.notes 0) (is_told event) v)
    (λ i c. TakeFrom (bare w) i c c.client_out (slice_get c.notes 0) (is_told event) (bare v))
    known (λ i c there A. takes_same w i c event v c.client_out (slice_get c.notes 0) A) T

-- ---- the client object is handed back

pub end_bare : (w : World) (h : Handle) (v : World) → IsKnown h w → EndNote w h v → EndNote (bare w) (bare_handle h) (bare v)
end_bare w h v known E = subst (λ (o : Option ℕ). MatchOption o ⊥ (λ i. MatchOption (slice_get (bare w).components i) ⊥ (λ c. ClosesTo (with_component i (back_in c) (bare w)) (bare v))))
    (sym (place_same h w known)) (go (place_of h w.components) E)
  where
    go : (o : Option ℕ) → MatchOption o ⊥ (λ i. MatchOption (slice_get w.components i) ⊥ (λ c. ClosesTo (with_component i (back_in c) w) v))
        → MatchOption o ⊥ (λ i. MatchOption (slice_get (bare w).components i) ⊥ (λ c. ClosesTo (with_component i (back_in c) (bare w)) (bare v)))
    go None h = h
    go (Some i) h = subst (λ (o : Option Component). MatchOption o ⊥ (λ c. ClosesTo (with_component i (back_in c) (bare w)) (bare v))) (sym (slice_get-map bare_component w.components i))
        (there_same (slice_get w.components i) (λ c. ClosesTo (with_component i (back_in c) w) v) (λ c. ClosesTo (with_component i (back_in c) (bare w)) (bare v))
        (λ c e C. subst (λ (x : World). ClosesTo x (bare v)) (sym (put_bare i (back_in (bare_component c)) (back_in c) w refl)) (bare_closes (with_component i (back_in c) w) v C)) h)
