-- A note that was taken: whose it was, that the client object is out with it, and what comes of the progress.
use Rattle.std.proofs.Common.{◌≡◌, ℕ, Bool, true, false, List, [], ◌∷◌, ◌++◌, set, slice_get, Option, Some, None, MatchOption, Ok, Err, refl, sym, ◌∙◌, ap, subst, eq-eqb}
use Rattle.std.specs.Prelude.{filter, option_and_then, nat_eq}
use Rattle.omx_types.specs.declared.handle.Handle.{Handle}
use Rattle.omx_types.specs.declared.command.Note.{Note}
use Rattle.omx_types.specs.declared.command.Note.TheVariants.{Told, EmptyDone, FillDone}
use Rattle.omx_types.specs.declared.error.OmxError.TheVariants as errors
use Rattle.il_machine.specs.declared.answer.Progress.{Progress}
use Rattle.il_machine.specs.declared.header.Owner.TheVariants as owners
use Rattle.il_machine.specs.declared.header.Owner.{Owner}
use Rattle.il_machine.specs.World.{Component, HeaderRecord, World, Given, number_of, place_of, is_at}
use Rattle.il_machine.specs.declared.header.Home.TheVariants as homes
use Rattle.il_machine.specs.Headers.{seen, find_header, changed, given_to}
use Rattle.il_machine.specs.Buffers.{held}
use Rattle.il_machine.specs.Census.{note_numbers}
use Rattle.il_machine.specs.Components.{is_given_to, noted_by, progress_after, progress_of, no_progress}
use Rattle.il_machine.specs.Notes.{Taken, TakenEvent, TakenEmpty, TakenFilled, TookNote, first_taken, with_given, with_client, TakeFrom, TakeNote}
use Rattle.il_machine.specs.Answers.{component_named}
use Rattle.il_machine.specs.Due.{ClosesTo, IsClosed}
use Rattle.il_machine.specs.Sound.{Sound, IsOwnedSo, home_for}
use Rattle.il_machine.proofs.Places.{is_first_place, place_set}
use Rattle.machine_laws.proofs.Every.{set_there}
use Rattle.machine_laws.proofs.Finding.{either, found_number}
use Rattle.machine_laws.proofs.Keys.{there_is}
use Rattle.history_laws.proofs.StillClosed.{alike_itself, given_alike, still_none}
use Rattle.history_laws.proofs.Homes.{set_in, noted_owner}
use Rattle.trace_run.proofs.Closed.{closing_kept}
use Rattle.trace_run.proofs.Made.{IsHome}
use Rattle.trace_run.proofs.Seats.{named_seat}

-- the note as it was queued
abbrev pub note_of : Taken → Note
note_of (TakenEvent event) = Told event
note_of (TakenEmpty header) = EmptyDone header.number
note_of (TakenFilled header) = FillDone header.number

-- P of the number of the header in the note, if there is one
abbrev pub AtHeaderIn : Taken → (ℕ → Type 0) → Type 0
AtHeaderIn (TakenEvent event) P = Unit {0}
AtHeaderIn (TakenEmpty header) P = P header.number
AtHeaderIn (TakenFilled header) P = P header.number

abbrev pub IsThere : World → ℕ → Type 0
IsThere w number = (r : HeaderRecord) × (find_header number w.headers ≡ Some r)

pub record WasTaken (w : World) (h : Handle) (taken : Taken) (v : World) : Type 0 where
  pub place : ℕ
  pub component : Component
  pub named : place_of h w.components ≡ Some place
  pub there : slice_get w.components place ≡ Some component
  pub first : slice_get component.notes 0 ≡ Some (note_of taken)
  pub header : AtHeaderIn taken (IsThere w)
  pub after : World
  pub components : after.components ≡ set w.components place (first_taken component)
  pub given : after.given ≡ w.given ++ record { component = number_of component; note = note_of taken } ∷ []
  pub closes : ClosesTo after v
  -- nothing is due then
  pub rests : IsClosed w → Sound w → IsClosed after

first_emptied : (ns : List Note) (number : ℕ) → slice_get ns 0 ≡ Some (EmptyDone number) → (rest : List ℕ) × (note_numbers ns ≡ number ∷ rest)
first_emptied [] number e = absurd cc
first_emptied (n ∷ ns) number e = let is : n ≡ EmptyDone number = cc in (note_numbers ns, (rw is refl))

first_filled : (ns : List Note) (number : ℕ) → slice_get ns 0 ≡ Some (FillDone number) → (rest : List ℕ) × (note_numbers ns ≡ number ∷ rest)
first_filled [] number e = absurd cc
first_filled (n ∷ ns) number e = let is : n ≡ FillDone number = cc in (note_numbers ns, (rw is refl))

module _ (w : World) (h : Handle) (taken : Taken) (v : World) (i : ℕ) (c : Component) (named : place_of h w.components ≡ Some i) (there : slice_get w.components i ≡ Some c) where
  event_rests : (note : Note) → IsClosed w → IsClosed (with_given i c note w)
  event_rests note C = still_none (seen w.headers) (seen w.headers) (alike_itself (seen w.headers)) w.components i c (first_taken c) there refl C

  header_rests : (number : ℕ) (note : Note) (rest : List ℕ) (r : HeaderRecord) → note_numbers c.notes ≡ number ∷ rest → find_header number w.headers ≡ Some r → IsClosed w → Sound w → IsClosed (with_client number (with_given i c note w))
  header_rests number note rest r ns f C S =
      let o = noted_owner w i c number rest r S there ns f in
      let I = set_in w number r S f in
      let own : IsOwnedSo r.state (owners.Notice (number_of c)) = subst (λ (x : Owner). IsOwnedSo r.state x) o I.owner in
      let home : r.state.home ≡ homes.Client = I.home ∙ ap (home_for r.state.port) own.1 in
      still_none (seen (changed number (given_to owners.Client) w.headers)) (seen w.headers) (given_alike number (number_of c) r w.headers f o home) w.components i c (first_taken c) there refl C

  of_note : (note : Note) (after : World) → slice_get c.notes 0 ≡ Some note → note ≡ note_of taken → AtHeaderIn taken (IsThere w)
      → after.components ≡ set w.components i (first_taken c) → after.given ≡ w.given ++ record { component = number_of c; note = note } ∷ [] → ClosesTo after v → (IsClosed w → Sound w → IsClosed after) → WasTaken w h taken v
  of_note note after at e there_too components given C rests = record {
    rests = rests;
    place = i;
    component = c;
    named = named;
    there = there;
    first = at ∙ ap (λ (n : Note). Some n) e;
    header = there_too;
    after = after;
    components = components;
    given = given ∙ ap (λ (n : Note). w.given ++ record { component = number_of c; note = n } ∷ []) e;
    closes = C;
  }

  of_header : (number : ℕ) (note : Note) → slice_get c.notes 0 ≡ Some note → note ≡ note_of taken → AtHeaderIn taken (IsThere w) → ClosesTo (with_client number (with_given i c note w)) v → (IsClosed w → Sound w → IsClosed (with_client number (with_given i c note w))) → WasTaken w h taken v
  of_header number note at e there_too C rests = of_note note (with_client number (with_given i c note w)) at e there_too refl refl C rests

  emptied : (number : ℕ) (r : HeaderRecord) → find_header number w.headers ≡ Some r → taken ≡ TakenEmpty (held r) → (EmptyDone number ≡ note_of taken) × AtHeaderIn taken (IsThere w)
  emptied number r f e =
      let n : r.state.number ≡ number = found_number number w.headers r f in
      rw e (ap (λ (k : ℕ). EmptyDone k) (sym n), (r, subst (λ (k : ℕ). find_header k w.headers ≡ Some r) (sym n) f))

  filled : (number : ℕ) (r : HeaderRecord) → find_header number w.headers ≡ Some r → taken ≡ TakenFilled (held r) → (FillDone number ≡ note_of taken) × AtHeaderIn taken (IsThere w)
  filled number r f e =
      let n : r.state.number ≡ number = found_number number w.headers r f in
      rw e (ap (λ (k : ℕ). FillDone k) (sym n), (r, subst (λ (k : ℕ). find_header k w.headers ≡ Some r) (sym n) f))

  from : (out : Bool) (o : Option Note) → slice_get c.notes 0 ≡ o → TakeFrom w i c out o (Ok (TookNote taken)) v → WasTaken w h taken v
  from true o at a = let e = a.0 in absurd cc
  from false None at a = let e = a.0 in absurd cc
  from false (Some (Told event)) at a =
      let e = a.0 in
      let is : taken ≡ TakenEvent event = cc in
      of_note (Told event) (with_given i c (Told event) w) at (rw is refl) (rw is tt) refl refl a.1 (λ closed S. event_rests (Told event) closed)
  from false (Some (EmptyDone number)) at a =
      let x = there_is (find_header number w.headers) _ a in
      let e = x.2.0 in
      let is : taken ≡ TakenEmpty (held x.0) = cc in
      let k = emptied number x.0 x.1 is in
      let ns = first_emptied c.notes number at in
      of_header number (EmptyDone number) at k.0 k.1 x.2.1 (header_rests number (EmptyDone number) ns.0 x.0 ns.1 x.1)
  from false (Some (FillDone number)) at a =
      let x = there_is (find_header number w.headers) _ a in
      let e = x.2.0 in
      let is : taken ≡ TakenFilled (held x.0) = cc in
      let k = filled number x.0 x.1 is in
      let ns = first_filled c.notes number at in
      of_header number (FillDone number) at k.0 k.1 x.2.1 (header_rests number (FillDone number) ns.0 x.0 ns.1 x.1)

at_place : (w : World) (h : Handle) (taken : Taken) (v : World) (o : Option ℕ) → place_of h w.components ≡ o
    → MatchOption o ((Ok (TookNote taken) ≡ Err errors.InvalidComponent) × (v ≡ w)) (λ i. MatchOption (slice_get w.components i) ⊥ (λ c. TakeFrom w i c c.client_out (slice_get c.notes 0) (Ok (TookNote taken)) v))
    → WasTaken w h taken v
at_place w h taken v None p a = let e = a.0 in absurd cc
at_place w h taken v (Some i) p a =
    let x = there_is (slice_get w.components i) _ a in
    from w h taken v i x.0 p x.1 (x.0).client_out (slice_get (x.0).notes 0) refl x.2

pub was_taken : (w : World) (h : Handle) (taken : Taken) (v : World) → TakeNote w h (Ok (TookNote taken)) v → WasTaken w h taken v
was_taken w h taken v a = at_place w h taken v (place_of h w.components) refl a

-- ---- the component, before and after

pub named_before : (w : World) (h : Handle) (taken : Taken) (v : World) (T : WasTaken w h taken v) → component_named h w.components ≡ Some T.component
named_before w h taken v T = ap (option_and_then (slice_get w.components)) T.named ∙ T.there

pub named_then : (w : World) (h : Handle) (taken : Taken) (v : World) (T : WasTaken w h taken v) → component_named h (T.after).components ≡ Some (first_taken T.component)
named_then w h taken v T =
    let cs = w.components in
    let d = first_taken T.component in
    let p : place_of h (set cs T.place d) ≡ Some T.place =
    is_first_place (is_at h) (set cs T.place d) ∙ (place_set (is_at h) cs T.place T.component d T.there refl ∙ (sym (is_first_place (is_at h) cs) ∙ T.named)) in
    let n : component_named h (set cs T.place d) ≡ Some d = ap (option_and_then (slice_get (set cs T.place d))) p ∙ set_there cs T.place T.component d T.there in
    rw T.components n

pub record IsOutNow (h : Handle) (v : World) (number : ℕ) : Type 0 where
  pub component : Component
  pub named : component_named h v.components ≡ Some component
  pub number_is : number_of component ≡ number
  pub out : component.client_out ≡ true

pub out_now : (w : World) (h : Handle) (taken : Taken) (v : World) (T : WasTaken w h taken v) → IsOutNow h v (number_of T.component)
out_now w h taken v T =
    let K = closing_kept T.after v T.closes in
    let x = named_seat h (T.after).components v.components (first_taken T.component) K.seats (named_then w h taken v T) in
    record {
      component = x.0;
      named = x.1;
      number_is = ap (λ s. s.handle.generation) x.2;
      out = ap (λ s. s.out) x.2;
    }

-- ---- the progress

progress_more : (number : ℕ) (gs : List Given) (note : Note) (p : Progress) → progress_after (filter (is_given_to number) (gs ++ record { component = number; note = note } ∷ [])) p ≡ noted_by note (progress_after (filter (is_given_to number) gs) p)
progress_more number [] note p = let t : nat_eq number number ≡ true = eq-eqb number number refl in rw t refl
progress_more number (g ∷ gs) note p = either (is_given_to number g)
    (λ t. rw t (progress_more number gs note (noted_by g.note p)))
    (λ f. rw f (progress_more number gs note p))

pub progress_now : (w : World) (h : Handle) (taken : Taken) (v : World) (T : WasTaken w h taken v) (d : Component) → number_of d ≡ number_of T.component → progress_of d v ≡ noted_by (note_of taken) (progress_of T.component w)
progress_now w h taken v T d n =
    let K = closing_kept T.after v T.closes in
    let c = T.component in
    let g : v.given ≡ w.given ++ record { component = number_of c; note = note_of taken } ∷ [] = K.given ∙ T.given in
    rw (n, g) (progress_more (number_of c) w.given (note_of taken) no_progress)

-- ---- the header in the note was made for the client

noted_home : (w : World) (i : ℕ) (c : Component) (number : ℕ) (rest : List ℕ) → Sound w → slice_get w.components i ≡ Some c → note_numbers c.notes ≡ number ∷ rest → IsThere w number → IsHome number w.headers
noted_home w i c number rest S at ns (r, f) =
    let o = noted_owner w i c number rest r S at ns f in
    let I = set_in w number r S f in
    let own : IsOwnedSo r.state (owners.Notice (number_of c)) = subst (λ (x : Owner). IsOwnedSo r.state x) o I.owner in
    (r, f, I.home ∙ ap (home_for r.state.port) own.1)

pub taken_home : (w : World) (h : Handle) (taken : Taken) (v : World) → Sound w → WasTaken w h taken v → AtHeaderIn taken (λ number. IsHome number w.headers)
taken_home w h (TakenEvent event) v S T = tt
taken_home w h (TakenEmpty header) v S T =
    let x = first_emptied (T.component).notes header.number T.first in
    noted_home w T.place T.component header.number x.0 S T.there x.1 T.header
taken_home w h (TakenFilled header) v S T =
    let x = first_filled (T.component).notes header.number T.first in
    noted_home w T.place T.component header.number x.0 S T.there x.1 T.header
