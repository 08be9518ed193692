-- The notes of a component are taken from a graph.
use Rattle.std.proofs.Common.{◌≡◌, ℕ, ◌+◌, ◌<◌, slice_get, Some, Result, Ok, refl, sym, ◌∙◌, ap, subst, eq-eqb, arith}
use Rattle.std.specs.Prelude.{option_and_then}
use Rattle.std.proofs.lemmas.Option.{slice_get_within}
use Rattle.omx_types.specs.declared.command.Event.{Event}
use Rattle.omx_types.specs.declared.command.Note.TheVariants as notes
use Rattle.omx_types.specs.declared.error.OmxError.{OmxError}
use Rattle.omx_types.specs.declared.handle.Handle.{Handle}
use Rattle.il_machine.specs.declared.answer.Progress.{Progress}
use Rattle.il_machine.specs.Acts as acts
use Rattle.il_machine.specs.Answers.{component_named}
use Rattle.il_machine.specs.Components.{moved_by, progress_of}
use Rattle.il_machine.specs.Due.{IsClosed}
use Rattle.il_machine.specs.Look.{Look, look}
use Rattle.il_machine.specs.Notes.{EndNote, TakeNote, TakenEvent, Took, TookNone, TookNote, first_taken}
use Rattle.il_machine.specs.Whole.{Always, Stands, Steps, StepsWhere}
use Rattle.il_machine.specs.World.{World, place_of}
use Rattle.machine_laws.proofs.Keys.{at_there, is_there}
use Rattle.history_laws.specs.Given.{note_for}
use Rattle.history_laws.proofs.GivenNotes.{progress_told}
use Rattle.note_queues.specs.Queues.{taken_of}
use Rattle.note_queues.specs.declared.taken.Taken.{Taken as Given_}
use Rattle.note_queues.specs.declared.taken.Taken.TheVariants as given
use Rattle.graph_core.specs.Clients.{AreTold, IsPortDone, WasTold}
use Rattle.graph_core.specs.Entries.{client_of}
use Rattle.il_graph.specs.Shown.{Shown, look_of}
use Rattle.il_graph.proofs.PortsDone.{done_moved}
use Rattle.play_build_laws.specs.Halting.{HasEvents, IsHeard, IsSameButNotes, notes_at}
use Rattle.play_build_laws.proofs.Notes.{IsTaken, heard, none_taken, out_named, out_there, taken_and_ended, takes_event}
use Rattle.play_graph.specs.Ending.{StandsFor}
use Rattle.play_graph.specs.Graphs.{IsHandleAt, client_progress, kept_of}
use Rattle.play_graph.specs.Making.{IsMade}
use Rattle.play_graph.proofs.Naming.{named_at}
use Rattle.play_graph.specs.Stops.{IsEvent, told_by}
use Rattle.play_graph.proofs.Joining.{notes_same}

-- a note that tells an event is that event
pub event_is : (taken : Given_) (event : Event) → taken_of taken ≡ TakenEvent event → taken ≡ given.Told event
event_is (given.Told x) event e = let s : x ≡ event = cc in ap (λ (y : Event). given.Told y) s
event_is (given.EmptyDone header) event e = absurd cc
event_is (given.FillDone header) event e = absurd cc

module _ {S K : Type 0} where
  pub made_there : (place : ℕ) (g : Shown S K Progress) → StandsFor (HasEvents place) g → IsMade place g
  made_there place g (w, s, E) = (w, s, slice_get_within w.components place E.component E.there)

  -- what the graph shows is that of each world
  pub notes_shown : (place : ℕ) (g : Shown S K Progress) (w : World) → Stands (kept_of g) w → notes_at place (look w) ≡ notes_at place (look_of g)
  notes_shown place g w s = ap (λ (l : Look). notes_at place l) s.looks

  module _ (place : ℕ) (g m : Shown S K Progress) (h : Handle) (H : IsHandleAt g place h) where
    named_in : (w : World) → Stands (kept_of g) w → HasEvents place w → place_of h w.components ≡ Some place
    named_in w s E = named_at w place h E.sound (H w s)

    pub heard_in : (r : Result Took OmxError) → StandsFor (HasEvents place) g → Steps (kept_of g) (kept_of m) (λ w v. TakeNote w h r v) → IsHeard r
    heard_in r (w, s, E) takes = let v = takes w s in heard place w h E (named_in w s E) r v.0 v.2

    pub none_left : StandsFor (HasEvents place) g → Steps (kept_of g) (kept_of m) (λ w v. TakeNote w h (Ok TookNone) v) → m ≡ g → notes_at place (look_of m) ≡ 0
    none_left (w, s, E) takes same =
        let v = takes w s in
        ap (λ (x : Shown S K Progress). notes_at place (look_of x)) same ∙ (sym (notes_shown place g w s) ∙ none_taken place w h E (named_in w s E) v.0 v.2)

    module _ (taken : Given_) (closed : Always (kept_of g) IsClosed) (takes : Steps (kept_of g) (kept_of m) (λ w v. TakeNote w h (Ok (TookNote (taken_of taken))) v)) where
      taken_in : (w : World) (s : Stands (kept_of g) w) (E : HasEvents place w) → IsTaken place w h E (named_in w s E) (taken_of taken) (takes w s).0
      taken_in w s E = let v = takes w s in takes_event place w h E (named_in w s E) (closed w s) (taken_of taken) v.0 v.2

      pub event_in : StandsFor (HasEvents place) g → IsEvent taken
      event_in (w, s, E) = let T = taken_in w s E in subst IsEvent (sym (event_is taken T.event T.is)) tt

      pub port_done_in : StandsFor (HasEvents place) g → (client told : Progress) → told ≡ told_by taken client → IsPortDone client.port → IsPortDone told.port
      port_done_in (w, s, E) client told t d =
          let T = taken_in w s E in
          let is : told ≡ moved_by T.event client = t ∙ ap (λ (n : Given_). told_by n client) (event_is taken T.event T.is) in
          subst (λ (q : Progress). IsPortDone q.port) (sym is) (done_moved T.event client d)

      -- the client object, told the event, knows all that was given for its component
      knows : (client told : Progress) → told ≡ told_by taken client → Always (kept_of g) (AreTold client_progress g.core) → client_of h g.core ≡ Some client
          → (w : World) (s : Stands (kept_of g) w) → HasEvents place w → WasTold h told (takes w s).0
      knows client told t knew has w s E =
          let N = named_in w s E in
          let T = taken_in w s E in
          let v = takes w s in
          let was : component_named h w.components ≡ Some E.component = ap (option_and_then (slice_get w.components)) N ∙ E.there in
          let later : component_named h (v.0).components ≡ Some (first_taken E.component) =
          ap (λ (y : World). component_named h y.components) T.same ∙ (ap (option_and_then (slice_get _)) (out_named place w h E N T.event) ∙ out_there place w h E N T.event) in
          let before : client ≡ progress_of E.component w = at_there (component_named h w.components) (λ c. client ≡ progress_of c w) E.component was (knew w s h client has) in
          let note : note_for h.generation (acts.TakeNote h) (acts.Took (Ok (TookNote (taken_of taken)))) ≡ Some (notes.Told T.event) = rw (eq-eqb h.generation h.generation refl, T.is) refl in
          let after = progress_told w (acts.TakeNote h) (acts.Took (Ok (TookNote (taken_of taken)))) v.0 h (notes.Told T.event) E.component (first_taken E.component) E.sound tt v.2 note was later in
          let is : told ≡ moved_by T.event client = t ∙ ap (λ (n : Given_). told_by n client) (event_is taken T.event T.is) in
          is_there (component_named h (v.0).components) (λ c. told ≡ progress_of c v.0) (first_taken E.component) later (is ∙ (ap (moved_by T.event) before ∙ sym after))

      module _ (k : Shown S K Progress) (client told : Progress) (t : told ≡ told_by taken client) (knew : Always (kept_of g) (AreTold client_progress g.core)) (has : client_of h g.core ≡ Some client)
          (ends : StepsWhere (kept_of m) (kept_of k) (WasTold h told) (λ w v. EndNote w h v)) where
        next_in : (w : World) → Stands (kept_of g) w → HasEvents place w → (u : World) × Stands (kept_of k) u × HasEvents place u × IsSameButNotes w u × (notes_at place (look u) + 1 ≡ notes_at place (look w))
        next_in w s E =
            let v = takes w s in
            let u = ends v.0 v.1 (knows client told t knew has w s E) in
            let x = taken_and_ended place w v.0 u.0 h (taken_of taken) E (closed w s) (named_in w s E) v.2 u.2 in
            (u.0, u.1, x.0, x.1, x.2)

        pub note_steps : StepsWhere (kept_of g) (kept_of k) (HasEvents place) (λ w v. HasEvents place v × IsSameButNotes w v)
        note_steps = λ w s E. let u = next_in w s E in (u.0, u.1, (u.2, u.3))

        pub note_fewer : StandsFor (HasEvents place) g → notes_at place (look_of k) < notes_at place (look_of g)
        note_fewer (w, s, E) =
            let u = next_in w s E in
            let a = notes_shown place g w s in
            let b = notes_shown place k u.0 u.1 in
            let f = u.4 in
            omega (arith, a, b, f)

  -- no note was taken
  pub no_steps : (place : ℕ) (g m : Shown S K Progress) → m ≡ g → StepsWhere (kept_of g) (kept_of m) (HasEvents place) (λ w v. HasEvents place v × IsSameButNotes w v)
  no_steps place g m e = λ w s E. (w, subst (λ (x : Shown S K Progress). Stands (kept_of x) w) (sym e) s, (E, notes_same w))
