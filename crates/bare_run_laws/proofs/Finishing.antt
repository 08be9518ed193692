-- A work comes back in a bare world.
use Rattle.std.proofs.Common.{◌≡◌, ℕ, if◌then◌else◌, List, [], ◌∷◌, ◌++◌, set, slice_get, Option, Some, None, refl, sym, ◌∙◌, ap, subst}
use Rattle.std.proofs.lemmas.Option.{slice_get-map}
use Rattle.std.specs.Prelude.{map, MatchOption}
use Rattle.il_machine.specs.declared.port.Mark.{Mark}
use Rattle.il_machine.specs.declared.port.Port.{Port}
use Rattle.il_machine.specs.Buffers.{load_in}
use Rattle.il_machine.specs.Claims.{CarriedHeader}
use Rattle.il_machine.specs.Due.{ClosesTo}
use Rattle.il_machine.specs.Finishing.{Again, Finish, Landing, Noted, Onward, all_landed, landing_note, mark_note, tells_mark, announced, announced_at, carries_on, finished, finished_by, is_cleared, is_finished, landed_at, landing, load_after, mark_after, mark_in, mark_on, notes_of_header, notes_of_headers, end_note, tells_end, fault_note, stepped_back, with_landed}
use Rattle.il_machine.specs.Headers.{unloaded}
use Rattle.il_machine.specs.Parts.{file_format}
use Rattle.il_machine.specs.Settings.{same_format}
use Rattle.il_machine.specs.Stepping.{WorkDone}
use Rattle.il_machine.specs.World.{Component, HeaderRecord, Load, Stream, Work, World, changed_at, number_of, place_numbered, port_of, stream_of}
use Rattle.machine_laws.proofs.Finding.{either}
use Rattle.bare_run_laws.specs.Bare.{IsUnmarked, bare, bare_component}
use Rattle.bare_run_laws.proofs.Acts.{put_bare}
use Rattle.bare_run_laws.proofs.Closings.{bare_closes, map_set}
use Rattle.bare_run_laws.proofs.Places.{numbered_same, there_same}

module _ (c : Component) (s : Stream) (done : WorkDone) where
  carries_same : (x : CarriedHeader) → x.header.mark ≡ None → carries_on (bare_component c) s done x ≡ carries_on c s done x
  carries_same x e = rw e refl

  mark_same : (xs : List CarriedHeader) → IsUnmarked xs → mark_in (bare_component c) s done xs ≡ mark_in c s done xs
  mark_same [] u = refl
  mark_same (x ∷ xs) u =
      let a = carries_same x u.0 in
      let b = mark_same xs u.1 in
      λ j. if a j then x.header.mark else b j

  abbrev load_with : Component → CarriedHeader → Option Mark → Load
  load_with d x m =
      let load = load_in x.header in
      if is_cleared d s done x then unloaded load
      else if is_finished d s done x then record load { mark = mark_after d load.mark m }
      else load

  load_same : (x : CarriedHeader) → x.header.mark ≡ None → IsUnmarked done.headers → load_after (bare_component c) s done x ≡ load_after c s done x
  load_same x e u =
      let own : load_with (bare_component c) x (mark_on (bare_component c) s done) ≡ load_with c x (mark_on (bare_component c) s done) = rw e refl in
      own ∙ ap (λ (m : Option Mark). load_with c x m) (mark_same done.headers u)

  at_same : (l : Landing) (x : CarriedHeader) (load : Load) (hs : List HeaderRecord) → landed_at l (bare_component c) x load hs ≡ landed_at l c x load hs
  at_same Again x load hs = refl
  at_same Onward x load hs = refl
  at_same Noted x load hs = refl

  all_same : (xs : List CarriedHeader) (hs : List HeaderRecord) → IsUnmarked xs → IsUnmarked done.headers → all_landed (bare_component c) s done xs hs ≡ all_landed c s done xs hs
  all_same [] hs u all = refl
  all_same (x ∷ xs) hs u all =
      ap (λ (l : Load). all_landed (bare_component c) s done xs (landed_at (landing (bare_component c) s done x) (bare_component c) x l hs)) (load_same x u.0 all)
      ∙ (ap (λ (l : List HeaderRecord). all_landed (bare_component c) s done xs l) (at_same (landing c s done x) x (load_after c s done x) hs)
      ∙ all_same xs (landed_at (landing c s done x) c x (load_after c s done x) hs) u.1 all)

  told_same : (l : Landing) (x : CarriedHeader) → landing_note l (bare_component c) x ≡ landing_note l c x
  told_same Again x = refl
  told_same Onward x = refl
  told_same Noted x = refl

  note_same : (x : CarriedHeader) → x.header.mark ≡ None → notes_of_header (bare_component c) s done x ≡ notes_of_header c s done x
  note_same x e =
      let a : (if tells_mark (bare_component c) s done x then mark_note x.header.mark else []) ≡ (if tells_mark c s done x then mark_note x.header.mark else []) = rw e refl in
      let b = told_same (landing c s done x) x in
      λ j. a j ++ b j

  notes_same : (xs : List CarriedHeader) → IsUnmarked xs → notes_of_headers (bare_component c) s done xs ≡ notes_of_headers c s done xs
  notes_same [] u = refl
  notes_same (x ∷ xs) u =
      let a = note_same x u.0 in
      let b = notes_same xs u.1 in
      λ j. a j ++ b j

  back_same : IsUnmarked done.headers → stepped_back (bare_component c) s done ≡ bare_component (stepped_back c s done)
  back_same u =
      let n : notes_of_headers (bare_component c) s done done.headers ≡ notes_of_headers c s done done.headers = notes_same done.headers u in
      λ j. record (stepped_back (bare_component c) s done) { notes = c.notes ++ (n j ++ end_note (tells_end c done) ++ fault_note done.fault) }

  landed_same : (i : ℕ) (w : World) → IsUnmarked done.headers → with_landed i (bare_component c) done s (bare w) ≡ bare (with_landed i c done s w)
  landed_same i w u =
      let a = ap (λ (d : Component). set (map bare_component w.components) i d) (back_same u) ∙ map_set bare_component w.components i (stepped_back c s done) in
      let b = all_same done.headers w.headers u u in
      λ j. record (with_landed i (bare_component c) done s (bare w)) { components = a j; headers = b j }

announced_same : (o : Option Port) (d : Component) → announced_at o (bare_component d) ≡ bare_component (announced_at o d)
announced_same None d = refl
announced_same (Some p) d = either (same_format p.setting.definition.format (file_format d.file)) (λ t. rw t refl) (λ f. rw f refl)

through_same : (i : ℕ) (c : Component) (done : WorkDone) (o : Option Stream) (w : World) → IsUnmarked done.headers
    → changed_at o (bare w) (λ s. with_landed i (bare_component c) done s (bare w)) ≡ bare (changed_at o w (λ s. with_landed i c done s w))
through_same i c done None w u = refl
through_same i c done (Some s) w u = landed_same c s done i w u

pub finished_same : (i : ℕ) (c : Component) (done : WorkDone) (o : Option Work) (w : World) → IsUnmarked done.headers
    → finished_by i (bare_component c) done o (bare w) ≡ bare (finished_by i c done o w)
finished_same i c done None w u = refl
finished_same i c done (Some work) w u = either work.announces
    (λ t. rw t (put_bare i (announced (bare_component c)) (announced c) w (announced_same (port_of c 0) (record c { work = None }))))
    (λ f. rw f (through_same i c done (stream_of (number_of c) w) w u))

pub finish_bare : (w : World) (done : WorkDone) (v : World) → IsUnmarked done.headers → Finish w done v → Finish (bare w) done (bare v)
finish_bare w done v u F = subst (λ (o : Option ℕ). MatchOption o ⊥ (λ i. MatchOption (slice_get (bare w).components i) ⊥ (λ c. ClosesTo (finished i c done (bare w)) (bare v))))
    (sym (numbered_same done.component w.components)) (go (place_numbered done.component w.components) F)
  where
    go : (o : Option ℕ) → MatchOption o ⊥ (λ i. MatchOption (slice_get w.components i) ⊥ (λ c. ClosesTo (finished i c done w) v))
        → MatchOption o ⊥ (λ i. MatchOption (slice_get (bare w).components i) ⊥ (λ c. ClosesTo (finished i c done (bare w)) (bare v)))
    go None h = h
    go (Some i) h = subst (λ (o : Option Component). MatchOption o ⊥ (λ c. ClosesTo (finished i c done (bare w)) (bare v))) (sym (slice_get-map bare_component w.components i))
        (there_same (slice_get w.components i) (λ c. ClosesTo (finished i c done w) v) (λ c. ClosesTo (finished i c done (bare w)) (bare v))
        (λ c e C. subst (λ (x : World). ClosesTo x (bare v)) (sym (finished_same i c done c.work w u)) (bare_closes (finished i c done w) v C)) h)
