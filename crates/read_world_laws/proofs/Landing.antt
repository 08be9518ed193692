-- A work comes back in a world that is read otherwise.
use Rattle.std.proofs.Common.{◌≡◌, ℕ, Bool, true, false, if◌then◌else◌, List, [], ◌∷◌, ◌++◌, slice_get, Option, Some, None, option_and_then, MatchOption, refl, sym, ◌∙◌, ap, subst, ◌⊎◌, inl, inr, map}
use Rattle.omx_types.specs.declared.command.Note.{Note}
use Rattle.omx_types.specs.declared.command.Note.TheVariants.{Told}
use Rattle.il_machine.specs.declared.port.Mark.{Mark}
use Rattle.il_machine.specs.declared.port.Port.{Port}
use Rattle.il_machine.specs.Acts as acts
use Rattle.il_machine.specs.Buffers.{load_in}
use Rattle.il_machine.specs.Claims.{CarriedHeader, carried, terms_in}
use Rattle.il_machine.specs.Due.{ClosesTo}
use Rattle.il_machine.specs.Finishing.{Again, Finish, Landing, Noted, Onward, all_landed, announced, announced_at, carries_on, end_note, fault_note, finished, finished_by, gone_through, is_an_input, is_cleared, is_finished, landed_at, landing, landing_note, load_after, mark_after, mark_in, mark_note, notes_after, notes_of_headers, part_by, stepped_back, tells_end, tells_mark, with_landed}
use Rattle.il_machine.specs.Headers.{unloaded}
use Rattle.il_machine.specs.Flow.{done_note}
use Rattle.il_machine.specs.Parts.{file_format}
use Rattle.omx_types.specs.declared.command.Event.TheVariants.{BufferFlag, Mark as MarkEvent, PortSettingsChanged}
use Rattle.il_machine.specs.Run.{Meets}
use Rattle.il_machine.specs.Settings.{same_format}
use Rattle.il_machine.specs.Stepping.{IsDoneBy, IsDoneOf, IsStep, WorkDone}
use Rattle.il_machine.specs.World.{Component, HeaderRecord, Load, Stream, Work, World, changed_at, is_numbered, number_of, place_numbered, port_of, stream_of, told, with_component, with_port, with_stream, is_stream_of}
use Rattle.machine_laws.proofs.Finding.{either}
use Rattle.machine_laws.proofs.Keys.{is_there, there_is}
use Rattle.read_world_laws.proofs.Closing.{closes_streams, closes_in, get_in, position_in, set_in, told_in, with_in}
use Rattle.read_world_laws.proofs.Reading.{IsFair, Reading, read, read_component, read_part}

module _ (reading : Reading) (fair : IsFair reading) (streams : List Stream → List Stream) where
  abbrev twin : Component → Component
  twin c = read_component reading c

  abbrev mirror : World → World
  mirror w = read reading streams w

  module _ (c : Component) (s : Stream) (done : WorkDone) where
    mark_in_in : (xs : List CarriedHeader) → mark_in (twin c) s done xs ≡ mark_in c s done xs
    mark_in_in [] = refl
    mark_in_in (x ∷ xs) = ap (λ (m : Option Mark). if carries_on c s done x then x.header.mark else m) (mark_in_in xs)

    mark_after_in : (own m : Option Mark) → mark_after (twin c) own m ≡ mark_after c own m
    mark_after_in None m = refl
    mark_after_in (Some own) m = refl

    load_after_in : (x : CarriedHeader) → load_after (twin c) s done x ≡ load_after c s done x
    load_after_in x =
        let load : Load = load_in x.header in
        let m = ap (mark_after (twin c) load.mark) (mark_in_in done.headers) ∙ mark_after_in load.mark (mark_in c s done done.headers) in
        ap (λ (mark : Option Mark). if is_cleared c s done x then unloaded load else (if is_finished c s done x then record load { mark = mark } else load)) m

    landed_at_in : (l : Landing) (x : CarriedHeader) (load : Load) (hs : List HeaderRecord) → landed_at l (twin c) x load hs ≡ landed_at l c x load hs
    landed_at_in Again x load hs = refl
    landed_at_in Onward x load hs = refl
    landed_at_in Noted x load hs = refl

    pub all_landed_in : (xs : List CarriedHeader) (hs : List HeaderRecord) → all_landed (twin c) s done xs hs ≡ all_landed c s done xs hs
    all_landed_in [] hs = refl
    all_landed_in (x ∷ xs) hs =
        let l = landing c s done x in
        ap (all_landed (twin c) s done xs) (ap (λ (load : Load). landed_at l (twin c) x load hs) (load_after_in x) ∙ landed_at_in l x (load_after c s done x) hs)
        ∙ all_landed_in xs (landed_at l c x (load_after c s done x) hs)

    landing_note_in : (l : Landing) (x : CarriedHeader) → landing_note l (twin c) x ≡ landing_note l c x
    landing_note_in Again x = refl
    landing_note_in Onward x = refl
    landing_note_in Noted x = refl

    pub notes_in : (xs : List CarriedHeader) → notes_of_headers (twin c) s done xs ≡ notes_of_headers c s done xs
    notes_in [] = refl
    notes_in (x ∷ xs) =
        let a = landing_note_in (landing c s done x) x in
        let r = notes_in xs in
        λ i. ((if tells_mark c s done x then mark_note x.header.mark else []) ++ a i) ++ r i

    -- ---- what is told is no fault, but for the fault

    kept_mark : (o : Option Mark) → reading.notes (mark_note o) ≡ mark_note o
    kept_mark None = fair.none
    kept_mark (Some mark) = fair.keeps (Told (MarkEvent mark.value)) refl

    kept_done : (q : Bool) (n : ℕ) → reading.notes (done_note q n ∷ []) ≡ done_note q n ∷ []
    kept_done true n = fair.keeps (done_note true n) refl
    kept_done false n = fair.keeps (done_note false n) refl

    kept_landing : (l : Landing) (x : CarriedHeader) → reading.notes (landing_note l c x) ≡ landing_note l c x
    kept_landing Again x = fair.none
    kept_landing Onward x = fair.none
    kept_landing Noted x = kept_done (is_an_input c x) x.header.number

    kept_end : (q : Bool) → reading.notes (end_note q) ≡ end_note q
    kept_end true = fair.keeps (Told (BufferFlag 0 1)) refl
    kept_end false = fair.none

    kept_told : (q : Bool) (o : Option Mark) → reading.notes (if q then mark_note o else []) ≡ (if q then mark_note o else [])
    kept_told true o = kept_mark o
    kept_told false o = fair.none

    kept_notes : (xs : List CarriedHeader) → reading.notes (notes_of_headers c s done xs) ≡ notes_of_headers c s done xs
    kept_notes [] = fair.none
    kept_notes (x ∷ xs) =
        let m : List Note = if tells_mark c s done x then mark_note x.header.mark else [] in
        let l : List Note = landing_note (landing c s done x) c x in
        let a = kept_told (tells_mark c s done x) x.header.mark in
        let b = kept_landing (landing c s done x) x in
        let r = kept_notes xs in
        fair.append (m ++ l) (notes_of_headers c s done xs) ∙ ((λ i. fair.append m l i ++ r i) ∙ (λ i. (a i ++ b i) ++ notes_of_headers c s done xs))

    -- those that it told before, those of the headers and the end of a sink's stream, and the fault, as it is read
    all_in : (last : List Note) → reading.notes (c.notes ++ ((notes_of_headers c s done done.headers ++ end_note (tells_end c done)) ++ last))
        ≡ reading.notes c.notes ++ ((notes_of_headers c s done done.headers ++ end_note (tells_end c done)) ++ reading.notes last)
    all_in last =
        let h : List Note = notes_of_headers c s done done.headers in
        let e : List Note = end_note (tells_end c done) in
        let a = kept_notes done.headers in
        let b = kept_end (tells_end c done) in
        fair.append c.notes ((h ++ e) ++ last)
        ∙ (ap (λ (l : List Note). reading.notes c.notes ++ l) (fair.append (h ++ e) last)
        ∙ ((λ i. reading.notes c.notes ++ (fair.append h e i ++ reading.notes last)) ∙ (λ i. reading.notes c.notes ++ ((a i ++ b i) ++ reading.notes last))))

    -- the part and the note of a fault are read so
    pub stepped_in : part_by (twin c) s done done.fault ≡ read_part reading (part_by c s done done.fault) → reading.notes (fault_note done.fault) ≡ fault_note done.fault
        → stepped_back (twin c) s done ≡ twin (stepped_back c s done)
    stepped_in p f =
        let n = notes_in done.headers in
        let t = all_in (fault_note done.fault) in
        let notes : reading.notes c.notes ++ notes_after (twin c) s done ≡ reading.notes (c.notes ++ notes_after c s done) =
        (λ i. reading.notes c.notes ++ ((n i ++ end_note (tells_end c done)) ++ sym f i)) ∙ sym t in
        λ i. record (twin c) { work = None; part = p i; notes = notes i }

  announced_at_in : (o : Option Port) (c : Component) → announced_at o (twin c) ≡ twin (announced_at o c)
  announced_at_in None c = refl
  announced_at_in (Some p) c =
      let q : Bool = same_format p.setting.definition.format (file_format c.file) in
      let d : Component = with_port p.key.port (record p.state { held = true }) c in
      either q
      (λ t. ap (λ (b : Bool). if b then twin c else told (PortSettingsChanged p.key.port) (twin d)) t ∙ ap (λ (b : Bool). twin (if b then c else told (PortSettingsChanged p.key.port) d)) (sym t))
      (λ t.
      ap (λ (b : Bool). if b then twin c else told (PortSettingsChanged p.key.port) (twin d)) t
      ∙ (told_in reading fair streams (PortSettingsChanged p.key.port) refl d ∙ ap (λ (b : Bool). twin (if b then c else told (PortSettingsChanged p.key.port) d)) (sym t)))

  -- ---- what the streams become, and what they are read as then

  abbrev gone : ℕ → WorkDone → List Stream → List Stream
  gone number done ss = map (λ s. if is_stream_of number s then gone_through done s else s) ss

  module _ (later : List Stream → List Stream) where
    abbrev after : World → World
    after w = read reading later w

    landed_in : (c : Component) (s : Stream) (done : WorkDone) → stepped_back (twin c) s done ≡ twin (stepped_back c s done) → (i : ℕ) (w : World)
        → gone (number_of c) done (streams w.streams) ≡ later (gone (number_of c) done w.streams) → with_landed i (twin c) done s (mirror w) ≡ after (with_landed i c done s w)
    landed_in c s done e i w g =
        let a = all_landed_in c s done done.headers w.headers in
        (λ j. record (with_stream (number_of c) (gone_through done) (with_component i (e j) (mirror w))) { headers = a j })
        ∙ (λ j. record (after w) { components = set_in reading fair streams w.components i (stepped_back c s done) j; headers = all_landed c s done done.headers w.headers; streams = g j })

    -- the step, and that its stream and what becomes of all streams are read so
    pub record GoesSo (w : World) (done : WorkDone) (c : Component) : Type 0 where
      pub alike : stream_of (number_of c) (mirror w) ≡ stream_of (number_of c) w
      pub flows : gone (number_of c) done (streams w.streams) ≡ later (gone (number_of c) done w.streams)
      pub part : (s : Stream) → part_by (twin c) s done done.fault ≡ read_part reading (part_by c s done done.fault)
      pub fault : reading.notes (fault_note done.fault) ≡ fault_note done.fault

    -- of what the step comes to: the streams stay, or the component's goes on
    abbrev HasCome : World → World → Component → WorkDone → World → Type 0
    HasCome w u c done v = ((u ≡ mirror v) × (v.streams ≡ w.streams)) ⊎ ((u ≡ after v) × (v.streams ≡ gone (number_of c) done w.streams))

    at_stream : (o : Option Stream) (i : ℕ) (c : Component) (done : WorkDone) (w : World) → ((s : Stream) → with_landed i (twin c) done s (mirror w) ≡ after (with_landed i c done s w))
        → HasCome w (changed_at o (mirror w) (λ s. with_landed i (twin c) done s (mirror w))) c done (changed_at o w (λ s. with_landed i c done s w))
    at_stream None i c done w h = inl (refl, refl)
    at_stream (Some s) i c done w h = inr (h s, refl)

    finished_in : (i : ℕ) (c : Component) (done : WorkDone) (o : Option Work) (w : World) → GoesSo w done c → HasCome w (finished_by i (twin c) done o (mirror w)) c done (finished_by i c done o w)
    finished_in i c done None w G = inl (refl, refl)
    finished_in i c done (Some work) w G = either work.announces
        (λ t. rw t (inl (ap (λ (d : Component). with_component i d (mirror w)) (announced_at_in (port_of c 0) (record c { work = None })) ∙ with_in reading fair streams i (announced c) w, refl)))
        (λ t.
        let landed = at_stream (stream_of (number_of c) w) i c done w (λ s. landed_in c s done (stepped_in c s done (G.part s) G.fault) i w G.flows) in
        let same = ap (λ (q : Option Stream). changed_at q (mirror w) (λ s. with_landed i (twin c) done s (mirror w))) G.alike in
        rw t (elim landed [
          | inl e ↦ inl (same ∙ e.0, e.1)
          | inr e ↦ inr (same ∙ e.0, e.1)
        ]))

    -- a work that comes back comes back there, and so do the streams
    pub finishes_in : (w : World) (done : WorkDone) (v : World) (i : ℕ) (c : Component) → place_numbered done.component w.components ≡ Some i → slice_get w.components i ≡ Some c → GoesSo w done c → ClosesTo (finished i c done w) v
        → (Finish (mirror w) done (mirror v) × (v.streams ≡ w.streams)) ⊎ (Finish (mirror w) done (after v) × (v.streams ≡ gone (number_of c) done w.streams))
    finishes_in w done v i c p e G C = elim (finished_in i c done c.work w G) [
      | inl f ↦ inl (back (mirror v) (subst (λ (u : World). ClosesTo u (mirror v)) (sym f.0) (closes_in reading fair streams (finished i c done w) v C)), closes_streams (finished i c done w) v C ∙ f.1)
      | inr f ↦ inr (back (after v) (subst (λ (u : World). ClosesTo u (after v)) (sym f.0) (closes_in reading fair later (finished i c done w) v C)), closes_streams (finished i c done w) v C ∙ f.1)
    ]
      where
        back : (u : World) → ClosesTo (finished i (twin c) done (mirror w)) u → Finish (mirror w) done u
        back u D = rw (position_in reading fair streams (is_numbered done.component) (λ d. refl) w.components ∙ p, get_in reading fair streams w.components i c e) D

  -- what was done of the work is the same
  pub done_in : (b : Bool) (w : World) (c : Component) (work : Work) (done : WorkDone) → stream_of done.component (mirror w) ≡ stream_of done.component w → IsDoneBy b w c work done → IsDoneBy b (mirror w) (twin c) work done
  done_in true w c work done s D = D
  done_in false w c work done s D = subst (λ (o : Option Stream). MatchOption o ⊥ (λ z. IsStep (terms_in c work) z (carried w.headers work.headers) done)) (sym s) D

  pub meets_in : (w : World) (done : WorkDone) → stream_of done.component (mirror w) ≡ stream_of done.component w → Meets w (acts.Finish done) → Meets (mirror w) (acts.Finish done)
  meets_in w done same M = by (place_numbered done.component w.components) refl M
    where
      at : (i : ℕ) (o : Option Component) → slice_get w.components i ≡ o → MatchOption o ⊥ (λ c. MatchOption c.work ⊥ (λ work. IsDoneOf w c work done)) → MatchOption (slice_get (mirror w).components i) ⊥ (λ c. MatchOption c.work ⊥ (λ work. IsDoneOf (mirror w) c work done))
      at i None e m = absurd m
      at i (Some c) e m =
          let z = there_is c.work (λ work. IsDoneOf w c work done) m in
          let D : IsDoneOf (mirror w) (twin c) z.0 done = done_in (z.0).announces w c z.0 done same z.2 in
          let N : MatchOption (twin c).work ⊥ (λ work. IsDoneOf (mirror w) (twin c) work done) = is_there c.work (λ work. IsDoneOf (mirror w) (twin c) work done) z.0 z.1 D in
          is_there (slice_get (mirror w).components i) (λ d. MatchOption d.work ⊥ (λ work. IsDoneOf (mirror w) d work done)) (twin c) (get_in reading fair streams w.components i c e) N

      by : (o : Option ℕ) → place_numbered done.component w.components ≡ o → MatchOption (option_and_then (slice_get w.components) o) ⊥ (λ c. MatchOption c.work ⊥ (λ work. IsDoneOf w c work done)) → Meets (mirror w) (acts.Finish done)
      by None e m = absurd m
      by (Some i) e m = rw (position_in reading fair streams (is_numbered done.component) (λ d. refl) w.components ∙ e) (at i (slice_get w.components i) refl m)
