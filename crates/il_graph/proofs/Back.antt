-- A component's work comes back to a graph, with its part.
use Rattle.std.proofs.Common.{◌≡◌, ◌≢◌, ℕ, zero, suc, ◌<◌, Bool, true, false, ◌||◌, List, [], ◌∷◌, length, get_or, map, set, Option, Some, None, MatchOption, IsSomeAnd, option_map, option_and_then, slice_get, ◌&&◌, nat_eq, refl, sym, ◌∙◌, ap, subst, arith, eqb-true, length-set}
use Rattle.std.specs.Prelude.{is_some, unwrap_or}
use Rattle.std.proofs.lemmas.List.{length-map}
use Rattle.std.proofs.lemmas.Option.{slice_get-get_or, slice_get-map}
use Rattle.omx_types.specs.declared.fault.PartFault.{PartFault}
use Rattle.omx_types.specs.declared.handle.Handle.{Handle}
use Rattle.part_api.specs.declared.attached.Attached.TheVariants.{From, To}
use Rattle.part_api.specs.Terms.{Terms, Writing}
use Rattle.il_machine.specs.declared.answer.Progress.{Progress}
use Rattle.il_machine.specs.declared.port.Port.{Port}
use Rattle.il_machine.specs.Acts as acts
use Rattle.il_machine.specs.Answers.{component_named}
use Rattle.il_machine.specs.Due.{first_due, ClosesTo}
use Rattle.il_machine.specs.Effect.{at_numbered}
use Rattle.il_machine.specs.Finishing.{announced, announced_at, Finish, finished, gone_through, part_by, stepped_back}
use Rattle.il_machine.specs.Look.{Look}
use Rattle.il_machine.specs.Parts.{file_format, frames_left, terms_of}
use Rattle.il_machine.specs.Settings.{same_format}
use Rattle.il_machine.specs.Sound.{Sound}
use Rattle.il_machine.specs.Stepping.{WorkDone, IsDoneBy, IsDoneOf}
use Rattle.il_machine.specs.Whole.{HasDone, HasParts, PartSeen, Stands, StepsWhere}
use Rattle.il_machine.specs.World.{Component, Stream, Work, World, component_numbered, is_at, number_of, place_numbered, place_of, port_of, same_handle, stream_of}
use Rattle.il_machine.proofs.Places.{is_first_place, passes_at}
use Rattle.machine_laws.proofs.Finding.{either}
use Rattle.machine_laws.proofs.Granting.{placed_there}
use Rattle.machine_laws.proofs.Keys.{there_is}
use Rattle.machine_laws.proofs.Pairs.{apart_numbers}
use Rattle.machine_laws.proofs.Steps.{sound_after}
use Rattle.stock_laws.specs.Bare.{StandsBare, StepsBare, StepsBareWhere}
use Rattle.stock_laws.proofs.Lists.{get_set_same, map_set}
use Rattle.stock_laws.proofs.Works.{done_less, parts_landed, parts_told, through_nothing}
use Rattle.header_core.specs.BufferHeader.{BufferHeader}
use Rattle.work_landing.specs.declared.step.Step.{Step as Stepped}
use Rattle.work_landing.specs.Landed.{IsLeft, done_by}
use Rattle.work_landing.specs.Places.{carried_from}
use Rattle.il_component.specs.Entries.{component_of}
use Rattle.graph_core.specs.Entries.{Entries, component_at, components_of, look_of}
use Rattle.graph_core.specs.Entries as core
use Rattle.graph_core.specs.Finishing.{ComesBack}
use Rattle.graph_core.proofs.Announced.{told_is}
use Rattle.graph_core.proofs.Finished.{finished_is}
use Rattle.audio_parts.specs.declared.any_part.AnyPart.{AnyPart}
use Rattle.audio_parts.specs.declared.any_part.AnyPart.TheVariants as parts
use Rattle.audio_parts.specs.declared.part_file.PartFile.{PartFile}
use Rattle.audio_parts.specs.declared.part_file.PartFile.TheVariants as files
use Rattle.audio_parts.specs.declared.sink_file.SinkFile.{SinkFile}
use Rattle.audio_parts.specs.declared.source_file.SourceFile.{SourceFile}
use Rattle.audio_parts.specs.AnyParts.{attached_of, file_of as part_file}
use Rattle.audio_parts.specs.Shapes.{IsLawful}
use Rattle.audio_parts.specs.Shown.{ShownPart, shown_by, terms_by}
use Rattle.il_flow.specs.Steps.{shown}
use Rattle.il_flow.specs.Works.{DoneOf, seen_done}
use Rattle.il_graph.specs.Finishing.{IsItsOwn, Returns, failed_by}
use Rattle.il_graph.specs.HandedIn.{KeepsHandedIn}
use Rattle.il_graph.specs.Shown.{Shown, IsWhole, IsPartOf, KeepsFiles, seen_of, seen_parts, file_of, kept}
use Rattle.il_graph.proofs.Calling.{and_some, at_some}
use Rattle.il_graph.proofs.HandedIn.{keeps_at}
use Rattle.il_graph.proofs.Filing.{number_placed, parts_set, placed_set}
use Rattle.il_graph.proofs.PartsStay.{PartsStay, after_effect, has_parts_stay, part_of}
use Rattle.il_graph.proofs.Places.{told_set}
use Rattle.il_graph.proofs.Whole.{bare, count_alike, parts_alike, places_alike, sound_in, whole}

-- ---- what is known of a world in which the work comes back

pub record IsReturn (w : World) (c : Component) (done : WorkDone) (p : PartSeen) : Type 0 where
  pub work : Work
  pub is : c.work ≡ Some work
  pub comes : IsDoneOf w c work done
  pub stream : Stream
  pub flows : stream_of (number_of c) w ≡ Some stream
  pub gone : HasDone (terms_of c) (is_some done.fault) (gone_through done stream) p

pub return_of : (w : World) (i : ℕ) (c : Component) (done : WorkDone) (p : PartSeen) → Sound w → slice_get w.components i ≡ Some c → done.component ≡ number_of c → Returns w done p → IsReturn w c done p
return_of w i c done p S t n R =
    let named : component_numbered done.component w ≡ Some c = ap (λ (k : ℕ). component_numbered k w) n ∙ (ap (option_and_then (slice_get w.components)) (placed_there w.numbered i w.components c S.rising t) ∙ t) in
    let m : MatchOption c.work ⊥ (λ work. IsDoneOf w c work done) = rw named at R.0 in
    let b : MatchOption (stream_of done.component w) ⊥ (λ s. HasDone (terms_of c) (is_some done.fault) (gone_through done s) p) = rw named at R.1 in
    let x = there_is c.work (λ work. IsDoneOf w c work done) m in
    let y = there_is (stream_of done.component w) (λ s. HasDone (terms_of c) (is_some done.fault) (gone_through done s) p) b in
    record { work = x.0; is = x.1; comes = x.2; stream = y.0; flows = ap (λ (k : ℕ). stream_of k w) (sym n) ∙ y.1; gone = y.2 }

-- the work's end, by the component of the place
pub finish_by : (w v : World) (i : ℕ) (c : Component) (done : WorkDone) → Sound w → slice_get w.components i ≡ Some c → done.component ≡ number_of c → ClosesTo (finished i c done w) v → Finish w done v
finish_by w v i c done S t n h =
    let p : place_numbered done.component w.components ≡ Some i = ap (λ (k : ℕ). place_numbered k w.components) n ∙ placed_there w.numbered i w.components c S.rising t in
    rw (p, t) h

numbered_is : (w : World) (i : ℕ) (c : Component) (done : WorkDone) → Sound w → slice_get w.components i ≡ Some c → done.component ≡ number_of c → at_numbered done.component w (λ i c. finished i c done w) ≡ finished i c done w
numbered_is w i c done S t n =
    let p : place_numbered done.component w.components ≡ Some i = ap (λ (k : ℕ). place_numbered k w.components) n ∙ placed_there w.numbered i w.components c S.rising t in
    rw (p, t) refl

-- ---- the core

some_of : (o : Option Work) (work : Work) (announces : Bool) → o ≡ Some work → IsSomeAnd o (λ work. work.announces ≡ announces) → work.announces ≡ announces
some_of None work announces e h = absurd h
some_of (Some x) work announces e h = let q : x ≡ work = cc in ap (λ (y : Work). y.announces) (sym q) ∙ h

pub comes_back : (w : World) (c : Component) (places : List (Option BufferHeader)) (step : Stepped) (took : List ℕ) (p : PartSeen) → IsSomeAnd c.work (λ work. work.announces ≡ false) → step.left ≡ unwrap_or p.left 0
    → IsReturn w c (done_by (number_of c) places step took) p → ComesBack w c places step took
comes_back w c places step took p a l R =
    let d : WorkDone = done_by (number_of c) places step took in
    let left : (s : Stream) → stream_of (number_of c) w ≡ Some s → IsLeft c s d step = λ s e source.
    let z : Some R.stream ≡ Some s = sym R.flows ∙ e in
    let q : R.stream ≡ s = cc in
    l ∙ (ap (λ (o : Option ℕ). unwrap_or o 0) (R.gone.left source) ∙ ap (λ (x : Stream). frames_left (terms_of c) (gone_through d x)) q) in
    subst (λ (o : Option Work). MatchOption o ⊥ (λ work. (work.announces ≡ false) × IsDoneOf w c work d × ((s : Stream) → stream_of (number_of c) w ≡ Some s → IsLeft c s d step))) (sym R.is)
    (some_of c.work R.work false R.is a, R.comes, left)

module _ {C : Type 0} (progress : C → Progress) (g m k : Entries C) (i : ℕ) (c : Component) (at : component_at i g ≡ Some c) (sound : (w : World) → StandsBare (core.kept progress g) w → Sound w)
    (closes : StepsBare (core.kept progress m) (core.kept progress k) ClosesTo) where
  in_world : (w : World) → StandsBare (core.kept progress g) w → slice_get w.components i ≡ Some c
  in_world w B = ap (λ (l : Look). slice_get l.components i) B.looks ∙ at

  -- from a step
  pub step_returns : (places : List (Option BufferHeader)) (step : Stepped) (p : PartSeen) → IsSomeAnd c.work (λ work. work.announces ≡ false) → step.left ≡ unwrap_or p.left 0
      → ((took : List ℕ) → MatchOption (component_at i g) ⊥ (λ c. StepsBareWhere (core.kept progress g) (core.kept progress m) (λ w. ComesBack w c places step took) (λ w v. v ≡ finished i c (done_by (number_of c) places step took) w)))
      → (took : List ℕ) → StepsBareWhere (core.kept progress g) (core.kept progress k) (λ w. Returns w (done_by (number_of c) places step took) p) (λ w v. Finish w (done_by (number_of c) places step took) v)
  step_returns places step p a l s took = λ w B R.
      let d : WorkDone = done_by (number_of c) places step took in
      let t = at_some (λ c. StepsBareWhere (core.kept progress g) (core.kept progress m) (λ w. ComesBack w c places step took) (λ w v. v ≡ finished i c (done_by (number_of c) places step took) w)) (component_at i g) c at (s took) in
      let K = return_of w i c d p (sound w B) (in_world w B) refl R in
      let x = t w B (comes_back w c places step took p a l K) in
      let y = closes x.0 x.1 in
      (y.0, y.1, finish_by w y.0 i c d (sound w B) (in_world w B) refl (subst (λ (u : World). ClosesTo u y.0) x.2 y.2))

  -- from an announcement
  pub told_returns : (done : WorkDone) (p : PartSeen) → done.component ≡ number_of c → ((done : WorkDone) → MatchOption (component_at i g) ⊥ (λ c. StepsBare (core.kept progress g) (core.kept progress m) (λ w v. v ≡ finished i c done w)))
      → StepsBareWhere (core.kept progress g) (core.kept progress k) (λ w. Returns w done p) (λ w v. Finish w done v)
  told_returns done p n s = λ w B R.
      let t = at_some (λ c. StepsBare (core.kept progress g) (core.kept progress m) (λ w v. v ≡ finished i c done w)) (component_at i g) c at (s done) in
      let x = t w B in
      let y = closes x.0 x.1 in
      (y.0, y.1, finish_by w y.0 i c done (sound w B) (in_world w B) n (subst (λ (u : World). ClosesTo u y.0) x.2 y.2))

-- ---- the component, and the parts

-- nothing of what ties an announcement's part changes
record KeepsTied (c d : Component) : Type 0 where
  number : number_of d ≡ number_of c
  kind : d.settings.kind ≡ c.settings.kind
  file : d.file ≡ c.file
  part : d.part ≡ c.part
  work : d.work ≡ None

tied_at : (c : Component) (o : Option Port) → KeepsTied c (announced_at o (record c { work = None }))
tied_at c None = record { number = refl; kind = refl; file = refl; part = refl; work = refl }
tied_at c (Some p) = either (same_format p.setting.definition.format (file_format c.file))
    (λ t. rw t (record { number = refl; kind = refl; file = refl; part = refl; work = refl }))
    (λ f. rw f (record { number = refl; kind = refl; file = refl; part = refl; work = refl }))

pub or_false : (b : Bool) → (b || false) ≡ b
or_false true = refl
or_false false = refl

or_true : (b : Bool) → (b || true) ≡ true
or_true true = refl
or_true false = refl

failed_then : (c : Component) (s : Stream) (done : WorkDone) (o : Option PartFault) → (c.part.failed || is_some o) ≡ (part_by c s done o).failed
failed_then c s done None = or_false c.part.failed
failed_then c s done (Some fault) = or_true c.part.failed

module _ {A B : Type 0} where
  -- what the end makes of the component and of the world's parts
  pub record IsEnded (w : World) (i : ℕ) (c : Component) (done : WorkDone) (parts : List (Option PartSeen)) (q : ShownPart A B) : Type 0 where
    pub to : Component
    pub components : (finished i c done w).components ≡ set w.components i to
    pub number : number_of to ≡ number_of c
    pub free : to.work ≡ None
    pub tied : IsPartOf to q
    pub kept : HasParts (set parts i (Some (seen_of q))) (finished i c done w)

  tied_from : (c d : Component) (fault : Option PartFault) (q : ShownPart A B) → d.settings.kind ≡ c.settings.kind → d.file ≡ c.file → (c.part.failed || is_some fault) ≡ d.part.failed → IsPartOf (failed_by fault c) q → IsPartOf d q
  tied_from c d fault q k f p P = record { kind = P.kind ∙ sym k; lawful = P.lawful; file = P.file ∙ sym f; attached = P.attached ∙ sym f; failed = P.failed ∙ p }

  module _ (w : World) (S : Sound w) (i : ℕ) (c : Component) (at : slice_get w.components i ≡ Some c) (done : WorkDone) (parts : List (Option PartSeen)) (p : Option PartSeen) (there : slice_get parts i ≡ Some p) (q : ShownPart A B)
      (R : IsReturn w c done (seen_of q)) (P : HasParts parts w) (own : IsPartOf (failed_by done.fault c) q) where
    only : (j : ℕ) (d : Component) → slice_get w.components j ≡ Some d → j ≢ i → number_of d ≢ number_of c
    only j d t a = apart_numbers w.numbered j i w.components d c S.rising t at a

    by_step : R.work.announces ≡ false → IsEnded w i c done parts q
    by_step a =
        let s = R.stream in
        let e = finished_is i c done w R.work s R.is a R.flows in
        record {
          to = stepped_back c s done;
          components = ap (λ (x : World). x.components) e;
          number = refl;
          free = refl;
          tied = tied_from c (stepped_back c s done) done.fault q refl refl (failed_then c s done done.fault) own;
          kept = subst (HasParts (set parts i (Some (seen_of q)))) (sym e) (parts_landed parts w i c done s p (seen_of q) at only there R.flows R.gone P);
        }

    by_announcement : R.work.announces ≡ true → IsEnded w i c done parts q
    by_announcement a =
        let s = R.stream in
        let e = told_is i c done w R.work R.is a in
        let T = tied_at c (port_of c 0) in
        let x : IsDoneBy true w c R.work done = subst (λ (b : Bool). IsDoneBy b w c R.work done) a R.comes in
        let none : is_some done.fault ≡ false = ap is_some x.1 in
        let still : gone_through done s ≡ s = through_nothing done s x.0 x.3 in
        let H : HasDone (terms_of c) false s (seen_of q) = subst (λ (b : Bool). HasDone (terms_of c) b s (seen_of q)) none (subst (λ (y : Stream). HasDone (terms_of c) (is_some done.fault) y (seen_of q)) still R.gone) in
        let f : (c.part.failed || is_some done.fault) ≡ (announced c).part.failed = ap (λ (b : Bool). c.part.failed || b) none ∙ (or_false c.part.failed ∙ ap (λ y. y.failed) (sym T.part)) in
        record {
          to = announced c;
          components = ap (λ (y : World). y.components) e;
          number = T.number;
          free = T.work;
          tied = tied_from c (announced c) done.fault q T.kind T.file f own;
          kept = subst (HasParts (set parts i (Some (seen_of q)))) (sym e)
              (parts_told parts w i c s p (seen_of q) at only there R.flows (done_less (terms_of c) false c.part.failed s (seen_of q) (λ y. refl) H) P);
        }

    pub ended : IsEnded w i c done parts q
    ended = either R.work.announces by_announcement by_step

-- ---- the graph with the part

-- the work is back, and the part q at the place
pub record HasComeBack {S K C : Type 0} (progress : C → Progress) (g : Shown S K C) (k : Entries C) (i number : ℕ) (done : List ℕ → WorkDone) (q : ShownPart S K) : Type 0 where
  -- each world in which the work comes back goes on to one
  pub step : (took : List ℕ) → StepsWhere (kept progress g) (kept progress (record { core = k; parts = set g.parts i (Some q) })) (λ w. Returns w (done took) (seen_of q)) (λ w v. Finish w (done took) v)
  pub whole : first_due (look_of k) ≡ None → IsWhole progress (record { core = k; parts = set g.parts i (Some q) })
  -- the file that came along, and those of the others
  pub file : file_of number (record { core = k; parts = set g.parts i (Some q) }) ≡ q.file
  pub files : KeepsFiles number g (record { core = k; parts = set g.parts i (Some q) })
  -- the client has what it had
  pub held : KeepsHandedIn (look_of g.core) (look_of k)

module _ {S K C : Type 0} (progress : C → Progress) (g : Shown S K C) (k : Entries C) (i : ℕ) (c : Component) (done : List ℕ → WorkDone) (q : ShownPart S K) (I : IsWhole progress g) (at : slice_get (components_of g.core.entries) i ≡ Some c)
    (own : (took : List ℕ) → (done took).component ≡ number_of c) (p : Option (ShownPart S K)) (here : slice_get g.parts i ≡ Some p) (tied : (took : List ℕ) → IsPartOf (failed_by (done took).fault c) q)
    (T : (took : List ℕ) → StepsBareWhere (core.kept progress g.core) (core.kept progress k) (λ w. Returns w (done took) (seen_of q)) (λ w v. Finish w (done took) v)) where
  abbrev back : Shown S K C
  back = record { core = k; parts = set g.parts i (Some q) }

  module _ (took : List ℕ) (w : World) (s : Stands (kept progress g) w) (R : Returns w (done took) (seen_of q)) where
    abbrev B : StandsBare (core.kept progress g.core) w
    B = bare progress g w s

    sound : Sound w
    sound = sound_in progress g I w B

    here_in : slice_get w.components i ≡ Some c
    here_in = ap (λ (l : Look). slice_get l.components i) B.looks ∙ at

    after : (v : World) × StandsBare (core.kept progress k) v × Finish w (done took) v
    after = T took w B R

    end : IsEnded w i c (done took) (seen_parts g.parts) q
    end = ended w sound i c here_in (done took) (seen_parts g.parts) (option_map seen_of p) (slice_get-map (option_map seen_of) g.parts i ∙ ap (option_map (option_map seen_of)) here) q
        (return_of w i c (done took) (seen_of q) sound here_in (own took) R) s.parts (tied took)

    stay : PartsStay (finished i c (done took) w) after.0
    stay = subst (λ (u : World). PartsStay u after.0) (numbered_is w i c (done took) sound here_in (own took)) (after_effect w sound (acts.Finish (done took)) acts.Finished after.0 R.0 after.2)

    stands : Stands (kept progress back) after.0
    stands = whole progress back after.0 after.1
        (subst (λ (ps : List (Option PartSeen)). HasParts ps after.0) (sym (map_set (option_map seen_of) g.parts i (Some q)))
        (has_parts_stay (set (seen_parts g.parts) i (Some (seen_of q))) (finished i c (done took) w) after.0 stay end.kept))

    alike : map part_of (components_of k.entries) ≡ map part_of (set (components_of g.core.entries) i end.to)
    alike =
        ap (λ (l : Look). map part_of l.components) (sym after.1.looks)
        ∙ (stay.parts ∙ (ap (map part_of) end.components ∙ ap (λ (l : Look). map part_of (set l.components i end.to)) B.looks))

    is_whole : first_due (look_of k) ≡ None → IsWhole progress back
    is_whole closed = record {
      closed = closed;
      count = length-set g.parts i (Some q) ∙ (I.count ∙ (sym (length-set (components_of g.core.entries) i end.to) ∙ count_alike (set (components_of g.core.entries) i end.to) (components_of k.entries) alike));
      parts = parts_alike (set (components_of g.core.entries) i end.to) (components_of k.entries) (set g.parts i (Some q)) alike (parts_set (components_of g.core.entries) g.parts i c end.to p q at here end.tied end.free I.parts);
      worlds = record { world = after.0; stands = stands; sound = sound_after w after.0 (acts.Finish (done took)) acts.Finished R.0 after.2 sound };
    }

    -- the numbers stand where they stood
    numbers : (n : ℕ) → place_numbered n (components_of k.entries) ≡ place_numbered n (components_of g.core.entries)
    numbers n =
        places_alike n (components_of k.entries) (set (components_of g.core.entries) i end.to) alike ∙ placed_set n (components_of g.core.entries) i c end.to at end.number

    placed : place_numbered (number_of c) (components_of g.core.entries) ≡ Some i
    placed = ap (λ (l : Look). place_numbered (number_of c) l.components) (sym B.looks) ∙ placed_there w.numbered i w.components c sound.rising here_in

    -- the file that came along
    file_back : (n : ℕ) → n ≡ number_of c → file_of n back ≡ q.file
    file_back n e =
        ap (option_and_then (λ j. option_and_then (option_and_then (λ (x : ShownPart S K). x.file)) (slice_get (set g.parts i (Some q)) j))) (numbers n ∙ (ap (λ (m : ℕ). place_numbered m (components_of g.core.entries)) e ∙ placed))
        ∙ ap (option_and_then (option_and_then (λ (x : ShownPart S K). x.file))) (get_set_same g.parts i p (Some q) here)

    files_stay : (n : ℕ) → n ≡ number_of c → KeepsFiles n g back
    files_stay n e m apart =
        let f : Option (ShownPart S K) → Option (PartFile S K) = option_and_then (λ (x : ShownPart S K). x.file) in
        ap (option_and_then (λ j. option_and_then f (slice_get (set g.parts i (Some q)) j))) (numbers m)
        ∙ told_set f g.parts i (Some q) (place_numbered m (components_of g.core.entries)) (λ z. apart (sym (number_placed m (components_of g.core.entries) i c z at) ∙ sym e))

  pub came_back : (took : List ℕ) (w : World) → Stands (kept progress g) w → Returns w (done took) (seen_of q) → (n : ℕ) → n ≡ number_of c → HasComeBack progress g k i n done q
  came_back took w s R n e = record {
    step = λ took w s R. ((after took w s R).0, stands took w s R, (after took w s R).2);
    whole = is_whole took w s R;
    file = file_back took w s R n e;
    files = files_stay took w s R n e;
    held = keeps_at progress g.core k (acts.Finish (done took)) acts.Finished refl refl w (B took w s R) (sound took w s R) R.0 (after took w s R).0 (after took w s R).1 (after took w s R).2;
  }

-- ---- the call

second : (a b : Bool) → (a && b) ≡ true → b ≡ true
second true b e = e
second false b e = absurd cc

-- the component that the handle names has its number
pub number_named : (h : Handle) (cs : List Component) (i : ℕ) (c : Component) → place_of h cs ≡ Some i → slice_get cs i ≡ Some c → number_of c ≡ h.generation
number_named h cs i c e at =
    let x = passes_at (is_at h) cs i (sym (is_first_place (is_at h) cs) ∙ e) in
    let z : Some x.0 ≡ Some c = sym x.1 ∙ at in
    let q : x.0 ≡ c = cc in
    let t : same_handle c.handle h ≡ true = ap (is_at h) (sym q) ∙ x.2 in
    eqb-true c.handle.generation h.generation (second (nat_eq c.handle.slot h.slot) (nat_eq c.handle.generation h.generation) t)

pub named_is : (h : Handle) (cs : List Component) (i : ℕ) (c : Component) → place_of h cs ≡ Some i → slice_get cs i ≡ Some c → component_named h cs ≡ Some c
named_is h cs i c p t = rw (p, t) refl

pub some_at : {X : Type 0} (xs : List X) (i : ℕ) → i < length xs → (x : X) × (slice_get xs i ≡ Some x)
some_at [] i b = absurd (omega arith)
some_at (x ∷ xs) zero b = (x, refl)
some_at (x ∷ xs) (suc i) b = some_at xs i (omega arith)

pub map_back : {X Y : Type 0} (f : X → Y) (items : List (Option X)) (i : ℕ) (o : Option X) (x : X) → o ≡ Some x → map (option_map f) (set items i o) ≡ set (map (option_map f) items) i (Some (f x))
map_back f items i o x e = map_set (option_map f) items i o ∙ ap (λ z. set (map (option_map f) items) i (option_map f z)) e

-- what is shown, by what the part's members tell
pub seen_as : {A B : Type 0} (q : ShownPart A B) (l : Option ℕ) (r k : Option (List ℕ)) (w : Option Writing) → q.left ≡ l → q.rest ≡ r → q.kept ≡ k → q.writing ≡ w → shown l r k w ≡ seen_of q
seen_as q l r k w a b c d = λ i. record { left = sym a i; rest = sym b i; kept = sym c i; writing = sym d i }

from_source : {A : Type 0} (B : Type 0) (o : Option (SourceFile A)) → option_map (λ it. From it.format it.attached) o ≡ option_map (attached_of {S = A} {K = B}) (option_map (λ it. files.From it.source it.format it.attached) o)
from_source B None = refl
from_source B (Some it) = refl

to_sink : (A : Type 0) {B : Type 0} (o : Option (SinkFile B)) → option_map (λ it. To it.planned) o ≡ option_map (attached_of {S = A} {K = B}) (option_map (λ it. files.To it.sink it.planned) o)
to_sink A None = refl
to_sink A (Some it) = refl

module _ {A B : Type 0} {s : _} {k : _} where
  -- the file of a part is that of its terms
  terms_file : (part : AnyPart A B s k) → (terms_by part).file ≡ option_map attached_of (part_file part)
  terms_file (parts.Source it) = from_source B it.file
  terms_file (parts.Sink it) = to_sink A it.file
  terms_file (parts.Decoder it) = refl
  terms_file (parts.Encoder it) = refl
  terms_file (parts.Gain it) = refl
  terms_file (parts.Mixer it) = refl
  terms_file (parts.Splitter it) = refl

  -- the part is the component's, as the step left it
  pub own_part : (told : A → Option (List ℕ)) (keeps : B → Option (List ℕ)) (name : B → List ℕ) (part : AnyPart A B s k) (c : Component) (announces : Bool) (fault : Option PartFault) (t : Terms) (failed : Bool)
      → (shown_by told keeps name part).terms ≡ t → (shown_by told keeps name part).failed ≡ failed → IsLawful t → IsItsOwn c announces fault t failed → IsPartOf (failed_by fault c) (shown_by told keeps name part)
  own_part told keeps name part c announces fault t failed e f lawful O = record {
    kind = ap (λ (x : Terms). x.kind) e ∙ O.kind;
    lawful = subst IsLawful (sym e) lawful;
    file = sym (terms_file part) ∙ (ap (λ (x : Terms). x.file) e ∙ O.its_file);
    attached = ap (λ (x : Terms). x.file) e ∙ O.its_file;
    failed = f ∙ O.so_failed;
  }

  -- the place had no file
  pub no_file : (told : A → Option (List ℕ)) (keeps : B → Option (List ℕ)) (name : B → List ℕ) (old : Option (AnyPart A B s k)) → option_and_then (λ (p : ShownPart A B). p.file) (option_map (shown_by told keeps name) old) ≡ None
      → option_and_then (λ part. part_file part) old ≡ None
  no_file told keeps name None e = refl
  no_file told keeps name (Some part) e = e

-- the place had no part, so no file
pub old_file : {A B C : Type 0} (progress : C → Progress) (g : Shown A B C) (i : ℕ) (c : Component) (p : Option (ShownPart A B)) → IsWhole progress g → slice_get (components_of g.core.entries) i ≡ Some c → is_some c.work ≡ true → slice_get g.parts i ≡ Some p
    → option_and_then (λ (x : ShownPart A B). x.file) p ≡ None
old_file {A = A} {B = B} progress g i c p I at works here =
    let s : Some p ≡ Some None = sym here ∙ I.parts.away i c at works in
    let none : p ≡ None = cc in
    ap (option_and_then (λ (x : ShownPart A B). x.file)) none

-- a work is out
pub work_out : (P : Work → Type 0) (o : Option Work) → IsSomeAnd o P → is_some o ≡ true
work_out P None h = absurd h
work_out P (Some work) h = refl

-- what the step brings back is the work's
pub brought_done : {P : Type 0} (d : DoneOf P) (n : ℕ) (headers : List (Option BufferHeader)) (frames : ℕ) (fault : Option PartFault) (left : ℕ) (took : List ℕ) → n ≡ d.component.generation → headers ≡ d.headers → frames ≡ d.frames → fault ≡ d.fault
    → done_by n headers (record { frames = frames; fault = fault; left = left }) took ≡ seen_done took d
brought_done d n headers frames fault left took a b e f = λ i. record { component = a i; frames = e i; fault = f i; headers = carried_from 0 (b i); took = took }

-- ---- what the call has

and_at : {A : Type 0} (P : A → Type 0) (o : Option A) (x : A) → o ≡ Some x → IsSomeAnd o P → P x
and_at P None x e m = absurd cc
and_at P (Some y) x e m = let q : y ≡ x = cc in subst P q m

and_none : {A : Type 0} (P : A → Type 0) (o : Option A) → o ≡ None → IsSomeAnd o P → ⊥
and_none P None e m = m
and_none P (Some y) e m = absurd cc

pub own_is : {announces : Bool} {fault : Option PartFault} {t : Terms} {failed : Bool} (h m : Handle) (cs : List Component) (i : ℕ) (c : Component) → h ≡ m → place_of h cs ≡ Some i → slice_get cs i ≡ Some c
    → IsSomeAnd (component_named m cs) (λ c. IsItsOwn c announces fault t failed) → IsItsOwn c announces fault t failed
own_is {announces = announces} {fault = fault} {t = t} {failed = failed} h m cs i c e p at J =
    and_at (λ c. IsItsOwn c announces fault t failed) (component_named m cs) c (subst (λ (x : Handle). component_named x cs ≡ Some c) e (named_is h cs i c p at)) J

pub own_none : (announces : Bool) (fault : Option PartFault) (t : Terms) (failed : Bool) (h m : Handle) (cs : List Component) → h ≡ m → place_of h cs ≡ None
    → IsSomeAnd (component_named m cs) (λ c. IsItsOwn c announces fault t failed) → ⊥
own_none announces fault t failed h m cs e p J =
    and_none (λ c. IsItsOwn c announces fault t failed) (component_named m cs) (subst (λ (x : Handle). component_named x cs ≡ None) e (ap (option_and_then (slice_get cs)) p)) J

-- the same told otherwise
pub own_as : (c : Component) (announces : Bool) (fault : Option PartFault) (t u : Terms) (f g : Bool) → t ≡ u → f ≡ g → IsItsOwn c announces fault t f → IsItsOwn c announces fault u g
own_as c announces fault t u f g e d O = record { work = O.work; kind = ap (λ (x : Terms). x.kind) (sym e) ∙ O.kind; its_file = ap (λ (x : Terms). x.file) (sym e) ∙ O.its_file; so_failed = sym d ∙ O.so_failed }

pub works_so : (c : Component) (a b : Bool) → a ≡ b → IsSomeAnd c.work (λ work. work.announces ≡ a) → IsSomeAnd c.work (λ work. work.announces ≡ b)
works_so c a b e h = subst (λ (x : Bool). IsSomeAnd c.work (λ work. work.announces ≡ x)) e h

pub items_within : {X Y Z W : Type 0} (f : X → Y) (k : Z → W) (items : List X) (entries : List Z) (i : ℕ) → length (map f items) ≡ length (map k entries) → i < length entries → i < length items
items_within f k items entries i e b = subst (λ n. i < n) (sym (length-map entries k) ∙ (sym e ∙ length-map items f)) b

pub brought_is : {B : Type 0} (o : Option B) (b x : B) → o ≡ Some b → o ≡ Some x → b ≡ x
brought_is o b x e f = let z : Some b ≡ Some x = sym e ∙ f in let q : b ≡ x = cc in q

pub is_told : {B : Type 0} (a : Bool) (o : Option B) (x : B) → (a ≡ false → o ≡ Some x) → o ≡ None → a ≡ true
is_told true o x h e = refl
is_told false o x h e = let z : None ≡ Some x = sym e ∙ h refl in absurd cc

pub is_brought : {B : Type 0} (a : Bool) (o : Option B) (b : B) → (a ≡ true → o ≡ None) → o ≡ Some b → a ≡ false
is_brought false o b h e = refl
is_brought true o b h e = let z : None ≡ Some b = sym (h refl) ∙ e in absurd cc

-- ---- the call, by what it has

-- what is known of the work that comes back as d, with its part as q
pub record IsKnown {S K C P : Type 0} (progress : C → Progress) (g : Shown S K C) (i : ℕ) (d : DoneOf P) (q : ShownPart S K) : Type 0 where
  pub component : Component
  pub at : slice_get (components_of g.core.entries) i ≡ Some component
  pub number : d.component.generation ≡ number_of component
  pub out : IsSomeAnd component.work (λ work. work.announces ≡ d.announces)
  pub tied : IsPartOf (failed_by d.fault component) q
  pub took : List ℕ
  pub world : World
  pub stands : Stands (kept progress g) world
  pub returns : Returns world (seen_done took d) (seen_of q)

-- what a step brings back, and not an announcement
pub record IsBrought {S K P : Type 0} (d : DoneOf P) (q : ShownPart S K) (places : List (Option BufferHeader)) (step : Stepped) : Type 0 where
  pub announces : d.announces ≡ false
  pub headers : places ≡ d.headers
  pub frames : step.frames ≡ d.frames
  pub fault : step.fault ≡ d.fault
  pub left : step.left ≡ unwrap_or q.left 0

module _ {S K C P : Type 0} (progress : C → Progress) (g : Shown S K C) (i : ℕ) (d : DoneOf P) (q : ShownPart S K) (I : IsWhole progress g) (Y : IsKnown progress g i d q) where
  module _ (m k : Entries C) (old : Option (ShownPart S K)) (here : slice_get g.parts i ≡ Some old) (closes : StepsBare (core.kept progress m) (core.kept progress k) ClosesTo) where
    back_by : ((took : List ℕ) → StepsBareWhere (core.kept progress g.core) (core.kept progress k) (λ w. Returns w (seen_done took d) (seen_of q)) (λ w v. Finish w (seen_done took d) v))
        → HasComeBack progress g k i d.component.generation (λ took. seen_done took d) q
    back_by T = came_back progress g k i Y.component (λ took. seen_done took d) q I Y.at (λ took. Y.number) old here (λ took. Y.tied) T Y.took Y.world Y.stands Y.returns d.component.generation Y.number

    pub told_back : ((done : WorkDone) → MatchOption (component_at i g.core) ⊥ (λ c. StepsBare (core.kept progress g.core) (core.kept progress m) (λ w v. v ≡ finished i c done w)))
        → HasComeBack progress g k i d.component.generation (λ took. seen_done took d) q
    told_back s = back_by (λ took. told_returns progress g.core m k i Y.component Y.at (λ w B. sound_in progress g I w B) closes (seen_done took d) (seen_of q) Y.number s)

    pub worked_back : (places : List (Option BufferHeader)) (step : Stepped) → IsBrought d q places step
        → ((took : List ℕ) → MatchOption (component_at i g.core) ⊥ (λ c. StepsBareWhere (core.kept progress g.core) (core.kept progress m) (λ w. ComesBack w c places step took) (λ w v. v ≡ finished i c (done_by (number_of c) places step took) w)))
        → HasComeBack progress g k i d.component.generation (λ took. seen_done took d) q
    worked_back places step Z s = back_by (λ took.
        subst (λ (x : WorkDone). StepsBareWhere (core.kept progress g.core) (core.kept progress k) (λ w. Returns w x (seen_of q)) (λ w v. Finish w x v))
        (brought_done d (number_of Y.component) places step.frames step.fault step.left took (sym Y.number) Z.headers Z.frames Z.fault)
        (step_returns progress g.core m k i Y.component Y.at (λ w B. sound_in progress g I w B) closes places step (seen_of q) (works_so Y.component d.announces false Z.announces Y.out) Z.left s took))

  pub comes_with : (places : List (Option BufferHeader)) (step : Stepped) → IsBrought d q places step
      → IsSomeAnd (component_at i g.core) (λ c. (w : World) × (took : List ℕ) × (StandsBare (core.kept progress g.core) w × ComesBack w c places step took))
  comes_with places step Z =
      let B = bare progress g Y.world Y.stands in
      let R = return_of Y.world i Y.component (seen_done Y.took d) (seen_of q) (sound_in progress g I Y.world B) (ap (λ (l : Look). slice_get l.components i) B.looks ∙ Y.at) Y.number Y.returns in
      and_some (λ c. (w : World) × (took : List ℕ) × (StandsBare (core.kept progress g.core) w × ComesBack w c places step took)) (component_at i g.core) Y.component Y.at (
        Y.world,
        Y.took,
        (
          B,
          comes_back Y.world Y.component places step Y.took (seen_of q) (works_so Y.component d.announces false Z.announces Y.out) Z.left
              (subst (λ (x : WorkDone). IsReturn Y.world Y.component x (seen_of q)) (sym (brought_done d (number_of Y.component) places step.frames step.fault step.left Y.took (sym Y.number) Z.headers Z.frames Z.fault)) R),
        ),
      )

-- ---- the part's place

module _ {S K C P : Type 0} (progress : C → Progress) (f : P → ShownPart S K) (items : List (Option P)) (core : Entries C) (i : ℕ) (I : IsWhole progress (record { core = core; parts = map (option_map f) items })) (b : i < length core.entries) where
  there_within : i < length items
  there_within = items_within (option_map f) component_of items core.entries i I.count b

  pub place_within : (n : ℕ) → n ≡ length items → i < n
  place_within n e = subst (λ (m : ℕ). i < m) (sym e) there_within

  -- what is read there
  pub read_part : (o : Option P) → o ≡ get_or items i o → slice_get (map (option_map f) items) i ≡ Some (option_map f o)
  read_part o e = slice_get-map (option_map f) items i ∙ ap (option_map (option_map f)) (slice_get-get_or items i o there_within ∙ ap Some (sym e))

-- nothing with a file was there
pub was_empty : {A B C P : Type 0} {s : _} {k : _} (told : A → Option (List ℕ)) (keeps : B → Option (List ℕ)) (name : B → List ℕ) (progress : C → Progress) (items : List (Option (AnyPart A B s k))) (core : Entries C) (i : ℕ)
    (I : IsWhole progress (record { core = core; parts = map (option_map (shown_by told keeps name)) items })) → i < length core.entries → {d : DoneOf P} {q : ShownPart A B} → IsKnown progress (record { core = core; parts = map (option_map (shown_by told keeps name)) items }) i d q
    → (old : Option (AnyPart A B s k)) → old ≡ get_or items i old → option_and_then (λ part. part_file part) old ≡ None
was_empty told keeps name progress items core i I b {d} {q} y old e =
    no_file told keeps name old (old_file progress _ i y.component (option_map (shown_by told keeps name) old) I y.at (work_out (λ work. work.announces ≡ d.announces) y.component.work y.out) (read_part progress (shown_by told keeps name) items core i I b old e))
