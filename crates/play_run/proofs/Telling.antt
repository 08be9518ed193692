-- A note is taken, told to its client object, and that goes back.
use Rattle.std.proofs.Common.{◌≡◌, inl, inr, ◌<◌, ℕ, zero, suc, Bool, true, false, nat_eq, List, [], ◌∷◌, ◌++◌, set, length, slice_get, Option, Some, None, Result, Ok, refl, sym, ◌∙◌, ap, subst, eq-eqb}
use Rattle.std.specs.Prelude.{filter, option_and_then}
use Rattle.omx_types.specs.declared.handle.Handle.{Handle}
use Rattle.omx_types.specs.declared.error.OmxError.{OmxError}
use Rattle.omx_types.specs.declared.command.Event.{Event}
use Rattle.omx_types.specs.declared.command.Note.{Note}
use Rattle.omx_types.specs.declared.command.Note.TheVariants as notes
use Rattle.il_machine.specs.declared.answer.Progress.{Progress}
use Rattle.il_machine.specs.World.{Component, Given, World, is_at, number_of, same_handle}
use Rattle.il_machine.specs.Answers.{component_named, plain}
use Rattle.il_machine.specs.Acts as acts
use Rattle.il_machine.specs.Run.{Meets}
use Rattle.il_machine.specs.Components.{is_given_to, moved_by, no_progress, noted_by, progress_after, progress_of}
use Rattle.il_machine.specs.Due.{ClosesTo, HappenTimes, Happens, IsClosed}
use Rattle.il_machine.specs.Notes.{EndNote, TakeFrom, TakeNote, Taken, TakenEvent, Took, TookNote, first_taken, with_given}
use Rattle.il_machine.specs.Lists.{is_empty}
use Rattle.il_machine.specs.Room.{is_event}
use Rattle.il_machine.specs.Whole.{Always, Stands, Steps, StepsWhere}
use Rattle.il_machine.proofs.Places.{is_first_place, place_set}
use Rattle.machine_laws.proofs.Every.{set_there}
use Rattle.machine_laws.proofs.Finding.{either}
use Rattle.machine_laws.proofs.Keys.{at_there, is_there, none_or_some}
use Rattle.machine_laws.proofs.Notices.{sound_given}
use Rattle.machine_laws.proofs.Steps.{sound_step}
use Rattle.note_queues.specs.Queues.{taken_of}
use Rattle.note_queues.specs.declared.taken.Taken.{Taken as Given_}
use Rattle.note_queues.specs.declared.taken.Taken.TheVariants as given
use Rattle.graph_core.specs.Clients.{AreTold, KeepsClients, WasTold}
use Rattle.graph_core.specs.Entries.{Entries, client_named, client_of}
use Rattle.graph_core.proofs.Registering.{same_fields}
use Rattle.il_graph.specs.Shown.{Shown}
use Rattle.play_model.specs.Play.{Layout, Play}
use Rattle.play_model.specs.Acts.{Act, CanAct}
use Rattle.play_loop.specs.Turns.{CanNone, IsAtRest, SomePlay}
use Rattle.act_text.specs.declared.text.ActText.{ActText}
use Rattle.script_lang.specs.declared.play_line.PartLine.{PartLine}
use Rattle.play_log.specs.Kept.{LogValue}
use Rattle.play_log.specs.Scenes.{scene_of}
use Rattle.play_log.specs.Said.{SaysOf}
use Rattle.play_world_laws.specs.Cast.{components_of, script_place}
use Rattle.play_world_laws.specs.Worlds.{Names}
use Rattle.play_world_laws.proofs.Lists.{resolved}
use Rattle.play_world_laws.specs.PlayWorlds.{IsPlayWorld, PlayCast}
use Rattle.play_world_laws.proofs.ChangeEnds.{actor_there}
use Rattle.play_world_laws.proofs.StageNotes.{an_event, takes}
use Rattle.play_world_laws.specs.Happenings.{IsHappening}
use Rattle.play_world_laws.specs.Waiting.{IsWaiting}
use Rattle.play_world_laws.proofs.StageHappening.{none_due, one_happens}
use Rattle.play_world_laws.specs.Tellings.{IsTellingOf}
use Rattle.play_turn_laws.specs.Turns.{PlayCame}
use Rattle.play_turn_laws.proofs.Coming.{none_told, tells_come}
use Rattle.play_plan_laws.specs.Assemblies.{play_cast_of}
use Rattle.play_plan_laws.specs.Casting.{place_of as place_in}
use Rattle.play_graph.specs.Graphs.{IsHandleAt, client_progress, kept_of}
use Rattle.play_run.specs.Playing.{AsksIn, AreClientsIn, IsPlaying, IsStanding, PlayingValue, TurnsTo, layout_of}
use Rattle.play_run.specs.Recording.{IsNameAt, IsTold}
use Rattle.play_graph.specs.Stops.{IsEvent}
use Rattle.play_graph.proofs.Noted.{event_is}
use Rattle.il_graph.proofs.PartsStay.{step_stays}
use Rattle.play_run.proofs.Naming.{all_clients_in}
use Rattle.play_run.proofs.Working.{still_none}
use Rattle.play_run.proofs.Commanding.{component_named_in}
use Rattle.play_run.proofs.Recording.{is_player, one_more, own_rests}
use Rattle.play_run.proofs.Streaming.{EndsOn, StreamsGo, StreamsOn, TakesOn, streams_go}
use Rattle.play_run.proofs.Files.{told_same}
use Rattle.play_run.proofs.Answering.{turn_goes, turn_stays, with_both}

-- ---- a close-out in which nothing is due

-- what is at rest can make no happening
at_rest : (w : Layout) (p : Play) (a : Act) → IsAtRest w p → IsHappening a → CanAct w p a → ⊥
at_rest w p (Act.Happen c) R h C = R.components c C
at_rest w p (Act.HappenPort l o) R h C = R.ports l o C
at_rest w p Act.Begin R h C = h
at_rest w p (Act.Send c) R h C = h
at_rest w p (Act.Run c) R h C = h
at_rest w p (Act.Tell c) R h C = h
at_rest w p (Act.TellEnd c) R h C = h
at_rest w p (Act.Supply l) R h C = h
at_rest w p (Act.Release l) R h C = h
at_rest w p (Act.HandOver l) R h C = h
at_rest w p (Act.HandBack l) R h C = h
at_rest w p (Act.HandUnused l) R h C = h
at_rest w p (Act.Announce l) R h C = h
at_rest w p (Act.TellSettings l) R h C = h
at_rest w p (Act.Conduct l) R h C = h
at_rest w p (Act.RunPort l o) R h C = h
at_rest w p (Act.TellPort l o) R h C = h
at_rest w p (Act.Step c n last) R h C = h

module _ (x : PlayCast) (recent : ℕ) (p : Play) (e v : World) (W : IsPlayWorld x recent p e) (V : IsWaiting (x.cast).layout p) (R : IsAtRest (x.cast).layout p) where
  times_same : (n : ℕ) (u : World) → HappenTimes n e u → u ≡ e
  times_same zero u h = h
  times_same (suc n) u h =
      let L = one_happens x recent p e u W V (subst (λ (y : World). Happens y u) (times_same n h.0 h.1) h.2) in
      absurd (at_rest (x.cast).layout p L.0 R L.1 L.2)

  closes_same : ClosesTo e v → v ≡ e
  closes_same C = times_same C.steps v C.by_steps

-- ---- what is told

progress_more : (number : ℕ) (gs : List Given) (note : Note) (p : Progress) → progress_after (filter (is_given_to number) (gs ++ record { component = number; note = note } ∷ [])) p ≡ noted_by note (progress_after (filter (is_given_to number) gs) p)
progress_more number [] note p = let t : nat_eq number number ≡ true = eq-eqb number number refl in rw t refl
progress_more number (g ∷ gs) note p = either (is_given_to number g)
    (λ t. rw t (progress_more number gs note (noted_by g.note p)))
    (λ f. rw f (progress_more number gs note p))

empty_first : (xs : List Note) → slice_get xs 0 ≡ None → is_empty xs ≡ true
empty_first [] e = refl
empty_first (n ∷ xs) e = absurd cc

module _ (x : PlayCast) (recent : ℕ) (p : Play) (w : World) (c : ℕ) (h : Handle) (W : IsPlayWorld x recent p w) (l : c < components_of x.cast) (N : Names x.cast w c h) (a : Component) (e : slice_get w.components (script_place x.cast c) ≡ Some a) (o : a.client_out ≡ false) where
  from_note : (r : Result Took OmxError) (v : World) → TakeNote w h r v → TakeFrom w (script_place x.cast c) a false (slice_get a.notes 0) r v
  from_note r v s = subst (λ (b : Bool). TakeFrom w (script_place x.cast c) a b (slice_get a.notes 0) r v) o (resolved plain w h r v (λ i d. TakeFrom w i d d.client_out (slice_get d.notes 0) r v) (script_place x.cast c) a N e s)

  no_header : (r : Result Took OmxError) (v : World) (n : Note) → slice_get a.notes 0 ≡ Some n → is_event n ≡ true
  no_header r v n f = an_event x recent p w W c l a e (W.actors c a l e) n o f

  note_comes : (r : Result Took OmxError) (v : World) (n : Note) → slice_get a.notes 0 ≡ Some n → TakeFrom w (script_place x.cast c) a false (Some n) r v → (taken : Taken) × (r ≡ Ok (TookNote taken))
  note_comes r v (notes.Told event) f s = (TakenEvent event, s.0)
  note_comes r v (notes.EmptyDone k) f s = let b : false ≡ true = no_header r v (notes.EmptyDone k) f in absurd cc
  note_comes r v (notes.FillDone k) f s = let b : false ≡ true = no_header r v (notes.FillDone k) f in absurd cc

  -- where no note came, nothing can be told
  pub none_taken : (r : Result Took OmxError) (v : World) → TakeNote w h r v → ((taken : Taken) → r ≡ Ok (TookNote taken) → ⊥) → CanNone (x.cast).layout p (IsTellingOf (x.cast).layout c)
  none_taken r v s never = elim (none_or_some (slice_get a.notes 0)) [
    | inl z ↦ none_told x recent p w c a W e o (empty_first a.notes z)
    | inr n ↦ let g = note_comes r v n.0 n.1 (subst (λ (y : Option Note). TakeFrom w (script_place x.cast c) a false y r v) n.1 (from_note r v s)) in absurd (never g.0 g.1)
  ]

  pub record IsTaken (taken : Taken) (v : World) : Type 0 where
    pub event : Event
    pub is : taken ≡ TakenEvent event
    pub same : v ≡ with_given (script_place x.cast c) a (notes.Told event) w
    pub play : IsPlayWorld x recent p (with_given (script_place x.cast c) a (notes.Told event) w)

  by_oldest : (V : IsWaiting (x.cast).layout p) (Z : IsClosed w) (taken : Taken) (v : World) (oldest : Option Note) → slice_get a.notes 0 ≡ oldest → TakeFrom w (script_place x.cast c) a false oldest (Ok (TookNote taken)) v → IsTaken taken v
  by_oldest V Z taken v None f s = let b = s.0 in absurd cc
  by_oldest V Z taken v (Some (notes.Told event)) f s =
      let b = s.0 in
      let is : taken ≡ TakenEvent event = cc in
      let S = sound_given w (script_place x.cast c) a event W.sound e f in
      let P = takes x recent p w W c l a e (W.actors c a l e) (notes.Told event) o f S in
      record { event = event; is = is; same = closes_same x recent p (with_given (script_place x.cast c) a (notes.Told event) w) v P V (none_due x recent p w W Z) s.1; play = P }
  by_oldest V Z taken v (Some (notes.EmptyDone k)) f s = let b : false ≡ true = no_header (Ok (TookNote taken)) v (notes.EmptyDone k) f in absurd cc
  by_oldest V Z taken v (Some (notes.FillDone k)) f s = let b : false ≡ true = no_header (Ok (TookNote taken)) v (notes.FillDone k) f in absurd cc

  pub taken_so : IsWaiting (x.cast).layout p → IsClosed w → (taken : Taken) (v : World) → TakeNote w h (Ok (TookNote taken)) v → IsTaken taken v
  taken_so V Z taken v s = by_oldest V Z taken v (slice_get a.notes 0) refl (from_note (Ok (TookNote taken)) v s)

  -- ---- the client object is out, and goes back

  module _ (event : Event) where
    abbrev mid : World
    mid = with_given (script_place x.cast c) a (notes.Told event) w

    mid_there : slice_get mid.components (script_place x.cast c) ≡ Some (first_taken a)
    mid_there = set_there w.components (script_place x.cast c) a (first_taken a) e

    pub mid_named : Names x.cast mid c h
    mid_named =
        let cs = set w.components (script_place x.cast c) (first_taken a) in
        is_first_place (is_at h) cs ∙ (place_set (is_at h) w.components (script_place x.cast c) a (first_taken a) e refl ∙ (sym (is_first_place (is_at h) w.components) ∙ N))

    then_named : component_named h mid.components ≡ Some (first_taken a)
    then_named = ap (option_and_then (slice_get mid.components)) mid_named ∙ mid_there

    told_then : (client : Progress) → WasTold h client w → moved_by event client ≡ progress_of (first_taken a) mid
    told_then client k =
        let named : component_named h w.components ≡ Some a = ap (option_and_then (slice_get w.components)) N ∙ e in
        let is : client ≡ progress_of a w = at_there (component_named h w.components) (λ d. client ≡ progress_of d w) a named k in
        ap (moved_by event) is ∙ sym (progress_more (number_of a) w.given (notes.Told event) no_progress)

    pub knows : (client : Progress) → WasTold h client w → WasTold h (moved_by event client) mid
    knows client k = is_there (component_named h mid.components) (λ d. moved_by event client ≡ progress_of d mid) (first_taken a) then_named (told_then client k)

    pub meets : (client : Progress) → WasTold h client w → Meets mid (acts.EndNote h (moved_by event client))
    meets client k = is_there (component_named h mid.components) (λ d. (d.client_out ≡ true) × (moved_by event client ≡ progress_of d mid)) (first_taken a) then_named (refl, told_then client k)

    pub tells : IsPlayWorld x recent p mid → (u : World) → EndNote mid h u → PlayCame x recent p u true (IsTellingOf (x.cast).layout c)
    tells P u s = tells_come x recent p mid c h u (first_taken a) P l mid_named mid_there refl s

-- the log was told that the event was taken, and that the client object came back
pub record HasLines (parts : List PartLine) (place : ℕ) (event : Event) (old new : LogValue) : Type 0 where
  pub name : List ℕ
  pub named : IsNameAt parts place name
  pub first : ActText
  pub says_first : SaysOf name first (λ k. acts.TakeNote k) (acts.Took (Ok (TookNote (TakenEvent event))))
  pub between : LogValue
  pub told_first : IsTold old first between
  pub second : ActText
  pub says_second : (progress : Progress) → SaysOf name second (λ k. acts.EndNote k progress) acts.Ended
  pub told_second : IsTold between second new

-- ---- the calls

same_is : (h k : Handle) → same_handle h k ≡ true → h ≡ k
same_is h k s = let f = same_fields h k s in λ j. record { slot = f.0 j; generation = f.1 j }

in_after : {C : Type 0} (y m g : Entries C) (h : Handle) (told : C) → KeepsClients h y m → KeepsClients h m g → client_of h g ≡ Some told → AreClientsIn y → AreClientsIn g
in_after y m g h told K L C In = λ k e. either (same_handle k h)
    (λ t.
    let n : client_named h g ≡ Some None = subst (λ (q : Handle). client_named q g ≡ Some None) (same_is k h t) e in
    let z : None ≡ Some told = sym (ap (option_and_then (λ client. client)) n) ∙ C in
    absurd cc)
    (λ f. In k (sym (K k f) ∙ (sym (L k f) ∙ e)))

module _ {S K : Type 0} where
  -- nothing was taken
  pub untold_turns : (y x : PlayingValue S K) → y ≡ x → (g : Shown S K Progress) (c place : ℕ) (h : Handle) (r : Result Took OmxError) → c < length x.plan.parts → place ≡ place_in x.plan c → IsHandleAt x.graph place h
      → Steps (kept_of y.graph) (kept_of g) (λ w v. TakeNote w h r v) → ((taken : Taken) → r ≡ Ok (TookNote taken) → ⊥) → g ≡ y.graph → TurnsTo x (with_both y g y.log) false (IsTellingOf (layout_of x.plan) c)
  untold_turns y x is g c place h r b J H steps never same =
      subst (λ (z : PlayingValue S K). c < length z.plan.parts → place ≡ place_in z.plan c → IsHandleAt z.graph place h → TurnsTo z (with_both y g y.log) false (IsTellingOf (layout_of z.plan) c)) is
      (λ b J H. turn_stays y g (IsTellingOf (layout_of y.plan) c) same (λ p Y.
      let X = play_cast_of y.plan in
      let Z = Y.standing in
      let w = Z.world in
      let v = steps w Z.stands in
      let N = component_named_in y c place h J H p Z in
      let a = actor_there X Z.recent p w c (Z.conducted).play b in
      none_taken X Z.recent p w c h (Z.conducted).play b N a.0 a.1 (all_clients_in y Z.clients w Z.stands (script_place X.cast c) h a.0 N a.1) r v.0 v.2 never))
      b J H

  module _ (y : PlayingValue S K) (m : Shown S K Progress) (c place : ℕ) (h : Handle) (taken : Given_) (b : c < length y.plan.parts) (J : place ≡ place_in y.plan c) (H : IsHandleAt y.graph place h)
      (takes_note : Steps (kept_of y.graph) (kept_of m) (λ w v. TakeNote w h (Ok (TookNote (taken_of taken))) v)) (closed : Always (kept_of y.graph) IsClosed) where
    abbrev pub X : PlayCast
    X = play_cast_of y.plan

    abbrev pub actor_in : (p : Play) (Z : IsStanding y p) → Component
    actor_in p Z = (actor_there X Z.recent p Z.world c (Z.conducted).play b).0

    pub client_in : (p : Play) (Z : IsStanding y p) → (actor_in p Z).client_out ≡ false
    client_in p Z = all_clients_in y Z.clients Z.world Z.stands (script_place X.cast c) h (actor_in p Z) (component_named_in y c place h J H p Z) (actor_there X Z.recent p Z.world c (Z.conducted).play b).1

    pub is_taken : (p : Play) (Z : IsStanding y p) → IsTaken X Z.recent p Z.world c h (Z.conducted).play b (component_named_in y c place h J H p Z) (actor_in p Z) (actor_there X Z.recent p Z.world c (Z.conducted).play b).1 (client_in p Z) (taken_of taken) (takes_note Z.world Z.stands).0
    is_taken p Z = let v = takes_note Z.world Z.stands in
        taken_so X Z.recent p Z.world c h (Z.conducted).play b (component_named_in y c place h J H p Z) (actor_in p Z) (actor_there X Z.recent p Z.world c (Z.conducted).play b).1 (client_in p Z)
        (Z.conducted).waiting (closed Z.world Z.stands) (taken_of taken) v.0 v.2

    pub is_event_in : SomePlay (IsPlaying y) → IsEvent taken
    is_event_in (p, Y) = let T = is_taken p Y.standing in subst IsEvent (sym (event_is taken T.event T.is)) tt

    pub tell_turns_in : (g : Shown S K Progress) (log : LogValue) (event : Event) (client told : Progress) → taken ≡ given.Told event → told ≡ moved_by event client → HasLines y.plan.parts place event y.log log → Always (kept_of y.graph) (AreTold client_progress y.graph.core) → client_of h y.graph.core ≡ Some client
        → KeepsClients h y.graph.core m.core → KeepsClients h m.core g.core → client_of h g.core ≡ Some told → TakesOn X c h (Ok (TookNote (taken_of taken))) → EndsOn X c h → StepsWhere (kept_of m) (kept_of g) (WasTold h told) (λ w v. EndNote w h v)
        → TurnsTo y (with_both y g log) true (IsTellingOf (layout_of y.plan) c)
    tell_turns_in g log event client told et t L knew has K1 K2 C takes_on ends_on ends = λ p Y.
        let Z = Y.standing in
        let w = Z.world in
        let W = (Z.conducted).play in
        let N = component_named_in y c place h J H p Z in
        let at = actor_there X Z.recent p w c W b in
        let o = client_in p Z in
        let v = takes_note w Z.stands in
        let T = is_taken p Z in
        let middle : World = with_given (script_place X.cast c) at.0 (notes.Told T.event) w in
        let taken_is : taken_of taken ≡ TakenEvent event = ap taken_of et in
        let event_same : event ≡ T.event = let z : TakenEvent event ≡ TakenEvent T.event = sym taken_is ∙ T.is in cc in
        let is : told ≡ moved_by T.event client = t ∙ ap (λ (n : Event). moved_by n client) event_same in
        let told_before : WasTold h client w = knew w Z.stands h client has in
        let known : WasTold h told middle = subst (λ (q : Progress). WasTold h q middle) (sym is) (knows X Z.recent p w c h W b N at.0 at.1 o T.event client told_before) in
        let met : Meets middle (acts.EndNote h told) = subst (λ (q : Progress). Meets middle (acts.EndNote h q)) (sym is) (meets X Z.recent p w c h W b N at.0 at.1 o T.event client told_before) in
        let stands = subst (Stands (kept_of m)) T.same v.1 in
        let took = subst (λ (q : World). TakeNote w h (Ok (TookNote (taken_of taken))) q) T.same v.2 in
        let u = ends middle stands known in
        let sound = sound_step w middle (acts.TakeNote h) (acts.Took (Ok (TookNote (taken_of taken)))) tt took W.sound in
        let works = still_none w (acts.TakeNote h) (acts.Took (Ok (TookNote (taken_of taken)))) middle W.sound tt took (λ n. refl) Z.works in
        let after = still_none middle (acts.EndNote h told) acts.Ended u.0 sound met u.2 (λ n. refl) works in
        let s = scene_of y.plan.parts Z.opening in
        let P = is_player y p Z place h H L.name L.named in
        let took_event = subst (λ (n : Taken). TakeNote w h (Ok (TookNote n)) middle) taken_is took in
        let R = one_more y.plan.parts Z.opening w middle y.log L.between (AsksIn y p Z) (AsksIn y p Z) Z.recorded L.first (acts.TakeNote h) (acts.Took (Ok (TookNote (TakenEvent event)))) L.told_first (L.says_first s place (L.named).part h P) refl tt took_event tt (λ n. refl) (own_rests y p Y (acts.TakeNote h) (acts.Took (Ok (TookNote (TakenEvent event)))) refl) in
        let Q = one_more y.plan.parts Z.opening middle u.0 L.between log (AsksIn y p Z) (AsksIn y p Z) R L.second (acts.EndNote h told) acts.Ended L.told_second (L.says_second told s place (L.named).part h P) refl met u.2 tt (λ n. refl) (own_rests y p Y (acts.EndNote h told) acts.Ended refl) in
        let on : StreamsOn X p w u.0 = λ k later q A V ph.
        ends_on Z.recent p middle u.0 T.play b (mid_named X Z.recent p w c h W b N at.0 at.1 o T.event) u.2 k later q (takes_on Z.recent p w middle W b N took k Z.recent p A T.play refl) V ph in
        let F : StreamsGo X p Z.opening u.0 = streams_go X p Z.opening w u.0 Z.streams on in
        turn_goes y g log p u.0 true (IsTellingOf (layout_of y.plan) c) Y u.1 after (in_after y.graph.core m.core g.core h told K1 K2 C Z.clients) (λ f. absurd cc) (λ f. absurd cc) (λ e. Q) (λ e. F) (λ e. told_same Z.opening middle u.0 (told_same Z.opening w middle Z.told refl) (step_stays middle sound (acts.EndNote h told) acts.Ended u.0 tt tt u.2).streams)
        (tells X Z.recent p w c h W b N at.0 at.1 o T.event T.play u.0 u.2)

  -- ---- of what is known where the calls were made

  pub event_for : (y x : PlayingValue S K) → y ≡ x → (m : Shown S K Progress) (c place : ℕ) (h : Handle) (taken : Given_) → c < length x.plan.parts → place ≡ place_in x.plan c → IsHandleAt x.graph place h → SomePlay (IsPlaying x)
      → Steps (kept_of y.graph) (kept_of m) (λ w v. TakeNote w h (Ok (TookNote (taken_of taken))) v) → Always (kept_of y.graph) IsClosed → IsEvent taken
  event_for y x is m c place h taken b e H s takes_note closed =
      subst (λ (z : PlayingValue S K). c < length z.plan.parts → place ≡ place_in z.plan c → IsHandleAt z.graph place h → SomePlay (IsPlaying z) → IsEvent taken) is
      (λ b e H s. is_event_in y m c place h taken b e H takes_note closed s) b e H s

  pub tell_turns : (y x : PlayingValue S K) → y ≡ x → (m g : Shown S K Progress) (log : LogValue) (c place : ℕ) (h : Handle) (taken : Given_) (event : Event) (client told : Progress) → c < length x.plan.parts → place ≡ place_in x.plan c → IsHandleAt x.graph place h
      → Steps (kept_of y.graph) (kept_of m) (λ w v. TakeNote w h (Ok (TookNote (taken_of taken))) v) → Always (kept_of y.graph) IsClosed → taken ≡ given.Told event → told ≡ moved_by event client → HasLines y.plan.parts place event y.log log
      → Always (kept_of y.graph) (AreTold client_progress y.graph.core)
      → client_of h y.graph.core ≡ Some client → KeepsClients h y.graph.core m.core → KeepsClients h m.core g.core → client_of h g.core ≡ Some told → TakesOn (play_cast_of y.plan) c h (Ok (TookNote (taken_of taken))) → EndsOn (play_cast_of y.plan) c h → StepsWhere (kept_of m) (kept_of g) (WasTold h told) (λ w v. EndNote w h v)
      → TurnsTo x (with_both y g log) true (IsTellingOf (layout_of x.plan) c)
  tell_turns y x is m g log c place h taken event client told b e H takes_note closed et t L knew has K1 K2 C takes_on ends_on ends =
      subst (λ (z : PlayingValue S K). c < length z.plan.parts → place ≡ place_in z.plan c → IsHandleAt z.graph place h → TurnsTo z (with_both y g log) true (IsTellingOf (layout_of z.plan) c)) is
      (λ b e H. tell_turns_in y m c place h taken b e H takes_note closed g log event client told et t L knew has K1 K2 C takes_on ends_on ends) b e H
