-- The acts on parts: none of them tells a completion, and a claim and a finish move several headers.
use Rattle.std.proofs.Common.{◌≡◌, inl, ℕ, Bool, true, false, List, [], ◌∷◌, ◌++◌, map, slice_get, Option, Some, None, is_some, Result, Ok, MatchOption, not, ◌||◌, nat_lt, refl, sym, ◌∙◌, ap, subst, eqb-true}
use Rattle.std.specs.Prelude.{Contains, filter}
use Rattle.omx_types.specs.declared.handle.Handle.{Handle}
use Rattle.omx_types.specs.declared.error.OmxError.{OmxError}
use Rattle.omx_types.specs.declared.command.Completion.{Completion}
use Rattle.omx_types.specs.declared.command.Event.TheVariants as events
use Rattle.omx_types.specs.declared.command.Note.{Note}
use Rattle.omx_types.specs.declared.command.Note.TheVariants.{Told}
use Rattle.omx_types.specs.declared.fault.PartFault.{PartFault}
use Rattle.il_machine.specs.declared.port.Mark.{Mark}
use Rattle.il_machine.specs.declared.port.Port.{Port}
use Rattle.il_machine.specs.Lists.{first_of_these}
use Rattle.il_machine.specs.Settings.{same_format}
use Rattle.il_machine.specs.World.{Component, Picked, Stream, Work, World, component_numbered, is_numbered, number_of, place_numbered, ports_of, port_of, stream_of, with_component}
use Rattle.il_machine.specs.Headers.{seen}
use Rattle.il_machine.specs.Look.{Look, look}
use Rattle.il_machine.specs.Ports.{is_input_port}
use Rattle.il_machine.specs.Room.{room}
use Rattle.il_machine.specs.Due.{ClosesTo}
use Rattle.il_machine.specs.Answers.{plain}
use Rattle.il_machine.specs.Census.{note_numbers, work_numbers}
use Rattle.il_machine.specs.Flow.{done_note}
use Rattle.il_machine.specs.Parts.{file_format}
use Rattle.il_machine.specs.States.{is_invalid}
use Rattle.il_machine.specs.Lists.{any_of}
use Rattle.il_machine.specs.Parameters.{is_settable}
use Rattle.il_machine.specs.Files.{Offered, Attach, is_for_kind, is_bad_file, file_port_format, attach_refusal, attached, stream_with, with_file}
use Rattle.il_machine.specs.Claims.{CarriedHeader, Claimed, ClaimedWork, ClaimedBusy, ClaimedNotRunning, ClaimedEnded, ClaimedHeld, ClaimedNoData, ClaimedNoRoom, ClaimedEvents, Claim, Claims, claim_idle, held_test, data_test, room_test, wanted, is_output_port, is_claimable, reserve_for, carried, seen_work, terms_in, work_of, with_work}
use Rattle.il_machine.specs.Stepping.{WorkDone, IsDoneOf, IsDoneBy, IsAnnounced, IsStep}
use Rattle.il_machine.specs.Finishing.{Landing, Again, Onward, Noted, landing, tells_mark, is_an_input, mark_note, landing_note, notes_of_header, notes_of_headers, end_note, tells_end, fault_note, notes_after, gone_through, announced, announced_at, stepped_back, with_landed, finished_by, finished, Finish}
use Rattle.il_machine.specs.Queued.{completions_in}
use Rattle.il_machine.specs.Acts as acts
use Rattle.il_machine.specs.Run.{Meets}
use Rattle.il_machine.specs.Effect.{effect}
use Rattle.il_machine.specs.Trails.{finished_move, finished_moves}
use Rattle.il_machine.specs.Sound.{Sound, IsPickedFor}
use Rattle.il_machine.proofs.Places.{is_first_place, passes_at}
use Rattle.machine_laws.proofs.Every.{at_place}
use Rattle.machine_laws.proofs.Finding.{either}
use Rattle.machine_laws.proofs.Keys.{there_is}
use Rattle.machine_laws.proofs.Accepting.{passed, not_not}
use Rattle.machine_laws.proofs.Lookups.{port_at_is}
use Rattle.machine_laws.proofs.Parts.{parts_of, ports_in_list}
use Rattle.machine_laws.proofs.Listed.{todo_in}
use Rattle.machine_laws.proofs.Claiming.{claim_passes, headers_in, picked_made, with_its}
use Rattle.machine_laws.proofs.Shifting.{Shifted, shifted_none}
use Rattle.machine_laws.proofs.Landing.{AreOf, AreMade, carried_of, done_of, made_of, numbers_of}
use Rattle.history_laws.proofs.Growth.{Grows, grows_not, grows_on, completions_append, none_in}
use Rattle.history_laws.proofs.Quiet.{Nothing as Silent}
use Rattle.history_laws.proofs.Births.{silent_set}
use Rattle.history_laws.proofs.Carried.{Still, Several}
use Rattle.history_laws.proofs.Out.{WorksStay, works_set, works_without, works_back, works_told}
use Rattle.history_laws.proofs.Shifts.{claim_passed_on, finish_passed_on}
use Rattle.history_laws.proofs.ComponentActs.{unmoving, named_is, unsettable}
use Rattle.history_laws.proofs.Outcome.{Turn, turn, no_turn, Outcome, done as comes, nothing_by, answers, resolving}

-- ---- attach

-- one that gets a file is settable, so that its work isn't out
filed_works : (w : World) (i : ℕ) (c : Component) (file : Offered) → Sound w → slice_get w.components i ≡ Some c → attach_refusal c file ≡ None → WorksStay None w (with_file i c file w)
filed_works w i c file S t n =
    let a = passed (is_invalid c.state) _ _ n in
    let b = passed (any_of (not (is_for_kind c.settings.kind file) ∷ is_some c.file ∷ is_bad_file c.settings.kind (file_port_format c) file ∷ [])) _ _ a.1 in
    let d = passed (not (is_settable c)) _ _ b.1 in
    let settable : is_settable c ≡ true = not_not (is_settable c) d.0 in
    let z : is_some c.work ≡ false = either (is_some c.work) (λ o. let f = unsettable w i c S t o in absurd cc) (λ f. f) in
    works_without i w (with_file i c file w) c (record c { file = Some (attached file) }) (stream_with file) S.rising (λ s. refl) t refl refl refl z

pub attach : (w : World) (h : Handle) (file : Offered) (result : Result (Unit {0}) OmxError) (v : World) → Sound w → Attach w h file result v → Outcome w (unmoving (effect w (acts.Attach h file) (acts.Plain result))) v
attach w h file result v S a = let ms : Result (Unit {0}) OmxError → Turn = λ r. unmoving (effect w (acts.Attach h file) (acts.Plain r)) in resolving plain w h result v _ a ms (λ e. refl) (λ i c named b.
    answers (attach_refusal c file) result w v ms (λ x. ClosesTo (with_file i c file w) v) (λ e. refl) b (λ n x e C.
    let mid = with_file i c file w in
    let d : Component = record c { file = Some (attached file) } in
    comes w v _ mid (named_is w h i c (λ i c. with_file i c file w) named.place named.there) C (record {
      silent = silent_set i w mid c d named.there refl refl refl (grows_not Silent c d refl refl) (inl refl);
      carried = Still (record { headers = refl; made = refl; moves = refl });
      works = filed_works w i c file S named.there n;
    })))

-- ---- claim

-- an answer without a work
abbrev pub IsIdle : Claimed → Type 0
IsIdle (ClaimedWork work) = ⊥
IsIdle _ = Unit {0}

abbrev AreIdle : List (Bool × Claimed) → Type 0
AreIdle [] = Unit {0}
AreIdle (x ∷ xs) = IsIdle x.1 × AreIdle xs

idle_both : (xs ys : List (Bool × Claimed)) → AreIdle xs → AreIdle ys → AreIdle (xs ++ ys)
idle_both [] ys A B = B
idle_both (x ∷ xs) ys A B = (A.0, idle_both xs ys A.1 B)

idle_each : (f : Port → Bool × Claimed) → ((p : Port) → IsIdle (f p).1) → (ps : List Port) → AreIdle (map f ps)
idle_each f h [] = tt
idle_each f h (p ∷ ps) = (h p, idle_each f h ps)

first_idle : (xs : List (Bool × Claimed)) (idle : Claimed) → AreIdle xs → first_of_these xs ≡ Some idle → IsIdle idle
first_idle [] idle A e = absurd cc
first_idle (x ∷ xs) idle A e = either x.0
    (λ t. let s : Some x.1 ≡ Some idle = rw t at e in let q : x.1 ≡ idle = cc in subst IsIdle q A.0)
    (λ f. first_idle xs idle A.1 (rw f at e))

pub claim_is_idle : (l : Look) (c : Component) (idle : Claimed) → claim_idle l c ≡ Some idle → IsIdle idle
claim_is_idle l c idle e =
    let held : List (Bool × Claimed) = map (held_test c) (ports_of c) in
    let filled : List (Bool × Claimed) = map (data_test l.headers) (filter is_input_port (wanted c)) in
    let space : List (Bool × Claimed) = map (room_test l.headers) (filter is_output_port (wanted c)) in
    let last : List (Bool × Claimed) = (nat_lt (room c) (reserve_for (wanted c)), ClaimedEvents (room c) (reserve_for (wanted c))) ∷ [] in
    let both : AreIdle (held ++ filled) = idle_both held filled (idle_each (held_test c) (λ p. tt) (ports_of c)) (idle_each (data_test l.headers) (λ p. tt) (filter is_input_port (wanted c))) in
    let three : AreIdle (held ++ filled ++ space) = idle_both (held ++ filled) space both (idle_each (room_test l.headers) (λ p. tt) (filter is_output_port (wanted c))) in
    let four : AreIdle (held ++ filled ++ space ++ last) = idle_both (held ++ filled ++ space) last three (tt, tt) in
    let all : AreIdle ((is_some c.work, ClaimedBusy) ∷ (not (is_claimable c), ClaimedNotRunning) ∷ (c.part.ended || c.part.failed, ClaimedEnded) ∷ (held ++ filled ++ space ++ last)) = (tt, (tt, (tt, four))) in
    first_idle ((is_some c.work, ClaimedBusy) ∷ (not (is_claimable c), ClaimedNotRunning) ∷ (c.part.ended || c.part.failed, ClaimedEnded) ∷ (held ++ filled ++ space ++ last)) idle all e

idle_turn : (w : World) (h : Handle) (idle : Claimed) → IsIdle idle → turn w (acts.Claim h) (acts.Claimed (Ok idle)) ≡ no_turn w
idle_turn w h (ClaimedWork work) I = absurd I
idle_turn w h ClaimedBusy I = refl
idle_turn w h ClaimedNotRunning I = refl
idle_turn w h ClaimedEnded I = refl
idle_turn w h (ClaimedHeld port) I = refl
idle_turn w h (ClaimedNoData port) I = refl
idle_turn w h (ClaimedNoRoom port) I = refl
idle_turn w h (ClaimedEvents room need) I = refl

claims : (w : World) (h : Handle) (i : ℕ) (c : Component) (o : Option Claimed) (result : Result Claimed OmxError) (v : World) → Sound w → slice_get w.components i ≡ Some c
    → effect w (acts.Claim h) (acts.Claimed (Ok (ClaimedWork (seen_work c (work_of (seen w.headers) c) w.headers)))) ≡ with_work i c (work_of (seen w.headers) c) w
    → claim_idle (look w) c ≡ o → Claims o i c w result v → Outcome w (turn w (acts.Claim h) (acts.Claimed result)) v
claims w h i c (Some idle) result v S t is e a = nothing_by w v (λ r. turn w (acts.Claim h) (acts.Claimed r)) result (Ok idle) a.0 (idle_turn w h idle (claim_is_idle (look w) c idle e)) a.1
claims w h i c None result v S t is e a =
    let P = parts_of w S in
    let k : ℕ = number_of c in
    let C = claim_passes (look w) c e in
    let work : Work = work_of (seen w.headers) c in
    let mid = with_work i c work w in
    let I = headers_in w.headers c (λ key. todo_in key w.headers P.once) in
    let A : Shifted (ports_in_list w.components) k w.headers (note_numbers c.notes) [] w.headers = rw C.free at (shifted_none w.components w.headers w.numbered w.made i c P t) in
    let M = picked_made w.headers w.headers (ports_in_list w.components) k 0 (note_numbers c.notes) [] work.headers A I in
    let E = carried_of w.headers k work.headers (λ j p f. at_place (IsPickedFor (seen w.headers) k) work.headers j p M f) in
    subst (λ (r : Result Claimed OmxError). Outcome w (turn w (acts.Claim h) (acts.Claimed r)) v) (sym a.0) (comes w v _ mid is a.1 (record {
      silent = silent_set i w mid c (with_its work c) t refl refl refl (grows_not Silent c (with_its work c) refl refl) (inl refl);
      carried = Several (record { headers = claim_passed_on k 0 w.headers work.headers (carried w.headers work.headers) P.once I E; made = refl });
      works = works_set None i w mid c (with_its work c) t refl refl refl (λ o. let z : is_some c.work ≡ false = ap (λ (y : Option Work). is_some y) C.free in absurd cc);
    }))

pub claim : (w : World) (h : Handle) (result : Result Claimed OmxError) (v : World) → Sound w → Claim w h result v → Outcome w (turn w (acts.Claim h) (acts.Claimed result)) v
claim w h result v S a = resolving plain w h result v _ a (λ r. turn w (acts.Claim h) (acts.Claimed r)) (λ e. refl) (λ i c named b.
    claims w h i c (claim_idle (look w) c) result v S named.there (named_is w h i c (λ i c. with_work i c (work_of (seen w.headers) c) w) named.place named.there) refl b)

-- ---- finish

-- no completion is among the notes
none_marked : (o : Option Mark) → completions_in (mark_note o) ≡ []
none_marked None = refl
none_marked (Some mark) = refl

none_done : (b : Bool) (n : ℕ) → completions_in (done_note b n ∷ []) ≡ []
none_done true n = refl
none_done false n = refl

none_landed : (l : Landing) (c : Component) (x : CarriedHeader) → completions_in (landing_note l c x) ≡ []
none_landed Again c x = refl
none_landed Onward c x = refl
none_landed Noted c x = none_done (is_an_input c x) x.header.number

both_none : (xs ys : List Note) → completions_in xs ≡ [] → completions_in ys ≡ [] → completions_in (xs ++ ys) ≡ []
both_none xs ys a b = completions_append xs ys ∙ (rw (a, b) refl)

none_of_header : (c : Component) (s : Stream) (done : WorkDone) (x : CarriedHeader) → completions_in (notes_of_header c s done x) ≡ []
none_of_header c s done x =
    let l = none_landed (landing c s done x) c x in
    either (tells_mark c s done x)
    (λ t. rw t (both_none (mark_note x.header.mark) (landing_note (landing c s done x) c x) (none_marked x.header.mark) l))
    (λ f. rw f l)

none_of_headers : (c : Component) (s : Stream) (done : WorkDone) (xs : List CarriedHeader) → completions_in (notes_of_headers c s done xs) ≡ []
none_of_headers c s done [] = refl
none_of_headers c s done (x ∷ xs) = both_none (notes_of_header c s done x) (notes_of_headers c s done xs) (none_of_header c s done x) (none_of_headers c s done xs)

none_of_end : (b : Bool) → completions_in (end_note b) ≡ []
none_of_end true = refl
none_of_end false = refl

none_of_fault : (o : Option PartFault) → completions_in (fault_note o) ≡ []
none_of_fault None = refl
none_of_fault (Some fault) = refl

none_after : (c : Component) (s : Stream) (done : WorkDone) → completions_in (notes_after c s done) ≡ []
none_after c s done = both_none (notes_of_headers c s done done.headers ++ end_note (tells_end c done)) (fault_note done.fault)
    (both_none (notes_of_headers c s done done.headers) (end_note (tells_end c done)) (none_of_headers c s done done.headers) (none_of_end (tells_end c done)))
    (none_of_fault done.fault)

back_grows : (c : Component) (s : Stream) (done : WorkDone) → Grows Silent c (stepped_back c s done)
back_grows c s done = record { number = refl; added = notes_after c s done; notes = refl; tells = λ x h. none_in x (subst (λ (l : List Completion). Contains l x) (none_after c s done) h) }

-- what an announcement that comes back leaves of its component
record IsToldSo (c d : Component) : Type 0 where
  grows : Grows Silent c d
  state : d.state ≡ c.state

announced_so : (c : Component) (o : Option Port) → IsToldSo (record c { work = None }) (announced_at o (record c { work = None }))
announced_so c None = record { grows = grows_not Silent (record c { work = None }) (record c { work = None }) refl refl; state = refl }
announced_so c (Some p) = either (same_format p.setting.definition.format (file_format c.file))
    (λ t. rw t (record { grows = grows_not Silent (record c { work = None }) (record c { work = None }) refl refl; state = refl }))
    (λ f. rw f (record { grows = record { number = refl; added = Told (events.PortSettingsChanged p.key.port) ∷ []; notes = refl; tells = λ x h. none_in x h }; state = refl }))

announced_grows : (c : Component) → IsToldSo c (announced c)
announced_grows c =
    let A = announced_so c (port_of c 0) in
    record { grows = grows_on Silent c (record c { work = None }) (announced c) (grows_not Silent c (record c { work = None }) refl refl) A.grows; state = A.state }

-- the component whose work comes back
pub record IsBackOf (w : World) (done : WorkDone) (i : ℕ) (c : Component) (work : Work) : Type 0 where
  pub place : place_numbered done.component w.components ≡ Some i
  pub there : slice_get w.components i ≡ Some c
  pub out : c.work ≡ Some work
  pub number : number_of c ≡ done.component
  pub meets : IsDoneOf w c work done

numbered_is : (k : ℕ) (w : World) (i : ℕ) (c : Component) → place_numbered k w.components ≡ Some i → slice_get w.components i ≡ Some c → number_of c ≡ k
numbered_is k w i c p t =
    let x = passes_at (is_numbered k) w.components i (sym (is_first_place (is_numbered k) w.components) ∙ p) in
    let s : Some x.0 ≡ Some c = sym x.1 ∙ t in
    let is : x.0 ≡ c = cc in
    let h : is_numbered k c ≡ true = rw (← is) x.2 in
    eqb-true _ _ h

pub back_of : (w : World) (done : WorkDone) (v : World) → Meets w (acts.Finish done) → Finish w done v → (i : ℕ) × (c : Component) × (work : Work) × IsBackOf w done i c work × ClosesTo (finished i c done w) v
back_of w done v M F =
    let i = there_is (place_numbered done.component w.components) _ F in
    let c = there_is (slice_get w.components i.0) (λ c. ClosesTo (finished i.0 c done w) v) i.2 in
    let m : MatchOption (c.0).work ⊥ (λ work. IsDoneOf w c.0 work done) = rw (i.1, c.1) at M in
    let x = there_is (c.0).work (λ work. IsDoneOf w c.0 work done) m in
    (i.0, c.0, x.0, record { place = i.1; there = c.1; out = x.1; number = numbered_is done.component w i.0 c.0 i.1 c.1; meets = x.2 }, c.2)

pub numbered_there : (w : World) (done : WorkDone) (i : ℕ) (c : Component) (work : Work) → IsBackOf w done i c work → component_numbered done.component w ≡ Some c
numbered_there w done i c work B = let p = B.place in rw p B.there

effect_is : (w : World) (done : WorkDone) (i : ℕ) (c : Component) (work : Work) → IsBackOf w done i c work → effect w (acts.Finish done) acts.Finished ≡ finished_by i c done (Some work) w
effect_is w done i c work B =
    let p = B.place in
    let t = B.there in
    let a : effect w (acts.Finish done) acts.Finished ≡ finished i c done w = rw (p, t) refl in
    a ∙ ap (λ (o : Option Work). finished_by i c done o w) B.out

no_moves : (o : Option Component) (s : Option Stream) (done : WorkDone) → done.headers ≡ [] → finished_moves o s done ≡ []
no_moves None s done e = refl
no_moves (Some c) None done e = refl
no_moves (Some c) (Some s) done e = rw e refl

pub stepped_is : (w : World) (done : WorkDone) (i : ℕ) (c : Component) (work : Work) (s : Stream) → work.announces ≡ false → stream_of (number_of c) w ≡ Some s → finished_by i c done (Some work) w ≡ with_landed i c done s w
stepped_is w done i c work s n f = rw (n, f) refl

pub announces_is : (w : World) (done : WorkDone) (i : ℕ) (c : Component) (work : Work) → work.announces ≡ true → finished_by i c done (Some work) w ≡ with_component i (announced c) w
announces_is w done i c work a = rw a refl

announces_back : (w : World) (done : WorkDone) (v : World) (i : ℕ) (c : Component) (work : Work) → IsBackOf w done i c work → work.announces ≡ true → ClosesTo (finished i c done w) v → Outcome w (turn w (acts.Finish done) acts.Finished) v
announces_back w done v i c work B a C =
    let D : IsAnnounced done = rw a at B.meets in
    let mid = with_component i (announced c) w in
    let after : finished_by i c done (Some work) w ≡ mid = announces_is w done i c work a in
    let e : finished i c done w ≡ mid = ap (λ (o : Option Work). finished_by i c done o w) B.out ∙ after in
    let A = announced_grows c in
    comes w v _ mid (effect_is w done i c work B ∙ after) (subst (λ (x : World). ClosesTo x v) e C) (record {
      silent = silent_set i w mid c (announced c) B.there refl refl refl A.grows (inl A.state);
      carried = Still (record { headers = refl; made = refl; moves = no_moves (component_numbered done.component w) (stream_of done.component w) done D.2 });
      works = subst (λ (k : ℕ). WorksStay (Some k) w mid) B.number (works_told i w mid c (announced c) B.there refl (A.grows).number refl);
    })

-- the stream and the headers of a work that did a step
pub record IsLandingOf (w : World) (done : WorkDone) (c : Component) (work : Work) : Type 0 where
  pub stream : Stream
  pub found : stream_of done.component w ≡ Some stream
  pub step : IsStep (terms_in c work) stream (carried w.headers work.headers) done
  pub headers : AreOf work.headers done.headers
  pub made : AreMade (number_of c) w.headers done.headers
  pub shifted : Shifted (ports_in_list w.components) (number_of c) w.headers (note_numbers c.notes) (map (λ x. x.header.number) done.headers) w.headers

pub landing_of : (w : World) (done : WorkDone) (i : ℕ) (c : Component) (work : Work) → Sound w → IsBackOf w done i c work → work.announces ≡ false → IsLandingOf w done c work
landing_of w done i c work S B n =
    let P = parts_of w S in
    let D : IsDoneBy false w c work done = rw n at B.meets in
    let s = there_is (stream_of done.component w) _ D in
    let picked : (j : ℕ) (p : Picked) → slice_get work.headers j ≡ Some p → IsPickedFor (seen w.headers) (number_of c) p =
    λ j p f. at_place (IsPickedFor (seen w.headers) (number_of c)) work.headers j p ((P.works).made i c work B.there B.out) f in
    let A = done_of w c work done B.meets n picked in
    let o = B.out in
    let m : work_numbers c.work ≡ map (λ x. x.header.number) done.headers = rw o (numbers_of work.headers done.headers A) in
    record {
      stream = s.0;
      found = s.1;
      step = s.2;
      headers = A;
      made = made_of w.headers (number_of c) work.headers done.headers A picked;
      shifted = rw m at (shifted_none w.components w.headers w.numbered w.made i c P B.there);
    }

lands_back : (w : World) (done : WorkDone) (v : World) (i : ℕ) (c : Component) (work : Work) → Sound w → IsBackOf w done i c work → work.announces ≡ false → ClosesTo (finished i c done w) v → Outcome w (turn w (acts.Finish done) acts.Finished) v
lands_back w done v i c work S B n C =
    let P = parts_of w S in
    let L = landing_of w done i c work S B n in
    let s : Stream = L.stream in
    let mid = with_landed i c done s w in
    let f : stream_of (number_of c) w ≡ Some s = ap (λ (k : ℕ). stream_of k w) B.number ∙ L.found in
    let after : finished_by i c done (Some work) w ≡ mid = stepped_is w done i c work s n f in
    let e : finished i c done w ≡ mid = ap (λ (o : Option Work). finished_by i c done o w) B.out ∙ after in
    let ms : finished_moves (component_numbered done.component w) (stream_of done.component w) done ≡ map (finished_move c s done) done.headers = rw (numbered_there w done i c work B, L.found) refl in
    let A = finish_passed_on (ports_in_list w.components) c
    (λ port p g. sym (port_at_is w.numbered i (record { component = number_of c; port = port }) w.components c P.rising B.there refl) ∙ g) w.headers w.headers (note_numbers c.notes) s done done.headers L.shifted L.made in
    comes w v _ mid (effect_is w done i c work B ∙ after) (subst (λ (x : World). ClosesTo x v) e C) (record {
      silent = silent_set i w mid c (stepped_back c s done) B.there refl refl refl (back_grows c s done) (inl refl);
      carried = rw ms (Several (record { headers = A; made = refl }));
      works = subst (λ (k : ℕ). WorksStay (Some k) w mid) B.number (works_back i w mid c (stepped_back c s done) (gone_through done) (λ x. refl) B.there refl refl refl);
    })

pub finish : (w : World) (done : WorkDone) (v : World) → Sound w → Meets w (acts.Finish done) → Finish w done v → Outcome w (turn w (acts.Finish done) acts.Finished) v
finish w done v S M F =
    let x = back_of w done v M F in
    either (x.2).announces
    (λ a. announces_back w done v x.0 x.1 x.2 x.3 a x.4)
    (λ n. lands_back w done v x.0 x.1 x.2 S x.3 n x.4)
