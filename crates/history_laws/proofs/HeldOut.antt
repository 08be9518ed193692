-- From its claim on a work is out as its holder sees it, until it comes back.
use Rattle.std.proofs.Common.{◌≡◌, ◌≢◌, inl, inr, ℕ, zero, suc, ◌+◌, ◌≤◌, Bool, true, false, not, ◌&&◌, ◌||◌, nat_eq, List, [], ◌∷◌, map, find, take, drop, length, slice_get, Option, Some, None, is_some, option_map, Ok, refl, sym, ◌∙◌, ap, subst, eq-eqb, All, arith}
use Rattle.std.proofs.lemmas.Bool.{cases_eq}
use Rattle.std.proofs.lemmas.List.Elements.{All-nil, All-cons, All-head, All-tail}
use Rattle.omx_types.specs.declared.handle.Handle.{Handle}
use Rattle.il_machine.specs.declared.header.Owner.TheVariants as owners
use Rattle.il_machine.specs.declared.port.PortSetting.{PortSetting}
use Rattle.il_machine.specs.declared.port.PortState.{PortState}
use Rattle.il_machine.specs.Kinds.{is_auto, inputs_of}
use Rattle.il_machine.specs.Lists.{first_of_these}
use Rattle.il_machine.specs.Settings.{formats_of}
use Rattle.il_machine.specs.World.{Component, HeaderRecord, Picked, Stream, Work, World, component_numbered, number_of, is_numbered, ports_from, stream_of, is_stream_of}
use Rattle.il_machine.specs.Headers.{seen, find_header, is_work_of, weight, Once}
use Rattle.il_machine.specs.Look.{look}
use Rattle.il_machine.specs.Answers.{plain}
use Rattle.il_machine.specs.Parts.{factors_by}
use Rattle.il_machine.specs.Due.{HappenTimes, ClosesTo, Happens}
use Rattle.il_machine.specs.Buffers.{held}
use Rattle.il_machine.specs.Claims.{CarriedHeader, WorkSeen, Claimed, ClaimedWork, Claims, claim_idle, held_test, must_announce, carried, carried_by, seen_work, terms_in, work_of, with_work}
use Rattle.il_machine.specs.Stepping.{WorkDone, IsStep, IsAnnounced, IsDoneOf, IsDoneBy}
use Rattle.il_machine.specs.Acts.{Act, Reply}
use Rattle.il_machine.specs.Acts as acts
use Rattle.il_machine.specs.Run.{Step, Meets, Run}
use Rattle.il_machine.specs.Trails.{Stop, Unmade, With, Move, moves, moved, is_of, trail, finished_move, finished_moves}
use Rattle.il_machine.specs.Sound.{Sound}
use Rattle.il_machine.proofs.Carrying.{held_out, carried_same}
use Rattle.machine_laws.proofs.Every.{set_there}
use Rattle.machine_laws.proofs.Finding.{either, found_number, push_else, without_else}
use Rattle.machine_laws.proofs.Keys.{is_there}
use Rattle.machine_laws.proofs.Lookups.{rising_set}
use Rattle.machine_laws.proofs.Accepting.{passed, not_either}
use Rattle.machine_laws.proofs.Parts.{parts_of}
use Rattle.machine_laws.proofs.Works.{picked_worked}
use Rattle.machine_laws.proofs.Headers.{work_is}
use Rattle.machine_laws.proofs.Listed.{weighs_one}
use Rattle.machine_laws.proofs.Claiming.{claim_passes, with_its, sound_claimed}
use Rattle.machine_laws.proofs.Steps.{sound_step}
use Rattle.history_laws.specs.Works.{IsHeldOut, HeaderStays, returns_work}
use Rattle.history_laws.proofs.Named.{named, is_named, named_number, named_there}
use Rattle.history_laws.proofs.Owners.{IsAway, away_stays}
use Rattle.history_laws.proofs.Trails.{trail_own}
use Rattle.history_laws.proofs.Closing.{happening_of, times_settle}
use Rattle.history_laws.proofs.Carried.{Carried, Still, Made, Gone, Moved, Several, AreBelow, none_made}
use Rattle.history_laws.proofs.Out.{IsKeptOut, WorksStay, still_on, works_same, works_on, works_set}
use Rattle.history_laws.proofs.Outcome.{Turn, turn, brought_back, Outcome, Nothing, Done}
use Rattle.history_laws.proofs.WorkSteps.{IsIdle, claim_is_idle}
use Rattle.history_laws.proofs.Filling.{single, none_moved, from_no_work}
use Rattle.history_laws.proofs.ClientHeaders.{carried_once}
use Rattle.history_laws.proofs.GivenHeaders.{resolved}
use Rattle.history_laws.proofs.Steps.{step_comes}

-- ---- the close-out

happens_works : (w v : World) → Happens w v → WorksStay None w v
happens_works w v h = let H = happening_of w v h in works_set None h.place w v h.component H.component h.there H.components H.streams (H.grows).number (λ o. H.still)

times_works : (n : ℕ) (w v : World) → HappenTimes n w v → WorksStay None w v
times_works zero w v e = works_same None w v (ap (λ (x : World). x.components) e) (ap (λ (x : World). x.streams) e)
times_works (suc n) w v (mid, before, last) = works_on None w mid v (times_works n w mid before) (happens_works mid v last)

pub times_outs : (n : ℕ) (w v : World) → HappenTimes n w v → Once w.headers → (m : ℕ) → IsAway m w.headers → find_header m v.headers ≡ find_header m w.headers
times_outs zero w v e o m a = ap (λ (x : World). find_header m x.headers) e
times_outs (suc n) w v (mid, before, last) o m a =
    let e = times_outs n w mid before o m a in
    (happening_of mid v last).outs (times_settle n w mid before o).once m (away_stays m w.headers mid.headers e a) ∙ e

-- ---- the act

-- no act but a finish of this component moves a header from its work
not_landed : (j : ℕ) (c : Component) (s : Stream) (done : WorkDone) (xs : List CarriedHeader) (number k : ℕ) (end : Stop) → number_of c ≡ j → j ≢ k → trail number (map (finished_move c s done) xs) ≡ moved number (With (owners.Work k)) end → ⊥
not_landed j c s done [] number k end n a e = none_moved (record { header = number; from = With (owners.Work k); to = end }) e
not_landed j c s done (x ∷ xs) number k end n a e =
    let m : Move = finished_move c s done x in
    let y : Move = record { header = number; from = With (owners.Work k); to = end } in
    either (is_of number m)
    (λ t.
    let f : (m ∷ trail number (map (finished_move c s done) xs)) ≡ (y ∷ []) = rw t at e in
    let g : With (owners.Work (number_of c)) ≡ With (owners.Work k) = ap (λ (z : Move). z.from) (single m y (trail number (map (finished_move c s done) xs)) f) in
    let q : number_of c ≡ k = cc in
    a (sym n ∙ q))
    (λ g. not_landed j c s done xs number k end n a (rw g at e))

not_finished : (j : ℕ) (o : Option Component) (s : Option Stream) (done : WorkDone) (number k : ℕ) (end : Stop) → ((c : Component) → o ≡ Some c → number_of c ≡ j) → j ≢ k → trail number (finished_moves o s done) ≡ moved number (With (owners.Work k)) end → ⊥
not_finished j None s done number k end n a e = none_moved (record { header = number; from = With (owners.Work k); to = end }) e
not_finished j (Some c) None done number k end n a e = none_moved (record { header = number; from = With (owners.Work k); to = end }) e
not_finished j (Some c) (Some s) done number k end n a e = not_landed j c s done done.headers number k end (n c refl) a e

from_other_work : (w : World) (a : Act) (r : Reply) (number k : ℕ) (to : Stop) → brought_back a r ≢ Some k → trail number (moves w a r) ≡ moved number (With (owners.Work k)) to → ⊥
from_other_work w (acts.Finish done) acts.Finished number k to b e =
    not_finished done.component (component_numbered done.component w) (stream_of done.component w) done number k to
    (λ c f. named_number done.component w.components c (sym (is_named done.component w) ∙ f)) (λ q. b (ap (λ (x : ℕ). Some x) q)) e
from_other_work w a r number k to b e = from_no_work w a r number k to tt e

-- a header in a work that doesn't come back
carried_outs : (w v : World) (ms : List Move) (m k : ℕ) (r : HeaderRecord) → AreBelow w → Carried w ms v → find_header m w.headers ≡ Some r → r.state.owner ≡ owners.Work k → ((to : Stop) → trail m ms ≢ moved m (With (owners.Work k)) to)
    → find_header m v.headers ≡ find_header m w.headers
carried_outs w v ms m k r B (Still S) f o n = ap (find_header m) S.headers
carried_outs w v ms m k r B (Made M) f o n =
    let apart : (M.state).number ≢ m = λ e.
    let none : find_header m w.headers ≡ None = sym (ap (λ (x : ℕ). find_header x w.headers) (sym M.number ∙ e)) ∙ none_made w B in
    absurd cc in
    ap (find_header m) M.headers ∙ push_else m w.headers _ apart
carried_outs w v ms m k r B (Gone M) f o n = elim (cases_eq m M.number) [
  | inl is ↦
      let s : Some M.was ≡ Some r = sym M.found ∙ (ap (λ (x : ℕ). find_header x w.headers) (sym is) ∙ f) in
      let q : M.was ≡ r = cc in
      let own : (M.was).state.owner ≡ owners.Work k = ap (λ (x : HeaderRecord). x.state.owner) q ∙ o in
      let e : ms ≡ moved m (With (owners.Work k)) Unmade = M.moves ∙ (λ i. moved (sym is i) (With (own i)) Unmade) in
      absurd (n Unmade (ap (trail m) e ∙ trail_own (record { header = m; from = With (owners.Work k); to = Unmade })))
  | inr a ↦ ap (find_header m) M.headers ∙ without_else M.number m w.headers a
]
carried_outs w v ms m k r B (Moved M) f o n = elim (cases_eq m M.number) [
  | inl is ↦
      let s : Some M.was ≡ Some r = sym (M.replaced).was ∙ (ap (λ (x : ℕ). find_header x w.headers) (sym is) ∙ f) in
      let q : M.was ≡ r = cc in
      let own : (M.was).state.owner ≡ owners.Work k = ap (λ (x : HeaderRecord). x.state.owner) q ∙ o in
      let e : ms ≡ moved m (With (owners.Work k)) (With (M.now).state.owner) = M.moves ∙ (λ i. moved (sym is i) (With (own i)) (With (M.now).state.owner)) in
      absurd (n (With (M.now).state.owner) (ap (trail m) e ∙ trail_own (record { header = m; from = With (owners.Work k); to = With (M.now).state.owner })))
  | inr a ↦ (M.replaced).others m a
]
carried_outs w v ms m k r B (Several M) f o n = elim ((M.headers).each m) [
  | inl L ↦ L.0
  | inr P ↦
      let s : Some P.was ≡ Some r = sym P.found ∙ f in
      let q : P.was ≡ r = cc in
      let own : (P.was).state.owner ≡ owners.Work k = ap (λ (x : HeaderRecord). x.state.owner) q ∙ o in
      absurd (n (With (P.now).state.owner) (P.moves ∙ (λ i. moved m (With (own i)) (With (P.now).state.owner))))
]

-- ---- what the holder sees

factors_same : (c d : Component) (work : Work) → d.settings.kind ≡ c.settings.kind → d.file ≡ c.file → formats_of d.settings.ports ≡ formats_of c.settings.ports → terms_in d work ≡ terms_in c work
factors_same c d work k f s = λ i. record {
  kind = k i;
  inputs = take (inputs_of (k i)) (s i);
  outputs = drop (inputs_of (k i)) (s i);
  factors = factors_by (k i) work.gain work.weights;
  file = f i;
}

-- the headers of a work of a sound world
picked_away : (w : World) (i : ℕ) (c : Component) (work : Work) → Sound w → slice_get w.components i ≡ Some c → c.work ≡ Some work → (j : ℕ) (p : Picked) → slice_get work.headers j ≡ Some p
    → (r : HeaderRecord) × (find_header p.number w.headers ≡ Some r) × (r.state.owner ≡ owners.Work (number_of c))
picked_away w i c work S t e j p f =
    let a = picked_worked w.components w.headers (parts_of w S).works i c work t e j p f in
    let r = weighs_one (find_header p.number w.headers) (λ s. is_work_of (number_of c) s.owner) (one_at a) in
    (r.0, r.1, work_is (number_of c) (r.0).state.owner r.2)
  where
    one_at : {b : Bool} → b ≡ true → 1 ≤ weight b
    one_at {b} h = rw h (omega arith)

pub placed_in : (k : ℕ) (cs : List Component) (c : Component) → named k cs ≡ Some c → (i : ℕ) × (slice_get cs i ≡ Some c)
placed_in k [] c e = absurd cc
placed_in k (x ∷ cs) c e = either (is_numbered k x)
    (λ t. let s : Some x ≡ Some c = rw t at e in let q : x ≡ c = cc in (0, ap (λ (y : Component). Some y) q))
    (λ f. let r = placed_in k cs c (rw f at e) in (suc r.0, r.1))

-- The work stays out as it is seen, where the component's record, its stream and the work's headers do.
held_kept : (w v : World) (x : WorkSeen) (s : Stream) (H : IsHeldOut w x s) → IsKeptOut x.component H.component w v
    → ((j : ℕ) (p : Picked) → slice_get (H.work).headers j ≡ Some p → find_header p.number v.headers ≡ find_header p.number w.headers) → IsHeldOut v x s
held_kept w v x s H K F = record {
  component = K.component;
  work = H.work;
  there = is_named x.component v ∙ K.there;
  out = (K.still).work ∙ H.out;
  announces = H.announces;
  kind = (K.still).kind ∙ H.kind;
  file = (K.still).file ∙ H.file;
  failed = (K.still).failed ∙ H.failed;
  headers = carried_same w.headers v.headers (H.work).headers (λ j p e. ap (option_map held) (F j p e)) ∙ H.headers;
  terms = λ a.
      let t = H.terms a in
      let k = (K.still).known t.1 in
      (factors_same H.component K.component H.work (K.still).kind (K.still).file k.0 ∙ t.0, k.1);
  stream = K.stream ∙ H.stream;
}

named_out : (w : World) (x : WorkSeen) (s : Stream) (H : IsHeldOut w x s) → (named x.component w.components ≡ Some H.component) × (is_some (H.component).work ≡ true)
named_out w x s H = (sym (is_named x.component w) ∙ H.there, ap (λ (o : Option Work). is_some o) H.out)

headers_away : (w : World) (x : WorkSeen) (s : Stream) (H : IsHeldOut w x s) → Sound w → (j : ℕ) (p : Picked) → slice_get (H.work).headers j ≡ Some p → (r : HeaderRecord) × (find_header p.number w.headers ≡ Some r) × (r.state.owner ≡ owners.Work x.component)
headers_away w x s H S j p e =
    let N = named_out w x s H in
    let i = placed_in x.component w.components H.component N.0 in
    let n : number_of H.component ≡ x.component = named_number x.component w.components H.component N.0 in
    let r = picked_away w i.0 H.component H.work S i.1 H.out j p e in
    (r.0, r.1, r.2 ∙ ap (λ (y : ℕ). owners.Work y) n)

pub held_closes : (w v : World) (x : WorkSeen) (s : Stream) → Sound w → ClosesTo w v → IsHeldOut w x s → IsHeldOut v x s
held_closes w v x s S C H =
    let N = named_out w x s H in
    held_kept w v x s H (times_works C.steps w v C.by_steps x.component H.component N.0 N.1 (λ e. absurd cc))
    (λ j p e. let r = headers_away w x s H S j p e in times_outs C.steps w v C.by_steps S.once p.number (r.0, x.component, r.1, r.2))

-- no header of the work changes
outcome_outs : (w : World) (a : Act) (r : Reply) (v : World) (x : WorkSeen) (s : Stream) → Sound w → brought_back a r ≢ Some x.component → Outcome w (turn w a r) v → (H : IsHeldOut w x s)
    → (j : ℕ) (p : Picked) → slice_get (H.work).headers j ≡ Some p → find_header p.number v.headers ≡ find_header p.number w.headers
outcome_outs w a r v x s S b (Nothing e m) H j p g = ap (λ (y : World). find_header p.number y.headers) e
outcome_outs w a r v x s S b (Done C E) H j p g =
    let t : Turn = turn w a r in
    let once = carried_once w t.after t.moves S.once (parts_of w S).below E.carried in
    let h = headers_away w x s H S j p g in
    let f = carried_outs w t.after t.moves p.number x.component h.0 (parts_of w S).below E.carried h.1 h.2 (λ to z. from_other_work w a r p.number x.component to b z) in
    times_outs C.steps t.after v C.by_steps once p.number (away_stays p.number w.headers t.after.headers f (h.0, x.component, h.1, h.2)) ∙ f

outcome_held : (w : World) (a : Act) (r : Reply) (v : World) (x : WorkSeen) (s : Stream) → Sound w → brought_back a r ≢ Some x.component → Outcome w (turn w a r) v → IsHeldOut w x s → IsHeldOut v x s
outcome_held w a r v x s S b (Nothing e m) H = subst (λ (y : World). IsHeldOut y x s) (sym e) H
outcome_held w a r v x s S b (Done C E) H =
    let F = outcome_outs w a r v x s S b (Done C E) H in
    let t : Turn = turn w a r in
    let N = named_out w x s H in
    let K = E.works x.component H.component N.0 N.1 b in
    let q : is_some (K.component).work ≡ true = ap (λ (o : Option Work). is_some o) (K.still).work ∙ N.1 in
    let L = times_works C.steps t.after v C.by_steps x.component K.component K.there q (λ e. absurd cc) in
    held_kept w v x s H (record { component = L.component; there = L.there; still = still_on H.component K.component L.component K.still L.still; stream = L.stream ∙ K.stream }) F

brought_not : (k : ℕ) (a : Act) (r : Reply) → returns_work k a r ≡ false → brought_back a r ≢ Some k
brought_not k (acts.Finish done) acts.Finished e b = let q : done.component ≡ k = cc in let z : nat_eq done.component k ≡ true = eq-eqb done.component k q in absurd cc
brought_not k _ _ e b = absurd cc

pub steps_held : (w : World) (a : Act) (r : Reply) (v : World) (x : WorkSeen) (s : Stream) → Sound w → Meets w a → Step w a r v → returns_work x.component a r ≡ false → IsHeldOut w x s → IsHeldOut v x s
steps_held w a r v x s S M h n H = outcome_held w a r v x s S (brought_not x.component a r n) (step_comes w a r v S M h) H

carried_unchanged : (hs ks : List HeaderRecord) (ps : List Picked) → ((j : ℕ) (p : Picked) → slice_get ps j ≡ Some p → find_header p.number ks ≡ find_header p.number hs) → All (HeaderStays hs ks) (carried hs ps)
carried_unchanged hs ks [] h = All-nil (HeaderStays hs ks)
carried_unchanged hs ks (p ∷ ps) h = at_record (find_header p.number hs) refl (carried_unchanged hs ks ps (λ j q f. h (suc j) q f))
  where
    at_record : (o : Option HeaderRecord) → find_header p.number hs ≡ o → All (HeaderStays hs ks) (carried hs ps) → All (HeaderStays hs ks) (carried_by p.port o (carried hs ps))
    at_record None e A = A
    at_record (Some r) e A =
        let n : r.state.number ≡ p.number = found_number p.number hs r e in
        All-cons (HeaderStays hs ks) (record { port = p.port; header = held r }) (carried hs ps) (subst (λ (k : ℕ). find_header k ks ≡ find_header k hs) (sym n) (h 0 p refl)) A

pub steps_unchanged : (w : World) (a : Act) (r : Reply) (v : World) (x : WorkSeen) (s : Stream) → Sound w → Meets w a → Step w a r v → returns_work x.component a r ≡ false → IsHeldOut w x s → All (HeaderStays w.headers v.headers) x.headers
steps_unchanged w a r v x s S M h n H =
    subst (All (HeaderStays w.headers v.headers)) H.headers (carried_unchanged w.headers v.headers (H.work).headers (outcome_outs w a r v x s S (brought_not x.component a r n) (step_comes w a r v S M h) H))

pub runs_held : (w v : World) (xs : List (Act × Reply)) (x : WorkSeen) (s : Stream) → Sound w → Run w xs v → All (λ y. returns_work x.component y.0 y.1 ≡ false) xs → IsHeldOut w x s → IsHeldOut v x s
runs_held w v [] x s S e A H = subst (λ (y : World). IsHeldOut y x s) (sym e) H
runs_held w v (y ∷ ys) x s S (mid, M, h, more) A H =
    runs_held mid v ys x s (sound_step w mid y.0 y.1 M h S) more (All-tail (λ z. returns_work x.component z.0 z.1 ≡ false) y ys A)
    (steps_held w y.0 y.1 mid x s S M h (All-head (λ z. returns_work x.component z.0 z.1 ≡ false) y ys A) H)

-- ---- from the claim on

stream_there : (cs : List Component) (ss : List Stream) (i : ℕ) (c : Component) → map (λ s. s.component) ss ≡ map number_of cs → slice_get cs i ≡ Some c → (s : Stream) × (find (is_stream_of (number_of c)) ss ≡ Some s)
stream_there [] ss i c e t = absurd cc
stream_there (x ∷ cs) [] i c e t = absurd cc
stream_there (x ∷ cs) (s ∷ ss) zero c e t =
    let q : x ≡ c = cc in
    let a : s.component ≡ number_of x = cc in
    let b : is_stream_of (number_of c) s ≡ true = eq-eqb s.component (number_of c) (a ∙ ap number_of q) in
    (s, rw b refl)
stream_there (x ∷ cs) (s ∷ ss) (suc i) c e t =
    let a : map (λ (y : Stream). y.component) ss ≡ map number_of cs = cc in
    let r = stream_there cs ss i c a t in
    either (is_stream_of (number_of c) s) (λ h. (s, rw h refl)) (λ h. (r.0, rw h r.1))

-- no port is held or of a format that isn't known, where none answers so
known_from : (c : Component) (k index : ℕ) (ss : List PortSetting) (ps : List PortState) → must_announce c ≡ false → length ss ≡ length ps → first_of_these (map (held_test c) (ports_from k index ss ps)) ≡ None
    → All (λ p. p.held ≡ false) ps × All (λ f. is_auto f ≡ false) (formats_of ss)
known_from c k index [] [] m l h = (All-nil _, All-nil _)
known_from c k index [] (p ∷ ps) m l h = absurd (omega arith)
known_from c k index (s ∷ ss) [] m l h = absurd (omega arith)
known_from c k index (s ∷ ss) (p ∷ ps) m l h =
    let a = passed (not (must_announce c) && (p.held || is_auto s.definition.format)) _ _ h in
    let b : (p.held || is_auto s.definition.format) ≡ false = rw m at a.0 in
    let d = not_either p.held (is_auto s.definition.format) b in
    let i = known_from c k (index + 1) ss ps m (omega arith) a.1 in
    (All-cons (λ x. x.held ≡ false) p ps d.0 i.0, All-cons (λ f. is_auto f ≡ false) s.definition.format (formats_of ss) d.1 i.1)

claimed_out : (w : World) (i : ℕ) (c : Component) → Sound w → slice_get w.components i ≡ Some c → claim_idle (look w) c ≡ None
    → (s : Stream) × (stream_of (number_of c) w ≡ Some s) × IsHeldOut (with_work i c (work_of (seen w.headers) c) w) (seen_work c (work_of (seen w.headers) c) w.headers) s
claimed_out w i c S t e =
    let C = claim_passes (look w) c e in
    let work : Work = work_of (seen w.headers) c in
    let d : Component = with_its work c in
    let mid = with_work i c work w in
    let s = stream_there w.components w.streams i c S.streams t in
    let I = (parts_of w S).components i c t in
    let R = rising_set 0 w.numbered i w.components c d S.rising t refl in
    let there : named (number_of d) mid.components ≡ Some d = named_there 0 w.numbered i mid.components d R (set_there w.components i c d t) in (
      s.0,
      s.1,
      record {
        component = d;
        work = work;
        there = is_named (number_of c) mid ∙ there;
        out = refl;
        announces = refl;
        kind = refl;
        file = refl;
        failed = (not_either c.part.ended c.part.failed C.goes).1;
        headers = carried_same w.headers mid.headers work.headers (λ j p f. held_out p.number (number_of c) work.headers w.headers);
        terms = λ a. let K = known_from c (number_of c) 0 c.settings.ports c.ports a ((I.whole).ports ∙ sym I.ports) C.held in (refl, record { held = K.0; formats = K.1 });
        stream = s.1;
      },
    )

works_claimed : (w : World) (i : ℕ) (c : Component) (o : Option Claimed) (x : WorkSeen) (v : World) → Sound w → slice_get w.components i ≡ Some c → claim_idle (look w) c ≡ o → Claims o i c w (Ok (ClaimedWork x)) v
    → (s : Stream) × (stream_of x.component w ≡ Some s) × IsHeldOut v x s
works_claimed w i c (Some idle) x v S t e a =
    let b : ClaimedWork x ≡ idle = cc in
    absurd (subst IsIdle (sym b) (claim_is_idle (look w) c idle e))
works_claimed w i c None x v S t e a =
    let work : Work = work_of (seen w.headers) c in
    let y : WorkSeen = seen_work c work w.headers in
    let b : ClaimedWork x ≡ ClaimedWork y = cc in
    let q : x ≡ y = cc in
    let r = claimed_out w i c S t e in
    let z : (s : Stream) × (stream_of y.component w ≡ Some s) × IsHeldOut v y s = (r.0, r.1, held_closes (with_work i c work w) v y r.0 (sound_claimed w i c S t e) a.1 r.2) in
    subst (λ (u : WorkSeen). (s : Stream) × (stream_of u.component w ≡ Some s) × IsHeldOut v u s) (sym q) z

pub claims_held : (w : World) (h : Handle) (x : WorkSeen) (v : World) → Sound w → Step w (acts.Claim h) (acts.Claimed (Ok (ClaimedWork x))) v → (s : Stream) × (stream_of x.component w ≡ Some s) × IsHeldOut v x s
claims_held w h x v S a =
    let y = resolved plain w v h (ClaimedWork x) _ a in
    works_claimed w y.0 y.1 (claim_idle (look w) y.1) x v S (y.2).there refl y.3

-- ---- to its finish

pub held_meets : (w : World) (x : WorkSeen) (s : Stream) (done : WorkDone) → IsHeldOut w x s → done.component ≡ x.component → x.announces ≡ false → IsStep x.terms s x.headers done → Meets w (acts.Finish done)
held_meets w x s done H e n T =
    let there : component_numbered done.component w ≡ Some H.component = ap (λ (k : ℕ). component_numbered k w) e ∙ H.there in
    let st : stream_of done.component w ≡ Some s = ap (λ (k : ℕ). stream_of k w) e ∙ H.stream in
    let o = H.out in
    let a : (H.work).announces ≡ false = H.announces ∙ n in
    let t = (H.terms n).0 in
    let u : IsStep (terms_in H.component H.work) s (carried w.headers (H.work).headers) done = rw (t, H.headers) T in
    let D : IsDoneBy false w H.component H.work done = rw st u in
    let D' : IsDoneOf w H.component H.work done = subst (λ (b : Bool). IsDoneBy b w H.component H.work done) (sym a) D in
    is_there (component_numbered done.component w) _ H.component there (is_there (H.component).work (λ work. IsDoneOf w H.component work done) H.work o D')

pub held_tells : (w : World) (x : WorkSeen) (s : Stream) (done : WorkDone) → IsHeldOut w x s → done.component ≡ x.component → x.announces ≡ true → IsAnnounced done → Meets w (acts.Finish done)
held_tells w x s done H e n T =
    let there : component_numbered done.component w ≡ Some H.component = ap (λ (k : ℕ). component_numbered k w) e ∙ H.there in
    let o = H.out in
    let a : (H.work).announces ≡ true = H.announces ∙ n in
    let D' : IsDoneOf w H.component H.work done = subst (λ (b : Bool). IsDoneBy b w H.component H.work done) (sym a) T in
    is_there (component_numbered done.component w) _ H.component there (is_there (H.component).work (λ work. IsDoneOf w H.component work done) H.work o D')
