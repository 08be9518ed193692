-- The world with its client objects in: a note that is taken is one that was told at once; that a client object comes back is nothing.
use Rattle.std.proofs.Common.{◌≡◌, inl, inr, ℕ, zero, suc, Bool, true, false, List, [], ◌∷◌, map, set, drop, slice_get, position, Some, None, is_some, Ok, Option, ◌||◌, refl, sym, ◌∙◌, ap, subst, arith}
use Rattle.omx_types.specs.declared.command.Command.{Command}
use Rattle.omx_types.specs.declared.command.Command.TheVariants as commands
use Rattle.omx_types.specs.declared.command.Event.{Event}
use Rattle.omx_types.specs.declared.command.Note.{Note}
use Rattle.omx_types.specs.declared.command.Note.TheVariants as notes
use Rattle.omx_types.specs.declared.fault.PartFault.{PartFault}
use Rattle.omx_types.specs.declared.handle.Handle.{Handle}
use Rattle.il_machine.specs.Acts.{Act, Reply}
use Rattle.il_machine.specs.Acts as acts
use Rattle.il_machine.specs.Claims.{CarriedHeader}
use Rattle.il_machine.specs.Commands.{send_refusal}
use Rattle.il_machine.specs.Due.{ClosesTo, IsClosed, has_due}
use Rattle.il_machine.specs.Finishing.{Finish, all_landed, finished, notes_of_headers, part_by}
use Rattle.il_machine.specs.Headers.{seen}
use Rattle.il_machine.specs.Look.{look}
use Rattle.il_machine.specs.Notes.{EndNote, TakeFrom, TakeNote, TakenEvent, TookNote, back_in, first_taken, with_given}
use Rattle.il_machine.specs.Places.{first_place}
use Rattle.il_machine.specs.Run.{Meets, Step}
use Rattle.il_machine.specs.Stepping.{IsDoneBy, WorkDone}
use Rattle.il_machine.specs.World.{Component, HeaderRecord, PartState, Stream, Work, World, is_at, is_numbered, place_numbered, place_of, with_component}
use Rattle.il_machine.proofs.Places.{is_first_place}
use Rattle.machine_laws.proofs.Closing.{closed_closes}
use Rattle.machine_laws.proofs.Every.{set_there}
use Rattle.machine_laws.proofs.Keys.{there_is}
use Rattle.machine_laws.proofs.Pairs.{set_same}
use Rattle.machine_laws.proofs.Values.{set_twice}
use Rattle.read_world_laws.specs.Beside.{IsBeside}
use Rattle.read_world_laws.specs.Inside.{inside, taken_in}
use Rattle.read_world_laws.proofs.Calls as calls
use Rattle.read_world_laws.proofs.Closing as closing
use Rattle.read_world_laws.proofs.Landing as landing
use Rattle.read_world_laws.proofs.Reading.{IsFair, Reading}
use Rattle.read_world_laws.proofs.Steps.{IsExact, step_as}

abbrev objects_in : Reading
objects_in = record { out = λ out. false; notes = λ notes. notes; given = λ given. given; ended = λ part. part.ended; failed = λ part. part.failed }

abbrev as_it_is : List Stream → List Stream
as_it_is ss = ss

either_ended : (p : PartState) → p.ended ≡ false → p.failed ≡ false → (p.ended || p.failed) ≡ false
either_ended p e f = λ i. e i || f i

fair_in : IsFair objects_in
fair_in = record {
  none = refl;
  append = λ xs ys. refl;
  keeps = λ note f. refl;
  fewer = λ ns. omega arith;
  restarts = λ c. refl;
  free = either_ended;
}

pub refusal_in : (w : World) (c : Component) (command : Command) → send_refusal (look (inside w)) (taken_in c) command ≡ send_refusal (look w) c command
refusal_in w c (commands.StateSet target) = refl
refusal_in w c (commands.Flush sel) = refl
refusal_in w c (commands.PortDisable sel) = refl
refusal_in w c (commands.PortEnable sel) = refl
refusal_in w c (commands.MarkBuffer port target value) = let n = calls.place_in objects_in fair_in as_it_is target w.components in rw n refl

exact_in : IsExact objects_in fair_in as_it_is
exact_in = record { refusal = refusal_in; idle = λ w c. refl }

-- ---- as they are called above

pub get_in : (cs : List Component) (i : ℕ) (a : Component) → slice_get cs i ≡ Some a → slice_get (map taken_in cs) i ≡ Some (taken_in a)
get_in = closing.get_in objects_in fair_in as_it_is

pub set_in : (cs : List Component) (i : ℕ) (a : Component) → set (map taken_in cs) i (taken_in a) ≡ map taken_in (set cs i a)
set_in = closing.set_in objects_in fair_in as_it_is

pub with_in : (i : ℕ) (a : Component) (w : World) → with_component i (taken_in a) (inside w) ≡ inside (with_component i a w)
with_in = closing.with_in objects_in fair_in as_it_is

pub place_in : (h : Handle) (cs : List Component) → place_of h (map taken_in cs) ≡ place_of h cs
place_in = calls.place_in objects_in fair_in as_it_is

pub numbered_in : (n : ℕ) (cs : List Component) → place_numbered n (map taken_in cs) ≡ place_numbered n cs
numbered_in n cs = closing.position_in objects_in fair_in as_it_is (is_numbered n) (λ c. refl) cs

pub notes_in : (c : Component) (s : Stream) (done : WorkDone) (xs : List CarriedHeader) → notes_of_headers (taken_in c) s done xs ≡ notes_of_headers c s done xs
notes_in = landing.notes_in objects_in fair_in as_it_is

pub all_landed_in : (c : Component) (s : Stream) (done : WorkDone) (xs : List CarriedHeader) (hs : List HeaderRecord) → all_landed (taken_in c) s done xs hs ≡ all_landed c s done xs hs
all_landed_in = landing.all_landed_in objects_in fair_in as_it_is

pub done_in : (b : Bool) (w : World) (c : Component) (work : Work) (done : WorkDone) → IsDoneBy b w c work done → IsDoneBy b (inside w) (taken_in c) work done
done_in b w c work done D = landing.done_in objects_in fair_in as_it_is b w c work done refl D

pub closed_in : (w : World) → IsClosed w → IsClosed (inside w)
closed_in = closing.closed_in objects_in fair_in as_it_is

pub closes_in : (w v : World) → ClosesTo w v → ClosesTo (inside w) (inside v)
closes_in = closing.closes_in objects_in fair_in as_it_is

-- ---- steps

pub step_in : (w : World) (a : Act) (r : Reply) (v : World) → IsBeside a → Step w a r v → Step (inside w) a r (inside v)
step_in = step_as objects_in fair_in as_it_is exact_in

part_in : (c : Component) (s : Stream) (done : WorkDone) (fault : Option PartFault) → part_by (taken_in c) s done fault ≡ part_by c s done fault
part_in c s done None = refl
part_in c s done (Some fault) = refl

pub finishes_in : (w : World) (done : WorkDone) (v : World) → Finish w done v → Finish (inside w) done (inside v)
finishes_in w done v F =
    let i = there_is (place_numbered done.component w.components) _ F in
    let c = there_is (slice_get w.components i.0) (λ c. ClosesTo (finished i.0 c done w) v) i.2 in
    elim (landing.finishes_in objects_in fair_in as_it_is as_it_is w done v i.0 c.0 i.1 c.1 (record { alike = refl; flows = refl; part = λ s. part_in c.0 s done done.fault; fault = refl }) c.2) [
      | inl t ↦ t.0
      | inr t ↦ t.0
    ]

pub meets_in : (w : World) (done : WorkDone) → Meets w (acts.Finish done) → Meets (inside w) (acts.Finish done)
meets_in w done M = landing.meets_in objects_in fair_in as_it_is w done refl M

-- ---- lists

first_set : (p : Component → Bool) (cs : List Component) (i : ℕ) (a d : Component) → slice_get cs i ≡ Some a → p d ≡ p a → first_place p (set cs i d) ≡ first_place p cs
first_set p [] i a d e s = absurd cc
first_set p (c ∷ cs) zero a d e s = let is : c ≡ a = cc in let q : p d ≡ p c = s ∙ ap p (sym is) in rw q refl
first_set p (c ∷ cs) (suc i) a d e s = let r = first_set p cs i a d e s in rw r refl

position_set : (p : Component → Bool) (cs : List Component) (i : ℕ) (a d : Component) → slice_get cs i ≡ Some a → p d ≡ p a → position p (set cs i d) ≡ position p cs
position_set p cs i a d e s = is_first_place p (set cs i d) ∙ (first_set p cs i a d e s ∙ sym (is_first_place p cs))

-- ---- a component with other notes: nothing is due of it that wasn't

abbrev with_notes : List Note → Bool → Component → Component
with_notes ns out c = record c { notes = ns; client_out = out }

module _ (w v : World) (i : ℕ) (a : Component) (ns : List Note) (out : Bool) (e : slice_get w.components i ≡ Some a) (c : v.components ≡ set w.components i (with_notes ns out a)) (h : v.headers ≡ w.headers) where
  closed_beside : IsClosed w → IsClosed v
  closed_beside Z =
      let d : Component = with_notes ns out a in
      let due = ap is_some (closing.due_beside objects_in fair_in as_it_is (seen w.headers) a ns a.part out) in
      let first : position (has_due (seen w.headers)) (set w.components i d) ≡ position (has_due (seen w.headers)) w.components = position_set (has_due (seen w.headers)) w.components i a d e due in
      (λ j. position (has_due (seen (h j))) (c j)) ∙ (first ∙ Z)

closes_itself : (w : World) → IsClosed w → ClosesTo w w
closes_itself w Z = record { steps = 0; by_steps = refl; closed = Z }

-- ---- an event is taken

module _ (w : World) (i : ℕ) (c : Component) (event : Event) (e : slice_get w.components i ≡ Some c) (h : Handle) (n : place_of h w.components ≡ Some i) (o : c.client_out ≡ false) (f : slice_get c.notes 0 ≡ Some (notes.Told event)) (Z : IsClosed w) where
  abbrev note : Note
  note = notes.Told event

  abbrev pub after : World
  after = with_given i c note w

  abbrev pub between : World
  between = with_given i (taken_in c) note (inside w)

  pub after_closed : IsClosed after
  after_closed = closed_beside w after i c (drop 1 c.notes) true e refl refl Z

  between_closed : IsClosed between
  between_closed = closed_beside (inside w) between i (taken_in c) (drop 1 c.notes) true (get_in w.components i c e) refl refl (closed_in w Z)

  named_in : place_of h (inside w).components ≡ Some i
  named_in = place_in h w.components ∙ n

  pub takes_so : TakeNote (inside w) h (Ok (TookNote (TakenEvent event))) between
  takes_so =
      let t : TakeFrom (inside w) i (taken_in c) false (Some note) (Ok (TookNote (TakenEvent event))) between = (refl, closes_itself between between_closed) in
      let u : TakeFrom (inside w) i (taken_in c) false (slice_get c.notes 0) (Ok (TookNote (TakenEvent event))) between = rw f t in
      rw (named_in, get_in w.components i c e) u

  same : with_component i (back_in (first_taken (taken_in c))) between ≡ inside after
  same = λ j. record between { components = (set_twice i (map taken_in w.components) (first_taken (taken_in c)) (taken_in (first_taken c)) ∙ set_in w.components i (first_taken c)) j }

  pub named_between : place_of h between.components ≡ Some i
  named_between = position_set (is_at h) (map taken_in w.components) i (taken_in c) (first_taken (taken_in c)) (get_in w.components i c e) refl ∙ named_in

  pub there_between : slice_get between.components i ≡ Some (first_taken (taken_in c))
  there_between = set_there (map taken_in w.components) i (taken_in c) (first_taken (taken_in c)) (get_in w.components i c e)

  pub ends_so : EndNote between h (inside after)
  ends_so =
      let C : ClosesTo (with_component i (back_in (first_taken (taken_in c))) between) (inside after) = subst (λ (u : World). ClosesTo u (inside after)) (sym same) (closes_itself (inside after) (closed_in after after_closed)) in
      rw (named_between, there_between) C

-- ---- a client object comes back

pub back_in_same : (w : World) (h : Handle) (v : World) → IsClosed w → EndNote w h v → (inside v ≡ inside w) × IsClosed v
back_in_same w h v Z s =
    let i = there_is (place_of h w.components) _ s in
    let c = there_is (slice_get w.components i.0) (λ c. ClosesTo (with_component i.0 (back_in c) w) v) i.2 in
    let u : World = with_component i.0 (back_in c.0) w in
    let U : IsClosed u = closed_beside w u i.0 c.0 (c.0).notes false c.1 refl refl Z in
    let is : v ≡ u = closed_closes u v U c.2 in
    let same : inside u ≡ inside w = λ j. record (inside w) { components = (sym (set_in w.components i.0 (back_in c.0)) ∙ set_same (map taken_in w.components) i.0 (taken_in c.0) (get_in w.components i.0 c.0 c.1)) j } in
    (ap inside is ∙ same, subst IsClosed (sym is) U)
