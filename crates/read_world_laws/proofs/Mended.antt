-- The world without its faults: a note that tells one is nothing, and a work that comes back with one leaves the component without the work.
use Rattle.std.proofs.Common.{◌≡◌, ◌⊎◌, ℕ, ◌+◌, ◌≤◌, Bool, true, false, not, ◌&&◌, ◌||◌, nat_lt, if◌then◌else◌, List, [], ◌∷◌, ◌++◌, append-nil, map, set, drop, slice_get, Option, Some, None, Result, refl, sym, ◌∙◌, ap, subst, arith}
use Rattle.std.proofs.lemmas.List.Sums.{sum_by-cons}
use Rattle.omx_types.specs.declared.command.Command.{Command}
use Rattle.omx_types.specs.declared.command.Event.TheVariants.{Error}
use Rattle.omx_types.specs.declared.command.Note.{Note}
use Rattle.omx_types.specs.declared.command.Note.TheVariants.{Told}
use Rattle.omx_types.specs.declared.error.OmxError.{OmxError}
use Rattle.omx_types.specs.declared.fault.PartFault.{PartFault}
use Rattle.omx_types.specs.declared.fault.PartFault.TheVariants.{Read, Short, Write}
use Rattle.omx_types.specs.declared.handle.Handle.{Handle}
use Rattle.omx_types.specs.declared.handle.PortId.{PortId}
use Rattle.omx_types.specs.declared.param.Param.{Param}
use Rattle.omx_types.specs.declared.param.ParamKey.{ParamKey}
use Rattle.omx_types.specs.declared.param.Supplier.{Supplier}
use Rattle.il_machine.specs.Acts.{Act, Reply}
use Rattle.il_machine.specs.Acts as acts
use Rattle.il_machine.specs.Claims.{CarriedHeader}
use Rattle.il_machine.specs.Commands.{is_at_once, send_refusal}
use Rattle.il_machine.specs.Due.{ClosesTo, IsClosed, restarted}
use Rattle.il_machine.specs.Finishing.{Finish, all_landed, ends_by, error_of, fault_note, finished, notes_of_headers, part_by}
use Rattle.il_machine.specs.Kinds.{is_source}
use Rattle.il_machine.specs.Look.{look}
use Rattle.il_machine.specs.Notes.{EndNote, TakeFrom, TakeNote, Took, first_taken, with_given}
use Rattle.il_machine.specs.Parameters.{SetParameter}
use Rattle.il_machine.specs.Parts.{terms_of}
use Rattle.il_machine.specs.Room.{cost_of, events_in, is_event, room}
use Rattle.il_machine.specs.Run.{Meets, Step}
use Rattle.il_machine.specs.Stepping.{IsDoneBy, WorkDone, inputs_ended}
use Rattle.il_machine.specs.Tunnels.{DropTunnel, SetupTunnel}
use Rattle.il_machine.specs.World.{Component, Given, HeaderRecord, PartState, Stream, Work, World, is_numbered, number_of, place_numbered, place_of, stream_of, with_component}
use Rattle.machine_laws.proofs.Finding.{either}
use Rattle.read_world_laws.specs.Beside.{IsBeside, IsDeclined}
use Rattle.read_world_laws.specs.Mended.{given_without, gone_on, is_fault, mend, mended, mended_part, without_faults}
use Rattle.read_world_laws.proofs.Calls as calls
use Rattle.read_world_laws.proofs.Closing as closing
use Rattle.read_world_laws.proofs.Landing as landing
use Rattle.read_world_laws.proofs.Landing.{GoesSo}
use Rattle.read_world_laws.proofs.Noting as noting
use Rattle.read_world_laws.proofs.Passing as passing
use Rattle.read_world_laws.proofs.Reading.{IsFair, Reading}
use Rattle.read_world_laws.proofs.Steps.{step_or}

-- ---- notes

without_append : (xs ys : List Note) → without_faults (xs ++ ys) ≡ without_faults xs ++ without_faults ys
without_append [] ys = refl
without_append (n ∷ xs) ys =
    let r = without_append xs ys in
    either (is_fault n) (λ t. rw t r) (λ t. rw t (ap (λ (l : List Note). n ∷ l) r))

given_append : (xs ys : List Given) → given_without (xs ++ ys) ≡ given_without xs ++ given_without ys
given_append [] ys = refl
given_append (g ∷ xs) ys =
    let r = given_append xs ys in
    either (is_fault g.note) (λ t. rw t r) (λ t. rw t (ap (λ (l : List Given). g ∷ l) r))

events_cons : (n : Note) (notes : List Note) → events_in (n ∷ notes) ≡ (if is_event n then 1 else 0) + events_in notes
events_cons n notes = sum_by-cons (λ (y : Note). if is_event y then 1 else 0) n notes

events_fewer : (notes : List Note) → events_in (without_faults notes) ≤ events_in notes
events_fewer [] = omega arith
events_fewer (n ∷ notes) =
    let r = events_fewer notes in
    let a = events_cons n notes in
    let b = events_cons n (without_faults notes) in
    either (is_fault n)
    (λ t. subst (λ (l : List Note). events_in l ≤ events_in (n ∷ notes)) (sym (ap (λ (q : Bool). if q then without_faults notes else n ∷ without_faults notes) t)) (omega arith))
    (λ t. subst (λ (l : List Note). events_in l ≤ events_in (n ∷ notes)) (sym (ap (λ (q : Bool). if q then without_faults notes else n ∷ without_faults notes) t)) (omega arith))

one_kept : (note : Note) → is_fault note ≡ false → without_faults (note ∷ []) ≡ note ∷ []
one_kept note f = ap (λ (q : Bool). if q then [] else note ∷ []) f

one_gone : (note : Note) → is_fault note ≡ true → without_faults (note ∷ []) ≡ []
one_gone note f = ap (λ (q : Bool). if q then [] else note ∷ []) f

-- ---- how it is read

abbrev faults_out : Reading
faults_out = record { out = λ out. out; notes = without_faults; given = given_without; ended = λ part. part.ended && not part.failed; failed = λ part. false }

restarts : (e f k : Bool) → ((e && not f) && (k || false)) ≡ ((e && (k || f)) && not f)
restarts true true true = refl
restarts true true false = refl
restarts true false true = refl
restarts true false false = refl
restarts false f k = refl

restarts_so : (c : Component) → restarted (mended c) ≡ mended_part (restarted c)
restarts_so c =
    let r = restarts c.part.ended c.part.failed (is_source c.settings.kind) in
    λ i. record c.part { ended_inputs = map (λ ended. false) c.part.ended_inputs; ended = r i; failed = false }

free_so : (part : PartState) → part.ended ≡ false → part.failed ≡ false → ((part.ended && not part.failed) || false) ≡ false
free_so part e f = λ i. (e i && not part.failed) || false

fair_out : IsFair faults_out
fair_out = record { none = refl; append = without_append; keeps = one_kept; fewer = events_fewer; restarts = restarts_so; free = free_so }

module _ (ss : List Stream) where
  abbrev given_streams : List Stream → List Stream
  given_streams _ = ss

  -- ---- as they are called above

  pub get_in : (cs : List Component) (i : ℕ) (a : Component) → slice_get cs i ≡ Some a → slice_get (map mended cs) i ≡ Some (mended a)
  get_in = closing.get_in faults_out fair_out given_streams

  pub set_in : (cs : List Component) (i : ℕ) (a : Component) → set (map mended cs) i (mended a) ≡ map mended (set cs i a)
  set_in = closing.set_in faults_out fair_out given_streams

  pub numbered_in : (n : ℕ) (cs : List Component) → place_numbered n (map mended cs) ≡ place_numbered n cs
  numbered_in n cs = closing.position_in faults_out fair_out given_streams (is_numbered n) (λ c. refl) cs

  pub place_in : (h : Handle) (cs : List Component) → place_of h (map mended cs) ≡ place_of h cs
  place_in = calls.place_in faults_out fair_out given_streams

  pub done_in : (b : Bool) (w : World) (c : Component) (work : Work) (done : WorkDone) → stream_of done.component (mend ss w) ≡ stream_of done.component w → IsDoneBy b w c work done → IsDoneBy b (mend ss w) (mended c) work done
  done_in = landing.done_in faults_out fair_out given_streams

  pub closed_in : (w : World) → IsClosed w → IsClosed (mend ss w)
  closed_in = closing.closed_in faults_out fair_out given_streams

  pub closes_in : (w v : World) → ClosesTo w v → ClosesTo (mend ss w) (mend ss v)
  closes_in = closing.closes_in faults_out fair_out given_streams

  pub all_landed_in : (c : Component) (s : Stream) (done : WorkDone) (xs : List CarriedHeader) (hs : List HeaderRecord) → all_landed (mended c) s done xs hs ≡ all_landed c s done xs hs
  all_landed_in = landing.all_landed_in faults_out fair_out given_streams

  pub notes_in : (c : Component) (s : Stream) (done : WorkDone) (xs : List CarriedHeader) → notes_of_headers (mended c) s done xs ≡ notes_of_headers c s done xs
  notes_in = landing.notes_in faults_out fair_out given_streams

  -- ---- steps

  pub step_in : (w : World) (a : Act) (r : Reply) (v : World) → IsBeside a → Step w a r v → Step (mend ss w) a r (mend ss v) ⊎ ((v ≡ w) × IsDeclined r)
  step_in = step_or faults_out fair_out given_streams

  -- what looks at no note goes the same way
  pub sets_in : (w : World) (h : Handle) (key : ParamKey) (value : Param) (result : Result (Unit {0}) OmxError) (v : World) → SetParameter w h key value result v → SetParameter (mend ss w) h key value result (mend ss v)
  sets_in = passing.sets_in faults_out fair_out given_streams

  pub drops_in : (w : World) (o n : PortId) (result : Result (Unit {0}) OmxError) (v : World) → DropTunnel w o n result v → DropTunnel (mend ss w) o n result (mend ss v)
  drops_in = passing.drops_in faults_out fair_out given_streams

  pub joins_in : (w : World) (o n : PortId) (result : Result Supplier OmxError) (v : World) → SetupTunnel w o n result v → SetupTunnel (mend ss w) o n result (mend ss v)
  joins_in = passing.joins_in faults_out fair_out given_streams

  -- a command that is taken without the faults is taken, where there is room
  pub takes_back : (w : World) (c : Component) (command : Command) → is_at_once command ≡ false → nat_lt (room c) (cost_of c command) ≡ false → send_refusal (look (mend ss w)) (mended c) command ≡ None → send_refusal (look w) c command ≡ None
  takes_back = calls.takes_back faults_out fair_out given_streams

  pub meets_in : (w : World) (done : WorkDone) → stream_of done.component (mend ss w) ≡ stream_of done.component w → Meets w (acts.Finish done) → Meets (mend ss w) (acts.Finish done)
  meets_in = landing.meets_in faults_out fair_out given_streams

  goes_on : (e f k : Bool) → f ≡ false → ((e && not f) || k) ≡ ((e || k) && not f)
  goes_on e true k h = absurd cc
  goes_on true false k h = refl
  goes_on false false true h = refl
  goes_on false false false h = refl

  -- of a component whose step hasn't failed: its part goes on
  part_on : (c : Component) (done : WorkDone) → c.part.failed ≡ false → done.fault ≡ None → (s : Stream) → part_by (mended c) s done done.fault ≡ mended_part (part_by c s done done.fault)
  part_on c done z f s =
      let r = goes_on c.part.ended c.part.failed (ends_by c s done) z in
      ap (part_by (mended c) s done) f
      ∙ ((λ i. record c.part { ended_inputs = inputs_ended (terms_of c) 0 done.headers; ended = r i; failed = false }) ∙ ap (λ (o : Option PartFault). mended_part (part_by c s done o)) (sym f))

  -- a work that comes back without a fault: the streams are as they were, or the one of its component went on
  pub finishes_in : (w : World) (done : WorkDone) (v : World) (i : ℕ) (c : Component) → place_numbered done.component w.components ≡ Some i → slice_get w.components i ≡ Some c
      → c.part.failed ≡ false → stream_of (number_of c) (mend ss w) ≡ stream_of (number_of c) w → done.fault ≡ None → Finish w done v
      → (Finish (mend ss w) done (mend ss v) × (v.streams ≡ w.streams)) ⊎ (Finish (mend ss w) done (mend (gone_on ss (number_of c) done) v) × (v.streams ≡ gone_on w.streams (number_of c) done))
  finishes_in w done v i c p e z alike f F =
      let C : ClosesTo (finished i c done w) v = rw (p, e) at F in
      landing.finishes_in faults_out fair_out given_streams (λ _. gone_on ss (number_of c) done) w done v i c p e so C
    where
      so : GoesSo faults_out fair_out given_streams (λ _. gone_on ss (number_of c) done) w done c
      so = record { alike = alike; flows = refl; part = part_on c done z f; fault = ap (λ (o : Option PartFault). without_faults (fault_note o)) f ∙ sym (ap fault_note f) }

  -- ---- a note goes to the client

  module _ (w : World) (i : ℕ) (c : Component) (note : Note) (g : slice_get w.components i ≡ Some c) (e : slice_get c.notes 0 ≡ Some note) where
    abbrev y : Given
    y = record { component = number_of c; note = note }

    -- one that tells a fault takes the client object along, and nothing else
    pub fault_given : is_fault note ≡ true → mend ss (with_given i c note w) ≡ with_component i (record (mended c) { client_out = true }) (mend ss w)
    fault_given f =
        let n : without_faults (drop 1 c.notes) ≡ without_faults c.notes = sym (ap without_faults (noting.split_front c.notes note e) ∙ ap (λ (q : Bool). if q then without_faults (drop 1 c.notes) else note ∷ without_faults (drop 1 c.notes)) f) in
        let last : given_without (y ∷ []) ≡ [] = ap (λ (q : Bool). if q then [] else y ∷ []) f in
        let r : given_without (w.given ++ y ∷ []) ≡ given_without w.given = given_append w.given (y ∷ []) ∙ ((λ j. given_without w.given ++ last j) ∙ append-nil (given_without w.given)) in
        (λ j. record (mend ss w) { components = sym (set_in w.components i (first_taken c)) j; given = r j })
        ∙ (λ j. record (mend ss w) { components = set (map mended w.components) i (record (mended c) { notes = n j; client_out = true }) })

    -- what is taken of another is taken
    pub takes_so : (h : Handle) (result : Result Took OmxError) (v : World) → place_of h w.components ≡ Some i → c.client_out ≡ false → is_fault note ≡ false → TakeFrom w i c false (Some note) result v → TakeNote (mend ss w) h result (mend ss v)
    takes_so h result v p o f s =
        let last : given_without (y ∷ []) ≡ y ∷ [] = ap (λ (q : Bool). if q then [] else y ∷ []) f in
        noting.takes_so faults_out fair_out given_streams (λ out. refl) w i c note g e (one_kept note f) (given_append w.given (y ∷ []) ∙ ap (λ (l : List Given). given_without w.given ++ l) last) h result v p o s

  pub ends_in : (w : World) (h : Handle) (v : World) → EndNote w h v → EndNote (mend ss w) h (mend ss v)
  ends_in = noting.ends_in faults_out fair_out given_streams (λ out. refl) refl

-- ---- a work that comes back with a fault

told_fault : (fault : PartFault) → is_fault (Told (Error (error_of fault))) ≡ true
told_fault Read = refl
told_fault Write = refl
told_fault (Short at size) = refl

-- the component with its fault
pub broken_in : (fault : PartFault) (c d : Component) → c.part.ended ≡ false → d ≡ record c { work = None; part = record c.part { failed = true }; notes = c.notes ++ Told (Error (error_of fault)) ∷ [] }
    → mended d ≡ record (mended c) { work = None }
broken_in fault c d e is =
    let none = one_gone (Told (Error (error_of fault))) (told_fault fault) in
    let n : without_faults (c.notes ++ Told (Error (error_of fault)) ∷ []) ≡ without_faults c.notes =
    without_append c.notes (Told (Error (error_of fault)) ∷ []) ∙ ((λ i. without_faults c.notes ++ none i) ∙ append-nil (without_faults c.notes)) in
    let k : (c.part.ended && false) ≡ (c.part.ended && not c.part.failed) = (λ i. e i && false) ∙ (λ i. sym e i && not c.part.failed) in
    ap mended is ∙ (λ i. record (mended c) { work = None; part = record c.part { ended = k i; failed = false }; notes = n i })
