-- A note is taken and the client object goes back: so the moment leads to the next one.
use Rattle.std.proofs.Common.{◌≡◌, ℕ, List, [], ◌∷◌, set, position, slice_get, Option, Some, None, option_map, Result, Ok, Err, refl, sym, ◌∙◌, ap, subst, eqb-true}
use Rattle.std.specs.Prelude.{IfSome, IsSome, IsSomeAnd}
use Rattle.omx_types.specs.declared.handle.Handle.{Handle}
use Rattle.omx_types.specs.declared.command.Event.{Event}
use Rattle.omx_types.specs.declared.command.Note.{Note}
use Rattle.omx_types.specs.declared.error.OmxError.{OmxError}
use Rattle.il_machine.specs.declared.answer.Progress.{Progress}
use Rattle.il_machine.specs.World.{World, number_of}
use Rattle.il_machine.specs.Look.{Look, look}
use Rattle.il_machine.specs.Answers.{component_named}
use Rattle.il_machine.specs.Components.{noted_by, progress_of, has_eos, no_progress}
use Rattle.il_machine.specs.Notes.{Took, TookNote, TookNone, TookBusy, TakeNote, EndNote}
use Rattle.il_machine.specs.Acts as acts
use Rattle.il_machine.specs.Run.{Meets}
use Rattle.il_machine.specs.Whole.{Kept, Stands, Steps, StepsWhere}
use Rattle.il_machine.proofs.Places.{is_first_place, passes_at}
use Rattle.machine_laws.proofs.Every.{set_there}
use Rattle.machine_laws.proofs.Keys.{there_is, is_there, at_there}
use Rattle.header_core.specs.BufferHeader.{BufferHeader}
use Rattle.note_queues.specs.declared.taken.Taken.{Taken}
use Rattle.note_queues.specs.declared.taken.Taken.TheVariants as notes
use Rattle.note_queues.specs.Queues.{taken_of}
use Rattle.graph_core.specs.Changes.{IsHandedIn}
use Rattle.graph_core.specs.Clients.{IsOut, WasTold}
use Rattle.il_graph.specs.HandedIn.{IsHandedOut, IsNoteHandedOut}
use Rattle.history_laws.proofs.Cores.{NoneTaken}
use Rattle.trace_run.proofs.Ends.{some_and, seated_there, seated_here, apart_here, ports_kept, ports_given}
use Rattle.trace_run.proofs.Made.{IsHome}
use Rattle.history_laws.proofs.Numbered.{numbered_step}
use Rattle.trace_run.proofs.Reseated.{seated_taken}
use Rattle.act_text.specs.declared.reply.TextReply.{TextReply}
use Rattle.act_text.specs.declared.reply.TextReply.TheVariants as texts
use Rattle.trace_run.specs.declared.names.NamedComponent.{NamedComponent}
use Rattle.trace_run.specs.declared.reply.LineAnswer.{LineAnswer}
use Rattle.trace_run.specs.declared.reply.LineAnswer.TheVariants as answers
use Rattle.trace_run.specs.declared.slots.Slot.{Slot}
use Rattle.trace_run.specs.Naming.{Moment, Names, NamedHeader, is_numbered, name_of, header_name, with_hand, with_taken, after_taking}
use Rattle.trace_run.specs.Replying.{LineReply, Plain, Emptied, Filled, printed, filled_reply}
use Rattle.trace_run.specs.Lines.{taking}
use Rattle.trace_run.specs.Standing.{Parts, names_in, slot_numbered, holding, machine_note, KeptSo, HasEmptySlot, HasSlotFor, HaveSlots, Hands, AreOfPorts, CanEnd, HasNamesFor, IsMoment, TakenSo, TakeLeads}
use Rattle.trace_run.proofs.SlotLists.{first_passes, first_changes, hands_with}
use Rattle.trace_run.proofs.Standing.{Between, between_of, between_after, stood_with, stood_after, known_set, known_home}
use Rattle.trace_run.proofs.Taken.{note_of, AtHeaderIn, WasTaken, was_taken, named_before, IsOutNow, out_now, progress_now, taken_home}

-- ---- a header comes into the hand of its slot

pub same_number : (slots : List Slot) (number place : ℕ) (slot : Slot) → position (slot_numbered number) slots ≡ Some place → slice_get slots place ≡ Some slot → slot.number ≡ number
same_number slots number place slot p at =
    let x = passes_at (slot_numbered number) slots place (sym (is_first_place (slot_numbered number) slots) ∙ p) in
    let s : Some x.0 ≡ Some slot = sym x.1 ∙ at in
    let is : x.0 ≡ slot = cc in
    ap (λ (y : Slot). y.number) (sym is) ∙ eqb-true _ _ x.2

pub handed_between : (old : Parts) (at : Moment) (place : ℕ) (slot : Slot) (header : BufferHeader) → Between old at → position (slot_numbered header.held.number) old.slots ≡ Some place → slice_get old.slots place ≡ Some slot
    → IsHandedIn header (old.graph).looks → Between (record old { slots = set old.slots place (holding (Some header) slot) }) (record at { names = with_hand (is_numbered header.held.number) (Some header.held) at.names })
handed_between old at place slot header S p there h =
    let number = header.held.number in
    let changed = first_changes (is_numbered number) (Some header) old.slots place slot p there in
    record {
      world = S.world;
      rests = S.rests;
      names = ap (with_hand (is_numbered number) (Some header.held)) S.names ∙ (λ i. record { components = old.components; headers = sym changed i });
      sound = S.sound;
      named = S.named;
      known = known_set old.slots (look at.world) place slot (Some header) there S.known;
      hands = hands_with old.slots (old.graph).looks place slot header there (sym (same_number old.slots number place slot p there)) h S.hands;
    }

-- ---- a note was there

note_same : (taken : Taken) → note_of (taken_of taken) ≡ machine_note taken
note_same (notes.Told event) = refl
note_same (notes.EmptyDone header) = refl
note_same (notes.FillDone header) = refl

module _ (components : List NamedComponent) (slots : List Slot) (old mid new : Kept) (h : Handle) (client : Progress) (taken : Taken) where
  abbrev before : Parts
  before = record { graph = old; components = components; slots = slots }

  abbrev taken_result : Result Took OmxError
  taken_result = Ok (TookNote (taken_of taken))

  abbrev now_told : Progress
  now_told = noted_by (machine_note taken) client

  told_now : (w : World) (v : World) (T : WasTaken w h (taken_of taken) v) → WasTold h client w → (d : IsOutNow h v (number_of T.component)) → now_told ≡ progress_of d.component v
  told_now w v T told d =
      let e : client ≡ progress_of T.component w = at_there (component_named h w.components) _ T.component (named_before w h (taken_of taken) v T) told in
      ap (noted_by (machine_note taken)) e
      ∙ (ap (λ (n : Note). noted_by n (progress_of T.component w)) (sym (note_same taken)) ∙ sym (progress_now w h (taken_of taken) v T d.component d.number_is))

  module _ (step : Steps old mid (λ w v. TakeNote w h taken_result v)) (told : (w : World) → Stands old w → WasTold h client w) where
    -- the world with the client object out
    pub record IsMiddle (at : Moment) : Type 0 where
      pub world : World
      pub stands : Stands mid world
      pub takes : TakeNote at.world h taken_result world
      pub meets : Meets world (acts.EndNote h now_told)
      pub knows : WasTold h now_told world
      pub between : Between (record before { graph = mid }) (record at { world = world })

    pub middle : (at : Moment) → IsMoment before at → IsMiddle at
    middle at S =
        let w = at.world in
        let x = step w S.world in
        let v = x.0 in
        let T = was_taken w h (taken_of taken) v x.2 in
        let O = out_now w h (taken_of taken) v T in
        let p = told_now w v T (told w S.world) O in
        record {
          world = v;
          stands = x.1;
          takes = x.2;
          meets = is_there (component_named h v.components) _ O.component O.named (O.out, p);
          knows = is_there (component_named h v.components) _ O.component O.named p;
          between = between_after before at mid (acts.TakeNote h) (acts.Took taken_result) v (between_of before at S) tt x.2 x.1 tt refl refl;
        }

    module _ (ended : StepsWhere mid new (WasTold h now_told) (λ w v. EndNote w h v)) (news : List Slot) (reply : LineReply) where
      abbrev after : Parts
      after = record { graph = new; components = components; slots = news }

      -- the names after the note
      abbrev with_note : Moment → Moment
      with_note at = record at { names = with_taken (taken_of taken) at.names }

      module _ (at : Moment) (S0 : IsMoment before at) (M : IsMiddle at) (P : AreOfPorts components mid.looks news) where
        ends_so : (u : World) → Stands new u → EndNote M.world h u → Between (record { graph = mid; components = components; slots = news }) (with_note (record at { world = M.world })) → CanEnd after
        ends_so u B e S =
            let w = at.world in
            let v = M.world in
            record {
              seated = seated_here components new u B (seated_taken components w h (taken_of taken) v u S.sound (was_taken w h (taken_of taken) v M.takes) e (seated_there components old w S0.world S0.ends.seated));
              apart = apart_here components mid new v u M.stands B (numbered_step v (acts.EndNote h now_told) acts.Ended u S.sound M.meets e tt)
                  (apart_here components old mid w v S0.world M.stands (numbered_step w (acts.TakeNote h) (acts.Took taken_result) v S0.sound tt M.takes tt) S0.ends.apart);
              slots = ports_kept mid new v (acts.EndNote h now_told) acts.Ended u M.stands B S.sound M.meets e components news S.hands P refl;
            }

        finish : Between (record { graph = mid; components = components; slots = news }) (with_note (record at { world = M.world })) → printed at.names (acts.Took taken_result) ≡ Some reply
            → (next : Moment) × IsMoment after next × TakenSo at h reply next
        finish S says =
            let y = ended M.world M.stands M.knows in
            let u = y.0 in (
              with_note (record at { world = u }),
              stood_with after (with_note (record at { world = u }))
                  (between_after (record { graph = mid; components = components; slots = news }) (with_note (record at { world = M.world })) new (acts.EndNote h now_told) acts.Ended u S M.meets y.2 y.1 tt refl refl) (ends_so u y.1 y.2 S),
              record {
                result = taken_result;
                progress = now_told;
                entries = taking h taken_result now_told;
                takes = record { both = refl; says = says };
                names = refl;
                run = (M.world, tt, M.takes, (u, M.meets, y.2, refl));
              },
            )

-- ---- what is kept of the note

printed_header : (names : Names) (components : List NamedComponent) (slots : List Slot) (number place : ℕ) (slot : Slot) → names ≡ names_in components slots → position (slot_numbered number) slots ≡ Some place → slice_get slots place ≡ Some slot
    → header_name names number ≡ Some slot.name
printed_header names components slots number place slot e p there =
    ap (λ (n : Names). header_name n number) e
    ∙ ap (λ (o : Option NamedHeader). option_map name_of o) (first_passes (is_numbered number) slots place slot p there)

module _ (components : List NamedComponent) (slots news : List Slot) (old mid new : Kept) (h : Handle) (client : Progress) where
  abbrev start : Parts
  start = record { graph = old; components = components; slots = slots }

  abbrev end : Parts
  end = record { graph = new; components = components; slots = news }

  abbrev Taking : Taken → Type 0
  Taking taken = Steps old mid (λ w v. TakeNote w h (Ok (TookNote (taken_of taken))) v)

  abbrev Ending : Taken → Type 0
  Ending taken = StepsWhere mid new (WasTold h (noted_by (machine_note taken) client)) (λ w v. EndNote w h v)

  event_taken : (event : Event) (answer : LineAnswer) → Taking (notes.Told event) → ((w : World) → Stands old w → WasTold h client w) → Ending (notes.Told event) → KeptSo (notes.Told event) slots news answer → TakeLeads start end h answer
  event_taken event answer step told ended K =
      let taken = notes.Told event in
      let reply = Plain (texts.Event event) in (
        reply,
        (rw K.1 refl),
        λ at S.
            let M = middle components slots old mid new h client taken step told at S in
            let P = ports_kept old mid at.world (acts.TakeNote h) (acts.Took (Ok (TookNote (taken_of taken)))) M.world S.world M.stands S.sound tt M.takes components slots S.hands S.ends.slots refl in
            finish components slots old mid new h client taken step told ended news reply at S M
            (subst (AreOfPorts components mid.looks) (sym K.0) P)
            (subst (λ (l : List Slot). Between (record { graph = mid; components = components; slots = l }) (record at { world = M.world })) (sym K.0) M.between) refl,
      )

  emptied_taken : (header : BufferHeader) (answer : LineAnswer) → Taking (notes.EmptyDone header) → ((w : World) → Stands old w → WasTold h client w) → IsHandedIn header mid.looks → Ending (notes.EmptyDone header)
      → KeptSo (notes.EmptyDone header) slots news answer → TakeLeads start end h answer
  emptied_taken header answer step told handed ended (place, kept, e) =
      let taken = notes.EmptyDone header in
      let x = there_is (slice_get slots place) _ kept.1 in
      let slot = x.0 in
      let now = holding (Some header) slot in
      let reply = Emptied slot.name in
      let there : slice_get news place ≡ Some now = ap (λ (l : List Slot). slice_get l place) x.2 ∙ set_there slots place slot now x.1 in (
        reply,
        (rw e (some_and (slice_get news place) _ now there refl)),
        λ at S.
            let M = middle components slots old mid new h client taken step told at S in
            let T = handed_between (record { graph = mid; components = components; slots = slots }) (record at { world = M.world }) place slot header M.between kept.0 x.1 handed in
            let n = same_number slots header.held.number place slot kept.0 x.1 in
            let P = ports_given old mid at.world (acts.TakeNote h) (acts.Took (Ok (TookNote (taken_of taken)))) M.world S.world M.stands S.sound tt M.takes components slots S.hands S.ends.slots place slot header x.1 (ap Some (sym n)) in
            finish components slots old mid new h client taken step told ended news reply at S M
            (subst (AreOfPorts components mid.looks) (sym x.2) P)
            (subst (λ (l : List Slot). Between (record { graph = mid; components = components; slots = l }) (record at { world = M.world; names = with_hand (is_numbered header.held.number) (Some header.held) at.names })) (sym x.2) T)
            (ap (option_map Emptied) (printed_header at.names components slots header.held.number place slot S.names kept.0 x.1)),
      )

  filled_taken : (header : BufferHeader) (answer : LineAnswer) → Taking (notes.FillDone header) → ((w : World) → Stands old w → WasTold h client w) → IsHandedIn header mid.looks → Ending (notes.FillDone header)
      → KeptSo (notes.FillDone header) slots news answer → TakeLeads start end h answer
  filled_taken header answer step told handed ended (place, kept, e) =
      let taken = notes.FillDone header in
      let x = there_is (slice_get slots place) _ kept.1 in
      let slot = x.0 in
      let now = holding (Some header) slot in
      let reply = Filled slot.name header.held.content (has_eos header.held.flags) in
      let there : slice_get news place ≡ Some now = ap (λ (l : List Slot). slice_get l place) x.2 ∙ set_there slots place slot now x.1 in (
        reply,
        (rw e (some_and (slice_get news place) _ now there refl)),
        λ at S.
            let M = middle components slots old mid new h client taken step told at S in
            let T = handed_between (record { graph = mid; components = components; slots = slots }) (record at { world = M.world }) place slot header M.between kept.0 x.1 handed in
            let n = same_number slots header.held.number place slot kept.0 x.1 in
            let P = ports_given old mid at.world (acts.TakeNote h) (acts.Took (Ok (TookNote (taken_of taken)))) M.world S.world M.stands S.sound tt M.takes components slots S.hands S.ends.slots place slot header x.1 (ap Some (sym n)) in
            finish components slots old mid new h client taken step told ended news reply at S M
            (subst (AreOfPorts components mid.looks) (sym x.2) P)
            (subst (λ (l : List Slot). Between (record { graph = mid; components = components; slots = l }) (record at { world = M.world; names = with_hand (is_numbered header.held.number) (Some header.held) at.names })) (sym x.2) T)
            (ap (option_map (filled_reply header.held.content header.held.flags)) (printed_header at.names components slots header.held.number place slot S.names kept.0 x.1)),
      )

pub call_taken : (components : List NamedComponent) (slots news : List Slot) (old mid new : Kept) (h : Handle) (client : Progress) (taken : Taken) (answer : LineAnswer) → Steps old mid (λ w v. TakeNote w h (Ok (TookNote (taken_of taken))) v)
    → ((w : World) → Stands old w → WasTold h client w) → IsNoteHandedOut old.looks mid.looks taken → StepsWhere mid new (WasTold h (noted_by (machine_note taken) client)) (λ w v. EndNote w h v) → KeptSo taken slots news answer
    → TakeLeads (record { graph = old; components = components; slots = slots }) (record { graph = new; components = components; slots = news }) h answer
call_taken components slots news old mid new h client (notes.Told event) answer step told handed ended K = event_taken components slots news old mid new h client event answer step told ended K
call_taken components slots news old mid new h client (notes.EmptyDone header) answer step told handed ended K = emptied_taken components slots news old mid new h client header answer step told handed.handed ended K
call_taken components slots news old mid new h client (notes.FillDone header) answer step told handed ended K = filled_taken components slots news old mid new h client header answer step told handed.handed ended K

-- ---- what the end of a note asks for

some_each : {A : Type 0} (o : Option A) (P : A → Type 0) → IsSome o → ((x : A) → o ≡ Some x → P x) → IsSomeAnd o P
some_each None P s f = absurd cc
some_each (Some x) P s f = f x refl

if_each : {A : Type 0} (o : Option A) (P : A → Type 0) → ((x : A) → o ≡ Some x → P x) → IfSome o P
if_each None P f = tt
if_each (Some x) P f = f x refl

-- what is in the hand could be handed in before, and the header that comes is another one
none_in_hand : (l m : Look) (header : BufferHeader) (n : ℕ) (hand : Option BufferHeader) → IsHandedOut l m header → n ≡ header.held.number → IfSome hand (λ before. (before.held.number ≡ n) × IsHandedIn before l) → hand ≡ None
none_in_hand l m header n None O e H = refl
none_in_hand l m header n (Some before) O e H = absurd (O.other before H.1 (H.0 ∙ e))

empty_slot : (slots : List Slot) (l m : Look) (header : BufferHeader) → Hands slots l → IsHandedOut l m header → IsSome (position (slot_numbered header.held.number) slots) → HasEmptySlot header.held.number slots
empty_slot slots l m header H O s =
    some_each (position (slot_numbered header.held.number) slots) _ s (λ place p.
    if_each (slice_get slots place) _ (λ slot at.
    none_in_hand l m header slot.number slot.hand O (same_number slots header.held.number place slot p at) (H.each place slot at)))

slot_for : (slots : List Slot) (w : World) (l m : Look) (taken : Taken) → HaveSlots slots (look w) → AtHeaderIn (taken_of taken) (λ number. IsHome number w.headers) → Hands slots l → IsNoteHandedOut l m taken → HasSlotFor slots taken
slot_for slots w l m (notes.Told event) K H S O = tt
slot_for slots w l m (notes.EmptyDone header) K H S O = empty_slot slots l m header S O (known_home slots w header.held.number K H)
slot_for slots w l m (notes.FillDone header) K H S O = empty_slot slots l m header S O (known_home slots w header.held.number K H)

module _ (slots : List Slot) (old mid : Kept) (h : Handle) (taken : Taken) (has : HasNamesFor old slots) (step : Steps old mid (λ w v. TakeNote w h (Ok (TookNote (taken_of taken))) v)) where
  abbrev here : World
  here = (has.1).at.world

  abbrev reached : (v : World) × Stands mid v × TakeNote here h (Ok (TookNote (taken_of taken))) v
  reached = step here (has.1).stood.world

  abbrev it : WasTaken here h (taken_of taken) reached.0
  it = was_taken here h (taken_of taken) reached.0 reached.2

  pub has_slot : IsNoteHandedOut old.looks mid.looks taken → HasSlotFor slots taken
  has_slot out = slot_for slots here old.looks mid.looks taken (has.1).stood.known (taken_home here h (taken_of taken) reached.0 (has.1).stood.sound it) (has.1).stood.hands out

  pub is_out : IsOut h mid.looks
  is_out =
      let O = out_now here h (taken_of taken) reached.0 it in
      subst (IsOut h) (reached.1).looks (some_and (component_named h (reached.0).components) _ O.component O.named O.out)

-- ---- no note was there, or the call was refused

untaken : {h : Handle} (result : Result Took OmxError) → taking h result no_progress ≡ (acts.TakeNote h, acts.Took result) ∷ [] → NoneTaken (acts.TakeNote h) (acts.Took result)
untaken (Ok (TookNote taken)) e = absurd cc
untaken (Ok TookNone) e = tt
untaken (Ok TookBusy) e = tt
untaken (Err error) e = tt

pub nothing_taken : (components : List NamedComponent) (slots : List Slot) (old new : Kept) (h : Handle) (result : Result Took OmxError) (reply : TextReply) → taking h result no_progress ≡ (acts.TakeNote h, acts.Took result) ∷ []
    → ((names : Names) → after_taking result names ≡ names) → ((names : Names) → printed names (acts.Took result) ≡ Some (Plain reply)) → Steps old new (λ w v. TakeNote w h result v)
    → TakeLeads (record { graph = old; components = components; slots = slots }) (record { graph = new; components = components; slots = slots }) h (answers.Plain reply)
nothing_taken components slots old new h result reply one names says step = (
  Plain reply,
  refl,
  λ at S.
      let x = step at.world S.world in (
        record at { world = x.0 },
        stood_after (record { graph = old; components = components; slots = slots }) at new (acts.TakeNote h) (acts.Took result) x.0 S tt x.2 x.1 tt refl refl (untaken result one),
        record {
          result = result;
          progress = no_progress;
          entries = (acts.TakeNote h, acts.Took result) ∷ [];
          takes = record { both = sym one; says = says at.names };
          names = sym (names at.names);
          run = (x.0, tt, x.2, refl);
        },
      ),
)
