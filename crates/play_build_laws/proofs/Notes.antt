-- The notes of a component are events, and one after the other is taken; its client object goes back each time.
use Rattle.std.proofs.Common.{◌≡◌, inl, inr, ℕ, zero, suc, ◌+◌, ◌<◌, ◌≤◌, Bool, true, false, List, [], ◌∷◌, length, set, slice_get, length-set, Option, map, Some, None, is_some, All, MatchOption, Result, Ok, refl, sym, ◌∙◌, ap, subst, arith}
use Rattle.std.specs.Prelude.{drop, option_map, unwrap_or}
use Rattle.std.proofs.lemmas.List.Elements.{All-tail}
use Rattle.omx_types.specs.declared.handle.Handle.{Handle}
use Rattle.omx_types.specs.declared.command.Event.{Event}
use Rattle.omx_types.specs.declared.command.Note.{Note}
use Rattle.omx_types.specs.declared.command.Note.TheVariants as notes
use Rattle.omx_types.specs.declared.error.OmxError.{OmxError}
use Rattle.il_machine.specs.declared.header.Owner.TheVariants as owners
use Rattle.il_machine.specs.Answers.{plain}
use Rattle.il_machine.specs.Census.{note_numbers, times}
use Rattle.il_machine.specs.Due.{ClosesTo, IsClosed, has_due}
use Rattle.il_machine.specs.Headers.{find_header, seen, weight}
use Rattle.il_machine.specs.Lists.{holds_at}
use Rattle.il_machine.specs.Look.{look}
use Rattle.il_machine.specs.Notes.{EndNote, TakeFrom, TakeNote, Taken, TakenEvent, Took, TookNone, TookNote, back_in, first_taken, with_given}
use Rattle.il_machine.specs.Room.{is_event}
use Rattle.il_machine.specs.Sound.{Sound, is_in_notes_of}
use Rattle.il_machine.specs.States.{is_invalid}
use Rattle.il_machine.specs.World.{Component, World, is_at, number_of, place_of, with_component}
use Rattle.il_machine.proofs.Places.{is_first_place, place_set}
use Rattle.machine_laws.specs.Changes.{link_of}
use Rattle.machine_laws.proofs.Closing.{closed_closes, closed_rests}
use Rattle.machine_laws.proofs.Every.{at_place, at_set_over, from_places, set_there}
use Rattle.machine_laws.proofs.Keys.{at_there}
use Rattle.machine_laws.proofs.Listed.{times_self, weighs_one}
use Rattle.machine_laws.proofs.Notices.{first_is, notice_is, sound_ended, sound_given}
use Rattle.machine_laws.proofs.Parts.{parts_of}
use Rattle.play_build_laws.proofs.Places.{get_there, none_first, resolved}
use Rattle.play_build_laws.specs.Halting.{AreStoppedTo, HasEvents, IsHeard, IsLinked, IsSameButNotes, IsStopped, KeepsFiles, notes_at}
use Rattle.play_build_laws.proofs.Linked.{Each, KeepsSeat, at_end, client_in, files_kept, linked_kept, work_none}

-- ---- closed worlds

pub closed_at : (w : World) → IsClosed w → (i : ℕ) (a : Component) → slice_get w.components i ≡ Some a → has_due (seen w.headers) a ≡ false
closed_at w Z i a e = ap (λ o. is_some o) (closed_rests w Z i a e)

pub closed_from : (w : World) → ((i : ℕ) (a : Component) → slice_get w.components i ≡ Some a → has_due (seen w.headers) a ≡ false) → IsClosed w
closed_from w h = is_first_place (has_due (seen w.headers)) w.components ∙ none_first (has_due (seen w.headers)) w.components h

-- one component in place of another that has nothing due either
pub closed_set : (w v : World) (i : ℕ) (b : Component) → IsClosed w → v.headers ≡ w.headers → v.components ≡ set w.components i b → has_due (seen w.headers) b ≡ false → IsClosed v
closed_set w v i b Z h s d = closed_from v (λ j y f. ap (λ hs. has_due (seen hs) y) h ∙ elim (at_set_over w.components i j b y (ap (λ (cs : List Component). slice_get cs j) (sym s) ∙ f)) [
  | inl q ↦ ap (has_due (seen w.headers)) q.1 ∙ d
  | inr q ↦ closed_at w Z j y q.1
])

-- ---- what notes tell

-- no header of a tunnel is in a note
no_header_noted : (end : Bool → ℕ → _) (links : ℕ) (w : World) (L : IsLinked end links w) (i : ℕ) (a : Component) → slice_get w.components i ≡ Some a → (n : ℕ) → 1 ≤ times n (note_numbers a.notes) → ⊥
no_header_noted end links w L i a e n one =
    let N : times n (note_numbers a.notes) ≡ weight (holds_at ((seen w.headers).header n) (is_in_notes_of (number_of a))) = (parts_of w L.sound).noted i a e n in
    let r = weighs_one (find_header n w.headers) (is_in_notes_of (number_of a)) (omega (arith, one, N)) in
    let A = at_end end links w L n r.0 r.1 in
    let own = notice_is (number_of a) (r.0).state.owner r.2 in
    let z : owners.Port A.key ≡ owners.Notice (number_of a) = sym A.owner ∙ own in
    cc

none_noted : (ns : List Note) → ((n : ℕ) → 1 ≤ times n (note_numbers ns) → ⊥) → All (λ n. is_event n ≡ true) ns
none_noted ns h = from_places (λ n. is_event n ≡ true) ns (λ i n e. each ns h i n e)
  where
    counted_first : (n : ℕ) (ns : List ℕ) → 1 ≤ times n (n ∷ ns)
    counted_first n ns = let c = times_self n ns in omega arith

    each : (ns : List Note) → ((n : ℕ) → 1 ≤ times n (note_numbers ns) → ⊥) → (i : ℕ) (n : Note) → slice_get ns i ≡ Some n → is_event n ≡ true
    each [] h i n e = absurd cc
    each (notes.Told event ∷ ns) h zero n e = let s : notes.Told event ≡ n = cc in ap is_event (sym s)
    each (notes.Told event ∷ ns) h (suc i) n e = each ns h i n e
    each (notes.EmptyDone k ∷ ns) h i n e = absurd (h k (counted_first k (note_numbers ns)))
    each (notes.FillDone k ∷ ns) h i n e = absurd (h k (counted_first k (note_numbers ns)))

pub has_events : (end : Bool → ℕ → _) (links place : ℕ) (w : World) → IsLinked end links w → place < length w.components → HasEvents place w
has_events end links place w L b =
    let a = get_there w.components place b in
    record {
      sound = L.sound;
      component = a.0;
      there = a.1;
      client = client_in end links w L place a.0 a.1;
      events = none_noted (a.0).notes (no_header_noted end links w L place a.0 a.1);
    }

-- ---- a note is taken

module _ (place : ℕ) (w : World) (h : Handle) (H : HasEvents place w) (N : place_of h w.components ≡ Some place) where
  abbrev a : Component
  a = H.component

  notes_there : notes_at place (look w) ≡ length a.notes
  notes_there = ap (λ o. unwrap_or (option_map (λ (c : Component). length c.notes) o) 0) H.there

  from_notes : (r : Result Took OmxError) (v : World) → TakeNote w h r v → TakeFrom w place a false (slice_get a.notes 0) r v
  from_notes r v T = subst (λ (b : Bool). TakeFrom w place a b (slice_get a.notes 0) r v) H.client (resolved plain w h r v (λ i c. TakeFrom w i c c.client_out (slice_get c.notes 0) r v) place a N H.there T)

  first_event : (n : Note) → slice_get a.notes 0 ≡ Some n → is_event n ≡ true
  first_event n e = at_place (λ (m : Note). is_event m ≡ true) a.notes 0 n H.events e

  no_notes : (ns : List Note) → slice_get ns 0 ≡ None → length ns ≡ 0
  no_notes [] e = refl
  no_notes (n ∷ ns) e = absurd cc

  none_by : (v : World) (oldest : Option Note) → slice_get a.notes 0 ≡ oldest → TakeFrom w place a false oldest (Ok TookNone) v → length a.notes ≡ 0
  none_by v None e T = no_notes a.notes e
  none_by v (Some (notes.Told event)) e T = let s = T.0 in absurd cc
  none_by v (Some (notes.EmptyDone k)) e T = let s : false ≡ true = first_event (notes.EmptyDone k) e in absurd cc
  none_by v (Some (notes.FillDone k)) e T = let s : false ≡ true = first_event (notes.FillDone k) e in absurd cc

  -- where no note comes, none was queued
  pub none_taken : (v : World) → TakeNote w h (Ok TookNone) v → notes_at place (look w) ≡ 0
  none_taken v T = notes_there ∙ none_by v (slice_get a.notes 0) refl (from_notes (Ok TookNone) v T)

  heard_by : (r : Result Took OmxError) (v : World) (oldest : Option Note) → slice_get a.notes 0 ≡ oldest → TakeFrom w place a false oldest r v → IsHeard r
  heard_by r v None e T = subst IsHeard (sym T.0) tt
  heard_by r v (Some (notes.Told event)) e T = subst IsHeard (sym T.0) tt
  heard_by r v (Some (notes.EmptyDone k)) e T = let s : false ≡ true = first_event (notes.EmptyDone k) e in absurd cc
  heard_by r v (Some (notes.FillDone k)) e T = let s : false ≡ true = first_event (notes.FillDone k) e in absurd cc

  pub heard : (r : Result Took OmxError) (v : World) → TakeNote w h r v → IsHeard r
  heard r v T = heard_by r v (slice_get a.notes 0) refl (from_notes r v T)

  -- ---- with the client object out

  module _ (event : Event) where
    abbrev pub out_with : World
    out_with = with_given place a (notes.Told event) w

    pub out_there : slice_get out_with.components place ≡ Some (first_taken a)
    out_there = set_there w.components place a (first_taken a) H.there

    pub out_named : place_of h out_with.components ≡ Some place
    out_named =
        let cs = set w.components place (first_taken a) in
        is_first_place (is_at h) cs ∙ (place_set (is_at h) w.components place a (first_taken a) H.there refl ∙ (sym (is_first_place (is_at h) w.components) ∙ N))

    out_closed : IsClosed w → IsClosed out_with
    out_closed Z = closed_set w out_with place (first_taken a) Z refl refl (closed_at w Z place a H.there)

  pub record IsTaken (taken : Taken) (v : World) : Type 0 where
    pub event : Event
    pub is : taken ≡ TakenEvent event
    pub first : slice_get a.notes 0 ≡ Some (notes.Told event)
    pub same : v ≡ out_with event

  taken_by : IsClosed w → (taken : Taken) (v : World) (oldest : Option Note) → slice_get a.notes 0 ≡ oldest → TakeFrom w place a false oldest (Ok (TookNote taken)) v → IsTaken taken v
  taken_by Z taken v None e T = let s = T.0 in absurd cc
  taken_by Z taken v (Some (notes.Told event)) e T =
      let s = T.0 in
      record { event = event; is = cc; first = e; same = closed_closes (out_with event) v (out_closed event Z) T.1 }
  taken_by Z taken v (Some (notes.EmptyDone k)) e T = let s : false ≡ true = first_event (notes.EmptyDone k) e in absurd cc
  taken_by Z taken v (Some (notes.FillDone k)) e T = let s : false ≡ true = first_event (notes.FillDone k) e in absurd cc

  pub takes_event : IsClosed w → (taken : Taken) (v : World) → TakeNote w h (Ok (TookNote taken)) v → IsTaken taken v
  takes_event Z taken v T = taken_by Z taken v (slice_get a.notes 0) refl (from_notes (Ok (TookNote taken)) v T)

  -- ---- and in again

  module _ (event : Event) (first : slice_get a.notes 0 ≡ Some (notes.Told event)) where
    abbrev rest : List Note
    rest = drop 1 a.notes

    abbrev pub in_with : World
    in_with = with_component place (back_in (first_taken a)) (out_with event)

    in_there : slice_get in_with.components place ≡ Some (back_in (first_taken a))
    in_there = set_there (out_with event).components place (first_taken a) (back_in (first_taken a)) (out_there event)

    notes_are : a.notes ≡ notes.Told event ∷ rest
    notes_are = first_is a.notes (notes.Told event) first

    in_same : back_in (first_taken a) ≡ record a { notes = rest }
    in_same = λ i. record a { notes = rest; client_out = sym H.client i }

    pub in_events : HasEvents place in_with
    in_events = record {
      sound = sound_ended (out_with event) place (first_taken a) (sound_given w place a event H.sound H.there first) (out_there event);
      component = back_in (first_taken a);
      there = in_there;
      client = refl;
      events = All-tail (λ n. is_event n ≡ true) (notes.Told event) rest (subst (All (λ n. is_event n ≡ true)) notes_are H.events);
    }

    pub in_fewer : notes_at place (look in_with) + 1 ≡ notes_at place (look w)
    in_fewer =
        let e : notes_at place (look in_with) ≡ length rest = ap (λ o. unwrap_or (option_map (λ (c : Component). length c.notes) o) 0) in_there in
        let f : length a.notes ≡ suc (length rest) = ap length notes_are in
        let g = notes_there in
        omega arith

    pub in_apart : IsSameButNotes w in_with
    in_apart = record {
      many = length-set (out_with event).components place (back_in (first_taken a)) ∙ length-set w.components place (first_taken a);
      each = λ i b e. elim (at_set_over (out_with event).components place i (back_in (first_taken a)) b e) [
        | inl h ↦ (a, ap (slice_get w.components) h.0 ∙ H.there, h.1 ∙ (in_same ∙ (λ j. record a { notes = sym (ap (λ (c : Component). c.notes) h.1) j })))
        | inr h ↦ elim (at_set_over w.components place i (first_taken a) b h.1) [
          | inl k ↦ absurd (h.0 k.0)
          | inr k ↦ (b, k.1, refl)
        ]
      ];
    }

    in_closed : IsClosed w → IsClosed in_with
    in_closed Z = closed_set (out_with event) in_with place (back_in (first_taken a)) (out_closed event Z) refl refl (closed_at w Z place a H.there)

    pub ended_so : IsClosed w → (u : World) → EndNote (out_with event) h u → u ≡ in_with
    ended_so Z u E =
        let one = at_there (place_of h (out_with event).components) (λ i. MatchOption (slice_get (out_with event).components i) ⊥ (λ c. ClosesTo (with_component i (back_in c) (out_with event)) u)) place (out_named event) E in
        let two = at_there (slice_get (out_with event).components place) (λ c. ClosesTo (with_component place (back_in c) (out_with event)) u) (first_taken a) (out_there event) one in
        closed_closes in_with u (in_closed Z) two

pub taken_and_ended : (place : ℕ) (w v u : World) (h : Handle) (taken : Taken) → HasEvents place w → IsClosed w → place_of h w.components ≡ Some place → TakeNote w h (Ok (TookNote taken)) v → EndNote v h u
    → HasEvents place u × IsSameButNotes w u × (notes_at place (look u) + 1 ≡ notes_at place (look w))
taken_and_ended place w v u h taken H Z N T E =
    let K = takes_event place w h H N Z taken v T in
    let s = ended_so place w h H N K.event K.first Z u (subst (λ (y : World). EndNote y h u) K.same E) in (
      subst (HasEvents place) (sym s) (in_events place w h H N K.event K.first),
      subst (IsSameButNotes w) (sym s) (in_apart place w h H N K.event K.first),
      subst (λ (y : World). notes_at place (look y) + 1 ≡ notes_at place (look w)) (sym s) (in_fewer place w h H N K.event K.first),
    )

-- ---- what stays where only notes differ

pub but_notes_each : (w v : World) → IsSameButNotes w v → Each KeepsSeat w v
but_notes_each w v A = record {
  many = A.many;
  each = λ i b e.
      let a = A.each i b e in (
        a.0,
        a.1,
        (record { number = ap number_of a.2; settings = ap (λ (c : Component). c.settings.ports) a.2; links = ap (λ (c : Component). map link_of c.ports) a.2 }, ap (λ (c : Component). c.file) a.2),
      );
}

pub notes_apart : (end : Bool → ℕ → _) (links place : ℕ) (w v : World) → IsLinked end links w → AreStoppedTo place w → IsSameButNotes w v → Sound v → IsLinked end links v × AreStoppedTo place v × KeepsFiles w v
notes_apart end links place w v L A B S =
    let K = but_notes_each w v B in (
      linked_kept end links w v L K S
          (from_places (λ (c : Component). c.work ≡ None) v.components (λ i b e. let a = B.each i b e in ap (λ (c : Component). c.work) a.2 ∙ work_none end links w L i a.0 a.1))
          (from_places (λ (c : Component). c.client_out ≡ false) v.components (λ i b e. let a = B.each i b e in ap (λ (c : Component). c.client_out) a.2 ∙ client_in end links w L i a.0 a.1)),
      record {
        stopped = λ i b l e.
            let a = B.each i b e in
            let R = A.stopped i a.0 l a.1 in
            subst IsStopped (sym a.2) (record { invalid = R.invalid; calm = record { resting = R.calm.resting; ports = R.calm.ports } });
        valid = λ i b l e. let a = B.each i b e in ap (λ (c : Component). is_invalid c.state) a.2 ∙ A.valid i a.0 l a.1;
      },
      files_kept w v K,
    )
