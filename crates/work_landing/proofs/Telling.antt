-- What a component is told, one after another.
use Rattle.std.proofs.Common.{◌≡◌, Bool, true, false, List, [], ◌∷◌, ◌++◌, map, refl, ap, sym, ◌∙◌, append_assoc, append-nil}
use Rattle.std.proofs.lemmas.List.{map-append}
use Rattle.omx_types.specs.declared.command.Event.{Event}
use Rattle.omx_types.specs.declared.command.Note.{Note}
use Rattle.omx_types.specs.declared.command.Note.TheVariants as notes
use Rattle.il_machine.specs.World.{Component, told}
use Rattle.il_machine.specs.Flow.{done_note}
use Rattle.il_machine.specs.Whole.{Noticed}
use Rattle.header_core.specs.BufferHeader.{BufferHeader}
use Rattle.note_queues.specs.declared.taken.Taken.{Taken as Queued}
use Rattle.note_queues.specs.declared.taken.Taken.TheVariants.{Told, EmptyDone, FillDone}
use Rattle.note_queues.specs.Queues.{header_note, note_of, noted}
use Rattle.il_component.specs.Entries.{Entry, KeepsNotices, component_of, held_in, noticed_of}
use Rattle.work_landing.specs.Returning.{GetsNotes, with_notes}

held_append : (xs ys : List Queued) → held_in (xs ++ ys) ≡ held_in xs ++ held_in ys
held_append [] ys = refl
held_append (Told event ∷ xs) ys = held_append xs ys
held_append (EmptyDone header ∷ xs) ys = ap (λ (hs : List Noticed). noticed_of header ∷ hs) (held_append xs ys)
held_append (FillDone header ∷ xs) ys = ap (λ (hs : List Noticed). noticed_of header ∷ hs) (held_append xs ys)

note_is : (b : Bool) (h : BufferHeader) → note_of (header_note b h) ≡ done_note b h.held.number
note_is true h = refl
note_is false h = refl

held_is : (b : Bool) (h : BufferHeader) → held_in (header_note b h ∷ []) ≡ noticed_of h ∷ []
held_is true h = refl
held_is false h = refl

twice : (c : Component) (a b : List Note) → with_notes b (with_notes a c) ≡ with_notes (a ++ b) c
twice c a b = ap (λ (ns : List Note). record c { notes = ns }) (append_assoc c.notes a b)

none_more : (c : Component) → c ≡ with_notes [] c
none_more c = ap (λ (ns : List Note). record c { notes = ns }) (sym (append-nil c.notes))

module _ {C : Type 0} where
  pub gets_none : (e : Entry C) → GetsNotes e e [] []
  gets_none e = record { component = none_more (component_of e); client = refl; headers = sym (append-nil (held_in e.queues.notes)) }

  pub gets_then : (a b c : Entry C) (n m : List Note) (h k : List Noticed) → GetsNotes a b n h → GetsNotes b c m k → GetsNotes a c (n ++ m) (h ++ k)
  gets_then a b c n m h k A B = record {
    component = B.component ∙ (ap (with_notes m) A.component ∙ twice (component_of a) n m);
    client = B.client ∙ A.client;
    headers = B.headers ∙ (ap (λ (hs : List Noticed). hs ++ k) A.headers ∙ append_assoc (held_in a.queues.notes) h k);
  }

  pub gets_event : (e d : Entry C) (event : Event) → component_of d ≡ told event (component_of e) → KeepsNotices e d → GetsNotes e d (notes.Told event ∷ []) []
  gets_event e d event c K = record { component = c; client = K.client; headers = K.headers ∙ sym (append-nil (held_in e.queues.notes)) }

  pub gets_header : (e d : Entry C) (input : Bool) (header : BufferHeader) → d ≡ record e { queues = noted (header_note input header) e.queues } → GetsNotes e d (done_note input header.held.number ∷ []) (noticed_of header ∷ [])
  gets_header e d input header q =
      let x : map note_of (e.queues.notes ++ header_note input header ∷ []) ≡ map note_of e.queues.notes ++ done_note input header.held.number ∷ [] =
      map-append note_of e.queues.notes (header_note input header ∷ []) ∙ ap (λ (y : Note). map note_of e.queues.notes ++ y ∷ []) (note_is input header) in
      record {
        component = ap component_of q ∙ ap (λ (ns : List Note). record (component_of e) { notes = ns }) x;
        client = ap (λ (y : Entry C). y.queues.client) q;
        headers = ap (λ (y : Entry C). held_in y.queues.notes) q ∙ (held_append e.queues.notes (header_note input header ∷ []) ∙ ap (λ (hs : List Noticed). held_in e.queues.notes ++ hs) (held_is input header));
      }

  -- nothing but the notes is told apart
  pub gets_as : (e d : Entry C) (n m : List Note) (h k : List Noticed) → n ≡ m → h ≡ k → GetsNotes e d n h → GetsNotes e d m k
  gets_as e d n m h k p q G = record {
    component = G.component ∙ ap (λ (ns : List Note). with_notes ns (component_of e)) p;
    client = G.client;
    headers = G.headers ∙ ap (λ (hs : List Noticed). held_in e.queues.notes ++ hs) q;
  }
