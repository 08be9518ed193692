-- Headers go into notes, and out of them to the client.
use Rattle.std.proofs.Common.{◌≡◌, ◌≢◌, inl, inr, ℕ, ◌+◌, ◌≤◌, Bool, true, false, cond, List, [], ◌∷◌, ◌++◌, drop, set, slice_get, Some, None, refl, sym, ◌∙◌, ap, eqb-true, eq-eqb, ne_eqb, arith}
use Rattle.std.proofs.lemmas.Bool.{cases_eq}
use Rattle.std.proofs.lemmas.List.Sums.{sum_by-cons}
use Rattle.omx_types.specs.declared.command.Event.{Event}
use Rattle.omx_types.specs.declared.command.Note.{Note}
use Rattle.omx_types.specs.declared.command.Note.TheVariants.{Told, EmptyDone, FillDone}
use Rattle.il_machine.specs.declared.port.PortKey.{PortKey}
use Rattle.il_machine.specs.declared.port.Port.{Port}
use Rattle.il_machine.specs.declared.header.Owner.{Owner}
use Rattle.il_machine.specs.declared.header.Owner.TheVariants as owners
use Rattle.il_machine.specs.World.{Component, HeaderRecord, World, number_of, port_of, with_component, noted}
use Rattle.il_machine.specs.Headers.{seen, find_header, weight, is_notice_of, changed, cleared, given_to}
use Rattle.il_machine.specs.Ports.{is_input_port}
use Rattle.il_machine.specs.Room.{is_event, events_in}
use Rattle.il_machine.specs.Census.{note_numbers, times}
use Rattle.il_machine.specs.Notes.{first_taken, with_given, with_client, back_in}
use Rattle.il_machine.specs.Flow.{done_note, front_noticed}
use Rattle.il_machine.specs.Sound.{Sound, IsSound, IsOwnedSo, AreNoted, AreRising}
use Rattle.machine_laws.proofs.Every.{at_set}
use Rattle.machine_laws.proofs.Lookups.{rising_set, same_place, port_parts, port_there_at}
use Rattle.machine_laws.proofs.Replacing.{IsReplaced, replaced_changed}
use Rattle.machine_laws.proofs.Ties.{tied_replaced, for_client}
use Rattle.machine_laws.proofs.PortChanges.{kept_itself}
use Rattle.machine_laws.proofs.Parts.{Parts, Noted, ports_in_list, parts_of, sound_from}
use Rattle.machine_laws.proofs.Works.{works_kept, works_set, keeps_works_but}
use Rattle.machine_laws.proofs.Units.{IsAside, IsFair}
use Rattle.machine_laws.specs.Changes.{IsChange}
use Rattle.machine_laws.proofs.Change.{tied_set, each_set, lawful_set, aside_there, resources_changed, sound_component}
use Rattle.machine_laws.proofs.Headers.{noticed_at, noticed_found, noticed_else, worked_found}
use Rattle.machine_laws.proofs.Rooms.{costs, costs_same, used_noted, numbers_push, lawful_of, lawful_noted, sound_with, aside_noted}
use Rattle.machine_laws.proofs.Listed.{IsIn, first_in, todo_in, times_append, times_self, times_else, weighs_one}

-- the notes of the one component that changes, and those of all others
noted_both : (next i : ℕ) (cs : List Component) (hs ks : List HeaderRecord) (c d : Component) → AreRising 0 cs next → slice_get cs i ≡ Some c
    → Noted cs hs → AreNoted (seen ks) d → ((k m : ℕ) → k ≢ number_of c → noticed_at k m ks ≡ noticed_at k m hs) → Noted (set cs i d) ks
noted_both next i cs hs ks c d R t N own others j x e = elim (at_set cs i j d x e) [
  | inl s ↦ rw s.1 own
  | inr s ↦
      let apart : number_of x ≢ number_of c = λ n. s.0 (same_place 0 next j i cs x c R s.1 t n) in
      λ m. N j x s.1 m ∙ ap weight (sym (others (number_of x) m apart))
]

-- ---- into a note

done_numbers : (b : Bool) (n : ℕ) → note_numbers (done_note b n ∷ []) ≡ n ∷ []
done_numbers true n = refl
done_numbers false n = refl

no_event : (b : Bool) (n : ℕ) → weight (is_event (done_note b n)) ≡ 0
no_event true n = refl
no_event false n = refl

sound_done : (b : Bool) (n : ℕ) (c : Component) → IsSound c → IsSound (noted (done_note b n) c)
sound_done b n c S =
    let u = used_noted (done_note b n) c in
    let z = no_event b n in
    sound_with (noted (done_note b n) c) (lawful_noted (done_note b n) c (lawful_of c S)) (omega (arith, S.room))

abbrev into_note : ℕ → HeaderRecord → HeaderRecord
into_note k r = given_to (owners.Notice k) (cleared r)

own_note : (k n : ℕ) (b : Bool) (hs : List HeaderRecord) (c : Component) (r : HeaderRecord) → number_of c ≡ k → find_header n hs ≡ Some r → is_notice_of k r.state.owner ≡ false
    → IsReplaced n r (into_note k r) hs (changed n (into_note k) hs) → AreNoted (seen hs) c → AreNoted (seen (changed n (into_note k) hs)) (noted (done_note b n) c)
own_note k n b hs c r kn f o R A m =
    let ks : List HeaderRecord = changed n (into_note k) hs in
    let e : note_numbers (c.notes ++ done_note b n ∷ []) ≡ note_numbers c.notes ++ n ∷ [] = numbers_push c.notes (done_note b n) ∙ rw (done_numbers b n) refl in
    let a = times_append m (note_numbers c.notes) (n ∷ []) in
    let was : times m (note_numbers c.notes) ≡ weight (noticed_at k m hs) = rw kn at (A m) in
    let goal : times m (note_numbers c.notes ++ n ∷ []) ≡ weight (noticed_at k m ks) = elim (cases_eq m n) [
      | inl q ↦
          let s = times_self n [] in
          let z : weight (noticed_at k m hs) ≡ 0 = rw (q, noticed_found k n hs r f, o) refl in
          let y : weight (noticed_at k m ks) ≡ 1 = rw (q, noticed_found k n ks (into_note k r) R.here, eq-eqb k k refl) refl in
          let v : times m (n ∷ []) ≡ 1 = rw q s in
          omega arith
      | inr d ↦
          let s = times_else m n [] (λ x. d (sym x)) in
          let y : noticed_at k m ks ≡ noticed_at k m hs = noticed_else k m hs ks (R.others m d) in
          rw y (omega arith)
    ] in
    rw (e, kn) goal

port_not_noticed : (k : ℕ) (key : PortKey) (owner : Owner) → owner ≡ owners.Port key → is_notice_of k owner ≡ false
port_not_noticed k key owner e = rw e refl

-- A header of a client port's list goes to a note of the port's component.
parts_noticed : (waits after i : ℕ) (cs : List Component) (hs : List HeaderRecord) (numbered made : ℕ) (c : Component) (index : ℕ) (p : Port) (b : Bool) (n : ℕ)
    → Parts cs hs numbered made → slice_get cs i ≡ Some c → IsFair 0 waits after c (noted (done_note b n) c) → port_of c index ≡ Some p → p.state.link ≡ None → IsIn p.key hs n
    → Parts (set cs i (noted (done_note b n) c)) (changed n (into_note (number_of c)) hs) numbered made
parts_noticed waits after i cs hs numbered made c index p b n P t F e l I =
    let k : ℕ = number_of c in
    let d : Component = noted (done_note b n) c in
    let ks : List HeaderRecord = changed n (into_note k) hs in
    let r : HeaderRecord = I.header in
    let R = replaced_changed (into_note k) (λ x. refl) n hs r P.once I.found in
    let at = port_there_at numbered i cs c index p P.rising t e in
    let S = P.tied.placed n r I.found in
    let O : IsOwnedSo r.state (owners.Port p.key) = rw I.owner at S.owner in
    let fc = for_client (ports_in_list cs) hs p.key p r.state P.tied at l S O.0 in
    let key = (port_parts c index p e).key in
    let comp : r.state.port.component ≡ k = ap (λ x. x.component) fc.0 ∙ ap (λ x. x.component) key in
    let T = tied_replaced (ports_in_list cs) n r (into_note k r) hs ks P.tied R (record { port = refl; peer = refl; home = refl }) (refl, fc.1, comp) in
    record {
      rising = rising_set 0 numbered i cs c d P.rising t refl;
      components = each_set IsSound i cs d P.components (sound_done b n c (P.components i c t));
      tied = tied_set numbered i cs ks c d P.rising t refl (λ x. kept_itself ks (port_of c x)) T;
      noted = noted_both numbered i cs hs ks c d P.rising t P.noted
          (own_note k n b hs c r refl I.found (port_not_noticed k p.key r.state.owner I.owner) R (P.noted i c t))
          (λ j m a. elim (cases_eq m n) [
            | inl q ↦ rw (q, noticed_found j n ks (into_note k r) R.here, noticed_found j n hs r I.found, port_not_noticed j p.key r.state.owner I.owner) (ne_eqb k j (λ x. a (sym x)))
            | inr x ↦ noticed_else j m hs ks (R.others m x)
          ]);
      works = works_set i cs ks c d t refl refl (works_kept cs hs ks
          (keeps_works_but n hs ks R.others (λ j. worked_found j n hs r I.found ∙ rw I.owner refl) (λ j. worked_found j n ks (into_note k r) R.here)) P.works);
      lawful = lawful_set 0 waits after i cs c d t F P.lawful;
      once = R.once;
      below = λ m x f. elim (cases_eq m n) [
        | inl q ↦ rw q (P.below n r I.found)
        | inr y ↦ P.below m x (sym (R.others m y) ∙ f)
      ];
    }

noticed_front : (w : World) (i : ℕ) (c : Component) (index : ℕ) (p : Port) (ns : List ℕ) → Sound w → slice_get w.components i ≡ Some c → port_of c index ≡ Some p → p.state.link ≡ None
    → ns ≡ (seen w.headers).todo p.key → Sound (front_noticed i c p ns w)
noticed_front w i c index p [] S t e l q = S
noticed_front w i c index p (n ∷ rest) S t e l q =
    let P = parts_of w S in
    let d : Component = noted (done_note (is_input_port p) n) c in
    let F = aside_there w i c d S t (aside_noted (done_note (is_input_port p) n) c) in
    let I = first_in p.key w.headers ((seen w.headers).todo p.key) rest n (todo_in p.key w.headers P.once) (sym q) in
    sound_from (front_noticed i c p (n ∷ rest) w) (parts_noticed w.waits w.waits i w.components w.headers w.numbered w.made c index p (is_input_port p) n P t F e l I)
    (resources_changed w i c d S t refl F)

-- the front of a client port's todo is queued as a note
pub sound_noticed : (w : World) (i : ℕ) (c : Component) (index : ℕ) (p : Port) → Sound w → slice_get w.components i ≡ Some c → port_of c index ≡ Some p → p.state.link ≡ None
    → Sound (front_noticed i c p ((seen w.headers).todo p.key) w)
sound_noticed w i c index p S t e l = noticed_front w i c index p ((seen w.headers).todo p.key) S t e l refl

-- ---- out of a note

fewer_events : (notes : List Note) → events_in (drop 1 notes) ≤ events_in notes
fewer_events [] = omega arith
fewer_events (x ∷ notes) = let s = sum_by-cons (λ y. cond (is_event y) 1 0) x notes in omega arith

sound_first_taken : (c : Component) → IsSound c → IsSound (first_taken c)
sound_first_taken c S =
    let k : costs (first_taken c) ≡ costs c = costs_same c (first_taken c) c.commands refl in
    let f = fewer_events c.notes in
    sound_with (first_taken c) (record { whole = S.whole; ports = S.ports; settings = S.settings; fit = S.fit; file = S.file; cause = S.cause; mark = S.mark; commands = S.commands }) (omega (arith, S.room))

pub first_is : (notes : List Note) (note : Note) → slice_get notes 0 ≡ Some note → notes ≡ note ∷ drop 1 notes
first_is [] note e = absurd cc
first_is (x ∷ notes) note e = let s : x ≡ note = cc in ap (λ (y : Note). y ∷ notes) s

aside_first_taken : (c : Component) → IsAside c (first_taken c)
aside_first_taken c = record { keeps = record { kind = refl; weights = refl; count = refl; work = refl }; state = refl; pending = refl; holds = refl; waiting = refl; part = refl; held = λ test h. h }

-- an event is given
pub sound_given : (w : World) (i : ℕ) (c : Component) (event : Event) → Sound w → slice_get w.components i ≡ Some c → slice_get c.notes 0 ≡ Some (Told event) → Sound (with_given i c (Told event) w)
sound_given w i c event S t e =
    let n : note_numbers (first_taken c).notes ≡ note_numbers c.notes = rw (first_is c.notes (Told event) e) refl in
    let I = sound_first_taken c ((parts_of w S).components i c t) in
    let C : IsChange c (first_taken c) = record { handle = refl; ports = refl; links = refl; notes = n } in
    let F = aside_there w i c (first_taken c) S t (aside_first_taken c) in
    let P = parts_of (with_component i (first_taken c) w) (sound_component w i c (first_taken c) S t C I F) in
    sound_from (with_given i c (Told event) w) P (resources_changed w i c (first_taken c) S t refl F)

abbrev to_client : HeaderRecord → HeaderRecord
to_client r = given_to owners.Client r

-- the note is of the header
pub record IsNoteOf (note : Note) (n : ℕ) : Type 0 where
  pub numbers : (notes : List Note) → note_numbers (note ∷ notes) ≡ n ∷ note_numbers notes

pub notice_is : (k : ℕ) (owner : Owner) → is_notice_of k owner ≡ true → owner ≡ owners.Notice k
notice_is k owners.Client h = absurd cc
notice_is k (owners.Port key) h = absurd cc
notice_is k (owners.Work c) h = absurd cc
notice_is k (owners.Notice c) h = ap (λ (x : ℕ). owners.Notice x) (eqb-true c k h)

own_taken : (k n : ℕ) (hs : List HeaderRecord) (c : Component) (note : Note) (r : HeaderRecord) → number_of c ≡ k → slice_get c.notes 0 ≡ Some note → IsNoteOf note n
    → find_header n hs ≡ Some r → r.state.owner ≡ owners.Notice k
    → IsReplaced n r (to_client r) hs (changed n to_client hs) → AreNoted (seen hs) c → AreNoted (seen (changed n to_client hs)) (first_taken c)
own_taken k n hs c note r kn e Q f o R A m =
    let ks : List HeaderRecord = changed n to_client hs in
    let rest : List ℕ = note_numbers (drop 1 c.notes) in
    let q : note_numbers c.notes ≡ n ∷ rest = rw (first_is c.notes note e) (Q.numbers (drop 1 c.notes)) in
    let was : times m (n ∷ rest) ≡ weight (noticed_at k m hs) = rw (kn, q) at (A m) in
    let goal : times m rest ≡ weight (noticed_at k m ks) = elim (cases_eq m n) [
      | inl x ↦
          let s : times m (n ∷ rest) ≡ 1 + times m rest = rw x (times_self n rest) in
          let z : weight (noticed_at k m hs) ≡ 1 = rw (x, noticed_found k n hs r f, o, eq-eqb k k refl) refl in
          let y : weight (noticed_at k m ks) ≡ 0 = rw (x, noticed_found k n ks (to_client r) R.here) refl in
          omega arith
      | inr d ↦
          let s = times_else m n rest (λ x. d (sym x)) in
          let y : noticed_at k m ks ≡ noticed_at k m hs = noticed_else k m hs ks (R.others m d) in
          rw y (omega arith)
    ] in
    rw kn goal

pub sound_taken : (w : World) (i : ℕ) (c : Component) (note : Note) (n : ℕ) → Sound w → slice_get w.components i ≡ Some c → slice_get c.notes 0 ≡ Some note → IsNoteOf note n
    → Sound (with_client n (with_given i c note w))
sound_taken w i c note n S t e Q =
    let P = parts_of w S in
    let k : ℕ = number_of c in
    let cs : List Component = w.components in
    let hs : List HeaderRecord = w.headers in
    let ks : List HeaderRecord = changed n to_client hs in
    let d : Component = first_taken c in
    let F = aside_there w i c d S t (aside_first_taken c) in
    let q : note_numbers c.notes ≡ n ∷ note_numbers (drop 1 c.notes) = rw (first_is c.notes note e) (Q.numbers (drop 1 c.notes)) in
    let one : 1 ≤ weight (noticed_at k n hs) = let a = P.noted i c t n in let b : times n (n ∷ note_numbers (drop 1 c.notes)) ≡ weight (noticed_at k n hs) = rw q at a in omega (arith, times_self n (note_numbers (drop 1 c.notes))) in
    let r = weighs_one (find_header n hs) (λ s. is_notice_of k s.owner) one in
    let o : (r.0).state.owner ≡ owners.Notice k = notice_is k (r.0).state.owner r.2 in
    let R = replaced_changed to_client (λ x. refl) n hs r.0 P.once r.1 in
    let O : IsOwnedSo (r.0).state (owners.Notice k) = rw o at (P.tied.placed n r.0 r.1).owner in
    let T = tied_replaced (ports_in_list cs) n r.0 (to_client r.0) hs ks P.tied R (record { port = refl; peer = refl; home = refl }) (refl, O.1) in
    sound_from (with_client n (with_given i c note w)) (record {
      rising = rising_set 0 w.numbered i cs c d P.rising t refl;
      components = each_set IsSound i cs d P.components (sound_first_taken c (P.components i c t));
      tied = tied_set w.numbered i cs ks c d P.rising t refl (λ x. kept_itself ks (port_of c x)) T;
      noted = noted_both w.numbered i cs hs ks c d P.rising t P.noted
          (own_taken k n hs c note r.0 refl e Q r.1 o R (P.noted i c t))
          (λ j m a. elim (cases_eq m n) [
            | inl x ↦ rw (x, noticed_found j n ks (to_client r.0) R.here, noticed_found j n hs r.0 r.1, o) (sym (ne_eqb k j (λ y. a (sym y))))
            | inr x ↦ noticed_else j m hs ks (R.others m x)
          ]);
      works = works_set i cs ks c d t refl refl (works_kept cs hs ks
          (keeps_works_but n hs ks R.others (λ j. worked_found j n hs r.0 r.1 ∙ rw o refl) (λ j. worked_found j n ks (to_client r.0) R.here)) P.works);
      lawful = lawful_set 0 w.waits w.waits i cs c d t F P.lawful;
      once = R.once;
      below = λ m x f. elim (cases_eq m n) [
        | inl y ↦ rw y (P.below n r.0 r.1)
        | inr y ↦ P.below m x (sym (R.others m y) ∙ f)
      ];
    }) (resources_changed w i c d S t refl F)

-- ---- the client object

sound_back_in : (c : Component) → IsSound c → IsSound (back_in c)
sound_back_in c S =
    let k : costs (back_in c) ≡ costs c = costs_same c (back_in c) c.commands refl in
    sound_with (back_in c) (record { whole = S.whole; ports = S.ports; settings = S.settings; fit = S.fit; file = S.file; cause = S.cause; mark = S.mark; commands = S.commands }) (omega (arith, S.room))

pub sound_ended : (w : World) (i : ℕ) (c : Component) → Sound w → slice_get w.components i ≡ Some c → Sound (with_component i (back_in c) w)
sound_ended w i c S t = sound_component w i c (back_in c) S t (record { handle = refl; ports = refl; links = refl; notes = refl }) (sound_back_in c ((parts_of w S).components i c t))
    (aside_there w i c (back_in c) S t
    (record { keeps = record { kind = refl; weights = refl; count = refl; work = refl }; state = refl; pending = refl; holds = refl; waiting = refl; part = refl; held = λ test h. h }))

pub note_emptied : (n : ℕ) → IsNoteOf (EmptyDone n) n
note_emptied n = record { numbers = λ notes. refl }

pub note_filled : (n : ℕ) → IsNoteOf (FillDone n) n
note_filled n = record { numbers = λ notes. refl }
