-- What an act gives is with the client.
use Rattle.std.proofs.Common.{◌≡◌, ℕ, Bool, true, false, List, slice_get, Option, Some, None, drop, option_map, Result, Ok, Err, MatchOption, refl, sym, ◌∙◌, ap, subst}
use Rattle.std.specs.Prelude.{length}
use Rattle.omx_types.specs.declared.handle.Handle.{Handle}
use Rattle.omx_types.specs.declared.command.Note.{Note}
use Rattle.omx_types.specs.declared.command.Note.TheVariants.{Told, EmptyDone, FillDone}
use Rattle.omx_types.specs.declared.error.OmxError.{OmxError}
use Rattle.omx_types.specs.declared.error.OmxError.TheVariants as errors
use Rattle.omx_types.specs.declared.error.CallError.TheVariants.{Omx}
use Rattle.il_machine.specs.declared.header.HeaderState.{HeaderState}
use Rattle.il_machine.specs.declared.header.Owner.TheVariants as owners
use Rattle.il_machine.specs.declared.port.Port.{Port}
use Rattle.il_machine.specs.World.{Component, HeaderRecord, World, number_of, place_of, port_of}
use Rattle.il_machine.specs.Headers.{find_header, state_of, state_given, given_to, empty_load, Once}
use Rattle.il_machine.specs.Look.{look}
use Rattle.il_machine.specs.Due.{ClosesTo}
use Rattle.il_machine.specs.Answers.{plain, Resolving, Answers, AnswersAs}
use Rattle.il_machine.specs.Buffers.{Held, held, held_of, AtState, allocate_refusal, use_refusal, client_header, with_header}
use Rattle.il_machine.specs.Notes.{Taken, TakenEvent, TakenEmpty, TakenFilled, Took, TookNote, TakeFrom, with_given, with_client}
use Rattle.il_machine.specs.Census.{note_numbers}
use Rattle.il_machine.specs.Acts.{Act, Reply}
use Rattle.il_machine.specs.Acts as acts
use Rattle.il_machine.specs.Run.{Step, Meets}
use Rattle.il_machine.specs.Sound.{Sound}
use Rattle.machine_laws.proofs.Finding.{found_number, push_last, once_push, changed_same, once_changed}
use Rattle.machine_laws.proofs.Keys.{there_is, is_there}
use Rattle.machine_laws.proofs.Parts.{parts_of}
use Rattle.machine_laws.proofs.Steps.{HandsIn, hands_in, sound_after}
use Rattle.history_laws.specs.ClientHeaders.{IsClients, header_in, given_out, IsGiven}
use Rattle.history_laws.specs.Memory.{memory_of, HasMemory}
use Rattle.history_laws.proofs.Closing.{times_settle}
use Rattle.history_laws.proofs.Carried.{none_made}
use Rattle.history_laws.proofs.Homes.{noted_owner}
use Rattle.history_laws.proofs.Outcome.{IsNamed, same_number}
use Rattle.history_laws.proofs.BufferSteps.{empty_first, filled_first}
use Rattle.history_laws.proofs.ClientHeaders.{settled_clients}

-- ---- an answer Ok

module _ {T E : Type 0} (refuse : OmxError → E) (w v : World) (h : Handle) (x : T) where
  at_place : (o : Option ℕ) (Then : ℕ → Component → Type 0) → place_of h w.components ≡ o → MatchOption o ((Ok x ≡ Err (refuse errors.InvalidComponent)) × (v ≡ w)) (λ i. MatchOption (slice_get w.components i) ⊥ (λ c. Then i c))
      → (i : ℕ) × (c : Component) × IsNamed w h i c × Then i c
  at_place None Then p a = let e = a.0 in absurd cc
  at_place (Some i) Then p a =
      let c = there_is (slice_get w.components i) (λ c. Then i c) a in
      (i, c.0, record { place = p; there = c.1; number = same_number w h i c.0 p c.1 }, c.2)

  pub resolved : (Then : ℕ → Component → Type 0) → Resolving refuse w h (Ok x) v Then → (i : ℕ) × (c : Component) × IsNamed w h i c × Then i c
  resolved Then a = at_place (place_of h w.components) Then refl a

pub accepted : {T : Type 0} (o : Option OmxError) (x : T) (w v : World) (Accepted : T → Type 0) → Answers o (Ok x) w v Accepted → Accepted x
accepted (Some error) x w v Accepted a = let e = a.0 in absurd cc
accepted None x w v Accepted a = a

accepted_as : {T E : Type 0} (refuse : OmxError → E) (o : Option OmxError) (x : T) (w v : World) (Accepted : T → Type 0) → AnswersAs refuse o (Ok x) w v Accepted → Accepted x
accepted_as refuse (Some error) x w v Accepted a = let e = a.0 in absurd cc
accepted_as refuse None x w v Accepted a = a

-- the close-out leaves each header its memory
pub closed_memory : (w v : World) (number : ℕ) (memory : Option (List ℕ)) → Once w.headers → ClosesTo w v → HasMemory w number memory → HasMemory v number memory
closed_memory w v number memory o C H = (times_settle C.steps w v C.by_steps o).memories number ∙ H

-- ---- a header that is made

pub made_clients : (w v : World) (p : Port) (client_memory : Bool) (memory : Option (List ℕ)) (header : Held) → Sound w → Sound v → header ≡ held_of (client_header w.made p client_memory) (empty_load memory) → ClosesTo (with_header (client_header w.made p client_memory) memory w) v
    → IsClients (look v) header.number (client_header w.made p client_memory)
made_clients w v p client_memory memory header S Z e C =
    let s = client_header w.made p client_memory in
    let mid = with_header s memory w in
    let r : HeaderRecord = record { state = s; load = empty_load memory } in
    let none : find_header r.state.number w.headers ≡ None = none_made w (parts_of w S).below in
    let n : header.number ≡ w.made = ap (λ (x : Held). x.number) e in
    let once = once_push w.headers r S.once none in
    subst (λ (k : ℕ). IsClients (look v) k s) (sym n) (settled_clients mid v w.made r Z (times_settle C.steps mid v C.by_steps once) (push_last w.headers r none) refl refl)

made_memory : (w v : World) (p : Port) (client_memory : Bool) (memory : Option (List ℕ)) (header : Held) → Sound w → header ≡ held_of (client_header w.made p client_memory) (empty_load memory)
    → ClosesTo (with_header (client_header w.made p client_memory) memory w) v → HasMemory v header.number header.memory
made_memory w v p client_memory memory header S e C =
    let s = client_header w.made p client_memory in
    let mid = with_header s memory w in
    let r : HeaderRecord = record { state = s; load = empty_load memory } in
    let none : find_header r.state.number w.headers ≡ None = none_made w (parts_of w S).below in
    subst (λ (h : Held). HasMemory v h.number h.memory) (sym e)
    (closed_memory mid v w.made memory (once_push w.headers r S.once none) C (ap (option_map memory_of) (push_last w.headers r none)))

-- no header had its number
none_before : (w : World) (p : Port) (client_memory : Bool) (memory : Option (List ℕ)) (header : Held) → Sound w → header ≡ held_of (client_header w.made p client_memory) (empty_load memory) → (was : HeaderState) → ¬ (IsClients (look w) header.number was)
none_before w p client_memory memory header S e was H =
    let n : header.number ≡ w.made = ap (λ (x : Held). x.number) e in
    let none : find_header header.number w.headers ≡ None = ap (λ (k : ℕ). find_header k w.headers) n ∙ none_made w (parts_of w S).below in
    let a : None ≡ Some was = sym (ap (option_map state_of) none) ∙ H.0 in
    absurd cc

allocated : (w : World) (h : Handle) (port : ℕ) (header : Held) (v : World) → Sound w → Sound v → Step w (acts.AllocateBuffer h port) (acts.Allocated (Ok header)) v → IsGiven w (acts.AllocateBuffer h port) v header
allocated w h port header v S Z a =
    let x = resolved Omx w v h header _ a in
    let y = accepted_as Omx (allocate_refusal (look w) x.1 (port_of x.1 port)) header w v _ x.3 in
    let p = there_is (port_of x.1 port) _ y in
    record {
      state = client_header w.made p.0 false;
      clients = made_clients w v p.0 false None header S Z p.2.0 p.2.1;
      new = none_before w p.0 false None header S p.2.0;
      size = ap (λ (k : Held). k.size) p.2.0;
      memory = made_memory w v p.0 false None header S p.2.0 p.2.1;
      made = refl;
    }

used : (w : World) (h : Handle) (port : ℕ) (bytes : List ℕ) (header : Held) (v : World) → Sound w → Sound v → Step w (acts.UseBuffer h port bytes) (acts.Used (Ok header)) v → IsGiven w (acts.UseBuffer h port bytes) v header
used w h port bytes header v S Z a =
    let x = resolved plain w v h header _ a in
    let y = accepted (use_refusal (look w) x.1 (port_of x.1 port) (length bytes)) header w v _ x.3 in
    let p = there_is (port_of x.1 port) _ y in
    record {
      state = client_header w.made p.0 true;
      clients = made_clients w v p.0 true (Some bytes) header S Z p.2.0 p.2.1;
      new = none_before w p.0 true (Some bytes) header S p.2.0;
      size = ap (λ (k : Held). k.size) p.2.0;
      memory = made_memory w v p.0 true (Some bytes) header S p.2.0 p.2.1;
      made = refl;
    }

-- ---- a header in a note

-- the header was in the note that was taken, and then the close-out followed
record InNote (w v : World) (header : Held) : Type 0 where
  number : ℕ
  was : HeaderRecord
  place : ℕ
  component : Component
  note : Note
  found : find_header number w.headers ≡ Some was
  owner : (was.state).owner ≡ owners.Notice (number_of component)
  is : held was ≡ header
  closes : ClosesTo (with_client number (with_given place component note w)) v

note_taken : (taken told : Taken) (header : Held) → Path (Result Took OmxError) (Ok (TookNote taken)) (Ok (TookNote told)) → header_in taken ≡ Some header → header_in told ≡ Some header
note_taken taken told header e h = let q : taken ≡ told = cc in ap header_in (sym q) ∙ h

in_note : (w v : World) (i : ℕ) (c : Component) (busy : Bool) (oldest : Option Note) (taken : Taken) (header : Held) → Sound w → slice_get w.components i ≡ Some c → slice_get c.notes 0 ≡ oldest → TakeFrom w i c busy oldest (Ok (TookNote taken)) v → header_in taken ≡ Some header → InNote w v header
in_note w v i c true oldest taken header S at o a e = let k = a.0 in absurd cc
in_note w v i c false None taken header S at o a e = let k = a.0 in absurd cc
in_note w v i c false (Some (Told event)) taken header S at o a e = let k = note_taken taken (TakenEvent event) header a.0 e in absurd cc
in_note w v i c false (Some (EmptyDone number)) taken header S at o a e =
    let r = there_is (find_header number w.headers) _ a in
    let k = note_taken taken (TakenEmpty (held r.0)) header r.2.0 e in
    let q : held r.0 ≡ header = cc in
    record {
      number = number;
      was = r.0;
      place = i;
      component = c;
      note = EmptyDone number;
      found = r.1;
      owner = noted_owner w i c number (note_numbers (drop 1 c.notes)) r.0 S at (empty_first c.notes number o) r.1;
      is = q;
      closes = r.2.1;
    }
in_note w v i c false (Some (FillDone number)) taken header S at o a e =
    let r = there_is (find_header number w.headers) _ a in
    let k = note_taken taken (TakenFilled (held r.0)) header r.2.0 e in
    let q : held r.0 ≡ header = cc in
    record {
      number = number;
      was = r.0;
      place = i;
      component = c;
      note = FillDone number;
      found = r.1;
      owner = noted_owner w i c number (note_numbers (drop 1 c.notes)) r.0 S at (filled_first c.notes number o) r.1;
      is = q;
      closes = r.2.1;
    }

-- until then it was the note's
not_clients : (w v : World) (header : Held) (N : InNote w v header) → header.number ≡ N.number → (was : HeaderState) → ¬ (IsClients (look w) header.number was)
not_clients w v header N n was H =
    let known : (look w).headers.header header.number ≡ Some (N.was).state = ap (look w).headers.header n ∙ ap (option_map state_of) N.found in
    let a : Some was ≡ Some (N.was).state = sym H.0 ∙ known in
    let q : was ≡ (N.was).state = cc in
    let o : owners.Client ≡ owners.Notice (number_of N.component) = sym H.1 ∙ (ap (λ (x : HeaderState). x.owner) q ∙ N.owner) in
    absurd cc

note_given : (w v : World) (h : Handle) (header : Held) → Sound w → Sound v → InNote w v header → IsGiven w (acts.TakeNote h) v header
note_given w v h header S Z N =
    let mid = with_client N.number (with_given N.place N.component N.note w) in
    let C = N.closes in
    let n : header.number ≡ N.number = ap (λ (x : Held). x.number) (sym N.is) ∙ found_number N.number w.headers N.was N.found in
    let f = changed_same (given_to owners.Client) (λ r. refl) N.number w.headers N.was N.found in
    let once = once_changed (given_to owners.Client) (λ r. refl) N.number w.headers S.once in
    let s = state_given owners.Client (N.was).state in
    let known : (look w).headers.header N.number ≡ Some (N.was).state = ap (option_map state_of) N.found in
    record {
      state = s;
      clients = subst (λ (k : ℕ). IsClients (look v) k s) (sym n) (settled_clients mid v N.number (given_to owners.Client N.was) Z (times_settle C.steps mid v C.by_steps once) f refl refl);
      new = not_clients w v header N n;
      size = ap (λ (x : Held). x.size) (sym N.is);
      memory = subst (λ (k : ℕ). HasMemory v k header.memory) (sym n)
          (closed_memory mid v N.number header.memory once C (ap (option_map memory_of) f ∙ ap (λ (x : Held). Some x.memory) N.is));
      made = subst (λ (k : ℕ). AtState k (look w) (λ was. s ≡ state_given owners.Client was)) (sym n)
          (is_there ((look w).headers.header N.number) (λ was. s ≡ state_given owners.Client was) (N.was).state known refl);
    }

took : (w : World) (h : Handle) (taken : Taken) (header : Held) (v : World) → Sound w → Sound v → Step w (acts.TakeNote h) (acts.Took (Ok (TookNote taken))) v → header_in taken ≡ Some header → IsGiven w (acts.TakeNote h) v header
took w h taken header v S Z a e =
    let x = resolved plain w v h (TookNote taken) _ a in
    note_given w v h header S Z (in_note w v x.0 x.1 x.1.client_out (slice_get x.1.notes 0) taken header S (x.2).there refl x.3 e)

-- ---- all

given : (w : World) (a : Act) (r : Reply) (v : World) (header : Held) → Sound w → Sound v → Step w a r v → given_out a r ≡ Some header → IsGiven w a v header
given w (acts.AllocateBuffer h port) (acts.Allocated (Ok x)) v header S Z s e = let q : x ≡ header = cc in subst (λ (k : Held). IsGiven w (acts.AllocateBuffer h port) v k) q (allocated w h port x v S Z s)
given w (acts.UseBuffer h port bytes) (acts.Used (Ok x)) v header S Z s e = let q : x ≡ header = cc in subst (λ (k : Held). IsGiven w (acts.UseBuffer h port bytes) v k) q (used w h port bytes x v S Z s)
given w (acts.TakeNote h) (acts.Took (Ok (TookNote taken))) v header S Z s e = took w h taken header v S Z s e
given w _ _ v header S Z s e = absurd cc

pub gives_after : (w : World) (a : Act) (r : Reply) (v : World) (header : Held) → Sound w → HandsIn w a → Step w a r v → given_out a r ≡ Some header → IsGiven w a v header
gives_after w a r v header S M s e = given w a r v header S (sound_after w v a r M s S) s e

pub steps_give : (w : World) (a : Act) (r : Reply) (v : World) (header : Held) → Sound w → Meets w a → Step w a r v → given_out a r ≡ Some header → IsGiven w a v header
steps_give w a r v header S M s e = gives_after w a r v header S (hands_in w a M) s e
