-- What the headers of a work are in a flat list, once they landed.
use Rattle.std.proofs.Common.{◌≡◌, ℕ, ◌+◌, true, List, [], ◌∷◌, Option, Some, None, MatchOption, All, refl, sym, ◌∙◌, ap}
use Rattle.std.proofs.lemmas.Bool.{eqb-false}
use Rattle.std.proofs.lemmas.List.Elements.{All-append, All-nil, All-cons}
use Rattle.il_machine.specs.declared.header.Owner.TheVariants as owners
use Rattle.il_machine.specs.declared.header.Spot.TheVariants.{TodoFront, DoneBack}
use Rattle.il_machine.specs.World.{Component, HeaderRecord, Load, Stream, number_of}
use Rattle.il_machine.specs.Headers.{find_header, given_to, loaded, is_notice, put_at, Once}
use Rattle.il_machine.specs.Buffers.{held}
use Rattle.il_machine.specs.Claims.{CarriedHeader}
use Rattle.il_machine.specs.Stepping.{WorkDone}
use Rattle.il_machine.specs.Finishing.{Landing, Again, Onward, Noted, all_landed, key_at, landed_at, landing, load_after}
use Rattle.il_machine.specs.Whole.{Noticed}
use Rattle.machine_laws.proofs.Finding.{found_number}
use Rattle.machine_laws.proofs.Replacing.{IsReplaced, replaced_changed, replaced_put}
use Rattle.header_core.specs.BufferHeader.{BufferHeader, is_clients}
use Rattle.work_landing.specs.Places.{HaveOwnHeaders, EachFrom, IsOther, carried, carried_from}
use Rattle.work_landing.specs.Landed.{all_notices, noticed_as, noticed_if, with_load}

-- ---- one header lands

-- the record of the header, and nothing else, is another one
pub record IsLanded (to : Landing) (c : Component) (load : Load) (n : ℕ) (r : HeaderRecord) (hs ks : List HeaderRecord) : Type 0 where
  pub now : HeaderRecord
  pub replaced : IsReplaced n r now hs ks
  pub noted : to ≡ Noted → now ≡ given_to (owners.Notice (number_of c)) (loaded load r)

one_landed : (to : Landing) (c : Component) (x : CarriedHeader) (load : Load) (hs : List HeaderRecord) (r : HeaderRecord) → Once hs → find_header x.header.number hs ≡ Some r
    → IsLanded to c load x.header.number r hs (landed_at to c x load hs)
one_landed Again c x load hs r o f = record {
  now = put_at (key_at c x) TodoFront (loaded load r);
  replaced = replaced_put (key_at c x) TodoFront (loaded load) (λ y. refl) x.header.number hs r o f;
  noted = λ e. absurd cc;
}
one_landed Onward c x load hs r o f = record {
  now = put_at (key_at c x) DoneBack (loaded load r);
  replaced = replaced_put (key_at c x) DoneBack (loaded load) (λ y. refl) x.header.number hs r o f;
  noted = λ e. absurd cc;
}
one_landed Noted c x load hs r o f = record {
  now = given_to (owners.Notice (number_of c)) (loaded load r);
  replaced = replaced_changed (λ y. given_to (owners.Notice (number_of c)) (loaded load y)) (λ y. refl) x.header.number hs r o f;
  noted = λ e. refl;
}

-- ---- the headers of a work are in the list

-- the header is that of its number, with the key
pub record IsOneOf (key : ℕ) (hs : List HeaderRecord) (h : BufferHeader) : Type 0 where
  pub key_is : h.key ≡ key
  pub it : HeaderRecord
  pub found : find_header h.held.number hs ≡ Some it
  pub size : it.state.size ≡ h.held.size
  pub memory : it.state.client_memory ≡ is_clients h.store

abbrev pub AreOf : ℕ → List HeaderRecord → ℕ → List (Option BufferHeader) → Type 0
AreOf key hs port places = EachFrom (λ port h. IsOneOf key hs h) port places

still_one : (key n : ℕ) (r s : HeaderRecord) (hs ks : List HeaderRecord) (x : BufferHeader) → IsReplaced n r s hs ks → IsOther n x → IsOneOf key hs x → IsOneOf key ks x
still_one key n r s hs ks x R other I =
    record { key_is = I.key_is; it = I.it; found = R.others x.held.number (eqb-false x.held.number n other) ∙ I.found; size = I.size; memory = I.memory }

still_of : (key n : ℕ) (r s : HeaderRecord) (hs ks : List HeaderRecord) (port first : ℕ) (places : List (Option BufferHeader)) → IsReplaced n r s hs ks → EachFrom (λ port x. IsOther n x) first places → AreOf key hs port places
    → AreOf key ks port places
still_of key n r s hs ks port first [] R others A = tt
still_of key n r s hs ks port first (None ∷ places) R others A = (tt, still_of key n r s hs ks (port + 1) (first + 1) places R others.1 A.1)
still_of key n r s hs ks port first (Some x ∷ places) R others A =
    (still_one key n r s hs ks x R others.0 A.0, still_of key n r s hs ks (port + 1) (first + 1) places R others.1 A.1)

module _ (c : Component) (s : Stream) (done : WorkDone) (key : ℕ) where
  abbrev after : ℕ → List (Option BufferHeader) → List HeaderRecord → List HeaderRecord
  after port places hs = all_landed c s done (carried_from port places) hs

  abbrev first : ℕ → BufferHeader → List HeaderRecord → List HeaderRecord
  first port h hs = landed_at (landing c s done (carried port h)) c (carried port h) (load_after c s done (carried port h)) hs

  lands : (port : ℕ) (h : BufferHeader) (hs : List HeaderRecord) (o : Once hs) (I : IsOneOf key hs h) → IsLanded (landing c s done (carried port h)) c (load_after c s done (carried port h)) h.held.number I.it hs (first port h hs)
  lands port h hs o I = one_landed (landing c s done (carried port h)) c (carried port h) (load_after c s done (carried port h)) hs I.it o I.found

  -- each other header stays
  pub landed_else : (port : ℕ) (places : List (Option BufferHeader)) (hs : List HeaderRecord) (m first_port : ℕ) → Once hs → AreOf key hs port places → HaveOwnHeaders places → EachFrom (λ port x. IsOther m x) first_port places
      → find_header m (after port places hs) ≡ find_header m hs
  landed_else port [] hs m q o A P E = refl
  landed_else port (None ∷ places) hs m q o A P E = landed_else (port + 1) places hs m (q + 1) o A.1 P.1 E.1
  landed_else port (Some h ∷ places) hs m q o A P E =
      let L = lands port h hs o A.0 in
      let R = L.replaced in
      landed_else (port + 1) places (first port h hs) m (q + 1) R.once (still_of key h.held.number (A.0).it L.now hs (first port h hs) (port + 1) 0 places R P.0 A.1) P.1 E.1
      ∙ R.others m (λ e. eqb-false h.held.number m E.0 (sym e))

  -- ---- those that go to the client

  abbrev IsTold : List HeaderRecord → Noticed → Type 0
  IsTold hs h = (h.key ≡ key) × MatchOption (find_header h.held.number hs) ⊥ (λ r. (held r ≡ h.held) × (is_notice r.state.owner ≡ true) × (r.state.client_memory ≡ h.client_memory))

  told_one : (to : Landing) (load : Load) (h : BufferHeader) (hs ks : List HeaderRecord) (I : IsOneOf key hs h) (now : HeaderRecord) → (to ≡ Noted → now ≡ given_to (owners.Notice (number_of c)) (loaded load I.it))
      → find_header h.held.number ks ≡ Some now → All (IsTold ks) (noticed_if to (with_load load h))
  told_one Again load h hs ks I now e f = All-nil (IsTold ks)
  told_one Onward load h hs ks I now e f = All-nil (IsTold ks)
  told_one Noted load h hs ks I now e f =
      let g : find_header h.held.number ks ≡ Some (given_to (owners.Notice (number_of c)) (loaded load I.it)) = f ∙ ap Some (e refl) in
      let m : I.it.state.number ≡ h.held.number = found_number h.held.number hs I.it I.found in
      let z = I.size in
      All-cons (IsTold ks) (noticed_as (with_load load h)) [] (I.key_is, rw g ((λ j. record { number = m j; size = z j; content = load.content; flags = load.flags; mark = load.mark; memory = load.memory }), refl, I.memory)) (All-nil (IsTold ks))

  -- each of them is one of the list's, in a note
  pub all_told : (port : ℕ) (places : List (Option BufferHeader)) (hs : List HeaderRecord) → Once hs → AreOf key hs port places → HaveOwnHeaders places → All (IsTold (after port places hs)) (all_notices c s done port places)
  all_told port [] hs o A P = All-nil (IsTold hs)
  all_told port (None ∷ places) hs o A P = all_told (port + 1) places hs o A.1 P.1
  all_told port (Some h ∷ places) hs o A P =
      let L = lands port h hs o A.0 in
      let R = L.replaced in
      let B = still_of key h.held.number (A.0).it L.now hs (first port h hs) (port + 1) 0 places R P.0 A.1 in
      let f : find_header h.held.number (after (port + 1) places (first port h hs)) ≡ Some L.now = landed_else (port + 1) places (first port h hs) h.held.number 0 R.once B P.1 P.0 ∙ R.here in
      All-append (IsTold (after (port + 1) places (first port h hs))) (noticed_if (landing c s done (carried port h)) (with_load (load_after c s done (carried port h)) h)) (all_notices c s done (port + 1) places)
      (told_one (landing c s done (carried port h)) (load_after c s done (carried port h)) h hs (after (port + 1) places (first port h hs)) A.0 L.now L.noted f)
      (all_told (port + 1) places (first port h hs) R.once B P.1)
