-- Works that are out: their headers by the owners of headers, and what holds of them by their components alone.
use Rattle.std.proofs.Common.{◌≡◌, ◌≢◌, inl, inr, ℕ, zero, suc, ◌≤◌, Bool, true, false, List, [], ◌∷◌, map, set, remove, slice_get, length, Option, Some, None, option_map, MatchOption, refl, sym, ◌∙◌, ap, arith, All}
use Rattle.std.proofs.lemmas.Bool.{cases_eq}
use Rattle.il_machine.specs.declared.port.PortKey.{PortKey}
use Rattle.il_machine.specs.declared.header.HeaderState.{HeaderState}
use Rattle.il_machine.specs.Lists.{holds_at}
use Rattle.il_machine.specs.Kinds.{is_late}
use Rattle.il_machine.specs.World.{Component, HeaderRecord, Picked, Work, number_of}
use Rattle.il_machine.specs.Headers.{seen, find_header, state_of, weight, is_for}
use Rattle.il_machine.specs.Census.{times}
use Rattle.il_machine.specs.Sound.{AreClaimed, IsPickedFor, ArePicked, IsSoundWork, is_in_work_of, may_work}
use Rattle.machine_laws.proofs.Every.{at_place, from_places, at_set, at_remove}
use Rattle.machine_laws.proofs.Listed.{times_cons, times_self}

-- ---- the headers in works

-- whether the header of the number is in the work of the component
abbrev pub worked_at : ℕ → ℕ → List HeaderRecord → Bool
worked_at k n hs = holds_at (option_map state_of (find_header n hs)) (is_in_work_of k)

-- whether the header of the number was made for the port
abbrev pub made_at : PortKey → ℕ → List HeaderRecord → Bool
made_at key n hs = holds_at (option_map state_of (find_header n hs)) (is_for key)

-- each component's work has its headers, and each was made for its port
pub record Works (cs : List Component) (hs : List HeaderRecord) : Type 0 where
  pub claimed : (i : ℕ) (c : Component) → slice_get cs i ≡ Some c → AreClaimed (seen hs) c
  pub made : (i : ℕ) (c : Component) (work : Work) → slice_get cs i ≡ Some c → c.work ≡ Some work → All (IsPickedFor (seen hs) (number_of c)) work.headers

pub made_there : (o : Option HeaderState) (key : PortKey) → MatchOption o ⊥ (λ s. is_for key s ≡ true) → holds_at o (is_for key) ≡ true
made_there None key h = absurd h
made_there (Some s) key h = h

there_made : (o : Option HeaderState) (key : PortKey) → holds_at o (is_for key) ≡ true → MatchOption o ⊥ (λ s. is_for key s ≡ true)
there_made None key h = absurd cc
there_made (Some s) key h = h

-- each header was made for the same ports
pub made_kept : (hs ks : List HeaderRecord) (k : ℕ) (xs : List Picked) → ((n : ℕ) (key : PortKey) → made_at key n ks ≡ made_at key n hs) → All (IsPickedFor (seen hs) k) xs → All (IsPickedFor (seen ks) k) xs
made_kept hs ks k xs h A = from_places (IsPickedFor (seen ks) k) xs (λ j x f.
    let key : PortKey = record { component = k; port = x.port } in
    let m = made_there (option_map state_of (find_header x.number hs)) key (at_place (IsPickedFor (seen hs) k) xs j x A f) in
    there_made (option_map state_of (find_header x.number ks)) key (h x.number key ∙ m))

picked_number : (xs : List Picked) (j : ℕ) (x : Picked) → slice_get xs j ≡ Some x → 1 ≤ times x.number (map (λ y. y.number) xs)
picked_number [] j x e = absurd cc
picked_number (y ∷ xs) zero x e = let s : y ≡ x = cc in rw s (omega (arith, times_self x.number (map (λ z. z.number) xs)))
picked_number (y ∷ xs) (suc j) x e = let i = picked_number xs j x e in omega (arith, times_cons x.number y.number (map (λ z. z.number) xs))

pub weighs : (b : Bool) → 1 ≤ weight b → b ≡ true
weighs true h = refl
weighs false h = absurd (omega arith)

-- a header that a work has is one of that work
pub picked_worked : (cs : List Component) (hs : List HeaderRecord) → Works cs hs → (i : ℕ) (c : Component) (work : Work) → slice_get cs i ≡ Some c → c.work ≡ Some work
    → (j : ℕ) (x : Picked) → slice_get work.headers j ≡ Some x → worked_at (number_of c) x.number hs ≡ true
picked_worked cs hs W i c work t e j x f =
    let a : times x.number (map (λ y. y.number) work.headers) ≡ weight (worked_at (number_of c) x.number hs) = rw e at (W.claimed i c t x.number) in
    let b = picked_number work.headers j x f in
    weighs (worked_at (number_of c) x.number hs) (omega arith)

-- ---- headers change

-- The same headers are in works, and each of these was made for the same port.
pub record KeepsWorks (hs ks : List HeaderRecord) : Type 0 where
  pub owners : (k n : ℕ) → worked_at k n ks ≡ worked_at k n hs
  pub made : (k n : ℕ) (key : PortKey) → worked_at k n hs ≡ true → made_at key n hs ≡ true → made_at key n ks ≡ true

pub works_kept : (cs : List Component) (hs ks : List HeaderRecord) → KeepsWorks hs ks → Works cs hs → Works cs ks
works_kept cs hs ks K W = record {
  claimed = λ i c t number. W.claimed i c t number ∙ ap weight (sym (K.owners c.handle.generation number));
  made = λ i c work t e. from_places (IsPickedFor (seen ks) (number_of c)) work.headers (λ j x f.
      let key : PortKey = record { component = number_of c; port = x.port } in
      let p = at_place (IsPickedFor (seen hs) (number_of c)) work.headers j x (W.made i c work t e) f in
      let m = made_there (option_map state_of (find_header x.number hs)) key p in
      there_made (option_map state_of (find_header x.number ks)) key (K.made (number_of c) x.number key (picked_worked cs hs W i c work t e j x f) m));
}

-- one header changes, which is in no work before and after
pub keeps_works_but : (n : ℕ) (hs ks : List HeaderRecord) → ((m : ℕ) → m ≢ n → find_header m ks ≡ find_header m hs) → ((k : ℕ) → worked_at k n hs ≡ false) → ((k : ℕ) → worked_at k n ks ≡ false) → KeepsWorks hs ks
keeps_works_but n hs ks others a b = record {
  owners = λ k m. elim (cases_eq m n) [ inl e ↦ rw e (b k ∙ sym (a k)) | inr d ↦ rw (others m d) refl ];
  made = λ k m key w h. elim (cases_eq m n) [
    | inl e ↦ let x : worked_at k n hs ≡ true = rw e at w in let y = a k in absurd cc
    | inr d ↦ rw (others m d) h
  ];
}

-- all headers stay but in what they carry
pub keeps_works_seen : (hs ks : List HeaderRecord) → ((m : ℕ) → option_map state_of (find_header m ks) ≡ option_map state_of (find_header m hs)) → KeepsWorks hs ks
keeps_works_seen hs ks e = record { owners = λ k m. rw (e m) refl; made = λ k m key w h. rw (e m) h }

-- ---- components change

pub works_set : (i : ℕ) (cs : List Component) (hs : List HeaderRecord) (c d : Component) → slice_get cs i ≡ Some c → number_of d ≡ number_of c → d.work ≡ c.work → Works cs hs → Works (set cs i d) hs
works_set i cs hs c d t n e W = record {
  claimed = λ j x f. elim (at_set cs i j d x f) [ inl s ↦ rw s.1 (λ number. rw (e, n) (W.claimed i c t number)) | inr s ↦ W.claimed j x s.1 ];
  made = λ j x work f g. elim (at_set cs i j d x f) [
    | inl s ↦
        let q : c.work ≡ Some work = sym e ∙ (ap (λ (y : Component). y.work) (sym s.1) ∙ g) in
        let m : number_of x ≡ number_of c = ap number_of s.1 ∙ n in
        rw m (W.made i c work t q)
    | inr s ↦ W.made j x work s.1 g
  ];
}

pub works_remove : (i : ℕ) (cs : List Component) (hs : List HeaderRecord) → Works cs hs → Works (remove cs i) hs
works_remove i cs hs W = record {
  claimed = λ j x e. let a = at_remove cs i j x e in W.claimed a.0 x a.2;
  made = λ j x work e f. let a = at_remove cs i j x e in W.made a.0 x work a.2 f;
}

-- ---- a work by its component alone

pub record IsLawfulWork (c : Component) (work : Work) : Type 0 where
  pub state : may_work c ≡ true
  pub rising : ArePicked 0 work.headers (length c.ports)
  pub announced : work.announces ≡ true → (is_late c.settings.kind ≡ true) × (work.headers ≡ [])
  pub weights : length work.weights ≡ length c.settings.weights

-- the kind, the numbers of ports and weights, and the work
pub record KeepsWork (c d : Component) : Type 0 where
  pub kind : d.settings.kind ≡ c.settings.kind
  pub weights : length d.settings.weights ≡ length c.settings.weights
  pub count : length d.ports ≡ length c.ports
  pub work : d.work ≡ c.work

pub keeps_twice : (c d e : Component) → KeepsWork c d → KeepsWork d e → KeepsWork c e
keeps_twice c d e C D = record { kind = D.kind ∙ C.kind; weights = D.weights ∙ C.weights; count = D.count ∙ C.count; work = D.work ∙ C.work }

pub lawful_as : (c d : Component) (work : Work) → KeepsWork c d → may_work d ≡ true → IsLawfulWork c work → IsLawfulWork d work
lawful_as c d work K m L = record { state = m; rising = rw K.count L.rising; announced = λ a. rw K.kind (L.announced a); weights = L.weights ∙ sym K.weights }

pub sound_work : (hs : List HeaderRecord) (c : Component) (work : Work) → IsLawfulWork c work → All (IsPickedFor (seen hs) (number_of c)) work.headers → IsSoundWork (seen hs) c work
sound_work hs c work L M = record { state = L.state; rising = L.rising; made = M; announced = L.announced; weights = L.weights }

pub lawful_work : (hs : List HeaderRecord) (c : Component) (work : Work) → IsSoundWork (seen hs) c work → IsLawfulWork c work
lawful_work hs c work S = record { state = S.state; rising = S.rising; announced = S.announced; weights = S.weights }
