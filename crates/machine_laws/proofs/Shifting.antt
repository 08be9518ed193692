-- Several headers of one component go from its ports to its work, or from there to its ports and its notes, one after another.
use Rattle.std.proofs.Common.{◌≡◌, ◌≢◌, inl, inr, ℕ, List, [], ◌∷◌, ◌++◌, set, slice_get, Option, Some, refl, sym, ◌∙◌, ap, eq-eqb, ne_eqb, arith, All}
use Rattle.std.proofs.lemmas.Bool.{cases_eq}
use Rattle.il_machine.specs.declared.port.PortKey.{PortKey}
use Rattle.il_machine.specs.declared.port.Port.{Port}
use Rattle.il_machine.specs.declared.header.Owner.{Owner}
use Rattle.il_machine.specs.declared.header.Owner.TheVariants as owners
use Rattle.il_machine.specs.World.{Component, HeaderRecord, Work, number_of, port_of}
use Rattle.il_machine.specs.Headers.{seen, find_header, weight, is_for, is_notice_of, is_work_of, Once}
use Rattle.il_machine.specs.Census.{note_numbers, work_numbers, times}
use Rattle.il_machine.specs.Sound.{IsSound, IsOwnedSo, IsPickedFor}
use Rattle.machine_laws.proofs.Every.{at_set}
use Rattle.machine_laws.proofs.Lookups.{rising_set, same_place}
use Rattle.machine_laws.proofs.Replacing.{IsReplaced}
use Rattle.machine_laws.proofs.Ties.{Tied, IsMadeAs, tied_replaced}
use Rattle.machine_laws.proofs.PortChanges.{AreKept}
use Rattle.machine_laws.proofs.Works.{IsLawfulWork, worked_at, made_at, made_kept}
use Rattle.machine_laws.proofs.Parts.{Parts, ports_in_list}
use Rattle.machine_laws.proofs.Change.{tied_set, each_set}
use Rattle.machine_laws.proofs.Headers.{noticed_at, noticed_found, noticed_else, worked_found}
use Rattle.machine_laws.proofs.Listed.{times_append, times_self, times_else}

-- the headers so far: those of the component's notes and of its work are these, and nothing changed for another component
pub record Shifted (ports : PortKey → Option Port) (k : ℕ) (hs : List HeaderRecord) (notes work : List ℕ) (ks : List HeaderRecord) : Type 0 where
  pub tied : Tied ports ks
  pub once : Once ks
  pub noted : (n : ℕ) → times n notes ≡ weight (noticed_at k n ks)
  pub worked : (n : ℕ) → times n work ≡ weight (worked_at k n ks)
  pub else_noted : (j n : ℕ) → j ≢ k → noticed_at j n ks ≡ noticed_at j n hs
  pub else_worked : (j n : ℕ) → j ≢ k → worked_at j n ks ≡ worked_at j n hs
  pub made : (n : ℕ) (key : PortKey) → made_at key n ks ≡ made_at key n hs
  pub there : (n : ℕ) (r : HeaderRecord) → find_header n ks ≡ Some r → (s : HeaderRecord) × (find_header n hs ≡ Some s)

pub shifted_none : (cs : List Component) (hs : List HeaderRecord) (numbered made i : ℕ) (c : Component) → Parts cs hs numbered made → slice_get cs i ≡ Some c
    → Shifted (ports_in_list cs) (number_of c) hs (note_numbers c.notes) (work_numbers c.work) hs
shifted_none cs hs numbered made i c P t = record {
  tied = P.tied;
  once = P.once;
  noted = P.noted i c t;
  worked = (P.works).claimed i c t;
  else_noted = λ j n a. refl;
  else_worked = λ j n a. refl;
  made = λ n key. refl;
  there = λ n r f. (r, f);
}

worked_else : (k n : ℕ) (hs ks : List HeaderRecord) → find_header n ks ≡ find_header n hs → worked_at k n ks ≡ worked_at k n hs
worked_else k n hs ks e = rw e refl

made_found : (key : PortKey) (n : ℕ) (hs : List HeaderRecord) (r : HeaderRecord) → find_header n hs ≡ Some r → made_at key n hs ≡ is_for key r.state
made_found key n hs r f = rw f refl

made_else : (key : PortKey) (n : ℕ) (hs ks : List HeaderRecord) → find_header n ks ≡ find_header n hs → made_at key n ks ≡ made_at key n hs
made_else key n hs ks e = rw e refl

-- a new owner of the header of the number, as far as notes and works count it
pub record IsShift (k n : ℕ) (before after : Owner) (notes work notes' work' : List ℕ) : Type 0 where
  pub noted : (m : ℕ) → m ≢ n → times m notes' ≡ times m notes
  pub worked : (m : ℕ) → m ≢ n → times m work' ≡ times m work
  pub note_now : times n notes' ≡ weight (is_notice_of k after)
  pub work_now : times n work' ≡ weight (is_work_of k after)
  pub else_note : (j : ℕ) → j ≢ k → is_notice_of j after ≡ is_notice_of j before
  pub else_work : (j : ℕ) → j ≢ k → is_work_of j after ≡ is_work_of j before

-- one header more
pub shifted_one : (ports : PortKey → Option Port) (k n : ℕ) (hs ks ls : List HeaderRecord) (r s : HeaderRecord) (notes work notes' work' : List ℕ) → Shifted ports k hs notes work ks → IsReplaced n r s ks ls
    → IsMadeAs r.state s.state → IsOwnedSo s.state s.state.owner → IsShift k n r.state.owner s.state.owner notes work notes' work' → Shifted ports k hs notes' work' ls
shifted_one ports k n hs ks ls r s notes work notes' work' A R M O D = record {
  tied = tied_replaced ports n r s ks ls A.tied R M O;
  once = R.once;
  noted = λ m. elim (cases_eq m n) [
    | inl e ↦ rw e (D.note_now ∙ ap weight (sym (noticed_found k n ls s R.here)))
    | inr d ↦ D.noted m d ∙ (A.noted m ∙ ap weight (sym (noticed_else k m ks ls (R.others m d))))
  ];
  worked = λ m. elim (cases_eq m n) [
    | inl e ↦ rw e (D.work_now ∙ ap weight (sym (worked_found k n ls s R.here)))
    | inr d ↦ D.worked m d ∙ (A.worked m ∙ ap weight (sym (worked_else k m ks ls (R.others m d))))
  ];
  else_noted = λ j m a. elim (cases_eq m n) [
    | inl e ↦ rw e (noticed_found j n ls s R.here ∙ (D.else_note j a ∙ (sym (noticed_found j n ks r R.was) ∙ A.else_noted j n a)))
    | inr d ↦ noticed_else j m ks ls (R.others m d) ∙ A.else_noted j m a
  ];
  else_worked = λ j m a. elim (cases_eq m n) [
    | inl e ↦ rw e (worked_found j n ls s R.here ∙ (D.else_work j a ∙ (sym (worked_found j n ks r R.was) ∙ A.else_worked j n a)))
    | inr d ↦ worked_else j m ks ls (R.others m d) ∙ A.else_worked j m a
  ];
  made = λ m key. elim (cases_eq m n) [
    | inl e ↦
        let same : is_for key s.state ≡ is_for key r.state = rw (M.port, M.peer) refl in
        rw e (made_found key n ls s R.here ∙ (same ∙ (sym (made_found key n ks r R.was) ∙ A.made n key)))
    | inr d ↦ made_else key m ks ls (R.others m d) ∙ A.made m key
  ];
  there = λ m x f. elim (cases_eq m n) [
    | inl e ↦ rw e (A.there n r R.was)
    | inr d ↦ A.there m x (sym (R.others m d) ∙ f)
  ];
}

-- ---- the three ways

-- from a port to the work
pub shift_out : (k n : ℕ) (key : PortKey) (notes work : List ℕ) → times n notes ≡ 0 → times n work ≡ 0 → IsShift k n (owners.Port key) (owners.Work k) notes work notes (work ++ n ∷ [])
shift_out k n key notes work a b = record {
  noted = λ m d. refl;
  worked = λ m d. let x = times_append m work (n ∷ []) in let y = times_else m n [] (λ e. d (sym e)) in omega arith;
  note_now = a;
  work_now =
      let x = times_append n work (n ∷ []) in
      let y = times_self n [] in
      let w : weight (is_work_of k (owners.Work k)) ≡ 1 = rw (eq-eqb k k refl) refl in
      omega arith;
  else_note = λ j d. refl;
  else_work = λ j d. ne_eqb k j (λ e. d (sym e));
}

-- from the work to a port
pub shift_in : (k n : ℕ) (key : PortKey) (notes work : List ℕ) → times n notes ≡ 0 → times n (n ∷ work) ≡ 1 → IsShift k n (owners.Work k) (owners.Port key) notes (n ∷ work) notes work
shift_in k n key notes work a b = record {
  noted = λ m d. refl;
  worked = λ m d. sym (times_else m n work (λ e. d (sym e)));
  note_now = a;
  work_now = let y = times_self n work in omega arith;
  else_note = λ j d. refl;
  else_work = λ j d. sym (ne_eqb k j (λ e. d (sym e)));
}

-- from the work to a note, which is the last one with a header
pub shift_noted : (k n : ℕ) (notes work : List ℕ) → times n notes ≡ 0 → times n (n ∷ work) ≡ 1 → IsShift k n (owners.Work k) (owners.Notice k) notes (n ∷ work) (notes ++ n ∷ []) work
shift_noted k n notes work a b = record {
  noted = λ m d. let x = times_append m notes (n ∷ []) in let y = times_else m n [] (λ e. d (sym e)) in omega arith;
  worked = λ m d. sym (times_else m n work (λ e. d (sym e)));
  note_now =
      let x = times_append n notes (n ∷ []) in
      let y = times_self n [] in
      let w : weight (is_notice_of k (owners.Notice k)) ≡ 1 = rw (eq-eqb k k refl) refl in
      omega arith;
  work_now = let y = times_self n work in omega arith;
  else_note = λ j d. ne_eqb k j (λ e. d (sym e));
  else_work = λ j d. sym (ne_eqb k j (λ e. d (sym e)));
}

-- ---- the component changes with them

pub parts_shifted : (i : ℕ) (cs : List Component) (hs ks : List HeaderRecord) (numbered made : ℕ) (c d : Component) → Parts cs hs numbered made → slice_get cs i ≡ Some c
    → Shifted (ports_in_list cs) (number_of c) hs (note_numbers d.notes) (work_numbers d.work) ks → number_of d ≡ number_of c → ((x : ℕ) → AreKept ks (port_of c x) (port_of d x)) → IsSound d
    → ((work : Work) → d.work ≡ Some work → IsLawfulWork d work × All (IsPickedFor (seen ks) (number_of c)) work.headers) → Parts (set cs i d) ks numbered made
parts_shifted i cs hs ks numbered made c d P t A n K S L =
    let else_number : (j : ℕ) (x : Component) → j ≢ i → slice_get cs j ≡ Some x → number_of x ≢ number_of c = λ j x a f e. a (same_place 0 numbered j i cs x c P.rising f t e) in
    record {
      rising = rising_set 0 numbered i cs c d P.rising t n;
      components = each_set IsSound i cs d P.components S;
      tied = tied_set numbered i cs ks c d P.rising t n K A.tied;
      noted = λ j x e. elim (at_set cs i j d x e) [
        | inl s ↦ rw s.1 (λ m. rw n (A.noted m))
        | inr s ↦ λ m. P.noted j x s.1 m ∙ ap weight (sym (A.else_noted (number_of x) m (else_number j x s.0 s.1)))
      ];
      works = record {
        claimed = λ j x e. elim (at_set cs i j d x e) [
          | inl s ↦ rw s.1 (λ m. rw n (A.worked m))
          | inr s ↦ λ m. (P.works).claimed j x s.1 m ∙ ap weight (sym (A.else_worked (number_of x) m (else_number j x s.0 s.1)))
        ];
        made = λ j x work e f. elim (at_set cs i j d x e) [
          | inl s ↦
              let q : d.work ≡ Some work = ap (λ (y : Component). y.work) (sym s.1) ∙ f in
              let m : number_of x ≡ number_of c = ap number_of s.1 ∙ n in
              rw m (L work q).1
          | inr s ↦ made_kept hs ks (number_of x) work.headers A.made ((P.works).made j x work s.1 f)
        ];
      };
      lawful = λ j x work e f. elim (at_set cs i j d x e) [
        | inl s ↦ let q : d.work ≡ Some work = ap (λ (y : Component). y.work) (sym s.1) ∙ f in rw s.1 (L work q).0
        | inr s ↦ P.lawful j x work s.1 f
      ];
      once = A.once;
      below = λ m x f. let y = A.there m x f in P.below m y.0 y.1;
    }
