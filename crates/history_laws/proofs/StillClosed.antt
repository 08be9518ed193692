-- A header that goes from a note to the client makes nothing due.
use Rattle.std.proofs.Common.{◌≡◌, ℕ, ◌+◌, Bool, true, false, not, ◌&&◌, ◌||◌, List, [], ◌∷◌, set, position, slice_get, Option, Some, None, refl, sym, ◌∙◌, ap}
use Rattle.std.specs.Prelude.{nat_eq, is_some, is_none}
use Rattle.omx_types.specs.declared.state.State.{State}
use Rattle.omx_types.specs.declared.state.State.TheVariants.{Invalid, Loaded, Idle, Executing, Pause, WaitForResources}
use Rattle.il_machine.specs.declared.answer.Pending.{Pending}
use Rattle.il_machine.specs.declared.header.HeaderState.{HeaderState}
use Rattle.il_machine.specs.declared.header.Home.TheVariants as homes
use Rattle.il_machine.specs.declared.header.Owner.TheVariants as owners
use Rattle.il_machine.specs.declared.port.Mode.{Mode}
use Rattle.il_machine.specs.declared.port.Mode.TheVariants.{Steady, Enabling, Disabling}
use Rattle.il_machine.specs.declared.port.Port.{Port}
use Rattle.il_machine.specs.declared.port.PortKey.{PortKey}
use Rattle.il_machine.specs.States.{is_down}
use Rattle.il_machine.specs.Lists.{all_of, holds_at, is_empty}
use Rattle.il_machine.specs.World.{Component, HeaderRecord, ports_of}
use Rattle.il_machine.specs.Headers.{Seen, seen, is_for, is_away, is_home_owner, is_owned_by, is_home_of, in_unmarked, is_todo, has_number, find_header, count_headers, numbers, changed, given_to, weight}
use Rattle.il_machine.specs.Due.{each_port, is_due_to, is_transition_due, is_flush_due, is_mode_due, is_mark_due, things_of, has_due}
use Rattle.il_machine.specs.Places.{first_place}
use Rattle.il_machine.proofs.Places.{is_first_place, place_set}
use Rattle.machine_laws.proofs.Finding.{either}

-- the tests that tell what is due are alike
pub record AreAlikeDue (h k : Seen) : Type 0 where
  pub made : (key : PortKey) → h.count (is_for key) ≡ k.count (is_for key)
  pub away : (key : PortKey) → h.count (λ r. is_for key r && is_away r) ≡ k.count (λ r. is_for key r && is_away r)
  pub owned : (key : PortKey) → h.count (λ r. is_owned_by key r.owner && not (is_home_of key r.home)) ≡ k.count (λ r. is_owned_by key r.owner && not (is_home_of key r.home))
  pub unmarked : (key : PortKey) → h.unmarked key ≡ k.unmarked key

pub alike_itself : (h : Seen) → AreAlikeDue h h
alike_itself h = record { made = λ key. refl; away = λ key. refl; owned = λ key. refl; unmarked = λ key. refl }

module _ (h k : Seen) (A : AreAlikeDue h k) where
  due_to : (c : Component) (target : State) → is_due_to h c target ≡ is_due_to k c target
  due_to c Idle = either (is_down c.state)
      (λ t. rw t (ap (λ (test : Port → Bool). all_of (each_port c test ∷ [])) (λ i p. not p.state.enabled || nat_eq (A.made p.key i) p.setting.definition.count)))
      (λ f. rw f (ap (λ (test : Port → Bool). all_of (each_port c test ∷ is_none c.work ∷ [])) (λ i p. nat_eq (A.away p.key i) 0)))
  due_to c Loaded = ap (λ (test : Port → Bool). all_of (each_port c test ∷ [])) (λ i p. nat_eq (A.made p.key i) 0)
  due_to c Invalid = refl
  due_to c Executing = refl
  due_to c Pause = refl
  due_to c WaitForResources = refl

  pending_due : (c : Component) (o : Option Pending) → holds_at o (λ p. is_due_to h c p.target) ≡ holds_at o (λ p. is_due_to k c p.target)
  pending_due c None = refl
  pending_due c (Some p) = due_to c p.target

  mode_due : (c : Component) (p : Port) (mode : Mode) → is_mode_due h c p mode ≡ is_mode_due k c p mode
  mode_due c p Steady = refl
  mode_due c p Disabling = ap (λ (n : ℕ). nat_eq n 0) (A.made p.key)
  mode_due c p Enabling = ap (λ (n : ℕ). nat_eq n p.setting.definition.count || is_down c.state) (A.made p.key)

  things_alike : (c : Component) (ps : List Port) → things_of h c ps ≡ things_of k c ps
  things_alike c [] = refl
  things_alike c (p ∷ ps) =
      let flush : is_flush_due h c p ≡ is_flush_due k c p = ap (λ (n : ℕ). all_of (p.state.flushing ∷ nat_eq n 0 ∷ is_none c.work ∷ [])) (A.owned p.key) in
      let mark : is_mark_due h p ≡ is_mark_due k p = ap (λ (ns : List ℕ). is_some p.state.waiting_mark && not (is_empty ns)) (A.unmarked p.key) in
      let mode = mode_due c p p.state.mode in
      let rest = things_alike c ps in
      rw (flush, mode, mark, rest) refl

  pub due_alike : (c : Component) → has_due h c ≡ has_due k c
  due_alike c =
      let first : is_transition_due h c ≡ is_transition_due k c = pending_due c c.pending in
      let rest = things_alike c (ports_of c) in
      rw (first, rest) refl

  -- nothing is due where nothing was
  pub still_none : (cs : List Component) (i : ℕ) (c d : Component) → slice_get cs i ≡ Some c → has_due h d ≡ has_due h c → position (has_due k) cs ≡ None → position (has_due h) (set cs i d) ≡ None
  still_none cs i c d at e n =
      is_first_place (has_due h) (set cs i d)
      ∙ (place_set (has_due h) cs i c d at e
      ∙ (ap (λ (test : Component → Bool). first_place test cs) (λ j x. due_alike x j) ∙ (sym (is_first_place (has_due k) cs) ∙ n)))

-- ---- a header that a note had

module _ (change : HeaderRecord → HeaderRecord) (n : ℕ) (r : HeaderRecord) where
  count_changed : (test : HeaderState → Bool) → test (change r).state ≡ test r.state → (hs : List HeaderRecord) → find_header n hs ≡ Some r → count_headers test (changed n change hs) ≡ count_headers test hs
  count_changed test e [] f = refl
  count_changed test e (x ∷ hs) f = either (has_number n x)
      (λ t.
      let s : Some x ≡ Some r = rw t at f in
      let is : x ≡ r = cc in
      let y : test (change x).state ≡ test x.state = rw is e in
      rw t (ap (λ (b : Bool). weight b + count_headers test hs) y))
      (λ g. rw g (ap (λ (m : ℕ). weight (test x.state) + m) (count_changed test e hs (rw g at f))))

  numbers_changed : (test : HeaderRecord → Bool) → test (change r) ≡ false → test r ≡ false → (hs : List HeaderRecord) → find_header n hs ≡ Some r → numbers test (changed n change hs) ≡ numbers test hs
  numbers_changed test e g [] f = refl
  numbers_changed test e g (x ∷ hs) f = either (has_number n x)
      (λ t.
      let s : Some x ≡ Some r = rw t at f in
      let is : x ≡ r = cc in
      let a : test (change x) ≡ false = rw is e in
      let b : test x ≡ false = rw is g in
      rw (t, a, b) refl)
      (λ u. rw u (either (test x)
      (λ t. rw t (ap (λ (l : List ℕ). x.state.number ∷ l) (numbers_changed test e g hs (rw u at f))))
      (λ v. rw v (numbers_changed test e g hs (rw u at f)))))

not_away : (b : Bool) → not (b || true) ≡ false
not_away true = refl
not_away false = refl

unmarked_not : (b c : Bool) → (b && false) && c ≡ false
unmarked_not true c = refl
unmarked_not false c = refl

pub given_alike : (n component : ℕ) (r : HeaderRecord) (hs : List HeaderRecord) → find_header n hs ≡ Some r → r.state.owner ≡ owners.Notice component → r.state.home ≡ homes.Client → AreAlikeDue (seen (changed n (given_to owners.Client) hs)) (seen hs)
given_alike n component r hs f o m =
    let change = given_to owners.Client in
    let was : is_away r.state ≡ false = rw o (not_away (is_home_owner r.state.home (owners.Notice component))) in
    let now : is_away (change r).state ≡ false = rw m refl in
    let unowned : (key : PortKey) → is_owned_by key r.state.owner ≡ false = λ key. rw o refl in
    record {
      made = λ key. count_changed change n r (is_for key) refl hs f;
      away = λ key. count_changed change n r (λ s. is_for key s && is_away s) (rw (was, now) refl) hs f;
      owned = λ key. count_changed change n r (λ s. is_owned_by key s.owner && not (is_home_of key s.home)) (rw (unowned key) refl) hs f;
      unmarked = λ key. numbers_changed change n r (in_unmarked key) refl (rw (unowned key) (unmarked_not (is_todo r.state.queue) _)) hs f;
    }
