-- What each due thing makes of a component, and of the ports and headers.
use Rattle.std.proofs.Common.{◌≡◌, inl, inr, ℕ, ◌+◌, ◌≤◌, ◌<◌, Bool, true, false, not, ◌||◌, if◌then◌else◌, is_some, Option, Some, None, IsSome, IsSomeAnd, MatchOption, refl, sym, ◌∙◌, ap, subst, arith}
use Rattle.std.proofs.lemmas.Bool.{and_parts}
use Rattle.std.proofs.lemmas.Option.{slice_get_within}
use Rattle.omx_types.specs.declared.state.State.{State}
use Rattle.omx_types.specs.declared.state.State.TheVariants.{Invalid, Loaded, Idle, Executing, Pause, WaitForResources}
use Rattle.omx_types.specs.declared.command.Event.{Event}
use Rattle.omx_types.specs.declared.command.Event.TheVariants.{CmdComplete}
use Rattle.omx_types.specs.declared.command.Completion.TheVariants as completions
use Rattle.il_machine.specs.declared.answer.Pending.{Pending}
use Rattle.il_machine.specs.declared.port.Mark.{Mark}
use Rattle.il_machine.specs.declared.port.Mode.{Mode}
use Rattle.il_machine.specs.declared.port.Mode.TheVariants.{Steady, Enabling, Disabling}
use Rattle.il_machine.specs.declared.port.Port.{Port}
use Rattle.il_machine.specs.declared.port.PortKey.{PortKey}
use Rattle.il_machine.specs.Kinds.{ports_in}
use Rattle.il_machine.specs.Lists.{holds_at}
use Rattle.il_machine.specs.World.{Component, ports_of, port_of, with_port, with_component, told}
use Rattle.il_machine.specs.Headers.{Seen, seen, weight}
use Rattle.il_machine.specs.Ports.{is_steady, is_going_to}
use Rattle.il_machine.specs.Stock.{Stocked, StandsFor}
use Rattle.il_machine.specs.Sound.{IsSound}
use Rattle.il_machine.specs.Due.{Transition, Flush, PortMode, WaitingMark, due_in, is_due_to, arrived, arrived_at, reached, completed, completed_for, with_part, restarted, all_given_back, lost, lost_by, waits_after, transition_happened, flush_happened, mode_happened, mark_happened, mode_completion, all_told, first_marked, reset_port, reset_on, at_port}
use Rattle.il_machine.specs.Room.{is_by_client}
use Rattle.il_machine.specs.States.{is_down, same_state}
use Rattle.stock_laws.specs.Parts.{KeepsPart}
use Rattle.machine_laws.specs.Changes.{IsChange}
use Rattle.machine_laws.proofs.Lookups.{port_parts}
use Rattle.machine_laws.proofs.Arriving.{sound_arrived, change_arrived, state_there, sound_let_go, change_let_go, flushed_places, steady_places, marked_places}
use Rattle.machine_laws.proofs.Happening.{due_where, due_changes}
use Rattle.il_component.specs.PortChanges.{flush_ended, mode_ended, mark_ended}
use Rattle.flush_mark.specs.Leading.{Leads}
use Rattle.port_rules.specs.Happened.{Happened, IsInOrder}
use Rattle.flush_mark.proofs.ResetSteps.{unchanged}
use Rattle.port_rules.proofs.Noticed.{keeps_reset_port, keeps_reset_on, keeps_marked}

module _ {A : Type 0} where
  pub some_there : (o : Option A) (P : A → Type 0) → IsSomeAnd o P → (x : A) × (o ≡ Some x) × P x
  some_there None P h = absurd h
  some_there (Some x) P h = (x, refl, h)

  pub of_match : (o : Option A) (P : A → Type 0) (x : A) → o ≡ Some x → MatchOption o ⊥ P → P x
  of_match o P x e h = subst (λ (y : Option A). MatchOption y ⊥ P) e h

  pub to_match : (o : Option A) (P : A → Type 0) (x : A) → o ≡ Some x → P x → MatchOption o ⊥ P
  to_match o P x e h = subst (λ (y : Option A). MatchOption y ⊥ P) (sym e) h

  pub of_some : (o : Option A) (P : A → Type 0) (x : A) → o ≡ Some x → IsSomeAnd o P → P x
  of_some o P x e h = subst (λ (y : Option A). IsSomeAnd y P) e h

  pub to_some : (o : Option A) (P : A → Type 0) (x : A) → o ≡ Some x → P x → IsSomeAnd o P
  to_some o P x e h = subst (λ (y : Option A). IsSomeAnd y P) (sym e) h

pub index_within : (c : Component) (s : Stocked) (n : ℕ) (p : Port) → IsInOrder c s → port_of c n ≡ Some p → n < ports_in c.settings.kind
index_within c s n p I e = subst (λ (k : ℕ). n < k) (I.ports).many (slice_get_within (ports_of c) n p e)

-- ---- the part

part_told : (event : Event) (c d : Component) → KeepsPart c d → KeepsPart c (told event d)
part_told event c d K = record { number = K.number; kind = K.kind; file = K.file; failed = K.failed; work = K.work }

part_either : (b : Bool) (c d e : Component) → KeepsPart c d → KeepsPart c e → KeepsPart c (if b then d else e)
part_either true c d e D E = D
part_either false c d e D E = E

part_lost : (c d : Component) → KeepsPart c d → KeepsPart c (lost d)
part_lost c d K = record { number = K.number; kind = K.kind; file = K.file; failed = K.failed; work = K.work }

part_completed : (p : Pending) (c d : Component) → KeepsPart c d → KeepsPart c (completed_for p d)
part_completed p c d K = part_either (is_by_client p.cause) c (completed p.target d) d (part_told (CmdComplete (completions.State p.target)) c d K) K

part_reached : (target : State) (p : Pending) (c : Component) → KeepsPart c (completed target (reached p c))
part_reached target p c = record { number = refl; kind = refl; file = refl; failed = refl; work = refl }

part_at : (number : ℕ) (target : State) (p : Pending) (c : Component) → KeepsPart c (arrived_at number target p c)
part_at number Idle p c =
    let again : Component = with_part (restarted c) (reached p c) in
    let r : Component = completed_for p again in
    let R : KeepsPart c r = part_completed p c again (record { number = refl; kind = refl; file = refl; failed = refl; work = refl }) in
    part_either (is_down c.state) c (completed Idle (reached p c)) (lost_by p r) (part_reached Idle p c)
    (part_either (r.loss_mark || not (is_by_client p.cause)) c (lost r) r (part_lost c r R) R)
part_at number Loaded p c = part_completed p c (all_given_back (reached p c)) (record { number = refl; kind = refl; file = refl; failed = refl; work = refl })
part_at number Executing p c = part_reached Executing p c
part_at number Pause p c = part_reached Pause p c
part_at number WaitForResources p c = record { number = refl; kind = refl; file = refl; failed = refl; work = refl }
part_at number Invalid p c = part_reached Invalid p c

pub arrived_part : (number : ℕ) (p : Pending) (c : Component) → KeepsPart c (arrived number p c)
arrived_part number p c = part_at number p.target p c

pub mode_part : (c : Component) (p : Port) (m : Mode) → KeepsPart c (all_told (mode_completion m p.key.port) (with_port p.key.port (record p.state { mode = Steady }) c))
mode_part c p Steady = record { number = refl; kind = refl; file = refl; failed = refl; work = refl }
mode_part c p Enabling = record { number = refl; kind = refl; file = refl; failed = refl; work = refl }
mode_part c p Disabling = record { number = refl; kind = refl; file = refl; failed = refl; work = refl }

-- ---- which waits are to come

abbrev waits_next : Component → ℕ
waits_next c = weight (is_going_to WaitForResources c)

next_either : (P : Component → Type 0) (b : Bool) (d e : Component) → P d → P e → P (if b then d else e)
next_either P true d e x y = x
next_either P false d e x y = y

NoneNext : Component → Type 0
NoneNext d = waits_next d ≡ 0

none_completed : (p : Pending) (d : Component) → NoneNext d → NoneNext (completed_for p d)
unfolding NoneNext
none_completed p d h = next_either NoneNext (is_by_client p.cause) (completed p.target d) d h h

none_at : (number : ℕ) (target : State) (p : Pending) (c : Component) → NoneNext (arrived_at number target p c)
unfolding NoneNext
none_at number Idle p c =
    let again : Component = with_part (restarted c) (reached p c) in
    let r : Component = completed_for p again in
    let R : NoneNext r = none_completed p again refl in
    next_either NoneNext (is_down c.state) (completed Idle (reached p c)) (lost_by p r) refl (next_either NoneNext (r.loss_mark || not (is_by_client p.cause)) (lost r) r refl R)
none_at number Loaded p c = none_completed p (all_given_back (reached p c)) refl
none_at number Executing p c = refl
none_at number Pause p c = refl
none_at number WaitForResources p c = refl
none_at number Invalid p c = refl

none_arrived : (number : ℕ) (p : Pending) (c : Component) → waits_next (arrived number p c) ≡ 0
unfolding NoneNext
none_arrived number p c = none_at number p.target p c

waits_then : (waits : ℕ) (t : State) → waits_after t waits ≤ waits + weight (same_state t WaitForResources)
waits_then waits Invalid = omega arith
waits_then waits Loaded = omega arith
waits_then waits Idle = omega arith
waits_then waits Executing = omega arith
waits_then waits Pause = omega arith
waits_then waits WaitForResources = omega arith

arrived_next : (waits : ℕ) (p : Pending) (c : Component) → c.pending ≡ Some p → waits_after p.target waits + waits_next (arrived waits p c) ≤ waits + waits_next c
arrived_next waits p c e =
    let a = none_arrived waits p c in
    let b = waits_then waits p.target in
    let d : waits_next c ≡ weight (same_state p.target WaitForResources) = rw e refl in
    omega arith

mode_next : (waits : ℕ) (c : Component) (p : Port) (m : Mode) → waits + waits_next (all_told (mode_completion m p.key.port) (with_port p.key.port (record p.state { mode = Steady }) c)) ≤ waits + waits_next c
mode_next waits c p Steady = omega arith
mode_next waits c p Enabling = omega arith
mode_next waits c p Disabling = omega arith

-- ---- the transition

pub transition_happens : (c d : Component) (s t : Stocked) (waits : ℕ) (p : Pending) → IsInOrder c s → c.pending ≡ Some p → d ≡ arrived waits p c → Leads (reset_on c p.target) s t → Happened Transition c d s t waits (waits_after p.target waits)
transition_happens c d s t waits p I e q L = record {
  change = reset_on c p.target;
  after = λ i w n. ap (λ (o : Option Pending). transition_happened i c o w) e
      ∙ (ap (λ (m : ℕ). record (with_component i (arrived m p c) w) { headers = reset_on c p.target w.headers; waits = waits_after p.target m }) n
      ∙ ap (λ (x : Component). record (with_component i x w) { headers = reset_on c p.target w.headers; waits = waits_after p.target waits }) (sym q));
  stock = L;
  numbers = subst (λ (x : Component). waits_after p.target waits + waits_next x ≤ waits + waits_next c) (sym q) (arrived_next waits p c e);
  notices = keeps_reset_on c p.target;
  component = subst (IsChange c) (sym q) (change_arrived waits p c);
  part = subst (KeepsPart c) (sym q) (arrived_part waits p c);
  sound = subst IsSound (sym q) (sound_arrived waits p c I.sound e);
}

-- ---- a flush

pub flush_sound : (c : Component) (n : ℕ) (p : Port) → IsSound c → port_of c n ≡ Some p → p.state.flushing ≡ true → IsSound (flush_ended p c)
flush_sound c n p S e f = sound_let_go (CmdComplete (completions.Flush p.key.port)) p.key.port (record p.state { flushing = false }) p.state c S (state_there c n p e) (flushed_places p.state f)

pub flush_happens : (c d : Component) (s t : Stocked) (waits n : ℕ) (p : Port) → IsInOrder c s → port_of c n ≡ Some p → p.state.flushing ≡ true → d ≡ flush_ended p c → Leads (reset_port p) s t → Happened (Flush n) c d s t waits waits
flush_happens c d s t waits n p I e f q L = record {
  change = reset_port p;
  after = λ i w k. ap (λ (o : Option Port). at_port o (flush_happened i c) w) e
      ∙ (ap (λ (x : Component). record (with_component i x w) { headers = reset_port p w.headers }) (sym q)
      ∙ ap (λ (m : ℕ). record (with_component i d w) { headers = reset_port p w.headers; waits = m }) k);
  stock = L;
  numbers = subst (λ (x : Component). waits + waits_next x ≤ waits + waits_next c) (sym q) (omega arith);
  notices = keeps_reset_port p;
  component = subst (IsChange c) (sym q) (change_let_go (CmdComplete (completions.Flush p.key.port)) p.key.port (record p.state { flushing = false }) p.state c (state_there c n p e) refl);
  part = subst (KeepsPart c) (sym q) (record { number = refl; kind = refl; file = refl; failed = refl; work = refl });
  sound = subst IsSound (sym q) (flush_sound c n p I.sound e f);
}

-- ---- a disable or an enable

mode_parts : (c : Component) (n : ℕ) (p : Port) (m : Mode) → IsSound c → port_of c n ≡ Some p → p.state.mode ≡ m → is_steady m ≡ false
    → IsSound (all_told (mode_completion m p.key.port) (with_port p.key.port (record p.state { mode = Steady }) c)) × IsChange c (all_told (mode_completion m p.key.port) (with_port p.key.port (record p.state { mode = Steady }) c))
mode_parts c n p Steady S e q z = absurd cc
mode_parts c n p Enabling S e q z =
    let at = state_there c n p e in
    let y : is_steady p.state.mode ≡ false = rw q refl in (
      sound_let_go (CmdComplete (completions.Enable p.key.port)) p.key.port (record p.state { mode = Steady }) p.state c S at (steady_places p.state y),
      change_let_go (CmdComplete (completions.Enable p.key.port)) p.key.port (record p.state { mode = Steady }) p.state c at refl,
    )
mode_parts c n p Disabling S e q z =
    let at = state_there c n p e in
    let y : is_steady p.state.mode ≡ false = rw q refl in (
      sound_let_go (CmdComplete (completions.Disable p.key.port)) p.key.port (record p.state { mode = Steady }) p.state c S at (steady_places p.state y),
      change_let_go (CmdComplete (completions.Disable p.key.port)) p.key.port (record p.state { mode = Steady }) p.state c at refl,
    )

pub mode_sound : (c : Component) (n : ℕ) (p : Port) → IsSound c → port_of c n ≡ Some p → is_steady p.state.mode ≡ false → IsSound (mode_ended p c)
mode_sound c n p S e z = (mode_parts c n p p.state.mode S e refl z).0

pub mode_happens : (c d : Component) (s : Stocked) (waits n : ℕ) (p : Port) → IsInOrder c s → port_of c n ≡ Some p → is_steady p.state.mode ≡ false → d ≡ mode_ended p c → Happened (PortMode n) c d s s waits waits
mode_happens c d s waits n p I e z q = record {
  change = λ hs. hs;
  after = λ i w k. ap (λ (o : Option Port). at_port o (mode_happened i c) w) e
      ∙ (ap (λ (x : Component). with_component i x w) (sym q) ∙ ap (λ (m : ℕ). record (with_component i d w) { waits = m }) k);
  stock = unchanged s;
  numbers = subst (λ (x : Component). waits + waits_next x ≤ waits + waits_next c) (sym q) (mode_next waits c p p.state.mode);
  notices = λ hs m r o f y. refl;
  component = subst (IsChange c) (sym q) (mode_parts c n p p.state.mode I.sound e refl z).1;
  part = subst (KeepsPart c) (sym q) (mode_part c p p.state.mode);
  sound = subst IsSound (sym q) (mode_sound c n p I.sound e z);
}

-- ---- a mark

-- the list of those without a mark is that of each flat list
marked_leads : (s t : Stocked) (key : PortKey) (mark : Mark) → Leads (first_marked (s.headers.unmarked key) (Some mark)) s t → Leads (λ hs. first_marked ((seen hs).unmarked key) (Some mark) hs) s t
marked_leads s t key mark L = record {
  stands = λ hs S. subst (StandsFor t) (ap (λ (v : Seen). first_marked (v.unmarked key) (Some mark) hs) (sym S.looks)) (L.stands hs S);
  key = L.key;
  ports = L.ports;
  next = L.next;
}

pub mark_sound : (c : Component) (n : ℕ) (p : Port) → IsSound c → port_of c n ≡ Some p → is_some p.state.waiting_mark ≡ true → IsSound (mark_ended p c)
mark_sound c n p S e m = sound_let_go (CmdComplete (completions.Mark p.key.port)) p.key.port (record p.state { waiting_mark = None }) p.state c S (state_there c n p e) (marked_places p.state m)

pub mark_happens : (c d : Component) (s t : Stocked) (waits n : ℕ) (p : Port) (mark : Mark) → IsInOrder c s → port_of c n ≡ Some p → p.state.waiting_mark ≡ Some mark → d ≡ mark_ended p c → Leads (first_marked (s.headers.unmarked p.key) (Some mark)) s t → Happened (WaitingMark n) c d s t waits waits
mark_happens c d s t waits n p mark I e m q L =
    let y : is_some p.state.waiting_mark ≡ true = rw m refl in
    record {
      change = λ hs. first_marked ((seen hs).unmarked p.key) (Some mark) hs;
      after = λ i w k. ap (λ (o : Option Port). at_port o (mark_happened i c) w) e
          ∙ (ap (λ (o : Option Mark). record (with_component i (mark_ended p c) w) { headers = first_marked ((seen w.headers).unmarked p.key) o w.headers }) m
          ∙ (ap (λ (x : Component). record (with_component i x w) { headers = first_marked ((seen w.headers).unmarked p.key) (Some mark) w.headers }) (sym q)
          ∙ ap (λ (m : ℕ). record (with_component i d w) { headers = first_marked ((seen w.headers).unmarked p.key) (Some mark) w.headers; waits = m }) k));
      stock = marked_leads s t p.key mark L;
      numbers = subst (λ (x : Component). waits + waits_next x ≤ waits + waits_next c) (sym q) (omega arith);
      notices = keeps_marked p.key mark;
      component = subst (IsChange c) (sym q) (change_let_go (CmdComplete (completions.Mark p.key.port)) p.key.port (record p.state { waiting_mark = None }) p.state c (state_there c n p e) refl);
      part = subst (KeepsPart c) (sym q) (record { number = refl; kind = refl; file = refl; failed = refl; work = refl });
      sound = subst IsSound (sym q) (mark_sound c n p I.sound e y);
    }

-- ---- what is due

pending_there : (o : Option Pending) (test : Pending → Bool) → holds_at o test ≡ true → IsSome o
pending_there None test h = absurd cc
pending_there (Some p) test h = refl

pub due_transition : (headers : Seen) (c : Component) → due_in headers c ≡ Some Transition → IsSome c.pending
due_transition headers c h = elim (due_where headers c Transition h) [
  | inl a ↦ pending_there c.pending (λ p. is_due_to headers c p.target) a.1
  | inr d ↦ absurd d.due
]

pub due_flush : (headers : Seen) (c : Component) (n : ℕ) → due_in headers c ≡ Some (Flush n) → IsSomeAnd (port_of c n) (λ p. p.state.flushing ≡ true)
due_flush headers c n h = elim (due_where headers c (Flush n) h) [
  | inl a ↦ absurd (let b = a.0 in cc)
  | inr d ↦
      let k : d.place ≡ n = sym (d.due.0 ∙ ap (λ (x : PortKey). x.port) (port_parts c d.place d.port d.there).key) in
      to_some (port_of c n) (λ p. p.state.flushing ≡ true) d.port (ap (port_of c) (sym k) ∙ d.there) (and_parts d.port.state.flushing _ d.due.1).0
]

pub due_mode : (headers : Seen) (c : Component) (n : ℕ) → due_in headers c ≡ Some (PortMode n) → IsSomeAnd (port_of c n) (λ p. is_steady p.state.mode ≡ false)
due_mode headers c n h = elim (due_where headers c (PortMode n) h) [
  | inl a ↦ absurd (let b = a.0 in cc)
  | inr d ↦
      let k : d.place ≡ n = sym (d.due.0 ∙ ap (λ (x : PortKey). x.port) (port_parts c d.place d.port d.there).key) in
      to_some (port_of c n) (λ p. is_steady p.state.mode ≡ false) d.port (ap (port_of c) (sym k) ∙ d.there) (due_changes headers c d.port d.port.state.mode d.due.1)
]

pub due_mark : (headers : Seen) (c : Component) (n : ℕ) → due_in headers c ≡ Some (WaitingMark n) → IsSomeAnd (port_of c n) (λ p. is_some p.state.waiting_mark ≡ true)
due_mark headers c n h = elim (due_where headers c (WaitingMark n) h) [
  | inl a ↦ absurd (let b = a.0 in cc)
  | inr d ↦
      let k : d.place ≡ n = sym (d.due.0 ∙ ap (λ (x : PortKey). x.port) (port_parts c d.place d.port d.there).key) in
      to_some (port_of c n) (λ p. is_some p.state.waiting_mark ≡ true) d.port (ap (port_of c) (sym k) ∙ d.there) (and_parts (is_some d.port.state.waiting_mark) _ d.due.1).0
]
