-- A work goes out: the front of each wanted port's todo leaves it.
use Rattle.std.proofs.Common.{◌≡◌, ◌≢◌, inl, inr, ℕ, suc, ◌+◌, ◌≤◌, ◌<◌, Bool, true, false, not, ◌&&◌, ◌||◌, nat_eq, nat_lt, List, [], ◌∷◌, ◌++◌, length, map, filter, slice_get, is_some, Option, Some, None, refl, sym, ◌∙◌, ap, subst, append-nil, append_assoc, eq-eqb, ltb-false, arith, All}
use Rattle.std.specs.List.{list_any}
use Rattle.std.proofs.lemmas.List.Elements.{All-nil, All-cons}
use Rattle.omx_types.specs.declared.state.State.{State}
use Rattle.omx_types.specs.declared.state.State.TheVariants as states
use Rattle.il_machine.specs.declared.port.PortKey.{PortKey}
use Rattle.il_machine.specs.declared.port.Port.{Port}
use Rattle.il_machine.specs.declared.port.PortSetting.{PortSetting}
use Rattle.il_machine.specs.declared.port.PortState.{PortState}
use Rattle.il_machine.specs.declared.header.HeaderState.{HeaderState}
use Rattle.il_machine.specs.declared.header.Owner.TheVariants as owners
use Rattle.il_machine.specs.States.{is_executing, is_running}
use Rattle.il_machine.specs.Lists.{first_of_these}
use Rattle.il_machine.specs.Kinds.{is_late}
use Rattle.il_machine.specs.World.{Component, HeaderRecord, Picked, Work, World, number_of, ports_from, ports_of, port_of}
use Rattle.il_machine.specs.Headers.{Seen, seen, find_header, weight, is_for, changed, given_to}
use Rattle.il_machine.specs.Look.{Look, look}
use Rattle.il_machine.specs.Ports.{is_at_rest, is_input_port, is_open}
use Rattle.il_machine.specs.Room.{used, room}
use Rattle.il_machine.specs.Due.{each_port}
use Rattle.il_machine.specs.Census.{note_numbers, times}
use Rattle.il_machine.specs.Claims.{Claimed, ClaimedBusy, ClaimedNotRunning, ClaimedEnded, ClaimedEvents, is_unannounced, must_announce, gives_header, wanted, is_output_port, is_claimable, held_test, data_test, room_test, reserve_for, claim_idle, first_picked, picked, work_of, all_given_out, with_work}
use Rattle.il_machine.specs.Sound.{Sound, IsSound, IsUnitSound, IsOwnedSo, IsPickedFor, ArePicked, is_for_component, is_key_of}
use Rattle.machine_laws.proofs.Finding.{either}
use Rattle.machine_laws.proofs.Keys.{for_which}
use Rattle.machine_laws.proofs.Replacing.{IsReplaced, replaced_changed}
use Rattle.machine_laws.proofs.PortChanges.{kept_itself}
use Rattle.machine_laws.proofs.Works.{IsLawfulWork, made_kept}
use Rattle.machine_laws.proofs.Units.{resources_of, resources_as}
use Rattle.machine_laws.proofs.Parts.{ports_in_list, parts_of, sound_from}
use Rattle.machine_laws.proofs.Headers.{noticed_found, worked_found}
use Rattle.machine_laws.proofs.Rooms.{costs, costs_same, sound_with}
use Rattle.machine_laws.proofs.Accepting.{passed, not_not, both_of}
use Rattle.machine_laws.proofs.Listed.{IsIn, AreIn, first_in, todo_in}
use Rattle.machine_laws.proofs.Shifting.{Shifted, shifted_none, shifted_one, shift_out, parts_shifted}

-- ---- what a claim that gives a work has passed

first_none : {E : Type 0} (xs ys : List (Bool × E)) → first_of_these (xs ++ ys) ≡ None → (first_of_these xs ≡ None) × (first_of_these ys ≡ None)
first_none [] ys h = (refl, h)
first_none (x ∷ xs) ys h = let a = passed x.0 x.1 (first_of_these (xs ++ ys)) h in let b = first_none xs ys a.1 in (rw a.0 b.0, b.1)

pub record IsClaimable (l : Look) (c : Component) : Type 0 where
  pub free : c.work ≡ None
  pub runs : is_executing c.state ≡ true
  pub rests : is_at_rest c ≡ true
  pub opens : each_port c is_open ≡ true
  pub goes : (c.part.ended || c.part.failed) ≡ false
  pub held : first_of_these (map (held_test c) (ports_of c)) ≡ None
  pub filled : first_of_these (map (data_test l.headers) (filter is_input_port (wanted c))) ≡ None
  pub space : first_of_these (map (room_test l.headers) (filter is_output_port (wanted c))) ≡ None
  pub room : reserve_for (wanted c) ≤ room c

none_of : {A : Type 0} (o : Option A) → is_some o ≡ false → o ≡ None
none_of None h = refl
none_of (Some x) h = absurd cc

pub claim_passes : (l : Look) (c : Component) → claim_idle l c ≡ None → IsClaimable l c
claim_passes l c h =
    let a = passed (is_some c.work) ClaimedBusy _ h in
    let b = passed (not (is_claimable c)) ClaimedNotRunning _ a.1 in
    let d = passed (c.part.ended || c.part.failed) ClaimedEnded _ b.1 in
    let last : List (Bool × Claimed) = (nat_lt (room c) (reserve_for (wanted c)), ClaimedEvents (room c) (reserve_for (wanted c))) ∷ [] in
    let held : List (Bool × Claimed) = map (held_test c) (ports_of c) in
    let filled : List (Bool × Claimed) = map (data_test l.headers) (filter is_input_port (wanted c)) in
    let space : List (Bool × Claimed) = map (room_test l.headers) (filter is_output_port (wanted c)) in
    let g = first_none (held ++ filled ++ space) last d.1 in
    let f = first_none (held ++ filled) space g.0 in
    let e = first_none held filled f.0 in
    let i = passed (nat_lt (room c) (reserve_for (wanted c))) (ClaimedEvents (room c) (reserve_for (wanted c))) _ g.1 in
    let x = both_of (is_executing c.state && is_at_rest c) (each_port c is_open) (not_not (is_claimable c) b.0) in
    let y = both_of (is_executing c.state) (is_at_rest c) x.0 in
    record {
      free = none_of c.work a.0;
      runs = y.0;
      rests = y.1;
      opens = x.1;
      goes = d.0;
      held = e.0;
      filled = e.1;
      space = f.1;
      room = ltb-false (room c) (reserve_for (wanted c)) i.0;
    }

-- ---- the headers that are picked

-- each header is in its port, and the ports rise
abbrev pub AreInPorts : ℕ → ℕ → List HeaderRecord → List Picked → Type 0
AreInPorts k from hs [] = Unit {0}
AreInPorts k from hs (x ∷ xs) = (from ≤ x.port) × IsIn (record { component = k; port = x.port }) hs x.number × AreInPorts k (suc x.port) hs xs

in_ports_weaker : (k low from : ℕ) (hs : List HeaderRecord) (xs : List Picked) → low ≤ from → AreInPorts k from hs xs → AreInPorts k low hs xs
in_ports_weaker k low from hs [] l A = tt
in_ports_weaker k low from hs (x ∷ xs) l A = (omega (arith, A.0), A.1, A.2)

picked_weaker : (low from ports : ℕ) (xs : List Picked) → low ≤ from → ArePicked from xs ports → ArePicked low xs ports
picked_weaker low from ports [] l A = tt
picked_weaker low from ports (x ∷ xs) l A = (omega (arith, A.0), A.1, A.2)

module _ (hs : List HeaderRecord) (once : (key : PortKey) → AreIn key hs ((seen hs).todo key)) (k : ℕ) (test : Port → Bool) where
  front_in : (index : ℕ) (p : Port) (ns : List ℕ) (rest : List Picked) → p.key ≡ record { component = k; port = index } → (seen hs).todo p.key ≡ ns → AreInPorts k (suc index) hs rest → AreInPorts k index hs (first_picked p ns rest)
  front_in index p [] rest e q A = in_ports_weaker k index (suc index) hs rest (omega arith) A
  front_in index p (n ∷ ns) rest e q A =
      let port : p.key.port ≡ index = ap (λ (x : PortKey). x.port) e in
      let key : p.key ≡ record { component = k; port = p.key.port } = e ∙ ap (λ (x : ℕ). record { component = k; port = x }) (sym port) in
      let I = subst (λ (x : PortKey). IsIn x hs n) key (first_in p.key hs ((seen hs).todo p.key) ns n (once p.key) q) in
      (omega (arith, port), I, subst (λ (x : ℕ). AreInPorts k (suc x) hs rest) (sym port) A)

  picked_in : (index : ℕ) (ss : List PortSetting) (ps : List PortState) → AreInPorts k index hs (picked (seen hs) (filter test (ports_from k index ss ps)))
  picked_in index [] ps = tt
  picked_in index (s ∷ ss) [] = tt
  picked_in index (s ∷ ss) (p ∷ ps) =
      let q : Port = record { key = record { component = k; port = index }; setting = s; state = p } in
      let z : index + 1 ≡ suc index = omega arith in
      let i : AreInPorts k (suc index) hs (picked (seen hs) (filter test (ports_from k (index + 1) ss ps))) =
      subst (λ (x : ℕ). AreInPorts k x hs (picked (seen hs) (filter test (ports_from k (index + 1) ss ps)))) z (picked_in (index + 1) ss ps) in
      either (test q) (λ t. rw t (front_in index q ((seen hs).todo q.key) _ refl refl i)) (λ f. rw f (in_ports_weaker k index (suc index) hs _ (omega arith) i))

front_rises : (index ports : ℕ) (p : Port) (ns : List ℕ) (rest : List Picked) → p.key.port ≡ index → index < ports → ArePicked (suc index) rest ports → ArePicked index (first_picked p ns rest) ports
front_rises index ports p [] rest e l A = picked_weaker index (suc index) ports rest (omega arith) A
front_rises index ports p (n ∷ ns) rest e l A = (omega (arith, e), omega (arith, e), subst (λ (x : ℕ). ArePicked (suc x) rest ports) (sym e) A)

pub picked_rise : (s : Seen) (k : ℕ) (test : Port → Bool) (index ports : ℕ) (ss : List PortSetting) (ps : List PortState) → index + length ps ≤ ports → ArePicked index (picked s (filter test (ports_from k index ss ps))) ports
picked_rise s k test index ports [] ps l = tt
picked_rise s k test index ports (x ∷ ss) [] l = tt
picked_rise s k test index ports (x ∷ ss) (p ∷ ps) l =
    let q : Port = record { key = record { component = k; port = index }; setting = x; state = p } in
    let z : index + 1 ≡ suc index = omega arith in
    let i : ArePicked (suc index) (picked s (filter test (ports_from k (index + 1) ss ps))) ports =
    subst (λ (x : ℕ). ArePicked x (picked s (filter test (ports_from k (index + 1) ss ps))) ports) z (picked_rise s k test (index + 1) ports ss ps (omega arith)) in
    either (test q) (λ t. rw t (front_rises index ports q (s.todo q.key) _ refl (omega arith) i)) (λ f. rw f (picked_weaker index (suc index) ports _ (omega arith) i))

front_length : (p : Port) (ns : List ℕ) (rest : List Picked) → length (first_picked p ns rest) ≤ suc (length rest)
front_length p [] rest = omega arith
front_length p (n ∷ ns) rest = omega arith

pub picked_length : (s : Seen) (ps : List Port) → length (picked s ps) ≤ length ps
picked_length s [] = omega arith
picked_length s (p ∷ ps) = omega (arith, front_length p (s.todo p.key) (picked s ps), picked_length s ps)

announcing_none : (s : Seen) (c : Component) → must_announce c ≡ true → picked s (wanted c) ≡ []
announcing_none s c h = rw h refl

pub headers_in : (hs : List HeaderRecord) (c : Component) → ((key : PortKey) → AreIn key hs ((seen hs).todo key)) → AreInPorts (number_of c) 0 hs (work_of (seen hs) c).headers
headers_in hs c I = either (must_announce c)
    (λ t. rw t tt)
    (λ f. rw f (picked_in hs I (number_of c) (gives_header c) 0 c.settings.ports c.ports))

headers_rise : (s : Seen) (c : Component) → ArePicked 0 (work_of s c).headers (length c.ports)
headers_rise s c = either (must_announce c)
    (λ t. rw t tt)
    (λ f. rw f (picked_rise s (number_of c) (gives_header c) 0 (length c.ports) c.settings.ports c.ports (omega arith)))

any_late : (c : Component) (ps : List Port) → list_any (is_unannounced c) ps ≡ true → is_late c.settings.kind ≡ true
any_late c [] h = absurd cc
any_late c (p ∷ ps) h = either (is_unannounced c p)
    (λ t. (both_of (is_late c.settings.kind) _ (both_of (is_late c.settings.kind && not p.state.held) _ t).0).0)
    (λ f. any_late c ps (rw f at h))

pub running_of : (s : State) → is_executing s ≡ true → is_running s ≡ true
running_of states.Invalid h = absurd cc
running_of states.Loaded h = absurd cc
running_of states.Idle h = absurd cc
running_of states.Executing h = refl
running_of states.Pause h = absurd cc
running_of states.WaitForResources h = absurd cc

or_left : (a b : Bool) → a ≡ true → (a || b) ≡ true
or_left a b h = rw h refl

-- ---- they go out

pub in_ports_kept : (k from n port : ℕ) (hs ks : List HeaderRecord) (s : HeaderRecord) (I : IsIn (record { component = k; port = port }) hs n) → IsReplaced n I.header s hs ks → port < from → (xs : List Picked)
    → AreInPorts k from hs xs → AreInPorts k from ks xs
in_ports_kept k from n port hs ks s I R l [] A = tt
in_ports_kept k from n port hs ks s I R l (x ∷ xs) A =
    let J = A.1 in
    let apart : x.number ≢ n = λ e.
    let f : find_header n hs ≡ Some J.header = subst (λ (m : ℕ). find_header m hs ≡ Some J.header) e J.found in
    let g : Some J.header ≡ Some I.header = sym f ∙ I.found in
    let h : J.header ≡ I.header = cc in
    let o = sym J.owner ∙ (ap (λ (y : HeaderRecord). y.state.owner) h ∙ I.owner) in
    let a : PortKey = record { component = k; port = x.port } in
    let b : PortKey = record { component = k; port = port } in
    let q : a ≡ b = cc in
    let p : x.port ≡ port = ap (λ (y : PortKey). y.port) {x = a} {y = b} q in
    omega (arith, A.0) in
    (A.0, record { header = J.header; found = R.others x.number apart ∙ J.found; owner = J.owner }, in_ports_kept k (suc x.port) n port hs ks s I R (omega (arith, A.0)) xs A.2)

or_right : (a b : Bool) → b ≡ true → (a || b) ≡ true
or_right true b h = refl
or_right false b h = h

pub of_component : (key : PortKey) (s : HeaderState) → is_for key s ≡ true → is_for_component key.component s ≡ true
of_component key s h = elim (for_which key s h) [
  | inl e ↦ or_left _ _ (eq-eqb s.port.component key.component (ap (λ (x : PortKey). x.component) e))
  | inr e ↦
      let z : is_key_of key.component s.peer ≡ true = rw e (eq-eqb key.component key.component refl) in
      or_right (nat_eq s.port.component key.component) _ z
]

pub shifted_out : (ports : PortKey → Option Port) (k from : ℕ) (hs ks : List HeaderRecord) (notes work : List ℕ) (xs : List Picked) → Shifted ports k hs notes work ks → AreInPorts k from ks xs
    → Shifted ports k hs notes (work ++ map (λ x. x.number) xs) (all_given_out k xs ks)
shifted_out ports k from hs ks notes work [] A I = rw (append-nil work) A
shifted_out ports k from hs ks notes work (x ∷ xs) A I =
    let key : PortKey = record { component = k; port = x.port } in
    let J = I.1 in
    let n : ℕ = x.number in
    let r : HeaderRecord = J.header in
    let ls : List HeaderRecord = changed n (given_to (owners.Work k)) ks in
    let R = replaced_changed (given_to (owners.Work k)) (λ y. refl) n ks r A.once J.found in
    let O : IsOwnedSo r.state (owners.Port key) = rw J.owner at (A.tied.placed n r J.found).owner in
    let a : times n notes ≡ 0 = A.noted n ∙ (ap weight (noticed_found k n ks r J.found) ∙ rw J.owner refl) in
    let b : times n work ≡ 0 = A.worked n ∙ (ap weight (worked_found k n ks r J.found) ∙ rw J.owner refl) in
    let B = shifted_one ports k n hs ks ls r (given_to (owners.Work k) r) notes work notes (work ++ n ∷ []) A R (record { port = refl; peer = refl; home = refl }) (refl, of_component key r.state O.0)
    (rw J.owner (shift_out k n key notes work a b)) in
    let C = shifted_out ports k (suc x.port) hs ls notes (work ++ n ∷ []) xs B (in_ports_kept k (suc x.port) n x.port ks ls (given_to (owners.Work k) r) J R (omega arith) xs I.2) in
    subst (λ (l : List ℕ). Shifted ports k hs notes l (all_given_out k xs ls)) (append_assoc work (n ∷ []) (map (λ y. y.number) xs)) C

-- ---- the component with its work

abbrev pub with_its : Work → Component → Component
with_its work c = record c { work = Some work }

sound_its : (s : Seen) (c : Component) → IsSound c → c.work ≡ None → reserve_for (wanted c) ≤ room c → IsSound (with_its (work_of s c) c)
sound_its s c S f l =
    let work : Work = work_of s c in
    let d : Component = with_its work c in
    let k : costs d ≡ costs c = costs_same c d c.commands refl in
    let z : used d ≡ used c + (length work.headers + 2) = rw f (omega (arith, k)) in
    let b = picked_length s (wanted c) in
    sound_with d (record { whole = S.whole; ports = S.ports; settings = S.settings; fit = S.fit; file = S.file; cause = S.cause; mark = S.mark; commands = S.commands }) (omega (arith, S.room))

pub units_its : (waits : ℕ) (c : Component) (work : Work) → IsUnitSound waits c → IsUnitSound waits (with_its work c)
units_its waits c work U = record { holds = U.holds; gives = U.gives; waiting = U.waiting; numbered = U.numbered; way = U.way; held = U.held; inputs = U.inputs }

lawful_its : (s : Seen) (c : Component) → is_executing c.state ≡ true → IsLawfulWork (with_its (work_of s c) c) (work_of s c)
lawful_its s c e = record {
  state = or_left _ _ (running_of c.state e);
  rising = headers_rise s c;
  announced = λ a. (any_late c (ports_of c) a, announcing_none s c a);
  weights = refl;
}

-- the headers of the work were made for their ports
pub picked_made : (hs ks : List HeaderRecord) (ports : PortKey → Option Port) (k from : ℕ) (notes work : List ℕ) (xs : List Picked) → Shifted ports k hs notes work ks → AreInPorts k from ks xs → All (IsPickedFor (seen ks) k) xs
picked_made hs ks ports k from notes work [] A I = All-nil _
picked_made hs ks ports k from notes work (x ∷ xs) A I =
    let key : PortKey = record { component = k; port = x.port } in
    let J = I.1 in
    let O : IsOwnedSo (J.header).state (owners.Port key) = rw J.owner at (A.tied.placed x.number J.header J.found).owner in
    All-cons (IsPickedFor (seen ks) k) x xs (rw J.found O.0) (picked_made hs ks ports k (suc x.port) notes work xs A I.2)

pub sound_claimed : (w : World) (i : ℕ) (c : Component) → Sound w → slice_get w.components i ≡ Some c → claim_idle (look w) c ≡ None → Sound (with_work i c (work_of (seen w.headers) c) w)
sound_claimed w i c S t h =
    let P = parts_of w S in
    let C = claim_passes (look w) c h in
    let k : ℕ = number_of c in
    let cs : List Component = w.components in
    let work : Work = work_of (seen w.headers) c in
    let d : Component = with_its work c in
    let U = (resources_of w S).each i c t in
    let A : Shifted (ports_in_list cs) k w.headers (note_numbers c.notes) [] w.headers = rw C.free at (shifted_none cs w.headers w.numbered w.made i c P t) in
    let I = headers_in w.headers c (λ key. todo_in key w.headers P.once) in
    let B = shifted_out (ports_in_list cs) k 0 w.headers w.headers (note_numbers c.notes) [] work.headers A I in
    let M = made_kept w.headers (all_given_out k work.headers w.headers) k work.headers B.made (picked_made w.headers w.headers (ports_in_list cs) k 0 (note_numbers c.notes) [] work.headers A I) in
    sound_from (with_work i c work w)
    (parts_shifted i cs w.headers (all_given_out k work.headers w.headers) w.numbered w.made c d P t B refl (λ x. kept_itself (all_given_out k work.headers w.headers) (port_of c x))
    (sound_its (seen w.headers) c (P.components i c t) C.free C.room)
    (λ x e. let s : x ≡ work = cc in rw s (lawful_its (seen w.headers) c C.runs, M)))
    (resources_as w.waits w.units i cs w.streams c d t refl refl refl (units_its w.waits c work U) (resources_of w S))
