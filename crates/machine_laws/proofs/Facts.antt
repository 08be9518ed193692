-- What a sound world tells of one component, port and header.
use Rattle.std.proofs.Common.{◌≡◌, ◌≢◌, inl, inr, ℕ, zero, suc, ◌+◌, ◌*◌, ◌<◌, ◌≤◌, Bool, true, false, nat_eq, List, [], ◌∷◌, length, slice_get, Some, None, refl, sym, ◌∙◌, ap, subst, eqb-true, eq-eqb, mul-suc, zero-mul, arith}
use Rattle.std.proofs.lemmas.Bool.{cases_eq}
use Rattle.il_machine.specs.declared.port.PortKey.{PortKey}
use Rattle.il_machine.specs.declared.port.Link.{Link}
use Rattle.il_machine.specs.declared.port.Port.{Port}
use Rattle.il_machine.specs.declared.port.PortSetting.{PortSetting}
use Rattle.il_machine.specs.declared.port.PortState.{PortState}
use Rattle.il_machine.specs.declared.header.HeaderState.{HeaderState}
use Rattle.il_machine.specs.declared.header.Owner.{Owner}
use Rattle.il_machine.specs.declared.header.Owner.TheVariants as owners
use Rattle.il_machine.specs.Kinds.{is_input, ports_in}
use Rattle.il_machine.specs.World.{Component, HeaderRecord, World, number_of, ports_from, ports_of, port_of}
use Rattle.il_machine.specs.Headers.{find_header, count_headers, weight, is_for, is_notice_of, without, Once}
use Rattle.il_machine.specs.Look.{look}
use Rattle.il_machine.specs.Census.{note_numbers, times}
use Rattle.il_machine.specs.Components.{free_refusal}
use Rattle.il_machine.specs.Flow.{End, end_of}
use Rattle.il_machine.specs.Ports.{has_no_header}
use Rattle.il_machine.specs.Sound.{Sound, IsSound, IsMadeFor, IsOwnedSo, AreJoined, port_at}
use Rattle.machine_laws.proofs.Every.{all_pass}
use Rattle.machine_laws.proofs.Finding.{either, found_head, found_tail, without_else, without_same, once_without, count_without}
use Rattle.machine_laws.proofs.Keys.{for_port, there_is}
use Rattle.machine_laws.proofs.Lookups.{has_port, port_parts, port_there_at, same_place}
use Rattle.machine_laws.proofs.Ties.{other_side, for_client}
use Rattle.machine_laws.proofs.Parts.{ports_in_list, parts_of}
use Rattle.machine_laws.proofs.Headers.{noticed_found}
use Rattle.machine_laws.proofs.Listed.{times_cons, times_self, weighs_one, IsIn}
use Rattle.machine_laws.proofs.Notices.{notice_is}
use Rattle.machine_laws.proofs.Flowing.{end_there}
use Rattle.machine_laws.proofs.Tunnels.{DefinitionParts, definition_parts}
use Rattle.machine_laws.proofs.Coming.{free_handle_passes}

-- ---- limits of a port

-- a port's definition is within its limits: a count of 1 to 32, a size of 1 to 4,096
pub port_limits : (c : Component) (index : ℕ) (p : Port) → IsSound c → port_of c index ≡ Some p → DefinitionParts (is_input c.settings.kind index) p.setting.definition
port_limits c index p S e = definition_parts (is_input c.settings.kind index) p.setting.definition (S.settings index p.setting (port_parts c index p e).setting).0

-- at most 32 headers are made for a port
pub made_fit : (w : World) (i : ℕ) (c : Component) (index : ℕ) (p : Port) → Sound w → slice_get w.components i ≡ Some c → port_of c index ≡ Some p → count_headers (is_for p.key) w.headers ≤ 32
made_fit w i c index p S t e =
    let P = parts_of w S in
    let f = P.tied.few p.key p (port_there_at w.numbered i w.components c index p P.rising t e) in
    let D = port_limits c index p (P.components i c t) e in
    omega (arith, D.most_count)

-- ---- the other end of a tunnel

-- the other end is there, and is joined to this one
pub record HasPeer (w : World) (p : Port) (link : Link) : Type 0 where
  pub other : End
  pub found : end_of w.components link.peer ≡ Some other
  pub key : (other.port).key ≡ link.peer
  pub joined : AreJoined p link other.port

pub peer_there : (w : World) (i : ℕ) (c : Component) (index : ℕ) (p : Port) (link : Link) → Sound w → slice_get w.components i ≡ Some c → port_of c index ≡ Some p → p.state.link ≡ Some link → HasPeer w p link
peer_there w i c index p link S t e l =
    let P = parts_of w S in
    let q = other_side (ports_in_list w.components) w.headers p.key p link P.tied (port_there_at w.numbered i w.components c index p P.rising t e) l in
    let x = end_there (end_of w.components link.peer) q.0 q.1 in
    record {
      other = x.0;
      found = x.1;
      key = ap (λ (y : Port). y.key) x.2 ∙ P.tied.keyed link.peer q.0 q.1;
      joined = subst (λ (y : Port). AreJoined p link y) (sym x.2) q.2;
    }

-- ---- the header of a note

pub record IsNoticed (w : World) (k n : ℕ) : Type 0 where
  pub header : HeaderRecord
  pub found : find_header n w.headers ≡ Some header
  pub owner : header.state.owner ≡ owners.Notice k
  pub owned : IsOwnedSo header.state (owners.Notice k)

-- a header whose number is among those of a component's notes
pub noticed_there : (w : World) (i : ℕ) (c : Component) (n : ℕ) → Sound w → slice_get w.components i ≡ Some c → 1 ≤ times n (note_numbers c.notes) → IsNoticed w (number_of c) n
noticed_there w i c n S t h =
    let P = parts_of w S in
    let a = P.noted i c t n in
    let r = weighs_one (find_header n w.headers) (λ s. is_notice_of (number_of c) s.owner) (omega arith) in
    let o : (r.0).state.owner ≡ owners.Notice (number_of c) = notice_is (number_of c) (r.0).state.owner r.2 in
    record { header = r.0; found = r.1; owner = o; owned = rw o at (P.tied.placed n r.0 r.1).owner }

-- ---- how many headers are in notes

-- how often the numbers of the headers stand in a list
abbrev all_times : List ℕ → List HeaderRecord → ℕ
all_times ns [] = 0
all_times ns (r ∷ hs) = times r.state.number ns + all_times ns hs

-- whether a number is one of the headers'
abbrev there_weight : ℕ → List HeaderRecord → ℕ
there_weight n [] = 0
there_weight n (r ∷ hs) = weight (nat_eq n r.state.number) + there_weight n hs

one_more_number : (n : ℕ) (ns : List ℕ) (hs : List HeaderRecord) → all_times (n ∷ ns) hs ≡ there_weight n hs + all_times ns hs
one_more_number n ns [] = refl
one_more_number n ns (r ∷ hs) = let c = times_cons r.state.number n ns in omega (arith, one_more_number n ns hs)

there_once : (n : ℕ) (hs : List HeaderRecord) (r : HeaderRecord) → find_header n hs ≡ Some r → 1 ≤ there_weight n hs
there_once n [] r f = absurd cc
there_once n (x ∷ hs) r f = elim (cases_eq x.state.number n) [
  | inl e ↦ let w : weight (nat_eq n x.state.number) ≡ 1 = rw (eq-eqb n x.state.number (sym e)) refl in omega arith
  | inr a ↦ let g : find_header n hs ≡ Some r = sym (found_tail n x hs a) ∙ f in omega (arith, there_once n hs r g)
]

found_below : (x : HeaderRecord) (hs : List HeaderRecord) (n : ℕ) (r : HeaderRecord) → find_header x.state.number hs ≡ None → find_header n hs ≡ Some r → find_header n (x ∷ hs) ≡ Some r
found_below x hs n r o f =
    let apart : x.state.number ≢ n = λ e. let a : find_header n hs ≡ None = rw e at o in absurd cc in
    found_tail n x hs apart ∙ f

length_times : (ns : List ℕ) (hs : List HeaderRecord) → ((n : ℕ) → 1 ≤ times n ns → (r : HeaderRecord) × (find_header n hs ≡ Some r)) → length ns ≤ all_times ns hs
length_times [] hs h = omega arith
length_times (n ∷ ns) hs h =
    let here = h n (omega (arith, times_self n ns)) in
    let one = there_once n hs here.0 here.1 in
    let rest = length_times ns hs (λ m l. h m (omega (arith, times_cons m n ns))) in
    let more = one_more_number n ns hs in
    omega arith

times_counted : (ns : List ℕ) (test : HeaderState → Bool) (hs : List HeaderRecord) → Once hs → ((n : ℕ) (r : HeaderRecord) → find_header n hs ≡ Some r → times n ns ≤ weight (test r.state))
    → all_times ns hs ≤ count_headers test hs
times_counted ns test [] o h = omega arith
times_counted ns test (x ∷ hs) o h =
    let here = h x.state.number x (found_head x.state.number x hs refl) in
    let rest = times_counted ns test hs o.1 (λ n r f. h n r (found_below x hs n r o.0 f)) in
    omega arith

count_le : (t u : HeaderState → Bool) (hs : List HeaderRecord) → Once hs → ((n : ℕ) (r : HeaderRecord) → find_header n hs ≡ Some r → weight (t r.state) ≤ weight (u r.state)) → count_headers t hs ≤ count_headers u hs
count_le t u [] o h = omega arith
count_le t u (x ∷ hs) o h =
    let here = h x.state.number x (found_head x.state.number x hs refl) in
    let rest = count_le t u hs o.1 (λ n r f. h n r (found_below x hs n r o.0 f)) in
    omega arith

-- one header that passes the second test alone
count_lt : (t u : HeaderState → Bool) (hs : List HeaderRecord) (k : ℕ) (s : HeaderRecord) → Once hs → ((n : ℕ) (r : HeaderRecord) → find_header n hs ≡ Some r → weight (t r.state) ≤ weight (u r.state))
    → find_header k hs ≡ Some s → t s.state ≡ false → u s.state ≡ true → count_headers t hs < count_headers u hs
count_lt t u hs k s o h f a b =
    let rest = count_le t u (without k hs) (once_without k hs o) (λ n r g. elim (cases_eq n k) [
      | inl e ↦ let z : find_header k (without k hs) ≡ Some r = rw e at g in let y = without_same k hs o in absurd cc
      | inr d ↦ h n r (sym (without_else k n hs d) ∙ g)
    ]) in
    let x = count_without t k hs s f in
    let y = count_without u k hs s f in
    let w : weight (t s.state) ≡ 0 = rw a refl in
    let v : weight (u s.state) ≡ 1 = rw b refl in
    omega arith

-- ---- the headers made for the ports of a component

abbrev made_for_ports : List Port → List HeaderRecord → ℕ
made_for_ports [] hs = 0
made_for_ports (p ∷ ps) hs = count_headers (is_for p.key) hs + made_for_ports ps hs

abbrev ports_weight : List Port → HeaderState → ℕ
ports_weight [] s = 0
ports_weight (p ∷ ps) s = weight (is_for p.key s) + ports_weight ps s

one_for_ports : (ps : List Port) (r : HeaderRecord) (hs : List HeaderRecord) → made_for_ports ps (r ∷ hs) ≡ ports_weight ps r.state + made_for_ports ps hs
one_for_ports [] r hs = refl
one_for_ports (p ∷ ps) r hs = omega (arith, one_for_ports ps r hs)

some_port : (ps : List Port) (k : ℕ) (p : Port) (s : HeaderState) → slice_get ps k ≡ Some p → is_for p.key s ≡ true → 1 ≤ ports_weight ps s
some_port [] k p s e f = absurd cc
some_port (q ∷ ps) zero p s e f = let is : q ≡ p = cc in let w : weight (is_for q.key s) ≡ 1 = rw (is, f) refl in omega arith
some_port (q ∷ ps) (suc k) p s e f = omega (arith, some_port ps k p s e f)

below_ports : (test : HeaderState → Bool) (ps : List Port) (hs : List HeaderRecord) → Once hs → ((n : ℕ) (r : HeaderRecord) → find_header n hs ≡ Some r → weight (test r.state) ≤ ports_weight ps r.state)
    → count_headers test hs ≤ made_for_ports ps hs
below_ports test ps [] o h = omega arith
below_ports test ps (x ∷ hs) o h =
    let here = h x.state.number x (found_head x.state.number x hs refl) in
    let rest = below_ports test ps hs o.1 (λ n r f. h n r (found_below x hs n r o.0 f)) in
    omega (arith, one_for_ports ps x hs)

most_for_ports : (limit : ℕ) (ps : List Port) (hs : List HeaderRecord) → ((k : ℕ) (p : Port) → slice_get ps k ≡ Some p → count_headers (is_for p.key) hs ≤ limit) → made_for_ports ps hs ≤ limit * length ps
most_for_ports limit [] hs h = omega arith
most_for_ports limit (p ∷ ps) hs h =
    let here = h 0 p refl in
    let rest = most_for_ports limit ps hs (λ k q e. h (suc k) q e) in
    let m : limit * suc (length ps) ≡ limit * length ps + limit = mul-suc limit (length ps) in
    omega arith

length_ports : (number index : ℕ) (ss : List PortSetting) (ps : List PortState) → length ss ≡ length ps → length (ports_from number index ss ps) ≡ length ps
length_ports number index [] [] e = refl
length_ports number index [] (p ∷ ps) e = absurd (omega arith)
length_ports number index (s ∷ ss) [] e = absurd (omega arith)
length_ports number index (s ∷ ss) (p ∷ ps) e = ap suc (length_ports number (index + 1) ss ps (omega arith))

-- a component has as many ports as its kind
pub ports_number : (c : Component) → IsSound c → length (ports_of c) ≡ ports_in c.settings.kind
ports_number c S = length_ports (number_of c) 0 c.settings.ports c.ports (S.whole.ports ∙ sym S.ports) ∙ S.ports

-- ---- header notes

owned_so : (r : HeaderRecord) (owner : Owner) → r.state.owner ≡ owner → IsOwnedSo r.state r.state.owner → IsOwnedSo r.state owner
owned_so r owner e O = subst (IsOwnedSo r.state) e O

port_no_notice : (k : ℕ) (key : PortKey) (owner : Owner) → owner ≡ owners.Port key → is_notice_of k owner ≡ false
port_no_notice k key owner e = rw e refl

abbrev is_ports : ℕ → HeaderState → Bool
is_ports k s = nat_eq s.port.component k

module _ (w : World) (i : ℕ) (c : Component) (S : Sound w) (t : slice_get w.components i ≡ Some c) where
  -- a header whose own port is one of the component's
  own_weighs : (n : ℕ) (r : HeaderRecord) → find_header n w.headers ≡ Some r → weight (is_ports (number_of c) r.state) ≤ ports_weight (ports_of c) r.state
  own_weighs n r f =
      let P = parts_of w S in
      either (is_ports (number_of c) r.state)
      (λ b.
      let p = there_is (port_at r.state.port w.components) (IsMadeFor r.state.peer) (P.tied.placed n r f).port in
      let h = has_port r.state.port w.components p.0 p.1 in
      let e : number_of h.component ≡ number_of c = h.number ∙ eqb-true (r.state.port.component) (number_of c) b in
      let place = same_place 0 w.numbered h.place i w.components h.component c P.rising h.there t e in
      let s : Some h.component ≡ Some c = sym h.there ∙ (ap (slice_get w.components) place ∙ t) in
      let is : h.component ≡ c = cc in
      let g : port_of c r.state.port.port ≡ Some p.0 = subst (λ (x : Component). port_of x r.state.port.port ≡ Some p.0) is h.port in
      let k : is_for (p.0).key r.state ≡ true = for_port (p.0).key r.state (sym (P.tied.keyed r.state.port p.0 p.1)) in
      let one = some_port (ports_of c) r.state.port.port p.0 r.state g k in
      let v : weight (is_ports (number_of c) r.state) ≡ 1 = rw b refl in
      omega arith)
      (λ b. let v : weight (is_ports (number_of c) r.state) ≡ 0 = rw b refl in omega arith)

  notice_weighs_own : (n : ℕ) (r : HeaderRecord) → find_header n w.headers ≡ Some r → weight (is_notice_of (number_of c) r.state.owner) ≤ weight (is_ports (number_of c) r.state)
  notice_weighs_own n r f = either (is_notice_of (number_of c) r.state.owner)
      (λ b.
      let o : r.state.owner ≡ owners.Notice (number_of c) = notice_is (number_of c) r.state.owner b in
      let O = owned_so r (owners.Notice (number_of c)) o ((parts_of w S).tied.placed n r f).owner in
      let v : weight (is_ports (number_of c) r.state) ≡ 1 = rw (eq-eqb r.state.port.component (number_of c) O.2) refl in
      let u : weight (is_notice_of (number_of c) r.state.owner) ≡ 1 = rw b refl in
      omega arith)
      (λ b. let u : weight (is_notice_of (number_of c) r.state.owner) ≡ 0 = rw b refl in omega arith)

  -- the header notes are as many as the headers in them
  notes_counted : length (note_numbers c.notes) ≤ count_headers (λ s. is_notice_of (number_of c) s.owner) w.headers
  notes_counted =
      let P = parts_of w S in
      let a = length_times (note_numbers c.notes) w.headers (λ n l. let x = noticed_there w i c n S t l in (x.header, x.found)) in
      let b = times_counted (note_numbers c.notes) (λ s. is_notice_of (number_of c) s.owner) w.headers P.once (λ n r f.
      let e = P.noted i c t n in
      let g = ap weight (noticed_found (number_of c) n w.headers r f) in
      omega arith) in
      omega arith

  own_limit : count_headers (is_ports (number_of c)) w.headers ≤ 32 * ports_in c.settings.kind
  own_limit =
      let P = parts_of w S in
      let a = below_ports (is_ports (number_of c)) (ports_of c) w.headers P.once own_weighs in
      let b = most_for_ports 32 (ports_of c) w.headers (λ k p e. made_fit w i c k p S t e) in
      let n = ports_number c (P.components i c t) in
      omega arith

  -- no more header notes are queued than headers can be made for the component's ports
  pub notes_fit : length (note_numbers c.notes) ≤ 32 * ports_in c.settings.kind
  notes_fit = let a = notes_counted in let b = count_le (λ s. is_notice_of (number_of c) s.owner) (is_ports (number_of c)) w.headers (parts_of w S).once notice_weighs_own in let d = own_limit in omega arith

  -- and fewer where a header of a client port is in a list of the port
  pub notes_fewer : (index : ℕ) (p : Port) (n : ℕ) → port_of c index ≡ Some p → p.state.link ≡ None → IsIn p.key w.headers n → length (note_numbers c.notes) < 32 * ports_in c.settings.kind
  notes_fewer index p n e l I =
      let P = parts_of w S in
      let r : HeaderRecord = I.header in
      let at = port_there_at w.numbered i w.components c index p P.rising t e in
      let Q = P.tied.placed n r I.found in
      let O = owned_so r (owners.Port p.key) I.owner Q.owner in
      let k = for_client (ports_in_list w.components) w.headers p.key p r.state P.tied at l Q O.0 in
      let comp : r.state.port.component ≡ number_of c = ap (λ x. x.component) k.0 ∙ ap (λ x. x.component) (port_parts c index p e).key in
      let a = notes_counted in
      let b = count_lt (λ s. is_notice_of (number_of c) s.owner) (is_ports (number_of c)) w.headers n r P.once notice_weighs_own I.found
      (port_no_notice (number_of c) p.key r.state.owner I.owner) (eq-eqb r.state.port.component (number_of c) comp) in
      let d = own_limit in
      omega arith

  -- a component that may be freed has no header in its notes
  pub notes_empty : free_refusal (look w).headers c ≡ None → length (note_numbers c.notes) ≡ 0
  notes_empty h =
      let P = parts_of w S in
      let F = free_handle_passes (look w).headers c h in
      let a = notes_counted in
      let b = count_le (λ s. is_notice_of (number_of c) s.owner) (is_ports (number_of c)) w.headers P.once notice_weighs_own in
      let d = below_ports (is_ports (number_of c)) (ports_of c) w.headers P.once own_weighs in
      let e = most_for_ports 0 (ports_of c) w.headers (λ k p g. let z = eqb-true (count_headers (is_for p.key) w.headers) 0 (all_pass (has_no_header (look w).headers) (ports_of c) k p F.0 g) in omega arith) in
      let z : 0 * length (ports_of c) ≡ 0 = zero-mul (length (ports_of c)) in
      omega arith
