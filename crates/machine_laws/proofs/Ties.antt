-- How ports and headers hang together: the part of a sound world that no component has by itself. Ports are looked up by their keys.
use Rattle.std.proofs.Common.{◌≡◌, ◌≢◌, inl, inr, ℕ, ◌≤◌, ◌<◌, Bool, true, false, List, [], ◌∷◌, ◌++◌, Option, Some, None, MatchOption, refl, sym, ◌∙◌, ap, arith}
use Rattle.std.proofs.lemmas.Bool.{cases_eq}
use Rattle.il_machine.specs.declared.port.PortKey.{PortKey}
use Rattle.il_machine.specs.declared.port.Link.{Link}
use Rattle.il_machine.specs.declared.port.Port.{Port}
use Rattle.il_machine.specs.declared.header.HeaderState.{HeaderState}
use Rattle.il_machine.specs.World.{HeaderRecord}
use Rattle.il_machine.specs.Headers.{find_header, count_headers, weight, is_for, Once, without}
use Rattle.il_machine.specs.Sound.{home_for, IsMadeFor, IsOwnedSo, AreJoined}
use Rattle.machine_laws.proofs.Finding.{either, found_tail, found_head, without_else, without_same, count_without, push_last, push_else, count_push}
use Rattle.machine_laws.proofs.Keys.{for_which, for_port, for_peer, there_is, at_there, none_or_some}
use Rattle.machine_laws.proofs.Replacing.{IsReplaced}

-- a header as it may stand among the ports
pub record IsSet (ports : PortKey → Option Port) (s : HeaderState) : Type 0 where
  pub home : s.home ≡ home_for s.port s.peer
  pub port : MatchOption (ports s.port) ⊥ (IsMadeFor s.peer)
  pub owner : IsOwnedSo s s.owner

abbrev pub IsJoinedBy : (PortKey → Option Port) → Port → Option Link → Type 0
IsJoinedBy ports p None = Unit {0}
IsJoinedBy ports p (Some link) = MatchOption (ports link.peer) ⊥ (AreJoined p link)

pub record Tied (ports : PortKey → Option Port) (hs : List HeaderRecord) : Type 0 where
  pub keyed : (key : PortKey) (p : Port) → ports key ≡ Some p → p.key ≡ key
  pub joined : (key : PortKey) (p : Port) → ports key ≡ Some p → IsJoinedBy ports p p.state.link
  pub few : (key : PortKey) (p : Port) → ports key ≡ Some p → count_headers (is_for key) hs ≤ p.setting.definition.count
  pub placed : (n : ℕ) (r : HeaderRecord) → find_header n hs ≡ Some r → IsSet ports r.state

-- ---- what follows

-- a header that passes is counted
pub counted : (test : HeaderState → Bool) (n : ℕ) (hs : List HeaderRecord) (r : HeaderRecord) → find_header n hs ≡ Some r → test r.state ≡ true → 1 ≤ count_headers test hs
counted test n hs r f t =
    let c = count_without test n hs r f in
    let w : weight (test r.state) ≡ 1 = rw t refl in
    omega arith

pub none_counted : (test : HeaderState → Bool) (hs : List HeaderRecord) → Once hs → ((n : ℕ) (r : HeaderRecord) → find_header n hs ≡ Some r → test r.state ≡ false) → count_headers test hs ≡ 0
none_counted test [] o h = refl
none_counted test (x ∷ hs) o h =
    let i = none_counted test hs o.1 (λ n r f.
    let apart : x.state.number ≢ n = λ e. let a : find_header n hs ≡ None = rw e at o.0 in absurd cc in
    h n r (found_tail n x hs apart ∙ f)) in
    rw (h x.state.number x (found_head x.state.number x hs refl)) (omega arith)

joined_at : (ports : PortKey → Option Port) (p : Port) (o : Option Link) (link : Link) → IsJoinedBy ports p o → o ≡ Some link → MatchOption (ports link.peer) ⊥ (AreJoined p link)
joined_at ports p o link J e = rw e at J

-- the other end of a port
pub other_side : (ports : PortKey → Option Port) (hs : List HeaderRecord) (key : PortKey) (p : Port) (link : Link) → Tied ports hs → ports key ≡ Some p → p.state.link ≡ Some link
    → (q : Port) × (ports link.peer ≡ Some q) × AreJoined p link q
other_side ports hs key p link T e l = there_is (ports link.peer) (AreJoined p link) (joined_at ports p p.state.link link (T.joined key p e) l)

pub made_peer : (peer : Option PortKey) (key : PortKey) (o : Port) → IsMadeFor peer o → peer ≡ Some key → (link : Link) × (o.state.link ≡ Some link) × (link.peer ≡ key)
made_peer peer key o M e =
    let m : IsMadeFor (Some key) o = rw e at M in
    there_is o.state.link (λ link. link.peer ≡ key) m.1

made_joined : (peer : Option PortKey) (p : Port) (link : Link) → IsMadeFor peer p → p.state.link ≡ Some link → peer ≡ Some link.peer
made_joined None p link M l = let n : p.state.link ≡ None = M in absurd cc
made_joined (Some k) p link M l =
    let e : link.peer ≡ k = at_there p.state.link (λ x. x.peer ≡ k) link l M.1 in
    rw e refl

-- a header for one end of a tunnel is for the other end too
pub for_both : (ports : PortKey → Option Port) (hs : List HeaderRecord) (key : PortKey) (p : Port) (link : Link) (s : HeaderState)
    → Tied ports hs → ports key ≡ Some p → p.state.link ≡ Some link → IsSet ports s → is_for key s ≡ true → is_for link.peer s ≡ true
for_both ports hs key p link s T e l S f = elim (for_which key s f) [
  | inl h ↦
      let m = at_there (ports s.port) (IsMadeFor s.peer) p (rw h e) S.port in
      for_peer link.peer s (made_joined s.peer p link m l)
  | inr h ↦
      let o = there_is (ports s.port) (IsMadeFor s.peer) S.port in
      let k = made_peer s.peer key o.0 o.2 h in
      let q = other_side ports hs s.port o.0 k.0 T o.1 k.1 in
      let same : Some q.0 ≡ Some p = sym q.1 ∙ (rw k.2 e) in
      let is : q.0 ≡ p = cc in
      let back : p.state.link ≡ Some (record { peer = (o.0).key; supplier = (k.0).supplier }) = rw is at (q.2).back in
      let at : link.peer ≡ (o.0).key = cc in
      for_port link.peer s (sym (T.keyed s.port o.0 o.1) ∙ sym at)
]

-- a header for a client port is the client's
pub for_client : (ports : PortKey → Option Port) (hs : List HeaderRecord) (key : PortKey) (p : Port) (s : HeaderState)
    → Tied ports hs → ports key ≡ Some p → p.state.link ≡ None → IsSet ports s → is_for key s ≡ true → (s.port ≡ key) × (s.peer ≡ None)
for_client ports hs key p s T e l S f = elim (for_which key s f) [
  | inl h ↦
      let m = at_there (ports s.port) (IsMadeFor s.peer) p (rw h e) S.port in
      elim (none_or_some s.peer) [
        | inl n ↦ (h, n)
        | inr k ↦ let x = made_peer s.peer k.0 p m k.1 in absurd cc
      ]
  | inr h ↦
      let o = there_is (ports s.port) (IsMadeFor s.peer) S.port in
      let k = made_peer s.peer key o.0 o.2 h in
      let q = other_side ports hs s.port o.0 k.0 T o.1 k.1 in
      let same : Some q.0 ≡ Some p = sym q.1 ∙ (rw k.2 e) in
      let is : q.0 ≡ p = cc in
      let back : p.state.link ≡ Some (record { peer = (o.0).key; supplier = (k.0).supplier }) = rw is at (q.2).back in
      absurd cc
]

-- ---- headers change

-- the second header is made as the first
pub record IsMadeAs (r s : HeaderState) : Type 0 where
  pub port : s.port ≡ r.port
  pub peer : s.peer ≡ r.peer
  pub home : s.home ≡ r.home

for_same : (key : PortKey) (r s : HeaderState) → IsMadeAs r s → is_for key s ≡ is_for key r
for_same key r s M = rw (M.port, M.peer) refl

count_kept : (key : PortKey) (n : ℕ) (r s : HeaderRecord) (hs ks : List HeaderRecord) → IsReplaced n r s hs ks → IsMadeAs r.state s.state → count_headers (is_for key) ks ≡ count_headers (is_for key) hs
count_kept key n r s hs ks R M =
    let c = R.counts (is_for key) in
    let e : weight (is_for key s.state) ≡ weight (is_for key r.state) = ap weight (for_same key r.state s.state M) in
    omega arith

pub set_as : (ports : PortKey → Option Port) (r s : HeaderState) → IsSet ports r → IsMadeAs r s → IsOwnedSo s s.owner → IsSet ports s
set_as ports r s S M O = record {
  home = M.home ∙ (S.home ∙ rw (M.port, M.peer) refl);
  port = rw (M.port, M.peer) S.port;
  owner = O;
}

pub tied_replaced : (ports : PortKey → Option Port) (n : ℕ) (r s : HeaderRecord) (hs ks : List HeaderRecord)
    → Tied ports hs → IsReplaced n r s hs ks → IsMadeAs r.state s.state → IsOwnedSo s.state s.state.owner → Tied ports ks
tied_replaced ports n r s hs ks T R M O = record {
  keyed = T.keyed;
  joined = T.joined;
  few = λ key p e. let c = count_kept key n r s hs ks R M in let f = T.few key p e in omega arith;
  placed = λ m x f. elim (cases_eq m n) [
    | inl e ↦
        let a : find_header n ks ≡ Some x = rw e at f in
        let b : Some x ≡ Some s = sym a ∙ R.here in
        let is : x ≡ s = cc in
        rw is (set_as ports r.state s.state (T.placed n r R.was) M O)
    | inr a ↦ T.placed m x (sym (R.others m a) ∙ f)
  ];
}

pub tied_without : (ports : PortKey → Option Port) (n : ℕ) (r : HeaderRecord) (hs : List HeaderRecord) → Tied ports hs → Once hs → find_header n hs ≡ Some r → Tied ports (without n hs)
tied_without ports n r hs T o h = record {
  keyed = T.keyed;
  joined = T.joined;
  few = λ key p e. let c = count_without (is_for key) n hs r h in let f = T.few key p e in omega arith;
  placed = λ m x f. elim (cases_eq m n) [
    | inl e ↦ let a : find_header n (without n hs) ≡ Some x = rw e at f in let b = without_same n hs o in absurd cc
    | inr a ↦ T.placed m x (sym (without_else n m hs a) ∙ f)
  ];
}

pub tied_push : (ports : PortKey → Option Port) (r : HeaderRecord) (hs : List HeaderRecord) → Tied ports hs → find_header r.state.number hs ≡ None → IsSet ports r.state
    → ((key : PortKey) (p : Port) → ports key ≡ Some p → is_for key r.state ≡ true → count_headers (is_for key) hs < p.setting.definition.count) → Tied ports (hs ++ r ∷ [])
tied_push ports r hs T h S below = record {
  keyed = T.keyed;
  joined = T.joined;
  few = λ key p e.
      let c = count_push (is_for key) hs r in
      let f = T.few key p e in
      either (is_for key r.state)
      (λ t. let b = below key p e t in let w : weight (is_for key r.state) ≡ 1 = rw t refl in omega arith)
      (λ t. let w : weight (is_for key r.state) ≡ 0 = rw t refl in omega arith);
  placed = λ m x f. elim (cases_eq r.state.number m) [
    | inl e ↦
        let a : find_header r.state.number (hs ++ r ∷ []) ≡ Some x = rw (← e) at f in
        let b : Some x ≡ Some r = sym a ∙ push_last hs r h in
        let is : x ≡ r = cc in
        rw is S
    | inr a ↦ T.placed m x (sym (push_else m hs r a) ∙ f)
  ];
}
