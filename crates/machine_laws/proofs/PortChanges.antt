-- Ports and headers still hang together as ports change, come and leave.
use Rattle.std.proofs.Common.{◌≡◌, ◌⊎◌, inl, inr, List, Option, Some, None, refl, sym, ◌∙◌, ap, arith}
use Rattle.il_machine.specs.declared.port.PortKey.{PortKey}
use Rattle.il_machine.specs.declared.port.Link.{Link}
use Rattle.il_machine.specs.declared.port.Port.{Port}
use Rattle.il_machine.specs.World.{HeaderRecord}
use Rattle.il_machine.specs.Headers.{count_headers, is_for, Once}
use Rattle.il_machine.specs.Ports.{is_input_port, is_supplier}
use Rattle.il_machine.specs.Sound.{IsMadeFor, AreJoined}
use Rattle.machine_laws.proofs.Finding.{either}
use Rattle.machine_laws.proofs.Keys.{for_which, for_port, there_is, is_there, none_or_some}
use Rattle.machine_laws.proofs.Ties.{IsJoinedBy, Tied, counted, none_counted, other_side, made_peer}

-- No header is made for the port, and it isn't joined.
pub record IsLoose (hs : List HeaderRecord) (p : Port) : Type 0 where
  pub alone : p.state.link ≡ None
  pub bare : count_headers (is_for p.key) hs ≡ 0

-- The port q is p with another setting or mode: with its definition, or p is loose.
pub record IsKept (hs : List HeaderRecord) (p q : Port) : Type 0 where
  pub key : q.key ≡ p.key
  pub link : q.state.link ≡ p.state.link
  pub definition : (q.setting.definition ≡ p.setting.definition) ⊎ IsLoose hs p

abbrev pub AreKept : List HeaderRecord → Option Port → Option Port → Type 0
AreKept hs None None = Unit {0}
AreKept hs None (Some q) = ⊥
AreKept hs (Some p) None = ⊥
AreKept hs (Some p) (Some q) = IsKept hs p q

pub kept_back : (hs : List HeaderRecord) (a b : Option Port) (q : Port) → AreKept hs a b → b ≡ Some q → (p : Port) × (a ≡ Some p) × IsKept hs p q
kept_back hs None None q K e = absurd cc
kept_back hs None (Some x) q K e = absurd K
kept_back hs (Some p) None q K e = absurd K
kept_back hs (Some p) (Some x) q K e = let s : x ≡ q = cc in (p, refl, rw (← s) K)

pub kept_on : (hs : List HeaderRecord) (a b : Option Port) (p : Port) → AreKept hs a b → a ≡ Some p → (q : Port) × (b ≡ Some q) × IsKept hs p q
kept_on hs None b p K e = absurd cc
kept_on hs (Some x) None p K e = absurd K
kept_on hs (Some x) (Some q) p K e = let s : x ≡ p = cc in (q, refl, rw (← s) K)

pub kept_itself : (hs : List HeaderRecord) (a : Option Port) → AreKept hs a a
kept_itself hs None = tt
kept_itself hs (Some p) = record { key = refl; link = refl; definition = inl refl }

same_supplier : (p q : Port) → q.state.link ≡ p.state.link → is_input_port q ≡ is_input_port p → is_supplier q ≡ is_supplier p
same_supplier p q l i = rw (l, i) refl

kept_joined : (hs : List HeaderRecord) (p a q b : Port) (link : Link) → AreJoined p link a → IsKept hs p q → IsKept hs a b → q.setting.definition ≡ p.setting.definition → b.setting.definition ≡ a.setting.definition → AreJoined q link b
kept_joined hs p a q b link J K L d e = record {
  back = L.link ∙ (J.back ∙ rw K.key refl);
  direction = rw (d, e) J.direction;
  supplier = J.supplier;
  count = rw (d, e) J.count;
  size = rw (d, e) J.size;
  format = rw (d, e) J.format;
  apart = rw (K.key, L.key) J.apart;
}

-- a joined port isn't loose
kept_whole : (hs : List HeaderRecord) (p q : Port) (link : Link) → IsKept hs p q → p.state.link ≡ Some link → q.setting.definition ≡ p.setting.definition
kept_whole hs p q link K l = elim K.definition [ inl d ↦ d | inr loose ↦ let n = loose.alone in absurd cc ]

kept_side : (ports after : PortKey → Option Port) (hs : List HeaderRecord) (key : PortKey) (p q : Port) (o : Option Link)
    → Tied ports hs → ((k : PortKey) → AreKept hs (ports k) (after k)) → ports key ≡ Some p → IsKept hs p q → q.state.link ≡ o → IsJoinedBy after q o
kept_side ports after hs key p q None T A e K l = tt
kept_side ports after hs key p q (Some link) T A e K l =
    let lp : p.state.link ≡ Some link = sym K.link ∙ l in
    let a = other_side ports hs key p link T e lp in
    let b = kept_on hs (ports link.peer) (after link.peer) a.0 (A link.peer) a.1 in
    let d = kept_whole hs p q link K lp in
    let f = kept_whole hs a.0 b.0 (record { peer = p.key; supplier = link.supplier }) b.2 (a.2).back in
    is_there (after link.peer) (AreJoined q link) b.0 b.1 (kept_joined hs p a.0 q b.0 link a.2 K b.2 d f)

made_kept : (hs : List HeaderRecord) (peer : Option PortKey) (p q : Port) → IsKept hs p q → q.setting.definition ≡ p.setting.definition → IsMadeFor peer p → IsMadeFor peer q
made_kept hs None p q K d M = K.link ∙ M
made_kept hs (Some k) p q K d M = (same_supplier p q K.link (rw d refl) ∙ M.0, rw K.link M.1)

-- each port is kept
pub tied_kept : (ports after : PortKey → Option Port) (hs : List HeaderRecord) → Tied ports hs → ((key : PortKey) → AreKept hs (ports key) (after key)) → Tied after hs
tied_kept ports after hs T A = record {
  keyed = λ key q e. let b = kept_back hs (ports key) (after key) q (A key) e in (b.2).key ∙ T.keyed key b.0 b.1;
  joined = λ key q e. let b = kept_back hs (ports key) (after key) q (A key) e in kept_side ports after hs key b.0 q q.state.link T A b.1 b.2 refl;
  few = λ key q e.
      let b = kept_back hs (ports key) (after key) q (A key) e in
      let f = T.few key b.0 b.1 in
      elim (b.2).definition [
        | inl d ↦ rw d f
        | inr loose ↦
            let k : (b.0).key ≡ key = T.keyed key b.0 b.1 in
            let z : count_headers (is_for key) hs ≡ 0 = rw k at loose.bare in
            omega arith
      ];
  placed = λ n r f.
      let S = T.placed n r f in
      let p = there_is (ports r.state.port) (IsMadeFor r.state.peer) S.port in
      let b = kept_on hs (ports r.state.port) (after r.state.port) p.0 (A r.state.port) p.1 in
      let c = counted (is_for r.state.port) n hs r f (for_port r.state.port r.state refl) in
      let M : IsMadeFor r.state.peer b.0 = elim (b.2).definition [
        | inl d ↦ made_kept hs r.state.peer p.0 b.0 b.2 d p.2
        | inr loose ↦
            let k : (p.0).key ≡ r.state.port = T.keyed r.state.port p.0 p.1 in
            let z : count_headers (is_for r.state.port) hs ≡ 0 = rw k at loose.bare in
            absurd (omega arith)
      ] in
      record { home = S.home; port = is_there (after r.state.port) (IsMadeFor r.state.peer) b.0 b.1 M; owner = S.owner };
}

-- ---- the ports of a new component

still : (ports after : PortKey → Option Port) (p : Port) (o : Option Link) → ((key : PortKey) (q : Port) → ports key ≡ Some q → after key ≡ Some q) → IsJoinedBy ports p o → IsJoinedBy after p o
still ports after p None S J = tt
still ports after p (Some link) S J = let q = there_is (ports link.peer) (AreJoined p link) J in is_there (after link.peer) (AreJoined p link) q.0 (S link.peer q.0 q.1) q.2

alone_joined : (ports : PortKey → Option Port) (p : Port) (o : Option Link) → o ≡ None → IsJoinedBy ports p o
alone_joined ports p None e = tt
alone_joined ports p (Some link) e = absurd cc

-- no header is made for a port that isn't there
pub none_for : (ports : PortKey → Option Port) (hs : List HeaderRecord) (key : PortKey) → Tied ports hs → Once hs → ports key ≡ None → count_headers (is_for key) hs ≡ 0
none_for ports hs key T o e = none_counted (is_for key) hs o (λ n r f. either (is_for key r.state)
    (λ t.
    let p = there_is (ports r.state.port) (IsMadeFor r.state.peer) (T.placed n r f).port in
    elim (for_which key r.state t) [
      | inl h ↦ let a : ports key ≡ Some p.0 = ap ports (sym h) ∙ p.1 in absurd cc
      | inr h ↦
          let k = made_peer r.state.peer key p.0 p.2 h in
          let q = other_side ports hs r.state.port p.0 k.0 T p.1 k.1 in
          let a : ports key ≡ Some q.0 = ap ports (sym k.2) ∙ q.1 in
          absurd cc
    ])
    (λ u. u))

pub tied_new : (ports after : PortKey → Option Port) (hs : List HeaderRecord) → Tied ports hs → Once hs
    → ((key : PortKey) (p : Port) → ports key ≡ Some p → after key ≡ Some p)
    → ((key : PortKey) (p : Port) → after key ≡ Some p → ports key ≡ None → (p.key ≡ key) × (p.state.link ≡ None))
    → Tied after hs
tied_new ports after hs T o S N = record {
  keyed = λ key p e. elim (none_or_some (ports key)) [
    | inl n ↦ (N key p e n).0
    | inr q ↦ let s = S key q.0 q.1 in let i : q.0 ≡ p = cc in rw (← i) (T.keyed key q.0 q.1)
  ];
  joined = λ key p e. elim (none_or_some (ports key)) [
    | inl n ↦ alone_joined after p p.state.link (N key p e n).1
    | inr q ↦ let s = S key q.0 q.1 in let i : q.0 ≡ p = cc in rw (← i) (still ports after q.0 (q.0).state.link S (T.joined key q.0 q.1))
  ];
  few = λ key p e. elim (none_or_some (ports key)) [
    | inl n ↦ let z = none_for ports hs key T o n in omega arith
    | inr q ↦ let s = S key q.0 q.1 in let i : q.0 ≡ p = cc in rw (← i) (T.few key q.0 q.1)
  ];
  placed = λ n r f.
      let P = T.placed n r f in
      let p = there_is (ports r.state.port) (IsMadeFor r.state.peer) P.port in
      record { home = P.home; port = is_there (after r.state.port) (IsMadeFor r.state.peer) p.0 (S r.state.port p.0 p.1) p.2; owner = P.owner };
}

-- ---- the ports of a component that leaves are loose

remains : (ports after : PortKey → Option Port) (p : Port) (o : Option Link) → o ≡ p.state.link
    → ((key : PortKey) (q : Port) → ports key ≡ Some q → (after key ≡ Some q) ⊎ (q.state.link ≡ None)) → IsJoinedBy ports p o → IsJoinedBy after p o
remains ports after p None l G J = tt
remains ports after p (Some link) l G J =
    let q = there_is (ports link.peer) (AreJoined p link) J in
    elim (G link.peer q.0 q.1) [
      | inl s ↦ is_there (after link.peer) (AreJoined p link) q.0 s q.2
      | inr n ↦ let b = (q.2).back in absurd cc
    ]

pub tied_gone : (ports after : PortKey → Option Port) (hs : List HeaderRecord) → Tied ports hs
    → ((key : PortKey) (p : Port) → after key ≡ Some p → ports key ≡ Some p)
    → ((key : PortKey) (p : Port) → ports key ≡ Some p → (after key ≡ Some p) ⊎ IsLoose hs p)
    → Tied after hs
tied_gone ports after hs T B G = record {
  keyed = λ key p e. T.keyed key p (B key p e);
  joined = λ key p e. remains ports after p p.state.link refl (λ k q a. elim (G k q a) [ inl s ↦ inl s | inr loose ↦ inr loose.alone ]) (T.joined key p (B key p e));
  few = λ key p e. T.few key p (B key p e);
  placed = λ n r f.
      let P = T.placed n r f in
      let p = there_is (ports r.state.port) (IsMadeFor r.state.peer) P.port in
      let c = counted (is_for r.state.port) n hs r f (for_port r.state.port r.state refl) in
      let s : after r.state.port ≡ Some p.0 = elim (G r.state.port p.0 p.1) [
        | inl s ↦ s
        | inr loose ↦
            let k : (p.0).key ≡ r.state.port = T.keyed r.state.port p.0 p.1 in
            let z : count_headers (is_for r.state.port) hs ≡ 0 = rw k at loose.bare in
            absurd (omega arith)
      ] in
      record { home = P.home; port = is_there (after r.state.port) (IsMadeFor r.state.peer) p.0 s p.2; owner = P.owner };
}
