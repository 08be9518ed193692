-- The port of a key, as ports change, and counts of it.
use Rattle.std.proofs.Common.{◌≡◌, ℕ, zero, suc, ◌+◌, ◌-◌, Bool, true, false, ◌||◌, ◌&&◌, List, [], ◌∷◌, ◌++◌, append_assoc, position, set, get_or, slice_get, Option, Some, None, MatchOption, option_map, cond, refl, sym, ◌∙◌, ap, arith, inl, inr, subst}
use Rattle.il_machine.specs.declared.port.PortKey.{PortKey}
use Rattle.il_machine.specs.declared.header.Queue.{Queue}
use Rattle.il_machine.specs.declared.header.Spot.{Spot}
use Rattle.il_machine.specs.declared.header.Spot.TheVariants.{TodoBack, TodoFront, DoneBack}
use Rattle.il_machine.specs.declared.header.HeaderState.{HeaderState}
use Rattle.il_machine.specs.Headers.{is_for, is_key, is_owned_by, same_key, weight}
use Rattle.il_machine.specs.Places.{first_place, AtMostOne}
use Rattle.il_machine.proofs.Places.{is_first_place, none_at, once_set, passes_at}
use Rattle.il_machine.specs.Stock.{times_passed}
use Rattle.stock_laws.proofs.Keys.{key_tells, same_key-refl, same_key-sym}
use Rattle.port_stock.specs.declared.port.Port.{Port}
use Rattle.port_stock.specs.Conditions.{has_key, IsMadeForOwner}
use Rattle.port_stock.specs.Rings.{Differ, IsForWhere, IsKnownBy, Recounts, Replaces, is_at, is_away_from, is_guest, new_ports, no_port, port_at, port_keys, recounted, with_number}
use Rattle.port_stock.proofs.Places.{there, mapped_none}
use Rattle.port_stock.proofs.Changing.{at_is}

-- ---- the port of a key

at_first : (key : PortKey) (ps : List Port) (i : ℕ) (p : Port) → AtMostOne (is_at key) ps → slice_get ps i ≡ Some p → is_at key p ≡ true → port_at key ps ≡ p
at_first key [] i p o h t = absurd cc
at_first key (x ∷ ps) zero p o h t = let e : x ≡ p = cc in rw (e, t) refl
at_first key (x ∷ ps) (suc i) p o h t =
    let q : is_at key x ≡ false = elim (is_at key x) as (λ v. is_at key x ≡ v → v ≡ false) [ true ↦ λ s. let a = none_at (is_at key) ps i p (o.0 s) h in absurd (grind arith) | false ↦ λ s. refl ] refl in
    rw q (at_first key ps i p o.1 h t)

beside : (k : PortKey) (ps : List Port) (i : ℕ) (p q : Port) → slice_get ps i ≡ Some p → is_at k p ≡ false → is_at k q ≡ false → port_at k (set ps i q) ≡ port_at k ps
beside k [] i p q h a b = absurd cc
beside k (x ∷ ps) zero p q h a b = let e : x ≡ p = cc in rw (e, a, b) refl
beside k (x ∷ ps) (suc i) p q h a b = rw (beside k ps i p q h a b) refl

set_there : (ps : List Port) (i : ℕ) (p q : Port) → slice_get ps i ≡ Some p → slice_get (set ps i q) i ≡ Some q
set_there [] i p q h = absurd cc
set_there (x ∷ ps) zero p q h = refl
set_there (x ∷ ps) (suc i) p q h = set_there ps i p q h

set_keys : (ps : List Port) (i : ℕ) (p q : Port) → slice_get ps i ≡ Some p → q.key ≡ p.key → port_keys (set ps i q) ≡ port_keys ps
set_keys [] i p q h e = absurd cc
set_keys (x ∷ ps) zero p q h e = let s : x ≡ p = cc in ap (λ (v : PortKey). v ∷ port_keys ps) (e ∙ ap (λ (v : Port). v.key) (sym s))
set_keys (x ∷ ps) (suc i) p q h e = ap (λ (v : List PortKey). x.key ∷ v) (set_keys ps i p q h e)

-- The port of the key stands there.
pub record Placed (key : PortKey) (i : ℕ) (ps : List Port) : Type 0 where
  pub it : Port
  pub is : slice_get ps i ≡ Some it
  pub keyed : it.key ≡ key
  pub first : port_at key ps ≡ it

pub placed : (key : PortKey) (i : ℕ) (ps : List Port) → Differ ps → MatchOption (slice_get ps i) ⊥ (λ p. is_at key p ≡ true) → Placed key i ps
placed key i ps D h =
    let T = there (λ (p : Port). is_at key p ≡ true) (slice_get ps i) h in
    let named : T.it.key ≡ key = elim (key_tells T.it.key key) [
      | inl x ↦ x.1
      | inr x ↦ absurd (let z : false ≡ true = sym x.0 ∙ T.holds in cc)
    ] in
    record { it = T.it; is = T.is; keyed = named; first = at_first key ps i T.it (D key) T.is T.holds }

pub read_port : (key : PortKey) (i : ℕ) (ps : List Port) (e : Port) (P : Placed key i ps) → e ≡ get_or ps i e → e ≡ port_at key ps
read_port key i ps e P g = g ∙ (at_is ps i P.it e P.is ∙ sym P.first)

pub keyed_port : (key : PortKey) (i : ℕ) (ps : List Port) → Placed key i ps → (port_at key ps).key ≡ key
keyed_port key i ps P = ap (λ (p : Port). p.key) P.first ∙ P.keyed

-- what is written in its place, with its key, is the port of the key from then on
pub replaced : (key : PortKey) (i : ℕ) (ps : List Port) (q r : Port) → Differ ps → Placed key i ps → q ≡ r → r.key ≡ key → Replaces key r ps (set ps i q)
replaced key i ps q r D P e k =
    let key_is : q.key ≡ P.it.key = ap (λ (p : Port). p.key) e ∙ (k ∙ sym P.keyed) in
    let same : (l : PortKey) → is_at l q ≡ is_at l P.it = λ l. ap (λ (v : PortKey). same_key v l) key_is in
    let old : (l : PortKey) → is_at l P.it ≡ same_key key l = λ l. ap (λ (v : PortKey). same_key v l) P.keyed in
    let differ : Differ (set ps i q) = λ l. once_set (is_at l) ps i P.it q P.is (same l) (D l) in
    record {
      at = λ l. elim (key_tells key l) [
        | inl x ↦ rw x.0 (at_first l (set ps i q) i q (differ l) (set_there ps i P.it q P.is) (same l ∙ (old l ∙ x.0)) ∙ e)
        | inr x ↦ rw x.0 (beside l ps i P.it q P.is (old l ∙ x.0) (same l ∙ (old l ∙ x.0)))
      ];
      keys = set_keys ps i P.it q P.is key_is;
      differ = differ;
    }

pub with_number-key : (spot : Spot) (n : ℕ) (p : Port) → (with_number spot n p).key ≡ p.key
with_number-key TodoBack n p = refl
with_number-key TodoFront n p = refl
with_number-key DoneBack n p = refl

-- a port that is there has a place
pub no_place : (key : PortKey) (ps : List Port) → first_place (is_at key) ps ≡ None → has_key key (port_keys ps) ≡ false
no_place key [] h = refl
no_place key (p ∷ ps) h =
    elim (same_key p.key key) as (λ v. same_key p.key key ≡ v → cond v (Some 0) (option_map suc (first_place (is_at key) ps)) ≡ None → (same_key key p.key || has_key key (port_keys ps)) ≡ false) [
      | true ↦ λ t e. absurd cc
      | false ↦ λ t e. rw (same_key-sym key p.key, t) (no_place key ps (mapped_none (first_place (is_at key) ps) e))
    ] refl h

-- what the search finds
pub searched : (key : PortKey) (i : ℕ) (ps : List Port) → position (is_at key) ps ≡ Some i → MatchOption (slice_get ps i) ⊥ (λ p. is_at key p ≡ true)
searched key i ps h = let P = passes_at (is_at key) ps i (sym (is_first_place (is_at key) ps) ∙ h) in rw P.1 P.2

pub not_missing : (key : PortKey) (ps : List Port) → position (is_at key) ps ≡ None → has_key key (port_keys ps) ≡ true → ⊥
not_missing key ps h t = let f = no_place key ps (sym (is_first_place (is_at key) ps) ∙ h) in let z : false ≡ true = sym f ∙ t in cc

-- ---- so many ports of a component

ports_next : (component index count : ℕ) → new_ports component index (suc count) ≡ new_ports component index count ++ no_port (record { component = component; port = index + count }) ∷ []
ports_next component index zero = let e : index + 0 ≡ index = omega arith in rw e refl
ports_next component index (suc count) =
    let e : index + 1 + count ≡ index + suc count = omega arith in
    ap (λ (v : List Port). no_port (record { component = component; port = index }) ∷ v) (ports_next component (index + 1) count ∙ rw e refl)

pub new_next : (component i : ℕ) (before now after : List Port) → now ≡ before ++ new_ports component 0 i → after ≡ now ++ no_port (record { component = component; port = i }) ∷ [] → after ≡ before ++ new_ports component 0 (i + 1)
new_next component i before now after n a =
    let e : i + 1 ≡ suc i = omega arith in
    let z : 0 + i ≡ i = omega arith in
    let p : Port = no_port (record { component = component; port = i }) in
    let ports : new_ports component 0 (i + 1) ≡ new_ports component 0 i ++ p ∷ [] = rw e (ports_next component 0 i ∙ rw z refl) in
    a ∙ (ap (λ (v : List Port). v ++ p ∷ []) n ∙ (append_assoc before (new_ports component 0 i) (p ∷ []) ∙ ap (λ (v : List Port). before ++ v) (sym ports)))

-- ---- counts

known_for : (port k : PortKey) (peer : Option PortKey) (h : HeaderState) → h.port ≡ port → h.peer ≡ peer → same_key port k ≡ false → is_key k peer ≡ false → is_for k h ≡ false
known_for port k peer h a b c d = rw (a, b, c, d) refl

and_false : (a b : Bool) → a ≡ false → (a && b) ≡ false
and_false a b e = rw e refl

known_owner : (k : PortKey) (h : HeaderState) → IsMadeForOwner h → is_for k h ≡ false → is_owned_by k h.owner ≡ false
known_owner k h M f = elim (is_owned_by k h.owner) as (λ v. is_owned_by k h.owner ≡ v → v ≡ false) [ true ↦ λ t. absurd (let z : false ≡ true = sym f ∙ M k t in cc) | false ↦ λ t. refl ] refl

-- a port that a header isn't known by counts it nowhere
record Uncounted (k : PortKey) (o : Option HeaderState) : Type 0 where
  made : times_passed (is_for k) o ≡ 0
  outstanding : times_passed (is_away_from k) o ≡ 0
  foreign : times_passed (is_guest k) o ≡ 0

uncounted : (port k : PortKey) (peer : Option PortKey) (o : Option HeaderState) → IsKnownBy port peer o → same_key port k ≡ false → is_key k peer ≡ false → Uncounted k o
uncounted port k peer None K c d = record { made = refl; outstanding = refl; foreign = refl }
uncounted port k peer (Some h) K c d =
    let f = known_for port k peer h K.0 K.1 c d in
    let g = known_owner k h K.2 f in
    record {
      made = ap weight f;
      outstanding = ap weight (and_false (is_for k h) _ f);
      foreign = ap weight (and_false (is_owned_by k h.owner) _ g);
    }

idle_count : (n a b : ℕ) → a ≡ 0 → b ≡ 0 → n - a + b ≡ n
idle_count n a b x y = omega arith

idle : (port k : PortKey) (peer : Option PortKey) (before after : Option HeaderState) (p : Port) → IsKnownBy port peer before → IsKnownBy port peer after → same_key port k ≡ false → is_key k peer ≡ false
    → p ≡ recounted k before after p
idle port k peer before after p B A c d =
    let x = uncounted port k peer before B c d in
    let y = uncounted port k peer after A c d in
    let m = sym (idle_count p.made _ _ x.made y.made) in
    let o = sym (idle_count p.outstanding _ _ x.outstanding y.outstanding) in
    let f = sym (idle_count p.foreign _ _ x.foreign y.foreign) in
    λ i. record p { made = m i; outstanding = o i; foreign = f i }

-- one port was counted anew, and no other one knows the header
pub recounts_one : (port : PortKey) (peer : Option PortKey) (before after : Option HeaderState) (ps qs : List Port) → IsKnownBy port peer before → IsKnownBy port peer after
    → ((k : PortKey) → same_key port k ≡ false → is_key k peer ≡ false) → Replaces port (recounted port before after (port_at port ps)) ps qs → Recounts before after ps qs
recounts_one port peer before after ps qs B A none R = record {
  at = λ k. elim (key_tells port k) [
    | inl x ↦
        let now : port_at k qs ≡ recounted port before after (port_at port ps) = R.at k ∙ rw x.0 refl in
        subst (λ (l : PortKey). port_at k qs ≡ recounted l before after (port_at l ps)) x.1 now
    | inr x ↦
        let now : port_at k qs ≡ port_at k ps = R.at k ∙ rw x.0 refl in
        now ∙ idle port k peer before after (port_at k ps) B A x.0 (none k x.0)
  ];
  keys = R.keys;
  differ = R.differ;
}

-- both ports were counted anew
pub recounts_two : (port peer : PortKey) (before after : Option HeaderState) (ps qs rs : List Port) → IsKnownBy port (Some peer) before → IsKnownBy port (Some peer) after → same_key port peer ≡ false
    → Replaces port (recounted port before after (port_at port ps)) ps qs → Replaces peer (recounted peer before after (port_at peer qs)) qs rs → Recounts before after ps rs
recounts_two port peer before after ps qs rs B A d R S = record {
  at = λ k. elim (key_tells peer k) [
    | inl x ↦
        let was : port_at peer qs ≡ port_at peer ps = R.at peer ∙ rw d refl in
        let now : port_at k rs ≡ recounted peer before after (port_at peer qs) = S.at k ∙ rw x.0 refl in
        let both : port_at k rs ≡ recounted peer before after (port_at peer ps) = now ∙ ap (recounted peer before after) was in
        subst (λ (l : PortKey). port_at k rs ≡ recounted l before after (port_at l ps)) x.1 both
    | inr x ↦
        let now : port_at k rs ≡ port_at k qs = S.at k ∙ rw x.0 refl in
        now ∙ elim (key_tells port k) [
          | inl y ↦
              let here : port_at k qs ≡ recounted port before after (port_at port ps) = R.at k ∙ rw y.0 refl in
              subst (λ (l : PortKey). port_at k qs ≡ recounted l before after (port_at l ps)) y.1 here
          | inr y ↦
              let still : port_at k qs ≡ port_at k ps = R.at k ∙ rw y.0 refl in
              still ∙ idle port k (Some peer) before after (port_at k ps) B A y.0 x.0
        ]
  ];
  keys = S.keys ∙ R.keys;
  differ = S.differ;
}

-- counts don't ask in which list a header waits
pub requeued_after : (before : Option HeaderState) (after : HeaderState) (queue : Queue) (ps qs : List Port) → Recounts before (Some after) ps qs → Recounts before (Some (record after { queue = queue })) ps qs
requeued_after before after queue ps qs C = record { at = C.at; keys = C.keys; differ = C.differ }

pub requeued_before : (before : HeaderState) (after : Option HeaderState) (queue : Queue) (ps qs : List Port) → Recounts (Some before) after ps qs → Recounts (Some (record before { queue = queue })) after ps qs
requeued_before before after queue ps qs C = record { at = C.at; keys = C.keys; differ = C.differ }

-- ---- which ports know a header

pub known_port : (port : PortKey) (peer : Option PortKey) (o : Option HeaderState) → IsKnownBy port peer o → IsForWhere port o
known_port port peer None K = tt
known_port port peer (Some h) K = rw (K.0, same_key-refl port) refl

pub no_peer : (port : PortKey) (o : Option PortKey) → o ≡ None → (k : PortKey) → same_key port k ≡ false → is_key k o ≡ false
no_peer port o e k d = ap (is_key k) e

pub same_peer : (port peer : PortKey) (o : Option PortKey) → o ≡ Some peer → same_key peer port ≡ true → (k : PortKey) → same_key port k ≡ false → is_key k o ≡ false
same_peer port peer o e t k d = ap (is_key k) e ∙ elim (key_tells peer port) [
  | inl x ↦ ap (λ (v : PortKey). same_key v k) x.1 ∙ d
  | inr x ↦ absurd (let z : false ≡ true = sym x.0 ∙ t in cc)
]
