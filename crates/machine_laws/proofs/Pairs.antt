-- Two ports change at once: a tunnel joins them, or leaves them.
use Rattle.std.proofs.Common.{◌≡◌, ◌≢◌, ◌⊎◌, inl, inr, ℕ, zero, suc, ◌+◌, ◌≤◌, List, [], ◌∷◌, set, slice_get, Option, Some, None, refl, sym, ◌∙◌, ap, subst, arith}
use Rattle.std.proofs.lemmas.Bool.{cases_eq}
use Rattle.il_machine.specs.declared.port.PortKey.{PortKey}
use Rattle.il_machine.specs.declared.port.Link.{Link}
use Rattle.il_machine.specs.declared.port.Port.{Port}
use Rattle.il_machine.specs.declared.port.PortSetting.{PortSetting}
use Rattle.il_machine.specs.declared.port.PortState.{PortState}
use Rattle.il_machine.specs.World.{Component, HeaderRecord, number_of, ports_from, port_of, World}
use Rattle.il_machine.specs.Headers.{seen, count_headers, is_for}
use Rattle.il_machine.specs.Census.{note_numbers}
use Rattle.il_machine.specs.Sound.{Sound, IsSound, IsMadeFor, AreJoined, AreNoted, AreRising, port_at}
use Rattle.machine_laws.proofs.Every.{set_else}
use Rattle.machine_laws.proofs.Keys.{for_port, there_is, is_there, same_or_apart}
use Rattle.machine_laws.proofs.Lookups.{same_place, rising_set, port_at_is, port_at_set, port_at_set_else}
use Rattle.machine_laws.proofs.Ties.{Tied, IsJoinedBy, counted}
use Rattle.machine_laws.proofs.Parts.{Parts, ports_in_list}
use Rattle.machine_laws.proofs.Works.{works_set}
use Rattle.machine_laws.proofs.Units.{Resources, IsFair, resources_set}
use Rattle.machine_laws.proofs.Change.{each_set, same_notes, lawful_set, resources_changed}

-- ---- by keys

which : (key k l : PortKey) → (key ≡ k) ⊎ ((key ≡ l) ⊎ ((key ≢ k) × (key ≢ l)))
which key k l = elim (same_or_apart key k) [
  | inl a ↦ inl a
  | inr a ↦ elim (same_or_apart key l) [ inl b ↦ inr (inl b) | inr b ↦ inr (inr (a, b)) ]
]

-- what is true of the ports at the two keys, and of each other port, is true of all
each_of : (after : PortKey → Option Port) (k l : PortKey) (p q : Port) (P : PortKey → Port → Type 0) → after k ≡ Some p → after l ≡ Some q → P k p → P l q
    → ((key : PortKey) (o : Port) → after key ≡ Some o → key ≢ k → key ≢ l → P key o) → (key : PortKey) (o : Port) → after key ≡ Some o → P key o
each_of after k l p q P a b x y rest key o e = elim (which key k l) [
  | inl s ↦
      let h : Some o ≡ Some p = sym e ∙ (ap after s ∙ a) in
      let is : o ≡ p = cc in
      subst (λ (z : PortKey). P z o) (sym s) (rw is x)
  | inr s ↦ elim s [
    | inl s ↦
        let h : Some o ≡ Some q = sym e ∙ (ap after s ∙ b) in
        let is : o ≡ q = cc in
        subst (λ (z : PortKey). P z o) (sym s) (rw is y)
    | inr s ↦ rest key o e s.0 s.1
  ]
]

-- The ports at k and l become p and q, and no header is made for either.
pub record ArePaired (ports after : PortKey → Option Port) (hs : List HeaderRecord) (k l : PortKey) (p q : Port) : Type 0 where
  pub first : after k ≡ Some p
  pub second : after l ≡ Some q
  pub first_key : p.key ≡ k
  pub second_key : q.key ≡ l
  pub others : (key : PortKey) → key ≢ k → key ≢ l → after key ≡ ports key
  pub first_bare : count_headers (is_for k) hs ≡ 0
  pub second_bare : count_headers (is_for l) hs ≡ 0
  pub first_joined : IsJoinedBy after p p.state.link
  pub second_joined : IsJoinedBy after q q.state.link
  -- no other port is joined to them
  pub apart : (key : PortKey) (o : Port) (link : Link) → ports key ≡ Some o → o.state.link ≡ Some link → key ≢ k → key ≢ l → (link.peer ≢ k) × (link.peer ≢ l)

still_joined : (ports after : PortKey → Option Port) (hs : List HeaderRecord) (k l : PortKey) (p q : Port) → ArePaired ports after hs k l p q
    → (key : PortKey) (o : Port) (x : Option Link) → ports key ≡ Some o → o.state.link ≡ x → key ≢ k → key ≢ l → IsJoinedBy ports o x → IsJoinedBy after o x
still_joined ports after hs k l p q A key o None e f a b J = tt
still_joined ports after hs k l p q A key o (Some link) e f a b J =
    let d = A.apart key o link e f a b in
    let t = there_is (ports link.peer) (AreJoined o link) J in
    is_there (after link.peer) (AreJoined o link) t.0 (A.others link.peer d.0 d.1 ∙ t.1) t.2

pub tied_pair : (ports after : PortKey → Option Port) (hs : List HeaderRecord) (k l : PortKey) (p q : Port) → Tied ports hs → ArePaired ports after hs k l p q → Tied after hs
tied_pair ports after hs k l p q T A = record {
  keyed = each_of after k l p q (λ key o. o.key ≡ key) A.first A.second A.first_key A.second_key (λ key o e a b. T.keyed key o (sym (A.others key a b) ∙ e));
  joined = each_of after k l p q (λ key o. IsJoinedBy after o o.state.link) A.first A.second A.first_joined A.second_joined (λ key o e a b.
      let f = sym (A.others key a b) ∙ e in
      still_joined ports after hs k l p q A key o o.state.link f refl a b (T.joined key o f));
  few = each_of after k l p q (λ key o. count_headers (is_for key) hs ≤ o.setting.definition.count) A.first A.second (omega (arith, A.first_bare)) (omega (arith, A.second_bare))
      (λ key o e a b. T.few key o (sym (A.others key a b) ∙ e));
  placed = λ n r f.
      let S = T.placed n r f in
      let c = counted (is_for r.state.port) n hs r f (for_port r.state.port r.state refl) in
      let a : r.state.port ≢ k = λ e. let z : count_headers (is_for r.state.port) hs ≡ 0 = subst (λ (x : PortKey). count_headers (is_for x) hs ≡ 0) (sym e) A.first_bare in omega arith in
      let b : r.state.port ≢ l = λ e. let z : count_headers (is_for r.state.port) hs ≡ 0 = subst (λ (x : PortKey). count_headers (is_for x) hs ≡ 0) (sym e) A.second_bare in omega arith in
      let t = there_is (ports r.state.port) (IsMadeFor r.state.peer) S.port in
      record { home = S.home; port = is_there (after r.state.port) (IsMadeFor r.state.peer) t.0 (A.others r.state.port a b ∙ t.1) t.2; owner = S.owner };
}

-- ---- in the list of components

-- of the ports of d only the one of the index isn't that of c
pub record IsOnePort (c d : Component) (index : ℕ) (p : Port) : Type 0 where
  pub number : number_of d ≡ number_of c
  pub notes : note_numbers d.notes ≡ note_numbers c.notes
  pub here : port_of d index ≡ Some p
  pub others : (k : ℕ) → k ≢ index → port_of d k ≡ port_of c k

abbrev pub key_at : Component → ℕ → PortKey
key_at c index = record { component = number_of c; port = index }

one_here : (next i : ℕ) (cs : List Component) (c d : Component) (index : ℕ) (p : Port) → AreRising 0 cs next → slice_get cs i ≡ Some c → IsOnePort c d index p → port_at (key_at c index) (set cs i d) ≡ Some p
one_here next i cs c d index p R t O = port_at_set next (key_at c index) i cs c d R t O.number refl ∙ O.here

one_else : (next i : ℕ) (cs : List Component) (c d : Component) (index : ℕ) (p : Port) (key : PortKey) → AreRising 0 cs next → slice_get cs i ≡ Some c → IsOnePort c d index p → key ≢ key_at c index
    → port_at key (set cs i d) ≡ port_at key cs
one_else next i cs c d index p key R t O a = elim (cases_eq (number_of c) key.component) [
  | inl n ↦
      let b : key.port ≢ index = λ e. a (λ x. record { component = sym n x; port = e x }) in
      port_at_set next key i cs c d R t O.number n ∙ (O.others key.port b ∙ sym (port_at_is next i key cs c R t n))
  | inr n ↦ port_at_set_else key i cs c d t O.number n
]

pub apart_numbers : (next i j : ℕ) (cs : List Component) (c d : Component) → AreRising 0 cs next → slice_get cs i ≡ Some c → slice_get cs j ≡ Some d → i ≢ j → number_of c ≢ number_of d
apart_numbers next i j cs c d R t u a n = a (same_place 0 next i j cs c d R t u n)

pub parts_paired : (waits numbered made i j : ℕ) (cs : List Component) (hs : List HeaderRecord) (c d c' d' : Component) (index index' : ℕ) (p q : Port) → Parts cs hs numbered made
    → slice_get cs i ≡ Some c → slice_get cs j ≡ Some d → i ≢ j → IsOnePort c c' index p → IsOnePort d d' index' q → IsSound c' → IsSound d' → IsFair 0 waits waits c c' → IsFair 0 waits waits d d'
    → ((after : PortKey → Option Port) → after (key_at c index) ≡ Some p → after (key_at d index') ≡ Some q
    → ((key : PortKey) → key ≢ key_at c index → key ≢ key_at d index' → after key ≡ port_at key cs) → ArePaired (ports_in_list cs) after hs (key_at c index) (key_at d index') p q)
    → Parts (set (set cs i c') j d') hs numbered made
parts_paired waits numbered made i j cs hs c d c' d' index index' p q P t u a O Q S S' F F' pair =
    let R = rising_set 0 numbered i cs c c' P.rising t O.number in
    let u' : slice_get (set cs i c') j ≡ Some d = set_else cs i j c' (λ e. a (sym e)) ∙ u in
    let n = apart_numbers numbered i j cs c d P.rising t u a in
    let k : key_at c index ≢ key_at d index' = λ e. n (ap (λ x. x.component) e) in
    let first : port_at (key_at c index) (set (set cs i c') j d') ≡ Some p = one_else numbered j (set cs i c') d d' index' q (key_at c index) R u' Q k ∙ one_here numbered i cs c c' index p P.rising t O in
    let second : port_at (key_at d index') (set (set cs i c') j d') ≡ Some q = one_here numbered j (set cs i c') d d' index' q R u' Q in
    let others : (key : PortKey) → key ≢ key_at c index → key ≢ key_at d index' → port_at key (set (set cs i c') j d') ≡ port_at key cs = λ key x y.
    one_else numbered j (set cs i c') d d' index' q key R u' Q y ∙ one_else numbered i cs c c' index p key P.rising t O x in
    record {
      rising = rising_set 0 numbered j (set cs i c') d d' R u' Q.number;
      components = each_set IsSound j (set cs i c') d' (each_set IsSound i cs c' P.components S) S';
      tied = tied_pair (ports_in_list cs) (ports_in_list (set (set cs i c') j d')) hs (key_at c index) (key_at d index') p q P.tied (pair (ports_in_list (set (set cs i c') j d')) first second others);
      noted = each_set (AreNoted (seen hs)) j (set cs i c') d' (each_set (AreNoted (seen hs)) i cs c' P.noted (same_notes hs c c' O.number O.notes (P.noted i c t))) (same_notes hs d d' Q.number Q.notes (P.noted j d u));
      works = works_set j (set cs i c') hs d d' u' Q.number (F'.keeps).work (works_set i cs hs c c' t O.number (F.keeps).work P.works);
      lawful = lawful_set 0 waits waits j (set cs i c') d d' u' F' (lawful_set 0 waits waits i cs c c' t F P.lawful);
      once = P.once;
      below = P.below;
    }

-- the resources of a sound world after both changes
pub resources_paired : (w : World) (i j : ℕ) (c d c' d' : Component) → Sound w → slice_get w.components i ≡ Some c → slice_get w.components j ≡ Some d → i ≢ j → number_of c' ≡ number_of c → number_of d' ≡ number_of d
    → IsFair 0 w.waits w.waits c c' → IsFair 0 w.waits w.waits d d' → Resources (set (set w.components i c') j d') w.streams w.waits w.units
resources_paired w i j c d c' d' S t u a n n' F F' =
    let u' : slice_get (set w.components i c') j ≡ Some d = set_else w.components i j c' (λ e. a (sym e)) ∙ u in
    let R = resources_changed w i c c' S t n F in
    resources_set 0 w.waits w.waits w.units j (set w.components i c') w.streams d d' (omega arith) u' n' (omega (arith, R.enough)) F' R

-- ---- in one component

pub port_over : (number index k : ℕ) (ss : List PortSetting) (ps : List PortState) (s : PortSetting) (x : PortState) (p : Port) → slice_get (ports_from number index ss ps) k ≡ Some p
    → slice_get (ports_from number index (set ss k s) (set ps k x)) k ≡ Some (record { key = p.key; setting = s; state = x })
port_over number index k [] ps s x p e = absurd cc
port_over number index k (z ∷ ss) [] s x p e = absurd cc
port_over number index zero (z ∷ ss) (y ∷ ps) s x p e =
    let o : Port = record { key = record { component = number; port = index }; setting = z; state = y } in
    let f : Some o ≡ Some p = e in
    let is : o ≡ p = cc in
    rw (← is) refl
port_over number index (suc k) (z ∷ ss) (y ∷ ps) s x p e = port_over number (index + 1) k ss ps s x p e

pub port_else : (number index j k : ℕ) (ss : List PortSetting) (ps : List PortState) (s : PortSetting) (x : PortState) → k ≢ j
    → slice_get (ports_from number index (set ss j s) (set ps j x)) k ≡ slice_get (ports_from number index ss ps) k
port_else number index j k [] ps s x a = refl
port_else number index zero zero (z ∷ ss) [] s x a = refl
port_else number index zero (suc k) (z ∷ ss) [] s x a = refl
port_else number index (suc j) k (z ∷ ss) [] s x a = refl
port_else number index zero zero (z ∷ ss) (y ∷ ps) s x a = absurd (a refl)
port_else number index zero (suc k) (z ∷ ss) (y ∷ ps) s x a = refl
port_else number index (suc j) zero (z ∷ ss) (y ∷ ps) s x a = refl
port_else number index (suc j) (suc k) (z ∷ ss) (y ∷ ps) s x a = port_else number (index + 1) j k ss ps s x (λ n. a (ap suc n))

pub set_same : {X : Type 0} (xs : List X) (k : ℕ) (x : X) → slice_get xs k ≡ Some x → set xs k x ≡ xs
set_same [] k x e = refl
set_same (y ∷ xs) zero x e = let s : y ≡ x = cc in rw s refl
set_same (y ∷ xs) (suc k) x e = ap (λ (l : List _). y ∷ l) (set_same xs k x e)
