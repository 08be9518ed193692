-- A component's work comes back in a world: what is known of its headers there.
use Rattle.std.proofs.Common.{◌≡◌, inl, inr, ℕ, suc, ◌+◌, ◌≤◌, ◌<◌, true, List, [], ◌∷◌, map, slice_get, Option, Some, None, MatchOption, refl, sym, ◌∙◌, ap, subst, ne_eqb, arith, option_map}
use Rattle.std.proofs.lemmas.Bool.{cases_eq}
use Rattle.il_machine.specs.declared.header.HeaderState.{HeaderState}
use Rattle.il_machine.specs.declared.header.Owner.{Owner}
use Rattle.il_machine.specs.declared.header.Owner.TheVariants as owners
use Rattle.il_machine.specs.Lists.{holds_at}
use Rattle.il_machine.specs.World.{HeaderRecord, Picked}
use Rattle.il_machine.specs.Headers.{Seen, seen, find_header, is_for, is_notice, is_work_of, state_of, weight}
use Rattle.il_machine.specs.Census.{times}
use Rattle.il_machine.specs.Sound.{ArePicked, IsOwnedSo}
use Rattle.il_machine.specs.Stock.{Stocked}
use Rattle.machine_laws.proofs.Headers.{work_is}
use Rattle.machine_laws.proofs.Landing.{AreMade, AreOf}
use Rattle.machine_laws.proofs.Listed.{times_cons, times_self, weighs_one}
use Rattle.machine_laws.proofs.Works.{worked_at}
use Rattle.header_core.specs.BufferHeader.{BufferHeader}
use Rattle.port_stock.specs.Conditions.{IsHeaderOf, IsPort}
use Rattle.work_landing.specs.Landed.{AreHomeless, AreWithin}
use Rattle.work_landing.specs.Places.{HaveOwnHeaders, EachFrom, IsOther, carried_from}
use Rattle.graph_core.proofs.Landed.{AreOf as AreListed}

-- ---- the places are those of the work

-- each header is at a port of the component
pub within_from : (ps : List Picked) (from ports port : ℕ) (places : List (Option BufferHeader)) → AreOf ps (carried_from port places) → ArePicked from ps ports → AreWithin ports port places
within_from ps from ports port [] A R = tt
within_from ps from ports port (None ∷ places) A R = (tt, within_from ps from ports (port + 1) places A R)
within_from [] from ports port (Some h ∷ places) A R = absurd A
within_from (p ∷ ps) from ports port (Some h ∷ places) A R = (subst (λ (n : ℕ). n < ports) (sym A.0) R.1, within_from ps (suc p.port) ports (port + 1) places A.2 R.2)

-- ---- no two headers have one number

none_times : (m : ℕ) (port first : ℕ) (places : List (Option BufferHeader)) → times m (map (λ x. x.header.number) (carried_from port places)) ≡ 0 → EachFrom (λ port x. IsOther m x) first places
none_times m port first [] e = tt
none_times m port first (None ∷ places) e = (tt, none_times m (port + 1) (first + 1) places e)
none_times m port first (Some h ∷ places) e =
    let rest : List ℕ = map (λ x. x.header.number) (carried_from (port + 1) places) in
    let c = times_cons m h.held.number rest in
    elim (cases_eq h.held.number m) [
      | inl q ↦
          let s : 1 ≤ times m (h.held.number ∷ rest) = rw q (omega (arith, times_self m rest)) in
          absurd (omega arith)
      | inr a ↦ (ne_eqb h.held.number m a, none_times m (port + 1) (first + 1) places (omega arith))
    ]

pub apart_from : (port : ℕ) (places : List (Option BufferHeader)) → ((m : ℕ) → times m (map (λ x. x.header.number) (carried_from port places)) ≤ 1) → HaveOwnHeaders places
apart_from port [] h = tt
apart_from port (None ∷ places) h = (tt, apart_from (port + 1) places h)
apart_from port (Some x ∷ places) h =
    let n : ℕ = x.held.number in
    let rest : List ℕ = map (λ y. y.header.number) (carried_from (port + 1) places) in
    let one = h n in
    let self = times_self n rest in (
      none_times n (port + 1) 0 places (omega arith),
      apart_from (port + 1) places (λ m. let a = h m in let c = times_cons m n rest in omega arith),
    )

-- ---- each header is out, and was made for its port

abbrev pub Worked : ℕ → List HeaderRecord → List Picked → Type 0
Worked k hs ps = (j : ℕ) (x : Picked) → slice_get ps j ≡ Some x → worked_at k x.number hs ≡ true

-- what is known of the header of a work in the world
pub record IsAtWork (k : ℕ) (hs : List HeaderRecord) (n : ℕ) : Type 0 where
  pub it : HeaderRecord
  pub found : find_header n hs ≡ Some it
  pub owner : it.state.owner ≡ owners.Work k

at_work : (k n : ℕ) (hs : List HeaderRecord) → worked_at k n hs ≡ true → IsAtWork k hs n
at_work k n hs e =
    let one : 1 ≤ weight (worked_at k n hs) = rw e (omega arith) in
    let r = weighs_one (find_header n hs) (λ s. is_work_of k s.owner) one in
    record { it = r.0; found = r.1; owner = work_is k (r.0).state.owner r.2 }

header_of : (o : Option HeaderState) (x : HeaderState) (h : BufferHeader) → o ≡ Some x → MatchOption o ⊥ (λ y. IsHeaderOf y h) → IsHeaderOf x h
header_of None x h e m = absurd m
header_of (Some y) x h e m = let q : y ≡ x = cc in subst (λ (z : HeaderState). IsHeaderOf z h) q m

module _ (k key : ℕ) (hs : List HeaderRecord) (t : Stocked) (looks : t.headers ≡ seen hs) (own : t.key ≡ key) where
  -- each header has the key, and its own size and memory
  abbrev pub HandedFrom : ℕ → List (Option BufferHeader) → Type 0
  HandedFrom port places = EachFrom (λ port h. (h.key ≡ t.key) × MatchOption (t.headers.header h.held.number) ⊥ (λ s. IsHeaderOf s h)) port places

  shown_at : (n : ℕ) (r : HeaderRecord) → find_header n hs ≡ Some r → t.headers.header n ≡ Some r.state
  shown_at n r f = ap (λ (s : Seen). s.header n) looks ∙ ap (option_map state_of) f

  header_at : (h : BufferHeader) (r : HeaderRecord) → find_header h.held.number hs ≡ Some r → MatchOption (t.headers.header h.held.number) ⊥ (λ s. IsHeaderOf s h) → IsHeaderOf r.state h
  header_at h r f m = header_of (t.headers.header h.held.number) r.state h (shown_at h.held.number r f) m

  pub listed_from : (port : ℕ) (places : List (Option BufferHeader)) (ps : List Picked) → AreOf ps (carried_from port places) → Worked k hs ps → HandedFrom port places → AreListed key hs port places
  listed_from port [] ps A W H = tt
  listed_from port (None ∷ places) ps A W H = (tt, listed_from (port + 1) places ps A W H.1)
  listed_from port (Some h ∷ places) [] A W H = absurd A
  listed_from port (Some h ∷ places) (p ∷ ps) A W H =
      let a = at_work k h.held.number hs (subst (λ (n : ℕ). worked_at k n hs ≡ true) (sym A.1) (W 0 p refl)) in
      let m = header_at h a.it a.found H.0.1 in (
        record { key_is = H.0.0 ∙ own; it = a.it; found = a.found; size = sym m.size; memory = sym m.memory },
        listed_from (port + 1) places ps A.2 (λ j x e. W (suc j) x e) H.1,
      )

  -- each header is out and was made for its port, which is the stock's
  pub homeless_from : (count port : ℕ) (places : List (Option BufferHeader)) (ps : List Picked) → ((q : ℕ) → q < count → IsPort (record { component = k; port = q }) t)
      → ((n : ℕ) (r : HeaderRecord) → find_header n hs ≡ Some r → IsOwnedSo r.state r.state.owner) → AreOf ps (carried_from port places) → Worked k hs ps → AreMade k hs (carried_from port places)
      → AreWithin count port places → HandedFrom port places → AreHomeless k port places t
  homeless_from count port [] ps P O A W M I H = tt
  homeless_from count port (None ∷ places) ps P O A W M I H = (tt, homeless_from count (port + 1) places ps P O A W M I.1 H.1)
  homeless_from count port (Some h ∷ places) [] P O A W M I H = absurd A
  homeless_from count port (Some h ∷ places) (p ∷ ps) P O A W M I H =
      let n : ℕ = h.held.number in
      let a = at_work k n hs (subst (λ (m : ℕ). worked_at k m hs ≡ true) (sym A.1) (W 0 p refl)) in
      let q : t.headers.header n ≡ Some (a.it).state = shown_at n a.it a.found in
      let out : IsOwnedSo (a.it).state (owners.Work k) = subst (λ (o : Owner). IsOwnedSo (a.it).state o) a.owner (O n a.it a.found) in
      let m = header_at h a.it a.found H.0.1 in
      let made : holds_at (t.headers.header n) (is_for (record { component = k; port = port })) ≡ true = ap (λ (s : Seen). holds_at (s.header n) (is_for (record { component = k; port = port }))) looks ∙ M.0 in (
        (P port I.0, (H.0.0, rw q (out.0, m)), made),
        homeless_from count (port + 1) places ps P O A.2 (λ j x e. W (suc j) x e) M.1 I.1 H.1,
      )

-- ---- a header in a note is none of them

pub others_from : (k m : ℕ) (hs : List HeaderRecord) (r : HeaderRecord) (port : ℕ) (places : List (Option BufferHeader)) (ps : List Picked) → find_header m hs ≡ Some r → is_notice r.state.owner ≡ true → AreOf ps (carried_from port places) → Worked k hs ps
    → EachFrom (λ port x. IsOther m x) port places
others_from k m hs r port [] ps f t A W = tt
others_from k m hs r port (None ∷ places) ps f t A W = (tt, others_from k m hs r (port + 1) places ps f t A W)
others_from k m hs r port (Some h ∷ places) [] f t A W = absurd A
others_from k m hs r port (Some h ∷ places) (p ∷ ps) f t A W =
    let n : ℕ = h.held.number in
    let a = at_work k n hs (subst (λ (x : ℕ). worked_at k x hs ≡ true) (sym A.1) (W 0 p refl)) in
    let apart : n ≡ m → ⊥ = λ q.
    let s : Some (a.it) ≡ Some r = sym a.found ∙ (ap (λ (x : ℕ). find_header x hs) q ∙ f) in
    let z : a.it ≡ r = cc in
    let x : is_notice (owners.Work k) ≡ true = subst (λ (o : Owner). is_notice o ≡ true) (ap (λ (y : HeaderRecord). y.state.owner) (sym z) ∙ a.owner) t in
    absurd cc in
    (ne_eqb n m apart, others_from k m hs r (port + 1) places ps f t A.2 (λ j x e. W (suc j) x e))
