-- Two flat lists that are seen alike, each with no number twice, have the same headers' states.
use Rattle.std.proofs.Common.{◌≡◌, ℕ, zero, suc, ◌<◌, true, false, List, [], ◌∷◌, length, Some, None, option_map, All, refl, sym, ◌∙◌, ap, arith, get_or, subst}
use Rattle.std.proofs.lemmas.Bool.Decides.{nat_tests}
use Rattle.std.proofs.lemmas.List.Elements.{All-get_or}
use Rattle.il_machine.specs.declared.header.HeaderState.{HeaderState}
use Rattle.il_machine.specs.World.{Component, HeaderRecord, World, ports_of}
use Rattle.il_machine.specs.Look.{Look, look}
use Rattle.il_machine.specs.Whole.{Kept}
use Rattle.stock_laws.specs.Bare.{StandsBare}
use Rattle.il_machine.specs.Sound.{Sound, IsPlaced, IsConnected, HasFew, AreNoted, AreClaimed, IsSoundWork}
use Rattle.il_machine.specs.Headers.{Seen, seen, find_header, has_number, Once, state_of}

not_first : (x : HeaderRecord) (hs : List HeaderRecord) (k : ℕ) (d : HeaderRecord) → find_header x.state.number hs ≡ None → k < length hs → has_number (get_or hs k d).state.number x ≡ false
not_first x [] k d o b = absurd (omega arith)
not_first x (y ∷ hs) zero d o b = grind (arith, nat_tests)
not_first x (y ∷ hs) (suc k) d o b =
    let f : find_header x.state.number hs ≡ None = grind (arith, nat_tests) in
    not_first x hs k d f (omega arith)

pub find_member : (hs : List HeaderRecord) (k : ℕ) (d : HeaderRecord) → Once hs → k < length hs → find_header (get_or hs k d).state.number hs ≡ Some (get_or hs k d)
find_member [] k d o b = absurd (omega arith)
find_member (x ∷ hs) zero d o b = grind (arith, nat_tests)
find_member (x ∷ hs) (suc k) d o b =
    let e = not_first x hs k d o.0 (omega arith) in
    rw e (find_member hs k d o.1 (omega arith))

pub found_member : (n : ℕ) (hs : List HeaderRecord) (r : HeaderRecord) → find_header n hs ≡ Some r → (k : ℕ) × (k < length hs) × (get_or hs k r ≡ r)
found_member n [] r f = absurd cc
found_member n (x ∷ hs) r f = elim (has_number n x) as (λ b. has_number n x ≡ b → (k : ℕ) × (k < length (x ∷ hs)) × (get_or (x ∷ hs) k r ≡ r)) [
  | true ↦ λ e. let g : x ≡ r = grind (arith, nat_tests) in (0, omega arith, g)
  | false ↦ λ e.
      let g : find_header n hs ≡ Some r = grind (arith, nat_tests) in
      let i = found_member n hs r g in
      (suc i.0, omega arith, i.2)
] refl

state_at : (hs ks : List HeaderRecord) (i : ℕ) (d : HeaderRecord) → Once ks → seen ks ≡ seen hs → i < length ks → (j : ℕ) × (r : HeaderRecord) × (j < length hs) × (get_or hs j r ≡ r) × (r.state ≡ (get_or ks i d).state)
state_at hs ks i d o e b =
    let x = get_or ks i d in
    let f : find_header x.state.number ks ≡ Some x = find_member ks i d o b in
    let g : option_map state_of (find_header x.state.number hs) ≡ Some x.state = sym (ap (λ (s : Seen). s.header x.state.number) e) ∙ rw f refl in
    elim (find_header x.state.number hs) as (λ y. find_header x.state.number hs ≡ y → option_map state_of y ≡ Some x.state → (j : ℕ) × (r : HeaderRecord) × (j < length hs) × (get_or hs j r ≡ r) × (r.state ≡ x.state)) [
      | None ↦ λ a c. absurd cc
      | Some r ↦ λ a c.
          let m = found_member x.state.number hs r a in
          let q : r.state ≡ x.state = cc in
          (m.0, r, m.1, m.2, q)
    ] refl g

-- what holds of each state of the one holds of each state of the other
pub all_states : (P : HeaderState → Type 0) (hs ks : List HeaderRecord) → Once ks → seen ks ≡ seen hs → All (λ r. P r.state) hs → All (λ r. P r.state) ks
all_states P hs ks o e h = λ i d b.
    let x = state_at hs ks i d o e b in
    let p : P (get_or hs x.0 x.1).state = All-get_or (λ r. P r.state) hs x.0 x.1 x.2 h in
    let q : P x.1.state = subst (λ (r : HeaderRecord). P r.state) x.3 p in
    subst P x.4 q

connected_alike : (u w : World) (c : Component) → look w ≡ look u → IsConnected u c → IsConnected w c
connected_alike u w c e C =
    let cs : w.components ≡ u.components = ap (λ (l : Look). l.components) e in
    let h : (look w).headers ≡ (look u).headers = ap (λ (l : Look). l.headers) e in
    record {
      joined = rw cs C.joined;
      few = subst (λ (s : Seen). All (HasFew s) (ports_of c)) (sym h) C.few;
      noted = subst (λ (s : Seen). AreNoted s c) (sym h) C.noted;
      claimed = subst (λ (s : Seen). AreClaimed s c) (sym h) C.claimed;
      work = λ x out. subst (λ (s : Seen). IsSoundWork s c x) (sym h) (C.work x out);
    }

-- where what is kept stands for one sound world, each world that it stands for is sound
pub sound_world : (kept : Kept) (u w : World) → StandsBare kept u → Sound u → StandsBare kept w → Sound w
sound_world kept u w U S W =
    let e : look w ≡ look u = W.looks ∙ sym U.looks in
    let cs : w.components ≡ u.components = ap (λ (l : Look). l.components) e in
    let h : seen w.headers ≡ seen u.headers = ap (λ (l : Look). l.headers) e in
    let n : w.numbered ≡ u.numbered = ap (λ (l : Look). l.numbered) e in
    let m : w.made ≡ u.made = ap (λ (l : Look). l.made) e in
    let q : w.waits ≡ u.waits = ap (λ (l : Look). l.waits) e in
    let t : w.units ≡ u.units = ap (λ (l : Look). l.units) e in
    record {
      rising = rw (cs, n) S.rising;
      components = rw cs S.components;
      connected = subst (λ (xs : List Component). All (IsConnected w) xs) (sym cs) (λ k d b. connected_alike u w _ e (S.connected k d b));
      once = W.once;
      numbered = rw m (all_states (λ s. s.number < u.made) u.headers w.headers W.once h S.numbered);
      placed = rw cs (all_states (IsPlaced u.components) u.headers w.headers W.once h S.placed);
      units = rw (cs, q) S.units;
      enough = rw (cs, t) S.enough;
      apart = rw cs S.apart;
      streams = W.streams;
    }
