-- The headers at home of a component are reset as it reaches the second Idle: each link that it supplies, and no other.
use Rattle.std.proofs.Common.{◌≡◌, ◌⊎◌, inl, inr, ℕ, zero, suc, Bool, true, false, not, ◌||◌, List, [], ◌∷◌, slice_get, Some, refl, sym, ◌∙◌, ap, subst, arith}
use Rattle.std.proofs.Math.Nat.{zero-div}
use Rattle.std.proofs.lemmas.Bool.{cases_eq}
use Rattle.il_machine.specs.declared.port.PortKey.{PortKey}
use Rattle.il_machine.specs.declared.port.Port.{Port}
use Rattle.il_machine.specs.declared.header.Spot.{Spot}
use Rattle.il_machine.specs.declared.header.Spot.TheVariants.{TodoBack, DoneBack}
use Rattle.il_machine.specs.World.{HeaderRecord, Load}
use Rattle.il_machine.specs.Headers.{seen, find_header, changed, cleared, cleared_all, put, put_at, put_all, reset, same_key, unloaded, Once}
use Rattle.il_machine.specs.Ports.{is_supplier, is_input_port}
use Rattle.il_machine.specs.Due.{reset_port, reset_ports}
use Rattle.machine_laws.proofs.Finding.{either, changed_same, changed_else, changed_nothing, once_changed}
use Rattle.machine_laws.proofs.Keys.{key_is, none_or_some}
use Rattle.machine_laws.proofs.Replacing.{IsReplaced, replaced_put, put_nothing}
use Rattle.play_model.specs.Network.{LinkState}
use Rattle.play_model.specs.Acts.{reset_link}
use Rattle.play_world_laws.specs.View.{LinkEnds, link_view}
use Rattle.play_world_laws.proofs.Same.{link_same}
use Rattle.play_world_laws.proofs.Resets.{IsReset, is_reset, reset_output, reset_input, reset_beside_all}
use Rattle.play_world_laws.specs.Cast.{Cast, home_by}
use Rattle.play_world_laws.specs.Worlds.{HasLink}

-- ---- what a header carries is as it was, or nothing

-- the same header, and what it carries too, unless it was cleared
abbrev IsCleared : HeaderRecord → HeaderRecord → Type 0
IsCleared r s = (s.state.port ≡ r.state.port) × (s.state.peer ≡ r.state.peer) × (s.state.size ≡ r.state.size) × ((s.load ≡ r.load) ⊎ (s.load ≡ (cleared r).load))

-- each header of the one list was one of the other
abbrev AreCleared : List HeaderRecord → List HeaderRecord → Type 0
AreCleared hs ks = (n : ℕ) (s : HeaderRecord) → find_header n ks ≡ Some s → (r : HeaderRecord) × (find_header n hs ≡ Some r) × IsCleared r s

cleared_none : (hs : List HeaderRecord) → AreCleared hs hs
cleared_none hs n s f = (s, f, (refl, refl, refl, inl refl))

cleared_after : (r s t : HeaderRecord) → IsCleared r s → IsCleared s t → IsCleared r t
cleared_after r s t A B = (
  B.0 ∙ A.0,
  B.1 ∙ A.1,
  B.2 ∙ A.2,
  elim B.3 [
    | inl e ↦ elim A.3 [ inl f ↦ inl (e ∙ f) | inr f ↦ inr (e ∙ f) ]
    | inr e ↦ elim A.3 [
      | inl f ↦ inr (e ∙ ap (λ (z : Load). unloaded z) f)
      | inr f ↦ inr (e ∙ ap (λ (z : Load). unloaded z) f)
    ]
  ],
)

all_after : (hs ks ms : List HeaderRecord) → AreCleared hs ks → AreCleared ks ms → AreCleared hs ms
all_after hs ks ms A B n t f =
    let s = B n t f in
    let r = A n s.0 s.1 in
    (r.0, r.1, cleared_after r.0 s.0 t r.2 s.2)

replaced_cleared : (n : ℕ) (r s : HeaderRecord) (hs ks : List HeaderRecord) → IsReplaced n r s hs ks → IsCleared r s → AreCleared hs ks
replaced_cleared n r s hs ks R C m t f = elim (cases_eq m n) [
  | inl e ↦
      let g : Some s ≡ Some t = sym R.here ∙ (ap (λ (k : ℕ). find_header k ks) (sym e) ∙ f) in
      let is : s ≡ t = cc in
      (r, ap (λ (k : ℕ). find_header k hs) e ∙ R.was, subst (λ (z : HeaderRecord). IsCleared r z) is C)
  | inr d ↦ (t, sym (R.others m d) ∙ f, (refl, refl, refl, inl refl))
]

put_cleared : (key : PortKey) (spot : Spot) (n : ℕ) (hs : List HeaderRecord) → Once hs → AreCleared hs (put key spot n cleared hs) × Once (put key spot n cleared hs)
put_cleared key spot n hs o = elim (none_or_some (find_header n hs)) [
  | inl z ↦ let e = put_nothing key spot cleared n hs z in rw e (cleared_none hs, o)
  | inr r ↦
      let R = replaced_put key spot cleared (λ _. refl) n hs r.0 o r.1 in
      (replaced_cleared n r.0 (put_at key spot (cleared r.0)) hs (put key spot n cleared hs) R (refl, refl, refl, inr refl), R.once)
]

all_put_cleared : (key : PortKey) (spot : Spot) (ns : List ℕ) (hs : List HeaderRecord) → Once hs → AreCleared hs (put_all key spot ns hs)
all_put_cleared key spot [] hs o = cleared_none hs
all_put_cleared key spot (n ∷ ns) hs o = let a = put_cleared key spot n hs o in all_after hs (put key spot n cleared hs) _ a.0 (all_put_cleared key spot ns (put key spot n cleared hs) a.1)

in_place_cleared : (n : ℕ) (hs : List HeaderRecord) → Once hs → AreCleared hs (changed n cleared hs)
in_place_cleared n hs o m t f = elim (none_or_some (find_header n hs)) [
  | inl z ↦ let e = changed_nothing cleared (λ _. refl) n hs z in (t, ap (find_header m) (sym e) ∙ f, (refl, refl, refl, inl refl))
  | inr r ↦ elim (cases_eq m n) [
    | inl e ↦
        let g : Some (cleared r.0) ≡ Some t = sym (changed_same cleared (λ _. refl) n hs r.0 r.1) ∙ (ap (λ (k : ℕ). find_header k (changed n cleared hs)) (sym e) ∙ f) in
        let is : cleared r.0 ≡ t = cc in
        (r.0, ap (λ (k : ℕ). find_header k hs) e ∙ r.1, subst (λ (z : HeaderRecord). IsCleared r.0 z) is (refl, refl, refl, inr refl))
    | inr d ↦ (t, sym (changed_else cleared (λ _. refl) n m hs d) ∙ f, (refl, refl, refl, inl refl))
  ]
]

all_in_place_cleared : (ns : List ℕ) (hs : List HeaderRecord) → Once hs → AreCleared hs (cleared_all ns hs) × Once (cleared_all ns hs)
all_in_place_cleared [] hs o = (cleared_none hs, o)
all_in_place_cleared (n ∷ ns) hs o =
    let a = in_place_cleared n hs o in
    let b = all_in_place_cleared ns (changed n cleared hs) (once_changed cleared (λ _. refl) n hs o) in
    (all_after hs (changed n cleared hs) _ a b.0, b.1)

reset_cleared : (input : Bool) (key : PortKey) (hs : List HeaderRecord) → Once hs → AreCleared hs (reset input key hs)
reset_cleared true key hs o = let a = all_in_place_cleared ((seen hs).done key) hs o in all_after hs (cleared_all ((seen hs).done key) hs) _ a.0 (all_put_cleared key DoneBack ((seen hs).todo key) _ a.1)
reset_cleared false key hs o = let a = all_in_place_cleared ((seen hs).todo key) hs o in all_after hs (cleared_all ((seen hs).todo key) hs) _ a.0 (all_put_cleared key TodoBack ((seen hs).done key) _ a.1)

port_cleared : (q : Port) (hs : List HeaderRecord) → Once hs → AreCleared hs (reset_port q hs) × Once (reset_port q hs)
port_cleared q hs o = either (is_supplier q)
    (λ t. rw t (reset_cleared (is_input_port q) q.key hs o, (is_reset (is_input_port q) q.key hs o).once))
    (λ f. rw f (cleared_none hs, o))

pub ports_cleared : (ps : List Port) (hs : List HeaderRecord) → Once hs → AreCleared hs (reset_ports ps hs)
ports_cleared [] hs o = cleared_none hs
ports_cleared (q ∷ ps) hs o = let a = port_cleared q hs o in all_after hs (reset_port q hs) _ a.0 (ports_cleared ps (reset_port q hs) a.1)

cleared_links : (x : Cast) (r s : HeaderRecord) → IsCleared r s → HasLink x r → HasLink x s
cleared_links x r s C H =
    let W = H.whole in
    record {
      link = H.link;
      below = H.below;
      whole = record {
        for_link = rw (C.0, C.1) W.for_link;
        unmarked = elim C.3 [ inl e ↦ ap (λ (z : Load). z.mark) e ∙ W.unmarked | inr e ↦ ap (λ (z : Load). z.mark) e ];
        size = C.2 ∙ W.size;
        frames = elim C.3 [
          | inl e ↦ rw e W.frames
          | inr e ↦ rw (e, zero-div (x.unit H.link)) (omega arith)
        ];
      };
    }

pub links_cleared : (x : Cast) (hs ks : List HeaderRecord) → AreCleared hs ks → ((n : ℕ) (r : HeaderRecord) → find_header n hs ≡ Some r → HasLink x r) → (n : ℕ) (s : HeaderRecord) → find_header n ks ≡ Some s → HasLink x s
links_cleared x hs ks A all n s f = let r = A n s f in cleared_links x r.0 s r.2 (all n r.0 r.1)

-- ---- the link of a port, and other links

-- the lists of the end that doesn't supply are empty, and no work has a header of the link
pub record IsHome (y : LinkEnds) (away : PortKey) (hs : List HeaderRecord) : Type 0 where
  pub undrained : y.draining ≡ []
  pub todo : (seen hs).todo away ≡ []
  pub done : (seen hs).done away ≡ []

home_stays : (y : LinkEnds) (away key : PortKey) (hs ks : List HeaderRecord) → IsReset key hs ks → same_key away key ≡ false → IsHome y away hs → IsHome y away ks
home_stays y away key hs ks R n H = record { undrained = H.undrained; todo = R.todo away n ∙ H.todo; done = R.done away n ∙ H.done }

reset_twice : (by : Bool) (v : LinkState) → reset_link by (reset_link by v) ≡ reset_link by v
reset_twice true v = link_same (reset_link true (reset_link true v)) (reset_link true v) (omega arith) refl refl refl refl refl
reset_twice false v = link_same (reset_link false (reset_link false v)) (reset_link false v) refl refl refl (omega arith) refl refl

abbrev pub reset_if : Bool → Bool → LinkState → LinkState
reset_if by true v = reset_link by v
reset_if by false v = v

once_or_twice : (by t : Bool) (v : LinkState) → reset_if by t (reset_link by v) ≡ reset_link by v
once_or_twice by true v = reset_twice by v
once_or_twice by false v = refl

-- the reset of the supplying end is the link's reset
reset_home : (by : Bool) (y : LinkEnds) (hs : List HeaderRecord) → Once hs → same_key y.input y.output ≡ false → IsHome y (home_by by y.input y.output) hs → link_view y (reset (not by) (home_by by y.output y.input) hs) ≡ reset_link by (link_view y hs)
reset_home true y hs o a H = reset_output y hs o a H.undrained H.todo
reset_home false y hs o a H = reset_input y hs o a H.undrained H.done

-- some port of the list is the key's
abbrev pub hits : PortKey → List Port → Bool
hits key [] = false
hits key (q ∷ ps) = same_key q.key key || hits key ps

-- A port that supplies is the link's own supplying end, or apart from both ends; one that doesn't is no supplying end.
or_true : (b : Bool) → (b || true) ≡ true
or_true true = refl
or_true false = refl

pub record Fits (by : Bool) (y : LinkEnds) (q : Port) : Type 0 where
  pub home : same_key q.key (home_by by y.output y.input) ≡ true → (is_supplier q ≡ true) × (is_input_port q ≡ not by)
  pub else_ : is_supplier q ≡ true → same_key q.key (home_by by y.output y.input) ≡ false → (same_key y.output q.key ≡ false) × (same_key y.input q.key ≡ false)

abbrev pub AreFitting : Bool → LinkEnds → List Port → Type 0
AreFitting by y [] = Unit {0}
AreFitting by y (q ∷ ps) = Fits by y q × AreFitting by y ps

other_end_apart : (by : Bool) (y : LinkEnds) (key : PortKey) → same_key y.output key ≡ false → same_key y.input key ≡ false → same_key (home_by by y.input y.output) key ≡ false
other_end_apart true y key a b = b
other_end_apart false y key a b = a

home_apart : (by : Bool) (y : LinkEnds) → same_key y.input y.output ≡ false → same_key y.output y.input ≡ false → same_key (home_by by y.input y.output) (home_by by y.output y.input) ≡ false
home_apart true y a b = a
home_apart false y a b = b

pub reset_at : (by : Bool) (y : LinkEnds) (ps : List Port) (hs : List HeaderRecord) → Once hs → same_key y.input y.output ≡ false → same_key y.output y.input ≡ false → IsHome y (home_by by y.input y.output) hs → AreFitting by y ps
    → link_view y (reset_ports ps hs) ≡ reset_if by (hits (home_by by y.output y.input) ps) (link_view y hs)
reset_at by y [] hs o a b H F = refl
reset_at by y (q ∷ ps) hs o a b H F =
    let home : PortKey = home_by by y.output y.input in
    let away : PortKey = home_by by y.input y.output in
    let ks : List HeaderRecord = reset (is_input_port q) q.key hs in
    let R = is_reset (is_input_port q) q.key hs o in
    either (is_supplier q)
    (λ t. either (same_key q.key home)
    (λ u.
    let k : q.key ≡ home = key_is q.key home u in
    let d = ((F.0).home u).1 in
    let H2 : IsHome y away ks = home_stays y away q.key hs ks R (ap (same_key away) k ∙ home_apart by y a b) H in
    let rest = reset_at by y ps ks R.once a b H2 F.1 in
    let here : link_view y ks ≡ reset_link by (link_view y hs) = ap (λ (z : Bool). link_view y (reset z q.key hs)) d ∙ (ap (λ (z : PortKey). link_view y (reset (not by) z hs)) k ∙ reset_home by y hs o a H) in
    rw (t, u) (rest ∙ (ap (reset_if by (hits home ps)) here ∙ once_or_twice by (hits home ps) (link_view y hs))))
    (λ u.
    let n = (F.0).else_ t u in
    let H2 : IsHome y away ks = home_stays y away q.key hs ks R (other_end_apart by y q.key n.0 n.1) H in
    let rest = reset_at by y ps ks R.once a b H2 F.1 in
    let here : link_view y ks ≡ link_view y hs = reset_beside_all (is_input_port q) q.key hs y o H.undrained n.0 n.1 in
    rw (t, u) (rest ∙ ap (reset_if by (hits home ps)) here)))
    (λ f.
    let u : same_key q.key home ≡ false = either (same_key q.key home) (λ z. let s = ((F.0).home z).0 in absurd cc) (λ z. z) in
    rw (f, u) (reset_at by y ps hs o a b H F.1))

-- where no port of the list that supplies is an end of the link, it stays
abbrev pub AreOff : LinkEnds → List Port → Type 0
AreOff y ps = (j : ℕ) (q : Port) → slice_get ps j ≡ Some q → is_supplier q ≡ true → (same_key y.output q.key ≡ false) × (same_key y.input q.key ≡ false)

pub reset_off : (y : LinkEnds) (ps : List Port) (hs : List HeaderRecord) → Once hs → y.draining ≡ [] → AreOff y ps → link_view y (reset_ports ps hs) ≡ link_view y hs
reset_off y [] hs o d F = refl
reset_off y (q ∷ ps) hs o d F =
    let ks : List HeaderRecord = reset (is_input_port q) q.key hs in
    let R = is_reset (is_input_port q) q.key hs o in
    either (is_supplier q)
    (λ t.
    let n = F 0 q refl t in
    rw t (reset_off y ps ks R.once d (λ j z e. F (suc j) z e) ∙ reset_beside_all (is_input_port q) q.key hs y o d n.0 n.1))
    (λ f. rw f (reset_off y ps hs o d (λ j z e. F (suc j) z e)))

-- ---- lists of ports

pub hits_some : (key : PortKey) (ps : List Port) (j : ℕ) (q : Port) → slice_get ps j ≡ Some q → same_key q.key key ≡ true → hits key ps ≡ true
hits_some key [] j q e t = absurd cc
hits_some key (z ∷ ps) zero q e t = let is : z ≡ q = cc in rw (is, t) refl
hits_some key (z ∷ ps) (suc j) q e t = rw (hits_some key ps j q e t) (or_true (same_key z.key key))

pub fit_each : (by : Bool) (y : LinkEnds) (ps : List Port) → ((j : ℕ) (q : Port) → slice_get ps j ≡ Some q → Fits by y q) → AreFitting by y ps
fit_each by y [] h = tt
fit_each by y (q ∷ ps) h = (h 0 q refl, fit_each by y ps (λ j z e. h (suc j) z e))
