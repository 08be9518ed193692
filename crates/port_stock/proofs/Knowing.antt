-- What calls ask of ports is known where they tell of a flat list.
use Rattle.std.proofs.Common.{◌≡◌, ℕ, ◌<◌, ◌≤◌, Bool, true, false, not, ◌&&◌, ◌||◌, List, [], ◌∷◌, length, Option, Some, None, option_map, MatchOption, if◌then◌else◌, refl, sym, ◌∙◌, ap, arith, inl, inr, subst}
use Rattle.il_machine.specs.declared.port.PortKey.{PortKey}
use Rattle.il_machine.specs.declared.header.Owner.{Owner}
use Rattle.il_machine.specs.declared.header.Queue.TheVariants.{Out}
use Rattle.il_machine.specs.declared.header.Spot.{Spot}
use Rattle.il_machine.specs.declared.header.Spot.TheVariants.{TodoBack, TodoFront, DoneBack}
use Rattle.il_machine.specs.declared.header.HeaderState.{HeaderState}
use Rattle.il_machine.specs.World.{HeaderRecord}
use Rattle.il_machine.specs.Headers.{count_headers, find_header, in_todo, in_done, is_away, is_for, is_home_of, is_key, is_owned_by, is_state, is_todo, is_done, numbers, same_key, state_at, state_given, state_of, weight}
use Rattle.il_machine.specs.Stock.{times_passed}
use Rattle.stock_laws.specs.Seeing.{Implies}
use Rattle.stock_laws.proofs.Flat.{count-without}
use Rattle.stock_laws.proofs.Keys.{key_tells, same_key-refl, same_key-sym}
use Rattle.stock_laws.proofs.Leaving.{and_both}
use Rattle.stock_laws.proofs.Counts.{count_le, count_less, todo_counted, done_counted}
use Rattle.port_stock.specs.declared.port.Port.{Port}
use Rattle.port_stock.specs.Conditions.{IsMadeForOwner, has_key, is_port}
use Rattle.port_stock.specs.Entries.{AreLawful, Each}
use Rattle.port_stock.specs.Rings.{HasCounted, IsKnownBy, IsPortOf, Replaces, Tells, is_away_from, is_guest, no_port, port_at, port_keys, with_number}
use Rattle.port_stock.proofs.Lawful.{count_and, lawful_owner, no_port_owns, put_owned, weight_one}
use Rattle.port_stock.proofs.Telling.{plain, plain_stands}

-- ---- which ports there are

pub absent : (k : PortKey) (ps : List Port) → has_key k (port_keys ps) ≡ false → port_at k ps ≡ no_port k
absent k [] h = refl
absent k (p ∷ ps) h = elim (same_key k p.key) as (λ v. same_key k p.key ≡ v → (v || has_key k (port_keys ps)) ≡ false → (if same_key p.key k then p else port_at k ps) ≡ no_port k) [
  | true ↦ λ t e. absurd cc
  | false ↦ λ t e. rw (same_key-sym p.key k, t) (absent k ps e)
] refl h

-- a header's record with what is known of its state
pub record Known (n : ℕ) (hs : List HeaderRecord) (h : HeaderState) : Type 0 where
  pub it : HeaderRecord
  pub is : find_header n hs ≡ Some it
  pub state : it.state ≡ h

known_by : (o : Option HeaderRecord) (h : HeaderState) → option_map state_of o ≡ Some h → (r : HeaderRecord) × (o ≡ Some r) × (r.state ≡ h)
known_by None h e = absurd cc
known_by (Some r) h e = (r, refl, cc)

pub known : (n : ℕ) (hs : List HeaderRecord) (h : HeaderState) → option_map state_of (find_header n hs) ≡ Some h → Known n hs h
known n hs h e = let K = known_by (find_header n hs) h e in record { it = K.0; is = K.1; state = K.2 }

module _ (ps : List Port) (table flat : List HeaderRecord) (next : ℕ) (T : Tells ps table flat) (L : AreLawful (port_keys ps) next flat) where
  pub known_flat : (n : ℕ) (h : HeaderState) → option_map state_of (find_header n table) ≡ Some h → Known n flat h
  known_flat n h e = known n flat h (sym (ap (option_map state_of) (T.found n)) ∙ e)

  -- a port that a header was made for is there
  pub made_port : (n : ℕ) (k : PortKey) (h : HeaderState) → Known n flat h → is_for k h ≡ true → has_key k (port_keys ps) ≡ true
  made_port n k h K f = elim (has_key k (port_keys ps)) as (λ v. has_key k (port_keys ps) ≡ v → v ≡ true) [
    | true ↦ λ t. refl
    | false ↦ λ t.
        let none : (port_at k ps).made ≡ 0 = ap (λ (p : Port). p.made) (absent k ps t) in
        let some : weight (is_for k K.it.state) ≡ 1 = ap weight (ap (is_for k) K.state ∙ f) in
        let m = (T.port k).made in
        absurd (omega (arith, count-without (is_for k) n flat K.it K.is))
  ] refl

  pub own_port : (n : ℕ) (h : HeaderState) → Known n flat h → has_key h.port (port_keys ps) ≡ true
  own_port n h K = made_port n h.port h K (rw same_key-refl refl)

  peer_at : (n : ℕ) (h : HeaderState) (o : Option PortKey) → Known n flat h → h.peer ≡ o → MatchOption o (Unit {0}) (λ key. has_key key (port_keys ps) ≡ true)
  peer_at n h None K e = tt
  peer_at n h (Some key) K e =
      let f : is_key key h.peer ≡ true = ap (is_key key) e ∙ same_key-refl key in
      made_port n key h K (elim (same_key h.port key) as (λ v. (v || is_key key h.peer) ≡ true) [ true ↦ refl | false ↦ f ])

  pub peer_port : (n : ℕ) (h : HeaderState) → Known n flat h → MatchOption h.peer (Unit {0}) (λ key. has_key key (port_keys ps) ≡ true)
  peer_port n h K = peer_at n h h.peer K refl

  pub owner_port : (n : ℕ) (h : HeaderState) → Known n flat h → IsMadeForOwner h
  owner_port n h K = lawful_owner (port_keys ps) next flat n h L (ap (option_map state_of) K.is ∙ ap (λ (s : HeaderState). Some s) K.state)

  pub known_before : (n : ℕ) (h : HeaderState) → Known n flat h → IsKnownBy h.port h.peer (Some h)
  known_before n h K = (refl, refl, owner_port n h K)

  -- ---- counts

  weight_guest : (k : PortKey) (h : HeaderState) → IsMadeForOwner h → weight (is_guest k h) ≤ weight (is_for k h)
  weight_guest k h M = elim (is_owned_by k h.owner) as (λ v. is_owned_by k h.owner ≡ v → weight (v && not (is_home_of k h.home)) ≤ weight (is_for k h)) [
    | true ↦ λ t. let one : weight (is_for k h) ≡ 1 = ap weight (M k t) in let w = weight_one (not (is_home_of k h.home)) in omega arith
    | false ↦ λ t. omega arith
  ] refl

  pub guests : (k : PortKey) (hs : List HeaderRecord) → Each (λ r. IsMadeForOwner r.state) hs → count_headers (is_guest k) hs ≤ count_headers (is_for k) hs
  guests k [] E = omega arith
  guests k (x ∷ hs) E = let i = guests k hs E.1 in let w = weight_guest k x.state E.0 in omega arith

  pub counted_at : (before : Option HeaderState) → ((test : HeaderState → Bool) → times_passed test before ≤ count_headers test flat) → (k : PortKey) → HasCounted before (port_at k ps)
  counted_at before enough k =
      let P = T.port k in
      let p = port_at k ps in
      let m : times_passed (is_for k) before ≤ p.made = omega (arith, P.made, enough (is_for k)) in
      let o : times_passed (is_away_from k) before ≤ p.outstanding = omega (arith, P.outstanding, enough (is_away_from k)) in
      let g : times_passed (is_guest k) before ≤ p.foreign = omega (arith, P.foreign, enough (is_guest k)) in
      record {
        made = subst (λ (l : PortKey). times_passed (is_for l) before ≤ p.made) (sym P.named) m;
        outstanding = subst (λ (l : PortKey). times_passed (is_away_from l) before ≤ p.outstanding) (sym P.named) o;
        foreign = subst (λ (l : PortKey). times_passed (is_guest l) before ≤ p.foreign) (sym P.named) g;
        few_made = omega (arith, P.made, L.few k);
        few_outstanding = omega (arith, P.outstanding, count_and (is_for k) is_away flat, L.few k);
        few_foreign = omega (arith, P.foreign, guests k flat L.owned, L.few k);
      }

  pub enough_known : (n : ℕ) (h : HeaderState) → Known n flat h → (test : HeaderState → Bool) → times_passed test (Some h) ≤ count_headers test flat
  enough_known n h K test =
      let s : weight (test K.it.state) ≡ weight (test h) = ap (λ (x : HeaderState). weight (test x)) K.state in
      omega (arith, count-without test n flat K.it K.is)

  -- ---- a place in the rings

  module _ (n : ℕ) (h : HeaderState) (K : Known n flat h) (o : h.queue ≡ Out) (port : PortKey) (f : is_for port h ≡ true) where
    pub todo_room : length (port_at port ps).todo.items < (port_at port ps).todo.capacity
    todo_room =
        let S = plain_stands flat L.once in
        let shown : option_map state_of (find_header n flat) ≡ Some h = ap (option_map state_of) K.is ∙ ap (λ (s : HeaderState). Some s) K.state in
        let I : Implies (plain flat).headers (in_todo port) (is_for port) = λ m s e t. lawful_owner (port_keys ps) next flat m s L e port (and_both (is_todo s.queue) (is_owned_by port s.owner) t).1 in
        let a : in_todo port h ≡ false = rw o refl in
        let fewer = count_less (plain flat) flat (in_todo port) (is_for port) n h S I shown a f in
        let long = todo_counted (plain flat) flat port S in
        let list = ap length (T.port port).todo in
        omega (arith, (T.port port).todo_places, L.few port)

    pub done_room : length (port_at port ps).done.items < (port_at port ps).done.capacity
    done_room =
        let S = plain_stands flat L.once in
        let shown : option_map state_of (find_header n flat) ≡ Some h = ap (option_map state_of) K.is ∙ ap (λ (s : HeaderState). Some s) K.state in
        let I : Implies (plain flat).headers (in_done port) (is_for port) = λ m s e t. lawful_owner (port_keys ps) next flat m s L e port (and_both (is_done s.queue) (is_owned_by port s.owner) t).1 in
        let a : in_done port h ≡ false = rw o refl in
        let fewer = count_less (plain flat) flat (in_done port) (is_for port) n h S I shown a f in
        let long = done_counted (plain flat) flat port S in
        let list = ap length (T.port port).done in
        omega (arith, (T.port port).done_places, L.few port)

-- ---- a header that gets an owner

with_number-counted : (spot : Spot) (n : ℕ) (before : Option HeaderState) (p : Port) → HasCounted before p → HasCounted before (with_number spot n p)
with_number-counted TodoBack n before p H = record { made = H.made; outstanding = H.outstanding; foreign = H.foreign; few_made = H.few_made; few_outstanding = H.few_outstanding; few_foreign = H.few_foreign }
with_number-counted TodoFront n before p H = record { made = H.made; outstanding = H.outstanding; foreign = H.foreign; few_made = H.few_made; few_outstanding = H.few_outstanding; few_foreign = H.few_foreign }
with_number-counted DoneBack n before p H = record { made = H.made; outstanding = H.outstanding; foreign = H.foreign; few_made = H.few_made; few_outstanding = H.few_outstanding; few_foreign = H.few_foreign }

pub counted_behind : (port : PortKey) (spot : Spot) (n : ℕ) (before : Option HeaderState) (ps qs : List Port) → ((k : PortKey) → HasCounted before (port_at k ps)) → Replaces port (with_number spot n (port_at port ps)) ps qs
    → (k : PortKey) → HasCounted before (port_at k qs)
counted_behind port spot n before ps qs H R k =
    let P : Port → Type 0 = HasCounted before in
    elim (key_tells port k) [
      | inl x ↦
          let is : port_at k qs ≡ with_number spot n (port_at port ps) = R.at k ∙ rw x.0 refl in
          subst P (sym is) (with_number-counted spot n before (port_at port ps) (H port))
      | inr x ↦
          let is : port_at k qs ≡ port_at k ps = R.at k ∙ rw x.0 refl in
          subst P (sym is) (H k)
    ]

pub known_put : (port : PortKey) (spot : Spot) (h : HeaderState) → is_for port h ≡ true → IsKnownBy h.port h.peer (Some (state_at port spot h))
known_put port spot h f = (refl, refl, put_owned port spot h f)

pub known_given : (owner : Owner) (h s : HeaderState) → is_port owner ≡ false → s ≡ state_given owner h → IsKnownBy h.port h.peer (Some s)
known_given owner h s free e =
    let P : HeaderState → Type 0 = λ x. (x.port ≡ h.port) × (x.peer ≡ h.peer) × IsMadeForOwner x in
    subst P (sym e) (refl, refl, λ key o. absurd (no_port_owns key owner free o))

-- ---- a port that no header is made for

no_numbers : (ns : List ℕ) → length ns ≡ 0 → ns ≡ []
no_numbers [] h = refl
no_numbers (n ∷ ns) h = absurd (omega arith)

pub zero_port : (k : PortKey) (flat : List HeaderRecord) (keys : List PortKey) (next : ℕ) → AreLawful keys next flat → count_headers (is_for k) flat ≡ 0 → count_headers (is_guest k) flat ≤ count_headers (is_for k) flat → IsPortOf flat k (no_port k)
zero_port k flat keys next L z g =
    let S = plain_stands flat L.once in
    let I : Implies (plain flat).headers (in_todo k) (is_for k) = λ m s e t. lawful_owner keys next flat m s L e k (and_both (is_todo s.queue) (is_owned_by k s.owner) t).1 in
    let J : Implies (plain flat).headers (in_done k) (is_for k) = λ m s e t. lawful_owner keys next flat m s L e k (and_both (is_done s.queue) (is_owned_by k s.owner) t).1 in
    let a = count_le (plain flat) flat (in_todo k) (is_for k) S I in
    let b = count_le (plain flat) flat (in_done k) (is_for k) S J in
    let c = todo_counted (plain flat) flat k S in
    let d = done_counted (plain flat) flat k S in
    let x : length (numbers (is_state (in_todo k)) flat) ≡ 0 = omega arith in
    let y : length (numbers (is_state (in_done k)) flat) ≡ 0 = omega arith in
    record {
      named = refl;
      todo = sym (no_numbers _ x);
      done = sym (no_numbers _ y);
      todo_places = refl;
      done_places = refl;
      made = sym z;
      outstanding = let w = count_and (is_for k) is_away flat in omega arith;
      foreign = omega arith;
    }

-- ---- the table is as long as the flat list

all_counted : (hs : List HeaderRecord) → count_headers (λ h. true) hs ≡ length hs
all_counted [] = refl
all_counted (x ∷ hs) = omega (arith, all_counted hs)

pub table_length : (ps : List Port) (table flat : List HeaderRecord) → Tells ps table flat → length table ≡ length flat
table_length ps table flat T = sym (all_counted table) ∙ (T.counted (λ h. true) ∙ all_counted flat)

pub count_length : (test : HeaderState → Bool) (hs : List HeaderRecord) → count_headers test hs ≤ length hs
count_length test [] = omega arith
count_length test (x ∷ hs) = let i = count_length test hs in let w = weight_one (test x.state) in omega arith
