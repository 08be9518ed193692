-- A trail that goes on by one move.
use Rattle.std.proofs.Common.{◌≡◌, ◌≢◌, ℕ, ◌+◌, Bool, true, false, not, ◌&&◌, ◌||◌, List, [], ◌∷◌, ◌++◌, Option, Some, None, option_map, refl, sym, ◌∙◌, ap, eq-eqb, ne_eqb, arith}
use Rattle.il_machine.specs.declared.header.HeaderState.{HeaderState}
use Rattle.il_machine.specs.declared.header.Home.{Home}
use Rattle.il_machine.specs.declared.header.Home.TheVariants as homes
use Rattle.il_machine.specs.declared.header.Owner.{Owner}
use Rattle.il_machine.specs.declared.header.Owner.TheVariants as owners
use Rattle.il_machine.specs.World.{HeaderRecord}
use Rattle.il_machine.specs.Headers.{is_home_owner, is_notice, same_key, weight, state_of}
use Rattle.il_machine.specs.Trails.{Stop, Unmade, With, Move, is_of, trail, home_stop, Follows, IsLegalFor, owner_after, is_home_stop, is_handed_over, is_hand_over, is_return, hand_overs, returns, IsTrailOf, IsTrailOfNone, HasTrail}
use Rattle.machine_laws.proofs.Finding.{either}
use Rattle.history_laws.proofs.Owners.{Stand, stand_of}

-- ---- the trail of a number

pub trail_more : (n : ℕ) (xs ys : List Move) → trail n (xs ++ ys) ≡ trail n xs ++ trail n ys
trail_more n [] ys = refl
trail_more n (m ∷ xs) ys = either (is_of n m)
    (λ t. rw t (ap (λ (l : List Move). m ∷ l) (trail_more n xs ys)))
    (λ f. rw f (trail_more n xs ys))

pub trail_own : (m : Move) → trail m.header (m ∷ []) ≡ m ∷ []
trail_own m = rw (eq-eqb m.header m.header refl) refl

pub trail_other : (n : ℕ) (m : Move) → m.header ≢ n → trail n (m ∷ []) ≡ []
trail_other n m a = rw (ne_eqb m.header n a) refl

-- ---- one more move

pub ends_more : (at : Stop) (ms : List Move) (m : Move) → owner_after at (ms ++ m ∷ []) ≡ m.to
ends_more at [] m = refl
ends_more at (x ∷ ms) m = ends_more x.to ms m

unmade_apart : (o : Owner) → Unmade ≡ With o → ⊥
unmade_apart o e = cc

follows_more : (home : Home) (at : Stop) (ms : List Move) (m : Move) (o : Owner) → Follows home at ms → owner_after at ms ≡ With o → m.from ≡ With o → (m.to ≡ Unmade → With o ≡ home_stop home) → Follows home at (ms ++ m ∷ [])
follows_more home at [] m o F e f h = (f ∙ sym e, (λ u. (e ∙ h u, refl)), tt)
follows_more home at (x ∷ ms) m o F e f h = (
  F.0,
  (λ u.
      let last : ms ≡ [] = (F.1 u).1 in
      let end : owner_after x.to [] ≡ With o = rw last at e in
      absurd (unmade_apart o (sym u ∙ end))),
  follows_more home x.to ms m o F.2 e f h,
)

pub legal_more : (home : Home) (ms : List Move) (m : Move) (o : Owner) → IsLegalFor home ms → owner_after Unmade ms ≡ With o → m.from ≡ With o → (m.to ≡ Unmade → With o ≡ home_stop home) → IsLegalFor home (ms ++ m ∷ [])
legal_more home [] m o L e f h = absurd (unmade_apart o e)
legal_more home (x ∷ ms) m o L e f h = (L.0, L.1, follows_more home x.to ms m o L.2 e f h)

returns_more : (home : Home) (ms : List Move) (m : Move) → returns home (ms ++ m ∷ []) ≡ returns home ms + weight (is_return home m)
returns_more home [] m = omega arith
returns_more home (x ∷ ms) m = omega (arith, returns_more home ms m)

hand_overs_more : (home : Home) (ms : List Move) (m : Move) → hand_overs home (ms ++ m ∷ []) ≡ hand_overs home ms + weight (is_hand_over home m)
hand_overs_more home [] m = omega arith
hand_overs_more home (x ∷ ms) m = omega (arith, hand_overs_more home ms m)

-- ---- hand-overs and returns

or_false : (b : Bool) → (b || false) ≡ b
or_false true = refl
or_false false = refl

-- A header at home or in a notice isn't handed over. One in the work of its home's component isn't either, though it is away.
pub home_unless_away : (home : Home) (owner : Owner) → not (is_home_owner home owner || is_notice owner) ≡ false → not (is_home_stop home (With owner)) ≡ false
home_unless_away homes.Client owners.Client h = refl
home_unless_away homes.Client (owners.Port k) h = absurd cc
home_unless_away homes.Client (owners.Notice c) h = refl
home_unless_away homes.Client (owners.Work c) h = absurd cc
home_unless_away (homes.Port p) owners.Client h = absurd cc
home_unless_away (homes.Port p) (owners.Port k) h = sym (ap not (or_false (same_key p k))) ∙ h
home_unless_away (homes.Port p) (owners.Notice c) h = refl
home_unless_away (homes.Port p) (owners.Work c) h = absurd cc

turn : (a b : Bool) → weight (not a && b) + weight (not b) ≡ weight (a && true && not b) + weight (not a)
turn true true = refl
turn true false = refl
turn false true = refl
turn false false = refl

-- A header goes from one owner to another.
pub trail_on : (n : ℕ) (s t : HeaderState) (ms : List Move) → IsTrailOf s ms → t.home ≡ s.home → IsTrailOf t (ms ++ record { header = n; from = With s.owner; to = With t.owner } ∷ [])
trail_on n s t ms T h =
    let m : Move = record { header = n; from = With s.owner; to = With t.owner } in
    let r = returns_more s.home ms m in
    let o = hand_overs_more s.home ms m in
    let e = turn (is_home_stop s.home (With s.owner)) (is_home_stop s.home (With t.owner)) in
    let y : weight (is_handed_over t) ≡ weight (not (is_home_stop s.home (With t.owner))) = ap (λ (x : Home). weight (not (is_home_stop x (With t.owner)))) h in
    let q = T.returned in
    let c : weight (is_return s.home m) ≡ weight (not (is_home_stop s.home (With s.owner)) && is_home_stop s.home (With t.owner)) = refl in
    let d : weight (is_hand_over s.home m) ≡ weight (is_home_stop s.home (With s.owner) && true && not (is_home_stop s.home (With t.owner))) = refl in
    record {
      legal = rw h (legal_more s.home ms m s.owner T.legal T.ends refl (λ u. absurd (unmade_apart t.owner (sym u))));
      ends = ends_more Unmade ms m;
      returned = rw h (omega (arith, r, o, e, y, q, c, d));
    }

-- where the header is at home

home_is : (home : Home) (owner : Owner) → With owner ≡ home_stop home → is_home_owner home owner ≡ true
home_is homes.Client owners.Client e = refl
home_is homes.Client (owners.Port k) e = absurd cc
home_is homes.Client (owners.Notice c) e = absurd cc
home_is homes.Client (owners.Work c) e = absurd cc
home_is (homes.Port h) owners.Client e = absurd cc
home_is (homes.Port h) (owners.Port k) e = let s : With (owners.Port k) ≡ With (owners.Port h) = e in let is : k ≡ h = cc in rw (is, eq-eqb h.component h.component refl, eq-eqb h.port h.port refl) refl
home_is (homes.Port h) (owners.Notice c) e = absurd cc
home_is (homes.Port h) (owners.Work c) e = absurd cc

home_stops : (home : Home) (owner : Owner) → is_home_owner home owner ≡ true → is_home_stop home (With owner) ≡ true
home_stops homes.Client owners.Client e = e
home_stops homes.Client (owners.Port k) e = e
home_stops homes.Client (owners.Notice c) e = refl
home_stops homes.Client (owners.Work c) e = e
home_stops (homes.Port h) owners.Client e = e
home_stops (homes.Port h) (owners.Port k) e = e
home_stops (homes.Port h) (owners.Notice c) e = refl
home_stops (homes.Port h) (owners.Work c) e = absurd cc

-- A header is unmade.
pub trail_ends : (n : ℕ) (s : HeaderState) (ms : List Move) → IsTrailOf s ms → With s.owner ≡ home_stop s.home → IsTrailOfNone (ms ++ record { header = n; from = With s.owner; to = Unmade } ∷ [])
trail_ends n s ms T h =
    let m : Move = record { header = n; from = With s.owner; to = Unmade } in
    let r = returns_more s.home ms m in
    let o = hand_overs_more s.home ms m in
    let b : is_home_stop s.home (With s.owner) ≡ true = home_stops s.home s.owner (home_is s.home s.owner h) in
    let x : weight (is_handed_over s) ≡ 0 = rw b refl in
    let c : weight (is_return s.home m) ≡ 0 = rw b refl in
    let d : weight (is_hand_over s.home m) ≡ 0 = rw b refl in
    let q = T.returned in
    record {
      home = s.home;
      legal = legal_more s.home ms m s.owner T.legal T.ends refl (λ u. h);
      ends = ends_more Unmade ms m;
      returned = omega (arith, r, o, x, c, d, q);
    }

-- ---- a header that is made

pub trail_begins : (n : ℕ) (s : HeaderState) → With s.owner ≡ home_stop s.home → IsTrailOf s (record { header = n; from = Unmade; to = With s.owner } ∷ [])
trail_begins n s h = record {
  legal = (refl, h, tt);
  ends = refl;
  returned = rw (home_stops s.home s.owner (home_is s.home s.owner h)) refl;
}

-- ---- another record of the header, with its home and owner

trail_same : (s t : HeaderState) (ms : List Move) → t.home ≡ s.home → t.owner ≡ s.owner → IsTrailOf s ms → IsTrailOf t ms
trail_same s t ms h o T =
    let a : weight (is_handed_over t) ≡ weight (is_handed_over s) = λ i. weight (not (is_home_stop (h i) (With (o i)))) in
    let b : returns t.home ms ≡ returns s.home ms = ap (λ (x : Home). returns x ms) h in
    let c : hand_overs t.home ms ≡ hand_overs s.home ms = ap (λ (x : Home). hand_overs x ms) h in
    record {
      legal = rw h T.legal;
      ends = rw o T.ends;
      returned = omega (arith, a, b, c, T.returned);
    }

pub has_same : (a b : Option HeaderRecord) (ms : List Move) → option_map stand_of b ≡ option_map stand_of a → HasTrail (option_map state_of a) ms → HasTrail (option_map state_of b) ms
has_same None None ms e T = T
has_same None (Some s) ms e T = absurd cc
has_same (Some r) None ms e T = absurd cc
has_same (Some r) (Some s) ms e T =
    let is : stand_of s ≡ stand_of r = cc in
    trail_same r.state s.state ms (ap (λ (x : Stand). x.home) is) (ap (λ (x : Stand). x.owner) is) T
