-- hand_back of a header that was not used, in a play's world: exactly where the model can.
use Rattle.std.proofs.Common.{◌≡◌, ℕ, zero, suc, ◌<◌, Bool, true, false, not, ◌&&◌, ◌||◌, if◌then◌else◌, List, [], ◌∷◌, length, map, Some, None, refl, sym, ◌∙◌, ap, subst, arith}
use Rattle.std.proofs.Math.Nat.{zero-div}
use Rattle.omx_types.specs.declared.state.State.TheVariants as states
use Rattle.il_machine.specs.declared.port.PortKey.{PortKey}
use Rattle.il_machine.specs.declared.header.Spot.{Spot}
use Rattle.il_machine.specs.States.{same_state}
use Rattle.il_machine.specs.Lists.{holds_at, is_empty}
use Rattle.il_machine.specs.World.{HeaderRecord}
use Rattle.il_machine.specs.Headers.{put_at, cleared}
use Rattle.play_model.specs.Network.{Filled, LinkState}
use Rattle.play_model.specs.Moves.{IsFront}
use Rattle.play_model.specs.Play.{HasUnused}
use Rattle.play_model.specs.Acts.{back_held, given_unused}
use Rattle.play_world_laws.specs.Cast.{Cast, home_by}
use Rattle.play_world_laws.specs.Standing.{pending_at}
use Rattle.play_world_laws.specs.Worlds.{HasLink}

-- ---- on the way to the second Idle

pub going_at : (phase stage : ℕ) → holds_at (pending_at phase stage) (λ y. same_state y.target states.Idle) ≡ true → stage ≡ 2
going_at phase zero h = absurd cc
going_at phase (suc zero) h = absurd cc
going_at phase (suc (suc zero)) h = refl
going_at phase (suc (suc (suc n))) h = absurd cc

pub at_going : (phase stage : ℕ) → phase ≡ 3 → stage ≡ 2 → holds_at (pending_at phase stage) (λ y. same_state y.target states.Idle) ≡ true
at_going phase stage e f = rw (e, f) refl

-- ---- the lists of the other end

no_length : {A : Type 0} (xs : List A) → length xs ≡ 0 → xs ≡ []
no_length [] e = refl
no_length (y ∷ xs) e = absurd (omega arith)

some_length : {A : Type 0} (xs : List A) → 0 < length xs → (n : A) × (ns : List A) × (xs ≡ n ∷ ns)
some_length [] e = absurd (omega arith)
some_length (n ∷ ns) e = (n, ns, refl)

no_map : (f : ℕ → Filled) (xs : List ℕ) → map f xs ≡ [] → xs ≡ []
no_map f [] e = refl
no_map f (y ∷ xs) e = absurd cc

front_map : (f : ℕ → Filled) (xs : List ℕ) → IsFront (λ h. Unit {0}) (map f xs) → (n : ℕ) × (ns : List ℕ) × (xs ≡ n ∷ ns)
front_map f [] h = absurd h
front_map f (n ∷ ns) h = (n, ns, refl)

-- of the end that doesn't supply the link: done is empty, and todo isn't
pub record IsLeft (lists dones : PortKey → List ℕ) (key : PortKey) : Type 0 where
  pub none : dones key ≡ []
  pub number : ℕ
  pub rest : List ℕ
  pub some : lists key ≡ number ∷ rest

pub left_by : (by : Bool) (y : LinkState) (f g : ℕ → Filled) (todos dones : PortKey → List ℕ) (o i : PortKey) → y.ready ≡ length (todos o) → y.sent ≡ map f (dones o) → y.held ≡ map g (todos i) → y.spent ≡ length (dones i) → HasUnused by y
    → IsLeft todos dones (home_by by i o)
left_by true y f g todos dones o i r s h d U =
    let k = front_map g (todos i) (subst (λ (q : List Filled). IsFront (λ h. Unit {0}) q) h U.1) in
    record { none = no_length (dones i) (sym d ∙ U.0); number = k.0; rest = k.1; some = k.2 }
left_by false y f g todos dones o i r s h d U =
    let k = some_length (todos o) (omega (arith, r, U.1)) in
    record { none = no_map f (dones o) (sym s ∙ U.0); number = k.0; rest = k.1; some = k.2 }

pub by_left : (by : Bool) (y : LinkState) (f g : ℕ → Filled) (todos dones : PortKey → List ℕ) (o i : PortKey) → y.ready ≡ length (todos o) → y.sent ≡ map f (dones o) → y.held ≡ map g (todos i) → y.spent ≡ length (dones i) → IsLeft todos dones (home_by by i o)
    → HasUnused by y
by_left true y f g todos dones o i r s h d L = (d ∙ ap length L.none, subst (λ (q : List Filled). IsFront (λ h. Unit {0}) q) (sym (h ∙ ap (map g) L.some)) tt)
by_left false y f g todos dones o i r s h d L =
    let n : length (todos o) ≡ suc (length L.rest) = ap length L.some in
    (s ∙ ap (map f) L.none, omega (arith, r, n))

pub is_nil : {A : Type 0} (xs : List A) → is_empty xs ≡ true → xs ≡ []
is_nil [] e = refl
is_nil (y ∷ xs) e = absurd cc

pub unused_none : {X : Type 0} (s r e d t : Bool) (f g h : X) → s ≡ false → r ≡ true → t ≡ false → (if s then Some f else (if not r && not e then Some g else (if d && (not r || t) then Some h else None))) ≡ None
unused_none s r e true t f g h a b c = rw (a, b, c) refl
unused_none s r e false t f g h a b c = rw (a, b) refl

pub both_left : (d r t : Bool) → d ≡ true → (d && (not r || t)) ≡ false → (r ≡ true) × (t ≡ false)
both_left true true t e f = (refl, f)
both_left true false t e f = absurd cc
both_left false r t e f = absurd cc

back_closed : (q : List Filled) (y : LinkState) → (back_held q y).closed ≡ y.closed
back_closed [] y = refl
back_closed (h ∷ q) y = refl

back_taken : (q : List Filled) (y : LinkState) → (back_held q y).taken ≡ y.taken
back_taken [] y = refl
back_taken (h ∷ q) y = refl

pub unused_closed : (by : Bool) (y : LinkState) → (given_unused by y).closed ≡ y.closed
unused_closed true y = back_closed y.held y
unused_closed false y = refl

pub unused_taken : (by : Bool) (y : LinkState) → (given_unused by y).taken ≡ y.taken
unused_taken true y = back_taken y.held y
unused_taken false y = refl

pub cleared_link : (x : Cast) (to : PortKey) (spot : Spot) (r : HeaderRecord) → HasLink x r → HasLink x (put_at to spot (cleared r))
cleared_link x to spot r H = record {
  link = H.link;
  below = H.below;
  whole = record { for_link = (H.whole).for_link; unmarked = refl; size = (H.whole).size; frames = rw (zero-div (x.unit H.link)) (omega arith) };
}
