-- A header of a link is unmade in a play's world: exactly where the model can.
use Rattle.std.proofs.Common.{◌≡◌, ◌⊎◌, inl, inr, ℕ, zero, suc, ◌-◌, ◌<◌, ◌≤◌, Bool, true, false, if◌then◌else◌, List, [], ◌∷◌, ◌++◌, length, length-append, Some, None, refl, ap, arith}
use Rattle.omx_types.specs.declared.state.State.TheVariants as states
use Rattle.il_machine.specs.declared.port.PortKey.{PortKey}
use Rattle.il_machine.specs.declared.port.Port.{Port}
use Rattle.il_machine.specs.States.{same_state}
use Rattle.il_machine.specs.Lists.{holds_at, is_empty}
use Rattle.il_machine.specs.World.{World}
use Rattle.il_machine.specs.Headers.{seen}
use Rattle.il_machine.specs.Flow.{in_port}
use Rattle.play_model.specs.Network.{Filled, LinkState}
use Rattle.play_model.specs.Play.{HasHome}
use Rattle.play_model.specs.Acts.{released, less_sent, less_held}
use Rattle.play_world_laws.specs.Cast.{home_by}
use Rattle.play_world_laws.specs.Standing.{pending_at}

-- ---- leaving

pub leaves_at : (phase stage : ℕ) → phase ≤ 4 → holds_at (pending_at phase stage) (λ y. same_state y.target states.Loaded) ≡ true → (stage ≡ 2) × ((phase ≡ 0) ⊎ (phase ≡ 4))
leaves_at phase zero l h = absurd cc
leaves_at phase (suc zero) l h = absurd cc
leaves_at zero (suc (suc zero)) l h = (refl, inl refl)
leaves_at (suc zero) (suc (suc zero)) l h = absurd cc
leaves_at (suc (suc zero)) (suc (suc zero)) l h = absurd cc
leaves_at (suc (suc (suc zero))) (suc (suc zero)) l h = absurd cc
leaves_at (suc (suc (suc (suc n)))) (suc (suc zero)) l h = (refl, inr (omega arith))
leaves_at phase (suc (suc (suc n))) l h = absurd cc

pub at_leaving : (phase stage : ℕ) → phase ≡ 4 → stage ≡ 2 → holds_at (pending_at phase stage) (λ y. same_state y.target states.Loaded) ≡ true
at_leaving phase stage e f = rw (e, f) refl

-- ---- the headers at home

pub some_length : {A : Type 0} (xs : List A) → 0 < length xs → is_empty xs ≡ false
some_length [] e = absurd (omega arith)
some_length (n ∷ ns) e = refl

pub no_empty : {A : Type 0} (xs : List A) → is_empty xs ≡ false → 0 < length xs
no_empty [] e = absurd cc
no_empty (n ∷ ns) e = omega arith

pub home_by_length : (by : Bool) (y : LinkState) (todos dones : PortKey → List ℕ) (o i : PortKey) → y.ready ≡ length (todos o) → length y.sent ≡ length (dones o) → length y.held ≡ length (todos i) → y.spent ≡ length (dones i)
    → HasHome by y → 0 < length (todos (home_by by o i) ++ dones (home_by by o i))
home_by_length true y todos dones o i r s h d H = let a = length-append (todos o) (dones o) in omega (arith, r, s, H, a)
home_by_length false y todos dones o i r s h d H = let a = length-append (todos i) (dones i) in omega (arith, h, d, H, a)

pub length_by_home : (by : Bool) (y : LinkState) (todos dones : PortKey → List ℕ) (o i : PortKey) → y.ready ≡ length (todos o) → length y.sent ≡ length (dones o) → length y.held ≡ length (todos i) → y.spent ≡ length (dones i)
    → 0 < length (todos (home_by by o i) ++ dones (home_by by o i)) → HasHome by y
length_by_home true y todos dones o i r s h d H = let a = length-append (todos o) (dones o) in omega (arith, r, s, H, a)
length_by_home false y todos dones o i r s h d H = let a = length-append (todos i) (dones i) in omega (arith, h, d, H, a)

pub ready_less : (k : ℕ) (q : List Filled) (y : LinkState) (n : ℕ) → k ≡ suc n → less_sent k q y ≡ record y { ready = n }
ready_less k q y n e = rw e refl

pub sent_less : (k : ℕ) (q : List Filled) (y : LinkState) (h : Filled) (rest : List Filled) → k ≡ 0 → q ≡ h ∷ rest → less_sent k q y ≡ record y { sent = rest }
sent_less k q y h rest e f = rw (e, f) refl

pub held_less : (q : List Filled) (y : LinkState) (h : Filled) (rest : List Filled) → q ≡ h ∷ rest → less_held q y ≡ record y { held = rest }
held_less q y h rest f = rw f refl

pub spent_less : (q : List Filled) (y : LinkState) → q ≡ [] → less_held q y ≡ record y { spent = y.spent - 1 }
spent_less q y f = rw f refl

less_closed : (k : ℕ) (q : List Filled) (y : LinkState) → ((less_sent k q y).closed ≡ y.closed) × ((less_sent k q y).taken ≡ y.taken)
less_closed zero [] y = (refl, refl)
less_closed zero (h ∷ q) y = (refl, refl)
less_closed (suc k) q y = (refl, refl)

held_closed : (q : List Filled) (y : LinkState) → ((less_held q y).closed ≡ y.closed) × ((less_held q y).taken ≡ y.taken)
held_closed [] y = (refl, refl)
held_closed (h ∷ q) y = (refl, refl)

pub released_closed : (by : Bool) (y : LinkState) → ((released by y).closed ≡ y.closed) × ((released by y).taken ≡ y.taken)
released_closed true y = less_closed y.ready y.sent y
released_closed false y = held_closed y.held y

-- ---- the act

pub three_false : {X : Type 0} (a b c : Bool) (f g h : X) → a ≡ false → b ≡ false → c ≡ false → (if a then Some f else (if b then Some g else (if c then Some h else None))) ≡ None
three_false a b c f g h i j k = rw (i, j, k) refl

pub in_home : (w : World) (q : Port) (key : PortKey) → q.key ≡ key → in_port (seen w.headers) q ≡ (seen w.headers).todo key ++ (seen w.headers).done key
in_home w q key e = ap (λ (k : PortKey). (seen w.headers).todo k ++ (seen w.headers).done k) e
