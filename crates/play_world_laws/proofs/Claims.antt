-- A component's work is claimed: for the play nothing has changed.
use Rattle.std.proofs.Common.{◌≡◌, ℕ, Bool, true, false, not, ◌||◌, nat_lt, if◌then◌else◌, is_some, List, [], ◌∷◌, ◌++◌, filter, map, Option, Some, None, Result, Ok, refl, sym, ◌∙◌, ap}
use Rattle.omx_types.specs.declared.error.OmxError.{OmxError}
use Rattle.il_machine.specs.World.{Component, World, ports_of}
use Rattle.il_machine.specs.Headers.{seen}
use Rattle.il_machine.specs.Look.{Look}
use Rattle.il_machine.specs.Lists.{first_of_these}
use Rattle.il_machine.specs.Ports.{is_input_port}
use Rattle.il_machine.specs.Room.{room}
use Rattle.il_machine.specs.Claims.{Claimed, ClaimedWork, ClaimedBusy, ClaimedNotRunning, ClaimedEnded, ClaimedEvents, Claims, WorkSeen, is_output_port, is_claimable, held_test, data_test, room_test, reserve_for, wanted, work_of, with_work, claim_idle, seen_work}
use Rattle.il_machine.specs.Due.{ClosesTo}
use Rattle.machine_laws.proofs.Finding.{either}

-- ---- the call

-- no answer without a work is a work
abbrev is_work : Claimed → Bool
is_work (ClaimedWork seen) = true
is_work _ = false

abbrev AreIdle : List (Bool × Claimed) → Type 0
AreIdle [] = Unit {0}
AreIdle (y ∷ ys) = (is_work y.1 ≡ false) × AreIdle ys

idle_append : (xs ys : List (Bool × Claimed)) → AreIdle xs → AreIdle ys → AreIdle (xs ++ ys)
idle_append [] ys a b = b
idle_append (x ∷ xs) ys a b = (a.0, idle_append xs ys a.1 b)

idle_map : {T : Type 0} (f : T → Bool × Claimed) (xs : List T) → ((y : T) → is_work (f y).1 ≡ false) → AreIdle (map f xs)
idle_map f [] h = tt
idle_map f (x ∷ xs) h = (h x, idle_map f xs h)

first_idle : (ys : List (Bool × Claimed)) (z : Claimed) → AreIdle ys → first_of_these ys ≡ Some z → is_work z ≡ false
first_idle [] z a e = absurd cc
first_idle (y ∷ ys) z a e = either y.0 (λ t. let s : Some y.1 ≡ Some z = rw t at e in let q : y.1 ≡ z = cc in ap is_work (sym q) ∙ a.0) (λ f. first_idle ys z a.1 (rw f at e))

pub never_work : (l : Look) (a : Component) (work : WorkSeen) → claim_idle l a ≡ Some (ClaimedWork work) → ⊥
never_work l a told e =
    let held : List (Bool × Claimed) = map (held_test a) (ports_of a) in
    let inputs : List (Bool × Claimed) = map (data_test l.headers) (filter is_input_port (wanted a)) in
    let outputs : List (Bool × Claimed) = map (room_test l.headers) (filter is_output_port (wanted a)) in
    let last : List (Bool × Claimed) = (nat_lt (room a) (reserve_for (wanted a)), ClaimedEvents (room a) (reserve_for (wanted a))) ∷ [] in
    let tail = idle_append (held ++ inputs ++ outputs) last
    (idle_append (held ++ inputs) outputs (idle_append held inputs (idle_map (held_test a) (ports_of a) (λ q. refl)) (idle_map (data_test l.headers) (filter is_input_port (wanted a)) (λ q. refl)))
    (idle_map (room_test l.headers) (filter is_output_port (wanted a)) (λ q. refl))) (refl, tt) in
    let all : List (Bool × Claimed) = (is_some a.work, ClaimedBusy) ∷ (not (is_claimable a), ClaimedNotRunning) ∷ (a.part.ended || a.part.failed, ClaimedEnded) ∷ (held ++ inputs ++ outputs ++ last) in
    let f : true ≡ false = first_idle all (ClaimedWork told) (refl, (refl, (refl, tail))) e in
    cc

pub first_is : {E : Type 0} (t : Bool) (y : E) (rest : Option E) → t ≡ true → (if t then Some y else rest) ≡ Some y
first_is t y rest h = rw h refl

pub claims_some : (o : Option Claimed) (idle : Claimed) (i : ℕ) (a : Component) (w : World) (result : Result Claimed OmxError) (v : World) → o ≡ Some idle → Claims o i a w result v → (result ≡ Ok idle) × (v ≡ w)
claims_some o idle i a w result v f K = rw f at K

pub claims_none : (o : Option Claimed) (i : ℕ) (a : Component) (w : World) (result : Result Claimed OmxError) (v : World) → o ≡ None → Claims o i a w result v
    → (result ≡ Ok (ClaimedWork (seen_work a (work_of (seen w.headers) a) w.headers))) × ClosesTo (with_work i a (work_of (seen w.headers) a) w) v
claims_none o i a w result v f K = rw f at K
