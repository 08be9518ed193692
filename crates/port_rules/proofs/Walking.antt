-- The ports of a component, one after the other.
use Rattle.std.proofs.Common.{◌≡◌, ℕ, zero, suc, ◌+◌, ◌-◌, ◌<◌, ◌≤◌, Bool, true, false, ◌&&◌, List, [], ◌∷◌, length, drop, slice_get, Option, Some, None, is_some, option_map, refl, sym, ◌∙◌, ap, subst, arith, add-one}
use Rattle.std.proofs.lemmas.Option.{slice_get_within}
use Rattle.std.proofs.lemmas.List.{drop_all}
use Rattle.std.specs.List.{list_all}
use Rattle.il_machine.specs.declared.port.Mode.{Mode}
use Rattle.il_machine.specs.declared.port.Mode.TheVariants.{Steady, Enabling, Disabling}
use Rattle.il_machine.specs.declared.port.Port.{Port}
use Rattle.il_machine.specs.declared.port.PortState.{PortState}
use Rattle.il_machine.specs.Ports.{is_steady}
use Rattle.il_component.specs.Busy.{is_busy}
use Rattle.il_component.proofs.Calm.{idle_calm}
use Rattle.il_machine.specs.Kinds.{ports_in}
use Rattle.il_machine.specs.World.{Component, ports_of, port_of}
use Rattle.il_machine.specs.Headers.{Seen}
use Rattle.il_machine.specs.Lists.{first_of_these}
use Rattle.il_machine.specs.Due.{Thing, Flush, PortMode, WaitingMark, things_of, is_flush_due, is_mode_due, is_mark_due}
use Rattle.il_machine.specs.Stock.{Stocked}
use Rattle.machine_laws.proofs.Lookups.{port_parts}
use Rattle.port_stock.specs.Conditions.{IsPort}
use Rattle.port_rules.specs.declared.due.Due.{Due}
use Rattle.port_rules.specs.Tests.{HasAllPorts, port_due, thing_of}

drop_next : {X : Type 0} (i : ℕ) (ys : List X) (x : X) → drop i ys ≡ x ∷ drop (i + 1) ys → drop i ys ≡ x ∷ drop (suc i) ys
drop_next i ys x e = let n : i + 1 ≡ suc i = omega arith in e ∙ ap (λ (k : ℕ). x ∷ drop k ys) n

pub drop_at : {X : Type 0} (xs : List X) (i : ℕ) (x : X) → slice_get xs i ≡ Some x → drop i xs ≡ x ∷ drop (i + 1) xs
drop_at [] i x e = absurd cc
drop_at (y ∷ ys) zero x e = cc
drop_at (y ∷ ys) (suc i) x e = rw add-one (drop_next i ys x (drop_at ys i x e))

slice_get_or_none : {X : Type 0} (xs : List X) (i : ℕ) → i < length xs → slice_get xs i ≡ None → ⊥
slice_get_or_none [] i b e = omega arith
slice_get_or_none (x ∷ xs) zero b e = cc
slice_get_or_none (x ∷ xs) (suc i) b e = slice_get_or_none xs i (omega arith) e

-- ---- the ports are the stock's

-- each number below the count has its port
pub port_within : (c : Component) (s : Stocked) (i : ℕ) → HasAllPorts c s → i < ports_in c.settings.kind → port_of c i ≡ None → ⊥
port_within c s i H b e =
    let n : i < length (ports_of c) = subst (λ (k : ℕ). i < k) (sym H.many) b in
    let x = slice_get_or_none (ports_of c) i n in
    absurd (x e)

pub port_kept : (c : Component) (s : Stocked) (i : ℕ) (p : Port) → HasAllPorts c s → port_of c i ≡ Some p → IsPort p.key s
port_kept c s i p H e =
    let P = port_parts c i p e in
    rw P.key (H.ports i (slice_get_within c.ports i p.state P.state))

-- ---- one step of the loops

pub all_step : (test : Port → Bool) (ps : List Port) (i : ℕ) (p : Port) → slice_get ps i ≡ Some p → list_all test (drop i ps) ≡ test p && list_all test (drop (i + 1) ps)
all_step test ps i p e = ap (list_all test) (drop_at ps i p e)

pub all_fails : (test : Port → Bool) (ps : List Port) (i : ℕ) (p : Port) → slice_get ps i ≡ Some p → test p ≡ false → list_all test (drop i ps) ≡ false
all_fails test ps i p e f = all_step test ps i p e ∙ rw f refl

pub all_passes : (test : Port → Bool) (ps : List Port) (i : ℕ) (p : Port) → slice_get ps i ≡ Some p → test p ≡ true → list_all test (drop i ps) ≡ list_all test (drop (i + 1) ps)
all_passes test ps i p e f = all_step test ps i p e ∙ rw f refl

first_here : {E : Type 0} (a b c : Bool) (x y z t : E) (rest : List (Bool × E)) → first_of_these ((a, x) ∷ (b, y) ∷ (c, z) ∷ []) ≡ Some t → first_of_these ((a, x) ∷ (b, y) ∷ (c, z) ∷ rest) ≡ Some t
first_here true b c x y z t rest d = d
first_here false true c x y z t rest d = d
first_here false false true x y z t rest d = d
first_here false false false x y z t rest d = absurd cc

first_later : {E : Type 0} (a b c : Bool) (x y z : E) (rest : List (Bool × E)) → first_of_these ((a, x) ∷ (b, y) ∷ (c, z) ∷ []) ≡ None → first_of_these ((a, x) ∷ (b, y) ∷ (c, z) ∷ rest) ≡ first_of_these rest
first_later true b c x y z rest d = absurd cc
first_later false true c x y z rest d = absurd cc
first_later false false true x y z rest d = absurd cc
first_later false false false x y z rest d = refl

pub due_here : (headers : Seen) (c : Component) (ps : List Port) (i : ℕ) (p : Port) (t : Thing) → slice_get ps i ≡ Some p → port_due headers c p ≡ Some t
    → first_of_these (things_of headers c (drop i ps)) ≡ Some t
due_here headers c ps i p t e d = ap (λ (qs : List Port). first_of_these (things_of headers c qs)) (drop_at ps i p e)
    ∙ first_here (is_flush_due headers c p) (is_mode_due headers c p p.state.mode) (is_mark_due headers p) (Flush p.key.port) (PortMode p.key.port) (WaitingMark p.key.port) t (things_of headers c (drop (i + 1) ps)) d

pub due_later : (headers : Seen) (c : Component) (ps : List Port) (i : ℕ) (p : Port) → slice_get ps i ≡ Some p → port_due headers c p ≡ None
    → first_of_these (things_of headers c (drop i ps)) ≡ first_of_these (things_of headers c (drop (i + 1) ps))
due_later headers c ps i p e d = ap (λ (qs : List Port). first_of_these (things_of headers c qs)) (drop_at ps i p e)
    ∙ first_later (is_flush_due headers c p) (is_mode_due headers c p p.state.mode) (is_mark_due headers p) (Flush p.key.port) (PortMode p.key.port) (WaitingMark p.key.port) (things_of headers c (drop (i + 1) ps)) d

pub due_found : (headers : Seen) (c : Component) (ps : List Port) (i : ℕ) (p : Port) (o : Option Due) → slice_get ps i ≡ Some p → option_map thing_of o ≡ port_due headers c p → is_some o ≡ true
    → first_of_these (things_of headers c (drop i ps)) ≡ option_map thing_of o
due_found headers c ps i p None e m s = absurd cc
due_found headers c ps i p (Some d) e m s = due_here headers c ps i p (thing_of d) e (sym m)

pub due_passed : (headers : Seen) (c : Component) (ps : List Port) (i : ℕ) (p : Port) (o : Option Due) → slice_get ps i ≡ Some p → option_map thing_of o ≡ port_due headers c p → is_some o ≡ false
    → first_of_these (things_of headers c (drop i ps)) ≡ first_of_these (things_of headers c (drop (i + 1) ps))
due_passed headers c ps i p None e m s = due_later headers c ps i p e (sym m)
due_passed headers c ps i p (Some d) e m s = absurd cc

-- ---- ports at which nothing is pending

mode_idle : (headers : Seen) (c : Component) (p : Port) (m : Mode) → is_steady m ≡ true → is_mode_due headers c p m ≡ false
mode_idle headers c p Steady h = refl
mode_idle headers c p Enabling h = absurd cc
mode_idle headers c p Disabling h = absurd cc

none_of_these : {E : Type 0} (a b d : Bool) (x y z : E) → a ≡ false → b ≡ false → d ≡ false → first_of_these ((a, x) ∷ (b, y) ∷ (d, z) ∷ []) ≡ None
none_of_these a b d x y z e f h = rw (e, f, h) refl

idle_due : (headers : Seen) (c : Component) (p : Port) → is_busy p.state ≡ false → port_due headers c p ≡ None
idle_due headers c p idle =
    let calm = idle_calm p.state idle in
    let quiet = calm.quiet in
    let unmarked = calm.unmarked in
    let flush : is_flush_due headers c p ≡ false = rw quiet refl in
    let mark : is_mark_due headers p ≡ false = rw unmarked refl in
    none_of_these (is_flush_due headers c p) (is_mode_due headers c p p.state.mode) (is_mark_due headers p) (Flush p.key.port) (PortMode p.key.port) (WaitingMark p.key.port) flush (mode_idle headers c p p.state.mode calm.steady) mark

abbrev due_from : Seen → Component → ℕ → Option Thing
due_from headers c i = first_of_these (things_of headers c (drop i (ports_of c)))

-- the ports between are idle
abbrev AreIdle : Component → ℕ → ℕ → Type 0
AreIdle c from next = (i : ℕ) (p : PortState) → from ≤ i → i < next → slice_get c.ports i ≡ Some p → is_busy p ≡ false

passed_at : (headers : Seen) (c : Component) (i : ℕ) (o : Option Port) → port_of c i ≡ o → i < length (ports_of c) → AreIdle c i (suc i) → due_from headers c i ≡ due_from headers c (i + 1)
passed_at headers c i None e b idle = absurd (slice_get_or_none (ports_of c) i b e)
passed_at headers c i (Some p) e b idle = due_later headers c (ports_of c) i p e (idle_due headers c p (idle i p.state (omega arith) (omega arith) (port_parts c i p e).state))

passed_by : (headers : Seen) (c : Component) (n from : ℕ) → from + n ≤ length (ports_of c) → AreIdle c from (from + n) → due_from headers c from ≡ due_from headers c (from + n)
passed_by headers c zero from b idle = ap (due_from headers c) (omega arith)
passed_by headers c (suc n) from b idle =
    passed_at headers c from (port_of c from) refl (omega arith) (λ i p l m at. idle i p l (omega arith) at)
    ∙ (passed_by headers c n (from + 1) (omega arith) (λ i p l m at. idle i p (omega arith) (omega arith) at) ∙ ap (due_from headers c) (omega arith))

pub skipped : (headers : Seen) (c : Component) (from next : ℕ) → from ≤ next → next ≤ length (ports_of c) → ((i : ℕ) (p : PortState) → from ≤ i → i < next → slice_get c.ports i ≡ Some p → is_busy p ≡ false)
    → first_of_these (things_of headers c (drop from (ports_of c))) ≡ first_of_these (things_of headers c (drop next (ports_of c)))
skipped headers c from next l b idle =
    let e : from + (next - from) ≡ next = omega arith in
    passed_by headers c (next - from) from (omega arith) (λ i p a m at. idle i p a (omega arith) at) ∙ ap (due_from headers c) e

-- no port from this one on is busy
pub skipped_all : (headers : Seen) (c : Component) (from : ℕ) → from ≤ length (ports_of c) → ((i : ℕ) (p : PortState) → from ≤ i → slice_get c.ports i ≡ Some p → is_busy p ≡ false)
    → first_of_these (things_of headers c (drop from (ports_of c))) ≡ None
skipped_all headers c from b idle = skipped headers c from (length (ports_of c)) b (omega arith) (λ i p l m at. idle i p l at) ∙ ap (λ (ps : List Port). first_of_these (things_of headers c ps)) (drop_all (length (ports_of c)) (ports_of c) (omega arith))
