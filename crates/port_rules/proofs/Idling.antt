-- The answers of a claim without a work, port by port.
use Rattle.std.proofs.Common.{◌≡◌, ℕ, ◌+◌, Bool, true, false, not, ◌&&◌, ◌||◌, nat_lt, List, [], ◌∷◌, ◌++◌, length, map, filter, drop, slice_get, is_some, option_map, Option, Some, None, if◌then◌else◌, refl, sym, ◌∙◌, ap, append_assoc, arith}
use Rattle.std.specs.List.{list_any}
use Rattle.il_machine.specs.declared.port.Port.{Port}
use Rattle.il_machine.specs.Kinds.{is_auto, is_late}
use Rattle.il_machine.specs.Headers.{Seen}
use Rattle.il_machine.specs.Lists.{first_of_these, is_empty}
use Rattle.il_machine.specs.Look.{Look}
use Rattle.il_machine.specs.Ports.{is_input_port}
use Rattle.il_machine.specs.Room.{room}
use Rattle.il_machine.specs.World.{Component, ports_of}
use Rattle.il_machine.specs.Claims.{Claimed, ClaimedBusy, ClaimedNotRunning, ClaimedEnded, ClaimedHeld, ClaimedNoData, ClaimedNoRoom, ClaimedEvents, claim_idle, data_test, gives_header, has_ended, held_test, is_claimable, is_output_port, is_unannounced, must_announce, reserve_for, room_test, wanted}
use Rattle.port_rules.specs.declared.claiming.ClaimTest.TheVariants as tests
use Rattle.port_rules.specs.Claiming.{claim_test, events_idle, or_first, port_idle, port_where, work_idle}
use Rattle.port_rules.proofs.Walking.{drop_at}

-- ---- one step of the loops

pub where_found : (test : Port → Bool) (ps : List Port) (i : ℕ) (p : Port) → slice_get ps i ≡ Some p → test p ≡ true → port_where test (drop i ps) ≡ Some p.key.port
where_found test ps i p e t = ap (port_where test) (drop_at ps i p e) ∙ rw t refl

pub where_passed : (test : Port → Bool) (ps : List Port) (i : ℕ) (p : Port) → slice_get ps i ≡ Some p → test p ≡ false → port_where test (drop i ps) ≡ port_where test (drop (i + 1) ps)
where_passed test ps i p e t = ap (port_where test) (drop_at ps i p e) ∙ rw t refl

pub count_found : (test : Port → Bool) (ps : List Port) (i : ℕ) (p : Port) → slice_get ps i ≡ Some p → test p ≡ true → length (filter test (drop i ps)) ≡ length (filter test (drop (i + 1) ps)) + 1
count_found test ps i p e t = ap (λ (qs : List Port). length (filter test qs)) (drop_at ps i p e) ∙ rw t (omega arith)

pub count_passed : (test : Port → Bool) (ps : List Port) (i : ℕ) (p : Port) → slice_get ps i ≡ Some p → test p ≡ false → length (filter test (drop i ps)) ≡ length (filter test (drop (i + 1) ps))
count_passed test ps i p e t = ap (λ (qs : List Port). length (filter test qs)) (drop_at ps i p e) ∙ rw t refl

-- ---- some port passes

pub any_where : (test : Port → Bool) (ps : List Port) → list_any test ps ≡ is_some (port_where test ps)
any_where test [] = refl
any_where test (p ∷ ps) = elim (test p) as (λ b. test p ≡ b → list_any test (p ∷ ps) ≡ is_some (port_where test (p ∷ ps))) [ true ↦ λ e. rw e refl | false ↦ λ e. rw e (any_where test ps) ] refl

where_filtered : (test keep : Port → Bool) (ps : List Port) → port_where test (filter keep ps) ≡ port_where (λ p. keep p && test p) ps
where_filtered test keep [] = refl
where_filtered test keep (p ∷ ps) = elim (keep p) as (λ b. keep p ≡ b → port_where test (filter keep (p ∷ ps)) ≡ port_where (λ p. keep p && test p) (p ∷ ps)) [
  | true ↦ λ e. rw e (elim (test p) as (λ b. test p ≡ b → (if test p then Some p.key.port else port_where test (filter keep ps)) ≡ (if test p then Some p.key.port else port_where (λ p. keep p && test p) ps)) [ true ↦ λ f. rw f refl | false ↦ λ f. rw f (where_filtered test keep ps) ] refl)
  | false ↦ λ e. rw e (where_filtered test keep ps)
] refl

where_same : (t u : Port → Bool) (ps : List Port) → ((p : Port) → t p ≡ u p) → port_where t ps ≡ port_where u ps
where_same t u [] h = refl
where_same t u (p ∷ ps) h = rw (h p, where_same t u ps h) refl

-- ---- no port is idle

where_none : (t u : Port → Bool) (ps : List Port) → ((p : Port) → t p ≡ false → u p ≡ false) → port_where t ps ≡ None → port_where u ps ≡ None
where_none t u [] k h = refl
where_none t u (p ∷ ps) k h =
    elim (t p) as (λ b. t p ≡ b → (if b then Some p.key.port else port_where t ps) ≡ None → port_where u (p ∷ ps) ≡ None) [ true ↦ λ e x. absurd cc | false ↦ λ e x. rw (k p e) (where_none t u ps k x) ] refl h

not_held_there : (held lacks : Bool) → (held || lacks) ≡ false → held ≡ false
not_held_there true lacks e = absurd cc
not_held_there false lacks e = refl

has_data : (held input ended empty : Bool) → (held || (empty && not (input && ended))) ≡ false → (input && (not ended && empty)) ≡ false
has_data true input ended empty e = absurd cc
has_data false false ended empty e = refl
has_data false true true empty e = refl
has_data false true false true e = absurd cc
has_data false true false false e = refl

has_room : (held input ended empty : Bool) → (held || (empty && not (input && ended))) ≡ false → (not input && empty) ≡ false
has_room true input ended empty e = absurd cc
has_room false true ended empty e = refl
has_room false false ended true e = absurd cc
has_room false false ended false e = refl

pub none_there : (o : Option ℕ) → is_some o ≡ false → o ≡ None
none_there None e = refl
none_there (Some n) e = absurd cc

pub none_idle : (s : Seen) (c : Component) → port_where (claim_test tests.Idle s c) (ports_of c) ≡ None → None ≡ port_idle s c
none_idle s c h =
    let idle = claim_test tests.Idle s c in
    let held : Port → Bool = λ p. p.state.held || is_auto p.setting.definition.format in
    let a = where_none idle (claim_test tests.Held s c) (ports_of c) (λ p e. not_held_there (held p) _ e) h in
    let b = where_none idle (claim_test tests.NoData s c) (ports_of c) (λ p e. has_data (held p) (is_input_port p) (has_ended c p.key.port) (is_empty (s.todo p.key)) e) h in
    let d = where_none idle (claim_test tests.NoRoom s c) (ports_of c) (λ p e. has_room (held p) (is_input_port p) (has_ended c p.key.port) (is_empty (s.todo p.key)) e) h in
    rw (a, b, d) refl

-- a component that is no late source announces nothing
pub none_late : (c : Component) (ps : List Port) → is_late c.settings.kind ≡ false → false ≡ list_any (is_unannounced c) ps
none_late c [] e = refl
none_late c (p ∷ ps) e = rw e (none_late c ps e)

-- ---- the list of answers

ports_first : (test : Port → Bool) (answer : ℕ → Claimed) (ps : List Port) (rest : List (Bool × Claimed)) → first_of_these (map (λ p. (test p, answer p.key.port)) ps ++ rest) ≡ or_first (option_map answer (port_where test ps)) (first_of_these rest)
ports_first test answer [] rest = refl
ports_first test answer (p ∷ ps) rest = elim (test p) as (λ b. test p ≡ b → first_of_these (map (λ p. (test p, answer p.key.port)) (p ∷ ps) ++ rest) ≡ or_first (option_map answer (port_where test (p ∷ ps))) (first_of_these rest)) [ true ↦ λ e. rw e refl | false ↦ λ e. rw e (ports_first test answer ps rest) ] refl

no_port : (test : Port → Bool) (ps : List Port) → ((p : Port) → test p ≡ false) → port_where test ps ≡ None
no_port test [] h = refl
no_port test (p ∷ ps) h = rw (h p) (no_port test ps h)

or_first-assoc : (a b c : Option Claimed) → or_first (or_first a b) c ≡ or_first a (or_first b c)
or_first-assoc None b c = refl
or_first-assoc (Some x) b c = refl

input_waits : (input ended empty : Bool) → not (input && ended) && (input && empty) ≡ input && (not ended && empty)
input_waits true true empty = refl
input_waits true false empty = refl
input_waits false ended empty = refl

output_waits : (input ended empty : Bool) → not (input && ended) && (not input && empty) ≡ not input && empty
output_waits true true empty = refl
output_waits true false empty = refl
output_waits false ended empty = refl

three_passed : (a b d : Bool) (x y z : Claimed) (rest : List (Bool × Claimed)) → a ≡ false → b ≡ true → d ≡ false → first_of_these ((a, x) ∷ (not b, y) ∷ (d, z) ∷ rest) ≡ first_of_these rest
three_passed a b d x y z rest e f g = rw (e, f, g) refl

first_passed : (a : Bool) (x : Claimed) (rest : List (Bool × Claimed)) → a ≡ true → first_of_these ((a, x) ∷ rest) ≡ Some x
first_passed a x rest e = rw e refl

second_passed : (a b : Bool) (x y : Claimed) (rest : List (Bool × Claimed)) → a ≡ false → b ≡ false → first_of_these ((a, x) ∷ (not b, y) ∷ rest) ≡ Some y
second_passed a b x y rest e f = rw (e, f) refl

third_passed : (a b d : Bool) (x y z : Claimed) (rest : List (Bool × Claimed)) → a ≡ false → b ≡ true → d ≡ true → first_of_these ((a, x) ∷ (not b, y) ∷ (d, z) ∷ rest) ≡ Some z
third_passed a b d x y z rest e f g = rw (e, f, g) refl

none_wanted : (b : Bool) (ps : List Port) → b ≡ true → (if b then [] else ps) ≡ []
none_wanted b ps e = rw e refl

all_wanted : (b : Bool) (ps : List Port) → b ≡ false → (if b then [] else ps) ≡ ps
all_wanted b ps e = rw e refl

idle_if : (b : Bool) (x y : Option Claimed) → b ≡ true → (if b then x else y) ≡ x
idle_if b x y e = rw e refl

idle_else : (b : Bool) (x y : Option Claimed) → b ≡ false → (if b then x else y) ≡ y
idle_else b x y e = rw e refl

not_held : (b x : Bool) → b ≡ true → not b && x ≡ false
not_held b x e = rw e refl

is_held : (b x : Bool) → b ≡ false → not b && x ≡ x
is_held b x e = rw e refl

module _ (l : Look) (c : Component) where
  abbrev ps : List Port
  ps = ports_of c

  abbrev held_of : Port → Bool
  held_of p = not (must_announce c) && (p.state.held || is_auto p.setting.definition.format)

  abbrev waits : Port → Bool
  waits p = is_empty (l.headers.todo p.key)

  abbrev tail : List Port → List (Bool × Claimed)
  tail ports = (nat_lt (room c) (reserve_for ports), ClaimedEvents (room c) (reserve_for ports)) ∷ []

  abbrev answers : List Port → Option Claimed
  answers ports = first_of_these (map (held_test c) ps ++ map (data_test l.headers) (filter is_input_port ports) ++ map (room_test l.headers) (filter is_output_port ports) ++ tail ports)

  abbrev last_of : List Port → List (Bool × Claimed)
  last_of ports = map (held_test c) ps ++ map (data_test l.headers) (filter is_input_port ports) ++ map (room_test l.headers) (filter is_output_port ports) ++ tail ports

  answers_are : (ports : List Port) → answers ports ≡ or_first (option_map ClaimedHeld (port_where held_of ps)) (or_first (option_map ClaimedNoData (port_where waits (filter is_input_port ports))) (or_first (option_map ClaimedNoRoom (port_where waits (filter is_output_port ports))) (first_of_these (tail ports))))
  answers_are ports =
      let held : List (Bool × Claimed) = map (held_test c) ps in
      let filled : List (Bool × Claimed) = map (data_test l.headers) (filter is_input_port ports) in
      let space : List (Bool × Claimed) = map (room_test l.headers) (filter is_output_port ports) in
      let order : held ++ filled ++ space ++ tail ports ≡ held ++ (filled ++ (space ++ tail ports)) = append_assoc (held ++ filled) space (tail ports) ∙ append_assoc held filled (space ++ tail ports) in
      ap first_of_these order
      ∙ (ports_first held_of ClaimedHeld ps (filled ++ (space ++ tail ports))
      ∙ ap (or_first (option_map ClaimedHeld (port_where held_of ps)))
      (ports_first waits ClaimedNoData (filter is_input_port ports) (space ++ tail ports)
      ∙ ap (or_first (option_map ClaimedNoData (port_where waits (filter is_input_port ports)))) (ports_first waits ClaimedNoRoom (filter is_output_port ports) (tail ports))))

  -- an announcement wants no header
  announcing : must_announce c ≡ true → answers (wanted c) ≡ work_idle l.headers c
  announcing m =
      let none : wanted c ≡ [] = none_wanted (must_announce c) (filter (gives_header c) ps) m in
      let free : port_where held_of ps ≡ None = no_port held_of ps (λ p. not_held (must_announce c) (p.state.held || is_auto p.setting.definition.format) m) in
      ap answers none ∙ (answers_are [] ∙ (ap (λ (o : Option ℕ). or_first (option_map ClaimedHeld o) (first_of_these (tail []))) free ∙ sym (idle_if (must_announce c) (events_idle c 0) _ m)))

  stepping : must_announce c ≡ false → answers (wanted c) ≡ work_idle l.headers c
  stepping m =
      let all : List Port = filter (gives_header c) ps in
      let some : wanted c ≡ all = all_wanted (must_announce c) all m in
      let a : port_where held_of ps ≡ port_where (claim_test tests.Held l.headers c) ps = where_same held_of (claim_test tests.Held l.headers c) ps (λ p. is_held (must_announce c) (p.state.held || is_auto p.setting.definition.format) m) in
      let b : port_where waits (filter is_input_port all) ≡ port_where (claim_test tests.NoData l.headers c) ps =
      where_filtered waits is_input_port all ∙ (where_filtered (λ p. is_input_port p && waits p) (gives_header c) ps
      ∙ where_same (λ p. gives_header c p && (is_input_port p && waits p)) (claim_test tests.NoData l.headers c) ps (λ p. input_waits (is_input_port p) (has_ended c p.key.port) (waits p))) in
      let d : port_where waits (filter is_output_port all) ≡ port_where (claim_test tests.NoRoom l.headers c) ps =
      where_filtered waits is_output_port all ∙ (where_filtered (λ p. is_output_port p && waits p) (gives_header c) ps
      ∙ where_same (λ p. gives_header c p && (is_output_port p && waits p)) (claim_test tests.NoRoom l.headers c) ps (λ p. output_waits (is_input_port p) (has_ended c p.key.port) (waits p))) in
      let x : Option Claimed = option_map ClaimedHeld (port_where (claim_test tests.Held l.headers c) ps) in
      let y : Option Claimed = option_map ClaimedNoData (port_where (claim_test tests.NoData l.headers c) ps) in
      let z : Option Claimed = option_map ClaimedNoRoom (port_where (claim_test tests.NoRoom l.headers c) ps) in
      let last : Option Claimed = first_of_these (tail all) in
      ap answers some ∙ (answers_are all
      ∙ (ap (λ (o : Option ℕ). or_first (option_map ClaimedHeld o) (or_first (option_map ClaimedNoData (port_where waits (filter is_input_port all))) (or_first (option_map ClaimedNoRoom (port_where waits (filter is_output_port all))) last))) a
      ∙ (ap (λ (o : Option ℕ). or_first x (or_first (option_map ClaimedNoData o) (or_first (option_map ClaimedNoRoom (port_where waits (filter is_output_port all))) last))) b
      ∙ (ap (λ (o : Option ℕ). or_first x (or_first y (or_first (option_map ClaimedNoRoom o) last))) d
      ∙ (sym (or_first-assoc x (or_first y z) last ∙ ap (or_first x) (or_first-assoc y z last))
      ∙ sym (idle_else (must_announce c) (events_idle c 0) (or_first (port_idle l.headers c) last) m))))))

  pub work_is : is_some c.work ≡ false → is_claimable c ≡ true → (c.part.ended || c.part.failed) ≡ false → work_idle l.headers c ≡ claim_idle l c
  work_is a b d =
      sym (three_passed (is_some c.work) (is_claimable c) (c.part.ended || c.part.failed) ClaimedBusy ClaimedNotRunning ClaimedEnded (last_of (wanted c)) a b d
      ∙ elim (must_announce c) as (λ b. must_announce c ≡ b → answers (wanted c) ≡ work_idle l.headers c) [ true ↦ announcing | false ↦ stepping ] refl)

  pub busy_is : is_some c.work ≡ true → Some ClaimedBusy ≡ claim_idle l c
  busy_is a = sym (first_passed (is_some c.work) ClaimedBusy ((not (is_claimable c), ClaimedNotRunning) ∷ (c.part.ended || c.part.failed, ClaimedEnded) ∷ last_of (wanted c)) a)

  pub stopped_is : is_some c.work ≡ false → is_claimable c ≡ false → Some ClaimedNotRunning ≡ claim_idle l c
  stopped_is a b = sym (second_passed (is_some c.work) (is_claimable c) ClaimedBusy ClaimedNotRunning ((c.part.ended || c.part.failed, ClaimedEnded) ∷ last_of (wanted c)) a b)

  pub ended_is : is_some c.work ≡ false → is_claimable c ≡ true → (c.part.ended || c.part.failed) ≡ true → Some ClaimedEnded ≡ claim_idle l c
  ended_is a b d = sym (third_passed (is_some c.work) (is_claimable c) (c.part.ended || c.part.failed) ClaimedBusy ClaimedNotRunning ClaimedEnded (last_of (wanted c)) a b d)
