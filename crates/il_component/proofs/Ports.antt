-- The ports of a component, changed and looked through one after the other.
use Rattle.std.proofs.Common.{◌≡◌, ℕ, zero, suc, ◌+◌, ◌≤◌, ◌<◌, Bool, true, false, cond, List, [], ◌∷◌, length, map, sum_by, drop, get_or, set, refl, sym, ◌∙◌, ap, arith, add-one, ◌&&◌, slice_get, Some}
use Rattle.std.proofs.Math.Seq.{drop-cons}
use Rattle.std.proofs.lemmas.List.Sums.{sum_by-cons}
use Rattle.omx_types.specs.declared.command.PortSel.{PortSel}
use Rattle.il_machine.specs.declared.port.Port.{Port}
use Rattle.il_machine.specs.declared.port.PortSetting.{PortSetting}
use Rattle.il_machine.specs.declared.port.PortState.{PortState}
use Rattle.il_machine.specs.World.{fresh_port, ports_from}
use Rattle.il_machine.specs.Commands.{is_selected, selected_from, calmed}
use Rattle.il_machine.specs.Due.{unheld}
use Rattle.il_machine.specs.Room.{port_reserve}
use Rattle.il_component.specs.declared.port_changes.PortChange.{PortChange}
use Rattle.il_component.specs.PortChanges.{changed_by, busy_among}
use Rattle.il_component.proofs.Each.{each_until, until_more, until_same}

abbrev pub if_selected : PortSel → PortChange → ℕ → PortState → PortState
if_selected sel change index p = cond (is_selected sel index) (changed_by change p) p

abbrev pub rested : ℕ → PortState → PortState
rested index p = calmed p

pub until_selected : (sel : PortSel) (change : PortChange) (n index : ℕ) (ps : List PortState) → length ps ≤ n → each_until (if_selected sel change) n index ps ≡ selected_from index sel (changed_by change) ps
until_selected sel change n index [] b = refl
until_selected sel change zero index (p ∷ ps) b = absurd (omega arith)
until_selected sel change (suc n) index (p ∷ ps) b = ap (λ qs. if_selected sel change index p ∷ qs) (until_selected sel change n (index + 1) ps (omega arith))

pub until_rest : (n index : ℕ) (ps : List PortState) → length ps ≤ n → each_until rested n index ps ≡ map calmed ps
until_rest n index [] b = refl
until_rest zero index (p ∷ ps) b = absurd (omega arith)
until_rest (suc n) index (p ∷ ps) b = ap (λ qs. calmed p ∷ qs) (until_rest n (index + 1) ps (omega arith))

-- ---- one step of the loops

selected_item : (sel : PortSel) (change : PortChange) (n : ℕ) (p : PortState) → is_selected sel n ≡ true → if_selected sel change n p ≡ changed_by change p
selected_item sel change n p e = rw e refl

other_item : (sel : PortSel) (change : PortChange) (n : ℕ) (p : PortState) → is_selected sel n ≡ false → if_selected sel change n p ≡ p
other_item sel change n p e = rw e refl

pub selected_step : (sel : PortSel) (change : PortChange) (n : ℕ) (ps qs : List PortState) (d : PortState) → qs ≡ each_until (if_selected sel change) n 0 ps → n < length ps → is_selected sel n ≡ true → set qs n (changed_by change (get_or qs n d)) ≡ each_until (if_selected sel change) (n + 1) 0 ps
selected_step sel change n ps qs d e b t =
    let m = until_more (if_selected sel change) n 0 ps d b in
    let z : 0 + n ≡ n = omega arith in
    rw (e, add-one, ← selected_item sel change n (get_or (each_until (if_selected sel change) n 0 ps) n d) t) (rw z at m)

pub other_step : (sel : PortSel) (change : PortChange) (n : ℕ) (ps qs : List PortState) → qs ≡ each_until (if_selected sel change) n 0 ps → is_selected sel n ≡ false → qs ≡ each_until (if_selected sel change) (n + 1) 0 ps
other_step sel change n ps qs e t =
    let z : 0 + n ≡ n = omega arith in
    e ∙ sym (rw add-one (until_same (if_selected sel change) n 0 ps fresh_port (rw z (other_item sel change n (get_or (each_until (if_selected sel change) n 0 ps) n fresh_port) t))))

pub rest_step : (n : ℕ) (ps qs : List PortState) (d : PortState) → qs ≡ each_until rested n 0 ps → n < length ps → set qs n (calmed (get_or qs n d)) ≡ each_until rested (n + 1) 0 ps
rest_step n ps qs d e b = rw (e, add-one) (until_more rested n 0 ps d b)

-- a port that isn't busy is passed over
pub busy_passed : (sel : PortSel) (test : PortState → Bool) (n : ℕ) (ps : List PortState) (d : PortState) (busy : Bool) → n < length ps → busy ≡ test (get_or ps n d) → is_selected sel n && busy ≡ false → busy_among n sel test (drop n ps) ≡ busy_among (n + 1) sel test (drop (n + 1) ps)
busy_passed sel test n ps d busy b t e =
    rw (drop-cons ps n d b, ← t) (rw e (ap (λ k. busy_among (n + 1) sel test (drop k ps)) (let m : suc n ≡ n + 1 = omega arith in m)))

-- ---- ports that are let go

abbrev pub let_go : ℕ → PortState → PortState
let_go index p = unheld p

pub until_let_go : (n index : ℕ) (ps : List PortState) → length ps ≤ n → each_until let_go n index ps ≡ map unheld ps
until_let_go n index [] b = refl
until_let_go zero index (p ∷ ps) b = absurd (omega arith)
until_let_go (suc n) index (p ∷ ps) b = ap (λ (qs : List PortState). unheld p ∷ qs) (until_let_go n (index + 1) ps (omega arith))

pub let_go_step : (n : ℕ) (ps qs : List PortState) (d : PortState) → qs ≡ each_until let_go n 0 ps → n < length ps → set qs n (unheld (get_or qs n d)) ≡ each_until let_go (n + 1) 0 ps
let_go_step n ps qs d e b = rw (e, add-one) (until_more let_go n 0 ps d b)

pub unheld_places : (ps : List PortState) → sum_by port_reserve (map unheld ps) ≡ sum_by port_reserve ps
unheld_places [] = refl
unheld_places (p ∷ ps) =
    let e : port_reserve (unheld p) ≡ port_reserve p = refl in
    omega (arith, sum_by-cons port_reserve p ps, sum_by-cons port_reserve (unheld p) (map unheld ps), unheld_places ps)

-- ---- flags that are cleared

abbrev pub clear_flag : ℕ → Bool → Bool
clear_flag index flag = false

pub until_cleared : (n index : ℕ) (flags : List Bool) → length flags ≤ n → each_until clear_flag n index flags ≡ map (λ flag. false) flags
until_cleared n index [] b = refl
until_cleared zero index (p ∷ ps) b = absurd (omega arith)
until_cleared (suc n) index (p ∷ ps) b = ap (λ (qs : List Bool). false ∷ qs) (until_cleared n (index + 1) ps (omega arith))

pub clear_step : (n : ℕ) (ps qs : List Bool) → qs ≡ each_until clear_flag n 0 ps → n < length ps → set qs n false ≡ each_until clear_flag (n + 1) 0 ps
clear_step n ps qs e b = rw (e, add-one) (until_more clear_flag n 0 ps false b)

-- ---- the number of a port

pub port_numbered : (number index k : ℕ) (ss : List PortSetting) (ps : List PortState) (p : Port) → slice_get (ports_from number index ss ps) k ≡ Some p → (p.key.port ≡ index + k) × (k < length ss)
port_numbered number index k [] ps p e = absurd cc
port_numbered number index k (s ∷ ss) [] p e = absurd cc
port_numbered number index zero (s ∷ ss) (q ∷ ps) p e =
    let x : Port = record { key = record { component = number; port = index }; setting = s; state = q } in
    let o : Some x ≡ Some p = e in
    let is : x ≡ p = cc in
    (rw (← is) (omega arith), omega arith)
port_numbered number index (suc k) (s ∷ ss) (q ∷ ps) p e = let i = port_numbered number (index + 1) k ss ps p e in (omega (arith, i.0), omega (arith, i.1))
