-- A component with nothing pending has nothing due.
use Rattle.std.proofs.Common.{◌≡◌, ℕ, ◌+◌, suc, true, false, List, [], ◌∷◌, All, None, position, refl, ◌∙◌, arith}
use Rattle.il_machine.specs.declared.port.Port.{Port}
use Rattle.il_machine.specs.declared.port.Mode.{Mode}
use Rattle.il_machine.specs.declared.port.Mode.TheVariants.{Steady, Enabling, Disabling}
use Rattle.il_machine.specs.declared.port.PortState.{PortState}
use Rattle.il_machine.specs.declared.port.PortSetting.{PortSetting}
use Rattle.il_machine.specs.Lists.{first_of_these}
use Rattle.il_machine.specs.World.{Component, ports_from}
use Rattle.il_machine.specs.Headers.{Seen}
use Rattle.il_machine.specs.Due.{things_of, due_in, has_due, is_flush_due, is_mode_due, is_mark_due}
use Rattle.il_machine.specs.Ports.{IsCalmPort, IsCalm, is_steady}
use Rattle.il_machine.specs.Places.{first_place}
use Rattle.il_machine.proofs.Places.{is_first_place}

steady_mode : (headers : Seen) (c : Component) (p : Port) (m : Mode) → is_steady m ≡ true → is_mode_due headers c p m ≡ false
steady_mode headers c p Steady h = refl
steady_mode headers c p Enabling h = absurd cc
steady_mode headers c p Disabling h = absurd cc

calm_flush : (headers : Seen) (c : Component) (p : Port) → IsCalmPort p.state → is_flush_due headers c p ≡ false
calm_flush headers c p C = let q = C.quiet in rw q refl

calm_mark : (headers : Seen) (p : Port) → IsCalmPort p.state → is_mark_due headers p ≡ false
calm_mark headers p C = let q = C.unmarked in rw q refl

calm_things : (headers : Seen) (c : Component) (number index : ℕ) (ss : List PortSetting) (ps : List PortState) → All IsCalmPort ps → first_of_these (things_of headers c (ports_from number index ss ps)) ≡ None
calm_things headers c number index [] ps C = refl
calm_things headers c number index (s ∷ ss) [] C = refl
calm_things headers c number index (s ∷ ss) (x ∷ ps) C =
    let p : Port = record { key = record { component = number; port = index }; setting = s; state = x } in
    let here : IsCalmPort x = C 0 x (omega arith) in
    let later : All IsCalmPort ps = λ k d h. C (suc k) d (omega arith) in
    rw (calm_flush headers c p here, steady_mode headers c p x.mode here.steady, calm_mark headers p here) (calm_things headers c number (index + 1) ss ps later)

pub calm_due : (headers : Seen) (c : Component) → IsCalm c → due_in headers c ≡ None
calm_due headers c C = rw C.resting (calm_things headers c _ 0 c.settings.ports c.ports C.ports)

none_due : (headers : Seen) (c : Component) → IsCalm c → has_due headers c ≡ false
none_due headers c C = rw (calm_due headers c C) refl

calm_first : (headers : Seen) (cs : List Component) → All IsCalm cs → first_place (has_due headers) cs ≡ None
calm_first headers [] C = refl
calm_first headers (c ∷ cs) C =
    let later : All IsCalm cs = λ k d h. C (suc k) d (omega arith) in
    rw (none_due headers c (C 0 c (omega arith)), calm_first headers cs later) refl

-- where nothing is pending anywhere, nothing is due
pub calm_closed : (headers : Seen) (cs : List Component) → All IsCalm cs → position (has_due headers) cs ≡ None
calm_closed headers cs C = is_first_place (has_due headers) cs ∙ calm_first headers cs C
