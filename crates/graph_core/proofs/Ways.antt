-- How a component's ports take headers back.
use Rattle.std.proofs.Common.{◌≡◌, ℕ, zero, suc, ◌+◌, ◌<◌, Bool, true, false, nat_lt, List, [], ◌∷◌, ◌++◌, length, take, drop, set, get_or, slice_get, Some, None, option_map, refl, sym, ◌∙◌, ap, subst, arith}
use Rattle.std.specs.Prelude.{is_some}
use Rattle.std.proofs.lemmas.List.{length-map, length-take-le, take-append-drop, take_more_set}
use Rattle.std.proofs.lemmas.Option.{slice_get-map, get_or_from_slice_get}
use Rattle.omx_types.specs.declared.format.Format.{Format}
use Rattle.omx_types.specs.declared.format.Format.TheVariants.{Auto}
use Rattle.omx_types.specs.Formats.{frame_bytes_of}
use Rattle.il_machine.specs.declared.port.Port.{Port}
use Rattle.il_machine.specs.Kinds.{inputs_of, is_input}
use Rattle.il_machine.specs.Ports.{returning}
use Rattle.il_machine.specs.Settings.{formats_of, same_bool}
use Rattle.il_machine.specs.Parts.{terms_of}
use Rattle.il_machine.specs.Sound.{IsSound}
use Rattle.il_machine.specs.Stepping.{format_at}
use Rattle.il_machine.specs.World.{Component, port_of}
use Rattle.machine_laws.proofs.Facts.{port_limits}
use Rattle.machine_laws.proofs.Lookups.{port_parts}
use Rattle.work_landing.specs.declared.back.Way.{Way}
use Rattle.work_landing.specs.Landed.{AreWays, IsWay}

-- there are as many inputs as the kind has
pub inputs_there : (c : Component) → IsSound c → length (terms_of c).inputs ≡ inputs_of c.settings.kind
inputs_there c S =
    let f : length (formats_of c.settings.ports) ≡ length c.settings.ports = length-map c.settings.ports (λ p. p.definition.format) in
    length-take-le (inputs_of c.settings.kind) (formats_of c.settings.ports) (omega (arith, f, (S.whole).ports))

-- the format of a port is the one that is set
pub format_of : (c : Component) (index : ℕ) (p : Port) → port_of c index ≡ Some p → format_at (terms_of c) index ≡ p.setting.definition.format
format_of c index p e =
    let fs : List Format = formats_of c.settings.ports in
    let n : ℕ = inputs_of c.settings.kind in
    let there : slice_get fs index ≡ Some p.setting.definition.format = slice_get-map (λ s. s.definition.format) c.settings.ports index ∙ ap (option_map (λ s. s.definition.format)) (port_parts c index p e).setting in
    let all : take n fs ++ drop n fs ≡ fs = take-append-drop n fs in
    ap (λ (xs : List Format). get_or xs index Auto) all ∙ get_or_from_slice_get fs index p.setting.definition.format Auto there

same_as : (a b : Bool) → same_bool a b ≡ true → b ≡ a
same_as true true e = refl
same_as true false e = e
same_as false true e = sym e
same_as false false e = refl

pub way_is : (c : Component) (index : ℕ) (p : Port) (way : Way) → IsSound c → port_of c index ≡ Some p → way.input ≡ p.setting.definition.input → way.frame ≡ frame_bytes_of p.setting.definition.format
    → way.joined ≡ is_some p.state.link → way.returning ≡ returning c p → IsWay c index way
way_is c index p way S e i f j r =
    let d : is_input c.settings.kind index ≡ p.setting.definition.input = same_as p.setting.definition.input (is_input c.settings.kind index) (port_limits c index p S e).direction in
    record {
      joined = rw e (sym j);
      returning = rw e (sym r);
      input = ap (nat_lt index) (inputs_there c S) ∙ (d ∙ sym i);
      frame = ap frame_bytes_of (format_of c index p e) ∙ sym f;
    }

-- ---- one after the other

ways_append : (c : Component) (from : ℕ) (ways : List Way) (way : Way) → AreWays c from ways → IsWay c (from + length ways) way → AreWays c from (ways ++ way ∷ [])
ways_append c from [] way ws w = (subst (λ (n : ℕ). IsWay c n way) (omega arith) w, tt)
ways_append c from (x ∷ ways) way ws w = (ws.0, ways_append c (from + 1) ways way ws.1 (subst (λ (n : ℕ). IsWay c n way) (omega arith) w))

pub ways_more : (c : Component) (ways : List Way) (i : ℕ) (way : Way) → AreWays c 0 (take i ways) → IsWay c i way → i < length ways → AreWays c 0 (take (i + 1) (set ways i way))
ways_more c ways i way ws w l =
    let n : length (take i ways) ≡ i = length-take-le i ways (omega arith) in
    subst (AreWays c 0) (sym (take_more_set ways i way l)) (ways_append c 0 (take i ways) way ws (subst (λ (k : ℕ). IsWay c k way) (omega (arith, n)) w))

-- each number below the count has its port
pub port_there : {X : Type 0} (xs : List X) (i : ℕ) → i < length xs → slice_get xs i ≡ None → ⊥
port_there [] i b e = omega arith
port_there (x ∷ xs) zero b e = cc
port_there (x ∷ xs) (suc i) b e = port_there xs i (omega arith) e
