-- The ports of a component, by their numbers.
use Rattle.std.proofs.Common.{◌≡◌, ℕ, zero, suc, ◌+◌, ◌≤◌, List, [], ◌∷◌, length, slice_get, Some, None, true, is_some, refl, ◌∙◌, arith}
use Rattle.std.proofs.lemmas.Grind.{common_steps}
use Rattle.il_machine.specs.declared.port.Port.{Port}
use Rattle.il_machine.specs.declared.port.PortSetting.{PortSetting}
use Rattle.il_machine.specs.declared.port.PortState.{PortState}
use Rattle.std.specs.List.{list_any, list_all}
use Rattle.il_machine.specs.Ports.{is_joined, has_no_header}
use Rattle.il_machine.specs.Due.{each_port}
use Rattle.il_machine.specs.Whole.{no_headers}
use Rattle.il_machine.specs.World.{Component, ports_from, ports_of, port_of, number_of}

pub joined_at : (number index i : ℕ) (ss : List PortSetting) (ps : List PortState) (s : PortSetting) (p : PortState) → slice_get ss i ≡ Some s → slice_get ps i ≡ Some p
    → slice_get (ports_from number index ss ps) i ≡ Some (record { key = record { component = number; port = index + i }; setting = s; state = p })
joined_at number index i [] ps s p a b = absurd cc
joined_at number index i (x ∷ ss) [] s p a b = absurd cc
joined_at number index zero (x ∷ ss) (y ∷ ps) s p a b = let e : index + 0 ≡ index = omega arith in rw e cc
joined_at number index (suc i) (x ∷ ss) (y ∷ ps) s p a b = let e : index + suc i ≡ index + 1 + i = omega arith in rw e (joined_at number (index + 1) i ss ps s p a b)

pub joined_past : (number index i : ℕ) (ss : List PortSetting) (ps : List PortState) → length ss ≡ length ps → length ss ≤ i → slice_get (ports_from number index ss ps) i ≡ None
joined_past number index i [] ps a b = refl
joined_past number index i (x ∷ ss) [] a b = absurd (omega arith)
joined_past number index zero (x ∷ ss) (y ∷ ps) a b = absurd (omega arith)
joined_past number index (suc i) (x ∷ ss) (y ∷ ps) a b = joined_past number (index + 1) i ss ps (omega arith) (omega arith)

-- the port of the number, where the component has as many settings as ports
pub port_there : (c : Component) (i : ℕ) (s : PortSetting) (p : PortState) → slice_get c.settings.ports i ≡ Some s → slice_get c.ports i ≡ Some p
    → port_of c i ≡ Some (record { key = record { component = number_of c; port = i }; setting = s; state = p })
port_there c i s p a b = let e : 0 + i ≡ i = omega arith in joined_at (number_of c) 0 i c.settings.ports c.ports s p a b ∙ rw e refl

pub port_past : (c : Component) (i : ℕ) → length c.settings.ports ≡ length c.ports → length c.settings.ports ≤ i → port_of c i ≡ None
port_past c i a b = joined_past (number_of c) 0 i c.settings.ports c.ports a b

joined_any : (number index : ℕ) (ss : List PortSetting) (ps : List PortState) → length ss ≡ length ps → list_any is_joined (ports_from number index ss ps) ≡ list_any (λ p. is_some p.link) ps
joined_any number index [] [] e = refl
joined_any number index [] (y ∷ ps) e = absurd (omega arith)
joined_any number index (x ∷ ss) [] e = absurd (omega arith)
joined_any number index (x ∷ ss) (y ∷ ps) e = let l : length ss ≡ length ps = omega arith in let i = joined_any number (index + 1) ss ps l in grind (arith, common_steps)

-- some port of the component is joined
pub ports_any : (c : Component) → length c.settings.ports ≡ length c.ports → list_any is_joined (ports_of c) ≡ list_any (λ p. is_some p.link) c.ports
ports_any c e = joined_any (number_of c) 0 c.settings.ports c.ports e

all_unmade : (ps : List Port) → list_all (has_no_header no_headers) ps ≡ true
all_unmade [] = refl
all_unmade (p ∷ ps) = let i = all_unmade ps in grind (arith, common_steps)

-- without headers none is made for any port
pub ports_unmade : (c : Component) → each_port c (has_no_header no_headers) ≡ true
ports_unmade c = all_unmade (ports_of c)
