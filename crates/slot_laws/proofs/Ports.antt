-- The ports of a component whose handles moved.
use Rattle.std.proofs.Common.{◌≡◌, ℕ, ◌+◌, Bool, List, [], ◌∷◌, set, slice_get, Option, option_map, refl, ◌∙◌, ap}
use Rattle.std.specs.Prelude.{map}
use Rattle.std.specs.List.{list_all, list_any}
use Rattle.std.proofs.lemmas.Option.{slice_get-map}
use Rattle.il_machine.specs.declared.port.Port.{Port}
use Rattle.il_machine.specs.declared.port.PortSetting.{PortSetting}
use Rattle.il_machine.specs.declared.port.PortState.{PortState}
use Rattle.il_machine.specs.Lists.{holds_at}
use Rattle.il_machine.specs.World.{Component, port_of, ports_from, ports_of, with_port}
use Rattle.slot_laws.specs.Seating.{Seating, moved_component, moved_port, moved_state}
use Rattle.slot_laws.proofs.Lists.{all_moved, any_moved, holds_moved, map_set}

module _ (f : Seating) where
  from_moved : (number index : ℕ) (settings : List PortSetting) (states : List PortState)
      → ports_from number index settings (map (moved_state f) states) ≡ map (moved_port f) (ports_from number index settings states)
  from_moved number index [] states = refl
  from_moved number index (s ∷ settings) [] = refl
  from_moved number index (s ∷ settings) (p ∷ states) =
      ap (λ (l : List Port). moved_port f (record { key = record { component = number; port = index }; setting = s; state = p }) ∷ l)
      (from_moved number (index + 1) settings states)

  pub ports_moved : (c : Component) → ports_of (moved_component f c) ≡ map (moved_port f) (ports_of c)
  ports_moved c = from_moved c.handle.generation 0 c.settings.ports c.ports

  pub port_moved : (c : Component) (index : ℕ) → port_of (moved_component f c) index ≡ option_map (moved_port f) (port_of c index)
  port_moved c index = ap (λ (l : List Port). slice_get l index) (ports_moved c) ∙ slice_get-map (moved_port f) (ports_of c) index

  pub all_ports : (c : Component) (p q : Port → Bool) → ((x : Port) → p (moved_port f x) ≡ q x) → list_all p (ports_of (moved_component f c)) ≡ list_all q (ports_of c)
  all_ports c p q same = ap (list_all p) (ports_moved c) ∙ all_moved (moved_port f) p q (ports_of c) same

  pub any_ports : (c : Component) (p q : Port → Bool) → ((x : Port) → p (moved_port f x) ≡ q x) → list_any p (ports_of (moved_component f c)) ≡ list_any q (ports_of c)
  any_ports c p q same = ap (list_any p) (ports_moved c) ∙ any_moved (moved_port f) p q (ports_of c) same

  pub at_port_moved : (c : Component) (index : ℕ) (p q : Port → Bool) → ((x : Port) → p (moved_port f x) ≡ q x)
      → holds_at (port_of (moved_component f c) index) p ≡ holds_at (port_of c index) q
  at_port_moved c index p q same = ap (λ (o : Option Port). holds_at o p) (port_moved c index) ∙ holds_moved (moved_port f) p q (port_of c index) same

  -- the state of a port gave way to another one
  pub port_put : (index : ℕ) (p q : PortState) (c : Component) → p ≡ moved_state f q → with_port index p (moved_component f c) ≡ moved_component f (with_port index q c)
  port_put index p q c is =
      let a = ap (λ (x : PortState). set (map (moved_state f) c.ports) index x) is ∙ map_set (moved_state f) c.ports index q in
      λ j. record (moved_component f c) { ports = a j }
