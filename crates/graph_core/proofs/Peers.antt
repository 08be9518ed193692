-- The other end of a joined port is a port of a component of the graph.
use Rattle.std.proofs.Common.{◌≡◌, ℕ, List, Option, Some, None, slice_get, option_map, option_and_then, refl, sym, ◌∙◌, ap, subst}
use Rattle.std.proofs.lemmas.Option.{slice_get-map}
use Rattle.il_machine.specs.declared.answer.Progress.{Progress}
use Rattle.il_machine.specs.declared.port.PortKey.{PortKey}
use Rattle.il_machine.specs.declared.port.Link.{Link}
use Rattle.il_machine.specs.declared.port.Port.{Port}
use Rattle.il_machine.specs.World.{Component, port_of}
use Rattle.il_machine.specs.Look.{Look}
use Rattle.il_machine.specs.Flow.{End, end_of, other_end}
use Rattle.il_machine.specs.Sound.{port_at}
use Rattle.machine_laws.proofs.Facts.{peer_there, HasPeer}
use Rattle.machine_laws.proofs.Lookups.{HasPort, has_port}
use Rattle.il_component.specs.Entries.{Entry, component_of}
use Rattle.port_stock.specs.Kept.{stocked}
use Rattle.port_stock.specs.Conditions.{IsPort}
use Rattle.graph_core.specs.Standing.{SoundWorld, HasPorts}
use Rattle.graph_core.specs.Entries.{Entries, components_of, kept}
use Rattle.graph_core.proofs.Stepping.{at_world, port_kept}

module _ {C : Type 0} (es : List (Entry C)) (i : ℕ) (c : Component) where
  entry_of : (o : Option (Entry C)) → slice_get es i ≡ o → slice_get (components_of es) i ≡ Some c → (e : Entry C) × (slice_get es i ≡ Some e) × (component_of e ≡ c)
  entry_of None q h = let z : None ≡ Some c = ap (option_map component_of) (sym q) ∙ (sym (slice_get-map component_of es i) ∙ h) in absurd cc
  entry_of (Some e) q h = let z : Some (component_of e) ≡ Some c = ap (option_map component_of) (sym q) ∙ (sym (slice_get-map component_of es i) ∙ h) in (e, q, cc)

  pub entry_there : slice_get (components_of es) i ≡ Some c → (e : Entry C) × (slice_get es i ≡ Some e) × (component_of e ≡ c)
  entry_there h = entry_of (slice_get es i) refl h

module _ {C : Type 0} (progress : C → Progress) (g : Entries C) (i : ℕ) (e : Entry C) (index : ℕ) (p : Port) (link : Link) (W : SoundWorld (kept progress g)) (at : slice_get g.entries i ≡ Some e) (port : port_of (component_of e) index ≡ Some p) (joined : p.state.link ≡ Some link) where
  abbrev peer : PortKey
  peer = link.peer

  pub other : HasPeer W.world p link
  other = peer_there W.world i (component_of e) index p link W.sound (at_world progress g i e W.world W.stands at) port joined

  abbrev pub far : End
  far = other.other

  same_components : W.world.components ≡ components_of g.entries
  same_components = ap (λ (l : Look). l.components) W.stands.looks

  pub far_is : other_end (components_of g.entries) p ≡ Some far
  far_is =
      let f : end_of (components_of g.entries) peer ≡ Some far = ap (λ (cs : List Component). end_of cs peer) (sym same_components) ∙ other.found in
      ap (option_and_then (λ (x : Link). end_of (components_of g.entries) x.peer)) joined ∙ f

  -- the peer's key names that port, in the world
  pub peer_at : port_at peer W.world.components ≡ Some far.port
  peer_at = ap (option_map (λ (x : End). x.port)) other.found

  pub peer_has : HasPort W.world.components peer far.port
  peer_has = has_port peer W.world.components far.port peer_at

  -- the peer is one of the stock's ports
  pub peer_kept : HasPorts g.entries (stocked g.stock) g.numbered → IsPort peer (stocked g.stock)
  peer_kept P =
      let h : slice_get (components_of g.entries) peer_has.place ≡ Some peer_has.component = ap (λ (cs : List Component). slice_get cs peer_has.place) (sym same_components) ∙ peer_has.there in
      let x = entry_there g.entries peer_has.place peer_has.component h in
      let q : port_of (component_of x.0) peer.port ≡ Some far.port = ap (λ (y : Component). port_of y peer.port) x.2 ∙ peer_has.port in
      subst (λ (k : PortKey). IsPort k (stocked g.stock)) other.key (port_kept progress g.entries (stocked g.stock) g.numbered peer_has.place peer.port x.0 far.port P x.1 q)
