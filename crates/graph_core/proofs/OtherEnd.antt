-- The other end of a tunnel is a port of a component of the list.
use Rattle.std.proofs.Common.{◌≡◌, ℕ, List, position, slice_get, Option, Some, None, option_map, option_and_then, refl, sym, ◌∙◌, ap}
use Rattle.std.proofs.lemmas.Option.{slice_get-map}
use Rattle.il_machine.specs.declared.port.Port.{Port}
use Rattle.il_machine.specs.declared.port.Link.{Link}
use Rattle.il_machine.specs.World.{Component, is_numbered, place_numbered, port_of}
use Rattle.il_machine.specs.Flow.{end_at, end_in, end_of, other_end}
use Rattle.il_machine.specs.Flow as machine
use Rattle.il_machine.proofs.Places.{is_first_place}
use Rattle.il_component.specs.Entries.{Entry, component_of}
use Rattle.graph_core.specs.declared.other_end.End.{End}
use Rattle.graph_core.specs.Entries.{components_of}
use Rattle.graph_core.specs.OtherEnd.{end_seen}
use Rattle.graph_core.proofs.Replacing.{first_mapped}

pub numbered_is : {C : Type 0} (number : ℕ) (es : List (Entry C)) → position (λ e. is_numbered number (component_of e)) es ≡ place_numbered number (components_of es)
numbered_is {C} number es =
    is_first_place (λ (e : Entry C). is_numbered number (component_of e)) es
    ∙ (sym (first_mapped component_of (is_numbered number) es) ∙ sym (is_first_place (is_numbered number) (components_of es)))

-- ---- what is found

abbrev pub end_with : ℕ → Port → End
end_with i q = record { place = i; port = q }

seen_with : (i : ℕ) (c : Component) (o : Option Port) → option_map (end_with i) o ≡ option_map end_seen (option_map (λ q. record { place = i; component = c; port = q }) o)
seen_with i c None = refl
seen_with i c (Some q) = refl

pub no_link : (cs : List Component) (p : Port) → p.state.link ≡ None → None ≡ option_map end_seen (other_end cs p)
no_link cs p l = rw l refl

pub no_place : (cs : List Component) (p : Port) (link : Link) → p.state.link ≡ Some link → None ≡ place_numbered (link.peer).component cs → None ≡ option_map end_seen (other_end cs p)
no_place cs p link l n = rw (l, ← n) refl

pub at_place : (cs : List Component) (p : Port) (link : Link) (i : ℕ) (c : Component) → p.state.link ≡ Some link → place_numbered (link.peer).component cs ≡ Some i → slice_get cs i ≡ Some c
    → option_map (end_with i) (port_of c (link.peer).port) ≡ option_map end_seen (other_end cs p)
at_place cs p link i c l n s = rw (l, n, s) (seen_with i c (port_of c (link.peer).port))

-- ---- what was found

-- The end is the machine's, and its port is one of the component at its place.
pub record IsEnd {C : Type 0} (es : List (Entry C)) (p : Port) (end : End) (e : Entry C) : Type 0 where
  pub index : ℕ
  pub port : port_of (component_of e) index ≡ Some end.port
  pub is : other_end (components_of es) p ≡ Some (record { place = end.place; component = component_of e; port = end.port })

port_found : (i : ℕ) (c : Component) (o : Option Port) (e : machine.End) → option_map (λ q. record { place = i; component = c; port = q }) o ≡ Some e → (i ≡ e.place) × (c ≡ e.component) × (o ≡ Some e.port)
port_found i c None e h = absurd cc
port_found i c (Some q) e h =
    let x : record { place = i; component = c; port = q } ≡ e = cc in
    (ap (λ (y : machine.End). y.place) x, ap (λ (y : machine.End). y.component) x, ap (λ (y : machine.End). Some y.port) x)

component_found : (index i : ℕ) (o : Option Component) (e : machine.End) → option_and_then (end_at index i) o ≡ Some e → (i ≡ e.place) × (o ≡ Some e.component) × (port_of e.component index ≡ Some e.port)
component_found index i None e h = absurd cc
component_found index i (Some c) e h =
    let x = port_found i c (port_of c index) e h in
    (x.0, ap Some x.1, ap (λ (y : Component). port_of y index) (sym x.1) ∙ x.2)

place_found : (cs : List Component) (index : ℕ) (o : Option ℕ) (e : machine.End) → option_and_then (end_in cs index) o ≡ Some e → (slice_get cs e.place ≡ Some e.component) × (port_of e.component index ≡ Some e.port)
place_found cs index None e h = absurd cc
place_found cs index (Some i) e h =
    let x = component_found index i (slice_get cs i) e h in
    (ap (slice_get cs) (sym x.0) ∙ x.1, x.2)

link_found : (cs : List Component) (o : Option Link) (e : machine.End) → option_and_then (λ link. end_of cs link.peer) o ≡ Some e → (index : ℕ) × (slice_get cs e.place ≡ Some e.component) × (port_of e.component index ≡ Some e.port)
link_found cs None e h = absurd cc
link_found cs (Some link) e h = let x = place_found cs (link.peer).port (place_numbered (link.peer).component cs) e h in ((link.peer).port, x.0, x.1)

end_seen_at : {C : Type 0} (es : List (Entry C)) (p : Port) (end : End) (e : Entry C) (o : Option machine.End) → other_end (components_of es) p ≡ o → Some end ≡ option_map end_seen o → slice_get es end.place ≡ Some e → IsEnd es p end e
end_seen_at es p end e None q h at = absurd cc
end_seen_at es p end e (Some m) q h at =
    let s : end ≡ end_seen m = cc in
    let x = link_found (components_of es) p.state.link m q in
    let a : slice_get (components_of es) end.place ≡ Some (component_of e) = slice_get-map component_of es end.place ∙ ap (option_map component_of) at in
    let b : slice_get (components_of es) end.place ≡ Some m.component = ap (λ (y : End). slice_get (components_of es) y.place) s ∙ x.1 in
    let c : m.component ≡ component_of e = let z : Some m.component ≡ Some (component_of e) = sym b ∙ a in cc in
    let i : m.place ≡ end.place = ap (λ (y : End). y.place) (sym s) in
    let r : m.port ≡ end.port = ap (λ (y : End). y.port) (sym s) in
    record {
      index = x.0;
      port = ap (λ (y : Component). port_of y x.0) (sym c) ∙ (x.2 ∙ ap Some r);
      is = q ∙ (λ j. Some (record { place = i j; component = c j; port = r j }));
    }

pub end_found : {C : Type 0} (es : List (Entry C)) (p : Port) (end : End) (e : Entry C) → Some end ≡ option_map end_seen (other_end (components_of es) p) → slice_get es end.place ≡ Some e → IsEnd es p end e
end_found es p end e h at = end_seen_at es p end e (other_end (components_of es) p) refl h at

none_seen : (o : Option machine.End) → None ≡ option_map end_seen o → o ≡ None
none_seen None h = refl
none_seen (Some e) h = absurd cc

pub no_end : (cs : List Component) (p : Port) → None ≡ option_map end_seen (other_end cs p) → other_end cs p ≡ None
no_end cs p h = none_seen (other_end cs p) h
