-- Why a port hands no header over: what is looked at of the other end.
use Rattle.std.proofs.Common.{◌≡◌, Bool, true, not, List, [], ◌∷◌, Option, Some, is_some, refl, sym, ◌∙◌, ap, slice_get, option_map}
use Rattle.il_machine.specs.declared.answer.Why.{Why}
use Rattle.il_machine.specs.declared.answer.Why.TheVariants as why
use Rattle.il_machine.specs.declared.port.Port.{Port}
use Rattle.il_machine.specs.Lists.{first_of_these, is_empty}
use Rattle.il_machine.specs.Look.{Look}
use Rattle.il_machine.specs.Buffers.{is_taking}
use Rattle.il_machine.specs.Ports.{id_of, is_supplier}
use Rattle.il_machine.specs.World.{Component}
use Rattle.il_machine.specs.Flow.{at_end, is_giving, other_end, over_idle}
use Rattle.il_component.specs.Entries.{Entry, component_of}
use Rattle.graph_core.specs.declared.other_end.End.{End}
use Rattle.graph_core.specs.Entries.{components_of}
use Rattle.graph_core.specs.OtherEnd.{end_seen}
use Rattle.graph_core.proofs.OtherEnd.{end_found}
use Rattle.port_rules.proofs.Passing.{left_found}

abbrev pub peer_tests : List Component → Port → List (Bool × Why)
peer_tests components p = at_end (other_end components p) (λ e. (not (is_taking e.component e.port), why.NotRunning (id_of e.component e.port)) ∷ [])

-- the test of the end that was found
pub peer_at : {C : Type 0} (es : List (Entry C)) (p : Port) (end : End) (e : Entry C) (b : Bool) → Some end ≡ option_map end_seen (other_end (components_of es) p) → slice_get es end.place ≡ Some e → is_taking (component_of e) end.port ≡ b
    → first_of_these (peer_tests (components_of es) p) ≡ first_of_these ((not b, why.NotRunning (id_of (component_of e) end.port)) ∷ [])
peer_at es p end e b h at r = rw ((end_found es p end e h at).is, r) refl

-- the other end doesn't take the header
pub over_peer : (l : Look) (c : Component) (p : Port) (components : List Component) (o : Option Why) → l.components ≡ components → is_supplier p ≡ true → is_giving c p ≡ true → o ≡ first_of_these (peer_tests components p) → true ≡ is_some o
    → o ≡ over_idle l c p
over_peer l c p components o q x y h t =
    let last = (is_empty (l.headers.done p.key), why.NoHeader) ∷ [] in
    let f : first_of_these (peer_tests l.components p) ≡ o = ap (λ (cs : List Component). first_of_these (peer_tests cs p)) q ∙ sym h in
    rw (x, y) (sym (left_found (peer_tests l.components p) last o f (sym t)))
