-- Headers of tunnels are made, handed over and handed back in the same way, and tunnels and definitions are set.
use Rattle.std.proofs.Common.{◌≡◌, ℕ, zero, suc, Bool, true, false, set, not, nat_eq, List, [], ◌∷◌, ◌++◌, map, slice_get, Option, Some, None, option_and_then, option_map, Result, refl, sym, ◌∙◌, ap, subst}
use Rattle.omx_types.specs.declared.error.CallError.{CallError}
use Rattle.omx_types.specs.declared.error.CallError.TheVariants.{Omx}
use Rattle.omx_types.specs.declared.error.OmxError.{OmxError}
use Rattle.omx_types.specs.declared.handle.Handle.{Handle}
use Rattle.omx_types.specs.declared.handle.PortId.{PortId}
use Rattle.omx_types.specs.declared.param.Param.{Param}
use Rattle.omx_types.specs.declared.param.Param.TheVariants as params
use Rattle.omx_types.specs.declared.param.ParamKey.{ParamKey}
use Rattle.omx_types.specs.declared.param.Supplier.{Supplier}
use Rattle.il_machine.specs.declared.answer.Acted.{Acted}
use Rattle.il_machine.specs.declared.answer.Why.{Why}
use Rattle.il_machine.specs.declared.answer.Why.TheVariants as why
use Rattle.il_machine.specs.declared.port.Link.{Link}
use Rattle.il_machine.specs.declared.port.Port.{Port}
use Rattle.il_machine.specs.declared.port.PortKey.{PortKey}
use Rattle.il_machine.specs.Answers.{Acts, Answers, Resolving, plain}
use Rattle.il_machine.specs.Buffers.{has_no_block, has_no_number, is_taking}
use Rattle.il_machine.specs.Due.{ClosesTo}
use Rattle.il_machine.specs.declared.header.Spot.{Spot}
use Rattle.il_machine.specs.declared.header.Spot.TheVariants.{TodoBack}
use Rattle.il_machine.specs.Flow.{End, HandBack, HandOver, Supply, at_end, at_link, back_idle, done_note, end_in, end_of, front_noticed, front_put, handed_back, handed_over, is_giving, other_end, over_idle, returned, supplied_spot, supply_idle, with_supplied}
use Rattle.il_machine.specs.Headers.{cleared, seen, unchanged}
use Rattle.il_machine.specs.Lists.{first_of_these, is_empty}
use Rattle.il_machine.specs.Look.{look}
use Rattle.il_machine.specs.Parameters.{SetParameter, set_parameter_refusal, unheld_at, with_value}
use Rattle.il_machine.specs.Ports.{accepting, id_of, is_input_port, is_supplier}
use Rattle.il_machine.specs.Settings.{changed_by}
use Rattle.il_machine.specs.Tunnels.{BothPorts, DropTunnel, SetupTunnel, agreed_of, both_joined, both_parted, drop_refusal, joined_to, parted, setup_refusal}
use Rattle.il_machine.specs.World.{Component, HeaderRecord, World, is_numbered, noted, place_numbered, port_of, with_component, Stream}
use Rattle.machine_laws.proofs.Finding.{either}
use Rattle.read_world_laws.specs.Mended.{is_fault}
use Rattle.read_world_laws.proofs.Calls.{acts_as, answers_in, on_port_in, resolves_in}
use Rattle.read_world_laws.proofs.Closing.{closes_in, noted_in, position_in, set_in, with_in}
use Rattle.read_world_laws.proofs.Reading.{IsFair, Reading, read, read_component}

module _ (reading : Reading) (fair : IsFair reading) (streams : List Stream → List Stream) where
  abbrev twin : Component → Component
  twin c = read_component reading c

  abbrev mirror : World → World
  mirror w = read reading streams w

  -- ---- the other end

  abbrev end_taken : End → End
  end_taken e = record e { component = twin e.component }

  module _ (key : PortKey) (i : ℕ) where
    ports_in : (c : Component) (o : Option Port) → option_map (λ (p : Port). record { place = i; component = twin c; port = p }) o ≡ option_map end_taken (option_map (λ (p : Port). record { place = i; component = c; port = p }) o)
    ports_in c None = refl
    ports_in c (Some p) = refl

    component_in : (cs : List Component) (k : ℕ) → option_and_then (λ (c : Component). option_map (λ (p : Port). record { place = i; component = c; port = p }) (port_of c key.port)) (slice_get (map twin cs) k)
        ≡ option_map end_taken (option_and_then (λ (c : Component). option_map (λ (p : Port). record { place = i; component = c; port = p }) (port_of c key.port)) (slice_get cs k))
    component_in [] k = refl
    component_in (c ∷ cs) zero = ports_in c (port_of c key.port)
    component_in (c ∷ cs) (suc k) = component_in cs k

  placed_in : (cs : List Component) (key : PortKey) (o : Option ℕ) → option_and_then (end_in (map twin cs) key.port) o ≡ option_map end_taken (option_and_then (end_in cs key.port) o)
  placed_in cs key None = refl
  placed_in cs key (Some i) = component_in key i cs i

  ends_in : (cs : List Component) (key : PortKey) → end_of (map twin cs) key ≡ option_map end_taken (end_of cs key)
  ends_in cs key = ap (option_and_then (end_in (map twin cs) key.port)) (position_in reading fair streams (is_numbered key.component) (λ c. refl) cs) ∙ placed_in cs key (place_numbered key.component cs)

  others_in : (cs : List Component) (o : Option Link) → option_and_then (λ (link : Link). end_of (map twin cs) link.peer) o ≡ option_map end_taken (option_and_then (λ (link : Link). end_of cs link.peer) o)
  others_in cs None = refl
  others_in cs (Some link) = ends_in cs link.peer

  at_end_in : {E : Type 0} (o : Option End) (f g : End → List (Bool × E)) → ((e : End) → f (end_taken e) ≡ g e) → at_end (option_map end_taken o) f ≡ at_end o g
  at_end_in None f g h = refl
  at_end_in (Some e) f g h = h e

  -- ---- supply and hand_over

  supply_idle_in : (w : World) (c : Component) (p : Port) → supply_idle (look (mirror w)) (twin c) p ≡ supply_idle (look w) c p
  supply_idle_in w c p =
      ap (λ (t : List (Bool × Why)). first_of_these ((not (is_supplier p), why.NotSupplier) ∷ (not (accepting (seen w.headers) c p), why.NotAccepting (id_of c p)) ∷ t ++ (has_no_block (seen w.headers), why.NoBlock) ∷ (has_no_number (look w), why.NoNumber) ∷ []))
      (ap (λ (o : Option End). at_end o (λ e. (not (accepting (seen w.headers) e.component e.port), why.NotAccepting (id_of e.component e.port)) ∷ [])) (others_in w.components p.state.link)
      ∙ at_end_in (other_end w.components p) _ _ (λ e. refl))

  pub supplies_in : (w : World) (h : Handle) (port : ℕ) (result : Result Acted CallError) (v : World) → Supply w h port result v → Supply (mirror w) h port result (mirror v)
  supplies_in w h port result v s = on_port_in reading fair streams Omx w h port result v
      (λ i c p. Acts (supply_idle (look w) c p) result w (with_supplied p w) v)
      (λ i c p. Acts (supply_idle (look (mirror w)) c p) result (mirror w) (with_supplied p (mirror w)) (mirror v))
      (λ i c p e r. acts_as reading fair streams (supply_idle (look w) c p) (supply_idle (look (mirror w)) (twin c) p) result w (with_supplied p w) (with_supplied p (mirror w)) v (supply_idle_in w c p) refl r) s

  over_idle_in : (w : World) (c : Component) (p : Port) → over_idle (look (mirror w)) (twin c) p ≡ over_idle (look w) c p
  over_idle_in w c p =
      ap (λ (t : List (Bool × Why)). first_of_these ((not (is_supplier p), why.NotSupplier) ∷ (not (is_giving c p), why.NotRunning (id_of c p)) ∷ t ++ (is_empty ((seen w.headers).done p.key), why.NoHeader) ∷ []))
      (ap (λ (o : Option End). at_end o (λ e. (not (is_taking e.component e.port), why.NotRunning (id_of e.component e.port)) ∷ [])) (others_in w.components p.state.link)
      ∙ at_end_in (other_end w.components p) _ _ (λ e. refl))

  put_in : (key : PortKey) (spot : Spot) (change : HeaderRecord → HeaderRecord) (ns : List ℕ) (w : World) → front_put key spot change ns (mirror w) ≡ mirror (front_put key spot change ns w)
  put_in key spot change [] w = refl
  put_in key spot change (n ∷ ns) w = refl

  linked_in : (o : Option Link) (ns : List ℕ) (w : World) → at_link o (λ peer. front_put peer TodoBack unchanged ns) (mirror w) ≡ mirror (at_link o (λ peer. front_put peer TodoBack unchanged ns) w)
  linked_in None ns w = refl
  linked_in (Some link) ns w = put_in link.peer TodoBack unchanged ns w

  pub overs_in : (w : World) (h : Handle) (port : ℕ) (result : Result Acted OmxError) (v : World) → HandOver w h port result v → HandOver (mirror w) h port result (mirror v)
  overs_in w h port result v s = on_port_in reading fair streams plain w h port result v
      (λ i c p. Acts (over_idle (look w) c p) result w (handed_over p w) v)
      (λ i c p. Acts (over_idle (look (mirror w)) c p) result (mirror w) (handed_over p (mirror w)) (mirror v))
      (λ i c p e r. acts_as reading fair streams (over_idle (look w) c p) (over_idle (look (mirror w)) (twin c) p) result w (handed_over p w) (handed_over p (mirror w)) v (over_idle_in w c p) (linked_in p.state.link ((seen w.headers).done p.key) w) r) s

  -- ---- hand_back

  returned_in : (supplier : PortKey) (is_input : Bool) (done todo : List ℕ) (w : World) → returned supplier is_input done todo (mirror w) ≡ mirror (returned supplier is_input done todo w)
  returned_in supplier is_input (n ∷ ns) todo w = put_in supplier TodoBack unchanged (n ∷ ns) w
  returned_in supplier is_input [] todo w = put_in supplier (supplied_spot (not is_input)) cleared todo w

  noticed_in : (i : ℕ) (c : Component) (p : Port) (ns : List ℕ) (w : World) → front_noticed i (twin c) p ns (mirror w) ≡ mirror (front_noticed i c p ns w)
  noticed_in i c p [] w = refl
  noticed_in i c p (n ∷ ns) w =
      let t = noted_in reading fair streams (done_note (is_input_port p) n) (no_fault (is_input_port p) n) c in
      (λ j. record (front_noticed i (twin c) p (n ∷ ns) (mirror w)) { components = set (map twin w.components) i (t j) })
      ∙ (λ j. record (front_noticed i (twin c) p (n ∷ ns) (mirror w)) { components = set_in reading fair streams w.components i (noted (done_note (is_input_port p) n) c) j })
    where
      no_fault : (q : Bool) (n : ℕ) → is_fault (done_note q n) ≡ false
      no_fault true n = refl
      no_fault false n = refl

  handed_back_in : (i : ℕ) (c : Component) (p : Port) (o : Option Link) (w : World) → handed_back i (twin c) p o (mirror w) ≡ mirror (handed_back i c p o w)
  handed_back_in i c p None w = noticed_in i c p ((seen w.headers).todo p.key) w
  handed_back_in i c p (Some link) w = returned_in link.peer (is_input_port p) ((seen w.headers).done p.key) ((seen w.headers).todo p.key) w

  pub backs_in : (w : World) (h : Handle) (port : ℕ) (result : Result Acted OmxError) (v : World) → HandBack w h port result v → HandBack (mirror w) h port result (mirror v)
  backs_in w h port result v s = on_port_in reading fair streams plain w h port result v
      (λ i c p. Acts (back_idle (look w) c p) result w (handed_back i c p p.state.link w) v)
      (λ i c p. Acts (back_idle (look (mirror w)) c p) result (mirror w) (handed_back i c p p.state.link (mirror w)) (mirror v))
      (λ i c p e r. acts_as reading fair streams (back_idle (look w) c p) (back_idle (look (mirror w)) (twin c) p) result w (handed_back i c p p.state.link w) (handed_back i (twin c) p p.state.link (mirror w)) v refl (handed_back_in i c p p.state.link w) r) s

  -- ---- a definition is set

  value_refusal_in : (w : World) (c : Component) (key : ParamKey) (value : Param) → set_parameter_refusal (seen w.headers) (twin c) key value ≡ set_parameter_refusal (seen w.headers) c key value
  value_refusal_in w c key (params.Port d) = refl
  value_refusal_in w c key (params.Supplier supplier) = refl
  value_refusal_in w c key (params.Priority n) = refl
  value_refusal_in w c key (params.Gain n) = refl
  value_refusal_in w c key (params.Weight n) = refl

  unheld_in : (o : Option Port) (c : Component) → unheld_at o (twin c) ≡ twin (unheld_at o c)
  unheld_in None c = refl
  unheld_in (Some p) c = refl

  value_in : (key : ParamKey) (value : Param) (c : Component) → with_value key value (twin c) ≡ twin (with_value key value c)
  value_in key value c = either (nat_eq key.index 1)
      (λ t. rw t (unheld_in (port_of c key.port) (record c { settings = changed_by key.port value c.settings })))
      (λ t. rw t refl)

  pub sets_in : (w : World) (h : Handle) (key : ParamKey) (value : Param) (result : Result (Unit {0}) OmxError) (v : World) → SetParameter w h key value result v → SetParameter (mirror w) h key value result (mirror v)
  sets_in w h key value result v s = resolves_in reading fair streams plain w h result v
      (λ i c. Answers (set_parameter_refusal (seen w.headers) c key value) result w v (λ _. ClosesTo (with_component i (with_value key value c) w) v))
      (λ i c. Answers (set_parameter_refusal (seen w.headers) c key value) result (mirror w) (mirror v) (λ _. ClosesTo (with_component i (with_value key value c) (mirror w)) (mirror v)))
      (λ i c e r.
      answers_in reading fair streams (set_parameter_refusal (seen w.headers) c key value) (set_parameter_refusal (seen w.headers) (twin c) key value) result w v
      (λ _. ClosesTo (with_component i (with_value key value c) w) v) (λ _. ClosesTo (with_component i (with_value key value (twin c)) (mirror w)) (mirror v)) (value_refusal_in w c key value)
      (λ y C. subst (λ (u : World). ClosesTo u (mirror v)) (sym (ap (λ (d : Component). with_component i d (mirror w)) (value_in key value c) ∙ with_in reading fair streams i (with_value key value c) w)) (closes_in reading fair streams (with_component i (with_value key value c) w) v C)) r) s

  -- ---- tunnels

  both_in : (o q : Option Port) (A B : Port → Port → Type 0) → ((a b : Port) → A a b → B a b) → BothPorts o q A → BothPorts o q B
  both_in None q A B f h = h
  both_in (Some a) None A B f h = h
  both_in (Some a) (Some b) A B f h = f a b h

  twice_in : (i j : ℕ) (c d : Component) (w : World) → with_component j (twin d) (with_component i (twin c) (mirror w)) ≡ mirror (with_component j d (with_component i c w))
  twice_in i j c d w = ap (with_component j (twin d)) (with_in reading fair streams i c w) ∙ with_in reading fair streams j d (with_component i c w)

  pub drops_in : (w : World) (o n : PortId) (result : Result (Unit {0}) OmxError) (v : World) → DropTunnel w o n result v → DropTunnel (mirror w) o n result (mirror v)
  drops_in w o n result v s = resolves_in reading fair streams plain w o.handle result v
      (λ i c. Resolving plain w n.handle result v (λ j d. Answers (drop_refusal (seen w.headers) (port_of c o.index) (port_of d n.index)) result w v (λ _. BothPorts (port_of c o.index) (port_of d n.index) (λ a b. ClosesTo (both_parted i c a j d b w) v))))
      (λ i c. Resolving plain (mirror w) n.handle result (mirror v) (λ j d. Answers (drop_refusal (seen w.headers) (port_of c o.index) (port_of d n.index)) result (mirror w) (mirror v) (λ _. BothPorts (port_of c o.index) (port_of d n.index) (λ a b. ClosesTo (both_parted i c a j d b (mirror w)) (mirror v)))))
      (λ i c e r. resolves_in reading fair streams plain w n.handle result v
      (λ j d. Answers (drop_refusal (seen w.headers) (port_of c o.index) (port_of d n.index)) result w v (λ _. BothPorts (port_of c o.index) (port_of d n.index) (λ a b. ClosesTo (both_parted i c a j d b w) v)))
      (λ j d. Answers (drop_refusal (seen w.headers) (port_of c o.index) (port_of d n.index)) result (mirror w) (mirror v) (λ _. BothPorts (port_of c o.index) (port_of d n.index) (λ a b. ClosesTo (both_parted i (twin c) a j d b (mirror w)) (mirror v))))
      (λ j d f q. answers_in reading fair streams (drop_refusal (seen w.headers) (port_of c o.index) (port_of d n.index)) (drop_refusal (seen w.headers) (port_of c o.index) (port_of d n.index)) result w v
      (λ _. BothPorts (port_of c o.index) (port_of d n.index) (λ a b. ClosesTo (both_parted i c a j d b w) v)) (λ _. BothPorts (port_of c o.index) (port_of d n.index) (λ a b. ClosesTo (both_parted i (twin c) a j (twin d) b (mirror w)) (mirror v))) refl
      (λ y B. both_in (port_of c o.index) (port_of d n.index) (λ a b. ClosesTo (both_parted i c a j d b w) v) (λ a b. ClosesTo (both_parted i (twin c) a j (twin d) b (mirror w)) (mirror v))
      (λ a b C. subst (λ (u : World). ClosesTo u (mirror v)) (sym (twice_in i j (parted a c) (parted b d) w)) (closes_in reading fair streams (both_parted i c a j d b w) v C)) B) q) r) s

  pub joins_in : (w : World) (o n : PortId) (result : Result Supplier OmxError) (v : World) → SetupTunnel w o n result v → SetupTunnel (mirror w) o n result (mirror v)
  joins_in w o n result v s = resolves_in reading fair streams plain w o.handle result v
      (λ i c. Resolving plain w n.handle result v (λ j d. Answers (setup_refusal (seen w.headers) c d (port_of c o.index) (port_of d n.index)) result w v (λ supplier. BothPorts (port_of c o.index) (port_of d n.index) (λ a b. (supplier ≡ agreed_of a b) × ClosesTo (both_joined supplier i c a j d b w) v))))
      (λ i c. Resolving plain (mirror w) n.handle result (mirror v) (λ j d. Answers (setup_refusal (seen w.headers) c d (port_of c o.index) (port_of d n.index)) result (mirror w) (mirror v) (λ supplier. BothPorts (port_of c o.index) (port_of d n.index) (λ a b. (supplier ≡ agreed_of a b) × ClosesTo (both_joined supplier i c a j d b (mirror w)) (mirror v)))))
      (λ i c e r. resolves_in reading fair streams plain w n.handle result v
      (λ j d. Answers (setup_refusal (seen w.headers) c d (port_of c o.index) (port_of d n.index)) result w v (λ supplier. BothPorts (port_of c o.index) (port_of d n.index) (λ a b. (supplier ≡ agreed_of a b) × ClosesTo (both_joined supplier i c a j d b w) v)))
      (λ j d. Answers (setup_refusal (seen w.headers) (twin c) d (port_of c o.index) (port_of d n.index)) result (mirror w) (mirror v) (λ supplier. BothPorts (port_of c o.index) (port_of d n.index) (λ a b. (supplier ≡ agreed_of a b) × ClosesTo (both_joined supplier i (twin c) a j d b (mirror w)) (mirror v))))
      (λ j d f q. answers_in reading fair streams (setup_refusal (seen w.headers) c d (port_of c o.index) (port_of d n.index)) (setup_refusal (seen w.headers) (twin c) (twin d) (port_of c o.index) (port_of d n.index)) result w v
      (λ supplier. BothPorts (port_of c o.index) (port_of d n.index) (λ a b. (supplier ≡ agreed_of a b) × ClosesTo (both_joined supplier i c a j d b w) v))
      (λ supplier. BothPorts (port_of c o.index) (port_of d n.index) (λ a b. (supplier ≡ agreed_of a b) × ClosesTo (both_joined supplier i (twin c) a j (twin d) b (mirror w)) (mirror v))) (refused_in w c d (port_of c o.index) (port_of d n.index))
      (λ y B. both_in (port_of c o.index) (port_of d n.index) (λ a b. (y ≡ agreed_of a b) × ClosesTo (both_joined y i c a j d b w) v) (λ a b. (y ≡ agreed_of a b) × ClosesTo (both_joined y i (twin c) a j (twin d) b (mirror w)) (mirror v))
      (λ a b C. (C.0, subst (λ (u : World). ClosesTo u (mirror v)) (sym (twice_in i j (joined_to b y a c) (joined_to a y b d) w)) (closes_in reading fair streams (both_joined y i c a j d b w) v C.1))) B) q) r) s
    where
      refused_in : (w : World) (c d : Component) (o q : Option Port) → setup_refusal (seen w.headers) (twin c) (twin d) o q ≡ setup_refusal (seen w.headers) c d o q
      refused_in w c d None None = refl
      refused_in w c d None (Some q) = refl
      refused_in w c d (Some p) None = refl
      refused_in w c d (Some p) (Some q) = refl
