-- Headers of tunnels are made, unmade, handed over and returned.
use Rattle.std.proofs.Common.{◌≡◌, ◌≢◌, inl, inr, ℕ, ◌+◌, ◌<◌, ◌≤◌, Bool, true, false, not, List, [], ◌∷◌, ◌++◌, slice_get, Option, Some, None, option_map, refl, sym, ◌∙◌, ap, subst}
use Rattle.il_machine.specs.declared.port.PortKey.{PortKey}
use Rattle.il_machine.specs.declared.port.Link.{Link}
use Rattle.il_machine.specs.declared.port.Port.{Port}
use Rattle.il_machine.specs.declared.header.HeaderState.{HeaderState}
use Rattle.il_machine.specs.declared.header.Owner.TheVariants as owners
use Rattle.il_machine.specs.declared.header.Queue.TheVariants.{Out}
use Rattle.il_machine.specs.declared.header.Spot.{Spot}
use Rattle.il_machine.specs.declared.header.Spot.TheVariants.{TodoBack}
use Rattle.il_machine.specs.World.{Component, HeaderRecord, World, port_of}
use Rattle.il_machine.specs.Headers.{seen, count_headers, is_for, unchanged, cleared, empty_load, spot_queue}
use Rattle.il_machine.specs.Look.{look}
use Rattle.il_machine.specs.Ports.{accepting, is_supplier, is_input_port}
use Rattle.il_machine.specs.Buffers.{without_header}
use Rattle.il_machine.specs.Flow.{End, end_of, other_end, supply_idle, tunnel_header, supplied_by, with_supplied, in_port, front_unmade, front_put, at_link, handed_over, returned, supplied_spot}
use Rattle.il_machine.specs.Sound.{Sound, IsMadeFor, IsOwnedSo, port_at}
use Rattle.machine_laws.proofs.Keys.{for_which, for_port, is_there, none_or_some}
use Rattle.machine_laws.proofs.Lookups.{port_there_at}
use Rattle.machine_laws.proofs.Ties.{other_side, for_both}
use Rattle.machine_laws.proofs.Parts.{Parts, ports_in_list, parts_of, sound_from}
use Rattle.machine_laws.proofs.Headers.{is_set_aside, parts_put, parts_push, parts_without}
use Rattle.machine_laws.proofs.Units.{resources_of}
use Rattle.machine_laws.proofs.Accepting.{passed, not_not}
use Rattle.machine_laws.proofs.Listed.{IsIn, AreIn, todo_in, done_in, both_in}
use Rattle.machine_laws.proofs.ClientHeaders.{accepts_fewer}

-- ---- a header in a list of a port is in no note and no work, and was made for the port

in_list : (key : PortKey) (hs : List HeaderRecord) (n : ℕ) (I : IsIn key hs n) → is_set_aside (I.header).state.owner ≡ false
in_list key hs n I = rw I.owner refl

in_for : (cs : List Component) (key : PortKey) (hs : List HeaderRecord) (numbered made n : ℕ) → Parts cs hs numbered made → (I : IsIn key hs n) → is_for key (I.header).state ≡ true
in_for cs key hs numbered made n P I = let O : IsOwnedSo (I.header).state (owners.Port key) = rw I.owner at (P.tied.placed n I.header I.found).owner in O.0

-- ---- made

supplied_is : (input : Bool) → spot_queue (supplied_spot input) ≢ Out
supplied_is true e = cc
supplied_is false e = cc

pub end_there : (o : Option End) (q : Port) → option_map (λ e. e.port) o ≡ Some q → (e : End) × (o ≡ Some e) × (e.port ≡ q)
end_there None q h = absurd cc
end_there (Some e) q h = (e, refl, cc)

supply_passes : (w : World) (c : Component) (p : Port) (link : Link) (e : End) → p.state.link ≡ Some link → end_of w.components link.peer ≡ Some e → supply_idle (look w) c p ≡ None
    → (is_supplier p ≡ true) × (accepting (look w).headers c p ≡ true) × (accepting (look w).headers e.component e.port ≡ true)
supply_passes w c p link e l f h =
    let o : other_end w.components p ≡ Some e = rw (l, f) refl in
    let g = rw o at h in
    let a = passed (not (is_supplier p)) _ _ g in
    let b = passed (not (accepting (look w).headers c p)) _ _ a.1 in
    let d = passed (not (accepting (look w).headers e.component e.port)) _ _ b.1 in
    (not_not (is_supplier p) a.0, not_not (accepting (look w).headers c p) b.0, not_not (accepting (look w).headers e.component e.port) d.0)

sound_tunnel_header : (w : World) (i : ℕ) (c : Component) (index : ℕ) (p : Port) (link : Link) → Sound w → slice_get w.components i ≡ Some c → port_of c index ≡ Some p → p.state.link ≡ Some link
    → supply_idle (look w) c p ≡ None
    → Parts w.components (w.headers ++ record { state = tunnel_header w.made p link.peer; load = empty_load None } ∷ []) w.numbered (w.made + 1)
sound_tunnel_header w i c index p link S t e l h =
    let P = parts_of w S in
    let s : HeaderState = tunnel_header w.made p link.peer in
    let r : HeaderRecord = record { state = s; load = empty_load None } in
    let at = port_there_at w.numbered i w.components c index p P.rising t e in
    let q = other_side (ports_in_list w.components) w.headers p.key p link P.tied at l in
    let x = end_there (end_of w.components link.peer) q.0 q.1 in
    let a = supply_passes w c p link x.0 l x.1 h in
    let few = accepts_fewer w c p a.1 (P.tied.few p.key p at) in
    let qk : (q.0).key ≡ link.peer = P.tied.keyed link.peer q.0 q.1 in
    let xk : ((x.0).port).key ≡ link.peer = ap (λ (y : Port). y.key) x.2 ∙ qk in
    let fewq : count_headers (is_for ((x.0).port).key) w.headers < ((x.0).port).setting.definition.count =
    accepts_fewer w (x.0).component (x.0).port a.2
    (subst (λ (y : Port). count_headers (is_for y.key) w.headers ≤ y.setting.definition.count) (sym x.2) (subst (λ (k : PortKey). count_headers (is_for k) w.headers ≤ (q.0).setting.definition.count) (sym qk) (P.tied.few link.peer q.0 q.1))) in
    parts_push w.components r w.headers w.numbered w.made P refl refl
    (record {
      home = refl;
      port = is_there (port_at p.key w.components) (IsMadeFor (Some link.peer)) p at (a.0, is_there p.state.link (λ y. y.peer ≡ link.peer) link l refl);
      owner = (for_port p.key s refl, supplied_is (is_input_port p));
    })
    (λ key o k f. elim (for_which key s f) [
      | inl g ↦
          let b : Some o ≡ Some p = sym k ∙ (ap (λ (y : PortKey). port_at y w.components) (sym g) ∙ at) in
          let is : o ≡ p = cc in
          rw is (subst (λ (y : PortKey). count_headers (is_for y) w.headers < p.setting.definition.count) g few)
      | inr g ↦
          let pk : link.peer ≡ key = cc in
          let b : Some o ≡ Some q.0 = sym k ∙ (ap (λ (y : PortKey). port_at y w.components) (sym pk) ∙ q.1) in
          let is : o ≡ q.0 = cc in
          let here : o ≡ (x.0).port = is ∙ sym x.2 in
          rw here (subst (λ (y : PortKey). count_headers (is_for y) w.headers < ((x.0).port).setting.definition.count) (xk ∙ pk) fewq)
    ])

pub sound_supplied : (w : World) (i : ℕ) (c : Component) (index : ℕ) (p : Port) → Sound w → slice_get w.components i ≡ Some c → port_of c index ≡ Some p → supply_idle (look w) c p ≡ None → Sound (with_supplied p w)
sound_supplied w i c index p S t e h = elim (none_or_some p.state.link) [
  | inl n ↦
      let a : is_supplier p ≡ false = rw n refl in
      let b = not_not (is_supplier p) (passed (not (is_supplier p)) _ _ h).0 in
      absurd cc
  | inr link ↦
      let f : supplied_by w.made p p.state.link ≡ record { state = tunnel_header w.made p (link.0).peer; load = empty_load None } ∷ [] = rw link.1 refl in
      sound_from (with_supplied p w) (rw f (sound_tunnel_header w i c index p link.0 S t e link.1 h)) (resources_of w S)
]

-- ---- unmade

released_front : (w : World) (key : PortKey) (ns : List ℕ) → Sound w → AreIn key w.headers ns → Sound (front_unmade ns w)
released_front w key [] S A = S
released_front w key (n ∷ ns) S A = let I = A.0 in sound_from (without_header n w) (parts_without w.components n I.header w.headers w.numbered w.made (parts_of w S) I.found (in_list key w.headers n I)) (resources_of w S)

pub sound_released : (w : World) (p : Port) → Sound w → Sound (front_unmade (in_port (seen w.headers) p) w)
sound_released w p S =
    let o = (parts_of w S).once in
    released_front w p.key (in_port (seen w.headers) p) S (both_in p.key w.headers ((seen w.headers).todo p.key) ((seen w.headers).done p.key) (todo_in p.key w.headers o) (done_in p.key w.headers o))

-- ---- handed over and returned

front_moves : (w : World) (i : ℕ) (c : Component) (index : ℕ) (p : Port) (link : Link) (spot : Spot) (change : HeaderRecord → HeaderRecord) (ns : List ℕ) → Sound w → slice_get w.components i ≡ Some c → port_of c index ≡ Some p
    → p.state.link ≡ Some link → ((x : HeaderRecord) → (change x).state ≡ x.state) → AreIn p.key w.headers ns → Sound (front_put link.peer spot change ns w)
front_moves w i c index p link spot change [] S t e l keeps A = S
front_moves w i c index p link spot change (n ∷ ns) S t e l keeps A =
    let P = parts_of w S in
    let I = A.0 in
    let at = port_there_at w.numbered i w.components c index p P.rising t e in
    let f = for_both (ports_in_list w.components) w.headers p.key p link (I.header).state P.tied at l (P.tied.placed n I.header I.found) (in_for w.components p.key w.headers w.numbered w.made n P I) in
    sound_from (front_put link.peer spot change (n ∷ ns) w) (parts_put w.components link.peer spot change n I.header w.headers w.numbered w.made keeps P I.found (in_list p.key w.headers n I) f) (resources_of w S)

over_link : (w : World) (i : ℕ) (c : Component) (index : ℕ) (p : Port) (o : Option Link) → Sound w → slice_get w.components i ≡ Some c → port_of c index ≡ Some p → p.state.link ≡ o
    → Sound (at_link o (λ peer. front_put peer TodoBack unchanged ((seen w.headers).done p.key)) w)
over_link w i c index p None S t e l = S
over_link w i c index p (Some link) S t e l = front_moves w i c index p link TodoBack unchanged ((seen w.headers).done p.key) S t e l (λ x. refl) (done_in p.key w.headers (parts_of w S).once)

pub sound_handed_over : (w : World) (i : ℕ) (c : Component) (index : ℕ) (p : Port) → Sound w → slice_get w.components i ≡ Some c → port_of c index ≡ Some p → Sound (handed_over p w)
sound_handed_over w i c index p S t e = over_link w i c index p p.state.link S t e refl

returned_from : (w : World) (i : ℕ) (c : Component) (index : ℕ) (p : Port) (link : Link) (done todo : List ℕ) → Sound w → slice_get w.components i ≡ Some c → port_of c index ≡ Some p → p.state.link ≡ Some link
    → AreIn p.key w.headers done → AreIn p.key w.headers todo → Sound (returned link.peer (is_input_port p) done todo w)
returned_from w i c index p link (n ∷ rest) todo S t e l A B = front_moves w i c index p link TodoBack unchanged (n ∷ rest) S t e l (λ x. refl) A
returned_from w i c index p link [] todo S t e l A B = front_moves w i c index p link (supplied_spot (not (is_input_port p))) cleared todo S t e l (λ x. refl) B

pub sound_returned : (w : World) (i : ℕ) (c : Component) (index : ℕ) (p : Port) (link : Link) → Sound w → slice_get w.components i ≡ Some c → port_of c index ≡ Some p → p.state.link ≡ Some link
    → Sound (returned link.peer (is_input_port p) ((seen w.headers).done p.key) ((seen w.headers).todo p.key) w)
sound_returned w i c index p link S t e l =
    let o = (parts_of w S).once in
    returned_from w i c index p link ((seen w.headers).done p.key) ((seen w.headers).todo p.key) S t e l (done_in p.key w.headers o) (todo_in p.key w.headers o)
