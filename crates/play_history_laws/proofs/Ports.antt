-- Which end of a link it is at which a component makes, unmakes, hands over or hands back a header.
use Rattle.std.proofs.Common.{◌≡◌, ◌⊎◌, inl, inr, ℕ, ◌<◌, Bool, true, false, not, ◌&&◌, ◌||◌, if◌then◌else◌, List, ◌++◌, length, map, slice_get, Some, None, refl, sym, ◌∙◌, ap, subst, length-append, arith}
use Rattle.std.proofs.lemmas.List.{length-map}
use Rattle.il_machine.specs.declared.port.Port.{Port}
use Rattle.il_machine.specs.declared.port.PortKey.{PortKey}
use Rattle.il_machine.specs.declared.port.PortState.{PortState}
use Rattle.il_machine.specs.Flow.{back_idle, over_idle, release_idle, supply_idle}
use Rattle.il_machine.specs.Headers.{seen}
use Rattle.il_machine.specs.Lists.{is_empty}
use Rattle.il_machine.specs.Look.{look}
use Rattle.il_machine.specs.Ports.{is_supplied_by, is_supplier, returning}
use Rattle.il_machine.specs.States.{is_executing}
use Rattle.il_machine.specs.World.{Component, HeaderRecord, World, port_of}
use Rattle.machine_laws.proofs.Accepting.{not_either, not_not, passed}
use Rattle.machine_laws.proofs.Finding.{either}
use Rattle.machine_laws.proofs.Lookups.{port_parts}
use Rattle.play_model.specs.Network.{headers_of}
use Rattle.play_model.specs.Play.{Play, component_at, made, other_component, supplier}
use Rattle.play_world_laws.specs.View.{LinkEnds, filled, link_view}
use Rattle.play_world_laws.specs.Cast.{away_at, components_of, home_at, links_of, script_place}
use Rattle.play_world_laws.specs.Wiring.{ends_of, link_to, work_in}
use Rattle.play_world_laws.proofs.Handing.{not_empty}
use Rattle.play_world_laws.specs.Changing.{is_joined_at}
use Rattle.play_world_laws.specs.PlayWorlds.{IsActorAt, IsPlayWorld, PlayCast, end_of_link}
use Rattle.play_world_laws.proofs.ChangeEnds.{IsPortAt, port_end}
use Rattle.play_world_laws.proofs.Sides.{away_is, home_is, home_supplies, joined_made, other_is, supplier_is, supplies}

-- ---- two sides

same_or_not : (s t : Bool) → (s ≡ t) ⊎ (s ≡ not t)
same_or_not true true = inl refl
same_or_not true false = inr refl
same_or_not false true = inr refl
same_or_not false false = inl refl

twice : (s : Bool) → not (not s) ≡ s
twice true = refl
twice false = refl

-- ---- a port with a header in its lists is of a link that has one

abbrev end_by : Bool → LinkEnds → PortKey
end_by true z = z.output
end_by false z = z.input

abbrev HasHeader : List HeaderRecord → PortKey → Type 0
HasHeader hs key = (is_empty ((seen hs).done key) ≡ false) ⊎ (is_empty ((seen hs).todo key) ≡ false)

some_made : (z : LinkEnds) (hs : List HeaderRecord) (s : Bool) → HasHeader hs (end_by s z) → 0 < headers_of (link_view z hs)
some_made z hs true (inl e) =
    let d = not_empty ((seen hs).done z.output) e in
    let a = length-append (map (filled z.unit hs) (z.draining ++ (seen hs).todo z.input)) (map (filled z.unit hs) ((seen hs).done z.output)) in
    let b = length-map ((seen hs).done z.output) (filled z.unit hs) in
    let c = ap length d.2 in
    omega (arith, a, b, c)
some_made z hs true (inr e) = let d = not_empty ((seen hs).todo z.output) e in let c = ap length d.2 in omega (arith, c)
some_made z hs false (inl e) = let d = not_empty ((seen hs).done z.input) e in let c = ap length d.2 in omega (arith, c)
some_made z hs false (inr e) =
    let d = not_empty ((seen hs).todo z.input) e in
    let a = length-append (map (filled z.unit hs) (z.draining ++ (seen hs).todo z.input)) (map (filled z.unit hs) ((seen hs).done z.output)) in
    let b = length-map (z.draining ++ (seen hs).todo z.input) (filled z.unit hs) in
    let f = length-append z.draining ((seen hs).todo z.input) in
    let c = ap length d.2 in
    omega (arith, a, b, c, f)

-- ---- a port of a component

-- the end of a link that supplies it, and the other one
pub record IsHomeEnd (x : PlayCast) (c port : ℕ) : Type 0 where
  pub link : ℕ
  pub below : link < links_of x.cast
  pub its : supplier (x.cast).layout link ≡ c
  pub number : port ≡ (home_at x.cast link).port

pub record IsAwayEnd (x : PlayCast) (c port : ℕ) : Type 0 where
  pub link : ℕ
  pub below : link < links_of x.cast
  pub its : other_component (x.cast).layout link ≡ c
  pub number : port ≡ (away_at x.cast link).port

module _ (x : PlayCast) (recent : ℕ) (p : Play) (w : World) (W : IsPlayWorld x recent p w) (c : ℕ) (b : c < components_of x.cast) (a : Component) (e : slice_get w.components (script_place x.cast c) ≡ Some a) (A : IsActorAt x recent p w c a) (port : ℕ) (y : Port) (f : port_of a port ≡ Some y) where
  -- it is an end of a link
  abbrev P : IsPortAt x p c y
  P = port_end x recent p w W c a b e A port y f

  abbrev l : ℕ
  l = P.link

  abbrev by : Bool
  by = ((x.cast).layout).by_output l

  abbrev peer : PortKey
  peer = end_of_link x.cast (not P.side) l

  port_is : port ≡ (end_of_link x.cast P.side l).port
  port_is = ap (λ (z : PortKey). z.port) (sym (port_parts a port y f).key ∙ (P.end).key)

  -- with its tunnel the supplier's end supplies, and the other doesn't
  joined_side : is_joined_at (p.change l).step ≡ true → is_supplier y ≡ is_supplied_by (not P.side) (link_to x.cast l peer)
  joined_side j = supplies x recent p w W l j P.side y (end_of_link x.cast P.side l) peer P.end

  supplier_joined : is_supplier y ≡ true → is_joined_at (p.change l).step ≡ true
  supplier_joined h = either (is_joined_at (p.change l).step) (λ t. t) (λ t.
      let none : y.state.link ≡ None = ap (λ (s : PortState). s.link) (P.end).state ∙ ap (λ (o : Bool). if o then Some (link_to x.cast l peer) else None) t in
      let z : false ≡ true = rw none at h in
      absurd cc)

  home_by_side : P.side ≡ by → IsHomeEnd x c port
  home_by_side s = record {
    link = l;
    below = P.below;
    its = supplier_is (x.cast).layout l ∙ (ap (λ (o : Bool). component_at (x.cast).layout o l) (sym s) ∙ P.of_link);
    number = port_is ∙ (ap (λ (o : Bool). (end_of_link x.cast o l).port) s ∙ ap (λ (k : PortKey). k.port) (sym (home_is x.cast l)));
  }

  away_by_side : P.side ≡ not by → IsAwayEnd x c port
  away_by_side s = record {
    link = l;
    below = P.below;
    its = other_is (x.cast).layout l ∙ (ap (λ (o : Bool). component_at (x.cast).layout o l) (sym s) ∙ P.of_link);
    number = port_is ∙ (ap (λ (o : Bool). (end_of_link x.cast o l).port) s ∙ ap (λ (k : PortKey). k.port) (sym (away_is x.cast l)));
  }

  pub home_end : is_supplier y ≡ true → IsHomeEnd x c port
  home_end h = elim (same_or_not P.side by) [
    | inl s ↦ home_by_side s
    | inr s ↦
        let q : is_supplied_by (not P.side) (link_to x.cast l peer) ≡ false = ap (λ (o : Bool). is_supplied_by o (link_to x.cast l peer)) (ap not s ∙ twice by) ∙ (home_supplies x.cast l peer).1 in
        let z : true ≡ false = sym h ∙ (joined_side (supplier_joined h) ∙ q) in
        absurd cc
  ]

  -- ---- where nothing was against the act

  pub supply_end : supply_idle (look w) a y ≡ None → IsHomeEnd x c port
  supply_end h = home_end (not_not (is_supplier y) (passed (not (is_supplier y)) _ _ h).0)

  pub release_end : release_idle (look w) a y ≡ None → IsHomeEnd x c port
  release_end h = home_end (not_not (is_supplier y) (passed (not (is_supplier y)) _ _ h).0)

  pub over_end : over_idle (look w) a y ≡ None → IsHomeEnd x c port
  over_end h = home_end (not_not (is_supplier y) (passed (not (is_supplier y)) _ _ h).0)

  -- the link has a header, so it has its tunnel
  joined_lists : HasHeader w.headers y.key → is_joined_at (p.change l).step ≡ true
  joined_lists h =
      let z : LinkEnds = ends_of x.cast (work_in w.components) p l in
      let key : end_by P.side z ≡ y.key = ends P.side ∙ sym (P.end).key in
      let some : 0 < headers_of (link_view z w.headers) = some_made z w.headers P.side (subst (λ (k : PortKey). HasHeader w.headers k) (sym key) h) in
      let same : made p l ≡ headers_of (link_view z w.headers) = ap headers_of (W.viewed l P.below) in
      joined_made x recent p w l W P.below (omega (arith, some, same))
    where
      ends : (s : Bool) → end_by s (ends_of x.cast (work_in w.components) p l) ≡ end_of_link x.cast s l
      ends true = refl
      ends false = refl

  pub back_end : back_idle (look w) a y ≡ None → IsAwayEnd x c port
  back_end h =
      let s = passed (is_supplier y) _ _ h in
      let r = passed (not (returning a y) && not (is_executing a.state)) _ _ s.1 in
      let t : (is_empty ((seen w.headers).done y.key) && (not (returning a y) || is_empty ((seen w.headers).todo y.key))) ≡ false = (passed (is_empty ((seen w.headers).done y.key) && (not (returning a y) || is_empty ((seen w.headers).todo y.key))) _ _ r.1).0 in
      let lists : HasHeader w.headers y.key = either (is_empty ((seen w.headers).done y.key))
      (λ u. inr (not_either (not (returning a y)) (is_empty ((seen w.headers).todo y.key)) (rw u at t)).1)
      (λ u. inl u)
      in
      elim (same_or_not P.side by) [
        | inr n ↦ away_by_side n
        | inl n ↦
            let q : is_supplied_by (not P.side) (link_to x.cast l peer) ≡ true = ap (λ (o : Bool). is_supplied_by (not o) (link_to x.cast l peer)) n ∙ (home_supplies x.cast l peer).0 in
            let z : false ≡ true = sym s.0 ∙ (joined_side (joined_lists lists) ∙ q) in
            absurd cc
      ]
