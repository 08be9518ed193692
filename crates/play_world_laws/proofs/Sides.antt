-- The two sides of a link of a play that has its tunnel: the one that supplies it, and the other.
use Rattle.std.proofs.Common.{◌≡◌, inl, ℕ, ◌<◌, Bool, true, false, not, nat_le, if◌then◌else◌, slice_get, Some, None, refl, sym, ◌∙◌, ap, leb-false, arith}
use Rattle.il_machine.specs.declared.port.Link.{Link}
use Rattle.il_machine.specs.declared.port.Port.{Port}
use Rattle.il_machine.specs.declared.port.PortKey.{PortKey}
use Rattle.il_machine.specs.declared.port.PortState.{PortState}
use Rattle.il_machine.specs.Ports.{is_supplied_by, is_supplier}
use Rattle.il_machine.specs.World.{Component, World}
use Rattle.machine_laws.proofs.Finding.{either}
use Rattle.play_model.specs.Play.{Layout, Play, component_at, made, other_component, supplier}
use Rattle.play_world_laws.specs.Cast.{Cast, away_at, home_at, home_by, input_at, links_of, output_at, script_place, supplier_by}
use Rattle.play_world_laws.specs.Wiring.{link_to}
use Rattle.play_world_laws.specs.Changing.{is_joined_at}
use Rattle.play_world_laws.specs.PlayWorlds.{IsActorAt, IsEndAt, IsPlayWorld, PlayCast, end_of_link}
use Rattle.play_world_laws.proofs.ChangeEnds.{HasEnd, actor_there, end_inside, end_there}

-- ---- sides by their names

pub supplier_is : (w : Layout) (l : ℕ) → supplier w l ≡ component_at w (w.by_output l) l
supplier_is w l = either (w.by_output l) (λ t. rw t refl) (λ t. rw t refl)

pub other_is : (w : Layout) (l : ℕ) → other_component w l ≡ component_at w (not (w.by_output l)) l
other_is w l = either (w.by_output l) (λ t. rw t refl) (λ t. rw t refl)

pub home_is : (x : Cast) (l : ℕ) → home_at x l ≡ end_of_link x ((x.layout).by_output l) l
home_is x l = by ((x.layout).by_output l)
  where
    by : (s : Bool) → home_by s (output_at x l) (input_at x l) ≡ end_of_link x s l
    by true = refl
    by false = refl

pub away_is : (x : Cast) (l : ℕ) → away_at x l ≡ end_of_link x (not ((x.layout).by_output l)) l
away_is x l = by ((x.layout).by_output l)
  where
    by : (s : Bool) → home_by s (input_at x l) (output_at x l) ≡ end_of_link x (not s) l
    by true = refl
    by false = refl

-- ---- a side

pub record IsSide (x : PlayCast) (recent : ℕ) (p : Play) (w : World) (l : ℕ) (o : Bool) : Type 0 where
  pub component : Component
  pub there : slice_get w.components (script_place x.cast (component_at (x.cast).layout o l)) ≡ Some component
  pub actor : IsActorAt x recent p w (component_at (x.cast).layout o l) component
  pub its : HasEnd x p l o component

pub side : (x : PlayCast) (recent : ℕ) (p : Play) (w : World) (W : IsPlayWorld x recent p w) (l : ℕ) (o : Bool) → l < links_of x.cast → IsSide x recent p w l o
side x recent p w W l o b =
    let a = actor_there x recent p w (component_at (x.cast).layout o l) W (end_inside x recent p w W o l b) in
    record { component = a.0; there = a.1; actor = a.2; its = end_there x recent p w W o l (component_at (x.cast).layout o l) a.0 b refl a.1 }

-- a link with headers has its tunnel
pub joined_made : (x : PlayCast) (recent : ℕ) (p : Play) (w : World) (l : ℕ) → IsPlayWorld x recent p w → l < links_of x.cast → 0 < made p l → is_joined_at (p.change l).step ≡ true
joined_made x recent p w l W b n = either (is_joined_at (p.change l).step) (λ t. t) (λ f. absurd (unmade f))
  where
    unmade : is_joined_at (p.change l).step ≡ false → ⊥
    unmade f =
        let K = (W.reached).changes l b in
        let low : nat_le (p.change l).step 4 ≡ false = either (nat_le (p.change l).step 4) (λ t. let z : true ≡ false = sym (rw t refl) ∙ f in absurd cc) (λ t. t) in
        let five = leb-false (p.change l).step 4 low in
        let high : nat_le 8 (p.change l).step ≡ false = rw low at f in
        let seven = leb-false 8 (p.change l).step high in
        let t = (K.order).told (omega arith) in
        let m = (K.order).output_waits (omega arith) in
        let a = t.0 in
        let e = K.emptied (inl (omega arith, omega arith)) in
        omega arith

module _ (x : PlayCast) (recent : ℕ) (p : Play) (w : World) (W : IsPlayWorld x recent p w) (l : ℕ) (joined : is_joined_at (p.change l).step ≡ true) where
  pub link_of : (o : Bool) (y : Port) (at peer : PortKey) → IsEndAt x p l o at peer y → y.state.link ≡ Some (link_to x.cast l peer)
  link_of o y at peer E = ap (λ (s : PortState). s.link) E.state ∙ ap (λ (t : Bool). if t then Some (link_to x.cast l peer) else None) joined

  -- the side of the supplier supplies it
  pub supplies : (o : Bool) (y : Port) (at peer : PortKey) → IsEndAt x p l o at peer y → is_supplier y ≡ is_supplied_by (not o) (link_to x.cast l peer)
  supplies o y at peer E = let k = link_of o y at peer E in let d = E.direction in rw (k, d) refl

supplies_by : (s : Bool) (link : Link) → link.supplier ≡ supplier_by s → (is_supplied_by (not s) link ≡ true) × (is_supplied_by s link ≡ false)
supplies_by true link e = (rw e refl, rw e refl)
supplies_by false link e = (rw e refl, rw e refl)

pub home_supplies : (x : Cast) (l : ℕ) (peer : PortKey) → (is_supplied_by (not ((x.layout).by_output l)) (link_to x l peer) ≡ true) × (is_supplied_by ((x.layout).by_output l) (link_to x l peer) ≡ false)
home_supplies x l peer = supplies_by ((x.layout).by_output l) (link_to x l peer) refl
