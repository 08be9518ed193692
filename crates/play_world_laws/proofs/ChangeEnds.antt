-- The components and ports at the ends of a link of a play; what is at the one port of a late source, and at links that
-- aren't being changed.
use Rattle.std.proofs.Common.{◌≡◌, ◌≢◌, ◌⊎◌, inl, inr, ℕ, zero, suc, ◌<◌, ◌≤◌, Bool, true, false, not, nat_lt, List, slice_get, Some, refl, sym, ◌∙◌, ap, subst, ltb-true, ltb-false, arith}
use Rattle.std.proofs.lemmas.Option.{slice_get_within}
use Rattle.omx_types.specs.declared.kind.Kind.{Kind}
use Rattle.omx_types.specs.declared.kind.Kind.TheVariants as kinds
use Rattle.il_machine.specs.declared.port.Port.{Port}
use Rattle.il_machine.specs.declared.port.PortKey.{PortKey}
use Rattle.il_machine.specs.Kinds.{is_late, is_sink, ports_in}
use Rattle.il_machine.specs.World.{Component, World, port_of}
use Rattle.machine_laws.proofs.Finding.{either}
use Rattle.machine_laws.proofs.Lookups.{port_parts}
use Rattle.machine_laws.proofs.Parts.{parts_of}
use Rattle.play_model.specs.Changes.{Change, IsHalfChanged, IsInOrder, port_at}
use Rattle.play_model.specs.Play.{Play, component_at}
use Rattle.play_world_laws.specs.Cast.{components_of, giver_of, input_at, links_of, output_at, script_place, taker_of}
use Rattle.play_world_laws.specs.Wiring.{port_in}
use Rattle.play_world_laws.proofs.Lists.{get_there}
use Rattle.play_world_laws.specs.PlayWorlds.{IsActorAt, IsEndAt, IsPlayWorld, PlayCast, end_of_link, port_number}
use Rattle.play_world_laws.specs.Changing.{at_links}
use Rattle.play_world_laws.proofs.QueuedLists.{links_one}

pub actor_there : (x : PlayCast) (recent : ℕ) (p : Play) (w : World) (c : ℕ) → IsPlayWorld x recent p w → c < components_of x.cast → (a : Component) × (slice_get w.components (script_place x.cast c) ≡ Some a) × IsActorAt x recent p w c a
actor_there x recent p w c W l =
    let m = W.many in
    let b = (W.cast_is).placed c l in
    let g = get_there w.components (script_place x.cast c) (omega arith) in
    (g.0, g.1, W.actors c g.0 l g.1)

-- ---- the port at an end

pub record HasEnd (x : PlayCast) (p : Play) (l : ℕ) (o : Bool) (a : Component) : Type 0 where
  pub port : Port
  pub there : port_of a (port_number x.cast o l) ≡ Some port
  pub end : IsEndAt x p l o (end_of_link x.cast o l) (end_of_link x.cast (not o) l) port

port_is : (cs : List Component) (key : PortKey) (i n : ℕ) (d : Component) (y : Port) → key.component ≡ i → key.port ≡ n → slice_get cs i ≡ Some d → port_in cs key ≡ Some y → port_of d n ≡ Some y
port_is cs key i n d y e f h g = rw (e, f, h) at g

module _ (x : PlayCast) (recent : ℕ) (p : Play) (w : World) (W : IsPlayWorld x recent p w) where
  pub end_inside : (o : Bool) (l : ℕ) → l < links_of x.cast → component_at (x.cast).layout o l < components_of x.cast
  end_inside true l b = let N = ((W.cast_is).layout).network in let o = N.order l b in let i = N.inside l b in omega arith
  end_inside false l b = (((W.cast_is).layout).network).inside l b

  pub ends_apart : (o : Bool) (l : ℕ) → l < links_of x.cast → component_at (x.cast).layout (not o) l ≢ component_at (x.cast).layout o l
  ends_apart true l b e = let o = (((W.cast_is).layout).network).order l b in omega arith
  ends_apart false l b e = let o = (((W.cast_is).layout).network).order l b in omega arith

  pub end_there : (o : Bool) (l c : ℕ) (a : Component) → l < links_of x.cast → component_at (x.cast).layout o l ≡ c → slice_get w.components (script_place x.cast c) ≡ Some a → HasEnd x p l o a
  end_there true l c a b g e =
      let D = W.wired l b in
      record { port = D.output; there = port_is w.components (output_at x.cast l) (script_place x.cast c) ((x.cast).output_port l) a D.output (ap (λ (k : ℕ). script_place x.cast k) g) refl e D.output_there; end = D.output_end }
  end_there false l c a b g e =
      let D = W.wired l b in
      record { port = D.input; there = port_is w.components (input_at x.cast l) (script_place x.cast c) ((x.cast).input_port l) a D.input (ap (λ (k : ℕ). script_place x.cast k) g) refl e D.input_there; end = D.input_end }

-- ---- each port is an end

pub record IsPortAt (x : PlayCast) (p : Play) (c : ℕ) (y : Port) : Type 0 where
  pub link : ℕ
  pub below : link < links_of x.cast
  pub side : Bool
  pub of_link : component_at (x.cast).layout side link ≡ c
  pub end : IsEndAt x p link side (end_of_link x.cast side link) (end_of_link x.cast (not side) link) y

module _ (x : PlayCast) (recent : ℕ) (p : Play) (w : World) (W : IsPlayWorld x recent p w) (c : ℕ) (a : Component) (b : c < components_of x.cast) (e : slice_get w.components (script_place x.cast c) ≡ Some a) (A : IsActorAt x recent p w c a) where
  at_side : (i : ℕ) (y : Port) (s : Bool) (l : ℕ) → port_of a i ≡ Some y → l < links_of x.cast → component_at (x.cast).layout s l ≡ c → (y.key).port ≡ port_number x.cast s l → IsPortAt x p c y
  at_side i y s l f m g h =
      let E = end_there x recent p w W s l c a m g e in
      let index : i ≡ port_number x.cast s l = sym (ap (λ (z : PortKey). z.port) (port_parts a i y f).key) ∙ h in
      let same : Some E.port ≡ Some y = sym E.there ∙ (ap (port_of a) (sym index) ∙ f) in
      let is : E.port ≡ y = cc in
      record { link = l; below = m; side = s; of_link = g; end = subst (λ (z : Port). IsEndAt x p l s (end_of_link x.cast s l) (end_of_link x.cast (not s) l) z) is E.end }

  pub port_end : (i : ℕ) (y : Port) → port_of a i ≡ Some y → IsPortAt x p c y
  port_end i y f =
      let S = W.ends (script_place x.cast c) i a y e f in
      let l : ℕ = S.link in
      let place : (y.key).component ≡ script_place x.cast c = ap (λ (z : PortKey). z.component) (port_parts a i y f).key ∙ A.number in
      elim S.end [
        | inl h ↦ at_side i y true l f S.below ((W.cast_is).apart (giver_of x.cast l) c (end_inside x recent p w W true l S.below) b (sym (ap (λ (z : PortKey). z.component) h) ∙ place)) (ap (λ (z : PortKey). z.port) h)
        | inr h ↦ at_side i y false l f S.below ((W.cast_is).apart (taker_of x.cast l) c (end_inside x recent p w W false l S.below) b (sym (ap (λ (z : PortKey). z.component) h) ∙ place)) (ap (λ (z : PortKey). z.port) h)
      ]

-- ---- a late source has one port

late_kind : (kind : Kind) → is_late kind ≡ true → kind ≡ kinds.Late
late_kind kinds.Late e = refl
late_kind kinds.Source e = absurd cc
late_kind kinds.Decoder e = absurd cc
late_kind kinds.Alaw e = absurd cc
late_kind kinds.Mulaw e = absurd cc
late_kind kinds.Gain e = absurd cc
late_kind (kinds.Mixer n) e = absurd cc
late_kind (kinds.Splitter n) e = absurd cc
late_kind kinds.Sink e = absurd cc

module _ (x : PlayCast) (recent : ℕ) (p : Play) (w : World) (W : IsPlayWorld x recent p w) (l : ℕ) (b : l < links_of x.cast) (t : ((x.cast).layout).is_late l ≡ true) (c : ℕ) (g : giver_of x.cast l ≡ c) (a : Component)
    (e : slice_get w.components (script_place x.cast c) ≡ Some a) (A : IsActorAt x recent p w c a) where
  pub gives_late : is_late a.settings.kind ≡ true
  gives_late = A.late l (record { below = b; given_by = g }) ∙ t

  pub is_late_source : a.settings.kind ≡ kinds.Late
  is_late_source = late_kind a.settings.kind gives_late

  pub one_port : (i : ℕ) (y : Port) → port_of a i ≡ Some y → i ≡ 0
  one_port i y f =
      let s = slice_get_within a.ports i y.state (port_parts a i y f).state in
      let m = ((parts_of w W.sound).components (script_place x.cast c) a e).ports in
      let n : ports_in a.settings.kind ≡ 1 = ap ports_in is_late_source in
      omega arith

  pub first_port : (x.cast).output_port l ≡ 0
  first_port = let E = end_there x recent p w W true l c a b g e in one_port ((x.cast).output_port l) E.port E.there

  -- its end of this link is its only one
  pub one_end : (s : Bool) (k : ℕ) → k < links_of x.cast → component_at (x.cast).layout s k ≡ c → (k ≡ l) × (s ≡ true)
  one_end true k m h =
      let E = end_there x recent p w W true k c a m h e in
      let z : (x.cast).output_port k ≡ (x.cast).output_port l = one_port ((x.cast).output_port k) E.port E.there ∙ sym first_port in
      let d : giver_of x.cast k ≡ giver_of x.cast l = h ∙ sym g in
      ((W.cast_is).outputs k l m b (λ i. record { component = script_place x.cast (d i); port = z i }), refl)
  one_end false k m h =
      let E = end_there x recent p w W false k c a m h e in
      let z : (x.cast).output_port l ≡ (x.cast).input_port k = first_port ∙ sym (one_port ((x.cast).input_port k) E.port E.there) in
      let d : giver_of x.cast l ≡ taker_of x.cast k = g ∙ sym h in
      absurd ((W.cast_is).beside l k b m (λ i. record { component = script_place x.cast (d i); port = z i }))

  pub source_lists : {B : Type 0} (P : Bool → ℕ → List B) → at_links (x.cast).layout P c (links_of x.cast) ≡ P true l
  source_lists P = links_one (x.cast).layout P c (links_of x.cast) l true b t g (λ h. ends_apart x recent p w W true l b (h ∙ sym g)) (λ s k m n u h. absurd (n (one_end s k m h).0))

  pub no_sink : is_sink a.settings.kind ≡ false
  no_sink = ap is_sink is_late_source

-- ---- a link that isn't half changed

pub unbroken_port : (k : Change) → IsInOrder k → (IsHalfChanged k → ⊥) → (o : Bool) → (port_at o k ≡ 0) ⊎ (port_at o k ≡ 8)
unbroken_port k O n o = elim (few k.step) [
  | inl l ↦ inl (zero_by o l)
  | inr l ↦ inr (eight_by o l)
]
  where
    few : (n : ℕ) → (n ≤ 2) ⊎ (3 ≤ n)
    few zero = inl (omega arith)
    few (suc zero) = inl (omega arith)
    few (suc (suc zero)) = inl (omega arith)
    few (suc (suc (suc n))) = inr (omega arith)

    less : (n : ℕ) → (n < 8) ⊎ (8 ≤ n)
    less n = either (nat_lt n 8) (λ t. inl (ltb-true n 8 t)) (λ f. inr (ltb-false n 8 f))

    zero_by : (o : Bool) → k.step ≤ 2 → port_at o k ≡ 0
    zero_by true l = O.output_unsent l
    zero_by false l = O.input_unsent (omega arith)

    eight_by : (o : Bool) → 3 ≤ k.step → port_at o k ≡ 8
    eight_by true l = elim (less k.output) [ inl s ↦ absurd (n (l, inl s)) | inr s ↦ let m = O.outputs in omega arith ]
    eight_by false l = elim (less k.input) [ inl s ↦ absurd (n (l, inr s)) | inr s ↦ let m = O.inputs in omega arith ]
