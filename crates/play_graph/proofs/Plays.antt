-- The worlds of a play in which each late source's link has its tunnel can be stopped, and so can what a work that came back left of one.
use Rattle.std.proofs.Common.{◌≡◌, inl, inr, ℕ, zero, suc, ◌<◌, ◌≤◌, Bool, true, false, not, if◌then◌else◌, length, slice_get, Some, None, refl, sym, ◌∙◌, ap, subst, arith}
use Rattle.std.proofs.lemmas.Option.{slice_get-get_or, slice_get_within}
use Rattle.il_machine.specs.declared.answer.Pending.{Pending}
use Rattle.il_machine.specs.declared.port.Link.{Link}
use Rattle.il_machine.specs.declared.port.PortKey.{PortKey}
use Rattle.il_machine.specs.declared.port.PortState.{PortState}
use Rattle.il_machine.specs.Finishing.{Finish}
use Rattle.il_machine.specs.Sound.{Sound}
use Rattle.il_machine.specs.States.{is_invalid}
use Rattle.il_machine.specs.Stepping.{WorkDone}
use Rattle.il_machine.specs.World.{Component, World, number_of}
use Rattle.machine_laws.proofs.Every.{at_place, from_places}
use Rattle.machine_laws.proofs.Finding.{either}
use Rattle.machine_laws.proofs.Lookups.{port_parts}
use Rattle.play_build_laws.specs.Dismantling.{IsSomeEnd}
use Rattle.play_build_laws.specs.Halting.{HasLinks, HasTunnelEnd, IsValid}
use Rattle.play_build_laws.proofs.Failing.{still_there}
use Rattle.play_forms.specs.Flows.{no_flow}
use Rattle.play_forms.specs.Plans.{PlanValue}
use Rattle.play_forms.specs.Plans as plans
use Rattle.play_model.specs.Progress.{sum_to}
use Rattle.play_model.specs.Play.{Play, component_at}
use Rattle.play_world_laws.specs.Cast.{components_of, script_place}
use Rattle.play_world_laws.specs.Standing.{pending_at, target}
use Rattle.play_world_laws.specs.Wiring.{link_to}
use Rattle.play_world_laws.proofs.Returns.{state_valid}
use Rattle.play_world_laws.proofs.Rooms.{port_of_state}
use Rattle.play_world_laws.proofs.Sends.{never_invalid}
use Rattle.play_plan_laws.specs.Casting.{IsLinkCast, flow_of, joint_of, no_joint}
use Rattle.play_plan_laws.proofs.Casts.{plan_has_cast}
use Rattle.play_world_laws.specs.Changing.{is_joined_at}
use Rattle.play_world_laws.specs.PlayWorlds.{IsPlayWorld, PlayCast, end_of_link, port_number}
use Rattle.play_world_laws.proofs.ChangeEnds as ends
use Rattle.play_world_laws.proofs.Standing.{pending_is, state_is}
use Rattle.play_plan_laws.specs.Assemblies.{play_cast_of}
use Rattle.play_plan_laws.specs.Endings.{ends_of}
use Rattle.play_graph.specs.Stops.{HaveTunnels, HasNoneOut, HasStopped}

pending_valid : (phase stage : ℕ) (q : Pending) → pending_at phase stage ≡ Some q → is_invalid q.target ≡ false
pending_valid phase zero q e = absurd cc
pending_valid phase (suc zero) q e = absurd cc
pending_valid phase (suc (suc zero)) q e =
    let s : Some (record { target = target phase; cause = _ }) ≡ Some q = e in
    let is : target phase ≡ q.target = cc in
    ap is_invalid (sym is) ∙ never_invalid (suc phase)
pending_valid phase (suc (suc (suc n))) q e = absurd cc

sum_least : (n : ℕ) (f : ℕ → ℕ) → ((k : ℕ) → k < n → 0 < f k) → n ≤ sum_to n f
sum_least zero f h = omega arith
sum_least (suc n) f h = let a = sum_least n f (λ k b. h k (omega arith)) in let b = h n (omega arith) in omega arith

not_twice : (b : Bool) → not (not b) ≡ b
not_twice true = refl
not_twice false = refl

-- ---- a world in which each link has its tunnel

module _ (plan : PlanValue) (V : plans.IsValid plan) (recent : ℕ) (p : Play) (w : World) (W : IsPlayWorld (play_cast_of plan) recent p w) where
  abbrev x : PlayCast
  x = play_cast_of plan

  abbrev joints : ℕ
  joints = length plan.joints

  -- a link has a header, so there are few links
  pub few_joints : joints ≤ 1024
  few_joints =
      let C = W.cast_is in
      let n = sum_least joints ((x.cast).layout.network).count (λ k b. C.layout.network.count k b) in
      let m = C.few in
      omega arith

  link_is : (l : ℕ) → l < joints → IsLinkCast plan x.cast l (joint_of plan l) (flow_of plan l)
  link_is l b =
      let n = V.flows in
      (plan_has_cast plan (λ k. false) V).joints l (joint_of plan l) (flow_of plan l) (slice_get-get_or plan.joints l no_joint b) (slice_get-get_or plan.flows l no_flow (omega arith))

  -- the end of the link that is its input, or not
  side_is : (side : Bool) (l : ℕ) → l < joints → end_of_link x.cast (not side) l ≡ ends_of plan side l
  side_is false l b = let J = link_is l b in let e = J.giver in let f = J.output in λ i. record { component = e i; port = f i }
  side_is true l b = let J = link_is l b in let e = J.taker in let f = J.input in λ i. record { component = e i; port = f i }

  placed : (side : Bool) (l : ℕ) → l < joints → script_place x.cast (component_at (x.cast).layout (not side) l) ≡ (ends_of plan side l).component
  placed false l b = ap (λ (k : PortKey). k.component) (side_is false l b)
  placed true l b = ap (λ (k : PortKey). k.component) (side_is true l b)

  indexed : (side : Bool) (l : ℕ) → l < joints → (ends_of plan side l).port ≡ port_number x.cast (not side) l
  indexed false l b = ap (λ (k : PortKey). k.port) (sym (side_is false l b))
  indexed true l b = ap (λ (k : PortKey). k.port) (sym (side_is true l b))

  end_inside : (side : Bool) (l : ℕ) → l < joints → (ends_of plan side l).component < length w.components
  end_inside side l b =
      let m = W.many in
      let z = (W.cast_is).placed (component_at (x.cast).layout (not side) l) (ends.end_inside x recent p w W (not side) l b) in
      let e = placed side l b in
      omega arith

  -- ---- components

  module _ (i : ℕ) (a : Component) (e : slice_get w.components i ≡ Some a) where
    turn : (c : ℕ) × (c < components_of x.cast) × (script_place x.cast c ≡ i)
    turn = (W.cast_is).each i (let m = W.many in let b = slice_get_within w.components i a e in omega arith)

    there : slice_get w.components (script_place x.cast turn.0) ≡ Some a
    there = subst (λ (n : ℕ). slice_get w.components n ≡ Some a) (sym turn.2) e

    number : number_of a ≡ i
    number = (W.actors turn.0 a turn.1 there).number ∙ turn.2

    valid : IsValid a
    valid =
        let A = W.actors turn.0 a turn.1 there in
        record {
          state = ap is_invalid (state_is x recent p w turn.0 a A) ∙ state_valid p.phase (p.stage turn.0);
          pending = λ q f. pending_valid p.phase (p.stage turn.0) q (sym (pending_is x recent p w turn.0 a A) ∙ f);
        }

    end_at : (port : ℕ) (s : PortState) → slice_get a.ports port ≡ Some s → IsSomeEnd (ends_of plan) 0 joints (record { component = i; port = port })
    end_at port s f =
        let q = port_of_state w i port a s W.sound e f in
        let E = W.ends i port a q.0 e q.1 in
        let key : (q.0).key ≡ record { component = i; port = port } = (port_parts a port q.0 q.1).key ∙ (λ j. record { component = number j; port = port }) in
        elim E.end [
          | inl h ↦ record { side = false; number = E.link; later = omega arith; below = E.below; is = sym (side_is false E.link E.below) ∙ (sym h ∙ key) }
          | inr h ↦ record { side = true; number = E.link; later = omega arith; below = E.below; is = sym (side_is true E.link E.below) ∙ (sym h ∙ key) }
        ]

  -- ---- links

  module _ (tunnels : HaveTunnels x p) where
    -- that of another source is never changed
    joined : (l : ℕ) → l < joints → is_joined_at (p.change l).step ≡ true
    joined l b = either (((x.cast).layout).is_late l) (λ t. tunnels l b t) (λ f. ap is_joined_at (((W.reached).changes l b).fixed f))

    has_end : (side : Bool) (l : ℕ) (a : Component) → l < joints → slice_get w.components (ends_of plan side l).component ≡ Some a → HasTunnelEnd (ends_of plan) side l a
    has_end side l a b e =
        let o : Bool = not side in
        let c : ℕ = component_at (x.cast).layout o l in
        let E = ends.end_there x recent p w W o l c a b refl (subst (λ (n : ℕ). slice_get w.components n ≡ Some a) (sym (placed side l b)) e) in
        let P = port_parts a (port_number x.cast o l) E.port E.there in
        let index = indexed side l b in
        let link : Link = link_to x.cast l (end_of_link x.cast (not o) l) in
        record {
          joint = record {
            setting = (E.port).setting;
            set = ap (slice_get a.settings.ports) index ∙ P.setting;
            direction = (E.end).direction ∙ not_twice side;
            state = (E.port).state;
            there = ap (slice_get a.ports) index ∙ P.state;
            link = link;
            joined = ap (λ (s : PortState). s.link) (E.end).state ∙ ap (λ (t : Bool). if t then Some link else None) (joined l b);
            peer = side_is (not side) l b;
          };
          supplier = refl;
        }

    has_links : HasLinks (ends_of plan) joints w
    has_links = record { numbered = number; inside = end_inside; joined = has_end; ends = λ i port a s e f. end_at i a e port s f }

    pub play_stops : HasNoneOut w → HasStopped plan 0 w
    play_stops N = record {
      many = W.many;
      linked = record { sound = W.sound; has = has_links; works = N.works; clients = N.clients };
      stopped = record { stopped = λ i a b e. absurd (omega (arith, b)); valid = λ i a b e. (valid i a e).state };
    }

    pub work_stops : (done : WorkDone) (v : World) → Finish w done v → Sound v → HasNoneOut v → HasStopped plan 0 v
    work_stops done v F S N =
        let T = still_there (ends_of plan) joints w v done has_links (from_places IsValid w.components valid) F in
        record {
          many = T.2 ∙ W.many;
          linked = record { sound = S; has = T.0; works = N.works; clients = N.clients };
          stopped = record { stopped = λ i a b e. absurd (omega (arith, b)); valid = λ i a b e. (at_place IsValid v.components i a T.1 e).state };
        }
