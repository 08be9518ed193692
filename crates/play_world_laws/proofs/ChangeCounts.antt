-- How many headers a link has that isn't without its tunnel.
use Rattle.std.proofs.Common.{◌≡◌, ℕ, ◌<◌, Bool, true, false, if◌then◌else◌, slice_get, Some, None, refl, sym, ◌∙◌, ap}
use Rattle.il_machine.specs.declared.port.PortState.{PortState}
use Rattle.il_machine.specs.Headers.{is_for, seen}
use Rattle.il_machine.specs.Sound.{port_at}
use Rattle.il_machine.specs.World.{Component, World, number_of}
use Rattle.machine_laws.proofs.Lookups.{port_at_is}
use Rattle.machine_laws.proofs.Parts.{parts_of, ports_in_list}
use Rattle.play_model.specs.Network.{headers_of}
use Rattle.play_model.specs.Play.{Play, component_at, made}
use Rattle.play_world_laws.specs.Tunnel.{IsTunnel, IsWorkedAt}
use Rattle.play_world_laws.proofs.Counts.{made_for_link, to_input, to_output}
use Rattle.play_world_laws.specs.Cast.{giver_of, input_at, links_of, output_at, script_place, supplier_of, taker_of}
use Rattle.play_world_laws.specs.Wiring.{ends_of, link_to, work_in}
use Rattle.play_world_laws.proofs.Counting.{count_same, same_tests}
use Rattle.play_world_laws.specs.Changing.{is_joined_at}
use Rattle.play_world_laws.specs.PlayWorlds.{IsPlayWorld, PlayCast, end_of_link}
use Rattle.play_world_laws.proofs.ChangeEnds.{HasEnd, actor_there, end_inside, end_there}

module _ (x : PlayCast) (recent : ℕ) (p : Play) (w : World) (W : IsPlayWorld x recent p w) (l : ℕ) (b : l < links_of x.cast) where
  -- the component at an end, and its port
  pub record IsSide (o : Bool) : Type 0 where
    pub component : Component
    pub there : slice_get w.components (script_place x.cast (component_at (x.cast).layout o l)) ≡ Some component
    pub number : number_of component ≡ script_place x.cast (component_at (x.cast).layout o l)
    pub end : HasEnd x p l o component

  side : (o : Bool) → IsSide o
  side o =
      let a = actor_there x recent p w (component_at (x.cast).layout o l) W (end_inside x recent p w W o l b) in
      record { component = a.0; there = a.1; number = (a.2).number; end = end_there x recent p w W o l (component_at (x.cast).layout o l) a.0 b refl a.1 }

  pub port_at_output : (S : IsSide true) → port_at (output_at x.cast l) w.components ≡ Some (S.end).port
  port_at_output S = port_at_is w.numbered (script_place x.cast (giver_of x.cast l)) (output_at x.cast l) w.components S.component (W.sound).rising S.there S.number ∙ (S.end).there

  pub port_at_input : (S : IsSide false) → port_at (input_at x.cast l) w.components ≡ Some (S.end).port
  port_at_input S = port_at_is w.numbered (script_place x.cast (taker_of x.cast l)) (input_at x.cast l) w.components S.component (W.sound).rising S.there S.number ∙ (S.end).there

  worked_output : IsWorkedAt w.components (output_at x.cast l) (work_in w.components (output_at x.cast l))
  worked_output = let S = side true in record { place = script_place x.cast (giver_of x.cast l); component = S.component; there = S.there; named = S.number; numbers = let e = S.there in rw e refl }

  worked_input : IsWorkedAt w.components (input_at x.cast l) (work_in w.components (input_at x.cast l))
  worked_input = let S = side false in record { place = script_place x.cast (taker_of x.cast l); component = S.component; there = S.there; named = S.number; numbers = let e = S.there in rw e refl }

  module _ (joined : is_joined_at (p.change l).step ≡ true) where
    pub tunnel : IsTunnel (ports_in_list w.components) (output_at x.cast l) (input_at x.cast l) (supplier_of x.cast l)
    tunnel =
        let O = side true in
        let I = side false in
        record {
          one = (O.end).port;
          other = (I.end).port;
          at_one = port_at_output O;
          at_other = port_at_input I;
          on = ap (λ (s : PortState). s.link) ((O.end).end).state ∙ ap (λ (t : Bool). if t then Some (link_to x.cast l (input_at x.cast l)) else None) joined;
          back = ap (λ (s : PortState). s.link) ((I.end).end).state ∙ ap (λ (t : Bool). if t then Some (link_to x.cast l (output_at x.cast l)) else None) joined;
          apart = (W.wired l b).apart;
        }

    pub made_output : (seen w.headers).count (is_for (output_at x.cast l)) ≡ made p l
    made_output = made_for_link w (ends_of x.cast (work_in w.components) p l) (supplier_of x.cast l) W.sound tunnel worked_output worked_input ∙ ap headers_of (sym (W.viewed l b))

    pub made_input : (seen w.headers).count (is_for (input_at x.cast l)) ≡ made p l
    made_input =
        let P = parts_of w W.sound in
        let T = tunnel in
        let ports = ports_in_list w.components in
        count_same (is_for (input_at x.cast l)) (is_for (output_at x.cast l)) w.headers P.once (λ n r f.
        let S = P.tied.placed n r f in
        same_tests (is_for (input_at x.cast l) r.state) (is_for (output_at x.cast l) r.state)
        (λ t. to_output ports w.headers (output_at x.cast l) (input_at x.cast l) (supplier_of x.cast l) P.tied T r.state S t)
        (λ t. to_input ports w.headers (output_at x.cast l) (input_at x.cast l) (supplier_of x.cast l) P.tied T r.state S t))
        ∙ made_output

    pub made_at_end : (o : Bool) → (seen w.headers).count (is_for (end_of_link x.cast o l)) ≡ made p l
    made_at_end true = made_output
    made_at_end false = made_input
