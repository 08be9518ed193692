-- supply: exactly where the model can.
use Rattle.std.proofs.Common.{◌≡◌, ℕ, ◌<◌, Bool, true, false, not, if◌then◌else◌, Option, Some, None, Result, Ok, refl, sym, ◌∙◌, ap, subst}
use Rattle.omx_types.specs.declared.error.CallError.{CallError}
use Rattle.omx_types.specs.declared.error.CallError.TheVariants.{Omx}
use Rattle.omx_types.specs.declared.handle.Handle.{Handle}
use Rattle.il_machine.specs.declared.answer.Acted.{Acted}
use Rattle.il_machine.specs.declared.answer.Acted.TheVariants as acted_as
use Rattle.il_machine.specs.declared.answer.Why.{Why}
use Rattle.il_machine.specs.declared.answer.Why.TheVariants as why
use Rattle.il_machine.specs.declared.port.Port.{Port}
use Rattle.il_machine.specs.declared.port.PortKey.{PortKey}
use Rattle.il_machine.specs.declared.port.PortState.{PortState}
use Rattle.il_machine.specs.Answers.{Acts}
use Rattle.il_machine.specs.Buffers.{has_no_block, has_no_number}
use Rattle.il_machine.specs.Due.{ClosesTo}
use Rattle.il_machine.specs.Flow.{End, Supply, end_of, other_end, supply_idle, with_supplied}
use Rattle.il_machine.specs.Look.{Look, look}
use Rattle.il_machine.specs.Ports.{accepting, id_of, is_supplier}
use Rattle.il_machine.specs.Sound.{Sound}
use Rattle.il_machine.specs.World.{Component, World, port_of}
use Rattle.machine_laws.proofs.Accepting.{not_not, passed}
use Rattle.machine_laws.proofs.Finding.{either}
use Rattle.machine_laws.proofs.Flowing.{sound_supplied}
use Rattle.play_model.specs.Acts.{Act, ArePorts, CanAct, acted}
use Rattle.play_model.specs.Changes.{IsEnabledPort, port_at}
use Rattle.play_model.specs.Play.{IsAccepting, Play, component_at, supplier}
use Rattle.play_world_laws.specs.Cast.{home_at, input_at, links_of, output_at, script_place}
use Rattle.play_world_laws.specs.Wiring.{link_to}
use Rattle.play_world_laws.specs.Worlds.{Names}
use Rattle.play_world_laws.proofs.Ends.{place_there}
use Rattle.play_world_laws.proofs.Lists.{resolved_port}
use Rattle.play_world_laws.specs.Changing.{is_joined_at}
use Rattle.play_world_laws.specs.PlayWorlds.{IsPlayWorld, PlayCast, end_of_link, port_number}
use Rattle.play_world_laws.specs.Leading.{PlayLeadsTo}
use Rattle.play_world_laws.proofs.Sides.{IsSide, home_is, home_supplies, link_of, other_is, side, supplier_is, supplies}
use Rattle.play_world_laws.proofs.Accepting.{side_accepts, side_back}
use Rattle.play_world_laws.proofs.LinkCounts.{blocks, numbered}
use Rattle.play_world_laws.proofs.Making.{by_either, enabled_joined, supplied_is}

-- ---- tests of plain values

five_false : {E : Type 0} (a b c d e : Bool) (f g h i j : E) → a ≡ false → b ≡ false → c ≡ false → d ≡ false → e ≡ false
    → (if a then Some f else (if b then Some g else (if c then Some h else (if d then Some i else (if e then Some j else None))))) ≡ None
five_false a b c d e f g h i j k l m n o = rw (k, l, m, n, o) refl

supply_none : (k : Look) (a : Component) (q : Port) (e : End) → is_supplier q ≡ true → accepting k.headers a q ≡ true → other_end k.components q ≡ Some e → accepting k.headers e.component e.port ≡ true → has_no_block k.headers ≡ false → has_no_number k ≡ false
    → supply_idle k a q ≡ None
supply_none k a q e s t o u b n = rw o (five_false (not (is_supplier q)) (not (accepting k.headers a q)) (not (accepting k.headers e.component e.port)) (has_no_block k.headers) (has_no_number k) why.NotSupplier (why.NotAccepting (id_of a q)) (why.NotAccepting (id_of e.component e.port)) why.NoBlock why.NoNumber (ap not s) (ap not t) (ap not u) b n)

supply_some : (k : Look) (a : Component) (q : Port) (e : End) → other_end k.components q ≡ Some e → supply_idle k a q ≡ None → (accepting k.headers a q ≡ true) × (accepting k.headers e.component e.port ≡ true)
supply_some k a q e o h =
    let g = rw o at h in
    let a1 = passed (not (is_supplier q)) _ _ g in
    let a2 = passed (not (accepting k.headers a q)) _ _ a1.1 in
    let a3 = passed (not (accepting k.headers e.component e.port)) _ _ a2.1 in
    (not_not (accepting k.headers a q) a2.0, not_not (accepting k.headers e.component e.port) a3.0)

made_so : (o : Option Why) (result : Result Acted CallError) (w u v : World) → o ≡ None → Acts o result w u v → (result ≡ Ok acted_as.Did) × ClosesTo u v
made_so (Some y) result w u v n h = absurd cc
made_so None result w u v n h = h

made_none : (o : Option Why) (result : Result Acted CallError) (w u v : World) → Acts o result w u v → result ≡ Ok acted_as.Did → o ≡ None
made_none None result w u v h e = refl
made_none (Some y) result w u v h e = let idle = h.0 in absurd cc

both_enabled : (p : Play) (l : ℕ) (s : Bool) → IsEnabledPort (port_at s (p.change l)) → IsEnabledPort (port_at (not s) (p.change l)) → ArePorts IsEnabledPort (p.change l)
both_enabled p l true a b = (a, b)
both_enabled p l false a b = (b, a)

enabled_of : (p : Play) (l : ℕ) (s : Bool) → ArePorts IsEnabledPort (p.change l) → IsEnabledPort (port_at s (p.change l))
enabled_of p l true h = h.0
enabled_of p l false h = h.1

-- ---- the two sides of the link

module _ (x : PlayCast) (recent : ℕ) (p : Play) (w : World) (W : IsPlayWorld x recent p w) (l : ℕ) (b : l < links_of x.cast) where
  abbrev by : Bool
  by = ((x.cast).layout).by_output l

  abbrev pub home : IsSide x recent p w l by
  home = side x recent p w W l by b

  abbrev away : IsSide x recent p w l (not by)
  away = side x recent p w W l (not by) b

  abbrev y : Port
  y = (home.its).port

  -- the component with its port that a side's key names
  found : (o : Bool) (S : IsSide x recent p w l o) → end_of w.components (end_of_link x.cast o l) ≡ Some (record { place = script_place x.cast (component_at (x.cast).layout o l); component = S.component; port = (S.its).port })
  found true S =
      let n = place_there w.numbered (script_place x.cast (component_at (x.cast).layout true l)) ((output_at x.cast l).component) w.components S.component (W.sound).rising S.there ((S.actor).number) in
      rw (n, S.there, (S.its).there) refl
  found false S =
      let n = place_there w.numbered (script_place x.cast (component_at (x.cast).layout false l)) ((input_at x.cast l).component) w.components S.component (W.sound).rising S.there ((S.actor).number) in
      rw (n, S.there, (S.its).there) refl

  supplier_joined : is_supplier y ≡ true → is_joined_at (p.change l).step ≡ true
  supplier_joined h = either (is_joined_at (p.change l).step) (λ t. t) (λ f.
      let none : y.state.link ≡ None = ap (λ (t : PortState). t.link) ((home.its).end).state ∙ ap (λ (t : Bool). if t then Some (link_to x.cast l (end_of_link x.cast (not by) l)) else None) f in
      let z : false ≡ true = rw none at h in
      absurd cc)

  module _ (joined : is_joined_at (p.change l).step ≡ true) where
    pub link_there : y.state.link ≡ Some (link_to x.cast l (end_of_link x.cast (not by) l))
    link_there = link_of x recent p w W l joined by y (end_of_link x.cast by l) (end_of_link x.cast (not by) l) (home.its).end

    other_found : other_end w.components y ≡ Some (record { place = script_place x.cast (component_at (x.cast).layout (not by) l); component = away.component; port = (away.its).port })
    other_found = let s = link_there in rw s (found (not by) away)

    its_supplier : is_supplier y ≡ true
    its_supplier = supplies x recent p w W l joined by y (end_of_link x.cast by l) (end_of_link x.cast (not by) l) (home.its).end ∙ (home_supplies x.cast l (end_of_link x.cast (not by) l)).0

  pub supply_goes : CanAct (x.cast).layout p (Act.Supply l) → supply_idle (look w) home.component y ≡ None
  supply_goes C =
      let joined = enabled_joined (p.change l) ((W.reached).changes l b).order (C.4).0 (C.4).1 in
      let R : IsAccepting p (component_at (x.cast).layout by l) = subst (λ (c : ℕ). IsAccepting p c) (supplier_is (x.cast).layout l) C.1 in
      let S : IsAccepting p (component_at (x.cast).layout (not by) l) = subst (λ (c : ℕ). IsAccepting p c) (other_is (x.cast).layout l) C.2 in
      let one = side_accepts x recent p w W l b joined by home R C.3 (enabled_of p l by C.4) in
      let two = side_accepts x recent p w W l b joined (not by) away S C.3 (enabled_of p l (not by) C.4) in
      supply_none (look w) home.component y (record { place = script_place x.cast (component_at (x.cast).layout (not by) l); component = away.component; port = (away.its).port })
      (its_supplier joined) one (other_found joined) two (blocks x recent p w W l b C.3) (numbered x recent p w W)

  pub supply_passes : supply_idle (look w) home.component y ≡ None → CanAct (x.cast).layout p (Act.Supply l)
  supply_passes h =
      let first = passed (not (is_supplier y)) _ _ h in
      let joined = supplier_joined (not_not (is_supplier y) first.0) in
      let f = supply_some (look w) home.component y (record { place = script_place x.cast (component_at (x.cast).layout (not by) l); component = away.component; port = (away.its).port }) (other_found joined) h in
      let one = side_back x recent p w W l b joined by home f.0 in
      let two = side_back x recent p w W l b joined (not by) away f.1 in (
        b,
        subst (λ (c : ℕ). IsAccepting p c) (sym (supplier_is (x.cast).layout l)) one.0,
        subst (λ (c : ℕ). IsAccepting p c) (sym (other_is (x.cast).layout l)) two.0,
        one.1,
        both_enabled p l by one.2 two.2,
      )

-- ---- the call

supply_acts : (x : PlayCast) (recent : ℕ) (p : Play) (w : World) (l : ℕ) (h : Handle) (result : Result Acted CallError) (v : World) (W : IsPlayWorld x recent p w) (b : l < links_of x.cast) → Names x.cast w (supplier (x.cast).layout l) h → Supply w h (home_at x.cast l).port result v
    → Acts (supply_idle (look w) (home x recent p w W l b).component ((home x recent p w W l b).its).port) result w (with_supplied ((home x recent p w W l b).its).port w) v
supply_acts x recent p w l h result v W b N s =
    let by : Bool = ((x.cast).layout).by_output l in
    let A = home x recent p w W l b in
    let M : Names x.cast w (component_at (x.cast).layout by l) h = subst (λ (c : ℕ). Names x.cast w c h) (supplier_is (x.cast).layout l) N in
    let port : (home_at x.cast l).port ≡ port_number x.cast by l = ap (λ (k : PortKey). k.port) (home_is x.cast l) ∙ its_port by in
    let there : port_of A.component (home_at x.cast l).port ≡ Some (A.its).port = ap (port_of A.component) port ∙ (A.its).there in
    resolved_port Omx w h (home_at x.cast l).port result v (λ i c q. Acts (supply_idle (look w) c q) result w (with_supplied q w) v) (script_place x.cast (component_at (x.cast).layout by l)) A.component (A.its).port M A.there there s
  where
    its_port : (s : Bool) → (end_of_link x.cast s l).port ≡ port_number x.cast s l
    its_port true = refl
    its_port false = refl

pub supply_leads : (x : PlayCast) (recent : ℕ) (p : Play) (w : World) (l : ℕ) (h : Handle) (result : Result Acted CallError) (v : World) → IsPlayWorld x recent p w → CanAct (x.cast).layout p (Act.Supply l)
    → Names x.cast w (supplier (x.cast).layout l) h → Supply w h (home_at x.cast l).port result v → (result ≡ Ok acted_as.Did) × PlayLeadsTo x recent (acted (x.cast).layout (Act.Supply l) p) v
supply_leads x recent p w l h result v W C N s =
    let b = C.0 in
    let by : Bool = ((x.cast).layout).by_output l in
    let A = home x recent p w W l b in
    let q : Port = (A.its).port in
    let joined = enabled_joined (p.change l) ((W.reached).changes l b).order (C.4).0 (C.4).1 in
    let is = supplied_is w q (link_to x.cast l (end_of_link x.cast (not by) l)) (link_there x recent p w W l b joined) in
    let goes = supply_goes x recent p w W l b C in
    let T = sound_supplied w (script_place x.cast (component_at (x.cast).layout by l)) A.component (port_number x.cast by l) q W.sound A.there (A.its).there goes in
    let P = by_either x recent p w W l b C q by refl ((A.its).end).key ((A.its).end).direction ((A.its).end).size (subst Sound is T) in
    let t = made_so (supply_idle (look w) A.component q) result w (with_supplied q w) v goes (supply_acts x recent p w l h result v W b N s) in
    (t.0, record { effect = with_supplied q w; play = subst (λ (u : World). IsPlayWorld x recent (acted (x.cast).layout (Act.Supply l) p) u) (sym is) P; closes = t.1 })

pub supply_can : (x : PlayCast) (recent : ℕ) (p : Play) (w : World) (l : ℕ) (h : Handle) (result : Result Acted CallError) (v : World) → IsPlayWorld x recent p w → l < links_of x.cast → Names x.cast w (supplier (x.cast).layout l) h
    → Supply w h (home_at x.cast l).port result v → result ≡ Ok acted_as.Did → CanAct (x.cast).layout p (Act.Supply l)
supply_can x recent p w l h result v W b N s d =
    let A = home x recent p w W l b in
    supply_passes x recent p w W l b (made_none (supply_idle (look w) A.component (A.its).port) result w (with_supplied (A.its).port w) v (supply_acts x recent p w l h result v W b N s) d)
