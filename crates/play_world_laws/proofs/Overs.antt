-- hand_over of the front of done.
use Rattle.std.proofs.Common.{◌≡◌, inl, inr, ℕ, zero, suc, ◌<◌, Bool, true, false, not, ◌&&◌, if◌then◌else◌, List, ◌∷◌, Some, None, Result, Ok, refl, sym, ◌∙◌, ap, subst, arith}
use Rattle.omx_types.specs.declared.error.OmxError.{OmxError}
use Rattle.omx_types.specs.declared.handle.Handle.{Handle}
use Rattle.il_machine.specs.declared.answer.Acted.{Acted}
use Rattle.il_machine.specs.declared.answer.Acted.TheVariants as acted_as
use Rattle.il_machine.specs.declared.header.Spot.TheVariants.{TodoBack}
use Rattle.il_machine.specs.declared.port.Port.{Port}
use Rattle.il_machine.specs.declared.port.PortKey.{PortKey}
use Rattle.il_machine.specs.declared.port.PortState.{PortState}
use Rattle.il_machine.specs.Answers.{Acts, plain}
use Rattle.il_machine.specs.Buffers.{is_taking}
use Rattle.il_machine.specs.Flow.{HandOver, end_of, handed_over, is_giving, other_end, over_idle}
use Rattle.il_machine.specs.Headers.{put, seen, unchanged}
use Rattle.il_machine.specs.Lists.{is_empty}
use Rattle.il_machine.specs.Look.{look}
use Rattle.il_machine.specs.Ports.{is_at_rest, is_open, is_steady, is_supplier}
use Rattle.il_machine.specs.Sound.{Sound}
use Rattle.il_machine.specs.States.{is_executing, is_running}
use Rattle.il_machine.specs.World.{Component, World, port_of}
use Rattle.machine_laws.proofs.Accepting.{both_of, not_not, passed}
use Rattle.machine_laws.proofs.Finding.{either}
use Rattle.machine_laws.proofs.Flowing.{sound_handed_over}
use Rattle.play_model.specs.Moves.{moved}
use Rattle.play_model.specs.Network.{LinkState}
use Rattle.play_model.specs.Acts.{Act, ArePorts, CanAct, acted, hand}
use Rattle.play_model.specs.Changes.{IsSteadyPort, port_at}
use Rattle.play_model.specs.Play.{HasDone, IsRunning, Play, component_at, supplier}
use Rattle.play_model.specs.Reached.{IsReached}
use Rattle.play_model.proofs.Handing.{act_reaches}
use Rattle.play_world_laws.specs.Cast.{home_at, home_by, input_at, links_of, output_at, script_place}
use Rattle.play_world_laws.specs.Wiring.{link_to}
use Rattle.play_world_laws.specs.Worlds.{Names}
use Rattle.play_world_laws.proofs.Ends.{place_there}
use Rattle.play_world_laws.proofs.Handing.{by_done, done_by, not_empty}
use Rattle.play_world_laws.proofs.Lists.{resolved_port}
use Rattle.play_world_laws.proofs.Runs.{did, did_none}
use Rattle.play_world_laws.proofs.Terms.{state_running}
use Rattle.play_world_laws.specs.Changing.{is_enabled_at, is_joined_at, mode_at}
use Rattle.play_world_laws.specs.PlayWorlds.{IsPlayWorld, PlayCast, end_of_link, port_number}
use Rattle.play_world_laws.specs.Leading.{PlayLeadsTo}
use Rattle.play_world_laws.proofs.Standing.{runs, runs_back, state_is}
use Rattle.play_world_laws.proofs.Backs.{done_made}
use Rattle.play_world_laws.proofs.PassedHeaders.{comes_back, goes_on}
use Rattle.play_world_laws.proofs.Sides.{IsSide, home_is, home_supplies, joined_made, link_of, other_is, side, supplier_is, supplies}

-- ---- a port that is steady is open

open_at : (n : ℕ) → IsSteadyPort n → (is_enabled_at n && is_steady (mode_at n) && true) ≡ true
open_at zero h = refl
open_at (suc zero) h = refl
open_at (suc (suc zero)) h = absurd (elim h [ inl c ↦ omega arith | inr c ↦ omega arith ])
open_at (suc (suc (suc zero))) h = absurd (elim h [ inl c ↦ omega arith | inr c ↦ omega arith ])
open_at (suc (suc (suc (suc zero)))) h = absurd (elim h [ inl c ↦ omega arith | inr c ↦ omega arith ])
open_at (suc (suc (suc (suc (suc zero))))) h = absurd (elim h [ inl c ↦ omega arith | inr c ↦ omega arith ])
open_at (suc (suc (suc (suc (suc (suc zero)))))) h = absurd (elim h [ inl c ↦ omega arith | inr c ↦ omega arith ])
open_at (suc (suc (suc (suc (suc (suc (suc n))))))) h = refl

steady_at : (n : ℕ) → (is_enabled_at n && is_steady (mode_at n) && true) ≡ true → IsSteadyPort n
steady_at zero h = inl (omega arith)
steady_at (suc zero) h = inl (omega arith)
steady_at (suc (suc zero)) h = absurd cc
steady_at (suc (suc (suc zero))) h = absurd cc
steady_at (suc (suc (suc (suc zero)))) h = absurd cc
steady_at (suc (suc (suc (suc (suc zero))))) h = absurd cc
steady_at (suc (suc (suc (suc (suc (suc zero)))))) h = absurd cc
steady_at (suc (suc (suc (suc (suc (suc (suc n))))))) h = inr (omega arith)

both_ports : (P : ℕ → Type 0) (x : PlayCast) (p : Play) (l : ℕ) (s : Bool) → P (port_at s (p.change l)) → P (port_at (not s) (p.change l)) → ArePorts P (p.change l)
both_ports P x p l true a b = (a, b)
both_ports P x p l false a b = (b, a)

port_of_both : (P : ℕ → Type 0) (p : Play) (l : ℕ) (s : Bool) → ArePorts P (p.change l) → P (port_at s (p.change l))
port_of_both P p l true h = h.0
port_of_both P p l false h = h.1

module _ (x : PlayCast) (recent : ℕ) (p : Play) (w : World) (W : IsPlayWorld x recent p w) (l : ℕ) (b : l < links_of x.cast) where
  abbrev by : Bool
  by = ((x.cast).layout).by_output l

  abbrev pub home : IsSide x recent p w l by
  home = side x recent p w W l by b

  abbrev pub away : IsSide x recent p w l (not by)
  away = side x recent p w W l (not by) b

  abbrev a : Component
  a = home.component

  abbrev y : Port
  y = (home.its).port

  open_is : (o : Bool) (S : IsSide x recent p w l o) → is_open (S.its).port ≡ (is_enabled_at (port_at o (p.change l)) && is_steady (mode_at (port_at o (p.change l))) && true)
  open_is o S = let s = ((S.its).end).state in rw s refl

  -- the component with its port that a side's key names
  found : (o : Bool) (S : IsSide x recent p w l o) → end_of w.components (end_of_link x.cast o l) ≡ Some (record { place = script_place x.cast (component_at (x.cast).layout o l); component = S.component; port = (S.its).port })
  found true S =
      let n = place_there w.numbered (script_place x.cast (component_at (x.cast).layout true l)) ((output_at x.cast l).component) w.components S.component (W.sound).rising S.there ((S.actor).number) in
      let t = S.there in
      let h = (S.its).there in
      rw (n, t, h) refl
  found false S =
      let n = place_there w.numbered (script_place x.cast (component_at (x.cast).layout false l)) ((input_at x.cast l).component) w.components S.component (W.sound).rising S.there ((S.actor).number) in
      let t = S.there in
      let h = (S.its).there in
      rw (n, t, h) refl

  key_is : y.key ≡ home_at x.cast l
  key_is = ((home.its).end).key ∙ sym (home_is x.cast l)

  module _ (joined : is_joined_at (p.change l).step ≡ true) where
    link_there : y.state.link ≡ Some (link_to x.cast l (end_of_link x.cast (not by) l))
    link_there = link_of x recent p w W l joined by y (end_of_link x.cast by l) (end_of_link x.cast (not by) l) (home.its).end

    other_found : other_end w.components y ≡ Some (record { place = script_place x.cast (component_at (x.cast).layout (not by) l); component = away.component; port = (away.its).port })
    other_found = let s = link_there in rw s (found (not by) away)

    its_supplier : is_supplier y ≡ true
    its_supplier = supplies x recent p w W l joined by y (end_of_link x.cast by l) (end_of_link x.cast (not by) l) (home.its).end ∙ (home_supplies x.cast l (end_of_link x.cast (not by) l)).0

  running_is : is_running (away.component).state ≡ is_executing (away.component).state
  running_is =
      let s = state_is x recent p w (component_at (x.cast).layout (not by) l) away.component away.actor in
      ap is_running s ∙ (state_running p.phase (p.stage (component_at (x.cast).layout (not by) l)) ∙ sym (ap is_executing s))

  module _ (C : CanAct (x.cast).layout p (Act.HandOver l)) where
    joined_now : is_joined_at (p.change l).step ≡ true
    joined_now = joined_made x recent p w l W b (done_made by ((p.flow).link l) C.3)

    pub home_done : (n : ℕ) × (ns : List ℕ) × ((seen w.headers).done (home_at x.cast l) ≡ n ∷ ns)
    home_done =
        let V = W.viewed l b in
        done_by by ((p.flow).link l) _ (λ k. (seen w.headers).done k) (output_at x.cast l) (input_at x.cast l) (ap (λ (z : LinkState). z.sent) V) (ap (λ (z : LinkState). z.spent) V) C.3

    gives : is_giving a y ≡ true
    gives =
        let R : IsRunning p (component_at (x.cast).layout by l) = subst (λ (c : ℕ). IsRunning p c) (supplier_is (x.cast).layout l) C.1 in
        let r = runs x recent p w (component_at (x.cast).layout by l) a home.actor R in
        let o : is_open y ≡ true = open_is by home ∙ open_at (port_at by (p.change l)) (port_of_both IsSteadyPort p l by C.4) in
        rw (o, r.0, r.1) refl

    takes : is_taking away.component (away.its).port ≡ true
    takes =
        let R : IsRunning p (component_at (x.cast).layout (not by) l) = subst (λ (c : ℕ). IsRunning p c) (other_is (x.cast).layout l) C.2 in
        let r = runs x recent p w (component_at (x.cast).layout (not by) l) away.component away.actor R in
        let o : is_open (away.its).port ≡ true = open_is (not by) away ∙ open_at (port_at (not by) (p.change l)) (port_of_both IsSteadyPort p l (not by) C.4) in
        let t : is_running (away.component).state ≡ true = running_is ∙ r.0 in
        rw (o, t, r.1) refl

    pub over_goes : over_idle (look w) a y ≡ None
    over_goes =
        let d = home_done in
        let s = its_supplier joined_now in
        let f = other_found joined_now in
        let g = gives in
        let t = takes in
        let k : is_empty ((seen w.headers).done y.key) ≡ false = ap (λ (z : PortKey). is_empty ((seen w.headers).done z)) key_is ∙ ap is_empty d.2 in
        rw (s, g, f, t, k) refl

    pub over_is : handed_over y w ≡ record w { headers = put (end_of_link x.cast (not by) l) TodoBack home_done.0 unchanged w.headers }
    over_is =
        let d = home_done in
        let s = link_there joined_now in
        let e : (seen w.headers).done y.key ≡ d.0 ∷ d.1 = ap (λ (z : PortKey). (seen w.headers).done z) key_is ∙ d.2 in
        rw (s, e) refl

    abbrev to : World
    to = record w { headers = put (end_of_link x.cast (not by) l) TodoBack home_done.0 unchanged w.headers }

    sound : Sound to
    sound = subst Sound over_is (sound_handed_over w (script_place x.cast (component_at (x.cast).layout by l)) a (port_number x.cast by l) y W.sound home.there (home.its).there)

    over_by : (s : Bool) → by ≡ s → IsPlayWorld x recent (acted (x.cast).layout (Act.HandOver l) p) to
    over_by true e =
        let R = act_reaches (x.cast).layout p (Act.HandOver l) W.reached C in
        let H : HasDone true ((p.flow).link l) = subst (λ (z : Bool). HasDone z ((p.flow).link l)) e C.3 in
        let d = home_done in
        let f : (seen w.headers).done (output_at x.cast l) ≡ d.0 ∷ d.1 = subst (λ (z : Bool). (seen w.headers).done (home_by z (output_at x.cast l) (input_at x.cast l)) ≡ d.0 ∷ d.1) e d.2 in
        subst (λ (z : Bool). IsPlayWorld x recent (record p { flow = moved ((x.cast).layout).network (hand z l) p.flow }) (record w { headers = put (end_of_link x.cast (not z) l) TodoBack d.0 unchanged w.headers })) (sym e)
        (goes_on x recent p w W l b d.0 d.1 f (b, H) (subst (λ (z : Bool). IsReached (x.cast).layout (record p { flow = moved ((x.cast).layout).network (hand z l) p.flow })) e R)
        (subst (λ (z : Bool). Sound (record w { headers = put (end_of_link x.cast (not z) l) TodoBack d.0 unchanged w.headers })) e sound))
    over_by false e =
        let R = act_reaches (x.cast).layout p (Act.HandOver l) W.reached C in
        let H : HasDone false ((p.flow).link l) = subst (λ (z : Bool). HasDone z ((p.flow).link l)) e C.3 in
        let d = home_done in
        let f : (seen w.headers).done (input_at x.cast l) ≡ d.0 ∷ d.1 = subst (λ (z : Bool). (seen w.headers).done (home_by z (output_at x.cast l) (input_at x.cast l)) ≡ d.0 ∷ d.1) e d.2 in
        subst (λ (z : Bool). IsPlayWorld x recent (record p { flow = moved ((x.cast).layout).network (hand z l) p.flow }) (record w { headers = put (end_of_link x.cast (not z) l) TodoBack d.0 unchanged w.headers })) (sym e)
        (comes_back x recent p w W l b d.0 d.1 f (b, H) (subst (λ (z : Bool). IsReached (x.cast).layout (record p { flow = moved ((x.cast).layout).network (hand z l) p.flow })) e R)
        (subst (λ (z : Bool). Sound (record w { headers = put (end_of_link x.cast (not z) l) TodoBack d.0 unchanged w.headers })) e sound))

    pub over_plays : IsPlayWorld x recent (acted (x.cast).layout (Act.HandOver l) p) to
    over_plays = over_by by refl

  -- ---- where the machine can the model can

  supplier_joined : is_supplier y ≡ true → is_joined_at (p.change l).step ≡ true
  supplier_joined h = either (is_joined_at (p.change l).step) (λ t. t) (λ f.
      let none : y.state.link ≡ None = ap (λ (t : PortState). t.link) ((home.its).end).state ∙ ap (λ (t : Bool). if t then Some (link_to x.cast l (end_of_link x.cast (not by) l)) else None) f in
      let z : false ≡ true = rw none at h in
      absurd cc)

  pub over_passes : over_idle (look w) a y ≡ None → CanAct (x.cast).layout p (Act.HandOver l)
  over_passes h =
      let first = passed (not (is_supplier y)) _ _ h in
      let j = supplier_joined (not_not (is_supplier y) first.0) in
      let f0 = other_found j in
      let o = rw f0 at h in
      let f = passed (not (is_supplier y)) _ _ o in
      let g = passed (not (is_giving a y)) _ _ f.1 in
      let t = passed (not (is_taking away.component (away.its).port)) _ _ g.1 in
      let some = passed (is_empty ((seen w.headers).done y.key)) _ _ t.1 in
      let k = not_empty ((seen w.headers).done y.key) some.0 in
      let V = W.viewed l b in
      let H : HasDone by ((p.flow).link l) = by_done by ((p.flow).link l) _ (λ k. (seen w.headers).done k) (output_at x.cast l) (input_at x.cast l) k.0 k.1 (ap (λ (z : LinkState). z.sent) V) (ap (λ (z : LinkState). z.spent) V)
      (ap (λ (z : PortKey). (seen w.headers).done z) (sym key_is) ∙ k.2) in
      let give = not_not (is_giving a y) g.0 in
      let take = not_not (is_taking away.component (away.its).port) t.0 in
      let g1 = both_of (is_open y && is_executing a.state) (is_at_rest a) give in
      let g2 = both_of (is_open y) (is_executing a.state) g1.0 in
      let t1 = both_of (is_running (away.component).state && is_at_rest away.component) (is_open (away.its).port) take in
      let t2 = both_of (is_running (away.component).state) (is_at_rest away.component) t1.0 in
      let R = runs_back x recent p w (component_at (x.cast).layout by l) a home.actor g2.1 g1.1 in
      let S = runs_back x recent p w (component_at (x.cast).layout (not by) l) away.component away.actor (sym running_is ∙ t2.0) t2.1 in (
        b,
        subst (λ (c : ℕ). IsRunning p c) (sym (supplier_is (x.cast).layout l)) R,
        subst (λ (c : ℕ). IsRunning p c) (sym (other_is (x.cast).layout l)) S,
        H,
        both_ports IsSteadyPort x p l by (steady_at (port_at by (p.change l)) (sym (open_is by home) ∙ g2.0)) (steady_at (port_at (not by) (p.change l)) (sym (open_is (not by) away) ∙ t1.1)),
      )

over_acts : (x : PlayCast) (recent : ℕ) (p : Play) (w : World) (l : ℕ) (h : Handle) (result : Result Acted OmxError) (v : World) (W : IsPlayWorld x recent p w) (b : l < links_of x.cast) → Names x.cast w (supplier (x.cast).layout l) h → HandOver w h (home_at x.cast l).port result v
    → Acts (over_idle (look w) (home x recent p w W l b).component ((home x recent p w W l b).its).port) result w (handed_over ((home x recent p w W l b).its).port w) v
over_acts x recent p w l h result v W b N s =
    let by : Bool = ((x.cast).layout).by_output l in
    let A = home x recent p w W l b in
    let M : Names x.cast w (component_at (x.cast).layout by l) h = subst (λ (c : ℕ). Names x.cast w c h) (supplier_is (x.cast).layout l) N in
    let port : (home_at x.cast l).port ≡ port_number x.cast by l = ap (λ (k : PortKey). k.port) (home_is x.cast l) ∙ its_port by in
    let there : port_of A.component (home_at x.cast l).port ≡ Some (A.its).port = ap (port_of A.component) port ∙ (A.its).there in
    resolved_port plain w h (home_at x.cast l).port result v (λ i c q. Acts (over_idle (look w) c q) result w (handed_over q w) v) (script_place x.cast (component_at (x.cast).layout by l)) A.component (A.its).port M A.there there s
  where
    its_port : (s : Bool) → (end_of_link x.cast s l).port ≡ port_number x.cast s l
    its_port true = refl
    its_port false = refl

pub over_leads : (x : PlayCast) (recent : ℕ) (p : Play) (w : World) (l : ℕ) (h : Handle) (result : Result Acted OmxError) (v : World) → IsPlayWorld x recent p w → CanAct (x.cast).layout p (Act.HandOver l)
    → Names x.cast w (supplier (x.cast).layout l) h → HandOver w h (home_at x.cast l).port result v → (result ≡ Ok acted_as.Did) × PlayLeadsTo x recent (acted (x.cast).layout (Act.HandOver l) p) v
over_leads x recent p w l h result v W C N s =
    let b = C.0 in
    let A = home x recent p w W l b in
    let t = did (over_idle (look w) A.component (A.its).port) result w (handed_over (A.its).port w) v (over_goes x recent p w W l b C) (over_acts x recent p w l h result v W b N s) in
    (t.0, record { effect = handed_over (A.its).port w; play = subst (λ (u : World). IsPlayWorld x recent (acted (x.cast).layout (Act.HandOver l) p) u) (sym (over_is x recent p w W l b C)) (over_plays x recent p w W l b C); closes = t.1 })

pub over_can : (x : PlayCast) (recent : ℕ) (p : Play) (w : World) (l : ℕ) (h : Handle) (result : Result Acted OmxError) (v : World) → IsPlayWorld x recent p w → l < links_of x.cast → Names x.cast w (supplier (x.cast).layout l) h
    → HandOver w h (home_at x.cast l).port result v → result ≡ Ok acted_as.Did → CanAct (x.cast).layout p (Act.HandOver l)
over_can x recent p w l h result v W b N s d =
    let A = home x recent p w W l b in
    over_passes x recent p w W l b (did_none (over_idle (look w) A.component (A.its).port) result w (handed_over (A.its).port w) v (over_acts x recent p w l h result v W b N s) d)
