-- hand_back of a header of done.
use Rattle.std.proofs.Common.{◌≡◌, inl, inr, ℕ, zero, suc, ◌<◌, Bool, true, false, not, ◌&&◌, ◌||◌, if◌then◌else◌, List, [], ◌∷◌, length-append, Some, None, Result, Ok, refl, sym, ◌∙◌, ap, subst, arith}
use Rattle.omx_types.specs.declared.error.OmxError.{OmxError}
use Rattle.omx_types.specs.declared.handle.Handle.{Handle}
use Rattle.omx_types.specs.declared.state.State.TheVariants as states
use Rattle.il_machine.specs.declared.answer.Acted.{Acted}
use Rattle.il_machine.specs.declared.answer.Acted.TheVariants as acted_as
use Rattle.il_machine.specs.declared.answer.Why.TheVariants as why
use Rattle.il_machine.specs.declared.header.Spot.TheVariants.{TodoBack}
use Rattle.il_machine.specs.declared.port.Port.{Port}
use Rattle.il_machine.specs.declared.port.PortKey.{PortKey}
use Rattle.il_machine.specs.Answers.{Acts, plain}
use Rattle.il_machine.specs.Flow.{HandBack, back_idle, handed_back}
use Rattle.il_machine.specs.Headers.{put, seen, unchanged}
use Rattle.il_machine.specs.Lists.{is_empty}
use Rattle.il_machine.specs.Look.{look}
use Rattle.il_machine.specs.Ports.{id_of, is_disabling, is_going_to, is_supplied_by, is_supplier, returning}
use Rattle.il_machine.specs.Sound.{Sound}
use Rattle.il_machine.specs.States.{is_executing, is_invalid, is_running}
use Rattle.il_machine.specs.World.{Component, World, port_of}
use Rattle.machine_laws.proofs.Accepting.{passed}
use Rattle.machine_laws.proofs.Finding.{either}
use Rattle.machine_laws.proofs.Flowing.{sound_returned}
use Rattle.play_model.specs.Moves.{IsFront, moved}
use Rattle.play_model.specs.Network.{Filled, LinkState, headers_of}
use Rattle.play_model.specs.Acts.{Act, CanAct, acted, hand}
use Rattle.play_model.specs.Play.{HasDone, IsExecuting, Play, component_at, other_component}
use Rattle.play_model.specs.Reached.{IsReached}
use Rattle.play_model.proofs.Handing.{act_reaches}
use Rattle.play_world_laws.specs.Cast.{away_at, home_at, home_by, input_at, links_of, output_at, script_place}
use Rattle.play_world_laws.specs.Standing.{state_at, target}
use Rattle.play_world_laws.specs.Wiring.{link_to}
use Rattle.play_world_laws.specs.Worlds.{Names}
use Rattle.play_world_laws.proofs.Handing.{by_done, done_by, not_empty}
use Rattle.play_world_laws.proofs.Lists.{resolved_port}
use Rattle.play_world_laws.proofs.Runs.{did, did_none}
use Rattle.play_world_laws.proofs.Sends.{never_invalid}
use Rattle.play_world_laws.proofs.Terms.{early_stage, executes_back, late_stage, state_running}
use Rattle.play_model.specs.Changes.{port_at}
use Rattle.play_world_laws.specs.Changing.{is_joined_at, mode_at}
use Rattle.play_world_laws.specs.PlayWorlds.{IsActorAt, IsPlayWorld, PlayCast, end_of_link, port_number}
use Rattle.play_world_laws.specs.Leading.{PlayLeadsTo}
use Rattle.play_world_laws.proofs.PortDue.{early_port}
use Rattle.play_world_laws.proofs.ChangeEnds.{end_inside}
use Rattle.play_world_laws.proofs.Turning.{all_told, half_of}
use Rattle.play_world_laws.proofs.Standing.{state_is}
use Rattle.play_world_laws.proofs.PassedHeaders.{comes_back, goes_on}
use Rattle.play_world_laws.proofs.Sides.{IsSide, away_is, home_is, home_supplies, joined_made, link_of, other_is, side, supplies}

-- Executing, whatever is pending
pub executes : (x : PlayCast) (recent : ℕ) (p : Play) (w : World) (c : ℕ) (a : Component) → IsActorAt x recent p w c a → IsExecuting p c → is_executing a.state ≡ true
executes x recent p w c a A (inl h) = ap is_executing (state_is x recent p w c a A) ∙ (late_stage p.phase (p.stage c) h.0 h.1).0
executes x recent p w c a A (inr h) = ap is_executing (state_is x recent p w c a A) ∙ early_stage p.phase (p.stage c) h.0 h.1

back_none : {X : Type 0} (s r e d t : Bool) (f g h : X) → s ≡ false → e ≡ true → d ≡ false → (if s then Some f else (if not r && not e then Some g else (if d && (not r || t) then Some h else None))) ≡ None
back_none s true e d t f g h a b c = rw (a, c) refl
back_none s false e d t f g h a b c = rw (a, b, c) refl

-- a link with a header in a list done has a header
pub done_made : (by : Bool) (y : LinkState) → HasDone by y → 0 < headers_of y
done_made true y H = front (y.sent) H
  where
    front : (q : List Filled) → IsFront (λ h. Unit {0}) q → 0 < headers_of (record y { sent = q })
    front [] h = absurd h
    front (h ∷ q) t = let a = length-append y.held (h ∷ q) in omega arith
done_made false y H = omega (arith, H)

flip : (by : Bool) (o i : PortKey) → home_by (not by) o i ≡ home_by by i o
flip true o i = refl
flip false o i = refl

module _ (x : PlayCast) (recent : ℕ) (p : Play) (w : World) (W : IsPlayWorld x recent p w) (l : ℕ) (C : CanAct (x.cast).layout p (Act.HandBack l)) where
  abbrev by : Bool
  by = ((x.cast).layout).by_output l

  abbrev pub A : IsSide x recent p w l (not by)
  A = side x recent p w W l (not by) C.0

  abbrev pub a : Component
  a = A.component

  abbrev pub y : Port
  y = (A.its).port

  abbrev peer : PortKey
  peer = end_of_link x.cast (not (not by)) l

  joined : is_joined_at (p.change l).step ≡ true
  joined = joined_made x recent p w l W C.0 (done_made (not by) ((p.flow).link l) C.2)

  back_key : end_of_link x.cast (not (not by)) l ≡ home_at x.cast l
  back_key = twice by ∙ sym (home_is x.cast l)
    where
      twice : (s : Bool) → end_of_link x.cast (not (not s)) l ≡ end_of_link x.cast s l
      twice true = refl
      twice false = refl

  link_there : y.state.link ≡ Some (link_to x.cast l (home_at x.cast l))
  link_there = link_of x recent p w W l joined (not by) y (end_of_link x.cast (not by) l) peer (A.its).end ∙ ap (λ (k : PortKey). Some (link_to x.cast l k)) back_key

  -- the list done of this end
  pub away_done : (n : ℕ) × (ns : List ℕ) × ((seen w.headers).done (away_at x.cast l) ≡ n ∷ ns)
  away_done =
      let V = W.viewed l C.0 in
      let d = done_by (not by) ((p.flow).link l) _ (λ k. (seen w.headers).done k) (output_at x.cast l) (input_at x.cast l) (ap (λ (z : LinkState). z.sent) V) (ap (λ (z : LinkState). z.spent) V) C.2 in
      (d.0, d.1, ap (λ (k : PortKey). (seen w.headers).done k) (sym (flip by (output_at x.cast l) (input_at x.cast l))) ∙ d.2)

  key_is : y.key ≡ away_at x.cast l
  key_is = ((A.its).end).key ∙ sym (away_is x.cast l)

  pub back_goes : back_idle (look w) a y ≡ None
  back_goes =
      let d = away_done in
      let s : is_supplier y ≡ false = supplies x recent p w W l joined (not by) y (end_of_link x.cast (not by) l) peer (A.its).end ∙ not_twice by peer in
      let R : IsExecuting p (component_at (x.cast).layout (not by) l) = subst (λ (c : ℕ). IsExecuting p c) (other_is (x.cast).layout l) C.1 in
      let t = executes x recent p w (component_at (x.cast).layout (not by) l) a A.actor R in
      let k : is_empty ((seen w.headers).done y.key) ≡ false = ap (λ (z : PortKey). is_empty ((seen w.headers).done z)) key_is ∙ ap is_empty d.2 in
      back_none (is_supplier y) (returning a y) (is_executing a.state) (is_empty ((seen w.headers).done y.key)) (is_empty ((seen w.headers).todo y.key)) why.IsSupplier (why.NotRunning (id_of a y)) why.NoHeader s t k
    where
      not_twice : (s : Bool) (k : PortKey) → is_supplied_by (not (not by)) (link_to x.cast l k) ≡ false
      not_twice s k = ap (λ (b : Bool). is_supplied_by b (link_to x.cast l k)) (double by) ∙ (home_supplies x.cast l k).1
        where
          double : (b : Bool) → not (not b) ≡ b
          double true = refl
          double false = refl

  pub back_is : (i : ℕ) → handed_back i a y y.state.link w ≡ record w { headers = put (home_at x.cast l) TodoBack away_done.0 unchanged w.headers }
  back_is i = let d = away_done in let k = key_is in let s = link_there in let e : (seen w.headers).done y.key ≡ d.0 ∷ d.1 = ap (λ (z : PortKey). (seen w.headers).done z) k ∙ d.2 in rw (s, e) refl

  abbrev to : World
  to = record w { headers = put (home_at x.cast l) TodoBack away_done.0 unchanged w.headers }

  sound : Sound to
  sound =
      let i : ℕ = script_place x.cast (component_at (x.cast).layout (not by) l) in
      let T = sound_returned w i a (port_number x.cast (not by) l) y (link_to x.cast l (home_at x.cast l)) W.sound A.there (A.its).there link_there in
      let U : Sound (handed_back i a y y.state.link w) = rw link_there T in
      subst Sound (back_is i) U

  back_by : (s : Bool) → by ≡ s → IsPlayWorld x recent (acted (x.cast).layout (Act.HandBack l) p) to
  back_by true e =
      let R = act_reaches (x.cast).layout p (Act.HandBack l) W.reached C in
      let H : HasDone false ((p.flow).link l) = subst (λ (z : Bool). HasDone (not z) ((p.flow).link l)) e C.2 in
      let d = away_done in
      let f : (seen w.headers).done (input_at x.cast l) ≡ d.0 ∷ d.1 = subst (λ (z : Bool). (seen w.headers).done (home_by z (input_at x.cast l) (output_at x.cast l)) ≡ d.0 ∷ d.1) e d.2 in
      subst (λ (z : Bool). IsPlayWorld x recent (record p { flow = moved ((x.cast).layout).network (hand (not z) l) p.flow }) (record w { headers = put (home_by z (output_at x.cast l) (input_at x.cast l)) TodoBack d.0 unchanged w.headers })) (sym e)
      (comes_back x recent p w W l C.0 d.0 d.1 f (C.0, H) (subst (λ (z : Bool). IsReached (x.cast).layout (record p { flow = moved ((x.cast).layout).network (hand (not z) l) p.flow })) e R)
      (subst (λ (z : Bool). Sound (record w { headers = put (home_by z (output_at x.cast l) (input_at x.cast l)) TodoBack d.0 unchanged w.headers })) e sound))
  back_by false e =
      let R = act_reaches (x.cast).layout p (Act.HandBack l) W.reached C in
      let H : HasDone true ((p.flow).link l) = subst (λ (z : Bool). HasDone (not z) ((p.flow).link l)) e C.2 in
      let d = away_done in
      let f : (seen w.headers).done (output_at x.cast l) ≡ d.0 ∷ d.1 = subst (λ (z : Bool). (seen w.headers).done (home_by z (input_at x.cast l) (output_at x.cast l)) ≡ d.0 ∷ d.1) e d.2 in
      subst (λ (z : Bool). IsPlayWorld x recent (record p { flow = moved ((x.cast).layout).network (hand (not z) l) p.flow }) (record w { headers = put (home_by z (output_at x.cast l) (input_at x.cast l)) TodoBack d.0 unchanged w.headers })) (sym e)
      (goes_on x recent p w W l C.0 d.0 d.1 f (C.0, H) (subst (λ (z : Bool). IsReached (x.cast).layout (record p { flow = moved ((x.cast).layout).network (hand (not z) l) p.flow })) e R)
      (subst (λ (z : Bool). Sound (record w { headers = put (home_by z (output_at x.cast l) (input_at x.cast l)) TodoBack d.0 unchanged w.headers })) e sound))

  pub back_plays : IsPlayWorld x recent (acted (x.cast).layout (Act.HandBack l) p) to
  back_plays = back_by by refl

pub back_leads : (x : PlayCast) (recent : ℕ) (p : Play) (w : World) (l : ℕ) (h : Handle) (result : Result Acted OmxError) (v : World) → IsPlayWorld x recent p w → CanAct (x.cast).layout p (Act.HandBack l)
    → Names x.cast w (other_component (x.cast).layout l) h → HandBack w h (away_at x.cast l).port result v → (result ≡ Ok acted_as.Did) × PlayLeadsTo x recent (acted (x.cast).layout (Act.HandBack l) p) v
back_leads x recent p w l h result v W C N s =
    let by : Bool = ((x.cast).layout).by_output l in
    let A = side x recent p w W l (not by) C.0 in
    let i : ℕ = script_place x.cast (component_at (x.cast).layout (not by) l) in
    let M : Names x.cast w (component_at (x.cast).layout (not by) l) h = subst (λ (c : ℕ). Names x.cast w c h) (other_is (x.cast).layout l) N in
    let port : (away_at x.cast l).port ≡ port_number x.cast (not by) l = ap (λ (k : PortKey). k.port) (away_is x.cast l) ∙ its_port (not by) in
    let there : port_of A.component (away_at x.cast l).port ≡ Some (A.its).port = ap (port_of A.component) port ∙ (A.its).there in
    let r = resolved_port plain w h (away_at x.cast l).port result v (λ i c q. Acts (back_idle (look w) c q) result w (handed_back i c q q.state.link w) v) i A.component (A.its).port M A.there there s in
    let t = did (back_idle (look w) A.component (A.its).port) result w (handed_back i A.component (A.its).port (A.its).port.state.link w) v (back_goes x recent p w W l C) r in
    (t.0, record { effect = handed_back i A.component (A.its).port (A.its).port.state.link w; play = subst (λ (u : World). IsPlayWorld x recent (acted (x.cast).layout (Act.HandBack l) p) u) (sym (back_is x recent p w W l C i)) (back_plays x recent p w W l C); closes = t.1 })
  where
    its_port : (s : Bool) → (end_of_link x.cast s l).port ≡ port_number x.cast s l
    its_port true = refl
    its_port false = refl

-- ---- where the machine can the model can

target_valid : (phase : ℕ) → is_invalid (target phase) ≡ false
target_valid phase = never_invalid (suc phase)

pub state_valid : (phase stage : ℕ) → is_invalid (state_at phase stage) ≡ false
state_valid phase zero = never_invalid phase
state_valid phase (suc zero) = never_invalid phase
state_valid phase (suc (suc zero)) = never_invalid phase
state_valid phase (suc (suc (suc n))) = target_valid phase

pub disabling_at : (n : ℕ) → is_disabling (mode_at n) ≡ true → n ≡ 2
disabling_at zero h = absurd cc
disabling_at (suc zero) h = absurd cc
disabling_at (suc (suc zero)) h = refl
disabling_at (suc (suc (suc zero))) h = absurd cc
disabling_at (suc (suc (suc (suc zero)))) h = absurd cc
disabling_at (suc (suc (suc (suc (suc zero))))) h = absurd cc
disabling_at (suc (suc (suc (suc (suc (suc zero)))))) h = absurd cc
disabling_at (suc (suc (suc (suc (suc (suc (suc n))))))) h = absurd cc

module _ (x : PlayCast) (recent : ℕ) (p : Play) (w : World) (W : IsPlayWorld x recent p w) (l : ℕ) (b : l < links_of x.cast) (o : Bool) (S : IsSide x recent p w l o) where
  abbrev c : ℕ
  c = component_at (x.cast).layout o l

  -- where its port is disabling it is Executing
  disabling_runs : is_disabling (mode_at (port_at o (p.change l))) ≡ true → IsExecuting p c
  disabling_runs h = either (((x.cast).layout).is_late l)
      (λ t.
      let n = disabling_at (port_at o (p.change l)) h in
      let K = (W.reached).changes l b in
      let T = all_told x recent p w W l b t (half_of (p.change l) K.order o (omega arith) (omega arith)) in
      let f = T.1 c (end_inside x recent p w W o l b) in
      inl (T.0, omega arith))
      (λ t. let z = early_port x recent p w W l o b t in let n = disabling_at (port_at o (p.change l)) h in absurd (omega arith))

  -- a side that gives headers back while it isn't Executing: there is none
  pub returns_running : (returning S.component (S.its).port || is_executing (S.component).state) ≡ true → IsExecuting p c
  returns_running h =
      let a : Component = S.component in
      let y : Port = (S.its).port in
      let s = state_is x recent p w c a S.actor in
      either (is_executing a.state)
      (λ t. executes_back p.phase (p.stage c) (sym (ap is_executing s) ∙ t))
      (λ f.
      let run : is_running a.state ≡ false = ap is_running s ∙ (state_running p.phase (p.stage c) ∙ (sym (ap is_executing s) ∙ f)) in
      let v : is_invalid a.state ≡ false = ap is_invalid s ∙ state_valid p.phase (p.stage c) in
      let state = ((S.its).end).state in
      let d : is_disabling (mode_at (port_at o (p.change l))) ≡ true = last_of (is_disabling (mode_at (port_at o (p.change l)))) (is_going_to states.Idle a) (sym (rw (state, v, run, f) refl) ∙ h) in
      disabling_runs d)
    where
      last_of : (d g : Bool) → ((false || d || false || (false && g)) || false) ≡ true → d ≡ true
      last_of true g h = refl
      last_of false g h = absurd cc

pub back_can : (x : PlayCast) (recent : ℕ) (p : Play) (w : World) (l : ℕ) (h : Handle) (result : Result Acted OmxError) (v : World) → IsPlayWorld x recent p w → l < links_of x.cast → Names x.cast w (other_component (x.cast).layout l) h
    → HandBack w h (away_at x.cast l).port result v → result ≡ Ok acted_as.Did → is_empty ((seen w.headers).done (away_at x.cast l)) ≡ false → CanAct (x.cast).layout p (Act.HandBack l)
back_can x recent p w l h result v W b N s did f =
    let by : Bool = ((x.cast).layout).by_output l in
    let A = side x recent p w W l (not by) b in
    let i : ℕ = script_place x.cast (component_at (x.cast).layout (not by) l) in
    let M : Names x.cast w (component_at (x.cast).layout (not by) l) h = subst (λ (c : ℕ). Names x.cast w c h) (other_is (x.cast).layout l) N in
    let port : (away_at x.cast l).port ≡ port_number x.cast (not by) l = ap (λ (k : PortKey). k.port) (away_is x.cast l) ∙ its_port (not by) in
    let there : port_of A.component (away_at x.cast l).port ≡ Some (A.its).port = ap (port_of A.component) port ∙ (A.its).there in
    let r = resolved_port plain w h (away_at x.cast l).port result v (λ i c q. Acts (back_idle (look w) c q) result w (handed_back i c q q.state.link w) v) i A.component (A.its).port M A.there there s in
    let none = did_none (back_idle (look w) A.component (A.its).port) result w (handed_back i A.component (A.its).port (A.its).port.state.link w) v r did in
    let g = passed (is_supplier (A.its).port) _ _ none in
    let t = passed (not (returning A.component (A.its).port) && not (is_executing (A.component).state)) _ _ g.1 in
    let k = not_empty ((seen w.headers).done (away_at x.cast l)) f in
    let V = W.viewed l b in
    let R = returns_running x recent p w W l b (not by) A (neither (returning A.component (A.its).port) (is_executing (A.component).state) t.0) in (
      b,
      subst (λ (c : ℕ). IsExecuting p c) (sym (other_is (x.cast).layout l)) R,
      by_done (not by) ((p.flow).link l) _ (λ k. (seen w.headers).done k) (output_at x.cast l) (input_at x.cast l) k.0 k.1 (ap (λ (z : LinkState). z.sent) V) (ap (λ (z : LinkState). z.spent) V)
          (ap (λ (k : PortKey). (seen w.headers).done k) (flip by (output_at x.cast l) (input_at x.cast l)) ∙ k.2),
    )
  where
    its_port : (s : Bool) → (end_of_link x.cast s l).port ≡ port_number x.cast s l
    its_port true = refl
    its_port false = refl

    neither : (r e : Bool) → (not r && not e) ≡ false → (r || e) ≡ true
    neither true e h = refl
    neither false true h = refl
    neither false false h = absurd cc
