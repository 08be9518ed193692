-- The tunnel of a link that is being changed is set up again.
use Rattle.std.proofs.Common.{◌≡◌, ◌≢◌, ℕ, zero, suc, ◌+◌, ◌<◌, Bool, true, false, not, ◌&&◌, max, nat_eq, nat_le, if◌then◌else◌, is_some, List, [], ◌∷◌, set, slice_get, Option, Some, None, Result, Ok, Err, refl, sym, ◌∙◌, ap, subst, ne_eqb, arith}
use Rattle.omx_types.specs.declared.error.OmxError.{OmxError}
use Rattle.omx_types.specs.declared.handle.Handle.{Handle}
use Rattle.omx_types.specs.declared.param.Supplier.{Supplier}
use Rattle.il_machine.specs.declared.header.HeaderState.{HeaderState}
use Rattle.il_machine.specs.declared.port.Link.{Link}
use Rattle.il_machine.specs.declared.port.Port.{Port}
use Rattle.il_machine.specs.declared.port.PortKey.{PortKey}
use Rattle.il_machine.specs.declared.port.PortSetting.{PortSetting}
use Rattle.il_machine.specs.declared.port.PortState.{PortState}
use Rattle.il_machine.specs.Answers.{Answers, Resolving, plain}
use Rattle.il_machine.specs.Due.{ClosesTo}
use Rattle.il_machine.specs.Headers.{Once, count_headers, find_header, is_for, seen, weight}
use Rattle.il_machine.specs.Look.{look}
use Rattle.il_machine.specs.Parameters.{is_fixed}
use Rattle.il_machine.specs.Ports.{has_no_header, is_joined}
use Rattle.il_machine.specs.Settings.{same_format, with_setting}
use Rattle.il_machine.specs.Sound.{Sound}
use Rattle.il_machine.specs.States.{is_invalid}
use Rattle.il_machine.specs.Tunnels.{BothPorts, SetupTunnel, agreed, agreed_of, are_output_and_input, both_joined, joined_to, setup_refusal, widened}
use Rattle.il_machine.specs.World.{Component, HeaderRecord, World, number_of, port_of, same_handle, with_component, with_port}
use Rattle.machine_laws.proofs.Finding.{either, found_head, found_tail}
use Rattle.machine_laws.proofs.Lookups.{port_parts}
use Rattle.machine_laws.proofs.Tunnels.{sound_joined}
use Rattle.play_model.specs.Acts.{Act, CanAct, acted}
use Rattle.play_model.specs.Changes.{Change, conducted}
use Rattle.play_model.specs.Play.{Play, component_at}
use Rattle.play_model.proofs.Handing.{act_reaches}
use Rattle.play_world_laws.specs.Cast.{giver_of, input_at, links_of, output_at, script_place, supplier_of, taker_of}
use Rattle.play_world_laws.specs.Standing.{state_at}
use Rattle.play_world_laws.specs.Wiring.{link_to}
use Rattle.play_world_laws.specs.Worlds.{Names}
use Rattle.play_world_laws.proofs.Arrivals.{unmade_by}
use Rattle.play_world_laws.proofs.Lists.{resolved}
use Rattle.play_world_laws.specs.Changing.{is_enabled_at, is_joined_at, is_set_at, state_by}
use Rattle.play_world_laws.specs.PlayWorlds.{IsActorAt, IsEndAt, IsPlayWorld, PlayCast, end_of_link}
use Rattle.play_world_laws.proofs.Ports.{joined_again}
use Rattle.play_world_laws.specs.Leading.{PlayLeadsTo}
use Rattle.play_world_laws.proofs.Announced.{left_same}
use Rattle.play_world_laws.proofs.Around.{change_here, end_stated}
use Rattle.play_world_laws.proofs.Both.{AreTurned, both_turned}
use Rattle.machine_laws.proofs.Fitting.{format_itself}
use Rattle.play_world_laws.proofs.ChangeEnds.{HasEnd, actor_there, end_inside, end_there}
use Rattle.play_world_laws.proofs.One.{actor_turned}
use Rattle.play_world_laws.proofs.ChangedPorts.{port_else, port_here}
use Rattle.play_world_laws.proofs.Retuning.{IsRetuning, disabled, later_half, retuned_turn, turn}
use Rattle.play_world_laws.proofs.Standing.{state_is}

-- none of the headers passes a test that none of them passes
pub counted_none : (test : HeaderState → Bool) (hs : List HeaderRecord) (kept : List HeaderRecord) → ((n : ℕ) (r : HeaderRecord) → find_header n kept ≡ Some r → test r.state ≡ true → ⊥) → Once hs
    → ((n : ℕ) (r : HeaderRecord) → find_header n hs ≡ Some r → find_header n kept ≡ Some r) → count_headers test hs ≡ 0
counted_none test [] kept h o i = refl
counted_none test (z ∷ hs) kept h o i =
    let here : test z.state ≡ false = either (test z.state) (λ t. absurd (h z.state.number z (i z.state.number z (found_head z.state.number z hs refl)) t)) (λ f. f) in
    let rest = counted_none test hs kept h o.1 (λ n r f.
    let apart : z.state.number ≢ n = λ s. let a : find_header n hs ≡ None = rw s at o.0 in absurd cc in
    i n r (found_tail n z hs apart ∙ f)) in
    let w : weight (test z.state) ≡ 0 = ap weight here in
    omega arith

-- a setting of the same list
set_itself : {X : Type 0} (xs : List X) (n : ℕ) (s : X) → slice_get xs n ≡ Some s → set xs n s ≡ xs
set_itself [] n s e = refl
set_itself (z ∷ xs) zero s e = let is : z ≡ s = cc in ap (λ u. u ∷ xs) (sym is)
set_itself (z ∷ xs) (suc n) s e = ap (λ us. z ∷ us) (set_itself xs n s e)

max_self : (n : ℕ) → max n n ≡ n
max_self n = omega arith

module _ (x : PlayCast) (recent : ℕ) (p : Play) (w : World) (W : IsPlayWorld x recent p w) (l : ℕ) (below : l < links_of x.cast) (late : ((x.cast).layout).is_late l ≡ true) (unjoined : is_joined_at (p.change l).step ≡ false) where
  -- a link without its tunnel has no header
  pub none_without : (o : Bool) → (seen w.headers).count (is_for (end_of_link x.cast o l)) ≡ 0
  none_without o = counted_none (is_for (end_of_link x.cast o l)) w.headers w.headers
      (λ n r f t. let z : true ≡ false = sym (W.tunnelled n r o l f below late t) ∙ unjoined in cc) (W.sound).once (λ n r f. f)

module _ (x : PlayCast) (recent : ℕ) (p : Play) (w : World) (W : IsPlayWorld x recent p w) (l : ℕ) (C : CanAct (x.cast).layout p (Act.Conduct l)) (seven : (p.change l).step ≡ 7) (a d : Component)
    (e : slice_get w.components (script_place x.cast (giver_of x.cast l)) ≡ Some a) (f : slice_get w.components (script_place x.cast (taker_of x.cast l)) ≡ Some d) where
  abbrev k : Change
  k = p.change l

  abbrev q : Play
  q = acted (x.cast).layout (Act.Conduct l) p

  retuning : IsRetuning k.step
  retuning = (omega arith, omega arith)

  abbrev E : HasEnd x p l true a
  E = end_there x recent p w W true l (giver_of x.cast l) a C.below refl e

  abbrev F : HasEnd x p l false d
  F = end_there x recent p w W false l (taker_of x.cast l) d C.below refl f

  abbrev y : Port
  y = E.port

  abbrev z : Port
  z = F.port

  actor : IsActorAt x recent p w (giver_of x.cast l) a
  actor = W.actors (giver_of x.cast l) a (end_inside x recent p w W true l C.below) e

  input_actor : IsActorAt x recent p w (taker_of x.cast l) d
  input_actor = W.actors (taker_of x.cast l) d (end_inside x recent p w W false l C.below) f

  none_at : (o : Bool) → (seen w.headers).count (is_for (end_of_link x.cast o l)) ≡ 0
  none_at o = none_without x recent p w W l C.below C.late (ap is_joined_at seven) o

  valid : (o : Bool) (u : Component) → IsActorAt x recent p w (component_at (x.cast).layout o l) u → is_invalid u.state ≡ false
  valid o u A =
      let T = (turn x recent p w W l C retuning).up in
      let two = T.0 in
      let four = T.1 (component_at (x.cast).layout o l) (end_inside x recent p w W o l C.below) in
      ap is_invalid (state_is x recent p w (component_at (x.cast).layout o l) u A ∙ (λ i. state_at (two i) (four i)))

  free_at : (o : Bool) (u : Component) (r : Port) (at peer : PortKey) → IsEndAt x p l o at peer r → at ≡ end_of_link x.cast o l → is_fixed (seen w.headers) u r ≡ false
  free_at o u r at peer U s =
      let j : is_joined r ≡ false = ap (λ (t : PortState). is_some t.link) U.state ∙ ap (λ (t : Bool). is_some (if t then Some (link_to x.cast l peer) else None)) (ap is_joined_at seven) in
      let h : has_no_header (seen w.headers) r ≡ true = unmade_by (seen w.headers) r (end_of_link x.cast o l) 0 (U.key ∙ s) (none_at o) in
      let n : r.state.enabled ≡ false = ap (λ (t : PortState). t.enabled) U.state ∙ ap is_enabled_at (disabled x recent p w W l C retuning o) in
      rw (j, h, n) refl

  format_at : (o : Bool) (r : Port) (at peer : PortKey) → IsEndAt x p l o at peer r → r.setting.definition.format ≡ x.format l
  format_at o r at peer U = U.format C.late (rw C.late (ap (is_set_at o) seven ∙ set o))
    where
      set : (s : Bool) → is_set_at s 7 ≡ true
      set true = refl
      set false = refl

  apart : same_handle a.handle d.handle ≡ false
  apart =
      let n : number_of a ≢ number_of d = λ s. (W.wired l C.below).apart (sym actor.number ∙ (s ∙ input_actor.number)) in
      let g : nat_eq a.handle.generation d.handle.generation ≡ false = ne_eqb (number_of a) (number_of d) n in
      and_none (nat_eq a.handle.slot d.handle.slot) (nat_eq a.handle.generation d.handle.generation) g
    where
      and_none : (s t : Bool) → t ≡ false → (s && t) ≡ false
      and_none true t g = g
      and_none false t g = refl

  pub setup_accepted : setup_refusal (look w).headers a d (port_of a ((x.cast).output_port l)) (port_of d ((x.cast).input_port l)) ≡ None
  setup_accepted =
      let sides : are_output_and_input y z ≡ true = (let i = (E.end).direction in let j = (F.end).direction in rw (i, j) refl) in
      let one : same_format y.setting.definition.format z.setting.definition.format ≡ true =
      (let i = format_at true y (output_at x.cast l) (input_at x.cast l) E.end in let j = format_at false z (input_at x.cast l) (output_at x.cast l) F.end in (λ t. same_format (i t) (j t)) ∙ format_itself (x.format l)) in
      let o = free_at true a y (output_at x.cast l) (input_at x.cast l) E.end refl in
      let i = free_at false d z (input_at x.cast l) (output_at x.cast l) F.end refl in
      let s = valid true a actor in
      let t = valid false d input_actor in
      rw (E.there, F.there, s, t, sides, apart, o, i, one) refl

  -- ---- both settings stay

  widened_is : (o : Bool) (r u : Port) (at peer : PortKey) → IsEndAt x p l o at peer r → IsEndAt x p l (not o) peer at u → widened r u ≡ r.setting
  widened_is o r u at peer R U =
      let c : u.setting.definition.count ≡ r.setting.definition.count = U.count ∙ sym R.count in
      let s : u.setting.definition.size ≡ r.setting.definition.size = U.size ∙ sym R.size in
      (λ i. record r.setting { definition = record r.setting.definition { count = max r.setting.definition.count (c i); size = max r.setting.definition.size (s i) } })
      ∙ (let m = max_self r.setting.definition.count in let n = max_self r.setting.definition.size in λ i. record r.setting { definition = record r.setting.definition { count = m i; size = n i } })

  settings_are : (u : Component) (n : ℕ) (r : Port) → port_of u n ≡ Some r → with_setting n r.setting u.settings ≡ u.settings
  settings_are u n r h = ap (λ (s : List PortSetting). record u.settings { ports = s }) (set_itself u.settings.ports n r.setting (port_parts u n r h).setting)

  pub supplier : agreed_of y z ≡ supplier_of x.cast l
  supplier =
      let D = W.wired l C.below in
      let o : Some D.output ≡ Some y = sym D.output_there ∙ (let g = e in rw g E.there) in
      let i : Some D.input ≡ Some z = sym D.input_there ∙ (let g = f in rw g F.there) in
      let output : D.output ≡ y = cc in
      let input : D.input ≡ z = cc in
      (λ t. agreed (sym output t).setting.supplier (sym input t).setting.supplier) ∙ D.supplied C.late

  abbrev joined_state : Link → PortState → PortState
  joined_state link s = record s { link = Some link }

  abbrev b : Component
  b = with_port ((x.cast).output_port l) (joined_state (link_to x.cast l (input_at x.cast l)) y.state) a

  abbrev c : Component
  c = with_port ((x.cast).input_port l) (joined_state (link_to x.cast l (output_at x.cast l)) z.state) d

  joined_is : (u : Component) (n : ℕ) (r t : Port) (peer : PortKey) → port_of u n ≡ Some r → r.key.port ≡ n → t.key ≡ peer → widened r t ≡ r.setting
      → joined_to t (supplier_of x.cast l) r u ≡ with_port n (joined_state (link_to x.cast l peer) r.state) u
  joined_is u n r t peer h m key s =
      let whole : with_setting r.key.port (widened r t) u.settings ≡ u.settings = (λ i. with_setting (m i) (s i) u.settings) ∙ settings_are u n r h in
      λ i. with_port (m i) (record r.state { link = Some (record { peer = key i; supplier = supplier_of x.cast l }) }) (record u { settings = whole i })

  pub both_are : both_joined (agreed_of y z) (script_place x.cast (giver_of x.cast l)) a y (script_place x.cast (taker_of x.cast l)) d z w
      ≡ with_component (script_place x.cast (taker_of x.cast l)) c (with_component (script_place x.cast (giver_of x.cast l)) b w)
  both_are =
      let m : y.key.port ≡ (x.cast).output_port l = ap (λ (u : PortKey). u.port) (E.end).key in
      let n : z.key.port ≡ (x.cast).input_port l = ap (λ (u : PortKey). u.port) (F.end).key in
      let s = supplier in
      let o = joined_is a ((x.cast).output_port l) y z (input_at x.cast l) E.there m (F.end).key (widened_is true y z (output_at x.cast l) (input_at x.cast l) E.end F.end) in
      let i = joined_is d ((x.cast).input_port l) z y (output_at x.cast l) F.there n (E.end).key (widened_is false z y (input_at x.cast l) (output_at x.cast l) F.end E.end) in
      (λ t. both_joined (s t) (script_place x.cast (giver_of x.cast l)) a y (script_place x.cast (taker_of x.cast l)) d z w)
      ∙ (λ t. with_component (script_place x.cast (taker_of x.cast l)) (i t) (with_component (script_place x.cast (giver_of x.cast l)) (o t) w))

  abbrev v : World
  v = with_component (script_place x.cast (taker_of x.cast l)) c (with_component (script_place x.cast (giver_of x.cast l)) b w)

  sound : Sound v
  sound = subst Sound both_are (sound_joined w (script_place x.cast (giver_of x.cast l)) a ((x.cast).output_port l) y (script_place x.cast (taker_of x.cast l)) d ((x.cast).input_port l) z W.sound e E.there f F.there setup_accepted)

  step_now : (q.change l).step ≡ 8
  step_now = ap (λ (u : Change). u.step) (change_here l conducted p) ∙ ap (λ (m : ℕ). m + 1) seven

  end_now : (o : Bool) (u : Port) (at peer : PortKey) → IsEndAt x p l o at peer u → IsEndAt x q l o at peer (record u { state = joined_state (link_to x.cast l peer) u.state })
  end_now o u at peer U = end_stated x p q l o at peer u (joined_state (link_to x.cast l peer) u.state)
      (ap (joined_state (link_to x.cast l peer)) U.state ∙ (joined_again k (link_to x.cast l peer) o seven ∙ sym (ap (λ (r : Change). state_by o r (link_to x.cast l peer)) (change_here l conducted p))))
      (ap (is_set_at o) step_now ∙ (set o ∙ sym (ap (is_set_at o) seven))) U
    where
      set : (s : Bool) → is_set_at s 8 ≡ is_set_at s 7
      set true = refl
      set false = refl

  join_turned : AreTurned x recent l p l conducted w a b d c (record y { state = joined_state (link_to x.cast l (input_at x.cast l)) y.state }) (record z { state = joined_state (link_to x.cast l (output_at x.cast l)) z.state })
  join_turned = record {
    below = C.below;
    giver_inside = end_inside x recent p w W true l C.below;
    taker_inside = end_inside x recent p w W false l C.below;
    there = e;
    input_there = f;
    kind = refl;
    input_kind = refl;
    works = λ port. refl;
    input_works = λ port. refl;
    others = λ n m. port_else a n ((x.cast).output_port l) (joined_state (link_to x.cast l (input_at x.cast l)) y.state) m;
    input_others = λ n m. port_else d n ((x.cast).input_port l) (joined_state (link_to x.cast l (output_at x.cast l)) z.state) m;
    port = port_here a ((x.cast).output_port l) (joined_state (link_to x.cast l (input_at x.cast l)) y.state) y E.there;
    input_port = port_here d ((x.cast).input_port l) (joined_state (link_to x.cast l (output_at x.cast l)) z.state) z F.there;
    end = end_now true y (output_at x.cast l) (input_at x.cast l) E.end;
    input_end = end_now false z (input_at x.cast l) (output_at x.cast l) F.end;
    preferences = supplier;
    fewer = left_same x p q l refl refl (ap (λ (m : ℕ). nat_le m 4) step_now ∙ sym (ap (λ (m : ℕ). nat_le m 4) seven));
    joined = λ n r s g h t. let u : true ≡ false = sym t ∙ ap is_joined_at seven in absurd cc;
    half = later_half x recent p w W l C retuning;
  }

  pub join_plays : IsPlayWorld x l q v
  join_plays =
      let A = retuned_turn x recent p w W l C retuning true a e v refl a.settings b.ports refl actor.set_for in
      let D = retuned_turn x recent p w W l C retuning false d f v refl d.settings c.ports refl input_actor.set_for in
      both_turned x recent l p l conducted w a b d c (record y { state = joined_state (link_to x.cast l (input_at x.cast l)) y.state }) (record z { state = joined_state (link_to x.cast l (output_at x.cast l)) z.state }) W join_turned
      (turn x recent p w W l C retuning).latest (act_reaches (x.cast).layout p (Act.Conduct l) W.reached C) sound
      (actor_turned x recent l p l conducted w v (giver_of x.cast l) a b refl A actor)
      (actor_turned x recent l p l conducted w v (taker_of x.cast l) d c refl D input_actor)

-- ---- the call

joined_so : (r : Option OmxError) (result : Result Supplier OmxError) (w v : World) (o i : Option Port) (y z : Port) (u : Supplier → Port → Port → World) → r ≡ None → o ≡ Some y → i ≡ Some z
    → Answers r result w v (λ supplier. BothPorts o i (λ a b. (supplier ≡ agreed_of a b) × ClosesTo (u supplier a b) v)) → (result ≡ Ok (agreed_of y z)) × ClosesTo (u (agreed_of y z) y z) v
joined_so None (Ok t) w v o i y z u n e f h =
    let g : (t ≡ agreed_of y z) × ClosesTo (u t y z) v = rw (e, f) at h in
    (ap (λ (s : Supplier). Ok s) g.0, subst (λ (s : Supplier). ClosesTo (u s y z) v) g.0 g.1)
joined_so None (Err t) w v o i y z u n e f h = absurd h
joined_so (Some t) result w v o i y z u n e f h = absurd cc

pub join_leads : (x : PlayCast) (recent : ℕ) (p : Play) (w : World) (l : ℕ) (g h : Handle) (result : Result Supplier OmxError) (v : World) → IsPlayWorld x recent p w → CanAct (x.cast).layout p (Act.Conduct l) → (p.change l).step ≡ 7
    → Names x.cast w (giver_of x.cast l) g → Names x.cast w (taker_of x.cast l) h
    → SetupTunnel w (record { handle = g; index = (x.cast).output_port l }) (record { handle = h; index = (x.cast).input_port l }) result v
    → (result ≡ Ok (supplier_of x.cast l)) × PlayLeadsTo x l (acted (x.cast).layout (Act.Conduct l) p) v
join_leads x recent p w l g h result v W C seven N M s =
    let i : ℕ = script_place x.cast (giver_of x.cast l) in
    let j : ℕ = script_place x.cast (taker_of x.cast l) in
    let a = actor_there x recent p w (giver_of x.cast l) W (end_inside x recent p w W true l C.below) in
    let d = actor_there x recent p w (taker_of x.cast l) W (end_inside x recent p w W false l C.below) in
    let E = end_there x recent p w W true l (giver_of x.cast l) a.0 C.below refl a.1 in
    let F = end_there x recent p w W false l (taker_of x.cast l) d.0 C.below refl d.1 in
    let Then : ℕ → Component → ℕ → Component → Type 0 =
    λ i c j d. Answers (setup_refusal (look w).headers c d (port_of c ((x.cast).output_port l)) (port_of d ((x.cast).input_port l))) result w v
    (λ supplier. BothPorts (port_of c ((x.cast).output_port l)) (port_of d ((x.cast).input_port l)) (λ a b. (supplier ≡ agreed_of a b) × ClosesTo (both_joined supplier i c a j d b w) v)) in
    let r1 = resolved plain w g result v (λ i c. Resolving plain w h result v (λ j d. Then i c j d)) i a.0 N a.1 s in
    let r2 = resolved plain w h result v (λ j d. Then i a.0 j d) j d.0 M d.1 r1 in
    let t = joined_so (setup_refusal (look w).headers a.0 d.0 (port_of a.0 ((x.cast).output_port l)) (port_of d.0 ((x.cast).input_port l))) result w v (port_of a.0 ((x.cast).output_port l)) (port_of d.0 ((x.cast).input_port l)) E.port F.port
    (λ s a1 b1. both_joined s i a.0 a1 j d.0 b1 w) (setup_accepted x recent p w W l C seven a.0 d.0 a.1 d.1) E.there F.there r2 in (
      t.0 ∙ ap (λ (s : Supplier). Ok s) (supplier x recent p w W l C seven a.0 d.0 a.1 d.1),
      record {
        effect = both_joined (agreed_of E.port F.port) i a.0 E.port j d.0 F.port w;
        play = subst (λ (u : World). IsPlayWorld x l (acted (x.cast).layout (Act.Conduct l) p) u) (sym (both_are x recent p w W l C seven a.0 d.0 a.1 d.1)) (join_plays x recent p w W l C seven a.0 d.0 a.1 d.1);
        closes = t.1;
      },
    )
