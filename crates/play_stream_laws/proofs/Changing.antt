-- What the conductor makes of a late source's link keeps the streams of its world: a disable or enable is sent, the tunnel is dropped, the
-- format is set, the tunnel is set up again.
use Rattle.std.proofs.Common.{◌≡◌, inl, inr, ℕ, ◌<◌, Bool, true, false, [], ◌∷◌, ◌++◌, set, slice_get, Option, Some, None, option_map, Result, MatchOption, refl, sym, ◌∙◌, ap, subst}
use Rattle.std.proofs.lemmas.Option.{get_or_from_slice_get}
use Rattle.omx_types.specs.declared.error.OmxError.{OmxError}
use Rattle.omx_types.specs.declared.handle.Handle.{Handle}
use Rattle.omx_types.specs.declared.param.Param.{Param}
use Rattle.omx_types.specs.declared.param.Param.TheVariants as params
use Rattle.omx_types.specs.declared.param.ParamKey.{ParamKey}
use Rattle.omx_types.specs.declared.param.PortDefinition.{PortDefinition}
use Rattle.omx_types.specs.declared.param.Supplier.{Supplier}
use Rattle.il_machine.specs.declared.port.Port.{Port}
use Rattle.il_machine.specs.declared.port.PortKey.{PortKey}
use Rattle.il_machine.specs.declared.port.PortSetting.{PortSetting}
use Rattle.il_machine.specs.Answers.{plain, Answers, Resolving}
use Rattle.il_machine.specs.Commands.{SendCommand, sent}
use Rattle.il_machine.specs.Due.{ClosesTo, unheld}
use Rattle.il_machine.specs.Kinds.{is_source}
use Rattle.il_machine.specs.Look.{look}
use Rattle.il_machine.specs.Parameters.{SetParameter, set_parameter_refusal, unheld_at, with_value}
use Rattle.il_machine.specs.Parts.{terms_of}
use Rattle.il_machine.specs.Settings.{changed_by, with_setting}
use Rattle.il_machine.specs.Stepping.{format_at}
use Rattle.il_machine.specs.Tunnels.{BothPorts, DropTunnel, SetupTunnel, agreed_of, both_joined, both_parted, drop_refusal, joined_to, parted, setup_refusal, widened}
use Rattle.il_machine.specs.World.{Component, World, number_of, port_of, stream_of, with_component, with_port}
use Rattle.machine_laws.proofs.Every.{at_set, set_else}
use Rattle.machine_laws.proofs.Keys.{there_is}
use Rattle.machine_laws.proofs.Lookups.{port_parts}
use Rattle.play_model.specs.Play.{Play, component_at}
use Rattle.play_world_laws.specs.Cast.{components_of, giver_of, links_of, script_place, taker_of}
use Rattle.play_world_laws.specs.Worlds.{Names}
use Rattle.play_world_laws.proofs.Lists.{got_set, resolved}
use Rattle.play_stream_laws.specs.Contents.{PlayContents, Tells}
use Rattle.play_stream_laws.proofs.Closing.{flow_twice, keeps_twice, one_flow, one_keeps}
use Rattle.play_stream_laws.proofs.Keeping.{Keeps, seat}
use Rattle.play_world_laws.specs.PlayWorlds.{IsActorAt, IsPlayWorld, PlayCast, port_number}
use Rattle.play_world_laws.specs.Conducting.{definition_key, planned, port_command}
use Rattle.play_world_laws.proofs.ChangeEnds.{HasEnd, actor_there, end_inside, end_there}
use Rattle.play_stream_laws.specs.PlayContents.{HasPlayContents, IsSetAs}
use Rattle.play_stream_laws.specs.PlayStreams.{HasPlayStreams}
use Rattle.play_stream_laws.proofs.Acts.{act_closes, answered, set_closes, world_stays}
use Rattle.play_stream_laws.proofs.PlayClosing.{IsCalm, IsCalmAt, calm_set, calm_there, calm_world, one_calm}
use Rattle.play_stream_laws.proofs.Components.{command_streams}
use Rattle.play_stream_laws.proofs.Setting.{set_planned, terms_stay}

-- a component that is set, works and is as before, but for its ports
record IsPorted (a d : Component) : Type 0 where
  seat_is : seat d ≡ seat a
  work : d.work ≡ a.work
  part : d.part ≡ a.part
  calm : IsCalmAt a → IsCalmAt d

both_ports : (o q : Option Port) (Then : Port → Port → Type 0) → BothPorts o q Then → (y : Port) × (z : Port) × (o ≡ Some y) × (q ≡ Some z) × Then y z
both_ports o q Then h =
    let a = there_is o (λ y. MatchOption q ⊥ (λ z. Then y z)) h in
    let b = there_is q (λ z. Then a.0 z) a.2 in
    (a.0, b.0, a.1, b.1, b.2)

parted_ported : (a : Component) (n : ℕ) (y : Port) → port_of a n ≡ Some y → IsPorted a (parted y a)
parted_ported a n y e = record {
  seat_is = refl;
  work = refl;
  part = refl;
  calm = λ Q. record { ports = calm_set a.ports y.key.port (record y.state { link = None }) (calm_there a n y e Q) Q.ports; pending = Q.pending };
}

joined_ported : (a : Component) (n : ℕ) (y z : Port) (supplier : Supplier) → port_of a n ≡ Some y → IsPorted a (joined_to z supplier y a)
joined_ported a n y z supplier e =
    let P = port_parts a n y e in
    let index : y.key.port ≡ n = ap (λ (k : PortKey). k.port) P.key in
    let terms : terms_of (record a { settings = with_setting y.key.port (widened y z) a.settings }) ≡ terms_of a = terms_stay a y.key.port y.setting (widened y z) (ap (slice_get a.settings.ports) index ∙ P.setting) refl in
    record {
      seat_is = λ i. (terms i, number_of a);
      work = refl;
      part = refl;
      calm = λ Q. record { ports = calm_set a.ports y.key.port (record y.state { link = Some (record { peer = z.key; supplier = supplier }) }) (calm_there a n y e Q) Q.ports; pending = Q.pending };
    }

module _ (x : PlayCast) (k : PlayContents) (recent later : ℕ) (p q : Play) (w v : World) (W : IsPlayWorld x recent p w) (H : HasPlayStreams x k p w) (V : IsPlayWorld x later q v) (same : q.phase ≡ p.phase) (l : ℕ) (b : l < links_of x.cast) where
  pub sent_streams : (output disables : Bool) (h : Handle) (result : Result (Unit {0}) OmxError) → Names x.cast w (component_at (x.cast).layout output l) h → SendCommand w h (port_command disables (port_number x.cast output l)) result v → HasPlayStreams x k q v
  sent_streams output disables h result N s =
      command_streams x k recent later p q w v W H V same (component_at (x.cast).layout output l) h (end_inside x recent p w W output l b) N (port_command disables (port_number x.cast output l)) (waits disables (port_number x.cast output l)) result s
    where
      waits : (disables : Bool) (port : ℕ) (a : Component) → sent (port_command disables port) a ≡ record a { commands = a.commands ++ port_command disables port ∷ [] }
      waits true port a = refl
      waits false port a = refl

  -- ---- both components

  abbrev i : ℕ
  i = script_place x.cast (giver_of x.cast l)

  abbrev j : ℕ
  j = script_place x.cast (taker_of x.cast l)

  giver : (a : Component) × (slice_get w.components i ≡ Some a) × IsActorAt x recent p w (giver_of x.cast l) a
  giver = actor_there x recent p w (giver_of x.cast l) W (end_inside x recent p w W true l b)

  taker : (a : Component) × (slice_get w.components j ≡ Some a) × IsActorAt x recent p w (taker_of x.cast l) a
  taker = actor_there x recent p w (taker_of x.cast l) W (end_inside x recent p w W false l b)

  both_close : (c d : Component) (u : World) → u.components ≡ set (set w.components i c) j d → u.streams ≡ w.streams → u.headers ≡ w.headers → IsPorted giver.0 c → IsPorted taker.0 d → ClosesTo u v → HasPlayStreams x k q v
  both_close c d u e s hs C D closes =
      let m : World = with_component i c w in
      let there : slice_get m.components j ≡ Some taker.0 = set_else w.components i j c (λ z. (W.wired l b).apart (sym z)) ∙ taker.1 in
      let K : Keeps w u = keeps_twice w m u (one_keeps w m i giver.0 c giver.1 refl refl C.seat_is) (one_keeps m u j taker.0 d there e s D.seat_is) in
      act_closes x k recent later p q w v W H V same u K (λ two.
      let all = calm_world x recent p w W two in
      let middle : IsCalm m = one_calm w m i c refl (C.calm (all i giver.0 giver.1)) all in (
        flow_twice x.cast w m u (one_flow w m i giver.0 c giver.1 refl x.cast refl C.work C.part) (one_flow m u j taker.0 d there e x.cast hs D.work D.part),
        one_calm m u j d e (D.calm (middle j taker.0 there)) middle,
      ))
      closes

  module _ (g h : Handle) (M : Names x.cast w (giver_of x.cast l) g) (N : Names x.cast w (taker_of x.cast l) h) where
    -- a call that names both components
    both_named : {T : Type 0} (result : Result T OmxError) (Then : ℕ → Component → ℕ → Component → Type 0) → Resolving plain w g result v (λ n c. Resolving plain w h result v (λ m d. Then n c m d)) → Then i giver.0 j taker.0
    both_named result Then s = resolved plain w h result v (λ m d. Then i giver.0 m d) j taker.0 N taker.1 (resolved plain w g result v (λ n c. Resolving plain w h result v (λ m d. Then n c m d)) i giver.0 M giver.1 s)

    pub dropped_streams : (result : Result (Unit {0}) OmxError) → DropTunnel w (record { handle = g; index = (x.cast).output_port l }) (record { handle = h; index = (x.cast).input_port l }) result v → HasPlayStreams x k q v
    dropped_streams result s =
        let o : Option Port = port_of giver.0 ((x.cast).output_port l) in
        let r : Option Port = port_of taker.0 ((x.cast).input_port l) in
        let A = both_named result (λ n c m d. Answers (drop_refusal (look w).headers (port_of c ((x.cast).output_port l)) (port_of d ((x.cast).input_port l))) result w v (λ _. BothPorts (port_of c ((x.cast).output_port l)) (port_of d ((x.cast).input_port l)) (λ y z. ClosesTo (both_parted n c y m d z w) v))) s in
        elim (answered (drop_refusal (look w).headers o r) result w v (λ _. BothPorts o r (λ y z. ClosesTo (both_parted i giver.0 y j taker.0 z w) v)) A) [
          | inl e ↦ world_stays x k recent later p q w v W H V same e
          | inr t ↦
              let B = both_ports o r (λ y z. ClosesTo (both_parted i giver.0 y j taker.0 z w) v) t.1 in
              both_close (parted B.0 giver.0) (parted B.1 taker.0) (both_parted i giver.0 B.0 j taker.0 B.1 w) refl refl refl (parted_ported giver.0 ((x.cast).output_port l) B.0 B.2) (parted_ported taker.0 ((x.cast).input_port l) B.1 B.3) B.4
        ]

    pub joined_streams : (result : Result Supplier OmxError) → SetupTunnel w (record { handle = g; index = (x.cast).output_port l }) (record { handle = h; index = (x.cast).input_port l }) result v → HasPlayStreams x k q v
    joined_streams result s =
        let o : Option Port = port_of giver.0 ((x.cast).output_port l) in
        let r : Option Port = port_of taker.0 ((x.cast).input_port l) in
        let A = both_named result (λ n c m d. Answers (setup_refusal (look w).headers c d (port_of c ((x.cast).output_port l)) (port_of d ((x.cast).input_port l))) result w v
        (λ supplier. BothPorts (port_of c ((x.cast).output_port l)) (port_of d ((x.cast).input_port l)) (λ y z. (supplier ≡ agreed_of y z) × ClosesTo (both_joined supplier n c y m d z w) v))) s in
        elim (answered (setup_refusal (look w).headers giver.0 taker.0 o r) result w v (λ supplier. BothPorts o r (λ y z. (supplier ≡ agreed_of y z) × ClosesTo (both_joined supplier i giver.0 y j taker.0 z w) v)) A) [
          | inl e ↦ world_stays x k recent later p q w v W H V same e
          | inr t ↦
              let B = both_ports o r (λ y z. (t.0 ≡ agreed_of y z) × ClosesTo (both_joined t.0 i giver.0 y j taker.0 z w) v) t.1 in
              both_close (joined_to B.1 t.0 B.0 giver.0) (joined_to B.0 t.0 B.1 taker.0) (both_joined t.0 i giver.0 B.0 j taker.0 B.1 w) refl refl refl (joined_ported giver.0 ((x.cast).output_port l) B.0 B.1 t.0 B.2) (joined_ported taker.0 ((x.cast).input_port l) B.1 B.0 t.0 B.3) (B.4).1
        ]

-- ---- the format is set

module _ (x : PlayCast) (k : PlayContents) (recent later : ℕ) (p q : Play) (w v : World) (W : IsPlayWorld x recent p w) (H : HasPlayStreams x k p w) (V : IsPlayWorld x later q v) (same : q.phase ≡ p.phase) (l : ℕ) (b : l < links_of x.cast) (late : ((x.cast).layout).is_late l ≡ true) (o : Bool) where
  abbrev c : ℕ
  c = component_at (x.cast).layout o l

  abbrev place : ℕ
  place = script_place x.cast c

  abbrev port : ℕ
  port = port_number x.cast o l

  abbrev D : PortDefinition
  D = planned x o l

  below : c < components_of x.cast
  below = end_inside x recent p w W o l b

  its : (a : Component) × (slice_get w.components place ≡ Some a) × IsActorAt x recent p w c a
  its = actor_there x recent p w c W below

  abbrev a : Component
  a = its.0

  E : HasEnd x p l o a
  E = end_there x recent p w W o l c a b refl its.1

  abbrev y : Port
  y = E.port

  abbrev setting : PortSetting
  setting = record y.setting { definition = D }

  -- the component then
  abbrev d : Component
  d = with_port port (unheld y.state) (record a { settings = with_setting port setting a.settings })

  abbrev u : World
  u = with_component place d w

  setting_there : slice_get a.settings.ports port ≡ Some y.setting
  setting_there = (port_parts a port y E.there).setting

  set_is : with_value (definition_key port) (params.Port D) a ≡ d
  set_is =
      let key : y.key.port ≡ port = ap (λ (z : PortKey). z.port) (port_parts a port y E.there).key in
      let changed : changed_by port (params.Port D) a.settings ≡ with_setting port setting a.settings = ap (λ (s : PortSetting). with_setting port (record s { definition = D }) a.settings) (get_or_from_slice_get a.settings.ports port y.setting _ setting_there) in
      ap (λ (r : Option Port). unheld_at r (record a { settings = changed_by port (params.Port D) a.settings })) E.there
      ∙ (λ t. with_port (key t) (unheld y.state) (record a { settings = changed t }))

  planned_there : format_at (k.terms c) port ≡ x.format l
  planned_there = by_side o
    where
      by_side : (s : Bool) → format_at (k.terms (component_at (x.cast).layout s l)) (port_number x.cast s l) ≡ x.format l
      by_side true = (H.contents).late_output l b late
      by_side false = (H.contents).late_input l b late

  set_terms : IsSetAs (terms_of d) (k.terms c)
  set_terms = set_planned a (k.terms c) port y.setting setting setting_there planned_there ((H.contents).terms c a below its.1)

  -- a component is the one that is set, or as it was
  set_contents : HasPlayContents x k u
  set_contents =
      let C = H.contents in
      record {
        lawful = C.lawful;
        terms = λ n r m e. elim (at_set w.components place (script_place x.cast n) d r e) [
          | inl z ↦
              let this : c ≡ n = (W.cast_is).apart c n below m (sym z.0) in
              subst (λ (s : Component). IsSetAs (terms_of s) (k.terms n)) (sym z.1) (subst (λ (s : ℕ). IsSetAs (terms_of d) (k.terms s)) this set_terms)
          | inr z ↦ C.terms n r m z.1
        ];
        late_output = C.late_output;
        late_input = C.late_input;
        parts = C.parts;
        files = λ n r m e f. elim (at_set w.components place (script_place x.cast n) d r e) [
          | inl z ↦
              let there : slice_get w.components (script_place x.cast n) ≡ Some a = ap (slice_get w.components) z.0 ∙ its.1 in
              let source = sym (ap (λ (s : Component). is_source s.settings.kind) z.1) ∙ f in
              subst (λ (s : Component). MatchOption (stream_of (number_of s) w) ⊥ (λ t. Tells t.known ((k.model).file n))) (sym z.1) (C.files n a m there source)
          | inr z ↦ C.files n r m z.1 f
        ];
        outputs = C.outputs;
        inputs = C.inputs;
        units = C.units;
      }

  pub set_streams : (h : Handle) (result : Result (Unit {0}) OmxError) → Names x.cast w c h → SetParameter w h (definition_key port) (params.Port D) result v → HasPlayStreams x k q v
  set_streams h result N s =
      let key : ParamKey = definition_key port in
      let value : Param = params.Port D in
      let r = resolved plain w h result v (λ i d. Answers (set_parameter_refusal (look w).headers d key value) result w v (λ _. ClosesTo (with_component i (with_value key value d) w) v)) place a N its.1 s in
      elim (answered (set_parameter_refusal (look w).headers a key value) result w v (λ _. ClosesTo (with_component place (with_value key value a) w) v) r) [
        | inl e ↦ world_stays x k recent later p q w v W H V same e
        | inr t ↦ set_closes x k recent later p q w v W H V same u
            (record { streams = refl; numbers = λ n. got_set (option_map number_of) w.components place n a d its.1 refl })
            set_contents
            (λ two.
            let all = calm_world x recent p w W two in
            let Q = all place a its.1 in (
              one_flow w u place a d its.1 refl x.cast refl refl refl,
              one_calm w u place d refl (record { ports = calm_set a.ports port (unheld y.state) (calm_there a port y E.there Q) Q.ports; pending = Q.pending }) all,
            ))
            (subst (λ (z : Component). ClosesTo (with_component place z w) v) set_is t.1)
      ]
