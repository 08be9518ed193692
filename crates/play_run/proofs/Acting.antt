-- The acts of the conductor on a link that is being changed.
use Rattle.std.proofs.Common.{◌≡◌, ◌+◌, ◌<◌, ℕ, Bool, true, false, List, [], ◌∷◌, ◌++◌, drop, Ok, Result, refl, sym, ◌∙◌, ap, subst, arith}
use Rattle.std.specs.Prelude.{slice_index_or}
use Rattle.std.proofs.lemmas.Option.{get_or_from_slice_get}
use Rattle.omx_types.specs.declared.command.Command.{Command}
use Rattle.omx_types.specs.declared.error.OmxError.{OmxError}
use Rattle.omx_types.specs.declared.handle.Handle.{Handle}
use Rattle.omx_types.specs.declared.handle.PortId.{PortId}
use Rattle.omx_types.specs.declared.param.Param.TheVariants as params
use Rattle.omx_types.specs.declared.param.ParamKey.{ParamKey}
use Rattle.omx_types.specs.declared.param.PortDefinition.{PortDefinition}
use Rattle.omx_types.specs.declared.param.Supplier.{Supplier}
use Rattle.omx_types.specs.declared.param.Supplier.TheVariants as suppliers
use Rattle.il_machine.specs.declared.answer.Progress.{Progress}
use Rattle.il_machine.specs.declared.port.PortKey.{PortKey}
use Rattle.il_machine.specs.Acts.{Act, Reply}
use Rattle.il_machine.specs.Acts as acts
use Rattle.il_machine.specs.Commands.{SendCommand}
use Rattle.il_machine.specs.Parameters.{SetParameter}
use Rattle.il_machine.specs.Tunnels.{DropTunnel, SetupTunnel}
use Rattle.il_machine.specs.Whole.{Steps}
use Rattle.il_machine.specs.World.{World}
use Rattle.graph_core.specs.Clients.{KeepsAllClients}
use Rattle.il_graph.specs.Shown.{Shown}
use Rattle.il_graph.proofs.PartsStay.{step_stays}
use Rattle.conductor.specs.declared.phase.ChangeStep.{ChangeStep}
use Rattle.conductor.specs.declared.phase.ChangeStep.TheVariants.{Retune}
use Rattle.play_model.specs.Play.{Play, component_at}
use Rattle.act_text.specs.declared.text.ActText.{ActText}
use Rattle.act_text.specs.declared.name.PortName.{PortName}
use Rattle.play_log.specs.Said.{SaysOf, SaysOfBoth, SaysPort}
use Rattle.play_log.specs.Kept.{LogValue}
use Rattle.play_log.specs.Saying.{port_at}
use Rattle.play_log.specs.Scenes.{scene_of}
use Rattle.play_world_laws.specs.Cast.{giver_of, links_of, taker_of}
use Rattle.play_world_laws.specs.Worlds.{Names}
use Rattle.part_forms.specs.Kinds.{is_input}
use Rattle.play_forms.specs.Parts.{kind_of}
use Rattle.play_plan_laws.specs.Casting.{flow_of, joint_of}
use Rattle.play_stream_laws.specs.Contents.{PlayContents}
use Rattle.play_world_laws.specs.PlayWorlds.{IsPlayWorld, PlayCast, port_number}
use Rattle.play_world_laws.specs.Conducting.{IsSendAt, IsSetStep, definition_key, planned, port_command}
use Rattle.play_world_laws.proofs.Dropping.{drop_leads}
use Rattle.play_world_laws.proofs.Joining.{join_leads}
use Rattle.play_world_laws.proofs.Sending.{send_leads}
use Rattle.play_world_laws.proofs.Setting.{set_leads}
use Rattle.play_turn_laws.specs.Conducting.{step_from}
use Rattle.play_stream_laws.specs.PlayStreams.{HasPlayStreams}
use Rattle.play_build_laws.specs.Assembly.{Assembly, definition_of}
use Rattle.play_build_laws.specs.Building.{handle_at, no_handle}
use Rattle.play_forms.specs.declared.joint.Joint.{Joint}
use Rattle.play_plan_laws.specs.Assemblies.{end_of, play_cast_of}
use Rattle.play_result_laws.specs.Asked.{acts_of as asked_acts, is_asked, tuned}
use Rattle.play_graph.specs.declared.link_end.End.{End}
use Rattle.play_graph.specs.declared.link_end.End.TheVariants.{Input, Output}
use Rattle.play_graph.specs.Graphs.{IsHandleAt, kept_of}
use Rattle.play_graph.specs.LinkEnds.{at_input, at_output, index_by, place_by}
use Rattle.play_run.specs.Asking.{Asks, asking_of, handles_of}
use Rattle.play_run.specs.Changing.{ChangesTo, IsChanging, acts_of, sending, sent_as, set_as}
use Rattle.play_run.specs.Playing.{AsksIn, IsStanding, PlayingValue}
use Rattle.play_run.specs.Recording.{IsNameAt, IsTold, IsToldOf, IsToldOfBoth, IsToldOfPort}
use Rattle.play_run.proofs.Answering.{keeps_in, with_both}
use Rattle.play_run.proofs.Ends.{end_index, end_input, end_named}
use Rattle.play_run.proofs.Files.{told_same}
use Rattle.play_run.proofs.Asking.{asked_on}
use Rattle.play_run.proofs.Onward.{act_made, left_of}
use Rattle.play_run.proofs.Recording.{both_on, goes_on, is_player, one_more}
use Rattle.play_run.proofs.Working.{still_none}

-- ---- what an act on a link leaves of the streams, as the law of changed streams has it

abbrev pub SentStreams : Type 0
SentStreams = (x : PlayCast) (k : PlayContents) (recent later : ℕ) (p q : Play) (w v : World) (l : ℕ) (output disables : Bool) (h : Handle) (result : Result (Unit {0}) OmxError)
    → IsPlayWorld x recent p w → HasPlayStreams x k p w → IsPlayWorld x later q v → q.phase ≡ p.phase → l < links_of x.cast
    → Names x.cast w (component_at (x.cast).layout output l) h
    → SendCommand w h (port_command disables (port_number x.cast output l)) result v → HasPlayStreams x k q v

abbrev pub DroppedStreams : Type 0
DroppedStreams = (x : PlayCast) (k : PlayContents) (recent later : ℕ) (p q : Play) (w v : World) (l : ℕ) (g h : Handle) (result : Result (Unit {0}) OmxError)
    → IsPlayWorld x recent p w → HasPlayStreams x k p w → IsPlayWorld x later q v → q.phase ≡ p.phase → l < links_of x.cast
    → Names x.cast w (giver_of x.cast l) g → Names x.cast w (taker_of x.cast l) h
    → DropTunnel w (record { handle = g; index = (x.cast).output_port l }) (record { handle = h; index = (x.cast).input_port l }) result v → HasPlayStreams x k q v

abbrev pub SetStreams : Type 0
SetStreams = (x : PlayCast) (k : PlayContents) (recent later : ℕ) (p q : Play) (w v : World) (l : ℕ) (output : Bool) (h : Handle) (result : Result (Unit {0}) OmxError)
    → IsPlayWorld x recent p w → HasPlayStreams x k p w → IsPlayWorld x later q v → q.phase ≡ p.phase → l < links_of x.cast
    → ((x.cast).layout).is_late l ≡ true → Names x.cast w (component_at (x.cast).layout output l) h
    → SetParameter w h (definition_key (port_number x.cast output l)) (params.Port (planned x output l)) result v → HasPlayStreams x k q v

abbrev pub JoinedStreams : Type 0
JoinedStreams = (x : PlayCast) (k : PlayContents) (recent later : ℕ) (p q : Play) (w v : World) (l : ℕ) (g h : Handle) (result : Result Supplier OmxError)
    → IsPlayWorld x recent p w → HasPlayStreams x k p w → IsPlayWorld x later q v → q.phase ≡ p.phase → l < links_of x.cast
    → Names x.cast w (giver_of x.cast l) g → Names x.cast w (taker_of x.cast l) h
    → SetupTunnel w (record { handle = g; index = (x.cast).output_port l }) (record { handle = h; index = (x.cast).input_port l }) result v → HasPlayStreams x k q v

-- ---- which act of its step it is

few_sent : (end : End) (disables : Bool) → sent_as end < acts_of (sending disables)
few_sent Output true = omega arith
few_sent Input true = omega arith
few_sent Output false = omega arith
few_sent Input false = omega arith

sent_at : (end : End) (disables : Bool) (n : ℕ) → n ≡ step_from (sending disables) + sent_as end → IsSendAt (at_output end) disables n
sent_at Output true n e = e
sent_at Input true n e = e
sent_at Output false n e = e
sent_at Input false n e = e

few_set : (end : End) → set_as end < 4
few_set Output = omega arith
few_set Input = omega arith

set_at : (end : End) (n : ℕ) → n ≡ 4 + set_as end → IsSetStep (at_output end) n
set_at Output n e = e
set_at Input n e = e

-- a port by its number
port_is : (port : PortId) (n : ℕ) → port.index ≡ n → port ≡ record { handle = port.handle; index = n }
port_is port n e = λ i. record { handle = port.handle; index = e i }

-- ---- what is asked by it

end_at : (end : End) (j : Joint) → end_of (at_input end) j ≡ record { component = place_by end j; port = index_by end j }
end_at Output j = refl
end_at Input j = refl

-- the acts of a step, from the next one on
port_next : (s : Assembly) (handles : List Handle) (end : End) (disables : Bool) (l : ℕ) → drop (sent_as end) (asked_acts s handles (asking_of (sending disables) l))
    ≡ (acts.SendCommand (handle_at s handles (at_input end) l) (port_command disables (s.end (at_input end) l).port), acts.Plain (Ok tt)) ∷ drop (sent_as end + 1) (asked_acts s handles (asking_of (sending disables) l))
port_next s handles Output true l = refl
port_next s handles Input true l = refl
port_next s handles Output false l = refl
port_next s handles Input false l = refl

set_next : (s : Assembly) (handles : List Handle) (end : End) (l : ℕ) → drop (set_as end) (asked_acts s handles (asking_of Retune l))
    ≡ (acts.SetParameter (handle_at s handles (at_input end) l) (definition_key (s.end (at_input end) l).port) (params.Port (definition_of s (at_input end) l)), acts.Plain (Ok tt)) ∷ drop (set_as end + 1) (asked_acts s handles (asking_of Retune l))
set_next s handles Output l = refl
set_next s handles Input l = refl

module _ {S K : Type 0} (x : PlayingValue S K) (g : Shown S K Progress) (log : LogValue) (l : ℕ) (keeps : KeepsAllClients x.graph.core g.core) where
  abbrev the : (p : Play) → IsStanding x p → Assembly
  the p Z = tuned x.plan Z.files

  -- the handle of the component at the end
  handle_is : (p : Play) (Z : IsStanding x p) (end : End) (h : Handle) → IsHandleAt x.graph (place_by end (joint_of x.plan l)) h → (name : List ℕ) → IsNameAt x.plan.parts (place_by end (joint_of x.plan l)) name
      → handle_at (the p Z) (handles_of Z.opening) (at_input end) l ≡ h
  handle_is p Z end h H name N =
      ap (λ (k : PortKey). slice_index_or (handles_of Z.opening) k.component no_handle) (end_at end (joint_of x.plan l))
      ∙ get_or_from_slice_get (handles_of Z.opening) (place_by end (joint_of x.plan l)) h no_handle (is_player x p Z (place_by end (joint_of x.plan l)) h H name N).handle

  -- the next act of a step is asked: it is what is left first
  goes_next : (step : ChangeStep) (made : ℕ) (p : Play) (Y : IsChanging x p l step made) (a : Act × Reply) → is_asked a ≡ true
      → drop made (asked_acts (the p Y.standing) (handles_of Y.standing.opening) (asking_of step l)) ≡ a ∷ left_of x p l step (made + 1) Y.standing
      → (xs : List (Act × Reply)) → AsksIn x p Y.standing xs → Asks x.plan Y.standing.files Y.standing.opening l x.conductor (left_of x p l step (made + 1) Y.standing) (xs ++ a ∷ [])
  goes_next step made p Y a t next xs A =
      let Z = Y.standing in
      let now = subst (λ (r : ℕ). Asks x.plan Z.files Z.opening r x.conductor Z.left xs) Y.recent A in
      asked_on x.plan Z.files Z.opening l x.conductor a (left_of x p l step (made + 1) Z) xs t (subst (λ (left : List (Act × Reply)). Asks x.plan Z.files Z.opening l x.conductor left xs) (Y.left ∙ next) now)

  -- ---- a disable or an enable is sent to an end

  module _ (end : End) (h : Handle) (index : ℕ) (r : Result (Unit {0}) OmxError) (H : IsHandleAt x.graph (place_by end (joint_of x.plan l)) h) (I : index ≡ index_by end (joint_of x.plan l)) where
    pub sends_port : (disables : Bool) → IsToldOf x.plan.parts (place_by end (joint_of x.plan l)) x.log (λ k. acts.SendCommand k (port_command disables index)) (acts.Plain (Ok tt)) log
        → Steps (kept_of x.graph) (kept_of g) (λ w v. SendCommand w h (port_command disables index) r v) → SentStreams → ChangesTo x (with_both x g log) l (sending disables) (sent_as end) (sent_as end + 1)
    sends_port disables told steps streams = λ p Y.
        let y = play_cast_of x.plan in
        let Z = Y.standing in
        let w = Z.world in
        let W = (Z.conducted).play in
        let O = Y.on in
        let b = (O.of_link).below in
        let v = steps w Z.stands in
        let command = port_command disables index in
        let N = end_named x p Z l end h b H in
        let s : SendCommand w h (port_command disables (port_number y.cast (at_output end) l)) r v.0 = subst (λ (n : ℕ). SendCommand w h (port_command disables n) r v.0) (I ∙ end_index x.plan l end) v.2 in
        let L = send_leads y Z.recent p w l (at_output end) disables h r v.0 W (O.can (few_sent end disables)) (sent_at end disables (p.change l).step O.gone) N s in
        act_made x g log l (sending disables) (sent_as end) p Y v.0 (few_sent end disables) v.1
        (still_none w (acts.SendCommand h command) (acts.Plain r) v.0 W.sound tt v.2 (λ n. refl) Z.works)
        (keeps_in x.graph.core g.core keeps Z.clients) L.1
        (goes_on x p Z (place_by end (joint_of x.plan l)) h H (Asks x.plan Z.files Z.opening l x.conductor (left_of x p l (sending disables) (sent_as end + 1) Z)) v.0 (λ k. acts.SendCommand k command) (acts.Plain (Ok tt)) log told refl tt
        (subst (λ (a : Result (Unit {0}) OmxError). SendCommand w h command a v.0) L.0 v.2) tt (λ n. refl)
        (goes_next (sending disables) (sent_as end) p Y (acts.SendCommand h command, acts.Plain (Ok tt)) refl
        (let f = handle_is p Z end h H told.name told.named in
        let k : ((the p Z).end (at_input end) l).port ≡ index = ap (λ (key : PortKey). key.port) (end_at end (joint_of x.plan l)) ∙ sym I in
        port_next (the p Z) (handles_of Z.opening) end disables l ∙ (λ i. (acts.SendCommand (f i) (port_command disables (k i)), acts.Plain (Ok tt)) ∷ left_of x p l (sending disables) (sent_as end + 1) Z))))
        (λ k later q F V e. streams y k Z.recent later p q w v.0 l (at_output end) disables h r W F V e b N s)
        (told_same Z.opening w v.0 Z.told (step_stays w W.sound (acts.SendCommand h command) (acts.Plain r) v.0 tt tt v.2).streams)

    -- ---- the definition of an end is set

    pub sets_port : IsToldOfPort x.plan.parts (place_by end (joint_of x.plan l)) index x.log (flow_of x.plan l).format (joint_of x.plan l).count (joint_of x.plan l).size log
        → Steps (kept_of x.graph) (kept_of g) (λ w v. SetParameter w h (definition_key index) (params.Port (planned (play_cast_of x.plan) (at_output end) l)) r v) → SetStreams
        → ChangesTo x (with_both x g log) l Retune (set_as end) (set_as end + 1)
    sets_port told steps streams = λ p Y.
        let y = play_cast_of x.plan in
        let Z = Y.standing in
        let w = Z.world in
        let W = (Z.conducted).play in
        let O = Y.on in
        let b = (O.of_link).below in
        let v = steps w Z.stands in
        let act = acts.SetParameter h (definition_key index) (params.Port (planned y (at_output end) l)) in
        let N = end_named x p Z l end h b H in
        let s : SetParameter w h (definition_key (port_number y.cast (at_output end) l)) (params.Port (planned y (at_output end) l)) r v.0 = subst (λ (n : ℕ). SetParameter w h (definition_key n) (params.Port (planned y (at_output end) l)) r v.0) (I ∙ end_index x.plan l end) v.2 in
        let L = set_leads y Z.recent p w l (at_output end) h r v.0 W (O.can (few_set end)) (set_at end (p.change l).step O.gone) N s in
        let P = is_player x p Z (place_by end (joint_of x.plan l)) h H told.name told.named in
        let input = (ap (is_input (kind_of (told.named).part.form)) I ∙ end_input x.plan l end (told.named).part Z.valid b (told.named).line) in
        act_made x g log l Retune (set_as end) p Y v.0 (few_set end) v.1
        (still_none w act (acts.Plain r) v.0 W.sound tt v.2 (λ n. refl) Z.works)
        (keeps_in x.graph.core g.core keeps Z.clients) L.1
        (one_more x.plan.parts Z.opening w v.0 x.log log (AsksIn x p Z) (Asks x.plan Z.files Z.opening l x.conductor (left_of x p l Retune (set_as end + 1) Z)) Z.recorded told.said act (acts.Plain (Ok tt)) told.told
        (told.says (scene_of x.plan.parts Z.opening) (place_by end (joint_of x.plan l)) (told.named).part h (at_input end) P input) refl tt
        (subst (λ (a : Result (Unit {0}) OmxError). SetParameter w h (definition_key index) (params.Port (planned y (at_output end) l)) a v.0) L.0 v.2) tt (λ n. refl)
        (goes_next Retune (set_as end) p Y (act, acts.Plain (Ok tt)) refl
        (let f = handle_is p Z end h H told.name told.named in
        let k : ((the p Z).end (at_input end) l).port ≡ index = ap (λ (key : PortKey). key.port) (end_at end (joint_of x.plan l)) ∙ sym I in
        set_next (the p Z) (handles_of Z.opening) end l ∙ (λ i. (acts.SetParameter (f i) (definition_key (k i)) (params.Port (planned y (at_output end) l)), acts.Plain (Ok tt)) ∷ left_of x p l Retune (set_as end + 1) Z))))
        (λ k later q F V e. streams y k Z.recent later p q w v.0 l (at_output end) h r W F V e b (O.of_link).late N s)
        (told_same Z.opening w v.0 Z.told (step_stays w W.sound act (acts.Plain r) v.0 tt tt v.2).streams)

  -- ---- the tunnel

  module _ (output input : PortId) (G : IsHandleAt x.graph (joint_of x.plan l).giver output.handle) (H : IsHandleAt x.graph (joint_of x.plan l).taker input.handle) (I : output.index ≡ (joint_of x.plan l).output) (J : input.index ≡ (joint_of x.plan l).input) where
    abbrev first : PortId
    first = record { handle = output.handle; index = (joint_of x.plan l).output }

    abbrev second : PortId
    second = record { handle = input.handle; index = (joint_of x.plan l).input }

    pub drops : (r : Result (Unit {0}) OmxError) → IsToldOfBoth x.plan.parts (joint_of x.plan l).giver (joint_of x.plan l).taker x.log (λ h k. acts.DropTunnel (port_at h (joint_of x.plan l).output) (port_at k (joint_of x.plan l).input)) (acts.Plain (Ok tt)) log
        → Steps (kept_of x.graph) (kept_of g) (λ w v. DropTunnel w output input r v) → DroppedStreams → ChangesTo x (with_both x g log) l Retune 0 1
    drops r told steps streams = λ p Y.
        let y = play_cast_of x.plan in
        let Z = Y.standing in
        let w = Z.world in
        let W = (Z.conducted).play in
        let O = Y.on in
        let b = (O.of_link).below in
        let v = steps w Z.stands in
        let act = acts.DropTunnel first second in
        let M = end_named x p Z l Output output.handle b G in
        let N = end_named x p Z l Input input.handle b H in
        let s : DropTunnel w first second r v.0 = subst (λ (b : PortId). DropTunnel w first b r v.0) (port_is input (joint_of x.plan l).input J) (subst (λ (a : PortId). DropTunnel w a input r v.0) (port_is output (joint_of x.plan l).output I) v.2) in
        let L = drop_leads y Z.recent p w l output.handle input.handle r v.0 W (O.can (omega arith)) O.gone M N s in
        act_made x g log l Retune 0 p Y v.0 (omega arith) v.1
        (still_none w act (acts.Plain r) v.0 W.sound tt s (λ n. refl) Z.works)
        (keeps_in x.graph.core g.core keeps Z.clients) L.1
        (both_on x p Z (joint_of x.plan l).giver (joint_of x.plan l).taker output.handle input.handle G H (Asks x.plan Z.files Z.opening l x.conductor (left_of x p l Retune (0 + 1) Z)) v.0 (λ h k. acts.DropTunnel (port_at h (joint_of x.plan l).output) (port_at k (joint_of x.plan l).input)) (acts.Plain (Ok tt)) log told refl tt
        (subst (λ (a : Result (Unit {0}) OmxError). DropTunnel w first second a v.0) L.0 s) tt (λ n. refl)
        (goes_next Retune 0 p Y (act, acts.Plain (Ok tt)) refl
        (let f = handle_is p Z Output output.handle G told.first told.named in
        let m = handle_is p Z Input input.handle H told.second told.beside in
        λ i. (acts.DropTunnel (record { handle = f i; index = (joint_of x.plan l).output }) (record { handle = m i; index = (joint_of x.plan l).input }), acts.Plain (Ok tt)) ∷ left_of x p l Retune (0 + 1) Z)))
        (λ k later q F V e. streams y k Z.recent later p q w v.0 l output.handle input.handle r W F V e b M N s)
        (told_same Z.opening w v.0 Z.told (step_stays w W.sound act (acts.Plain r) v.0 tt tt s).streams)

    pub joins : (r : Result Supplier OmxError) → IsToldOfBoth x.plan.parts (joint_of x.plan l).giver (joint_of x.plan l).taker x.log (λ h k. acts.SetupTunnel (port_at h (joint_of x.plan l).output) (port_at k (joint_of x.plan l).input)) (acts.Joined (Ok suppliers.Input)) log
        → Steps (kept_of x.graph) (kept_of g) (λ w v. SetupTunnel w output input r v) → JoinedStreams → ChangesTo x (with_both x g log) l Retune 3 4
    joins r told steps streams = λ p Y.
        let y = play_cast_of x.plan in
        let Z = Y.standing in
        let w = Z.world in
        let W = (Z.conducted).play in
        let O = Y.on in
        let b = (O.of_link).below in
        let v = steps w Z.stands in
        let act = acts.SetupTunnel first second in
        let M = end_named x p Z l Output output.handle b G in
        let N = end_named x p Z l Input input.handle b H in
        let s : SetupTunnel w first second r v.0 = subst (λ (b : PortId). SetupTunnel w first b r v.0) (port_is input (joint_of x.plan l).input J) (subst (λ (a : PortId). SetupTunnel w a input r v.0) (port_is output (joint_of x.plan l).output I) v.2) in
        let L = join_leads y Z.recent p w l output.handle input.handle r v.0 W (O.can (omega arith)) O.gone M N s in
        act_made x g log l Retune 3 p Y v.0 (omega arith) v.1
        (still_none w act (acts.Joined r) v.0 W.sound tt s (λ n. refl) Z.works)
        (keeps_in x.graph.core g.core keeps Z.clients) L.1
        (both_on x p Z (joint_of x.plan l).giver (joint_of x.plan l).taker output.handle input.handle G H (Asks x.plan Z.files Z.opening l x.conductor (left_of x p l Retune (3 + 1) Z)) v.0 (λ h k. acts.SetupTunnel (port_at h (joint_of x.plan l).output) (port_at k (joint_of x.plan l).input)) (acts.Joined (Ok suppliers.Input)) log told refl tt
        (subst (λ (a : Result Supplier OmxError). SetupTunnel w first second a v.0) L.0 s) tt (λ n. refl)
        (goes_next Retune 3 p Y (act, acts.Joined (Ok suppliers.Input)) refl
        (let f = handle_is p Z Output output.handle G told.first told.named in
        let m = handle_is p Z Input input.handle H told.second told.beside in
        λ i. (acts.SetupTunnel (record { handle = f i; index = (joint_of x.plan l).output }) (record { handle = m i; index = (joint_of x.plan l).input }), acts.Joined (Ok suppliers.Input)) ∷ left_of x p l Retune (3 + 1) Z)))
        (λ k later q F V e. streams y k Z.recent later p q w v.0 l output.handle input.handle r W F V e b M N s)
        (told_same Z.opening w v.0 Z.told (step_stays w W.sound act (acts.Joined r) v.0 tt tt s).streams)

-- ---- where the call was made

-- both ends of the link, and their names
pub record HasEnds {S K : Type 0} (x : PlayingValue S K) (l : ℕ) (output input : PortId) (first second : PortName) : Type 0 where
  pub giver : IsHandleAt x.graph (joint_of x.plan l).giver output.handle
  pub taker : IsHandleAt x.graph (joint_of x.plan l).taker input.handle
  pub output_port : output.index ≡ (joint_of x.plan l).output
  pub input_port : input.index ≡ (joint_of x.plan l).input
  pub first_named : IsNameAt x.plan.parts (joint_of x.plan l).giver first.component
  pub second_named : IsNameAt x.plan.parts (joint_of x.plan l).taker second.component
  pub first_port : first.index ≡ (joint_of x.plan l).output
  pub second_port : second.index ≡ (joint_of x.plan l).input

module _ {S K : Type 0} (y x : PlayingValue S K) (is : y ≡ x) (g : Shown S K Progress) (log : LogValue) (l : ℕ) (keeps : KeepsAllClients y.graph.core g.core) where
  pub port_sends : (end : End) (disables : Bool) (h : Handle) (index : ℕ) (command : Command) (r : Result (Unit {0}) OmxError) (name : PortName) (said : ActText) → IsHandleAt x.graph (place_by end (joint_of x.plan l)) h → index ≡ index_by end (joint_of x.plan l) → command ≡ port_command disables index
      → IsNameAt x.plan.parts (place_by end (joint_of x.plan l)) name.component → name.index ≡ index_by end (joint_of x.plan l)
      → SaysOf name.component said (λ k. acts.SendCommand k (port_command disables name.index)) (acts.Plain (Ok tt)) → IsTold y.log said log
      → Steps (kept_of y.graph) (kept_of g) (λ w v. SendCommand w h command r v) → SentStreams → ChangesTo x (with_both y g log) l (sending disables) (sent_as end) (sent_as end + 1)
  port_sends end disables h index command r name said H I Made N M says told steps streams =
      let called : Steps (kept_of y.graph) (kept_of g) (λ w v. SendCommand w h (port_command disables index) r v) = subst (λ (k : Command). Steps (kept_of y.graph) (kept_of g) (λ w v. SendCommand w h k r v)) Made steps in
      let same : SaysOf name.component said (λ k. acts.SendCommand k (port_command disables index)) (acts.Plain (Ok tt)) = subst (λ (n : ℕ). SaysOf name.component said (λ k. acts.SendCommand k (port_command disables n)) (acts.Plain (Ok tt))) (M ∙ sym I) says in
      subst (λ (z : PlayingValue S K). IsHandleAt z.graph (place_by end (joint_of z.plan l)) h → index ≡ index_by end (joint_of z.plan l) → IsNameAt z.plan.parts (place_by end (joint_of z.plan l)) name.component
      → ChangesTo z (with_both y g log) l (sending disables) (sent_as end) (sent_as end + 1)) is
      (λ H I N. sends_port y g log l keeps end h index r H I disables (record { name = name.component; said = said; named = N; says = same; told = told }) called streams)
      H I N

  pub port_sets : (end : End) (h : Handle) (index : ℕ) (key : ParamKey) (definition : PortDefinition) (r : Result (Unit {0}) OmxError) (name : PortName) (said : ActText) → IsHandleAt x.graph (place_by end (joint_of x.plan l)) h
      → index ≡ index_by end (joint_of x.plan l) → key ≡ definition_key index → definition ≡ planned (play_cast_of x.plan) (at_output end) l
      → IsNameAt x.plan.parts (place_by end (joint_of x.plan l)) name.component → name.index ≡ index_by end (joint_of x.plan l)
      → SaysPort name.component name.index definition.format definition.count definition.size said → IsTold y.log said log
      → Steps (kept_of y.graph) (kept_of g) (λ w v. SetParameter w h key (params.Port definition) r v) → SetStreams → ChangesTo x (with_both y g log) l Retune (set_as end) (set_as end + 1)
  port_sets end h index key definition r name said H I Key D N M says told steps streams =
      let same : SaysPort name.component index definition.format definition.count definition.size said = subst (λ (n : ℕ). SaysPort name.component n definition.format definition.count definition.size said) (M ∙ sym I) says in
      let called : Steps (kept_of y.graph) (kept_of g) (λ w v. SetParameter w h (definition_key index) (params.Port definition) r v) = subst (λ (k : ParamKey). Steps (kept_of y.graph) (kept_of g) (λ w v. SetParameter w h k (params.Port definition) r v)) Key steps in
      subst (λ (z : PlayingValue S K). IsHandleAt z.graph (place_by end (joint_of z.plan l)) h → index ≡ index_by end (joint_of z.plan l) → IsNameAt z.plan.parts (place_by end (joint_of z.plan l)) name.component → definition ≡ planned (play_cast_of z.plan) (at_output end) l
      → ChangesTo z (with_both y g log) l Retune (set_as end) (set_as end + 1)) is
      (λ H I N D. sets_port y g log l keeps end h index r H I
      (record { name = name.component; said = said; named = N; says = subst (λ (d : PortDefinition). SaysPort name.component index d.format d.count d.size said) D same; told = told })
      (subst (λ (d : PortDefinition). Steps (kept_of y.graph) (kept_of g) (λ w v. SetParameter w h (definition_key index) (params.Port d) r v)) D called) streams)
      H I N D

  module _ (output input : PortId) (first second : PortName) (said : ActText) (E : HasEnds x l output input first second) (told : IsTold y.log said log) where
    pub tunnel_drops : (r : Result (Unit {0}) OmxError) → SaysOfBoth first.component second.component said (λ h k. acts.DropTunnel (port_at h first.index) (port_at k second.index)) (acts.Plain (Ok tt))
        → Steps (kept_of y.graph) (kept_of g) (λ w v. DropTunnel w output input r v) → DroppedStreams → ChangesTo x (with_both y g log) l Retune 0 1
    tunnel_drops r says steps streams =
        subst (λ (z : PlayingValue S K). HasEnds z l output input first second → ChangesTo z (with_both y g log) l Retune 0 1) is
        (λ E. drops y g log l keeps output input E.giver E.taker E.output_port E.input_port r
        (record {
          first = first.component;
          second = second.component;
          said = said;
          named = E.first_named;
          beside = E.second_named;
          says = (let a = E.first_port in let b = E.second_port in subst (λ (n : ℕ). SaysOfBoth first.component second.component said (λ h k. acts.DropTunnel (port_at h (joint_of y.plan l).output) (port_at k n)) (acts.Plain (Ok tt))) b
              (subst (λ (n : ℕ). SaysOfBoth first.component second.component said (λ h k. acts.DropTunnel (port_at h n) (port_at k second.index)) (acts.Plain (Ok tt))) a says));
          told = told;
        })
        steps streams)
        E

    pub tunnel_joins : (r : Result Supplier OmxError) → SaysOfBoth first.component second.component said (λ h k. acts.SetupTunnel (port_at h first.index) (port_at k second.index)) (acts.Joined (Ok suppliers.Input))
        → Steps (kept_of y.graph) (kept_of g) (λ w v. SetupTunnel w output input r v) → JoinedStreams → ChangesTo x (with_both y g log) l Retune 3 4
    tunnel_joins r says steps streams =
        subst (λ (z : PlayingValue S K). HasEnds z l output input first second → ChangesTo z (with_both y g log) l Retune 3 4) is
        (λ E. joins y g log l keeps output input E.giver E.taker E.output_port E.input_port r
        (record {
          first = first.component;
          second = second.component;
          said = said;
          named = E.first_named;
          beside = E.second_named;
          says = (let a = E.first_port in let b = E.second_port in subst (λ (n : ℕ). SaysOfBoth first.component second.component said (λ h k. acts.SetupTunnel (port_at h (joint_of y.plan l).output) (port_at k n)) (acts.Joined (Ok suppliers.Input))) b
              (subst (λ (n : ℕ). SaysOfBoth first.component second.component said (λ h k. acts.SetupTunnel (port_at h n) (port_at k second.index)) (acts.Joined (Ok suppliers.Input))) a says));
          told = told;
        })
        steps streams)
        E
