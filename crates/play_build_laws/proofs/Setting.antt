-- The definition of a port is set.
use Rattle.std.proofs.Common.{◌≡◌, ℕ, ◌<◌, Bool, true, false, List, [], set, slice_get, Some, None, Result, Ok, option_map, refl, sym, ◌∙◌, ap, subst}
use Rattle.std.proofs.lemmas.Option.{get_or_from_slice_get}
use Rattle.omx_types.specs.declared.handle.Handle.{Handle}
use Rattle.omx_types.specs.declared.kind.Kind.{Kind}
use Rattle.omx_types.specs.declared.error.OmxError.{OmxError}
use Rattle.omx_types.specs.declared.param.Supplier.TheVariants.{Unspecified}
use Rattle.il_machine.specs.declared.port.PortSetting.{PortSetting}
use Rattle.il_machine.specs.declared.port.PortState.{PortState}
use Rattle.il_machine.specs.Answers.{Answers, plain}
use Rattle.il_machine.specs.Due.{ClosesTo}
use Rattle.il_machine.specs.Files.{attached}
use Rattle.il_machine.specs.Headers.{seen}
use Rattle.il_machine.specs.Kinds.{is_input, is_port_format, ports_in}
use Rattle.il_machine.specs.Look.{look}
use Rattle.il_machine.specs.Parameters.{SetParameter, set_parameter_refusal, unheld_at, with_value}
use Rattle.il_machine.specs.Ports.{IsCalmPort}
use Rattle.il_machine.specs.Settings.{Settings, changed_by, default_setting, is_definition_of, setting_at}
use Rattle.il_machine.specs.World.{Component, World, fresh_port, with_component}
use Rattle.play_build_laws.specs.Assembly.{Assembly, IsLawful, component_at, definition_of, kind_at}
use Rattle.play_build_laws.specs.Stages.{IsBuilt, Progress, file_by, port_key, port_value, setting_by, state_by}
use Rattle.play_build_laws.proofs.Accepted.{port_accepted}
use Rattle.play_build_laws.proofs.Calm.{built_closes}
use Rattle.play_build_laws.proofs.Changing.{IsOneEnd, end_put, with_end}
use Rattle.play_build_laws.proofs.Places.{resolved}
use Rattle.play_build_laws.proofs.Standing.{answered, built_with, held_at, port_at_end, unstarted}

pub calm_state : (s : Assembly) (joined side : Bool) (l : ℕ) → IsCalmPort (state_by s joined side l)
calm_state s false side l = record { steady = refl; quiet = refl; unmarked = refl }
calm_state s true side l = record { steady = refl; quiet = refl; unmarked = refl }

unspecified : (s : Assembly) (b side : Bool) (l : ℕ) → (setting_by s b side l).supplier ≡ Unspecified
unspecified s false side l = refl
unspecified s true side l = refl

-- how far the assembly has come once this end is set
pub record IsSetOnce (s : Assembly) (p q : Progress) (side : Bool) (l : ℕ) : Type 0 where
  pub one : IsOneEnd s p q side l
  pub made : q.made ≡ p.made
  pub free : p.filed (component_at s side l) ≡ false
  pub unjoined : p.joined side l ≡ false
  pub still_unjoined : q.joined side l ≡ false
  pub set : q.set side l ≡ true

pub end_set : (s : Assembly) (L : IsLawful s) (p q : Progress) (handles : List Handle) (side : Bool) (l : ℕ) (b : l < s.links) (O : IsSetOnce s p q side l) (w v : World) (h : Handle) (result : Result (Unit {0}) OmxError)
    → IsBuilt s p handles w → slice_get handles (component_at s side l) ≡ Some h → SetParameter w h (port_key (s.end side l).port) (port_value s side l) result v → (result ≡ Ok tt) × IsBuilt s q handles v
end_set s L p q handles side l b O w v h result W e r =
    let k : ℕ = (s.end side l).port in
    let i : ℕ = component_at s side l in
    let G = L.ends side l b in
    let H = held_at s p handles w W i h e in
    let a : Component = H.component in
    let B = (W.components).each i a H.there in
    let E = (W.components).ends side l a b H.there in
    let P = port_at_end s p side l a E B.number in
    let U = unstarted s p i a B in
    let kind : a.settings.kind ≡ kind_at s side l = ap (λ (y : Settings). y.kind) B.settings in
    let state : (P.port).state ≡ fresh_port = P.state ∙ ap (λ (t : Bool). state_by s t side l) O.unjoined in
    let file : a.file ≡ None = B.file ∙ ap (λ (t : Bool). option_map attached (file_by s t i)) O.free in
    let input : is_input a.settings.kind k ≡ side = ap (λ (z : Kind). is_input z k) kind ∙ G.direction in
    let accepted : set_parameter_refusal (seen []) a (port_key k) (port_value s side l) ≡ None =
    port_accepted a U k (definition_of s side l) P.port P.there file (ap (λ (y : PortState). y.held) state) (ap (λ (y : PortState). y.link) state)
    (subst (λ (z : Kind). k < ports_in z) (sym kind) G.port) (ap (λ (z : Bool). is_definition_of z (definition_of s side l)) input ∙ G.definition)
    ((λ j. is_port_format (kind j) (input j) (s.format l)) ∙ G.format)
    in
    let refusal : set_parameter_refusal (look w).headers a (port_key k) (port_value s side l) ≡ None = ap (λ hs. set_parameter_refusal (seen hs) a (port_key k) (port_value s side l)) W.headers ∙ accepted in
    let R = answered (set_parameter_refusal (look w).headers a (port_key k) (port_value s side l)) result w v (λ _. ClosesTo (with_component i (with_value (port_key k) (port_value s side l) a) w) v) refusal
    (resolved plain w h result v (λ j c. Answers (set_parameter_refusal (look w).headers c (port_key k) (port_value s side l)) result w v (λ _. ClosesTo (with_component j (with_value (port_key k) (port_value s side l) c) w) v)) i a H.names H.there r) in
    let old : setting_at a.settings k ≡ setting_by s (p.set side l) side l = get_or_from_slice_get a.settings.ports k _ (default_setting a.settings.kind (is_input a.settings.kind k)) E.setting in
    let new : PortSetting = record (setting_at a.settings k) { definition = definition_of s side l } in
    let after : PortState = record (P.port).state { held = false } in
    let new_so : new ≡ setting_by s (q.set side l) side l =
    let supplier : new.supplier ≡ Unspecified = ap (λ (y : PortSetting). y.supplier) old ∙ unspecified s (p.set side l) side l in
    (λ j. record { definition = definition_of s side l; supplier = supplier j }) ∙ ap (λ (t : Bool). setting_by s t side l) (sym O.set)
    in
    let after_so : after ≡ state_by s (q.joined side l) side l = (λ j. record (state j) { held = false }) ∙ ap (λ (t : Bool). state_by s t side l) (sym O.still_unjoined) in
    let changed : with_value (port_key k) (port_value s side l) a ≡ with_end k new after a =
    ap (λ o. unheld_at o (record a { settings = changed_by k (port_value s side l) a.settings })) P.there
    ∙ (λ j. record a { settings = record a.settings { ports = set a.settings.ports k new }; ports = set a.ports (P.key j).port after })
    in
    let A = end_put s L p q side l b O.one w.components a W.components H.there new after new_so after_so (subst IsCalmPort (sym after_so) (calm_state s (q.joined side l) side l)) in
    let effect : World = with_component i (with_end k new after a) w in
    let Q : IsBuilt s q handles effect = built_with s p q handles w i a (with_end k new after a) W H.there refl O.made (O.one).filed A in
    let closes : ClosesTo effect v = subst (λ (y : Component). ClosesTo (with_component i y w) v) changed R.2 in
    (R.1, subst (IsBuilt s q handles) (sym (built_closes s q effect v A closes)) Q)
