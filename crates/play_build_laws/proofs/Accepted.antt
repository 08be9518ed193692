-- The acts of an assembly aren't refused.
use Rattle.std.proofs.Common.{◌≡◌, ◌≢◌, ℕ, ◌<◌, ◌≤◌, Bool, true, false, not, ◌&&◌, ◌||◌, nat_eq, nat_le, [], ◌∷◌, Option, Some, None, is_some, is_none, refl, ◌∙◌, ap, ne_eqb, le-leb, arith}
use Rattle.std.proofs.lemmas.Bool.{lt-ltb}
use Rattle.omx_types.specs.declared.kind.Kind.{Kind}
use Rattle.omx_types.specs.declared.kind.Kind.TheVariants.{Source, Late, Decoder, Alaw, Mulaw, Gain, Mixer, Splitter, Sink}
use Rattle.omx_types.specs.declared.param.Param.TheVariants as params
use Rattle.omx_types.specs.declared.param.PortDefinition.{PortDefinition}
use Rattle.omx_types.specs.declared.state.State.TheVariants.{Loaded}
use Rattle.part_api.specs.declared.attached.Attached.{Attached}
use Rattle.il_machine.specs.declared.port.Port.{Port}
use Rattle.il_machine.specs.Files.{Offered, attach_refusal, file_port_format, is_bad_file, is_for_kind}
use Rattle.il_machine.specs.Headers.{seen}
use Rattle.il_machine.specs.Kinds.{is_auto, is_input, is_port_format, ports_in}
use Rattle.il_machine.specs.Lists.{any_of, holds_at}
use Rattle.il_machine.specs.Parameters.{is_fixed, is_format_fixed, is_format_free, is_settable, is_wrong_time, overflows, set_config_refusal, set_parameter_refusal}
use Rattle.il_machine.specs.Ports.{is_input_port, is_joined}
use Rattle.il_machine.specs.Settings.{is_definition_of, is_index_of, is_port_of, is_supported, same_format}
use Rattle.il_machine.specs.States.{is_invalid, is_loaded}
use Rattle.il_machine.specs.Tunnels.{are_output_and_input, setup_refusal}
use Rattle.il_machine.specs.World.{Component, port_of, same_handle}
use Rattle.machine_laws.proofs.Fitting.{format_itself}
use Rattle.play_build_laws.specs.Assembly.{factors_in}
use Rattle.play_build_laws.specs.Stages.{factor_key, factor_value, port_key}
use Rattle.play_build_laws.proofs.Calm.{skips}

and_false : (b : Bool) → (b && false) ≡ false
and_false true = refl
and_false false = refl

-- ---- a component that was just made

pub record IsUnstarted (c : Component) : Type 0 where
  pub loaded : c.state ≡ Loaded
  pub rests : c.pending ≡ None

module _ (c : Component) (U : IsUnstarted c) where
  pub settable : is_settable c ≡ true
  settable = λ i. is_loaded (U.loaded i) && is_none (U.rests i)

  pub not_invalid : is_invalid c.state ≡ false
  not_invalid = ap is_invalid U.loaded

  -- a port that is joined to none isn't fixed, as long as no header is made
  pub unfixed : (p : Port) → p.state.link ≡ None → is_fixed (seen []) c p ≡ false
  unfixed p h =
      let a : is_joined p ≡ false = ap is_some h in
      let b : (p.state.enabled && not (is_settable c)) ≡ false = ap (λ (t : Bool). p.state.enabled && not t) settable ∙ and_false p.state.enabled in
      rw (a, b) refl

-- ---- a port's definition

module _ (c : Component) (U : IsUnstarted c) (port : ℕ) (d : PortDefinition) (p : Port) (there : port_of c port ≡ Some p) where
  free_format : c.file ≡ None → p.state.held ≡ false → is_format_free c port (params.Port d) ≡ true
  free_format f h =
      let kept : (is_some c.file || not (is_settable c)) ≡ false = λ i. is_some (f i) || not (settable c U i) in
      let fixed : is_format_fixed c p d ≡ false =
      let k : (not (is_auto p.setting.definition.format) && (is_some c.file || not (is_settable c))) ≡ false = ap (λ (t : Bool). not (is_auto p.setting.definition.format) && t) kept ∙ and_false _ in
      let o : overflows c.file d.format ≡ false = ap (λ (y : Option Attached). overflows y d.format) f in
      let t = settable c U in
      rw (h, k, t, o) refl
      in
      ap (λ (o : Option Port). holds_at o (λ q. not (is_format_fixed c q d))) there ∙ ap not fixed

  pub port_accepted : c.file ≡ None → p.state.held ≡ false → p.state.link ≡ None → port < ports_in c.settings.kind → is_definition_of (is_input c.settings.kind port) d ≡ true
      → is_port_format c.settings.kind (is_input c.settings.kind port) d.format ≡ true → set_parameter_refusal (seen []) c (port_key port) (params.Port d) ≡ None
  port_accepted f h l b g k =
      let known : is_port_of c.settings.kind (port_key port) ≡ true = lt-ltb port (ports_in c.settings.kind) b in
      let supported : is_supported c.settings port (is_format_free c port (params.Port d)) (params.Port d) ≡ true = λ i. k i && free_format f h i in
      let time : is_wrong_time (seen []) c (port_key port) ≡ false = ap (λ (o : Option Port). holds_at o (is_fixed (seen []) c)) there ∙ unfixed c U p l in
      skips _ _ _ (not_invalid c U) (skips _ _ _ (ap not known) (skips _ _ _ (ap not g) (skips _ _ _ (ap not supported) (skips _ _ _ time refl))))

-- ---- a factor

pub factor_accepted : (kind : Kind) (c : Component) (i factor : ℕ) → c.state ≡ Loaded → c.settings.kind ≡ kind → i < factors_in kind → factor ≤ 65535 → set_config_refusal c (factor_key kind i) (factor_value kind factor) ≡ None
factor_accepted Gain c i factor u k l m =
    let a = ap is_invalid u in
    let index : is_index_of c.settings.kind true 4 ≡ true = ap (λ (z : Kind). is_index_of z true 4) k in
    let good : nat_le factor 65535 ≡ true = le-leb factor 65535 m in
    skips _ _ _ a (skips _ _ _ (ap not index) (skips _ _ _ (ap not good) refl))
factor_accepted (Mixer inputs) c i factor u k l m =
    let a = ap is_invalid u in
    let index : is_index_of c.settings.kind true 5 ≡ true = ap (λ (z : Kind). is_index_of z true 5) k in
    let port : is_port_of c.settings.kind (factor_key (Mixer inputs) i) ≡ true = ap (λ (z : Kind). is_port_of z (factor_key (Mixer inputs) i)) k ∙ lt-ltb i inputs l in
    let good : nat_le factor 65535 ≡ true = le-leb factor 65535 m in
    skips _ _ _ a (skips _ _ _ (ap not index) (skips _ _ _ (ap not port) (skips _ _ _ (ap not good) refl)))
factor_accepted Source c i factor u k l m = absurd (omega arith)
factor_accepted Late c i factor u k l m = absurd (omega arith)
factor_accepted Decoder c i factor u k l m = absurd (omega arith)
factor_accepted Alaw c i factor u k l m = absurd (omega arith)
factor_accepted Mulaw c i factor u k l m = absurd (omega arith)
factor_accepted (Splitter outputs) c i factor u k l m = absurd (omega arith)
factor_accepted Sink c i factor u k l m = absurd (omega arith)

-- ---- a file

pub file_accepted : (c : Component) (file : Offered) → IsUnstarted c → c.file ≡ None → is_for_kind c.settings.kind file ≡ true → is_bad_file c.settings.kind (file_port_format c) file ≡ false → attach_refusal c file ≡ None
file_accepted c file U n k b =
    let bad : any_of (not (is_for_kind c.settings.kind file) ∷ is_some c.file ∷ is_bad_file c.settings.kind (file_port_format c) file ∷ []) ≡ false =
    let f : is_some c.file ≡ false = ap (λ (o : Option Attached). is_some o) n in
    rw (k, f, b) refl
    in
    skips _ _ _ (not_invalid c U) (skips _ _ _ bad (skips _ _ _ (ap not (settable c U)) refl))

-- ---- a tunnel

pub tunnel_accepted : (c d : Component) (o r : Option Port) (p q : Port) → IsUnstarted c → IsUnstarted d → o ≡ Some p → r ≡ Some q → is_input_port p ≡ false → is_input_port q ≡ true
    → c.handle.generation ≢ d.handle.generation → p.state.link ≡ None → q.state.link ≡ None → q.setting.definition.format ≡ p.setting.definition.format → setup_refusal (seen []) c d o r ≡ None
tunnel_accepted c d o r p q U V e f i j n l m s =
    let here : setup_refusal (seen []) c d o r ≡ setup_refusal (seen []) c d (Some p) (Some q) = λ k. setup_refusal (seen []) c d (e k) (f k) in
    let valid : (is_invalid c.state || is_invalid d.state) ≡ false = λ k. is_invalid (U.loaded k) || is_invalid (V.loaded k) in
    let sides : are_output_and_input p q ≡ true = λ k. not (i k) && j k in
    let apart : same_handle c.handle d.handle ≡ false = let g : nat_eq c.handle.generation d.handle.generation ≡ false = ne_eqb _ _ n in ap (λ (t : Bool). nat_eq c.handle.slot d.handle.slot && t) g ∙ and_false _ in
    let loose : (is_fixed (seen []) c p || is_fixed (seen []) d q) ≡ false = λ k. unfixed c U p l k || unfixed d V q m k in
    let formats : same_format p.setting.definition.format q.setting.definition.format ≡ true = ap (same_format p.setting.definition.format) s ∙ format_itself p.setting.definition.format in
    here ∙ skips _ _ _ valid (skips _ _ _ (ap not sides) (skips _ _ _ apart (skips _ _ _ loose (skips _ _ _ (ap not formats) refl))))
