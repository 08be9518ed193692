-- A gain, or a weight of a mixer, is set.
use Rattle.std.proofs.Common.{◌≡◌, ◌≢◌, ◌⊎◌, inl, inr, ℕ, zero, suc, ◌<◌, Bool, true, false, List, length, set, slice_get, Some, None, option_map, Result, Ok, refl, sym, ◌∙◌, ap, subst, arith}
use Rattle.std.proofs.lemmas.Bool.{cases_eq}
use Rattle.std.proofs.lemmas.Option.{slice_get_within}
use Rattle.omx_types.specs.declared.handle.Handle.{Handle}
use Rattle.omx_types.specs.declared.error.OmxError.{OmxError}
use Rattle.omx_types.specs.declared.kind.Kind.{Kind}
use Rattle.omx_types.specs.declared.kind.Kind.TheVariants.{Gain, Mixer}
use Rattle.il_machine.specs.declared.port.PortSetting.{PortSetting}
use Rattle.il_machine.specs.Answers.{Answers, plain}
use Rattle.il_machine.specs.Due.{ClosesTo}
use Rattle.il_machine.specs.Files.{attached}
use Rattle.il_machine.specs.Parameters.{SetConfig, set_config_refusal, with_value}
use Rattle.il_machine.specs.Parts.{factors_by}
use Rattle.il_machine.specs.Settings.{Settings, default_settings, is_gain, weights_in}
use Rattle.il_machine.specs.Sound.{Sound}
use Rattle.il_machine.specs.World.{Component, World, with_component}
use Rattle.machine_laws.proofs.Every.{set_there, set_else}
use Rattle.machine_laws.proofs.Parts.{parts_of}
use Rattle.play_build_laws.specs.Assembly.{Assembly, IsLawful, factors_in}
use Rattle.play_build_laws.specs.Stages.{AreBuilt, IsBuilt, Progress, factor_key, factor_value, file_by, setting_by, state_by}
use Rattle.play_build_laws.proofs.Accepted.{factor_accepted}
use Rattle.play_build_laws.proofs.Calm.{built_closes}
use Rattle.play_build_laws.proofs.Changing.{replaced}
use Rattle.play_build_laws.proofs.Places.{get_there, resolved}
use Rattle.play_build_laws.proofs.Standing.{answered, built_with, held_at, unstarted}

-- ---- the settings with the factor

abbrev with_factor : Kind → ℕ → ℕ → Settings → Settings
with_factor Gain i factor s = record s { gain = factor }
with_factor _ i factor s = record s { weights = set s.weights i factor }

value_is : (kind : Kind) (i factor : ℕ) (a : Component) → with_value (factor_key kind i) (factor_value kind factor) a ≡ record a { settings = with_factor kind i factor a.settings }
value_is Gain i factor a = refl
value_is _ i factor a = refl

ports_same : (kind : Kind) (i factor : ℕ) (s : Settings) → (with_factor kind i factor s).ports ≡ s.ports
ports_same Gain i factor s = refl
ports_same _ i factor s = refl

abbrev else_as : Kind → Settings → Settings
else_as kind s = record (default_settings kind) { ports = s.ports; gain = s.gain; weights = s.weights }

rest_same : (kind other : Kind) (i factor : ℕ) (s : Settings) → s ≡ else_as other s → with_factor kind i factor s ≡ else_as other (with_factor kind i factor s)
rest_same Gain other i factor s e = ap (λ (y : Settings). record y { gain = factor }) e
rest_same _ other i factor s e = ap (λ (y : Settings). record y { weights = set s.weights i factor }) e

gain_same : (kind : Kind) (i factor : ℕ) (s : Settings) → is_gain kind ≡ false → (with_factor kind i factor s).gain ≡ s.gain
gain_same Gain i factor s n = absurd cc
gain_same _ i factor s n = refl

-- what is set of it so far, and this factor
factors_after : (kind : Kind) (fs : List ℕ) (s : Settings) (i factor j other : ℕ) → i < factors_in kind → length s.weights ≡ weights_in kind → slice_get fs i ≡ Some factor → slice_get fs j ≡ Some other
    → (j ≡ i) ⊎ (slice_get (factors_by kind s.gain s.weights) j ≡ Some other) → slice_get (factors_by kind (with_factor kind i factor s).gain (with_factor kind i factor s).weights) j ≡ Some other
factors_after Gain fs s i factor zero other l m e f h = let z : i ≡ 0 = omega arith in sym e ∙ (ap (slice_get fs) z ∙ f)
factors_after Gain fs s i factor (suc j) other l m e f h = elim h [ inl q ↦ absurd (omega arith) | inr q ↦ q ]
factors_after (Mixer inputs) fs s i factor j other l m e f h = elim (cases_eq j i) [
  | inl q ↦ let old = get_there s.weights i (omega arith) in ap (slice_get (set s.weights i factor)) q ∙ (set_there s.weights i old.0 factor old.1 ∙ (sym e ∙ (ap (slice_get fs) (sym q) ∙ f)))
  | inr n ↦ set_else s.weights i j factor n ∙ elim h [ inl q ↦ absurd (n q) | inr q ↦ q ]
]
factors_after _ fs s i factor j other l m e f h = absurd (omega arith)

-- ---- the act

pub record IsFactoredOnce (s : Assembly) (p q : Progress) (c i : ℕ) : Type 0 where
  pub others : (d j : ℕ) → d ≢ c → q.factored d j ≡ true → p.factored d j ≡ true
  pub here : (j : ℕ) → q.factored c j ≡ true → (j ≡ i) ⊎ (p.factored c j ≡ true)
  pub filed : (d : ℕ) → q.filed d ≡ p.filed d
  pub made : q.made ≡ p.made
  pub set : (side : Bool) (l : ℕ) → q.set side l ≡ p.set side l
  pub joined : (side : Bool) (l : ℕ) → q.joined side l ≡ p.joined side l

pub factor_set : (s : Assembly) (L : IsLawful s) (p q : Progress) (handles : List Handle) (c i factor : ℕ) (b : c < s.components) (O : IsFactoredOnce s p q c i) (w v : World) (h : Handle) (result : Result (Unit {0}) OmxError)
    → Sound w → IsBuilt s p handles w → slice_get handles c ≡ Some h → slice_get (s.factors c) i ≡ Some factor → SetConfig w h (factor_key (s.kind c) i) (factor_value (s.kind c) factor) result v → (result ≡ Ok tt) × IsBuilt s q handles v
factor_set s L p q handles c i factor b O w v h result S W e f r =
    let kind : Kind = s.kind c in
    let H = held_at s p handles w W c h e in
    let a : Component = H.component in
    let B = (W.components).each c a H.there in
    let U = unstarted s p c a B in
    let kind_is : a.settings.kind ≡ kind = ap (λ (y : Settings). y.kind) B.settings in
    let few = slice_get_within (s.factors c) i factor f in
    let many = L.factors c b in
    let below : i < factors_in kind = omega arith in
    let accepted : set_config_refusal a (factor_key kind i) (factor_value kind factor) ≡ None = factor_accepted kind a i factor U.loaded kind_is below (L.small c i factor b f) in
    let R = answered (set_config_refusal a (factor_key kind i) (factor_value kind factor)) result w v (λ _. ClosesTo (with_component c (with_value (factor_key kind i) (factor_value kind factor) a) w) v) accepted
    (resolved plain w h result v (λ j y. Answers (set_config_refusal y (factor_key kind i) (factor_value kind factor)) result w v (λ _. ClosesTo (with_component j (with_value (factor_key kind i) (factor_value kind factor) y) w) v)) c a H.names H.there r) in
    let settings : Settings = with_factor kind i factor a.settings in
    let a' : Component = record a { settings = settings } in
    let weights : length a.settings.weights ≡ weights_in kind = (((parts_of w S).components c a H.there).whole).weights ∙ ap weights_in kind_is in
    let A : AreBuilt s q (set w.components c a') = replaced s p q w.components c a a' W.components H.there
    (record {
      number = B.number;
      fresh_else = ap (λ (y : Component). record y { settings = settings }) B.fresh_else;
      settings = rest_same kind kind i factor a.settings B.settings;
      gain = λ n. gain_same kind i factor a.settings n ∙ B.gain n;
      factors = λ j x d t. factors_after kind (s.factors c) a.settings i factor j x below weights f d (elim (O.here j t) [ inl q ↦ inl q | inr q ↦ inr (B.factors j x d q) ]);
      file = B.file ∙ ap (λ (t : Bool). option_map attached (file_by s t c)) (sym (O.filed c));
      calm = B.calm;
    })
    (λ side l d x.
    let Y = (W.components).ends side l a d (ap (slice_get w.components) x ∙ H.there) in
    record {
      setting = ap (λ (ps : List PortSetting). slice_get ps (s.end side l).port) (ports_same kind i factor a.settings) ∙ (Y.setting ∙ ap (λ (t : Bool). Some (setting_by s t side l)) (sym (O.set side l)));
      state = Y.state ∙ ap (λ (t : Bool). Some (state_by s t side l)) (sym (O.joined side l));
    })
    (record { factored = O.others; filed = λ d n. O.filed d; set = λ side l d n. O.set side l; joined = λ side l d n. O.joined side l })
    in
    let effect : World = with_component c a' w in
    let Q : IsBuilt s q handles effect = built_with s p q handles w c a a' W H.there refl O.made O.filed A in
    let closes : ClosesTo effect v = subst (λ (y : Component). ClosesTo (with_component c y w) v) (value_is kind i factor a) R.2 in
    (R.1, subst (IsBuilt s q handles) (sym (built_closes s q effect v A closes)) Q)
