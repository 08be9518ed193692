-- Two graphs that were assembled from the same are one, but for the key of headers and the slots of handles.
use Rattle.std.proofs.Common.{◌≡◌, ℕ, suc, ◌<◌, true, List, [], ◌∷◌, length, map, slice_get, Some, option_map, refl, sym, ◌∙◌, ap, subst, arith}
use Rattle.std.proofs.lemmas.List.{length-map}
use Rattle.std.proofs.lemmas.Option.{slice_get-map}
use Rattle.omx_types.specs.declared.handle.Handle.{Handle}
use Rattle.omx_types.specs.declared.kind.Kind.{Kind}
use Rattle.omx_types.specs.declared.kind.Kind.TheVariants as kinds
use Rattle.il_machine.specs.Kinds.{ports_in}
use Rattle.il_machine.specs.Parts.{factors_by}
use Rattle.il_machine.specs.Settings.{Settings, default_settings, is_gain, weights_in}
use Rattle.il_machine.specs.Sound.{IsSound}
use Rattle.il_machine.specs.World.{Component, Stream, World, fresh, number_of}
use Rattle.machine_laws.proofs.Finding.{either}
use Rattle.machine_laws.proofs.Parts.{parts_of}
use Rattle.bare_run_laws.specs.Bare.{bare, bare_component}
use Rattle.play_build_laws.specs.Assembly.{Assembly, IsLawful, component_at, factors_in}
use Rattle.play_build_laws.specs.Stages.{IsBuiltAs, IsStage, Joining, Progress, progress_of}
use Rattle.play_world_laws.proofs.Lists.{get_there}

-- ---- lists by place

pub same_lists : {A : Type 0} (xs ys : List A) → length xs ≡ length ys → ((k : ℕ) → k < length xs → slice_get xs k ≡ slice_get ys k) → xs ≡ ys
same_lists [] [] many each = refl
same_lists [] (y ∷ ys) many each = absurd (omega (arith, many))
same_lists (x ∷ xs) [] many each = absurd (omega (arith, many))
same_lists (x ∷ xs) (y ∷ ys) many each =
    let first : x ≡ y = some_is x y (each 0 (omega arith)) in
    let rest : xs ≡ ys = same_lists xs ys (omega (arith, many)) (λ k b. each (suc k) (omega (arith, b))) in
    λ i. first i ∷ rest i
  where
    some_is : {A : Type 0} (x y : A) → Some x ≡ Some y → x ≡ y
    some_is x y e = cc

-- ---- factors

-- the weights are the factors of a mixer, and no other kind has any
weights_are : (kind : Kind) (gain : ℕ) (weights factors : List ℕ) → length weights ≡ weights_in kind → length factors ≡ factors_in kind
    → ((i factor : ℕ) → slice_get factors i ≡ Some factor → slice_get (factors_by kind gain weights) i ≡ Some factor) → (other_gain : ℕ) (others : List ℕ) → length others ≡ weights_in kind
    → ((i factor : ℕ) → slice_get factors i ≡ Some factor → slice_get (factors_by kind other_gain others) i ≡ Some factor) → weights ≡ others
weights_are (kinds.Mixer n) gain weights factors many all each other_gain others many' each' =
    same_lists weights others (many ∙ sym many') (λ k b.
    let f = get_there factors k (omega (arith, b, many, all)) in
    each k f.0 f.1 ∙ sym (each' k f.0 f.1))
weights_are _ gain weights factors many all each other_gain others many' each' =
    same_lists weights others (many ∙ sym many') (λ k b. absurd (omega (arith, b, many)))

gains_are : (kind : Kind) (gain : ℕ) (weights factors : List ℕ) → length factors ≡ factors_in kind
    → ((i factor : ℕ) → slice_get factors i ≡ Some factor → slice_get (factors_by kind gain weights) i ≡ Some factor) → (other_gain : ℕ) (others : List ℕ)
    → ((i factor : ℕ) → slice_get factors i ≡ Some factor → slice_get (factors_by kind other_gain others) i ≡ Some factor) → is_gain kind ≡ true → gain ≡ other_gain
gains_are kinds.Gain gain weights factors all each other_gain others each' t =
    let f = get_there factors 0 (omega (arith, all)) in
    let one : Some gain ≡ Some f.0 = each 0 f.0 f.1 in
    let two : Some other_gain ≡ Some f.0 = each' 0 f.0 f.1 in
    cc
gains_are _ gain weights factors all each other_gain others each' t = absurd cc

-- ---- a component

module _ (s : Assembly) (lawful : IsLawful s) (handles others : List Handle) (w v : World) (W : IsStage s (Joining s.links) handles w) (V : IsStage s (Joining s.links) others v) where
  abbrev p : Progress
  p = progress_of s (Joining s.links)

  module _ (c : ℕ) (a b : Component) (below : c < s.components) (at : slice_get w.components c ≡ Some a) (is : slice_get v.components c ≡ Some b) where
    A : IsBuiltAs s p c a
    A = ((W.built).components).each c a at

    B : IsBuiltAs s p c b
    B = ((V.built).components).each c b is

    kind_a : (a.settings).kind ≡ s.kind c
    kind_a = ap (λ (t : Settings). t.kind) A.settings

    kind_b : (b.settings).kind ≡ s.kind c
    kind_b = ap (λ (t : Settings). t.kind) B.settings

    sound_a : IsSound a
    sound_a = (parts_of w W.sound).components c a at

    sound_b : IsSound b
    sound_b = (parts_of v V.sound).components c b is

    same_settings : (a.settings).ports ≡ (b.settings).ports
    same_settings =
        let m = (sound_a.whole).ports ∙ ap ports_in kind_a in
        let n = (sound_b.whole).ports ∙ ap ports_in kind_b in
        same_lists (a.settings).ports (b.settings).ports (m ∙ sym n) (λ k low.
        let E = lawful.each c k below (omega (arith, low, m)) in
        let here : component_at s E.side E.link ≡ c = ap (λ key. key.component) E.end in
        let port : (s.end E.side E.link).port ≡ k = ap (λ key. key.port) E.end in
        let f = (((W.built).components).ends E.side E.link a E.below (ap (slice_get w.components) here ∙ at)).setting in
        let g = (((V.built).components).ends E.side E.link b E.below (ap (slice_get v.components) here ∙ is)).setting in
        subst (λ (i : ℕ). slice_get (a.settings).ports i ≡ slice_get (b.settings).ports i) port (f ∙ sym g))

    same_ports : a.ports ≡ b.ports
    same_ports =
        let m = sound_a.ports ∙ ap ports_in kind_a in
        let n = sound_b.ports ∙ ap ports_in kind_b in
        same_lists a.ports b.ports (m ∙ sym n) (λ k low.
        let E = lawful.each c k below (omega (arith, low, m)) in
        let here : component_at s E.side E.link ≡ c = ap (λ key. key.component) E.end in
        let port : (s.end E.side E.link).port ≡ k = ap (λ key. key.port) E.end in
        let f = (((W.built).components).ends E.side E.link a E.below (ap (slice_get w.components) here ∙ at)).state in
        let g = (((V.built).components).ends E.side E.link b E.below (ap (slice_get v.components) here ∙ is)).state in
        subst (λ (i : ℕ). slice_get a.ports i ≡ slice_get b.ports i) port (f ∙ sym g))

    same_weights : (a.settings).weights ≡ (b.settings).weights
    same_weights =
        weights_are (s.kind c) (a.settings).gain (a.settings).weights (s.factors c) ((sound_a.whole).weights ∙ ap weights_in kind_a) (lawful.factors c below) (λ i factor e. A.factors i factor e refl)
        (b.settings).gain (b.settings).weights ((sound_b.whole).weights ∙ ap weights_in kind_b) (λ i factor e. B.factors i factor e refl)

    same_gain : (a.settings).gain ≡ (b.settings).gain
    same_gain = either (is_gain (s.kind c))
        (λ t. gains_are (s.kind c) (a.settings).gain (a.settings).weights (s.factors c) (lawful.factors c below) (λ i factor e. A.factors i factor e refl) (b.settings).gain (b.settings).weights (λ i factor e. B.factors i factor e refl) t)
        (λ f. A.gain f ∙ sym (B.gain f))

    settings_are : a.settings ≡ b.settings
    settings_are =
        A.settings
        ∙ ((λ i. record (default_settings (s.kind c)) { ports = same_settings i; gain = same_gain i; weights = same_weights i })
        ∙ sym B.settings)

    same_number : (a.handle).generation ≡ (b.handle).generation
    same_number = A.number ∙ sym B.number

    same_file : a.file ≡ b.file
    same_file = A.file ∙ sym B.file

    one_component : bare_component a ≡ bare_component b
    one_component =
        ap bare_component A.fresh_else
        ∙ ((λ i. record (fresh (record { slot = 0; generation = same_number i }) (s.kind c)) { settings = settings_are i; file = same_file i; ports = same_ports i })
        ∙ sym (ap bare_component B.fresh_else))

  -- ---- the world

  many_w : length w.components ≡ s.components
  many_w = (W.built).many

  many_v : length v.components ≡ s.components
  many_v = (V.built).many

  same_components : map bare_component w.components ≡ map bare_component v.components
  same_components =
      let lw = length-map w.components bare_component in
      let lv = length-map v.components bare_component in
      let m = many_w in
      let n = many_v in
      same_lists (map bare_component w.components) (map bare_component v.components) (omega (arith, lw, lv, m, n)) (λ k low.
      let b : k < s.components = omega (arith, low, lw, m) in
      let a = get_there w.components k (omega (arith, low, lw)) in
      let d = get_there v.components k (omega (arith, b, n)) in
      slice_get-map bare_component w.components k
      ∙ (ap (option_map bare_component) a.1 ∙ (ap (λ (x : Component). Some x) (one_component k a.0 d.0 b a.1 d.1) ∙ (sym (ap (option_map bare_component) d.1) ∙ sym (slice_get-map bare_component v.components k)))))

  streams_many : (u : World) (hs : List Handle) → IsStage s (Joining s.links) hs u → length u.streams ≡ s.components
  streams_many u hs U =
      let a = length-map u.streams (λ (y : Stream). y.component) in
      let b = length-map u.components number_of in
      let e = ap length (U.sound).streams in
      let m = (U.built).many in
      omega (arith, a, b, e, m)

  same_streams : w.streams ≡ v.streams
  same_streams =
      let m = streams_many w handles W in
      let n = streams_many v others V in
      same_lists w.streams v.streams (m ∙ sym n) (λ k low. (W.built).streams k (omega (arith, low, m)) ∙ sym ((V.built).streams k (omega (arith, low, m))))

  pub two_built : bare w ≡ bare v
  two_built =
      let C = same_components in
      let S = same_streams in
      let X = W.built in
      let Y = V.built in
      let headers = X.headers ∙ sym Y.headers in
      let given = X.given ∙ sym Y.given in
      let units = X.units ∙ sym Y.units in
      let numbered = X.numbered ∙ sym Y.numbered in
      let made = X.unmade ∙ sym Y.unmade in
      let waits = X.unwaited ∙ sym Y.unwaited in
      λ i. record { key = 0; components = C i; headers = headers i; given = given i; streams = S i; units = units i; numbered = numbered i; made = made i; waits = waits i }
