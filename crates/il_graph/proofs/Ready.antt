-- A component that gives a work that is no announcement: its part, with all that is set of the component, may begin a step.
use Rattle.std.proofs.Common.{◌≡◌, ℕ, suc, zero, ◌+◌, ◌*◌, ◌≤◌, Bool, true, false, not, ◌&&◌, ◌||◌, nat_le, List, [], ◌∷◌, ◌++◌, length, map, take, drop, Option, Some, None, slice_get, refl, sym, ◌∙◌, ap, subst, leb-true, arith}
use Rattle.std.specs.List.{AllByRecursion, list_all, list_any}
use Rattle.std.proofs.lemmas.List.{length-replicate}
use Rattle.omx_types.specs.declared.format.Format.{Format}
use Rattle.omx_types.specs.declared.kind.Kind.{Kind}
use Rattle.omx_types.specs.declared.state.State.{State}
use Rattle.omx_types.specs.declared.state.State.TheVariants as states
use Rattle.std.proofs.Math.ListN.{get_or}
use Rattle.omx_types.specs.declared.kind.Kind.TheVariants as kinds
use Rattle.omx_types.specs.declared.param.PortDefinition.{PortDefinition}
use Rattle.omx_types.specs.Formats.{IsWithinLimits, is_auto, rate_of, channels_of, frame_bytes_of}
use Rattle.part_api.specs.declared.attached.Attached.{Attached}
use Rattle.part_api.specs.declared.attached.Attached.TheVariants.{From, To}
use Rattle.part_api.specs.Terms.{Terms}
use Rattle.il_machine.specs.declared.port.Port.{Port}
use Rattle.il_machine.specs.declared.port.PortSetting.{PortSetting}
use Rattle.il_machine.specs.declared.port.PortState.{PortState}
use Rattle.il_machine.specs.Lists.{first_of_these}
use Rattle.il_machine.specs.States.{is_executing, is_loaded, is_invalid}
use Rattle.il_machine.specs.Ports.{is_at_rest}
use Rattle.il_machine.specs.Kinds.{inputs_of, outputs_of, ports_in, is_input, is_late}
use Rattle.il_machine.specs.Settings.{IsSized, Settings, are_fitting, fits, formats_of, is_definition_of, is_known, is_within_limits, is_between, same_format, default_setting, weights_in}
use Rattle.il_machine.specs.World.{Component, number_of, ports_from, ports_of}
use Rattle.il_machine.specs.Look.{Look}
use Rattle.il_machine.specs.Parts.{factors_by, file_format, terms_of}
use Rattle.il_machine.specs.Files.{file_port_format}
use Rattle.il_machine.specs.Claims.{claim_idle, held_test, is_unannounced, must_announce}
use Rattle.il_machine.specs.Sound.{IsLawfulSetting, IsSound, may_have}
use Rattle.machine_laws.proofs.Accepting.{both_of, passed}
use Rattle.machine_laws.proofs.Claiming.{IsClaimable, claim_passes}
use Rattle.machine_laws.proofs.Finding.{either}
use Rattle.machine_laws.proofs.Fitting.{all_known, fit_alike, fit_splitter, known_format, sink_room, source_format}
use Rattle.history_laws.proofs.StillOut.{format_is}
use Rattle.audio_parts.specs.Kinds.{MayBe, MayHave, default_factors, with_factor, with_format}
use Rattle.audio_parts.specs.Ready.{AreFitting, FitsFile, IsReady}
use Rattle.audio_parts.specs.Shapes.{IsLawful}
use Rattle.audio_parts.specs.Shown.{ShownPart}
use Rattle.il_graph.specs.Preparing.{MayHaveAll, MaySet, prepared, with_factors, with_formats, with_input_factor, with_port_format}
use Rattle.il_graph.specs.Shown.{IsPartOf}
use Rattle.il_graph.proofs.Prepared.{OnlyFactors, OnlyFormats, factors_set, inputs_kept, inputs_set, only_factors, only_formats, outputs_kept, outputs_set}

-- ---- no port is held, and each format is known

pub record IsPortReady (p : Port) : Type 0 where
  pub free : p.state.held ≡ false
  pub known : is_auto p.setting.definition.format ≡ false

pub either_of : (a b : Bool) → (a || b) ≡ false → (a ≡ false) × (b ≡ false)
either_of false b h = (refl, h)
either_of true b h = absurd cc

ports_ready : (c : Component) (ps : List Port) → must_announce c ≡ false → first_of_these (map (held_test c) ps) ≡ None → AllByRecursion IsPortReady ps
ports_ready c [] a h = tt
ports_ready c (p ∷ ps) a h =
    let x = passed (held_test c p).0 (held_test c p).1 (first_of_these (map (held_test c) ps)) h in
    let y : (p.state.held || is_auto p.setting.definition.format) ≡ false = rw a at x.0 in
    let z = either_of p.state.held (is_auto p.setting.definition.format) y in
    (record { free = z.0; known = z.1 }, ports_ready c ps a x.1)

all_are_known : (number index : ℕ) (ss : List PortSetting) (ps : List PortState) → length ps ≡ length ss → AllByRecursion IsPortReady (ports_from number index ss ps) → list_all is_known (formats_of ss) ≡ true
all_are_known number index [] ps e R = refl
all_are_known number index (s ∷ ss) [] e R = absurd cc
all_are_known number index (s ∷ ss) (p ∷ ps) e R =
    let i = all_are_known number (index + 1) ss ps (omega arith) R.1 in
    rw (R.0.known, i) refl

known_at : (ss : List PortSetting) (i : ℕ) (s : PortSetting) → list_all is_known (formats_of ss) ≡ true → slice_get ss i ≡ Some s → is_auto s.definition.format ≡ false
known_at [] i s k e = absurd cc
known_at (x ∷ ss) zero s k e =
    let q : x ≡ s = cc in
    let b = both_of (is_known x.definition.format) (list_all is_known (formats_of ss)) k in
    ap (λ (y : PortSetting). is_auto y.definition.format) (sym q) ∙ known_of x.definition.format b.0
  where
    known_of : (f : Format) → is_known f ≡ true → is_auto f ≡ false
    known_of f h = either (is_auto f) (λ t. let z : not true ≡ true = rw t at h in absurd cc) (λ e. e)
known_at (x ∷ ss) (suc i) s k e = known_at ss i s (both_of (is_known x.definition.format) (list_all is_known (formats_of ss)) k).1 e

executing_fits : (s : State) (b f : Bool) → is_executing s ≡ true → (((is_loaded s || is_invalid s) && b) || f) ≡ true → f ≡ true
executing_fits states.Loaded b f x h = absurd cc
executing_fits states.Idle b f x h = absurd cc
executing_fits states.Executing b f x h = h
executing_fits states.Pause b f x h = absurd cc
executing_fits states.WaitForResources b f x h = absurd cc
executing_fits states.Invalid b f x h = absurd cc

-- ---- formats that a port may have

limits_of : (f : Format) → is_within_limits f ≡ true → is_auto f ≡ false → IsWithinLimits f
limits_of f h a =
    let x : (is_between 1 768000 (rate_of f) && is_between 1 8 (channels_of f)) ≡ true = rw a at h in
    let y = both_of (is_between 1 768000 (rate_of f)) (is_between 1 8 (channels_of f)) x in
    let r = both_of (nat_le 1 (rate_of f)) (nat_le (rate_of f) 768000) y.0 in
    let n = both_of (nat_le 1 (channels_of f)) (nat_le (channels_of f) 8) y.1 in
    record { some_rate = leb-true 1 (rate_of f) r.0; rate = leb-true (rate_of f) 768000 r.1; some_channel = leb-true 1 (channels_of f) n.0; channels = leb-true (channels_of f) 8 n.1 }

definition_limits : (input : Bool) (d : PortDefinition) → is_definition_of input d ≡ true → is_within_limits d.format ≡ true
definition_limits input d h = (both_of (is_within_limits d.format) _ h).0

may_be : (s : Settings) (port : ℕ) (setting : PortSetting) → IsLawfulSetting s port setting → is_auto setting.definition.format ≡ false → MayBe s.kind (is_input s.kind port) setting.definition.format
may_be s port setting L a = record {
  allowed = known_format s.kind (is_input s.kind port) setting.definition.format L.1 a;
  limits = limits_of setting.definition.format (definition_limits (is_input s.kind port) setting.definition L.0) a;
}

all_may : (s : Settings) (port : ℕ) (ss : List PortSetting) (t : Terms) → t.kind ≡ s.kind → length t.inputs ≡ inputs_of s.kind → port + length ss ≡ length t.inputs + length t.outputs
    → ((j : ℕ) (x : PortSetting) → slice_get ss j ≡ Some x → IsLawfulSetting s (port + j) x × (is_auto x.definition.format ≡ false)) → MayHaveAll port ss t
all_may s port [] t k n e L = tt
all_may s port (x ∷ ss) t k n e L =
    let f = x.definition.format in
    let own = L 0 x refl in
    let z : port + 0 ≡ port = omega arith in
    let M : MayBe s.kind (is_input s.kind port) f = may_be s port x (subst (λ (p : ℕ). IsLawfulSetting s p x) z own.0) own.1 in
    let u = with_format t port f in
    let m : port + 1 + length ss ≡ length u.inputs + length u.outputs = let a = inputs_kept t port f in let b = outputs_kept t port f in omega (arith, e, a, b) in
    (omega (arith, e), rw (k, n) M, all_may s (port + 1) ss u k (inputs_kept t port f ∙ n) m (λ j y h. let o : port + suc j ≡ port + 1 + j = omega arith in let w = L (suc j) y h in (subst (λ (p : ℕ). IsLawfulSetting s p y) o w.0, w.1)))

few_ports : {n : ℕ} (k : Kind) → IsSized k → n ≡ ports_in k → n ≤ 9
few_ports kinds.Source z e = omega (arith, e)
few_ports kinds.Late z e = omega (arith, e)
few_ports kinds.Decoder z e = omega (arith, e)
few_ports kinds.Alaw z e = omega (arith, e)
few_ports kinds.Mulaw z e = omega (arith, e)
few_ports kinds.Gain z e = omega (arith, e)
few_ports (kinds.Mixer inputs) z e = omega (arith, e, z.1)
few_ports (kinds.Splitter outputs) z e = omega (arith, e, z.1)
few_ports kinds.Sink z e = omega (arith, e)

factor_many : (k : Kind) (gain : ℕ) (weights : List ℕ) → length weights ≡ weights_in k → length (factors_by k gain weights) ≡ length (default_factors k)
factor_many kinds.Source gain weights e = refl
factor_many kinds.Late gain weights e = refl
factor_many kinds.Decoder gain weights e = refl
factor_many kinds.Alaw gain weights e = refl
factor_many kinds.Mulaw gain weights e = refl
factor_many kinds.Gain gain weights e = refl
factor_many (kinds.Mixer inputs) gain weights e = e ∙ sym (length-replicate inputs 4096)
factor_many (kinds.Splitter outputs) gain weights e = refl
factor_many kinds.Sink gain weights e = refl

module _ {A B : Type 0} where
  lawful_formats : ((t : Terms) (port : ℕ) (format : Format) → IsLawful t → MayHave t port format → IsLawful (with_format t port format))
      → (port : ℕ) (ss : List PortSetting) (q : ShownPart A B) → IsLawful q.terms → MayHaveAll port ss q.terms → IsLawful (with_formats port ss q).terms
  lawful_formats law port [] q L M = L
  lawful_formats law port (s ∷ ss) q L M = lawful_formats law (port + 1) ss (with_port_format port s.definition.format q) (law q.terms port s.definition.format L M.1) M.2

  lawful_factors : ((t : Terms) (input factor : ℕ) → IsLawful t → IsLawful (with_factor t input factor))
      → (input : ℕ) (xs : List ℕ) (q : ShownPart A B) → IsLawful q.terms → IsLawful (with_factors input xs q).terms
  lawful_factors law input [] q L = L
  lawful_factors law input (x ∷ xs) q L = lawful_factors law (input + 1) xs (with_input_factor input x q) (law q.terms input x L)

-- ---- formats that fit

fitting : (kind : Kind) (fs : List Format) → are_fitting kind fs ≡ true → AreFitting kind fs
fitting kind [] h = tt
fitting kinds.Source (f ∷ fs) h = fit_alike kinds.Source f fs h
fitting kinds.Late (f ∷ fs) h = fit_alike kinds.Late f fs h
fitting kinds.Decoder (f ∷ fs) h = fit_alike kinds.Decoder f fs h
fitting kinds.Alaw (f ∷ fs) h = fit_alike kinds.Alaw f fs h
fitting kinds.Mulaw (f ∷ fs) h = fit_alike kinds.Mulaw f fs h
fitting kinds.Gain (f ∷ fs) h = fit_alike kinds.Gain f fs h
fitting (kinds.Mixer inputs) (f ∷ fs) h = fit_alike (kinds.Mixer inputs) f fs h
fitting (kinds.Splitter outputs) (f ∷ fs) h = fit_splitter outputs f fs h
fitting kinds.Sink (f ∷ fs) h = fit_alike kinds.Sink f fs h

take_drop : {A : Type 0} (n : ℕ) (xs : List A) → take n xs ++ drop n xs ≡ xs
take_drop zero xs = refl
take_drop (suc n) [] = refl
take_drop (suc n) (x ∷ xs) = ap (λ ys. x ∷ ys) (take_drop n xs)

-- ---- the file

one_format : (ss : List PortSetting) (default : PortSetting) → length ss ≡ 1 → formats_of ss ≡ (get_or ss 0 default).definition.format ∷ []
one_format [] default e = absurd cc
one_format (s ∷ []) default e = refl
one_format (s ∷ t ∷ ss) default e = absurd (omega (arith, e))

tells_no : (late held same : Bool) → late ≡ true → held ≡ false → (late && not held && not same) ≡ false → same ≡ true
tells_no true false true l h e = refl
tells_no true false false l h e = absurd cc
tells_no true true same l h e = absurd cc
tells_no false held same l h e = absurd cc

none_of_any : {A : Type 0} (f : A → Bool) (xs : List A) (x : A) (rest : List A) → xs ≡ x ∷ rest → list_any f xs ≡ false → f x ≡ false
none_of_any f xs x rest e h = (either_of (f x) (list_any f rest) (subst (λ ys. list_any f ys ≡ false) e h)).0

-- the first of the ports
first_port : (number : ℕ) (ss : List PortSetting) (ps : List PortState) (default : PortSetting) → length ss ≡ 1 → length ps ≡ length ss
    → (p : Port) × (rest : List Port) × (ports_from number 0 ss ps ≡ p ∷ rest) × (p.setting ≡ get_or ss 0 default)
first_port number [] ps default e n = absurd cc
first_port number (s ∷ ss) [] default e n = absurd cc
first_port number (s ∷ ss) (p ∷ ps) default e n = (_, _, refl, refl)

module _ (c : Component) (S : IsSound c) (R : AllByRecursion IsPortReady (ports_of c)) (steps : must_announce c ≡ false) where
  many_ports : length c.ports ≡ length c.settings.ports
  many_ports = S.ports ∙ sym S.whole.ports

  late_fits : (format : Format) (frames : ℕ) → c.settings.kind ≡ kinds.Late → c.file ≡ Some (From format frames) → format ≡ file_port_format c
  late_fits format frames k f =
      let default = default_setting c.settings.kind (is_input c.settings.kind 0) in
      let one : length c.settings.ports ≡ 1 = S.whole.ports ∙ ap ports_in k in
      let x = first_port (number_of c) c.settings.ports c.ports default one many_ports in
      let ready : AllByRecursion IsPortReady (x.0 ∷ x.1) = subst (AllByRecursion IsPortReady) x.2 R in
      let none = none_of_any (is_unannounced c) (ports_of c) x.0 x.1 x.2 steps in
      let same = tells_no (is_late c.settings.kind) (x.0).state.held (same_format (x.0).setting.definition.format (file_format c.file)) (ap is_late k) ready.0.free none in
      sym (ap (λ (y : PortSetting). y.definition.format) (sym x.3) ∙ (format_is (x.0).setting.definition.format (file_format c.file) same ∙ ap file_format f))

  read_fits : (k : Kind) (format : Format) (frames : ℕ) → c.settings.kind ≡ k → c.file ≡ Some (From format frames) → AllByRecursion (λ port. format ≡ port) (drop (inputs_of k) (formats_of c.settings.ports))
  read_fits kinds.Source format frames k f =
      let m : may_have kinds.Source (file_port_format c) (From format frames) ≡ true = subst (λ (y : Kind). may_have y (file_port_format c) (From format frames) ≡ true) k (S.file (From format frames) f) in
      let e = source_format (file_port_format c) format frames m in
      rw (one_format c.settings.ports (default_setting c.settings.kind (is_input c.settings.kind 0)) (S.whole.ports ∙ ap ports_in k)) (e, tt)
  read_fits kinds.Late format frames k f =
      rw (one_format c.settings.ports (default_setting c.settings.kind (is_input c.settings.kind 0)) (S.whole.ports ∙ ap ports_in k)) (late_fits format frames k f, tt)
  read_fits kinds.Decoder format frames k f = absurd (let m = subst (λ (y : Kind). may_have y (file_port_format c) (From format frames) ≡ true) k (S.file (From format frames) f) in cc)
  read_fits kinds.Alaw format frames k f = absurd (let m = subst (λ (y : Kind). may_have y (file_port_format c) (From format frames) ≡ true) k (S.file (From format frames) f) in cc)
  read_fits kinds.Mulaw format frames k f = absurd (let m = subst (λ (y : Kind). may_have y (file_port_format c) (From format frames) ≡ true) k (S.file (From format frames) f) in cc)
  read_fits kinds.Gain format frames k f = absurd (let m = subst (λ (y : Kind). may_have y (file_port_format c) (From format frames) ≡ true) k (S.file (From format frames) f) in cc)
  read_fits (kinds.Mixer inputs) format frames k f = absurd (let m = subst (λ (y : Kind). may_have y (file_port_format c) (From format frames) ≡ true) k (S.file (From format frames) f) in cc)
  read_fits (kinds.Splitter outputs) format frames k f = absurd (let m = subst (λ (y : Kind). may_have y (file_port_format c) (From format frames) ≡ true) k (S.file (From format frames) f) in cc)
  read_fits kinds.Sink format frames k f = absurd (let m = subst (λ (y : Kind). may_have y (file_port_format c) (From format frames) ≡ true) k (S.file (From format frames) f) in cc)

  written_fits : (k : Kind) (planned : ℕ) → c.settings.kind ≡ k → c.file ≡ Some (To planned) → AllByRecursion (λ port. planned * frame_bytes_of port ≤ 134217728) (take (inputs_of k) (formats_of c.settings.ports))
  written_fits kinds.Sink planned k f =
      rw (one_format c.settings.ports (default_setting c.settings.kind (is_input c.settings.kind 0)) (S.whole.ports ∙ ap ports_in k)) (sink_room c.settings.kind (file_port_format c) planned (S.file (To planned) f), tt)
  written_fits kinds.Source planned k f = absurd (let m = subst (λ (y : Kind). may_have y (file_port_format c) (To planned) ≡ true) k (S.file (To planned) f) in cc)
  written_fits kinds.Late planned k f = absurd (let m = subst (λ (y : Kind). may_have y (file_port_format c) (To planned) ≡ true) k (S.file (To planned) f) in cc)
  written_fits kinds.Decoder planned k f = absurd (let m = subst (λ (y : Kind). may_have y (file_port_format c) (To planned) ≡ true) k (S.file (To planned) f) in cc)
  written_fits kinds.Alaw planned k f = absurd (let m = subst (λ (y : Kind). may_have y (file_port_format c) (To planned) ≡ true) k (S.file (To planned) f) in cc)
  written_fits kinds.Mulaw planned k f = absurd (let m = subst (λ (y : Kind). may_have y (file_port_format c) (To planned) ≡ true) k (S.file (To planned) f) in cc)
  written_fits kinds.Gain planned k f = absurd (let m = subst (λ (y : Kind). may_have y (file_port_format c) (To planned) ≡ true) k (S.file (To planned) f) in cc)
  written_fits (kinds.Mixer inputs) planned k f = absurd (let m = subst (λ (y : Kind). may_have y (file_port_format c) (To planned) ≡ true) k (S.file (To planned) f) in cc)
  written_fits (kinds.Splitter outputs) planned k f = absurd (let m = subst (λ (y : Kind). may_have y (file_port_format c) (To planned) ≡ true) k (S.file (To planned) f) in cc)

  pub file_fits : (o : Option Attached) → c.file ≡ o → FitsFile (terms_of c) o
  file_fits None f = tt
  file_fits (Some (From format frames)) f = read_fits c.settings.kind format frames refl f
  file_fits (Some (To planned)) f = written_fits c.settings.kind planned refl f

module _ (l : Look) (c : Component) (S : IsSound c) (ok : claim_idle l c ≡ None) (steps : must_announce c ≡ false) where
  claimable : IsClaimable l c
  claimable = claim_passes l c ok

  many : length c.ports ≡ length c.settings.ports
  many = S.ports ∙ sym S.whole.ports

  ready_ports : AllByRecursion IsPortReady (ports_of c)
  ready_ports = ports_ready c (ports_of c) steps claimable.held

  known : list_all is_known (formats_of c.settings.ports) ≡ true
  known = all_are_known (number_of c) 0 c.settings.ports c.ports many ready_ports

  fit : fits c.settings ≡ true
  fit = executing_fits c.state (is_at_rest c) (fits c.settings) claimable.runs S.fit

  fitting_formats : are_fitting c.settings.kind (formats_of c.settings.ports) ≡ true
  fitting_formats = subst (λ (fs : List Format). are_fitting c.settings.kind fs ≡ true) (all_known (formats_of c.settings.ports) known) fit

  -- ---- what may be set

  module _ {A B : Type 0} (q : ShownPart A B) (T : IsPartOf c q) where
    inputs_are : length q.terms.inputs ≡ inputs_of c.settings.kind
    inputs_are = T.lawful.input_count ∙ ap inputs_of T.kind

    outputs_are : length q.terms.outputs ≡ outputs_of c.settings.kind
    outputs_are = T.lawful.output_count ∙ ap outputs_of T.kind

    ports_are : length c.settings.ports ≡ length q.terms.inputs + length q.terms.outputs
    ports_are = S.whole.ports ∙ (ap (λ n. n + outputs_of c.settings.kind) (sym inputs_are) ∙ ap (λ n. length q.terms.inputs + n) (sym outputs_are))

    may_have_all : MayHaveAll 0 c.settings.ports q.terms
    may_have_all = all_may c.settings 0 c.settings.ports q.terms T.kind inputs_are (omega (arith, ports_are)) (λ j s e. (let n : j ≡ 0 + j = omega arith in subst (λ (p : ℕ). IsLawfulSetting c.settings p s) n (S.settings j s e), known_at c.settings.ports j s known e))

    may_factor : length (factors_by c.settings.kind c.settings.gain c.settings.weights) ≡ length q.terms.factors
    may_factor = factor_many c.settings.kind c.settings.gain c.settings.weights S.whole.weights ∙ sym (T.lawful.factor_count ∙ ap (λ k. length (default_factors k)) T.kind)

    pub may_set : MaySet c q.terms
    may_set = record { few = few_ports c.settings.kind S.whole.sized S.whole.ports; formats = may_have_all; factors = may_factor }

    -- ---- what is set then

    first : ShownPart A B
    first = with_formats 0 c.settings.ports q

    factors : List ℕ
    factors = factors_by c.settings.kind c.settings.gain c.settings.weights

    pub set_terms : (prepared c q).terms ≡ terms_of c
    unfolding first factors
    set_terms =
        let ss = c.settings.ports in
        let O : OnlyFormats q (with_formats 0 ss q) = only_formats 0 ss q in
        let xs = factors_by c.settings.kind c.settings.gain c.settings.weights in
        let P : OnlyFactors (with_formats 0 ss q) (prepared c q) = only_factors 0 xs (with_formats 0 ss q) in
        let kind : (prepared c q).terms.kind ≡ c.settings.kind = P.kind ∙ (O.kind ∙ T.kind) in
        let ins : (prepared c q).terms.inputs ≡ take (inputs_of c.settings.kind) (formats_of ss) = P.inputs ∙ (inputs_set ss q ports_are ∙ ap (λ n. take n (formats_of ss)) inputs_are) in
        let outs : (prepared c q).terms.outputs ≡ drop (inputs_of c.settings.kind) (formats_of ss) = P.outputs ∙ (outputs_set ss q ports_are ∙ ap (λ n. drop n (formats_of ss)) inputs_are) in
        let facts : (prepared c q).terms.factors ≡ xs = factors_set xs (with_formats 0 ss q) (may_factor ∙ sym (ap length O.factors)) in
        let file : (prepared c q).terms.file ≡ c.file = P.record_is ∙ (O.record_is ∙ T.attached) in
        λ i. record { kind = kind i; inputs = ins i; outputs = outs i; factors = facts i; file = file i }

    pub set_lawful : ((t : Terms) (port : ℕ) (format : Format) → IsLawful t → MayHave t port format → IsLawful (with_format t port format))
        → ((t : Terms) (input factor : ℕ) → IsLawful t → IsLawful (with_factor t input factor)) → IsLawful (prepared c q).terms
    set_lawful formats factors =
        lawful_factors factors 0 (factors_by c.settings.kind c.settings.gain c.settings.weights) (with_formats 0 c.settings.ports q)
        (lawful_formats formats 0 c.settings.ports q T.lawful may_have_all)

    pub set_ready : (failed : Bool) → failed ≡ c.part.failed → IsReady (prepared c q).terms failed
    set_ready failed e = subst (λ (t : Terms). IsReady t failed) (sym set_terms) (record {
      unfailed = e ∙ (either_of c.part.ended c.part.failed claimable.goes).1;
      ports = subst (AreFitting c.settings.kind) (sym (take_drop (inputs_of c.settings.kind) (formats_of c.settings.ports))) (fitting c.settings.kind (formats_of c.settings.ports) fitting_formats);
      file = file_fits c S ready_ports steps c.file refl;
    })
