-- A value of a component is set: a port's definition or preference changes only where the port is loose.
use Rattle.std.proofs.Common.{◌≡◌, ◌≢◌, ◌⊎◌, inl, inr, ℕ, zero, suc, ◌+◌, Bool, true, false, not, ◌||◌, nat_eq, List, [], ◌∷◌, length, length-set, set, filter, get_or, slice_get, Option, Some, None, refl, sym, ◌∙◌, ap, subst, eqb-true, arith}
use Rattle.std.proofs.lemmas.Bool.{cases_eq}
use Rattle.std.proofs.lemmas.Option.{get_or_from_slice_get}
use Rattle.omx_types.specs.declared.param.Param.{Param}
use Rattle.omx_types.specs.declared.param.Param.TheVariants as params
use Rattle.omx_types.specs.declared.param.ParamKey.{ParamKey}
use Rattle.omx_types.specs.declared.param.PortDefinition.{PortDefinition}
use Rattle.omx_types.specs.declared.kind.Kind.{Kind}
use Rattle.il_machine.specs.declared.port.Port.{Port}
use Rattle.il_machine.specs.declared.port.PortSetting.{PortSetting}
use Rattle.il_machine.specs.declared.port.PortState.{PortState}
use Rattle.il_machine.specs.States.{is_invalid}
use Rattle.il_machine.specs.Lists.{holds_at}
use Rattle.il_machine.specs.Kinds.{ports_in, is_input, is_port_format}
use Rattle.il_machine.specs.Settings.{default_setting, setting_at, with_setting, changed_by, is_v112, is_index_of, is_port_of, is_value_of, is_good_value, is_supported, is_definition_of, are_fitting, is_known, formats_of, fits}
use Rattle.il_machine.specs.World.{Component, HeaderRecord, World, number_of, ports_from, port_of, with_port, with_component}
use Rattle.il_machine.specs.Headers.{Seen, seen, count_headers, is_for}
use Rattle.il_machine.specs.Look.{look}
use Rattle.il_machine.specs.Ports.{is_joined, has_no_header}
use Rattle.il_machine.specs.Parameters.{is_format_free, is_fixed, is_wrong_time, set_parameter_refusal, set_config_refusal, unheld_at, with_value}
use Rattle.il_machine.specs.Files.{file_port_format}
use Rattle.il_machine.specs.Sound.{Sound, IsSound, IsLawfulSetting, AreNoted, is_fit}
use Rattle.il_machine.proofs.Wholes.{whole_changed}
use Rattle.machine_laws.proofs.Finding.{either}
use Rattle.machine_laws.proofs.Every.{set_there, at_set_over}
use Rattle.machine_laws.proofs.Lookups.{rising_set}
use Rattle.machine_laws.proofs.PortChanges.{IsLoose, AreKept, kept_itself}
use Rattle.machine_laws.proofs.Fitting.{HasFile, fit_setting, fit_free, file_setting, file_free}
use Rattle.machine_laws.proofs.Works.{works_set}
use Rattle.machine_laws.proofs.Units.{IsAside}
use Rattle.machine_laws.proofs.Parts.{parts_of, sound_from}
use Rattle.machine_laws.proofs.Change.{tied_set, each_set, lawful_set, aside_there, resources_changed, sound_component}
use Rattle.machine_laws.proofs.Arriving.{state_there, used_with_port, lawful_with_port, change_with_port, aside_with_port}
use Rattle.machine_laws.proofs.Accepting.{passed, not_either, not_not, both_of}
use Rattle.machine_laws.proofs.ClientHeaders.{unlinked}
use Rattle.machine_laws.proofs.Rooms.{costs, costs_same, lawful_of, sound_with}

-- ---- the refusals

-- the settings with the value, and all else as it was
abbrev with_changed : ParamKey → Param → Component → Component
with_changed key value c = record c { settings = changed_by key.port value c.settings }

-- what a call that sets a value has passed
pub record IsSettable (c : Component) (key : ParamKey) (value : Param) : Type 0 where
  pub variant : is_value_of key.index value ≡ true
  pub good : is_good_value (is_input c.settings.kind key.port) value ≡ true
  pub free : Bool
  pub supported : is_supported c.settings key.port free value ≡ true
  pub format : (d : PortDefinition) → value ≡ params.Port d → is_format_free c key.port (params.Port d) ≡ true

free_of : (c : Component) (key : ParamKey) (value : Param) (d : PortDefinition) → value ≡ params.Port d → is_supported c.settings key.port (is_format_free c key.port value) value ≡ true
    → is_format_free c key.port (params.Port d) ≡ true
free_of c key value d e h =
    let x : is_supported c.settings key.port (is_format_free c key.port (params.Port d)) (params.Port d) ≡ true = rw e at h in
    (both_of (is_port_format c.settings.kind (is_input c.settings.kind key.port) d.format) (is_format_free c key.port (params.Port d)) x).1

-- no config is a definition
no_definition : (c : Component) (key : ParamKey) (value : Param) (d : PortDefinition) → value ≡ params.Port d → is_value_of key.index value ≡ true → is_index_of c.settings.kind true key.index ≡ true → ⊥
no_definition c key value d e v i =
    let n : nat_eq key.index 1 ≡ true = rw e at v in
    let one : key.index ≡ 1 = eqb-true key.index 1 n in
    let b : is_index_of c.settings.kind true 1 ≡ true = rw one at i in
    cc

pub parameter_passes : (headers : Seen) (c : Component) (key : ParamKey) (value : Param) → set_parameter_refusal headers c key value ≡ None
    → IsSettable c key value × (is_wrong_time headers c key ≡ false)
parameter_passes headers c key value h =
    let s = c.settings in
    let a = passed (is_invalid c.state) _ _ h in
    let b = passed (not (is_v112 key.version)) _ _ a.1 in
    let d = passed (not (is_index_of s.kind false key.index)) _ _ b.1 in
    let e = passed (not (is_port_of s.kind key)) _ _ d.1 in
    let f = passed (not (is_value_of key.index value) || not (is_good_value (is_input s.kind key.port) value)) _ _ e.1 in
    let g = passed (not (is_supported s key.port (is_format_free c key.port value) value)) _ _ f.1 in
    let k = passed (is_wrong_time headers c key) _ _ g.1 in
    let v = not_either (not (is_value_of key.index value)) (not (is_good_value (is_input s.kind key.port) value)) f.0 in
    let supported : is_supported s key.port (is_format_free c key.port value) value ≡ true = not_not _ g.0 in
    (record { variant = not_not _ v.0; good = not_not _ v.1; free = is_format_free c key.port value; supported = supported; format = λ y w. free_of c key value y w supported }, k.0)

pub config_passes : (c : Component) (key : ParamKey) (value : Param) → set_config_refusal c key value ≡ None
    → IsSettable c key value × (is_index_of c.settings.kind true key.index ≡ true)
config_passes c key value h =
    let s = c.settings in
    let a = passed (is_invalid c.state) _ _ h in
    let b = passed (not (is_v112 key.version)) _ _ a.1 in
    let d = passed (not (is_index_of s.kind true key.index)) _ _ b.1 in
    let e = passed (not (is_port_of s.kind key)) _ _ d.1 in
    let f = passed (not (is_value_of key.index value) || not (is_good_value (is_input s.kind key.port) value)) _ _ e.1 in
    let g = passed (not (is_supported s key.port true value)) _ _ f.1 in
    let v = not_either (not (is_value_of key.index value)) (not (is_good_value (is_input s.kind key.port) value)) f.0 in
    let variant : is_value_of key.index value ≡ true = not_not _ v.0 in
    let index : is_index_of s.kind true key.index ≡ true = not_not _ d.0 in
    (record { variant = variant; good = not_not _ v.1; free = true; supported = not_not _ g.0; format = λ y w. absurd (no_definition c key value y w variant index) }, index)

-- ---- a port's setting

setting_over : (number index k : ℕ) (ss : List PortSetting) (ps : List PortState) (new : PortSetting) (hs : List HeaderRecord)
    → ((p : Port) → slice_get (ports_from number index ss ps) k ≡ Some p → IsLoose hs p)
    → AreKept hs (slice_get (ports_from number index ss ps) k) (slice_get (ports_from number index (set ss k new) ps) k)
setting_over number index k [] ps new hs L = tt
setting_over number index zero (s ∷ ss) [] new hs L = tt
setting_over number index (suc k) (s ∷ ss) [] new hs L = tt
setting_over number index zero (s ∷ ss) (p ∷ ps) new hs L = record { key = refl; link = refl; definition = inr (L (record { key = record { component = number; port = index }; setting = s; state = p }) refl) }
setting_over number index (suc k) (s ∷ ss) (p ∷ ps) new hs L = setting_over number (index + 1) k ss ps new hs L

setting_else : (number index j k : ℕ) (ss : List PortSetting) (ps : List PortState) (new : PortSetting) → k ≢ j
    → slice_get (ports_from number index (set ss j new) ps) k ≡ slice_get (ports_from number index ss ps) k
setting_else number index j k [] ps new a = refl
setting_else number index zero zero (s ∷ ss) [] new a = refl
setting_else number index zero (suc k) (s ∷ ss) [] new a = refl
setting_else number index (suc j) k (s ∷ ss) [] new a = refl
setting_else number index zero zero (s ∷ ss) (p ∷ ps) new a = absurd (a refl)
setting_else number index zero (suc k) (s ∷ ss) (p ∷ ps) new a = refl
setting_else number index (suc j) zero (s ∷ ss) (p ∷ ps) new a = refl
setting_else number index (suc j) (suc k) (s ∷ ss) (p ∷ ps) new a = setting_else number (index + 1) j k ss ps new (λ n. a (ap suc n))

abbrev with_setting_at : ℕ → PortSetting → Component → Component
with_setting_at j new c = record c { settings = with_setting j new c.settings }

kept_setting : (hs : List HeaderRecord) (c : Component) (j : ℕ) (new : PortSetting) → ((p : Port) → port_of c j ≡ Some p → IsLoose hs p)
    → (k : ℕ) → AreKept hs (port_of c k) (port_of (with_setting_at j new c) k)
kept_setting hs c j new L k = elim (cases_eq k j) [
  | inl e ↦ rw e (setting_over (number_of c) 0 j c.settings.ports c.ports new hs L)
  | inr a ↦ rw (setting_else (number_of c) 0 j k c.settings.ports c.ports new a) (kept_itself hs (port_of c k))
]

-- one lawful setting for another
pub sound_setting : (c : Component) (j : ℕ) (new : PortSetting) → IsSound c → ((old : PortSetting) → slice_get c.settings.ports j ≡ Some old → IsLawfulSetting c.settings j new) → is_fit (with_setting_at j new c) ≡ true
    → HasFile (with_setting_at j new c) → IsSound (with_setting_at j new c)
sound_setting c j new S h fit file =
    let d : Component = with_setting_at j new c in
    let k : costs d ≡ costs c = costs_same c d c.commands refl in
    sound_with d (record {
      whole = record { sized = S.whole.sized; ports = length-set c.settings.ports j new ∙ S.whole.ports; weights = S.whole.weights };
      ports = S.ports;
      settings = λ i z e. elim (at_set_over c.settings.ports j i new z e) [
        | inl a ↦ rw (a.0, a.1) (h a.2 a.3)
        | inr a ↦ S.settings i z a.1
      ];
      fit = fit;
      file = file;
      cause = S.cause;
      mark = S.mark;
      commands = S.commands;
    }) (omega (arith, S.room))

pub aside_setting : (c : Component) (j : ℕ) (new : PortSetting) → IsAside c (with_setting_at j new c)
aside_setting c j new = record { keeps = record { kind = refl; weights = refl; count = refl; work = refl }; state = refl; pending = refl; holds = refl; waiting = refl; part = refl; held = λ test h. h }

sound_with_setting : (w : World) (i : ℕ) (c : Component) (j : ℕ) (new : PortSetting) → Sound w → slice_get w.components i ≡ Some c → ((p : Port) → port_of c j ≡ Some p → IsLoose w.headers p)
    → ((old : PortSetting) → slice_get c.settings.ports j ≡ Some old → IsLawfulSetting c.settings j new) → is_fit (with_setting_at j new c) ≡ true
    → HasFile (with_setting_at j new c) → Sound (with_component i (with_setting_at j new c) w)
sound_with_setting w i c j new S t L h fit file =
    let P = parts_of w S in
    let cs : List Component = w.components in
    let d : Component = with_setting_at j new c in
    let F = aside_there w i c d S t (aside_setting c j new) in
    sound_from (with_component i d w) (record {
      rising = rising_set 0 w.numbered i cs c d P.rising t refl;
      components = each_set IsSound i cs d P.components (sound_setting c j new (P.components i c t) h fit file);
      tied = tied_set w.numbered i cs w.headers c d P.rising t refl (kept_setting w.headers c j new L) P.tied;
      noted = each_set (AreNoted (seen w.headers)) i cs d P.noted (P.noted i c t);
      works = works_set i cs w.headers c d t refl refl P.works;
      lawful = lawful_set 0 w.waits w.waits i cs c d t F P.lawful;
      once = P.once;
      below = P.below;
    }) (resources_changed w i c d S t refl F)

-- ---- the value

pub fixed_loose : (hs : List HeaderRecord) (c : Component) (o : Option Port) (p : Port) → holds_at o (is_fixed (seen hs) c) ≡ false → o ≡ Some p → IsLoose hs p
fixed_loose hs c None p h e = absurd cc
fixed_loose hs c (Some q) p h e =
    let s : q ≡ p = cc in
    let a = not_either (is_joined q) _ h in
    let b = not_either (not (has_no_header (seen hs) q)) _ a.1 in
    let u : has_no_header (seen hs) q ≡ true = not_not (has_no_header (seen hs) q) b.0 in
    rw (← s) (record { alone = unlinked q a.0; bare = eqb-true (count_headers (is_for q.key) hs) 0 u })

index_loose : (hs : List HeaderRecord) (c : Component) (key : ParamKey) (index : ℕ) (p : Port) → key.index ≡ index → nat_eq index 3 ≡ false → is_wrong_time (seen hs) c key ≡ false → port_of c key.port ≡ Some p → IsLoose hs p
index_loose hs c key index p e n h f =
    let a : nat_eq key.index 3 ≡ false = rw e n in
    let b : holds_at (port_of c key.port) (is_fixed (seen hs) c) ≡ false = rw a at h in
    fixed_loose hs c (port_of c key.port) p b f

plain_change : (key : ParamKey) (value : Param) (c : Component) → IsSound c → (changed_by key.port value c.settings).ports ≡ c.settings.ports
    → (changed_by key.port value c.settings).kind ≡ c.settings.kind → IsSound (with_changed key value c)
plain_change key value c S p k =
    let d : Component = with_changed key value c in
    let q : costs d ≡ costs c = costs_same c d c.commands refl in
    sound_with d (record {
      whole = whole_changed key.port value c.settings S.whole;
      ports = S.ports ∙ ap ports_in (sym k);
      settings = λ j z e. let f : slice_get c.settings.ports j ≡ Some z = ap (λ (l : List PortSetting). slice_get l j) (sym p) ∙ e in let L = S.settings j z f in
          subst (λ (x : Kind). (is_definition_of (is_input x j) z.definition ≡ true) × (is_port_format x (is_input x j) z.definition.format ≡ true)) (sym k) L;
      fit = let f : fits d.settings ≡ fits c.settings = λ i. are_fitting (k i) (filter is_known (formats_of (p i))) in rw f S.fit;
      file = λ x e. let f : file_port_format d ≡ file_port_format c = λ i. (get_or (p i) 0 (default_setting (k i) (is_input (k i) 0))).definition.format in rw (k, f) (S.file x e);
      cause = S.cause;
      mark = S.mark;
      commands = S.commands;
    }) (omega (arith, S.room))

sound_plain : (w : World) (i : ℕ) (c : Component) (key : ParamKey) (value : Param) → Sound w → slice_get w.components i ≡ Some c → (changed_by key.port value c.settings).ports ≡ c.settings.ports
    → (changed_by key.port value c.settings).kind ≡ c.settings.kind → length (changed_by key.port value c.settings).weights ≡ length c.settings.weights → Sound (with_component i (with_changed key value c) w)
sound_plain w i c key value S t p k l =
    let d : Component = with_changed key value c in
    sound_component w i c d S t (record { handle = refl; ports = p; links = refl; notes = refl }) (plain_change key value c ((parts_of w S).components i c t) p k)
    (aside_there w i c d S t (record { keeps = record { kind = k; weights = l; count = refl; work = refl }; state = refl; pending = refl; holds = refl; waiting = refl; part = refl; held = λ test h. h }))

sound_changed : (w : World) (i : ℕ) (c : Component) (key : ParamKey) (value : Param) → Sound w → slice_get w.components i ≡ Some c → IsSettable c key value
    → ((p : Port) → (key.index ≡ 1) ⊎ (key.index ≡ 2) → port_of c key.port ≡ Some p → IsLoose w.headers p)
    → Sound (with_component i (with_changed key value c) w)
sound_changed w i c key (params.Port d) S t G L =
    let e : key.index ≡ 1 = eqb-true key.index 1 G.variant in
    let q = both_of (is_port_format c.settings.kind (is_input c.settings.kind key.port) d.format) G.free G.supported in
    sound_with_setting w i c key.port (record (setting_at c.settings key.port) { definition = d }) S t (λ p f. L p (inl e) f) (λ old f. (G.good, q.0))
    (fit_free c key.port d (G.format d refl)) (file_free c key.port d ((parts_of w S).components i c t) (G.format d refl))
sound_changed w i c key (params.Supplier x) S t G L =
    let e : key.index ≡ 2 = eqb-true key.index 2 G.variant in
    sound_with_setting w i c key.port (record (setting_at c.settings key.port) { supplier = x }) S t (λ p f. L p (inr e) f) (λ old f.
    let l = ((parts_of w S).components i c t).settings key.port old f in
    let g : setting_at c.settings key.port ≡ old = get_or_from_slice_get c.settings.ports key.port old _ f in
    rw g l)
    (fit_setting c key.port (record (setting_at c.settings key.port) { supplier = x }) ((parts_of w S).components i c t).fit (λ old f.
    let g : setting_at c.settings key.port ≡ old = get_or_from_slice_get c.settings.ports key.port old _ f in
    rw g refl))
    (file_setting c key.port (record (setting_at c.settings key.port) { supplier = x }) ((parts_of w S).components i c t).file (λ old f.
    let g : setting_at c.settings key.port ≡ old = get_or_from_slice_get c.settings.ports key.port old _ f in
    rw g refl))
sound_changed w i c key (params.Priority n) S t G L = sound_plain w i c key (params.Priority n) S t refl refl refl
sound_changed w i c key (params.Gain n) S t G L = sound_plain w i c key (params.Gain n) S t refl refl refl
sound_changed w i c key (params.Weight n) S t G L = sound_plain w i c key (params.Weight n) S t refl refl (length-set c.settings.weights key.port n)

-- ---- a port is held no more

pub set_twice : (i : ℕ) (cs : List Component) (d e : Component) → set (set cs i d) i e ≡ set cs i e
set_twice i [] d e = refl
set_twice zero (x ∷ cs) d e = refl
set_twice (suc i) (x ∷ cs) d e = ap (λ (l : List Component). x ∷ l) (set_twice i cs d e)

-- the port's state is that of the component before
sound_unheld : (w : World) (i : ℕ) (c d : Component) (index : ℕ) (o : Option Port) → slice_get w.components i ≡ Some c → d.ports ≡ c.ports → port_of c index ≡ o → Sound (with_component i d w)
    → Sound (with_component i (unheld_at o d) w)
sound_unheld w i c d index None t q f S = S
sound_unheld w i c d index (Some p) t q f S =
    let k : ℕ = p.key.port in
    let new : PortState = record p.state { held = false } in
    let v : World = with_component i d w in
    let u = set_there w.components i c d t in
    let at : slice_get d.ports k ≡ Some p.state = rw q (state_there c index p f) in
    let I = (parts_of v S).components i d u in
    let x = used_with_port k new p.state d at in
    let J = sound_with (with_port k new d) (lawful_with_port k new d (lawful_of d I)) (omega (arith, I.room)) in
    let T = sound_component v i d (with_port k new d) S u (change_with_port k new p.state d at refl) J (aside_there v i d (with_port k new d) S u (aside_with_port k new p.state d at (λ h. absurd cc))) in
    subst (λ (cs : List Component). Sound (record w { components = cs })) (set_twice i w.components d (with_port k new d)) T

sound_value : (w : World) (i : ℕ) (c : Component) (key : ParamKey) (value : Param) → Sound w → slice_get w.components i ≡ Some c → IsSettable c key value
    → ((p : Port) → (key.index ≡ 1) ⊎ (key.index ≡ 2) → port_of c key.port ≡ Some p → IsLoose w.headers p)
    → Sound (with_component i (with_value key value c) w)
sound_value w i c key value S t G L =
    let T = sound_changed w i c key value S t G L in
    either (nat_eq key.index 1) (λ b. rw b (sound_unheld w i c (with_changed key value c) key.port (port_of c key.port) t refl refl T)) (λ b. rw b T)

pub sound_set : (w : World) (i : ℕ) (c : Component) (key : ParamKey) (value : Param) → Sound w → slice_get w.components i ≡ Some c → set_parameter_refusal (look w).headers c key value ≡ None
    → Sound (with_component i (with_value key value c) w)
sound_set w i c key value S t h =
    let a = parameter_passes (look w).headers c key value h in
    sound_value w i c key value S t a.0 (λ p index f. elim index [
      | inl e ↦ index_loose w.headers c key 1 p e refl a.1 f
      | inr e ↦ index_loose w.headers c key 2 p e refl a.1 f
    ])

pub sound_configured : (w : World) (i : ℕ) (c : Component) (key : ParamKey) (value : Param) → Sound w → slice_get w.components i ≡ Some c → set_config_refusal c key value ≡ None
    → Sound (with_component i (with_value key value c) w)
sound_configured w i c key value S t h =
    let a = config_passes c key value h in
    sound_value w i c key value S t a.0 (λ p index f. elim index [
      | inl e ↦ let b : is_index_of c.settings.kind true 1 ≡ true = rw e at a.1 in absurd cc
      | inr e ↦ let b : is_index_of c.settings.kind true 2 ≡ true = rw e at a.1 in absurd cc
    ])
