-- The formats of a component's ports fit while it isn't Loaded or Invalid with nothing pending, and its file suits its port.
use Rattle.std.proofs.Common.{◌≡◌, ℕ, zero, suc, Bool, true, false, not, ◌&&◌, ◌||◌, List, [], ◌∷◌, set, slice_get, get_or, filter, Option, Some, None, nat_eq, eqb-true, eq-eqb, ltb-false, ◌*◌, ◌≤◌, refl, ap}
use Rattle.std.specs.List.{AllByRecursion, list_all}
use Rattle.omx_types.specs.Formats.{rate_of, channels_of, frame_bytes_of}
use Rattle.omx_types.specs.declared.state.State.{State}
use Rattle.omx_types.specs.declared.format.Format.{Format}
use Rattle.omx_types.specs.declared.format.Format.TheVariants.{Pcm, Alaw, Mulaw, Auto}
use Rattle.omx_types.specs.declared.kind.Kind.{Kind}
use Rattle.omx_types.specs.declared.kind.Kind.TheVariants as kinds
use Rattle.omx_types.specs.declared.param.Param.TheVariants as params
use Rattle.omx_types.specs.declared.param.PortDefinition.{PortDefinition}
use Rattle.part_api.specs.declared.attached.Attached.{Attached}
use Rattle.part_api.specs.declared.attached.Attached.TheVariants.{From, To}
use Rattle.il_machine.specs.declared.answer.Pending.{Pending}
use Rattle.il_machine.specs.declared.port.Port.{Port}
use Rattle.il_machine.specs.declared.port.PortSetting.{PortSetting}
use Rattle.il_machine.specs.States.{is_loaded, is_invalid}
use Rattle.il_machine.specs.Lists.{holds_at}
use Rattle.il_machine.specs.Kinds.{is_auto, is_input, is_sink, is_format_of, is_port_format}
use Rattle.il_machine.specs.Settings.{changed_by, default_setting, setting_at, with_setting, are_fitting, is_known, formats_of, fits, is_splitter, same_format, same_rate_and_channels}
use Rattle.il_machine.specs.World.{Component, port_of}
use Rattle.il_machine.specs.Ports.{is_at_rest}
use Rattle.il_machine.specs.Parameters.{is_too_large, is_settable, keeps_format, is_off_file, would_fit, overflows, is_format_fixed, is_format_free}
use Rattle.il_machine.specs.Files.{file_port_format}
use Rattle.il_machine.specs.Sound.{IsSound, is_fit, may_have}
use Rattle.machine_laws.proofs.Finding.{either}
use Rattle.machine_laws.proofs.Lookups.{port_parts}
use Rattle.machine_laws.proofs.Accepting.{not_either, not_not, is_not, both_of}

and_false : (b : Bool) → (b && false) ≡ false
and_false true = refl
and_false false = refl

or_true : (b : Bool) → (b || true) ≡ true
or_true true = refl
or_true false = refl

abbrev pub is_loaded_or_invalid : State → Bool
is_loaded_or_invalid s = is_loaded s || is_invalid s

pub fit_with : (c : Component) → fits c.settings ≡ true → is_fit c ≡ true
fit_with c f = rw f (or_true (is_loaded_or_invalid c.state && is_at_rest c))

pub fit_pending : (c : Component) (p : Pending) → is_fit c ≡ true → c.pending ≡ Some p → fits c.settings ≡ true
fit_pending c p h e = let r : (is_loaded_or_invalid c.state && is_at_rest c) ≡ false = rw e (and_false (is_loaded_or_invalid c.state)) in rw r at h

pub fit_above : (c : Component) → is_fit c ≡ true → is_loaded_or_invalid c.state ≡ false → fits c.settings ≡ true
fit_above c h s = rw s at h

-- where nothing is pending, in Loaded or Invalid, they may differ
pub fit_settable : (c : Component) → is_settable c ≡ true → is_fit c ≡ true
fit_settable c h = let b = both_of (is_loaded c.state) (is_at_rest c) h in rw (b.0, b.1) refl

-- ---- a setting with another format, or the same

same_formats : (j : ℕ) (ss : List PortSetting) (new : PortSetting) → ((old : PortSetting) → slice_get ss j ≡ Some old → new.definition.format ≡ old.definition.format)
    → formats_of (set ss j new) ≡ formats_of ss
same_formats j [] new h = refl
same_formats zero (s ∷ ss) new h = ap (λ (f : Format). f ∷ formats_of ss) (h s refl)
same_formats (suc j) (s ∷ ss) new h = ap (λ (fs : List Format). s.definition.format ∷ fs) (same_formats j ss new h)

-- a setting that keeps the format of its port
pub fit_setting : (c : Component) (j : ℕ) (new : PortSetting) → is_fit c ≡ true → ((old : PortSetting) → slice_get c.settings.ports j ≡ Some old → new.definition.format ≡ old.definition.format)
    → is_fit (record c { settings = with_setting j new c.settings }) ≡ true
fit_setting c j new h same =
    let e : fits (with_setting j new c.settings) ≡ fits c.settings = ap (λ (fs : List Format). are_fitting c.settings.kind (filter is_known fs)) (same_formats j c.settings.ports new same) in
    rw e h

-- what is known of a definition whose format is free
record IsFree (c : Component) (p : Port) (d : PortDefinition) : Type 0 where
  on_file : is_off_file c p d.format ≡ false
  kept : (keeps_format c p && not (same_format d.format p.setting.definition.format)) ≡ false
  fits : (not (is_settable c) && not (would_fit c p.key.port d)) ≡ false
  small : overflows c.file d.format ≡ false

unfixed : (c : Component) (p : Port) (d : PortDefinition) → is_format_fixed c p d ≡ false → IsFree c p d
unfixed c p d h =
    let a = not_either (is_off_file c p d.format) _ h in
    let b = not_either (keeps_format c p && not (same_format d.format p.setting.definition.format)) _ a.1 in
    let e = not_either (not (is_settable c) && not (would_fit c p.key.port d)) _ b.1 in
    let f = not_either (overflows c.file d.format) _ e.1 in
    record { on_file = a.0; kept = b.0; fits = e.0; small = f.0 }

free_at : (c : Component) (j : ℕ) (o : Option Port) (d : PortDefinition) → port_of c j ≡ o → holds_at o (λ p. not (is_format_fixed c p d)) ≡ true → (p : Port) × (port_of c j ≡ Some p) × IsFree c p d
free_at c j None d e h = absurd cc
free_at c j (Some p) d e h = (p, e, unfixed c p d (is_not (is_format_fixed c p d) h))

free_fits : (c : Component) (j : ℕ) (d : PortDefinition) → is_format_free c j (params.Port d) ≡ true → is_settable c ≡ false → would_fit c j d ≡ true
free_fits c j d h s =
    let f = free_at c j (port_of c j) d refl h in
    let n : (f.0).key.port ≡ j = ap (λ k. k.port) (port_parts c j f.0 f.1).key in
    rw (← n) (not_not (would_fit c (f.0).key.port d) (rw s at (f.2).fits))

-- a definition whose format is free
pub fit_free : (c : Component) (j : ℕ) (d : PortDefinition) → is_format_free c j (params.Port d) ≡ true → is_fit (record c { settings = changed_by j (params.Port d) c.settings }) ≡ true
fit_free c j d h = either (is_settable c)
    (λ t. fit_settable (record c { settings = changed_by j (params.Port d) c.settings }) t)
    (λ f. fit_with (record c { settings = changed_by j (params.Port d) c.settings }) (free_fits c j d h f))

-- ---- the file, and the format of its port

same_first : (j : ℕ) (ss : List PortSetting) (new default : PortSetting) → ((old : PortSetting) → slice_get ss j ≡ Some old → new.definition.format ≡ old.definition.format)
    → (get_or (set ss j new) 0 default).definition.format ≡ (get_or ss 0 default).definition.format
same_first j [] new default h = refl
same_first zero (s ∷ ss) new default h = h s refl
same_first (suc j) (s ∷ ss) new default h = refl

abbrev pub HasFile : Component → Type 0
HasFile c = (file : Attached) → c.file ≡ Some file → may_have c.settings.kind (file_port_format c) file ≡ true

-- a setting that keeps the format of its port
pub file_setting : (c : Component) (j : ℕ) (new : PortSetting) → HasFile c → ((old : PortSetting) → slice_get c.settings.ports j ≡ Some old → new.definition.format ≡ old.definition.format)
    → HasFile (record c { settings = with_setting j new c.settings })
file_setting c j new H same file e =
    let f = same_first j c.settings.ports new (default_setting c.settings.kind (is_input c.settings.kind 0)) same in
    rw f (H file e)

pub same_is : (f g : Format) → same_format f g ≡ true → f ≡ g
same_is (Pcm r n) (Pcm s m) h = let b = both_of (nat_eq r s) (nat_eq n m) h in let x = eqb-true r s b.0 in let y = eqb-true n m b.1 in rw (x, y) refl
same_is (Alaw r n) (Alaw s m) h = let b = both_of (nat_eq r s) (nat_eq n m) h in let x = eqb-true r s b.0 in let y = eqb-true n m b.1 in rw (x, y) refl
same_is (Mulaw r n) (Mulaw s m) h = let b = both_of (nat_eq r s) (nat_eq n m) h in let x = eqb-true r s b.0 in let y = eqb-true n m b.1 in rw (x, y) refl
same_is Auto Auto h = refl
same_is (Pcm r n) (Alaw s m) h = absurd cc
same_is (Pcm r n) (Mulaw s m) h = absurd cc
same_is (Pcm r n) Auto h = absurd cc
same_is (Alaw r n) (Pcm s m) h = absurd cc
same_is (Alaw r n) (Mulaw s m) h = absurd cc
same_is (Alaw r n) Auto h = absurd cc
same_is (Mulaw r n) (Pcm s m) h = absurd cc
same_is (Mulaw r n) (Alaw s m) h = absurd cc
same_is (Mulaw r n) Auto h = absurd cc
same_is Auto (Pcm s m) h = absurd cc
same_is Auto (Alaw s m) h = absurd cc
same_is Auto (Mulaw s m) h = absurd cc

known_source : (f : Format) → is_port_format kinds.Source false f ≡ true → is_auto f ≡ false
known_source (Pcm r n) h = refl
known_source (Alaw r n) h = refl
known_source (Mulaw r n) h = refl
known_source Auto h = absurd cc

pub format_itself : (f : Format) → same_format f f ≡ true
format_itself (Pcm r n) = rw (eq-eqb r r refl, eq-eqb n n refl) refl
format_itself (Alaw r n) = rw (eq-eqb r r refl, eq-eqb n n refl) refl
format_itself (Mulaw r n) = rw (eq-eqb r r refl, eq-eqb n n refl) refl
format_itself Auto = refl

read_kept : (kind : Kind) (old new format : Format) (frames : ℕ) → (kind ≡ kinds.Source → same_format format old ≡ true → same_format format new ≡ true)
    → may_have kind old (From format frames) ≡ true → may_have kind new (From format frames) ≡ true
read_kept kinds.Source old new format frames h m =
    let b = both_of (not (not (same_format format old))) (not (is_too_large frames format)) m in
    let s : same_format format new ≡ true = h refl (not_not (same_format format old) (is_not (not (same_format format old)) b.0)) in
    rw (s, b.1) refl
read_kept kinds.Late old new format frames h m = m
read_kept kinds.Decoder old new format frames h m = absurd cc
read_kept kinds.Alaw old new format frames h m = absurd cc
read_kept kinds.Mulaw old new format frames h m = absurd cc
read_kept kinds.Gain old new format frames h m = absurd cc
read_kept (kinds.Mixer n) old new format frames h m = absurd cc
read_kept (kinds.Splitter n) old new format frames h m = absurd cc
read_kept kinds.Sink old new format frames h m = absurd cc

-- the port's format is the file's, or stays what it was
source_same : (c : Component) (p : Port) (d : PortDefinition) (format : Format) (frames : ℕ) → IsSound c → port_of c 0 ≡ Some p → IsFree c p d → c.file ≡ Some (From format frames)
    → c.settings.kind ≡ kinds.Source → same_format format p.setting.definition.format ≡ true → same_format format d.format ≡ true
source_same c p d format frames S at F e k m =
    let old : Format = p.setting.definition.format in
    let L = (S.settings 0 p.setting (port_parts c 0 p at).setting).1 in
    let known : is_auto old ≡ false = known_source old (rw k at L) in
    either p.state.held
    (λ t.
    let o : not (same_format d.format format) ≡ false = rw (t, e) at F.on_file in
    let is = same_is d.format format (not_not (same_format d.format format) o) in
    rw is (format_itself format))
    (λ f.
    let o : not (same_format d.format old) ≡ false = rw (f, known, e) at F.kept in
    let is = same_is d.format old (not_not (same_format d.format old) o) in
    rw is m)

first_file : (c : Component) (p : Port) (d : PortDefinition) (file : Attached) → IsSound c → port_of c 0 ≡ Some p → IsFree c p d → c.file ≡ Some file → may_have c.settings.kind p.setting.definition.format file ≡ true
    → may_have c.settings.kind d.format file ≡ true
first_file c p d (From format frames) S at F e m = read_kept c.settings.kind p.setting.definition.format d.format format frames (λ k h. source_same c p d format frames S at F e k h) m
first_file c p d (To planned) S at F e m =
    let b = both_of (is_sink c.settings.kind) (not (is_too_large planned p.setting.definition.format)) m in
    let o : is_too_large planned d.format ≡ false = rw e at F.small in
    rw (b.0, o) refl

first_of : (ss : List PortSetting) (s default : PortSetting) → slice_get ss 0 ≡ Some s → get_or ss 0 default ≡ s
first_of [] s default e = absurd cc
first_of (x ∷ ss) s default e = let y : Some x ≡ Some s = e in cc

set_first : (ss : List PortSetting) (s new default : PortSetting) → slice_get ss 0 ≡ Some s → get_or (set ss 0 new) 0 default ≡ new
set_first [] s new default e = absurd cc
set_first (x ∷ ss) s new default e = refl

set_others : (k : ℕ) (ss : List PortSetting) (new default : PortSetting) → get_or (set ss (suc k) new) 0 default ≡ get_or ss 0 default
set_others k [] new default = refl
set_others k (x ∷ ss) new default = refl

-- a definition whose format is free
pub file_free : (c : Component) (j : ℕ) (d : PortDefinition) → IsSound c → is_format_free c j (params.Port d) ≡ true → HasFile (record c { settings = changed_by j (params.Port d) c.settings })
file_free c zero d S h file e =
    let f = free_at c 0 (port_of c 0) d refl h in
    let p = f.0 in
    let default : PortSetting = default_setting c.settings.kind (is_input c.settings.kind 0) in
    let at = (port_parts c 0 p f.1).setting in
    let old : get_or c.settings.ports 0 default ≡ p.setting = first_of c.settings.ports p.setting default at in
    let new : PortSetting = record (setting_at c.settings 0) { definition = d } in
    let there : get_or (set c.settings.ports 0 new) 0 default ≡ new = set_first c.settings.ports p.setting new default at in
    let m : may_have c.settings.kind p.setting.definition.format file ≡ true = rw (old, file_port_format) at (S.file file e) in
    rw (there, file_port_format) (first_file c p d file S f.1 f.2 e m)
file_free c (suc k) d S h file e =
    let default : PortSetting = default_setting c.settings.kind (is_input c.settings.kind 0) in
    rw (set_others k c.settings.ports (record (setting_at c.settings (suc k)) { definition = d }) default, file_port_format) (S.file file e)

-- a format of a port that is known is one of its kind's
pub known_format : (kind : Kind) (input : Bool) (format : Format) → is_port_format kind input format ≡ true → is_auto format ≡ false → is_format_of kind input format ≡ true
known_format kind input format h a = either (is_format_of kind input format) (λ t. t) (λ f. let n : false ≡ true = rw (f, a) at h in absurd cc)

-- ---- formats that fit, one by one

pub all_known : (fs : List Format) → list_all is_known fs ≡ true → filter is_known fs ≡ fs
all_known [] h = refl
all_known (f ∷ fs) h = let b = both_of (is_known f) (list_all is_known fs) h in let i = all_known fs b.1 in rw b.0 (ap (λ (gs : List Format). f ∷ gs) i)

abbrev pub AreAlike : Format → List Format → Type 0
AreAlike first fs = AllByRecursion (λ f. (rate_of f ≡ rate_of first) × (channels_of f ≡ channels_of first)) fs

alike : (first : Format) (fs : List Format) → list_all (λ f. same_rate_and_channels f first) fs ≡ true → AreAlike first fs
alike first [] h = tt
alike first (f ∷ fs) h =
    let b = both_of (same_rate_and_channels f first) (list_all (λ g. same_rate_and_channels g first) fs) h in
    let n = both_of (nat_eq (rate_of f) (rate_of first)) (nat_eq (channels_of f) (channels_of first)) b.0 in
    ((eqb-true (rate_of f) (rate_of first) n.0, eqb-true (channels_of f) (channels_of first) n.1), alike first fs b.1)

one_format : (first : Format) (fs : List Format) → list_all (λ f. same_format f first) fs ≡ true → AllByRecursion (λ f. f ≡ first) fs
one_format first [] h = tt
one_format first (f ∷ fs) h = let b = both_of (same_format f first) (list_all (λ g. same_format g first) fs) h in (same_is f first b.0, one_format first fs b.1)

-- they have one rate and one number of channels
pub fit_alike : (kind : Kind) (first : Format) (fs : List Format) → are_fitting kind (first ∷ fs) ≡ true → AreAlike first fs
fit_alike kind first fs h = alike first fs (both_of (list_all (λ f. same_rate_and_channels f first) fs) (not (is_splitter kind) || list_all (λ f. same_format f first) fs) h).0

-- and those of a splitter are one
pub fit_splitter : (outputs : ℕ) (first : Format) (fs : List Format) → are_fitting (kinds.Splitter outputs) (first ∷ fs) ≡ true → AllByRecursion (λ f. f ≡ first) fs
fit_splitter outputs first fs h = one_format first fs (both_of (list_all (λ f. same_rate_and_channels f first) fs) (list_all (λ f. same_format f first) fs) h).1

-- ---- what a file that a component has asks of its port

pub source_format : (port format : Format) (frames : ℕ) → may_have kinds.Source port (From format frames) ≡ true → format ≡ port
source_format port format frames m =
    let b = both_of (not (not (same_format format port))) (not (is_too_large frames format)) m in
    same_is format port (not_not (same_format format port) (is_not (not (same_format format port)) b.0))

pub sink_room : (kind : Kind) (port : Format) (planned : ℕ) → may_have kind port (To planned) ≡ true → planned * frame_bytes_of port ≤ 134217728
sink_room kind port planned m =
    let b = both_of (is_sink kind) (not (is_too_large planned port)) m in
    ltb-false 134217728 (planned * frame_bytes_of port) (is_not (is_too_large planned port) b.1)
