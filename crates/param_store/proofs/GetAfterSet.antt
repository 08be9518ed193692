-- A get after a set.
use Rattle.std.proofs.Common.{◌≡◌, ◌≢◌, ℕ, ◌<◌, Bool, true, false, length, Option, Some, None, Ok, nat_eq, inl, inr, refl, ◌∙◌, ap, arith}
use Rattle.std.proofs.lemmas.Grind.{get_or-set_at}
use Rattle.std.proofs.lemmas.Bool.Decides.{nat_tests, eqb_tells}
use Rattle.omx_types.specs.declared.param.Param.{Param}
use Rattle.omx_types.specs.declared.param.Param.TheVariants as params
use Rattle.omx_types.specs.declared.param.ParamKey.{ParamKey}
use Rattle.omx_types.specs.declared.param.PortDefinition.{PortDefinition}
use Rattle.omx_types.specs.declared.param.Supplier.{Supplier}
use Rattle.omx_types.specs.declared.error.OmxError.{OmxError}
use Rattle.il_machine.specs.declared.port.PortSetting.{PortSetting}
use Rattle.il_machine.specs.Lists.{first_of_these}
use Rattle.il_machine.specs.Settings.{Settings, IsWhole, get_refusal, get_refusals, value_refusals, set_refusal, changed_by, value_of, refused_or, setting_at, default_setting, got, is_value_of, is_apart, with_setting}
use Rattle.il_machine.proofs.Refusals.{none_of_first, none_of_second}
use Rattle.std.proofs.lemmas.List.{get_or-set_same, get_or-set_other}
use Rattle.il_machine.specs.Kinds.{is_input}
use Rattle.param_store.proofs.PortThere.{port_there, supplier_there}
use Rattle.param_store.proofs.Weights.{weight_there, value_is_weight}

-- a set keeps the kind
pub same_kind : (port : ℕ) (value : Param) (s : Settings) → (changed_by port value s).kind ≡ s.kind
same_kind port (params.Port d) s = refl
same_kind port (params.Supplier x) s = refl
same_kind port (params.Priority n) s = refl
same_kind port (params.Gain n) s = refl
same_kind port (params.Weight n) s = refl

-- the setting of the port that is set, and that of another
at_port : (s : Settings) (port : ℕ) (x : PortSetting) → port < length s.ports → setting_at (with_setting port x s) port ≡ x
at_port s port x b = get_or-set_at s.ports port port x (default_setting s.kind (is_input s.kind port)) refl b

set_value : (s : Settings) (key : ParamKey) (config : Bool) (value : Param) → IsWhole s → get_refusal s key config ≡ None → is_value_of key.index value ≡ true → value_of (changed_by key.port value s) key ≡ value
set_value s key config (params.Port d) W g e =
    let b : key.port < length s.ports = rw W.ports (port_there s key config g e) in
    rw e (ap (λ (x : PortSetting). params.Port x.definition) (at_port s key.port (record (setting_at s key.port) { definition = d }) b))
set_value s key config (params.Supplier x) W g e =
    let b : key.port < length s.ports = rw W.ports (supplier_there s key config g e) in
    let n : nat_eq key.index 1 ≡ false = grind (arith, nat_tests) in
    rw (n, e) (ap (λ (x : PortSetting). params.Supplier x.supplier) (at_port s key.port (record (setting_at s key.port) { supplier = x }) b))
set_value s key config (params.Priority n) W g e = grind (arith, nat_tests)
set_value s key config (params.Gain n) W g e = grind (arith, nat_tests)
set_value s key config (params.Weight n) W g e =
    let i : key.index ≡ 5 = grind (arith, nat_tests) in
    let b : key.port < length s.weights = rw W.weights (weight_there s key config g (omega arith) (omega arith) (omega arith) (omega arith)) in
    value_is_weight (changed_by key.port (params.Weight n) s) key (omega arith) (omega arith) (omega arith) (omega arith)
    ∙ ap params.Weight (get_or-set_same s.weights key.port n 4096 b)

-- the refusals of get look at the kind alone
same_refusal : (s t : Settings) (key : ParamKey) (config : Bool) → t.kind ≡ s.kind → get_refusal t key config ≡ get_refusal s key config
same_refusal s t key config e = rw e refl

is_value : (s : Settings) (key : ParamKey) (value : Param) (free : Bool) → first_of_these (value_refusals s key value free) ≡ None → is_value_of key.index value ≡ true
is_value s key value free h = grind arith

pub get_after_set : (s : Settings) (key : ParamKey) (config : Bool) (value : Param) (free : Bool) → IsWhole s → set_refusal s key config value free ≡ None → got (changed_by key.port value s) key config ≡ Ok value
get_after_set s key config value free W h =
    let g = none_of_first (get_refusals s key config) (value_refusals s key value free) h in
    let v = is_value s key value free (none_of_second (get_refusals s key config) (value_refusals s key value free) h) in
    let t = changed_by key.port value s in
    let r : get_refusal t key config ≡ None = same_refusal s t key config (same_kind key.port value s) ∙ g in
    rw r (ap Ok (set_value s key config value W g v))

-- ---- all else

other_setting : (s : Settings) (port q : ℕ) (x : PortSetting) → q ≢ port → setting_at (with_setting port x s) q ≡ setting_at s q
other_setting s port q x d = get_or-set_other s.ports port q x (default_setting s.kind (is_input s.kind q)) d

-- A port's other value stays.
same_port : (s : Settings) (key other : ParamKey) (x : PortSetting) (b : key.port < length s.ports) → other.port ≡ key.port → setting_at (with_setting key.port x s) other.port ≡ x
same_port s key other x b e = rw e (at_port s key.port x b)

other_definition : (s : Settings) (key other : ParamKey) (d : PortDefinition) → key.port < length s.ports → key.index ≡ 1 → is_apart key other ≡ true → value_of (changed_by key.port (params.Port d) s) other ≡ value_of s other
other_definition s key other d b e a = elim (eqb_tells other.port key.port) [
  | inl y ↦ let h = same_port s key other (record (setting_at s key.port) { definition = d }) b y.1 in grind (arith, nat_tests)
  | inr y ↦ let h = other_setting s key.port other.port (record (setting_at s key.port) { definition = d }) y.1 in grind (arith, nat_tests)
]

other_supplier : (s : Settings) (key other : ParamKey) (x : Supplier) → key.port < length s.ports → key.index ≡ 2 → is_apart key other ≡ true → value_of (changed_by key.port (params.Supplier x) s) other ≡ value_of s other
other_supplier s key other x b e a = elim (eqb_tells other.port key.port) [
  | inl y ↦ let h = same_port s key other (record (setting_at s key.port) { supplier = x }) b y.1 in grind (arith, nat_tests)
  | inr y ↦ let h = other_setting s key.port other.port (record (setting_at s key.port) { supplier = x }) y.1 in grind (arith, nat_tests)
]

other_weight : (s : Settings) (key other : ParamKey) (n : ℕ) → key.index ≡ 5 → is_apart key other ≡ true → other.index ≡ 5 → value_of (changed_by key.port (params.Weight n) s) other ≡ value_of s other
other_weight s key other n e a i =
    let d : other.port ≢ key.port = grind (arith, nat_tests) in
    let h = get_or-set_other s.weights key.port other.port n 4096 d in
    grind (arith, nat_tests)

-- the weights are the values of one index alone
other_index : (s : Settings) (key other : ParamKey) (others : Bool) (n : ℕ) → get_refusal s other others ≡ None → other.index ≢ 5 → value_of (changed_by key.port (params.Weight n) s) other ≡ value_of s other
other_index s key other true n o d = grind (arith, nat_tests)
other_index s key other false n o d = grind (arith, nat_tests)

-- the value of a key that is apart, after a set
apart_value : (s : Settings) (key other : ParamKey) (config others : Bool) (value : Param) → IsWhole s → get_refusal s key config ≡ None → get_refusal s other others ≡ None → is_value_of key.index value ≡ true → is_apart key other ≡ true → value_of (changed_by key.port value s) other ≡ value_of s other
apart_value s key other config others (params.Port d) W g o e a = other_definition s key other d (rw W.ports (port_there s key config g e)) (grind (arith, nat_tests)) a
apart_value s key other config others (params.Supplier x) W g o e a = other_supplier s key other x (rw W.ports (supplier_there s key config g e)) (grind (arith, nat_tests)) a
apart_value s key other config others (params.Priority n) W g o e a = grind (arith, nat_tests)
apart_value s key other config others (params.Gain n) W g o e a = grind (arith, nat_tests)
apart_value s key other config others (params.Weight n) W g o e a = elim (eqb_tells other.index 5) [
  | inl y ↦ other_weight s key other n (grind (arith, nat_tests)) a y.1
  | inr y ↦ other_index s key other others n o y.1
]

pub all_else : (s : Settings) (key other : ParamKey) (config others : Bool) (value : Param) (free : Bool) → IsWhole s → set_refusal s key config value free ≡ None → is_apart key other ≡ true → got (changed_by key.port value s) other others ≡ got s other others
all_else s key other config others value free W h a =
    let g = none_of_first (get_refusals s key config) (value_refusals s key value free) h in
    let e = is_value s key value free (none_of_second (get_refusals s key config) (value_refusals s key value free) h) in
    let t = changed_by key.port value s in
    let r = same_refusal s t other others (same_kind key.port value s) in
    let answer = λ (o : Option OmxError). refused_or o (value_of t other) ≡ refused_or o (value_of s other) in
    let both : answer (get_refusal s other others) = elim (get_refusal s other others) as (λ o. get_refusal s other others ≡ o → answer o)
    [ None ↦ λ n. ap Ok (apart_value s key other config others value W g n e a) | Some error ↦ λ n. refl ] refl in
    rw r both
