-- The first of a list of refusals, and that of the lists that it is put together from.
use Rattle.std.proofs.Common.{◌≡◌, Bool, true, false, List, [], ◌∷◌, ◌++◌, Option, Some, None, is_some, refl, ◌∙◌, arith, if◌then◌else◌}
use Rattle.omx_types.specs.declared.error.OmxError.{OmxError}
use Rattle.omx_types.specs.declared.error.OmxError.TheVariants as errors
use Rattle.omx_types.specs.declared.param.Param.{Param}
use Rattle.omx_types.specs.declared.param.ParamKey.{ParamKey}
use Rattle.il_machine.specs.States.{is_invalid}
use Rattle.il_machine.specs.Lists.{first_of_these}
use Rattle.il_machine.specs.Settings.{set_refusal, set_refusals}
use Rattle.il_machine.specs.World.{Component}
use Rattle.il_machine.specs.Headers.{Seen}
use Rattle.il_machine.specs.Parameters.{is_format_free, is_wrong_time, set_parameter_refusal}
use Rattle.machine_laws.proofs.Accepting.{passed}

pub left_passes : {E : Type 0} (xs ys : List (Bool × E)) → first_of_these (xs ++ ys) ≡ None → first_of_these xs ≡ None
left_passes [] ys h = refl
left_passes (x ∷ xs) ys h =
    let q = passed x.0 x.1 (first_of_these (xs ++ ys)) h in
    rw q.0 (left_passes xs ys q.1)

pub left_found : {E : Type 0} (xs ys : List (Bool × E)) (o : Option E) → first_of_these xs ≡ o → is_some o ≡ true → first_of_these (xs ++ ys) ≡ o
left_found [] ys o h t = absurd (grind arith)
left_found (x ∷ xs) ys o h t = elim (x.0) as (λ b. (if b then Some x.1 else first_of_these xs) ≡ o → (if b then Some x.1 else first_of_these (xs ++ ys)) ≡ o)
    [ true ↦ λ q. q | false ↦ λ q. left_found xs ys o q t ] h

-- a fault of the value is the refusal, where the component isn't invalid
pub fault_found : (headers : Seen) (c : Component) (key : ParamKey) (value : Param) (o : Option OmxError) → is_invalid c.state ≡ false → set_refusal c.settings key false value (is_format_free c key.port value) ≡ o → is_some o ≡ true → set_parameter_refusal headers c key value ≡ o
fault_found headers c key value o v h t =
    let last = (is_wrong_time headers c key, errors.IncorrectStateOperation) ∷ [] in
    let q : set_parameter_refusal headers c key value ≡ first_of_these (set_refusals c.settings key false value (is_format_free c key.port value) ++ last) = rw v refl in
    q ∙ left_found (set_refusals c.settings key false value (is_format_free c key.port value)) last o h t

pub none_of : {E : Type 0} (o : Option E) → is_some o ≡ false → o ≡ None
none_of None h = refl
none_of (Some e) h = absurd cc

left_passed : {E : Type 0} (xs ys : List (Bool × E)) → first_of_these xs ≡ None → first_of_these (xs ++ ys) ≡ first_of_these ys
left_passed [] ys h = refl
left_passed (x ∷ xs) ys h =
    let q = passed x.0 x.1 (first_of_these xs) h in
    rw q.0 (left_passed xs ys q.1)

-- the refusal of a value without a fault, at a wrong time
pub time_found : (headers : Seen) (c : Component) (key : ParamKey) (value : Param) → is_invalid c.state ≡ false → set_refusal c.settings key false value (is_format_free c key.port value) ≡ None → is_wrong_time headers c key ≡ true
    → set_parameter_refusal headers c key value ≡ Some errors.IncorrectStateOperation
time_found headers c key value v h t =
    let faults = set_refusals c.settings key false value (is_format_free c key.port value) in
    let last = (is_wrong_time headers c key, errors.IncorrectStateOperation) ∷ [] in
    let q : set_parameter_refusal headers c key value ≡ first_of_these (faults ++ last) = rw v refl in
    let l : first_of_these last ≡ Some errors.IncorrectStateOperation = rw t refl in
    q ∙ (left_passed faults last h ∙ l)
