-- The forms of an answer: a refusal, an answer Idle, want of memory, or the call's own answer.
use Rattle.std.specs.Prelude.{◌≡◌, ℕ, List, slice_get, Option, Some, None, option_and_then, Result, Ok, Err, IsOkAnd, MatchOption, MatchResult}
use Rattle.omx_types.specs.declared.handle.Handle.{Handle}
use Rattle.omx_types.specs.declared.error.OmxError.{OmxError}
use Rattle.omx_types.specs.declared.error.OmxError.TheVariants as errors
use Rattle.omx_types.specs.declared.error.CallError.{CallError}
use Rattle.omx_types.specs.declared.error.CallError.TheVariants.{Omx, OutOfMemory}
use Rattle.il_machine.specs.declared.answer.Acted.{Acted}
use Rattle.il_machine.specs.declared.answer.Acted.TheVariants as acted
use Rattle.il_machine.specs.declared.answer.Why.{Why}
use Rattle.il_machine.specs.World.{Component, World, place_of}
use Rattle.il_machine.specs.Due.{ClosesTo}

abbrev pub plain : OmxError → OmxError
plain error = error

-- The handle names the component c at the place i, or the call is refused.
abbrev pub Resolving : {T E : Type 0} → (OmxError → E) → World → Handle → Result T E → World → (ℕ → Component → Type 0) → Type 0
Resolving refuse w h result v Then =
    MatchOption (place_of h w.components) ((result ≡ Err (refuse errors.InvalidComponent)) × (v ≡ w))
    (λ i. MatchOption (slice_get w.components i) ⊥ (λ c. Then i c))

-- A refused call answers the refusal, and leaves the world as it was.
abbrev pub AnswersAs : {T E : Type 0} → (OmxError → E) → Option OmxError → Result T E → World → World → (T → Type 0) → Type 0
AnswersAs refuse (Some error) result w v Accepted = (result ≡ Err (refuse error)) × (v ≡ w)
AnswersAs refuse None result w v Accepted = IsOkAnd result Accepted

abbrev pub Answers : {T : Type 0} → Option OmxError → Result T OmxError → World → World → (T → Type 0) → Type 0
Answers refusal result w v Accepted = AnswersAs plain refusal result w v Accepted

-- The same of a call that takes memory: it may also want memory, and then leaves the world as it was.
abbrev pub AnswersOrMemory : {T : Type 0} → Option OmxError → Result T CallError → World → World → (T → Type 0) → Type 0
AnswersOrMemory (Some error) result w v Accepted = (result ≡ Err (Omx error)) × (v ≡ w)
AnswersOrMemory None result w v Accepted = MatchResult result Accepted (λ error. (error ≡ OutOfMemory) × (v ≡ w))

-- An answer Idle says why, and leaves the world as it was. Else the act is done, and the close-out follows.
abbrev pub Acts : {E : Type 0} → Option Why → Result Acted E → World → World → World → Type 0
Acts (Some reason) result w after v = (result ≡ Ok (acted.Idle reason)) × (v ≡ w)
Acts None result w after v = (result ≡ Ok acted.Did) × ClosesTo after v

-- ---- a call that looks: its answer is a function of the world

abbrev pub component_named : Handle → List Component → Option Component
component_named h components = option_and_then (slice_get components) (place_of h components)

abbrev pub looked : {T : Type 0} → Option Component → (Component → Result T OmxError) → Result T OmxError
looked None answer = Err errors.InvalidComponent
looked (Some c) answer = answer c

-- A call that looks answers so, and changes nothing: where it isn't refused, the close-out follows.
abbrev pub Looks : {T : Type 0} → Result T OmxError → Result T OmxError → World → World → Type 0
Looks answer result w v = (result ≡ answer) × MatchResult answer (λ _. ClosesTo w v) (λ _. v ≡ w)
