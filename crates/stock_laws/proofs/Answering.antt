-- A call's answer is the machine's in each world that was stood for: it is told by what is kept.
use Rattle.std.proofs.Common.{◌≡◌, ℕ, List, Option, Some, None, Result, Ok, Err, MatchOption, slice_get, refl, sym, ◌∙◌, ap, subst}
use Rattle.omx_types.specs.declared.handle.Handle.{Handle}
use Rattle.omx_types.specs.declared.error.OmxError.{OmxError}
use Rattle.omx_types.specs.declared.error.OmxError.TheVariants as errors
use Rattle.omx_types.specs.declared.error.CallError.TheVariants.{Omx, OutOfMemory}
use Rattle.il_machine.specs.declared.answer.Acted.TheVariants as acted
use Rattle.il_machine.specs.declared.answer.Why.{Why}
use Rattle.il_machine.specs.declared.header.HeaderState.{HeaderState}
use Rattle.il_machine.specs.declared.port.Port.{Port}
use Rattle.il_machine.specs.World.{Component, World, place_of, port_of}
use Rattle.il_machine.specs.Flow.{OnPort}
use Rattle.il_machine.specs.Look.{Look, look}
use Rattle.il_machine.specs.Due.{ClosesTo}
use Rattle.il_machine.specs.Answers.{Resolving, Answers, AnswersAs, AnswersOrMemory, Acts}
use Rattle.il_machine.specs.Buffers.{AtState}
use Rattle.il_machine.specs.Whole.{Kept}
use Rattle.stock_laws.specs.Bare.{StepsBare}

-- ---- the component that a handle names

pub unresolved : (T E : Type 0) (refuse : OmxError → E) (k : Kept) (h : Handle) (X : World → World → ℕ → Component → Type 0) → place_of h k.looks.components ≡ None
    → StepsBare k k (λ w v. Resolving {T = T} refuse w h (Err (refuse errors.InvalidComponent)) v (X w v))
unresolved T E refuse k h X e = λ w S.
    let cs : w.components ≡ k.looks.components = ap (λ (l : Look). l.components) S.looks in
    let p : place_of h w.components ≡ None = ap (place_of h) cs ∙ e in
    (w, S, rw p (refl, refl))

resolve_some : {T E : Type 0} (refuse : OmxError → E) (w v : World) (h : Handle) (i : ℕ) (c : Component) (r : Result T E) (X : ℕ → Component → Type 0) → place_of h w.components ≡ Some i → slice_get w.components i ≡ Some c → X i c → Resolving refuse w h r v X
resolve_some refuse w v h i c r X e f x = rw (e, f) x

pub resolved : {T E : Type 0} (refuse : OmxError → E) (k k' : Kept) (h : Handle) (i : ℕ) (c : Component) (r : Result T E) (X : World → World → ℕ → Component → Type 0) → place_of h k.looks.components ≡ Some i → slice_get k.looks.components i ≡ Some c
    → StepsBare k k' (λ w v. X w v i c) → StepsBare k k' (λ w v. Resolving refuse w h r v (X w v))
resolved refuse k k' h i c r X e f s = λ w S.
    let cs : w.components ≡ k.looks.components = ap (λ (l : Look). l.components) S.looks in
    let y = s w S in
    (y.0, y.1, resolve_some refuse w y.0 h i c r (X w y.0) (ap (place_of h) cs ∙ e) (ap (λ (xs : List Component). slice_get xs i) cs ∙ f) y.2)

-- ---- refusals and accepted calls

module _ {T : Type 0} where
  pub refused : (k : Kept) (refusal : Look → Option OmxError) (error : OmxError) (Y : World → World → T → Type 0) → refusal k.looks ≡ Some error
      → StepsBare k k (λ w v. Answers (refusal (look w)) (Err error) w v (Y w v))
  refused k refusal error Y e = λ w S. (w, S, rw (ap refusal S.looks ∙ e) (refl, refl))

  pub accepted : (k k' : Kept) (refusal : Look → Option OmxError) (x : T) (Y : World → World → T → Type 0) → refusal k.looks ≡ None
      → StepsBare k k' (λ w v. Y w v x) → StepsBare k k' (λ w v. Answers (refusal (look w)) (Ok x) w v (Y w v))
  accepted k k' refusal x Y e s = λ w S. let y = s w S in (y.0, y.1, rw (ap refusal S.looks ∙ e) y.2)

  pub refused_as : {E : Type 0} (refuse : OmxError → E) (k : Kept) (refusal : Look → Option OmxError) (error : OmxError) (Y : World → World → T → Type 0) → refusal k.looks ≡ Some error
      → StepsBare k k (λ w v. AnswersAs refuse (refusal (look w)) (Err (refuse error)) w v (Y w v))
  refused_as refuse k refusal error Y e = λ w S. (w, S, rw (ap refusal S.looks ∙ e) (refl, refl))

  pub accepted_as : {E : Type 0} (refuse : OmxError → E) (k k' : Kept) (refusal : Look → Option OmxError) (x : T) (Y : World → World → T → Type 0) → refusal k.looks ≡ None
      → StepsBare k k' (λ w v. Y w v x) → StepsBare k k' (λ w v. AnswersAs refuse (refusal (look w)) (Ok x) w v (Y w v))
  accepted_as refuse k k' refusal x Y e s = λ w S. let y = s w S in (y.0, y.1, rw (ap refusal S.looks ∙ e) y.2)

  pub refused_or_memory : (k : Kept) (refusal : Look → Option OmxError) (error : OmxError) (Y : World → World → T → Type 0) → refusal k.looks ≡ Some error
      → StepsBare k k (λ w v. AnswersOrMemory (refusal (look w)) (Err (Omx error)) w v (Y w v))
  refused_or_memory k refusal error Y e = λ w S. (w, S, rw (ap refusal S.looks ∙ e) (refl, refl))

  pub wants_memory : (k : Kept) (refusal : Look → Option OmxError) (Y : World → World → T → Type 0) → refusal k.looks ≡ None
      → StepsBare k k (λ w v. AnswersOrMemory (refusal (look w)) (Err OutOfMemory) w v (Y w v))
  wants_memory k refusal Y e = λ w S. (w, S, rw (ap refusal S.looks ∙ e) (refl, refl))

  pub accepted_or_memory : (k k' : Kept) (refusal : Look → Option OmxError) (x : T) (Y : World → World → T → Type 0) → refusal k.looks ≡ None
      → StepsBare k k' (λ w v. Y w v x) → StepsBare k k' (λ w v. AnswersOrMemory (refusal (look w)) (Ok x) w v (Y w v))
  accepted_or_memory k k' refusal x Y e s = λ w S. let y = s w S in (y.0, y.1, rw (ap refusal S.looks ∙ e) y.2)

-- ---- acts

pub idle_as : (E : Type 0) (k : Kept) (reason : Look → Option Why) (why : Why) (after : World → World) → reason k.looks ≡ Some why
    → StepsBare k k (λ w v. Acts {E = E} (reason (look w)) (Ok (acted.Idle why)) w (after w) v)
idle_as E k reason why after e = λ w S. (w, S, rw (ap reason S.looks ∙ e) (refl, refl))

pub did_as : (E : Type 0) (k k' : Kept) (reason : Look → Option Why) (after : World → World) → reason k.looks ≡ None
    → StepsBare k k' (λ w v. ClosesTo (after w) v) → StepsBare k k' (λ w v. Acts {E = E} (reason (look w)) (Ok acted.Did) w (after w) v)
did_as E k k' reason after e s = λ w S. let y = s w S in (y.0, y.1, rw (ap reason S.looks ∙ e) (refl, y.2))

pub idle : (k : Kept) (reason : Look → Option Why) (why : Why) (after : World → World) → reason k.looks ≡ Some why
    → StepsBare k k (λ w v. Acts {E = OmxError} (reason (look w)) (Ok (acted.Idle why)) w (after w) v)
idle k reason why after e = idle_as OmxError k reason why after e

pub did : (k k' : Kept) (reason : Look → Option Why) (after : World → World) → reason k.looks ≡ None
    → StepsBare k k' (λ w v. ClosesTo (after w) v) → StepsBare k k' (λ w v. Acts {E = OmxError} (reason (look w)) (Ok acted.Did) w (after w) v)
did k k' reason after e s = did_as OmxError k k' reason after e s

-- ---- the change of an act, and then the close-out

pub then_closes : (a b c : Kept) (after : World → World) → StepsBare a b (λ w v. v ≡ after w) → StepsBare b c ClosesTo → StepsBare a c (λ w v. ClosesTo (after w) v)
then_closes a b c after f g = λ w S.
    let x = f w S in
    let y = g x.0 x.1 in
    (y.0, y.1, subst (λ (z : World). ClosesTo z y.0) x.2 y.2)

-- ---- the header of a number

pub at_state : (k k' : Kept) (n : ℕ) (s : HeaderState) (X : World → World → HeaderState → Type 0) → k.looks.headers.header n ≡ Some s
    → StepsBare k k' (λ w v. X w v s) → StepsBare k k' (λ w v. AtState n (look w) (X w v))
at_state k k' n s X e f = λ w S.
    let y = f w S in
    let h : (look w).headers.header n ≡ Some s = ap (λ (l : Look). l.headers.header n) S.looks ∙ e in
    (y.0, y.1, subst (λ (o : Option HeaderState). MatchOption o ⊥ (X w y.0)) (sym h) y.2)

-- ---- the port that an act names

pub no_port : (T E : Type 0) (refuse : OmxError → E) (k : Kept) (h : Handle) (i : ℕ) (c : Component) (port : ℕ) (X : World → World → ℕ → Component → Port → Type 0) → place_of h k.looks.components ≡ Some i → slice_get k.looks.components i ≡ Some c
    → port_of c port ≡ None → StepsBare k k (λ w v. OnPort {T = T} refuse w h port (Err (refuse errors.BadPortIndex)) v (X w v))
no_port T E refuse k h i c port X e f p = resolved refuse k k h i c (Err (refuse errors.BadPortIndex))
    (λ w v j d. MatchOption (port_of d port) ((Err (refuse errors.BadPortIndex) ≡ Err (refuse errors.BadPortIndex)) × (v ≡ w)) (X w v j d)) e f (λ w S. (w, S, rw p (refl, refl)))

pub on_port : {T E : Type 0} (refuse : OmxError → E) (k k' : Kept) (h : Handle) (i : ℕ) (c : Component) (p : Port) (port : ℕ) (r : Result T E) (X : World → World → ℕ → Component → Port → Type 0) → place_of h k.looks.components ≡ Some i → slice_get k.looks.components i ≡ Some c
    → port_of c port ≡ Some p → StepsBare k k' (λ w v. X w v i c p) → StepsBare k k' (λ w v. OnPort refuse w h port r v (X w v))
on_port refuse k k' h i c p port r X e f q s = resolved refuse k k' h i c r
    (λ w v j d. MatchOption (port_of d port) ((r ≡ Err (refuse errors.BadPortIndex)) × (v ≡ w)) (X w v j d)) e f (λ w S. let y = s w S in (y.0, y.1, rw q y.2))
