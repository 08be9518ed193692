-- What comes of a step: nothing, or an act and then the close-out.
use Rattle.std.proofs.Common.{◌≡◌, ℕ, true, List, [], slice_get, Option, Some, None, Result, Ok, Err, MatchOption, refl, sym, ◌∙◌, ap, subst, eqb-true}
use Rattle.std.specs.Prelude.{IsOkAnd, MatchResult, nat_eq}
use Rattle.std.proofs.lemmas.Bool.{and_parts}
use Rattle.omx_types.specs.declared.handle.Handle.{Handle}
use Rattle.omx_types.specs.declared.error.OmxError.{OmxError}
use Rattle.omx_types.specs.declared.error.OmxError.TheVariants as errors
use Rattle.omx_types.specs.declared.error.CallError.{CallError}
use Rattle.omx_types.specs.declared.error.CallError.TheVariants.{Omx, OutOfMemory}
use Rattle.il_machine.specs.declared.answer.Acted.{Acted}
use Rattle.il_machine.specs.declared.answer.Acted.TheVariants as acted
use Rattle.il_machine.specs.declared.answer.Why.{Why}
use Rattle.il_machine.specs.declared.port.Port.{Port}
use Rattle.il_machine.specs.World.{Component, World, number_of, place_of, is_at, port_of}
use Rattle.il_machine.specs.Answers.{plain, Resolving, Answers, AnswersAs, AnswersOrMemory, Acts, Looks}
use Rattle.il_machine.specs.Flow.{OnPort}
use Rattle.il_machine.specs.Due.{ClosesTo}
use Rattle.il_machine.specs.Acts.{Act, Reply}
use Rattle.il_machine.specs.Acts as acts_
use Rattle.il_machine.specs.Effect.{effect}
use Rattle.il_machine.specs.Trails.{Move, moves}
use Rattle.machine_laws.proofs.Keys.{there_is}
use Rattle.il_machine.proofs.Places.{is_first_place, passes_at}
use Rattle.history_laws.proofs.Births.{TellsNothing, silent_same}
use Rattle.history_laws.proofs.Carried.{Carried, Still}
use Rattle.history_laws.proofs.Out.{WorksStay, works_same}

-- The act tells no completion, keeps each state or makes it Invalid, moves headers so, and brings back this component's work alone.
pub record Effect (w : World) (ms : List Move) (back : Option ℕ) (v : World) : Type 0 where
  pub silent : TellsNothing w v
  pub carried : Carried w ms v
  pub works : WorksStay back w v

-- what an answer makes of a world: the moves of headers, the component whose work comes back, and the world before the close-out
pub record Turn : Type 0 where
  pub moves : List Move
  pub back : Option ℕ
  pub after : World

abbrev pub brought_back : Act → Reply → Option ℕ
brought_back (acts_.Finish done) acts_.Finished = Some done.component
brought_back _ _ = None

abbrev pub turn : World → Act → Reply → Turn
turn w a r = record { moves = moves w a r; back = brought_back a r; after = effect w a r }

-- nothing moves or changes
abbrev pub no_turn : World → Turn
no_turn w = record { moves = []; back = None; after = w }

pub data Outcome (w : World) (t : Turn) (v : World) : Type 0 where
  Nothing : v ≡ w → t ≡ no_turn w → Outcome w t v
  Done : ClosesTo t.after v → Effect w t.moves t.back t.after → Outcome w t v

pub done : (w v : World) (t : Turn) (mid : World) → t.after ≡ mid → ClosesTo mid v → Effect w t.moves t.back mid → Outcome w t v
done w v t mid e C E = Done (subst (λ (x : World). ClosesTo x v) (sym e) C) (subst (λ (x : World). Effect w t.moves t.back x) (sym e) E)

pub silent_itself : (w : World) → TellsNothing w w
silent_itself w = silent_same w w refl refl refl

-- the close-out alone
pub only_closes : (w v : World) → ClosesTo w v → Outcome w (no_turn w) v
only_closes w v C = Done C (record { silent = silent_itself w; carried = Still (record { headers = refl; made = refl; moves = refl }); works = works_same None w w refl refl })

pub looks : {T : Type 0} (answer result : Result T OmxError) (w v : World) → Looks answer result w v → Outcome w (no_turn w) v
looks (Ok x) result w v h = only_closes w v h.1
looks (Err e) result w v h = Nothing h.1 refl

-- ---- the forms of an answer; ms is what comes by the result

pub nothing_by : {R : Type 0} (w v : World) (ms : R → Turn) (result r : R) → result ≡ r → ms r ≡ no_turn w → v ≡ w → Outcome w (ms result) v
nothing_by w v ms result r e m s = Nothing s (ap ms e ∙ m)

module _ {T : Type 0} where
  ok_and : {E : Type 0} (result : Result T E) (w v : World) (ms : Result T E → Turn) (Accepted : T → Type 0) → IsOkAnd result Accepted → ((x : T) → result ≡ Ok x → Accepted x → Outcome w (ms (Ok x)) v) → Outcome w (ms result) v
  ok_and (Ok x) w v ms Accepted a h = h x refl a
  ok_and (Err e) w v ms Accepted a h = absurd a

  pub answers_as : {E : Type 0} (refuse : OmxError → E) (refusal : Option OmxError) (result : Result T E) (w v : World) (ms : Result T E → Turn) (Accepted : T → Type 0) → ((e : E) → ms (Err e) ≡ no_turn w) → AnswersAs refuse refusal result w v Accepted
      → (refusal ≡ None → (x : T) → result ≡ Ok x → Accepted x → Outcome w (ms (Ok x)) v) → Outcome w (ms result) v
  answers_as refuse (Some error) result w v ms Accepted n a h = nothing_by w v ms result (Err (refuse error)) a.0 (n (refuse error)) a.1
  answers_as refuse None result w v ms Accepted n a h = ok_and result w v ms Accepted a (h refl)

  pub answers : (refusal : Option OmxError) (result : Result T OmxError) (w v : World) (ms : Result T OmxError → Turn) (Accepted : T → Type 0) → ((e : OmxError) → ms (Err e) ≡ no_turn w) → Answers refusal result w v Accepted
      → (refusal ≡ None → (x : T) → result ≡ Ok x → Accepted x → Outcome w (ms (Ok x)) v) → Outcome w (ms result) v
  answers refusal result w v ms Accepted n a h = answers_as plain refusal result w v ms Accepted n a h

  memory : (result : Result T CallError) (w v : World) (ms : Result T CallError → Turn) (Accepted : T → Type 0) → ((e : CallError) → ms (Err e) ≡ no_turn w) → MatchResult result Accepted (λ error. (error ≡ OutOfMemory) × (v ≡ w))
      → ((x : T) → result ≡ Ok x → Accepted x → Outcome w (ms (Ok x)) v) → Outcome w (ms result) v
  memory (Ok x) w v ms Accepted n a h = h x refl a
  memory (Err e) w v ms Accepted n a h = Nothing a.1 (n e)

  pub answers_or_memory : (refusal : Option OmxError) (result : Result T CallError) (w v : World) (ms : Result T CallError → Turn) (Accepted : T → Type 0) → ((e : CallError) → ms (Err e) ≡ no_turn w) → AnswersOrMemory refusal result w v Accepted
      → (refusal ≡ None → (x : T) → result ≡ Ok x → Accepted x → Outcome w (ms (Ok x)) v) → Outcome w (ms result) v
  answers_or_memory (Some error) result w v ms Accepted n a h = nothing_by w v ms result (Err (Omx error)) a.0 (n (Omx error)) a.1
  answers_or_memory None result w v ms Accepted n a h = memory result w v ms Accepted n a (h refl)

pub acts : {E : Type 0} (reason : Option Why) (result : Result Acted E) (w after v : World) (ms : Result Acted E → Turn) → ((why : Why) → ms (Ok (acted.Idle why)) ≡ no_turn w) → Acts reason result w after v
    → (reason ≡ None → ClosesTo after v → Outcome w (ms (Ok acted.Did)) v) → Outcome w (ms result) v
acts (Some reason) result w after v ms n a h = nothing_by w v ms result (Ok (acted.Idle reason)) a.0 (n reason) a.1
acts None result w after v ms n a h = subst (λ r. Outcome w (ms r) v) (sym a.0) (h refl a.1)

-- ---- the component that a handle names

pub record IsNamed (w : World) (h : Handle) (i : ℕ) (c : Component) : Type 0 where
  pub place : place_of h w.components ≡ Some i
  pub there : slice_get w.components i ≡ Some c
  pub number : number_of c ≡ h.generation

pub same_number : (w : World) (h : Handle) (i : ℕ) (c : Component) → place_of h w.components ≡ Some i → slice_get w.components i ≡ Some c → number_of c ≡ h.generation
same_number w h i c p e =
    let x = passes_at (is_at h) w.components i (sym (is_first_place (is_at h) w.components) ∙ p) in
    let s : Some x.0 ≡ Some c = sym x.1 ∙ e in
    let is : x.0 ≡ c = cc in
    let t : is_at h c ≡ true = rw (← is) x.2 in
    eqb-true _ _ (and_parts (nat_eq c.handle.slot h.slot) (nat_eq c.handle.generation h.generation) t).1

module _ {T E : Type 0} where
  at_place : (refuse : OmxError → E) (w : World) (h : Handle) (result : Result T E) (v : World) (Then : ℕ → Component → Type 0) (o : Option ℕ) → place_of h w.components ≡ o
      → MatchOption o ((result ≡ Err (refuse errors.InvalidComponent)) × (v ≡ w)) (λ i. MatchOption (slice_get w.components i) ⊥ (λ c. Then i c))
      → (ms : Result T E → Turn) → ((e : E) → ms (Err e) ≡ no_turn w) → ((i : ℕ) (c : Component) → IsNamed w h i c → Then i c → Outcome w (ms result) v) → Outcome w (ms result) v
  at_place refuse w h result v Then None p a ms n k = nothing_by w v ms result (Err (refuse errors.InvalidComponent)) a.0 (n (refuse errors.InvalidComponent)) a.1
  at_place refuse w h result v Then (Some i) p a ms n k =
      let x = there_is (slice_get w.components i) (Then i) a in
      k i x.0 (record { place = p; there = x.1; number = same_number w h i x.0 p x.1 }) x.2

  pub resolving : (refuse : OmxError → E) (w : World) (h : Handle) (result : Result T E) (v : World) (Then : ℕ → Component → Type 0) → Resolving refuse w h result v Then
      → (ms : Result T E → Turn) → ((e : E) → ms (Err e) ≡ no_turn w) → ((i : ℕ) (c : Component) → IsNamed w h i c → Then i c → Outcome w (ms result) v) → Outcome w (ms result) v
  resolving refuse w h result v Then a ms n k = at_place refuse w h result v Then (place_of h w.components) refl a ms n k

  at_the_port : (refuse : OmxError → E) (w : World) (result : Result T E) (v : World) (Then : Port → Type 0) (o : Option Port) → MatchOption o ((result ≡ Err (refuse errors.BadPortIndex)) × (v ≡ w)) Then
      → (ms : Result T E → Turn) → ((e : E) → ms (Err e) ≡ no_turn w) → ((p : Port) → o ≡ Some p → Then p → Outcome w (ms result) v) → Outcome w (ms result) v
  at_the_port refuse w result v Then None a ms n k = nothing_by w v ms result (Err (refuse errors.BadPortIndex)) a.0 (n (refuse errors.BadPortIndex)) a.1
  at_the_port refuse w result v Then (Some p) a ms n k = k p refl a

  pub on_port : (refuse : OmxError → E) (w : World) (h : Handle) (port : ℕ) (result : Result T E) (v : World) (Then : ℕ → Component → Port → Type 0) → OnPort refuse w h port result v Then
      → (ms : Result T E → Turn) → ((e : E) → ms (Err e) ≡ no_turn w) → ((i : ℕ) (c : Component) (p : Port) → IsNamed w h i c → port_of c port ≡ Some p → Then i c p → Outcome w (ms result) v) → Outcome w (ms result) v
  on_port refuse w h port result v Then a ms n k =
      resolving refuse w h result v (λ i c. MatchOption (port_of c port) ((result ≡ Err (refuse errors.BadPortIndex)) × (v ≡ w)) (λ p. Then i c p)) a ms n
      (λ i c named b. at_the_port refuse w result v (Then i c) (port_of c port) b ms n (λ p e t. k i c p named e t))
