-- Two answers of one call in one world, by the forms of an answer.
use Rattle.std.proofs.Common.{◌≡◌, ℕ, slice_get, Option, Some, None, Result, Ok, Err, MatchOption, refl, sym, ◌∙◌}
use Rattle.std.specs.Prelude.{IsOkAnd, MatchResult}
use Rattle.omx_types.specs.declared.handle.Handle.{Handle}
use Rattle.omx_types.specs.declared.error.OmxError.{OmxError}
use Rattle.omx_types.specs.declared.error.OmxError.TheVariants as errors
use Rattle.omx_types.specs.declared.error.CallError.{CallError}
use Rattle.omx_types.specs.declared.error.CallError.TheVariants.{Omx, OutOfMemory}
use Rattle.il_machine.specs.declared.answer.Acted.{Acted}
use Rattle.il_machine.specs.declared.answer.Acted.TheVariants as acted
use Rattle.il_machine.specs.declared.answer.Why.{Why}
use Rattle.il_machine.specs.declared.port.Port.{Port}
use Rattle.il_machine.specs.World.{Component, World, place_of, port_of}
use Rattle.il_machine.specs.Answers.{plain, Resolving, Answers, AnswersAs, AnswersOrMemory, Acts, Looks}
use Rattle.il_machine.specs.Flow.{OnPort}
use Rattle.il_machine.specs.Due.{ClosesTo}
use Rattle.machine_laws.proofs.Closing.{closes_once}

-- what is there has both properties
pub both_there : {A C : Type 0} (o : Option A) (P Q : A → Type 0) → MatchOption o ⊥ P → MatchOption o ⊥ Q → ((a : A) → o ≡ Some a → P a → Q a → C) → C
both_there None P Q p q k = absurd p
both_there (Some a) P Q p q k = k a refl p q

-- Both answers are one, and nothing changed; or both closed a world, one of them.
pub record IsSame {R : Type 0} (x y : R) (v u : World) : Type 0 where
  pub result : y ≡ x
  pub world : u ≡ v

pub nothing_twice : {R : Type 0} (w : World) (z x y : R) (v u : World) → x ≡ z → v ≡ w → y ≡ z → u ≡ w → IsSame x y v u
nothing_twice w z x y v u a b c d = record { result = c ∙ sym a; world = d ∙ sym b }

pub closed_twice : {R : Type 0} (m : World) (z x y : R) (v u : World) → x ≡ z → ClosesTo m v → y ≡ z → ClosesTo m u → IsSame x y v u
closed_twice m z x y v u a b c d = record { result = c ∙ sym a; world = closes_once m u v d b }

module _ {T E : Type 0} where
  placed_twice : (refuse : OmxError → E) (w : World) (x y : Result T E) (v u : World) (A B : ℕ → Component → Type 0) (C : Type 0) (o : Option ℕ)
      → MatchOption o ((x ≡ Err (refuse errors.InvalidComponent)) × (v ≡ w)) (λ i. MatchOption (slice_get w.components i) ⊥ (λ c. A i c))
      → MatchOption o ((y ≡ Err (refuse errors.InvalidComponent)) × (u ≡ w)) (λ i. MatchOption (slice_get w.components i) ⊥ (λ c. B i c))
      → (IsSame x y v u → C) → ((i : ℕ) (c : Component) → A i c → B i c → C) → C
  placed_twice refuse w x y v u A B C None a b same k = same (nothing_twice w (Err (refuse errors.InvalidComponent)) x y v u a.0 a.1 b.0 b.1)
  placed_twice refuse w x y v u A B C (Some i) a b same k = both_there (slice_get w.components i) (A i) (B i) a b (λ c e p q. k i c p q)

  pub resolving_twice : (refuse : OmxError → E) (w : World) (h : Handle) (x y : Result T E) (v u : World) (A B : ℕ → Component → Type 0) (C : Type 0) → Resolving refuse w h x v A → Resolving refuse w h y u B
      → (IsSame x y v u → C) → ((i : ℕ) (c : Component) → A i c → B i c → C) → C
  resolving_twice refuse w h x y v u A B C a b same k = placed_twice refuse w x y v u A B C (place_of h w.components) a b same k

  port_twice : (refuse : OmxError → E) (w : World) (x y : Result T E) (v u : World) (A B : Port → Type 0) (C : Type 0) (o : Option Port)
      → MatchOption o ((x ≡ Err (refuse errors.BadPortIndex)) × (v ≡ w)) A → MatchOption o ((y ≡ Err (refuse errors.BadPortIndex)) × (u ≡ w)) B → (IsSame x y v u → C) → ((p : Port) → A p → B p → C) → C
  port_twice refuse w x y v u A B C None a b same k = same (nothing_twice w (Err (refuse errors.BadPortIndex)) x y v u a.0 a.1 b.0 b.1)
  port_twice refuse w x y v u A B C (Some p) a b same k = k p a b

  pub on_port_twice : (refuse : OmxError → E) (w : World) (h : Handle) (port : ℕ) (x y : Result T E) (v u : World) (A B : ℕ → Component → Port → Type 0) (C : Type 0) → OnPort refuse w h port x v A → OnPort refuse w h port y u B
      → (IsSame x y v u → C) → ((i : ℕ) (c : Component) (p : Port) → A i c p → B i c p → C) → C
  on_port_twice refuse w h port x y v u A B C a b same k =
      resolving_twice refuse w h x y v u
      (λ i c. MatchOption (port_of c port) ((x ≡ Err (refuse errors.BadPortIndex)) × (v ≡ w)) (λ p. A i c p))
      (λ i c. MatchOption (port_of c port) ((y ≡ Err (refuse errors.BadPortIndex)) × (u ≡ w)) (λ p. B i c p)) C a b same
      (λ i c p q. port_twice refuse w x y v u (A i c) (B i c) C (port_of c port) p q same (λ r s t. k i c r s t))

module _ {T : Type 0} where
  ok_twice : {E : Type 0} (x y : Result T E) (A B : T → Type 0) (C : Type 0) → IsOkAnd x A → IsOkAnd y B → ((s t : T) → x ≡ Ok s → y ≡ Ok t → A s → B t → C) → C
  ok_twice (Ok s) (Ok t) A B C a b k = k s t refl refl a b
  ok_twice (Ok s) (Err e) A B C a b k = absurd b
  ok_twice (Err e) y A B C a b k = absurd a

  pub answers_as_twice : {E : Type 0} (refuse : OmxError → E) (refusal : Option OmxError) (w : World) (x y : Result T E) (v u : World) (A B : T → Type 0) (C : Type 0) → AnswersAs refuse refusal x w v A → AnswersAs refuse refusal y w u B
      → (IsSame x y v u → C) → ((s t : T) → x ≡ Ok s → y ≡ Ok t → A s → B t → C) → C
  answers_as_twice refuse (Some error) w x y v u A B C a b same k = same (nothing_twice w (Err (refuse error)) x y v u a.0 a.1 b.0 b.1)
  answers_as_twice refuse None w x y v u A B C a b same k = ok_twice x y A B C a b k

  pub answers_twice : (refusal : Option OmxError) (w : World) (x y : Result T OmxError) (v u : World) (A B : T → Type 0) (C : Type 0) → Answers refusal x w v A → Answers refusal y w u B
      → (IsSame x y v u → C) → ((s t : T) → x ≡ Ok s → y ≡ Ok t → A s → B t → C) → C
  answers_twice refusal w x y v u A B C a b same k = answers_as_twice plain refusal w x y v u A B C a b same k

  -- the first or the second wants memory, or neither
  memory_twice : (w : World) (x y : Result T CallError) (v u : World) (A B : T → Type 0) (C : Type 0)
      → MatchResult x A (λ error. (error ≡ OutOfMemory) × (v ≡ w)) → MatchResult y B (λ error. (error ≡ OutOfMemory) × (u ≡ w))
      → (x ≡ Err OutOfMemory → v ≡ w → C) → (y ≡ Err OutOfMemory → u ≡ w → C) → ((s t : T) → x ≡ Ok s → y ≡ Ok t → A s → B t → C) → C
  memory_twice w (Err e) y v u A B C a b first second k = first (rw a.0 refl) a.1
  memory_twice w (Ok s) (Err e) v u A B C a b first second k = second (rw b.0 refl) b.1
  memory_twice w (Ok s) (Ok t) v u A B C a b first second k = k s t refl refl a b

  pub answers_or_memory_twice : (refusal : Option OmxError) (w : World) (x y : Result T CallError) (v u : World) (A B : T → Type 0) (C : Type 0) → AnswersOrMemory refusal x w v A → AnswersOrMemory refusal y w u B
      → (IsSame x y v u → C) → (x ≡ Err OutOfMemory → v ≡ w → C) → (y ≡ Err OutOfMemory → u ≡ w → C) → ((s t : T) → x ≡ Ok s → y ≡ Ok t → A s → B t → C) → C
  answers_or_memory_twice (Some error) w x y v u A B C a b same first second k = same (nothing_twice w (Err (Omx error)) x y v u a.0 a.1 b.0 b.1)
  answers_or_memory_twice None w x y v u A B C a b same first second k = memory_twice w x y v u A B C a b first second k

  -- a call that looks
  pub looks_twice : (answer x y : Result T OmxError) (w v u : World) → Looks answer x w v → Looks answer y w u → IsSame x y v u
  looks_twice (Ok z) x y w v u a b = closed_twice w (Ok z) x y v u a.0 a.1 b.0 b.1
  looks_twice (Err e) x y w v u a b = nothing_twice w (Err e) x y v u a.0 a.1 b.0 b.1

pub acts_twice : {E : Type 0} (reason : Option Why) (w after : World) (x y : Result Acted E) (v u : World) → Acts reason x w after v → Acts reason y w after u → IsSame x y v u
acts_twice (Some why) w after x y v u a b = nothing_twice w (Ok (acted.Idle why)) x y v u a.0 a.1 b.0 b.1
acts_twice None w after x y v u a b = closed_twice after (Ok acted.Did) x y v u a.0 a.1 b.0 b.1
