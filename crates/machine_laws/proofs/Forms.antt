-- The forms of an answer: each leaves the world as it was, or as the act and the close-out make it.
use Rattle.std.proofs.Common.{◌≡◌, ℕ, slice_get, Option, Some, None, Result, Ok, Err, MatchOption, refl, sym, subst}
use Rattle.omx_types.specs.declared.handle.Handle.{Handle}
use Rattle.omx_types.specs.declared.error.OmxError.{OmxError}
use Rattle.omx_types.specs.declared.error.OmxError.TheVariants as errors
use Rattle.omx_types.specs.declared.error.CallError.{CallError}
use Rattle.il_machine.specs.declared.answer.Acted.{Acted}
use Rattle.il_machine.specs.declared.answer.Why.{Why}
use Rattle.il_machine.specs.declared.port.Port.{Port}
use Rattle.il_machine.specs.World.{Component, World, place_of, port_of}
use Rattle.il_machine.specs.Answers.{plain, Resolving, Answers, AnswersAs, AnswersOrMemory, Acts, Looks}
use Rattle.il_machine.specs.Flow.{OnPort}
use Rattle.il_machine.specs.Sound.{Sound}
use Rattle.machine_laws.proofs.Happening.{sound_closes}

pub stays_sound : (w v : World) → v ≡ w → Sound w → Sound v
stays_sound w v e S = subst Sound (sym e) S

module _ {T E : Type 0} (refuse : OmxError → E) (w v : World) (h : Handle) (result : Result T E) where
  placed_at : (o : Option ℕ) (Refused : Type 0) (Then : ℕ → Component → Type 0) → Sound w → MatchOption o (Refused × (v ≡ w)) (λ i. MatchOption (slice_get w.components i) ⊥ (λ c. Then i c))
      → ((i : ℕ) (c : Component) → slice_get w.components i ≡ Some c → Then i c → Sound v) → Sound v
  placed_at None Refused Then S h k = stays_sound w v h.1 S
  placed_at (Some i) Refused Then S h k = there_at (slice_get w.components i) refl h
    where
      there_at : (o : Option Component) → slice_get w.components i ≡ o → MatchOption o ⊥ (λ c. Then i c) → Sound v
      there_at None e h = absurd h
      there_at (Some c) e h = k i c e h

  pub resolving_keeps : (Then : ℕ → Component → Type 0) → Sound w → Resolving refuse w h result v Then → ((i : ℕ) (c : Component) → slice_get w.components i ≡ Some c → Then i c → Sound v) → Sound v
  resolving_keeps Then S r k = placed_at (place_of h w.components) (result ≡ Err (refuse errors.InvalidComponent)) Then S r k

  on_port : (i : ℕ) (c : Component) (o : Option Port) (Refused : Type 0) (Then : Port → Type 0) → MatchOption o (Refused × (v ≡ w)) Then → Sound w → ((p : Port) → o ≡ Some p → Then p → Sound v) → Sound v
  on_port i c None Refused Then h S k = stays_sound w v h.1 S
  on_port i c (Some p) Refused Then h S k = k p refl h

  pub on_port_keeps : (port : ℕ) (Then : ℕ → Component → Port → Type 0) → Sound w → OnPort refuse w h port result v Then
      → ((i : ℕ) (c : Component) (p : Port) → slice_get w.components i ≡ Some c → port_of c port ≡ Some p → Then i c p → Sound v) → Sound v
  on_port_keeps port Then S r k = resolving_keeps (λ i c. MatchOption (port_of c port) ((result ≡ Err (refuse errors.BadPortIndex)) × (v ≡ w)) (λ p. Then i c p)) S r (λ i c t m.
      on_port i c (port_of c port) (result ≡ Err (refuse errors.BadPortIndex)) (λ p. Then i c p) m S (λ p e x. k i c p t e x))

pub answers_as_keep : {T E : Type 0} (refuse : OmxError → E) (o : Option OmxError) (result : Result T E) (w v : World) (Accepted : T → Type 0) → AnswersAs refuse o result w v Accepted → Sound w
    → ((x : T) → o ≡ None → Accepted x → Sound v) → Sound v
answers_as_keep refuse (Some error) result w v Accepted h S k = stays_sound w v h.1 S
answers_as_keep refuse None (Ok x) w v Accepted h S k = k x refl h
answers_as_keep refuse None (Err error) w v Accepted h S k = absurd h

pub answers_keep : {T : Type 0} (o : Option OmxError) (result : Result T OmxError) (w v : World) (Accepted : T → Type 0) → Answers o result w v Accepted → Sound w
    → ((x : T) → o ≡ None → Accepted x → Sound v) → Sound v
answers_keep o result w v Accepted h S k = answers_as_keep plain o result w v Accepted h S k

pub answers_or_memory_keep : {T : Type 0} (o : Option OmxError) (result : Result T CallError) (w v : World) (Accepted : T → Type 0) → AnswersOrMemory o result w v Accepted → Sound w
    → ((x : T) → o ≡ None → Accepted x → Sound v) → Sound v
answers_or_memory_keep (Some error) result w v Accepted h S k = stays_sound w v h.1 S
answers_or_memory_keep None (Ok x) w v Accepted h S k = k x refl h
answers_or_memory_keep None (Err error) w v Accepted h S k = stays_sound w v h.1 S

pub acts_keep : {E : Type 0} (o : Option Why) (result : Result Acted E) (w after v : World) → Acts o result w after v → Sound w → (o ≡ None → Sound after) → Sound v
acts_keep (Some reason) result w after v h S k = stays_sound w v h.1 S
acts_keep None result w after v h S k = sound_closes after v h.1 (k refl)

pub looks_keep : {T : Type 0} (answer result : Result T OmxError) (w v : World) → Looks answer result w v → Sound w → Sound v
looks_keep (Ok x) result w v h S = sound_closes w v h.1 S
looks_keep (Err error) result w v h S = stays_sound w v h.1 S
