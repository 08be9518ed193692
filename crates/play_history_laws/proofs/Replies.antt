-- What a call comes to in a world: it leaves the world, or nothing was against it.
use Rattle.std.proofs.Common.{◌≡◌, ◌⊎◌, inl, inr, ℕ, slice_get, Option, Some, None, MatchOption, Result, Err, refl}
use Rattle.omx_types.specs.declared.error.OmxError.{OmxError}
use Rattle.omx_types.specs.declared.error.OmxError.TheVariants as errors
use Rattle.omx_types.specs.declared.handle.Handle.{Handle}
use Rattle.il_machine.specs.declared.answer.Acted.{Acted}
use Rattle.il_machine.specs.declared.answer.Why.{Why}
use Rattle.il_machine.specs.declared.port.Port.{Port}
use Rattle.il_machine.specs.Answers.{Acts}
use Rattle.il_machine.specs.Flow.{OnPort}
use Rattle.il_machine.specs.World.{Component, World, place_of, port_of}
use Rattle.play_world_laws.proofs.Lists.{resolved}

option_case : {A : Type 0} (o : Option A) (N : Type 0) (P : A → Type 0) → MatchOption o N P → N ⊎ ((y : A) × (o ≡ Some y) × P y)
option_case None N P h = inl h
option_case (Some y) N P h = inr (y, refl, h)

-- what is said where nothing is there
pub unnamed : {A N : Type 0} (o : Option A) (P : A → Type 0) → o ≡ None → MatchOption o N P → N
unnamed None P e h = h
unnamed (Some x) P e h = absurd cc

-- the component has no such port, or one
pub on_port : {T E : Type 0} (refuse : OmxError → E) (w : World) (h : Handle) (port : ℕ) (result : Result T E) (v : World) (Then : ℕ → Component → Port → Type 0) (i : ℕ) (a : Component)
    → place_of h w.components ≡ Some i → slice_get w.components i ≡ Some a → OnPort refuse w h port result v Then → (v ≡ w) ⊎ ((y : Port) × (port_of a port ≡ Some y) × Then i a y)
on_port refuse w h port result v Then i a e f s =
    elim (option_case (port_of a port) ((result ≡ Err (refuse errors.BadPortIndex)) × (v ≡ w)) (Then i a) (resolved refuse w h result v (λ j c. MatchOption (port_of c port) ((result ≡ Err (refuse errors.BadPortIndex)) × (v ≡ w)) (Then j c)) i a e f s)) [
      | inl r ↦ inl r.1
      | inr r ↦ inr r
    ]

-- an answer Idle, or none
pub went : {E : Type 0} (o : Option Why) (result : Result Acted E) (w u v : World) → Acts o result w u v → (v ≡ w) ⊎ (o ≡ None)
went None result w u v h = inr refl
went (Some why) result w u v h = inl h.1
