-- Each form of an answer has one.
use Rattle.std.proofs.Common.{◌≡◌, ℕ, Option, Some, None, Result, Ok, Err, List, slice_get, MatchOption, refl, sym, ◌∙◌}
use Rattle.omx_types.specs.declared.handle.Handle.{Handle}
use Rattle.omx_types.specs.declared.error.OmxError.{OmxError}
use Rattle.omx_types.specs.declared.error.OmxError.TheVariants as errors
use Rattle.il_machine.specs.declared.answer.Acted.{Acted}
use Rattle.il_machine.specs.declared.answer.Acted.TheVariants as acted
use Rattle.il_machine.specs.declared.answer.Why.{Why}
use Rattle.il_machine.specs.declared.port.Port.{Port}
use Rattle.il_machine.specs.World.{Component, World, is_at, place_of, port_of}
use Rattle.il_machine.specs.Answers.{Resolving, AnswersAs, Acts, Looks}
use Rattle.il_machine.specs.Buffers.{AtPort}
use Rattle.il_machine.specs.Flow.{OnPort}
use Rattle.il_machine.specs.Due.{ClosesTo}
use Rattle.il_machine.proofs.Places.{is_first_place, passes_at}
use Rattle.machine_laws.proofs.Ending.{closes_somewhere}
use Rattle.machine_laws.proofs.Keys.{is_there}

-- a result, and the world behind it
abbrev pub Has : {R : Type 0} → (R → World → Type 0) → Type 0
Has {R} P = (r : R) × (v : World) × P r v

pub named_at : (h : Handle) (cs : List Component) (i : ℕ) → place_of h cs ≡ Some i → (c : Component) × (slice_get cs i ≡ Some c)
named_at h cs i e = let x = passes_at (is_at h) cs i (sym (is_first_place (is_at h) cs) ∙ e) in (x.0, x.1)

module _ {T E : Type 0} (refuse : OmxError → E) (w : World) where
  at_place : (o : Option ℕ) (cs : List Component) (Then : Result T E → World → ℕ → Component → Type 0)
      → ((i : ℕ) → o ≡ Some i → (c : Component) × (slice_get cs i ≡ Some c))
      → ((i : ℕ) (c : Component) → slice_get cs i ≡ Some c → Has (λ (r : Result T E) v. Then r v i c))
      → Has (λ (r : Result T E) v. MatchOption o ((r ≡ Err (refuse errors.InvalidComponent)) × (v ≡ w)) (λ i. MatchOption (slice_get cs i) ⊥ (λ c. Then r v i c)))
  at_place None cs Then there given = (Err (refuse errors.InvalidComponent), w, (refl, refl))
  at_place (Some i) cs Then there given =
      let x = there i refl in
      let g = given i x.0 x.1 in
      (g.0, g.1, is_there (slice_get cs i) (λ c. Then g.0 g.1 i c) x.0 x.1 g.2)

  pub resolving : (h : Handle) (Then : Result T E → World → ℕ → Component → Type 0)
      → ((i : ℕ) (c : Component) → slice_get w.components i ≡ Some c → Has (λ (r : Result T E) v. Then r v i c))
      → Has (λ (r : Result T E) v. Resolving refuse w h r v (Then r v))
  resolving h Then given = at_place (place_of h w.components) w.components Then (named_at h w.components) given

  by_port : (o : Option Port) (Then : Result T E → World → Port → Type 0)
      → ((p : Port) → o ≡ Some p → Has (λ (r : Result T E) v. Then r v p))
      → Has (λ (r : Result T E) v. MatchOption o ((r ≡ Err (refuse errors.BadPortIndex)) × (v ≡ w)) (λ p. Then r v p))
  by_port None Then given = (Err (refuse errors.BadPortIndex), w, (refl, refl))
  by_port (Some p) Then given = given p refl

  pub on_port : (h : Handle) (port : ℕ) (Then : Result T E → World → ℕ → Component → Port → Type 0)
      → ((i : ℕ) (c : Component) (p : Port) → Has (λ (r : Result T E) v. Then r v i c p))
      → Has (λ (r : Result T E) v. OnPort refuse w h port r v (Then r v))
  on_port h port Then given = resolving h
      (λ r v i c. MatchOption (port_of c port) ((r ≡ Err (refuse errors.BadPortIndex)) × (v ≡ w)) (λ p. Then r v i c p))
      (λ i c at. by_port (port_of c port) (λ r v p. Then r v i c p) (λ p is. given i c p))

  pub answers : (refusal : Option OmxError) (Accepted : World → T → Type 0)
      → (refusal ≡ None → Has (λ (x : T) v. Accepted v x))
      → Has (λ (r : Result T E) v. AnswersAs refuse refusal r w v (Accepted v))
  answers (Some error) Accepted given = (Err (refuse error), w, (refl, refl))
  answers None Accepted given = let g = given refl in (Ok g.0, g.1, g.2)

pub acted_so : {E : Type 0} (reason : Option Why) (w after : World) → Has (λ (r : Result Acted E) v. Acts reason r w after v)
acted_so (Some why) w after = (Ok (acted.Idle why), w, (refl, refl))
acted_so None w after = let c = closes_somewhere after in (Ok acted.Did, c.0, (refl, c.1))

pub looking : {T : Type 0} (answer : Result T OmxError) (w : World) → Has (λ (r : Result T OmxError) v. Looks answer r w v)
looking (Ok x) w = let c = closes_somewhere w in (Ok x, c.0, (refl, c.1))
looking (Err e) w = (Err e, w, (refl, refl))

-- the close-out follows, and the result is the call's own
pub closed_with : {T : Type 0} (x : T) (after : World) → Has (λ (r : T) v. (r ≡ x) × ClosesTo after v)
closed_with x after = let c = closes_somewhere after in (x, c.0, (refl, c.1))

pub just_closed : (after : World) → Has (λ (r : Unit {0}) v. ClosesTo after v)
just_closed after = let c = closes_somewhere after in (tt, c.0, c.1)

pub at_port : {T : Type 0} (o : Option Port) (Then : T → World → Port → Type 0) (p : Port) → o ≡ Some p → Has (λ (r : T) v. Then r v p) → Has (λ (r : T) v. AtPort o (λ q. Then r v q))
at_port o Then p is g = (g.0, g.1, is_there o (λ q. Then g.0 g.1 q) p is g.2)
