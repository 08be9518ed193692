-- The frames of a step without a fault are those that the world says.
use Rattle.std.proofs.Common.{◌≡◌, ℕ, Bool, true, false, List, Option, Some, None, MatchOption, sym, ◌∙◌, subst}
use Rattle.part_api.specs.Terms.{Terms}
use Rattle.il_machine.specs.World.{Component, Stream, Work, World, component_numbered, stream_of}
use Rattle.il_machine.specs.Claims.{CarriedHeader, carried, terms_in}
use Rattle.il_machine.specs.Stepping.{IsDoneBy, IsDoneOf, IsStep, IsStepBy, IsWholeStep, WorkDone}
use Rattle.il_machine.specs.Acts as acts
use Rattle.il_machine.specs.Run.{Meets}

module _ (w : World) (done back : WorkDone) (number : done.component ≡ back.component) (whole : done.fault ≡ None) (other : back.fault ≡ None) where
  by_whole : (t : Terms) (s : Stream) (headers : List CarriedHeader) → IsWholeStep t s headers done → IsWholeStep t s headers back → done.frames ≡ back.frames
  by_whole t s headers x y = x.2 ∙ sym y.2

  by_step : (t : Terms) (s : Stream) (headers : List CarriedHeader) → IsStep t s headers done → IsStep t s headers back → done.frames ≡ back.frames
  by_step t s headers x y = by_whole t s headers (subst (λ f. IsStepBy f t s headers done) whole x) (subst (λ f. IsStepBy f t s headers back) other y)

  by_stream : (t : Terms) (headers : List CarriedHeader) (o : Option Stream) → MatchOption o ⊥ (λ s. IsStep t s headers done) → MatchOption o ⊥ (λ s. IsStep t s headers back) → done.frames ≡ back.frames
  by_stream t headers None x y = absurd x
  by_stream t headers (Some s) x y = by_step t s headers x y

  by_kind : (c : Component) (work : Work) (announces : Bool) → IsDoneBy announces w c work done → IsDoneBy announces w c work back → done.frames ≡ back.frames
  by_kind c work true x y = x.0 ∙ sym y.0
  by_kind c work false x y =
      let t = terms_in c work in
      let headers = carried w.headers work.headers in
      by_stream t headers (stream_of done.component w) x (subst (λ (k : ℕ). MatchOption (stream_of k w) ⊥ (λ s. IsStep t s headers back)) (sym number) y)

  by_work : (c : Component) (o : Option Work) → MatchOption o ⊥ (λ work. IsDoneOf w c work done) → MatchOption o ⊥ (λ work. IsDoneOf w c work back) → done.frames ≡ back.frames
  by_work c None x y = absurd x
  by_work c (Some work) x y = by_kind c work work.announces x y

  by_component : (o : Option Component) → MatchOption o ⊥ (λ c. MatchOption c.work ⊥ (λ work. IsDoneOf w c work done))
      → MatchOption o ⊥ (λ c. MatchOption c.work ⊥ (λ work. IsDoneOf w c work back)) → done.frames ≡ back.frames
  by_component None x y = absurd x
  by_component (Some c) x y = by_work c c.work x y

  pub frames_same : Meets w (acts.Finish done) → Meets w (acts.Finish back) → done.frames ≡ back.frames
  frames_same x y =
      by_component (component_numbered done.component w) x
      (subst (λ (k : ℕ). MatchOption (component_numbered k w) ⊥ (λ c. MatchOption c.work ⊥ (λ work. IsDoneOf w c work back))) (sym number) y)
