-- A call on the ports of two components is a step of each world that the graph stands for.
use Rattle.std.proofs.Common.{◌≡◌, ℕ, Option, Some, None, Err, Ok, Result, MatchOption, sym}
use Rattle.omx_types.specs.declared.handle.Handle.{Handle}
use Rattle.omx_types.specs.declared.error.OmxError.{OmxError}
use Rattle.omx_types.specs.declared.error.OmxError.TheVariants as errors
use Rattle.il_machine.specs.declared.answer.Progress.{Progress}
use Rattle.il_machine.specs.declared.port.Port.{Port}
use Rattle.il_machine.specs.World.{Component, World}
use Rattle.il_machine.specs.Look.{Look, look}
use Rattle.il_machine.specs.Due.{ClosesTo}
use Rattle.il_machine.specs.Answers.{plain, Resolving, Answers}
use Rattle.il_machine.specs.Tunnels.{BothPorts}
use Rattle.il_machine.specs.Whole.{Kept}
use Rattle.stock_laws.specs.Bare.{StepsBare}
use Rattle.stock_laws.proofs.Answering.{resolved, refused, accepted, then_closes}
use Rattle.graph_core.specs.Entries.{Entries, look_of, kept, component_at, entry_place}
use Rattle.il_graph.proofs.Calling.{Found, not_found, at_some}

-- ---- the change of both ports, and then the close-out

pub both_close : (a b c : Kept) (o o' : Option Port) (P : Port → Port → Type 0) (After : Port → Port → World → World)
    → BothPorts o o' (λ p q. P p q × StepsBare a b (λ w v. v ≡ After p q w)) → StepsBare b c ClosesTo
    → StepsBare a c (λ w v. BothPorts o o' (λ p q. P p q × ClosesTo (After p q w) v))
both_close a b c None o' P After s closes = absurd s
both_close a b c (Some p) None P After s closes = absurd s
both_close a b c (Some p) (Some q) P After s closes = λ w S.
    let y = then_closes a b c (After p q) s.1 closes w S in
    (y.0, y.1, (s.0, y.2))

pub both_end : (a b c : Kept) (o o' : Option Port) (After : Port → Port → World → World)
    → BothPorts o o' (λ p q. StepsBare a b (λ w v. v ≡ After p q w)) → StepsBare b c ClosesTo
    → StepsBare a c (λ w v. BothPorts o o' (λ p q. ClosesTo (After p q w) v))
both_end a b c None o' After s closes = absurd s
both_end a b c (Some p) None After s closes = absurd s
both_end a b c (Some p) (Some q) After s closes = then_closes a b c (After p q) s closes

module _ {C : Type 0} (progress : C → Progress) where
  -- what a contract says of the components at two places
  pub at_both : (g : Entries C) (h h' : Handle) (i j : ℕ) (P : Component → Component → Type 0) (F : Found progress g h i) (G : Found progress g h' j)
      → MatchOption (component_at i g) ⊥ (λ c. MatchOption (component_at j g) ⊥ (λ d. P c d)) → P F.component G.component
  at_both g h h' i j P F G m =
      at_some (P F.component) (component_at j g) G.component G.at (at_some (λ c. MatchOption (component_at j g) ⊥ (λ d. P c d)) (component_at i g) F.component F.at m)

  -- both handles name components
  pub resolved_both : (T : Type 0) (g k : Entries C) (h h' : Handle) (i j : ℕ) (r : Result T OmxError) (X : World → World → ℕ → Component → ℕ → Component → Type 0) (F : Found progress g h i) (G : Found progress g h' j)
      → StepsBare (kept progress g) (kept progress k) (λ w v. X w v i F.component j G.component)
      → StepsBare (kept progress g) (kept progress k) (λ w v. Resolving plain w h r v (λ i c. Resolving plain w h' r v (λ j d. X w v i c j d)))
  resolved_both T g k h h' i j r X F G s =
      resolved plain (kept progress g) (kept progress k) h i F.component r (λ w v i c. Resolving plain w h' r v (λ j d. X w v i c j d)) F.place F.at
      (resolved plain (kept progress g) (kept progress k) h' j G.component r (λ w v j d. X w v i F.component j d) G.place G.at s)

  -- the first handle names a component, and the second names none
  pub other_not_found : (T : Type 0) (g : Entries C) (h h' : Handle) (i : ℕ) (X : World → World → ℕ → Component → ℕ → Component → Type 0) → Found progress g h i → None ≡ entry_place h' g.entries
      → StepsBare (kept progress g) (kept progress g) (λ w v. Resolving {T = T} plain w h (Err errors.InvalidComponent) v (λ i c. Resolving {T = T} plain w h' (Err errors.InvalidComponent) v (λ j d. X w v i c j d)))
  other_not_found T g h h' i X F e =
      resolved plain (kept progress g) (kept progress g) h i F.component (Err errors.InvalidComponent) (λ w v i c. Resolving {T = T} plain w h' (Err errors.InvalidComponent) v (λ j d. X w v i c j d)) F.place F.at
      (not_found progress T g h' (λ w v j d. X w v i F.component j d) e)

  module _ {T : Type 0} (R : Look → Component → Component → Option OmxError) where
    pub refused_at_both : (g : Entries C) (h h' : Handle) (i j : ℕ) (error : OmxError) (Y : World → World → ℕ → Component → ℕ → Component → T → Type 0) → Found progress g h i → Found progress g h' j
        → MatchOption (component_at i g) ⊥ (λ c. MatchOption (component_at j g) ⊥ (λ d. Some error ≡ R (look_of g) c d))
        → StepsBare (kept progress g) (kept progress g) (λ w v. Resolving {T = T} plain w h (Err error) v (λ i c. Resolving {T = T} plain w h' (Err error) v (λ j d. Answers (R (look w) c d) (Err error) w v (Y w v i c j d))))
    refused_at_both g h h' i j error Y F G m =
        let r = at_both g h h' i j (λ c d. Some error ≡ R (look_of g) c d) F G m in
        resolved_both T g g h h' i j (Err error) (λ w v i c j d. Answers (R (look w) c d) (Err error) w v (Y w v i c j d)) F G
        (refused (kept progress g) (λ l. R l F.component G.component) error (λ w v. Y w v i F.component j G.component) (sym r))

    pub accepted_at_both : (g k : Entries C) (h h' : Handle) (i j : ℕ) (x : T) (Y : World → World → ℕ → Component → ℕ → Component → T → Type 0) (F : Found progress g h i) (G : Found progress g h' j)
        → MatchOption (component_at i g) ⊥ (λ c. MatchOption (component_at j g) ⊥ (λ d. None ≡ R (look_of g) c d))
        → StepsBare (kept progress g) (kept progress k) (λ w v. Y w v i F.component j G.component x)
        → StepsBare (kept progress g) (kept progress k) (λ w v. Resolving {T = T} plain w h (Ok x) v (λ i c. Resolving {T = T} plain w h' (Ok x) v (λ j d. Answers (R (look w) c d) (Ok x) w v (Y w v i c j d))))
    accepted_at_both g k h h' i j x Y F G m s =
        let r = at_both g h h' i j (λ c d. None ≡ R (look_of g) c d) F G m in
        resolved_both T g k h h' i j (Ok x) (λ w v i c j d. Answers (R (look w) c d) (Ok x) w v (Y w v i c j d)) F G
        (accepted (kept progress g) (kept progress k) (λ l. R l F.component G.component) x (λ w v. Y w v i F.component j G.component) (sym r) s)
