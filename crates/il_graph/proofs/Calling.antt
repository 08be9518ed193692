-- A call on the component that a handle names is a step of each world that the graph stands for.
use Rattle.std.proofs.Common.{◌≡◌, ℕ, zero, suc, ◌<◌, List, [], ◌∷◌, length, slice_get, Option, Some, None, option_map, option_and_then, Ok, Err, MatchOption, IsSomeAnd, refl, sym, ◌∙◌, ap, arith}
use Rattle.omx_types.specs.declared.handle.Handle.{Handle}
use Rattle.omx_types.specs.declared.error.OmxError.{OmxError}
use Rattle.omx_types.specs.declared.error.OmxError.TheVariants as errors
use Rattle.il_machine.specs.declared.answer.Acted.TheVariants as acted
use Rattle.il_machine.specs.declared.answer.Why.{Why}
use Rattle.il_machine.specs.declared.answer.Progress.{Progress}
use Rattle.il_machine.specs.declared.port.Port.{Port}
use Rattle.il_machine.specs.declared.port.PortView.{PortView}
use Rattle.il_machine.specs.World.{Component, World, place_of, port_of}
use Rattle.il_machine.specs.Headers.{Seen}
use Rattle.il_machine.specs.Components.{view_of, viewed, view_answer}
use Rattle.il_machine.specs.Look.{Look, look}
use Rattle.il_machine.specs.Due.{ClosesTo}
use Rattle.il_machine.specs.Answers.{plain, Resolving, Answers, Acts, component_named}
use Rattle.stock_laws.specs.Bare.{StepsBare}
use Rattle.stock_laws.proofs.Answering.{unresolved, resolved, refused, accepted, idle, did, then_closes}
use Rattle.il_component.specs.Entries.{Entry, component_of}
use Rattle.graph_core.specs.Entries.{Entries, look_of, kept, component_at, entry_place}
use Rattle.graph_core.proofs.Replacing.{entry_place_is, there}

pub there_is : {A : Type 0} (xs : List A) (i : ℕ) → i < length xs → (x : A) × slice_get xs i ≡ Some x
there_is [] i b = absurd (omega arith)
there_is (x ∷ xs) zero b = (x, refl)
there_is (x ∷ xs) (suc i) b = there_is xs i (omega arith)

pub at_some : {A : Type 0} (P : A → Type 0) (o : Option A) (x : A) → o ≡ Some x → MatchOption o ⊥ P → P x
at_some P o x e m = rw e at m

pub and_some : {A : Type 0} (P : A → Type 0) (o : Option A) (x : A) → o ≡ Some x → P x → IsSomeAnd o P
and_some P o x e p = rw e p

pub and_at : {A : Type 0} (P : A → Type 0) (o : Option A) (x : A) → o ≡ Some x → IsSomeAnd o P → P x
and_at P o x e m = rw e at m

module _ {C : Type 0} (progress : C → Progress) where
  pub record Found (g : Entries C) (h : Handle) (i : ℕ) : Type 0 where
    pub entry : Entry C
    pub component : Component
    pub place : place_of h (look_of g).components ≡ Some i
    pub at : component_at i g ≡ Some component
    pub entry_at : slice_get g.entries i ≡ Some entry

  pub found : (g : Entries C) (h : Handle) (i : ℕ) → Some i ≡ entry_place h g.entries → i < length g.entries → Found g h i
  found g h i e b =
      let x = there_is g.entries i b in
      record { entry = x.0; component = component_of x.0; place = entry_place_is h g.entries ∙ sym e; at = there progress g i x.0 x.1; entry_at = x.1 }

  -- what is read at the place is the component
  pub component_is : (g : Entries C) (h : Handle) (i : ℕ) (F : Found g h i) (e : Entry C) → Some e ≡ slice_get g.entries i → F.component ≡ component_of e
  component_is g h i F e at =
      let x : Some F.component ≡ Some (component_of e) = sym F.at ∙ there progress g i e (sym at) in
      cc

  pub not_found : (T : Type 0) (g : Entries C) (h : Handle) (X : World → World → ℕ → Component → Type 0) → None ≡ entry_place h g.entries
      → StepsBare (kept progress g) (kept progress g) (λ w v. Resolving {T = T} plain w h (Err errors.InvalidComponent) v (X w v))
  not_found T g h X e = unresolved T OmxError plain (kept progress g) h X (entry_place_is h g.entries ∙ sym e)

  module _ {T : Type 0} (R : Look → Component → Option OmxError) where
    pub refused_at : (g : Entries C) (h : Handle) (i : ℕ) (error : OmxError) (Y : World → World → ℕ → Component → T → Type 0) → Found g h i
        → MatchOption (component_at i g) ⊥ (λ c. Some error ≡ R (look_of g) c)
        → StepsBare (kept progress g) (kept progress g) (λ w v. Resolving {T = T} plain w h (Err error) v (λ j c. Answers (R (look w) c) (Err error) w v (Y w v j c)))
    refused_at g h i error Y F m =
        let r = at_some (λ c. Some error ≡ R (look_of g) c) (component_at i g) F.component F.at m in
        resolved plain (kept progress g) (kept progress g) h i F.component (Err error) (λ w v j c. Answers (R (look w) c) (Err error) w v (Y w v j c)) F.place F.at
        (refused (kept progress g) (λ l. R l F.component) error (λ w v. Y w v i F.component) (sym r))

    pub accepted_at : (g m k : Entries C) (h : Handle) (i : ℕ) (x : T) (After : ℕ → Component → World → World) → Found g h i
        → MatchOption (component_at i g) ⊥ (λ c. None ≡ R (look_of g) c)
        → MatchOption (component_at i g) ⊥ (λ c. StepsBare (kept progress g) (kept progress m) (λ w v. v ≡ After i c w))
        → StepsBare (kept progress m) (kept progress k) ClosesTo
        → StepsBare (kept progress g) (kept progress k) (λ w v. Resolving plain w h (Ok x) v (λ j c. Answers (R (look w) c) (Ok x) w v (λ (y : T). ClosesTo (After j c w) v)))
    accepted_at g m k h i x After F r s closes =
        let a = at_some (λ c. None ≡ R (look_of g) c) (component_at i g) F.component F.at r in
        let t = at_some (λ c. StepsBare (kept progress g) (kept progress m) (λ w v. v ≡ After i c w)) (component_at i g) F.component F.at s in
        resolved plain (kept progress g) (kept progress k) h i F.component (Ok x) (λ w v j c. Answers (R (look w) c) (Ok x) w v (λ (y : T). ClosesTo (After j c w) v)) F.place F.at
        (accepted (kept progress g) (kept progress k) (λ l. R l F.component) x (λ w v y. ClosesTo (After i F.component w) v) (sym a)
        (then_closes (kept progress g) (kept progress m) (kept progress k) (After i F.component) t closes))

  pub may : (R : Look → Component → Option OmxError) (g : Entries C) (h : Handle) (i : ℕ) → Found g h i → MatchOption (component_at i g) ⊥ (λ c. None ≡ R (look_of g) c) → IsSomeAnd (component_at i g) (λ c. R (look_of g) c ≡ None)
  may R g h i F r = and_some (λ c. R (look_of g) c ≡ None) (component_at i g) F.component F.at (sym (at_some (λ c. None ≡ R (look_of g) c) (component_at i g) F.component F.at r))

  module _ (R : Component → Option Why) where
    pub idle_at : (g : Entries C) (h : Handle) (i : ℕ) (why : Why) (After : ℕ → Component → World → World) → Found g h i
        → MatchOption (component_at i g) ⊥ (λ c. Some why ≡ R c)
        → StepsBare (kept progress g) (kept progress g) (λ w v. Resolving plain w h (Ok (acted.Idle why)) v (λ j c. Acts {E = OmxError} (R c) (Ok (acted.Idle why)) w (After j c w) v))
    idle_at g h i why After F m =
        let r = at_some (λ c. Some why ≡ R c) (component_at i g) F.component F.at m in
        resolved plain (kept progress g) (kept progress g) h i F.component (Ok (acted.Idle why)) (λ w v j c. Acts {E = OmxError} (R c) (Ok (acted.Idle why)) w (After j c w) v) F.place F.at
        (idle (kept progress g) (λ l. R F.component) why (After i F.component) (sym r))

    pub did_at : (g m k : Entries C) (h : Handle) (i : ℕ) (After : ℕ → Component → World → World) → Found g h i
        → MatchOption (component_at i g) ⊥ (λ c. None ≡ R c)
        → MatchOption (component_at i g) ⊥ (λ c. StepsBare (kept progress g) (kept progress m) (λ w v. v ≡ After i c w))
        → StepsBare (kept progress m) (kept progress k) ClosesTo
        → StepsBare (kept progress g) (kept progress k) (λ w v. Resolving plain w h (Ok acted.Did) v (λ j c. Acts {E = OmxError} (R c) (Ok acted.Did) w (After j c w) v))
    did_at g m k h i After F r s closes =
        let a = at_some (λ c. None ≡ R c) (component_at i g) F.component F.at r in
        let t = at_some (λ c. StepsBare (kept progress g) (kept progress m) (λ w v. v ≡ After i c w)) (component_at i g) F.component F.at s in
        resolved plain (kept progress g) (kept progress k) h i F.component (Ok acted.Did) (λ w v j c. Acts {E = OmxError} (R c) (Ok acted.Did) w (After j c w) v) F.place F.at
        (did (kept progress g) (kept progress k) (λ l. R F.component) (After i F.component) (sym a)
        (then_closes (kept progress g) (kept progress m) (kept progress k) (After i F.component) t closes))

    pub may_act : (g : Entries C) (h : Handle) (i : ℕ) → Found g h i → MatchOption (component_at i g) ⊥ (λ c. None ≡ R c) → IsSomeAnd (component_at i g) (λ c. R c ≡ None)
    may_act g h i F r = and_some (λ c. R c ≡ None) (component_at i g) F.component F.at (sym (at_some (λ c. None ≡ R c) (component_at i g) F.component F.at r))

  -- ---- what is seen of a port

  named_at : (g : Entries C) (h : Handle) (i : ℕ) (F : Found g h i) → component_named h (look_of g).components ≡ Some F.component
  named_at g h i F = ap (option_and_then (slice_get (look_of g).components)) F.place ∙ F.at

  pub not_seen : (g : Entries C) (h : Handle) → None ≡ entry_place h g.entries → component_named h (look_of g).components ≡ None
  not_seen g h e = ap (option_and_then (slice_get (look_of g).components)) (entry_place_is h g.entries ∙ sym e)

  view_some : (headers : Seen) (o : Option Port) (view : PortView) → Some view ≡ option_map (view_of headers) o → Ok view ≡ viewed headers o
  view_some headers None view e = absurd cc
  view_some headers (Some p) view e = let s : view ≡ view_of headers p = cc in ap Ok s

  view_none : (headers : Seen) (o : Option Port) → None ≡ option_map (view_of headers) o → Err errors.BadPortIndex ≡ viewed headers o
  view_none headers None e = refl
  view_none headers (Some p) e = absurd cc

  pub port_seen : (g : Entries C) (h : Handle) (i port : ℕ) (view : PortView) → Found g h i → MatchOption (component_at i g) ⊥ (λ c. Some view ≡ option_map (view_of (look_of g).headers) (port_of c port)) → Ok view ≡ view_answer h port (look_of g)
  port_seen g h i port view F m =
      let r = at_some (λ c. Some view ≡ option_map (view_of (look_of g).headers) (port_of c port)) (component_at i g) F.component F.at m in
      rw (named_at g h i F) (view_some (look_of g).headers (port_of F.component port) view r)

  pub no_port_seen : (g : Entries C) (h : Handle) (i port : ℕ) → Found g h i → MatchOption (component_at i g) ⊥ (λ c. None ≡ option_map (view_of (look_of g).headers) (port_of c port)) → Err errors.BadPortIndex ≡ view_answer h port (look_of g)
  no_port_seen g h i port F m =
      let r = at_some (λ c. None ≡ option_map (view_of (look_of g).headers) (port_of c port)) (component_at i g) F.component F.at m in
      rw (named_at g h i F) (view_none (look_of g).headers (port_of F.component port) r)
