-- An act on a port of the component that a handle names is a step of each world that the graph stands for.
use Rattle.std.proofs.Common.{◌≡◌, ℕ, true, false, Option, Some, None, is_some, Result, Ok, Err, MatchOption, IsSome, IsSomeAnd, refl, sym, ◌∙◌, ap}
use Rattle.omx_types.specs.declared.handle.Handle.{Handle}
use Rattle.omx_types.specs.declared.error.OmxError.{OmxError}
use Rattle.omx_types.specs.declared.error.OmxError.TheVariants as errors
use Rattle.omx_types.specs.declared.error.CallError.{CallError}
use Rattle.omx_types.specs.declared.error.CallError.TheVariants.{Omx}
use Rattle.il_machine.specs.declared.answer.Acted.TheVariants as acted
use Rattle.il_machine.specs.declared.answer.Why.{Why}
use Rattle.il_machine.specs.declared.answer.Progress.{Progress}
use Rattle.il_machine.specs.declared.port.Port.{Port}
use Rattle.il_machine.specs.World.{Component, World, port_of}
use Rattle.il_machine.specs.Look.{Look, look}
use Rattle.il_machine.specs.Due.{ClosesTo}
use Rattle.il_machine.specs.Flow.{OnPort}
use Rattle.il_machine.specs.Answers.{plain, Acts}
use Rattle.stock_laws.specs.Bare.{StepsBare}
use Rattle.stock_laws.proofs.Answering.{unresolved, no_port, on_port, idle, did, idle_as, did_as, then_closes}
use Rattle.graph_core.specs.Entries.{Entries, look_of, kept, component_at, entry_place}
use Rattle.graph_core.proofs.Replacing.{entry_place_is}
use Rattle.il_graph.proofs.Calling.{Found, at_some, and_some}

some_is : {A : Type 0} (o : Option A) → true ≡ is_some o → (x : A) × o ≡ Some x
some_is None h = absurd cc
some_is (Some x) h = (x, refl)

none_is : {A : Type 0} (o : Option A) → false ≡ is_some o → o ≡ None
none_is None h = refl
none_is (Some x) h = absurd cc

some_there : {A : Type 0} (o : Option A) (x : A) → o ≡ Some x → IsSome o
some_there o x e = ap is_some e

module _ {C : Type 0} (progress : C → Progress) (g : Entries C) (h : Handle) (port : ℕ) where
  pub unnamed : (T E : Type 0) (refuse : OmxError → E) (X : World → World → ℕ → Component → Port → Type 0) → None ≡ entry_place h g.entries
      → StepsBare (kept progress g) (kept progress g) (λ w v. OnPort {T = T} refuse w h port (Err (refuse errors.InvalidComponent)) v (X w v))
  unnamed T E refuse X e = unresolved T E refuse (kept progress g) h
      (λ w v i c. MatchOption (port_of c port) ((Err (refuse errors.InvalidComponent) ≡ Err (refuse errors.BadPortIndex)) × (v ≡ w)) (X w v i c)) (entry_place_is h g.entries ∙ sym e)

  module _ (i : ℕ) (F : Found progress g h i) where
    pub without_port : (T E : Type 0) (refuse : OmxError → E) (X : World → World → ℕ → Component → Port → Type 0) → MatchOption (component_at i g) ⊥ (λ c. false ≡ is_some (port_of c port))
        → StepsBare (kept progress g) (kept progress g) (λ w v. OnPort {T = T} refuse w h port (Err (refuse errors.BadPortIndex)) v (X w v))
    without_port T E refuse X m =
        let r = at_some (λ c. false ≡ is_some (port_of c port)) (component_at i g) F.component F.at m in
        no_port T E refuse (kept progress g) h i F.component port X F.place F.at (none_is (port_of F.component port) r)

    -- the component has the port
    pub record HasPort : Type 0 where
      pub it : Port
      pub there : port_of F.component port ≡ Some it

    pub with_port : MatchOption (component_at i g) ⊥ (λ c. true ≡ is_some (port_of c port)) → HasPort
    with_port m = let x = some_is (port_of F.component port) (at_some (λ c. true ≡ is_some (port_of c port)) (component_at i g) F.component F.at m) in record { it = x.0; there = x.1 }

    module _ (H : HasPort) where
      -- what a contract says of the port, and what it asks
      pub at_port : (P : Component → Port → Type 0) → MatchOption (component_at i g) ⊥ (λ c. MatchOption (port_of c port) ⊥ (P c)) → P F.component H.it
      at_port P m = at_some (P F.component) (port_of F.component port) H.it H.there (at_some (λ c. MatchOption (port_of c port) ⊥ (P c)) (component_at i g) F.component F.at m)

      pub and_port : (P : Component → Port → Type 0) → P F.component H.it → IsSomeAnd (component_at i g) (λ c. IsSomeAnd (port_of c port) (P c))
      and_port P x = and_some (λ c. IsSomeAnd (port_of c port) (P c)) (component_at i g) F.component F.at (and_some (P F.component) (port_of F.component port) H.it H.there x)

      pub port_there : IsSomeAnd (component_at i g) (λ c. IsSome (port_of c port))
      port_there = and_some (λ c. IsSome (port_of c port)) (component_at i g) F.component F.at (some_there (port_of F.component port) H.it H.there)

      named : {T E : Type 0} (refuse : OmxError → E) (k : Entries C) (r : Result T E) (X : World → World → ℕ → Component → Port → Type 0)
          → StepsBare (kept progress g) (kept progress k) (λ w v. X w v i F.component H.it) → StepsBare (kept progress g) (kept progress k) (λ w v. OnPort refuse w h port r v (X w v))
      named refuse k r X s = on_port refuse (kept progress g) (kept progress k) h i F.component H.it port r X F.place F.at H.there s

      closes : (m k : Entries C) (After : World → World) → StepsBare (kept progress g) (kept progress m) (λ w v. v ≡ After w) → StepsBare (kept progress m) (kept progress k) ClosesTo
          → StepsBare (kept progress g) (kept progress k) (λ w v. ClosesTo (After w) v)
      closes m k After s x = then_closes (kept progress g) (kept progress m) (kept progress k) After s x

      module _ (R : Look → Component → Port → Option Why) (After : ℕ → Component → Port → World → World) where
        abbrev Reason : Option Why → Type 0
        Reason o = MatchOption (component_at i g) ⊥ (λ c. MatchOption (port_of c port) ⊥ (λ p. o ≡ R (look_of g) c p))

        abbrev Changes : Entries C → Type 0
        Changes m = MatchOption (component_at i g) ⊥ (λ c. MatchOption (port_of c port) ⊥ (λ p. StepsBare (kept progress g) (kept progress m) (λ w v. v ≡ After i c p w)))

        pub reason_is : (o : Option Why) → Reason o → R (look_of g) F.component H.it ≡ o
        reason_is o m = sym (at_port (λ c p. o ≡ R (look_of g) c p) m)

        pub may_act : Reason None → IsSomeAnd (component_at i g) (λ c. IsSomeAnd (port_of c port) (λ p. R (look_of g) c p ≡ None))
        may_act m = and_port (λ c p. R (look_of g) c p ≡ None) (reason_is None m)

        changes : (m k : Entries C) → Changes m → StepsBare (kept progress m) (kept progress k) ClosesTo → StepsBare (kept progress g) (kept progress k) (λ w v. ClosesTo (After i F.component H.it w) v)
        changes m k s x = closes m k (After i F.component H.it) (at_port (λ c p. StepsBare (kept progress g) (kept progress m) (λ w v. v ≡ After i c p w)) s) x

        pub idle_on : (why : Why) → Reason (Some why)
            → StepsBare (kept progress g) (kept progress g) (λ w v. OnPort plain w h port (Ok (acted.Idle why)) v (λ i c p. Acts {E = OmxError} (R (look w) c p) (Ok (acted.Idle why)) w (After i c p w) v))
        idle_on why m = named plain g (Ok (acted.Idle why)) (λ w v i c p. Acts {E = OmxError} (R (look w) c p) (Ok (acted.Idle why)) w (After i c p w) v)
            (idle (kept progress g) (λ l. R l F.component H.it) why (After i F.component H.it) (reason_is (Some why) m))

        pub did_on : (m k : Entries C) → Reason None → Changes m → StepsBare (kept progress m) (kept progress k) ClosesTo
            → StepsBare (kept progress g) (kept progress k) (λ w v. OnPort plain w h port (Ok acted.Did) v (λ i c p. Acts {E = OmxError} (R (look w) c p) (Ok acted.Did) w (After i c p w) v))
        did_on m k r s x = named plain k (Ok acted.Did) (λ w v i c p. Acts {E = OmxError} (R (look w) c p) (Ok acted.Did) w (After i c p w) v)
            (did (kept progress g) (kept progress k) (λ l. R l F.component H.it) (After i F.component H.it) (reason_is None r) (changes m k s x))

        -- the same of an act with errors of other causes

        pub idle_by : (why : Why) → Reason (Some why)
            → StepsBare (kept progress g) (kept progress g) (λ w v. OnPort Omx w h port (Ok (acted.Idle why)) v (λ i c p. Acts {E = CallError} (R (look w) c p) (Ok (acted.Idle why)) w (After i c p w) v))
        idle_by why m = named Omx g (Ok (acted.Idle why)) (λ w v i c p. Acts {E = CallError} (R (look w) c p) (Ok (acted.Idle why)) w (After i c p w) v)
            (idle_as CallError (kept progress g) (λ l. R l F.component H.it) why (After i F.component H.it) (reason_is (Some why) m))

        pub did_by : (m k : Entries C) → Reason None → Changes m → StepsBare (kept progress m) (kept progress k) ClosesTo
            → StepsBare (kept progress g) (kept progress k) (λ w v. OnPort Omx w h port (Ok acted.Did) v (λ i c p. Acts {E = CallError} (R (look w) c p) (Ok acted.Did) w (After i c p w) v))
        did_by m k r s x = named Omx k (Ok acted.Did) (λ w v i c p. Acts {E = CallError} (R (look w) c p) (Ok acted.Did) w (After i c p w) v)
            (did_as CallError (kept progress g) (kept progress k) (λ l. R l F.component H.it) (After i F.component H.it) (reason_is None r) (changes m k s x))
