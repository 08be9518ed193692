-- The ports that an act of flow names are those of live components, which have names.
use Rattle.std.proofs.Common.{◌≡◌, ℕ, Bool, List, [], ◌∷◌, ◌++◌, Option, Some, None, MatchOption, option_map, option_and_then, slice_get, Result, Ok, Err, refl}
use Rattle.std.specs.Prelude.{not, ◌&&◌, ◌||◌, IsSome, IfOk}
use Rattle.omx_types.specs.declared.error.OmxError.{OmxError}
use Rattle.omx_types.specs.declared.error.CallError.{CallError}
use Rattle.omx_types.specs.declared.handle.Handle.{Handle}
use Rattle.il_machine.specs.declared.answer.Acted.{Acted}
use Rattle.il_machine.specs.declared.answer.Why.{Why}
use Rattle.il_machine.specs.declared.answer.Why.TheVariants as why
use Rattle.il_machine.specs.declared.port.Port.{Port}
use Rattle.il_machine.specs.States.{is_executing}
use Rattle.il_machine.specs.Lists.{first_of_these, is_empty}
use Rattle.il_machine.specs.World.{Component, World, number_of, place_numbered, place_of, port_of}
use Rattle.il_machine.specs.Look.{look}
use Rattle.il_machine.specs.Ports.{accepting, returning, leaving, is_supplier, id_of}
use Rattle.il_machine.specs.Buffers.{has_no_block, has_no_number, is_taking}
use Rattle.il_machine.specs.Commands.{RunCommand}
use Rattle.il_machine.specs.Flow.{End, end_at, end_in, end_of, other_end, at_end, supply_idle, Supply, in_port, release_idle, Release, is_giving, over_idle, HandOver, back_idle, HandBack}
use Rattle.il_machine.specs.Sound.{Sound}
use Rattle.machine_laws.proofs.Finding.{either}
use Rattle.machine_laws.proofs.Keys.{there_is}
use Rattle.machine_laws.proofs.Lookups.{rises_at}
use Rattle.trace_run.specs.declared.names.NamedComponent.{NamedComponent}
use Rattle.trace_run.specs.Naming.{component_name, port_name}
use Rattle.trace_run.specs.Replying.{named_why}
use Rattle.trace_run.specs.Standing.{AreNamed, IsNamedAnswer}
use Rattle.trace_run.proofs.Naming.{IsNamedWhy, acts_named, run_named}

-- ---- the other end is a component of the list

with_port : (i : ℕ) (c : Component) (o : Option Port) (e : End) → option_map (λ q. record { place = i; component = c; port = q }) o ≡ Some e → (i ≡ e.place) × (c ≡ e.component)
with_port i c None e h = absurd cc
with_port i c (Some q) e h = let x : record { place = i; component = c; port = q } ≡ e = cc in ((λ j. (x j).place), (λ j. (x j).component))

component_at : (index i : ℕ) (o : Option Component) (e : End) → option_and_then (end_at index i) o ≡ Some e → (i ≡ e.place) × (o ≡ Some e.component)
component_at index i None e h = absurd cc
component_at index i (Some c) e h = let x = with_port i c (port_of c index) e h in (x.0, (λ j. Some (x.1 j)))

place_in : (cs : List Component) (index : ℕ) (o : Option ℕ) (e : End) → option_and_then (end_in cs index) o ≡ Some e → slice_get cs e.place ≡ Some e.component
place_in cs index None e h = absurd cc
place_in cs index (Some i) e h = let x = component_at index i (slice_get cs i) e h in rw (← x.0) x.1

other_in : (cs : List Component) (p : Port) (e : End) → other_end cs p ≡ Some e → slice_get cs e.place ≡ Some e.component
other_in cs p e h = elim (p.state.link) as (λ o. option_and_then (λ link. end_of cs link.peer) o ≡ Some e → slice_get cs e.place ≡ Some e.component) [
  | None ↦ λ f. absurd cc
  | Some link ↦ λ f. place_in cs (link.peer).port (place_numbered (link.peer).component cs) e f
] h

-- ---- what a call on a port was answered

on_this_port : {T E : Type 0} (error : E) (w v : World) (x : T) (Then : Port → Type 0) (o : Option Port) → MatchOption o ((Ok x ≡ Err error) × (v ≡ w)) Then → (p : Port) × Then p
on_this_port error w v x Then None a = let e = a.0 in absurd cc
on_this_port error w v x Then (Some p) a = (p, a)

record OnThis (w : World) (Then : ℕ → Component → Port → Type 0) : Type 0 where
  place : ℕ
  component : Component
  port : Port
  there : slice_get w.components place ≡ Some component
  then : Then place component port

at_place : {T E : Type 0} (w : World) (port : ℕ) (x : T) (v : World) (Then : ℕ → Component → Port → Type 0) (error bad : E) (o : Option ℕ)
    → MatchOption o ((Ok x ≡ Err error) × (v ≡ w)) (λ i. MatchOption (slice_get w.components i) ⊥ (λ c. MatchOption (port_of c port) ((Ok x ≡ Err bad) × (v ≡ w)) (λ p. Then i c p)))
    → OnThis w Then
at_place w port x v Then error bad None a = let e = a.0 in absurd cc
at_place w port x v Then error bad (Some i) a =
    let k = there_is (slice_get w.components i) _ a in
    let c = k.0 in
    let q = on_this_port bad w v x (λ p. Then i c p) (port_of c port) k.2 in
    record { place = i; component = c; port = q.0; there = k.1; then = q.1 }

-- ---- the reasons

module _ (components : List NamedComponent) where
  pub map_some : {A B : Type 0} (f : A → B) (o : Option A) → IsSome o → IsSome (option_map f o)
  map_some f None h = absurd cc
  map_some f (Some x) h = refl

  -- the reason of each test has a name
  abbrev pub AreNamedTests : List (Bool × Why) → Type 0
  AreNamedTests [] = Unit {0}
  AreNamedTests (x ∷ xs) = IsSome (named_why components x.1) × AreNamedTests xs

  both_named : (xs ys : List (Bool × Why)) → AreNamedTests xs → AreNamedTests ys → AreNamedTests (xs ++ ys)
  both_named [] ys N M = M
  both_named (x ∷ xs) ys N M = (N.0, both_named xs ys N.1 M)

  end_named : (o : Option End) (tests : End → List (Bool × Why)) → ((e : End) → o ≡ Some e → AreNamedTests (tests e)) → AreNamedTests (at_end o tests)
  end_named None tests N = tt
  end_named (Some e) tests N = N e refl

  pub first_named : (xs : List (Bool × Why)) → AreNamedTests xs → IsNamedWhy components (first_of_these xs)
  first_named [] N = tt
  first_named (x ∷ xs) N = either (x.0) (λ t. rw t (N.0)) (λ f. rw f (first_named xs (N.1)))

  module _ (w : World) (S : Sound w) (N : AreNamed components w.numbered) where
    port_named : (i : ℕ) (c : Component) (q : Port) → slice_get w.components i ≡ Some c → IsSome (port_name components (id_of c q))
    port_named i c q at = let r = rises_at 0 w.numbered i w.components c S.rising at in map_some _ (component_name components (number_of c)) (N (number_of c) (r.1))

    not_accepting : (i : ℕ) (c : Component) (q : Port) → slice_get w.components i ≡ Some c → IsSome (named_why components (why.NotAccepting (id_of c q)))
    not_accepting i c q at = map_some _ (port_name components (id_of c q)) (port_named i c q at)

    not_running : (i : ℕ) (c : Component) (q : Port) → slice_get w.components i ≡ Some c → IsSome (named_why components (why.NotRunning (id_of c q)))
    not_running i c q at = map_some _ (port_name components (id_of c q)) (port_named i c q at)

    supply_reason : (i : ℕ) (c : Component) (p : Port) → slice_get w.components i ≡ Some c → IsNamedWhy components (supply_idle (look w) c p)
    supply_reason i c p at =
        let headers = (look w).headers in
        let far : End → List (Bool × Why) = λ e. (not (accepting headers e.component e.port), why.NotAccepting (id_of e.component e.port)) ∷ [] in
        let last : List (Bool × Why) = (has_no_block headers, why.NoBlock) ∷ (has_no_number (look w), why.NoNumber) ∷ [] in
        let end = other_end w.components p in
        first_named ((not (is_supplier p), why.NotSupplier) ∷ (not (accepting headers c p), why.NotAccepting (id_of c p)) ∷ at_end end far ++ last)
        (refl, (not_accepting i c p at, both_named (at_end end far) last (end_named end far (λ e f. (not_accepting e.place e.component e.port (other_in w.components p e f), tt))) (refl, (refl, tt))))

    release_reason : (c : Component) (p : Port) → IsNamedWhy components (release_idle (look w) c p)
    release_reason c p = first_named ((not (is_supplier p), why.NotSupplier) ∷ (not (leaving c p), why.NotLeaving) ∷ (is_empty (in_port (look w).headers p), why.NoHeader) ∷ []) (refl, (refl, (refl, tt)))

    over_reason : (i : ℕ) (c : Component) (p : Port) → slice_get w.components i ≡ Some c → IsNamedWhy components (over_idle (look w) c p)
    over_reason i c p at =
        let far : End → List (Bool × Why) = λ e. (not (is_taking e.component e.port), why.NotRunning (id_of e.component e.port)) ∷ [] in
        let last : List (Bool × Why) = (is_empty ((look w).headers.done p.key), why.NoHeader) ∷ [] in
        let end = other_end w.components p in
        first_named ((not (is_supplier p), why.NotSupplier) ∷ (not (is_giving c p), why.NotRunning (id_of c p)) ∷ at_end end far ++ last)
        (refl, (not_running i c p at, both_named (at_end end far) last (end_named end far (λ e f. (not_running e.place e.component e.port (other_in w.components p e f), tt))) (refl, tt)))

    back_reason : (i : ℕ) (c : Component) (p : Port) → slice_get w.components i ≡ Some c → IsNamedWhy components (back_idle (look w) c p)
    back_reason i c p at =
        let headers = (look w).headers in
        first_named ((is_supplier p, why.IsSupplier) ∷ (not (returning c p) && not (is_executing c.state), why.NotRunning (id_of c p))
        ∷ (is_empty (headers.done p.key) && (not (returning c p) || is_empty (headers.todo p.key)), why.NoHeader) ∷ [])
        (refl, (not_running i c p at, (refl, tt)))

    pub supply_named : (h : Handle) (port : ℕ) (x : Acted) (v : World) → Supply w h port (Ok x) v → IsNamedAnswer components x
    supply_named h port x v a =
        let k = at_place w port x v _ _ _ (place_of h w.components) a in
        acts_named components CallError (supply_idle (look w) k.component k.port) x w _ v (supply_reason k.place k.component k.port k.there) k.then

    release_named : (h : Handle) (port : ℕ) (x : Acted) (v : World) → Release w h port (Ok x) v → IsNamedAnswer components x
    release_named h port x v a =
        let k = at_place w port x v _ _ _ (place_of h w.components) a in
        acts_named components OmxError (release_idle (look w) k.component k.port) x w _ v (release_reason k.component k.port) k.then

    over_named : (h : Handle) (port : ℕ) (x : Acted) (v : World) → HandOver w h port (Ok x) v → IsNamedAnswer components x
    over_named h port x v a =
        let k = at_place w port x v _ _ _ (place_of h w.components) a in
        acts_named components OmxError (over_idle (look w) k.component k.port) x w _ v (over_reason k.place k.component k.port k.there) k.then

    back_named : (h : Handle) (port : ℕ) (x : Acted) (v : World) → HandBack w h port (Ok x) v → IsNamedAnswer components x
    back_named h port x v a =
        let k = at_place w port x v _ _ _ (place_of h w.components) a in
        acts_named components OmxError (back_idle (look w) k.component k.port) x w _ v (back_reason k.place k.component k.port k.there) k.then

    -- ---- of any result

    pub run_answer : (h : Handle) (result : Result Acted OmxError) (v : World) → RunCommand w h result v → IfOk result (IsNamedAnswer components)
    run_answer h (Ok x) v a = run_named components w h x v a
    run_answer h (Err error) v a = tt

    pub release_answer : (h : Handle) (port : ℕ) (result : Result Acted OmxError) (v : World) → Release w h port result v → IfOk result (IsNamedAnswer components)
    release_answer h port (Ok x) v a = release_named h port x v a
    release_answer h port (Err error) v a = tt

    pub over_answer : (h : Handle) (port : ℕ) (result : Result Acted OmxError) (v : World) → HandOver w h port result v → IfOk result (IsNamedAnswer components)
    over_answer h port (Ok x) v a = over_named h port x v a
    over_answer h port (Err error) v a = tt

    pub back_answer : (h : Handle) (port : ℕ) (result : Result Acted OmxError) (v : World) → HandBack w h port result v → IfOk result (IsNamedAnswer components)
    back_answer h port (Ok x) v a = back_named h port x v a
    back_answer h port (Err error) v a = tt
