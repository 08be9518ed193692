-- How many components are on their way to wait for resources: none of a graph that is closed.
use Rattle.std.proofs.Common.{◌≡◌, ℕ, suc, ◌+◌, ◌≤◌, Bool, true, false, List, [], ◌∷◌, ◌++◌, set, remove, get_or, slice_get, Option, Some, None, refl, sym, ◌∙◌, ap, arith}
use Rattle.std.proofs.lemmas.Option.{slice_get_within, get_or_from_slice_get}
use Rattle.std.proofs.lemmas.List.Sums.{sum_by-cons, sum_by-set, sum_by-remove, sum_by_push}
use Rattle.omx_types.specs.declared.state.State.{State}
use Rattle.omx_types.specs.declared.state.State.TheVariants as states
use Rattle.il_machine.specs.declared.answer.Pending.{Pending}
use Rattle.il_machine.specs.States.{same_state}
use Rattle.il_machine.specs.Places.{first_place}
use Rattle.il_machine.proofs.Places.{is_first_place}
use Rattle.il_machine.specs.World.{Component}
use Rattle.il_machine.specs.Headers.{Seen, weight}
use Rattle.il_machine.specs.Lists.{holds_at}
use Rattle.il_machine.specs.Ports.{is_going_to}
use Rattle.il_machine.specs.Due.{is_transition_due, is_due_to, has_due, first_due}
use Rattle.il_component.specs.Entries.{Entry, component_of}
use Rattle.graph_core.specs.Entries.{Entries, components_of, look_of, waits_next, waiters}

module _ {C : Type 0} where
  pub waiters_set : (es : List (Entry C)) (i : ℕ) (e d : Entry C) (waits then : ℕ) → slice_get es i ≡ Some e → then + waits_next d ≤ waits + waits_next e → waits + waiters es ≤ 18446744073709551615 → then + waiters (set es i d) ≤ 18446744073709551615
  waiters_set es i e d waits then at le few =
      let b = slice_get_within es i e at in
      let s = sum_by-set waits_next es i d e b in
      let g : waits_next (get_or es i e) ≡ waits_next e = ap waits_next (get_or_from_slice_get es i e e at) in
      omega arith

  pub waiters_added : (es : List (Entry C)) (e : Entry C) (waits : ℕ) → (component_of e).pending ≡ None → waits + waiters es ≤ 18446744073709551615 → waits + waiters (es ++ e ∷ []) ≤ 18446744073709551615
  waiters_added es e waits n few =
      let s = sum_by_push waits_next es e in
      let z : waits_next e ≡ 0 = rw n refl in
      omega arith

  pub waiters_left : (es : List (Entry C)) (i waits : ℕ) (e : Entry C) → slice_get es i ≡ Some e → waits + waiters es ≤ 18446744073709551615 → waits + waiters (remove es i) ≤ 18446744073709551615
  waiters_left es i waits e at few =
      let b = slice_get_within es i e at in
      let s = sum_by-remove waits_next es i e b in
      omega arith

  -- what is pending tells it
  pub alike_next : (e d : Entry C) → d.pending ≡ e.pending → waits_next d ≡ waits_next e
  alike_next e d q = ap (λ (o : Option Pending). weight (holds_at o (λ p. same_state p.target states.WaitForResources))) q

  pub few_alike : (waits : ℕ) (e d : Entry C) → d.pending ≡ e.pending → waits + waits_next d ≤ waits + waits_next e
  few_alike waits e d q = let h = alike_next e d q in omega arith

going_due : (headers : Seen) (c : Component) (t : State) → same_state t states.WaitForResources ≡ true → is_due_to headers c t ≡ true
going_due headers c states.WaitForResources h = refl
going_due headers c states.Invalid h = absurd cc
going_due headers c states.Loaded h = absurd cc
going_due headers c states.Idle h = absurd cc
going_due headers c states.Executing h = absurd cc
going_due headers c states.Pause h = absurd cc

going_at : (headers : Seen) (c : Component) (o : Option Pending) → holds_at o (λ p. same_state p.target states.WaitForResources) ≡ true → holds_at o (λ p. is_due_to headers c p.target) ≡ true
going_at headers c None h = absurd cc
going_at headers c (Some p) h = going_due headers c p.target h

idle_next : (headers : Seen) (c : Component) → has_due headers c ≡ false → is_going_to states.WaitForResources c ≡ false
idle_next headers c d = elim (is_going_to states.WaitForResources c) as (λ b. is_going_to states.WaitForResources c ≡ b → b ≡ false) [
  | true ↦ λ e.
      let t : is_transition_due headers c ≡ true = going_at headers c c.pending e in
      let y : has_due headers c ≡ true = rw t refl in
      let z : true ≡ false = sym y ∙ d in
      absurd cc
  | false ↦ λ e. refl
] refl

none_first : {X : Type 0} (test : X → Bool) (x : X) (xs : List X) → first_place test (x ∷ xs) ≡ None → (test x ≡ false) × (first_place test xs ≡ None)
none_first test x xs e = elim (test x) as (λ b. test x ≡ b → (b ≡ false) × (first_place test xs ≡ None)) [
  | true ↦ λ t. let q : first_place test (x ∷ xs) ≡ Some 0 = rw t refl in absurd cc
  | false ↦ λ t. elim (first_place test xs) as (λ o. first_place test xs ≡ o → (false ≡ false) × (o ≡ None)) [
    | None ↦ λ o. (refl, refl)
    | Some n ↦ λ o. let q : first_place test (x ∷ xs) ≡ Some (suc n) = rw (t, o) refl in absurd cc
  ] refl
] refl

none_waits : {C : Type 0} (headers : Seen) (es : List (Entry C)) → first_place (has_due headers) (components_of es) ≡ None → waiters es ≡ 0
none_waits headers [] e = refl
none_waits headers (x ∷ es) e =
    let f = none_first (has_due headers) (component_of x) (components_of es) e in
    let z : waits_next x ≡ 0 = ap weight (idle_next headers (component_of x) f.0) in
    let i = none_waits headers es f.1 in
    let s = sum_by-cons waits_next x es in
    omega arith

pub none_waiting : {C : Type 0} (g : Entries C) → first_due (look_of g) ≡ None → waiters g.entries ≡ 0
none_waiting g e =
    let headers = (look_of g).headers in
    none_waits headers g.entries (sym (is_first_place (has_due headers) (components_of g.entries)) ∙ e)
