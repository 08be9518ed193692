-- Why no units are granted or taken, and what is true of a graph once they are.
use Rattle.std.proofs.Common.{◌≡◌, ℕ, ◌+◌, ◌<◌, ◌≤◌, true, false, nat_lt, nat_le, [], ◌∷◌, slice_get, MatchOption, Option, option_and_then, Some, None, refl, sym, ◌∙◌, ap, subst, ltb-false, arith}
use Rattle.il_machine.specs.declared.answer.Progress.{Progress}
use Rattle.il_machine.specs.declared.answer.Why.{Why}
use Rattle.il_machine.specs.declared.answer.Why.TheVariants as why
use Rattle.omx_types.specs.declared.state.State.TheVariants.{WaitForResources}
use Rattle.il_machine.specs.Room.{room}
use Rattle.il_machine.specs.Headers.{weight}
use Rattle.il_machine.specs.Ports.{is_going_to}
use Rattle.il_machine.specs.Lists.{first_of_these}
use Rattle.il_machine.specs.World.{Component, with_component}
use Rattle.il_machine.specs.Look.{Look, look}
use Rattle.il_machine.specs.Units.{need_of, free_units, coming_units, is_waiter, is_before, is_weaker, gives_first, first_waiter, weakest, victim, lacks_event_room, grant_idle, preempt_idle, granted_units, preempted_units, with_changed}
use Rattle.stock_laws.specs.Bare.{StepsBare}
use Rattle.il_machine.specs.Sound.{AreRising, IsUnitSound}
use Rattle.machine_laws.proofs.Units.{resources_of}
use Rattle.std.proofs.lemmas.Bool.Decides.{nat_tests}
use Rattle.machine_laws.proofs.Accepting.{passed}
use Rattle.machine_laws.proofs.Granting.{IsVictim, best_among, changed_there, preempted_by, victim_from, victim_is}
use Rattle.stock_laws.specs.Parts.{KeepsPart}
use Rattle.stock_laws.proofs.Following.{as_change}
use Rattle.il_component.specs.Entries.{Entry, component_of, KeepsNotices}
use Rattle.graph_core.specs.Entries.{Entries, kept, changed_at}
use Rattle.graph_core.specs.Standing.{SoundWorld}
use Rattle.graph_core.proofs.Replacing.{steps_changed}
use Rattle.graph_core.proofs.Stepping.{at_world}

pub matched : {A : Type 0} (P : A → Type 0) (o : Option A) (x : A) → o ≡ Some x → MatchOption o ⊥ P → P x
matched P o x e m = rw e at m

less : (a b : ℕ) → a < b → nat_lt a b ≡ true
less a b h = grind (arith, nat_tests)

not_less : (a b : ℕ) → b ≤ a → nat_lt a b ≡ false
not_less a b h = grind (arith, nat_tests)

most : (a b : ℕ) → a ≤ b → nat_le a b ≡ true
most a b h = grind (arith, nat_tests)

not_most : (a b : ℕ) → b < a → nat_le a b ≡ false
not_most a b h = grind (arith, nat_tests)

module _ (l : Look) (c : Component) (waiter : first_waiter l.components ≡ Some c) (have need : ℕ) (n : need ≡ need_of c) where
  pub short_is : have ≡ free_units l → have < need → Some (why.Short have need) ≡ grant_idle l
  short_is f t = let u : nat_lt (free_units l) (need_of c) ≡ true = rw (← f, ← n) (less have need t) in rw (waiter, u, f, n) refl

  pub lacks_is : (o : Option Why) → have ≡ free_units l → need ≤ have → o ≡ first_of_these (lacks_event_room c ∷ []) → o ≡ grant_idle l
  lacks_is o f t p = let u : nat_lt (free_units l) (need_of c) ≡ false = rw (← f, ← n) (not_less have need t) in rw (waiter, u) p

  pub enough_is : have ≡ coming_units l → need ≤ have → Some (why.Enough have need) ≡ preempt_idle l
  enough_is f t = let u : nat_le (need_of c) (coming_units l) ≡ true = rw (← f, ← n) (most need have t) in rw (waiter, u, f, n) refl

  pub no_victim_is : have ≡ coming_units l → have < need → weakest c l.components ≡ None → Some why.NoVictim ≡ preempt_idle l
  no_victim_is f t w = let u : nat_le (need_of c) (coming_units l) ≡ false = rw (← f, ← n) (not_most need have t) in rw (waiter, u, w) refl

  pub victim_lacks_is : (d : Component) (o : Option Why) → have ≡ coming_units l → have < need → weakest c l.components ≡ Some d → o ≡ first_of_these (lacks_event_room d ∷ []) → o ≡ preempt_idle l
  victim_lacks_is d o f t w p = let u : nat_le (need_of c) (coming_units l) ≡ false = rw (← f, ← n) (not_most need have t) in rw (waiter, u, w) p

-- ---- what is true of the component that changes

pub record MayGain (l : Look) (c : Component) : Type 0 where
  pub waits : is_waiter c ≡ true
  pub need : need_of c ≤ free_units l
  pub room : nat_lt (room c) 2 ≡ false

pub may_gain : (l : Look) (c : Component) → grant_idle l ≡ None → first_waiter l.components ≡ Some c → MayGain l c
may_gain l c h e =
    let a = passed (nat_lt (free_units l) (need_of c)) _ _ (rw e at h) in
    let b = passed (nat_lt (room c) 2) _ _ a.1 in
    record { waits = (best_among is_waiter is_before l.components c e).passes; need = ltb-false (free_units l) (need_of c) a.0; room = b.0 }

pub record MayLose (c : Component) : Type 0 where
  pub victim : IsVictim c
  pub room : nat_lt (room c) 2 ≡ false

pub may_lose : (l : Look) (c : Component) → preempt_idle l ≡ None → victim l.components ≡ Some c → MayLose c
may_lose l c h e =
    let d = victim_from (first_waiter l.components) l.components c e in
    let a = passed (nat_le (need_of d.0) (coming_units l)) _ _ (rw (d.1, d.2) at h) in
    let b = passed (nat_lt (room c) 2) _ _ a.1 in
    record { victim = victim_is d.0 c (best_among (is_weaker d.0) gives_first l.components c d.2).passes; room = b.0 }

-- ---- where there is nobody, the call is idle

pub no_grant : (l : Look) → grant_idle l ≡ None → None ≡ first_waiter l.components → ⊥
no_grant l h e = let z = rw (sym e) at h in absurd cc

none_weakest : (l : Look) (o : Option Component) → first_waiter l.components ≡ o → preempt_idle l ≡ None → None ≡ option_and_then (λ c. weakest c l.components) o → ⊥
none_weakest l None w h e = let z = rw w at h in absurd cc
none_weakest l (Some c) w h e =
    let a = passed (nat_le (need_of c) (coming_units l)) _ _ (rw (w, sym e) at h) in
    let z = a.1 in
    absurd cc

pub no_preempt : (l : Look) → preempt_idle l ≡ None → None ≡ victim l.components → ⊥
no_preempt l h e = none_weakest l (first_waiter l.components) refl h e

pub part_granted : (c : Component) → KeepsPart c (granted_units c)
part_granted c = record { number = refl; kind = refl; file = refl; failed = refl; work = refl }

pub part_preempted : (c : Component) → KeepsPart c (preempted_units c)
part_preempted c = preempted_by (KeepsPart c) c
    (λ f. record { number = refl; kind = refl; file = refl; failed = refl; work = refl })
    (λ t g. record { number = refl; kind = refl; file = refl; failed = refl; work = refl })
    (λ t g. record { number = refl; kind = refl; file = refl; failed = refl; work = refl })

-- no number is taken
pub few_granted : (waits : ℕ) (c : Component) → waits + weight (is_going_to WaitForResources (granted_units c)) ≤ waits + weight (is_going_to WaitForResources c)
few_granted waits c = omega arith

pub few_preempted : (waits : ℕ) (c : Component) → waits + weight (is_going_to WaitForResources (preempted_units c)) ≤ waits + weight (is_going_to WaitForResources c)
few_preempted waits c = preempted_by (λ d. waits + weight (is_going_to WaitForResources d) ≤ waits + weight (is_going_to WaitForResources c)) c (λ f. omega arith) (λ t g. omega arith) (λ t g. omega arith)

-- the units of the component, in the sound world that the graph stands for
pub units_there : {C : Type 0} (progress : C → Progress) (g : Entries C) (i : ℕ) (e : Entry C) → (W : SoundWorld (kept progress g)) → slice_get g.entries i ≡ Some e → IsUnitSound W.world.waits (component_of e)
units_there progress g i e W at = (resources_of W.world W.sound).each i (component_of e) (at_world progress g i e W.world W.stands at)

-- ---- the clause

-- the component of the place changes so
pub units_changed : {C : Type 0} (progress : C → Progress) (g : Entries C) (i : ℕ) (e d : Entry C) (change : Component → Component) → SoundWorld (kept progress g) → slice_get g.entries i ≡ Some e → KeepsNotices e d
    → KeepsPart (component_of e) (component_of d) → component_of d ≡ change (component_of e)
    → StepsBare (kept progress g) (kept progress (changed_at i d g)) (λ w v. v ≡ with_changed change (component_of e) w)
units_changed progress g i e d change W at N K q =
    as_change (kept progress g) (kept progress (changed_at i d g)) (λ w v. v ≡ with_component i (component_of d) w) (λ w v. v ≡ with_changed change (component_of e) w)
    (steps_changed progress g i e d at N K)
    (λ w v S f.
    let same : look W.world ≡ look w = W.stands.looks ∙ sym S.looks in
    let rising : AreRising 0 w.components w.numbered = subst (λ (l : Look). AreRising 0 l.components l.numbered) same W.sound.rising in
    f ∙ (ap (λ (c : Component). with_component i c w) q ∙ sym (changed_there change w i (component_of e) rising (at_world progress g i e w S at))))
