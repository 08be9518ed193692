-- Who was granted units, and who loses some, is a component that has a name.
use Rattle.std.proofs.Common.{◌≡◌, ℕ, Bool, List, [], ◌∷◌, Option, Some, None, slice_get, refl}
use Rattle.std.specs.Prelude.{IsSome}
use Rattle.il_machine.specs.declared.answer.Granted.{Granted}
use Rattle.il_machine.specs.declared.answer.Preempted.{Preempted}
use Rattle.il_machine.specs.declared.answer.Why.{Why}
use Rattle.il_machine.specs.declared.answer.Why.TheVariants as why
use Rattle.il_machine.specs.World.{Component, World, number_of}
use Rattle.il_machine.specs.Look.{Look, look}
use Rattle.il_machine.specs.Units.{is_waiter, is_before, first_waiter, weakest, victim, at_one, lacks_event_room, grant_idle, preempt_idle, Grants, Grant, Preempts, Preempt}
use Rattle.il_machine.specs.Sound.{Sound}
use Rattle.machine_laws.proofs.Granting.{best_among, victim_there}
use Rattle.machine_laws.proofs.Lookups.{rises_at}
use Rattle.trace_run.specs.declared.names.NamedComponent.{NamedComponent}
use Rattle.trace_run.specs.Naming.{component_name}
use Rattle.trace_run.specs.Replying.{named_why, idle_reply, granted_to, taken_from, granted_reply, preempted_reply}
use Rattle.trace_run.specs.Standing.{AreNamed}
use Rattle.trace_run.proofs.Flowing.{map_some, first_named, AreNamedTests}
use Rattle.trace_run.proofs.Naming.{IsNamedWhy}

module _ (components : List NamedComponent) where
  one_named : (o : Option Component) (otherwise : Why) (tests : Component → List (Bool × Why)) → IsSome (named_why components otherwise) → ((c : Component) → AreNamedTests components (tests c)) → AreNamedTests components (at_one o otherwise tests)
  one_named None otherwise tests N f = (N, tt)
  one_named (Some c) otherwise tests N f = f c

  grant_reason : (l : Look) → IsNamedWhy components (grant_idle l)
  grant_reason l = first_named components (at_one (first_waiter l.components) why.NoWaiter _) (one_named (first_waiter l.components) why.NoWaiter _ refl (λ c. (refl, (refl, tt))))

  preempt_reason : (l : Look) → IsNamedWhy components (preempt_idle l)
  preempt_reason l = first_named components (at_one (first_waiter l.components) why.NoWaiter _)
      (one_named (first_waiter l.components) why.NoWaiter _ refl (λ c. (refl, one_named (weakest c l.components) why.NoVictim (λ d. lacks_event_room d ∷ []) refl (λ d. (refl, tt)))))

  module _ (w v : World) (S : Sound w) (N : AreNamed components w.numbered) where
    there_named : (i : ℕ) (c : Component) → slice_get w.components i ≡ Some c → IsSome (component_name components (number_of c))
    there_named i c at = N (number_of c) ((rises_at 0 w.numbered i w.components c S.rising at).1)

    granted_named : (o : Option Why) (waiter : Option Component) (answer : Granted) → IsNamedWhy components o → first_waiter w.components ≡ waiter → Grants o waiter w answer v → IsSome (granted_reply components answer)
    granted_named (Some reason) waiter answer R e G = rw G.0 (map_some components idle_reply (named_why components reason) R)
    granted_named None None answer R e G = absurd G
    granted_named None (Some c) answer R e G =
        let A = best_among is_waiter is_before w.components c e in
        rw G.0 (map_some components granted_to (component_name components (number_of c)) (there_named A.place c A.there))

    pub grant_named : (answer : Granted) → Grant w answer v → IsSome (granted_reply components answer)
    grant_named answer G = granted_named (grant_idle (look w)) (first_waiter w.components) answer (grant_reason (look w)) refl G

    preempted_named : (o : Option Why) (weak : Option Component) (answer : Preempted) → IsNamedWhy components o → victim w.components ≡ weak → Preempts o weak w answer v → IsSome (preempted_reply components answer)
    preempted_named (Some reason) weak answer R e G = rw G.0 (map_some components idle_reply (named_why components reason) R)
    preempted_named None None answer R e G = absurd G
    preempted_named None (Some c) answer R e G =
        let A = victim_there w c S e in
        rw G.0 (map_some components taken_from (component_name components (number_of c)) (there_named A.place c A.there))

    pub preempt_named : (answer : Preempted) → Preempt w answer v → IsSome (preempted_reply components answer)
    preempt_named answer G = preempted_named (preempt_idle (look w)) (victim w.components) answer (preempt_reason (look w)) refl G
