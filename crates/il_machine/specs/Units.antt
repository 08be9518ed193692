-- Units: who holds them, who waits for them, and the two acts that give them to the first who waits.
use Rattle.std.specs.Prelude.{◌≡◌, ℕ, ◌+◌, ◌-◌, Bool, true, not, ◌&&◌, ◌||◌, nat_eq, nat_lt, nat_le, List, [], ◌∷◌, filter, sum_by, Option, Some, None, option_and_then, if◌then◌else◌}
use Rattle.omx_types.specs.declared.state.State.TheVariants as states
use Rattle.omx_types.specs.declared.kind.Kind.{Kind}
use Rattle.omx_types.specs.declared.kind.Kind.TheVariants.{Source, Decoder, Alaw, Mulaw, Gain, Mixer, Splitter, Sink, Late}
use Rattle.omx_types.specs.declared.command.Event.TheVariants.{Error, ResourcesAcquired}
use Rattle.omx_types.specs.declared.error.OmxError.TheVariants as errors
use Rattle.il_machine.specs.declared.answer.Cause.TheVariants as causes
use Rattle.il_machine.specs.declared.answer.Granted.{Granted}
use Rattle.il_machine.specs.declared.answer.Granted.TheVariants as granted
use Rattle.il_machine.specs.declared.answer.Preempted.{Preempted}
use Rattle.il_machine.specs.declared.answer.Preempted.TheVariants as preempted
use Rattle.il_machine.specs.declared.answer.Why.{Why}
use Rattle.il_machine.specs.declared.answer.Why.TheVariants as why
use Rattle.il_machine.specs.States.{same_state, is_running}
use Rattle.il_machine.specs.Lists.{best_of, first_of_these, holds_at}
use Rattle.il_machine.specs.World.{Component, World, changed_at, number_of, place_numbered, with_component, told}
use Rattle.il_machine.specs.Look.{Look, look}
use Rattle.il_machine.specs.Ports.{is_at_rest, is_going_to}
use Rattle.il_machine.specs.Room.{is_by_client, room}
use Rattle.il_machine.specs.Due.{lost, ClosesTo}

-- the units that a component of the kind needs
abbrev pub units_of : Kind → ℕ
units_of Source = 1
units_of Decoder = 2
units_of Alaw = 2
units_of Mulaw = 2
units_of Gain = 1
units_of (Mixer inputs) = 3
units_of (Splitter outputs) = 1
units_of Sink = 1
units_of Late = 1

abbrev pub need_of : Component → ℕ
need_of c = units_of c.settings.kind

abbrev pub is_holder : Component → Bool
is_holder c = c.holds

abbrev pub units_held : List Component → ℕ
units_held components = sum_by need_of (filter is_holder components)

abbrev pub free_units : Look → ℕ
free_units l = l.units - units_held l.components

-- a holder that has the loss mark, or whose transition is pending by loss or to Loaded: its units are on their way back
abbrev pub is_giving_back : Component → Bool
is_giving_back c = c.holds && (c.loss_mark || holds_at c.pending (λ p. not (is_by_client p.cause)) || is_going_to states.Loaded c)

-- the free units, and those on their way back
abbrev pub coming_units : Look → ℕ
coming_units l = free_units l + sum_by need_of (filter is_giving_back l.components)

-- ---- who waits

abbrev pub is_waiter : Component → Bool
is_waiter c = same_state c.state states.WaitForResources && is_at_rest c

abbrev pub number_or_0 : Option ℕ → ℕ
number_or_0 None = 0
number_or_0 (Some n) = n

-- a lesser priority number goes first, then a lesser waiting number
abbrev pub is_before : Component → Component → Bool
is_before c d =
    nat_lt c.settings.priority d.settings.priority
    || (nat_eq c.settings.priority d.settings.priority && nat_lt (number_or_0 c.waiting) (number_or_0 d.waiting))

-- the first of those that wait
abbrev pub first_waiter : List Component → Option Component
first_waiter components = best_of is_waiter is_before components

-- ---- who gives up its units

-- it holds units that aren't on their way back, and its priority number is above the waiter's
abbrev pub is_weaker : Component → Component → Bool
is_weaker waiter c = c.holds && not (is_giving_back c) && nat_lt waiter.settings.priority c.settings.priority

-- the priority number of the later component isn't less than that of the earlier one
abbrev pub gives_first : Component → Component → Bool
gives_first later earlier = nat_le earlier.settings.priority later.settings.priority

-- of those that are weaker than the waiter the one with the greatest priority number, the last of these
abbrev pub weakest : Component → List Component → Option Component
weakest waiter components = best_of (is_weaker waiter) gives_first components

abbrev pub victim : List Component → Option Component
victim components = option_and_then (λ waiter. weakest waiter components) (first_waiter components)

-- ---- grant

-- the tests that look at the component; where there is none, the other answer
abbrev pub at_one : {E : Type 0} → Option Component → E → (Component → List (Bool × E)) → List (Bool × E)
at_one None otherwise tests = (true, otherwise) ∷ []
at_one (Some c) otherwise tests = tests c

-- two places are wanted: for an event, and for a transition that is then pending or for a second event
abbrev pub lacks_event_room : Component → Bool × Why
lacks_event_room c = (nat_lt (room c) 2, why.Events (room c) 2)

abbrev pub grant_idle : Look → Option Why
grant_idle l = first_of_these (at_one (first_waiter l.components) why.NoWaiter (λ c.
    (nat_lt (free_units l) (need_of c), why.Short (free_units l) (need_of c))
    ∷ lacks_event_room c
    ∷ []))

-- It waits no more, holds its units, is told so, and is on its way to Idle.
abbrev pub granted_units : Component → Component
granted_units c = told ResourcesAcquired (record c {
  waiting = None;
  holds = true;
  pending = Some (record { target = states.Idle; cause = causes.Client });
})

-- the component is changed in its place
abbrev pub with_changed : (Component → Component) → Component → World → World
with_changed change c w = changed_at (place_numbered (number_of c) w.components) w (λ i. with_component i (change c) w)

-- An answer Idle says why, and leaves the world as it was. Else the first that waits gets its units, and the close-out follows.
abbrev pub Grants : Option Why → Option Component → World → Granted → World → Type 0
Grants (Some reason) waiter w answer v = (answer ≡ granted.Idle reason) × (v ≡ w)
Grants None None w answer v = ⊥
Grants None (Some c) w answer v = (answer ≡ granted.Granted c.handle) × ClosesTo (with_changed granted_units c w) v

abbrev pub Grant : World → Granted → World → Type 0
Grant w answer v = Grants (grant_idle (look w)) (first_waiter w.components) w answer v

-- ---- preempt

abbrev pub preempt_idle : Look → Option Why
preempt_idle l = first_of_these (at_one (first_waiter l.components) why.NoWaiter (λ c.
    (nat_le (need_of c) (coming_units l), why.Enough (coming_units l) (need_of c))
    ∷ at_one (weakest c l.components) why.NoVictim (λ d. lacks_event_room d ∷ [])))

-- Executing or Pause on its way to Idle it gets the loss mark; else in these states it is told so, and is on its way there. Any other loses
-- its units at once: that is told, and it is on its way to Loaded.
abbrev pub preempted_units : Component → Component
preempted_units c =
    if not (is_running c.state) then lost c
    else if is_going_to states.Idle c then record c { loss_mark = true }
    else told (Error errors.ResourcesPreempted) (record c { pending = Some (record { target = states.Idle; cause = causes.Loss }) })

abbrev pub Preempts : Option Why → Option Component → World → Preempted → World → Type 0
Preempts (Some reason) weak w answer v = (answer ≡ preempted.Idle reason) × (v ≡ w)
Preempts None None w answer v = ⊥
Preempts None (Some c) w answer v = (answer ≡ preempted.Victim c.handle) × ClosesTo (with_changed preempted_units c w) v

abbrev pub Preempt : World → Preempted → World → Type 0
Preempt w answer v = Preempts (preempt_idle (look w)) (victim w.components) w answer v
