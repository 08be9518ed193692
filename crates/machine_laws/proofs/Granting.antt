-- Units that are granted or taken keep a world sound.
use Rattle.std.proofs.Common.{◌≡◌, ◌⊎◌, inl, inr, ℕ, zero, suc, ◌≤◌, Bool, true, false, not, ◌&&◌, ◌||◌, nat_lt, nat_le, List, [], ◌∷◌, slice_get, Option, Some, None, is_none, option_and_then, refl, sym, ◌∙◌, ap, eq-eqb, ne_eqb, ltb-false, arith}
use Rattle.omx_types.specs.declared.state.State.{State}
use Rattle.omx_types.specs.declared.state.State.TheVariants as states
use Rattle.omx_types.specs.declared.command.Event.TheVariants.{Error, ResourcesAcquired}
use Rattle.omx_types.specs.declared.error.OmxError.TheVariants as errors
use Rattle.il_machine.specs.declared.answer.Cause.TheVariants as causes
use Rattle.il_machine.specs.declared.answer.Granted.{Granted}
use Rattle.il_machine.specs.declared.answer.Preempted.{Preempted}
use Rattle.il_machine.specs.declared.answer.Pending.{Pending}
use Rattle.il_machine.specs.declared.answer.Why.{Why}
use Rattle.il_machine.specs.States.{same_state, is_lawful, is_invalid, is_running, is_up}
use Rattle.il_machine.specs.Lists.{better, best_of, holds_at}
use Rattle.il_machine.specs.Places.{first_place}
use Rattle.il_machine.specs.Settings.{fits}
use Rattle.il_machine.specs.World.{Component, Work, World, number_of, is_numbered, place_numbered, with_component, told}
use Rattle.il_machine.specs.Look.{look}
use Rattle.il_machine.specs.Ports.{is_at_rest, is_going_to}
use Rattle.il_machine.specs.Room.{is_by_client, room}
use Rattle.il_machine.specs.Due.{lost}
use Rattle.il_machine.specs.Units.{need_of, free_units, coming_units, is_giving_back, is_waiter, is_before, is_weaker, gives_first, first_waiter, weakest, victim, granted_units, with_changed, Grants, Grant, grant_idle, preempted_units, Preempts, Preempt, preempt_idle}
use Rattle.il_machine.specs.Sound.{Sound, IsSound, IsUnitSound, AreRising, is_fit, may_work}
use Rattle.il_machine.proofs.Places.{is_first_place}
use Rattle.machine_laws.proofs.Finding.{either}
use Rattle.machine_laws.proofs.Lookups.{rises_at}
use Rattle.machine_laws.proofs.Accepting.{passed, not_either, is_not, both_of}
use Rattle.machine_laws.specs.Changes.{IsChange}
use Rattle.machine_laws.proofs.Change.{change_twice, sound_component, sound_taking_units, out_there}
use Rattle.machine_laws.proofs.Parts.{parts_of}
use Rattle.machine_laws.proofs.Units.{IsFair, held_fewer, fair_aside, resources_of}
use Rattle.machine_laws.proofs.Rooms.{costs, asked, loss, costs_same, used_told, lawful_of, sound_with, lawful_told, change_told, aside_told}
use Rattle.machine_laws.proofs.Fitting.{is_loaded_or_invalid, fit_with, fit_above, fit_pending}
use Rattle.machine_laws.proofs.Arriving.{losing, lawful_lost, change_lost}
use Rattle.machine_laws.proofs.Fairness.{way_by, fair_then_aside}
use Rattle.machine_laws.proofs.Happening.{sound_closes}
use Rattle.machine_laws.proofs.Forms.{stays_sound}

-- ---- a component by its number

placed_from : (from next i : ℕ) (cs : List Component) (c : Component) → AreRising from cs next → slice_get cs i ≡ Some c → first_place (is_numbered (number_of c)) cs ≡ Some i
placed_from from next i [] c R e = absurd cc
placed_from from next zero (x ∷ cs) c R e =
    let s : x ≡ c = cc in
    let t : is_numbered (number_of c) x ≡ true = eq-eqb (number_of x) (number_of c) (ap number_of s) in
    rw t refl
placed_from from next (suc i) (x ∷ cs) c R e =
    let r = rises_at (suc (number_of x)) next i cs c R.1 e in
    let f : is_numbered (number_of c) x ≡ false = ne_eqb (number_of x) (number_of c) (λ k. omega (arith, r.0, k)) in
    rw (f, placed_from (suc (number_of x)) next i cs c R.1 e) refl

pub placed_there : (next i : ℕ) (cs : List Component) (c : Component) → AreRising 0 cs next → slice_get cs i ≡ Some c → place_numbered (number_of c) cs ≡ Some i
placed_there next i cs c R e = is_first_place (is_numbered (number_of c)) cs ∙ placed_from 0 next i cs c R e

pub changed_there : (change : Component → Component) (w : World) (i : ℕ) (c : Component) → AreRising 0 w.components w.numbered → slice_get w.components i ≡ Some c
    → with_changed change c w ≡ with_component i (change c) w
changed_there change w i c R e = rw (placed_there w.numbered i w.components c R e) refl

-- ---- the best of a list is one of it

pub record IsAmong (test : Component → Bool) (cs : List Component) (c : Component) : Type 0 where
  pub place : ℕ
  pub there : slice_get cs place ≡ Some c
  pub passes : test c ≡ true

further : (test : Component → Bool) (cs : List Component) (x c : Component) → IsAmong test cs c → IsAmong test (x ∷ cs) c
further test cs x c A = record { place = suc A.place; there = A.there; passes = A.passes }

better_is : (before : Component → Component → Bool) (x : Component) (o : Option Component) → (better before x o ≡ x) ⊎ (o ≡ Some (better before x o))
better_is before x None = inl refl
better_is before x (Some y) = either (before y x) (λ t. inr (rw t refl)) (λ f. inl (rw f refl))

pub best_among : (test : Component → Bool) (before : Component → Component → Bool) (cs : List Component) (c : Component) → best_of test before cs ≡ Some c → IsAmong test cs c
best_among test before [] c e = absurd cc
best_among test before (x ∷ cs) c e = either (test x)
    (λ t.
    let a : Some (better before x (best_of test before cs)) ≡ Some c = rw t at e in
    let b : better before x (best_of test before cs) ≡ c = cc in
    elim (better_is before x (best_of test before cs)) [
      | inl s ↦ let z : x ≡ c = sym s ∙ b in record { place = 0; there = ap (λ (y : Component). Some y) z; passes = rw (← z) t }
      | inr s ↦ further test cs x c (best_among test before cs c (s ∙ ap (λ (y : Component). Some y) b))
    ])
    (λ f. further test cs x c (best_among test before cs c (rw f at e)))

-- the victim is the weakest against the first waiter
pub victim_from : (waiter : Option Component) (cs : List Component) (v : Component) → option_and_then (λ d. weakest d cs) waiter ≡ Some v → (d : Component) × (waiter ≡ Some d) × (weakest d cs ≡ Some v)
victim_from None cs v e = absurd cc
victim_from (Some d) cs v e = (d, refl, e)

-- ---- the first waiter gets its units

no_pending : (c : Component) → is_at_rest c ≡ true → c.pending ≡ None
no_pending c h = of c.pending h
  where
    of : (o : Option Pending) → is_none o ≡ true → o ≡ None
    of None h = refl
    of (Some p) h = absurd cc

pub waits_there : (s : State) → same_state s states.WaitForResources ≡ true → s ≡ states.WaitForResources
waits_there states.Invalid h = absurd cc
waits_there states.Loaded h = absurd cc
waits_there states.Idle h = absurd cc
waits_there states.Executing h = absurd cc
waits_there states.Pause h = absurd cc
waits_there states.WaitForResources h = refl

never : (b : Bool) → (b && false) ≡ true → ⊥
never true h = cc
never false h = cc

abbrev pub on_its_way : Component → Component
on_its_way c = record c { waiting = None; holds = true; pending = Some (record { target = states.Idle; cause = causes.Client }) }

pub sound_granted : (c : Component) → IsSound c → is_waiter c ≡ true → nat_lt (room c) 2 ≡ false → IsSound (granted_units c)
sound_granted c S h r =
    let b = both_of (same_state c.state states.WaitForResources) (is_at_rest c) h in
    let s = waits_there c.state b.0 in
    let e = no_pending c b.1 in
    let l : 2 ≤ room c = ltb-false (room c) 2 r in
    let d = on_its_way c in
    let m : c.loss_mark ≡ false = either c.loss_mark (λ t. let x : false ≡ true = rw s at (S.mark t) in absurd cc) (λ f. f) in
    let a : asked c ≡ 0 = rw e refl in
    let z : loss d ≡ 0 = rw m refl in
    let k : costs d ≡ costs c = costs_same c d c.commands refl in
    let t = used_told ResourcesAcquired d in
    sound_with (granted_units c) (lawful_told ResourcesAcquired d (record {
      whole = S.whole;
      ports = S.ports;
      settings = S.settings;
      fit = fit_with d (fit_above c S.fit (rw s refl));
      file = S.file;
      cause = λ q f. let p : Pending = record { target = states.Idle; cause = causes.Client } in let y : p ≡ q = cc in rw (← y) refl;
      mark = λ y. absurd cc;
      commands = S.commands;
    })) (omega arith)

pub change_granted : (c : Component) → IsChange c (granted_units c)
change_granted c = change_twice c (on_its_way c) (granted_units c) (record { handle = refl; ports = refl; links = refl; notes = refl }) (change_told ResourcesAcquired (on_its_way c))

pub fair_granted : (spare waits : ℕ) (c : Component) → IsUnitSound waits c → is_waiter c ≡ true → need_of c ≤ spare → ((work : Work) → c.work ≡ Some work → may_work c ≡ true) → IsFair spare waits waits c (granted_units c)
fair_granted spare waits c U h n m =
    let s = waits_there c.state (both_of (same_state c.state states.WaitForResources) (is_at_rest c) h).0 in
    fair_then_aside spare waits waits c (on_its_way c) (granted_units c) (record {
      keeps = record { kind = refl; weights = refl; count = refl; work = refl };
      stays = m;
      taken = omega arith;
      waiting = λ k w. absurd cc;
      units = record {
        holds = λ t. refl;
        gives = λ t. rw s refl;
        waiting = λ t. absurd (never (same_state c.state states.WaitForResources) t);
        numbered = λ k w. absurd cc;
        way = λ q w. let p : Pending = record { target = states.Idle; cause = causes.Client } in let y : p ≡ q = cc in rw (← y, s) refl;
        held = U.held;
        inputs = U.inputs;
      };
    }) (aside_told ResourcesAcquired (on_its_way c))

-- ---- the victim loses its units

-- what a component is that may be the victim
pub record IsVictim (c : Component) : Type 0 where
  pub holds : c.holds ≡ true
  pub unmarked : c.loss_mark ≡ false
  pub stays : is_going_to states.Loaded c ≡ false

pub victim_is : (waiter c : Component) → is_weaker waiter c ≡ true → IsVictim c
victim_is waiter c h =
    let a = (both_of (c.holds && not (is_giving_back c)) (nat_lt waiter.settings.priority c.settings.priority) h).0 in
    let b = both_of c.holds (not (is_giving_back c)) a in
    let g = is_not (is_giving_back c) b.1 in
    let f : (c.loss_mark || holds_at c.pending (λ p. not (is_by_client p.cause)) || is_going_to states.Loaded c) ≡ false = rw b.0 at g in
    let x = not_either (c.loss_mark || holds_at c.pending (λ p. not (is_by_client p.cause))) (is_going_to states.Loaded c) f in
    record { holds = b.0; unmarked = (not_either c.loss_mark _ x.0).0; stays = x.1 }

invalid_stays : (t : State) (l r : Bool) → way_by states.Invalid t l r ≡ true → ⊥
invalid_stays t l r h = absurd cc

-- one that holds units, and isn't on its way to Loaded, isn't Invalid
not_invalid : (waits : ℕ) (c : Component) → IsUnitSound waits c → IsVictim c → is_invalid c.state ≡ false
not_invalid waits c U V = of c.state c.pending refl refl
  where
    of : (s : State) (o : Option Pending) → c.state ≡ s → c.pending ≡ o → is_invalid s ≡ false
    of states.Invalid None s e = let g = U.gives V.holds in let f = V.stays in let x : false ≡ true = rw (s, e) at g in absurd cc
    of states.Invalid (Some p) s e = let w = U.way p e in absurd (invalid_stays p.target (not (is_by_client p.cause)) (is_none c.waiting) (rw s at w))
    of states.Loaded o s e = refl
    of states.Idle o s e = refl
    of states.Executing o s e = refl
    of states.Pause o s e = refl
    of states.WaitForResources o s e = refl

way_down : (s : State) (r : Bool) → is_running s ≡ false → is_invalid s ≡ false → way_by s states.Loaded true r ≡ true
way_down states.Invalid r a b = absurd cc
way_down states.Loaded r a b = refl
way_down states.Idle r a b = refl
way_down states.Executing r a b = absurd cc
way_down states.Pause r a b = absurd cc
way_down states.WaitForResources r a b = refl

way_idle : (s : State) → is_running s ≡ true → is_lawful s states.Idle ≡ true
way_idle states.Invalid a = absurd cc
way_idle states.Loaded a = absurd cc
way_idle states.Idle a = absurd cc
way_idle states.Executing a = refl
way_idle states.Pause a = refl
way_idle states.WaitForResources a = absurd cc

or_true : (b : Bool) → (b || true) ≡ true
or_true true = refl
or_true false = refl

or_true_more : (b x : Bool) → ((b || true) || x) ≡ true
or_true_more true x = refl
or_true_more false x = refl

-- Idle is pending by loss
abbrev pub ending : Component → Component
ending c = record c { pending = Some (record { target = states.Idle; cause = causes.Loss }) }

abbrev pub marked : Component → Component
marked c = record c { loss_mark = true }

abbrev pub told_loss : Component → Component
told_loss c = told (Error errors.ResourcesPreempted) (ending c)

-- by what the victim is
pub preempted_by : (P : Component → Type 0) (c : Component) → (is_running c.state ≡ false → P (lost c)) → (is_running c.state ≡ true → is_going_to states.Idle c ≡ true → P (marked c))
    → (is_running c.state ≡ true → is_going_to states.Idle c ≡ false → P (told_loss c)) → P (preempted_units c)
preempted_by P c down going rests = either (is_running c.state)
    (λ t. either (is_going_to states.Idle c) (λ g. rw (t, g) (going t g)) (λ g. rw (t, g) (rests t g)))
    (λ f. rw f (down f))

running_above : (s : State) → is_running s ≡ true → is_loaded_or_invalid s ≡ false
running_above states.Invalid h = absurd cc
running_above states.Loaded h = absurd cc
running_above states.Idle h = refl
running_above states.Executing h = refl
running_above states.Pause h = refl
running_above states.WaitForResources h = refl

up_above : (s : State) → is_up s ≡ true → is_loaded_or_invalid s ≡ false
up_above states.Invalid h = absurd cc
up_above states.Loaded h = absurd cc
up_above states.Idle h = refl
up_above states.Executing h = refl
up_above states.Pause h = refl
up_above states.WaitForResources h = absurd cc

going_fits : (c : Component) (o : Option Pending) → is_fit c ≡ true → c.pending ≡ o → holds_at o (λ p. same_state p.target states.Idle) ≡ true → fits c.settings ≡ true
going_fits c None h e g = absurd cc
going_fits c (Some p) h e g = fit_pending c p h e

victim_fits : (waits : ℕ) (c : Component) → IsUnitSound waits c → IsVictim c → is_fit c ≡ true → fits c.settings ≡ true
victim_fits waits c U V h = either (is_up c.state)
    (λ t. fit_above c h (up_above c.state t))
    (λ f. going_fits c c.pending h refl (let g = U.gives V.holds in let n : (is_going_to states.Idle c || false) ≡ true = rw (f, V.stays) at g in left_true (is_going_to states.Idle c) n))
  where
    left_true : (b : Bool) → (b || false) ≡ true → b ≡ true
    left_true true n = refl
    left_true false n = absurd cc

pub sound_preempted : (waits : ℕ) (c : Component) → IsSound c → IsUnitSound waits c → IsVictim c → nat_lt (room c) 2 ≡ false → IsSound (preempted_units c)
sound_preempted waits c S U V r =
    let l : 2 ≤ room c = ltb-false (room c) 2 r in
    let L = lawful_of c S in
    preempted_by IsSound c
    (λ f.
    let k : costs (losing c) ≡ costs c = costs_same c (losing c) c.commands refl in
    let t = used_told (Error errors.ResourcesLost) (losing c) in
    sound_with (lost c) (lawful_lost c L (victim_fits waits c U V S.fit)) (omega arith))
    (λ t g.
    let k : costs (marked c) ≡ costs c = costs_same c (marked c) c.commands refl in
    let z : loss (marked c) ≡ 1 = rw g refl in
    sound_with (marked c) (record { whole = S.whole; ports = S.ports; settings = S.settings; fit = S.fit; file = S.file; cause = S.cause; mark = λ y. rw (t, g) refl; commands = S.commands }) (omega arith))
    (λ t g.
    let k : costs (ending c) ≡ costs c = costs_same c (ending c) c.commands refl in
    let z : loss (ending c) ≡ 1 = rw V.unmarked refl in
    let u = used_told (Error errors.ResourcesPreempted) (ending c) in
    sound_with (told_loss c) (lawful_told (Error errors.ResourcesPreempted) (ending c) (record {
      whole = S.whole;
      ports = S.ports;
      settings = S.settings;
      fit = fit_with (ending c) (fit_above c S.fit (running_above c.state t));
      file = S.file;
      cause = λ q f. let p : Pending = record { target = states.Idle; cause = causes.Loss } in let y : p ≡ q = cc in rw (← y, t) refl;
      mark = λ y. let x = V.unmarked in absurd cc;
      commands = S.commands;
    })) (omega arith))

pub change_preempted : (c : Component) → IsChange c (preempted_units c)
change_preempted c = preempted_by (IsChange c) c
    (λ f. change_lost c)
    (λ t g. record { handle = refl; ports = refl; links = refl; notes = refl })
    (λ t g. change_twice c (ending c) (told_loss c) (record { handle = refl; ports = refl; links = refl; notes = refl }) (change_told (Error errors.ResourcesPreempted) (ending c)))

pub fair_preempted : (waits : ℕ) (c : Component) → IsUnitSound waits c → IsVictim c → ((work : Work) → c.work ≡ Some work → may_work c ≡ true) → IsFair 0 waits waits c (preempted_units c)
fair_preempted waits c U V m = preempted_by (IsFair 0 waits waits c) c
    (λ f. fair_then_aside 0 waits waits c (losing c) (lost c) (record {
      keeps = record { kind = refl; weights = refl; count = refl; work = refl };
      stays = m;
      taken = held_fewer c (losing c) refl (λ h. h);
      waiting = λ k w. inl w;
      units = record {
        holds = λ h. V.holds;
        gives = λ h. or_true (is_up c.state || false);
        waiting = λ h. absurd (never (same_state c.state states.WaitForResources) h);
        numbered = U.numbered;
        way = λ q w. let p : Pending = record { target = states.Loaded; cause = causes.Loss } in let y : p ≡ q = cc in rw (← y) (way_down c.state (is_none c.waiting) f (not_invalid waits c U V));
        held = U.held;
        inputs = U.inputs;
      };
    }) (aside_told (Error errors.ResourcesLost) (losing c)))
    (λ t g. fair_aside waits c (marked c) (record {
      keeps = record { kind = refl; weights = refl; count = refl; work = refl };
      state = refl;
      pending = refl;
      holds = refl;
      waiting = refl;
      part = refl;
      held = λ test h. h;
    }) U m)
    (λ t g. fair_then_aside 0 waits waits c (ending c) (told_loss c) (record {
      keeps = record { kind = refl; weights = refl; count = refl; work = refl };
      stays = m;
      taken = held_fewer c (ending c) refl (λ h. h);
      waiting = λ k w. inl w;
      units = record {
        holds = λ h. V.holds;
        gives = λ h. or_true_more (is_up c.state) false;
        waiting = λ h. absurd (never (same_state c.state states.WaitForResources) h);
        numbered = U.numbered;
        way = λ q w. let p : Pending = record { target = states.Idle; cause = causes.Loss } in let y : p ≡ q = cc in rw (← y, way_idle c.state t) refl;
        held = U.held;
        inputs = U.inputs;
      };
    }) (aside_told (Error errors.ResourcesPreempted) (ending c)))

-- ---- both acts

abbrev pub is_valid : Component → Bool
is_valid c = not (is_invalid c.state)

-- who gives its units is there, and isn't Invalid
pub victim_there : (w : World) (c : Component) → Sound w → victim w.components ≡ Some c → IsAmong is_valid w.components c
victim_there w c S e =
    let d = victim_from (first_waiter w.components) w.components c e in
    let A = best_among (is_weaker d.0) gives_first w.components c d.2 in
    record { place = A.place; there = A.there; passes = rw (not_invalid w.waits c ((resources_of w S).each A.place c A.there) (victim_is d.0 c A.passes)) refl }

pub granted_sound : (w : World) (c : Component) → Sound w → grant_idle (look w) ≡ None → first_waiter w.components ≡ Some c → Sound (with_changed granted_units c w)
granted_sound w c S h e =
    let A = best_among is_waiter is_before w.components c e in
    let i = A.place in
    let g = rw e at h in
    let a = passed (nat_lt (free_units (look w)) (need_of c)) _ _ g in
    let b = passed (nat_lt (room c) 2) _ _ a.1 in
    let n : need_of c ≤ free_units (look w) = ltb-false (free_units (look w)) (need_of c) a.0 in
    rw (changed_there granted_units w i c S.rising A.there)
    (sound_taking_units w i c (granted_units c) S A.there (change_granted c) (sound_granted c ((parts_of w S).components i c A.there) A.passes b.0)
    (fair_granted (free_units (look w)) w.waits c ((resources_of w S).each i c A.there) A.passes n (out_there w i c S A.there)))

grants_keep : (w v : World) (idle : Option Why) (waiter : Option Component) (answer : Granted) → grant_idle (look w) ≡ idle → first_waiter w.components ≡ waiter → Grants idle waiter w answer v → Sound w → Sound v
grants_keep w v (Some reason) waiter answer h e G S = stays_sound w v G.1 S
grants_keep w v None None answer h e G S = absurd G
grants_keep w v None (Some c) answer h e G S = sound_closes (with_changed granted_units c w) v G.1 (granted_sound w c S h e)

pub grant_keeps : (w v : World) (answer : Granted) → Grant w answer v → Sound w → Sound v
grant_keeps w v answer G S = grants_keep w v (grant_idle (look w)) (first_waiter w.components) answer refl refl G S

pub preempted_sound : (w : World) (c : Component) → Sound w → preempt_idle (look w) ≡ None → victim w.components ≡ Some c → Sound (with_changed preempted_units c w)
preempted_sound w c S h e =
    let d = victim_from (first_waiter w.components) w.components c e in
    let A = best_among (is_weaker d.0) gives_first w.components c d.2 in
    let i = A.place in
    let V = victim_is d.0 c A.passes in
    let g = rw (d.1, d.2) at h in
    let a = passed (nat_le (need_of d.0) (coming_units (look w))) _ _ g in
    let b = passed (nat_lt (room c) 2) _ _ a.1 in
    rw (changed_there preempted_units w i c S.rising A.there)
    (sound_component w i c (preempted_units c) S A.there (change_preempted c) (sound_preempted w.waits c ((parts_of w S).components i c A.there) ((resources_of w S).each i c A.there) V b.0)
    (fair_preempted w.waits c ((resources_of w S).each i c A.there) V (out_there w i c S A.there)))

preempts_keep : (w v : World) (idle : Option Why) (weak : Option Component) (answer : Preempted) → preempt_idle (look w) ≡ idle → victim w.components ≡ weak → Preempts idle weak w answer v → Sound w → Sound v
preempts_keep w v (Some reason) weak answer h e G S = stays_sound w v G.1 S
preempts_keep w v None None answer h e G S = absurd G
preempts_keep w v None (Some c) answer h e G S = sound_closes (with_changed preempted_units c w) v G.1 (preempted_sound w c S h e)

pub preempt_keeps : (w v : World) (answer : Preempted) → Preempt w answer v → Sound w → Sound v
preempt_keeps w v answer G S = preempts_keep w v (preempt_idle (look w)) (victim w.components) answer refl refl G S
