-- Each work that is out stays as its holder took it, and its part hasn't failed.
use Rattle.std.proofs.Common.{◌≡◌, ℕ, true, false, Option, Some, None, option_and_then, is_some, Ok, refl, sym, ◌∙◌, ap, subst, eqb-true}
use Rattle.omx_types.specs.declared.handle.Handle.{Handle}
use Rattle.il_machine.specs.Acts.{Act, Reply}
use Rattle.il_machine.specs.Acts as acts
use Rattle.il_machine.specs.Answers.{plain}
use Rattle.il_machine.specs.Claims.{Claimed, ClaimedWork, Claims, WorkSeen, claim_idle, seen_work, work_of}
use Rattle.il_machine.specs.Headers.{seen}
use Rattle.il_machine.specs.Look.{look}
use Rattle.il_machine.specs.Run.{Meets, Step}
use Rattle.il_machine.specs.Sound.{Sound}
use Rattle.il_machine.specs.Stepping.{WorkDone}
use Rattle.il_machine.specs.World.{Component, Stream, Work, World, component_numbered, number_of}
use Rattle.machine_laws.proofs.Finding.{either}
use Rattle.history_laws.specs.Works.{IsHeldOut, has_work_out, returns_work, takes_work}
use Rattle.history_laws.proofs.Freed.{none_comes, none_left}
use Rattle.history_laws.proofs.GivenHeaders.{resolved}
use Rattle.history_laws.proofs.HeldOut.{claims_held, steps_held}
use Rattle.history_laws.proofs.WorkSteps.{IsBackOf, IsIdle, claim_is_idle, numbered_there}
use Rattle.play_history_laws.specs.Faults.{AreHeld}

-- whose work it is
its_number : (w : World) (h : Handle) (x : WorkSeen) (v : World) → Step w (acts.Claim h) (acts.Claimed (Ok (ClaimedWork x))) v → x.component ≡ h.generation
its_number w h x v s =
    let y = resolved plain w v h (ClaimedWork x) (λ i c. Claims (claim_idle (look w) c) i c w (Ok (ClaimedWork x)) v) s in
    by y.0 y.1 (claim_idle (look w) y.1) refl y.3 ∙ (y.2).number
  where
    by : (i : ℕ) (c : Component) (o : Option Claimed) → claim_idle (look w) c ≡ o → Claims o i c w (Ok (ClaimedWork x)) v → x.component ≡ number_of c
    by i c (Some idle) e t =
        let r = t.0 in
        let is : ClaimedWork x ≡ idle = cc in
        absurd (subst IsIdle (sym is) (claim_is_idle (look w) c idle e))
    by i c None e t =
        let r = t.0 in
        let is : x ≡ seen_work c (work_of (seen w.headers) c) w.headers = cc in
        ap (λ (z : WorkSeen). z.component) is

claimed_on : (w v : World) (a : Act) (r : Reply) (number : ℕ) → Sound w → takes_work number a r ≡ true → Step w a r v → (x : WorkSeen) × (s : Stream) × (x.component ≡ number) × IsHeldOut v x s
claimed_on w v (acts.Claim h) (acts.Claimed (Ok (ClaimedWork x))) number S t s =
    let K = claims_held w h x v S s in
    (x, K.0, its_number w h x v s ∙ eqb-true _ _ t, K.2)
claimed_on w v _ _ number S t s = absurd cc

returned_on : (w v : World) (a : Act) (r : Reply) (number : ℕ) → Sound w → Meets w a → Step w a r v → returns_work number a r ≡ true → has_work_out number v ≡ false
returned_on w v (acts.Finish done) acts.Finished number S m s t = subst (λ (n : ℕ). has_work_out n v ≡ false) (eqb-true _ _ t) (none_left w done v S m s)
returned_on w v _ _ number S m s t = absurd cc

pub held_on : (w v : World) (a : Act) (r : Reply) → Sound w → Meets w a → Step w a r v → AreHeld w → AreHeld v
held_on w v a r S m s H number out = either (takes_work number a r)
    (λ t. claimed_on w v a r number S t s)
    (λ t. either (has_work_out number w)
    (λ o.
    let K = H number o in
    either (returns_work (K.0).component a r)
    (λ b. let z : has_work_out number v ≡ false = subst (λ (n : ℕ). has_work_out n v ≡ false) K.2 (returned_on w v a r (K.0).component S m s b) in absurd cc)
    (λ b. (K.0, K.1, K.2, steps_held w a r v K.0 K.1 S m s b K.3)))
    (λ o. let z = none_comes w a r v number S m s t o in absurd cc))

-- the part of a work that comes back hasn't failed
pub whole_back : (w : World) (done : WorkDone) (i : ℕ) (c : Component) (work : Work) → IsBackOf w done i c work → AreHeld w → c.part.failed ≡ false
whole_back w done i c work B H =
    let there : component_numbered done.component w ≡ Some c = numbered_there w done i c work B in
    let o : has_work_out done.component w ≡ true = ap (λ (z : Option Component). is_some (option_and_then (λ (d : Component). d.work) z)) there ∙ ap (λ (z : Option Work). is_some z) B.out in
    let K = H done.component o in
    let k : component_numbered (K.0).component w ≡ Some c = ap (λ (n : ℕ). component_numbered n w) K.2 ∙ there in
    let s : Some (K.3).component ≡ Some c = sym (K.3).there ∙ k in
    let is : (K.3).component ≡ c = cc in
    ap (λ (z : Component). z.part.failed) (sym is) ∙ (K.3).failed
