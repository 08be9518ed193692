-- A component whose work isn't out has none out after an act, but for one that takes it out; and one whose work came back has none.
use Rattle.std.proofs.Common.{◌≡◌, inl, inr, ℕ, true, false, nat_eq, List, All, set, slice_get, Option, Some, None, is_some, Ok, refl, sym, ◌∙◌, ap, subst, eq-eqb}
use Rattle.std.specs.Prelude.{option_and_then}
use Rattle.omx_types.specs.declared.handle.Handle.{Handle}
use Rattle.il_machine.specs.declared.port.Port.{Port}
use Rattle.il_machine.specs.Parts.{file_format}
use Rattle.il_machine.specs.Settings.{same_format}
use Rattle.il_machine.specs.World.{Component, Stream, Work, World, component_numbered, number_of, port_of, stream_of, with_component}
use Rattle.il_machine.specs.Headers.{seen}
use Rattle.il_machine.specs.Due.{arrived}
use Rattle.il_machine.specs.Commands.{run_front}
use Rattle.il_machine.specs.Look.{look}
use Rattle.il_machine.specs.Answers.{plain}
use Rattle.il_machine.specs.Claims.{Claimed, ClaimedWork, Claims, WorkSeen, claim_idle, seen_work, work_of}
use Rattle.il_machine.specs.Stepping.{WorkDone}
use Rattle.il_machine.specs.Finishing.{announced, announced_at, stepped_back, with_landed, finished_by, finished}
use Rattle.il_machine.specs.Acts.{Act, Reply}
use Rattle.il_machine.specs.Acts as acts
use Rattle.il_machine.specs.Run.{Step, Meets}
use Rattle.il_machine.specs.Sound.{Sound}
use Rattle.machine_laws.proofs.Claiming.{claim_passes}
use Rattle.machine_laws.proofs.Every.{at_place, from_places, at_set}
use Rattle.machine_laws.proofs.Finding.{either}
use Rattle.machine_laws.proofs.Granting.{preempted_by}
use Rattle.machine_laws.proofs.Lookups.{same_place}
use Rattle.history_laws.specs.Works.{has_work_out, takes_work}
use Rattle.history_laws.proofs.Named.{named, is_named, named_number, named_there}
use Rattle.history_laws.proofs.StillOut.{still_arrived, still_run}
use Rattle.history_laws.proofs.Steps.{step_comes}
use Rattle.history_laws.proofs.Cores.{Core, core, IsLasting, Goes, closes_each, outcome_each}
use Rattle.history_laws.proofs.Calm.{arrived_keeps, front_keeps}
use Rattle.history_laws.proofs.GivenHeaders.{resolved}
use Rattle.history_laws.proofs.HeldOut.{placed_in}
use Rattle.history_laws.proofs.WorkSteps.{IsIdle, claim_is_idle, IsBackOf, back_of, landing_of, announces_is, stepped_is}

-- the component of the number has no work out
abbrev pub IsFree : ℕ → Core → Type 0
IsFree n k = k.handle.generation ≡ n → k.busy ≡ false

by_number : (c d : Component) (n : ℕ) → d.handle ≡ c.handle → d.work ≡ c.work → IsFree n (core c) → IsFree n (core d)
by_number c d n h o k g = ap (λ (x : Option Work). is_some x) o ∙ k (sym (ap (λ (x : Handle). x.generation) h) ∙ g)

free_lasts : (n : ℕ) → IsLasting (IsFree n)
free_lasts n = record {
  arrives = λ number p c e k. by_number c (arrived number p c) n (arrived_keeps number p.target p c refl).handle (still_arrived number p c).work k;
  runs = λ l commands c k. by_number c (run_front l commands c) n (front_keeps l commands c).handle (still_run l commands c).work k;
  drops = λ c k. k;
  ends = λ c k. k;
  grants = λ c h k. k;
  loses = λ c h k. preempted_by (λ d. IsFree n (core d)) c (λ f. k) (λ t g. k) (λ t g. k);
  returns = λ c k g. refl;
}

abbrev AreFree : ℕ → World → Type 0
AreFree n w = All (λ (c : Component). IsFree n (core c)) w.components

free_of : (n : ℕ) (w : World) → Sound w → has_work_out n w ≡ false → AreFree n w
free_of n w S e = from_places (λ (c : Component). IsFree n (core c)) w.components (λ i c at g.
    let there : named (number_of c) w.components ≡ Some c = named_there 0 w.numbered i w.components c S.rising at in
    let here : component_numbered n w ≡ Some c = is_named n w ∙ subst (λ (k : ℕ). named k w.components ≡ Some c) g there in
    sym (ap (λ (o : Option Component). is_some (option_and_then (λ (d : Component). d.work) o)) here) ∙ e)

none_placed : (n : ℕ) (cs : List Component) (o : Option Component) → named n cs ≡ o → All (λ (c : Component). IsFree n (core c)) cs → is_some (option_and_then (λ (d : Component). d.work) o) ≡ false
none_placed n cs None e A = refl
none_placed n cs (Some c) e A = let i = placed_in n cs c e in at_place (λ (d : Component). IsFree n (core d)) cs i.0 c A i.1 (named_number n cs c e)

none_out : (n : ℕ) (v : World) → AreFree n v → has_work_out n v ≡ false
none_out n v A = none_placed n v.components (component_numbered n v) (sym (is_named n v)) A

-- ---- an act

other_goes : (n : ℕ) (a : Act) (r : Reply) → takes_work n a r ≡ false → Goes (IsFree n) a r
other_goes n a r t h x c work e f number k g =
    let u : nat_eq h.generation n ≡ false = rw (e, f) at t in
    let b : nat_eq h.generation n ≡ true = eq-eqb h.generation n (sym number ∙ g) in
    absurd cc

pub none_comes : (w : World) (a : Act) (r : Reply) (v : World) (n : ℕ) → Sound w → Meets w a → Step w a r v → takes_work n a r ≡ false → has_work_out n w ≡ false → has_work_out n v ≡ false
none_comes w a r v n S M h t e =
    none_out n v (outcome_each (IsFree n) (free_lasts n) w a r v S (inr (λ k kind g. refl)) (other_goes n a r t) (inr (λ c k. k)) (step_comes w a r v S M h) (free_of n w S e))

-- ---- a claim

claims_first : (w : World) (i : ℕ) (c : Component) (o : Option Claimed) (x : WorkSeen) (v : World) → Sound w → slice_get w.components i ≡ Some c → claim_idle (look w) c ≡ o → Claims o i c w (Ok (ClaimedWork x)) v → has_work_out x.component w ≡ false
claims_first w i c (Some idle) x v S t e a =
    let b : ClaimedWork x ≡ idle = cc in
    absurd (subst IsIdle (sym b) (claim_is_idle (look w) c idle e))
claims_first w i c None x v S t e a =
    let b : ClaimedWork x ≡ ClaimedWork (seen_work c (work_of (seen w.headers) c) w.headers) = cc in
    let n : x.component ≡ number_of c = cc in
    let there : component_numbered (number_of c) w ≡ Some c = is_named (number_of c) w ∙ named_there 0 w.numbered i w.components c S.rising t in
    let out : has_work_out (number_of c) w ≡ false =
    ap (λ (p : Option Component). is_some (option_and_then (λ (d : Component). d.work) p)) there ∙ ap (λ (p : Option Work). is_some p) (claim_passes (look w) c e).free in
    ap (λ (k : ℕ). has_work_out k w) n ∙ out

pub none_before : (w : World) (h : Handle) (x : WorkSeen) (v : World) → Sound w → Step w (acts.Claim h) (acts.Claimed (Ok (ClaimedWork x))) v → has_work_out x.component w ≡ false
none_before w h x v S a =
    let y = resolved plain w v h (ClaimedWork x) _ a in
    claims_first w y.0 y.1 (claim_idle (look w) y.1) x v S (y.2).there refl y.3

-- ---- a finish

announced_none : (o : Option Port) (c : Component) → (announced_at o c).work ≡ c.work
announced_none None c = refl
announced_none (Some p) c = either (same_format p.setting.definition.format (file_format c.file)) (λ t. rw t refl) (λ f. rw f refl)

-- one without a work is in place of the only component of its number
free_set : (w v : World) (i : ℕ) (c d : Component) → Sound w → slice_get w.components i ≡ Some c → v.components ≡ set w.components i d → d.work ≡ None → AreFree (number_of c) v
free_set w v i c d S t e o =
    subst (λ (cs : List Component). All (λ (x : Component). IsFree (number_of c) (core x)) cs) (sym e) (from_places (λ (x : Component). IsFree (number_of c) (core x)) (set w.components i d) (λ j x f g. elim (at_set w.components i j d x f) [
      | inl here ↦ ap (λ (y : Component). is_some y.work) here.1 ∙ ap (λ (y : Option Work). is_some y) o
      | inr else ↦ absurd (else.0 (same_place 0 w.numbered j i w.components x c S.rising else.1 t g))
    ]))

free_finished : (w : World) (done : WorkDone) (i : ℕ) (c : Component) (work : Work) → Sound w → IsBackOf w done i c work → AreFree (number_of c) (finished i c done w)
free_finished w done i c work S B =
    let e = ap (λ (o : Option Work). finished_by i c done o w) B.out in
    subst (AreFree (number_of c)) (sym e) (either work.announces
    (λ a. subst (AreFree (number_of c)) (sym (announces_is w done i c work a)) (free_set w (with_component i (announced c) w) i c (announced c) S B.there refl (announced_none (port_of c 0) (record c { work = None }))))
    (λ n.
    let L = landing_of w done i c work S B n in
    let s : Stream = L.stream in
    let f : stream_of (number_of c) w ≡ Some s = ap (λ (k : ℕ). stream_of k w) B.number ∙ L.found in
    subst (AreFree (number_of c)) (sym (stepped_is w done i c work s n f)) (free_set w (with_landed i c done s w) i c (stepped_back c s done) S B.there refl refl)))

pub none_left : (w : World) (done : WorkDone) (v : World) → Sound w → Meets w (acts.Finish done) → Step w (acts.Finish done) acts.Finished v → has_work_out done.component v ≡ false
none_left w done v S M F =
    let x = back_of w done v M F in
    let mid = finished x.0 x.1 done w in
    let A = free_finished w done x.0 x.1 x.2 S x.3 in
    none_out done.component v (subst (λ (n : ℕ). AreFree n v) (x.3).number (closes_each (IsFree (number_of x.1)) (free_lasts (number_of x.1)) mid v x.4 A))
