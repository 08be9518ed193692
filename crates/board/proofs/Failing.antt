-- A component whose step failed is claimed no more, so that it fails once.
use Rattle.std.proofs.Common.{◌≡◌, inl, inr, ℕ, zero, suc, ◌<◌, ◌≤◌, Bool, true, false, ◌||◌, List, set, slice_get, Option, Some, None, Ok, refl, sym, ◌∙◌, ap, subst, arith}
use Rattle.omx_types.specs.declared.handle.Handle.{Handle}
use Rattle.omx_types.specs.declared.fault.PartFault.{PartFault}
use Rattle.il_machine.specs.declared.port.Port.{Port}
use Rattle.il_machine.specs.Settings.{same_format}
use Rattle.il_machine.specs.Parts.{file_format}
use Rattle.il_machine.specs.World.{Component, Stream, Work, World, fresh, number_of, port_of, stream_of, with_component}
use Rattle.il_machine.specs.Headers.{seen}
use Rattle.il_machine.specs.Look.{look}
use Rattle.il_machine.specs.Due.{ClosesTo, HappenTimes}
use Rattle.il_machine.specs.Answers.{plain, Answers}
use Rattle.il_machine.specs.Components.{free_refusal, get_handle_refusal, with_new_component, without_component}
use Rattle.il_machine.specs.Files.{Offered, attach_refusal, attached, with_file}
use Rattle.il_machine.specs.Claims.{Claimed, ClaimedWork, Claims, WorkSeen, claim_idle, with_work, work_of}
use Rattle.il_machine.specs.Stepping.{WorkDone, IsDoneBy}
use Rattle.il_machine.specs.Finishing.{announced, announced_at, finished, finished_by, part_by, stepped_back, with_landed}
use Rattle.il_machine.specs.Acts.{Act, Reply}
use Rattle.il_machine.specs.Acts as acts
use Rattle.il_machine.specs.Run.{Meets, Step}
use Rattle.il_machine.specs.Sound.{Sound}
use Rattle.machine_laws.proofs.Claiming.{claim_passes}
use Rattle.machine_laws.proofs.Every.{at_push, at_remove, at_set}
use Rattle.machine_laws.proofs.Finding.{either}
use Rattle.machine_laws.proofs.Lookups.{rises_at, same_place}
use Rattle.machine_laws.proofs.Steps.{hands_in}
use Rattle.history_laws.proofs.Closing.{happening_of}
use Rattle.history_laws.proofs.GivenHeaders.{accepted, resolved}
use Rattle.history_laws.proofs.Outcome.{Done, Nothing, Outcome, Turn, turn}
use Rattle.history_laws.proofs.Seats.{got}
use Rattle.history_laws.proofs.Steps.{step_comes}
use Rattle.history_laws.proofs.WorkSteps.{IsBackOf, IsIdle, announces_is, back_of, claim_is_idle, landing_of, stepped_is}
use Rattle.il_graph.proofs.PartsStay.{PartOf, PartsStay, closes_stay, part_of, stayed, step_stays}

-- ---- no number is given twice

times_numbered : (n : ℕ) (w v : World) → HappenTimes n w v → v.numbered ≡ w.numbered
times_numbered zero w v e = ap (λ (x : World). x.numbered) e
times_numbered (suc n) w v (mid, before, last) = (happening_of mid v last).numbered ∙ times_numbered n w mid before

outcome_numbered : (w v : World) (t : Turn) → Outcome w t v → w.numbered ≤ v.numbered
outcome_numbered w v t (Nothing e m) = let k : v.numbered ≡ w.numbered = ap (λ (x : World). x.numbered) e in omega (arith, k)
outcome_numbered w v t (Done C E) =
    let k = times_numbered C.steps t.after v C.by_steps in
    let l = ((E.silent).births).numbered in
    omega (arith, k, l)

-- ---- a component that failed

-- each component of the number has failed, and its work is in
abbrev pub AllFailed : ℕ → World → Type 0
AllFailed n w = (i : ℕ) (c : Component) → slice_get w.components i ≡ Some c → number_of c ≡ n → (c.part.failed ≡ true) × (c.work ≡ None)

-- and the number was given
pub record HasFailed (n : ℕ) (w : World) : Type 0 where
  pub given : n < w.numbered
  pub all : AllFailed n w

stay_failed : (n : ℕ) (w v : World) → PartsStay w v → AllFailed n w → AllFailed n v
stay_failed n w v K F i d at is =
    let x = stayed w.components v.components i d K.parts at in
    let q : part_of x.0 ≡ part_of d = x.2 in
    let was = F i x.0 x.1 (ap (λ (p : PartOf). p.number) q ∙ is) in
    (sym (ap (λ (p : PartOf). p.failed) q) ∙ was.0, sym (ap (λ (p : PartOf). p.work) q) ∙ was.1)

closed_failed : (n : ℕ) (w v : World) → ClosesTo w v → AllFailed n w → AllFailed n v
closed_failed n w v C = stay_failed n w v (closes_stay w v C)

set_failed : (n i : ℕ) (w v : World) (c d : Component) → slice_get w.components i ≡ Some c → v.components ≡ set w.components i d → number_of d ≡ number_of c
    → (number_of c ≡ n → (c.part.failed ≡ true) × (c.work ≡ None) → (d.part.failed ≡ true) × (d.work ≡ None)) → AllFailed n w → AllFailed n v
set_failed n i w v c d at cs same k F j x f g = elim (at_set w.components i j d x (sym (ap (λ l. slice_get l j) cs) ∙ f)) [
  | inl here ↦
      let is : number_of c ≡ n = sym same ∙ (ap number_of (sym here.1) ∙ g) in
      let y = k is (F i c at is) in
      (ap (λ (z : Component). z.part.failed) here.1 ∙ y.0, ap (λ (z : Component). z.work) here.1 ∙ y.1)
  | inr else ↦ F j x else.1 g
]

no_or : (b c : Bool) → c ≡ true → (b || c) ≡ false → ⊥
no_or true c e g = cc
no_or false c e g = cc

-- ---- a work that comes back

announced_same : (o : Option Port) (c : Component) → (number_of (announced_at o c) ≡ number_of c) × ((announced_at o c).work ≡ c.work) × ((announced_at o c).part ≡ c.part)
announced_same None c = (refl, refl, refl)
announced_same (Some p) c = either (same_format p.setting.definition.format (file_format c.file)) (λ t. rw t (refl, refl, refl)) (λ f. rw f (refl, refl, refl))

part_failed : (c : Component) (s : Stream) (done : WorkDone) (o : Option PartFault) → c.part.failed ≡ true → (part_by c s done o).failed ≡ true
part_failed c s done None e = e
part_failed c s done (Some fault) e = refl

unannounced : (w : World) (c : Component) (work : Work) (done : WorkDone) (b : Bool) (fault : PartFault) → b ≡ true → IsDoneBy b w c work done → done.fault ≡ Some fault → ⊥
unannounced w c work done true fault e D f = let none : done.fault ≡ None = D.1 in cc
unannounced w c work done false fault e D f = cc

-- how the component stands whose work comes back
record ComesIn (w : World) (done : WorkDone) (v : World) : Type 0 where
  place : ℕ
  was : Component
  now : Component
  mid : World
  there : slice_get w.components place ≡ Some was
  out : (work : Work) × (was.work ≡ Some work)
  number : number_of was ≡ done.component
  changed : mid.components ≡ set w.components place now
  closes : ClosesTo mid v
  same : number_of now ≡ number_of was
  is_in : now.work ≡ None
  failed : was.part.failed ≡ true → now.part.failed ≡ true
  faulted : (fault : PartFault) → done.fault ≡ Some fault → now.part.failed ≡ true

comes_in : (w : World) (done : WorkDone) (v : World) → Sound w → Meets w (acts.Finish done) → Step w (acts.Finish done) acts.Finished v → ComesIn w done v
comes_in w done v S M F =
    let x = back_of w done v M F in
    let i = x.0 in
    let c = x.1 in
    let work = x.2 in
    let B : IsBackOf w done i c work = x.3 in
    let e : finished i c done w ≡ finished_by i c done (Some work) w = ap (λ (o : Option Work). finished_by i c done o w) B.out in
    either work.announces
    (λ a.
    let same = announced_same (port_of c 0) (record c { work = None }) in
    let mid = with_component i (announced c) w in record {
      place = i;
      was = c;
      now = announced c;
      mid = mid;
      there = B.there;
      out = (work, B.out);
      number = B.number;
      changed = refl;
      closes = subst (λ (m : World). ClosesTo m v) (e ∙ announces_is w done i c work a) x.4;
      same = same.0;
      is_in = same.1;
      failed = λ f. ap (λ p. p.failed) same.2 ∙ f;
      faulted = λ fault f. absurd (unannounced w c work done work.announces fault a B.meets f);
    })
    (λ n.
    let L = landing_of w done i c work S B n in
    let s : Stream = L.stream in
    let f : stream_of (number_of c) w ≡ Some s = ap (λ (k : ℕ). stream_of k w) B.number ∙ L.found in
    let mid = with_landed i c done s w in record {
      place = i;
      was = c;
      now = stepped_back c s done;
      mid = mid;
      there = B.there;
      out = (work, B.out);
      number = B.number;
      changed = refl;
      closes = subst (λ (m : World). ClosesTo m v) (e ∙ stepped_is w done i c work s n f) x.4;
      same = refl;
      is_in = refl;
      failed = part_failed c s done done.fault;
      faulted = λ fault g. ap (λ (o : Option PartFault). (part_by c s done o).failed) g;
    })

-- ---- the acts that change parts

module _ (n : ℕ) (w : World) (S : Sound w) where
  got_failed : (name : List ℕ) (h : Handle) (v : World) → n < w.numbered → Step w (acts.GetHandle name) (acts.Got (Ok h)) v → AllFailed n w → AllFailed n v
  got_failed name h v l s F =
      let x = got (get_handle_refusal (look w) name) name w h v s in
      let mid = with_new_component h x.1.0 w in
      closed_failed n mid v x.1.1 (λ j d at is. elim (at_push w.components j (fresh h x.1.0) d at) [
        | inl old ↦ F j d old is
        | inr new ↦
            let k : h.generation ≡ n = ap number_of (sym new) ∙ is in
            let m : h.generation ≡ w.numbered = x.0 in
            absurd (omega (arith, l, m, k))
      ])

  freed_failed : (h : Handle) (file : _) (v : World) → Step w (acts.FreeHandle h) (acts.Removed (Ok file)) v → AllFailed n w → AllFailed n v
  freed_failed h file v s F =
      let y = resolved plain w v h file (λ i c. Answers (free_refusal (look w).headers c) (Ok file) w v (λ file. (file ≡ c.file) × ClosesTo (without_component i c w) v)) s in
      let a = accepted (free_refusal (look w).headers y.1) file w v (λ file. (file ≡ y.1.file) × ClosesTo (without_component y.0 y.1 w) v) y.3 in
      closed_failed n (without_component y.0 y.1 w) v a.1 (λ j d at is. let k = at_remove w.components y.0 j d at in F k.0 d k.2 is)

  attached_failed : (h : Handle) (file : Offered) (done : Unit {0}) (v : World) → Step w (acts.Attach h file) (acts.Plain (Ok done)) v → AllFailed n w → AllFailed n v
  attached_failed h file done v s F =
      let y = resolved plain w v h done (λ i c. Answers (attach_refusal c file) (Ok done) w v (λ _. ClosesTo (with_file i c file w) v)) s in
      let a = accepted (attach_refusal y.1 file) done w v (λ _. ClosesTo (with_file y.0 y.1 file w) v) y.3 in
      let mid = with_file y.0 y.1 file w in
      closed_failed n mid v a (set_failed n y.0 w mid y.1 (record y.1 { file = Some (attached file) }) (y.2).there refl refl (λ e k. k) F)

  taken_failed : (i : ℕ) (c : Component) (o : Option Claimed) (x : WorkSeen) (v : World) → slice_get w.components i ≡ Some c → claim_idle (look w) c ≡ o → Claims o i c w (Ok (ClaimedWork x)) v → AllFailed n w → AllFailed n v
  taken_failed i c (Some idle) x v t e a F =
      let b : ClaimedWork x ≡ idle = cc in
      absurd (subst IsIdle (sym b) (claim_is_idle (look w) c idle e))
  taken_failed i c None x v t e a F =
      let mid = with_work i c (work_of (seen w.headers) c) w in
      let G = claim_passes (look w) c e in
      closed_failed n mid v a.1 (set_failed n i w mid c (record c { work = Some (work_of (seen w.headers) c) }) t refl refl (λ is k. absurd (no_or c.part.ended c.part.failed k.0 G.goes)) F)

  claimed_failed : (h : Handle) (x : WorkSeen) (v : World) → Step w (acts.Claim h) (acts.Claimed (Ok (ClaimedWork x))) v → AllFailed n w → AllFailed n v
  claimed_failed h x v s F =
      let y = resolved plain w v h (ClaimedWork x) (λ i c. Claims (claim_idle (look w) c) i c w (Ok (ClaimedWork x)) v) s in
      taken_failed y.0 y.1 (claim_idle (look w) y.1) x v (y.2).there refl y.3 F

  finished_failed : (done : WorkDone) (v : World) → ComesIn w done v → AllFailed n w → AllFailed n v
  finished_failed done v B F = closed_failed n B.mid v B.closes (set_failed n B.place w B.mid B.was B.now B.there B.changed B.same (λ is k. (B.failed k.0, B.is_in)) F)

  all_still : (a : Act) (r : Reply) (v : World) → Meets w a → Step w a r v → n < w.numbered → AllFailed n w → AllFailed n v
  all_still (acts.GetHandle name) (acts.Got (Ok h)) v M s l F = got_failed name h v l s F
  all_still (acts.FreeHandle h) (acts.Removed (Ok file)) v M s l F = freed_failed h file v s F
  all_still (acts.Attach h file) (acts.Plain (Ok done)) v M s l F = attached_failed h file done v s F
  all_still (acts.Claim h) (acts.Claimed (Ok (ClaimedWork work))) v M s l F = claimed_failed h work v s F
  all_still (acts.Finish done) acts.Finished v M s l F = finished_failed done v (comes_in w done v S M s) F
  all_still a r v M s l F = stay_failed n w v (step_stays w S a r v (hands_in w a M) tt s) F

-- ---- a step

-- one that failed stays so
pub failed_still : (n : ℕ) (w : World) (a : Act) (r : Reply) (v : World) → Sound w → Meets w a → Step w a r v → HasFailed n w → HasFailed n v
failed_still n w a r v S M s F =
    let l = F.given in
    let k = outcome_numbered w v (turn w a r) (step_comes w a r v S M s) in
    record { given = omega (arith, l, k); all = all_still n w S a r v M s l F.all }

-- one fails whose step answered a fault
pub fails_so : (w : World) (done : WorkDone) (fault : PartFault) (v : World) → Sound w → Meets w (acts.Finish done) → Step w (acts.Finish done) acts.Finished v → done.fault ≡ Some fault → HasFailed done.component v
fails_so w done fault v S M s e =
    let B = comes_in w done v S M s in
    let below = (rises_at 0 w.numbered B.place w.components B.was S.rising B.there).1 in
    let k = outcome_numbered w v (turn w (acts.Finish done) acts.Finished) (step_comes w (acts.Finish done) acts.Finished v S M s) in
    let number = B.number in record {
      given = omega (arith, below, k, number);
      all = closed_failed done.component B.mid v B.closes (λ j x f g. elim (at_set w.components B.place j B.now x (sym (ap (λ l. slice_get l j) B.changed) ∙ f)) [
        | inl here ↦ (ap (λ (z : Component). z.part.failed) here.1 ∙ B.faulted fault e, ap (λ (z : Component). z.work) here.1 ∙ B.is_in)
        | inr else ↦ absurd (else.0 (same_place 0 w.numbered j B.place w.components x B.was S.rising else.1 B.there (g ∙ sym number)))
      ]);
    }

-- no step of one that failed comes back
pub none_again : (w : World) (done : WorkDone) (v : World) → Sound w → Meets w (acts.Finish done) → Step w (acts.Finish done) acts.Finished v → HasFailed done.component w → ⊥
none_again w done v S M s F =
    let B = comes_in w done v S M s in
    let none : (B.was).work ≡ None = (F.all B.place B.was B.there B.number).1 in
    let some : (B.was).work ≡ Some B.out.0 = B.out.1 in
    cc
