-- Held works by the numbers of their components: those that no act moves stay, a claim puts one, a finish takes it.
use Rattle.std.proofs.Common.{◌≡◌, inl, inr, ℕ, true, false, nat_eq, List, slice_get, set, Option, Some, None, Result, Ok, refl, sym, ◌∙◌, ap, subst, eqb-true, eq-eqb, ne_eqb}
use Rattle.omx_types.specs.declared.error.OmxError.{OmxError}
use Rattle.omx_types.specs.declared.fault.PartFault.{PartFault}
use Rattle.omx_types.specs.declared.handle.Handle.{Handle}
use Rattle.il_machine.specs.World.{World}
use Rattle.il_machine.specs.Claims.{Claimed, ClaimedWork, WorkSeen}
use Rattle.il_machine.specs.Acts.{Act, Reply}
use Rattle.il_machine.specs.Acts as acts
use Rattle.il_machine.specs.Run.{Step, Meets}
use Rattle.il_machine.specs.Sound.{Sound}
use Rattle.machine_laws.proofs.Every.{at_set, set_else, set_there}
use Rattle.machine_laws.proofs.Finding.{either}
use Rattle.history_laws.specs.Works.{has_work_out}
use Rattle.history_laws.proofs.Freed.{none_left}
use Rattle.held_work_laws.specs.Works.{HeldWork, IsHeld, BackSo}
use Rattle.held_work_laws.specs.Claims.{IsTaken, TakesWorkAt}
use Rattle.held_work_laws.specs.Places.{AreHeldAt, IsWorkless}
use Rattle.held_work_laws.proofs.Held.{held_step, was_out}
use Rattle.held_work_laws.proofs.Taken.{by_answer, taken_held, taken_number}

pub placed_step : (works : List (Option HeldWork)) (w : World) (a : Act) (r : Reply) (v : World) → Sound w → Meets w a → Step w a r v → IsWorkless a r → AreHeldAt works w → AreHeldAt works v
placed_step works w a r v S M h W H = record {
  each = λ n x e. let k = H.each n x e in (k.0, held_step w a r v x S M h (W x.handle.generation).0 k.1);
  whole = λ n o. H.whole n (was_out w a r v n S M h (W n).1 o);
}

-- ---- a claim

module _ (works : List (Option HeldWork)) (w : World) (h : Handle) (v : World) (S : Sound w) (there : (o : Option HeldWork) × (slice_get works h.generation ≡ Some o)) (H : AreHeldAt works w) where
  put : (work : WorkSeen) (x : HeldWork) → Step w (acts.Claim h) (acts.Claimed (Ok (ClaimedWork work))) v → IsTaken h x work v → AreHeldAt (set works h.generation (Some x)) v
  put work x step T =
      let a : Act = acts.Claim h in
      let r : Reply = acts.Claimed (Ok (ClaimedWork work)) in
      let g : x.handle.generation ≡ h.generation = taken_number h x work w v S step T in
      let new : IsHeld v x = taken_held h x work w v S step T in
      record {
        each = λ n y e. elim (at_set works h.generation n (Some x) (Some y) e) [
          | inl (i, s) ↦
              let same : y ≡ x = cc in
              (ap (λ (z : HeldWork). z.handle.generation) same ∙ (g ∙ sym i), subst (IsHeld v) (sym same) new)
          | inr (i, old) ↦ let k = H.each n y old in (k.0, held_step w a r v y S tt step refl k.1)
        ];
        whole = λ k o. either (nat_eq h.generation k)
            (λ t.
            let i : h.generation ≡ k = eqb-true h.generation k t in
            (x, subst (λ (m : ℕ). slice_get (set works h.generation (Some x)) m ≡ Some (Some x)) i (set_there works h.generation there.0 (Some x) there.1)))
            (λ f.
            let y = H.whole k (was_out w a r v k S tt step f o) in
            (y.0, set_else works h.generation k (Some x) (λ e. let z : true ≡ false = sym (eq-eqb h.generation k (sym e)) ∙ f in cc) ∙ y.1));
      }

  pub placed_claimed : (answer : Result Claimed OmxError) (news : List (Option HeldWork)) → Step w (acts.Claim h) (acts.Claimed answer) v → TakesWorkAt h works news answer v → AreHeldAt news v
  placed_claimed answer news step T =
      by_answer (λ (x : HeldWork). news ≡ set works h.generation (Some x)) (news ≡ works) (AreHeldAt news v) h w v
      (λ work x goes e K. subst (λ (ws : List (Option HeldWork)). AreHeldAt ws v) (sym e) (put work x goes K))
      (λ other goes W e. subst (λ (ws : List (Option HeldWork)). AreHeldAt ws v) (sym e) (placed_step works w (acts.Claim h) (acts.Claimed other) v S tt goes W H))
      answer step T

-- ---- a finish

pub placed_finished : (works : List (Option HeldWork)) (number : ℕ) (x : HeldWork) (frames : ℕ) (fault : Option PartFault) (w v : World) → Sound w → slice_get works number ≡ Some (Some x) → BackSo x frames fault w v
    → AreHeldAt works w → AreHeldAt (set works number None) v
placed_finished works number x frames fault w v S at B H =
    let a : Act = acts.Finish B.done in
    let mine : x.handle.generation ≡ number = (H.each number x at).0 in
    let of_done : (B.done).component ≡ number = B.component ∙ mine in
    record {
      each = λ n y e. elim (at_set works number n None (Some y) e) [
        | inl (i, s) ↦ absurd cc
        | inr (i, old) ↦
            let k = H.each n y old in
            (k.0, held_step w a acts.Finished v y S B.meets B.step (ne_eqb (B.done).component y.handle.generation (λ e. i (sym k.0 ∙ (sym e ∙ of_done)))) k.1)
      ];
      whole = λ n o.
          let y = H.whole n (was_out w a acts.Finished v n S B.meets B.step refl o) in (
            y.0,
            set_else works number n None
                (λ e.
                let gone : has_work_out n v ≡ false = ap (λ (k : ℕ). has_work_out k v) (e ∙ sym of_done) ∙ none_left w B.done v S B.meets B.step in
                let z : true ≡ false = sym o ∙ gone in
                cc)
                ∙ y.1,
          );
    }
