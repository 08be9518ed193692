-- Held works in a list: those that no act moves stay, a claim brings one more, a finish takes one back.
use Rattle.std.proofs.Common.{◌≡◌, ◌≢◌, ◌⊎◌, inl, inr, ℕ, zero, suc, true, false, nat_eq, List, [], ◌∷◌, ◌++◌, remove, slice_get, Option, Some, Result, Ok, refl, sym, ◌∙◌, ap, subst, eqb-true, ne_eqb}
use Rattle.omx_types.specs.declared.error.OmxError.{OmxError}
use Rattle.omx_types.specs.declared.fault.PartFault.{PartFault}
use Rattle.omx_types.specs.declared.handle.Handle.{Handle}
use Rattle.il_machine.specs.World.{World}
use Rattle.il_machine.specs.Claims.{Claimed, ClaimedWork, WorkSeen}
use Rattle.il_machine.specs.Acts.{Act, Reply}
use Rattle.il_machine.specs.Acts as acts
use Rattle.il_machine.specs.Run.{Step, Meets}
use Rattle.il_machine.specs.Sound.{Sound}
use Rattle.machine_laws.proofs.Every.{at_place, from_places, at_push, at_remove}
use Rattle.machine_laws.proofs.Finding.{either}
use Rattle.history_laws.specs.Works.{has_work_out, returns_work}
use Rattle.history_laws.proofs.Freed.{none_left}
use Rattle.held_work_laws.specs.Works.{HeldWork, IsHeld, IsAmong, AreOfOwnComponents, AreHeld, BackSo}
use Rattle.held_work_laws.specs.Claims.{IsTaken, TakesWork}
use Rattle.held_work_laws.specs.Places.{IsWorkless}
use Rattle.held_work_laws.proofs.Held.{held_step, out_of, was_out}
use Rattle.held_work_laws.proofs.Taken.{and_some, by_answer, none_out, some_and, taken_held, taken_number}

-- ---- works of different components

among_at : (works : List HeldWork) (place : ℕ) (x : HeldWork) (number : ℕ) → slice_get works place ≡ Some x → x.handle.generation ≡ number → IsAmong number works
among_at works place x number e n = (place, some_and (slice_get works place) _ x e n)

among_tail : (number : ℕ) (y : HeldWork) (works : List HeldWork) → IsAmong number works → IsAmong number (y ∷ works)
among_tail number y works (place, h) = (suc place, h)

among_push : (number : ℕ) (works : List HeldWork) (x : HeldWork) → IsAmong number works → IsAmong number (works ++ x ∷ [])
among_push number [] x (place, h) = absurd h
among_push number (y ∷ works) x (zero, h) = (0, h)
among_push number (y ∷ works) x (suc place, h) = among_tail number y (works ++ x ∷ []) (among_push number works x (place, h))

among_last : (works : List HeldWork) (x : HeldWork) → IsAmong x.handle.generation (works ++ x ∷ [])
among_last [] x = (0, refl)
among_last (y ∷ works) x = among_tail x.handle.generation y (works ++ x ∷ []) (among_last works x)

in_push : (number : ℕ) (works : List HeldWork) (x : HeldWork) → IsAmong number (works ++ x ∷ []) → IsAmong number works ⊎ (x.handle.generation ≡ number)
in_push number [] x (zero, h) = inr h
in_push number [] x (suc place, h) = absurd h
in_push number (y ∷ works) x (zero, h) = inl (0, h)
in_push number (y ∷ works) x (suc place, h) = elim (in_push number works x (place, h)) [ inl a ↦ inl (among_tail number y works a) | inr e ↦ inr e ]

apart_push : (works : List HeldWork) (x : HeldWork) → AreOfOwnComponents works → (IsAmong x.handle.generation works → ⊥) → AreOfOwnComponents (works ++ x ∷ [])
apart_push [] x A n = ((λ a. n a), tt)
apart_push (y ∷ works) x A n = (
  λ a. elim (in_push y.handle.generation works x a) [ inl b ↦ A.0 b | inr e ↦ n (0, sym e) ],
  apart_push works x A.1 (λ a. n (among_tail x.handle.generation y works a)),
)

in_removed : (number : ℕ) (works : List HeldWork) (place : ℕ) → IsAmong number (remove works place) → IsAmong number works
in_removed number [] zero a = a
in_removed number [] (suc place) a = a
in_removed number (y ∷ works) zero a = among_tail number y works a
in_removed number (y ∷ works) (suc place) (zero, h) = (0, h)
in_removed number (y ∷ works) (suc place) (suc k, h) = among_tail number y works (in_removed number works place (k, h))

apart_removed : (works : List HeldWork) (place : ℕ) → AreOfOwnComponents works → AreOfOwnComponents (remove works place)
apart_removed [] zero A = A
apart_removed [] (suc place) A = A
apart_removed (y ∷ works) zero A = A.1
apart_removed (y ∷ works) (suc place) A = ((λ a. A.0 (in_removed y.handle.generation works place a)), apart_removed works place A.1)

-- the one that was removed is of no other's component
none_removed : (works : List HeldWork) (place : ℕ) (x : HeldWork) → AreOfOwnComponents works → slice_get works place ≡ Some x → IsAmong x.handle.generation (remove works place) → ⊥
none_removed [] place x A e a = cc
none_removed (y ∷ works) zero x A e a = let s : y ≡ x = cc in A.0 (subst (λ (z : HeldWork). IsAmong z.handle.generation works) (sym s) a)
none_removed (y ∷ works) (suc place) x A e (zero, h) = A.0 (among_at works place x y.handle.generation e (sym h))
none_removed (y ∷ works) (suc place) x A e (suc k, h) = none_removed works place x A.1 e (k, h)

-- any other is there still
still_among : (works : List HeldWork) (place : ℕ) (x : HeldWork) (number : ℕ) → slice_get works place ≡ Some x → x.handle.generation ≢ number → IsAmong number works → IsAmong number (remove works place)
still_among [] zero x number e n a = a
still_among [] (suc place) x number e n a = a
still_among (y ∷ works) zero x number e n (zero, h) = let s : y ≡ x = cc in absurd (n (ap (λ (z : HeldWork). z.handle.generation) (sym s) ∙ h))
still_among (y ∷ works) zero x number e n (suc k, h) = (k, h)
still_among (y ∷ works) (suc place) x number e n (zero, h) = (0, h)
still_among (y ∷ works) (suc place) x number e n (suc k, h) = among_tail number y (remove works place) (still_among works place x number e n (k, h))

-- ---- an act that moves none

pub all_step : (works : List HeldWork) (w : World) (a : Act) (r : Reply) (v : World) → Sound w → Meets w a → Step w a r v → IsWorkless a r → AreHeld works w → AreHeld works v
all_step works w a r v S M h W H = record {
  each = from_places (IsHeld v) works (λ i x e. held_step w a r v x S M h (W x.handle.generation).0 (at_place (IsHeld w) works i x H.each e));
  apart = H.apart;
  whole = λ n o. H.whole n (was_out w a r v n S M h (W n).1 o);
}

-- ---- a claim

module _ (works : List HeldWork) (w : World) (h : Handle) (v : World) (S : Sound w) (H : AreHeld works w) where
  work_claimed : (work : WorkSeen) (x : HeldWork) → Step w (acts.Claim h) (acts.Claimed (Ok (ClaimedWork work))) v → IsTaken h x work v → AreHeld (works ++ x ∷ []) v
  work_claimed work x step T =
      let a : Act = acts.Claim h in
      let r : Reply = acts.Claimed (Ok (ClaimedWork work)) in
      let g : x.handle.generation ≡ h.generation = taken_number h x work w v S step T in
      let new : IsHeld v x = taken_held h x work w v S step T in
      let before : has_work_out h.generation w ≡ false = none_out h x work w v S step T in
      record {
        each = from_places (IsHeld v) (works ++ x ∷ []) (λ i y f. elim (at_push works i x y f) [
          | inl old ↦ held_step w a r v y S tt step refl (at_place (IsHeld w) works i y H.each old)
          | inr last ↦ subst (IsHeld v) (sym last) new
        ]);
        apart = apart_push works x H.apart (λ m.
            let y = and_some (slice_get works m.0) _ m.1 in
            let out : has_work_out h.generation w ≡ true = ap (λ (k : ℕ). has_work_out k w) (sym (y.2 ∙ g)) ∙ out_of w y.0 (at_place (IsHeld w) works m.0 y.0 H.each y.1) in
            let z : true ≡ false = sym out ∙ before in
            cc);
        whole = λ k o. either (nat_eq h.generation k)
            (λ t. subst (λ (m : ℕ). IsAmong m (works ++ x ∷ [])) (g ∙ eqb-true h.generation k t) (among_last works x))
            (λ f. among_push k works x (H.whole k (was_out w a r v k S tt step f o)));
      }

  pub all_claimed : (answer : Result Claimed OmxError) (news : List HeldWork) → Step w (acts.Claim h) (acts.Claimed answer) v → TakesWork h works news answer v → AreHeld news v
  all_claimed answer news step T =
      by_answer (λ (x : HeldWork). news ≡ works ++ x ∷ []) (news ≡ works) (AreHeld news v) h w v
      (λ work x goes e K. subst (λ (ws : List HeldWork). AreHeld ws v) (sym e) (work_claimed work x goes K))
      (λ other goes W e. subst (λ (ws : List HeldWork). AreHeld ws v) (sym e) (all_step works w (acts.Claim h) (acts.Claimed other) v S tt goes W H))
      answer step T

-- ---- a finish

pub all_finished : (works : List HeldWork) (place : ℕ) (x : HeldWork) (frames : ℕ) (fault : Option PartFault) (w v : World) → Sound w → slice_get works place ≡ Some x → BackSo x frames fault w v → AreHeld works w
    → AreHeld (remove works place) v
all_finished works place x frames fault w v S at B H =
    let a : Act = acts.Finish B.done in
    let other : (y : HeldWork) → x.handle.generation ≢ y.handle.generation → returns_work y.handle.generation a acts.Finished ≡ false =
    λ y n. ne_eqb (B.done).component y.handle.generation (λ e. n (sym B.component ∙ e)) in
    record {
      each = from_places (IsHeld v) (remove works place) (λ i y f.
          let k = at_remove works place i y f in
          held_step w a acts.Finished v y S B.meets B.step
          (other y (λ e. none_removed works place x H.apart at (among_at (remove works place) i y x.handle.generation f (sym e))))
          (at_place (IsHeld w) works k.0 y H.each k.2));
      apart = apart_removed works place H.apart;
      whole = λ n o.
          still_among works place x n at
          (λ e.
          let gone : has_work_out n v ≡ false = ap (λ (k : ℕ). has_work_out k v) (sym e ∙ sym B.component) ∙ none_left w B.done v S B.meets B.step in
          let z : true ≡ false = sym o ∙ gone in
          cc)
          (H.whole n (was_out w a acts.Finished v n S B.meets B.step refl o));
    }
