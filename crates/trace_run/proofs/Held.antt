-- The works that a trace holds, over the acts of a line: they stay out until they come back.
use Rattle.std.proofs.Common.{◌≡◌, inl, inr, ℕ, List, [], ◌∷◌, ◌++◌, All, remove, slice_get, Some, None, Result, Ok, sym, ◌∙◌, ap, subst}
use Rattle.omx_types.specs.declared.error.OmxError.{OmxError}
use Rattle.omx_types.specs.declared.handle.Handle.{Handle}
use Rattle.il_machine.specs.World.{World}
use Rattle.il_machine.specs.Claims.{Claimed, ClaimedWork, WorkSeen}
use Rattle.il_machine.specs.Acts as acts
use Rattle.il_machine.specs.Run.{Step, Run}
use Rattle.il_machine.specs.Sound.{Sound}
use Rattle.machine_laws.proofs.Every.{at_place, from_places, at_push, at_remove}
use Rattle.machine_laws.proofs.Steps.{sound_step}
use Rattle.held_work_laws.specs.Claims.{TakesWork}
use Rattle.held_work_laws.specs.Places.{IsWorkless}
use Rattle.held_work_laws.specs.Works.{HeldWork, BackSo, AreHeld as AreOut}
use Rattle.held_work_laws.proofs.Listed as listed
use Rattle.held_work_laws.proofs.Taken.{by_answer}
use Rattle.trace_run.specs.declared.names.NamedComponent.{NamedComponent}
use Rattle.trace_run.specs.Lines.{Entry}
use Rattle.trace_run.specs.Standing.{IsNamed}
use Rattle.trace_run.specs.Works.{AreHeld}

abbrev pub AreWorkless : List Entry → Type 0
AreWorkless [] = Unit {0}
AreWorkless (x ∷ xs) = IsWorkless x.0 x.1 × AreWorkless xs

out_run : (works : List HeldWork) (w : World) (xs : List Entry) (v : World) → Sound w → Run w xs v → AreWorkless xs → AreOut works w → AreOut works v
out_run works w [] v S R W H = subst (AreOut works) (sym R) H
out_run works w (x ∷ xs) v S (mid, M, h, R) W H =
    out_run works mid xs v (sound_step w mid x.0 x.1 M h S) R W.1 (listed.all_step works w x.0 x.1 mid S M h W.0 H)

pub all_run : (components : List NamedComponent) (works : List HeldWork) (w : World) (xs : List Entry) (v : World) → Sound w → Run w xs v → AreWorkless xs → AreHeld components works w → AreHeld components works v
all_run components works w xs v S R W H = record { out = out_run works w xs v S R W H.out; named = H.named }

pub all_named : (a b : List NamedComponent) (works : List HeldWork) (w : World) → ((h : Handle) → IsNamed a h → IsNamed b h) → AreHeld a works w → AreHeld b works w
all_named a b works w N H = record {
  out = H.out;
  named = from_places (λ (x : HeldWork). IsNamed b x.handle) works (λ i x e. N x.handle (at_place (λ (x : HeldWork). IsNamed a x.handle) works i x H.named e));
}

-- ---- a claim

module _ (components : List NamedComponent) (works : List HeldWork) (w : World) (h : Handle) (v : World) (S : Sound w) (N : (work : WorkSeen) → Step w (acts.Claim h) (acts.Claimed (Ok (ClaimedWork work))) v → IsNamed components h) (H : AreHeld components works w) where
  named_last : (x : HeldWork) → x.handle ≡ h → IsNamed components h → All (λ (y : HeldWork). IsNamed components y.handle) (works ++ x ∷ [])
  named_last x is n = from_places (λ (y : HeldWork). IsNamed components y.handle) (works ++ x ∷ []) (λ i y f. elim (at_push works i x y f) [
    | inl old ↦ at_place (λ (z : HeldWork). IsNamed components z.handle) works i y H.named old
    | inr last ↦ subst (IsNamed components) (sym is ∙ ap (λ (z : HeldWork). z.handle) (sym last)) n
  ])

  pub all_claimed : (answer : Result Claimed OmxError) (news : List HeldWork) → Step w (acts.Claim h) (acts.Claimed answer) v → TakesWork h works news answer v → AreHeld components news v
  all_claimed answer news step T = record {
    out = listed.all_claimed works w h v S H.out answer news step T;
    named =
        let P : List HeldWork → Type 0 = λ ws. All (λ (x : HeldWork). IsNamed components x.handle) ws in
        by_answer (λ (x : HeldWork). news ≡ works ++ x ∷ []) (news ≡ works) (P news) h w v
        (λ work x goes e K. subst P (sym e) (named_last x K.handle (N work goes)))
        (λ other goes W e. subst P (sym e) H.named)
        answer step T;
  }

-- ---- a finish

pub all_finished : (components : List NamedComponent) (works : List HeldWork) (place : ℕ) (x : HeldWork) (frames : ℕ) (w v : World) → Sound w → slice_get works place ≡ Some x → BackSo x frames None w v → AreHeld components works w
    → AreHeld components (remove works place) v
all_finished components works place x frames w v S at B H = record {
  out = listed.all_finished works place x frames None w v S at B H.out;
  named = from_places (λ (y : HeldWork). IsNamed components y.handle) (remove works place) (λ i y f.
      let k = at_remove works place i y f in at_place (λ (z : HeldWork). IsNamed components z.handle) works k.0 y H.named k.2);
}
