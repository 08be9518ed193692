-- The last component is freed.
use Rattle.std.proofs.Common.{◌≡◌, ℕ, suc, ◌+◌, ◌<◌, Bool, true, false, nat_lt, [], length, slice_get, Option, Some, None, is_some, Result, Ok, refl, sym, ◌∙◌, ap, subst, arith, if◌then◌else◌}
use Rattle.std.specs.Prelude.{remove}
use Rattle.std.specs.List.{list_any}
use Rattle.std.proofs.lemmas.Bool.{lt-ltb}
use Rattle.std.proofs.lemmas.List.Edits.{length-remove}
use Rattle.std.proofs.lemmas.Option.{slice_get_within}
use Rattle.omx_types.specs.declared.handle.Handle.{Handle}
use Rattle.omx_types.specs.declared.error.OmxError.{OmxError}
use Rattle.part_api.specs.declared.attached.Attached.{Attached}
use Rattle.il_machine.specs.declared.port.PortState.{PortState}
use Rattle.il_machine.specs.Acts as acts
use Rattle.il_machine.specs.Answers.{Answers, plain}
use Rattle.il_machine.specs.Components.{FreeHandle, free_refusal, without_component}
use Rattle.il_machine.specs.Due.{ClosesTo, each_port}
use Rattle.il_machine.specs.Headers.{seen}
use Rattle.il_machine.specs.Look.{look}
use Rattle.il_machine.specs.Ports.{has_no_header, is_joined}
use Rattle.il_machine.specs.Sound.{Sound}
use Rattle.il_machine.specs.World.{Component, World, place_of, ports_of}
use Rattle.il_machine.proofs.Joined.{ports_any, ports_unmade}
use Rattle.machine_laws.proofs.Every.{from_places}
use Rattle.machine_laws.proofs.Parts.{parts_of}
use Rattle.machine_laws.proofs.Steps.{sound_step}
use Rattle.stock_laws.proofs.Lists.{get_removed}
use Rattle.play_build_laws.proofs.Calm.{skips}
use Rattle.play_build_laws.proofs.Places.{resolved}
use Rattle.play_build_laws.proofs.Standing.{answered}
use Rattle.play_build_laws.specs.Dismantling.{AreFirst, IsQuiet, IsResting, IsUnjoined}
use Rattle.play_build_laws.proofs.Resting.{calm_closes, none_any, resting_at}

module _ (left : ℕ) (w : World) (U : IsUnjoined (left + 1) w) where
  first_same : (i : ℕ) → i < left → slice_get (remove w.components left) i ≡ slice_get w.components i
  first_same i b = let t : nat_lt i left ≡ true = lt-ltb i left b in get_removed w.components left i ∙ ap (λ (x : Bool). slice_get w.components (if x then i else suc i)) t

  many_left : length (remove w.components left) ≡ left
  many_left = let m = U.many in let r = length-remove w.components left (omega arith) in omega arith

  stood_at : (i : ℕ) (y : Component) → slice_get (remove w.components left) i ≡ Some y → slice_get w.components i ≡ Some y
  stood_at i y e = let m = many_left in let b = slice_get_within (remove w.components left) i y e in sym (first_same i (omega arith)) ∙ e

  module _ (a : Component) (e : slice_get w.components left ≡ Some a) where
    accepted : free_refusal (look w).headers a ≡ None
    accepted =
        let R = resting_at w U.quiet left a e in
        let S = (parts_of w U.quiet.sound).components left a e in
        let down = R.down in
        let pending : is_some a.pending ≡ false = ap (λ (o : Option _). is_some o) R.calm.resting in
        let unmade : each_port a (has_no_header (seen [])) ≡ true = ports_unmade a in
        let joined : list_any is_joined (ports_of a) ≡ false = ports_any a (S.whole.ports ∙ sym S.ports) ∙ none_any (λ (s : PortState). is_some s.link) a.ports (λ port s f. ap (λ (o : Option _). is_some o) (U.loose left port a s e f)) in
        let work : is_some a.work ≡ false = ap (λ (o : Option _). is_some o) R.work in
        let client = R.client in
        ap (λ hs. free_refusal (seen hs) a) U.quiet.headers ∙ skips _ _ _ (rw (down, pending, unmade, joined, work, client) refl) refl

    quiet_then : Sound (without_component left a w) → IsQuiet (without_component left a w)
    quiet_then S = record {
      sound = S;
      headers = U.quiet.headers;
      components = from_places IsResting (remove w.components left) (λ i y f. resting_at w U.quiet i y (stood_at i y f));
      numbered = λ i y f. U.quiet.numbered i y (stood_at i y f);
    }

    calm_then : (i : ℕ) (y : Component) → slice_get (remove w.components left) i ≡ Some y → IsResting y
    calm_then i y f = resting_at w U.quiet i y (stood_at i y f)

pub frees : (left : ℕ) (w v : World) (h : Handle) (a : Component) (result : Result (Option Attached) OmxError) → IsUnjoined (left + 1) w → place_of h w.components ≡ Some left → slice_get w.components left ≡ Some a → FreeHandle w h result v
    → (result ≡ Ok a.file) × IsUnjoined left v × AreFirst left w v
frees left w v h a result U H e F =
    let R = resolved plain w h result v (λ i c. Answers (free_refusal (look w).headers c) result w v (λ file. (file ≡ c.file) × ClosesTo (without_component i c w) v)) left a H e F in
    let T = answered (free_refusal (look w).headers a) result w v (λ file. (file ≡ a.file) × ClosesTo (without_component left a w) v) (accepted left w U a e) R in
    let sound : Sound v = sound_step w v (acts.FreeHandle h) (acts.Removed result) tt F U.quiet.sound in
    let same : v ≡ without_component left a w = calm_closes (without_component left a w) v (λ i y f. (calm_then left w U a e i y f).calm) T.2.1 in (
      T.1 ∙ ap (λ (o : Option Attached). Ok o) T.2.0,
      subst (λ (y : World). IsUnjoined left y) (sym same) (record {
        quiet = quiet_then left w U a e (subst Sound same sound);
        many = many_left left w U;
        loose = λ i port y s f g. U.loose i port y s (stood_at left w U i y f) g;
      }),
      subst (λ (y : World). AreFirst left w y) (sym same) (first_same left w U),
    )
