-- Formats that go beside each other, and the settings of a component of which a port gets the format of its late source's link.
use Rattle.std.proofs.Common.{◌≡◌, ℕ, zero, suc, true, false, nat_eq, List, [], ◌∷◌, filter, slice_get, Some, refl, sym, ◌∙◌, ap, subst, eqb-true, eq-eqb}
use Rattle.std.specs.List.{list_all}
use Rattle.omx_types.specs.declared.format.Format.{Format}
use Rattle.omx_types.specs.declared.kind.Kind.{Kind}
use Rattle.omx_types.specs.Formats.{channels_of, is_auto, rate_of}
use Rattle.il_machine.specs.declared.port.PortSetting.{PortSetting}
use Rattle.il_machine.specs.Settings.{Settings, are_fitting, fits, formats_of, is_known, is_splitter, same_format, same_rate_and_channels}
use Rattle.machine_laws.proofs.Accepting.{both_of, is_not}
use Rattle.machine_laws.proofs.Finding.{either}
use Rattle.machine_laws.proofs.Fitting.{format_itself, same_is}
use Rattle.play_world_laws.proofs.Resting.{all_true}
use Rattle.play_world_laws.proofs.Wanted.{filter_from}
use Rattle.play_world_laws.specs.PlayWorlds.{IsAlike}

pub alike_itself : (kind : Kind) (f : Format) → IsAlike kind f f
alike_itself kind f = (let x = eq-eqb (rate_of f) (rate_of f) refl in let y = eq-eqb (channels_of f) (channels_of f) refl in rw (x, y) refl, λ _. format_itself f)

-- two that go beside a third go beside each other
alike_both : (kind : Kind) (f g h : Format) → IsAlike kind f h → IsAlike kind g h → IsAlike kind f g
alike_both kind f g h A B =
    let a = both_of (nat_eq (rate_of f) (rate_of h)) (nat_eq (channels_of f) (channels_of h)) A.0 in
    let b = both_of (nat_eq (rate_of g) (rate_of h)) (nat_eq (channels_of g) (channels_of h)) B.0 in
    let x = eq-eqb (rate_of f) (rate_of g) (eqb-true _ _ a.0 ∙ sym (eqb-true _ _ b.0)) in
    let y = eq-eqb (channels_of f) (channels_of g) (eqb-true _ _ a.1 ∙ sym (eqb-true _ _ b.1)) in (
      rw (x, y) refl,
      λ s.
          let same : f ≡ g = same_is f h (A.1 s) ∙ sym (same_is g h (B.1 s)) in
          ap (λ (t : Format). same_format t g) same ∙ format_itself g,
    )

fitting_by : (kind : Kind) (fs : List Format) (h : Format) → ((i : ℕ) (f : Format) → slice_get fs i ≡ Some f → IsAlike kind f h) → are_fitting kind fs ≡ true
fitting_by kind [] h A = refl
fitting_by kind (first ∷ rest) h A =
    let pair : (i : ℕ) (f : Format) → slice_get rest i ≡ Some f → IsAlike kind f first = λ i f e. alike_both kind f first h (A (suc i) f e) (A 0 first refl) in
    let all : list_all (λ format. same_rate_and_channels format first) rest ≡ true = all_true (λ format. same_rate_and_channels format first) rest (λ i f e. (pair i f e).0) in
    either (is_splitter kind)
    (λ s. let same : list_all (λ format. same_format format first) rest ≡ true = all_true (λ format. same_format format first) rest (λ i f e. (pair i f e).1 s) in rw (all, s, same) refl)
    (λ s. rw (all, s) refl)

mapped_from : (ps : List PortSetting) (i : ℕ) (f : Format) → slice_get (formats_of ps) i ≡ Some f → (y : PortSetting) × (slice_get ps i ≡ Some y) × (y.definition.format ≡ f)
mapped_from [] i f e = absurd cc
mapped_from (y ∷ ps) zero f e = (y, refl, cc)
mapped_from (y ∷ ps) (suc i) f e = mapped_from ps i f e

-- all known formats go beside one
pub fits_by : (s : Settings) (h : Format) → ((i : ℕ) (y : PortSetting) → slice_get s.ports i ≡ Some y → is_auto y.definition.format ≡ false → IsAlike s.kind y.definition.format h) → fits s ≡ true
fits_by s h A = fitting_by s.kind (filter is_known (formats_of s.ports)) h (λ i f e.
    let r = filter_from is_known (formats_of s.ports) i f e in
    let m = mapped_from s.ports r.1 f r.2 in
    let known : is_auto (m.0).definition.format ≡ false = ap is_auto m.2 ∙ is_not (is_auto f) r.0 in
    subst (λ (g : Format). IsAlike s.kind g h) m.2 (A r.1 m.0 m.1 known))
