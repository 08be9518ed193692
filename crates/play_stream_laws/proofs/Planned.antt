-- Where all ports of a component have their formats it is set as the contents say.
use Rattle.std.proofs.Common.{◌≡◌, ℕ, suc, ◌<◌, ◌≤◌, true, false, List, [], ◌∷◌, length, get_or, slice_get, Some, refl, sym, ◌∙◌, ap, subst, arith}
use Rattle.std.proofs.lemmas.List.{get_or_append_left}
use Rattle.std.proofs.lemmas.Option.{slice_get-get_or}
use Rattle.omx_types.specs.declared.format.Format.{Format}
use Rattle.omx_types.specs.declared.format.Format.TheVariants as formats
use Rattle.omx_types.specs.Formats.{is_auto, rate_of}
use Rattle.part_api.specs.Terms.{Terms}
use Rattle.audio_parts.specs.Kinds.{MayBe}
use Rattle.audio_parts.specs.Shapes.{IsLawful}
use Rattle.il_machine.specs.Claims.{terms_in}
use Rattle.il_machine.specs.Parts.{factors_by, terms_of}
use Rattle.il_machine.specs.Stepping.{format_at}
use Rattle.il_machine.specs.World.{Component, Work, World}
use Rattle.play_model.specs.Play.{Play}
use Rattle.play_world_laws.specs.Worlds.{IsWork}
use Rattle.play_world_laws.proofs.Lengths.{at_all}
use Rattle.play_stream_laws.specs.Contents.{PlayContents}
use Rattle.play_world_laws.specs.PlayWorlds.{PlayCast}
use Rattle.play_step_laws.proofs.Lengths.{lawful}
use Rattle.play_step_laws.proofs.Poised.{IsPoised}
use Rattle.play_stream_laws.specs.PlayContents.{AreSetAs, HasPlayContents, IsSetAs}

same_formats : (fs gs : List Format) → AreSetAs fs gs → ((i : ℕ) (f : Format) → slice_get fs i ≡ Some f → is_auto f ≡ false) → fs ≡ gs
same_formats [] [] S h = refl
same_formats [] (g ∷ gs) S h = let m = S.many in absurd (omega arith)
same_formats (f ∷ fs) [] S h = let m = S.many in absurd (omega arith)
same_formats (f ∷ fs) (g ∷ gs) S h =
    let front : f ≡ g = S.each 0 f g refl refl (h 0 f refl) in
    let m = S.many in
    let rest : fs ≡ gs = same_formats fs gs (record { many = omega arith; each = λ i y z e d a. S.each (suc i) y z e d a }) (λ i y e. h (suc i) y e) in
    λ i. front i ∷ rest i

pub terms_planned : (terms planned : Terms) → IsSetAs terms planned → ((i : ℕ) (f : Format) → slice_get terms.inputs i ≡ Some f → is_auto f ≡ false) → ((i : ℕ) (f : Format) → slice_get terms.outputs i ≡ Some f → is_auto f ≡ false) → terms ≡ planned
terms_planned terms planned S g h =
    let kind = S.kind in
    let inputs = same_formats terms.inputs planned.inputs S.inputs g in
    let outputs = same_formats terms.outputs planned.outputs S.outputs h in
    let factors = S.factors in
    let file = S.file in
    λ i. record { kind = kind i; inputs = inputs i; outputs = outputs i; factors = factors i; file = file i }

-- the format of an input that is known
pub input_planned : (terms planned : Terms) → IsSetAs terms planned → (i : ℕ) → i < length terms.inputs → is_auto (format_at terms i) ≡ false → format_at planned i ≡ format_at terms i
input_planned terms planned S i l known =
    let m = (S.inputs).many in
    let low : i < length planned.inputs = omega arith in
    let own : format_at terms i ≡ get_or terms.inputs i formats.Auto = get_or_append_left terms.inputs terms.outputs formats.Auto i l in
    let its : format_at planned i ≡ get_or planned.inputs i formats.Auto = get_or_append_left planned.inputs planned.outputs formats.Auto i low in
    let same = (S.inputs).each i (get_or terms.inputs i formats.Auto) (get_or planned.inputs i formats.Auto) (slice_get-get_or terms.inputs i formats.Auto l) (slice_get-get_or planned.inputs i formats.Auto low) (sym (ap is_auto own) ∙ known) in
    its ∙ (sym same ∙ sym own)

rate_known : (f : Format) → 1 ≤ rate_of f → is_auto f ≡ false
rate_known (formats.Pcm rate channels) l = refl
rate_known (formats.Alaw rate channels) l = refl
rate_known (formats.Mulaw rate channels) l = refl
rate_known formats.Auto l = absurd (omega arith)

-- a component that does a step
module _ (x : PlayCast) (p : Play) (w : World) (c : ℕ) (a : Component) (U : IsPoised x.cast p w c a) (work : Work) (f : a.work ≡ Some work) (J : IsWork x.cast p c a work) where
  abbrev t : Terms
  t = terms_in a work

  -- the work's factors are those that are set
  pub terms_is : t ≡ terms_of a
  terms_is =
      let gain = J.gain in
      let weights = J.weights in
      λ i. record (terms_of a) { factors = factors_by a.settings.kind (gain i) (weights i) }

  pub planned_is : (k : PlayContents) → HasPlayContents x k w → t ≡ k.terms c
  planned_is k C =
      let L : IsLawful t = lawful x.cast p w c a U work f J in
      terms_planned t (k.terms c) (subst (λ (z : Terms). IsSetAs z (k.terms c)) (sym terms_is) (C.terms c a U.below U.there))
      (λ i y e. let M = at_all (MayBe t.kind true) t.inputs i y L.inputs e in rate_known y (M.limits).some_rate)
      (λ i y e. let M = at_all (MayBe t.kind false) t.outputs i y L.outputs e in rate_known y (M.limits).some_rate)
