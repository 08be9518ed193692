-- Where one more port of a component has its format, the component is set as the contents say.
use Rattle.std.proofs.Common.{◌≡◌, inl, inr, ℕ, ◌+◌, ◌-◌, ◌<◌, ◌≤◌, nat_lt, List, drop, length, set, slice_get, take, Some, sym, ◌∙◌, ap, subst, drop-set-lt, length-set, ltb-true, ltb-false, arith}
use Rattle.std.proofs.lemmas.List.{drop-set-add, get_or-append_right, get_or_append_left, length-take-le, map-set, take-set-le}
use Rattle.std.proofs.lemmas.Option.{get_or_from_slice_get, slice_get_within}
use Rattle.std.proofs.Math.Seq.{map-set_same, take-set-lt}
use Rattle.omx_types.specs.declared.format.Format.{Format}
use Rattle.omx_types.specs.declared.format.Format.TheVariants.{Auto}
use Rattle.part_api.specs.Terms.{Terms}
use Rattle.il_machine.specs.declared.port.PortSetting.{PortSetting}
use Rattle.il_machine.specs.Kinds.{inputs_of}
use Rattle.il_machine.specs.Parts.{terms_of}
use Rattle.il_machine.specs.Settings.{formats_of, with_setting}
use Rattle.il_machine.specs.Stepping.{format_at}
use Rattle.il_machine.specs.World.{Component}
use Rattle.machine_laws.proofs.Every.{at_set}
use Rattle.machine_laws.proofs.Finding.{either}
use Rattle.play_world_laws.proofs.Same.{length_map}
use Rattle.play_stream_laws.specs.PlayContents.{AreSetAs, IsSetAs}

-- with these formats of its ports
abbrev terms_with : Component → List Format → Terms
terms_with a formats = record (terms_of a) { inputs = take (inputs_of a.settings.kind) formats; outputs = drop (inputs_of a.settings.kind) formats }

-- ---- a setting with the same format

pub formats_stay : (ports : List PortSetting) (i : ℕ) (s t : PortSetting) → slice_get ports i ≡ Some s → t.definition.format ≡ s.definition.format → formats_of (set ports i t) ≡ formats_of ports
formats_stay ports i s t e f = map-set_same (λ (y : PortSetting). y.definition.format) ports i t t (f ∙ sym (ap (λ (y : PortSetting). y.definition.format) (get_or_from_slice_get ports i s t e)))

pub terms_stay : (a : Component) (i : ℕ) (s t : PortSetting) → slice_get a.settings.ports i ≡ Some s → t.definition.format ≡ s.definition.format → terms_of (record a { settings = with_setting i t a.settings }) ≡ terms_of a
terms_stay a i s t e f = ap (terms_with a) (formats_stay a.settings.ports i s t e f)

-- ---- a format that is planned for its port

set_as : (formats planned : List Format) (j : ℕ) (F : Format) → ((plan : Format) → slice_get planned j ≡ Some plan → F ≡ plan) → AreSetAs formats planned → AreSetAs (set formats j F) planned
set_as formats planned j F h S = record {
  many = length-set formats j F ∙ S.many;
  each = λ i format plan e f known. elim (at_set formats j i F format e) [
    | inl z ↦ z.1 ∙ h plan (ap (slice_get planned) (sym z.0) ∙ f)
    | inr z ↦ S.each i format plan z.1 f known
  ];
}

module _ (fs : List Format) (n : ℕ) (planned : Terms) (many : length (take n fs) ≡ length planned.inputs) (i : ℕ) (F : Format) (inside : i < length fs) (plan_is : format_at planned i ≡ F) where
  first_plan : (plan : Format) → slice_get planned.inputs i ≡ Some plan → F ≡ plan
  first_plan plan e =
      let b = slice_get_within planned.inputs i plan e in
      sym plan_is ∙ (get_or_append_left planned.inputs planned.outputs Auto i (omega arith) ∙ get_or_from_slice_get planned.inputs i plan Auto e)

  last_plan : n ≤ i → (plan : Format) → slice_get planned.outputs (i - n) ≡ Some plan → F ≡ plan
  last_plan l plan e =
      let t = length-take-le n fs (omega arith) in
      sym plan_is ∙ (get_or-append_right planned.inputs planned.outputs n i Auto (sym many ∙ t) l ∙ get_or_from_slice_get planned.outputs (i - n) plan Auto e)

  inputs_set : AreSetAs (take n fs) planned.inputs → AreSetAs (take n (set fs i F)) planned.inputs
  inputs_set S = either (nat_lt i n)
      (λ t. subst (λ (ys : List Format). AreSetAs ys planned.inputs) (sym (take-set-lt n fs i F (ltb-true i n t))) (set_as (take n fs) planned.inputs i F first_plan S))
      (λ t. subst (λ (ys : List Format). AreSetAs ys planned.inputs) (sym (take-set-le n fs i F (ltb-false i n t))) S)

  outputs_set : AreSetAs (drop n fs) planned.outputs → AreSetAs (drop n (set fs i F)) planned.outputs
  outputs_set S = either (nat_lt i n)
      (λ t. subst (λ (ys : List Format). AreSetAs ys planned.outputs) (sym (drop-set-lt n fs i F (ltb-true i n t))) S)
      (λ t.
      let l = ltb-false i n t in
      let index : n + (i - n) ≡ i = omega arith in
      let is : drop n (set fs i F) ≡ set (drop n fs) (i - n) F = ap (λ (j : ℕ). drop n (set fs j F)) (sym index) ∙ drop-set-add n fs (i - n) F in
      subst (λ (ys : List Format). AreSetAs ys planned.outputs) (sym is) (set_as (drop n fs) planned.outputs (i - n) F (last_plan l) S))

pub set_planned : (a : Component) (planned : Terms) (i : ℕ) (s t : PortSetting) → slice_get a.settings.ports i ≡ Some s → format_at planned i ≡ t.definition.format → IsSetAs (terms_of a) planned → IsSetAs (terms_of (record a { settings = with_setting i t a.settings })) planned
set_planned a planned i s t e f S =
    let n : ℕ = inputs_of a.settings.kind in
    let fs : List Format = formats_of a.settings.ports in
    let F : Format = t.definition.format in
    let is : formats_of (set a.settings.ports i t) ≡ set fs i F = map-set (λ (y : PortSetting). y.definition.format) a.settings.ports i t in
    let within = slice_get_within a.settings.ports i s e in
    let long : length fs ≡ length a.settings.ports = length_map (λ (y : PortSetting). y.definition.format) a.settings.ports in
    record {
      kind = S.kind;
      inputs = subst (λ (ys : List Format). AreSetAs (take n ys) planned.inputs) (sym is) (inputs_set fs n planned (S.inputs).many i F (omega arith) f S.inputs);
      outputs = subst (λ (ys : List Format). AreSetAs (drop n ys) planned.outputs) (sym is) (outputs_set fs n planned (S.inputs).many i F (omega arith) f S.outputs);
      factors = S.factors;
      file = S.file;
    }
