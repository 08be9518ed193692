-- What is planned of both ends of a link is the format that goes through it.
use Rattle.std.proofs.Common.{◌≡◌, ℕ, ◌-◌, ◌<◌, true, false, nat_le, length, ◌∙◌, ap, leb-true, ltb-true, arith}
use Rattle.std.proofs.lemmas.List.{get_or-append_right, get_or_append_left}
use Rattle.std.proofs.lemmas.Option.{get_or_from_slice_get}
use Rattle.omx_types.specs.declared.format.Format.TheVariants.{Auto}
use Rattle.omx_types.specs.declared.kind.Kind.{Kind}
use Rattle.part_api.specs.Terms.{Terms}
use Rattle.part_forms.specs.Kinds.{inputs_of, outputs_of, ports_in}
use Rattle.il_machine.specs.Stepping.{format_at}
use Rattle.script_lang.specs.declared.play_line.PartLine.{PartLine}
use Rattle.machine_laws.proofs.Accepting.{both_of}
use Rattle.play_forms.specs.Fitting.{format_into}
use Rattle.play_forms.specs.Parts.{kind_of}
use Rattle.play_forms.specs.Plain.{format_out}
use Rattle.play_forms.specs.Plans.{PlanValue}
use Rattle.play_plan_laws.specs.Casting.{flow_of, joint_of, turn_of}
use Rattle.play_plan_laws.proofs.Links.{one_input, one_output}
use Rattle.play_plan_laws.specs.Assemblies.{IsReady, PlayFiles}
use Rattle.play_plan_laws.proofs.Lawful.{link_is}
use Rattle.play_result_laws.specs.Terms.{terms_by, terms_in}
use Rattle.play_result_laws.proofs.Ports.{at_input, at_output, formats_get, formats_many}
use Rattle.play_result_laws.proofs.Turns.{seat_of, terms_is}

module _ (plan : PlanValue) (files : PlayFiles) (R : IsReady plan files) (l : ℕ) (b : l < length plan.joints) where
  pub link_output : format_at (terms_in plan files (turn_of plan (joint_of plan l).giver)) (joint_of plan l).output ≡ (flow_of plan l).format
  link_output =
      let K = link_is plan files R l b in
      let part : PartLine = K.part false in
      let place : ℕ = (joint_of plan l).giver in
      let port : ℕ = (joint_of plan l).output in
      let kind : Kind = kind_of part.form in
      let s = seat_of plan R.valid place part (K.part_there false) in
      let t : Terms = terms_by plan files place part in
      let ends = both_of (nat_le (inputs_of kind) port) _ K.has_out in
      let low = leb-true (inputs_of kind) port ends.0 in
      let high = ltb-true port (ports_in kind) ends.1 in
      let number : ℕ = port - inputs_of kind in
      let inside : number < outputs_of kind = omega arith in
      let Z = at_output plan files R place part (K.part_there false) number inside in
      let port_is = Z.port in
      let M = link_is plan files R Z.link Z.below in
      let same : Z.link ≡ l = one_output plan R.valid Z.link l (joint_of plan l) (joint_of plan Z.link) M.there_joint K.there_joint Z.giver (omega arith) in
      let many = formats_many (inputs_of kind) (format_into plan.joints plan.flows place) in
      let at : format_at t port ≡ format_out plan place kind number =
      get_or-append_right t.inputs t.outputs (inputs_of kind) port Auto many low
      ∙ get_or_from_slice_get t.outputs number (format_out plan place kind number) Auto (formats_get (outputs_of kind) (format_out plan place kind) number inside)
      in
      ap (λ (y : Terms). format_at y port) (terms_is plan files (turn_of plan place) place part s.1)
      ∙ (at ∙ (Z.format ∙ ap (λ (j : ℕ). (flow_of plan j).format) same))

  pub link_input : format_at (terms_in plan files (turn_of plan (joint_of plan l).taker)) (joint_of plan l).input ≡ (flow_of plan l).format
  link_input =
      let K = link_is plan files R l b in
      let part : PartLine = K.part true in
      let place : ℕ = (joint_of plan l).taker in
      let port : ℕ = (joint_of plan l).input in
      let kind : Kind = kind_of part.form in
      let s = seat_of plan R.valid place part (K.part_there true) in
      let t : Terms = terms_by plan files place part in
      let low : port < inputs_of kind = ltb-true port (inputs_of kind) K.has_in in
      let Z = at_input plan files R place part (K.part_there true) port low in
      let M = link_is plan files R Z.link Z.below in
      let same : Z.link ≡ l = one_input plan R.valid Z.link l (joint_of plan l) (joint_of plan Z.link) M.there_joint K.there_joint Z.taker Z.port in
      let many = formats_many (inputs_of kind) (format_into plan.joints plan.flows place) in
      let at : format_at t port ≡ format_into plan.joints plan.flows place port =
      get_or_append_left t.inputs t.outputs Auto port (omega arith)
      ∙ get_or_from_slice_get t.inputs port (format_into plan.joints plan.flows place port) Auto (formats_get (inputs_of kind) (format_into plan.joints plan.flows place) port low)
      in
      ap (λ (y : Terms). format_at y port) (terms_is plan files (turn_of plan place) place part s.1)
      ∙ (at ∙ (Z.format ∙ ap (λ (j : ℕ). (flow_of plan j).format) same))
