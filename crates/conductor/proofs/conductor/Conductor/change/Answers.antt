use Rattle.std.proofs.Common.{◌≡◌, ◌<◌, length, sym, ◌∙◌, ap, subst, arith}
use Rattle.std.specs.Prelude.{slice_set}
use Rattle.std.proofs.lemmas.Option.{get_or_from_slice_get, slice_get_within}
use Rattle.conductor.specs.declared.phase.LateLink.{LateLink}
use Rattle.conductor.specs.DueChange.{IsDueChange}
use Rattle.conductor.specs.Hearing.{ConductorValue}
use Rattle.conductor.specs.Phases.{IsChange, one_step_more}
use Rattle.conductor.proofs.Steps.{step_small}
use Rattle.conductor.proofs.conductor.Conductor.change.Goals as goal

pub one_step_more-requires : goal.one_step_more-requires
one_step_more-requires c =
    let inside = c.self.inside in
    let due : IsDueChange (record { sinks = inside.sinks.items; told = inside.told.items; lates = inside.lates.items; sends = inside.sends }) c.args.due =
    subst (λ value. IsDueChange value c.args.due) (sym c.self.view_is) c.requires in
    let item : c.index-late.result.now ≡ due.0 =
    c.index-late.ensures ∙ get_or_from_slice_get inside.lates.items c.args.due.number due.0 c.index-late.result.now due.1.there in
    subst (λ (late : LateLink). late.steps < 3) (sym item) (step_small inside.told.items inside.lates.items c.args.due.number due.0 c.args.due.step due.1.there due.1.due)

pub index_mut-requires : goal.index_mut-requires
index_mut-requires c =
    let inside = c.self.inside in
    let due : IsDueChange (record { sinks = inside.sinks.items; told = inside.told.items; lates = inside.lates.items; sends = inside.sends }) c.args.due =
    subst (λ value. IsDueChange value c.args.due) (sym c.self.view_is) c.requires in
    let within : c.args.due.number < length inside.lates.items = slice_get_within inside.lates.items c.args.due.number due.0 due.1.there in
    let many = inside.lates.ok.0 in
    omega arith

pub returns : goal.returns
returns c =
    let inside = c.self.inside in
    let number = c.args.due.number in
    let before : ConductorValue = record { sinks = inside.sinks.items; told = inside.told.items; lates = inside.lates.items; sends = inside.sends } in
    let due : IsDueChange before c.args.due = subst (λ value. IsDueChange value c.args.due) (sym c.self.view_is) c.requires in
    let item : c.index-late.result.now ≡ due.0 =
    c.index-late.ensures ∙ get_or_from_slice_get inside.lates.items number due.0 c.index-late.result.now due.1.there in
    subst (λ value. IsChange value c.index-late.result.now.source c.args.due.step (record before { lates = slice_set inside.lates.items number c.one_step_more.result })) c.self.view_is
    (record {
      number = number;
      late = due.0;
      due = due.1;
      its_source = ap (λ (late : LateLink). late.source) item;
      goes_on = ap (λ (late : LateLink). record before { lates = slice_set inside.lates.items number late }) (c.one_step_more.ensures ∙ ap one_step_more item);
    })
