use Rattle.std.proofs.Common.{◌≡◌, ◌<◌, None, Some, length, position, slice_get, refl, sym, ◌∙◌, ap}
use Rattle.std.proofs.lemmas.Option.{slice_get-get_or}
use Rattle.trace_run.specs.Standing.{graph_kept}
use Rattle.trace_run.specs.Works.{is_held_by}
use Rattle.trace_run.proofs.HeldLines.{finished_none, finished_some}
use Rattle.trace_run.proofs.works.finish.Goals as goal

pub returns-in_default : goal.returns-in_default
returns-in_default c =
    let k = graph_kept c.args.graph.now in
    let works = c.args.works.now.items in
    let none : position (is_held_by c.args.h) works ≡ None = ap (position (is_held_by c.args.h)) (sym c.as_slice.ensures.value) ∙ (sym c.place_of.ensures.place ∙ c.in_default.is) in
    finished_none k k c.args.h works works none refl refl

pub bring_back-requires : goal.bring_back-requires
bring_back-requires c =
    let works = c.args.works.now.items in
    let place = c.in-Some.place in
    let within : place < length works = rw c.as_slice.ensures.value at c.in-Some.ensures.within in
    let there : slice_get works place ≡ Some c.remove-work.result = slice_get-get_or works place c.remove-work.result within ∙ ap Some (sym c.remove-work.ensures.value) in
    c.requires place c.remove-work.result there

pub returns : goal.returns
returns c =
    let works = c.args.works.now.items in
    let place = c.in-Some.place in
    let within : place < length works = rw c.as_slice.ensures.value at c.in-Some.ensures.within in
    let there : slice_get works place ≡ Some c.remove-work.result = slice_get-get_or works place c.remove-work.result within ∙ ap Some (sym c.remove-work.ensures.value) in
    let found : position (is_held_by c.args.h) works ≡ Some place = ap (position (is_held_by c.args.h)) (sym c.as_slice.ensures.value) ∙ sym c.in-Some.ensures.place in
    finished_some (graph_kept c.args.graph.now) (graph_kept c.bring_back.new.graph) c.args.h works c.remove-work.new.self.items place c.remove-work.result c.bring_back.result found there c.remove-work.ensures.items c.bring_back.ensures
