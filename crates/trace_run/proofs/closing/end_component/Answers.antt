use Rattle.il_graph.specs.Shown.{look_of}
use Rattle.trace_run.specs.Standing.{graph_kept}
use Rattle.trace_run.proofs.Emptying.{stay_on, stood_on, has_then}
use Rattle.trace_run.proofs.Invalidating.{made_stood, made_stay, made_ended}
use Rattle.trace_run.proofs.closing.end_component.Goals as goal

pub take_notes-requires-2 : goal.take_notes-requires-2
take_notes-requires-2 c =
    let a = graph_kept c.args.graph.now in
    let b = graph_kept c.take_notes.new.graph in
    let d = graph_kept c.make_invalid.new.graph in
    let slots = c.take_notes.new.slots.items in
    has_then b d slots slots (made_stood b d slots c.args.h c.make_invalid.ensures) (has_then a b c.args.slots.now.items slots c.take_notes.ensures.stood c.requires)

pub returns-clause-stood : goal.returns-clause-stood
returns-clause-stood c =
    let a = graph_kept c.args.graph.now in
    let b = graph_kept c.take_notes.new.graph in
    let d = graph_kept c.make_invalid.new.graph in
    let slots = c.take_notes.new.slots.items in
    stood_on a d (graph_kept c.take_notes-2.new.graph) c.args.slots.now.items slots c.take_notes-2.new.slots.items
    (stood_on a b d c.args.slots.now.items slots slots c.take_notes.ensures.stood (made_stood b d slots c.args.h c.make_invalid.ensures)) c.take_notes-2.ensures.stood

pub returns-clause-stay : goal.returns-clause-stay
returns-clause-stay c =
    let b = graph_kept c.take_notes.new.graph in
    let slots = c.take_notes.new.slots.items in
    let has = has_then (graph_kept c.args.graph.now) b c.args.slots.now.items slots c.take_notes.ensures.stood c.requires in
    stay_on (look_of c.args.graph.now) (look_of c.make_invalid.new.graph) (look_of c.take_notes-2.new.graph)
    (stay_on (look_of c.args.graph.now) (look_of c.take_notes.new.graph) (look_of c.make_invalid.new.graph) c.take_notes.ensures.stay (made_stay b (graph_kept c.make_invalid.new.graph) slots c.args.h c.make_invalid.ensures has)) c.take_notes-2.ensures.stay

pub returns-clause-ended : goal.returns-clause-ended
returns-clause-ended c =
    let b = graph_kept c.take_notes.new.graph in
    let slots = c.take_notes.new.slots.items in
    let has = has_then (graph_kept c.args.graph.now) b c.args.slots.now.items slots c.take_notes.ensures.stood c.requires in
    (c.take_notes-2.ensures.stay).ended c.args.h (made_ended b (graph_kept c.make_invalid.new.graph) slots c.args.h c.make_invalid.ensures has)
