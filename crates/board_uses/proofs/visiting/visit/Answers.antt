use Rattle.std.proofs.Common.{◌∙◌}
use Rattle.graph_acts.specs.Plain.{sight_of}
use Rattle.board.specs.Boards.{first_of}
use Rattle.board.specs.Rows.{acts, replies, place_of}
use Rattle.board_uses.proofs.Rowing.{breaks_off, visit_replied, visited}
use Rattle.board_uses.proofs.visiting.visit.Goals as goal

pub take_all-requires : goal.take_all-requires
take_all-requires g c = (c.args.h, c.args.port, visit_replied c.args.h c.args.port (acts c.ask_all.new.row) (replies c.calls.new.row) c.ask_all.ensures.acts c.in-Ok.ensures.replies)

pub returns-in-Ok-clause-row : goal.returns-in-Ok-clause-row
returns-in-Ok-clause-row g c = (c.take_all.ensures.of c.args.board.now c.calls.ensures.row.0, c.take_all.ensures.acts.1 ∙ (c.calls.ensures.row.1 ∙ c.ask_all.ensures.row.1))

pub returns-in-Ok-clause-calls : goal.returns-in-Ok-clause-calls
returns-in-Ok-clause-calls g c =
    visited (sight_of g.C.Client g.S.Source g.K.Sink) g.C.Client.HEADERS (first_of c.args.board.now) c.args.h c.args.port c.args.pass.now c.ask_all.new.pass c.calls.new.pass (acts c.ask_all.new.row) c.ask_all.ensures.pass.1 c.ask_all.ensures.acts
    c.take_all.result (place_of c.calls.new.row) (replies c.calls.new.row) c.take_all.ensures.replies.0 c.take_all.ensures.place c.in-Ok.ensures.ok.1 c.in-Ok.ensures.together

pub returns-in-Err-clause-calls : goal.returns-in-Err-clause-calls
returns-in-Err-clause-calls g c =
    breaks_off (sight_of g.C.Client g.S.Source g.K.Sink) g.C.Client.HEADERS (first_of c.args.board.now) c.args.h c.args.port c.args.pass.now c.ask_all.new.pass c.calls.new.pass (acts c.ask_all.new.row) c.ask_all.ensures.pass.1 c.ask_all.ensures.acts
    c.calls.new.row c.in-Err.ensures.err
