use Rattle.std.proofs.Common.{List, map, refl, sym, subst}
use Rattle.il_machine.specs.Acts as acts
use Rattle.graph_acts.specs.Plain.{sight_of}
use Rattle.board.specs.Boards.{own_calls}
use Rattle.play_result_laws.specs.Asked.{sending}
use Rattle.work_signs.specs.declared.seat.Seat.{Seat}
use Rattle.conductor.specs.declared.phase.Phase.{Phase}
use Rattle.play_plan_laws.specs.Assemblies.{PlayFiles}
use Rattle.play_result_laws.specs.Rounds.{AreMade}
use Rattle.conducting_thread.specs.Asking.{AreAnswered}
use Rattle.work_signs.specs.Seats.{handles_of}
use Rattle.conducting_thread.proofs.Lists.{fused}
use Rattle.conducting_thread.proofs.conducting.make.Goals as goal

pub returns-in-Send-clause-answered : goal.returns-in-Send-clause-answered
returns-in-Send-clause-answered g c =
    let see = sight_of g.C.Client g.S.Source g.K.Sink in
    let old = own_calls c.args.book.now.pass in
    let new = own_calls c.send_all.new.book.pass in
    let handles = handles_of c.args.seats.now in
    let state = c.in-Send.state in
    subst (λ (phase : Phase). (files : PlayFiles) → (made : List (acts.Act × acts.Reply)) × AreMade c.args.plan.now files handles phase made × AreAnswered see old made c.send_all.result new) (sym c.in-Send.is) (λ files. (
      map (sending state) handles,
      refl,
      subst (λ (xs : List (acts.Act × acts.Reply)). AreAnswered see old xs c.send_all.result new) (sym (fused (sending state) (λ (seat : Seat). seat.handle) c.args.seats.now)) c.send_all.ensures.answered,
    ))

pub returns-in-Change-clause-answered : goal.returns-in-Change-clause-answered
returns-in-Change-clause-answered g c =
    let see = sight_of g.C.Client g.S.Source g.K.Sink in
    let old = own_calls c.args.book.now.pass in
    let new = own_calls c.change.new.book.pass in
    subst (λ (phase : Phase). (files : PlayFiles) → (made : List (acts.Act × acts.Reply)) × AreMade c.args.plan.now files (handles_of c.args.seats.now) phase made × AreAnswered see old made c.change.result new) (sym c.in-Change.is) c.change.ensures.answered
