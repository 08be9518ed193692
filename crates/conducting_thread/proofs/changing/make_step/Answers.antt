use Rattle.std.proofs.Common.{List, [], ◌∷◌, All, map, sym, subst}
use Rattle.conductor.specs.declared.phase.ChangeStep.{ChangeStep}
use Rattle.graph_acts.specs.Plain.{sight_of}
use Rattle.board.specs.Boards.{own_calls}
use Rattle.pass_book.specs.declared.quiet.QuietAct.{QuietAct}
use Rattle.pass_book.specs.declared.quiet.QuietAct.TheVariants.{DropTunnel, SetupTunnel}
use Rattle.conducting_thread.specs.Asking.{AreAnswered, IsRequestOf, due}
use Rattle.conducting_thread.specs.Changing.{change_acts}
use Rattle.conducting_thread.proofs.changing.make_step.Goals as goal

pub ask_all-requires-clause-requests : goal.ask_all-requires-clause-requests
ask_all-requires-clause-requests g c =
    subst (All (IsRequestOf c.args.seats.now)) (λ i. sym c.disabling.ensures i ∷ sym c.disabling-in-Disable.ensures i ∷ [])
    (subst (λ (step : ChangeStep). All (IsRequestOf c.args.seats.now) (change_acts c.args.ends step)) c.in-Disable.is c.requires.requests)

pub returns-in-Disable-clause-answered : goal.returns-in-Disable-clause-answered
returns-in-Disable-clause-answered g c =
    let see = sight_of g.C.Client g.S.Source g.K.Sink in
    let old = own_calls c.args.book.now.pass in
    let new = own_calls c.ask_all.new.book.pass in
    subst (λ (step : ChangeStep). AreAnswered see old (map due (change_acts c.args.ends step)) c.ask_all.result new) (sym c.in-Disable.is)
    (subst (λ (xs : List QuietAct). AreAnswered see old (map due xs) c.ask_all.result new) (λ i. c.disabling.ensures i ∷ c.disabling-in-Disable.ensures i ∷ []) c.ask_all.ensures.answered)

pub ask_all-requires-in-Retune-clause-requests : goal.ask_all-requires-in-Retune-clause-requests
ask_all-requires-in-Retune-clause-requests g c =
    subst (All (IsRequestOf c.args.seats.now)) (λ i. DropTunnel c.args.ends.output c.args.ends.input ∷ sym c.setting.ensures i ∷ sym c.setting-in-Retune.ensures i ∷ SetupTunnel c.args.ends.output c.args.ends.input ∷ [])
    (subst (λ (step : ChangeStep). All (IsRequestOf c.args.seats.now) (change_acts c.args.ends step)) c.in-Retune.is c.requires.requests)

pub returns-in-Retune-clause-answered : goal.returns-in-Retune-clause-answered
returns-in-Retune-clause-answered g c =
    let see = sight_of g.C.Client g.S.Source g.K.Sink in
    let old = own_calls c.args.book.now.pass in
    let new = own_calls c.ask_all-in-Retune.new.book.pass in
    subst (λ (step : ChangeStep). AreAnswered see old (map due (change_acts c.args.ends step)) c.ask_all-in-Retune.result new) (sym c.in-Retune.is)
    (subst (λ (xs : List QuietAct). AreAnswered see old (map due xs) c.ask_all-in-Retune.result new) (λ i. DropTunnel c.args.ends.output c.args.ends.input ∷ c.setting.ensures i ∷ c.setting-in-Retune.ensures i ∷ SetupTunnel c.args.ends.output c.args.ends.input ∷ []) c.ask_all-in-Retune.ensures.answered)

pub ask_all-requires-in-Enable-clause-requests : goal.ask_all-requires-in-Enable-clause-requests
ask_all-requires-in-Enable-clause-requests g c =
    subst (All (IsRequestOf c.args.seats.now)) (λ i. sym c.enabling.ensures i ∷ sym c.enabling-in-Enable.ensures i ∷ [])
    (subst (λ (step : ChangeStep). All (IsRequestOf c.args.seats.now) (change_acts c.args.ends step)) c.in-Enable.is c.requires.requests)

pub returns-in-Enable-clause-answered : goal.returns-in-Enable-clause-answered
returns-in-Enable-clause-answered g c =
    let see = sight_of g.C.Client g.S.Source g.K.Sink in
    let old = own_calls c.args.book.now.pass in
    let new = own_calls c.ask_all-in-Enable.new.book.pass in
    subst (λ (step : ChangeStep). AreAnswered see old (map due (change_acts c.args.ends step)) c.ask_all-in-Enable.result new) (sym c.in-Enable.is)
    (subst (λ (xs : List QuietAct). AreAnswered see old (map due xs) c.ask_all-in-Enable.result new) (λ i. c.enabling.ensures i ∷ c.enabling-in-Enable.ensures i ∷ []) c.ask_all-in-Enable.ensures.answered)
