use Rattle.std.proofs.Common.{◌∙◌}
use Rattle.play_model.specs.Acts.{Act}
use Rattle.play_loop.specs.Turns.{IsOfLink}
use Rattle.audio_parts.specs.ObjectLaws.{object_itself}
use Rattle.audio_parts.specs.Objects.{ObjectStays}
use Rattle.play_turn_laws.specs.Turns.{IsAct}
use Rattle.play_run.proofs.Answering.{files_stay, leads_of, turned_of}
use Rattle.play_run.proofs.Rounding.{some_next, whole_turn}
use Rattle.play_run.proofs.player.PlayingTakeTurns.link_turn.Goals as goal

pub release-released-requires-clause-plays : goal.release-released-requires-clause-plays
release-released-requires-clause-plays g c = some_next c.args.self.now c.supply-supplied.new.self c.supply-supplied.result (IsAct (Act.Supply c.args.link)) c.supply-supplied.ensures.turned c.requires.plays

pub hand_over-over-requires-clause-plays : goal.hand_over-over-requires-clause-plays
hand_over-over-requires-clause-plays g c =
    let some = some_next c.args.self.now c.supply-supplied.new.self c.supply-supplied.result (IsAct (Act.Supply c.args.link)) c.supply-supplied.ensures.turned c.requires.plays in
    some_next c.supply-supplied.new.self c.release-released.new.self c.release-released.result (IsAct (Act.Release c.args.link)) c.release-released.ensures.turned some

pub hand_back-back-requires-clause-plays : goal.hand_back-back-requires-clause-plays
hand_back-back-requires-clause-plays g c =
    let some = some_next c.args.self.now c.supply-supplied.new.self c.supply-supplied.result (IsAct (Act.Supply c.args.link)) c.supply-supplied.ensures.turned c.requires.plays in
    let more = some_next c.supply-supplied.new.self c.release-released.new.self c.release-released.result (IsAct (Act.Release c.args.link)) c.release-released.ensures.turned some in
    some_next c.release-released.new.self c.hand_over-over.new.self c.hand_over-over.result (IsAct (Act.HandOver c.args.link)) c.hand_over-over.ensures.turned more

pub returns-clause-turned : goal.returns-clause-turned
returns-clause-turned g c =
    let x = c.args.self.now in
    let k = c.hand_back-back in
    turned_of x k.new.self _ (IsOfLink c.args.link) (whole_turn x c.supply-supplied.new.self c.release-released.new.self c.hand_over-over.new.self k.new.self c.args.link c.supply-supplied.result c.release-released.result c.hand_over-over.result k.result
    c.supply-supplied.ensures.plan c.release-released.ensures.plan c.hand_over-over.ensures.plan c.supply-supplied.ensures.turned c.release-released.ensures.turned c.hand_over-over.ensures.turned k.ensures.turned)

pub returns-clause-leads : goal.returns-clause-leads
returns-clause-leads g c =
    let x = c.args.self.now in
    let k = c.hand_back-back in
    leads_of (ObjectStays g.S.Source.name g.S.Source.size g.S.Source.told g.S.Source.ends g.S.Source.offset g.S.Source.faults g.K.Sink.name g.K.Sink.faults) x k.new.self _ (IsOfLink c.args.link) (k.ensures.plan ∙ (c.hand_over-over.ensures.plan ∙ (c.release-released.ensures.plan ∙ c.supply-supplied.ensures.plan)))
    (files_stay (ObjectStays g.S.Source.name g.S.Source.size g.S.Source.told g.S.Source.ends g.S.Source.offset g.S.Source.faults g.K.Sink.name g.K.Sink.faults) (object_itself g.S.Source.name g.S.Source.size g.S.Source.told g.S.Source.ends g.S.Source.offset g.S.Source.faults g.K.Sink.name g.K.Sink.faults) x k.new.self (λ n. k.ensures.files n ∙ (c.hand_over-over.ensures.files n ∙ (c.release-released.ensures.files n ∙ c.supply-supplied.ensures.files n))))
    (whole_turn x c.supply-supplied.new.self c.release-released.new.self c.hand_over-over.new.self k.new.self c.args.link c.supply-supplied.result c.release-released.result c.hand_over-over.result k.result
    c.supply-supplied.ensures.plan c.release-released.ensures.plan c.hand_over-over.ensures.plan c.supply-supplied.ensures.turned c.release-released.ensures.turned c.hand_over-over.ensures.turned k.ensures.turned)
