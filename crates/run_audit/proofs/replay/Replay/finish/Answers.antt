use Rattle.std.proofs.Common.{None, slice_get, slice_set, sym, ◌∙◌, ap}
use Rattle.std.proofs.lemmas.List.{with_items_is}
use Rattle.run_audit.proofs.Brought.{knows_compared}
use Rattle.run_audit.proofs.Turns.{finish_differs, finish_failed, finish_nothing, finish_nowhere, finish_other, finish_same, many, turn, work_out, work_there}
use Rattle.run_audit.proofs.replay.Replay.finish.Goals as goal

pub player_of-requires : goal.player_of-requires
player_of-requires g c = many (turn c.args.self.now c.requires.stands c.parts-parts.ensures c.as_slice.ensures.value)

pub take_at-requires : goal.take_at-requires
take_at-requires g c = work_there (turn c.args.self.now c.requires.stands c.parts-parts.ensures c.as_slice.ensures.value) c.args.said.now c.args.name.now c.in-Some.player.place c.in-Some.player.handle c.in-Some.ensures.some c.as_mut_slice.result.now c.as_mut_slice.ensures.value

pub bring_back-back-requires : goal.bring_back-back-requires
bring_back-back-requires g c = work_out (turn c.args.self.now c.requires.stands c.parts-parts.ensures c.as_slice.ensures.value) c.args.said.now c.args.name.now c.in-Some.player.place c.in-Some.player.handle c.in-Some.ensures.some c.in-Some-take_at.work (ap (λ l. slice_get l c.in-Some.player.place) (sym c.as_mut_slice.ensures.value) ∙ c.in-Some-take_at.ensures.was)

pub returns-in_default : goal.returns-in_default
returns-in_default g c = finish_nowhere (turn c.args.self.now c.requires.stands c.parts-parts.ensures c.as_slice.ensures.value) c.args.said.now c.args.name.now c.requires.line c.in_default.ensures.none

pub returns-in_default-take_at : goal.returns-in_default-take_at
returns-in_default-take_at g c =
    finish_nothing (turn c.args.self.now c.requires.stands c.parts-parts.ensures c.as_slice.ensures.value) c.args.said.now c.args.name.now c.in-Some.player.place c.in-Some.player.handle c.in-Some.ensures.some c.requires.line _ (with_items_is (c.args.self.now).works c.take_at.new.things (c.take_at.auto.things ∙ c.as_mut_slice.ensures.len) ∙ (c.take_at.ensures.left ∙ ap (λ l. slice_set l c.in-Some.player.place None) c.as_mut_slice.ensures.value)) (ap (λ l. slice_get l c.in-Some.player.place) (sym c.as_mut_slice.ensures.value) ∙ c.in_default-take_at.ensures.was)

pub returns-in-Same : goal.returns-in-Same
returns-in-Same g c =
    finish_same (turn c.args.self.now c.requires.stands c.parts-parts.ensures c.as_slice.ensures.value) c.args.said.now c.args.name.now c.in-Some.player.place c.in-Some.player.handle c.in-Some.ensures.some c.bring_back-back.new.served c.law_of_worlds-2.ensures.out c.requires.line _ (with_items_is (c.args.self.now).works c.take_at.new.things (c.take_at.auto.things ∙ c.as_mut_slice.ensures.len) ∙ (c.take_at.ensures.left ∙ ap (λ l. slice_set l c.in-Some.player.place None) c.as_mut_slice.ensures.value)) c.in-Some-take_at.work
    (ap (λ l. slice_get l c.in-Some.player.place) (sym c.as_mut_slice.ensures.value) ∙ c.in-Some-take_at.ensures.was) (knows_compared g.C.Client g.S.Source) c.law_of_worlds-2.ensures.written c.in-Same.ensures

pub returns-in-OtherFile : goal.returns-in-OtherFile
returns-in-OtherFile g c =
    finish_differs (turn c.args.self.now c.requires.stands c.parts-parts.ensures c.as_slice.ensures.value) c.args.said.now c.args.name.now c.in-Some.player.place c.in-Some.player.handle c.in-Some.ensures.some c.bring_back-back.new.served c.law_of_worlds-2.ensures.out c.requires.line _ (with_items_is (c.args.self.now).works c.take_at.new.things (c.take_at.auto.things ∙ c.as_mut_slice.ensures.len) ∙ (c.take_at.ensures.left ∙ ap (λ l. slice_set l c.in-Some.player.place None) c.as_mut_slice.ensures.value)) c.in-Some-take_at.work
    (ap (λ l. slice_get l c.in-Some.player.place) (sym c.as_mut_slice.ensures.value) ∙ c.in-Some-take_at.ensures.was) (knows_compared g.C.Client g.S.Source) c.law_of_worlds-2.ensures.written c.in-OtherFile.ensures

pub returns-in-Other : goal.returns-in-Other
returns-in-Other g c =
    finish_other (turn c.args.self.now c.requires.stands c.parts-parts.ensures c.as_slice.ensures.value) c.args.said.now c.args.name.now c.in-Some.player.place c.in-Some.player.handle c.in-Some.ensures.some c.bring_back-back.new.served c.law_of_worlds-2.ensures.out c.requires.line _ (with_items_is (c.args.self.now).works c.take_at.new.things (c.take_at.auto.things ∙ c.as_mut_slice.ensures.len) ∙ (c.take_at.ensures.left ∙ ap (λ l. slice_set l c.in-Some.player.place None) c.as_mut_slice.ensures.value)) c.in-Some-take_at.work
    (ap (λ l. slice_get l c.in-Some.player.place) (sym c.as_mut_slice.ensures.value) ∙ c.in-Some-take_at.ensures.was) (knows_compared g.C.Client g.S.Source) c.law_of_worlds-2.ensures.written c.in-Other.ensures

pub returns-in-Failed : goal.returns-in-Failed
returns-in-Failed g c =
    finish_failed (turn c.args.self.now c.requires.stands c.parts-parts.ensures c.as_slice.ensures.value) c.args.said.now c.args.name.now c.in-Some.player.place c.in-Some.player.handle c.in-Some.ensures.some c.bring_back-back.new.served c.law_of_worlds-2.ensures.out c.requires.line _ (with_items_is (c.args.self.now).works c.take_at.new.things (c.take_at.auto.things ∙ c.as_mut_slice.ensures.len) ∙ (c.take_at.ensures.left ∙ ap (λ l. slice_set l c.in-Some.player.place None) c.as_mut_slice.ensures.value)) c.in-Some-take_at.work
    (ap (λ l. slice_get l c.in-Some.player.place) (sym c.as_mut_slice.ensures.value) ∙ c.in-Some-take_at.ensures.was) (knows_compared g.C.Client g.S.Source) c.law_of_worlds-2.ensures.written c.in-Failed.fault c.in-Failed.ensures
