use Rattle.std.proofs.Common.{None, slice_get, slice_set, sym, ◌∙◌, ap}
use Rattle.std.proofs.lemmas.List.{with_items_is}
use Rattle.run_audit.proofs.Turns.{client_there, end_nothing, end_nowhere, end_other, end_same, many, object_gone, turn}
use Rattle.run_audit.proofs.replay.Replay.end.Goals as goal

pub player_of-requires : goal.player_of-requires
player_of-requires g c = many (turn c.args.self.now c.requires.stands c.parts-parts.ensures c.as_slice.ensures.value)

pub take_at-requires : goal.take_at-requires
take_at-requires g c = client_there (turn c.args.self.now c.requires.stands c.parts-parts.ensures c.as_slice.ensures.value) c.args.said.now c.args.name.now c.in-Some.player.place c.in-Some.player.handle c.in-Some.ensures.some c.as_mut_slice.result.now c.as_mut_slice.ensures.value

pub give_back-requires : goal.give_back-requires
give_back-requires g c = object_gone (turn c.args.self.now c.requires.stands c.parts-parts.ensures c.as_slice.ensures.value) c.args.said.now c.args.name.now c.in-Some.player.place c.in-Some.player.handle c.in-Some.ensures.some c.in-Some-take_at.client (ap (λ l. slice_get l c.in-Some.player.place) (sym c.as_mut_slice.ensures.value) ∙ c.in-Some-take_at.ensures.was)

pub returns-in_default : goal.returns-in_default
returns-in_default g c = end_nowhere (turn c.args.self.now c.requires.stands c.parts-parts.ensures c.as_slice.ensures.value) c.args.said.now c.args.name.now c.requires.line c.in_default.ensures.none

pub returns-in_default-take_at : goal.returns-in_default-take_at
returns-in_default-take_at g c =
    end_nothing (turn c.args.self.now c.requires.stands c.parts-parts.ensures c.as_slice.ensures.value) c.args.said.now c.args.name.now c.in-Some.player.place c.in-Some.player.handle c.in-Some.ensures.some c.requires.line _ (with_items_is (c.args.self.now).clients c.take_at.new.things (c.take_at.auto.things ∙ c.as_mut_slice.ensures.len) ∙ (c.take_at.ensures.left ∙ ap (λ l. slice_set l c.in-Some.player.place None) c.as_mut_slice.ensures.value)) (ap (λ l. slice_get l c.in-Some.player.place) (sym c.as_mut_slice.ensures.value) ∙ c.in_default-take_at.ensures.was)

pub returns-then-is_same_reply : goal.returns-then-is_same_reply
returns-then-is_same_reply g c =
    end_same (turn c.args.self.now c.requires.stands c.parts-parts.ensures c.as_slice.ensures.value) c.args.said.now c.args.name.now c.in-Some.player.place c.in-Some.player.handle c.in-Some.ensures.some c.give_back.new.served c.law_of_worlds-2.ensures.out c.requires.line _ (with_items_is (c.args.self.now).clients c.take_at.new.things (c.take_at.auto.things ∙ c.as_mut_slice.ensures.len) ∙ (c.take_at.ensures.left ∙ ap (λ l. slice_set l c.in-Some.player.place None) c.as_mut_slice.ensures.value)) c.in-Some-take_at.client
    (ap (λ l. slice_get l c.in-Some.player.place) (sym c.as_mut_slice.ensures.value) ∙ c.in-Some-take_at.ensures.was) c.give_back.ensures c.law_of_worlds.ensures.out (c.is_same_reply.ensures.yes c.if-is_same_reply.true)

pub returns-else-is_same_reply : goal.returns-else-is_same_reply
returns-else-is_same_reply g c =
    end_other (turn c.args.self.now c.requires.stands c.parts-parts.ensures c.as_slice.ensures.value) c.args.said.now c.args.name.now c.in-Some.player.place c.in-Some.player.handle c.in-Some.ensures.some c.give_back.new.served c.law_of_worlds-2.ensures.out c.requires.line _ (with_items_is (c.args.self.now).clients c.take_at.new.things (c.take_at.auto.things ∙ c.as_mut_slice.ensures.len) ∙ (c.take_at.ensures.left ∙ ap (λ l. slice_set l c.in-Some.player.place None) c.as_mut_slice.ensures.value)) c.in-Some-take_at.client
    (ap (λ l. slice_get l c.in-Some.player.place) (sym c.as_mut_slice.ensures.value) ∙ c.in-Some-take_at.ensures.was) c.give_back.ensures c.law_of_worlds.ensures.out (λ e. c.is_same_reply.ensures.no c.if-is_same_reply.false e)
