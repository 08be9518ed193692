use Rattle.std.proofs.Common.{inl, sym, ◌∙◌, subst}
use Rattle.std.proofs.lemmas.List.{with_items_is}
use Rattle.audit_acts.specs.Asking.{IsSaid}
use Rattle.run_audit.specs.Keeping.{PutsClient}
use Rattle.run_audit.proofs.Turns.{client_there, many, take_event, take_is, take_nowhere, take_other, take_room, take_same, take_unknown, turn}
use Rattle.run_audit.proofs.replay.Replay.take.Goals as goal

pub player_of-requires : goal.player_of-requires
player_of-requires g c = many (turn c.args.self.now c.requires.stands c.parts-parts.ensures c.as_slice-handles.ensures.value)

pub answer-answered-requires : goal.answer-answered-requires
answer-answered-requires g c = record {
  said = subst IsSaid (sym c.requires.line) (inl tt);
  many = many (turn c.args.self.now c.requires.stands c.parts-parts.ensures c.as_slice-handles.ensures.value);
}

pub returns-in_default : goal.returns-in_default
returns-in_default g c = take_nowhere (turn c.args.self.now c.requires.stands c.parts-parts.ensures c.as_slice-handles.ensures.value) c.args.said.now c.args.name.now c.requires.line c.in_default.ensures.none

pub returns-in-Unknown : goal.returns-in-Unknown
returns-in-Unknown g c =
    take_unknown (turn c.args.self.now c.requires.stands c.parts-parts.ensures c.as_slice-handles.ensures.value) c.args.said.now c.args.name.now c.requires.line c.answer-answered.new.served c.in-Unknown.ensures.unasked c.in-Unknown.ensures.unknown

pub keep_client-requires : goal.keep_client-requires
keep_client-requires g c = record {
  take = take_is (turn c.args.self.now c.requires.stands c.parts-parts.ensures c.as_slice-handles.ensures.value) c.args.said.now c.args.name.now c.in-Some.player.place c.in-Some.player.handle c.in-Some.ensures.some c.answer-answered.new.served c.law_of_worlds-2.ensures.out c.in-Same.reply c.in-Same.ensures.reply c.requires.line;
  event = take_event (turn c.args.self.now c.requires.stands c.parts-parts.ensures c.as_slice-handles.ensures.value) c.args.said.now c.args.name.now c.in-Some.player.place c.in-Some.player.handle c.in-Some.ensures.some c.answer-answered.new.served c.law_of_worlds-2.ensures.out c.in-Same.reply c.in-Same.ensures.reply c.requires.line;
  there = client_there (turn c.args.self.now c.requires.stands c.parts-parts.ensures c.as_slice-handles.ensures.value) c.args.said.now c.args.name.now c.in-Some.player.place c.in-Some.player.handle c.in-Some.ensures.some c.as_mut_slice.result.now c.as_mut_slice.ensures.value;
  free = take_room (turn c.args.self.now c.requires.stands c.parts-parts.ensures c.as_slice-handles.ensures.value) c.args.said.now c.args.name.now c.in-Some.player.place c.in-Some.player.handle c.in-Some.ensures.some c.answer-answered.new.served c.law_of_worlds-2.ensures.out c.in-Same.reply c.in-Same.ensures.reply c.requires.line c.as_mut_slice.result.now c.as_mut_slice.ensures.value;
}

pub returns-in-Same : goal.returns-in-Same
returns-in-Same g c =
    take_same (turn c.args.self.now c.requires.stands c.parts-parts.ensures c.as_slice-handles.ensures.value) c.args.said.now c.args.name.now c.in-Some.player.place c.in-Some.player.handle c.in-Some.ensures.some c.answer-answered.new.served c.law_of_worlds-2.ensures.out c.in-Same.reply c.in-Same.ensures.reply c.requires.line
    _ (subst (λ l. PutsClient g.C.Client.progress c.in-Some.player.place c.args.self.now.clients.items l c.in-Same.reply) (sym (with_items_is (c.args.self.now).clients c.keep_client.new.clients (c.keep_client.auto.clients ∙ c.as_mut_slice.ensures.len))) (subst (λ l. PutsClient g.C.Client.progress c.in-Some.player.place l c.keep_client.new.clients c.in-Same.reply) c.as_mut_slice.ensures.value c.keep_client.ensures)) c.in-Same.ensures.same

pub keep_client-requires-in-Other : goal.keep_client-requires-in-Other
keep_client-requires-in-Other g c = record {
  take = take_is (turn c.args.self.now c.requires.stands c.parts-parts.ensures c.as_slice-handles.ensures.value) c.args.said.now c.args.name.now c.in-Some.player.place c.in-Some.player.handle c.in-Some.ensures.some c.answer-answered.new.served c.law_of_worlds-2.ensures.out c.in-Other.reply c.in-Other.ensures.reply c.requires.line;
  event = take_event (turn c.args.self.now c.requires.stands c.parts-parts.ensures c.as_slice-handles.ensures.value) c.args.said.now c.args.name.now c.in-Some.player.place c.in-Some.player.handle c.in-Some.ensures.some c.answer-answered.new.served c.law_of_worlds-2.ensures.out c.in-Other.reply c.in-Other.ensures.reply c.requires.line;
  there = client_there (turn c.args.self.now c.requires.stands c.parts-parts.ensures c.as_slice-handles.ensures.value) c.args.said.now c.args.name.now c.in-Some.player.place c.in-Some.player.handle c.in-Some.ensures.some c.as_mut_slice-in-Other.result.now c.as_mut_slice-in-Other.ensures.value;
  free = take_room (turn c.args.self.now c.requires.stands c.parts-parts.ensures c.as_slice-handles.ensures.value) c.args.said.now c.args.name.now c.in-Some.player.place c.in-Some.player.handle c.in-Some.ensures.some c.answer-answered.new.served c.law_of_worlds-2.ensures.out c.in-Other.reply c.in-Other.ensures.reply c.requires.line c.as_mut_slice-in-Other.result.now c.as_mut_slice-in-Other.ensures.value;
}

pub returns-in-Other : goal.returns-in-Other
returns-in-Other g c =
    take_other (turn c.args.self.now c.requires.stands c.parts-parts.ensures c.as_slice-handles.ensures.value) c.args.said.now c.args.name.now c.in-Some.player.place c.in-Some.player.handle c.in-Some.ensures.some c.answer-answered.new.served c.law_of_worlds-2.ensures.out c.in-Other.reply c.in-Other.ensures.reply c.requires.line
    _ (subst (λ l. PutsClient g.C.Client.progress c.in-Some.player.place c.args.self.now.clients.items l c.in-Other.reply) (sym (with_items_is (c.args.self.now).clients c.keep_client-in-Other.new.clients (c.keep_client-in-Other.auto.clients ∙ c.as_mut_slice-in-Other.ensures.len))) (subst (λ l. PutsClient g.C.Client.progress c.in-Some.player.place l c.keep_client-in-Other.new.clients c.in-Other.reply) c.as_mut_slice-in-Other.ensures.value c.keep_client-in-Other.ensures)) c.in-Other.ensures.other
