use Rattle.std.proofs.Common.{inl, sym, ◌∙◌, ap, subst}
use Rattle.std.proofs.lemmas.List.{with_items_is}
use Rattle.audit_acts.specs.Asking.{IsSaid}
use Rattle.run_audit.specs.Keeping.{with_thing, work_in}
use Rattle.run_audit.proofs.Turns.{claim_is, claim_nowhere, claim_other, claim_room, claim_same, claim_unknown, many, turn, work_there}
use Rattle.run_audit.proofs.replay.Replay.claim.Goals as goal

pub player_of-requires : goal.player_of-requires
player_of-requires g c = many (turn c.args.self.now c.requires.stands c.parts-parts.ensures c.as_slice-handles.ensures.value)

pub answer-answered-requires : goal.answer-answered-requires
answer-answered-requires g c = record {
  said = subst IsSaid (sym c.requires.line) (inl tt);
  many = many (turn c.args.self.now c.requires.stands c.parts-parts.ensures c.as_slice-handles.ensures.value);
}

pub returns-in_default : goal.returns-in_default
returns-in_default g c = claim_nowhere (turn c.args.self.now c.requires.stands c.parts-parts.ensures c.as_slice-handles.ensures.value) c.args.said.now c.args.name.now c.requires.line c.in_default.ensures.none

pub returns-in-Unknown : goal.returns-in-Unknown
returns-in-Unknown g c =
    claim_unknown (turn c.args.self.now c.requires.stands c.parts-parts.ensures c.as_slice-handles.ensures.value) c.args.said.now c.args.name.now c.requires.line c.answer-answered.new.served c.in-Unknown.ensures.unasked c.in-Unknown.ensures.unknown

pub keep_work-requires : goal.keep_work-requires
keep_work-requires g c = record {
  claim = claim_is (turn c.args.self.now c.requires.stands c.parts-parts.ensures c.as_slice-handles.ensures.value) c.args.said.now c.args.name.now c.in-Some.player.place c.in-Some.player.handle c.in-Some.ensures.some c.answer-answered.new.served c.law_of_worlds-2.ensures.out c.in-Same.reply c.in-Same.ensures.reply c.requires.line;
  there = work_there (turn c.args.self.now c.requires.stands c.parts-parts.ensures c.as_slice-handles.ensures.value) c.args.said.now c.args.name.now c.in-Some.player.place c.in-Some.player.handle c.in-Some.ensures.some c.as_mut_slice.result.now c.as_mut_slice.ensures.value;
  free = claim_room (turn c.args.self.now c.requires.stands c.parts-parts.ensures c.as_slice-handles.ensures.value) c.args.said.now c.args.name.now c.in-Some.player.place c.in-Some.player.handle c.in-Some.ensures.some c.answer-answered.new.served c.law_of_worlds-2.ensures.out c.in-Same.reply c.in-Same.ensures.reply c.requires.line c.as_mut_slice.result.now c.as_mut_slice.ensures.value;
}

pub returns-in-Same : goal.returns-in-Same
returns-in-Same g c =
    claim_same (turn c.args.self.now c.requires.stands c.parts-parts.ensures c.as_slice-handles.ensures.value) c.args.said.now c.args.name.now c.in-Some.player.place c.in-Some.player.handle c.in-Some.ensures.some c.answer-answered.new.served c.law_of_worlds-2.ensures.out c.in-Same.reply c.in-Same.ensures.reply c.requires.line
    _ (with_items_is (c.args.self.now).works c.keep_work.new.works (c.keep_work.auto.works ∙ c.as_mut_slice.ensures.len) ∙ (c.keep_work.ensures ∙ ap (with_thing c.in-Some.player.place (work_in c.in-Same.reply)) c.as_mut_slice.ensures.value)) c.in-Same.ensures.same

pub keep_work-requires-in-Other : goal.keep_work-requires-in-Other
keep_work-requires-in-Other g c = record {
  claim = claim_is (turn c.args.self.now c.requires.stands c.parts-parts.ensures c.as_slice-handles.ensures.value) c.args.said.now c.args.name.now c.in-Some.player.place c.in-Some.player.handle c.in-Some.ensures.some c.answer-answered.new.served c.law_of_worlds-2.ensures.out c.in-Other.reply c.in-Other.ensures.reply c.requires.line;
  there = work_there (turn c.args.self.now c.requires.stands c.parts-parts.ensures c.as_slice-handles.ensures.value) c.args.said.now c.args.name.now c.in-Some.player.place c.in-Some.player.handle c.in-Some.ensures.some c.as_mut_slice-in-Other.result.now c.as_mut_slice-in-Other.ensures.value;
  free = claim_room (turn c.args.self.now c.requires.stands c.parts-parts.ensures c.as_slice-handles.ensures.value) c.args.said.now c.args.name.now c.in-Some.player.place c.in-Some.player.handle c.in-Some.ensures.some c.answer-answered.new.served c.law_of_worlds-2.ensures.out c.in-Other.reply c.in-Other.ensures.reply c.requires.line c.as_mut_slice-in-Other.result.now c.as_mut_slice-in-Other.ensures.value;
}

pub returns-in-Other : goal.returns-in-Other
returns-in-Other g c =
    claim_other (turn c.args.self.now c.requires.stands c.parts-parts.ensures c.as_slice-handles.ensures.value) c.args.said.now c.args.name.now c.in-Some.player.place c.in-Some.player.handle c.in-Some.ensures.some c.answer-answered.new.served c.law_of_worlds-2.ensures.out c.in-Other.reply c.in-Other.ensures.reply c.requires.line
    _ (with_items_is (c.args.self.now).works c.keep_work-in-Other.new.works (c.keep_work-in-Other.auto.works ∙ c.as_mut_slice-in-Other.ensures.len) ∙ (c.keep_work-in-Other.ensures ∙ ap (with_thing c.in-Some.player.place (work_in c.in-Other.reply)) c.as_mut_slice-in-Other.ensures.value)) c.in-Other.ensures.other
