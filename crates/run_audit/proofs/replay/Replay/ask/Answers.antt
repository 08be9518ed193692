use Rattle.run_audit.proofs.Asking.{quiet_is_said}
use Rattle.run_audit.proofs.Turns.{ask_other, ask_quiet, ask_same, ask_unknown, many, turn}
use Rattle.run_audit.proofs.replay.Replay.ask.Goals as goal

pub answer-answered-requires : goal.answer-answered-requires
answer-answered-requires g c = record {
  said = quiet_is_said (c.args.said.now).act c.requires.quiet;
  many = many (turn c.args.self.now c.requires.stands c.parts-parts.ensures c.as_slice-handles.ensures.value);
}

pub let_go-requires : goal.let_go-requires
let_go-requires g c =
    ask_quiet (turn c.args.self.now c.requires.stands c.parts-parts.ensures c.as_slice-handles.ensures.value) c.args.said.now c.requires.quiet c.answer-answered.new.served c.in-Same.reply c.in-Same.ensures.reply

pub let_go-requires-in-Other : goal.let_go-requires-in-Other
let_go-requires-in-Other g c =
    ask_quiet (turn c.args.self.now c.requires.stands c.parts-parts.ensures c.as_slice-handles.ensures.value) c.args.said.now c.requires.quiet c.answer-answered.new.served c.in-Other.reply c.in-Other.ensures.reply

pub returns-in-Unknown : goal.returns-in-Unknown
returns-in-Unknown g c =
    ask_unknown (turn c.args.self.now c.requires.stands c.parts-parts.ensures c.as_slice-handles.ensures.value) c.args.said.now c.requires.quiet c.answer-answered.new.served c.in-Unknown.ensures.unasked c.in-Unknown.ensures.unknown

pub returns-in-Same : goal.returns-in-Same
returns-in-Same g c =
    ask_same (turn c.args.self.now c.requires.stands c.parts-parts.ensures c.as_slice-handles.ensures.value) c.args.said.now c.requires.quiet c.answer-answered.new.served c.in-Same.reply c.in-Same.ensures.reply
    c.law_of_worlds-2.ensures.out c.in-Same.ensures.same

pub returns-in-Other : goal.returns-in-Other
returns-in-Other g c =
    ask_other (turn c.args.self.now c.requires.stands c.parts-parts.ensures c.as_slice-handles.ensures.value) c.args.said.now c.requires.quiet c.answer-answered.new.served c.in-Other.reply c.in-Other.ensures.reply
    c.law_of_worlds-2.ensures.out c.in-Other.ensures.other
