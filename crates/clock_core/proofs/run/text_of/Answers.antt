use Rattle.clock_core.specs.Script.{call_words}
use Rattle.clock_core.proofs.CallTexts.{call_text-is}
use Rattle.clock_core.proofs.run.text_of.Goals as goal

pub returns-clause-text : goal.returns-clause-text
returns-clause-text c =
    call_text-is c.args.number c.args.clock.now (call_words c.args.call) c.args.call c.call-answer.result _ _ c.noted.result.now c.new-text.result.items c.put_line.new.text.items c.put_notes.new.text.items
    c.call-answer.ensures.answer c.call-answer.ensures.notes c.new-text.ensures c.put_line.ensures.items c.noted.ensures c.put_notes.ensures
