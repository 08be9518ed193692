use Rattle.std.proofs.Common.{sym, subst}
use Rattle.script_lang.specs.LineByLine.{GoesOn, IsEnded}
use Rattle.script_lang.specs.PlayScripts.{PlayBefore, PlaySays, PlayComes, play_seen}
use Rattle.script_lang.specs.declared.play_saying.PlaySaid.{PlaySaid}
use Rattle.script_lang.specs.declared.script.ScriptError.{ScriptError}
use Rattle.script_lang.proofs.PlaySayings.{play-nothing, play-said_units, play-said_form, play-said_fault, form-placed}
use Rattle.script_lang.proofs.play_saying.read_play_line.Goals as goal

pub returns-in-Nothing-clause-more : goal.returns-in-Nothing-clause-more
returns-in-Nothing-clause-more c =
    let before = play_seen c.args.reading.now in
    play-nothing c.args.taken.script.now c.args.taken.log.now before c.args.number c.args.line.now
    (subst (λ (said : PlaySaid). PlaySays c.args.taken.script.now c.args.taken.log.now before c.args.line.now said) c.in-Nothing.is c.in_ok-play_says.ensures)

pub returns-in-Units-clause-more : goal.returns-in-Units-clause-more
returns-in-Units-clause-more c =
    let before = play_seen c.args.reading.now in
    play-said_units c.args.taken.script.now c.args.taken.log.now before c.args.number c.args.line.now c.in-Units.units
    (subst (λ (said : PlaySaid). PlaySays c.args.taken.script.now c.args.taken.log.now before c.args.line.now said) c.in-Units.is c.in_ok-play_says.ensures)

pub returns-in_ok-keep-in-Form-clause-more : goal.returns-in_ok-keep-in-Form-clause-more
returns-in_ok-keep-in-Form-clause-more c =
    let before = play_seen c.args.reading.now in
    subst (λ (next : PlayBefore). GoesOn (PlayComes c.args.taken.script.now c.args.taken.log.now) before c.args.number c.args.line.now next) (sym c.in_ok-keep-in-Form.ensures)
    (play-said_form c.args.taken.script.now c.args.taken.log.now before c.args.number c.args.line.now c.in-Form.form
    (subst (λ (said : PlaySaid). PlaySays c.args.taken.script.now c.args.taken.log.now before c.args.line.now said) c.in-Form.is c.in_ok-play_says.ensures))

pub returns-in-Fault-clause-ended : goal.returns-in-Fault-clause-ended
returns-in-Fault-clause-ended c =
    let before = play_seen c.args.reading.now in
    let says = subst (λ (said : PlaySaid). PlaySays c.args.taken.script.now c.args.taken.log.now before c.args.line.now said) c.in-Fault.is c.in_ok-play_says.ensures in
    subst (λ (error : ScriptError). IsEnded (PlayComes c.args.taken.script.now c.args.taken.log.now) before c.args.number c.args.line.now error) (sym c.fault.ensures)
    (play-said_fault c.args.taken.script.now c.args.taken.log.now before c.args.number c.args.line.now c.in-Fault.why says)

pub keep-requires : goal.keep-requires
keep-requires c =
    let before = play_seen c.args.reading.now in
    form-placed c.args.taken.script.now c.args.taken.log.now before c.args.line.now c.in-Form.form
    (subst (λ (said : PlaySaid). PlaySays c.args.taken.script.now c.args.taken.log.now before c.args.line.now said) c.in-Form.is c.in_ok-play_says.ensures)
