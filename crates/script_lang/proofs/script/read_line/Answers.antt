use Rattle.std.proofs.Common.{sym, subst, List}
use Rattle.script_lang.specs.LineByLine.{GoesOn, IsEnded}
use Rattle.script_lang.specs.Scripts.{Says, TraceComes, seen}
use Rattle.script_lang.specs.declared.form.TraceLine.{TraceLine}
use Rattle.script_lang.specs.declared.saying.Said.{Said}
use Rattle.script_lang.specs.declared.script.ScriptError.{ScriptError}
use Rattle.script_lang.proofs.Sayings.{said-nothing, said-units, said-act, said-fault}
use Rattle.script_lang.proofs.script.read_line.Goals as goal

pub returns-in-Nothing-clause-more : goal.returns-in-Nothing-clause-more
returns-in-Nothing-clause-more c =
    let before = seen c.args.reading.now in
    said-nothing before c.args.number c.args.line.now (subst (λ (said : Said). Says before c.args.line.now said) c.in-Nothing.is c.in_ok-says.ensures)

pub returns-in-Units-clause-more : goal.returns-in-Units-clause-more
returns-in-Units-clause-more c =
    let before = seen c.args.reading.now in
    said-units before c.args.number c.args.line.now c.in-Units.units (subst (λ (said : Said). Says before c.args.line.now said) c.in-Units.is c.in_ok-says.ensures)

pub returns-in_ok-keep-in-Act-clause-more : goal.returns-in_ok-keep-in-Act-clause-more
returns-in_ok-keep-in-Act-clause-more c =
    let before = seen c.args.reading.now in
    subst (λ (lines : List TraceLine). GoesOn TraceComes before c.args.number c.args.line.now (record { units = before.units; lines = lines })) (sym c.in_ok-keep-in-Act.ensures)
    (said-act before c.args.number c.args.line.now c.in-Act.form (subst (λ (said : Said). Says before c.args.line.now said) c.in-Act.is c.in_ok-says.ensures))

pub returns-in-Fault-clause-ended : goal.returns-in-Fault-clause-ended
returns-in-Fault-clause-ended c =
    let before = seen c.args.reading.now in
    let says = subst (λ (said : Said). Says before c.args.line.now said) c.in-Fault.is c.in_ok-says.ensures in
    subst (λ (error : ScriptError). IsEnded TraceComes before c.args.number c.args.line.now error) (sym c.fault.ensures) (said-fault before c.args.number c.args.line.now c.in-Fault.why says)
