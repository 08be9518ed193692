use Rattle.std.proofs.Common.{sym, subst, arith}
use Rattle.load_gen.specs.Made.{HasReason}
use Rattle.load_gen.proofs.ThreeFiles.{partly-first, partly-second, partly-third, all-stand, all_made, reason-first, reason-second, reason-third, told-first, told-second, told-third}
use Rattle.load_gen.proofs.making.make.Goals as goal

pub returns-in-Err-clause-partly : goal.returns-in-Err-clause-partly
returns-in-Err-clause-partly g c =
    partly-first c.args.seed c.args.frames c.args.folder.now _ _ c.in-Err.refused (omega arith) c.in-Err.ensures

pub returns-in-Err-clause-reason : goal.returns-in-Err-clause-reason
returns-in-Err-clause-reason g c =
    subst (HasReason c.args.folder.now (g.M.Media.outside c.args.media.now) (g.M.Media.outside c.make_wav.new.media)) (sym c.fault_of.ensures)
    (reason-first c.args.folder.now _ _ _ c.in-Err.refused c.in-Err.ensures)

pub returns-in-Err-clause-unabsent : goal.returns-in-Err-clause-unabsent
returns-in-Err-clause-unabsent g c =
    told-first c.args.folder.now _ _ _ c.in-Err.refused _ c.fault_of.ensures c.in-Err.ensures

pub returns-in-Err-make_wav-clause-partly : goal.returns-in-Err-make_wav-clause-partly
returns-in-Err-make_wav-clause-partly g c =
    partly-second c.args.seed c.args.frames c.args.folder.now _ _ _ c.in-Ok.field-0 c.in-Err-make_wav.refused (omega arith) c.in-Ok.ensures c.in-Err-make_wav.ensures

pub returns-in-Err-make_wav-clause-reason : goal.returns-in-Err-make_wav-clause-reason
returns-in-Err-make_wav-clause-reason g c =
    subst (HasReason c.args.folder.now (g.M.Media.outside c.args.media.now) (g.M.Media.outside c.make_wav-2.new.media)) (sym c.fault_of-in-Err-make_wav.ensures)
    (reason-second c.args.folder.now _ _ _ _ _ c.in-Ok.field-0 c.in-Err-make_wav.refused c.in-Ok.ensures c.in-Err-make_wav.ensures)

pub returns-in-Err-make_wav-clause-unabsent : goal.returns-in-Err-make_wav-clause-unabsent
returns-in-Err-make_wav-clause-unabsent g c =
    told-second c.args.folder.now _ _ _ _ _ c.in-Ok.field-0 c.in-Err-make_wav.refused _ c.fault_of-in-Err-make_wav.ensures c.in-Ok.ensures c.in-Err-make_wav.ensures

pub returns-in-Ok-make_script-clause-made : goal.returns-in-Ok-make_script-clause-made
returns-in-Ok-make_script-clause-made g c =
    all_made c.args.seed c.args.frames c.args.folder.now _ _ _ _ c.in-Ok.field-0 c.in-Ok-make_wav.field-0 c.in-Ok-make_script.field-0 (omega arith) c.in-Ok.ensures c.in-Ok-make_wav.ensures c.in-Ok-make_script.ensures

pub returns-in-Ok-make_script-clause-unabsent : goal.returns-in-Ok-make_script-clause-unabsent
returns-in-Ok-make_script-clause-unabsent g c =
    all-stand c.args.folder.now _ _ _ _ _ _ _ c.in-Ok.field-0 c.in-Ok-make_wav.field-0 c.in-Ok-make_script.field-0 c.in-Ok.ensures c.in-Ok-make_wav.ensures c.in-Ok-make_script.ensures

pub returns-in-Err-make_script-clause-partly : goal.returns-in-Err-make_script-clause-partly
returns-in-Err-make_script-clause-partly g c =
    partly-third c.args.seed c.args.frames c.args.folder.now _ _ _ _ c.in-Ok.field-0 c.in-Ok-make_wav.field-0 c.in-Err-make_script.refused (omega arith) c.in-Ok.ensures c.in-Ok-make_wav.ensures c.in-Err-make_script.ensures

pub returns-in-Err-make_script-clause-reason : goal.returns-in-Err-make_script-clause-reason
returns-in-Err-make_script-clause-reason g c =
    subst (HasReason c.args.folder.now (g.M.Media.outside c.args.media.now) (g.M.Media.outside c.make_script.new.media)) (sym c.fault_of-in-Err-make_script.ensures)
    (reason-third c.args.folder.now _ _ _ _ _ _ _ c.in-Ok.field-0 c.in-Ok-make_wav.field-0 c.in-Err-make_script.refused c.in-Ok.ensures c.in-Ok-make_wav.ensures c.in-Err-make_script.ensures)

pub returns-in-Err-make_script-clause-unabsent : goal.returns-in-Err-make_script-clause-unabsent
returns-in-Err-make_script-clause-unabsent g c =
    told-third c.args.folder.now _ _ _ _ _ _ _ c.in-Ok.field-0 c.in-Ok-make_wav.field-0 c.in-Err-make_script.refused _ c.fault_of-in-Err-make_script.ensures c.in-Ok.ensures c.in-Ok-make_wav.ensures c.in-Err-make_script.ensures
