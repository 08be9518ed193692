use Rattle.std.proofs.Common.{◌≡◌, ℕ, Some, subst}
use Rattle.il_graph.specs.Shown.{KeepsFiles, file_of, offered}
use Rattle.play_graph.proofs.Building.{attached_so}
use Rattle.play_graph.proofs.Filed.{filing_number}
use Rattle.play_graph.proofs.filing.attach.Goals as goal

pub unreachable-requires : goal.unreachable-requires
unreachable-requires g c =
    let s = c.requires.stands in
    let z = (attached_so c.args.plan.now c.args.graph.now c.attach.new.self c.args.place (offered g.S.Source.offset g.S.Source.size g.S.Source.told g.K.Sink.told c.args.file) c.handle-h.result _ c.requires.there c.handle-h.ensures c.in-Err.ensures.step s.0 s.2 s.1).0 in
    absurd cc

pub returns-clause-goes : goal.returns-clause-goes
returns-clause-goes g c = λ files A O.
    (attached_so c.args.plan.now c.args.graph.now c.attach.new.self c.args.place (offered g.S.Source.offset g.S.Source.size g.S.Source.told g.K.Sink.told c.args.file) c.handle-h.result _ c.requires.there c.handle-h.ensures c.in-Ok.ensures.step files O A).1

pub returns-clause-file : goal.returns-clause-file
returns-clause-file g c =
    let s = c.requires.stands in
    subst (λ (n : ℕ). file_of n c.attach.new.self ≡ Some c.args.file) (filing_number c.args.plan.now s.0 c.args.place c.args.graph.now c.handle-h.result s.1 c.requires.there c.handle-h.ensures) c.in-Ok.ensures.file

pub returns-clause-files : goal.returns-clause-files
returns-clause-files g c =
    let s = c.requires.stands in
    subst (λ (n : ℕ). KeepsFiles n c.args.graph.now c.attach.new.self) (filing_number c.args.plan.now s.0 c.args.place c.args.graph.now c.handle-h.result s.1 c.requires.there c.handle-h.ensures) c.attach.ensures.files
