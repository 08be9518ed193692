use Rattle.std.proofs.Common.{None, slice_get, slice_set, sym, ◌∙◌, ap}
use Rattle.std.specs.Vec.{with_items}
use Rattle.std.proofs.lemmas.List.{with_items_is}
use Rattle.run_audit.specs.Seeing.{replay_sight}
use Rattle.run_audit.proofs.Brought.{knows_compared}
use Rattle.run_audit.proofs.Settled.{idle_work, idle_work_files, settled_work, settled_work_files, work_out}
use Rattle.run_audit.proofs.replay.Replay.settle_work.Goals as goal

pub returns-in_default-clause-stands : goal.returns-in_default-clause-stands
returns-in_default-clause-stands g c tells x w I =
    idle_work (replay_sight g.C.Client g.S.Source) c.args.self.now tells x w I (with_items (c.args.self.now).works c.take_at.new.things) c.args.place (with_items_is (c.args.self.now).works c.take_at.new.things (c.take_at.auto.things ∙ c.as_mut_slice.ensures.len) ∙ (c.take_at.ensures.left ∙ ap (λ l. slice_set l c.args.place None) c.as_mut_slice.ensures.value)) (ap (λ l. slice_get l c.args.place) (sym c.as_mut_slice.ensures.value) ∙ c.in_default.ensures.was)

pub returns-in_default-clause-files : goal.returns-in_default-clause-files
returns-in_default-clause-files g c =
    idle_work_files (replay_sight g.C.Client g.S.Source) c.args.self.now (with_items (c.args.self.now).works c.take_at.new.things) c.args.place (with_items_is (c.args.self.now).works c.take_at.new.things (c.take_at.auto.things ∙ c.as_mut_slice.ensures.len) ∙ (c.take_at.ensures.left ∙ ap (λ l. slice_set l c.args.place None) c.as_mut_slice.ensures.value)) (ap (λ l. slice_get l c.args.place) (sym c.as_mut_slice.ensures.value) ∙ c.in_default.ensures.was)

pub bring_back-back-requires : goal.bring_back-back-requires
bring_back-back-requires g c =
    work_out (replay_sight g.C.Client g.S.Source) c.args.self.now c.requires.stands.0 c.requires.stands.1 c.requires.stands.2 c.requires.stands.3 c.args.place c.in-Some.work (ap (λ l. slice_get l c.args.place) (sym c.as_mut_slice.ensures.value) ∙ c.in-Some.ensures.was)

pub returns-clause-stands : goal.returns-clause-stands
returns-clause-stands g c tells x w I =
    settled_work (replay_sight g.C.Client g.S.Source) c.args.self.now (knows_compared g.C.Client g.S.Source) c.bring_back-back.new.served (with_items (c.args.self.now).works c.take_at.new.things) c.args.place (with_items_is (c.args.self.now).works c.take_at.new.things (c.take_at.auto.things ∙ c.as_mut_slice.ensures.len) ∙ (c.take_at.ensures.left ∙ ap (λ l. slice_set l c.args.place None) c.as_mut_slice.ensures.value))
    c.in-Some.work (ap (λ l. slice_get l c.args.place) (sym c.as_mut_slice.ensures.value) ∙ c.in-Some.ensures.was) c.law_of_worlds-2.ensures.out c.law_of_worlds-2.ensures.written c.bring_back-back.result c.bring_back-back.ensures tells x w I

pub returns-clause-files : goal.returns-clause-files
returns-clause-files g c =
    settled_work_files (replay_sight g.C.Client g.S.Source) c.args.self.now (knows_compared g.C.Client g.S.Source) c.bring_back-back.new.served (with_items (c.args.self.now).works c.take_at.new.things) c.args.place (with_items_is (c.args.self.now).works c.take_at.new.things (c.take_at.auto.things ∙ c.as_mut_slice.ensures.len) ∙ (c.take_at.ensures.left ∙ ap (λ l. slice_set l c.args.place None) c.as_mut_slice.ensures.value))
    c.in-Some.work (ap (λ l. slice_get l c.args.place) (sym c.as_mut_slice.ensures.value) ∙ c.in-Some.ensures.was) c.law_of_worlds-2.ensures.out c.law_of_worlds-2.ensures.written c.bring_back-back.result c.bring_back-back.ensures c.requires.stands.0 c.requires.stands.1 c.requires.stands.2 c.requires.stands.3
