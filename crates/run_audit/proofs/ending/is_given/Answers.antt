use Rattle.std.proofs.Common.{◌≡◌}
use Rattle.audio_parts.specs.declared.part_file.PartFile.TheVariants as files
use Rattle.run_audit.proofs.ending.is_given.Goals as goal

pub returns-in-Some-To-clause-yes : goal.returns-in-Some-To-clause-yes
returns-in-Some-To-clause-yes g c = λ e.
    (let f : c.in-Some-To.field-0 ≡ files.To c.in-Some-To.snk c.in-Some-To.field-0-1 = rw c.in-Some-To.is at c.in-Some-To.field-0-is in
    rw (c.in-Some-To.is, f) (c.is_whole.ensures.whole e))

pub returns-in-Some-To-clause-no : goal.returns-in-Some-To-clause-no
returns-in-Some-To-clause-no g c = λ e.
    (let f : c.in-Some-To.field-0 ≡ files.To c.in-Some-To.snk c.in-Some-To.field-0-1 = rw c.in-Some-To.is at c.in-Some-To.field-0-is in
    rw (c.in-Some-To.is, f) (c.is_whole.ensures.other e))

pub returns-in-Some-From-clause-yes : goal.returns-in-Some-From-clause-yes
returns-in-Some-From-clause-yes g c = λ e.
    (let f : c.in-Some-From.field-0 ≡ files.From c.in-Some-From.field-0-0 c.in-Some-From.field-0-1 c.in-Some-From.field-0-2 = rw c.in-Some-From.is at c.in-Some-From.field-0-is in
    rw (c.in-Some-From.is, f) tt)

pub returns-in-None-clause-yes : goal.returns-in-None-clause-yes
returns-in-None-clause-yes g c = λ e. rw c.in-None.is tt

pub returns-in-Some-To-clause-gives : goal.returns-in-Some-To-clause-gives
returns-in-Some-To-clause-gives g c = λ e.
    (let f : c.in-Some-To.field-0 ≡ files.To c.in-Some-To.snk c.in-Some-To.field-0-1 = rw c.in-Some-To.is at c.in-Some-To.field-0-is in
    rw (c.in-Some-To.is, f) (c.is_whole.ensures.given e))

pub returns-in-Some-From-clause-gives : goal.returns-in-Some-From-clause-gives
returns-in-Some-From-clause-gives g c = λ e.
    (let f : c.in-Some-From.field-0 ≡ files.From c.in-Some-From.field-0-0 c.in-Some-From.field-0-1 c.in-Some-From.field-0-2 = rw c.in-Some-From.is at c.in-Some-From.field-0-is in
    rw (c.in-Some-From.is, f) tt)

pub returns-in-None-clause-gives : goal.returns-in-None-clause-gives
returns-in-None-clause-gives g c = λ e. rw c.in-None.is tt
