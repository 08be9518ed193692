use Rattle.std.proofs.Common.{[], sym, subst}
use Rattle.header_core.specs.BufferHeader.{BufferHeader}
use Rattle.il_machine.specs.World.{Component}
use Rattle.il_component.specs.Entries.{component_of}
use Rattle.work_landing.specs.Returning.{GetsNotes, HasNotePlaces, landing_by, noted_by, noticed_by, settled, told_by, with_notes}
use Rattle.work_landing.proofs.Room.{places_after}
use Rattle.work_landing.proofs.Telling.{gets_then}
use Rattle.work_landing.proofs.landing.bring_back.Goals as goal

pub land-requires-clause-places : goal.land-requires-clause-places
land-requires-clause-places g c =
    let b = c.args.back in
    let old = component_of c.args.component.now in
    let told = told_by c.args.handle b c.args.header.held.mark in
    let then = settled c.args.handle c.args.mark b c.args.header in
    subst (λ (k : Component). HasNotePlaces k (noted_by (landing_by b) b.input c.settle.new.header)) (sym c.tell_mark.ensures.component)
    (subst (λ (h : BufferHeader). HasNotePlaces (with_notes told old) (noted_by (landing_by b) b.input h)) (sym c.settle.ensures)
    (places_after old told (noted_by (landing_by b) b.input then) c.requires.places))

pub returns-clause-notes : goal.returns-clause-notes
returns-clause-notes g c =
    let b = c.args.back in
    let told = told_by c.args.handle b c.args.header.held.mark in
    let then = settled c.args.handle c.args.mark b c.args.header in
    gets_then c.args.component.now c.tell_mark.new.component c.land.new.component told (noted_by (landing_by b) b.input then) [] (noticed_by (landing_by b) then) c.tell_mark.ensures
    (subst (λ (h : BufferHeader). GetsNotes c.tell_mark.new.component c.land.new.component (noted_by (landing_by b) b.input h) (noticed_by (landing_by b) h)) c.settle.ensures c.land.ensures.notes)
