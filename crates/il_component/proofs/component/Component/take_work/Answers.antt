use Rattle.std.proofs.Common.{◌+◌, ◌≤◌, None, arith}
use Rattle.il_machine.specs.Room.{used, work_reserve}
use Rattle.il_component.specs.Entries.{component_of}
use Rattle.il_component.proofs.Fit.{roomy, used-fit, used-workless}
use Rattle.il_component.proofs.component.Component.take_work.Goals as goal

pub put_work-requires : goal.put_work-requires
put_work-requires g c =
    rw (← c.self.view_is) (let less = used-workless _ c.self.invariant.0 in let used = used-fit _ c.self.invariant.0 in let within = c.room-room.ensures.within.room in omega (arith, less, used, within))

pub returns-clause-room : goal.returns-clause-room
returns-clause-room g c =
    let k = component_of c.args.self.now in
    let left : used (record k { work = None }) + work_reserve c.args.self.now.work ≤ 256 = rw (← c.self.view_is) (let less = used-workless _ c.self.invariant.0 in let used = used-fit _ c.self.invariant.0 in let within = c.room-room.ensures.within.room in omega (arith, less, used, within)) in
    roomy (component_of c.put_work.new.self) (record k { work = None }) (work_reserve c.args.self.now.work) c.put_work.ensures.component left
