use Rattle.il_component.proofs.Running.{a_look, gives_it}
use Rattle.il_component.proofs.component.Component.carry_out.Goals as goal

pub begin_or_tell-requires : goal.begin_or_tell-requires
begin_or_tell-requires g c = λ l e. let u = c.requires l e in rw c.in-StateSet.is at u

pub change_ports-requires : goal.change_ports-requires
change_ports-requires g c = let u = c.requires (a_look c.args.free c.args.waits) (gives_it c.args.free c.args.waits) in rw c.in-Flush.is at u

pub change_ports-requires-in-PortDisable : goal.change_ports-requires-in-PortDisable
change_ports-requires-in-PortDisable g c = let u = c.requires (a_look c.args.free c.args.waits) (gives_it c.args.free c.args.waits) in rw c.in-PortDisable.is at u

pub change_ports-requires-in-PortEnable : goal.change_ports-requires-in-PortEnable
change_ports-requires-in-PortEnable g c = let u = c.requires (a_look c.args.free c.args.waits) (gives_it c.args.free c.args.waits) in rw c.in-PortEnable.is at u

pub change_ports-requires-in-MarkBuffer : goal.change_ports-requires-in-MarkBuffer
change_ports-requires-in-MarkBuffer g c = let u = c.requires (a_look c.args.free c.args.waits) (gives_it c.args.free c.args.waits) in rw c.in-MarkBuffer.is at u

pub returns-in-StateSet-clause-component : goal.returns-in-StateSet-clause-component
returns-in-StateSet-clause-component g c = λ l e. rw c.in-StateSet.is (c.begin_or_tell.ensures.component l e)
