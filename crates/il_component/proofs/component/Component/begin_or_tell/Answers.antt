use Rattle.std.proofs.Common.{◌≤◌, Some, None, sym, ◌∙◌, subst}
use Rattle.il_machine.specs.Room.{used}
use Rattle.il_machine.specs.Commands.{state_fault}
use Rattle.il_component.specs.Entries.{component_of}
use Rattle.il_component.proofs.Running.{a_look, gives_it, room_to_tell, begun_with}
use Rattle.il_component.proofs.component.Component.begin_or_tell.Goals as goal

pub queue_event-requires : goal.queue_event-requires
queue_event-requires g c =
    let k = component_of c.args.self.now in
    room_to_tell (state_fault (a_look c.args.free c.args.waits) k c.args.target) c.in-Some.error c.args.target k (sym (c.state_fault.ensures (a_look c.args.free c.args.waits) (gives_it c.args.free c.args.waits)) ∙ c.in-Some.is) (c.requires (a_look c.args.free c.args.waits) (gives_it c.args.free c.args.waits))

pub begin-requires : goal.begin-requires
begin-requires g c =
    let k = component_of c.args.self.now in
    subst (λ d. used d ≤ 256) (begun_with (state_fault (a_look c.args.free c.args.waits) k c.args.target) None c.args.target k (sym (c.state_fault.ensures (a_look c.args.free c.args.waits) (gives_it c.args.free c.args.waits)) ∙ c.in-None.is)) (c.requires (a_look c.args.free c.args.waits) (gives_it c.args.free c.args.waits))

pub returns-in-Some-clause-component : goal.returns-in-Some-clause-component
returns-in-Some-clause-component g c = λ l e.
    let k = component_of c.args.self.now in
    c.queue_event.ensures.told ∙ sym (begun_with (state_fault l k c.args.target) (Some c.in-Some.error) c.args.target k (sym (c.state_fault.ensures l e) ∙ c.in-Some.is))

pub returns-in-None-clause-component : goal.returns-in-None-clause-component
returns-in-None-clause-component g c = λ l e.
    let k = component_of c.args.self.now in
    c.begin.ensures.component ∙ sym (begun_with (state_fault l k c.args.target) None c.args.target k (sym (c.state_fault.ensures l e) ∙ c.in-None.is))
