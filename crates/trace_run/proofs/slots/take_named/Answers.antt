use Rattle.std.proofs.Common.{Some, None}
use Rattle.trace_run.proofs.Handed.{at_list, taken_out, none_taken, none_named}
use Rattle.trace_run.proofs.slots.take_named.Goals as goal

pub returns-in_default-clause-none : goal.returns-in_default-clause-none
returns-in_default-clause-none c =
    let slots = c.args.slots.now.items in
    none_named slots c.args.name.now (at_list slots c.as_slice.result.now c.args.name.now None c.as_slice.ensures.value c.in_default.ensures.place)

pub returns-in-Some-take_hand-clause-taken : goal.returns-in-Some-take_hand-clause-taken
returns-in-Some-take_hand-clause-taken c =
    let slots = c.args.slots.now.items in
    let place = c.in-Some.place in
    let first = at_list slots c.as_slice.result.now c.args.name.now (Some place) c.as_slice.ensures.value c.in-Some.ensures.place in
    taken_out slots c.args.name.now place c.take_hand.result (Some c.in-Some-take_hand.header) c.take_hand.new.slots.items first c.take_hand.ensures.hand c.in-Some-take_hand.is c.take_hand.ensures.slots

pub returns-in-None : goal.returns-in-None
returns-in-None c =
    let slots = c.args.slots.now.items in
    let place = c.in-Some.place in
    let first = at_list slots c.as_slice.result.now c.args.name.now (Some place) c.as_slice.ensures.value c.in-Some.ensures.place in
    let without = c.take_hand.new.slots.items in
    let none = none_taken slots c.args.name.now place without (taken_out slots c.args.name.now place c.take_hand.result None without first c.take_hand.ensures.hand c.in-None.is c.take_hand.ensures.slots) in
    record { taken = tt; within = tt; none = none.0; unchanged = none.1 }
