use Rattle.std.proofs.Common.{◌++◌, List, length, drop, sym, ap, subst, ◌∙◌, arith}
use Rattle.clock_core.specs.Clock.{State, requests_after}
use Rattle.clock_core.specs.Due.{due_until, left_after}
use Rattle.clock_core.specs.Kept.{IsKept}
use Rattle.clock_core.specs.declared.act.Fulfilled.{Fulfilled}
use Rattle.clock_core.proofs.Accepting.{accepted-kept, accepted-later, accepted-act, act-room, act-ordered, act-few, length-until, state_after-is, final-is, final-notes, final-notes_are}
use Rattle.clock_core.proofs.Ordering.{AreInOrder-filter, length-filter_le}
use Rattle.clock_core.proofs.Passing.{at_moment}
use Rattle.clock_core.proofs.clock.Clock.accept.Goals as goal

pub change-requires : goal.change-requires
change-requires c =
    let state : State = at_moment c.self.inside.wall c.self.inside.scale c.self.inside.motion c.self.inside.requests.items in
    let accepted = rw (← c.self.view_is) at c.requires.accepted in
    rw c.fulfil_until-passed.ensures.left
    (act-room c.self.inside.motion c.self.inside.requests.items _ c.args.act (accepted-act state c.args.wall c.args.act accepted) (length-filter_le _ c.self.inside.requests.items))

pub fulfil_until-requires-clause-ordered : goal.fulfil_until-requires-clause-ordered
fulfil_until-requires-clause-ordered c =
    rw (c.change.ensures, c.fulfil_until-passed.ensures.left)
    (act-ordered c.args.act _ (AreInOrder-filter _ c.self.inside.requests.items c.self.invariant.ordered))

pub fulfil_until-requires-clause-room : goal.fulfil_until-requires-clause-room
fulfil_until-requires-clause-room c =
    let state : State = at_moment c.self.inside.wall c.self.inside.scale c.self.inside.motion c.self.inside.requests.items in
    let accepted = rw (← c.self.view_is) at c.requires.accepted in
    let few = act-few c.self.inside.motion c.self.inside.requests.items (left_after c.pace_of-passing.result c.args.wall c.self.inside.requests.items) (length (due_until c.pace_of-passing.result c.args.wall c.self.inside.requests.items)) c.args.act
    (accepted-act state c.args.wall c.args.act accepted) c.self.invariant.few (length-until c.pace_of-passing.result c.args.wall c.self.inside.requests.items) in
    let changed = ap length (c.change.ensures ∙ ap (requests_after c.args.act) c.fulfil_until-passed.ensures.left) in
    omega (arith, few, changed, c.fulfil_until-passed.ensures.count)

pub invariant_of-self : goal.invariant_of-self
invariant_of-self c =
    let state : State = at_moment c.self.inside.wall c.self.inside.scale c.self.inside.motion c.self.inside.requests.items in
    let accepted = rw (← c.self.view_is) at c.requires.accepted in
    let final = final-is state c.args.wall c.args.act c.pace_of-passing.result c.pace_of-pace.result c.fulfil_until-passed.new.requests.items c.change.new.requests.items c.fulfil_until.new.requests.items c.motion_after-self-inside.result c.scale_after-self-inside.result
    c.pace_of-passing.ensures c.fulfil_until-passed.ensures.left c.motion_after-self-inside.ensures c.scale_after-self-inside.ensures c.change.ensures c.pace_of-pace.ensures c.fulfil_until.ensures.left in
    subst IsKept (sym final) (accepted-kept state c.args.wall c.args.act c.self.invariant c.requires.wall c.requires.media accepted)

pub returns-clause-state : goal.returns-clause-state
returns-clause-state c =
    let state : State = at_moment c.self.inside.wall c.self.inside.scale c.self.inside.motion c.self.inside.requests.items in
    let accepted = rw (← c.self.view_is) at c.requires.accepted in
    let final = final-is state c.args.wall c.args.act c.pace_of-passing.result c.pace_of-pace.result c.fulfil_until-passed.new.requests.items c.change.new.requests.items c.fulfil_until.new.requests.items c.motion_after-self-inside.result c.scale_after-self-inside.result
    c.pace_of-passing.ensures c.fulfil_until-passed.ensures.left c.motion_after-self-inside.ensures c.scale_after-self-inside.ensures c.change.ensures c.pace_of-pace.ensures c.fulfil_until.ensures.left in
    rw (← c.self.view_is) (final ∙ sym (state_after-is state c.args.wall c.args.act c.self.invariant (accepted-later state c.args.wall c.args.act accepted)))

pub returns-clause-answer : goal.returns-clause-answer
returns-clause-answer c =
    let state : State = at_moment c.self.inside.wall c.self.inside.scale c.self.inside.motion c.self.inside.requests.items in
    let accepted = rw (← c.self.view_is) at c.requires.accepted in
    let notes = final-notes c.pace_of-passing.result c.pace_of-pace.result c.self.inside.wall c.args.wall c.self.inside.requests.items c.change.new.requests.items c.args.out.now c.fulfil_until-passed.new.out c.fulfil_until.new.out c.fulfil_until-passed.result c.fulfil_until.result
    c.fulfil_until-passed.ensures.count c.fulfil_until-passed.ensures.notes c.fulfil_until-passed.ensures.behind c.fulfil_until.ensures.count c.fulfil_until.ensures.notes c.fulfil_until.ensures.behind in
    let are = final-notes_are state c.args.wall c.args.act c.pace_of-passing.result c.pace_of-pace.result c.fulfil_until-passed.new.requests.items c.change.new.requests.items c.motion_after-self-inside.result c.scale_after-self-inside.result
    c.self.invariant (accepted-later state c.args.wall c.args.act accepted) c.requires.media
    c.pace_of-passing.ensures c.fulfil_until-passed.ensures.left c.motion_after-self-inside.ensures c.scale_after-self-inside.ensures c.change.ensures c.pace_of-pace.ensures in
    rw (← c.self.view_is) (notes.0 ∙ ap length are)

pub returns-clause-notes : goal.returns-clause-notes
returns-clause-notes c =
    let state : State = at_moment c.self.inside.wall c.self.inside.scale c.self.inside.motion c.self.inside.requests.items in
    let accepted = rw (← c.self.view_is) at c.requires.accepted in
    let notes = final-notes c.pace_of-passing.result c.pace_of-pace.result c.self.inside.wall c.args.wall c.self.inside.requests.items c.change.new.requests.items c.args.out.now c.fulfil_until-passed.new.out c.fulfil_until.new.out c.fulfil_until-passed.result c.fulfil_until.result
    c.fulfil_until-passed.ensures.count c.fulfil_until-passed.ensures.notes c.fulfil_until-passed.ensures.behind c.fulfil_until.ensures.count c.fulfil_until.ensures.notes c.fulfil_until.ensures.behind in
    let are = final-notes_are state c.args.wall c.args.act c.pace_of-passing.result c.pace_of-pace.result c.fulfil_until-passed.new.requests.items c.change.new.requests.items c.motion_after-self-inside.result c.scale_after-self-inside.result
    c.self.invariant (accepted-later state c.args.wall c.args.act accepted) c.requires.media
    c.pace_of-passing.ensures c.fulfil_until-passed.ensures.left c.motion_after-self-inside.ensures c.scale_after-self-inside.ensures c.change.ensures c.pace_of-pace.ensures in
    rw (← c.self.view_is) (notes.1 ∙ ap (λ (xs : List Fulfilled). xs ++ drop (length xs) c.args.out.now) are)
