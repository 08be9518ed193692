use Rattle.clock_core.proofs.NextMoment.{next-says}
use Rattle.clock_core.proofs.clock.Clock.next_wall.Goals as goal

pub returns-clause-next : goal.returns-clause-next
returns-clause-next c =
    rw (c.front_moment.ensures, c.as_slice.ensures.value, c.pace_of.ensures, ← c.self.view_is)
    (next-says c.self.inside.motion c.self.inside.wall c.self.inside.scale c.self.inside.requests.items c.self.invariant).next

pub returns-clause-within : goal.returns-clause-within
returns-clause-within c =
    rw (c.front_moment.ensures, c.as_slice.ensures.value, c.pace_of.ensures)
    (next-says c.self.inside.motion c.self.inside.wall c.self.inside.scale c.self.inside.requests.items c.self.invariant).within

pub returns-clause-none : goal.returns-clause-none
returns-clause-none c =
    rw (c.front_moment.ensures, c.as_slice.ensures.value, c.pace_of.ensures, ← c.self.view_is)
    (next-says c.self.inside.motion c.self.inside.wall c.self.inside.scale c.self.inside.requests.items c.self.invariant).none
