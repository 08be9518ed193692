use Rattle.clock_core.proofs.PaceLaws.{first_at-IsFirst, first_at-runs, first_at-le}
use Rattle.clock_core.proofs.pace.first_at.Goals as goal

pub returns-clause-moment : goal.returns-clause-moment
returns-clause-moment c =
    rw (c.div_ceil.ensures, c.from-scale.ensures) (first_at-runs c.args.pace c.args.media 9007199254740992 c.requires.slow.since c.requires.reached c.if-media-pace.false)

pub returns-clause-first : goal.returns-clause-first
returns-clause-first c =
    rw (returns-clause-moment c) (first_at-IsFirst c.args.pace c.args.media 9007199254740992 c.requires.slow.since c.requires.reached)

pub returns-clause-within : goal.returns-clause-within
returns-clause-within c =
    rw (returns-clause-moment c) (first_at-le c.args.pace c.args.media 9007199254740992 c.requires.slow.since c.requires.reached)
