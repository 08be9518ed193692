use Rattle.std.proofs.Common.{◌<◌, length, arith}
use Rattle.std.proofs.lemmas.Option.{slice_get-get_or, slice_get_within}
use Rattle.audit_acts.proofs.players.player_of.Goals as goal

pub bounds-handles-place : goal.bounds-handles-place
bounds-handles-place c =
    let x = c.in-Some.ensures.some in
    let within : c.in-Some.place < length c.args.parts.now = slice_get_within c.args.parts.now c.in-Some.place x.0 x.1 in
    omega (arith, c.requires)

pub returns-clause-some : goal.returns-clause-some
returns-clause-some c =
    let x = c.in-Some.ensures.some in
    let within : c.in-Some.place < length c.args.parts.now = slice_get_within c.args.parts.now c.in-Some.place x.0 x.1 in
    let handled : c.in-Some.place < length c.args.handles.now = omega (arith, c.requires) in
    (x.0, record { line = x.1; named = x.2; handle = slice_get-get_or c.args.handles.now c.in-Some.place _ handled })

pub returns-in_default-clause-none : goal.returns-in_default-clause-none
returns-in_default-clause-none c = λ place part h P. c.in_default.ensures.none place part P.line P.named
