use Rattle.std.proofs.Common.{◌∙◌, ◌++◌, drop, refl, subst, length, arith}
use Rattle.std.proofs.lemmas.List.{length-take}
use Rattle.outside_io.specs.Stops.{IsStopOf}
use Rattle.outside_io.proofs.Closed.{short-reason}
use Rattle.outside_io.proofs.Filled.{filled-whole}
use Rattle.outside_io.proofs.whole.read_rest.Goals as goal

pub returns-in-Ok-read_exact-clause-bytes : goal.returns-in-Ok-read_exact-clause-bytes
returns-in-Ok-read_exact-clause-bytes g c = λ x is.
    let whole = c.size-size.ensures.value ∙ c.size-size.ensures.told x is in
    filled-whole x c.read_exact.new.buf _ (g.S.Source.offset c.args.source.now) (length c.deref_mut.result.now) c.in-Ok.bytes.len (c.in-Ok-read_exact.ensures.bytes x is) c.requires c.deref_mut.ensures.len (c.in-Ok.ensures.len ∙ whole)

pub returns-in-Ok-read_exact-clause-given : goal.returns-in-Ok-read_exact-clause-given
returns-in-Ok-read_exact-clause-given g c = λ end is.
    omega (arith, length-take c.in-Ok.bytes.len (c.read_exact.new.buf ++ drop (length c.read_exact.new.buf) c.in-Ok.bytes.items), c.in-Ok-read_exact.ensures.reached end is, c.in-Ok-read_exact.ensures.offset, c.requires, c.deref_mut.ensures.len, c.in-Ok.ensures.len)

pub returns-clause-reason : goal.returns-clause-reason
returns-clause-reason g c =
    let short = subst (IsStopOf (g.S.Source.size c.args.source.now) (g.S.Source.ends c.args.source.now) (g.S.Source.offset c.args.source.now)) c.in-Short.is c.in-Err.ensures.short in
    short-reason _ _ _ _ _ _ _ _ refl refl c.requires c.size-size.ensures.told short
