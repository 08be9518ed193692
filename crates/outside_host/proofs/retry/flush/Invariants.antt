use Rattle.std.specs.Io.KnownBytes.{Keeps}
use Rattle.outside_host.proofs.retry.flush.Given as goal

abbrev pub invariant-again : goal.invariant-again
invariant-again g l = Keeps (g.W.Write.contents l.initial.writer) (g.W.Write.contents l.writer)
