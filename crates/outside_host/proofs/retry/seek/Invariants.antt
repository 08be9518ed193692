use Rattle.std.proofs.Common.{◌≡◌, IfSome, Some, ℕ}
use Rattle.std.specs.Io.KnownBytes.{Keeps}
use Rattle.outside_host.proofs.retry.seek.Given as goal

abbrev pub invariant-again : goal.invariant-again
invariant-again g l = record {
  bytes : Keeps (g.S.Seek.stream_bytes l.initial.file) (g.S.Seek.stream_bytes l.file);
  position : IfSome (g.S.Seek.stream_position l.initial.file) (λ (p : ℕ). g.S.Seek.stream_position l.file ≡ Some p);
}
