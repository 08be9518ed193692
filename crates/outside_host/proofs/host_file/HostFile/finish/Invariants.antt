use Rattle.std.proofs.Common.{◌≡◌}
use Rattle.std.specs.Io.Buffered.{writer_contents}
use Rattle.std.specs.Io.KnownBytes.{Keeps}
use Rattle.outside_host.proofs.host_file.HostFile.finish.Given as goal

abbrev pub invariant-again : goal.invariant-again
invariant-again g l = record {
  kept : Keeps (writer_contents g.F.Write.contents l.initial.self.file) (writer_contents g.F.Write.contents l.self.file);
  faults : l.self.faults ≡ l.initial.self.faults;
}
