-- What each call keeps of a source and of a sink.
use Rattle.std.specs.Prelude.{◌≡◌, ◌≤◌}
use Rattle.outside_io.specs.declared.sink.Sink.{Ghosts as SinkGhosts}
use Rattle.outside_io.specs.declared.source.Source.{Ghosts as SourceGhosts}

-- a source tells what it told and has the name and the size that it had, and its count of faults doesn't fall
pub record KeepsSource {S : Type 0} (g : SourceGhosts S) (old new : S) : Type 0 where
  pub name : g.name new ≡ g.name old
  pub told : g.told new ≡ g.told old
  pub ends : g.ends new ≡ g.ends old
  pub size : g.size new ≡ g.size old
  pub later : g.faults old ≤ g.faults new

-- a sink has the name that it had, and its count of faults doesn't fall
pub record KeepsSink {K : Type 0} (g : SinkGhosts K) (old new : K) : Type 0 where
  pub name : g.name new ≡ g.name old
  pub later : g.faults old ≤ g.faults new
