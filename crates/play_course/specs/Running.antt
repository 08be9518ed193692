-- What a play does to its open files.
use Rattle.std.specs.Prelude.{◌≡◌, ℕ, ◌≤◌, List, length, slice_get, Option, Some, None}
use Rattle.std.specs.Io.KnownBytes.{append_known}
use Rattle.outside_io.specs.Causes.{Rose}
use Rattle.outside_io.specs.Stops.{GaveNothing}
use Rattle.play_course.specs.declared.player.RunFault.{RunFault}
use Rattle.play_course.specs.declared.player.RunFault.TheVariants as Faults
use Rattle.play_files.specs.Closing.{IsSinkAt, IsSourceAt}
use Rattle.play_files.specs.Seen.{FileSeen, Reads, SinkSeen, SourceSeen, Writes}

-- a source that was read further, or failed more often
pub record IsSameSource (first last : SourceSeen) : Type 0 where
  pub name : last.name ≡ first.name
  pub size : last.size ≡ first.size
  pub told : last.told ≡ first.told
  pub ends : last.ends ≡ first.ends
  pub faults : first.faults ≤ last.faults

-- a sink that was written further, or failed more often
pub record IsSameSink (first last : SinkSeen) : Type 0 where
  pub name : last.name ≡ first.name
  pub faults : first.faults ≤ last.faults

-- a source again, or the sink of the same name
abbrev pub IsSameFile : Option FileSeen → Option FileSeen → Type 0
IsSameFile (Some (Reads source format frames)) (Some (Reads last other count)) = IsSameSource source last
IsSameFile (Some (Writes sink frames)) (Some (Writes last count)) = IsSameSink sink last
IsSameFile None None = Unit {0}
IsSameFile before after = ⊥

-- Each file is at its place again.
pub record AreSameFiles (before after : List (Option FileSeen)) : Type 0 where
  pub many : length after ≡ length before
  pub each : (place : ℕ) (a b : Option FileSeen) → slice_get before place ≡ Some a → slice_get after place ≡ Some b → IsSameFile a b

-- the sink at the place took these bytes, behind those that it told before
pub record HasTaken (before after : List (Option FileSeen)) (place : ℕ) (bytes : List ℕ) : Type 0 where
  pub first : SinkSeen
  pub last : SinkSeen
  pub planned : ℕ
  pub count : ℕ
  pub was : slice_get before place ≡ Some (Some (Writes first planned))
  pub is : slice_get after place ≡ Some (Some (Writes last count))
  pub took : last.told ≡ append_known first.told bytes

-- why the run of a play failed: a file failed since it was given, or a source gave nothing
abbrev pub IsRunCause : List (Option FileSeen) → List (Option FileSeen) → RunFault → Type 0
IsRunCause before after Faults.OutOfMemory = Unit {0}
IsRunCause before after Faults.Read = (place : ℕ) × (first : SourceSeen) × (last : SourceSeen) × IsSourceAt before place first × IsSourceAt after place last × Rose first.faults last.faults
IsRunCause before after Faults.Write = (place : ℕ) × (first : SinkSeen) × (last : SinkSeen) × IsSinkAt before place first × IsSinkAt after place last × Rose first.faults last.faults
IsRunCause before after (Faults.Short place at size) = (source : SourceSeen) × IsSourceAt before place source × GaveNothing source.size source.ends source.offset at size
