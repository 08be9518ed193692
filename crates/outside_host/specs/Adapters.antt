-- What the adapters stand over.
use Rattle.std.specs.Prelude.{◌≡◌, ℕ, List, [], Option, None, true, false}
use Rattle.std.specs.declared.alloc.Global.{Global}
use Rattle.std.specs.declared.io.buffered.BufReader.{BufReader}
use Rattle.std.specs.declared.io.buffered.BufWriter.{BufWriter}
use Rattle.outside_io.specs.Files.{Outside}
use Rattle.outside_io.specs.declared.writing.Writing.{Writing}
use Rattle.outside_host.specs.declared.host_file.HostFile.{HostFile}
use Rattle.outside_host.specs.declared.host_media.HostMedia.{HostMedia}
use Rattle.outside_host.specs.declared.host_sink.HostSink.{HostSink}
use Rattle.outside_host.specs.declared.host_source.HostSource.{HostSource}
use Rattle.outside_host.specs.declared.opened_files.FileId.{FileId}

abbrev pub source_reader : {F : Type 0} → HostSource F → BufReader F Global
source_reader s = s.file

abbrev pub file_writer : {F : Type 0} → HostFile F → BufWriter F Global
file_writer s = s.file

abbrev pub sink_writer : {W : Type 0} → HostSink W → W
sink_writer s = s.writer

-- the bytes and the name that no adapter tells
abbrev pub untold : Option (List ℕ)
untold = None

abbrev pub unnamed : List ℕ
unnamed = []

-- the offset from which on a source gives nothing, which no adapter tells
abbrev pub endless : Option ℕ
endless = None

-- how the writes to a file went, which no file tells
abbrev pub unwatched : Option Writing
unwatched = None

-- how the prints went
abbrev pub prints_of : {W : Type 0} → HostSink W → Writing
prints_of s = s.printing

-- no call on a sink failed
abbrev pub HasNoFault : {W : Type 0} → HostSink W → Type 0
HasNoFault s = s.faults ≡ 0

-- no call on a media failed
pub record HasNoCount {R : Type 0} (m : HostMedia R) : Type 0 where
  pub read_faults : m.read_faults ≡ 0
  pub write_faults : m.write_faults ≡ 0
  pub absences : m.absences ≡ 0

-- the files that a media has opened
abbrev pub opened_of : {R : Type 0} → HostMedia R → List FileId
opened_of m = m.opened.ids.items

-- how far a source was asked for bytes, which no adapter tells
abbrev pub unasked : Option ℕ
unasked = None

-- what a media of the host tells: nothing but its counts
abbrev pub host_outside : {R : Type 0} → HostMedia R → Outside
host_outside m = record {
  tells = false;
  file = λ _. None;
  ends = λ _. None;
  may_refuse = λ _. true;
  read_faults = m.read_faults;
  write_faults = m.write_faults;
  absences = m.absences;
  openings = None;
  failed_reads = None;
  failed_writes = None;
}
