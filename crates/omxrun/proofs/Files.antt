-- The told files are those from before the script was read.
use Rattle.std.proofs.Common.{◌≡◌, ℕ, List, Option, sym, ◌∙◌, ap}
use Rattle.outside_io.specs.Files.{Outside}
use Rattle.script_lang.specs.declared.play_line.PartLine.{PartLine}
use Rattle.play_plan_laws.specs.Assemblies.{PlayFiles}
use Rattle.play_result_laws.specs.Files.{AreFiles, IsReadAs, IsReader}

read-kept : (old mid : Outside) (place number : ℕ) (name : List ℕ) (files : PlayFiles) (samples : List (List ℕ)) → mid.file name ≡ old.file name → IsReadAs mid place number name files samples → IsReadAs old place number name files samples
read-kept old mid place number name files samples same R = record {
  bytes = R.bytes;
  head = R.head;
  held = sym same ∙ R.held;
  reads = R.reads;
  head_is = R.head_is;
  samples_are = R.samples_are;
  there = R.there;
  known = R.known;
}

-- where each source's file is
pub files-kept : (old mid : Outside) (parts : List PartLine) (files : PlayFiles) (samples : List (List ℕ)) → ((place : ℕ) (name : List ℕ) → IsReader parts place name → mid.file name ≡ old.file name) → AreFiles mid parts files samples → AreFiles old parts files samples
files-kept old mid parts files samples same A = record {
  many = A.many;
  all = A.all;
  sources = λ place name reader. read-kept old mid place _ name files samples (same place name reader) (A.sources place name reader);
  sinks = A.sinks;
}

pub files-before : (old mid : Outside) (parts : List PartLine) (files : PlayFiles) (samples : List (List ℕ)) → mid.file ≡ old.file → AreFiles mid parts files samples → AreFiles old parts files samples
files-before old mid parts files samples same A = files-kept old mid parts files samples (λ place name reader. ap (λ (f : List ℕ → Option (List ℕ)). f name) same) A
