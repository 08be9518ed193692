-- The names of the files of a play's script.
use Rattle.std.specs.Prelude.{◌≡◌, ◌≢◌, ℕ, List}
use Rattle.script_lang.specs.declared.play_line.PartLine.{PartLine}
use Rattle.play_result_laws.specs.Files.{IsReader, IsWriter}

-- A file that is written is named by no other line, and is neither the script's nor the log's.
pub record HaveOwnFiles (script log : List ℕ) (parts : List PartLine) : Type 0 where
  pub sinks : (place other : ℕ) (name : List ℕ) → IsWriter parts place name → IsWriter parts other name → place ≡ other
  pub sources : (place other : ℕ) (name : List ℕ) → IsWriter parts place name → IsReader parts other name → ⊥
  pub script_other : (place : ℕ) (name : List ℕ) → IsWriter parts place name → name ≢ script
  pub log_other : (place : ℕ) (name : List ℕ) → IsWriter parts place name → name ≢ log
