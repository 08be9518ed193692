-- The names and files that a line of a play names, and those that earlier lines named.
use Rattle.std.specs.Prelude.{ℕ, Bool, true, false, not, ◌&&◌, ◌||◌, nat_lt, List, length}
use Rattle.std.specs.List.{list_any}
use Rattle.std.specs.Str.{bytes_eq}
use Rattle.script_lang.specs.declared.play_line.PartForm.{PartForm}
use Rattle.script_lang.specs.declared.play_line.PartForm.TheVariants.{Source, Late, Sink}
use Rattle.script_lang.specs.declared.play_line.PartLine.{PartLine}
use Rattle.script_lang.specs.declared.play_form.PlayForm.{PlayForm}
use Rattle.script_lang.specs.declared.play_form.PlayForm.TheVariants.{Part, Link}

abbrev pub has_part : List PartLine → List ℕ → Bool
has_part parts name = list_any (λ part. bytes_eq part.name name) parts

-- the names that a link names are declared by earlier lines
abbrev pub is_declared : List PartLine → PlayForm → Bool
is_declared parts (Part name form) = true
is_declared parts (Link output input count size) = has_part parts output.component && has_part parts input.component

-- the line names this file as one that is read
abbrev pub reads_file : List ℕ → PartForm → Bool
reads_file file (Source name) = bytes_eq name file
reads_file file (Late name) = bytes_eq name file
reads_file file other = false

-- the line names this file as one that is written
abbrev pub writes_file : List ℕ → PartForm → Bool
writes_file file (Sink name) = bytes_eq name file
writes_file file other = false

-- the script or the log has this name
abbrev pub is_taken : List ℕ → List ℕ → List ℕ → Bool
is_taken script log file = bytes_eq file script || bytes_eq file log

-- A file that is read may not be one that is written; a file that is written may stand in no other line.
abbrev pub file_clashes : List ℕ → List ℕ → List PartLine → PartForm → Bool
file_clashes script log parts (Source file) = is_taken script log file || list_any (λ part. writes_file file part.form) parts
file_clashes script log parts (Late file) = is_taken script log file || list_any (λ part. writes_file file part.form) parts
file_clashes script log parts (Sink file) = is_taken script log file || list_any (λ part. writes_file file part.form || reads_file file part.form) parts
file_clashes script log parts other = false

-- neither the name that the line introduces nor its file clashes with an earlier line's
abbrev pub is_free : List ℕ → List ℕ → List PartLine → PlayForm → Bool
is_free script log parts (Part name form) = not (has_part parts name) && not (file_clashes script log parts form)
is_free script log parts (Link output input count size) = true

-- a play has 32 components at most
abbrev pub has_place : List PartLine → PlayForm → Bool
has_place parts (Part name form) = nat_lt (length parts) 32
has_place parts (Link output input count size) = true
