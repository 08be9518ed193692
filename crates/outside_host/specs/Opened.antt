-- The files that a media has opened.
use Rattle.std.specs.Prelude.{◌==◌, List, Bool, ◌&&◌, IsTrue}
use Rattle.std.specs.List.{list_any}
use Rattle.outside_host.specs.declared.opened_files.FileId.{FileId}

-- whether they are one file
abbrev pub same_file : FileId → FileId → Bool
same_file a b = (a.device == b.device) && (a.inode == b.inode)

-- whether a file is one of these
abbrev pub has_file : FileId → List FileId → Bool
has_file id ids = list_any (λ (opened : FileId). same_file opened id) ids

-- each file that was opened stays so
abbrev pub StayOpened : List FileId → List FileId → Type 0
StayOpened old new = (id : FileId) → IsTrue (has_file id old) → IsTrue (has_file id new)
