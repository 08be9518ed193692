-- The entries that a log names.
use Rattle.std.specs.Prelude.{◌≡◌, ◌≢◌, ℕ, List, [], ◌∷◌, All, None}
use Rattle.il_machine.specs.World.{Stream, World}
use Rattle.il_machine.specs.Acts.{Act}
use Rattle.il_machine.specs.Acts as acts
use Rattle.il_machine.specs.Run.{Meets, Step}
use Rattle.play_log.specs.Entries.{Entry}
use Rattle.play_log.specs.Lines.{LogLine, HasLines}
use Rattle.play_log.specs.Saying.{Says}
use Rattle.play_log.specs.Scenes.{Scene}

-- no step failed
abbrev pub IsUnbroken : Act → Type 0
IsUnbroken (acts.Finish done) = done.fault ≡ None
IsUnbroken other = Unit {0}

-- In the world the line names the entry. What it doesn't say follows from the world: a work that comes back is what a step without a fault
-- gives there, and the client object that goes back has the progress of all events that were given.
pub record Names (s : Scene) (w : World) (line : LogLine) (entry : Entry) : Type 0 where
  pub says : Says s line entry
  pub meets : Meets w entry.act
  pub unbroken : IsUnbroken entry.act

-- The lines name these entries, each in the world that the lines before it lead to. They lead from the first world to the last.
abbrev pub NameAll : Scene → World → List LogLine → List Entry → World → Type 0
NameAll s w [] [] v = v ≡ w
NameAll s w (line ∷ lines) (entry ∷ entries) v =
    Names s w line entry × ((next : World) × Step w entry.act entry.reply next × NameAll s next lines entries v)
NameAll s w _ _ v = ⊥

-- From the world on the text names these entries, which lead to the other world. A text that isn't one of lines and `end` names none, not
-- even the empty list.
pub record IsNaming (s : Scene) (w : World) (text : List ℕ) (entries : List Entry) (v : World) : Type 0 where
  pub lines : List LogLine
  pub has_lines : HasLines text lines
  pub name : NameAll s w lines entries v

-- each file tells its bytes
abbrev pub IsTelling : Stream → Type 0
IsTelling stream = stream.known ≢ None

abbrev pub AreTelling : World → Type 0
AreTelling w = All IsTelling w.streams
