-- What is made of a graph's components before its board.
use Rattle.std.specs.Prelude.{◌≡◌, ◌≤◌, length}
use Rattle.std.specs.Arc.{arc_value}
use Rattle.state_words.specs.Shown.{firsts}
use Rattle.state_words.specs.Tokens.{IsShowerOf, IsReaderOf, count, known, known_by}
use Rattle.board.specs.declared.looks.Looks.{Looks}

-- Both ends have the same words, one for each component, which show the states at first; and so do the shower and the reader know them.
pub record AreLooks (l : Looks) : Type 0 where
  pub few : length l.handles.items ≤ 32
  pub stated : length l.states.items ≡ length l.handles.items
  pub copied : l.copied.items ≡ l.handles.items
  pub same : arc_value l.words ≡ arc_value l.theirs
  pub count : count (arc_value l.words) ≡ length l.handles.items
  pub shower : IsShowerOf (arc_value l.theirs) l.shower
  pub shown : known_by l.shower ≡ firsts l.states.items
  pub reader : IsReaderOf (arc_value l.theirs) l.reader
  pub known : known l.reader ≡ firsts l.states.items
