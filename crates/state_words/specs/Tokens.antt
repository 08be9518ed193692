-- What a clause says of a shower and of readers.
use Rattle.std.specs.Prelude.{◌≡◌, ℕ, ◌+◌, ◌-◌, List, [], length, true, false}
use Rattle.state_words.specs.Shown.{States}
use Rattle.state_words.specs.declared.words.StateWords.{StateWords}
use Rattle.state_words.specs.declared.words.Shower.{Shower}
use Rattle.state_words.specs.declared.words.Reader.{Reader}

-- how many components have a word: the table has one more, which is never shown
abbrev pub count : StateWords → ℕ
count t = t.table.shared.table_id.words - 1

abbrev pub known : Reader → List States
known r = r.seat.me.0.seen

abbrev pub known_by : Shower → List States
known_by r = r.seat.me.0.seen

abbrev pub IsReaderOf : StateWords → Reader → Type 0
IsReaderOf t r = (r.seat.table_id ≡ t.table.shared.table_id) × (r.seat.me.1 ≡ []) × (r.seat.me.0.also ≡ []) × (r.seat.me.0.shows ≡ false) × (r.seat.me.0.spent ≡ false) × (length r.seat.me.0.seen + 1 ≡ t.table.shared.table_id.words)

abbrev pub IsShowerOf : StateWords → Shower → Type 0
IsShowerOf t r = (r.seat.table_id ≡ t.table.shared.table_id) × (r.seat.me.1 ≡ []) × (r.seat.me.0.also ≡ []) × (r.seat.me.0.shows ≡ true) × (r.seat.me.0.spent ≡ false) × (length r.seat.me.0.seen + 1 ≡ t.table.shared.table_id.words)
