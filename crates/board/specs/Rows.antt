-- Acts that a pass makes in a row, with no other call between, and what it holds after them.
use Rattle.std.specs.Prelude.{◌≡◌, ◌<◌, ℕ, Bool, All, List, [], ◌∷◌, ◌++◌, length, map}
use Rattle.std.specs.VecDeque.{deque_capacity}
use Rattle.turnstile.specs.declared.entry.Entry.{Entry}
use Rattle.turnstile.specs.declared.view.View.{View}
use Rattle.turnstile.specs.Entries.{Begins, entry}
use Rattle.turnstile.specs.Rows.{InRow}
use Rattle.state_words.specs.Tokens.{IsReaderOf}
use Rattle.graph_acts.specs.declared.act.Act.{Act}
use Rattle.graph_acts.specs.declared.act.Reply.{Reply}
use Rattle.graph_acts.specs.Plain.{Sight}
use Rattle.graph_acts.specs.Replying.{IsReplyTo}
use Rattle.graph_acts.specs.Holding.{headers_held, clients_held, works_held}
use Rattle.board.specs.declared.asked.Asked.{Asked}
use Rattle.board.specs.declared.asked.Told.{Told}
use Rattle.board.specs.declared.watched.Watched.{Watched}
use Rattle.board.specs.declared.boards.Board.{Board}
use Rattle.board.specs.declared.row.ActRow.{ActRow}
use Rattle.board.specs.Asking.{bare_log}
use Rattle.board.specs.Histories.{Legal, MayAsk, words_of}
use Rattle.board.specs.Boards.{first_of, headers_after, clients_after, works_after}

-- the entries of the acts and their replies, by the pass
abbrev pub entries_of : {A R : Type 0} → ℕ → List A → List R → List (Entry A R)
entries_of p [] rs = []
entries_of p (a ∷ acts) [] = []
entries_of p (a ∷ acts) (r ∷ rs) = entry p a r ∷ entries_of p acts rs

module _ {S K C : Type 0} where
  abbrev pub acts_of : List (Asked S K C) → List (Act S K C)
  acts_of asked = map (λ a. a.act) asked

  abbrev pub replies_of : List (Told S K C) → List (Reply S K C)
  replies_of told = map (λ t. t.reply) told

  -- the acts of the row that are to be made, the replies that came, and how many acts it has room for
  abbrev pub acts : ActRow S K C → List (Act S K C)
  acts r = acts_of r.lists.asked.items

  abbrev pub replies : ActRow S K C → List (Reply S K C)
  replies r = replies_of r.lists.told.items

  abbrev pub room_of : ActRow S K C → ℕ
  room_of r = deque_capacity r.lists.asked

  -- the place of the first of the replies
  abbrev pub place_of : ActRow S K C → ℕ
  place_of r = r.lists.place

  -- the acts of the row are asked of the board
  abbrev pub IsRowOf : Board S K C → ActRow S K C → Type 0
  IsRowOf b r = All (λ a. IsReaderOf (words_of (first_of b)) a.reader) r.lists.asked.items

  -- each reply is of its act's kind, and there are as many
  abbrev pub AreRepliesTo : List (Act S K C) → List (Reply S K C) → Type 0
  AreRepliesTo [] [] = Unit {0}
  AreRepliesTo [] (r ∷ rs) = ⊥
  AreRepliesTo (a ∷ asked) [] = ⊥
  AreRepliesTo (a ∷ asked) (r ∷ rs) = IsReplyTo a r × AreRepliesTo asked rs

  -- what is held after the acts and their replies, one after another
  abbrev pub after_all : {H : Type 0} → (Act S K C → Reply S K C → H → H) → List (Act S K C) → List (Reply S K C) → H → H
  after_all after [] rs held = held
  after_all after (a ∷ asked) [] held = held
  after_all after (a ∷ asked) (r ∷ rs) held = after_all after asked rs (after a r held)

  -- The turnstile's `InRow` of the acts and their replies, whichever readers went with them: each was called in a turn of its own, and
  -- their places follow each other.
  pub record AreCalled (see : Sight S K C) (headers : Bool) (first : Watched S K C) (v : View (Watched S K C) (Asked S K C) (Told S K C)) (acts : List (Act S K C)) (place : ℕ) (replies : List (Reply S K C)) (w : View (Watched S K C) (Asked S K C) (Told S K C)) : Type 0 where
    pub asked : List (Asked S K C)
    pub told : List (Told S K C)
    pub are_acts : acts_of asked ≡ acts
    pub are_replies : replies_of told ≡ replies
    pub row : InRow (Legal see) (MayAsk see headers) first place v asked told w

  -- The calls stand together in the history that the pass has then seen, at its end and behind all that it had seen.
  pub record StandTogether (v : View (Watched S K C) (Asked S K C) (Told S K C)) (acts : List (Act S K C)) (place : ℕ) (replies : List (Reply S K C)) (w : View (Watched S K C) (Asked S K C) (Told S K C)) : Type 0 where
    pub before : List (Entry (Act S K C) (Reply S K C))
    pub at_place : place ≡ length before
    pub earlier : Begins (bare_log v.seen) before
    pub seen : bare_log w.seen ≡ before ++ entries_of v.number acts replies

  -- those at the front of the list were called in a row, and the others are left
  pub record FrontIsCalled (see : Sight S K C) (with_headers : Bool) (first : Watched S K C) (v : View (Watched S K C) (Asked S K C) (Told S K C)) (acts : List (Act S K C)) (place : ℕ) (replies : List (Reply S K C)) (left : List (Act S K C)) (w : View (Watched S K C) (Asked S K C) (Told S K C)) : Type 0 where
    pub made : List (Act S K C)
    pub front : acts ≡ made ++ left
    pub called : AreCalled see with_headers first v made place replies w
    pub replied : AreRepliesTo made replies
    pub headers : headers_held (bare_log w.mine) ≡ after_all headers_after made replies (headers_held (bare_log v.mine))
    pub clients : clients_held see.progress (bare_log w.mine) ≡ after_all (clients_after see.progress) made replies (clients_held see.progress (bare_log v.mine))
    pub works : works_held (bare_log w.mine) ≡ after_all works_after made replies (works_held (bare_log v.mine))
    pub together : 0 < length made → StandTogether v made place replies w
