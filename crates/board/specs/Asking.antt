-- A history of acts with readers, and the same without them.
use Rattle.std.specs.Prelude.{◌≡◌, List, [], ◌∷◌, map, Option, Some}
use Rattle.turnstile.specs.declared.entry.Entry.{Entry}
use Rattle.turnstile.specs.Entries.{entry}
use Rattle.il_machine.specs.Acts as acts
use Rattle.state_words.specs.declared.words.Reader.{Reader}
use Rattle.graph_acts.specs.declared.act.Act.{Act}
use Rattle.graph_acts.specs.declared.act.Reply.{Reply}
use Rattle.graph_acts.specs.Plain.{Sight, Unsaid, plain_act, plain_reply}
use Rattle.board.specs.declared.asked.Asked.{Asked}
use Rattle.board.specs.declared.asked.Told.{Told}

module _ {S K C : Type 0} where
  abbrev pub bare : Entry (Asked S K C) (Told S K C) → Entry (Act S K C) (Reply S K C)
  bare e = entry e.pass e.act.act e.reply.reply

  abbrev pub bare_log : List (Entry (Asked S K C) (Told S K C)) → List (Entry (Act S K C) (Reply S K C))
  bare_log log = map bare log

  -- the reader that came back last
  abbrev pub last_told : Option Reader → List (Entry (Asked S K C) (Told S K C)) → Option Reader
  last_told r [] = r
  last_told r (e ∷ es) = last_told (Some e.reply.reader) es

  -- the entry as the machine may have it, by some values of what it doesn't tell
  abbrev pub IsPlain : Sight S K C → Entry (Act S K C) (Reply S K C) → acts.Act × acts.Reply → Type 0
  IsPlain see e x = (u : Unsaid) × (x ≡ (plain_act see u e.act, plain_reply u e.reply))

  -- the history as the machine may have it, entry by entry
  abbrev pub ArePlain : Sight S K C → List (Entry (Act S K C) (Reply S K C)) → List (acts.Act × acts.Reply) → Type 0
  ArePlain see [] [] = Unit {0}
  ArePlain see [] (x ∷ xs) = ⊥
  ArePlain see (e ∷ log) [] = ⊥
  ArePlain see (e ∷ log) (x ∷ xs) = IsPlain see e x × ArePlain see log xs
