-- While a client object is with a pass, no note of its component is given.
use Rattle.std.specs.Prelude.{◌≡◌, ℕ, List, [], ◌∷◌, ◌++◌, Ok}
use Rattle.note_queues.specs.declared.taken.Took.TheVariants as tooks
use Rattle.turnstile.specs.declared.entry.Entry.{Entry}
use Rattle.turnstile.specs.Entries.{own}
use Rattle.held_things.specs.Held.{Has}
use Rattle.graph_acts.specs.declared.act.Act.{Act}
use Rattle.graph_acts.specs.declared.act.Act.TheVariants as asks
use Rattle.graph_acts.specs.declared.act.Reply.{Reply}
use Rattle.graph_acts.specs.declared.act.Reply.TheVariants as replies
use Rattle.graph_acts.specs.Holding.{OutClient, clients_held}
use Rattle.graph_acts.specs.Plain.{Sight}

module _ {S K C : Type 0} (see : Sight S K C) where
  -- the act is answered Busy where it takes a note of a component whose client object some pass holds, by the entries before it
  abbrev pub IsBusyWhereOut : List (Entry (Act S K C) (Reply S K C)) → Act S K C → Reply S K C → Type 0
  IsBusyWhereOut log (asks.TakeNote h) reply = (p : ℕ) (x : OutClient) → Has (clients_held see.progress (own p log)) x → x.handle ≡ h → reply ≡ replies.TakeNote (Ok tooks.Busy)
  IsBusyWhereOut log _ reply = Unit {0}

  -- so is each entry
  pub data AreBusyWhereOut : List (Entry (Act S K C) (Reply S K C)) → Type 0 where
    none : AreBusyWhereOut []
    next : (log : List (Entry (Act S K C) (Reply S K C))) (e : Entry (Act S K C) (Reply S K C)) → AreBusyWhereOut log → IsBusyWhereOut log e.act e.reply → AreBusyWhereOut (log ++ e ∷ [])
